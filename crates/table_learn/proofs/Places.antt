-- Whether found states distinguish the sequence of an open number: the code's answer is that of the definition.
use Rattle.std.proofs.Common.{◌≡◌, ℕ, Bool, false, List, Option, Some, None, map, refl, sym, ◌∙◌, ap}
use Rattle.std.specs.List.{list_any}
use Rattle.thumb_instr.specs.declared.instr.Instr.{Instr}
use Rattle.window_exec.specs.declared.state.WState.{WState}
use Rattle.window_exec.specs.State.{seen}
use Rattle.rule_table.specs.Table.{Rule}
use Rattle.table_audit.specs.Shorter.{below_at}
use Rattle.table_learn.specs.Tellings.{told, tells_apart}
use Rattle.table_learn.specs.Learnt.{Settings}
use Rattle.table_learn.specs.Fitness.{tells_number}
use Rattle.table_learn.proofs.Asking.{told_seen}

tells_there : (s : Settings) (found : List WState) (left right : List Instr) (number : ℕ) (there : Option (List Instr)) (r : Bool) (e : Rule) → there ≡ below_at s left right number → r ≡ tells_number (map seen found) e there → e.left ≡ left → e.right ≡ right
    → r ≡ tells_number (map seen found) e (below_at s e.left e.right number)
tells_there s found left right number there r e h t l m =
    t ∙ ap (tells_number (map seen found) e) (h ∙ ap (λ (is : List Instr). below_at s is right number) (sym l) ∙ ap (λ (is : List Instr). below_at s e.left is number) (sym m))

pub open_told : (s : Settings) (found : List WState) (left right : List Instr) (mask number : ℕ) (seq : List Instr) (r : Bool) (e : Rule) → Some seq ≡ below_at s left right number → r ≡ list_any (λ s. tells_apart left seq mask (seen s)) found
    → e.left ≡ left → e.mask ≡ mask → e.right ≡ right → r ≡ tells_number (map seen found) e (below_at s e.left e.right number)
open_told s found left right mask number seq r e here t l m k =
    tells_there s found left right number (Some seq) r e here (t ∙ sym (told_seen found left seq mask) ∙ ap (λ j. told (map seen found) left seq j) (sym m) ∙ ap (λ (is : List Instr). told (map seen found) is seq e.mask) (sym l)) l k

pub open_missing : (s : Settings) (found : List WState) (left right : List Instr) (number : ℕ) (e : Rule) → None ≡ below_at s left right number → e.left ≡ left → e.right ≡ right → false ≡ tells_number (map seen found) e (below_at s e.left e.right number)
open_missing s found left right number e none l k = tells_there s found left right number None false e none refl l k
