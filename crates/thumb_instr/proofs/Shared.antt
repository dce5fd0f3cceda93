-- Lemmas about windows and renaming that other crates use.
use Rattle.std.proofs.Common.{List, [], ap, arith, map, nat_lt, refl, sym, true, ℕ, ◌++◌, ◌∙◌, ◌∷◌, ◌≡◌, ◌≤◌}
use Rattle.std.proofs.lemmas.Bool.{and_from, and_parts, lt-ltb}
use Rattle.std.proofs.lemmas.List.{map-append}
use Rattle.std.specs.List.{flat_map, list_all}
use Rattle.thumb_instr.proofs.RenamingLemmas.{below_parts, named_renamed}
use Rattle.thumb_instr.specs.Window.{AreBelow, Low, is_in_window, item_under, named, renamed}
use Rattle.thumb_instr.specs.declared.instr.Instr.{Instr}
use Rattle.thumb_instr.specs.declared.instr.Instr.TheVariants as instr

pub window_back : (registers : List Low) (k : ℕ) (i : Instr) → k ≤ 8 → AreBelow k (named i) → is_in_window (renamed registers i) ≡ true → is_in_window i ≡ true
window_back registers k (instr.Mov d m) few b h =
    and_from (nat_lt d.number 8) (nat_lt m.number 8) (lt-ltb d.number 8 (omega (arith, b.0, few))) (lt-ltb m.number 8 (omega (arith, b.1.0, few)))
window_back registers k (instr.Add r) few b h =
    and_from (nat_lt r.target.number 8) (nat_lt r.source.number 8) (lt-ltb r.target.number 8 (omega (arith, b.0, few))) (lt-ltb r.source.number 8 (omega (arith, b.1.0, few)))
window_back registers k i few b h = h

pub windows_back : (registers : List Low) (k : ℕ) (is : List Instr) → k ≤ 8 → AreBelow k (flat_map named is) → list_all is_in_window (map (renamed registers) is) ≡ true
    → list_all is_in_window is ≡ true
windows_back registers k [] few b h = refl
windows_back registers k (i ∷ is) few b h =
    let low = below_parts k (named i) (flat_map named is) b in
    let both = and_parts (is_in_window (renamed registers i)) (list_all is_in_window (map (renamed registers) is)) h in
    and_from (is_in_window i) (list_all is_in_window is) (window_back registers k i few low.0 both.0) (windows_back registers k is few low.1 both.1)

pub named_all : (registers : List Low) (is : List Instr) → list_all is_in_window is ≡ true → flat_map named (map (renamed registers) is) ≡ map (item_under registers) (flat_map named is)
named_all registers [] w = refl
named_all registers (i ∷ is) w =
    let both = and_parts (is_in_window i) (list_all is_in_window is) w in
    ap (λ us. us ++ flat_map named (map (renamed registers) is)) (named_renamed registers i both.0)
    ∙ ap (λ us. map (item_under registers) (named i) ++ us) (named_all registers is both.1)
    ∙ sym (map-append (item_under registers) (named i) (flat_map named is))
