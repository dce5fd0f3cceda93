-- The loop over candidates: one more of them, and the three ways in which the search goes on or ends.
use Rattle.std.specs.Global.{Global}
use Rattle.std.proofs.Common.{◌≡◌, ℕ, ◌+◌, ◌<◌, ◌≤◌, List, [], ◌∷◌, ◌++◌, All, filter, length, map, get_or, take, drop, sym, ◌∙◌, ap, subst, append-nil}
use Rattle.std.specs.Prelude.{Vec}
use Rattle.std.proofs.lemmas.List.{take_more, take_all, drop_all, drop_more, take-append-drop}
use Rattle.std.proofs.lemmas.List.Elements.{All-nil}
use Rattle.thumb_instr.specs.declared.instr.Instr.{Instr}
use Rattle.thumb_model.specs.Effect.{AreOver}
use Rattle.window_exec.specs.State.{Seen}
use Rattle.lrat_check.specs.declared.line.Line.{Line}
use Rattle.lrat_check.specs.Text.{content_of, IsLine}
use Rattle.bit_blast.specs.Differences.{sides_formula}
use Rattle.bit_blast.specs.Exactness.{IsMask}
use Rattle.rule_table.specs.Table.{Opened, Rule}
use Rattle.table_audit.specs.Shorter.{alphabet_registers, IsBelow}
use Rattle.table_learn.specs.Learnt.{Settings, Window, IsRefutation, learnt_from}
use Rattle.table_learn.specs.Given.{IsWindow}
use Rattle.table_learn.specs.Fitness.{IsFit}
use Rattle.table_learn.specs.Searching.{AreCandidates, IsSearching, is_below}
use Rattle.table_learn.specs.Tried.{IsRightSide}
use Rattle.table_learn.proofs.Certificates.{nothing_refutes}
use Rattle.table_learn.proofs.Rounds.{side_over}
use Rattle.table_learn.proofs.Steps.{search_proves, search_ends}

-- the candidate at an index was tried, and the search goes on
pub search_next : (s : Settings) (w : Window) (old states later : List Seen) (opens more : List Opened) (candidates : List ℕ) (i d : ℕ) → i < length candidates
    → ((o : List Seen) (passed rest : List ℕ) → IsSearching s w o states opens passed (get_or candidates i d ∷ rest) → IsSearching s w o later more (passed ++ get_or candidates i d ∷ []) rest)
    → IsSearching s w old states opens (take i candidates) (drop i candidates) → IsSearching s w old later more (take (i + 1) candidates) (drop (i + 1) candidates)
search_next s w old states later opens more candidates i d low tried g =
    subst (λ ps. IsSearching s w old later more ps (drop (i + 1) candidates)) (sym (take_more candidates i d low))
    (tried old (take i candidates) (drop (i + 1) candidates) (subst (λ rs. IsSearching s w old states opens (take i candidates) rs) (drop_more candidates i d low) g))

-- the candidate at an index is the right side
pub right_found : (s : Settings) (w : Window) (e : Rule) (old states later : List Seen) (opens more : List Opened) (candidates : List ℕ) (i d : ℕ) (right : List Instr × Vec Line Global) → learnt_from e ≡ w → IsWindow s w → IsMask w.mask → i < length candidates
    → IsSearching s w old states opens (take i candidates) (drop i candidates) → AreCandidates s old w candidates → (later ≡ states) × (more ≡ opens) × IsRightSide s w (get_or candidates i d) right → e.right ≡ right.0 → e.proof ≡ map content_of right.1.items
    → e.opens ≡ filter (is_below s w.seq right.0) more → IsFit s later old e
right_found s w e old states later opens more candidates i d right same window mask low g are tried r p o =
    subst (λ ss. IsFit s ss old e) (sym tried.0)
    (search_proves s e old states opens (take i candidates) (drop (i + 1) candidates) candidates (get_or candidates i d)
    (subst (IsWindow s) (sym same) window)
    (subst (λ (v : Window). IsMask v.mask) (sym same) mask)
    (subst (λ (v : Window). IsSearching s v old states opens (take i candidates) (get_or candidates i d ∷ drop (i + 1) candidates)) (sym same) (subst (λ rs. IsSearching s w old states opens (take i candidates) rs) (drop_more candidates i d low) g))
    (subst (λ (v : Window). AreCandidates s old v candidates) (sym same) are)
    (sym (take-append-drop i candidates) ∙ ap (λ rs. take i candidates ++ rs) (drop_more candidates i d low))
    (subst (λ (v : Window). IsBelow s v.seq v.seq (get_or candidates i d) e.right) (sym same) (subst (λ z. IsBelow s w.seq w.seq (get_or candidates i d) z) (sym r) tried.2.below))
    (o ∙ ap (λ os. filter (is_below s w.seq right.0) os) tried.1 ∙ ap (λ z. filter (is_below s w.seq z) opens) (sym r) ∙ ap (λ (v : Window). filter (is_below s v.seq e.right) opens) (sym same))
    (subst (λ (v : Window). IsRefutation s.budget (sides_formula v.seq e.right v.mask (alphabet_registers s v.seq)) e.proof) (sym same) (subst (λ z. IsRefutation s.budget (sides_formula w.seq z w.mask (alphabet_registers s w.seq)) e.proof) (sym r) (subst (λ ls. IsRefutation s.budget (sides_formula w.seq right.0 w.mask (alphabet_registers s w.seq)) ls) (sym p) tried.2.proof)))
    (subst (All IsLine) (sym p) tried.2.lines))

-- no candidate is left
pub none_found : (s : Settings) (w : Window) (e : Rule) (old states : List Seen) (opens : List Opened) (candidates : List ℕ) (i : ℕ) (log : Vec Line Global) → learnt_from e ≡ w → IsWindow s w → IsMask w.mask → length candidates ≤ i
    → IsSearching s w old states opens (take i candidates) (drop i candidates) → AreCandidates s old w candidates → e.right ≡ w.seq → e.opens ≡ opens → log.items ≡ [] → e.proof ≡ map content_of log.items → IsFit s states old e
none_found s w e old states opens candidates i log same window mask past g are r o n p =
    let mine : IsWindow s (learnt_from e) = subst (IsWindow s) (sym same) window in
    let over : AreOver (alphabet_registers s e.left) e.left = (side_over s (learnt_from e) mine).1 in
    let right : e.right ≡ e.left = r ∙ ap (λ (v : Window). v.seq) (sym same) in
    let empty : e.proof ≡ [] = p ∙ ap (map content_of) n in
    search_ends s e old states opens candidates candidates mine
    (subst (λ (v : Window). IsMask v.mask) (sym same) mask)
    (subst (λ (v : Window). IsSearching s v old states opens candidates []) (sym same)
    (subst (λ rs. IsSearching s w old states opens candidates rs) (drop_all i candidates past) (subst (λ ps. IsSearching s w old states opens ps (drop i candidates)) (take_all i candidates past) g)))
    (subst (λ (v : Window). AreCandidates s old v candidates) (sym same) are)
    (sym (append-nil candidates)) right o
    (subst (λ ls. IsRefutation s.budget (sides_formula e.left e.right e.mask (alphabet_registers s e.left)) ls) (sym empty) (subst (λ z. IsRefutation s.budget (sides_formula e.left z e.mask (alphabet_registers s e.left)) []) (sym right) (nothing_refutes e.left e.mask (alphabet_registers s e.left) s.budget log over n)))
    (subst (All IsLine) (sym empty) (All-nil IsLine))
