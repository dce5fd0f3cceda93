-- Where no entry fitted, none fits when a window gave way elsewhere.
use Rattle.std.proofs.Common.{◌≡◌, ℕ, suc, ◌+◌, ◌-◌, ◌<◌, ◌≤◌, Bool, false, List, length, Some, sym, subst, ◌⊎◌, inl, inr, arith, refl, ◌∙◌, true≢false}
use Rattle.kept_places.specs.Marks.{is_gone, rank}
use Rattle.thumb_instr.specs.declared.instr.Instr.{Instr}
use Rattle.thumb_model.specs.Listing.{Code, ListingLine, code_of, places_of}
use Rattle.thumb_model.specs.Flow.{Reads}
use Rattle.thumb_model.specs.Replaced.{moved, replaced_lines}
use Rattle.rule_model.specs.Rules.{Rule, weight, IsSoundRule}
use Rattle.rule_model.specs.Rewriting.{Setting, Replacement, used_rule, AppliesIn}
use Rattle.rule_model.proofs.LinesKept.{some_left}
use Rattle.rule_model.proofs.Table.{window_length}
use Rattle.padded_code.specs.Padding.{IsPadded}
use Rattle.padded_code.specs.Exchange.{marks_after, exchanged}
use Rattle.padded_code.proofs.Windows.{rank_taken}
use Rattle.window_rewrite.specs.Choices.{NoneAt}
use Rattle.window_rewrite.specs.WorkList.{Reaches}
use Rattle.window_rewrite.proofs.DueFits.{applied_at, rank_now, GaveWay}
use Rattle.window_rewrite.proofs.WindowPlaces.{window_within}

-- each rule of the table that may be used is sound, and its left side is some instructions, at most so many
pub record IsShort (longest : ℕ) (rule : Rule) : Type 0 where
  pub sound : IsSoundRule rule
  pub short : length rule.left ≤ longest
  pub some : 0 < length rule.left

abbrev pub AreShort : Setting → ℕ → Type 0
AreShort s longest = (o : Replacement) (rule : Rule) → used_rule s o ≡ Some rule → weight s.cost rule.right < weight s.cost rule.left → IsShort longest rule

-- the window of so many kept places that begins at p ends before the one that gave way, or begins behind it
abbrev pub IsFar : List Bool → ℕ → ℕ → ℕ → ℕ → Type 0
IsFar gone longest g count p = (rank gone p + longest ≤ g) ⊎ (g + count ≤ rank gone p)

-- behind windows that begin at p no item was lost
abbrev pub NoneLost : List Bool → Code → Code → ℕ → ℕ → Type 0
NoneLost gone padded new longest p = (q x : ℕ) → is_gone gone q ≡ false → Reaches gone longest p q → Reads padded x (suc q) → Reads new x (suc q)

-- the same entry, at another place
abbrev placed : ℕ → Replacement → Replacement
placed p o = record { place = p; entry = o.entry; instance = o.instance; registers = o.registers }

still_none : (s : Setting) (longest : ℕ) (gone : List Bool) (padded : Code) (lines : List ListingLine) (g : ℕ) (ps : List ℕ) (is : List Instr) → AreShort s longest → GaveWay s.write gone padded lines g ps is
    → (p : ℕ) → is_gone (marks_after ps is gone) p ≡ false → IsFar gone longest g (length ps) p → NoneLost (marks_after ps is gone) padded (exchanged ps is padded) longest p
    → NoneAt false s lines (rank gone p) → NoneAt false s (replaced_lines s.write g (length ps) is lines) (rank (marks_after ps is gone) p)
still_none s longest gone padded lines g ps is short w p kept far lost none o m at =
    let a = m.0 in
    let rule : Rule = a.rule in
    let n : ℕ = length rule.left in
    let r : ℕ = rank gone p in
    let after : List Bool = marks_after ps is gone in
    let new : List ListingLine = replaced_lines s.write g (length ps) is lines in
    let i = short o rule a.is_rule a.lowers in
    let near = i.short in
    let some = i.some in
    let there : (r + n ≤ g) ⊎ (g + length ps ≤ r) = elim far [ inl h ↦ inl (omega arith) | inr h ↦ inr h ] in
    let now : rank after p ≡ moved g (length ps - length is) r = rank_now s.write gone padded lines g ps is w p (elim far [ inl h ↦ inl (omega arith) | inr h ↦ inr h ]) in
    let still : (q x : ℕ) → is_gone after q ≡ false → suc (rank after q) ≡ o.place + n → Reads padded x (suc q) → Reads (exchanged ps is padded) x (suc q) =
    λ q x k e h. lost q x k (record { kept = kept; up_to = omega arith; near = omega arith }) h in
    let b = applied_at s.write gone padded lines g ps is w rule o.registers r o.place i.sound some (at ∙ now) there still a.applies a.joined in
    none (placed r o) (record { rule = rule; is_rule = a.is_rule; lowers = a.lowers; applies = b.applies; joined = b.joined }, λ e. absurd (true≢false (sym e))) refl

-- the same of lines, marks and a padded code that are equal to these
pub none_still : (s : Setting) (longest : ℕ) (gone after : List Bool) (padded new_padded : Code) (lines new : List ListingLine) (g count : ℕ) (ps : List ℕ) (is : List Instr) → AreShort s longest → GaveWay s.write gone padded lines g ps is → count ≡ length ps
    → after ≡ marks_after ps is gone → new_padded ≡ exchanged ps is padded → new ≡ replaced_lines s.write g (length ps) is lines
    → (p : ℕ) → is_gone after p ≡ false → IsFar gone longest g count p → NoneLost after padded new_padded longest p → NoneAt false s lines (rank gone p) → NoneAt false s new (rank after p)
none_still s longest gone after padded new_padded lines new g count ps is short w c e f l p =
    subst (λ (k : ℕ). is_gone after p ≡ false → IsFar gone longest g k p → NoneLost after padded new_padded longest p → NoneAt false s lines (rank gone p) → NoneAt false s new (rank after p)) (sym c)
    (subst (λ (m : List Bool). is_gone m p ≡ false → IsFar gone longest g (length ps) p → NoneLost m padded new_padded longest p → NoneAt false s lines (rank gone p) → NoneAt false s new (rank m p)) (sym e)
    (subst (λ (d : Code). is_gone (marks_after ps is gone) p ≡ false → IsFar gone longest g (length ps) p → NoneLost (marks_after ps is gone) padded d longest p → NoneAt false s lines (rank gone p) → NoneAt false s new (rank (marks_after ps is gone) p)) (sym f)
    (subst (λ (ls : List ListingLine). is_gone (marks_after ps is gone) p ≡ false → IsFar gone longest g (length ps) p → NoneLost (marks_after ps is gone) padded (exchanged ps is padded) longest p → NoneAt false s lines (rank gone p) → NoneAt false s ls (rank (marks_after ps is gone) p)) (sym l)
    (still_none s longest gone padded lines g ps is short w p))))

-- ---- where entries apply ----

-- the place of an entry that applies is one of the lines
pub applies_within : (s : Setting) (o : Replacement) (lines : List ListingLine) → AppliesIn s o lines → o.place < length (places_of lines)
applies_within s o lines a =
    let some = some_left s o lines a in
    let n = window_length a.rule o.registers (code_of lines) o.place a.applies in
    let w = window_within a.applies.window (length a.rule.left) (places_of lines) o.place n (omega arith) a.applies.stands in
    omega arith

-- and is the rank of a kept place
pub applies_at : (s : Setting) (o : Replacement) (gone : List Bool) (padded : Code) (lines : List ListingLine) → IsPadded gone padded (code_of lines) → AppliesIn s o lines → (p : ℕ) × (p < length padded.places) × (is_gone gone p ≡ false) × (rank gone p ≡ o.place)
applies_at s o gone padded lines is a = rank_taken gone padded (code_of lines) is o.place (applies_within s o lines a)
