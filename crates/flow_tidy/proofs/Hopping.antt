-- What stands at the kept places of a draft, by their ranks: branches to the next place, and what nothing reaches.
use Rattle.std.proofs.Common.{◌≡◌, ◌↔◌, ◌∙◌, ℕ, suc, ◌+◌, ◌<◌, ◌≤◌, Bool, true, false, not, List, Option, Some, None, refl, sym, ap, inl, inr, arith, if◌then◌else◌}
use Rattle.std.specs.Prelude.{option_and_then, is_some, slice_get}
use Rattle.std.proofs.lemmas.Bool.{cases_lt}
use Rattle.std.proofs.lemmas.Option.{same_Some}
use Rattle.thumb_instr.specs.declared.instr.Instr.{Instr}
use Rattle.thumb_model.specs.Listing.{Mention, Place, Op, Word, Code, is_call_instr, place_of}
use Rattle.thumb_model.specs.Steps.{aim_of}
use Rattle.thumb_model.specs.Flow.{Reached}
use Rattle.kept_places.specs.Marks.{is_gone, rank, IsNode}
use Rattle.kept_places.proofs.Ranks.{rank_kept, ranks_ascend, ranks_grow}
use Rattle.listing_draft.specs.Drafted.{instr_in}
use Rattle.listing_draft.proofs.Drafts.{node_rank}
use Rattle.flow_tidy.specs.Tidying.{is_branch, GoesToNext, IsIdle}
use Rattle.flow_tidy.specs.Made.{label_of_branch}

-- ---- a branch to the next place ----

-- where the branch at a place goes
abbrev pub goes : Code → ℕ → Option ℕ
goes code r = option_and_then (place_of code) (label_of_branch (slice_get code.places r))

aim_is : (code : Code) (r : ℕ) (i : Instr) (mention : Option Mention) → slice_get code.places r ≡ Some (Op i mention) → is_branch i ≡ true → goes code r ≡ aim_of code mention
aim_is code r i None e h = ap (λ o. option_and_then (place_of code) (label_of_branch o)) e
aim_is code r i (Some m) e h = ap (λ o. option_and_then (place_of code) (label_of_branch o)) e ∙ ap (λ (b : Bool). option_and_then (place_of code) (if b then Some m.name else None)) h

branch_from : (code : Code) (r q : ℕ) (x : Option Place) → slice_get code.places r ≡ x → option_and_then (place_of code) (label_of_branch x) ≡ Some q → q ≡ r + 1 → GoesToNext code r
branch_from code r q None e h k = absurd (cc)
branch_from code r q (Some (Word v)) e h k = absurd (cc)
branch_from code r q (Some (Op i None)) e h k = absurd (cc)
branch_from code r q (Some (Op i (Some m))) e h k = on (is_branch i) refl h
  where
    on : (b : Bool) → is_branch i ≡ b → option_and_then (place_of code) (if b then Some m.name else None) ≡ Some q → GoesToNext code r
    on true f g = record { i = i; mention = Some m; stands = e; branch = f; next = g ∙ ap Some k }
    on false f g = absurd (cc)

pub is_next : (code : Code) (r q : ℕ) → goes code r ≡ Some q → (q ≡ r + 1) ↔ GoesToNext code r
is_next code r q e = (
  λ k. branch_from code r q (slice_get code.places r) refl e k,
  λ g. same_Some q (r + 1) (sym e ∙ aim_is code r g.i g.mention g.stands g.branch ∙ g.next),
)

pub next_rank : (gone : List Bool) (p n : ℕ) → is_gone gone p ≡ false → IsNode gone (p + 1) n → rank gone n ≡ rank gone p + 1
next_rank gone p n g k =
    let one : rank gone (p + 1) ≡ suc (rank gone p) = ap (rank gone) (let e : p + 1 ≡ suc p = omega arith in e) ∙ rank_kept gone p g in
    let at : rank gone n ≡ rank gone (p + 1) = node_rank gone (p + 1) n k in
    omega arith

-- the kept place behind another one is that of the next rank
pub node_next : (gone : List Bool) (p t n : ℕ) → is_gone gone p ≡ false → is_gone gone t ≡ false → IsNode gone (p + 1) n → p < t → (n ≡ t) ↔ (rank gone t ≡ rank gone p + 1)
node_next gone p t n g h k l =
    let at : rank gone n ≡ rank gone p + 1 = next_rank gone p n g k in
    (λ e. let same : rank gone n ≡ rank gone t = ap (rank gone) e in omega arith, λ e. back e at)
  where
    back : rank gone t ≡ rank gone p + 1 → rank gone n ≡ rank gone p + 1 → n ≡ t
    back e at = elim (cases_lt t n) [
      | inl less ↦ (let no : true ≡ false = sym (k.between t (omega arith) less) ∙ h in absurd (cc))
      | inr more ↦ elim (cases_lt n t) [
        | inl less ↦ (let no = ranks_ascend gone n t k.kept less in absurd (omega arith))
        | inr same ↦ omega arith
      ]
    ]

pub not_before : (gone : List Bool) (p t : ℕ) → t ≤ p → rank gone t ≡ rank gone p + 1 → ⊥
not_before gone p t h e = let g = ranks_grow gone t p h in absurd (omega arith)

pub some_of : (o : Option ℕ) → is_some o ≡ true → (q : ℕ) × (o ≡ Some q)
some_of None e = absurd (cc)
some_of (Some q) e = (q, refl)

-- ---- what nothing reaches ----

idle_from : (code : Code) (r : ℕ) (i : Instr) (x : Option Place) → slice_get code.places r ≡ x → instr_in x ≡ Some i → is_call_instr i ≡ false → (Reached code r → ⊥) → IsIdle code r
idle_from code r i None e f n u = absurd (cc)
idle_from code r i (Some (Word v)) e f n u = absurd (cc)
idle_from code r i (Some (Op j m)) e f n u = record { i = j; mention = m; stands = e; no_call = ap is_call_instr (same_Some j i f) ∙ n; unreached = u }

pub idle_call : (code : Code) (r : ℕ) (i : Instr) → instr_in (slice_get code.places r) ≡ Some i → is_call_instr i ≡ true → IsIdle code r → ⊥
idle_call code r i e c h =
    let same : i ≡ h.i = same_Some i h.i (sym e ∙ ap instr_in h.stands) in
    let no : true ≡ false = sym c ∙ ap is_call_instr same ∙ h.no_call in
    absurd (cc)

pub idle_mark : (code : Code) (r : ℕ) (i : Instr) (mark : Bool) → instr_in (slice_get code.places r) ≡ Some i → is_call_instr i ≡ false → (mark ≡ true) ↔ Reached code r → (not mark ≡ true) ↔ IsIdle code r
idle_mark code r i true e c m = (λ t. absurd (cc), λ h. absurd (h.unreached (m.0 refl)))
idle_mark code r i false e c m = (λ t. idle_from code r i (slice_get code.places r) refl e c (λ k. let no : false ≡ true = m.1 k in absurd (cc)), λ h. refl)
