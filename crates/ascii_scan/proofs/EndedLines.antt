-- Lines whose last byte is their only newline.
use Rattle.std.proofs.Common.{◌≡◌, ◌∙◌, ℕ, ◌==◌, true, false, List, [], ◌∷◌, ◌++◌, map, refl, sym, ap, inl, inr, true≢false}
use Rattle.std.specs.List.{flat_map, list_all, All}
use Rattle.std.proofs.lemmas.Bool.{cases_Bool}
use Rattle.std.proofs.lemmas.List.Elements.{All-head, All-tail}
use Rattle.ascii_scan.specs.FirstLine.{is_inside}
use Rattle.ascii_scan.specs.Lines.{lines_of, onto_first, content_of, is_ended, Placed, whole}
use Rattle.ascii_scan.proofs.LineLemmas.{lines_nil, lines_newline, lines_other}

-- no byte is a newline
abbrev pub IsInside : List ℕ → Type 0
IsInside bytes = list_all is_inside bytes ≡ true

abbrev pub ended : List ℕ → List ℕ
ended line = line ++ 10 ∷ []

pub line_first : (t bs : List ℕ) → IsInside t → lines_of (ended t ++ bs) ≡ ended t ∷ lines_of bs
line_first [] bs h = lines_newline 10 bs refl
line_first (b ∷ t) bs h = elim (cases_Bool (b == 10)) [
  | inl e ↦ absurd (true≢false (sym (rw e at h)))
  | inr e ↦ lines_other b (ended t ++ bs) e ∙ ap (onto_first b) (line_first t bs (rw e at h))
]

pub lines_ended : (ts : List (List ℕ)) → All IsInside ts → lines_of (flat_map ended ts) ≡ map ended ts
lines_ended [] all = lines_nil
lines_ended (t ∷ ts) all = line_first t (flat_map ended ts) (All-head IsInside t ts all) ∙ ap (λ ls. ended t ∷ ls) (lines_ended ts (All-tail IsInside t ts all))

pub content_ended : (t : List ℕ) → IsInside t → content_of (ended t) ≡ t
content_ended [] h = refl
content_ended (b ∷ t) h = elim (cases_Bool (b == 10)) [
  | inl e ↦ absurd (true≢false (sym (rw e at h)))
  | inr e ↦ rw e (ap (λ us. b ∷ us) (content_ended t (rw e at h)))
]

pub ended_tells : (t u : List ℕ) → IsInside t → IsInside u → ended t ≡ ended u → t ≡ u
ended_tells t u a b e = sym (content_ended t a) ∙ ap content_of e ∙ content_ended u b

pub is_ended_last : (t : List ℕ) → is_ended (ended t) ≡ true
is_ended_last [] = refl
is_ended_last (b ∷ t) = elim (cases_Bool (b == 10)) [ inl e ↦ rw e refl | inr e ↦ rw e (is_ended_last t) ]

-- a line without a newline is its own content
pub open_content : (l : List ℕ) → is_ended l ≡ false → content_of l ≡ l
open_content [] h = refl
open_content (b ∷ l) h = elim (cases_Bool (b == 10)) [
  | inl e ↦ absurd (true≢false (rw e at h))
  | inr e ↦ rw e (ap (λ us. b ∷ us) (open_content l (rw e at h)))
]

pub whole_ended : (p : Placed) → p.is_ended ≡ true → whole p ≡ ended p.text
whole_ended p e = rw e refl

pub whole_open : (p : Placed) → p.is_ended ≡ false → whole p ≡ p.text
whole_open p e = rw e refl
