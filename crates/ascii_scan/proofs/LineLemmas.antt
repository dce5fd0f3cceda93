-- Lines of a text: taking the first line off, that they are slices of the text, and that joined they are the text.
use Rattle.std.proofs.Common.{◌≡◌, ◌∙◌, inl, inr, ℕ, suc, ◌+◌, ◌-◌, ◌<◌, ◌≤◌, ◌==◌, true, false, List, [], ◌∷◌, ◌++◌, length, take, drop, cond, refl, sym, ap, arith, subst, append_assoc, length-append, map, eqb-true}
use Rattle.std.proofs.lemmas.Bool.{cases_Bool}
use Rattle.std.proofs.lemmas.List.{drop_at}
use Rattle.std.proofs.lemmas.List.Elements.{All-nil, All-cons}
use Rattle.std.specs.List.{concat, flat_map, All}
use Rattle.ascii_scan.specs.Tokens.{front, rest}
use Rattle.ascii_scan.specs.Lines.{lines_of, onto_first, content_of, is_ended, placed, placed_from, lines_in, whole, Placed, LinesAreSlices, LinesJoinToText}
use Rattle.ascii_scan.specs.FirstLine.{is_inside, first_line, after_first}

pub lines_nil : lines_of [] ≡ []
unfolding lines_of
lines_nil = refl

pub lines_newline : (b : ℕ) (bs : List ℕ) → (b == 10) ≡ true → lines_of (b ∷ bs) ≡ (b ∷ []) ∷ lines_of bs
unfolding lines_of
lines_newline b bs e = rw e refl

pub lines_other : (b : ℕ) (bs : List ℕ) → (b == 10) ≡ false → lines_of (b ∷ bs) ≡ onto_first b (lines_of bs)
unfolding lines_of
lines_other b bs e = rw e refl

pub lines_front : (b : ℕ) (bs : List ℕ) → lines_of (b ∷ bs) ≡ first_line (b ∷ bs) ∷ lines_of (after_first (b ∷ bs))
lines_front b [] = elim (cases_Bool (b == 10)) [
  | inl e ↦ lines_newline b [] e ∙ rw e refl
  | inr e ↦ lines_other b [] e ∙ rw (e, lines_nil) refl
]
lines_front b (c ∷ cs) = elim (cases_Bool (b == 10)) [
  | inl e ↦ lines_newline b (c ∷ cs) e ∙ rw e refl
  | inr e ↦ lines_other b (c ∷ cs) e ∙ rw e (ap (onto_first b) (lines_front c cs))
]

pub lines_none : (bs : List ℕ) → length bs ≡ 0 → lines_of bs ≡ []
lines_none [] e = lines_nil
lines_none (b ∷ bs) e = absurd (omega arith)

-- the lines of a text that isn't empty are its first line and the lines of what follows
pub lines_at : (bs : List ℕ) → 0 < length bs → lines_of bs ≡ first_line bs ∷ lines_of (after_first bs)
lines_at [] h = absurd (omega arith)
lines_at (b ∷ bs) h = lines_front b bs

pub content_first : (bs : List ℕ) → content_of (first_line bs) ≡ front is_inside bs
content_first [] = refl
content_first (b ∷ bs) = elim (cases_Bool (b == 10)) [
  | inl e ↦ rw e (rw e refl)
  | inr e ↦ rw e (rw e (ap (λ w. b ∷ w) (content_first bs)))
]

-- in a text without a newline the first line isn't ended, and nothing follows it
pub open_line : (bs : List ℕ) → rest is_inside bs ≡ [] → (is_ended (first_line bs) ≡ false) × (after_first bs ≡ [])
open_line [] e = (refl, refl)
open_line (b ∷ bs) e = elim (cases_Bool (b == 10)) [
  | inl is ↦ absurd (let bad : b ∷ bs ≡ [] = rw is at e in cc)
  | inr is ↦ let next = open_line bs (rw is at e) in (rw is (rw is next.0), rw is next.1)
]

pub ended_line : (bs : List ℕ) (b : ℕ) (after : List ℕ) → rest is_inside bs ≡ b ∷ after → (is_ended (first_line bs) ≡ true) × (after_first bs ≡ after)
ended_line [] b after e = absurd (let bad : [] ≡ b ∷ after = e in cc)
ended_line (x ∷ xs) b after e = elim (cases_Bool (x == 10)) [
  | inl is ↦ (rw is (rw is refl), rw is (let same : x ∷ xs ≡ b ∷ after = rw is at e in let tail : xs ≡ after = cc in tail))
  | inr is ↦ let next = ended_line xs b after (rw is at e) in (rw is (rw is next.0), rw is next.1)
]

pub length_first : (bs : List ℕ) → length (first_line bs) + length (after_first bs) ≡ length bs
length_first [] = refl
length_first (b ∷ bs) = elim (cases_Bool (b == 10)) [
  | inl e ↦ rw e (omega arith)
  | inr e ↦ rw e (omega (arith, length_first bs))
]

pub first_some : (bs : List ℕ) → 0 < length bs → 0 < length (first_line bs)
first_some [] h = absurd (omega arith)
first_some (b ∷ bs) h = elim (cases_Bool (b == 10)) [ inl e ↦ rw e (omega arith) | inr e ↦ rw e (omega arith) ]

-- ---- all lines ----

concat_onto : (b : ℕ) (ls : List (List ℕ)) → concat (onto_first b ls) ≡ b ∷ concat ls
concat_onto b [] = refl
concat_onto b (l ∷ ls) = refl

pub lines_join : (bytes : List ℕ) → concat (lines_of bytes) ≡ bytes
lines_join [] = ap concat lines_nil
lines_join (b ∷ bs) = elim (cases_Bool (b == 10)) [
  | inl e ↦ ap concat (lines_newline b bs e) ∙ ap (λ w. b ∷ w) (lines_join bs)
  | inr e ↦ ap concat (lines_other b bs e) ∙ concat_onto b (lines_of bs) ∙ ap (λ w. b ∷ w) (lines_join bs)
]

-- a line's content is its prefix
content_front : (line after : List ℕ) → take (length (content_of line)) (line ++ after) ≡ content_of line
content_front [] after = refl
content_front (b ∷ bs) after = elim (cases_Bool (b == 10)) [
  | inl e ↦ rw e refl
  | inr e ↦ rw e (ap (λ w. b ∷ w) (content_front bs after))
]

-- a line's bytes are those of the text from its start to before its end
IsSlice : List ℕ → Placed → Type 0
IsSlice bytes l = l.text ≡ take (l.end - l.start) (drop l.start bytes)

here : (before line after : List ℕ) → content_of line ≡ take ((length before + length (content_of line)) - length before) (drop (length before) (before ++ (line ++ after)))
here before line after =
    let size : (length before + length (content_of line)) - length before ≡ length (content_of line) = omega arith in
    rw (size, drop_at before (line ++ after) _ refl) (sym (content_front line after))

slices_from : (before : List ℕ) (n start : ℕ) (ls : List (List ℕ)) → start ≡ length before → All (IsSlice (before ++ concat ls)) (placed_from n start ls)
unfolding IsSlice
slices_from before n start [] e = All-nil (IsSlice (before ++ []))
slices_from before n start (l ∷ ls) e =
    All-cons (IsSlice (before ++ (l ++ concat ls))) _ _
    (rw e (here before l (concat ls)))
    (let next = slices_from (before ++ l) (n + 1) (start + length l) ls (omega (arith, length-append before l)) in
    let P : List ℕ → Type 0 = λ bytes. All (IsSlice bytes) (placed_from (n + 1) (start + length l) ls) in
    subst P (append_assoc before l (concat ls)) next)

pub lines_slices : LinesAreSlices
unfolding IsSlice
lines_slices bytes =
    let P : List ℕ → Type 0 = λ bs. All (IsSlice bs) (placed_from 1 0 (lines_of bytes)) in
    subst P (lines_join bytes) (slices_from [] 1 0 (lines_of bytes) refl)

-- a line's content is no longer than the line
pub content_short : (line : List ℕ) → length (content_of line) ≤ length line
content_short [] = omega arith
content_short (b ∷ bs) = elim (cases_Bool (b == 10)) [
  | inl e ↦ rw e (omega arith)
  | inr e ↦ rw e (omega (arith, content_short bs))
]

pub ruleset firsts = (lines_at, lines_none, first_some, content_short, length_first)

-- ---- lines with their newlines ----

-- no byte of a line but its last is a newline
whole_first : (b : ℕ) (l : List ℕ) (n start : ℕ) → (b == 10) ≡ false → whole (placed n start (b ∷ l)) ≡ b ∷ whole (placed n (suc start) l)
whole_first b l n start e = rw e (elim (is_ended l) as (λ v. cond v (b ∷ content_of l ++ 10 ∷ []) (b ∷ content_of l) ≡ b ∷ cond v (content_of l ++ 10 ∷ []) (content_of l)) [ true ↦ refl | false ↦ refl ])

pub same_parts : {X : Type 0} (x y : X) (xs ys : List X) → x ∷ xs ≡ y ∷ ys → (x ≡ y) × (xs ≡ ys)
same_parts x y xs ys e = (cc, cc)

AreWhole : List (List ℕ) → Type 0
AreWhole ls = (n start : ℕ) → map whole (placed_from n start ls) ≡ ls

wholes_first : (b : ℕ) (ls : List (List ℕ)) → (b == 10) ≡ false → AreWhole ls → AreWhole (onto_first b ls)
unfolding AreWhole
wholes_first b [] e all n start = rw e refl
wholes_first b (l ∷ ls) e all n start =
    let parts = same_parts (whole (placed n (suc start) l)) l (map whole (placed_from (n + 1) (suc start + length l) ls)) ls (all n (suc start)) in
    let at : start + suc (length l) ≡ suc start + length l = omega arith in
    rw (whole_first b l n start e, at, parts.0, parts.1) refl

pub map-whole : (bytes : List ℕ) (n start : ℕ) → map whole (placed_from n start (lines_of bytes)) ≡ lines_of bytes
unfolding AreWhole
map-whole [] n start = ap (λ ls. map whole (placed_from n start ls)) lines_nil ∙ sym lines_nil
map-whole (b ∷ bs) n start = elim (cases_Bool (b == 10)) [
  | inl e ↦ ap (λ ls. map whole (placed_from n start ls)) (lines_newline b bs e)
      ∙ (let newline : b ≡ 10 = eqb-true b 10 e in rw (e, map-whole bs (n + 1) (start + 1)) (ap (λ x. (x ∷ []) ∷ lines_of bs) (sym newline)))
      ∙ sym (lines_newline b bs e)
  | inr e ↦ ap (λ ls. map whole (placed_from n start ls)) (lines_other b bs e) ∙ wholes_first b (lines_of bs) e (map-whole bs) n start ∙ sym (lines_other b bs e)
]

flat_map-concat : {X : Type 0} (f : X → List ℕ) (xs : List X) → flat_map f xs ≡ concat (map f xs)
flat_map-concat f [] = refl
flat_map-concat f (x ∷ xs) = ap (λ ys. f x ++ ys) (flat_map-concat f xs)

pub lines_join_whole : LinesJoinToText
lines_join_whole bytes = (lines_join bytes, flat_map-concat whole (lines_in bytes) ∙ ap concat (map-whole bytes 1 0) ∙ lines_join bytes)

-- ---- how many lines there are ----

length-placed_from : (n start : ℕ) (ls : List (List ℕ)) → length (placed_from n start ls) ≡ length ls
length-placed_from n start [] = refl
length-placed_from n start (l ∷ ls) = ap suc (length-placed_from (n + 1) (start + length l) ls)

length-onto_first : (b : ℕ) (ls : List (List ℕ)) → length (onto_first b ls) ≤ suc (length ls)
length-onto_first b [] = omega arith
length-onto_first b (l ∷ ls) = omega arith

length-lines_of : (bytes : List ℕ) → length (lines_of bytes) ≤ length bytes
length-lines_of [] = omega (arith, ap length lines_nil)
length-lines_of (b ∷ bs) = elim (cases_Bool (b == 10)) [
  | inl e ↦ omega (arith, ap length (lines_newline b bs e), length-lines_of bs)
  | inr e ↦ omega (arith, ap length (lines_other b bs e), length-onto_first b (lines_of bs), length-lines_of bs)
]

-- no text has more lines than bytes
pub length-lines_in : (bytes : List ℕ) → length (lines_in bytes) ≤ length bytes
length-lines_in bytes = omega (arith, length-placed_from 1 0 (lines_of bytes), length-lines_of bytes)
