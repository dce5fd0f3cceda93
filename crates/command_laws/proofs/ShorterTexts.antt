-- The text of trimmed proof lines is no longer: they are some of the given lines, in order, each with a prefix of its hints.
use Rattle.std.proofs.Common.{◌≡◌, ◌∙◌, ◌⊎◌, inl, inr, ℕ, ℤ, zero, suc, ◌+◌, ◌<◌, ◌≤◌, List, [], ◌∷◌, ◌++◌, length, map, take, refl, sym, ap, subst, arith, length-append}
use Rattle.std.specs.Prelude.{All, AllPairs, Contains, decimal}
use Rattle.std.specs.Fmt.{signed_decimal}
use Rattle.std.proofs.lemmas.List.Concat.{flat_map-append}
use Rattle.std.proofs.lemmas.List.Elements.{All-nil, All-cons, All-head, All-tail}
use Rattle.lrat_check.specs.Text.{Content, addition, deletion, text_of, middle_of, id_of, spaced, literal_text, end_word, IsShortened, IsTrimmed, IsUsed}
use Rattle.lrat_check.specs.Runs.{IsRefutation}
use Rattle.lrat_check.proofs.Members.{head_or_tail, none_in}
use Rattle.lrat_check.proofs.Placed.{Ascends, ascends, ascends_to}
use Rattle.lrat_check.proofs.Texts.{join-push}

-- ---- one line ----

room : List (List ℕ) → ℕ
room words = length (spaced words)

room-append : (a b : List (List ℕ)) → room (a ++ b) ≡ room a + room b
unfolding room
room-append a b = ap (λ (xs : List ℕ). length xs) (flat_map-append (λ (w : List ℕ). w ++ 32 ∷ []) a b) ∙ length-append (spaced a) (spaced b)

room-cons : (w : List ℕ) (ws : List (List ℕ)) → room (w ∷ ws) ≡ length (w ++ 32 ∷ []) + room ws
unfolding room
room-cons w ws = length-append (w ++ 32 ∷ []) (spaced ws)

text_room : (c : Content) → length (text_of c) ≡ room (decimal (id_of c) ∷ middle_of c) + 1
unfolding room
text_room c = ap (λ (xs : List ℕ). length xs) (join-push (decimal (id_of c) ∷ middle_of c) end_word) ∙ length-append (spaced (decimal (id_of c) ∷ middle_of c)) end_word

no_room : room [] ≡ 0
unfolding room
no_room = refl

first_hints : (n : ℕ) (hints : List ℤ) → room (map signed_decimal (take n hints)) ≤ room (map signed_decimal hints)
first_hints zero hints = let none : room [] ≡ 0 = no_room in omega (arith, none)
first_hints (suc n) [] = omega arith
first_hints (suc n) (h ∷ hints) =
    let a = room-cons (signed_decimal h) (map signed_decimal (take n hints)) in
    let b = room-cons (signed_decimal h) (map signed_decimal hints) in
    let rest = first_hints n hints in
    omega arith

shortened_room : (id n : ℕ) (literals : List ℕ) (hints : List ℤ) → length (text_of (addition id literals (take n hints))) ≤ length (text_of (addition id literals hints))
shortened_room id n literals hints =
    let front : List (List ℕ) = decimal id ∷ map literal_text literals in
    let a = text_room (addition id literals (take n hints)) in
    let b = text_room (addition id literals hints) in
    let c = room-append front (end_word ∷ map signed_decimal (take n hints)) in
    let d = room-append front (end_word ∷ map signed_decimal hints) in
    let e = room-cons end_word (map signed_decimal (take n hints)) in
    let f = room-cons end_word (map signed_decimal hints) in
    let g = first_hints n hints in
    omega arith

-- ---- all lines ----

-- the bytes of lines, each with its newline
abbrev pub bytes_of : List Content → ℕ
bytes_of [] = 0
bytes_of (line ∷ lines) = length (text_of line) + 1 + bytes_of lines

-- an addition among the lines, with a prefix of its hints
IsPart : List Content → Content → Type 0
IsPart lines (addition id literals hints) = (all : List ℤ) × (n : ℕ) × Contains lines (addition id literals all) × (hints ≡ take n all)
IsPart lines (deletion id ids) = ⊥

Parts : List Content → List Content → Type 0
Parts lines [] = Unit {0}
Parts lines (x ∷ xs) = IsPart lines x × Parts lines xs

-- the ids are in ascending order
Up : ℕ → List Content → Type 0
Up last [] = Unit {0}
Up last (x ∷ xs) = (last < id_of x) × Up (id_of x) xs

up_less : (a b : ℕ) (xs : List Content) → a ≤ b → Up b xs → Up a xs
unfolding Up
up_less a b [] h u = tt
up_less a b (x ∷ xs) h u = (let l = u.0 in omega (arith, h, l), u.1)

later_part : (line x : Content) (lines : List Content) → (id_of line ≡ id_of x → ⊥) → IsPart (line ∷ lines) x → IsPart lines x
unfolding IsPart
later_part line (addition id literals hints) lines other (all, n, i, e) = elim (head_or_tail line lines (addition id literals all) i) [
  | inl same ↦ absurd (other (ap id_of same))
  | inr j ↦ (all, n, j, e)
]
later_part line (deletion id ids) lines other none = none

later_parts : (line : Content) (lines xs : List Content) → Up (id_of line) xs → Parts (line ∷ lines) xs → Parts lines xs
unfolding Up Parts
later_parts line lines [] u p = tt
later_parts line lines (x ∷ xs) u p =
    let above = u.0 in
    (later_part line x lines (λ e. omega (arith, above, e)) p.0, later_parts line lines xs (up_less (id_of line) (id_of x) xs (omega (arith, above)) u.1) p.1)

no_part : (line : Content) (ids : List ℕ) (n : ℕ) (x : Content) (lines : List Content) → IsPart (deletion n ids ∷ lines) x → IsPart lines x
unfolding IsPart
no_part line ids n (addition id literals hints) lines (all, m, i, e) = elim (head_or_tail (deletion n ids) lines (addition id literals all) i) [
  | inl same ↦ absurd (cc)
  | inr j ↦ (all, m, j, e)
]
no_part line ids n (deletion id is) lines none = none

no_parts : (n : ℕ) (ids : List ℕ) (lines xs : List Content) → Parts (deletion n ids ∷ lines) xs → Parts lines xs
unfolding Parts
no_parts n ids lines [] p = tt
no_parts n ids lines (x ∷ xs) p = (no_part x ids n x lines p.0, no_parts n ids lines xs p.1)

part_bytes : (i : ℕ) (l : List ℕ) (h : List ℤ) (x : Content) (lines : List Content) → Ascends i lines → IsPart (addition i l h ∷ lines) x
    → ((id_of x ≡ i) × (length (text_of x) ≤ length (text_of (addition i l h)))) ⊎ (i < id_of x)
unfolding IsPart
part_bytes i l h (addition id literals hints) lines a (all, n, c, e) = elim (head_or_tail (addition i l h) lines (addition id literals all) c) [
  | inl same ↦ (
      let ids : i ≡ id = ap id_of same in
      let whole : length (text_of (addition id literals all)) ≡ length (text_of (addition i l h)) = ap (λ (y : Content). length (text_of y)) (sym same) in
      let cut : length (text_of (addition id literals hints)) ≤ length (text_of (addition id literals all)) = rw e (shortened_room id n literals all) in
      inl (sym ids, omega (arith, whole, cut))
      )
  | inr j ↦ inr (ascends_to i lines id literals all a j)
]
part_bytes i l h (deletion id ids) lines a none = absurd none

fewer_bytes : (last : ℕ) (lines xs : List Content) → Ascends last lines → Up last xs → Parts lines xs → bytes_of xs ≤ bytes_of lines
unfolding Up Parts IsPart
fewer_bytes last [] [] a u p = omega arith
fewer_bytes last [] (addition id literals hints ∷ xs) a u p = absurd (none_in (addition id literals p.0.0) p.0.2)
fewer_bytes last [] (deletion id ids ∷ xs) a u p = absurd p.0
fewer_bytes last (deletion n ids ∷ lines) xs a u p = let rest = fewer_bytes last lines xs a u (no_parts n ids lines xs p) in omega (arith, rest)
fewer_bytes last (addition i l h ∷ lines) [] a u p = omega arith
fewer_bytes last (addition i l h ∷ lines) (x ∷ xs) a u p = elim (part_bytes i l h x lines a.1 p.0) [
  | inl (same, short) ↦ (
      let up : Up i xs = subst (λ j. Up j xs) same u.1 in
      let rest = fewer_bytes i lines xs a.1 up (later_parts (addition i l h) lines xs up p.1) in
      omega (arith, short, rest)
      )
  | inr above ↦ (
      let up : Up i (x ∷ xs) = (above, u.1) in
      let rest = fewer_bytes i lines (x ∷ xs) a.1 up (later_parts (addition i l h) lines (x ∷ xs) up p) in
      omega (arith, rest)
      )
]

-- ---- trimmed lines ----

ups : (last : ℕ) (xs : List Content) → AllPairs (λ line later. id_of line < id_of later) xs → All (λ x. last < id_of x) xs → Up last xs
unfolding Up
ups last [] p above = tt
ups last (x ∷ []) p above = (All-head (λ y. last < id_of y) x [] above, tt)
ups last (x ∷ y ∷ ys) p above = (
  All-head (λ z. last < id_of z) x (y ∷ ys) above,
  ups (id_of x) (y ∷ ys) (λ i j d l b. p (suc i) (suc j) d (omega (arith, l)) (omega (arith, b))) (λ k d b. p 0 (suc k) d (omega arith) (omega (arith, b))),
)

module _ (clauses : List (List ℕ)) (lines : List Content) (last : ℕ) (up : Ascends last lines) where
  parts : (xs : List Content) → All (λ line. IsShortened clauses lines line × IsUsed clauses lines (id_of line)) xs → Parts lines xs
  unfolding Parts IsPart
  parts [] h = tt
  parts (addition id literals hints ∷ xs) h =
      let s = (All-head (λ line. IsShortened clauses lines line × IsUsed clauses lines (id_of line)) (addition id literals hints) xs h).0 in
      ((s.0, s.1, s.2, s.4), parts xs (All-tail (λ line. IsShortened clauses lines line × IsUsed clauses lines (id_of line)) (addition id literals hints) xs h))
  parts (deletion id ids ∷ xs) h = absurd (All-head (λ line. IsShortened clauses lines line × IsUsed clauses lines (id_of line)) (deletion id ids) xs h).0

  above : (x : Content) → IsPart lines x → last < id_of x
  unfolding IsPart
  above (addition id literals hints) (all, n, c, e) = ascends_to last lines id literals all up c
  above (deletion id ids) none = absurd none

  all_above : (xs : List Content) → Parts lines xs → All (λ x. last < id_of x) xs
  unfolding Parts
  all_above [] p = All-nil (λ x. last < id_of x)
  all_above (x ∷ xs) p = All-cons (λ y. last < id_of y) x xs (above x p.0) (all_above xs p.1)

pub trimmed_bytes : (clauses : List (List ℕ)) (lines trimmed : List Content) → IsRefutation clauses lines → IsTrimmed clauses lines trimmed → bytes_of trimmed ≤ bytes_of lines
trimmed_bytes clauses lines trimmed r (inl none) = let empty : bytes_of trimmed ≡ 0 = ap bytes_of none.1 in omega (arith, empty)
trimmed_bytes clauses lines trimmed r (inr (some, used)) =
    let up = ascends r.first r.last lines r.accepts in
    let p = parts clauses lines r.first.last up trimmed used.only in
    fewer_bytes r.first.last lines trimmed up (ups r.first.last trimmed used.in_order (all_above clauses lines r.first.last up trimmed p)) p
