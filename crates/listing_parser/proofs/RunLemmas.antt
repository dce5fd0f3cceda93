-- How many data words follow from a line on.
use Rattle.std.proofs.Common.{◌≡◌, ◌∙◌, ℕ, zero, suc, ◌+◌, ◌-◌, ◌<◌, ◌≤◌, Bool, true, List, [], ◌∷◌, length, drop, map, get_or, refl, sym, ap, arith, Some, None, option_map}
use Rattle.std.specs.Prelude.{nat_lt, slice_get, if◌then◌else◌}
use Rattle.std.proofs.lemmas.Option.{slice_get-map, slice_get_read}
use Rattle.std.proofs.lemmas.List.{length-append, drop-map}
use Rattle.std.proofs.lemmas.Bool.Decides.{nat_tests}
use Rattle.thumb_model.proofs.Lists.{length_map}
use Rattle.thumb_model.specs.Listing.{Name, Statement, Nothing, Instruction, Words, Aligns, Sets, ListingLine, Word, places_in, places_of}
use Rattle.listing_parser.specs.TableWords.{label_line, words_on, words_from, runs_from}
use Rattle.listing_parser.specs.Targets.{onward, reaches, from_label}
use Rattle.listing_parser.proofs.LabelLemmas.{label_from_line}

-- a word is reached where that many follow
onward_by_count : (s : Statement) (n behind : ℕ) (next : ℕ → Bool) → ((m : ℕ) → next m ≡ nat_lt m behind) → onward n s next ≡ nat_lt n (words_on s behind)
onward_by_count Nothing n behind next same = same n
onward_by_count (Instruction i m) n behind next same = grind (arith, nat_tests)
onward_by_count (Words vs) n behind next same = ap (λ (b : Bool). if nat_lt n (length vs) then true else b) (same (n - length vs)) ∙ counted n (length vs) behind where
  counted : (n k behind : ℕ) → (if nat_lt n k then true else nat_lt (n - k) behind) ≡ nat_lt n (k + behind)
  counted n k behind = grind (arith, nat_tests)
onward_by_count (Aligns size most) n behind next same = grind (arith, nat_tests)
onward_by_count (Sets name address) n behind next same = same n

pub reaches_by_count : (ls : List ListingLine) (n : ℕ) → reaches ls n ≡ nat_lt n (words_from ls)
reaches_by_count [] n = grind (arith, nat_tests)
reaches_by_count (l ∷ ls) n = onward_by_count l.statement n (words_from ls) (reaches ls) (reaches_by_count ls)

-- they are no more than the places of the lines
words_on_few : (s : Statement) (behind : ℕ) → words_on s behind ≤ length (places_in s) + behind
words_on_few Nothing behind = omega arith
words_on_few (Instruction i m) behind = omega arith
words_on_few (Words vs) behind = omega (arith, length_map Word vs)
words_on_few (Aligns size most) behind = omega arith
words_on_few (Sets name address) behind = omega arith

pub words_few : (ls : List ListingLine) → words_from ls ≤ length (places_of ls)
words_few [] = omega arith
words_few (l ∷ ls) = omega (arith, words_on_few l.statement (words_from ls), words_few ls, length-append (places_in l.statement) (places_of ls))

pub runs_length : (ls : List ListingLine) → length (runs_from ls) ≡ length ls
runs_length [] = refl
runs_length (l ∷ ls) = ap suc (runs_length ls)

runs_get : (ls : List ListingLine) (i d : ℕ) → i < length ls → get_or (runs_from ls) i d ≡ words_from (drop i ls)
runs_get [] i d h = absurd (omega arith)
runs_get (l ∷ ls) zero d h = refl
runs_get (l ∷ ls) (suc i) d h = runs_get ls i d (omega arith)

-- the table's count at a label's line is that of the lines from the label on
pub words_at_label : (name : Name) (ls : List ListingLine) (xs : List ℕ) (m x : ℕ) → label_line name 0 ls ≡ Some m → m < length ls → xs ≡ runs_from ls → x ≡ get_or xs m x → x ≡ words_from (from_label name ls)
words_at_label name ls xs m x e h all at =
    at ∙ ap (λ (ys : List ℕ). get_or ys m x) all ∙ runs_get ls m x h ∙ ap words_from (sym (label_from_line name 0 m m ls e (omega arith)))

-- a line's places and the words after it are no more than all places
room : (ls : List ListingLine) (i : ℕ) (l : ListingLine) → slice_get ls i ≡ Some l → length (places_in l.statement) + words_from (drop (suc i) ls) ≤ length (places_of ls)
room [] i l e = absurd (let bad : None ≡ Some l = e in cc)
room (x ∷ ls) zero l e =
    let same : x ≡ l = (let found : Some x ≡ Some l = e in cc) in
    omega (arith, words_few ls, ap (λ (y : ListingLine). length (places_in y.statement)) same, length-append (places_in x.statement) (places_of ls))
room (x ∷ ls) (suc i) l e = omega (arith, room ls i l e, length-append (places_in x.statement) (places_of ls))

pub room_read : {A : Type 0} (f : A → ListingLine) (xs : List A) (i k : ℕ) (x : A) (behind : ℕ) → i < length xs → k ≡ suc i → x ≡ get_or xs i x → behind ≡ words_from (map f (drop k xs))
    → length (places_in (f x).statement) + behind ≤ length (places_of (map f xs))
room_read f xs i k x behind h e at is =
    let here : slice_get (map f xs) i ≡ Some (f x) = slice_get-map f xs i ∙ ap (option_map f) (slice_get_read xs (length xs) i x refl h at) in
    let rest : behind ≡ words_from (drop (suc i) (map f xs)) = is ∙ ap (λ (j : ℕ). words_from (map f (drop j xs))) e ∙ ap words_from (sym (drop-map f (suc i) xs)) in
    omega (arith, room (map f xs) i (f x) here, rest)
