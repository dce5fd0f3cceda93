-- The count of lines that is kept beside a listing that is being changed.
use Rattle.std.proofs.Common.{◌≡◌, ℕ, zero, suc, ◌+◌, ◌-◌, ◌≤◌, ◌==◌, ◌&&◌, Bool, true, false, List, [], ◌∷◌, length, length-append, drop, Some, refl, sym, ap, ◌∙◌, inl, inr, arith, true≢false}
use Rattle.std.specs.Prelude.{slice_get}
use Rattle.std.proofs.lemmas.Bool.{cases_Bool}
use Rattle.std.proofs.lemmas.Option.{same_Some}
use Rattle.thumb_instr.specs.declared.instr.Instr.{Instr}
use Rattle.kept_places.specs.Marks.{rank}
use Rattle.thumb_model.specs.Listing.{Name, Statement, Nothing, Instruction, Words, Aligns, Sets, ListingLine, Word, places_in, places_of, is_op_place}
use Rattle.thumb_model.specs.Replaced.{is_op, labels_kept, replaced_lines}
use Rattle.std.proofs.lemmas.List.{length-replicate}
use Rattle.thumb_model.proofs.Lists.{length_drop, length_map}
use Rattle.listing_parser.specs.Parsing.{own_line}
use Rattle.edited_listing.specs.declared.standing.Standing.{Standing}
use Rattle.edited_listing.specs.declared.standing.Standing.TheVariants as standing
use Rattle.edited_listing.specs.Items.{Item, AsGiven, New, items_from}
use Rattle.edited_listing.specs.Emitting.{is_given_at, emit_at, line_at, lines_from}
use Rattle.edited_listing.specs.Changes.{is_none, is_as_given, home_at}
use Rattle.edited_listing.specs.Counting.{one_if, is_labelled, item_labelled, labels_in, op_labels, some_name}
use Rattle.edited_listing.specs.Places.{item_of}
use Rattle.edited_listing.specs.Edited.{Edited, IsEdited, lines_now, marks}
use Rattle.edited_listing.specs.Laws.{IsWindowAt}
use Rattle.edited_listing.proofs.Kept.{item_at, home_op}
use Rattle.edited_listing.proofs.Counted.{label_at}
use Rattle.edited_listing.proofs.Edits.{edits_count, edits_replace}
use Rattle.edited_listing.proofs.Emits.{and_true}
use Rattle.common_lemmas.proofs.Booleans.{and_false}

-- ---- no more lines than lines that were given and items ----

module _ (write : Instr → List ℕ) where
  abbrev IsShort : List ListingLine → (List Item → List ListingLine) → Type 0
  IsShort ls behind = (xs : List Item) → length (behind xs) ≤ length ls + length xs

  emit_short : (p : ℕ) (xs : List Item) (ls : List ListingLine) (behind : List Item → List ListingLine) → IsShort ls behind → length (emit_at write p xs behind) ≤ length ls + length xs
  emit_short p [] ls behind h = h []
  emit_short p (AsGiven q ∷ xs) ls behind h = h (AsGiven q ∷ xs)
  emit_short p (New i home ∷ xs) ls behind h = elim (cases_Bool (home == p)) [
    | inl e ↦ rw e (let less = emit_short p xs ls behind h in omega arith)
    | inr e ↦ rw e (h (New i home ∷ xs))
  ]

  labels_short : (l : ListingLine) (ns : List Name) → length (labels_kept l ns) ≤ 1
  labels_short l [] = omega arith
  labels_short l (n ∷ ns) = omega arith

  line_short : (p : ℕ) (l : ListingLine) (xs : List Item) (ls : List ListingLine) (behind : List Item → List ListingLine) → IsShort ls behind → length (line_at write p l xs behind) ≤ suc (length ls) + length xs
  line_short p l xs ls behind h = elim (cases_Bool (is_given_at p xs)) [
    | inl g ↦ rw g (let less = h (drop 1 xs) in let fewer = length_drop 1 xs in omega arith)
    | inr g ↦ rw g (
        let all = length-append (labels_kept l l.names) (emit_at write p xs behind) in
        let one = labels_short l l.names in
        let less = emit_short p xs ls behind h in
        omega arith
        )
  ]

  lines_short : (ls : List ListingLine) (p : ℕ) (xs : List Item) → length (lines_from write p xs ls) ≤ length ls + length xs
  lines_short [] p xs = omega arith
  lines_short (l ∷ ls) p xs = elim (cases_Bool (is_op l.statement)) [
    | inl o ↦ rw o (line_short p l xs ls (λ rest. lines_from write (suc p) rest ls) (λ rest. lines_short ls (suc p) rest))
    | inr o ↦ rw o (
        let less = lines_short ls (p + length (places_in l.statement)) (drop (length (places_in l.statement)) xs) in
        let fewer = length_drop (length (places_in l.statement)) xs in
        omega arith
        )
  ]

items_short : (p : ℕ) (ss : List Standing) → length (items_from p ss) ≤ length ss
items_short p [] = omega arith
items_short p (standing.Given ∷ ss) = let h = items_short (suc p) ss in omega arith
items_short p (standing.Gone ∷ ss) = let h = items_short (suc p) ss in omega arith
items_short p (standing.New i home ∷ ss) = let h = items_short (suc p) ss in omega arith

pub now_short : (e : Edited) → length (lines_now e) ≤ length e.given + length e.stands
now_short e = let lines = lines_short own_line e.given 0 (items_from 0 e.stands) in let items = items_short 0 e.stands in omega arith

-- ---- the line that stays for labels ----

given_op : (e : Edited) (p n : ℕ) (new : List Instr) (s : Standing) → IsEdited e → IsWindowAt e p (suc n) new s → is_as_given s ≡ true → is_op_place (slice_get (places_of e.given) p) ≡ true
given_op e p n new standing.Given is w g =
    ap (λ j. is_op_place (slice_get (places_of e.given) j)) (let z : p ≡ 0 + p = omega arith in z)
    ∙ home_op own_line e is p n (home_at p standing.Given) new standing.Given w.stands w.kept refl w.few w.window (AsGiven (0 + p)) (item_at p 0 e.stands standing.Given w.stands w.kept)
given_op e p n new standing.Gone is w g = absurd (true≢false (sym g))
given_op e p n new (standing.New i h) is w g = absurd (true≢false (sym g))

label_item : (given : List ListingLine) (p : ℕ) (s : Standing) (b : Bool) → is_none s ≡ false → (is_as_given s ≡ true → is_op_place (slice_get (places_of given) p) ≡ true) → slice_get (op_labels given) p ≡ Some b → (b && is_as_given s) ≡ item_labelled 0 given (item_of p s)
label_item given p standing.Given b k o e = and_true b ∙ same_Some b (is_labelled p given) (sym e ∙ label_at given p (o refl)) ∙ ap (λ j. is_labelled j given) (let z : p ≡ p - 0 = omega arith in z)
label_item given p standing.Gone b k o e = absurd (true≢false k)
label_item given p (standing.New i home) b k o e = and_false b

label_now : (e : Edited) (p count : ℕ) (new : List Instr) (s : Standing) (b : Bool) → IsEdited e → IsWindowAt e p count new s → slice_get (op_labels e.given) p ≡ Some b → (b && is_as_given s) ≡ item_labelled 0 e.given (item_of p s)
label_now e p zero new s b is w l = absurd (let some = w.some in omega arith)
label_now e p (suc n) new s b is w l = label_item e.given p s b w.kept (given_op e p n new s is w) l

-- how many lines there are when the window gives way
pub counted_after : (e : Edited) (p count : ℕ) (new : List Instr) (s : Standing) (b : Bool) → IsEdited e → IsWindowAt e p count new s → slice_get (op_labels e.given) p ≡ Some b →
    count + length (replaced_lines own_line (rank (marks e) p) count new (lines_now e)) ≡ length (lines_now e) + length new + one_if (b && is_as_given s)
counted_after e p count new s b is w l =
    ap (λ ls. count + length ls) (sym (edits_replace e p count new s is w).1)
    ∙ edits_count e p count new s is w
    ∙ ap (λ c. length (lines_now e) + length new + one_if c) (sym (label_now e p count new s b is w l))

-- ---- a mark for each place ----

labels_many : (b : Bool) (s : Statement) → length (labels_in b s) ≡ length (places_in s)
labels_many b Nothing = refl
labels_many b (Instruction i mention) = refl
labels_many b (Words vs) = length-replicate (length vs) false ∙ sym (length_map Word vs)
labels_many b (Aligns size most) = refl
labels_many b (Sets name address) = refl

pub op_labels_many : (ls : List ListingLine) → length (op_labels ls) ≡ length (places_of ls)
op_labels_many [] = refl
op_labels_many (l ∷ ls) =
    let here = labels_many (some_name l.names) l.statement in
    let rest = op_labels_many ls in
    let all = length-append (labels_in (some_name l.names) l.statement) (op_labels ls) in
    let places = length-append (places_in l.statement) (places_of ls) in
    omega arith

pub one_small : (b : Bool) → one_if b ≤ 1
one_small true = omega arith
one_small false = omega arith
