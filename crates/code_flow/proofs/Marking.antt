-- Marking the code points.
use Rattle.std.proofs.Common.{◌≡◌, ℕ, zero, suc, ◌+◌, ◌<◌, ◌==◌, ◌&&◌, ◌||◌, Bool, true, false, List, [], ◌∷◌, ◌++◌, Some, length, map, if◌then◌else◌, eq-eqb, ne_eqb, refl, sym, ap, ◌∙◌, inl, inr, arith, length-append}
use Rattle.std.specs.Prelude.{slice_get, slice_set}
use Rattle.std.proofs.lemmas.Bool.{cases_eq}
use Rattle.thumb_instr.proofs.Listed.{one_of_append}
use Rattle.thumb_model.specs.Effect.{one_of}
use Rattle.thumb_model.specs.Listing.{Name, Value, Place, Word, Statement, Nothing, Instruction, Words, Aligns, Sets, Label, ListingLine, Code, is_op_place, is_call_instr, labels_at, labels_from, places_in, places_of, label_places, return_places}
use Rattle.kept_places.specs.Marks.{marked}
use Rattle.kept_places.proofs.Ranks.{marked_set, marked_other}
use Rattle.std.proofs.lemmas.Option.{same_Some}
use Rattle.code_flow.specs.Points.{some_name, is_call_statement, HasPoints}
use Rattle.common_lemmas.proofs.Booleans.{or_false, or_true, or_assoc}

-- ---- one mark ----

-- a mark that is read
pub marked_is : (marks : List Bool) (q : ℕ) (b : Bool) → slice_get marks q ≡ Some b → marked marks q ≡ b
marked_is [] q b e = absurd (cc)
marked_is (m ∷ ms) zero b e = same_Some m b e
marked_is (m ∷ ms) (suc q) b e = marked_is ms q b e

pub marked_there : (marks : List Bool) (q : ℕ) → marked marks q ≡ true → slice_get marks q ≡ Some true
marked_there [] q h = absurd (cc)
marked_there (m ∷ ms) zero h = ap Some h
marked_there (m ∷ ms) (suc q) h = marked_there ms q h

-- marking a place marks it alone
pub marks_one : (marks : List Bool) (p q : ℕ) → p < length marks → marked (slice_set marks p true) q ≡ (marked marks q || (q == p))
marks_one marks p q h = elim (cases_eq q p) [
  | inl e ↦ ap (marked (slice_set marks p true)) e ∙ marked_set marks p true h ∙ sym (ap (λ t. marked marks q || t) (eq-eqb q p e) ∙ or_true (marked marks q))
  | inr d ↦ marked_other marks p q true d ∙ sym (ap (λ t. marked marks q || t) (ne_eqb q p d) ∙ or_false (marked marks q))
]

-- ---- labels ----

pub one_label : (q p : ℕ) (b : Bool) (tail : List ℕ) → one_of q (if b then p ∷ tail else tail) ≡ ((b && (q == p)) || one_of q tail)
one_label q p true tail = refl
one_label q p false tail = refl

again : (q p : ℕ) (b r : Bool) (tail : List ℕ) → one_of q tail ≡ ((b && (q == p)) || r) → one_of q (if b then p ∷ tail else tail) ≡ ((b && (q == p)) || r)
again q p true r tail h = ap (λ t. (q == p) || t) h ∙ twice (q == p) r
  where
    twice : (a b : Bool) → (a || (a || b)) ≡ (a || b)
    twice true b = refl
    twice false b = refl
again q p false r tail h = h

-- the places of the code labels that stand at p, and of others
pub labels_here : (q p : ℕ) (places : List Place) (names : List Name) (rest : List Label)
    → one_of q (label_places places (labels_at p names ++ rest)) ≡ (((some_name names && is_op_place (slice_get places p)) && (q == p)) || one_of q (label_places places rest))
labels_here q p places [] rest = refl
labels_here q p places (n ∷ []) rest = one_label q p (is_op_place (slice_get places p)) (label_places places rest)
labels_here q p places (n ∷ m ∷ ms) rest = again q p (is_op_place (slice_get places p)) (one_of q (label_places places rest)) (label_places places (labels_at p (m ∷ ms) ++ rest)) (labels_here q p places (m ∷ ms) rest)

-- the labels of one line more are marked
pub label_next : (old new : Bool) (places : List Place) (q p n : ℕ) (l : ListingLine) (ls : List ListingLine) → n ≡ length (places_in l.statement)
    → new ≡ (old || ((some_name l.names && is_op_place (slice_get places p)) && (q == p)))
    → (new || one_of q (label_places places (labels_from (p + n) ls))) ≡ (old || one_of q (label_places places (labels_from p (l ∷ ls))))
label_next old new places q p n l ls k e =
    ap (λ t. t || one_of q (label_places places (labels_from (p + n) ls))) e
    ∙ or_assoc old ((some_name l.names && is_op_place (slice_get places p)) && (q == p)) (one_of q (label_places places (labels_from (p + n) ls)))
    ∙ ap (λ m. old || (((some_name l.names && is_op_place (slice_get places p)) && (q == p)) || one_of q (label_places places (labels_from (p + m) ls)))) k
    ∙ ap (λ t. old || t) (sym (labels_here q p places l.names (labels_from (p + length (places_in l.statement)) ls)))

-- ---- calls ----

-- data words have no return points
words_return : (q p : ℕ) (vs : List Value) (rest : List Place) → one_of q (return_places (p + length (map Word vs)) rest) ≡ one_of q (return_places p (map Word vs ++ rest))
words_return q p [] rest = ap (λ m. one_of q (return_places m rest)) (let f : p + 0 ≡ p = omega arith in f)
words_return q p (v ∷ vs) rest = ap (λ m. one_of q (return_places m rest)) (let f : p + suc (length (map Word vs)) ≡ p + 1 + length (map Word vs) = omega arith in f) ∙ words_return q (p + 1) vs rest

-- the return points of a statement and of what follows
return_statement : (q p : ℕ) (s : Statement) (rest : List Place) → ((is_call_statement s && (q == (p + length (places_in s)))) || one_of q (return_places (p + length (places_in s)) rest)) ≡ one_of q (return_places p (places_in s ++ rest))
return_statement q p Nothing rest = ap (λ m. one_of q (return_places m rest)) (let f : p + 0 ≡ p = omega arith in f)
return_statement q p (Instruction i mention) rest = sym (one_label q (p + 1) (is_call_instr i) (return_places (p + 1) rest))
return_statement q p (Words vs) rest = words_return q p vs rest
return_statement q p (Aligns size most) rest = ap (λ m. one_of q (return_places m rest)) (let f : p + 0 ≡ p = omega arith in f)
return_statement q p (Sets name address) rest = ap (λ m. one_of q (return_places m rest)) (let f : p + 0 ≡ p = omega arith in f)

-- the code points of one line more are marked
pub line_step : (old labelled new : Bool) (places : List Place) (q p n : ℕ) (l : ListingLine) (ls : List ListingLine) → n ≡ length (places_in l.statement)
    → labelled ≡ (old || ((some_name l.names && is_op_place (slice_get places p)) && (q == p)))
    → new ≡ (labelled || (is_call_statement l.statement && (q == (p + n))))
    → (new || one_of q (label_places places (labels_from (p + n) ls)) || one_of q (return_places (p + n) (places_of ls))) ≡ (old || one_of q (label_places places (labels_from p (l ∷ ls))) || one_of q (return_places p (places_of (l ∷ ls))))
line_step old labelled new places q p n l ls k e f =
    let more : List ℕ = label_places places (labels_from (p + n) ls) in
    let behind : List ℕ = return_places (p + n) (places_of ls) in
    ap (λ t. t || one_of q more || one_of q behind) f
    ∙ exchange labelled (is_call_statement l.statement && (q == (p + n))) (one_of q more) (one_of q behind)
    ∙ ap (λ t. t || ((is_call_statement l.statement && (q == (p + n))) || one_of q behind)) (label_next old labelled places q p n l ls k e)
    ∙ ap (λ t. old || one_of q (label_places places (labels_from p (l ∷ ls))) || t) (ap (λ m. (is_call_statement l.statement && (q == (p + m))) || one_of q (return_places (p + m) (places_of ls))) k ∙ return_statement q p l.statement (places_of ls))
  where
    exchange : (a b c d : Bool) → (((a || b) || c) || d) ≡ ((a || c) || (b || d))
    exchange true b c d = refl
    exchange false true true d = refl
    exchange false true false d = refl
    exchange false false c d = refl

-- ---- all ----

-- what marks labels and returns alone marks the code points
pub points_marked : (code : Code) (marks : List Bool) → ((q : ℕ) → marked marks q ≡ (one_of q (label_places code.places code.labels) || one_of q (return_places 0 code.places))) → HasPoints code marks
points_marked code marks h q b e =
    let is : b ≡ one_of q (label_places code.places code.labels ++ return_places 0 code.places) = sym (marked_is marks q b e) ∙ h q ∙ sym (one_of_append q (label_places code.places code.labels) (return_places 0 code.places)) in
    (λ t. sym is ∙ t, λ t. is ∙ t)

pub places_next : (p n : ℕ) (l : ListingLine) (ls : List ListingLine) → n ≡ length (places_in l.statement) → p + n + length (places_of ls) ≡ p + length (places_of (l ∷ ls))
places_next p n l ls e = omega (arith, e, length-append (places_in l.statement) (places_of ls))
