-- The instructions of each kind by their operands: their number, the one at a place, and the place of one.
use Rattle.std.proofs.Common.{◌≡◌, ℕ, zero, suc, ◌+◌, ◌-◌, ◌*◌, ◌<◌, ◌≤◌, List, [], ◌∷◌, length, map, take, refl, sym, ◌∙◌, ap, arith, subst, Option, Some, None, slice_get, length-append}
use Rattle.std.specs.Prelude.{MatchOption, IsSome, All, slice_index_or}
use Rattle.std.specs.Option.{option_map, option_and_then}
use Rattle.std.specs.List.{flat_map}
use Rattle.std.proofs.lemmas.Option.{slice_get-get_or, slice_get_within, same_Some, slice_get-map}
use Rattle.std.proofs.lemmas.List.{length-map}
use Rattle.thumb_instr.specs.declared.within.Within.{Within}
use Rattle.thumb_instr.specs.declared.instr.Instr.{Instr}
use Rattle.thumb_instr.specs.declared.kind.Kind.{Kind}
use Rattle.thumb_instr.specs.declared.kind.Kind.TheVariants as kind
use Rattle.thumb_instr.specs.declared.kind.Parts.{Parts}
use Rattle.thumb_instr.specs.declared.operation.SumOperation.{SumOperation}
use Rattle.thumb_instr.specs.declared.operation.SumOperation.TheVariants as sum
use Rattle.thumb_instr.specs.declared.operation.ByteOperation.TheVariants as byte
use Rattle.thumb_instr.specs.declared.operation.Right.TheVariants as right
use Rattle.thumb_instr.specs.declared.operation.Operation.TheVariants as operation
use Rattle.thumb_instr.specs.declared.operation.Extension.TheVariants as extension
use Rattle.thumb_instr.specs.declared.operation.Reversal.TheVariants as reversal
use Rattle.thumb_instr.specs.Parts.{of, parts_of}
use Rattle.thumb_instr.specs.Roles.{roles}
use Rattle.thumb_instr.proofs.PartLemmas.{same_parts, gives_back}
use Rattle.seq_enum.specs.Alphabet.{numbers_from, those_within, IsPlace, grid2, grid3, rows, registers, members, alphabet}
use Rattle.seq_enum.specs.Places.{rank, digits3, paired, values, seconds, second_count, parts_in}
use Rattle.seq_enum.proofs.Numbered.{numbers_at, IsPlace-lists, IsPlace-unmap, flat_map_at}
use Rattle.seq_enum.proofs.Ascending.{length-others, first_others}
use Rattle.seq_enum.proofs.Fields.{numbers, within_numbers, within_length, register_numbers, other_numbers}
use Rattle.seq_enum.proofs.Grids.{length-grid3, grid3_some, grid3_from, grid3_at, map-grid2, map-grid3, grid3-single, IsPlace-grid3}
use Rattle.seq_enum.proofs.CostLines.{length-from}

-- ---- the instructions of a kind are those made of its parts

three : {a b c d e f : ℕ} (t : Kind) (make : Within a b → Within c d → Within e f → Instr) → ((x : Within a b) (y : Within c d) (z : Within e f) → parts_of (make x y z) ≡ of t x.number y.number z.number)
    → (xs : List (Within a b)) (ys : Within a b → List (Within c d)) (zs : List (Within e f)) (ns : List ℕ) (ms : ℕ → List ℕ) (ls : List ℕ)
    → numbers xs ≡ ns → ((x : Within a b) → numbers (ys x) ≡ ms x.number) → numbers zs ≡ ls → map parts_of (grid3 make xs ys zs) ≡ grid3 (of t) ns ms ls
three t make same xs ys zs ns ms ls e f g =
    map-grid3 parts_of (λ x. x.number) (λ y. y.number) (λ z. z.number) make (of t) same xs ys ms zs f ∙ rw (e, g) refl

two : {a b c d : ℕ} (t : Kind) (make : Within a b → Within c d → Instr) → ((x : Within a b) (y : Within c d) → parts_of (make x y) ≡ of t x.number y.number 0)
    → (xs : List (Within a b)) (ys : List (Within c d)) (ns ms : List ℕ) → numbers xs ≡ ns → numbers ys ≡ ms
    → map parts_of (grid2 make xs ys) ≡ grid3 (of t) ns (λ d. ms) (numbers_from 0 1)
unfolding numbers_from
two t make same xs ys ns ms e f =
    map-grid2 parts_of (λ x. x.number) (λ y. y.number) make (λ a b. of t a b 0) same xs ys ∙ rw (e, f) (sym (grid3-single (of t) ns ms 0))

pub are_parts : (k : ℕ) (pool : List ℕ) (t : Kind) → k ≤ 8 → IsSome (rank t) → map parts_of (members k pool t) ≡ parts_in k pool t
unfolding members
are_parts k pool t few listed = rows_of t listed
  where
    low : numbers (registers k) ≡ numbers_from 0 k
    low = register_numbers k few

    pair : (t : Kind) (make : Within 0 8 → Within 0 8 → Instr) → ((x y : Within 0 8) → parts_of (make x y) ≡ of t x.number y.number 0)
        → map parts_of (grid2 make (registers k) (registers k)) ≡ grid3 (of t) (numbers_from 0 k) (λ d. numbers_from 0 k) (numbers_from 0 1)
    pair t make same = two t make same _ _ _ _ low low

    rows_of : (t : Kind) → IsSome (rank t) → map parts_of (members k pool t) ≡ parts_in k pool t
    rows_of (kind.Three s) h = three _ _ (λ x y z. refl) _ _ _ _ _ _ low (λ x. low) low
    rows_of (kind.ThreeNumber s) h = three _ _ (λ x y z. refl) _ _ _ _ _ _ low (λ x. other_numbers k x few) (within_numbers 0 8 pool)
    rows_of (kind.TwoNumber o) h = two _ _ (λ x y. refl) _ _ _ _ low (within_numbers 0 256 pool)
    rows_of kind.ShiftLeft h = three _ _ (λ x y z. refl) _ _ _ _ _ _ low (λ x. low) (within_numbers 1 32 pool)
    rows_of (kind.ShiftRight s) h = three _ _ (λ x y z. refl) _ _ _ _ _ _ low (λ x. low) (within_numbers 1 33 pool)
    rows_of (kind.Two o) h = pair _ _ (λ x y. refl)
    rows_of kind.Movs h = pair _ _ (λ x y. refl)
    rows_of kind.Mov h = pair _ _ (λ x y. refl)
    rows_of kind.Add h = pair _ _ (λ x y. refl)
    rows_of (kind.Extend e) h = pair _ _ (λ x y. refl)
    rows_of (kind.Reverse r) h = pair _ _ (λ x y. refl)
    rows_of t h = absurd cc

-- but in a sum with a number, the second operand's values don't depend on the first; there, their number doesn't
pub seconds_are : (k : ℕ) (pool : List ℕ) (t : Kind) (d : ℕ) → ((s : SumOperation) → t ≡ kind.ThreeNumber s → ⊥) → seconds k pool t d ≡ values k pool (roles t).second
seconds_are k pool (kind.ThreeNumber s) d other = absurd (other s refl)
seconds_are k pool t d other = refl

each_second : (k : ℕ) (pool : List ℕ) (t : Kind) (j d : ℕ) → slice_get (values k pool (roles t).first) j ≡ Some d → length (seconds k pool t d) ≡ second_count k pool t
each_second k pool (kind.ThreeNumber s) j d e =
    let within : j < k = omega (arith, slice_get_within (numbers_from 0 k) j d e, length-from 0 k) in
    let low : d < k = omega (arith, within, same_Some (0 + j) d (sym (numbers_at 0 k j within) ∙ e)) in
    length-others k d low ∙ sym (length-others k 0 (omega (arith, low)))
each_second k pool t j d e = refl

-- ---- how many instructions a kind has, and the one at a place

abbrev pub count : ℕ → List ℕ → Kind → ℕ
count k pool t = length (values k pool (roles t).first) * (second_count k pool t * length (values k pool (roles t).third))

pub count_members : (k : ℕ) (pool : List ℕ) (t : Kind) → k ≤ 8 → IsSome (rank t) → length (members k pool t) ≡ count k pool t
count_members k pool t few listed =
    sym (length-map (members k pool t) parts_of) ∙ ap length (are_parts k pool t few listed)
    ∙ length-grid3 (of t) _ (seconds k pool t) _ (second_count k pool t) (each_second k pool t)

pub some_members : (k : ℕ) (pool : List ℕ) (t : Kind) (i : ℕ) → k ≤ 8 → IsSome (rank t) → i < length (members k pool t)
    → 0 < second_count k pool t * length (values k pool (roles t).third)
some_members k pool t i few listed h =
    (grid3_some (of t) _ (seconds k pool t) _ (second_count k pool t) (each_second k pool t) i
    (subst (λ n. i < n) (sym (length-map (members k pool t) parts_of) ∙ ap length (are_parts k pool t few listed)) h)).1

pub parts_at : (k : ℕ) (pool : List ℕ) (t : Kind) (i : ℕ) → k ≤ 8 → IsSome (rank t) → i < length (members k pool t)
    → option_map parts_of (slice_get (members k pool t) i)
    ≡ digits3 (of t) (values k pool (roles t).first) (seconds k pool t) (values k pool (roles t).third) (second_count k pool t) (length (values k pool (roles t).third)) i
parts_at k pool t i few listed h =
    sym (slice_get-map parts_of (members k pool t) i) ∙ ap (λ ps. slice_get ps i) (are_parts k pool t few listed)
    ∙ grid3_at (of t) _ (seconds k pool t) _ (second_count k pool t) (each_second k pool t) i (some_members k pool t i few listed h)

-- an instruction that is determined by its parts
pub none_made : (o : Option Instr) → option_map parts_of o ≡ None → None ≡ o
none_made None e = refl
none_made (Some i) e = absurd cc

pub made_back : (o r : Option Instr) (p : Parts) → option_map parts_of o ≡ Some p → MatchOption r ((i : Instr) → parts_of i ≡ p → ⊥) (λ i. parts_of i ≡ p) → r ≡ o
made_back None r p e h = absurd cc
made_back (Some i) r p e h = gives_back r i p (sym (same_Some _ _ e)) h

-- ---- the place of an instruction

pub IsPlace-parts : (k : ℕ) (pool : List ℕ) (t : Kind) (a b c : ℕ) (p q r : Option ℕ)
    → IsPlace p (values k pool (roles t).first) a → IsPlace q (seconds k pool t a) b → IsPlace r (values k pool (roles t).third) c
    → IsPlace (paired (second_count k pool t * length (values k pool (roles t).third)) p (paired (length (values k pool (roles t).third)) q r)) (parts_in k pool t) (of t a b c)
IsPlace-parts k pool t a b c p q r f g h =
    IsPlace-grid3 (of t) (λ x x' y y' z z' e. (ap (λ (m : Parts). m.first) e, ap (λ (m : Parts). m.second) e, ap (λ (m : Parts). m.third) e))
    _ (seconds k pool t) _ (second_count k pool t) (each_second k pool t) a b c p q r f g h

-- each kind has one place among the rows
rank_stands : (t : Kind) → option_and_then (slice_get rows) (rank t) ≡ option_map (λ i. t) (rank t)
unfolding rows
rank_stands (kind.Three sum.Add) = refl
rank_stands (kind.ThreeNumber sum.Add) = refl
rank_stands (kind.TwoNumber byte.Mov) = refl
rank_stands (kind.ShiftRight right.Lsr) = refl
rank_stands (kind.Two operation.And) = refl
rank_stands (kind.Extend extension.Sxth) = refl
rank_stands (kind.Reverse reversal.Rev) = refl
rank_stands t = refl

ranks : map rank rows ≡ map (λ i. Some i) (numbers_from 0 37)
unfolding rows numbers_from
ranks = refl

pub length-rows : length rows ≡ 37
unfolding rows
length-rows = refl

pub rank_at : (i : ℕ) (t : Kind) → slice_get rows i ≡ Some t → rank t ≡ Some i
rank_at i t e =
    let at : option_map (λ j. Some j) (slice_get (numbers_from 0 37) i) ≡ Some (rank t) =
    sym (slice_get-map (λ j. Some j) (numbers_from 0 37) i) ∙ sym (ap (λ ns. slice_get ns i) ranks) ∙ slice_get-map rank rows i ∙ ap (option_map rank) e in
    let low : i < 37 = omega (arith, slice_get_within rows i t e, length-rows) in
    sym (same_Some _ _ (sym (ap (option_map (λ j. Some j)) (numbers_at 0 37 i low ∙ ap Some (omega arith))) ∙ at))

pub IsPlace-rank : (t : Kind) (i : ℕ) → rank t ≡ Some i → IsPlace (Some i) rows t
IsPlace-rank t i e = record {
  stands = λ j f. rw (← same_Some i j f) (sym (ap (option_and_then (slice_get rows)) e) ∙ rank_stands t ∙ ap (option_map (λ n. t)) e);
  found = λ j f. sym e ∙ rank_at j t f;
}

-- a kind that isn't among the rows has no instructions
abbrev when_listed : Option ℕ → List Instr → List Instr
when_listed None is = []
when_listed (Some i) is = is

no_members : (k : ℕ) (pool : List ℕ) (t : Kind) → members k pool t ≡ when_listed (rank t) (members k pool t)
unfolding members grid2 grid3
no_members k pool (kind.Three s) = refl
no_members k pool t = refl

abbrev pub kind_of : Instr → Kind
kind_of x = (parts_of x).kind

-- each of a kind's instructions is of that kind
members_of : (k : ℕ) (pool : List ℕ) (t : Kind) (i : ℕ) (x : Instr) → k ≤ 8 → slice_get (members k pool t) i ≡ Some x → kind_of x ≡ t
members_of k pool t i x few e = by_rank (rank t) refl
  where
    by_rank : (o : Option ℕ) → rank t ≡ o → kind_of x ≡ t
    by_rank None h =
        let no : None ≡ Some x = sym (ap (λ is. slice_get is i) (no_members k pool t ∙ ap (λ o. when_listed o (members k pool t)) h)) ∙ e in absurd cc
    by_rank (Some n) h =
        grid3_from (of t) _ (seconds k pool t) _ i (parts_of x)
        (sym (ap (λ ps. slice_get ps i) (are_parts k pool t few (rw h refl))) ∙ slice_get-map parts_of (members k pool t) i ∙ ap (option_map parts_of) e)
        (λ a b c is. sym (ap (λ (m : Parts). m.kind) is))

-- an instruction's place in the alphabet: behind the kinds before its own
pub IsPlace-alphabet : (k : ℕ) (pool : List ℕ) (x : Instr) (a : ℕ) (p : Option ℕ) → k ≤ 8 → rank (kind_of x) ≡ Some a → IsPlace p (parts_in k pool (kind_of x)) (parts_of x)
    → IsPlace (option_map (λ b. length (flat_map (members k pool) (take a rows)) + b) p) (alphabet k pool) x
unfolding alphabet
IsPlace-alphabet k pool x a p few e at =
    let there : IsPlace p (map parts_of (members k pool (kind_of x))) (parts_of x) = rw (are_parts k pool (kind_of x) few (rw e refl)) at in
    IsPlace-lists (members k pool) rows (kind_of x) x (λ j z here. sym (members_of k pool z j x few here)) a (IsPlace-rank (kind_of x) a e) p
    (IsPlace-unmap parts_of (members k pool (kind_of x)) x (λ z same. same_parts z x same) p there)

pub IsPlace-outside : (k : ℕ) (pool : List ℕ) (x : Instr) → k ≤ 8 → rank (kind_of x) ≡ None → IsPlace None (alphabet k pool) x
unfolding alphabet
IsPlace-outside k pool x few e = record {
  stands = λ i h. absurd cc;
  found = λ i h. flat_map_at (members k pool) rows i x h (λ n z j at here.
      let two : None ≡ Some n = sym e ∙ ap rank (members_of k pool z j x few here) ∙ rank_at n z at in absurd cc);
}

-- ---- the size

all_some : (i : ℕ) (t : Kind) → slice_get rows i ≡ Some t → IsSome (rank t)
all_some i t e = rw (rank_at i t e) refl

pub rows_listed : All (λ t. IsSome (rank t)) rows
rows_listed = λ i d h. all_some i (slice_index_or rows i d) (slice_get-get_or rows i d h)

abbrev total : (Kind → ℕ) → List Kind → ℕ
total f [] = 0
total f (t ∷ ts) = f t + total f ts

length-total : (k : ℕ) (pool : List ℕ) (ts : List Kind) → k ≤ 8 → ((i : ℕ) (t : Kind) → slice_get ts i ≡ Some t → IsSome (rank t))
    → length (flat_map (members k pool) ts) ≡ total (count k pool) ts
length-total k pool [] few listed = refl
length-total k pool (t ∷ ts) few listed =
    omega (
      arith,
      length-append (members k pool t) (flat_map (members k pool) ts),
      count_members k pool t few (listed 0 t refl),
      length-total k pool ts few (λ i u e. listed (suc i) u e),
    )

pub size_formula : (k : ℕ) (pool : List ℕ) → k ≤ 8 → length (alphabet k pool)
    ≡ 2 * (k * k * k) + 2 * (k * ((k - 1) * length (those_within 0 8 pool))) + 4 * (k * length (those_within 0 256 pool))
    + (k * (k * length (those_within 1 32 pool)) + 2 * (k * (k * length (those_within 1 33 pool)))) + 26 * (k * k)
unfolding alphabet rows
size_formula k pool few = length-total k pool rows few all_some ∙ simp (length-from, first_others, within_length) (omega arith)

-- at most as many instructions as four registers and sixteen numbers give
pub size_bound : (k a b c d : ℕ) → k ≤ 4 → a ≤ 16 → b ≤ 16 → c ≤ 16 → d ≤ 16
    → 2 * (k * k * k) + 2 * (k * ((k - 1) * a)) + 4 * (k * b) + k * k * (c + 2 * d + 26) ≤ 1952
size_bound zero a b c d k p q r s = omega arith
size_bound (suc zero) a b c d k p q r s = omega arith
size_bound (suc (suc zero)) a b c d k p q r s = omega arith
size_bound (suc (suc (suc zero))) a b c d k p q r s = omega arith
size_bound (suc (suc (suc (suc zero)))) a b c d k p q r s = omega arith
size_bound (suc (suc (suc (suc (suc k))))) a b c d h p q r s = absurd (omega arith)
