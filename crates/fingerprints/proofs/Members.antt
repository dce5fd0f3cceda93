-- The instructions of an alphabet: each may stand in a window, names only registers below k, and is normal.
use Rattle.std.proofs.Common.{◌≡◌, ℕ, zero, suc, ◌<◌, ◌≤◌, ◌==◌, ◌⊎◌, inl, inr, Bool, true, false, not, List, [], ◌∷◌, Option, Some, None, slice_get, map, cond, filter, refl, sym, ◌∙◌, ap, subst, arith, nat_lt}
use Rattle.std.specs.Option.{option_map}
use Rattle.std.proofs.lemmas.Bool.{lt-ltb, not-true, eqb-true, eq-eqb, cases_Bool}
use Rattle.std.proofs.lemmas.Option.{slice_get-map, same_Some}
use Rattle.thumb_instr.specs.declared.within.Within.{Within}
use Rattle.thumb_instr.specs.declared.instr.Instr.{Instr}
use Rattle.thumb_instr.specs.declared.instr.Instr.TheVariants as instr
use Rattle.thumb_instr.specs.Window.{named, AreBelow, is_in_window, normal_of}
use Rattle.seq_enum.specs.Alphabet.{grid2, grid3, those_within, registers, others, wide, rows, members, alphabet}
use Rattle.thumb_instr.specs.declared.kind.Kind.{Kind}
use Rattle.thumb_instr.specs.declared.kind.Kind.TheVariants as kind
use Rattle.seq_enum.proofs.Numbered.{flat_map_at, flat_map_from}
use Rattle.seq_enum.proofs.Fields.{register_low}
use Rattle.thumb_model.specs.Effect.{AreOver}
use Rattle.thumb_model.proofs.Small.{below_more}

-- what an instruction of the alphabet of the registers below k is
pub record IsMember (k : ℕ) (i : Instr) : Type 0 where
  pub window : is_in_window i ≡ true
  pub below : AreBelow k (named i)
  pub normal : normal_of i ≡ i

-- ---- lists ----

pub at_cons : {X : Type 0} (x : X) (ys : List X) (i : ℕ) (o : X) → slice_get (x ∷ ys) i ≡ Some o → (x ≡ o) ⊎ ((k : ℕ) × (slice_get ys k ≡ Some o))
at_cons x ys zero o h = inl (same_Some _ _ h)
at_cons x ys (suc i) o h = inr (i, h)

-- what a filter keeps passes, and is an element
pub filter_at : {X : Type 0} (p : X → Bool) (xs : List X) (i : ℕ) (o : X) → slice_get (filter p xs) i ≡ Some o → (p o ≡ true) × ((j : ℕ) × (slice_get xs j ≡ Some o))
filter_at p [] i o h = absurd (cc)
filter_at p (x ∷ xs) i o h =
    elim (p x) as (λ b. p x ≡ b → slice_get (cond b (x ∷ filter p xs) (filter p xs)) i ≡ Some o → (p o ≡ true) × ((j : ℕ) × (slice_get (x ∷ xs) j ≡ Some o))) [
      | true ↦ λ e k. elim (at_cons x (filter p xs) i o k) [
        | inl q ↦ (ap p (sym q) ∙ e, (0, ap (λ z. Some z) q))
        | inr r ↦ (let later = filter_at p xs r.0 o r.1 in (later.0, (suc later.1.0, later.1.1)))
      ]
      | false ↦ λ e k. let later = filter_at p xs i o k in (later.0, (suc later.1.0, later.1.1))
    ] refl h

-- an element of a grid is made of elements of its lists
grid2_parts : {X Y A P : Type 0} (make : X → Y → A) (xs : List X) (ys : List Y) (i : ℕ) (a : A) → slice_get (grid2 make xs ys) i ≡ Some a
    → ((h j : ℕ) (x : X) (y : Y) → slice_get xs h ≡ Some x → slice_get ys j ≡ Some y → make x y ≡ a → P) → P
unfolding grid2
grid2_parts {X} {Y} {A} {P} make xs ys i a e next =
    flat_map_at (λ x. map (make x) ys) xs i a e (λ h x j front there. last h x j front (slice_get ys j) refl (sym (slice_get-map (make x) ys j) ∙ there))
  where
    last : (h : ℕ) (x : X) (j : ℕ) → slice_get xs h ≡ Some x → (o : Option Y) → slice_get ys j ≡ o → option_map (make x) o ≡ Some a → P
    last h x j front None at is = absurd cc
    last h x j front (Some y) at is = next h j x y front at (same_Some _ _ is)

grid3_parts : {X Y Z A P : Type 0} (make : X → Y → Z → A) (xs : List X) (ys : X → List Y) (zs : List Z) (i : ℕ) (a : A) → slice_get (grid3 make xs ys zs) i ≡ Some a
    → ((h j l : ℕ) (x : X) (y : Y) (z : Z) → slice_get xs h ≡ Some x → slice_get (ys x) j ≡ Some y → slice_get zs l ≡ Some z → make x y z ≡ a → P) → P
unfolding grid3
grid3_parts make xs ys zs i a e next =
    flat_map_at (λ x. grid2 (make x) (ys x) zs) xs i a e (λ h x j front there.
    grid2_parts (make x) (ys x) zs j a there (λ m n y z at last is. next h m n x y z front at last is))

-- ---- instructions, kind by kind ----

low_low : (k : ℕ) (d : Within 0 8) → nat_lt (wide d).number 8 ≡ true
low_low k d = lt-ltb d.number 8 d.below

two_registers : (k i : ℕ) (a : Instr) → k ≤ 8 → (make : Within 0 8 → Within 0 8 → Instr) → slice_get (grid2 make (registers k) (registers k)) i ≡ Some a
    → ((d m : Within 0 8) → (is_in_window (make d m) ≡ true) × ((d.number < k → m.number < k → AreBelow k (named (make d m))) × (normal_of (make d m) ≡ make d m))) → IsMember k a
two_registers k i a few make e each =
    grid2_parts make (registers k) (registers k) i a e (λ h j d m at there is.
    let here = each d m in
    subst (IsMember k) is (record { window = here.0; below = here.1.0 (register_low k h d few at) (register_low k j m few there); normal = here.1.1 }))

apart : (a b : ℕ) → (b == a) ≡ false → (a == b) ≡ false
apart a b h = elim (cases_Bool (a == b)) [
  | inl same ↦ (let e : (b == a) ≡ true = eq-eqb b a (sym (eqb-true a b same)) in absurd (cc))
  | inr other ↦ other
]

member_of_kind : (k : ℕ) (pool : List ℕ) (t : Kind) (i : ℕ) (a : Instr) → k ≤ 8 → slice_get (members k pool t) i ≡ Some a → IsMember k a
unfolding members
member_of_kind k pool (kind.Three s) i a few e =
    grid3_parts (instr.Three s) (registers k) (λ d. registers k) (registers k) i a e (λ h j l d n m at there last is.
    subst (IsMember k) is (record { window = refl; below = (register_low k h d few at, (register_low k j n few there, (register_low k l m few last, tt))); normal = refl }))
member_of_kind k pool (kind.ThreeNumber s) i a few e =
    grid3_parts (instr.ThreeNumber s) (registers k) (others k) (those_within 0 8 pool) i a e (λ h j l d n m at there last is.
    let kept = filter_at (λ (x : Within 0 8). not (x.number == d.number)) (registers k) j n there in
    subst (IsMember k) is (record {
      window = refl;
      below = (register_low k h d few at, (register_low k kept.1.0 n few kept.1.1, tt));
      normal = rw (apart d.number n.number (not-true (n.number == d.number) kept.0)) refl;
    }))
member_of_kind k pool (kind.TwoNumber o) i a few e =
    grid2_parts (instr.TwoNumber o) (registers k) (those_within 0 256 pool) i a e (λ h j d n at there is.
    subst (IsMember k) is (record { window = refl; below = (register_low k h d few at, tt); normal = refl }))
member_of_kind k pool kind.ShiftLeft i a few e =
    grid3_parts instr.ShiftLeft (registers k) (λ d. registers k) (those_within 1 32 pool) i a e (λ h j l d n m at there last is.
    subst (IsMember k) is (record { window = refl; below = (register_low k h d few at, (register_low k j n few there, tt)); normal = refl }))
member_of_kind k pool (kind.ShiftRight s) i a few e =
    grid3_parts (instr.ShiftRight s) (registers k) (λ d. registers k) (those_within 1 33 pool) i a e (λ h j l d n m at there last is.
    subst (IsMember k) is (record { window = refl; below = (register_low k h d few at, (register_low k j n few there, tt)); normal = refl }))
member_of_kind k pool (kind.Two o) i a few e = two_registers k i a few _ e (λ d m. (refl, (λ x y. (x, (y, tt)), refl)))
member_of_kind k pool kind.Movs i a few e = two_registers k i a few _ e (λ d m. (refl, (λ x y. (x, (y, tt)), refl)))
member_of_kind k pool kind.Mov i a few e = two_registers k i a few _ e (λ d m. (rw (low_low k d, low_low k m) refl, (λ x y. (x, (y, tt)), refl)))
member_of_kind k pool kind.Add i a few e = two_registers k i a few _ e (λ d m. (rw (low_low k d, low_low k m) refl, (λ x y. (x, (y, tt)), refl)))
member_of_kind k pool (kind.Extend s) i a few e = two_registers k i a few _ e (λ d m. (refl, (λ x y. (x, (y, tt)), refl)))
member_of_kind k pool (kind.Reverse s) i a few e = two_registers k i a few _ e (λ d m. (refl, (λ x y. (x, (y, tt)), refl)))
member_of_kind k pool t i a few e = absurd cc

pub member : (k : ℕ) (pool : List ℕ) (i : ℕ) (a : Instr) → k ≤ 8 → slice_get (alphabet k pool) i ≡ Some a → IsMember k a
unfolding alphabet
member k pool i a few e = flat_map_from (members k pool) rows i a e (λ r j at. member_of_kind k pool r j a few at)

-- ---- a list of instructions

all_over : (xs : List Instr) → ((i : ℕ) (a : Instr) → slice_get xs i ≡ Some a → (is_in_window a ≡ true) × AreBelow 4 (named a)) → AreOver 4 xs
all_over [] h = tt
all_over (x ∷ xs) h = ((h 0 x refl).0, (h 0 x refl).1, all_over xs (λ i a e. h (suc i) a e))

-- the instructions of at most four registers may be run on a state
pub alphabet_over : (k : ℕ) (pool : List ℕ) → k ≤ 4 → AreOver 4 (alphabet k pool)
alphabet_over k pool few = all_over (alphabet k pool) (λ i a e. let l = member k pool i a (omega arith) e in (l.window, below_more k 4 (named a) few l.below))
