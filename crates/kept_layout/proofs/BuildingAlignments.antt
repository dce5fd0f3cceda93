-- The alignments and the loose mentions of blocks, and that noting alignments changes nothing else.
use Rattle.std.proofs.Common.{◌≡◌, ◌∙◌, inl, inr, ℕ, zero, suc, ◌-◌, ◌/◌, ◌%◌, ◌<◌, ◌≤◌, true, List, [], ◌∷◌, ◌++◌, length, map, drop, get_or, Some, refl, sym, ap, subst, arith, div-add-mod'}
use Rattle.std.specs.Prelude.{slice_get, slice_set, Contains}
use Rattle.std.proofs.lemmas.Bool.{cases_lt}
use Rattle.std.proofs.lemmas.List.{length-set, drop_all}
use Rattle.std.proofs.lemmas.List.Elements.{Contains-append_left, Contains-push, Contains-push_cases}
use Rattle.std.proofs.lemmas.Option.{slice_get_read, slice_get_within}
use Rattle.thumb_model.proofs.Lists.{present_at}
use Rattle.kept_layout.specs.declared.alignments.Loose.{Loose}
use Rattle.kept_layout.specs.declared.block.Head.{Head}
use Rattle.kept_layout.specs.declared.block.Head.TheVariants as head
use Rattle.kept_layout.specs.declared.lag.Lag.{Lag}
use Rattle.kept_layout.specs.declared.block.Block.{Block}
use Rattle.kept_layout.specs.Blocks.{addresses, is_loose, lag_of, literal_last, located, footprint_of, footprints_of, Divides, IsAlignment, IsAlignmentOf, Footprint}
use Rattle.kept_layout.specs.Cutting.{AreCallers, KnowCallers}
use Rattle.kept_layout.specs.Moves.{unaligned}
use Rattle.kept_layout.proofs.MovingPlaces.{footprint_at}
use Rattle.kept_layout.proofs.ShrinkingNotes.{map_length, set_else}
use Rattle.kept_layout.proofs.ShrinkingPlaces.{lag_behind, footprints_length}
use Rattle.kept_layout.proofs.Together.{divides_on}
use Rattle.common_lemmas.proofs.Lists.{get_set, get_map, drop_at}

-- ---- with other alignments ----

same_aligned : (ss : List Block) (n : ℕ) (s t : Block) → slice_get ss n ≡ Some s → unaligned t ≡ unaligned s → map unaligned (slice_set ss n t) ≡ map unaligned ss
same_aligned [] n s t e f = absurd (cc)
same_aligned (x ∷ ss) zero s t e f = let same : x ≡ s = cc in ap (λ y. y ∷ map unaligned ss) (f ∙ ap unaligned (sym same))
same_aligned (x ∷ ss) (suc n) s t e f = ap (λ ys. unaligned x ∷ ys) (same_aligned ss n s t e f)

footprints_unaligned : (ss : List Block) → map footprint_of (map unaligned ss) ≡ footprints_of ss
footprints_unaligned [] = refl
footprints_unaligned (s ∷ ss) = ap (λ (xs : List Footprint). footprint_of s ∷ xs) (footprints_unaligned ss)

pub footprints_same : (xs ys : List Block) → map unaligned xs ≡ map unaligned ys → footprints_of xs ≡ footprints_of ys
footprints_same xs ys e = sym (footprints_unaligned xs) ∙ ap (map footprint_of) e ∙ footprints_unaligned ys

starts_unaligned : (ss : List Block) → map (λ (s : Block). s.at) (map unaligned ss) ≡ map (λ (s : Block). s.at) ss
starts_unaligned [] = refl
starts_unaligned (s ∷ ss) = ap (λ (xs : List ℕ). s.at ∷ xs) (starts_unaligned ss)

pub starts_same : (xs ys : List Block) → map unaligned xs ≡ map unaligned ys → map (λ (s : Block). s.at) xs ≡ map (λ (s : Block). s.at) ys
starts_same xs ys e = sym (starts_unaligned xs) ∙ ap (map (λ (s : Block). s.at)) e ∙ starts_unaligned ys

callers_same : (xs ys : List Block) (n : ℕ) (d : Block) → map unaligned xs ≡ map unaligned ys → slice_get xs n ≡ Some d → (s : Block) × (slice_get ys n ≡ Some s) × (d.callers.items ≡ s.callers.items)
callers_same xs ys n d e f =
    let len = map_length unaligned xs ys e in
    let within = slice_get_within xs n d f in
    let there = present_at ys n (omega arith) in
    let left = get_map unaligned xs n d f in
    let right = get_map unaligned ys n there.0 there.1 in
    let both = ap (λ (zs : List Block). slice_get zs n) e in
    let same : unaligned d ≡ unaligned there.0 = cc in
    (there.0, there.1, ap (λ (x : Block). x.callers.items) same)

pub known_same : (n : ℕ) (xs ys : List Block) → map unaligned xs ≡ map unaligned ys → KnowCallers n ys → KnowCallers n xs
known_same n xs ys e k = λ i t s d below f m g.
    let o = callers_same xs ys t d e g in
    subst (λ zs. Contains zs i) (sym o.2) (k i t s o.0 below (ap (λ (zs : List Footprint). slice_get zs i) (sym (footprints_same xs ys e)) ∙ f) m o.1)

pub are_callers_same : (xs ys : List Block) → map unaligned xs ≡ map unaligned ys → AreCallers ys → AreCallers xs
are_callers_same xs ys e a = λ t i d g c.
    let o = callers_same xs ys t d e g in
    let low = a t i o.0 o.1 (subst (λ zs. Contains zs i) o.2 c) in
    let len = map_length unaligned xs ys e in
    omega arith

-- no block has a lag at first
pub no_lag : (l : Lag) (n : ℕ) → l.border ≡ 0 → l.shift ≡ 0 → lag_of l n ≡ 0
no_lag l n border shift = lag_behind l n (omega (arith, border)) ∙ shift

pub none_shifted : (l : Lag) (n : ℕ) (ss : List Block) → l.border ≡ 0 → l.shift ≡ 0 → addresses l n ss ≡ map (λ (s : Block). s.at) ss
none_shifted l n [] border shift = refl
none_shifted l n (s ∷ ss) border shift = ap (λ (xs : List ℕ). located l n s.at ∷ xs) (none_shifted l (suc n) ss border shift) ∙ ap (λ x. x ∷ map (λ (y : Block). y.at) ss) (let none = no_lag l n border shift in let same : s.at - lag_of l n ≡ s.at = omega arith in same)

-- ---- alignments ----

pub whole : (a b : ℕ) → a % b ≡ 0 → Divides b a
whole a b e = (a / b, (let split = div-add-mod' a b in omega arith))

-- what an alignment divides is one, too
pub own_on : (g h : ℕ) (x : Head) → Divides g h → IsAlignmentOf g x → IsAlignmentOf h x
own_on g h head.Plain d j = tt
own_on g h (head.Pads size most) d j = divides_on size g h j d
own_on g h (head.Aims aim) d j = tt

alignment_on : (g h : ℕ) (ss : List Footprint) → Divides g h → IsAlignment g ss → IsAlignment h ss
alignment_on g h [] d i = tt
alignment_on g h (s ∷ ss) d i = (own_on g h s.head d i.0, alignment_on g h ss d i.1)

-- the blocks from a number on have their alignments, those up to the last one of literals and their labels by 4
pub record HaveAlignments (all : List Block) (last alignment number : ℕ) (ss : List Block) : Type 0 where
  pub same : map unaligned ss ≡ map unaligned all
  pub within : number ≤ length ss
  pub next : IsAlignment alignment (drop number (footprints_of all))
  pub done : (j : ℕ) (s : Block) → number ≤ j → slice_get ss j ≡ Some s → IsAlignment s.alignment (drop j (footprints_of all))
  pub fours : (j : ℕ) (s : Block) → number ≤ j → slice_get ss j ≡ Some s → j ≤ last → Divides 4 s.alignment

pub alignments_begin : (all : List Block) (last n : ℕ) → n ≡ length all → HaveAlignments all last 1 n all
alignments_begin all last n e =
    let many = footprints_length all in
    record {
      same = refl;
      within = omega arith;
      next = subst (IsAlignment 1) (sym (drop_all n (footprints_of all) (omega arith))) tt;
      done = λ j s h f. absurd (let w = slice_get_within all j s f in omega arith);
      fours = λ j s h f. absurd (let w = slice_get_within all j s f in omega arith);
    }

-- one more has its alignment
pub record IsAligned (last alignment number : ℕ) (s t : Block) : Type 0 where
  pub from : Divides alignment t.alignment
  pub own : IsAlignmentOf t.alignment s.head
  pub four : number ≤ last → Divides 4 t.alignment
  pub same : unaligned t ≡ unaligned s

pub alignments_on : (all : List Block) (last alignment number : ℕ) (ss : List Block) (n : ℕ) (s t : Block) → HaveAlignments all last alignment number ss → number ≡ suc n → slice_get ss n ≡ Some s → IsAligned last alignment n s t → HaveAlignments all last t.alignment n (slice_set ss n t)
alignments_on all last alignment number ss n s t h e f g =
    let same = footprints_same ss all h.same in
    let footprint : slice_get (footprints_of all) n ≡ Some (footprint_of s) = ap (λ (xs : List Footprint). slice_get xs n) (sym same) ∙ footprint_at ss n s f in
    let one = drop_at (footprints_of all) n (footprint_of s) footprint in
    let rest : IsAlignment t.alignment (drop (suc n) (footprints_of all)) = alignment_on alignment t.alignment (drop (suc n) (footprints_of all)) g.from (subst (λ m. IsAlignment alignment (drop m (footprints_of all))) e h.next) in
    let next : IsAlignment t.alignment (drop n (footprints_of all)) = subst (IsAlignment t.alignment) (sym one) (g.own, rest) in
    let size = length-set ss n t in
    let low = h.within in
    let is : slice_get (slice_set ss n t) n ≡ Some t = get_set ss n t (slice_get_within ss n s f) in
    record {
      same = same_aligned ss n s t f g.same ∙ h.same;
      within = omega arith;
      next = next;
      done = λ j u l k. elim (cases_lt n j) [
        | inl later ↦ h.done j u (omega arith) (sym (set_else ss n j t (λ x. omega arith)) ∙ k)
        | inr now ↦
            let here : n ≡ j = omega arith in
            let one : t ≡ u = let v = ap (slice_get (slice_set ss n t)) here ∙ k in cc in
            subst (λ m. IsAlignment u.alignment (drop m (footprints_of all))) here (subst (λ (x : Block). IsAlignment x.alignment (drop n (footprints_of all))) one next)
      ];
      fours = λ j u l k m. elim (cases_lt n j) [
        | inl later ↦ h.fours j u (omega arith) (sym (set_else ss n j t (λ x. omega arith)) ∙ k) m
        | inr now ↦
            let here : n ≡ j = omega arith in
            let one : t ≡ u = let v = ap (slice_get (slice_set ss n t)) here ∙ k in cc in
            subst (λ (x : Block). Divides 4 x.alignment) one (g.four (omega arith))
      ];
    }

-- 4 divides the alignments up to the last block of literals and their labels
pub fours_all : (all : List Block) (last alignment number : ℕ) (ss : List Block) → HaveAlignments all last alignment number ss → number ≤ 0 → ((i : ℕ) (s : Block) → slice_get all i ≡ Some s → literal_last i s.head ≤ last)
    → (i j : ℕ) (s : Footprint) (d : Block) → slice_get (footprints_of all) i ≡ Some s → slice_get ss j ≡ Some d → j ≤ literal_last i s.head → Divides 4 d.alignment
fours_all all last alignment number ss h none known i j s d e f l =
    let within = slice_get_within (footprints_of all) i s e in
    let count = footprints_length all in
    let there = present_at all i (omega arith) in
    let footprint = footprint_at all i there.0 there.1 in
    let same : footprint_of there.0 ≡ s = cc in
    let head = ap (λ (x : Footprint). literal_last i x.head) same in
    let low = known i there.0 there.1 in
    h.fours j d (omega arith) f (omega arith)

-- ---- loose mentions ----

-- the loose mentions of the blocks below a number are listed
pub record AreFound (of : Loose) (ss : List Block) (number : ℕ) (loose : List ℕ) : Type 0 where
  pub all : (j : ℕ) (s : Block) → j < number → slice_get ss j ≡ Some s → is_loose of j s.head ≡ true → Contains loose j
  pub within : (j : ℕ) → Contains loose j → j < length ss

pub found_one : (of : Loose) (ss : List Block) (number following : ℕ) (loose more : List ℕ) → AreFound of ss number loose → more ≡ loose ++ number ∷ [] → number < length ss → following ≡ suc number → AreFound of ss following more
found_one of ss number following loose more a e h f = record {
  all = λ j s l g k. subst (λ xs. Contains xs j) (sym e) (elim (cases_lt j number) [
    | inl before ↦ Contains-append_left loose (number ∷ []) j (a.all j s before g k)
    | inr not ↦ subst (λ x. Contains (loose ++ number ∷ []) x) (let here : number ≡ j = omega arith in here) (Contains-push loose number)
  ]);
  within = λ j c. elim (Contains-push_cases loose number j (subst (λ xs. Contains xs j) e c)) [
    | inl before ↦ a.within j before
    | inr now ↦ omega arith
  ];
}

pub found_other : (of : Loose) (ss : List Block) (number following : ℕ) (loose : List ℕ) (s : Block) → AreFound of ss number loose → slice_get ss number ≡ Some s → (is_loose of number s.head ≡ true → ⊥) → following ≡ suc number → AreFound of ss following loose
found_other of ss number following loose s a e not f = record {
  all = λ j t l g k. elim (cases_lt j number) [
    | inl before ↦ a.all j t before g k
    | inr now ↦
        let here : j ≡ number = omega arith in
        let one : t ≡ s = let v = ap (slice_get ss) (sym here) ∙ g in cc in
        absurd (not (subst (λ n. is_loose of n s.head ≡ true) here (subst (λ (x : Block). is_loose of j x.head ≡ true) one k)))
  ];
  within = a.within;
}

pub found_all : (of : Loose) (ss : List Block) (loose : List ℕ) → ((j : ℕ) (s : Block) → slice_get ss j ≡ Some s → is_loose of j s.head ≡ true → Contains loose j) → ((j : ℕ) → Contains loose j → j < length ss) → AreFound of ss (length ss) loose
found_all of ss loose all within = record { all = λ j s l. all j s; within = within }

-- a block that is read twice begins with the same
pub head_read : (ss : List Block) (n : ℕ) (s t : Block) → n < length ss → s ≡ get_or ss n s → slice_get ss n ≡ Some t → s.head ≡ t.head
head_read ss n s t h e f = let g = slice_get_read ss (length ss) n s refl h e in let one : s ≡ t = cc in ap (λ (x : Block). x.head) one
