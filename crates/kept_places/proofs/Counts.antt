-- Counts of the places that are gone, by groups.
use Rattle.std.proofs.Common.{◌≡◌, ℕ, zero, suc, ◌+◌, ◌-◌, ◌*◌, ◌/◌, ◌<◌, ◌≤◌, Bool, true, false, List, [], ◌∷◌, length, replicate, cond, refl, ap, ◌∙◌, ◌⊎◌, inl, inr, subst, arith}
use Rattle.std.specs.Prelude.{slice_set, slice_index}
use Rattle.std.specs.List.{count_by, slice_range, slice_index_or, sum}
use Rattle.std.proofs.Math.Nat.{suc-mul, mul-le-mul_right}
use Rattle.std.proofs.lemmas.Bool.{cases_order}
use Rattle.std.proofs.lemmas.List.{length-set, length-replicate, get_or-set_same, get_or-set_other, get_or-replicate}
use Rattle.std.proofs.lemmas.List.Edits.{between_none, between_more}
use Rattle.std.proofs.lemmas.List.Sums.{sum_by_push}
use Rattle.std.proofs.lemmas.Nat.{div_below, div-add-mod', mod_below}
use Rattle.kept_places.specs.Marks.{marked, is_gone, rank}
use Rattle.kept_places.specs.Kept.{AreCounts}
use Rattle.kept_places.proofs.Ranks.{rank_zero, rank_gone, rank_kept, rank_whole, ranks_grow, rank_set_before, rank_set_behind}
use Rattle.common_lemmas.proofs.Numbers.{one_more_times}

-- ---- sums ----

sum_more : (counts : List ℕ) (a b : ℕ) → a ≤ b → b < length counts → sum (slice_range counts a (b + 1)) ≡ sum (slice_range counts a b) + slice_index counts b
sum_more counts a b l h = ap sum (between_more counts a b 0 l h) ∙ sum_by_push (λ x. x) (slice_range counts a b) (slice_index counts b)

-- the counts from one group to another say how ranks lag behind places between them
pub summed : (size : ℕ) (gone : List Bool) (counts : List ℕ) → AreCounts size gone counts → (a n : ℕ) → a + n ≤ length counts → rank gone ((a + n) * size) + sum (slice_range counts a (a + n)) + a * size ≡ rank gone (a * size) + (a + n) * size
summed size gone counts c a zero h =
    let e : a + 0 ≡ a = omega arith in
    let none : sum (slice_range counts a (a + 0)) ≡ 0 = ap (λ k. sum (slice_range counts a k)) e ∙ ap sum (between_none counts a) in
    let r : rank gone ((a + 0) * size) ≡ rank gone (a * size) = ap (λ k. rank gone (k * size)) e in
    let m : (a + 0) * size ≡ a * size = ap (λ k. k * size) e in
    omega arith
summed size gone counts c a (suc n) h =
    let before = summed size gone counts c a n (omega arith) in
    let e : a + suc n ≡ (a + n) + 1 = omega arith in
    let m : (a + suc n) * size ≡ (a + n) * size + size = ap (λ k. k * size) e ∙ one_more_times (a + n) size in
    let s : sum (slice_range counts a (a + suc n)) ≡ sum (slice_range counts a (a + n)) + slice_index counts (a + n) = ap (λ k. sum (slice_range counts a k)) e ∙ sum_more counts a (a + n) (omega arith) (omega arith) in
    let r : rank gone ((a + suc n) * size) ≡ rank gone ((a + n) * size + size) = ap (rank gone) m in
    let here = c.counted (a + n) (omega arith) in
    omega arith

count_more : (gone : List Bool) (a b : ℕ) → a ≤ b → b < length gone → (d : Bool) → count_by (λ g. g) (slice_range gone a (b + 1)) ≡ count_by (λ g. g) (slice_range gone a b) + cond (marked gone b) 1 0
count_more gone a b l h d =
    ap (count_by (λ g. g)) (between_more gone a b true l h) ∙ sum_by_push (λ g. cond g 1 0) (slice_range gone a b) _ ∙ ap (λ g. count_by (λ g. g) (slice_range gone a b) + cond g 1 0) (read gone b h)
  where
    read : (ms : List Bool) (p : ℕ) → p < length ms → slice_index_or ms p true ≡ marked ms p
    read [] p h = absurd (omega arith)
    read (m ∷ ms) zero h = refl
    read (m ∷ ms) (suc p) h = read ms p (omega arith)

-- and so do marks
pub marks_summed : (gone : List Bool) (a n : ℕ) → a + n ≤ length gone → rank gone (a + n) + count_by (λ g. g) (slice_range gone a (a + n)) ≡ rank gone a + n
marks_summed gone a zero h =
    let e : a + 0 ≡ a = omega arith in
    let none : count_by (λ g. g) (slice_range gone a (a + 0)) ≡ 0 = ap (λ k. count_by (λ g. g) (slice_range gone a k)) e ∙ ap (count_by (λ g. g)) (between_none gone a) in
    let r : rank gone (a + 0) ≡ rank gone a = ap (rank gone) e in
    omega arith
marks_summed gone a (suc n) h =
    let before = marks_summed gone a n (omega arith) in
    let e : a + suc n ≡ (a + n) + 1 = omega arith in
    let f : a + suc n ≡ suc (a + n) = omega arith in
    let s : count_by (λ g. g) (slice_range gone a (a + suc n)) ≡ count_by (λ g. g) (slice_range gone a (a + n)) + cond (marked gone (a + n)) 1 0 = ap (λ k. count_by (λ g. g) (slice_range gone a k)) e ∙ count_more gone a (a + n) (omega arith) (omega arith) true in
    let r : rank gone (a + suc n) ≡ rank gone (suc (a + n)) = ap (rank gone) f in
    elim (marked gone (a + n)) as (λ b. marked gone (a + n) ≡ b → rank gone (a + suc n) + count_by (λ g. g) (slice_range gone a (a + suc n)) ≡ rank gone a + suc n) [
      | true ↦ λ t. let k = rank_gone gone (a + n) t in let o : cond {A = ℕ} (marked gone (a + n)) 1 0 ≡ 1 = ap (λ b. cond {A = ℕ} b 1 0) t in omega arith
      | false ↦ λ t. let k = rank_kept gone (a + n) t in let o : cond {A = ℕ} (marked gone (a + n)) 1 0 ≡ 0 = ap (λ b. cond {A = ℕ} b 1 0) t in omega arith
    ] refl

-- ---- from one place to another ----

summed_to : (size : ℕ) (gone : List Bool) (counts : List ℕ) → AreCounts size gone counts → (a b : ℕ) → a ≤ b → b ≤ length counts → rank gone (b * size) + sum (slice_range counts a b) + a * size ≡ rank gone (a * size) + b * size
summed_to size gone counts c a b h l =
    let e : a + (b - a) ≡ b = omega arith in
    subst (λ k. rank gone (k * size) + sum (slice_range counts a k) + a * size ≡ rank gone (a * size) + k * size) e (summed size gone counts c a (b - a) (omega arith))

marks_to : (gone : List Bool) (a b : ℕ) → a ≤ b → b ≤ length gone → rank gone b + count_by (λ g. g) (slice_range gone a b) + a ≡ rank gone a + b
marks_to gone a b h l =
    let e : a + (b - a) ≡ b = omega arith in
    let m : rank gone b + count_by (λ g. g) (slice_range gone a b) ≡ rank gone a + (b - a) = subst (λ k. rank gone k + count_by (λ g. g) (slice_range gone a k) ≡ rank gone a + (b - a)) e (marks_summed gone a (b - a) (omega arith)) in
    omega arith

-- the groups before p
pub large_within : (gone : List Bool) (large : List ℕ) (p : ℕ) → AreCounts 4096 gone large → p ≤ length gone → p / 4096 < length large
large_within gone large p c h = div_below p 4096 (length large) (omega arith) (omega (arith, c.enough))

pub small_within : (gone : List Bool) (small : List ℕ) (p : ℕ) → AreCounts 64 gone small → p ≤ length gone → p / 64 < length small
small_within gone small p c h = div_below p 64 (length small) (omega arith) (omega (arith, c.enough))

first_sum : (gone : List Bool) (large : List ℕ) (p : ℕ) → AreCounts 4096 gone large → p ≤ length gone → rank gone (p / 4096 * 4096) + sum (slice_range large 0 (p / 4096)) ≡ p / 4096 * 4096
first_sum gone large p c h =
    let w = large_within gone large p c h in
    let s = summed_to 4096 gone large c 0 (p / 4096) (omega arith) (omega arith) in
    let z = rank_zero gone in
    omega arith

second_sum : (gone : List Bool) (small : List ℕ) (p : ℕ) → AreCounts 64 gone small → p ≤ length gone → rank gone (p / 64 * 64) + sum (slice_range small (p / 4096 * 64) (p / 64)) + p / 4096 * 4096 ≡ rank gone (p / 4096 * 4096) + p / 64 * 64
second_sum gone small p c h =
    let w = small_within gone small p c h in
    let s = summed_to 64 gone small c (p / 4096 * 64) (p / 64) (omega arith) (omega arith) in
    let e : rank gone (p / 4096 * 64 * 64) ≡ rank gone (p / 4096 * 4096) = ap (rank gone) (let m : p / 4096 * 64 * 64 ≡ p / 4096 * 4096 = omega arith in m) in
    omega arith

pub first_small : (gone : List Bool) (large : List ℕ) (p : ℕ) → AreCounts 4096 gone large → p ≤ length gone → sum (slice_range large 0 (p / 4096)) ≤ p
first_small gone large p c h = let s = first_sum gone large p c h in omega arith

pub second_small : (gone : List Bool) (small : List ℕ) (p : ℕ) → AreCounts 64 gone small → p ≤ length gone → sum (slice_range small (p / 4096 * 64) (p / 64)) ≤ p
second_small gone small p c h =
    let s = second_sum gone small p c h in
    let g = ranks_grow gone (p / 4096 * 4096) (p / 64 * 64) (omega arith) in
    omega arith

-- the kept places before p, and the three counts of the others
pub number_is : (gone : List Bool) (small large : List ℕ) (p a b d : ℕ) → AreCounts 64 gone small → AreCounts 4096 gone large → p ≤ length gone →
    a ≡ sum (slice_range large 0 (p / 4096)) → b ≡ sum (slice_range small (p / 4096 * 64) (p / 64)) → d ≡ count_by (λ g. g) (slice_range gone (p / 64 * 64) p) → rank gone p + a + b + d ≡ p
number_is gone small large p a b d s l h x y z =
    let first = first_sum gone large p l h in
    let second = second_sum gone small p s h in
    let last = marks_to gone (p / 64 * 64) p (omega arith) h in
    omega arith

-- ---- a place goes ----

-- of no other group
apart : (size k j : ℕ) → k < j → k * size + size ≤ j * size
apart size k j h =
    let e = suc-mul k size in
    let l : suc k * size ≤ j * size = mul-le-mul_right size (let m : suc k ≤ j = omega arith in m) in
    omega arith

pub gone_counted : (size : ℕ) (gone : List Bool) (counts : List ℕ) → AreCounts size gone counts → (p j : ℕ) → p < length gone → is_gone gone p ≡ false → j * size ≤ p → p < j * size + size → j < length counts →
    AreCounts size (slice_set gone p true) (slice_set counts j (slice_index counts j + 1))
gone_counted size gone counts c p j l e low high w = record {
  enough = omega (arith, c.enough, length-set gone p true, ap (λ n. n * size) (length-set counts j (slice_index counts j + 1)));
  counted = counted;
}
  where
    new : List Bool
    new = slice_set gone p true

    more : List ℕ
    more = slice_set counts j (slice_index counts j + 1)

    at : (k : ℕ) → k < length counts → (k ≡ j) ⊎ ((k < j) ⊎ (j < k)) → rank (slice_set gone p true) (k * size + size) + slice_index (slice_set counts j (slice_index counts j + 1)) k ≡ rank (slice_set gone p true) (k * size) + size
    at k h (inl s) =
        let m : k * size ≡ j * size = ap (λ n. n * size) s in
        let a = rank_set_before gone p (k * size) (omega arith) in
        let b = rank_set_behind gone p (k * size + size) l e (omega arith) in
        let n : slice_index (slice_set counts j (slice_index counts j + 1)) k ≡ slice_index counts j + 1 = ap (slice_index (slice_set counts j (slice_index counts j + 1))) s ∙ get_or-set_same counts j (slice_index counts j + 1) 0 w in
        let o : slice_index counts k ≡ slice_index counts j = ap (slice_index counts) s in
        let old = c.counted k h in
        omega arith
    at k h (inr (inl s)) =
        let m = apart size k j s in
        let a = rank_set_before gone p (k * size) (omega arith) in
        let b = rank_set_before gone p (k * size + size) (omega arith) in
        let n : slice_index (slice_set counts j (slice_index counts j + 1)) k ≡ slice_index counts k = get_or-set_other counts j k (slice_index counts j + 1) 0 (λ t. absurd (omega arith)) in
        let old = c.counted k h in
        omega arith
    at k h (inr (inr s)) =
        let m = apart size j k s in
        let a = rank_set_behind gone p (k * size) l e (omega arith) in
        let b = rank_set_behind gone p (k * size + size) l e (omega arith) in
        let n : slice_index (slice_set counts j (slice_index counts j + 1)) k ≡ slice_index counts k = get_or-set_other counts j k (slice_index counts j + 1) 0 (λ t. absurd (omega arith)) in
        let old = c.counted k h in
        omega arith

    counted : (k : ℕ) → k < length (slice_set counts j (slice_index counts j + 1)) → rank (slice_set gone p true) (k * size + size) + slice_index (slice_set counts j (slice_index counts j + 1)) k ≡ rank (slice_set gone p true) (k * size) + size
    counted k h = at k (omega (arith, h, length-set counts j (slice_index counts j + 1))) (cases_order k j)

-- a group has at most as many that are gone as it has places
pub count_small : (size : ℕ) (gone : List Bool) (counts : List ℕ) → AreCounts size gone counts → (j : ℕ) → j < length counts → slice_index counts j ≤ size
count_small size gone counts c j h =
    let here = c.counted j h in
    let g = ranks_grow gone (j * size) (j * size + size) (omega arith) in
    omega arith

-- ---- at first ----

pub none_counted : (size n : ℕ) (gone : List Bool) (counts : List ℕ) → 0 < size → gone ≡ replicate n false → counts ≡ replicate (n / size + 1) 0 → AreCounts size gone counts
none_counted size n gone counts s g e = record {
  enough = enough;
  counted = λ k h.
      let a : rank gone (k * size + size) ≡ k * size + size = ap (λ (l : List Bool). rank l (k * size + size)) g ∙ rank_whole n (k * size + size) in
      let b : rank gone (k * size) ≡ k * size = ap (λ (l : List Bool). rank l (k * size)) g ∙ rank_whole n (k * size) in
      let z : slice_index counts k ≡ 0 = ap (λ (l : List ℕ). slice_index l k) e ∙ get_or-replicate (n / size + 1) k 0 0 (omega (arith, h, many)) in
      omega arith;
}
  where
    many : length counts ≡ n / size + 1
    many = ap length e ∙ length-replicate (n / size + 1) 0

    enough : length gone < length counts * size
    enough =
        let l : length gone ≡ n = ap length g ∙ length-replicate n false in
        let m : length counts * size ≡ n / size * size + size = ap (λ k. k * size) many ∙ one_more_times (n / size) size in
        let d = div-add-mod' n size in
        let r = mod_below n size s in
        omega arith
