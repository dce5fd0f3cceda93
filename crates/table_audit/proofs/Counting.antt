-- The steps of a loop are the sum of its elements' shares.
use Rattle.std.proofs.Common.{ℕ, ◌≡◌, ◌<◌, ◌≤◌, ◌+◌, List, Some, length, get_or, slice_get, sum_by, take, ap, arith}
use Rattle.std.proofs.lemmas.Option.{slice_get_within, get_or_from_slice_get}
use Rattle.std.proofs.lemmas.List.Sums.{sum_by_more, sum_by_more_le, sum_by-take-le}

-- one entry more, and all of them
pub entries_next : {X : Type 0} (f : X → ℕ) (xs : List X) (i start before after : ℕ) (x : X) → slice_get xs i ≡ Some x → before ≤ start + sum_by f (take i xs) → after ≤ before + f x
    → after ≤ start + sum_by f (take (i + 1) xs)
entries_next f xs i start before after x at h k =
    let low : i < length xs = slice_get_within xs i x at in
    let here : f (get_or xs i x) ≡ f x = ap f (get_or_from_slice_get xs i x x at) in
    omega (arith, h, k, sum_by_more f xs i x low, here)

pub entries_stop : {X : Type 0} (f : X → ℕ) (xs : List X) (i start before after : ℕ) (x : X) → slice_get xs i ≡ Some x → before ≤ start + sum_by f (take i xs) → after ≤ before + f x
    → after ≤ start + sum_by f xs
entries_stop f xs i start before after x at h k =
    let low : i < length xs = slice_get_within xs i x at in
    let here : f (get_or xs i x) ≡ f x = ap f (get_or_from_slice_get xs i x x at) in
    omega (arith, h, k, sum_by_more_le f xs i x low, here)

pub entries_end : {X : Type 0} (f : X → ℕ) (xs : List X) (i start after : ℕ) → after ≤ start + sum_by f (take i xs) → after ≤ start + sum_by f xs
entries_end f xs i start after h = omega (arith, h, sum_by-take-le f xs i)
