-- The items (registers and flags) by number, sets of them as the bits of a word, and the distances that branches can encode.
use Rattle.std.specs.Prelude.{ℕ, ◌<◌, ◌==◌, ◌&&◌, ◌||◌, nat_lt, nat_le, Bool, false, List, [], ◌∷◌, ◌≡◌, ◌+◌, ◌-◌, ◌*◌, ◌%◌, ℤ, pos, negsuc, if◌then◌else◌}
use Rattle.std.specs.Int.{bit_at}

-- Items: the registers r0 to r12, sp, lr and the flags N, Z, C, V, by number, and sets of them as the bits of a word.

abbrev pub sp : ℕ
sp = 13

abbrev pub lr : ℕ
lr = 14

abbrev pub n_flag : ℕ
n_flag = 15

abbrev pub z_flag : ℕ
z_flag = 16

abbrev pub c_flag : ℕ
c_flag = 17

abbrev pub v_flag : ℕ
v_flag = 18

-- every number of the list is an item's
abbrev pub AreItems : List ℕ → Type 0
AreItems [] = Unit {0}
AreItems (x ∷ xs) = (x < 19) × AreItems xs

-- whether x is in the list
abbrev pub one_of : ℕ → List ℕ → Bool
one_of x [] = false
one_of x (y ∷ ys) = (x == y) || one_of x ys

-- whether the word has the bit of x
abbrev pub has : ℕ → ℕ → Bool
has w x = bit_at w x == 1

-- whether an item may be in masks: r0 to r3 and the flags
abbrev pub is_in_masks : ℕ → Bool
is_in_masks x = nat_lt x 4 || (nat_le 15 x && nat_lt x 19)

-- The distance of a branch, and the field of its encoding.

-- SignExtend(field:'0'): twice the field, which is read in two's complement modulo 2 * half
abbrev pub bytes_of : ℕ → ℕ → ℤ
bytes_of half field = if nat_lt field half then pos (field * 2) else negsuc ((2 * half - 1 - field) * 2 + 1)

-- an even number from - 2 * half to below 2 * half
abbrev pub IsDistance : ℕ → ℤ → Type 0
IsDistance half (pos n) = (n % 2 ≡ 0) × (n < 2 * half)
IsDistance half (negsuc n) = (n % 2 ≡ 1) × (n < 2 * half)
