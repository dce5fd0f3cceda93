-- A print is a hash of the words that a sequence leaves in each state, mixed one after the other.
use Rattle.std.specs.Prelude.{ℕ, ◌+◌, ◌*◌, ◌%◌, ◌^◌, List, [], ◌∷◌, ◌++◌, Bool, if◌then◌else◌, bit_and, bit_xor, fold, map}
use Rattle.std.specs.Int.{w64, rotate_left, from_bool}
use Rattle.thumb_instr.specs.declared.instr.Instr.{Instr}
use Rattle.thumb_instr.specs.Items.{has}
use Rattle.thumb_model.specs.Effect.{Values, n_flag, z_flag, c_flag, v_flag, after_all}

abbrev pub mixed : ℕ → ℕ → ℕ
mixed h w = bit_xor (rotate_left w64 h 5) w * 0x9E3779B97F4A7C15 % 2 ^ 64

abbrev pub one_if : Bool → ℕ → List ℕ
one_if b x = if b then x ∷ [] else []

-- the flags as NZCV
abbrev pub nzcv_of : Values → ℕ
nzcv_of v = v n_flag * 8 + v z_flag * 4 + v c_flag * 2 + v v_flag

abbrev pub in_mask : ℕ → Values
in_mask mask x = from_bool (has mask x)

-- the mask's registers in order, then the flags, in which those outside the mask are 0
abbrev pub masked : ℕ → ℕ → ℕ → ℕ → ℕ → ℕ → List ℕ
masked mask a b c d flags = one_if (has mask 0) a ++ (one_if (has mask 1) b ++ (one_if (has mask 2) c ++ (one_if (has mask 3) d ++ flags ∷ [])))

unfoldable pub words_of : ℕ → Values → List ℕ
words_of mask v = masked mask (v 0) (v 1) (v 2) (v 3) (bit_and (nzcv_of v) (nzcv_of (in_mask mask)))

-- a print with the words of one more state
unfoldable pub with_words : ℕ → ℕ → Values → ℕ
with_words mask h v = fold mixed h (words_of mask v)

-- a print with the words of more states, each in turn
abbrev pub print_from : ℕ → ℕ → List Values → ℕ
print_from mask h vs = fold (with_words mask) h vs

-- the print of what a sequence leaves in states
abbrev pub print_after : ℕ → List Values → List Instr → ℕ
print_after mask states w = print_from mask 0 (map (after_all w) states)
