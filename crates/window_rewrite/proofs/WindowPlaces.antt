-- Where a window stands among places.
use Rattle.std.proofs.Common.{◌≡◌, ℕ, ◌+◌, ◌<◌, ◌≤◌, true, List, [], ◌∷◌, length, take, drop, map, sym, ap, ◌∙◌, arith}
use Rattle.std.specs.Prelude.{slice_get}
use Rattle.thumb_instr.specs.declared.instr.Instr.{Instr}
use Rattle.thumb_model.specs.Listing.{Place, plain, is_op_place}
use Rattle.thumb_model.proofs.Lists.{get_drop, get_take, length_map, take_short, length_drop}

-- an instruction stands where a window begins
pub first_op : (window : List Instr) (n : ℕ) (places : List Place) (q : ℕ) → length window ≡ n → 0 < n → take n (drop q places) ≡ map plain window → is_op_place (slice_get places q) ≡ true
first_op [] n places q l h e = absurd (omega arith)
first_op (i ∷ is) n places q l h e =
    ap is_op_place (sym (get_drop q places 0 q (omega arith)) ∙ sym (get_take n (drop q places) 0 h) ∙ ap (λ (ps : List Place). slice_get ps 0) e)

-- and the window ends among the places
pub window_within : (window : List Instr) (n : ℕ) (places : List Place) (q : ℕ) → length window ≡ n → 0 < n → take n (drop q places) ≡ map plain window → q + n ≤ length places
window_within window n places q l h e =
    let k = length_map plain window in
    let w : length (take n (drop q places)) ≡ length (map plain window) = ap (λ (ps : List Place). length ps) e in
    let short = take_short n (drop q places) in
    let rest = length_drop q places in
    omega arith
