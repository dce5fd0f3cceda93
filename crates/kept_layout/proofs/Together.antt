-- Blocks that move together: paddings stay, if the sizes to which they align divide the distance.
use Rattle.std.proofs.Common.{◌≡◌, ◌∙◌, ℕ, zero, suc, ◌+◌, ◌-◌, ◌*◌, ◌/◌, ◌%◌, ◌≤◌, List, [], ◌∷◌, map, refl, sym, ap, arith, if◌then◌else◌, mul_assoc, add-mul, div-add-mod'}
use Rattle.std.specs.Prelude.{nat_le}
use Rattle.std.proofs.lemmas.Nat.{mod_below, mod-mul-add}
use Rattle.thumb_model.specs.Layout.{padding}
use Rattle.kept_layout.specs.declared.block.Head.{Head}
use Rattle.kept_layout.specs.declared.block.Head.TheVariants as head
use Rattle.kept_layout.specs.Blocks.{behind, end_from, padding_of, starts_from, Divides, IsAlignment, IsAlignmentOf, Footprint}

pub divides_on : (a b c : ℕ) → Divides a b → Divides b c → Divides a c
divides_on a b c h k = (k.0 * h.0, k.1 ∙ ap (λ n. k.0 * n) h.1 ∙ sym (mul_assoc k.0 h.0 a))

-- the remainder of an address stays where it moves by a multiple of the size
rest_stays : (size at d : ℕ) → Divides size d → d ≤ at → (at - d) % size ≡ at % size
rest_stays zero at d h k = ap (λ n. n % 0) (let e = h.1 in let z : h.0 * 0 ≡ 0 = omega arith in let f : at - d ≡ at = omega (arith, e, z, k) in f)
rest_stays (suc n) at d h k =
    let w : ℕ = suc n in
    let m : ℕ = (at - d) / w in
    let r : ℕ = (at - d) % w in
    let split : m * w + r ≡ at - d = div-add-mod' (at - d) w in
    let both : (h.0 + m) * w ≡ h.0 * w + m * w = add-mul h.0 m w in
    let all : at ≡ (h.0 + m) * w + r = whole at d (h.0 * w) (m * w) r ((h.0 + m) * w) k h.1 split both in
    sym (ap (λ x. x % w) all ∙ mod-mul-add (h.0 + m) w r (mod_below (at - d) w (omega arith)))
  where
    whole : (at d x y r z : ℕ) → d ≤ at → d ≡ x → y + r ≡ at - d → z ≡ x + y → at ≡ z + r
    whole at d x y r z k e f g = omega arith

padding_stays : (size most at d : ℕ) → Divides size d → d ≤ at → padding size most (at - d) ≡ padding size most at
padding_stays size most at d h k = ap (λ n. if nat_le ((size - n) % size) most then (size - n) % size else 0) (rest_stays size at d h k)

head_stays : (g d at : ℕ) (h : Head) → IsAlignmentOf g h → Divides g d → d ≤ at → padding_of h (at - d) ≡ padding_of h at
head_stays g d at head.Plain i k m = refl
head_stays g d at (head.Pads size most) i k m = padding_stays size most at d (divides_on size g d i k) m
head_stays g d at (head.Aims aim) i k m = refl

pub behind_moves : (g d at : ℕ) (s : Footprint) → IsAlignmentOf g s.head → Divides g d → d ≤ at → behind (at - d) s ≡ behind at s - d
behind_moves g d at s i k m = let e = head_stays g d at s.head i k m in omega (arith, e, m)

-- all begin as many bytes earlier as the first does, and the last ends as many earlier
pub starts_move : (g d at : ℕ) (ss : List Footprint) → IsAlignment g ss → Divides g d → d ≤ at → starts_from (at - d) ss ≡ map (λ a. a - d) (starts_from at ss)
starts_move g d at [] h k m = refl
starts_move g d at (s ∷ ss) h k m =
    ap (λ (rest : List ℕ). (at - d) ∷ rest) (ap (λ n. starts_from n ss) (behind_moves g d at s h.0 k m) ∙ starts_move g d (behind at s) ss h.1 k (omega arith))

pub end_moves : (g d at : ℕ) (ss : List Footprint) → IsAlignment g ss → Divides g d → d ≤ at → end_from (at - d) ss ≡ end_from at ss - d
end_moves g d at [] h k m = refl
end_moves g d at (s ∷ ss) h k m = ap (λ n. end_from n ss) (behind_moves g d at s h.0 k m) ∙ end_moves g d (behind at s) ss h.1 k (omega arith)
