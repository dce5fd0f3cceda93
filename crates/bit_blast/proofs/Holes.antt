-- Sides of slots, and the instructions that they become for a value of the symbol.
use Rattle.std.proofs.Common.{◌≡◌, ℕ, List, [], ◌∷◌, Bool, true, false, cond, eqb, map, length, refl, sym, ap, ◌∙◌}
use Rattle.std.proofs.lemmas.Bool.{eqb-true}
use Rattle.std.proofs.lemmas.List.{length-map}
use Rattle.thumb_instr.specs.declared.instr.Instr.{Instr}
use Rattle.thumb_instr.specs.declared.instr.Instr.TheVariants as instr
use Rattle.thumb_instr.specs.Window.{named, AreBelow, is_in_window}
use Rattle.thumb_instr.proofs.Registers.{same_number}
use Rattle.thumb_model.specs.Effect.{AreOver}
use Rattle.bit_blast.specs.declared.slots.Slot.{Slot}
use Rattle.bit_blast.specs.declared.slots.Slot.TheVariants.{Plain, Hole}
use Rattle.bit_blast.specs.Slots.{Byte, filled, slot, slots, instance, IsSlotOver, AreSlotsOver}

-- a property of both branches of a conditional holds of the conditional
pub by_test : {A : Type 0} (P : A → Type 0) (t : Bool) (x y : A) → (t ≡ true → P x) → (t ≡ false → P y) → P (cond t x y)
by_test P true x y h k = h refl
by_test P false x y h k = k refl

-- ---- which registers slots name

slot_over : (k n : ℕ) (i : Instr) → is_in_window i ≡ true → AreBelow k (named i) → IsSlotOver k (slot n i)
slot_over k n (instr.TwoNumber o d j) w h = by_test (IsSlotOver k) (eqb j.number n) (Hole o d) (Plain (instr.TwoNumber o d j)) (λ _. h.0) (λ _. (w, h))
slot_over k n i w h = (w, h)

pub slots_over : (k n : ℕ) (side : List Instr) → AreOver k side → AreSlotsOver k (slots n side)
slots_over k n [] h = tt
slots_over k n (i ∷ is) h = (slot_over k n i h.0 h.1, slots_over k n is h.2)

pub plain_over : (k : ℕ) (side : List Instr) → AreOver k side → AreSlotsOver k (map Plain side)
plain_over k [] h = tt
plain_over k (i ∷ is) h = ((h.0, h.1), plain_over k is h.2)

pub filled_over : (k : ℕ) (x : Byte) (xs : List Slot) → AreSlotsOver k xs → AreOver k (map (filled x) xs)
filled_over k x [] h = tt
filled_over k x (Plain i ∷ xs) h = (h.0.0, h.0.1, filled_over k x xs h.1)
filled_over k x (Hole o d ∷ xs) h = (refl, (h.0, tt), filled_over k x xs h.1)

-- ---- the instructions for a value

pub filled_plain : (x : Byte) (side : List Instr) → map (filled x) (map Plain side) ≡ side
filled_plain x [] = refl
filled_plain x (i ∷ is) = ap (λ l. i ∷ l) (filled_plain x is)

slot_itself : (n : Byte) (i : Instr) → filled n (slot n.number i) ≡ i
slot_itself n (instr.TwoNumber o d j) =
    by_test (λ s. filled n s ≡ instr.TwoNumber o d j) (eqb j.number n.number) (Hole o d) (Plain (instr.TwoNumber o d j))
    (λ t. ap (λ (y : Byte). instr.TwoNumber o d y) (same_number n j (sym (eqb-true j.number n.number t))))
    (λ _. refl)
slot_itself n i = refl

pub side_itself : (n : Byte) (side : List Instr) → instance n.number side n ≡ side
side_itself n [] = refl
side_itself n (i ∷ is) = ap (λ x. x ∷ instance n.number is n) (slot_itself n i) ∙ ap (λ l. i ∷ l) (side_itself n is)

slot_named : (n : ℕ) (x : Byte) (i : Instr) → named (filled x (slot n i)) ≡ named i
slot_named n x (instr.TwoNumber o d j) = by_test (λ s. named (filled x s) ≡ named (instr.TwoNumber o d j)) (eqb j.number n) (Hole o d) (Plain (instr.TwoNumber o d j)) (λ _. refl) (λ _. refl)
slot_named n x i = refl

slot_window : (n : ℕ) (x : Byte) (i : Instr) → is_in_window (filled x (slot n i)) ≡ is_in_window i
slot_window n x (instr.TwoNumber o d j) = by_test (λ s. is_in_window (filled x s) ≡ true) (eqb j.number n) (Hole o d) (Plain (instr.TwoNumber o d j)) (λ _. refl) (λ _. refl)
slot_window n x i = refl

pub side_length : (n : ℕ) (side : List Instr) (x : Byte) → length (instance n side x) ≡ length side
side_length n side x = length-map (slots n side) (filled x) ∙ length-map side (slot n)

pub side_named : (n : ℕ) (side : List Instr) (x : Byte) → map named (instance n side x) ≡ map named side
side_named n [] x = refl
side_named n (i ∷ is) x = ap (λ r. r ∷ map named (instance n is x)) (slot_named n x i) ∙ ap (λ l. named i ∷ l) (side_named n is x)

pub side_window : (n : ℕ) (side : List Instr) (x : Byte) → map is_in_window (instance n side x) ≡ map is_in_window side
side_window n [] x = refl
side_window n (i ∷ is) x = ap (λ r. r ∷ map is_in_window (instance n is x)) (slot_window n x i) ∙ ap (λ l. is_in_window i ∷ l) (side_window n is x)
