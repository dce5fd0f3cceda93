-- Two sides of slots formed from one start: the clause that they differ is true exactly for the states that tell them apart.
use Rattle.std.proofs.Common.{◌≡◌, ◌≢◌, ℕ, ◌+◌, ◌-◌, ◌<◌, ◌≤◌, ◌⊎◌, inl, inr, List, Bool, true, ◌&&◌, nat_le, nat_lt, length, sym, ap, ◌∙◌, arith, ⊎_elim, subst, map}
use Rattle.std.proofs.lemmas.Bool.{and_parts, and_from, or_cases, ltb-true, leb-true}
use Rattle.cnf_gates.specs.declared.bit.Bit.{Bit}
use Rattle.cnf_gates.specs.Gates.{Built, or_clause_of}
use Rattle.cnf_gates.specs.Meaning.{any_value, all_true, GatesHold}
use Rattle.cnf_gates.specs.Growth.{AllBelow, Ready, Grows}
use Rattle.cnf_gates.proofs.Giving.{Grows-then, all_later}
use Rattle.cnf_gates.proofs.Chosen.{all_true-or_clause_of}
use Rattle.cnf_gates.proofs.Order.{extended, extended-below, GatesHold-extended}
use Rattle.thumb_instr.specs.declared.instr.Instr.{Instr}
use Rattle.thumb_instr.specs.Items.{has}
use Rattle.thumb_model.specs.Effect.{Values, after_all, AreOver}
use Rattle.window_exec.specs.State.{Tells}
use Rattle.bit_blast.specs.declared.slots.Slot.{Slot}
use Rattle.bit_blast.specs.Slots.{Byte, filled, AreSlotsOver}
use Rattle.bit_blast.specs.Forming.{Bits, formed_all}
use Rattle.bit_blast.specs.Differences.{start_bits, differences, sides_from, formula_from}
use Rattle.bit_blast.specs.Exactness.{number_of, values_at, start_values, IsMask, IsMaskOver, SameOver}
use Rattle.bit_blast.proofs.Ends.{length-words_from}
use Rattle.bit_blast.proofs.Extends.{Extends, Extends-then}
use Rattle.bit_blast.proofs.Holes.{filled_over}
use Rattle.bit_blast.proofs.Formed.{AreOf, AreOf-more, bound_of, run_gives}
use Rattle.bit_blast.proofs.Telling.{differences_give, all_differ, differ_shows, register_found, flag_found}
use Rattle.bit_blast.proofs.Frame.{after_all_same}
use Rattle.bit_blast.proofs.Ranges.{or_variables}

-- a start with the bits of k registers and the flags, and w as those of a symbol's value
pub record IsStart (low k : ℕ) (b : Built) (w : List Bit) (at : (ℕ → Bool) → Byte) : Type 0 where
  pub ready : Ready low b
  pub are : AreOf b.variables (start_bits k)
  pub wide : length w ≡ 32
  pub below : AllBelow b.variables w
  pub is : (m : ℕ → Bool) → number_of m w ≡ (at m).number

-- the properties of the two sides once they are formed
pub record SidesGive (left right : List Slot) (mask k : ℕ) (b : Built) (w : List Bit) (at : (ℕ → Bool) → Byte) : Type 0 where
  pub grows : Grows (bound_of left + bound_of right + 132) b (sides_from b (start_bits k) w left right mask).0
  pub extends : Extends b (sides_from b (start_bits k) w left right mask).0
  pub value : (m : ℕ → Bool) → GatesHold m (sides_from b (start_bits k) w left right mask).0.gates
      → any_value m (sides_from b (start_bits k) w left right mask).1 ≡ all_differ mask m (formed_all w b left (start_bits k)).1 (formed_all w (formed_all w b left (start_bits k)).0 right (start_bits k)).1
  pub left_values : (m : ℕ → Bool) → GatesHold m (sides_from b (start_bits k) w left right mask).0.gates → (x : ℕ) → values_at m (formed_all w b left (start_bits k)).1 x ≡ after_all (map (filled (at m)) left) (start_values m k) x
  pub right_values : (m : ℕ → Bool) → GatesHold m (sides_from b (start_bits k) w left right mask).0.gates → (x : ℕ) → values_at m (formed_all w (formed_all w b left (start_bits k)).0 right (start_bits k)).1 x ≡ after_all (map (filled (at m)) right) (start_values m k) x
  pub left_count : length (formed_all w b left (start_bits k)).1.r ≡ k
  pub right_count : length (formed_all w (formed_all w b left (start_bits k)).0 right (start_bits k)).1.r ≡ k

pub start_count : (k : ℕ) → length (start_bits k).r ≡ k
start_count k = length-words_from 0 k

-- an item of a mask is one of r0 to r3 below k, or a flag
pub mask_item : (mask k x : ℕ) → IsMask mask → IsMaskOver k mask → has mask x ≡ true → ((x < 4) × (x < k)) ⊎ ((15 ≤ x) × (x < 19))
mask_item mask k x in_masks over on =
    ⊎_elim
    (λ (low : nat_lt x 4 ≡ true).
    let small : x < 4 = ltb-true x 4 low in
    ⊎_elim
    (λ (there : x < k). inl (small, there))
    (λ (far : 15 ≤ x). absurd (omega arith))
    (over x on))
    (λ (flag : (nat_le 15 x && nat_lt x 19) ≡ true).
    let parts = and_parts (nat_le 15 x) (nat_lt x 19) flag in
    inr (leb-true 15 x parts.0, ltb-true x 19 parts.1))
    (or_cases (nat_lt x 4) (nat_le 15 x && nat_lt x 19) (in_masks x on))

item_scope : (k x : ℕ) → ((x < 4) × (x < k)) ⊎ ((15 ≤ x) × (x < 19)) → ((x < k) × (x < 15)) ⊎ ((15 ≤ x) × (x < 19))
item_scope k x place = ⊎_elim (λ (p : (x < 4) × (x < k)). inl (p.1, (let small : x < 4 = p.0 in omega arith))) (λ (p : (15 ≤ x) × (x < 19)). inr p) place

-- a state with the same r0 to r3 and flags as one that tells the sides apart tells them apart too
pub same_states_tell : (left right : List Instr) (mask k : ℕ) → AreOver k left → AreOver k right → IsMask mask → IsMaskOver k mask → k ≤ 4 → (v w : Values) → SameOver 4 v w → Tells w left right mask → Tells v left right mask
same_states_tell left right mask k over_left over_right in_masks over few v w same t =
    let x : ℕ = t.0 in
    let part : SameOver k v w = λ y p. same y (⊎_elim (λ (q : (y < k) × (y < 15)). inl ((let z : y < k = q.0 in omega arith), q.1)) (λ (q : (15 ≤ y) × (y < 19)). inr q) p) in
    let scope = item_scope k x (mask_item mask k x in_masks over t.1) in
    (x, t.1, λ e. t.2 (sym (after_all_same k left v w part over_left x scope) ∙ e ∙ after_all_same k right v w part over_right x scope))

module _ (low k : ℕ) (b : Built) (w : List Bit) (at : (ℕ → Bool) → Byte) (start : IsStart low k b w at) (left right : List Slot) (mask : ℕ) (over_left : AreSlotsOver k left) (over_right : AreSlotsOver k right) where
  pub sides_give : SidesGive left right mask k b w at
  sides_give =
      let s = start_bits k in
      let l = formed_all w b left s in
      let lg = run_gives low w at start.wide start.is b s left start.ready start.are start.below (subst (λ n. AreSlotsOver n left) (sym (start_count k)) over_left) in
      let kl = lg.goes.grows.ready low start.ready in
      let r = formed_all w l.0 right s in
      let rg = run_gives low w at start.wide start.is l.0 s right kl (AreOf-more b.variables l.0.variables s lg.goes.grows.more start.are) (all_later (bound_of left) b l.0 w lg.goes.grows start.below) (subst (λ n. AreSlotsOver n right) (sym (start_count k)) over_right) in
      let kr = rg.goes.grows.ready low kl in
      let d = differences r.0 mask l.1 r.1 in
      let dg = differences_give low r.0 mask l.1 r.1 kr (AreOf-more l.0.variables r.0.variables l.1 rg.goes.grows.more lg.are) rg.are in
      record {
        grows = Grows-then (bound_of left + bound_of right) 132 b r.0 d.0 (Grows-then (bound_of left) (bound_of right) b l.0 r.0 lg.goes.grows rg.goes.grows) dg.goes.grows;
        extends = Extends-then b r.0 d.0 dg.goes.grows.kept (Extends-then b l.0 r.0 rg.goes.grows.kept lg.goes.extends rg.goes.extends) dg.goes.extends;
        value = dg.value;
        left_values = λ m holds x. lg.value m (rg.goes.grows.kept m (dg.goes.grows.kept m holds)) x;
        right_values = λ m holds x. rg.value m (dg.goes.grows.kept m holds) x;
        left_count = lg.count ∙ start_count k;
        right_count = rg.count ∙ start_count k;
      }

  -- ---- models tell

  pub model_tells : (m : ℕ → Bool) → all_true m (formula_from b (start_bits k) w left right mask).clauses ≡ true
      → (all_true m b.clauses ≡ true) × Tells (start_values m k) (map (filled (at m)) left) (map (filled (at m)) right) mask
  model_tells m h =
      let d = sides_from b (start_bits k) w left right mask in
      let g = sides_give in
      let parts : (all_true m d.0.clauses ≡ true) × (any_value m d.1 ≡ true) = and_parts (all_true m d.0.clauses) (any_value m d.1) (sym (all_true-or_clause_of m d.0 d.1) ∙ h) in
      let holds = (g.grows.ready low start.ready).sound m parts.0 in
      let l = (formed_all w b left (start_bits k)).1 in
      let r = (formed_all w (formed_all w b left (start_bits k)).0 right (start_bits k)).1 in
      let found = differ_shows mask m l r (sym (g.value m holds) ∙ parts.1) in
      (g.extends.back m parts.0, (found.0, found.1.0, λ same. found.1.1 (g.left_values m holds found.0 ∙ same ∙ sym (g.right_values m holds found.0))))

  -- ---- and tellers are models: truth values for the variables of the start that give the state v and the value x, and make the start's clauses true

  pub teller_is_model : (x : Byte) (v : Values) (m : ℕ → Bool) → IsMask mask → IsMaskOver k mask
      → ((n : ℕ → Bool) → ((u : ℕ) → u < low → n u ≡ m u) → (at n ≡ x) × SameOver k (start_values n k) v × (all_true n b.clauses ≡ true))
      → Tells v (map (filled x) left) (map (filled x) right) mask
      → (n : ℕ → Bool) × ((u : ℕ) → u < low → n u ≡ m u) × (all_true n (formula_from b (start_bits k) w left right mask).clauses ≡ true)
  teller_is_model y v m in_masks over gives t =
      let d = sides_from b (start_bits k) w left right mask in
      let g = sides_give in
      let ready = g.grows.ready low start.ready in
      let n : ℕ → Bool = extended m d.0.gates in
      let holds = GatesHold-extended m low d.0.variables d.0.gates ready.order in
      let agree : (u : ℕ) → u < low → n u ≡ m u = λ u p. extended-below m low d.0.variables d.0.gates u ready.order p in
      let given = gives n agree in
      let l = (formed_all w b left (start_bits k)).1 in
      let r = (formed_all w (formed_all w b left (start_bits k)).0 right (start_bits k)).1 in
      let x : ℕ = t.0 in
      let place = mask_item mask k x in_masks over t.1 in
      let scope = item_scope k x place in
      let after_left = ap (λ z. after_all (map (filled z) left) (start_values n k) x) given.0 ∙ after_all_same k (map (filled y) left) (start_values n k) v given.1 (filled_over k y left over_left) x scope in
      let after_right = ap (λ z. after_all (map (filled z) right) (start_values n k) x) given.0 ∙ after_all_same k (map (filled y) right) (start_values n k) v given.1 (filled_over k y right over_right) x scope in
      let differs : values_at n l x ≢ values_at n r x = λ e. t.2 (sym after_left ∙ sym (g.left_values n holds x) ∙ e ∙ g.right_values n holds x ∙ after_right) in
      let told : all_differ mask n l r ≡ true =
      ⊎_elim
      (λ (p : (x < 4) × (x < k)). register_found mask n l r x p.0 (subst (λ c. x < c) (sym g.left_count) p.1) (subst (λ c. x < c) (sym g.right_count) p.1) (t.1, differs))
      (λ (p : (15 ≤ x) × (x < 19)).
      let least : 15 ≤ x = p.0 in
      let below : x < 19 = p.1 in
      let e : x ≡ 15 + (x - 15) = omega arith in
      flag_found mask n l r (x - 15) (omega arith) (subst (λ y. (has mask y ≡ true) × (values_at n l y ≢ values_at n r y)) e (t.1, differs)))
      place in
      (n, agree, all_true-or_clause_of n d.0 d.1 ∙ and_from (all_true n d.0.clauses) (any_value n d.1) (g.extends.forth n holds given.2) (g.value n holds ∙ told))

  -- ---- few variables

  pub few_from : (formula_from b (start_bits k) w left right mask).variables ≤ b.variables + (bound_of left + bound_of right + 132)
  few_from =
      let d = sides_from b (start_bits k) w left right mask in
      let most : d.0.variables ≤ b.variables + (bound_of left + bound_of right + 132) = sides_give.grows.most in
      let count : (or_clause_of d.0 d.1).variables ≡ d.0.variables = or_variables d.0 d.1 in
      omega arith

-- equal arguments give equal formulas
pub same_formula : (b c : Built) (s t : Bits) (w x : List Bit) (left left' right right' : List Slot) (mask : ℕ) → b ≡ c → s ≡ t → w ≡ x → left ≡ left' → right ≡ right' → formula_from b s w left right mask ≡ formula_from c t x left' right' mask
same_formula b c s t w x left left' right right' mask eb es ew el er =
    ap (λ d. formula_from d s w left right mask) eb ∙ ap (λ d. formula_from c d w left right mask) es ∙ ap (λ d. formula_from c t d left right mask) ew
    ∙ ap (λ d. formula_from c t x d right mask) el ∙ ap (λ d. formula_from c t x left' d mask) er

-- slots over the registers of a start
pub over_start : (k : ℕ) (s : Bits) (xs ys : List Slot) → s ≡ start_bits k → xs ≡ ys → AreSlotsOver k ys → AreSlotsOver (length s.r) xs
over_start k s xs ys es ex h = subst (λ n. AreSlotsOver n xs) (sym (ap (λ t. length t.r) es ∙ start_count k)) (subst (AreSlotsOver k) (sym ex) h)
