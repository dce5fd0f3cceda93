-- A rule whose sides are equal keeps the runs where it applies.
use Rattle.std.proofs.Common.{◌≡◌, ℕ, suc, ◌+◌, ◌-◌, ◌<◌, ◌≤◌, true, false, List, [], ◌∷◌, ◌++◌, length, length-append, take, drop, map, Option, Some, None, refl, sym, ap, ◌∙◌, subst, inl, inr, arith}
use Rattle.std.specs.Prelude.{slice_get}
use Rattle.thumb_instr.specs.declared.instr.Instr.{Instr}
use Rattle.thumb_instr.specs.declared.instr.Instr.TheVariants as instr
use Rattle.thumb_instr.specs.Shape.{uses_of, writes_of}
use Rattle.thumb_instr.specs.Window.{is_in_window, Low, named, renamed}
use Rattle.thumb_instr.proofs.RenamingLemmas.{window_renamed}
use Rattle.thumb_model.specs.Effect.{Values, after_all, register_count, AreOver, normalised}
use Rattle.thumb_model.specs.Listing.{Place, plain, Code, is_op_place, is_code, is_call_instr}
use Rattle.thumb_model.specs.Steps.{aim_of}
use Rattle.thumb_model.specs.Flow.{way, ways_of, ways_on, Onward, Reads, LiveAfter}
use Rattle.rule_model.specs.Rules.{Rule, rule_registers, IsSoundRule, Applies}
use Rattle.thumb_model.specs.Replaced.{replaced, move_label}
use Rattle.thumb_model.proofs.Lists.{get_drop, get_take, length_map, take_all, take_short, length_drop}
use Rattle.thumb_model.proofs.Moved.{IsReplacement, AreNoCalls}
use Rattle.thumb_model.proofs.Window.{StandsAt, AreStraight, sides_agree, normal_in_window, normal_after}
use Rattle.thumb_model.proofs.Follow.{IsSound, stands_from, Keeps, replaced_keeps}
use Rattle.thumb_model.proofs.Small.{below_more as below_wider}

straight : (registers : List Low) (k : ℕ) (is : List Instr) → AreOver k is → AreStraight (map (renamed registers) is)
straight registers k [] h = tt
straight registers k (i ∷ is) h = (window_renamed registers i (h.0), straight registers k is h.2)

-- instructions whose normal forms may stand in windows may stand there themselves
straight_window : (is js : List Instr) → map normalised is ≡ js → AreStraight js → AreStraight is
straight_window [] js e h = tt
straight_window (i ∷ is) [] e h = absurd (cc)
straight_window (i ∷ is) (j ∷ js) e h =
    let here : normalised i ≡ j = cc in
    let there : map normalised is ≡ js = cc in
    (sym (normal_in_window i) ∙ ap is_in_window here ∙ h.0, straight_window is js there h.1)

-- a row: what may stand in a window goes on alone
pub one_way : (aim : Option ℕ) (i : Instr) → is_in_window i ≡ true → ways_of aim i ≡ way (uses_of i) (writes_of i) Onward ∷ []
one_way aim (instr.Mov d m) h = refl
one_way aim i h = cc

-- what is read from the place after a straight instruction is live after it
pub live_there : (code : Code) (p : ℕ) (i : Instr) → slice_get code.places p ≡ Some (plain i) → is_in_window i ≡ true → (x : ℕ) → Reads code x (p + 1) → LiveAfter code p x
live_there code p i e h x r =
    (0, way (uses_of i) (writes_of i) Onward, p + 1, ap (λ (o : Option Place). slice_get (ways_on code o) 0) e ∙ ap (λ ws. slice_get ws 0) (one_way (aim_of code None) i h), refl, r)

last_of : (is : List Instr) → 0 < length is → AreStraight is → (i : Instr) × (slice_get (map plain is) (length is - 1) ≡ Some (plain i)) × (is_in_window i ≡ true)
last_of [] l s = absurd (omega arith)
last_of (i ∷ []) l s = (i, refl, s.0)
last_of (i ∷ j ∷ is) l s =
    let r = last_of (j ∷ is) (omega arith) s.1 in
    (r.0, ap (slice_get (map plain (i ∷ j ∷ is))) (let e : length (i ∷ j ∷ is) - 1 ≡ suc (length (j ∷ is) - 1) = omega arith in e) ∙ r.1, r.2)

-- a row: what may stand in a window is no call
pub no_call : (i : Instr) → is_in_window i ≡ true → is_call_instr i ≡ false
no_call (instr.Blx m) h = absurd (cc)
no_call (instr.Call d) h = absurd (cc)
no_call i h = refl

no_calls : (is : List Instr) → AreStraight is → AreNoCalls (map plain is)
no_calls [] h = tt
no_calls (i ∷ is) h = (no_call i h.0, no_calls is h.1)

-- the window has as many instructions as the left side
pub window_length : (rule : Rule) (registers : List Low) (code : Code) (p : ℕ) → (a : Applies rule registers code p) → length a.window ≡ length rule.left
window_length rule registers code p a = sym (length_map normalised a.window) ∙ ap length a.matches ∙ length_map (renamed registers) rule.left

pub over_wider : (j k : ℕ) (is : List Instr) → j ≤ k → AreOver j is → AreOver k is
over_wider j k [] l h = tt
over_wider j k (i ∷ is) l h = (h.0, below_wider j k (named i) l h.1, over_wider j k is l h.2)

-- a rule whose sides are equal makes a sound replacement where it applies
pub applies_sound : (rule : Rule) (registers : List Low) (code : Code) (p : ℕ) → IsSoundRule rule → 0 < length rule.left → (a : Applies rule registers code p) → IsSound code p a.window (map (renamed registers) rule.right)
applies_sound rule registers code p eq some a =
    let l : List Instr = a.window in
    let r : List Instr = map (renamed registers) rule.right in
    let n : length l ≡ length rule.left = window_length rule registers code p a in
    let m : length r ≡ length rule.right = length_map (renamed registers) rule.right in
    let as_many = a.as_many in
    let no_longer = eq.no_longer in
    let left_over : AreOver (length registers) rule.left = over_wider (register_count rule.left) (length registers) rule.left (omega arith) eq.left in
    let right_over : AreOver (length registers) rule.right = subst (λ k. AreOver k rule.right) (sym as_many) eq.right in
    let op : List Place = map plain l in
    let k : length op ≡ length l = length_map plain l in
    let w : length (take (length rule.left) (drop p code.places)) ≡ length op = ap length a.stands in
    let stands : StandsAt code.places p l =
    stands_from code.places p l (λ j lt. sym (get_drop p code.places j (p + j) refl) ∙ sym (get_take (length rule.left) (drop p code.places) j (omega arith)) ∙ ap (λ xs. slice_get xs j) a.stands) in
    let straight_l : AreStraight l = straight_window l (map (renamed registers) rule.left) a.matches (straight registers (register_count rule.left) rule.left eq.left) in
    let straight_r : AreStraight r = straight registers (rule_registers rule) rule.right eq.right in
    let last = last_of l (omega arith) straight_l in
    let at_last : slice_get code.places (p + length rule.left - 1) ≡ Some (plain last.0) =
    sym (get_drop p code.places (length l - 1) (p + length rule.left - 1) (omega arith)) ∙ sym (get_take (length rule.left) (drop p code.places) (length l - 1) (omega arith)) ∙ ap (λ xs. slice_get xs (length l - 1)) a.stands ∙ last.1 in
    let short = take_short (length rule.left) (drop p code.places) in
    let rest = length_drop p code.places in
    record {
      fits_in = subst (λ c. IsReplacement code p c r) (sym n) (record {
        within = omega arith;
        some = omega arith;
        no_longer = omega arith;
        first = first_is l (omega arith) stands;
        no_call = subst AreNoCalls (sym a.stands) (no_calls l straight_l);
        no_new_call = no_calls r straight_r;
        unlabelled = a.unlabelled;
        labels_stay = λ j b e t. subst (λ c. is_code (replaced code p (length rule.left) r).places (move_label p (length rule.left - c) b) ≡ true) (sym m) (a.labels_stay j b e t);
      });
      stands = stands;
      left_straight = straight_l;
      right_straight = straight_r;
      agree = λ t words x rd.
          let rd' : Reads code x (p + length rule.left - 1 + 1) = subst (Reads code x) (let e : p + length l ≡ p + length rule.left - 1 + 1 = omega arith in e) rd in
          let live = a.live x (live_there code (p + length rule.left - 1) last.0 at_last last.2 x rd') in
          let sides = sides_agree registers (omega (arith, a.as_many, eq.few)) a.one_to_one rule.left rule.right rule.mask t eq.equal left_over right_over (λ y m. elim (eq.mask y m) [ inl l ↦ inl (omega arith) | inr l ↦ inr l ]) words x live in
          ap (λ (v : Values). v x) (sym (normal_after l t) ∙ ap (λ (is : List Instr). after_all is t) a.matches) ∙ sides;
    }
  where
    first_is : (is : List Instr) → 0 < length is → StandsAt code.places p is → is_op_place (slice_get code.places p) ≡ true
    first_is [] h s = absurd (omega arith)
    first_is (i ∷ is) h s = ap is_op_place s.0

-- one replacement by a sound rule
pub one_keeps : (rule : Rule) (registers : List Low) (code : Code) (p : ℕ) → IsSoundRule rule → 0 < length rule.left → Applies rule registers code p → Keeps code (replaced code p (length rule.left) (map (renamed registers) rule.right))
one_keeps rule registers code p eq some a =
    subst (λ c. Keeps code (replaced code p c (map (renamed registers) rule.right))) (window_length rule registers code p a) (replaced_keeps code p _ _ (applies_sound rule registers code p eq some a))

-- the places of the right side replace those of the left side
pub places_after : (rule : Rule) (registers : List Low) (code : Code) (p : ℕ) → 0 < length rule.left → Applies rule registers code p → length (replaced code p (length rule.left) (map (renamed registers) rule.right)).places + length rule.left ≡ length code.places + length rule.right
places_after rule registers code p some a =
    let n : length a.window ≡ length rule.left = window_length rule registers code p a in
    let r : List Instr = map (renamed registers) rule.right in
    let m : length r ≡ length rule.right = length_map (renamed registers) rule.right in
    let k : length (map plain a.window) ≡ length a.window = length_map plain a.window in
    let w : length (take (length rule.left) (drop p code.places)) ≡ length (map plain a.window) = ap length a.stands in
    let short = take_short (length rule.left) (drop p code.places) in
    let rest = length_drop p code.places in
    let front = take_all p code.places (omega arith) in
    let new : length (map plain r) ≡ length r = length_map plain r in
    let back = length_drop (p + length rule.left) code.places in
    let whole = length-append (take p code.places) (map plain r ++ drop (p + length rule.left) code.places) in
    let part = length-append (map plain r) (drop (p + length rule.left) code.places) in
    omega arith
