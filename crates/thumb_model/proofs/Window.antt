-- Straight-line code: what a window does in a run, to liveness, and under a renaming of its registers.
use Rattle.std.proofs.Common.{◌≡◌, ◌≢◌, ℕ, zero, suc, ◌+◌, ◌*◌, ◌/◌, ◌<◌, ◌≤◌, ◌==◌, ◌||◌, true, false, List, [], ◌∷◌, ◌++◌, length, map, Option, Some, None, refl, sym, ap, ◌∙◌, subst, ◌⊎◌, inl, inr, arith, if◌then◌else◌, eq-eqb, eqb-true, ne_eqb, ◌^◌, Bool}
use Rattle.std.specs.Prelude.{slice_get, bit_and}
use Rattle.std.proofs.lemmas.Option.{slice_get_past}
use Rattle.word_bits.specs.declared.Sum.{Sum as WordSum}
use Rattle.word_bits.specs.declared.Shift.TheVariants as shift
use Rattle.word_bits.specs.Word.{shift_of}
use Rattle.thumb_instr.specs.declared.instr.Instr.{Instr}
use Rattle.thumb_instr.specs.declared.instr.Instr.TheVariants as instr
use Rattle.thumb_instr.specs.declared.operation.SumOperation.{SumOperation}
use Rattle.thumb_instr.specs.declared.operation.SumOperation.TheVariants as sum
use Rattle.thumb_instr.specs.declared.operation.Operation.{Operation}
use Rattle.thumb_instr.specs.declared.operation.Operation.TheVariants as operation
use Rattle.thumb_instr.specs.declared.operation.ByteOperation.{ByteOperation}
use Rattle.thumb_instr.specs.declared.operation.ByteOperation.TheVariants as byte
use Rattle.thumb_instr.specs.declared.within.NotBothSp.{NotBothSp}
use Rattle.thumb_instr.specs.Window.{is_in_window, byte_sum, byte_of, Low, Reg, named, renamed, low_under, reg_under, both_under, number_or, item_under, AreBelow}
use Rattle.thumb_instr.proofs.RenamingLemmas.{low_number, reg_number}
use Rattle.thumb_model.specs.Effect.{Values, AreWords, assigned, one_of, sp, written_to, n_flag, z_flag, c_flag, v_flag, outputs, result_flags, sum_flags, result_outputs, shift_outputs, sum_outputs, three_sum, right_shift, extension_of, reversal_of, two_outputs, byte_outputs, after, after_all, IsOneToOne, AreOver, Equal, normalised}
use Rattle.thumb_model.specs.Listing.{Mention, Place, Op, plain, Code, IsPoint}
use Rattle.thumb_model.specs.Naming.{Naming}
use Rattle.thumb_model.specs.States.{World, Landing, Goes, Around, Act, Here, State, Continuation, On, Stay, To, Over, puts}
use Rattle.thumb_model.specs.Acts.{act}
use Rattle.thumb_model.specs.Steps.{around_of, aim_of, target_at, step, times}
use Rattle.thumb_model.specs.Flow.{ways_on, ways_of, ways, Leads, Onward, ToPlace, AnyPoint, Follows, Reads, now, later}
use Rattle.thumb_model.proofs.Lists.{present_at}
use Rattle.thumb_model.proofs.Law.{keys, AgreeOn, assigned_agree, assigned_other, inside_of, Matches, Taken, AlikeBut, law, ap_two}
use Rattle.thumb_model.proofs.Held.{values_of, are_held, AreHeld}
use Rattle.thumb_model.proofs.Points.{landing_is}

-- ---- a run through straight code ----

-- the instructions are at the places from p on
abbrev pub StandsAt : List Place → ℕ → List Instr → Type 0
StandsAt places p [] = Unit {0}
StandsAt places p (i ∷ is) = (slice_get places p ≡ Some (plain i)) × StandsAt places (p + 1) is

abbrev pub AreStraight : List Instr → Type 0
AreStraight [] = Unit {0}
AreStraight (i ∷ is) = (is_in_window i ≡ true) × AreStraight is

-- the state with other values, at another place
abbrev pub went : State → ℕ → Values → State
went s q v = record { world = record { values = v; memory = s.world.memory; answers = s.world.answers }; at = Here q; events = s.events }

-- a row: what may stand in a window goes on, and looks at nothing but the items
pub straight_act : (around : Around) (i : Instr) (w : World) → is_in_window i ≡ true → act around i w ≡ puts (outputs i w.values) On w
straight_act around (instr.Mov d m) w h = refl
straight_act around i w h = cc

append_nothing : {A : Type 0} (xs : List A) → xs ++ [] ≡ xs
append_nothing [] = refl
append_nothing (x ∷ xs) = ap (λ l. x ∷ l) (append_nothing xs)

module _ (names : Naming) (code : Code) (s : State) where
  -- one instruction of straight code
  pub straight_step : (p : ℕ) (v : Values) (i : Instr) → slice_get code.places p ≡ Some (plain i) → is_in_window i ≡ true → step names code (went s p v) ≡ went s (p + 1) (after i v)
  straight_step p v i e h = rw (e, straight_act (around_of names code p i None) i (went s p v).world h, append_nothing s.events) refl

  -- n steps run the code to its end
  pub straight_run : (is : List Instr) (p : ℕ) (v : Values) → StandsAt code.places p is → AreStraight is → times (step names code) (length is) (went s p v) ≡ went s (p + length is) (after_all is v)
  straight_run [] p v h a = ap (λ q. went s q v) (let e : p ≡ p + 0 = omega arith in e)
  straight_run (i ∷ is) p v h a =
      ap (times (step names code) (length is)) (straight_step p v i h.0 a.0)
      ∙ straight_run is (p + 1) (after i v) h.1 a.1
      ∙ ap (λ q. went s q (after_all is (after i v))) (let e : p + 1 + length is ≡ p + length (i ∷ is) = omega arith in e)

  -- part of the way through the code only values and place have changed
  pub straight_part : (is : List Instr) (p : ℕ) (v : Values) (j : ℕ) → StandsAt code.places p is → AreStraight is → j ≤ length is → (q : ℕ) × (u : Values) × (times (step names code) j (went s p v) ≡ went s q u)
  straight_part is p v zero h a l = (p, v, refl)
  straight_part [] p v (suc j) h a l = absurd (omega arith)
  straight_part (i ∷ is) p v (suc j) h a l =
      let b = straight_part is (p + 1) (after i v) j h.1 a.1 (omega arith) in
      (b.0, b.1, ap (times (step names code) j) (straight_step p v i h.0 a.0) ∙ b.2)

-- ---- worlds that agree on what is read agree so after a step ----

agree_on : (xs : List ℕ) (u v : Values) → ((x : ℕ) → one_of x xs ≡ true → u x ≡ v x) → AgreeOn xs u v
agree_on [] u v h = tt
agree_on (x ∷ xs) u v h =
    (h x (ap (λ b. b || one_of x xs) (eq-eqb x x refl)), agree_on xs u v (λ y e. h y (elim (y == x) as (λ b. (b || one_of y xs) ≡ true) [ true ↦ refl | false ↦ e ])))

-- a step from p with this continuation may come to q
abbrev pub GoesTo : ℕ → Continuation → ℕ → Type 0
GoesTo p On q = q ≡ p + 1
GoesTo p Stay q = q ≡ p
GoesTo p (To r) q = q ≡ r
GoesTo p Over q = ⊥

-- a step with this continuation follows its way, or writes nothing and stays
led : (code : Code) (lands : ℕ → Landing) → ((word r : ℕ) → lands word ≡ Goes r → IsPoint code r) → (p q : ℕ) (n : Continuation) (l : Leads) (ks ws : List ℕ) → Matches lands n l ks ws → GoesTo p n q → ((ks ≡ ws) × Follows code p l q) ⊎ ((ks ≡ []) × (q ≡ p))
led code lands point p q On Onward ks ws m g = inl (m, g)
led code lands point p q (To r) (ToPlace s) ks ws m g = inl (m.1, g ∙ m.0)
led code lands point p q (To r) AnyPoint ks ws m g = inl (m.2, subst (IsPoint code) (sym g) (point m.0 r m.1))
led code lands point p q Stay l ks ws m g = inr (m, g)
led code lands point p q Over l ks ws m g = absurd g
led code lands point p q n l ks ws m g = absurd m

-- the place inside of a target is the place that was looked up
pub aim_is : (names : Naming) (mention : Option Mention) (o : Option ℕ) → inside_of (target_at names mention o) ≡ o
aim_is names mention None = refl
aim_is names mention (Some p) = refl

-- what the step at p does to two worlds that agree on what is read from p on
pub record Flows (names : Naming) (code : Code) (p : ℕ) (i : Instr) (mention : Option Mention) (u w : World) : Type 0 where
  pub same : act (around_of names code p i mention) i u ≡ act (around_of names code p i mention) i w
  pub agree : (q x : ℕ) → GoesTo p (act (around_of names code p i mention) i u).next q → Reads code x q → assigned (act (around_of names code p i mention) i u).outputs u.values x ≡ assigned (act (around_of names code p i mention) i w).outputs w.values x

-- values that agree on what is read from a place on agree so after its step
pub flows : (names : Naming) (code : Code) (p : ℕ) (i : Instr) (mention : Option Mention) (u w : World) → slice_get code.places p ≡ Some (Op i mention) → AlikeBut u w → ((x : ℕ) → Reads code x p → u.values x ≡ w.values x) → Flows names code p i mention u w
flows names code p i mention u w e a h =
    let around : Around = around_of names code p i mention in
    let row : Taken around i u w = law around i u w a in
    let is_way : slice_get (ways code p) row.number ≡ Some row.taken =
    ap (λ (o : Option Place). slice_get (ways_on code o) row.number) e ∙ ap (λ (o : Option ℕ). slice_get (ways_of o i) row.number) (sym (aim_is names mention (aim_of code mention))) ∙ row.is_way in
    let same : act around i u ≡ act around i w = row.same (agree_on row.taken.reads u.values w.values (λ x t. h x (now p row.number row.taken is_way t))) in
    record {
      same = same;
      agree = λ q x g r.
          elim (led code around.lands (λ word s f. landing_is names code word s f) p q (act around i u).next row.taken.leads (keys (act around i u).outputs) row.taken.writes row.takes g) [
            | inl f ↦ assigned_agree (act around i u).outputs u.values w.values x (λ none. h x (later p row.number row.taken q is_way (ap (one_of x) (sym f.0) ∙ none) f.1 r))
            | inr f ↦ assigned_agree (act around i u).outputs u.values w.values x (λ none. h x (subst (Reads code x) f.1 r))
          ]
          ∙ ap (λ (b : Act). assigned b.outputs w.values x) same;
    }

-- the same through straight-line code
pub flows_on : (names : Naming) (code : Code) (is : List Instr) (p : ℕ) (u w : Values) → StandsAt code.places p is → AreStraight is → ((x : ℕ) → Reads code x p → u x ≡ w x) → (x : ℕ) → Reads code x (p + length is) → after_all is u x ≡ after_all is w x
flows_on names code [] p u w h a agree x r = agree x (subst (Reads code x) (let e : p + 0 ≡ p = omega arith in e) r)
flows_on names code (i ∷ is) p u w h a agree x r =
    let around : Around = around_of names code p i None in
    let world : Values → World = λ v. record { values = v; memory = λ n. 0; answers = [] } in
    let f = flows names code p i None (world u) (world w) h.0 (refl, refl) agree in
    let eu : act around i (world u) ≡ puts (outputs i u) On (world u) = straight_act around i (world u) a.0 in
    let ew : act around i (world w) ≡ puts (outputs i w) On (world w) = straight_act around i (world w) a.0 in
    let next : GoesTo p (act around i (world u)).next (p + 1) = subst (λ (b : Act). GoesTo p b.next (p + 1)) (sym eu) refl in
    let agree' : (y : ℕ) → Reads code y (p + 1) → after i u y ≡ after i w y =
    λ y r'. sym (ap (λ (b : Act). assigned b.outputs u y) eu) ∙ f.agree (p + 1) y next r' ∙ ap (λ (b : Act). assigned b.outputs w y) ew in
    flows_on names code is (p + 1) (after i u) (after i w) h.1 a.1 agree' x (subst (Reads code x) (let e : p + length (i ∷ is) ≡ p + 1 + length is = omega arith in e) r)

-- straight code leaves values in their ranges
pub held_after : (is : List Instr) (v : Values) → AreHeld v → AreHeld (after_all is v)
held_after [] v h = h
held_after (i ∷ is) v h = held_after is (after i v) (are_held (outputs i v) v (values_of i v h) h)

-- ADDS and SUBS of a number to their own register: both encodings
byte_sums : (k : SumOperation) (d n : Low) (i : Low) (v : Values) → d.number ≡ n.number → outputs (instr.TwoNumber (byte_sum k) d (byte_of i)) v ≡ outputs (instr.ThreeNumber k d n i) v
byte_sums sum.Add d n i v e = ap (λ x. sum_outputs d.number (three_sum sum.Add (v x) i.number)) e
byte_sums sum.Sub d n i v e = ap (λ x. sum_outputs d.number (three_sum sum.Sub (v x) i.number)) e

-- a row: the instruction that stands for both encodings puts the same
normal_outputs : (i : Instr) (v : Values) → outputs (normalised i) v ≡ outputs i v
normal_outputs (instr.ThreeNumber k d n i) v =
    elim (d.number == n.number) as (λ b. (d.number == n.number) ≡ b → outputs (if b then instr.TwoNumber (byte_sum k) d (byte_of i) else instr.ThreeNumber k d n i) v ≡ outputs (instr.ThreeNumber k d n i) v) [
      | true ↦ λ e. byte_sums k d n i v (eqb-true d.number n.number e)
      | false ↦ λ e. refl
    ] refl
normal_outputs i v = refl

-- a row: and it may stand in a window where the other may
pub normal_in_window : (i : Instr) → is_in_window (normalised i) ≡ is_in_window i
normal_in_window (instr.ThreeNumber k d n i) = elim (d.number == n.number) as (λ b. is_in_window (if b then instr.TwoNumber (byte_sum k) d (byte_of i) else instr.ThreeNumber k d n i) ≡ true) [ true ↦ refl | false ↦ refl ]
normal_in_window i = refl

-- normal forms do the same
pub normal_after : (is : List Instr) (v : Values) → after_all (map normalised is) v ≡ after_all is v
normal_after [] v = refl
normal_after (i ∷ is) v = ap (λ os. after_all (map normalised is) (assigned os v)) (normal_outputs i v) ∙ normal_after is (after i v)

-- ---- renaming ----

-- a canonical register or a flag
abbrev pub IsCanonical : ℕ → ℕ → Type 0
IsCanonical k x = (x < k) ⊎ ((15 ≤ x) × (x < 19))

-- a word is written unchanged to a low register
pub low_written : (x w : ℕ) → x < 8 → written_to x w ≡ w
low_written x w h = ap (λ b. if b then w / 4 * 4 else w) (ne_eqb x sp (λ e. absurd (omega arith)))

pair_same : (a b c d : ℕ) (os ps : List (ℕ × ℕ)) → a ≡ b → c ≡ d → os ≡ ps → (let l : List (ℕ × ℕ) = (a, c) ∷ os in l) ≡ (b, d) ∷ ps
pair_same a b c d os ps e f g = cc

module _ (registers : List Low) (few : length registers ≤ 4) (one : IsOneToOne registers) where
  abbrev under : ℕ → ℕ
  under = item_under registers

  flag_under : (x : ℕ) → 15 ≤ x → under x ≡ x
  flag_under x h = ap (λ o. number_or o x) (slice_get_past registers x (omega arith))

  -- the number of a register of the map
  register_under : (x : ℕ) → x < length registers → (r : Low) × (slice_get registers x ≡ Some r) × (under x ≡ r.number)
  register_under x h = let a = present_at registers x h in (a.0, a.1, ap (λ o. number_or o x) a.1)

  -- a register of the map is low
  low_item : (x : ℕ) → x < length registers → under x < 8
  low_item x h = let a = register_under x h in let r = a.0 in omega (arith, a.2)

  -- each output, under the renaming
  abbrev renamed_outputs : List (ℕ × ℕ) → List (ℕ × ℕ)
  renamed_outputs [] = []
  renamed_outputs (o ∷ os) = (under o.0, o.1) ∷ renamed_outputs os

  -- the values s under the renaming are w
  abbrev Corresponds : Values → Values → Type 0
  Corresponds s w = (x : ℕ) → IsCanonical (length registers) x → s (under x) ≡ w x

  abbrev AreCanonical : List ℕ → Type 0
  AreCanonical [] = Unit {0}
  AreCanonical (x ∷ xs) = IsCanonical (length registers) x × AreCanonical xs

  read_as : (m : Low) (s w : Values) → m.number < length registers → Corresponds s w → s (low_under registers m).number ≡ w m.number
  read_as m s w l c = ap s (low_number registers m) ∙ c m.number (inl l)

  flag_as : (x : ℕ) (s w : Values) → 15 ≤ x → x < 19 → Corresponds s w → s x ≡ w x
  flag_as x s w h k c = ap s (sym (flag_under x h)) ∙ c x (inr (h, k))

  read_wide : (m : Reg) (s w : Values) → m.number < length registers → Corresponds s w → s (reg_under registers m).number ≡ w m.number
  read_wide m s w l c = ap s (reg_number registers m) ∙ c m.number (inl l)

  result_flags_renamed : (x : ℕ) → result_flags x ≡ renamed_outputs (result_flags x)
  result_flags_renamed x = cc (flag_under n_flag (omega arith), flag_under z_flag (omega arith))

  sum_flags_renamed : (s : WordSum) → sum_flags s ≡ renamed_outputs (sum_flags s)
  sum_flags_renamed s = cc (flag_under n_flag (omega arith), flag_under z_flag (omega arith), flag_under c_flag (omega arith), flag_under v_flag (omega arith))

  result_flags_canonical : (x : ℕ) → AreCanonical (keys (result_flags x))
  result_flags_canonical x = (inr (omega arith, omega arith), (inr (omega arith, omega arith), tt))

  sum_flags_canonical : (s : WordSum) → AreCanonical (keys (sum_flags s))
  sum_flags_canonical s = (inr (omega arith, omega arith), (inr (omega arith, omega arith), (inr (omega arith, omega arith), (inr (omega arith, omega arith), tt))))

  -- the outputs of a result, a shift and a sum with a renamed target
  result_under : (d x : ℕ) → result_outputs (under d) x ≡ renamed_outputs (result_outputs d x)
  result_under d x = ap (λ l. (under d, x) ∷ l) (result_flags_renamed x)

  shift_under : (d : ℕ) (r : ℕ × Bool) → shift_outputs (under d) r ≡ renamed_outputs (shift_outputs d r)
  shift_under d r = cc (flag_under n_flag (omega arith), flag_under z_flag (omega arith), flag_under c_flag (omega arith))

  sum_under : (d : ℕ) (r : WordSum) → sum_outputs (under d) r ≡ renamed_outputs (sum_outputs d r)
  sum_under d r = ap (λ l. (under d, r.value) ∷ l) (sum_flags_renamed r)

  result_renamed : (d : Low) (x y : ℕ) → x ≡ y → result_outputs (low_under registers d).number x ≡ renamed_outputs (result_outputs d.number y)
  result_renamed d x y e = ap_two result_outputs (low_number registers d) e ∙ result_under d.number y

  shift_renamed : (d : Low) (x y : ℕ × Bool) → x ≡ y → shift_outputs (low_under registers d).number x ≡ renamed_outputs (shift_outputs d.number y)
  shift_renamed d x y e = ap_two shift_outputs (low_number registers d) e ∙ shift_under d.number y

  sum_renamed : (d : Low) (x y : WordSum) → x ≡ y → sum_outputs (low_under registers d).number x ≡ renamed_outputs (sum_outputs d.number y)
  sum_renamed d x y e = ap_two sum_outputs (low_number registers d) e ∙ sum_under d.number y

  one_renamed : (d : Low) (x y : ℕ) → x ≡ y → (let l : List (ℕ × ℕ) = ((low_under registers d).number, x) ∷ [] in l) ≡ renamed_outputs ((d.number, y) ∷ [])
  one_renamed d x y e = pair_same _ _ _ _ [] [] (low_number registers d) e refl

  result_canonical : (d x : ℕ) → d < length registers → AreCanonical (keys (result_outputs d x))
  result_canonical d x h = (inl h, result_flags_canonical x)

  shift_canonical : (d : ℕ) (r : ℕ × Bool) → d < length registers → AreCanonical (keys (shift_outputs d r))
  shift_canonical d r h = (inl h, (inr (omega arith, omega arith), (inr (omega arith, omega arith), (inr (omega arith, omega arith), tt))))

  sum_canonical : (d : ℕ) (r : WordSum) → d < length registers → AreCanonical (keys (sum_outputs d r))
  sum_canonical d r h = (inl h, sum_flags_canonical r)

  -- a row: the outputs of a renamed operation
  two_renamed : (o : Operation) (d x y c : ℕ) → two_outputs o (under d) x y c ≡ renamed_outputs (two_outputs o d x y c)
  two_renamed operation.And d x y c = result_under d (bit_and x y)
  two_renamed o d x y c = search (result_under, shift_under, sum_under, result_flags_renamed, sum_flags_renamed)

  -- a row: an operation writes canonical items alone
  two_canonical : (o : Operation) (d x y c : ℕ) → d < length registers → AreCanonical (keys (two_outputs o d x y c))
  two_canonical operation.And d x y c h = result_canonical d (bit_and x y) h
  two_canonical o d x y c h = search (result_canonical, shift_canonical, sum_canonical, result_flags_canonical, sum_flags_canonical)

  byte_renamed : (o : ByteOperation) (d x n : ℕ) → byte_outputs o (under d) x n ≡ renamed_outputs (byte_outputs o d x n)
  byte_renamed byte.Mov d x n = result_under d n
  byte_renamed byte.Cmp d x n = sum_flags_renamed (three_sum sum.Sub x n)
  byte_renamed byte.Add d x n = sum_under d (three_sum sum.Add x n)
  byte_renamed byte.Sub d x n = sum_under d (three_sum sum.Sub x n)

  byte_canonical : (o : ByteOperation) (d x n : ℕ) → d < length registers → AreCanonical (keys (byte_outputs o d x n))
  byte_canonical byte.Mov d x n h = result_canonical d n h
  byte_canonical byte.Cmp d x n h = sum_flags_canonical (three_sum sum.Sub x n)
  byte_canonical byte.Add d x n h = sum_canonical d (three_sum sum.Add x n) h
  byte_canonical byte.Sub d x n h = sum_canonical d (three_sum sum.Sub x n) h

  -- the registers of a renamed sum of two
  target_number : (r : NotBothSp) → (both_under registers r).target.number ≡ under r.target.number
  target_number r = reg_number registers r.target

  source_number : (r : NotBothSp) → (both_under registers r).source.number ≡ under r.source.number
  source_number r = reg_number registers r.source

  -- a word that is written to a register of the map
  written_renamed : (z d x y : ℕ) → d < length registers → z ≡ under d → x ≡ y → (let l : List (ℕ × ℕ) = (z, written_to z x) ∷ [] in l) ≡ renamed_outputs ((d, written_to d y) ∷ [])
  written_renamed z d x y h e f =
      let low : under d < 8 = low_item d h in
      pair_same _ _ _ _ [] [] e (ap (λ n. written_to n x) e ∙ low_written (under d) x low ∙ f ∙ sym (low_written d y (omega arith))) refl

  -- a row: the outputs of a renamed instruction
  outputs_renamed : (i : Instr) (s w : Values) → is_in_window i ≡ true → AreBelow (length registers) (named i) → Corresponds s w → outputs (renamed registers i) s ≡ renamed_outputs (outputs i w)
  outputs_renamed (instr.Mov d m) s w t b c = written_renamed _ d.number _ (w m.number) b.0 (reg_number registers d) (read_wide m s w b.1.0 c)
  outputs_renamed (instr.Three k d n m) s w t b c = sum_renamed d _ (three_sum k (w n.number) (w m.number)) (ap_two (three_sum k) (read_as n s w b.1.0 c) (read_as m s w b.1.1.0 c))
  outputs_renamed (instr.Two o d m) s w t b c =
      ap (λ x. two_outputs o x (s (low_under registers d).number) (s (low_under registers m).number) (s c_flag)) (low_number registers d)
      ∙ ap_two (λ x y. two_outputs o (under d.number) x y (s c_flag)) (read_as d s w b.0 c) (read_as m s w b.1.0 c)
      ∙ ap (two_outputs o (under d.number) (w d.number) (w m.number)) (flag_as c_flag s w (omega arith) (omega arith) c)
      ∙ two_renamed o d.number (w d.number) (w m.number) (w c_flag)
  outputs_renamed (instr.Movs d m) s w t b c = result_renamed d _ (w m.number) (read_as m s w b.1.0 c)
  outputs_renamed (instr.ShiftLeft d m i) s w t b c = shift_renamed d _ (shift_of shift.Lsl (w m.number) i.number false) (ap (λ x. shift_of shift.Lsl x i.number false) (read_as m s w b.1.0 c))
  outputs_renamed (instr.ShiftRight k d m i) s w t b c = shift_renamed d _ (shift_of (right_shift k) (w m.number) i.number false) (ap (λ x. shift_of (right_shift k) x i.number false) (read_as m s w b.1.0 c))
  outputs_renamed (instr.ThreeNumber k d n i) s w t b c = sum_renamed d _ (three_sum k (w n.number) i.number) (ap (λ x. three_sum k x i.number) (read_as n s w b.1.0 c))
  outputs_renamed (instr.TwoNumber o d i) s w t b c =
      ap_two (λ x y. byte_outputs o x y i.number) (low_number registers d) (read_as d s w b.0 c) ∙ byte_renamed o d.number (w d.number) i.number
  outputs_renamed (instr.Add r) s w t b c =
      written_renamed _ r.target.number _ (three_sum sum.Add (w r.target.number) (w r.source.number)).value b.0 (target_number r)
      (ap_two (λ x y. (three_sum sum.Add x y).value) (ap s (target_number r) ∙ c r.target.number (inl b.0)) (ap s (source_number r) ∙ c r.source.number (inl b.1.0)))
  outputs_renamed (instr.Extend e d m) s w t b c = one_renamed d _ (extension_of e (w m.number)) (ap (extension_of e) (read_as m s w b.1.0 c))
  outputs_renamed (instr.Reverse r d m) s w t b c = one_renamed d _ (reversal_of r (w m.number)) (ap (reversal_of r) (read_as m s w b.1.0 c))
  outputs_renamed i s w t b c = absurd (cc)

  one_canonical : (d x : ℕ) → d < length registers → AreCanonical (keys ((d, x) ∷ []))
  one_canonical d x h = (inl h, tt)

  -- a row: an instruction writes canonical items alone
  outputs_canonical : (i : Instr) (w : Values) → is_in_window i ≡ true → AreBelow (length registers) (named i) → AreCanonical (keys (outputs i w))
  outputs_canonical (instr.Mov d m) w t b = (inl b.0, tt)
  outputs_canonical i w t b = first_of (search (result_canonical, shift_canonical, sum_canonical, two_canonical, byte_canonical, one_canonical), grind arith)

  under_one : (x y : ℕ) → IsCanonical (length registers) x → IsCanonical (length registers) y → under x ≡ under y → x ≡ y
  under_one x y (inl h) (inl k) e =
      let a = register_under x h in
      let b = register_under y k in
      one.distinct x y a.0 a.1 b.0 b.1 (sym a.2 ∙ e ∙ b.2)
  under_one x y (inl h) (inr k) e =
      let a = register_under x h in
      let b = flag_under y k.0 in
      absurd (let r = a.0 in omega (arith, a.2, e))
  under_one x y (inr h) (inl k) e =
      let a = register_under y k in
      let b = flag_under x h.0 in
      absurd (let r = a.0 in omega (arith, a.2, e))
  under_one x y (inr h) (inr k) e = sym (flag_under x h.0) ∙ e ∙ flag_under y k.0

  test_under : (x y : ℕ) → IsCanonical (length registers) x → IsCanonical (length registers) y → (under x == under y) ≡ (x == y)
  test_under x y h k =
      elim (x == y) as (λ b. (x == y) ≡ b → (under x == under y) ≡ b) [
        | true ↦ λ e. eq-eqb _ _ (ap under (eqb-true x y e))
        | false ↦ λ e. ne_eqb _ _ (λ same. let f : (x == y) ≡ true = eq-eqb x y (under_one x y h k same) in absurd (cc))
      ] refl

  -- new values correspond
  assigned_under : (os : List (ℕ × ℕ)) (s w : Values) → AreCanonical (keys os) → Corresponds s w → Corresponds (assigned (renamed_outputs os) s) (assigned os w)
  assigned_under [] s w a c x h = c x h
  assigned_under (o ∷ os) s w a c x h =
      ap (λ b. if b then o.1 else assigned (renamed_outputs os) s (under x)) (test_under x o.0 h a.0)
      ∙ ap (λ v. if x == o.0 then o.1 else v) (assigned_under os s w a.1 c x h)

  after_under : (i : Instr) (s w : Values) → is_in_window i ≡ true → AreBelow (length registers) (named i) → Corresponds s w → Corresponds (after (renamed registers i) s) (after i w)
  after_under i s w t b c x h =
      ap (λ os. assigned os s (under x)) (outputs_renamed i s w t b c) ∙ assigned_under (outputs i w) s w (outputs_canonical i w t b) c x h

  -- values that correspond do so after renamed code
  pub after_all_under : (is : List Instr) (s w : Values) → AreOver (length registers) is → Corresponds s w → Corresponds (after_all (map (renamed registers) is) s) (after_all is w)
  after_all_under [] s w o c = c
  after_all_under (i ∷ is) s w o c = after_all_under is _ _ o.2 (after_under i s w o.0 o.1 c)

  -- a register outside the map keeps its value
  apart : (os : List (ℕ × ℕ)) (x : ℕ) → AreCanonical (keys os) → ((y : ℕ) → IsCanonical (length registers) y → x ≢ under y) → one_of x (keys (renamed_outputs os)) ≡ false
  apart [] x a h = refl
  apart (o ∷ os) x a h = rw (ne_eqb x (under o.0) (h o.0 a.0)) (apart os x a.1 h)

  outside_kept : (is : List Instr) (s w : Values) (x : ℕ) → AreOver (length registers) is → Corresponds s w → ((y : ℕ) → IsCanonical (length registers) y → x ≢ under y) → after_all (map (renamed registers) is) s x ≡ s x
  outside_kept [] s w x o c h = refl
  outside_kept (i ∷ is) s w x o c h =
      outside_kept is (after (renamed registers i) s) (after i w) x o.2 (after_under i s w o.0 o.1 c) h
      ∙ ap (λ os. assigned os s x) (outputs_renamed i s w o.0 o.1 c)
      ∙ assigned_other (renamed_outputs (outputs i w)) s x (apart (outputs i w) x (outputs_canonical i w o.0 o.1) h)

  -- an item of the machine is the renamed one of a mask's item, or a register outside the map
  among_map : (xs : List ℕ) (x : ℕ) → one_of x (map under xs) ≡ true → (y : ℕ) × (one_of y xs ≡ true) × (x ≡ under y)
  among_map [] x h = absurd (cc)
  among_map (y ∷ xs) x h =
      elim (x == under y) as (λ b. (x == under y) ≡ b → (b || one_of x (map under xs)) ≡ true → (z : ℕ) × (one_of z (y ∷ xs) ≡ true) × (x ≡ under z)) [
        | true ↦ λ e _. (y, ap (λ b. b || one_of y xs) (eq-eqb y y refl), eqb-true x (under y) e)
        | false ↦ λ e f. let a = among_map xs x f in (a.0, elim (a.0 == y) as (λ b. (b || one_of a.0 xs) ≡ true) [ true ↦ refl | false ↦ a.1 ], a.2)
      ] refl h

  not_among : (rs : List Low) (x k : ℕ) (r : Low) → one_of x (map (λ r. r.number) rs) ≡ false → slice_get rs k ≡ Some r → x ≢ r.number
  not_among [] x k r h e = absurd (cc)
  not_among (a ∷ rs) x zero r h e =
      λ same.
      let f : a.number ≡ r.number = ap (λ (o : Option Low). number_or o 0) e in
      let t : (x == a.number) ≡ true = eq-eqb x a.number (same ∙ sym f) in
      absurd (let g : true ≡ false = ap (λ b. b || one_of x (map (λ r. r.number) rs)) (sym t) ∙ h in cc)
  not_among (a ∷ rs) x (suc k) r h e =
      elim (x == a.number) as (λ b. (b || one_of x (map (λ r. r.number) rs)) ≡ false → x ≢ r.number) [
        | true ↦ λ g. absurd (cc)
        | false ↦ λ g. not_among rs x k r g e
      ] h

  words_under : (t : Values) → AreWords t → AreWords (λ y. t (under y))
  words_under t a = record {
    register = λ y l. elim (slice_get registers y) as (λ o. t (number_or o y) < 2 ^ 32) [ None ↦ a.register y l | Some r ↦ a.register r.number (omega arith) ];
    flag = λ y l. subst (λ z. t z < 2) (sym (flag_under y l)) (a.flag y l);
  }

  far : (x : ℕ) → (x < 15) × (one_of x (map (λ r. r.number) registers) ≡ false) → (y : ℕ) → IsCanonical (length registers) y → x ≢ under y
  far x h y (inl l) e = let a = register_under y l in not_among registers x y a.0 h.1 a.1 (e ∙ a.2)
  far x h y (inr l) e = let a = flag_under y l.0 in absurd (omega (arith, h.0))

  -- the two sides leave the same value in each item of the mask and in each register outside the map
  pub sides_agree : (left right : List Instr) (mask : List ℕ) (t : Values) → Equal left right mask → AreOver (length registers) left → AreOver (length registers) right → ((x : ℕ) → one_of x mask ≡ true → IsCanonical (length registers) x) → AreWords t → (x : ℕ) → (one_of x (map under mask) ≡ true) ⊎ ((x < 15) × (one_of x (map (λ r. r.number) registers) ≡ false)) → after_all (map (renamed registers) left) t x ≡ after_all (map (renamed registers) right) t x
  sides_agree left right mask t eq ol or om words x (inl h) =
      let w : Values = λ y. t (under y) in
      let c : Corresponds t w = λ y _. refl in
      let a = among_map mask x h in
      let k = om a.0 a.1 in
      let e : after_all left w a.0 ≡ after_all right w a.0 = eq w (words_under t words) a.0 a.1 in
      let el : after_all (map (renamed registers) left) t (under a.0) ≡ after_all left w a.0 = after_all_under left t w ol c a.0 k in
      let er : after_all (map (renamed registers) right) t (under a.0) ≡ after_all right w a.0 = after_all_under right t w or c a.0 k in
      ap (after_all (map (renamed registers) left) t) a.2 ∙ el ∙ e ∙ sym er ∙ sym (ap (after_all (map (renamed registers) right) t) a.2)
  sides_agree left right mask t eq ol or om words x (inr h) =
      let w : Values = λ y. t (under y) in
      let c : Corresponds t w = λ y _. refl in
      outside_kept left t w x ol c (far x h) ∙ sym (outside_kept right t w x or c (far x h))
