-- The audit is right: what an accepted table promises (`IsSound`) follows from its tests.
use Rattle.std.proofs.Common.{◌≡◌, ℕ, ◌+◌, ◌-◌, ◌^◌, ◌<◌, ◌≤◌, ◌⊎◌, ◌==◌, ◌&&◌, inl, inr, true, false, List, Option, Some, None, slice_get, get_or, length, map, refl, sym, ◌∙◌, subst, arith, All, nat_lt, nat_le}
use Rattle.std.proofs.lemmas.Nat.Bits.{bit_at-lt}
use Rattle.std.proofs.lemmas.List.{get_or_past}
use Rattle.std.proofs.lemmas.Option.{slice_get_within, get_or_from_slice_get, same_Some}
use Rattle.std.proofs.lemmas.Bool.Decides.{leb_tells}
use Rattle.std.proofs.lemmas.Bool.{or_cases, and_parts, ltb-true, ne_eqb}
use Rattle.thumb_instr.specs.declared.instr.Instr.{Instr}
use Rattle.thumb_model.specs.Effect.{AreWords, one_of, Equal, AreOver, register_count}
use Rattle.rule_model.specs.Rules.{IsSoundRule, rule_registers}
use Rattle.rule_model.proofs.Alone.{count_over}
use Rattle.window_exec.specs.State.{Seen, values_by}
use Rattle.bit_blast.specs.Slots.{filled, instance}
use Rattle.bit_blast.specs.Exactness.{IsMask, HasNoModel, AreEqual, AreEqualForAll}
use Rattle.bit_blast.proofs.Exact.{no_model_is_equal}
use Rattle.bit_blast.proofs.Families.{no_model_is_equal_for_all}
use Rattle.bit_blast.proofs.Holes.{side_itself}
use Rattle.rule_table.specs.declared.header.Field.TheVariants.{Scratch}
use Rattle.rule_table.specs.Header.{Header}
use Rattle.rule_table.specs.Table.{Rule, Family, Table, IsState, IsRule, IsTable}
use Rattle.lrat_check.proofs.Turns.{turn_each}
use Rattle.lrat_check.proofs.Sound.{proved_unsatisfied}
use Rattle.table_audit.specs.declared.errors.EntryFault.TheVariants.{Proof, Unfinished}
use Rattle.table_audit.specs.declared.errors.AuditError.TheVariants.{Entry}
use Rattle.table_audit.specs.declared.errors.AuditError.TheVariants as error
use Rattle.table_audit.specs.declared.errors.FamilyKind.TheVariants as family
use Rattle.table_audit.specs.Shorter.{named_count, alphabet_registers, SidesFit, formula_of, values_in, IsTold}
use Rattle.table_audit.specs.Canonical.{HasFormula}
use Rattle.table_audit.specs.Acceptance.{EntryVerdict, EntryProofVerdict, ToldVerdict, OpenTest, OpensVerdict, FamilyProofVerdict, RaisedVerdict, FamilyVerdict, IsAccepted}
use Rattle.table_audit.specs.Families.{entry_of, symbol_of, IsRaisable, raised_formula, AreEqualWithEach, NoneIsShorter}
use Rattle.table_audit.specs.Soundness.{items_in, rewriting_rule, IsShortest, IsSoundFamily, IsSound}
use Rattle.table_audit.proofs.Fitting.{formula_fits, ordered_of}
use Rattle.table_audit.proofs.Raising.{entry_stands, verdict_raised}
use Rattle.table_audit.proofs.Walking.{mask_more, own_within, counted_over}
use Rattle.table_audit.proofs.Instances.{numbers_sound}
use Rattle.table_audit.proofs.Names.{count_same, all_named, has_one, one_has, of_four}
use Rattle.rule_model.proofs.Table.{over_wider}

-- ---- the words of listed states ----

register_value : (rs : List ℕ) (nzcv x : ℕ) → (x < 15) ⊎ (19 ≤ x) → values_by rs nzcv x ≡ get_or rs x 0
register_value rs nzcv x h =
    let n : (x == 15) ≡ false = ne_eqb x 15 (λ e. elim h [ inl l ↦ omega (arith, e, l) | inr l ↦ omega (arith, e, l) ]) in
    let z : (x == 16) ≡ false = ne_eqb x 16 (λ e. elim h [ inl l ↦ omega (arith, e, l) | inr l ↦ omega (arith, e, l) ]) in
    let c : (x == 17) ≡ false = ne_eqb x 17 (λ e. elim h [ inl l ↦ omega (arith, e, l) | inr l ↦ omega (arith, e, l) ]) in
    let v : (x == 18) ≡ false = ne_eqb x 18 (λ e. elim h [ inl l ↦ omega (arith, e, l) | inr l ↦ omega (arith, e, l) ]) in
    rw (n, z, c, v) refl

small_word : (rs : List ℕ) (x : ℕ) → All (λ w. w < 2 ^ 32) rs → get_or rs x 0 < 2 ^ 32
small_word rs x small = elim (leb_tells (length rs) x) [
  | inl past ↦ (let none : get_or rs x 0 ≡ 0 = get_or_past rs x 0 past.1 in omega (arith, none))
  | inr low ↦ small x 0 low.1
]

pub are_words : (rs : List ℕ) (nzcv : ℕ) → length rs ≡ 4 → All (λ w. w < 2 ^ 32) rs → AreWords (values_by rs nzcv)
are_words rs nzcv four small = record {
  register = λ x low. subst (λ n. n < 2 ^ 32) (sym (register_value rs nzcv x (inl low))) (small_word rs x small);
  flag = λ x high. elim (leb_tells 19 x) [
    | inl past ↦ (
        let long : length rs ≤ x = omega (arith, four, past.1) in
        let none : get_or rs x 0 ≡ 0 = get_or_past rs x 0 long in
        let is : values_by rs nzcv x ≡ 0 = register_value rs nzcv x (inr past.1) ∙ none in
        omega (arith, is)
        )
    | inr low ↦ (
        let e : 15 + (x - 15) ≡ x = omega arith in
        let few : x - 15 < 4 = omega (arith, low.1) in
        subst (λ y. values_by rs nzcv y < 2) e (of_four (λ y. values_by rs nzcv (15 + y) < 2) (bit_at-lt nzcv 3) (bit_at-lt nzcv 2) (bit_at-lt nzcv 1) (bit_at-lt nzcv 0) (x - 15) few)
        )
  ];
}

-- ---- one entry ----

-- both sides leave the same
equal_sides : (t : Table) (n : ℕ) (e : Rule) → HasFormula t.header e → IsMask e.mask → EntryProofVerdict t n e None → Equal e.left e.right (items_in e.mask)
equal_sides t n e f masks p v words x h =
    let none : HasNoModel (formula_of t.header e) = proved_unsatisfied (λ line. Entry n (Proof line)) (Entry n Unfinished) (formula_of t.header e).clauses e.proof p in
    let own = named_count e.left in
    let registers = alphabet_registers t.header e.left in
    let within : own ≤ registers = own_within t.header e.left f.canonical in
    let same : AreEqual e.left e.right e.mask =
    (no_model_is_equal e.left e.right e.mask registers (over_wider own registers e.left within f.left) f.right masks (mask_more own registers e.mask within f.mask)).0 none in
    same v words x (has_one e.mask x h).0

-- a sequence that a state tells isn't equal to the left side
told_differs : (states : List Seen) (left seq : List Instr) (mask : ℕ) → All IsState states → IsMask mask → IsTold states left seq mask → Equal left seq (items_in mask) → ⊥
told_differs states left seq mask valid masks told same =
    let s = told.1 in
    let state : IsState s = subst IsState told.3 (valid told.0 s told.2) in
    let differ = told.4 in
    differ.2 (same (values_in s) (are_words s.r s.nzcv state.four state.words) differ.0 (one_has mask differ.0 differ.1 (masks differ.0 differ.1)))

mask_over : (t : Table) (k : ℕ) (e : Rule) → k ≡ named_count e.left → HasFormula t.header e → (x : ℕ) → one_of x (items_in e.mask) ≡ true → (x < k) ⊎ ((15 ≤ x) × (x < 19))
mask_over t k e is f x h =
    let item = has_one e.mask x h in
    elim (f.mask x item.0) [
      | inl low ↦ inl (omega (arith, low, is))
      | inr high ↦ inr (
        high,
        elim (or_cases (nat_lt x 4) (nat_le 15 x && nat_lt x 19) item.1) [
          | inl four ↦ omega (arith, ltb-true x 4 four)
          | inr flag ↦ ltb-true x 19 (and_parts (nat_le 15 x) (nat_lt x 19) flag).1
        ],
      )
    ]

sound_rule : (t : Table) (n : ℕ) (e : Rule) → IsTable t → SidesFit t e → IsMask e.mask → EntryProofVerdict t n e None → IsSoundRule (rewriting_rule e)
sound_rule t n e valid sides masks p =
    let f = formula_fits t e sides in
    let is : register_count e.left ≡ named_count e.left = count_same e.left sides.canonical.in_order in
    let most : register_count e.right ≤ alphabet_registers t.header e.left = count_over (alphabet_registers t.header e.left) e.right f.right in
    let own : named_count e.left ≤ 4 = (ordered_of e.left sides.canonical).few in
    let scratch : t.header.scratch ≤ 1 = (valid.header.numbers Scratch).1 in
    record {
      few = omega (arith, most, is, own);
      near = omega (arith, most, is, scratch);
      no_longer = sides.no_longer;
      left = subst (λ k. AreOver k e.left) (sym is) f.left;
      right = over_wider (register_count e.right) (rule_registers (rewriting_rule e)) e.right (omega arith) (counted_over (alphabet_registers t.header e.left) e.right f.right);
      mask = mask_over t (register_count e.left) e is f;
      all_named = λ x low. all_named e.left sides.canonical x (omega (arith, low, is));
      equal = equal_sides t n e f masks p;
    }

shortest_rule : (t : Table) (n : ℕ) (e : Rule) → IsTable t → IsRule e → SidesFit t e → ToldVerdict t n e None → IsShortest t.header e
shortest_rule t n e valid rule sides told = record {
  no_longer = sides.no_longer;
  least = λ number seq below unnamed same.
      told number seq (record { below = below; unnamed = unnamed; untold = λ tells. told_differs t.states e.left seq e.mask valid.states rule.mask tells same });
}

-- ---- one family ----

-- both sides leave the same with each value
equal_with_each : (t : Table) (n : ℕ) (f : Family) (e : Rule) → HasFormula t.header e → IsMask e.mask → IsRaisable t.header.pool f e.left → FamilyProofVerdict t n f e None → AreEqualWithEach f e (items_in e.mask)
equal_with_each t n f e fits masks raisable p x within v words i h =
    let none : HasNoModel (raised_formula t.header f e) = proved_unsatisfied (λ line. error.Family n (family.Proof line)) (error.Family n family.Unfinished) (raised_formula t.header f e).clauses f.proof p in
    let own = named_count e.left in
    let registers = alphabet_registers t.header e.left in
    let wider : own ≤ registers = own_within t.header e.left fits.canonical in
    let small : f.low < 256 = omega (arith, raisable.from, raisable.to, raisable.bytes) in
    let same : AreEqualForAll e.left e.right (symbol_of f) e.mask =
    (no_model_is_equal_for_all e.left e.right (symbol_of f) e.mask registers small (over_wider own registers e.left wider fits.left) fits.right masks (mask_more own registers e.mask wider fits.mask)).0 none in
    same x within v words i (has_one e.mask i h).0

-- with the family's own number the left side is itself
none_is_shorter : (h : Header) (pool : List ℕ) (f : Family) (e : Rule) → IsRaisable pool f e.left → IsShortest h e → NoneIsShorter h f e (items_in e.mask)
none_is_shorter h pool f e raisable shortest n is number other below unnamed same =
    let itself : instance f.number e.left n ≡ e.left = subst (λ m. instance m e.left n ≡ e.left) is (side_itself n e.left) in
    let equal = same n (omega (arith, raisable.from, is), omega (arith, raisable.to, is)) in
    shortest.least number (map (filled n) other) below unnamed (subst (λ left. Equal left (map (filled n) other) (items_in e.mask)) itself equal)

-- ---- the table ----

-- what is known of an entry of an accepted table
record IsPassed (t : Table) (n : ℕ) (e : Rule) : Type 0 where
  rule : IsRule e
  sides : SidesFit t e
  proof : EntryProofVerdict t n e None
  told : ToldVerdict t n e None
  opens : OpensVerdict t n e None

passed : (t : Table) (i : ℕ) (e : Rule) → IsTable t → IsAccepted t → slice_get t.rules i ≡ Some e → IsPassed t (1 + i) e
unfolding EntryVerdict
passed t i e valid p at =
    let here = turn_each (EntryVerdict t) 1 t.rules i e p.1.1.0 at in
    let rule : IsRule e = subst IsRule (get_or_from_slice_get t.rules i e e at) (valid.rules i e (slice_get_within t.rules i e at)) in
    record { rule = rule; sides = here.0; proof = here.1.0; told = here.1.1.0; opens = here.1.1.1 }

-- what is known of a family of an accepted table
record IsRaised (t : Table) (n : ℕ) (f : Family) : Type 0 where
  place : ℕ
  entry : Rule
  is_entry : entry_of t f ≡ Some entry
  stands : slice_get t.rules place ≡ Some entry
  raisable : IsRaisable t.header.pool f entry.left
  proof : FamilyProofVerdict t n f entry None

raised : (t : Table) (k : ℕ) (f : Family) → IsAccepted t → slice_get t.families k ≡ Some f → IsRaised t (1 + k) f
raised t k f p at =
    let here = turn_each (FamilyVerdict t) 1 t.families k f p.1.1.1 at in
    go (entry_of t f) refl (verdict_raised t (1 + k) f (entry_of t f) None refl here)
  where
    go : (o : Option Rule) → entry_of t f ≡ o → RaisedVerdict t (1 + k) f o None → IsRaised t (1 + k) f
    go None e h = absurd (cc)
    go (Some x) e h = entry_stands t.rules f.entry x e (λ i there. record { place = i; entry = x; is_entry = e; stands = there; raisable = h.0; proof = h.1 })

sound_family : (t : Table) (k : ℕ) (f : Family) → IsTable t → IsAccepted t → slice_get t.families k ≡ Some f → IsSoundFamily t f
sound_family t k f valid p at =
    let r = raised t k f p at in
    let q = passed t r.place r.entry valid p r.stands in
    record {
      entry = r.entry;
      is_entry = r.is_entry;
      raisable = r.raisable;
      equal = equal_with_each t (1 + k) f r.entry (formula_fits t r.entry q.sides) q.rule.mask r.raisable r.proof;
      least = none_is_shorter t.header t.header.pool f r.entry r.raisable (shortest_rule t (1 + r.place) r.entry valid q.rule q.sides q.told);
    }

pub accepted_sound : (t : Table) → IsTable t → IsAccepted t → IsSound t
accepted_sound t valid p = record {
  sound = numbers_sound t
      (λ k e there. let q = passed t k e valid p there in sound_rule t (1 + k) e valid q.sides q.rule.mask q.proof)
      (λ k f e x at own within.
      let family = sound_family t k f valid p at in
      let same : family.entry ≡ e = same_Some family.entry e (sym family.is_entry ∙ own) in
      subst (λ (r : Rule). Equal (instance f.number r.left x) (instance f.number r.right x) (items_in r.mask)) same (family.equal x within));
  shortest = λ k e there. (let q = passed t k e valid p there in shortest_rule t (1 + k) e valid q.rule q.sides q.told);
  opens = λ k e there i o at.
      let q = passed t k e valid p there in
      turn_each (OpenTest t (1 + k) e) 0 e.opens i o q.opens at;
  families = λ k f at. sound_family t k f valid p at;
}
