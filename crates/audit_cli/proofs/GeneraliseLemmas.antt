-- `generalise`: what the solver's answers say of a family, and that the audit accepts the table with the proved family.
use Rattle.std.proofs.Common.{◌≡◌, ◌∙◌, ℕ, ◌+◌, ◌-◌, ◌<◌, ◌≤◌, false, List, [], ◌∷◌, ◌++◌, Bool, Option, Some, None, get_or, length, map, max, refl, sym, ap, subst, arith, length-append, option_map}
use Rattle.std.specs.Prelude.{slice_get}
use Rattle.std.proofs.lemmas.List.{length-map}
use Rattle.std.proofs.lemmas.List.Elements.{All-append, All-cons, All-nil}
use Rattle.std.proofs.lemmas.Option.{same_Some, slice_get-map, slice_get_within, get_or_from_slice_get}
use Rattle.std.proofs.lemmas.Bool.{le-leb, true≢false}
use Rattle.thumb_instr.specs.declared.instr.Instr.{Instr}
use Rattle.thumb_model.specs.Effect.{Values, AreWords, Equal}
use Rattle.window_exec.specs.declared.state.WState.{WState}
use Rattle.window_exec.specs.State.{values_of, Tells}
use Rattle.cnf_gates.specs.Meaning.{IsModel, assigned}
use Rattle.bit_blast.specs.Exactness.{start_values, IsMask, SameOver, value_at}
use Rattle.bit_blast.specs.Slots.{instance}
use Rattle.bit_blast.proofs.Families.{family_models_tell, family_models_give_states}
use Rattle.lrat_check.specs.Text.{Content, content_of}
use Rattle.rule_table.specs.declared.table.Family.{Family as Held}
use Rattle.rule_table.specs.Table.{Rule, Family, Table, IsFamily, IsRule, IsTable}
use Rattle.rule_table.specs.Views.{family_of}
use Rattle.table_audit.specs.declared.errors.AuditError.TheVariants as audit
use Rattle.table_audit.specs.declared.errors.FamilyKind.TheVariants as kind
use Rattle.table_audit.specs.Shorter.{named_count, alphabet_registers}
use Rattle.table_audit.specs.Canonical.{HasFormula}
use Rattle.table_audit.specs.Acceptance.{RaisedVerdict, FamilyVerdict, IsAccepted}
use Rattle.table_audit.specs.Families.{entry_of, symbol_of, IsRaisable, raised_formula}
use Rattle.table_audit.specs.Soundness.{items_in}
use Rattle.table_audit.proofs.Growing.{family_added}
use Rattle.table_audit.proofs.Names.{one_has}
use Rattle.table_audit.proofs.Sound.{are_words}
use Rattle.table_audit.proofs.Raising.{entry_stands}
use Rattle.table_audit.proofs.Walking.{mask_more, own_within}
use Rattle.table_learn.specs.Learnt.{IsRefutation}
use Rattle.table_learn.proofs.Asking.{state_words}
use Rattle.table_learn.proofs.Certificates.{refutation_passes}
use Rattle.audit_cli.specs.declared.refusal.Refusal.TheVariants as refusal
use Rattle.audit_cli.specs.Generalise.{with_family, HasNone, IsUnraisable, IsRaisableFor, IsGeneralised, DifferAt, IsSpentOn, IsUnraised, differ, spent}
use Rattle.rule_table.proofs.Beginnings.{header_raised}
use Rattle.audit_cli.proofs.VersionLemmas.{in_version, verdict}
use Rattle.rule_model.proofs.Table.{over_wider}

-- ---- a model ----

-- the state and the value of a model tell the sides apart
pub differs : (t : Table) (f : Family) (e : Rule) (k : ℕ) (model : List Bool) (s : WState) (value : ℕ) → HasFormula t.header e → IsMask e.mask → IsRaisableFor t f e → k ≡ alphabet_registers t.header e.left → k ≤ 4
    → IsModel model (raised_formula t.header f e) → length s.r ≡ 4 → SameOver 4 (values_of s) (start_values (assigned model) k) → value ≡ value_at (assigned model) k → DifferAt t f value (values_of s)
differs t f e k model s value has masks raisable is few holds four same shown =
    let own = named_count e.left in
    let registers = alphabet_registers t.header e.left in
    let m = assigned model in
    let within : own ≤ registers = own_within t.header e.left has.canonical in
    let left = over_wider own registers e.left within has.left in
    let mask = mask_more own registers e.mask within has.mask in
    let low : f.low < 256 = (let a = raisable.raisable.from in let b = raisable.raisable.to in let c = raisable.raisable.bytes in omega (arith, a, b, c)) in
    let small : registers ≤ 4 = omega (arith, is, few) in
    let start = subst (λ j. SameOver 4 (values_of s) (start_values m j)) is same in
    let value_is : value ≡ value_at m registers = shown ∙ ap (value_at m) is in
    let told = family_models_tell e.left e.right (symbol_of f) e.mask registers low left has.right m holds in
    record {
      entry = e;
      raisable = raisable;
      byte = told.0;
      same = told.1 ∙ sym value_is;
      within = told.2;
      words = are_words s.r s.nzcv four (state_words s (start_values m registers) four start told.3);
      tells = family_models_give_states e.left e.right (symbol_of f) e.mask registers low left has.right masks mask small m holds told.0 told.1 (values_of s) start;
    }

-- sides that a state tells apart aren't equal
pub unequal : (left right : List Instr) (mask : ℕ) (v : Values) → IsMask mask → AreWords v → Tells v left right mask → Equal left right (items_in mask) → ⊥
unequal left right mask v masks words tells same = tells.2 (same v words tells.0 (one_has mask tells.0 tells.1 (masks tells.0 tells.1)))

-- ---- the table with the family ----

-- whether a family can be raised doesn't depend on its proof
raisable_by : (pool : List ℕ) (f : Family) (left : List Instr) (proof : List Content) → IsRaisable pool f left → IsRaisable pool (record f { proof = proof }) left
raisable_by pool f left proof r = record { pooled = r.pooled; from = r.from; to = r.to; bytes = r.bytes; held = r.held }

passes : (t : Table) (n : ℕ) (f : Family) (e : Rule) (o : Option Rule) → o ≡ Some e → RaisedVerdict t n f (Some e) None → RaisedVerdict t n f o None
passes t n f e o at p = subst (λ x. RaisedVerdict t n f x None) (sym at) p

family_passes : (t : Table) (n : ℕ) (f : Family) (e : Rule) (proof : List Content) → IsRaisableFor t f e → IsRefutation t.header.budget (raised_formula t.header f e) proof
    → FamilyVerdict (in_version (max 3 t.header.version) t) n (record f { proof = proof }) None
unfolding FamilyVerdict
family_passes t n f e proof can refutes =
    let u = in_version (max 3 t.header.version) t in
    passes u n (record f { proof = proof }) e (entry_of t f) can.is_entry (
      raisable_by t.header.pool f e.left proof can.raisable,
      refutation_passes (λ line. audit.Family n (kind.Proof line)) (audit.Family n kind.Unfinished) t.header.budget (raised_formula t.header f e) proof refutes,
    )

accepted_with : (t : Table) (f : Family) (e : Rule) (proof : List Content) → IsAccepted t → IsRaisableFor t f e → IsRefutation t.header.budget (raised_formula t.header f e) proof → IsAccepted (with_family t (record f { proof = proof }))
accepted_with t f e proof accepted can refutes =
    let u = in_version (max 3 t.header.version) t in
    family_added u (record f { proof = proof }) (verdict (max 3 t.header.version) t None accepted) (family_passes t (length t.families + 1) f e proof can refutes)

table_with : (t : Table) (f : Family) → IsTable t → IsFamily f → IsTable (with_family t f)
table_with t f valid one = record {
  header = header_raised 3 t.header (omega arith) (omega arith) valid.header;
  states = valid.states;
  rules = valid.rules;
  families = All-append IsFamily t.families (f ∷ []) valid.families (All-cons IsFamily f [] one (All-nil IsFamily));
  none_before = λ none. absurd (true≢false (sym (le-leb 3 (max 3 t.header.version) (omega arith)) ∙ none));
}

pub generalised : (t raised : Table) (f : Family) (e : Rule) (proof : List Content) → IsTable t → IsAccepted t → IsRaisableFor t f e → IsRefutation t.header.budget (raised_formula t.header f e) proof
    → IsFamily (record f { proof = proof }) → raised ≡ with_family t (record f { proof = proof }) → IsGeneralised t f raised
generalised t raised f e proof valid accepted can refutes one is = record {
  entry = e;
  raisable = can;
  proof = proof;
  refutes = refutes;
  is = is;
  valid = subst IsTable (sym is) (table_with t (record f { proof = proof }) valid one);
  accepted = subst IsAccepted (sym is) (accepted_with t f e proof accepted can refutes);
}

-- ---- the entry ----

-- a family that has an entry isn't without one
pub not_none : (t : Table) (f : Family) (e : Rule) → entry_of t f ≡ Some e → HasNone t f → ⊥
not_none t f e is none = let bad : Some e ≡ None = sym is ∙ none in cc

-- a family has one entry
pub same_entry : (t : Table) (f : Family) (e x : Rule) → IsRaisableFor t f e → IsRaisableFor t f x → e ≡ x
same_entry t f e x can also = same_Some e x (sym can.is_entry ∙ also.is_entry)

-- a family that can be raised isn't unraisable
pub not_unraisable : (t : Table) (f : Family) (e : Rule) → IsRaisableFor t f e → IsUnraisable t f → ⊥
not_unraisable t f e can (x, is, cannot) = cannot (subst (λ (y : Rule). IsRaisable t.header.pool f y.left) (same_Some e x (sym can.is_entry ∙ is)) can.raisable)

-- the mask of a family's entry is valid
pub entry_mask : (t : Table) (f : Family) (e : Rule) → IsTable t → entry_of t f ≡ Some e → IsMask e.mask
entry_mask t f e valid at = entry_stands t.rules f.entry e at (λ i there.
    let low = slice_get_within t.rules i e there in
    let is : get_or t.rules i e ≡ e = get_or_from_slice_get t.rules i e e there in
    (subst IsRule is (valid.rules i e low)).mask)

-- ---- refusals ----

pub unraised_differ : (t : Table) (f : Family) (value : ℕ) (v : Values) → IsTable t → DifferAt t f value v → IsUnraised t f (refusal.Differ value)
unraised_differ t f value v valid d =
    let left = instance f.number d.entry.left d.byte in
    let right = instance f.number d.entry.right d.byte in
    subst (λ n. IsUnraised t f (refusal.Differ n)) d.same (differ d.entry d.raisable d.byte d.within (unequal left right d.entry.mask v (entry_mask t f d.entry valid d.raisable.is_entry) d.words d.tells))

pub unraised_spent : (t : Table) (f : Family) (log : List Content) (budget : ℕ) → t.header.budget ≡ budget → IsSpentOn t f log → IsUnraised t f (refusal.Spent budget)
unraised_spent t f log budget is h = subst (λ b. IsUnraised t f (refusal.Spent b)) is (spent log h)

-- ---- the last family ----

last_there : (front : List Family) (f : Family) → slice_get (front ++ f ∷ []) (length front) ≡ Some f
last_there [] f = refl
last_there (x ∷ xs) f = last_there xs f

pub last_is : (families : List Held) (o : Option Held) (front : List Family) (f : Family) → map family_of families ≡ front ++ f ∷ [] → o ≡ slice_get families (length families - 1) → option_map family_of o ≡ Some f
last_is families o front f is at =
    let count : length families ≡ length front + 1 = sym (length-map families family_of) ∙ ap (λ (fs : List Family). length fs) is ∙ length-append front (f ∷ []) in
    let place : length families - 1 ≡ length front = omega (arith, count) in
    ap (option_map family_of) at ∙ sym (slice_get-map family_of families (length families - 1)) ∙ ap (λ (fs : List Family). slice_get fs (length families - 1)) is ∙ ap (slice_get (front ++ f ∷ [])) place ∙ last_there front f

pub last_proof : (families : List Held) (o : Option Held) (front : List Family) (f : Family) (g : Held) → map family_of families ≡ front ++ f ∷ [] → o ≡ slice_get families (length families - 1) → o ≡ Some g → length g.proof.items ≡ length f.proof
last_proof families o front f g is at one =
    let same : family_of g ≡ f = same_Some (family_of g) f (sym (ap (option_map family_of) one) ∙ last_is families o front f is at) in
    sym (length-map g.proof.items content_of) ∙ ap (λ (x : Family). length x.proof) same

pub none_last : (families : List Held) (o : Option Held) (front : List Family) (f : Family) → map family_of families ≡ front ++ f ∷ [] → o ≡ slice_get families (length families - 1) → o ≡ None → ⊥
none_last families o front f is at none = let bad : None ≡ Some f = sym (ap (option_map family_of) none) ∙ last_is families o front f is at in cc
