-- The chains of rules by hash: how they are built, and that a walk along a chain meets each kept rule with its hash, in ascending order.
use Rattle.std.proofs.Common.{◌≡◌, ℕ, zero, suc, ◌+◌, ◌-◌, ◌<◌, ◌≤◌, ◌==◌, ◌&&◌, Bool, true, false, List, [], ◌∷◌, length, drop, replicate, Option, Some, None, refl, sym, ap, ◌∙◌, subst, arith, inl, inr, if◌then◌else◌, eq-eqb, eqb-true}
use Rattle.std.specs.Prelude.{slice_get, slice_set}
use Rattle.std.specs.Option.{option_map}
use Rattle.std.proofs.lemmas.Bool.{and_parts, cases_Bool, cases_lt}
use Rattle.std.proofs.lemmas.List.{length-map, length-set}
use Rattle.std.proofs.lemmas.Option.{slice_get_within, slice_get-map}
use Rattle.thumb_instr.specs.declared.instr.Instr.{Instr}
use Rattle.thumb_instr.specs.Window.{Low}
use Rattle.rule_model.specs.Rules.{Rule}
use Rattle.thumb_model.proofs.Lists.{get_drop, length_drop, present_at}
use Rattle.window_rewrite.specs.Rules.{is_marked, chain_count, chain_of, chains_of, first_with, left_forms, AreFirsts, AreNexts, AreChains}
use Rattle.window_rewrite.specs.Forms.{form_of}
use Rattle.window_rewrite.specs.declared.chains.Chains.{Chains}
use Rattle.window_rewrite.specs.Fitting.{Lightens}
use Rattle.window_rewrite.specs.Choices.{Awaits}
use Rattle.liveness.proofs.Jumps.{same_target as number_head}
pub use Rattle.common_lemmas.proofs.Lists.{get_set}

-- ---- the rules with one hash ----

drop_there : (forms : List ℕ) (k own : ℕ) → slice_get forms k ≡ Some own → drop k forms ≡ own ∷ drop (k + 1) forms
drop_there [] k own e = absurd (cc)
drop_there (f ∷ fs) zero own e = ap (λ (x : ℕ). x ∷ fs) (number_head f own e)
drop_there (f ∷ fs) (suc k) own e = drop_there fs k own e ∙ ap (λ n. own ∷ drop n (f ∷ fs)) (let g : suc (k + 1) ≡ suc k + 1 = omega arith in g)

-- one rule more in front
pub first_more : (forms : List ℕ) (kept : List Bool) (form : ℕ) (k own : ℕ) → slice_get forms k ≡ Some own
    → first_with kept form k (drop k forms) ≡ (if is_marked kept k && own == form then Some k else first_with kept form (k + 1) (drop (k + 1) forms))
first_more forms kept form k own e = ap (first_with kept form k) (drop_there forms k own e)

-- one that isn't kept makes no difference
pub first_same : (forms : List ℕ) (kept : List Bool) (form : ℕ) (k own : ℕ) → slice_get forms k ≡ Some own → is_marked kept k ≡ false → first_with kept form k (drop k forms) ≡ first_with kept form (k + 1) (drop (k + 1) forms)
first_same forms kept form k own e f = first_more forms kept form k own e ∙ ap (λ b. if b && own == form then Some k else first_with kept form (k + 1) (drop (k + 1) forms)) f

-- past the last rule there is none
pub first_past : (forms : List ℕ) (kept : List Bool) (form : ℕ) (k : ℕ) → length forms ≤ k → first_with kept form k (drop k forms) ≡ None
first_past [] kept form zero h = refl
first_past [] kept form (suc k) h = refl
first_past (f ∷ fs) kept form zero h = absurd (omega arith)
first_past (f ∷ fs) kept form (suc k) h = past (drop k fs) (length_drop k fs)
  where
    past : (xs : List ℕ) → length xs ≡ length fs - k → first_with kept form (suc k) xs ≡ None
    past [] e = refl
    past (x ∷ xs) e = absurd (omega arith)

-- what is found: a rule that is kept and has the number, and none before it
pub record IsFound (forms : List ℕ) (kept : List Bool) (form : ℕ) (k n : ℕ) : Type 0 where
  pub from : k ≤ n
  pub at : slice_get forms n ≡ Some form
  pub is_kept : is_marked kept n ≡ true
  pub none : (j : ℕ) → k ≤ j → j < n → slice_get forms j ≡ Some form → is_marked kept j ≡ true → ⊥

-- in a list of numbers that are counted from m on
record IsAhead (forms : List ℕ) (kept : List Bool) (form : ℕ) (m n : ℕ) : Type 0 where
  from : m ≤ n
  at : slice_get forms (n - m) ≡ Some form
  is_kept : is_marked kept n ≡ true
  none : (j : ℕ) → j < n - m → slice_get forms j ≡ Some form → is_marked kept (m + j) ≡ true → ⊥

-- a rule that is kept and has the hash passes the test for the first
has_own : (b : Bool) (form own : ℕ) → b ≡ true → own ≡ form → (b && own == form) ≡ true
has_own b form own f s = ap (λ c. c && own == form) f ∙ eq-eqb own form s

-- a rule that fails it isn't both kept and of the hash
here_none : (b : Bool) (form own other : ℕ) → (b && own == form) ≡ false → own ≡ other → b ≡ true → other ≡ form → ⊥
here_none b form own other h is g s =
    let bad : true ≡ false = sym (has_own b form own g (is ∙ s)) ∙ h in
    absurd (cc)

ahead : (forms : List ℕ) (kept : List Bool) (form : ℕ) (m n : ℕ) → first_with kept form m forms ≡ Some n → IsAhead forms kept form m n
ahead [] kept form m n e = absurd (cc)
ahead (f ∷ fs) kept form m n e = elim (cases_Bool (is_marked kept m && f == form)) [
  | inl h ↦ (
      let here : m ≡ n = number_head m n (sym (ap (λ t. if t then Some m else first_with kept form (m + 1) fs) h) ∙ e) in
      let zero_off : n - m ≡ 0 = omega arith in
      let both = and_parts (is_marked kept m) (f == form) h in
      record {
        from = omega arith;
        at = ap (slice_get (f ∷ fs)) zero_off ∙ ap Some (eqb-true f form both.1);
        is_kept = ap (is_marked kept) (sym here) ∙ both.0;
        none = λ j l _ _. omega arith;
      }
      )
  | inr h ↦ (
      let rest = ahead fs kept form (m + 1) n (sym (ap (λ t. if t then Some m else first_with kept form (m + 1) fs) h) ∙ e) in
      let from : m + 1 ≤ n = rest.from in
      let off : n - m ≡ suc (n - (m + 1)) = omega arith in
      record {
        from = omega arith;
        at = ap (slice_get (f ∷ fs)) off ∙ rest.at;
        is_kept = rest.is_kept;
        none = λ j l g s. earlier rest.none off h j l g s;
      }
      )
]
  where
    earlier : ((j : ℕ) → j < n - (m + 1) → slice_get fs j ≡ Some form → is_marked kept (m + 1 + j) ≡ true → ⊥) → n - m ≡ suc (n - (m + 1)) → (is_marked kept m && f == form) ≡ false
        → (j : ℕ) → j < n - m → slice_get (f ∷ fs) j ≡ Some form → is_marked kept (m + j) ≡ true → ⊥
    earlier none off h zero l g s = here_none (is_marked kept m) form f form h (number_head f form g) (ap (is_marked kept) (let e : m ≡ m + 0 = omega arith in e) ∙ s) refl
    earlier none off h (suc j) l g s = none j (omega arith) g (ap (is_marked kept) (let e : m + 1 + j ≡ m + suc j = omega arith in e) ∙ s)

pub found : (forms : List ℕ) (kept : List Bool) (form : ℕ) (k n : ℕ) → first_with kept form k (drop k forms) ≡ Some n → IsFound forms kept form k n
found forms kept form k n e =
    let a = ahead (drop k forms) kept form k n e in
    let from = a.from in
    record {
      from = from;
      at = sym (get_drop k forms (n - k) n (omega arith)) ∙ a.at;
      is_kept = a.is_kept;
      none = λ j l h g s. a.none (j - k) (omega arith) (get_drop k forms (j - k) j (omega arith) ∙ g) (ap (is_marked kept) (let o : k + (j - k) ≡ j = omega arith in o) ∙ s);
    }

-- where none is found, there is none
nothing_ahead : (forms : List ℕ) (kept : List Bool) (form : ℕ) (m : ℕ) → first_with kept form m forms ≡ None → (j : ℕ) → slice_get forms j ≡ Some form → is_marked kept (m + j) ≡ true → ⊥
nothing_ahead [] kept form m e j g s = absurd (cc)
nothing_ahead (f ∷ fs) kept form m e j g s = elim (cases_Bool (is_marked kept m && f == form)) [
  | inl h ↦ absurd (let z : (let o : Option ℕ = Some m in o) ≡ None = sym (ap (λ t. if t then Some m else first_with kept form (m + 1) fs) h) ∙ e in cc)
  | inr h ↦ later (λ i k l. nothing_ahead fs kept form (m + 1) (sym (ap (λ t. if t then Some m else first_with kept form (m + 1) fs) h) ∙ e) i k l) h j g s
]
  where
    later : ((i : ℕ) → slice_get fs i ≡ Some form → is_marked kept (m + 1 + i) ≡ true → ⊥) → (is_marked kept m && f == form) ≡ false → (j : ℕ) → slice_get (f ∷ fs) j ≡ Some form → is_marked kept (m + j) ≡ true → ⊥
    later rest h zero g s = here_none (is_marked kept m) form f form h (number_head f form g) (ap (is_marked kept) (let e : m ≡ m + 0 = omega arith in e) ∙ s) refl
    later rest h (suc j) g s = rest j g (ap (is_marked kept) (let e : m + 1 + j ≡ m + suc j = omega arith in e) ∙ s)

pub nothing : (forms : List ℕ) (kept : List Bool) (form : ℕ) (k : ℕ) → first_with kept form k (drop k forms) ≡ None → (j : ℕ) → k ≤ j → slice_get forms j ≡ Some form → is_marked kept j ≡ true → ⊥
nothing forms kept form k e j h g s = nothing_ahead (drop k forms) kept form k e (j - k) (get_drop k forms (j - k) j (omega arith) ∙ g) (ap (is_marked kept) (let o : k + (j - k) ≡ j = omega arith in o) ∙ s)

-- ---- numbers ----

pub form_there : (forms : List ℕ) (n : ℕ) → n < length forms → (form : ℕ) × (slice_get forms n ≡ Some form)
form_there [] n h = absurd (omega arith)
form_there (f ∷ fs) zero h = (f, refl)
form_there (f ∷ fs) (suc n) h = form_there fs n (omega arith)

-- all are marked
pub all_marked : (n k : ℕ) → k < n → is_marked (replicate n true) k ≡ true
all_marked zero k h = absurd (omega arith)
all_marked (suc n) zero h = refl
all_marked (suc n) (suc k) h = all_marked n k (omega arith)

-- ---- building the chains ----

pub set_other : {A : Type 0} (xs : List A) (p q : ℕ) (y : A) → (p ≡ q → ⊥) → slice_get (slice_set xs p y) q ≡ slice_get xs q
set_other [] p q y h = refl
set_other (x ∷ xs) zero zero y h = absurd (h refl)
set_other (x ∷ xs) zero (suc q) y h = refl
set_other (x ∷ xs) (suc p) zero y h = refl
set_other (x ∷ xs) (suc p) (suc q) y h = set_other xs p q y (λ e. h (ap suc e))

pub some_head : (a b : Option ℕ) → (let x : Option (Option ℕ) = Some a in x) ≡ Some b → a ≡ b
some_head a b e = cc

-- a list of `None` has nothing else
pub none_of : (n q : ℕ) (o : Option ℕ) → slice_get (replicate n None) q ≡ Some o → o ≡ None
none_of zero q o e = absurd (cc)
none_of (suc n) zero o e = cc
none_of (suc n) (suc q) o e = none_of n q o e

pub none_alone : (Q : Option ℕ → Type 0) → ((x : ℕ) → Q (Some x) → ⊥) → (y : Option ℕ) → Q y → y ≡ None
none_alone Q h None q = refl
none_alone Q h (Some x) q = absurd (h x q)

-- the first rules of the chains from n on, once the n-th rule was put in
firsts_more : (forms : List ℕ) (kept : List Bool) (n own : ℕ) (old new : List (Option ℕ)) → slice_get forms n ≡ Some own → is_marked kept n ≡ true → own < length old
    → new ≡ slice_set old own (Some n) → AreFirsts forms kept old (n + 1) → AreFirsts forms kept new n
firsts_more forms kept n own old new at here room e was form first g =
    elim (cases_Bool (own == form)) [
      | inl h ↦ (
          let same : own ≡ form = eqb-true own form h in
          let put_in : first ≡ Some n = some_head first (Some n) (sym g ∙ ap (λ (xs : List (Option ℕ)). slice_get xs form) e ∙ ap (slice_get (slice_set old own (Some n))) (sym same) ∙ get_set old own (Some n) room) in
          put_in ∙ sym (put true h)
          )
      | inr h ↦ was form first (sym (set_other old own form (Some n) (differ h)) ∙ ap (λ (xs : List (Option ℕ)). slice_get xs form) (sym e) ∙ g) ∙ sym (put false h)
    ]
  where
    differ : (own == form) ≡ false → own ≡ form → ⊥
    differ h same = let bad : true ≡ false = sym (eq-eqb own form same) ∙ h in absurd (cc)

    put : (b : Bool) → (own == form) ≡ b → first_with kept form n (drop n forms) ≡ (if b then Some n else first_with kept form (n + 1) (drop (n + 1) forms))
    put b h =
        first_more forms kept form n own at
        ∙ ap (λ t. if t && own == form then Some n else first_with kept form (n + 1) (drop (n + 1) forms)) here
        ∙ ap (λ t. if t then Some n else first_with kept form (n + 1) (drop (n + 1) forms)) h

-- the next rules from a rule on
nexts_more : (forms : List ℕ) (kept : List Bool) (nexts more : List (Option ℕ)) (n own : ℕ) (o : Option ℕ) → n < length nexts → slice_get forms n ≡ Some own → more ≡ slice_set nexts n o
    → o ≡ first_with kept own (n + 1) (drop (n + 1) forms) → AreNexts forms kept nexts (n + 1) → AreNexts forms kept more n
nexts_more forms kept nexts more n own o within at e is h k form next l f here g = elim (cases_lt n k) [
  | inl m ↦ h k form next (omega arith) f here (sym (set_other nexts n k o (λ s. omega arith)) ∙ ap (λ (xs : List (Option ℕ)). slice_get xs k) (sym e) ∙ g)
  | inr m ↦ (
      let same : k ≡ n = omega arith in
      let put : next ≡ o = some_head next o (sym g ∙ ap (λ (xs : List (Option ℕ)). slice_get xs k) e ∙ ap (slice_get (slice_set nexts n o)) same ∙ get_set nexts n o within) in
      let form_is : form ≡ own = number_head form own (sym f ∙ ap (slice_get forms) same ∙ at) in
      put ∙ is ∙ ap (λ m. first_with kept m (n + 1) (drop (n + 1) forms)) (sym form_is) ∙ ap (λ m. first_with kept form (m + 1) (drop (m + 1) forms)) (sym same)
      )
]

-- a rule's chain
pub chain_at : (forms : List ℕ) (n form : ℕ) → slice_get forms n ≡ Some form → slice_get (chains_of forms) n ≡ Some (chain_of forms form)
chain_at forms n form at = slice_get-map (chain_of forms) forms n ∙ ap (option_map (chain_of forms)) at

-- there is a chain for each rule
pub as_many_chains : (forms : List ℕ) → length (chains_of forms) ≡ length forms
as_many_chains forms = length-map forms (chain_of forms)

-- chains of no rules
pub empty_chains : (forms : List ℕ) (n : ℕ) (chains : Chains) → length forms ≤ n → length chains.kept.items ≡ length forms → length chains.firsts.items ≡ chain_count (length forms)
    → ((q : ℕ) (first : Option ℕ) → slice_get chains.firsts.items q ≡ Some first → first ≡ None) → length chains.nexts.items ≡ length forms → AreChains forms n chains
empty_chains forms n chains h many_kept many_firsts none many = record {
  many_kept = many_kept;
  many_firsts = many_firsts;
  firsts = λ chain first at. none chain first at ∙ sym (first_past (chains_of forms) chains.kept.items chain n (omega (arith, h, as_many_chains forms)));
  as_many = many;
  nexts = λ k chain next l at f. absurd (omega (arith, l, h, as_many_chains forms, slice_get_within (chains_of forms) k chain at));
}

-- with one more in front that isn't kept
pub same_chains : (forms : List ℕ) (n own : ℕ) (chains : Chains) → slice_get (chains_of forms) n ≡ Some own → is_marked chains.kept.items n ≡ false → AreChains forms (n + 1) chains → AreChains forms n chains
same_chains forms n own chains at f x = record {
  many_kept = x.many_kept;
  many_firsts = x.many_firsts;
  firsts = λ chain first g. x.firsts chain first g ∙ sym (first_same (chains_of forms) chains.kept.items chain n own at f);
  as_many = x.as_many;
  nexts = λ k chain next l here s g. elim (cases_lt n k) [
    | inl m ↦ x.nexts k chain next (omega arith) here s g
    | inr m ↦ absurd (
        let same : k ≡ n = omega arith in
        let bad : true ≡ false = sym s ∙ ap (is_marked chains.kept.items) same ∙ f in
        cc)
  ];
}

-- with one more in front that is kept
pub more_chains : (forms : List ℕ) (n own : ℕ) (old new : Chains) (o : Option ℕ) → slice_get (chains_of forms) n ≡ Some own → is_marked old.kept.items n ≡ true → AreChains forms (n + 1) old
    → slice_get old.firsts.items own ≡ Some o → new.kept.items ≡ old.kept.items → new.firsts.items ≡ slice_set old.firsts.items own (Some n) → new.nexts.items ≡ slice_set old.nexts.items n o
    → AreChains forms n new
more_chains forms n own old new o at here x was kept firsts nexts =
    let within : n < length (chains_of forms) = slice_get_within (chains_of forms) n own at in
    let room : own < length old.firsts.items = slice_get_within old.firsts.items own o was in
    record {
      many_kept = ap (λ (l : List Bool). length l) kept ∙ x.many_kept;
      many_firsts = ap (λ (l : List (Option ℕ)). length l) firsts ∙ length-set old.firsts.items own (Some n) ∙ x.many_firsts;
      firsts = subst (λ (l : List Bool). AreFirsts (chains_of forms) l new.firsts.items n) (sym kept) (firsts_more (chains_of forms) old.kept.items n own old.firsts.items new.firsts.items at here room firsts x.firsts);
      as_many = ap (λ (l : List (Option ℕ)). length l) nexts ∙ length-set old.nexts.items n o ∙ x.as_many;
      nexts = subst (λ (l : List Bool). AreNexts (chains_of forms) l new.nexts.items n) (sym kept) (nexts_more (chains_of forms) old.kept.items old.nexts.items new.nexts.items n own o (omega (arith, within, x.as_many, as_many_chains forms)) at nexts (x.firsts own o was) x.nexts);
    }

-- ---- what is awaited ----

-- the chain of a rule's left side
pub left_chain : (rules : List Rule) (n : ℕ) (rule : Rule) → slice_get rules n ≡ Some rule → slice_get (chains_of (left_forms rules)) n ≡ Some (chain_of (left_forms rules) (form_of rule.left))
left_chain rules n rule at = chain_at (left_forms rules) n (form_of rule.left) (slice_get-map (λ (r : Rule). form_of r.left) rules n ∙ ap (option_map (λ (r : Rule). form_of r.left)) at)

-- the next rule, and that no kept rule before it stands in the window
pub record IsNext (costs : Option (List ℕ)) (rules : List Rule) (kept : List Bool) (window : List Instr) (k n : ℕ) : Type 0 where
  pub from : k ≤ n
  pub rule : Rule
  pub at : slice_get rules n ≡ Some rule
  pub chain : ℕ
  pub is_in : slice_get (chains_of (left_forms rules)) n ≡ Some chain
  pub is_kept : is_marked kept n ≡ true
  pub none : (j : ℕ) (other : Rule) (registers : List Low) → k ≤ j → j < n → slice_get rules j ≡ Some other → is_marked kept j ≡ true → Lightens costs other registers window → ⊥
  pub more : (next : Option ℕ) → next ≡ first_with kept chain (n + 1) (drop (n + 1) (chains_of (left_forms rules))) → Awaits costs rules kept window (n + 1) next

pub awaited : (costs : Option (List ℕ)) (rules : List Rule) (kept : List Bool) (window : List Instr) (k n : ℕ) (o : Option ℕ) → Awaits costs rules kept window k o → o ≡ Some n → IsNext costs rules kept window k n
awaited costs rules kept window k n o a e =
    let f = found (chains_of (left_forms rules)) kept a.chain k n (sym a.is ∙ e) in
    let within = slice_get_within (chains_of (left_forms rules)) n a.chain f.at in
    let s = present_at rules n (omega (arith, within, as_many_chains (left_forms rules), length-map rules (λ (r : Rule). form_of r.left))) in
    record {
      from = f.from;
      rule = s.0;
      at = s.1;
      chain = a.chain;
      is_in = f.at;
      is_kept = f.is_kept;
      none = λ j other registers l h g c s. f.none j l h (left_chain rules j other g ∙ ap Some (a.are_in j other registers g s)) c;
      more = λ next is. record { chain = a.chain; are_in = a.are_in; is = is };
    }

pub none_awaited : (costs : Option (List ℕ)) (rules : List Rule) (kept : List Bool) (window : List Instr) (k : ℕ) (o : Option ℕ) → Awaits costs rules kept window k o → o ≡ None → (j : ℕ) (other : Rule) (registers : List Low) → k ≤ j → slice_get rules j ≡ Some other → is_marked kept j ≡ true → Lightens costs other registers window → ⊥
none_awaited costs rules kept window k o a e j other registers h g c s = nothing (chains_of (left_forms rules)) kept a.chain k (sym a.is ∙ e) j h (left_chain rules j other g ∙ ap Some (a.are_in j other registers g s)) c
