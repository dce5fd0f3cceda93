-- The steps of the matcher: binding one register, and how bindings add up.
use Rattle.std.proofs.Common.{◌≡◌, ◌≢◌, ◌∙◌, ℕ, ◌<◌, ◌==◌, ◌||◌, Bool, true, false, List, [], ◌∷◌, ◌++◌, length, refl, sym, ap, subst, Option, Some, None, inl, inr, ◌⊎◌, eqb-true, eq-eqb, true≢false}
use Rattle.std.specs.Prelude.{slice_set, ◌↔◌}
use Rattle.std.specs.Option.{option_and_then, is_some}
use Rattle.std.proofs.Math.Bool.{or_assoc, or-false}
use Rattle.std.proofs.lemmas.List.Folds.{list_any-append}
use Rattle.thumb_instr.specs.Items.{has as has_item}
use Rattle.thumb_instr.specs.Window.{Low, item_under}
use Rattle.common_lemmas.proofs.Lists.{get_set, get_unset}
use Rattle.rule_table.specs.Canonical.{has}
use Rattle.std.proofs.lemmas.Bool.{or_left, or_right}
use Rattle.rule_table.specs.Binding.{given_at, IsOneToOne, Agrees, Binds, Clashes, IsBound}

-- ---- one register more

-- the new bindings bind `own` to the register, and each other one as the old bindings do
pub record Puts (old new : List (Option Low)) (own : ℕ) (register : Low) : Type 0 where
  pub here : given_at new own ≡ Some register
  pub others : (x : ℕ) → x ≢ own → given_at new x ≡ given_at old x

pub puts : (old new : List (Option Low)) (own : ℕ) (register : Low) → own < length old → new ≡ slice_set old own (Some register) → Puts old new own register
puts old new own register h e = record {
  here = ap (λ l. given_at l own) e ∙ ap (option_and_then (λ o. o)) (get_set old own (Some register) h);
  others = λ x d. ap (λ l. given_at l x) e ∙ ap (option_and_then (λ o. o)) (get_unset old own x (Some register) d);
}

pub puts_again : (given : List (Option Low)) (own : ℕ) (register : Low) → given_at given own ≡ Some register → Puts given given own register
puts_again given own register e = record { here = e; others = λ x d. refl }

not_same : (x y : ℕ) → (x == y) ≡ false → y ≢ x
not_same x y e s = true≢false (sym (eq-eqb x y (sym s)) ∙ e)

-- a new binding is that of `own`, or an old one
either : (old new : List (Option Low)) (own x : ℕ) (register s : Low) → Puts old new own register → given_at new x ≡ Some s
    → ((x ≡ own) × (s.number ≡ register.number)) ⊎ ((x ≢ own) × (given_at old x ≡ Some s))
either old new own x register s p e = by (own == x) refl
  where
    by : (b : Bool) → (own == x) ≡ b → ((x ≡ own) × (s.number ≡ register.number)) ⊎ ((x ≢ own) × (given_at old x ≡ Some s))
    by true f =
        let same : x ≡ own = sym (eqb-true own x f) in
        let one : Some s ≡ Some register = sym e ∙ ap (given_at new) same ∙ p.here in
        let r : s ≡ register = cc in
        inl (same, ap (λ (l : Low). l.number) r)
    by false f = let d = not_same own x f in inr (d, sym (p.others x d) ∙ e)

-- if a register is put for `own`, in agreement with an earlier binding of it if there is one, then `own` is bound to it
pub put_binds : (old new : List (Option Low)) (own other : ℕ) (register : Low) → Puts old new own register → register.number ≡ other
    → ((s : Low) → given_at old own ≡ Some s → s.number ≡ other) → Binds old new (own ∷ []) (λ registers. item_under registers own ≡ other)
put_binds old new own other register p is fits = record {
  named = λ x. name x (own == x) refl;
  agree = λ registers. (
    λ h. (λ x s e. before registers h x s e (own == x) refl, h own register p.here ∙ is),
    λ h x s e. elim (either old new own x register s p e) [
      | inl k ↦ ap (item_under registers) k.0 ∙ h.1 ∙ sym (k.1 ∙ is)
      | inr k ↦ h.0 x s k.1
    ],
  );
}
  where
    or_true : (b : Bool) → true ≡ (b || true)
    or_true true = refl
    or_true false = refl

    name : (x : ℕ) (b : Bool) → (own == x) ≡ b → is_some (given_at new x) ≡ (is_some (given_at old x) || (own == x || false))
    name x true e =
        ap (λ y. is_some (given_at new y)) (sym (eqb-true own x e)) ∙ ap is_some p.here ∙ or_true (is_some (given_at old x)) ∙ ap (λ c. is_some (given_at old x) || (c || false)) (sym e)
    name x false e =
        ap is_some (p.others x (not_same own x e)) ∙ sym (or-false (is_some (given_at old x))) ∙ ap (λ c. is_some (given_at old x) || (c || false)) (sym e)

    before : (registers : List Low) → Agrees registers new → (x : ℕ) (s : Low) → given_at old x ≡ Some s → (b : Bool) → (own == x) ≡ b → item_under registers x ≡ s.number
    before registers h x s e true f =
        let same : x ≡ own = sym (eqb-true own x f) in
        ap (item_under registers) same ∙ h own register p.here ∙ is ∙ sym (fits s (sym (ap (given_at old) same) ∙ e))
    before registers h x s e false f = h x s (p.others x (not_same own x f) ∙ e)

-- the bindings stay one-to-one if nothing was bound to that register
pub put_one_to_one : (old new : List (Option Low)) (taken more own other : ℕ) (register : Low) → Puts old new own register → register.number ≡ other → given_at old own ≡ None
    → has_item taken other ≡ false → ((n : ℕ) → has_item more n ≡ (has_item taken n || (n == other))) → IsOneToOne old taken → IsOneToOne new more
put_one_to_one old new taken more own other register p is free not_taken both o = record {
  apart = λ x y r s e f g. elim (either old new own x register r p e) [
    | inl i ↦ elim (either old new own y register s p f) [ inl j ↦ i.0 ∙ sym j.0 | inr j ↦ absurd (nowhere y s j.1 (sym g ∙ i.1 ∙ is)) ]
    | inr i ↦ elim (either old new own y register s p f) [ inl j ↦ absurd (nowhere x r i.1 (g ∙ j.1 ∙ is)) | inr j ↦ o.apart x y r s i.1 j.1 g ]
  ];
  held = λ x r e. elim (either old new own x register r p e) [
    | inl i ↦ both r.number ∙ or_right (has_item taken r.number) (r.number == other) (eq-eqb r.number other (i.1 ∙ is))
    | inr i ↦ both r.number ∙ or_left (has_item taken r.number) (r.number == other) (o.held x r i.1)
  ];
  places = λ n h. place n (n == other) refl (sym (both n) ∙ h);
}
  where
    nowhere : (x : ℕ) (r : Low) → given_at old x ≡ Some r → r.number ≡ other → ⊥
    nowhere x r e f = true≢false (sym (o.held x r e) ∙ ap (has_item taken) f ∙ not_taken)

    stays : (x : ℕ) (r : Low) → given_at old x ≡ Some r → given_at new x ≡ Some r
    stays x r e = p.others x (λ s. (let none : None ≡ Some r = sym free ∙ ap (given_at old) (sym s) ∙ e in cc)) ∙ e

    place : (n : ℕ) (b : Bool) → (n == other) ≡ b → (has_item taken n || (n == other)) ≡ true → (x : ℕ) × (r : Low) × (given_at new x ≡ Some r) × (r.number ≡ n)
    place n true e h = (own, register, p.here, is ∙ sym (eqb-true n other e))
    place n false e h =
        let k = o.places n (sym (or-false (has_item taken n)) ∙ ap (λ c. has_item taken n || c) (sym e) ∙ h) in
        (k.0, k.1, stays k.0 k.1 k.2, k.3)

-- if another one is bound to the register, `own` can't be
pub taken_clashes : (given : List (Option Low)) (taken own other : ℕ) → given_at given own ≡ None → has_item taken other ≡ true → IsOneToOne given taken
    → Clashes given (own ∷ []) (λ registers. item_under registers own ≡ other)
taken_clashes given taken own other free is o = λ registers h asked apart.
    let k = o.places other is in
    let same : own ≡ k.0 = apart own k.0 (own_named (is_some (given_at given own))) (or_left (is_some (given_at given k.0)) (own == k.0 || false) (ap is_some k.2)) (asked ∙ sym (h k.0 k.1 k.2 ∙ k.3)) in
    let none : None ≡ Some k.1 = sym free ∙ ap (given_at given) same ∙ k.2 in
    cc
  where
    own_named : (a : Bool) → (a || (own == own || false)) ≡ true
    own_named true = refl
    own_named false = rw (eq-eqb own own refl) refl

-- a register that is already bound is bound to that one alone
pub bound_already : (given : List (Option Low)) (own other : ℕ) (register : Low) → given_at given own ≡ Some register
    → IsBound (register.number == other) given given (own ∷ []) (λ registers. item_under registers own ≡ other)
bound_already given own other register e = by (register.number == other) refl
  where
    by : (b : Bool) → (register.number == other) ≡ b → IsBound b given given (own ∷ []) (λ registers. item_under registers own ≡ other)
    by true f = put_binds given given own other register (puts_again given own register e) (eqb-true register.number other f) (λ s k.
        let one : Some s ≡ Some register = sym k ∙ e in
        let r : s ≡ register = cc in
        ap (λ (l : Low). l.number) r ∙ eqb-true register.number other f)
    by false f = λ registers h asked apart. true≢false (sym (eq-eqb register.number other (sym (h own register e) ∙ asked)) ∙ f)

-- ---- one after another

abbrev Both : (List Low → Type 0) → (List Low → Type 0) → List Low → Type 0
Both F G registers = F registers × G registers

has_both : (xs ys : List ℕ) (x : ℕ) (a : Bool) → (a || has (xs ++ ys) x) ≡ ((a || has xs x) || has ys x)
has_both xs ys x a = ap (λ c. a || c) (list_any-append (λ y. y == x) xs ys) ∙ sym (or_assoc a (has xs x) (has ys x))

pub binds_then : (old mid new : List (Option Low)) (xs ys : List ℕ) (F G : List Low → Type 0) (b : Bool) → Binds old mid xs F → IsBound b mid new ys G
    → IsBound b old new (xs ++ ys) (λ registers. F registers × G registers)
binds_then old mid new xs ys F G true f g = record {
  named = λ x. g.named x ∙ ap (λ c. c || has ys x) (f.named x) ∙ sym (has_both xs ys x (is_some (given_at old x)));
  agree = λ registers. (
    λ h. (let k = (g.agree registers).0 h in let l = (f.agree registers).0 k.0 in (l.0, (l.1, k.1))),
    λ h. (g.agree registers).1 ((f.agree registers).1 (h.0, h.1.0), h.1.1),
  );
}
binds_then old mid new xs ys F G false f g = λ registers h asked apart.
    let among : (x : ℕ) → (is_some (given_at mid x) || has ys x) ≡ true → (is_some (given_at old x) || has (xs ++ ys) x) ≡ true =
    λ x k. has_both xs ys x (is_some (given_at old x)) ∙ sym (ap (λ c. c || has ys x) (f.named x)) ∙ k in
    g registers ((f.agree registers).1 (h, asked.0)) asked.1 (λ x y k l e. apart x y (among x k) (among y l) e)

pub clashes_then : (old new : List (Option Low)) (xs ys : List ℕ) (F G : List Low → Type 0) → Clashes old xs F → IsBound false old new (xs ++ ys) (λ registers. F registers × G registers)
clashes_then old new xs ys F G f = λ registers h asked apart.
    let among : (x : ℕ) → (is_some (given_at old x) || has xs x) ≡ true → (is_some (given_at old x) || has (xs ++ ys) x) ≡ true =
    λ x k. has_both xs ys x (is_some (given_at old x)) ∙ or_left (is_some (given_at old x) || has xs x) (has ys x) k in
    f registers h asked.0 (λ x y k l e. apart x y (among x k) (among y l) e)

-- what is asked may be replaced by an equivalent
pub bound_as : (old new : List (Option Low)) (names : List ℕ) (F G : List Low → Type 0) (b : Bool) → ((registers : List Low) → F registers ↔ G registers) → IsBound b old new names F → IsBound b old new names G
bound_as old new names F G true same f = record {
  named = f.named;
  agree = λ registers. (
    λ h. (let k = (f.agree registers).0 h in (k.0, (same registers).0 k.1)),
    λ h. (f.agree registers).1 (h.0, (same registers).1 h.1),
  );
}
bound_as old new names F G false same f = λ registers h asked apart. f registers h ((same registers).1 asked) apart

pub bound_at : (old new : List (Option Low)) (names : List ℕ) (F : List Low → Type 0) (b c : Bool) → b ≡ c → IsBound b old new names F → IsBound c old new names F
bound_at old new names F b c e f = subst (λ d. IsBound d old new names F) e f
