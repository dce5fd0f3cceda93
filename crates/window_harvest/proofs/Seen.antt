-- The set of keys stands for the list of pairs: a key is in it exactly where its pair was seen.
use Rattle.std.proofs.Common.{◌≡◌, ℕ, ◌==◌, ◌&&◌, Bool, true, false, not, cond, List, [], ◌∷◌, ◌++◌, Some, refl, sym, ap, ◌∙◌, subst, ◌⊎◌, inl, inr, ◌↔◌, eq-eqb, eqb-true}
use Rattle.std.specs.Prelude.{slice_get, Contains}
use Rattle.std.specs.List.{list_any}
use Rattle.std.proofs.lemmas.Bool.{and_parts, and_from}
use Rattle.std.proofs.lemmas.Option.{same_Some}
use Rattle.seq_enum.specs.Alphabet.{sequences}
use Rattle.window_harvest.specs.Harvest.{Pair}
use Rattle.window_harvest.specs.Keys.{IsKey, key_eq, AreSeen}
use Rattle.window_harvest.specs.declared.keys.Key.{Key}
use Rattle.window_harvest.proofs.Lists.{In, contains_in, in_contains, in_left, in_right, in_parts, in_one}

-- a pair has one key, and a key one pair
same_keys : (pool : List ℕ) (a : Pair) (k j : Key) → IsKey pool a k → IsKey pool a j → key_eq k j ≡ true
same_keys pool a k j p q =
    let registers : k.registers ≡ j.registers = p.registers ∙ sym q.registers in
    let there : slice_get (sequences j.registers pool) k.number ≡ Some a.seq = ap (λ n. slice_get (sequences n pool) k.number) (sym registers) ∙ p.number.stands k.number refl in
    let number : k.number ≡ j.number = sym (same_Some j.number k.number (q.number.found k.number there)) in
    and_from (k.registers == j.registers) ((k.number == j.number) && (k.mask == j.mask)) (eq-eqb k.registers j.registers registers)
    (and_from (k.number == j.number) (k.mask == j.mask) (eq-eqb k.number j.number number) (eq-eqb k.mask j.mask (p.mask ∙ sym q.mask)))

same_pairs : (pool : List ℕ) (a b : Pair) (k j : Key) → key_eq k j ≡ true → IsKey pool a k → IsKey pool b j → b ≡ a
same_pairs pool a b k j e p q =
    let first = and_parts (k.registers == j.registers) ((k.number == j.number) && (k.mask == j.mask)) e in
    let second = and_parts (k.number == j.number) (k.mask == j.mask) first.1 in
    let registers : k.registers ≡ j.registers = eqb-true k.registers j.registers first.0 in
    let number : k.number ≡ j.number = eqb-true k.number j.number second.0 in
    let mask : b.mask ≡ a.mask = sym q.mask ∙ sym (eqb-true k.mask j.mask second.1) ∙ p.mask in
    let there : slice_get (sequences j.registers pool) j.number ≡ Some a.seq = ap (λ n. slice_get (sequences n pool) j.number) (sym registers) ∙ ap (slice_get (sequences k.registers pool)) (sym number) ∙ p.number.stands k.number refl in
    let seq : b.seq ≡ a.seq = same_Some b.seq a.seq (sym (q.number.stands j.number refl) ∙ there) in
    λ i. record { seq = seq i; mask = mask i }

contains_left : (xs ys : List Pair) (x : Pair) → Contains xs x → Contains (xs ++ ys) x
contains_left xs ys x c = in_contains (xs ++ ys) x (in_left xs ys x (contains_in xs x c))

contains_last : (xs : List Pair) (x y : Pair) → y ≡ x → Contains (xs ++ x ∷ []) y
contains_last xs x y e = in_contains (xs ++ x ∷ []) y (in_right xs (x ∷ []) y (0, ap Some (sym e)))

contains_parts : (xs : List Pair) (x y : Pair) → Contains (xs ++ x ∷ []) y → Contains xs y ⊎ (y ≡ x)
contains_parts xs x y c = go (in_parts xs (x ∷ []) y (contains_in (xs ++ x ∷ []) y c))
  where
    go : In xs y ⊎ In (x ∷ []) y → Contains xs y ⊎ (y ≡ x)
    go (inl e) = inl (in_contains xs y e)
    go (inr e) = inr (in_one x y e)

-- the keys after one was put among them
abbrev IsUpdate : Key → List Key → List Key → Type 0
IsUpdate key keys next = (q : Key) → list_any (key_eq q) next ≡ cond (key_eq key q) true (list_any (key_eq q) keys)

-- a key that wasn't among them: the pair is new
pub seen_new : (pool : List ℕ) (pair : Pair) (key : Key) (keys next : List Key) (pairs : List Pair) → IsUpdate key keys next → true ≡ not (list_any (key_eq key) keys) → IsKey pool pair key → AreSeen pool keys pairs
    → AreSeen pool next (pairs ++ pair ∷ []) × (Contains pairs pair → ⊥)
seen_new pool pair key keys next pairs u n k s = (seen, not_there)
  where
    absent : (b : Bool) → true ≡ not b → b ≡ true → ⊥
    absent true e f = cc
    absent false e f = cc

    not_there : Contains pairs pair → ⊥
    not_there c = absent (list_any (key_eq key) keys) n ((s pair key k).1 c)

    seen : AreSeen pool next (pairs ++ pair ∷ [])
    seen p q is = go (key_eq key q) refl
      where
        go : (b : Bool) → key_eq key q ≡ b → (list_any (key_eq q) next ≡ true) ↔ Contains (pairs ++ pair ∷ []) p
        go true e = (λ h. contains_last pairs pair p (same_pairs pool pair p key q e k is), λ c. u q ∙ ap (λ b. cond b true (list_any (key_eq q) keys)) e)
        go false e =
            let same : list_any (key_eq q) next ≡ list_any (key_eq q) keys = u q ∙ ap (λ b. cond b true (list_any (key_eq q) keys)) e in
            (λ h. contains_left pairs (pair ∷ []) p ((s p q is).0 (sym same ∙ h)), λ c. same ∙ back (contains_parts pairs pair p c))
          where
            back : Contains pairs p ⊎ (p ≡ pair) → list_any (key_eq q) keys ≡ true
            back (inl c) = (s p q is).1 c
            back (inr f) = absurd (let g : key_eq key q ≡ true = same_keys pool p key q (subst (λ (r : Pair). IsKey pool r key) (sym f) k) is in cc)

-- a key that was among them: so was the pair
pub seen_known : (pool : List ℕ) (pair : Pair) (key : Key) (keys next : List Key) (pairs : List Pair) → IsUpdate key keys next → false ≡ not (list_any (key_eq key) keys) → IsKey pool pair key → AreSeen pool keys pairs
    → AreSeen pool next pairs × Contains pairs pair
seen_known pool pair key keys next pairs u n k s = (seen, there)
  where
    present : (b : Bool) → false ≡ not b → b ≡ true
    present true e = refl
    present false e = cc

    there : Contains pairs pair
    there = (s pair key k).0 (present (list_any (key_eq key) keys) n)

    seen : AreSeen pool next pairs
    seen p q is = go (key_eq key q) refl
      where
        go : (b : Bool) → key_eq key q ≡ b → (list_any (key_eq q) next ≡ true) ↔ Contains pairs p
        go true e = (λ h. subst (Contains pairs) (sym (same_pairs pool pair p key q e k is)) there, λ c. u q ∙ ap (λ b. cond b true (list_any (key_eq q) keys)) e)
        go false e =
            let same : list_any (key_eq q) next ≡ list_any (key_eq q) keys = u q ∙ ap (λ b. cond b true (list_any (key_eq q) keys)) e in
            (λ h. (s p q is).0 (sym same ∙ h), λ c. same ∙ (s p q is).1 c)
