-- Items in the order of their homes.
use Rattle.std.proofs.Common.{◌≡◌, ◌≢◌, ℕ, zero, suc, ◌≤◌, ◌<◌, ◌==◌, true, false, List, [], ◌∷◌, ◌++◌, map, drop, refl, sym, ap, ◌∙◌, inl, inr, arith, ne_eqb, true≢false}
use Rattle.std.proofs.lemmas.Bool.{cases_Bool, eqb-true, eqb-false}
use Rattle.thumb_instr.specs.declared.instr.Instr.{Instr}
use Rattle.edited_listing.specs.Items.{Item, AsGiven, New, has_given, AreSorted, spliced}
use Rattle.edited_listing.specs.Emitting.{is_given_at}

-- lesser bounds hold too
pub sorted_less : (c g c' g' : ℕ) (xs : List Item) → c' ≤ c → g' ≤ g → AreSorted c g xs → AreSorted c' g' xs
sorted_less c g c' g' [] h k s = tt
sorted_less c g c' g' (AsGiven p ∷ xs) h k s = (let a = s.0 in omega arith, s.1)
sorted_less c g c' g' (New i p ∷ xs) h k s = (let a = s.0 in omega arith, s.1)

pub sorted_drop : (m c g : ℕ) (xs : List Item) → c ≤ g → g ≤ suc c → AreSorted c g xs → AreSorted c g (drop m xs)
sorted_drop zero c g xs h k s = s
sorted_drop (suc m) c g [] h k s = tt
sorted_drop (suc m) c g (AsGiven p ∷ xs) h k s =
    let a = s.0 in sorted_less (suc p) (suc p) c g (drop m xs) (omega arith) (omega arith) (sorted_drop m (suc p) (suc p) xs (omega arith) (omega arith) s.1)
sorted_drop (suc m) c g (New i p ∷ xs) h k s =
    let a = s.0 in sorted_less p (suc p) c g (drop m xs) (omega arith) (omega arith) (sorted_drop m p (suc p) xs (omega arith) (omega arith) s.1)

-- new items of one home, before others
pub sorted_new : (h c g : ℕ) (is : List Instr) (xs : List Item) → c ≤ h → g ≤ suc h → AreSorted h (suc h) xs → AreSorted c g (map (λ i. New i h) is ++ xs)
sorted_new h c g [] xs j k s = sorted_less h (suc h) c g xs j k s
sorted_new h c g (i ∷ is) xs j k s = (j, sorted_new h h (suc h) is xs (omega arith) (omega arith) s)

pub sorted_spliced : (r n c g : ℕ) (is : List Instr) (xs : List Item) → c ≤ g → g ≤ suc c → AreSorted c g xs → AreSorted c g (spliced r (suc n) is xs)
sorted_spliced r n c g is [] h k s = tt
sorted_spliced zero n c g is (AsGiven p ∷ xs) h k s =
    let a = s.0 in
    sorted_new p c g is (drop n xs) (omega arith) (omega arith) (sorted_less (suc p) (suc p) p (suc p) (drop n xs) (omega arith) (omega arith) (sorted_drop n (suc p) (suc p) xs (omega arith) (omega arith) s.1))
sorted_spliced zero n c g is (New i p ∷ xs) h k s =
    let a = s.0 in sorted_new p c g is (drop n xs) (omega arith) (omega arith) (sorted_drop n p (suc p) xs (omega arith) (omega arith) s.1)
sorted_spliced (suc r) n c g is (AsGiven p ∷ xs) h k s = (s.0, sorted_spliced r n (suc p) (suc p) is xs (omega arith) (omega arith) s.1)
sorted_spliced (suc r) n c g is (New i p ∷ xs) h k s = (s.0, sorted_spliced r n p (suc p) is xs (omega arith) (omega arith) s.1)

-- ---- the item at a place that is as given ----

pub none_given : (p c g : ℕ) (xs : List Item) → p < g → AreSorted c g xs → is_given_at p xs ≡ false
none_given p c g [] h s = refl
none_given p c g (AsGiven q ∷ xs) h s = ne_eqb q p (let a = s.0 in omega arith)
none_given p c g (New i q ∷ xs) h s = refl

-- where the next item isn't p as given, no item is
pub not_given : (p : ℕ) (xs : List Item) → is_given_at p xs ≡ false → AreSorted p p xs → AreSorted p (suc p) xs
not_given p [] e s = tt
not_given p (AsGiven q ∷ xs) e s = (let a = s.0 in let other : q ≢ p = eqb-false q p e in omega arith, s.1)
not_given p (New i q ∷ xs) e s = s

-- where it is, it is first
pub given_first : (p : ℕ) (xs : List Item) → is_given_at p xs ≡ true → (ys : List Item) × (xs ≡ AsGiven p ∷ ys)
given_first p [] e = absurd (true≢false (sym e))
given_first p (AsGiven q ∷ xs) e = (xs, ap (λ n. AsGiven n ∷ xs) (eqb-true q p e))
given_first p (New i q ∷ xs) e = absurd (true≢false (sym e))

-- an item that is as given is among those from its place on only as the first of them
past_given : (p c g : ℕ) (xs : List Item) → p < g → g ≤ suc c → c ≤ g → AreSorted c g xs → has_given p xs ≡ false
past_given p c g [] h k l s = refl
past_given p c g (AsGiven q ∷ xs) h k l s =
    let a = s.0 in let other : (q == p) ≡ false = ne_eqb q p (omega arith) in rw other (past_given p (suc q) (suc q) xs (omega arith) (omega arith) (omega arith) s.1)
past_given p c g (New i q ∷ xs) h k l s = let a = s.0 in past_given p q (suc q) xs (omega arith) (omega arith) (omega arith) s.1

pub is_first : (p : ℕ) (xs : List Item) → AreSorted p p xs → has_given p xs ≡ true → is_given_at p xs ≡ true
is_first p [] s e = absurd (true≢false (sym e))
is_first p (AsGiven q ∷ xs) s e = elim (cases_Bool (q == p)) [
  | inl h ↦ h
  | inr h ↦ absurd (let a = s.0 in let past = past_given p (suc q) (suc q) xs (omega arith) (omega arith) (omega arith) s.1 in let bad : has_given p xs ≡ true = rw h at e in true≢false (sym bad ∙ past))
]
is_first p (New i q ∷ xs) s e = absurd (let a = s.0 in let past = past_given p q (suc q) xs (omega arith) (omega arith) (omega arith) s.1 in true≢false (sym e ∙ past))
