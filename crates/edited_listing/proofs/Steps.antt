-- Places that give way, as a loop sees them.
use Rattle.std.proofs.Common.{◌≡◌, ℕ, zero, suc, ◌+◌, ◌-◌, ◌<◌, ◌≤◌, Bool, true, false, List, [], ◌∷◌, length, drop, set, refl, sym, ap, ◌∙◌, arith, true≢false}
use Rattle.std.proofs.lemmas.List.{length-set}
use Rattle.thumb_instr.specs.declared.instr.Instr.{Instr}
use Rattle.kept_places.specs.Marks.{is_gone, IsNode}
use Rattle.edited_listing.specs.declared.standing.Standing.{Standing}
use Rattle.edited_listing.specs.declared.standing.Standing.TheVariants as standing
use Rattle.edited_listing.specs.Items.{items_from}
use Rattle.edited_listing.specs.Changes.{is_none, marks_of, giving_from, next_standing}
use Rattle.edited_listing.proofs.Changes.{items_many, giving_from_none, giving_past, giving_gone, giving_new}

pub marks_set : (ss : List Standing) (p : ℕ) (s : Standing) → set (marks_of ss) p (is_none s) ≡ marks_of (set ss p s)
marks_set [] p s = refl
marks_set (x ∷ ss) zero s = refl
marks_set (x ∷ ss) (suc p) s = ap (λ ms. is_none x ∷ ms) (marks_set ss p s)

pub behind_set : (ss : List Standing) (p q : ℕ) (s : Standing) → p < q → drop q (set ss p s) ≡ drop q ss
behind_set ss p zero s h = absurd (omega arith)
behind_set [] p (suc q) s h = refl
behind_set (x ∷ ss) zero (suc q) s h = refl
behind_set (x ∷ ss) (suc p) (suc q) s h = behind_set ss p q s (omega arith)

pub some_within : (p r : ℕ) (ss : List Standing) → 1 ≤ length (items_from r (drop p ss)) → p < length ss
some_within zero r [] h = absurd (omega arith)
some_within zero r (s ∷ ss) h = omega arith
some_within (suc p) r [] h = absurd (omega arith)
some_within (suc p) r (s ∷ ss) h = let w = some_within p r ss h in omega arith

pub set_false : (ms : List Bool) (p : ℕ) → is_gone ms p ≡ false → ms ≡ set ms p false
set_false [] p g = refl
set_false (true ∷ ms) zero g = absurd (true≢false g)
set_false (false ∷ ms) zero g = refl
set_false (m ∷ ms) (suc p) g = ap (λ xs. m ∷ xs) (set_false ms p g)

-- as many items stand from a place on as from the next kept one on
items_past : (p q r t : ℕ) (ss : List Standing) → p ≤ q → ((k : ℕ) → p ≤ k → k < q → is_gone (marks_of ss) k ≡ true) → length (items_from r (drop p ss)) ≡ length (items_from t (drop q ss))
items_past zero zero r t ss h g = items_many t r ss
items_past zero (suc q) r t [] h g = refl
items_past zero (suc q) r t (standing.Gone ∷ ss) h g = items_past zero q (suc r) t ss (omega arith) (λ k a b. g (suc k) (omega arith) (omega arith))
items_past zero (suc q) r t (standing.Given ∷ ss) h g = absurd (true≢false (sym (g 0 (omega arith) (omega arith))))
items_past zero (suc q) r t (standing.New i home ∷ ss) h g = absurd (true≢false (sym (g 0 (omega arith) (omega arith))))
items_past (suc p) zero r t ss h g = absurd (omega arith)
items_past (suc p) (suc q) r t [] h g = refl
items_past (suc p) (suc q) r t (s ∷ ss) h g = items_past p q r t ss (omega arith) (λ k a b. g (suc k) (omega arith) (omega arith))

-- and one less behind it
items_kept : (q r t : ℕ) (ss : List Standing) → q < length ss → is_gone (marks_of ss) q ≡ false → length (items_from r (drop q ss)) ≡ suc (length (items_from t (drop (suc q) ss)))
items_kept q r t [] h g = absurd (omega arith)
items_kept zero r t (standing.Gone ∷ ss) h g = absurd (true≢false g)
items_kept zero r t (standing.Given ∷ ss) h g = ap suc (items_many t (suc r) ss)
items_kept zero r t (standing.New i home ∷ ss) h g = ap suc (items_many t (suc r) ss)
items_kept (suc q) r t (s ∷ ss) h g = items_kept q r t ss (omega arith) g

pub node_within : (p q : ℕ) (ss : List Standing) → 1 ≤ length (items_from 0 (drop p ss)) → IsNode (marks_of ss) p q → q < length ss
node_within p q ss h n = let same = items_past p q 0 0 ss n.from n.between in some_within q 0 ss (omega arith)

pub items_left : (p q : ℕ) (ss : List Standing) (s : Standing) → 1 ≤ length (items_from 0 (drop p ss)) → IsNode (marks_of ss) p q → length (items_from 0 (drop p ss)) ≡ suc (length (items_from 0 (drop (suc q) (set ss q s))))
items_left p q ss s h n =
    items_past p q 0 0 ss n.from n.between ∙ items_kept q 0 0 ss (node_within p q ss h n) n.kept ∙ ap (λ xs. suc (length (items_from 0 xs))) (sym (behind_set ss q (suc q) s (omega arith)))

-- the next one gives way
pub giving_next : (p q n m : ℕ) (is : List Instr) (home : ℕ) (ss : List Standing) → IsNode (marks_of ss) p q →
    giving_from (suc q) n (drop (suc m) is) home (set ss q (next_standing (drop m is) home)) ≡ giving_from p (suc n) (drop m is) home ss
giving_next p q n m is home ss node = sym (giving_past p q n (drop m is) home ss node.from node.between ∙ next_of (drop m is) (drop (suc m) is) (drop_next m is))
  where
    drop_next : (m : ℕ) (is : List Instr) → drop (suc m) is ≡ drop 1 (drop m is)
    drop_next zero is = refl
    drop_next (suc m) [] = refl
    drop_next (suc m) (i ∷ is) = drop_next m is

    next_of : (cs bs : List Instr) → bs ≡ drop 1 cs → giving_from q (suc n) cs home ss ≡ giving_from (suc q) n bs home (set ss q (next_standing cs home))
    next_of [] bs e = giving_gone q n home ss node.kept ∙ ap (λ xs. giving_from (suc q) n xs home (set ss q standing.Gone)) (sym e)
    next_of (i ∷ cs) bs e = giving_new q n i cs home ss node.kept ∙ ap (λ xs. giving_from (suc q) n xs home (set ss q (standing.New i home))) (sym e)

-- what holds while places give way: what is left to do comes to the same
pub record IsGiving (place count : ℕ) (new : List Instr) (home : ℕ) (start : List Standing) (from before : ℕ) (stands : List Standing) (marks : List Bool) : Type 0 where
  pub noted : marks ≡ marks_of stands
  pub many : count ≤ before + length (items_from 0 (drop from stands))
  pub rest : giving_from from (count - before) (drop before new) home stands ≡ giving_from place count new home start
  pub same : length stands ≡ length start

pub giving_starts : (place count : ℕ) (new : List Instr) (home : ℕ) (start : List Standing) (marks : List Bool) → marks ≡ marks_of start → count ≤ length (items_from 0 (drop place start)) → IsGiving place count new home start place 0 start marks
giving_starts place count new home start marks m h = record {
  noted = m;
  many = omega arith;
  rest = ap (λ n. giving_from place n new home start) (let z : count - 0 ≡ count = omega arith in z);
  same = refl;
}

pub some_left : (place count : ℕ) (new : List Instr) (home : ℕ) (start : List Standing) (from before : ℕ) (ss : List Standing) (ms : List Bool) → IsGiving place count new home start from before ss ms → before < count → 1 ≤ length (items_from 0 (drop from ss))
some_left place count new home start from before ss ms g h = let m = g.many in omega arith

pub giving_goes_on : (place count : ℕ) (new : List Instr) (home : ℕ) (start : List Standing) (from before : ℕ) (ss : List Standing) (ms : List Bool) (q : ℕ) (ss' : List Standing) (ms' : List Bool) (s : Standing) → IsGiving place count new home start from before ss ms →
    before < count → IsNode (marks_of ss) from q → s ≡ next_standing (drop before new) home → ss' ≡ set ss q s → ms' ≡ marks_of ss' → IsGiving place count new home start (q + 1) (before + 1) ss' ms'
giving_goes_on place count new home start from before ss ms q ss' ms' s g h node f e m =
    let n : ℕ = count - suc before in
    let some = some_left place count new home start from before ss ms g h in
    let many = g.many in
    let left = items_left from q ss s some node in
    let same : length (items_from 0 (drop (suc q) (set ss q s))) ≡ length (items_from 0 (drop (q + 1) ss')) =
    ap (λ (xs : List Standing). length (items_from 0 (drop (suc q) xs))) (sym e) ∙ ap (λ j. length (items_from 0 (drop j ss'))) (let z : suc q ≡ q + 1 = omega arith in z) in
    record {
      noted = m;
      many = omega arith;
      rest =
          ap (λ j. giving_from j (count - (before + 1)) (drop (before + 1) new) home ss') (let z : q + 1 ≡ suc q = omega arith in z)
          ∙ ap (λ j. giving_from (suc q) j (drop (before + 1) new) home ss') (let z : count - (before + 1) ≡ n = omega arith in z)
          ∙ ap (λ j. giving_from (suc q) n (drop j new) home ss') (let z : before + 1 ≡ suc before = omega arith in z)
          ∙ ap (λ (xs : List Standing). giving_from (suc q) n (drop (suc before) new) home xs) (e ∙ ap (λ (t : Standing). set ss q t) f)
          ∙ giving_next from q n before new home ss node
          ∙ ap (λ j. giving_from from j (drop before new) home ss) (let z : suc n ≡ count - before = omega arith in z)
          ∙ g.rest;
      same = ap (λ (xs : List Standing). length xs) e ∙ length-set ss q s ∙ g.same;
    }

pub giving_ends : (place count : ℕ) (new : List Instr) (home : ℕ) (start : List Standing) (from before : ℕ) (ss : List Standing) (ms : List Bool) → IsGiving place count new home start from before ss ms → count ≤ before → ss ≡ giving_from place count new home start
giving_ends place count new home start from before ss ms g h =
    sym (giving_from_none from (drop before new) home ss) ∙ ap (λ n. giving_from from n (drop before new) home ss) (let z : 0 ≡ count - before = omega arith in z) ∙ g.rest
