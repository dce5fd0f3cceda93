-- Places that give way, one by one, and the items that do.
use Rattle.std.proofs.Common.{◌≡◌, ℕ, zero, suc, ◌+◌, ◌<◌, ◌≤◌, true, false, List, [], ◌∷◌, ◌++◌, length, map, drop, set, Some, refl, sym, ap, ◌∙◌, arith, true≢false}
use Rattle.std.specs.Prelude.{slice_get}
use Rattle.thumb_instr.specs.declared.instr.Instr.{Instr}
use Rattle.std.proofs.lemmas.Option.{same_Some}
use Rattle.kept_places.specs.Marks.{is_gone, rank}
use Rattle.kept_places.proofs.Ranks.{rank_zero}
use Rattle.edited_listing.specs.declared.standing.Standing.{Standing}
use Rattle.edited_listing.specs.declared.standing.Standing.TheVariants as standing
use Rattle.edited_listing.specs.Items.{AsGiven, New, items_from, spliced}
use Rattle.edited_listing.specs.Changes.{is_none, marks_of, home_at, giving, giving_from}

-- ---- one place at a time ----

pub giving_from_none : (p : ℕ) (is : List Instr) (home : ℕ) (ss : List Standing) → giving_from p 0 is home ss ≡ ss
giving_from_none p is home [] = refl
giving_from_none zero is home (s ∷ ss) = refl
giving_from_none (suc p) is home (s ∷ ss) = ap (λ xs. s ∷ xs) (giving_from_none p is home ss)

giving_here : (n : ℕ) (is : List Instr) (home : ℕ) (ss : List Standing) → giving_from 0 n is home ss ≡ giving n is home ss
giving_here n is home [] = refl
giving_here n is home (s ∷ ss) = refl

-- places that are gone are passed
pub giving_past : (p q n : ℕ) (is : List Instr) (home : ℕ) (ss : List Standing) → p ≤ q → ((k : ℕ) → p ≤ k → k < q → is_gone (marks_of ss) k ≡ true) → giving_from p (suc n) is home ss ≡ giving_from q (suc n) is home ss
giving_past p q n is home [] h g = refl
giving_past zero zero n is home (s ∷ ss) h g = refl
giving_past zero (suc q) n is home (standing.Gone ∷ ss) h g =
    ap (λ xs. standing.Gone ∷ xs) (sym (giving_here (suc n) is home ss) ∙ giving_past zero q n is home ss (omega arith) (λ k a b. g (suc k) (omega arith) (omega arith)))
giving_past zero (suc q) n is home (s ∷ ss) h g = absurd (true≢false (sym (g 0 (omega arith) (omega arith))))
giving_past (suc p) zero n is home (s ∷ ss) h g = absurd (omega arith)
giving_past (suc p) (suc q) n is home (s ∷ ss) h g = ap (λ xs. s ∷ xs) (giving_past p q n is home ss (omega arith) (λ k a b. g (suc k) (omega arith) (omega arith)))

-- a kept one goes
pub giving_gone : (q n : ℕ) (home : ℕ) (ss : List Standing) → is_gone (marks_of ss) q ≡ false → giving_from q (suc n) [] home ss ≡ giving_from (suc q) n [] home (set ss q standing.Gone)
giving_gone q n home [] g = refl
giving_gone zero n home (standing.Given ∷ ss) g = ap (λ xs. standing.Gone ∷ xs) (sym (giving_here n [] home ss))
giving_gone zero n home (standing.Gone ∷ ss) g = absurd (true≢false g)
giving_gone zero n home (standing.New i k ∷ ss) g = ap (λ xs. standing.Gone ∷ xs) (sym (giving_here n [] home ss))
giving_gone (suc q) n home (s ∷ ss) g = ap (λ xs. s ∷ xs) (giving_gone q n home ss g)

-- or takes the first new instruction
pub giving_new : (q n : ℕ) (i : Instr) (is : List Instr) (home : ℕ) (ss : List Standing) → is_gone (marks_of ss) q ≡ false → giving_from q (suc n) (i ∷ is) home ss ≡ giving_from (suc q) n is home (set ss q (standing.New i home))
giving_new q n i is home [] g = refl
giving_new zero n i is home (standing.Given ∷ ss) g = ap (λ xs. standing.New i home ∷ xs) (sym (giving_here n is home ss))
giving_new zero n i is home (standing.Gone ∷ ss) g = absurd (true≢false g)
giving_new zero n i is home (standing.New j k ∷ ss) g = ap (λ xs. standing.New i home ∷ xs) (sym (giving_here n is home ss))
giving_new (suc q) n i is home (s ∷ ss) g = ap (λ xs. s ∷ xs) (giving_new q n i is home ss g)

-- ---- items ----

pub items_many : (q r : ℕ) (ss : List Standing) → length (items_from r ss) ≡ length (items_from q ss)
items_many q r [] = refl
items_many q r (standing.Given ∷ ss) = ap suc (items_many (suc q) (suc r) ss)
items_many q r (standing.Gone ∷ ss) = items_many (suc q) (suc r) ss
items_many q r (standing.New i home ∷ ss) = ap suc (items_many (suc q) (suc r) ss)

-- as many items stand before a place as its number says
pub items_behind : (p q r : ℕ) (ss : List Standing) → p ≤ length ss → rank (marks_of ss) p + length (items_from r (drop p ss)) ≡ length (items_from q ss)
items_behind zero q r ss h = let z = rank_zero (marks_of ss) in let m = items_many q r ss in omega arith
items_behind (suc p) q r [] h = absurd (omega arith)
items_behind (suc p) q r (standing.Given ∷ ss) h = let m = items_behind p (suc q) r ss (omega arith) in omega arith
items_behind (suc p) q r (standing.Gone ∷ ss) h = items_behind p (suc q) r ss (omega arith)
items_behind (suc p) q r (standing.New i home ∷ ss) h = let m = items_behind p (suc q) r ss (omega arith) in omega arith

-- the first items give way
items_giving : (n q : ℕ) (is : List Instr) (home : ℕ) (ss : List Standing) → length is ≤ n → n ≤ length (items_from q ss) → items_from q (giving n is home ss) ≡ map (λ i. New i home) is ++ drop n (items_from q ss)
items_giving zero q [] home [] h k = refl
items_giving zero q [] home (s ∷ ss) h k = refl
items_giving zero q (i ∷ is) home ss h k = absurd (omega arith)
items_giving (suc n) q is home [] h k = absurd (omega arith)
items_giving (suc n) q is home (standing.Gone ∷ ss) h k = items_giving (suc n) (suc q) is home ss h k
items_giving (suc n) q [] home (standing.Given ∷ ss) h k = items_giving n (suc q) [] home ss (omega arith) (omega arith)
items_giving (suc n) q (i ∷ is) home (standing.Given ∷ ss) h k = ap (λ xs. New i home ∷ xs) (items_giving n (suc q) is home ss (omega arith) (omega arith))
items_giving (suc n) q [] home (standing.New j m ∷ ss) h k = items_giving n (suc q) [] home ss (omega arith) (omega arith)
items_giving (suc n) q (i ∷ is) home (standing.New j m ∷ ss) h k = ap (λ xs. New i home ∷ xs) (items_giving n (suc q) is home ss (omega arith) (omega arith))

-- items give way where places do
pub items_change : (p n q : ℕ) (is : List Instr) (home : ℕ) (ss : List Standing) (s : Standing) → slice_get ss p ≡ Some s → is_none s ≡ false → home ≡ home_at (q + p) s → length is ≤ suc n → suc n ≤ length (items_from (q + p) (drop p ss)) →
    items_from q (giving_from p (suc n) is home ss) ≡ spliced (rank (marks_of ss) p) (suc n) is (items_from q ss)
items_change zero n q is home [] s e k f h m = absurd (omega arith)
items_change (suc p) n q is home [] s e k f h m = absurd (omega arith)
items_change zero n q is home (standing.Gone ∷ ss) s e k f h m = absurd (let g : standing.Gone ≡ s = same_Some standing.Gone s e in true≢false (ap is_none g ∙ k))
items_change zero n q is home (standing.Given ∷ ss) s e k f h m =
    let g : standing.Given ≡ s = same_Some standing.Given s e in
    let here : home ≡ q = f ∙ ap (home_at (q + 0)) (sym g) ∙ (let z : q + 0 ≡ q = omega arith in z) in
    items_giving (suc n) q is home (standing.Given ∷ ss) h (let same = items_many q (q + 0) (standing.Given ∷ ss) in omega arith)
    ∙ ap (λ j. map (λ i. New i j) is ++ drop n (items_from (suc q) ss)) here
items_change zero n q is home (standing.New j m' ∷ ss) s e k f h m =
    let g : standing.New j m' ≡ s = same_Some (standing.New j m') s e in
    let here : home ≡ m' = f ∙ ap (home_at (q + 0)) (sym g) in
    items_giving (suc n) q is home (standing.New j m' ∷ ss) h (let same = items_many q (q + 0) (standing.New j m' ∷ ss) in omega arith)
    ∙ ap (λ j. map (λ i. New i j) is ++ drop n (items_from (suc q) ss)) here
items_change (suc p) n q is home (standing.Gone ∷ ss) s e k f h m = items_change p n (suc q) is home ss s e k (f ∙ ap (λ j. home_at j s) (let z : q + suc p ≡ suc q + p = omega arith in z)) h (let same = items_many (q + suc p) (suc q + p) (drop p ss) in omega arith)
items_change (suc p) n q is home (standing.Given ∷ ss) s e k f h m = ap (λ xs. AsGiven q ∷ xs) (items_change p n (suc q) is home ss s e k (f ∙ ap (λ j. home_at j s) (let z : q + suc p ≡ suc q + p = omega arith in z)) h (let same = items_many (q + suc p) (suc q + p) (drop p ss) in omega arith))
items_change (suc p) n q is home (standing.New j m' ∷ ss) s e k f h m = ap (λ xs. New j m' ∷ xs) (items_change p n (suc q) is home ss s e k (f ∙ ap (λ j. home_at j s) (let z : q + suc p ≡ suc q + p = omega arith in z)) h (let same = items_many (q + suc p) (suc q + p) (drop p ss) in omega arith))
