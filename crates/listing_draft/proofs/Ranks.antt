-- Marks and labels of places behind some others.
use Rattle.std.proofs.Common.{◌≡◌, ◌∙◌, inl, inr, ℕ, zero, suc, ◌+◌, ◌-◌, ◌<◌, Bool, true, false, List, [], ◌∷◌, ◌++◌, length, drop, map, Option, refl, sym, ap, arith}
use Rattle.std.specs.Prelude.{slice_get, slice_set}
use Rattle.std.proofs.lemmas.Bool.{cases_Bool, cases_lt}
use Rattle.thumb_model.specs.Listing.{Name, Value, Statement, Nothing, Instruction, Words, Aligns, Sets, Place, Word, places_in, is_op_place}
use Rattle.thumb_model.specs.Replaced.{is_op}
use Rattle.thumb_model.proofs.Lists.{get_back}
use Rattle.kept_places.specs.Marks.{is_gone, rank}
use Rattle.listing_draft.specs.Drafted.{aim_at}

pub gone_drop : (n : ℕ) (gone : List Bool) (p q : ℕ) → q ≡ n + p → is_gone (drop n gone) p ≡ is_gone gone q
gone_drop zero gone p q e = ap (is_gone gone) (let s : p ≡ q = omega arith in s)
gone_drop (suc n) [] p q e = refl
gone_drop (suc n) (g ∷ gs) p zero e = absurd (omega arith)
gone_drop (suc n) (g ∷ gs) p (suc q) e = gone_drop n gs p q (omega arith)

pub aim_drop : (n : ℕ) (aims : List (Option Name)) (p q : ℕ) → q ≡ n + p → aim_at (drop n aims) p ≡ aim_at aims q
aim_drop zero aims p q e = ap (aim_at aims) (let s : p ≡ q = omega arith in s)
aim_drop (suc n) [] p q e = refl
aim_drop (suc n) (a ∷ os) p zero e = absurd (omega arith)
aim_drop (suc n) (a ∷ os) p (suc q) e = aim_drop n os p q (omega arith)

-- behind n kept places
pub rank_drop : (n : ℕ) (gone : List Bool) (p q : ℕ) → q ≡ n + p → ((k : ℕ) → k < n → is_gone gone k ≡ false) → rank gone q ≡ n + rank (drop n gone) p
rank_drop zero gone p q e h = let s : q ≡ p = omega arith in let r : rank gone q ≡ rank gone p = ap (rank gone) s in omega arith
rank_drop (suc n) [] p q e h = omega arith
rank_drop (suc n) (true ∷ gs) p q e h = let no : true ≡ false = h 0 (omega arith) in absurd (cc)
rank_drop (suc n) (false ∷ gs) p zero e h = absurd (omega arith)
rank_drop (suc n) (false ∷ gs) p (suc q) e h = let r = rank_drop n gs p q (omega arith) (λ k l. h (suc k) (omega arith)) in omega arith

-- behind one place
pub rank_behind_gone : (gone : List Bool) (p : ℕ) → is_gone gone 0 ≡ true → rank gone (suc p) ≡ rank (drop 1 gone) p
rank_behind_gone [] p e = absurd (cc)
rank_behind_gone (true ∷ gs) p e = refl
rank_behind_gone (false ∷ gs) p e = absurd (cc)

pub rank_behind_kept : (gone : List Bool) (p : ℕ) → is_gone gone 0 ≡ false → rank gone (suc p) ≡ suc (rank (drop 1 gone) p)
rank_behind_kept [] p e = refl
rank_behind_kept (true ∷ gs) p e = absurd (cc)
rank_behind_kept (false ∷ gs) p e = refl

-- a mark or label that is set behind n others
pub drop_set : {A : Type 0} (n : ℕ) (xs : List A) (p q : ℕ) (x : A) → q ≡ n + p → drop n (slice_set xs q x) ≡ slice_set (drop n xs) p x
drop_set zero xs p q x e = ap (λ k. slice_set xs k x) (let s : q ≡ p = omega arith in s)
drop_set (suc n) [] p q x e = refl
drop_set (suc n) (y ∷ ys) p zero x e = absurd (omega arith)
drop_set (suc n) (y ∷ ys) p (suc q) x e = drop_set n ys p q x (omega arith)

-- ---- only instructions are gone ----

abbrev pub OpsGone : List Bool → List Place → Type 0
OpsGone gone ps = (p : ℕ) → is_gone gone p ≡ true → is_op_place (slice_get ps p) ≡ true

pub ops_behind : (xs ys : List Place) (gone : List Bool) → OpsGone gone (xs ++ ys) → OpsGone (drop (length xs) gone) ys
ops_behind xs ys gone h = λ p e.
    let there : is_gone gone (length xs + p) ≡ true = sym (gone_drop (length xs) gone p (length xs + p) refl) ∙ e in
    ap is_op_place (sym (get_back xs ys p (length xs + p) refl)) ∙ h (length xs + p) there

word_first : (vs : List Value) (ys : List Place) (k : ℕ) → k < length (map Word vs) → is_op_place (slice_get (map Word vs ++ ys) k) ≡ false
word_first [] ys k h = absurd (omega arith)
word_first (v ∷ vs) ys zero h = refl
word_first (v ∷ vs) ys (suc k) h = word_first vs ys k (omega arith)

-- what is no instruction's is no instruction
no_op_first : (s : Statement) (ys : List Place) → is_op s ≡ false → (k : ℕ) → k < length (places_in s) → is_op_place (slice_get (places_in s ++ ys) k) ≡ false
no_op_first Nothing ys e k h = absurd (omega arith)
no_op_first (Instruction i m) ys e k h = absurd (cc)
no_op_first (Words vs) ys e k h = word_first vs ys k h
no_op_first (Aligns size most) ys e k h = absurd (omega arith)
no_op_first (Sets name address) ys e k h = absurd (omega arith)

-- so the places of other lines are kept
pub others_kept : (s : Statement) (ys : List Place) (gone : List Bool) → is_op s ≡ false → OpsGone gone (places_in s ++ ys) → (k : ℕ) → k < length (places_in s) → is_gone gone k ≡ false
others_kept s ys gone e h k l = elim (cases_Bool (is_gone gone k)) [
  | inl t ↦ (let no : true ≡ false = sym (h k t) ∙ no_op_first s ys e k l in absurd (cc))
  | inr f ↦ f
]

-- and an instruction stands behind them
pub op_behind : (s : Statement) (ys : List Place) (p : ℕ) → is_op s ≡ false → is_op_place (slice_get (places_in s ++ ys) p) ≡ true → (q : ℕ) × (p ≡ length (places_in s) + q) × (is_op_place (slice_get ys q) ≡ true)
op_behind s ys p e h = elim (cases_lt p (length (places_in s))) [
  | inl l ↦ (let no : true ≡ false = sym h ∙ no_op_first s ys e p l in absurd (cc))
  | inr g ↦ (
      let is : p ≡ length (places_in s) + (p - length (places_in s)) = omega arith in
      (p - length (places_in s), is, ap is_op_place (sym (get_back (places_in s) ys (p - length (places_in s)) p is)) ∙ h))
]
