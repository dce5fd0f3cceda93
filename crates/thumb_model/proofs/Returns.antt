-- Calls and their return points, by lists split at a call: the proofs of `ReturnsAreCuts`.
use Rattle.std.proofs.Common.{◌≡◌, ◌∙◌, inl, inr, ℕ, zero, suc, ◌+◌, ◌<◌, Bool, true, false, List, [], ◌∷◌, ◌++◌, length, map, refl, sym, ap, arith, subst, if◌then◌else◌}
use Rattle.std.specs.Prelude.{Contains}
use Rattle.std.proofs.lemmas.Bool.{cases_Bool}
use Rattle.std.proofs.lemmas.List.Elements.{Contains-append_right, Contains-append_cases}
use Rattle.thumb_model.specs.Listing.{Value, Statement, Nothing, Instruction, Words, Aligns, Sets, ListingLine, Place, Word, is_call, call_count, places_in, places_of}
use Rattle.thumb_model.specs.Layout.{end_of, size_at}
use Rattle.thumb_model.specs.Naming.{ends_in_call, return_address, IsCutAtCall, Naming, returns_from}
use Rattle.thumb_model.specs.Returns.{LaidReturnsLieBehind, IsReturnPoint, ReturnPointsStandBehind, ReturnsAreCuts}
use Rattle.thumb_model.proofs.Moved.{count_append, returns_append}

-- ---- counts ----

pub no_words : (vs : List Value) → call_count (map Word vs) ≡ 0
no_words [] = refl
no_words (v ∷ vs) = no_words vs

pub statement_calls : (s : Statement) → call_count (places_in s) ≡ (if ends_in_call s then 1 else 0)
statement_calls (Instruction i mention) = refl
statement_calls (Words vs) = no_words vs
statement_calls Nothing = refl
statement_calls (Aligns size most) = refl
statement_calls (Sets name address) = refl

line_calls : (l : ListingLine) (ls : List ListingLine) (b : Bool) → ends_in_call l.statement ≡ b → call_count (places_of (l ∷ ls)) ≡ (if b then 1 else 0) + call_count (places_of ls)
line_calls l ls b e = count_append (places_in l.statement) (places_of ls) ∙ ap (λ n. n + call_count (places_of ls)) (statement_calls l.statement ∙ ap (λ c. if c then 1 else 0) e)

calls_append : (xs ys : List ListingLine) → call_count (places_of (xs ++ ys)) ≡ call_count (places_of xs) + call_count (places_of ys)
calls_append [] ys = omega arith
calls_append (x ∷ xs) ys =
    let all = count_append (places_in x.statement) (places_of (xs ++ ys)) in
    let front = count_append (places_in x.statement) (places_of xs) in
    let rest = calls_append xs ys in
    omega arith

-- ---- cuts of lines ----

-- there are more calls than come before this one
pub call_within : (lines : List ListingLine) (k : ℕ) (before : List ListingLine) (call : ListingLine) (after : List ListingLine) → IsCutAtCall lines k before call after → k < call_count (places_of lines)
call_within lines k before call after is =
    let all : call_count (places_of lines) ≡ call_count (places_of (before ++ call ∷ after)) = ap (λ (ls : List ListingLine). call_count (places_of ls)) is.cut in
    let split = calls_append before (call ∷ after) in
    let one = line_calls call after true is.calls in
    omega (arith, is.number)

-- a cut at call k
abbrev Cut : List ListingLine → ℕ → Type 0
Cut lines k = (before : List ListingLine) × (call : ListingLine) × (after : List ListingLine) × IsCutAtCall lines k before call after

-- a cut stays one with a further line in front; its number is 1 more where that line is a call
further : (l : ListingLine) (ls : List ListingLine) (k m : ℕ) (b : Bool) → ends_in_call l.statement ≡ b → m ≡ (if b then 1 else 0) + k → Cut ls k → Cut (l ∷ ls) m
further l ls k m b e f (before, call, after, is) =
    (l ∷ before, call, after, record { cut = ap (λ (xs : List ListingLine). l ∷ xs) is.cut; calls = is.calls; number = f ∙ ap (λ (n : ℕ). (if b then 1 else 0) + n) is.number ∙ sym (line_calls l before b e) })

each_call : (lines : List ListingLine) (k : ℕ) → k < call_count (places_of lines) → Cut lines k
each_call [] k lt = absurd (omega arith)
each_call (l ∷ ls) k lt = elim (cases_Bool (ends_in_call l.statement)) [
  | inl h ↦ here k h (λ n less. each_call ls n less) (let c = line_calls l ls true h in omega arith)
  | inr h ↦ further l ls k k false h (let z : k ≡ 0 + k = omega arith in z) (each_call ls k (let c = line_calls l ls false h in omega arith))
] where
  here : (k : ℕ) → ends_in_call l.statement ≡ true → ((n : ℕ) → n < call_count (places_of ls) → Cut ls n) → k < 1 + call_count (places_of ls) → Cut (l ∷ ls) k
  here zero h rest lt = ([], l, ls, record { cut = refl; calls = h; number = refl })
  here (suc k) h rest lt = further l ls k (suc k) true h (omega arith) (rest k (omega arith))

-- where the lines are split at a call, its return address is the address after it
abbrev CallBehind : ℕ → List ListingLine → ListingLine → List ListingLine → Type 0
CallBehind at before call after = (k : ℕ) → k ≡ call_count (places_of before) → return_address k at (before ++ call ∷ after) ≡ end_of at (before ++ call ∷ [])

return_behind : (k at : ℕ) (before : List ListingLine) (call : ListingLine) (after : List ListingLine) → ends_in_call call.statement ≡ true → k ≡ call_count (places_of before)
    → return_address k at (before ++ call ∷ after) ≡ end_of at (before ++ call ∷ [])
return_behind zero at [] call after h e = rw h refl
return_behind (suc k) at [] call after h e = absurd (omega arith)
return_behind k at (b ∷ bs) call after h e =
    let rest = λ (n : ℕ) (f : n ≡ call_count (places_of bs)). return_behind n (at + size_at b.statement at) bs call after h f in
    elim (cases_Bool (ends_in_call b.statement)) [
      | inl c ↦ past_call k rest c (e ∙ line_calls b bs true c)
      | inr c ↦ past_other k rest c (e ∙ line_calls b bs false c)
    ]
  where
    past_call : (k : ℕ) → CallBehind (at + size_at b.statement at) bs call after → ends_in_call b.statement ≡ true → k ≡ 1 + call_count (places_of bs) → return_address k at (b ∷ (bs ++ call ∷ after)) ≡ end_of (at + size_at b.statement at) (bs ++ call ∷ [])
    past_call zero rest c e = absurd (omega arith)
    past_call (suc k) rest c e = rw c (rest k (omega arith))

    past_other : (k : ℕ) → CallBehind (at + size_at b.statement at) bs call after → ends_in_call b.statement ≡ false → k ≡ 0 + call_count (places_of bs) → return_address k at (b ∷ (bs ++ call ∷ after)) ≡ end_of (at + size_at b.statement at) (bs ++ call ∷ [])
    past_other zero rest c e = rw c (rest 0 (omega arith))
    past_other (suc k) rest c e = rw c (rest (suc k) (omega arith))

pub laid_behind : LaidReturnsLieBehind
laid_behind base set lines k before call after is =
    ap (λ (n : ℕ). n + 1) (ap (return_address k base) is.cut ∙ return_behind k base before call after is.calls is.number)

-- ---- cuts of places ----

-- a return point among places that begin at place p, with k calls before them
record IsPointFrom (names : Naming) (k p : ℕ) (places : List Place) (w q : ℕ) : Type 0 where
  before : List Place
  call : Place
  after : List Place
  cut : places ≡ before ++ call ∷ after
  calls : is_call call ≡ true
  word : w ≡ names.return_word (k + call_count before)
  place : q ≡ p + length before + 1

only : (x y : ℕ × ℕ) → Contains (x ∷ []) y → x ≡ y
only x y (zero, lt, e) = e
only x y (suc k, lt, e) = absurd (omega arith)

point_further : (names : Naming) (k m p w q : ℕ) (x : Place) (xs : List Place) (b : Bool) → is_call x ≡ b → m ≡ (if b then k + 1 else k) → IsPointFrom names m (p + 1) xs w q → IsPointFrom names k p (x ∷ xs) w q
point_further names k m p w q x xs b h e is = record {
  before = x ∷ is.before;
  call = is.call;
  after = is.after;
  cut = ap (λ (ys : List Place). x ∷ ys) is.cut;
  calls = is.calls;
  word = is.word ∙ ap names.return_word (count b h e);
  place = let s = is.place in omega arith;
} where
  count : (b : Bool) → is_call x ≡ b → m ≡ (if b then k + 1 else k) → m + call_count is.before ≡ k + call_count (x ∷ is.before)
  count true h e = rw h (omega arith)
  count false h e = rw h (omega arith)

point_cut : (names : Naming) (k p w q : ℕ) (xs : List Place) → Contains (returns_from names k p xs) (w, q) → IsPointFrom names k p xs w q
point_cut names k p w q [] (i, lt, e) = absurd (omega arith)
point_cut names k p w q (x ∷ xs) c = elim (cases_Bool (is_call x)) [
  | inl h ↦ elim (Contains-append_cases ((names.return_word k, p + 1) ∷ []) (returns_from names (k + 1) (p + 1) xs) (w, q) (rw h at c)) [
    | inl one ↦ here h (only (names.return_word k, p + 1) (w, q) one)
    | inr more ↦ point_further names k (k + 1) p w q x xs true h refl (point_cut names (k + 1) (p + 1) w q xs more)
  ]
  | inr h ↦ point_further names k k p w q x xs false h refl (point_cut names k (p + 1) w q xs (rw h at c))
] where
  here : is_call x ≡ true → (let y : ℕ × ℕ = (names.return_word k, p + 1) in y) ≡ (w, q) → IsPointFrom names k p (x ∷ xs) w q
  here h e = record {
    before = [];
    call = x;
    after = xs;
    cut = refl;
    calls = h;
    word = sym (ap (λ (y : ℕ × ℕ). y.0) e) ∙ ap names.return_word (let z : k ≡ k + 0 = omega arith in z);
    place = sym (ap (λ (y : ℕ × ℕ). y.1) e) ∙ (let z : p + 1 ≡ p + 0 + 1 = omega arith in z);
  }

point_there : (names : Naming) (places : List Place) (w q : ℕ) → IsReturnPoint names places w q → Contains (returns_from names 0 0 places) (w, q)
point_there names places w q is =
    let split : returns_from names 0 0 places ≡ returns_from names 0 0 is.before ++ returns_from names (call_count is.before) (length is.before) (is.call ∷ is.after) =
    ap (returns_from names 0 0) is.cut ∙ returns_append names 0 0 (call_count is.before) (length is.before) is.before (is.call ∷ is.after) (omega arith) (omega arith) in
    subst (λ (xs : List (ℕ × ℕ)). Contains xs (w, q)) (sym split)
    (Contains-append_right (returns_from names 0 0 is.before) (returns_from names (call_count is.before) (length is.before) (is.call ∷ is.after)) (w, q) here)
  where
    same : (a b c d : ℕ) → a ≡ c → b ≡ d → (let y : ℕ × ℕ = (a, b) in y) ≡ (c, d)
    same a b c d e f = cc

    here : Contains (returns_from names (call_count is.before) (length is.before) (is.call ∷ is.after)) (w, q)
    here = rw is.calls (0, omega arith, same _ _ w q (sym is.word) (sym is.place))

points : ReturnPointsStandBehind
points names places w q = (
  λ c. whole (point_cut names 0 0 w q places c),
  λ is. point_there names places w q is,
) where
  whole : IsPointFrom names 0 0 places w q → IsReturnPoint names places w q
  whole is = record {
    before = is.before;
    call = is.call;
    after = is.after;
    cut = is.cut;
    calls = is.calls;
    word = is.word ∙ ap names.return_word (let z : 0 + call_count is.before ≡ call_count is.before = omega arith in z);
    place = is.place ∙ (let z : 0 + length is.before + 1 ≡ length is.before + 1 = omega arith in z);
  }

pub returns_are_cuts : ReturnsAreCuts
returns_are_cuts = record { each = each_call; laid = laid_behind; points = points }
