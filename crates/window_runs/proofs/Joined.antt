-- The runs found in the rows of lines are the windows of these lines.
use Rattle.std.proofs.Common.{◌≡◌, ℕ, zero, suc, ◌+◌, ◌-◌, ◌<◌, ◌≤◌, ◌==◌, ◌&&◌, ◌||◌, Bool, true, false, List, [], ◌∷◌, ◌++◌, length, take, drop, map, Option, Some, None, refl, sym, ap, ◌∙◌, subst, ◌⊎◌, inl, inr, arith, length-append, append-nil, append_assoc, ne_eqb}
use Rattle.std.specs.Prelude.{slice_get, nat_eq, if◌then◌else◌}
use Rattle.std.specs.List.{list_all}
use Rattle.std.proofs.lemmas.Bool.{and_parts, and_from, cases_lt}
use Rattle.thumb_instr.specs.declared.instr.Instr.{Instr}
use Rattle.thumb_instr.specs.Window.{is_in_window}
use Rattle.thumb_model.specs.Listing.{Name, Mention, Value, Statement, Nothing, Instruction, Words, Aligns, Sets, ListingLine, Place, Op, Word, plain, Label, places_in, places_of, labels_at, labels_from}
use Rattle.thumb_model.specs.Replaced.{is_op, is_align, are_joined, are_joined_from, IsWindow}
use Rattle.window_runs.specs.declared.rows.WindowPlace.{WindowPlace}
use Rattle.window_runs.specs.Rows.{is_unlabelled, window_instr, word_row, rows_of, stays_joined, rows_from}
use Rattle.window_runs.specs.Runs.{instr_at, before, run}
use Rattle.thumb_model.proofs.Lists.{take_short as take_less, length_map as map_length}

-- the instructions stand in the rows, each joined to the one before; the first need not be, if it begins the run
abbrev pub Fits : Bool → List Instr → List WindowPlace → Type 0
Fits first [] rows = Unit {0}
Fits first (i ∷ is) [] = ⊥
Fits first (i ∷ is) (r ∷ rs) = ((first || r.is_joined) ≡ true) × (r.instr ≡ Some i) × Fits false is rs

-- ---- runs ----

-- each front of a run fits
pub run_fits : (first : Bool) (n k : ℕ) (rows : List WindowPlace) → Fits first (take k (run first n rows)) rows
run_fits first zero zero rows = tt
run_fits first zero (suc k) rows = tt
run_fits first (suc n) zero [] = tt
run_fits first (suc n) (suc k) [] = tt
run_fits first (suc n) zero (r ∷ rs) = tt
run_fits first (suc n) (suc k) (r ∷ rs) = go (run_fits false n k rs) (first || r.is_joined) refl r.instr refl
  where
    go : Fits false (take k (run false n rs)) rs → (b : Bool) → (first || r.is_joined) ≡ b → (o : Option Instr) → r.instr ≡ o → Fits first (take (suc k) (before (if b then o else None) (run false n rs))) (r ∷ rs)
    go h true e None f = tt
    go h true e (Some i) f = (e, f, h)
    go h false e o f = tt

-- what fits is a front of the run
fits_run : (first : Bool) (n : ℕ) (is : List Instr) (rows : List WindowPlace) → length is ≤ n → Fits first is rows → take (length is) (run first n rows) ≡ is
fits_run first n [] rows h f = refl
fits_run first zero (i ∷ is) rows h f = absurd (omega arith)
fits_run first (suc n) (i ∷ is) [] h f = absurd f
fits_run first (suc n) (i ∷ is) (r ∷ rs) h f =
    rw (f.0, f.1) (ap (λ (js : List Instr). i ∷ js) (fits_run false n is rs (omega arith) f.2))

-- a run ends where no instruction goes on with it
run_none : (begins : Bool) (n : ℕ) (rows : List WindowPlace) → instr_at begins rows ≡ None → run begins n rows ≡ []
run_none begins zero rows e = refl
run_none begins (suc n) [] e = refl
run_none begins (suc n) (r ∷ rs) e = ap (λ (o : Option Instr). before o (run false n rs)) e

run_some : (begins : Bool) (n at : ℕ) (rows : List WindowPlace) (i : Instr) → instr_at begins (drop at rows) ≡ Some i → run begins (suc n) (drop at rows) ≡ i ∷ run false n (drop (at + 1) rows)
run_some begins n zero [] i e = absurd (cc)
run_some begins n (suc at) [] i e = absurd (cc)
run_some begins n zero (r ∷ rs) i e = ap (λ (o : Option Instr). before o (run false n rs)) e
run_some begins n (suc at) (r ∷ rs) i e = run_some begins n at rs i e ∙ ap (λ k. i ∷ run false n (drop k (r ∷ rs))) (let f : suc (at + 1) ≡ suc at + 1 = omega arith in f)

pub run_ends : (seq : List Instr) (begins : Bool) (n : ℕ) (rows : List WindowPlace) (all : List Instr) → instr_at begins rows ≡ None → seq ++ run begins n rows ≡ all → seq ≡ all
run_ends seq begins n rows all e f = sym (append-nil seq) ∙ ap (λ is. seq ++ is) (sym (run_none begins n rows e)) ∙ f

-- one instruction more
pub run_more : (seq : List Instr) (most place : ℕ) (rows : List WindowPlace) (i : Instr) → length seq < most → instr_at (nat_eq (length seq) 0) (drop (place + length seq) rows) ≡ Some i
    → (seq ++ i ∷ []) ++ run (nat_eq (length (seq ++ i ∷ [])) 0) (most - length (seq ++ i ∷ [])) (drop (place + length (seq ++ i ∷ [])) rows)
    ≡ seq ++ run (nat_eq (length seq) 0) (most - length seq) (drop (place + length seq) rows)
run_more seq most place rows i h e =
    let len : length (seq ++ i ∷ []) ≡ length seq + 1 = omega (arith, length-append seq (i ∷ [])) in
    let left : most - length seq ≡ suc (most - (length seq + 1)) = omega arith in
    let later : nat_eq (length seq + 1) 0 ≡ false = ne_eqb (length seq + 1) 0 (λ z. omega arith) in
    let at : place + (length seq + 1) ≡ place + length seq + 1 = omega arith in
    append_assoc seq (i ∷ []) _
    ∙ ap (λ n. seq ++ i ∷ run (nat_eq n 0) (most - n) (drop (place + n) rows)) len
    ∙ ap (λ b. seq ++ i ∷ run b (most - (length seq + 1)) (drop (place + (length seq + 1)) rows)) later
    ∙ ap (λ n. seq ++ i ∷ run false (most - (length seq + 1)) (drop n rows)) at
    ∙ ap (λ is. seq ++ is) (sym (run_some (nat_eq (length seq) 0) (most - (length seq + 1)) (place + length seq) rows i e))
    ∙ ap (λ n. seq ++ run (nat_eq (length seq) 0) n (drop (place + length seq) rows)) (sym left)

-- ---- behind an instruction ----

-- each label stands from a place on
abbrev pub AreFrom : ℕ → List Label → Type 0
AreFrom m [] = Unit {0}
AreFrom m (l ∷ ls) = (m ≤ l.place) × AreFrom m ls

from_append : (m : ℕ) (xs ys : List Label) → AreFrom m xs → AreFrom m ys → AreFrom m (xs ++ ys)
from_append m [] ys a b = b
from_append m (x ∷ xs) ys a b = (a.0, from_append m xs ys a.1 b)

at_from : (c m : ℕ) (names : List Name) → m ≤ c → AreFrom m (labels_at c names)
at_from c m [] h = tt
at_from c m (n ∷ ns) h = (h, at_from c m ns h)

all_from : (c m : ℕ) (lines : List ListingLine) → m ≤ c → AreFrom m (labels_from c lines)
all_from c m [] h = tt
all_from c m (l ∷ ls) h = from_append m (labels_at c l.names) _ (at_from c m l.names h) (all_from (c + length (places_in l.statement)) m ls (omega arith))

-- the instructions stand at the head of the lines, joined to what stands before them
record Tail (c high : ℕ) (lines : List ListingLine) (is : List Instr) : Type 0 where
  stands : take (length is) (places_of lines) ≡ map plain is
  in_window : list_all is_in_window is ≡ true
  free : AreFrom high (labels_from c lines)
  joined : are_joined (length is) lines ≡ true

-- what isn't joined to what stands before doesn't fit behind it
broken : (lines : List ListingLine) (i : Instr) (is : List Instr) → Fits false (i ∷ is) (rows_from false lines) → ⊥
broken [] i is f = f
broken (l ∷ ls) i is f = by (broken ls i is) l.statement f
  where
    by : (Fits false (i ∷ is) (rows_from false ls) → ⊥) → (s : Statement) → Fits false (i ∷ is) (rows_of (false && is_unlabelled l.names) s ++ rows_from (stays_joined (false && is_unlabelled l.names) s) ls) → ⊥
    by on Nothing f = on f
    by on (Instruction j m) f = let e = f.0 in absurd (cc)
    by on (Words []) f = on f
    by on (Words (v ∷ vs)) f = let e = f.0 in absurd (cc)
    by on (Aligns size most) f = on f
    by on (Sets name address) f = on f

-- an instruction that may stand in a window
window_instr_is : (i j : Instr) (m : Option Mention) → window_instr j m ≡ Some i → (let p : Place = Op j m in p ≡ plain i) × (is_in_window i ≡ true)
window_instr_is i j (Some m) e = absurd (cc)
window_instr_is i j None e = go (is_in_window j) refl e
  where
    go : (b : Bool) → is_in_window j ≡ b → (if b then Some j else None) ≡ Some i → (let p : Place = Op j None in p ≡ plain i) × (is_in_window i ≡ true)
    go true w e = let s : j ≡ i = cc in (ap plain s, ap is_in_window (sym s) ∙ w)
    go false w e = absurd (cc)

is_window_instr : (i j : Instr) (m : Option Mention) → (let p : Place = Op j m in p) ≡ plain i → is_in_window i ≡ true → window_instr j m ≡ Some i
is_window_instr i j None e w = let s : j ≡ i = cc in ap (λ (k : Instr). window_instr k None) s ∙ rw w refl
is_window_instr i j (Some m) e w = absurd (cc)

-- the same of a line with these names and this statement, and the lines behind it
record TailAt (c high : ℕ) (names : List Name) (s : Statement) (ls : List ListingLine) (i : Instr) (is : List Instr) : Type 0 where
  stands : take (suc (length is)) (places_in s ++ places_of ls) ≡ plain i ∷ map plain is
  in_window : (is_in_window i && list_all is_in_window is) ≡ true
  free : AreFrom high (labels_at c names ++ labels_from (c + length (places_in s)) ls)
  joined : (if is_op s then are_joined (length is) ls else (if is_align s then false else are_joined (suc (length is)) ls)) ≡ true

two_heads : (p q : Place) (ps qs : List Place) → p ≡ q → ps ≡ qs → (let xs : List Place = p ∷ ps in xs) ≡ q ∷ qs
two_heads p q ps qs e f = cc

fits_tail : (lines : List ListingLine) (c high : ℕ) (is : List Instr) → high ≡ c + length is → Fits false is (rows_from true lines) → Tail c high lines is
fits_tail lines c high [] e f = record { stands = refl; in_window = refl; free = all_from c high lines (omega arith); joined = refl }
fits_tail [] c high (i ∷ is) e f = absurd f
fits_tail (l ∷ ls) c high (i ∷ is) e f =
    let t = by (λ g. fits_tail ls (c + 0) high (i ∷ is) (omega arith) g) (λ g. fits_tail ls (c + 1) high is (omega arith) g) l.names l.statement f in
    record { stands = t.stands; in_window = t.in_window; free = t.free; joined = t.joined }
  where
    -- a row: what the line says
    by : (Fits false (i ∷ is) (rows_from true ls) → Tail (c + 0) high ls (i ∷ is)) → (Fits false is (rows_from true ls) → Tail (c + 1) high ls is)
        → (names : List Name) (s : Statement) → Fits false (i ∷ is) (rows_of (true && is_unlabelled names) s ++ rows_from (stays_joined (true && is_unlabelled names) s) ls) → TailAt c high names s ls i is
    by same next (n ∷ ns) Nothing f = absurd (broken ls i is f)
    by same next (n ∷ ns) (Instruction j m) f = let g = f.0 in absurd (cc)
    by same next (n ∷ ns) (Words []) f = absurd (broken ls i is f)
    by same next (n ∷ ns) (Words (v ∷ vs)) f = let g = f.0 in absurd (cc)
    by same next (n ∷ ns) (Aligns size most) f = absurd (broken ls i is f)
    by same next (n ∷ ns) (Sets name address) f = absurd (broken ls i is f)
    by same next [] Nothing f = let t = same f in record { stands = t.stands; in_window = t.in_window; free = t.free; joined = t.joined }
    by same next [] (Words []) f = let t = same f in record { stands = t.stands; in_window = t.in_window; free = t.free; joined = t.joined }
    by same next [] (Sets name address) f = let t = same f in record { stands = t.stands; in_window = t.in_window; free = t.free; joined = t.joined }
    by same next [] (Words (v ∷ vs)) f = let g = f.0 in absurd (cc)
    by same next [] (Aligns size most) f = absurd (broken ls i is f)
    by same next [] (Instruction j m) f =
        let t = next f.2 in
        let w = window_instr_is i j m f.1 in
        record { stands = two_heads (Op j m) (plain i) (take (length is) (places_of ls)) (map plain is) w.0 t.stands; in_window = and_from (is_in_window i) (list_all is_in_window is) w.1 t.in_window; free = t.free; joined = t.joined }

head_of : (p q : Place) (ps qs : List Place) → (let xs : List Place = p ∷ ps in xs) ≡ q ∷ qs → (p ≡ q) × (ps ≡ qs)
head_of p q ps qs e = (cc, cc)

tail_fits : (lines : List ListingLine) (c high : ℕ) (is : List Instr) → high ≡ c + length is → Tail c high lines is → Fits false is (rows_from true lines)
tail_fits lines c high [] e t = tt
tail_fits [] c high (i ∷ is) e t = let s = t.stands in absurd (cc)
tail_fits (l ∷ ls) c high (i ∷ is) e t =
    by (λ u. tail_fits ls (c + 0) high (i ∷ is) (omega arith) u) (λ u. tail_fits ls (c + 1) high is (omega arith) u) l.names l.statement (record { stands = t.stands; in_window = t.in_window; free = t.free; joined = t.joined })
  where
    -- a row: what the line says
    by : (Tail (c + 0) high ls (i ∷ is) → Fits false (i ∷ is) (rows_from true ls)) → (Tail (c + 1) high ls is → Fits false is (rows_from true ls))
        → (names : List Name) (s : Statement) → TailAt c high names s ls i is → Fits false (i ∷ is) (rows_of (true && is_unlabelled names) s ++ rows_from (stays_joined (true && is_unlabelled names) s) ls)
    by same next (n ∷ ns) s t = absurd (let h = t.free.0 in omega arith)
    by same next [] Nothing t = same (record { stands = t.stands; in_window = t.in_window; free = t.free; joined = t.joined })
    by same next [] (Words []) t = same (record { stands = t.stands; in_window = t.in_window; free = t.free; joined = t.joined })
    by same next [] (Sets name address) t = same (record { stands = t.stands; in_window = t.in_window; free = t.free; joined = t.joined })
    by same next [] (Words (v ∷ vs)) t = let h = head_of (Word v) (plain i) _ _ t.stands in let g = h.0 in absurd (cc)
    by same next [] (Aligns size most) t = let j = t.joined in absurd (cc)
    by same next [] (Instruction j m) t =
        let h = head_of (Op j m) (plain i) (take (length is) (places_of ls)) (map plain is) t.stands in
        let w = and_parts (is_in_window i) (list_all is_in_window is) t.in_window in
        (refl, is_window_instr i j m h.0 w.0, next (record { stands = h.1; in_window = w.1; free = t.free; joined = t.joined }))

-- ---- from a place on ----

-- no label stands between two places
abbrev pub AreClear : ℕ → ℕ → List Label → Type 0
AreClear low high [] = Unit {0}
AreClear low high (l ∷ ls) = ((l.place ≤ low) ⊎ (high ≤ l.place)) × AreClear low high ls

clear_append : (low high : ℕ) (xs ys : List Label) → AreClear low high xs → AreClear low high ys → AreClear low high (xs ++ ys)
clear_append low high [] ys a b = b
clear_append low high (x ∷ xs) ys a b = (a.0, clear_append low high xs ys a.1 b)

clear_parts : (low high : ℕ) (xs ys : List Label) → AreClear low high (xs ++ ys) → AreClear low high xs × AreClear low high ys
clear_parts low high [] ys a = (tt, a)
clear_parts low high (x ∷ xs) ys a = let r = clear_parts low high xs ys a.1 in ((a.0, r.0), r.1)

clear_at : (c low high : ℕ) (names : List Name) → c ≤ low → AreClear low high (labels_at c names)
clear_at c low high [] h = tt
clear_at c low high (n ∷ ns) h = (inl h, clear_at c low high ns h)

clear_from : (low high : ℕ) (ls : List Label) → AreFrom high ls → AreClear low high ls
clear_from low high [] a = tt
clear_from low high (l ∷ ls) a = (inr a.0, clear_from low high ls a.1)

from_clear : (low high : ℕ) (ls : List Label) → AreFrom (low + 1) ls → AreClear low high ls → AreFrom high ls
from_clear low high [] a b = tt
from_clear low high (l ∷ ls) a b = (elim b.0 [ inl h ↦ absurd (let g = a.0 in omega arith) | inr h ↦ h ], from_clear low high ls a.1 b.1)

pub clear_all : (low high : ℕ) (ls : List Label) → AreClear low high ls → (k : ℕ) (l : Label) → slice_get ls k ≡ Some l → (l.place ≤ low) ⊎ (high ≤ l.place)
clear_all low high [] a k l e = absurd (cc)
clear_all low high (m ∷ ls) a zero l e = let s : m ≡ l = cc in subst (λ (n : Label). (n.place ≤ low) ⊎ (high ≤ n.place)) s a.0
clear_all low high (m ∷ ls) a (suc k) l e = clear_all low high ls a.1 k l e

pub all_clear : (low high : ℕ) (ls : List Label) → ((k : ℕ) (l : Label) → slice_get ls k ≡ Some l → (l.place ≤ low) ⊎ (high ≤ l.place)) → AreClear low high ls
all_clear low high [] h = tt
all_clear low high (l ∷ ls) h = (h 0 l refl, all_clear low high ls (λ k. h (suc k)))

-- the instructions stand in the lines from place p on, of which the first has the number c
record Span (c p low high : ℕ) (lines : List ListingLine) (is : List Instr) : Type 0 where
  stands : take (length is) (drop p (places_of lines)) ≡ map plain is
  in_window : list_all is_in_window is ≡ true
  free : AreClear low high (labels_from c lines)
  joined : are_joined_from p (length is) lines ≡ true

record SpanAt (c p low high : ℕ) (names : List Name) (s : Statement) (ls : List ListingLine) (i : Instr) (is : List Instr) : Type 0 where
  stands : take (suc (length is)) (drop p (places_in s ++ places_of ls)) ≡ plain i ∷ map plain is
  in_window : (is_in_window i && list_all is_in_window is) ≡ true
  free : AreClear low high (labels_at c names ++ labels_from (c + length (places_in s)) ls)
  joined : (if is_op s && (p == 0) then are_joined (suc (length is) - 1) ls else are_joined_from (p - length (places_in s)) (suc (length is)) ls) ≡ true

drop_none : {A : Type 0} (p : ℕ) → drop p (let xs : List A = [] in xs) ≡ []
drop_none zero = refl
drop_none (suc p) = refl

pub drop_past : {A : Type 0} (xs ys : List A) (p : ℕ) → length xs ≤ p → drop p (xs ++ ys) ≡ drop (p - length xs) ys
drop_past [] ys p h = ap (λ n. drop n ys) (let e : p ≡ p - 0 = omega arith in e)
drop_past (x ∷ xs) ys zero h = absurd (omega arith)
drop_past (x ∷ xs) ys (suc p) h = drop_past xs ys p (omega arith) ∙ ap (λ n. drop n ys) (let e : p - length xs ≡ suc p - suc (length xs) = omega arith in e)

word_fits_not : (vs : List Value) (p : ℕ) (rows : List WindowPlace) (i : Instr) (is : List Instr) → p < length vs → Fits true (i ∷ is) (drop p (map word_row vs ++ rows)) → ⊥
word_fits_not [] p rows i is h f = omega arith
word_fits_not (v ∷ vs) zero rows i is h f = let e = f.1 in absurd (cc)
word_fits_not (v ∷ vs) (suc p) rows i is h f = word_fits_not vs p rows i is (omega arith) f

word_stands_not : (vs : List Value) (p : ℕ) (places rest : List Place) (n : ℕ) (i : Instr) → p < length vs → take (suc n) (drop p (map Word vs ++ places)) ≡ plain i ∷ rest → ⊥
word_stands_not [] p places rest n i h e = omega arith
word_stands_not (v ∷ vs) zero places rest n i h e = let g = (head_of (Word v) (plain i) _ rest e).0 in absurd (cc)
word_stands_not (v ∷ vs) (suc p) places rest n i h e = word_stands_not vs p places rest n i (omega arith) e

pub no_place : (q : ℕ) → (suc q == 0) ≡ false
no_place q = ne_eqb (suc q) 0 (λ e. omega arith)

fits_span : (lines : List ListingLine) (b : Bool) (c p low high : ℕ) (i : Instr) (is : List Instr) → low ≡ c + p → high ≡ low + suc (length is) → Fits true (i ∷ is) (drop p (rows_from b lines)) → Span c p low high lines (i ∷ is)
fits_span [] b c p low high i is e g f = absurd (subst (λ (rs : List WindowPlace). Fits true (i ∷ is) rs) (drop_none p) f)
fits_span (l ∷ ls) b c p low high i is e g f =
    let t = by (λ a k q h. fits_span ls a (c + k) q low high i is h g) l.names l.statement p e f in
    record { stands = t.stands; in_window = t.in_window; free = t.free; joined = t.joined }
  where
    below : (names : List Name) (q : ℕ) → low ≡ c + q → AreClear low high (labels_at c names)
    below names q h = clear_at c low high names (omega arith)

    -- what says nothing of places
    on : (names : List Name) (q : ℕ) → low ≡ c + q → Span (c + 0) q low high ls (i ∷ is) → SpanAt c q low high names Nothing ls i is
    on names q h t = record {
      stands = t.stands;
      in_window = t.in_window;
      free = clear_append low high (labels_at c names) (labels_from (c + 0) ls) (below names q h) t.free;
      joined = ap (λ n. are_joined_from n (suc (length is)) ls) (let z : q - 0 ≡ q = omega arith in z) ∙ t.joined;
    }

    -- a row: what the line says
    by : ((a : Bool) (k q : ℕ) → low ≡ c + k + q → Fits true (i ∷ is) (drop q (rows_from a ls)) → Span (c + k) q low high ls (i ∷ is))
        → (names : List Name) (s : Statement) (q : ℕ) → low ≡ c + q → Fits true (i ∷ is) (drop q (rows_of (b && is_unlabelled names) s ++ rows_from (stays_joined (b && is_unlabelled names) s) ls)) → SpanAt c q low high names s ls i is
    by rec names Nothing q h f = on names q h (rec _ 0 q (omega arith) f)
    by rec names (Sets name address) q h f = let t = on names q h (rec _ 0 q (omega arith) f) in record { stands = t.stands; in_window = t.in_window; free = t.free; joined = t.joined }
    by rec names (Aligns size most) q h f = let t = on names q h (rec _ 0 q (omega arith) f) in record { stands = t.stands; in_window = t.in_window; free = t.free; joined = t.joined }
    by rec names (Words vs) q h f =
        elim (cases_lt q (length vs)) [
          | inl lt ↦ absurd (word_fits_not vs q _ i is lt f)
          | inr ge ↦
              let rows = rows_from (b && is_unlabelled names) ls in
              let past : drop q (map word_row vs ++ rows) ≡ drop (q - length vs) rows = drop_past (map word_row vs) rows q (omega (arith, map_length word_row vs)) ∙ ap (λ n. drop (q - n) rows) (map_length word_row vs) in
              let t = rec (b && is_unlabelled names) (length vs) (q - length vs) (omega arith) (subst (λ (rs : List WindowPlace). Fits true (i ∷ is) rs) past f) in
              let places : drop q (map Word vs ++ places_of ls) ≡ drop (q - length vs) (places_of ls) = drop_past (map Word vs) (places_of ls) q (omega (arith, map_length Word vs)) ∙ ap (λ n. drop (q - n) (places_of ls)) (map_length Word vs) in
              record {
                stands = ap (take (suc (length is))) places ∙ t.stands;
                in_window = t.in_window;
                free = clear_append low high (labels_at c names) (labels_from (c + length (map Word vs)) ls) (below names q h) (subst (λ n. AreClear low high (labels_from (c + n) ls)) (sym (map_length Word vs)) t.free);
                joined = ap (λ n. are_joined_from (q - n) (suc (length is)) ls) (map_length Word vs) ∙ t.joined;
              }
        ]
    by rec names (Instruction j m) zero h f =
        let t = fits_tail ls (c + 1) high is (omega arith) f.2 in
        let w = window_instr_is i j m f.1 in
        record {
          stands = two_heads (Op j m) (plain i) (take (length is) (places_of ls)) (map plain is) w.0 t.stands;
          in_window = and_from (is_in_window i) (list_all is_in_window is) w.1 t.in_window;
          free = clear_append low high (labels_at c names) (labels_from (c + 1) ls) (below names 0 h) (clear_from low high (labels_from (c + 1) ls) t.free);
          joined = ap (λ n. are_joined n ls) (let z : suc (length is) - 1 ≡ length is = omega arith in z) ∙ t.joined;
        }
    by rec names (Instruction j m) (suc q) h f =
        let t = rec true 1 q (omega arith) f in
        record {
          stands = t.stands;
          in_window = t.in_window;
          free = clear_append low high (labels_at c names) (labels_from (c + 1) ls) (below names (suc q) h) t.free;
          joined = rw (no_place q) (ap (λ n. are_joined_from n (suc (length is)) ls) (let z : suc q - 1 ≡ q = omega arith in z) ∙ t.joined);
        }

span_fits : (lines : List ListingLine) (b : Bool) (c p low high : ℕ) (i : Instr) (is : List Instr) → low ≡ c + p → high ≡ low + suc (length is) → Span c p low high lines (i ∷ is) → Fits true (i ∷ is) (drop p (rows_from b lines))
span_fits [] b c p low high i is e g t = absurd (let s : take (suc (length is)) [] ≡ plain i ∷ map plain is = ap (take (suc (length is))) (sym (drop_none p)) ∙ t.stands in cc)
span_fits (l ∷ ls) b c p low high i is e g t =
    by (λ a k q h. span_fits ls a (c + k) q low high i is h g) l.names l.statement p e (record { stands = t.stands; in_window = t.in_window; free = t.free; joined = t.joined })
  where
    -- what says nothing of places
    on : (names : List Name) (q : ℕ) → SpanAt c q low high names Nothing ls i is → Span (c + 0) q low high ls (i ∷ is)
    on names q t = record {
      stands = t.stands;
      in_window = t.in_window;
      free = (clear_parts low high (labels_at c names) (labels_from (c + 0) ls) t.free).1;
      joined = ap (λ n. are_joined_from n (suc (length is)) ls) (let z : q ≡ q - 0 = omega arith in z) ∙ t.joined;
    }

    -- a row: what the line says
    by : ((a : Bool) (k q : ℕ) → low ≡ c + k + q → Span (c + k) q low high ls (i ∷ is) → Fits true (i ∷ is) (drop q (rows_from a ls)))
        → (names : List Name) (s : Statement) (q : ℕ) → low ≡ c + q → SpanAt c q low high names s ls i is → Fits true (i ∷ is) (drop q (rows_of (b && is_unlabelled names) s ++ rows_from (stays_joined (b && is_unlabelled names) s) ls))
    by rec names Nothing q h t = rec _ 0 q (omega arith) (on names q t)
    by rec names (Sets name address) q h t = rec _ 0 q (omega arith) (on names q (record { stands = t.stands; in_window = t.in_window; free = t.free; joined = t.joined }))
    by rec names (Aligns size most) q h t = rec _ 0 q (omega arith) (on names q (record { stands = t.stands; in_window = t.in_window; free = t.free; joined = t.joined }))
    by rec names (Words vs) q h t =
        elim (cases_lt q (length vs)) [
          | inl lt ↦ absurd (word_stands_not vs q (places_of ls) (map plain is) (length is) i lt t.stands)
          | inr ge ↦
              let rows = rows_from (b && is_unlabelled names) ls in
              let past : drop q (map word_row vs ++ rows) ≡ drop (q - length vs) rows = drop_past (map word_row vs) rows q (omega (arith, map_length word_row vs)) ∙ ap (λ n. drop (q - n) rows) (map_length word_row vs) in
              let places : drop q (map Word vs ++ places_of ls) ≡ drop (q - length vs) (places_of ls) = drop_past (map Word vs) (places_of ls) q (omega (arith, map_length Word vs)) ∙ ap (λ n. drop (q - n) (places_of ls)) (map_length Word vs) in
              subst (λ (rs : List WindowPlace). Fits true (i ∷ is) rs) (sym past) (rec (b && is_unlabelled names) (length vs) (q - length vs) (omega arith) (record {
                stands = ap (take (suc (length is))) (sym places) ∙ t.stands;
                in_window = t.in_window;
                free = subst (λ n. AreClear low high (labels_from (c + n) ls)) (map_length Word vs) (clear_parts low high (labels_at c names) (labels_from (c + length (map Word vs)) ls) t.free).1;
                joined = ap (λ n. are_joined_from (q - n) (suc (length is)) ls) (sym (map_length Word vs)) ∙ t.joined;
              }))
        ]
    by rec names (Instruction j m) zero h t =
        let s = head_of (Op j m) (plain i) (take (length is) (places_of ls)) (map plain is) t.stands in
        let w = and_parts (is_in_window i) (list_all is_in_window is) t.in_window in
        let clear = (clear_parts low high (labels_at c names) (labels_from (c + 1) ls) t.free).1 in (
          refl,
          is_window_instr i j m s.0 w.0,
          tail_fits ls (c + 1) high is (omega arith) (record {
            stands = s.1;
            in_window = w.1;
            free = from_clear low high (labels_from (c + 1) ls) (all_from (c + 1) (low + 1) ls (omega arith)) clear;
            joined = ap (λ n. are_joined n ls) (let z : length is ≡ suc (length is) - 1 = omega arith in z) ∙ t.joined;
          }),
        )
    by rec names (Instruction j m) (suc q) h t =
        let joined : are_joined_from (suc q - 1) (suc (length is)) ls ≡ true = rw (no_place q) at t.joined in
        rec true 1 q (omega arith) (record {
          stands = t.stands;
          in_window = t.in_window;
          free = (clear_parts low high (labels_at c names) (labels_from (c + 1) ls) t.free).1;
          joined = ap (λ n. are_joined_from n (suc (length is)) ls) (let z : q ≡ suc q - 1 = omega arith in z) ∙ joined;
        })

-- ---- windows ----

pub fits_window : (lines : List ListingLine) (p : ℕ) (w : List Instr) → 1 ≤ length w → Fits true w (drop p (rows_from false lines)) → IsWindow lines p w
fits_window lines p [] h f = absurd (omega arith)
fits_window lines p (i ∷ is) h f =
    let t = fits_span lines false 0 p p (p + suc (length is)) i is (omega arith) refl f in
    record { stands = t.stands; in_window = t.in_window; unlabelled = clear_all p (p + suc (length is)) (labels_from 0 lines) t.free; joined = t.joined }

pub window_fits : (lines : List ListingLine) (p : ℕ) (w : List Instr) → 1 ≤ length w → IsWindow lines p w → Fits true w (drop p (rows_from false lines))
window_fits lines p [] h f = absurd (omega arith)
window_fits lines p (i ∷ is) h f =
    span_fits lines false 0 p p (p + suc (length is)) i is (omega arith) refl (record {
      stands = f.stands;
      in_window = f.in_window;
      free = all_clear p (p + suc (length is)) (labels_from 0 lines) f.unlabelled;
      joined = f.joined;
    })

-- each front of the run from a place is a window, and each window of at most so many instructions is a front of it
pub run_window : (lines : List ListingLine) (p most n : ℕ) → 1 ≤ length (take n (run true most (drop p (rows_from false lines)))) → IsWindow lines p (take n (run true most (drop p (rows_from false lines))))
run_window lines p most n h = fits_window lines p (take n (run true most (drop p (rows_from false lines)))) h (run_fits true most n (drop p (rows_from false lines)))

pub window_in_run : (lines : List ListingLine) (p most : ℕ) (w : List Instr) → 1 ≤ length w → length w ≤ most → IsWindow lines p w → length w ≤ length (run true most (drop p (rows_from false lines)))
window_in_run lines p most w h k f =
    let rows = drop p (rows_from false lines) in
    let same : take (length w) (run true most rows) ≡ w = fits_run true most w rows k (window_fits lines p w h f) in
    omega (arith, ap length same, take_less (length w) (run true most rows))
