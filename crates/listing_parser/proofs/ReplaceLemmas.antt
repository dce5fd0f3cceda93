-- Replacing lines defines no name twice, and doesn't add to the places.
use Rattle.std.proofs.Common.{◌≡◌, ◌∙◌, inl, inr, ℕ, zero, suc, ◌+◌, ◌-◌, ◌<◌, ◌≤◌, ◌^◌, ◌==◌, ◌&&◌, ◌||◌, Bool, true, false, List, [], ◌∷◌, ◌++◌, length, map, take, drop, refl, sym, ap, arith, true≢false, append-nil, append_assoc, get_or, lt-ltb, Option, Some, None}
use Rattle.std.specs.Prelude.{nat_lt, slice_get}
use Rattle.std.proofs.lemmas.Bool.{cases_Bool, false_from_ne_true, or_parts, or_cases}
use Rattle.std.proofs.lemmas.List.{length-append}
use Rattle.std.proofs.Math.Seq.{drop-cons}
use Rattle.thumb_instr.specs.declared.instr.Instr.{Instr}
use Rattle.thumb_model.specs.Listing.{Name, Statement, Nothing, Instruction, Words, Aligns, Sets, ListingLine, Mention, Place, Op, Word, plain, places_in, places_of, is_op_place}
use Rattle.thumb_model.specs.Layout.{is_among}
use Rattle.thumb_model.specs.Replaced.{is_op, without, labels_kept, new_line, replaced_lines}
use Rattle.thumb_model.specs.Cuts.{AreOps}
use Rattle.thumb_model.proofs.Lists.{get_drop, length_map, length_drop}
use Rattle.thumb_model.proofs.Cuts.{without_none}
use Rattle.thumb_model.proofs.LinesReplaced.{places_replaced, kept_places}
use Rattle.listing_parser.specs.Targets.{set_names, defined_in, DefineOnce, aimed, aimed_line, aimed_lines}
use Rattle.listing_parser.proofs.FirstTwice.{first_twice, is_again}
use Rattle.listing_parser.proofs.LabelLemmas.{among_append}
use Rattle.listing_parser.proofs.TwiceLemmas.{once_none, none_once}

-- ---- no name is defined again ----

-- each name of the one list is in the other
Within : List Name → List Name → Type 0
Within other known = (q : Name) → is_among q other ≡ true → is_among q known ≡ true

within_self : (known : List Name) → Within known known
unfolding Within
within_self known q h = h

within_same : (other known more : List Name) → Within other known → Within (other ++ more) (known ++ more)
unfolding Within
within_same other known more w q h =
    among_append q known more
    ∙ elim (or_cases (is_among q other) (is_among q more) (sym (among_append q other more) ∙ h)) [
      | inl a ↦ ap (λ (b : Bool). b || is_among q more) (w q a)
      | inr a ↦ by (is_among q known) a
    ] where
      by : (b : Bool) → is_among q more ≡ true → (b || is_among q more) ≡ true
      by true e = refl
      by false e = e

within_more : (other known more : List Name) → Within other known → Within other (known ++ more)
unfolding Within
within_more other known more w q h = among_append q known more ∙ ap (λ (b : Bool). b || is_among q more) (w q h)

within_none : (other known : List Name) → Within other known → Within (other ++ []) known
unfolding Within
within_none other known w q h = w q (ap (is_among q) (sym (append-nil other)) ∙ h)

not_again_within : (other known ns : List Name) → Within other known → is_again known ns ≡ false → is_again other ns ≡ false
unfolding Within
not_again_within other known [] w e = refl
not_again_within other known (n ∷ ns) w e =
    let parts = or_parts (is_among n known) _ e in
    let new : is_among n other ≡ false = false_from_ne_true (is_among n other) (λ h. true≢false (sym (w n h) ∙ parts.0)) in
    rw new (not_again_within (other ++ n ∷ []) (known ++ n ∷ []) ns (within_same other known (n ∷ []) w) parts.1)

-- the first line and the others
pub once_parts : (n : ℕ) (known : List Name) (l : ListingLine) (ls : List ListingLine) → first_twice n known (l ∷ ls) ≡ None → (is_again known (defined_in l) ≡ false) × (first_twice (n + 1) (known ++ defined_in l) ls ≡ None)
once_parts n known l ls e = elim (cases_Bool (is_again known (defined_in l))) [
  | inl h ↦ absurd (let bad : Some n ≡ None = rw h at e in cc)
  | inr h ↦ (h, rw h at e)
]

once_from : (n : ℕ) (known : List Name) (l : ListingLine) (ls : List ListingLine) → is_again known (defined_in l) ≡ false → first_twice (n + 1) (known ++ defined_in l) ls ≡ None → first_twice n known (l ∷ ls) ≡ None
once_from n known l ls h e = rw h e

once_within : (k j : ℕ) (known other : List Name) (ls : List ListingLine) → Within other known → first_twice k known ls ≡ None → first_twice j other ls ≡ None
once_within k j known other [] w e = refl
once_within k j known other (l ∷ ls) w e =
    let parts = once_parts k known l ls e in
    once_from j other l ls (not_again_within other known (defined_in l) w parts.0)
    (once_within (k + 1) (j + 1) (known ++ defined_in l) (other ++ defined_in l) ls (within_same other known (defined_in l) w) parts.1)

once_without : (n k j : ℕ) (known other : List Name) (ls : List ListingLine) → Within other known → first_twice k known ls ≡ None → first_twice j other (without n ls) ≡ None
once_without n k j known other [] w e = refl
once_without zero k j known other (l ∷ ls) w e = once_within k j known other (l ∷ ls) w e
once_without (suc n) k j known other (l ∷ ls) w e =
    let parts = once_parts k known l ls e in
    elim (cases_Bool (is_op l.statement)) [
      | inl h ↦ rw h (once_without n (k + 1) j (known ++ defined_in l) other ls (within_more other known (defined_in l) w) parts.1)
      | inr h ↦ rw h (once_from j other l (without (suc n) ls) (not_again_within other known (defined_in l) w parts.0)
          (once_without (suc n) (k + 1) (j + 1) (known ++ defined_in l) (other ++ defined_in l) ls (within_same other known (defined_in l) w) parts.1))
    ]

-- lines that are defined nowhere twice, whatever of the known names is known before them
Once : List Name → List ListingLine → Type 0
Once known ls = (j : ℕ) (other : List Name) → Within other known → first_twice j other ls ≡ None

once_new : (write : Instr → List ℕ) (known : List Name) (is : List Instr) (ls : List ListingLine) → Once known ls → Once known (map (new_line write) is ++ ls)
unfolding Once
once_new write known [] ls f j other w = f j other w
once_new write known (i ∷ is) ls f j other w = once_new write known is ls f (j + 1) (other ++ []) (within_none other known w)

op_sets : (s : Statement) → is_op s ≡ true → set_names s ≡ []
op_sets Nothing e = refl
op_sets (Instruction i m) e = refl
op_sets (Words vs) e = refl
op_sets (Aligns size most) e = refl
op_sets (Sets name address) e = absurd (true≢false (sym e))

once_kept : (k : ℕ) (known : List Name) (l : ListingLine) (names : List Name) (ls : List ListingLine) → is_again known (names ++ []) ≡ false → Once (known ++ (names ++ [])) ls → Once known (labels_kept l names ++ ls)
unfolding Once
once_kept k known l [] ls h f j other w = f j other (within_more other known ([] ++ []) w)
once_kept k known l (n ∷ ns) ls h f j other w =
    once_from j other (record { names = n ∷ ns; statement = Nothing; text = l.front; front = l.front }) ls
    (not_again_within other known (n ∷ ns ++ []) w h)
    (f (j + 1) (other ++ (n ∷ ns ++ [])) (within_same other known (n ∷ ns ++ []) w))

pub and_first : (a b : Bool) → (a && b) ≡ true → a ≡ true
and_first true b e = refl
and_first false b e = absurd (true≢false (sym e))

once_replaced : (write : Instr → List ℕ) (p count : ℕ) (is : List Instr) (k j : ℕ) (known other : List Name) (ls : List ListingLine) → Within other known → first_twice k known ls ≡ None
    → first_twice j other (replaced_lines write p count is ls) ≡ None
unfolding Once
once_replaced write p count is k j known other [] w e = refl
once_replaced write p count is k j known other (l ∷ ls) w e =
    let parts = once_parts k known l ls e in
    elim (cases_Bool (is_op l.statement && (p == 0))) [
      | inl h ↦
          let sets = op_sets l.statement (and_first (is_op l.statement) (p == 0) h) in
          let defined : defined_in l ≡ l.names ++ [] = ap (λ (ns : List Name). l.names ++ ns) sets in
          let here : is_again known (l.names ++ []) ≡ false = ap (is_again known) (sym defined) ∙ parts.0 in
          let rest : first_twice (k + 1) (known ++ (l.names ++ [])) ls ≡ None = ap (λ (ns : List Name). first_twice (k + 1) (known ++ ns) ls) (sym defined) ∙ parts.1 in
          rw h (once_kept k known l l.names (map (new_line write) is ++ without (count - 1) ls) here
          (once_new write (known ++ (l.names ++ [])) is (without (count - 1) ls)
          (λ i some v. once_without (count - 1) (k + 1) i (known ++ (l.names ++ [])) some ls v rest))
          j other w)
      | inr h ↦ rw h (once_from j other l (replaced_lines write (p - length (places_in l.statement)) count is ls) (not_again_within other known (defined_in l) w parts.0)
          (once_replaced write (p - length (places_in l.statement)) count is (k + 1) (j + 1) (known ++ defined_in l) (other ++ defined_in l) ls (within_same other known (defined_in l) w) parts.1))
    ]

pub still_once : (write : Instr → List ℕ) (p count : ℕ) (is : List Instr) (ls : List ListingLine) → DefineOnce ls → DefineOnce (replaced_lines write p count is ls)
still_once write p count is ls once = none_once (replaced_lines write p count is ls) (once_replaced write p count is 1 1 [] [] ls (within_self []) (once_none ls once))

-- ---- no more places ----

pub are_ops : (n : ℕ) (ps : List Place) → ((k : ℕ) → k < n → is_op_place (slice_get ps k) ≡ true) → AreOps n ps
are_ops zero ps h = tt
are_ops (suc n) [] h = absurd (true≢false (sym (h 0 (omega arith))))
are_ops (suc n) (Op i m ∷ ps) h = are_ops n ps (λ k l. h (suc k) (omega arith))
are_ops (suc n) (Word w ∷ ps) h = absurd (true≢false (sym (h 0 (omega arith))))

many_ops : (n : ℕ) (ps : List Place) → AreOps n ps → n ≤ length ps
many_ops zero ps h = omega arith
many_ops (suc n) [] h = absurd h
many_ops (suc n) (Op i m ∷ ps) h = let more = many_ops n ps h in omega arith
many_ops (suc n) (Word w ∷ ps) h = absurd h

take_most : (n : ℕ) (ps : List Place) → length (take n ps) ≤ n
take_most zero ps = omega arith
take_most (suc n) [] = omega arith
take_most (suc n) (p ∷ ps) = let more = take_most n ps in omega arith

pub still_few : (write : Instr → List ℕ) (p count : ℕ) (is : List Instr) (ls : List ListingLine) → 1 ≤ count → length is ≤ count
    → ((k : ℕ) → k < count → is_op_place (slice_get (places_of ls) (p + k)) ≡ true) → length (places_of ls) < 2 ^ 32 → length (places_of (replaced_lines write p count is ls)) < 2 ^ 32
still_few write p zero is ls one few ops limit = absurd (omega arith)
still_few write p (suc n) is ls one few ops limit =
    let window = are_ops (suc n) (drop p (places_of ls)) (λ k h. ap is_op_place (get_drop p (places_of ls) k (p + k) refl) ∙ ops k h) in
    let many = many_ops (suc n) (drop p (places_of ls)) window in
    let left = length_drop p (places_of ls) in
    let most = take_most p (places_of ls) in
    let same = ap (λ (ps : List Place). length ps) (places_replaced write n is ls p (p + suc n) refl window) in
    let first = length-append (take p (places_of ls)) (map plain is ++ drop (p + suc n) (places_of ls)) in
    let second = length-append (map plain is) (drop (p + suc n) (places_of ls)) in
    let new = length_map plain is in
    let behind = length_drop (p + suc n) (places_of ls) in
    omega arith

-- ---- a branch that goes elsewhere ----

aimed_sets : (label : Name) (s : Statement) → is_op s ≡ true → set_names (aimed label s) ≡ []
aimed_sets label Nothing e = refl
aimed_sets label (Instruction i m) e = refl
aimed_sets label (Words vs) e = refl
aimed_sets label (Aligns size most) e = refl
aimed_sets label (Sets name address) e = absurd (true≢false (sym e))

once_branch : (write : Instr → Option Mention → List ℕ) (label : Name) (known : List Name) (l : ListingLine) (ls : List ListingLine) → is_op l.statement ≡ true → Once known ls → Once known (aimed_line write label l ∷ ls)
unfolding Once
once_branch write label known l ls op f j other w =
    let sets : set_names (aimed label l.statement) ≡ [] = aimed_sets label l.statement op in
    once_from j other (aimed_line write label l) ls
    (ap (is_again other) sets)
    (ap (λ (ns : List Name). first_twice (j + 1) (other ++ ns) ls) sets ∙ f (j + 1) (other ++ []) (within_none other known w))

once_aimed : (write : Instr → Option Mention → List ℕ) (p : ℕ) (label : Name) (k j : ℕ) (known other : List Name) (ls : List ListingLine) → Within other known → first_twice k known ls ≡ None
    → first_twice j other (aimed_lines write p label ls) ≡ None
unfolding Once
once_aimed write p label k j known other [] w e = refl
once_aimed write p label k j known other (l ∷ ls) w e =
    let parts = once_parts k known l ls e in
    elim (cases_Bool (is_op l.statement && (p == 0))) [
      | inl h ↦
          let op = and_first (is_op l.statement) (p == 0) h in
          let defined : defined_in l ≡ l.names ++ [] = ap (λ (ns : List Name). l.names ++ ns) (op_sets l.statement op) in
          let here : is_again known (l.names ++ []) ≡ false = ap (is_again known) (sym defined) ∙ parts.0 in
          let rest : first_twice (k + 1) (known ++ (l.names ++ [])) ls ≡ None = ap (λ (ns : List Name). first_twice (k + 1) (known ++ ns) ls) (sym defined) ∙ parts.1 in
          rw h (once_kept k known l l.names (aimed_line write label l ∷ ls) here
          (once_branch write label (known ++ (l.names ++ [])) l ls op
          (λ i some v. once_within (k + 1) i (known ++ (l.names ++ [])) some ls v rest))
          j other w)
      | inr h ↦ rw h (once_from j other l (aimed_lines write (p - length (places_in l.statement)) label ls) (not_again_within other known (defined_in l) w parts.0)
          (once_aimed write (p - length (places_in l.statement)) label (k + 1) (j + 1) (known ++ defined_in l) (other ++ defined_in l) ls (within_same other known (defined_in l) w) parts.1))
    ]

pub aimed_once : (write : Instr → Option Mention → List ℕ) (p : ℕ) (label : Name) (ls : List ListingLine) → DefineOnce ls → DefineOnce (aimed_lines write p label ls)
aimed_once write p label ls once = none_once (aimed_lines write p label ls) (once_aimed write p label 1 1 [] [] ls (within_self []) (once_none ls once))

pub aimed_place : (label : Name) (s : Statement) → length (places_in (aimed label s)) ≡ length (places_in s)
aimed_place label Nothing = refl
aimed_place label (Instruction i m) = refl
aimed_place label (Words vs) = refl
aimed_place label (Aligns size most) = refl
aimed_place label (Sets name address) = refl

pub aimed_as_many : (write : Instr → Option Mention → List ℕ) (p : ℕ) (label : Name) (ls : List ListingLine) → length (places_of (aimed_lines write p label ls)) ≡ length (places_of ls)
aimed_as_many write p label [] = refl
aimed_as_many write p label (l ∷ ls) = elim (cases_Bool (is_op l.statement && (p == 0))) [
  | inl h ↦ rw h
      (ap (λ (ps : List Place). length ps) (kept_places l l.names (aimed_line write label l ∷ ls))
      ∙ length-append (places_in (aimed label l.statement)) (places_of ls)
      ∙ ap (λ n. n + length (places_of ls)) (aimed_place label l.statement)
      ∙ sym (length-append (places_in l.statement) (places_of ls)))
  | inr h ↦ rw h
      (length-append (places_in l.statement) (places_of (aimed_lines write (p - length (places_in l.statement)) label ls))
      ∙ ap (λ n. length (places_in l.statement) + n) (aimed_as_many write (p - length (places_in l.statement)) label ls)
      ∙ sym (length-append (places_in l.statement) (places_of ls)))
]

-- ---- line by line ----

pub without_op : (n : ℕ) (l : ListingLine) (ls : List ListingLine) → (nat_lt 0 n && is_op l.statement) ≡ true → without n (l ∷ ls) ≡ without (n - 1) ls
without_op zero l ls e = absurd (true≢false (sym e))
without_op (suc n) l ls e = let some : nat_lt 0 (suc n) ≡ true = lt-ltb 0 (suc n) (omega arith) in let op : is_op l.statement ≡ true = rw some at e in rw op (ap (λ (m : ℕ). without m ls) (let h : n ≡ suc n - 1 = omega arith in h))

pub without_other : (n : ℕ) (l : ListingLine) (ls : List ListingLine) → (nat_lt 0 n && is_op l.statement) ≡ false → without n (l ∷ ls) ≡ l ∷ without n ls
without_other zero l ls e = ap (λ (ms : List ListingLine). l ∷ ms) (sym (without_none ls))
without_other (suc n) l ls e = let some : nat_lt 0 (suc n) ≡ true = lt-ltb 0 (suc n) (omega arith) in let other : is_op l.statement ≡ false = rw some at e in rw other refl

drop_step : {A : Type 0} (xs : List A) (i : ℕ) (x : A) → i < length xs → x ≡ get_or xs i x → drop i xs ≡ x ∷ drop (i + 1) xs
drop_step xs i x h at =
    drop-cons xs i x h ∙ ap (λ y. y ∷ drop (suc i) xs) (sym at) ∙ ap (λ (n : ℕ). x ∷ drop n xs) (let e : suc i ≡ i + 1 = omega arith in e)

pub kept_step : {A : Type 0} (f : A → ListingLine) (out all : List ListingLine) (xs : List A) (i n : ℕ) (x : A) (new : ListingLine) → i < length xs → x ≡ get_or xs i x → (nat_lt 0 n && is_op (f x).statement) ≡ false → new ≡ f x
    → out ++ without n (map f (drop i xs)) ≡ all → (out ++ new ∷ []) ++ without n (map f (drop (i + 1) xs)) ≡ all
kept_step f out all xs i n x new h at other is so_far =
    append_assoc out (new ∷ []) (without n (map f (drop (i + 1) xs)))
    ∙ ap (λ (ls : List ListingLine). out ++ ls)
    (ap (λ (l : ListingLine). l ∷ without n (map f (drop (i + 1) xs))) is
    ∙ sym (without_other n (f x) (map f (drop (i + 1) xs)) other)
    ∙ ap (λ ys. without n (map f ys)) (sym (drop_step xs i x h at)))
    ∙ so_far

-- the branch's own line, in place of what stands there
pub branch_step : {A : Type 0} (f : A → ListingLine) (write : Instr → Option Mention → List ℕ) (label : Name) (out named branched new after all : List ListingLine) (xs : List A) (i p : ℕ) (x : A) (branch : Instr) (m : Option Mention) (own : ListingLine)
    → i < length xs → x ≡ get_or xs i x → p ≡ 0 → (f x).statement ≡ Instruction branch m
    → own ≡ record { names = []; statement = Instruction branch (Some (record { name = label; plus = 0 })); text = write branch (Some (record { name = label; plus = 0 })); front = [] }
    → named ≡ out ++ labels_kept (f x) (f x).names → branched ≡ named ++ own ∷ [] → new ≡ branched ++ without 0 after → after ≡ map f (drop (i + 1) xs)
    → out ++ aimed_lines write p label (map f (drop i xs)) ≡ all → new ≡ all
branch_step f write label out named branched new after all xs i p x branch m own h at z op is names own_line others behind so_far =
    let kept : List ListingLine = labels_kept (f x) (f x).names in
    let here : aimed_lines write p label (map f (drop i xs)) ≡ kept ++ own ∷ map f (drop (i + 1) xs) = rw (drop_step xs i x h at, z, op, is) refl in
    others
    ∙ ap (λ (ls : List ListingLine). branched ++ ls) (without_none after ∙ behind)
    ∙ ap (λ (ls : List ListingLine). ls ++ map f (drop (i + 1) xs)) (own_line ∙ ap (λ (ls : List ListingLine). ls ++ own ∷ []) names)
    ∙ append_assoc (out ++ kept) (own ∷ []) (map f (drop (i + 1) xs))
    ∙ append_assoc out kept (own ∷ map f (drop (i + 1) xs))
    ∙ ap (λ (ls : List ListingLine). out ++ ls) (sym here)
    ∙ so_far

pub ruleset skipping = (without_op, without_other)
