-- What the tables of the given places mean: breaks between instructions, and labels.
use Rattle.std.proofs.Common.{◌≡◌, ◌↔◌, ℕ, zero, suc, ◌+◌, ◌-◌, ◌<◌, ◌≤◌, ◌&&◌, ◌||◌, Bool, true, false, List, [], ◌∷◌, ◌++◌, length, length-append, replicate, Some, refl, sym, ap, ◌∙◌, inl, inr, arith, true≢false, if◌then◌else◌}
use Rattle.std.specs.Prelude.{slice_get, nat_le, nat_lt}
use Rattle.std.proofs.lemmas.Bool.{cases_lt, lt-ltb, le-ltb, le-leb, lt-leb, leb-true}
use Rattle.std.proofs.lemmas.Option.{same_Some}
use Rattle.std.proofs.lemmas.List.{length-replicate}
use Rattle.thumb_model.specs.Listing.{Name, ListingLine, Label, places_in, places_of, labels_at, labels_from}
use Rattle.thumb_model.proofs.Lists.{get_back}
use Rattle.window_runs.specs.declared.rows.WindowPlace.{WindowPlace}
use Rattle.edited_listing.specs.Counting.{some_name}
use Rattle.edited_listing.specs.Known.{joined_at, all_from, HasLabelIn, last_breaks, last_labels}
use Rattle.common_lemmas.proofs.Lists.{get_front}
use Rattle.common_lemmas.proofs.Booleans.{or_assoc, or_false}

-- ---- breaks ----

off_here : (u v : Bool) → false ≡ (u && (false && v))
off_here true v = refl
off_here false v = refl

all_here : (u : Bool) → u ≡ (u && (true && true))
all_here true = refl
all_here false = refl

-- the place itself
break_here : (t at : Bool) (p last b c : ℕ) → c ≤ p → t ≡ at → (if t then last else suc p) ≡ b → nat_le b c ≡ (nat_le last c && (at && true))
break_here true at p last b c h t f = ap (λ n. nat_le n c) (sym f) ∙ all_here (nat_le last c) ∙ ap (λ u. nat_le last c && (u && true)) t
break_here false at p last b c h t f = ap (λ n. nat_le n c) (sym f) ∙ lt-leb (suc p) c (omega arith) ∙ off_here (nat_le last c) true ∙ ap (λ u. nat_le last c && (u && true)) t

-- and those behind it
break_behind : (t at all : Bool) (p last c : ℕ) → c ≤ p → t ≡ at → (nat_le (if t then last else suc p) c && all) ≡ (nat_le last c && (at && all))
break_behind true at all p last c h t = ap (λ u. nat_le last c && (u && all)) t
break_behind false at all p last c h t = ap (λ u. u && all) (lt-leb (suc p) c (omega arith)) ∙ off_here (nat_le last c) all ∙ ap (λ u. nat_le last c && (u && all)) t

-- by the last break up to the place after j others, where all places in question are among these
breaks_in : (rs : List WindowPlace) (j p last b c : ℕ) (at : ℕ → Bool) → c ≤ p → slice_get (last_breaks p last rs) j ≡ Some b → ((k : ℕ) → joined_at rs k ≡ at (p + k)) → nat_le b c ≡ (nat_le last c && all_from at p (suc j))
breaks_in [] j p last b c at h e a = absurd (cc)
breaks_in (r ∷ rs) zero p last b c at h e a = break_here r.is_joined (at p) p last b c h (a 0 ∙ ap at (let z : p + 0 ≡ p = omega arith in z)) (same_Some _ b e)
breaks_in (r ∷ rs) (suc j) p last b c at h e a =
    breaks_in rs j (suc p) (if r.is_joined then last else suc p) b c at (omega arith) e (λ k. a (suc k) ∙ ap at (let z : p + suc k ≡ suc p + k = omega arith in z))
    ∙ break_behind r.is_joined (at p) (all_from at (suc p) (suc j)) p last c h (a 0 ∙ ap at (let z : p + 0 ≡ p = omega arith in z))

-- and where some of these come before the places in question
breaks_past : (rs : List WindowPlace) (j d p last b : ℕ) (at : ℕ → Bool) → last ≤ p → d ≤ suc j → slice_get (last_breaks p last rs) j ≡ Some b → ((k : ℕ) → joined_at rs k ≡ at (p + k)) → nat_le b (p + d) ≡ all_from at (p + d) (suc j - d)
breaks_past rs j zero p last b at h k e a =
    breaks_in rs j p last b (p + 0) at (omega arith) e a
    ∙ ap (λ u. u && all_from at p (suc j)) (le-leb last (p + 0) (omega arith))
    ∙ ap (λ n. all_from at n (suc j)) (let z : p ≡ p + 0 = omega arith in z)
    ∙ ap (all_from at (p + 0)) (let z : suc j ≡ suc j - 0 = omega arith in z)
breaks_past [] j (suc d) p last b at h k e a = absurd (cc)
breaks_past (r ∷ rs) zero (suc d) p last b at h k e a =
    ap (λ n. nat_le n (p + suc d)) (sym (same_Some _ b e)) ∙ small r.is_joined ∙ ap (all_from at (p + suc d)) (let z : 0 ≡ 1 - suc d = omega arith in z)
  where
    small : (t : Bool) → nat_le (if t then last else suc p) (p + suc d) ≡ true
    small true = le-leb last (p + suc d) (omega arith)
    small false = le-leb (suc p) (p + suc d) (omega arith)
breaks_past (r ∷ rs) (suc j) (suc d) p last b at h k e a =
    let same : p + suc d ≡ suc p + d = omega arith in
    ap (nat_le b) same
    ∙ breaks_past rs j d (suc p) (if r.is_joined then last else suc p) b at (small r.is_joined) (omega arith) e (λ i. a (suc i) ∙ ap at (let z : p + suc i ≡ suc p + i = omega arith in z))
    ∙ ap (λ n. all_from at n (suc j - d)) (sym same)
    ∙ ap (all_from at (p + suc d)) (let z : suc j - d ≡ suc (suc j) - suc d = omega arith in z)
  where
    small : (t : Bool) → (if t then last else suc p) ≤ suc p
    small true = omega arith
    small false = omega arith

pub joined_between : (rs : List WindowPlace) (from to b : ℕ) → from ≤ to → slice_get (last_breaks 0 0 rs) to ≡ Some b → nat_le b (from + 1) ≡ all_from (joined_at rs) (suc from) (to - from)
joined_between rs from to b h e =
    ap (nat_le b) (let z : from + 1 ≡ 0 + suc from = omega arith in z)
    ∙ breaks_past rs to (suc from) 0 0 b (joined_at rs) (omega arith) (omega arith) e (λ k. ap (joined_at rs) (let z : k ≡ 0 + k = omega arith in z))
    ∙ ap (λ n. all_from (joined_at rs) n (suc to - suc from)) (let z : 0 + suc from ≡ suc from = omega arith in z)
    ∙ ap (all_from (joined_at rs) (suc from)) (let z : suc to - suc from ≡ to - from = omega arith in z)

pub breaks_many : (rs : List WindowPlace) (p last : ℕ) → length (last_breaks p last rs) ≡ length rs
breaks_many [] p last = refl
breaks_many (r ∷ rs) p last = ap suc (breaks_many rs (suc p) (if r.is_joined then last else suc p))

-- ---- labels ----

-- whether one of the labels is right before one of the places
abbrev some_in : List Label → ℕ → ℕ → Bool
some_in [] from to = false
some_in (l ∷ ls) from to = (nat_le from l.place && nat_le l.place to) || some_in ls from to

some_append : (ks ls : List Label) (from to : ℕ) → some_in (ks ++ ls) from to ≡ (some_in ks from to || some_in ls from to)
some_append [] ls from to = refl
some_append (k ∷ ks) ls from to = ap (λ u. (nat_le from k.place && nat_le k.place to) || u) (some_append ks ls from to) ∙ sym (or_assoc (nat_le from k.place && nat_le k.place to) (some_in ks from to) (some_in ls from to))

-- the labels of a line
some_here : (p : ℕ) (ns : List Name) (from to : ℕ) → p ≤ to → some_in (labels_at p ns) from to ≡ (some_name ns && nat_le from p)
some_here p [] from to h = refl
some_here p (n ∷ ns) from to h = ap (λ u. (nat_le from p && u) || some_in (labels_at p ns) from to) (le-leb p to h) ∙ ap (λ u. (nat_le from p && true) || u) (some_here p ns from to h) ∙ all (some_name ns) (nat_le from p)
  where
    all : (a b : Bool) → ((b && true) || (a && b)) ≡ b
    all true true = refl
    all true false = refl
    all false true = refl
    all false false = refl

-- the labels of lines behind
none_here : (p : ℕ) (ns : List Name) (from to : ℕ) → to < p → some_in (labels_at p ns) from to ≡ false
none_here p [] from to h = refl
none_here p (n ∷ ns) from to h = ap (λ u. (nat_le from p && u) || some_in (labels_at p ns) from to) (lt-leb p to h) ∙ ap (λ u. (nat_le from p && false) || u) (none_here p ns from to h) ∙ none (nat_le from p)
  where
    none : (b : Bool) → ((b && false) || false) ≡ false
    none true = refl
    none false = refl

none_behind : (ls : List ListingLine) (p from to : ℕ) → to < p → some_in (labels_from p ls) from to ≡ false
none_behind [] p from to h = refl
none_behind (l ∷ ls) p from to h =
    some_append (labels_at p l.names) (labels_from (p + length (places_in l.statement)) ls) from to
    ∙ ap (λ u. u || some_in (labels_from (p + length (places_in l.statement)) ls) from to) (none_here p l.names from to h)
    ∙ none_behind ls (p + length (places_in l.statement)) from to (omega arith)

replicate_get : (n k x b : ℕ) → k < n → slice_get (replicate n x) k ≡ Some b → x ≡ b
replicate_get zero k x b h e = absurd (omega arith)
replicate_get (suc n) zero x b h e = same_Some x b e
replicate_get (suc n) (suc k) x b h e = replicate_get n k x b (omega arith) e

-- the last label up to a line's places
last_here : (ns : List Name) (p last from : ℕ) → last ≤ suc p → nat_lt from (if some_name ns then suc p else last) ≡ (nat_lt from last || (some_name ns && nat_le from p))
last_here [] p last from h = all (nat_lt from last)
  where
    all : (b : Bool) → b ≡ (b || false)
    all true = refl
    all false = refl
last_here (n ∷ ns) p last from h = elim (cases_lt from last) [
  | inl l ↦ lt-ltb from (suc p) (omega arith) ∙ ap (λ u. u || (true && nat_le from p)) (sym (lt-ltb from last l))
  | inr l ↦ elim (cases_lt p from) [
    | inl m ↦ le-ltb from (suc p) (omega arith) ∙ sym (lt-leb from p m) ∙ ap (λ u. u || (true && nat_le from p)) (sym (le-ltb from last l))
    | inr m ↦ lt-ltb from (suc p) (omega arith) ∙ sym (le-leb from p m) ∙ ap (λ u. u || (true && nat_le from p)) (sym (le-ltb from last l))
  ]
]

last_small : (ns : List Name) (p last : ℕ) → last ≤ suc p → (if some_name ns then suc p else last) ≤ suc p
last_small [] p last h = h
last_small (n ∷ ns) p last h = omega arith

labels_upto : (ls : List ListingLine) (j p last b from : ℕ) → last ≤ suc p → slice_get (last_labels p last ls) j ≡ Some b → nat_lt from b ≡ (nat_lt from last || some_in (labels_from p ls) from (p + j))
labels_upto [] j p last b from h e = absurd (cc)
labels_upto (l ∷ ls) j p last b from h e =
    let k : ℕ = length (places_in l.statement) in
    let now : ℕ = if some_name l.names then suc p else last in
    let many : length (replicate k now) ≡ k = length-replicate k now in
    let behind : List Label = labels_from (p + k) ls in
    let here : nat_lt from now ≡ (nat_lt from last || some_in (labels_at p l.names) from (p + j)) = last_here l.names p last from h ∙ ap (λ u. nat_lt from last || u) (sym (some_here p l.names from (p + j) (omega arith))) in
    let all : (nat_lt from now || some_in behind from (p + j)) ≡ (nat_lt from last || some_in (labels_at p l.names ++ behind) from (p + j)) =
    ap (λ u. u || some_in behind from (p + j)) here ∙ or_assoc (nat_lt from last) (some_in (labels_at p l.names) from (p + j)) (some_in behind from (p + j)) ∙ ap (λ u. nat_lt from last || u) (sym (some_append (labels_at p l.names) behind from (p + j))) in
    elim (cases_lt j k) [
      | inl g ↦
          let same : now ≡ b = replicate_get k j now b g (sym (get_front (replicate k now) (last_labels (p + k) now ls) j (omega arith)) ∙ e) in
          ap (nat_lt from) (sym same) ∙ sym (or_false (nat_lt from now)) ∙ ap (λ u. nat_lt from now || u) (sym (none_behind ls (p + k) from (p + j) (omega arith))) ∙ all
      | inr g ↦
          let small = last_small l.names p last h in
          labels_upto ls (j - k) (p + k) now b from (omega arith) (sym (get_back (replicate k now) (last_labels (p + k) now ls) (j - k) j (omega arith)) ∙ e)
          ∙ ap (λ n. nat_lt from now || some_in behind from n) (let z : p + k + (j - k) ≡ p + j = omega arith in z)
          ∙ all
    ]

pub labels_many : (ls : List ListingLine) (p last : ℕ) → length (last_labels p last ls) ≡ length (places_of ls)
labels_many [] p last = refl
labels_many (l ∷ ls) p last =
    let k : ℕ = length (places_in l.statement) in
    let now : ℕ = if some_name l.names then suc p else last in
    let rest = labels_many ls (p + k) now in
    let all = length-append (replicate k now) (last_labels (p + k) now ls) in
    let many = length-replicate k now in
    let places = length-append (places_in l.statement) (places_of ls) in
    omega arith

later_in : (l : Label) (ls : List Label) (from to : ℕ) → HasLabelIn ls from to → HasLabelIn (l ∷ ls) from to
later_in l ls from to h = record { number = suc h.number; label = h.label; is = h.is; from = h.from; to = h.to }

found_step : (l : Label) (ls : List Label) (from to : ℕ) (a b : Bool) → (some_in ls from to ≡ true → HasLabelIn ls from to) → nat_le from l.place ≡ a → nat_le l.place to ≡ b → ((a && b) || some_in ls from to) ≡ true → HasLabelIn (l ∷ ls) from to
found_step l ls from to true true rec f g h = record { number = 0; label = l; is = refl; from = leb-true from l.place f; to = leb-true l.place to g }
found_step l ls from to true false rec f g h = later_in l ls from to (rec h)
found_step l ls from to false b rec f g h = later_in l ls from to (rec h)

found_in : (ls : List Label) (from to : ℕ) → some_in ls from to ≡ true → HasLabelIn ls from to
found_in [] from to e = absurd (true≢false (sym e))
found_in (l ∷ ls) from to e = found_step l ls from to (nat_le from l.place) (nat_le l.place to) (λ h. found_in ls from to h) refl refl e

in_found : (ls : List Label) (from to k : ℕ) (l : Label) → slice_get ls k ≡ Some l → from ≤ l.place → l.place ≤ to → some_in ls from to ≡ true
in_found [] from to k l e f g = absurd (cc)
in_found (m ∷ ls) from to zero l e f g =
    ap (λ (x : Label). (nat_le from x.place && nat_le x.place to) || some_in ls from to) (same_Some m l e) ∙ ap (λ u. (u && nat_le l.place to) || some_in ls from to) (le-leb from l.place f) ∙ ap (λ u. u || some_in ls from to) (le-leb l.place to g)
in_found (m ∷ ls) from to (suc k) l e f g = ap (λ u. (nat_le from m.place && nat_le m.place to) || u) (in_found ls from to k l e f g) ∙ all (nat_le from m.place && nat_le m.place to)
  where
    all : (b : Bool) → (b || true) ≡ true
    all true = refl
    all false = refl

pub label_between : (ls : List ListingLine) (from to b : ℕ) → slice_get (last_labels 0 0 ls) to ≡ Some b → (nat_lt from b ≡ true) ↔ HasLabelIn (labels_from 0 ls) from to
label_between ls from to b e = (
  λ h. found_in (labels_from 0 ls) from to (sym same ∙ h),
  λ h. same ∙ in_found (labels_from 0 ls) from to h.number h.label h.is h.from h.to,
)
  where
    same : nat_lt from b ≡ some_in (labels_from 0 ls) from to
    same = labels_upto ls to 0 0 b from (omega arith) e ∙ ap (λ u. u || some_in (labels_from 0 ls) from (0 + to)) (le-ltb from 0 (omega arith)) ∙ ap (some_in (labels_from 0 ls) from) (let z : 0 + to ≡ to = omega arith in z)
