-- What replacing does to lines: what stands before stays, a run without names gives way to one of no more bytes, and what stands behind stays.
use Rattle.std.proofs.Common.{◌≡◌, ◌∙◌, ℕ, zero, suc, ◌+◌, ◌-◌, ◌*◌, ◌<◌, ◌≤◌, ◌==◌, ◌&&◌, Bool, true, false, List, [], ◌∷◌, ◌++◌, length, drop, map, Option, Some, None, refl, sym, ap, subst, arith, append_assoc, ne_eqb, if◌then◌else◌}
use Rattle.std.specs.Prelude.{slice_get}
use Rattle.std.proofs.lemmas.Bool.{and_parts, and_from, eqb-true}
use Rattle.thumb_instr.specs.declared.instr.Instr.{Instr}
use Rattle.thumb_model.specs.Listing.{Name, Mention, Value, Statement, Nothing, Instruction, Words, ListingLine, Place, Op, Word, places_in, places_of, is_op_place, labels_at, labels_from}
use Rattle.thumb_model.specs.Layout.{instr_size, is_among, set_in, set_address}
use Rattle.thumb_model.specs.Replaced.{is_op, without, labels_kept, new_line, replaced_lines}
use Rattle.thumb_model.proofs.LinesReplaced.{AllOutside, all_back, no_names}
use Rattle.thumb_model.proofs.Lists.{drop_back, length_map}
use Rattle.label_layout.proofs.Shared.{new_before}
use Rattle.steady_layout.specs.declared.starts.Start.{Start}
use Rattle.steady_layout.specs.Steady.{most_of, ends_aligned, steady_at}
use Rattle.steady_layout.proofs.Walks.{Sizes, after, look, ending, steady_by, ends_within}
use Rattle.thumb_model.proofs.Cuts.{without_none as inner_end, without_none as left_out}

abbrev pub most : Sizes
most s at = most_of s

-- ---- runs of lines without names, which mention nothing ----

pub record IsBare (l : ListingLine) : Type 0 where
  pub names : l.names ≡ []
  pub steady : (labels : Name → Option Start) (sets : Name → Option ℕ) (base : ℕ) (here : Start) → steady_at labels sets base here l.statement ≡ true

abbrev pub AreBare : List ListingLine → Type 0
AreBare [] = Unit {0}
AreBare (l ∷ ls) = IsBare l × AreBare ls

-- lines without names
abbrev pub AreUnnamed : List ListingLine → Type 0
AreUnnamed [] = Unit {0}
AreUnnamed (l ∷ ls) = (l.names ≡ []) × AreUnnamed ls

bare_unnamed : (ls : List ListingLine) → AreBare ls → AreUnnamed ls
bare_unnamed [] h = tt
bare_unnamed (l ∷ ls) h = (h.0.names, bare_unnamed ls h.1)

abbrev pub total : List ListingLine → ℕ
total [] = 0
total (l ∷ ls) = most_of l.statement + total ls

abbrev pub flags : Bool → List ListingLine → Bool
flags x [] = x
flags x (l ∷ ls) = flags (ends_aligned x l.statement) ls

-- a run of lines comes in place of another, without more bytes
pub record IsNoLonger (old new : List ListingLine) : Type 0 where
  pub unnamed_old : AreUnnamed old
  pub bare_new : AreBare new
  pub bytes : total new ≤ total old
  pub aligned : (x y : Bool) → (x ≡ true → y ≡ true) → flags x old ≡ true → flags y new ≡ true
  pub sets : (name : Name) (ls : List ListingLine) → set_address name (old ++ ls) ≡ set_address name (new ++ ls)

total_append : (xs ys : List ListingLine) → total (xs ++ ys) ≡ total xs + total ys
total_append [] ys = omega arith
total_append (x ∷ xs) ys = let h = total_append xs ys in omega arith

flags_append : (x : Bool) (xs ys : List ListingLine) → flags x (xs ++ ys) ≡ flags (flags x xs) ys
flags_append x [] ys = refl
flags_append x (l ∷ ls) ys = flags_append (ends_aligned x l.statement) ls ys

start_is : (a b : ℕ) (x y : Bool) → a ≡ b → x ≡ y → (let s : Start = record { at = a; aligned = x } in s) ≡ record { at = b; aligned = y }
start_is a b x y e f = cc

pub ending_is : (here : Start) (ls : List ListingLine) → ending most here ls ≡ record { at = here.at + total ls; aligned = flags here.aligned ls }
ending_is here [] = start_is here.at (here.at + 0) here.aligned here.aligned (omega arith) refl
ending_is here (l ∷ ls) = ending_is (after most here l.statement) ls ∙ start_is (here.at + most_of l.statement + total ls) (here.at + (most_of l.statement + total ls)) _ _ (omega arith) refl

pub look_unnamed : (name : Name) (here : Start) (xs ys : List ListingLine) → AreUnnamed xs → look most name here (xs ++ ys) ≡ look most name (ending most here xs) ys
look_unnamed name here [] ys h = refl
look_unnamed name here (x ∷ xs) ys h = rw (h.0) (look_unnamed name (after most here x.statement) xs ys h.1)

pub look_bare : (name : Name) (here : Start) (xs ys : List ListingLine) → AreBare xs → look most name here (xs ++ ys) ≡ look most name (ending most here xs) ys
look_bare name here [] ys h = refl
look_bare name here (x ∷ xs) ys h = rw (h.0.names) (look_bare name (after most here x.statement) xs ys h.1)

pub steady_bare : (labels : Name → Option Start) (sets : Name → Option ℕ) (base : ℕ) (here : Start) (xs : List ListingLine) → AreBare xs → steady_by most labels sets base here xs ≡ true
steady_bare labels sets base here [] h = refl
steady_bare labels sets base here (x ∷ xs) h = and_from _ _ (h.0.steady labels sets base here) (steady_bare labels sets base (after most here x.statement) xs h.1)

-- ---- the instructions of a window ----

-- the first n places are instructions of two bytes that mention nothing
abbrev pub ArePlain : ℕ → List Place → Type 0
ArePlain zero ps = Unit {0}
ArePlain (suc n) [] = ⊥
ArePlain (suc n) (Op i None ∷ ps) = (instr_size i ≡ 2) × ArePlain n ps
ArePlain (suc n) (Op i (Some m) ∷ ps) = ⊥
ArePlain (suc n) (Word w ∷ ps) = ⊥

abbrev pub AreTwos : List Instr → Type 0
AreTwos [] = Unit {0}
AreTwos (i ∷ is) = (instr_size i ≡ 2) × AreTwos is

-- an instruction of two bytes never surely ends at a multiple of 4
not_aligned : (x : Bool) (i : Instr) (m : Option Mention) → instr_size i ≡ 2 → ends_aligned x (Instruction i m) ≡ true → ⊥
not_aligned x i m e h = let p = and_parts x (instr_size i == 4) h in let q = eqb-true (instr_size i) 4 p.1 in omega arith

-- the lines of a window behind its first: what goes, what is left of it, and what stands behind
pub record IsInner (n : ℕ) (ls : List ListingLine) : Type 0 where
  pub old : List ListingLine
  pub new : List ListingLine
  pub back : List ListingLine
  pub is_old : ls ≡ old ++ back
  pub is_new : without n ls ≡ new ++ back
  pub bare_old : AreBare old
  pub bare_new : AreBare new
  pub bytes : total old ≡ total new + 2 * n
  pub aligned : (x y : Bool) → (x ≡ true → y ≡ true) → flags x old ≡ true → flags y new ≡ true
  pub sets : (name : Name) (ms : List ListingLine) → set_address name (old ++ ms) ≡ set_address name (new ++ ms)

inner_none : (ls : List ListingLine) → IsInner 0 ls
inner_none ls = record { old = []; new = []; back = ls; is_old = refl; is_new = inner_end ls; bare_old = tt; bare_new = tt; bytes = refl; aligned = λ x y h e. h e; sets = λ name ms. refl }

inner_gone : (n : ℕ) (l : ListingLine) (i : Instr) (ls : List ListingLine) → l.statement ≡ Instruction i None → instr_size i ≡ 2 → l.names ≡ [] → IsInner n ls → IsInner (suc n) (l ∷ ls)
inner_gone n l i ls e two none k = record {
  old = l ∷ k.old;
  new = k.new;
  back = k.back;
  is_old = ap (λ x. l ∷ x) k.is_old;
  is_new = rw e k.is_new;
  bare_old = (record { names = none; steady = λ labels sets base here. rw e refl }, k.bare_old);
  bare_new = k.bare_new;
  bytes = rw e (let b = k.bytes in omega arith);
  aligned = λ x y h q. k.aligned (ends_aligned x l.statement) y (λ t. absurd (not_aligned x i None two (rw e at t))) q;
  sets = λ name ms. rw e (k.sets name ms);
}

inner_kept : (n : ℕ) (l : ListingLine) (ls : List ListingLine) → is_op l.statement ≡ false → IsBare l → IsInner (suc n) ls → IsInner (suc n) (l ∷ ls)
inner_kept n l ls e bare k = record {
  old = l ∷ k.old;
  new = l ∷ k.new;
  back = k.back;
  is_old = ap (λ x. l ∷ x) k.is_old;
  is_new = rw e (ap (λ x. l ∷ x) k.is_new);
  bare_old = (bare, k.bare_old);
  bare_new = (bare, k.bare_new);
  bytes = let b = k.bytes in omega arith;
  aligned = λ x y h q. k.aligned (ends_aligned x l.statement) (ends_aligned y l.statement) (λ t. ends_within l.statement x y h t) q;
  sets = λ name ms. ap (set_in name l.statement) (k.sets name ms);
}

abbrev InnerRec : ℕ → ℕ → ℕ → List ListingLine → Type 0
InnerRec at count n ls = (r : ℕ) → at < r → r + n ≡ at + count → AllOutside at count (labels_from r ls) → ArePlain n (places_of ls) → IsInner n ls

bare_line : (l : ListingLine) (s : Statement) → l.statement ≡ s → l.names ≡ [] → ((labels : Name → Option Start) (sets : Name → Option ℕ) (base : ℕ) (here : Start) → steady_at labels sets base here s ≡ true) → IsBare l
bare_line l s e none h = record { names = none; steady = λ labels sets base here. rw e (h labels sets base here) }

inner_step : (at count n : ℕ) (l : ListingLine) (s : Statement) (ls : List ListingLine) → l.statement ≡ s → InnerRec at count n ls → InnerRec at count (suc n) ls → (r : ℕ) → at < r → r + suc n ≡ at + count
    → AllOutside at count (labels_at r l.names ++ labels_from (r + length (places_in s)) ls) → ArePlain (suc n) (places_in s ++ places_of ls) → IsInner (suc n) (l ∷ ls)
inner_step at count n l (Instruction i None) ls e f g r a b out h =
    inner_gone n l i ls e h.0 (no_names at count r l.names (labels_from (r + 1) ls) a (omega arith) out) (f (r + 1) (omega arith) (omega arith) (all_back at count (labels_at r l.names) (labels_from (r + 1) ls) out) h.1)
inner_step at count n l (Instruction i (Some m)) ls e f g r a b out h = absurd h
inner_step at count n l (Words (w ∷ ws)) ls e f g r a b out h = absurd h
inner_step at count n l s ls e f g r a b out h =
    inner_kept n l ls (rw e refl) (bare_line l s e (no_names at count r l.names (labels_from (r + 0) ls) a (omega arith) out) (λ labels sets base here. refl)) (g (r + 0) (omega arith) (omega arith) (all_back at count (labels_at r l.names) (labels_from (r + 0) ls) out) h)

inner : (at count n : ℕ) (ls : List ListingLine) → InnerRec at count n ls
inner at count zero ls r a b out h = inner_none ls
inner at count (suc n) [] r a b out h = absurd h
inner at count (suc n) (l ∷ ls) r a b out h = inner_step at count n l l.statement ls refl (inner at count n ls) (inner at count (suc n) ls) r a b out h

-- ---- a line as its labels, and its statement ----

-- two lists of lines that lie alike
pub record AreAlike (ls ms : List ListingLine) : Type 0 where
  pub look : (name : Name) (here : Start) → look most name here ls ≡ look most name here ms
  pub steady : (labels : Name → Option Start) (sets : Name → Option ℕ) (base : ℕ) (here : Start) → steady_by most labels sets base here ls ≡ steady_by most labels sets base here ms
  pub ending : (here : Start) → ending most here ls ≡ ending most here ms
  pub sets : (name : Name) → set_address name ls ≡ set_address name ms

alike_cons : (l : ListingLine) (ls ms : List ListingLine) → AreAlike ls ms → AreAlike (l ∷ ls) (l ∷ ms)
alike_cons l ls ms a = record {
  look = λ name here. ap (λ o. if is_among name l.names then Some here else o) (a.look name (after most here l.statement));
  steady = λ labels sets base here. ap (λ b. steady_at labels sets base here l.statement && b) (a.steady labels sets base (after most here l.statement));
  ending = λ here. a.ending (after most here l.statement);
  sets = λ name. ap (set_in name l.statement) (a.sets name);
}

abbrev bare_of : ListingLine → ListingLine
bare_of l = record { names = []; statement = l.statement; text = l.text; front = l.front }

after_nothing : (here : Start) → after most here Nothing ≡ here
after_nothing here = start_is (here.at + 0) here.at here.aligned here.aligned (omega arith) refl

alike_split : (l : ListingLine) (ns : List Name) (ls : List ListingLine) → l.names ≡ ns → AreAlike (l ∷ ls) (labels_kept l ns ++ (bare_of l ∷ ls))
alike_split l [] ls e = record { look = λ name here. rw e refl; steady = λ labels sets base here. refl; ending = λ here. refl; sets = λ name. refl }
alike_split l (n ∷ ns) ls e = record {
  look = λ name here. rw e (ap (λ (s : Start). if is_among name (n ∷ ns) then Some here else look most name (after most s l.statement) ls) (sym (after_nothing here)));
  steady = λ labels sets base here. ap (λ (s : Start). steady_at labels sets base s l.statement && steady_by most labels sets base (after most s l.statement) ls) (sym (after_nothing here));
  ending = λ here. ap (λ (s : Start). ending most (after most s l.statement) ls) (sym (after_nothing here));
  sets = λ name. refl;
}

-- ---- cuts ----

-- lines, and what is left of them where a run gives way to one of no more bytes
pub record IsCut (ls news : List ListingLine) : Type 0 where
  pub front : List ListingLine
  pub old : List ListingLine
  pub new : List ListingLine
  pub back : List ListingLine
  pub alike : AreAlike ls (front ++ (old ++ back))
  pub is_new : news ≡ front ++ (new ++ back)
  pub no_longer : IsNoLonger old new

cut_cons : (l : ListingLine) (ls news : List ListingLine) → IsCut ls news → IsCut (l ∷ ls) (l ∷ news)
cut_cons l ls news c = record {
  front = l ∷ c.front;
  old = c.old;
  new = c.new;
  back = c.back;
  alike = alike_cons l ls (c.front ++ (c.old ++ c.back)) c.alike;
  is_new = ap (λ x. l ∷ x) c.is_new;
  no_longer = c.no_longer;
}

-- the lines of new instructions
fresh_total : (write : Instr → List ℕ) (is : List Instr) → AreTwos is → total (map (new_line write) is) ≡ 2 * length is
fresh_total write [] h = refl
fresh_total write (i ∷ is) h = let r = fresh_total write is h.1 in let two = h.0 in omega arith

fresh_sets : (write : Instr → List ℕ) (is : List Instr) (name : Name) (ls : List ListingLine) → set_address name (map (new_line write) is ++ ls) ≡ set_address name ls
fresh_sets write [] name ls = refl
fresh_sets write (i ∷ is) name ls = fresh_sets write is name ls

window_no_longer : (write : Instr → List ℕ) (n : ℕ) (is : List Instr) (l : ListingLine) (i : Instr) (ls : List ListingLine) → l.statement ≡ Instruction i None → instr_size i ≡ 2 → length is ≤ suc n → AreTwos is → (k : IsInner n ls)
    → IsNoLonger (bare_of l ∷ k.old) (map (new_line write) is ++ k.new)
window_no_longer write n is l i ls e two short twos k = record {
  unnamed_old = (refl, bare_unnamed k.old k.bare_old);
  bare_new = new_before AreBare write (λ i rest bare. (record { names = refl; steady = λ labels sets base here. refl }, bare)) is k.new k.bare_new;
  bytes =
      let size : most_of l.statement ≡ 2 = rw e two in
      let b = k.bytes in
      let f = fresh_total write is twos in
      let t = total_append (map (new_line write) is) k.new in
      omega arith;
  aligned = λ x y h q.
      flags_append y (map (new_line write) is) k.new
      ∙ k.aligned (ends_aligned x l.statement) (flags y (map (new_line write) is)) (λ t. absurd (not_aligned x i None two (rw e at t))) q;
  sets = λ name ms.
      rw e (k.sets name ms)
      ∙ sym (fresh_sets write is name (k.new ++ ms))
      ∙ ap (set_address name) (sym (append_assoc (map (new_line write) is) k.new ms));
}

cut_window : (write : Instr → List ℕ) (n : ℕ) (is : List Instr) (l : ListingLine) (i : Instr) (ls : List ListingLine) → l.statement ≡ Instruction i None → instr_size i ≡ 2 → length is ≤ suc n → AreTwos is → IsInner n ls
    → IsCut (l ∷ ls) (labels_kept l l.names ++ (map (new_line write) is ++ without n ls))
cut_window write n is l i ls e two short twos k = record {
  front = labels_kept l l.names;
  old = bare_of l ∷ k.old;
  new = map (new_line write) is ++ k.new;
  back = k.back;
  alike = subst (λ (x : List ListingLine). AreAlike (l ∷ ls) (labels_kept l l.names ++ (bare_of l ∷ x))) k.is_old (alike_split l l.names ls refl);
  is_new = ap (λ x. labels_kept l l.names ++ x) (ap (λ x. map (new_line write) is ++ x) k.is_new ∙ sym (append_assoc (map (new_line write) is) k.new k.back));
  no_longer = window_no_longer write n is l i ls e two short twos k;
}

-- ---- replaced lines ----

-- a window doesn't begin among words
past_words : (ws : List Value) (ps : List Place) (p n : ℕ) → ArePlain (suc n) (drop p (map Word ws ++ ps)) → length ws ≤ p
past_words [] ps p n h = omega arith
past_words (w ∷ ws) ps zero n h = absurd h
past_words (w ∷ ws) ps (suc p) n h = let r = past_words ws ps p n h in omega arith

abbrev CutRec : (Instr → List ℕ) → ℕ → ℕ → List Instr → List ListingLine → Type 0
CutRec write at n is ls = (q p : ℕ) → at ≡ q + p → AllOutside at (suc n) (labels_from q ls) → ArePlain (suc n) (drop p (places_of ls)) → IsCut ls (replaced_lines write p (suc n) is ls)

cut_behind : (write : Instr → List ℕ) (at n q p m : ℕ) (is : List Instr) (l : ListingLine) (s : Statement) (ls : List ListingLine) → CutRec write at n is ls → at ≡ q + p → p ≡ length (places_in s) + m
    → AllOutside at (suc n) (labels_at q l.names ++ labels_from (q + length (places_in s)) ls) → ArePlain (suc n) (drop p (places_in s ++ places_of ls)) → IsCut (l ∷ ls) (l ∷ replaced_lines write (p - length (places_in s)) (suc n) is ls)
cut_behind write at n q p m is l s ls rec e g out h =
    let c = rec (q + length (places_in s)) m (omega arith) (all_back at (suc n) (labels_at q l.names) (labels_from (q + length (places_in s)) ls) out) (subst (ArePlain (suc n)) (drop_back (places_in s) (places_of ls) p m g) h) in
    cut_cons l ls (replaced_lines write (p - length (places_in s)) (suc n) is ls) (subst (λ j. IsCut ls (replaced_lines write j (suc n) is ls)) (let z : m ≡ p - length (places_in s) = omega arith in z) c)

cut_step : (write : Instr → List ℕ) (at n q p : ℕ) (is : List Instr) (l : ListingLine) (s : Statement) (ls : List ListingLine) → length is ≤ suc n → AreTwos is → l.statement ≡ s → CutRec write at n is ls → at ≡ q + p
    → AllOutside at (suc n) (labels_at q l.names ++ labels_from (q + length (places_in s)) ls) → ArePlain (suc n) (drop p (places_in s ++ places_of ls))
    → IsCut (l ∷ ls) (if is_op s && (p == 0) then labels_kept l l.names ++ (map (new_line write) is ++ without (suc n - 1) ls) else l ∷ replaced_lines write (p - length (places_in s)) (suc n) is ls)
cut_step write at n q p is l (Words ws) ls short twos f rec e out h =
    let w = past_words ws (places_of ls) p n h in
    let x = length_map Word ws in
    cut_behind write at n q p (p - length ws) is l (Words ws) ls rec e (omega arith) out h
cut_step write at n q zero is l (Instruction i None) ls short twos f rec e out h =
    let k = inner at (suc n) n ls (q + 1) (omega arith) (omega arith) (all_back at (suc n) (labels_at q l.names) (labels_from (q + 1) ls) out) h.1 in
    subst (λ j. IsCut (l ∷ ls) (labels_kept l l.names ++ (map (new_line write) is ++ without j ls))) (let z : n ≡ suc n - 1 = omega arith in z) (cut_window write n is l i ls f h.0 short twos k)
cut_step write at n q zero is l (Instruction i (Some m)) ls short twos f rec e out h = absurd h
cut_step write at n q (suc p) is l (Instruction i mention) ls short twos f rec e out h =
    subst (λ b. IsCut (l ∷ ls) (if b then labels_kept l l.names ++ (map (new_line write) is ++ without (suc n - 1) ls) else l ∷ replaced_lines write (suc p - 1) (suc n) is ls)) (sym (ne_eqb (suc p) 0 (λ z. absurd (omega arith))))
    (cut_behind write at n q (suc p) p is l (Instruction i mention) ls rec e (omega arith) out h)
cut_step write at n q p is l s ls short twos f rec e out h = cut_behind write at n q p p is l s ls rec e (omega arith) out h

pub cut : (write : Instr → List ℕ) (at n : ℕ) (is : List Instr) → length is ≤ suc n → AreTwos is → (ls : List ListingLine) → CutRec write at n is ls
cut write at n is short twos [] q zero e out h = absurd h
cut write at n is short twos [] q (suc p) e out h = absurd h
cut write at n is short twos (l ∷ ls) q p e out h = cut_step write at n q p is l l.statement ls short twos refl (cut write at n is short twos ls) e out h

-- ---- an instruction that goes ----

-- an instruction that surely ends at a multiple of 4 surely begins at one
begins_aligned : (x : Bool) (i : Instr) (m : Option Mention) → ends_aligned x (Instruction i m) ≡ true → x ≡ true
begins_aligned x i m h = (and_parts x (instr_size i == 4) h).0

cut_head : (write : Instr → List ℕ) (l : ListingLine) (i : Instr) (m : Option Mention) (ls : List ListingLine) → l.statement ≡ Instruction i m → IsCut (l ∷ ls) (labels_kept l l.names ++ (map (new_line write) [] ++ without (1 - 1) ls))
cut_head write l i m ls e = record {
  front = labels_kept l l.names;
  old = bare_of l ∷ [];
  new = [];
  back = ls;
  alike = alike_split l l.names ls refl;
  is_new = ap (λ x. labels_kept l l.names ++ x) (left_out ls);
  no_longer = record {
    unnamed_old = (refl, tt);
    bare_new = tt;
    bytes = omega arith;
    aligned = λ x y h q. h (begins_aligned x i m (rw e at q));
    sets = λ name ms. rw e refl;
  };
}

abbrev GoneRec : (Instr → List ℕ) → List ListingLine → Type 0
GoneRec write ls = (p : ℕ) → is_op_place (slice_get (places_of ls) p) ≡ true → IsCut ls (replaced_lines write p 1 [] ls)

word_first : (ws : List Value) (ps : List Place) (p : ℕ) → is_op_place (slice_get (map Word ws ++ ps) p) ≡ true → (q : ℕ) × (p ≡ length (map Word ws) + q) × (is_op_place (slice_get ps q) ≡ true)
word_first [] ps p h = (p, omega arith, h)
word_first (w ∷ ws) ps zero h = absurd (cc)
word_first (w ∷ ws) ps (suc p) h = let r = word_first ws ps p h in (r.0, let e = r.1 in omega arith, r.2)

gone_behind : (write : Instr → List ℕ) (p q : ℕ) (l : ListingLine) (s : Statement) (ls : List ListingLine) → GoneRec write ls → p ≡ length (places_in s) + q → is_op_place (slice_get (places_of ls) q) ≡ true → IsCut (l ∷ ls) (l ∷ replaced_lines write (p - length (places_in s)) 1 [] ls)
gone_behind write p q l s ls rec e h =
    cut_cons l ls (replaced_lines write (p - length (places_in s)) 1 [] ls) (subst (λ j. IsCut ls (replaced_lines write j 1 [] ls)) (let z : q ≡ p - length (places_in s) = omega arith in z) (rec q h))

gone_step : (write : Instr → List ℕ) (p : ℕ) (l : ListingLine) (s : Statement) (ls : List ListingLine) → l.statement ≡ s → GoneRec write ls → is_op_place (slice_get (places_in s ++ places_of ls) p) ≡ true
    → IsCut (l ∷ ls) (if is_op s && (p == 0) then labels_kept l l.names ++ (map (new_line write) [] ++ without (1 - 1) ls) else l ∷ replaced_lines write (p - length (places_in s)) 1 [] ls)
gone_step write p l (Words ws) ls f rec h = let r = word_first ws (places_of ls) p h in gone_behind write p r.0 l (Words ws) ls rec r.1 r.2
gone_step write zero l (Instruction i m) ls f rec h = cut_head write l i m ls f
gone_step write (suc p) l (Instruction i m) ls f rec h =
    subst (λ b. IsCut (l ∷ ls) (if b then labels_kept l l.names ++ (map (new_line write) [] ++ without (1 - 1) ls) else l ∷ replaced_lines write (suc p - 1) 1 [] ls)) (sym (ne_eqb (suc p) 0 (λ z. absurd (omega arith))))
    (gone_behind write (suc p) p l (Instruction i m) ls rec (omega arith) h)
gone_step write p l s ls f rec h = gone_behind write p p l s ls rec (omega arith) h

-- whatever instruction goes, the lines are cut
pub cut_op : (write : Instr → List ℕ) (ls : List ListingLine) → GoneRec write ls
cut_op write [] p h = absurd (cc)
cut_op write (l ∷ ls) p h = gone_step write p l l.statement ls refl (cut_op write ls) h
