-- The text of a listing after a replacement is read as the lines that the replacement left.
use Rattle.std.proofs.Common.{◌≡◌, ◌∙◌, ◌⊎◌, inl, inr, ℕ, zero, suc, ◌+◌, ◌-◌, ◌<◌, ◌≤◌, ◌==◌, ◌&&◌, ◌||◌, Bool, true, false, List, [], ◌∷◌, ◌++◌, length, map, drop, refl, sym, ap, arith, subst, true≢false, None, Ok}
use Rattle.std.specs.Prelude.{slice_get, if◌then◌else◌}
use Rattle.std.specs.List.{list_all}
use Rattle.std.proofs.lemmas.Bool.{cases_Bool, and_parts, and_from, or_right}
use Rattle.ascii_scan.specs.Lines.{Placed, lines_of, content_of, is_ended, placed, placed_from, whole}
use Rattle.ascii_scan.specs.FirstLine.{is_inside}
use Rattle.ascii_scan.proofs.LineLemmas.{map-whole}
use Rattle.thumb_instr.specs.declared.instr.Instr.{Instr}
use Rattle.thumb_syntax.specs.Spelling.{text_of}
use Rattle.thumb_model.specs.Listing.{Name, ListingLine, places_in, places_of, is_op_place}
use Rattle.thumb_model.specs.Layout.{is_among}
use Rattle.thumb_model.specs.Replaced.{is_op, without, labels_kept, new_line, replaced_lines}
use Rattle.thumb_model.specs.Cuts.{AreOps}
use Rattle.thumb_model.proofs.Lists.{get_drop}
use Rattle.listing_parser.specs.Targets.{defined_in, set_names, DefineOnce, marked_by_name, is_next, marked_first, still_waits, functions, first_target}
use Rattle.listing_parser.proofs.TwiceLemmas.{once_none, among_first as among_self}
use Rattle.listing_parser.proofs.FirstTwice.{first_twice}
use Rattle.listing_parser.specs.Grammar.{Bare, Read, read_lines, shown_of, most_lines}
use Rattle.listing_parser.specs.Directives.{FunctionMark, Unmarked}
use Rattle.listing_parser.specs.Parsing.{IsListing, text_of_lines, own_line}
use Rattle.listing_parser.specs.Replacing.{names_no_label}
use Rattle.listing_parser.specs.ReadAgain.{KeepsCode, ReplacedReadsAgain}
use Rattle.listing_parser.proofs.LabelLemmas.{among_front, among_append, not_again, again_front}
use Rattle.listing_parser.proofs.ReplaceLemmas.{once_parts, are_ops, still_once}
use Rattle.listing_parser.proofs.CanonicalLines.{is_clear, unnamed, told_of, labels_only, canonical_text, canonical_line_checked}
use Rattle.listing_parser.proofs.JoinedLines.{Ends, IsOpen, AreEnded, inside_ends, text, text_ended, joined_split, ReadsAs, AreRead, all_same, all_read}
use Rattle.listing_parser.proofs.OldLines.{FrontReads, content_newline, IsOld, AreOld, old_read}
use Rattle.listing_parser.proofs.ReplacedTargets.{ops_first, IsWindow, window_next, window_here, op_next, other_next, opens, code_opens, from_here, has_name, named_without, is_op_first, still_aimed, keeps}
use Rattle.common_lemmas.proofs.Booleans.{or_false}

-- ---- an instruction that vanishes has no label ----

abbrev is_unnamed : List Name → Bool
is_unnamed [] = true
is_unnamed (n ∷ ns) = false

-- the next n instructions have no labels
abbrev are_unnamed : ℕ → List ListingLine → Bool
are_unnamed n [] = true
are_unnamed zero (l ∷ ls) = true
are_unnamed (suc n) (l ∷ ls) = if is_op l.statement then is_unnamed l.names && are_unnamed n ls else are_unnamed (suc n) ls

-- the instructions of the window after its first
abbrev gone_unnamed : ℕ → ℕ → List ListingLine → Bool
gone_unnamed p n [] = true
gone_unnamed p n (l ∷ ls) = if is_op l.statement && (p == 0) then are_unnamed n ls else gone_unnamed (p - length (places_in l.statement)) n ls

no_more : (name : Name) (k : ℕ) (known : List Name) (ls : List ListingLine) → first_twice k known ls ≡ None → is_among name known ≡ true → has_name name ls ≡ false
no_more name k known [] e a = refl
no_more name k known (l ∷ ls) e a =
    let parts = once_parts k known l ls e in
    let here : is_among name l.names ≡ false = not_again name known l.names (again_front known l.names (set_names l.statement) parts.0) a in
    rw here (no_more name (k + 1) (known ++ defined_in l) ls parts.1 (among_front name known (defined_in l) a))

opens_named : (name : Name) (ls : List ListingLine) → opens name ls ≡ true → has_name name ls ≡ true
opens_named name [] e = e
opens_named name (l ∷ ls) e = elim (cases_Bool (is_among name l.names)) [
  | inl a ↦ rw a refl
  | inr a ↦ rw a (opens_named name ls (rw a at e))
]

-- a label's name is on no line after its own
only_here : (name : Name) (k : ℕ) (known : List Name) (l : ListingLine) (ls : List ListingLine) → first_twice k known (l ∷ ls) ≡ None → is_among name l.names ≡ true → has_name name ls ≡ false
only_here name k known l ls e a =
    no_more name (k + 1) (known ++ defined_in l) ls (once_parts k known l ls e).1
    (among_append name known (defined_in l) ∙ or_right (is_among name known) (is_among name (defined_in l)) (among_front name l.names (set_names l.statement) a))

later : (name : Name) (k : ℕ) (known : List Name) (l : ListingLine) (ls : List ListingLine) → first_twice k known (l ∷ ls) ≡ None → opens name ls ≡ true → is_among name l.names ≡ false
later name k known l ls e o = elim (cases_Bool (is_among name l.names)) [
  | inl a ↦ absurd (true≢false (sym (opens_named name ls o) ∙ only_here name k known l ls e a))
  | inr a ↦ a
]

-- names whose labels stand before an instruction still do after the replacement
abbrev AreKept : List ListingLine → List ListingLine → Type 0
AreKept ls new = (name : Name) → opens name ls ≡ true → opens name new ≡ true

unnamed_op : (n k : ℕ) (known : List Name) (l : ListingLine) (ls : List ListingLine) (ns : List Name) → l.names ≡ ns → is_op l.statement ≡ true → first_twice k known (l ∷ ls) ≡ None → AreOps (suc n) (places_of (l ∷ ls)) → AreKept (l ∷ ls) (without (suc n) (l ∷ ls)) → is_unnamed ns ≡ true
unnamed_op n k known l ls [] e o once h kept = refl
unnamed_op n k known l ls (m ∷ ms) e o once h kept =
    let here : is_among m l.names ≡ true = ap (is_among m) e ∙ among_self m ms in
    let first : opens m (l ∷ ls) ≡ true = rw here (ops_first n (places_of (l ∷ ls)) h) in
    let after : opens m (without n ls) ≡ true = rw o at (kept m first) in
    absurd (true≢false (sym (named_without m n ls (opens_named m (without n ls) after)) ∙ only_here m k known l ls once here))

unnamed_from : (n k : ℕ) (known : List Name) (ls : List ListingLine) → first_twice k known ls ≡ None → AreOps n (places_of ls) → AreKept ls (without n ls) → are_unnamed n ls ≡ true
unnamed_from n k known [] once h kept = refl
unnamed_from zero k known (l ∷ ls) once h kept = refl
unnamed_from (suc n) k known (l ∷ ls) once h kept =
    let parts = once_parts k known l ls once in
    elim (cases_Bool (is_op l.statement)) [
      | inl o ↦ rw o (and_from (is_unnamed l.names) (are_unnamed n ls) (unnamed_op n k known l ls l.names refl o once h kept)
          (unnamed_from n (k + 1) (known ++ defined_in l) ls parts.1 (op_next n l.statement (places_of ls) o h)
          (λ name e. let a = later name k known l ls once e in let before : opens name (l ∷ ls) ≡ true = rw a e in rw o at (kept name before))))
      | inr o ↦ rw o (unnamed_from (suc n) (k + 1) (known ++ defined_in l) ls parts.1 (other_next n l.statement (places_of ls) o h)
          (λ name e. let a = later name k known l ls once e in let before : opens name (l ∷ ls) ≡ true = rw a e in rw a at (rw o at (kept name before))))
    ]

gone_from : (write : Instr → List ℕ) (n p : ℕ) (is : List Instr) (k : ℕ) (known : List Name) (ls : List ListingLine) → first_twice k known ls ≡ None → IsWindow p n (places_of ls) → AreKept ls (replaced_lines write p (suc n) is ls) → gone_unnamed p n ls ≡ true
gone_from write n p is k known [] once h kept = refl
gone_from write n p is k known (l ∷ ls) once h kept =
    let parts = once_parts k known l ls once in
    elim (cases_Bool (is_op l.statement && (p == 0))) [
      | inl o ↦ rw o (unnamed_from n (k + 1) (known ++ defined_in l) ls parts.1 (window_here n p l.statement (places_of ls) o h)
          (λ name e.
          let a = later name k known l ls once e in
          let before : opens name (l ∷ ls) ≡ true = rw a e in
          ap (λ (ms : List ListingLine). is_op_first (places_of ms)) (sym (from_here name write n is l ls a)) ∙ (rw o at (kept name before))))
      | inr o ↦ rw o (gone_from write n (p - length (places_in l.statement)) is (k + 1) (known ++ defined_in l) ls parts.1 (window_next n p l.statement (places_of ls) o h)
          (λ name e. let a = later name k known l ls once e in let before : opens name (l ∷ ls) ≡ true = rw a e in rw a at (rw o at (kept name before))))
    ]

-- ---- marks ----

-- a line without a mark
unmarked : (waits : Bool) (r : Read) (rs : List Read) (ns : List Name) → r.line.names ≡ ns → r.mark ≡ Unmarked → functions waits (r ∷ rs) ≡ (marked_first waits ns ++ []) ++ functions (still_waits waits ns || false) rs
unmarked waits r rs ns e f =
    ap (λ (m : FunctionMark). (marked_first waits r.line.names ++ marked_by_name m) ++ functions (still_waits waits r.line.names || is_next m) rs) f
    ∙ ap (λ (ms : List Name). (marked_first waits ms ++ []) ++ functions (still_waits waits ms || false) rs) e

-- a line without a mark and without labels
passed_over : (waits : Bool) (r : Read) (rs : List Read) → r.line.names ≡ [] → r.mark ≡ Unmarked → functions waits (r ∷ rs) ≡ functions waits rs
passed_over waits r rs e f = unmarked waits r rs [] e f ∙ ap (λ (b : Bool). functions b rs) (or_false waits)

-- ---- the new lines are read ----

-- new lines in place of old ones, of which these were read
record NewRead (ls : List ListingLine) (rs : List Read) : Type 0 where
  reads : List Read
  are : AreRead ls reads
  ended : AreEnded (map text ls)
  marked : (waits : Bool) → functions waits reads ≡ functions waits rs

abbrev EndsAt : ListingLine → List ListingLine → Type 0
EndsAt l ls = Ends l.text ⊎ ((map text ls ≡ []) × IsOpen l.text)

no_lines : (ls : List ListingLine) → map text ls ≡ [] → ls ≡ []
no_lines [] e = refl
no_lines (l ∷ ls) e = absurd (cc)

ends_still : (l : ListingLine) (ls new : List ListingLine) → (ls ≡ [] → new ≡ []) → EndsAt l ls → EndsAt l new
ends_still l ls new f (inl c) = inl c
ends_still l ls new f (inr o) = inr (ap (map text) (f (no_lines ls o.0)), o.1)

kept_line : (l : ListingLine) (r : Read) (ls : List ListingLine) (rs : List Read) → IsOld l r → EndsAt l ls → NewRead ls rs → NewRead (l ∷ ls) (r ∷ rs)
unfolding AreRead AreEnded
kept_line l r ls rs old ends more = record {
  reads = r ∷ more.reads;
  are = (old.read, more.are);
  ended = (ends, more.ended);
  marked = λ waits. ap (λ (ns : List Name). (marked_first waits r.line.names ++ marked_by_name r.mark) ++ ns) (more.marked (still_waits waits r.line.names || is_next r.mark));
}

same_lines : (ls : List ListingLine) (rs : List Read) → AreOld ls rs → AreEnded (map text ls) → NewRead ls rs
unfolding AreOld AreRead AreEnded
same_lines [] [] old ended = record { reads = []; are = tt; ended = tt; marked = λ waits. refl }
same_lines [] (r ∷ rs) old ended = absurd old
same_lines (l ∷ ls) [] old ended = absurd old
same_lines (l ∷ ls) (r ∷ rs) old ended = kept_line l r ls rs old.0 ended.0 (same_lines ls rs old.1 ended.1)

unnamed_is : (ns : List Name) → is_unnamed ns ≡ true → ns ≡ []
unnamed_is [] e = refl
unnamed_is (n ∷ ns) e = absurd (true≢false (sym e))

gone_line : (l : ListingLine) (r : Read) (ls : List ListingLine) (rs : List Read) → IsOld l r → l.names ≡ [] → is_op l.statement ≡ true → NewRead ls rs → NewRead ls (r ∷ rs)
gone_line l r ls rs old none op more = record {
  reads = more.reads;
  are = more.are;
  ended = more.ended;
  marked = λ waits. more.marked waits ∙ sym (passed_over waits r rs (ap (λ (b : Bare). b.names) old.read.same ∙ none) (old.unmarked op));
}

without_lines : (n : ℕ) (ls : List ListingLine) (rs : List Read) → AreOld ls rs → are_unnamed n ls ≡ true → AreEnded (map text ls) → NewRead (without n ls) rs
unfolding AreOld AreEnded
without_lines n [] rs old none ended = same_lines [] rs old ended
without_lines zero (l ∷ ls) rs old none ended = same_lines (l ∷ ls) rs old ended
without_lines (suc n) (l ∷ ls) [] old none ended = absurd old
without_lines (suc n) (l ∷ ls) (r ∷ rs) old none ended = elim (cases_Bool (is_op l.statement)) [
  | inl o ↦
      let parts = and_parts (is_unnamed l.names) (are_unnamed n ls) (rw o at none) in
      rw o (gone_line l r (without n ls) rs old.0 (unnamed_is l.names parts.0) o (without_lines n ls rs old.1 parts.1 ended.1))
  | inr o ↦ rw o (kept_line l r (without (suc n) ls) rs old.0 (ends_still l ls (without (suc n) ls) (λ e. ap (without (suc n)) e) ended.0) (without_lines (suc n) ls rs old.1 (rw o at none) ended.1))
]

-- ---- a new instruction's line ----

pub clear_inside : (b : ℕ) → is_clear b ≡ true → is_inside b ≡ true
clear_inside b e = elim (cases_Bool (b == 10)) [
  | inl h ↦ absurd (true≢false (sym (rw h at e)))
  | inr h ↦ rw h refl
]

pub all_inside : (bs : List ℕ) → list_all is_clear bs ≡ true → list_all is_inside bs ≡ true
all_inside [] e = refl
all_inside (b ∷ bs) e = let a = and_parts (is_clear b) (list_all is_clear bs) e in and_from (is_inside b) (list_all is_inside bs) (clear_inside b a.0) (all_inside bs a.1)

pub own_inside : (i : Instr) → names_no_label i ≡ true → list_all is_inside (9 ∷ text_of (shown_of i None)) ≡ true
own_inside i e = all_inside (text_of (shown_of i None)) (canonical_text i e).clear.all

pub own_is : (i : Instr) → own_line i ≡ (9 ∷ text_of (shown_of i None)) ++ 10 ∷ []
unfolding own_line
own_is i = refl

pub own_ends : (i : Instr) → names_no_label i ≡ true → Ends (own_line i)
own_ends i e = subst Ends (sym (own_is i)) (inside_ends (9 ∷ text_of (shown_of i None)) (own_inside i e))

pub whole_ended : (l : Placed) → l.is_ended ≡ true → whole l ≡ l.text ++ 10 ∷ []
whole_ended l e = rw e refl

own_read : (i : Instr) → names_no_label i ≡ true → ReadsAs (own_line i) (unnamed (told_of i) (own_line i))
unfolding ReadsAs
own_read i e n start few =
    let content = content_newline (9 ∷ text_of (shown_of i None)) (own_inside i e) in
    let bytes : content_of (own_line i) ≡ 9 ∷ text_of (shown_of i None) = ap content_of (own_is i) ∙ content.0 in
    let ended : is_ended (own_line i) ≡ true = ap is_ended (own_is i) ∙ content.1 in
    let all : whole (placed n start (own_line i)) ≡ own_line i = whole_ended (placed n start (own_line i)) ended ∙ ap (λ (w : List ℕ). w ++ 10 ∷ []) bytes ∙ sym (own_is i) in
    canonical_line_checked i (placed n start (own_line i)) e (inr bytes) few ∙ ap (λ (w : List ℕ). Ok (unnamed (told_of i) w)) all

own_lines : (is : List Instr) (ls : List ListingLine) (rs : List Read) → list_all names_no_label is ≡ true → NewRead ls rs → NewRead (map (new_line own_line) is ++ ls) rs
unfolding AreRead AreEnded
own_lines [] ls rs e more = more
own_lines (i ∷ is) ls rs e more =
    let a = and_parts (names_no_label i) (list_all names_no_label is) e in
    let next = own_lines is ls rs a.1 more in
    let r : Read = unnamed (told_of i) (own_line i) in
    record {
      reads = r ∷ next.reads;
      are = (record { same = refl; reads = own_read i a.0 }, next.are);
      ended = (inl (own_ends i a.0), next.ended);
      marked = λ waits. passed_over waits r next.reads refl refl ∙ next.marked waits;
    }

-- ---- the labels of the first instruction's line ----

label_lines : (l : ListingLine) (r : Read) (ns : List Name) (ls : List ListingLine) (rs : List Read) → l.names ≡ ns → IsOld l r → is_op l.statement ≡ true → NewRead ls rs → NewRead (labels_kept l ns ++ ls) (r ∷ rs)
unfolding AreRead AreEnded
label_lines l r [] ls rs e old op more = gone_line l r ls rs old e op more
label_lines l r (n ∷ ns) ls rs e old op more =
    let front : FrontReads (n ∷ ns) l.front = subst (λ (ms : List Name). FrontReads ms l.front) e (old.front (λ none. absurd (let bad : n ∷ ns ≡ [] = sym e ∙ none in cc))) in
    record {
      reads = labels_only (n ∷ ns) l.front l.front ∷ more.reads;
      are = (record { same = refl; reads = front.reads }, more.are);
      ended = (inl front.ends, more.ended);
      marked = λ waits.
          ap (λ (ms : List Name). (marked_first waits (n ∷ ns) ++ []) ++ ms) (more.marked (still_waits waits (n ∷ ns) || false))
          ∙ sym (unmarked waits r rs (n ∷ ns) (ap (λ (b : Bare). b.names) old.read.same ∙ e) (old.unmarked op));
    }

nothing_replaced : (write : Instr → List ℕ) (p n : ℕ) (is : List Instr) (ls : List ListingLine) → ls ≡ [] → replaced_lines write p n is ls ≡ []
nothing_replaced write p n is ls e = ap (replaced_lines write p n is) e

new_lines : (n p : ℕ) (is : List Instr) (ls : List ListingLine) (rs : List Read) → list_all names_no_label is ≡ true → AreOld ls rs → gone_unnamed p n ls ≡ true → AreEnded (map text ls) → NewRead (replaced_lines own_line p (suc n) is ls) rs
unfolding AreOld AreEnded
new_lines n p is [] rs plain old none ended = same_lines [] rs old ended
new_lines n p is (l ∷ ls) [] plain old none ended = absurd old
new_lines n p is (l ∷ ls) (r ∷ rs) plain old none ended = elim (cases_Bool (is_op l.statement && (p == 0))) [
  | inl o ↦
      let op = (and_parts (is_op l.statement) (p == 0) o).0 in
      let behind : NewRead (without (suc n - 1) ls) rs = subst (λ (k : ℕ). NewRead (without k ls) rs) (let e : n ≡ suc n - 1 = omega arith in e) (without_lines n ls rs old.1 (rw o at none) ended.1) in
      rw o (label_lines l r l.names (map (new_line own_line) is ++ without (suc n - 1) ls) rs refl old.0 op (own_lines is (without (suc n - 1) ls) rs plain behind))
  | inr o ↦
      let q : ℕ = p - length (places_in l.statement) in
      rw o (kept_line l r (replaced_lines own_line q (suc n) is ls) rs old.0 (ends_still l ls (replaced_lines own_line q (suc n) is ls) (nothing_replaced own_line q (suc n) is ls) ended.0)
      (new_lines n q is ls rs plain old.1 (rw o at none) ended.1))
]

-- ---- all ----

listed_again : (bytes : List ℕ) (lines : List ListingLine) (place n : ℕ) (is : List Instr) (new : List ListingLine) → IsListing bytes lines → new ≡ replaced_lines own_line place (suc n) is lines
    → ((k : ℕ) → k < suc n → is_op_place (slice_get (places_of lines) (place + k)) ≡ true) → list_all names_no_label is ≡ true → KeepsCode lines new → length new ≤ most_lines → IsListing (text_of_lines new) new
listed_again bytes lines place n is new h e ops plain kept few =
    let window : IsWindow place n (places_of lines) = are_ops (suc n) (drop place (places_of lines)) (λ k less. ap is_op_place (get_drop place (places_of lines) k (place + k) refl) ∙ ops k less) in
    let replaced : List ListingLine = replaced_lines own_line place (suc n) is lines in
    let kept' : KeepsCode lines replaced = subst (KeepsCode lines) e kept in
    let once = once_none lines h.once in
    let still : DefineOnce replaced = still_once own_line place (suc n) is lines h.once in
    let again = once_none replaced still in
    let old = old_read (lines_of bytes) 1 0 h.reads lines (map-whole bytes 1 0) h.are.read h.are.same in
    let gone = gone_from own_line n place is 1 [] lines once window (λ name o. sym (code_opens name replaced again) ∙ kept' name (code_opens name lines once ∙ o)) in
    let read = new_lines n place is lines h.reads plain old.old gone (subst AreEnded (sym old.texts) (text_ended bytes)) in
    let split = joined_split replaced read.ended in
    let size : 1 + length replaced ≤ most_lines + 1 = let k = ap (λ (ls : List ListingLine). length ls) e in omega arith in
    let is_listing : IsListing (text_of_lines replaced) replaced =
    record {
      reads = read.reads;
      are = record { read = ap (λ (ts : List (List ℕ)). read_lines (placed_from 1 0 ts)) split ∙ all_read replaced read.reads 1 0 read.are size; same = all_same replaced read.reads read.are };
      once = still;
      aimed =
          ap (λ (marked : List Name). first_target replaced marked 1 replaced) (read.marked false)
          ∙ still_aimed own_line lines replaced (functions false h.reads) n place 1 1 is lines (keeps own_line n place is lines once again window kept') h.aimed;
    } in
    subst (λ (ls : List ListingLine). IsListing (text_of_lines ls) ls) (sym e) is_listing

pub replaced_reads_again : ReplacedReadsAgain
replaced_reads_again bytes lines place zero is new h a = absurd (let one : 1 ≤ 0 = a.some in omega arith)
replaced_reads_again bytes lines place (suc n) is new h a = listed_again bytes lines place n is new h a.are a.window a.plain a.kept a.few
