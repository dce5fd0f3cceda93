-- Lines that have room stay few and short when an instruction is removed or a branch is redirected.
use Rattle.std.proofs.Common.{◌≡◌, ◌∙◌, ℕ, zero, suc, ◌+◌, ◌-◌, ◌≤◌, ◌==◌, ◌&&◌, Bool, true, false, List, [], ◌∷◌, ◌++◌, length, map, take, Option, Some, refl, sym, ap, subst, inl, inr, arith, ne_eqb, if◌then◌else◌}
use Rattle.std.specs.Prelude.{slice_get}
use Rattle.std.proofs.lemmas.Bool.{cases_Bool}
use Rattle.std.proofs.lemmas.Option.{same_Some}
use Rattle.thumb_instr.specs.declared.instr.Instr.{Instr}
use Rattle.thumb_model.specs.Listing.{Name, Mention, Statement, Instruction, Words, ListingLine, Op, places_in, places_of}
use Rattle.thumb_model.specs.Replaced.{is_op, labels_kept, replaced_lines, without}
use Rattle.listing_parser.specs.declared.line.ListingLine.{ListingLine as Lines}
use Rattle.listing_parser.specs.Grammar.{front_of}
use Rattle.listing_parser.specs.Targets.{aimed, aimed_line, aimed_lines, own_bytes}
use Rattle.listing_parser.specs.Views.{line_view, names_view}
use Rattle.flow_tidy.specs.Tidying.{line_length}
use Rattle.flow_tidy.specs.Made.{AreShort}
use Rattle.flow_tidy.specs.Quick.{counts_for, room_taken, some_name, AllShort, HaveRoom}
use Rattle.flow_tidy.proofs.Aimed.{past_words, to_label}
use Rattle.thumb_model.proofs.Cuts.{without_none as left_out}

pub get_short : (longest : ℕ) (ls : List ListingLine) (k : ℕ) (l : ListingLine) → AllShort longest ls → slice_get ls k ≡ Some l → line_length l.text ≤ longest
get_short longest [] k l h e = absurd (cc)
get_short longest (m ∷ ls) zero l h e = subst (λ (x : ListingLine). line_length x.text ≤ longest) (same_Some m l e) h.0
get_short longest (m ∷ ls) (suc k) l h e = get_short longest ls k l h.2 e

counts_one : (l : ListingLine) → 1 ≤ counts_for l
counts_one l = elim (is_op l.statement && some_name l.names) as (λ b. 1 ≤ (if b then 2 else 1)) [ true ↦ omega arith | false ↦ omega arith ]

pub counts_few : (l : ListingLine) → counts_for l ≤ 2
counts_few l = elim (is_op l.statement && some_name l.names) as (λ b. (if b then 2 else 1) ≤ 2) [ true ↦ omega arith | false ↦ omega arith ]

pub lines_few : (ls : List ListingLine) → length ls ≤ room_taken ls
lines_few [] = omega arith
lines_few (l ∷ ls) = let r = lines_few ls in let o = counts_one l in omega arith

-- ---- a removed instruction ----

kept_room : (l : ListingLine) (ns : List Name) (rest : List ListingLine) → room_taken (labels_kept l ns ++ rest) ≤ (if some_name ns then 2 else 1) + room_taken rest
kept_room l [] rest = omega arith
kept_room l (n ∷ ns) rest = omega arith

kept_short : (longest : ℕ) (l : ListingLine) (ns : List Name) (rest : List ListingLine) → line_length l.front ≤ longest → AllShort longest rest → AllShort longest (labels_kept l ns ++ rest)
kept_short longest l [] rest f h = h
kept_short longest l (n ∷ ns) rest f h = (f, f, h)

abbrev one_or_two : Bool → ℕ
one_or_two b = if b then 2 else 1

only_op : (a b c : Bool) → (a && b) ≡ true → one_or_two (a && c) ≡ one_or_two c
only_op true b c e = refl
only_op false b c e = absurd (cc)

room_left : (write : Instr → List ℕ) (p : ℕ) (ls : List ListingLine) → room_taken (replaced_lines write p 1 [] ls) ≤ room_taken ls
room_left write p [] = omega arith
room_left write p (l ∷ ls) = elim (cases_Bool (is_op l.statement && (p == 0))) [
  | inl h ↦ rw h (
      let k = kept_room l l.names (without (1 - 1) ls) in
      let r : room_taken (without (1 - 1) ls) ≡ room_taken ls = ap room_taken (left_out ls) in
      let o = only_op (is_op l.statement) (p == 0) (some_name l.names) h in
      omega arith)
  | inr h ↦ rw h (let r = room_left write (p - length (places_in l.statement)) ls in omega arith)
]

short_left : (longest : ℕ) (write : Instr → List ℕ) (p : ℕ) (ls : List ListingLine) → AllShort longest ls → AllShort longest (replaced_lines write p 1 [] ls)
short_left longest write p [] h = tt
short_left longest write p (l ∷ ls) h = elim (cases_Bool (is_op l.statement && (p == 0))) [
  | inl e ↦ rw e (kept_short longest l l.names (without (1 - 1) ls) h.1 (subst (AllShort longest) (sym (left_out ls)) h.2))
  | inr e ↦ rw e (h.0, h.1, short_left longest write (p - length (places_in l.statement)) ls h.2)
]

pub have_left : (most longest : ℕ) (write : Instr → List ℕ) (p : ℕ) (ls : List ListingLine) → HaveRoom most longest ls → HaveRoom most longest (replaced_lines write p 1 [] ls)
have_left most longest write p ls h = record { few = let r = room_left write p ls in let f = h.few in omega arith; short = short_left longest write p ls h.short }

-- ---- a redirected branch ----

bare_one : (b : Bool) → one_or_two (b && false) ≡ 1
bare_one true = refl
bare_one false = refl

turned_room : (l : ListingLine) (ns : List Name) (x : ListingLine) (rest : List ListingLine) → counts_for x ≡ 1 → room_taken (labels_kept l ns ++ (x ∷ rest)) ≤ one_or_two (some_name ns) + room_taken rest
turned_room l [] x rest e = omega arith
turned_room l (n ∷ ns) x rest e = omega arith

room_aimed : (write : Instr → Option Mention → List ℕ) (to : Name) (p : ℕ) (ls : List ListingLine) → room_taken (aimed_lines write p to ls) ≤ room_taken ls
room_aimed write to p [] = omega arith
room_aimed write to p (l ∷ ls) = elim (cases_Bool (is_op l.statement && (p == 0))) [
  | inl h ↦ rw h (
      let t = turned_room l l.names (aimed_line write to l) ls (bare_one (is_op (aimed to l.statement))) in
      let o = only_op (is_op l.statement) (p == 0) (some_name l.names) h in
      omega arith)
  | inr h ↦ rw h (let r = room_aimed write to (p - length (places_in l.statement)) ls in omega arith)
]

module _ (longest : ℕ) (write : Instr → Option Mention → List ℕ) (to : Name) (i : Instr) (m : Option Mention) (short : line_length (write i (Some (to_label to))) ≤ longest) where
  abbrev ShortRec : List ListingLine → Type 0
  ShortRec ls = (p : ℕ) → slice_get (places_of ls) p ≡ Some (Op i m) → AllShort longest ls → AllShort longest (aimed_lines write p to ls)

  short_behind : (l : ListingLine) (s : Statement) (ls : List ListingLine) (p q : ℕ) → ShortRec ls → p ≡ length (places_in s) + q → slice_get (places_of ls) q ≡ Some (Op i m) → AllShort longest (l ∷ ls) → AllShort longest (l ∷ aimed_lines write (p - length (places_in s)) to ls)
  short_behind l s ls p q rec e f h = (h.0, h.1, subst (λ n. AllShort longest (aimed_lines write n to ls)) (let z : q ≡ p - length (places_in s) = omega arith in z) (rec q f h.2))

  short_step : (l : ListingLine) (s : Statement) (ls : List ListingLine) (p : ℕ) → l.statement ≡ s → ShortRec ls → slice_get (places_in s ++ places_of ls) p ≡ Some (Op i m) → AllShort longest (l ∷ ls)
      → AllShort longest (if is_op s && (p == 0) then labels_kept l l.names ++ (aimed_line write to l ∷ ls) else l ∷ aimed_lines write (p - length (places_in s)) to ls)
  short_step l (Words vs) ls p e rec f h = let r = past_words vs (places_of ls) p i m f in short_behind l (Words vs) ls p r.0 rec r.1 r.2 h
  short_step l (Instruction j k) ls zero e rec f h =
      let same : Op j k ≡ Op i m = same_Some (Op j k) (Op i m) f in
      let is : j ≡ i = cc in
      let text : own_bytes write (aimed to l.statement) ≡ write i (Some (to_label to)) = ap (λ (s : Statement). own_bytes write (aimed to s)) e ∙ ap (λ (x : Instr). write x (Some (to_label to))) is in
      kept_short longest l l.names (aimed_line write to l ∷ ls) h.1 (subst (λ (bs : List ℕ). line_length bs ≤ longest) (sym text) short, omega arith, h.2)
  short_step l (Instruction j k) ls (suc p) e rec f h =
      subst (λ b. AllShort longest (if b then labels_kept l l.names ++ (aimed_line write to l ∷ ls) else l ∷ aimed_lines write (suc p - 1) to ls)) (sym (ne_eqb (suc p) 0 (λ z. absurd (omega arith))))
      (short_behind l (Instruction j k) ls (suc p) p rec (omega arith) f h)
  short_step l s ls p e rec f h = short_behind l s ls p p rec (omega arith) f h

  short_aimed : (ls : List ListingLine) → ShortRec ls
  short_aimed [] p f h = h
  short_aimed (l ∷ ls) p f h = short_step l l.statement ls p refl (short_aimed ls) f h

pub have_aimed : (most longest : ℕ) (write : Instr → Option Mention → List ℕ) (to : Name) (p : ℕ) (ls : List ListingLine) (i : Instr) (m : Option Mention) → slice_get (places_of ls) p ≡ Some (Op i m) → line_length (write i (Some (to_label to))) ≤ longest
    → HaveRoom most longest ls → HaveRoom most longest (aimed_lines write p to ls)
have_aimed most longest write to p ls i m e s h = record { few = let r = room_aimed write to p ls in let f = h.few in omega arith; short = short_aimed longest write to i m s ls p e h.short }

-- ---- lines as they are read ----

front_short : (n : ℕ) (text : List ℕ) → line_length (take n text ++ 10 ∷ []) ≤ line_length text
front_short zero text = omega arith
front_short (suc n) [] = omega arith
front_short (suc n) (b ∷ bs) =
    let r = front_short n bs in
    elim (b == 10) as (λ t. (if t then 0 else line_length (take n bs ++ 10 ∷ []) + 1) ≤ (if t then 0 else line_length bs + 1)) [ true ↦ omega arith | false ↦ omega arith ]

labels_short : (longest : ℕ) (ns : List Name) (n : ℕ) (text : List ℕ) → line_length text ≤ longest → line_length (front_of ns n text) ≤ longest
labels_short longest [] n text h = omega arith
labels_short longest (name ∷ names) n text h = let r = front_short n text in omega arith

pub short_lines : (longest : ℕ) (ls : List Lines) → AreShort longest (map line_view ls) → AllShort longest (map line_view ls)
short_lines longest [] h = tt
short_lines longest (l ∷ ls) h =
    let here : line_length l.text.items ≤ longest = h 0 (line_view l) refl in
    (here, labels_short longest (names_view l) l.front l.text.items here, short_lines longest ls (λ k m e. h (suc k) m e))

pub room_more : (ls : List ListingLine) (i : ℕ) (l : ListingLine) → slice_get ls i ≡ Some l → room_taken (take (suc i) ls) ≡ room_taken (take i ls) + counts_for l
room_more [] i l e = absurd (cc)
room_more (m ∷ ls) zero l e = let s : counts_for m ≡ counts_for l = ap counts_for (same_Some m l e) in omega arith
room_more (m ∷ ls) (suc i) l e = let r = room_more ls i l e in omega arith

pub room_all : (ls : List ListingLine) (i : ℕ) → length ls ≤ i → room_taken (take i ls) ≡ room_taken ls
room_all [] zero h = refl
room_all [] (suc i) h = refl
room_all (l ∷ ls) zero h = absurd (omega arith)
room_all (l ∷ ls) (suc i) h = let r = room_all ls i (omega arith) in omega arith
