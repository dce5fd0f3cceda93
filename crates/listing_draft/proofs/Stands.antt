-- What stands in the lines of a draft at a kept place: what was given there, with the label that it goes to now.
use Rattle.std.proofs.Common.{◌≡◌, ◌∙◌, inl, inr, ℕ, zero, suc, ◌+◌, ◌-◌, ◌<◌, ◌≤◌, Bool, true, false, List, [], ◌∷◌, ◌++◌, length, drop, map, Option, Some, None, refl, sym, ap, arith, if◌then◌else◌}
use Rattle.std.specs.Prelude.{slice_get}
use Rattle.std.proofs.lemmas.Bool.{cases_lt}
use Rattle.thumb_instr.specs.declared.instr.Instr.{Instr}
use Rattle.thumb_model.specs.Listing.{Name, Mention, Value, Statement, Nothing, Instruction, Words, Aligns, Sets, ListingLine, Place, Op, Word, places_in, places_of, is_op_place}
use Rattle.thumb_model.specs.Replaced.{is_op, labels_kept}
use Rattle.thumb_model.proofs.Lists.{get_back}
use Rattle.kept_places.specs.Marks.{is_gone, rank}
use Rattle.kept_places.proofs.Ranks.{rank_zero}
use Rattle.listing_parser.specs.Parsing.{line_mentioning}
use Rattle.listing_parser.specs.Targets.{aimed_line}
use Rattle.listing_draft.specs.Drafted.{aim_at, line_now, now_of}
use Rattle.listing_draft.proofs.Ranks.{OpsGone, aim_drop, gone_drop, ops_behind, others_kept, rank_behind_gone, rank_behind_kept, rank_drop}
use Rattle.thumb_model.proofs.LinesReplaced.{kept_places as labels_no_places}
use Rattle.common_lemmas.proofs.Lists.{get_front}

-- an instruction with the label that it goes to now
abbrev pub op_now : Option Name → Instr → Option Mention → Place
op_now None i m = Op i m
op_now (Some label) i m = Op i (Some (record { name = label; plus = 0 }))

abbrev pub aimed_to : Option Place → Option Name → Option Place
aimed_to None a = None
aimed_to (Some (Op i m)) a = Some (op_now a i m)
aimed_to (Some (Word v)) a = Some (Word v)

pub same_op : (o : Option Place) (a : Option Name) → is_op_place (aimed_to o a) ≡ is_op_place o
same_op None a = refl
same_op (Some (Op i m)) None = refl
same_op (Some (Op i m)) (Some label) = refl
same_op (Some (Word v)) a = refl

-- ---- the places of an instruction's line ----

branch_places : (label : Name) (l : ListingLine) (ns : List Name) (i : Instr) (m : Option Mention) (rest : List ListingLine) → l.statement ≡ Instruction i m
    → places_of ((labels_kept l ns ++ (aimed_line line_mentioning label l ∷ [])) ++ rest) ≡ op_now (Some label) i m ∷ places_of rest
branch_places label l [] i m rest e = rw e refl
branch_places label l (n ∷ ns) i m rest e = rw e refl

pub kept_places : (a : Option Name) (l : ListingLine) (i : Instr) (m : Option Mention) (rest : List ListingLine) → l.statement ≡ Instruction i m → places_of (line_now false a l ++ rest) ≡ op_now a i m ∷ places_of rest
kept_places None l i m rest e = rw e refl
kept_places (Some label) l i m rest e = branch_places label l l.names i m rest e

-- ---- all places ----

abbrev StandsRec : List ListingLine → Type 0
StandsRec ls = (gone : List Bool) (aims : List (Option Name)) (p : ℕ) → OpsGone gone (places_of ls) → is_gone gone p ≡ false → slice_get (places_of (now_of gone aims ls)) (rank gone p) ≡ aimed_to (slice_get (places_of ls) p) (aim_at aims p)

op_stands : (l : ListingLine) (i : Instr) (m : Option Mention) (ls : List ListingLine) → l.statement ≡ Instruction i m → StandsRec ls → (gone : List Bool) (aims : List (Option Name)) (p : ℕ) (g : Bool) → is_gone gone 0 ≡ g → OpsGone gone (Op i m ∷ places_of ls) → is_gone gone p ≡ false
    → slice_get (places_of (line_now g (aim_at aims 0) l ++ now_of (drop 1 gone) (drop 1 aims) ls)) (rank gone p) ≡ aimed_to (slice_get (Op i m ∷ places_of ls) p) (aim_at aims p)
op_stands l i m ls e rec gone aims zero true f h k = let no : true ≡ false = sym f ∙ k in absurd (cc)
op_stands l i m ls e rec gone aims zero false f h k =
    ap (λ ps. slice_get ps (rank gone 0)) (kept_places (aim_at aims 0) l i m (now_of (drop 1 gone) (drop 1 aims) ls) e)
    ∙ ap (slice_get (op_now (aim_at aims 0) i m ∷ places_of (now_of (drop 1 gone) (drop 1 aims) ls))) (rank_zero gone)
op_stands l i m ls e rec gone aims (suc p) true f h k =
    ap (λ ps. slice_get ps (rank gone (suc p))) (labels_no_places l l.names (now_of (drop 1 gone) (drop 1 aims) ls))
    ∙ ap (slice_get (places_of (now_of (drop 1 gone) (drop 1 aims) ls))) (rank_behind_gone gone p f)
    ∙ rec (drop 1 gone) (drop 1 aims) p (ops_behind (Op i m ∷ []) (places_of ls) gone h) (gone_drop 1 gone p (suc p) (omega arith) ∙ k)
    ∙ ap (aimed_to (slice_get (places_of ls) p)) (aim_drop 1 aims p (suc p) (omega arith))
op_stands l i m ls e rec gone aims (suc p) false f h k =
    ap (λ ps. slice_get ps (rank gone (suc p))) (kept_places (aim_at aims 0) l i m (now_of (drop 1 gone) (drop 1 aims) ls) e)
    ∙ ap (slice_get (op_now (aim_at aims 0) i m ∷ places_of (now_of (drop 1 gone) (drop 1 aims) ls))) (rank_behind_kept gone p f)
    ∙ rec (drop 1 gone) (drop 1 aims) p (ops_behind (Op i m ∷ []) (places_of ls) gone h) (gone_drop 1 gone p (suc p) (omega arith) ∙ k)
    ∙ ap (aimed_to (slice_get (places_of ls) p)) (aim_drop 1 aims p (suc p) (omega arith))

-- a place that is no instruction's is as it was given
word_same : (vs : List Value) (ys : List Place) (a : Option Name) (k : ℕ) → k < length (map Word vs) → slice_get (map Word vs ++ ys) k ≡ aimed_to (slice_get (map Word vs ++ ys) k) a
word_same [] ys a k h = absurd (omega arith)
word_same (v ∷ vs) ys a zero h = refl
word_same (v ∷ vs) ys a (suc k) h = word_same vs ys a k (omega arith)

other_same : (s : Statement) (ys : List Place) (a : Option Name) (k : ℕ) → is_op s ≡ false → k < length (places_in s) → slice_get (places_in s ++ ys) k ≡ aimed_to (slice_get (places_in s ++ ys) k) a
other_same Nothing ys a k e h = absurd (omega arith)
other_same (Instruction i m) ys a k e h = absurd (cc)
other_same (Words vs) ys a k e h = word_same vs ys a k h
other_same (Aligns size most) ys a k e h = absurd (omega arith)
other_same (Sets name address) ys a k e h = absurd (omega arith)

-- up to a place before which all are kept a rank is the place
rank_first : (gone : List Bool) (n p : ℕ) → p ≤ n → ((k : ℕ) → k < n → is_gone gone k ≡ false) → rank gone p ≡ p
rank_first gone n p h k = let r = rank_drop p gone 0 p (omega arith) (λ j l. k j (omega arith)) in let z = rank_zero (drop p gone) in omega arith

other_stands : (s : Statement) (ls : List ListingLine) → is_op s ≡ false → StandsRec ls → (gone : List Bool) (aims : List (Option Name)) (p : ℕ) → OpsGone gone (places_in s ++ places_of ls) → is_gone gone p ≡ false
    → slice_get (places_in s ++ places_of (now_of (drop (length (places_in s)) gone) (drop (length (places_in s)) aims) ls)) (rank gone p) ≡ aimed_to (slice_get (places_in s ++ places_of ls) p) (aim_at aims p)
other_stands s ls e rec gone aims p h k =
    let n : ℕ = length (places_in s) in
    let kept = others_kept s (places_of ls) gone e h in
    let rest : List Place = places_of (now_of (drop n gone) (drop n aims) ls) in
    elim (cases_lt p n) [
      | inl l ↦
          ap (slice_get (places_in s ++ rest)) (rank_first gone n p (omega arith) kept)
          ∙ get_front (places_in s) rest p l
          ∙ sym (get_front (places_in s) (places_of ls) p l)
          ∙ other_same s (places_of ls) (aim_at aims p) p e l
      | inr g ↦ (
          let q : ℕ = p - n in
          let is : p ≡ n + q = omega arith in
          get_back (places_in s) rest (rank (drop n gone) q) (rank gone p) (rank_drop n gone q p is kept)
          ∙ rec (drop n gone) (drop n aims) q (ops_behind (places_in s) (places_of ls) gone h) (gone_drop n gone q p is ∙ k)
          ∙ ap (λ o. aimed_to o (aim_at (drop n aims) q)) (sym (get_back (places_in s) (places_of ls) q p is))
          ∙ ap (aimed_to (slice_get (places_in s ++ places_of ls) p)) (aim_drop n aims q p is))
    ]

line_stands : (l : ListingLine) (s : Statement) (ls : List ListingLine) → l.statement ≡ s → StandsRec ls → (gone : List Bool) (aims : List (Option Name)) (p : ℕ) → OpsGone gone (places_in s ++ places_of ls) → is_gone gone p ≡ false
    → slice_get (places_of (if is_op s then line_now (is_gone gone 0) (aim_at aims 0) l ++ now_of (drop 1 gone) (drop 1 aims) ls else l ∷ now_of (drop (length (places_in s)) gone) (drop (length (places_in s)) aims) ls)) (rank gone p)
    ≡ aimed_to (slice_get (places_in s ++ places_of ls) p) (aim_at aims p)
line_stands l (Instruction i m) ls e rec gone aims p h k = op_stands l i m ls e rec gone aims p (is_gone gone 0) refl h k
line_stands l Nothing ls e rec gone aims p h k = ap (λ x. slice_get (places_in x ++ places_of (now_of gone aims ls)) (rank gone p)) e ∙ other_stands Nothing ls refl rec gone aims p h k
line_stands l (Words vs) ls e rec gone aims p h k = ap (λ x. slice_get (places_in x ++ places_of (now_of (drop (length (map Word vs)) gone) (drop (length (map Word vs)) aims) ls)) (rank gone p)) e ∙ other_stands (Words vs) ls refl rec gone aims p h k
line_stands l (Aligns size most) ls e rec gone aims p h k = ap (λ x. slice_get (places_in x ++ places_of (now_of gone aims ls)) (rank gone p)) e ∙ other_stands (Aligns size most) ls refl rec gone aims p h k
line_stands l (Sets name address) ls e rec gone aims p h k = ap (λ x. slice_get (places_in x ++ places_of (now_of gone aims ls)) (rank gone p)) e ∙ other_stands (Sets name address) ls refl rec gone aims p h k

-- what stands at a kept place in the lines now
pub stands_at : (ls : List ListingLine) → StandsRec ls
stands_at [] gone aims p h k = refl
stands_at (l ∷ ls) gone aims p h k = line_stands l l.statement ls refl (stands_at ls) gone aims p h k
