-- The lines of a draft once an instruction is removed: its labels stay.
use Rattle.std.proofs.Common.{◌≡◌, ◌∙◌, ℕ, zero, suc, ◌+◌, ◌-◌, ◌<◌, ◌==◌, ◌&&◌, Bool, true, false, List, [], ◌∷◌, ◌++◌, length, drop, map, Option, Some, None, refl, sym, ap, arith, ne_eqb, if◌then◌else◌}
use Rattle.std.specs.Prelude.{slice_get, slice_set}
use Rattle.thumb_instr.specs.declared.instr.Instr.{Instr}
use Rattle.thumb_model.specs.Listing.{Name, Mention, Statement, Nothing, Instruction, Words, Aligns, Sets, ListingLine, Op, places_in, places_of, is_op_place}
use Rattle.thumb_model.specs.Replaced.{is_op, labels_kept, new_line, replaced_lines, without}
use Rattle.thumb_model.proofs.Lists.{length_drop}
use Rattle.kept_places.specs.Marks.{is_gone, rank}
use Rattle.listing_parser.specs.Parsing.{line_mentioning}
use Rattle.listing_parser.specs.Targets.{aimed_line}
use Rattle.listing_draft.specs.Drafted.{aim_at, line_now, now_of}
use Rattle.listing_draft.proofs.Ranks.{OpsGone, drop_set, gone_drop, op_behind, ops_behind, others_kept, rank_drop}

module _ (write : Instr → List ℕ) where
  abbrev left : ℕ → List ListingLine → List ListingLine
  left r ls = replaced_lines write r 1 [] ls

  none_left_out : (ls : List ListingLine) → without 0 ls ≡ ls
  none_left_out [] = refl
  none_left_out (l ∷ ls) = refl

  -- past a line that has no places
  past_labels : (l : ListingLine) (ns : List Name) (r : ℕ) (rest : List ListingLine) → left r (labels_kept l ns ++ rest) ≡ labels_kept l ns ++ left r rest
  past_labels l [] r rest = refl
  past_labels l (n ∷ ns) r rest = ap (λ k. labels_kept l (n ∷ ns) ++ left k rest) (let e : r - 0 ≡ r = omega arith in e)

  -- at an instruction
  head_goes : (l : ListingLine) (i : Instr) (m : Option Mention) (rest : List ListingLine) → l.statement ≡ Instruction i m → left 0 (l ∷ rest) ≡ labels_kept l l.names ++ rest
  head_goes l i m rest e = rw e (ap (λ x. labels_kept l l.names ++ x) (none_left_out rest))

  branch_goes : (label : Name) (l : ListingLine) (ns : List Name) (i : Instr) (m : Option Mention) (rest : List ListingLine) → l.statement ≡ Instruction i m
      → left 0 ((labels_kept l ns ++ (aimed_line line_mentioning label l ∷ [])) ++ rest) ≡ labels_kept l ns ++ rest
  branch_goes label l [] i m rest e = rw e (none_left_out rest)
  branch_goes label l (n ∷ ns) i m rest e = rw e (ap (λ x. labels_kept l (n ∷ ns) ++ x) (none_left_out rest))

  first_goes : (a : Option Name) (l : ListingLine) (i : Instr) (m : Option Mention) (rest : List ListingLine) → l.statement ≡ Instruction i m → left 0 (line_now false a l ++ rest) ≡ labels_kept l l.names ++ rest
  first_goes None l i m rest e = head_goes l i m rest e
  first_goes (Some label) l i m rest e = branch_goes label l l.names i m rest e

  -- past an instruction
  past_op : (l : ListingLine) (i : Instr) (m : Option Mention) (r : ℕ) (rest : List ListingLine) → l.statement ≡ Instruction i m → left (suc r) (l ∷ rest) ≡ l ∷ left r rest
  past_op l i m r rest e =
      ap (λ s. if is_op s && (suc r == 0) then labels_kept l l.names ++ (map (new_line write) [] ++ without (1 - 1) rest) else l ∷ left (suc r - length (places_in s)) rest) e
      ∙ ap (λ b. if b then labels_kept l l.names ++ (map (new_line write) [] ++ without (1 - 1) rest) else l ∷ left (suc r - 1) rest) (ne_eqb (suc r) 0 (λ z. absurd (omega arith)))
      ∙ ap (λ k. (let x : List ListingLine = l ∷ left k rest in x)) (let h : suc r - 1 ≡ r = omega arith in h)

  past_branch : (label : Name) (l : ListingLine) (ns : List Name) (i : Instr) (m : Option Mention) (r : ℕ) (rest : List ListingLine) → l.statement ≡ Instruction i m
      → left (suc r) ((labels_kept l ns ++ (aimed_line line_mentioning label l ∷ [])) ++ rest) ≡ (labels_kept l ns ++ (aimed_line line_mentioning label l ∷ [])) ++ left r rest
  past_branch label l [] i m r rest e = past_op (aimed_line line_mentioning label l) i (Some (record { name = label; plus = 0 })) r rest (rw e refl)
  past_branch label l (n ∷ ns) i m r rest e =
      past_labels l (n ∷ ns) (suc r) (aimed_line line_mentioning label l ∷ rest)
      ∙ ap (λ x. labels_kept l (n ∷ ns) ++ x) (past_op (aimed_line line_mentioning label l) i (Some (record { name = label; plus = 0 })) r rest (rw e refl))

  past_first : (a : Option Name) (l : ListingLine) (i : Instr) (m : Option Mention) (r : ℕ) (rest : List ListingLine) → l.statement ≡ Instruction i m → left (suc r) (line_now false a l ++ rest) ≡ line_now false a l ++ left r rest
  past_first None l i m r rest e = past_op l i m r rest e
  past_first (Some label) l i m r rest e = past_branch label l l.names i m r rest e

  past_other : (l : ListingLine) (s : Statement) (r q : ℕ) (rest : List ListingLine) → l.statement ≡ s → is_op s ≡ false → r ≡ length (places_in s) + q → left r (l ∷ rest) ≡ l ∷ left q rest
  past_other l s r q rest e f g =
      ap (λ x. if is_op x && (r == 0) then labels_kept l l.names ++ (map (new_line write) [] ++ without (1 - 1) rest) else l ∷ left (r - length (places_in x)) rest) e
      ∙ ap (λ b. if b && (r == 0) then labels_kept l l.names ++ (map (new_line write) [] ++ without (1 - 1) rest) else l ∷ left (r - length (places_in s)) rest) f
      ∙ ap (λ k. (let x : List ListingLine = l ∷ left k rest in x)) (let h : r - length (places_in s) ≡ q = omega arith in h)

  -- ---- all lines ----

  abbrev LeftRec : List ListingLine → Type 0
  LeftRec ls = (gone : List Bool) (aims : List (Option Name)) (p : ℕ) → OpsGone gone (places_of ls) → is_gone gone p ≡ false → p < length gone → is_op_place (slice_get (places_of ls) p) ≡ true
      → now_of (slice_set gone p true) aims ls ≡ left (rank gone p) (now_of gone aims ls)

  op_left : (l : ListingLine) (i : Instr) (m : Option Mention) (ls : List ListingLine) → l.statement ≡ Instruction i m → LeftRec ls → (gone : List Bool) (aims : List (Option Name)) (p : ℕ) → OpsGone gone (Op i m ∷ places_of ls) → is_gone gone p ≡ false → p < length gone
      → is_op_place (slice_get (Op i m ∷ places_of ls) p) ≡ true
      → line_now (is_gone (slice_set gone p true) 0) (aim_at aims 0) l ++ now_of (drop 1 (slice_set gone p true)) (drop 1 aims) ls ≡ left (rank gone p) (line_now (is_gone gone 0) (aim_at aims 0) l ++ now_of (drop 1 gone) (drop 1 aims) ls)
  op_left l i m ls e rec [] aims p o k h f = absurd (omega arith)
  op_left l i m ls e rec (true ∷ gs) aims zero o k h f = absurd (cc)
  op_left l i m ls e rec (false ∷ gs) aims zero o k h f = sym (first_goes (aim_at aims 0) l i m (now_of gs (drop 1 aims) ls) e)
  op_left l i m ls e rec (true ∷ gs) aims (suc p) o k h f =
      ap (λ x. labels_kept l l.names ++ x) (rec gs (drop 1 aims) p (ops_behind (Op i m ∷ []) (places_of ls) (true ∷ gs) o) k (omega arith) f)
      ∙ sym (past_labels l l.names (rank gs p) (now_of gs (drop 1 aims) ls))
  op_left l i m ls e rec (false ∷ gs) aims (suc p) o k h f =
      ap (λ x. line_now false (aim_at aims 0) l ++ x) (rec gs (drop 1 aims) p (ops_behind (Op i m ∷ []) (places_of ls) (false ∷ gs) o) k (omega arith) f)
      ∙ sym (past_first (aim_at aims 0) l i m (rank gs p) (now_of gs (drop 1 aims) ls) e)

  other_left : (l : ListingLine) (s : Statement) (ls : List ListingLine) → l.statement ≡ s → is_op s ≡ false → LeftRec ls → (gone : List Bool) (aims : List (Option Name)) (p : ℕ) → OpsGone gone (places_in s ++ places_of ls) → is_gone gone p ≡ false → p < length gone
      → is_op_place (slice_get (places_in s ++ places_of ls) p) ≡ true
      → (let x : List ListingLine = l ∷ now_of (drop (length (places_in s)) (slice_set gone p true)) (drop (length (places_in s)) aims) ls in x) ≡ left (rank gone p) (l ∷ now_of (drop (length (places_in s)) gone) (drop (length (places_in s)) aims) ls)
  other_left l s ls e other rec gone aims p o k h f =
      let n : ℕ = length (places_in s) in
      let b = op_behind s (places_of ls) p other f in
      let q : ℕ = b.0 in
      let is : p ≡ n + q = b.1 in
      let r = rank_drop n gone q p is (others_kept s (places_of ls) gone other o) in
      let short : q < length (drop n gone) = (let d = length_drop n gone in omega arith) in
      ap (λ x. (let y : List ListingLine = l ∷ now_of x (drop n aims) ls in y)) (drop_set n gone q p true is)
      ∙ ap (λ x. (let y : List ListingLine = l ∷ x in y)) (rec (drop n gone) (drop n aims) q (ops_behind (places_in s) (places_of ls) gone o) (gone_drop n gone q p is ∙ k) short b.2)
      ∙ sym (past_other l s (rank gone p) (rank (drop n gone) q) (now_of (drop n gone) (drop n aims) ls) e other r)

  line_left : (l : ListingLine) (s : Statement) (ls : List ListingLine) → l.statement ≡ s → LeftRec ls → (gone : List Bool) (aims : List (Option Name)) (p : ℕ) → OpsGone gone (places_in s ++ places_of ls) → is_gone gone p ≡ false → p < length gone
      → is_op_place (slice_get (places_in s ++ places_of ls) p) ≡ true
      → (if is_op s then line_now (is_gone (slice_set gone p true) 0) (aim_at aims 0) l ++ now_of (drop 1 (slice_set gone p true)) (drop 1 aims) ls
      else l ∷ now_of (drop (length (places_in s)) (slice_set gone p true)) (drop (length (places_in s)) aims) ls)
      ≡ left (rank gone p) (if is_op s then line_now (is_gone gone 0) (aim_at aims 0) l ++ now_of (drop 1 gone) (drop 1 aims) ls else l ∷ now_of (drop (length (places_in s)) gone) (drop (length (places_in s)) aims) ls)
  line_left l (Instruction i m) ls e rec gone aims p o k h f = op_left l i m ls e rec gone aims p o k h f
  line_left l Nothing ls e rec gone aims p o k h f = other_left l Nothing ls e refl rec gone aims p o k h f
  line_left l (Words vs) ls e rec gone aims p o k h f = other_left l (Words vs) ls e refl rec gone aims p o k h f
  line_left l (Aligns size most) ls e rec gone aims p o k h f = other_left l (Aligns size most) ls e refl rec gone aims p o k h f
  line_left l (Sets name address) ls e rec gone aims p o k h f = other_left l (Sets name address) ls e refl rec gone aims p o k h f

  -- the lines now without the instruction at a kept place
  pub lines_left : (ls : List ListingLine) → LeftRec ls
  lines_left [] gone aims p o k h f = absurd (cc)
  lines_left (l ∷ ls) gone aims p o k h f = line_left l l.statement ls refl (lines_left ls) gone aims p o k h f
