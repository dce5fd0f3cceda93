-- What is known of each line of a listing that was read.
use Rattle.std.proofs.Common.{◌≡◌, ◌∙◌, inl, inr, ℕ, ◌+◌, ◌≤◌, ◌==◌, ◌&&◌, Bool, true, false, List, [], ◌∷◌, ◌++◌, length, map, refl, sym, ap, arith, subst, true≢false, Option, Some, None, Ok, length-append}
use Rattle.std.specs.Prelude.{option_map, codes}
use Rattle.std.specs.List.{list_all}
use Rattle.std.specs.Str.{bytes_eq}
use Rattle.std.proofs.lemmas.Bool.{cases_Bool, and_parts}
use Rattle.std.proofs.lemmas.List.Folds.{list_all-append}
use Rattle.ascii_scan.specs.Lines.{Placed, content_of, is_ended, placed, placed_from, whole}
use Rattle.ascii_scan.specs.FirstLine.{is_inside}
use Rattle.ascii_scan.specs.Numeral.{numeral}
use Rattle.ascii_scan.specs.Tokens.{is_blank, front, rest, tokens}
use Rattle.thumb_syntax.specs.Operands.{is_name}
use Rattle.thumb_syntax.specs.Rows.{Shown, reading}
use Rattle.thumb_model.specs.Listing.{Name, Value, Statement, Nothing, Instruction, Words, Aligns, Sets, ListingLine}
use Rattle.thumb_model.specs.Replaced.{is_op}
use Rattle.listing_parser.specs.declared.directive.Directive.{Directive}
use Rattle.listing_parser.specs.declared.directive.Directive.TheVariants as directive
use Rattle.listing_parser.specs.Grammar.{body, code, labels_at_front, Bare, Read, read_line, checked_line, read_lines, said_of, bare}
use Rattle.listing_parser.specs.Directives.{FunctionMark, Unmarked, NameMarked, Said, Plain, ByKind, Told, says, marks, instruction, aligns_at_most, whole_size, aligned, sets, sets_by, typed_by, says_if, is_bare, is_alone, directed, directive_named, directed_by, is_word_byte, said, statement}
use Rattle.listing_parser.specs.Values.{alone as alone_word, pair, gapped, values}
use Rattle.listing_parser.proofs.PrintLemmas.{of_read, cut, none_read}
use Rattle.listing_parser.proofs.CanonicalLines.{labels_only, read_checked}
use Rattle.listing_parser.proofs.FrontLines.{alone}
use Rattle.listing_parser.proofs.JoinedLines.{Ends, inside_ends, text, checked_parts, ReadsAs, reads_anywhere, IsRead}
use Rattle.ascii_scan.proofs.LineLemmas.{same_parts}

-- ---- an instruction has no mark ----

abbrev is_instruction : Said → Bool
is_instruction (Plain s) = false
is_instruction (ByKind s) = true

-- a statement that is an instruction marks nothing
abbrev IsCalm : Option Told → Type 0
IsCalm None = Unit {0}
IsCalm (Some t) = is_instruction t.said ≡ true → t.mark ≡ Unmarked

calm_instruction : (o : Option Shown) → IsCalm (option_map (λ (s : Shown). (let t : Told = record { said = ByKind s; mark = Unmarked } in t)) o)
calm_instruction None = tt
calm_instruction (Some s) = λ e. refl

calm_words : (o : Option (List Value)) → IsCalm (option_map (λ (vs : List Value). says (Words vs)) o)
calm_words None = tt
calm_words (Some vs) = λ e. refl

calm_most : (size most : Option ℕ) → IsCalm (aligns_at_most size most)
calm_most None most = tt
calm_most (Some size) None = tt
calm_most (Some size) (Some most) = λ e. refl

calm_aligned : (b : Bool) (n : Option (List ℕ)) (gap : Option (List ℕ × List ℕ)) → IsCalm (aligned b n gap)
calm_aligned b (Some n) gap = calm_most (whole_size b n) (whole_size b n)
calm_aligned b None None = tt
calm_aligned b None (Some r) = calm_most (whole_size b r.0) (numeral r.1)

calm_sets : (name : Name) (n : Option ℕ) → IsCalm (sets name n)
calm_sets name None = tt
calm_sets name (Some n) = elim (cases_Bool (is_name name)) [ inl h ↦ rw h (λ e. refl) | inr h ↦ rw h tt ]

calm_set : (r : Option (List ℕ × List ℕ)) → IsCalm (sets_by r)
calm_set None = tt
calm_set (Some r) = calm_sets r.0 (numeral r.1)

calm_marks : (m : FunctionMark) → IsCalm (Some (marks m))
calm_marks m = λ e. absurd (true≢false (sym e))

calm_typed : (r : Option (List ℕ × List ℕ)) → IsCalm (Some (typed_by r))
calm_typed None = λ e. refl
calm_typed (Some r) = elim (cases_Bool (bytes_eq r.1 (codes "%function") && is_name r.0)) [ inl h ↦ rw h (calm_marks (NameMarked r.0)) | inr h ↦ rw h (λ e. refl) ]

calm_if : (b : Bool) (t : Told) → IsCalm (Some t) → IsCalm (says_if b t)
calm_if true t h = h
calm_if false t h = tt

calm_directed : (d : Directive) (bs : List ℕ) → IsCalm (directed d bs)
calm_directed directive.Word bs = calm_words (values (tokens bs))
calm_directed directive.Align bs = calm_aligned true (alone_word (tokens bs)) (gapped (tokens bs))
calm_directed directive.PowerAlign bs = calm_aligned false (alone_word (tokens bs)) (gapped (tokens bs))
calm_directed directive.Set bs = calm_set (pair (tokens bs))
calm_directed directive.ThumbFunc bs = calm_if (is_bare (tokens bs)) _ (λ e. absurd (true≢false (sym e)))
calm_directed directive.Type bs = calm_typed (pair (tokens bs))
calm_directed directive.Syntax bs = calm_if (is_alone (codes "unified") (tokens bs)) (says Nothing) (λ e. refl)
calm_directed directive.Code bs = calm_if (is_alone (codes "16") (tokens bs)) (says Nothing) (λ e. refl)
calm_directed directive.Bare bs = calm_if (is_bare (tokens bs)) (says Nothing) (λ e. refl)
calm_directed directive.Section bs = calm_if _ (says Nothing) (λ e. refl)
calm_directed directive.Kept bs = λ e. refl

calm_by : (d : Option Directive) (bs : List ℕ) → IsCalm (directed_by d bs)
calm_by None bs = tt
calm_by (Some d) bs = calm_directed d bs

calm_said : (bs : List ℕ) → IsCalm (said bs)
unfolding instruction
calm_said [] = λ e. refl
calm_said (b ∷ bs) = elim (cases_Bool (b == 46)) [
  | inl h ↦ rw h (calm_by (directive_named (front is_word_byte (b ∷ bs))) (rest is_word_byte (b ∷ bs)))
  | inr h ↦ rw h (calm_instruction (reading (b ∷ bs)))
]

calm_statement : (bs : List ℕ) → IsCalm (statement bs)
unfolding statement
calm_statement bs = calm_said (rest is_blank bs)

op_said : (s : Statement) → is_op s ≡ true → is_instruction (said_of s) ≡ true
op_said Nothing e = e
op_said (Instruction i m) e = refl
op_said (Words vs) e = e
op_said (Aligns size most) e = e
op_said (Sets name address) e = e

calm_at : (o : Option Told) (t : Told) → o ≡ Some t → IsCalm o → is_instruction t.said ≡ true → t.mark ≡ Unmarked
calm_at o t e calm = let same : IsCalm (Some t) = subst IsCalm e calm in same

op_unmarked : (p : Placed) (l : ListingLine) (r : Read) → read_line p ≡ Some r → r.line ≡ bare l → is_op l.statement ≡ true → r.mark ≡ Unmarked
op_unmarked p l r e same op =
    let of = of_read p r e in
    let says' : of.told.said ≡ said_of l.statement = sym of.said ∙ ap (λ (b : Bare). b.said) same in
    of.mark ∙ calm_at (statement (labels_at_front (code (body p))).1) of.told of.is_told (calm_statement (labels_at_front (code (body p))).1) (ap is_instruction says' ∙ op_said l.statement op)

-- ---- the front of a line ----

pub record FrontReads (names : List Name) (front : List ℕ) : Type 0 where
  pub ends : Ends front
  pub reads : ReadsAs front (labels_only names front front)

content_inside : (t : List ℕ) → list_all is_inside (content_of t) ≡ true
content_inside [] = refl
content_inside (b ∷ bs) = elim (cases_Bool (b == 10)) [
  | inl h ↦ rw h refl
  | inr h ↦ rw h (rw h (content_inside bs))
]

pub content_newline : (t : List ℕ) → list_all is_inside t ≡ true → (content_of (t ++ 10 ∷ []) ≡ t) × (is_ended (t ++ 10 ∷ []) ≡ true)
content_newline [] all = (refl, refl)
content_newline (b ∷ bs) all = elim (cases_Bool (b == 10)) [
  | inl h ↦ absurd (true≢false (sym (rw h at all)))
  | inr h ↦ let next = content_newline bs (rw h at all) in (rw h (ap (λ (w : List ℕ). b ∷ w) next.0), rw h next.1)
]

front_reads : (t : List ℕ) (n start : ℕ) (r : Read) → checked_line (placed n start t) ≡ Ok r → (r.line.names ≡ [] → ⊥) → FrontReads r.line.names r.line.front
unfolding ReadsAs
front_reads t n start r e some =
    let parts = checked_parts (placed n start t) r e in
    let a = alone (placed n start t) r parts.1 some in
    let inside : list_all is_inside a.text ≡ true = (and_parts (list_all is_inside a.text) (list_all is_inside a.inside.more) (sym (list_all-append is_inside a.text a.inside.more) ∙ ap (list_all is_inside) (sym a.inside.is) ∙ content_inside t)).0 in
    let content = content_newline a.text inside in
    let short : length a.text ≤ 1024 = (let k = length-append a.text a.inside.more in let j = ap (λ (w : List ℕ). length w) a.inside.is in omega (arith, parts.0)) in
    let ended : content_of r.line.front ≡ a.text = ap content_of a.is ∙ content.0 in
    record {
      ends = subst Ends (sym a.is) (inside_ends a.text inside);
      reads = λ m begin few.
          read_checked (placed m begin r.line.front) (labels_only r.line.names r.line.front r.line.front) few
          (let j = ap (λ (w : List ℕ). length w) ended in omega (arith, short))
          (a.read (placed m begin r.line.front) ended (ap is_ended a.is ∙ content.1));
    }

-- ---- all lines ----

-- the line was read as this
pub record IsOld (l : ListingLine) (r : Read) : Type 0 where
  pub read : IsRead l r
  pub unmarked : is_op l.statement ≡ true → r.mark ≡ Unmarked
  pub front : (l.names ≡ [] → ⊥) → FrontReads l.names l.front

unfoldable pub AreOld : List ListingLine → List Read → Type 0
AreOld [] [] = Unit {0}
AreOld [] (r ∷ rs) = ⊥
AreOld (l ∷ ls) [] = ⊥
AreOld (l ∷ ls) (r ∷ rs) = IsOld l r × AreOld ls rs

old_line : (t : List ℕ) (n start : ℕ) (l : ListingLine) (r : Read) → whole (placed n start t) ≡ t → checked_line (placed n start t) ≡ Ok r → r.line ≡ bare l → (l.text ≡ t) × IsOld l r
old_line t n start l r w e same =
    let parts = checked_parts (placed n start t) r e in
    let text' : l.text ≡ t = sym (ap (λ (b : Bare). b.text) same) ∙ (of_read (placed n start t) r parts.1).text ∙ w in (
      text',
      record {
        read = record { same = same; reads = subst (λ (x : List ℕ). ReadsAs x r) (sym text') (reads_anywhere t r n start e) };
        unmarked = op_unmarked (placed n start t) l r parts.1 same;
        front = λ some. subst (λ (b : Bare). FrontReads b.names b.front) same (front_reads t n start r e (λ none. some (sym (ap (λ (b : Bare). b.names) same) ∙ none)));
      },
    )

pub record OldRead (ls : List ListingLine) (rs : List Read) (ts : List (List ℕ)) : Type 0 where
  pub texts : map text ls ≡ ts
  pub old : AreOld ls rs

old_cons : (t : List ℕ) (ts : List (List ℕ)) (l : ListingLine) (ls : List ListingLine) (r : Read) (rs : List Read) → l.text ≡ t → IsOld l r → OldRead ls rs ts → OldRead (l ∷ ls) (r ∷ rs) (t ∷ ts)
unfolding AreOld
old_cons t ts l ls r rs e old more = record { texts = both l.text t (map text ls) ts e more.texts; old = (old, more.old) } where
  both : (x y : List ℕ) (xs ys : List (List ℕ)) → x ≡ y → xs ≡ ys → x ∷ xs ≡ y ∷ ys
  both x y xs ys e f = cc

pub old_read : (ts : List (List ℕ)) (n start : ℕ) (rs : List Read) (ls : List ListingLine) → map whole (placed_from n start ts) ≡ ts → read_lines (placed_from n start ts) ≡ Ok rs
    → map (λ (r : Read). r.line) rs ≡ map bare ls → OldRead ls rs ts
unfolding AreOld
old_read [] n start rs ls w e same = nothing ls rs (none_read rs e) same where
  nothing : (ls : List ListingLine) (rs : List Read) → rs ≡ [] → map (λ (r : Read). r.line) rs ≡ map bare ls → OldRead ls rs []
  nothing [] [] h f = record { texts = refl; old = tt }
  nothing (l ∷ ls) [] h f = absurd (cc)
  nothing ls (r ∷ rs) h f = absurd (cc)
old_read (t ∷ ts) n start rs ls w e same =
    let c = cut (placed n start t) (placed_from (n + 1) (start + length t) ts) rs e in
    let parts = same_parts (whole (placed n start t)) t (map whole (placed_from (n + 1) (start + length t) ts)) ts w in
    subst (λ (xs : List Read). OldRead ls xs (t ∷ ts)) (sym c.is) (by ls c.first c.others c.checked c.read (ap (map (λ (r : Read). r.line)) (sym c.is) ∙ same) parts.0 parts.1 (λ ls rs k f g. old_read ts (n + 1) (start + length t) rs ls k f g)) where
      by : (ls : List ListingLine) (r : Read) (rs : List Read) → checked_line (placed n start t) ≡ Ok r → read_lines (placed_from (n + 1) (start + length t) ts) ≡ Ok rs → r.line ∷ map (λ (x : Read). x.line) rs ≡ map bare ls
          → whole (placed n start t) ≡ t → map whole (placed_from (n + 1) (start + length t) ts) ≡ ts
          → ((ls : List ListingLine) (rs : List Read) → map whole (placed_from (n + 1) (start + length t) ts) ≡ ts → read_lines (placed_from (n + 1) (start + length t) ts) ≡ Ok rs → map (λ (x : Read). x.line) rs ≡ map bare ls → OldRead ls rs ts)
          → OldRead ls (r ∷ rs) (t ∷ ts)
      by [] r rs e f g h k more = absurd (cc)
      by (l ∷ ls) r rs e f g h k more =
          let both = same_parts r.line (bare l) (map (λ (x : Read). x.line) rs) (map bare ls) g in
          let here = old_line t n start l r h e both.0 in
          old_cons t ts l ls r rs here.0 here.1 (more ls rs k f both.1)
