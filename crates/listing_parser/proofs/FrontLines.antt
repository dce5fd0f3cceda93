-- A line up to its last label's colon is read as the labels alone.
use Rattle.std.proofs.Common.{◌≡◌, ◌∙◌, ◌⊎◌, inl, inr, ℕ, zero, suc, ◌-◌, ◌==◌, Bool, true, false, List, [], ◌∷◌, ◌++◌, length, take, refl, sym, ap, arith, true≢false, Option, Some, None, length-append, append_assoc, append-nil, eqb-true, subst}
use Rattle.std.specs.Prelude.{option_map}
use Rattle.std.specs.List.{list_all}
use Rattle.std.proofs.lemmas.Bool.{cases_Bool, and_parts, and_from}
use Rattle.std.proofs.lemmas.List.Folds.{list_all-append}
use Rattle.ascii_scan.specs.Lines.{Placed, whole}
use Rattle.ascii_scan.specs.Tokens.{is_blank, begins_blank, front, rest}
use Rattle.ascii_scan.proofs.TokenLemmas.{no_blank_after}
use Rattle.thumb_syntax.specs.Operands.{is_name}
use Rattle.thumb_model.specs.Listing.{Name}
use Rattle.listing_parser.specs.Grammar.{front_of, Read, is_no_colon, is_no_at, begins_hash, is_some_byte, without_first, front_name, from_colon, begins_label, labels_within, labels_at_front, without_return, body, code, read_line}
use Rattle.listing_parser.specs.Directives.{Told, statement}
use Rattle.listing_parser.proofs.ReadingLemmas.{last_other, labels_more, labels_none, within_zero, within_none, within_more, all_at_front}
use Rattle.thumb_syntax.proofs.Words.{front_before}
use Rattle.listing_parser.proofs.CanonicalLines.{labels_only, front_all, take_front, front_of_named, labels_read}

-- ---- fronts ----

pub split : (p : ℕ → Bool) (bs : List ℕ) → bs ≡ front p bs ++ rest p bs
split p [] = refl
split p (b ∷ bs) = elim (cases_Bool (p b)) [
  | inl h ↦ rw h (ap (λ (w : List ℕ). b ∷ w) (split p bs))
  | inr h ↦ rw h refl
]

pub front_passes : (p : ℕ → Bool) (bs : List ℕ) → list_all p (front p bs) ≡ true
front_passes p [] = refl
front_passes p (b ∷ bs) = elim (cases_Bool (p b)) [
  | inl h ↦ rw h (and_from (p b) (list_all p (front p bs)) h (front_passes p bs))
  | inr h ↦ rw h refl
]

rest_skips : (xs ys : List ℕ) → list_all is_blank xs ≡ true → begins_blank ys ≡ false → rest is_blank (xs ++ ys) ≡ ys
rest_skips [] [] all e = refl
rest_skips [] (y ∷ ys) all e = rw e refl
rest_skips (x ∷ xs) ys all e = let a = and_parts (is_blank x) (list_all is_blank xs) all in rw a.0 (rest_skips xs ys a.1 e)

colon_first : (bs : List ℕ) → is_some_byte (rest is_no_colon bs) ≡ true → rest is_no_colon bs ≡ 58 ∷ without_first (rest is_no_colon bs)
colon_first [] e = absurd (true≢false (sym e))
colon_first (b ∷ bs) e = elim (cases_Bool (b == 58)) [
  | inl h ↦ rw h (ap (λ (x : ℕ). x ∷ bs) (eqb-true b 58 h))
  | inr h ↦ rw h (colon_first bs (rw h at e))
]

-- what follows the colon decides nothing before it
same_begin : (w xs ys : List ℕ) → begins_blank (w ++ 58 ∷ xs) ≡ begins_blank (w ++ 58 ∷ ys)
same_begin [] xs ys = refl
same_begin (b ∷ bs) xs ys = refl

-- ---- the labels' bytes ----

-- the bytes end with a colon
pub record IsClosed (bs : List ℕ) : Type 0 where
  pub front : List ℕ
  pub is : bs ≡ front ++ 58 ∷ []

-- the bytes up to the last label's colon
pub record Cut (names : List Name) (bs after : List ℕ) : Type 0 where
  pub before : List ℕ
  pub joined : bs ≡ before ++ after
  pub again : labels_at_front before ≡ (names, [])
  pub last : (before ≡ []) ⊎ IsClosed before

no_cut : (bs : List ℕ) → Cut [] bs bs
no_cut bs = record { before = []; joined = refl; again = labels_none [] refl; last = inl refl }

closed_behind : (xs ys : List ℕ) → (ys ≡ []) ⊎ IsClosed ys → IsClosed (xs ++ 58 ∷ ys)
closed_behind xs ys (inl e) = record { front = xs; is = ap (λ (w : List ℕ). xs ++ 58 ∷ w) e }
closed_behind xs ys (inr c) = record { front = xs ++ 58 ∷ c.front; is = ap (λ (w : List ℕ). xs ++ 58 ∷ w) c.is ∙ sym (append_assoc xs (58 ∷ c.front) (58 ∷ [])) }

-- one more label
cut_more : (names : List Name) (bs after : List ℕ) → begins_label bs ≡ true → Cut names (without_first (from_colon bs)) after → Cut (front_name bs ∷ names) bs after
cut_more names bs after e next =
    let blanks : List ℕ = front is_blank bs in
    let name : List ℕ = front_name bs in
    let named = and_parts (is_name name) (is_some_byte (from_colon bs)) e in
    let colon : from_colon bs ≡ 58 ∷ without_first (from_colon bs) = colon_first (rest is_blank bs) named.1 in
    let label : List ℕ = name ++ 58 ∷ next.before in
    let all : rest is_blank bs ≡ name ++ 58 ∷ without_first (from_colon bs) = split is_no_colon (rest is_blank bs) ∙ ap (λ (w : List ℕ). name ++ w) colon in
    let begins : begins_blank label ≡ false = same_begin name next.before (without_first (from_colon bs)) ∙ ap begins_blank (sym all) ∙ no_blank_after bs in
    let text : rest is_blank (blanks ++ label) ≡ label = rest_skips blanks label (front_passes is_blank bs) begins in
    let stops = front_before is_no_colon name 58 next.before (front_passes is_no_colon (rest is_blank bs)) refl in
    let same : front_name (blanks ++ label) ≡ name = ap (front is_no_colon) text ∙ stops.0 in
    let behind : from_colon (blanks ++ label) ≡ 58 ∷ next.before = ap (rest is_no_colon) text ∙ stops.1 in
    let is_label : begins_label (blanks ++ label) ≡ true = and_from (is_name (front_name (blanks ++ label))) (is_some_byte (from_colon (blanks ++ label))) (ap is_name same ∙ named.0) (ap is_some_byte behind) in
    record {
      before = blanks ++ label;
      joined =
          split is_blank bs
          ∙ ap (λ (w : List ℕ). blanks ++ w) (all ∙ ap (λ (w : List ℕ). name ++ 58 ∷ w) next.joined ∙ sym (append_assoc name (58 ∷ next.before) after))
          ∙ sym (append_assoc blanks label after);
      again =
          labels_more (blanks ++ label) is_label
          ∙ ap (λ (n : Name). (let x : List Name × List ℕ = (n ∷ (labels_at_front (without_first (from_colon (blanks ++ label)))).0, (labels_at_front (without_first (from_colon (blanks ++ label)))).1) in x)) same
          ∙ ap (λ (w : List ℕ). (let x : List Name × List ℕ = (name ∷ (labels_at_front (without_first w)).0, (labels_at_front (without_first w)).1) in x)) behind
          ∙ ap (λ (r : List Name × List ℕ). (let x : List Name × List ℕ = (name ∷ r.0, r.1) in x)) next.again;
      last = inr (closed_label blanks name next.before next.last);
    } where
      closed_label : (xs ys zs : List ℕ) → (zs ≡ []) ⊎ IsClosed zs → IsClosed (xs ++ (ys ++ 58 ∷ zs))
      closed_label xs ys zs h = let c = closed_behind (xs ++ ys) zs h in record { front = c.front; is = sym (append_assoc xs ys (58 ∷ zs)) ∙ c.is }

cut_within : (n : ℕ) (bs : List ℕ) → Cut (labels_within n bs).0 bs (labels_within n bs).1
cut_within zero bs = subst (λ (r : List Name × List ℕ). Cut r.0 bs r.1) (sym (within_zero bs)) (no_cut bs)
cut_within (suc n) bs = elim (cases_Bool (begins_label bs)) [
  | inl e ↦ subst (λ (r : List Name × List ℕ). Cut r.0 bs r.1) (sym (within_more n bs e)) (cut_more (labels_within n (without_first (from_colon bs))).0 bs (labels_within n (without_first (from_colon bs))).1 e (cut_within n (without_first (from_colon bs))))
  | inr e ↦ subst (λ (r : List Name × List ℕ). Cut r.0 bs r.1) (sym (within_none (suc n) bs e)) (no_cut bs)
]

cut_at_front : (bs : List ℕ) → Cut (labels_at_front bs).0 bs (labels_at_front bs).1
cut_at_front bs = subst (λ (r : List Name × List ℕ). Cut r.0 bs r.1) (sym (all_at_front bs)) (cut_within (length bs) bs)

-- ---- the code of a line ----

hash_front : (xs ys : List ℕ) → begins_hash (rest is_blank (xs ++ ys)) ≡ false → begins_hash (rest is_blank xs) ≡ false
hash_front [] ys e = refl
hash_front (x ∷ xs) ys e = elim (cases_Bool (is_blank x)) [
  | inl h ↦ rw h (hash_front xs ys (rw h at e))
  | inr h ↦ rw h (rw h at e)
]

code_hash : (bs : List ℕ) → begins_hash (rest is_blank bs) ≡ true → code bs ≡ []
unfolding code
code_hash bs e = rw e refl

code_plain : (bs : List ℕ) → begins_hash (rest is_blank bs) ≡ false → code bs ≡ front is_no_at bs
unfolding code
code_plain bs e = rw e refl

-- bytes with what a line has behind them
pub record Before (xs bs : List ℕ) : Type 0 where
  pub more : List ℕ
  pub is : bs ≡ xs ++ more

before_more : (xs ys bs : List ℕ) → Before xs ys → Before ys bs → Before xs bs
before_more xs ys bs a b = record { more = a.more ++ b.more; is = b.is ∙ ap (λ (w : List ℕ). w ++ b.more) a.is ∙ append_assoc xs a.more b.more }

before_self : (bs : List ℕ) → Before bs bs
before_self bs = record { more = []; is = sym (append-nil bs) }

before_return : (bs : List ℕ) → Before (without_return bs) bs
before_return [] = before_self []
before_return (b ∷ []) = elim (cases_Bool (b == 13)) [
  | inl h ↦ rw h (record { more = b ∷ []; is = refl })
  | inr h ↦ rw h (before_self (b ∷ []))
]
before_return (b ∷ c ∷ bs) = let next = before_return (c ∷ bs) in record { more = next.more; is = ap (λ (w : List ℕ). b ∷ w) next.is }

before_body : (l : Placed) → Before (body l) l.text
before_body l = elim (cases_Bool l.is_ended) [ inl h ↦ rw h (before_return l.text) | inr h ↦ rw h (before_self l.text) ]

before_whole : (l : Placed) → Before l.text (whole l)
before_whole l = elim (cases_Bool l.is_ended) [ inl h ↦ rw h (record { more = 10 ∷ []; is = refl }) | inr h ↦ rw h (before_self l.text) ]

-- ---- the labels alone on a line ----

closed_body : (bs : List ℕ) → IsClosed bs → without_return bs ≡ bs
closed_body bs c = ap without_return c.is ∙ last_other c.front 58 (λ h. absurd (omega arith)) ∙ sym c.is

-- a line of these bytes and a newline
alone_read : (names : List Name) (bs : List ℕ) (q : Placed) → (names ≡ [] → ⊥) → q.text ≡ bs → q.is_ended ≡ true → without_return bs ≡ bs → code bs ≡ bs → labels_at_front bs ≡ (names, []) → read_line q ≡ Some (labels_only names (bs ++ 10 ∷ []) (bs ++ 10 ∷ []))
alone_read names bs q some is ended e f g =
    let text : whole q ≡ bs ++ 10 ∷ [] = rw ended (ap (λ (w : List ℕ). w ++ 10 ∷ []) is) in
    labels_read names bs q some is e f g ∙ ap (λ (w : List ℕ). Some (labels_only names w (bs ++ 10 ∷ []))) text

-- the names of a line that is read, and its front
read_parts_by : (l : Placed) (n : ℕ) (labelled : List Name × List ℕ) (o : Option Told) (r : Read)
    → option_map (λ (t : Told). (let x : Read = record { line = record { names = labelled.0; said = t.said; text = whole l; front = front_of labelled.0 (n - length labelled.1) (whole l) }; mark = t.mark } in x)) o ≡ Some r
    → (r.line.names ≡ labelled.0) × (r.line.front ≡ front_of labelled.0 (n - length labelled.1) (whole l))
read_parts_by l n labelled None r e = absurd (let bad : None ≡ Some r = e in cc)
read_parts_by l n labelled (Some t) r e =
    let read : Read = record { line = record { names = labelled.0; said = t.said; text = whole l; front = front_of labelled.0 (n - length labelled.1) (whole l) }; mark = t.mark } in
    let both : Some read ≡ Some r = e in
    let is : read ≡ r = cc in
    (sym (ap (λ (x : Read). x.line.names) is), sym (ap (λ (x : Read). x.line.front) is))

read_parts : (l : Placed) (r : Read) → read_line l ≡ Some r
    → (r.line.names ≡ (labels_at_front (code (body l))).0)
    × (r.line.front ≡ front_of (labels_at_front (code (body l))).0 (length (code (body l)) - length (labels_at_front (code (body l))).1) (whole l))
unfolding read_line
read_parts l r e = read_parts_by l (length (code (body l))) (labels_at_front (code (body l))) (statement (labels_at_front (code (body l))).1) r e

-- a line's labels, alone on a line, are read as these labels
pub record Alone (l : Placed) (r : Read) : Type 0 where
  pub text : List ℕ
  pub is : r.line.front ≡ text ++ 10 ∷ []
  pub inside : Before text l.text
  pub read : (q : Placed) → q.text ≡ text → q.is_ended ≡ true → read_line q ≡ Some (labels_only r.line.names r.line.front r.line.front)

-- the labels of the code's bytes
record OfCode (l : Placed) (r : Read) (bytes : List ℕ) : Type 0 where
  is_code : bytes ≡ front is_no_at (body l)
  no_hash : begins_hash (rest is_blank (body l)) ≡ false
  names : r.line.names ≡ (labels_at_front bytes).0
  front : r.line.front ≡ front_of (labels_at_front bytes).0 (length bytes - length (labels_at_front bytes).1) (whole l)

not_open : (names : List Name) (bs : List ℕ) → (names ≡ [] → ⊥) → labels_at_front bs ≡ (names, []) → (bs ≡ []) ⊎ IsClosed bs → IsClosed bs
not_open names bs some again (inr c) = c
not_open names bs some again (inl e) = absurd (some (ap (λ (r : List Name × List ℕ). r.0) (sym again ∙ ap labels_at_front e ∙ labels_none [] refl)))

alone_by : (l : Placed) (r : Read) (bytes : List ℕ) → OfCode l r bytes → (r.line.names ≡ [] → ⊥) → Alone l r
alone_by l r bytes h some =
    let names : List Name = (labels_at_front bytes).0 in
    let after : List ℕ = (labels_at_front bytes).1 in
    let c = cut_at_front bytes in
    let any : names ≡ [] → ⊥ = λ e. some (h.names ∙ e) in
    let closed = not_open names c.before any c.again c.last in
    let in_code : Before c.before bytes = record { more = after; is = c.joined } in
    let in_body : Before c.before (body l) = before_more c.before bytes (body l) in_code (record { more = rest is_no_at (body l); is = split is_no_at (body l) ∙ ap (λ (w : List ℕ). w ++ rest is_no_at (body l)) (sym h.is_code) }) in
    let in_text : Before c.before l.text = before_more c.before (body l) l.text in_body (before_body l) in
    let in_whole : Before c.before (whole l) = before_more c.before l.text (whole l) in_text (before_whole l) in
    let size : length bytes - length after ≡ length c.before = let k = length-append c.before after in let j = ap (λ (w : List ℕ). length w) c.joined in omega arith in
    let taken : take (length bytes - length after) (whole l) ≡ c.before = ap (take (length bytes - length after)) in_whole.is ∙ take_front c.before in_whole.more (length bytes - length after) size in
    let is : r.line.front ≡ c.before ++ 10 ∷ [] = h.front ∙ front_of_named names (length bytes - length after) (whole l) c.before any taken in
    let all : list_all is_no_at (c.before ++ after) ≡ true = ap (list_all is_no_at) (sym c.joined ∙ h.is_code) ∙ front_passes is_no_at (body l) in
    let here : list_all is_no_at c.before ≡ true = (and_parts (list_all is_no_at c.before) (list_all is_no_at after) (sym (list_all-append is_no_at c.before after) ∙ all)).0 in
    let code' : code c.before ≡ c.before = code_plain c.before (hash_front c.before in_body.more (ap (λ (w : List ℕ). begins_hash (rest is_blank w)) (sym in_body.is) ∙ h.no_hash)) ∙ front_all is_no_at c.before here in
    record {
      text = c.before;
      is = is;
      inside = in_text;
      read = λ q line ended.
          alone_read names c.before q any line ended (closed_body c.before closed) code' c.again
          ∙ ap (λ (ns : List Name). Some (labels_only ns (c.before ++ 10 ∷ []) (c.before ++ 10 ∷ []))) (sym h.names)
          ∙ ap (λ (w : List ℕ). Some (labels_only r.line.names w w)) (sym is);
    }

-- where a line has labels, they are read alone
pub alone : (l : Placed) (r : Read) → read_line l ≡ Some r → (r.line.names ≡ [] → ⊥) → Alone l r
alone l r e some =
    let parts = read_parts l r e in
    elim (cases_Bool (begins_hash (rest is_blank (body l)))) [
      | inl h ↦ absurd (some (parts.0 ∙ ap (λ (w : List ℕ). (labels_at_front w).0) (code_hash (body l) h) ∙ ap (λ (x : List Name × List ℕ). x.0) (labels_none [] refl)))
      | inr h ↦ alone_by l r (code (body l)) (record { is_code = code_plain (body l) h; no_hash = h; names = parts.0; front = parts.1 }) some
    ]
