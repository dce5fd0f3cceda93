-- The loop that reads a text of costs: what is known after some lines, and which verdict follows.
use Rattle.std.proofs.Common.{◌≡◌, ◌∙◌, ℕ, ◌+◌, ◌<◌, ◌≤◌, ◌==◌, true, false, List, [], ◌∷◌, ◌++◌, length, map, filter, get_or, refl, sym, ap, subst, arith, Option, Some, None, append_assoc, append-nil, length-append, inl, inr, true≢false, slice_set, slice_get, eqb-true, length-set, ◌⊎◌, replicate}
use Rattle.std.specs.Prelude.{codes, IfSome}
use Rattle.std.specs.Option.{unwrap_or}
use Rattle.std.specs.List.{All, concat}
use Rattle.std.proofs.lemmas.Bool.{cases_Bool}
use Rattle.std.proofs.lemmas.List.{map-append, length-map, get_or-map, get_or-set_other, get_or-replicate, length-replicate, append_cancel_right}
use Rattle.std.proofs.lemmas.Grind.{get_or-set_at, same_number_lists}
use Rattle.std.proofs.lemmas.Option.{unwrap_or-slice_get}
use Rattle.std.proofs.lemmas.List.Elements.{All-nil, All-cons, All-head, All-tail, All-map, All-push, All-weaker, All-from_get_or, All-filter}
use Rattle.ascii_scan.specs.Refused.{Begins}
use Rattle.ascii_scan.proofs.Refusals as refusals
use Rattle.ascii_scan.specs.Lines.{lines_of, is_ended, Placed, placed, placed_from, lines_in, whole}
use Rattle.ascii_scan.proofs.LineLemmas.{lines_join, map-whole}
use Rattle.seq_enum.specs.declared.cost_text.Said.{Said}
use Rattle.seq_enum.specs.Alphabet.{numbers_from}
use Rattle.seq_enum.specs.Costs.{IsSaid, AreSaid, line_of, costs_said, text_lines, text_of, costs_of, IsCostText, IsSomeCosts, IsRefusedCosts}
use Rattle.seq_enum.specs.CostSteps.{IsHeading, Says, IsNoted}
use Rattle.seq_enum.specs.ReadingCosts.{OneMeaning, NotBoth, RefusedOnce}
use Rattle.ascii_scan.proofs.EndedLines.{IsInside, ended, lines_ended, ended_tells, is_ended_last, open_content, whole_ended, whole_open}
use Rattle.seq_enum.proofs.CostLines.{line_inside, lines_tell, all_from, length-from}

-- ---- the lines of a text

abbrev pub lines_said : List Said → List (List ℕ)
lines_said said = map (λ s. ended (line_of s)) said

lines_inside : (said : List Said) → All IsSaid said → All IsInside (map line_of said)
lines_inside said all = All-map IsInside line_of said (All-weaker IsSaid (λ s. IsInside (line_of s)) line_inside said all)

pub text_lines_are : (said : List Said) → All IsSaid said → lines_of (text_of said) ≡ ended (codes "costs 1") ∷ lines_said said
text_lines_are said all =
    lines_ended (text_lines said) (All-cons IsInside (codes "costs 1") (map line_of said) refl (lines_inside said all))
    ∙ ap (λ ls. ended (codes "costs 1") ∷ ls) (map_map said)
  where
    map_map : (xs : List Said) → map ended (map line_of xs) ≡ lines_said xs
    map_map [] = refl
    map_map (x ∷ xs) = ap (λ ls. ended (line_of x) ∷ ls) (map_map xs)

is_text : (said : List Said) → AreSaid said → IsCostText (text_of said) (costs_of said)
is_text said are = record { said = said; valid = are; whole = refl; meant = refl }

some_text : (said : List Said) → AreSaid said → IsSomeCosts (text_of said)
some_text said are = record { costs = costs_of said; text = is_text said are }

pub begins : (said : List Said) → AreSaid said → Begins IsSomeCosts (ended (codes "costs 1") ∷ lines_said said)
begins said are = record {
  bytes = text_of said;
  text = some_text said are;
  rest = [];
  whole = text_lines_are said are.each ∙ sym (append-nil (ended (codes "costs 1") ∷ lines_said said));
}

none_said : AreSaid []
none_said = record { each = All-nil IsSaid; once = λ m. omega arith }

pub begins_empty : Begins IsSomeCosts []
begins_empty = record { bytes = text_of []; text = some_text [] none_said; rest = lines_of (text_of []); whole = refl }

-- ---- what follows

-- a text whose lines begin with those of another has the other's contents, and more
record Split (xs said : List Said) (lines : List (List ℕ)) : Type 0 where
  rest : List Said
  whole : xs ≡ said ++ rest
  left : lines_said rest ≡ lines

split : (xs said : List Said) (lines : List (List ℕ)) → All IsSaid xs → All IsSaid said → lines_said xs ≡ lines_said said ++ lines → Split xs said lines
split xs [] lines a b e = record { rest = xs; whole = refl; left = e }
split [] (s ∷ said) lines a b e = cc
split (x ∷ xs) (s ∷ said) lines a b e =
    let first : ended (line_of x) ≡ ended (line_of s) = cc in
    let tail : lines_said xs ≡ lines_said said ++ lines = cc in
    let is = All-head IsSaid x xs a in
    let also = All-head IsSaid s said b in
    let same : x ≡ s = lines_tell x s is also (ended_tells (line_of x) (line_of s) (line_inside x is) (line_inside s also) first) in
    let later = split xs said lines (All-tail IsSaid x xs a) (All-tail IsSaid s said b) tail in
    record { rest = later.rest; whole = ap (λ y. y ∷ xs) same ∙ ap (λ us. s ∷ us) later.whole; left = later.left }

same_rest : {X : Type 0} (x y : X) (xs ys : List X) → x ∷ xs ≡ y ∷ ys → xs ≡ ys
same_rest x y xs ys e = cc

-- some text of costs goes on with this line after those before
record Goes (said : List Said) (line : List ℕ) : Type 0 where
  next : Said
  rest : List Said
  are : AreSaid (said ++ next ∷ rest)
  is : IsSaid next
  is_line : ended (line_of next) ≡ line

All-behind : (said : List Said) (s : Said) (rest : List Said) → All IsSaid (said ++ s ∷ rest) → IsSaid s
All-behind [] s rest h = All-head IsSaid s rest h
All-behind (x ∷ said) s rest h = All-behind said s rest (All-tail IsSaid x (said ++ s ∷ rest) h)

goes : (said : List Said) (line : List ℕ) → All IsSaid said → Begins IsSomeCosts ((ended (codes "costs 1") ∷ lines_said said) ++ line ∷ []) → Goes said line
goes said line all b = from (split b.text.text.said said (line ∷ b.rest) b.text.text.valid.each all e)
  where
    lines : ended (codes "costs 1") ∷ lines_said b.text.text.said ≡ ended (codes "costs 1") ∷ (lines_said said ++ line ∷ b.rest)
    lines = sym (text_lines_are b.text.text.said b.text.text.valid.each) ∙ ap lines_of b.text.text.whole ∙ b.whole ∙ append_assoc (ended (codes "costs 1") ∷ lines_said said) (line ∷ []) b.rest

    e : lines_said b.text.text.said ≡ lines_said said ++ line ∷ b.rest
    e = same_rest _ _ _ _ lines

    from : Split b.text.text.said said (line ∷ b.rest) → Goes said line
    from s = by s.rest s.whole s.left
      where
        by : (rest : List Said) → b.text.text.said ≡ said ++ rest → lines_said rest ≡ line ∷ b.rest → Goes said line
        by [] w l = cc
        by (next ∷ rest) w l = record {
          next = next;
          rest = rest;
          are = subst AreSaid w b.text.text.valid;
          is = All-behind said next rest (subst (All IsSaid) w b.text.text.valid.each);
          is_line = cc;
        }

-- ---- costs that are kept

-- what is kept for each mnemonic is its first cost
pub AreKept : List Said → List (Option ℕ) → Type 0
AreKept said kept = (m : ℕ) → m < 28 → get_or kept m None ≡ slice_get (costs_said said m) 0

costs_said-append : (xs ys : List Said) (m : ℕ) → costs_said (xs ++ ys) m ≡ costs_said xs m ++ costs_said ys m
costs_said-append [] ys m = refl
costs_said-append (x ∷ xs) ys m = elim (cases_Bool (x.mnemonic == m)) [
  | inl e ↦ rw e (ap (λ us. x.cost ∷ us) (costs_said-append xs ys m))
  | inr e ↦ rw e (costs_said-append xs ys m)
]

pub itself : (n : ℕ) → (n == n) ≡ true
itself n = grind arith

own_cost : (s : Said) (rest : List Said) → costs_said (s ∷ rest) s.mnemonic ≡ s.cost ∷ costs_said rest s.mnemonic
own_cost s rest = rw (itself s.mnemonic) refl

none_first : (xs : List ℕ) → length xs ≡ 0 → slice_get xs 0 ≡ None
none_first [] e = refl
none_first (x ∷ xs) e = absurd (omega arith)

first_none : (xs : List ℕ) → slice_get xs 0 ≡ None → xs ≡ []
first_none [] e = refl
first_none (x ∷ xs) e = cc

-- no line before names the mnemonic that a further one names
pub fresh_next : (said : List Said) (next : Said) (rest : List Said) → AreSaid (said ++ next ∷ rest) → slice_get (costs_said said next.mnemonic) 0 ≡ None
fresh_next said next rest are =
    let before = costs_said said next.mnemonic in
    let both : costs_said (said ++ next ∷ rest) next.mnemonic ≡ before ++ (next.cost ∷ costs_said rest next.mnemonic) = costs_said-append said (next ∷ rest) next.mnemonic ∙ ap (λ ns. before ++ ns) (own_cost next rest) in
    none_first before (omega (arith, are.once next.mnemonic, ap length both, length-append before (next.cost ∷ costs_said rest next.mnemonic)))

-- one more line, whose mnemonic none before names
module _ (said : List Said) (next : Said) where
  more_at : (m : ℕ) → slice_get (costs_said said next.mnemonic) 0 ≡ None → ((next.mnemonic ≡ m) × (costs_said (said ++ next ∷ []) m ≡ next.cost ∷ [])) ⊎ ((m ≡ next.mnemonic → ⊥) × (costs_said (said ++ next ∷ []) m ≡ costs_said said m))
  more_at m fresh = elim (cases_Bool (next.mnemonic == m)) [
    | inl e ↦ (let same = eqb-true next.mnemonic m e in
        inl (same, costs_said-append said (next ∷ []) m ∙ ap (λ ns. ns ++ costs_said (next ∷ []) m) (ap (costs_said said) (sym same) ∙ first_none _ fresh) ∙ rw e refl))
    | inr e ↦ inr (λ same. true≢false (sym (itself m) ∙ ap (λ k. k == m) same ∙ e), costs_said-append said (next ∷ []) m ∙ rw e (append-nil (costs_said said m)))
  ]

  pub more_said : AreSaid said → IsSaid next → slice_get (costs_said said next.mnemonic) 0 ≡ None → AreSaid (said ++ next ∷ [])
  more_said are is fresh = record {
    each = All-push IsSaid said next are.each is;
    once = λ m. elim (more_at m fresh) [
      | inl here ↦ omega (arith, ap length here.1)
      | inr there ↦ omega (arith, ap length there.1, are.once m)
    ];
  }

  pub more_kept : (kept after : List (Option ℕ)) → AreKept said kept → length kept ≡ 28 → next.mnemonic < 28 → slice_get (costs_said said next.mnemonic) 0 ≡ None → after ≡ slice_set kept next.mnemonic (Some next.cost)
      → AreKept (said ++ next ∷ []) after
  unfolding AreKept
  more_kept kept after are many known fresh is m low = elim (more_at m fresh) [
    | inl here ↦ ap (λ k. get_or k m None) is ∙ get_or-set_at kept next.mnemonic m (Some next.cost) None (sym here.0) (omega arith) ∙ ap (λ ns. slice_get ns 0) (sym here.1)
    | inr there ↦ ap (λ k. get_or k m None) is ∙ get_or-set_other kept next.mnemonic m (Some next.cost) None there.0 ∙ are m low ∙ ap (λ ns. slice_get ns 0) (sym there.1)
  ]

-- ---- the loop

-- the heading and further lines were read, and some lines are left
pub record Progress (bytes : List ℕ) (left : List Placed) (kept : List (Option ℕ)) : Type 0 where
  pub said : List Said
  pub are : AreSaid said
  pub split' : lines_of bytes ≡ (ended (codes "costs 1") ∷ lines_said said) ++ map whole left
  pub start : ℕ
  pub lines : List (List ℕ)
  pub left_lines : left ≡ placed_from (length said + 2) start lines
  pub many : length kept ≡ 28
  pub kept_costs : AreKept said kept

-- the first of the lines that are left
record IsFirst (p : Placed) (left : List Placed) (number start : ℕ) (lines : List (List ℕ)) : Type 0 where
  line : List ℕ
  rest : List (List ℕ)
  is : p ≡ placed number start line
  after : left ≡ placed_from (number + 1) (start + length line) rest

first_left : (p : Placed) (left : List Placed) (number start : ℕ) (lines : List (List ℕ)) → p ∷ left ≡ placed_from number start lines → IsFirst p left number start lines
first_left p left number start [] e = cc
first_left p left number start (line ∷ rest) e = record { line = line; rest = rest; is = cc; after = cc }

-- a line that isn't ended has no newline
open_line : (p : Placed) (left : List Placed) (number start : ℕ) (lines : List (List ℕ)) → p ∷ left ≡ placed_from number start lines → p.is_ended ≡ false → is_ended (whole p) ≡ false
open_line p left number start lines e open' =
    let first = first_left p left number start lines e in
    let line : is_ended first.line ≡ false = sym (ap (λ (q : Placed). q.is_ended) first.is) ∙ open' in
    ap is_ended (whole_open p open' ∙ ap (λ (q : Placed). q.text) first.is ∙ open_content first.line line) ∙ line

-- a line with its newline, which is such a text's, has this text
ended_text : (t : List ℕ) (p : Placed) (left : List Placed) (number start : ℕ) (lines : List (List ℕ)) → p ∷ left ≡ placed_from number start lines → ended t ≡ whole p → (p.is_ended ≡ true) × (t ≡ p.text)
ended_text t p left number start lines e same = elim (cases_Bool p.is_ended) [
  | inl t' ↦ (t', append_cancel_right t p.text (10 ∷ []) (same ∙ whole_ended p t'))
  | inr f ↦ absurd (true≢false (sym (is_ended_last t) ∙ ap is_ended same ∙ open_line p left number start lines e f))
]

all_lines : (bytes : List ℕ) → lines_of bytes ≡ map whole (lines_in bytes)
all_lines bytes = sym (map-whole bytes 1 0)

-- no line at all
pub missing_first : (bytes : List ℕ) → lines_in bytes ≡ [] → IsRefusedCosts bytes 1
missing_first bytes e = record {
  before = [];
  rest = [];
  split = all_lines bytes ∙ ap (map whole) e;
  count = omega arith;
  begins = begins_empty;
  stops = λ other some none. absurd (let bad : ended (codes "costs 1") ∷ lines_said some.text.said ≡ [] = sym (text_lines_are some.text.said some.text.valid.each) ∙ ap lines_of some.text.whole ∙ none in cc);
}

pub bad_first : (bytes : List ℕ) (p : Placed) (left : List Placed) → lines_in bytes ≡ p ∷ left → (IsHeading p → ⊥) → IsRefusedCosts bytes 1
bad_first bytes p left e not_heading = record {
  before = [];
  rest = whole p ∷ map whole left;
  split = all_lines bytes ∙ ap (map whole) e;
  count = omega arith;
  begins = begins_empty;
  stops = λ b.
      let lines : ended (codes "costs 1") ∷ lines_said b.text.text.said ≡ whole p ∷ b.rest = sym (text_lines_are b.text.text.said b.text.text.valid.each) ∙ ap lines_of b.text.text.whole ∙ b.whole in
      let first : ended (codes "costs 1") ≡ whole p = cc in
      let text = ended_text (codes "costs 1") p left 1 0 (lines_of bytes) (sym e) first in
      not_heading (record { ended = text.0; is = sym text.1 });
}

pub begun : (bytes : List ℕ) (p : Placed) (left : List Placed) (kept : List (Option ℕ)) → lines_in bytes ≡ p ∷ left → IsHeading p → kept ≡ replicate 28 None → Progress bytes left kept
unfolding AreKept
begun bytes p left kept e heading none =
    let first = first_left p left 1 0 (lines_of bytes) (sym e) in
    record {
      said = [];
      are = none_said;
      split' = all_lines bytes ∙ ap (map whole) e ∙ ap (λ l. l ∷ map whole left) (whole_ended p heading.ended ∙ ap ended heading.is);
      start = 0 + length first.line;
      lines = first.rest;
      left_lines = first.after;
      many = ap length none ∙ length-replicate {A = Option ℕ} 28 None;
      kept_costs = λ m low. ap (λ k. get_or k m None) none ∙ get_or-replicate 28 m None None low;
    }

pub noted : (bytes : List ℕ) (p : Placed) (left : List Placed) (kept after : List (Option ℕ)) → Progress bytes (p ∷ left) kept → IsNoted p kept after → Progress bytes left after
unfolding AreKept
noted bytes p left kept after g n =
    let s = n.said in
    let before = ended (codes "costs 1") ∷ lines_said g.said in
    let fresh : slice_get (costs_said g.said s.mnemonic) 0 ≡ None = sym (g.kept_costs s.mnemonic n.says.valid.known) ∙ n.fresh in
    let first = first_left p left (length g.said + 2) g.start g.lines g.left_lines in
    let line : whole p ≡ ended (line_of s) = whole_ended p n.says.ended ∙ ap ended (sym n.says.is) in
    let number : length g.said + 2 + 1 ≡ length (g.said ++ s ∷ []) + 2 = omega (arith, length-append g.said (s ∷ [])) in
    record {
      said = g.said ++ s ∷ [];
      are = more_said g.said s g.are n.says.valid fresh;
      split' = g.split' ∙ ap (λ l. before ++ l ∷ map whole left) line ∙ sym (append_assoc before (ended (line_of s) ∷ []) (map whole left))
          ∙ ap (λ ls. (ended (codes "costs 1") ∷ ls) ++ map whole left) (sym (map-append (λ x. ended (line_of x)) g.said (s ∷ [])));
      start = g.start + length first.line;
      lines = first.rest;
      left_lines = first.after ∙ ap (λ n. placed_from n (g.start + length first.line) first.rest) number;
      many = ap length n.is ∙ length-set kept s.mnemonic (Some s.cost) ∙ g.many;
      kept_costs = more_kept g.said s kept after g.kept_costs g.many n.says.valid.known fresh n.is;
    }

pub refused_at : (bytes : List ℕ) (p : Placed) (left : List Placed) (kept : List (Option ℕ)) → Progress bytes (p ∷ left) kept → ((s : Said) → Says p s → get_or kept s.mnemonic None ≡ None → ⊥) → IsRefusedCosts bytes p.number
unfolding AreKept
refused_at bytes p left kept g none = record {
  before = before;
  rest = whole p ∷ map whole left;
  split = g.split';
  count = ap (λ (q : Placed). q.number) (first_left p left (length g.said + 2) g.start g.lines g.left_lines).is ∙ omega (arith, length-map g.said (λ s. ended (line_of s)));
  begins = begins g.said g.are;
  stops = λ b.
      let o = goes g.said (whole p) g.are.each b in
      let text = ended_text (line_of o.next) p left (length g.said + 2) g.start g.lines g.left_lines o.is_line in
      none o.next (record { ended = text.0; valid = o.is; is = text.1 }) (g.kept_costs o.next.mnemonic o.is.known ∙ fresh_next g.said o.next o.rest o.are);
}
  where
    before : List (List ℕ)
    before = ended (codes "costs 1") ∷ lines_said g.said

-- ---- all lines were read

pub is_cost : Option ℕ → Type 0
is_cost o = IfSome o (λ n. (1 ≤ n) × (n ≤ 64))

costs_are : (said : List Said) → All IsSaid said → (m : ℕ) → All (λ n. (1 ≤ n) × (n ≤ 64)) (costs_said said m)
costs_are said all m =
    All-map (λ n. (1 ≤ n) × (n ≤ 64)) (λ (s : Said). s.cost) (filter (λ (s : Said). s.mnemonic == m) said)
    (All-filter (λ (s : Said). s.mnemonic == m) (λ (s : Said). (1 ≤ s.cost) × (s.cost ≤ 64)) said (All-weaker IsSaid (λ (s : Said). (1 ≤ s.cost) × (s.cost ≤ 64)) (λ s is. (is.some, is.most)) said all))

first_cost : (costs : List ℕ) → All (λ n. (1 ≤ n) × (n ≤ 64)) costs → is_cost (slice_get costs 0)
unfolding is_cost
first_cost [] all = tt
first_cost (n ∷ costs) all = All-head (λ n. (1 ≤ n) × (n ≤ 64)) n costs all

pub kept_are : (bytes : List ℕ) (left : List Placed) (kept : List (Option ℕ)) → Progress bytes left kept → All (λ o. IfSome o (λ n. (1 ≤ n) × (n ≤ 64))) kept
unfolding AreKept is_cost
kept_are bytes left kept g =
    All-from_get_or is_cost kept None (λ m low. subst is_cost (sym (g.kept_costs m (omega (arith, g.many)))) (first_cost (costs_said g.said m) (costs_are g.said g.are.each m)))

pub whole_text : (bytes : List ℕ) (kept : List (Option ℕ)) → Progress bytes [] kept → IsCostText bytes (map (λ o. unwrap_or o 1) kept)
unfolding AreKept
whole_text bytes kept g = record {
  said = g.said;
  valid = g.are;
  whole = sym (lines_join (text_of g.said)) ∙ ap concat (text_lines_are g.said g.are.each ∙ sym (append-nil _) ∙ sym g.split') ∙ lines_join bytes;
  meant = same_number_lists (costs_of g.said) (map (λ o. unwrap_or o 1) kept) sizes each;
}
  where
    size : length (costs_of g.said) ≡ 28
    size = length-map (numbers_from 0 28) (λ m. get_or (costs_said g.said m) 0 1) ∙ length-from 0 28

    sizes : length (costs_of g.said) ≡ length (map (λ o. unwrap_or o 1) kept)
    sizes = size ∙ sym (length-map kept (λ o. unwrap_or o 1) ∙ g.many)

    each : (m : ℕ) → m < length (costs_of g.said) → get_or (costs_of g.said) m 0 ≡ get_or (map (λ o. unwrap_or o 1) kept) m 0
    each m low =
        let few : m < 28 = omega (arith, size) in
        let at : get_or (numbers_from 0 28) m 0 ≡ m = all_from 0 28 m few ∙ omega arith in
        get_or-map (λ k. get_or (costs_said g.said k) 0 1) (numbers_from 0 28) m 0 0 (omega (arith, length-from 0 28))
        ∙ ap (λ k. get_or (costs_said g.said k) 0 1) at
        ∙ sym (unwrap_or-slice_get (costs_said g.said m) 0 1)
        ∙ ap (λ o. unwrap_or o 1) (sym (g.kept_costs m few))
        ∙ sym (get_or-map (λ o. unwrap_or o 1) kept m None 0 (omega (arith, g.many)))

-- ---- laws

same_lists_said : (xs ys : List Said) → All IsSaid xs → All IsSaid ys → lines_said xs ≡ lines_said ys → xs ≡ ys
same_lists_said xs ys a b e = by (split xs ys [] a b (e ∙ sym (append-nil (lines_said ys))))
  where
    none : (rest : List Said) → lines_said rest ≡ [] → rest ≡ []
    none [] h = refl
    none (s ∷ rest) h = cc

    by : Split xs ys [] → xs ≡ ys
    by s = s.whole ∙ ap (λ us. ys ++ us) (none s.rest s.left) ∙ append-nil ys

pub one_meaning : OneMeaning
one_meaning bytes costs others a b =
    let lines : ended (codes "costs 1") ∷ lines_said a.said ≡ ended (codes "costs 1") ∷ lines_said b.said = sym (text_lines_are a.said a.valid.each) ∙ ap lines_of (a.whole ∙ sym b.whole) ∙ text_lines_are b.said b.valid.each in
    sym a.meant ∙ ap costs_of (same_lists_said a.said b.said a.valid.each b.valid.each (same_rest _ _ _ _ lines)) ∙ b.meant

pub not_both : NotBoth
not_both bytes costs n a = refusals.not_both IsSomeCosts bytes n (record { costs = costs; text = a })

pub refused_once : RefusedOnce
refused_once = refusals.refused_once IsSomeCosts
