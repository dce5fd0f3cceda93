-- The recursion of minimising over the halves of a list.
use Rattle.std.proofs.Common.{◌≡◌, ℕ, ◌-◌, ◌<◌, ◌≤◌, List, [], ◌++◌, length, get_or, take, drop, map, sym, ◌∙◌, ap, arith, subst, Option, Bool, false}
use Rattle.std.specs.Prelude.{All, Contains}
use Rattle.std.proofs.lemmas.List.{take_all, take-append-drop, length-drop}
use Rattle.std.proofs.lemmas.List.Elements.{All-nil, All-append, All-contains, All-weaker}
use Rattle.clause_model.specs.Clauses.{negated, IsFalse, AllFalse, IsConsistent, IsClosed}
use Rattle.clause_model.proofs.Asserted.{AllFalse-grown}
use Rattle.clause_model.proofs.LiteralLaws.{negated-negated}
use Rattle.clause_arena.specs.Contents.{Clause, Content, HasLiteral, IsWhole}
use Rattle.unit_propagation.specs.Watching.{IsLater, Rule}
use Rattle.unit_propagation.proofs.Steps.{later_after}
use Rattle.cdcl_core.specs.Implied.{clauses_of, Level, level_of, BeginsAtRoot, IsJustified, IsRefutable}
use Rattle.cdcl_core.specs.Assumed.{CanFalsify, IsDenied}
use Rattle.cdcl_core.specs.Minimal.{AreNeeded}
use Rattle.cdcl_core.proofs.Lists.{All-left, All-right, grown_from_keeps}
use Rattle.cdcl_core.proofs.Roots.{root_later, root_closed, justified_later}
use Rattle.cdcl_core.proofs.Falsified.{back_justified, watches_of}
use Rattle.cdcl_core.proofs.Minimised.{Within, within_left, within_right, within_trans, single_needed, first_refutable, second_refutable, halves_needed}

-- the two halves of a list
pub halves : (xs : List ℕ) (m : ℕ) → take m xs ++ take (length xs - m) (drop m xs) ≡ xs
halves xs m =
    let rest : take (length xs - m) (drop m xs) ≡ drop m xs = take_all (length xs - m) (drop m xs) (omega (arith, length-drop {A = ℕ})) in
    ap (λ (ys : List ℕ). take m xs ++ ys) rest ∙ take-append-drop m xs

module _ (P : ℕ → Type 0) (xs : List ℕ) (m : ℕ) (h : All P xs) where
  both : All P (take m xs ++ take (length xs - m) (drop m xs))
  both = subst (All P) (sym (halves xs m)) h

  pub first_half : All P (take m xs)
  first_half = All-left P (take m xs) (take (length xs - m) (drop m xs)) both

  pub second_half : All P (take (length xs - m) (drop m xs))
  second_half = All-right P (take m xs) (take (length xs - m) (drop m xs)) both

pub All-within : (P : ℕ → Type 0) (xs ys : List ℕ) → Within xs ys → All P ys → All P xs
All-within P xs ys w h = All-weaker (Contains ys) P (λ x p. All-contains P ys x h p) xs w

-- parts of the halves are parts of the list
pub within_halves : (xs : List ℕ) (m : ℕ) (part rest whole : List ℕ) → Within part (take m xs) → Within rest (take (length xs - m) (drop m xs)) → whole ≡ part ++ rest → Within whole xs
within_halves xs m part rest whole v w e =
    let first : List ℕ = take m xs in
    let second : List ℕ = take (length xs - m) (drop m xs) in
    rw e (subst (λ (ys : List ℕ). Within (part ++ rest) ys) (halves xs m) (All-append (Contains (first ++ second)) part rest
    (within_trans part first (first ++ second) v (within_left first second)) (within_trans rest second (first ++ second) w (within_right first second))))

-- the case in which only watches have moved
module _ (content later : Content) (r s : List (Option ℕ)) (t b : List ℕ) (l : IsLater content t r later t r) (et : b ≡ t) (es : s ≡ r) where
  pub root_there : (level : Level) → BeginsAtRoot level content r t → BeginsAtRoot level later s b
  root_there level g = rw (et, es) (root_later level content r t g later r t l)

  pub justified_there : (denied : List ℕ) → IsJustified content denied r t → IsJustified later denied s b
  justified_there denied j = rw (et, es) (justified_later content later denied r r t t j l)

  pub rule_there : Rule content t → Rule later b
  rule_there h =
      let whole : take (length t) t ≡ t = take_all (length t) t (omega arith) in
      rw et (subst (Rule later) whole (l.kept (length t) (omega arith) (subst (Rule content) (sym whole) h)))

  pub known_there : (xs : List ℕ) → All (HasLiteral content) xs → All (HasLiteral later) xs
  known_there xs h = All-weaker (HasLiteral content) (HasLiteral later) (λ x k. omega (arith, k, l.size)) xs h

module _ (arena : Content) (ra : List (Option ℕ)) (a denied : List ℕ) (arena1 : Content) (r1 : List (Option ℕ)) (t1 : List ℕ) (is_refuted : Bool) (e : is_refuted ≡ false) (d : IsDenied denied arena a ra arena1 t1 r1 is_refuted) where
  same_clauses : clauses_of arena1 ≡ clauses_of arena
  same_clauses = ap (λ (cs : List Clause). map (λ (c : Clause). c.literals) cs) d.watches.clauses

  all_false : (others : List ℕ) → AllFalse a others → AllFalse t1 (others ++ denied)
  all_false others f = All-append (IsFalse t1) others denied (AllFalse-grown a t1 others (grown_from_keeps a t1 d.prefix) f) (d.settled e).1

  pub one_needed : (level : Level) → BeginsAtRoot level arena ra a → IsConsistent t1 → IsWhole arena1 → (literals part : List ℕ) → length literals ≤ 1 → part ≡ literals
      → (others : List ℕ) → AllFalse a others → IsRefutable (clauses_of arena) ((others ++ denied) ++ literals) → AreNeeded (clauses_of arena) (others ++ denied) part
  one_needed level g p w literals part b q others f r = single_needed (clauses_of arena) (others ++ denied) literals part t1 b q r
      record { consistent = p; closed = subst (λ (cs : List (List ℕ)). IsClosed cs t1) (sym g.clauses) (root_closed level arena1 r1 t1 (d.root level g) w (d.settled e).0) }
      (all_false others f)

  module _ (arena2 : Content) (r2 : List (Option ℕ)) (t2 : List ℕ) (l : IsLater arena1 t1 r1 arena2 t1 r1) (et : t2 ≡ t1) (er : r2 ≡ r1) where
    pub watches_both : (arena3 : Content) → length a ≤ length t1 → length ra ≡ length a → IsLater arena2 t2 r2 arena3 t2 r2 → IsLater arena a ra arena3 a ra
    watches_both arena3 b al m =
        let n : IsLater arena2 t1 r1 arena3 t1 r1 = subst (λ (t : List ℕ). IsLater arena2 t r1 arena3 t r1) et (subst (λ (r : List (Option ℕ)). IsLater arena2 t2 r arena3 t2 r) er m) in
        later_after arena arena1 arena3 a a a ra ra ra d.watches
        (watches_of arena1 arena3 a t1 t1 ra r1 r1 al b d.prefix (later_after arena1 arena2 arena3 t1 t1 t1 r1 r1 r1 l n))

    module _ (literals first second : List ℕ) (w : first ++ second ≡ literals) (part shown rest kept : List ℕ) (es : shown ≡ part) (ek : kept ≡ part ++ rest) (v : Within rest second)
        (n1 : (xs : List ℕ) → IsJustified arena1 xs r1 t1 → AllFalse t1 xs → IsRefutable (clauses_of arena1) ((xs ++ second) ++ first) → AreNeeded (clauses_of arena1) (xs ++ second) part)
        (n2 : (xs : List ℕ) → IsJustified arena2 xs r2 t2 → AllFalse t2 xs → IsRefutable (clauses_of arena2) ((xs ++ shown) ++ second) → AreNeeded (clauses_of arena2) (xs ++ shown) rest) where
      pub both_needed : (others : List ℕ) → IsJustified arena others ra a → AllFalse a others → IsRefutable (clauses_of arena) ((others ++ denied) ++ literals) → AreNeeded (clauses_of arena) (others ++ denied) kept
      both_needed others j f r =
          let xs : List ℕ = others ++ denied in
          let same2 : clauses_of arena2 ≡ clauses_of arena = ap (λ (cs : List Clause). map (λ (c : Clause). c.literals) cs) l.clauses ∙ same_clauses in
          let g : IsRefutable (clauses_of arena) (xs ++ (first ++ second)) = subst (λ (ys : List ℕ). IsRefutable (clauses_of arena) (xs ++ ys)) (sym w) r in
          let one : AreNeeded (clauses_of arena) (xs ++ second) part = subst (λ (cs : List (List ℕ)). AreNeeded cs (xs ++ second) part) same_clauses
          (n1 xs (d.justified others j) (all_false others f) (subst (λ (cs : List (List ℕ)). IsRefutable cs ((xs ++ second) ++ first)) (sym same_clauses) (first_refutable (clauses_of arena) xs first second g))) in
          let h : IsRefutable (clauses_of arena) ((xs ++ part) ++ second) = second_refutable (clauses_of arena) xs first second g part one in
          let two : AreNeeded (clauses_of arena) (xs ++ part) rest = subst (λ (cs : List (List ℕ)). AreNeeded cs (xs ++ part) rest) same2 (subst (λ (ys : List ℕ). AreNeeded (clauses_of arena2) (xs ++ ys) rest) es
          (n2 xs (justified_there arena1 arena2 r1 r2 t1 t2 l et er xs (d.justified others j)) (subst (λ (t : List ℕ). AllFalse t xs) (sym et) (all_false others f))
          (subst (λ (ys : List ℕ). IsRefutable (clauses_of arena2) ((xs ++ ys) ++ second)) (sym es) (subst (λ (cs : List (List ℕ)). IsRefutable cs ((xs ++ part) ++ second)) (sym same2) h)))) in
          subst (AreNeeded (clauses_of arena) xs) (sym ek) (halves_needed (clauses_of arena) xs first second g part one rest v two)

-- a clause of literals that can be false together
module _ (content : Content) (reasons rb : List (Option ℕ)) (trail tb : List ℕ) (low : ℕ) (g : BeginsAtRoot (level_of content trail low) content reasons trail) (et : tb ≡ take low trail) (er : rb ≡ take low reasons)
    (first shown literals : List ℕ) (es : shown ≡ first) (f : CanFalsify (length content.chains) (take low trail) (first ++ literals)) (r : IsRefutable (clauses_of content) (first ++ literals)) where
  known_all : All (HasLiteral content) (first ++ literals)
  known_all k d b = subst (HasLiteral content) (negated-negated (get_or (first ++ literals) k d)) (g.known.contrary (negated (get_or (first ++ literals) k d)) (All-contains (λ l. l < length content.chains) f.under (negated (get_or (first ++ literals) k d)) f.bounded (f.falsifies k d b)))

  pub known_first : All (HasLiteral content) shown
  known_first = subst (All (HasLiteral content)) (sym es) (All-left (HasLiteral content) first literals known_all)

  pub known_rest : All (HasLiteral content) literals
  known_rest = All-right (HasLiteral content) first literals known_all

  pub clause_needed : (part : List ℕ)
      → ((others : List ℕ) → IsJustified content others rb tb → AllFalse tb others → IsRefutable (clauses_of content) ((others ++ shown) ++ literals) → AreNeeded (clauses_of content) (others ++ shown) part)
      → AreNeeded (clauses_of content) first part
  clause_needed part n = subst (λ (xs : List ℕ). AreNeeded (clauses_of content) xs part) es
      (n [] (back_justified (level_of content trail low) content reasons rb trail tb [] g et er) (All-nil (IsFalse tb)) (subst (λ (xs : List ℕ). IsRefutable (clauses_of content) (xs ++ literals)) (sym es) r))
