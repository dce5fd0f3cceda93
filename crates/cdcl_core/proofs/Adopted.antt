-- A clause that is added before any decision keeps the solver's invariant.
use Rattle.std.proofs.Common.{◌≡◌, ◌≢◌, ℕ, ◌+◌, ◌<◌, ◌⊎◌, List, [], ◌∷◌, ◌++◌, length, length-append, get_or, take, map, refl, sym, ◌∙◌, ap, inl, inr, arith, Option, Some, None, subst, false}
use Rattle.std.specs.Prelude.{All, Any, Contains, slice_get}
use Rattle.std.proofs.lemmas.List.{map_push, take_at, get_or_push}
use Rattle.std.proofs.lemmas.List.Elements.{All-push, All-weaker, All-contains_itself, Contains-push, Contains-push_cases, Contains-append_left}
use Rattle.clause_model.specs.Clauses.{negated, IsFalse, IsUnset, IsUnit, AllFalse, IsConsistent}
use Rattle.clause_arena.specs.Contents.{Clause, Content, HasLiteral, IsWhole, Watches, literals_of, references_of}
use Rattle.unit_propagation.specs.Watching.{IsWatched, IsReason, IsAdded, IsLater}
use Rattle.unit_propagation.proofs.Steps.{reason_later, Contains-part}
use Rattle.unit_propagation.proofs.Walks.{known_later}
use Rattle.cdcl_core.specs.Implied.{clauses_of, IsConflict, IsJustified, IsCovered, BeginsAtRoot, Level, AreSpare}
use Rattle.cdcl_core.specs.Searched.{IsBase}
use Rattle.cdcl_core.proofs.Lists.{entry_cases}
use Rattle.cdcl_core.proofs.Roots.{covered_later, justified_later, root_back}
use Rattle.cdcl_core.proofs.Spare.{spare_added, spare_unit, spare_later, any_in as any_grown}
use Rattle.unit_propagation.proofs.Attached.{none_in}

pub any_first : (a clause : List ℕ) (l m : ℕ) → l ≡ get_or clause 0 l → 0 < length clause → m ≡ l → Contains a m → Any (Contains a) clause
any_first a clause l m e b f c = (0, l, b, sym e, subst (Contains a) f c)

module _ (clauses : List (List ℕ)) (size : ℕ) (content : Content) (refs : List ℕ) (reasons : List (Option ℕ)) (trail : List ℕ) (conflict : Option ℕ) (b : IsBase clauses size content refs reasons trail conflict)
    (content' : Content) (at : ℕ) (literals : List ℕ) (d : IsAdded content at literals content') (k : All (HasLiteral content) literals) (whole : IsWhole content') (refs' : List ℕ) (e : refs' ≡ refs ++ at ∷ []) where
  clauses_more : clauses_of content' ≡ clauses ++ literals ∷ []
  clauses_more = ap (λ (cs : List Clause). map (λ (c : Clause). c.literals) cs) d.clauses ∙ (map_push (λ (c : Clause). c.literals) content.clauses record { at = at; literals = literals; is_dropped = false } ∙ ap (λ (cs : List (List ℕ)). cs ++ literals ∷ []) b.clauses_are)

  references_more : references_of content' ≡ references_of content ++ at ∷ []
  references_more = ap (λ (cs : List Clause). map (λ (c : Clause). c.at) cs) d.clauses ∙ map_push (λ (c : Clause). c.at) content.clauses record { at = at; literals = literals; is_dropped = false }

  refs_more : refs' ≡ references_of content'
  refs_more = e ∙ (ap (λ (xs : List ℕ). xs ++ at ∷ []) b.numbered_by ∙ sym references_more)

  old_reason : (q r : ℕ) → IsReason content trail q r → IsReason content' trail q r
  old_reason q r h = record { clause = (d.old_literals r h.clause).0; unit = subst (λ (ls : List ℕ). IsUnit (take q trail) ls (get_or trail q 0)) (sym (d.old_literals r h.clause).1) h.unit }

  justified_then : IsJustified content' [] reasons trail
  justified_then = record { aligned = b.justified.aligned; because = λ q r f. old_reason q r (b.justified.because q r f); given = b.justified.given }

  literals_then : All (HasLiteral content') trail
  literals_then = All-weaker (HasLiteral content) (HasLiteral content') (λ l h. omega (arith, h, d.size)) trail b.literals

  old_conflict : (a : List ℕ) → ((x : ℕ) → Contains trail x → Contains a x) → (r : ℕ) → IsConflict content trail r → IsConflict content' a r
  old_conflict a w r h = ((d.old_literals r h.0).0, subst (AllFalse a) (sym (d.old_literals r h.0).1) (All-weaker (IsFalse trail) (IsFalse a) (λ l c. w (negated l) c) (literals_of content r) h.1))

  covered_then : (a : List ℕ) → ((x : ℕ) → Contains trail x → Contains a x) → IsCovered content trail → IsWatched content' at ⊎ Any (Contains a) literals → IsCovered content' a
  covered_then a w c n r h = elim (Contains-push_cases (references_of content) at r (subst (λ (xs : List ℕ). Contains xs r) references_more h)) [
    | inl o ↦ elim (c r o) [
      | inl x ↦ inl (d.watched r o x)
      | inr t ↦ inr (subst (λ (ls : List ℕ). Any (Contains a) ls) (sym (d.old_literals r o).1) (any_grown trail a (literals_of content r) w t))
    ]
    | inr f ↦ elim n [
      | inl x ↦ inl (subst (IsWatched content') f x)
      | inr t ↦ inr (subst (λ (x : ℕ). Any (Contains a) (literals_of content' x)) f (subst (λ (ls : List ℕ). Any (Contains a) ls) (sym d.new_literals) t))
    ]
  ]

  -- the case in which the new clause watches two literals, or is true
  pub base_covered : IsWatched content' at ⊎ Any (Contains trail) literals → IsBase (clauses ++ literals ∷ []) size content' refs' reasons trail conflict
  base_covered n = record {
    clauses_are = clauses_more;
    size_is = d.size ∙ b.size_is;
    numbered_by = refs_more;
    attached = d.attached b.attached;
    known = d.known b.known k;
    literals = literals_then;
    justified = justified_then;
    covered = λ f. covered_then trail (λ x c. c) (b.covered f) n;
    spare = λ f. spare_added content content' at literals d whole reasons trail (b.spare f);
    falsified = λ r f. old_conflict trail (λ x c. c) r (b.falsified r f);
  }

  -- the case in which it is false
  pub base_false : AllFalse trail literals → IsBase (clauses ++ literals ∷ []) size content' refs' reasons trail (Some at)
  base_false n = record {
    clauses_are = clauses_more;
    size_is = d.size ∙ b.size_is;
    numbered_by = refs_more;
    attached = d.attached b.attached;
    known = d.known b.known k;
    literals = literals_then;
    justified = justified_then;
    covered = λ f. absurd cc;
    spare = λ f. absurd cc;
    falsified = λ r f. let g : at ≡ r = cc in subst (IsConflict content' trail) g (d.clause, subst (AllFalse trail) (sym d.new_literals) n);
  }

  -- the case in which it has one literal, which becomes true
  pub base_unit : (l : ℕ) → Contains literals l → All (λ x. x ≡ l) literals → IsUnset trail l → (reasons' : List (Option ℕ)) (trail' : List ℕ) → reasons' ≡ reasons ++ Some at ∷ [] → trail' ≡ trail ++ l ∷ []
      → IsBase (clauses ++ literals ∷ []) size content' refs' reasons' trail' conflict
  base_unit l i all unset reasons' trail' f g =
      let al : length reasons ≡ length trail = b.justified.aligned in
      let p : take (length trail) trail' ≡ trail = ap (λ (xs : List ℕ). take (length trail) xs) g ∙ take_at trail (l ∷ []) (length trail) refl in
      let n : length trail' ≡ length trail + 1 = ap length g ∙ length-append trail (l ∷ []) in
      let m : length reasons' ≡ length reasons + 1 = ap length f ∙ length-append reasons (Some at ∷ []) in
      let more : (x : ℕ) → Contains trail x → Contains trail' x = λ x c. rw g (Contains-append_left trail (l ∷ []) x c) in
      let known_l : HasLiteral content l = k_of literals l i k in
      record {
        clauses_are = clauses_more;
        size_is = d.size ∙ b.size_is;
        numbered_by = refs_more;
        attached = d.attached b.attached;
        known = d.known b.known k;
        literals = rw g (All-push (HasLiteral content') trail l literals_then (omega (arith, known_l, d.size)));
        justified = record {
          aligned = omega (arith, n, m, al);
          because = λ q r h. elim (entry_cases reasons (Some at) (Some r) q (subst (λ (xs : List (Option ℕ)). slice_get xs q ≡ Some (Some r)) f h)) [
            | inl w ↦ reason_later content' content' trail trail' q r refl p (omega (arith, w.0, al)) (old_reason q r (b.justified.because q r w.1))
            | inr w ↦
                let is : at ≡ r = cc_of at r w.1 in
                let here : q ≡ length trail = omega (arith, w.0, al) in
                let t : take q trail' ≡ trail = ap (λ (x : ℕ). take x trail') here ∙ p in
                let v : get_or trail' q 0 ≡ l = ap (λ (xs : List ℕ). get_or xs q 0) g ∙ get_or_push trail l 0 q (sym here) in
                subst (IsReason content' trail' q) is record {
                  clause = d.clause;
                  unit = rw (t, v, d.new_literals) record { member = i; unset = unset; others = All-weaker (λ x. x ≡ l) (λ x. (x ≡ l) ⊎ IsFalse trail x) (λ x z. inl z) literals all };
                }
          ];
          given = λ q h. elim (entry_cases reasons (Some at) None q (subst (λ (xs : List (Option ℕ)). slice_get xs q ≡ Some None) f h)) [
            | inl w ↦ absurd (none_in (negated (get_or trail q 0)) (b.justified.given q w.1))
            | inr w ↦ let z : Some at ≡ None = w.1 in absurd cc
          ];
        };
        covered = λ h. covered_then trail' more (b.covered h) (inr (i.0, l, i.1, i.2, rw g (Contains-push trail l)));
        spare = λ h. spare_unit content content' at literals d whole reasons trail (b.spare h) l reasons' trail' f g;
        falsified = λ r h. old_conflict trail' more r (b.falsified r h);
      }
    where
      k_of : (ls : List ℕ) (x : ℕ) → Contains ls x → All (HasLiteral content) ls → HasLiteral content x
      k_of ls x c h = let w : HasLiteral content (get_or ls c.0 x) = h c.0 x c.1 in subst (HasLiteral content) c.2 w

      cc_of : (x y : ℕ) → Some x ≡ Some y → x ≡ y
      cc_of x y z = cc

-- the first literal of a clause that has no other
pub first_in : (clause : List ℕ) (l : ℕ) → l ≡ get_or clause 0 l → 0 < length clause → Contains clause l
first_in clause l e b = (0, b, sym e)

pub all_false_one : (trail clause : List ℕ) (l m n : ℕ) → All (λ x. x ≡ l) clause → m ≡ l → n ≡ negated m → Contains trail n → AllFalse trail clause
all_false_one trail clause l m n h e f c = All-weaker (λ x. x ≡ l) (IsFalse trail) (λ x z. subst (Contains trail) (f ∙ ap negated (e ∙ sym z)) c) clause h

pub same_grows : (a : List ℕ) → All (Contains a) a
same_grows a = All-contains_itself a

pub push_grows : (a b : List ℕ) (l : ℕ) → b ≡ a ++ l ∷ [] → All (Contains b) a
push_grows a b l e = rw e (All-weaker (Contains a) (Contains (a ++ l ∷ [])) (λ x c. Contains-append_left a (l ∷ []) x c) a (All-contains_itself a))

-- propagation before any decision keeps it
module _ (clauses : List (List ℕ)) (size : ℕ) (content : Content) (refs : List ℕ) (reasons : List (Option ℕ)) (trail : List ℕ) (b : IsBase clauses size content refs reasons trail None)
    (content' : Content) (reasons' : List (Option ℕ)) (trail' : List ℕ) (l : IsLater content trail reasons content' trail' reasons') where
  same_clauses : clauses_of content' ≡ clauses
  same_clauses = ap (λ (cs : List Clause). map (λ (c : Clause). c.literals) cs) l.clauses ∙ b.clauses_are

  pub base_later : (conflict : Option ℕ) → (conflict ≡ None → IsConsistent trail') → ((at : ℕ) → conflict ≡ Some at → IsConflict content' trail' at) → IsBase clauses size content' refs reasons' trail' conflict
  base_later conflict p h = record {
    clauses_are = same_clauses;
    size_is = l.size ∙ b.size_is;
    numbered_by = b.numbered_by ∙ sym (ap (λ (cs : List Clause). map (λ (c : Clause). c.at) cs) l.clauses);
    attached = l.attached b.attached;
    known = known_later content content' l.clauses l.size b.known;
    literals = l.literals b.literals;
    justified = justified_later content content' [] reasons reasons' trail trail' b.justified l;
    covered = λ f r c. elim (covered_later content content' trail l.clauses l.watched (b.covered refl) r c) [
      | inl x ↦ inl x
      | inr t ↦ inr (any_grown trail trail' (literals_of content' r) (λ x p. Contains-part (length trail) trail' x (subst (λ (xs : List ℕ). Contains xs x) (sym l.prefix) p)) t)
    ];
    spare = λ f. spare_later content content' reasons reasons' trail trail' l (p f) (b.spare refl);
    falsified = h;
  }

-- it holds again after the trail was cut back to the root level
pub base_back : (level : Level) (content : Content) (reasons rb : List (Option ℕ)) (trail tb refs : List ℕ) → BeginsAtRoot level content reasons trail → refs ≡ level.references → tb ≡ take level.low trail → rb ≡ take level.low reasons → IsBase level.clauses level.size content refs rb tb None
base_back level content reasons rb trail tb refs g r e f = rw (e, f) record {
  clauses_are = g.clauses;
  size_is = g.size;
  numbered_by = r ∙ sym g.references;
  attached = g.attached;
  known = g.known;
  literals = (root_back level content reasons trail g).literals;
  justified = subst (IsJustified content [] (take level.low reasons)) (sym g.base) g.justified;
  covered = λ _. subst (IsCovered content) (sym g.base) g.covered;
  spare = λ _. subst (AreSpare content (take level.low reasons)) (sym g.base) g.spare;
  falsified = λ at z. absurd cc;
}

pub watched_new : (content content' : Content) (at : ℕ) (literals : List ℕ) (l m : ℕ) → IsAdded content at literals content' → Watches content' at 0 l → Watches content' at 1 m → m ≢ l → Contains literals l → Contains literals m → IsWatched content' at
watched_new content content' at literals l m d w v n i j = record {
  first = l;
  second = m;
  watches_first = w;
  watches_second = v;
  different = λ e. n (sym e);
  first_in = subst (λ (ls : List ℕ). Contains ls l) (sym d.new_literals) i;
  second_in = subst (λ (ls : List ℕ). Contains ls m) (sym d.new_literals) j;
}

-- the invariant, stated for the arena's own clauses
pub base_here : {clauses : List (List ℕ)} {size : ℕ} {content : Content} {refs : List ℕ} {reasons : List (Option ℕ)} {trail : List ℕ} {conflict : Option ℕ} → IsBase clauses size content refs reasons trail conflict → IsBase (clauses_of content) size content refs reasons trail conflict
base_here {clauses} {size} {content} {refs} {reasons} {trail} {conflict} b = subst (λ (cs : List (List ℕ)). IsBase cs size content refs reasons trail conflict) (sym b.clauses_are) b
