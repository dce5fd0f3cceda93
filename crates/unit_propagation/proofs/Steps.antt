-- The rule of watches is kept where a watch moves or a literal becomes true.
use Rattle.std.proofs.Common.{◌≡◌, ◌≢◌, ℕ, ◌-◌, ◌<◌, ◌⊎◌, List, [], ◌∷◌, ◌++◌, length, length-append, map, take, drop, refl, sym, ◌∙◌, ap, inl, inr, arith, subst, zero, suc, Option, Some, get_or}
use Rattle.std.specs.Prelude.{Contains, All, ◌↔◌, slice_get}
use Rattle.std.proofs.Math.ListN.{set}
use Rattle.std.proofs.lemmas.Bool.{cases_eq, cases_lt}
use Rattle.std.proofs.lemmas.List.{length-set, get_or-set_same, get_or-set_other, take-append-le, take_at, take_all, take-append-drop, take-take, get_or_push, get_or-take}
use Rattle.std.proofs.lemmas.List.Elements.{Contains-append_left, Contains-append_right, All-weaker, All-push}
use Rattle.clause_model.specs.Clauses.{negated, IsConsistent, IsFalse, IsUnit}
use Rattle.clause_arena.specs.Contents.{Clause, Content, HasClause, HasLiteral, Watches, IsWhole, IsAfter, chain_of, literals_of, literals_in, clause_among, watched, with_chain}
use Rattle.unit_propagation.specs.Watching.{IsWatched, IsAttached, IsOtherTrue, RuleUpTo, Rule, IsLater, IsMoved, IsReason, Due}
pub use Rattle.clause_arena.proofs.Lists.{Contains-cases, Contains-first}

pub Contains-part : (n : ℕ) (xs : List ℕ) (x : ℕ) → Contains (take n xs) x → Contains xs x
Contains-part n xs x c = subst (λ (ys : List ℕ). Contains ys x) (take-append-drop n xs) (Contains-append_left (take n xs) (drop n xs) x c)

pub one_watched : (content : Content) (at slot l m : ℕ) → IsWhole content → Watches content at slot l → Watches content at slot m → l ≡ m
one_watched content at slot l m h p q = h.one l m (at, slot) p.0 q.0 p.1 q.1

-- the other slot of a clause that watches
pub other_watched : (content : Content) (at slot l : ℕ) → slot < 2 → IsAttached content → Watches content at slot l → (other : ℕ) × Watches content at (1 - slot) other
other_watched content at slot l b h w = elim (cases_eq slot 0) [
  | inl e ↦ let d : IsWatched content at = h at slot l w in (d.second, subst (λ (k : ℕ). Watches content at (1 - k) d.second) (sym e) d.watches_second)
  | inr n ↦ let e : slot ≡ 1 = omega arith in let d : IsWatched content at = h at slot l w in (d.first, subst (λ (k : ℕ). Watches content at (1 - k) d.first) (sym e) d.watches_first)
]

-- the two literals that a clause watches are its own
module _ (content : Content) (at slot l other : ℕ) (b : slot < 2) (whole : IsWhole content) (attached : IsAttached content) (w : Watches content at slot l) (v : Watches content at (1 - slot) other) where
  d : IsWatched content at
  d = attached at slot l w

  pub other_in : Contains (literals_of content at) other
  other_in = elim (cases_eq slot 0) [
    | inl z ↦ subst (Contains (literals_of content at)) (one_watched content at 1 d.second other whole d.watches_second (subst (λ (s : ℕ). Watches content at (1 - s) other) z v)) d.second_in
    | inr n ↦ let z : slot ≡ 1 = omega arith in subst (Contains (literals_of content at)) (one_watched content at 0 d.first other whole d.watches_first (subst (λ (s : ℕ). Watches content at (1 - s) other) z v)) d.first_in
  ]

  pub this_in : Contains (literals_of content at) l
  this_in = elim (cases_eq slot 0) [
    | inl z ↦ subst (Contains (literals_of content at)) (one_watched content at 0 d.first l whole d.watches_first (subst (λ (s : ℕ). Watches content at s l) z w)) d.first_in
    | inr n ↦ let z : slot ≡ 1 = omega arith in subst (Contains (literals_of content at)) (one_watched content at 1 d.second l whole d.watches_second (subst (λ (s : ℕ). Watches content at s l) z w)) d.second_in
  ]

-- a watch moves from a false literal to one that isn't false
module _ (content later : Content) (a : List ℕ) (at slot f l other : ℕ) (b : slot < 2) (whole : IsWhole content) (attached : IsAttached content) (consistent : IsConsistent a) (falsified : Contains a (negated f))
    (w : Watches content at slot f) (v : Watches content at (1 - slot) other) (clauses : later.clauses ≡ content.clauses) (size : length later.chains ≡ length content.chains)
    (free : IsFalse a l → ⊥) (different : l ≢ other) (in' : Contains (literals_of content at) l)
    (now : (m : ℕ) → Watches later at slot m ↔ (m ≡ l)) (others : (r s m : ℕ) → (r ≡ at → s ≢ slot) → Watches later r s m ↔ Watches content r s m) where
  same_literals : (r : ℕ) → literals_of later r ≡ literals_of content r
  same_literals r = ap (λ (cs : List Clause). literals_in (clause_among cs r)) clauses

  apart : (r : ℕ) → r ≡ at → (1 - slot) ≢ slot
  apart r e z = absurd (omega arith)

  watched_now : IsWatched later at
  watched_now = elim (cases_eq slot 0) [
    | inl z ↦ record {
      first = l;
      second = other;
      watches_first = subst (λ (s : ℕ). Watches later at s l) z ((now l).1 refl);
      watches_second = (others at 1 other (λ e y. absurd (omega arith))).1 (subst (λ (s : ℕ). Watches content at (1 - s) other) z v);
      different = different;
      first_in = rw (same_literals at) in';
      second_in = rw (same_literals at) (other_in content at slot f other b whole attached w v);
    }
    | inr n ↦
        let z : slot ≡ 1 = omega arith in
        record {
          first = other;
          second = l;
          watches_first = (others at 0 other (λ e y. absurd (omega arith))).1 (subst (λ (s : ℕ). Watches content at (1 - s) other) z v);
          watches_second = subst (λ (s : ℕ). Watches later at s l) z ((now l).1 refl);
          different = λ e. different (sym e);
          first_in = rw (same_literals at) (other_in content at slot f other b whole attached w v);
          second_in = rw (same_literals at) in';
        }
  ]

  pub watched_later : (r : ℕ) → IsWatched content r → IsWatched later r
  watched_later r d = elim (cases_eq r at) [
    | inl e ↦ rw e watched_now
    | inr n ↦ record {
      first = d.first;
      second = d.second;
      watches_first = (others r 0 d.first (λ e. absurd (n e))).1 d.watches_first;
      watches_second = (others r 1 d.second (λ e. absurd (n e))).1 d.watches_second;
      different = d.different;
      first_in = rw (same_literals r) d.first_in;
      second_in = rw (same_literals r) d.second_in;
    }
  ]

  pub attached_later : IsAttached later
  attached_later r s m x = elim (cases_eq r at) [
    | inl e ↦ rw e watched_now
    | inr n ↦ watched_later r (attached r s m ((others r s m (λ e. absurd (n e))).0 x))
  ]

  -- a watch of another slot is as before, or is this slot's, whose literal isn't false
  here : (r s : ℕ) → ((r ≡ at) × (s ≡ slot)) ⊎ (r ≡ at → s ≢ slot)
  here r s = elim (cases_eq r at) [
    | inl e ↦ elim (cases_eq s slot) [ inl g ↦ inl (e, g) | inr n ↦ inr (λ y. n) ]
    | inr n ↦ inr (λ y. absurd (n y))
  ]

  not_here : (r s m : ℕ) → Watches later r s m → Contains a (negated m) → (r ≡ at → s ≢ slot)
  not_here r s m x c = elim (here r s) [
    | inl e ↦ absurd (free (subst (λ (k : ℕ). Contains a (negated k)) ((now m).0 (subst (λ (k : ℕ). Watches later at k m) e.1 (subst (λ (k : ℕ). Watches later k s m) e.0 x))) c))
    | inr n ↦ n
  ]

  other_true : (c : List ℕ) (r s : ℕ) → ((k : ℕ) → Contains c k → Contains a k) → IsOtherTrue content c r s → IsOtherTrue later c r s
  other_true c r s part t = elim (here r (1 - s)) [
    | inl e ↦
        let x : Watches content at slot t.0 = subst (λ (k : ℕ). Watches content at k t.0) e.1 (subst (λ (k : ℕ). Watches content k (1 - s) t.0) e.0 t.1.0) in
        absurd (consistent f (subst (Contains a) (one_watched content at slot t.0 f whole x w) (part t.0 t.1.1)) falsified)
    | inr n ↦ (t.0, ((others r (1 - s) t.0 n).1 t.1.0, t.1.1))
  ]

  pub rule_later : (p c : List ℕ) → ((k : ℕ) → Contains p k → Contains a k) → ((k : ℕ) → Contains c k → Contains a k) → RuleUpTo content p c → RuleUpTo later p c
  rule_later p c before part h r s m x y =
      let n : r ≡ at → s ≢ slot = not_here r s m x (before (negated m) y) in
      other_true c r s part (h r s m ((others r s m n).0 x) y)

  pub due_later : (p : List ℕ) (rest : List (ℕ × ℕ)) → ((k : ℕ) → Contains p k → Contains a k) → Due content p a f ((at, slot) ∷ rest) → Due later p a f rest
  due_later p rest before h r s m x y =
      let n : r ≡ at → s ≢ slot = not_here r s m x (before (negated m) y) in
      elim (h r s m ((others r s m n).0 x) y) [
        | inl e ↦ elim (Contains-cases (at, slot) rest (r, s) e.1) [
          | inl g ↦ absurd (n (ap (λ (p : ℕ × ℕ). p.0) (sym g)) (ap (λ (p : ℕ × ℕ). p.1) (sym g)))
          | inr c ↦ inl (e.0, c)
        ]
        | inr t ↦ inr (other_true a r s (λ k c. c) t)
      ]

-- the other literal is true, or becomes so
module _ (content : Content) (p a c : List ℕ) (at slot f other : ℕ) (more : (k : ℕ) → Contains a k → Contains c k) (v : Watches content at (1 - slot) other) (is : Contains c other) where
  pub due_true : (rest : List (ℕ × ℕ)) → Due content p a f ((at, slot) ∷ rest) → Due content p c f rest
  due_true rest h r s m x y = elim (h r s m x y) [
    | inl e ↦ elim (Contains-cases (at, slot) rest (r, s) e.1) [
      | inl g ↦
          let i : r ≡ at = ap (λ (p : ℕ × ℕ). p.0) (sym g) in
          let j : s ≡ slot = ap (λ (p : ℕ × ℕ). p.1) (sym g) in
          inr (other, (rw (i, j) v, is))
      | inr d ↦ inl (e.0, d)
    ]
    | inr t ↦ inr (t.0, (t.1.0, more t.0 t.1.1))
  ]

-- `IsLater` where nothing changed, where a watch moved, and where a literal became true
pub later_same : (content : Content) (a : List ℕ) (r : List (Option ℕ)) → length r ≡ length a → IsLater content a r content a r
later_same content a r e = record {
  clauses = refl;
  size = refl;
  attached = λ h. h;
  watched = λ at h. h;
  literals = λ h. h;
  longer = omega arith;
  prefix = take_all (length a) a (omega arith);
  aligned = e;
  reasons_kept = take_all (length a) r (omega (arith, e));
  kept = λ n b h. h;
  because = λ k b c. absurd (omega arith);
}

pub later_moved : (content later : Content) (a : List ℕ) (r : List (Option ℕ)) → length r ≡ length a → later.clauses ≡ content.clauses → length later.chains ≡ length content.chains → IsAttached later → ((at : ℕ) → IsWatched content at → IsWatched later at) → ((p c : List ℕ) → ((k : ℕ) → Contains p k → Contains a k) → ((k : ℕ) → Contains c k → Contains a k) → RuleUpTo content p c → RuleUpTo later p c) → IsLater content a r later a r
later_moved content later a r e c s t v u = record {
  clauses = c;
  size = s;
  attached = λ h. t;
  watched = v;
  literals = λ h. All-weaker (HasLiteral content) (HasLiteral later) (λ l k. omega (arith, s)) a h;
  longer = omega arith;
  prefix = take_all (length a) a (omega arith);
  aligned = e;
  reasons_kept = take_all (length a) r (omega (arith, e));
  kept = λ n b h. u (take n a) (take n a) (λ k. Contains-part n a k) (λ k. Contains-part n a k) h;
  because = λ k b d. absurd (omega arith);
}

pub later_set : (content : Content) (a : List ℕ) (r : List (Option ℕ)) (l reason : ℕ) → length r ≡ length a → HasLiteral content l → HasClause content reason → IsUnit a (literals_of content reason) l → IsLater content a r content (a ++ l ∷ []) (r ++ Some reason ∷ [])
later_set content a r l reason al known clause unit = record {
  clauses = refl;
  size = refl;
  attached = λ h. h;
  watched = λ at h. h;
  literals = λ h. All-push (HasLiteral content) a l h known;
  longer = omega (arith, length-append a (l ∷ []));
  prefix = take_at a (l ∷ []) (length a) refl;
  aligned = omega (arith, al, length-append a (l ∷ []), length-append r (Some reason ∷ []));
  reasons_kept = take_at r (Some reason ∷ []) (length a) al;
  kept = λ n b h. subst (λ (xs : List ℕ). Rule content xs) (sym (take-append-le n a (l ∷ []) b)) h;
  because = λ k b c.
      let e : k ≡ length a = omega (arith, length-append a (l ∷ [])) in (
        reason,
        entry_last r (Some reason) k (e ∙ sym al),
        record {
          clause = clause;
          unit = subst (λ (n : ℕ). IsUnit (take n (a ++ l ∷ [])) (literals_of content reason) (get_or (a ++ l ∷ []) n 0)) (sym e) (rw (take_at a (l ∷ []) (length a) refl, get_or_push a l 0 (length a) refl) unit);
        },
      );
}
  where
    entry_last : (xs : List (Option ℕ)) (x : Option ℕ) (k : ℕ) → k ≡ length xs → slice_get (xs ++ x ∷ []) k ≡ Some x
    entry_last [] x k e = rw e refl
    entry_last (y ∷ xs) x k e = rw e (entry_last xs x (length xs) refl)

pub reason_later : (earlier later : Content) (a b : List ℕ) (k reason : ℕ) → later.clauses ≡ earlier.clauses → take (length a) b ≡ a → k < length a → IsReason earlier a k reason → IsReason later b k reason
reason_later earlier later a b k reason e f i h =
    let t : take k b ≡ take k a = sym (take-take k (length a) b (omega arith)) ∙ ap (λ (xs : List ℕ). take k xs) f in
    let n : get_or b k 0 ≡ get_or a k 0 = sym (get_or-take (length a) b k 0 i) ∙ ap (λ (xs : List ℕ). get_or xs k 0) f in
    record {
      clause = subst (λ (cs : List Clause). Contains (map (λ (c : Clause). c.at) cs) reason) (sym e) h.clause;
      unit = rw (t, n) (subst (λ (cs : List Clause). IsUnit (take k a) (literals_in (clause_among cs reason)) (get_or a k 0)) (sym e) h.unit);
    }

-- an entry within a common prefix
pub entry_kept : (xs ys : List (Option ℕ)) (n k : ℕ) (x : Option ℕ) → take n ys ≡ xs → k < n → slice_get xs k ≡ Some x → slice_get ys k ≡ Some x
entry_kept xs ys n k x e b f = entry_of_take ys n k b (subst (λ (zs : List (Option ℕ)). slice_get zs k ≡ Some x) (sym e) f)
  where
    entry_of_take : (zs : List (Option ℕ)) (m j : ℕ) → j < m → slice_get (take m zs) j ≡ Some x → slice_get zs j ≡ Some x
    entry_of_take [] zero j c g = g
    entry_of_take [] (suc m) j c g = g
    entry_of_take (z ∷ zs) zero j c g = absurd (omega arith)
    entry_of_take (z ∷ zs) (suc m) zero c g = g
    entry_of_take (z ∷ zs) (suc m) (suc j) c g = entry_of_take zs m j (omega arith) g

pub later_after : (first second third : Content) (a b c : List ℕ) (r s t : List (Option ℕ)) → IsLater first a r second b s → IsLater second b s third c t → IsLater first a r third c t
later_after first second third a b c r s t h g = record {
  clauses = g.clauses ∙ h.clauses;
  size = g.size ∙ h.size;
  attached = λ x. g.attached (h.attached x);
  watched = λ at x. g.watched at (h.watched at x);
  literals = λ x. g.literals (h.literals x);
  longer = omega (arith, h.longer, g.longer);
  prefix = sym (take-take (length a) (length b) c h.longer) ∙ (ap (λ (xs : List ℕ). take (length a) xs) g.prefix ∙ h.prefix);
  aligned = g.aligned;
  reasons_kept = sym (take-take (length a) (length b) t h.longer) ∙ (ap (λ (xs : List (Option ℕ)). take (length a) xs) g.reasons_kept ∙ h.reasons_kept);
  kept = λ n k x. g.kept n (omega (arith, h.longer)) (h.kept n k x);
  because = λ k l m. elim (cases_lt k (length b)) [
    | inl i ↦
        let w = h.because k l i in
        (w.0, entry_kept s t (length b) k (Some w.0) g.reasons_kept i w.1, reason_later second third b c k w.0 g.clauses g.prefix i w.2)
    | inr i ↦ g.because k i m
  ];
}

pub part_of_longer : (a b : List ℕ) → take (length a) b ≡ a → (k : ℕ) → Contains a k → Contains b k
part_of_longer a b e k c = Contains-part (length a) b k (subst (λ (xs : List ℕ). Contains xs k) (sym e) c)

-- a watch that stands in a chain
module _ (content : Content) (before : Option (ℕ × ℕ)) (watch : ℕ × ℕ) (f : ℕ) (seen rest : List (ℕ × ℕ)) (whole : IsWhole content) (h : IsAfter content before watch f seen rest) where
  pub stands : Watches content watch.0 watch.1 f
  stands = (h.between.literal_known, subst (λ (xs : List (ℕ × ℕ)). Contains xs watch) (sym h.between.chain) (Contains-append_right seen (watch ∷ rest) watch (Contains-first watch rest)))

  pub stands_in : HasClause content watch.0 × (watch.1 < 2)
  stands_in = whole.slots f watch stands.0 stands.1

  -- the case in which it moves
  module _ (later : Content) (a : List ℕ) (r : List (Option ℕ)) (aligned : length r ≡ length a) (l other : ℕ) (attached : IsAttached content) (consistent : IsConsistent a) (falsified : Contains a (negated f)) (v : Watches content watch.0 (1 - watch.1) other)
      (free : IsFalse a l → ⊥) (different : l ≢ other) (in' : Contains (literals_of content watch.0) l)
      (chain : (m : ℕ) (xs ys : List (ℕ × ℕ)) → IsAfter content before watch m xs ys → later ≡ watched (with_chain content m (xs ++ ys)) watch.0 watch.1 l)
      (now : (m : ℕ) → Watches later watch.0 watch.1 m ↔ (m ≡ l)) (others : (r s m : ℕ) → (r ≡ watch.0 → s ≢ watch.1) → Watches later r s m ↔ Watches content r s m) where
    is : later ≡ watched (with_chain content f (seen ++ rest)) watch.0 watch.1 l
    is = chain f seen rest h

    clauses : later.clauses ≡ content.clauses
    clauses = ap (λ (x : Content). x.clauses) is

    abbrev without : List (List (ℕ × ℕ))
    without = set content.chains f (seen ++ rest)

    size : length later.chains ≡ length content.chains
    size = ap (λ (x : Content). length x.chains) is ∙ (length-set without l (watch ∷ get_or without l []) ∙ length-set content.chains f (seen ++ rest))

    pub moved_later : IsLater content a r later a r
    moved_later = later_moved content later a r aligned clauses size
        (attached_later content later a watch.0 watch.1 f l other stands_in.1 whole attached consistent falsified stands v clauses size free different in' now others)
        (watched_later content later a watch.0 watch.1 f l other stands_in.1 whole attached consistent falsified stands v clauses size free different in' now others)
        (rule_later content later a watch.0 watch.1 f l other stands_in.1 whole attached consistent falsified stands v clauses size free different in' now others)

    another : f ≢ l
    another e = free (subst (λ (k : ℕ). Contains a (negated k)) e falsified)

    pub moved : IsMoved content later a f before watch
    moved = record {
      due = λ p ys part d. due_later content later a watch.0 watch.1 f l other stands_in.1 whole attached consistent falsified stands v clauses size free different in' now others p ys part d;
      chain = λ xs ys g.
          ap (λ (x : Content). chain_of x f) (chain f xs ys g)
          ∙ (get_or-set_other (set content.chains f (xs ++ ys)) l f (watch ∷ get_or (set content.chains f (xs ++ ys)) l []) [] another ∙ get_or-set_same content.chains f (xs ++ ys) [] h.between.literal_known);
    }

-- a clause of which only the other watched literal isn't false
pub unit_of : (a literals : List ℕ) (other l : ℕ) → Contains literals other → All (λ m. (m ≡ other) ⊎ IsFalse a m) literals → (Contains a l → ⊥) → (Contains a (negated l) → ⊥) → l ≡ other → IsUnit a literals l
unit_of a literals other l i o n m e = record {
  member = subst (Contains literals) (sym e) i;
  unset = (n, m);
  others = subst (λ (k : ℕ). All (λ x. (x ≡ k) ⊎ IsFalse a x) literals) (sym e) o;
}
