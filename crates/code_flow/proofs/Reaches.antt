-- Marking what is reached: one place, the ways of a place, and all.
use Rattle.std.proofs.Common.{◌≡◌, ◌∙◌, ◌⊎◌, inl, inr, ℕ, zero, suc, ◌+◌, ◌<◌, ◌==◌, ◌||◌, Bool, true, false, List, [], ◌∷◌, ◌++◌, length, length-append, replicate, refl, sym, ap, subst, arith, eq-eqb, eqb-true, Some}
use Rattle.std.specs.Prelude.{slice_get, slice_set}
use Rattle.std.proofs.lemmas.List.{length-set, length-replicate}
use Rattle.std.proofs.lemmas.Bool.{cases_lt, or_left, or_right, or_cases}
use Rattle.std.proofs.lemmas.Option.{slice_get_past, same_Some}
use Rattle.thumb_instr.specs.Items.{one_of}
use Rattle.thumb_instr.proofs.Listed.{one_of_append}
use Rattle.thumb_model.specs.Listing.{Code, IsPoint}
use Rattle.thumb_model.specs.Flow.{Way as ModelWay, Leads, Onward, ToPlace, AnyPoint, Out, ways, ways_on, Follows, Reached, point, along}
use Rattle.code_flow.specs.declared.way.Next.{Next}
use Rattle.code_flow.specs.declared.way.Way.{Way}
use Rattle.code_flow.specs.declared.reaching.Reaching.{Reaching}
use Rattle.code_flow.specs.Flow.{next_of, AreWays}
use Rattle.code_flow.specs.Marks.{AreMarks}
use Rattle.kept_places.specs.Marks.{marked}
use Rattle.code_flow.specs.Reaching.{unmarked, left, GoesTo, IsFollowed, HasAllPoints, IsReaching, MarksMore}
use Rattle.kept_places.proofs.Ranks.{unmarked as none_marked}
use Rattle.code_flow.proofs.Marking.{marks_one, marked_is}

-- ---- truths ----

pub is_one : (q p : ℕ) → q ≡ p → one_of q (p ∷ []) ≡ true
is_one q p e = or_left _ _ (eq-eqb q p e)

pub one_is : (q p : ℕ) → one_of q (p ∷ []) ≡ true → q ≡ p
one_is q p h = elim (or_cases (q == p) false h) [
  | inl e ↦ eqb-true q p e
  | inr e ↦ absurd (cc)
]

pub in_both : (q p : ℕ) (xs : List ℕ) → one_of q (xs ++ p ∷ []) ≡ true → (one_of q xs ≡ true) ⊎ (q ≡ p)
in_both q p xs h = elim (or_cases (one_of q xs) (one_of q (p ∷ [])) (sym (one_of_append q xs (p ∷ [])) ∙ h)) [
  | inl o ↦ inl o
  | inr o ↦ inr (one_is q p o)
]

in_front : (q p : ℕ) (xs : List ℕ) → one_of q xs ≡ true → one_of q (xs ++ p ∷ []) ≡ true
in_front q p xs h = one_of_append q xs (p ∷ []) ∙ or_left _ _ h

is_last : (q p : ℕ) (xs : List ℕ) → q ≡ p → one_of q (xs ++ p ∷ []) ≡ true
is_last q p xs h = one_of_append q xs (p ∷ []) ∙ or_right (one_of q xs) _ (is_one q p h)

none_in : (q : ℕ) (xs : List ℕ) → xs ≡ [] → one_of q xs ≡ true → ⊥
none_in q xs e h = let f : one_of q xs ≡ false = ap (one_of q) e in absurd (cc)

-- ---- how many are not marked ----

none_yet : (n : ℕ) → unmarked (replicate n false) ≡ n
unfolding unmarked
none_yet zero = refl
none_yet (suc n) = let h = none_yet n in omega arith

one_less : (ms : List Bool) (p : ℕ) → p < length ms → marked ms p ≡ false → unmarked (slice_set ms p true) + 1 ≡ unmarked ms
unfolding unmarked
one_less [] p h f = absurd (omega arith)
one_less (true ∷ ms) zero h f = absurd (cc)
one_less (false ∷ ms) zero h f = refl
one_less (true ∷ ms) (suc p) h f = one_less ms p (omega arith) f
one_less (false ∷ ms) (suc p) h f = let r = one_less ms p (omega arith) f in omega arith

-- ---- one place ----

-- a place is marked, and waits
pub record IsMarkedToo (r : Reaching) (p : ℕ) (s : Reaching) : Type 0 where
  pub within : p < length r.marks.items
  pub new : marked r.marks.items p ≡ false
  pub waits : s.waiting.items ≡ r.waiting.items ++ p ∷ []
  pub marks : s.marks.items ≡ slice_set r.marks.items p true

one_more : (r s : Reaching) (p q : ℕ) → IsMarkedToo r p s → marked s.marks.items q ≡ (marked r.marks.items q || (q == p))
one_more r s p q m = ap (λ (ms : List Bool). marked ms q) m.marks ∙ marks_one r.marks.items p q m.within

pub marks_more : (r s : Reaching) (p : ℕ) → IsMarkedToo r p s → MarksMore r s
marks_more r s p m = record {
  len = ap length m.marks ∙ length-set r.marks.items p true;
  kept = λ q h. one_more r s p q m ∙ or_left _ _ h;
  left =
      let most = one_less r.marks.items p m.within m.new in
      let same = ap unmarked m.marks in
      let longer = ap length m.waits ∙ length-append r.waiting.items (p ∷ []) in
      omega arith;
}

pub marks_here : (r s : Reaching) (p : ℕ) → IsMarkedToo r p s → marked s.marks.items p ≡ true
marks_here r s p m = one_more r s p p m ∙ or_right (marked r.marks.items p) (p == p) (eq-eqb p p refl)

still_followed : (code : Code) (r s : Reaching) (p : ℕ) → MarksMore r s → IsFollowed code r.marks.items p → IsFollowed code s.marks.items p
still_followed code r s p m f k w q e g l = m.kept q (f k w q e g (let same = m.len in omega arith))

pub still_reaching : (code : Code) (others : List ℕ) (r s : Reaching) (p : ℕ) → IsMarkedToo r p s → Reached code p → IsReaching code others r → IsReaching code others s
still_reaching code others r s p m reached a = record {
  len = more.len ∙ a.len;
  sound = λ q h. elim (either q h) [
    | inl o ↦ a.sound q o
    | inr e ↦ subst (Reached code) (sym e) reached
  ];
  waiting = λ q h. elim (in_both q p r.waiting.items (sym (ap (one_of q) m.waits) ∙ h)) [
    | inl o ↦ more.kept q (a.waiting q o)
    | inr e ↦ subst (λ (n : ℕ). marked s.marks.items n ≡ true) (sym e) (marks_here r s p m)
  ];
  followed = λ q h. elim (either q h) [
    | inl o ↦ elim (a.followed q o) [
      | inl w ↦ inl (ap (one_of q) m.waits ∙ in_front q p r.waiting.items w)
      | inr w ↦ elim w [
        | inl t ↦ inr (inl t)
        | inr f ↦ inr (inr (still_followed code r s q more f))
      ]
    ]
    | inr e ↦ inl (ap (one_of q) m.waits ∙ is_last q p r.waiting.items e)
  ];
}
  where
    more : MarksMore r s
    more = marks_more r s p m

    either : (q : ℕ) → marked s.marks.items q ≡ true → (marked r.marks.items q ≡ true) ⊎ (q ≡ p)
    either q h = elim (or_cases (marked r.marks.items q) (q == p) (sym (one_more r s p q m) ∙ h)) [
      | inl o ↦ inl o
      | inr e ↦ inr (eqb-true q p e)
    ]

-- ---- the ways of a place ----

goes_along : (code : Code) (p : ℕ) (l : Leads) (q : ℕ) → GoesTo (next_of p l) q → Follows code p l q
goes_along code p Onward q g = g
goes_along code p (ToPlace r) q g = g
goes_along code p AnyPoint q g = absurd g
goes_along code p Out q g = absurd g

goes_or_point : (code : Code) (p : ℕ) (l : Leads) (q : ℕ) → Follows code p l q → GoesTo (next_of p l) q ⊎ IsPoint code q
goes_or_point code p Onward q g = inl g
goes_or_point code p (ToPlace r) q g = inl g
goes_or_point code p AnyPoint q g = inr g
goes_or_point code p Out q g = absurd g

-- where the ways go is reached
abbrev pub GoToReached : Code → List Way → Type 0
GoToReached code [] = Unit {0}
GoToReached code (w ∷ ws) = ((q : ℕ) → GoesTo w.next q → Reached code q) × GoToReached code ws

go_to_reached : (code : Code) (p : ℕ) (ms : List ModelWay) (ws : List Way) → ((k : ℕ) (m : ModelWay) (q : ℕ) → slice_get ms k ≡ Some m → Follows code p m.leads q → Reached code q) → AreWays p ms ws → GoToReached code ws
go_to_reached code p [] [] r a = tt
go_to_reached code p [] (w ∷ ws) r a = absurd a
go_to_reached code p (m ∷ ms) [] r a = absurd a
go_to_reached code p (m ∷ ms) (w ∷ ws) r a = (
  λ q g. r 0 m q refl (goes_along code p m.leads q (subst (λ (n : Next). GoesTo n q) a.0.leads g)),
  go_to_reached code p ms ws (λ k v q e f. r (suc k) v q e f) a.1,
)

pub ways_go_to_reached : (code : Code) (p : ℕ) (ws : List Way) → Reached code p → AreWays p (ways code p) ws → GoToReached code ws
ways_go_to_reached code p ws r a = go_to_reached code p (ways code p) ws (λ k m q e f. along p k m q r e f) a

-- where the ways go is marked
abbrev pub GoToMarked : List Bool → List Way → Type 0
GoToMarked marks [] = Unit {0}
GoToMarked marks (w ∷ ws) = ((q : ℕ) → GoesTo w.next q → q < length marks → marked marks q ≡ true) × GoToMarked marks ws

are_marked : (code : Code) (marks : List Bool) (p : ℕ) (ms : List ModelWay) (ws : List Way) → HasAllPoints code marks → AreWays p ms ws → GoToMarked marks ws
    → (k : ℕ) (m : ModelWay) (q : ℕ) → slice_get ms k ≡ Some m → Follows code p m.leads q → q < length marks → marked marks q ≡ true
are_marked code marks p [] ws points a g k m q e f l = absurd (cc)
are_marked code marks p (n ∷ ms) [] points a g k m q e f l = absurd a
are_marked code marks p (n ∷ ms) (w ∷ ws) points a g zero m q e f l =
    elim (goes_or_point code p n.leads q (subst (λ (v : ModelWay). Follows code p v.leads q) (sym (same_Some n m e)) f)) [
      | inl t ↦ g.0 q (subst (λ (v : Next). GoesTo v q) (sym a.0.leads) t) l
      | inr o ↦ points q o l
    ]
are_marked code marks p (n ∷ ms) (w ∷ ws) points a g (suc k) m q e f l = are_marked code marks p ms ws points a.1 g.1 k m q e f l

-- a place whose ways go to marked places needs no visit any more
pub all_followed : (code : Code) (p : ℕ) (ws : List Way) (r s : Reaching) → HasAllPoints code r.marks.items → MarksMore r s → AreWays p (ways code p) ws → GoToMarked s.marks.items ws → IsReaching code (p ∷ []) s → IsReaching code [] s
all_followed code p ws r s points more a g t = record {
  len = t.len;
  sound = t.sound;
  waiting = t.waiting;
  followed = λ q h. elim (t.followed q h) [
    | inl w ↦ inl w
    | inr w ↦ elim w [
      | inl o ↦ inr (inr (subst (IsFollowed code s.marks.items) (sym (one_is q p o)) here))
      | inr f ↦ inr (inr f)
    ]
  ];
}
  where
    here : IsFollowed code s.marks.items p
    here = are_marked code s.marks.items p (ways code p) ws (λ q o l. more.kept q (points q o (let same = more.len in omega arith))) a g

more_more : (r s t : Reaching) → MarksMore r s → MarksMore s t → MarksMore r t
more_more r s t m n = record { len = n.len ∙ m.len; kept = λ q h. n.kept q (m.kept q h); left = n.left ∙ m.left }

-- a way goes to a marked place
abbrev pub Arrives : Way → ℕ → List Bool → Type 0
Arrives w most marks = (q : ℕ) → GoesTo w.next q → q < most → marked marks q ≡ true

pub one_followed : (code : Code) (p : ℕ) (w : Way) (r s : Reaching) → HasAllPoints code r.marks.items → MarksMore r s → AreWays p (ways code p) (w ∷ []) → Arrives w (length r.marks.items) s.marks.items → IsReaching code (p ∷ []) s → IsReaching code [] s
one_followed code p w r s points m a arrives t = all_followed code p (w ∷ []) r s points m a (λ q g l. arrives q g (let same = m.len in omega arith), tt) t

pub two_followed : (code : Code) (p : ℕ) (v w : Way) (r s t : Reaching) → HasAllPoints code r.marks.items → MarksMore r s → MarksMore s t → AreWays p (ways code p) (v ∷ w ∷ []) → Arrives v (length r.marks.items) s.marks.items
    → Arrives w (length s.marks.items) t.marks.items → IsReaching code (p ∷ []) t → IsReaching code [] t
two_followed code p v w r s t points m n a first second i =
    all_followed code p (v ∷ w ∷ []) r t points (more_more r s t m n) a
    (λ q g l. n.kept q (first q g (let same = m.len in let too = n.len in omega arith)), (λ q g l. second q g (let too = n.len in omega arith), tt)) i

-- ---- all ----

-- at first nothing is marked
pub begun : (code : Code) (n : ℕ) (r : Reaching) → n ≡ length code.places → r.marks.items ≡ replicate n false → r.waiting.items ≡ [] → IsReaching code [] r
begun code n r as_many marks waiting = record {
  len = ap length marks ∙ length-replicate n false ∙ as_many;
  sound = λ q h. absurd (unmarked_all q h);
  waiting = λ q h. absurd (none_in q r.waiting.items waiting h);
  followed = λ q h. absurd (unmarked_all q h);
}
  where
    unmarked_all : (q : ℕ) → marked r.marks.items q ≡ true → ⊥
    unmarked_all q h = let f : marked r.marks.items q ≡ false = ap (λ (ms : List Bool). marked ms q) marks ∙ none_marked n q in absurd (cc)

pub all_left : (n : ℕ) (r : Reaching) → r.marks.items ≡ replicate n false → r.waiting.items ≡ [] → left r ≡ n
all_left n r marks waiting = let many = ap unmarked marks ∙ none_yet n in let none = ap length waiting in omega arith

-- the place that waited last is taken
pub taken : (code : Code) (r s : Reaching) (p : ℕ) → r.waiting.items ≡ s.waiting.items ++ p ∷ [] → s.marks.items ≡ r.marks.items → IsReaching code [] r → IsReaching code (p ∷ []) s
taken code r s p waits same a = record {
  len = ap length same ∙ a.len;
  sound = λ q h. a.sound q (of_old q h);
  waiting = λ q h. ap (λ (ms : List Bool). marked ms q) same ∙ a.waiting q (ap (one_of q) waits ∙ in_front q p s.waiting.items h);
  followed = λ q h. elim (a.followed q (of_old q h)) [
    | inl w ↦ elim (in_both q p s.waiting.items (sym (ap (one_of q) waits) ∙ w)) [
      | inl o ↦ inl o
      | inr e ↦ inr (inl (is_one q p e))
    ]
    | inr w ↦ elim w [
      | inl o ↦ absurd (none_in q [] refl o)
      | inr f ↦ inr (inr (subst (λ (ms : List Bool). IsFollowed code ms q) (sym same) f))
    ]
  ];
}
  where
    of_old : (q : ℕ) → marked s.marks.items q ≡ true → marked r.marks.items q ≡ true
    of_old q h = sym (ap (λ (ms : List Bool). marked ms q) same) ∙ h

pub was_marked : (code : Code) (r : Reaching) (rest : List ℕ) (p : ℕ) → r.waiting.items ≡ rest ++ p ∷ [] → IsReaching code [] r → marked r.marks.items p ≡ true
was_marked code r rest p waits a = a.waiting p (ap (one_of p) waits ∙ is_last p p rest refl)

-- only a place below the end has ways
has_ways : (code : Code) (p k : ℕ) (m : ModelWay) → slice_get (ways code p) k ≡ Some m → p < length code.places
has_ways code p k m e = elim (cases_lt p (length code.places)) [
  | inl l ↦ l
  | inr g ↦ absurd (no_way k (sym (ap (λ (ms : List ModelWay). slice_get ms k) (ap (ways_on code) (slice_get_past code.places p g))) ∙ e))
]
  where
    no_way : (j : ℕ) → slice_get [] j ≡ Some m → ⊥
    no_way j h = absurd (cc)

-- where nothing waits, each place that is reached is marked
complete : (code : Code) (r : Reaching) → IsReaching code [] r → HasAllPoints code r.marks.items → r.waiting.items ≡ [] → (q : ℕ) → Reached code q → q < length r.marks.items → marked r.marks.items q ≡ true
complete code r a points none q (point p h) l = points p h l
complete code r a points none q (along p k w t before e f) l =
    let within : p < length r.marks.items = (let some = has_ways code p k w e in let same = a.len in omega arith) in
    elim (a.followed p (complete code r a points none p before within)) [
      | inl o ↦ absurd (none_in p r.waiting.items none o)
      | inr o ↦ elim o [
        | inl n ↦ absurd (none_in p [] refl n)
        | inr g ↦ g k w t e f l
      ]
    ]

pub marks_reached : (code : Code) (r : Reaching) → IsReaching code [] r → HasAllPoints code r.marks.items → r.waiting.items ≡ [] → AreMarks code r.marks.items
marks_reached code r a points none = record {
  len = a.len;
  says = λ p mark e. (
    λ t. a.sound p (marked_is r.marks.items p mark e ∙ t),
    λ t. sym (marked_is r.marks.items p mark e) ∙ complete code r a points none p t (marked_some r.marks.items p mark e),
  );
}
  where
    marked_some : (ms : List Bool) (q : ℕ) (mark : Bool) → slice_get ms q ≡ Some mark → q < length ms
    marked_some [] q mark e = absurd (cc)
    marked_some (m ∷ ms) zero mark e = omega arith
    marked_some (m ∷ ms) (suc q) mark e = let r = marked_some ms q mark e in omega arith

-- the code points before one more are marked
pub points_next : (code : Code) (marks : List Bool) (i : ℕ) → ((q : ℕ) → q < i → IsPoint code q → marked marks q ≡ true) → (IsPoint code i → marked marks i ≡ true) → (q : ℕ) → q < i + 1 → IsPoint code q → marked marks q ≡ true
points_next code marks i below here q l o = elim (cases_lt q i) [
  | inl h ↦ below q h o
  | inr h ↦ let e : q ≡ i = omega arith in subst (λ (n : ℕ). marked marks n ≡ true) (sym e) (here (subst (IsPoint code) e o))
]
