-- Links from place to place, and the first of the gone places before a kept one.
use Rattle.std.proofs.Common.{◌≡◌, ◌≢◌, ◌↔◌, ℕ, ◌+◌, ◌<◌, ◌≤◌, Bool, true, false, List, length, replicate, sym, ap, ◌∙◌, inl, inr, subst, arith}
use Rattle.std.specs.Prelude.{slice_set, slice_index}
use Rattle.std.proofs.lemmas.Bool.{cases_eq, cases_order, false_from_ne_true}
use Rattle.std.proofs.lemmas.List.{length-set, length-replicate, get_or-set_same, get_or-set_other}
use Rattle.kept_places.specs.Marks.{is_gone, IsNode, IsStart}
use Rattle.kept_places.specs.Kept.{LeadOn, EndsAt, LeadAlike, LeadOnFrom, AreStarts}
use Rattle.kept_places.proofs.Ranks.{marked_set, marked_other, unmarked}

-- the way from p comes by q
pub record ComesBy (next : List ℕ) (p q : ℕ) : Type 0 where
  pub from : p ≤ q
  pub within : q < length next
  pub between : (k : ℕ) → p ≤ k → k < q → k < slice_index next k

-- what is put at a place, and what stands elsewhere
put_here : (xs : List ℕ) (p x : ℕ) → p < length xs → slice_index (slice_set xs p x) p ≡ x
put_here xs p x h = get_or-set_same xs p x 0 h

put_else : (xs : List ℕ) (p x q : ℕ) → q ≢ p → slice_index (slice_set xs p x) q ≡ slice_index xs q
put_else xs p x q d = get_or-set_other xs p q x 0 d

-- a place may lead to any later one, if all places between lead on
pub led_to : (next : List ℕ) (p q : ℕ) → LeadOn next → p < q → q < length next → ((k : ℕ) → p < k → k < q → k < slice_index next k) → LeadOn (slice_set next p q)
led_to next p q l h w b = record { from = from; within = within; between = between }
  where
    many : length (slice_set next p q) ≡ length next
    many = length-set next p q

    within_p : p < length next
    within_p = omega arith

    from : (k : ℕ) → k < length (slice_set next p q) → k ≤ slice_index (slice_set next p q) k
    from k s = elim (cases_eq k p) [
      | inl e ↦ let x : slice_index (slice_set next p q) k ≡ q = ap (slice_index (slice_set next p q)) e ∙ put_here next p q within_p in omega (arith, many)
      | inr d ↦ let x = put_else next p q k d in let o = l.from k (omega (arith, many)) in omega arith
    ]

    within : (k : ℕ) → k < length (slice_set next p q) → slice_index (slice_set next p q) k < length (slice_set next p q)
    within k s = elim (cases_eq k p) [
      | inl e ↦ let x : slice_index (slice_set next p q) k ≡ q = ap (slice_index (slice_set next p q)) e ∙ put_here next p q within_p in omega (arith, many)
      | inr d ↦ let x = put_else next p q k d in let o = l.within k (omega (arith, many)) in omega (arith, many)
    ]

    on : (i k : ℕ) → i < length next → i ≤ k → k < slice_index (slice_set next p q) i → k ≢ p → k < slice_index next k
    on i k s a t d = elim (cases_eq i p) [
      | inl e ↦ let x : slice_index (slice_set next p q) i ≡ q = ap (slice_index (slice_set next p q)) e ∙ put_here next p q within_p in
          elim (cases_order k p) [
            | inl f ↦ absurd (d f)
            | inr (inl f) ↦ absurd (omega arith)
            | inr (inr f) ↦ b k f (omega arith)
          ]
      | inr n ↦ let x = put_else next p q i n in l.between i k s a (omega arith)
    ]

    between : (i k : ℕ) → i < length (slice_set next p q) → i ≤ k → k < slice_index (slice_set next p q) i → k < slice_index (slice_set next p q) k
    between i k s a t = elim (cases_eq k p) [
      | inl e ↦ let x : slice_index (slice_set next p q) k ≡ q = ap (slice_index (slice_set next p q)) e ∙ put_here next p q within_p in omega (arith, many)
      | inr d ↦ let x = put_else next p q k d in let r = on i k (omega (arith, many)) a t d in omega arith
    ]

-- ---- a way is shortened ----

pub record IsShortened (old next : List ℕ) (at end : ℕ) : Type 0 where
  pub as_many : length next ≡ length old
  pub leads : LeadOn next
  pub alike : LeadAlike old next
  pub ends : EndsAt next at end

-- before its end a place leads on
pub leads_on : (next : List ℕ) (at end : ℕ) → EndsAt next at end → at ≢ end → at < slice_index next at
leads_on next at end e d = e.between at (omega arith) (let f = e.from in elim (cases_order at end) [ inl s ↦ absurd (d s) | inr (inl s) ↦ s | inr (inr s) ↦ absurd (omega arith) ])

-- ---- nodes ----

pub is_node : (gone : List Bool) (next : List ℕ) (p q : ℕ) → LeadOnFrom gone next → EndsAt next p q → IsNode gone p q
is_node gone next p q l e = record {
  from = e.from;
  within = within;
  kept = false_from_ne_true _ (λ t. let m = (l.are_gone q within).0 t in let s = e.stays in absurd (omega arith));
  between = λ k a b. (l.are_gone k (let w = within in omega arith)).1 (e.between k a b);
}
  where
    within : q ≤ length gone
    within = omega (arith, e.within, l.as_many)

-- ---- a place goes ----

pub gone_leads : (gone : List Bool) (next : List ℕ) (p q : ℕ) → LeadOnFrom gone next → p < length gone → EndsAt next (p + 1) q → LeadOnFrom (slice_set gone p true) (slice_set next p q)
gone_leads gone next p q l h e = record {
  as_many = omega (arith, length-set next p q, length-set gone p true, l.as_many);
  leads = led_to next p q l.leads (omega (arith, e.from)) e.within (λ k a b. e.between k (omega arith) b);
  are_gone = are_gone;
}
  where
    are_gone : (k : ℕ) → k ≤ length (slice_set gone p true) → (is_gone (slice_set gone p true) k ≡ true) ↔ (k < slice_index (slice_set next p q) k)
    are_gone k s = elim (cases_eq k p) [
      | inl f ↦
          let x : slice_index (slice_set next p q) k ≡ q = ap (slice_index (slice_set next p q)) f ∙ put_here next p q (omega (arith, h, l.as_many)) in
          (λ t. omega (arith, x, e.from, f), λ t. ap (is_gone (slice_set gone p true)) f ∙ marked_set gone p true h)
      | inr d ↦
          let x = put_else next p q k d in
          let y : is_gone (slice_set gone p true) k ≡ is_gone gone k = marked_other gone p k true d in
          let o = l.are_gone k (omega (arith, s, length-set gone p true)) in
          (λ t. let r = o.0 (sym y ∙ t) in omega arith, λ t. y ∙ o.1 (omega arith))
    ]

-- a place that is gone or right before stays so
still_gone : (gone : List Bool) (p k : ℕ) → p < length gone → is_gone gone k ≡ true → is_gone (slice_set gone p true) k ≡ true
still_gone gone p k h t = elim (cases_eq k p) [
  | inl e ↦ ap (is_gone (slice_set gone p true)) e ∙ marked_set gone p true h
  | inr d ↦ marked_other gone p k true d ∙ t
]

pub gone_starts : (gone : List Bool) (first : List ℕ) (p q s : ℕ) → AreStarts gone first → p < length gone → is_gone gone p ≡ false → IsNode gone (p + 1) q → s ≡ slice_index first p → AreStarts (slice_set gone p true) (slice_set first q s)
gone_starts gone first p q s a h g n e = record {
  as_many = omega (arith, length-set first q s, length-set gone p true, a.as_many);
  starts = λ k w t. starts k (omega (arith, w, length-set gone p true)) t;
}
  where
    new : List Bool
    new = slice_set gone p true

    here : is_gone (slice_set gone p true) p ≡ true
    here = marked_set gone p true h

    before : IsStart gone p s
    before = subst (IsStart gone p) (sym e) (a.starts p (omega arith) g)

    -- the next kept place begins where the one that goes began
    joined : IsStart (slice_set gone p true) q s
    joined = record {
      up_to = omega (arith, before.up_to, n.from);
      between = λ k x y. elim (cases_order k p) [
        | inl f ↦ ap (is_gone (slice_set gone p true)) f ∙ marked_set gone p true h
        | inr (inl f) ↦ still_gone gone p k h (before.between k x f)
        | inr (inr f) ↦ still_gone gone p k h (n.between k (omega arith) y)
      ];
      first = λ k f. marked_other gone p k true (λ t. absurd (omega (arith, t, f, before.up_to))) ∙ before.first k f;
    }

    -- another one begins where it began
    other : (k : ℕ) → k ≤ length gone → is_gone gone k ≡ false → k ≢ p → k ≢ q → IsStart (slice_set gone p true) k (slice_index first k)
    other k w t c d = record {
      up_to = old.up_to;
      between = λ i x y. still_gone gone p i h (old.between i x y);
      first = λ i f. elim (cases_eq i p) [
        | inl r ↦ absurd (d (same i f r))
        | inr r ↦ marked_other gone p i true r ∙ old.first i f
      ];
    }
      where
        old : IsStart gone k (slice_index first k)
        old = a.starts k w t

        same : (i : ℕ) → i + 1 ≡ slice_index first k → i ≡ p → k ≡ q
        same i f r = elim (cases_order k q) [
          | inl m ↦ m
          | inr (inl m) ↦ absurd (let z = n.between k (omega (arith, f, r, old.up_to)) m in cc)
          | inr (inr m) ↦ absurd (let z = old.between q (omega (arith, f, r, n.from)) m in let y = n.kept in cc)
        ]

    starts : (k : ℕ) → k ≤ length gone → is_gone (slice_set gone p true) k ≡ false → IsStart (slice_set gone p true) k (slice_index (slice_set first q s) k)
    starts k w t = elim (cases_eq k q) [
      | inl f ↦
          let x : s ≡ slice_index (slice_set first q s) k = sym (ap (slice_index (slice_set first q s)) f ∙ put_here first q s (omega (arith, n.within, a.as_many))) in
          subst (λ i. IsStart (slice_set gone p true) i (slice_index (slice_set first q s) k)) (sym f) (subst (IsStart (slice_set gone p true) q) x joined)
      | inr d ↦ elim (cases_eq k p) [
        | inl f ↦ absurd (let z : is_gone (slice_set gone p true) k ≡ true = ap (is_gone (slice_set gone p true)) f ∙ here in cc)
        | inr c ↦ subst (IsStart (slice_set gone p true) k) (sym (put_else first q s k d)) (other k w (sym (marked_other gone p k true c) ∙ t) c d)
      ]
    ]

-- ---- at first ----

pub lead_nowhere : (n : ℕ) (gone : List Bool) (next : List ℕ) → gone ≡ replicate n false → length next ≡ n + 1 → ((p : ℕ) → p ≤ n → slice_index next p ≡ p) → LeadOnFrom gone next
lead_nowhere n gone next g m s = record {
  as_many = omega (arith, m, ap length g, length-replicate n false);
  leads = record {
    from = λ p h. let e = s p (omega arith) in omega arith;
    within = λ p h. let e = s p (omega arith) in omega arith;
    between = λ p k h a b. absurd (let e = s p (omega arith) in omega arith);
  };
  are_gone = λ p h.
      let e = s p (omega (arith, h, ap length g, length-replicate n false)) in
      let k : is_gone gone p ≡ false = ap (λ (l : List Bool). is_gone l p) g ∙ unmarked n p in
      (λ t. absurd (cc), λ t. absurd (omega arith));
}

pub start_alone : (n : ℕ) (gone : List Bool) (first : List ℕ) → gone ≡ replicate n false → length first ≡ n + 1 → ((p : ℕ) → p ≤ n → slice_index first p ≡ p) → AreStarts gone first
start_alone n gone first g m s = record {
  as_many = omega (arith, m, ap length g, length-replicate n false);
  starts = λ q h t. let e = s q (omega (arith, h, ap length g, length-replicate n false)) in record {
    up_to = omega arith;
    between = λ k a b. absurd (omega arith);
    first = λ k f. ap (λ (l : List Bool). is_gone l k) g ∙ unmarked n k;
  };
}
