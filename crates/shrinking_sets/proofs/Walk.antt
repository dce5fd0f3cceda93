-- The walk that clears marks: its invariant holds at first and is preserved by visits, and at the end what wasn't cleared is read.
use Rattle.std.proofs.Common.{◌≡◌, ℕ, ◌+◌, ◌<◌, Bool, true, false, List, length, sym, ap, ◌∙◌, subst, ◌⊎◌, inl, inr, arith}
use Rattle.std.proofs.lemmas.Bool.{cases_Bool, cases_eq}
use Rattle.thumb_instr.specs.declared.instr.Instr.{Instr}
use Rattle.thumb_model.specs.Listing.{Code}
use Rattle.thumb_model.specs.Flow.{Reads}
use Rattle.shrinking_sets.specs.Straight.{IsApart, IsExchange, IsUnlabelled}
use Rattle.shrinking_sets.specs.Marks.{Passes, IsForward, IsCleared}
use Rattle.shrinking_sets.specs.Clearing.{IsClearing, IsBegun, IsStep}
use Rattle.shrinking_sets.proofs.Enters.{nothing_enters}
use Rattle.shrinking_sets.proofs.Cleared.{cleared_is_read}

-- where all that is read at an unmarked place is pending, nothing is left to clear
pub clearing_begins : (code new : Code) (w : ℕ) (old is : List Instr) (x : ℕ) (f c pending : ℕ → Bool) → IsExchange code new w old is → IsUnlabelled code w (length old) → 0 < length old → IsBegun code w old is x f c pending → IsClearing code w old is x f c pending
clearing_begins code new w old is x f c pending at unlabelled some b = record {
  below = b.below;
  inside = b.inside;
  lost = b.lost;
  through = λ n r u v k. absurd (let z : c (w + length old) ≡ true = b.others (w + length old) (inr (omega arith)) r in cc);
  back = λ p q a s r u v k. absurd (none p q a s r u v);
}
  where
    none : (p q : ℕ) → IsApart w (length old) p → Passes code x p q → Reads code x q → c q ≡ false → pending q ≡ false → ⊥
    none p q a s r u v =
        elim (cases_eq q w) [
          | inl e ↦ let z : pending w ≡ true = b.first (subst (Reads code x) e r) (sym (ap c e) ∙ u) in let y : pending w ≡ false = sym (ap pending e) ∙ v in cc
          | inr d ↦
              let o : IsApart w (length old) q = elim (nothing_enters code new w old is at unlabelled x p q a s) [ inl l ↦ inl (omega (arith, d)) | inr l ↦ inr l ] in
              let z : c q ≡ true = b.others q o r in cc
        ]

module _ (code : Code) (w : ℕ) (old is : List Instr) (x : ℕ) (f c pending : ℕ → Bool) (q : ℕ) (c' pending' : ℕ → Bool) (k : IsClearing code w old is x f c pending) (s : IsStep code w old x f c pending q c' pending') where
  -- what is unmarked and not pending now was so before, or is the pending place that was visited
  was : (r : ℕ) → c' r ≡ false → pending' r ≡ false → (c r ≡ false) × (((r ≡ q) × (pending q ≡ true)) ⊎ (pending r ≡ false))
  was r u v = (
    elim (cases_Bool (c r)) [
      | inl t ↦ absurd (let z = s.pushed r t u in cc)
      | inr t ↦ t
    ],
    elim (cases_Bool (pending r)) [
      | inl t ↦ elim (cases_eq r q) [
        | inl e ↦ inl (e, sym (ap pending e) ∙ t)
        | inr d ↦ absurd (let z = s.stays r d t in cc)
      ]
      | inr t ↦ inr t
    ],
  )

  still : (r : ℕ) → c r ≡ false → c' r ≡ false
  still r h =
      elim (cases_Bool (c' r)) [
        | inl t ↦ absurd (let z = s.fewer r t in cc)
        | inr t ↦ t
      ]

  pub goes_on : IsClearing code w old is x f c' pending'
  goes_on = record {
    below = λ p h. k.below p (s.fewer p h);
    inside = λ j h l. still (w + j) (k.inside j h l);
    lost = λ h. still w (k.lost h);
    through = λ n r u v m.
        let t = was (w + length old) u v in
        elim t.1 [
          | inl e ↦ s.window e.1 (sym e.0) n m
          | inr d ↦ k.through n r t.0 d (s.fewer w m)
        ];
    back = λ p r a g h u v m.
        let t = was r u v in
        elim t.1 [
          | inl e ↦ s.before e.1 p a (subst (Passes code x p) e.0 g) m
          | inr d ↦ k.back p r a g h t.0 d (s.fewer p m)
        ];
  }

pub clearing_ends : (code new : Code) (w : ℕ) (old is : List Instr) (x : ℕ) (f c pending : ℕ → Bool) → IsExchange code new w old is → IsForward new x f → IsClearing code w old is x f c pending → ((q : ℕ) → pending q ≡ false) → (p : ℕ) → c p ≡ true → Reads new x p
clearing_ends code new w old is x f c pending at forward k none p h = cleared_is_read code new w old is x f c at forward ended p h
  where
    ended : IsCleared code w old is x f c
    ended = record {
      below = k.below;
      inside = k.inside;
      lost = k.lost;
      through = λ n r u m. k.through n r u (none (w + length old)) m;
      back = λ p q a s r u m. k.back p q a s r u (none q) m;
    }
