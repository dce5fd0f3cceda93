-- Where ways from outside a window lead.
use Rattle.std.proofs.Common.{◌≡◌, ℕ, zero, suc, ◌+◌, ◌≤◌, ◌==◌, ◌||◌, true, false, List, [], ◌∷◌, length, Option, Some, None, refl, sym, ap, ◌∙◌, subst, ◌⊎◌, inl, inr, arith, if◌then◌else◌, eqb-true}
use Rattle.std.specs.Prelude.{slice_get}
use Rattle.std.proofs.lemmas.Option.{same_Some}
use Rattle.thumb_model.proofs.Lists.{present_at}
use Rattle.thumb_model.proofs.Moved.{one_of_append}
use Rattle.thumb_model.proofs.Points.{IsLabelsPlace, label_of_name, label_of_place}
use Rattle.thumb_instr.specs.declared.instr.Instr.{Instr}
use Rattle.thumb_instr.specs.declared.instr.Instr.TheVariants as instr
use Rattle.thumb_instr.specs.Items.{has, sp}
use Rattle.thumb_instr.specs.Shape.{registers_in}
use Rattle.thumb_model.specs.Effect.{one_of}
use Rattle.thumb_model.specs.Listing.{Mention, Place, Op, Word, Code, is_call, label_places, return_places, IsPoint}
use Rattle.thumb_model.specs.Steps.{aim_of}
use Rattle.thumb_model.specs.Flow.{Way, Leads, Onward, ToPlace, AnyPoint, Out, way, left_but, ways_of, ways_on, Follows}
use Rattle.shrinking_sets.specs.Straight.{IsApart, IsExchange, IsUnlabelled}
use Rattle.shrinking_sets.specs.Marks.{Passes}
use Rattle.shrinking_sets.proofs.Exchange.{straight_at, straight_no_call, call_at, apart_or}

-- ---- return points ----

-- a return point stands behind a call
abbrev IsBehindCall : List Place → ℕ → ℕ → Type 0
IsBehindCall xs p q = (j : ℕ) × (q ≡ p + j + 1) × (call_at (slice_get xs j) ≡ true)

behind_later : (x : Place) (xs : List Place) (p q : ℕ) → IsBehindCall xs (p + 1) q → IsBehindCall (x ∷ xs) p q
behind_later x xs p q f = (suc f.0, (let e = f.1 in omega arith), f.2)

behind_call : (p : ℕ) (xs : List Place) (q : ℕ) → one_of q (return_places p xs) ≡ true → IsBehindCall xs p q
behind_call p [] q e = absurd (cc)
behind_call p (x ∷ xs) q e =
    elim (is_call x) as (λ b. is_call x ≡ b → one_of q (if b then (p + 1) ∷ return_places (p + 1) xs else return_places (p + 1) xs) ≡ true → IsBehindCall (x ∷ xs) p q) [
      | true ↦ λ h f. elim (q == (p + 1)) as (λ b. (q == (p + 1)) ≡ b → (b || one_of q (return_places (p + 1) xs)) ≡ true → IsBehindCall (x ∷ xs) p q) [
        | true ↦ λ t g. (0, (let s : q ≡ p + 1 = eqb-true q (p + 1) t in omega arith), h)
        | false ↦ λ t g. behind_later x xs p q (behind_call (p + 1) xs q g)
      ] refl f
      | false ↦ λ h f. behind_later x xs p q (behind_call (p + 1) xs q f)
    ] refl e

-- ---- aims ----

-- a way that goes to a place goes to what is aimed at
abbrev pub IsAimed : Option ℕ → Leads → Type 0
IsAimed o Onward = Unit {0}
IsAimed o (ToPlace q) = o ≡ Some q
IsAimed o AnyPoint = Unit {0}
IsAimed o Out = Unit {0}

abbrev pub AreAimed : Option ℕ → List Way → Type 0
AreAimed o [] = Unit {0}
AreAimed o (w ∷ ws) = IsAimed o w.leads × AreAimed o ws

-- a row: the ways of an instruction
pub are_aimed : (o : Option ℕ) (i : Instr) → AreAimed o (ways_of o i)
are_aimed o (instr.Bx m) = (tt, (tt, tt))
are_aimed o (instr.Blx m) = (tt, (tt, tt))
are_aimed o (instr.Pop l) =
    elim (has l.number 8) as (λ b. AreAimed o (if b then way (sp ∷ []) (sp ∷ registers_in l.number) AnyPoint ∷ way (sp ∷ left_but (registers_in l.number)) (sp ∷ registers_in l.number) Out ∷ [] else way (sp ∷ []) (sp ∷ registers_in l.number) Onward ∷ [])) [
      | true ↦ (tt, (tt, tt))
      | false ↦ (tt, tt)
    ]
are_aimed None (instr.BranchIf c d) = (tt, (tt, tt))
are_aimed (Some q) (instr.BranchIf c d) = (refl, (tt, tt))
are_aimed None (instr.Branch d) = (tt, tt)
are_aimed (Some q) (instr.Branch d) = (refl, tt)
are_aimed None (instr.Call d) = (tt, tt)
are_aimed (Some q) (instr.Call d) = (refl, tt)
are_aimed o i = (tt, tt)

pub aimed_at : (o : Option ℕ) (ws : List Way) (k : ℕ) (w : Way) → AreAimed o ws → slice_get ws k ≡ Some w → IsAimed o w.leads
aimed_at o [] k w a e = absurd (cc)
aimed_at o (v ∷ ws) zero w a e = subst (λ (u : Way). IsAimed o u.leads) (same_Some v w e) a.0
aimed_at o (v ∷ ws) (suc k) w a e = aimed_at o ws k w a.1 e

-- ---- ways from outside ----

module _ (code new : Code) (w : ℕ) (old is : List Instr) (at : IsExchange code new w old is) (unlabelled : IsUnlabelled code w (length old)) where
  abbrev Outside : ℕ → Type 0
  Outside q = (q ≤ w) ⊎ (w + length old ≤ q)

  next_outside : (p : ℕ) → IsApart w (length old) p → Outside (p + 1)
  next_outside p (inl h) = inl (omega arith)
  next_outside p (inr h) = inr (omega arith)

  label_outside : (q : ℕ) → IsLabelsPlace code.labels q → Outside q
  label_outside q f = subst Outside (sym f.3) (unlabelled f.0 f.1 f.2)

  -- a call stands outside
  call_apart : (j : ℕ) → call_at (slice_get code.places j) ≡ true → IsApart w (length old) j
  call_apart j h =
      elim (apart_or code new w old is at j) [
        | inl a ↦ a
        | inr r ↦
            let k = present_at old r.0 r.2 in
            let t = at.stood r.0 k.0 k.1 in
            let n = straight_no_call k.0 (straight_at old r.0 k.0 at.old_straight k.1) in
            let z : call_at (slice_get code.places j) ≡ call_at (Some (Op k.0 t.0)) = ap call_at (ap (slice_get code.places) r.1 ∙ t.1) in
            absurd (let y : true ≡ false = sym h ∙ z ∙ n in cc)
      ]

  point_outside : (q : ℕ) → IsPoint code q → Outside q
  point_outside q h =
      elim (one_of_append q (label_places code.places code.labels) (return_places 0 code.places) h) [
        | inl l ↦ label_outside q (label_of_place code.places code.labels q l)
        | inr r ↦
            let b = behind_call 0 code.places q r in
            subst Outside (let e = b.1 in let z : b.0 + 1 ≡ q = omega arith in z) (next_outside b.0 (call_apart b.0 b.2))
      ]

  aim_outside : (m : Option Mention) (q : ℕ) → aim_of code m ≡ Some q → Outside q
  aim_outside None q e = absurd (cc)
  aim_outside (Some m) q e = label_outside q (label_of_name m.name code.places code.labels q e)

  lands : (p q : ℕ) → IsApart w (length old) p → (m : Option Mention) (l : Leads) → IsAimed (aim_of code m) l → Follows code p l q → Outside q
  lands p q a m Onward b f = subst Outside (sym f) (next_outside p a)
  lands p q a m (ToPlace r) b f = subst Outside (sym f) (aim_outside m r b)
  lands p q a m AnyPoint b f = point_outside q f
  lands p q a m Out b f = absurd f

  of_place : (p q : ℕ) → IsApart w (length old) p → (k : ℕ) (y : Way) → Follows code p y.leads q → (o : Option Place) → slice_get (ways_on code o) k ≡ Some y → Outside q
  of_place p q a k y f None e = absurd (cc)
  of_place p q a k y f (Some (Word v)) e = absurd (cc)
  of_place p q a k y f (Some (Op i m)) e = lands p q a m y.leads (aimed_at (aim_of code m) (ways_of (aim_of code m) i) k y (are_aimed (aim_of code m) i) e) f

pub nothing_enters : (code new : Code) (w : ℕ) (old is : List Instr) → IsExchange code new w old is → IsUnlabelled code w (length old) → (x p q : ℕ) → IsApart w (length old) p → Passes code x p q → (q ≤ w) ⊎ (w + length old ≤ q)
nothing_enters code new w old is at unlabelled x p q a s = of_place code new w old is at unlabelled p q a s.number s.found s.leads (slice_get code.places p) s.is
