-- One instruction in two surroundings, where a word that leads nowhere in the first may lead on in the second: it is lost in the first, or acts alike.
use Rattle.std.proofs.Common.{◌≡◌, ◌⊎◌, inl, inr, ℕ, ◌%◌, ◌==◌, true, List, [], ◌∷◌, ◌++◌, length, refl, sym, subst, true≢false}
use Rattle.std.specs.Prelude.{nat_le}
use Rattle.std.proofs.lemmas.Bool.{cases_Bool}
use Rattle.thumb_instr.specs.declared.instr.Instr.{Instr}
use Rattle.thumb_instr.specs.declared.instr.Instr.TheVariants as instr
use Rattle.thumb_instr.specs.Items.{has}
use Rattle.thumb_instr.specs.Shape.{registers_in}
use Rattle.thumb_model.specs.Effect.{sp}
use Rattle.thumb_model.specs.States.{World, Event, Astray, Around, Act, Landing, Goes, Leaves, Strays, Over}
use Rattle.thumb_model.specs.Accesses.{device_words, load_events}
use Rattle.thumb_model.specs.Acts.{branches, with_pc, pops, calls_by, popped_word, act}
use Rattle.thumb_model.proofs.Tied.{TargetTied, LandingTied, ActTied, act_tied}
use Rattle.thumb_assembler.specs.Runs.{ends_in_loss}

-- the run ends by an event that is a loss
pub record IsLostAct (a : Act) : Type 0 where
  pub next : a.next ≡ Over
  pub last : ends_in_loss a.events ≡ true

pub ends_behind : (xs ys : List Event) → ends_in_loss ys ≡ true → ends_in_loss (xs ++ ys) ≡ true
ends_behind [] ys h = h
ends_behind (x ∷ []) [] h = absurd (true≢false (sym h))
ends_behind (x ∷ []) (y ∷ ys) h = h
ends_behind (x ∷ (z ∷ xs)) ys h = ends_behind (z ∷ xs) ys h

-- landing nowhere corresponds to every landing
abbrev pub LandingLoose : (ℕ → ℕ → Type 0) → Landing → Landing → Type 0
LandingLoose R Strays l = Unit {0}
LandingLoose R (Goes p) (Goes q) = R p q
LandingLoose R Leaves Leaves = Unit {0}
LandingLoose R k l = ⊥

-- by instruction: the surroundings that it depends on correspond
abbrev pub LooksLoose : (ℕ → ℕ → Type 0) → Around → Around → Instr → Type 0
LooksLoose R a b (instr.Bx m) = (word : ℕ) → LandingLoose R (a.lands word) (b.lands word)
LooksLoose R a b (instr.Blx m) = ((word : ℕ) → LandingLoose R (a.lands word) (b.lands word)) × (a.link ≡ b.link)
LooksLoose R a b (instr.Literal t d) = a.literal ≡ b.literal
LooksLoose R a b (instr.Address d i) = a.literal ≡ b.literal
LooksLoose R a b (instr.Pop l) = (word : ℕ) → LandingLoose R (a.lands word) (b.lands word)
LooksLoose R a b (instr.BranchIf c d) = TargetTied R a.target b.target
LooksLoose R a b (instr.Branch d) = TargetTied R a.target b.target
LooksLoose R a b (instr.Call d) = TargetTied R a.target b.target × (a.link ≡ b.link)
LooksLoose R a b i = Unit {0}

module _ (R : ℕ → ℕ → Type 0) where
  tighten : (k l : Landing) → LandingLoose R k l → (k ≡ Strays) ⊎ LandingTied R k l
  tighten Strays l h = inl refl
  tighten (Goes p) (Goes q) h = inr h
  tighten Leaves Leaves h = inr tt
  tighten k l h = absurd h

  -- the surroundings in which every word lands at this place
  abbrev landing_at : Around → Landing → Around
  landing_at a l = record { target = a.target; literal = a.literal; link = a.link; lands = λ word. l }

  stray_pop : (m : Landing) (address : ℕ) (xs : List ℕ) (w : World) → IsLostAct (pops Strays address xs w) ⊎ ActTied R (pops Strays address xs w) (pops m address xs w)
  stray_pop m address xs w = elim (cases_Bool ((address % 4) == 0)) [
    | inr h ↦ inr (rw h (record { outputs = refl; memory = refl; answers = refl; events = refl; next = tt }))
    | inl h ↦ elim (cases_Bool (nat_le (device_words address (with_pc xs)) (length w.answers))) [
      | inr g ↦ inr (rw (h, g) (record { outputs = refl; memory = refl; answers = refl; events = refl; next = tt }))
      | inl g ↦ inl (rw (h, g) (record { next = refl; last = ends_behind (load_events address (with_pc xs)) (Astray (popped_word address xs w) ∷ []) refl }))
    ]
  ]

  -- by instruction: it is lost in the first, or acts alike in both
  pub act_loose : (a b : Around) (i : Instr) (w : World) → LooksLoose R a b i → IsLostAct (act a i w) ⊎ ActTied R (act a i w) (act b i w)
  act_loose a b (instr.Bx m) w h = elim (tighten (a.lands (w.values m.number)) (b.lands (w.values m.number)) (h (w.values m.number))) [
    | inl e ↦ inl (subst (λ (l : Landing). IsLostAct (branches l (w.values m.number) w)) (sym e) (record { next = refl; last = refl }))
    | inr t ↦ inr (act_tied R a b (instr.Bx m) w t)
  ]
  act_loose a b (instr.Blx m) w h = elim (tighten (a.lands (w.values m.number)) (b.lands (w.values m.number)) (h.0 (w.values m.number))) [
    | inl e ↦ inl (subst (λ (l : Landing). IsLostAct (calls_by l (w.values m.number) a.link w)) (sym e) (record { next = refl; last = refl }))
    | inr t ↦ inr (act_tied R a b (instr.Blx m) w (t, h.1))
  ]
  act_loose a b (instr.Pop l) w h = elim (tighten (a.lands (popped_word (w.values sp) (registers_in l.number) w)) (b.lands (popped_word (w.values sp) (registers_in l.number) w)) (h (popped_word (w.values sp) (registers_in l.number) w))) [
    | inr t ↦ inr (act_tied R (landing_at a (a.lands (popped_word (w.values sp) (registers_in l.number) w))) (landing_at b (b.lands (popped_word (w.values sp) (registers_in l.number) w))) (instr.Pop l) w (λ word. t))
    | inl s ↦ elim (cases_Bool (has l.number 8)) [
      | inr n ↦
          let same = act_tied R (landing_at a Strays) (landing_at b Strays) (instr.Pop l) w (λ word. tt) in
          inr (rw n (rw n at same))
      | inl n ↦ rw n (subst (λ (k : Landing). IsLostAct (pops k (w.values sp) (registers_in l.number) w) ⊎ ActTied R (pops k (w.values sp) (registers_in l.number) w) (pops (b.lands (popped_word (w.values sp) (registers_in l.number) w)) (w.values sp) (registers_in l.number) w)) (sym s)
          (stray_pop (b.lands (popped_word (w.values sp) (registers_in l.number) w)) (w.values sp) (registers_in l.number) w))
    ]
  ]
  act_loose a b i w h = inr (act_tied R a b i w h)
