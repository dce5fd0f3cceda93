-- A text determines the outcome of `trace`: two namings of a layout agree in all that a run uses, and a run of at most so many steps has one end.
use Rattle.std.proofs.Common.{◌≡◌, ◌∙◌, ◌<◌, inl, inr, ℕ, zero, suc, ◌+◌, true, false, List, [], ◌∷◌, ◌++◌, take, refl, sym, ap, subst, arith, true≢false, Option, Some, None}
use Rattle.std.specs.Prelude.{slice_get, nat_lt}
use Rattle.std.proofs.lemmas.Bool.{cases_Bool, ltb-true, ltb-false}
use Rattle.thumb_instr.specs.declared.instr.Instr.{Instr}
use Rattle.thumb_instr.specs.declared.instr.Instr.TheVariants as instr
use Rattle.thumb_model.specs.Listing.{Mention, ListingLine, Place, Op, Word, Code, code_of, place_of, places_of, is_call, is_call_instr, call_count}
use Rattle.thumb_model.specs.Naming.{Naming, points_of, returns_from, points}
use Rattle.thumb_model.specs.States.{Around, World, State, Event, Position, Here, Ended, Over, Stay}
use Rattle.thumb_model.specs.Acts.{act}
use Rattle.thumb_model.specs.Steps.{point_among, landing, target_at, aim_of, literal_at, around_of, does, step_on, step_at, step, times}
use Rattle.thumb_model.specs.Same.{has_ended, begun}
use Rattle.thumb_model.proofs.Returns.{returns_are_cuts}
use Rattle.thumb_machine.specs.Laid.{IsLaid}
use Rattle.thumb_machine.specs.Stages.{end_of, next_on, next_at, stage_of}
use Rattle.thumb_machine.specs.declared.position.Stage.{Stage}
use Rattle.listing_parser.proofs.MadeLemmas.{one_listing}
use Rattle.command_runs.specs.Plans.{Outcome, Does}
use Rattle.audit_cli.specs.Trace.{TraceArguments, GoesOn, StandsAfter, goes, wants, ended, IsRun, start_world, event_lines, steps_line, LinesTrace, Traces, TraceComesTo}
use Rattle.audit_cli.specs.Trace as tracing
use Rattle.command_laws.specs.Once.{IsOne}
use Rattle.audit_cli.proofs.DemoLemmas.{none_some}
use Rattle.command_laws.proofs.OnceLemmas.{refuses_same, unread_once, unlaid_once, never_unlaid, never_unread_listing, one_text}
use Rattle.std.proofs.lemmas.Option.{same_Some}

-- ---- namings that agree ----

-- the namings have the same words and range, and the same return words for the first `calls` calls
record Agree (calls : ℕ) (a b : Naming) : Type 0 where
  words : a.word_of ≡ b.word_of
  low : a.low ≡ b.low
  high : a.high ≡ b.high
  returns : (k : ℕ) → k < calls → a.return_word k ≡ b.return_word k

agree_laid : (base : ℕ) (lines : List ListingLine) (a b : Naming) → IsLaid base lines a → IsLaid base lines b → Agree (call_count (places_of lines)) a b
agree_laid base lines a b h k = record {
  words = λ i name. (h.word_of name ∙ sym (k.word_of name)) i;
  low = h.low ∙ sym k.low;
  high = h.high ∙ sym k.high;
  returns = λ n less. let cut = returns_are_cuts.each lines n less in h.return_word n cut.0 cut.1 cut.2 cut.3 ∙ sym (k.return_word n cut.0 cut.1 cut.2 cut.3);
}

-- a naming with the return words of another
abbrev with_returns : Naming → Naming → Naming
with_returns a b = record { word_of = b.word_of; return_word = a.return_word; low = b.low; high = b.high }

renamed_as : (calls : ℕ) (a b : Naming) → Agree calls a b → a ≡ with_returns a b
renamed_as calls a b h = λ i. record { word_of = h.words i; return_word = a.return_word; low = h.low i; high = h.high i }

returns_same : (a b : Naming) (places : List Place) (k p : ℕ) → ((n : ℕ) → n < k + call_count places → a.return_word n ≡ b.return_word n) → returns_from a k p places ≡ returns_from b k p places
returns_same a b [] k p h = refl
returns_same a b (x ∷ xs) k p h = elim (cases_Bool (is_call x)) [
  | inl call ↦ (
      let more : call_count (x ∷ xs) ≡ call_count xs + 1 = rw call refl in
      let first : a.return_word k ≡ b.return_word k = h k (omega (arith, more)) in
      let rest = returns_same a b xs (k + 1) (p + 1) (λ n less. h n (omega (arith, more, less))) in
      rw call (λ i. (first i, p + 1) ∷ rest i)
      )
  | inr other ↦ (
      let more : call_count (x ∷ xs) ≡ call_count xs = rw other refl in
      rw other (returns_same a b xs k (p + 1) (λ n less. h n (omega (arith, more, less))))
      )
]

-- the link matters for calls alone
link_free : (around : Around) (link other : ℕ) (i : Instr) (w : World) → is_call_instr i ≡ false → act (record around { link = link }) i w ≡ act (record around { link = other }) i w
link_free around link other (instr.Blx m) w e = absurd (true≢false e)
link_free around link other (instr.Call d) w e = absurd (true≢false e)
link_free around link other i w e = refl

-- the number of calls before a call is less than the number of calls in all
call_before : (places : List Place) (p : ℕ) (x : Place) → slice_get places p ≡ Some x → is_call x ≡ true → call_count (take p places) < call_count places
call_before [] p x e c = absurd (cc)
call_before (y ∷ ys) zero x e c =
    let same : y ≡ x = same_Some y x e in
    let call : is_call y ≡ true = ap is_call same ∙ c in
    let more : call_count (y ∷ ys) ≡ call_count ys + 1 = rw call refl in
    omega (arith, more)
call_before (y ∷ ys) (suc p) x e c = elim (cases_Bool (is_call y)) [
  | inl call ↦ (
      let here : call_count (y ∷ take p ys) ≡ call_count (take p ys) + 1 = rw call refl in
      let more : call_count (y ∷ ys) ≡ call_count ys + 1 = rw call refl in
      let rest = call_before ys p x e c in
      omega (arith, here, more, rest)
      )
  | inr other ↦ (
      let here : call_count (y ∷ take p ys) ≡ call_count (take p ys) = rw other refl in
      let more : call_count (y ∷ ys) ≡ call_count ys = rw other refl in
      let rest = call_before ys p x e c in
      omega (arith, here, more, rest)
      )
]

module _ (code : Code) (a b : Naming) (agree : Agree (call_count code.places) a b) where
  abbrev mid : Naming
  mid = with_returns a b

  points_same : points mid code ≡ points b code
  points_same = ap (λ (ps : List (ℕ × ℕ)). points_of b code.places code.labels ++ ps) (returns_same mid b code.places 0 0 (λ n less. agree.returns n (omega (arith, less))))

  lands_same : (w : ℕ) → landing mid w (point_among w (points mid code)) ≡ landing b w (point_among w (points b code))
  lands_same w = ap (λ (ps : List (ℕ × ℕ)). landing b w (point_among w ps)) points_same

  -- the surroundings of an instruction are the same, except for its link
  linked : (p : ℕ) (i : Instr) (mention : Option Mention) → around_of mid code p i mention ≡ record (around_of b code p i mention) { link = mid.return_word (call_count (take p code.places)) }
  linked p i mention = λ j. record {
    target = target_at b mention (aim_of code mention);
    literal = literal_at b code i mention;
    link = mid.return_word (call_count (take p code.places));
    lands = λ w. lands_same w j;
  }

  acts_same : (p : ℕ) (i : Instr) (mention : Option Mention) (w : World) → slice_get code.places p ≡ Some (Op i mention) → act (around_of mid code p i mention) i w ≡ act (around_of b code p i mention) i w
  acts_same p i mention w e = ap (λ (around : Around). act around i w) (linked p i mention) ∙ elim (cases_Bool (is_call_instr i)) [
    | inl call ↦ (
        let less = call_before code.places p (Op i mention) e call in
        ap (λ (link : ℕ). act (record (around_of b code p i mention) { link = link }) i w) (agree.returns (call_count (take p code.places)) less)
        )
    | inr other ↦ link_free (around_of b code p i mention) (mid.return_word (call_count (take p code.places))) (b.return_word (call_count (take p code.places))) i w other
  ]

  on_same : (p : ℕ) (o : Option Place) (s : State) → slice_get code.places p ≡ o → step_on mid code p o s ≡ step_on b code p o s
  on_same p None s e = refl
  on_same p (Some (Word v)) s e = refl
  on_same p (Some (Op i mention)) s e = ap (λ x. does p (p + 1) x s) (acts_same p i mention s.world e)

  at_same : (at : Position) (s : State) → step_at mid code at s ≡ step_at b code at s
  at_same Ended s = refl
  at_same (Here p) s = on_same p (slice_get code.places p) s refl

  next_on_same : (p : ℕ) (o : Option Place) (s : State) → slice_get code.places p ≡ o → next_on mid code p o s ≡ next_on b code p o s
  next_on_same p None s e = refl
  next_on_same p (Some (Word v)) s e = refl
  next_on_same p (Some (Op i mention)) s e = ap (λ x. x.next) (acts_same p i mention s.world e)

  next_mid : (at : Position) (s : State) → next_at mid code at s ≡ next_at b code at s
  next_mid Ended s = refl
  next_mid (Here p) s = next_on_same p (slice_get code.places p) s refl

  -- a step and how it goes on are the same
  steps_same : step a code ≡ step b code
  steps_same = ap (λ (names : Naming). step names code) (renamed_as (call_count code.places) a b agree) ∙ (λ i s. at_same s.at s i)

  nexts_same : (at : Position) (s : State) → next_at a code at s ≡ next_at b code at s
  nexts_same at s = ap (λ (names : Naming). next_at names code at s) (renamed_as (call_count code.places) a b agree) ∙ next_mid at s

  times_same : (n : ℕ) (s : State) → times (step a code) n s ≡ times (step b code) n s
  times_same n s = ap (λ (f : State → State). times f n s) steps_same

  goes_on_same : (s : State) → GoesOn a code s → GoesOn b code s
  goes_on_same s h = record { running = h.running; enough = λ stay. h.enough (nexts_same s.at s ∙ stay) }

  stands_same : (most n : ℕ) (s : State) (x : Stage) → StandsAfter a code most n s x → StandsAfter b code most n s x
  stands_same most n s _ (goes running all) = goes running all
  stands_same most n s _ (wants less stay) = wants less (sym (nexts_same s.at s) ∙ stay)
  stands_same most n s _ (ended over front last e is by) = ended over front last e is by

  run_same : (start : State) (most n : ℕ) (x : Stage) → IsRun a code start most n x → IsRun b code start most n x
  run_same start most n x h = record {
    within = h.within;
    goes_on = λ k less. subst (GoesOn b code) (times_same k start) (goes_on_same (times (step a code) k start) (h.goes_on k less));
    stands = subst (λ (s : State). StandsAfter b code most n s x) (times_same n start) (stands_same most n (times (step a code) n start) x h.stands);
  }

-- ---- one run ----

last_same : (xs ys : List Event) (x y : Event) → xs ++ x ∷ [] ≡ ys ++ y ∷ [] → x ≡ y
last_same [] [] x y e = first x y e where
  first : (x y : Event) → (let l : List Event = x ∷ [] in l) ≡ y ∷ [] → x ≡ y
  first x y e = cc
last_same [] (v ∷ []) x y e = absurd (cc)
last_same [] (v ∷ (w ∷ ys)) x y e = absurd (cc)
last_same (u ∷ []) [] x y e = absurd (cc)
last_same (u ∷ (w ∷ xs)) [] x y e = absurd (cc)
last_same (u ∷ xs) (v ∷ ys) x y e = last_same xs ys x y (cc)

module _ (names : Naming) (code : Code) (most : ℕ) where
  -- a run that stands in this way after n steps takes no further step
  stops : (n : ℕ) (s : State) (x : Stage) → StandsAfter names code most n s x → n < most → GoesOn names code s → ⊥
  stops n s _ (goes running all) less on = omega (arith, all, less)
  stops n s _ (wants fewer stay) less on = on.enough stay
  stops n s _ (ended over front last e is by) less on = true≢false (sym over ∙ on.running)

  never_stays : (s : State) → has_ended s.at ≡ true → next_at names code s.at s ≡ Stay → ⊥
  never_stays s over stay = at s.at over stay where
    at : (place : Position) → has_ended place ≡ true → next_at names code place s ≡ Stay → ⊥
    at Ended over stay = let bad : Over ≡ Stay = stay in absurd (cc)
    at (Here p) over stay = true≢false (sym over)

  one_stage : (n : ℕ) (s : State) (x y : Stage) → StandsAfter names code most n s x → StandsAfter names code most n s y → x ≡ y
  one_stage n s _ _ (goes running all) (goes also too) = refl
  one_stage n s _ _ (goes running all) (wants less stay) = absurd (omega (arith, all, less))
  one_stage n s _ _ (goes running all) (ended over front last e is by) = absurd (true≢false (sym over ∙ running))
  one_stage n s _ _ (wants less stay) (goes running all) = absurd (omega (arith, all, less))
  one_stage n s _ _ (wants less stay) (wants fewer too) = refl
  one_stage n s _ _ (wants less stay) (ended over front last e is by) = absurd (never_stays s over stay)
  one_stage n s _ _ (ended over front last e is by) (goes running all) = absurd (true≢false (sym over ∙ running))
  one_stage n s _ _ (ended over front last e is by) (wants less stay) = absurd (never_stays s over stay)
  one_stage n s _ _ (ended over front last e is by) (ended too begun other d are of) =
      let same : last ≡ other = last_same front begun last other (sym is ∙ are) in
      ap stage_of (same_Some e d (sym by ∙ (ap end_of same ∙ of)))

  one_run : (start : State) (n m : ℕ) (x y : Stage) → IsRun names code start most n x → IsRun names code start most m y → (n ≡ m) × (x ≡ y)
  one_run start n m x y h k =
      let same : n ≡ m = order in
      (same, one_stage m (times (step names code) m start) x y (subst (λ (j : ℕ). StandsAfter names code most j (times (step names code) j start) x) same h.stands) k.stands)
    where
      order : n ≡ m
      order = elim (cases_Bool (nat_lt n m)) [
        | inl l ↦ (let less = ltb-true n m l in absurd (stops n (times (step names code) n start) x h.stands (let w = k.within in omega (arith, less, w)) (k.goes_on n less)))
        | inr l ↦ elim (cases_Bool (nat_lt m n)) [
          | inl g ↦ (let less = ltb-true m n g in absurd (stops m (times (step names code) m start) y k.stands (let w = h.within in omega (arith, less, w)) (h.goes_on m less)))
          | inr g ↦ (let a = ltb-false n m l in let c = ltb-false m n g in omega (arith, a, c))
        ]
      ]

-- ---- `trace` ----

-- the outcome that prints a run
abbrev told : TraceArguments → List ListingLine → Naming → ℕ → Stage → Outcome
told asked lines names n s = Does [] (event_lines (times (step names (code_of lines)) n (begun (code_of lines) asked.label start_world [])).events ++ steps_line n s)

told_once : (asked : TraceArguments) (lines : List ListingLine) (a b : Naming) (n m : ℕ) (x y : Stage) → IsLaid 0 lines a → IsLaid 0 lines b
    → IsRun a (code_of lines) (begun (code_of lines) asked.label start_world []) asked.most n x → IsRun b (code_of lines) (begun (code_of lines) asked.label start_world []) asked.most m y
    → told asked lines a n x ≡ told asked lines b m y
told_once asked lines a b n m x y h k run other =
    let code = code_of lines in
    let start = begun code asked.label start_world [] in
    let agree = agree_laid 0 lines a b h k in
    let same = one_run b code asked.most start n m x y (run_same code a b agree start asked.most n x run) other in
    let steps : times (step a code) n start ≡ times (step b code) m start = times_same code a b agree n start ∙ ap (λ (j : ℕ). times (step b code) j start) same.0 in
    λ i. Does [] (event_lines (steps i).events ++ steps_line (same.0 i) (same.1 i))

lines_trace_once : (asked : TraceArguments) (lines : List ListingLine) (o p : Outcome) → LinesTrace asked lines o → LinesTrace asked lines p → o ≡ p
lines_trace_once asked lines _ _ (tracing.unlaid r h) (tracing.unlaid s k) = refuses_same r s (unlaid_once 0 lines r s h k)
lines_trace_once asked lines _ _ (tracing.unlaid r h) (tracing.unlabelled laid none) = absurd (never_unlaid 0 lines r laid h)
lines_trace_once asked lines _ _ (tracing.unlaid r h) (tracing.ran laid p at names is n s run) = absurd (never_unlaid 0 lines r laid h)
lines_trace_once asked lines _ _ (tracing.unlabelled laid none) (tracing.unlaid s k) = absurd (never_unlaid 0 lines s laid k)
lines_trace_once asked lines _ _ (tracing.unlabelled laid none) (tracing.unlabelled other too) = refl
lines_trace_once asked lines _ _ (tracing.unlabelled laid none) (tracing.ran other p at names is n s run) = absurd (none_some (place_of (code_of lines) asked.label) p none at)
lines_trace_once asked lines _ _ (tracing.ran laid p at names is n s run) (tracing.unlaid r k) = absurd (never_unlaid 0 lines r laid k)
lines_trace_once asked lines _ _ (tracing.ran laid p at names is n s run) (tracing.unlabelled other none) = absurd (none_some (place_of (code_of lines) asked.label) p none at)
lines_trace_once asked lines _ _ (tracing.ran laid p at names is n s run) (tracing.ran other q there others are m t too) = told_once asked lines names others n m s t is are run too

traces_once : (asked : TraceArguments) (text : List ℕ) (o p : Outcome) → Traces asked text o → Traces asked text p → o ≡ p
traces_once asked text _ _ (tracing.unread r h) (tracing.unread s k) = refuses_same r s (unread_once text r s h k)
traces_once asked text _ _ (tracing.unread r h) (tracing.read lines is p k) = absurd (never_unread_listing text lines r is h)
traces_once asked text _ _ (tracing.read lines is o h) (tracing.unread s k) = absurd (never_unread_listing text lines s is k)
traces_once asked text _ _ (tracing.read lines is o h) (tracing.read others are p k) =
    lines_trace_once asked lines o p h (subst (λ (ls : List ListingLine). LinesTrace asked ls p) (one_listing text others lines are is) k)

pub trace_once : (asked : TraceArguments) → IsOne (TraceComesTo asked)
trace_once asked = one_text (Traces asked) (traces_once asked)
