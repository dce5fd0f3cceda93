-- The listing without an instruction that does nothing but go on to the next place runs the same.
use Rattle.std.proofs.Common.{◌≡◌, ◌≢◌, ℕ, zero, suc, ◌+◌, ◌<◌, ◌≤◌, ◌/◌, ◌&&◌, not, true, false, List, [], ◌++◌, Option, Some, None, IsSome, refl, sym, ap, ◌∙◌, subst, ◌⊎◌, inl, inr, arith, if◌then◌else◌}
use Rattle.std.specs.Prelude.{slice_get}
use Rattle.std.specs.Option.{option_map}
use Rattle.std.proofs.lemmas.Bool.{cases_eq}
use Rattle.thumb_instr.specs.declared.instr.Instr.{Instr}
use Rattle.thumb_model.specs.Effect.{Values, assigned}
use Rattle.thumb_model.specs.Listing.{Name, Mention, Place, Op, Word, Code, place_of}
use Rattle.thumb_model.specs.Naming.{Naming, is_odd, is_in_range, points}
use Rattle.thumb_model.specs.States.{World, Answer, Around, Event, Landing, Leaves, Strays, Continuation, On, Stay, To, Over, Position, Here, Ended, State}
use Rattle.thumb_model.specs.Acts.{act}
use Rattle.thumb_model.specs.Steps.{label_place, loads_literal, word_of_mention, word_of_place, word_behind, literal_word, literal_at, arrives, around_of, aim_of, target_at, landing, point_among, step_on, step, times}
use Rattle.thumb_model.specs.Literals.{HasLiterals}
use Rattle.thumb_model.specs.Flow.{Leads, Onward, ways, ways_on, ways_of, Follows, Reached, point, along}
use Rattle.thumb_model.specs.Same.{has_ended, Alike, here_or_ended, begun}
use Rattle.thumb_model.specs.Replaced.{replaced}
use Rattle.thumb_model.proofs.Law.{Matches, Taken, law, keys}
use Rattle.thumb_model.proofs.Simulation.{Advance, sooner, reached}
use Rattle.thumb_model.proofs.Tied.{TargetTied, LandingTied, NextTied, ActTied, AroundTied, looks_tied, act_tied}
use Rattle.thumb_model.proofs.Moved.{data_moved, label_place_moved, point_at_moved, count_stays, place_moved, fits_stays, literals_stay}
use Rattle.thumb_model.proofs.Points.{point_is}
use Rattle.thumb_model.proofs.Follow.{Keeps, state, is_some_moved}
use Rattle.flow_tidy.proofs.Ways.{label_is_point, aim_is_point}
use Rattle.flow_tidy.proofs.Going.{MayGo, new, to, is_replacement, all_outside, fetch, next_place, same_next, aim_moved}
use Rattle.thumb_model.proofs.Window.{aim_is as inside_is}

-- a step from a place that is reached does nothing but go on to the next one
abbrev pub DoesNothing : Code → ℕ → Type 0
DoesNothing code p = Reached code p → (names : Naming) (w : World) (es : List Event) → step names code (state w (Here p) es) ≡ state w (Here (p + 1)) es

same_world : (os ps : List (ℕ × ℕ)) (v : Values) (m n : ℕ → ℕ) (a b : List Answer) → os ≡ ps → m ≡ n → a ≡ b → (let w : World = record { values = assigned os v; memory = m; answers = a } in w) ≡ record { values = assigned ps v; memory = n; answers = b }
same_world os ps v m n a b e f g = λ i. record { values = assigned (e i) v; memory = f i; answers = g i }

alike_at : (w : World) (p q : ℕ) (es : List Event) → Alike (state w (Here p) es) (state w (Here q) es)
alike_at w p q es = record { events = refl; memory = refl; answers = refl; ended = refl }

-- a step that goes on goes by a way on
on_leads : (lands : ℕ → Landing) (l : Leads) (ks ws : List ℕ) → Matches lands On l ks ws → l ≡ Onward
on_leads lands Onward ks ws m = refl
on_leads lands l ks ws m = absurd m

module _ (names : Naming) (code : Code) (literals : HasLiterals code) (p : ℕ) (m : MayGo code p) (nothing : DoesNothing code p) where
  abbrev after : Code
  after = new code p

  abbrev come : ℕ → ℕ
  come = to code p

  -- r is where q came to, and q is reached
  abbrev CameTo : ℕ → ℕ → Type 0
  CameTo q r = (r ≡ come q) × Reached code q

  abbrev pub AtBoth : Position → Position → Type 0
  AtBoth Ended Ended = Unit {0}
  AtBoth (Here q) (Here r) = CameTo q r
  AtBoth Ended (Here r) = ⊥
  AtBoth (Here q) Ended = ⊥

  -- the two runs are in the same world, at the same place
  pub record Related (s t : State) : Type 0 where
    pub world : s.world ≡ t.world
    pub events : s.events ≡ t.events
    pub both : AtBoth s.at t.at

  -- ---- what the places around decide for an instruction, in both listings ----

  target_tied : (mention : Option Mention) (o o' : Option ℕ) → o' ≡ option_map come o → ((r : ℕ) → o ≡ Some r → Reached code r) → TargetTied CameTo (target_at names mention o) (target_at names mention o')
  target_tied mention None o' e h = subst (λ (x : Option ℕ). TargetTied CameTo (target_at names mention None) (target_at names mention x)) (sym e) refl
  target_tied mention (Some r) o' e h = subst (λ (x : Option ℕ). TargetTied CameTo (target_at names mention (Some r)) (target_at names mention x)) (sym e) (refl, h r refl)

  same_landing : (word : ℕ) → LandingTied CameTo (landing names word None) (landing names word None)
  same_landing word = elim (is_odd word && not (is_in_range names word)) as (λ b. LandingTied CameTo (if b then Leaves else Strays) (if b then Leaves else Strays)) [ true ↦ tt | false ↦ tt ]

  landing_tied : (word : ℕ) (o o' : Option ℕ) → o' ≡ option_map come o → ((r : ℕ) → o ≡ Some r → Reached code r) → LandingTied CameTo (landing names word o) (landing names word o')
  landing_tied word None o' e h = subst (λ (x : Option ℕ). LandingTied CameTo (landing names word None) (landing names word x)) (sym e) (same_landing word)
  landing_tied word (Some r) o' e h = subst (λ (x : Option ℕ). LandingTied CameTo (landing names word (Some r)) (landing names word x)) (sym e) (refl, h r refl)

  -- the word of a literal stays
  behind_stays : (q : ℕ) (i : Instr) (n : Mention) → slice_get code.places q ≡ Some (Op i (Some n)) → loads_literal i ≡ true → (o : Option ℕ) → label_place n.name code.labels ≡ o → word_behind names code.places n.plus o ≡ word_behind names after.places n.plus (option_map come o)
  behind_stays q i n e t None f = refl
  behind_stays q i n e t (Some r) f = ap (word_of_place names) (sym (data_moved code p 1 [] (is_replacement code p m) r (n.plus / 4) (all_outside code p m r) (λ j l. literals q i n e t r f j l)))

  word_stays : (q : ℕ) (i : Instr) (mention : Option Mention) → slice_get code.places q ≡ Some (Op i mention) → loads_literal i ≡ true → literal_word names code mention ≡ literal_word names after mention
  word_stays q i None e t = refl
  word_stays q i (Some n) e t =
      behind_stays q i n e t (label_place n.name code.labels) refl ∙ ap (word_behind names after.places n.plus) (sym (label_place_moved code p 1 [] (is_replacement code p m) n.name code.labels))

  literal_stays : (q : ℕ) (i : Instr) (mention : Option Mention) → slice_get code.places q ≡ Some (Op i mention) → literal_at names code i mention ≡ literal_at names after i mention
  literal_stays q i mention e =
      elim (loads_literal i) as (λ b. loads_literal i ≡ b → (if b then literal_word names code mention else word_of_mention names mention) ≡ (if b then literal_word names after mention else word_of_mention names mention)) [
        | true ↦ λ t. word_stays q i mention e t
        | false ↦ λ t. refl
      ] refl

  around_tied : (q : ℕ) (i : Instr) (mention : Option Mention) → slice_get code.places q ≡ Some (Op i mention) → AroundTied CameTo (around_of names code q i mention) (around_of names after (come q) i mention)
  around_tied q i mention e = record {
    target = target_tied mention (aim_of code mention) (aim_of after mention) (aim_moved code p m mention) (λ r f. point r (aim_is_point code mention r f));
    literal = literal_stays q i mention e;
    link = ap names.return_word (sym (count_stays code p 1 [] (is_replacement code p m) q (all_outside code p m q)));
    lands = λ word. landing_tied word (point_among word (points names code)) (point_among word (points names after)) (point_at_moved code p 1 [] (is_replacement code p m) names word) (λ r f. point r (point_is names code word r f));
  }

  -- ---- one step elsewhere ----

  -- where a step goes on, the next place is reached
  goes_on : (q : ℕ) (i : Instr) (mention : Option Mention) (w : World) → slice_get code.places q ≡ Some (Op i mention) → Reached code q → (act (around_of names code q i mention) i w).next ≡ On → Reached code (q + 1)
  goes_on q i mention w e h on =
      let around : Around = around_of names code q i mention in
      let row : Taken around i w w = law around i w w (refl, refl) in
      let is_way : slice_get (ways code q) row.number ≡ Some row.taken =
      ap (λ (o : Option Place). slice_get (ways_on code o) row.number) e ∙ ap (λ (o : Option ℕ). slice_get (ways_of o i) row.number) (sym (inside_is names mention (aim_of code mention))) ∙ row.is_way in
      let leads : row.taken.leads ≡ Onward = on_leads around.lands row.taken.leads _ _ (subst (λ (n : Continuation). Matches around.lands n row.taken.leads (keys (act around i w).outputs) row.taken.writes) on row.takes) in
      along q row.number row.taken (q + 1) h is_way (subst (λ (l : Leads). Follows code q l (q + 1)) (sym leads) refl)

  arrive : (q : ℕ) (n n' : Continuation) → NextTied CameTo n n' → q ≢ p → Reached code q → (n ≡ On → Reached code (q + 1)) → AtBoth (arrives q (q + 1) n) (arrives (come q) (come q + 1) n')
  arrive q On On t ne h f = (next_place code p m q ne, f refl)
  arrive q Stay Stay t ne h f = (refl, h)
  arrive q (To r) (To s) t ne h f = t
  arrive q Over Over t ne h f = tt
  arrive q n n' t ne h f = absurd t

  on_both : (q : ℕ) (w : World) (es : List Event) (o : Option Place) → slice_get code.places q ≡ o → q ≢ p → Reached code q → Related (step_on names code q o (state w (Here q) es)) (step_on names after (come q) o (state w (Here (come q)) es))
  on_both q w es None e ne h = record { world = refl; events = refl; both = tt }
  on_both q w es (Some (Word v)) e ne h = record { world = refl; events = refl; both = tt }
  on_both q w es (Some (Op i mention)) e ne h =
      let here : Around = around_of names code q i mention in
      let there : Around = around_of names after (come q) i mention in
      let tie : ActTied CameTo (act here i w) (act there i w) = act_tied CameTo here there i w (looks_tied CameTo here there (around_tied q i mention e) i w) in
      record {
        world = same_world (act here i w).outputs (act there i w).outputs w.values (act here i w).memory (act there i w).memory (act here i w).answers (act there i w).answers tie.outputs tie.memory tie.answers;
        events = ap (λ l. es ++ l) tie.events;
        both = arrive q (act here i w).next (act there i w).next tie.next ne h (goes_on q i mention w e h);
      }

  step_elsewhere : (q : ℕ) (w : World) (es : List Event) → q ≢ p → Reached code q → Related (step names code (state w (Here q) es)) (step names after (state w (Here (come q)) es))
  step_elsewhere q w es ne h =
      subst (λ (o : Option Place). Related (step names code (state w (Here q) es)) (step_on names after (come q) o (state w (Here (come q)) es))) (sym (fetch code p m q ne))
      (on_both q w es (slice_get code.places q) refl ne h)

  -- ---- the runs ----

  alike_of : (s t : State) → Related s t → Alike s t
  alike_of s t r = record { events = r.events; memory = ap (λ (w : World). w.memory) r.world; answers = ap (λ (w : World). w.answers) r.world; ended = ended_of s.at t.at r.both }
    where
      ended_of : (a b : Position) → AtBoth a b → has_ended a ≡ has_ended b
      ended_of Ended Ended h = refl
      ended_of (Here q) (Here y) h = refl
      ended_of Ended (Here y) h = absurd h
      ended_of (Here q) Ended h = absurd h

  abbrev Go : State → State → Type 0
  Go s t = Advance State State (step names code) (step names after) Alike Related s t

  -- at the place that goes, the first run takes one step more
  at_gone : (w : World) (es : List Event) → Reached code p → Go (state w (Here p) es) (state w (Here (come p)) es)
  at_gone w es h =
      let quiet : step names code (state w (Here p) es) ≡ state w (Here (p + 1)) es = nothing h names w es in
      let one : Related (step names code (state w (Here (p + 1)) es)) (step names after (state w (Here (come p)) es)) =
      subst (λ (r : ℕ). Related (step names code (state w (Here (p + 1)) es)) (step names after (state w (Here r) es))) (same_next code p m) (step_elsewhere (p + 1) w es (λ e. absurd (omega arith)) (m.next h)) in
      record {
        left = 2;
        right = 1;
        some = omega arith;
        no_more = omega arith;
        related = subst (λ (s : State). Related (step names code s) (step names after (state w (Here (come p)) es))) (sym quiet) one;
        on_left = on_left quiet;
        on_right = on_right;
      }
    where
      on_left : step names code (state w (Here p) es) ≡ state w (Here (p + 1)) es → (k : ℕ) → k < 2 → Alike (times (step names code) k (state w (Here p) es)) (state w (Here (come p)) es)
      on_left quiet zero l = alike_at w p (come p) es
      on_left quiet (suc zero) l = subst (λ (s : State). Alike s (state w (Here (come p)) es)) (sym quiet) (alike_at w (p + 1) (come p) es)
      on_left quiet (suc (suc k)) l = absurd (omega arith)

      on_right : (k : ℕ) → k < 1 → Alike (times (step names code) k (state w (Here p) es)) (times (step names after) k (state w (Here (come p)) es))
      on_right zero l = alike_at w p (come p) es
      on_right (suc k) l = absurd (omega arith)

  -- elsewhere each takes one
  at_other : (q : ℕ) (w : World) (es : List Event) → q ≢ p → Reached code q → Go (state w (Here q) es) (state w (Here (come q)) es)
  at_other q w es ne h = record { left = 1; right = 1; some = omega arith; no_more = omega arith; related = step_elsewhere q w es ne h; on_left = on_left; on_right = on_right }
    where
      on_left : (k : ℕ) → k < 1 → Alike (times (step names code) k (state w (Here q) es)) (state w (Here (come q)) es)
      on_left zero l = alike_at w q (come q) es
      on_left (suc k) l = absurd (omega arith)

      on_right : (k : ℕ) → k < 1 → Alike (times (step names code) k (state w (Here q) es)) (times (step names after) k (state w (Here (come q)) es))
      on_right zero l = alike_at w q (come q) es
      on_right (suc k) l = absurd (omega arith)

  at_place : (q : ℕ) (w : World) (es : List Event) → Reached code q → Go (state w (Here q) es) (state w (Here (come q)) es)
  at_place q w es h = elim (cases_eq q p) [
    | inl same ↦ subst (λ (z : ℕ). Go (state w (Here z) es) (state w (Here (come z)) es)) (sym same) (at_gone w es (subst (Reached code) same h))
    | inr ne ↦ at_other q w es ne h
  ]

  advance_at : (a b : Position) (u v : World) (es fs : List Event) → u ≡ v → es ≡ fs → AtBoth a b → ((step names code (state u a es) ≡ state u a es) × (step names after (state v b fs) ≡ state v b fs)) ⊎ Go (state u a es) (state v b fs)
  advance_at Ended Ended u v es fs e f h = inl (refl, refl)
  advance_at Ended (Here q) u v es fs e f h = absurd h
  advance_at (Here q) Ended u v es fs e f h = absurd h
  advance_at (Here q) (Here r) u v es fs e f h =
      inr (subst (λ (z : ℕ). Go (state u (Here q) es) (state v (Here z) fs)) (sym h.0)
      (subst (λ (x : World). Go (state u (Here q) es) (state x (Here (come q)) fs)) e
      (subst (λ (x : List Event). Go (state u (Here q) es) (state u (Here (come q)) x)) f
      (at_place q u es h.1))))

  advance : (s t : State) → Related s t → ((step names code s ≡ s) × (step names after t ≡ t)) ⊎ Go s t
  advance s t r = advance_at s.at t.at s.world t.world s.events t.events r.world r.events r.both

  pub runs_sooner : (n : ℕ) (s t : State) → Related s t → (k : ℕ) × (k ≤ n) × Alike (times (step names code) n s) (times (step names after) k t)
  runs_sooner n s t r = sooner State State (step names code) (step names after) Alike Related alike_of advance n n s t (omega arith) r

  pub runs_reached : (k : ℕ) (s t : State) → Related s t → (n : ℕ) × (k ≤ n) × Alike (times (step names code) n s) (times (step names after) k t)
  runs_reached k s t r = reached State State (step names code) (step names after) Alike Related alike_of advance k k s t (omega arith) r

  both_at : (o o' : Option ℕ) → o' ≡ option_map come o → ((r : ℕ) → o ≡ Some r → Reached code r) → AtBoth (here_or_ended o) (here_or_ended o')
  both_at None o' e h = subst (λ (x : Option ℕ). AtBoth Ended (here_or_ended x)) (sym e) tt
  both_at (Some r) o' e h = subst (λ (x : Option ℕ). AtBoth (Here r) (here_or_ended x)) (sym e) (refl, h r refl)

  -- runs begun at one label are related
  pub begun_related : (label : Name) (w : World) (es : List Event) → Related (begun code label w es) (begun after label w es)
  begun_related label w es =
      record {
        world = refl;
        events = refl;
        both = both_at (place_of code label) _ (place_moved code p 1 [] (is_replacement code p m) label) (λ r f. point r (label_is_point code label r f));
      }

-- ---- the theorem for one instruction that goes ----

pub gone_keeps : (code : Code) (p : ℕ) → MayGo code p → DoesNothing code p → Keeps code (replaced code p 1 [])
gone_keeps code p m nothing =
    record {
      same = λ literals. record {
        sooner = λ names fits label some w words es n. runs_sooner names code literals p m nothing n _ _ (begun_related names code literals p m nothing label w es);
        reached = λ names fits label some w words es k. runs_reached names code literals p m nothing k _ _ (begun_related names code literals p m nothing label w es);
      };
      literals = literals_stay code p 1 [] (is_replacement code p m);
      fits = fits_stays code p 1 [] (is_replacement code p m);
      entry = λ label h. subst (λ (o : Option ℕ). IsSome o) (sym (place_moved code p 1 [] (is_replacement code p m) label)) (is_some_moved _ _ h);
    }
