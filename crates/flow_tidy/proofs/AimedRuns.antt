-- The listing in which a branch is redirected to the end of its chain runs the same, and reaches the same.
use Rattle.std.proofs.Common.{◌≡◌, ◌≢◌, ◌↔◌, ℕ, zero, suc, ◌+◌, ◌<◌, ◌≤◌, Bool, true, false, List, [], Option, Some, None, IsSome, refl, sym, ap, ◌∙◌, subst, ◌⊎◌, inl, inr, arith, if◌then◌else◌}
use Rattle.std.specs.Prelude.{slice_get}
use Rattle.std.proofs.lemmas.Bool.{cases_eq}
use Rattle.std.proofs.lemmas.Option.{same_Some}
use Rattle.thumb_instr.specs.declared.instr.Instr.{Instr}
use Rattle.thumb_instr.specs.declared.instr.Instr.TheVariants as instr
use Rattle.thumb_instr.specs.Shape.{condition_uses}
use Rattle.thumb_model.specs.Effect.{Values}
use Rattle.thumb_model.specs.Listing.{Name, Mention, Place, Op, Word, ListingLine, Code, code_of, place_of, IsPoint}
use Rattle.thumb_model.specs.Naming.{Naming, points}
use Rattle.thumb_model.specs.States.{World, Around, Target, Event, Position, Here, Ended, State, On, puts}
use Rattle.thumb_model.specs.Acts.{holds, act, jumps}
use Rattle.thumb_model.specs.Steps.{does, around_of, aim_of, target_at, landing, point_among, step_on, step_at, step, times}
use Rattle.thumb_model.specs.Flow.{Way, way, Leads, Onward, ToPlace, AnyPoint, Out, jump_way, ways, ways_on, ways_of, Follows, Reached, point, along}
use Rattle.thumb_model.specs.Same.{Alike, begun, here_or_ended}
use Rattle.thumb_model.proofs.Simulation.{Advance, sooner, reached}
use Rattle.thumb_model.proofs.Follow.{Keeps, state}
use Rattle.flow_tidy.specs.Tidying.{is_always, Hops, HopsBy, Setting, is_branch, GoesToEnd}
use Rattle.listing_parser.specs.Targets.{aimed_lines}
use Rattle.flow_tidy.proofs.Ways.{label_is_point}
use Rattle.flow_tidy.proofs.Removed.{append_nothing, same_events}
use Rattle.flow_tidy.proofs.Aimed.{to_label, aimed_code, get_aimed, get_other, name_stays, aim_stays, points_stay, point_forth, point_back, count_stays, literal_stays, literals_stay, fits_stays, code_aimed}

-- ---- branches that go where they aim ----

-- whether a branch is taken
abbrev is_taken : Instr → Values → Bool
is_taken (instr.BranchIf c d) v = holds c v
is_taken i v = true

-- a row: a branch that is taken goes where it aims, and does nothing else
taken_step : (names : Naming) (code : Code) (p q : ℕ) (i : Instr) (mention : Option Mention) (w : World) (es : List Event) → is_branch i ≡ true → is_taken i w.values ≡ true → aim_of code mention ≡ Some q → step_on names code p (Some (Op i mention)) (state w (Here p) es) ≡ state w (Here q) es
taken_step names code p q (instr.BranchIf c d) mention w es b t e =
    ap (λ (x : Bool). does p (p + 1) (if x then jumps (target_at names mention (aim_of code mention)) w else puts [] On w) (state w (Here p) es)) t
    ∙ ap (λ (o : Option ℕ). does p (p + 1) (jumps (target_at names mention o) w) (state w (Here p) es)) e
    ∙ same_events w q _ _ (append_nothing es)
taken_step names code p q (instr.Branch d) mention w es b t e =
    ap (λ (o : Option ℕ). does p (p + 1) (jumps (target_at names mention o) w) (state w (Here p) es)) e ∙ same_events w q _ _ (append_nothing es)
taken_step names code p q i mention w es b t e = absurd (cc)

-- a row: a branch that isn't taken goes on to the next place
passed_step : (names : Naming) (code : Code) (p : ℕ) (i : Instr) (mention : Option Mention) (w : World) (es : List Event) → is_branch i ≡ true → is_taken i w.values ≡ false → step_on names code p (Some (Op i mention)) (state w (Here p) es) ≡ state w (Here (p + 1)) es
passed_step names code p (instr.BranchIf c d) mention w es b t =
    ap (λ (x : Bool). does p (p + 1) (if x then jumps (target_at names mention (aim_of code mention)) w else puts [] On w) (state w (Here p) es)) t
    ∙ same_events w (p + 1) _ _ (append_nothing es)
passed_step names code p (instr.Branch d) mention w es b t = absurd (cc)
passed_step names code p i mention w es b t = absurd (cc)

-- ---- chains ----

pub some_of : (o : Option ℕ) → IsSome o → (q : ℕ) × (o ≡ Some q)
some_of None h = absurd (cc)
some_of (Some q) h = (q, refl)

always_branches : (i : Instr) → is_always i ≡ true → is_branch i ≡ true
always_branches (instr.Branch d) h = refl
always_branches i h = absurd (cc)

always_taken : (i : Instr) (v : Values) → is_always i ≡ true → is_taken i v ≡ true
always_taken (instr.Branch d) v h = refl
always_taken i v h = absurd (cc)

-- the last label of a chain is a code label
pub last_is_code : (code : Code) (n : ℕ) (from to : Name) → HopsBy code (suc n) from to → IsSome (place_of code to)
last_is_code code zero from to h = subst (λ (x : Name). IsSome (place_of code x)) h.2 h.1.code_label
last_is_code code (suc n) from to h = last_is_code code n h.0 to h.2

module _ (names : Naming) (code : Code) (w : World) (es : List Event) where
  abbrev stand : ℕ → State
  stand q = state w (Here q) es

  hop_step : (from to : Name) (a b : ℕ) → Hops code from to → place_of code from ≡ Some a → place_of code to ≡ Some b → step names code (stand a) ≡ stand b
  hop_step from to a b h e f =
      let place : h.place ≡ a = same_Some _ _ (sym h.labelled ∙ e) in
      let at : slice_get code.places a ≡ Some (Op h.i (Some h.mention)) = ap (slice_get code.places) (sym place) ∙ h.stands in
      let aim : aim_of code (Some h.mention) ≡ Some b = ap (place_of code) h.named ∙ f in
      ap (λ (o : Option Place). step_on names code a o (stand a)) at ∙ taken_step names code a b h.i (Some h.mention) w es (always_branches h.i h.always) (always_taken h.i w.values h.always) aim

  -- so many hops are so many steps
  hop_run : (n : ℕ) (from to : Name) (a b : ℕ) → HopsBy code n from to → place_of code from ≡ Some a → place_of code to ≡ Some b → times (step names code) n (stand a) ≡ stand b
  hop_run zero from to a b h e f = ap stand (same_Some _ _ (sym e ∙ ap (place_of code) h ∙ f))
  hop_run (suc n) from to a b h e f =
      let via = some_of (place_of code h.0) h.1.code_label in
      ap (times (step names code) n) (hop_step from h.0 a via.0 h.1 e via.1) ∙ hop_run n h.0 to via.0 b h.2 via.1 f

  -- and on the way nothing is seen
  hop_part : (n k : ℕ) (from to : Name) (a : ℕ) → k ≤ n → HopsBy code n from to → place_of code from ≡ Some a → (q : ℕ) × (times (step names code) k (stand a) ≡ stand q)
  hop_part n zero from to a l h e = (a, refl)
  hop_part zero (suc k) from to a l h e = absurd (omega arith)
  hop_part (suc n) (suc k) from to a l h e =
      let via = some_of (place_of code h.0) h.1.code_label in
      let rest = hop_part n k h.0 to via.0 (omega arith) h.2 via.1 in
      (rest.0, ap (times (step names code) k) (hop_step from h.0 a via.0 h.1 e via.1) ∙ rest.1)

-- ---- what is reached ----

-- two listings that are the same but for where a branch at p aims
record AreAlikeBut (a b : Code) (p : ℕ) : Type 0 where
  points_over : (q : ℕ) → IsPoint a q → IsPoint b q
  ways_over : (q k : ℕ) (w : Way) → q ≢ p → slice_get (ways a q) k ≡ Some w → slice_get (ways b q) k ≡ Some w
  i : Instr
  branch : is_branch i ≡ true
  here : ℕ
  here_point : IsPoint a here
  here_ways : ways a p ≡ ways_of (Some here) i
  there : ℕ
  there_ways : ways b p ≡ ways_of (Some there) i

-- a row: a branch leads where it aims, or on, and then the other does so too
branch_leads : (a b : Code) (p k here there : ℕ) (i : Instr) (w : Way) (q : ℕ) → is_branch i ≡ true → slice_get (ways_of (Some here) i) k ≡ Some w → Follows a p w.leads q → (q ≡ here) ⊎ ((q ≡ p + 1) × (v : Way) × (slice_get (ways_of (Some there) i) k ≡ Some v) × (v.leads ≡ Onward))
branch_leads a b p zero here there (instr.BranchIf c d) w q t e f = inl (subst (λ (u : Way). Follows a p u.leads q) (sym (same_Some (jump_way (condition_uses c) (Some here)) w e)) f)
branch_leads a b p (suc zero) here there (instr.BranchIf c d) w q t e f =
    inr ((subst (λ (u : Way). Follows a p u.leads q) (sym (same_Some (way (condition_uses c) [] Onward) w e)) f, way (condition_uses c) [] Onward, refl, refl))
branch_leads a b p (suc (suc k)) here there (instr.BranchIf c d) w q t e f = absurd (cc)
branch_leads a b p zero here there (instr.Branch d) w q t e f = inl (subst (λ (u : Way). Follows a p u.leads q) (sym (same_Some (jump_way [] (Some here)) w e)) f)
branch_leads a b p (suc k) here there (instr.Branch d) w q t e f = absurd (cc)
branch_leads a b p k here there i w q t e f = absurd (cc)

module _ (a b : Code) (p : ℕ) (s : AreAlikeBut a b p) where
  follows_over : (r q : ℕ) (l : Leads) → Follows a r l q → Follows b r l q
  follows_over r q Onward f = f
  follows_over r q (ToPlace x) f = f
  follows_over r q AnyPoint f = s.points_over q f
  follows_over r q Out f = f

  over_along : (r k : ℕ) (w : Way) (q : ℕ) → Reached b r → slice_get (ways a r) k ≡ Some w → Follows a r w.leads q → Reached b q
  over_along r k w q h e f = elim (cases_eq r p) [
    | inl same ↦ (
        let e' : slice_get (ways_of (Some s.here) s.i) k ≡ Some w = ap (λ (ws : List Way). slice_get ws k) (sym s.here_ways) ∙ ap (λ x. slice_get (ways a x) k) (sym same) ∙ e in
        let f' : Follows a p w.leads q = subst (λ x. Follows a x w.leads q) same f in
        elim (branch_leads a b p k s.here s.there s.i w q s.branch e' f') [
          | inl is ↦ point q (s.points_over q (subst (IsPoint a) (sym is) s.here_point))
          | inr on ↦ along p k on.1 q (subst (Reached b) same h) (ap (λ (ws : List Way). slice_get ws k) s.there_ways ∙ on.2) (subst (λ l. Follows b p l q) (sym on.3) on.0)
        ])
    | inr ne ↦ along r k w q h (s.ways_over r k w ne e) (follows_over r q w.leads f)
  ]

  reached_over : (q : ℕ) → Reached a q → Reached b q
  reached_over _ (point q h) = point q (s.points_over q h)
  reached_over _ (along r k w q h e f) = over_along r k w q (reached_over r h) e f

-- ---- a branch that goes to the end of its chain ----

module _ (code : Code) (p : ℕ) (label : Name) (g : GoesToEnd code p label) where
  abbrev after : Code
  after = aimed_code p label code

  first_hop : (via : Name) × Hops code g.mention.name via × HopsBy code g.end.more via label
  first_hop = g.end.leads

  -- where the branch aimed, and where it aims now
  abbrev was : ℕ
  was = first_hop.1.place

  was_aim : place_of code g.mention.name ≡ Some was
  was_aim = first_hop.1.labelled

  label_some : (q : ℕ) × (place_of code label ≡ Some q)
  label_some = some_of (place_of code label) (last_is_code code g.end.more g.mention.name label g.end.leads)

  abbrev now : ℕ
  now = label_some.0

  now_aim : aim_of after (Some (to_label label)) ≡ Some now
  now_aim = aim_stays code p label (Some (to_label label)) ∙ label_some.1

  after_stands : slice_get after.places p ≡ Some (Op g.i (Some (to_label label)))
  after_stands = get_aimed label p code.places g.i (Some g.mention) g.stands

  -- ---- reached ----

  was_ways : ways code p ≡ ways_of (Some was) g.i
  was_ways = ap (λ (o : Option Place). ways_on code o) g.stands ∙ ap (λ (o : Option ℕ). ways_of o g.i) was_aim

  now_ways : ways after p ≡ ways_of (Some now) g.i
  now_ways = ap (λ (o : Option Place). ways_on after o) after_stands ∙ ap (λ (o : Option ℕ). ways_of o g.i) now_aim

  ways_on_same : (o : Option Place) → ways_on after o ≡ ways_on code o
  ways_on_same None = refl
  ways_on_same (Some (Word v)) = refl
  ways_on_same (Some (Op i mention)) = ap (λ (o : Option ℕ). ways_of o i) (aim_stays code p label mention)

  ways_same : (q : ℕ) → q ≢ p → ways after q ≡ ways code q
  ways_same q ne = ap (λ (o : Option Place). ways_on after o) (get_other label p q code.places ne) ∙ ways_on_same (slice_get code.places q)

  forth : AreAlikeBut code after p
  forth = record {
    points_over = point_forth code p label;
    ways_over = λ q k w ne e. ap (λ (ws : List Way). slice_get ws k) (ways_same q ne) ∙ e;
    i = g.i;
    branch = g.branch;
    here = was;
    here_point = label_is_point code g.mention.name was was_aim;
    here_ways = was_ways;
    there = now;
    there_ways = now_ways;
  }

  back : AreAlikeBut after code p
  back = record {
    points_over = point_back code p label;
    ways_over = λ q k w ne e. ap (λ (ws : List Way). slice_get ws k) (sym (ways_same q ne)) ∙ e;
    i = g.i;
    branch = g.branch;
    here = now;
    here_point = point_forth code p label now (label_is_point code label now label_some.1);
    here_ways = now_ways;
    there = was;
    there_ways = was_ways;
  }

  pub reached_same : (q : ℕ) → Reached code q ↔ Reached after q
  reached_same q = (reached_over code after p forth q, reached_over after code p back q)

  -- ---- runs ----

  module _ (names : Naming) where
    around_same : (q : ℕ) (i : Instr) (mention : Option Mention) → around_of names code q i mention ≡ around_of names after q i mention
    around_same q i mention =
        same_around _ _ _ _ _ _ (points names code) (points names after)
        (ap (target_at names mention) (sym (aim_stays code p label mention)))
        (sym (literal_stays code p label names i mention))
        (ap names.return_word (sym (count_stays code p label q)))
        (sym (points_stay code p label names))
      where
        same_around : (t u : Target) (x y m n : ℕ) (ps qs : List (ℕ × ℕ)) → t ≡ u → x ≡ y → m ≡ n → ps ≡ qs → (let r : Around = record { target = t; literal = x; link = m; lands = λ v. landing names v (point_among v ps) } in r) ≡ record { target = u; literal = y; link = n; lands = λ v. landing names v (point_among v qs) }
        same_around t u x y m n ps qs e f g h = λ j. record { target = e j; literal = f j; link = g j; lands = λ v. landing names v (point_among v (h j)) }

    on_same : (q : ℕ) (o : Option Place) (s : State) → step_on names code q o s ≡ step_on names after q o s
    on_same q None s = refl
    on_same q (Some (Word v)) s = refl
    on_same q (Some (Op i mention)) s = ap (λ (a : Around). does q (q + 1) (act a i s.world) s) (around_same q i mention)

    step_elsewhere : (q : ℕ) (s : State) → q ≢ p → step_at names code (Here q) s ≡ step_at names after (Here q) s
    step_elsewhere q s ne = on_same q (slice_get code.places q) s ∙ ap (λ (o : Option Place). step_on names after q o s) (sym (get_other label p q code.places ne))

    abbrev IsSame : State → State → Type 0
    IsSame s t = s ≡ t

    abbrev Go : State → State → Type 0
    Go s t = Advance State State (step names code) (step names after) Alike IsSame s t

    alike_here : (s : State) → Alike s s
    alike_here s = record { events = refl; memory = refl; answers = refl; ended = refl }

    alike_of : (s t : State) → IsSame s t → Alike s t
    alike_of s t e = subst (Alike s) e (alike_here s)

    -- one step in each
    go_one : (s : State) → step names code s ≡ step names after s → Go s s
    go_one s e = record { left = 1; right = 1; some = omega arith; no_more = omega arith; related = e; on_left = on_left; on_right = on_right }
      where
        on_left : (k : ℕ) → k < 1 → Alike (times (step names code) k s) s
        on_left zero l = alike_here s
        on_left (suc k) l = absurd (omega arith)

        on_right : (k : ℕ) → k < 1 → Alike (times (step names code) k s) (times (step names after) k s)
        on_right zero l = alike_here s
        on_right (suc k) l = absurd (omega arith)

    module _ (w : World) (es : List Event) where
      abbrev stood : ℕ → State
      stood q = state w (Here q) es

      alike_at : (q r : ℕ) → Alike (stood q) (stood r)
      alike_at q r = record { events = refl; memory = refl; answers = refl; ended = refl }

      -- a branch that is taken: the first run goes through the chain
      go_taken : is_taken g.i w.values ≡ true → Go (stood p) (stood p)
      go_taken t =
          let first : step names code (stood p) ≡ stood was =
          ap (λ (o : Option Place). step_on names code p o (stood p)) g.stands ∙ taken_step names code p was g.i (Some g.mention) w es g.branch t was_aim in
          let rest : times (step names code) (suc g.end.more) (stood was) ≡ stood now = hop_run names code w es (suc g.end.more) g.mention.name label was now g.end.leads was_aim label_some.1 in
          let other : step names after (stood p) ≡ stood now =
          ap (λ (o : Option Place). step_on names after p o (stood p)) after_stands ∙ taken_step names after p now g.i (Some (to_label label)) w es g.branch t now_aim in
          record {
            left = suc (suc g.end.more);
            right = 1;
            some = omega arith;
            no_more = omega arith;
            related = ap (times (step names code) (suc g.end.more)) first ∙ rest ∙ sym other;
            on_left = on_left first;
            on_right = on_right;
          }
        where
          on_left : step names code (stood p) ≡ stood was → (k : ℕ) → k < suc (suc g.end.more) → Alike (times (step names code) k (stood p)) (stood p)
          on_left first zero l = alike_here (stood p)
          on_left first (suc k) l =
              let part = hop_part names code w es (suc g.end.more) k g.mention.name label was (omega arith) g.end.leads was_aim in
              subst (λ (s : State). Alike s (stood p)) (sym (ap (times (step names code) k) first ∙ part.1)) (alike_at part.0 p)

          on_right : (k : ℕ) → k < 1 → Alike (times (step names code) k (stood p)) (times (step names after) k (stood p))
          on_right zero l = alike_here (stood p)
          on_right (suc k) l = absurd (omega arith)

      go_passed : is_taken g.i w.values ≡ false → Go (stood p) (stood p)
      go_passed t =
          go_one (stood p) (
          ap (λ (o : Option Place). step_on names code p o (stood p)) g.stands ∙ passed_step names code p g.i (Some g.mention) w es g.branch t
          ∙ sym (ap (λ (o : Option Place). step_on names after p o (stood p)) after_stands ∙ passed_step names after p g.i (Some (to_label label)) w es g.branch t))

      go_at : Go (stood p) (stood p)
      go_at = elim (is_taken g.i w.values) as (λ b. is_taken g.i w.values ≡ b → Go (stood p) (stood p)) [ true ↦ λ t. go_taken t | false ↦ λ t. go_passed t ] refl

      go_from : (q : ℕ) → Go (stood q) (stood q)
      go_from q = elim (cases_eq q p) [
        | inl same ↦ subst (λ (x : ℕ). Go (stood x) (stood x)) (sym same) go_at
        | inr ne ↦ go_one (stood q) (step_elsewhere q (stood q) ne)
      ]

    advance_at : (a : Position) (w : World) (es : List Event) → ((step names code (state w a es) ≡ state w a es) × (step names after (state w a es) ≡ state w a es)) ⊎ Go (state w a es) (state w a es)
    advance_at Ended w es = inl (refl, refl)
    advance_at (Here q) w es = inr (go_from w es q)

    advance : (s t : State) → IsSame s t → ((step names code s ≡ s) × (step names after t ≡ t)) ⊎ Go s t
    advance s t e = subst (λ (x : State). ((step names code s ≡ s) × (step names after x ≡ x)) ⊎ Go s x) e (advance_at s.at s.world s.events)

    runs_sooner : (n : ℕ) (s t : State) → IsSame s t → (k : ℕ) × (k ≤ n) × Alike (times (step names code) n s) (times (step names after) k t)
    runs_sooner n s t e = sooner State State (step names code) (step names after) Alike IsSame alike_of advance n n s t (omega arith) e

    runs_reached : (k : ℕ) (s t : State) → IsSame s t → (n : ℕ) × (k ≤ n) × Alike (times (step names code) n s) (times (step names after) k t)
    runs_reached k s t e = reached State State (step names code) (step names after) Alike IsSame alike_of advance k k s t (omega arith) e

    begun_same : (name : Name) (w : World) (es : List Event) → begun code name w es ≡ begun after name w es
    begun_same name w es = ap (λ (o : Option ℕ). state w (here_or_ended o) es) (sym (name_stays code p label name))

  pub end_keeps : Keeps code after
  end_keeps =
      record {
        same = λ literals. record {
          sooner = λ names fits name some w words es n. runs_sooner names n _ _ (begun_same names name w es);
          reached = λ names fits name some w words es k. runs_reached names k _ _ (begun_same names name w es);
        };
        literals = literals_stay code p label g.i (Some g.mention) g.stands g.branch;
        fits = fits_stays code p label now label_some.1;
        entry = λ name h. subst (λ (o : Option ℕ). IsSome o) (sym (name_stays code p label name)) h;
      }

-- ---- lines ----

pub lines_aimed_keep : (s : Setting) (p : ℕ) (label : Name) (ls : List ListingLine) → GoesToEnd (code_of ls) p label → Keeps (code_of ls) (code_of (aimed_lines s.write p label ls))
lines_aimed_keep s p label ls g = subst (Keeps (code_of ls)) (sym (code_aimed s.write label p ls g.i (Some g.mention) g.stands)) (end_keeps (code_of ls) p label g)

pub reached_aimed : (s : Setting) (p : ℕ) (label : Name) (ls : List ListingLine) → GoesToEnd (code_of ls) p label → (q : ℕ) → Reached (code_of ls) q ↔ Reached (code_of (aimed_lines s.write p label ls)) q
reached_aimed s p label ls g q = subst (λ (c : Code). Reached (code_of ls) q ↔ Reached c q) (sym (code_aimed s.write label p ls g.i (Some g.mention) g.stands)) (reached_same (code_of ls) p label g q)
