-- A listing with one window replaced simulates the listing before: the theorem for one replacement, and for several by transitivity.
use Rattle.std.proofs.Common.{◌≡◌, ◌≢◌, ℕ, suc, ◌+◌, ◌-◌, ◌<◌, ◌≤◌, ◌^◌, ◌/◌, ◌&&◌, not, true, false, if◌then◌else◌, List, [], ◌∷◌, ◌++◌, length, map, Option, Some, None, IsSome, refl, sym, ap, ◌∙◌, subst, ◌⊎◌, inl, inr, arith}
use Rattle.std.specs.Prelude.{slice_get}
use Rattle.std.specs.Option.{option_map}
use Rattle.std.proofs.lemmas.Bool.{cases_eq}
use Rattle.thumb_instr.specs.declared.instr.Instr.{Instr}
use Rattle.thumb_model.specs.Effect.{Values, AreWords, assigned, after_all}
use Rattle.thumb_model.specs.Listing.{Name, Mention, Place, Op, Word, plain, Code, place_of, label_places, return_places, IsPoint}
use Rattle.thumb_model.specs.Naming.{Naming, Fits, is_odd, is_in_range, points}
use Rattle.thumb_model.specs.States.{World, IsWorld, Around, Act, Event, Fell, Leaves, Strays, Continuation, On, Stay, To, Over, Position, Here, Ended, State}
use Rattle.thumb_model.specs.Acts.{act}
use Rattle.thumb_model.specs.Steps.{label_place, loads_literal, word_of_mention, word_of_place, word_behind, literal_word, literal_at, arrives, around_of, aim_of, target_at, landing, point_among, step_on, step, times}
use Rattle.thumb_model.specs.Literals.{HasLiterals}
use Rattle.thumb_model.specs.Flow.{Reads}
use Rattle.thumb_model.specs.Same.{has_ended, Alike, here_or_ended, begun, Same}
use Rattle.thumb_model.specs.Replaced.{moved, replaced}
use Rattle.thumb_model.proofs.Simulation.{times_add, Advance, sooner, reached}
use Rattle.thumb_model.proofs.Tied.{TargetTied, LandingTied, NextTied, ActTied, AroundTied, looks_tied, act_tied}
use Rattle.thumb_model.proofs.Held.{IsSafe, held_of, act_safe, world_after}
use Rattle.thumb_model.proofs.Worlds.{around_words}
use Rattle.thumb_model.proofs.Moved.{IsReplacement, data_moved, label_place_moved, name_outside, IsOutside, fetch_window, fetch_outside, point_at_moved, count_stays, place_moved, fits_stays, literals_stay, return_outside, one_of_append}
use Rattle.thumb_model.proofs.Points.{IsLabelsPlace, label_of_name, label_of_place, point_is}
use Rattle.thumb_model.proofs.Window.{StandsAt, AreStraight, went, straight_run, straight_part, GoesTo, Flows, flows, flows_on, held_after}

-- instructions stand from p on where each place has its own of them
pub stands_from : (places : List Place) (p : ℕ) (is : List Instr) → ((j : ℕ) → j < length is → slice_get places (p + j) ≡ slice_get (map plain is) j) → StandsAt places p is
stands_from places p [] h = tt
stands_from places p (i ∷ is) h = (
  ap (slice_get places) (let e : p ≡ p + 0 = omega arith in e) ∙ h 0 (omega arith),
  stands_from places (p + 1) is (λ j l. ap (slice_get places) (let e : p + 1 + j ≡ p + suc j = omega arith in e) ∙ h (suc j) (omega arith)),
)

-- ---- one replacement ----

-- a replacement by instructions that leave the same value in every item that may be read afterwards
pub record IsSound (code : Code) (p : ℕ) (left right : List Instr) : Type 0 where
  pub fits_in : IsReplacement code p (length left) right
  pub stands : StandsAt code.places p left
  pub left_straight : AreStraight left
  pub right_straight : AreStraight right
  pub agree : (t : Values) → AreWords t → (x : ℕ) → Reads code x (p + length left) → after_all left t x ≡ after_all right t x

-- a state, by its parts
abbrev pub state : World → Position → List Event → State
state w a es = record { world = w; at = a; events = es }

-- the return points' words are words
abbrev pub AreSmall : Naming → Type 0
AreSmall names = (k : ℕ) → names.return_word k < 2 ^ 32

module _ (names : Naming) (small : AreSmall names) (code : Code) (literals : HasLiterals code) (p : ℕ) (left right : List Instr) (sound : IsSound code p left right) where
  abbrev new : Code
  new = replaced code p (length left) right

  abbrev to : ℕ → ℕ
  to = moved p (length left - length right)

  -- q lies outside the window, and r is its place in the new listing
  abbrev CameTo : ℕ → ℕ → Type 0
  CameTo q r = (r ≡ to q) × IsOutside p (length left) q

  -- the two runs are at corresponding places, and all items that are read from there on have the same values
  abbrev pub AtBoth : Position → Position → Values → Values → Type 0
  AtBoth Ended Ended u v = Unit {0}
  AtBoth (Here q) (Here r) u v = CameTo q r × ((x : ℕ) → Reads code x q → u x ≡ v x)
  AtBoth Ended (Here r) u v = ⊥
  AtBoth (Here q) Ended u v = ⊥

  -- the two runs have the same observable parts, and are at corresponding places
  pub record Related (s t : State) : Type 0 where
    pub events : s.events ≡ t.events
    pub memory : s.world.memory ≡ t.world.memory
    pub answers : s.world.answers ≡ t.world.answers
    pub both : AtBoth s.at t.at s.world.values t.world.values
    pub words : IsWorld t.world

  outside_label : (q : ℕ) → IsLabelsPlace code.labels q → IsOutside p (length left) q
  outside_label q f = subst (IsOutside p (length left)) (sym f.3) (sound.fits_in.unlabelled f.0 f.1 f.2)

  outside_point : (q : ℕ) → IsPoint code q → IsOutside p (length left) q
  outside_point q h =
      elim (one_of_append q (label_places code.places code.labels) (return_places 0 code.places) h) [
        | inl l ↦ outside_label q (label_of_place code.places code.labels q l)
        | inr r ↦ return_outside code p (length left) right sound.fits_in q r
      ]

  -- ---- what is around an instruction is tied ----

  target_tied : (mention : Option Mention) (o o' : Option ℕ) → o' ≡ option_map to o → ((r : ℕ) → o ≡ Some r → IsOutside p (length left) r) → TargetTied CameTo (target_at names mention o) (target_at names mention o')
  target_tied mention None o' e out = subst (λ (x : Option ℕ). TargetTied CameTo (target_at names mention None) (target_at names mention x)) (sym e) refl
  target_tied mention (Some r) o' e out = subst (λ (x : Option ℕ). TargetTied CameTo (target_at names mention (Some r)) (target_at names mention x)) (sym e) (refl, out r refl)

  aim_moved : (mention : Option Mention) → aim_of new mention ≡ option_map to (aim_of code mention)
  aim_moved None = refl
  aim_moved (Some m) = place_moved code p (length left) right sound.fits_in m.name

  aim_outside : (mention : Option Mention) (r : ℕ) → aim_of code mention ≡ Some r → IsOutside p (length left) r
  aim_outside None r e = absurd (cc)
  aim_outside (Some m) r e = outside_label r (label_of_name m.name code.places code.labels r e)

  same_landing : (word : ℕ) → LandingTied CameTo (landing names word None) (landing names word None)
  same_landing word = elim (is_odd word && not (is_in_range names word)) as (λ b. LandingTied CameTo (if b then Leaves else Strays) (if b then Leaves else Strays)) [ true ↦ tt | false ↦ tt ]

  landing_tied : (word : ℕ) (o o' : Option ℕ) → o' ≡ option_map to o → ((r : ℕ) → o ≡ Some r → IsOutside p (length left) r) → LandingTied CameTo (landing names word o) (landing names word o')
  landing_tied word None o' e out = subst (λ (x : Option ℕ). LandingTied CameTo (landing names word None) (landing names word x)) (sym e) (same_landing word)
  landing_tied word (Some r) o' e out = subst (λ (x : Option ℕ). LandingTied CameTo (landing names word (Some r)) (landing names word x)) (sym e) (refl, out r refl)

  -- the word of a literal stays the same
  behind_stays : (q : ℕ) (i : Instr) (m : Mention) → slice_get code.places q ≡ Some (Op i (Some m)) → loads_literal i ≡ true → (o : Option ℕ) → label_place m.name code.labels ≡ o → word_behind names code.places m.plus o ≡ word_behind names new.places m.plus (option_map to o)
  behind_stays q i m e t None f = refl
  behind_stays q i m e t (Some r) f = ap (word_of_place names) (sym (data_moved code p (length left) right sound.fits_in r (m.plus / 4) (name_outside code p (length left) right sound.fits_in m.name r f) (λ j l. literals q i m e t r f j l)))

  word_stays : (q : ℕ) (i : Instr) (mention : Option Mention) → slice_get code.places q ≡ Some (Op i mention) → loads_literal i ≡ true → literal_word names code mention ≡ literal_word names new mention
  word_stays q i None e t = refl
  word_stays q i (Some m) e t =
      behind_stays q i m e t (label_place m.name code.labels) refl ∙ ap (word_behind names new.places m.plus) (sym (label_place_moved code p (length left) right sound.fits_in m.name code.labels))

  literal_stays : (q : ℕ) (i : Instr) (mention : Option Mention) → slice_get code.places q ≡ Some (Op i mention) → literal_at names code i mention ≡ literal_at names new i mention
  literal_stays q i mention e =
      elim (loads_literal i) as (λ b. loads_literal i ≡ b → (if b then literal_word names code mention else word_of_mention names mention) ≡ (if b then literal_word names new mention else word_of_mention names mention)) [
        | true ↦ λ t. word_stays q i mention e t
        | false ↦ λ t. refl
      ] refl

  around_tied : (q : ℕ) (i : Instr) (mention : Option Mention) → slice_get code.places q ≡ Some (Op i mention) → IsOutside p (length left) q → AroundTied CameTo (around_of names code q i mention) (around_of names new (to q) i mention)
  around_tied q i mention e out = record {
    target = target_tied mention (aim_of code mention) (aim_of new mention) (aim_moved mention) (aim_outside mention);
    literal = literal_stays q i mention e;
    link = ap names.return_word (sym (count_stays code p (length left) right sound.fits_in q out));
    lands = λ word. landing_tied word (point_among word (points names code)) (point_among word (points names new)) (point_at_moved code p (length left) right sound.fits_in names word) (λ r f. outside_point r (point_is names code word r f));
  }

  -- ---- one step outside the window ----

  next_place : (q : ℕ) → q ≢ p → IsOutside p (length left) q → (to q + 1 ≡ to (q + 1)) × IsOutside p (length left) (q + 1)
  next_place q ne (inl h) = (omega arith, inl (omega arith))
  next_place q ne (inr h) = let s = sound.fits_in.no_longer in (omega arith, inr (omega arith))

  -- the positions of both after the step
  arrive : (q : ℕ) (n n' : Continuation) (u v : Values) → NextTied CameTo n n' → q ≢ p → IsOutside p (length left) q → ((r x : ℕ) → GoesTo q n r → Reads code x r → u x ≡ v x) → AtBoth (arrives q (q + 1) n) (arrives (to q) (to q + 1) n') u v
  arrive q On On u v t ne out h = let e = next_place q ne out in ((e.0, e.1), λ x r. h (q + 1) x refl r)
  arrive q Stay Stay u v t ne out h = ((refl, out), λ x r. h q x refl r)
  arrive q (To r) (To s) u v t ne out h = (t, λ x rd. h r x refl rd)
  arrive q Over Over u v t ne out h = tt
  arrive q n n' u v t ne out h = absurd t

  on_both : (q : ℕ) (u v : World) (es fs : List Event) (o : Option Place) → slice_get code.places q ≡ o → q ≢ p → Related (state u (Here q) es) (state v (Here (to q)) fs) → Related (step_on names code q o (state u (Here q) es)) (step_on names new (to q) o (state v (Here (to q)) fs))
  on_both q u v es fs None e ne r = record { events = ap (λ l. l ++ (Fell ∷ [])) r.events; memory = r.memory; answers = r.answers; both = tt; words = r.words }
  on_both q u v es fs (Some (Word w)) e ne r = record { events = ap (λ l. l ++ (Fell ∷ [])) r.events; memory = r.memory; answers = r.answers; both = tt; words = r.words }
  on_both q u v es fs (Some (Op i mention)) e ne r =
      let here : Around = around_of names code q i mention in
      let there : Around = around_of names new (to q) i mention in
      let f : Flows names code q i mention u v = flows names code q i mention u v e (r.memory, r.answers) r.both.1 in
      let a : Act = act here i u in
      let b : Act = act there i v in
      let tie : ActTied CameTo (act here i v) b = act_tied CameTo here there i v (looks_tied CameTo here there (around_tied q i mention e r.both.0.1) i v) in
      let tied : ActTied CameTo a b = subst (λ (c : Act). ActTied CameTo c b) (sym f.same) tie in
      let safe : IsSafe b = act_safe there i v (around_words names small new (to q) i mention) r.words in
      let agree : (x s : ℕ) → GoesTo q a.next s → Reads code x s → assigned a.outputs u.values x ≡ assigned b.outputs v.values x =
      λ x s g rd. f.agree s x g rd ∙ ap (λ (c : Act). assigned c.outputs v.values x) (sym f.same) ∙ ap (λ (os : List (ℕ × ℕ)). assigned os v.values x) tied.outputs in
      record {
        events = ap (λ l. l ++ a.events) r.events ∙ ap (λ l. fs ++ l) tied.events;
        memory = tied.memory;
        answers = tied.answers;
        both = arrive q a.next b.next (assigned a.outputs u.values) (assigned b.outputs v.values) tied.next ne r.both.0.1 (λ s x g rd. agree x s g rd);
        words = world_after b v.values safe (held_of v r.words);
      }

  step_outside : (q : ℕ) (u v : World) (es fs : List Event) → q ≢ p → Related (state u (Here q) es) (state v (Here (to q)) fs) → Related (step names code (state u (Here q) es)) (step names new (state v (Here (to q)) fs))
  step_outside q u v es fs ne r =
      let e : slice_get new.places (to q) ≡ slice_get code.places q = fetch_outside code p (length left) right sound.fits_in q r.both.0.1 ne in
      subst (λ (o : Option Place). Related (step names code (state u (Here q) es)) (step_on names new (to q) o (state v (Here (to q)) fs))) (sym e)
      (on_both q u v es fs (slice_get code.places q) refl ne r)

  -- ---- through the window ----

  to_first : to p ≡ p
  to_first = omega arith

  right_stands : StandsAt new.places p right
  right_stands = stands_from new.places p right (λ j l. fetch_window code p (length left) right sound.fits_in j l)

  abbrev past : ℕ
  past = p + length left

  -- both are past the window
  through : (u v : World) (es fs : List Event) → Related (state u (Here p) es) (state v (Here p) fs) → Related (went (state u (Here p) es) past (after_all left u.values)) (went (state v (Here p) fs) (to past) (after_all right v.values))
  through u v es fs r =
      let held = held_after right v.values (held_of v r.words) in
      record {
        events = r.events;
        memory = r.memory;
        answers = r.answers;
        both = ((refl, inr (omega arith)), λ x rd. flows_on names code left p u.values v.values sound.stands sound.left_straight r.both.1 x rd ∙ sound.agree v.values r.words.values x rd);
        words = record { values = held.words; stack = held.stack; memory = r.words.memory; answers = r.words.answers };
      }

  alike_of : (s t : State) → Related s t → Alike s t
  alike_of s t r = record { events = r.events; memory = r.memory; answers = r.answers; ended = ended_of s.at t.at _ _ r.both }
    where
      ended_of : (a b : Position) (u v : Values) → AtBoth a b u v → has_ended a ≡ has_ended b
      ended_of Ended Ended u v h = refl
      ended_of (Here q) (Here y) u v h = refl
      ended_of Ended (Here y) u v h = absurd h
      ended_of (Here q) Ended u v h = absurd h

  abbrev Go : State → State → Type 0
  Go s t = Advance State State (step names code) (step names new) Alike Related s t

  -- within the window no event is added and memory stays
  quiet_left : (u : World) (es : List Event) (k : ℕ) → k ≤ length left → (q : ℕ) × (w : Values) × (times (step names code) k (state u (Here p) es) ≡ went (state u (Here p) es) q w)
  quiet_left u es k h = straight_part names code (state u (Here p) es) left p u.values k sound.stands sound.left_straight h

  quiet_right : (v : World) (fs : List Event) (k : ℕ) → k ≤ length right → (q : ℕ) × (w : Values) × (times (step names new) k (state v (Here p) fs) ≡ went (state v (Here p) fs) q w)
  quiet_right v fs k h = straight_part names new (state v (Here p) fs) right p v.values k right_stands sound.right_straight h

  left_alike : (u v : World) (es fs : List Event) → Related (state u (Here p) es) (state v (Here p) fs) → (k : ℕ) → k ≤ length left → Alike (times (step names code) k (state u (Here p) es)) (state v (Here p) fs)
  left_alike u v es fs r k h =
      let m = quiet_left u es k h in
      subst (λ (x : State). Alike x (state v (Here p) fs)) (sym m.2) (record { events = r.events; memory = r.memory; answers = r.answers; ended = refl })

  both_alike : (u v : World) (es fs : List Event) → Related (state u (Here p) es) (state v (Here p) fs) → (k : ℕ) → k ≤ length left → k ≤ length right → Alike (times (step names code) k (state u (Here p) es)) (times (step names new) k (state v (Here p) fs))
  both_alike u v es fs r k h l =
      let m = quiet_left u es k h in
      let n = quiet_right v fs k l in
      subst (λ (x : State). Alike x (times (step names new) k (state v (Here p) fs))) (sym m.2) (subst (λ (x : State). Alike (went (state u (Here p) es) m.0 m.1) x) (sym n.2) (record { events = r.events; memory = r.memory; answers = r.answers; ended = refl }))

  at_window : (u v : World) (es fs : List Event) → Related (state u (Here p) es) (state v (Here p) fs) → Go (state u (Here p) es) (state v (Here p) fs)
  at_window u v es fs r =
      let s : State = state u (Here p) es in
      let t : State = state v (Here p) fs in
      let no_longer = sound.fits_in.no_longer in
      let some = sound.fits_in.some in
      let a : times (step names code) (length left) s ≡ went s past (after_all left u.values) = straight_run names code s left p u.values sound.stands sound.left_straight in
      let b : times (step names new) (length right) t ≡ went t (p + length right) (after_all right v.values) = straight_run names new t right p v.values right_stands sound.right_straight in
      let at : p + length right ≡ to past = omega arith in
      let b' : times (step names new) (length right) t ≡ went t (to past) (after_all right v.values) = b ∙ ap (λ q. went t q (after_all right v.values)) at in
      let e : times (step names code) (length left + 1) s ≡ step names code (went s past (after_all left u.values)) = times_add (step names code) (length left) 1 (length left + 1) s refl ∙ ap (step names code) a in
      let f : times (step names new) (length right + 1) t ≡ step names new (went t (to past) (after_all right v.values)) = times_add (step names new) (length right) 1 (length right + 1) t refl ∙ ap (step names new) b' in
      let g = step_outside past (went s past (after_all left u.values)).world (went t (to past) (after_all right v.values)).world es fs (λ same. absurd (omega arith)) (through u v es fs r) in
      record {
        left = length left + 1;
        right = length right + 1;
        some = omega arith;
        no_more = omega arith;
        related = subst (λ (x : State). Related x (times (step names new) (length right + 1) t)) (sym e) (subst (λ (y : State). Related (step names code (went s past (after_all left u.values))) y) (sym f) g);
        on_left = λ k h. left_alike u v es fs r k (omega arith);
        on_right = λ k h. both_alike u v es fs r k (omega arith) (omega arith);
      }

  at_first : (u v : World) (es fs : List Event) → Related (state u (Here p) es) (state v (Here (to p)) fs) → Go (state u (Here p) es) (state v (Here (to p)) fs)
  at_first u v es fs r =
      subst (λ (z : ℕ). Related (state u (Here p) es) (state v (Here z) fs) → Go (state u (Here p) es) (state v (Here z) fs)) (sym to_first)
      (λ r'. at_window u v es fs r') r

  at_other : (q : ℕ) (u v : World) (es fs : List Event) → q ≢ p → Related (state u (Here q) es) (state v (Here (to q)) fs) → Go (state u (Here q) es) (state v (Here (to q)) fs)
  at_other q u v es fs ne r = record {
    left = 1;
    right = 1;
    some = omega arith;
    no_more = omega arith;
    related = step_outside q u v es fs ne r;
    on_left = λ k h. let z : 0 ≡ k = omega arith in subst (λ (n : ℕ). Alike (times (step names code) n (state u (Here q) es)) (state v (Here (to q)) fs)) z (alike_of _ _ r);
    on_right = λ k h. let z : 0 ≡ k = omega arith in subst (λ (n : ℕ). Alike (times (step names code) n (state u (Here q) es)) (times (step names new) n (state v (Here (to q)) fs))) z (alike_of _ _ r);
  }

  advance_at : (a b : Position) (u v : World) (es fs : List Event) → Related (state u a es) (state v b fs) → ((step names code (state u a es) ≡ state u a es) × (step names new (state v b fs) ≡ state v b fs)) ⊎ Go (state u a es) (state v b fs)
  advance_at Ended Ended u v es fs r = inl (refl, refl)
  advance_at Ended (Here q) u v es fs r = absurd (r.both)
  advance_at (Here q) Ended u v es fs r = absurd (r.both)
  advance_at (Here q) (Here y) u v es fs r =
      inr (subst (λ (z : ℕ). Related (state u (Here q) es) (state v (Here z) fs) → Go (state u (Here q) es) (state v (Here z) fs)) (sym r.both.0.0)
      (λ r'. elim (cases_eq q p) [
        | inl same ↦ subst (λ (z : ℕ). Related (state u (Here z) es) (state v (Here (to z)) fs) → Go (state u (Here z) es) (state v (Here (to z)) fs)) (sym same) (λ w. at_first u v es fs w) r'
        | inr ne ↦ at_other q u v es fs ne r'
      ]) r)

  advance : (s t : State) → Related s t → ((step names code s ≡ s) × (step names new t ≡ t)) ⊎ Go s t
  advance s t r = advance_at s.at t.at s.world t.world s.events t.events r

  -- what the old listing shows, the new one shows in no more steps
  pub runs_sooner : (n : ℕ) (s t : State) → Related s t → (m : ℕ) × (m ≤ n) × Alike (times (step names code) n s) (times (step names new) m t)
  runs_sooner n s t r = sooner State State (step names code) (step names new) Alike Related alike_of advance n n s t (omega arith) r

  -- what the new listing shows, the old one shows
  pub runs_reached : (m : ℕ) (s t : State) → Related s t → (n : ℕ) × (m ≤ n) × Alike (times (step names code) n s) (times (step names new) m t)
  runs_reached m s t r = reached State State (step names code) (step names new) Alike Related alike_of advance m m s t (omega arith) r

  -- both begin at the same place
  both_at : (o o' : Option ℕ) → o' ≡ option_map to o → ((r : ℕ) → o ≡ Some r → IsOutside p (length left) r) → (u : Values) → AtBoth (here_or_ended o) (here_or_ended o') u u
  both_at None o' e out u = subst (λ (x : Option ℕ). AtBoth Ended (here_or_ended x) u u) (sym e) tt
  both_at (Some r) o' e out u = subst (λ (x : Option ℕ). AtBoth (Here r) (here_or_ended x) u u) (sym e) ((refl, out r refl), λ x rd. refl)

  -- runs begun at one label are related
  pub begun_related : (label : Name) (w : World) (es : List Event) → IsWorld w → Related (begun code label w es) (begun new label w es)
  begun_related label w es h =
      record {
        events = refl;
        memory = refl;
        answers = refl;
        both = both_at (place_of code label) _ (place_moved code p (length left) right sound.fits_in label) (λ r f. outside_label r (label_of_name label code.places code.labels r f)) w.values;
        words = h;
      }

-- ---- the theorem for one replacement ----

-- where a's literals follow their labels, the runs are the same; and b has the literals, the fitting namings and the code labels that a has
pub record Keeps (a b : Code) : Type 0 where
  pub same : HasLiterals a → Same a b
  pub literals : HasLiterals a → HasLiterals b
  pub fits : (names : Naming) → Fits names a → Fits names b
  pub entry : (label : Name) → IsSome (place_of a label) → IsSome (place_of b label)

pub is_some_moved : (f : ℕ → ℕ) (o : Option ℕ) → IsSome o → IsSome (option_map f o)
is_some_moved f None h = absurd (cc)
is_some_moved f (Some x) h = h

-- a sound replacement keeps the runs
pub replaced_keeps : (code : Code) (p : ℕ) (left right : List Instr) → IsSound code p left right → Keeps code (replaced code p (length left) right)
replaced_keeps code p left right sound =
    record {
      same = λ literals. record {
        sooner = λ names fits label some w words es n. runs_sooner names fits.return_words code literals p left right sound n _ _ (begun_related names fits.return_words code literals p left right sound label w es words);
        reached = λ names fits label some w words es m. runs_reached names fits.return_words code literals p left right sound m _ _ (begun_related names fits.return_words code literals p left right sound label w es words);
      };
      literals = literals_stay code p (length left) right sound.fits_in;
      fits = fits_stays code p (length left) right sound.fits_in;
      entry = λ label h. subst (λ (o : Option ℕ). IsSome o) (sym (place_moved code p (length left) right sound.fits_in label)) (is_some_moved _ _ h);
    }

alike_here : (s : State) → Alike s s
alike_here s = record { events = refl; memory = refl; answers = refl; ended = refl }

pub alike_on : (s t w : State) → Alike s t → Alike t w → Alike s w
alike_on s t w a b = record { events = a.events ∙ b.events; memory = a.memory ∙ b.memory; answers = a.answers ∙ b.answers; ended = a.ended ∙ b.ended }

-- a listing keeps its own runs
pub keeps_refl : (a : Code) → Keeps a a
keeps_refl a =
    record {
      same = λ l. record {
        sooner = λ names fits label some w words es n. (n, omega arith, alike_here _);
        reached = λ names fits label some w words es m. (m, omega arith, alike_here _);
      };
      literals = λ l. l;
      fits = λ names f. f;
      entry = λ label h. h;
    }

-- from one listing to the next, and from there to a third
pub keeps_trans : (a b c : Code) → Keeps a b → Keeps b c → Keeps a c
keeps_trans a b c h k =
    record {
      same = λ l. record {
        sooner = λ names fits label some w words es n.
            let x = (h.same l).sooner names fits label some w words es n in
            let y = (k.same (h.literals l)).sooner names (h.fits names fits) label (h.entry label some) w words es x.0 in
            (y.0, omega (arith, x.1, y.1), alike_on _ _ _ x.2 y.2);
        reached = λ names fits label some w words es m.
            let y = (k.same (h.literals l)).reached names (h.fits names fits) label (h.entry label some) w words es m in
            let x = (h.same l).reached names fits label some w words es y.0 in
            (x.0, omega (arith, x.1, y.1), alike_on _ _ _ x.2 y.2);
      };
      literals = λ l. k.literals (h.literals l);
      fits = λ names f. k.fits names (h.fits names f);
      entry = λ label s. k.entry label (h.entry label s);
    }
