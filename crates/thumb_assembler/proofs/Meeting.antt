-- The image's run does what the listing's does: the proof of the promise, one step at a time.
use Rattle.std.proofs.Common.{◌≡◌, ◌∙◌, ◌⊎◌, inl, inr, ℕ, zero, suc, ◌+◌, ◌%◌, ◌^◌, ◌≤◌, true, false, List, [], ◌∷◌, ◌++◌, length, refl, sym, ap, subst, arith, true≢false, Option, Some, None, IsSome, append-nil}
use Rattle.std.specs.Prelude.{slice_get}
use Rattle.thumb_model.proofs.Follow.{alike_on}
use Rattle.thumb_instr.specs.declared.instr.Instr.{Instr}
use Rattle.thumb_instr.specs.declared.instr.Instr.TheVariants as instr
use Rattle.thumb_instr.specs.declared.operation.HintOperation.TheVariants as hint
use Rattle.thumb_model.specs.Effect.{assigned}
use Rattle.thumb_model.specs.Listing.{Name, Mention, Instruction, ListingLine, Place, Op, Word, Code, places_in, places_of, code_of, place_of, is_op_place}
use Rattle.thumb_model.specs.Layout.{instr_size, size_at, end_of}
use Rattle.thumb_model.specs.Naming.{Naming, Fits, laid}
use Rattle.thumb_model.specs.States.{Answer, World, Event, Fell, Act, Continuation, On, Stay, To, Over, Position, Here, Ended, State, Around}
use Rattle.thumb_model.specs.Acts.{act}
use Rattle.thumb_model.specs.Steps.{around_of, arrives, does, falls, step, step_at, step_on, times}
use Rattle.thumb_model.specs.Same.{Alike, has_ended, here_or_ended, begun}
use Rattle.thumb_model.proofs.Tied.{NextTied, ActTied}
use Rattle.thumb_assembler.specs.Bytes.{IsSetBy}
use Rattle.thumb_assembler.specs.Runs.{Loaded, around_in, following, ImageStep, acts, ImageSteps, none, more, IsAssembled, loaded, ends_in_loss, IsLost, Meets, begun_in, ImageFollows}
use Rattle.thumb_assembler.specs.Promises.{ImagesFollow, ImagesFollowGiven}
use Rattle.thumb_assembler.proofs.Loose.{IsLostAct, ends_behind, act_loose}
use Rattle.thumb_assembler.proofs.Cuts.{next_end, next_places, next_cut, two_or_four}
use Rattle.thumb_assembler.proofs.Fetched.{fetched_here, out_of_image}
use Rattle.thumb_assembler.proofs.Slides.{Slides, there, slid, Arrives, slides_from, label_found, arrives_within, place_here}
use Rattle.thumb_assembler.proofs.Around.{coded_size, coded_act, looks}

abbrev state : World → Position → List Event → State
state w a es = record { world = w; at = a; events = es }

steps_more : (m : Loaded) (a b : ℕ) (r s t : State) → ImageSteps m a r s → ImageSteps m b s t → ImageSteps m (a + b) r t
steps_more m _ b _ _ t (none s) g = subst (λ (n : ℕ). ImageSteps m n s t) (let e : b ≡ 0 + b = omega arith in e) g
steps_more m _ b _ s t (more n next r u _ h hs) g = subst (λ (k : ℕ). ImageSteps m k r t) (let e : suc (n + b) ≡ suc n + b = omega arith in e) (more (n + b) next r u t h (steps_more m n b u s t hs g))

no_wrap : (a size : ℕ) → a ≤ 2 ^ 29 → (size ≡ 2) ⊎ (size ≡ 4) → a + size ≡ (a + size) % 2 ^ 32
no_wrap a size h (inl e) = omega arith
no_wrap a size h (inr e) = omega arith

-- a run is lost after an act that is lost
lost_by : (q y : ℕ) (a : Act) (s : State) → IsLostAct a → IsLost (does q y a s)
lost_by q y a s l = record { ended = ap (arrives q y) l.next; last = ends_behind s.events a.events l.last }

fell : (s : State) → IsLost (falls s)
fell s = record { ended = refl; last = ends_behind s.events (Fell ∷ []) refl }

module _ (base : ℕ) (set : Name → ℕ) (all : List ListingLine) (bytes : List ℕ) (made : IsAssembled base all bytes) (given : IsSetBy all set) (fits : Fits (laid base set all) (code_of all)) where
  abbrev names : Naming
  names = laid base set all

  abbrev code : Code
  code = code_of all

  abbrev image : Loaded
  image = loaded base set all bytes

  abbrev R : ℕ → ℕ → Type 0
  R = Arrives base set all bytes made given

  abbrev AtTied : Position → Position → Type 0
  AtTied (Here q) (Here x) = R q x
  AtTied Ended Ended = Unit {0}
  AtTied (Here q) Ended = ⊥
  AtTied Ended (Here x) = ⊥

  record Tied (s t : State) : Type 0 where
    world : s.world ≡ t.world
    events : s.events ≡ t.events
    at : AtTied s.at t.at

  -- the listing's run is lost, or the image's run reaches a corresponding state
  record Comes (s t : State) : Type 0 where
    steps : ℕ
    to : State
    run : ImageSteps image steps t to
    tied : IsLost s ⊎ Tied s to

  arrive : (q x y : ℕ) (n m : Continuation) → R q x → R (q + 1) y → NextTied R n m → AtTied (arrives q (q + 1) n) (arrives x y m)
  arrive q x y On On here next h = next
  arrive q x y Stay Stay here next h = here
  arrive q x y (To p) (To z) here next h = h
  arrive q x y Over Over here next h = tt
  arrive q x y n m here next h = absurd h

  acts_tied : (q x y : ℕ) (a b : Act) (w : World) (es : List Event) → R q x → R (q + 1) y → ActTied R a b → Tied (does q (q + 1) a (state w (Here q) es)) (does x y b (state w (Here x) es))
  acts_tied q x y a b w es here next h = record {
    world =
        ap (λ (os : List (ℕ × ℕ)). (let v : World = record { values = assigned os w.values; memory = a.memory; answers = a.answers } in v)) h.outputs
        ∙ ap (λ (m : ℕ → ℕ). (let v : World = record { values = assigned b.outputs w.values; memory = m; answers = a.answers } in v)) h.memory
        ∙ ap (λ (l : List Answer). (let v : World = record { values = assigned b.outputs w.values; memory = b.memory; answers = l } in v)) h.answers;
    events = ap (λ (l : List Event). es ++ l) h.events;
    at = arrive q x y a.next b.next here next h.next;
  }

  -- at an instruction, both make one step
  there_follows : (before after : List ListingLine) (l : ListingLine) (i : Instr) (mention : Option Mention) → all ≡ before ++ l ∷ after → l.statement ≡ Instruction i mention → (w : World) (es : List Event)
      → Comes (step names code (state w (Here (length (places_of before))) es)) (state w (Here (end_of base before)) es)
  there_follows before after l i mention e s w es =
      let q = length (places_of before) in
      let x = end_of base before in
      let f = fetched_here base set all bytes made given before after l i mention e s in
      let j = f.code in
      let A : Around = around_of names code (length (places_of before)) i mention in
      let B : Around = around_in image (end_of base before) f.code in
      let within = arrives_within base set all bytes made given (length (places_of before)) (end_of base before) (ap is_op_place (place_here base set all bytes made given before after l i mention e s)) (slides_from base set all bytes made given (l ∷ after) before e) in
      let limit = made.low in
      let low = within.1 in
      let short = two_or_four f.code in
      let size = coded_size base set all bytes made given fits (end_of base before) i mention f.code f.coded in
      let ends : end_of base (before ++ l ∷ []) ≡ following (end_of base before) f.code =
      next_end base before l ∙ ap (λ t. end_of base before + size_at t (end_of base before)) s ∙ ap (λ (n : ℕ). end_of base before + n) (sym size) ∙ no_wrap (end_of base before) (instr_size f.code) (omega arith) (two_or_four f.code) in
      let places : length (places_of (before ++ l ∷ [])) ≡ length (places_of before) + 1 = next_places before l ∙ ap (λ t. length (places_of before) + length (places_in t)) s in
      let here : R (length (places_of before)) (end_of base before) = slides_from base set all bytes made given (l ∷ after) before e in
      let next : R (length (places_of before) + 1) (following (end_of base before) f.code) =
      subst (λ (p : ℕ). R p (following (end_of base before) f.code)) places (subst (R (length (places_of (before ++ l ∷ [])))) ends (slides_from base set all bytes made given after (before ++ l ∷ []) (next_cut all before after l e))) in
      let place : slice_get (places_of all) (length (places_of before)) ≡ Some (Op i mention) = place_here base set all bytes made given before after l i mention e s in
      let acted : act (around_in image (end_of base before) f.code) f.code w ≡ act (around_in image (end_of base before) f.code) i w = coded_act base set all bytes made given fits (around_in image (end_of base before) f.code) (end_of base before) i mention f.code w f.coded in
      let loose = act_loose R (around_of names code (length (places_of before)) i mention) (around_in image (end_of base before) f.code) i w (looks base set all bytes made given fits before after l i mention e s f.code f.coded) in
      let to : State = does (end_of base before) (following (end_of base before) f.code) (act (around_in image (end_of base before) f.code) f.code w) (state w (Here (end_of base before)) es) in
      let tied : IsLost (does (length (places_of before)) (length (places_of before) + 1) (act (around_of names code (length (places_of before)) i mention) i w) (state w (Here (length (places_of before))) es))
      ⊎ Tied (does (length (places_of before)) (length (places_of before) + 1) (act (around_of names code (length (places_of before)) i mention) i w) (state w (Here (length (places_of before))) es)) to =
      elim loose [
        | inl lost ↦ inl (lost_by (length (places_of before)) (length (places_of before) + 1) _ (state w (Here (length (places_of before))) es) lost)
        | inr h ↦ inr (subst (λ (b : Act). Tied (does (length (places_of before)) (length (places_of before) + 1) (act (around_of names code (length (places_of before)) i mention) i w) (state w (Here (length (places_of before))) es)) (does (end_of base before) (following (end_of base before) f.code) b (state w (Here (end_of base before)) es))) (sym acted)
            (acts_tied (length (places_of before)) (end_of base before) (following (end_of base before) f.code) _ _ w es here next h))
      ] in
      record {
        steps = 1;
        to = to;
        run = more 0 _ (state w (Here (end_of base before)) es) to to (acts (end_of base before) f.code refl f.fetched) (none to);
        tied = subst (λ (o : Option Place). IsLost (step_on names code (length (places_of before)) o (state w (Here (length (places_of before))) es)) ⊎ Tied (step_on names code (length (places_of before)) o (state w (Here (length (places_of before))) es)) to) (sym place) tied;
      }

  slides_follow : (q x : ℕ) → Slides base set all bytes made given q x → (w : World) (es : List Event) → Comes (step names code (state w (Here q) es)) (state w (Here x) es)
  slides_follow q _ (there before after l i mention x e s p a) w es =
      subst (λ (z : ℕ). Comes (step names code (state w (Here z) es)) (state w (Here x) es)) p
      (subst (λ (z : ℕ). Comes (step names code (state w (Here (length (places_of before))) es)) (state w (Here z) es)) a (there_follows before after l i mention e s w es))
  slides_follow q _ (slid x f s) w es =
      let r = slides_follow q (x + 2) s w es in
      let limit = made.low in
      let within = out_of_image base set all bytes made given x (instr.Hint hint.Nop) f in
      let behind : following x (instr.Hint hint.Nop) ≡ x + 2 = (let top = within.1 in omega arith) in
      let slept : does x (following x (instr.Hint hint.Nop)) (act (around_in image x (instr.Hint hint.Nop)) (instr.Hint hint.Nop) w) (state w (Here x) es) ≡ state w (Here (x + 2)) es = ap (λ (y : ℕ). state w (Here y) (es ++ [])) behind ∙ ap (state w (Here (x + 2))) (append-nil es) in
      record {
        steps = suc r.steps;
        to = r.to;
        run = more r.steps On (state w (Here x) es) (state w (Here (x + 2)) es) r.to (subst (ImageStep image (state w (Here x) es) On) slept (acts x (instr.Hint hint.Nop) refl f)) r.run;
        tied = r.tied;
      }

  -- where there is no instruction, the listing's run is lost
  doomed : (q : ℕ) → is_op_place (slice_get (places_of all) q) ≡ false → (w : World) (es : List Event) → IsLost (step names code (state w (Here q) es))
  doomed q d w es = by (slice_get (places_of all) q) refl where
    by : (o : Option Place) → slice_get (places_of all) q ≡ o → IsLost (step_on (laid base set all) (code_of all) q o (record { world = w; at = Here q; events = es }))
    by None e = fell (state w (Here q) es)
    by (Some (Word v)) e = fell (state w (Here q) es)
    by (Some (Op i m)) e = absurd (true≢false (sym (ap is_op_place e) ∙ d))

  tied_follows : (a b : Position) → AtTied a b → (w : World) (es : List Event) → Comes (step names code (state w a es)) (state w b es)
  tied_follows (Here q) (Here x) (inl d) w es = record { steps = 0; to = state w (Here x) es; run = none (state w (Here x) es); tied = inl (doomed q d w es) }
  tied_follows (Here q) (Here x) (inr s) w es = slides_follow q x s w es
  tied_follows (Here q) Ended h w es = absurd h
  tied_follows Ended (Here x) h w es = absurd h
  tied_follows Ended Ended h w es = record { steps = 0; to = state w Ended es; run = none (state w Ended es); tied = inr (record { world = refl; events = refl; at = tt }) }

  lost_stays : (s : State) → IsLost s → step names code s ≡ s
  lost_stays s l = ap (λ (a : Position). step_at names code a s) l.ended

  run_follows : (n : ℕ) (s t : State) → IsLost s ⊎ Tied s t → Comes (times (step names code) n s) t
  run_follows zero s t f = record { steps = 0; to = t; run = none t; tied = f }
  run_follows (suc n) s t (inl l) = run_follows n (step names code s) t (inl (subst IsLost (sym (lost_stays s l)) l))
  run_follows (suc n) s t (inr h) =
      let r = tied_follows s.at t.at h.at s.world s.events in
      let same : state s.world t.at s.events ≡ t = ap (λ (w : World). state w t.at s.events) h.world ∙ ap (state t.world t.at) h.events in
      let rest = run_follows n (step names code s) r.to r.tied in
      record {
        steps = r.steps + rest.steps;
        to = rest.to;
        run = steps_more image r.steps rest.steps t r.to rest.to (subst (λ (u : State). ImageSteps image r.steps u r.to) same r.run) rest.run;
        tied = rest.tied;
      }

  ended_alike : (a b : Position) → AtTied a b → has_ended a ≡ has_ended b
  ended_alike (Here q) (Here x) h = refl
  ended_alike (Here q) Ended h = absurd h
  ended_alike Ended (Here x) h = absurd h
  ended_alike Ended Ended h = refl

  met : (s start : State) → Comes s start → (IsLost s → ⊥) → Meets image start s
  met s start c live = elim c.tied [
    | inl l ↦ absurd (live l)
    | inr t ↦ record {
      steps = c.steps;
      state = c.to;
      run = c.run;
      alike = record { events = t.events; memory = ap (λ (v : World). v.memory) t.world; answers = ap (λ (v : World). v.answers) t.world; ended = ended_alike s.at c.to.at t.at };
    }
  ]

  pub follows : ImageFollows base set all bytes all
  follows label some w word es n live = by (place_of code label) refl some where
    by : (o : Option ℕ) → place_of (code_of all) label ≡ o → IsSome o → Meets (loaded base set all bytes) (begun_in base all label w es) (times (step (laid base set all) (code_of all)) n (begun (code_of all) label w es))
    by None e h = absurd (true≢false (sym h))
    by (Some p) e h =
        let f = label_found base set all bytes made given label p e in
        let start : begun_in base all label w es ≡ state w (Here f.0) es = ap (λ (o : Option ℕ). state w (here_or_ended o) es) f.1 in
        let first : begun (code_of all) label w es ≡ state w (Here p) es = ap (λ (o : Option ℕ). state w (here_or_ended o) es) e in
        let tied : Tied (begun (code_of all) label w es) (begun_in base all label w es) =
        subst (λ (u : State). Tied u (begun_in base all label w es)) (sym first) (subst (Tied (state w (Here p) es)) (sym start) (record { world = refl; events = refl; at = f.2.arrives })) in
        met (times (step names code) n (begun (code_of all) label w es)) (begun_in base all label w es) (run_follows n (begun (code_of all) label w es) (begun_in base all label w es) (inr tied)) live

pub images_follow : ImagesFollow
images_follow base set lines bytes made given fits = follows base set lines bytes made given fits

-- ---- the image of a rewritten listing, compared with the given listing ----

is_ended : (a : Position) → has_ended a ≡ true → a ≡ Ended
is_ended Ended e = refl
is_ended (Here p) e = absurd (true≢false (sym e))

lost_too : (s t : State) → Alike s t → IsLost t → IsLost s
lost_too s t a l = record { ended = is_ended s.at (a.ended ∙ ap has_ended l.ended); last = ap ends_in_loss a.events ∙ l.last }

begins_some : (o : Option ℕ) → has_ended (here_or_ended o) ≡ false → IsSome o
begins_some None e = absurd (true≢false e)
begins_some (Some p) e = refl

some_begins : (o : Option ℕ) → IsSome o → has_ended (here_or_ended o) ≡ false
some_begins None h = absurd (true≢false (sym h))
some_begins (Some p) h = refl

pub images_follow_given : ImagesFollowGiven
images_follow_given base set lines given bytes made set_by fits fits_given same label some w word es n live =
    let start = same.sooner (laid base set lines) fits_given label some w word es 0 in
    let here = same.sooner (laid base set lines) fits_given label some w word es n in
    let none_left : start.0 ≡ 0 = omega (arith, start.1) in
    let first : Alike (begun (code_of given) label w es) (begun (code_of lines) label w es) = subst (λ (k : ℕ). Alike (begun (code_of given) label w es) (times (step (laid base set lines) (code_of lines)) k (begun (code_of lines) label w es))) none_left start.2 in
    let found : IsSome (place_of (code_of lines) label) = begins_some _ (sym first.ended ∙ some_begins _ some) in
    let m = images_follow base set lines bytes made set_by fits label found w word es here.0 (λ l. live (lost_too _ _ here.2 l)) in
    record { steps = m.steps; state = m.state; run = m.run; alike = alike_on _ _ _ here.2 m.alike }
