-- A step that needs more answers than are left adds no event.
use Rattle.std.proofs.Common.{◌≡◌, ◌∙◌, ℕ, ◌*◌, ◌==◌, ◌%◌, true, false, List, [], ◌∷◌, ◌++◌, length, map, Option, Some, None, refl, ap, append-nil, if◌then◌else◌}
use Rattle.std.specs.Prelude.{nat_le, slice_get}
use Rattle.thumb_instr.specs.declared.instr.Instr.{Instr}
use Rattle.thumb_instr.specs.declared.instr.Instr.TheVariants as instr
use Rattle.thumb_instr.specs.declared.operation.Access.{Access}
use Rattle.thumb_instr.specs.declared.operation.Access.TheVariants as access
use Rattle.thumb_instr.specs.declared.operation.HintOperation.{HintOperation}
use Rattle.thumb_instr.specs.declared.operation.HintOperation.TheVariants as hint
use Rattle.thumb_instr.specs.Items.{has}
use Rattle.thumb_instr.specs.Shape.{registers_in, pushed, offset_access, word_access}
use Rattle.thumb_model.specs.Effect.{sp}
use Rattle.thumb_model.specs.Listing.{Code, Place, Op, Word}
use Rattle.thumb_model.specs.Naming.{Naming}
use Rattle.thumb_model.specs.States.{State, Position, Here, Ended, World, Answer, Target, Inside, External, Landing, Goes, Leaves, Strays, Around, Act, Event, Call, Sys, Fault, On, Stay, To, Over, puts, ends, tells, takes, aligned, answered, served, handed, answers_with}
use Rattle.thumb_model.specs.Accesses.{is_device, access_size, value_at, gets, loads, stores, accesses, behind, below, stores_many, device_words, enough, loads_many}
use Rattle.thumb_model.specs.Acts.{act, branches, jumps, calls_out, calls, calls_by, with_pc, popped_word, pops_to, pops, holds, hints, special_code, reads_special, offset}
use Rattle.thumb_model.specs.Steps.{around_of, step_at, step_on}
use Rattle.thumb_machine.specs.Stages.{next_at, next_on}

abbrev Quiet : Act → Type 0
Quiet a = a.next ≡ Stay → a.events ≡ []

quiet_if : (b : _) (x y : Act) → Quiet x → Quiet y → Quiet (if b then x else y)
quiet_if true x y h k = h
quiet_if false x y h k = k

quiet_ends : (e : Event) (w : World) → Quiet (ends e w)
quiet_ends e w h = absurd (let bad : Over ≡ Stay = h in cc)

quiet_tells : (e : Event) (w : World) → Quiet (tells e w)
quiet_tells e w h = absurd (let bad : On ≡ Stay = h in cc)

quiet_branches : (l : Landing) (word : ℕ) (w : World) → Quiet (branches l word w)
quiet_branches (Goes p) word w h = refl
quiet_branches Leaves word w h = quiet_ends _ w h
quiet_branches Strays word w h = quiet_ends _ w h

quiet_aligned : (address size : ℕ) (w : World) (a : Act) → Quiet a → Quiet (aligned address size w a)
quiet_aligned address size w a h = quiet_if (address % size == 0) a (ends (Fault address) w) h (quiet_ends (Fault address) w)

quiet_enough : (address : ℕ) (xs : List ℕ) (w : World) (a : Act) → Quiet a → Quiet (enough address xs w a)
quiet_enough address xs w a h = quiet_if (nat_le (device_words address xs) (length w.answers)) a (puts [] Stay w) h (λ e. refl)

quiet_takes : (go : Answer → List Answer → Act) (w : World) (left : List Answer) → ((a : Answer) (rest : List Answer) → Quiet (go a rest)) → Quiet (takes go w left)
quiet_takes go w [] h e = refl
quiet_takes go w (a ∷ rest) h e = h a rest e

quiet_answers : (xs : List ℕ) (e : Event) (w : World) (a : Answer) (rest : List Answer) → Quiet (answers_with xs e w a rest)
quiet_answers xs e w a rest h = absurd (let bad : On ≡ Stay = h in cc)

quiet_out : (word : ℕ) (w : World) → Quiet (calls_out word w)
quiet_out word w = quiet_takes (answers_with answered (Call word (map w.values handed)) w) w w.answers (quiet_answers answered (Call word (map w.values handed)) w)

quiet_gets : (a : Access) (t address value : ℕ) (w : World) (rest : List Answer) → Quiet (gets a t address value w rest)
quiet_gets a t address value w rest h = absurd (let bad : On ≡ Stay = h in cc)

quiet_loads : (a : Access) (t address : ℕ) (w : World) → Quiet (loads a t address w)
quiet_loads a t address w = quiet_aligned address (access_size a) w _
    (quiet_if (is_device address) (takes (λ answer rest. gets a t address (answer.values 0) w rest) w w.answers) (gets a t address (value_at w.memory address (access_size a)) w w.answers)
    (quiet_takes (λ answer rest. gets a t address (answer.values 0) w rest) w w.answers (λ answer rest. quiet_gets a t address (answer.values 0) w rest))
    (quiet_gets a t address (value_at w.memory address (access_size a)) w w.answers))

quiet_stores : (a : Access) (address value : ℕ) (w : World) → Quiet (stores a address value w)
quiet_stores a address value w = quiet_aligned address (access_size a) w _ (λ h. absurd (let bad : On ≡ Stay = h in cc))

quiet_accesses : (a : Access) (t address value : ℕ) (w : World) → Quiet (accesses a t address value w)
quiet_accesses access.Str t address value w = quiet_stores access.Str address value w
quiet_accesses access.Strh t address value w = quiet_stores access.Strh address value w
quiet_accesses access.Strb t address value w = quiet_stores access.Strb address value w
quiet_accesses access.Ldrsb t address value w = quiet_loads access.Ldrsb t address w
quiet_accesses access.Ldr t address value w = quiet_loads access.Ldr t address w
quiet_accesses access.Ldrh t address value w = quiet_loads access.Ldrh t address w
quiet_accesses access.Ldrb t address value w = quiet_loads access.Ldrb t address w
quiet_accesses access.Ldrsh t address value w = quiet_loads access.Ldrsh t address w

quiet_stores_many : (base back address : ℕ) (words : List ℕ) (w : World) → Quiet (stores_many base back address words w)
quiet_stores_many base back address words w = quiet_aligned address 4 w _ (λ h. absurd (let bad : On ≡ Stay = h in cc))

quiet_loads_many : (base address : ℕ) (xs : List ℕ) (w : World) → Quiet (loads_many base address xs w)
quiet_loads_many base address xs w = quiet_aligned address 4 w _ (quiet_enough address xs w _ (λ h. absurd (let bad : On ≡ Stay = h in cc)))

quiet_pops_to : (l : Landing) (address : ℕ) (xs : List ℕ) (w : World) → Quiet (pops_to l address xs w)
quiet_pops_to (Goes p) address xs w h = absurd (let bad : To p ≡ Stay = h in cc)
quiet_pops_to Leaves address xs w h = absurd (let bad : Over ≡ Stay = h in cc)
quiet_pops_to Strays address xs w h = absurd (let bad : Over ≡ Stay = h in cc)

quiet_pops : (l : Landing) (address : ℕ) (xs : List ℕ) (w : World) → Quiet (pops l address xs w)
quiet_pops l address xs w = quiet_aligned address 4 w _ (quiet_enough address (with_pc xs) w (pops_to l address xs w) (quiet_pops_to l address xs w))

quiet_jumps : (t : Target) (w : World) → Quiet (jumps t w)
quiet_jumps (Inside p) w h = refl
quiet_jumps (External word) w h = quiet_ends _ w h

quiet_calls : (t : Target) (link : ℕ) (w : World) → Quiet (calls t link w)
quiet_calls (Inside p) link w h = refl
quiet_calls (External word) link w h = quiet_out word w h

quiet_calls_by : (l : Landing) (word link : ℕ) (w : World) → Quiet (calls_by l word link w)
quiet_calls_by (Goes p) word link w h = refl
quiet_calls_by Leaves word link w h = quiet_out word w h
quiet_calls_by Strays word link w h = quiet_ends _ w h

quiet_hints : (x : HintOperation) (w : World) → Quiet (hints x w)
quiet_hints hint.Nop w h = refl
quiet_hints hint.Yield w h = quiet_tells _ w h
quiet_hints hint.Wfe w h = quiet_tells _ w h
quiet_hints hint.Wfi w h = quiet_tells _ w h
quiet_hints hint.Sev w h = quiet_tells _ w h

-- a row
quiet_act : (around : Around) (i : Instr) (w : World) → Quiet (act around i w)
quiet_act around (instr.Bx m) w = quiet_branches (around.lands (w.values m.number)) (w.values m.number) w
quiet_act around (instr.Blx m) w = quiet_calls_by (around.lands (w.values m.number)) (w.values m.number) around.link w
quiet_act around (instr.Indexed a t n m) w = quiet_accesses a t.number (offset (w.values n.number) (w.values m.number)) (w.values t.number) w
quiet_act around (instr.Offset a t n i) w = quiet_accesses (offset_access a) t.number (offset (w.values n.number) (access_size (offset_access a) * i.number)) (w.values t.number) w
quiet_act around (instr.Stack a t i) w = quiet_accesses (word_access a) t.number (offset (w.values sp) (4 * i.number)) (w.values t.number) w
quiet_act around (instr.Push l) w = quiet_stores_many sp (below (pushed l.number) (w.values sp)) (below (pushed l.number) (w.values sp)) (map w.values (pushed l.number)) w
quiet_act around (instr.Pop l) w = quiet_if (has l.number 8) _ _
    (quiet_pops (around.lands (popped_word (w.values sp) (registers_in l.number) w)) (w.values sp) (registers_in l.number) w)
    (quiet_loads_many sp (w.values sp) (registers_in l.number) w)
quiet_act around (instr.StoreMany s) w =
    quiet_stores_many s.base.number (behind (registers_in s.list.number) (w.values s.base.number)) (w.values s.base.number) (map w.values (registers_in s.list.number)) w
quiet_act around (instr.LoadMany n l) w = quiet_loads_many n.number (w.values n.number) (registers_in l.number) w
quiet_act around (instr.Breakpoint i) w = quiet_tells _ w
quiet_act around (instr.Service i) w = quiet_takes (answers_with served (Sys i.number (map w.values (served ++ (sp ∷ [])))) w) w w.answers
    (quiet_answers served (Sys i.number (map w.values (served ++ (sp ∷ [])))) w)
quiet_act around (instr.Hint x) w = quiet_hints x w
quiet_act around (instr.ChangeState i) w = quiet_tells _ w
quiet_act around (instr.BranchIf c d) w = quiet_if (holds c w.values) (jumps around.target w) (puts [] On w) (quiet_jumps around.target w) (λ h. refl)
quiet_act around (instr.Branch d) w = quiet_jumps around.target w
quiet_act around (instr.Call d) w = quiet_calls around.target around.link w
quiet_act around (instr.Barrier b) w = quiet_tells _ w
quiet_act around (instr.ReadSpecial d s) w = quiet_takes (reads_special d.number (special_code s) w) w w.answers (λ a rest h. absurd (let bad : On ≡ Stay = h in cc))
quiet_act around (instr.WriteMask m) w = quiet_tells _ w
quiet_act around i w = λ h. refl

-- a step that can't be taken for lack of answers adds no event
pub stays_quiet : (names : Naming) (code : Code) (a : Position) (s : State) → next_at names code a s ≡ Stay → (step_at names code a s).events ≡ s.events
stays_quiet names code Ended s e = refl
stays_quiet names code (Here p) s e = on (slice_get code.places p) e where
  on : (o : Option Place) → next_on names code p o s ≡ Stay → (step_on names code p o s).events ≡ s.events
  on None e = absurd (let bad : Over ≡ Stay = e in cc)
  on (Some (Word v)) e = absurd (let bad : Over ≡ Stay = e in cc)
  on (Some (Op i mention)) e = ap (λ (es : List Event). s.events ++ es) (quiet_act (around_of names code p i mention) i s.world e) ∙ append-nil s.events
