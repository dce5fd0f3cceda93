-- What each instruction does to a world, given what is around it: the one meaning of instructions for listings and for images.
use Rattle.std.specs.Prelude.{ℕ, ◌+◌, ◌*◌, ◌%◌, ◌^◌, ◌==◌, ◌&&◌, not, Bool, List, [], ◌∷◌, ◌++◌, map, if◌then◌else◌}
use Rattle.thumb_instr.specs.declared.instr.Instr.{Instr}
use Rattle.thumb_instr.specs.declared.instr.Instr.TheVariants as instr
use Rattle.thumb_instr.specs.declared.operation.Condition.{Condition}
use Rattle.thumb_instr.specs.declared.operation.Condition.TheVariants as condition
use Rattle.thumb_instr.specs.declared.operation.HintOperation.{HintOperation}
use Rattle.thumb_instr.specs.declared.operation.HintOperation.TheVariants as hint
use Rattle.thumb_instr.specs.declared.operation.Interrupts.{Interrupts}
use Rattle.thumb_instr.specs.declared.operation.Interrupts.TheVariants as interrupts
use Rattle.thumb_instr.specs.declared.operation.Barrier.{Barrier}
use Rattle.thumb_instr.specs.declared.operation.Barrier.TheVariants as barrier
use Rattle.thumb_instr.specs.declared.operation.Special.{Special}
use Rattle.thumb_instr.specs.declared.operation.Special.TheVariants as special
use Rattle.thumb_instr.specs.Items.{has}
use Rattle.thumb_instr.specs.Shape.{registers_in, pushed, offset_access, word_access}
use Rattle.thumb_model.specs.Effect.{Values, assigned, sp, lr, n_flag, z_flag, c_flag, v_flag, outputs}
use Rattle.thumb_model.specs.States.{Event, Call, Sys, Left, Astray, Answer, World, Target, Inside, External, Landing, Goes, Leaves, Strays, Around, Continuation, On, To, Over, Act, registers_left, puts, ends, tells, takes, aligned, handed, answered, served, answers_with}
use Rattle.thumb_model.specs.Accesses.{access_size, accesses, behind, below, stores_many, word_at, left_from, load_events, enough, many_outputs, loads_many}

-- ---- branches ----

-- an indirect branch to a word: BX
abbrev pub branches : Landing → ℕ → World → Act
branches (Goes p) word w = puts [] (To p) w
branches Leaves word w = ends (Left word (map w.values registers_left)) w
branches Strays word w = ends (Astray word) w

-- a direct branch
abbrev pub jumps : Target → World → Act
jumps (Inside p) w = puts [] (To p) w
jumps (External word) w = ends (Left word (map w.values registers_left)) w

-- a call of external code: an event, and an answer
abbrev pub calls_out : ℕ → World → Act
calls_out word w = takes (answers_with answered (Call word (map w.values handed)) w) w w.answers

-- BL, and then BLX
abbrev pub calls : Target → ℕ → World → Act
calls (Inside p) link w = puts ((lr, link) ∷ []) (To p) w
calls (External word) link w = calls_out word w

abbrev pub calls_by : Landing → ℕ → ℕ → World → Act
calls_by (Goes p) word link w = puts ((lr, link) ∷ []) (To p) w
calls_by Leaves word link w = calls_out word w
calls_by Strays word link w = ends (Astray word) w

-- POP with pc: loads the registers' words and one more, to which it branches; in the list pc is 15
abbrev pub with_pc : List ℕ → List ℕ
with_pc xs = xs ++ (15 ∷ [])

abbrev pub popped_word : ℕ → List ℕ → World → ℕ
popped_word address xs w = word_at w.memory (left_from w.answers address xs) (behind xs address)

abbrev pub popping : ℕ → List ℕ → Continuation → List Event → World → Act
popping address xs next es w = record {
  outputs = many_outputs sp (behind (with_pc xs) address) address xs w;
  memory = w.memory;
  answers = left_from w.answers address (with_pc xs);
  events = load_events address (with_pc xs) ++ es;
  next = next;
}

abbrev pub pops_to : Landing → ℕ → List ℕ → World → Act
pops_to (Goes p) address xs w = popping address xs (To p) [] w
pops_to Leaves address xs w = popping address xs Over (Left (popped_word address xs w) (map (assigned (many_outputs sp (behind (with_pc xs) address) address xs w) w.values) registers_left) ∷ []) w
pops_to Strays address xs w = popping address xs Over (Astray (popped_word address xs w) ∷ []) w

abbrev pub pops : Landing → ℕ → List ℕ → World → Act
pops landing address xs w = aligned address 4 w (enough address (with_pc xs) w (pops_to landing address xs w))

-- ---- conditions and codes ----

-- ConditionHolds
abbrev pub holds : Condition → Values → Bool
holds condition.Eq v = v z_flag == 1
holds condition.Ne v = not (v z_flag == 1)
holds condition.Cs v = v c_flag == 1
holds condition.Cc v = not (v c_flag == 1)
holds condition.Mi v = v n_flag == 1
holds condition.Pl v = not (v n_flag == 1)
holds condition.Vs v = v v_flag == 1
holds condition.Vc v = not (v v_flag == 1)
holds condition.Hi v = (v c_flag == 1) && not (v z_flag == 1)
holds condition.Ls v = not ((v c_flag == 1) && not (v z_flag == 1))
holds condition.Ge v = v n_flag == v v_flag
holds condition.Lt v = not (v n_flag == v v_flag)
holds condition.Gt v = not (v z_flag == 1) && (v n_flag == v v_flag)
holds condition.Le v = not (not (v z_flag == 1) && (v n_flag == v v_flag))

-- the codes of events that a system sees: SVC n is n itself, BKPT n is 256 + n
abbrev pub hints : HintOperation → World → Act
hints hint.Nop w = puts [] On w
hints hint.Yield w = tells (Sys 512 []) w
hints hint.Wfe w = tells (Sys 513 []) w
hints hint.Wfi w = tells (Sys 514 []) w
hints hint.Sev w = tells (Sys 515 []) w

abbrev pub interrupts_code : Interrupts → ℕ
interrupts_code interrupts.Enable = 516
interrupts_code interrupts.Disable = 517

abbrev pub barrier_code : Barrier → ℕ
barrier_code barrier.Dsb = 518
barrier_code barrier.Dmb = 519
barrier_code barrier.Isb = 520

abbrev pub special_code : Special → ℕ
special_code special.Primask = 521
special_code special.Ipsr = 522

-- MRS: an answer's first word
abbrev pub reads_special : ℕ → ℕ → World → Answer → List Answer → Act
reads_special d code w a rest = record { outputs = (d, a.values 0) ∷ []; memory = w.memory; answers = rest; events = Sys code [] ∷ []; next = On }

-- ---- each instruction ----

-- the address of an access: the low 32 bits of a sum
abbrev pub offset : ℕ → ℕ → ℕ
offset x y = (x + y) % 2 ^ 32

abbrev pub act : Around → Instr → World → Act
act around (instr.Bx m) w = branches (around.lands (w.values m.number)) (w.values m.number) w
act around (instr.Blx m) w = calls_by (around.lands (w.values m.number)) (w.values m.number) around.link w
act around (instr.Literal t d) w = puts ((t.number, around.literal) ∷ []) On w
act around (instr.Indexed a t n m) w = accesses a t.number (offset (w.values n.number) (w.values m.number)) (w.values t.number) w
act around (instr.Offset a t n i) w = accesses (offset_access a) t.number (offset (w.values n.number) (access_size (offset_access a) * i.number)) (w.values t.number) w
act around (instr.Stack a t i) w = accesses (word_access a) t.number (offset (w.values sp) (4 * i.number)) (w.values t.number) w
act around (instr.Address d i) w = puts ((d.number, around.literal) ∷ []) On w
act around (instr.Push l) w = stores_many sp (below (pushed l.number) (w.values sp)) (below (pushed l.number) (w.values sp)) (map w.values (pushed l.number)) w
act around (instr.Pop l) w =
    if has l.number 8 then pops (around.lands (popped_word (w.values sp) (registers_in l.number) w)) (w.values sp) (registers_in l.number) w
    else loads_many sp (w.values sp) (registers_in l.number) w
act around (instr.StoreMany s) w =
    stores_many s.base.number (behind (registers_in s.list.number) (w.values s.base.number)) (w.values s.base.number) (map w.values (registers_in s.list.number)) w
act around (instr.LoadMany n l) w = loads_many n.number (w.values n.number) (registers_in l.number) w
act around (instr.Breakpoint i) w = tells (Sys (256 + i.number) []) w
act around (instr.Service i) w = takes (answers_with served (Sys i.number (map w.values (served ++ (sp ∷ [])))) w) w w.answers
act around (instr.Hint h) w = hints h w
act around (instr.ChangeState i) w = tells (Sys (interrupts_code i) []) w
act around (instr.BranchIf c d) w = if holds c w.values then jumps around.target w else puts [] On w
act around (instr.Branch d) w = jumps around.target w
act around (instr.Call d) w = calls around.target around.link w
act around (instr.Barrier b) w = tells (Sys (barrier_code b) []) w
act around (instr.ReadSpecial d s) w = takes (reads_special d.number (special_code s) w) w w.answers
act around (instr.WriteMask m) w = tells (Sys 523 (w.values m.number ∷ [])) w
act around i w = puts (outputs i w.values) On w
