-- One instruction at two places whose targets, landings and literals correspond (are tied) by a relation R of places: it does the same in both,
-- and goes on to places that correspond.
use Rattle.std.proofs.Common.{◌≡◌, ℕ, ◌%◌, ◌==◌, nat_le, Bool, true, false, List, [], ◌∷◌, length, if◌then◌else◌, refl, ap, subst}
use Rattle.thumb_instr.specs.declared.instr.Instr.{Instr}
use Rattle.thumb_instr.specs.declared.instr.Instr.TheVariants as instr
use Rattle.thumb_instr.specs.declared.operation.Access.{Access}
use Rattle.thumb_instr.specs.declared.operation.Access.TheVariants as access
use Rattle.thumb_instr.specs.declared.operation.HintOperation.{HintOperation}
use Rattle.thumb_instr.specs.declared.operation.HintOperation.TheVariants as hint
use Rattle.thumb_instr.specs.Items.{has}
use Rattle.thumb_instr.specs.Shape.{registers_in}
use Rattle.thumb_model.specs.Effect.{sp}
use Rattle.thumb_model.specs.States.{World, Answer, Fault, Around, Act, Target, Inside, External, Landing, Goes, Leaves, Strays, Continuation, On, Stay, To, Over, puts, ends, takes, aligned}
use Rattle.thumb_model.specs.Accesses.{is_device, access_size, value_at, gets, loads, stores, accesses, stores_many, device_words, enough, loads_many}
use Rattle.thumb_model.specs.Acts.{branches, jumps, calls_out, calls, calls_by, popped_word, pops_to, pops, holds, hints, act}

-- targets at tied places, or the same outside
abbrev pub TargetTied : (ℕ → ℕ → Type 0) → Target → Target → Type 0
TargetTied R (Inside p) (Inside q) = R p q
TargetTied R (External v) (External w) = v ≡ w
TargetTied R (Inside p) (External w) = ⊥
TargetTied R (External v) (Inside q) = ⊥

-- landings at tied places
abbrev pub LandingTied : (ℕ → ℕ → Type 0) → Landing → Landing → Type 0
LandingTied R (Goes p) (Goes q) = R p q
LandingTied R Leaves Leaves = Unit {0}
LandingTied R Strays Strays = Unit {0}
LandingTied R k l = ⊥

-- ways on to tied places
abbrev pub NextTied : (ℕ → ℕ → Type 0) → Continuation → Continuation → Type 0
NextTied R On On = Unit {0}
NextTied R Stay Stay = Unit {0}
NextTied R (To p) (To q) = R p q
NextTied R Over Over = Unit {0}
NextTied R k l = ⊥

-- acts that do the same, and go on to tied places
pub record ActTied (R : ℕ → ℕ → Type 0) (a b : Act) : Type 0 where
  pub outputs : a.outputs ≡ b.outputs
  pub memory : a.memory ≡ b.memory
  pub answers : a.answers ≡ b.answers
  pub events : a.events ≡ b.events
  pub next : NextTied R a.next b.next

-- a row: what the instruction looks at around it is tied
abbrev pub LooksTied : (ℕ → ℕ → Type 0) → Around → Around → Instr → World → Type 0
LooksTied R a b (instr.Bx m) w = LandingTied R (a.lands (w.values m.number)) (b.lands (w.values m.number))
LooksTied R a b (instr.Blx m) w = LandingTied R (a.lands (w.values m.number)) (b.lands (w.values m.number)) × (a.link ≡ b.link)
LooksTied R a b (instr.Literal t d) w = a.literal ≡ b.literal
LooksTied R a b (instr.Address d i) w = a.literal ≡ b.literal
LooksTied R a b (instr.Pop l) w = (word : ℕ) → LandingTied R (a.lands word) (b.lands word)
LooksTied R a b (instr.BranchIf c d) w = TargetTied R a.target b.target
LooksTied R a b (instr.Branch d) w = TargetTied R a.target b.target
LooksTied R a b (instr.Call d) w = TargetTied R a.target b.target × (a.link ≡ b.link)
LooksTied R a b i w = Unit {0}

-- all that is around is tied
pub record AroundTied (R : ℕ → ℕ → Type 0) (a b : Around) : Type 0 where
  pub target : TargetTied R a.target b.target
  pub literal : a.literal ≡ b.literal
  pub link : a.link ≡ b.link
  pub lands : (word : ℕ) → LandingTied R (a.lands word) (b.lands word)

module _ (R : ℕ → ℕ → Type 0) where
  -- a row: where all is tied, so is what an instruction looks at
  pub looks_tied : (a b : Around) → AroundTied R a b → (i : Instr) (w : World) → LooksTied R a b i w
  looks_tied a b h (instr.Bx m) w = h.lands (w.values m.number)
  looks_tied a b h (instr.Blx m) w = (h.lands (w.values m.number), h.link)
  looks_tied a b h (instr.Literal t d) w = h.literal
  looks_tied a b h (instr.Address d i) w = h.literal
  looks_tied a b h (instr.Pop l) w = h.lands
  looks_tied a b h (instr.BranchIf c d) w = h.target
  looks_tied a b h (instr.Branch d) w = h.target
  looks_tied a b h (instr.Call d) w = (h.target, h.link)
  looks_tied a b h i w = tt

  branch_tied : (k l : Landing) (word : ℕ) (w : World) → LandingTied R k l → ActTied R (branches k word w) (branches l word w)
  branch_tied (Goes p) (Goes q) word w h = record { outputs = refl; memory = refl; answers = refl; events = refl; next = h }
  branch_tied Leaves Leaves word w h = record { outputs = refl; memory = refl; answers = refl; events = refl; next = tt }
  branch_tied Strays Strays word w h = record { outputs = refl; memory = refl; answers = refl; events = refl; next = tt }
  branch_tied k l word w h = absurd h

  -- an instruction that looks at nothing around it
  puts_tied : (os : List (ℕ × ℕ)) (w : World) → ActTied R (puts os On w) (puts os On w)
  puts_tied os w = record { outputs = refl; memory = refl; answers = refl; events = refl; next = tt }

  -- an act whose continuation is tied to itself is tied to itself
  abbrev IsStill : Act → Type 0
  IsStill a = NextTied R a.next a.next

  still_tied : (a : Act) → IsStill a → ActTied R a a
  still_tied a h = record { outputs = refl; memory = refl; answers = refl; events = refl; next = h }

  aligned_tied : (address size : ℕ) (w : World) (a b : Act) → ActTied R a b → ActTied R (aligned address size w a) (aligned address size w b)
  aligned_tied address size w a b h =
      elim ((address % size) == 0) as (λ t. ActTied R (if t then a else ends (Fault address) w) (if t then b else ends (Fault address) w)) [ true ↦ h | false ↦ still_tied (ends (Fault address) w) tt ]

  enough_tied : (address : ℕ) (xs : List ℕ) (w : World) (a b : Act) → ActTied R a b → ActTied R (enough address xs w a) (enough address xs w b)
  enough_tied address xs w a b h =
      elim (nat_le (device_words address xs) (length w.answers)) as (λ t. ActTied R (if t then a else puts [] Stay w) (if t then b else puts [] Stay w)) [ true ↦ h | false ↦ still_tied (puts [] Stay w) tt ]

  takes_tied : (go : Answer → List Answer → Act) (w : World) (l : List Answer) → ((a : Answer) (rest : List Answer) → IsStill (go a rest)) → ActTied R (takes go w l) (takes go w l)
  takes_tied go w [] h = still_tied (puts [] Stay w) tt
  takes_tied go w (a ∷ rest) h = still_tied (go a rest) (h a rest)

  out_tied : (word : ℕ) (w : World) → ActTied R (calls_out word w) (calls_out word w)
  out_tied word w = takes_tied _ w w.answers (λ a rest. tt)

  loads_tied : (a : Access) (t address : ℕ) (w : World) → ActTied R (loads a t address w) (loads a t address w)
  loads_tied a t address w =
      aligned_tied address (access_size a) w _ _ (elim (is_device address) as (λ b. ActTied R
      (if b then takes (λ answer rest. gets a t address (answer.values 0) w rest) w w.answers else gets a t address (value_at w.memory address (access_size a)) w w.answers)
      (if b then takes (λ answer rest. gets a t address (answer.values 0) w rest) w w.answers else gets a t address (value_at w.memory address (access_size a)) w w.answers)) [
        | true ↦ takes_tied _ w w.answers (λ answer rest. tt)
        | false ↦ still_tied (gets a t address (value_at w.memory address (access_size a)) w w.answers) tt
      ])

  stores_tied : (a : Access) (address value : ℕ) (w : World) → ActTied R (stores a address value w) (stores a address value w)
  stores_tied a address value w = aligned_tied address (access_size a) w _ _ (still_tied _ tt)

  -- a row: an access is tied to itself
  accesses_tied : (a : Access) (t address value : ℕ) (w : World) → ActTied R (accesses a t address value w) (accesses a t address value w)
  accesses_tied access.Str t address value w = stores_tied access.Str address value w
  accesses_tied access.Strh t address value w = stores_tied access.Strh address value w
  accesses_tied access.Strb t address value w = stores_tied access.Strb address value w
  accesses_tied a t address value w = loads_tied a t address w

  many_tied : (base address : ℕ) (xs : List ℕ) (w : World) → ActTied R (loads_many base address xs w) (loads_many base address xs w)
  many_tied base address xs w = aligned_tied address 4 w _ _ (enough_tied address xs w _ _ (still_tied _ tt))

  stores_many_tied : (base back address : ℕ) (words : List ℕ) (w : World) → ActTied R (stores_many base back address words w) (stores_many base back address words w)
  stores_many_tied base back address words w = aligned_tied address 4 w _ _ (still_tied _ tt)

  jump_tied : (k l : Target) (w : World) → TargetTied R k l → ActTied R (jumps k w) (jumps l w)
  jump_tied (Inside p) (Inside q) w h = record { outputs = refl; memory = refl; answers = refl; events = refl; next = h }
  jump_tied (External v) (External x) w h = record { outputs = refl; memory = refl; answers = refl; events = ap (λ y. (jumps (External y) w).events) h; next = tt }
  jump_tied (Inside p) (External x) w h = absurd h
  jump_tied (External v) (Inside q) w h = absurd h

  call_tied : (k l : Target) (m n : ℕ) (w : World) → TargetTied R k l → m ≡ n → ActTied R (calls k m w) (calls l n w)
  call_tied (Inside p) (Inside q) m n w h e = record { outputs = ap (λ y. (calls (Inside p) y w).outputs) e; memory = refl; answers = refl; events = refl; next = h }
  call_tied (External v) (External x) m n w h e = subst (λ y. ActTied R (calls_out v w) (calls_out y w)) h (out_tied v w)
  call_tied (Inside p) (External x) m n w h e = absurd h
  call_tied (External v) (Inside q) m n w h e = absurd h

  call_by_tied : (k l : Landing) (word m n : ℕ) (w : World) → LandingTied R k l → m ≡ n → ActTied R (calls_by k word m w) (calls_by l word n w)
  call_by_tied (Goes p) (Goes q) word m n w h e = record { outputs = ap (λ y. (calls_by (Goes p) word y w).outputs) e; memory = refl; answers = refl; events = refl; next = h }
  call_by_tied Leaves Leaves word m n w h e = out_tied word w
  call_by_tied Strays Strays word m n w h e = still_tied _ tt
  call_by_tied k l word m n w h e = absurd h

  pop_tied : (k l : Landing) (address : ℕ) (xs : List ℕ) (w : World) → LandingTied R k l → ActTied R (pops_to k address xs w) (pops_to l address xs w)
  pop_tied (Goes p) (Goes q) address xs w h = record { outputs = refl; memory = refl; answers = refl; events = refl; next = h }
  pop_tied Leaves Leaves address xs w h = still_tied _ tt
  pop_tied Strays Strays address xs w h = still_tied _ tt
  pop_tied k l address xs w h = absurd h

  -- POP, with pc or without, does the same where landings are tied
  pops_tied : (a b : Around) (list : ℕ) (w : World) → ((word : ℕ) → LandingTied R (a.lands word) (b.lands word)) → (t : Bool) → ActTied R
      (if t then pops (a.lands (popped_word (w.values sp) (registers_in list) w)) (w.values sp) (registers_in list) w else loads_many sp (w.values sp) (registers_in list) w)
      (if t then pops (b.lands (popped_word (w.values sp) (registers_in list) w)) (w.values sp) (registers_in list) w else loads_many sp (w.values sp) (registers_in list) w)
  pops_tied a b list w h true =
      aligned_tied (w.values sp) 4 w _ _ (enough_tied (w.values sp) _ w _ _ (pop_tied _ _ (w.values sp) (registers_in list) w (h (popped_word (w.values sp) (registers_in list) w))))
  pops_tied a b list w h false = many_tied sp (w.values sp) (registers_in list) w

  if_tied : (t : Bool) (k l : Target) (w : World) → TargetTied R k l → ActTied R (if t then jumps k w else puts [] On w) (if t then jumps l w else puts [] On w)
  if_tied true k l w h = jump_tied k l w h
  if_tied false k l w h = puts_tied [] w

  hint_tied : (k : HintOperation) (w : World) → ActTied R (hints k w) (hints k w)
  hint_tied hint.Nop w = puts_tied [] w
  hint_tied k w = still_tied _ tt

  literal_tied : (t x y : ℕ) (w : World) → x ≡ y → ActTied R (puts ((t, x) ∷ []) On w) (puts ((t, y) ∷ []) On w)
  literal_tied t x y w e = record { outputs = ap (λ z. (puts ((t, z) ∷ []) On w).outputs) e; memory = refl; answers = refl; events = refl; next = tt }

  -- a row: an instruction does the same in surroundings that are tied
  pub act_tied : (a b : Around) (i : Instr) (w : World) → LooksTied R a b i w → ActTied R (act a i w) (act b i w)
  act_tied a b (instr.Pop l) w h = pops_tied a b l.number w h (has l.number 8)
  act_tied a b (instr.Service i) w h = takes_tied _ w w.answers (λ answer rest. tt)
  act_tied a b (instr.BranchIf c d) w h = if_tied (holds c w.values) a.target b.target w h
  act_tied a b (instr.ReadSpecial d s) w h = takes_tied _ w w.answers (λ answer rest. tt)
  act_tied a b i w h = search (branch_tied, call_by_tied, call_tied, jump_tied, literal_tied, accesses_tied, stores_many_tied, many_tied, hint_tied, puts_tied, still_tied)
