-- Each instruction goes by one of its ways, and depends only on what that way reads: liveness rests on this.
use Rattle.std.proofs.Common.{arith, ◌≡◌, ℕ, ◌+◌, ◌*◌, ◌%◌, ◌==◌, ◌||◌, not, nat_le, Bool, true, false, List, [], ◌∷◌, ◌++◌, length, Option, Some, None, refl, sym, ap, ◌∙◌, subst, map, if◌then◌else◌}
use Rattle.std.specs.Prelude.{slice_get, filter}
use Rattle.thumb_instr.specs.declared.instr.Instr.{Instr}
use Rattle.thumb_instr.specs.declared.instr.Instr.TheVariants as instr
use Rattle.thumb_instr.specs.declared.operation.Operation.{Operation}
use Rattle.thumb_instr.specs.declared.operation.Operation.TheVariants as operation
use Rattle.thumb_instr.specs.declared.operation.ByteOperation.{ByteOperation}
use Rattle.thumb_instr.specs.declared.operation.ByteOperation.TheVariants as byte
use Rattle.thumb_instr.specs.declared.operation.Access.{Access}
use Rattle.thumb_instr.specs.declared.operation.Access.TheVariants as access
use Rattle.thumb_instr.specs.declared.operation.Condition.{Condition}
use Rattle.thumb_instr.specs.declared.operation.Condition.TheVariants as condition
use Rattle.thumb_instr.specs.declared.operation.HintOperation.{HintOperation}
use Rattle.thumb_instr.specs.declared.operation.HintOperation.TheVariants as hint
use Rattle.thumb_instr.specs.declared.within.Within.{Within}
use Rattle.thumb_instr.specs.Items.{has}
use Rattle.thumb_instr.specs.Shape.{registers_in, pushed, two_uses, two_writes, byte_uses, byte_writes, access_uses, access_writes, offset_access, word_access, condition_uses, uses_of, writes_of}
use Rattle.thumb_model.specs.Effect.{Values, assigned, one_of, sp, lr, c_flag, outputs, two_outputs, byte_outputs}
use Rattle.thumb_model.specs.States.{World, Answer, Target, Inside, External, Landing, Goes, Leaves, Strays, Around, Act, Event, Call, Sys, Left, Fault, Astray, Continuation, On, Stay, To, Over, puts, ends, registers_left, tells, takes, aligned, handed, answered, served, answers_with}
use Rattle.thumb_model.specs.Accesses.{is_device, access_size, value_at, gets, loads, stores, accesses, behind, below, stores_many, words_from, left_at, next_word, device_words, enough, many_outputs, loads_many}
use Rattle.thumb_model.specs.Acts.{act, branches, jumps, calls_out, calls, calls_by, with_pc, popped_word, popping, pops_to, pops, holds, hints, interrupts_code, barrier_code, special_code, reads_special, offset}
use Rattle.thumb_model.specs.Flow.{Way, way, ways_of, jump_way, call_way, left_but, Leads, Onward, ToPlace, AnyPoint, Out}

-- the items that get a value
abbrev pub keys : List (ℕ × ℕ) → List ℕ
keys [] = []
keys (o ∷ os) = o.0 ∷ keys os

-- two worlds' values agree on the items of a list
abbrev pub AgreeOn : List ℕ → Values → Values → Type 0
AgreeOn [] u v = Unit {0}
AgreeOn (x ∷ xs) u v = (u x ≡ v x) × AgreeOn xs u v

-- where the old values of an item agree, or it gets a new one, the values afterwards agree
pub assigned_agree : (os : List (ℕ × ℕ)) (u v : Values) (x : ℕ) → (one_of x (keys os) ≡ false → u x ≡ v x) → assigned os u x ≡ assigned os v x
assigned_agree [] u v x h = h refl
assigned_agree (o ∷ os) u v x h =
    elim (x == o.0) as (λ b. ((b || one_of x (keys os)) ≡ false → u x ≡ v x) → (if b then o.1 else assigned os u x) ≡ (if b then o.1 else assigned os v x)) [
      | true ↦ λ h. refl
      | false ↦ λ h. assigned_agree os u v x h
    ] h

-- an item that gets no value keeps its own
pub assigned_other : (os : List (ℕ × ℕ)) (v : Values) (x : ℕ) → one_of x (keys os) ≡ false → assigned os v x ≡ v x
assigned_other [] v x h = refl
assigned_other (o ∷ os) v x h =
    elim (x == o.0) as (λ b. (b || one_of x (keys os)) ≡ false → (if b then o.1 else assigned os v x) ≡ v x) [
      | true ↦ λ h. absurd (cc)
      | false ↦ λ h. assigned_other os v x h
    ] h

-- the place of a target inside the listing
abbrev pub inside_of : Target → Option ℕ
inside_of (Inside p) = Some p
inside_of (External word) = None

-- the continuation of a step fits where a way leads, and the step writes what the way says
abbrev pub Matches : (ℕ → Landing) → Continuation → Leads → List ℕ → List ℕ → Type 0
Matches lands On Onward ks ws = ks ≡ ws
Matches lands (To p) (ToPlace q) ks ws = (p ≡ q) × (ks ≡ ws)
Matches lands (To p) AnyPoint ks ws = (word : ℕ) × (lands word ≡ Goes p) × (ks ≡ ws)
Matches lands Stay l ks ws = ks ≡ []
Matches lands Over l ks ws = Unit {0}
Matches lands k l ks ws = ⊥

-- the act takes the way
abbrev pub Takes : (ℕ → Landing) → Act → Way → Type 0
Takes lands a w = Matches lands a.next w.leads (keys a.outputs) w.writes

-- the instruction takes one of its ways from u, and does the same from a world w that agrees on what this way reads
pub record Taken (around : Around) (i : Instr) (u w : World) : Type 0 where
  pub number : ℕ
  pub taken : Way
  pub is_way : slice_get (ways_of (inside_of around.target) i) number ≡ Some taken
  pub same : AgreeOn taken.reads u.values w.values → act around i u ≡ act around i w
  pub takes : Takes around.lands (act around i u) taken

-- two worlds with the same memory and answers
abbrev pub AlikeBut : World → World → Type 0
AlikeBut u w = (u.memory ≡ w.memory) × (u.answers ≡ w.answers)

map_agree : (xs : List ℕ) (u v : Values) → AgreeOn xs u v → map u xs ≡ map v xs
map_agree [] u v h = refl
map_agree (x ∷ xs) u v h = cc (h.0, map_agree xs u v h.1)

puts_same : (os ps : List (ℕ × ℕ)) (n : Continuation) (u w : World) → AlikeBut u w → os ≡ ps → puts os n u ≡ puts ps n w
puts_same os ps n u w h e = cc (h.0, h.1)

ends_same : (e f : Event) (u w : World) → AlikeBut u w → e ≡ f → ends e u ≡ ends f w
ends_same e f u w h s = cc (h.0, h.1)

left_same : (word : ℕ) (xs ys : List ℕ) → xs ≡ ys → Left word xs ≡ Left word ys
left_same word xs ys e = cc

-- equal words land at the same place
lands_same : (around : Around) (x y : ℕ) (l : Landing) → around.lands x ≡ l → x ≡ y → around.lands y ≡ l
lands_same around x y l e s = ap around.lands (sym s) ∙ e

bx_law : (around : Around) (m : ℕ) (u w : World) → AlikeBut u w → (l : Landing) → around.lands (u.values m) ≡ l → (i : Instr) → ((v : World) → act around i v ≡ branches (around.lands (v.values m)) (v.values m) v) → ways_of (inside_of around.target) i ≡ way (m ∷ []) [] AnyPoint ∷ way (m ∷ registers_left) [] Out ∷ [] → Taken around i u w
bx_law around m u w a (Goes p) e i acts ways =
    let eu : act around i u ≡ puts [] (To p) u = acts u ∙ ap (λ l. branches l (u.values m) u) e in
    record {
      number = 0;
      taken = way (m ∷ []) [] AnyPoint;
      is_way = ap (λ ws. slice_get ws 0) ways;
      same = λ h.
          let ew : act around i w ≡ puts [] (To p) w = acts w ∙ ap (λ l. branches l (w.values m) w) (lands_same around (u.values m) (w.values m) (Goes p) e (h.0)) in
          eu ∙ puts_same [] [] (To p) u w a refl ∙ sym ew;
      takes = subst (λ (x : Act). Takes around.lands x (way (m ∷ []) [] AnyPoint)) (sym eu) (u.values m, e, refl);
    }
bx_law around m u w a Leaves e i acts ways =
    let eu : act around i u ≡ ends (Left (u.values m) (map u.values registers_left)) u = acts u ∙ ap (λ l. branches l (u.values m) u) e in
    record {
      number = 1;
      taken = way (m ∷ registers_left) [] Out;
      is_way = ap (λ ws. slice_get ws 1) ways;
      same = λ h.
          let ew : act around i w ≡ ends (Left (w.values m) (map w.values registers_left)) w = acts w ∙ ap (λ l. branches l (w.values m) w) (lands_same around (u.values m) (w.values m) Leaves e (h.0)) in
          let same_list : map u.values registers_left ≡ map w.values registers_left = map_agree registers_left u.values w.values h.1 in
          eu ∙ ends_same _ _ u w a (ap (λ x. Left x (map u.values registers_left)) (h.0) ∙ left_same (w.values m) _ _ same_list) ∙ sym ew;
      takes = subst (λ (x : Act). Takes around.lands x (way (m ∷ registers_left) [] Out)) (sym eu) tt;
    }
bx_law around m u w a Strays e i acts ways =
    let eu : act around i u ≡ ends (Astray (u.values m)) u = acts u ∙ ap (λ l. branches l (u.values m) u) e in
    record {
      number = 0;
      taken = way (m ∷ []) [] AnyPoint;
      is_way = ap (λ ws. slice_get ws 0) ways;
      same = λ h.
          let ew : act around i w ≡ ends (Astray (w.values m)) w = acts w ∙ ap (λ l. branches l (w.values m) w) (lands_same around (u.values m) (w.values m) Strays e (h.0)) in
          eu ∙ ends_same _ _ u w a (ap Astray (h.0)) ∙ sym ew;
      takes = subst (λ (x : Act). Takes around.lands x (way (m ∷ []) [] AnyPoint)) (sym eu) tt;
    }

-- ---- rows ----

-- a world's memory and answers alone
abbrev bare : World → World
bare v = record { values = λ x. 0; memory = v.memory; answers = v.answers }

bare_same : (u w : World) → AlikeBut u w → bare u ≡ bare w
bare_same u w h = cc (h.0, h.1)

-- a function of memory and answers alone has the same value in both worlds
same_world : {A : Type 0} (f : World → A) → ((v : World) → f v ≡ f (bare v)) → (u w : World) → AlikeBut u w → f u ≡ f w
same_world f e u w h = e u ∙ ap f (bare_same u w h) ∙ sym (e w)

-- a function of two arguments, each replaced by an equal one
pub ap_two : {A B C : Type 0} (f : A → B → C) {a b : A} {x y : B} → a ≡ b → x ≡ y → f a x ≡ f b y
ap_two f {a} {b} {x} {y} e g = ap (λ z. f z x) e ∙ ap (f b) g

agree_back : (xs ys : List ℕ) (u v : Values) → AgreeOn (xs ++ ys) u v → AgreeOn ys u v
agree_back [] ys u v h = h
agree_back (x ∷ xs) ys u v h = agree_back xs ys u v h.1

agree_front : (xs ys : List ℕ) (u v : Values) → AgreeOn (xs ++ ys) u v → AgreeOn xs u v
agree_front [] ys u v h = tt
agree_front (x ∷ xs) ys u v h = (h.0, agree_front xs ys u v h.1)

-- an instruction with one way on
straight : (around : Around) (i : Instr) (u w : World) → ways_of (inside_of around.target) i ≡ way (uses_of i) (writes_of i) Onward ∷ [] → (AgreeOn (uses_of i) u.values w.values → act around i u ≡ act around i w)
    → Takes around.lands (act around i u) (way (uses_of i) (writes_of i) Onward) → Taken around i u w
straight around i u w e same takes = record { number = 0; taken = way (uses_of i) (writes_of i) Onward; is_way = ap (λ ws. slice_get ws 0) e; same = same; takes = takes }

-- an instruction that looks at items alone
puts_law : (around : Around) (i : Instr) (u w : World) → AlikeBut u w → ((v : World) → act around i v ≡ puts (outputs i v.values) On v) → ways_of (inside_of around.target) i ≡ way (uses_of i) (writes_of i) Onward ∷ []
    → (AgreeOn (uses_of i) u.values w.values → outputs i u.values ≡ outputs i w.values) → keys (outputs i u.values) ≡ writes_of i → Taken around i u w
puts_law around i u w a acts ways same writes =
    straight around i u w ways (λ h. acts u ∙ puts_same _ _ On u w a (same h) ∙ sym (acts w)) (subst (λ (x : Act). Takes around.lands x (way (uses_of i) (writes_of i) Onward)) (sym (acts u)) writes)

-- a row: what an operation does depends on what it reads
two_same : (o : Operation) (d m : ℕ) (u w : Values) → AgreeOn (two_uses o d m) u w → two_outputs o d (u d) (u m) (u c_flag) ≡ two_outputs o d (w d) (w m) (w c_flag)
two_same operation.And d m u w h = ap_two (λ x y. two_outputs operation.And d x y 0) h.0 h.1.0
two_same o d m u w h = grind arith

-- a row: an operation writes what it says
two_keys : (o : Operation) (d x y c : ℕ) → keys (two_outputs o d x y c) ≡ two_writes o d
two_keys operation.And d x y c = refl
two_keys o d x y c = refl

byte_same : (o : ByteOperation) (d n : ℕ) (u w : Values) → AgreeOn (byte_uses o d) u w → byte_outputs o d (u d) n ≡ byte_outputs o d (w d) n
byte_same byte.Mov d n u w h = refl
byte_same o d n u w h = ap (λ x. byte_outputs o d x n) h.0

byte_keys : (o : ByteOperation) (d x n : ℕ) → keys (byte_outputs o d x n) ≡ byte_writes o d
byte_keys byte.Mov d x n = refl
byte_keys o d x n = refl

-- ---- accesses ----

module _ (lands : ℕ → Landing) (l : Leads) (ws : List ℕ) where
  -- the act fits a way that leads and writes so
  abbrev Follows : Act → Type 0
  Follows a = Matches lands a.next l (keys a.outputs) ws

  aligned_takes : (address size : ℕ) (w : World) (a : Act) → Follows a → Follows (aligned address size w a)
  aligned_takes address size w a h = elim ((address % size) == 0) as (λ t. Follows (if t then a else ends (Fault address) w)) [ true ↦ h | false ↦ tt ]

  enough_takes : (address : ℕ) (xs : List ℕ) (w : World) (a : Act) → Follows a → Follows (enough address xs w a)
  enough_takes address xs w a h = elim (nat_le (device_words address xs) (length w.answers)) as (λ t. Follows (if t then a else puts [] Stay w)) [ true ↦ h | false ↦ refl ]

  takes_takes : (go : Answer → List Answer → Act) (w : World) (left : List Answer) → ((a : Answer) (rest : List Answer) → Follows (go a rest)) → Follows (takes go w left)
  takes_takes go w [] h = refl
  takes_takes go w (a ∷ rest) h = h a rest

loads_takes : (lands : ℕ → Landing) (a : Access) (t address : ℕ) (w : World) → Follows lands Onward (t ∷ []) (loads a t address w)
loads_takes lands a t address w =
    aligned_takes lands Onward (t ∷ []) address (access_size a) w _ (elim (is_device address) as (λ b. Follows lands Onward (t ∷ [])
    (if b then takes (λ answer rest. gets a t address (answer.values 0) w rest) w w.answers else gets a t address (value_at w.memory address (access_size a)) w w.answers)) [
      | true ↦ takes_takes lands Onward (t ∷ []) _ w w.answers (λ answer rest. refl)
      | false ↦ refl
    ])

stores_takes : (lands : ℕ → Landing) (a : Access) (address value : ℕ) (w : World) → Follows lands Onward [] (stores a address value w)
stores_takes lands a address value w = aligned_takes lands Onward [] address (access_size a) w _ refl

-- a row: an access writes what it says
access_takes : (lands : ℕ → Landing) (a : Access) (t address value : ℕ) (w : World) → Follows lands Onward (access_writes a t) (accesses a t address value w)
access_takes lands access.Str t address value w = stores_takes lands access.Str address value w
access_takes lands access.Strh t address value w = stores_takes lands access.Strh address value w
access_takes lands access.Strb t address value w = stores_takes lands access.Strb address value w
access_takes lands a t address value w = loads_takes lands a t address w

-- a row: what an access does depends on what it reads
access_same : (a : Access) (t x y : ℕ) (u w : World) → AlikeBut u w → x ≡ y → AgreeOn (access_uses a t) u.values w.values → accesses a t x (u.values t) u ≡ accesses a t y (w.values t) w
access_same access.Str t x y u w a e h = ap_two (λ p q. stores access.Str p q u) e h.0 ∙ same_world (λ v. stores access.Str y (w.values t) v) (λ v. refl) u w a
access_same access.Strh t x y u w a e h = ap_two (λ p q. stores access.Strh p q u) e h.0 ∙ same_world (λ v. stores access.Strh y (w.values t) v) (λ v. refl) u w a
access_same access.Strb t x y u w a e h = ap_two (λ p q. stores access.Strb p q u) e h.0 ∙ same_world (λ v. stores access.Strb y (w.values t) v) (λ v. refl) u w a
access_same k t x y u w a e h = ap (λ p. loads k t p u) e ∙ same_world (λ v. loads k t y v) (λ v. refl) u w a

-- ---- lists ----

pub keys_words : (memory : ℕ → ℕ) (answers : List Answer) (address : ℕ) (xs : List ℕ) → keys (words_from memory answers address xs) ≡ xs
keys_words memory answers address [] = refl
keys_words memory answers address (x ∷ xs) = ap (λ l. x ∷ l) (keys_words memory (left_at answers address) (next_word address) xs)

keys_many : (base back address : ℕ) (xs : List ℕ) (w : World) → keys (many_outputs base back address xs w) ≡ base ∷ xs
keys_many base back address xs w = ap (λ l. base ∷ l) (keys_words w.memory w.answers address xs)

many_takes : (lands : ℕ → Landing) (base address : ℕ) (xs : List ℕ) (w : World) → Follows lands Onward (base ∷ xs) (loads_many base address xs w)
many_takes lands base address xs w = aligned_takes lands Onward (base ∷ xs) address 4 w _ (enough_takes lands Onward (base ∷ xs) address xs w _ (keys_many base (behind xs address) address xs w))

many_same : (base x y : ℕ) (xs : List ℕ) (u w : World) → AlikeBut u w → x ≡ y → loads_many base x xs u ≡ loads_many base y xs w
many_same base x y xs u w a e = ap (λ p. loads_many base p xs u) e ∙ same_world (λ v. loads_many base y xs v) (λ v. refl) u w a

stores_many_same : (base : ℕ) (back start : ℕ → ℕ) (x y : ℕ) (xs ys : List ℕ) (u w : World) → AlikeBut u w → x ≡ y → xs ≡ ys → stores_many base (back x) (start x) xs u ≡ stores_many base (back y) (start y) ys w
stores_many_same base back start x y xs ys u w a e f =
    ap_two (λ p l. stores_many base (back p) (start p) l u) e f ∙ same_world (λ v. stores_many base (back y) (start y) ys v) (λ v. refl) u w a

stores_many_takes : (lands : ℕ → Landing) (base back address : ℕ) (words : List ℕ) (w : World) → Follows lands Onward (base ∷ []) (stores_many base back address words w)
stores_many_takes lands base back address words w = aligned_takes lands Onward (base ∷ []) address 4 w _ refl

-- ---- calls and branches ----

out_same : (x y : ℕ) (u w : World) → AlikeBut u w → x ≡ y → AgreeOn handed u.values w.values → calls_out x u ≡ calls_out y w
out_same x y u w a e h =
    ap_two (λ p l. takes (answers_with answered (Call p l) u) u u.answers) e (map_agree handed u.values w.values h)
    ∙ same_world (λ v. takes (answers_with answered (Call y (map w.values handed)) v) v v.answers) (λ v. refl) u w a

out_takes : (lands : ℕ → Landing) (word : ℕ) (w : World) → Follows lands Onward answered (calls_out word w)
out_takes lands word w = takes_takes lands Onward answered _ w w.answers (λ a rest. refl)

served_same : (n : ℕ) (u w : World) → AlikeBut u w → AgreeOn (served ++ (sp ∷ [])) u.values w.values
    → takes (answers_with served (Sys n (map u.values (served ++ (sp ∷ [])))) u) u u.answers ≡ takes (answers_with served (Sys n (map w.values (served ++ (sp ∷ [])))) w) w w.answers
served_same n u w a h =
    ap (λ l. takes (answers_with served (Sys n l) u) u u.answers) (map_agree (served ++ (sp ∷ [])) u.values w.values h)
    ∙ same_world (λ v. takes (answers_with served (Sys n (map w.values (served ++ (sp ∷ [])))) v) v v.answers) (λ v. refl) u w a

out_left_same : (word : ℕ) (u w : World) → AlikeBut u w → AgreeOn registers_left u.values w.values → jumps (External word) u ≡ jumps (External word) w
out_left_same word u w a h =
    ap (λ l. ends (Left word l) u) (map_agree registers_left u.values w.values h) ∙ same_world (λ v. ends (Left word (map w.values registers_left)) v) (λ v. refl) u w a

jump_same : (t : Target) (reads : List ℕ) (u w : World) → AlikeBut u w → AgreeOn (jump_way reads (inside_of t)).reads u.values w.values → jumps t u ≡ jumps t w
jump_same (Inside p) reads u w a h = same_world (λ v. jumps (Inside p) v) (λ v. refl) u w a
jump_same (External word) reads u w a h = out_left_same word u w a (agree_back reads registers_left u.values w.values h)

jump_takes : (lands : ℕ → Landing) (t : Target) (reads : List ℕ) (w : World) → Takes lands (jumps t w) (jump_way reads (inside_of t))
jump_takes lands (Inside p) reads w = (refl, refl)
jump_takes lands (External word) reads w = tt

jump_reads : (t : Target) (reads : List ℕ) (u w : Values) → AgreeOn (jump_way reads (inside_of t)).reads u w → AgreeOn reads u w
jump_reads (Inside p) reads u w h = h
jump_reads (External word) reads u w h = agree_front reads registers_left u w h

call_same : (t : Target) (link : ℕ) (u w : World) → AlikeBut u w → AgreeOn (call_way (inside_of t)).reads u.values w.values → calls t link u ≡ calls t link w
call_same (Inside p) link u w a h = same_world (λ v. calls (Inside p) link v) (λ v. refl) u w a
call_same (External word) link u w a h = out_same word word u w a refl h

call_takes : (lands : ℕ → Landing) (t : Target) (link : ℕ) (w : World) → Takes lands (calls t link w) (call_way (inside_of t))
call_takes lands (Inside p) link w = (refl, refl)
call_takes lands (External word) link w = out_takes lands word w

-- a row: a condition depends on its flags
holds_same : (c : Condition) (u w : Values) → AgreeOn (condition_uses c) u w → holds c u ≡ holds c w
holds_same condition.Eq u w h = ap (λ x. x == 1) h.0
holds_same c u w h = grind arith

if_law : (around : Around) (c : Condition) (i : Instr) (u w : World) → AlikeBut u w → ((v : World) → act around i v ≡ (if holds c v.values then jumps around.target v else puts [] On v))
    → ways_of (inside_of around.target) i ≡ jump_way (condition_uses c) (inside_of around.target) ∷ way (condition_uses c) [] Onward ∷ [] → (b : Bool) → holds c u.values ≡ b → Taken around i u w
if_law around c i u w a acts ways true e =
    let eu : act around i u ≡ jumps around.target u = acts u ∙ ap (λ b. if b then jumps around.target u else puts [] On u) e in
    record {
      number = 0;
      taken = jump_way (condition_uses c) (inside_of around.target);
      is_way = ap (λ ws. slice_get ws 0) ways;
      same = λ h.
          let f : holds c w.values ≡ true = sym (holds_same c u.values w.values (jump_reads around.target (condition_uses c) u.values w.values h)) ∙ e in
          eu ∙ jump_same around.target (condition_uses c) u w a h ∙ sym (acts w ∙ ap (λ b. if b then jumps around.target w else puts [] On w) f);
      takes = subst (λ (x : Act). Takes around.lands x (jump_way (condition_uses c) (inside_of around.target))) (sym eu) (jump_takes around.lands around.target (condition_uses c) u);
    }
if_law around c i u w a acts ways false e =
    let eu : act around i u ≡ puts [] On u = acts u ∙ ap (λ b. if b then jumps around.target u else puts [] On u) e in
    record {
      number = 1;
      taken = way (condition_uses c) [] Onward;
      is_way = ap (λ ws. slice_get ws 1) ways;
      same = λ h.
          let f : holds c w.values ≡ false = sym (holds_same c u.values w.values h) ∙ e in
          eu ∙ puts_same [] [] On u w a refl ∙ sym (acts w ∙ ap (λ b. if b then jumps around.target w else puts [] On w) f);
      takes = subst (λ (x : Act). Takes around.lands x (way (condition_uses c) [] Onward)) (sym eu) refl;
    }

blx_law : (around : Around) (m : ℕ) (u w : World) → AlikeBut u w → (l : Landing) → around.lands (u.values m) ≡ l → (i : Instr) → ((v : World) → act around i v ≡ calls_by (around.lands (v.values m)) (v.values m) around.link v) → ways_of (inside_of around.target) i ≡ way (m ∷ []) (lr ∷ []) AnyPoint ∷ way (m ∷ handed) answered Onward ∷ [] → Taken around i u w
blx_law around m u w a (Goes p) e i acts ways =
    let eu : act around i u ≡ puts ((lr, around.link) ∷ []) (To p) u = acts u ∙ ap (λ l. calls_by l (u.values m) around.link u) e in
    record {
      number = 0;
      taken = way (m ∷ []) (lr ∷ []) AnyPoint;
      is_way = ap (λ ws. slice_get ws 0) ways;
      same = λ h.
          let ew : act around i w ≡ puts ((lr, around.link) ∷ []) (To p) w = acts w ∙ ap (λ l. calls_by l (w.values m) around.link w) (lands_same around (u.values m) (w.values m) (Goes p) e (h.0)) in
          eu ∙ puts_same _ _ (To p) u w a refl ∙ sym ew;
      takes = subst (λ (x : Act). Takes around.lands x (way (m ∷ []) (lr ∷ []) AnyPoint)) (sym eu) (u.values m, e, refl);
    }
blx_law around m u w a Leaves e i acts ways =
    let eu : act around i u ≡ calls_out (u.values m) u = acts u ∙ ap (λ l. calls_by l (u.values m) around.link u) e in
    record {
      number = 1;
      taken = way (m ∷ handed) answered Onward;
      is_way = ap (λ ws. slice_get ws 1) ways;
      same = λ h.
          let ew : act around i w ≡ calls_out (w.values m) w = acts w ∙ ap (λ l. calls_by l (w.values m) around.link w) (lands_same around (u.values m) (w.values m) Leaves e (h.0)) in
          eu ∙ out_same (u.values m) (w.values m) u w a h.0 h.1 ∙ sym ew;
      takes = subst (λ (x : Act). Takes around.lands x (way (m ∷ handed) answered Onward)) (sym eu) (out_takes around.lands (u.values m) u);
    }
blx_law around m u w a Strays e i acts ways =
    let eu : act around i u ≡ ends (Astray (u.values m)) u = acts u ∙ ap (λ l. calls_by l (u.values m) around.link u) e in
    record {
      number = 0;
      taken = way (m ∷ []) (lr ∷ []) AnyPoint;
      is_way = ap (λ ws. slice_get ws 0) ways;
      same = λ h.
          let ew : act around i w ≡ ends (Astray (w.values m)) w = acts w ∙ ap (λ l. calls_by l (w.values m) around.link w) (lands_same around (u.values m) (w.values m) Strays e (h.0)) in
          eu ∙ ends_same _ _ u w a (ap Astray (h.0)) ∙ sym ew;
      takes = subst (λ (x : Act). Takes around.lands x (way (m ∷ []) (lr ∷ []) AnyPoint)) (sym eu) tt;
    }

-- ---- POP ----

-- the listed items agree afterwards where those of them that get no value agreed before
left_agree : (os : List (ℕ × ℕ)) (base : ℕ) (ks : List ℕ) → keys os ≡ base ∷ ks → (u v : Values) (xs : List ℕ) → AgreeOn (filter (λ x. not (one_of x ks)) xs) u v → map (assigned os u) xs ≡ map (assigned os v) xs
left_agree os base ks e u v [] h = refl
left_agree os base ks e u v (x ∷ xs) h =
    elim (one_of x ks) as (λ b. one_of x ks ≡ b → AgreeOn (if not b then x ∷ filter (λ x. not (one_of x ks)) xs else filter (λ x. not (one_of x ks)) xs) u v → map (assigned os u) (x ∷ xs) ≡ map (assigned os v) (x ∷ xs)) [
      | true ↦ λ t g. ap_two (λ a (l : List ℕ). a ∷ l) (assigned_agree os u v x (λ none. absurd (let f : ((x == base) || one_of x ks) ≡ false = ap (one_of x) (sym e) ∙ none in or_not (x == base) (one_of x ks) t f))) (left_agree os base ks e u v xs g)
      | false ↦ λ t g. ap_two (λ a (l : List ℕ). a ∷ l) (assigned_agree os u v x (λ none. g.0)) (left_agree os base ks e u v xs g.1)
    ] refl h
  where
    or_not : (a b : Bool) → b ≡ true → (a || b) ≡ false → ⊥
    or_not true b e f = absurd (cc)
    or_not false b e f = absurd (cc)

-- POP with pc that leaves with these registers
abbrev leaving : ℕ → List ℕ → List ℕ → World → Act
leaving address xs registers w = aligned address 4 w (enough address (with_pc xs) w (popping address xs Over (Left (popped_word address xs w) registers ∷ []) w))

abbrev popped : ℕ → List ℕ → World → List (ℕ × ℕ)
popped address xs w = many_outputs sp (behind (with_pc xs) address) address xs w

pops_takes : (lands : ℕ → Landing) (l : Landing) (leads : Leads) (address : ℕ) (xs : List ℕ) (w : World) → Follows lands leads (sp ∷ xs) (pops_to l address xs w) → Follows lands leads (sp ∷ xs) (pops l address xs w)
pops_takes lands l leads address xs w h = aligned_takes lands leads (sp ∷ xs) address 4 w _ (enough_takes lands leads (sp ∷ xs) address (with_pc xs) w _ h)

popped_same : (xs : List ℕ) (x y : ℕ) (u w : World) → AlikeBut u w → x ≡ y → popped_word x xs u ≡ popped_word y xs w
popped_same xs x y u w a e = ap (λ p. popped_word p xs u) e ∙ same_world (λ v. popped_word y xs v) (λ v. refl) u w a

pops_law : (around : Around) (xs : List ℕ) (u w : World) → AlikeBut u w → (l : Landing) → around.lands (popped_word (u.values sp) xs u) ≡ l → (i : Instr) → ((v : World) → act around i v ≡ pops (around.lands (popped_word (v.values sp) xs v)) (v.values sp) xs v) → ways_of (inside_of around.target) i ≡ way (sp ∷ []) (sp ∷ xs) AnyPoint ∷ way (sp ∷ left_but xs) (sp ∷ xs) Out ∷ [] → Taken around i u w
pops_law around xs u w a (Goes p) e i acts ways =
    let eu : act around i u ≡ pops (Goes p) (u.values sp) xs u = acts u ∙ ap (λ l. pops l (u.values sp) xs u) e in
    record {
      number = 0;
      taken = way (sp ∷ []) (sp ∷ xs) AnyPoint;
      is_way = ap (λ ws. slice_get ws 0) ways;
      same = λ h.
          let ew : act around i w ≡ pops (Goes p) (w.values sp) xs w = acts w ∙ ap (λ l. pops l (w.values sp) xs w) (lands_same around _ _ (Goes p) e (popped_same xs (u.values sp) (w.values sp) u w a h.0)) in
          eu ∙ ap (λ x. pops (Goes p) x xs u) h.0 ∙ same_world (λ v. pops (Goes p) (w.values sp) xs v) (λ v. refl) u w a ∙ sym ew;
      takes = subst (λ (x : Act). Takes around.lands x (way (sp ∷ []) (sp ∷ xs) AnyPoint)) (sym eu) (pops_takes around.lands (Goes p) AnyPoint (u.values sp) xs u (popped_word (u.values sp) xs u, e, keys_many sp (behind (with_pc xs) (u.values sp)) (u.values sp) xs u));
    }
pops_law around xs u w a Leaves e i acts ways =
    let eu : act around i u ≡ leaving (u.values sp) xs (map (assigned (popped (u.values sp) xs u) u.values) registers_left) u = acts u ∙ ap (λ l. pops l (u.values sp) xs u) e in
    record {
      number = 1;
      taken = way (sp ∷ left_but xs) (sp ∷ xs) Out;
      is_way = ap (λ ws. slice_get ws 1) ways;
      same = λ h.
          let ew : act around i w ≡ leaving (w.values sp) xs (map (assigned (popped (w.values sp) xs w) w.values) registers_left) w = acts w ∙ ap (λ l. pops l (w.values sp) xs w) (lands_same around _ _ Leaves e (popped_same xs (u.values sp) (w.values sp) u w a h.0)) in
          let os : popped (u.values sp) xs u ≡ popped (w.values sp) xs w = ap (λ x. popped x xs u) h.0 ∙ same_world (λ v. popped (w.values sp) xs v) (λ v. refl) u w a in
          let list : map (assigned (popped (u.values sp) xs u) u.values) registers_left ≡ map (assigned (popped (w.values sp) xs w) w.values) registers_left =
          left_agree (popped (u.values sp) xs u) sp xs (keys_many sp (behind (with_pc xs) (u.values sp)) (u.values sp) xs u) u.values w.values registers_left h.1 ∙ ap (λ (o : List (ℕ × ℕ)). map (assigned o w.values) registers_left) os in
          eu ∙ ap_two (λ x l. leaving x xs l u) h.0 list ∙ same_world (λ v. leaving (w.values sp) xs (map (assigned (popped (w.values sp) xs w) w.values) registers_left) v) (λ v. refl) u w a ∙ sym ew;
      takes = subst (λ (x : Act). Takes around.lands x (way (sp ∷ left_but xs) (sp ∷ xs) Out)) (sym eu) (pops_takes around.lands Leaves Out (u.values sp) xs u tt);
    }
pops_law around xs u w a Strays e i acts ways =
    let eu : act around i u ≡ pops Strays (u.values sp) xs u = acts u ∙ ap (λ l. pops l (u.values sp) xs u) e in
    record {
      number = 0;
      taken = way (sp ∷ []) (sp ∷ xs) AnyPoint;
      is_way = ap (λ ws. slice_get ws 0) ways;
      same = λ h.
          let ew : act around i w ≡ pops Strays (w.values sp) xs w = acts w ∙ ap (λ l. pops l (w.values sp) xs w) (lands_same around _ _ Strays e (popped_same xs (u.values sp) (w.values sp) u w a h.0)) in
          eu ∙ ap (λ x. pops Strays x xs u) h.0 ∙ same_world (λ v. pops Strays (w.values sp) xs v) (λ v. refl) u w a ∙ sym ew;
      takes = subst (λ (x : Act). Takes around.lands x (way (sp ∷ []) (sp ∷ xs) AnyPoint)) (sym eu) (pops_takes around.lands Strays AnyPoint (u.values sp) xs u tt);
    }

pop_law : (around : Around) (l : Within 1 512) (u w : World) → AlikeBut u w → (b : Bool) → has l.number 8 ≡ b → Taken around (instr.Pop l) u w
pop_law around l u w a true e =
    pops_law around (registers_in l.number) u w a (around.lands (popped_word (u.values sp) (registers_in l.number) u)) refl (instr.Pop l)
    (λ v. ap (λ b. if b then pops (around.lands (popped_word (v.values sp) (registers_in l.number) v)) (v.values sp) (registers_in l.number) v else loads_many sp (v.values sp) (registers_in l.number) v) e)
    (ap (λ b. if b then way (sp ∷ []) (sp ∷ registers_in l.number) AnyPoint ∷ way (sp ∷ left_but (registers_in l.number)) (sp ∷ registers_in l.number) Out ∷ [] else way (sp ∷ []) (sp ∷ registers_in l.number) Onward ∷ []) e)
pop_law around l u w a false e =
    let acts : (v : World) → act around (instr.Pop l) v ≡ loads_many sp (v.values sp) (registers_in l.number) v =
    λ v. ap (λ b. if b then pops (around.lands (popped_word (v.values sp) (registers_in l.number) v)) (v.values sp) (registers_in l.number) v else loads_many sp (v.values sp) (registers_in l.number) v) e in
    straight around (instr.Pop l) u w
    (ap (λ b. if b then way (sp ∷ []) (sp ∷ registers_in l.number) AnyPoint ∷ way (sp ∷ left_but (registers_in l.number)) (sp ∷ registers_in l.number) Out ∷ [] else way (sp ∷ []) (sp ∷ registers_in l.number) Onward ∷ []) e)
    (λ h. acts u ∙ many_same sp (u.values sp) (w.values sp) (registers_in l.number) u w a h.0 ∙ sym (acts w))
    (subst (λ (x : Act). Takes around.lands x (way (sp ∷ []) (sp ∷ registers_in l.number) Onward)) (sym (acts u)) (many_takes around.lands sp (u.values sp) (registers_in l.number) u))

hint_same : (k : HintOperation) (u w : World) → AlikeBut u w → hints k u ≡ hints k w
hint_same hint.Nop u w a = same_world (λ v. hints hint.Nop v) (λ v. refl) u w a
hint_same k u w a = same_world (λ v. hints k v) (λ v. refl) u w a

hint_takes : (lands : ℕ → Landing) (k : HintOperation) (w : World) → Follows lands Onward [] (hints k w)
hint_takes lands hint.Nop w = refl
hint_takes lands k w = refl

-- a row: what an instruction puts depends on what it reads
outputs_same : (i : Instr) (u w : Values) → AgreeOn (uses_of i) u w → outputs i u ≡ outputs i w
outputs_same (instr.Two o d m) u w h = two_same o d.number m.number u w h
outputs_same (instr.TwoNumber o d i) u w h = byte_same o d.number i.number u w h
outputs_same i u w h = grind arith

-- a row: an instruction goes by one of its ways
pub law : (around : Around) (i : Instr) (u w : World) → AlikeBut u w → Taken around i u w
law around (instr.Bx m) u w a = bx_law around m.number u w a (around.lands (u.values m.number)) refl (instr.Bx m) (λ v. refl) refl
law around (instr.Blx m) u w a = blx_law around m.number u w a (around.lands (u.values m.number)) refl (instr.Blx m) (λ v. refl) refl
law around (instr.Literal t d) u w a = straight around (instr.Literal t d) u w refl (λ h. puts_same _ _ On u w a refl) refl
law around (instr.Indexed x t n m) u w a = straight around (instr.Indexed x t n m) u w refl (λ h. access_same x t.number _ _ u w a (ap_two offset h.0 h.1.0) h.1.1) (access_takes around.lands x t.number _ _ u)
law around (instr.Offset x t n i) u w a = straight around (instr.Offset x t n i) u w refl (λ h. access_same (offset_access x) t.number _ _ u w a (ap (λ b. offset b (access_size (offset_access x) * i.number)) h.0) h.1) (access_takes around.lands (offset_access x) t.number _ _ u)
law around (instr.Stack x t i) u w a = straight around (instr.Stack x t i) u w refl (λ h. access_same (word_access x) t.number _ _ u w a (ap (λ b. offset b (4 * i.number)) h.0) h.1) (access_takes around.lands (word_access x) t.number _ _ u)
law around (instr.Address d i) u w a = straight around (instr.Address d i) u w refl (λ h. puts_same _ _ On u w a refl) refl
law around (instr.Push l) u w a = straight around (instr.Push l) u w refl (λ h. stores_many_same sp (below (pushed l.number)) (below (pushed l.number)) (u.values sp) (w.values sp) _ _ u w a h.0 (map_agree (pushed l.number) u.values w.values h.1)) (stores_many_takes around.lands sp _ (below (pushed l.number) (u.values sp)) (map u.values (pushed l.number)) u)
law around (instr.Pop l) u w a = pop_law around l u w a (has l.number 8) refl
law around (instr.StoreMany s) u w a = straight around (instr.StoreMany s) u w refl (λ h. stores_many_same s.base.number (behind (registers_in s.list.number)) (λ x. x) (u.values s.base.number) (w.values s.base.number) _ _ u w a h.0 (map_agree (registers_in s.list.number) u.values w.values h.1)) (stores_many_takes around.lands s.base.number _ (u.values s.base.number) (map u.values (registers_in s.list.number)) u)
law around (instr.LoadMany n l) u w a = straight around (instr.LoadMany n l) u w refl (λ h. many_same n.number (u.values n.number) (w.values n.number) (registers_in l.number) u w a h.0) (many_takes around.lands n.number (u.values n.number) (registers_in l.number) u)
law around (instr.Breakpoint i) u w a = straight around (instr.Breakpoint i) u w refl (λ h. same_world (λ v. tells (Sys (256 + i.number) []) v) (λ v. refl) u w a) refl
law around (instr.Service i) u w a = straight around (instr.Service i) u w refl (λ h. served_same i.number u w a h) (takes_takes around.lands Onward served _ u u.answers (λ x rest. refl))
law around (instr.Hint k) u w a = straight around (instr.Hint k) u w refl (λ h. hint_same k u w a) (hint_takes around.lands k u)
law around (instr.ChangeState i) u w a = straight around (instr.ChangeState i) u w refl (λ h. same_world (λ v. tells (Sys (interrupts_code i) []) v) (λ v. refl) u w a) refl
law around (instr.BranchIf c d) u w a = if_law around c (instr.BranchIf c d) u w a (λ v. refl) refl (holds c u.values) refl
law around (instr.Branch d) u w a = record { number = 0; taken = jump_way [] (inside_of around.target); is_way = refl; same = λ h. jump_same around.target [] u w a h; takes = jump_takes around.lands around.target [] u }
law around (instr.Call d) u w a = record { number = 0; taken = call_way (inside_of around.target); is_way = refl; same = λ h. call_same around.target around.link u w a h; takes = call_takes around.lands around.target around.link u }
law around (instr.Barrier b) u w a = straight around (instr.Barrier b) u w refl (λ h. same_world (λ v. tells (Sys (barrier_code b) []) v) (λ v. refl) u w a) refl
law around (instr.ReadSpecial d s) u w a = straight around (instr.ReadSpecial d s) u w refl (λ h. same_world (λ v. takes (reads_special d.number (special_code s) v) v v.answers) (λ v. refl) u w a) (takes_takes around.lands Onward (d.number ∷ []) _ u u.answers (λ x rest. refl))
law around (instr.WriteMask m) u w a = straight around (instr.WriteMask m) u w refl (λ h. ap (λ x. tells (Sys 523 (x ∷ [])) u) h.0 ∙ same_world (λ v. tells (Sys 523 (w.values m.number ∷ [])) v) (λ v. refl) u w a) refl
law around (instr.Two o d m) u w a = puts_law around (instr.Two o d m) u w a (λ v. refl) refl (outputs_same (instr.Two o d m) u.values w.values) (two_keys o d.number (u.values d.number) (u.values m.number) (u.values c_flag))
law around (instr.TwoNumber o d i) u w a = puts_law around (instr.TwoNumber o d i) u w a (λ v. refl) refl (outputs_same (instr.TwoNumber o d i) u.values w.values) (byte_keys o d.number (u.values d.number) i.number)
law around i u w a = puts_law around i u w a (λ v. refl) refl (outputs_same i u.values w.values) refl
