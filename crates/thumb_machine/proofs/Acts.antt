-- An act may be replaced by one that is equal at the world in question: so each arm of `act` proves its own.
use Rattle.std.proofs.Common.{◌≡◌, ℕ, ◌%◌, ◌==◌, true, false, List, [], ◌∷◌, drop, Result, Ok, Err, refl, sym, ap, ◌∙◌, subst}
use Rattle.thumb_instr.specs.declared.operation.Access.{Access}
use Rattle.thumb_instr.specs.declared.operation.Access.TheVariants as access
use Rattle.thumb_machine.specs.declared.answers.Answer.{Answer}
use Rattle.thumb_machine.specs.declared.world.World.{World}
use Rattle.thumb_machine.specs.declared.world.Continuation.{Continuation}
use Rattle.thumb_machine.specs.Accesses.{is_store}
use Rattle.thumb_machine.specs.declared.world.Continuation.TheVariants as next
use Rattle.thumb_machine.specs.Memory.{memory_of}
use Rattle.thumb_machine.specs.Outside.{answer_values, answers_of}
use Rattle.thumb_machine.specs.Acting.{world_of, Changed, Acted, Acts}
use Rattle.thumb_instr.specs.declared.instr.Instr.{Instr}
use Rattle.thumb_model.specs.States.{Act, Fault, On, all_at, answers_with, ends, takes, with_bytes}
use Rattle.thumb_model.specs.Accesses.{access_size, accesses, gets, is_device, loads, loads_many, stores, stores_many, value_at}
use Rattle.thumb_model.specs.Acts.{act}
use Rattle.thumb_model.specs.States as model

pub acts_by : {E : Type 0} (f g : model.World → Act) (old : World) (before : List Answer) (new : World) (left : List Answer) (r : Result Continuation E)
    → f (world_of old before) ≡ g (world_of old before) → Acts g old before new left r → Acts f old before new left r
acts_by f g old before new left (Ok n) e h = subst (λ (a : Act). Acted a old new left n) (sym e) h
acts_by f g old before new left (Err x) e h = h

-- ---- loads and stores ----

pub load_faults : (a : Access) (t address size : ℕ) (w : model.World) → size ≡ access_size a → (address % size == 0) ≡ false → loads a t address w ≡ ends (Fault address) w
load_faults a t address size w e h = rw (← e, h) refl

pub load_read : (a : Access) (t address size : ℕ) (w : model.World) → size ≡ access_size a → (address % size == 0) ≡ true → is_device address ≡ false
    → loads a t address w ≡ gets a t address (value_at w.memory address (access_size a)) w w.answers
load_read a t address size w e h d = rw (← e, h, d) refl

pub store_faults : (a : Access) (address size value : ℕ) (w : model.World) → size ≡ access_size a → (address % size == 0) ≡ false → stores a address value w ≡ ends (Fault address) w
store_faults a address size value w e h = rw (← e, h) refl

pub is_stored : (a : Access) (t address value : ℕ) (w : model.World) → is_store a ≡ true → accesses a t address value w ≡ stores a address value w
is_stored access.Str t address value w h = refl
is_stored access.Strh t address value w h = refl
is_stored access.Strb t address value w h = refl
is_stored a t address value w h = absurd (cc)

-- ---- answers ----

-- an answer's items and bytes were taken after an event
pub answer_taken : (xs : List ℕ) (e : model.Event) (old new : World) (before left : List Answer) (a : Answer) → before ≡ a ∷ drop 1 before → left ≡ drop 1 before
    → Changed (all_at xs (answer_values a)) (with_bytes a.bytes (memory_of old.memory)) (e ∷ []) old new
    → Acted (takes (answers_with xs e (world_of old before)) (world_of old before) (answers_of before)) old new left next.On
answer_taken xs e old new before left a first rest h =
    subst (λ (act : Act). Acted act old new left next.On) (sym (ap (λ (l : List Answer). takes (answers_with xs e (world_of old before)) (world_of old before) (answers_of l)) first))
    (record { changed = h; answers = ap answers_of rest; next = refl; ends = tt })

-- ---- lists ----

pub store_many_faults : (base back address : ℕ) (words : List ℕ) (w : model.World) → (address % 4 == 0) ≡ false → stores_many base back address words w ≡ ends (Fault address) w
store_many_faults base back address words w h = rw h refl

pub load_many_faults : (base address : ℕ) (xs : List ℕ) (w : model.World) → (address % 4 == 0) ≡ false → loads_many base address xs w ≡ ends (Fault address) w
load_many_faults base address xs w h = rw h refl

-- ---- rows ----

-- a change by the act f is one by the instruction's act, where the two are equal at the world
pub acts_row : {E : Type 0} (around : model.Around) (i j : Instr) (f : model.World → Act) (old : World) (before : List Answer) (new : World) (left : List Answer) (r : Result Continuation E)
    → i ≡ j → act around j (world_of old before) ≡ f (world_of old before) → Acts f old before new left r → Acts (act around i) old before new left r
acts_row around i j f old before new left r is e h = acts_by (act around i) f old before new left r (ap (λ (k : Instr). act around k (world_of old before)) is ∙ e) h

-- words are stored at the same address, and the same is written to the same base
pub same_stores : (b c k l a d : ℕ) (us vs : List ℕ) (w : model.World) → b ≡ c → k ≡ l → a ≡ d → us ≡ vs → stores_many b k a us w ≡ stores_many c l d vs w
same_stores b c k l a d us vs w p q r s =
    ap (λ x. stores_many x k a us w) p ∙ ap (λ x. stores_many c x a us w) q ∙ ap (λ x. stores_many c l x us w) r ∙ ap (λ (x : List ℕ). stores_many c l d x w) s
