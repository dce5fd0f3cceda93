-- How a listing runs under a naming: what the listing says at a place, and a step from there.
use Rattle.std.specs.Prelude.{ℕ, zero, suc, ◌+◌, ◌*◌, ◌/◌, ◌%◌, ◌^◌, ◌==◌, ◌&&◌, not, Bool, true, false, min, List, [], ◌∷◌, ◌++◌, Option, Some, None, slice_get, take, if◌then◌else◌}
use Rattle.std.specs.Str.{bytes_eq}
use Rattle.thumb_instr.specs.declared.instr.Instr.{Instr}
use Rattle.thumb_instr.specs.declared.instr.Instr.TheVariants as instr
use Rattle.thumb_model.specs.Effect.{assigned}
use Rattle.thumb_model.specs.Listing.{Name, Mention, Value, Number, OfName, Place, Op, Word, Label, Code, place_of, call_count}
use Rattle.thumb_model.specs.Naming.{Naming, is_odd, is_in_range, points}
use Rattle.thumb_model.specs.States.{Fell, Position, Here, Ended, State, Target, Inside, External, Landing, Goes, Leaves, Strays, Around, Continuation, On, Stay, To, Over, Act}
use Rattle.thumb_model.specs.Acts.{act}

-- ---- what a listing says at a place ----

-- the place of the label of that name, code or not
abbrev pub label_place : Name → List Label → Option ℕ
label_place name [] = None
label_place name (l ∷ ls) = if bytes_eq name l.name then Some l.place else label_place name ls

-- LDR (literal)
abbrev pub loads_literal : Instr → Bool
loads_literal (instr.Literal t d) = true
loads_literal i = false

-- the least place of a code point that has the word
abbrev pub least_or : ℕ → Option ℕ → Option ℕ
least_or p None = Some p
least_or p (Some q) = Some (min p q)

abbrev pub point_among : ℕ → List (ℕ × ℕ) → Option ℕ
point_among word [] = None
point_among word (p ∷ ps) = if word == p.0 then least_or p.1 (point_among word ps) else point_among word ps

-- a code point's word goes to its place, another odd word outside the range leaves, and any other strays
abbrev pub landing : Naming → ℕ → Option ℕ → Landing
landing names word (Some p) = Goes p
landing names word None = if is_odd word && not (is_in_range names word) then Leaves else Strays

-- the place of the code label that is mentioned
abbrev pub aim_of : Code → Option Mention → Option ℕ
aim_of code None = None
aim_of code (Some m) = place_of code m.name

abbrev pub set_bit : ℕ → ℕ
set_bit n = n / 2 * 2 + 1

-- the word of what is mentioned, with its number added
abbrev pub word_of_mention : Naming → Option Mention → ℕ
word_of_mention names None = 0
word_of_mention names (Some m) = (names.word_of m.name + m.plus) % 2 ^ 32

abbrev pub target_at : Naming → Option Mention → Option ℕ → Target
target_at names mention (Some p) = Inside p
target_at names mention None = External (set_bit (word_of_mention names mention))

-- the word of a data word: a number, or that of its name with a number added
abbrev pub word_of_value : Naming → Value → ℕ
word_of_value names (Number n) = n % 2 ^ 32
word_of_value names (OfName m) = (names.word_of m.name + m.plus) % 2 ^ 32

abbrev pub word_of_place : Naming → Option Place → ℕ
word_of_place names None = 0
word_of_place names (Some (Op i mention)) = 0
word_of_place names (Some (Word v)) = word_of_value names v

-- the word of the data word that lies so many bytes after a label
abbrev pub word_behind : Naming → List Place → ℕ → Option ℕ → ℕ
word_behind names places plus None = 0
word_behind names places plus (Some q) = word_of_place names (slice_get places (q + plus / 4))

abbrev pub literal_word : Naming → Code → Option Mention → ℕ
literal_word names code None = 0
literal_word names code (Some m) = word_behind names code.places m.plus (label_place m.name code.labels)

-- the value that a literal load gets from a data word, and ADR from its name
abbrev pub literal_at : Naming → Code → Instr → Option Mention → ℕ
literal_at names code i mention = if loads_literal i then literal_word names code mention else word_of_mention names mention

abbrev pub around_of : Naming → Code → ℕ → Instr → Option Mention → Around
around_of names code place i mention = record {
  target = target_at names mention (aim_of code mention);
  literal = literal_at names code i mention;
  link = names.return_word (call_count (take place code.places));
  lands = λ w. landing names w (point_among w (points names code));
}

-- ---- steps ----

-- the position after a step at `here`, where `following` is the next place
abbrev pub arrives : ℕ → ℕ → Continuation → Position
arrives here following On = Here following
arrives here following Stay = Here here
arrives here following (To p) = Here p
arrives here following Over = Ended

abbrev pub does : ℕ → ℕ → Act → State → State
does here following a s = record {
  world = record { values = assigned a.outputs s.world.values; memory = a.memory; answers = a.answers };
  at = arrives here following a.next;
  events = s.events ++ a.events;
}

-- a step where no instruction is
abbrev pub falls : State → State
falls s = record { world = s.world; at = Ended; events = s.events ++ (Fell ∷ []) }

abbrev pub step_on : Naming → Code → ℕ → Option Place → State → State
step_on names code place None s = falls s
step_on names code place (Some (Word v)) s = falls s
step_on names code place (Some (Op i mention)) s = does place (place + 1) (act (around_of names code place i mention) i s.world) s

abbrev pub step_at : Naming → Code → Position → State → State
step_at names code Ended s = s
step_at names code (Here place) s = step_on names code place (slice_get code.places place) s

abbrev pub step : Naming → Code → State → State
step names code s = step_at names code s.at s

-- a function applied n times
abbrev pub times : {A : Type 0} → (A → A) → ℕ → A → A
times f zero a = a
times f (suc n) a = times f n (f a)
