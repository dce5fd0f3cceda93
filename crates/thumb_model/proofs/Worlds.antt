-- A step leaves each number in its range.
use Rattle.std.proofs.Common.{ℕ, ◌+◌, ◌/◌, ◌<◌, ◌^◌, List, take, Option, Some, None, true, false, if◌then◌else◌, arith}
use Rattle.std.specs.Prelude.{slice_get}
use Rattle.thumb_instr.specs.declared.instr.Instr.{Instr}
use Rattle.thumb_model.specs.Listing.{Mention, Value, Number, OfName, Place, Op, Word, Code, call_count}
use Rattle.thumb_model.specs.Naming.{Naming}
use Rattle.thumb_model.specs.States.{IsWorld, Around, Position, Here, Ended, State}
use Rattle.thumb_model.specs.Acts.{act}
use Rattle.thumb_model.specs.Steps.{around_of, word_of_mention, word_of_value, word_of_place, word_behind, literal_word, loads_literal, literal_at, label_place, step_on, step_at, step}
use Rattle.thumb_model.proofs.Held.{AreAroundWords, held_of, act_safe, world_after}

mention_small : (names : Naming) (mention : Option Mention) → word_of_mention names mention < 2 ^ 32
mention_small names None = omega arith
mention_small names (Some m) = omega arith

value_small : (names : Naming) (v : Value) → word_of_value names v < 2 ^ 32
value_small names (Number n) = omega arith
value_small names (OfName m) = omega arith

place_small : (names : Naming) (o : Option Place) → word_of_place names o < 2 ^ 32
place_small names None = omega arith
place_small names (Some (Op i mention)) = omega arith
place_small names (Some (Word v)) = value_small names v

behind_small : (names : Naming) (places : List Place) (plus : ℕ) (o : Option ℕ) → word_behind names places plus o < 2 ^ 32
behind_small names places plus None = omega arith
behind_small names places plus (Some q) = place_small names (slice_get places (q + plus / 4))

word_small : (names : Naming) (code : Code) (mention : Option Mention) → literal_word names code mention < 2 ^ 32
word_small names code None = omega arith
word_small names code (Some m) = behind_small names code.places m.plus (label_place m.name code.labels)

literal_small : (names : Naming) (code : Code) (i : Instr) (mention : Option Mention) → literal_at names code i mention < 2 ^ 32
literal_small names code i mention = elim (loads_literal i) as (λ b. (if b then literal_word names code mention else word_of_mention names mention) < 2 ^ 32) [ true ↦ word_small names code mention | false ↦ mention_small names mention ]

-- what a naming supplies to a place are words, where its return points have words
pub around_words : (names : Naming) (small : (k : ℕ) → names.return_word k < 2 ^ 32) (code : Code) (p : ℕ) (i : Instr) (mention : Option Mention) → AreAroundWords (around_of names code p i mention)
around_words names small code p i mention = record { literal = literal_small names code i mention; link = small (call_count (take p code.places)) }

step_on_keeps : (names : Naming) (small : (k : ℕ) → names.return_word k < 2 ^ 32) (code : Code) (p : ℕ) (o : Option Place) (s : State) → IsWorld s.world → IsWorld (step_on names code p o s).world
step_on_keeps names small code p None s h = h
step_on_keeps names small code p (Some (Word v)) s h = h
step_on_keeps names small code p (Some (Op i mention)) s h =
    let around : Around = around_of names code p i mention in
    world_after (act around i s.world) s.world.values (act_safe around i s.world (around_words names small code p i mention) h) (held_of s.world h)

step_at_keeps : (names : Naming) (small : (k : ℕ) → names.return_word k < 2 ^ 32) (code : Code) (a : Position) (s : State) → IsWorld s.world → IsWorld (step_at names code a s).world
step_at_keeps names small code Ended s h = h
step_at_keeps names small code (Here p) s h = step_on_keeps names small code p (slice_get code.places p) s h

-- a step keeps each number of a world in its range
pub step_keeps : (names : Naming) (small : (k : ℕ) → names.return_word k < 2 ^ 32) (code : Code) (s : State) → IsWorld s.world → IsWorld (step names code s).world
step_keeps names small code s h = step_at_keeps names small code s.at s h
