use Rattle.std.proofs.Common.{◌≡◌, ℕ, ◌<◌, ◌^◌, List, [], ◌∷◌}
use Rattle.std.specs.Prelude.{decimal}
use Rattle.std.specs.List.{All}
use Rattle.std.proofs.lemmas.List.Elements.{All-head, All-tail}
use Rattle.lrat_check.specs.Reading.{all_now}
use Rattle.rule_table.proofs.tails.raised_of.Goals as goal

-- two equal lists of words have the same words after the first
later : (v w : List ℕ) (vs ws words : List (List ℕ)) → v ∷ vs ≡ words → w ∷ ws ≡ words → vs ≡ ws
later v w vs ws words e f = cc

abbrev IsSmall : ℕ → Type 0
IsSmall n = n < 2 ^ 32

all_small : (entry number low high : ℕ) → All IsSmall (entry ∷ number ∷ low ∷ high ∷ []) → IsSmall entry × IsSmall number × IsSmall low × IsSmall high
all_small entry number low high all =
    let two = All-tail IsSmall entry (number ∷ low ∷ high ∷ []) all in
    let three = All-tail IsSmall number (low ∷ high ∷ []) two in (
      All-head IsSmall entry (number ∷ low ∷ high ∷ []) all,
      All-head IsSmall number (low ∷ high ∷ []) two,
      All-head IsSmall low (high ∷ []) three,
      All-head IsSmall high [] (All-tail IsSmall low (high ∷ []) three),
    )

pub returns-in_default : goal.returns-in_default
returns-in_default c = λ entry number low high all e. c.in_default.ensures entry (number ∷ low ∷ high ∷ []) (all_small entry number low high all).0 e

pub returns-in_default-first_number : goal.returns-in_default-first_number
returns-in_default-first_number c = λ entry number low high all e.
    let one = later (decimal entry) (decimal c.in-Some.entry) (decimal number ∷ decimal low ∷ decimal high ∷ []) (all_now c.in-Some.rest.now) (all_now c.args.words.now) e c.in-Some.ensures in
    c.in_default-first_number.ensures number (low ∷ high ∷ []) (all_small entry number low high all).1 one

pub returns-in_default-first_number-2 : goal.returns-in_default-first_number-2
returns-in_default-first_number-2 c = λ entry number low high all e.
    let one = later (decimal entry) (decimal c.in-Some.entry) (decimal number ∷ decimal low ∷ decimal high ∷ []) (all_now c.in-Some.rest.now) (all_now c.args.words.now) e c.in-Some.ensures in
    let two = later (decimal number) (decimal c.in-Some-first_number.number) (decimal low ∷ decimal high ∷ []) (all_now c.in-Some-first_number.rest.now) (all_now c.in-Some.rest.now) one c.in-Some-first_number.ensures in
    c.in_default-first_number-2.ensures low (high ∷ []) (all_small entry number low high all).2 two

pub returns-in_default-first_number-3 : goal.returns-in_default-first_number-3
returns-in_default-first_number-3 c = λ entry number low high all e.
    let one = later (decimal entry) (decimal c.in-Some.entry) (decimal number ∷ decimal low ∷ decimal high ∷ []) (all_now c.in-Some.rest.now) (all_now c.args.words.now) e c.in-Some.ensures in
    let two = later (decimal number) (decimal c.in-Some-first_number.number) (decimal low ∷ decimal high ∷ []) (all_now c.in-Some-first_number.rest.now) (all_now c.in-Some.rest.now) one c.in-Some-first_number.ensures in
    let three = later (decimal low) (decimal c.in-Some-first_number-2.low) (decimal high ∷ []) (all_now c.in-Some-first_number-2.rest.now) (all_now c.in-Some-first_number.rest.now) two c.in-Some-first_number-2.ensures in
    c.in_default-first_number-3.ensures high [] (all_small entry number low high all).3 three
