-- The forms that may follow a mnemonic, as lists of slots, with names for those that several kinds share.
use Rattle.std.specs.Prelude.{ℕ, List, [], ◌∷◌}
use Rattle.thumb_syntax.specs.declared.form.OperandPosition.TheVariants as position
use Rattle.thumb_syntax.specs.declared.form.Slot.{Slot}
use Rattle.thumb_syntax.specs.declared.form.Slot.TheVariants as slot

abbrev pub first : Slot
first = slot.Register position.First

abbrev pub second : Slot
second = slot.Register position.Second

abbrev pub third : Slot
third = slot.Register position.Third

-- one register that is both the first and the second
abbrev pub twice : Slot
twice = slot.Twice position.First position.Second

-- the first register once more
abbrev pub same : Slot
same = slot.Same position.First

abbrev pub comma : Slot
comma = slot.Mark 44

abbrev pub open' : Slot
open' = slot.Mark 91

abbrev pub close : Slot
close = slot.Mark 93

-- the forms
abbrev pub one : List Slot
one = first ∷ []

abbrev pub two : List Slot
two = first ∷ comma ∷ second ∷ []

-- `d, d, m` and `d, m, d`
abbrev pub same_first : List Slot
same_first = first ∷ comma ∷ same ∷ comma ∷ second ∷ []

abbrev pub same_last : List Slot
same_last = first ∷ comma ∷ second ∷ comma ∷ same ∷ []

abbrev pub three : List Slot
three = first ∷ comma ∷ second ∷ comma ∷ third ∷ []

abbrev pub twice_and_third : List Slot
twice_and_third = twice ∷ comma ∷ third ∷ []

abbrev pub amount : ℕ → ℕ → List Slot
amount least most = first ∷ comma ∷ second ∷ comma ∷ slot.Number position.Third least most 1 ∷ []

abbrev pub twice_amount : ℕ → ℕ → List Slot
twice_amount least most = twice ∷ comma ∷ slot.Number position.Third least most 1 ∷ []

abbrev pub byte_number : List Slot
byte_number = first ∷ comma ∷ slot.Number position.Second 0 255 1 ∷ []

abbrev pub same_and_byte : List Slot
same_and_byte = first ∷ comma ∷ same ∷ comma ∷ slot.Number position.Second 8 255 1 ∷ []

abbrev pub byte_alone : List Slot
byte_alone = slot.Number position.First 0 255 1 ∷ []

abbrev pub label : List Slot
label = slot.Label ∷ []

abbrev pub labelled : List Slot
labelled = first ∷ comma ∷ slot.LabelSum ∷ []

abbrev pub indexed : List Slot
indexed = first ∷ comma ∷ open' ∷ second ∷ comma ∷ third ∷ close ∷ []

abbrev pub with_offset : ℕ → ℕ → List Slot
with_offset most step = first ∷ comma ∷ open' ∷ second ∷ comma ∷ slot.Number position.Third 0 most step ∷ close ∷ []

abbrev pub without_offset : List Slot
without_offset = first ∷ comma ∷ open' ∷ second ∷ close ∷ []

abbrev pub from_sp : List Slot
from_sp = first ∷ comma ∷ open' ∷ slot.Sp ∷ comma ∷ slot.Number position.Second 0 1020 4 ∷ close ∷ []

abbrev pub at_sp : List Slot
at_sp = first ∷ comma ∷ open' ∷ slot.Sp ∷ close ∷ []

abbrev pub sp_again : List Slot
sp_again = slot.Sp ∷ comma ∷ slot.Sp ∷ comma ∷ slot.Number position.First 0 508 4 ∷ []

abbrev pub sp_alone : List Slot
sp_alone = slot.Sp ∷ comma ∷ slot.Number position.First 0 508 4 ∷ []

abbrev pub written_back : List Slot
written_back = slot.Base position.First ∷ comma ∷ slot.LowList position.Second ∷ []

-- a base that isn't in the list, and one that is
abbrev pub load_apart : List Slot
load_apart = slot.Base position.First ∷ comma ∷ slot.LowList position.Second ∷ slot.NotInList position.First position.Second ∷ []

abbrev pub load_within : List Slot
load_within = first ∷ comma ∷ slot.LowList position.Second ∷ slot.InList position.First position.Second ∷ []
