-- Which refusals of a listing are right: those by its first line that can't be laid out, with that line's fault.
use Rattle.std.specs.Prelude.{ℕ, List, Option, ◌≡◌, Some}
use Rattle.thumb_model.specs.Listing.{ListingLine}
use Rattle.thumb_model.specs.Layout.{Fault, lies_in, faults_from, Range, Align}
use Rattle.label_layout.specs.declared.errors.LayoutFault.{LayoutFault}
use Rattle.label_layout.specs.declared.errors.LayoutFault.TheVariants as kind
use Rattle.label_layout.specs.declared.errors.LayoutError.{LayoutError}
use Rattle.label_layout.specs.declared.errors.LayoutError.TheVariants as error

-- The first line that cannot be laid out.

-- the first line with a fault, by its number from 1
abbrev pub first_fault : ℕ → List ListingLine → Option (ℕ × Fault)
first_fault base lines = faults_from (lies_in base lines) 1 base lines

-- When lines are refused.

-- the code's fault as the model's
abbrev pub fault_of : LayoutFault → Fault
fault_of (kind.Range distance) = Range distance
fault_of (kind.Align address) = Align address

abbrev pub numbered : ℕ × LayoutFault → ℕ × Fault
numbered found = (found.0, fault_of found.1)

-- a line is refused exactly where it is the first with a fault, and by that fault; want of memory is always allowed
abbrev pub IsRefusal : ℕ → List ListingLine → LayoutError → Type 0
IsRefusal base lines (error.Line number k) = first_fault base lines ≡ Some (number, fault_of k)
IsRefusal base lines error.Memory = Unit {0}
