-- For which fault a line is refused: the first that it has, in a fixed order.
use Rattle.std.specs.Prelude.{ℕ, ◌≡◌, ◌<◌, ◌≤◌, ◌⊎◌, true, false, All, Any, map, unsigned_abs}
use Rattle.clause_model.specs.Clauses.{negated, Stop, dead, unfit, no_conflict, StopsAs}
use Rattle.lrat_check.specs.declared.fault.LineFault.{LineFault}
use Rattle.lrat_check.specs.declared.fault.LineFault.TheVariants.{Order, Rat, Dead, Hint as Unfit, NoConflict}
use Rattle.lrat_check.specs.Numbers.{is_negative}
use Rattle.lrat_check.specs.Text.{Content, addition, deletion, DeadAt}
use Rattle.lrat_check.specs.Checking.{State, live_at}

abbrev pub fault_of : Stop → LineFault
fault_of (dead n) = Dead n
fault_of (unfit n) = Unfit n
fault_of no_conflict = NoConflict

-- The causes in their order; each but the first applies only where those before it don't.
abbrev pub IsFaultOf : State → Content → LineFault → Type 0
IsFaultOf old (addition id literals hints) fault =
    ((id ≤ old.last) × (fault ≡ Order))
    ⊎ ((old.last < id) × Any (λ h. is_negative h ≡ true) hints × (fault ≡ Rat))
    ⊎ ((old.last < id) × All (λ h. is_negative h ≡ false) hints
    × ((stop : Stop) × StopsAs (live_at old) (map negated literals) (map unsigned_abs hints) 1 stop × (fault ≡ fault_of stop)))
IsFaultOf old (deletion id ids) fault = (place : ℕ) × DeadAt (live_at old) ids 1 place × (fault ≡ Dead place)
