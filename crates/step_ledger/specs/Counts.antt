-- How far a count rises, as the costs of calls are stated; it saturates at the greatest u64.
use Rattle.std.specs.Prelude.{ℕ, ◌+◌, ◌-◌, ◌^◌, ◌≤◌, min}

-- the count rises by n steps or more, or saturates
abbrev pub RisesByAtLeast : ℕ → ℕ → ℕ → Type 0
RisesByAtLeast before after n = min (before + n) (2 ^ 64 - 1) ≤ after

-- the count rises by exactly n steps, or saturates
abbrev pub RisesBy : ℕ → ℕ → ℕ → Type 0
RisesBy before after n = RisesByAtLeast before after n × (after ≤ before + n)
