-- One level of clap's walk: a command with positional words and options, as clap builds it.
use Rattle.std.proofs.Common.{◌≡◌, ◌++◌, ◌||◌, ℕ, Bool, true, false, List, [], ◌∷◌, Option, Some, None, refl, ap, cond, true≢false}
use Rattle.std.specs.Str.{bytes_eq}
use Rattle.clap.specs.Words.{Rule, Text, Row, Shape, new_app}
use Rattle.clap.specs.Walk.{Held, Waiting, Walk, at_row, has_row}
use Rattle.clap.specs.Kinds.{Kinds, or_else}
use Rattle.clap.specs.declared.builder.ArgAction.TheVariants.{Set}
use Rattle.clap.specs.declared.builder.value_parser.ValueParser.TheVariants as vp
use Rattle.command_line.specs.App.{positional, option as option_arg}

-- an argument as clap builds it
abbrev pub word_rule : ℕ → Text → Rule
word_rule i id = record (positional id) { index = Some i; action = Some Set; range = Some (record { start_inclusive = 1; end_inclusive = 1 }); parser = Some vp.String }

abbrev pub option_rule : Text → Rule
option_rule id = record (option_arg id) { action = Some Set; range = Some (record { start_inclusive = 1; end_inclusive = 1 }); parser = Some vp.String }

-- a built command without subcommands
abbrev pub leaf : Text → List Rule → Shape
leaf name rules = record (new_app name).top { rules = rules; is_built = true; no_binary_name = true; disable_help_flag = true; disable_help_subcommand = true }

pub or_else_nil : (k : Kinds) → or_else k [] ≡ k
or_else_nil [] = refl
or_else_nil (x ∷ xs) = refl

pub or_else_assoc : (a b c : Kinds) → or_else (or_else a b) c ≡ or_else a (or_else b c)
or_else_assoc [] b c = refl
or_else_assoc (x ∷ xs) b c = refl

abbrev pub held : List Row → Option (Text × List Text) → Held
held r p = record { rows = r; pending = p; skip = 0 }

-- the state of the walk between two words
abbrev pub between : List Row → Option (Text × List Text) → Waiting → ℕ → Bool → Walk
between r p w i t = record { held = held r p; waiting = w; position = i; is_trailing = t; stopped = None }

pub fresh : (id : Text) (change : Row → List Row) (missing rows : List Row) → has_row id rows ≡ false → at_row id change missing rows ≡ rows ++ missing
fresh id change missing [] none = refl
fresh id change missing (r ∷ rs) none = elim (bytes_eq r.id id) as (λ b. (b || has_row id rs) ≡ false → cond b (change r ++ rs) (r ∷ at_row id change missing rs) ≡ r ∷ rs ++ missing) [
  | true ↦ λ e. absurd (true≢false e)
  | false ↦ λ e. ap (λ ys. r ∷ ys) (fresh id change missing rs e)
] none
