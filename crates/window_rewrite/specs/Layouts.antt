-- What is known of the lines while they are rewritten, and of their layouts.
use Rattle.std.specs.Prelude.{◌≡◌, ℕ, ◌-◌, ◌*◌, ◌%◌, ◌<◌, ◌≤◌, Bool, not, is_some, true, IfSome, List, length}
use Rattle.std.specs.List.{list_all}
use Rattle.thumb_instr.specs.declared.instr.Instr.{Instr}
use Rattle.thumb_instr.specs.Window.{is_in_window}
use Rattle.thumb_model.specs.Listing.{ListingLine}
use Rattle.thumb_model.specs.Layout.{Layable}
use Rattle.thumb_model.specs.Replaced.{replaced_lines, IsWindow}
use Rattle.listing_parser.specs.Parsing.{own_line}
use Rattle.steady_layout.specs.Steady.{IsSteady}
use Rattle.kept_layout.specs.Kept.{Lays, IsNear}
use Rattle.kept_layout.specs.Moves.{IsMoved}
use Rattle.kept_layout.specs.declared.shrinking.Move.{Move}
use Rattle.window_rewrite.specs.declared.finding.Rules.{Rules}
use Rattle.window_rewrite.specs.declared.known_layout.KnownLayout.{KnownLayout}

-- whether the layout needn't be asked
abbrev pub is_steady : KnownLayout → Bool
is_steady g = not (is_some g.kept)

-- the layout that is kept, if one is, is that of the lines from the base
abbrev pub HasLayout : ℕ → KnownLayout → List ListingLine → Type 0
HasLayout base g lines = IfSome g.kept (λ k. (k.base ≡ base) × Lays k lines)

-- the layout that is kept, if one is, is positioned at the place
abbrev pub StandsNear : KnownLayout → ℕ → Type 0
StandsNear g place = IfSome g.kept (λ k. IsNear k place)

-- m is how the layout that is kept, if one is, moves where a window at its position gives way to fewer instructions; where as many come, nothing moves
abbrev pub Moves : KnownLayout → List Instr → List Instr → Move → Type 0
Moves g window new m = length new < length window → IfSome g.kept (λ k. IsMoved k (2 * (length window - length new)) m.at.items m.by)

-- a window at the layout's position may give way to as many instructions or fewer: if a layout is kept, the lines left can be laid out, and it moves by m
pub record Allows (g : KnownLayout) (window new : List Instr) (m : Move) : Type 0 where
  pub lines : List ListingLine
  pub place : ℕ
  pub lays : IfSome g.kept (λ k. Lays k lines × Layable k.base (replaced_lines own_line place (length window) new lines))
  pub moved : Moves g window new m
  pub near : StandsNear g place
  pub is_window : IsWindow lines place window
  pub in_window : list_all is_in_window new ≡ true
  pub some : 0 < length window
  pub no_longer : length new ≤ length window

-- the lines can be laid out, and are steady, if the layout is; otherwise it has their layout
pub record AreOver (r : Rules) (g : KnownLayout) (lines : List ListingLine) : Type 0 where
  pub layable : Layable r.base lines
  pub aligned : is_steady g ≡ true → r.base % 4 ≡ 0
  pub steady : is_steady g ≡ true → IsSteady r.base lines
  pub layout : HasLayout r.base g lines

-- if b, the lines, and those that replacements make of them, can be laid out from the base
abbrev pub IsSteadyIf : ℕ → List ListingLine → Bool → Type 0
IsSteadyIf base lines b = b ≡ true → (base % 4 ≡ 0) × IsSteady base lines
