use Rattle.std.proofs.Common.{◌≡◌, List, ℕ, Some, None, drop, map}
use Rattle.std.specs.Prelude.{if◌then◌else◌}
use Rattle.std.specs.Map.{lookup}
use Rattle.thumb_syntax.specs.Operands.{or_else}
use Rattle.thumb_model.specs.Layout.{is_among}
use Rattle.listing_parser.specs.TableWords.{is_key}
use Rattle.listing_parser.proofs.index.add_labels.Given as goal

abbrev pub invariant-loop-name : goal.invariant-loop-name
invariant-loop-name l = (q : List ℕ) →
    or_else (lookup (is_key q) l.labels.entries) (if is_among q (map (λ n. n.items) (drop l.name-index l.names)) then Some l.line else None)
    ≡ or_else (lookup (is_key q) l.initial.labels.entries) (if is_among q (map (λ n. n.items) l.names) then Some l.line else None)
