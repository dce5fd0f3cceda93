use Rattle.std.proofs.Common.{◌≡◌, ◌++◌, List, ℕ, take, map}
use Rattle.std.specs.List.{flat_map}
use Rattle.rule_table.specs.Text.{named}
use Rattle.rule_table.specs.MaskView.{row_of}
use Rattle.rule_table.proofs.lines.write_items.Given as goal

abbrev pub invariant-loop-row : goal.invariant-loop-row
invariant-loop-row l = l.out.items ≡ l.initial.out.items ++ flat_map (λ (r : ℕ × List ℕ). named l.mask.items.bits r.0 r.1) (map row_of (take l.row-index l.list))
