-- Which fields of a solver the steps of a search change.
use Rattle.std.proofs.Common.{ℕ, ◌≡◌, ◌*◌, ◌∙◌, ap, refl, subst, sym}
use Rattle.cdcl_core.specs.declared.order.Order.{Order}
use Rattle.cdcl_core.specs.declared.solver.Solver.{Solver}

-- the fields that change while decisions are made
abbrev pub IsDecided : Solver → Solver → Type 0
IsDecided a b = b ≡ record a { arena = b.arena; trail = b.trail; reasons = b.reasons; order = b.order }

pub decided_on : (a b c : Solver) → IsDecided a b → IsDecided b c → IsDecided a c
decided_on a b c e f = f ∙ ap (λ (s : Solver). record s { arena = c.arena; trail = c.trail; reasons = c.reasons; order = c.order }) e

pub learnt_on : (a b c : Solver) (order : Order) → IsDecided a b → c ≡ record b { arena = c.arena; trail = c.trail; reasons = c.reasons; order = order } → IsDecided a c
learnt_on a b c order e f = subst (IsDecided a) (sym (f ∙ ap (λ (s : Solver). record s { arena = c.arena; trail = c.trail; reasons = c.reasons; order = order }) e)) refl

pub same_size : (a b : Solver) {n : ℕ} → IsDecided a b → n ≡ 2 * a.variables → n ≡ 2 * b.variables
same_size a b e f = f ∙ ap (λ (s : Solver). 2 * s.variables) (sym e)
