use Rattle.std.proofs.Common.{◌≡◌, ◌∙◌, ◌++◌, ℕ, List, true, false, sym, ap}
use Rattle.std.proofs.lemmas.Bool.{false≢true}
use Rattle.thumb_instr.specs.declared.kind.Parts.{Parts}
use Rattle.thumb_instr.specs.declared.role.Role.{Role}
use Rattle.thumb_instr.specs.Window.{Low, named_by}
use Rattle.seq_enum.specs.Places.{rank}
use Rattle.rule_table.specs.Binding.{number_under}
use Rattle.rule_table.proofs.BindingLemmas.{binds_then, clashes_then, bound_at}
use Rattle.rule_table.proofs.KindLemmas.{AreOfKind, same_kind, instr_bound, kinds_clash, own_low, others_low}
use Rattle.rule_table.proofs.binding.Binding.bind_instr.Goals.{After-roles-roles}
use Rattle.rule_table.proofs.binding.Binding.bind_instr.Goals as goal

-- the parts of the two instructions, which are of one kind
of_kind : (c : After-roles-roles) → AreOfKind c.args.left.now c.args.other.now c.parts-own.result c.parts-others.result c.roles-roles.result
of_kind c = record {
  own = c.parts-own.ensures;
  others = c.parts-others.ensures;
  kinds = same_kind c.args.left.now _ _ c.requires.left (ap (λ (p : Parts). p.kind) c.parts-own.ensures) (c.same_kind.ensures.0 c.if-not-same_kind.false);
  roles = c.roles-roles.ensures;
  window = c.requires.left;
}

-- what is asked of one operand
abbrev Field : Role → ℕ → ℕ → List Low → Type 0
Field role own other registers = number_under registers role own ≡ other

pub returns-then-not-same_kind : goal.returns-then-not-same_kind
returns-then-not-same_kind c =
    kinds_clash c.args.self.now c.args.left.now c.args.other.now c.requires.left
    (λ e. (let kinds = ap (λ (p : Parts). p.kind) c.parts-own.ensures ∙ e ∙ sym (ap (λ (p : Parts). p.kind) c.parts-others.ensures) in false≢true (sym c.if-not-same_kind.true ∙ c.same_kind.ensures.1 (ap rank kinds))))

pub bind_role-requires-clause-own : goal.bind_role-requires-clause-own
bind_role-requires-clause-own c = (own_low _ _ _ _ _ (of_kind (goal.at.bind_role-requires-clause-own c).After-roles-roles)).0

pub bind_role-requires-clause-other : goal.bind_role-requires-clause-other
bind_role-requires-clause-other c = (others_low _ _ _ _ _ (of_kind (goal.at.bind_role-requires-clause-other c).After-roles-roles) c.requires.other).0

pub bind_role-requires-2-clause-own : goal.bind_role-requires-2-clause-own
bind_role-requires-2-clause-own c = (own_low _ _ _ _ _ (of_kind (goal.at.bind_role-requires-2-clause-own c).After-roles-roles)).1

pub bind_role-requires-2-clause-other : goal.bind_role-requires-2-clause-other
bind_role-requires-2-clause-other c = (others_low _ _ _ _ _ (of_kind (goal.at.bind_role-requires-2-clause-other c).After-roles-roles) c.requires.other).1

pub bind_role-requires-3-clause-own : goal.bind_role-requires-3-clause-own
bind_role-requires-3-clause-own c = (own_low _ _ _ _ _ (of_kind (goal.at.bind_role-requires-3-clause-own c).After-roles-roles)).2

pub bind_role-requires-3-clause-other : goal.bind_role-requires-3-clause-other
bind_role-requires-3-clause-other c = (others_low _ _ _ _ _ (of_kind (goal.at.bind_role-requires-3-clause-other c).After-roles-roles) c.requires.other).2

pub returns-then-not-bind_role : goal.returns-then-not-bind_role
returns-then-not-bind_role c =
    let own = c.parts-own.result in
    let other = c.parts-others.result in
    let roles = c.roles-roles.result in
    let old = c.args.self.now in
    let mid = c.bind_role.new.self in
    let first = Field roles.first own.first other.first in
    let rest : List Low → Type 0 = λ f. Field roles.second own.second other.second f × Field roles.third own.third other.third f in
    let firsts = named_by roles.first own.first in
    let rests = named_by roles.second own.second ++ named_by roles.third own.third in
    instr_bound old mid false c.args.left.now c.args.other.now own other roles (of_kind (goal.at.returns-then-not-bind_role c).After-roles-roles)
    (clashes_then old mid firsts rests first rest (bound_at old mid firsts first c.bind_role.result false c.if-not-bind_role.true c.bind_role.ensures))

pub returns-then-not-bind_role-2 : goal.returns-then-not-bind_role-2
returns-then-not-bind_role-2 c =
    let own = c.parts-own.result in
    let other = c.parts-others.result in
    let roles = c.roles-roles.result in
    let old = c.args.self.now in
    let mid = c.bind_role.new.self in
    let late = c.bind_role-2.new.self in
    let first = Field roles.first own.first other.first in
    let second = Field roles.second own.second other.second in
    let third = Field roles.third own.third other.third in
    let rest : List Low → Type 0 = λ f. second f × third f in
    let firsts = named_by roles.first own.first in
    let seconds = named_by roles.second own.second in
    let thirds = named_by roles.third own.third in
    instr_bound old late false c.args.left.now c.args.other.now own other roles (of_kind (goal.at.returns-then-not-bind_role-2 c).After-roles-roles)
    (binds_then old mid late firsts (seconds ++ thirds) first rest false (bound_at old mid firsts first c.bind_role.result true c.if-not-bind_role.false c.bind_role.ensures)
    (clashes_then mid late seconds thirds second third (bound_at mid late seconds second c.bind_role-2.result false c.if-not-bind_role-2.true c.bind_role-2.ensures)))

pub returns : goal.returns
returns c =
    let own = c.parts-own.result in
    let other = c.parts-others.result in
    let roles = c.roles-roles.result in
    let old = c.args.self.now in
    let mid = c.bind_role.new.self in
    let late = c.bind_role-2.new.self in
    let new = c.bind_role-3.new.self in
    let first = Field roles.first own.first other.first in
    let second = Field roles.second own.second other.second in
    let third = Field roles.third own.third other.third in
    let rest : List Low → Type 0 = λ f. second f × third f in
    let firsts = named_by roles.first own.first in
    let seconds = named_by roles.second own.second in
    let thirds = named_by roles.third own.third in
    let b = c.bind_role-3.result in
    instr_bound old new b c.args.left.now c.args.other.now own other roles (of_kind (goal.at.returns c).After-roles-roles)
    (binds_then old mid new firsts (seconds ++ thirds) first rest b (bound_at old mid firsts first c.bind_role.result true c.if-not-bind_role.false c.bind_role.ensures)
    (binds_then mid late new seconds thirds second third b (bound_at mid late seconds second c.bind_role-2.result true c.if-not-bind_role-2.false c.bind_role-2.ensures) c.bind_role-3.ensures))
