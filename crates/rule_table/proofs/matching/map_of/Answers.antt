use Rattle.std.proofs.Common.{◌≡◌, ◌∙◌, List, true, false, map}
use Rattle.thumb_instr.specs.Window.{normal_of, Low, renamed}
use Rattle.rule_table.specs.Matching.{registers_in}
use Rattle.rule_table.proofs.BindingLemmas.{bound_at}
use Rattle.rule_table.proofs.FoundLemmas.{found, none_found}
use Rattle.rule_table.proofs.matching.map_of.Goals as goal

pub returns-then-bind_all : goal.returns-then-bind_all
returns-then-bind_all c =
    let left = c.args.left.now in
    let normal = map normal_of c.args.window.now in
    let nothing = c.new-binding.result in
    let given = c.bind_all.new.self in
    let all : List Low → Type 0 = λ f. map (renamed f) left ≡ normal in
    let taken = c.map.ensures.one_to_one in
    let is = found left normal nothing given taken.0 c.new-binding.ensures c.map.ensures.all taken.1 (bound_at nothing given (registers_in left) all c.bind_all.result true c.if-bind_all.true c.bind_all.ensures) in
    (is.0, is.1, c.map.ensures.is ∙ is.2)

pub returns-else-bind_all : goal.returns-else-bind_all
returns-else-bind_all c =
    let left = c.args.left.now in
    let normal = map normal_of c.args.window.now in
    let nothing = c.new-binding.result in
    let all : List Low → Type 0 = λ f. map (renamed f) left ≡ normal in
    none_found left normal nothing c.new-binding.ensures (bound_at nothing c.bind_all.new.self (registers_in left) all c.bind_all.result false c.if-bind_all.false c.bind_all.ensures)
