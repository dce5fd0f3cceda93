use Rattle.std.proofs.Common.{◌≡◌, List, true, false, map, sym}
use Rattle.thumb_instr.specs.Window.{normal_of, Low, named, renamed}
use Rattle.rule_table.specs.Matching.{registers_in}
use Rattle.rule_table.proofs.BindingLemmas.{binds_then, clashes_then, bound_at}
use Rattle.rule_table.proofs.KindLemmas.{all_bound}
use Rattle.rule_table.proofs.binding.Binding.«+bind_all».Goals as goal

pub returns-then-bind_instr : goal.returns-then-bind_instr
returns-then-bind_instr t c =
    let i = c.in-Some.first.now in
    let is = c.in-Some.left.now in
    let js = c.in-Some-split_first.window.now in
    let j = c.normal.result in
    let old = c.args.self.now in
    let mid = c.bind_instr.new.self in
    let new = c.bind_all.new.self in
    let b = c.bind_all.result in
    let first : List Low → Type 0 = λ f. renamed f i ≡ j in
    let rest : List Low → Type 0 = λ f. map (renamed f) is ≡ map normal_of js in
    all_bound old new b i j c.in-Some-split_first.other.now is js c.args.left.now c.args.window.now c.in-Some.ensures.cases.0 c.in-Some-split_first.ensures.cases.0 c.normal.ensures
    (binds_then old mid new (named i) (registers_in is) first rest b (bound_at old mid (named i) first c.bind_instr.result true c.if-bind_instr.true c.bind_instr.ensures) c.bind_all.ensures)

pub returns-else-bind_instr : goal.returns-else-bind_instr
returns-else-bind_instr t c =
    let i = c.in-Some.first.now in
    let is = c.in-Some.left.now in
    let js = c.in-Some-split_first.window.now in
    let j = c.normal.result in
    let old = c.args.self.now in
    let mid = c.bind_instr.new.self in
    let first : List Low → Type 0 = λ f. renamed f i ≡ j in
    let rest : List Low → Type 0 = λ f. map (renamed f) is ≡ map normal_of js in
    let all : List Low → Type 0 = λ f. map (renamed f) c.args.left.now ≡ map normal_of c.args.window.now in
    let failed = bound_at old mid (named i) first c.bind_instr.result false c.if-bind_instr.false c.bind_instr.ensures in
    bound_at old mid (registers_in c.args.left.now) all false c.bind_instr.result (sym c.if-bind_instr.false)
    (all_bound old mid false i j c.in-Some-split_first.other.now is js c.args.left.now c.args.window.now c.in-Some.ensures.cases.0 c.in-Some-split_first.ensures.cases.0 c.normal.ensures
    (clashes_then old mid (named i) (registers_in is) first rest failed))
