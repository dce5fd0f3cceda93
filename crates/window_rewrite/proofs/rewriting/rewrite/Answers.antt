use Rattle.std.proofs.Common.{◌≡◌, ◌∙◌, ◌≤◌, ◌+◌, ℕ, Option, List, length, map, ap, subst, sym}
use Rattle.rule_model.specs.Rules.{Rule}
use Rattle.rule_model.specs.Rewriting.{AreRewritten}
use Rattle.rule_model.proofs.LinesKept.{lines_same}
use Rattle.rule_table.specs.declared.header.Field.TheVariants.{Left}
use Rattle.rule_table.specs.declared.table.Entry.{Entry}
use Rattle.rule_table.specs.declared.table.Family.{Family}
use Rattle.rule_table.specs.declared.table.Table.{Table}
use Rattle.rule_table.specs.Views.{family_of, rule_of, table_of}
use Rattle.table_audit.specs.Soundness.{numbers_in, numbers_of}
use Rattle.window_rewrite.specs.TableRewriting.{setting, setting_by, replacement_of, rewriting_cost}
use Rattle.window_rewrite.specs.Rules.{AreFit, AreRaised}
use Rattle.window_rewrite.proofs.Accepted.{are_fit, are_raised}
use Rattle.window_rewrite.proofs.Joined.{sides_many}
use Rattle.window_rewrite.proofs.rewriting.rewrite.Goals as goal

-- the rules of slices that are a table's are the table's
numbers_same : (t : Table) (es : List Entry) (fs : List Family) → es ≡ t.entries.items → fs ≡ t.families.items → numbers_in (map rule_of es) (map family_of fs) ≡ numbers_of (table_of t)
numbers_same t es fs e f = ap (λ (x : List Entry). numbers_in (map rule_of x) (map family_of fs)) e ∙ ap (λ (x : List Family). numbers_in (map rule_of t.entries.items) (map family_of x)) f

pub rewritten-requires-clause-ready : goal.rewritten-requires-clause-ready
rewritten-requires-clause-ready g c =
    let table = c.table-accepted.ensures in
    let own : Table = c.args.table.now in
    let same : c.table-accepted.result.now ≡ own = table.value in
    let es : c.as_slice-entries.result.now ≡ own.entries.items = c.as_slice-entries.ensures.value ∙ ap (λ (t : Table). t.entries.items) same in
    let fs : c.as_slice-families.result.now ≡ own.families.items = c.as_slice-families.ensures.value ∙ ap (λ (t : Table). t.families.items) same in
    let numbers = numbers_same own c.as_slice-entries.result.now c.as_slice-families.result.now es fs in
    let fit : AreFit own.left (numbers_in (map rule_of c.as_slice-entries.result.now) (map family_of c.as_slice-families.result.now)) =
    subst (λ (rs : List (List Rule)). AreFit own.left rs) (sym numbers) (are_fit (table_of own) table.accepted table.sound) in
    let raised : AreRaised (map rule_of c.as_slice-entries.result.now) (map family_of c.as_slice-families.result.now) =
    subst (λ (x : List Entry). AreRaised (map rule_of x) (map family_of c.as_slice-families.result.now)) (sym es)
    (subst (λ (x : List Family). AreRaised (map rule_of own.entries.items) (map family_of x)) (sym fs) (are_raised (table_of own) table.sound)) in
    record {
      few = subst (λ (t : Table). t.left ≤ 5) (sym same) (table.valid.header.numbers Left).1;
      fit = subst (λ (t : Table). AreFit t.left (numbers_in (map rule_of c.as_slice-entries.result.now) (map family_of c.as_slice-families.result.now))) (sym same) fit;
      raised = raised;
      index = c.in_ok-index.ensures;
    }

pub returns-clause-rewritten : goal.returns-clause-rewritten
returns-clause-rewritten g c =
    let own : Table = c.args.table.now in
    let same : c.table-accepted.result.now ≡ own = c.table-accepted.ensures.value in
    let es : c.as_slice-entries.result.now ≡ own.entries.items = c.as_slice-entries.ensures.value ∙ ap (λ (t : Table). t.entries.items) same in
    let fs : c.as_slice-families.result.now ≡ own.families.items = c.as_slice-families.ensures.value ∙ ap (λ (t : Table). t.families.items) same in
    let numbers = numbers_same own c.as_slice-entries.result.now c.as_slice-families.result.now es fs in
    let costs : c.table-accepted.result.now.costs ≡ own.costs = ap (λ (t : Table). t.costs) same in
    subst (λ (cs : Option (List ℕ)). AreRewritten (setting_by cs c.args.base (numbers_of (table_of own))) c.args.listing (map replacement_of c.in_ok-new.new.replacements.items) c.in_ok-new.new.listing) costs
    (subst (λ (rs : List (List Rule)). AreRewritten (setting_by c.table-accepted.result.now.costs c.args.base rs) c.args.listing (map replacement_of c.in_ok-new.new.replacements.items) c.in_ok-new.new.listing) numbers c.in_ok-new.ensures.rewritten)

pub returns-clause-cost : goal.returns-clause-cost
returns-clause-cost g c =
    let own : Table = c.args.table.now in
    let same : c.table-accepted.result.now ≡ own = c.table-accepted.ensures.value in
    let es : c.as_slice-entries.result.now ≡ own.entries.items = c.as_slice-entries.ensures.value ∙ ap (λ (t : Table). t.entries.items) same in
    let fs : c.as_slice-families.result.now ≡ own.families.items = c.as_slice-families.ensures.value ∙ ap (λ (t : Table). t.families.items) same in
    let numbers = numbers_same own c.as_slice-entries.result.now c.as_slice-families.result.now es fs in
    let many = sides_many (map rule_of c.as_slice-entries.result.now) (map family_of c.as_slice-families.result.now) ∙ ap (λ (rs : List (List Rule)). length rs) numbers in
    subst (λ n. c.rewritten.new.steps ≤ c.args.steps.now + rewriting_cost c.args.listing n (length c.in_ok-new.new.replacements.items)) many c.in_ok-new.ensures.cost

pub returns-clause-same : goal.returns-clause-same
returns-clause-same g c = λ literals.
    lines_same (setting c.args.base (table_of c.args.table.now)) c.args.listing (map replacement_of c.in_ok-new.new.replacements.items) c.in_ok-new.new.listing
    c.table-accepted.ensures.sound.sound literals (returns-clause-rewritten g c)
