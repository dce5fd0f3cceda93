-- The state of the reader in the code, as a stage of the grammar.
use Rattle.std.specs.Prelude.{Bool, true, false, Option, Some, None}
use Rattle.rule_table.specs.declared.draft.Draft.{Draft}
use Rattle.rule_table.specs.declared.draft.Part.{Part}
use Rattle.rule_table.specs.declared.draft.Part.TheVariants as part
use Rattle.rule_table.specs.Grammar.{Stage, Heading, Stated, Sided, Masked, Proved, Opening, Raising, Shown, Done}
use Rattle.rule_table.specs.Table.{Opened, Rule, Family, Table}
use Rattle.rule_table.specs.Views.{table_of, rule_of, opened_of, family_of}

-- the stage of a draft: of its table, its rule, its last open number and its family those that the part has
abbrev pub stage_at : Part → Table → Rule → Opened → Family → Stage
stage_at (part.Heading due) t r o f = Heading t.header due.now
stage_at part.Stated t r o f = Stated t
stage_at part.Sided t r o f = Sided t r.left r.right
stage_at part.Masked t r o f = Masked t r.left r.right r.mask
stage_at part.Proved t r o f = Proved t r
stage_at part.Opening t r o f = Opening t r o
stage_at part.Raising t r o f = Raising t f
stage_at part.Shown t r o f = Shown t f
stage_at part.Done t r o f = Done t

abbrev pub stage_of : Draft → Stage
stage_of d = stage_at d.part (table_of d.table) (rule_of d.entry) (opened_of d.last) (family_of d.family)

-- what a line leads to, where it may follow
abbrev pub goes : {A : Type 0} → Bool → A → Option A
goes true s = Some s
goes false s = None
