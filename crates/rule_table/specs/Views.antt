-- Tables, headers, entries and families of the code, as those of the definitions.
use Rattle.std.specs.Prelude.{ℕ, List, Option, map}
use Rattle.lrat_check.specs.Text.{content_of}
use Rattle.window_exec.specs.State.{seen}
use Rattle.rule_table.specs.declared.header.Header as heading
use Rattle.rule_table.specs.declared.header.LearnOptions as options
use Rattle.rule_table.specs.declared.header.NumberLine as line
use Rattle.rule_table.specs.declared.table.Open as opening
use Rattle.rule_table.specs.declared.table.Entry as entry
use Rattle.rule_table.specs.declared.table.Family as raised
use Rattle.rule_table.specs.declared.table.Table as code
use Rattle.rule_table.specs.Header.{Header, NumberLine, learnt_header}
use Rattle.rule_table.specs.Table.{Opened, Rule, Family, Table}

abbrev pub row_of : line.NumberLine → NumberLine
row_of r = record { word = r.word.now; least = r.least; greatest = r.greatest }

abbrev pub header_of : heading.Header → Header
header_of h = record { version = h.version; regs = h.regs; left = h.left; seed = h.seed; budget = h.budget; pool = h.pool; scratch = h.scratch; costs = h.costs }

-- the header of a table that is learnt with these options and costs
abbrev pub learnt_by : options.LearnOptions → Option (List ℕ) → Header
learnt_by o costs = learnt_header o.regs.number o.left.number o.budget.number o.seed o.scratch.number o.pool costs

abbrev pub header_in : code.Table → Header
header_in t = record { version = t.version; regs = t.regs; left = t.left; seed = t.seed; budget = t.budget; pool = t.pool; scratch = t.scratch; costs = t.costs }

abbrev pub opened_of : opening.Open → Opened
opened_of o = record { number = o.number; log = map content_of o.log.items }

abbrev pub rule_of : entry.Entry → Rule
rule_of e = record { left = e.left; right = e.right; mask = e.mask.items.bits; proof = map content_of e.proof.items; opens = map opened_of e.opens.items }

abbrev pub family_of : raised.Family → Family
family_of f = record { entry = f.entry; number = f.number; low = f.low; high = f.high; proof = map content_of f.proof.items }

abbrev pub table_of : code.Table → Table
table_of t = record { header = header_in t; states = map seen t.states; rules = map rule_of t.entries.items; families = map family_of t.families.items }
