use Rattle.flow_tidy.specs.Tidying.{setting}
use Rattle.flow_tidy.proofs.Whole.{tidied_keep}
use Rattle.flow_tidy.proofs.tidying.tidy.Goals as goal

pub returns-in_ok-tidied_surely-in-None-clause-same : goal.returns-in_ok-tidied_surely-in-None-clause-same
returns-in_ok-tidied_surely-in-None-clause-same g c = λ literals.
    let done = c.in_ok-tidied_surely-in-None.ensures.tidied in
    (tidied_keep (setting c.args.base) c.args.listing done.changes c.in_ok-tidied_surely-in-None.field-0.listing done.are).same literals

pub returns-in_ok-tidied_by_layouts-in-Some-clause-same : goal.returns-in_ok-tidied_by_layouts-in-Some-clause-same
returns-in_ok-tidied_by_layouts-in-Some-clause-same g c = λ literals.
    let done = c.in_ok-tidied_by_layouts-in-Some.ensures.tidied in
    (tidied_keep (setting c.in-Some.laid.base) c.args.listing done.changes c.in_ok-tidied_by_layouts-in-Some.field-0.listing done.are).same literals
