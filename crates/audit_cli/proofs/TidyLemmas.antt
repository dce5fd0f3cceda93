-- What is kept of a tidied listing is what the definition of `tidy` says.
use Rattle.std.proofs.Common.{◌≡◌, ℕ, List}
use Rattle.thumb_model.specs.Listing.{ListingLine, code_of}
use Rattle.thumb_model.specs.Layout.{Layable}
use Rattle.thumb_model.specs.Same.{Same}
use Rattle.flow_tidy.specs.Tidying.{AreTidiedBy, setting}
use Rattle.flow_tidy.proofs.Unique.{none_left}
use Rattle.flow_tidy.proofs.Whole.{still_layable}
use Rattle.command_runs.specs.Plans.{Outcome}
use Rattle.audit_cli.specs.Tidy.{LinesTidy, tidied, tidied_outcome}

pub is_tidied : (base : ℕ) (out : List ℕ) (given lines : List ListingLine) (changes : ℕ) (o : Outcome) → Layable base given → AreTidiedBy base given lines changes → Same (code_of given) (code_of lines)
    → o ≡ tidied_outcome out given lines changes → LinesTidy base out given o
is_tidied base out given lines changes o laid h same e = tidied laid o (record {
  lines = lines;
  changes = changes;
  tidied = h;
  layable = still_layable (setting base) given h.changes lines laid h.are;
  same = same;
  finished = none_left (setting base) given h.changes lines h.are;
  is = e;
})
