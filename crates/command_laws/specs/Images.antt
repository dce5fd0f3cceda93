-- The run of the image that `rewrite` keeps, with requirements on the naming that can be read off the listings.
use Rattle.std.specs.Prelude.{ℕ, List}
use Rattle.thumb_model.specs.Listing.{Name, ListingLine, code_of}
use Rattle.thumb_model.specs.Naming.{laid}
use Rattle.rule_model.specs.Laws.{TellsApart}
use Rattle.rule_table.specs.Table.{Table}
use Rattle.thumb_assembler.specs.Runs.{IsAssembled, ImageFollows}
use Rattle.listing_laws.specs.Assembled.{IsOutside}
use Rattle.command_runs.specs.Plans.{Outcome}
use Rattle.audit_cli.specs.Rewrite.{Destination, IsRewriting}

-- the run of an image of the rewritten lines reaches what theirs does, and what the given lines' run does if none of their code points at different places
-- got the same address
abbrev pub KeptImagesFollow : Type 0
KeptImagesFollow =
    (to : Destination) (t : Table) (given : List ListingLine) (o : Outcome) (h : IsRewriting to t given o) (bytes : List ℕ) → IsAssembled to.base h.lines bytes
    → (set : Name → ℕ) → IsOutside to.base set h.lines
    → ImageFollows to.base set h.lines bytes h.lines × (TellsApart (laid to.base set h.lines) (code_of given) → ImageFollows to.base set h.lines bytes given)
