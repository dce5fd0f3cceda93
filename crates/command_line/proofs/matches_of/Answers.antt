use Rattle.std.proofs.Common.{rules, ◌≢◌, map}
use Rattle.clap.specs.Words.{app_of}
use Rattle.clap.specs.Values.{kind_of}
use Rattle.clap.specs.declared.error.kind.ErrorKind.TheVariants as kind
use Rattle.command_line.proofs.Simple.{found_by, refused_by, taken_by}
use Rattle.command_line.proofs.matches_of.Goals as goal

pub returns-in-Ok : goal.returns-in-Ok
returns-in-Ok c = (
  taken_by (app_of c.in_ok-peep.field-0) (map (λ t. t.now) c.args.words.now) c.in-Ok.matches c.in_ok-peep.ensures c.in-Ok.ensures.kinds,
  found_by (app_of c.in_ok-peep.field-0) (map (λ t. t.now) c.args.words.now) c.in-Ok.matches c.in_ok-peep.ensures c.in-Ok.ensures.matches,
)

pub returns : goal.returns
returns c =
    let other : kind_of c.in-Err.error ≢ kind.OutOfMemory = search rules in
    refused_by (app_of c.in_ok-peep.field-0) (map (λ t. t.now) c.args.words.now) c.in-Err.error c.in_ok-peep.ensures c.in-Err.ensures.kinds other
