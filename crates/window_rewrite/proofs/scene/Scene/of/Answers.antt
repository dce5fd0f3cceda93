use Rattle.window_rewrite.proofs.Scenes.{first_as_many, first_live, first_many, first_none_gone, first_over, first_padded}
use Rattle.window_rewrite.proofs.scene.Scene.of.Goals as goal

pub returns-clause-over : goal.returns-clause-over
returns-clause-over g c =
    let layout = c.in_ok-layout.ensures in
    let edited = c.in_ok-listing.ensures in
    record {
      kept = record {
        is_padded = first_padded c.args.listing c.in_ok-listing.listing edited.is edited.lines;
        as_many = first_as_many c.args.listing c.in_ok-listing.listing edited.is;
        live = first_live c.args.listing c.in_ok-listing.listing c.in_ok-live.live edited.is c.in_ok-live.ensures.kept;
      };
      over = first_over c.args.rules.now c.in_ok-layout.layout c.args.listing _ c.args.steady edited.lines c.requires.layable layout.steady c.requires.steady layout.layout;
    }

pub returns-clause-many : goal.returns-clause-many
returns-clause-many g c = first_many c.args.listing c.in_ok-listing.listing c.in_ok-listing.ensures.is

pub returns-clause-none_gone : goal.returns-clause-none_gone
returns-clause-none_gone g c = first_none_gone c.args.listing c.in_ok-listing.listing c.in_ok-listing.ensures.is
