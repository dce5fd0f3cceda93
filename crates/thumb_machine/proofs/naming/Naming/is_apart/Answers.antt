use Rattle.std.proofs.Common.{◌∙◌, sym}
use Rattle.thumb_model.specs.Listing.{places_of}
use Rattle.thumb_machine.specs.declared.distinct.Apart.{Apart}
use Rattle.thumb_machine.specs.Fitting.{apart}
use Rattle.thumb_machine.specs.Naming.{naming_of}
use Rattle.thumb_machine.specs.Walking.{points_from}
use Rattle.thumb_machine.proofs.Walked.{steady, walked}
use Rattle.thumb_machine.proofs.naming.Naming.is_apart.Goals as goal

pub returns : goal.returns
returns c = c.points_pass.ensures ∙ steady (λ (t : Apart) w p. apart (t.word, t.place) (w, p)) (record { word = c.args.word; place = c.args.place })
    (points_from (naming_of c.args.self.now) (places_of c.args.listing.now) 0 0 c.args.listing.now)
    ∙ sym (walked (apart (c.args.word, c.args.place)) (naming_of c.args.self.now) c.args.listing.now)
