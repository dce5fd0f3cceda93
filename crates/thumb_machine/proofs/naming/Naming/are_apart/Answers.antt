use Rattle.std.proofs.Common.{◌∙◌, ℕ, sym}
use Rattle.std.specs.List.{list_all}
use Rattle.thumb_model.specs.Listing.{code_of, places_of}
use Rattle.thumb_model.specs.Naming.{points}
use Rattle.thumb_machine.specs.declared.distinct.EachApart.{EachApart}
use Rattle.thumb_machine.specs.Fitting.{apart}
use Rattle.thumb_machine.specs.Naming.{naming_of}
use Rattle.thumb_machine.specs.Walking.{points_from}
use Rattle.thumb_machine.proofs.Walked.{steady, walked}
use Rattle.thumb_machine.proofs.naming.Naming.are_apart.Goals as goal

pub returns : goal.returns
returns c = c.points_pass.ensures ∙ steady (λ (t : EachApart) w p. list_all (apart (w, p)) (points (naming_of t.naming.now) (code_of t.listing.now))) (record { naming = c.args.self; listing = c.args.listing })
    (points_from (naming_of c.args.self.now) (places_of c.args.listing.now) 0 0 c.args.listing.now)
    ∙ sym (walked (λ (x : ℕ × ℕ). list_all (apart x) (points (naming_of c.args.self.now) (code_of c.args.listing.now))) (naming_of c.args.self.now) c.args.listing.now)
