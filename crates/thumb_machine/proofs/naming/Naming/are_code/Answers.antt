use Rattle.std.proofs.Common.{◌∙◌, ℕ, sym}
use Rattle.thumb_model.specs.Listing.{places_of}
use Rattle.thumb_machine.specs.declared.fitting.CodeWord.{CodeWord}
use Rattle.thumb_machine.specs.Fitting.{is_code_word}
use Rattle.thumb_machine.specs.Naming.{naming_of}
use Rattle.thumb_machine.specs.Walking.{points_from}
use Rattle.thumb_machine.proofs.Walked.{steady, walked}
use Rattle.thumb_machine.proofs.naming.Naming.are_code.Goals as goal

pub returns : goal.returns
returns c = c.points_pass.ensures ∙ steady (λ (t : CodeWord) w p. is_code_word (naming_of t.naming.now) w) (record { naming = c.args.self })
    (points_from (naming_of c.args.self.now) (places_of c.args.listing.now) 0 0 c.args.listing.now)
    ∙ sym (walked (λ (x : ℕ × ℕ). is_code_word (naming_of c.args.self.now) x.0) (naming_of c.args.self.now) c.args.listing.now)
