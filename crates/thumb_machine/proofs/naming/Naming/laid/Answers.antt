use Rattle.std.proofs.Common.{◌≡◌, ◌∙◌, ◌+◌, ℕ, if◌then◌else◌, arith, ap}
use Rattle.std.proofs.lemmas.Grind.{common_steps}
use Rattle.std.specs.Prelude.{slice_index, unwrap_or}
use Rattle.std.specs.declared.alloc.Global.{Global}
use Rattle.std.specs.declared.vec.Vec.{Vec}
use Rattle.thumb_model.specs.Layout.{end_of}
use Rattle.thumb_model.specs.Naming.{last_is_call}
use Rattle.thumb_model.specs.Listing.{places_of}
use Rattle.thumb_machine.specs.Words.{word_in}
use Rattle.thumb_machine.proofs.ReturnLemmas.{laid_returns}
use Rattle.thumb_machine.proofs.WordLemmas.{laid_word}
use Rattle.thumb_machine.proofs.naming.Naming.laid.Goals as goal

pub returns : goal.returns
returns c = record {
  word_of = λ name.
      ap (λ m. unwrap_or (word_in m.entries name) 0) c.new.ensures.words ∙ laid_word c.args.layout.now.base c.args.listing.now c.in_ok-words.words.entries c.in_ok-words.ensures name;
  return_word = λ k before call after cut.
      ap (λ (v : Vec ℕ Global). slice_index v.items k) c.new.ensures.returns
      ∙ laid_returns c.args.layout.now.base c.args.listing.now c.in_ok-returns.returns.items c.in_ok-returns.ensures k before call after cut;
  low = c.new.ensures.low ∙ c.base.ensures;
  high = let is : c.new.result.high ≡ (if last_is_call (places_of c.args.listing.now) then end_of c.args.layout.now.base c.args.listing.now + 2 else end_of c.args.layout.now.base c.args.listing.now) = grind (arith, common_steps) in is;
}
