use Rattle.std.proofs.Common.{ap, sym, ◌∙◌, Bool, List, length, arith}
use Rattle.kept_places.specs.Marks.{is_gone}
use Rattle.kept_places.proofs.Ranks.{marked_at}
use Rattle.kept_places.proofs.kept.KeptPlaces.is_gone.Goals as goal

pub returns : goal.returns
returns c = c.index.ensures ∙ sym (marked_at c.self.inside.gone.items c.args.place c.index.result.now (omega (arith, c.requires, ap length c.self.view_is))) ∙ ap (λ (gone : List Bool). is_gone gone c.args.place) c.self.view_is
