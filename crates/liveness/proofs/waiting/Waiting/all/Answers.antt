use Rattle.std.proofs.Common.{◌∙◌, ap, refl, Bool, List}
use Rattle.kept_places.specs.Marks.{marked}
use Rattle.liveness.proofs.Waits.{all_wait, all_marked}
use Rattle.liveness.proofs.waiting.Waiting.all.Goals as goal

pub returns-clause-waiting : goal.returns-clause-waiting
returns-clause-waiting c = all_wait _ _ refl c.new.ensures.items (c.in_ok-marks.ensures.items_if_clones_equal (λ y e. e))

pub returns-clause-all : goal.returns-clause-all
returns-clause-all c = λ q l. ap (λ (ms : List Bool). marked ms q) (c.in_ok-marks.ensures.items_if_clones_equal (λ y e. e)) ∙ all_marked c.args.count q l
