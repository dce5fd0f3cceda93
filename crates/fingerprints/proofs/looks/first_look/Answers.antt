use Rattle.std.proofs.Common.{◌≡◌, ◌∙◌, ap}
use Rattle.std.proofs.lemmas.Result.{IfOk-weaker}
use Rattle.window_exec.specs.State.{values_of}
use Rattle.fingerprints.proofs.Looking.{word_among, flags_among}
use Rattle.fingerprints.proofs.looks.first_look.Goals as goal

pub returns-in-Some : goal.returns-in-Some
returns-in-Some c =
    let register = c.in-Some.register in
    let word : c.get-word.result ≡ values_of c.args.end.now register = c.get-word.ensures ∙ ap (λ x. values_of c.args.end.now x) c.from.ensures in
    IfOk-weaker c.places_of.result _ _ (λ v e.
    word_among c.args.columns.now c.args.start.now c.args.end.now c.args.mask.items.bits c.args.k register c.args.limit c.get-word.result c.column.result.now v.items c.requires.full c.in-Some.ensures.0 c.requires.few c.in-Some.ensures.1 c.requires.within c.column.ensures word e)
    c.places_of.ensures

pub returns-in-None : goal.returns-in-None
returns-in-None c =
    IfOk-weaker c.flag_places.result _ _ (λ v e. flags_among c.args.columns.now c.args.start.now c.args.end.now c.args.mask.items.bits c.args.limit c.deref.result.now v.items c.deref.ensures.value e) c.flag_places.ensures
