use Rattle.std.proofs.Common.{◌≡◌, ◌∙◌, ◌++◌, [], ◌∷◌, map, ap, sym, subst, inl, inr, refl}
use Rattle.std.proofs.lemmas.List.{map-append}
use Rattle.window_harvest.specs.Harvest.{Pair, pair_of}
use Rattle.window_harvest.specs.Keys.{AreSeen}
use Rattle.window_harvest.proofs.Seen.{seen_new, seen_known}
use Rattle.window_harvest.proofs.adding.add_pair.Goals as goal

pub returns-in_ok-push : goal.returns-in_ok-push
returns-in_ok-push c = λ pool k s.
    let pair : Pair = pair_of (c.args.seq, c.args.mask) in
    let same : map pair_of c.push.new.self.items ≡ map pair_of c.args.pairs.now.items ++ pair ∷ [] = ap (map pair_of) c.in_ok-push.ensures.items ∙ map-append pair_of c.args.pairs.now.items ((c.args.seq, c.args.mask) ∷ []) in
    let new = seen_new pool pair c.args.key c.args.seen.now.keys c.insert.new.self.keys (map pair_of c.args.pairs.now.items) c.in_ok-insert.ensures.updates.0 (sym c.if-branch.true ∙ c.in_ok-insert.ensures.added) k s in
    (subst (AreSeen pool c.insert.new.self.keys) (sym same) new.0, inr (new.1, same))

pub returns-else-branch : goal.returns-else-branch
returns-else-branch c = λ pool k s.
    let known = seen_known pool (pair_of (c.args.seq, c.args.mask)) c.args.key c.args.seen.now.keys c.insert.new.self.keys (map pair_of c.args.pairs.now.items) c.in_ok-insert.ensures.updates.0 (sym c.if-branch.false ∙ c.in_ok-insert.ensures.added) k s in
    (known.0, inl (known.1, refl))
