use Rattle.std.proofs.Common.{◌≡◌, ℕ, ◌<◌, List, [], length, get_or, refl, sym, ◌∙◌, subst}
use Rattle.std.specs.Prelude.{slice_get}
use Rattle.std.proofs.lemmas.List.{get_or_read_under}
use Rattle.clause_arena.specs.Contents.{Content, HasLiteral, chain_of}
use Rattle.clause_arena.proofs.Views.{first_held, literal_known}
use Rattle.clause_arena.proofs.Steps.{whole}
use Rattle.clause_arena.proofs.Followed.{followed}
use Rattle.clause_arena.proofs.arena.Arena.first_watch.Goals as goal

pub returns-clause-chain : goal.returns-clause-chain
returns-clause-chain c =
    let ws : List ℕ = c.self.inside.words.items in
    let hs : List ℕ = c.self.inside.heads.items in
    let known : HasLiteral c.args.self.now c.args.literal = c.requires in
    let b : c.args.literal < length hs = literal_known ws hs c.self.invariant c.args.literal (subst (λ (x : Content). HasLiteral x c.args.literal) (sym c.self.view_is) known) in
    let read : c.index.result.now ≡ get_or hs c.args.literal 0 = get_or_read_under hs c.args.literal (length hs) c.index.result.now 0 c.index.ensures b refl in
    subst (λ (x : Content). c.watch_of.result ≡ slice_get (chain_of x c.args.literal) 0) c.self.view_is
    (first_held ws hs c.self.invariant c.args.literal c.watch_of.result (subst (λ (x : Content). HasLiteral x c.args.literal) (sym c.self.view_is) known)
    (λ e. c.watch_of.ensures.none (read ∙ e)) (λ at slot d e. c.watch_of.ensures.some at slot d (read ∙ e)))

pub returns-clause-within : goal.returns-clause-within
returns-clause-within c = followed c.args.self.now c.args.literal [] (chain_of c.args.self.now c.args.literal) c.watch_of.result (whole c.self.inside.words.items c.self.inside.heads.items c.args.self.now record { arena = c.self.invariant; view = c.self.view_is }) c.requires refl (returns-clause-chain c)
