use Rattle.std.proofs.Common.{◌≡◌, ℕ, ◌+◌, ◌*◌, ◌<◌, List, length, get_or, refl, sym, ◌∙◌, ap, arith, subst}
use Rattle.std.proofs.lemmas.List.{get_or_read_under}
use Rattle.clause_arena.specs.Contents.{Content, Watches, IsBetween}
use Rattle.clause_arena.specs.Words.{IsSlot, starts_of, link_of, place_of}
use Rattle.clause_arena.proofs.Views.{watch_known, slot_within, next_held}
use Rattle.clause_arena.proofs.Steps.{whole}
use Rattle.clause_arena.proofs.Followed.{follows}
use Rattle.clause_arena.proofs.arena.Arena.next_watch.Goals as goal

pub index-requires : goal.index-requires
index-requires c =
    let ws : List ℕ = c.self.inside.words.items in
    let hs : List ℕ = c.self.inside.heads.items in
    let s : IsSlot (starts_of ws) (c.args.at, c.args.slot) = watch_known ws hs c.self.invariant c.args.at c.args.slot c.requires.0 (subst (λ (x : Content). Watches x c.args.at c.args.slot c.requires.0) (sym c.self.view_is) c.requires.1) in
    let b : c.args.at + 2 + 2 * c.args.slot + 1 < length ws = slot_within ws hs c.self.invariant c.args.at c.args.slot s in
    omega (arith, c.place_of.ensures, c.self.inside.words.ok)

pub returns-clause-chain : goal.returns-clause-chain
returns-clause-chain c = λ literal earlier later between.
    let ws : List ℕ = c.self.inside.words.items in
    let hs : List ℕ = c.self.inside.heads.items in
    let s : IsSlot (starts_of ws) (c.args.at, c.args.slot) = watch_known ws hs c.self.invariant c.args.at c.args.slot c.requires.0 (subst (λ (x : Content). Watches x c.args.at c.args.slot c.requires.0) (sym c.self.view_is) c.requires.1) in
    let b : c.args.at + 2 + 2 * c.args.slot + 1 < length ws = slot_within ws hs c.self.invariant c.args.at c.args.slot s in
    let place : c.place_of.result + 1 ≡ place_of (c.args.at, c.args.slot) + 1 = ap (λ (n : ℕ). n + 1) c.place_of.ensures in
    let read : c.index.result.now ≡ link_of ws (c.args.at, c.args.slot) =
    get_or_read_under ws (c.place_of.result + 1) (length ws) c.index.result.now 0 c.index.ensures (omega arith) refl ∙ ap (λ (n : ℕ). get_or ws n 0) place in
    next_held ws hs c.self.invariant literal earlier (c.args.at, c.args.slot) later c.watch_of.result (subst (λ (x : Content). IsBetween x literal earlier (c.args.at, c.args.slot) later) (sym c.self.view_is) between)
    (λ e. c.watch_of.ensures.none (read ∙ e)) (λ at slot d e. c.watch_of.ensures.some at slot d (read ∙ e))

pub returns-clause-within : goal.returns-clause-within
returns-clause-within c = λ literal w. follows c.args.self.now literal (c.args.at, c.args.slot) c.watch_of.result (whole c.self.inside.words.items c.self.inside.heads.items c.args.self.now record { arena = c.self.invariant; view = c.self.view_is }) w (λ earlier later b. returns-clause-chain c literal earlier later b)
