use Rattle.std.proofs.Common.{◌-◌, ◌+◌, ◌≤◌, length, get_or, sym, ◌∙◌, arith, true≢false}
use Rattle.thumb_model.proofs.Lists.{length_map}
use Rattle.edited_listing.specs.Changes.{is_none}
use Rattle.edited_listing.specs.Edited.{marks, padded}
use Rattle.window_rewrite.proofs.Scenes.{last_within, live_there, none_read}
use Rattle.window_rewrite.proofs.scene.Scene.live_after.Goals as goal

pub overflow_add-last : goal.overflow_add-last
overflow_add-last c =
    let site = c.args.site.now in
    let many = length_map is_none c.args.self.now.listing.stands in
    let as_many = c.requires.site.as_many in
    let few = c.requires.few in
    let last = last_within (marks c.args.self.now.listing) site.number c.args.count site.run.places.items c.deref.result.now c.requires.site.places c.deref.ensures.0 c.requires.some (omega arith) in
    omega (arith, last, many, c.place_count-end.ensures, c.place_count-end.type_inv)

pub returns-then-last-end : goal.returns-then-last-end
returns-then-last-end c = λ x.
    let site = c.args.site.now in
    let e = c.args.self.now.listing in
    let a = live_there e c.args.rules.now.longest site.number c.args.count site.run.instrs site.run.places.items c.deref.result.now c.requires.kept.is_padded c.requires.site.instrs c.requires.site.places c.requires.site.as_many c.deref.ensures.0 c.requires.some c.requires.few x in
    let b = c.before-then-last-end.ensures.live (padded e) c.requires.kept.live x in
    (λ h. a.1 (b.0 h), λ l. b.1 (a.0 l))

pub returns-else-last-end : goal.returns-else-last-end
returns-else-last-end c = λ x.
    let site = c.args.site.now in
    let e = c.args.self.now.listing in
    let a = live_there e c.args.rules.now.longest site.number c.args.count site.run.instrs site.run.places.items c.deref.result.now c.requires.kept.is_padded c.requires.site.instrs c.requires.site.places c.requires.site.as_many c.deref.ensures.0 c.requires.some c.requires.few x in
    let many = length_map is_none e.stands in
    let as_many = c.requires.kept.as_many in
    let before = c.requires.kept.live.before_len in
    let past : length c.args.self.now.live.before ≤ get_or c.deref.result.now (c.args.count - 1) 0 + 1 = omega (arith, many, as_many, before, c.place_count-end.ensures, c.if-last-end.false) in
    (λ h. absurd (true≢false (sym h ∙ c.none.ensures x)), λ l. absurd (none_read (padded e) c.args.self.now.live _ x c.requires.kept.live past (a.0 l)))
