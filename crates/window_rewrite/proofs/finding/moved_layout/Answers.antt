use Rattle.std.proofs.Common.{◌≡◌, ◌∙◌, ℕ, ◌-◌, ◌*◌, ◌↔◌, Bool, List, Option, length, true, false, ap, refl, sym, subst, true≢false}
use Rattle.std.specs.Prelude.{is_some, not}
use Rattle.std.specs.Option.{IfSome}
use Rattle.std.proofs.lemmas.Option.{IfSome_then}
use Rattle.std.proofs.lemmas.Result.{IfOk-weaker}
use Rattle.thumb_model.specs.Layout.{Layable}
use Rattle.thumb_model.specs.Listing.{ListingLine}
use Rattle.thumb_model.specs.Replaced.{replaced_lines, IsWindow}
use Rattle.listing_parser.specs.Parsing.{own_line}
use Rattle.kept_layout.specs.Kept.{IsNear, Lays}
use Rattle.kept_layout.specs.Moves.{IsMoved}
use Rattle.kept_layout.specs.declared.shrinking.Move.{Move}
use Rattle.window_rewrite.specs.Scenes.{lines_seen, number_seen}
use Rattle.window_rewrite.specs.Layouts.{is_steady}
use Rattle.window_rewrite.proofs.Unmoved.{unmoved_layable}
use Rattle.window_rewrite.proofs.finding.moved_layout.Goals as goal

-- where too many lines would be left, the replacement isn't allowed
pub returns-then-not-has_room-clause-allowed : goal.returns-then-not-has_room-clause-allowed
returns-then-not-has_room-clause-allowed c = (λ some. absurd (true≢false (sym some)), λ m. absurd (true≢false (sym (c.has_room.ensures.1 m.few) ∙ c.if-not-has_room.true)))

-- where as many instructions come nothing moves
pub returns-then-new-window-clause-allowed : goal.returns-then-new-window-clause-allowed
returns-then-new-window-clause-allowed c = (
  λ _. record {
    few = c.has_room.ensures.0 c.if-not-has_room.false;
    layable = λ f. unmoved_layable c.args.lookup.now.scene.now.layout c.args.lookup.now.rules.now.base (lines_seen c.args.lookup.now) (number_seen c.args.lookup.now) c.args.window.now c.args.new.now
        f c.requires.lookup.over.over.layout c.requires.lookup.near c.requires.window c.requires.some c.if-new-window.true c.requires.in_window;
  },
  λ _. refl,
)

-- where the layout needn't be asked, nothing is asked
pub returns-in-None-clause-allowed : goal.returns-in-None-clause-allowed
returns-in-None-clause-allowed c = (
  λ _. record { few = c.has_room.ensures.0 c.if-not-has_room.false; layable = λ f. absurd (true≢false (sym (ap (λ o. not (is_some o)) c.in-None.is) ∙ f)) },
  λ _. refl,
)

told : (b steady : Bool) (base other : ℕ) (left : List ListingLine) → steady ≡ false → base ≡ other → ((b ≡ true) ↔ Layable base left) → ((b ≡ true) ↔ (steady ≡ false → Layable other left))
told b steady base other left f e h = (λ t _. subst (λ k. Layable k left) e (h.0 t), λ q. h.1 (subst (λ k. Layable k left) (sym e) (q f)))

pub may_give_way-requires-clause-stands : goal.may_give_way-requires-clause-stands
may_give_way-requires-clause-stands c =
    let laid : (c.in-Some.kept.base ≡ c.args.lookup.now.rules.now.base) × Lays c.in-Some.kept (lines_seen c.args.lookup.now) = rw c.in-Some.is at c.requires.lookup.over.over.layout in
    let near : IsNear c.in-Some.kept (number_seen c.args.lookup.now) = rw c.in-Some.is at c.requires.lookup.near in
    record { lines = lines_seen c.args.lookup.now; place = number_seen c.args.lookup.now; lays = laid.1; near = near; is_window = c.requires.window }

pub returns-in-Some-clause-allowed : goal.returns-in-Some-clause-allowed
returns-in-Some-clause-allowed c =
    let lines : List ListingLine = lines_seen c.args.lookup.now in
    let place : ℕ = number_seen c.args.lookup.now in
    let laid : (c.in-Some.kept.base ≡ c.args.lookup.now.rules.now.base) × Lays c.in-Some.kept lines = rw c.in-Some.is at c.requires.lookup.over.over.layout in
    let near : IsNear c.in-Some.kept place = rw c.in-Some.is at c.requires.lookup.near in
    let left : List ListingLine = replaced_lines own_line place (length c.args.window.now) c.args.new.now lines in
    let few = c.has_room.ensures.0 c.if-not-has_room.false in
    IfOk-weaker _ _ _
    (λ (o : Option Move) (t : (ls : List ListingLine) (p : ℕ) → Lays c.in-Some.kept ls → IsNear c.in-Some.kept p → IsWindow ls p c.args.window.now → (is_some o ≡ true) ↔ Layable c.in-Some.kept.base (replaced_lines own_line p (length c.args.window.now) c.args.new.now ls)).
    let own = told (is_some o) (is_steady c.args.lookup.now.scene.now.layout) c.in-Some.kept.base c.args.lookup.now.rules.now.base left (ap (λ k. not (is_some k)) c.in-Some.is) laid.0 (t lines place laid.1 near c.requires.window) in
    (λ b. record { few = few; layable = own.0 b }, λ m. own.1 m.layable))
    c.may_give_way.ensures.layable

pub returns-in-Some-clause-moved : goal.returns-in-Some-clause-moved
returns-in-Some-clause-moved c =
    IfOk-weaker c.may_give_way.result _ _
    (λ o h. IfSome_then o h (λ m moved _. subst (λ k. IfSome k (λ kept. IsMoved kept (2 * (length c.args.window.now - length c.args.new.now)) m.at.items m.by)) (sym c.in-Some.is) moved))
    c.may_give_way.ensures.moved
