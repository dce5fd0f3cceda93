use Rattle.std.proofs.Common.{◌≡◌, ◌-◌, ◌*◌, ◌<◌, ◌≤◌, ◌↔◌, Bool, true, ℕ, List, length, subst, sym, arith}
use Rattle.std.specs.Prelude.{is_some}
use Rattle.std.specs.List.{list_all}
use Rattle.std.proofs.lemmas.Result.{IfOk-weaker}
use Rattle.thumb_instr.specs.declared.instr.Instr.{Instr}
use Rattle.thumb_instr.specs.Window.{is_in_window}
use Rattle.thumb_model.specs.Layout.{Layable}
use Rattle.thumb_model.specs.Listing.{ListingLine}
use Rattle.thumb_model.specs.Replaced.{replaced_lines, IsWindow}
use Rattle.listing_parser.specs.Parsing.{own_line}
use Rattle.kept_layout.specs.declared.kept.KeptLayout.{KeptLayout}
use Rattle.kept_layout.specs.Blocks.{lessen, footprints_of, AllReach}
use Rattle.kept_layout.specs.Kept.{IsNear, Lays}
use Rattle.kept_layout.proofs.Giving.{bytes_few, bytes_within, gives, gives_way, layable_after, reach_after, GivesWay}
use Rattle.kept_layout.proofs.ShrinkingWide.{cut_wide}
use Rattle.kept_layout.proofs.kept.KeptLayout.may_give_way.Goals as goal

pub bytes_gone-bytes-requires-clause-few : goal.bytes_gone-bytes-requires-clause-few
bytes_gone-bytes-requires-clause-few c =
    let r = c.requires in
    bytes_few _ _ _ _ _ (gives_way r.stands r.some r.fewer r.in_window)

pub move_within_reach-requires-clause-few : goal.move_within_reach-requires-clause-few
move_within_reach-requires-clause-few c = λ s e.
    let r = c.requires in
    subst (λ n. n ≤ s.bytes) (sym c.bytes_gone-bytes.ensures) (bytes_within _ _ _ _ _ s e (gives_way r.stands r.some r.fewer r.in_window))

-- what holds of the block that shrinks, as a statement on lines
told : (k : KeptLayout) (lines : List ListingLine) (place : ℕ) (window new : List Instr) (bytes : ℕ) (b : Bool) → GivesWay k lines place window new → bytes ≡ 2 * (length window - length new)
    → ((gone : ℕ) → (b ≡ true) ↔ AllReach k.base (lessen k.here bytes gone (footprints_of k.blocks.items))) → (b ≡ true) ↔ Layable k.base (replaced_lines own_line place (length window) new lines)
told k lines place window new bytes b g e h =
    let gone : ℕ = length window - length new in (
      λ t. layable_after own_line k lines place window new g (subst (λ n. AllReach k.base (lessen k.here n gone (footprints_of k.blocks.items))) e ((h gone).0 t)),
      λ l. (h gone).1 (subst (λ n. AllReach k.base (lessen k.here n gone (footprints_of k.blocks.items))) (sym e) (reach_after own_line k lines place window new g l)),
    )

-- and so of all lines of which this is the layout
told_all : (k : KeptLayout) (window new : List Instr) (bytes : ℕ) (b : Bool) → 0 < length window → length new ≤ length window → list_all is_in_window new ≡ true → bytes ≡ 2 * (length window - length new)
    → ((gone : ℕ) → (b ≡ true) ↔ AllReach k.base (lessen k.here bytes gone (footprints_of k.blocks.items)))
    → (lines : List ListingLine) (place : ℕ) → Lays k lines → IsNear k place → IsWindow lines place window → (b ≡ true) ↔ Layable k.base (replaced_lines own_line place (length window) new lines)
told_all k window new bytes b some fewer in_window e h lines place lays near is_window = told k lines place window new bytes b (gives lays near is_window some fewer in_window) e h

pub returns-clause-layable : goal.returns-clause-layable
returns-clause-layable c =
    let r = c.requires in
    IfOk-weaker _ _ _ (λ o h. told_all c.args.self.now c.args.window.now c.args.new.now c.bytes_gone-bytes.result (is_some o) r.some r.fewer r.in_window c.bytes_gone-bytes.ensures h) c.move_within_reach.ensures.reach

pub move_within_reach-requires-clause-wide : goal.move_within_reach-requires-clause-wide
move_within_reach-requires-clause-wide c = cut_wide _ _ c.requires.stands.lays.cut

pub move_within_reach-requires-clause-even : goal.move_within_reach-requires-clause-even
move_within_reach-requires-clause-even c = (length c.args.window.now - length c.args.new.now, let is = c.bytes_gone-bytes.ensures in omega arith)
