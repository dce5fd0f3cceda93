use Rattle.std.proofs.Common.{◌≡◌, ◌∙◌, ◌-◌, ◌*◌, ◌<◌, ◌≤◌, ℕ, true, List, length, Result, Ok, Err, OnOk, ap, subst, sym}
use Rattle.std.specs.List.{list_all}
use Rattle.thumb_instr.specs.declared.instr.Instr.{Instr}
use Rattle.thumb_instr.specs.Window.{is_in_window}
use Rattle.thumb_model.specs.Listing.{ListingLine}
use Rattle.thumb_model.specs.Replaced.{replaced_lines, IsWindow}
use Rattle.listing_parser.specs.Parsing.{own_line}
use Rattle.kept_layout.specs.declared.kept.KeptLayout.{KeptLayout}
use Rattle.kept_layout.specs.Blocks.{lessen, footprints_of, AllReach}
use Rattle.kept_layout.specs.Kept.{AreCut, IsLaid, IsNear, Lays}
use Rattle.kept_layout.proofs.Giving.{bytes_few, bytes_within, cut_after, gives, gives_way, places_within, reach_after}
use Rattle.kept_layout.proofs.kept.KeptLayout.give_way.Goals as goal

pub bytes_gone-bytes-requires-clause-few : goal.bytes_gone-bytes-requires-clause-few
bytes_gone-bytes-requires-clause-few c =
    let r = c.requires in
    bytes_few _ _ _ _ _ (gives_way r.leaves.stands r.some r.fewer r.in_window)

pub shrink-requires-clause-few : goal.shrink-requires-clause-few
shrink-requires-clause-few c = λ s e.
    let r = c.requires in
    subst (λ n. n ≤ s.bytes) (sym c.bytes_gone-bytes.ensures) (bytes_within _ _ _ _ _ s e (gives_way r.leaves.stands r.some r.fewer r.in_window))

pub shrink-requires-clause-some : goal.shrink-requires-clause-some
shrink-requires-clause-some c = λ s e.
    let r = c.requires in
    places_within _ _ _ _ _ s e (gives_way r.leaves.stands r.some r.fewer r.in_window)

pub shrink-requires-clause-reach : goal.shrink-requires-clause-reach
shrink-requires-clause-reach c =
    let r = c.requires in
    let k = c.args.self.now in
    subst (λ n. AllReach k.base (lessen k.here n (length c.args.window.now - length c.args.new.now) (footprints_of k.blocks.items))) (sym c.bytes_gone-bytes.ensures)
    (reach_after own_line k _ _ c.args.window.now c.args.new.now (gives_way r.leaves.stands r.some r.fewer r.in_window) r.leaves.layable)

-- the layout of the lines, once the block has shrunk
lays_after : (old new : KeptLayout) (window is : List Instr) (bytes : ℕ) → 0 < length window → length is ≤ length window → list_all is_in_window is ≡ true → bytes ≡ 2 * (length window - length is) → IsLaid new
    → footprints_of new.blocks.items ≡ lessen old.here bytes (length window - length is) (footprints_of old.blocks.items)
    → (lines : List ListingLine) (place : ℕ) → Lays old lines → IsNear old place → IsWindow lines place window → Lays new (replaced_lines own_line place (length window) is lines)
lays_after old new window is bytes some fewer in_window e laid footprints lines place lays near is_window = record {
  laid = laid;
  cut = subst (AreCut (replaced_lines own_line place (length window) is lines)) (sym (footprints ∙ ap (λ n. lessen old.here n (length window - length is) (footprints_of old.blocks.items)) e))
      (cut_after own_line old lines place window is (gives lays near is_window some fewer in_window));
}

both : {T E P Q R : Type 0} (r : Result T E) → (P → Q → R) → OnOk r P → OnOk r Q → OnOk r R
both (Ok x) f p q = f p q
both (Err e) f p q = tt

pub returns-clause-lays : goal.returns-clause-lays
returns-clause-lays c =
    let r = c.requires in
    both c.shrink.result (lays_after c.args.self.now c.shrink.new.self c.args.window.now c.args.new.now c.bytes_gone-bytes.result r.some r.fewer r.in_window c.bytes_gone-bytes.ensures) c.shrink.ensures.laid c.shrink.ensures.footprints
