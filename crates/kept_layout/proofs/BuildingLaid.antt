-- Blocks that were built, with their callers: they are the layout of the lines.
use Rattle.std.proofs.Common.{◌≡◌, ◌∙◌, ℕ, ◌<◌, ◌≤◌, ◌^◌, List, length, drop, map, Some, refl, sym, ap, subst, arith}
use Rattle.std.specs.Prelude.{slice_get}
use Rattle.std.proofs.lemmas.Option.{slice_get-map, slice_get_within}
use Rattle.thumb_model.specs.Listing.{ListingLine}
use Rattle.thumb_model.specs.Layout.{Layable}
use Rattle.thumb_model.proofs.Lists.{length_map}
use Rattle.kept_layout.specs.declared.alignments.Loose.TheVariants as sort
use Rattle.kept_layout.specs.declared.block.NameLocation.TheVariants as location
use Rattle.kept_layout.specs.declared.block.Head.{Head}
use Rattle.kept_layout.specs.declared.block.Head.TheVariants as head
use Rattle.kept_layout.specs.declared.block.Aim.{Aim}
use Rattle.kept_layout.specs.declared.block.Block.{Block}
use Rattle.kept_layout.specs.declared.kept.KeptLayout.{KeptLayout}
use Rattle.kept_layout.specs.Blocks.{end_from, literal_last, footprint_of, footprints_of, starts_from, AllReach, AreWalls, Divides, HasSlack, IsAlignment, Footprint}
use Rattle.kept_layout.specs.Kept.{AreCut, AreRooms, IsLaid, Lays}
use Rattle.kept_layout.specs.Cutting.{part_footprints, block_in, mentioned, AreMet, KnowCallers, AreCallers}
use Rattle.kept_layout.specs.Moves.{unaligned}
use Rattle.kept_layout.proofs.BuildingParts.{are_cut}
use Rattle.kept_layout.proofs.BuildingCallers.{are_met}
use Rattle.kept_layout.proofs.BuildingAlignments.{AreFound, are_callers_same, known_same, no_lag, none_shifted, footprints_same, starts_same}
use Rattle.kept_layout.proofs.Reaching.{cut_reaches}
use Rattle.kept_layout.proofs.ShrinkingNotes.{map_length}
use Rattle.kept_layout.proofs.Nearing.{slack_none}

aims_at : (h : Head) (a : Aim) (t : ℕ) → h ≡ head.Aims a → a.to ≡ Some (location.Block t) → mentioned h ≡ Some t
aims_at h a t e f = ap mentioned e ∙ ap block_in f

-- no block was moved yet, and the alignments and loose mentions are known
pub record IsUnmoved (k : KeptLayout) : Type 0 where
  pub border : k.lag.border ≡ 0
  pub shift : k.lag.shift ≡ 0
  pub alignments : (j : ℕ) (s : Block) → slice_get k.blocks.items j ≡ Some s → IsAlignment s.alignment (drop j (footprints_of k.blocks.items))
  pub literals : (i j : ℕ) (s : Footprint) (d : Block) → slice_get (footprints_of k.blocks.items) i ≡ Some s → slice_get k.blocks.items j ≡ Some d → j ≤ literal_last i s.head → Divides 4 d.alignment
  pub loose : AreFound sort.Label k.blocks.items (length k.blocks.items) k.loose.items
  pub absolute : AreFound sort.Address k.blocks.items (length k.blocks.items) k.absolute.items
  pub slack : k.slack ≡ 0
  pub rooms : AreRooms k.rooms.items (footprints_of k.blocks.items)
  pub walls : AreWalls k.walls.items (footprints_of k.blocks.items)

is_laid : (k : KeptLayout) → end_from k.base (footprints_of k.blocks.items) ≤ 2 ^ 29 → map (λ (s : Block). s.at) k.blocks.items ≡ starts_from k.base (footprints_of k.blocks.items) → AllReach k.base (footprints_of k.blocks.items)
    → AreMet (footprints_of k.blocks.items) → KnowCallers (length k.blocks.items) k.blocks.items → AreCallers k.blocks.items → k.here ≡ 0 → k.first ≡ 0 → 0 < length k.blocks.items → IsUnmoved k → IsLaid k
is_laid k end starts reach met known callers here first some unmoved =
    let ss = k.blocks.items in
    let many = length_map footprint_of ss in
    let footprint_at : (i : ℕ) (s : Block) → slice_get ss i ≡ Some s → slice_get (footprints_of ss) i ≡ Some (footprint_of s) = λ i s e. slice_get-map footprint_of ss i ∙ rw e refl in
    record {
      in_code = end;
      starts = none_shifted k.lag 0 ss unmoved.border unmoved.shift ∙ starts;
      border = omega (arith, unmoved.border);
      noted = λ j s e. omega (arith, no_lag k.lag j unmoved.border unmoved.shift);
      alignments = unmoved.alignments;
      literals = unmoved.literals;
      reach = reach;
      targets = λ i t s a e f g. let low = met i t (footprint_of s) (footprint_at i s e) (aims_at s.head a t f g) in omega arith;
      callers = λ i t s d a e f g h. known i t (footprint_of s) d (slice_get_within ss i s e) (footprint_at i s e) (aims_at s.head a t f g) h;
      called = callers;
      loose = λ j s e f. unmoved.loose.all j s (slice_get_within ss j s e) e f;
      loose_within = unmoved.loose.within;
      absolute = λ j s e f. unmoved.absolute.all j s (slice_get_within ss j s e) e f;
      absolute_within = unmoved.absolute.within;
      slack = λ j at s h e f. subst (λ n. HasSlack n at s.head) (sym unmoved.slack) (slack_none (starts_from k.base (footprints_of ss)) at s.head (reach j (footprint_of s) at (footprint_at j s e) f));
      here = omega arith;
      first = rw here first;
      rooms = unmoved.rooms;
      walls = unmoved.walls;
    }

pub lays_lines : (k : KeptLayout) (ls : List ListingLine) → footprints_of k.blocks.items ≡ part_footprints ls → end_from k.base (part_footprints ls) ≤ 2 ^ 29 → map (λ (s : Block). s.at) k.blocks.items ≡ starts_from k.base (part_footprints ls)
    → KnowCallers (length k.blocks.items) k.blocks.items → AreCallers k.blocks.items → k.here ≡ 0 → k.first ≡ 0 → IsUnmoved k → Layable k.base ls → Lays k ls
lays_lines k ls e end starts known callers here first unmoved layable =
    let some : 0 < length (part_footprints ls) = omega arith in
    let many = length_map footprint_of k.blocks.items in
    record {
      laid =
          is_laid k
          (subst (λ (ss : List Footprint). end_from k.base ss ≤ 2 ^ 29) (sym e) end)
          (starts ∙ ap (starts_from k.base) (sym e))
          (subst (AllReach k.base) (sym e) (cut_reaches k.base ls (part_footprints ls) (are_cut ls) layable))
          (subst AreMet (sym e) (are_met ls)) known callers here first
          (omega (arith, ap (λ (ss : List Footprint). length ss) e)) unmoved;
      cut = subst (AreCut ls) (sym e) (are_cut ls);
    }

-- blocks whose callers were noted, and then their alignments
pub lays_built : (k : KeptLayout) (built : List Block) (ls : List ListingLine) → map unaligned k.blocks.items ≡ map unaligned built → footprints_of built ≡ part_footprints ls → end_from k.base (part_footprints ls) ≤ 2 ^ 29 → map (λ (s : Block). s.at) built ≡ starts_from k.base (part_footprints ls)
    → KnowCallers (length built) built → AreCallers built → k.here ≡ 0 → k.first ≡ 0 → IsUnmoved k → Layable k.base ls → Lays k ls
lays_built k built ls same footprints end starts known callers here first unmoved layable =
    let ss = k.blocks.items in
    lays_lines k ls (footprints_same ss built same ∙ footprints) end (starts_same ss built same ∙ starts)
    (subst (λ n. KnowCallers n ss) (sym (map_length unaligned ss built same)) (known_same (length built) ss built same known)) (are_callers_same ss built same callers) here first unmoved layable

-- its alignments were noted, and the loose mentions were found
pub unmoved : (k : KeptLayout) (built found again : List Block) → k.lag.border ≡ 0 → k.lag.shift ≡ 0 → map unaligned k.blocks.items ≡ map unaligned built → ((j : ℕ) (s : Block) → slice_get k.blocks.items j ≡ Some s → IsAlignment s.alignment (drop j (footprints_of built)))
    → ((i j : ℕ) (s : Footprint) (d : Block) → slice_get (footprints_of built) i ≡ Some s → slice_get k.blocks.items j ≡ Some d → j ≤ literal_last i s.head → Divides 4 d.alignment) → found ≡ k.blocks.items → again ≡ k.blocks.items
    → AreFound sort.Label found (length found) k.loose.items → AreFound sort.Address again (length again) k.absolute.items → k.slack ≡ 0 → AreRooms k.rooms.items (footprints_of k.blocks.items) → AreWalls k.walls.items (footprints_of built) → IsUnmoved k
unmoved k built found again border shift same alignments literals e f loose absolute slack rooms walls = record {
  border = border;
  shift = shift;
  alignments = λ j s f. subst (λ (xs : List Footprint). IsAlignment s.alignment (drop j xs)) (sym (footprints_same k.blocks.items built same)) (alignments j s f);
  literals = λ i j s d f. literals i j s d (subst (λ (xs : List Footprint). slice_get xs i ≡ Some s) (footprints_same k.blocks.items built same) f);
  loose = subst (λ (xs : List Block). AreFound sort.Label xs (length xs) k.loose.items) e loose;
  absolute = subst (λ (xs : List Block). AreFound sort.Address xs (length xs) k.absolute.items) f absolute;
  slack = slack;
  rooms = rooms;
  walls = subst (AreWalls k.walls.items) (sym (footprints_same k.blocks.items built same)) walls;
}
