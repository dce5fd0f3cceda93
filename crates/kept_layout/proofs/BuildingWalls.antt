-- Walls that were found: up to each of them all are calm.
use Rattle.std.proofs.Common.{◌≡◌, ◌∙◌, inl, inr, ℕ, suc, true, false, List, length, Some, sym, ap, subst, arith}
use Rattle.std.specs.Prelude.{slice_get, slice_set, Contains}
use Rattle.std.proofs.lemmas.Bool.{cases_lt}
use Rattle.std.proofs.lemmas.Option.{slice_get_within}
use Rattle.thumb_model.proofs.Lists.{present_at}
use Rattle.kept_layout.specs.declared.kept.KeptLayout.{KeptLayout}
use Rattle.kept_layout.specs.declared.block.Head.{Head}
use Rattle.kept_layout.specs.declared.block.Head.TheVariants as head
use Rattle.kept_layout.specs.declared.block.Block.{Block}
use Rattle.kept_layout.specs.Blocks.{begins_literal, is_calm, footprint_of, footprints_of, AreWalls, IsCalm, Footprint}
use Rattle.kept_layout.specs.Cutting.{block_in, mentioned, AreCallers, KnowCallers}
use Rattle.kept_layout.proofs.MovingPlaces.{footprint_at}
use Rattle.kept_layout.proofs.ShrinkingNotes.{set_else}
use Rattle.kept_layout.proofs.ShrinkingPlaces.{footprints_length}
use Rattle.common_lemmas.proofs.Lists.{get_set}

-- a block that begins so, whose label no literal mentions
pub is_calm_block : (ss : List Block) (n : ℕ) (s : Block) (callers : List ℕ) → slice_get ss n ≡ Some s → callers ≡ s.callers.items → KnowCallers (length ss) ss → is_calm s.head ≡ true
    → ((j : ℕ) (d : Block) → Contains callers j → slice_get ss j ≡ Some d → begins_literal d.head ≡ false) → IsCalm (footprints_of ss) n
is_calm_block ss n s callers e c known own none = record {
  own = λ x f. let there = footprint_at ss n s e in let same : footprint_of s ≡ x = cc in subst (λ (h : Head). is_calm h ≡ true) (ap (λ (y : Footprint). y.head) same) own;
  label = λ i x a f g t.
      let count = footprints_length ss in
      let within = slice_get_within (footprints_of ss) i x f in
      let there = present_at ss i (omega arith) in
      let footprint = footprint_at ss i there.0 there.1 in
      let same : footprint_of there.0 ≡ x = cc in
      let mentions : mentioned x.head ≡ Some n = ap mentioned g ∙ ap block_in t in
      let called = known i n x s (omega arith) f mentions e in
      let literal = none i there.0 (subst (λ (xs : List ℕ). Contains xs i) (sym c) called) there.1 in
      let head : there.0.head ≡ head.Aims a = ap (λ (y : Footprint). y.head) same ∙ g in
      subst (λ (h : Head). begins_literal h ≡ false) head literal;
}

-- each is its own wall
pub own_walls : (ss : List Block) (numbers : List ℕ) → length numbers ≡ length ss → ((j n : ℕ) → slice_get numbers j ≡ Some n → n ≡ j) → AreWalls numbers (footprints_of ss)
own_walls ss numbers e each n wall f =
    let same = each n wall f in
    let within = slice_get_within numbers n wall f in
    let count = footprints_length ss in
    record { from = omega arith; within = omega arith; calm = λ j h m. absurd (omega arith) }

-- a calm one has the wall of the one behind it
pub walls_on : (footprints : List Footprint) (walls : List ℕ) (n behind wall : ℕ) → AreWalls walls footprints → suc n ≡ behind → slice_get walls behind ≡ Some wall → IsCalm footprints n → AreWalls (slice_set walls n wall) footprints
walls_on footprints walls n behind wall are next e calm i other f = elim (cases_lt i n) [
  | inl before ↦ are i other (sym (set_else walls n i wall (λ x. omega arith)) ∙ f)
  | inr not ↦ elim (cases_lt n i) [
    | inl later ↦ are i other (sym (set_else walls n i wall (λ x. omega arith)) ∙ f)
    | inr same ↦
        let here : i ≡ n = omega arith in
        let is = are behind wall e in
        let low = slice_get_within walls behind wall e in
        let at : slice_get (slice_set walls n wall) n ≡ Some other = ap (slice_get (slice_set walls n wall)) (sym here) ∙ f in
        let set = get_set walls n wall (omega arith) in
        let one : wall ≡ other = cc in
        let from = is.from in
        let within = is.within in
        record {
          from = omega arith;
          within = omega arith;
          calm = λ j h m. elim (cases_lt n j) [
            | inl more ↦ is.calm j (omega arith) (omega arith)
            | inr own ↦ subst (IsCalm footprints) (let this : n ≡ j = omega arith in this) calm
          ];
        }
  ]
]

-- ---- of the blocks that a layout has ----

pub known_read : (ss found : List Block) → found ≡ ss → KnowCallers (length ss) ss → KnowCallers (length found) found
known_read ss found e known = subst (λ (xs : List Block). KnowCallers (length xs) xs) (sym e) known

pub callers_read : (ss found : List Block) → found ≡ ss → AreCallers ss → AreCallers found
callers_read ss found e callers = subst AreCallers (sym e) callers

pub walls_of : (k : KeptLayout) (ss found : List Block) → found ≡ ss → AreWalls k.walls.items (footprints_of found) → AreWalls k.walls.items (footprints_of ss)
walls_of k ss found e walls = subst (λ (xs : List Block). AreWalls k.walls.items (footprints_of xs)) e walls
