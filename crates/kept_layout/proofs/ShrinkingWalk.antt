-- The walk over the blocks after one that takes fewer bytes: how it ends, and that it ends within the Code region.
use Rattle.std.proofs.Common.{◌≡◌, ◌∙◌, ℕ, suc, ◌+◌, ◌-◌, ◌<◌, ◌≤◌, ◌^◌, List, [], ◌∷◌, ◌++◌, length, map, take, drop, Some, refl, sym, ap, arith, append_assoc, length-append}
use Rattle.std.specs.Prelude.{slice_get}
use Rattle.std.proofs.lemmas.List.{drop_all}
use Rattle.kept_layout.specs.declared.kept.KeptLayout.{KeptLayout}
use Rattle.kept_layout.specs.declared.block.Block.{Block}
use Rattle.kept_layout.specs.Blocks.{end_from, padding_of, footprint_of, footprints_of, starts_from, Divides, IsAlignment, Footprint}
use Rattle.kept_layout.specs.Kept.{IsLaid}
use Rattle.kept_layout.specs.Moves.{end_of, starts_of, IsMovedTo, IsWalked}
use Rattle.kept_layout.proofs.MovingPlaces.{footprint_at}
use Rattle.kept_layout.proofs.ShrinkingPlaces.{count_of, footprints_length}
use Rattle.kept_layout.proofs.ShrinkingStarts.{behind_low, end_drop, end_lessen, starts_drop, starts_lessen, starts_order}
use Rattle.kept_layout.proofs.Together.{divides_on, end_moves, starts_move}
use Rattle.common_lemmas.proofs.Lists.{drop_at}

-- no block begins past the Code region
pub start_in_code : (k : KeptLayout) (j : ℕ) (s : Block) (a : ℕ) → IsLaid k → slice_get k.blocks.items j ≡ Some s → slice_get (starts_of k) j ≡ Some a → a ≤ 2 ^ 29
start_in_code k j s a l e f =
    let low = behind_low k.base (footprints_of k.blocks.items) j (footprint_of s) a (footprint_at k.blocks.items j s e) f in
    let h = l.in_code in
    omega arith

pub walk_begin : (k : KeptLayout) (bytes : ℕ) (s : Block) (a at next : ℕ) → IsLaid k → slice_get k.blocks.items k.here ≡ Some s → slice_get (starts_of k) k.here ≡ Some a → at ≡ a + (padding_of s.head a + (s.bytes - bytes)) → at ≤ 2 ^ 29 → next ≡ suc k.here → IsWalked k bytes [] at next
walk_begin k bytes s a at next l e f g h n =
    let within = l.here in
    let footprint = footprint_at k.blocks.items k.here s e in
    record {
      count = omega arith;
      within = omega arith;
      in_code = h;
      starts = λ gone. starts_lessen k.base (footprints_of k.blocks.items) k.here bytes gone (footprint_of s) a footprint f
          ∙ ap (λ (xs : List ℕ). take (suc k.here) (starts_of k) ++ xs) (ap (λ x. starts_from x (drop (suc k.here) (footprints_of k.blocks.items))) (sym g) ∙ ap (λ x. starts_from at (drop x (footprints_of k.blocks.items))) (sym n));
      ends = λ gone. end_lessen k.base (footprints_of k.blocks.items) k.here bytes gone (footprint_of s) a footprint f
          ∙ (ap (λ x. end_from x (drop (suc k.here) (footprints_of k.blocks.items))) (sym g) ∙ ap (λ x. end_from at (drop x (footprints_of k.blocks.items))) (sym n));
    }

pub walk_on : (k : KeptLayout) (bytes : ℕ) (new : List ℕ) (at next : ℕ) (s : Block) (end following : ℕ) → IsWalked k bytes new at next → slice_get k.blocks.items next ≡ Some s → next < length k.blocks.items → end ≡ at + (padding_of s.head at + s.bytes) → end ≤ 2 ^ 29 → following ≡ suc next
    → IsWalked k bytes (new ++ at ∷ []) end following
walk_on k bytes new at next s end following w e l g h n =
    let one = drop_at (footprints_of k.blocks.items) next (footprint_of s) (footprint_at k.blocks.items next s e) in
    let count = w.count in
    let longer = length-append new (at ∷ []) in
    let step : starts_from at (drop next (footprints_of k.blocks.items)) ≡ at ∷ starts_from end (drop following (footprints_of k.blocks.items)) =
    ap (starts_from at) one ∙ ap (λ (xs : List ℕ). at ∷ xs) (ap (λ x. starts_from x (drop (suc next) (footprints_of k.blocks.items))) (sym g) ∙ ap (λ x. starts_from end (drop x (footprints_of k.blocks.items))) (sym n)) in
    record {
      count = omega arith;
      within = omega arith;
      in_code = h;
      starts = λ gone. w.starts gone ∙ ap (λ (xs : List ℕ). take (suc k.here) (starts_of k) ++ xs) (ap (λ (xs : List ℕ). new ++ xs) step ∙ sym (append_assoc new (at ∷ []) (starts_from end (drop following (footprints_of k.blocks.items)))));
      ends = λ gone. w.ends gone ∙ ap (end_from at) one ∙ (ap (λ x. end_from x (drop (suc next) (footprints_of k.blocks.items))) (sym g) ∙ ap (λ x. end_from end (drop x (footprints_of k.blocks.items))) (sym n));
    }

-- the walk ends where no block is left
pub walk_over : (k : KeptLayout) (bytes : ℕ) (new : List ℕ) (at next : ℕ) → IsWalked k bytes new at next → length k.blocks.items ≤ next → IsMovedTo k bytes new 0
walk_over k bytes new at next w h =
    let count = w.count in
    let within = w.within in
    let footprints = footprints_length k.blocks.items in
    let starts = count_of k in
    let none = drop_all next (footprints_of k.blocks.items) (omega arith) in
    let last = drop_all (end_of k new) (starts_of k) (omega arith) in
    let code = w.in_code in
    record {
      move = record { within = omega arith; low = λ j a l e. omega arith; literals = λ i s e f. (0, refl) };
      starts = λ gone. w.starts gone ∙ ap (λ (xs : List ℕ). take (suc k.here) (starts_of k) ++ (new ++ xs)) (ap (starts_from at) none ∙ sym (ap (map (λ a. a - 0)) last));
      in_code = λ gone. let e = w.ends gone ∙ ap (end_from at) none in omega arith;
    }

-- the walk ends where all blocks that are left move together
pub walk_together : (k : KeptLayout) (bytes : ℕ) (new : List ℕ) (at next old : ℕ) (s : Block) → IsLaid k → IsWalked k bytes new at next → slice_get k.blocks.items next ≡ Some s → slice_get (starts_of k) next ≡ Some old → at ≤ old → Divides s.alignment (old - at) → IsMovedTo k bytes new (old - at)
walk_together k bytes new at next old s l w e f h d =
    let by : ℕ = old - at in
    let rest : List Footprint = drop next (footprints_of k.blocks.items) in
    let alignment : IsAlignment s.alignment rest = l.alignments next s e in
    let less : by ≤ old = omega arith in
    let first : at ≡ old - by = omega arith in
    let count : end_of k new ≡ next = sym w.count in
    let within = w.within in
    let moves = starts_move s.alignment by old rest alignment d less in
    let ends = end_moves s.alignment by old rest alignment d less in
    let all = starts_drop k.base (footprints_of k.blocks.items) next old f in
    let last = end_drop k.base (footprints_of k.blocks.items) next old f in
    let code = l.in_code in
    record {
      move = record {
        within = omega arith;
        low = λ j a m g. let o = starts_order k.base (footprints_of k.blocks.items) next j old a (omega arith) f g in omega arith;
        literals = λ i t x m. divides_on 4 s.alignment by (l.literals i next t s x e (omega arith)) d;
      };
      starts = λ gone. w.starts gone ∙ ap (λ (xs : List ℕ). take (suc k.here) (starts_of k) ++ (new ++ xs)) (ap (λ n. starts_from n rest) first ∙ moves ∙ ap (map (λ a. a - by)) (all ∙ ap (λ n. drop n (starts_of k)) (sym count)));
      in_code = λ gone. let g = w.ends gone ∙ ap (λ n. end_from n rest) first ∙ ends in omega arith;
    }
