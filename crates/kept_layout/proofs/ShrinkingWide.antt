-- The footprints of lines: an instruction that mentions a name has two bytes at least.
use Rattle.std.proofs.Common.{◌≡◌, ◌∙◌, zero, suc, ◌≤◌, List, [], ◌∷◌, Option, Some, None, sym, ap, arith}
use Rattle.thumb_model.specs.Listing.{Name, Statement, Nothing, Instruction, Words, Aligns, Sets, ListingLine}
use Rattle.label_layout.proofs.Shared.{two_least}
use Rattle.kept_layout.specs.declared.block.Aim.{Aim}
use Rattle.kept_layout.specs.declared.block.Head.TheVariants as head
use Rattle.kept_layout.specs.declared.block.NameLocation.{NameLocation}
use Rattle.kept_layout.specs.Blocks.{AreWide, Footprint}
use Rattle.kept_layout.specs.Kept.{bytes_in, bytes_of, first_head, head_of, target_in, AreCut, AreFootprintsOf}

aims_two : (find : Name → Option NameLocation) (s : Statement) (aim : Aim) → head_of find s ≡ head.Aims aim → 2 ≤ bytes_in s
aims_two find (Instruction i None) aim e = absurd (let bad : head.Plain ≡ head.Aims aim = e in cc)
aims_two find (Instruction i (Some m)) aim e = two_least i
aims_two find Nothing aim e = absurd (let bad : head.Plain ≡ head.Aims aim = e in cc)
aims_two find (Words vs) aim e = absurd (let bad : head.Plain ≡ head.Aims aim = e in cc)
aims_two find (Aligns size most) aim e = absurd (let bad : head.Pads size most ≡ head.Aims aim = e in cc)
aims_two find (Sets name address) aim e = absurd (let bad : head.Plain ≡ head.Aims aim = e in cc)

lines_two : (find : Name → Option NameLocation) (ls : List ListingLine) (aim : Aim) → first_head find ls ≡ head.Aims aim → 2 ≤ bytes_of ls
lines_two find [] aim e = absurd (let bad : head.Plain ≡ head.Aims aim = e in cc)
lines_two find (l ∷ ls) aim e = let h = aims_two find l.statement aim e in omega arith

footprints_wide : (find : Name → Option NameLocation) (ps : List (List ListingLine)) (ss : List Footprint) → AreFootprintsOf find ps ss → AreWide ss
footprints_wide find [] [] a k s aim e f = absurd (cc)
footprints_wide find [] (t ∷ ss) a k s aim e f = absurd a
footprints_wide find (p ∷ ps) [] a k s aim e f = absurd a
footprints_wide find (p ∷ ps) (t ∷ ss) a zero s aim e f =
    let same : t ≡ s = cc in
    let own = a.0 in
    let bytes = own.bytes in
    let two = lines_two find p aim (sym own.head ∙ ap (λ (x : Footprint). x.head) same ∙ f) in
    let size = ap (λ (x : Footprint). x.bytes) same in
    omega arith
footprints_wide find (p ∷ ps) (t ∷ ss) a (suc k) s aim e f = footprints_wide find ps ss a.1 k s aim e f

pub cut_wide : (lines : List ListingLine) (footprints : List Footprint) → AreCut lines footprints → AreWide footprints
cut_wide lines footprints c = footprints_wide (target_in c.parts) c.parts footprints c.footprints_are
