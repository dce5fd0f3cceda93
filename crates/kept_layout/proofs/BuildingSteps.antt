-- Building blocks line by line: those that were built and those that come of the lines to come are all of them.
use Rattle.std.proofs.Common.{◌≡◌, ◌∙◌, ℕ, zero, suc, ◌+◌, ◌<◌, ◌≤◌, ◌^◌, true, false, List, [], ◌∷◌, ◌++◌, length, map, Option, Some, None, refl, sym, ap, subst, arith, append_assoc}
use Rattle.std.specs.Prelude.{slice_get, Contains}
use Rattle.std.proofs.lemmas.List.{length-append, map-append}
use Rattle.thumb_instr.specs.declared.instr.Instr.{Instr}
use Rattle.thumb_instr.specs.declared.instr.Instr.TheVariants as instr
use Rattle.thumb_model.specs.Listing.{Name, Statement, Nothing, Instruction, Words, Aligns, Sets, ListingLine, Word, places_in, places_of}
use Rattle.thumb_model.specs.Layout.{instr_size}
use Rattle.thumb_model.proofs.Lists.{cons_same, length_map}
use Rattle.kept_layout.specs.declared.block.NameLocation.{NameLocation}
use Rattle.kept_layout.specs.declared.block.Head.{Head}
use Rattle.kept_layout.specs.declared.block.Head.TheVariants as head
use Rattle.kept_layout.specs.declared.block.Block.{Block}
use Rattle.kept_layout.specs.Blocks.{Footprint, footprint_of, footprints_of, behind, starts_from, end_from}
use Rattle.kept_layout.specs.Kept.{begins, bytes_in, bytes_of, first_head, head_of}
use Rattle.kept_layout.specs.Cutting.{front_part, later_parts, parts_of, part_footprint, AreCallers}
use Rattle.kept_layout.proofs.BuildingParts.{bare_plain, front_bare}

-- ---- footprints of the lines to come ----

-- a footprint with more lines
abbrev pub with_lines : Footprint → List ListingLine → Footprint
with_lines s p = record { head = s.head; bytes = s.bytes + bytes_of p; places = s.places + length (places_of p) }

-- where one is begun
abbrev pub footprints_on : (Name → Option NameLocation) → Footprint → List ListingLine → List Footprint
footprints_on find s ls = with_lines s (front_part ls) ∷ map (part_footprint find) (later_parts ls)

footprint_is : (h g : Head) (b c p q : ℕ) → h ≡ g → b ≡ c → p ≡ q → (let s : Footprint = record { head = h; bytes = b; places = p } in s) ≡ record { head = g; bytes = c; places = q }
footprint_is h g b c p q e f i = cc

first_footprints : (find : Name → Option NameLocation) (ls : List ListingLine) → footprints_on find (record { head = head.Plain; bytes = 0; places = 0 }) ls ≡ map (part_footprint find) (parts_of ls)
first_footprints find ls =
    cons_same _ _ (map (part_footprint find) (later_parts ls)) _
    (footprint_is head.Plain (first_head find (front_part ls)) _ _ _ _ (sym (bare_plain find (front_part ls) (front_bare ls))) (omega arith) (omega arith))
    refl

-- behind a line that begins none
more_lines : (find : Name → Option NameLocation) (s t : Footprint) (l : ListingLine) (ls : List ListingLine) → begins l ≡ false → t.head ≡ s.head → t.bytes ≡ s.bytes + bytes_in l.statement → t.places ≡ s.places + length (places_in l.statement)
    → footprints_on find s (l ∷ ls) ≡ footprints_on find t ls
more_lines find s t l ls none h b p =
    let size = length-append (places_in l.statement) (places_of (front_part ls)) in
    rw none (cons_same _ _ (map (part_footprint find) (later_parts ls)) _ (footprint_is s.head t.head _ _ _ _ (sym h) (omega arith) (omega arith)) refl)

-- behind a line that begins one
next_lines : (find : Name → Option NameLocation) (s t : Footprint) (l : ListingLine) (ls : List ListingLine) → begins l ≡ true → t.head ≡ head_of find l.statement → t.bytes ≡ bytes_in l.statement → t.places ≡ length (places_in l.statement)
    → footprints_on find s (l ∷ ls) ≡ s ∷ footprints_on find t ls
next_lines find s t l ls one h b p =
    let size = length-append (places_in l.statement) (places_of (front_part ls)) in
    rw one
    (cons_same _ _ (part_footprint find (l ∷ front_part ls) ∷ map (part_footprint find) (later_parts ls)) _
    (footprint_is s.head s.head _ _ _ _ refl (omega arith) (omega arith))
    (cons_same _ _ (map (part_footprint find) (later_parts ls)) _ (footprint_is (head_of find l.statement) t.head _ _ _ _ (sym h) (omega arith) (omega arith)) refl))

last_lines : (find : Name → Option NameLocation) (s : Footprint) → footprints_on find s [] ≡ s ∷ []
last_lines find s = cons_same _ _ [] _ (footprint_is s.head s.head _ _ _ _ refl (omega arith) (omega arith)) refl

-- ---- places take bytes ----

some_size : (i : Instr) → 1 ≤ instr_size i
some_size (instr.Call d) = omega arith
some_size (instr.Barrier b) = omega arith
some_size (instr.ReadSpecial d s) = omega arith
some_size (instr.WriteMask m) = omega arith
some_size i = omega arith

few_places : (s : Statement) → length (places_in s) ≤ bytes_in s
few_places Nothing = omega arith
few_places (Instruction i m) = some_size i
few_places (Words vs) = let h = length_map Word vs in omega arith
few_places (Aligns size most) = omega arith
few_places (Sets name address) = omega arith

-- ---- blocks without callers ----

abbrev pub AreAlone : List Block → Type 0
AreAlone [] = Unit {0}
AreAlone (s ∷ ss) = (s.callers.items ≡ []) × AreAlone ss

one_more_alone : (ss : List Block) (s : Block) → AreAlone ss → s.callers.items ≡ [] → AreAlone (ss ++ s ∷ [])
one_more_alone [] s a e = (e, tt)
one_more_alone (x ∷ xs) s a e = (a.0, one_more_alone xs s a.1 e)

alone_at : (ss : List Block) (t : ℕ) (d : Block) → AreAlone ss → slice_get ss t ≡ Some d → d.callers.items ≡ []
alone_at [] t d a e = absurd (let bad : None ≡ Some d = e in cc)
alone_at (s ∷ ss) zero d a e = let same : s ≡ d = (let some : Some s ≡ Some d = e in cc) in ap (λ (x : Block). x.callers.items) (sym same) ∙ a.0
alone_at (s ∷ ss) (suc t) d a e = alone_at ss t d a.1 e

none_in : (xs : List ℕ) (i n : ℕ) → xs ≡ [] → Contains xs i → i < n
none_in xs i n e c = absurd (let below = c.1 in let none = ap length e in omega arith)

alone_callers : (ss : List Block) → AreAlone ss → AreCallers ss
alone_callers ss a = λ t i d e c. none_in d.callers.items i (length ss) (alone_at ss t d a e) c

-- ---- steps ----

-- these are done, one is begun, and the rest of the lines is to come
pub record IsBuilding (find : Name → Option NameLocation) (base : ℕ) (footprints : List Footprint) (done : List Block) (last : Block) (rest : List ListingLine) : Type 0 where
  pub are : footprints_of done ++ footprints_on find (footprint_of last) rest ≡ footprints
  pub starts : map (λ (s : Block). s.at) done ++ starts_from last.at (footprints_on find (footprint_of last) rest) ≡ starts_from base footprints
  pub end : end_from last.at (footprints_on find (footprint_of last) rest) ≡ end_from base footprints
  pub at : last.at ≤ 2 ^ 29
  pub bytes : last.bytes ≤ 2 ^ 29
  pub few : last.places ≤ last.bytes
  pub begun : last.callers.items ≡ []
  pub alone : AreAlone done

building_first : (find : Name → Option NameLocation) (base : ℕ) (first : Block) (ls : List ListingLine) → base ≤ 2 ^ 29 → first.at ≡ base → first.head ≡ head.Plain → first.bytes ≡ 0 → first.places ≡ 0 → first.callers.items ≡ []
    → IsBuilding find base (map (part_footprint find) (parts_of ls)) [] first ls
building_first find base first ls low at h b p c =
    let same : footprints_on find (footprint_of first) ls ≡ map (part_footprint find) (parts_of ls) =
    ap (λ (s : Footprint). footprints_on find s ls) (footprint_is first.head head.Plain first.bytes 0 first.places 0 h b p) ∙ first_footprints find ls in
    record {
      are = same;
      starts = ap (λ (a : ℕ). starts_from a (footprints_on find (footprint_of first) ls)) at ∙ ap (starts_from base) same;
      end = ap (λ (a : ℕ). end_from a (footprints_on find (footprint_of first) ls)) at ∙ ap (end_from base) same;
      at = omega arith;
      bytes = omega arith;
      few = omega arith;
      begun = c;
      alone = tt;
    }

pub building_begun : (find : Name → Option NameLocation) (base : ℕ) (done : List Block) (first : Block) (ls rest : List ListingLine) → base ≤ 2 ^ 29 → first.at ≡ base → first.head ≡ head.Plain → first.bytes ≡ 0 → first.places ≡ 0 → first.callers.items ≡ []
    → done ≡ [] → rest ≡ ls → IsBuilding find base (map (part_footprint find) (parts_of ls)) done first rest
building_begun find base done first ls rest low at h b p c d r =
    subst (λ (ss : List Block). IsBuilding find base (map (part_footprint find) (parts_of ls)) ss first rest) (sym d)
    (subst (λ (more : List ListingLine). IsBuilding find base (map (part_footprint find) (parts_of ls)) [] first more) (sym r) (building_first find base first ls low at h b p c))

-- what a line adds to a block
pub record IsAdded (last : Block) (s : Statement) (next : Block) : Type 0 where
  pub at : next.at ≡ last.at
  pub head : next.head ≡ last.head
  pub bytes : next.bytes ≡ last.bytes + bytes_in s
  pub in_code : next.bytes ≤ 2 ^ 29
  pub places : next.places ≡ last.places + length (places_in s)
  pub callers : next.callers ≡ last.callers

pub building_more : (find : Name → Option NameLocation) (base : ℕ) (footprints : List Footprint) (done : List Block) (last next : Block) (l : ListingLine) (ls : List ListingLine) → IsBuilding find base footprints done last (l ∷ ls) → begins l ≡ false → IsAdded last l.statement next
    → IsBuilding find base footprints done next ls
building_more find base footprints done last next l ls b none a =
    let same = more_lines find (footprint_of last) (footprint_of next) l ls none a.head a.bytes a.places in
    let few = few_places l.statement in
    record {
      are = ap (λ (ss : List Footprint). footprints_of done ++ ss) (sym same) ∙ b.are;
      starts =
          ap (λ (at : ℕ). map (λ (s : Block). s.at) done ++ starts_from at (footprints_on find (footprint_of next) ls)) a.at
          ∙ ap (λ (ss : List Footprint). map (λ (s : Block). s.at) done ++ starts_from last.at ss) (sym same) ∙ b.starts;
      end = ap (λ (at : ℕ). end_from at (footprints_on find (footprint_of next) ls)) a.at ∙ ap (end_from last.at) (sym same) ∙ b.end;
      at = omega (arith, a.at, b.at);
      bytes = a.in_code;
      few = omega (arith, few, a.bytes, a.places, b.few);
      begun = rw a.callers b.begun;
      alone = b.alone;
    }

-- a block that a line begins behind another
pub record IsNext (find : Name → Option NameLocation) (last : Block) (s : Statement) (next : Block) : Type 0 where
  pub at : next.at ≡ behind last.at (footprint_of last)
  pub low : next.at ≤ 2 ^ 29
  pub head : next.head ≡ head_of find s
  pub bytes : next.bytes ≡ bytes_in s
  pub in_code : next.bytes ≤ 2 ^ 29
  pub places : next.places ≡ length (places_in s)
  pub callers : next.callers.items ≡ []

pub building_next : (find : Name → Option NameLocation) (base : ℕ) (footprints : List Footprint) (done dones : List Block) (last next : Block) (l : ListingLine) (ls : List ListingLine) → IsBuilding find base footprints done last (l ∷ ls) → begins l ≡ true → dones ≡ done ++ last ∷ []
    → IsNext find last l.statement next → IsBuilding find base footprints dones next ls
building_next find base footprints done dones last next l ls b one d n =
    let same = next_lines find (footprint_of last) (footprint_of next) l ls one n.head n.bytes n.places in
    let few = few_places l.statement in
    let rest = footprints_on find (footprint_of next) ls in
    record {
      are =
          ap (λ (ss : List Block). footprints_of ss ++ rest) d ∙ ap (λ (ss : List Footprint). ss ++ rest) (map-append footprint_of done (last ∷ []))
          ∙ append_assoc (footprints_of done) (footprint_of last ∷ []) rest ∙ ap (λ (ss : List Footprint). footprints_of done ++ ss) (sym same) ∙ b.are;
      starts =
          ap (λ (ss : List Block). map (λ (s : Block). s.at) ss ++ starts_from next.at rest) d
          ∙ ap (λ (xs : List ℕ). xs ++ starts_from next.at rest) (map-append (λ (s : Block). s.at) done (last ∷ []))
          ∙ append_assoc (map (λ (s : Block). s.at) done) (last.at ∷ []) (starts_from next.at rest)
          ∙ ap (λ (a : ℕ). map (λ (s : Block). s.at) done ++ last.at ∷ starts_from a rest) n.at
          ∙ ap (λ (ss : List Footprint). map (λ (s : Block). s.at) done ++ starts_from last.at ss) (sym same) ∙ b.starts;
      end = ap (λ (a : ℕ). end_from a rest) n.at ∙ ap (end_from last.at) (sym same) ∙ b.end;
      at = n.low;
      bytes = n.in_code;
      few = omega (arith, few, n.bytes, n.places);
      begun = n.callers;
      alone = rw d (one_more_alone done last b.alone b.begun);
    }

-- all of them, where no line is left
pub record IsBuilt (base : ℕ) (footprints : List Footprint) (all : List Block) : Type 0 where
  pub are : footprints_of all ≡ footprints
  pub starts : map (λ (s : Block). s.at) all ≡ starts_from base footprints
  pub end : end_from base footprints ≤ 2 ^ 29
  pub callers : AreCallers all

pub building_last : (find : Name → Option NameLocation) (base end : ℕ) (footprints : List Footprint) (done all : List Block) (last : Block) → IsBuilding find base footprints done last [] → all ≡ done ++ last ∷ [] → end ≡ behind last.at (footprint_of last) → end ≤ 2 ^ 29
    → IsBuilt base footprints all
building_last find base end footprints done all last b d e low =
    let same = last_lines find (footprint_of last) in
    record {
      are = ap footprints_of d ∙ map-append footprint_of done (last ∷ []) ∙ ap (λ (ss : List Footprint). footprints_of done ++ ss) (sym same) ∙ b.are;
      starts =
          ap (map (λ (s : Block). s.at)) d ∙ map-append (λ (s : Block). s.at) done (last ∷ [])
          ∙ ap (λ (ss : List Footprint). map (λ (s : Block). s.at) done ++ starts_from last.at ss) (sym same) ∙ b.starts;
      end = (let whole : end_from base footprints ≡ behind last.at (footprint_of last) = sym b.end ∙ ap (end_from last.at) same in omega (arith, whole, e, low));
      callers = rw d (alone_callers (done ++ last ∷ []) (one_more_alone done last b.alone b.begun));
    }
