-- Lines that are cut into parts can be laid out where whatever the parts' footprints mention is within reach, and nowhere else.
use Rattle.std.proofs.Common.{◌≡◌, ◌∙◌, inl, inr, ℕ, zero, suc, ◌+◌, true, false, List, [], ◌∷◌, Option, Some, None, refl, sym, ap, subst, arith, true≢false}
use Rattle.std.specs.Prelude.{slice_get}
use Rattle.std.proofs.lemmas.Bool.{cases_Bool}
use Rattle.std.proofs.lemmas.Option.{same_Some}
use Rattle.thumb_model.specs.Listing.{Name, Statement, Nothing, Instruction, Words, Aligns, Sets, ListingLine}
use Rattle.thumb_model.specs.Layout.{aim_fault, cleared, end_of, fault_at, is_among, label_address, lies_in, or_else, set_address, size_at, Layable}
use Rattle.kept_layout.specs.declared.block.NameLocation.{NameLocation}
use Rattle.kept_layout.specs.Blocks.{address_of, behind, head_fault, padding_of, starts_from, AllReach, Footprint}
use Rattle.kept_layout.specs.Kept.{bytes_in, bytes_of, first_names, head_of, is_fixed, joined, part_of, target_at, target_in, AreBare, AreCut, AreFootprintsOf, IsFootprintOf}
use Rattle.kept_layout.proofs.Faults.{label_append, none_found, none_there, right_append, right_split, NoFault}

-- ---- bare lines ----

fixed_size : (s : Statement) (at : ℕ) → is_fixed s ≡ true → size_at s at ≡ bytes_in s
fixed_size Nothing at e = refl
fixed_size (Instruction i mention) at e = refl
fixed_size (Words vs) at e = refl
fixed_size (Aligns size most) at e = absurd (true≢false (sym e))
fixed_size (Sets name address) at e = refl

fixed_right : (lies : Name → Option ℕ) (at : ℕ) (s : Statement) → is_fixed s ≡ true → fault_at lies at s ≡ None
fixed_right lies at Nothing e = refl
fixed_right lies at (Instruction i None) e = refl
fixed_right lies at (Instruction i (Some m)) e = absurd (true≢false (sym e))
fixed_right lies at (Words vs) e = refl
fixed_right lies at (Aligns size most) e = refl
fixed_right lies at (Sets name address) e = refl

-- they take the same bytes wherever they lie
pub bare_end : (at : ℕ) (ls : List ListingLine) → AreBare ls → end_of at ls ≡ at + bytes_of ls
bare_end at [] h = omega arith
bare_end at (l ∷ ls) h =
    let size = fixed_size l.statement at h.1 in
    let rest = bare_end (at + size_at l.statement at) ls h.2 in
    omega arith

pub bare_label : (name : Name) (at : ℕ) (ls : List ListingLine) → AreBare ls → label_address name at ls ≡ None
bare_label name at [] h = refl
bare_label name at (l ∷ ls) h = rw h.0 (bare_label name (at + size_at l.statement at) ls h.2)

pub bare_right : (lies : Name → Option ℕ) (at : ℕ) (ls : List ListingLine) → AreBare ls → NoFault lies at ls
bare_right lies at [] h = tt
bare_right lies at (l ∷ ls) h = (fixed_right lies at l.statement h.1, bare_right lies (at + size_at l.statement at) ls h.2)

-- ---- one part ----

head_size : (find : Name → Option NameLocation) (at : ℕ) (s : Statement) → size_at s at ≡ padding_of (head_of find s) at + bytes_in s
head_size find at Nothing = omega arith
head_size find at (Instruction i None) = omega arith
head_size find at (Instruction i (Some m)) = omega arith
head_size find at (Words vs) = omega arith
head_size find at (Aligns size most) = omega arith
head_size find at (Sets name address) = omega arith

-- it ends where its footprint does
pub part_end : (find : Name → Option NameLocation) (at : ℕ) (p : List ListingLine) (s : Footprint) → IsFootprintOf find p s → end_of at p ≡ behind at s
part_end find at [] s h = rw h.head (let bytes = h.bytes in omega arith)
part_end find at (l ∷ ls) s h = rw h.head (
    let bytes = h.bytes in
    let size = head_size find at l.statement in
    let rest = bare_end (at + size_at l.statement at) ls h.bare in
    omega arith
    )

-- its labels lie where it begins
label_first : (name : Name) (at : ℕ) (p : List ListingLine) → is_among name (first_names p) ≡ true → label_address name at p ≡ Some at
label_first name at [] e = absurd (true≢false (sym e))
label_first name at (l ∷ ls) e = rw e refl

label_none : (find : Name → Option NameLocation) (name : Name) (at : ℕ) (p : List ListingLine) (s : Footprint) → IsFootprintOf find p s → is_among name (first_names p) ≡ false → label_address name at p ≡ None
label_none find name at [] s h e = refl
label_none find name at (l ∷ ls) s h e = rw e (bare_label name (at + size_at l.statement at) ls h.bare)

-- where a name lies is where its target does
abbrev AreFound : (Name → Option ℕ) → (Name → Option NameLocation) → List ℕ → Type 0
AreFound lies find starts = (name : Name) → lies name ≡ address_of starts (find name)

head_fault_is : (lies : Name → Option ℕ) (find : Name → Option NameLocation) (starts : List ℕ) (at : ℕ) (s : Statement) → AreFound lies find starts → fault_at lies at s ≡ head_fault starts at (head_of find s)
head_fault_is lies find starts at Nothing h = refl
head_fault_is lies find starts at (Instruction i None) h = refl
head_fault_is lies find starts at (Instruction i (Some m)) h = ap (λ to. aim_fault at i to m.plus) (h m.name)
head_fault_is lies find starts at (Words vs) h = refl
head_fault_is lies find starts at (Aligns size most) h = refl
head_fault_is lies find starts at (Sets name address) h = refl

-- only what stands first in it can have a fault
part_reaches : (lies : Name → Option ℕ) (find : Name → Option NameLocation) (starts : List ℕ) (at : ℕ) (p : List ListingLine) (s : Footprint) → AreFound lies find starts → IsFootprintOf find p s → NoFault lies at p → head_fault starts at s.head ≡ None
part_reaches lies find starts at [] s f h n = rw h.head refl
part_reaches lies find starts at (l ∷ ls) s f h n = rw h.head (sym (head_fault_is lies find starts at l.statement f) ∙ n.0)

part_right : (lies : Name → Option ℕ) (find : Name → Option NameLocation) (starts : List ℕ) (at : ℕ) (p : List ListingLine) (s : Footprint) → AreFound lies find starts → IsFootprintOf find p s → head_fault starts at s.head ≡ None → NoFault lies at p
part_right lies find starts at [] s f h e = tt
part_right lies find starts at (l ∷ ls) s f h e =
    (head_fault_is lies find starts at l.statement f ∙ ap (head_fault starts at) (sym h.head) ∙ e, bare_right lies (at + size_at l.statement at) ls h.bare)

-- ---- where names lie ----

-- the starts from the n-th on are these
abbrev AreFrom : ℕ → List ℕ → List ℕ → Type 0
AreFrom n starts rest = (k : ℕ) → slice_get starts (n + k) ≡ slice_get rest k

from_first : (starts : List ℕ) → AreFrom 0 starts starts
from_first starts k = ap (slice_get starts) (let e : 0 + k ≡ k = omega arith in e)

from_next : (n at : ℕ) (starts rest : List ℕ) → AreFrom n starts (at ∷ rest) → AreFrom (n + 1) starts rest
from_next n at starts rest h k = ap (slice_get starts) (let e : n + 1 + k ≡ n + suc k = omega arith in e) ∙ h (suc k)

set_so : (starts : List ℕ) (set : Option ℕ) → or_else None set ≡ address_of starts (target_at None set)
set_so starts None = refl
set_so starts (Some a) = refl

-- a name lies where the first part begins that has it for a label, or where it is set
labels_lie : (find : Name → Option NameLocation) (name : Name) (set : Option ℕ) (starts : List ℕ) (n at : ℕ) (parts : List (List ListingLine)) (footprints : List Footprint) → AreFootprintsOf find parts footprints → AreFrom n starts (starts_from at footprints)
    → or_else (label_address name at (joined parts)) set ≡ address_of starts (target_at (part_of name n parts) set)
labels_lie find name set starts n at [] [] h f = set_so starts set
labels_lie find name set starts n at [] (s ∷ ss) h f = absurd h
labels_lie find name set starts n at (p ∷ ps) [] h f = absurd h
labels_lie find name set starts n at (p ∷ ps) (s ∷ ss) h f =
    let rest = labels_lie find name set starts (n + 1) (behind at s) ps ss h.1 (from_next n at starts (starts_from (behind at s) ss) f) in
    let whole = ap (λ o. or_else o set) (label_append name at p (joined ps)) in
    elim (cases_Bool (is_among name (first_names p))) [
      | inl e ↦ rw e (whole ∙ rw (label_first name at p e) (sym (f 0) ∙ ap (slice_get starts) (let same : n + 0 ≡ n = omega arith in same)))
      | inr e ↦ rw e (whole ∙ rw (label_none find name at p s h.0 e, part_end find at p s h.0) rest)
    ]

names_lie : (base : ℕ) (parts : List (List ListingLine)) (footprints : List Footprint) → AreFootprintsOf (target_in parts) parts footprints → AreFound (lies_in base (joined parts)) (target_in parts) (starts_from base footprints)
names_lie base parts footprints h name =
    labels_lie (target_in parts) name (cleared (set_address name (joined parts))) (starts_from base footprints) 0 base parts footprints h (from_first (starts_from base footprints))

-- ---- all parts ----

-- what each one mentions is within reach, where the first begins at an address
abbrev HeadsReach : List ℕ → ℕ → List Footprint → Type 0
HeadsReach starts at [] = Unit {0}
HeadsReach starts at (s ∷ ss) = (head_fault starts at s.head ≡ None) × HeadsReach starts (behind at s) ss

parts_reach : (lies : Name → Option ℕ) (find : Name → Option NameLocation) (starts : List ℕ) (at : ℕ) (parts : List (List ListingLine)) (footprints : List Footprint) → AreFound lies find starts → AreFootprintsOf find parts footprints → NoFault lies at (joined parts) → HeadsReach starts at footprints
parts_reach lies find starts at [] [] f h n = tt
parts_reach lies find starts at [] (s ∷ ss) f h n = absurd h
parts_reach lies find starts at (p ∷ ps) [] f h n = absurd h
parts_reach lies find starts at (p ∷ ps) (s ∷ ss) f h n =
    let r = right_split lies at p (joined ps) n in
    let rest = subst (λ a. NoFault lies a (joined ps)) (part_end find at p s h.0) r.1 in
    (part_reaches lies find starts at p s f h.0 r.0, parts_reach lies find starts (behind at s) ps ss f h.1 rest)

parts_right : (lies : Name → Option ℕ) (find : Name → Option NameLocation) (starts : List ℕ) (at : ℕ) (parts : List (List ListingLine)) (footprints : List Footprint) → AreFound lies find starts → AreFootprintsOf find parts footprints → HeadsReach starts at footprints → NoFault lies at (joined parts)
parts_right lies find starts at [] [] f h r = tt
parts_right lies find starts at [] (s ∷ ss) f h r = absurd h
parts_right lies find starts at (p ∷ ps) [] f h r = absurd h
parts_right lies find starts at (p ∷ ps) (s ∷ ss) f h r =
    let rest = parts_right lies find starts (behind at s) ps ss f h.1 r.1 in
    right_append lies at p (joined ps) (part_right lies find starts at p s f h.0 r.0) (subst (λ a. NoFault lies a (joined ps)) (sym (part_end find at p s h.0)) rest)

-- each one by its number
abbrev EachReaches : List ℕ → ℕ → List Footprint → Type 0
EachReaches starts base footprints = (k : ℕ) (s : Footprint) (at : ℕ) → slice_get footprints k ≡ Some s → slice_get (starts_from base footprints) k ≡ Some at → head_fault starts at s.head ≡ None

each_reaches : (starts : List ℕ) (base : ℕ) (footprints : List Footprint) → HeadsReach starts base footprints → EachReaches starts base footprints
each_reaches starts base [] h k s at e f = absurd (cc)
each_reaches starts base (x ∷ xs) h zero s at e f = subst (λ a. head_fault starts a s.head ≡ None) (same_Some base at f) (subst (λ (y : Footprint). head_fault starts base y.head ≡ None) (same_Some x s e) h.0)
each_reaches starts base (x ∷ xs) h (suc k) s at e f = each_reaches starts (behind base x) xs h.1 k s at e f

heads_reach : (starts : List ℕ) (base : ℕ) (footprints : List Footprint) → EachReaches starts base footprints → HeadsReach starts base footprints
heads_reach starts base [] h = tt
heads_reach starts base (s ∷ ss) h = (h zero s base refl refl, heads_reach starts (behind base s) ss (λ k. h (suc k)))

-- ---- lines that are cut ----

pub cut_reaches : (base : ℕ) (lines : List ListingLine) (footprints : List Footprint) → AreCut lines footprints → Layable base lines → AllReach base footprints
cut_reaches base lines footprints c h =
    let lies : Name → Option ℕ = lies_in base (joined c.parts) in
    let find : Name → Option NameLocation = target_in c.parts in
    let starts : List ℕ = starts_from base footprints in
    let right = none_there lies 1 base (joined c.parts) (subst (Layable base) c.is h) in
    each_reaches starts base footprints (parts_reach lies find starts base c.parts footprints (names_lie base c.parts footprints c.footprints_are) c.footprints_are right)

pub reaches_cut : (base : ℕ) (lines : List ListingLine) (footprints : List Footprint) → AreCut lines footprints → AllReach base footprints → Layable base lines
reaches_cut base lines footprints c h =
    let lies : Name → Option ℕ = lies_in base (joined c.parts) in
    let find : Name → Option NameLocation = target_in c.parts in
    let starts : List ℕ = starts_from base footprints in
    let right = parts_right lies find starts base c.parts footprints (names_lie base c.parts footprints c.footprints_are) c.footprints_are (heads_reach starts base footprints h) in
    subst (Layable base) (sym c.is) (none_found lies 1 base (joined c.parts) right)
