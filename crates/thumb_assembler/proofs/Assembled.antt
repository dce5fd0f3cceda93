-- The invariant of the loop over a listing's lines.
use Rattle.std.proofs.Common.{◌≡◌, ◌∙◌, ℕ, ◌+◌, ◌%◌, ◌<◌, ◌≤◌, true, List, [], ◌∷◌, ◌++◌, length, map, drop, get_or, refl, sym, ap, subst, arith, Option, None, append_assoc, append-nil}
use Rattle.std.proofs.lemmas.Bool.{and_parts}
use Rattle.thumb_model.specs.Listing.{Name, ListingLine}
use Rattle.thumb_model.specs.Layout.{Layable, size_at, end_of, lies_in, fault_at, faults_from, or_first}
use Rattle.thumb_model.proofs.Shared.{first_none}
use Rattle.thumb_assembler.specs.Bytes.{AreLineBytes, IsSetBy, AreImage, flaws_from, first_flaw}
use Rattle.std.proofs.Math.ListN.{drop_of_length-le}
use Rattle.listing_parser.specs.declared.line.ListingLine.{ListingLine as Lines}
use Rattle.listing_parser.specs.Views.{line_view}
use Rattle.label_layout.proofs.Sums.{at_end}
use Rattle.thumb_assembler.specs.declared.errors.Flaw.{Flaw}
use Rattle.thumb_assembler.specs.Fair.{is_fair, are_fair}
use Rattle.thumb_assembler.specs.Pushes.{placed, PushedLaid}
use Rattle.thumb_assembler.proofs.Places.{size_even}
use Rattle.listing_parser.proofs.Shared.{next_line}

-- the bytes so far, followed by those of the lines that are left, are the bytes of all lines
pub Completes : ℕ → List ListingLine → ℕ → List ListingLine → List ℕ → Type 0
Completes base all at left bytes = (set : Name → ℕ) → IsSetBy all set → (rest : List ℕ) → AreLineBytes (placed base set all) at left rest → AreLineBytes (placed base set all) base all (bytes ++ rest)

-- the lines up to this number have these bytes, and those that are left begin at this address
pub record Progress (base : ℕ) (all : List ListingLine) (number at : ℕ) (left : List ListingLine) (bytes : List ℕ) : Type 0 where
  pub end : end_of at left ≡ end_of base all
  pub flaws : flaws_from base all (number + 1) left ≡ first_flaw base all
  pub faults : faults_from (lies_in base all) (number + 1) at left ≡ None
  pub fair : are_fair all left ≡ true
  pub even : at % 2 ≡ 0
  pub done : Completes base all at left bytes

pub progress_start : (base : ℕ) (all : List ListingLine) → Layable base all → are_fair all all ≡ true → base % 2 ≡ 0 → Progress base all 0 base all []
unfolding Completes
progress_start base all layable fair even = record { end = refl; flaws = refl; faults = layable; fair = fair; even = even; done = λ set h rest g. g }

pub record Next (base : ℕ) (all : List ListingLine) (at : ℕ) (l : ListingLine) : Type 0 where
  pub fair : is_fair all l.statement ≡ true
  pub fault : fault_at (lies_in base all) at l.statement ≡ None
  pub even : at % 2 ≡ 0
  pub within : at ≤ end_of base all

pub next_is : (base : ℕ) (all : List ListingLine) (number at : ℕ) (l : ListingLine) (left : List ListingLine) (bytes : List ℕ) → Progress base all number at (l ∷ left) bytes → Next base all at l
next_is base all number at l left bytes p =
    let end = p.end in
    let least = at_end at (l ∷ left) in
    record {
      fair = (and_parts (is_fair all l.statement) (are_fair all left) p.fair).0;
      fault = (first_none (number + 1) (fault_at (lies_in base all) at l.statement) _ p.faults).0;
      even = p.even;
      within = omega arith;
    }

pub progress_more : (base : ℕ) (all : List ListingLine) (number at : ℕ) (l : ListingLine) (left : List ListingLine) (old new : List ℕ) → at ≡ base + length old → Progress base all number at (l ∷ left) old → PushedLaid base all at l.statement old new
    → Progress base all (number + 1) (base + length new) left new
unfolding Completes
progress_more base all number at l left old new is p h =
    let n = next_is base all number at l left old p in
    let size = size_even all l.statement at n.fair n.even in
    let long = h.long in
    subst (λ (k : ℕ). Progress base all (number + 1) k left new) (let e : at + size_at l.statement at ≡ base + length new = omega arith in e)
    (record {
      end = p.end;
      flaws = sym (ap (λ (o : Option Flaw). or_first (number + 1) o (flaws_from base all (number + 1 + 1) left)) h.sound) ∙ p.flaws;
      faults = (first_none (number + 1) (fault_at (lies_in base all) at l.statement) _ p.faults).1;
      fair = (and_parts (is_fair all l.statement) (are_fair all left) p.fair).1;
      even = (let e : (at + size_at l.statement at) % 2 ≡ 0 = (let even = n.even in omega arith) in e);
      done = λ set g rest r.
          (let here = h.pushed set g in
          subst (λ (bytes : List ℕ). AreLineBytes (placed base set all) base all (bytes ++ rest)) (sym here.pushed)
          (subst (AreLineBytes (placed base set all) base all) (sym (append_assoc old here.here rest)) (p.done set g (here.here ++ rest) (here.here, rest, refl, here.are, r))));
    })

pub progress_ends : (base : ℕ) (all : List ListingLine) (number at : ℕ) (bytes : List ℕ) → Progress base all number at [] bytes → AreImage base all bytes
unfolding Completes
progress_ends base all number at bytes p set h = subst (AreLineBytes (placed base set all) base all) (append-nil bytes) (p.done set h [] refl)

-- ---- as the loop over the lines needs it ----

pub progress_first : (base first : ℕ) (all ls : List ListingLine) (bytes : List ℕ) → first ≡ base → ls ≡ all → bytes ≡ [] → Layable base all → are_fair all all ≡ true → base % 2 ≡ 0 → Progress first all 0 (first + length bytes) ls bytes
progress_first base first all ls bytes e f g layable fair even =
    let none = ap length g in
    subst (λ (b : ℕ). Progress b all 0 (b + length bytes) ls bytes) (sym e)
    (subst (λ (xs : List ListingLine). Progress base all 0 (base + length bytes) xs bytes) (sym f)
    (subst (λ (bs : List ℕ). Progress base all 0 (base + length bs) all bs) (sym g)
    (subst (λ (n : ℕ). Progress base all 0 n all []) (let h : base ≡ base + 0 = omega arith in h) (progress_start base all layable fair even))))

pub progress_here : (base : ℕ) (all : List ListingLine) (number at : ℕ) (ls : List Lines) (i : ℕ) (l : Lines) (bytes : List ℕ) → i < length ls → l ≡ get_or ls i l → Progress base all number at (map line_view (drop i ls)) bytes
    → Progress base all number at (line_view l ∷ map line_view (drop (i + 1) ls)) bytes
progress_here base all number at ls i l bytes h e p = subst (λ (xs : List ListingLine). Progress base all number at xs bytes) (next_line ls i l h e) p

pub next_here : (base : ℕ) (all : List ListingLine) (number at : ℕ) (ls : List Lines) (i : ℕ) (l : Lines) (bytes : List ℕ) → i < length ls → l ≡ get_or ls i l → Progress base all number at (map line_view (drop i ls)) bytes → Next base all at (line_view l)
next_here base all number at ls i l bytes h e p = next_is base all number at (line_view l) (map line_view (drop (i + 1) ls)) bytes (progress_here base all number at ls i l bytes h e p)

pub progress_next : (base : ℕ) (all : List ListingLine) (number at : ℕ) (ls : List Lines) (i : ℕ) (l : Lines) (old new : List ℕ) → i < length ls → l ≡ get_or ls i l → at ≡ base + length old → Progress base all number (base + length old) (map line_view (drop i ls)) old
    → PushedLaid base all at (line_view l).statement old new → Progress base all (number + 1) (base + length new) (map line_view (drop (i + 1) ls)) new
progress_next base all number at ls i l old new h e is p pushed =
    progress_more base all number (base + length old) (line_view l) (map line_view (drop (i + 1) ls)) old new refl (progress_here base all number (base + length old) ls i l old h e p)
    (subst (λ (n : ℕ). PushedLaid base all n (line_view l).statement old new) is pushed)

pub ends_here : (base : ℕ) (all : List ListingLine) (number at : ℕ) (ls : List Lines) (i : ℕ) (bytes : List ℕ) → length ls ≤ i → Progress base all number at (map line_view (drop i ls)) bytes → Progress base all number at [] bytes
ends_here base all number at ls i bytes h p = subst (λ (xs : List ListingLine). Progress base all number at xs bytes) (ap (map line_view) (drop_of_length-le ls h)) p
