-- A listing's tables after one line more.
use Rattle.std.proofs.Common.{◌≡◌, ◌+◌, ◌++◌, ◌∷◌, [], List, Option, Some, None, Bool, true, false, ℕ, length, length-append, append_assoc, arith, refl}
use Rattle.std.specs.Prelude.{if◌then◌else◌}
use Rattle.thumb_syntax.specs.Operands.{or_else}
use Rattle.thumb_model.specs.Layout.{is_among, set_address, set_in}
use Rattle.thumb_model.specs.Listing.{Name, ListingLine, Statement, Nothing, Instruction, Words, Aligns, Sets, places_in, places_of}
use Rattle.listing_parser.specs.declared.index.Passed.{Passed}
use Rattle.listing_parser.specs.declared.index.Spot.{Spot}
use Rattle.listing_parser.specs.TableWords.{label_line, passed_from, spots_at, spots_from}

pub spots_next : (old new : List Spot) (n : ℕ) (l : ListingLine) (rest : List ListingLine) → new ≡ old ++ spots_at n 0 (places_in l.statement) → new ++ spots_from (n + 1) rest ≡ old ++ spots_from n (l ∷ rest)
spots_next old new n l rest h = rw h (append_assoc old (spots_at n 0 (places_in l.statement)) (spots_from (n + 1) rest))

pub passed_next : (old new : List Passed) (places more : ℕ) (l : ListingLine) (rest : List ListingLine) → new ≡ old ++ record { places = places } ∷ [] → more ≡ length (places_in l.statement) → new ++ passed_from (places + more) rest ≡ old ++ passed_from places (l ∷ rest)
passed_next old new places more l rest h k = rw h (rw k (append_assoc old (record { places = places } ∷ []) (passed_from (places + length (places_in l.statement)) rest)))

pub places_next : (places more : ℕ) (l : ListingLine) (rest : List ListingLine) → more ≡ length (places_in l.statement) → places + more + length (places_of rest) ≡ places + length (places_of (l ∷ rest))
places_next places more l rest h = let whole = length-append (places_in l.statement) (places_of rest) in omega (arith, whole, h)

pub labels_next : (name : Name) (old new : Option ℕ) (n : ℕ) (l : ListingLine) (rest : List ListingLine) → new ≡ or_else old (if is_among name l.names then Some n else None) → or_else new (label_line name (n + 1) rest) ≡ or_else old (label_line name n (l ∷ rest))
labels_next name old new n l rest h = rw h (at old (is_among name l.names))
  where
    at : (o : Option ℕ) (b : Bool) → or_else (or_else o (if b then Some n else None)) (label_line name (n + 1) rest) ≡ or_else o (if b then Some n else label_line name (n + 1) rest)
    at (Some x) b = refl
    at None true = refl
    at None false = refl

pub addresses_next : (name : Name) (old new : Option ℕ) (l : ListingLine) (rest : List ListingLine) → new ≡ or_else old (set_in name l.statement None) → or_else new (set_address name rest) ≡ or_else old (set_address name (l ∷ rest))
addresses_next name old new l rest h = rw h (at old l.statement)
  where
    set : (b : Bool) (address : ℕ) → or_else (if b then Some address else None) (set_address name rest) ≡ (if b then Some address else set_address name rest)
    set true address = refl
    set false address = refl

    at : (o : Option ℕ) (s : Statement) → or_else (or_else o (set_in name s None)) (set_address name rest) ≡ or_else o (set_in name s (set_address name rest))
    at (Some x) s = refl
    at None Nothing = refl
    at None (Instruction i mention) = refl
    at None (Words vs) = refl
    at None (Aligns size most) = refl
    at None (Sets other address) = set _ address
