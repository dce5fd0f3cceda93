-- How the answer of a call relates to the definition of reading: it has the same value or the same fault, unless memory runs out.
use Rattle.std.specs.Prelude.{◌≡◌, ℕ, Result, Ok, Err, List, [], ◌∷◌, Option, None, option_map}
use Rattle.listing_parser.specs.declared.errors.ListingFault.{ListingFault}
use Rattle.listing_parser.specs.declared.errors.ListingError.{ListingError}
use Rattle.listing_parser.specs.declared.errors.ListingError.TheVariants as errors
use Rattle.ascii_scan.specs.Tokens.{Token, word, mark}
use Rattle.thumb_model.specs.Listing.{Value}
use Rattle.listing_parser.specs.Values.{value}

abbrev pub Fails : {Y : Type 0} → ListingError → Result Y (ℕ × ListingFault) → Type 0
Fails errors.Memory read = Unit {0}
Fails (errors.Line number kind) read = read ≡ Err (number, kind)

abbrev pub Gives : {X Y : Type 0} → (X → Y) → Result X ListingError → Result Y (ℕ × ListingFault) → Type 0
Gives view (Ok x) read = read ≡ Ok (view x)
Gives view (Err e) read = Fails e read

-- the value that the first token is, and the tokens after it
abbrev pub first_value : List Token → Option (Value × List Token)
first_value [] = None
first_value (mark m ∷ ts) = None
first_value (word w ∷ ts) = option_map (λ v. (v, ts)) (value w)
