-- Refusal lines as the code formats them, piece by piece, are those of the definitions.
use Rattle.std.proofs.Common.{◌≡◌, ◌++◌, ◌∷◌, [], ℕ, ℤ, List, append_assoc, ◌∙◌}
use Rattle.std.specs.Prelude.{codes}
use Rattle.std.specs.Fmt.{decimal, signed_decimal}
use Rattle.listing_parser.specs.declared.errors.ListingFault.{ListingFault}
use Rattle.audit_cli.specs.declared.refusal.Refusal.TheVariants as refusal
use Rattle.audit_cli.specs.Printed.{kind_number, refusal_line}

-- three pieces and a newline, from the left and from the right
pub three : (a b c : List ℕ) → ((a ++ b) ++ c) ++ 10 ∷ [] ≡ a ++ (b ++ (c ++ 10 ∷ []))
three a b c = append_assoc (a ++ b) c (10 ∷ []) ∙ append_assoc a b (c ++ 10 ∷ [])

four : (a b c d : List ℕ) → (((a ++ b) ++ c) ++ d) ++ 10 ∷ [] ≡ a ++ (b ++ (c ++ (d ++ 10 ∷ [])))
four a b c d = append_assoc ((a ++ b) ++ c) d (10 ∷ []) ∙ three_more a b c (d ++ 10 ∷ []) where
  three_more : (a b c e : List ℕ) → ((a ++ b) ++ c) ++ e ≡ a ++ (b ++ (c ++ e))
  three_more a b c e = append_assoc (a ++ b) c e ∙ append_assoc a b (c ++ e)

pub refused_line_is : (line : ℕ) (k : ListingFault) → refusal_line (refusal.Listing line k) ≡ codes "refused listing " ++ (decimal line ++ 32 ∷ (decimal (kind_number k) ++ 10 ∷ []))
refused_line_is line k = three (codes "refused listing") (32 ∷ decimal line) (32 ∷ decimal (kind_number k))

pub refused_range_is : (line : ℕ) (distance : ℤ) → refusal_line (refusal.Range line distance) ≡ codes "refused listing " ++ (decimal line ++ (codes " 4 " ++ (signed_decimal distance ++ 10 ∷ [])))
refused_range_is line distance = four (codes "refused listing") (32 ∷ decimal line) (codes " 4 ") (signed_decimal distance)

pub refused_align_is : (line address : ℕ) → refusal_line (refusal.Align line address) ≡ codes "refused listing " ++ (decimal line ++ (codes " 5 " ++ (decimal address ++ 10 ∷ [])))
refused_align_is line address = four (codes "refused listing") (32 ∷ decimal line) (codes " 5") (32 ∷ decimal address)
