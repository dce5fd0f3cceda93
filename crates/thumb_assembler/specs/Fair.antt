-- What parsing ensures of a listing's statements, and what assembling requires of a listing with its layout.
use Rattle.std.specs.Prelude.{◌≡◌, ℕ, ◌%◌, ◌==◌, ◌&&◌, ◌||◌, Bool, true, List, Option, option_map}
use Rattle.std.specs.List.{list_all}
use Rattle.thumb_syntax.specs.Whole.{is_whole}
use Rattle.thumb_model.specs.Listing.{Mention, Statement, Nothing, Instruction, Words, Aligns, Sets, ListingLine}
use Rattle.listing_parser.specs.Targets.{is_aimed_at}
use Rattle.label_layout.specs.Addresses.{Addresses, AreAddresses}

-- the mention of an instruction as the label of its text
abbrev pub label_in : Option Mention → Option (List ℕ × ℕ)
label_in mention = option_map (λ m. (m.name, m.plus)) mention

-- an alignment to multiples of the size keeps addresses even
abbrev pub keeps_even : ℕ → Bool
keeps_even size = (size == 1) || (size % 2 == 0)

-- an instruction mentions a name exactly where its text has one, and one that suits it; an alignment is to 1 or an even number
abbrev pub is_fair : List ListingLine → Statement → Bool
is_fair all Nothing = true
is_fair all (Instruction i mention) = is_whole i (label_in mention) && is_aimed_at all i mention
is_fair all (Words vs) = true
is_fair all (Aligns size most) = keeps_even size
is_fair all (Sets name address) = true

abbrev pub are_fair : List ListingLine → List ListingLine → Bool
are_fair all ls = list_all (λ l. is_fair all l.statement) ls

-- fair lines, with their addresses from an even base
pub record IsReady (all : List ListingLine) (a : Addresses) : Type 0 where
  pub addresses : AreAddresses all a
  pub even : a.base % 2 ≡ 0
  pub fair : are_fair all all ≡ true
