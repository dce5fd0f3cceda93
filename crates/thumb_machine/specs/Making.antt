-- For contracts of the code that makes a program: the model's mention of a borrowed one, and the lesser of two places.
use Rattle.std.specs.Prelude.{ℕ, Option, Some, None, option_map}
use Rattle.std.specs.Borrow.{Bor}
use Rattle.listing_parser.specs.declared.line.Mention.{Mention as Mentions}
use Rattle.listing_parser.specs.Views.{mention_view}
use Rattle.thumb_model.specs.Listing.{Mention}
use Rattle.thumb_model.specs.Steps.{least_or}

abbrev pub mention_of : Option (Bor Mentions) → Option Mention
mention_of m = option_map (λ r. mention_view r.now) m

-- the lesser of two places, or the one that there is
abbrev pub merged : Option ℕ → Option ℕ → Option ℕ
merged None b = b
merged (Some p) b = least_or p b
