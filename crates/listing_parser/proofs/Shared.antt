-- Lemmas that crates above share.
use Rattle.listing_parser.specs.Views.{line_view}
use Rattle.listing_parser.specs.declared.line.ListingLine.{ListingLine as Lines}
use Rattle.std.proofs.Common.{List, add-one, ap, drop, get_or, length, map, suc, sym, ℕ, ◌+◌, ◌<◌, ◌∷◌, ◌≡◌}
use Rattle.std.proofs.Math.Seq.{drop-cons}

pub next_line : (ls : List Lines) (i : ℕ) (l : Lines) → i < length ls → l ≡ get_or ls i l → map line_view (drop i ls) ≡ line_view l ∷ map line_view (drop (i + 1) ls)
next_line ls i l h e = rw (add-one, drop-cons ls i l) (ap (λ (y : Lines). line_view y ∷ map line_view (drop (suc i) ls)) (sym e))
