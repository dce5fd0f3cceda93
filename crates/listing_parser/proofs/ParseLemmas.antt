-- The steps of `parse`: each answer is a verdict on the text.
use Rattle.std.proofs.Common.{◌≡◌, ◌∙◌, ℕ, List, [], ◌∷◌, map, false, refl, sym, ap, Option, Some, None, Ok, Err}
use Rattle.ascii_scan.specs.Lines.{lines_in}
use Rattle.thumb_model.specs.Listing.{Name, ListingLine}
use Rattle.thumb_model.specs.Layout.{is_among}
use Rattle.listing_parser.specs.declared.errors.ListingFault.TheVariants as kind
use Rattle.listing_parser.specs.declared.errors.ListingError.{ListingError}
use Rattle.listing_parser.specs.declared.errors.ListingError.TheVariants as errors
use Rattle.listing_parser.specs.declared.line.ListingLine.{ListingLine as Lines}
use Rattle.listing_parser.specs.Targets.{DefineOnce, IsFirstAgain, functions, first_target}
use Rattle.listing_parser.specs.Views.{line_view}
use Rattle.listing_parser.specs.ToldView.{read_view}
use Rattle.listing_parser.specs.Grammar.{Bare, Read, read_lines, bare}
use Rattle.listing_parser.specs.Results.{Fails}
use Rattle.listing_parser.specs.Parsing.{AreLines, IsListing, IsRefused, AtLine, AtTwice, AtTarget}
use Rattle.listing_parser.specs.Verdicts.{Parses}
use Rattle.listing_parser.proofs.TargetLemmas.{target_same}

pub refused_line : (bytes : List ℕ) (e : ListingError) → Fails e (read_lines (lines_in bytes)) → Parses bytes (Err e)
refused_line bytes errors.Memory h = tt
refused_line bytes (errors.Line n k) h = AtLine n k h

same_lines : (ls : List Lines) → map (λ (r : Read). r.line) (map read_view ls) ≡ map bare (map line_view ls)
same_lines [] = refl
same_lines (l ∷ ls) = ap (λ (bs : List Bare). bare (line_view l) ∷ bs) (same_lines ls)

are_lines : (bytes : List ℕ) (ls : List Lines) (all : List ListingLine) → read_lines (lines_in bytes) ≡ Ok (map read_view ls) → all ≡ map line_view ls → AreLines bytes (map read_view ls) all
are_lines bytes ls all e h = record { read = e; same = same_lines ls ∙ ap (map bare) (sym h) }

pub defined_twice : (bytes : List ℕ) (ls xs : List Lines) (n : ℕ) → read_lines (lines_in bytes) ≡ Ok (map read_view ls) → xs ≡ ls → IsFirstAgain (map line_view xs) n → IsRefused bytes n kind.Twice
defined_twice bytes ls xs n e h first = AtTwice n (map read_view ls) (map line_view xs) (are_lines bytes ls (map line_view xs) e (ap (map line_view) h)) first

pub listed : (bytes : List ℕ) (ls xs : List Lines) (all : List ListingLine) (fs : List Name) (o : Option ℕ) → read_lines (lines_in bytes) ≡ Ok (map read_view ls) → all ≡ map line_view ls
    → DefineOnce all → xs ≡ ls → ((q : Name) → is_among q fs ≡ is_among q (functions false (map read_view xs))) → o ≡ first_target all fs 1 all → o ≡ None → IsListing bytes all
listed bytes ls xs all fs o e h once same marked target is = record {
  reads = map read_view ls;
  are = are_lines bytes ls all e h;
  once = once;
  aimed = sym (target_same all fs (functions false (map read_view ls)) (λ q. marked q ∙ ap (λ (ys : List Lines). is_among q (functions false (map read_view ys))) same) 1 all) ∙ sym target ∙ is;
}

pub off_target : (bytes : List ℕ) (ls xs : List Lines) (all : List ListingLine) (fs : List Name) (o : Option ℕ) (n : ℕ) → read_lines (lines_in bytes) ≡ Ok (map read_view ls) → all ≡ map line_view ls
    → DefineOnce all → xs ≡ ls → ((q : Name) → is_among q fs ≡ is_among q (functions false (map read_view xs))) → o ≡ first_target all fs 1 all → o ≡ Some n → IsRefused bytes n kind.Target
off_target bytes ls xs all fs o n e h once same marked target is =
    AtTarget n (map read_view ls) all (are_lines bytes ls all e h) once
    (sym (target_same all fs (functions false (map read_view ls)) (λ q. marked q ∙ ap (λ (ys : List Lines). is_among q (functions false (map read_view ys))) same) 1 all) ∙ sym target ∙ is)
