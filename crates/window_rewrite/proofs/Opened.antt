-- The numbers of sequences that a rule leaves open don't matter where it is used.
use Rattle.std.proofs.Common.{◌≡◌, ℕ, Bool, true, List, length, map, Option, Some, sym, subst}
use Rattle.thumb_instr.specs.declared.instr.Instr.{Instr}
use Rattle.thumb_instr.specs.Window.{Low, renamed}
use Rattle.thumb_model.specs.Listing.{ListingLine, labels_from, places_of}
use Rattle.thumb_model.specs.Replaced.{replaced_lines}
use Rattle.rule_model.specs.Rules.{Rule, IsSoundRule}
use Rattle.rule_model.specs.Rewriting.{Replacement, used_rule}
use Rattle.listing_parser.specs.Parsing.{own_line}
use Rattle.window_rewrite.specs.TableRewriting.{setting_by}
use Rattle.window_rewrite.specs.Rules.{with_open, IsFit}
use Rattle.window_rewrite.specs.Choices.{Meets}
use Rattle.window_rewrite.specs.Fitting.{FitsWhole, StandsThere}
use Rattle.window_rewrite.specs.Settled.{IsSettled}
use Rattle.window_rewrite.proofs.Applied.{back, back_laid, IsFitted, IsLeft}

pub sound_open : (rule : Rule) (numbers : List ℕ) → IsSoundRule rule → IsSoundRule (with_open rule numbers)
sound_open rule numbers s = record { few = s.few; near = s.near; no_longer = s.no_longer; left = s.left; right = s.right; mask = s.mask; all_named = s.all_named; equal = s.equal }

pub fit_open : (longest : ℕ) (rule : Rule) (numbers : List ℕ) → IsFit longest rule → IsFit longest (with_open rule numbers)
fit_open longest rule numbers f = record { sound = sound_open rule numbers f.sound; canonical = f.canonical; short = f.short }

pub whole_open : (rule : Rule) (numbers : List ℕ) (registers : List Low) (window : List Instr) (live : ℕ) → FitsWhole rule registers window live → FitsWhole (with_open rule numbers) registers window live
whole_open rule numbers registers window live f = record {
  fits = record {
    stands = record { as_many = f.fits.stands.as_many; one_to_one = f.fits.stands.one_to_one; matches = f.fits.stands.matches };
    allowed = f.fits.allowed;
  };
  whole = record { as_many = f.whole.as_many; free = f.whole.free };
}

-- ---- what a use of a rule says of the window that stands there ----

pub fitted_by : (asked : Bool) (costs : Option (List ℕ)) (base longest : ℕ) (table : List (List Rule)) (numbers : List ℕ) (lines : List ListingLine) (place : ℕ) (o : Replacement) (rule : Rule) (window : List Instr) (live : ℕ)
    → used_rule (setting_by costs base table) o ≡ Some (with_open rule numbers) → IsFit longest rule → length rule.left ≡ length window → StandsThere lines place window live → o.place ≡ place → Meets asked (setting_by costs base table) o lines
    → IsFitted lines place rule o.registers window live
fitted_by asked costs base longest table numbers lines place o rule window live used fit long there here m =
    let b = back costs base table lines o (with_open rule numbers) window live used (fit_open longest rule numbers fit).sound long (subst (λ p. StandsThere lines p window live) (sym here) there) m.0 in
    record {
      fits = whole_open (with_open rule numbers) rule.open_numbers o.registers window live b.fits;
      settled = subst (λ p. IsSettled (places_of lines) (labels_from 0 lines) p (length window) (map (renamed o.registers) rule.right)) here b.settled;
    }

pub laid_by : (costs : Option (List ℕ)) (base : ℕ) (table : List (List Rule)) (numbers : List ℕ) (lines : List ListingLine) (place : ℕ) (o : Replacement) (rule : Rule) (window : List Instr)
    → used_rule (setting_by costs base table) o ≡ Some (with_open rule numbers) → length rule.left ≡ length window → o.place ≡ place → Meets true (setting_by costs base table) o lines
    → IsLeft base lines (replaced_lines own_line place (length window) (map (renamed o.registers) rule.right) lines)
laid_by costs base table numbers lines place o rule window used long here m =
    subst (λ p. IsLeft base lines (replaced_lines own_line p (length window) (map (renamed o.registers) rule.right) lines)) here (back_laid costs base table lines o (with_open rule numbers) window used long m)
