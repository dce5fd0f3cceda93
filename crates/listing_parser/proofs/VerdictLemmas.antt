-- A text has one verdict.
use Rattle.std.proofs.Common.{◌≡◌, ◌∙◌, ℕ, List, map, false, refl, sym, subst, ap, Some, None, Result, Ok, Err}
use Rattle.ascii_scan.specs.Lines.{lines_in}
use Rattle.thumb_model.specs.Listing.{ListingLine}
use Rattle.listing_parser.specs.declared.errors.ListingFault.{ListingFault}
use Rattle.listing_parser.specs.Targets.{DefineOnce, IsFirstAgain, functions, first_target}
use Rattle.listing_parser.proofs.TwiceLemmas.{once_none, first_some}
use Rattle.listing_parser.specs.Grammar.{Read, read_lines}
use Rattle.listing_parser.specs.Parsing.{AreLines, AtLine, AtTwice, AtTarget}
use Rattle.listing_parser.specs.Verdicts.{NotBoth, RefusedOnce, OneVerdict}
use Rattle.listing_parser.proofs.MadeLemmas.{same_lines, same_reads}

-- the lines that a text is read as
same_text : (bytes : List ℕ) (rs ss : List Read) (ls ms : List ListingLine) → AreLines bytes rs ls → AreLines bytes ss ms → ls ≡ ms
same_text bytes rs ss ls ms a b = same_lines ls ms (sym a.same ∙ ap (map (λ (r : Read). r.line)) (same_reads bytes rs ss a.read b.read) ∙ b.same)

-- a text whose lines are read has none outside the grammar
all_read : (bytes : List ℕ) (rs : List Read) (ls : List ListingLine) (n : ℕ) (k : ListingFault) → AreLines bytes rs ls → read_lines (lines_in bytes) ≡ Err (n, k) → ⊥
all_read bytes rs ls n k a e = let bad : Ok rs ≡ Err (n, k) = sym a.read ∙ e in absurd (cc)

-- the first line that defines a name again, and the first whose name isn't what it needs
first_once : (bytes : List ℕ) (rs ss : List Read) (ls ms : List ListingLine) (n : ℕ) → AreLines bytes rs ls → AreLines bytes ss ms → DefineOnce ls → IsFirstAgain ms n → ⊥
first_once bytes rs ss ls ms n a b once f = let bad : None ≡ Some n = sym (once_none ms (subst DefineOnce (same_text bytes rs ss ls ms a b) once)) ∙ first_some ms n f in absurd (cc)

one_first : (bytes : List ℕ) (rs ss : List Read) (ls ms : List ListingLine) (n m : ℕ) → AreLines bytes rs ls → AreLines bytes ss ms → IsFirstAgain ls n → IsFirstAgain ms m → n ≡ m
one_first bytes rs ss ls ms n m a b f g =
    let both : Some n ≡ Some m = sym (first_some ms n (subst (λ (xs : List ListingLine). IsFirstAgain xs n) (same_text bytes rs ss ls ms a b) f)) ∙ first_some ms m g in
    cc

same_target : (bytes : List ℕ) (rs ss : List Read) (ls ms : List ListingLine) → AreLines bytes rs ls → AreLines bytes ss ms → first_target ls (functions false rs) 1 ls ≡ first_target ms (functions false ss) 1 ms
same_target bytes rs ss ls ms a b =
    ap (λ (x : List ListingLine). first_target x (functions false rs) 1 x) (same_text bytes rs ss ls ms a b)
    ∙ ap (λ (x : List Read). first_target ms (functions false x) 1 ms) (same_reads bytes rs ss a.read b.read)

not_both : NotBoth
not_both bytes lines n k is (AtLine m j e) = all_read bytes is.reads lines m j is.are e
not_both bytes lines n k is (AtTwice m rs ls a e) = absurd (first_once bytes is.reads rs lines ls m is.are a is.once e)
not_both bytes lines n k is (AtTarget m rs ls a once e) = let bad : None ≡ Some m = sym is.aimed ∙ same_target bytes is.reads rs lines ls is.are a ∙ e in absurd (cc)

same_place : (n m : ℕ) (k j : ListingFault) → (let x : Result (List Read) (ℕ × ListingFault) = Err (n, k) in x) ≡ Err (m, j) → (n ≡ m) × (k ≡ j)
same_place n m k j e =
    let pair : (let x : ℕ × ListingFault = (n, k) in x) ≡ (m, j) = cc in
    (ap (λ (p : ℕ × ListingFault). p.0) pair, ap (λ (p : ℕ × ListingFault). p.1) pair)

refused_once : RefusedOnce
refused_once bytes n m k j (AtLine n' k' e) (AtLine m' j' f) = same_place n' m' k' j' (sym e ∙ f)
refused_once bytes n m k j (AtLine n' k' e) (AtTwice m' ss ms b f) = absurd (all_read bytes ss ms n' k' b e)
refused_once bytes n m k j (AtLine n' k' e) (AtTarget m' ss ms b once f) = absurd (all_read bytes ss ms n' k' b e)
refused_once bytes n m k j (AtTwice n' rs ls a e) (AtLine m' j' f) = absurd (all_read bytes rs ls m' j' a f)
refused_once bytes n m k j (AtTwice n' rs ls a e) (AtTwice m' ss ms b f) = (one_first bytes rs ss ls ms n' m' a b e f, refl)
refused_once bytes n m k j (AtTwice n' rs ls a e) (AtTarget m' ss ms b once f) = absurd (first_once bytes ss rs ms ls n' b a once e)
refused_once bytes n m k j (AtTarget n' rs ls a once e) (AtLine m' j' f) = absurd (all_read bytes rs ls m' j' a f)
refused_once bytes n m k j (AtTarget n' rs ls a once e) (AtTwice m' ss ms b f) = absurd (first_once bytes rs ss ls ms m' a b once f)
refused_once bytes n m k j (AtTarget n' rs ls a once e) (AtTarget m' ss ms b other f) = let both : Some n' ≡ Some m' = sym e ∙ same_target bytes rs ss ls ms a b ∙ f in (cc, refl)

pub one_verdict : OneVerdict
one_verdict = record { not_both = not_both; refused_once = refused_once }
