-- A line is determined by what is read from its text.
use Rattle.std.proofs.Common.{◌≡◌, ◌∙◌, ℕ, List, [], ◌∷◌, map, refl, sym, ap, Option, Some, None, Ok, option_map}
use Rattle.ascii_scan.specs.Lines.{lines_in}
use Rattle.thumb_instr.proofs.PartLemmas.{same_parts}
use Rattle.thumb_syntax.specs.Rows.{Shown}
use Rattle.thumb_model.specs.Listing.{Mention, Statement, Instruction, ListingLine}
use Rattle.listing_parser.specs.Grammar.{Bare, Read, read_lines, shown_of, said_of, bare}
use Rattle.listing_parser.specs.Directives.{Plain, ByKind}
use Rattle.listing_parser.specs.Verdicts.{OneListing}

-- ---- lines ----

same_mention : (m n : Option Mention) → option_map {U = List ℕ × ℕ} (λ (x : Mention). (x.name, x.plus)) m ≡ option_map {U = List ℕ × ℕ} (λ (x : Mention). (x.name, x.plus)) n → m ≡ n
same_mention None None e = refl
same_mention None (Some n) e = absurd (cc)
same_mention (Some m) None e = absurd (cc)
same_mention (Some m) (Some n) e =
    let pair : (m.name, m.plus) ≡ (n.name, n.plus) = cc in
    let names : m.name ≡ n.name = ap (λ (x : List ℕ × ℕ). x.0) pair in
    let added : m.plus ≡ n.plus = ap (λ (x : List ℕ × ℕ). x.1) pair in
    let same : m ≡ n = λ i. record { name = names i; plus = added i } in
    ap (λ (x : Mention). Some x) same

same_plain : (s t : Statement) → Plain s ≡ Plain t → s ≡ t
same_plain s t e = cc

same_shown : (s t : Shown) → ByKind s ≡ ByKind t → s ≡ t
same_shown s t e = cc

same_said : (s t : Statement) → said_of s ≡ said_of t → s ≡ t
same_said (Instruction i m) (Instruction j n) e =
    let shown = same_shown (shown_of i m) (shown_of j n) e in
    let instrs : i ≡ j = same_parts i j (ap (λ (x : Shown). x.made) shown) in
    let mentions : m ≡ n = same_mention m n (ap (λ (x : Shown). x.label) shown) in
    cc
same_said (Instruction i m) t e = absurd (cc)
same_said s (Instruction j n) e = absurd (cc)
same_said s t e = same_plain s t e

same_bare : (l m : ListingLine) → bare l ≡ bare m → l ≡ m
same_bare l m e =
    let names : l.names ≡ m.names = ap (λ (b : Bare). b.names) e in
    let statements : l.statement ≡ m.statement = same_said l.statement m.statement (ap (λ (b : Bare). b.said) e) in
    let texts : l.text ≡ m.text = ap (λ (b : Bare). b.text) e in
    let fronts : l.front ≡ m.front = ap (λ (b : Bare). b.front) e in
    λ i. record { names = names i; statement = statements i; text = texts i; front = fronts i }

pub same_lines : (ls ms : List ListingLine) → map bare ls ≡ map bare ms → ls ≡ ms
same_lines [] [] e = refl
same_lines [] (m ∷ ms) e = absurd (cc)
same_lines (l ∷ ls) [] e = absurd (cc)
same_lines (l ∷ ls) (m ∷ ms) e =
    let first : bare l ≡ bare m = cc in
    let others : map bare ls ≡ map bare ms = cc in
    let here : l ≡ m = same_bare l m first in
    let behind : ls ≡ ms = same_lines ls ms others in
    cc

pub same_reads : (bytes : List ℕ) (rs ss : List Read) → read_lines (lines_in bytes) ≡ Ok rs → read_lines (lines_in bytes) ≡ Ok ss → rs ≡ ss
same_reads bytes rs ss e f = let both : Ok rs ≡ Ok ss = sym e ∙ f in cc

pub one_listing : OneListing
one_listing bytes ls ms a b =
    let reads : a.reads ≡ b.reads = same_reads bytes a.reads b.reads a.are.read b.are.read in
    same_lines ls ms (sym a.are.same ∙ ap (map (λ (r : Read). r.line)) reads ∙ b.are.same)
