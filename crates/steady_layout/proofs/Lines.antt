-- Lines at their starts, and where labels lie.
use Rattle.std.proofs.Common.{◌≡◌, ◌∙◌, inl, inr, ℕ, zero, suc, ◌+◌, ◌<◌, ◌≤◌, ◌&&◌, Bool, true, List, [], ◌∷◌, length, map, drop, get_or, drop-cons, add-one, Option, Some, None, refl, ap, arith}
use Rattle.std.proofs.lemmas.Bool.{cases_Bool}
use Rattle.thumb_instr.specs.declared.instr.Instr.{Instr}
use Rattle.thumb_instr.specs.declared.instr.Instr.TheVariants as instr
use Rattle.thumb_model.specs.Listing.{Name, ListingLine}
use Rattle.thumb_model.specs.Layout.{is_among}
use Rattle.listing_parser.specs.declared.line.ListingLine.{ListingLine as Lines}
use Rattle.listing_parser.specs.TableWords.{label_line}
use Rattle.listing_parser.specs.Views.{line_view, statement_view}
use Rattle.listing_parser.proofs.LabelLemmas.{labelled}
use Rattle.steady_layout.specs.declared.starts.Start.{Start}
use Rattle.steady_layout.specs.Steady.{behind, label_start, steady_aim, steady_at, all_steady}
use Rattle.steady_layout.specs.Starts.{starts_from}
use Rattle.listing_parser.proofs.Shared.{next_line}

pub as_many : (here : Start) (ls : List ListingLine) → length (starts_from here ls) ≡ length ls
as_many here [] = refl
as_many here (l ∷ ls) = ap suc (as_many (behind here l.statement) ls)

-- ---- labels ----

-- a label lies where its line begins
pub label_at : (name : Name) (n m k : ℕ) (here other : Start) (ls : List ListingLine) → label_line name n ls ≡ Some m → n + k ≡ m → label_start name here ls ≡ Some (get_or (starts_from here ls) k other)
label_at name n m k here other [] e h = absurd (let bad : None ≡ Some m = e in cc)
label_at name n m zero here other (l ∷ ls) e h = elim (cases_Bool (is_among name l.names)) [
  | inl a ↦ rw a refl
  | inr a ↦ absurd (let next = labelled name (n + 1) m 0 ls (rw a at e) in omega (arith, next.at))
]
label_at name n m (suc k) here other (l ∷ ls) e h = elim (cases_Bool (is_among name l.names)) [
  | inl a ↦ absurd (let same : Some n ≡ Some m = rw a at e in let is : n ≡ m = cc in omega arith)
  | inr a ↦ rw a (label_at name (n + 1) m k (behind here l.statement) other ls (rw a at e) (omega arith))
]

pub no_label : (name : Name) (n : ℕ) (here : Start) (ls : List ListingLine) → label_line name n ls ≡ None → label_start name here ls ≡ None
no_label name n here [] e = refl
no_label name n here (l ∷ ls) e = elim (cases_Bool (is_among name l.names)) [
  | inl a ↦ absurd (let bad : Some n ≡ None = rw a at e in cc)
  | inr a ↦ rw a (no_label name (n + 1) (behind here l.statement) ls (rw a at e))
]

-- where there is a label, no address that is set matters
pub aim_at_label : (base : ℕ) (here : Start) (i : Instr) (label : Start) (set other : Option ℕ) (plus : ℕ) → steady_aim base here i (Some label) set plus ≡ steady_aim base here i (Some label) other plus
aim_at_label base here (instr.Literal t d) label set other plus = refl
aim_at_label base here (instr.Address t d) label set other plus = refl
aim_at_label base here (instr.BranchIf c d) label set other plus = refl
aim_at_label base here (instr.Branch d) label set other plus = refl
aim_at_label base here (instr.Call d) label set other plus = refl
aim_at_label base here i label set other plus = refl

-- ---- lines, each at its start ----

abbrev pub steady_each : (Name → Option Start) → (Name → Option ℕ) → ℕ → List Start → List ListingLine → Bool
steady_each labels sets base [] ls = true
steady_each labels sets base (s ∷ ss) [] = true
steady_each labels sets base (s ∷ ss) (l ∷ ls) = steady_at labels sets base s l.statement && steady_each labels sets base ss ls

pub each_at_start : (labels : Name → Option Start) (sets : Name → Option ℕ) (base : ℕ) (here : Start) (ls : List ListingLine) → steady_each labels sets base (starts_from here ls) ls ≡ all_steady labels sets base here ls
each_at_start labels sets base here [] = refl
each_at_start labels sets base here (l ∷ ls) = ap (λ (b : Bool). steady_at labels sets base here l.statement && b) (each_at_start labels sets base (behind here l.statement) ls)

pub each_next : (labels : Name → Option Start) (sets : Name → Option ℕ) (base : ℕ) (ss : List Start) (ls : List Lines) (n : ℕ) (other : Start) (l : Lines) → n < length ss → n < length ls → l ≡ get_or ls n l
    → steady_each labels sets base (drop n ss) (map line_view (drop n ls)) ≡ (steady_at labels sets base (get_or ss n other) (statement_view l.statement) && steady_each labels sets base (drop (n + 1) ss) (map line_view (drop (n + 1) ls)))
each_next labels sets base ss ls n other l f g e =
    let start : drop n ss ≡ get_or ss n other ∷ drop (n + 1) ss = rw add-one (drop-cons ss n other f) in
    ap (λ (xs : List ListingLine). steady_each labels sets base (drop n ss) xs) (next_line ls n l g e)
    ∙ ap (λ (xs : List Start). steady_each labels sets base xs (line_view l ∷ map line_view (drop (n + 1) ls))) start

pub each_end : (labels : Name → Option Start) (sets : Name → Option ℕ) (base : ℕ) (ss : List Start) (ls : List ListingLine) (n : ℕ) → length ss ≤ n → steady_each labels sets base (drop n ss) ls ≡ true
each_end labels sets base [] ls zero h = refl
each_end labels sets base [] ls (suc n) h = refl
each_end labels sets base (s ∷ ss) ls zero h = absurd (omega arith)
each_end labels sets base (s ∷ ss) ls (suc n) h = each_end labels sets base ss ls n (omega arith)
