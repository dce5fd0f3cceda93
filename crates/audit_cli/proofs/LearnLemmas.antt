-- The windows of a listing meet what the learner requires of windows.
use Rattle.std.proofs.Common.{◌≡◌, ℕ, zero, suc, ◌+◌, ◌≤◌, List, [], ◌∷◌, ◌++◌, length, map, refl, sym, ap, subst, arith, Result, Ok, Err}
use Rattle.std.specs.Prelude.{All}
use Rattle.std.specs.Result.{result_map_both}
use Rattle.std.specs.List.{flat_map}
use Rattle.std.proofs.lemmas.List.Elements.{All-append, All-cons, All-head, All-map, All-tail}
use Rattle.thumb_instr.specs.declared.instr.Instr.{Instr}
use Rattle.thumb_instr.specs.declared.items.Mask.{Mask}
use Rattle.thumb_model.specs.Listing.{ListingLine, places_of}
use Rattle.seq_enum.specs.Alphabet.{numbers_from, IsOver}
use Rattle.seq_enum.specs.declared.cost_text.CostLine.{CostLine}
use Rattle.seq_enum.specs.Costs.{IsCostText, IsRefusedCosts}
use Rattle.seq_enum.specs.ReadingCosts.{ReadsCosts}
use Rattle.window_harvest.specs.Harvest.{Pair, WindowSpan, pair_of, spot_of, spots_at, spots, IsPairAt, ArePairs, none, passed, given, AreFirsts, ended, known, new, AreHarvest}
use Rattle.table_audit.specs.Canonical.{IsSideOf}
use Rattle.table_audit.proofs.CanonicalForms.{form_is_side}
use Rattle.rule_table.specs.Table.{Table}
use Rattle.table_learn.specs.Learnt.{Settings, Window}
use Rattle.table_learn.specs.Given.{window_of, IsWindow, AreWindows}
use Rattle.command_runs.specs.Plans.{Outcome, Refuses}
use Rattle.audit_cli.specs.declared.refusal.Refusal.{Refusal}
use Rattle.audit_cli.specs.declared.refusal.Refusal.TheVariants as refusal
use Rattle.audit_cli.specs.Printed.{refusal_line}
use Rattle.audit_cli.specs.Learn.{LearnArguments, limits_of, window_for, AreWindowsOf, kept_table, IsUnlearnt, IsLearnt, LinesLearn, unlearnt, learnt, Learns, LearnsByCosts, unpriced, priced_so, priced}
use Rattle.audit_cli.specs.Answers.{Teach}

-- ---- windows ----

-- a span of a window with no more instructions than the settings allow
abbrev IsShort : Settings → WindowSpan → Type 0
IsShort s spot = spot.count ≤ s.left

counts_short : (first count left : ℕ) → first + count ≤ left + 1 → All (λ n. n ≤ left) (numbers_from first count)
unfolding numbers_from
counts_short first zero left few = λ k d lt. absurd (omega arith)
counts_short first (suc count) left few = All-cons (λ n. n ≤ left) first (numbers_from (suc first) count) (omega arith) (counts_short (suc first) count left (omega arith))

place_short : (s : Settings) (place : ℕ) → All (IsShort s) (spots_at s.left place)
place_short s place = All-map (IsShort s) (spot_of place) (numbers_from 1 s.left) (counts_short 1 s.left s.left (omega arith))

places_short : (s : Settings) (places : List ℕ) → All (IsShort s) (flat_map (spots_at s.left) places)
places_short s [] = λ k d lt. absurd (omega arith)
places_short s (p ∷ ps) = All-append (IsShort s) (spots_at s.left p) (flat_map (spots_at s.left) ps) (place_short s p) (places_short s ps)

pair_is_window : (s : Settings) (lines : List ListingLine) (spot : WindowSpan) (pair : Pair) → IsShort s spot → IsPairAt (limits_of s) lines spot pair → IsWindow s (window_for pair)
pair_is_window s lines spot pair short at =
    let side : IsSideOf at.window pair.seq pair.mask = form_is_side at.window at.items pair.seq at.registers pair.mask at.renamable at.canonical in
    let long = side.as_long in
    let many = at.stands.as_many in
    record {
      canonical = side.canonical;
      short = omega arith;
      few = subst (λ (n : ℕ). n ≤ s.regs) (sym side.counted) at.few;
      over = subst (λ (n : ℕ). IsOver n s.pool pair.seq) (sym side.counted) at.over;
      mask = side.over;
    }

abbrev IsGood : Settings → Pair → Type 0
IsGood s pair = IsWindow s (window_for pair)

pairs_are : (s : Settings) (lines : List ListingLine) (places : List WindowSpan) (pairs : List Pair) → All (IsShort s) places → ArePairs (limits_of s) lines places pairs → All (IsGood s) pairs
pairs_are s lines _ _ short none = λ k d lt. absurd (omega arith)
pairs_are s lines _ _ short (passed spot rest pairs lacks are) = pairs_are s lines rest pairs (All-tail (IsShort s) spot rest short) are
pairs_are s lines _ _ short (given spot rest pair pairs at are) =
    All-cons (IsGood s) pair pairs (pair_is_window s lines spot pair (All-head (IsShort s) spot rest short) at) (pairs_are s lines rest pairs (All-tail (IsShort s) spot rest short) are)

firsts_are : (s : Settings) (seen pairs firsts : List Pair) → All (IsGood s) seen → All (IsGood s) pairs → AreFirsts seen pairs firsts → All (IsGood s) firsts
firsts_are s _ _ _ good more (ended seen) = good
firsts_are s _ _ _ good more (known seen pair pairs firsts there are) = firsts_are s seen pairs firsts good (All-tail (IsGood s) pair pairs more) are
firsts_are s _ _ _ good more (new seen pair pairs firsts other are) =
    firsts_are s (seen ++ pair ∷ []) pairs firsts
    (All-append (IsGood s) seen (pair ∷ []) good (All-cons (IsGood s) pair [] (All-head (IsGood s) pair pairs more) (λ k d lt. absurd (omega arith))))
    (All-tail (IsGood s) pair pairs more) are

harvest_good : (s : Settings) (lines : List ListingLine) (pairs : List Pair) → AreHarvest (limits_of s) lines pairs → All (IsGood s) pairs
harvest_good s lines pairs h =
    firsts_are s [] h.pairs pairs (λ k d lt. absurd (omega arith))
    (pairs_are s lines (spots s.left (length (places_of lines))) h.pairs (places_short s (numbers_from 0 (length (places_of lines)))) h.are) h.once

-- ---- as the code has them ----

windows_are : (ps : List (List Instr × Mask)) → map window_of ps ≡ map window_for (map pair_of ps)
windows_are [] = refl
windows_are (p ∷ ps) = ap (λ (ws : List Window). window_of p ∷ ws) (windows_are ps)

pub harvest_windows : (s : Settings) (lines : List ListingLine) (ps : List (List Instr × Mask)) → AreHarvest (limits_of s) lines (map pair_of ps) → AreWindows s (map window_of ps)
harvest_windows s lines ps h =
    subst (λ (ws : List Window). All (IsWindow s) ws) (sym (windows_are ps)) (All-map (IsWindow s) window_for (map pair_of ps) (harvest_good s lines (map pair_of ps) h))

pub are_windows_of : (s : Settings) (lines : List ListingLine) (ps : List (List Instr × Mask)) → AreHarvest (limits_of s) lines (map pair_of ps) → AreWindowsOf s lines (map window_of ps)
are_windows_of s lines ps h = record { pairs = map pair_of ps; harvest = h; same = windows_are ps }

-- ---- outcomes ----

pub is_unlearnt : (to : LearnArguments) (lines : List ListingLine) (r : Refusal) (o : Outcome) → IsUnlearnt to.settings lines r → o ≡ Refuses (refusal_line r) → LinesLearn to lines o
is_unlearnt to lines r o h is = subst (LinesLearn to lines) (sym is) (unlearnt r h)

pub is_learnt : (to : LearnArguments) (lines : List ListingLine) (t : Table) (o : Outcome) → IsLearnt to.settings lines t → o ≡ kept_table to.out t → LinesLearn to lines o
is_learnt to lines t o h is = subst (LinesLearn to lines) (sym is) (learnt t h)

-- ---- the result of learning ----

pub is_taught : {A : Type 0} (view : A → Table) (s : Settings) (lines : List ListingLine) (x : Result A Refusal) (a : A) → Teach s lines (result_map_both view (λ e. e) x) → x ≡ Ok a → IsLearnt s lines (view a)
is_taught {A} view s lines x a h e = subst (λ (y : Result A Refusal). Teach s lines (result_map_both view (λ r. r) y)) e h

pub not_taught : {A : Type 0} (view : A → Table) (s : Settings) (lines : List ListingLine) (x : Result A Refusal) (r : Refusal) → Teach s lines (result_map_both view (λ e. e) x) → x ≡ Err r → IsUnlearnt s lines r
not_taught {A} view s lines x r h e = subst (λ (y : Result A Refusal). Teach s lines (result_map_both view (λ q. q) y)) e h

-- ---- the result of reading costs ----

pub is_priced : (to : LearnArguments) (text bytes costs : List ℕ) (x : Result (List ℕ) CostLine) (o : Outcome) → ReadsCosts bytes x → x ≡ Ok costs → Learns (priced costs to) text o → LearnsByCosts to text bytes o
is_priced to text bytes costs x o h e k = priced_so costs (let is : IsCostText bytes costs = subst (ReadsCosts bytes) e h in is) o k

pub is_unpriced : (to : LearnArguments) (text bytes : List ℕ) (line : CostLine) (x : Result (List ℕ) CostLine) (o : Outcome) → ReadsCosts bytes x → x ≡ Err line → o ≡ Refuses (refusal_line (refusal.Costs line.number))
    → LearnsByCosts to text bytes o
is_unpriced to text bytes line x o h e is =
    let refused : IsRefusedCosts bytes line.number = subst (ReadsCosts bytes) e h in
    subst (LearnsByCosts to text bytes) (sym is) (unpriced line.number refused)
