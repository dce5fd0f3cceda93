-- Instructions of lines that may give way: none but the first has a label.
use Rattle.std.proofs.Common.{◌≡◌, ℕ, zero, suc, ◌+◌, ◌-◌, ◌<◌, ◌≤◌, ◌==◌, ◌&&◌, true, false, List, [], ◌∷◌, ◌++◌, length, map, drop, Some, refl, ap, ◌∙◌, subst, ◌⊎◌, arith, ne_eqb, if◌then◌else◌}
use Rattle.std.specs.Prelude.{slice_get, nat_le}
use Rattle.std.proofs.lemmas.Bool.{le-leb}
use Rattle.thumb_model.specs.Listing.{Name, Value, Statement, Instruction, Words, ListingLine, Place, Word, Label, places_in, places_of, labels_at, labels_from, is_op_place}
use Rattle.thumb_model.specs.Replaced.{is_op}
use Rattle.thumb_model.specs.Cuts.{AreOps}
use Rattle.thumb_model.proofs.Lists.{get_drop}
use Rattle.thumb_model.proofs.LinesReplaced.{AllOutside, all_back, no_names, outside_of}
use Rattle.edited_listing.specs.Giving.{is_unlabelled, are_free, are_free_from}
pub use Rattle.listing_parser.proofs.ReplaceLemmas.{are_ops}
pub use Rattle.window_runs.proofs.Joined.{drop_past}

unlabelled : (ns : List Name) → ns ≡ [] → is_unlabelled ns ≡ true
unlabelled ns e = ap is_unlabelled e

-- the lines of instructions within the window from place w on
FreeRec : ℕ → ℕ → ℕ → List ListingLine → Type 0
FreeRec w count n ls = (q : ℕ) → w < q → q + n ≤ w + count → AreOps n (places_of ls) → AllOutside w count (labels_from q ls) → are_free n ls ≡ true

free_step : (w count n q : ℕ) (l : ListingLine) (s : Statement) (ls : List ListingLine) → FreeRec w count n ls → FreeRec w count (suc n) ls → w < q → q + suc n ≤ w + count → AreOps (suc n) (places_in s ++ places_of ls) →
    AllOutside w count (labels_at q l.names ++ labels_from (q + length (places_in s)) ls) → (if is_op s then is_unlabelled l.names && are_free n ls else (length (places_in s) == 0) && are_free (suc n) ls) ≡ true
unfolding FreeRec
free_step w count n q l (Instruction i m) ls f g h k o a =
    let none = no_names w count q l.names (labels_from (q + 1) ls) h (omega arith) a in
    rw (unlabelled l.names none) (f (q + 1) (omega arith) (omega arith) o (all_back w count (labels_at q l.names) (labels_from (q + 1) ls) a))
free_step w count n q l (Words (v ∷ vs)) ls f g h k o a = absurd o
free_step w count n q l s ls f g h k o a = g (q + 0) (omega arith) (omega arith) o (all_back w count (labels_at q l.names) (labels_from (q + 0) ls) a)

free : (w count n : ℕ) (ls : List ListingLine) → FreeRec w count n ls
unfolding FreeRec
free w count n [] q h k o a = refl
free w count zero (l ∷ ls) q h k o a = refl
free w count (suc n) (l ∷ ls) q h k o a = free_step w count n q l l.statement ls (free w count n ls) (free w count (suc n) ls) h k o a

-- an instruction doesn't stand among words
pub past_words : (ws : List Value) (ps : List Place) (r n : ℕ) → AreOps (suc n) (drop r (map Word ws ++ ps)) → length (map Word ws) ≤ r
past_words [] ps r n h = omega arith
past_words (w ∷ ws) ps zero n h = absurd h
past_words (w ∷ ws) ps (suc r) n h = let e = past_words ws ps r n h in omega arith

FromRec : ℕ → List ListingLine → Type 0
FromRec n ls = (q r : ℕ) → AreOps (suc n) (drop r (places_of ls)) → AllOutside (q + r) (suc n) (labels_from q ls) → are_free_from r n ls ≡ true

past_step : (n q r : ℕ) (s : Statement) (ns : List Name) (ls : List ListingLine) → FromRec n ls → length (places_in s) ≤ r → AreOps (suc n) (drop r (places_in s ++ places_of ls)) →
    AllOutside (q + r) (suc n) (labels_at q ns ++ labels_from (q + length (places_in s)) ls) → (nat_le (length (places_in s)) r && are_free_from (r - length (places_in s)) n ls) ≡ true
unfolding FromRec
past_step n q r s ns ls f h o a =
    let k : ℕ = length (places_in s) in
    let within : nat_le k r ≡ true = le-leb k r h in
    rw within (f (q + k) (r - k) (subst (AreOps (suc n)) (drop_past (places_in s) (places_of ls) r h) o)
    (subst (λ w. AllOutside w (suc n) (labels_from (q + k) ls)) (let z : q + r ≡ q + k + (r - k) = omega arith in z) (all_back (q + r) (suc n) (labels_at q ns) (labels_from (q + k) ls) a)))

from_step : (n q r : ℕ) (l : ListingLine) (s : Statement) (ls : List ListingLine) → FromRec n ls → AreOps (suc n) (drop r (places_in s ++ places_of ls)) →
    AllOutside (q + r) (suc n) (labels_at q l.names ++ labels_from (q + length (places_in s)) ls) → (if is_op s && (r == 0) then are_free n ls else nat_le (length (places_in s)) r && are_free_from (r - length (places_in s)) n ls) ≡ true
unfolding FromRec FreeRec
from_step n q zero l (Instruction i m) ls f o a =
    free (q + 0) (suc n) n ls (q + 1) (omega arith) (omega arith) o (all_back (q + 0) (suc n) (labels_at q l.names) (labels_from (q + 1) ls) a)
from_step n q (suc r) l (Instruction i m) ls f o a = let past : (suc r == 0) ≡ false = ne_eqb (suc r) 0 (λ z. absurd (omega arith)) in rw past (past_step n q (suc r) (Instruction i m) l.names ls f (omega arith) o a)
from_step n q r l (Words ws) ls f o a = past_step n q r (Words ws) l.names ls f (past_words ws (places_of ls) r n o) o a
from_step n q r l s ls f o a = past_step n q r s l.names ls f (omega arith) o a

free_from : (n : ℕ) (ls : List ListingLine) → FromRec n ls
unfolding FromRec
free_from n [] q r o a = refl
free_from n (l ∷ ls) q r o a = from_step n q r l l.statement ls (free_from n ls) o a

-- a window of instructions with no label within may give way
pub window_free : (r n : ℕ) (ls : List ListingLine) → ((k : ℕ) → k < suc n → is_op_place (slice_get (places_of ls) (r + k)) ≡ true) →
    ((k : ℕ) (l : Label) → slice_get (labels_from 0 ls) k ≡ Some l → (l.place ≤ r) ⊎ (r + suc n ≤ l.place)) → are_free_from r n ls ≡ true
unfolding FromRec
window_free r n ls o a =
    free_from n ls 0 r (are_ops (suc n) (drop r (places_of ls)) (λ k h. ap is_op_place (get_drop r (places_of ls) k (r + k) refl) ∙ o k h))
    (subst (λ w. AllOutside w (suc n) (labels_from 0 ls)) (let z : r ≡ 0 + r = omega arith in z) (outside_of r (suc n) (labels_from 0 ls) a))
