-- Lines that are changed in place.
use Rattle.std.proofs.Common.{◌≡◌, ◌∙◌, ℕ, zero, suc, ◌+◌, Bool, true, false, List, [], ◌∷◌, ◌++◌, length, map, take, drop, Option, Some, refl, sym, ap, subst, arith}
use Rattle.std.specs.Prelude.{slice_get, slice_set}
use Rattle.std.proofs.lemmas.Option.{same_Some}
use Rattle.thumb_model.specs.Listing.{Name, ListingLine, places_in, places_of}
use Rattle.thumb_model.specs.Replaced.{is_op}
use Rattle.kept_places.specs.Marks.{is_gone}
use Rattle.listing_parser.specs.Views.{line_view}
use Rattle.listing_parser.specs.declared.line.ListingLine.{ListingLine as Lines}
use Rattle.listing_draft.specs.Drafted.{aim_at, line_now, now_of}
use Rattle.listing_draft.proofs.Emits.{places_pass, emitted_op, emitted_other}

-- ---- lists that are cut ----

none_taken : (xs : List ListingLine) → take 0 xs ≡ []
none_taken [] = refl
none_taken (x ∷ xs) = refl

-- what stands from a line on
pub from_line : (ys : List Lines) (n m : ℕ) (y : Lines) → slice_get ys n ≡ Some y → m ≡ n + 1 → drop n (map line_view ys) ≡ line_view y ∷ drop m (map line_view ys)
from_line [] n m y e f = absurd (cc)
from_line (x ∷ ys) zero zero y e f = absurd (omega arith)
from_line (x ∷ ys) zero (suc m) y e f =
    let same : x ≡ y = same_Some x y e in
    ap (λ z. line_view z ∷ map line_view ys) same ∙ ap (λ k. line_view y ∷ drop k (map line_view ys)) (let z : 0 ≡ m = omega arith in z)
from_line (x ∷ ys) (suc n) zero y e f = absurd (omega arith)
from_line (x ∷ ys) (suc n) (suc m) y e f = from_line ys n m y e (omega arith)

-- a line more
to_line : (ys : List Lines) (n m : ℕ) (y : Lines) → slice_get ys n ≡ Some y → m ≡ n + 1 → take m (map line_view ys) ≡ take n (map line_view ys) ++ line_view y ∷ []
to_line [] n m y e f = absurd (cc)
to_line (x ∷ ys) zero zero y e f = absurd (omega arith)
to_line (x ∷ ys) zero (suc m) y e f =
    ap (λ k. line_view x ∷ take k (map line_view ys)) (let z : m ≡ 0 = omega arith in z)
    ∙ ap (λ (ls : List ListingLine). line_view x ∷ ls) (none_taken (map line_view ys))
    ∙ ap (λ z. line_view z ∷ []) (same_Some x y e)
to_line (x ∷ ys) (suc n) zero y e f = absurd (omega arith)
to_line (x ∷ ys) (suc n) (suc m) y e f = ap (λ (ls : List ListingLine). line_view x ∷ ls) (to_line ys n m y e (omega arith))

-- a line is replaced by another one
to_set : (ys : List Lines) (n m : ℕ) (y new : Lines) → slice_get ys n ≡ Some y → m ≡ n + 1 → take m (map line_view (slice_set ys n new)) ≡ take n (map line_view ys) ++ line_view new ∷ []
to_set [] n m y new e f = absurd (cc)
to_set (x ∷ ys) zero zero y new e f = absurd (omega arith)
to_set (x ∷ ys) zero (suc m) y new e f =
    ap (λ k. line_view new ∷ take k (map line_view ys)) (let z : m ≡ 0 = omega arith in z) ∙ ap (λ (ls : List ListingLine). line_view new ∷ ls) (none_taken (map line_view ys))
to_set (x ∷ ys) (suc n) zero y new e f = absurd (omega arith)
to_set (x ∷ ys) (suc n) (suc m) y new e f = ap (λ (ls : List ListingLine). line_view x ∷ ls) (to_set ys n m y new e (omega arith))

behind_set : (ys : List Lines) (n m : ℕ) (new : Lines) → m ≡ n + 1 → drop m (map line_view (slice_set ys n new)) ≡ drop m (map line_view ys)
behind_set [] n m new f = refl
behind_set (x ∷ ys) zero zero new f = absurd (omega arith)
behind_set (x ∷ ys) zero (suc m) new f = refl
behind_set (x ∷ ys) (suc n) zero new f = absurd (omega arith)
behind_set (x ∷ ys) (suc n) (suc m) new f = behind_set ys n m new (omega arith)

-- a line is replaced by one that says the same
pub set_alike : (ys : List Lines) (n : ℕ) (y new : Lines) → slice_get ys n ≡ Some y → line_view new ≡ line_view y → map line_view (slice_set ys n new) ≡ map line_view ys
set_alike [] n y new e f = absurd (cc)
set_alike (x ∷ ys) zero y new e f = ap (λ (l : ListingLine). l ∷ map line_view ys) (f ∙ ap line_view (sym (same_Some x y e)))
set_alike (x ∷ ys) (suc n) y new e f = ap (λ (ls : List ListingLine). line_view x ∷ ls) (set_alike ys n y new e f)

-- ---- lines that stay one line ----

-- how many places are left at a line
pub places_left : (ys : List Lines) (n place count : ℕ) (y : Lines) → slice_get ys n ≡ Some y → place + length (places_of (drop n (map line_view ys))) ≡ count → place + length (places_of (line_view y ∷ drop (n + 1) (map line_view ys))) ≡ count
places_left ys n place count y e h = subst (λ (ls : List ListingLine). place + length (places_of ls) ≡ count) (from_line ys n (n + 1) y e refl) h

module _ (gone : List Bool) (aims : List (Option Name)) (place k : ℕ) (ys : List Lines) (n : ℕ) (y : Lines) (all : List ListingLine) (at : slice_get ys n ≡ Some y) (many : k ≡ length (places_in (line_view y).statement))
    (before : take n (map line_view ys) ++ now_of (drop place gone) (drop place aims) (drop n (map line_view ys)) ≡ all) where
  cut : take n (map line_view ys) ++ now_of (drop place gone) (drop place aims) (line_view y ∷ drop (n + 1) (map line_view ys)) ≡ all
  cut = subst (λ (ls : List ListingLine). take n (map line_view ys) ++ now_of (drop place gone) (drop place aims) ls ≡ all) (from_line ys n (n + 1) y at refl) before

  -- an instruction's line is what it is now
  pub stays_op : (new : Lines) → is_op (line_view y).statement ≡ true → line_view new ∷ [] ≡ line_now (is_gone gone place) (aim_at aims place) (line_view y)
      → take (n + 1) (map line_view (slice_set ys n new)) ++ now_of (drop (place + k) gone) (drop (place + k) aims) (drop (n + 1) (map line_view (slice_set ys n new))) ≡ all
  stays_op new op one =
      ap (λ (ls : List ListingLine). take (n + 1) (map line_view (slice_set ys n new)) ++ now_of (drop (place + k) gone) (drop (place + k) aims) ls) (behind_set ys n (n + 1) new refl)
      ∙ emitted_op gone aims place k (place + k) (line_view y) (drop (n + 1) (map line_view ys)) (take n (map line_view ys)) (take (n + 1) (map line_view (slice_set ys n new))) all op many refl cut
      (to_set ys n (n + 1) y new at refl ∙ ap (λ (ls : List ListingLine). take n (map line_view ys) ++ ls) one)

  -- another line stays as it is
  pub stays_other : is_op (line_view y).statement ≡ false → take (n + 1) (map line_view ys) ++ now_of (drop (place + k) gone) (drop (place + k) aims) (drop (n + 1) (map line_view ys)) ≡ all
  stays_other other = emitted_other gone aims place k (place + k) (line_view y) (drop (n + 1) (map line_view ys)) (take n (map line_view ys)) (take (n + 1) (map line_view ys)) all other many refl cut (to_line ys n (n + 1) y at refl)

-- and how many places are left behind it
pub places_behind : (ys : List Lines) (n place k count : ℕ) (y new : Lines) → slice_get ys n ≡ Some y → k ≡ length (places_in (line_view y).statement) → place + length (places_of (drop n (map line_view ys))) ≡ count
    → place + k + length (places_of (drop (n + 1) (map line_view (slice_set ys n new)))) ≡ count
places_behind ys n place k count y new at many h =
    ap (λ (ls : List ListingLine). place + k + length (places_of ls)) (behind_set ys n (n + 1) new refl)
    ∙ places_pass place k (place + k) (line_view y) (drop (n + 1) (map line_view ys)) count (places_left ys n place count y at h) many refl

-- ---- lines behind those that stand ----

-- none is left of those that stand
pub none_standing : (gone : List Bool) (aims : List (Option Name)) (place standing : ℕ) (ls out : List ListingLine) → standing ≡ 0
    → out ++ (take standing ls ++ now_of (drop place gone) (drop place aims) (drop standing ls)) ≡ out ++ now_of (drop place gone) (drop place aims) ls
none_standing gone aims place standing ls out e =
    ap (λ n. out ++ (take n ls ++ now_of (drop place gone) (drop place aims) (drop n ls))) e ∙ ap (λ (xs : List ListingLine). out ++ (xs ++ now_of (drop place gone) (drop place aims) ls)) (none_taken ls)
