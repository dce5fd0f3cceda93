-- What stands where a rule applies: instructions that give way in the kept sets, a gap in which labels stay code, a steady listing that stays so.
use Rattle.std.proofs.Common.{◌≡◌, ℕ, suc, ◌+◌, ◌-◌, ◌<◌, ◌≤◌, ◌&&◌, Bool, true, List, [], ◌∷◌, length, take, drop, map, Some, refl, sym, ap, ◌∙◌, subst, ◌⊎◌, arith}
use Rattle.std.specs.Prelude.{slice_get}
use Rattle.std.specs.List.{list_all}
use Rattle.thumb_instr.specs.declared.instr.Instr.{Instr}
use Rattle.thumb_instr.specs.Window.{Low, renamed, is_in_window}
use Rattle.thumb_model.specs.Listing.{Label, ListingLine, Code, code_of, places_of, labels_from, is_code, is_op_place}
use Rattle.thumb_model.specs.Replaced.{moved, move_label, replaced, replaced_lines}
use Rattle.thumb_model.proofs.Lists.{length_map}
use Rattle.thumb_model.proofs.LinesReplaced.{outside_of, before}
use Rattle.thumb_model.proofs.Window.{AreStraight}
use Rattle.rule_model.specs.Rules.{Rule, IsSoundRule, Applies}
use Rattle.rule_model.proofs.Table.{window_length, applies_sound}
use Rattle.window_rewrite.specs.Settled.{MayGiveWay}
use Rattle.window_rewrite.proofs.Settled.{left_places, AreCodeStill, IsGap}
use Rattle.window_rewrite.proofs.WindowPlaces.{first_op, window_within}
use Rattle.steady_layout.specs.Steady.{IsSteady}
use Rattle.steady_layout.proofs.Cuts.{cut}
use Rattle.steady_layout.proofs.Laws.{twos_of, renamed_in, window_in, plain_of, cut_stays}

-- ---- the kept sets ----

pub in_window_of : (is : List Instr) → AreStraight is → list_all is_in_window is ≡ true
in_window_of [] h = refl
in_window_of (i ∷ is) h = both (is_in_window i) _ h.0 (in_window_of is h.1)
  where
    both : (a b : Bool) → a ≡ true → b ≡ true → (a && b) ≡ true
    both a b e f = ap (λ c. c && b) e ∙ f

pub applies_gives_way : (rule : Rule) (registers : List Low) (code : Code) (p : ℕ) → IsSoundRule rule → 0 < length rule.left → (a : Applies rule registers code p) → MayGiveWay code p a.window (map (renamed registers) rule.right)
applies_gives_way rule registers code p sound some a =
    let n : length a.window ≡ length rule.left = window_length rule registers code p a in
    let s = applies_sound rule registers code p sound some a in
    let m = length_map (renamed registers) rule.right in
    let no_longer = sound.no_longer in
    record {
      stands = ap (λ k. take k (drop p code.places)) n ∙ a.stands;
      in_window = in_window_of a.window s.left_straight;
      new_in_window = in_window_of (map (renamed registers) rule.right) s.right_straight;
      some = omega arith;
      no_longer = omega arith;
      unlabelled = λ k l e. subst (λ c. (l.place ≤ p) ⊎ (p + c ≤ l.place)) (sym n) (a.unlabelled k l e);
      labels_stay = λ k l e t.
          subst (λ c. is_code (replaced code p c (map (renamed registers) rule.right)).places (move_label p (c - length (map (renamed registers) rule.right)) l) ≡ true) (sym n)
          (subst (λ c. is_code (replaced code p (length rule.left) (map (renamed registers) rule.right)).places (move_label p (length rule.left - c) l) ≡ true) (sym m) (a.labels_stay k l e t));
    }

-- ---- the gap ----

-- the gap of a rule that applies
pub applied_gap : (rule : Rule) (registers : List Low) (code : Code) (p : ℕ) → IsSoundRule rule → 0 < length rule.left → Applies rule registers code p → IsGap code.places code.labels p (length rule.left) (map (renamed registers) rule.right)
applied_gap rule registers code p sound some a =
    let n = window_length rule registers code p a in
    let m = length_map (renamed registers) rule.right in
    let no_longer = sound.no_longer in
    record {
      within = window_within a.window (length rule.left) code.places p n (omega arith) a.stands;
      some = some;
      no_longer = omega arith;
      first = first_op a.window (length rule.left) code.places p n (omega arith) a.stands;
      unlabelled = a.unlabelled;
    }

-- and its labels stay
pub applied_stay : (rule : Rule) (registers : List Low) (code : Code) (p : ℕ) → Applies rule registers code p → AreCodeStill code.places code.labels p (length rule.left) (map (renamed registers) rule.right)
applied_stay rule registers code p a k l e h =
    let m = length_map (renamed registers) rule.right in
    subst (λ n. is_op_place (slice_get (left_places p (length rule.left) (map (renamed registers) rule.right) code.places) (moved p (length rule.left - n) l.place)) ≡ true) (sym m) (a.labels_stay k l e h)

-- ---- steady listings ----

pub steady_stays : (base : ℕ) (write : Instr → List ℕ) (rule : Rule) (registers : List Low) (place : ℕ) (ls : List ListingLine) → IsSoundRule rule → 0 < length rule.left → Applies rule registers (code_of ls) place → IsSteady base ls
    → IsSteady base (replaced_lines write place (length rule.left) (map (renamed registers) rule.right) ls)
steady_stays base write rule registers place ls sound some a h =
    let is : List Instr = map (renamed registers) rule.right in
    let m = length_map (renamed registers) rule.right in
    let no_longer = sound.no_longer in
    let b = before (length rule.left) some in
    let n : ℕ = b.0 in
    let e : length rule.left ≡ suc n = b.1 in
    let k : length a.window ≡ length rule.left = window_length rule registers (code_of ls) place a in
    let twos = twos_of a.window (window_in a.window (map (renamed registers) rule.left) a.matches (renamed_in registers _ rule.left sound.left)) in
    let ops = plain_of a.window (suc n) (drop place (places_of ls)) (omega arith) (ap (λ c. take c (drop place (places_of ls))) (sym e) ∙ a.stands) twos in
    let outside = outside_of place (suc n) (labels_from 0 ls) (subst (λ c. (k : ℕ) (l : Label) → slice_get (labels_from 0 ls) k ≡ Some l → (l.place ≤ place) ⊎ (place + c ≤ l.place)) e a.unlabelled) in
    let c = cut write place n is (omega arith) (twos_of is (renamed_in registers _ rule.right sound.right)) ls 0 place (omega arith) outside ops in
    subst (λ j. IsSteady base (replaced_lines write place j is ls)) (sym e) (cut_stays base ls (replaced_lines write place (suc n) is ls) c h)
