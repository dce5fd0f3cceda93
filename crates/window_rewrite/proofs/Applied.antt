-- A rule applies in lines where it fits a window, labels stay code and what it leaves can be laid out.
use Rattle.std.proofs.Common.{◌≡◌, ℕ, ◌+◌, ◌-◌, ◌<◌, ◌≤◌, max, Bool, true, false, List, [], ◌∷◌, length, take, drop, map, Option, Some, refl, sym, ap, ◌∙◌, subst, ◌⊎◌, inl, inr, arith}
use Rattle.std.specs.Prelude.{slice_get}
use Rattle.std.specs.List.{list_all}
use Rattle.std.proofs.lemmas.Bool.{and_from, cases_Bool}
use Rattle.std.proofs.lemmas.List.{length-map}
use Rattle.thumb_instr.specs.declared.instr.Instr.{Instr}
use Rattle.thumb_instr.specs.Items.{has}
use Rattle.thumb_instr.specs.Window.{is_in_window, Low, renamed}
use Rattle.thumb_instr.proofs.RenamingLemmas.{window_renamed}
use Rattle.thumb_model.specs.Listing.{Label, ListingLine, places_of, labels_from, code_of, is_op_place}
use Rattle.thumb_model.specs.Flow.{LiveAfter}
use Rattle.thumb_model.specs.Layout.{Layable}
use Rattle.rule_model.specs.Rules.{Rule, Applies, IsSoundRule, alone}
use Rattle.thumb_model.specs.Effect.{AreOver, register_count, normalised}
use Rattle.thumb_model.specs.Replaced.{moved, replaced_lines, are_joined_from, IsWindow}
use Rattle.rule_model.specs.Rewriting.{Setting, Replacement, used_rule, lines_after_rule, lines_after, IsLeastScratch, AppliesIn, left_length, left_length_of}
use Rattle.rule_model.proofs.Alone.{alone_is}
use Rattle.listing_parser.specs.Parsing.{own_line}
use Rattle.listing_parser.specs.Grammar.{most_lines}
use Rattle.seq_enum.specs.Costs.{weight_under}
use Rattle.window_rewrite.proofs.RuleWindows.{applies_gives_way, steady_stays, applied_gap, applied_stay}
use Rattle.steady_layout.proofs.Laws.{steady_is_layable}
use Rattle.window_rewrite.specs.Settled.{IsSettled, MayGiveWay}
use Rattle.window_rewrite.proofs.Settled.{left_places, IsGap, settled_stay, stay_settled}
use Rattle.window_rewrite.proofs.WindowPlaces.{first_op, window_within}
use Rattle.window_rewrite.specs.declared.finding.Rules.{Rules}
use Rattle.window_rewrite.specs.declared.known_layout.KnownLayout.{KnownLayout}
use Rattle.window_rewrite.specs.TableRewriting.{setting_by}
use Rattle.window_rewrite.specs.Choices.{FitsIn, Meets}
use Rattle.window_rewrite.specs.Fitting.{left_registers, FitsWhole, IsScratchLeast, Lightens, StandsThere}
use Rattle.window_rewrite.specs.Layouts.{is_steady, AreOver as AreLaid}
use Rattle.window_rewrite.proofs.Live.{Allowed, allowed_true, true_allowed}
use Rattle.window_rewrite.proofs.Sides.{window_count}
use Rattle.window_rewrite.proofs.Weights.{lighter_some, lowers_same, same_lowers}
use Rattle.window_rewrite.proofs.Whole.{front_allowed, front_apart, front_matches, left_few, whole_allowed, whole_apart, whole_free}
use Rattle.rule_model.proofs.Unique.{plain_same}

-- ---- the window ----

-- where a window stands it may give way
window_gap : (lines : List ListingLine) (place : ℕ) (window is : List Instr) → IsWindow lines place window → 0 < length window → length is ≤ length window → IsGap (places_of lines) (labels_from 0 lines) place (length window) is
window_gap lines place window is w some no_longer = record {
  within = window_within window (length window) (places_of lines) place refl (omega arith) w.stands;
  some = some;
  no_longer = no_longer;
  first = first_op window (length window) (places_of lines) place refl (omega arith) w.stands;
  unlabelled = w.unlabelled;
}

-- the window that gives way where a rule applies is the one that stands there
same_window : (rule : Rule) (registers : List Low) (lines : List ListingLine) (place : ℕ) (window : List Instr) → length rule.left ≡ length window → IsWindow lines place window
    → (a : Applies rule registers (code_of lines) place) → a.window ≡ window
same_window rule registers lines place window n w a = plain_same a.window window (sym a.stands ∙ ap (λ k. take k (drop place (places_of lines))) n ∙ w.stands)

-- ---- the new instructions ----

-- the new instructions may stand in a window
pub all_in_window : (k : ℕ) (r : List Low) (is : List Instr) → AreOver k is → list_all is_in_window (map (renamed r) is) ≡ true
all_in_window k r [] h = refl
all_in_window k r (i ∷ is) h = and_from (is_in_window (renamed r i)) (list_all is_in_window (map (renamed r) is)) (window_renamed r i h.0) (all_in_window k r is h.2)

-- the replacement by a rule of a number under a map
abbrev pub made : ℕ → ℕ → List Low → Replacement
made place number registers = record { place = place; entry = number; instance = 0; registers = registers }

-- where each number stands for one rule, a replacement by a rule is of this form, and the rule is the number's
pub is_made : (costs : Option (List ℕ)) (base : ℕ) (rules : List Rule) (o : Replacement) (rule : Rule) → used_rule (setting_by costs base (alone rules)) o ≡ Some rule → o ≡ made o.place o.entry o.registers
is_made costs base rules o rule at = let none = (alone_is rules o.entry o.instance rule at).1 in λ i. record { place = o.place; entry = o.entry; instance = none i; registers = o.registers }

pub rule_there : (costs : Option (List ℕ)) (base : ℕ) (rules : List Rule) (o : Replacement) (rule : Rule) → used_rule (setting_by costs base (alone rules)) o ≡ Some rule → slice_get rules o.entry ≡ Some rule
rule_there costs base rules o rule at = (alone_is rules o.entry o.instance rule at).0

-- the right side of a rule that fits weighs less
pub fits_lighter : (costs : Option (List ℕ)) (base : ℕ) (table : List (List Rule)) (o : Replacement) (lines : List ListingLine) → (a : FitsIn (setting_by costs base table) o lines) → weight_under costs a.rule.right < weight_under costs a.rule.left
fits_lighter costs base table o lines a = same_lowers costs a.rule.left a.rule.right a.lowers

-- so its left side isn't empty
pub fits_some : (costs : Option (List ℕ)) (base : ℕ) (table : List (List Rule)) (o : Replacement) (lines : List ListingLine) → (a : FitsIn (setting_by costs base table) o lines) → 0 < length a.rule.left
fits_some costs base table o lines a = lighter_some costs a.rule.left a.rule.right (fits_lighter costs base table o lines a)

-- ---- a rule that fits applies ----

-- a rule that fits a window applies there, where labels stay code
pub fitted : (lines : List ListingLine) (place : ℕ) (rule : Rule) (registers : List Low) (window : List Instr) (live : ℕ) → IsSoundRule rule → 0 < length rule.left → StandsThere lines place window live → FitsWhole rule registers window live
    → IsSettled (places_of lines) (labels_from 0 lines) place (length window) (map (renamed registers) rule.right) → Applies rule registers (code_of lines) place
fitted lines place rule registers window live sound some there fits settled =
    let is : List Instr = map (renamed registers) rule.right in
    let own : List Low = left_registers rule registers in
    let w = there.is_window in
    let n : length window ≡ length rule.left = window_count rule own window fits.fits.stands in
    let m : length is ≡ length rule.right = length-map rule.right (renamed registers) in
    let no_longer = sound.no_longer in
    let stay = settled_stay (places_of lines) (labels_from 0 lines) place (length window) is (window_gap lines place window is w (omega arith) (omega arith)) settled in
    record {
      as_many = fits.whole.as_many;
      one_to_one = whole_apart rule registers live sound fits.whole fits.fits.stands.one_to_one;
      window = window;
      stands = ap (λ k. take k (drop place (places_of lines))) (sym n) ∙ w.stands;
      matches = fits.fits.stands.matches ∙ sym (front_matches rule (register_count rule.left) registers sound (omega arith));
      unlabelled = subst (λ k. (j : ℕ) (l : Label) → slice_get (labels_from 0 lines) j ≡ Some l → (l.place ≤ place) ⊎ (place + k ≤ l.place)) n w.unlabelled;
      live = λ x h.
          let known : has live x ≡ true = (there.live x).1 (subst (λ k. LiveAfter (code_of lines) (place + k - 1) x) (sym n) h) in
          whole_allowed rule registers live x sound fits.whole known (allowed_true rule.mask own x (fits.fits.allowed x known));
      labels_stay = λ k l e h.
          subst (λ c. is_op_place (slice_get (left_places place c is (places_of lines)) (moved place (c - length rule.right) l.place)) ≡ true) n
          (subst (λ c. is_op_place (slice_get (left_places place (length window) is (places_of lines)) (moved place (length window - c) l.place)) ≡ true) m (stay k l e h));
    }

-- a scratch register that is the least by the set of live items is the least by `LiveAfter`
least_there : (lines : List ListingLine) (place : ℕ) (rule : Rule) (registers : List Low) (window : List Instr) (live : ℕ) → length window ≡ length rule.left → StandsThere lines place window live → IsScratchLeast rule registers live
    → IsLeastScratch rule registers (code_of lines) place
least_there lines place rule registers window live n there least scratch at x l = elim (least scratch at x l) [
  | inl t ↦ inl t
  | inr t ↦ inr (subst (λ k. LiveAfter (code_of lines) (place + k - 1) x) n ((there.live x).0 t))
]

-- what a rule leaves can be laid out: where its layout isn't steady, that is asked for
pub laid : (r : Rules) (g : KnownLayout) (lines : List ListingLine) (place : ℕ) (rule : Rule) (registers : List Low) (window : List Instr) → AreLaid r g lines → IsSoundRule rule → 0 < length rule.left → length window ≡ length rule.left
    → (is_steady g ≡ false → Layable r.base (replaced_lines own_line place (length window) (map (renamed registers) rule.right) lines)) → Applies rule registers (code_of lines) place
    → Layable r.base (replaced_lines own_line place (length rule.left) (map (renamed registers) rule.right) lines)
laid r g lines place rule registers window over sound some n asked a =
    let is : List Instr = map (renamed registers) rule.right in
    elim (cases_Bool (is_steady g)) [
      | inl s ↦ steady_is_layable r.base (replaced_lines own_line place (length rule.left) is lines) (over.aligned s) (steady_stays r.base own_line rule registers place lines sound some a (over.steady s))
      | inr s ↦ subst (λ c. Layable r.base (replaced_lines own_line place c is lines)) n (asked s)
    ]

-- a rule puts new instructions in place of a window
pub record IsMade (s : Setting) (lines : List ListingLine) (r : Replacement) (window new : List Instr) : Type 0 where
  pub applies : AppliesIn s r lines
  pub is_window : IsWindow lines r.place window
  pub gives_way : MayGiveWay (code_of lines) r.place window new
  pub leaves : replaced_lines s.write r.place (length window) new lines ≡ lines_after s r lines
  pub long : length window ≡ left_length s r

pub applied : (costs : Option (List ℕ)) (base : ℕ) (table : List (List Rule)) (lines : List ListingLine) (r : Replacement) (rule : Rule) (window : List Instr) (live : ℕ) (new : List Instr)
    → used_rule (setting_by costs base table) r ≡ Some rule → IsSoundRule rule → weight_under costs rule.right < weight_under costs rule.left → StandsThere lines r.place window live → FitsWhole rule r.registers window live → IsScratchLeast rule r.registers live → new ≡ map (renamed r.registers) rule.right
    → IsSettled (places_of lines) (labels_from 0 lines) r.place (length window) new
    → length (replaced_lines own_line r.place (length rule.left) (map (renamed r.registers) rule.right) lines) ≤ max (length lines) most_lines
    → (Applies rule r.registers (code_of lines) r.place → Layable base (replaced_lines own_line r.place (length rule.left) (map (renamed r.registers) rule.right) lines))
    → IsMade (setting_by costs base table) lines r window new
applied costs base table lines r rule window live new used sound lighter there fits least same settled few layable =
    let s : Setting = setting_by costs base table in
    let place : ℕ = r.place in
    let registers : List Low = r.registers in
    let is : List Instr = map (renamed registers) rule.right in
    let n : length window ≡ length rule.left = window_count rule (left_registers rule registers) window fits.fits.stands in
    let some = lighter_some costs rule.left rule.right lighter in
    let a = fitted lines place rule registers window live sound some there fits (subst (λ (js : List Instr). IsSettled (places_of lines) (labels_from 0 lines) place (length window) js) same settled) in
    let after : lines_after s r lines ≡ replaced_lines own_line place (length rule.left) is lines = ap (λ o. lines_after_rule s o r lines) used in
    record {
      applies = record {
        rule = rule;
        is_rule = used;
        lowers = lowers_same costs rule.left rule.right lighter;
        applies = a;
        least = least_there lines place rule registers window live n there least;
        joined = subst (λ k. are_joined_from place k lines ≡ true) n there.is_window.joined;
        few = few;
        layable = layable a;
      };
      is_window = there.is_window;
      gives_way =
          subst (λ (js : List Instr). MayGiveWay (code_of lines) place window js) (sym same)
          (subst (λ (js : List Instr). MayGiveWay (code_of lines) place js is) (same_window rule registers lines place window (sym n) there.is_window a) (applies_gives_way rule registers (code_of lines) place sound some a));
      leaves = ap (λ (js : List Instr). replaced_lines own_line place (length window) js lines) same ∙ ap (λ k. replaced_lines own_line place k is lines) n ∙ sym after;
      long = n ∙ sym (ap left_length_of used);
    }

-- what applies satisfies `Meets asked`, whether the lines that it leaves are asked for or not
pub meets : (asked : Bool) (s : Setting) (o : Replacement) (lines : List ListingLine) → AppliesIn s o lines → Meets asked s o lines
meets asked s o lines a = (
  record { rule = a.rule; is_rule = a.is_rule; lowers = a.lowers; applies = a.applies; joined = a.joined },
  λ _. record {
    few = subst (λ (r : Option Rule). length (lines_after_rule s r o lines) ≤ max (length lines) s.most_lines) (sym a.is_rule) a.few;
    layable = subst (λ (r : Option Rule). Layable s.base (lines_after_rule s r o lines)) (sym a.is_rule) a.layable;
  },
)

-- what satisfies `Meets` with more asked satisfies it with less asked
pub meets_less : (less more : Bool) (s : Setting) (o : Replacement) (lines : List ListingLine) → (less ≡ true → more ≡ true) → Meets more s o lines → Meets less s o lines
meets_less less more s o lines h m = (m.0, λ e. m.1 (h e))

-- ---- a rule that applies fits ----

same_rule : (a b : Rule) (o : Option Rule) → o ≡ Some a → o ≡ Some b → a ≡ b
same_rule a b o e f = let g : (let x : Option Rule = Some a in x) ≡ Some b = sym e ∙ f in cc

-- what a rule's fitting says of the window that stands there
pub record IsFitted (lines : List ListingLine) (place : ℕ) (rule : Rule) (registers : List Low) (window : List Instr) (live : ℕ) : Type 0 where
  pub fits : FitsWhole rule registers window live
  pub settled : IsSettled (places_of lines) (labels_from 0 lines) place (length window) (map (renamed registers) rule.right)

-- the rule of a number applies there, and its right side weighs less
record IsUsed (costs : Option (List ℕ)) (rule : Rule) (registers : List Low) (lines : List ListingLine) (place : ℕ) : Type 0 where
  lighter : weight_under costs rule.right < weight_under costs rule.left
  applies : Applies rule registers (code_of lines) place

used_there : (costs : Option (List ℕ)) (base : ℕ) (table : List (List Rule)) (lines : List ListingLine) (r : Replacement) (rule : Rule) → used_rule (setting_by costs base table) r ≡ Some rule → FitsIn (setting_by costs base table) r lines → IsUsed costs rule r.registers lines r.place
used_there costs base table lines r rule at a =
    let same : a.rule ≡ rule = same_rule a.rule rule (used_rule (setting_by costs base table) r) a.is_rule at in
    record {
      lighter = subst (λ (k : Rule). weight_under costs k.right < weight_under costs k.left) same (fits_lighter costs base table r lines a);
      applies = subst (λ (k : Rule). Applies k r.registers (code_of lines) r.place) same a.applies;
    }

-- the right side of the rule of a number weighs less where it fits
pub used_lighter : (costs : Option (List ℕ)) (base : ℕ) (table : List (List Rule)) (lines : List ListingLine) (r : Replacement) (rule : Rule) → used_rule (setting_by costs base table) r ≡ Some rule → FitsIn (setting_by costs base table) r lines → weight_under costs rule.right < weight_under costs rule.left
used_lighter costs base table lines r rule at a = (used_there costs base table lines r rule at a).lighter

-- the rule that fits stands in the window that stands there
pub back_lightens : (costs : Option (List ℕ)) (base : ℕ) (table : List (List Rule)) (lines : List ListingLine) (r : Replacement) (rule : Rule) (window : List Instr)
    → used_rule (setting_by costs base table) r ≡ Some rule → IsSoundRule rule → length rule.left ≡ length window → IsWindow lines r.place window → FitsIn (setting_by costs base table) r lines
    → Lightens costs rule (left_registers rule r.registers) window
back_lightens costs base table lines r rule window at sound n there a =
    let place : ℕ = r.place in
    let registers : List Low = r.registers in
    let used = used_there costs base table lines r rule at a in
    let w : used.applies.window ≡ window = same_window rule registers lines place window n there used.applies in
    record {
      stands = record {
        as_many = left_few rule registers used.applies.as_many;
        one_to_one = front_apart (register_count rule.left) registers used.applies.one_to_one;
        matches = ap (map normalised) (sym w) ∙ used.applies.matches ∙ front_matches rule (register_count rule.left) registers sound (omega arith);
      };
      lighter = used.lighter;
    }

pub back : (costs : Option (List ℕ)) (base : ℕ) (table : List (List Rule)) (lines : List ListingLine) (r : Replacement) (rule : Rule) (window : List Instr) (live : ℕ)
    → used_rule (setting_by costs base table) r ≡ Some rule → IsSoundRule rule → length rule.left ≡ length window → StandsThere lines r.place window live → FitsIn (setting_by costs base table) r lines
    → IsFitted lines r.place rule r.registers window live
back costs base table lines r rule window live at sound n there a =
    let place : ℕ = r.place in
    let registers : List Low = r.registers in
    let is : List Instr = map (renamed registers) rule.right in
    let used = used_there costs base table lines r rule at a in
    let some = lighter_some costs rule.left rule.right used.lighter in
    let applies = used.applies in
    let lightens = back_lightens costs base table lines r rule window at sound n there.is_window a in
    let known : (x : ℕ) → has live x ≡ true → Allowed rule.mask registers x = λ x h. applies.live x (subst (λ k. LiveAfter (code_of lines) (place + k - 1) x) (sym n) ((there.live x).0 h)) in
    record {
      fits = record {
        fits = record {
          stands = lightens.stands;
          allowed = λ x h. true_allowed rule.mask (left_registers rule registers) x (front_allowed rule (register_count rule.left) registers x sound (omega arith) (omega (arith, applies.as_many, sound.few)) (known x h));
        };
        whole = whole_free rule registers live sound applies.as_many applies.one_to_one known;
      };
      settled =
          subst (λ k. IsSettled (places_of lines) (labels_from 0 lines) place k is) n
          (stay_settled (places_of lines) (labels_from 0 lines) place (length rule.left) is (applied_gap rule registers (code_of lines) place sound some applies) (applied_stay rule registers (code_of lines) place applies));
    }

-- and where what is asked of the lines that it leaves is so, it is so of the lines in which the window gives way
pub record IsLeft (base : ℕ) (lines left : List ListingLine) : Type 0 where
  pub few : length left ≤ max (length lines) most_lines
  pub layable : Layable base left

pub back_laid : (costs : Option (List ℕ)) (base : ℕ) (table : List (List Rule)) (lines : List ListingLine) (r : Replacement) (rule : Rule) (window : List Instr)
    → used_rule (setting_by costs base table) r ≡ Some rule → length rule.left ≡ length window → Meets true (setting_by costs base table) r lines
    → IsLeft base lines (replaced_lines own_line r.place (length window) (map (renamed r.registers) rule.right) lines)
back_laid costs base table lines r rule window at n m =
    let allowed = m.1 refl in
    let left : IsLeft base lines (lines_after (setting_by costs base table) r lines) = record { few = allowed.few; layable = allowed.layable } in
    subst (λ k. IsLeft base lines (replaced_lines own_line r.place k (map (renamed r.registers) rule.right) lines)) n
    (subst (λ (o : Option Rule). IsLeft base lines (lines_after_rule (setting_by costs base table) o r lines)) at left)
