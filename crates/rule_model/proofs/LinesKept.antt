-- Rewriting lines: the runs stay, no rule applies any more, each replacement applied, and the lines can still be laid out.
use Rattle.std.proofs.Common.{◌≡◌, ℕ, suc, ◌+◌, ◌<◌, ◌≤◌, max, List, [], ◌∷◌, length, take, drop, map, Option, Some, sym, ap, ◌∙◌, subst, ◌⊎◌, arith}
use Rattle.std.specs.Prelude.{slice_get}
use Rattle.thumb_instr.specs.declared.instr.Instr.{Instr}
use Rattle.thumb_model.specs.Listing.{Label, ListingLine, Code, places_of, labels_from, code_of}
use Rattle.thumb_model.specs.Layout.{Layable}
use Rattle.thumb_model.specs.Literals.{HasLiterals}
use Rattle.thumb_model.specs.Same.{Same}
use Rattle.thumb_instr.specs.Window.{renamed}
use Rattle.rule_model.specs.Rules.{Rule, AreSound, weight, Applies}
use Rattle.thumb_model.specs.Replaced.{replaced, replaced_lines}
use Rattle.rule_model.specs.Laws.{instructions, CostsAreKept, CostsOne}
use Rattle.rule_model.specs.Rewriting.{Setting, Replacement, lines_after_rule, lines_after, AppliesIn, NoneApplies, AreRewritten, AllApplied}
use Rattle.thumb_model.specs.Cuts.{AreOps}
use Rattle.thumb_model.proofs.Lists.{length_map}
use Rattle.thumb_model.proofs.LinesReplaced.{AllOutside, ops_of, outside_of, before, lines_fewer}
use Rattle.rule_model.proofs.AsMany.{code_replaced_by}
use Rattle.rule_model.proofs.Table.{window_length, one_keeps, places_after}
use Rattle.rule_model.proofs.Costs.{lowers_some, weight_is_length, weight_after}
use Rattle.thumb_model.proofs.Follow.{Keeps, keeps_refl, keeps_trans}

-- where a rule applies, instructions stand from its place on that it replaces, and no label stands between them
pub record IsLineWindow (rule : Rule) (r : Replacement) (ls : List ListingLine) : Type 0 where
  pub last : ℕ
  pub as_many : length rule.left ≡ suc last
  pub ops : AreOps (suc last) (drop r.place (places_of ls))
  pub outside : AllOutside r.place (suc last) (labels_from 0 ls)

line_window : (rule : Rule) (r : Replacement) (ls : List ListingLine) → 0 < length rule.left → Applies rule r.registers (code_of ls) r.place → IsLineWindow rule r ls
line_window rule r ls some a =
    let n = before (length rule.left) some in
    let e : length rule.left ≡ suc n.0 = n.1 in
    let k : length a.window ≡ length rule.left = window_length rule r.registers (code_of ls) r.place a in
    record {
      last = n.0;
      as_many = e;
      ops = ops_of a.window (suc n.0) _ (omega arith) (ap (λ c. take c (drop r.place (places_of ls))) (sym e) ∙ a.stands);
      outside = outside_of r.place (suc n.0) (labels_from 0 ls) (subst (λ c. (k : ℕ) (l : Label) → slice_get (labels_from 0 ls) k ≡ Some l → (l.place ≤ r.place) ⊎ (r.place + c ≤ l.place)) e a.unlabelled);
    }

-- where a rule applies, replacing the lines replaces their places and labels
pub code_of_replaced : (s : Setting) (rule : Rule) (r : Replacement) (ls : List ListingLine) → 0 < length rule.left → length rule.right ≤ length rule.left → Applies rule r.registers (code_of ls) r.place → code_of (lines_after_rule s (Some rule) r ls) ≡ replaced (code_of ls) r.place (length rule.left) (map (renamed r.registers) rule.right)
code_of_replaced s rule r ls some no_longer a =
    let is : List Instr = map (renamed r.registers) rule.right in
    let m = length_map (renamed r.registers) rule.right in
    let w = line_window rule r ls some a in
    let e = w.as_many in
    ap (λ c. code_of (replaced_lines s.write r.place c is ls)) e
    ∙ code_replaced_by s.write r.place w.last is ls (omega arith) w.ops w.outside
    ∙ ap (λ c. replaced (code_of ls) r.place c is) (sym e)

-- fewer instructions than go leave no more lines
pub fewer_lines_by : (s : Setting) (rule : Rule) (r : Replacement) (ls : List ListingLine) → length rule.right < length rule.left → Applies rule r.registers (code_of ls) r.place → length (lines_after_rule s (Some rule) r ls) ≤ length ls
fewer_lines_by s rule r ls shorter a =
    let is : List Instr = map (renamed r.registers) rule.right in
    let m = length_map (renamed r.registers) rule.right in
    let w = line_window rule r ls (omega arith) a in
    let e = w.as_many in
    subst (λ c. length (replaced_lines s.write r.place c is ls) ≤ length ls) (sym e) (lines_fewer s.write w.last is ls r.place (omega arith) w.ops)

-- a rule that applies in lines has a left side
pub some_left : (s : Setting) (r : Replacement) (ls : List ListingLine) (a : AppliesIn s r ls) → 0 < length a.rule.left
some_left s r ls a = lowers_some s.cost a.rule.left a.rule.right a.lowers

-- and a shorter right side, where each instruction costs 1
pub shorter_right : (s : Setting) (r : Replacement) (ls : List ListingLine) → CostsOne s → (a : AppliesIn s r ls) → length a.rule.right < length a.rule.left
shorter_right s r ls one a =
    let lowers = a.lowers in
    let left = weight_is_length s.cost one a.rule.left in
    let right = weight_is_length s.cost one a.rule.right in
    omega arith

-- the code after a replacement by a right side that is no longer
pub code_of_after_by : (s : Setting) (r : Replacement) (ls : List ListingLine) (a : AppliesIn s r ls) → length a.rule.right ≤ length a.rule.left → code_of (lines_after s r ls) ≡ replaced (code_of ls) r.place (length a.rule.left) (map (renamed r.registers) a.rule.right)
code_of_after_by s r ls a no_longer = ap (λ o. code_of (lines_after_rule s o r ls)) a.is_rule ∙ code_of_replaced s a.rule r ls (some_left s r ls a) no_longer a.applies

-- the code after a replacement by a sound table
pub code_of_after : (s : Setting) (r : Replacement) (ls : List ListingLine) → AreSound s.table → (a : AppliesIn s r ls) → code_of (lines_after s r ls) ≡ replaced (code_of ls) r.place (length a.rule.left) (map (renamed r.registers) a.rule.right)
code_of_after s r ls sound a = code_of_after_by s r ls a (sound r.entry r.instance a.rule a.is_rule).no_longer

-- one replacement keeps the runs
pub one_line_keeps : (s : Setting) (r : Replacement) (ls : List ListingLine) → AreSound s.table → AppliesIn s r ls → Keeps (code_of ls) (code_of (lines_after s r ls))
one_line_keeps s r ls sound a = subst (Keeps (code_of ls)) (sym (code_of_after s r ls sound a)) (one_keeps a.rule r.registers (code_of ls) r.place (sound r.entry r.instance a.rule a.is_rule) (some_left s r ls a) a.applies)

-- so do all
pub lines_keep : (s : Setting) (ls : List ListingLine) (rs : List Replacement) (new : List ListingLine) → AreSound s.table → AreRewritten s ls rs new → Keeps (code_of ls) (code_of new)
lines_keep s ls [] new sound h = subst (λ (l : List ListingLine). Keeps (code_of ls) (code_of l)) (sym h.1) (keeps_refl (code_of ls))
lines_keep s ls (r ∷ rs) new sound h =
    keeps_trans (code_of ls) (code_of (lines_after s r ls)) (code_of new) (one_line_keeps s r ls sound h.0.applies) (lines_keep s (lines_after s r ls) rs new sound h.1)

-- the lines that are left run the same
pub lines_same : (s : Setting) (ls : List ListingLine) (rs : List Replacement) (new : List ListingLine) → AreSound s.table → HasLiterals (code_of ls) → AreRewritten s ls rs new → Same (code_of ls) (code_of new)
lines_same s ls rs new sound literals h = (lines_keep s ls rs new sound h).same literals

-- no rule applies any more
pub none_left : (s : Setting) (ls : List ListingLine) (rs : List Replacement) (new : List ListingLine) → AreRewritten s ls rs new → NoneApplies s new
none_left s ls [] new h = subst (NoneApplies s) (sym h.1) h.0
none_left s ls (r ∷ rs) new h = none_left s (lines_after s r ls) rs new h.1

-- each replacement applied in the lines as they then were
pub all_applied : (s : Setting) (ls : List ListingLine) (rs : List Replacement) (new : List ListingLine) → AreRewritten s ls rs new → AllApplied s ls rs
all_applied s ls [] new h = tt
all_applied s ls (r ∷ rs) new h = (h.0.applies, all_applied s (lines_after s r ls) rs new h.1)

-- the lines that are left can be laid out, where the given lines can
pub still_layable : (s : Setting) (ls : List ListingLine) (rs : List Replacement) (new : List ListingLine) → Layable s.base ls → AreRewritten s ls rs new → Layable s.base new
still_layable s ls [] new l h = subst (Layable s.base) (sym h.1) l
still_layable s ls (r ∷ rs) new l h =
    let a = h.0.applies in
    still_layable s (lines_after s r ls) rs new (subst (λ (o : Option Rule). Layable s.base (lines_after_rule s o r ls)) (sym a.is_rule) a.layable) h.1

-- ---- costs ----

-- a replacement by a sound table lowers the cost
pub lower_after : (s : Setting) (r : Replacement) (ls : List ListingLine) → CostsAreKept s.cost → AreSound s.table → AppliesIn s r ls → weight s.cost (instructions (places_of (lines_after s r ls))) < weight s.cost (instructions (places_of ls))
lower_after s r ls kept sound a =
    let lowers = a.lowers in
    let e = ap (λ (c : Code). weight s.cost (instructions c.places)) (code_of_after s r ls sound a) in
    let f = weight_after s.cost kept a.rule r.registers (code_of ls) r.place a.applies in
    omega arith

-- so there are no more replacements than the cost falls by
pub cost_falls : (s : Setting) (ls : List ListingLine) (rs : List Replacement) (new : List ListingLine) → CostsAreKept s.cost → AreSound s.table → AreRewritten s ls rs new → weight s.cost (instructions (places_of new)) + length rs ≤ weight s.cost (instructions (places_of ls))
cost_falls s ls [] new kept sound h = let e : weight s.cost (instructions (places_of new)) ≡ weight s.cost (instructions (places_of ls)) = ap (λ (l : List ListingLine). weight s.cost (instructions (places_of l))) h.1 in omega arith
cost_falls s ls (r ∷ rs) new kept sound h =
    let one = lower_after s r ls kept sound h.0.applies in
    let rest = cost_falls s (lines_after s r ls) rs new kept sound h.1 in
    omega arith

-- ---- places and lines ----

-- a replacement by a sound table leaves no more places
pub no_more_after : (s : Setting) (r : Replacement) (ls : List ListingLine) → AreSound s.table → AppliesIn s r ls → length (places_of (lines_after s r ls)) ≤ length (places_of ls)
no_more_after s r ls sound a =
    let no_longer = (sound r.entry r.instance a.rule a.is_rule).no_longer in
    let e = ap (λ (c : Code). length c.places) (code_of_after s r ls sound a) in
    let f = places_after a.rule r.registers (code_of ls) r.place (some_left s r ls a) a.applies in
    omega arith

-- nor does rewriting
pub no_more_places : (s : Setting) (ls : List ListingLine) (rs : List Replacement) (new : List ListingLine) → AreSound s.table → AreRewritten s ls rs new → length (places_of new) ≤ length (places_of ls)
no_more_places s ls [] new sound h = let e : length (places_of new) ≡ length (places_of ls) = ap (λ (l : List ListingLine). length (places_of l)) h.1 in omega arith
no_more_places s ls (r ∷ rs) new sound h =
    let one = no_more_after s r ls sound h.0.applies in
    let rest = no_more_places s (lines_after s r ls) rs new sound h.1 in
    omega arith

-- the lines stay within their limit
pub few_after : (s : Setting) (r : Replacement) (ls : List ListingLine) → AppliesIn s r ls → length (lines_after s r ls) ≤ max (length ls) s.most_lines
few_after s r ls a = subst (λ (o : Option Rule). length (lines_after_rule s o r ls) ≤ max (length ls) s.most_lines) (sym a.is_rule) a.few

-- through all replacements
pub few_lines : (s : Setting) (ls : List ListingLine) (rs : List Replacement) (new : List ListingLine) → AreRewritten s ls rs new → length new ≤ max (length ls) s.most_lines
few_lines s ls [] new h = let e : length new ≡ length ls = ap (λ (l : List ListingLine). length l) h.1 in omega arith
few_lines s ls (r ∷ rs) new h =
    let one = few_after s r ls h.0.applies in
    let rest = few_lines s (lines_after s r ls) rs new h.1 in
    omega arith

-- ---- where each instruction costs 1 ----

-- each replacement leaves at least one place less
pub fewer_after : (s : Setting) (r : Replacement) (ls : List ListingLine) → CostsOne s → AppliesIn s r ls → length (places_of (lines_after s r ls)) < length (places_of ls)
fewer_after s r ls one a =
    let shorter = shorter_right s r ls one a in
    let e = ap (λ (c : Code). length c.places) (code_of_after_by s r ls a (omega arith)) in
    let f = places_after a.rule r.registers (code_of ls) r.place (some_left s r ls a) a.applies in
    omega arith

-- so there are no more replacements than places that went
pub places_gone : (s : Setting) (ls : List ListingLine) (rs : List Replacement) (new : List ListingLine) → CostsOne s → AreRewritten s ls rs new → length (places_of new) + length rs ≤ length (places_of ls)
places_gone s ls [] new one h = let e : length (places_of new) ≡ length (places_of ls) = ap (λ (l : List ListingLine). length (places_of l)) h.1 in omega arith
places_gone s ls (r ∷ rs) new one h =
    let first = fewer_after s r ls one h.0.applies in
    let rest = places_gone s (lines_after s r ls) rs new one h.1 in
    omega arith

-- a replacement leaves no more lines
pub fewer_lines : (s : Setting) (r : Replacement) (ls : List ListingLine) → CostsOne s → AppliesIn s r ls → length (lines_after s r ls) ≤ length ls
fewer_lines s r ls one a = subst (λ (o : Option Rule). length (lines_after_rule s o r ls) ≤ length ls) (sym a.is_rule) (fewer_lines_by s a.rule r ls (shorter_right s r ls one a) a.applies)

-- rewriting leaves no more lines
pub no_more_lines : (s : Setting) (ls : List ListingLine) (rs : List Replacement) (new : List ListingLine) → CostsOne s → AreRewritten s ls rs new → length new ≤ length ls
no_more_lines s ls [] new one h = let e : length new ≡ length ls = ap (λ (l : List ListingLine). length l) h.1 in omega arith
no_more_lines s ls (r ∷ rs) new one h =
    let first = fewer_lines s r ls one h.0.applies in
    let rest = no_more_lines s (lines_after s r ls) rs new one h.1 in
    omega arith
