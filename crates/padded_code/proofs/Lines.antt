-- Lines in which a window gives way, as an exchange of the padded code.
use Rattle.std.proofs.Common.{◌≡◌, ℕ, zero, suc, ◌+◌, ◌-◌, ◌<◌, ◌≤◌, Bool, true, List, [], ◌∷◌, length, drop, map, Some, refl, sym, ap, ◌∙◌, subst, ◌⊎◌, arith}
use Rattle.std.specs.Prelude.{slice_get}
use Rattle.thumb_instr.specs.declared.instr.Instr.{Instr}
use Rattle.thumb_instr.specs.Window.{Low, renamed}
use Rattle.thumb_model.specs.Listing.{Place, plain, ListingLine, Label, Code, code_of, is_op_place, is_code}
use Rattle.thumb_model.specs.Replaced.{move_label, replaced}
use Rattle.rule_model.specs.Rules.{Rule, Applies}
use Rattle.rule_model.specs.Rewriting.{Setting, Replacement, lines_after, AppliesIn}
use Rattle.thumb_model.proofs.Lists.{get_drop, get_take, length_map}
use Rattle.rule_model.proofs.LinesKept.{code_of_after_by}
use Rattle.rule_model.proofs.Table.{window_length}
use Rattle.kept_places.specs.Marks.{rank}
use Rattle.padded_code.specs.Padding.{IsPadded}
use Rattle.padded_code.specs.Exchange.{marks_after, exchanged, AreKeptFrom, GivesWay}
use Rattle.padded_code.specs.Windows.{AreRanked}
use Rattle.padded_code.proofs.Padded.{place_kept}
use Rattle.padded_code.proofs.Exchanged.{stays_padded}

-- ---- windows ----

pub plain_op : (is : List Instr) (j : ℕ) → j < length is → is_op_place (slice_get (map plain is) j) ≡ true
plain_op [] j h = absurd (omega arith)
plain_op (i ∷ is) zero h = refl
plain_op (i ∷ is) (suc j) h = plain_op is j (omega arith)

-- instructions stand at the places of a rule's window
window_op : (rule : Rule) (registers : List Low) (code : Code) (p : ℕ) → Applies rule registers code p → (j : ℕ) → j < length rule.left → is_op_place (slice_get code.places (p + j)) ≡ true
window_op rule registers code p a j h =
    let n = window_length rule registers code p a in
    ap is_op_place (sym (get_drop p code.places j (p + j) refl) ∙ sym (get_take (length rule.left) (drop p code.places) j h) ∙ ap (λ (xs : List Place). slice_get xs j) a.stands)
    ∙ plain_op a.window j (omega arith)

module _ (gone : List Bool) (padded code : Code) (s : IsPadded gone padded code) where
  kept_from : (ps : List ℕ) (r : ℕ) → AreRanked gone r ps → ((j : ℕ) → j < length ps → is_op_place (slice_get code.places (r + j)) ≡ true) → AreKeptFrom gone padded.places r ps
  kept_from [] r a h = tt
  kept_from (p ∷ ps) r a h = (
    a.0,
    a.1,
    a.2,
    ap is_op_place (sym (place_kept gone padded code s p a.1)) ∙ ap (λ q. is_op_place (slice_get code.places q)) (let e : rank gone p ≡ r + 0 = omega (arith, a.2) in e) ∙ h 0 (omega arith),
    kept_from ps (suc r) a.3 (λ j l. ap (λ q. is_op_place (slice_get code.places q)) (let e : suc r + j ≡ r + suc j = omega arith in e) ∙ h (suc j) (omega arith)),
  )

  -- where a rule applies, its window gives way
  pub gives_way : (rule : Rule) (registers : List Low) (r : ℕ) → length rule.right ≤ length rule.left → Applies rule registers code r → (ps : List ℕ) → length ps ≡ length rule.left → AreRanked gone r ps → GivesWay gone padded code r ps (map (renamed registers) rule.right)
  gives_way rule registers r h a ps n k =
      let new : List Instr = map (renamed registers) rule.right in
      let m : length new ≡ length rule.right = length_map (renamed registers) rule.right in
      record {
        kept = kept_from ps r k (λ j l. window_op rule registers code r a j (omega arith));
        no_longer = omega arith;
        unlabelled = subst (λ c. (k : ℕ) (l : Label) → slice_get code.labels k ≡ Some l → (l.place ≤ r) ⊎ (r + c ≤ l.place)) (sym n) a.unlabelled;
        labels_stay = λ j l e t.
            subst (λ c. is_code (replaced code r c new).places (move_label r (c - length new) l) ≡ true) (sym n)
            (subst (λ c. is_code (replaced code r (length rule.left) new).places (move_label r (length rule.left - c) l) ≡ true) (sym m) (a.labels_stay j l e t));
      }

-- lines in which a window gives way are padded by the code in which its kept places do
pub lines_stay_padded : (s : Setting) (r : Replacement) (ls : List ListingLine) (a : AppliesIn s r ls) → length a.rule.right ≤ length a.rule.left → (gone : List Bool) (padded : Code) → IsPadded gone padded (code_of ls) → (ps : List ℕ) → length ps ≡ length a.rule.left → AreRanked gone r.place ps → IsPadded (marks_after ps (map (renamed r.registers) a.rule.right) gone) (exchanged ps (map (renamed r.registers) a.rule.right) padded) (code_of (lines_after s r ls))
lines_stay_padded s r ls a h gone padded q ps n k =
    let new : List Instr = map (renamed r.registers) a.rule.right in
    let e : replaced (code_of ls) r.place (length ps) new ≡ code_of (lines_after s r ls) = ap (λ c. replaced (code_of ls) r.place c new) n ∙ sym (code_of_after_by s r ls a h) in
    subst (IsPadded (marks_after ps new gone) (exchanged ps new padded)) e
    (stays_padded gone padded (code_of ls) q r.place ps new (gives_way gone padded (code_of ls) q a.rule r.registers r.place h a.applies ps n k))
