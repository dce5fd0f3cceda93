-- A naming that fits what rewriting leaves fits the given lines too, where it tells their code points apart.
use Rattle.std.proofs.Common.{◌≡◌, ℕ, zero, suc, ◌+◌, ◌-◌, ◌||◌, true, false, List, [], ◌∷◌, ◌++◌, length, take, drop, map, refl, sym, ap, ◌∙◌, subst, arith}
use Rattle.std.specs.Prelude.{Option, Some, slice_get, bytes_eq}
use Rattle.std.specs.Option.{option_map, unwrap_or}
use Rattle.std.proofs.lemmas.Option.{slice_get-map}
use Rattle.thumb_instr.specs.declared.instr.Instr.{Instr}
use Rattle.thumb_instr.specs.Window.{renamed}
use Rattle.thumb_model.specs.Listing.{Name, Place, plain, Label, Code, ListingLine, code_of, places_of, place_mentions, is_mentioned, has_label}
use Rattle.thumb_model.specs.Naming.{Naming, Fits, points}
use Rattle.thumb_model.specs.Replaced.{moved, move_label, replaced}
use Rattle.thumb_model.proofs.Moved.{points_moved}
use Rattle.thumb_model.proofs.Follow.{IsSound}
use Rattle.rule_model.specs.Rules.{AreSound}
use Rattle.rule_model.specs.Rewriting.{Setting, Replacement, AppliesIn, lines_after}
use Rattle.rule_model.specs.Laws.{TellsApart, LeftNamingsFitGiven}
use Rattle.rule_model.proofs.Table.{window_length, applies_sound}
use Rattle.rule_model.proofs.LinesKept.{some_left, code_of_after}

-- ---- names ----

plain_more : (n : Name) (is : List Instr) (ps : List Place) → is_mentioned n ps ≡ true → is_mentioned n (map plain is ++ ps) ≡ true
plain_more n [] ps h = h
plain_more n (i ∷ is) ps h = plain_more n is ps h

-- what is mentioned outside instructions that mention nothing
mentioned_behind : (n : Name) (window is : List Instr) (ps : List Place) → take (length window) ps ≡ map plain window → is_mentioned n ps ≡ true → is_mentioned n (map plain is ++ drop (length window) ps) ≡ true
mentioned_behind n [] is ps e h = plain_more n is ps h
mentioned_behind n (i ∷ window) is [] e h = absurd (cc)
mentioned_behind n (i ∷ window) is (x ∷ ps) e h =
    let here : x ≡ plain i = cc in
    let there : take (length window) ps ≡ map plain window = cc in
    mentioned_behind n window is ps there (sym (ap (λ y. place_mentions n y || is_mentioned n ps) here) ∙ h)

mentioned_still : (n : Name) (window is : List Instr) (p : ℕ) (ps : List Place) → take (length window) (drop p ps) ≡ map plain window → is_mentioned n ps ≡ true
    → is_mentioned n (take p ps ++ (map plain is ++ drop (p + length window) ps)) ≡ true
mentioned_still n window is zero ps e h = subst (λ k. is_mentioned n (map plain is ++ drop k ps) ≡ true) (let z : length window ≡ 0 + length window = omega arith in z) (mentioned_behind n window is ps e h)
mentioned_still n window is (suc p) [] e h = absurd (cc)
mentioned_still n window is (suc p) (x ∷ ps) e h =
    subst (λ k. is_mentioned n (take (suc p) (x ∷ ps) ++ (map plain is ++ drop k (x ∷ ps))) ≡ true) (let z : suc (p + length window) ≡ suc p + length window = omega arith in z)
    (elim (place_mentions n x) as (λ b. (b || is_mentioned n ps) ≡ true → (b || is_mentioned n (take p ps ++ (map plain is ++ drop (p + length window) ps))) ≡ true) [
      | true ↦ λ g. refl
      | false ↦ λ g. mentioned_still n window is p ps e g
    ] h)

labels_still : (n : Name) (p gone : ℕ) (ls : List Label) → has_label n ls ≡ has_label n (map (move_label p gone) ls)
labels_still n p gone [] = refl
labels_still n p gone (l ∷ ls) = ap (λ b. bytes_eq n l.name || b) (labels_still n p gone ls)

-- ---- one replacement ----

-- what stands in a list of moved points was there before
abbrev move_by : (ℕ → ℕ) → ℕ × ℕ → ℕ × ℕ
move_by to a = (a.0, to a.1)

unmoved : (to : ℕ → ℕ) (ps : List (ℕ × ℕ)) (k w q : ℕ) → slice_get (map (move_by to) ps) k ≡ Some (w, q) → (r : ℕ) × (slice_get ps k ≡ Some (w, r)) × (q ≡ to r)
unmoved to [] k w q e = absurd (cc)
unmoved to (a ∷ ps) zero w q e =
    let f : move_by to a ≡ (w, q) = ap (λ (o : Option (ℕ × ℕ)). unwrap_or o (0, 0)) e in
    (a.1, ap (λ (n : ℕ). Some (n, a.1)) (ap (λ (x : ℕ × ℕ). x.0) f), sym (ap (λ (x : ℕ × ℕ). x.1) f))
unmoved to (a ∷ ps) (suc k) w q e = unmoved to ps k w q e

module _ (names : Naming) (code : Code) (p : ℕ) (left right : List Instr) (sound : IsSound code p left right) (stands : take (length left) (drop p code.places) ≡ map plain left) where
  abbrev new : Code
  new = replaced code p (length left) right

  abbrev to : ℕ → ℕ
  to = moved p (length left - length right)

  same_points : points names new ≡ map (move_by to) (points names code)
  same_points = points_moved code p (length left) right sound.fits_in names

  point_on : (k w q : ℕ) → slice_get (points names code) k ≡ Some (w, q) → slice_get (points names new) k ≡ Some (w, to q)
  point_on k w q e = ap (λ (l : List (ℕ × ℕ)). slice_get l k) same_points ∙ slice_get-map (move_by to) (points names code) k ∙ ap (option_map (λ (a : ℕ × ℕ). (a.0, to a.1))) e

  point_was : (k w q : ℕ) → slice_get (points names new) k ≡ Some (w, q) → (r : ℕ) × (slice_get (points names code) k ≡ Some (w, r)) × (q ≡ to r)
  point_was k w q e = unmoved to (points names code) k w q (ap (λ (l : List (ℕ × ℕ)). slice_get l k) (sym same_points) ∙ e)

  tells_on : TellsApart names code → TellsApart names new
  tells_on apart j k v w q r e f ne =
      let b = point_was j v q e in
      let c = point_was k w r f in
      apart j k v w b.0 c.0 b.1 c.1 (λ same. ne (b.2 ∙ ap to same ∙ sym c.2))

  fitted : Fits names new → TellsApart names code → Fits names code
  fitted f apart = record {
    words = f.words;
    return_words = f.return_words;
    low_even = f.low_even;
    high_even = f.high_even;
    are_code = λ k w q e. f.are_code k w (to q) (point_on k w q e);
    distinct = apart;
    outside = λ n h g. f.outside n (mentioned_still n left right p code.places stands h) (sym (labels_still n p (length left - length right) code.labels) ∙ g);
  }

-- ---- all ----

fitted_by : (s : Setting) (r : Replacement) (ls : List ListingLine) → AreSound s.table → (a : AppliesIn s r ls) → (names : Naming) → TellsApart names (code_of ls)
    → TellsApart names (code_of (lines_after s r ls)) × (Fits names (code_of (lines_after s r ls)) → Fits names (code_of ls))
fitted_by s r ls sound a names apart =
    let right : List Instr = map (renamed r.registers) a.rule.right in
    let n : length a.applies.window ≡ length a.rule.left = window_length a.rule r.registers (code_of ls) r.place a.applies in
    let stands : take (length a.applies.window) (drop r.place (places_of ls)) ≡ map plain a.applies.window = ap (λ k. take k (drop r.place (places_of ls))) n ∙ a.applies.stands in
    let good = applies_sound a.rule r.registers (code_of ls) r.place (sound r.entry r.instance a.rule a.is_rule) (some_left s r ls a) a.applies in
    let same : replaced (code_of ls) r.place (length a.applies.window) right ≡ code_of (lines_after s r ls) =
    ap (λ k. replaced (code_of ls) r.place k right) n ∙ sym (code_of_after s r ls sound a) in (
      subst (TellsApart names) same (tells_on names (code_of ls) r.place a.applies.window right good stands apart),
      λ f. fitted names (code_of ls) r.place a.applies.window right good stands (subst (Fits names) (sym same) f) apart,
    )

pub left_namings_fit : LeftNamingsFitGiven
left_namings_fit s ls [] new sound h names f apart = subst (λ (l : List ListingLine). Fits names (code_of l)) h.1 f
left_namings_fit s ls (r ∷ rs) new sound h names f apart =
    let step = fitted_by s r ls sound h.0.applies names apart in
    step.1 (left_namings_fit s (lines_after s r ls) rs new sound h.1 names f step.0)
