-- Which choice comes first in a scene, and what is due in it when a window gave way.
use Rattle.std.proofs.Common.{◌≡◌, ℕ, suc, ◌+◌, ◌-◌, ◌<◌, ◌≤◌, Bool, true, false, List, length, take, drop, Some, sym, subst, inl, inr, arith, refl, ap, ◌∙◌, true≢false, replicate, set}
use Rattle.std.specs.Prelude.{slice_get}
use Rattle.std.proofs.lemmas.Bool.{cases_Bool, cases_eq, cases_lt}
use Rattle.std.proofs.lemmas.List.{length-replicate}
use Rattle.kept_places.specs.Marks.{is_gone, marked, rank, IsLeast}
use Rattle.kept_places.proofs.Ranks.{marked_other, marked_replicate, marked_set, unmarked}
use Rattle.thumb_instr.specs.declared.instr.Instr.{Instr}
use Rattle.thumb_instr.specs.Items.{has}
use Rattle.thumb_model.specs.Listing.{Code, ListingLine, Place, code_of, labels_from, places_of}
use Rattle.thumb_model.specs.Replaced.{replaced_lines, IsWindow}
use Rattle.thumb_model.proofs.Lists.{length_map, take_all}
use Rattle.thumb_model.proofs.LinesReplaced.{ops_of}
use Rattle.rule_model.specs.Rewriting.{Setting, Replacement, lines_after, left_length_of, AppliesIn, IsFirst, NoneApplies}
use Rattle.rule_model.proofs.Costs.{lowers_some}
use Rattle.liveness.specs.Live.{set_at}
use Rattle.padded_code.specs.Padding.{IsPadded}
use Rattle.padded_code.specs.Exchange.{marks_after, exchanged}
use Rattle.padded_code.specs.Windows.{AreRanked}
use Rattle.padded_code.proofs.Exchanged.{whole_padded}
use Rattle.window_runs.proofs.Joined.{window_in_run}
use Rattle.edited_listing.specs.Edited.{Edited, lines_now, marks, padded}
use Rattle.edited_listing.specs.Changes.{is_none}
use Rattle.liveness.specs.KeptLive.{LosesAt}
use Rattle.window_rewrite.specs.declared.choice.Choice.{Choice}
use Rattle.window_rewrite.specs.declared.work_list.WorkList.{WorkList}
use Rattle.window_rewrite.specs.declared.finding.Rules.{Rules}
use Rattle.window_rewrite.specs.declared.scene.Scene.{Scene}
use Rattle.window_rewrite.specs.declared.scene.Site.{Site}
use Rattle.window_rewrite.specs.Choices.{choice_of, setting_of, AreReady, IsBest, IsChoice, NoneAt}
use Rattle.window_rewrite.specs.WorkList.{AreMarks, AreTried, AreTriedBut, Reaches, StayMarked}
use Rattle.window_rewrite.specs.Scenes.{lines_of, IsKept, IsSite}
use Rattle.window_rewrite.proofs.DueFits.{GaveWay}
use Rattle.window_rewrite.proofs.DueMarks.{set_length, untaken, was_unmarked}
use Rattle.window_rewrite.proofs.DueNone.{applies_at, none_still, AreShort, IsFar, NoneLost}
use Rattle.window_rewrite.proofs.DuePlaces.{among, behind_by_rank, taken_ranked, was_kept}
use Rattle.window_rewrite.proofs.Applied.{meets}
use Rattle.window_rewrite.specs.Settled.{MayGiveWay}
use Rattle.window_rewrite.proofs.Settled.{IsGap}
use Rattle.window_rewrite.proofs.WindowPlaces.{first_op, window_within}

-- ---- the table ----

-- the rules of a table that is ready
pub short_rules : (r : Rules) → AreReady r → AreShort (setting_of r) r.longest
short_rules r ready o rule at lowers =
    let f = ready.fit o.entry o.instance rule at in
    record { sound = f.sound; short = f.short; some = lowers_some (setting_of r).cost rule.left rule.right lowers }

-- where no entry fits, none fits that leaves lines that are allowed
pub none_less : (asked : Bool) (s : Setting) (lines : List ListingLine) (p : ℕ) → NoneAt false s lines p → NoneAt asked s lines p
none_less asked s lines p none o m at = none o (m.0, λ e. absurd (true≢false (sym e))) at

-- ---- which choice comes first ----

-- the place of an entry that applies is the rank of a kept place
pub record StandsAt (scene : Scene) (r : ℕ) : Type 0 where
  pub place : ℕ
  pub within : place < length scene.listing.stands
  pub kept : is_gone (marks scene.listing) place ≡ false
  pub here : rank (marks scene.listing) place ≡ r

pub marks_many : (e : Edited) → length (marks e) ≡ length e.stands
marks_many e = length_map is_none e.stands

stands_at : (r : Rules) (scene : Scene) (o : Replacement) → IsKept scene → AppliesIn (setting_of r) o (lines_of scene) → StandsAt scene o.place
stands_at r scene o k a =
    let t = applies_at (setting_of r) o (marks scene.listing) (padded scene.listing) (lines_of scene) k.is_padded a in
    record { place = t.0; within = omega (arith, t.1, k.as_many, marks_many scene.listing); kept = t.2; here = t.3 }

-- none applies at a lesser place than the least one that is due
none_lesser : (r : Rules) (scene : Scene) (d : WorkList) (place : ℕ) → IsKept scene → AreTriedBut (setting_of r) scene d place → ((q : ℕ) → q < place → marked d.due q ≡ false)
    → (o : Replacement) → AppliesIn (setting_of r) o (lines_of scene) → rank (marks scene.listing) place ≤ o.place
none_lesser r scene d place k tried least o a = elim (cases_lt o.place (rank (marks scene.listing) place)) [
  | inl h ↦ absurd (
      let t = stands_at r scene o k a in
      let b = behind_by_rank (marks scene.listing) t.place place (omega (arith, t.here, h)) in
      tried.tried t.place t.within t.kept (least t.place b) (λ e. omega arith) o (meets (marked d.refused t.place) (setting_of r) o (lines_of scene) a) (sym t.here))
  | inr h ↦ h
]

pub first_here : (r : Rules) (scene : Scene) (d : WorkList) (place : ℕ) (c : Choice) → IsKept scene → AreTriedBut (setting_of r) scene d place → ((q : ℕ) → q < place → marked d.due q ≡ false)
    → IsBest (setting_of r) (lines_of scene) (rank (marks scene.listing) place) c → IsFirst (setting_of r) (choice_of c) (lines_of scene)
first_here r scene d place c k tried least b =
    let here = b.at in
    record {
      applies = b.is.applies;
      least_place = λ o a. let l = none_lesser r scene d place k tried least o a in omega arith;
      longest = λ o a e. b.longest o a (e ∙ here);
      lowest = λ o a e l. b.lowest o a (e ∙ here) l;
      lowest_instance = λ o a e l f. b.lowest_instance o a (e ∙ here) l f;
    }

-- where none is due none applies
pub none_left : (r : Rules) (scene : Scene) (d : WorkList) → IsKept scene → AreTried (setting_of r) scene d → ((p : ℕ) → marked d.due p ≡ false) → NoneApplies (setting_of r) (lines_of scene)
none_left r scene d k tried none o a =
    let t = stands_at r scene o k a in
    tried.tried t.place t.within t.kept (none t.place) o (meets (marked d.refused t.place) (setting_of r) o (lines_of scene) a) (sym t.here)

-- ---- what was tried ----

-- a place that was looked at counts as tried
pub tried_here : (s : Setting) (old new : Scene) (was d : WorkList) (place : ℕ) → AreTriedBut s old was place → AreMarks new d → length new.listing.stands ≡ length old.listing.stands → marks new.listing ≡ marks old.listing → lines_of new ≡ lines_of old → d.due ≡ was.due
    → ((p : ℕ) → (p ≡ place → ⊥) → marked d.refused p ≡ marked was.refused p) → NoneAt (marked d.refused place) s (lines_of old) (rank (marks old.listing) place) → AreTried s new d
tried_here s old new was d place tried are many same lines due refused none = record {
  are = are;
  tried = λ p h k u.
      subst (λ (ls : List ListingLine). NoneAt (marked d.refused p) s ls (rank (marks new.listing) p)) (sym lines)
      (subst (λ (m : List Bool). NoneAt (marked d.refused p) s (lines_of old) (rank m p)) (sym same)
      (at p (omega arith) (ap (λ (m : List Bool). is_gone m p) (sym same) ∙ k) (ap (λ (m : List Bool). marked m p) (sym due) ∙ u)));
}
  where
    at : (p : ℕ) → p < length old.listing.stands → is_gone (marks old.listing) p ≡ false → marked was.due p ≡ false → NoneAt (marked d.refused p) s (lines_of old) (rank (marks old.listing) p)
    at p h k u = elim (cases_eq p place) [
      | inl e ↦ subst (λ q. NoneAt (marked d.refused q) s (lines_of old) (rank (marks old.listing) q)) (sym e) none
      | inr e ↦ subst (λ b. NoneAt b s (lines_of old) (rank (marks old.listing) p)) (sym (refused p e)) (tried.tried p h k u e)
    ]

-- ---- what is due again ----

-- what is due when a window of these places, the first of which is this, gave way: `lost` are the places that lost an item
pub record AreDueAgain (longest : ℕ) (old new : Scene) (places : List ℕ) (place : ℕ) (was d : WorkList) (lost : List Bool) : Type 0 where
  pub stay : StayMarked was.due d.due
  pub window : (k p : ℕ) → slice_get places k ≡ Some p → marked d.due p ≡ true
  pub before : (p : ℕ) → Reaches (marks old.listing) longest p place → marked d.due p ≡ true
  pub behind : (p q : ℕ) → marked lost (suc q) ≡ true → is_gone (marks new.listing) q ≡ false → Reaches (marks new.listing) longest p q → marked d.due p ≡ true
  pub are_lost : (p : ℕ) → LosesAt (set_at old.live.before p) (set_at new.live.before p) → marked lost p ≡ true
  pub refused : (p : ℕ) → marked was.refused p ≡ true → marked d.due p ≡ true
  pub are : AreMarks new d

-- the choice that was made at a site
pub record IsMadeAt (r : Rules) (old new : Scene) (t : Site) (c : Choice) : Type 0 where
  pub ready : AreReady r
  pub old_kept : IsKept old
  pub new_kept : IsKept new
  pub site : IsSite r.longest old t
  pub is : IsChoice (setting_of r) (lines_of old) c
  pub here : (choice_of c).place ≡ t.number
  pub within : length c.window ≤ length t.run.places.items
  pub lines : lines_of new ≡ lines_after (setting_of r) (choice_of c) (lines_of old)
  pub many : length new.listing.stands ≡ length old.listing.stands
  pub gone : marks new.listing ≡ marks_after (take (length c.window) t.run.places.items) c.new (marks old.listing)
  pub is_padded : padded new.listing ≡ exchanged (take (length c.window) t.run.places.items) c.new (padded old.listing)

module _ (r : Rules) (old new : Scene) (t : Site) (c : Choice) (m : IsMadeAt r old new t c) where
  abbrev places : List ℕ
  places = take (length c.window) t.run.places.items

  count : length places ≡ length c.window
  count = take_all (length c.window) t.run.places.items m.within

  gives_way : MayGiveWay (code_of (lines_of old)) t.number c.window c.new
  gives_way = subst (λ p. MayGiveWay (code_of (lines_of old)) p c.window c.new) m.here m.is.gives_way

  ranked : AreRanked (marks old.listing) t.number places
  ranked = taken_ranked (marks old.listing) t.number (length c.window) t.run.places.items m.site.places

  new_lines : lines_of new ≡ replaced_lines (setting_of r).write t.number (length places) c.new (lines_of old)
  new_lines =
      m.lines ∙ sym m.is.leaves ∙ ap (λ p. replaced_lines (setting_of r).write p (length c.window) c.new (lines_of old)) m.here
      ∙ ap (λ n. replaced_lines (setting_of r).write t.number n c.new (lines_of old)) (sym count)

  gave_way : GaveWay (setting_of r).write (marks old.listing) (padded old.listing) (lines_of old) t.number places c.new
  gave_way =
      let some = gives_way.some in
      record {
        padded_is = m.old_kept.is_padded;
        ranked = ranked;
        gap = subst (λ n. IsGap (places_of (lines_of old)) (labels_from 0 (lines_of old)) t.number n c.new) (sym count) (record {
          within = window_within c.window (length c.window) (places_of (lines_of old)) t.number refl (omega arith) gives_way.stands;
          some = some;
          no_longer = gives_way.no_longer;
          first = first_op c.window (length c.window) (places_of (lines_of old)) t.number refl (omega arith) gives_way.stands;
          unlabelled = gives_way.unlabelled;
        });
        ops = ops_of c.window (length places) (drop t.number (places_of (lines_of old))) count (ap (λ n. take n (drop t.number (places_of (lines_of old)))) count ∙ gives_way.stands);
        new_padded =
            subst (λ (g : List Bool). IsPadded g (exchanged places c.new (padded old.listing)) (code_of (replaced_lines (setting_of r).write t.number (length places) c.new (lines_of old)))) m.gone
            (subst (λ (p : Code). IsPadded (marks new.listing) p (code_of (replaced_lines (setting_of r).write t.number (length places) c.new (lines_of old)))) m.is_padded
            (subst (λ (ls : List ListingLine). IsPadded (marks new.listing) (padded new.listing) (code_of ls)) new_lines m.new_kept.is_padded));
      }

  pub tried_again : (was d : WorkList) (lost : List Bool) → AreTriedBut (setting_of r) old was t.place → AreDueAgain r.longest old new places t.place was d lost → AreTried (setting_of r) new d
  tried_again was d lost tried again = record { are = again.are; tried = at }
    where
      kept_then : (p : ℕ) → is_gone (marks new.listing) p ≡ false → is_gone (marks old.listing) p ≡ false
      kept_then p k = was_kept places c.new (marks old.listing) p (ap (λ (g : List Bool). is_gone g p) (sym m.gone) ∙ k)

      not_within : (p : ℕ) → is_gone (marks old.listing) p ≡ false → marked d.due p ≡ false → t.number ≤ rank (marks old.listing) p → rank (marks old.listing) p < t.number + length places → ⊥
      not_within p k u l h = true≢false (sym (again.window (rank (marks old.listing) p - t.number) p (among (marks old.listing) t.number places ranked p k l h)) ∙ u)

      far : (p : ℕ) → is_gone (marks old.listing) p ≡ false → marked d.due p ≡ false → IsFar (marks old.listing) r.longest t.number (length places) p
      far p k u = elim (cases_lt (rank (marks old.listing) p) (t.number + length places)) [
        | inr b ↦ inr b
        | inl l ↦ elim (cases_lt (rank (marks old.listing) p) t.number) [
          | inr b ↦ absurd (not_within p k u b l)
          | inl b ↦ elim (cases_lt t.number (rank (marks old.listing) p + r.longest)) [
            | inr e ↦ inl e
            | inl e ↦ absurd (
                let number = m.site.number in
                true≢false (sym (again.before p (record { kept = k; up_to = omega arith; near = omega arith })) ∙ u))
          ]
        ]
      ]

      none_lost : (p : ℕ) → marked d.due p ≡ false → NoneLost (marks new.listing) (padded old.listing) (padded new.listing) r.longest p
      none_lost p u q x k reaches h =
          let had : has (set_at old.live.before (suc q)) x ≡ true = (m.old_kept.live.live (suc q) x).1 h in
          elim (cases_Bool (has (set_at new.live.before (suc q)) x)) [
            | inl still ↦ (m.new_kept.live.live (suc q) x).0 still
            | inr gone ↦ absurd (true≢false (sym (again.behind p q (again.are_lost (suc q) (x, had, gone)) k reaches) ∙ u))
          ]

      at : (p : ℕ) → p < length new.listing.stands → is_gone (marks new.listing) p ≡ false → marked d.due p ≡ false → NoneAt (marked d.refused p) (setting_of r) (lines_of new) (rank (marks new.listing) p)
      at p h k u =
          let then : is_gone (marks old.listing) p ≡ false = kept_then p k in
          let many = m.many in
          let some = gives_way.some in
          let long = count in
          let number = m.site.number in
          let other : p ≡ t.place → ⊥ = λ e. not_within p then u (let s = ap (rank (marks old.listing)) e in omega arith) (let s = ap (rank (marks old.listing)) e in omega arith) in
          let was_refused : marked was.refused p ≡ false = elim (cases_Bool (marked was.refused p)) [
            | inl t ↦ absurd (true≢false (sym (again.refused p t) ∙ u))
            | inr f ↦ f
          ] in
          let before : NoneAt false (setting_of r) (lines_of old) (rank (marks old.listing) p) = subst (λ b. NoneAt b (setting_of r) (lines_of old) (rank (marks old.listing) p)) was_refused (tried.tried p (omega arith) then (was_unmarked was.due d.due p again.stay u) other) in
          none_less (marked d.refused p) (setting_of r) (lines_of new) (rank (marks new.listing) p)
          (none_still (setting_of r) r.longest (marks old.listing) (marks new.listing) (padded old.listing) (padded new.listing) (lines_of old) (lines_of new) t.number (length places) places c.new (short_rules r m.ready) gave_way refl m.gone m.is_padded new_lines p k (far p then u) (none_lost p u) before)

-- the window of a choice at a site is a front of the site's run
pub choice_within : (r : Rules) (scene : Scene) (t : Site) (c : Choice) → AreReady r → IsSite r.longest scene t → IsChoice (setting_of r) (lines_of scene) c → (choice_of c).place ≡ t.number → length c.window ≤ length t.run.instrs
choice_within r scene t c ready site is here =
    let a = is.applies in
    let short = (short_rules r ready (choice_of c) a.rule a.is_rule a.lowers).short in
    let long : length c.window ≡ length a.rule.left = is.long ∙ ap left_length_of a.is_rule in
    let some = is.gives_way.some in
    let w : IsWindow (lines_of scene) t.number c.window = subst (λ p. IsWindow (lines_of scene) p c.window) here is.is_window in
    let n = window_in_run (lines_of scene) t.number r.longest c.window (omega arith) (omega arith) w in
    omega (arith, n, ap (λ (is : List Instr). length is) site.instrs)

-- ---- the same listing ----

-- what was tried in a scene was tried in another one with the same listing
pub tried_same : (s : Setting) (old new : Scene) (d : WorkList) (p q : ℕ) → new.listing ≡ old.listing → q ≡ p → AreTriedBut s old d p → AreTriedBut s new d q
tried_same s old new d p q e f t =
    subst (λ k. AreTriedBut s new d k) (sym f)
    (subst (λ (l : Edited). AreTriedBut s (record { listing = l; live = new.live; layout = new.layout }) d p) (sym e)
    (record {
      are = record { due_many = t.are.due_many; refused_many = t.are.refused_many; lost_many = t.are.lost_many; none_lost = t.are.none_lost };
      tried = t.tried;
    }))

-- ---- where nothing is gone ----

pub whole_many : (scene : Scene) → IsKept scene → ((p : ℕ) → is_gone (marks scene.listing) p ≡ false) → length (places_of (lines_of scene)) ≡ length scene.listing.stands
whole_many scene k none =
    ap (λ (ps : List Place). length ps) (k.is_padded.places ∙ sym (whole_padded (marks scene.listing) (padded scene.listing) none).places) ∙ sym k.as_many ∙ marks_many scene.listing

-- where all places are due nothing was tried yet
pub tried_at_first : (s : Setting) (scene : Scene) (d : WorkList) (n : ℕ) → n ≡ length scene.listing.stands → d.due ≡ replicate n true → d.refused ≡ replicate n false → d.lost ≡ replicate n false → AreTried s scene d
tried_at_first s scene d n e due refused lost = record {
  are = record {
    due_many = ap (λ (ms : List Bool). length ms) due ∙ length-replicate n true ∙ e;
    refused_many = ap (λ (ms : List Bool). length ms) refused ∙ length-replicate n false ∙ e;
    lost_many = ap (λ (ms : List Bool). length ms) lost ∙ length-replicate n false ∙ e;
    none_lost = λ p. ap (λ (ms : List Bool). marked ms p) lost ∙ unmarked n p;
  };
  tried = λ p h k u. absurd (true≢false (sym (marked_replicate n p true (omega arith)) ∙ sym (ap (λ (ms : List Bool). marked ms p) due) ∙ u));
}

-- where a place is taken the others were tried
pub tried_but : (s : Setting) (scene : Scene) (was d : WorkList) (place : ℕ) → AreTried s scene was → d.due ≡ set was.due place false → d.refused ≡ was.refused → d.lost ≡ was.lost → AreTriedBut s scene d place
tried_but s scene was d place t due refused lost = record {
  are = record {
    due_many = ap (λ (ms : List Bool). length ms) due ∙ set_length was.due place false ∙ t.are.due_many;
    refused_many = ap (λ (ms : List Bool). length ms) refused ∙ t.are.refused_many;
    lost_many = ap (λ (ms : List Bool). length ms) lost ∙ t.are.lost_many;
    none_lost = λ p. ap (λ (ms : List Bool). marked ms p) lost ∙ t.are.none_lost p;
  };
  tried = λ p h k u n.
      subst (λ (ms : List Bool). NoneAt (marked ms p) s (lines_of scene) (rank (marks scene.listing) p)) (sym refused)
      (t.tried p h k (untaken was.due place p (ap (λ (ms : List Bool). marked ms p) (sym due) ∙ u) n));
}

-- the taken place needn't be tried where it is gone
pub tried_gone : (s : Setting) (scene : Scene) (d : WorkList) (place : ℕ) → is_gone (marks scene.listing) place ≡ true → AreTriedBut s scene d place → AreTried s scene d
tried_gone s scene d place gone t = record {
  are = t.are;
  tried = λ p h k u. t.tried p h k u (λ e. true≢false (sym gone ∙ ap (is_gone (marks scene.listing)) (sym e) ∙ k));
}

-- before a place that was the least one none is due
pub none_due_before : (was now : List Bool) (place : ℕ) → IsLeast was place → now ≡ set was place false → (q : ℕ) → q < place → marked now q ≡ false
none_due_before was now place l e q h = ap (λ (ms : List Bool). marked ms q) e ∙ marked_other was place q false (λ f. omega arith) ∙ l.least q h

-- ---- a look at a place ----

-- a place that was looked at counts as tried, also where something was refused there
pub tried_refused : (s : Setting) (old new : Scene) (was : WorkList) (place : ℕ) (r : List Bool) → AreTriedBut s old was place → new.listing ≡ old.listing → place < length old.listing.stands → r ≡ set was.refused place true
    → NoneAt true s (lines_of old) (rank (marks old.listing) place) → AreTried s new (record { due = was.due; refused = r; lost = was.lost })
tried_refused s old new was place r t e w is none =
    let many : length new.listing.stands ≡ length old.listing.stands = ap (λ (l : Edited). length l.stands) e in
    let within : place < length was.refused = omega (arith, t.are.refused_many) in
    tried_here s old new was (record { due = was.due; refused = r; lost = was.lost }) place t (record {
      due_many = t.are.due_many ∙ sym many;
      refused_many = ap (λ (ms : List Bool). length ms) is ∙ set_length was.refused place true ∙ t.are.refused_many ∙ sym many;
      lost_many = t.are.lost_many ∙ sym many;
      none_lost = t.are.none_lost;
    }) many (ap marks e) (ap lines_now e) refl
    (λ p n. ap (λ (ms : List Bool). marked ms p) is ∙ marked_other was.refused place p true n)
    (subst (λ b. NoneAt b s (lines_of old) (rank (marks old.listing) place)) (sym (ap (λ (ms : List Bool). marked ms place) is ∙ marked_set was.refused place true within)) none)

pub tried_idle : (s : Setting) (old new : Scene) (was : WorkList) (place : ℕ) → AreTriedBut s old was place → new.listing ≡ old.listing → NoneAt false s (lines_of old) (rank (marks old.listing) place) → AreTried s new was
tried_idle s old new was place t e none =
    let many : length new.listing.stands ≡ length old.listing.stands = ap (λ (l : Edited). length l.stands) e in
    tried_here s old new was was place t (record {
      due_many = t.are.due_many ∙ sym many;
      refused_many = t.are.refused_many ∙ sym many;
      lost_many = t.are.lost_many ∙ sym many;
      none_lost = t.are.none_lost;
    }) many (ap marks e) (ap lines_now e) refl (λ p n. refl) (none_less (marked was.refused place) s (lines_of old) (rank (marks old.listing) place) none)
