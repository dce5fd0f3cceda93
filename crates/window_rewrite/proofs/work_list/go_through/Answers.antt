use Rattle.std.proofs.Common.{◌≡◌, ◌+◌, ◌-◌, ◌*◌, ◌<◌, ◌≤◌, List, All, length, refl, ap, ◌∙◌, sym, subst, arith, length-append}
use Rattle.std.specs.Int.{from_bool}
use Rattle.std.specs.Prelude.{is_some}
use Rattle.std.specs.Option.{IfNone, IfSome}
use Rattle.std.proofs.lemmas.List.Elements.{All-push}
use Rattle.kept_places.proofs.Ranks.{marked_within}
use Rattle.thumb_model.specs.Listing.{places_of}
use Rattle.rule_model.specs.Rewriting.{lines_after, Setting, IsFirst}
use Rattle.rule_model.proofs.LinesKept.{lower_after}
use Rattle.step_ledger.specs.Counts.{RisesByAtLeast}
use Rattle.step_ledger.proofs.Rises.{at_least-fewer, at_least-goes_on, at_least-stays}
use Rattle.window_rewrite.specs.declared.choice.Replacement.{Replacement as Made}
use Rattle.window_rewrite.specs.Choices.{setting_of, sides_of}
use Rattle.window_rewrite.specs.WorkList.{before_least, Completes}
use Rattle.window_rewrite.specs.TableRewriting.{replacement_of, IsWhole}
use Rattle.window_rewrite.specs.Scenes.{lines_of}
use Rattle.window_rewrite.proofs.DueMarks.{least_is, least_on, none_marked}
use Rattle.window_rewrite.proofs.DueScenes.{none_due_before, none_left, tried_at_first, tried_but, tried_gone, whole_many}
use Rattle.window_rewrite.proofs.Rounds.{cost_ends, less_left, less_paid, no_more, one_more, paid, round_ends, round_goes}
use Rattle.window_rewrite.proofs.Weights.{costs_kept}
use Rattle.window_rewrite.proofs.work_list.go_through.Goals as goal

pub loop-place-init : goal.loop-place-init
loop-place-init g c =
    let q = c.requires in
    let none = c.new-replacements.ensures.items in
    let due = c.in_ok-work_list.ensures in
    record {
      over = q.over;
      tried = tried_at_first (setting_of c.args.rules.now) c.args.scene.now c.in_ok-work_list.work_list c.place_count.result c.place_count.ensures due.due due.refused due.lost;
      many = refl;
      completes = subst (λ (ms : List Made). Completes (setting_of c.args.rules.now) (lines_of c.args.scene.now) ms (lines_of c.args.scene.now)) (sym none) (λ rs new w. w);
      whole = subst (λ (ms : List Made). All IsWhole ms) (sym none) (λ k d h. absurd (omega arith));
      cost = omega arith;
      rises = subst (λ (ms : List Made). RisesByAtLeast c.args.steps.now c.args.steps.now (length ms)) (sym none) (at_least-stays c.args.steps.now);
    }

pub is_gone-requires : goal.is_gone-requires
is_gone-requires g c = let w = marked_within c.loop-place.work_list.due c.in-Some.place c.in-Some.ensures.least.here in omega (arith, w, c.loop-place.invariant.tried.are.due_many)

pub loop-place-smaller-then-is_gone : goal.loop-place-smaller-then-is_gone
loop-place-smaller-then-is_gone g c =
    let i = c.loop-place.invariant in
    let l = least_on c.loop-place.work_list.due c.take_least.new.self c.in-Some.place (length c.args.scene.now.listing.stands) c.in-Some.ensures.least c.in-Some.ensures.taken (i.tried.are.due_many ∙ i.many) in
    less_left (paid (setting_of c.args.rules.now) (lines_of c.loop-place.scene) * (length c.args.scene.now.listing.stands + 1)) (length c.args.scene.now.listing.stands) (before_least c.loop-place.work_list.due) (before_least c.take_least.new.self) l.0 l.1

pub loop-place-preserved-then-is_gone : goal.loop-place-preserved-then-is_gone
loop-place-preserved-then-is_gone g c =
    let i = c.loop-place.invariant in
    let l = least_on c.loop-place.work_list.due c.take_least.new.self c.in-Some.place (length c.args.scene.now.listing.stands) c.in-Some.ensures.least c.in-Some.ensures.taken (i.tried.are.due_many ∙ i.many) in
    let but = tried_but (setting_of c.args.rules.now) c.loop-place.scene c.loop-place.work_list (record { due = c.take_least.new.self; refused = c.loop-place.work_list.refused; lost = c.loop-place.work_list.lost }) c.in-Some.place i.tried c.in-Some.ensures.taken refl refl in
    record {
      over = i.over;
      tried = tried_gone (setting_of c.args.rules.now) c.loop-place.scene (record { due = c.take_least.new.self; refused = c.loop-place.work_list.refused; lost = c.loop-place.work_list.lost }) c.in-Some.place (sym c.if-is_gone.ensures) but;
      many = i.many;
      completes = i.completes;
      whole = i.whole;
      cost = round_goes c.args.steps.now c.loop-place.steps c.loop-place.steps (length c.loop-place.replacements.items) (length c.args.scene.now.listing.stands * length (sides_of c.args.rules.now))
          (length (sides_of c.args.rules.now)) (before_least c.loop-place.work_list.due) (before_least c.take_least.new.self) i.cost (omega arith) l.0;
      rises = i.rises;
    }

pub try_at-requires-clause-within : goal.try_at-requires-clause-within
try_at-requires-clause-within g c =
    let w = marked_within c.loop-place.work_list.due c.in-Some.place c.in-Some.ensures.least.here in
    let h : c.in-Some.place < length c.loop-place.scene.listing.stands = omega (arith, w, c.loop-place.invariant.tried.are.due_many) in
    h

pub try_at-requires-clause-tried : goal.try_at-requires-clause-tried
try_at-requires-clause-tried g c =
    tried_but (setting_of c.args.rules.now) c.loop-place.scene c.loop-place.work_list (record { due = c.take_least.new.self; refused = c.loop-place.work_list.refused; lost = c.loop-place.work_list.lost }) c.in-Some.place c.loop-place.invariant.tried c.in-Some.ensures.taken refl refl

pub try_at-requires-clause-least : goal.try_at-requires-clause-least
try_at-requires-clause-least g c = none_due_before c.loop-place.work_list.due c.take_least.new.self c.in-Some.place c.in-Some.ensures.least c.in-Some.ensures.taken

pub loop-place-smaller-in-Continue-branch-4 : goal.loop-place-smaller-in-Continue-branch-4
loop-place-smaller-in-Continue-branch-4 g c =
    let first : IsWhole c.in-Some-2.replacement × IsFirst (setting_of c.args.rules.now) (replacement_of c.in-Some-2.replacement) (lines_of c.loop-place.scene) × (lines_of c.try_at.new.scene ≡ lines_after (setting_of c.args.rules.now) (replacement_of c.in-Some-2.replacement) (lines_of c.loop-place.scene)) =
    subst (λ o. IfSome o (λ r. IsWhole r × IsFirst (setting_of c.args.rules.now) (replacement_of r) (lines_of c.loop-place.scene) × (lines_of c.try_at.new.scene ≡ lines_after (setting_of c.args.rules.now) (replacement_of r) (lines_of c.loop-place.scene)))) c.in-Some-2.is c.in_ok-replacement.ensures.first in
    let s : Setting = setting_of c.args.rules.now in
    let lower = lower_after s (replacement_of c.in-Some-2.replacement) (lines_of c.loop-place.scene) (costs_kept c.args.rules.now.costs.now) (λ k i rule at. (c.requires.ready.fit k i rule at).sound) first.1.applies in
    let less : paid s (lines_of c.try_at.new.scene) < paid s (lines_of c.loop-place.scene) = omega (arith, lower, ap (paid s) first.2) in
    less_paid (paid s (lines_of c.try_at.new.scene)) (paid s (lines_of c.loop-place.scene)) (length c.args.scene.now.listing.stands) _ (before_least c.try_at.new.self.due) less

pub loop-place-preserved-in-Continue-branch-4 : goal.loop-place-preserved-in-Continue-branch-4
loop-place-preserved-in-Continue-branch-4 g c =
    let i = c.loop-place.invariant in
    let done = c.in_ok-replacement.ensures in
    let first : IsWhole c.in-Some-2.replacement × IsFirst (setting_of c.args.rules.now) (replacement_of c.in-Some-2.replacement) (lines_of c.loop-place.scene) × (lines_of c.try_at.new.scene ≡ lines_after (setting_of c.args.rules.now) (replacement_of c.in-Some-2.replacement) (lines_of c.loop-place.scene)) =
    subst (λ o. IfSome o (λ r. IsWhole r × IsFirst (setting_of c.args.rules.now) (replacement_of r) (lines_of c.loop-place.scene) × (lines_of c.try_at.new.scene ≡ lines_after (setting_of c.args.rules.now) (replacement_of r) (lines_of c.loop-place.scene)))) c.in-Some-2.is done.first in
    let rises : RisesByAtLeast c.loop-place.steps c.try_at.new.steps 1 = subst (λ o. RisesByAtLeast c.loop-place.steps c.try_at.new.steps (from_bool (is_some o))) c.in-Some-2.is done.rises in
    let more = c.in_ok-push.ensures.items in
    let long : length c.push.new.self.items ≡ length c.loop-place.replacements.items + 1 = ap (λ (ms : List Made). length ms) more ∙ length-append c.loop-place.replacements.items _ in
    let w = marked_within c.loop-place.work_list.due c.in-Some.place c.in-Some.ensures.least.here in
    let within : before_least c.loop-place.work_list.due < length c.args.scene.now.listing.stands = omega (arith, w, least_is c.loop-place.work_list.due c.in-Some.place c.in-Some.ensures.least, i.tried.are.due_many, i.many) in
    let cost = round_ends c.args.steps.now c.loop-place.steps c.try_at.new.steps (length c.loop-place.replacements.items) (length c.args.scene.now.listing.stands * length (sides_of c.args.rules.now))
    (length (sides_of c.args.rules.now)) (before_least c.loop-place.work_list.due) (length c.args.scene.now.listing.stands) i.cost done.cost within refl in
    record {
      over = done.over;
      tried = done.tried;
      many = done.many ∙ i.many;
      completes = one_more (setting_of c.args.rules.now) (lines_of c.args.scene.now) (lines_of c.loop-place.scene) (lines_of c.try_at.new.scene) c.loop-place.replacements.items c.push.new.self.items c.in-Some-2.replacement first.1 first.2 more i.completes;
      whole = subst (λ (ms : List Made). All IsWhole ms) (sym more) (All-push IsWhole c.loop-place.replacements.items c.in-Some-2.replacement i.whole first.0);
      cost = subst (λ n. c.try_at.new.steps ≤ c.args.steps.now + n * (length c.args.scene.now.listing.stands * length (sides_of c.args.rules.now)) + before_least c.try_at.new.self.due * length (sides_of c.args.rules.now)) (sym long) (omega arith);
      rises = subst (λ n. RisesByAtLeast c.args.steps.now c.try_at.new.steps n) (sym long) (at_least-goes_on c.args.steps.now c.loop-place.steps c.try_at.new.steps (length c.loop-place.replacements.items) 1 i.rises rises);
    }

pub loop-place-smaller : goal.loop-place-smaller
loop-place-smaller g c =
    let i = c.loop-place.invariant in
    let l = least_on c.loop-place.work_list.due c.take_least.new.self c.in-Some.place (length c.args.scene.now.listing.stands) c.in-Some.ensures.least c.in-Some.ensures.taken (i.tried.are.due_many ∙ i.many) in
    let idle : (lines_of c.try_at.new.scene ≡ lines_of c.loop-place.scene) × (c.try_at.new.self.due ≡ c.take_least.new.self) =
    subst (λ o. IfNone o ((lines_of c.try_at.new.scene ≡ lines_of c.loop-place.scene) × (c.try_at.new.self.due ≡ c.take_least.new.self))) c.in_default-2.is c.in_ok-replacement.ensures.none in
    let next : before_least c.try_at.new.self.due ≡ before_least c.take_least.new.self = ap before_least idle.1 in
    subst (λ ls. paid (setting_of c.args.rules.now) ls * (length c.args.scene.now.listing.stands + 1) + (length c.args.scene.now.listing.stands - before_least c.try_at.new.self.due) < paid (setting_of c.args.rules.now) (lines_of c.loop-place.scene) * (length c.args.scene.now.listing.stands + 1) + (length c.args.scene.now.listing.stands - before_least c.loop-place.work_list.due)) (sym idle.0)
    (less_left (paid (setting_of c.args.rules.now) (lines_of c.loop-place.scene) * (length c.args.scene.now.listing.stands + 1)) (length c.args.scene.now.listing.stands) (before_least c.loop-place.work_list.due) (before_least c.try_at.new.self.due) (omega (arith, l.0, next)) (omega (arith, l.1, next)))

pub loop-place-preserved : goal.loop-place-preserved
loop-place-preserved g c =
    let i = c.loop-place.invariant in
    let done = c.in_ok-replacement.ensures in
    let l = least_on c.loop-place.work_list.due c.take_least.new.self c.in-Some.place (length c.args.scene.now.listing.stands) c.in-Some.ensures.least c.in-Some.ensures.taken (i.tried.are.due_many ∙ i.many) in
    let idle : (lines_of c.try_at.new.scene ≡ lines_of c.loop-place.scene) × (c.try_at.new.self.due ≡ c.take_least.new.self) =
    subst (λ o. IfNone o ((lines_of c.try_at.new.scene ≡ lines_of c.loop-place.scene) × (c.try_at.new.self.due ≡ c.take_least.new.self))) c.in_default-2.is done.none in
    let next : before_least c.try_at.new.self.due ≡ before_least c.take_least.new.self = ap before_least idle.1 in
    record {
      over = done.over;
      tried = done.tried;
      many = done.many ∙ i.many;
      completes = subst (λ ls. Completes (setting_of c.args.rules.now) (lines_of c.args.scene.now) c.loop-place.replacements.items ls) (sym idle.0) i.completes;
      whole = i.whole;
      cost = round_goes c.args.steps.now c.loop-place.steps c.try_at.new.steps (length c.loop-place.replacements.items) (length c.args.scene.now.listing.stands * length (sides_of c.args.rules.now))
          (length (sides_of c.args.rules.now)) (before_least c.loop-place.work_list.due) (before_least c.try_at.new.self.due) i.cost done.cost (omega (arith, l.0, next));
      rises = at_least-fewer c.args.steps.now c.try_at.new.steps (length c.loop-place.replacements.items + _) (length c.loop-place.replacements.items) (omega arith) (at_least-goes_on c.args.steps.now c.loop-place.steps c.try_at.new.steps (length c.loop-place.replacements.items) _ i.rises done.rises);
    }

pub returns-clause-rewritten : goal.returns-clause-rewritten
returns-clause-rewritten g c =
    let i = c.loop-place.invariant in
    no_more (setting_of c.args.rules.now) (lines_of c.args.scene.now) (lines_of c.loop-place.scene) c.loop-place.replacements.items (none_left c.args.rules.now c.loop-place.scene c.loop-place.work_list i.over.kept i.tried c.in_default.ensures.none) i.completes

pub returns-clause-cost : goal.returns-clause-cost
returns-clause-cost g c =
    let i = c.loop-place.invariant in
    cost_ends c.args.steps.now c.loop-place.steps (length c.loop-place.replacements.items) (length c.args.scene.now.listing.stands) (length (sides_of c.args.rules.now)) (before_least c.loop-place.work_list.due) (length (places_of (lines_of c.args.scene.now))) i.cost
    (none_marked c.loop-place.work_list.due c.in_default.ensures.none ∙ i.tried.are.due_many ∙ i.many) (whole_many c.args.scene.now c.requires.over.kept c.requires.none_gone)
