use Rattle.std.proofs.Common.{ℕ, List, Bool, refl, ap, ◌∙◌, sym, subst}
use Rattle.std.specs.Option.{IfNone, IfSome}
use Rattle.edited_listing.specs.Edited.{marks}
use Rattle.kept_places.specs.Marks.{rank}
use Rattle.rule_model.specs.Rewriting.{lines_after, IsFirst}
use Rattle.window_rewrite.specs.declared.choice.Replacement.{Replacement as Made}
use Rattle.window_rewrite.specs.declared.work_list.WorkList.{WorkList}
use Rattle.window_rewrite.specs.Choices.{choice_of, setting_of, IsBest, NoneAt}
use Rattle.window_rewrite.specs.WorkList.{AreTried}
use Rattle.window_rewrite.specs.TableRewriting.{replacement_of, IsWhole}
use Rattle.window_rewrite.specs.Scenes.{lines_of}
use Rattle.window_rewrite.proofs.DueScenes.{first_here, tried_idle, tried_refused}
use Rattle.window_rewrite.proofs.work_list.WorkList.try_site.Goals as goal
use Rattle.window_rewrite.proofs.work_list.WorkList.try_site.Goals.{then-is_refused, else-is_refused}

pub returns-after-is_refused-clause-tried : goal.returns-after-is_refused-clause-tried
returns-after-is_refused-clause-tried g c =
    let place : ℕ = c.args.site.now.place in
    let gone : List Bool = marks c.args.scene.now.listing in
    let seen : NoneAt c.best.new.refused (setting_of c.args.rules.now) (lines_of c.args.scene.now) c.args.site.now.number =
    subst (λ o. IfNone o (NoneAt c.best.new.refused (setting_of c.args.rules.now) (lines_of c.args.scene.now) c.args.site.now.number)) c.in-None.is c.in_ok-best.ensures.none in
    let here : NoneAt c.best.new.refused (setting_of c.args.rules.now) (lines_of c.args.scene.now) (rank gone place) =
    subst (λ n. NoneAt c.best.new.refused (setting_of c.args.rules.now) (lines_of c.args.scene.now) n) c.requires.site.number seen in
    elim c.if-is_refused.branch [
      | then-is_refused w ↦ subst (λ (d : WorkList). AreTried (setting_of c.args.rules.now) c.args.scene.now d) (sym w.self-is)
          (tried_refused (setting_of c.args.rules.now) c.args.scene.now c.args.scene.now c.args.self.now place w.insert.new.self c.requires.tried refl c.requires.site.within w.insert.ensures
          (subst (λ b. NoneAt b (setting_of c.args.rules.now) (lines_of c.args.scene.now) (rank gone place)) w.if-is_refused.true here))
      | else-is_refused w ↦ subst (λ (d : WorkList). AreTried (setting_of c.args.rules.now) c.args.scene.now d) (sym w.self-is)
          (tried_idle (setting_of c.args.rules.now) c.args.scene.now c.args.scene.now c.args.self.now place c.requires.tried refl
          (subst (λ b. NoneAt b (setting_of c.args.rules.now) (lines_of c.args.scene.now) (rank gone place)) w.if-is_refused.false here))
    ]

pub returns-in_ok-make-in-Some-clause-first : goal.returns-in_ok-make-in-Some-clause-first
returns-in_ok-make-in-Some-clause-first g c =
    let place : ℕ = c.args.site.now.place in
    let same = c.into_replacement.ensures in
    let seen : IsBest (setting_of c.args.rules.now) (lines_of c.args.scene.now) c.args.site.now.number c.in-Some.choice =
    subst (λ o. IfSome o (IsBest (setting_of c.args.rules.now) (lines_of c.args.scene.now) c.args.site.now.number)) c.in-Some.is c.in_ok-best.ensures.some in
    let best : IsBest (setting_of c.args.rules.now) (lines_of c.args.scene.now) (rank (marks c.args.scene.now.listing) place) c.in-Some.choice =
    subst (λ n. IsBest (setting_of c.args.rules.now) (lines_of c.args.scene.now) n c.in-Some.choice) c.requires.site.number seen in
    let first : IsFirst (setting_of c.args.rules.now) (choice_of c.in-Some.choice) (lines_of c.args.scene.now) = first_here c.args.rules.now c.args.scene.now c.args.self.now place c.in-Some.choice c.requires.over.kept c.requires.tried c.requires.least best in (
      subst (λ (m : Made). IsWhole m) (sym same) best.is.whole,
      subst (λ (m : Made). IsFirst (setting_of c.args.rules.now) (replacement_of m) (lines_of c.args.scene.now)) (sym same) first,
      c.in_ok-make-in-Some.ensures.lines ∙ ap (λ (m : Made). lines_after (setting_of c.args.rules.now) (replacement_of m) (lines_of c.args.scene.now)) (sym same),
    )
