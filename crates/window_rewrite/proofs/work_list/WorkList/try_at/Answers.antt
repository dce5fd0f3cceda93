use Rattle.std.proofs.Common.{◌≡◌, ℕ, List, drop, length, true, false, refl, subst, sym, ap, ◌∙◌, arith}
use Rattle.std.specs.Prelude.{IfOk}
use Rattle.std.specs.Option.{IfNone, IfSome}
use Rattle.thumb_instr.specs.declared.instr.Instr.{Instr}
use Rattle.rule_model.specs.Rules.{Rule}
use Rattle.rule_model.specs.Rewriting.{lines_after, IsFirst}
use Rattle.kept_places.specs.Marks.{rank}
use Rattle.edited_listing.specs.Edited.{Edited, lines_now, marks}
use Rattle.window_runs.specs.declared.rows.WindowPlace.{WindowPlace}
use Rattle.window_runs.specs.Rows.{rows_from}
use Rattle.window_runs.specs.Runs.{run}
use Rattle.window_rewrite.specs.Choices.{setting_of, table_in, NoneAt}
use Rattle.window_rewrite.specs.Fitting.{NoneReaches}
use Rattle.window_rewrite.specs.TableRewriting.{replacement_of, IsWhole}
use Rattle.window_rewrite.specs.Scenes.{lines_of}
use Rattle.window_rewrite.proofs.Chosen.{none_there}
use Rattle.window_rewrite.proofs.DueScenes.{tried_idle, tried_same}
use Rattle.window_rewrite.proofs.work_list.WorkList.try_at.Goals as goal

pub returns-then-not-may_begin-clause-tried : goal.returns-then-not-may_begin-clause-tried
returns-then-not-may_begin-clause-tried g c =
    let table : List (List Rule) = table_in c.args.rules.now in
    let at : ℕ = rank (marks c.args.scene.now.listing) c.args.place in
    let rows : List WindowPlace = drop at (rows_from false (lines_of c.args.scene.now)) in
    tried_idle (setting_of c.args.rules.now) c.args.scene.now c.args.scene.now c.args.self.now c.args.place c.requires.tried refl
    (none_there false c.args.rules.now.costs.now c.args.rules.now.base c.args.rules.now.longest table (lines_of c.args.scene.now) at (run true c.args.rules.now.longest rows) (run true c.args.rules.now.longest rows)
    c.requires.ready.fit refl refl (c.may_begin.ensures c.if-not-may_begin.true rows c.first_instr.ensures c.args.rules.now.longest))

pub returns-then-reached-eq0-clause-tried : goal.returns-then-reached-eq0-clause-tried
returns-then-reached-eq0-clause-tried g c =
    let e = c.run-run.ensures in
    let table : List (List Rule) = table_in c.args.rules.now in
    let none : NoneAt false (setting_of c.args.rules.now) (lines_of c.run-run.new.self) (rank (marks c.run-run.new.self.listing) c.args.place) =
    none_there false c.args.rules.now.costs.now c.args.rules.now.base c.args.rules.now.longest table (lines_of c.run-run.new.self) (rank (marks c.run-run.new.self.listing) c.args.place) c.run-run.result.instrs c.as_slice.result.now
    c.requires.ready.fit e.run.instrs c.as_slice.ensures.value
    (subst (λ (count : ℕ). NoneReaches c.args.rules.now.costs.now table c.as_slice.result.now count) c.if-reached-eq0.true c.reach-reached.ensures.none) in
    tried_idle (setting_of c.args.rules.now) c.args.scene.now c.run-run.new.self c.args.self.now c.args.place c.requires.tried e.listing
    (subst (λ (l : Edited). NoneAt false (setting_of c.args.rules.now) (lines_now l) (rank (marks l) c.args.place)) e.listing none)

pub try_site-requires-clause-none : goal.try_site-requires-clause-none
try_site-requires-clause-none g c =
    let same : c.as_slice.result.now ≡ c.site-site.result.run.instrs = c.as_slice.ensures.value ∙ sym (ap (λ r. r.instrs) c.site-site.ensures.run) in
    subst (λ (is : List Instr). NoneReaches c.args.rules.now.costs.now (table_in c.args.rules.now) is c.reach-reached.result) same c.reach-reached.ensures.none

pub try_site-requires-clause-reached : goal.try_site-requires-clause-reached
try_site-requires-clause-reached g c =
    let same : c.as_slice.result.now ≡ c.site-site.result.run.instrs = c.as_slice.ensures.value ∙ sym (ap (λ r. r.instrs) c.site-site.ensures.run) in
    omega (arith, c.reach-reached.ensures.within, ap (λ (is : List Instr). length is) same)

pub try_site-requires-clause-tried : goal.try_site-requires-clause-tried
try_site-requires-clause-tried g c =
    tried_same (setting_of c.args.rules.now) c.args.scene.now c.site-site.new.self c.args.self.now c.args.place c.site-site.result.place (c.site-site.ensures.listing ∙ c.run-run.ensures.listing) c.site-site.ensures.place c.requires.tried

pub returns-clause-none : goal.returns-clause-none
returns-clause-none g c =
    subst (λ (l : Edited). IfOk c.try_site.result (λ o. IfNone o ((lines_of c.try_site.new.scene ≡ lines_now l) × (c.try_site.new.self.due ≡ c.args.self.now.due)))) (c.site-site.ensures.listing ∙ c.run-run.ensures.listing) c.try_site.ensures.none

pub returns-clause-first : goal.returns-clause-first
returns-clause-first g c =
    subst (λ (l : Edited). IfOk c.try_site.result (λ o. IfSome o (λ r. IsWhole r × IsFirst (setting_of c.args.rules.now) (replacement_of r) (lines_now l) × (lines_of c.try_site.new.scene ≡ lines_after (setting_of c.args.rules.now) (replacement_of r) (lines_now l)))))
    (c.site-site.ensures.listing ∙ c.run-run.ensures.listing) c.try_site.ensures.first
