use Rattle.std.proofs.Common.{◌≡◌, ◌<◌, rules, map, subst, sym}
use Rattle.rule_table.specs.Views.{table_of}
use Rattle.table_learn.specs.declared.errors.LearnError.{LearnError}
use Rattle.table_learn.specs.declared.errors.LearnError.TheVariants as learn
use Rattle.table_learn.specs.Given.{settings_of, window_of}
use Rattle.table_learn.specs.Learnt.{IsFull}
use Rattle.table_learn.specs.Failing.{FailsAs}
use Rattle.audit_cli.specs.declared.refusal.Refusal.TheVariants as refusal
use Rattle.audit_cli.specs.Learn.{IsUnlearnt, too_wide, too_long}
use Rattle.audit_cli.proofs.LearnLemmas.{are_windows_of, harvest_windows}
use Rattle.audit_cli.proofs.steps.learnt.Goals as goal

pub learn-requires-clause-windows : goal.learn-requires-clause-windows
learn-requires-clause-windows g c = harvest_windows (settings_of c.args.settings) c.args.listing.now c.in_ok-windows.windows.items c.in_ok-windows.ensures

pub returns-in-Err-Wide : goal.returns-in-Err-Wide
returns-in-Err-Wide g c =
    let s = settings_of c.args.settings in
    let same : c.in-Err-Wide.field-0 ≡ learn.Wide c.in-Err-Wide.count = search rules in
    let fails = subst (λ (e : LearnError). FailsAs s (map window_of c.in_ok-windows.windows.items) e) same c.in-Err-Wide.ensures.fails in
    subst (λ n. IsUnlearnt s c.args.listing.now (refusal.Wide n)) (sym fails.0) (too_wide (subst (λ n. 5000000 < n) fails.0 fails.1))

pub returns-in-Err-Full : goal.returns-in-Err-Full
returns-in-Err-Full g c =
    let s = settings_of c.args.settings in
    let windows = map window_of c.in_ok-windows.windows.items in
    let same : c.in-Err-Full.field-0 ≡ learn.Full c.in-Err-Full.field-0-0 c.in-Err-Full.bytes = search rules in
    let full : IsFull s windows (table_of c.in-Err-Full.field-0-0) c.in-Err-Full.bytes = subst (λ (e : LearnError). FailsAs s windows e) same c.in-Err-Full.ensures.fails in
    too_long windows (are_windows_of s c.args.listing.now c.in_ok-windows.windows.items c.in_ok-windows.ensures) (table_of c.in-Err-Full.field-0-0) c.in-Err-Full.bytes full

pub returns : goal.returns
returns g c =
    let s = settings_of c.args.settings in
    record {
      windows = map window_of c.in_ok-windows.windows.items;
      are = are_windows_of s c.args.listing.now c.in_ok-windows.windows.items c.in_ok-windows.ensures;
      learnt = c.in-Ok.ensures.learnt;
      valid = c.in-Ok.ensures.valid;
      fits = c.in-Ok.ensures.fits;
    }
