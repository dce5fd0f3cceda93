use Rattle.std.proofs.Common.{ℕ, ◌≡◌, ◌+◌, ◌*◌, ◌∷◌, ◌++◌, [], ◌∙◌, ap, sym, arith, not, map, length, true, false, length-append, refl}
use Rattle.thumb_instr.specs.declared.items.Mask.{Mask}
use Rattle.window_exec.specs.State.{seen}
use Rattle.rule_table.specs.Views.{opened_of, rule_of}
use Rattle.rule_table.specs.Text.{open_items}
use Rattle.table_audit.specs.Shorter.{below_at}
use Rattle.table_learn.specs.Given.{settings_of}
use Rattle.table_learn.specs.Fitness.{stays_open, tells_number}
use Rattle.table_learn.specs.Lengths.{lines_length}
use Rattle.table_learn.proofs.Dropped.{name_dropped, name_kept, names_longer, new_longer}
use Rattle.table_learn.proofs.dropping.drop_told.Goals as goal
use Rattle.common_lemmas.proofs.Numbers.{one_more_times}

pub loop-name-preserved-then-tells_open : goal.loop-name-preserved-then-tells_open
loop-name-preserved-then-tells_open g c =
    let p = stays_open (settings_of c.args.settings.now) (map seen c.args.found.now) (rule_of c.args.entry) in
    let tells : c.tells_open.result ≡ tells_number (map seen c.args.found.now) (rule_of c.args.entry) (below_at (settings_of c.args.settings.now) c.args.entry.left c.args.entry.right c.in-Some.name.number) =
    c.tells_open.ensures.told (rule_of c.args.entry) (sym c.new-window.ensures.left) (ap (λ (m : Mask). m.items.bits) (sym c.new-window.ensures.mask)) refl in
    let drops : stays_open (settings_of c.args.settings.now) (map seen c.args.found.now) (rule_of c.args.entry) (opened_of c.in-Some.name) ≡ false = ap not (sym tells ∙ c.if-tells_open.true) in
    let more = names_longer c.loop-name.yielded c.in-Some.name in
    let l = length-append c.loop-name.yielded (c.in-Some.name ∷ []) in
    let unit = length c.args.found.now * (length c.new-window.result.left + length c.new-window.result.left) in
    let next = one_more_times (length c.loop-name.yielded) unit in
    let count : length (c.loop-name.yielded ++ c.in-Some.name ∷ []) * unit ≡ (length c.loop-name.yielded + 1) * unit = ap (λ (j : ℕ). j * unit) l in
    record {
      kept = name_dropped p c.loop-name.yielded c.in-Some.name (map opened_of c.loop-name.kept.items) drops c.loop-name.invariant.kept;
      freed = (let line : c.in_ok-open_length.field-0 ≡ lines_length (open_items (opened_of c.in-Some.name)) = c.in_ok-open_length.ensures in omega (arith, more, line, c.in_ok-freed.ensures, c.loop-name.invariant.freed));
      cost = omega (arith, c.loop-name.invariant.cost, c.tells_open.ensures.cost, next, count);
    }

pub loop-name-preserved : goal.loop-name-preserved
loop-name-preserved g c =
    let p = stays_open (settings_of c.args.settings.now) (map seen c.args.found.now) (rule_of c.args.entry) in
    let tells : c.tells_open.result ≡ tells_number (map seen c.args.found.now) (rule_of c.args.entry) (below_at (settings_of c.args.settings.now) c.args.entry.left c.args.entry.right c.in-Some.name.number) =
    c.tells_open.ensures.told (rule_of c.args.entry) (sym c.new-window.ensures.left) (ap (λ (m : Mask). m.items.bits) (sym c.new-window.ensures.mask)) refl in
    let stays : stays_open (settings_of c.args.settings.now) (map seen c.args.found.now) (rule_of c.args.entry) (opened_of c.in-Some.name) ≡ true = ap not (sym tells ∙ c.if-tells_open.false) in
    let more = names_longer c.loop-name.yielded c.in-Some.name in
    let new = new_longer c.loop-name.kept.items c.push.new.self.items c.in-Some.name c.in_ok-push.ensures.items in
    let l = length-append c.loop-name.yielded (c.in-Some.name ∷ []) in
    let unit = length c.args.found.now * (length c.new-window.result.left + length c.new-window.result.left) in
    let next = one_more_times (length c.loop-name.yielded) unit in
    let count : length (c.loop-name.yielded ++ c.in-Some.name ∷ []) * unit ≡ (length c.loop-name.yielded + 1) * unit = ap (λ (j : ℕ). j * unit) l in
    record {
      kept = name_kept p c.loop-name.yielded c.loop-name.kept.items c.push.new.self.items c.in-Some.name stays c.loop-name.invariant.kept c.in_ok-push.ensures.items;
      freed = omega (arith, more, new, c.loop-name.invariant.freed);
      cost = omega (arith, c.loop-name.invariant.cost, c.tells_open.ensures.cost, next, count);
    }
