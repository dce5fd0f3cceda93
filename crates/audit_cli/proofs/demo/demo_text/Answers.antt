use Rattle.std.proofs.Common.{◌≡◌, ◌++◌, rules, arith}
use Rattle.audit_cli.proofs.DemoTexts.{one_window_more, whole_text}
use Rattle.audit_cli.proofs.demo.demo_text.Goals as goal

pub loop-i-preserved : goal.loop-i-preserved
loop-i-preserved c =
    let more : c.extend_from_slice.new.self.items ≡ c.loop-i.text.items ++ c.in_ok-window.window.items = search rules in
    one_window_more c.loop-i.i c.loop-i.text.items c.in_ok-window.window.items c.extend_from_slice.new.self.items c.loop-i.invariant c.in_ok-window.ensures more

pub returns : goal.returns
returns c = whole_text c.loop-i.i c.args.windows c.loop-i.text.items c.extend_from_slice-2.new.self.items (omega arith) c.loop-i.invariant (search rules)
