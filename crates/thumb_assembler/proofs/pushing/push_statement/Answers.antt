use Rattle.std.proofs.Common.{◌≡◌, ◌∙◌, ◌++◌, List, true, map, sym, ap, subst}
use Rattle.thumb_assembler.specs.Bytes.{nops}
use Rattle.listing_parser.specs.declared.line.Statement.{Statement as Statements}
use Rattle.listing_parser.specs.declared.line.Value.{Value as Values}
use Rattle.listing_parser.specs.Views.{statement_view, value_view}
use Rattle.thumb_assembler.specs.Fair.{is_fair}
use Rattle.thumb_assembler.specs.Pushes.{Pushes, PushesValues, PushedLaid}
use Rattle.thumb_assembler.proofs.Pushed.{words_push, padding_pushed}
use Rattle.thumb_assembler.proofs.pushing.push_statement.Goals as goal

pub returns-in-Words : goal.returns-in-Words
returns-in-Words c =
    subst (λ (s : Statements). Pushes c.args.layout.now.base c.args.listing.now c.args.at (statement_view s) c.args.bytes.now.items c.push_values.new.bytes.items c.push_values.result) (sym c.in-Words.is)
    (words_push c.args.layout.now.base c.args.listing.now c.args.at (map value_view c.in-Words.values.items) c.args.bytes.now.items c.push_values.new.bytes.items c.push_values.result
    (subst (λ (vs : List Values). PushesValues c.args.layout.now.base c.args.listing.now (map value_view vs) c.args.bytes.now.items c.push_values.new.bytes.items c.push_values.result) c.deref.ensures.value c.push_values.ensures))

pub returns-in_ok-push_nops-in-Aligns : goal.returns-in_ok-push_nops-in-Aligns
returns-in_ok-push_nops-in-Aligns c =
    subst (λ (s : Statements). PushedLaid c.args.layout.now.base c.args.listing.now c.args.at (statement_view s) c.args.bytes.now.items c.push_nops.new.bytes.items) (sym c.in-Aligns.is)
    (padding_pushed c.args.layout.now.base c.args.listing.now c.args.at c.in-Aligns.size c.in-Aligns.most c.args.bytes.now.items c.push_nops.new.bytes.items
    (subst (λ (s : Statements). is_fair c.args.listing.now (statement_view s) ≡ true) c.in-Aligns.is c.requires.fair)
    c.requires.even
    (c.in_ok-push_nops-in-Aligns.ensures {u = tt} ∙ ap (λ n. c.args.bytes.now.items ++ nops n) c.padding.ensures))
