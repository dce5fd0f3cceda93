use Rattle.std.proofs.Common.{◌≡◌, ◌∙◌, ℕ, List, Some, None, ap, cond, get_or, rules, refl}
use Rattle.std.specs.Prelude.{string_bytes}
use Rattle.std.specs.List.{position}
use Rattle.std.specs.Str.{bytes_eq}
use Rattle.outer_store.specs.Entries.{NamedText, is_named, text_in}
use Rattle.outer_store.proofs.EntryLemmas.{pushed, written}
use Rattle.outer_store.proofs.mem_store.put_text.Goals as goal

pub returns-in-Some-clause-ok : goal.returns-in-Some-clause-ok
returns-in-Some-clause-ok c = λ n.
    let es : List NamedText = c.args.held.now.items in
    let found : position (is_named c.args.name.now) es ≡ Some c.in-Some.i = search rules in
    let here : c.index_mut.result.now ≡ get_or es c.in-Some.i c.index_mut.result.now = search rules in
    let bytes : c.in_ok-text.text.items ≡ c.args.bytes.now = search rules in
    written es c.in-Some.i (c.index_mut.result.now.0, c.in_ok-text.text) c.index_mut.result.now c.args.name.now n found here refl
    ∙ ap (λ (bs : List ℕ). cond (bytes_eq c.args.name.now n) (Some bs) (text_in es n)) bytes

pub returns-in_ok-push-in-None-clause-ok : goal.returns-in_ok-push-in-None-clause-ok
returns-in_ok-push-in-None-clause-ok c = λ n.
    let es : List NamedText = c.args.held.now.items in
    let none : position (is_named c.args.name.now) es ≡ None = search rules in
    let bytes : c.in_ok-text.text.items ≡ c.args.bytes.now = search rules in
    let same : string_bytes c.in_ok-name-in-None.name ≡ c.args.name.now = search rules in
    ap (λ (xs : List NamedText). text_in xs n) c.in_ok-push-in-None.ensures.items
    ∙ pushed es (c.in_ok-name-in-None.name, c.in_ok-text.text) c.args.name.now n none same
    ∙ ap (λ (bs : List ℕ). cond (bytes_eq c.args.name.now n) (Some bs) (text_in es n)) bytes
