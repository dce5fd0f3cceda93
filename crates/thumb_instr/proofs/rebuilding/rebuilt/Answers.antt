use Rattle.std.proofs.Common.{◌≡◌, ◌∙◌, sym, ap, Some, None, true≢false}
use Rattle.thumb_instr.specs.declared.kind.Parts.{Parts}
use Rattle.thumb_instr.specs.Parts.{parts_of, made}
use Rattle.thumb_instr.proofs.PartLemmas.{made_parts, made_kind, same_fields}
use Rattle.thumb_instr.proofs.rebuilding.rebuilt.Goals as goal

pub returns-in-None : goal.returns-in-None
returns-in-None c = λ i e.
    let o = c.args.of.now in
    let m : None ≡ made o.kind o.first o.second o.third = rw c.in-None.is at c.made.ensures in
    let none : None ≡ Some (parts_of i) = m ∙ ap (λ (x : Parts). made x.kind x.first x.second x.third) (sym e) ∙ made_parts i in
    cc

pub returns-then-have_same_numbers : goal.returns-then-have_same_numbers
returns-then-have_same_numbers c =
    let o = c.args.of.now in
    let p = parts_of c.in-Some.instr in
    let m : Some p ≡ made o.kind o.first o.second o.third = rw c.in-Some.is at c.made.ensures in
    let e = c.parts.ensures in
    let same = c.have_same_numbers.ensures.0 c.if-have_same_numbers.true in
    same_fields p o (made_kind o.kind o.first o.second o.third p (sym m))
    (sym (ap (λ (x : Parts). x.first) e) ∙ same.0) (sym (ap (λ (x : Parts). x.second) e) ∙ same.1) (sym (ap (λ (x : Parts). x.third) e) ∙ same.2)

pub returns-else-have_same_numbers : goal.returns-else-have_same_numbers
returns-else-have_same_numbers c = λ i e.
    let o = c.args.of.now in
    let p = parts_of c.in-Some.instr in
    let m : Some p ≡ made o.kind o.first o.second o.third = rw c.in-Some.is at c.made.ensures in
    let one : Some p ≡ Some (parts_of i) = m ∙ ap (λ (x : Parts). made x.kind x.first x.second x.third) (sym e) ∙ made_parts i in
    let inside : p ≡ parts_of i = cc in
    let same : c.parts.result ≡ o = c.parts.ensures ∙ inside ∙ e in
    true≢false (sym (c.have_same_numbers.ensures.1 (ap (λ (x : Parts). x.first) same, ap (λ (x : Parts). x.second) same, ap (λ (x : Parts). x.third) same)) ∙ c.if-have_same_numbers.false)
