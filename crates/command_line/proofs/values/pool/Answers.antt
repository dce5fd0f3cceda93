use Rattle.std.proofs.Common.{◌≡◌, ◌∙◌, ◌↔◌, ℕ, List, Some, IsTrue, map, option_map, sym, ap, subst}
use Rattle.std.specs.Prelude.{IfSome, IsSome}
use Rattle.seq_enum.specs.Alphabet.{is_pool}
use Rattle.command_line.proofs.Pools.{default_made, made, text_lost, text_made}
use Rattle.command_line.proofs.values.pool.Goals as goal

pub returns-in-None : goal.returns-in-None
returns-in-None c = default_made c.new.result c.new.ensures.valid c.new.ensures.value _ (ap (option_map (λ t. t.now)) c.in-None.is)

pub returns-in-None-bytes_of : goal.returns-in-None-bytes_of
returns-in-None-bytes_of c =
    text_lost c.as_bytes.result.now c.deref.result.now (ap (map (λ w. w.now)) c.deref.ensures.value ∙ c.in_ok-words-in-Some.ensures) c.in-None-bytes_of.ensures
    _ (ap (option_map (λ t. t.now)) c.in-Some.is ∙ ap (λ v. Some v) (sym c.as_bytes.ensures.value))

pub returns : goal.returns
returns c =
    text_made c.as_bytes.result.now c.deref.result.now c.in-Some-bytes_of.numbers.items c.new-in-Some-bytes_of.result (ap (map (λ w. w.now)) c.deref.ensures.value ∙ c.in_ok-words-in-Some.ensures) c.in-Some-bytes_of.ensures
    (made c.new-in-Some-bytes_of.result c.in-Some-bytes_of.numbers.items (subst (λ (k : List ℕ). IsSome c.new-in-Some-bytes_of.result ↔ IsTrue (is_pool k)) (c.deref-in-Some-bytes_of.ensures.0) c.new-in-Some-bytes_of.ensures.valid) (subst (λ (k : List ℕ). IfSome c.new-in-Some-bytes_of.result (λ p. p ≡ k)) (c.deref-in-Some-bytes_of.ensures.0) c.new-in-Some-bytes_of.ensures.value))
    _ (ap (option_map (λ t. t.now)) c.in-Some.is ∙ ap (λ v. Some v) (sym c.as_bytes.ensures.value))
