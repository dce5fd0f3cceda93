-- Where each mnemonic costs 1, weight is length, so that cheapest is shortest.
use Rattle.std.proofs.Common.{◌≡◌, ℕ, inl, inr, List, [], ◌∷◌, Some, None, length, replicate, refl, ◌∙◌, ap, arith}
use Rattle.std.proofs.lemmas.Bool.{cases_lt}
use Rattle.std.proofs.lemmas.List.{get_or-replicate, get_or_past}
use Rattle.std.proofs.lemmas.List.Sums.{sum_by-cons}
use Rattle.thumb_instr.specs.declared.instr.Instr.{Instr}
use Rattle.thumb_instr.specs.Parts.{parts_of}
use Rattle.seq_enum.specs.Costs.{mnemonic, cost_in, weight_under}
use Rattle.rule_table.specs.Header.{Header}
use Rattle.table_audit.specs.Shorter.{IsBelow, weight_in}
use Rattle.table_audit.specs.Soundness.{CheapestIsShortest}

costs_one : (i : Instr) → cost_in (replicate 28 1) i ≡ 1
costs_one i =
    let place : ℕ = mnemonic (parts_of i).kind in
    let one : ℕ = 1 in
    let all : List ℕ = replicate 28 one in
    elim (cases_lt place 28) [
      | inl low ↦ get_or-replicate 28 place one one low
      | inr past ↦ get_or_past all place one (let count : length all ≡ 28 = refl in omega (arith, count, past))
    ]

as_long : (seq : List Instr) → weight_under (Some (replicate 28 1)) seq ≡ length seq
as_long [] = refl
as_long (i ∷ seq) =
    let more = sum_by-cons (cost_in (replicate 28 1)) i seq in
    let one = costs_one i in
    let rest = as_long seq in
    omega (arith, more, one, rest)

weighs : (h : Header) (seq : List Instr) → h.costs ≡ Some (replicate 28 1) → weight_in h seq ≡ length seq
weighs h seq ones = ap (λ costs. weight_under costs seq) ones ∙ as_long seq

below_shorter : (h : Header) (left side seq : List Instr) (number : ℕ) → h.costs ≡ Some (replicate 28 1) → IsBelow h left side number seq → IsBelow (record h { costs = None }) left side number seq
below_shorter h left side seq number ones b = record {
  at = b.at;
  no_longer = b.no_longer;
  lighter = (let less = b.lighter in let one = weighs h seq ones in let two = weighs h side ones in omega (arith, less, one, two));
}

shorter_below : (h : Header) (left side seq : List Instr) (number : ℕ) → h.costs ≡ Some (replicate 28 1) → IsBelow (record h { costs = None }) left side number seq → IsBelow h left side number seq
shorter_below h left side seq number ones b = record {
  at = b.at;
  no_longer = b.no_longer;
  lighter = (let less = b.lighter in let one = weighs h seq ones in let two = weighs h side ones in omega (arith, less, one, two));
}

pub cheapest_is_shortest : CheapestIsShortest
cheapest_is_shortest h e ones = (
  λ s. record { no_longer = s.no_longer; least = λ number other b. s.least number other (shorter_below h e.left e.right other number ones b) },
  λ s. record { no_longer = s.no_longer; least = λ number other b. s.least number other (below_shorter h e.left e.right other number ones b) },
)
