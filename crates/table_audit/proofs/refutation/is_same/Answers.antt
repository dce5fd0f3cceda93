use Rattle.std.proofs.Common.{◌≡◌, ℕ, List, Option, Some, sym, ◌∙◌, ap}
use Rattle.std.specs.Prelude.{slice_get}
use Rattle.std.proofs.lemmas.Bool.{eqb-true}
use Rattle.std.proofs.lemmas.Option.{same_Some}
use Rattle.thumb_instr.specs.declared.instr.Instr.{Instr}
use Rattle.seq_enum.specs.Alphabet.{IsPlace}
use Rattle.table_audit.proofs.refutation.is_same.Goals as goal

-- what stands at one place is one sequence
one_sequence : (seqs : List (List Instr)) (left right : List Instr) (p q : Option ℕ) (n m : ℕ) → IsPlace p seqs left → IsPlace q seqs right → p ≡ Some n → q ≡ Some m → n ≡ m → left ≡ right
one_sequence seqs left right p q n m a b e f same = same_Some left right (sym (a.stands n e) ∙ ap (slice_get seqs) same ∙ b.stands m f)

pub returns : goal.returns
returns c = λ h. one_sequence _ _ _ _ _ _ _ c.number_of.ensures c.number_of-2.ensures c.in-Some.is c.in-Some-number_of.is (eqb-true _ _ h)
