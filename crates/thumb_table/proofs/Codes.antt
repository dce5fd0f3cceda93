-- Codes and instructions: halfwords encode at most one instruction, and where decoding finds none, there is none.
use Rattle.std.proofs.Common.{◌≡◌, ◌∙◌, ◌⊎◌, inl, inr, ℕ, ◌+◌, ◌*◌, ◌/◌, ◌<◌, true, false, Some, refl, sym, ap, subst, arith, true≢false, eq-eqb, ne_eqb}
use Rattle.std.specs.Prelude.{slice_get}
use Rattle.thumb_instr.specs.declared.instr.Instr.{Instr}
use Rattle.thumb_instr.specs.declared.kind.Kind.{Kind}
use Rattle.thumb_instr.specs.declared.kind.Parts.{Parts}
use Rattle.thumb_instr.specs.Parts.{parts_of}
use Rattle.thumb_instr.proofs.PartLemmas.{same_fields, same_parts}
use Rattle.thumb_table.specs.declared.row.Code.{Code}
use Rattle.thumb_table.specs.declared.row.Code.TheVariants as code
use Rattle.thumb_table.specs.declared.row.OperandPosition.{OperandPosition}
use Rattle.thumb_table.specs.declared.row.OperandPosition.TheVariants as position
use Rattle.thumb_table.specs.Table.{width, number, packed, pieces, row_of, whole, Encodes}
use Rattle.thumb_table.specs.ReadBits.{agrees, read_on}
use Rattle.thumb_table.specs.Kinds.{kinds_at}
use Rattle.thumb_table.specs.Decoding.{begins_with, IsCode, read_parts, IsNotOf}
use Rattle.thumb_table.proofs.Rows.{packed_agrees}
use Rattle.thumb_table.proofs.Apart.{listed, narrow, one_row, upper, upper_is, begun}
use Rattle.thumb_table.proofs.Reading.{fit, read_is}

encoded_agrees : (i : Instr) (a b : ℕ) → Encodes i a b → agrees (row_of i) (whole (row_of i) a b) ≡ true
encoded_agrees i a b e = subst (λ (n : ℕ). agrees (row_of i) n ≡ true) e.is (packed_agrees (row_of i) (parts_of i) (narrow (parts_of i).kind) (fit i))

encoded_number : (i : Instr) (a b : ℕ) (k : Kind) (o : OperandPosition) → (parts_of i).kind ≡ k → Encodes i a b → number o (parts_of i) ≡ read_on o (pieces k) (whole (pieces k) a b) 0
encoded_number i a b k o e d =
    sym (read_is i o) ∙ (ap (λ (n : ℕ). read_on o (row_of i) n 0) d.is ∙ ap (λ (x : Kind). read_on o (pieces x) (whole (pieces x) a b) 0) e)

-- an instruction whose code by this row is the halfwords has the registers and numbers that they hold
encoded_parts : (i : Instr) (a b : ℕ) (k : Kind) → (parts_of i).kind ≡ k → Encodes i a b → parts_of i ≡ read_parts k (whole (pieces k) a b)
encoded_parts i a b k e d =
    same_fields (parts_of i) (read_parts k (whole (pieces k) a b)) e (encoded_number i a b k position.First e d) (encoded_number i a b k position.Second e d) (encoded_number i a b k position.Third e d)

-- halfwords encode at most one instruction
pub one_instr : (i j : Instr) (a b : ℕ) → a < 65536 → b < 65536 → Encodes i a b → Encodes j a b → i ≡ j
one_instr i j a b h l e d =
    let k : (parts_of i).kind ≡ (parts_of j).kind = one_row (parts_of i).kind (parts_of j).kind a b h l (encoded_agrees i a b e) (encoded_agrees j a b d) in
    same_parts i j (encoded_parts i a b (parts_of j).kind k e ∙ sym (encoded_parts j a b (parts_of j).kind refl d))

-- the instruction with the numbers that halfwords hold is theirs, if its code is these halfwords again
pub made_encodes : (k : Kind) (a b : ℕ) (m : Parts) (i : Instr) → m ≡ read_parts k (whole (pieces k) a b) → parts_of i ≡ m → packed (pieces k) m ≡ whole (pieces k) a b → Encodes i a b
made_encodes k a b m i e f p =
    let is : (parts_of i).kind ≡ k = ap (λ (x : Parts). x.kind) (f ∙ e) in
    record { is = subst (λ (x : Kind). packed (pieces x) (parts_of i) ≡ whole (pieces x) a b) (sym is) (ap (packed (pieces k)) f ∙ p) }

-- halfwords that don't agree with a row encode none of its instructions
pub unlike_is_not : (k : Kind) (a b : ℕ) → agrees (pieces k) (whole (pieces k) a b) ≡ false → IsNotOf k a b
unlike_is_not k a b n = λ i e d. true≢false (sym (encoded_agrees i a b d) ∙ (ap (λ (x : Kind). agrees (pieces x) (whole (pieces x) a b)) e ∙ n))

-- nor do those that don't begin with the row's leading bits
pub unbegun_is_not : (k : Kind) (a b : ℕ) → a < 65536 → b < 65536 → begins_with (pieces k) a ≡ false → IsNotOf k a b
unbegun_is_not k a b h l n = λ i e d. true≢false (sym (begun (parts_of i).kind a b h l (encoded_agrees i a b d)) ∙ (ap (λ (x : Kind). begins_with (pieces x) a) e ∙ n))

-- nor do halfwords whose numbers no instruction has
pub unmade_is_not : (k : Kind) (a b : ℕ) (m : Parts) → m ≡ read_parts k (whole (pieces k) a b) → ((i : Instr) → parts_of i ≡ m → ⊥) → IsNotOf k a b
unmade_is_not k a b m e n = λ i f d. n i (encoded_parts i a b k f d ∙ sym e)

-- nor do those whose numbers are encoded as other halfwords
pub other_is_not : (k : Kind) (a b : ℕ) (m : Parts) → m ≡ read_parts k (whole (pieces k) a b) → (packed (pieces k) m ≡ whole (pieces k) a b → ⊥) → IsNotOf k a b
other_is_not k a b m e n = λ i f d.
    let same : parts_of i ≡ m = encoded_parts i a b k f d ∙ sym e in
    n (ap (packed (pieces k)) (sym same) ∙ subst (λ (x : Kind). packed (pieces x) (parts_of i) ≡ whole (pieces x) a b) f d.is)

-- halfwords that agree with no row for their upper bits are no code
pub none_encodes : (a b : ℕ) → a < 65536 → b < 65536 → ((j : ℕ) (k : Kind) → slice_get (kinds_at (a / 4096)) j ≡ Some k → IsNotOf k a b) → (i : Instr) → Encodes i a b → ⊥
none_encodes a b h m none i e =
    let k = (parts_of i).kind in
    let l = listed k in
    let up : a / 4096 ≡ upper k = upper_is k a b h m (encoded_agrees i a b e) in
    none l.0 k (subst (λ (n : ℕ). slice_get (kinds_at n) l.0 ≡ Some k) (sym up) l.1) i refl e

-- the halfwords of a code encode the instruction, whatever follows a short code
pub code_encodes : (i : Instr) (c : Code) (a b : ℕ) → IsCode i c → ((c ≡ code.One a) ⊎ (c ≡ code.Two a b)) → Encodes i a b
code_encodes i c a b d (inl e) =
    let s : IsCode i (code.One a) = subst (IsCode i) e d in
    let w : width (row_of i) ≡ 16 = s.long in
    record { is = s.is ∙ sym (rw (eq-eqb (width (row_of i)) 16 w) (let r : a ≡ a = refl in r)) }
code_encodes i c a b d (inr e) =
    let s : IsCode i (code.Two a b) = subst (IsCode i) e d in
    let w : width (row_of i) ≡ 32 = s.long in
    record { is = s.is ∙ sym (rw (ne_eqb (width (row_of i)) 16 (omega arith)) (let r : a * 65536 + b ≡ a * 65536 + b = refl in r)) }
