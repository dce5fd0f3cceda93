-- The bytes of codes and of padding, for the contracts of the functions that append them.
use Rattle.std.proofs.Common.{◌≡◌, ◌∙◌, ◌<◌, ◌≤◌, ℕ, zero, suc, ◌-◌, ◌*◌, List, [], ◌∷◌, ◌++◌, length, sym, refl, ap, arith, append_assoc, append-nil}
use Rattle.thumb_instr.specs.declared.instr.Instr.{Instr}
use Rattle.thumb_instr.specs.declared.instr.Instr.TheVariants as instr
use Rattle.thumb_instr.specs.declared.kind.Kind.TheVariants as kind
use Rattle.thumb_instr.specs.Parts.{parts_of}
use Rattle.thumb_table.specs.Table.{width, row_of, code_of, whole}
use Rattle.thumb_table.specs.Decoding.{IsCode}
use Rattle.thumb_table.specs.declared.row.Code.TheVariants as code
use Rattle.thumb_table.proofs.Apart.{row_width}
use Rattle.thumb_model.specs.Layout.{instr_size}
use Rattle.thumb_assembler.specs.Bytes.{half_bytes, nops}
use Rattle.thumb_assembler.specs.Pushes.{PushedCode}

-- an instruction has a byte for each eight bits of its row
pub eight_bits : (i : Instr) → 8 * instr_size i ≡ width (row_of i)
eight_bits (instr.Mov d m) = sym (row_width kind.Mov)
eight_bits i = sym (row_width (parts_of i).kind)

pub one_code : (i : Instr) (first : ℕ) (old new : List ℕ) → first < 65536 → IsCode i (code.One first) → new ≡ old ++ half_bytes first → PushedCode i old new
one_code i first old new l c e =
    let bits = eight_bits i in
    let long : width (row_of i) ≡ 16 = c.long in
    let size : instr_size i ≡ 2 = omega arith in
    let code_is : code_of i ≡ whole (row_of i) first 0 = c.is ∙ sym (rw long refl) in
    record {
      here = half_bytes first;
      are = (first, 0, record { is = code_is }, l, omega arith, rw size refl);
      pushed = e;
      long = sym size;
    }

pub two_codes : (i : Instr) (first second : ℕ) (old mid new : List ℕ) → first < 65536 → second < 65536 → IsCode i (code.Two first second) → mid ≡ old ++ half_bytes first → new ≡ mid ++ half_bytes second → PushedCode i old new
two_codes i first second old mid new l k c e f =
    let bits = eight_bits i in
    let long : width (row_of i) ≡ 32 = c.long in
    let size : instr_size i ≡ 4 = omega arith in
    let code_is : code_of i ≡ whole (row_of i) first second = c.is ∙ sym (rw long refl) in
    record {
      here = half_bytes first ++ half_bytes second;
      are = (first, second, record { is = code_is }, l, k, rw size refl);
      pushed = f ∙ ap (λ (b : List ℕ). b ++ half_bytes second) e ∙ append_assoc old (half_bytes first) (half_bytes second);
      long = sym size;
    }

-- one `nop`, and those that are left
pub nops_step : (k : ℕ) → 1 < k → nops k ≡ half_bytes 48896 ++ nops (k - 2)
nops_step zero h = absurd (omega arith)
nops_step (suc zero) h = absurd (omega arith)
nops_step (suc (suc k)) h = ap (λ (x : ℕ). 0 ∷ 191 ∷ nops x) (let e : k ≡ suc (suc k) - 2 = omega arith in e)

pub nops_none : (k : ℕ) → k ≤ 1 → nops k ≡ []
nops_none zero h = refl
nops_none (suc zero) h = refl
nops_none (suc (suc k)) h = absurd (omega arith)

pub nops_more : (k : ℕ) (old now new : List ℕ) → 1 < k → now ++ nops k ≡ old → new ≡ now ++ half_bytes 48896 → new ++ nops (k - 2) ≡ old
nops_more k old now new h e f = ap (λ (x : List ℕ). x ++ nops (k - 2)) f ∙ append_assoc now (half_bytes 48896) (nops (k - 2)) ∙ ap (λ (x : List ℕ). now ++ x) (sym (nops_step k h)) ∙ e

pub nops_end : (k : ℕ) (old now : List ℕ) → k ≤ 1 → now ++ nops k ≡ old → now ≡ old
nops_end k old now h e = sym (append-nil now) ∙ ap (λ (x : List ℕ). now ++ x) (sym (nops_none k h)) ∙ e

pub nops_length : (n k : ℕ) → k ≡ 2 * n → length (nops k) ≡ k
nops_length zero zero e = refl
nops_length (suc n) (suc (suc k)) e = let h = nops_length n k (omega arith) in omega arith
nops_length n k e = absurd (omega arith)
