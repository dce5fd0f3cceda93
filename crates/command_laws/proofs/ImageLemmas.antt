-- Lines have one image at a base: what is encoded at each place is determined by where names lie.
use Rattle.std.proofs.Common.{◌≡◌, ◌∙◌, inl, inr, ℕ, ◌+◌, ◌-◌, ◌*◌, ◌<◌, ◌==◌, Bool, true, false, List, [], ◌∷◌, ◌++◌, take, refl, sym, ap, subst, arith, true≢false, Option, Some, None}
use Rattle.std.specs.Prelude.{ℤ, pos, negsuc, nat_lt, unwrap_or}
use Rattle.std.proofs.lemmas.Bool.{cases_Bool, eqb-true}
use Rattle.thumb_instr.specs.declared.instr.Instr.{Instr}
use Rattle.thumb_instr.specs.declared.instr.Instr.TheVariants as instr
use Rattle.thumb_instr.specs.Items.{bytes_of}
use Rattle.thumb_instr.proofs.Registers.{same_number, same_distance}
use Rattle.thumb_table.specs.Table.{width, row_of, code_of}
use Rattle.thumb_model.specs.Listing.{Name, Mention, Statement, Nothing, Instruction, Words, Aligns, Sets, ListingLine}
use Rattle.thumb_model.specs.Layout.{instr_size, size_at, set_address}
use Rattle.thumb_model.specs.Naming.{laid}
use Rattle.thumb_assembler.specs.Bytes.{Aims, mention_lies, half_bytes, IsInstrBytes, Laid, IsEncoded, IsStatementBytes, AreLineBytes, IsSetBy, AreImage}
use Rattle.thumb_assembler.proofs.Codes.{eight_bits}

-- ---- distances ----

magnitude : ℤ → ℕ
magnitude (pos n) = n
magnitude (negsuc n) = n

is_pos : ℤ → Bool
is_pos (pos n) = true
is_pos (negsuc n) = false

forward : (half x : ℕ) → nat_lt x half ≡ true → bytes_of half x ≡ pos (x * 2)
forward half x e = rw e refl

backward : (half x : ℕ) → nat_lt x half ≡ false → bytes_of half x ≡ negsuc ((2 * half - 1 - x) * 2 + 1)
backward half x e = rw e refl

apart : {X : Type 0} (m n : ℕ) → pos m ≡ negsuc n → X
unfolding is_pos
apart m n e = absurd (true≢false (ap is_pos e))

-- a distance has one encoding as a field of bits
field_once : (half x y : ℕ) → x < 2 * half → y < 2 * half → bytes_of half x ≡ bytes_of half y → x ≡ y
unfolding magnitude
field_once half x y k l e = elim (cases_Bool (nat_lt x half)) [
  | inl a ↦ elim (cases_Bool (nat_lt y half)) [
    | inl b ↦ (let m : x * 2 ≡ y * 2 = ap magnitude (sym (forward half x a) ∙ (e ∙ forward half y b)) in omega (arith, m))
    | inr b ↦ apart (x * 2) ((2 * half - 1 - y) * 2 + 1) (sym (forward half x a) ∙ (e ∙ backward half y b))
  ]
  | inr a ↦ elim (cases_Bool (nat_lt y half)) [
    | inl b ↦ apart (y * 2) ((2 * half - 1 - x) * 2 + 1) (sym (forward half y b) ∙ (sym e ∙ backward half x a))
    | inr b ↦ (let m : (2 * half - 1 - x) * 2 + 1 ≡ (2 * half - 1 - y) * 2 + 1 = ap magnitude (sym (backward half x a) ∙ (e ∙ backward half y b)) in omega (arith, m, k, l))
  ]
]

-- ---- instructions ----

aims_once : (at to : ℕ) (i j k : Instr) → Aims at to i j → Aims at to i k → j ≡ k
aims_once at to (instr.Literal t d) j k (e, p, q) (f, r, s) = q ∙ (ap (λ x. instr.Literal t x) (same_number e f (omega (arith, p, r))) ∙ sym s)
aims_once at to (instr.Address t d) j k (e, p, q) (f, r, s) = q ∙ (ap (λ x. instr.Address t x) (same_number e f (omega (arith, p, r))) ∙ sym s)
aims_once at to (instr.BranchIf c d) j k (e, p, q) (f, r, s) = q ∙ (ap (λ x. instr.BranchIf c x) (same_distance e f (field_once 128 e.field f.field e.below f.below (sym p ∙ r))) ∙ sym s)
aims_once at to (instr.Branch d) j k (e, p, q) (f, r, s) = q ∙ (ap (λ x. instr.Branch x) (same_distance e f (field_once 1024 e.field f.field e.below f.below (sym p ∙ r))) ∙ sym s)
aims_once at to (instr.Call d) j k (e, p, q) (f, r, s) = q ∙ (ap (λ x. instr.Call x) (same_distance e f (field_once 8388608 e.field f.field e.below f.below (sym p ∙ r))) ∙ sym s)
aims_once at to i j k p q = p ∙ sym q

short_bytes : (size a b c d : ℕ) → size ≡ 2 → a ≡ c → take size (half_bytes a ++ half_bytes b) ≡ take size (half_bytes c ++ half_bytes d)
short_bytes size a b c d two same =
    ap (λ (n : ℕ). take n (half_bytes a ++ half_bytes b)) two ∙ (ap half_bytes same ∙ ap (λ (n : ℕ). take n (half_bytes c ++ half_bytes d)) (sym two))

bytes_once : (i : Instr) (bs cs : List ℕ) → IsInstrBytes i bs → IsInstrBytes i cs → bs ≡ cs
bytes_once i bs cs (a, b, e, la, lb, is) (c, d, f, lc, ld, js) = elim (cases_Bool (width (row_of i) == 16)) [
  | inl short ↦ (
      let x : code_of i ≡ a = rw short at e.is in
      let y : code_of i ≡ c = rw short at f.is in
      let long : width (row_of i) ≡ 16 = eqb-true (width (row_of i)) 16 short in
      let bits = eight_bits i in
      is ∙ (short_bytes (instr_size i) a b c d (omega (arith, long, bits)) (sym x ∙ y) ∙ sym js)
      )
  | inr long ↦ (
      let x : code_of i ≡ a * 65536 + b = rw long at e.is in
      let y : code_of i ≡ c * 65536 + d = rw long at f.is in
      let first : a ≡ c = omega (arith, x, y, lb, ld) in
      let second : b ≡ d = omega (arith, x, y, lb, ld) in
      is ∙ ((λ k. take (instr_size i) (half_bytes (first k) ++ half_bytes (second k))) ∙ sym js)
      )
]

-- ---- lines ----

encoded_once : (laid : Laid) (at : ℕ) (i : Instr) (mention : Option Mention) (bs cs : List ℕ) → IsEncoded laid at i mention bs → IsEncoded laid at i mention cs → bs ≡ cs
encoded_once laid at i None bs cs p q = bytes_once i bs cs p q
encoded_once laid at i (Some m) bs cs (j, a, p) (k, b, q) =
    let same : k ≡ j = aims_once at (mention_lies laid.base laid.names laid.lines m) i k j b a in
    bytes_once j bs cs p (subst (λ (x : Instr). IsInstrBytes x cs) same q)

statement_once : (laid : Laid) (at : ℕ) (s : Statement) (bs cs : List ℕ) → IsStatementBytes laid at s bs → IsStatementBytes laid at s cs → bs ≡ cs
statement_once laid at Nothing bs cs p q = p ∙ sym q
statement_once laid at (Instruction i mention) bs cs p q = encoded_once laid at i mention bs cs p q
statement_once laid at (Words vs) bs cs p q = p ∙ sym q
statement_once laid at (Aligns size most) bs cs p q = p ∙ sym q
statement_once laid at (Sets name address) bs cs p q = p ∙ sym q

lines_once : (laid : Laid) (at : ℕ) (ls : List ListingLine) (bs cs : List ℕ) → AreLineBytes laid at ls bs → AreLineBytes laid at ls cs → bs ≡ cs
lines_once laid at [] bs cs p q = p ∙ sym q
lines_once laid at (l ∷ ls) bs cs (here, rest, e, p, more) (there, others, f, q, further) =
    let first : here ≡ there = statement_once laid at l.statement here there p q in
    let last : rest ≡ others = lines_once laid (at + size_at l.statement at) ls rest others more further in
    e ∙ ((λ k. first k ++ last k) ∙ sym f)

pub image_once : (base : ℕ) (lines : List ListingLine) (bytes others : List ℕ) → AreImage base lines bytes → AreImage base lines others → bytes ≡ others
image_once base lines bytes others p q =
    let set : Name → ℕ = λ name. unwrap_or (set_address name lines) 0 in
    let is : IsSetBy lines set = λ name address e. ap (λ (o : Option ℕ). unwrap_or o 0) e in
    lines_once (record { base = base; names = laid base set lines; lines = lines }) base lines bytes others (p set is) (q set is)
