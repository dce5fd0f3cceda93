-- The items that an instruction reads and writes. For one that can continue in several ways, those of the first: to a label or a code point of the listing.
use Rattle.std.specs.Prelude.{ℕ, List, [], ◌∷◌, ◌++◌, filter, if◌then◌else◌}
use Rattle.thumb_instr.specs.declared.instr.Instr.{Instr}
use Rattle.thumb_instr.specs.declared.instr.Instr.TheVariants.{Mov, Three, Two, Bx, Movs, ShiftLeft, ShiftRight, ThreeNumber, TwoNumber, Add, Compare, Blx, Literal, Indexed, Offset, Stack, Address, StackAddress, StackMove, Extend, Reverse, Push, Pop, StoreMany, LoadMany, Service, BranchIf, Call, ReadSpecial, WriteMask}
use Rattle.thumb_instr.specs.declared.operation.ByteOperation.{ByteOperation}
use Rattle.thumb_instr.specs.declared.operation.ByteOperation.TheVariants as byte
use Rattle.thumb_instr.specs.declared.operation.Operation.{Operation}
use Rattle.thumb_instr.specs.declared.operation.Operation.TheVariants as operation
use Rattle.thumb_instr.specs.declared.operation.Access.{Access}
use Rattle.thumb_instr.specs.declared.operation.Access.TheVariants as access
use Rattle.thumb_instr.specs.declared.operation.OffsetAccess.{OffsetAccess}
use Rattle.thumb_instr.specs.declared.operation.OffsetAccess.TheVariants as offset
use Rattle.thumb_instr.specs.declared.operation.WordAccess.{WordAccess}
use Rattle.thumb_instr.specs.declared.operation.WordAccess.TheVariants as word
use Rattle.thumb_instr.specs.declared.operation.Condition.{Condition}
use Rattle.thumb_instr.specs.declared.operation.Condition.TheVariants as condition
use Rattle.thumb_instr.specs.Items.{has, sp, lr, n_flag, z_flag, c_flag, v_flag}

-- N and Z, with C, and with C and V
abbrev pub nz : List ℕ
nz = n_flag ∷ z_flag ∷ []

abbrev pub nzc : List ℕ
nzc = n_flag ∷ z_flag ∷ c_flag ∷ []

abbrev pub nzcv : List ℕ
nzcv = n_flag ∷ z_flag ∷ c_flag ∷ v_flag ∷ []

-- the low registers of a list, in ascending order
unfoldable pub registers_in : ℕ → List ℕ
registers_in list = filter (has list) (0 ∷ 1 ∷ 2 ∷ 3 ∷ 4 ∷ 5 ∷ 6 ∷ 7 ∷ [])

-- what PUSH stores: bit 8 is lr
abbrev pub pushed : ℕ → List ℕ
pushed list = registers_in list ++ (if has list 8 then lr ∷ [] else [])

-- an operation on its target d and the other register m; shifts read C, since a shift by 0 leaves it unchanged
abbrev pub two_uses : Operation → ℕ → ℕ → List ℕ
two_uses operation.And d m = d ∷ m ∷ []
two_uses operation.Eor d m = d ∷ m ∷ []
two_uses operation.Lsl d m = d ∷ m ∷ c_flag ∷ []
two_uses operation.Lsr d m = d ∷ m ∷ c_flag ∷ []
two_uses operation.Asr d m = d ∷ m ∷ c_flag ∷ []
two_uses operation.Adc d m = d ∷ m ∷ c_flag ∷ []
two_uses operation.Sbc d m = d ∷ m ∷ c_flag ∷ []
two_uses operation.Ror d m = d ∷ m ∷ c_flag ∷ []
two_uses operation.Tst d m = d ∷ m ∷ []
two_uses operation.Rsb d m = m ∷ []
two_uses operation.Cmp d m = d ∷ m ∷ []
two_uses operation.Cmn d m = d ∷ m ∷ []
two_uses operation.Orr d m = d ∷ m ∷ []
two_uses operation.Mul d m = d ∷ m ∷ []
two_uses operation.Bic d m = d ∷ m ∷ []
two_uses operation.Mvn d m = m ∷ []

abbrev pub two_writes : Operation → ℕ → List ℕ
two_writes operation.And d = d ∷ nz
two_writes operation.Eor d = d ∷ nz
two_writes operation.Lsl d = d ∷ nzc
two_writes operation.Lsr d = d ∷ nzc
two_writes operation.Asr d = d ∷ nzc
two_writes operation.Adc d = d ∷ nzcv
two_writes operation.Sbc d = d ∷ nzcv
two_writes operation.Ror d = d ∷ nzc
two_writes operation.Tst d = nz
two_writes operation.Rsb d = d ∷ nzcv
two_writes operation.Cmp d = nzcv
two_writes operation.Cmn d = nzcv
two_writes operation.Orr d = d ∷ nz
two_writes operation.Mul d = d ∷ nz
two_writes operation.Bic d = d ∷ nz
two_writes operation.Mvn d = d ∷ nz

abbrev pub byte_uses : ByteOperation → ℕ → List ℕ
byte_uses byte.Mov d = []
byte_uses byte.Cmp d = d ∷ []
byte_uses byte.Add d = d ∷ []
byte_uses byte.Sub d = d ∷ []

abbrev pub byte_writes : ByteOperation → ℕ → List ℕ
byte_writes byte.Mov d = d ∷ nz
byte_writes byte.Cmp d = nzcv
byte_writes byte.Add d = d ∷ nzcv
byte_writes byte.Sub d = d ∷ nzcv

-- what a store of t reads besides its address, and what a load of t writes
abbrev pub access_uses : Access → ℕ → List ℕ
access_uses access.Str t = t ∷ []
access_uses access.Strh t = t ∷ []
access_uses access.Strb t = t ∷ []
access_uses access.Ldrsb t = []
access_uses access.Ldr t = []
access_uses access.Ldrh t = []
access_uses access.Ldrb t = []
access_uses access.Ldrsh t = []

abbrev pub access_writes : Access → ℕ → List ℕ
access_writes access.Str t = []
access_writes access.Strh t = []
access_writes access.Strb t = []
access_writes access.Ldrsb t = t ∷ []
access_writes access.Ldr t = t ∷ []
access_writes access.Ldrh t = t ∷ []
access_writes access.Ldrb t = t ∷ []
access_writes access.Ldrsh t = t ∷ []

-- the access by register that loads or stores the same unit
abbrev pub offset_access : OffsetAccess → Access
offset_access offset.Str = access.Str
offset_access offset.Ldr = access.Ldr
offset_access offset.Strb = access.Strb
offset_access offset.Ldrb = access.Ldrb
offset_access offset.Strh = access.Strh
offset_access offset.Ldrh = access.Ldrh

abbrev pub word_access : WordAccess → Access
word_access word.Str = access.Str
word_access word.Ldr = access.Ldr

-- the flags that a condition reads
abbrev pub condition_uses : Condition → List ℕ
condition_uses condition.Eq = z_flag ∷ []
condition_uses condition.Ne = z_flag ∷ []
condition_uses condition.Cs = c_flag ∷ []
condition_uses condition.Cc = c_flag ∷ []
condition_uses condition.Mi = n_flag ∷ []
condition_uses condition.Pl = n_flag ∷ []
condition_uses condition.Vs = v_flag ∷ []
condition_uses condition.Vc = v_flag ∷ []
condition_uses condition.Hi = z_flag ∷ c_flag ∷ []
condition_uses condition.Ls = z_flag ∷ c_flag ∷ []
condition_uses condition.Ge = n_flag ∷ v_flag ∷ []
condition_uses condition.Lt = n_flag ∷ v_flag ∷ []
condition_uses condition.Gt = n_flag ∷ z_flag ∷ v_flag ∷ []
condition_uses condition.Le = n_flag ∷ z_flag ∷ v_flag ∷ []

-- the items that an instruction reads
abbrev pub uses_of : Instr → List ℕ
uses_of (Mov d m) = m.number ∷ []
uses_of (Three s d n m) = n.number ∷ m.number ∷ []
uses_of (Two o d m) = two_uses o d.number m.number
uses_of (Bx m) = m.number ∷ []
uses_of (Movs d m) = m.number ∷ []
uses_of (ShiftLeft d m i) = m.number ∷ []
uses_of (ShiftRight s d m i) = m.number ∷ []
uses_of (ThreeNumber s d n i) = n.number ∷ []
uses_of (TwoNumber o d i) = byte_uses o d.number
uses_of (Add r) = r.target.number ∷ r.source.number ∷ []
uses_of (Compare r) = r.left.number ∷ r.right.number ∷ []
uses_of (Blx m) = m.number ∷ []
uses_of (Indexed a t n m) = n.number ∷ m.number ∷ access_uses a t.number
uses_of (Offset a t n i) = n.number ∷ access_uses (offset_access a) t.number
uses_of (Stack a t i) = sp ∷ access_uses (word_access a) t.number
uses_of (StackAddress d i) = sp ∷ []
uses_of (StackMove s i) = sp ∷ []
uses_of (Extend e d m) = m.number ∷ []
uses_of (Reverse r d m) = m.number ∷ []
uses_of (Push l) = sp ∷ pushed l.number
uses_of (Pop l) = sp ∷ []
uses_of (StoreMany s) = s.base.number ∷ registers_in s.list.number
uses_of (LoadMany n l) = n.number ∷ []
uses_of (Service i) = 0 ∷ 1 ∷ 2 ∷ 3 ∷ 12 ∷ sp ∷ []
uses_of (BranchIf c i) = condition_uses c
uses_of (WriteMask m) = m.number ∷ []
uses_of i = []

-- the items that an instruction writes: LDM writes its base back, or loads it
abbrev pub writes_of : Instr → List ℕ
writes_of (Mov d m) = d.number ∷ []
writes_of (Three s d n m) = d.number ∷ nzcv
writes_of (Two o d m) = two_writes o d.number
writes_of (Movs d m) = d.number ∷ nz
writes_of (ShiftLeft d m i) = d.number ∷ nzc
writes_of (ShiftRight s d m i) = d.number ∷ nzc
writes_of (ThreeNumber s d n i) = d.number ∷ nzcv
writes_of (TwoNumber o d i) = byte_writes o d.number
writes_of (Add r) = r.target.number ∷ []
writes_of (Compare r) = nzcv
writes_of (Blx m) = lr ∷ []
writes_of (Literal t i) = t.number ∷ []
writes_of (Indexed a t n m) = access_writes a t.number
writes_of (Offset a t n i) = access_writes (offset_access a) t.number
writes_of (Stack a t i) = access_writes (word_access a) t.number
writes_of (Address d i) = d.number ∷ []
writes_of (StackAddress d i) = d.number ∷ []
writes_of (StackMove s i) = sp ∷ []
writes_of (Extend e d m) = d.number ∷ []
writes_of (Reverse r d m) = d.number ∷ []
writes_of (Push l) = sp ∷ []
writes_of (Pop l) = sp ∷ registers_in l.number
writes_of (StoreMany s) = s.base.number ∷ []
writes_of (LoadMany n l) = n.number ∷ registers_in l.number
writes_of (Service i) = 0 ∷ 1 ∷ 2 ∷ 3 ∷ 12 ∷ []
writes_of (Call i) = lr ∷ []
writes_of (ReadSpecial d s) = d.number ∷ []
writes_of i = []
