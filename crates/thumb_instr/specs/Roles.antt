-- The role of each kind's registers and numbers, in the order of the canonical text.
use Rattle.thumb_instr.specs.declared.kind.Kind.{Kind}
use Rattle.thumb_instr.specs.declared.kind.Kind.TheVariants as kind
use Rattle.thumb_instr.specs.declared.operation.Operation.{Operation}
use Rattle.thumb_instr.specs.declared.operation.Operation.TheVariants as operation
use Rattle.thumb_instr.specs.declared.operation.ByteOperation.{ByteOperation}
use Rattle.thumb_instr.specs.declared.operation.ByteOperation.TheVariants as byte
use Rattle.thumb_instr.specs.declared.operation.Access.{Access}
use Rattle.thumb_instr.specs.declared.operation.Access.TheVariants as access
use Rattle.thumb_instr.specs.declared.operation.OffsetAccess.{OffsetAccess}
use Rattle.thumb_instr.specs.declared.operation.OffsetAccess.TheVariants as offset
use Rattle.thumb_instr.specs.declared.operation.WordAccess.{WordAccess}
use Rattle.thumb_instr.specs.declared.operation.WordAccess.TheVariants as word
use Rattle.thumb_instr.specs.declared.role.Class.TheVariants as class
use Rattle.thumb_instr.specs.declared.role.Role.{Role}
use Rattle.thumb_instr.specs.declared.role.Role.TheVariants.{Register, Number, List, Distance, Nothing}
use Rattle.thumb_instr.specs.declared.role.Operands.{Operands}
use Rattle.thumb_instr.specs.declared.role.Usage.{Usage}
use Rattle.thumb_instr.specs.declared.role.Usage.TheVariants as usage

-- what an operation on two low registers does with its target; the other register is read
abbrev pub two_usage : Operation → Usage
two_usage operation.Tst = usage.Read
two_usage operation.Cmp = usage.Read
two_usage operation.Cmn = usage.Read
two_usage operation.Rsb = usage.Written
two_usage operation.Mvn = usage.Written
two_usage o = usage.Updated

abbrev pub byte_usage : ByteOperation → Usage
byte_usage byte.Mov = usage.Written
byte_usage byte.Cmp = usage.Read
byte_usage o = usage.Updated

-- a store reads what a load writes
abbrev pub access_usage : Access → Usage
access_usage access.Str = usage.Read
access_usage access.Strh = usage.Read
access_usage access.Strb = usage.Read
access_usage a = usage.Written

abbrev pub offset_usage : OffsetAccess → Usage
offset_usage offset.Str = usage.Read
offset_usage offset.Strb = usage.Read
offset_usage offset.Strh = usage.Read
offset_usage a = usage.Written

abbrev pub word_usage : WordAccess → Usage
word_usage word.Str = usage.Read
word_usage word.Ldr = usage.Written

-- a low register that is read, and one that is written
abbrev pub low : Role
low = Register usage.Read class.Low

abbrev pub target : Role
target = Register usage.Written class.Low

abbrev pub three : Role → Role → Role → Operands
three r s t = record { first = r; second = s; third = t }

abbrev pub two : Role → Role → Operands
two r s = three r s Nothing

abbrev pub one : Role → Operands
one r = three r Nothing Nothing

abbrev pub none : Operands
none = three Nothing Nothing Nothing

-- LDM writes its base back, or loads it: either way the base is read and written
abbrev pub roles : Kind → Operands
roles kind.Mov = two (Register usage.Written class.Any) (Register usage.Read class.Any)
roles (kind.Three s) = three target low low
roles (kind.Two o) = two (Register (two_usage o) class.Low) low
roles kind.Bx = one (Register usage.Read class.General)
roles kind.Movs = two target low
roles kind.ShiftLeft = three target low (Number 1 32)
roles (kind.ShiftRight s) = three target low (Number 1 33)
roles (kind.ThreeNumber s) = three target low (Number 0 8)
roles (kind.TwoNumber o) = two (Register (byte_usage o) class.Low) (Number 0 256)
roles kind.Add = two (Register usage.Updated class.Any) (Register usage.Read class.Any)
roles kind.Compare = two (Register usage.Read class.Any) (Register usage.Read class.Any)
roles kind.Blx = one (Register usage.Read class.General)
roles kind.Literal = two target (Distance 256)
roles (kind.Indexed a) = three (Register (access_usage a) class.Low) low low
roles (kind.Offset a) = three (Register (offset_usage a) class.Low) low (Number 0 32)
roles (kind.Stack a) = two (Register (word_usage a) class.Low) (Number 0 256)
roles kind.Address = two target (Distance 256)
roles kind.StackAddress = two target (Number 0 256)
roles (kind.StackMove s) = one (Number 0 128)
roles (kind.Extend e) = two target low
roles (kind.Reverse r) = two target low
roles kind.Push = one (List 512)
roles kind.Pop = one (List 512)
roles kind.StoreMany = two (Register usage.Updated class.Low) (List 256)
roles kind.LoadMany = two (Register usage.Updated class.Low) (List 256)
roles kind.Breakpoint = one (Number 0 256)
roles kind.Service = one (Number 0 256)
roles (kind.Hint h) = none
roles (kind.ChangeState i) = none
roles (kind.BranchIf c) = one (Distance 256)
roles kind.Branch = one (Distance 2048)
roles kind.Call = one (Distance 16777216)
roles (kind.Barrier b) = none
roles (kind.ReadSpecial s) = one (Register usage.Written class.General)
roles kind.WriteMask = one (Register usage.Read class.General)
