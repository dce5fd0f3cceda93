-- Which accesses are stores.
use Rattle.std.specs.Prelude.{Bool, true, false}
use Rattle.thumb_instr.specs.declared.operation.Access.{Access}
use Rattle.thumb_instr.specs.declared.operation.Access.TheVariants as access

abbrev pub is_store : Access → Bool
is_store access.Str = true
is_store access.Strh = true
is_store access.Strb = true
is_store access.Ldrsb = false
is_store access.Ldr = false
is_store access.Ldrh = false
is_store access.Ldrb = false
is_store access.Ldrsh = false
