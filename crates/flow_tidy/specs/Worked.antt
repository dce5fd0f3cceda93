-- Small listings, and what tidying makes of them.
use Rattle.std.specs.Prelude.{ℕ, List, [], ◌∷◌, Some, None}
use Rattle.thumb_instr.specs.declared.instr.Instr.{Instr}
use Rattle.thumb_instr.specs.declared.instr.Instr.TheVariants as instr
use Rattle.thumb_instr.specs.declared.distance.Distance.{Distance}
use Rattle.thumb_instr.specs.declared.within.General.{General}
use Rattle.thumb_instr.specs.declared.within.Within.{Within}
use Rattle.thumb_instr.specs.declared.operation.Condition.{Condition}
use Rattle.thumb_instr.specs.declared.operation.ByteOperation.TheVariants as byte
use Rattle.thumb_instr.specs.declared.operation.HintOperation.TheVariants as hint
use Rattle.thumb_model.specs.Listing.{Name, Nothing, Instruction, ListingLine}
use Rattle.flow_tidy.specs.Tidying.{Setting, Change, Cause, ToNext, ToEnd, Idle, AreTidied}

-- from address 0, with room enough; bytes are left out
abbrev pub roomy : Setting
roomy = record { base = 0; most_lines = 100; longest_line = 100; write = λ i mention. [] }

abbrev pub labels : Name → ListingLine
labels name = record { names = name ∷ []; statement = Nothing; text = []; front = [] }

abbrev pub does : Instr → ListingLine
does i = record { names = []; statement = Instruction i None; text = []; front = [] }

abbrev pub goes : Instr → Name → ListingLine
goes i name = record { names = []; statement = Instruction i (Some (record { name = name; plus = 0 })); text = []; front = [] }

abbrev pub change : ℕ → Cause → Change
change p cause = record { place = p; cause = cause }

-- a name of one letter
abbrev pub a : Name
a = 97 ∷ []

abbrev pub c : Name
c = 99 ∷ []

abbrev pub e : Name
e = 101 ∷ []

abbrev pub f : Name
f = 102 ∷ []

-- f: beq a; movs; b e; nop; a: b c; e: bx lr; c: bx lr. The first branch is redirected to c, and then the nop is removed
abbrev pub crossing : Condition → Distance 128 → Distance 1024 → Within 0 8 → Within 0 256 → General → List ListingLine
crossing k near far d n lr =
    labels f
    ∷ goes (instr.BranchIf k near) a
    ∷ does (instr.TwoNumber byte.Mov d n)
    ∷ goes (instr.Branch far) e
    ∷ does (instr.Hint hint.Nop)
    ∷ labels a
    ∷ goes (instr.Branch far) c
    ∷ labels e
    ∷ does (instr.Bx lr)
    ∷ labels c
    ∷ does (instr.Bx lr)
    ∷ []

abbrev pub crossed : Condition → Distance 128 → Distance 1024 → Within 0 8 → Within 0 256 → General → List ListingLine
crossed k near far d n lr =
    labels f
    ∷ goes (instr.BranchIf k near) c
    ∷ does (instr.TwoNumber byte.Mov d n)
    ∷ goes (instr.Branch far) e
    ∷ labels a
    ∷ goes (instr.Branch far) c
    ∷ labels e
    ∷ does (instr.Bx lr)
    ∷ labels c
    ∷ does (instr.Bx lr)
    ∷ []

-- a: b c; c: bx lr. The branch is removed
abbrev pub next_branch : Distance 1024 → General → List ListingLine
next_branch far lr = labels a ∷ goes (instr.Branch far) c ∷ labels c ∷ does (instr.Bx lr) ∷ []

-- a: b a
abbrev pub loop : Distance 1024 → List ListingLine
loop far = labels a ∷ goes (instr.Branch far) a ∷ []

-- f: bx lr; bl f; bx lr. Nothing reaches the call, but it stays
abbrev pub idle_call : Distance 8388608 → General → List ListingLine
idle_call farthest lr = labels f ∷ does (instr.Bx lr) ∷ goes (instr.Call farthest) f ∷ does (instr.Bx lr) ∷ []

pub record SmallListings : Type 0 where
  pub crosses : (k : Condition) (near : Distance 128) (far : Distance 1024) (d : Within 0 8) (n : Within 0 256) (lr : General) → AreTidied roomy (crossing k near far d n lr) (change 0 (ToEnd c) ∷ change 3 Idle ∷ []) (crossed k near far d n lr)
  pub goes_on : (far : Distance 1024) (lr : General) → AreTidied roomy (next_branch far lr) (change 0 ToNext ∷ []) (labels a ∷ labels c ∷ does (instr.Bx lr) ∷ [])
  pub stays : (far : Distance 1024) → AreTidied roomy (loop far) [] (loop far)
  pub calls : (farthest : Distance 8388608) (lr : General) → AreTidied roomy (idle_call farthest lr) [] (idle_call farthest lr)
