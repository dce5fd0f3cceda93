-- Steps, computed: those of a window as an emulator of a Cortex-M0 takes them, and accesses, lists and calls by the manual.
use Rattle.std.proofs.Common.{◌≡◌, ℕ, nat_lt, nat_le, true, List, [], ◌∷◌, map, refl, ltb-true, leb-true, ◌-◌, ◌%◌, ◌==◌, ◌≢◌, if◌then◌else◌, lit<}
use Rattle.std.specs.Prelude.{slice_get, unwrap_or}
use Rattle.thumb_instr.specs.declared.instr.Instr.TheVariants as instr
use Rattle.thumb_instr.specs.declared.operation.SumOperation.TheVariants as sum
use Rattle.thumb_instr.specs.declared.operation.Right.TheVariants as right
use Rattle.thumb_instr.specs.declared.operation.Operation.TheVariants as operation
use Rattle.thumb_instr.specs.declared.operation.ByteOperation.TheVariants as byte
use Rattle.thumb_instr.specs.declared.operation.Extension.TheVariants as extension
use Rattle.thumb_instr.specs.declared.operation.Reversal.TheVariants as reversal
use Rattle.thumb_instr.specs.declared.within.Within.{Within}
use Rattle.thumb_instr.specs.declared.operation.Access.TheVariants as access
use Rattle.thumb_instr.specs.declared.operation.OffsetAccess.TheVariants as offset
use Rattle.thumb_instr.specs.declared.within.NotBothSp.{NotBothSp}
use Rattle.thumb_instr.specs.Shape.{registers_in}
use Rattle.thumb_model.specs.Effect.{Values, after}
use Rattle.thumb_model.specs.States.{World, Answer, Around, External, Goes, Leaves, Strays, Stay, Load, Store, Call, Sys, Left, Fault}
use Rattle.thumb_model.specs.Acts.{act}

abbrev within : (a b n : ℕ) → nat_le a n ≡ true → nat_lt n b ≡ true → Within a b
within a b n h k = record { number = n; least = leb-true a n h; below = ltb-true n b k }

abbrev low0 : Within 0 8
low0 = within 0 8 0 refl refl

abbrev reg0 : Within 0 15
reg0 = within 0 15 0 refl refl

abbrev low1 : Within 0 8
low1 = within 0 8 1 refl refl

abbrev reg1 : Within 0 15
reg1 = within 0 15 1 refl refl

abbrev low2 : Within 0 8
low2 = within 0 8 2 refl refl

abbrev reg2 : Within 0 15
reg2 = within 0 15 2 refl refl

abbrev low3 : Within 0 8
low3 = within 0 8 3 refl refl

abbrev reg3 : Within 0 15
reg3 = within 0 15 3 refl refl

three_other : reg3.number ≡ 13 → reg2.number ≢ 13
three_other e f = absurd (cc)

abbrev two_registers : NotBothSp
two_registers = record { target = reg3; source = reg2; one_other = three_other }

-- r0 to r12, sp, lr and the flags
abbrev held : List ℕ → Values
held xs x = unwrap_or (slice_get xs x) 0

-- r0 to r3 and the flags N, Z, C, V
abbrev eight : List ℕ → Values
eight xs x = unwrap_or (slice_get xs (if nat_lt x 15 then x else x - 11)) 0

abbrev shown : Values → List ℕ
shown v = map v (0 ∷ 1 ∷ 2 ∷ 3 ∷ 15 ∷ 16 ∷ 17 ∷ 18 ∷ [])

-- adcs r2, r0
adcs : shown (after (instr.Two operation.Adc low2 low0) (eight (256 ∷ 3206649741 ∷ 2625988332 ∷ 127 ∷ 0 ∷ 0 ∷ 1 ∷ 0 ∷ []))) ≡ (256 ∷ 3206649741 ∷ 2625988589 ∷ 127 ∷ 1 ∷ 0 ∷ 0 ∷ 0 ∷ [])
adcs = refl

-- add r3, r2
add : shown (after (instr.Add two_registers) (eight (4 ∷ 1302463314 ∷ 288 ∷ 4135424918 ∷ 1 ∷ 1 ∷ 1 ∷ 0 ∷ []))) ≡ (4 ∷ 1302463314 ∷ 288 ∷ 4135425206 ∷ 1 ∷ 1 ∷ 1 ∷ 0 ∷ [])
add = refl

-- adds r2, r1, #3
adds_number_of_three : shown (after (instr.ThreeNumber sum.Add low2 low1 (within 0 8 3 refl refl)) (eight (256 ∷ 1 ∷ 766642373 ∷ 1677989390 ∷ 0 ∷ 1 ∷ 1 ∷ 1 ∷ []))) ≡ (256 ∷ 1 ∷ 4 ∷ 1677989390 ∷ 0 ∷ 0 ∷ 0 ∷ 0 ∷ [])
adds_number_of_three = refl

-- adds r0, #27
adds_number : shown (after (instr.TwoNumber byte.Add low0 (within 0 256 27 refl refl)) (eight (31 ∷ 1337671351 ∷ 2882790247 ∷ 31 ∷ 1 ∷ 0 ∷ 1 ∷ 1 ∷ []))) ≡ (58 ∷ 1337671351 ∷ 2882790247 ∷ 31 ∷ 0 ∷ 0 ∷ 0 ∷ 0 ∷ [])
adds_number = refl

-- adds r0, r3, r0
adds_of_three : shown (after (instr.Three sum.Add low0 low3 low0) (eight (4 ∷ 3 ∷ 32767 ∷ 34 ∷ 0 ∷ 0 ∷ 0 ∷ 0 ∷ []))) ≡ (38 ∷ 3 ∷ 32767 ∷ 34 ∷ 0 ∷ 0 ∷ 0 ∷ 0 ∷ [])
adds_of_three = refl

-- ands r0, r3
ands : shown (after (instr.Two operation.And low0 low3) (eight (257 ∷ 4294934528 ∷ 127 ∷ 1099296684 ∷ 1 ∷ 1 ∷ 1 ∷ 1 ∷ []))) ≡ (256 ∷ 4294934528 ∷ 127 ∷ 1099296684 ∷ 0 ∷ 0 ∷ 1 ∷ 1 ∷ [])
ands = refl

-- asrs r2, r1, #16
asrs_number : shown (after (instr.ShiftRight right.Asr low2 low1 (within 1 33 16 refl refl)) (eight (4278255360 ∷ 128 ∷ 24 ∷ 2 ∷ 0 ∷ 1 ∷ 0 ∷ 0 ∷ []))) ≡ (4278255360 ∷ 128 ∷ 0 ∷ 2 ∷ 0 ∷ 1 ∷ 0 ∷ 0 ∷ [])
asrs_number = refl

-- asrs r3, r3
asrs : shown (after (instr.Two operation.Asr low3 low3) (eight (3 ∷ 2942080329 ∷ 32767 ∷ 4278255360 ∷ 0 ∷ 1 ∷ 0 ∷ 1 ∷ []))) ≡ (3 ∷ 2942080329 ∷ 32767 ∷ 4278255360 ∷ 1 ∷ 0 ∷ 0 ∷ 1 ∷ [])
asrs = refl

-- bics r3, r2
bics : shown (after (instr.Two operation.Bic low3 low2) (eight (4278255360 ∷ 31 ∷ 2147483647 ∷ 257 ∷ 1 ∷ 1 ∷ 0 ∷ 0 ∷ []))) ≡ (4278255360 ∷ 31 ∷ 2147483647 ∷ 0 ∷ 0 ∷ 1 ∷ 0 ∷ 0 ∷ [])
bics = refl

-- cmn r0, r3
cmn : shown (after (instr.Two operation.Cmn low0 low3) (eight (24 ∷ 714868754 ∷ 33 ∷ 15 ∷ 0 ∷ 1 ∷ 1 ∷ 0 ∷ []))) ≡ (24 ∷ 714868754 ∷ 33 ∷ 15 ∷ 0 ∷ 0 ∷ 0 ∷ 0 ∷ [])
cmn = refl

-- cmp r0, #127
cmp_number : shown (after (instr.TwoNumber byte.Cmp low0 (within 0 256 127 refl refl)) (eight (127 ∷ 128 ∷ 2 ∷ 120240375 ∷ 0 ∷ 1 ∷ 0 ∷ 0 ∷ []))) ≡ (127 ∷ 128 ∷ 2 ∷ 120240375 ∷ 0 ∷ 1 ∷ 1 ∷ 0 ∷ [])
cmp_number = refl

-- cmp r3, r3
cmp : shown (after (instr.Two operation.Cmp low3 low3) (eight (2147483648 ∷ 255 ∷ 2147483647 ∷ 64 ∷ 0 ∷ 1 ∷ 0 ∷ 1 ∷ []))) ≡ (2147483648 ∷ 255 ∷ 2147483647 ∷ 64 ∷ 0 ∷ 1 ∷ 1 ∷ 0 ∷ [])
cmp = refl

-- eors r1, r3
eors : shown (after (instr.Two operation.Eor low1 low3) (eight (1411256570 ∷ 1881395587 ∷ 63 ∷ 815497874 ∷ 0 ∷ 0 ∷ 0 ∷ 0 ∷ []))) ≡ (1411256570 ∷ 1085821713 ∷ 63 ∷ 815497874 ∷ 0 ∷ 0 ∷ 0 ∷ 0 ∷ [])
eors = refl

-- lsls r1, r0, #25
lsls_number : shown (after (instr.ShiftLeft low1 low0 (within 1 32 25 refl refl)) (eight (256 ∷ 637265600 ∷ 32767 ∷ 7 ∷ 0 ∷ 1 ∷ 0 ∷ 1 ∷ []))) ≡ (256 ∷ 0 ∷ 32767 ∷ 7 ∷ 0 ∷ 1 ∷ 0 ∷ 1 ∷ [])
lsls_number = refl

-- lsls r1, r3
lsls : shown (after (instr.Two operation.Lsl low1 low3) (eight (288 ∷ 24 ∷ 2147483648 ∷ 2679404852 ∷ 1 ∷ 1 ∷ 0 ∷ 1 ∷ []))) ≡ (288 ∷ 0 ∷ 2147483648 ∷ 2679404852 ∷ 0 ∷ 1 ∷ 0 ∷ 1 ∷ [])
lsls = refl

-- lsrs r0, r1, #19
lsrs_number : shown (after (instr.ShiftRight right.Lsr low0 low1 (within 1 33 19 refl refl)) (eight (1364699600 ∷ 0 ∷ 1984337538 ∷ 15 ∷ 1 ∷ 0 ∷ 0 ∷ 0 ∷ []))) ≡ (0 ∷ 0 ∷ 1984337538 ∷ 15 ∷ 0 ∷ 1 ∷ 0 ∷ 0 ∷ [])
lsrs_number = refl

-- lsrs r1, r2
lsrs : shown (after (instr.Two operation.Lsr low1 low2) (eight (1858314552 ∷ 4294967294 ∷ 16 ∷ 305419896 ∷ 1 ∷ 1 ∷ 0 ∷ 0 ∷ []))) ≡ (1858314552 ∷ 65535 ∷ 16 ∷ 305419896 ∷ 0 ∷ 0 ∷ 1 ∷ 0 ∷ [])
lsrs = refl

-- mov r3, r1
mov : shown (after (instr.Mov reg3 reg1) (eight (32768 ∷ 128 ∷ 3641660471 ∷ 1438553595 ∷ 0 ∷ 1 ∷ 1 ∷ 1 ∷ []))) ≡ (32768 ∷ 128 ∷ 3641660471 ∷ 128 ∷ 0 ∷ 1 ∷ 1 ∷ 1 ∷ [])
mov = refl

-- movs r1, #101
movs_number : shown (after (instr.TwoNumber byte.Mov low1 (within 0 256 101 refl refl)) (eight (65 ∷ 65 ∷ 1981625047 ∷ 4294967295 ∷ 0 ∷ 1 ∷ 1 ∷ 0 ∷ []))) ≡ (65 ∷ 101 ∷ 1981625047 ∷ 4294967295 ∷ 0 ∷ 0 ∷ 1 ∷ 0 ∷ [])
movs_number = refl

-- movs r1, r0
movs : shown (after (instr.Movs low1 low0) (eight (4294967294 ∷ 2863311530 ∷ 820718363 ∷ 16 ∷ 0 ∷ 0 ∷ 1 ∷ 0 ∷ []))) ≡ (4294967294 ∷ 4294967294 ∷ 820718363 ∷ 16 ∷ 1 ∷ 0 ∷ 1 ∷ 0 ∷ [])
movs = refl

-- muls r1, r2, r1
muls : shown (after (instr.Two operation.Mul low1 low2) (eight (1 ∷ 4 ∷ 4294967295 ∷ 33 ∷ 1 ∷ 0 ∷ 0 ∷ 1 ∷ []))) ≡ (1 ∷ 4294967292 ∷ 4294967295 ∷ 33 ∷ 1 ∷ 0 ∷ 0 ∷ 1 ∷ [])
muls = refl

-- mvns r3, r2
mvns : shown (after (instr.Two operation.Mvn low3 low2) (eight (2171501354 ∷ 1940428782 ∷ 30 ∷ 1363545956 ∷ 0 ∷ 1 ∷ 0 ∷ 0 ∷ []))) ≡ (2171501354 ∷ 1940428782 ∷ 30 ∷ 4294967265 ∷ 1 ∷ 0 ∷ 0 ∷ 0 ∷ [])
mvns = refl

-- orrs r1, r2
orrs : shown (after (instr.Two operation.Orr low1 low2) (eight (30 ∷ 0 ∷ 305419896 ∷ 8 ∷ 1 ∷ 0 ∷ 0 ∷ 1 ∷ []))) ≡ (30 ∷ 305419896 ∷ 305419896 ∷ 8 ∷ 0 ∷ 0 ∷ 0 ∷ 1 ∷ [])
orrs = refl

-- rev r0, r3
rev : shown (after (instr.Reverse reversal.Rev low0 low3) (eight (127 ∷ 4 ∷ 32767 ∷ 32767 ∷ 1 ∷ 1 ∷ 1 ∷ 0 ∷ []))) ≡ (4286513152 ∷ 4 ∷ 32767 ∷ 32767 ∷ 1 ∷ 1 ∷ 1 ∷ 0 ∷ [])
rev = refl

-- rev16 r1, r2
rev16 : shown (after (instr.Reverse reversal.Rev16 low1 low2) (eight (30 ∷ 1880967030 ∷ 64 ∷ 3433416572 ∷ 0 ∷ 0 ∷ 1 ∷ 1 ∷ []))) ≡ (30 ∷ 16384 ∷ 64 ∷ 3433416572 ∷ 0 ∷ 0 ∷ 1 ∷ 1 ∷ [])
rev16 = refl

-- revsh r0, r2
revsh : shown (after (instr.Reverse reversal.Revsh low0 low2) (eight (4278255360 ∷ 2147483646 ∷ 1597538985 ∷ 1744773893 ∷ 1 ∷ 0 ∷ 0 ∷ 0 ∷ []))) ≡ (4294945154 ∷ 2147483646 ∷ 1597538985 ∷ 1744773893 ∷ 1 ∷ 0 ∷ 0 ∷ 0 ∷ [])
revsh = refl

-- rors r0, r1
rors : shown (after (instr.Two operation.Ror low0 low1) (eight (2536718221 ∷ 754656487 ∷ 32768 ∷ 30 ∷ 1 ∷ 0 ∷ 1 ∷ 0 ∷ []))) ≡ (456025727 ∷ 754656487 ∷ 32768 ∷ 30 ∷ 0 ∷ 0 ∷ 0 ∷ 0 ∷ [])
rors = refl

-- rsbs r2, r3, #0
rsbs_number : shown (after (instr.Two operation.Rsb low2 low3) (eight (1832727522 ∷ 16 ∷ 1 ∷ 256 ∷ 0 ∷ 1 ∷ 1 ∷ 0 ∷ []))) ≡ (1832727522 ∷ 16 ∷ 4294967040 ∷ 256 ∷ 1 ∷ 0 ∷ 0 ∷ 0 ∷ [])
rsbs_number = refl

-- sbcs r1, r3
sbcs : shown (after (instr.Two operation.Sbc low1 low3) (eight (1 ∷ 2627654882 ∷ 1379045678 ∷ 127 ∷ 1 ∷ 0 ∷ 1 ∷ 1 ∷ []))) ≡ (1 ∷ 2627654755 ∷ 1379045678 ∷ 127 ∷ 1 ∷ 0 ∷ 1 ∷ 0 ∷ [])
sbcs = refl

-- subs r0, r0, #4
subs_number_of_three : shown (after (instr.ThreeNumber sum.Sub low0 low0 (within 0 8 4 refl refl)) (eight (411010296 ∷ 2147483649 ∷ 33 ∷ 2911177841 ∷ 1 ∷ 0 ∷ 1 ∷ 0 ∷ []))) ≡ (411010292 ∷ 2147483649 ∷ 33 ∷ 2911177841 ∷ 0 ∷ 0 ∷ 1 ∷ 0 ∷ [])
subs_number_of_three = refl

-- subs r2, #33
subs_number : shown (after (instr.TwoNumber byte.Sub low2 (within 0 256 33 refl refl)) (eight (0 ∷ 998993941 ∷ 7 ∷ 33 ∷ 1 ∷ 0 ∷ 0 ∷ 1 ∷ []))) ≡ (0 ∷ 998993941 ∷ 4294967270 ∷ 33 ∷ 1 ∷ 0 ∷ 0 ∷ 0 ∷ [])
subs_number = refl

-- subs r0, r1, r1
subs_of_three : shown (after (instr.Three sum.Sub low0 low1 low1) (eight (4278255360 ∷ 4294967294 ∷ 2757922968 ∷ 33 ∷ 1 ∷ 1 ∷ 1 ∷ 1 ∷ []))) ≡ (0 ∷ 4294967294 ∷ 2757922968 ∷ 33 ∷ 0 ∷ 1 ∷ 1 ∷ 0 ∷ [])
subs_of_three = refl

-- sxtb r1, r2
sxtb : shown (after (instr.Extend extension.Sxtb low1 low2) (eight (4294967168 ∷ 2241289614 ∷ 24 ∷ 64 ∷ 1 ∷ 1 ∷ 1 ∷ 1 ∷ []))) ≡ (4294967168 ∷ 24 ∷ 24 ∷ 64 ∷ 1 ∷ 1 ∷ 1 ∷ 1 ∷ [])
sxtb = refl

-- sxth r3, r2
sxth : shown (after (instr.Extend extension.Sxth low3 low2) (eight (63 ∷ 32768 ∷ 2154560731 ∷ 63 ∷ 1 ∷ 0 ∷ 1 ∷ 1 ∷ []))) ≡ (63 ∷ 32768 ∷ 2154560731 ∷ 4294966491 ∷ 1 ∷ 0 ∷ 1 ∷ 1 ∷ [])
sxth = refl

-- tst r3, r1
tst : shown (after (instr.Two operation.Tst low3 low1) (eight (32 ∷ 3 ∷ 0 ∷ 288 ∷ 0 ∷ 1 ∷ 0 ∷ 1 ∷ []))) ≡ (32 ∷ 3 ∷ 0 ∷ 288 ∷ 0 ∷ 1 ∷ 0 ∷ 1 ∷ [])
tst = refl

-- uxtb r1, r2
uxtb : shown (after (instr.Extend extension.Uxtb low1 low2) (eight (3856277796 ∷ 32767 ∷ 2698828098 ∷ 7 ∷ 0 ∷ 0 ∷ 1 ∷ 1 ∷ []))) ≡ (3856277796 ∷ 66 ∷ 2698828098 ∷ 7 ∷ 0 ∷ 0 ∷ 1 ∷ 1 ∷ [])
uxtb = refl

-- uxth r2, r3
uxth : shown (after (instr.Extend extension.Uxth low2 low3) (eight (1 ∷ 4294967295 ∷ 31 ∷ 24 ∷ 0 ∷ 1 ∷ 1 ∷ 1 ∷ []))) ≡ (1 ∷ 4294967295 ∷ 24 ∷ 24 ∷ 0 ∷ 1 ∷ 1 ∷ 1 ∷ [])
uxth = refl

-- asrs r2, r1
asrs_far : shown (after (instr.Two operation.Asr low2 low1) (eight (65535 ∷ 32767 ∷ 32 ∷ 4197825360 ∷ 0 ∷ 0 ∷ 0 ∷ 1 ∷ []))) ≡ (65535 ∷ 32767 ∷ 0 ∷ 4197825360 ∷ 0 ∷ 1 ∷ 0 ∷ 1 ∷ [])
asrs_far = refl

-- lsls r0, r1
lsls_32 : shown (after (instr.Two operation.Lsl low0 low1) (eight (2147483649 ∷ 32 ∷ 0 ∷ 0 ∷ 0 ∷ 0 ∷ 0 ∷ 1 ∷ []))) ≡ (0 ∷ 32 ∷ 0 ∷ 0 ∷ 0 ∷ 1 ∷ 1 ∷ 1 ∷ [])
lsls_32 = refl

abbrev none : Around
none = record { target = External 0; literal = 0; link = 0; lands = λ w. Strays }

abbrev back : Around
back = record { target = External 536870913; literal = 77; link = 4097; lands = λ w. if w == 257 then Goes 5 else Leaves }

-- r0 to r12, sp, lr
abbrev regs : List ℕ
regs = 10 ∷ 11 ∷ 12 ∷ 13 ∷ 14 ∷ 15 ∷ 16 ∷ 536870912 ∷ 18 ∷ 19 ∷ 20 ∷ 21 ∷ 22 ∷ 536875008 ∷ 333 ∷ 0 ∷ 1 ∷ 0 ∷ 0 ∷ []

abbrev answer : ℕ → Answer
answer n = record { values = λ x. n; bytes = (5, n) ∷ [] }

abbrev world : List Answer → World
world left = record { values = held regs; memory = λ a. a % 256; answers = left }

abbrev list : (n : ℕ) → nat_le 1 n ≡ true → nat_lt n 512 ≡ true → Within 1 512
list n h k = within 1 512 n h k

-- PUSH {r0, r1, lr}
push_events : (act none (instr.Push (list 259 refl refl)) (world [])).events ≡ Store 536874996 4 10 ∷ Store 536875000 4 11 ∷ Store 536875004 4 333 ∷ []
unfolding registers_in
push_events = refl

push_outputs : (act none (instr.Push (list 259 refl refl)) (world [])).outputs ≡ (13, 536874996) ∷ []
unfolding registers_in
push_outputs = refl

push_memory : map (act none (instr.Push (list 259 refl refl)) (world [])).memory (536874996 ∷ 536874997 ∷ 536875004 ∷ 536875005 ∷ 536875008 ∷ []) ≡ 10 ∷ 0 ∷ 77 ∷ 1 ∷ 0 ∷ []
unfolding registers_in
push_memory = refl

-- POP {r0, r1}
pop_outputs : (act none (instr.Pop (list 3 refl refl)) (world [])).outputs ≡ (13, 536875016) ∷ (0, 50462976) ∷ (1, 117835012) ∷ []
unfolding registers_in
pop_outputs = refl

pop_events : (act none (instr.Pop (list 3 refl refl)) (world [])).events ≡ Load 536875008 4 ∷ Load 536875012 4 ∷ []
unfolding registers_in
pop_events = refl

-- POP {r0, pc}: the word 0x07060504 leaves
pop_pc : (act back (instr.Pop (list 257 refl refl)) (world [])).events ≡ Load 536875008 4 ∷ Load 536875012 4 ∷ Left 117835012 (50462976 ∷ 11 ∷ 12 ∷ 13 ∷ 14 ∷ 15 ∷ 16 ∷ 536870912 ∷ 18 ∷ 19 ∷ 20 ∷ 21 ∷ 536875016 ∷ 333 ∷ []) ∷ []
unfolding registers_in
pop_pc = refl

-- LDM r7!, {r0, r1}, and LDM r7, {r0, r7}
ldm_outputs : (act none (instr.LoadMany (within 0 8 7 refl refl) (within 1 256 3 refl refl)) (world [])).outputs ≡ (7, 536870920) ∷ (0, 50462976) ∷ (1, 117835012) ∷ []
unfolding registers_in
ldm_outputs = refl

ldm_base : (act none (instr.LoadMany (within 0 8 7 refl refl) (within 1 256 129 refl refl)) (world [])).outputs ≡ (7, 117835012) ∷ (0, 50462976) ∷ (7, 117835012) ∷ []
unfolding registers_in
ldm_base = refl

-- LDM from an unaligned address
ldm_fault : (act none (instr.LoadMany (within 0 8 1 refl refl) (within 1 256 3 refl refl)) (world [])).events ≡ Fault 11 ∷ []
unfolding registers_in
ldm_fault = refl

abbrev device : List Answer → World
device left = record { values = λ x. 1073741824; memory = λ a. a % 256; answers = left }

-- a list of two devices' words wants two answers
ldm_waits : (act none (instr.LoadMany (within 0 8 1 refl refl) (within 1 256 5 refl refl)) (device (answer 7 ∷ []))).next ≡ Stay
unfolding registers_in
ldm_waits = refl

ldm_takes : (act none (instr.LoadMany (within 0 8 1 refl refl) (within 1 256 5 refl refl)) (device (answer 7 ∷ answer 8 ∷ answer 9 ∷ []))).outputs ≡ (1, 1073741832) ∷ (0, 7) ∷ (2, 8) ∷ []
unfolding registers_in
ldm_takes = refl

ldm_left : (act none (instr.LoadMany (within 0 8 1 refl refl) (within 1 256 5 refl refl)) (device (answer 7 ∷ answer 8 ∷ answer 9 ∷ []))).answers ≡ answer 9 ∷ []
unfolding registers_in
ldm_left = refl

-- LDRSB of the byte 200, and LDRB and LDRH at a device
ldrsb : (act none (instr.Indexed access.Ldrsb low0 (within 0 8 7 refl refl) low1) (record { values = held (10 ∷ 190 ∷ 0 ∷ 0 ∷ 0 ∷ 0 ∷ 0 ∷ 10 ∷ []); memory = λ a. a % 256; answers = [] })).outputs ≡ (0, 4294967240) ∷ []
ldrsb = refl

ldrb_device : (act none (instr.Offset offset.Ldrb low0 low1 (within 0 32 3 refl refl)) (device (answer 511 ∷ []))).outputs ≡ (0, 255) ∷ []
ldrb_device = refl

ldrh_events : (act none (instr.Offset offset.Ldrh low0 low1 (within 0 32 3 refl refl)) (device (answer 511 ∷ []))).events ≡ Load 1073741830 2 ∷ []
ldrh_events = refl

strh_events : (act none (instr.Offset offset.Strh low0 (within 0 8 7 refl refl) (within 0 32 3 refl refl)) (record { values = held (74565 ∷ 0 ∷ 0 ∷ 0 ∷ 0 ∷ 0 ∷ 0 ∷ 100 ∷ []); memory = λ a. a % 256; answers = [] })).events ≡ Store 106 2 9029 ∷ []
strh_events = refl

strh_memory : map (act none (instr.Offset offset.Strh low0 (within 0 8 7 refl refl) (within 0 32 3 refl refl)) (record { values = held (74565 ∷ 0 ∷ 0 ∷ 0 ∷ 0 ∷ 0 ∷ 0 ∷ 100 ∷ []); memory = λ a. a % 256; answers = [] })).memory (105 ∷ 106 ∷ 107 ∷ 108 ∷ []) ≡ 105 ∷ 69 ∷ 35 ∷ 108 ∷ []
strh_memory = refl

-- BL to an external name, SVC
bl_events : (act back (instr.Call (record { field = 0; below = lit< tt })) (world (answer 3 ∷ []))).events ≡ Call 536870913 (10 ∷ 11 ∷ 12 ∷ 13 ∷ 536875008 ∷ []) ∷ []
bl_events = refl

svc_events : (act back (instr.Service (within 0 256 9 refl refl)) (world (answer 3 ∷ []))).events ≡ Sys 9 (10 ∷ 11 ∷ 12 ∷ 13 ∷ 22 ∷ 536875008 ∷ []) ∷ []
svc_events = refl

svc_outputs : (act back (instr.Service (within 0 256 9 refl refl)) (world (answer 3 ∷ []))).outputs ≡ (0, 3) ∷ (1, 3) ∷ (2, 3) ∷ (3, 3) ∷ (12, 3) ∷ []
svc_outputs = refl

-- STM r7!, {r0, r1}
stm_no : (let n : ℕ = 0 in n) ≡ 1 → ⊥
stm_no e = cc

stm_events : (act none (instr.StoreMany (record { base = within 0 8 7 refl refl; list = within 1 256 3 refl refl; base_first = λ e. absurd (stm_no e) })) (world [])).events ≡ Store 536870912 4 10 ∷ Store 536870916 4 11 ∷ []
unfolding registers_in
stm_events = refl
