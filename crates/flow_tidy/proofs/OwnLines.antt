-- The line of a branch has at most six bytes more than the name of its label.
use Rattle.std.proofs.Common.{◌≡◌, ℕ, ◌+◌, ◌≤◌, true, List, [], ◌∷◌, ◌++◌, codes, length, Some, refl, arith}
use Rattle.std.proofs.lemmas.List.{length-append}
use Rattle.thumb_instr.specs.declared.instr.Instr.{Instr}
use Rattle.thumb_instr.specs.declared.instr.Instr.TheVariants as instr
use Rattle.thumb_instr.specs.declared.operation.Condition.TheVariants as condition
use Rattle.thumb_model.specs.Listing.{Name}
use Rattle.listing_parser.specs.Parsing.{line_mentioning}
use Rattle.flow_tidy.specs.Tidying.{is_branch}

-- a mnemonic of at most three bytes, a blank and the name
told : (m : List ℕ) (name : Name) → length m ≤ 3 → length (9 ∷ ((m ++ 32 ∷ (name ++ [])) ++ 10 ∷ [])) ≤ length name + 6
told m name h =
    let a = length-append (m ++ 32 ∷ (name ++ [])) (10 ∷ []) in
    let b = length-append m (32 ∷ (name ++ [])) in
    let c = length-append name [] in
    omega arith

pub branch_short : (i : Instr) (name : Name) → is_branch i ≡ true → length (line_mentioning i (Some (record { name = name; plus = 0 }))) ≤ length name + 6
unfolding line_mentioning
branch_short (instr.BranchIf condition.Eq d) name h = told (codes "beq") name (let z : length (codes "beq") ≡ 3 = refl in omega arith)
branch_short (instr.BranchIf condition.Ne d) name h = told (codes "bne") name (let z : length (codes "bne") ≡ 3 = refl in omega arith)
branch_short (instr.BranchIf condition.Cs d) name h = told (codes "bcs") name (let z : length (codes "bcs") ≡ 3 = refl in omega arith)
branch_short (instr.BranchIf condition.Cc d) name h = told (codes "bcc") name (let z : length (codes "bcc") ≡ 3 = refl in omega arith)
branch_short (instr.BranchIf condition.Mi d) name h = told (codes "bmi") name (let z : length (codes "bmi") ≡ 3 = refl in omega arith)
branch_short (instr.BranchIf condition.Pl d) name h = told (codes "bpl") name (let z : length (codes "bpl") ≡ 3 = refl in omega arith)
branch_short (instr.BranchIf condition.Vs d) name h = told (codes "bvs") name (let z : length (codes "bvs") ≡ 3 = refl in omega arith)
branch_short (instr.BranchIf condition.Vc d) name h = told (codes "bvc") name (let z : length (codes "bvc") ≡ 3 = refl in omega arith)
branch_short (instr.BranchIf condition.Hi d) name h = told (codes "bhi") name (let z : length (codes "bhi") ≡ 3 = refl in omega arith)
branch_short (instr.BranchIf condition.Ls d) name h = told (codes "bls") name (let z : length (codes "bls") ≡ 3 = refl in omega arith)
branch_short (instr.BranchIf condition.Ge d) name h = told (codes "bge") name (let z : length (codes "bge") ≡ 3 = refl in omega arith)
branch_short (instr.BranchIf condition.Lt d) name h = told (codes "blt") name (let z : length (codes "blt") ≡ 3 = refl in omega arith)
branch_short (instr.BranchIf condition.Gt d) name h = told (codes "bgt") name (let z : length (codes "bgt") ≡ 3 = refl in omega arith)
branch_short (instr.BranchIf condition.Le d) name h = told (codes "ble") name (let z : length (codes "ble") ≡ 3 = refl in omega arith)
branch_short (instr.Branch d) name h = told (codes "b") name (let z : length (codes "b") ≡ 1 = refl in omega arith)
branch_short i name h = absurd (cc)
