-- Columns of states, and the states after an instruction.
use Rattle.std.proofs.Common.{◌≡◌, ℕ, zero, suc, ◌+◌, ◌<◌, ◌≤◌, List, [], ◌∷◌, length, slice_get, slice_index_or, Some, drop, map, refl, sym, ap, ◌∙◌, arith}
use Rattle.std.proofs.lemmas.List.{drop_all}
use Rattle.std.proofs.lemmas.Simd.{map-map}
use Rattle.std.proofs.Math.Seq.{drop-cons}
use Rattle.thumb_instr.specs.declared.instr.Instr.{Instr}
use Rattle.thumb_model.specs.Effect.{after, after_all, AreOver, Values}
use Rattle.window_exec.specs.declared.state.WState.{WState}
use Rattle.window_exec.specs.State.{values_of}
use Rattle.fingerprints.specs.declared.lanes.Lanes.{Lanes}
use Rattle.fingerprints.specs.Lanes.{values_at}
use Rattle.fingerprints.specs.Columns.{lanes_from}

-- a column holds the states given
pub lanes_hold : (l : Lanes) (ss : List WState) (i : ℕ) → ((j : ℕ) (s : WState) → slice_get ss j ≡ Some s → values_at l (i + j) ≡ values_of s) → lanes_from l i (length ss) ≡ map values_of ss
unfolding lanes_from
lanes_hold l [] i each = refl
lanes_hold l (s ∷ ss) i each =
    let here : values_at l (i + 0) ≡ values_of s = each 0 s refl in
    let at : i + 0 ≡ i = omega arith in
    ap (λ v. v ∷ lanes_from l (i + 1) (length ss)) (ap (values_at l) (sym at) ∙ here)
    ∙ ap (λ vs. values_of s ∷ vs) (lanes_hold l ss (i + 1) (λ j t e. let one : i + 1 + j ≡ i + suc j = omega arith in ap (values_at l) one ∙ each (suc j) t e))

pub column_holds : (l : Lanes) (ss : List WState) → ((j : ℕ) (s : WState) → slice_get ss j ≡ Some s → values_at l j ≡ values_of s) → lanes_from l 0 (length ss) ≡ map values_of ss
column_holds l ss each = lanes_hold l ss 0 (λ j s e. let none : 0 + j ≡ j = omega arith in ap (values_at l) none ∙ each j s e)

-- a function applied to each lane is applied to each state of the column
pub lanes_after : (f : Values → Values) (l k : Lanes) → ((i : ℕ) → i < 8 → values_at k i ≡ f (values_at l i)) → (n i : ℕ) → i + n ≤ 8 → lanes_from k i n ≡ map f (lanes_from l i n)
unfolding lanes_from
lanes_after f l k each zero i h = refl
lanes_after f l k each (suc n) i h =
    ap (λ v. v ∷ lanes_from k (i + 1) n) (each i (omega arith)) ∙ ap (λ vs. f (values_at l i) ∷ vs) (lanes_after f l k each n (i + 1) (omega arith))

pub column_after : (f : Values → Values) (l k : Lanes) (count : ℕ) → ((i : ℕ) → i < 8 → values_at k i ≡ f (values_at l i)) → count ≤ 8 → lanes_from k 0 count ≡ map f (lanes_from l 0 count)
column_after f l k count each most = lanes_after f l k each count 0 (omega arith)

-- ---- a sequence, instruction by instruction
pub rest_is : (instrs : List Instr) (i : ℕ) (x : Instr) → i < length instrs → x ≡ slice_index_or instrs i x → drop i instrs ≡ x ∷ drop (i + 1) instrs
rest_is instrs i x h item =
    let one : suc i ≡ i + 1 = omega arith in
    drop-cons instrs i x h ∙ ap (λ m. slice_index_or instrs i x ∷ drop m instrs) one ∙ ap (λ y. y ∷ drop (i + 1) instrs) (sym item)

pub over_more : (instrs : List Instr) (i : ℕ) (x : Instr) → i < length instrs → AreOver 4 (drop i instrs) → AreOver 4 (drop (i + 1) instrs)
over_more instrs i x h over =
    let one : suc i ≡ i + 1 = omega arith in
    let here : drop i instrs ≡ slice_index_or instrs i x ∷ drop (i + 1) instrs = drop-cons instrs i x h ∙ ap (λ n. slice_index_or instrs i x ∷ drop n instrs) one in
    (rw here at over).2

pub run_on : (instrs : List Instr) (i : ℕ) (x : Instr) (states later whole : List Values) → i < length instrs → x ≡ slice_index_or instrs i x → later ≡ map (after x) states
    → map (after_all (drop i instrs)) states ≡ whole → map (after_all (drop (i + 1) instrs)) later ≡ whole
run_on instrs i x states later whole h item e ends =
    let w = drop (i + 1) instrs in
    ap (map (after_all w)) e ∙ map-map (after_all w) (after x) states ∙ ap (λ is. map (after_all is) states) (sym (rest_is instrs i x h item)) ∙ ends

pub unchanged : (vs : List Values) → map (after_all []) vs ≡ vs
unchanged [] = refl
unchanged (v ∷ vs) = ap (λ us. v ∷ us) (unchanged vs)

pub run_through : (instrs : List Instr) (i : ℕ) (states whole : List Values) → length instrs ≤ i → map (after_all (drop i instrs)) states ≡ whole → states ≡ whole
run_through instrs i states whole h ends = sym (unchanged states) ∙ ap (λ is. map (after_all is) states) (sym (drop_all i instrs h)) ∙ ends
