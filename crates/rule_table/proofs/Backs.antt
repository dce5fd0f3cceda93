-- Renaming a window's registers to their names and back gives the window: the canonical form is right.
use Rattle.std.proofs.Common.{◌≡◌, ℕ, zero, suc, ◌<◌, ◌==◌, Bool, true, false, List, [], ◌∷◌, ◌++◌, map, length, refl, sym, ◌∙◌, ap, subst, arith, Option, Some, None, slice_get, cond}
use Rattle.std.specs.Option.{option_map}
use Rattle.std.specs.List.{flat_map, list_all}
use Rattle.std.proofs.lemmas.Bool.{and_parts, and_from}
use Rattle.std.proofs.lemmas.Option.{slice_get-map, slice_get_within, same_Some}
use Rattle.std.proofs.lemmas.List.{length-map}
use Rattle.std.proofs.lemmas.List.Folds.{list_any-append}
use Rattle.thumb_instr.specs.declared.instr.Instr.{Instr}
use Rattle.thumb_instr.specs.declared.instr.Instr.TheVariants as instr
use Rattle.thumb_instr.specs.Window.{is_in_window, normal_of, byte_sum, byte_of, Low, named, renamed, AreBelow, item_under, number_or}
use Rattle.thumb_instr.proofs.RenamingLemmas.{named_renamed, named_low}
use Rattle.rule_table.specs.Canonical.{has, with_first, firsts, name_in, numbers_of}
use Rattle.rule_table.proofs.Orders.{name_stands, has_firsts}
use Rattle.rule_table.proofs.Renamings.{AllNamed, ComesBack, renamed_back}
use Rattle.seq_enum.proofs.CostReading.{itself as eqb_same}
use Rattle.thumb_model.proofs.Small.{below_append}

abbrev pub eight : List ℕ
eight = 0 ∷ 1 ∷ 2 ∷ 3 ∷ 4 ∷ 5 ∷ 6 ∷ 7 ∷ []

pub eight_at : (x : ℕ) → x < 8 → slice_get eight x ≡ Some x
eight_at zero h = refl
eight_at (suc zero) h = refl
eight_at (suc (suc zero)) h = refl
eight_at (suc (suc (suc zero))) h = refl
eight_at (suc (suc (suc (suc zero)))) h = refl
eight_at (suc (suc (suc (suc (suc zero))))) h = refl
eight_at (suc (suc (suc (suc (suc (suc zero)))))) h = refl
eight_at (suc (suc (suc (suc (suc (suc (suc zero))))))) h = refl
eight_at (suc (suc (suc (suc (suc (suc (suc (suc x)))))))) h = absurd (omega arith)

-- the register with number n is at index i
record At (xs : List Low) (i n : ℕ) : Type 0 where
  register : Low
  there : slice_get xs i ≡ Some register
  number : register.number ≡ n

at : (xs : List Low) (i n : ℕ) → slice_get (numbers_of xs) i ≡ Some n → At xs i n
at xs i n e = from (slice_get xs i) refl (sym (slice_get-map (λ r. r.number) xs i) ∙ e)
  where
    from : (o : Option Low) → slice_get xs i ≡ o → option_map (λ r. r.number) o ≡ Some n → At xs i n
    from None h k = absurd cc
    from (Some r) h k = record { register = r; there = h; number = same_Some _ _ k }

-- the name of each register is its index
abbrev pub AreNames : List Low → List Low → Type 0
AreNames registers names = numbers_of names ≡ map (name_in (numbers_of registers)) eight

-- what a register is renamed to, and back
record Back (registers names : List Low) (x : ℕ) : Type 0 where
  name : Low
  own : Low
  named_so : slice_get names x ≡ Some name
  low : name.number < length registers
  stands : slice_get registers name.number ≡ Some own
  same : own.number ≡ x

back : (registers names : List Low) → AreNames registers names → (x : ℕ) → x < 8 → has (numbers_of registers) x ≡ true → Back registers names x
back registers names are x h known =
    let order = numbers_of registers in
    let place : slice_get (numbers_of names) x ≡ Some (name_in order x) =
    ap (λ ns. slice_get ns x) are ∙ slice_get-map (name_in order) eight x ∙ ap (option_map (name_in order)) (eight_at x h) in
    let first = at names x (name_in order x) place in
    let stands : slice_get order (name_in order x) ≡ Some x = name_stands order x known in
    let second = at registers (name_in order x) x stands in
    let within : name_in order x < length order = slice_get_within order (name_in order x) x stands in
    record {
      name = first.register;
      own = second.register;
      named_so = first.there;
      low = omega (arith, within, first.number, length-map registers (λ r. r.number));
      stands = ap (slice_get registers) first.number ∙ second.there;
      same = second.number;
    }

comes_back : (registers names : List Low) → AreNames registers names → (x : ℕ) → x < 8 → has (numbers_of registers) x ≡ true → ComesBack names registers x
comes_back registers names are x h known =
    let b = back registers names are x h known in
    let first : item_under names x ≡ b.name.number = ap (λ o. number_or o x) b.named_so in
    ap (item_under registers) first ∙ ap (λ o. number_or o b.name.number) b.stands ∙ b.same

-- every number of a list is among the registers
abbrev pub AllIn : List ℕ → List ℕ → Type 0
AllIn order [] = Unit {0}
AllIn order (x ∷ xs) = (has order x ≡ true) × AllIn order xs

all_come_back : (registers names : List Low) → AreNames registers names → (xs : List ℕ) → AreBelow 8 xs → AllIn (numbers_of registers) xs → AllNamed (ComesBack names registers) xs
all_come_back registers names are [] b k = tt
all_come_back registers names are (x ∷ xs) b k = (comes_back registers names are x b.0 k.0, all_come_back registers names are xs b.1 k.1)

instr_back : (registers names : List Low) → AreNames registers names → (i : Instr) → is_in_window i ≡ true → AllIn (numbers_of registers) (named i)
    → renamed registers (renamed names i) ≡ i
instr_back registers names are i w k = renamed_back names registers i w (all_come_back registers names are (named i) (named_low i w) k)

all_split : (order xs ys : List ℕ) → AllIn order (xs ++ ys) → AllIn order xs × AllIn order ys
all_split order [] ys h = (tt, h)
all_split order (x ∷ xs) ys h = let p = all_split order xs ys h.1 in ((h.0, p.0), p.1)

pub all_back : (registers names : List Low) → AreNames registers names → (is : List Instr) → list_all is_in_window is ≡ true → AllIn (numbers_of registers) (flat_map named is)
    → map (renamed registers) (map (renamed names) is) ≡ is
all_back registers names are [] w k = refl
all_back registers names are (i ∷ is) w k =
    let both = and_parts (is_in_window i) (list_all is_in_window is) w in
    let split = all_split (numbers_of registers) (named i) (flat_map named is) k in
    ap (λ j. j ∷ map (renamed registers) (map (renamed names) is)) (instr_back registers names are i both.0 split.0)
    ∙ ap (λ js. i ∷ js) (all_back registers names are is both.1 split.1)

-- the new names are below the number of registers
names_below : (registers names : List Low) → AreNames registers names → (xs : List ℕ) → AreBelow 8 xs → AllIn (numbers_of registers) xs
    → AreBelow (length registers) (map (item_under names) xs)
names_below registers names are [] h k = tt
names_below registers names are (x ∷ xs) h k =
    let b = back registers names are x h.0 k.0 in
    let is : item_under names x ≡ b.name.number = ap (λ o. number_or o x) b.named_so in
    (subst (λ (n : ℕ). n < length registers) (sym is) b.low, names_below registers names are xs h.1 k.1)

pub all_below : (registers names : List Low) → AreNames registers names → (is : List Instr) → list_all is_in_window is ≡ true → AllIn (numbers_of registers) (flat_map named is)
    → AreBelow (length registers) (flat_map named (map (renamed names) is))
all_below registers names are [] w k = tt
all_below registers names are (i ∷ is) w k =
    let both = and_parts (is_in_window i) (list_all is_in_window is) w in
    let split = all_split (numbers_of registers) (named i) (flat_map named is) k in
    let first : AreBelow (length registers) (map (item_under names) (named i)) = names_below registers names are (named i) (named_low i both.0) split.0 in
    below_append (length registers) (named (renamed names i)) (flat_map named (map (renamed names) is))
    (subst (AreBelow (length registers)) (sym (named_renamed names i both.0)) first)
    (all_below registers names are is both.1 split.1)

has_itself : (seen : List ℕ) (r : ℕ) → has (with_first seen r) r ≡ true
has_itself seen r = by (has seen r) refl
  where
    by : (b : Bool) → has seen r ≡ b → has (cond b seen (seen ++ r ∷ [])) r ≡ true
    by true h = h
    by false h = simp (list_any-append, h, eqb_same r) refl

all_kept : (seen rs : List ℕ) → AllIn (firsts seen rs) rs
unfolding firsts
all_kept seen [] = tt
all_kept seen (r ∷ rs) = (has_firsts (with_first seen r) rs r (has_itself seen r), all_kept (with_first seen r) rs)

pub all_appear : (order rs : List ℕ) → order ≡ firsts [] rs → AllIn order rs
all_appear order rs e = subst (λ (o : List ℕ). AllIn o rs) (sym e) (all_kept [] rs)

-- the normal form of an instruction that may stand in a window may do so too
window_normal : (i : Instr) → is_in_window i ≡ true → is_in_window (normal_of i) ≡ true
window_normal (instr.ThreeNumber s d n i) h =
    elim (d.number == n.number) as (λ b. is_in_window (cond b (instr.TwoNumber (byte_sum s) d (byte_of i)) (instr.ThreeNumber s d n i)) ≡ true) [ true ↦ refl | false ↦ refl ]
window_normal i h = h

pub windows_normal : (is : List Instr) → list_all is_in_window is ≡ true → list_all is_in_window (map normal_of is) ≡ true
windows_normal [] h = refl
windows_normal (i ∷ is) h =
    let both = and_parts (is_in_window i) (list_all is_in_window is) h in
    and_from (is_in_window (normal_of i)) (list_all is_in_window (map normal_of is)) (window_normal i both.0) (windows_normal is both.1)
