-- Maps that begin alike, and the registers of one.
use Rattle.std.proofs.Common.{◌≡◌, ℕ, zero, suc, ◌+◌, ◌<◌, ◌≤◌, true, List, [], ◌∷◌, ◌++◌, length, append_assoc, map, drop, Option, Some, None, refl, sym, ap, ◌∙◌, arith}
use Rattle.std.specs.Prelude.{slice_get, slice_set}
use Rattle.std.specs.List.{flat_map, list_all}
use Rattle.std.specs.Option.{option_and_then}
use Rattle.std.proofs.lemmas.Bool.{and_parts}
use Rattle.thumb_instr.specs.declared.instr.Instr.{Instr}
use Rattle.thumb_instr.specs.Window.{is_in_window, Low, named, renamed, AreBelow, number_or}
use Rattle.thumb_instr.proofs.RenamingLemmas.{below_parts}
use Rattle.rule_table.proofs.Renamings.{AllNamed, IsSameUnder, renamed_alike}
use Rattle.window_rewrite.specs.TableRewriting.{map_of, registers_of}

-- ---- maps that begin alike ----

-- the same stands in both for registers below k
abbrev pub AreAlike : ℕ → List Low → List Low → Type 0
AreAlike k r s = (x : ℕ) → x < k → slice_get r x ≡ slice_get s x

same_items : (k : ℕ) (r s : List Low) (xs : List ℕ) → AreAlike k r s → AreBelow k xs → AllNamed (IsSameUnder r s) xs
same_items k r s [] h b = tt
same_items k r s (x ∷ xs) h b = (ap (λ o. number_or o x) (h x b.0), same_items k r s xs h b.1)

pub all_alike : (k : ℕ) (r s : List Low) (is : List Instr) → AreAlike k r s → list_all is_in_window is ≡ true → AreBelow k (flat_map named is) → map (renamed r) is ≡ map (renamed s) is
all_alike k r s [] h w b = refl
all_alike k r s (i ∷ is) h w b =
    let v = and_parts (is_in_window i) (list_all is_in_window is) w in
    let c = below_parts k (named i) (flat_map named is) b in
    ap (λ j. j ∷ map (renamed r) is) (renamed_alike r s i v.0 (same_items k r s (named i) h c.0)) ∙ ap (λ js. renamed s i ∷ js) (all_alike k r s is h v.1 c.1)

-- ---- the registers of a map, one by one ----

registers_append : (xs ys : List (Option Low)) → registers_of (xs ++ ys) ≡ registers_of xs ++ registers_of ys
registers_append [] ys = refl
registers_append (None ∷ xs) ys = registers_append xs ys
registers_append (Some r ∷ xs) ys = ap (λ rs. r ∷ rs) (registers_append xs ys)

drop_given : (m : List (Option Low)) (k : ℕ) → k < length m → drop k m ≡ option_and_then (λ o. o) (slice_get m k) ∷ drop (k + 1) m
drop_given [] k h = absurd (omega arith)
drop_given (o ∷ os) zero h = refl
drop_given (o ∷ os) (suc k) h = drop_given os k (omega arith) ∙ ap (λ n. option_and_then (λ p. p) (slice_get os k) ∷ drop n (o ∷ os)) (let f : suc (k + 1) ≡ suc k + 1 = omega arith in f)

pub next_registers : (m : List (Option Low)) (k : ℕ) (given : Option Low) (registers more all : List Low) → k < length m → given ≡ option_and_then (λ o. o) (slice_get m k) → more ≡ registers ++ registers_of (given ∷ [])
    → registers ++ registers_of (drop k m) ≡ all → more ++ registers_of (drop (k + 1) m) ≡ all
next_registers m k given registers more all h g e a =
    ap (λ rs. rs ++ registers_of (drop (k + 1) m)) e
    ∙ append_assoc registers (registers_of (given ∷ [])) (registers_of (drop (k + 1) m))
    ∙ ap (λ rs. registers ++ rs) (sym (registers_append (given ∷ []) (drop (k + 1) m)) ∙ ap (λ (o : Option Low). registers_of (o ∷ drop (k + 1) m)) g ∙ ap registers_of (sym (drop_given m k h)))
    ∙ a

-- ---- the map of eight ----

-- one register more
pub map_more : (n : ℕ) (rs : List Low) (r : Low) → length rs < n → slice_set (map_of n rs) (length rs) (Some r) ≡ map_of n (rs ++ r ∷ [])
map_more zero rs r h = absurd (omega arith)
map_more (suc n) [] r h = refl
map_more (suc n) (x ∷ xs) r h = ap (λ os. Some x ∷ os) (map_more n xs r (omega arith))

pub map_registers : (n : ℕ) (rs : List Low) → length rs ≤ n → registers_of (map_of n rs) ≡ rs
map_registers zero [] h = refl
map_registers zero (r ∷ rs) h = absurd (omega arith)
map_registers (suc n) [] h = map_registers n [] (omega arith)
map_registers (suc n) (r ∷ rs) h = ap (λ xs. r ∷ xs) (map_registers n rs (omega arith))

-- those of a map that has no others
pub some_registers : (rs : List Low) → registers_of (map Some rs) ≡ rs
some_registers [] = refl
some_registers (r ∷ rs) = ap (λ xs. r ∷ xs) (some_registers rs)
