-- A left side in a window: its names, and the registers of the map in order.
use Rattle.std.proofs.Common.{◌≡◌, ℕ, zero, suc, ◌<◌, true, List, [], ◌∷◌, length, map, drop, Some, refl, sym, ap, ◌∙◌, subst, arith}
use Rattle.std.specs.Prelude.{slice_get}
use Rattle.std.specs.List.{flat_map, list_all}
use Rattle.std.proofs.lemmas.List.{length-map}
use Rattle.thumb_instr.specs.declared.instr.Instr.{Instr}
use Rattle.thumb_instr.specs.Window.{is_in_window, normal_of, Low, named, renamed, AreBelow, item_under, number_or}
use Rattle.rule_model.specs.Rules.{Rule, IsSoundRule}
use Rattle.thumb_model.specs.Effect.{IsOneToOne, AreOver, register_count, normalised}
use Rattle.seq_enum.specs.Alphabet.{numbers_from}
use Rattle.rule_table.specs.Canonical.{firsts, numbers_of, appearing}
use Rattle.table_audit.specs.Shorter.{IsCanonicalSide, named_count}
use Rattle.table_audit.proofs.Names.{count_same}
use Rattle.table_audit.proofs.OneToOne.{firsts_mapped}
use Rattle.window_rewrite.specs.Fitting.{Stands}
use Rattle.thumb_model.proofs.Small.{below_append as below_both}
use Rattle.thumb_instr.proofs.Shared.{named_all}

-- ---- names ----

-- instructions over so many registers name those below their count
pub names_below : (k : ℕ) (is : List Instr) → AreOver k is → AreBelow k (flat_map named is)
names_below k [] h = tt
names_below k (i ∷ is) h = below_both k (named i) (flat_map named is) h.1 (names_below k is h.2)

pub windows_over : (k : ℕ) (is : List Instr) → AreOver k is → list_all is_in_window is ≡ true
windows_over k [] h = refl
windows_over k (i ∷ is) h = rw (h.0) (windows_over k is h.2)

-- ---- the registers of a map in order ----

numbers_under : (all rest : List Low) (n : ℕ) → drop n all ≡ rest → map (item_under all) (numbers_from n (length rest)) ≡ numbers_of rest
unfolding numbers_from
numbers_under all [] n e = refl
numbers_under all (r ∷ rest) n e =
    let here : slice_get all n ≡ Some r = head_at all n r rest e in
    let tail : drop (suc n) all ≡ rest = tail_at all n r rest e in
    ap (λ o. number_or o n ∷ map (item_under all) (numbers_from (suc n) (length rest))) here ∙ ap (λ ns. r.number ∷ ns) (numbers_under all rest (suc n) tail)
  where
    head_at : (xs : List Low) (n : ℕ) (y : Low) (ys : List Low) → drop n xs ≡ y ∷ ys → slice_get xs n ≡ Some y
    head_at [] zero y ys e = absurd (cc)
    head_at [] (suc n) y ys e = absurd (cc)
    head_at (x ∷ xs) zero y ys e = let same : x ≡ y = cc in ap Some same
    head_at (x ∷ xs) (suc n) y ys e = head_at xs n y ys e

    tail_at : (xs : List Low) (n : ℕ) (y : Low) (ys : List Low) → drop n xs ≡ y ∷ ys → drop (suc n) xs ≡ ys
    tail_at [] zero y ys e = absurd (cc)
    tail_at [] (suc n) y ys e = absurd (cc)
    tail_at (x ∷ xs) zero y ys e = let same : xs ≡ ys = cc in same
    tail_at (x ∷ xs) (suc n) y ys e = tail_at xs n y ys e

-- a register of a map
pub record RegisterAt (all : List Low) (x : ℕ) : Type 0 where
  pub register : Low
  pub is : slice_get all x ≡ Some register

pub register_at : (all : List Low) (x : ℕ) → x < length all → RegisterAt all x
register_at [] x h = absurd (omega arith)
register_at (r ∷ rs) zero h = record { register = r; is = refl }
register_at (r ∷ rs) (suc x) h = let a = register_at rs x (omega arith) in record { register = a.register; is = a.is }

pub apart : (registers : List Low) → IsOneToOne registers → (x y : ℕ) → x < length registers → y < length registers → item_under registers x ≡ item_under registers y → x ≡ y
apart registers o x y h k e =
    let a = register_at registers x h in
    let b = register_at registers y k in
    o.distinct x y a.register a.is b.register b.is (sym (ap (λ t. number_or t x) a.is) ∙ e ∙ ap (λ t. number_or t y) b.is)

-- ---- the form ----

-- the map's registers are the window's, in order of first appearance
pub order : (rule : Rule) (registers : List Low) (window : List Instr) → IsSoundRule rule → IsCanonicalSide rule.left → Stands rule registers window → numbers_of registers ≡ appearing (map normal_of window)
order rule registers window s c h =
    let count : named_count rule.left ≡ length registers = sym (count_same rule.left c.in_order) ∙ sym h.as_many in
    let below : AreBelow (length registers) (flat_map named rule.left) = subst (λ k. AreBelow k (flat_map named rule.left)) (sym h.as_many) (names_below (register_count rule.left) rule.left s.left) in
    sym (numbers_under registers registers 0 refl)
    ∙ ap (λ n. map (item_under registers) (numbers_from 0 n)) (sym count)
    ∙ ap (map (item_under registers)) (sym c.in_order)
    ∙ sym (firsts_mapped (length registers) (item_under registers) (apart registers h.one_to_one) [] (flat_map named rule.left) tt below)
    ∙ ap (firsts []) (sym (named_all registers rule.left (windows_over (register_count rule.left) rule.left s.left)))
    ∙ ap appearing (sym h.matches)

pub window_count : (rule : Rule) (registers : List Low) (window : List Instr) → Stands rule registers window → length window ≡ length rule.left
window_count rule registers window h = sym (length-map window normalised) ∙ ap (λ (is : List Instr). length is) h.matches ∙ length-map rule.left (renamed registers)
