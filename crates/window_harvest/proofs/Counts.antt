-- How many registers a canonical form names: as many as its window.
use Rattle.std.proofs.Common.{◌≡◌, ℕ, zero, suc, ◌-◌, ◌<◌, ◌≤◌, ◌==◌, Bool, true, false, inl, inr, List, [], ◌∷◌, ◌++◌, length, map, Option, Some, None, refl, sym, ap, ◌∙◌, subst, arith, eqb-true}
use Rattle.std.specs.Prelude.{slice_get, if◌then◌else◌}
use Rattle.std.specs.List.{flat_map, list_all}
use Rattle.std.specs.Option.{option_map}
use Rattle.std.proofs.lemmas.Bool.{or_from}
use Rattle.std.proofs.lemmas.Bool.Decides.{leb_tells}
use Rattle.std.proofs.lemmas.List.{length-map}
use Rattle.std.proofs.lemmas.Option.{slice_get-map}
use Rattle.thumb_instr.specs.declared.instr.Instr.{Instr}
use Rattle.thumb_instr.specs.Window.{is_in_window, normal_of, Low, named, renamed, AreBelow, item_under, number_or}
use Rattle.thumb_instr.proofs.RenamingLemmas.{below_parts}
use Rattle.thumb_model.specs.Effect.{above, register_count}
use Rattle.rule_table.specs.Canonical.{has, with_first, firsts, numbers_of, appearing, IsRenamable, IsCanonical}
use Rattle.std.proofs.lemmas.Bool.{or_parts}
use Rattle.rule_table.proofs.Distinct.{AreDistinct, firsts_distinct, has_append}
use Rattle.window_harvest.proofs.Once.{name_at}
use Rattle.window_harvest.proofs.Pairs.{seq_in_window}
use Rattle.thumb_model.proofs.Small.{below_append}
use Rattle.rule_model.proofs.Alone.{above_most}
use Rattle.thumb_instr.proofs.Shared.{named_all}
use Rattle.rule_table.proofs.Shared.{has_at}

-- ---- counts and bounds ----

count_least : (k : ℕ) (is : List Instr) → AreBelow k (flat_map named is) → register_count is ≤ k
count_least k [] h = omega arith
count_least k (i ∷ is) h = let p = below_parts k (named i) (flat_map named is) h in omega (arith, above_most k (named i) p.0, count_least k is p.1)

above_below : (k : ℕ) (xs : List ℕ) → above xs ≤ k → AreBelow k xs
above_below k [] h = tt
above_below k (x ∷ xs) h = (omega arith, above_below k xs (omega arith))

count_below : (k : ℕ) (is : List Instr) → register_count is ≤ k → AreBelow k (flat_map named is)
count_below k [] h = tt
count_below k (i ∷ is) h = below_append k (named i) (flat_map named is) (above_below k (named i) (omega arith)) (count_below k is (omega arith))

-- ---- the last register of the order ----

-- registers below a place in the order aren't renamed to the register there
none_there : (f : List Low) (j m r : ℕ) (xs : List ℕ) → AreDistinct (numbers_of f) → slice_get (numbers_of f) j ≡ Some r → m ≤ j → j < length f → AreBelow m xs → has (map (item_under f) xs) r ≡ false
none_there f j m r [] d e h l a = refl
none_there f j m r (x ∷ xs) d e h l a = or_from (item_under f x == r) (has (map (item_under f) xs) r) (go (slice_get f x) refl (item_under f x == r) refl) (none_there f j m r xs d e h l a.1)
  where
    some_at : (ys : List Low) (i : ℕ) → i < length ys → slice_get ys i ≡ None → ⊥
    some_at [] i h e = omega arith
    some_at (y ∷ ys) zero h e = cc
    some_at (y ∷ ys) (suc i) h e = some_at ys i (omega arith) e

    go : (o : Option Low) → slice_get f x ≡ o → (b : Bool) → (number_or o x == r) ≡ b → (number_or o x == r) ≡ false
    go o g false t = t
    go None g true t = absurd (let low = a.0 in some_at f x (omega arith) g)
    go (Some y) g true t =
        let there : slice_get (numbers_of f) x ≡ Some r = slice_get-map (λ (z : Low). z.number) f x ∙ ap (option_map (λ (z : Low). z.number)) g ∙ ap Some (eqb-true y.number r t) in
        let low = a.0 in
        absurd (omega (arith, name_at (numbers_of f) x r d there, name_at (numbers_of f) j r d e))

-- what appears first appears
none_appears : (seen rs : List ℕ) (x : ℕ) → has seen x ≡ false → has rs x ≡ false → has (firsts seen rs) x ≡ false
unfolding firsts
none_appears seen [] x a b = a
none_appears seen (r ∷ rs) x a b = none_appears (with_first seen r) rs x (go (has seen r)) (or_parts (r == x) (has rs x) b).1
  where
    go : (t : Bool) → has (if t then seen else seen ++ r ∷ []) x ≡ false
    go true = a
    go false = has_append seen (r ∷ []) x ∙ or_from (has seen x) (has (r ∷ []) x) a (or_from (r == x) false (or_parts (r == x) (has rs x) b).0 refl)

-- a canonical form names each register of its map
not_fewer : (f : List Low) (seq normals : List Instr) → list_all is_in_window seq ≡ true → map (renamed f) seq ≡ normals → numbers_of f ≡ appearing normals → register_count seq < length f → ⊥
not_fewer f seq normals w under order h = go (slice_get f j) refl
  where
    j : ℕ
    j = length f - 1

    some_at : (ys : List Low) (i : ℕ) → i < length ys → slice_get ys i ≡ None → ⊥
    some_at [] i h e = omega arith
    some_at (y ∷ ys) zero h e = cc
    some_at (y ∷ ys) (suc i) h e = some_at ys i (omega arith) e

    go : (o : Option Low) → slice_get f j ≡ o → ⊥
    go None e = some_at f j (omega arith) e
    go (Some y) e =
        let there : slice_get (numbers_of f) j ≡ Some y.number = slice_get-map (λ (z : Low). z.number) f j ∙ ap (option_map (λ (z : Low). z.number)) e in
        let distinct : AreDistinct (numbers_of f) = subst AreDistinct (sym order) (firsts_distinct [] (flat_map named normals) tt) in
        let yes : has (appearing normals) y.number ≡ true = ap (λ ns. has ns y.number) (sym order) ∙ has_at (numbers_of f) j y.number there in
        let names : flat_map named normals ≡ map (item_under f) (flat_map named seq) = ap (flat_map named) (sym under) ∙ named_all f seq w in
        let absent : has (flat_map named normals) y.number ≡ false =
        ap (λ ns. has ns y.number) names
        ∙ none_there f j (register_count seq) y.number (flat_map named seq) distinct there (omega arith) (omega arith) (count_below (register_count seq) seq (omega arith)) in
        let no : has (appearing normals) y.number ≡ false = none_appears [] (flat_map named normals) y.number refl absent in
        cc

pub counted : (window : List Instr) (items : ℕ) (seq : List Instr) (given : List (Option Low)) (mask : ℕ) → IsRenamable window → IsCanonical window items seq given mask → length given ≡ register_count seq
counted window items seq given mask r c =
    let n = length c.registers in
    let many : length given ≡ n = ap length c.is_given ∙ length-map c.registers Some in
    let most : register_count seq ≤ n = count_least n seq c.below in
    elim (leb_tells n (register_count seq)) [
      | inl h ↦ omega (arith, many, most, h.1)
      | inr h ↦ absurd (not_fewer c.registers seq (map normal_of window) (seq_in_window window items seq given mask r c) c.under c.order (omega (arith, h.1)))
    ]
