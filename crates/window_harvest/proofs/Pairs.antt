-- The pair of a spot: which windows give none, and that one window stands at a spot.
use Rattle.std.proofs.Common.{◌≡◌, ℕ, ◌≤◌, Bool, true, false, List, length, take, drop, Option, refl, sym, ap, ◌∙◌, subst, arith, ◌↔◌}
use Rattle.std.specs.List.{list_all}
use Rattle.std.proofs.lemmas.List.{length-map}
use Rattle.thumb_instr.specs.declared.instr.Instr.{Instr}
use Rattle.thumb_instr.specs.Items.{has as has_item}
use Rattle.thumb_instr.specs.Window.{is_in_window, Low}
use Rattle.thumb_model.specs.Listing.{ListingLine, places_of}
use Rattle.rule_table.specs.Canonical.{IsRenamable, IsCanonical}
use Rattle.rule_table.proofs.Backs.{windows_normal}
use Rattle.window_harvest.specs.Harvest.{Pair, Limits, WindowSpan, StandsThere, IsPairAt}
use Rattle.window_harvest.specs.Keys.{Lies}
use Rattle.window_harvest.proofs.Once.{same_words, canonical_once}
use Rattle.rule_model.proofs.Unique.{plain_same}
use Rattle.thumb_instr.proofs.Shared.{windows_back}

same_test : (a b : Bool) (P : Type 0) → (a ≡ true) ↔ P → (b ≡ true) ↔ P → a ≡ b
same_test true b P e f = sym (f.1 (e.0 refl))
same_test false true P e f = e.1 (f.0 refl)
same_test false false P e f = refl

-- at a spot stands one window, after which the same items are live
same_window : (lines : List ListingLine) (spot : WindowSpan) (w v : List Instr) (items others : ℕ) → StandsThere lines spot w items → StandsThere lines spot v others → (v ≡ w) × (others ≡ items)
same_window lines spot w v items others a b = (
  plain_same v w (sym b.is_window.stands ∙ ap (λ n. take n (drop spot.place (places_of lines))) (b.as_many ∙ sym a.as_many) ∙ a.is_window.stands),
  same_words others items (λ x. same_test (has_item others x) (has_item items x) _ (b.live x) (a.live x)),
)

-- a window without a canonical form gives no pair
pub none_given : (limits : Limits) (lines : List ListingLine) (spot : WindowSpan) (w : List Instr) (items : ℕ) → (IsRenamable w → ⊥) → StandsThere lines spot w items → (pair : Pair) → IsPairAt limits lines spot pair → ⊥
none_given limits lines spot w items n s pair p = n (subst IsRenamable (same_window lines spot w p.window items p.items s p.stands).0 p.renamable)

-- nor does one that names too many registers or isn't over their alphabet
pub none_lies : (limits : Limits) (lines : List ListingLine) (spot : WindowSpan) (w : List Instr) (items : ℕ) (seq : List Instr) (given : List (Option Low)) (mask : ℕ) → IsRenamable w → IsCanonical w items seq given mask
    → (Lies limits.regs limits.pool seq → ⊥) → StandsThere lines spot w items → (pair : Pair) → IsPairAt limits lines spot pair → ⊥
none_lies limits lines spot w items seq given mask r c n s pair p =
    let same = same_window lines spot w p.window items p.items s p.stands in
    let there : IsCanonical w items pair.seq p.registers pair.mask = subst (λ i. IsCanonical w i pair.seq p.registers pair.mask) same.1 (subst (λ (v : List Instr). IsCanonical v p.items pair.seq p.registers pair.mask) same.0 p.canonical) in
    let once = canonical_once w items seq pair.seq given p.registers mask pair.mask r.windows r.registers c there in
    n (subst (λ (v : List Instr). Lies limits.regs limits.pool v) (sym once.0) (record { few = p.few; over = p.over }))

-- a canonical form has instructions of windows alone
pub seq_in_window : (w : List Instr) (items : ℕ) (seq : List Instr) (given : List (Option Low)) (mask : ℕ) → IsRenamable w → IsCanonical w items seq given mask → list_all is_in_window seq ≡ true
seq_in_window w items seq given mask r c =
    let few : length c.registers ≤ 8 = omega (arith, r.registers, ap length c.order, length-map c.registers (λ (y : Low). y.number)) in
    windows_back c.registers (length c.registers) seq few c.below (ap (list_all is_in_window) c.under ∙ windows_normal w r.windows)
