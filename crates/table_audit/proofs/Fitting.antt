-- The code's test of an entry's sides is the definition `SidesFit`.
use Rattle.std.proofs.Common.{◌≡◌, ℕ, suc, ◌≤◌, ◌↔◌, IsTrue, List, [], ◌∷◌, Option, Some, None, map, length, refl, sym, ◌∙◌, ap, subst, arith, All, Contains}
use Rattle.std.specs.Option.{is_some}
use Rattle.std.proofs.lemmas.Option.{slice_get-get_or}
use Rattle.thumb_instr.specs.declared.instr.Instr.{Instr}
use Rattle.thumb_instr.specs.Window.{normal_of}
use Rattle.thumb_model.specs.Effect.{AreOver}
use Rattle.seq_enum.specs.Alphabet.{IsPlace, alphabet, sequences, IsOver}
use Rattle.rule_table.specs.Canonical.{appearing}
use Rattle.rule_table.specs.Table.{Rule, Table}
use Rattle.table_audit.specs.Shorter.{named_count, alphabet_registers, IsCanonicalSide, SidesFit}
use Rattle.table_audit.specs.Canonical.{HasFormula}
use Rattle.table_audit.specs.Orders.{IsInOrder, AreWithin}
use Rattle.seq_enum.proofs.Shared.{over_sequences}
use Rattle.table_audit.proofs.Numbering.{has_number}
use Rattle.fingerprints.proofs.Members.{IsMember, member}

-- a sequence has a number exactly where each instruction is one of the alphabet
pub has_place : (k : ℕ) (pool : List ℕ) (s : List Instr) (p : Option ℕ) → length s ≤ 5 → IsPlace p (sequences k pool) s → IsTrue (is_some p) ↔ IsOver k pool s
has_place k pool s None short place = (λ h. absurd (cc), λ over. (let at = has_number k pool s short over in let no : None ≡ Some at.0 = place.found at.0 at.1 in absurd (cc)))
has_place k pool s (Some q) short place = (λ h. over_sequences k pool q s (place.stands q refl), λ over. refl)

-- ---- instructions, one after the other ----

over_rest : {X : Type 0} (P : X → Type 0) (x : X) (xs : List X) → All P (x ∷ xs) → P x × All P xs
over_rest P x xs all = (all 0 x (omega arith), λ i d low. all (suc i) d (omega arith))

is_member : (k : ℕ) (pool : List ℕ) (i : Instr) → k ≤ 8 → Contains (alphabet k pool) i → IsMember k i
is_member k pool i few has = member k pool has.0 i few (slice_get-get_or (alphabet k pool) has.0 i has.1 ∙ ap Some has.2)

pub are_over : (k : ℕ) (pool : List ℕ) (s : List Instr) → k ≤ 8 → IsOver k pool s → AreOver k s
are_over k pool [] few over = tt
are_over k pool (i ∷ is) few over =
    let parts = over_rest (Contains (alphabet k pool)) i is over in
    let l = is_member k pool i few parts.0 in
    (l.window, l.below, are_over k pool is few parts.1)

pub are_normal : (k : ℕ) (pool : List ℕ) (s : List Instr) → k ≤ 8 → IsOver k pool s → map normal_of s ≡ s
are_normal k pool [] few over = refl
are_normal k pool (i ∷ is) few over =
    let parts = over_rest (Contains (alphabet k pool)) i is over in
    let l = is_member k pool i few parts.0 in
    let rest = are_normal k pool is few parts.1 in
    let one = l.normal in
    cc

-- ---- the whole ----

pub canonical : (k : ℕ) (pool : List ℕ) (s : List Instr) → k ≤ 8 → length s ≤ 5 → IsInOrder s → IsOver k pool s → IsCanonicalSide s
canonical k pool s few short o over =
    let normal = are_normal k pool s few over in
    record {
      renamable = record { some = o.some; few = short; windows = o.windows; registers = rw normal o.few };
      normal = normal;
      in_order = o.in_order;
    }

pub ordered_of : (s : List Instr) → IsCanonicalSide s → IsInOrder s
ordered_of s c = record { some = c.renamable.some; windows = c.renamable.windows; in_order = c.in_order; few = subst (λ is. length (appearing is) ≤ 4) c.normal c.renamable.registers }

pub formula_fits : (t : Table) (e : Rule) → SidesFit t e → HasFormula t.header e
formula_fits t e f =
    let k = named_count e.left in
    let few : k ≤ 8 = omega (arith, (ordered_of e.left f.canonical).few) in
    record {
      canonical = f.canonical;
      left = are_over k t.header.pool e.left few f.left;
      right = are_over (alphabet_registers t.header e.left) t.header.pool e.right (omega arith) f.right;
      mask = f.mask;
    }

-- the test of sides, where the left side's registers are in order
pub fits : (t : Table) (e : Rule) (k registers : ℕ) → length e.left ≤ 5 → IsInOrder e.left → k ≡ named_count e.left → registers ≡ alphabet_registers t.header e.left
    → AreWithin t e k registers ↔ SidesFit t e
fits t e k registers short o is these = (forth, back)
  where
    few : named_count e.left ≤ 8
    few = omega (arith, o.few)

    forth : AreWithin t e k registers → SidesFit t e
    forth w =
        let v : AreWithin t e (named_count e.left) (alphabet_registers t.header e.left) = subst (AreWithin t e (named_count e.left)) these (subst (λ j. AreWithin t e j registers) is w) in
        record {
          canonical = canonical (named_count e.left) t.header.pool e.left few short o v.left;
          short = v.short;
          few = v.few;
          left = v.left;
          right = v.right;
          no_longer = v.no_longer;
          no_dearer = v.no_dearer;
          mask = v.mask;
        }

    back : SidesFit t e → AreWithin t e k registers
    back f = subst (λ j. AreWithin t e j registers) (sym is) (subst (AreWithin t e (named_count e.left)) (sym these) (record { short = f.short; few = f.few; left = f.left; right = f.right; no_longer = f.no_longer; no_dearer = f.no_dearer; mask = f.mask }))
