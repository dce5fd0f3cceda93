-- Where a rule applies, by places that stay.
use Rattle.std.specs.Prelude.{◌≡◌, ◌↔◌, ℕ, suc, ◌+◌, ◌-◌, ◌<◌, ◌≤◌, Bool, true, false, List, length, map, take, Some, slice_get, ◌⊎◌}
use Rattle.kept_places.specs.Marks.{is_gone, rank}
use Rattle.thumb_instr.specs.declared.instr.Instr.{Instr}
use Rattle.thumb_instr.specs.Window.{Low, renamed, item_under, is_in_window}
use Rattle.thumb_model.specs.Effect.{one_of, IsOneToOne, register_count, normalised}
use Rattle.thumb_model.specs.Listing.{plain, Label, Code, is_code}
use Rattle.thumb_model.specs.Flow.{Reads}
use Rattle.thumb_model.specs.Replaced.{move_label, replaced}
use Rattle.rule_model.specs.Rules.{Rule, rule_registers, Applies}
use Rattle.rule_model.specs.Rewriting.{IsLeastScratch}
use Rattle.padded_code.specs.Padding.{IsPadded}
use Rattle.padded_code.specs.Windows.{AreRanked}

-- the rule fits at the kept places ps, the first of which is p, of rank r, and the last q
pub record FitsAt (rule : Rule) (registers : List Low) (padded code : Code) (r p q : ℕ) (ps : List ℕ) : Type 0 where
  pub as_many : length registers ≡ rule_registers rule
  pub one_to_one : IsOneToOne registers
  pub window : List Instr
  pub stands : map (slice_get padded.places) ps ≡ map Some (map plain window)
  pub matches : map normalised window ≡ map (renamed registers) rule.left
  pub unlabelled : (k : ℕ) (l : Label) → slice_get padded.labels k ≡ Some l → (l.place ≤ p) ⊎ (q < l.place)
  pub live : (x : ℕ) → Reads padded x (suc q) → (one_of x (map (item_under registers) rule.mask) ≡ true) ⊎ ((x < 15) × (one_of x (map (λ r. r.number) registers) ≡ false))
  pub labels_stay : (k : ℕ) (l : Label) → slice_get code.labels k ≡ Some l → is_code code.places l ≡ true → is_code (replaced code r (length rule.left) (map (renamed registers) rule.right)).places (move_label r (length rule.left - length rule.right) l) ≡ true

-- a window of n kept places of the padded code, from the rank r on: p is the first and q the last, where an instruction of windows stands
pub record IsWindow (gone : List Bool) (padded : Code) (r n p q : ℕ) (ps : List ℕ) : Type 0 where
  pub as_many : length ps ≡ n
  pub ranked : AreRanked gone r ps
  pub first_kept : is_gone gone p ≡ false
  pub first : rank gone p ≡ r
  pub last_kept : is_gone gone q ≡ false
  pub last : suc (rank gone q) ≡ r + n
  pub instr : Instr
  pub last_stands : slice_get padded.places q ≡ Some (plain instr)
  pub last_goes_on : is_in_window instr ≡ true

-- a rule applies in the code exactly where it fits in the padded one
abbrev pub AppliesByPlaces : Type 0
AppliesByPlaces =
    (gone : List Bool) (padded code : Code) → IsPadded gone padded code → length gone ≡ length padded.places → (rule : Rule) (registers : List Low) (r p q : ℕ) (ps : List ℕ) →
    IsWindow gone padded r (length rule.left) p q ps → Applies rule registers code r ↔ FitsAt rule registers padded code r p q ps

-- the scratch register of a rule that fits at places the last of which is q, where the map has one, is the least that is free
abbrev pub IsLeastScratchAt : Rule → List Low → Code → ℕ → Type 0
IsLeastScratchAt rule registers padded q = (scratch : Low) → slice_get registers (register_count rule.left) ≡ Some scratch → (x : ℕ) → x < scratch.number →
    (one_of x (map (λ r. r.number) (take (register_count rule.left) registers)) ≡ true) ⊎ Reads padded x (suc q)

-- it is the least in the code exactly where it is in the padded one
abbrev pub LeastByPlaces : Type 0
LeastByPlaces =
    (gone : List Bool) (padded code : Code) → IsPadded gone padded code → length gone ≡ length padded.places → (rule : Rule) (registers : List Low) (r p q : ℕ) (ps : List ℕ) →
    IsWindow gone padded r (length rule.left) p q ps → IsLeastScratch rule registers code r ↔ IsLeastScratchAt rule registers padded q
