-- An entry's rule with a value in its holes, the values of a family, and the rules that a table's numbers stand for.
use Rattle.std.proofs.Common.{◌≡◌, ℕ, zero, suc, ◌+◌, ◌-◌, ◌<◌, ◌≤◌, ◌==◌, inl, inr, true, List, [], ◌∷◌, ◌++◌, Option, Some, None, slice_get, length, map, filter, refl, sym, ◌∙◌, ap, subst, arith, nat_le, le-leb, lt-ltb, le-ltb, length-append}
use Rattle.std.specs.List.{flat_map, list_all}
use Rattle.std.specs.Option.{option_map}
use Rattle.std.proofs.lemmas.Bool.Decides.{leb_tells}
use Rattle.std.proofs.lemmas.List.{length-map}
use Rattle.std.proofs.lemmas.Option.{slice_get-map, same_Some}
use Rattle.thumb_instr.specs.declared.instr.Instr.{Instr}
use Rattle.thumb_instr.specs.declared.instr.Instr.TheVariants as instr
use Rattle.thumb_instr.specs.Window.{named, is_in_window, normal_of}
use Rattle.thumb_instr.proofs.Registers.{same_number}
use Rattle.thumb_model.specs.Effect.{Equal, AreOver, is_named, register_count}
use Rattle.rule_model.specs.Rules.{IsSoundRule, rule_registers, rule_among, rule_at, alone, AreSound}
use Rattle.rule_model.specs.Rules as model
use Rattle.rule_model.proofs.Alone.{alone_is}
use Rattle.bit_blast.specs.declared.slots.Slot.TheVariants.{Plain, Hole}
use Rattle.bit_blast.specs.Slots.{Byte, IsValue, filled, slot, slots, instance}
use Rattle.bit_blast.proofs.Holes.{by_test, slots_over, filled_over, side_length, side_named, side_window}
use Rattle.seq_enum.specs.Alphabet.{numbers_from, inside}
use Rattle.seq_enum.proofs.Numbered.{numbers_at, get_back}
use Rattle.seq_enum.proofs.Fields.{numbers, within_numbers, number_by}
use Rattle.rule_table.specs.Canonical.{appearing}
use Rattle.rule_table.specs.Table.{Rule, Family, Table}
use Rattle.lrat_check.proofs.Turns.{turn_each}
use Rattle.table_audit.specs.Shorter.{IsCanonicalSide, SidesFit}
use Rattle.table_audit.specs.Families.{entry_at, symbol_of, values_of, raised}
use Rattle.table_audit.specs.Acceptance.{EntryVerdict, IsAccepted}
use Rattle.table_audit.specs.Soundness.{items_in, rewriting_rule, instances_of, numbers_in, numbers_of, IsSound}
use Rattle.table_audit.proofs.Raising.{entry_stands}
use Rattle.common_lemmas.proofs.Lists.{get_front}

-- ---- a side with a value in its holes ----

heads : {A : Type 0} (x y : A) → x ∷ [] ≡ y ∷ [] → x ≡ y
heads x y e = cc

slot_named : (n : ℕ) (i : Instr) (x : Byte) → named (filled x (slot n i)) ≡ named i
slot_named n i x = heads (named (filled x (slot n i))) (named i) (side_named n (i ∷ []) x)

slot_window : (n : ℕ) (i : Instr) (x : Byte) → is_in_window (filled x (slot n i)) ≡ is_in_window i
slot_window n i x = heads (is_in_window (filled x (slot n i))) (is_in_window i) (side_window n (i ∷ []) x)

slot_normal : (n : ℕ) (i : Instr) (x : Byte) → normal_of i ≡ i → normal_of (filled x (slot n i)) ≡ filled x (slot n i)
slot_normal n (instr.TwoNumber o d j) x h = by_test (λ s. normal_of (filled x s) ≡ filled x s) (j.number == n) (Hole o d) (Plain (instr.TwoNumber o d j)) (λ _. refl) (λ _. refl)
slot_normal n i x h = h

-- such a side names the same registers in the same order
pub names_raised : (n : ℕ) (side : List Instr) (x : Byte) → flat_map named (instance n side x) ≡ flat_map named side
names_raised n [] x = refl
names_raised n (i ∷ is) x = rw (slot_named n i x, names_raised n is x) refl

pub appearing_raised : (n : ℕ) (side : List Instr) (x : Byte) → appearing (instance n side x) ≡ appearing side
appearing_raised n side x = rw (names_raised n side x) refl

pub count_raised : (n : ℕ) (side : List Instr) (x : Byte) → register_count (instance n side x) ≡ register_count side
count_raised n [] x = refl
count_raised n (i ∷ is) x = rw (slot_named n i x, count_raised n is x) refl

pub named_raised : (n : ℕ) (side : List Instr) (x : Byte) (register : ℕ) → is_named register (instance n side x) ≡ is_named register side
named_raised n [] x register = refl
named_raised n (i ∷ is) x register = rw (slot_named n i x, named_raised n is x register) refl

pub over_raised : (n : ℕ) (side : List Instr) (x : Byte) (k : ℕ) → AreOver k side → AreOver k (instance n side x)
over_raised n side x k h = filled_over k x (slots n side) (slots_over k n side h)

-- its instructions stand in windows where the side's do, and are normal where those are
pub windows_raised : (n : ℕ) (side : List Instr) (x : Byte) → list_all is_in_window (instance n side x) ≡ list_all is_in_window side
windows_raised n [] x = refl
windows_raised n (i ∷ is) x = rw (slot_window n i x, windows_raised n is x) refl

pub normal_raised : (n : ℕ) (side : List Instr) (x : Byte) → map normal_of side ≡ side → map normal_of (instance n side x) ≡ instance n side x
normal_raised n [] x h = refl
normal_raised n (i ∷ is) x h =
    let one : normal_of i ≡ i = cc in
    let others : map normal_of is ≡ is = cc in
    rw (slot_normal n i x one, normal_raised n is x others) refl

pub canonical_raised : (n : ℕ) (side : List Instr) (x : Byte) → IsCanonicalSide side → IsCanonicalSide (instance n side x)
canonical_raised n side x c =
    let long = side_length n side x in
    let normal = normal_raised n side x c.normal in
    let order = appearing_raised n side x in
    let own : length (appearing side) ≤ 4 = subst (λ is. length (appearing is) ≤ 4) c.normal c.renamable.registers in
    let few : length (appearing (instance n side x)) ≤ 4 = subst (λ rs. length rs ≤ 4) (sym order) own in
    record {
      renamable = record {
        some = omega (arith, long, c.renamable.some);
        few = omega (arith, long, c.renamable.few);
        windows = windows_raised n side x ∙ c.renamable.windows;
        registers = subst (λ is. length (appearing is) ≤ 4) (sym normal) few;
      };
      normal = normal;
      in_order = subst (λ rs. rs ≡ numbers_from 0 (length rs)) (sym order) c.in_order;
    }

-- ---- a rule with a value in its holes ----

-- it is sound where the entry's is, and its sides leave the same
pub raised_sound : (number : ℕ) (e : Rule) (x : Byte) → IsSoundRule (rewriting_rule e) → Equal (instance number e.left x) (instance number e.right x) (items_in e.mask)
    → IsSoundRule (rewriting_rule (raised number e x))
raised_sound number e x s equal =
    let l = count_raised number e.left x in
    let r = count_raised number e.right x in
    let both : rule_registers (rewriting_rule (raised number e x)) ≡ rule_registers (rewriting_rule e) = omega (arith, l, r) in
    record {
      few = omega (arith, both, s.few);
      near = omega (arith, both, l, s.near);
      no_longer = omega (arith, side_length number e.left x, side_length number e.right x, s.no_longer);
      left = subst (λ k. AreOver k (instance number e.left x)) (sym l) (over_raised number e.left x (register_count e.left) s.left);
      right = subst (λ k. AreOver k (instance number e.right x)) (sym both) (over_raised number e.right x (rule_registers (rewriting_rule e)) s.right);
      mask = λ y at. elim (s.mask y at) [
        | inl low ↦ inl (omega (arith, low, l))
        | inr flag ↦ inr flag
      ];
      all_named = λ y low. named_raised number e.left x y ∙ s.all_named y (omega (arith, low, l));
      equal = equal;
    }

-- ---- the values of a family ----

no_bytes : (first count : ℕ) → 256 ≤ first → filter (inside 0 256) (numbers_from first count) ≡ []
unfolding numbers_from
no_bytes first zero h = refl
no_bytes first (suc count) h =
    let low : nat_le 0 first ≡ true = le-leb 0 first (omega arith) in
    rw (low, le-ltb first 256 h) (no_bytes (suc first) count (omega arith))

all_bytes : (first count : ℕ) → first + count ≤ 256 → filter (inside 0 256) (numbers_from first count) ≡ numbers_from first count
unfolding numbers_from
all_bytes first zero h = refl
all_bytes first (suc count) h =
    rw (le-leb 0 first (omega arith), lt-ltb first 256 (omega arith)) (ap (λ ns. first ∷ ns) (all_bytes (suc first) count (omega arith)))

-- a byte of a range by its place: the first, or one of those behind it
one_behind : (first count i n : ℕ) (bytes : List ℕ) → ((j : ℕ) → slice_get bytes j ≡ Some n → (n ≡ suc first + j) × (j < count)) → slice_get (first ∷ bytes) i ≡ Some n → (n ≡ first + i) × (i < suc count)
one_behind first count zero n bytes rest e = (let is = same_Some first n e in omega (arith, is), omega arith)
one_behind first count (suc j) n bytes rest e = let r = rest j e in (omega (arith, r.0), omega (arith, r.1))

byte_at : (first count i n : ℕ) → slice_get (filter (inside 0 256) (numbers_from first count)) i ≡ Some n → (n ≡ first + i) × (i < count)
unfolding numbers_from
byte_at first zero i n e = absurd (cc)
byte_at first (suc count) i n e = elim (leb_tells 256 first) [
  | inl past ↦ (
      let none : slice_get {X = ℕ} [] i ≡ Some n = sym (ap (λ ns. slice_get ns i) (no_bytes first (suc count) past.1)) ∙ e in
      absurd (cc)
      )
  | inr low ↦ one_behind first count i n (filter (inside 0 256) (numbers_from (suc first) count)) (λ j. byte_at (suc first) count j n)
      (rw (le-leb 0 first (omega arith), lt-ltb first 256 low.1) at e)
]

-- the values in order: at a place stands the value that is so far above the least
pub values_at : (f : Family) (i : ℕ) (x : Byte) → slice_get (values_of f) i ≡ Some x → (x.number ≡ f.low + i) × IsValue (symbol_of f) x
values_at f i x at =
    let count = f.high + 1 - f.low in
    let stands = number_by (values_of f) (filter (inside 0 256) (numbers_from f.low count)) (within_numbers 0 256 (numbers_from f.low count)) i x at in
    let is = byte_at f.low count i x.number stands in
    (is.0, (omega (arith, is.0), omega (arith, is.0, is.1)))

-- each value stands there
pub value_there : (f : Family) (x : Byte) → f.high ≤ 255 → IsValue (symbol_of f) x → slice_get (values_of f) (x.number - f.low) ≡ Some x
value_there f x bytes within = go (slice_get (values_of f) (x.number - f.low)) refl
  where
    here : slice_get (numbers (values_of f)) (x.number - f.low) ≡ Some x.number
    here =
        let count = f.high + 1 - f.low in
        let all : numbers (values_of f) ≡ numbers_from f.low count = within_numbers 0 256 (numbers_from f.low count) ∙ all_bytes f.low count (omega (arith, bytes, within.0, within.1)) in
        let is : f.low + (x.number - f.low) ≡ x.number = omega (arith, within.0) in
        ap (λ ns. slice_get ns (x.number - f.low)) all ∙ numbers_at f.low count (x.number - f.low) (omega (arith, within.0, within.1)) ∙ ap Some is

    go : (o : Option Byte) → slice_get (values_of f) (x.number - f.low) ≡ o → o ≡ Some x
    go None e = let none = sym here ∙ slice_get-map (λ y. y.number) (values_of f) (x.number - f.low) ∙ ap (option_map (λ y. y.number)) e in absurd (cc)
    go (Some y) e =
        let same = sym here ∙ slice_get-map (λ y. y.number) (values_of f) (x.number - f.low) ∙ ap (option_map (λ y. y.number)) e in
        ap Some (same_number y x (sym (same_Some x.number y.number same)))

-- ---- what a table's numbers stand for ----

pub rule_at_before : (xs ys : List (List model.Rule)) (k i : ℕ) → k < length xs → rule_at (xs ++ ys) k i ≡ rule_at xs k i
rule_at_before xs ys k i h = ap (λ o. rule_among o i) (get_front xs ys k h)

pub rule_at_behind : (xs ys : List (List model.Rule)) (k i : ℕ) → length xs ≤ k → rule_at (xs ++ ys) k i ≡ rule_at ys (k - length xs) i
rule_at_behind xs ys k i h = ap (λ o. rule_among o i) (get_back xs ys k h)

-- an element of a mapped list is the image of an element of the list
from_element : {A B P : Type 0} (v : A → B) (xs : List A) (k : ℕ) (y : B) → slice_get (map v xs) k ≡ Some y → ((x : A) → slice_get xs k ≡ Some x → v x ≡ y → P) → P
from_element {A} {B} {P} v xs k y at next = go (slice_get xs k) refl (sym (slice_get-map v xs k) ∙ at)
  where
    go : (o : Option A) → slice_get xs k ≡ o → option_map v o ≡ Some y → P
    go None e h = absurd (cc)
    go (Some x) e h = next x e (same_Some (v x) y h)

-- the rule of a family's instance
pub instance_is : {P : Type 0} (f : Family) (o : Option Rule) (i : ℕ) (rule : model.Rule) → slice_get (instances_of f o) i ≡ Some rule
    → ((e : Rule) (x : Byte) → o ≡ Some e → slice_get (values_of f) i ≡ Some x → rewriting_rule (raised f.number e x) ≡ rule → P) → P
instance_is f None i rule at next = absurd (cc)
instance_is f (Some e) i rule at next = from_element (λ x. rewriting_rule (raised f.number e x)) (values_of f) i rule at (λ x there is. next e x refl there is)

-- and the instance with a value
pub instance_there : (f : Family) (e : Rule) (i : ℕ) (x : Byte) → slice_get (values_of f) i ≡ Some x → slice_get (instances_of f (Some e)) i ≡ Some (rewriting_rule (raised f.number e x))
instance_there f e i x at = slice_get-map (λ y. rewriting_rule (raised f.number e y)) (values_of f) i ∙ ap (option_map (λ y. rewriting_rule (raised f.number e y))) at

module _ (es : List Rule) (fs : List Family) where
  abbrev entries : List (List model.Rule)
  entries = alone (map rewriting_rule es)

  abbrev instances : List (List model.Rule)
  instances = map (λ f. instances_of f (entry_at es f.entry)) fs

  pub entries_length : length (alone (map rewriting_rule es)) ≡ length es
  entries_length = length-map (map rewriting_rule es) (λ r. r ∷ []) ∙ length-map es rewriting_rule

  pub numbers_length : length (numbers_in es fs) ≡ length es + length fs
  numbers_length = omega (arith, length-append entries instances, entries_length, length-map fs (λ f. instances_of f (entry_at es f.entry)))

  -- a number's rule is that of an entry, or of a family's entry with a value
  pub number_is : {P : Type 0} (k i : ℕ) (rule : model.Rule) → rule_at (numbers_in es fs) k i ≡ Some rule
      → ((e : Rule) → slice_get es k ≡ Some e → i ≡ 0 → rewriting_rule e ≡ rule → P)
      → ((f : Family) (e : Rule) (x : Byte) → length es ≤ k → slice_get fs (k - length es) ≡ Some f → entry_at es f.entry ≡ Some e → slice_get (values_of f) i ≡ Some x → rewriting_rule (raised f.number e x) ≡ rule → P)
      → P
  number_is {P} k i rule at entry family = elim (leb_tells (length es) k) [
    | inl past ↦ (
        let behind : length entries ≤ k = omega (arith, entries_length, past.1) in
        let there : rule_at instances (k - length es) i ≡ Some rule = subst (λ n. rule_at instances (k - n) i ≡ Some rule) entries_length (sym (rule_at_behind entries instances k i behind) ∙ at) in
        among (slice_get instances (k - length es)) refl there past.1
        )
    | inr low ↦ (
        let before : k < length entries = omega (arith, entries_length, low.1) in
        let own = alone_is (map rewriting_rule es) k i rule (sym (rule_at_before entries instances k i before) ∙ at) in
        from_element rewriting_rule es k rule own.0 (λ e there is. entry e there own.1 is)
        )
  ]
    where
      among : (o : Option (List model.Rule)) → slice_get instances (k - length es) ≡ o → rule_among o i ≡ Some rule → length es ≤ k → P
      among None e h past = absurd (cc)
      among (Some rules) e h past = from_element (λ f. instances_of f (entry_at es f.entry)) fs (k - length es) rules e (λ f there is.
          instance_is f (entry_at es f.entry) i rule (ap (λ rs. slice_get rs i) is ∙ h) (λ x y own value same. family f x y past there own value same))

-- ---- the rules of an accepted table ----

-- the rules of all numbers are sound where those of the entries are, and the families' sides leave the same with each value
pub numbers_sound : (t : Table) → ((k : ℕ) (e : Rule) → slice_get t.rules k ≡ Some e → IsSoundRule (rewriting_rule e))
    → ((k : ℕ) (f : Family) (e : Rule) (x : Byte) → slice_get t.families k ≡ Some f → entry_at t.rules f.entry ≡ Some e → IsValue (symbol_of f) x → Equal (instance f.number e.left x) (instance f.number e.right x) (items_in e.mask))
    → AreSound (numbers_of t)
numbers_sound t entry family k i rule at = number_is t.rules t.families k i rule at
    (λ e there first is. subst IsSoundRule is (entry k e there))
    (λ f e x past there own value is. entry_stands t.rules f.entry e own (λ j stands.
    subst IsSoundRule is (raised_sound f.number e x (entry j e stands) (family (k - length t.rules) f e x there own (values_at f i x value).1))))

sides_at : (t : Table) (i : ℕ) (e : Rule) → IsAccepted t → slice_get t.rules i ≡ Some e → SidesFit t e
unfolding EntryVerdict
sides_at t i e p at = (turn_each (EntryVerdict t) 1 t.rules i e p.1.1.0 at).0

-- a rule's left side is canonical and no longer than the header's longest
abbrev IsFitLeft : Table → model.Rule → Type 0
IsFitLeft t rule = IsCanonicalSide rule.left × (length rule.left ≤ t.header.left)

left_fits : (t : Table) (k i : ℕ) (rule : model.Rule) → IsAccepted t → rule_at (numbers_of t) k i ≡ Some rule → IsFitLeft t rule
left_fits t k i rule p at = number_is t.rules t.families k i rule at
    (λ e there first is. let sides = sides_at t k e p there in subst (IsFitLeft t) is (sides.canonical, sides.short))
    (λ f e x past there own value is. entry_stands t.rules f.entry e own (λ j stands.
    let sides = sides_at t j e p stands in
    let short : length (instance f.number e.left x) ≤ t.header.left = omega (arith, side_length f.number e.left x, sides.short) in
    subst (IsFitLeft t) is (canonical_raised f.number e.left x sides.canonical, short)))

-- each rule that a number of an accepted table stands for
pub numbers_fit : (t : Table) → IsAccepted t → IsSound t → (k i : ℕ) (rule : model.Rule) → rule_at (numbers_of t) k i ≡ Some rule → IsSoundRule rule × IsCanonicalSide rule.left × (length rule.left ≤ t.header.left)
numbers_fit t p s k i rule at = let left = left_fits t k i rule p at in (s.sound k i rule at, left.0, left.1)
