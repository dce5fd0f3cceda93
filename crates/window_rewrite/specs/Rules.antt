-- The rules of a table, and how they are found by their left sides.
use Rattle.std.specs.Prelude.{◌≡◌, ℕ, suc, ◌+◌, ◌*◌, ◌%◌, ◌==◌, ◌<◌, ◌≤◌, ◌&&◌, Bool, true, false, List, [], ◌∷◌, length, map, replicate, take, drop, nat_lt, Option, Some, None, slice_get, if◌then◌else◌}
use Rattle.std.specs.List.{list_any}
use Rattle.thumb_instr.specs.declared.instr.Instr.{Instr}
use Rattle.rule_model.specs.Rules.{Rule, alone, rule_at, IsSoundRule}
use Rattle.seq_enum.specs.Costs.{weight_under}
use Rattle.rule_model.specs.Rewriting.{left_length_of}
use Rattle.thumb_model.specs.Effect.{register_count}
use Rattle.rule_table.specs.declared.table.Entry.{Entry}
use Rattle.rule_table.specs.Views.{rule_of}
use Rattle.rule_table.specs.Table as tables
use Rattle.table_audit.specs.Families.{entry_at, is_hole}
use Rattle.table_audit.specs.Soundness.{instances_of, rewriting_rule}
use Rattle.table_audit.specs.Shorter.{IsCanonicalSide}
use Rattle.window_rewrite.specs.declared.chains.Chains.{Chains}
use Rattle.window_rewrite.specs.declared.index.RuleIndex.{RuleIndex}
use Rattle.window_rewrite.specs.declared.left_side_hashes.LeftSideHashes.{LeftSideHashes}
use Rattle.window_rewrite.specs.declared.shadows.KeptEntries.{KeptEntries}
use Rattle.window_rewrite.specs.Forms.{form_of}
use Rattle.window_rewrite.specs.Hashes.{blind, hash_of}

abbrev pub entry_rule : Entry → Rule
entry_rule e = rewriting_rule (rule_of e)

abbrev pub rules_in : List Entry → List Rule
rules_in entries = map rewriting_rule (map rule_of entries)

-- a rule of an accepted table: sound, and its left side is its own canonical form and not too long
pub record IsFit (longest : ℕ) (rule : Rule) : Type 0 where
  pub sound : IsSoundRule rule
  pub canonical : IsCanonicalSide rule.left
  pub short : length rule.left ≤ longest

abbrev pub AreFit : ℕ → List (List Rule) → Type 0
AreFit longest table = (k i : ℕ) (rule : Rule) → rule_at table k i ≡ Some rule → IsFit longest rule

-- the rule with other numbers of sequences that it leaves open, at which rewriting doesn't look
abbrev pub with_open : Rule → List ℕ → Rule
with_open r numbers = record r { open_numbers = numbers }

-- ---- families ----

-- the instances of each family
abbrev pub families_in : List tables.Rule → List tables.Family → List (List Rule)
families_in es fs = map (λ f. instances_of f (entry_at es f.entry)) fs

-- a family's entry is there, its range is one of bytes, and the left side has a hole for its number
pub record IsRaised (es : List tables.Rule) (f : tables.Family) : Type 0 where
  pub entry : tables.Rule
  pub is_entry : entry_at es f.entry ≡ Some entry
  pub bytes : f.high ≤ 255
  pub held : list_any (is_hole f.number) entry.left ≡ true

abbrev pub AreRaised : List tables.Rule → List tables.Family → Type 0
AreRaised es fs = (k : ℕ) (f : tables.Family) → slice_get fs k ≡ Some f → IsRaised es f

-- the rule of the entry that a family raises: its left side is as long as those of the instances
abbrev pub raised_rule : Option tables.Rule → Rule
raised_rule None = record { left = []; right = []; mask = []; open_numbers = [] }
raised_rule (Some e) = rewriting_rule e

-- the hash of the entry's left side with 0 for 8-bit numbers, and that of each family
abbrev pub raised_form : Option tables.Rule → ℕ
raised_form None = 0
raised_form (Some e) = form_of (map blind e.left)

abbrev pub raised_forms : List tables.Rule → List tables.Family → List ℕ
raised_forms es fs = map (λ f. raised_form (entry_at es f.entry)) fs

abbrev pub raised_rules : List tables.Rule → List tables.Family → List Rule
raised_rules es fs = map (λ f. raised_rule (entry_at es f.entry)) fs

-- ---- lengths ----

-- how long the left side of the rule of a number is
abbrev pub side_length : List Rule → ℕ → ℕ
side_length rules k = left_length_of (slice_get rules k)

-- its right side weighs less than its left side
abbrev pub is_lighter : Option (List ℕ) → Rule → Bool
is_lighter costs r = nat_lt (weight_under costs r.right) (weight_under costs r.left)

-- its right side names a register that its left side doesn't
abbrev pub needs_scratch : Rule → Bool
needs_scratch r = nat_lt (register_count r.left) (register_count r.right)

-- ---- marks ----

abbrev pub is_true : Option Bool → Bool
is_true None = false
is_true (Some b) = b

abbrev pub is_marked : List Bool → ℕ → Bool
is_marked marks k = is_true (slice_get marks k)

-- the hashes of a side's prefixes of up to `count` instructions are marked
abbrev pub AreMarked : List Bool → List Instr → ℕ → Type 0
AreMarked marks side count = (at : ℕ) → at < count → is_marked marks (hash_of (take (suc at) side)) ≡ true

-- a side is marked
pub record IsNoted (marks : LeftSideHashes) (side : List Instr) : Type 0 where
  pub whole : is_marked marks.wholes.items (hash_of side) ≡ true
  pub fronts : AreMarked marks.fronts.items side (length side)

-- there is a mark for each hash
pub record AreMany (marks : LeftSideHashes) : Type 0 where
  pub wholes : length marks.wholes.items ≡ 65536
  pub fronts : length marks.fronts.items ≡ 65536

-- what was marked still is
pub record StayNoted (old new : LeftSideHashes) : Type 0 where
  pub wholes : (q : ℕ) → is_marked old.wholes.items q ≡ true → is_marked new.wholes.items q ≡ true
  pub fronts : (q : ℕ) → is_marked old.fronts.items q ≡ true → is_marked new.fronts.items q ≡ true

-- a rule's left side, and that with 0 for 8-bit numbers
abbrev pub left_side : Rule → List Instr
left_side r = r.left

abbrev pub blind_side : Rule → List Instr
blind_side r = map blind r.left

-- of the first n numbers of a table these sides of all rules whose right sides weigh less are marked
pub record AreNoted (costs : Option (List ℕ)) (side : Rule → List Instr) (table : List (List Rule)) (n : ℕ) (marks : LeftSideHashes) : Type 0 where
  pub many : AreMany marks
  pub noted : (k i : ℕ) (rule : Rule) → k < n → rule_at table k i ≡ Some rule → is_lighter costs rule ≡ true → IsNoted marks (side rule)

-- ---- shadows ----

-- they have one left side and one mask, and right sides of one length, and the first needs a scratch register only where the other does
pub record AreAlike (a b : Rule) : Type 0 where
  pub left : a.left ≡ b.left
  pub mask : a.mask ≡ b.mask
  pub as_long : length a.right ≡ length b.right
  pub no_more : needs_scratch a ≡ true → needs_scratch b ≡ true

-- the k-th rule is kept or shadowed: a kept rule that comes no later is alike, and its right side weighs less
pub record IsLed (costs : Option (List ℕ)) (rules : List Rule) (kept : List Bool) (k : ℕ) (rule : Rule) : Type 0 where
  pub leader : ℕ
  pub no_later : leader ≤ k
  pub is_kept : is_marked kept leader ≡ true
  pub other : Rule
  pub at : slice_get rules leader ≡ Some other
  pub lighter : is_lighter costs other ≡ true
  pub alike : AreAlike other rule

-- so it is for each of the first n rules whose right side weighs less
abbrev pub AreLed : Option (List ℕ) → List Rule → List Bool → ℕ → Type 0
AreLed costs rules kept n = (k : ℕ) (rule : Rule) → k < n → slice_get rules k ≡ Some rule → is_lighter costs rule ≡ true → IsLed costs rules kept k rule

-- which of the first n rules are kept: only such whose right sides weigh less; chains lead from the last of them back to earlier ones
pub record AreKept (costs : Option (List ℕ)) (rules : List Rule) (n : ℕ) (k : KeptEntries) : Type 0 where
  pub many : length k.kept.items ≡ length rules
  pub many_lasts : length k.lasts.items ≡ length rules
  pub many_earlier : length k.earlier.items ≡ length rules
  pub lasts : (q j : ℕ) → slice_get k.lasts.items q ≡ Some (Some j) → (j < n) × (is_marked k.kept.items j ≡ true)
  pub earlier : (q j : ℕ) → slice_get k.earlier.items q ≡ Some (Some j) → (j < q) × (is_marked k.kept.items j ≡ true)
  pub lighter : (j : ℕ) (rule : Rule) → slice_get rules j ≡ Some rule → is_marked k.kept.items j ≡ true → is_lighter costs rule ≡ true
  pub led : AreLed costs rules k.kept.items n

-- ---- rules by hashes ----

-- the hashes of left sides
abbrev pub left_forms : List Rule → List ℕ
left_forms rules = map (λ r. form_of r.left) rules

-- how many chains there are for so many rules
abbrev pub chain_count : ℕ → ℕ
chain_count rules = 4 * rules + 1

-- the chain of a rule with the hash `form`, where the rules have the hashes `forms`; and the chains of all these rules
abbrev pub chain_of : List ℕ → ℕ → ℕ
chain_of forms form = form % chain_count (length forms)

abbrev pub chains_of : List ℕ → List ℕ
chains_of forms = map (chain_of forms) forms

-- the first rule that is kept and is in this chain, where they are counted from n on
abbrev pub first_with : List Bool → ℕ → ℕ → List ℕ → Option ℕ
first_with kept chain n [] = None
first_with kept chain n (c ∷ cs) = if is_marked kept n && c == chain then Some n else first_with kept chain (n + 1) cs

-- of each chain the first rule that is kept from the n-th on, and of each of these rules the next one
abbrev pub AreFirsts : List ℕ → List Bool → List (Option ℕ) → ℕ → Type 0
AreFirsts chains kept firsts n = (chain : ℕ) (first : Option ℕ) → slice_get firsts chain ≡ Some first → first ≡ first_with kept chain n (drop n chains)

abbrev pub AreNexts : List ℕ → List Bool → List (Option ℕ) → ℕ → Type 0
AreNexts chains kept nexts n = (k chain : ℕ) (next : Option ℕ) → n ≤ k → slice_get chains k ≡ Some chain → is_marked kept k ≡ true → slice_get nexts k ≡ Some next → next ≡ first_with kept chain (k + 1) (drop (k + 1) chains)

-- the chains of the rules from the n-th on, where the rules have these hashes
pub record AreChains (forms : List ℕ) (n : ℕ) (chains : Chains) : Type 0 where
  pub many_kept : length chains.kept.items ≡ length forms
  pub many_firsts : length chains.firsts.items ≡ chain_count (length forms)
  pub firsts : AreFirsts (chains_of forms) chains.kept.items chains.firsts.items n
  pub as_many : length chains.nexts.items ≡ length forms
  pub nexts : AreNexts (chains_of forms) chains.kept.items chains.nexts.items n

pub record IsIndex (costs : Option (List ℕ)) (entries : List tables.Rule) (families : List tables.Family) (index : RuleIndex) : Type 0 where
  pub marks : AreNoted costs left_side (alone (map rewriting_rule entries)) (length entries) index.marks
  pub holes : AreNoted costs blind_side (families_in entries families) (length families) index.holes
  pub led : AreLed costs (map rewriting_rule entries) index.entries.kept.items (length (map rewriting_rule entries))
  pub entry_chains : AreChains (left_forms (map rewriting_rule entries)) 0 index.entries
  pub family_chains : AreChains (raised_forms entries families) 0 index.families
  pub all : index.families.kept.items ≡ replicate (length families) true
