-- The hash that a left side shares with each window in which it stands, and what marks of such hashes exclude.
use Rattle.std.proofs.Common.{◌≡◌, ℕ, zero, suc, ◌+◌, ◌-◌, ◌*◌, ◌<◌, ◌≤◌, ◌%◌, ◌==◌, Bool, true, false, List, [], ◌∷◌, length, take, map, Option, Some, None, ◌⊎◌, refl, sym, ap, ◌∙◌, subst, arith, inl, inr}
use Rattle.std.specs.Prelude.{nat_lt, slice_get, slice_set, if◌then◌else◌}
use Rattle.std.specs.Option.{option_map}
use Rattle.std.proofs.lemmas.Bool.{cases_lt, lt-ltb}
use Rattle.std.proofs.lemmas.Option.{same_Some, slice_get_within, slice_get-map}
use Rattle.thumb_instr.specs.declared.instr.Instr.{Instr}
use Rattle.thumb_instr.specs.declared.instr.Instr.TheVariants as instr
use Rattle.thumb_instr.specs.Window.{normal_of, Low, renamed}
use Rattle.rule_model.specs.Rules.{Rule, alone, rule_among, rule_at}
use Rattle.rule_model.proofs.Alone.{alone_at, alone_is}
use Rattle.seq_enum.specs.Costs.{weight_under}
use Rattle.rule_table.specs.Table as tables
use Rattle.bit_blast.specs.Slots.{Byte, filled, instance, slot}
use Rattle.bit_blast.specs.declared.slots.Slot.TheVariants.{Plain, Hole}
use Rattle.bit_blast.proofs.Holes.{by_test}
use Rattle.table_audit.specs.Families.{entry_at, raised}
use Rattle.table_audit.specs.Soundness.{instances_of, numbers_in, rewriting_rule}
use Rattle.table_audit.proofs.Instances.{entries_length, instance_is, rule_at_before, rule_at_behind}
use Rattle.thumb_model.proofs.Lists.{length_map}
use Rattle.window_rewrite.specs.Rules.{families_in, is_marked, is_lighter, AreMany, AreMarked, AreNoted, IsIndex, IsNoted, StayNoted}
use Rattle.window_rewrite.proofs.Weights.{weight_raised}
use Rattle.window_rewrite.specs.Hashes.{blind, head_number, next_hash, seen, hash_from, hash_of}
use Rattle.window_rewrite.specs.declared.left_side_hashes.LeftSideHashes.{LeftSideHashes}
use Rattle.window_rewrite.specs.Fitting.{NoneBetween, NoneMarked, NoneReaches, NoneStands, Lightens}
use Rattle.window_rewrite.specs.declared.index.RuleIndex.{RuleIndex}
use Rattle.window_runs.specs.declared.rows.WindowPlace.{WindowPlace}
use Rattle.window_runs.specs.Runs.{before, instr_at, run}

-- ---- windows ----

head_same : (r : List Low) (i j : Instr) → j ≡ renamed r i → head_number j ≡ head_number i
head_same r i j e = ap head_number e ∙ by i
  where
    by : (i : Instr) → head_number (renamed r i) ≡ head_number i
    by (instr.Mov d m) = refl
    by i = refl

hash_next : (hash : ℕ) (i j : Instr) → head_number j ≡ head_number i → next_hash hash j ≡ next_hash hash i
hash_next hash i j e = ap (λ h. (hash * 1283 + h) % 65536) e

-- instructions under a map have the same hash
pub hash_renamed : (r : List Low) (hash : ℕ) (is js : List Instr) → js ≡ map (renamed r) is → hash_from hash js ≡ hash_from hash is
hash_renamed r hash [] [] e = refl
hash_renamed r hash [] (j ∷ js) e = absurd (cc)
hash_renamed r hash (i ∷ is) [] e = absurd (cc)
hash_renamed r hash (i ∷ is) (j ∷ js) e =
    let first : j ≡ renamed r i = cc in
    let rest : js ≡ map (renamed r) is = cc in
    ap (λ n. hash_from n js) (hash_next hash i j (head_same r i j first)) ∙ hash_renamed r (next_hash hash i) is js rest

front_map : (f : Instr → Instr) (n : ℕ) (is : List Instr) → take n (map f is) ≡ map f (take n is)
front_map f zero is = refl
front_map f (suc n) [] = refl
front_map f (suc n) (i ∷ is) = ap (λ js. f i ∷ js) (front_map f n is)

front_front : (m n : ℕ) (is : List Instr) → m ≤ n → take m (take n is) ≡ take m is
front_front zero n is h = refl
front_front (suc m) zero is h = absurd (omega arith)
front_front (suc m) (suc n) [] h = refl
front_front (suc m) (suc n) (i ∷ is) h = ap (λ js. i ∷ js) (front_front m n is (omega arith))

-- the hash of a prefix with one instruction more
front_next : (hash at : ℕ) (is : List Instr) (i : Instr) → slice_get is at ≡ Some i → hash_from hash (take (suc at) is) ≡ next_hash (hash_from hash (take at is)) i
front_next hash at [] i e = absurd (cc)
front_next hash zero (x ∷ xs) i e = let one : x ≡ i = cc in ap (next_hash hash) one
front_next hash (suc at) (x ∷ xs) i e = front_next (next_hash hash x) at xs i e

pub front_more : (hash at : ℕ) (is : List Instr) (i : Instr) → slice_get is at ≡ Some i → hash ≡ hash_of (take at is) → next_hash hash i ≡ hash_of (take (at + 1) is)
front_more hash at is i e s = ap (λ n. next_hash n i) s ∙ sym (front_next 0 at is i e) ∙ ap (λ n. hash_of (take n is)) (let one : suc at ≡ at + 1 = omega arith in one)

pub lighter_is : (costs : Option (List ℕ)) (rule : Rule) (registers : List Low) (window : List Instr) → Lightens costs rule registers window → is_lighter costs rule ≡ true
lighter_is costs rule registers window s = lt-ltb (weight_under costs rule.right) (weight_under costs rule.left) s.lighter

-- ---- marks ----

pub marked_here : (marks : List Bool) (k : ℕ) → k < length marks → is_marked (slice_set marks k true) k ≡ true
marked_here [] k h = absurd (omega arith)
marked_here (b ∷ bs) zero h = refl
marked_here (b ∷ bs) (suc k) h = marked_here bs k (omega arith)

pub marked_still : (marks : List Bool) (k q : ℕ) → is_marked marks q ≡ true → is_marked (slice_set marks k true) q ≡ true
marked_still [] k q h = h
marked_still (b ∷ bs) zero zero h = refl
marked_still (b ∷ bs) zero (suc q) h = h
marked_still (b ∷ bs) (suc k) zero h = h
marked_still (b ∷ bs) (suc k) (suc q) h = marked_still bs k q h

-- with one prefix of a side more
pub mark_more : (old new : List Bool) (side : List Instr) (at hash : ℕ) → ((q : ℕ) → is_marked old q ≡ true → is_marked new q ≡ true) → is_marked new hash ≡ true → hash ≡ hash_of (take (at + 1) side) → AreMarked old side at → AreMarked new side (at + 1)
mark_more old new side at hash kept here is a = λ b less. elim (cases_lt b at) [
  | inl l ↦ kept (hash_of (take (suc b) side)) (a b l)
  | inr ge ↦ (
      let same : suc b ≡ at + 1 = omega arith in
      ap (λ n. is_marked new (hash_of (take n side))) same ∙ ap (is_marked new) (sym is) ∙ here
      )
]

-- ---- marks of a table ----

-- what is marked stays so while marks come
pub still_noted : (old new : LeftSideHashes) (side : List Instr) → StayNoted old new → IsNoted old side → IsNoted new side
still_noted old new side stay n = record {
  whole = stay.wholes (hash_of side) n.whole;
  fronts = λ a w. stay.fronts (hash_of (take (suc a) side)) (n.fronts a w);
}

pub stay_there : (marks : LeftSideHashes) → StayNoted marks marks
stay_there marks = record { wholes = λ q h. h; fronts = λ q h. h }

-- at first, of no number of the table, all rules are marked
pub none_noted : (costs : Option (List ℕ)) (side : Rule → List Instr) (table : List (List Rule)) (marks : LeftSideHashes) → AreMany marks → AreNoted costs side table 0 marks
none_noted costs side table marks many = record { many = many; noted = λ k i rule l at s. absurd (omega (arith, l)) }

-- with one number more of a table
pub more_noted : (costs : Option (List ℕ)) (side : Rule → List Instr) (table : List (List Rule)) (n : ℕ) (rules : List Rule) (old new : LeftSideHashes) → slice_get table n ≡ Some rules → AreNoted costs side table n old → AreMany new → StayNoted old new
    → ((i : ℕ) (rule : Rule) → slice_get rules i ≡ Some rule → is_lighter costs rule ≡ true → IsNoted new (side rule)) → AreNoted costs side table (n + 1) new
more_noted costs side table n rules old new at x many stay here = record {
  many = many;
  noted = λ k i rule l there s. elim (cases_lt k n) [
    | inl m ↦ still_noted old new (side rule) stay (x.noted k i rule m there s)
    | inr m ↦ (
        let same : k ≡ n = omega arith in
        here i rule (sym (ap (λ o. rule_among o i) (ap (slice_get table) same ∙ at)) ∙ there) s
        )
  ];
}

-- the rule of an entry alone
pub one_alone : (r : Rule) (P : Rule → Type 0) → P r → (i : ℕ) (rule : Rule) → slice_get (r ∷ []) i ≡ Some rule → P rule
one_alone r P p zero rule e = subst P (same_Some r rule e) p
one_alone r P p (suc i) rule e = absurd (cc)

pub alone_there : (rules : List Rule) (n : ℕ) (rule : Rule) → slice_get rules n ≡ Some rule → slice_get (alone rules) n ≡ Some (rule ∷ [])
alone_there rules n rule at = slice_get-map (λ r. r ∷ []) rules n ∙ ap (option_map (λ r. r ∷ [])) at

-- a value in the holes makes no difference where all 8-bit numbers are 0
blind_slot : (n : ℕ) (i : Instr) (x : Byte) → blind (filled x (slot n i)) ≡ blind i
blind_slot n (instr.TwoNumber o d j) x = by_test (λ s. blind (filled x s) ≡ blind (instr.TwoNumber o d j)) (j.number == n) (Hole o d) (Plain (instr.TwoNumber o d j)) (λ _. refl) (λ _. refl)
blind_slot n i x = refl

pub blind_instance : (n : ℕ) (side : List Instr) (x : Byte) → map blind (instance n side x) ≡ map blind side
blind_instance n [] x = refl
blind_instance n (i ∷ is) x = ap (λ j. j ∷ map blind (instance n is x)) (blind_slot n i x) ∙ ap (λ js. blind i ∷ js) (blind_instance n is x)

-- the left sides of a family's instances differ in the number alone
pub family_noted : (costs : Option (List ℕ)) (f : tables.Family) (o : Option tables.Rule) (marks : LeftSideHashes) → ((e : tables.Rule) → o ≡ Some e → is_lighter costs (rewriting_rule e) ≡ true → IsNoted marks (map blind e.left))
    → (i : ℕ) (rule : Rule) → slice_get (instances_of f o) i ≡ Some rule → is_lighter costs rule ≡ true → IsNoted marks (map blind rule.left)
family_noted costs f o marks h i rule at s = instance_is f o i rule at (λ e x own value is.
    let raised_lighter : is_lighter costs (rewriting_rule (raised f.number e x)) ≡ true = ap (is_lighter costs) is ∙ s in
    let lighter : is_lighter costs (rewriting_rule e) ≡ true =
    ap (λ n. nat_lt n (weight_under costs e.left)) (sym (weight_raised costs f.number e.right x)) ∙ ap (nat_lt (weight_under costs (instance f.number e.right x))) (sym (weight_raised costs f.number e.left x)) ∙ raised_lighter in
    let own_side = h e own lighter in
    subst (λ (r : Rule). IsNoted marks (map blind r.left)) is (subst (λ (l : List Instr). IsNoted marks l) (sym (blind_instance f.number e.left x)) own_side))

-- ---- sides that stand first in a run ----

-- a side that stands in a window is as long
side_long : (hidden : Bool) (side : List Instr) (registers : List Low) (window : List Instr) → map (seen hidden) window ≡ map (renamed registers) side → length window ≡ length side
side_long hidden side registers window e =
    let count = ap (λ (is : List Instr). length is) e in
    omega (arith, count, length_map (renamed registers) side, length_map (seen hidden) window)

front_short : (n : ℕ) (is : List Instr) → length (take n is) ≤ n
front_short zero is = omega arith
front_short (suc n) [] = omega arith
front_short (suc n) (i ∷ is) = let h = front_short n is in omega arith

front_long : (n : ℕ) (is : List Instr) → length (take n is) ≤ length is
front_long zero is = omega arith
front_long (suc n) [] = omega arith
front_long (suc n) (i ∷ is) = let h = front_long n is in omega arith

front_as_long : (n : ℕ) (is : List Instr) → take n is ≡ take (length (take n is)) is
front_as_long zero is = refl
front_as_long (suc n) [] = refl
front_as_long (suc n) (i ∷ is) = ap (λ js. i ∷ js) (front_as_long n is)

-- and has the window's hash
pub side_hash : (hidden : Bool) (side : List Instr) (registers : List Low) (window : List Instr) → map (seen hidden) window ≡ map (renamed registers) side → hash_of side ≡ hash_of (map (seen hidden) window)
side_hash hidden side registers window e = sym (hash_renamed registers 0 side (map (seen hidden) window) e)

-- where a prefix of a run isn't marked, each marked side that stands first in the run is shorter
pub unreached : (marks : LeftSideHashes) (hidden : Bool) (run : List Instr) (at hash : ℕ) → hash ≡ hash_of (take (at + 1) (map (seen hidden) run)) → is_marked marks.fronts.items hash ≡ false → NoneMarked marks hidden run at
unreached marks hidden run at hash hash_is missing n side registers longer noted e =
    let marked : is_marked marks.fronts.items (hash_of (take (suc at) side)) ≡ true = noted.fronts at longer in
    let count = side_long hidden side registers (take n run) e in
    let long : suc at ≤ n = omega (arith, count, front_short n run) in
    let front : take (suc at) (map (seen hidden) run) ≡ map (renamed registers) (take (suc at) side) =
    front_map (seen hidden) (suc at) run ∙ ap (map (seen hidden)) (sym (front_front (suc at) n run long)) ∙ sym (front_map (seen hidden) (suc at) (take n run)) ∙ ap (take (suc at)) e ∙ front_map (renamed registers) (suc at) side in
    let same : hash ≡ hash_of (take (suc at) side) =
    hash_is ∙ ap (λ m. hash_of (take m (map (seen hidden) run))) (let one : at + 1 ≡ suc at = omega arith in one) ∙ hash_renamed registers 0 (take (suc at) side) (take (suc at) (map (seen hidden) run)) front in
    let bad : true ≡ false = sym marked ∙ ap (is_marked marks.fronts.items) (sym same) ∙ missing in
    absurd (cc)

-- where the hash of a prefix isn't that of a marked side, no marked side that stands first in the run is as long as the prefix
unmarked_none : (marks : LeftSideHashes) (hidden : Bool) (run : List Instr) (at hash : ℕ) → hash ≡ hash_of (take (at + 1) (map (seen hidden) run)) → is_marked marks.wholes.items hash ≡ false
    → (n : ℕ) (side : List Instr) (registers : List Low) → length side ≡ at + 1 → IsNoted marks side → map (seen hidden) (take n run) ≡ map (renamed registers) side → ⊥
unmarked_none marks hidden run at hash hash_is missing n side registers long noted e =
    let count : at + 1 ≡ length (take n run) = sym long ∙ sym (side_long hidden side registers (take n run) e) in
    let same : hash ≡ hash_of side =
    hash_is ∙ ap (λ m. hash_of (take m (map (seen hidden) run))) count ∙ ap hash_of (front_map (seen hidden) (length (take n run)) run)
    ∙ ap (λ is. hash_of (map (seen hidden) is)) (sym (front_as_long n run)) ∙ sym (side_hash hidden side registers (take n run) e) in
    let bad : true ≡ false = sym noted.whole ∙ ap (is_marked marks.wholes.items) (sym same) ∙ missing in
    absurd (cc)

-- with one instruction more
pub between_more : (marks : LeftSideHashes) (hidden : Bool) (run : List Instr) (at hash reached next : ℕ) → hash ≡ hash_of (take (at + 1) (map (seen hidden) run)) → next ≡ (if is_marked marks.wholes.items hash then at + 1 else reached)
    → NoneBetween marks hidden run reached at → NoneBetween marks hidden run next (at + 1)
between_more marks hidden run at hash reached next hash_is e none = by (is_marked marks.wholes.items hash) refl
  where
    by : (b : Bool) → is_marked marks.wholes.items hash ≡ b → NoneBetween marks hidden run next (at + 1)
    by true m = λ n side registers longer few noted s. (
        let same : next ≡ at + 1 = e ∙ ap (λ (b : Bool). if b then at + 1 else reached) m in
        absurd (omega (arith, longer, few, same)))
    by false m = λ n side registers longer few noted s. (
        let same : next ≡ reached = e ∙ ap (λ (b : Bool). if b then at + 1 else reached) m in
        elim (cases_lt at (length side)) [
          | inl l ↦ unmarked_none marks hidden run at hash hash_is m n side registers (omega (arith, l, few)) noted s
          | inr l ↦ none n side registers (omega (arith, longer, same)) l noted s
        ])

pub between_within : (marks : LeftSideHashes) (at hash reached next : ℕ) → next ≡ (if is_marked marks.wholes.items hash then at + 1 else reached) → reached ≤ at → next ≤ at + 1
between_within marks at hash reached next e h = by (is_marked marks.wholes.items hash) e
  where
    by : (b : Bool) → next ≡ (if b then at + 1 else reached) → next ≤ at + 1
    by true e = omega (arith, e)
    by false e = omega (arith, e, h)

-- where the next prefix isn't marked, no longer side stands there
pub between_all : (marks : LeftSideHashes) (hidden : Bool) (run : List Instr) (at hash reached : ℕ) → hash ≡ hash_of (take (at + 1) (map (seen hidden) run)) → is_marked marks.fronts.items hash ≡ false → NoneBetween marks hidden run reached at
    → NoneMarked marks hidden run reached
between_all marks hidden run at hash reached hash_is missing none n side registers longer noted s = elim (cases_lt at (length side)) [
  | inl l ↦ unreached marks hidden run at hash hash_is missing n side registers l noted s
  | inr l ↦ none n side registers longer l noted s
]

-- no side that stands first in the run is longer than the run
pub between_end : (marks : LeftSideHashes) (hidden : Bool) (run : List Instr) (reached at : ℕ) → length run ≤ at → NoneBetween marks hidden run reached at → NoneMarked marks hidden run reached
between_end marks hidden run reached at end none n side registers longer noted s =
    none n side registers longer (let long = side_long hidden side registers (take n run) s in omega (arith, long, front_long n run, end)) noted s

-- ---- what a run begins with ----

begun : (rows : List WindowPlace) (most : ℕ) (i : Instr) → Some i ≡ instr_at true rows → (run true most rows ≡ []) ⊎ (slice_get (run true most rows) 0 ≡ Some i)
begun rows zero i e = inl refl
begun [] (suc most) i e = absurd (cc)
begun (r ∷ rs) (suc most) i e = inr (ap (λ o. slice_get (before o (run false most rs)) 0) (sym e))

not_begun : (rows : List WindowPlace) (most : ℕ) → None ≡ instr_at true rows → run true most rows ≡ []
not_begun rows zero e = refl
not_begun [] (suc most) e = refl
not_begun (r ∷ rs) (suc most) e = ap (λ o. before o (run false most rs)) (sym e)

-- where no run begins, no left side stands first in it
pub none_without : (costs : Option (List ℕ)) (table : List (List Rule)) (rows : List WindowPlace) → None ≡ instr_at true rows → (most : ℕ) → NoneReaches costs table (run true most rows) 0
none_without costs table rows e most n k i rule registers some is_rule s =
    let long = side_long false rule.left registers (take n (run true most rows)) s.stands.matches in
    absurd (omega (arith, long, front_long n (run true most rows), ap (λ (js : List Instr). length js) (not_begun rows most e), some))

-- nor where no marked side begins with its first instruction
pub none_begin : (marks : LeftSideHashes) (hidden : Bool) (first : Instr) (rows : List WindowPlace) → is_marked marks.fronts.items (next_hash 0 (seen hidden first)) ≡ false → Some first ≡ instr_at true rows → (most : ℕ) → NoneMarked marks hidden (run true most rows) 0
none_begin marks hidden first rows missing e most n side registers some noted s = elim (begun rows most first e) [
  | inl l ↦ (
      let long = side_long hidden side registers (take n (run true most rows)) s in
      absurd (omega (arith, long, front_long n (run true most rows), ap (λ (js : List Instr). length js) l, some))
      )
  | inr l ↦ (
      let there : slice_get (map (seen hidden) (run true most rows)) 0 ≡ Some (seen hidden first) = slice_get-map (seen hidden) (run true most rows) 0 ∙ ap (option_map (seen hidden)) l in
      unreached marks hidden (run true most rows) 0 (next_hash 0 (seen hidden first)) (front_more 0 0 (map (seen hidden) (run true most rows)) (seen hidden first) there refl) missing n side registers some noted s
      )
]

-- ---- rules of a table ----

-- a rule that stands in a window does so too with 0 for all 8-bit numbers
blind_stands : (costs : Option (List ℕ)) (rule : Rule) (registers : List Low) (window : List Instr) → Lightens costs rule registers window → map (seen true) window ≡ map (renamed registers) (map blind rule.left)
blind_stands costs rule registers window s = both window ∙ ap (map blind) s.stands.matches ∙ under rule.left
  where
    both : (is : List Instr) → map (seen true) is ≡ map blind (map normal_of is)
    both [] = refl
    both (i ∷ is) = ap (λ js. seen true i ∷ js) (both is)

    one : (i : Instr) → blind (renamed registers i) ≡ renamed registers (blind i)
    one (instr.TwoNumber o d j) = refl
    one i = refl

    under : (is : List Instr) → map blind (map (renamed registers) is) ≡ map (renamed registers) (map blind is)
    under [] = refl
    under (i ∷ is) = ap (λ j. j ∷ map blind (map (renamed registers) is)) (one i) ∙ ap (λ js. renamed registers (blind i) ∷ js) (under is)

module _ (costs : Option (List ℕ)) (es : List tables.Rule) (fs : List tables.Family) (index : RuleIndex) (are : IsIndex costs es fs index) where
  -- the number of a family's instance among the families
  behind : (k i : ℕ) (rule : Rule) → rule_at (families_in es fs) k i ≡ Some rule → k < length fs
  behind k i rule at = by (slice_get (families_in es fs) k) refl at
    where
      by : (o : Option (List Rule)) → slice_get (families_in es fs) k ≡ o → rule_among o i ≡ Some rule → k < length fs
      by None e h = absurd (cc)
      by (Some rules) e h = let w = slice_get_within (families_in es fs) k rules e in let m = length_map (λ f. instances_of f (entry_at es f.entry)) fs in omega (arith, w, m)

  -- a rule of the table is one of the entries, or of the families
  pub split : {P : Type 0} (k i : ℕ) (rule : Rule) → rule_at (numbers_in es fs) k i ≡ Some rule → (slice_get (map rewriting_rule es) k ≡ Some rule → P) → ((j : ℕ) → rule_at (families_in es fs) j i ≡ Some rule → P) → P
  split {P} k i rule at entry family = elim (cases_lt k (length es)) [
    | inl l ↦ (
        let before : k < length (alone (map rewriting_rule es)) = (let n = entries_length es fs in omega (arith, n, l)) in
        entry (alone_is (map rewriting_rule es) k i rule (sym (rule_at_before (alone (map rewriting_rule es)) (families_in es fs) k i before) ∙ at)).0
        )
    | inr l ↦ (
        let past : length (alone (map rewriting_rule es)) ≤ k = (let n = entries_length es fs in omega (arith, n, l)) in
        family (k - length (alone (map rewriting_rule es))) (sym (rule_at_behind (alone (map rewriting_rule es)) (families_in es fs) k i past) ∙ at)
        )
  ]

  entry_noted : (k : ℕ) (rule : Rule) → slice_get (map rewriting_rule es) k ≡ Some rule → is_lighter costs rule ≡ true → IsNoted index.marks rule.left
  entry_noted k rule at s =
      let w = slice_get_within (map rewriting_rule es) k rule at in
      let m = length_map rewriting_rule es in
      are.marks.noted k 0 rule (omega (arith, w, m)) (alone_at (map rewriting_rule es) k rule at) s

  hole_noted : (k i : ℕ) (rule : Rule) → rule_at (families_in es fs) k i ≡ Some rule → is_lighter costs rule ≡ true → IsNoted index.holes (map blind rule.left)
  hole_noted k i rule at s = are.holes.noted k i rule (behind k i rule at) at s

  blind_long : (rule : Rule) → length (map blind rule.left) ≡ length rule.left
  blind_long rule = length_map blind rule.left

  -- no rule is longer where no marked side is
  pub reached_both : (run : List Instr) (own raised count : ℕ) → NoneMarked index.marks false run own → NoneMarked index.holes true run raised → own ≤ count → raised ≤ count → NoneReaches costs (numbers_in es fs) run count
  reached_both run own raised count entries families a b n k i rule registers longer at s = split k i rule at
      (λ there. entries n rule.left registers (omega (arith, a, longer)) (entry_noted k rule there (lighter_is costs rule registers (take n run) s)) s.stands.matches)
      (λ j there. families n (map blind rule.left) registers (let m = blind_long rule in omega (arith, b, longer, m)) (hole_noted j i rule there (lighter_is costs rule registers (take n run) s)) (blind_stands costs rule registers (take n run) s))

  -- nor where there are no families
  pub reached_own : (run : List Instr) (own : ℕ) → length fs ≡ 0 → NoneMarked index.marks false run own → NoneReaches costs (numbers_in es fs) run own
  reached_own run own none entries n k i rule registers longer at s = split k i rule at
      (λ there. entries n rule.left registers longer (entry_noted k rule there (lighter_is costs rule registers (take n run) s)) s.stands.matches)
      (λ j there. absurd (let w = behind j i rule there in omega (arith, w, none)))

  -- no family's instance stands in a window whose hash isn't marked
  pub none_raised : (window : List Instr) (hash : ℕ) → hash ≡ hash_of (map (seen true) window) → is_marked index.holes.wholes.items hash ≡ false → NoneStands costs (families_in es fs) window
  none_raised window hash is missing k i rule registers at s =
      let noted = hole_noted k i rule at (lighter_is costs rule registers window s) in
      let bad : true ≡ false = sym noted.whole ∙ ap (is_marked index.holes.wholes.items) (side_hash true (map blind rule.left) registers window (blind_stands costs rule registers window s) ∙ sym is) ∙ missing in
      absurd (cc)

  -- nor any rule where no entry's left side is marked either
  pub none_standing : (window : List Instr) (hash : ℕ) → hash ≡ hash_of (map (seen false) window) → is_marked index.marks.wholes.items hash ≡ false → NoneStands costs (families_in es fs) window → NoneStands costs (numbers_in es fs) window
  none_standing window hash is missing families k i rule registers at s = split k i rule at
      (λ there.
      let noted = entry_noted k rule there (lighter_is costs rule registers window s) in
      let bad : true ≡ false = sym noted.whole ∙ ap (is_marked index.marks.wholes.items) (side_hash false rule.left registers window s.stands.matches ∙ sym is) ∙ missing in
      absurd (cc))
      (λ j there. families j i rule registers there s)
