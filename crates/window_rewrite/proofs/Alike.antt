-- Where a rule fits, so does one that is alike, with any scratch register: the lines and their layout depend only on how many instructions come.
use Rattle.std.proofs.Common.{◌≡◌, ℕ, ◌+◌, ◌-◌, suc, max, ◌<◌, ◌≤◌, ◌&&◌, ◌==◌, Bool, true, false, List, [], ◌∷◌, ◌++◌, length, take, drop, map, Option, Some, refl, sym, ap, ◌∙◌, subst, ◌⊎◌, inl, inr, arith}
use Rattle.std.specs.Prelude.{slice_get, if◌then◌else◌}
use Rattle.std.specs.List.{list_all}
use Rattle.std.proofs.lemmas.Bool.{and_parts, lt-ltb}
use Rattle.std.proofs.lemmas.List.{length-map}
use Rattle.std.proofs.lemmas.Option.{slice_get_within}
use Rattle.thumb_instr.specs.declared.instr.Instr.{Instr}
use Rattle.thumb_instr.specs.Window.{is_in_window, Low, renamed}
use Rattle.thumb_model.specs.Listing.{Name, ListingLine, Label, Code, code_of, plain, is_op_place, places_in}
use Rattle.thumb_model.specs.Flow.{LiveAfter}
use Rattle.thumb_model.specs.Layout.{size_at, is_among, label_address, set_in, set_address, cleared, or_else, or_first, lies_in, fault_at, faults_from, Layable}
use Rattle.rule_model.specs.Rules.{Rule, rule_registers, Applies, IsSoundRule, alone}
use Rattle.thumb_model.specs.Replaced.{moved, is_op, without, labels_kept, new_line, replaced_lines, are_joined_from}
use Rattle.thumb_model.specs.Effect.{AreOver, register_count}
use Rattle.thumb_model.proofs.Lists.{take_all}
use Rattle.rule_model.specs.Rewriting.{Setting, Replacement, used_rule, lines_after_rule, lines_after, left_length, left_length_of}
use Rattle.rule_model.proofs.Alone.{alone_at}
use Rattle.listing_parser.specs.Grammar.{most_lines}
use Rattle.listing_parser.specs.Parsing.{own_line}
use Rattle.seq_enum.specs.Costs.{weight_under}
use Rattle.window_rewrite.specs.Settled.{IsSettled}
use Rattle.window_rewrite.proofs.Settled.{left_places, IsGap, settled_stay, stay_settled}
use Rattle.window_rewrite.proofs.RuleWindows.{applied_gap, applied_stay}
use Rattle.window_rewrite.specs.TableRewriting.{setting_by}
use Rattle.window_rewrite.specs.Rules.{is_marked, AreAlike, AreFit, AreLed}
use Rattle.window_rewrite.specs.Choices.{Meets}
use Rattle.window_rewrite.proofs.Applied.{made, rule_there, fits_lighter, all_in_window, IsLeft}
use Rattle.window_rewrite.proofs.Live.{Allowed}
use Rattle.window_rewrite.proofs.Weights.{lighter_some, lighter_true, lowers_same}
use Rattle.window_rewrite.proofs.Whole.{alike_registers, front_allowed, front_apart, front_matches}
use Rattle.thumb_model.proofs.Shared.{two_bytes, same_fault}

-- ---- the layout ----

-- two lines are laid out alike
record IsLaidAs (l m : ListingLine) : Type 0 where
  names : l.names ≡ m.names
  size : (at : ℕ) → size_at l.statement at ≡ size_at m.statement at
  sets : (name : Name) (rest : Option ℕ) → set_in name l.statement rest ≡ set_in name m.statement rest
  fault : (lies other : Name → Option ℕ) → ((name : Name) → lies name ≡ other name) → (at : ℕ) → fault_at lies at l.statement ≡ fault_at other at m.statement

abbrev AreLaidAs : List ListingLine → List ListingLine → Type 0
AreLaidAs [] [] = Unit {0}
AreLaidAs [] (m ∷ ms) = ⊥
AreLaidAs (l ∷ ls) [] = ⊥
AreLaidAs (l ∷ ls) (m ∷ ms) = IsLaidAs l m × AreLaidAs ls ms

labels_as : (name : Name) (at : ℕ) (ls ms : List ListingLine) → AreLaidAs ls ms → label_address name at ls ≡ label_address name at ms
labels_as name at [] [] h = refl
labels_as name at [] (m ∷ ms) h = absurd h
labels_as name at (l ∷ ls) [] h = absurd h
labels_as name at (l ∷ ls) (m ∷ ms) h =
    ap (λ (ns : List Name). if is_among name ns then Some at else label_address name (at + size_at l.statement at) ls) h.0.names
    ∙ ap (λ n. if is_among name m.names then Some at else label_address name (at + n) ls) (h.0.size at)
    ∙ ap (λ o. if is_among name m.names then Some at else o) (labels_as name (at + size_at m.statement at) ls ms h.1)

sets_as : (name : Name) (ls ms : List ListingLine) → AreLaidAs ls ms → set_address name ls ≡ set_address name ms
sets_as name [] [] h = refl
sets_as name [] (m ∷ ms) h = absurd h
sets_as name (l ∷ ls) [] h = absurd h
sets_as name (l ∷ ls) (m ∷ ms) h = h.0.sets name (set_address name ls) ∙ ap (set_in name m.statement) (sets_as name ls ms h.1)

faults_as : (lies other : Name → Option ℕ) → ((name : Name) → lies name ≡ other name) → (n at : ℕ) (ls ms : List ListingLine) → AreLaidAs ls ms → faults_from lies n at ls ≡ faults_from other n at ms
faults_as lies other e n at [] [] h = refl
faults_as lies other e n at [] (m ∷ ms) h = absurd h
faults_as lies other e n at (l ∷ ls) [] h = absurd h
faults_as lies other e n at (l ∷ ls) (m ∷ ms) h =
    ap (λ f. or_first n f (faults_from lies (n + 1) (at + size_at l.statement at) ls)) (h.0.fault lies other e at)
    ∙ ap (λ k. or_first n (fault_at other at m.statement) (faults_from lies (n + 1) (at + k) ls)) (h.0.size at)
    ∙ ap (or_first n (fault_at other at m.statement)) (faults_as lies other e (n + 1) (at + size_at m.statement at) ls ms h.1)

layable_as : (base : ℕ) (ls ms : List ListingLine) → AreLaidAs ls ms → Layable base ls → Layable base ms
layable_as base ls ms h laid =
    sym (faults_as (lies_in base ls) (lies_in base ms) (λ name. ap (λ o. or_else o (cleared (set_address name ls))) (labels_as name base ls ms h) ∙ ap (λ o. or_else (label_address name base ms) (cleared o)) (sets_as name ls ms h)) 1 base ls ms h) ∙ laid

long_as : (ls ms : List ListingLine) → AreLaidAs ls ms → length ls ≡ length ms
long_as [] [] h = refl
long_as [] (m ∷ ms) h = absurd h
long_as (l ∷ ls) [] h = absurd h
long_as (l ∷ ls) (m ∷ ms) h = ap suc (long_as ls ms h.1)

left_as : (base : ℕ) (lines ls ms : List ListingLine) → AreLaidAs ls ms → IsLeft base lines ls → IsLeft base lines ms
left_as base lines ls ms h left = record {
  few = subst (λ n. n ≤ max (length lines) most_lines) (long_as ls ms h) left.few;
  layable = layable_as base ls ms h left.layable;
}

same_line : (l : ListingLine) → IsLaidAs l l
same_line l = record { names = refl; size = λ _. refl; sets = λ _ _. refl; fault = λ lies other e at. same_fault lies other e at l.statement }

same_lines : (ls : List ListingLine) → AreLaidAs ls ls
same_lines [] = tt
same_lines (l ∷ ls) = (same_line l, same_lines ls)

behind_as : (xs ls ms : List ListingLine) → AreLaidAs ls ms → AreLaidAs (xs ++ ls) (xs ++ ms)
behind_as [] ls ms h = h
behind_as (x ∷ xs) ls ms h = (same_line x, behind_as xs ls ms h)

-- new instructions in front of lines
new_as : (write : Instr → List ℕ) (is js : List Instr) (ls : List ListingLine) → length is ≡ length js → list_all is_in_window is ≡ true → list_all is_in_window js ≡ true
    → AreLaidAs (map (new_line write) is ++ ls) (map (new_line write) js ++ ls)
new_as write [] [] ls e v w = same_lines ls
new_as write [] (j ∷ js) ls e v w = absurd (omega (arith, e))
new_as write (i ∷ is) [] ls e v w = absurd (omega (arith, e))
new_as write (i ∷ is) (j ∷ js) ls e v w =
    let a = and_parts (is_in_window i) (list_all is_in_window is) v in
    let b = and_parts (is_in_window j) (list_all is_in_window js) w in (
      record { names = refl; size = λ _. two_bytes i a.0 ∙ sym (two_bytes j b.0); sets = λ _ _. refl; fault = λ _ _ _ _. refl },
      new_as write is js ls (omega (arith, e)) a.1 b.1,
    )

-- lines in which as many new instructions come
replaced_as : (write : Instr → List ℕ) (p count : ℕ) (is js : List Instr) (ls : List ListingLine) → length is ≡ length js → list_all is_in_window is ≡ true → list_all is_in_window js ≡ true
    → AreLaidAs (replaced_lines write p count is ls) (replaced_lines write p count js ls)
replaced_as write p count is js [] e v w = tt
replaced_as write p count is js (l ∷ ls) e v w =
    elim (is_op l.statement && (p == 0)) as (λ b. AreLaidAs
    (if b then labels_kept l l.names ++ (map (new_line write) is ++ without (count - 1) ls) else l ∷ replaced_lines write (p - length (places_in l.statement)) count is ls)
    (if b then labels_kept l l.names ++ (map (new_line write) js ++ without (count - 1) ls) else l ∷ replaced_lines write (p - length (places_in l.statement)) count js ls)) [
      | true ↦ behind_as (labels_kept l l.names) (map (new_line write) is ++ without (count - 1) ls) (map (new_line write) js ++ without (count - 1) ls) (new_as write is js (without (count - 1) ls) e v w)
      | false ↦ (same_line l, replaced_as write (p - length (places_in l.statement)) count is js ls e v w)
    ]

-- ---- the place ----

settled_as : (code : Code) (p count : ℕ) (is js : List Instr) → length is ≡ length js → IsSettled code.places code.labels p count is → IsSettled code.places code.labels p count js
settled_as code p count is js e (inl n) = inl (omega (arith, e, n))
settled_as code p count is js e (inr h) = inr h

-- a rule applies where one does that is alike and has as many registers or more, with the first of them
applies_as : (a b : Rule) (registers : List Low) (code : Code) (p : ℕ) → IsSoundRule a → IsSoundRule b → AreAlike a b → 0 < length b.left → Applies b registers code p → Applies a (take (rule_registers a) registers) code p
applies_as a b registers code p sound also s some h =
    let first : List Low = take (rule_registers a) registers in
    let is : List Instr = map (renamed registers) b.right in
    let js : List Instr = map (renamed first) a.right in
    let count : length a.left ≡ length b.left = ap (λ (l : List Instr). length l) s.left in
    let own : register_count a.left ≡ register_count b.left = ap register_count s.left in
    let as_many = h.as_many in
    let no_more = alike_registers a b sound also s in
    let few = also.few in
    let m = length-map b.right (renamed registers) in
    let n = length-map a.right (renamed first) in
    let long = s.as_long in
    let gap = applied_gap b registers code p also some h in
    let settled = stay_settled code.places code.labels p (length b.left) is gap (applied_stay b registers code p h) in
    let other : IsGap code.places code.labels p (length b.left) js = record { within = gap.within; some = gap.some; no_longer = (let no_longer = also.no_longer in omega arith); first = gap.first; unlabelled = gap.unlabelled } in
    let stay = settled_stay code.places code.labels p (length b.left) js other (settled_as code p (length b.left) is js (omega arith) settled) in
    record {
      as_many = take_all (rule_registers a) registers (omega arith);
      one_to_one = front_apart (rule_registers a) registers h.one_to_one;
      window = h.window;
      stands = subst (λ (l : List Instr). take (length l) (drop p code.places) ≡ map plain h.window) (sym s.left) h.stands;
      matches = h.matches ∙ front_matches b (rule_registers a) registers also (omega arith) ∙ ap (map (renamed first)) (sym s.left);
      unlabelled = subst (λ (l : List Instr). (k : ℕ) (x : Label) → slice_get code.labels k ≡ Some x → (x.place ≤ p) ⊎ (p + length l ≤ x.place)) (sym s.left) h.unlabelled;
      live = λ x r. subst (λ (mask : List ℕ). Allowed mask first x) (sym s.mask)
          (front_allowed b (rule_registers a) registers x also (omega arith) (omega arith) (h.live x (subst (λ c. LiveAfter code (p + c - 1) x) count r)));
      labels_stay = λ k l e c.
          subst (λ q. is_op_place (slice_get (left_places p q js code.places) (moved p (q - length a.right) l.place)) ≡ true) (sym count)
          (subst (λ q. is_op_place (slice_get (left_places p (length b.left) js code.places) (moved p (length b.left - q) l.place)) ≡ true) n (stay k l e c));
    }

-- under another map a rule's right side leaves as many lines, which can be laid out alike
pub left_under : (base place count k : ℕ) (f g : List Low) (right : List Instr) (lines : List ListingLine) → AreOver k right → IsLeft base lines (replaced_lines own_line place count (map (renamed f) right) lines)
    → IsLeft base lines (replaced_lines own_line place count (map (renamed g) right) lines)
left_under base place count k f g right lines over left =
    left_as base lines (replaced_lines own_line place count (map (renamed f) right) lines) (replaced_lines own_line place count (map (renamed g) right) lines)
    (replaced_as own_line place count (map (renamed f) right) (map (renamed g) right) lines (length-map right (renamed f) ∙ sym (length-map right (renamed g))) (all_in_window k f right over) (all_in_window k g right over)) left

-- and labels stay code alike
pub settled_under : (code : Code) (p count : ℕ) (f g : List Low) (right : List Instr) → IsSettled code.places code.labels p count (map (renamed f) right) → IsSettled code.places code.labels p count (map (renamed g) right)
settled_under code p count f g right s = settled_as code p count (map (renamed f) right) (map (renamed g) right) (length-map right (renamed f) ∙ sym (length-map right (renamed g))) s

-- ---- the choice ----

-- an entry that is kept satisfies `Meets asked` at the same place
pub record IsLedTo (asked : Bool) (s : Setting) (kept : List Bool) (o : Replacement) (lines : List ListingLine) : Type 0 where
  pub leader : ℕ
  pub no_later : leader ≤ o.entry
  pub is_kept : is_marked kept leader ≡ true
  pub registers : List Low
  pub meets : Meets asked s (made o.place leader registers) lines
  pub as_long : left_length s (made o.place leader registers) ≡ left_length s o

pub led_to : (asked : Bool) (costs : Option (List ℕ)) (base longest : ℕ) (rules : List Rule) (kept : List Bool) (lines : List ListingLine) (o : Replacement) → AreFit longest (alone rules) → AreLed costs rules kept (length rules) → Meets asked (setting_by costs base (alone rules)) o lines
    → IsLedTo asked (setting_by costs base (alone rules)) kept o lines
led_to asked costs base longest rules kept lines o fit led m =
    let s : Setting = setting_by costs base (alone rules) in
    let rule : Rule = m.0.rule in
    let there = rule_there costs base rules o rule m.0.is_rule in
    let lighter = fits_lighter costs base (alone rules) o lines m.0 in
    let some = lighter_some costs rule.left rule.right lighter in
    let l = led o.entry rule (slice_get_within rules o.entry rule there) there (lt-ltb (weight_under costs rule.right) (weight_under costs rule.left) lighter) in
    let other : Rule = l.other in
    let as_long = l.alike.as_long in
    let rule_fit = fit o.entry o.instance rule m.0.is_rule in
    let first : List Low = take (rule_registers other) o.registers in
    let used : used_rule s (made o.place l.leader first) ≡ Some other = alone_at rules l.leader other l.at in
    let other_fit = fit l.leader 0 other used in
    let count : length other.left ≡ length rule.left = ap (λ (is : List Instr). length is) l.alike.left in
    let is : List Instr = map (renamed o.registers) rule.right in
    let js : List Instr = map (renamed first) other.right in
    let as_many : length is ≡ length js = length-map rule.right (renamed o.registers) ∙ sym l.alike.as_long ∙ sym (length-map other.right (renamed first)) in
    record {
      leader = l.leader;
      no_later = l.no_later;
      is_kept = l.is_kept;
      registers = first;
      meets = (
        record {
          rule = other;
          is_rule = used;
          lowers = lowers_same costs other.left other.right (lighter_true costs other l.lighter);
          applies = applies_as other rule o.registers (code_of lines) o.place other_fit.sound rule_fit.sound l.alike some m.0.applies;
          joined = subst (λ k. are_joined_from o.place k lines ≡ true) (sym count) m.0.joined;
        },
        λ e.
            let allowed = m.1 e in
            let was : IsLeft base lines (lines_after s o lines) = record { few = allowed.few; layable = allowed.layable } in
            let left : IsLeft base lines (replaced_lines own_line o.place (length rule.left) is lines) = subst (λ (r : Option Rule). IsLeft base lines (lines_after_rule s r o lines)) m.0.is_rule was in
            let same : IsLeft base lines (replaced_lines own_line o.place (length rule.left) js lines) =
            left_as base lines (replaced_lines own_line o.place (length rule.left) is lines) (replaced_lines own_line o.place (length rule.left) js lines)
            (replaced_as own_line o.place (length rule.left) is js lines as_many (all_in_window (rule_registers rule) o.registers rule.right rule_fit.sound.right) (all_in_window (rule_registers other) first other.right other_fit.sound.right)) left in
            let now : IsLeft base lines (lines_after_rule s (used_rule s (made o.place l.leader first)) (made o.place l.leader first) lines) =
            subst (λ (r : Option Rule). IsLeft base lines (lines_after_rule s r (made o.place l.leader first) lines)) (sym used)
            (subst (λ k. IsLeft base lines (replaced_lines own_line o.place k js lines)) (sym count) same) in
            record { few = now.few; layable = now.layable },
      );
      as_long = ap left_length_of used ∙ count ∙ ap left_length_of (sym m.0.is_rule);
    }
