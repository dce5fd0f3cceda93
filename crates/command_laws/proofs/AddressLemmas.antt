-- Lines that have an address for each name that needs one, and set none inside their image, keep this when they are rewritten: no label is lost, and
-- the end lies no later.
use Rattle.std.proofs.Common.{◌≡◌, ◌∙◌, inl, inr, ◌⊎◌, ℕ, zero, suc, ◌+◌, ◌-◌, ◌*◌, ◌/◌, ◌%◌, ◌<◌, ◌≤◌, ◌==◌, ◌&&◌, ◌||◌, not, Bool, true, false, List, [], ◌∷◌, ◌++◌, length, map, take, drop, refl, sym, ap, subst, arith, true≢false, Option, Some, None, ne_eqb, if◌then◌else◌}
use Rattle.std.specs.Prelude.{is_some, nat_le, nat_lt}
use Rattle.std.specs.Str.{bytes_eq}
use Rattle.std.proofs.Math.Nat.{zero-mul, mod-add-div', mod-lt, mod-eq_of_lt, mod_self, mod-zero, suc-mul}
use Rattle.std.proofs.lemmas.Nat.{mod-mul-add}
use Rattle.std.proofs.lemmas.Bool.{and_parts, cases_Bool, leb-true, leb-false, le-leb, ltb-false, le-ltb}
use Rattle.thumb_instr.specs.declared.instr.Instr.{Instr}
use Rattle.thumb_instr.specs.Window.{Low, renamed}
use Rattle.thumb_instr.proofs.RenamingLemmas.{window_renamed}
use Rattle.thumb_model.specs.Listing.{Name, Mention, Value, Number, OfName, Statement, Nothing, Instruction, Words, Aligns, Sets, ListingLine, Word, Label, places_in, places_of, labels_from, code_of, has_label}
use Rattle.thumb_model.specs.Layout.{instr_size, padding, size_at, end_of, label_address, set_in, set_address, cleared, lies_in, or_first}
use Rattle.rule_model.specs.Rules.{Rule, AreSound}
use Rattle.thumb_model.specs.Effect.{AreOver}
use Rattle.thumb_model.specs.Replaced.{move_label, is_op, is_align, are_joined, are_joined_from, without, labels_kept, new_line, replaced_lines}
use Rattle.rule_model.specs.Rewriting.{Setting, Replacement, AppliesIn, AreRewritten, lines_after, lines_after_rule}
use Rattle.thumb_model.specs.Cuts.{AreOps}
use Rattle.thumb_model.proofs.Lists.{length_map, drop_back}
use Rattle.rule_model.proofs.Table.{window_length}
use Rattle.thumb_model.proofs.LinesReplaced.{ops_of, before, past_words}
use Rattle.rule_model.proofs.LinesKept.{some_left as some_instruction, code_of_after}
use Rattle.label_layout.proofs.Shared.{need}
use Rattle.thumb_assembler.specs.Bytes.{lies_nowhere, may_leave, branch_lost, value_lost, values_lost, lies_inside, flaw_of, flaws_from, first_flaw}
use Rattle.thumb_machine.proofs.WordLemmas.{some_or as some_else}
use Rattle.listing_laws.proofs.Fitted.{two_bytes as some_bytes}
use Rattle.thumb_assembler.proofs.Around.{labelled}
use Rattle.thumb_model.proofs.Shared.{first_none, two_bytes}
use Rattle.kept_layout.proofs.SetsKept.{op_sets_none, without_sets, labels_set_none, new_set_none}

-- ---- paddings ----

-- the padded place is a multiple of the size, and the padding is less than the size
record Near (size at : ℕ) : Type 0 where
  number : ℕ
  ends : at + need size at ≡ number * size
  short : need size at < size

none_left : (size at : ℕ) → 0 < size → at % size ≡ 0 → need size at ≡ 0
none_left size at some e = ap (λ (r : ℕ). (size - r) % size) e ∙ (ap (λ (r : ℕ). r % size) (let z : size - 0 ≡ size = omega arith in z) ∙ mod_self size)

some_left : (size at : ℕ) → 0 < size → (at % size ≡ 0 → ⊥) → need size at ≡ size - at % size
some_left size at some e = let less : at % size < size = mod-lt at some in mod-eq_of_lt (let l : size - at % size < size = omega (arith, e) in l)

is_zero : (n : ℕ) → (n ≡ 0) ⊎ (n ≡ 0 → ⊥)
is_zero zero = inl refl
is_zero (suc n) = inr (λ e. omega arith)

near : (size at : ℕ) → 0 < size → Near size at
near size at some =
    let whole : at % size + at / size * size ≡ at = mod-add-div' at size in
    let less : at % size < size = mod-lt at some in
    elim (is_zero (at % size)) [
      | inl e ↦ (let g = none_left size at some e in record { number = at / size; ends = omega (arith, g, e, whole); short = omega (arith, g) })
      | inr e ↦ (
          let g = some_left size at some e in
          let m : suc (at / size) * size ≡ at / size * size + size = suc-mul (at / size) size in
          let pos : 0 < at % size = omega (arith, e) in
          record { number = suc (at / size); ends = omega (arith, g, m, whole, less); short = omega (arith, g, pos, less) }
          )
    ]

-- at a distance of less than the size before a multiple, exactly that distance is needed
need_is : (size at number d : ℕ) → 0 < d → d < size → at + d ≡ number * size → need size at ≡ d
need_is size at zero d some less e = absurd (let z : zero * size ≡ 0 = zero-mul size in omega (arith, e, z, some))
need_is size at (suc k) d some less e =
    let m : suc k * size ≡ k * size + size = suc-mul k size in
    let here : at ≡ k * size + (size - d) = omega (arith, e, m, less) in
    let rest : at % size ≡ size - d = ap (λ (n : ℕ). n % size) here ∙ mod-mul-add k size (size - d) (omega (arith, some, less)) in
    ap (λ (r : ℕ). (size - r) % size) rest ∙ (ap (λ (r : ℕ). r % size) (let z : size - (size - d) ≡ d = omega (arith, less) in z) ∙ mod-eq_of_lt less)

padded : (size most at : ℕ) (b : Bool) → nat_le (need size at) most ≡ b → padding size most at ≡ (if b then need size at else 0)
padded size most at b e = ap (λ (c : Bool). if c then need size at else 0) e

no_size : (most at : ℕ) → padding 0 most at ≡ 0
no_size most at = go (nat_le (need 0 at) most) where
  none : need 0 at ≡ 0
  none = mod-zero (0 - at % 0) ∙ (let z : 0 - at % 0 ≡ 0 = omega arith in z)

  go : (b : Bool) → (if b then need 0 at else 0) ≡ 0
  go true = none
  go false = refl

-- padding is monotone: a later place is not padded to an earlier one
grown : (size most x y : ℕ) → x ≤ y → x + padding size most x ≤ y + padding size most y
grown zero most x y l = let a = no_size most x in let b = no_size most y in omega (arith, a, b, l)
grown (suc n) most x y l = elim (cases_Bool (nat_le (need (suc n) x) most)) [
  | inr far ↦ (let p = padded (suc n) most x false far in omega (arith, p, l))
  | inl there ↦ (
      let p : padding (suc n) most x ≡ need (suc n) x = padded (suc n) most x true there in
      let within : need (suc n) x ≤ most = leb-true (need (suc n) x) most there in
      let k = near (suc n) x (omega arith) in
      let ends : x + need (suc n) x ≡ k.number * suc n = k.ends in
      let short : need (suc n) x < suc n = k.short in
      elim (cases_Bool (nat_le (x + need (suc n) x) y)) [
        | inl past ↦ (let q = leb-true (x + need (suc n) x) y past in omega (arith, p, q))
        | inr inside ↦ (
            let q : y < x + need (suc n) x = leb-false (x + need (suc n) x) y inside in
            let d : ℕ = x + need (suc n) x - y in
            let same : need (suc n) y ≡ d = need_is (suc n) y k.number d (omega (arith, q)) (omega (arith, q, l, short)) (omega (arith, q, ends)) in
            let small : nat_le (need (suc n) y) most ≡ true = le-leb (need (suc n) y) most (omega (arith, same, q, l, within)) in
            let r : padding (suc n) most y ≡ need (suc n) y = padded (suc n) most y true small in
            omega (arith, p, r, same, q)
            )
      ]
      )
]

-- ---- ends ----

size_later : (s : Statement) (x y : ℕ) → x ≤ y → x + size_at s x ≤ y + size_at s y
size_later Nothing x y l = omega arith
size_later (Instruction i mention) x y l = omega arith
size_later (Words vs) x y l = omega arith
size_later (Aligns size most) x y l = grown size most x y l
size_later (Sets name address) x y l = omega arith

end_later : (ls : List ListingLine) (x y : ℕ) → x ≤ y → end_of x ls ≤ end_of y ls
end_later [] x y l = l
end_later (k ∷ ks) x y l = end_later ks (x + size_at k.statement x) (y + size_at k.statement y) (size_later k.statement x y l)

-- if n instructions are removed, with no alignment line between them, the end lies at least 2 * n bytes earlier
WithoutRec : ℕ → List ListingLine → Type 0
WithoutRec n ls = (x y : ℕ) → AreOps n (places_of ls) → are_joined n ls ≡ true → x ≤ y + 2 * n → end_of x (without n ls) ≤ end_of y ls

without_step : (n : ℕ) (l : ListingLine) (s : Statement) (ls : List ListingLine) → l.statement ≡ s → WithoutRec n ls → WithoutRec (suc n) ls → (x y : ℕ) → AreOps (suc n) (places_in s ++ places_of ls)
    → (if is_op s then are_joined n ls else (if is_align s then false else are_joined (suc n) ls)) ≡ true → x ≤ y + 2 * suc n
    → end_of x (if is_op s then without n ls else l ∷ without (suc n) ls) ≤ end_of (y + size_at s y) ls
unfolding WithoutRec
without_step n l (Instruction i mention) ls e f g x y ops joined less = f x (y + instr_size i) ops joined (let b = some_bytes i in omega arith)
without_step n l (Words (w ∷ ws)) ls e f g x y ops joined less = absurd ops
without_step n l (Words []) ls e f g x y ops joined less =
    subst (λ (z : ℕ). end_of (x + z) (without (suc n) ls) ≤ end_of (y + 0) ls) (sym (ap (λ (s : Statement). size_at s x) e)) (g (x + 0) (y + 0) ops joined (omega arith))
without_step n l Nothing ls e f g x y ops joined less =
    subst (λ (z : ℕ). end_of (x + z) (without (suc n) ls) ≤ end_of (y + 0) ls) (sym (ap (λ (s : Statement). size_at s x) e)) (g (x + 0) (y + 0) ops joined (omega arith))
without_step n l (Aligns size most) ls e f g x y ops joined less = absurd (true≢false (sym joined))
without_step n l (Sets name address) ls e f g x y ops joined less =
    subst (λ (z : ℕ). end_of (x + z) (without (suc n) ls) ≤ end_of (y + 0) ls) (sym (ap (λ (s : Statement). size_at s x) e)) (g (x + 0) (y + 0) ops joined (omega arith))

end_without : (n : ℕ) (ls : List ListingLine) (x y : ℕ) → AreOps n (places_of ls) → are_joined n ls ≡ true → x ≤ y + 2 * n → end_of x (without n ls) ≤ end_of y ls
unfolding WithoutRec
end_without zero [] x y ops joined less = omega arith
end_without (suc n) [] x y ops joined less = absurd ops
end_without zero (l ∷ ls) x y ops joined less = end_later (l ∷ ls) x y (omega arith)
end_without (suc n) (l ∷ ls) x y ops joined less =
    without_step n l l.statement ls refl (λ a b o j k. end_without n ls a b o j k) (λ a b o j k. end_without (suc n) ls a b o j k) x y ops joined less

-- instructions of two bytes
AreTwos : List Instr → Type 0
AreTwos [] = Unit {0}
AreTwos (i ∷ is) = (instr_size i ≡ 2) × AreTwos is

new_end : (write : Instr → List ℕ) (is : List Instr) (ls : List ListingLine) (x : ℕ) → AreTwos is → end_of x (map (new_line write) is ++ ls) ≡ end_of (x + 2 * length is) ls
unfolding AreTwos
new_end write [] ls x twos = ap (λ (y : ℕ). end_of y ls) (let z : x ≡ x + 2 * 0 = omega arith in z)
new_end write (i ∷ is) ls x twos =
    let size : instr_size i ≡ 2 = twos.0 in
    new_end write is ls (x + instr_size i) twos.1 ∙ ap (λ (y : ℕ). end_of y ls) (let z : x + instr_size i + 2 * length is ≡ x + 2 * length (i ∷ is) = omega (arith, size) in z)

kept_end : (l : ListingLine) (ns : List Name) (ls : List ListingLine) (x : ℕ) → end_of x (labels_kept l ns ++ ls) ≡ end_of x ls
kept_end l [] ls x = refl
kept_end l (n ∷ ns) ls x = ap (λ (y : ℕ). end_of y ls) (let z : x + 0 ≡ x = omega arith in z)

EndsRec : (Instr → List ℕ) → ℕ → List Instr → List ListingLine → Type 0
EndsRec write n is ls = (q x y : ℕ) → x ≤ y → AreOps (suc n) (drop q (places_of ls)) → are_joined_from q (suc n) ls ≡ true → end_of x (replaced_lines write q (suc n) is ls) ≤ end_of y ls

ends_behind : (write : Instr → List ℕ) (n p m : ℕ) (is : List Instr) (l : ListingLine) (s : Statement) (ls : List ListingLine) → l.statement ≡ s → EndsRec write n is ls → (x y : ℕ) → x ≤ y → p ≡ length (places_in s) + m
    → AreOps (suc n) (drop p (places_in s ++ places_of ls)) → are_joined_from (p - length (places_in s)) (suc n) ls ≡ true
    → end_of x (l ∷ replaced_lines write (p - length (places_in s)) (suc n) is ls) ≤ end_of (y + size_at s y) ls
unfolding EndsRec
ends_behind write n p m is l s ls e rec x y less g ops joined =
    let same : p - length (places_in s) ≡ m = omega (arith, g) in
    let there = subst (AreOps (suc n)) (drop_back (places_in s) (places_of ls) p m g) ops in
    let stays : are_joined_from m (suc n) ls ≡ true = subst (λ (q : ℕ). are_joined_from q (suc n) ls ≡ true) same joined in
    let size : x + size_at l.statement x ≤ y + size_at s y = subst (λ (t : Statement). x + size_at t x ≤ y + size_at s y) (sym e) (size_later s x y less) in
    subst (λ (q : ℕ). end_of (x + size_at l.statement x) (replaced_lines write q (suc n) is ls) ≤ end_of (y + size_at s y) ls) (sym same)
    (rec m (x + size_at l.statement x) (y + size_at s y) size there stays)

ends_step : (write : Instr → List ℕ) (n p : ℕ) (is : List Instr) (l : ListingLine) (s : Statement) (ls : List ListingLine) → l.statement ≡ s → length is ≤ suc n → AreTwos is → EndsRec write n is ls → (x y : ℕ) → x ≤ y
    → AreOps (suc n) (drop p (places_in s ++ places_of ls))
    → (if is_op s && (p == 0) then are_joined (suc n - 1) ls else are_joined_from (p - length (places_in s)) (suc n) ls) ≡ true
    → end_of x (if is_op s && (p == 0) then labels_kept l l.names ++ (map (new_line write) is ++ without (suc n - 1) ls) else l ∷ replaced_lines write (p - length (places_in s)) (suc n) is ls) ≤ end_of (y + size_at s y) ls
ends_step write n p is l (Words ws) ls e short twos rec x y less ops joined =
    let w = past_words ws (places_of ls) p n ops in
    let m = length_map Word ws in
    ends_behind write n p (p - length ws) is l (Words ws) ls e rec x y less (omega arith) ops joined
ends_step write n zero is l (Instruction i mention) ls e short twos rec x y less ops joined =
    let one : suc n - 1 ≡ n = omega arith in
    let j : are_joined n ls ≡ true = subst (λ (k : ℕ). are_joined k ls ≡ true) one joined in
    let b = some_bytes i in
    let gone : end_of (x + 2 * length is) (without n ls) ≤ end_of (y + instr_size i) ls = end_without n ls (x + 2 * length is) (y + instr_size i) ops j (omega (arith, b, less, short)) in
    let is_new : end_of x (labels_kept l l.names ++ (map (new_line write) is ++ without (suc n - 1) ls)) ≡ end_of (x + 2 * length is) (without n ls) =
    kept_end l l.names (map (new_line write) is ++ without (suc n - 1) ls) x ∙ (new_end write is (without (suc n - 1) ls) x twos ∙ ap (λ (k : ℕ). end_of (x + 2 * length is) (without k ls)) one) in
    subst (λ (z : ℕ). z ≤ end_of (y + instr_size i) ls) (sym is_new) gone
ends_step write n (suc p) is l (Instruction i mention) ls e short twos rec x y less ops joined =
    let later : (suc p == 0) ≡ false = ne_eqb (suc p) 0 (λ z. absurd (omega arith)) in
    let j : are_joined_from (suc p - 1) (suc n) ls ≡ true = subst (λ b. (if b then are_joined (suc n - 1) ls else are_joined_from (suc p - 1) (suc n) ls) ≡ true) later joined in
    subst (λ b. end_of x (if b then labels_kept l l.names ++ (map (new_line write) is ++ without (suc n - 1) ls) else l ∷ replaced_lines write (suc p - 1) (suc n) is ls) ≤ end_of (y + instr_size i) ls) (sym later)
    (ends_behind write n (suc p) p is l (Instruction i mention) ls e rec x y less (omega arith) ops j)
ends_step write n p is l s ls e short twos rec x y less ops joined = ends_behind write n p p is l s ls e rec x y less (omega arith) ops joined

ends_replaced : (write : Instr → List ℕ) (n : ℕ) (is : List Instr) (ls : List ListingLine) (p x y : ℕ) → length is ≤ suc n → AreTwos is → x ≤ y → AreOps (suc n) (drop p (places_of ls)) → are_joined_from p (suc n) ls ≡ true
    → end_of x (replaced_lines write p (suc n) is ls) ≤ end_of y ls
unfolding EndsRec
ends_replaced write n is [] p x y short twos less ops joined = less
ends_replaced write n is (l ∷ ls) p x y short twos less ops joined =
    ends_step write n p is l l.statement ls refl short twos (λ q a b k o j. ends_replaced write n is ls q a b short twos k o j) x y less ops joined

-- ---- where an entry applies ----

renamed_twos : (registers : List Low) (k : ℕ) (is : List Instr) → AreOver k is → AreTwos (map (renamed registers) is)
unfolding AreTwos
renamed_twos registers k [] h = tt
renamed_twos registers k (i ∷ is) h = (two_bytes (renamed registers i) (window_renamed registers i h.0), renamed_twos registers k is h.2)

end_after : (s : Setting) (r : Replacement) (ls : List ListingLine) → AreSound s.table → AppliesIn s r ls → end_of s.base (lines_after s r ls) ≤ end_of s.base ls
end_after s r ls sound a =
    let rule = a.rule in
    let is : List Instr = map (renamed r.registers) rule.right in
    let m = length_map (renamed r.registers) rule.right in
    let good = sound r.entry r.instance rule a.is_rule in
    let no_longer = good.no_longer in
    let n = before (length rule.left) (some_instruction s r ls a) in
    let e : length rule.left ≡ suc n.0 = n.1 in
    let k : length a.applies.window ≡ length rule.left = window_length rule r.registers (code_of ls) r.place a.applies in
    let ops : AreOps (suc n.0) (drop r.place (places_of ls)) = ops_of a.applies.window (suc n.0) _ (omega arith) (ap (λ c. take c (drop r.place (places_of ls))) (sym e) ∙ a.applies.stands) in
    let joined : are_joined_from r.place (suc n.0) ls ≡ true = subst (λ (c : ℕ). are_joined_from r.place c ls ≡ true) e a.joined in
    let twos = renamed_twos r.registers _ rule.right good.right in
    let there : end_of s.base (replaced_lines s.write r.place (suc n.0) is ls) ≤ end_of s.base ls = ends_replaced s.write n.0 is ls r.place s.base s.base (omega arith) twos (omega arith) ops joined in
    subst (λ (o : Option Rule). end_of s.base (lines_after_rule s o r ls) ≤ end_of s.base ls) (sym a.is_rule)
    (subst (λ (c : ℕ). end_of s.base (replaced_lines s.write r.place c is ls) ≤ end_of s.base ls) (sym e) there)

-- ---- names ----

sets_replaced : (name : Name) (write : Instr → List ℕ) (p count : ℕ) (is : List Instr) (ls : List ListingLine) → set_address name (replaced_lines write p count is ls) ≡ set_address name ls
sets_replaced name write p count is [] = refl
sets_replaced name write p count is (l ∷ ls) = elim (cases_Bool (is_op l.statement && (p == 0))) [
  | inl here ↦ rw here (
      labels_set_none name l l.names (map (new_line write) is ++ without (count - 1) ls)
      ∙ (new_set_none name write is (without (count - 1) ls) ∙ (without_sets name (count - 1) ls ∙ sym (op_sets_none name l.statement (set_address name ls) (and_parts (is_op l.statement) (p == 0) here).0)))
      )
  | inr here ↦ rw here (ap (set_in name l.statement) (sets_replaced name write (p - length (places_in l.statement)) count is ls))
]

sets_after : (name : Name) (s : Setting) (o : Option Rule) (r : Replacement) (ls : List ListingLine) → set_address name (lines_after_rule s o r ls) ≡ set_address name ls
sets_after name s None r ls = refl
sets_after name s (Some rule) r ls = sets_replaced name s.write r.place (length rule.left) (map (renamed r.registers) rule.right) ls

moved_label : (name : Name) (p gone : ℕ) (ls : List Label) → has_label name (map (move_label p gone) ls) ≡ has_label name ls
moved_label name p gone [] = refl
moved_label name p gone (l ∷ ls) = ap (λ (b : Bool). bytes_eq name l.name || b) (moved_label name p gone ls)

some_cleared : (a : Option ℕ) → is_some (cleared a) ≡ is_some a
some_cleared None = refl
some_cleared (Some a) = refl

lies_told : (base : ℕ) (ls : List ListingLine) (name : Name) → is_some (lies_in base ls name) ≡ (has_label name (labels_from 0 ls) || is_some (set_address name ls))
lies_told base ls name =
    some_else (label_address name base ls) (cleared (set_address name ls))
    ∙ (ap (λ (b : Bool). b || is_some (cleared (set_address name ls))) (sym (labelled name 0 base ls)) ∙ ap (λ (b : Bool). has_label name (labels_from 0 ls) || b) (some_cleared (set_address name ls)))

-- whether a name lies somewhere doesn't change
lies_after : (s : Setting) (r : Replacement) (ls : List ListingLine) (base : ℕ) (name : Name) → AreSound s.table → AppliesIn s r ls → lies_nowhere base (lines_after s r ls) name ≡ lies_nowhere base ls name
lies_after s r ls base name sound a =
    let new = lines_after s r ls in
    let labels : has_label name (labels_from 0 new) ≡ has_label name (labels_from 0 ls) =
    ap (λ c. has_label name c.labels) (code_of_after s r ls sound a) ∙ moved_label name r.place (length a.rule.left - length (map (renamed r.registers) a.rule.right)) (labels_from 0 ls) in
    let sets : set_address name new ≡ set_address name ls = sets_after name s _ r ls in
    ap not (lies_told base new name ∙ ((λ i. labels i || is_some (sets i)) ∙ sym (lies_told base ls name)))

-- ---- flaws ----

-- the type of flaws, which has no name outside its crate
abbrev Flawed : {A : Type 0} → (ℕ → List ListingLine → Statement → Option A) → Type 0
Flawed {A} told = A

abbrev Flaw : Type 0
Flaw = Flawed flaw_of

none_as_before : {A : Type 0} (f : A) (new old : Bool) → new ≡ old → (if old then Some f else None) ≡ None → (if new then Some f else None) ≡ None
none_as_before {A} f new old e h = ap (λ (b : Bool). if b then Some f else None) e ∙ h

-- a statement without a flaw has none in other lines in which the same names lie somewhere and which end no later
module _ (base : ℕ) (old new : List ListingLine) (lies : (name : Name) → lies_nowhere base new name ≡ lies_nowhere base old name) (ends : end_of base new ≤ end_of base old) where
  branch_stays : (i : Instr) (mention : Option Mention) → branch_lost base new i mention ≡ branch_lost base old i mention
  branch_stays i None = refl
  branch_stays i (Some m) = ap (λ (b : Bool). may_leave i && b) (lies m.name)

  value_stays : (v : Value) → value_lost base new v ≡ value_lost base old v
  value_stays (Number n) = refl
  value_stays (OfName m) = lies m.name

  values_stay : (vs : List Value) → values_lost base new vs ≡ values_lost base old vs
  values_stay [] = refl
  values_stay (v ∷ vs) = λ i. value_stays v i || values_stay vs i

  outside_stays : {A : Type 0} (f : A) (address : ℕ) (b : Bool) → nat_le base address ≡ b → (if lies_inside base old address then Some f else None) ≡ None → (if lies_inside base new address then Some f else None) ≡ None
  outside_stays {A} f address false e h = rw e refl
  outside_stays {A} f address true e h = elim (cases_Bool (nat_lt address (end_of base old))) [
    | inl within ↦ absurd (let bad : Some f ≡ None = rw (e, within) at h in cc)
    | inr past ↦ (
        let far : end_of base old ≤ address = ltb-false address (end_of base old) past in
        let still : nat_lt address (end_of base new) ≡ false = le-ltb address (end_of base new) (omega (arith, far, ends)) in
        rw (e, still) refl
        )
  ]

  flaw_stays : (s : Statement) → flaw_of base old s ≡ None → flaw_of base new s ≡ None
  flaw_stays Nothing h = refl
  flaw_stays (Instruction i mention) h = none_as_before _ (branch_lost base new i mention) (branch_lost base old i mention) (branch_stays i mention) h
  flaw_stays (Words vs) h = none_as_before _ (values_lost base new vs) (values_lost base old vs) (values_stay vs) h
  flaw_stays (Aligns size most) h = refl
  flaw_stays (Sets name address) h = outside_stays _ address (nat_le base address) refl h

-- no statement of the lines has a flaw
AreFlawless : ℕ → List ListingLine → List ListingLine → Type 0
AreFlawless base all [] = Unit {0}
AreFlawless base all (l ∷ ls) = (flaw_of base all l.statement ≡ None) × AreFlawless base all ls

flawless_from : (base : ℕ) (all : List ListingLine) (n : ℕ) (ls : List ListingLine) → flaws_from base all n ls ≡ None → AreFlawless base all ls
unfolding AreFlawless
flawless_from base all n [] e = tt
flawless_from base all n (l ∷ ls) e =
    let parts = first_none n (flaw_of base all l.statement) (flaws_from base all (n + 1) ls) e in
    (parts.0, flawless_from base all (n + 1) ls parts.1)

from_flawless : (base : ℕ) (all : List ListingLine) (n : ℕ) (ls : List ListingLine) → AreFlawless base all ls → flaws_from base all n ls ≡ None
unfolding AreFlawless
from_flawless base all n [] h = refl
from_flawless base all n (l ∷ ls) h = ap (λ (o : Option Flaw). or_first n o (flaws_from base all (n + 1) ls)) h.0 ∙ from_flawless base all (n + 1) ls h.1

all_stay : (base : ℕ) (old new : List ListingLine) → ((name : Name) → lies_nowhere base new name ≡ lies_nowhere base old name) → end_of base new ≤ end_of base old → (ls : List ListingLine) → AreFlawless base old ls → AreFlawless base new ls
unfolding AreFlawless
all_stay base old new lies ends [] h = tt
all_stay base old new lies ends (l ∷ ls) h = (flaw_stays base old new lies ends l.statement h.0, all_stay base old new lies ends ls h.1)

module _ (base : ℕ) (all : List ListingLine) where
  flawless_without : (n : ℕ) (ls : List ListingLine) → AreFlawless base all ls → AreFlawless base all (without n ls)
  unfolding AreFlawless
  flawless_without n [] h = tt
  flawless_without zero (l ∷ ls) h = h
  flawless_without (suc n) (l ∷ ls) h = elim (cases_Bool (is_op l.statement)) [
    | inl op ↦ rw op (flawless_without n ls h.1)
    | inr op ↦ rw op (h.0, flawless_without (suc n) ls h.1)
  ]

  flawless_new : (write : Instr → List ℕ) (is : List Instr) (ls : List ListingLine) → AreFlawless base all ls → AreFlawless base all (map (new_line write) is ++ ls)
  unfolding AreFlawless
  flawless_new write [] ls h = h
  flawless_new write (i ∷ is) ls h = (refl, flawless_new write is ls h)

  flawless_labels : (l : ListingLine) (ns : List Name) (ls : List ListingLine) → AreFlawless base all ls → AreFlawless base all (labels_kept l ns ++ ls)
  unfolding AreFlawless
  flawless_labels l [] ls h = h
  flawless_labels l (n ∷ ns) ls h = (refl, h)

  flawless_replaced : (write : Instr → List ℕ) (p count : ℕ) (is : List Instr) (ls : List ListingLine) → AreFlawless base all ls → AreFlawless base all (replaced_lines write p count is ls)
  unfolding AreFlawless
  flawless_replaced write p count is [] h = h
  flawless_replaced write p count is (l ∷ ls) h = elim (cases_Bool (is_op l.statement && (p == 0))) [
    | inl here ↦ rw here (flawless_labels l l.names (map (new_line write) is ++ without (count - 1) ls) (flawless_new write is (without (count - 1) ls) (flawless_without (count - 1) ls h.1)))
    | inr here ↦ rw here (h.0, flawless_replaced write (p - length (places_in l.statement)) count is ls h.1)
  ]

  flawless_after : (s : Setting) (o : Option Rule) (r : Replacement) (ls : List ListingLine) → AreFlawless base all ls → AreFlawless base all (lines_after_rule s o r ls)
  flawless_after s None r ls h = h
  flawless_after s (Some rule) r ls h = flawless_replaced s.write r.place (length rule.left) (map (renamed r.registers) rule.right) ls h

-- lines without a flaw have none when they are rewritten
pub still_flawless : (s : Setting) (ls : List ListingLine) (rs : List Replacement) (new : List ListingLine) → AreSound s.table → AreRewritten s ls rs new → first_flaw s.base ls ≡ None → first_flaw s.base new ≡ None
still_flawless s ls [] new sound h none = subst (λ (ms : List ListingLine). first_flaw s.base ms ≡ None) (sym h.1) none
still_flawless s ls (r ∷ rs) new sound h none =
    let next = lines_after s r ls in
    let a = h.0.applies in
    let each = flawless_after s.base ls s _ r ls (flawless_from s.base ls 1 ls none) in
    let stays = all_stay s.base ls next (λ name. lies_after s r ls s.base name sound a) (end_after s r ls sound a) next each in
    still_flawless s next rs new sound h.1 (from_flawless s.base next 1 next stays)
