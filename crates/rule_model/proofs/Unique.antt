-- What rewriting leaves is determined.
use Rattle.std.proofs.Common.{◌≡◌, ℕ, zero, suc, ◌<◌, ◌==◌, ◌||◌, true, false, List, [], ◌∷◌, length, take, map, Some, refl, sym, ap, ◌∙◌, subst, inl, inr, arith, eqb-true, eq-eqb}
use Rattle.std.specs.Prelude.{slice_get}
use Rattle.std.proofs.lemmas.Bool.{cases_lt}
use Rattle.std.proofs.lemmas.Option.{same_Some, slice_get_past, slice_get_within}
use Rattle.thumb_instr.specs.declared.instr.Instr.{Instr}
use Rattle.thumb_instr.specs.Window.{is_in_window, Low, named, renamed, number_or, item_under}
use Rattle.thumb_instr.proofs.Registers.{low_is}
use Rattle.thumb_instr.proofs.RenamingLemmas.{named_renamed}
use Rattle.thumb_model.specs.Effect.{one_of, register_count, AreOver, is_named, normalised}
use Rattle.thumb_model.specs.Listing.{plain, ListingLine, Code, code_of}
use Rattle.rule_model.specs.Rules.{Rule, IsSoundRule, rule_at, AreSound, Applies}
use Rattle.thumb_model.proofs.Lists.{present_at, get_take, take_all, cons_same}
use Rattle.rule_model.specs.Rewriting.{Setting, Replacement, IsLeastScratch, IsFirst, lines_after, AreRewritten}
use Rattle.rule_model.specs.Laws.{IsDetermined}

-- two maps give each of these items the same
abbrev AgreeOnAll : List Low → List Low → List ℕ → Type 0
AgreeOnAll f g [] = Unit {0}
AgreeOnAll f g (x ∷ xs) = (item_under f x ≡ item_under g x) × AgreeOnAll f g xs

agree_in : (f g : List Low) (xs : List ℕ) (x : ℕ) → AgreeOnAll f g xs → one_of x xs ≡ true → item_under f x ≡ item_under g x
agree_in f g [] x a h = absurd (cc)
agree_in f g (y ∷ xs) x a h =
    elim (x == y) as (λ t. (x == y) ≡ t → (t || one_of x xs) ≡ true → item_under f x ≡ item_under g x) [
      | true ↦ λ e _. subst (λ z. item_under f z ≡ item_under g z) (sym (eqb-true x y e)) a.0
      | false ↦ λ e k. agree_in f g xs x a.1 k
    ] refl h

all_same : (f g : List Low) (xs : List ℕ) → map (item_under f) xs ≡ map (item_under g) xs → AgreeOnAll f g xs
all_same f g [] e = tt
all_same f g (x ∷ xs) e = (cc, all_same f g xs (cc))

-- two maps that rename an instruction alike agree on its registers
renamed_tells : (f g : List Low) (i : Instr) → is_in_window i ≡ true → renamed f i ≡ renamed g i → AgreeOnAll f g (named i)
renamed_tells f g i w e = all_same f g (named i) (sym (named_renamed f i w) ∙ ap named e ∙ named_renamed g i w)

all_tell : (f g : List Low) (k : ℕ) (is : List Instr) (x : ℕ) → AreOver k is → map (renamed f) is ≡ map (renamed g) is → is_named x is ≡ true → item_under f x ≡ item_under g x
all_tell f g k [] x o e h = absurd (cc)
all_tell f g k (i ∷ is) x o e h =
    let here : renamed f i ≡ renamed g i = cc in
    let there : map (renamed f) is ≡ map (renamed g) is = cc in
    elim (one_of x (named i)) as (λ t. one_of x (named i) ≡ t → (t || is_named x is) ≡ true → item_under f x ≡ item_under g x) [
      | true ↦ λ s _. agree_in f g (named i) x (renamed_tells f g i o.0 here) s
      | false ↦ λ s j. all_tell f g k is x o.2 there j
    ] refl h

same_list : (xs ys : List Low) → length xs ≡ length ys → ((k : ℕ) → k < length xs → slice_get xs k ≡ slice_get ys k) → xs ≡ ys
same_list [] [] e h = refl
same_list [] (y ∷ ys) e h = absurd (omega arith)
same_list (x ∷ xs) [] e h = absurd (omega arith)
same_list (x ∷ xs) (y ∷ ys) e h =
    let head : x ≡ y = same_Some x y (h 0 (omega arith)) in
    cons_same x y xs ys head (same_list xs ys (omega arith) (λ k l. h (suc k) (omega arith)))

pub plain_same : (is js : List Instr) → map plain is ≡ map plain js → is ≡ js
plain_same [] [] e = refl
plain_same [] (j ∷ js) e = absurd (cc)
plain_same (i ∷ is) [] e = absurd (cc)
plain_same (i ∷ is) (j ∷ js) e =
    let here : i ≡ j = cc in
    let there : map plain is ≡ map plain js = cc in
    cons_same i j is js here (plain_same is js there)

-- ---- the scratch register ----

-- what is among the numbers of registers is that of one of them, and the other way round
among : {A : Type 0} (f : A → ℕ) (xs : List A) (x : ℕ) → one_of x (map f xs) ≡ true → (k : ℕ) × (y : A) × (slice_get xs k ≡ Some y) × (x ≡ f y)
among f [] x h = absurd (cc)
among f (y ∷ xs) x h =
    elim (x == f y) as (λ t. (x == f y) ≡ t → (t || one_of x (map f xs)) ≡ true → (k : ℕ) × (z : _) × (slice_get (y ∷ xs) k ≡ Some z) × (x ≡ f z)) [
      | true ↦ λ e _. (0, y, refl, eqb-true x (f y) e)
      | false ↦ λ e j. let r = among f xs x j in (suc r.0, r.1, r.2, r.3)
    ] refl h

is_among : {A : Type 0} (f : A → ℕ) (xs : List A) (k : ℕ) (y : A) → slice_get xs k ≡ Some y → one_of (f y) (map f xs) ≡ true
is_among f [] k y e = absurd (cc)
is_among f (x ∷ xs) zero y e = ap (λ b. b || one_of (f y) (map f xs)) (eq-eqb (f y) (f x) (ap f (sym (same_Some x y e))))
is_among f (x ∷ xs) (suc k) y e = elim (f y == f x) as (λ b. (b || one_of (f y) (map f xs)) ≡ true) [ true ↦ refl | false ↦ is_among f xs k y e ]

is_in : (ns : List ℕ) (k z : ℕ) → slice_get ns k ≡ Some z → one_of z ns ≡ true
is_in [] k z e = absurd (cc)
is_in (n ∷ ns) zero z e = ap (λ b. b || one_of z ns) (eq-eqb z n (sym (same_Some n z e)))
is_in (n ∷ ns) (suc k) z e = elim (z == n) as (λ b. (b || one_of z ns) ≡ true) [ true ↦ refl | false ↦ is_in ns k z e ]

-- two maps that are the same on the left side's registers: the scratch register of the first is not below that of the second, which is the least
not_below : (rule : Rule) (xs ys : List Low) (code : Code) (p : ℕ) → IsSoundRule rule → Applies rule xs code p
    → ((k : ℕ) → k < register_count rule.left → slice_get xs k ≡ slice_get ys k) → IsLeastScratch rule ys code p
    → (x y : Low) → slice_get xs (register_count rule.left) ≡ Some x → slice_get ys (register_count rule.left) ≡ Some y → x.number < y.number → ⊥
not_below rule xs ys code p s a fronts least x y ex ey lt =
    elim (least y ey x.number lt) [
      | inl h ↦
          let m = among (λ (r : Low). r.number) (take (register_count rule.left) ys) x.number h in
          let short : m.0 < register_count rule.left = below_count m.0 m.1 m.2 in
          taken m.0 m.1 short (fronts m.0 short ∙ sym (get_take (register_count rule.left) ys m.0 short) ∙ m.2) m.3
      | inr h ↦ elim (a.live x.number h) [
        | inl g ↦ masked (among (item_under xs) rule.mask x.number g)
        | inr g ↦ absurd (let t : one_of x.number (map (λ r. r.number) xs) ≡ true = is_among (λ (r : Low). r.number) xs (register_count rule.left) x ex in cc)
      ]
    ]
  where
    below_count : (k : ℕ) (r : Low) → slice_get (take (register_count rule.left) ys) k ≡ Some r → k < register_count rule.left
    below_count k r e =
        let w = slice_get_within (take (register_count rule.left) ys) k r e in
        let within = slice_get_within ys (register_count rule.left) y ey in
        let t = take_all (register_count rule.left) ys (omega arith) in
        omega arith

    -- no register of the left side is the scratch register
    taken : (k : ℕ) (r : Low) → k < register_count rule.left → slice_get xs k ≡ Some r → x.number ≡ r.number → ⊥
    taken k r l e same = absurd (let at = a.one_to_one.distinct k (register_count rule.left) r e x ex (sym same) in omega arith)

    masked : (m : (k : ℕ) × (z : ℕ) × (slice_get rule.mask k ≡ Some z) × (x.number ≡ item_under xs z)) → ⊥
    masked m =
        let z : ℕ = m.1 in
        let as_many = a.as_many in
        elim (s.mask z (is_in rule.mask m.0 z m.2)) [
          | inl l ↦
              let r = present_at xs z (omega arith) in
              taken z r.0 l r.1 (m.3 ∙ ap (λ o. number_or o z) r.1)
          | inr l ↦
              let few = s.few in
              let same : x.number ≡ z = m.3 ∙ ap (λ o. number_or o z) (slice_get_past xs z (omega (arith, l.0))) in
              let low = x.below in
              absurd (omega (arith, l.0))
        ]

-- ---- what comes first ----

-- a rule applies at a place under one map at most
pub same_registers : (rule : Rule) (xs ys : List Low) (code : Code) (p : ℕ) → IsSoundRule rule → Applies rule xs code p → IsLeastScratch rule xs code p → Applies rule ys code p → IsLeastScratch rule ys code p → xs ≡ ys
same_registers rule xs ys code p s a least b also_least =
    let m = a.as_many in
    let n = b.as_many in
    same_list xs ys (omega arith) (λ k l.
    elim (cases_lt k (register_count rule.left)) [
      | inl h ↦ front k h
      | inr h ↦
          let near = s.near in
          let last : k ≡ register_count rule.left = omega arith in
          subst (λ j. slice_get xs j ≡ slice_get ys j) (sym last) (scratch (present_at xs (register_count rule.left) (omega arith)) (present_at ys (register_count rule.left) (omega arith)))
    ])
  where
    front : (k : ℕ) → k < register_count rule.left → slice_get xs k ≡ slice_get ys k
    front k l =
        let m = a.as_many in
        let n = b.as_many in
        let window : a.window ≡ b.window = plain_same a.window b.window (sym a.stands ∙ b.stands) in
        let sides : map (renamed xs) rule.left ≡ map (renamed ys) rule.left = sym a.matches ∙ ap (map normalised) window ∙ b.matches in
        let t = all_tell xs ys (register_count rule.left) rule.left k s.left sides (s.all_named k l) in
        let x = present_at xs k (omega arith) in
        let y = present_at ys k (omega arith) in
        let ex : item_under xs k ≡ x.0.number = ap (λ o. number_or o k) x.1 in
        let ey : item_under ys k ≡ y.0.number = ap (λ o. number_or o k) y.1 in
        x.1 ∙ ap Some (low_is x.0 y.0 (sym ex ∙ t ∙ ey)) ∙ sym y.1

    scratch : (x : Low) × (slice_get xs (register_count rule.left) ≡ Some x) → (y : Low) × (slice_get ys (register_count rule.left) ≡ Some y) → slice_get xs (register_count rule.left) ≡ slice_get ys (register_count rule.left)
    scratch x y =
        let same : x.0.number ≡ y.0.number = elim (cases_lt x.0.number y.0.number) [
          | inl l ↦ absurd (not_below rule xs ys code p s a front also_least x.0 y.0 x.1 y.1 l)
          | inr l ↦ elim (cases_lt y.0.number x.0.number) [
            | inl k ↦ absurd (not_below rule ys xs code p s b (λ j g. sym (front j g)) least y.0 x.0 y.1 x.1 k)
            | inr k ↦ omega arith
          ]
        ] in
        x.1 ∙ ap Some (low_is x.0 y.0 same) ∙ sym y.1

-- one replacement comes first at most
pub first_same : (s : Setting) (ls : List ListingLine) (r o : Replacement) → AreSound s.table → IsFirst s r ls → IsFirst s o ls → r ≡ o
first_same s ls r o sound f g =
    let p1 = f.least_place o g.applies in
    let p2 = g.least_place r f.applies in
    let place : r.place ≡ o.place = omega arith in
    let l1 = f.longest o g.applies (sym place) in
    let l2 = g.longest r f.applies place in
    let e1 = f.lowest o g.applies (sym place) (omega arith) in
    let e2 = g.lowest r f.applies place (omega arith) in
    let entry : r.entry ≡ o.entry = omega arith in
    let i1 = f.lowest_instance o g.applies (sym place) (omega arith) (sym entry) in
    let i2 = g.lowest_instance r f.applies place (omega arith) entry in
    let instance : r.instance ≡ o.instance = omega arith in
    let rule : f.applies.rule ≡ g.applies.rule = same_Some _ _ (sym f.applies.is_rule ∙ ap (λ e. rule_at s.table e r.instance) entry ∙ ap (rule_at s.table o.entry) instance ∙ g.applies.is_rule) in
    let here : Applies f.applies.rule o.registers (code_of ls) r.place = subst (λ n. Applies f.applies.rule o.registers (code_of ls) n) (sym place) (subst (λ (k : Rule). Applies k o.registers (code_of ls) o.place) (sym rule) g.applies.applies) in
    let least : IsLeastScratch f.applies.rule o.registers (code_of ls) r.place = subst (λ n. IsLeastScratch f.applies.rule o.registers (code_of ls) n) (sym place) (subst (λ (k : Rule). IsLeastScratch k o.registers (code_of ls) o.place) (sym rule) g.applies.least) in
    let registers = same_registers f.applies.rule r.registers o.registers (code_of ls) r.place (sound r.entry r.instance f.applies.rule f.applies.is_rule) f.applies.applies f.applies.least here least in
    same r o place entry instance registers
  where
    same : (r s : Replacement) → r.place ≡ s.place → r.entry ≡ s.entry → r.instance ≡ s.instance → r.registers ≡ s.registers → r ≡ s
    same r s a b c d = λ i. record { place = a i; entry = b i; instance = c i; registers = d i }

-- the replacements and the lines are determined
pub is_determined : IsDetermined
is_determined s ls sound [] [] new other a b = (refl, a.1 ∙ sym b.1)
is_determined s ls sound [] (o ∷ os) new other a b = absurd (a.0 o b.0.applies)
is_determined s ls sound (r ∷ rs) [] new other a b = absurd (b.0 r a.0.applies)
is_determined s ls sound (r ∷ rs) (o ∷ os) new other a b =
    let here : r ≡ o = first_same s ls r o sound a.0 b.0 in
    let rest = is_determined s (lines_after s r ls) sound rs os new other a.1 (subst (λ t. AreRewritten s (lines_after s t ls) os other) (sym here) b.1) in
    (cons_same r o rs os here rest.0, rest.1)
