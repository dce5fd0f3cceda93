-- Rows of bits: the number that a row forms, reading it back, and that no number agrees with two rows.
use Rattle.std.proofs.Common.{◌≡◌, ◌∙◌, inl, inr, ℕ, suc, ◌+◌, ◌-◌, ◌*◌, ◌/◌, ◌%◌, ◌^◌, ◌<◌, ◌≤◌, ◌==◌, ◌&&◌, ◌||◌, not, Bool, true, false, List, [], ◌∷◌, ◌++◌, length, drop, get_or, drop-cons, add-one, refl, sym, ap, subst, arith, true≢false, eqb-true, eq-eqb, lit<}
use Rattle.std.specs.Prelude.{if◌then◌else◌, nat_lt, nat_le}
use Rattle.std.proofs.Math.Pow.{high, low, field, mod-mod-pow}
use Rattle.std.proofs.Math.Nat.{mod-lt, pow-le-pow_right, div-lt_iff_lt-mul}
use Rattle.std.proofs.lemmas.Nat.{pow_pos, pow-add, shr-shr, mod-pow-add}
use Rattle.std.proofs.lemmas.Bool.{and_parts, and_from, or_cases, leb-true, le-leb, ltb-true, cases_Bool}
use Rattle.thumb_instr.specs.declared.kind.Parts.{Parts}
use Rattle.thumb_table.specs.declared.row.OperandPosition.{OperandPosition}
use Rattle.thumb_table.specs.declared.row.OperandPosition.TheVariants as position
use Rattle.thumb_table.specs.declared.row.Piece.{Piece}
use Rattle.thumb_table.specs.declared.row.Piece.TheVariants.{Fixed, Bits, Amount, Same}
use Rattle.thumb_table.specs.Table.{width_of, width, number, same, value_of, packed}
use Rattle.thumb_table.specs.ReadBits.{holds, agrees, is_operand, told, is_about, read_on, is_narrow, are_narrow, most_of, most}

-- ---- the number that a row forms ----

pub same_most : (a b : ℕ) → same a b ≤ 1
same_most a b = elim (a == b) as (λ t. (if t then 1 else 0) ≤ 1) [ true ↦ omega arith | false ↦ omega arith ]

pub value_below : (p : Piece) (m : Parts) → is_narrow p ≡ true → value_of p m < 2 ^ width_of p
value_below (Fixed w x) m n = ltb-true x (2 ^ w) n
value_below (Bits w o from least) m n = mod-lt (number o m / 2 ^ from) (pow_pos w)
value_below (Amount w o) m n = mod-lt (number o m) (pow_pos w)
value_below (Same o a b) m n = let h = same_most (number o m / 2 ^ a % 2) (number o m / 2 ^ b % 2) in omega arith

head_below : (x w n p : ℕ) → x < 2 ^ w → p < 2 ^ n → x * 2 ^ n + p < 2 ^ (w + n)
head_below x w n p h k = rw (pow-add 2 w n) (grind arith)

pub packed_below : (ps : List Piece) (m : Parts) → are_narrow ps ≡ true → packed ps m < 2 ^ width ps
unfolding are_narrow packed
packed_below [] m n = omega arith
packed_below (p ∷ ps) m n =
    let parts = and_parts (is_narrow p) (are_narrow ps) n in
    head_below (value_of p m) (width_of p) (width ps) (packed ps m) (value_below p m parts.0) (packed_below ps m parts.1)

-- the upper bits of a number
pub upper_below : (c n w l : ℕ) → l ≡ w + n → c < 2 ^ l → c / 2 ^ n < 2 ^ w
upper_below c n w l e h =
    let long : 2 ^ l ≡ 2 ^ w * 2 ^ n = ap (λ (k : ℕ). 2 ^ k) e ∙ pow-add 2 w n in
    (div-lt_iff_lt-mul {k = 2 ^ n} {x = c} {y = 2 ^ w} (pow_pos n)).1 (omega arith)

pub packed_word : (ps : List Piece) (m : Parts) → are_narrow ps ≡ true → width ps ≤ 32 → packed ps m < 4294967296
packed_word ps m n w = let h = packed_below ps m n in let p : 2 ^ width ps ≤ 2 ^ 32 = pow-le-pow_right (lit< tt) w in omega arith

-- each piece can hold its value for an instruction
unfoldable pub fits : List Piece → Parts → Bool
fits [] m = true
fits (p ∷ ps) m = holds p (value_of p m) && fits ps m

pub packed_agrees : (ps : List Piece) (m : Parts) → are_narrow ps ≡ true → fits ps m ≡ true → agrees ps (packed ps m) ≡ true
unfolding are_narrow packed agrees fits
packed_agrees [] m n f = refl
packed_agrees (p ∷ ps) m n f =
    let parts = and_parts (is_narrow p) (are_narrow ps) n in
    let fit = and_parts (holds p (value_of p m)) (fits ps m) f in
    let rest = packed_below ps m parts.1 in
    and_from _ _ (subst (λ (x : ℕ). holds p x ≡ true) (sym (high (value_of p m) (width ps) rest)) fit.0)
    (subst (λ (c : ℕ). agrees ps c ≡ true) (sym (low (value_of p m) (width ps) rest)) (packed_agrees ps m parts.1 fit.1))

-- no piece has a least number
unfoldable pub are_free : List Piece → Bool
are_free [] = true
are_free (Bits w o from least ∷ ps) = (least == 0) && are_free ps
are_free (p ∷ ps) = are_free ps

pub free_fits : (ps : List Piece) (m : Parts) → are_free ps ≡ true → fits ps m ≡ true
unfolding are_free fits
free_fits [] m f = refl
free_fits (Fixed w x ∷ ps) m f = and_from _ _ (eq-eqb x x refl) (free_fits ps m f)
free_fits (Bits w o from least ∷ ps) m f =
    let parts = and_parts (least == 0) (are_free ps) f in
    let none = eqb-true least 0 parts.0 in
    and_from _ _ (le-leb least (value_of (Bits w o from least) m) (omega arith)) (free_fits ps m parts.1)
free_fits (Amount w o ∷ ps) m f = free_fits ps m f
free_fits (Same o a b ∷ ps) m f = free_fits ps m f

-- ---- reading a row ----

-- what reading a row's pieces yields, if they hold an instruction's values
unfoldable pub gathered : OperandPosition → List Piece → Parts → ℕ → ℕ
gathered o [] m n = n
gathered o (p ∷ ps) m n = gathered o ps m (if is_about o p then told p (value_of p m) n else n)

pub read_packed : (o : OperandPosition) (ps : List Piece) (m : Parts) (n : ℕ) → are_narrow ps ≡ true → read_on o ps (packed ps m) n ≡ gathered o ps m n
unfolding are_narrow packed read_on gathered
read_packed o [] m n k = refl
read_packed o (p ∷ ps) m n k =
    let parts = and_parts (is_narrow p) (are_narrow ps) k in
    let rest = packed_below ps m parts.1 in
    let first = high (value_of p m) (width ps) rest in
    let second = low (value_of p m) (width ps) rest in
    rw (first, second) (read_packed o ps m (if is_about o p then told p (value_of p m) n else n) parts.1)

-- a row from one of its pieces on: that piece, and the pieces after it
pub record Cut (ps : List Piece) (i : ℕ) (p : Piece) : Type 0 where
  pub wide : width (drop i ps) ≡ width_of p + width (drop (i + 1) ps)
  pub most : most (drop i ps) ≡ most_of p + most (drop (i + 1) ps)
  pub narrow : are_narrow (drop i ps) ≡ true → (is_narrow p ≡ true) × (are_narrow (drop (i + 1) ps) ≡ true)
  pub read : (o : OperandPosition) (c n : ℕ) → read_on o (drop i ps) c n ≡ read_on o (drop (i + 1) ps) (c % 2 ^ width (drop (i + 1) ps)) (if is_about o p then told p (c / 2 ^ width (drop (i + 1) ps)) n else n)

pub cut_at : (ps : List Piece) (i : ℕ) → i < length ps → Cut ps i (get_or ps i (Fixed 0 0))
unfolding are_narrow read_on
cut_at ps i h =
    let p = get_or ps i (Fixed 0 0) in
    let split : drop i ps ≡ p ∷ drop (i + 1) ps = rw add-one (drop-cons ps i (Fixed 0 0) h) in
    record {
      wide = ap width split;
      most = ap most split;
      narrow = λ n. and_parts (is_narrow p) (are_narrow (drop (i + 1) ps)) (ap are_narrow (sym split) ∙ n);
      read = λ o c n. ap (λ (qs : List Piece). read_on o qs c n) split;
    }

-- the pieces hold the lowest n bits of a register or number, each bit once, from the highest down
unfoldable pub spans : OperandPosition → List Piece → ℕ → Bool
spans o [] n = n == 0
spans o (Fixed w x ∷ ps) n = spans o ps n
spans o (Bits w p from least ∷ ps) n = if is_operand o p then (n == from + w) && spans o ps from else spans o ps n
spans o (Amount w p ∷ ps) n = not (is_operand o p) && spans o ps n
spans o (Same p a b ∷ ps) n = not (is_operand o p) && spans o ps n

same_operand : (o p : OperandPosition) → is_operand o p ≡ true → o ≡ p
same_operand position.First position.First e = refl
same_operand position.Second position.Second e = refl
same_operand position.Third position.Third e = refl
same_operand o p e = absurd (true≢false (sym e))

pub spanned : (o : OperandPosition) (ps : List Piece) (m : Parts) (k n : ℕ) → spans o ps k ≡ true → gathered o ps m n ≡ n + number o m % 2 ^ k
unfolding spans gathered
spanned o [] m k n s = let e : k ≡ 0 = eqb-true k 0 s in rw e (omega arith)
spanned o (Fixed w x ∷ ps) m k n s = spanned o ps m k n s
spanned o (Bits w p from least ∷ ps) m k n s = elim (cases_Bool (is_operand o p)) [
  | inl e ↦
      (let both : ((k == from + w) && spans o ps from) ≡ true = rw e at s in
      let parts = and_parts (k == from + w) (spans o ps from) both in
      let long : k ≡ w + from = (let h = eqb-true k (from + w) parts.0 in omega arith) in
      let is : o ≡ p = same_operand o p e in
      let here : number p m ≡ number o m = ap (λ (x : OperandPosition). number x m) (sym is) in
      let more = spanned o ps m from (n + number o m / 2 ^ from % 2 ^ w * 2 ^ from) parts.1 in
      let cut : number o m % 2 ^ (w + from) ≡ (number o m / 2 ^ from % 2 ^ w) * 2 ^ from + number o m % 2 ^ from = mod-pow-add (number o m) w from in
      rw (e, here, more, long) (omega (arith, cut)))
  | inr e ↦ (let rest : spans o ps k ≡ true = rw e at s in rw e (spanned o ps m k n rest))
]
spanned o (Amount w p ∷ ps) m k n s =
    let parts = and_parts (not (is_operand o p)) (spans o ps k) s in
    elim (cases_Bool (is_operand o p)) [
      | inl e ↦ absurd (true≢false (let bad : not true ≡ true = rw e at parts.0 in sym bad))
      | inr e ↦ rw e (spanned o ps m k n parts.1)
    ]
spanned o (Same p a b ∷ ps) m k n s =
    let parts = and_parts (not (is_operand o p)) (spans o ps k) s in
    elim (cases_Bool (is_operand o p)) [
      | inl e ↦ absurd (true≢false (let bad : not true ≡ true = rw e at parts.0 in sym bad))
      | inr e ↦ rw e (spanned o ps m k n parts.1)
    ]

-- ---- rows apart ----

abbrev disjoint : Piece → Piece → Bool
disjoint (Fixed w x) (Fixed v y) = not (x == y)
disjoint (Fixed w x) (Bits v o from least) = nat_lt x least
disjoint (Bits w o from least) (Fixed v y) = nat_lt y least
disjoint p q = false

-- w bits that are free
abbrev free : ℕ → Piece
free w = Bits w position.First 0 0

-- a row with its first w bits as a piece of their own: each number that agrees with the old row agrees with it
abbrev cut : ℕ → Piece → List Piece → List Piece
cut w (Fixed v x) ps = Fixed w (x / 2 ^ (v - w)) ∷ Fixed (v - w) (x % 2 ^ (v - w)) ∷ ps
cut w p ps = free w ∷ free (width_of p - w) ∷ ps

-- a position where the rows differ is found in at most n steps
unfoldable pub clash : ℕ → List Piece → List Piece → Bool
clash (suc n) (p ∷ ps) (q ∷ qs) =
    if width_of p == width_of q then disjoint p q || clash n ps qs
    else if nat_lt (width_of p) (width_of q) then clash n (p ∷ ps) (cut (width_of p) q qs)
    else clash n (cut (width_of q) p ps) (q ∷ qs)
clash k l m = false

cut_width : (w : ℕ) (p : Piece) (ps : List Piece) → w < width_of p → width (cut w p ps) ≡ width (p ∷ ps)
cut_width w (Fixed v x) ps h = omega arith
cut_width w (Bits v o from least) ps h = omega arith
cut_width w (Amount v o) ps h = omega arith
cut_width w (Same o a b) ps h = omega arith

-- two free pieces in place of a piece: what agrees with the rest of the row agrees with them
cut_free : (w v : ℕ) (ps : List Piece) (c : ℕ) → w < v → agrees ps (c % 2 ^ width ps) ≡ true → agrees (free w ∷ free (v - w) ∷ ps) c ≡ true
unfolding agrees
cut_free w v ps c h a =
    and_from _ _ (le-leb 0 (c / 2 ^ (v - w + width ps)) (omega arith)) (and_from _ _ (le-leb 0 (c % 2 ^ (v - w + width ps) / 2 ^ width ps) (omega arith)) (subst (λ (n : ℕ). agrees ps n ≡ true) (sym (mod-mod-pow c (v - w) (width ps))) a))

cut_agrees : (w : ℕ) (p : Piece) (ps : List Piece) (c : ℕ) → w < width_of p → agrees (p ∷ ps) c ≡ true → agrees (cut w p ps) c ≡ true
unfolding agrees
cut_agrees w (Fixed v x) ps c h a =
    let parts = and_parts (c / 2 ^ width ps == x) (agrees ps (c % 2 ^ width ps)) a in
    let is : c / 2 ^ width ps ≡ x = eqb-true (c / 2 ^ width ps) x parts.0 in
    let j = v - w in
    let first : c / 2 ^ (j + width ps) ≡ x / 2 ^ j = ap (λ (n : ℕ). c / 2 ^ n) (let e : j + width ps ≡ width ps + j = omega arith in e) ∙ (sym (shr-shr c (width ps) j) ∙ ap (λ (n : ℕ). n / 2 ^ j) is) in
    let second : c % 2 ^ (j + width ps) / 2 ^ width ps ≡ x % 2 ^ j = field c j (width ps) ∙ ap (λ (n : ℕ). n % 2 ^ j) is in
    let third : c % 2 ^ (j + width ps) % 2 ^ width ps ≡ c % 2 ^ width ps = mod-mod-pow c j (width ps) in
    and_from _ _ (eq-eqb _ _ first) (and_from _ _ (eq-eqb _ _ second) (subst (λ (n : ℕ). agrees ps n ≡ true) (sym third) parts.1))
cut_agrees w (Bits v o from least) ps c h a = cut_free w v ps c h (and_parts (nat_le least (c / 2 ^ width ps)) (agrees ps (c % 2 ^ width ps)) a).1
cut_agrees w (Amount v o) ps c h a = cut_free w v ps c h a
cut_agrees w (Same o x y) ps c h a = cut_free w 1 ps c h a

no_both : (p q : Piece) (h : ℕ) → disjoint p q ≡ true → holds p h ≡ true → holds q h ≡ true → ⊥
no_both (Fixed w x) (Fixed v y) h d a b =
    let e = eqb-true h x a in
    let f = eqb-true h y b in
    true≢false (sym d ∙ ap not (eq-eqb x y (omega arith)))
no_both (Fixed w x) (Bits v o from least) h d a b = let e = eqb-true h x a in let f = leb-true least h b in let g = ltb-true x least d in omega arith
no_both (Bits w o from least) (Fixed v y) h d a b = let e = eqb-true h y b in let f = leb-true least h a in let g = ltb-true y least d in omega arith
no_both p q h d a b = true≢false (sym d)

pub clash_apart : (n : ℕ) (ps qs : List Piece) (c : ℕ) → clash n ps qs ≡ true → width ps ≡ width qs → agrees ps c ≡ true → agrees qs c ≡ true → ⊥
unfolding clash agrees
clash_apart (suc n) (p ∷ ps) (q ∷ qs) c k w a b =
    elim (cases_Bool (width_of p == width_of q)) [
      | inl e ↦
          (let widths = eqb-true (width_of p) (width_of q) e in
          let same : width ps ≡ width qs = omega arith in
          let h = c / 2 ^ width ps in
          let ka : (disjoint p q || clash n ps qs) ≡ true = rw e at k in
          let first = and_parts (holds p h) (agrees ps (c % 2 ^ width ps)) a in
          let b' : (holds q h && agrees qs (c % 2 ^ width ps)) ≡ true = subst (λ (m : ℕ). (holds q (c / 2 ^ m) && agrees qs (c % 2 ^ m)) ≡ true) (sym same) b in
          let second = and_parts (holds q h) (agrees qs (c % 2 ^ width ps)) b' in
          elim (or_cases (disjoint p q) (clash n ps qs) ka) [ inl d ↦ no_both p q h d first.0 second.0 | inr r ↦ clash_apart n ps qs (c % 2 ^ width ps) r same first.1 second.1 ])
      | inr e ↦
          (let ka : (if nat_lt (width_of p) (width_of q) then clash n (p ∷ ps) (cut (width_of p) q qs) else clash n (cut (width_of q) p ps) (q ∷ qs)) ≡ true = rw e at k in
          elim (cases_Bool (nat_lt (width_of p) (width_of q))) [
            | inl l ↦
                (let lt : width_of p < width_of q = ltb-true _ _ l in
                let kb : clash n (p ∷ ps) (cut (width_of p) q qs) ≡ true = rw l at ka in
                clash_apart n (p ∷ ps) (cut (width_of p) q qs) c kb (w ∙ sym (cut_width (width_of p) q qs lt)) a (cut_agrees (width_of p) q qs c lt b))
            | inr l ↦
                (let lt : width_of q < width_of p = grind arith in
                let kb : clash n (cut (width_of q) p ps) (q ∷ qs) ≡ true = rw l at ka in
                clash_apart n (cut (width_of q) p ps) (q ∷ qs) c kb (cut_width (width_of q) p ps lt ∙ w) (cut_agrees (width_of q) p ps c lt a) b)
          ])
    ]
clash_apart n ps qs c k w a b = true≢false (sym k)

-- ---- rows of one halfword among those of two ----

-- a row of one halfword, followed by a free halfword
abbrev pub padded : List Piece → List Piece
padded ps = ps ++ free 16 ∷ []

pub width_padded : (ps : List Piece) → width (padded ps) ≡ width ps + 16
width_padded [] = refl
width_padded (p ∷ ps) = let e = width_padded ps in omega arith

pub agrees_padded : (ps : List Piece) (a b : ℕ) → b < 65536 → a < 2 ^ width ps → agrees ps a ≡ true → agrees (padded ps) (a * 65536 + b) ≡ true
unfolding agrees
agrees_padded [] a b h l g = and_from _ _ (le-leb 0 ((a * 65536 + b) / 1) (omega arith)) refl
agrees_padded (p ∷ ps) a b h l g =
    let parts = and_parts (holds p (a / 2 ^ width ps)) (agrees ps (a % 2 ^ width ps)) g in
    let n = a * 65536 + b in
    let up : n / 2 ^ 16 ≡ a = high a 16 h in
    let down : n % 2 ^ 16 ≡ b = low a 16 h in
    let w : width (padded ps) ≡ width ps + 16 = width_padded ps in
    let first : a / 2 ^ width ps ≡ n / 2 ^ width (padded ps) =
    sym (ap (λ (m : ℕ). n / 2 ^ m) (let e : width (padded ps) ≡ 16 + width ps = omega arith in e) ∙ (sym (shr-shr n 16 (width ps)) ∙ ap (λ (m : ℕ). m / 2 ^ width ps) up)) in
    let rest : (a % 2 ^ width ps) * 65536 + b ≡ n % 2 ^ width (padded ps) =
    sym (ap (λ (m : ℕ). n % 2 ^ m) w ∙ (mod-pow-add n (width ps) 16 ∙ (ap (λ (m : ℕ). (m % 2 ^ width ps) * 65536 + n % 2 ^ 16) up ∙ ap (λ (m : ℕ). (a % 2 ^ width ps) * 65536 + m) down))) in
    let more = agrees_padded ps (a % 2 ^ width ps) b h (mod-lt a (pow_pos (width ps))) parts.1 in
    and_from _ _ (subst (λ (m : ℕ). holds p m ≡ true) first parts.0) (subst (λ (m : ℕ). agrees (padded ps) m ≡ true) rest more)
