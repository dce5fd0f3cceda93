-- For each instruction with its label: the form in which it is written, whose slots read its text back.
use Rattle.std.proofs.Common.{◌≡◌, ◌∙◌, inl, inr, ℕ, ◌*◌, ◌<◌, ◌≤◌, ◌^◌, ◌&&◌, ◌||◌, ◌==◌, true, List, [], ◌∷◌, Option, Some, None, refl, sym, ap, subst, arith, true≢false, eqb-true, eq-eqb, lt-ltb}
use Rattle.std.specs.Prelude.{nat_lt, nat_le, slice_get, if◌then◌else◌}
use Rattle.std.proofs.lemmas.Bool.{cases_Bool, and_parts, and_from, le-leb, le-ltb, agree_below, agree_below_at}
use Rattle.thumb_syntax.specs.declared.form.OperandPosition.TheVariants as position
use Rattle.thumb_syntax.specs.declared.form.Slot.{Slot}
use Rattle.thumb_syntax.specs.declared.form.Slot.TheVariants as slot
use Rattle.thumb_instr.specs.declared.kind.Kind.{Kind}
use Rattle.thumb_instr.specs.declared.kind.Parts.{Parts}
use Rattle.thumb_instr.specs.Parts.{of}
use Rattle.thumb_syntax.specs.Slots.{Fields, empty, is_in_list}
use Rattle.thumb_syntax.specs.OperandForms.{first, second, comma, two, three, amount, byte_number, byte_alone, one, label, labelled, same_last, indexed, with_offset, without_offset, from_sp, at_sp, sp_again, written_back, load_apart, load_within}
use Rattle.thumb_syntax.specs.Rows.{Row}
use Rattle.thumb_syntax.specs.RowLaws.{rows}
use Rattle.thumb_syntax.specs.Forms.{mnemonic}
use Rattle.thumb_syntax.specs.Spelling.{slots as canonical, operands_text}
use Rattle.thumb_syntax.specs.Whole.{is_label, is_label_sum, is_unlabelled}
use Rattle.thumb_syntax.proofs.SlotText.{stored, slots_fit, number_fits}

abbrev pub fields : ℕ → ℕ → ℕ → Option (List ℕ × ℕ) → Fields
fields a b c l = record { first = a; second = b; third = c; label = l }

abbrev pub row_at : List ℕ → List Slot → Kind → Row
row_at m ss k = record { mnemonic = m; slots = ss; kind = k }

-- a form is at this index of the table
abbrev pub Stands : ℕ → Kind → List Slot → Type 0
Stands n k ss = slice_get rows n ≡ Some (row_at (mnemonic k) ss k)

-- the text of an instruction and its label as the slots of a form write it
pub record Written (m : Parts) (l : Option (List ℕ × ℕ)) : Type 0 where
  pub place : ℕ
  pub slots : List Slot
  pub is_there : Stands place m.kind slots
  pub text : operands_text (canonical m.kind m.first m.second m.third) (fields m.first m.second m.third l) ≡ operands_text slots (fields m.first m.second m.third l)
  pub fit : slots_fit slots empty (fields m.first m.second m.third l) ≡ true
  pub back : stored slots empty (fields m.first m.second m.third l) ≡ fields m.first m.second m.third l

no_label : (l : Option (List ℕ × ℕ)) → is_unlabelled l ≡ true → None ≡ l
no_label None e = refl
no_label (Some l) e = absurd (true≢false (sym e))

-- without a label
plain_row : (m : Parts) (l : Option (List ℕ × ℕ)) (n : ℕ) (ss : List Slot) → Stands n m.kind ss → canonical m.kind m.first m.second m.third ≡ ss
    → slots_fit ss empty (fields m.first m.second m.third l) ≡ true → stored ss empty (fields m.first m.second m.third l) ≡ fields m.first m.second m.third None
    → is_unlabelled l ≡ true → Written m l
plain_row m l n ss there slots' fit back none = record {
  place = n;
  slots = ss;
  is_there = there;
  text = ap (λ (ts : List Slot). operands_text ts (fields m.first m.second m.third l)) slots';
  fit = fit;
  back = back ∙ ap (fields m.first m.second m.third) (no_label l none);
}

register16 : (n : ℕ) → n < 16 → nat_lt n 16 ≡ true
register16 n less = lt-ltb n 16 less

low16 : (n : ℕ) → n < 8 → nat_lt n 16 ≡ true
low16 n less = lt-ltb n 16 (omega arith)

fits_number : (least most step v : ℕ) → 0 < step → least ≤ v * step → v * step ≤ most → most < 2 ^ 32 → number_fits least most step v ≡ true
fits_number least most step v some low high small =
    and_from (nat_lt 0 step) _ (lt-ltb 0 step some)
    (and_from (nat_le least (v * step)) _ (le-leb least (v * step) low)
    (and_from (nat_le (v * step) most) (nat_lt (v * step) (2 ^ 32)) (le-leb (v * step) most high) (lt-ltb (v * step) (2 ^ 32) (omega arith))))

pub two_row : (k : Kind) (n a b : ℕ) (l : Option (List ℕ × ℕ)) → Stands n k two → canonical k a b 0 ≡ two → a < 16 → b < 16 → is_unlabelled l ≡ true → Written (of k a b 0) l
two_row k n a b l there slots' p q none = plain_row (of k a b 0) l n two there slots' (rw (lt-ltb a 16 p, lt-ltb b 16 q) refl) refl none

-- two low registers
pub low_row : (k : Kind) (n a b : ℕ) (l : Option (List ℕ × ℕ)) → Stands n k two → canonical k a b 0 ≡ two → a < 8 → b < 8 → is_unlabelled l ≡ true → Written (of k a b 0) l
low_row k n a b l there slots' p q none = two_row k n a b l there slots' (omega arith) (omega arith) none

pub zero_row : (k : Kind) (n a b : ℕ) (l : Option (List ℕ × ℕ)) → Stands n k (first ∷ comma ∷ second ∷ comma ∷ slot.Exactly 0 ∷ []) → canonical k a b 0 ≡ first ∷ comma ∷ second ∷ comma ∷ slot.Exactly 0 ∷ []
    → a < 8 → b < 8 → is_unlabelled l ≡ true → Written (of k a b 0) l
zero_row k n a b l there slots' p q none = plain_row (of k a b 0) l n _ there slots' (rw (low16 a p, low16 b q) refl) refl none

pub same_row : (k : Kind) (n a b : ℕ) (l : Option (List ℕ × ℕ)) → Stands n k same_last → canonical k a b 0 ≡ same_last
    → a < 8 → b < 8 → is_unlabelled l ≡ true → Written (of k a b 0) l
same_row k n a b l there slots' p q none = plain_row (of k a b 0) l n _ there slots' (rw (low16 a p, low16 b q, eq-eqb a a refl) refl) refl none

pub three_row : (k : Kind) (n a b c : ℕ) (l : Option (List ℕ × ℕ)) → Stands n k three → canonical k a b c ≡ three → a < 8 → b < 8 → c < 8 → is_unlabelled l ≡ true → Written (of k a b c) l
three_row k n a b c l there slots' p q r none = plain_row (of k a b c) l n three there slots' (rw (low16 a p, low16 b q, low16 c r) refl) refl none

pub indexed_row : (k : Kind) (n a b c : ℕ) (l : Option (List ℕ × ℕ)) → Stands n k indexed → canonical k a b c ≡ indexed → a < 8 → b < 8 → c < 8 → is_unlabelled l ≡ true → Written (of k a b c) l
indexed_row k n a b c l there slots' p q r none = plain_row (of k a b c) l n indexed there slots' (rw (low16 a p, low16 b q, low16 c r) refl) refl none

-- the numbers below an end fit the slot of that range
abbrev all_fit : ℕ → ℕ → ℕ → ℕ → Type 0
all_fit least most step end = agree_below (λ v. nat_lt v least || number_fits least most step v) (λ v. true) end ≡ true

one_fits : (least most step end v : ℕ) → all_fit least most step end → least ≤ v → v < end → number_fits least most step v ≡ true
one_fits least most step end v all low less =
    let this : (nat_lt v least || number_fits least most step v) ≡ true = agree_below_at (λ x. nat_lt x least || number_fits least most step x) (λ x. true) end v all less in
    let reached = le-ltb v least low in
    rw reached at this

pub amount_row : (k : Kind) (n least most end a b c : ℕ) (l : Option (List ℕ × ℕ)) → Stands n k (amount least most) → canonical k a b c ≡ amount least most
    → all_fit least most 1 end → a < 8 → b < 8 → least ≤ c → c < end → is_unlabelled l ≡ true → Written (of k a b c) l
amount_row k n least most end a b c l there slots' all p q r s none =
    plain_row (of k a b c) l n (amount least most) there slots' (rw (low16 a p, low16 b q, one_fits least most 1 end c all r s) refl) refl none

pub byte_row : (k : Kind) (n a b : ℕ) (l : Option (List ℕ × ℕ)) → Stands n k byte_number → canonical k a b 0 ≡ byte_number
    → a < 8 → b < 256 → is_unlabelled l ≡ true → Written (of k a b 0) l
byte_row k n a b l there slots' p q none = plain_row (of k a b 0) l n _ there slots' (rw (low16 a p, fits_number 0 255 1 b (omega arith) (omega arith) (omega arith) (omega arith)) refl) refl none

pub one_row : (k : Kind) (n a : ℕ) (l : Option (List ℕ × ℕ)) → Stands n k one → canonical k a 0 0 ≡ one → a < 15 → is_unlabelled l ≡ true → Written (of k a 0 0) l
one_row k n a l there slots' p none = plain_row (of k a 0 0) l n _ there slots' (rw (register16 a (omega arith)) refl) refl none

pub alone_row : (k : Kind) (n a : ℕ) (l : Option (List ℕ × ℕ)) → Stands n k byte_alone → canonical k a 0 0 ≡ byte_alone → a < 256 → is_unlabelled l ≡ true → Written (of k a 0 0) l
alone_row k n a l there slots' p none = plain_row (of k a 0 0) l n _ there slots' (rw (fits_number 0 255 1 a (omega arith) (omega arith) (omega arith) (omega arith)) refl) refl none

pub label_sum_row : (k : Kind) (n a : ℕ) (l : Option (List ℕ × ℕ)) → Stands n k labelled → canonical k a 0 0 ≡ labelled → a < 8 → is_label_sum l ≡ true → Written (of k a 0 0) l
label_sum_row k n a l there slots' p e = record {
  place = n;
  slots = labelled;
  is_there = there;
  text = ap (λ (ts : List Slot). operands_text ts (fields a 0 0 l)) slots';
  fit = rw (low16 a p, e) refl;
  back = refl;
}

pub label_row : (k : Kind) (n : ℕ) (l : Option (List ℕ × ℕ)) → Stands n k label → canonical k 0 0 0 ≡ label → is_label l ≡ true → Written (of k 0 0 0) l
label_row k n l there slots' e = record {
  place = n;
  slots = label;
  is_there = there;
  text = ap (λ (ts : List Slot). operands_text ts (fields 0 0 0 l)) slots';
  fit = rw e refl;
  back = refl;
}

-- kinds with a label have distance 0
pub jump_row : (k : Kind) (n i : ℕ) (l : Option (List ℕ × ℕ)) → Stands n k label → canonical k 0 0 0 ≡ label → ((i == 0) && is_label l) ≡ true → Written (of k i 0 0) l
jump_row k n i l there slots' e =
    let parts = and_parts (i == 0) (is_label l) e in
    subst (λ (x : ℕ). Written (of k x 0 0) l) (sym (eqb-true i 0 parts.0)) (label_row k n l there slots' parts.1)

pub place_row : (k : Kind) (n a i : ℕ) (l : Option (List ℕ × ℕ)) → Stands n k labelled → canonical k a 0 0 ≡ labelled → a < 8 → ((i == 0) && is_label_sum l) ≡ true → Written (of k a i 0) l
place_row k n a i l there slots' p e =
    let parts = and_parts (i == 0) (is_label_sum l) e in
    subst (λ (x : ℕ). Written (of k a x 0) l) (sym (eqb-true i 0 parts.0)) (label_sum_row k n a l there slots' p parts.1)

pub offset_row : (k : Kind) (n z most step a b c : ℕ) (l : Option (List ℕ × ℕ)) → Stands n k (with_offset most step) → Stands z k without_offset → canonical k a b c ≡ (if c == 0 then without_offset else with_offset most step)
    → all_fit 0 most step 32 → a < 8 → b < 8 → c < 32 → is_unlabelled l ≡ true → Written (of k a b c) l
offset_row k n z most step a b c l some none slots' all p q r free =
    elim (cases_Bool (c == 0)) [
      | inl e ↦ plain_row (of k a b c) l z without_offset none (slots' ∙ rw e refl) (rw (low16 a p, low16 b q) refl) (ap (λ (x : ℕ). fields a b x None) (sym (eqb-true c 0 e))) free
      | inr e ↦ plain_row (of k a b c) l n (with_offset most step) some (slots' ∙ rw e refl) (rw (low16 a p, low16 b q, one_fits 0 most step 32 c all (omega arith) r) refl) refl free
    ]

fits_words : (v : ℕ) → v < 256 → number_fits 0 1020 4 v ≡ true
fits_words v less = fits_number 0 1020 4 v (omega arith) (omega arith) (omega arith) (omega arith)

pub stack_row : (k : Kind) (n z a b : ℕ) (l : Option (List ℕ × ℕ)) → Stands n k from_sp → Stands z k at_sp → canonical k a b 0 ≡ (if b == 0 then at_sp else from_sp)
    → a < 8 → b < 256 → is_unlabelled l ≡ true → Written (of k a b 0) l
stack_row k n z a b l some none slots' p q free =
    elim (cases_Bool (b == 0)) [
      | inl e ↦ plain_row (of k a b 0) l z at_sp none (slots' ∙ rw e refl) (rw (low16 a p) refl) (ap (λ (x : ℕ). fields a x 0 None) (sym (eqb-true b 0 e))) free
      | inr e ↦ plain_row (of k a b 0) l n from_sp some (slots' ∙ rw e refl) (rw (low16 a p, fits_words b q) refl) refl free
    ]

abbrev sp_sum : List Slot
sp_sum = first ∷ comma ∷ slot.Sp ∷ comma ∷ slot.Number position.Second 0 1020 4 ∷ []

pub sp_sum_row : (k : Kind) (n a b : ℕ) (l : Option (List ℕ × ℕ)) → Stands n k sp_sum → canonical k a b 0 ≡ sp_sum → a < 8 → b < 256 → is_unlabelled l ≡ true → Written (of k a b 0) l
sp_sum_row k n a b l there slots' p q none = plain_row (of k a b 0) l n sp_sum there slots' (rw (low16 a p, fits_words b q) refl) refl none

pub sp_move_row : (k : Kind) (n a : ℕ) (l : Option (List ℕ × ℕ)) → Stands n k sp_again → canonical k a 0 0 ≡ sp_again → a < 128 → is_unlabelled l ≡ true → Written (of k a 0 0) l
sp_move_row k n a l there slots' p none = plain_row (of k a 0 0) l n sp_again there slots' (rw (fits_number 0 508 4 a (omega arith) (omega arith) (omega arith) (omega arith)) refl) refl none

pub list_row : (k : Kind) (n extra a : ℕ) (l : Option (List ℕ × ℕ)) → Stands n k (slot.StackList position.First extra ∷ []) → canonical k a 0 0 ≡ slot.StackList position.First extra ∷ [] → (extra == 14 || extra == 15) ≡ true → 0 < a → a < 512 → is_unlabelled l ≡ true → Written (of k a 0 0) l
list_row k n extra a l there slots' which p q none = plain_row (of k a 0 0) l n _ there slots' (rw (which, lt-ltb 0 a p, lt-ltb a 512 q) refl) refl none

pub store_row : (k : Kind) (n a b : ℕ) (l : Option (List ℕ × ℕ)) → Stands n k written_back → canonical k a b 0 ≡ written_back → a < 8 → 0 < b → b < 256 → is_unlabelled l ≡ true → Written (of k a b 0) l
store_row k n a b l there slots' p q r none = plain_row (of k a b 0) l n written_back there slots' (rw (lt-ltb a 8 p, lt-ltb 0 b q, lt-ltb b 256 r) refl) refl none

pub load_row : (k : Kind) (n m a b : ℕ) (l : Option (List ℕ × ℕ)) → Stands n k load_apart → Stands m k load_within → canonical k a b 0 ≡ (if is_in_list a b then load_within else load_apart)
    → a < 8 → 0 < b → b < 256 → is_unlabelled l ≡ true → Written (of k a b 0) l
load_row k n m a b l apart within' slots' p q r none =
    elim (cases_Bool (is_in_list a b)) [
      | inl e ↦ plain_row (of k a b 0) l m load_within within' (slots' ∙ rw e refl) (rw (e, low16 a p, lt-ltb 0 b q, lt-ltb b 256 r) refl) refl none
      | inr e ↦ plain_row (of k a b 0) l n load_apart apart (slots' ∙ rw e refl) (rw (e, lt-ltb a 8 p, lt-ltb 0 b q, lt-ltb b 256 r) refl) refl none
    ]

-- forms whose slots hold no register or number
pub fixed_row : (k : Kind) (n : ℕ) (ss : List Slot) (l : Option (List ℕ × ℕ)) → Stands n k ss → canonical k 0 0 0 ≡ ss → slots_fit ss empty (fields 0 0 0 l) ≡ true → stored ss empty (fields 0 0 0 l) ≡ empty
    → is_unlabelled l ≡ true → Written (of k 0 0 0) l
fixed_row k n ss l there slots' fit back none = plain_row (of k 0 0 0) l n ss there slots' fit back none

-- a special register
abbrev from_special : Slot → List Slot
from_special s = first ∷ comma ∷ s ∷ []

pub primask_row : (k : Kind) (n a : ℕ) (l : Option (List ℕ × ℕ)) → Stands n k (from_special slot.Primask) → canonical k a 0 0 ≡ from_special slot.Primask → a < 15 → is_unlabelled l ≡ true → Written (of k a 0 0) l
primask_row k n a l there slots' p none = plain_row (of k a 0 0) l n _ there slots' (rw (register16 a (omega arith)) refl) refl none

pub ipsr_row : (k : Kind) (n a : ℕ) (l : Option (List ℕ × ℕ)) → Stands n k (from_special slot.Ipsr) → canonical k a 0 0 ≡ from_special slot.Ipsr → a < 15 → is_unlabelled l ≡ true → Written (of k a 0 0) l
ipsr_row k n a l there slots' p none = plain_row (of k a 0 0) l n _ there slots' (rw (register16 a (omega arith)) refl) refl none

abbrev to_special : List Slot
to_special = slot.Primask ∷ comma ∷ first ∷ []

pub mask_row : (k : Kind) (n a : ℕ) (l : Option (List ℕ × ℕ)) → Stands n k to_special → canonical k a 0 0 ≡ to_special → a < 15 → is_unlabelled l ≡ true → Written (of k a 0 0) l
mask_row k n a l there slots' p none = plain_row (of k a 0 0) l n to_special there slots' (rw (register16 a (omega arith)) refl) refl none
