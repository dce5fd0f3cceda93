-- The canonical text of an instruction is read as that instruction.
use Rattle.std.proofs.Common.{◌≡◌, ◌∙◌, ℕ, zero, suc, ◌++◌, Bool, true, false, List, [], ◌∷◌, map, Option, Some, refl, sym, ap, subst, true≢false}
use Rattle.std.specs.Prelude.{option_map, option_and_then, slice_get}
use Rattle.std.specs.List.{list_all}
use Rattle.std.specs.Char.{to_ascii_lowercase}
use Rattle.std.proofs.lemmas.Bool.{and_parts}
use Rattle.std.proofs.lemmas.Slice.Eq.{bytes_eq-Decides}
use Rattle.ascii_scan.specs.Names.{is_spelled}
use Rattle.ascii_scan.specs.Tokens.{word, tokens, is_inner, begins_inner}
use Rattle.ascii_scan.proofs.TokenLemmas.{tokens_written, tokens_blank}
use Rattle.thumb_syntax.specs.declared.form.Slot.{Slot}
use Rattle.thumb_syntax.specs.Operands.{operand}
use Rattle.thumb_instr.specs.declared.kind.Parts.{Parts}
use Rattle.thumb_instr.specs.Parts.{made, parts_of}
use Rattle.thumb_instr.proofs.PartLemmas.{made_parts}
use Rattle.thumb_syntax.specs.Slots.{Fields, empty, filled}
use Rattle.thumb_syntax.specs.Rows.{Row, with_label, shown_by, read_as, reading, data_rows, memory_rows, control_rows}
use Rattle.thumb_syntax.specs.RowLaws.{rows, by_row}
use Rattle.thumb_syntax.specs.Forms.{mnemonic}
use Rattle.thumb_syntax.specs.Spelling.{slots_text, operands_text, text_of}
use Rattle.thumb_syntax.specs.Whole.{WritingReadsBack}
use Rattle.thumb_syntax.proofs.RowRelation.{reads_some_row}
use Rattle.thumb_syntax.proofs.SlotText.{written_fills}
use Rattle.thumb_syntax.proofs.WrittenRows.{Written, fields, row_at}
use Rattle.thumb_syntax.proofs.Written.{written}

-- ---- a mnemonic is one word

abbrev is_word : List ℕ → Bool
is_word [] = false
is_word (b ∷ bs) = list_all is_inner (b ∷ bs)

abbrev is_worded : Row → Bool
is_worded r = is_word r.mnemonic

all_worded : list_all is_worded rows ≡ true
unfolding rows data_rows memory_rows control_rows
all_worded = refl

worded_in : (rs : List Row) (k : ℕ) (r : Row) → list_all is_worded rs ≡ true → slice_get rs k ≡ Some r → is_worded r ≡ true
worded_in [] k r all e = absurd (cc)
worded_in (x ∷ xs) zero r all e = let s : x ≡ r = cc in subst (λ (y : Row). is_worded y ≡ true) s (and_parts (is_worded x) (list_all is_worded xs) all).0
worded_in (x ∷ xs) (suc k) r all e = worded_in xs k r (and_parts (is_worded x) (list_all is_worded xs) all).1 e

word_first : (w bs : List ℕ) → is_word w ≡ true → begins_inner bs ≡ false → tokens (w ++ bs) ≡ word w ∷ tokens bs
word_first [] bs e ends = absurd (true≢false (sym e))
word_first (x ∷ xs) bs e ends = tokens_written x xs bs e ends

-- ---- operands after a mnemonic

apart : (ss : List Slot) (f : Fields) → begins_inner (operands_text ss f) ≡ false
apart [] f = refl
apart (s ∷ ss) f = refl

same_operands : (ss : List Slot) (f : Fields) → map operand (tokens (operands_text ss f)) ≡ map operand (tokens (slots_text ss f))
same_operands [] f = refl
same_operands (s ∷ ss) f = ap (map operand) (tokens_blank 32 (slots_text (s ∷ ss) f) refl)

is_itself : (w : List ℕ) → is_spelled w w ≡ true
is_itself w = (bytes_eq-Decides (map to_ascii_lowercase w) (map to_ascii_lowercase w)).1 refl

-- ---- the form reads it

reads_back : (m : Parts) (l : Option (List ℕ × ℕ)) → made m.kind m.first m.second m.third ≡ Some m → Written m l → reading (text_of (with_label l m)) ≡ Some (with_label l m)
reads_back m l is w =
    let f = fields m.first m.second m.third l in
    let row = row_at (mnemonic m.kind) w.slots m.kind in
    let text : tokens (text_of (with_label l m)) ≡ word (mnemonic m.kind) ∷ tokens (operands_text w.slots f) =
    ap (λ (t : List ℕ). tokens (mnemonic m.kind ++ t)) w.text
    ∙ word_first (mnemonic m.kind) (operands_text w.slots f) (worded_in rows w.place row all_worded w.is_there) (apart w.slots f) in
    let fills : filled w.slots empty (map operand (tokens (operands_text w.slots f))) ≡ Some f =
    ap (filled w.slots empty) (same_operands w.slots f) ∙ written_fills w.slots empty f w.fit ∙ ap (λ (g : Fields). Some g) w.back in
    let shown : option_and_then (shown_by m.kind) (filled w.slots empty (map operand (tokens (operands_text w.slots f)))) ≡ Some (with_label l m) =
    ap (option_and_then (shown_by m.kind)) fills ∙ ap (option_map (with_label l)) is in
    let read : read_as (mnemonic m.kind) (map operand (tokens (operands_text w.slots f))) row ≡ Some (with_label l m) = rw (is_itself (mnemonic m.kind)) shown in
    (reads_some_row (text_of (with_label l m)) (with_label l m)).1
    (record { place = w.place; row = row; is_there = w.is_there; reads = ap (by_row row) text ∙ read })

pub writing_reads_back : WritingReadsBack
writing_reads_back i l e = reads_back (parts_of i) l (made_parts i) (written i l e)
