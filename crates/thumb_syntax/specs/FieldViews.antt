-- The values of fields and forms without the borrows that hold them, so that contracts can speak of them.
use Rattle.std.specs.Prelude.{ℕ, List, option_map, map}
use Rattle.thumb_syntax.specs.declared.fields.Label.{Label}
use Rattle.thumb_syntax.specs.declared.fields.Fields.{Fields as Slices}
use Rattle.thumb_syntax.specs.Slots.{Fields}
use Rattle.std.specs.Borrow.{Bor}
use Rattle.thumb_syntax.specs.declared.form.Slot.{Slot}
use Rattle.thumb_syntax.specs.declared.form.Spelling.{Spelling as StaticSpelling}
use Rattle.thumb_syntax.specs.Forms.{Spelling, spelled}

abbrev pub label_of : Label → List ℕ × ℕ
label_of l = (l.name.now, l.added)

abbrev pub fields_view : Slices → Fields
fields_view f = record { first = f.first; second = f.second; third = f.third; label = option_map label_of f.label }

-- the forms without their borrows
abbrev pub forms_at : List (Bor (List Slot)) → List (List Slot)
forms_at fs = map (λ (ss : Bor (List Slot)). ss.now) fs

-- a spelling without its borrows
abbrev pub spelling_at : StaticSpelling → Spelling
spelling_at s = spelled s.mnemonic.now (forms_at s.forms.now)
