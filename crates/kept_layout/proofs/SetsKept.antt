-- Neither the instructions that give way nor the new ones set an address for a name.
use Rattle.std.proofs.Common.{◌≡◌, ◌∙◌, inl, inr, ℕ, zero, suc, ◌-◌, ◌==◌, ◌&&◌, true, List, [], ◌∷◌, ◌++◌, length, map, Option, refl, sym, ap, true≢false}
use Rattle.std.proofs.lemmas.Bool.{and_parts, cases_Bool}
use Rattle.thumb_instr.specs.declared.instr.Instr.{Instr}
use Rattle.thumb_model.specs.Listing.{Name, Statement, Nothing, Instruction, Words, Aligns, Sets, ListingLine, places_in}
use Rattle.thumb_model.specs.Layout.{set_address, set_in}
use Rattle.thumb_model.specs.Replaced.{is_op, labels_kept, new_line, replaced_lines, without}

pub op_sets_none : (q : Name) (s : Statement) (rest : Option ℕ) → is_op s ≡ true → set_in q s rest ≡ rest
op_sets_none q (Instruction i m) rest e = refl
op_sets_none q Nothing rest e = absurd (true≢false (sym e))
op_sets_none q (Words vs) rest e = absurd (true≢false (sym e))
op_sets_none q (Aligns size most) rest e = absurd (true≢false (sym e))
op_sets_none q (Sets name address) rest e = absurd (true≢false (sym e))

pub without_sets : (q : Name) (n : ℕ) (ls : List ListingLine) → set_address q (without n ls) ≡ set_address q ls
without_sets q n [] = refl
without_sets q zero (l ∷ ls) = refl
without_sets q (suc n) (l ∷ ls) = elim (cases_Bool (is_op l.statement)) [
  | inl h ↦ rw h (without_sets q n ls ∙ sym (op_sets_none q l.statement (set_address q ls) h))
  | inr h ↦ rw h (ap (set_in q l.statement) (without_sets q (suc n) ls))
]

pub labels_set_none : (q : Name) (l : ListingLine) (names : List Name) (rest : List ListingLine) → set_address q (labels_kept l names ++ rest) ≡ set_address q rest
labels_set_none q l [] rest = refl
labels_set_none q l (n ∷ ns) rest = refl

pub new_set_none : (q : Name) (write : Instr → List ℕ) (is : List Instr) (rest : List ListingLine) → set_address q (map (new_line write) is ++ rest) ≡ set_address q rest
new_set_none q write [] rest = refl
new_set_none q write (i ∷ is) rest = new_set_none q write is rest

-- lines in which instructions gave way to others set what they set before
pub sets_kept : (write : Instr → List ℕ) (p count : ℕ) (is : List Instr) (ls : List ListingLine) (q : Name) → set_address q ls ≡ set_address q (replaced_lines write p count is ls)
sets_kept write p count is [] q = refl
sets_kept write p count is (l ∷ ls) q = elim (cases_Bool (is_op l.statement && (p == 0))) [
  | inl h ↦ rw h (sym (labels_set_none q l l.names (map (new_line write) is ++ without (count - 1) ls) ∙ new_set_none q write is (without (count - 1) ls) ∙ without_sets q (count - 1) ls ∙ sym (op_sets_none q l.statement (set_address q ls) (and_parts (is_op l.statement) (p == 0) h).0)))
  | inr h ↦ rw h (ap (set_in q l.statement) (sets_kept write (p - length (places_in l.statement)) count is ls q))
]
