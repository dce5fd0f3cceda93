-- The labels that branches go to, by what instruction stands at a place and which name it mentions.
use Rattle.std.proofs.Common.{◌≡◌, ◌∙◌, true, false, Option, Some, None, refl, ap, if◌then◌else◌}
use Rattle.std.proofs.lemmas.Option.{same_Some}
use Rattle.thumb_instr.specs.declared.instr.Instr.{Instr}
use Rattle.thumb_model.specs.Listing.{Place, Op, Word}
use Rattle.listing_draft.specs.Drafted.{instr_in, name_in}
use Rattle.flow_tidy.specs.DuePlaces.{is_branch_always}
use Rattle.flow_tidy.specs.Tidying.{is_branch}
use Rattle.flow_tidy.specs.Made.{label_of_always, label_of_branch}

pub label_branch : (o : Option Place) (i : Instr) → instr_in o ≡ Some i → is_branch i ≡ true → label_of_branch o ≡ name_in o
label_branch None i e h = absurd (cc)
label_branch (Some (Word v)) i e h = absurd (cc)
label_branch (Some (Op j None)) i e h = refl
label_branch (Some (Op j (Some m))) i e h = ap (λ b. if b then Some m.name else None) (ap is_branch (same_Some j i e) ∙ h)

pub label_other : (o : Option Place) (i : Instr) → instr_in o ≡ Some i → is_branch i ≡ false → label_of_branch o ≡ None
label_other None i e h = absurd (cc)
label_other (Some (Word v)) i e h = absurd (cc)
label_other (Some (Op j None)) i e h = refl
label_other (Some (Op j (Some m))) i e h = ap (λ b. if b then Some m.name else None) (ap is_branch (same_Some j i e) ∙ h)

pub label_none : (o : Option Place) → instr_in o ≡ None → label_of_branch o ≡ None
label_none None e = refl
label_none (Some (Word v)) e = refl
label_none (Some (Op j m)) e = absurd (cc)

pub always_branch : (o : Option Place) → is_branch_always (instr_in o) ≡ true → label_of_always o ≡ name_in o
always_branch (Some (Op j (Some m))) h = ap (λ b. if b then Some m.name else None) h
always_branch o h = refl

pub always_other : (o : Option Place) → is_branch_always (instr_in o) ≡ false → label_of_always o ≡ None
always_other (Some (Op j (Some m))) h = ap (λ b. if b then Some m.name else None) h
always_other o h = refl
