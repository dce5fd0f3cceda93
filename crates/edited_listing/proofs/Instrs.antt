-- What stands at a place of the padded code.
use Rattle.std.proofs.Common.{◌≡◌, ◌<◌, ℕ, zero, suc, get_or, List, [], ◌∷◌, length, Some, refl, sym, ap, ◌∙◌, arith}
use Rattle.std.specs.Prelude.{slice_get, None}
use Rattle.std.proofs.lemmas.Option.{same_Some}
use Rattle.thumb_instr.specs.declared.instr.Instr.{Instr}
use Rattle.thumb_model.specs.Listing.{Place}
use Rattle.window_runs.specs.Rows.{window_instr}
use Rattle.edited_listing.specs.declared.standing.Standing.{Standing}
use Rattle.edited_listing.specs.declared.standing.Standing.TheVariants as standing
use Rattle.edited_listing.specs.Edited.{instr_in, standing_place, standing_places}

padded_at : (ss : List Standing) (xs : List Place) (p : ℕ) (s : Standing) → length ss ≡ length xs → slice_get ss p ≡ Some s → (x : Place) × (slice_get xs p ≡ Some x) × (slice_get (standing_places ss xs) p ≡ Some (standing_place s x))
padded_at [] xs p s n e = absurd (cc)
padded_at (t ∷ ss) [] p s n e = absurd (omega arith)
padded_at (t ∷ ss) (x ∷ xs) zero s n e = (x, refl, ap (λ u. Some (standing_place u x)) (same_Some t s e))
padded_at (t ∷ ss) (x ∷ xs) (suc p) s n e = padded_at ss xs p s (omega arith) e

pub instr_given : (ss : List Standing) (xs : List Place) (p : ℕ) → length ss ≡ length xs → slice_get ss p ≡ Some standing.Given → instr_in (slice_get xs p) ≡ instr_in (slice_get (standing_places ss xs) p)
instr_given ss xs p n e = let at = padded_at ss xs p standing.Given n e in ap instr_in (at.1 ∙ sym at.2)

pub instr_gone : (ss : List Standing) (xs : List Place) (p : ℕ) → length ss ≡ length xs → slice_get ss p ≡ Some standing.Gone → None ≡ instr_in (slice_get (standing_places ss xs) p)
instr_gone ss xs p n e = let at = padded_at ss xs p standing.Gone n e in ap instr_in (sym at.2)

pub instr_new : (ss : List Standing) (xs : List Place) (p : ℕ) (i : Instr) (home : ℕ) → length ss ≡ length xs → slice_get ss p ≡ Some (standing.New i home) → window_instr i None ≡ instr_in (slice_get (standing_places ss xs) p)
instr_new ss xs p i home n e = let at = padded_at ss xs p (standing.New i home) n e in ap instr_in (sym at.2)

-- what is read of a slice
pub read_get : {A : Type 0} (xs : List A) (p : ℕ) (d x : A) → p < length xs → get_or xs p d ≡ x → slice_get xs p ≡ Some x
read_get [] p d x h e = absurd (omega arith)
read_get (y ∷ xs) zero d x h e = ap (λ z. Some z) e
read_get (y ∷ xs) (suc p) d x h e = read_get xs p d x (omega arith) e
