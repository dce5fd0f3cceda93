-- The return point of a call lies right after it.
use Rattle.std.proofs.Common.{◌≡◌, ◌∙◌, inl, inr, ℕ, zero, suc, ◌+◌, ◌-◌, ◌*◌, true, false, List, [], ◌∷◌, ◌++◌, length, map, take, Option, Some, None, refl, sym, ap, arith, true≢false, add-one, if◌then◌else◌}
use Rattle.std.specs.Prelude.{slice_get}
use Rattle.std.proofs.Math.Seq.{take-append-add}
use Rattle.std.proofs.lemmas.Bool.{cases_Bool, cases_lt}
use Rattle.thumb_instr.specs.declared.instr.Instr.{Instr}
use Rattle.thumb_model.specs.Listing.{Mention, Value, Statement, Nothing, Instruction, Words, Aligns, Sets, ListingLine, Place, Op, Word, places_in, places_of, is_call, is_call_instr, call_count}
use Rattle.thumb_model.specs.Layout.{instr_size, size_at}
use Rattle.thumb_model.specs.Naming.{return_address, ends_in_call}
use Rattle.thumb_model.proofs.Lists.{get_back}
use Rattle.thumb_model.proofs.Moved.{count_append}
use Rattle.thumb_model.proofs.Returns.{no_words}
use Rattle.label_layout.specs.Addresses.{word_addresses, addresses_in, addresses_from}
use Rattle.label_layout.proofs.Sums.{places_counted_in}
use Rattle.common_lemmas.proofs.Lists.{get_front}

-- how many bytes a place has
abbrev pub place_size : Place → ℕ
place_size (Op i mention) = instr_size i
place_size (Word v) = 4

no_word_calls : (vs : List Value) (p : ℕ) (x : Place) → slice_get (map Word vs) p ≡ Some x → is_call x ≡ false
no_word_calls [] p x e = absurd (let bad : None ≡ Some x = e in cc)
no_word_calls (v ∷ vs) zero x e = let same : Word v ≡ x = (let some : Some (Word v) ≡ Some x = e in cc) in ap is_call (sym same)
no_word_calls (v ∷ vs) (suc p) x e = no_word_calls vs p x e

-- `return_address` by a line's statement
return_by : ℕ → ℕ → Statement → List ListingLine → ℕ
return_by zero at s ls = if ends_in_call s then at + size_at s at else return_address zero (at + size_at s at) ls
return_by (suc k) at s ls = if ends_in_call s then return_address k (at + size_at s at) ls else return_address (suc k) (at + size_at s at) ls

by_statement : (k at : ℕ) (l : ListingLine) (ls : List ListingLine) → return_address k at (l ∷ ls) ≡ return_by k at l.statement ls
unfolding return_by
by_statement zero at l ls = refl
by_statement (suc k) at l ls = refl

no_return : (k at : ℕ) (s : Statement) (ls : List ListingLine) → ends_in_call s ≡ false → return_by k at s ls ≡ return_address k (at + size_at s at) ls
unfolding return_by
no_return zero at s ls h = rw h refl
no_return (suc k) at s ls h = rw h refl

a_return : (k at : ℕ) (s : Statement) (ls : List ListingLine) → ends_in_call s ≡ true → return_by (k + 1) at s ls ≡ return_address k (at + size_at s at) ls
unfolding return_by
a_return k at s ls h = rw add-one (rw h refl)

-- the return point of each call of lines lies right after it
Behind : ℕ → List ListingLine → Type 0
Behind at ls = (p : ℕ) (x : Place) (a : ℕ) → slice_get (places_of ls) p ≡ Some x → is_call x ≡ true → slice_get (addresses_from at ls) p ≡ Some a
    → return_address (call_count (take p (places_of ls))) at ls ≡ a + place_size x

behind_words : (at : ℕ) (vs : List Value) (ls : List ListingLine) → Behind (at + 4 * length vs) ls → (p : ℕ) (x : Place) (a : ℕ) → slice_get (map Word vs ++ places_of ls) p ≡ Some x → is_call x ≡ true
    → slice_get (word_addresses at vs ++ addresses_from (at + 4 * length vs) ls) p ≡ Some a → return_by (call_count (take p (map Word vs ++ places_of ls))) at (Words vs) ls ≡ a + place_size x
unfolding Behind
behind_words at vs ls rest p x a e h f = elim (cases_lt p (length (map Word vs))) [
  | inl below ↦ absurd (true≢false (sym h ∙ no_word_calls vs p x (sym (get_front (map Word vs) (places_of ls) p below) ∙ e)))
  | inr above ↦
      let q : ℕ = p - length (map Word vs) in
      let is : p ≡ length (map Word vs) + q = omega arith in
      let size : length (word_addresses at vs) ≡ length (map Word vs) = places_counted_in at (Words vs) in
      let place = sym (get_back (map Word vs) (places_of ls) q p is) ∙ e in
      let address = sym (get_back (word_addresses at vs) (addresses_from (at + 4 * length vs) ls) q p (omega arith)) ∙ f in
      let count : call_count (take p (map Word vs ++ places_of ls)) ≡ call_count (take q (places_of ls)) =
      ap (λ n. call_count (take n (map Word vs ++ places_of ls))) is ∙ ap call_count (take-append-add (map Word vs) (places_of ls) q)
      ∙ count_append (map Word vs) (take q (places_of ls)) ∙ (let none = no_words vs in omega arith) in
      no_return _ at (Words vs) ls refl ∙ ap (λ n. return_address n (at + 4 * length vs) ls) count ∙ rest q x a place h address
]

behind_instr : (at : ℕ) (i : Instr) (mention : Option Mention) (ls : List ListingLine) → Behind (at + instr_size i) ls → (p : ℕ) (x : Place) (a : ℕ) → slice_get (Op i mention ∷ places_of ls) p ≡ Some x
    → is_call x ≡ true → slice_get (at ∷ addresses_from (at + instr_size i) ls) p ≡ Some a
    → return_by (call_count (take p (Op i mention ∷ places_of ls))) at (Instruction i mention) ls ≡ a + place_size x
unfolding Behind return_by
behind_instr at i mention ls rest zero x a e h f =
    let same : Op i mention ≡ x = (let some : Some (Op i mention) ≡ Some x = e in cc) in
    let lies : at ≡ a = (let some : Some at ≡ Some a = f in cc) in
    let call : is_call_instr i ≡ true = ap is_call same ∙ h in
    rw call (ap (λ n. n + instr_size i) lies ∙ ap (λ y. a + place_size y) same)
behind_instr at i mention ls rest (suc p) x a e h f = elim (cases_Bool (is_call_instr i)) [
  | inl call ↦ rw call (a_return (call_count (take p (places_of ls))) at (Instruction i mention) ls call ∙ rest p x a e h f)
  | inr none ↦ rw none (no_return (call_count (take p (places_of ls))) at (Instruction i mention) ls none ∙ rest p x a e h f)
]

behind_statement : (at : ℕ) (s : Statement) (ls : List ListingLine) → Behind (at + size_at s at) ls → (p : ℕ) (x : Place) (a : ℕ) → slice_get (places_in s ++ places_of ls) p ≡ Some x → is_call x ≡ true
    → slice_get (addresses_in at s ++ addresses_from (at + size_at s at) ls) p ≡ Some a → return_by (call_count (take p (places_in s ++ places_of ls))) at s ls ≡ a + place_size x
unfolding Behind
behind_statement at Nothing ls rest p x a e h f = no_return _ at Nothing ls refl ∙ rest p x a e h f
behind_statement at (Instruction i mention) ls rest p x a e h f = behind_instr at i mention ls rest p x a e h f
behind_statement at (Words vs) ls rest p x a e h f = behind_words at vs ls rest p x a e h f
behind_statement at (Aligns size most) ls rest p x a e h f = no_return _ at (Aligns size most) ls refl ∙ rest p x a e h f
behind_statement at (Sets name address) ls rest p x a e h f = no_return _ at (Sets name address) ls refl ∙ rest p x a e h f

behind : (at : ℕ) (ls : List ListingLine) → Behind at ls
unfolding Behind
behind at [] p x a e h f = absurd (let bad : None ≡ Some x = e in cc)
behind at (l ∷ ls) p x a e h f = by_statement _ at l ls ∙ behind_statement at l.statement ls (behind (at + size_at l.statement at) ls) p x a e h f

-- the return point of the k-th call lies right after the place of that call, before which k calls come
pub return_point : (at : ℕ) (ls : List ListingLine) (p : ℕ) (x : Place) (a : ℕ) → slice_get (places_of ls) p ≡ Some x → is_call x ≡ true → slice_get (addresses_from at ls) p ≡ Some a
    → return_address (call_count (take p (places_of ls))) at ls ≡ a + place_size x
unfolding Behind
return_point at ls p x a e h f = behind at ls p x a e h f
