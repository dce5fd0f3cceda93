-- The bindings at the end of the walk are the map of the match; if the walk ended early, there is no match.
use Rattle.std.proofs.Common.{◌≡◌, ◌∙◌, ℕ, Bool, true, false, List, [], ◌∷◌, ◌||◌, length, map, refl, sym, ap, arith, Option, Some, None, cond, slice_get, lit≤, lit<}
use Rattle.std.specs.Option.{option_map, option_and_then, is_some}
use Rattle.std.proofs.lemmas.Option.{slice_get-map}
use Rattle.std.proofs.lemmas.List.{length-map}
use Rattle.thumb_instr.specs.declared.instr.Instr.{Instr}
use Rattle.thumb_instr.specs.Window.{Low, renamed, number_or}
use Rattle.rule_table.specs.Canonical.{has}
use Rattle.rule_table.specs.Matching.{registers_in, eight, given_for, Renames}
use Rattle.rule_table.specs.Binding.{given_at, IsOneToOne, Agrees, Binds, Clashes}

-- the register, or r0
abbrev or_first : Option Low → Low
or_first None = record { number = 0; least = lit≤ tt; below = lit< tt }
or_first (Some r) = r

-- registers for all of r0 to r7: r0 where none is given
abbrev filled : List (Option Low) → List Low
filled given = map or_first given

-- a given register is at its index
filled_at : (given : List (Option Low)) (x : ℕ) (r : Low) → given_at given x ≡ Some r → slice_get (filled given) x ≡ Some r
filled_at given x r e = slice_get-map or_first given x ∙ by (slice_get given x) e
  where
    by : (o : Option (Option Low)) → option_and_then (λ p. p) o ≡ Some r → option_map or_first o ≡ Some r
    by None h = cc
    by (Some None) h = cc
    by (Some (Some s)) h = h

filled_agree : (given : List (Option Low)) → Agrees (filled given) given
filled_agree given x r e = ap (λ o. number_or o x) (filled_at given x r e)

-- an option that has a value gives that value
some_of : (o : Option Low) → is_some o ≡ true → (r : Low) × (o ≡ Some r)
some_of None e = cc
some_of (Some r) e = (r, refl)

none_of : (o : Option Low) → is_some o ≡ false → o ≡ None
none_of None e = refl
none_of (Some r) e = cc

-- a list of eight is its items by index
eight_given : (given : List (Option Low)) → length given ≡ 8 → given ≡ map (given_at given) eight
eight_given [] e = absurd (omega (arith, e))
eight_given (a ∷ []) e = absurd (omega (arith, e))
eight_given (a ∷ b ∷ []) e = absurd (omega (arith, e))
eight_given (a ∷ b ∷ c ∷ []) e = absurd (omega (arith, e))
eight_given (a ∷ b ∷ c ∷ d ∷ []) e = absurd (omega (arith, e))
eight_given (a ∷ b ∷ c ∷ d ∷ f ∷ []) e = absurd (omega (arith, e))
eight_given (a ∷ b ∷ c ∷ d ∷ f ∷ g ∷ []) e = absurd (omega (arith, e))
eight_given (a ∷ b ∷ c ∷ d ∷ f ∷ g ∷ h ∷ []) e = absurd (omega (arith, e))
eight_given (a ∷ b ∷ c ∷ d ∷ f ∷ g ∷ h ∷ i ∷ []) e = refl
eight_given (a ∷ b ∷ c ∷ d ∷ f ∷ g ∷ h ∷ i ∷ j ∷ l) e = absurd (omega (arith, e))

same_eight : (f g : ℕ → Option Low) → ((x : ℕ) → f x ≡ g x) → map f eight ≡ map g eight
same_eight f g at = rw (at 0, at 1, at 2, at 3, at 4, at 5, at 6, at 7) refl

-- the map that renames a left side to a window
abbrev pub IsFound : List Instr → List Instr → List (Option Low) → Type 0
IsFound left normal given = (registers : List Low) × Renames left normal registers × (given ≡ map (given_for (registers_in left) registers) eight)

-- the bindings at the end are that map
pub found : (left normal : List Instr) (nothing given : List (Option Low)) (taken : ℕ) → ((x : ℕ) → given_at nothing x ≡ None) → length given ≡ 8 → IsOneToOne given taken
    → Binds nothing given (registers_in left) (λ f. map (renamed f) left ≡ normal) → IsFound left normal given
found left normal nothing given taken none all one bound = (
  filled given,
  record {
    all = length-map given or_first ∙ all;
    under = ((bound.agree (filled given)).0 (filled_agree given)).1;
    one_to_one = λ x y h k e.
        let r = some_of (given_at given x) (named x ∙ h) in
        let s = some_of (given_at given y) (named y ∙ k) in
        one.apart x y r.0 s.0 r.1 s.1 (sym (filled_agree given x r.0 r.1) ∙ e ∙ filled_agree given y s.0 s.1);
  },
  eight_given given all ∙ same_eight (given_at given) (given_for (registers_in left) (filled given)) (λ x. by x (has (registers_in left) x) refl),
)
  where
    named : (x : ℕ) → is_some (given_at given x) ≡ has (registers_in left) x
    named x = bound.named x ∙ ap (λ o. is_some o || has (registers_in left) x) (none x)

    by : (x : ℕ) (b : Bool) → has (registers_in left) x ≡ b → given_at given x ≡ cond b (slice_get (filled given) x) None
    by x true e = let r = some_of (given_at given x) (named x ∙ e) in r.1 ∙ sym (filled_at given x r.0 r.1)
    by x false e = none_of (given_at given x) (named x ∙ e)

-- if the walk ends early, there is no such map
pub none_found : (left normal : List Instr) (nothing : List (Option Low)) → ((x : ℕ) → given_at nothing x ≡ None) → Clashes nothing (registers_in left) (λ f. map (renamed f) left ≡ normal)
    → (registers : List Low) → Renames left normal registers → ⊥
none_found left normal nothing none clash registers m = clash registers nothing_agrees m.under (λ x y h k e. m.one_to_one x y (sym (named x) ∙ h) (sym (named y) ∙ k) e)
  where
    nothing_agrees : Agrees registers nothing
    nothing_agrees x r e = let no : None ≡ Some r = sym (none x) ∙ e in cc

    named : (x : ℕ) → (is_some (given_at nothing x) || has (registers_in left) x) ≡ has (registers_in left) x
    named x = ap (λ o. is_some o || has (registers_in left) x) (none x)
