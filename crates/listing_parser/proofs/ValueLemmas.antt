-- The loop that reads values separated by commas.
use Rattle.std.proofs.Common.{◌≡◌, ◌∙◌, ℕ, ◌==◌, Bool, true, false, List, [], ◌∷◌, ◌++◌, refl, sym, ap, cond, Option, Some, None, append_assoc, option_map, eqb-true}
use Rattle.std.proofs.lemmas.Bool.{false_from_ne_true}
use Rattle.ascii_scan.specs.Tokens.{Token, word, mark}
use Rattle.thumb_model.specs.Listing.{Value}
use Rattle.listing_parser.specs.Values.{value, values, onto_values}
use Rattle.listing_parser.specs.Results.{first_value}

-- values before those that are read
abbrev pub with_values : List Value → Option (List Value) → Option (List Value)
with_values vs None = None
with_values vs (Some ws) = Some (vs ++ ws)

pub with_none : (o : Option (List Value)) → with_values [] o ≡ o
with_none None = refl
with_none (Some ws) = refl

with_more : (vs : List Value) (v : Value) (o : Option (List Value)) → with_values vs (onto_values (Some v) o) ≡ with_values (vs ++ v ∷ []) o
with_more vs v None = refl
with_more vs v (Some ws) = ap (λ xs. Some xs) (sym (append_assoc vs (v ∷ []) ws))

pub record FirstIs (ts : List Token) (v : Value) (after : List Token) : Type 0 where
  pub w : List ℕ
  pub is : ts ≡ word w ∷ after
  pub read : value w ≡ Some v

first_of : (w : List ℕ) (o : Option Value) (ts after : List Token) (v : Value) → value w ≡ o → option_map {U = Value × List Token} (λ (x : Value). (x, ts)) o ≡ Some (v, after) → FirstIs (word w ∷ ts) v after
first_of w None ts after v e f = absurd (let bad : None ≡ Some (v, after) = f in cc)
first_of w (Some x) ts after v e f =
    let same : Some (x, ts) ≡ Some (v, after) = f in
    let pair : (x, ts) ≡ (v, after) = cc in
    record {
      w = w;
      is = ap (λ us. word w ∷ us) (ap (λ (p : Value × List Token). p.1) pair);
      read = e ∙ ap (λ (p : Value × List Token). Some p.0) pair;
    }

pub first_is : (ts after : List Token) (v : Value) → first_value ts ≡ Some (v, after) → FirstIs ts v after
first_is [] after v e = absurd (let bad : None ≡ Some (v, after) = e in cc)
first_is (mark m ∷ ts) after v e = absurd (let bad : None ≡ Some (v, after) = e in cc)
first_is (word w ∷ ts) after v e = first_of w (value w) ts after v refl e

no_value : (w : List ℕ) (o : Option Value) (ts : List Token) → value w ≡ o → option_map {U = Value × List Token} (λ (x : Value). (x, ts)) o ≡ None → value w ≡ None
no_value w None ts e f = e
no_value w (Some x) ts e f = absurd (let bad : Some (x, ts) ≡ None = f in cc)

pub none_first : (ts : List Token) → first_value ts ≡ None → values ts ≡ None
unfolding values
none_first [] e = refl
none_first (mark m ∷ ts) e = refl
none_first (word w ∷ []) e = rw (no_value w (value w) [] refl e) refl
none_first (word w ∷ word v ∷ ts) e = refl
none_first (word w ∷ mark m ∷ ts) e = rw (no_value w (value w) (mark m ∷ ts) refl e) (by (m == 44)) where
  by : (b : Bool) → cond b (onto_values None (values ts)) None ≡ None
  by true = refl
  by false = refl

last_of : (w : List ℕ) (v : Value) → value w ≡ Some v → values (word w ∷ []) ≡ Some (v ∷ [])
unfolding values
last_of w v e = rw e refl

more_of : (w : List ℕ) (v : Value) (m : ℕ) (ts : List Token) → value w ≡ Some v → m ≡ 44 → values (word w ∷ mark m ∷ ts) ≡ onto_values (Some v) (values ts)
unfolding values
more_of w v m ts e is = rw (is, e) refl

other_of : (w : List ℕ) (m : ℕ) (ts : List Token) → (m == 44) ≡ false → values (word w ∷ mark m ∷ ts) ≡ None
unfolding values
other_of w m ts e = rw e refl

-- the last value
pub at_end : (vs : List Value) (v : Value) (ts after all : List Token) → FirstIs ts v after → after ≡ [] → with_values vs (values ts) ≡ values all → Some (vs ++ v ∷ []) ≡ values all
at_end vs v ts after all f is so_far = sym (ap (with_values vs) (ap values (f.is ∙ ap (λ us. word f.w ∷ us) is) ∙ last_of f.w v f.read)) ∙ so_far

-- a value with a comma after it
pub at_comma : (vs : List Value) (v : Value) (m : ℕ) (ts after rest all : List Token) → FirstIs ts v after → after ≡ mark m ∷ rest → m ≡ 44 → with_values vs (values ts) ≡ values all
    → with_values (vs ++ v ∷ []) (values rest) ≡ values all
at_comma vs v m ts after rest all f is comma so_far =
    sym (with_more vs v (values rest))
    ∙ ap (with_values vs) (sym (ap values (f.is ∙ ap (λ us. word f.w ∷ us) is) ∙ more_of f.w v m rest f.read comma))
    ∙ so_far

two_words : (w u : List ℕ) (ts : List Token) → values (word w ∷ word u ∷ ts) ≡ None
unfolding values
two_words w u ts = refl

-- a value with another token after it
pub at_word : (vs : List Value) (v : Value) (u : List ℕ) (ts after rest all : List Token) → FirstIs ts v after → after ≡ word u ∷ rest → with_values vs (values ts) ≡ values all → None ≡ values all
at_word vs v u ts after rest all f is so_far = sym (ap (with_values vs) (ap values (f.is ∙ ap (λ us. word f.w ∷ us) is) ∙ two_words f.w u rest)) ∙ so_far

pub at_mark : (vs : List Value) (v : Value) (m : ℕ) (ts after rest all : List Token) → FirstIs ts v after → after ≡ mark m ∷ rest → (m ≡ 44 → ⊥) → with_values vs (values ts) ≡ values all → None ≡ values all
at_mark vs v m ts after rest all f is other so_far =
    let differs : (m == 44) ≡ false = false_from_ne_true (m == 44) (λ e. other (eqb-true m 44 e)) in
    sym (ap (with_values vs) (ap values (f.is ∙ ap (λ us. word f.w ∷ us) is) ∙ other_of f.w m rest differs)) ∙ so_far

pub at_none : (vs : List Value) (ts all : List Token) → first_value ts ≡ None → with_values vs (values ts) ≡ values all → None ≡ values all
at_none vs ts all e so_far = sym (ap (with_values vs) (none_first ts e)) ∙ so_far
