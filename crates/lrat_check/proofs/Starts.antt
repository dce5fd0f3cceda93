-- The loop that makes a formula's clauses live when a checker begins.
use Rattle.std.proofs.Common.{◌≡◌, ◌≢◌, ℕ, ◌+◌, ◌<◌, ◌≤◌, ◌⊎◌, List, [], ◌∷◌, ◌++◌, length, get_or, take, ◌-◌, length-append, refl, sym, ◌∙◌, inl, inr, arith, Option, Some, None, subst, Bool, false, true≢false}
use Rattle.std.specs.Prelude.{Any, IsTrue, ◌↔◌, slice_get, nat_eq}
use Rattle.std.proofs.lemmas.Bool.{cases_eq, cases_lt, eqb-true}
use Rattle.std.proofs.lemmas.Bool.Decides.{nat_tests}
use Rattle.std.proofs.lemmas.Option.{gets, slice_get_past, slice_get-map, slice_get_within, get_or_from_slice_get}
use Rattle.std.proofs.Common.{ℤ, map, Vec, vec_len}
use Rattle.std.specs.Prelude.{◌==◌}
use Rattle.std.specs.Global.{Global}
use Rattle.clause_model.specs.Clauses.{code_of, codes_of, numbered}
use Rattle.std.proofs.lemmas.Grind.{common_steps}
use Rattle.std.proofs.lemmas.List.{take_more, take_all, length-take, length-map, nil_from_length}
use Rattle.std.proofs.lemmas.List.Quantifiers.{Any-push}
use Rattle.lrat_check.specs.Live.{Adds}

abbrev pub HasEmpty : List (List ℕ) → Type 0
HasEmpty clauses = Any (λ clause. clause ≡ []) clauses

-- what is live, and whether an empty clause is there, after the clauses so far
pub record Begun (live : ℕ → Option (List ℕ)) (flag : Bool) (seen : List (List ℕ)) : Type 0 where
  pub numbers : (id : ℕ) → live id ≡ numbered seen id
  pub refuted : IsTrue flag ↔ HasEmpty seen

Any-append_left : (xs : List (List ℕ)) (c : List ℕ) → HasEmpty xs → HasEmpty (xs ++ c ∷ [])
Any-append_left xs c h = (h.0, h.1, omega (arith, length-append {A = List ℕ}, h.2), (let b : h.0 < length xs = h.2 in let e : get_or xs h.0 h.1 ≡ h.1 = h.3 in grind (arith, common_steps)), h.4)

Any-push_cases : (xs : List (List ℕ)) (c : List ℕ) → HasEmpty (xs ++ c ∷ []) → HasEmpty xs ⊎ (c ≡ [])
Any-push_cases xs c h =
    let e : get_or (xs ++ c ∷ []) h.0 h.1 ≡ h.1 = h.3 in
    elim (cases_lt h.0 (length xs)) [
      | inl b ↦ let r : get_or xs h.0 h.1 ≡ h.1 = grind (arith, common_steps) in inl (h.0, h.1, b, r, h.4)
      | inr b ↦
          let k : h.0 ≡ length xs = omega (arith, length-append {A = List ℕ}, h.2) in
          let r : h.1 ≡ c = grind (arith, common_steps) in
          inr (subst (λ (x : List ℕ). x ≡ []) r h.4)
    ]

module _ (xs : List (List ℕ)) (clause : List ℕ) where
  numbered-push_same : numbered (xs ++ clause ∷ []) (length xs + 1) ≡ Some clause
  numbered-push_same =
      let e : slice_get (xs ++ clause ∷ []) (length xs + 1 - 1) ≡ Some clause = grind (arith, common_steps, gets) in
      let z : nat_eq (length xs + 1) 0 ≡ false = grind (arith, nat_tests) in
      rw (z, e) refl

  numbered-push_other : (q : ℕ) → q ≢ length xs + 1 → numbered (xs ++ clause ∷ []) q ≡ numbered xs q
  numbered-push_other q n =
      elim (cases_eq q 0) [
        | inl e ↦ rw e refl
        | inr d ↦ let f : slice_get (xs ++ clause ∷ []) (q - 1) ≡ slice_get xs (q - 1) = grind (arith, common_steps, gets) in rw f refl
      ]

pub Begun-next : (earlier later : ℕ → Option (List ℕ)) (flag flag' : Bool) (clauses : List (List ℕ)) (i : ℕ) (clause : List ℕ) → i < length clauses → get_or clauses i clause ≡ clause → Begun earlier flag (take i clauses) → Adds earlier later (i + 1) clause → (IsTrue flag' ↔ (IsTrue flag ⊎ (clause ≡ []))) → Begun later flag' (take (i + 1) clauses)
Begun-next earlier later flag flag' clauses i clause b e h a g =
    let k : length (take i clauses) ≡ i = omega (arith, length-take {A = List ℕ}) in
    rw (take_more clauses i clause b, e) record {
      numbers = λ id. elim (cases_eq id (i + 1)) [
        | inl q ↦ rw (q, a.0) (sym (subst (λ (n : ℕ). numbered (take i clauses ++ clause ∷ []) (n + 1) ≡ Some clause) k (numbered-push_same (take i clauses) clause)))
        | inr d ↦ a.1 id d ∙ h.numbers id ∙ sym (numbered-push_other (take i clauses) clause id (rw k d))
      ];
      refuted = (
        λ t. elim (g.0 t) [
          | inl r ↦ Any-append_left (take i clauses) clause (h.refuted.0 r)
          | inr z ↦ Any-push (λ (c : List ℕ). c ≡ []) (take i clauses) clause z
        ],
        λ s. g.1 (elim (Any-push_cases (take i clauses) clause s) [ inl r ↦ inl (h.refuted.1 r) | inr z ↦ inr z ]),
      );
    }

pub Begun-none : (live : ℕ → Option (List ℕ)) → ((id : ℕ) → live id ≡ None) → Begun live false []
Begun-none live e = record {
  numbers = λ id. e id ∙ nothing id;
  refuted = (λ t. absurd (true≢false (sym t)), λ h. absurd (omega (arith, h.2)));
}
  where
    nothing : (id : ℕ) → None ≡ numbered [] id
    nothing id = elim (cases_eq id 0) [ inl e ↦ rw e refl | inr d ↦ let z : nat_eq id 0 ≡ false = grind (arith, nat_tests) in rw z (sym (slice_get_past [] (id - 1) (omega arith))) ]

-- the codes of a clause that was read
pub code_at : (clauses : List (List ℤ)) (i : ℕ) (clause : List ℤ) (literals : List ℕ) → slice_get clauses (i + 1 - 1) ≡ Some clause → literals ≡ map code_of clause → (i < length (codes_of clauses)) × (get_or (codes_of clauses) i literals ≡ literals)
code_at clauses i clause literals e f =
    let g : slice_get clauses i ≡ Some clause = subst (λ (k : ℕ). slice_get clauses k ≡ Some clause) (let k : i + 1 - 1 ≡ i = omega arith in k) e in
    let h : slice_get (codes_of clauses) i ≡ Some literals = slice_get-map (map code_of) clauses i ∙ rw (g, f) refl in
    (slice_get_within (codes_of clauses) i literals h, get_or_from_slice_get (codes_of clauses) i literals literals h)

-- a flag that becomes true at an empty clause
pub empty_flag : (flag flag' : Bool) (v : Vec ℕ Global) → flag' ≡ (vec_len v == 0) → flag ≡ false → IsTrue flag' ↔ (IsTrue flag ⊎ (v.items ≡ []))
empty_flag flag flag' v e f = (
  λ t. inr (let n : vec_len v ≡ 0 = eqb-true (vec_len v) 0 (sym e ∙ t) in let z : length v.items ≡ 0 = omega arith in nil_from_length v.items z),
  λ s. elim s [
    | inl t ↦ absurd (true≢false (sym t ∙ f))
    | inr z ↦ let k : length v.items ≡ 0 = rw z refl in let n : vec_len v ≡ 0 = omega arith in e ∙ rw n refl
  ],
)

pub all_codes : (clauses : List (List ℤ)) (i : ℕ) → length clauses ≤ i → take i (codes_of clauses) ≡ codes_of clauses
all_codes clauses i b = take_all i (codes_of clauses) (rw (length-map clauses (map code_of)) b)
