-- The rule of watches leaves no clause with watches false or unit.
use Rattle.std.proofs.Common.{ℕ, ◌<◌, ◌⊎◌, List, [], ◌∷◌, length, inl, inr, subst, arith, suc}
use Rattle.std.specs.Prelude.{Contains, Any}
use Rattle.std.proofs.lemmas.Bool.{cases_eq}
use Rattle.clause_model.specs.Clauses.{negated, IsOpen}
use Rattle.clause_arena.specs.Contents.{Content, IsWhole, literals_of}
use Rattle.unit_propagation.specs.Watching.{IsWatched, IsOtherTrue, Rule}
use Rattle.unit_propagation.proofs.Steps.{Contains-first, Contains-cases, one_watched}
use Rattle.unit_propagation.proofs.Attached.{none_in}

member : (xs : List ℕ) (x : ℕ) → Contains xs x ⊎ (Contains xs x → ⊥)
member [] x = inr (λ c. none_in x c)
member (y ∷ xs) x = elim (cases_eq y x) [
  | inl e ↦ inl (subst (Contains (y ∷ xs)) e (Contains-first y xs))
  | inr n ↦ elim (member xs x) [
    | inl c ↦ inl (suc c.0, (let b : c.0 < length xs = c.1 in omega arith), c.2)
    | inr m ↦ inr (λ c. elim (Contains-cases y xs x c) [ inl e ↦ n e | inr d ↦ m d ])
  ]
]

true_in : (a clause : List ℕ) (l : ℕ) → Contains clause l → Contains a l → Any (Contains a) clause
true_in a clause l c t = (c.0, l, c.1, c.2, t)

pub opened : (content : Content) (a : List ℕ) (at : ℕ) → IsWhole content → IsWatched content at → Rule content a → IsOpen a (literals_of content at)
opened content a at whole d rule = elim (member a d.first) [
  | inl t ↦ inl (true_in a (literals_of content at) d.first d.first_in t)
  | inr n ↦ elim (member a d.second) [
    | inl t ↦ inl (true_in a (literals_of content at) d.second d.second_in t)
    | inr m ↦ elim (member a (negated d.first)) [
      | inl f ↦
          let o : IsOtherTrue content a at 0 = rule at 0 d.first d.watches_first f in
          absurd (m (subst (Contains a) (one_watched content at 1 o.0 d.second whole o.1.0 d.watches_second) o.1.1))
      | inr f ↦ elim (member a (negated d.second)) [
        | inl g ↦
            let o : IsOtherTrue content a at 1 = rule at 1 d.second d.watches_second g in
            absurd (n (subst (Contains a) (one_watched content at 0 o.0 d.first whole o.1.0 d.watches_first) o.1.1))
        | inr g ↦ inr (
          d.first,
          d.second,
          record {
            first = d.first_in;
            second = d.second_in;
            different = d.different;
            first_unset = (n, f);
            second_unset = (m, g);
          },
        )
      ]
    ]
  ]
]
