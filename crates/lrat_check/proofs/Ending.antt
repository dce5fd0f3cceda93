-- The additions up to the first empty clause, where ids ascend.
use Rattle.std.proofs.Common.{◌≡◌, ℕ, ℤ, suc, ◌+◌, ◌-◌, ◌<◌, ◌≤◌, List, [], ◌∷◌, length, get_or, sym, ◌∙◌, inl, inr, arith, subst}
use Rattle.std.specs.Prelude.{AllPairs, Contains}
use Rattle.std.proofs.lemmas.List.Elements.{Contains-get_or}
use Rattle.std.proofs.lemmas.List.Kept.{AllPairs-cons}
use Rattle.lrat_check.specs.Text.{Content, addition, deletion, id_of, AddsFirstEmpty}
use Rattle.lrat_check.specs.Ending.{up_to_empty}
use Rattle.lrat_check.specs.Shown.{IsBefore}
use Rattle.lrat_check.proofs.Members.{head_or_tail, head_in, tail_in, none_in}
use Rattle.lrat_check.proofs.Placed.{Ascends, ascends_to}

pub ending_in : (lines : List Content) (x : Content) → Contains (up_to_empty lines) x → Contains lines x
ending_in [] x i = i
ending_in (addition id [] hints ∷ lines) x i = elim (head_or_tail (addition id [] hints) [] x i) [
  | inl e ↦ subst (Contains (addition id [] hints ∷ lines)) e (head_in (addition id [] hints) lines)
  | inr j ↦ absurd (none_in x j)
]
ending_in (addition id (l ∷ ls) hints ∷ lines) x i = elim (head_or_tail (addition id (l ∷ ls) hints) (up_to_empty lines) x i) [
  | inl e ↦ subst (Contains (addition id (l ∷ ls) hints ∷ lines)) e (head_in (addition id (l ∷ ls) hints) lines)
  | inr j ↦ tail_in (addition id (l ∷ ls) hints) lines x (ending_in lines x j)
]
ending_in (deletion id ids ∷ lines) x i = tail_in (deletion id ids) lines x (ending_in lines x i)

pub ending_adds : (lines : List Content) (id : ℕ) (ids : List ℕ) → Contains (up_to_empty lines) (deletion id ids) → ⊥
ending_adds [] id ids i = none_in (deletion id ids) i
ending_adds (addition n [] hints ∷ lines) id ids i = elim (head_or_tail (addition n [] hints) [] (deletion id ids) i) [ inl e ↦ cc | inr j ↦ none_in (deletion id ids) j ]
ending_adds (addition n (l ∷ ls) hints ∷ lines) id ids i = elim (head_or_tail (addition n (l ∷ ls) hints) (up_to_empty lines) (deletion id ids) i) [ inl e ↦ cc | inr j ↦ ending_adds lines id ids j ]
ending_adds (deletion n ns ∷ lines) id ids i = ending_adds lines id ids i

-- the ids ascend
pub ending_above : (last : ℕ) (lines : List Content) → Ascends last lines → (x : Content) → Contains (up_to_empty lines) x → last < id_of x
ending_above last lines a (addition id literals hints) i = ascends_to last lines id literals hints a (ending_in lines (addition id literals hints) i)
ending_above last lines a (deletion id ids) i = absurd (ending_adds lines id ids i)

pub ending_order : (last : ℕ) (lines : List Content) → Ascends last lines → AllPairs IsBefore (up_to_empty lines)
ending_order last [] a = λ i j d l b. absurd (omega arith)
ending_order last (addition id [] hints ∷ lines) a = AllPairs-cons IsBefore (addition id [] hints) [] (λ k d b. absurd (omega arith)) (λ i j d l b. absurd (omega arith))
ending_order last (addition id (l ∷ ls) hints ∷ lines) a =
    AllPairs-cons IsBefore (addition id (l ∷ ls) hints) (up_to_empty lines)
    (λ k d b. ending_above id lines a.1 (get_or (up_to_empty lines) k d) (Contains-get_or (up_to_empty lines) k d b)) (ending_order id lines a.1)
ending_order last (deletion id ids ∷ lines) a = ending_order last lines a

-- a line that doesn't add the empty clause is not the first that does
first_later : (line : Content) (lines : List Content) (e : ℕ) → ((q : ℕ) (hints : List ℤ) → line ≡ addition q [] hints → ⊥) → AddsFirstEmpty (line ∷ lines) e → AddsFirstEmpty lines e
first_later line lines e n f = record {
  adds = (f.adds.0, elim (head_or_tail line lines (addition e [] f.adds.0) f.adds.1) [ inl s ↦ absurd (n e f.adds.0 s) | inr j ↦ j ]);
  first = λ q hints i. f.first q hints (tail_in line lines (addition q [] hints) i);
}

-- the last of them adds the empty clause
pub ending_last : (last : ℕ) (lines : List Content) (e : ℕ) → Ascends last lines → AddsFirstEmpty lines e → (1 ≤ length (up_to_empty lines)) × ((k : ℕ) (d : Content) → k + 1 ≡ length (up_to_empty lines) → id_of (get_or (up_to_empty lines) k d) ≡ e)
ending_last last [] e a f = absurd (none_in (addition e [] f.adds.0) f.adds.1)
ending_last last (addition id [] hints ∷ lines) e a f = (
  omega arith,
  λ k d s.
      let z : k ≡ 0 = omega arith in
      let low : e ≤ id = f.first id hints (head_in (addition id [] hints) lines) in
      let high : id ≤ e = elim (head_or_tail (addition id [] hints) lines (addition e [] f.adds.0) f.adds.1) [
        | inl t ↦ let u : id ≡ e = cc in omega arith
        | inr j ↦ let b : id < e = ascends_to id lines e [] f.adds.0 a.1 j in omega arith
      ] in
      rw z (let u : id ≡ e = omega arith in u),
)
ending_last last (addition id (l ∷ ls) hints ∷ lines) e a f =
    let more = ending_last id lines e a.1 (first_later (addition id (l ∷ ls) hints) lines e (λ q hs t. cc) f) in (
      omega arith,
      λ k d s.
          let i : ℕ × Unit {0} = (k - 1, tt) in
          let some = more.0 in
          let z : k ≡ suc i.0 = omega arith in
          rw z (more.1 i.0 d (omega arith)),
    )
ending_last last (deletion id ids ∷ lines) e a f = ending_last last lines e a (first_later (deletion id ids) lines e (λ q hs t. cc) f)

-- each addition up to the first of the empty clause is among them
pub ending_all : (last : ℕ) (lines : List Content) (e : ℕ) → Ascends last lines → AddsFirstEmpty lines e → (id : ℕ) (literals : List ℕ) (hints : List ℤ) → id ≤ e → Contains lines (addition id literals hints) → Contains (up_to_empty lines) (addition id literals hints)
ending_all last [] e a f id literals hints b i = i
ending_all last (addition n [] hs ∷ lines) e a f id literals hints b i = elim (head_or_tail (addition n [] hs) lines (addition id literals hints) i) [
  | inl s ↦ subst (Contains (addition n [] hs ∷ [])) s (head_in (addition n [] hs) [])
  | inr j ↦
      let low : e ≤ n = f.first n hs (head_in (addition n [] hs) lines) in
      let high : n < id = ascends_to n lines id literals hints a.1 j in
      absurd (omega arith)
]
ending_all last (addition n (l ∷ ls) hs ∷ lines) e a f id literals hints b i =
    let line : Content = addition n (l ∷ ls) hs in
    elim (head_or_tail line lines (addition id literals hints) i) [
      | inl s ↦ subst (Contains (line ∷ up_to_empty lines)) s (head_in line (up_to_empty lines))
      | inr j ↦ tail_in line (up_to_empty lines) (addition id literals hints) (ending_all n lines e a.1 (first_later line lines e (λ q hs t. cc) f) id literals hints b j)
    ]
ending_all last (deletion n ids ∷ lines) e a f id literals hints b i = elim (head_or_tail (deletion n ids) lines (addition id literals hints) i) [
  | inl s ↦ cc
  | inr j ↦ ending_all last lines e a (first_later (deletion n ids) lines e (λ q hs t. cc) f) id literals hints b j
]

-- an id is added once
pub added_once : (last : ℕ) (lines : List Content) → Ascends last lines → (id : ℕ) (literals others : List ℕ) (hints hs : List ℤ) → Contains lines (addition id literals hints) → Contains lines (addition id others hs) → (literals ≡ others) × (hints ≡ hs)
added_once last [] a id literals others hints hs i j = absurd (none_in (addition id literals hints) i)
added_once last (addition n ls ns ∷ lines) a id literals others hints hs i j = elim (head_or_tail (addition n ls ns) lines (addition id literals hints) i) [
  | inl s ↦ elim (head_or_tail (addition n ls ns) lines (addition id others hs) j) [
    | inl t ↦ let u : addition id literals hints ≡ addition id others hs = sym s ∙ t in (cc, cc)
    | inr t ↦ let b : n < id = ascends_to n lines id others hs a.1 t in let u : n ≡ id = cc in absurd (omega arith)
  ]
  | inr s ↦ elim (head_or_tail (addition n ls ns) lines (addition id others hs) j) [
    | inl t ↦ let b : n < id = ascends_to n lines id literals hints a.1 s in let u : n ≡ id = cc in absurd (omega arith)
    | inr t ↦ added_once n lines a.1 id literals others hints hs s t
  ]
]
added_once last (deletion n ns ∷ lines) a id literals others hints hs i j = elim (head_or_tail (deletion n ns) lines (addition id literals hints) i) [
  | inl s ↦ cc
  | inr s ↦ elim (head_or_tail (deletion n ns) lines (addition id others hs) j) [ inl t ↦ cc | inr t ↦ added_once last lines a id literals others hints hs s t ]
]
