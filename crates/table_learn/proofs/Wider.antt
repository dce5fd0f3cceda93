-- The alphabet of fewer registers is contained in that of more.
use Rattle.std.proofs.Common.{ℕ, zero, suc, ◌≤◌, inl, inr, Bool, List, [], ◌∷◌, Contains, filter, map, subst, arith}
use Rattle.std.specs.List.{flat_map}
use Rattle.std.proofs.lemmas.List.Elements.{All-nil, All-cons, All-head, All-tail}
use Rattle.thumb_instr.specs.declared.instr.Instr.{Instr}
use Rattle.thumb_instr.specs.declared.instr.Instr.TheVariants as instr
use Rattle.thumb_instr.specs.declared.kind.Kind.{Kind}
use Rattle.thumb_instr.specs.declared.kind.Kind.TheVariants as kind
use Rattle.seq_enum.specs.Alphabet.{numbers_from, those_within, grid2, grid3, rows, registers, others, wide, added, members, alphabet, IsOver}
use Rattle.table_learn.proofs.Elements.{none_in, from_flat, to_flat, from_map, to_map, from_filter, to_filter}
use Rattle.clause_arena.proofs.Lists.{Contains-first, Contains-later, Contains-cases}

-- each element of the first list is in the second
abbrev Are : {X : Type 0} → List X → List X → Type 0
Are xs ys = (x : _) → Contains xs x → Contains ys x

more_flat : {X A : Type 0} (f g : X → List A) (xs ys : List X) → Are xs ys → ((x : X) → Are (f x) (g x)) → Are (flat_map f xs) (flat_map g ys)
more_flat f g xs ys h k a c = let r = from_flat f xs a c in to_flat g ys r.0 a (h r.0 r.1) (k r.0 a r.2)

more_map : {X A : Type 0} (f : X → A) (xs ys : List X) → Are xs ys → Are (map f xs) (map f ys)
more_map f xs ys h a c = let r = from_map f xs a c in subst (λ z. Contains (map f ys) z) r.2 (to_map f ys r.0 (h r.0 r.1))

more_filter : {X : Type 0} (p : X → Bool) (xs ys : List X) → Are xs ys → Are (filter p xs) (filter p ys)
more_filter p xs ys h x c = let r = from_filter p xs x c in to_filter p ys x (h x r.0) r.1

more_grid2 : {X Y A : Type 0} (make : X → Y → A) (xs us : List X) (ys vs : List Y) → Are xs us → Are ys vs → Are (grid2 make xs ys) (grid2 make us vs)
unfolding grid2
more_grid2 make xs us ys vs h k = more_flat (λ x. map (make x) ys) (λ x. map (make x) vs) xs us h (λ x. more_map (make x) ys vs k)

more_grid3 : {X Y Z A : Type 0} (make : X → Y → Z → A) (xs us : List X) (ys vs : X → List Y) (zs ws : List Z) → Are xs us → ((x : X) → Are (ys x) (vs x)) → Are zs ws → Are (grid3 make xs ys zs) (grid3 make us vs ws)
unfolding grid3
more_grid3 make xs us ys vs zs ws h k l = more_flat (λ x. grid2 (make x) (ys x) zs) (λ x. grid2 (make x) (vs x) ws) xs us h (λ x. more_grid2 (make x) (ys x) (vs x) zs ws (k x) l)

-- ---- registers ----

more_numbers : (first k m : ℕ) → k ≤ m → Are (numbers_from first k) (numbers_from first m)
unfolding numbers_from
more_numbers first zero m h x c = absurd (none_in x c)
more_numbers first (suc k) zero h x c = absurd (omega (arith, h))
more_numbers first (suc k) (suc m) h x c = elim (Contains-cases first (numbers_from (suc first) k) x c) [
  | inl same ↦ subst (λ z. Contains (first ∷ numbers_from (suc first) m) z) same (Contains-first first (numbers_from (suc first) m))
  | inr later ↦ Contains-later first (numbers_from (suc first) m) x (more_numbers (suc first) k m (omega (arith, h)) x later)
]

more_registers : (k m : ℕ) → k ≤ m → Are (registers k) (registers m)
unfolding those_within
more_registers k m h = more_flat _ _ (numbers_from 0 k) (numbers_from 0 m) (more_numbers 0 k m h) (λ n x c. c)

-- ---- instructions ----

more_members : (k m : ℕ) (pool : List ℕ) (t : Kind) → Are (registers k) (registers m) → Are (members k pool t) (members m pool t)
unfolding members
more_members k m pool (kind.Three s) r = more_grid3 (instr.Three s) (registers k) (registers m) (λ d. registers k) (λ d. registers m) (registers k) (registers m) r (λ d. r) r
more_members k m pool (kind.ThreeNumber s) r = more_grid3 (instr.ThreeNumber s) (registers k) (registers m) (others k) (others m) (those_within 0 8 pool) (those_within 0 8 pool) r (λ d. more_filter _ (registers k) (registers m) r) (λ z c. c)
more_members k m pool (kind.TwoNumber o) r = more_grid2 (instr.TwoNumber o) (registers k) (registers m) (those_within 0 256 pool) (those_within 0 256 pool) r (λ z c. c)
more_members k m pool kind.ShiftLeft r = more_grid3 instr.ShiftLeft (registers k) (registers m) (λ d. registers k) (λ d. registers m) (those_within 1 32 pool) (those_within 1 32 pool) r (λ d. r) (λ z c. c)
more_members k m pool (kind.ShiftRight s) r = more_grid3 (instr.ShiftRight s) (registers k) (registers m) (λ d. registers k) (λ d. registers m) (those_within 1 33 pool) (those_within 1 33 pool) r (λ d. r) (λ z c. c)
more_members k m pool (kind.Two o) r = more_grid2 (instr.Two o) (registers k) (registers m) (registers k) (registers m) r r
more_members k m pool kind.Movs r = more_grid2 instr.Movs (registers k) (registers m) (registers k) (registers m) r r
more_members k m pool kind.Mov r = more_grid2 (λ d n. instr.Mov (wide d) (wide n)) (registers k) (registers m) (registers k) (registers m) r r
more_members k m pool kind.Add r = more_grid2 (λ d n. instr.Add (added d n)) (registers k) (registers m) (registers k) (registers m) r r
more_members k m pool (kind.Extend e) r = more_grid2 (instr.Extend e) (registers k) (registers m) (registers k) (registers m) r r
more_members k m pool (kind.Reverse v) r = more_grid2 (instr.Reverse v) (registers k) (registers m) (registers k) (registers m) r r
more_members k m pool t r = λ x c. absurd (none_in x c)

more_instrs : (k m : ℕ) (pool : List ℕ) → k ≤ m → Are (alphabet k pool) (alphabet m pool)
unfolding alphabet
more_instrs k m pool h = more_flat (members k pool) (members m pool) rows rows (λ t c. c) (λ t. more_members k m pool t (more_registers k m h))

-- a sequence over fewer registers is one over more
pub over_wider : (k m : ℕ) (pool : List ℕ) (seq : List Instr) → k ≤ m → IsOver k pool seq → IsOver m pool seq
over_wider k m pool [] h over = All-nil (Contains (alphabet m pool))
over_wider k m pool (i ∷ is) h over =
    All-cons (Contains (alphabet m pool)) i is (more_instrs k m pool h i (All-head (Contains (alphabet k pool)) i is over)) (over_wider k m pool is h (All-tail (Contains (alphabet k pool)) i is over))
