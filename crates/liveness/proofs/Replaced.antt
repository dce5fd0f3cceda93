-- Lists of which a part gives way to others.
use Rattle.std.proofs.Common.{◌≡◌, ℕ, zero, suc, ◌+◌, ◌-◌, ◌<◌, ◌≤◌, List, [], ◌∷◌, ◌++◌, length, length-append, append-nil, append_assoc, take, drop, map, Some, refl, sym, ap, ◌∙◌, arith}
use Rattle.std.specs.Prelude.{slice_get, slice_set}
use Rattle.std.proofs.lemmas.Option.{same_Some, slice_get_within}
use Rattle.std.proofs.lemmas.List.{drop-drop}
use Rattle.thumb_model.proofs.Lists.{drop_back, length_drop, length_map, take_all, take_back}
use Rattle.liveness.proofs.Moves.{drop_at}

take_front : {A : Type 0} (xs ys : List A) (n : ℕ) → n ≡ length xs → take n (xs ++ ys) ≡ xs
take_front xs ys n e = take_back xs ys n 0 (omega arith) ∙ append-nil xs

-- ---- some that are left out ----

-- ---- some that give way ----

set_back : {A : Type 0} (xs ys : List A) (i j : ℕ) (v : A) → j ≡ length xs + i → slice_set (xs ++ ys) j v ≡ xs ++ slice_set ys i v
set_back [] ys i j v e = ap (λ n. slice_set ys n v) (let f : j ≡ i = omega arith in f)
set_back (x ∷ xs) ys i zero v e = absurd (omega arith)
set_back (x ∷ xs) ys i (suc j) v e = ap (λ zs. x ∷ zs) (set_back xs ys i j v (omega arith))

one_more : {A B : Type 0} (f : A → B) (xs : List A) (k : ℕ) (x : A) (rest : List B) → slice_get xs k ≡ Some x → map f (take k xs) ++ (f x ∷ rest) ≡ map f (take (k + 1) xs) ++ rest
one_more f [] k x rest e = absurd (cc)
one_more f (y ∷ xs) zero x rest e = ap (λ z. f z ∷ rest) (sym (same_Some y x e))
one_more f (y ∷ xs) (suc k) x rest e = ap (λ zs. f y ∷ zs) (one_more f xs k x rest e) ∙ ap (λ m. map f (take m (y ∷ xs)) ++ rest) (let g : suc (k + 1) ≡ suc k + 1 = omega arith in g)

-- one more
pub put_one : {A B : Type 0} (f : A → B) (p k : ℕ) (old : List B) (new : List A) (n : A) → p + k < length old → slice_get new k ≡ Some n
    → slice_set (take p old ++ (map f (take k new) ++ drop (p + k) old)) (p + k) (f n) ≡ take p old ++ (map f (take (k + 1) new) ++ drop (p + (k + 1)) old)
put_one f p k old new n h e =
    let w = slice_get_within new k n e in
    let front = take_all p old (omega arith) in
    let many = take_all k new (omega arith) in
    let as_many = length_map f (take k new) in
    let d = drop_at old (p + k) h in
    set_back (take p old) (map f (take k new) ++ drop (p + k) old) k (p + k) (f n) (omega arith)
    ∙ ap (λ zs. take p old ++ zs) (
    set_back (map f (take k new)) (drop (p + k) old) 0 k (f n) (omega arith)
    ∙ ap (λ zs. map f (take k new) ++ slice_set zs 0 (f n)) d.2
    ∙ one_more f new k n (drop (p + k + 1) old) e
    ∙ ap (λ m. map f (take (k + 1) new) ++ drop m old) (let g : p + k + 1 ≡ p + (k + 1) = omega arith in g)
    )

take_whole : {A : Type 0} (n : ℕ) (xs : List A) → n ≡ length xs → take n xs ≡ xs
take_whole zero [] h = refl
take_whole (suc n) [] h = absurd (omega arith)
take_whole zero (x ∷ xs) h = absurd (omega arith)
take_whole (suc n) (x ∷ xs) h = ap (λ ys. x ∷ ys) (take_whole n xs (omega arith))

pub put_all : {A B : Type 0} (f : A → B) (p k : ℕ) (old : List B) (new : List A) → k ≡ length new → take p old ++ (map f (take k new) ++ drop (p + k) old) ≡ take p old ++ (map f new ++ drop (p + length new) old)
put_all f p k old new e = ap (λ (xs : List _). take p old ++ (map f xs ++ drop (p + k) old)) (take_whole k new e) ∙ ap (λ m. take p old ++ (map f new ++ drop (p + m) old)) e

-- as many as there were
pub put_length : {A B : Type 0} (f : A → B) (p : ℕ) (old : List B) (new : List A) → p + length new ≤ length old → length (take p old ++ (map f new ++ drop (p + length new) old)) ≡ length old
put_length f p old new h =
    let front = take_all p old (omega arith) in
    let a = length-append (take p old) (map f new ++ drop (p + length new) old) in
    let b = length-append (map f new) (drop (p + length new) old) in
    let m = length_map f new in
    let d = length_drop (p + length new) old in
    omega arith

-- and then some that are left out
pub put_left : {A B : Type 0} (f : A → B) (p count : ℕ) (old : List B) (new : List A) (all : List B) → all ≡ take p old ++ (map f new ++ drop (p + length new) old) → length new ≤ count → p + count ≤ length old
    → take (p + length new) all ++ drop (p + length new + (count - length new)) all ≡ take p old ++ (map f new ++ drop (p + count) old)
put_left f p count old new all e h l =
    let front = take_all p old (omega arith) in
    let m = length_map f new in
    let rest = drop (p + length new) old in
    ap (λ xs. take (p + length new) xs ++ drop (p + length new + (count - length new)) xs) e
    ∙ ap (λ xs. xs ++ drop (p + length new + (count - length new)) (take p old ++ (map f new ++ rest))) (take_back (take p old) (map f new ++ rest) (p + length new) (length new) (omega arith) ∙ ap (λ xs. take p old ++ xs) (take_front (map f new) rest (length new) (sym m)))
    ∙ ap (λ xs. (take p old ++ map f new) ++ xs) (
    drop_back (take p old) (map f new ++ rest) (p + length new + (count - length new)) count (omega arith)
    ∙ drop_back (map f new) rest count (count - length new) (omega arith)
    ∙ drop-drop (count - length new) (p + length new) old ∙ ap (λ n. drop n old) (let g : p + length new + (count - length new) ≡ p + count = omega arith in g)
    )
    ∙ append_assoc (take p old) (map f new) (drop (p + count) old)
