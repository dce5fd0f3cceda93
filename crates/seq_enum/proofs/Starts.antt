-- The loop that adds up how many instructions come before each kind.
use Rattle.std.proofs.Common.{◌≡◌, ℕ, zero, suc, ◌+◌, ◌-◌, ◌<◌, ◌≤◌, List, [], ◌∷◌, ◌++◌, ◌⊎◌, inl, inr, length, take, slice_get, Some, sym, ap, ◌∙◌, arith, length-append, get_or, add-one}
use Rattle.std.proofs.Math.Seq.{take-suc}
use Rattle.std.proofs.lemmas.List.Concat.{flat_map-append}
use Rattle.std.proofs.lemmas.Option.{slice_get-get_or, same_Some}
use Rattle.std.specs.List.{flat_map}
use Rattle.std.proofs.lemmas.List.{take-append-le}
use Rattle.seq_enum.specs.Alphabet.{rows, members, alphabet}
use Rattle.seq_enum.specs.Numberings.{AreStarts}
use Rattle.thumb_instr.specs.declared.kind.Kind.{Kind}
use Rattle.seq_enum.proofs.Numbered.{get_back}
use Rattle.common_lemmas.proofs.Lists.{get_front, take_whole}
use Rattle.seq_enum.proofs.Mnemonics.{length-rows}

-- a prefix has no more than the whole
pub front_fewer : {X A : Type 0} (f : X → List A) (n : ℕ) (xs : List X) → length (flat_map f (take n xs)) ≤ length (flat_map f xs)
front_fewer f zero xs = omega arith
front_fewer f (suc n) [] = omega arith
front_fewer f (suc n) (x ∷ xs) = omega (arith, front_fewer f n xs, length-append (f x) (flat_map f (take n xs)), length-append (f x) (flat_map f xs))

before_or_last : (i n : ℕ) → i < suc n → (i < n) ⊎ (i ≡ n)
before_or_last i zero h = inr (omega arith)
before_or_last zero (suc n) h = inl (omega arith)
before_or_last (suc i) (suc n) h = elim (before_or_last i n (omega arith)) [ inl k ↦ inl (omega (arith, k)) | inr e ↦ inr (ap suc e) ]

pub starts_more : (k : ℕ) (pool : List ℕ) (rows : List Kind) (row : Kind) (starts : List ℕ) → AreStarts k pool rows starts
    → AreStarts k pool (rows ++ row ∷ []) (starts ++ length (flat_map (members k pool) rows) ∷ [])
starts_more k pool rows row starts s = record {
  as_many = omega (arith, s.as_many, length-append starts (length (flat_map (members k pool) rows) ∷ []), length-append rows (row ∷ []));
  each = λ i h. at i (before_or_last i (length rows) (omega (arith, h, length-append rows (row ∷ []))));
}
  where
    last : ℕ
    last = length (flat_map (members k pool) rows)

    at : (i : ℕ) → (i < length rows) ⊎ (i ≡ length rows) → slice_get (starts ++ last ∷ []) i ≡ Some (length (flat_map (members k pool) (take i (rows ++ row ∷ []))))
    at i (inl h) =
        get_front starts (last ∷ []) i (omega (arith, s.as_many)) ∙ s.each i h
        ∙ ap (λ (rs : List Kind). Some (length (flat_map (members k pool) rs))) (sym (take-append-le i rows (row ∷ []) (omega arith)))
    at i (inr e) =
        get_back starts (last ∷ []) i (omega (arith, s.as_many, e))
        ∙ ap (slice_get (last ∷ [])) (let z : i - length starts ≡ 0 = omega (arith, s.as_many, e) in z)
        ∙ ap (λ (rs : List Kind). Some (length (flat_map (members k pool) rs))) (sym (ap (λ n. take n (rows ++ row ∷ [])) e ∙ take-append-le (length rows) rows (row ∷ []) (omega arith) ∙ take_whole rows))

-- one more kind: its start, and what comes before the next
pub starts_next : (k : ℕ) (pool : List ℕ) (rows : List Kind) (row : Kind) (i : ℕ) (starts next : List ℕ) (total count : ℕ) → i < length rows → AreStarts k pool (take i rows) starts
    → total ≡ length (flat_map (members k pool) (take i rows)) → next ≡ starts ++ total ∷ [] → count ≡ length (members k pool (get_or rows i row))
    → AreStarts k pool (take (i + 1) rows) next × (total + count ≡ length (flat_map (members k pool) (take (i + 1) rows)))
starts_next k pool rows row i starts next total count h s e n f =
    let longer : take (i + 1) rows ≡ take i rows ++ get_or rows i row ∷ [] = rw add-one (take-suc rows i row h) in (
      rw (longer, n, e) (starts_more k pool (take i rows) (get_or rows i row) starts s),
      rw (longer, flat_map-append (members k pool) (take i rows) (get_or rows i row ∷ [])) (omega (
        arith,
        e,
        f,
        length-append (flat_map (members k pool) (take i rows)) (members k pool (get_or rows i row) ++ []),
        length-append (members k pool (get_or rows i row)) [],
      )),
    )

pub starts_fewer : (k : ℕ) (pool : List ℕ) (n : ℕ) → length (flat_map (members k pool) (take n rows)) ≤ length (alphabet k pool)
unfolding alphabet
starts_fewer k pool n = front_fewer (members k pool) n rows

pub starts_at : (k : ℕ) (pool starts xs : List ℕ) (r i : ℕ) → AreStarts k pool rows starts → xs ≡ starts → r ≡ i → r < 37 → get_or xs r 0 ≡ length (flat_map (members k pool) (take i rows))
starts_at k pool starts xs r i s e f h =
    let low : r < length rows = omega (arith, h, length-rows) in
    let within : r < length starts = omega (arith, low, s.as_many) in
    ap (λ ys. get_or ys r 0) e
    ∙ same_Some _ _ (sym (slice_get-get_or starts r 0 within) ∙ s.each r low)
    ∙ ap (λ n. length (flat_map (members k pool) (take n rows))) f
