-- The loop that reads words up to the `0`.
use Rattle.std.proofs.Common.{◌≡◌, ℕ, ◌+◌, ◌-◌, ◌<◌, ◌≤◌, List, [], ◌∷◌, ◌++◌, length, get_or, take, drop, map, sym, ◌∙◌, ap, subst, arith, append_assoc, refl, true, not, Option, Some, None}
use Rattle.std.specs.Prelude.{All, is_some}
use Rattle.std.specs.List.{slice_split, count_by, position_or_len}
use Rattle.std.specs.Borrow.{Bor}
use Rattle.std.proofs.Math.Dec.{eqb}
use Rattle.std.proofs.lemmas.Bool.{false≢true, not-true}
use Rattle.std.proofs.lemmas.List.{map_push, append-nil, length-drop, take_all}
use Rattle.std.proofs.lemmas.List.Elements.{All-head, All-tail, All-push}
use Rattle.std.proofs.lemmas.List.Splits.{length-slice_split, slice_split_first, slice_split_none}
use Rattle.std.proofs.lemmas.List.Sums.{prefix_len_passes}
use Rattle.lrat_check.specs.Text.{end_word}
use Rattle.lrat_check.specs.Reading.{words_left}
use Rattle.lrat_check.proofs.Texts.{All-middle, split_unique}

-- a word ends at the first blank, or where the bytes end
pub split_at_blank : (bytes : List ℕ) (n : ℕ) → n ≡ position_or_len (λ b. eqb b 32) bytes → n < length bytes → slice_split (λ b. eqb b 32) bytes ≡ take n bytes ∷ slice_split (λ b. eqb b 32) (take (length bytes - (n + 1)) (drop (n + 1) bytes))
split_at_blank bytes n e b =
    let at : slice_split (λ c. eqb c 32) bytes ≡ take n bytes ∷ slice_split (λ c. eqb c 32) (drop (n + 1) bytes) = rw e (slice_split_first (λ c. eqb c 32) bytes 0 (subst (λ (k : ℕ). k < length bytes) e b)) in
    let fits : length (drop (n + 1) bytes) ≤ length bytes - (n + 1) = omega (arith, length-drop (n + 1) bytes) in
    at ∙ ap (λ (rest : List ℕ). take n bytes ∷ slice_split (λ c. eqb c 32) rest) (sym (take_all (length bytes - (n + 1)) (drop (n + 1) bytes) fits))

pub split_no_blank : (bytes : List ℕ) (n : ℕ) → n ≡ position_or_len (λ b. eqb b 32) bytes → length bytes ≤ n → slice_split (λ b. eqb b 32) bytes ≡ bytes ∷ []
split_no_blank bytes n e b = slice_split_none (λ c. eqb c 32) bytes (λ k d l. not-true (eqb (get_or bytes k d) 32) (prefix_len_passes (λ c. not (eqb c 32)) bytes k d (omega (arith, e, b, l))))

-- the rest, if any, has a word
some_left : (bytes : List ℕ) → slice_split (λ b. eqb b 32) bytes ≡ [] → ⊥
some_left bytes e =
    let n : length (slice_split (λ b. eqb b 32) bytes) ≡ count_by (λ b. eqb b 32) bytes + 1 = length-slice_split (λ b. eqb b 32) bytes in
    let z : length (slice_split (λ b. eqb b 32) bytes) ≡ 0 = ap length e in
    omega (arith, n, z)

pub words_follow : (rest : Option (Bor (List ℕ))) → is_some rest ≡ true → words_left rest ≡ [] → ⊥
words_follow None n e = false≢true n
words_follow (Some bytes) n e = some_left bytes.now e

module _ {X : Type 0} (P : X → Type 0) (f : X → List ℕ) where
  -- the words begin with what was read, none of it `0`, and go on with what is left
  pub record IsRead (words : List (List ℕ)) (xs : List X) (left : List (List ℕ)) : Type 0 where
    pub good : All P xs
    pub not_end : All (λ w. w ≡ end_word → ⊥) (map f xs)
    pub words' : words ≡ map f xs ++ left

  pub read_more : (words left after : List (List ℕ)) (xs ys : List X) (x : X) (w : List ℕ) → IsRead words xs left → left ≡ w ∷ after → (w ≡ end_word → ⊥) → P x × (f x ≡ w) → ys ≡ xs ++ x ∷ [] → IsRead words ys after
  read_more words left after xs ys x w h e n p q = record {
    good = subst (All P) (sym q) (All-push P xs x h.good p.0);
    not_end = rw (q, map_push f xs x) (All-push (λ v. v ≡ end_word → ⊥) (map f xs) (f x) h.not_end (λ z. n (sym p.1 ∙ z)));
    words' = rw (q, map_push f xs x) (h.words' ∙ ap (λ (ws : List (List ℕ)). map f xs ++ ws) (e ∙ ap (λ (v : List ℕ). v ∷ after) (sym p.1)) ∙ sym (append_assoc (map f xs) (f x ∷ []) after));
  }

  stops : (w : List ℕ) (before after more : List (List ℕ)) (zs : List X) → (w ≡ end_word → ⊥) → ((x : X) → P x → f x ≡ w → ⊥) → All (λ v. v ≡ end_word → ⊥) before → All P zs → before ++ w ∷ after ≡ map f zs ++ end_word ∷ more → ⊥
  stops w [] after more [] n u h k e = n cc
  stops w [] after more (z ∷ zs) n u h k e = let same : f z ≡ w = cc in u z (All-head P z zs k) same
  stops w (b ∷ before) after more [] n u h k e = let same : b ≡ end_word = cc in All-head (λ v. v ≡ end_word → ⊥) b before h same
  stops w (b ∷ before) after more (z ∷ zs) n u h k e =
      let tail : before ++ w ∷ after ≡ map f zs ++ end_word ∷ more = cc in
      stops w before after more zs n u (All-tail (λ v. v ≡ end_word → ⊥) b before h) (All-tail P z zs k) tail

  -- at a word that isn't valid the list doesn't reach its end
  pub read_stops : (words left after : List (List ℕ)) (xs : List X) (w : List ℕ) → IsRead words xs left → left ≡ w ∷ after → (w ≡ end_word → ⊥) → ((x : X) → P x → f x ≡ w → ⊥) → (zs : List X) (more : List (List ℕ)) → All P zs → words ≡ map f zs ++ end_word ∷ more → ⊥
  read_stops words left after xs w h e n u zs more k q = stops w (map f xs) after more zs n u h.not_end k (ap (λ (ws : List (List ℕ)). map f xs ++ ws) (sym e) ∙ sym h.words' ∙ q)

  pub read_out : (words left : List (List ℕ)) (xs : List X) → IsRead words xs left → left ≡ [] → (zs : List X) (more : List (List ℕ)) → All P zs → words ≡ map f zs ++ end_word ∷ more → ⊥
  read_out words left xs h e zs more k q =
      let same : map f xs ≡ map f zs ++ end_word ∷ more = sym (append-nil (map f xs)) ∙ ap (λ (ws : List (List ℕ)). map f xs ++ ws) (sym e) ∙ sym h.words' ∙ q in
      All-middle (λ v. v ≡ end_word → ⊥) (map f zs) end_word more (subst (All (λ v. v ≡ end_word → ⊥)) same h.not_end) refl

  -- reading goes on after the `0` of a list
  pub read_on : (words left : List (List ℕ)) (xs zs : List X) → All (λ v. v ≡ end_word → ⊥) (map f xs) → words ≡ map f xs ++ end_word ∷ left → (left ≡ [] → ⊥) → All (λ v. v ≡ end_word → ⊥) (map f zs) → words ≡ map f zs ++ end_word ∷ [] → ⊥
  read_on words left xs zs h e n k q = n (split_unique end_word (map f xs) (map f zs) left [] h k (sym e ∙ q)).1
