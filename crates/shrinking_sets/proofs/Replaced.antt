-- The model's replacement by as many instructions is an exchange.
use Rattle.std.proofs.Common.{◌≡◌, ℕ, zero, suc, ◌+◌, ◌-◌, ◌<◌, ◌≤◌, true, List, [], ◌∷◌, ◌++◌, length, length-append, take, drop, map, Some, None, refl, sym, ap, ◌∙◌, inl, inr, arith}
use Rattle.std.specs.Prelude.{slice_get}
use Rattle.std.proofs.lemmas.Option.{same_Some, slice_get_within}
use Rattle.std.specs.List.{list_all}
use Rattle.thumb_instr.specs.declared.instr.Instr.{Instr}
use Rattle.thumb_model.specs.Listing.{Place, plain, Label, Code}
use Rattle.thumb_model.specs.Replaced.{moved, move_label, replaced}
use Rattle.thumb_model.proofs.Lists.{get_drop, get_take, get_back, length_map, take_all, take_short, length_drop}
use Rattle.shrinking_sets.specs.Straight.{is_straight, IsApart, IsExchange}
use Rattle.common_lemmas.proofs.Lists.{get_front}

get_map : (is : List Instr) (k : ℕ) (i : Instr) → slice_get is k ≡ Some i → slice_get (map plain is) k ≡ Some (plain i)
get_map [] k i e = absurd (cc)
get_map (j ∷ is) zero i e = ap (λ z. Some (plain z)) (same_Some j i e)
get_map (j ∷ is) (suc k) i e = get_map is k i e

-- a label that moves by nothing
label_stays : (w : ℕ) (l : Label) → move_label w 0 l ≡ l
label_stays w l = ap (λ p. let m : Label = record { name = l.name; place = p } in m) (let e : moved w 0 l.place ≡ l.place = omega arith in e)

labels_stay : (w : ℕ) (ls : List Label) → map (move_label w 0) ls ≡ ls
labels_stay w [] = refl
labels_stay w (l ∷ ls) = ap (λ m. m ∷ map (move_label w 0) ls) (label_stays w l) ∙ ap (λ ms. l ∷ ms) (labels_stay w ls)

module _ (code : Code) (w : ℕ) (old is : List Instr) (many : length is ≡ length old) (some : 0 < length old) (stood : take (length old) (drop w code.places) ≡ map plain old) where
  within : w + length old ≤ length code.places
  within =
      let n : length (take (length old) (drop w code.places)) ≡ length old = ap length stood ∙ length_map plain old in
      let t = take_short (length old) (drop w code.places) in
      let d = length_drop w code.places in
      omega arith

  -- the three parts
  abbrev front : List Place
  front = take w code.places

  abbrev back : List Place
  back = drop (w + length old) code.places

  abbrev places' : List Place
  places' = front ++ (map plain is ++ back)

  front_many : length front ≡ w
  front_many = take_all w code.places (let h = within in omega arith)

  middle_many : length (map plain is) ≡ length old
  middle_many = length_map plain is ∙ many

  as_long : length places' ≡ length code.places
  as_long =
      let h = within in
      let a = length-append front (map plain is ++ back) in
      let b = length-append (map plain is) back in
      let c = length_drop (w + length old) code.places in
      let d = front_many in
      let e = middle_many in
      omega arith

  elsewhere : (q : ℕ) → IsApart w (length old) q → slice_get places' q ≡ slice_get code.places q
  elsewhere q (inl h) = get_front front (map plain is ++ back) q (let d = front_many in omega arith) ∙ get_take w code.places q h
  elsewhere q (inr h) =
      get_back front (map plain is ++ back) (q - w) q (let d = front_many in omega arith)
      ∙ get_back (map plain is) back (q - (w + length old)) (q - w) (let e = middle_many in omega arith)
      ∙ get_drop (w + length old) code.places (q - (w + length old)) q (omega arith)

  stands : (j : ℕ) (i : Instr) → slice_get is j ≡ Some i → slice_get places' (w + j) ≡ Some (plain i)
  stands j i e =
      let l = slice_get_within is j i e in
      get_back front (map plain is ++ back) j (w + j) (let d = front_many in omega arith)
      ∙ get_front (map plain is) back j (let n = length_map plain is in omega arith)
      ∙ get_map is j i e

  stood_at : (j : ℕ) (i : Instr) → slice_get old j ≡ Some i → slice_get code.places (w + j) ≡ Some (plain i)
  stood_at j i e =
      let l = slice_get_within old j i e in
      sym (get_drop w code.places j (w + j) refl) ∙ sym (get_take (length old) (drop w code.places) j l) ∙ ap (λ xs. slice_get xs j) stood ∙ get_map old j i e

  pub is_exchange : list_all is_straight old ≡ true → list_all is_straight is ≡ true → IsExchange code (replaced code w (length old) is) w old is
  is_exchange a b = record {
    labels = ap (λ n. map (move_label w n) code.labels) (let e : length old - length is ≡ 0 = omega arith in e) ∙ labels_stay w code.labels;
    places = as_long;
    as_many = many;
    elsewhere = elsewhere;
    stood = λ j i e. (None, stood_at j i e);
    stand = λ j i e. (None, stands j i e);
    old_straight = a;
    new_straight = b;
  }

pub replacing_is_exchange : (code : Code) (w : ℕ) (old is : List Instr) → length is ≡ length old → 0 < length old → take (length old) (drop w code.places) ≡ map plain old → list_all is_straight old ≡ true → list_all is_straight is ≡ true → IsExchange code (replaced code w (length old) is) w old is
replacing_is_exchange code w old is many some stood = is_exchange code w old is many some stood
