-- Loads of lists of registers, word by word: the recursion of `read_many`.
use Rattle.std.proofs.Common.{◌≡◌, inl, inr, ℕ, suc, ◌+◌, ◌-◌, take, ◌<◌, ◌≤◌, true, false, List, [], ◌∷◌, ◌++◌, drop, get_or, length, refl, sym, ap, arith, add-one, length-drop, append_assoc, ◌∙◌, if◌then◌else◌}
use Rattle.std.proofs.Math.Seq.{drop-cons, take-length}
use Rattle.std.proofs.lemmas.Bool.{cases_Bool}
use Rattle.std.proofs.lemmas.List.{map-append}
use Rattle.thumb_machine.specs.declared.event.Event.{Event}
use Rattle.thumb_machine.specs.Outside.{event_of, events_of}
use Rattle.thumb_model.specs.Effect.{Values, assigned, one_of}
use Rattle.thumb_model.proofs.Law.{keys, keys_words, assigned_agree, assigned_other}
use Rattle.thumb_model.specs.States.{Answer, Load}
use Rattle.thumb_model.specs.Accesses.{behind, device_words, is_device, left_at, left_from, load_events, next_word, stored, stored_words, word_at, words_from}
use Rattle.thumb_machine.specs.Lists.{AreRegisters}

pub registers_append : (xs ys : List ℕ) → AreRegisters xs → AreRegisters ys → AreRegisters (xs ++ ys)
registers_append [] ys h k = k
registers_append (x ∷ xs) ys h k = (h.0, registers_append xs ys h.1 k)

pub stored_next : (m : ℕ → ℕ) (a : ℕ) (xs : List ℕ) (i : ℕ) → i < length xs → stored_words (stored m a 4 (get_or xs i 0)) (next_word a) (drop (i + 1) xs) ≡ stored_words m a (drop i xs)
stored_next m a xs i h = rw (drop-cons xs i 0, add-one) refl

-- ---- the next of the words from an address on ----

pub behind_next : (a : ℕ) (xs : List ℕ) (i : ℕ) → i < length xs → behind (drop (i + 1) xs) (next_word a) ≡ behind (drop i xs) a
behind_next a xs i h = rw (drop-cons xs i 0, add-one) refl

pub devices_next : (a : ℕ) (xs : List ℕ) (i : ℕ) → i < length xs → (if is_device a then 1 else 0) + device_words (next_word a) (drop (i + 1) xs) ≡ device_words a (drop i xs)
devices_next a xs i h = rw (drop-cons xs i 0, add-one) (elim (cases_Bool (is_device a)) [ inl e ↦ rw e (omega arith) | inr e ↦ rw e (omega arith) ])

pub loads_next : (es : List Event) (e : Event) (a : ℕ) (xs : List ℕ) (i : ℕ) → event_of e ≡ Load a 4 → i < length xs
    → events_of (es ++ e ∷ []) ++ load_events (next_word a) (drop (i + 1) xs) ≡ events_of es ++ load_events a (drop i xs)
loads_next es e a xs i is h = rw (drop-cons xs i 0, add-one, map-append) (rw is (append_assoc (events_of es) (Load a 4 ∷ []) (load_events (next_word a) (drop (suc i) xs))))

-- the list without its first element
pub rest_is : (xs : List ℕ) → take (length xs - 1) (drop 1 xs) ≡ drop 1 xs
rest_is [] = refl
rest_is (x ∷ xs) = let e : length (x ∷ xs) - 1 ≡ length xs = omega arith in ap (λ n. take n xs) e ∙ take-length xs

-- the first register gets its word after the others
pub read_next : (m : ℕ → ℕ) (left : List Answer) (a : ℕ) (xs : List ℕ) (v : Values) → 0 < length xs
    → assigned ((get_or xs 0 0, word_at m left a) ∷ []) (assigned (words_from m (left_at left a) (next_word a) (take (length xs - 1) (drop 1 xs))) v) ≡ assigned (words_from m left a xs) v
read_next m left a [] v h = absurd (omega arith)
read_next m left a (x ∷ xs) v h = rw (rest_is (x ∷ xs)) refl

-- ---- the base ----

-- a base among the registers keeps its word
pub base_word : (m : ℕ → ℕ) (left : List Answer) (a : ℕ) (xs : List ℕ) (base back : ℕ) (v : Values)
    → (if one_of base xs then assigned (words_from m left a xs) v base else back) ≡ assigned (words_from m left a xs) (λ x. back) base
base_word m left a xs base back v =
    let ws = words_from m left a xs in
    let k : one_of base (keys ws) ≡ one_of base xs = ap (one_of base) (keys_words m left a xs) in
    elim (cases_Bool (one_of base xs)) [
      | inl e ↦ rw e (assigned_agree ws v (λ x. back) base (λ h. absurd (let z : true ≡ false = sym e ∙ (sym k ∙ h) in cc)))
      | inr e ↦ rw e (sym (assigned_other ws (λ x. back) base (k ∙ e)))
    ]

-- ---- words at devices and answers ----

pub left_behind : (left : List Answer) (a : ℕ) (xs : List ℕ) (y : ℕ) → left_from left a (xs ++ y ∷ []) ≡ left_at (left_from left a xs) (behind xs a)
left_behind left a [] y = refl
left_behind left a (x ∷ xs) y = left_behind (left_at left a) (next_word a) xs y

devices_last : (a : ℕ) (xs : List ℕ) (y : ℕ) → device_words a (xs ++ y ∷ []) ≡ device_words a xs + (if is_device (behind xs a) then 1 else 0)
devices_last a [] y = elim (cases_Bool (is_device a)) [ inl e ↦ rw e refl | inr e ↦ rw e refl ]
devices_last a (x ∷ xs) y = elim (cases_Bool (is_device a)) [
  | inl e ↦ rw e (omega (arith, devices_last (next_word a) xs y))
  | inr e ↦ rw e (devices_last (next_word a) xs y)
]

left_length : (left : List Answer) (a : ℕ) (xs : List ℕ) → device_words a xs ≤ length left → length (left_from left a xs) + device_words a xs ≡ length left
left_length left a [] h = omega arith
left_length left a (x ∷ xs) h =
    elim (is_device a) as (λ b. (if b then suc (device_words (next_word a) xs) else device_words (next_word a) xs) ≤ length left
    → length (left_from (if b then drop 1 left else left) (next_word a) xs) + (if b then suc (device_words (next_word a) xs) else device_words (next_word a) xs) ≡ length left) [
      | true ↦ λ k. omega (arith, left_length (drop 1 left) (next_word a) xs (omega (arith, length-drop 1 left)), length-drop 1 left)
      | false ↦ λ k. left_length left (next_word a) xs k
    ] h

-- where there are answers for all words, there are for all but the last, and then for the last
pub enough_before : (n a : ℕ) (xs : List ℕ) (y : ℕ) → device_words a (xs ++ y ∷ []) ≤ n → device_words a xs ≤ n
enough_before n a xs y h = omega (arith, devices_last a xs y)

pub enough_last : (left : List Answer) (a : ℕ) (xs : List ℕ) (y : ℕ) → device_words a (xs ++ y ∷ []) ≤ length left → is_device (behind xs a) ≡ true → 0 < length (left_from left a xs)
enough_last left a xs y h d =
    let e : device_words a (xs ++ y ∷ []) ≡ device_words a xs + 1 = rw d at (devices_last a xs y) in
    let l : length (left_from left a xs) + device_words a xs ≡ length left = left_length left a xs (enough_before (length left) a xs y h) in
    omega (arith, e, l)
