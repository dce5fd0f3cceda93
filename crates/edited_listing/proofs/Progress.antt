-- Lines that are gone through where they stand.
use Rattle.std.proofs.Common.{◌≡◌, ◌∙◌, ℕ, ◌+◌, ◌-◌, ◌<◌, ◌≤◌, List, [], ◌∷◌, ◌++◌, length, map, take, drop, sym, ap, arith, append_assoc}
use Rattle.std.specs.Prelude.{slice_index_or, slice_set}
use Rattle.std.specs.List.{swap}
use Rattle.std.proofs.lemmas.List.{append-nil, drop-drop, drop-map, drop-set-lt, drop_at, drop_more, length-append, length-drop, length-map, length-take-le, map-append, take-map, take-set-le, take-take, take_at, take_more, take_more_set}
use Rattle.std.proofs.lemmas.List.Edits.{swap_is}
use Rattle.thumb_model.specs.Listing.{ListingLine}
use Rattle.listing_parser.specs.Views.{line_view}
use Rattle.listing_parser.specs.declared.line.ListingLine.{ListingLine as Lines}
use Rattle.edited_listing.specs.Progress.{Progress}

same_progress : (a b c d : List ListingLine) → a ≡ b → c ≡ d → (let x : Progress = record { emitted = a; left = c } in x) ≡ record { emitted = b; left = d }
same_progress a b c d e f = ap (λ (x : List ListingLine). let z : Progress = record { emitted = x; left = c } in z) e ∙ ap (λ (x : List ListingLine). let z : Progress = record { emitted = b; left = x } in z) f

-- ---- a line ----

next_line : (ys : List Lines) (n : ℕ) (x : Lines) → n < length ys → x ≡ slice_index_or ys n x → drop n (map line_view ys) ≡ line_view x ∷ drop (n + 1) (map line_view ys)
next_line ys n x h e =
    drop-map line_view n ys ∙ ap (map line_view) (drop_more ys n x h ∙ ap (λ (z : Lines). z ∷ drop (n + 1) ys) (sym e)) ∙ ap (λ (t : List ListingLine). line_view x ∷ t) (sym (drop-map line_view (n + 1) ys))

pub some_left : (ys : List Lines) (n : ℕ) (left : List ListingLine) → drop n (map line_view ys) ≡ left → 0 < length left → n < length ys
some_left ys n left v h = omega (arith, ap (λ (l : List ListingLine). length l) v, length-drop n (map line_view ys), length-map ys line_view)

pub next_is : (ys : List Lines) (n : ℕ) (x : Lines) (left : List ListingLine) → drop n (map line_view ys) ≡ left → 0 < length left → x ≡ slice_index_or ys n x → left ≡ line_view x ∷ drop 1 left
next_is ys n x left v h e = sym v ∙ next_line ys n x (some_left ys n left v h) e ∙ ap (λ (t : List ListingLine). line_view x ∷ t) (sym (drop-drop 1 n (map line_view ys)) ∙ ap (drop 1) v)

pub taken : (ys : List Lines) (n : ℕ) (x : Lines) → n < length ys → x ≡ slice_index_or ys n x → take 1 (drop n (map line_view ys)) ≡ line_view x ∷ []
taken ys n x h e = ap (take 1) (next_line ys n x h e)

-- ---- a line that stays ----

swapped_by : (xs : List Lines) (to from : ℕ) → to < from → from < length xs → (d : Lines) →
    (take (to + 1) (map line_view (swap xs to from)) ≡ take to (map line_view xs) ++ take 1 (drop from (map line_view xs))) × (drop (from + 1) (map line_view (swap xs to from)) ≡ drop (from + 1) (map line_view xs))
swapped_by xs to from l h d =
    let x : Lines = slice_index_or xs from d in
    let y : Lines = slice_index_or xs to d in
    let is : swap xs to from ≡ slice_set (slice_set xs to x) from y = sym (swap_is xs to from d (omega arith) h) in
    let front : take (to + 1) (swap xs to from) ≡ take to xs ++ x ∷ [] = ap (take (to + 1)) is ∙ take-set-le (to + 1) (slice_set xs to x) from y (omega arith) ∙ take_more_set xs to x (omega arith) in
    let back : drop (from + 1) (swap xs to from) ≡ drop (from + 1) xs = ap (drop (from + 1)) is ∙ drop-set-lt (from + 1) (slice_set xs to x) from y (omega arith) ∙ drop-set-lt (from + 1) xs to x (omega arith) in
    let one : take 1 (drop from (map line_view xs)) ≡ line_view x ∷ [] = ap (take 1) (drop-map line_view from xs ∙ ap (map line_view) (drop_more xs from d h)) in (
      take-map line_view (to + 1) (swap xs to from) ∙ ap (map line_view) front ∙ map-append line_view (take to xs) (x ∷ []) ∙ ap (λ (t : List ListingLine). t ++ line_view x ∷ []) (sym (take-map line_view to xs))
          ∙ ap (λ (t : List ListingLine). take to (map line_view xs) ++ t) (sym one),
      drop-map line_view (from + 1) (swap xs to from) ∙ ap (map line_view) back ∙ sym (drop-map line_view (from + 1) xs),
    )

pub swapped : (xs : List Lines) (to from : ℕ) → to < from → from < length xs →
    (take (to + 1) (map line_view (swap xs to from)) ≡ take to (map line_view xs) ++ take 1 (drop from (map line_view xs))) × (drop (from + 1) (map line_view (swap xs to from)) ≡ drop (from + 1) (map line_view xs))
swapped [] to from l h = absurd (omega arith)
swapped (x ∷ xs) to from l h = swapped_by (x ∷ xs) to from l h x

pub in_its_place : (xs : List ListingLine) (n : ℕ) → n < length xs → take (n + 1) xs ≡ take n xs ++ take 1 (drop n xs)
in_its_place [] n h = absurd (omega arith)
in_its_place (x ∷ xs) n h = take_more (x ∷ xs) n x h ∙ ap (λ (t : List ListingLine). take n (x ∷ xs) ++ t) (sym (ap (take 1) (drop_more (x ∷ xs) n x h)))

-- what is emitted and left behind a line that stays, where none waits
pub stays_here : (xs new : List ListingLine) (ws : List Lines) (done next : ℕ) (p : Progress) → (let x : Progress = record { emitted = take done xs ++ map line_view ws; left = drop next xs } in x) ≡ p → ws ≡ [] →
    take (done + 1) new ≡ take done xs ++ take 1 (drop next xs) → drop (next + 1) new ≡ drop (next + 1) xs →
    (let x : Progress = record { emitted = take (done + 1) new ++ map line_view ws; left = drop (next + 1) new } in x) ≡ record { emitted = p.emitted ++ take 1 p.left; left = drop 1 p.left }
stays_here xs new ws done next p v none e f =
    same_progress (take (done + 1) new ++ map line_view ws) (p.emitted ++ take 1 p.left) (drop (next + 1) new) (drop 1 p.left)
    (ap (λ (l : List Lines). take (done + 1) new ++ map line_view l) none ∙ append-nil (take (done + 1) new) ∙ e
    ∙ ap (λ (l : List ListingLine). l ++ take 1 (drop next xs)) (sym (append-nil (take done xs)) ∙ ap (λ (l : List Lines). take done xs ++ map line_view l) (sym none))
    ∙ ap (λ (q : Progress). q.emitted ++ take 1 q.left) v)
    (f ∙ sym (drop-drop 1 next xs) ∙ ap (λ (q : Progress). drop 1 q.left) v)

-- and where some wait, or behind one that gives way
pub waits : (xs new : List Lines) (ws more all : List Lines) (one : List ListingLine) (done next : ℕ) (p : Progress) → (let x : Progress = record { emitted = take done (map line_view xs) ++ map line_view ws; left = drop next (map line_view xs) } in x) ≡ p →
    done ≤ next → take next new ≡ take next xs → drop (next + 1) new ≡ drop (next + 1) xs → all ≡ ws ++ more → map line_view more ≡ one →
    (let x : Progress = record { emitted = take done (map line_view new) ++ map line_view all; left = drop (next + 1) (map line_view new) } in x) ≡ record { emitted = p.emitted ++ one; left = drop 1 p.left }
waits xs new ws more all one done next p v h e f a o =
    same_progress (take done (map line_view new) ++ map line_view all) (p.emitted ++ one) (drop (next + 1) (map line_view new)) (drop 1 p.left)
    (ap (λ (l : List ListingLine). l ++ map line_view all) (take-map line_view done new ∙ ap (map line_view) (sym (take-take done next new h) ∙ ap (take done) e ∙ take-take done next xs h) ∙ sym (take-map line_view done xs))
    ∙ ap (λ (l : List ListingLine). take done (map line_view xs) ++ l) (ap (map line_view) a ∙ map-append line_view ws more)
    ∙ sym (append_assoc (take done (map line_view xs)) (map line_view ws) (map line_view more))
    ∙ ap (λ (l : List ListingLine). (take done (map line_view xs) ++ map line_view ws) ++ l) o
    ∙ ap (λ (q : Progress). q.emitted ++ one) v)
    (drop-map line_view (next + 1) new ∙ ap (map line_view) f ∙ sym (drop-map line_view (next + 1) xs) ∙ sym (drop-drop 1 next (map line_view xs)) ∙ ap (λ (q : Progress). drop 1 q.left) v)

-- ---- lines that waited ----

-- they fit between those that are done and those that are left
module _ (xs ws new none : List Lines) (done next count : ℕ) (many : count ≡ length ws) (before : done + length ws ≤ next) (within : next ≤ length xs) (is : new ≡ take done xs ++ (ws ++ drop (done + length ws) xs)) (empty : none ≡ []) where
  abbrev front : List ListingLine
  front = take done (map line_view xs) ++ map line_view ws

  long : length (take done (map line_view xs) ++ map line_view ws) ≡ done + length ws
  long =
      let few : done ≤ length (map line_view xs) = omega (arith, length-map xs line_view) in
      omega (arith, length-append (take done (map line_view xs)) (map line_view ws), length-take-le done (map line_view xs) few, length-map ws line_view)

  whole : map line_view new ≡ (take done (map line_view xs) ++ map line_view ws) ++ drop (done + length ws) (map line_view xs)
  whole =
      ap (map line_view) is
      ∙ map-append line_view (take done xs) (ws ++ drop (done + length ws) xs)
      ∙ ap (λ (l : List ListingLine). l ++ map line_view (ws ++ drop (done + length ws) xs)) (sym (take-map line_view done xs))
      ∙ ap (λ (l : List ListingLine). take done (map line_view xs) ++ l) (map-append line_view ws (drop (done + length ws) xs) ∙ ap (λ (l : List ListingLine). map line_view ws ++ l) (sym (drop-map line_view (done + length ws) xs)))
      ∙ sym (append_assoc (take done (map line_view xs)) (map line_view ws) (drop (done + length ws) (map line_view xs)))

  still_left : drop next (map line_view new) ≡ drop next (map line_view xs)
  still_left =
      let rest : ℕ = next - (done + length ws) in
      let split : next ≡ done + length ws + rest = omega arith in
      ap (λ n. drop n (map line_view new)) split
      ∙ sym (drop-drop rest (done + length ws) (map line_view new))
      ∙ ap (drop rest) (ap (drop (done + length ws)) whole ∙ drop_at front (drop (done + length ws) (map line_view xs)) (done + length ws) long)
      ∙ drop-drop rest (done + length ws) (map line_view xs)
      ∙ ap (λ n. drop n (map line_view xs)) (sym split)

  pub settled : (let x : Progress = record { emitted = take (done + count) (map line_view new) ++ map line_view none; left = drop next (map line_view new) } in x) ≡ record { emitted = take done (map line_view xs) ++ map line_view ws; left = drop next (map line_view xs) }
  settled = same_progress (take (done + count) (map line_view new) ++ map line_view none) (take done (map line_view xs) ++ map line_view ws) (drop next (map line_view new)) (drop next (map line_view xs))
      (ap (λ (l : List Lines). take (done + count) (map line_view new) ++ map line_view l) empty ∙ append-nil (take (done + count) (map line_view new))
      ∙ ap (λ n. take (done + n) (map line_view new)) many ∙ ap (take (done + length ws)) whole ∙ take_at front (drop (done + length ws) (map line_view xs)) (done + length ws) long)
      still_left
