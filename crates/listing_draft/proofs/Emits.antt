-- The lines of a draft, line by line.
use Rattle.std.proofs.Common.{◌≡◌, ◌∙◌, ℕ, ◌+◌, ◌≤◌, Bool, true, false, List, [], ◌∷◌, ◌++◌, length, drop, Option, sym, ap, arith, append_assoc, if◌then◌else◌}
use Rattle.std.proofs.lemmas.List.{length-append, drop-drop}
use Rattle.thumb_model.specs.Listing.{Name, ListingLine, places_in, places_of}
use Rattle.thumb_model.specs.Replaced.{is_op}
use Rattle.kept_places.specs.Marks.{is_gone}
use Rattle.listing_draft.specs.Drafted.{aim_at, line_now, now_of}
use Rattle.listing_draft.proofs.Ranks.{aim_drop, gone_drop}
use Rattle.thumb_model.proofs.Cuts.{op_takes as one_place}

-- an instruction's line is emitted
pub emitted_op : (gone : List Bool) (aims : List (Option Name)) (n k m : ℕ) (l : ListingLine) (ls out new all : List ListingLine) → is_op l.statement ≡ true → k ≡ length (places_in l.statement) → m ≡ n + k → out ++ now_of (drop n gone) (drop n aims) (l ∷ ls) ≡ all
    → new ≡ out ++ line_now (is_gone gone n) (aim_at aims n) l → new ++ now_of (drop m gone) (drop m aims) ls ≡ all
emitted_op gone aims n k m l ls out new all op e f h p =
    let one = one_place l.statement op in
    let g : is_gone (drop n gone) 0 ≡ is_gone gone n = gone_drop n gone 0 n (omega arith) in
    let a : aim_at (drop n aims) 0 ≡ aim_at aims n = aim_drop n aims 0 n (omega arith) in
    let x : drop 1 (drop n gone) ≡ drop m gone = drop-drop 1 n gone ∙ ap (λ j. drop j gone) (let z : n + 1 ≡ m = omega arith in z) in
    let y : drop 1 (drop n aims) ≡ drop m aims = drop-drop 1 n aims ∙ ap (λ j. drop j aims) (let z : n + 1 ≡ m = omega arith in z) in
    let whole : now_of (drop n gone) (drop n aims) (l ∷ ls) ≡ line_now (is_gone gone n) (aim_at aims n) l ++ now_of (drop m gone) (drop m aims) ls =
    ap (λ b. if b then line_now (is_gone (drop n gone) 0) (aim_at (drop n aims) 0) l ++ now_of (drop 1 (drop n gone)) (drop 1 (drop n aims)) ls else l ∷ now_of (drop (length (places_in l.statement)) (drop n gone)) (drop (length (places_in l.statement)) (drop n aims)) ls) op
    ∙ ap (λ b. line_now b (aim_at (drop n aims) 0) l ++ now_of (drop 1 (drop n gone)) (drop 1 (drop n aims)) ls) g
    ∙ ap (λ b. line_now (is_gone gone n) b l ++ now_of (drop 1 (drop n gone)) (drop 1 (drop n aims)) ls) a
    ∙ ap (λ b. line_now (is_gone gone n) (aim_at aims n) l ++ now_of b (drop 1 (drop n aims)) ls) x
    ∙ ap (λ b. line_now (is_gone gone n) (aim_at aims n) l ++ now_of (drop m gone) b ls) y in
    ap (λ xs. xs ++ now_of (drop m gone) (drop m aims) ls) p
    ∙ append_assoc out (line_now (is_gone gone n) (aim_at aims n) l) (now_of (drop m gone) (drop m aims) ls)
    ∙ ap (λ xs. out ++ xs) (sym whole)
    ∙ h

-- another line is emitted as it is
pub emitted_other : (gone : List Bool) (aims : List (Option Name)) (n k m : ℕ) (l : ListingLine) (ls out new all : List ListingLine) → is_op l.statement ≡ false → k ≡ length (places_in l.statement) → m ≡ n + k → out ++ now_of (drop n gone) (drop n aims) (l ∷ ls) ≡ all
    → new ≡ out ++ l ∷ [] → new ++ now_of (drop m gone) (drop m aims) ls ≡ all
emitted_other gone aims n k m l ls out new all op e f h p =
    let x : drop (length (places_in l.statement)) (drop n gone) ≡ drop m gone = drop-drop (length (places_in l.statement)) n gone ∙ ap (λ j. drop j gone) (let z : n + length (places_in l.statement) ≡ m = omega arith in z) in
    let y : drop (length (places_in l.statement)) (drop n aims) ≡ drop m aims = drop-drop (length (places_in l.statement)) n aims ∙ ap (λ j. drop j aims) (let z : n + length (places_in l.statement) ≡ m = omega arith in z) in
    let whole : now_of (drop n gone) (drop n aims) (l ∷ ls) ≡ l ∷ now_of (drop m gone) (drop m aims) ls =
    ap (λ b. if b then line_now (is_gone (drop n gone) 0) (aim_at (drop n aims) 0) l ++ now_of (drop 1 (drop n gone)) (drop 1 (drop n aims)) ls else l ∷ now_of (drop (length (places_in l.statement)) (drop n gone)) (drop (length (places_in l.statement)) (drop n aims)) ls) op
    ∙ ap (λ b. l ∷ now_of b (drop (length (places_in l.statement)) (drop n aims)) ls) x
    ∙ ap (λ b. l ∷ now_of (drop m gone) b ls) y in
    ap (λ xs. xs ++ now_of (drop m gone) (drop m aims) ls) p
    ∙ append_assoc out (l ∷ []) (now_of (drop m gone) (drop m aims) ls)
    ∙ ap (λ xs. out ++ xs) (sym whole)
    ∙ h

-- how many places are left
pub places_pass : (n k m : ℕ) (l : ListingLine) (ls : List ListingLine) (count : ℕ) → n + length (places_of (l ∷ ls)) ≡ count → k ≡ length (places_in l.statement) → m ≡ n + k → m + length (places_of ls) ≡ count
places_pass n k m l ls count h e f = let a = length-append (places_in l.statement) (places_of ls) in omega arith

pub place_within : (n : ℕ) (l : ListingLine) (ls : List ListingLine) (count : ℕ) → n + length (places_of (l ∷ ls)) ≡ count → is_op l.statement ≡ true → n + 1 ≤ count
place_within n l ls count h e = let a = length-append (places_in l.statement) (places_of ls) in let o = one_place l.statement e in omega arith

pub places_within : (n : ℕ) (l : ListingLine) (ls : List ListingLine) (count : ℕ) → n + length (places_of (l ∷ ls)) ≡ count → n + length (places_in l.statement) ≤ count
places_within n l ls count h = let a = length-append (places_in l.statement) (places_of ls) in omega arith
