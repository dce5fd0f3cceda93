-- The labels of a draft's lines: each stands before the place whose number is the rank of the place that it stood before.
use Rattle.std.proofs.Common.{◌≡◌, ◌∙◌, ℕ, suc, ◌+◌, Bool, true, false, List, [], ◌∷◌, ◌++◌, length, drop, map, Option, Some, None, refl, sym, ap, arith, if◌then◌else◌}
use Rattle.std.specs.Prelude.{option_map}
use Rattle.std.specs.Str.{bytes_eq}
use Rattle.thumb_instr.specs.declared.instr.Instr.{Instr}
use Rattle.thumb_model.specs.Listing.{Name, Mention, Statement, Nothing, Instruction, Words, Aligns, Sets, ListingLine, Op, Label, places_in, places_of, labels_at, labels_from}
use Rattle.thumb_model.specs.Steps.{label_place}
use Rattle.thumb_model.specs.Replaced.{is_op, labels_kept}
use Rattle.kept_places.specs.Marks.{is_gone, rank}
use Rattle.kept_places.proofs.Ranks.{rank_zero}
use Rattle.listing_parser.specs.Parsing.{line_mentioning}
use Rattle.listing_parser.specs.Targets.{aimed_line}
use Rattle.listing_draft.specs.Drafted.{aim_at, line_now, now_of}
use Rattle.listing_draft.proofs.Ranks.{OpsGone, ops_behind, others_kept, rank_behind_gone, rank_behind_kept, rank_drop}

-- a label at another place
abbrev pub put_by : (ℕ → ℕ) → Label → Label
put_by f l = record { name = l.name; place = f l.place }

map_both : (f : Label → Label) (xs ys : List Label) → map f (xs ++ ys) ≡ map f xs ++ map f ys
map_both f [] ys = refl
map_both f (x ∷ xs) ys = ap (λ l. f x ∷ l) (map_both f xs ys)

put_at : (f : ℕ → ℕ) (p r : ℕ) (ns : List Name) → f p ≡ r → labels_at r ns ≡ map (put_by f) (labels_at p ns)
put_at f p r [] e = refl
put_at f p r (n ∷ ns) e = ap (λ k. (let x : Label = record { name = n; place = k } in x) ∷ labels_at r ns) (sym e) ∙ ap (λ l. put_by f (record { name = n; place = p }) ∷ l) (put_at f p r ns e)

-- ---- the labels of an instruction's line ----

kept_labels : (r : ℕ) (l : ListingLine) (ns : List Name) (rest : List ListingLine) → labels_from r (labels_kept l ns ++ rest) ≡ labels_at r ns ++ labels_from r rest
kept_labels r l [] rest = refl
kept_labels r l (n ∷ ns) rest = ap (λ k. labels_at r (n ∷ ns) ++ labels_from k rest) (let e : r + 0 ≡ r = omega arith in e)

branch_labels : (r : ℕ) (label : Name) (l : ListingLine) (ns : List Name) (i : Instr) (m : Option Mention) (rest : List ListingLine) → l.statement ≡ Instruction i m
    → labels_from r ((labels_kept l ns ++ (aimed_line line_mentioning label l ∷ [])) ++ rest) ≡ labels_at r ns ++ labels_from (r + 1) rest
branch_labels r label l [] i m rest e = rw e refl
branch_labels r label l (n ∷ ns) i m rest e = rw e (ap (λ k. labels_at r (n ∷ ns) ++ labels_from (k + 1) rest) (let e : r + 0 ≡ r = omega arith in e))

op_labels : (r : ℕ) (a : Option Name) (l : ListingLine) (i : Instr) (m : Option Mention) (rest : List ListingLine) → l.statement ≡ Instruction i m → labels_from r (line_now false a l ++ rest) ≡ labels_at r l.names ++ labels_from (r + 1) rest
op_labels r None l i m rest e = rw e refl
op_labels r (Some label) l i m rest e = branch_labels r label l l.names i m rest e

-- ---- all labels ----

abbrev LabelsRec : List ListingLine → Type 0
LabelsRec ls = (gone : List Bool) (aims : List (Option Name)) (f : ℕ → ℕ) (p r : ℕ) → ((k : ℕ) → f (p + k) ≡ r + rank gone k) → OpsGone gone (places_of ls) → labels_from r (now_of gone aims ls) ≡ map (put_by f) (labels_from p ls)

here : (f : ℕ → ℕ) (p r : ℕ) (gone : List Bool) → ((k : ℕ) → f (p + k) ≡ r + rank gone k) → f p ≡ r
here f p r gone h =
    let a : f p ≡ f (p + 0) = ap f (omega arith) in
    let b = h 0 in
    let c = rank_zero gone in
    omega arith

-- behind a line
joined : (f : ℕ → ℕ) (p r q : ℕ) (ns : List Name) (xs : List Label) (ls : List ListingLine) → f p ≡ r → xs ≡ map (put_by f) (labels_from q ls) → labels_at r ns ++ xs ≡ map (put_by f) (labels_at p ns ++ labels_from q ls)
joined f p r q ns xs ls e h =
    ap (λ (l : List Label). l ++ xs) (put_at f p r ns e)
    ∙ ap (λ (l : List Label). map (put_by f) (labels_at p ns) ++ l) h
    ∙ sym (map_both (put_by f) (labels_at p ns) (labels_from q ls))

op_put : (l : ListingLine) (i : Instr) (m : Option Mention) (ls : List ListingLine) → l.statement ≡ Instruction i m → LabelsRec ls → (gone : List Bool) (aims : List (Option Name)) (f : ℕ → ℕ) (p r : ℕ) (g : Bool) → is_gone gone 0 ≡ g
    → ((k : ℕ) → f (p + k) ≡ r + rank gone k) → OpsGone gone (Op i m ∷ places_of ls)
    → labels_from r (line_now g (aim_at aims 0) l ++ now_of (drop 1 gone) (drop 1 aims) ls) ≡ map (put_by f) (labels_at p l.names ++ labels_from (p + 1) ls)
op_put l i m ls e rec gone aims f p r true g h o =
    kept_labels r l l.names (now_of (drop 1 gone) (drop 1 aims) ls)
    ∙ joined f p r (p + 1) l.names _ ls (here f p r gone h)
    (rec (drop 1 gone) (drop 1 aims) f (p + 1) r (λ k.
    let a : f (p + 1 + k) ≡ f (p + suc k) = ap f (omega arith) in
    let b = h (suc k) in
    let c = rank_behind_gone gone k g in
    omega arith)
    (ops_behind (Op i m ∷ []) (places_of ls) gone o))
op_put l i m ls e rec gone aims f p r false g h o =
    op_labels r (aim_at aims 0) l i m (now_of (drop 1 gone) (drop 1 aims) ls) e
    ∙ joined f p r (p + 1) l.names _ ls (here f p r gone h)
    (rec (drop 1 gone) (drop 1 aims) f (p + 1) (r + 1) (λ k.
    let a : f (p + 1 + k) ≡ f (p + suc k) = ap f (omega arith) in
    let b = h (suc k) in
    let c = rank_behind_kept gone k g in
    omega arith)
    (ops_behind (Op i m ∷ []) (places_of ls) gone o))

other_put : (l : ListingLine) (s : Statement) (ls : List ListingLine) → is_op s ≡ false → LabelsRec ls → (gone : List Bool) (aims : List (Option Name)) (f : ℕ → ℕ) (p r : ℕ)
    → ((k : ℕ) → f (p + k) ≡ r + rank gone k) → OpsGone gone (places_in s ++ places_of ls)
    → labels_at r l.names ++ labels_from (r + length (places_in s)) (now_of (drop (length (places_in s)) gone) (drop (length (places_in s)) aims) ls) ≡ map (put_by f) (labels_at p l.names ++ labels_from (p + length (places_in s)) ls)
other_put l s ls e rec gone aims f p r h o =
    let n : ℕ = length (places_in s) in
    joined f p r (p + n) l.names _ ls (here f p r gone h)
    (rec (drop n gone) (drop n aims) f (p + n) (r + n) (λ k.
    let a : f (p + n + k) ≡ f (p + (n + k)) = ap f (omega arith) in
    let b = h (n + k) in
    let c = rank_drop n gone k (n + k) refl (others_kept s (places_of ls) gone e o) in
    omega arith)
    (ops_behind (places_in s) (places_of ls) gone o))

line_put : (l : ListingLine) (s : Statement) (ls : List ListingLine) → l.statement ≡ s → LabelsRec ls → (gone : List Bool) (aims : List (Option Name)) (f : ℕ → ℕ) (p r : ℕ) → ((k : ℕ) → f (p + k) ≡ r + rank gone k) → OpsGone gone (places_in s ++ places_of ls)
    → labels_from r (if is_op s then line_now (is_gone gone 0) (aim_at aims 0) l ++ now_of (drop 1 gone) (drop 1 aims) ls else l ∷ now_of (drop (length (places_in s)) gone) (drop (length (places_in s)) aims) ls)
    ≡ map (put_by f) (labels_at p l.names ++ labels_from (p + length (places_in s)) ls)
line_put l (Instruction i m) ls e rec gone aims f p r h o = op_put l i m ls e rec gone aims f p r (is_gone gone 0) refl h o
line_put l Nothing ls e rec gone aims f p r h o = rw e (other_put l Nothing ls refl rec gone aims f p r h o)
line_put l (Words vs) ls e rec gone aims f p r h o = rw e (other_put l (Words vs) ls refl rec gone aims f p r h o)
line_put l (Aligns size most) ls e rec gone aims f p r h o = rw e (other_put l (Aligns size most) ls refl rec gone aims f p r h o)
line_put l (Sets name address) ls e rec gone aims f p r h o = rw e (other_put l (Sets name address) ls refl rec gone aims f p r h o)

pub labels_put : (ls : List ListingLine) → LabelsRec ls
labels_put [] gone aims f p r h o = refl
labels_put (l ∷ ls) gone aims f p r h o = line_put l l.statement ls refl (labels_put ls) gone aims f p r h o

pub labels_ranked : (ls : List ListingLine) (gone : List Bool) (aims : List (Option Name)) → OpsGone gone (places_of ls) → labels_from 0 (now_of gone aims ls) ≡ map (put_by (rank gone)) (labels_from 0 ls)
labels_ranked ls gone aims o = labels_put ls gone aims (rank gone) 0 0 (λ k. let a : rank gone (0 + k) ≡ rank gone k = ap (rank gone) (let e : 0 + k ≡ k = omega arith in e) in omega arith) o

-- ---- where a name leads ----

pub place_put : (f : ℕ → ℕ) (name : Name) (ls : List Label) → label_place name (map (put_by f) ls) ≡ option_map f (label_place name ls)
place_put f name [] = refl
place_put f name (l ∷ ls) = elim (bytes_eq name l.name) as (λ b. (if b then Some (f l.place) else label_place name (map (put_by f) ls)) ≡ option_map f (if b then Some l.place else label_place name ls)) [
  | true ↦ refl
  | false ↦ place_put f name ls
]

pub place_ranked : (ls : List ListingLine) (gone : List Bool) (aims : List (Option Name)) (name : Name) → OpsGone gone (places_of ls) → label_place name (labels_from 0 (now_of gone aims ls)) ≡ option_map (rank gone) (label_place name (labels_from 0 ls))
place_ranked ls gone aims name o = ap (label_place name) (labels_ranked ls gone aims o) ∙ place_put (rank gone) name (labels_from 0 ls)
