-- The invariant of a draft holds at first, and is preserved when an instruction is removed or a branch redirected.
use Rattle.std.proofs.Common.{◌≡◌, ◌∙◌, ◌⊎◌, inl, inr, ℕ, zero, suc, ◌+◌, ◌-◌, ◌<◌, ◌≤◌, ◌^◌, Bool, true, false, List, [], ◌∷◌, ◌++◌, length, drop, replicate, Option, Some, None, refl, sym, ap, subst, arith, if◌then◌else◌}
use Rattle.std.specs.Prelude.{option_and_then, option_map, slice_get, slice_set}
use Rattle.std.proofs.lemmas.Bool.{cases_eq, cases_lt}
use Rattle.std.proofs.lemmas.List.{length-append, length-replicate}
use Rattle.std.proofs.lemmas.Option.{same_Some}
use Rattle.thumb_model.specs.Layout.{is_among}
use Rattle.std.specs.declared.vec.Vec.{Vec}
use Rattle.std.specs.declared.alloc.Global.{Global}
use Rattle.thumb_model.specs.Listing.{Name, ListingLine, Place, Op, Word, code_of, is_op_place, labels_from, place_of, places_in, places_of}
use Rattle.thumb_model.specs.Steps.{label_place}
use Rattle.thumb_model.specs.Replaced.{is_op, replaced_lines}
use Rattle.kept_places.specs.Marks.{is_gone, rank, IsNode}
use Rattle.kept_places.proofs.Ranks.{marked_other, rank_between, unmarked}
use Rattle.listing_parser.specs.Parsing.{line_mentioning, own_line}
use Rattle.listing_parser.specs.Targets.{aimed_lines, DefineOnce}
use Rattle.listing_parser.proofs.LabelLemmas.{code_place, label_at, one_label}
use Rattle.listing_parser.proofs.ReplaceLemmas.{aimed_as_many, aimed_once, still_few, still_once}
use Rattle.listing_parser.proofs.TwiceLemmas.{once_none}
use Rattle.listing_draft.specs.Drafted.{aim_at, instr_in, line_now, lines_now, name_in, now_of, stands, unchanged, Drafted}
use Rattle.listing_draft.specs.Invariant.{names_of, IsDraft}
use Rattle.listing_draft.proofs.Stands.{aimed_to, same_op, stands_at}
use Rattle.listing_draft.proofs.Labels.{place_ranked}
use Rattle.listing_draft.proofs.Removed.{lines_left}
use Rattle.listing_draft.proofs.Aimed.{lines_turned}

-- ---- lists ----

pub set_length : {A : Type 0} (xs : List A) (p : ℕ) (x : A) → length (slice_set xs p x) ≡ length xs
set_length [] p x = refl
set_length (y ∷ xs) zero x = refl
set_length (y ∷ xs) (suc p) x = ap suc (set_length xs p x)

pub none_more : (n : ℕ) (os : List (Option (Vec ℕ Global))) → names_of os ≡ replicate n None → names_of (os ++ None ∷ []) ≡ replicate (n + 1) None
none_more n os e = names_more os ∙ ap (λ (xs : List (Option Name)). xs ++ None ∷ []) e ∙ one_more n ∙ ap (λ k. replicate k None) (let z : suc n ≡ n + 1 = omega arith in z)
  where
    names_more : (os : List (Option (Vec ℕ Global))) → names_of (os ++ None ∷ []) ≡ names_of os ++ None ∷ []
    names_more [] = refl
    names_more (a ∷ os) = ap (λ (xs : List (Option Name)). option_map (λ name. name.items) a ∷ xs) (names_more os)

    one_more : (n : ℕ) → (let xs : List (Option Name) = replicate n None ++ None ∷ [] in xs) ≡ replicate (suc n) None
    one_more zero = refl
    one_more (suc n) = ap (λ (xs : List (Option Name)). None ∷ xs) (one_more n)

pub names_length : (os : List (Option (Vec ℕ Global))) → length (names_of os) ≡ length os
names_length [] = refl
names_length (a ∷ os) = ap suc (names_length os)

pub names_set : (os : List (Option (Vec ℕ Global))) (p : ℕ) (name : Vec ℕ Global) → names_of (slice_set os p (Some name)) ≡ slice_set (names_of os) p (Some name.items)
names_set [] p name = refl
names_set (a ∷ os) zero name = refl
names_set (a ∷ os) (suc p) name = ap (λ (xs : List (Option Name)). option_map (λ n. n.items) a ∷ xs) (names_set os p name)

-- ---- a listing of which nothing is changed ----

pub drop_marks : (n m : ℕ) → (let xs : List Bool = drop n (replicate m false) in xs) ≡ replicate (m - n) false
drop_marks zero m = ap (λ k. replicate k false) (let z : m ≡ m - 0 = omega arith in z)
drop_marks (suc n) zero = ap (λ k. replicate k false) (let z : 0 ≡ 0 - suc n = omega arith in z)
drop_marks (suc n) (suc m) = drop_marks n m ∙ ap (λ k. replicate k false) (let z : m - n ≡ suc m - suc n = omega arith in z)

drop_none : (n m : ℕ) → (let xs : List (Option Name) = drop n (replicate m None) in xs) ≡ replicate (m - n) None
drop_none zero m = ap (λ k. replicate k None) (let z : m ≡ m - 0 = omega arith in z)
drop_none (suc n) zero = ap (λ k. replicate k None) (let z : 0 ≡ 0 - suc n = omega arith in z)
drop_none (suc n) (suc m) = drop_none n m ∙ ap (λ k. replicate k None) (let z : m - n ≡ suc m - suc n = omega arith in z)

none_at : (m p : ℕ) → aim_at (replicate m None) p ≡ None
none_at zero p = refl
none_at (suc m) zero = refl
none_at (suc m) (suc p) = none_at m p

pub all_same : (m n : ℕ) (ls : List ListingLine) → now_of (replicate m false) (replicate n None) ls ≡ ls
all_same m n [] = refl
all_same m n (l ∷ ls) =
    let k : ℕ = length (places_in l.statement) in
    elim (is_op l.statement) as (λ b. (if b then line_now (is_gone (replicate m false) 0) (aim_at (replicate n None) 0) l ++ now_of (drop 1 (replicate m false)) (drop 1 (replicate n None)) ls else l ∷ now_of (drop k (replicate m false)) (drop k (replicate n None)) ls) ≡ l ∷ ls) [
      | true ↦
          ap (λ (g : Bool). line_now g (aim_at (replicate n None) 0) l ++ now_of (drop 1 (replicate m false)) (drop 1 (replicate n None)) ls) (unmarked m 0)
          ∙ ap (λ (a : Option Name). line_now false a l ++ now_of (drop 1 (replicate m false)) (drop 1 (replicate n None)) ls) (none_at n 0)
          ∙ ap (λ x. l ∷ now_of x (drop 1 (replicate n None)) ls) (drop_marks 1 m)
          ∙ ap (λ x. l ∷ now_of (replicate (m - 1) false) x ls) (drop_none 1 n)
          ∙ ap (λ (xs : List ListingLine). l ∷ xs) (all_same (m - 1) (n - 1) ls)
      | false ↦
          ap (λ x. l ∷ now_of x (drop k (replicate n None)) ls) (drop_marks k m)
          ∙ ap (λ x. l ∷ now_of (replicate (m - k) false) x ls) (drop_none k n)
          ∙ ap (λ (xs : List ListingLine). l ∷ xs) (all_same (m - k) (n - k) ls)
    ]

pub lines_unchanged : (ls : List ListingLine) → lines_now (unchanged ls) ≡ ls
lines_unchanged ls = all_same (length (places_of ls)) (length (places_of ls)) ls

pub first_draft : (ls : List ListingLine) → DefineOnce ls → length (places_of ls) < 2 ^ 32 → IsDraft (unchanged ls)
first_draft ls once few = record {
  marks = length-replicate (length (places_of ls)) false;
  labels = length-replicate (length (places_of ls)) None;
  ops = λ p e. let no : true ≡ false = sym e ∙ unmarked (length (places_of ls)) p in absurd (cc);
  once = subst DefineOnce (sym (lines_unchanged ls)) once;
  few = subst (λ (l : List ListingLine). length (places_of l) < 2 ^ 32) (sym (lines_unchanged ls)) few;
}

-- ---- what stands at a place ----

pub given_op : (d : Drafted) (p : ℕ) → IsDraft d → is_gone d.gone p ≡ false → is_op_place (stands d p) ≡ true → is_op_place (slice_get (places_of d.given) p) ≡ true
given_op d p h k e = sym (same_op (slice_get (places_of d.given) p) (aim_at d.aims p)) ∙ ap is_op_place (sym (stands_at d.given d.gone d.aims p h.ops k)) ∙ e

same_instr : (o : Option Place) (a : Option Name) → instr_in (aimed_to o a) ≡ instr_in o
same_instr None a = refl
same_instr (Some (Op i m)) None = refl
same_instr (Some (Op i m)) (Some label) = refl
same_instr (Some (Word v)) a = refl

pub instr_at : (d : Drafted) (p : ℕ) → IsDraft d → is_gone d.gone p ≡ false → instr_in (slice_get (places_of d.given) p) ≡ instr_in (stands d p)
instr_at d p h k = sym (same_instr (slice_get (places_of d.given) p) (aim_at d.aims p)) ∙ ap instr_in (sym (stands_at d.given d.gone d.aims p h.ops k))

pub name_at : (d : Drafted) (p : ℕ) → IsDraft d → is_gone d.gone p ≡ false → name_in (aimed_to (slice_get (places_of d.given) p) (aim_at d.aims p)) ≡ name_in (stands d p)
name_at d p h k = ap name_in (sym (stands_at d.given d.gone d.aims p h.ops k))

-- ---- where names lead ----

pub node_rank : (gone : List Bool) (p q : ℕ) → IsNode gone p q → rank gone q ≡ rank gone p
node_rank gone p q h =
    let from = h.from in
    let all : p + (q - p) ≡ q = omega arith in
    ap (rank gone) (sym all) ∙ rank_between gone (q - p) p (λ k a b. h.between k a (omega arith))

-- the code label of a name
pub name_leads : (d : Drafted) (name : Name) → IsDraft d → place_of (code_of (lines_now d)) name ≡ code_place (places_of (lines_now d)) (option_map (rank d.gone) (label_place name (labels_from 0 d.given)))
name_leads d name h =
    one_label name (places_of (lines_now d)) 1 0 [] (lines_now d) (once_none (lines_now d) h.once)
    ∙ ap (code_place (places_of (lines_now d))) (place_ranked d.given d.gone d.aims name h.ops)

-- is where the next kept place is, if an instruction stands there
pub leads_to : (d : Drafted) (p q : ℕ) → IsDraft d → IsNode d.gone p q → (b : Bool) → b ≡ is_op_place (slice_get (places_of d.given) q) → code_place (places_of (lines_now d)) (Some (rank d.gone p)) ≡ (if b then Some (rank d.gone q) else None)
unfolding code_place
leads_to d p q h n b e =
    let same : rank d.gone q ≡ rank d.gone p = node_rank d.gone p q n in
    let op : is_op_place (slice_get (places_of (lines_now d)) (rank d.gone p)) ≡ b =
    ap (λ r. is_op_place (slice_get (places_of (lines_now d)) r)) (sym same) ∙ ap is_op_place (stands_at d.given d.gone d.aims q h.ops n.kept) ∙ same_op (slice_get (places_of d.given) q) (aim_at d.aims q) ∙ sym e in
    ap (λ c. if c then Some (rank d.gone p) else None) op ∙ ap (λ r. if b then Some r else None) (sym same)

-- ---- changes ----

pub lines_removed : (d : Drafted) (p : ℕ) → IsDraft d → p < length d.gone → is_gone d.gone p ≡ false → is_op_place (stands d p) ≡ true
    → now_of (slice_set d.gone p true) d.aims d.given ≡ replaced_lines own_line (rank d.gone p) 1 [] (lines_now d)
lines_removed d p h l k e = lines_left own_line d.given d.gone d.aims p h.ops k l (given_op d p h k e)

pub still_draft : (d : Drafted) (p : ℕ) → IsDraft d → p < length d.gone → is_gone d.gone p ≡ false → is_op_place (stands d p) ≡ true → IsDraft (record { given = d.given; gone = slice_set d.gone p true; aims = d.aims })
still_draft d p h l k e =
    let lines = lines_removed d p h l k e in
    let here : ((j : ℕ) → j < 1 → is_op_place (slice_get (places_of (lines_now d)) (rank d.gone p + j)) ≡ true) = λ j s. ap (λ r. is_op_place (slice_get (places_of (lines_now d)) r)) (let z : rank d.gone p + j ≡ rank d.gone p = omega arith in z) ∙ e in
    record {
      marks = set_length d.gone p true ∙ h.marks;
      labels = h.labels;
      ops = λ q g. elim (cases_eq q p) [
        | inl same ↦ ap (λ r. is_op_place (slice_get (places_of d.given) r)) same ∙ given_op d p h k e
        | inr ne ↦ h.ops q (sym (marked_other d.gone p q true ne) ∙ g)
      ];
      once = subst DefineOnce (sym lines) (still_once own_line (rank d.gone p) 1 [] (lines_now d) h.once);
      few = subst (λ (x : List ListingLine). length (places_of x) < 2 ^ 32) (sym lines) (still_few own_line (rank d.gone p) 1 [] (lines_now d) (omega arith) (omega arith) here h.few);
    }

pub lines_aimed : (d : Drafted) (p : ℕ) (name : Name) → IsDraft d → p < length d.gone → is_gone d.gone p ≡ false → is_op_place (stands d p) ≡ true
    → now_of d.gone (slice_set d.aims p (Some name)) d.given ≡ aimed_lines line_mentioning (rank d.gone p) name (lines_now d)
lines_aimed d p name h l k e = lines_turned name d.given d.gone d.aims p h.ops k (let m = h.marks in let a = h.labels in omega arith) (given_op d p h k e)

pub aimed_draft : (d : Drafted) (p : ℕ) (name : Name) → IsDraft d → p < length d.gone → is_gone d.gone p ≡ false → is_op_place (stands d p) ≡ true → IsDraft (record { given = d.given; gone = d.gone; aims = slice_set d.aims p (Some name) })
aimed_draft d p name h l k e =
    let lines = lines_aimed d p name h l k e in
    record {
      marks = h.marks;
      labels = set_length d.aims p (Some name) ∙ h.labels;
      ops = h.ops;
      once = subst DefineOnce (sym lines) (aimed_once line_mentioning (rank d.gone p) name (lines_now d) h.once);
      few = let f = h.few in let s = aimed_as_many line_mentioning (rank d.gone p) name (lines_now d) in let t = ap (λ (x : List ListingLine). length (places_of x)) lines in omega arith;
    }

-- ---- what is held ----

-- the fields of a draft's struct, as contracts see it
abbrev pub drafted : List ListingLine → List Bool → List (Option Name) → Drafted
drafted given gone aims = record { given = given; gone = gone; aims = aims }

pub draft_after_removal : (given : List ListingLine) (gone new : List Bool) (aims : List (Option Name)) (now : Drafted) (p : ℕ) → drafted given gone aims ≡ now → IsDraft (drafted given gone aims) → p < length now.gone → is_gone now.gone p ≡ false → is_op_place (stands now p) ≡ true
    → new ≡ slice_set gone p true → IsDraft (drafted given new aims)
draft_after_removal given gone new aims now p v h =
    subst (λ (d : Drafted). p < length d.gone → is_gone d.gone p ≡ false → is_op_place (stands d p) ≡ true → new ≡ slice_set gone p true → IsDraft (drafted given new aims)) v
    (λ l k e s. subst (λ g. IsDraft (drafted given g aims)) (sym s) (still_draft (drafted given gone aims) p h l k e))

pub lines_after_removal : (given : List ListingLine) (gone new : List Bool) (aims : List (Option Name)) (now : Drafted) (p : ℕ) → drafted given gone aims ≡ now → IsDraft (drafted given gone aims) → p < length now.gone → is_gone now.gone p ≡ false → is_op_place (stands now p) ≡ true
    → new ≡ slice_set gone p true → now_of new aims given ≡ replaced_lines own_line (rank now.gone p) 1 [] (lines_now now)
lines_after_removal given gone new aims now p v h =
    subst (λ (d : Drafted). p < length d.gone → is_gone d.gone p ≡ false → is_op_place (stands d p) ≡ true → new ≡ slice_set gone p true → now_of new aims given ≡ replaced_lines own_line (rank d.gone p) 1 [] (lines_now d)) v
    (λ l k e s. ap (λ g. now_of g aims given) s ∙ lines_removed (drafted given gone aims) p h l k e)

pub draft_after_aim : (given : List ListingLine) (gone : List Bool) (aims new : List (Option Name)) (now : Drafted) (p : ℕ) (name : Name) → drafted given gone aims ≡ now → IsDraft (drafted given gone aims) → p < length now.gone → is_gone now.gone p ≡ false → is_op_place (stands now p) ≡ true
    → new ≡ slice_set aims p (Some name) → IsDraft (drafted given gone new)
draft_after_aim given gone aims new now p name v h =
    subst (λ (d : Drafted). p < length d.gone → is_gone d.gone p ≡ false → is_op_place (stands d p) ≡ true → new ≡ slice_set aims p (Some name) → IsDraft (drafted given gone new)) v
    (λ l k e s. subst (λ x. IsDraft (drafted given gone x)) (sym s) (aimed_draft (drafted given gone aims) p name h l k e))

pub lines_after_aim : (given : List ListingLine) (gone : List Bool) (aims new : List (Option Name)) (now : Drafted) (p : ℕ) (name : Name) → drafted given gone aims ≡ now → IsDraft (drafted given gone aims) → p < length now.gone → is_gone now.gone p ≡ false → is_op_place (stands now p) ≡ true
    → new ≡ slice_set aims p (Some name) → now_of gone new given ≡ aimed_lines line_mentioning (rank now.gone p) name (lines_now now)
lines_after_aim given gone aims new now p name v h =
    subst (λ (d : Drafted). p < length d.gone → is_gone d.gone p ≡ false → is_op_place (stands d p) ≡ true → new ≡ slice_set aims p (Some name) → now_of gone new given ≡ aimed_lines line_mentioning (rank d.gone p) name (lines_now d)) v
    (λ l k e s. ap (λ x. now_of gone x given) s ∙ lines_aimed (drafted given gone aims) p name h l k e)

pub instr_as_given : (given : List ListingLine) (gone : List Bool) (aims : List (Option Name)) (now : Drafted) (p : ℕ) → drafted given gone aims ≡ now → IsDraft (drafted given gone aims) → is_gone now.gone p ≡ false → instr_in (slice_get (places_of given) p) ≡ instr_in (stands now p)
instr_as_given given gone aims now p v h = subst (λ (d : Drafted). is_gone d.gone p ≡ false → instr_in (slice_get (places_of given) p) ≡ instr_in (stands d p)) v (λ k. instr_at (drafted given gone aims) p h k)

pub name_as_aimed : (given : List ListingLine) (gone : List Bool) (aims : List (Option Name)) (now : Drafted) (p : ℕ) → drafted given gone aims ≡ now → IsDraft (drafted given gone aims) → is_gone now.gone p ≡ false → name_in (aimed_to (slice_get (places_of given) p) (aim_at aims p)) ≡ name_in (stands now p)
name_as_aimed given gone aims now p v h = subst (λ (d : Drafted). is_gone d.gone p ≡ false → name_in (aimed_to (slice_get (places_of given) p) (aim_at aims p)) ≡ name_in (stands d p)) v (λ k. name_at (drafted given gone aims) p h k)

pub aim_names : (os : List (Option (Vec ℕ Global))) (p : ℕ) (o : Option (Vec ℕ Global)) → slice_get os p ≡ Some o → aim_at (names_of os) p ≡ option_map (λ name. name.items) o
aim_names [] p o e = absurd (cc)
aim_names (a ∷ os) zero o e = ap (λ x. option_map (λ name. name.items) x) (let same : a ≡ o = cc in same)
aim_names (a ∷ os) (suc p) o e = aim_names os p o e

name_turned : (o : Option Place) (label : Name) → is_op_place o ≡ true → name_in (aimed_to o (Some label)) ≡ Some label
name_turned None label e = absurd (cc)
name_turned (Some (Op i m)) label e = refl
name_turned (Some (Word v)) label e = absurd (cc)

name_missing : (o : Option Place) (label : Name) → is_op_place o ≡ false → name_in (aimed_to o (Some label)) ≡ None
name_missing None label e = refl
name_missing (Some (Op i m)) label e = absurd (cc)
name_missing (Some (Word v)) label e = refl

name_same : (o : Option Place) → name_in (aimed_to o None) ≡ name_in o
name_same None = refl
name_same (Some (Op i m)) = refl
name_same (Some (Word v)) = refl

module _ (given : List ListingLine) (gone : List Bool) (os : List (Option (Vec ℕ Global))) (now : Drafted) (p : ℕ) (v : drafted given gone (names_of os) ≡ now) (h : IsDraft (drafted given gone (names_of os))) (k : is_gone now.gone p ≡ false) where
  seen : (a : Option Name) → aim_at (names_of os) p ≡ a → name_in (aimed_to (slice_get (places_of given) p) a) ≡ name_in (stands now p)
  seen a e = ap (λ x. name_in (aimed_to (slice_get (places_of given) p) x)) (sym e) ∙ name_as_aimed given gone (names_of os) now p v h k

  pub own_name : (name : Vec ℕ Global) → slice_get os p ≡ Some (Some name) → is_op_place (slice_get (places_of given) p) ≡ true → Some name.items ≡ name_in (stands now p)
  own_name name e op = sym (name_turned (slice_get (places_of given) p) name.items op) ∙ seen (Some name.items) (aim_names os p (Some name) e)

  pub no_name : (name : Vec ℕ Global) → slice_get os p ≡ Some (Some name) → is_op_place (slice_get (places_of given) p) ≡ false → None ≡ name_in (stands now p)
  no_name name e op = sym (name_missing (slice_get (places_of given) p) name.items op) ∙ seen (Some name.items) (aim_names os p (Some name) e)

  pub given_name : slice_get os p ≡ Some None → name_in (slice_get (places_of given) p) ≡ name_in (stands now p)
  given_name e = sym (name_same (slice_get (places_of given) p)) ∙ seen None (aim_names os p None e)

-- ---- names that lead somewhere ----

either : (b : Bool) (r p : ℕ) (o : Option ℕ) → (if b then Some r else o) ≡ Some p → (r ≡ p) ⊎ (o ≡ Some p)
either true r p o e = inl (same_Some r p e)
either false r p o e = inr e

pub label_within : (name : Name) (r : ℕ) (ls : List ListingLine) (p : ℕ) → label_place name (labels_from r ls) ≡ Some p → p ≤ r + length (places_of ls)
label_within name r [] p e = absurd (cc)
label_within name r (l ∷ ls) p e =
    let n : ℕ = length (places_in l.statement) in
    let count = length-append (places_in l.statement) (places_of ls) in
    elim (either (is_among name l.names) r p (label_place name (labels_from (r + n) ls)) (sym (label_at name r l.names (labels_from (r + n) ls)) ∙ e)) [
      | inl here ↦ omega arith
      | inr later ↦ (let w = label_within name (r + n) ls p later in omega arith)
    ]

abbrev label_of : Drafted → Option Name → Option ℕ
label_of d o = option_and_then (λ name. label_place name (labels_from 0 d.given)) o

abbrev leads : Drafted → Option Name → Option ℕ
leads d o = option_and_then (place_of (code_of (lines_now d))) o

pub found_within : (d : Drafted) (o : Option Name) (p : ℕ) → IsDraft d → label_of d o ≡ Some p → p ≤ length d.gone
found_within d None p h e = absurd (cc)
found_within d (Some name) p h e = let w = label_within name 0 d.given p e in let m = h.marks in omega arith

pub leads_nowhere : (d : Drafted) (o : Option Name) → IsDraft d → label_of d o ≡ None → leads d o ≡ None
unfolding code_place
leads_nowhere d None h e = refl
leads_nowhere d (Some name) h e = name_leads d name h ∙ ap (λ x. code_place (places_of (lines_now d)) (option_map (rank d.gone) x)) e

pub leads_on : (d : Drafted) (o : Option Name) (p q : ℕ) → IsDraft d → label_of d o ≡ Some p → IsNode d.gone p q → (b : Bool) → b ≡ is_op_place (slice_get (places_of d.given) q) → leads d o ≡ (if b then Some (rank d.gone q) else None)
leads_on d None p q h e n b f = absurd (cc)
leads_on d (Some name) p q h e n b f = name_leads d name h ∙ ap (λ x. code_place (places_of (lines_now d)) (option_map (rank d.gone) x)) e ∙ leads_to d p q h n b f

-- where an instruction was given a place is
pub op_within : (d : Drafted) (q : ℕ) → IsDraft d → is_op_place (slice_get (places_of d.given) q) ≡ true → q < length d.gone
op_within d q h e = elim (cases_lt q (length d.gone)) [
  | inl l ↦ l
  | inr g ↦ (let no : true ≡ false = sym e ∙ none_past (places_of d.given) q (let m = h.marks in omega arith) in absurd (cc))
]
  where
    none_past : (xs : List Place) (q : ℕ) → length xs ≤ q → is_op_place (slice_get xs q) ≡ false
    none_past [] q g = refl
    none_past (x ∷ xs) zero g = absurd (omega arith)
    none_past (x ∷ xs) (suc q) g = none_past xs q (omega arith)

-- ---- a new draft ----

pub new_draft : (ls : List ListingLine) (n : ℕ) (gone : List Bool) (aims : List (Option Name)) → n ≡ length (places_of ls) → n < 2 ^ 32 → gone ≡ replicate n false → aims ≡ replicate n None → DefineOnce ls → IsDraft (drafted ls gone aims)
new_draft ls n gone aims e f g a once =
    subst (λ x. IsDraft (drafted ls x aims)) (sym (g ∙ ap (λ k. replicate k false) e))
    (subst (λ y. IsDraft (drafted ls (replicate (length (places_of ls)) false) y)) (sym (a ∙ ap (λ k. replicate k None) e)) (first_draft ls once (omega (arith, e, f))))

pub new_lines : (ls : List ListingLine) (n : ℕ) (gone : List Bool) (aims : List (Option Name)) → gone ≡ replicate n false → aims ≡ replicate n None → now_of gone aims ls ≡ ls
new_lines ls n gone aims g a = ap (λ x. now_of x aims ls) g ∙ ap (λ y. now_of (replicate n false) y ls) a ∙ all_same n n ls
