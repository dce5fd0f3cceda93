-- Ways and code points where a window gave way to as many straight instructions.
use Rattle.std.proofs.Common.{◌≡◌, ℕ, zero, suc, ◌+◌, ◌-◌, ◌<◌, ◌&&◌, not, Bool, true, false, List, [], ◌∷◌, ◌++◌, length, Option, Some, None, refl, sym, ap, ◌∙◌, ◌⊎◌, inl, inr, arith, if◌then◌else◌}
use Rattle.std.specs.Prelude.{slice_get}
use Rattle.std.proofs.lemmas.Option.{same_Some}
use Rattle.std.specs.List.{list_all}
use Rattle.std.specs.Str.{bytes_eq}
use Rattle.std.proofs.lemmas.Bool.{and_parts, cases_lt}
use Rattle.thumb_instr.specs.declared.instr.Instr.{Instr}
use Rattle.thumb_instr.specs.declared.instr.Instr.TheVariants as instr
use Rattle.thumb_instr.specs.Items.{has}
use Rattle.thumb_instr.specs.Shape.{uses_of, writes_of, registers_in}
use Rattle.thumb_model.specs.Effect.{one_of, sp}
use Rattle.thumb_model.specs.Listing.{Name, Mention, Place, Op, Word, Label, Code, is_op_place, is_call, is_call_instr, place_among, label_places, return_places, IsPoint}
use Rattle.thumb_model.specs.Steps.{aim_of}
use Rattle.thumb_model.specs.Flow.{Leads, Onward, ToPlace, AnyPoint, Out, way, left_but, ways_of, ways_on, ways, Follows}
use Rattle.thumb_model.proofs.Lists.{present_at}
use Rattle.shrinking_sets.specs.Straight.{is_straight, IsApart, Stand, IsExchange}
use Rattle.shrinking_sets.specs.Marks.{Passes}

-- ---- straight code ----

-- a row: a straight instruction goes to the next place alone
pub straight_way : (o : Option ℕ) (i : Instr) → is_straight i ≡ true → ways_of o i ≡ way (uses_of i) (writes_of i) Onward ∷ []
straight_way o (instr.Bx m) h = absurd (cc)
straight_way o (instr.Blx m) h = absurd (cc)
straight_way o (instr.Pop l) h = go (has l.number 8) h
  where
    go : (b : Bool) → not b ≡ true
        → (if b then way (sp ∷ []) (sp ∷ registers_in l.number) AnyPoint ∷ way (sp ∷ left_but (registers_in l.number)) (sp ∷ registers_in l.number) Out ∷ [] else way (sp ∷ []) (sp ∷ registers_in l.number) Onward ∷ [])
        ≡ way (uses_of (instr.Pop l)) (writes_of (instr.Pop l)) Onward ∷ []
    go true e = absurd (cc)
    go false e = refl
straight_way o (instr.BranchIf c d) h = absurd (cc)
straight_way o (instr.Branch d) h = absurd (cc)
straight_way o (instr.Call d) h = absurd (cc)
straight_way o i h = refl

-- a row: and is no call
pub straight_no_call : (i : Instr) → is_straight i ≡ true → is_call_instr i ≡ false
straight_no_call (instr.Blx m) h = absurd (cc)
straight_no_call (instr.Call d) h = absurd (cc)
straight_no_call i h = refl

pub straight_at : (is : List Instr) (k : ℕ) (i : Instr) → list_all is_straight is ≡ true → slice_get is k ≡ Some i → is_straight i ≡ true
straight_at [] k i h e = absurd (cc)
straight_at (j ∷ is) zero i h e = ap is_straight (sym (same_Some j i e)) ∙ (and_parts _ _ h).0
straight_at (j ∷ is) (suc k) i h e = straight_at is k i (and_parts (is_straight j) _ h).1 e

-- each place from q on has the one way of its instruction
abbrev pub Runs : Code → ℕ → List Instr → Type 0
Runs code q [] = Unit {0}
Runs code q (i ∷ is) = (ways code q ≡ way (uses_of i) (writes_of i) Onward ∷ []) × Runs code (q + 1) is

runs_from : (code : Code) (q : ℕ) (is : List Instr) → list_all is_straight is ≡ true → Stand code q is → Runs code q is
runs_from code q [] h s = tt
runs_from code q (i ∷ is) h s =
    let f = s 0 i refl in (
      ap (ways_on code) (ap (slice_get code.places) (let e : q ≡ q + 0 = omega arith in e) ∙ f.1) ∙ straight_way (aim_of code f.0) i (and_parts (is_straight i) _ h).0,
      runs_from code (q + 1) is (and_parts (is_straight i) _ h).1 (λ j k e. let g = s (suc j) k e in (g.0, ap (slice_get code.places) (let e : q + 1 + j ≡ q + suc j = omega arith in e) ∙ g.1)),
    )

pub runs_at : (code : Code) (q : ℕ) (is : List Instr) (j : ℕ) (i : Instr) → Runs code q is → slice_get is j ≡ Some i → ways code (q + j) ≡ way (uses_of i) (writes_of i) Onward ∷ []
runs_at code q [] j i r e = absurd (cc)
runs_at code q (h ∷ is) zero i r e = ap (ways code) (let f : q + 0 ≡ q = omega arith in f) ∙ r.0 ∙ ap (λ (y : Instr). way (uses_of y) (writes_of y) Onward ∷ []) (same_Some h i e)
runs_at code q (h ∷ is) (suc j) i r e = ap (ways code) (let f : q + suc j ≡ q + 1 + j = omega arith in f) ∙ runs_at code (q + 1) is j i r.1 e

-- ---- code points ----

-- whether a call stands there
abbrev pub call_at : Option Place → Bool
call_at None = false
call_at (Some x) = is_call x

labels_same : (xs ys : List Place) (ls : List Label) → ((q : ℕ) → is_op_place (slice_get xs q) ≡ is_op_place (slice_get ys q)) → label_places xs ls ≡ label_places ys ls
labels_same xs ys [] h = refl
labels_same xs ys (l ∷ ls) h =
    ap (λ b. if b then l.place ∷ label_places xs ls else label_places xs ls) (h l.place)
    ∙ ap (λ zs. if is_op_place (slice_get ys l.place) then l.place ∷ zs else zs) (labels_same xs ys ls h)

aims_same : (name : Name) (xs ys : List Place) (ls : List Label) → ((q : ℕ) → is_op_place (slice_get xs q) ≡ is_op_place (slice_get ys q)) → place_among name xs ls ≡ place_among name ys ls
aims_same name xs ys [] h = refl
aims_same name xs ys (l ∷ ls) h =
    ap (λ b. if bytes_eq name l.name && b then Some l.place else place_among name xs ls) (h l.place)
    ∙ ap (λ o. if bytes_eq name l.name && is_op_place (slice_get ys l.place) then Some l.place else o) (aims_same name xs ys ls h)

returns_same : (p : ℕ) (xs ys : List Place) → length xs ≡ length ys → ((q : ℕ) → call_at (slice_get xs q) ≡ call_at (slice_get ys q)) → return_places p xs ≡ return_places p ys
returns_same p [] [] e h = refl
returns_same p [] (y ∷ ys) e h = absurd (omega arith)
returns_same p (x ∷ xs) [] e h = absurd (omega arith)
returns_same p (x ∷ xs) (y ∷ ys) e h =
    ap (λ b. if b then (p + 1) ∷ return_places (p + 1) xs else return_places (p + 1) xs) (h 0)
    ∙ ap (λ zs. if is_call y then (p + 1) ∷ zs else zs) (returns_same (p + 1) xs ys (omega arith) (λ q. h (suc q)))

-- ---- the exchange ----

module _ (code new : Code) (w : ℕ) (old is : List Instr) (at : IsExchange code new w old is) where
  pub old_runs : Runs code w old
  old_runs = runs_from code w old at.old_straight at.stood

  pub new_runs : Runs new w is
  new_runs = runs_from new w is at.new_straight at.stand

  -- each place is apart, or the window's
  pub apart_or : (q : ℕ) → IsApart w (length old) q ⊎ ((j : ℕ) × (q ≡ w + j) × (j < length old))
  apart_or q =
      elim (cases_lt q w) [
        | inl l ↦ inl (inl l)
        | inr l ↦ elim (cases_lt q (w + length old)) [
          | inl m ↦ inr (q - w, omega arith, omega arith)
          | inr m ↦ inl (inr m)
        ]
      ]

  -- a fact on what stands at a place that holds for instructions of both windows alike
  same_at : (P : Option Place → Bool) (b : Bool) → ((i : Instr) (m : Option Mention) → is_straight i ≡ true → P (Some (Op i m)) ≡ b) → (q : ℕ) → P (slice_get new.places q) ≡ P (slice_get code.places q)
  same_at P b h q =
      elim (apart_or q) [
        | inl a ↦ ap P (at.elsewhere q a)
        | inr r ↦
            let n = at.as_many in
            let l = r.2 in
            let i = present_at is r.0 (omega arith) in
            let k = present_at old r.0 l in
            let s = at.stand r.0 i.0 i.1 in
            let t = at.stood r.0 k.0 k.1 in
            ap P (ap (slice_get new.places) r.1 ∙ s.1) ∙ h i.0 s.0 (straight_at is r.0 i.0 at.new_straight i.1)
            ∙ sym (ap P (ap (slice_get code.places) r.1 ∙ t.1) ∙ h k.0 t.0 (straight_at old r.0 k.0 at.old_straight k.1))
      ]

  ops_same : (q : ℕ) → is_op_place (slice_get new.places q) ≡ is_op_place (slice_get code.places q)
  ops_same = same_at is_op_place true (λ i m s. refl)

  calls_same : (q : ℕ) → call_at (slice_get new.places q) ≡ call_at (slice_get code.places q)
  calls_same = same_at call_at false (λ i m s. straight_no_call i s)

  points_same : label_places new.places new.labels ++ return_places 0 new.places ≡ label_places code.places code.labels ++ return_places 0 code.places
  points_same =
      ap (λ ls. label_places new.places ls ++ return_places 0 new.places) at.labels
      ∙ ap (λ ps. ps ++ return_places 0 new.places) (labels_same new.places code.places code.labels ops_same)
      ∙ ap (λ ps. label_places code.places code.labels ++ ps) (returns_same 0 new.places code.places at.places calls_same)

  pub point_stays : (q : ℕ) → IsPoint code q → IsPoint new q
  point_stays q h = ap (one_of q) points_same ∙ h

  pub point_was : (q : ℕ) → IsPoint new q → IsPoint code q
  point_was q h = ap (one_of q) (sym points_same) ∙ h

  aim_same : (m : Option Mention) → aim_of new m ≡ aim_of code m
  aim_same None = refl
  aim_same (Some m) = ap (place_among m.name new.places) at.labels ∙ aims_same m.name new.places code.places code.labels ops_same

  on_same : (o : Option Place) → ways_on new o ≡ ways_on code o
  on_same None = refl
  on_same (Some (Word v)) = refl
  on_same (Some (Op i m)) = ap (λ (a : Option ℕ). ways_of a i) (aim_same m)

  -- the ways of a place apart from the window
  pub ways_same : (q : ℕ) → IsApart w (length old) q → ways new q ≡ ways code q
  ways_same q a = ap (ways_on new) (at.elsewhere q a) ∙ on_same (slice_get code.places q)

  follows_stays : (p q : ℕ) (l : Leads) → Follows code p l q → Follows new p l q
  follows_stays p q Onward f = f
  follows_stays p q (ToPlace r) f = f
  follows_stays p q AnyPoint f = point_stays q f
  follows_stays p q Out f = f

  follows_was : (p q : ℕ) (l : Leads) → Follows new p l q → Follows code p l q
  follows_was p q Onward f = f
  follows_was p q (ToPlace r) f = f
  follows_was p q AnyPoint f = point_was q f
  follows_was p q Out f = f

  pub passes_stays : (x p q : ℕ) → IsApart w (length old) p → Passes code x p q → Passes new x p q
  passes_stays x p q a s = record {
    number = s.number;
    found = s.found;
    is = ap (λ ws. slice_get ws s.number) (ways_same p a) ∙ s.is;
    unwritten = s.unwritten;
    leads = follows_stays p q s.found.leads s.leads;
  }

  pub passes_was : (x p q : ℕ) → IsApart w (length old) p → Passes new x p q → Passes code x p q
  passes_was x p q a s = record {
    number = s.number;
    found = s.found;
    is = ap (λ ws. slice_get ws s.number) (sym (ways_same p a)) ∙ s.is;
    unwritten = s.unwritten;
    leads = follows_was p q s.found.leads s.leads;
  }
