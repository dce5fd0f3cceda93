-- The lines of a draft with none of its instructions gone: they lie as the given lines do, and stay steady when a branch goes elsewhere. Where they are steady, so are the lines now.
use Rattle.std.proofs.Common.{◌≡◌, ◌∙◌, ℕ, zero, suc, ◌+◌, ◌-◌, ◌<◌, ◌&&◌, Bool, true, false, List, [], ◌∷◌, ◌++◌, length, drop, replicate, append_assoc, Option, Some, None, refl, sym, ap, subst, arith, if◌then◌else◌}
use Rattle.std.specs.Prelude.{slice_get, slice_set}
use Rattle.std.proofs.lemmas.Bool.{and_parts, and_from}
use Rattle.std.proofs.lemmas.Option.{same_Some}
use Rattle.thumb_instr.specs.declared.instr.Instr.{Instr}
use Rattle.thumb_model.specs.Listing.{Name, Mention, Statement, Nothing, Instruction, Words, Aligns, Sets, ListingLine, Op, is_op_place, places_in, places_of}
use Rattle.thumb_model.specs.Layout.{is_among, set_in, set_address, cleared}
use Rattle.thumb_model.specs.Replaced.{is_op, labels_kept, replaced_lines}
use Rattle.thumb_model.proofs.Lists.{get_back}
use Rattle.kept_places.specs.Marks.{is_gone, rank}
use Rattle.kept_places.proofs.Ranks.{unmarked}
use Rattle.listing_parser.specs.Parsing.{line_mentioning, own_line}
use Rattle.listing_parser.specs.Targets.{aimed, aimed_line}
use Rattle.listing_draft.specs.Drafted.{aim_at, line_now, lines_now, now_of, Drafted}
use Rattle.listing_draft.specs.Invariant.{IsDraft}
use Rattle.listing_draft.proofs.Ranks.{drop_set, op_behind, OpsGone}
use Rattle.listing_draft.proofs.Removed.{lines_left}
use Rattle.listing_draft.proofs.Stands.{same_op, stands_at}
use Rattle.steady_layout.specs.declared.starts.Start.{Start}
use Rattle.steady_layout.specs.Starts.{starts_from}
use Rattle.steady_layout.specs.Steady.{all_steady, behind, first, label_start, labels_in, sets_in, steady_aim, steady_at, steady_instr, widest_end, IsSteady}
use Rattle.steady_layout.proofs.Cuts.{cut_op}
use Rattle.steady_layout.proofs.Laws.{cut_stays}
use Rattle.flow_tidy.specs.WidestLayout.{places_begin, IsSteadyTo}
use Rattle.flow_tidy.proofs.Aimed.{to_label}
use Rattle.listing_draft.proofs.Drafts.{drop_marks as none_dropped}
use Rattle.flow_tidy.proofs.WidestLayouts.{repeated as as_many_starts}

-- ---- the line of an instruction, whose branch may go elsewhere ----

-- its statement now
abbrev said : Option Name → Statement → Statement
said None s = s
said (Some label) s = aimed label s

start_same : (a b : ℕ) (x : Bool) → a ≡ b → (let s : Start = record { at = a; aligned = x } in s) ≡ record { at = b; aligned = x }
start_same a b x e = cc

-- labels take no bytes
still : (here : Start) → behind here Nothing ≡ here
still here = start_same (here.at + 0) here.at here.aligned (omega arith)

branch_end : (label : Name) (l : ListingLine) (ns : List Name) (i : Instr) (m : Option Mention) (rest : List ListingLine) (here : Start) → l.statement ≡ Instruction i m
    → widest_end here ((labels_kept l ns ++ (aimed_line line_mentioning label l ∷ [])) ++ rest) ≡ widest_end (behind here l.statement) rest
branch_end label l [] i m rest here e = rw e refl
branch_end label l (n ∷ ns) i m rest here e = rw e (ap (λ (s : Start). widest_end (behind s (Instruction i m)) rest) (still here))

op_end : (a : Option Name) (l : ListingLine) (i : Instr) (m : Option Mention) (rest : List ListingLine) (here : Start) → l.statement ≡ Instruction i m → widest_end here (line_now false a l ++ rest) ≡ widest_end (behind here l.statement) rest
op_end None l i m rest here e = refl
op_end (Some label) l i m rest here e = branch_end label l l.names i m rest here e

branch_label : (name label : Name) (l : ListingLine) (ns : List Name) (i : Instr) (m : Option Mention) (rest : List ListingLine) (here : Start) → l.statement ≡ Instruction i m
    → label_start name here ((labels_kept l ns ++ (aimed_line line_mentioning label l ∷ [])) ++ rest) ≡ (if is_among name ns then Some here else label_start name (behind here l.statement) rest)
branch_label name label l [] i m rest here e = rw e refl
branch_label name label l (n ∷ ns) i m rest here e = rw e (ap (λ (s : Start). if is_among name (n ∷ ns) then Some here else label_start name (behind s (Instruction i m)) rest) (still here))

op_label : (name : Name) (a : Option Name) (l : ListingLine) (i : Instr) (m : Option Mention) (rest : List ListingLine) (here : Start) → l.statement ≡ Instruction i m
    → label_start name here (line_now false a l ++ rest) ≡ (if is_among name l.names then Some here else label_start name (behind here l.statement) rest)
op_label name None l i m rest here e = refl
op_label name (Some label) l i m rest here e = branch_label name label l l.names i m rest here e

branch_sets : (name label : Name) (l : ListingLine) (ns : List Name) (i : Instr) (m : Option Mention) (rest : List ListingLine) → l.statement ≡ Instruction i m
    → set_address name ((labels_kept l ns ++ (aimed_line line_mentioning label l ∷ [])) ++ rest) ≡ set_in name l.statement (set_address name rest)
branch_sets name label l [] i m rest e = rw e refl
branch_sets name label l (n ∷ ns) i m rest e = rw e refl

op_sets : (name : Name) (a : Option Name) (l : ListingLine) (i : Instr) (m : Option Mention) (rest : List ListingLine) → l.statement ≡ Instruction i m → set_address name (line_now false a l ++ rest) ≡ set_in name l.statement (set_address name rest)
op_sets name None l i m rest e = refl
op_sets name (Some label) l i m rest e = branch_sets name label l l.names i m rest e

module _ (labels : Name → Option Start) (sets : Name → Option ℕ) (base : ℕ) where
  branch_steady : (label : Name) (l : ListingLine) (ns : List Name) (i : Instr) (m : Option Mention) (rest : List ListingLine) (here : Start) → l.statement ≡ Instruction i m
      → all_steady labels sets base here ((labels_kept l ns ++ (aimed_line line_mentioning label l ∷ [])) ++ rest) ≡ (steady_at labels sets base here (aimed label l.statement) && all_steady labels sets base (behind here l.statement) rest)
  branch_steady label l [] i m rest here e = rw e refl
  branch_steady label l (n ∷ ns) i m rest here e = rw e (ap (λ (s : Start). steady_instr labels sets base s i (Some (to_label label)) && all_steady labels sets base (behind s (Instruction i m)) rest) (still here))

  op_steady : (a : Option Name) (l : ListingLine) (i : Instr) (m : Option Mention) (rest : List ListingLine) (here : Start) → l.statement ≡ Instruction i m
      → all_steady labels sets base here (line_now false a l ++ rest) ≡ (steady_at labels sets base here (said a l.statement) && all_steady labels sets base (behind here l.statement) rest)
  op_steady None l i m rest here e = refl
  op_steady (Some label) l i m rest here e = branch_steady label l l.names i m rest here e

-- ---- lines that lie alike ----

none_behind : {A : Type 0} (n : ℕ) → (let xs : List A = drop n [] in xs) ≡ []
none_behind zero = refl
none_behind (suc n) = refl

pub record LieAlike (ls ms : List ListingLine) : Type 0 where
  pub ending : (here : Start) → widest_end here ls ≡ widest_end here ms
  pub label : (name : Name) (here : Start) → label_start name here ls ≡ label_start name here ms
  pub sets : (name : Name) → set_address name ls ≡ set_address name ms

op_alike : (a : Option Name) (l : ListingLine) (i : Instr) (m : Option Mention) (ls new : List ListingLine) → l.statement ≡ Instruction i m → LieAlike new ls → LieAlike (line_now false a l ++ new) (l ∷ ls)
op_alike a l i m ls new e k = record {
  ending = λ here. op_end a l i m new here e ∙ k.ending (behind here l.statement);
  label = λ name here. op_label name a l i m new here e ∙ ap (λ (o : Option Start). if is_among name l.names then Some here else o) (k.label name (behind here l.statement));
  sets = λ name. op_sets name a l i m new e ∙ ap (set_in name l.statement) (k.sets name);
}

other_alike : (l : ListingLine) (ls new : List ListingLine) → LieAlike new ls → LieAlike (l ∷ new) (l ∷ ls)
other_alike l ls new k = record {
  ending = λ here. k.ending (behind here l.statement);
  label = λ name here. ap (λ (o : Option Start). if is_among name l.names then Some here else o) (k.label name (behind here l.statement));
  sets = λ name. ap (set_in name l.statement) (k.sets name);
}

abbrev AlikeRec : List ListingLine → Type 0
AlikeRec ls = (aims : List (Option Name)) → LieAlike (now_of [] aims ls) ls

behind_alike : (l : ListingLine) (s : Statement) (ls : List ListingLine) → AlikeRec ls → (aims : List (Option Name)) → LieAlike (l ∷ now_of (drop (length (places_in s)) []) (drop (length (places_in s)) aims) ls) (l ∷ ls)
behind_alike l s ls rec aims =
    let n : ℕ = length (places_in s) in
    other_alike l ls (now_of (drop n []) (drop n aims) ls) (subst (λ (g : List Bool). LieAlike (now_of g (drop n aims) ls) ls) (sym (none_behind n)) (rec (drop n aims)))

line_alike : (l : ListingLine) (s : Statement) (ls : List ListingLine) → l.statement ≡ s → AlikeRec ls → (aims : List (Option Name))
    → LieAlike (if is_op s then line_now false (aim_at aims 0) l ++ now_of [] (drop 1 aims) ls else l ∷ now_of (drop (length (places_in s)) []) (drop (length (places_in s)) aims) ls) (l ∷ ls)
line_alike l (Instruction i m) ls e rec aims = op_alike (aim_at aims 0) l i m ls (now_of [] (drop 1 aims) ls) e (rec (drop 1 aims))
line_alike l s ls e rec aims = behind_alike l s ls rec aims

-- wherever branches go, the lines lie as they were given
pub whole_alike : (ls : List ListingLine) → AlikeRec ls
whole_alike [] aims = record { ending = λ here. refl; label = λ name here. refl; sets = λ name. refl }
whole_alike (l ∷ ls) aims = line_alike l l.statement ls refl (whole_alike ls) aims

-- ---- a redirected branch ----

-- steady by names that lie at the same addresses
same_steady : (labels others : Name → Option Start) (sets zets : Name → Option ℕ) → ((name : Name) → labels name ≡ others name) → ((name : Name) → sets name ≡ zets name)
    → (base : ℕ) (here : Start) (s : Statement) → steady_at labels sets base here s ≡ steady_at others zets base here s
same_steady labels others sets zets e f base here (Instruction i (Some m)) =
    ap (λ (o : Option Start). steady_aim base here i o (sets m.name) m.plus) (e m.name) ∙ ap (λ (o : Option ℕ). steady_aim base here i (others m.name) o m.plus) (f m.name)
same_steady labels others sets zets e f base here s = refl

all_same : (labels others : Name → Option Start) (sets zets : Name → Option ℕ) → ((name : Name) → labels name ≡ others name) → ((name : Name) → sets name ≡ zets name)
    → (base : ℕ) (here : Start) (ls : List ListingLine) → all_steady labels sets base here ls ≡ all_steady others zets base here ls
all_same labels others sets zets e f base here [] = refl
all_same labels others sets zets e f base here (l ∷ ls) =
    ap (λ (b : Bool). b && all_steady labels sets base (behind here l.statement) ls) (same_steady labels others sets zets e f base here l.statement)
    ∙ ap (λ (b : Bool). steady_at others zets base here l.statement && b) (all_same labels others sets zets e f base (behind here l.statement) ls)

module _ (labels : Name → Option Start) (sets : Name → Option ℕ) (base : ℕ) (to : Name) (i : Instr) (m : Option Mention) (start : Start) (near : steady_instr labels sets base start i (Some (to_label to)) ≡ true) where
  abbrev SteadyRec : List ListingLine → Type 0
  SteadyRec ls = (aims : List (Option Name)) (here : Start) (p : ℕ) → slice_get (places_of ls) p ≡ Some (Op i m) → slice_get (places_begin (starts_from here ls) ls) p ≡ Some start
      → all_steady labels sets base here (now_of [] aims ls) ≡ true → all_steady labels sets base here (now_of [] (slice_set aims p (Some to)) ls) ≡ true

  -- the branch's line itself
  branch_stays : (a : Option Name) (l : ListingLine) (j : Instr) (k : Option Mention) (rest : List ListingLine) (here : Start) → l.statement ≡ Instruction j k → j ≡ i → here ≡ start
      → all_steady labels sets base here (line_now false a l ++ rest) ≡ true → all_steady labels sets base here (line_now false (Some to) l ++ rest) ≡ true
  branch_stays a l j k rest here e f g h =
      let parts = and_parts _ _ (sym (op_steady labels sets base a l j k rest here e) ∙ h) in
      let own : steady_at labels sets base here (aimed to l.statement) ≡ true =
      ap (λ (s : Statement). steady_at labels sets base here (aimed to s)) e
      ∙ ap (λ (x : Instr). steady_instr labels sets base here x (Some (to_label to))) f
      ∙ ap (λ (s : Start). steady_instr labels sets base s i (Some (to_label to))) g
      ∙ near in
      op_steady labels sets base (Some to) l j k rest here e ∙ and_from _ _ own parts.1

  -- a line before it
  past_stays : (a : Option Name) (l : ListingLine) (j : Instr) (k : Option Mention) (rest new : List ListingLine) (here : Start) → l.statement ≡ Instruction j k → (all_steady labels sets base (behind here l.statement) rest ≡ true → all_steady labels sets base (behind here l.statement) new ≡ true)
      → all_steady labels sets base here (line_now false a l ++ rest) ≡ true → all_steady labels sets base here (line_now false a l ++ new) ≡ true
  past_stays a l j k rest new here e f h =
      let parts = and_parts _ _ (sym (op_steady labels sets base a l j k rest here e) ∙ h) in
      op_steady labels sets base a l j k new here e ∙ and_from _ _ parts.0 (f parts.1)

  op_stays : (l : ListingLine) (j : Instr) (k : Option Mention) (ls : List ListingLine) → l.statement ≡ Instruction j k → SteadyRec ls → (aims : List (Option Name)) (here : Start) (p : ℕ) → slice_get (Op j k ∷ places_of ls) p ≡ Some (Op i m)
      → slice_get (here ∷ places_begin (starts_from (behind here l.statement) ls) ls) p ≡ Some start
      → all_steady labels sets base here (line_now false (aim_at aims 0) l ++ now_of [] (drop 1 aims) ls) ≡ true
      → all_steady labels sets base here (line_now false (aim_at (slice_set aims p (Some to)) 0) l ++ now_of [] (drop 1 (slice_set aims p (Some to))) ls) ≡ true
  op_stays l j k ls e rec [] here p f g h = h
  op_stays l j k ls e rec (a ∷ os) here zero f g h =
      let same : Op j k ≡ Op i m = same_Some (Op j k) (Op i m) f in
      let is : j ≡ i = cc in
      branch_stays a l j k (now_of [] os ls) here e is (same_Some here start g) h
  op_stays l j k ls e rec (a ∷ os) here (suc p) f g h = past_stays a l j k (now_of [] os ls) (now_of [] (slice_set os p (Some to)) ls) here e (rec os (behind here l.statement) p f g) h

  other_stays : (l : ListingLine) (s : Statement) (ls : List ListingLine) → is_op s ≡ false → SteadyRec ls → (aims : List (Option Name)) (here : Start) (p : ℕ) → slice_get (places_in s ++ places_of ls) p ≡ Some (Op i m)
      → slice_get (replicate (length (places_in s)) here ++ places_begin (starts_from (behind here l.statement) ls) ls) p ≡ Some start
      → all_steady labels sets base here (l ∷ now_of (drop (length (places_in s)) []) (drop (length (places_in s)) aims) ls) ≡ true
      → all_steady labels sets base here (l ∷ now_of (drop (length (places_in s)) []) (drop (length (places_in s)) (slice_set aims p (Some to))) ls) ≡ true
  other_stays l s ls other rec aims here p f g h =
      let n : ℕ = length (places_in s) in
      let next : Start = behind here l.statement in
      let b = op_behind s (places_of ls) p other (ap is_op_place f) in
      let q : ℕ = b.0 in
      let is : p ≡ n + q = b.1 in
      let none : (let xs : List Bool = drop n [] in xs) ≡ [] = none_behind n in
      let place : slice_get (places_of ls) q ≡ Some (Op i m) = sym (get_back (places_in s) (places_of ls) q p is) ∙ f in
      let begins : slice_get (places_begin (starts_from next ls) ls) q ≡ Some start = sym (get_back (replicate n here) (places_begin (starts_from next ls) ls) q p (let c = as_many_starts n here in omega arith)) ∙ g in
      let parts = and_parts _ _ h in
      let old : all_steady labels sets base next (now_of [] (drop n aims) ls) ≡ true = ap (λ (x : List Bool). all_steady labels sets base next (now_of x (drop n aims) ls)) (sym none) ∙ parts.1 in
      let new = rec (drop n aims) next q place begins old in
      and_from _ _ parts.0
      (ap (λ (x : List Bool). all_steady labels sets base next (now_of x (drop n (slice_set aims p (Some to))) ls)) none
      ∙ ap (λ (x : List (Option Name)). all_steady labels sets base next (now_of [] x ls)) (drop_set n aims q p (Some to) is)
      ∙ new)

  line_stays : (l : ListingLine) (s : Statement) (ls : List ListingLine) → l.statement ≡ s → SteadyRec ls → (aims : List (Option Name)) (here : Start) (p : ℕ) → slice_get (places_in s ++ places_of ls) p ≡ Some (Op i m)
      → slice_get (replicate (length (places_in s)) here ++ places_begin (starts_from (behind here l.statement) ls) ls) p ≡ Some start
      → all_steady labels sets base here (if is_op s then line_now false (aim_at aims 0) l ++ now_of [] (drop 1 aims) ls else l ∷ now_of (drop (length (places_in s)) []) (drop (length (places_in s)) aims) ls) ≡ true
      → all_steady labels sets base here (if is_op s then line_now false (aim_at (slice_set aims p (Some to)) 0) l ++ now_of [] (drop 1 (slice_set aims p (Some to))) ls else l ∷ now_of (drop (length (places_in s)) []) (drop (length (places_in s)) (slice_set aims p (Some to))) ls) ≡ true
  line_stays l (Instruction j k) ls e rec aims here p f g h = op_stays l j k ls e rec aims here p f g h
  line_stays l Nothing ls e rec aims here p f g h = other_stays l Nothing ls refl rec aims here p f g h
  line_stays l (Words vs) ls e rec aims here p f g h = other_stays l (Words vs) ls refl rec aims here p f g h
  line_stays l (Aligns size most) ls e rec aims here p f g h = other_stays l (Aligns size most) ls refl rec aims here p f g h
  line_stays l (Sets name address) ls e rec aims here p f g h = other_stays l (Sets name address) ls refl rec aims here p f g h

  all_stays : (ls : List ListingLine) → SteadyRec ls
  all_stays [] aims here p f g h = h
  all_stays (l ∷ ls) aims here p f g h = line_stays l l.statement ls refl (all_stays ls) aims here p f g h

-- the lines stay steady where the branch surely stays within reach
pub aimed_steady : (base : ℕ) (ls : List ListingLine) (aims : List (Option Name)) (p : ℕ) (i : Instr) (m : Option Mention) (to : Name) → slice_get (places_of ls) p ≡ Some (Op i m) → IsSteadyTo base ls p i to
    → IsSteady base (now_of [] aims ls) → IsSteady base (now_of [] (slice_set aims p (Some to)) ls)
aimed_steady base ls aims p i m to e r h =
    let here : Start = first base in
    let old : List ListingLine = now_of [] aims ls in
    let new : List ListingLine = now_of [] (slice_set aims p (Some to)) ls in
    let a = whole_alike ls aims in
    let b = whole_alike ls (slice_set aims p (Some to)) in
    let near : steady_aim base r.start i (labels_in base old to) (sets_in old to) 0 ≡ true =
    ap (λ (o : Option Start). steady_aim base r.start i o (sets_in old to) 0) (a.label to here)
    ∙ ap (λ (o : Option ℕ). steady_aim base r.start i (labels_in base ls to) (cleared o) 0) (a.sets to)
    ∙ r.steady in
    let end : (widest_end here new).at ≡ (widest_end here old).at = ap (λ (s : Start). s.at) (b.ending here ∙ sym (a.ending here)) in
    record {
      in_code = let k = h.in_code in omega arith;
      steady =
          all_same (labels_in base new) (labels_in base old) (sets_in new) (sets_in old) (λ name. b.label name here ∙ sym (a.label name here)) (λ name. ap cleared (b.sets name ∙ sym (a.sets name))) base here new
          ∙ all_stays (labels_in base old) (sets_in old) base to i m r.start near ls aims here p e r.begins h.steady;
    }

-- ---- instructions that are gone ----

abbrev nones : List Bool → List Bool
nones gs = replicate (length gs) false

-- places that are marked as kept are so without a mark
none_gone : (ls : List ListingLine) (k : ℕ) (aims : List (Option Name)) → now_of (replicate k false) aims ls ≡ now_of [] aims ls
none_gone [] k aims = refl
none_gone (l ∷ ls) k aims =
    let n : ℕ = length (places_in l.statement) in
    elim (is_op l.statement) as (λ b. (if b then line_now (is_gone (replicate k false) 0) (aim_at aims 0) l ++ now_of (drop 1 (replicate k false)) (drop 1 aims) ls else l ∷ now_of (drop n (replicate k false)) (drop n aims) ls) ≡ (if b then line_now false (aim_at aims 0) l ++ now_of [] (drop 1 aims) ls else l ∷ now_of (drop n []) (drop n aims) ls)) [
      | true ↦
          ap (λ (g : Bool). line_now g (aim_at aims 0) l ++ now_of (drop 1 (replicate k false)) (drop 1 aims) ls) (unmarked k 0)
          ∙ ap (λ (g : List Bool). line_now false (aim_at aims 0) l ++ now_of g (drop 1 aims) ls) (none_dropped 1 k)
          ∙ ap (λ (x : List ListingLine). line_now false (aim_at aims 0) l ++ x) (none_gone ls (k - 1) (drop 1 aims))
      | false ↦
          ap (λ (g : List Bool). (let x : List ListingLine = l ∷ now_of g (drop n aims) ls in x)) (none_dropped n k)
          ∙ ap (λ (x : List ListingLine). (let y : List ListingLine = l ∷ x in y)) (none_gone ls (k - n) (drop n aims))
          ∙ ap (λ (g : List Bool). (let x : List ListingLine = l ∷ now_of g (drop n aims) ls in x)) (sym (none_behind n))
    ]

set_behind : (front gs : List Bool) → slice_set (front ++ (false ∷ gs)) (length front) true ≡ front ++ (true ∷ gs)
set_behind [] gs = refl
set_behind (f ∷ fs) gs = ap (λ (x : List Bool). f ∷ x) (set_behind fs gs)

marked_behind : (front gs : List Bool) (g : Bool) → is_gone (front ++ (g ∷ gs)) (length front) ≡ g
marked_behind [] gs g = refl
marked_behind (f ∷ fs) gs g = marked_behind fs gs g

-- with fewer marks no other place is gone
fewer_gone : (front gs : List Bool) (q : ℕ) → is_gone (front ++ nones gs) q ≡ true → is_gone (front ++ gs) q ≡ true
fewer_gone [] gs q e = let no : true ≡ false = sym e ∙ unmarked (length gs) q in absurd (cc)
fewer_gone (f ∷ fs) gs zero e = e
fewer_gone (f ∷ fs) gs (suc q) e = fewer_gone fs gs q e

longer : (front : List Bool) (g : Bool) (gs : List Bool) → length front < length (front ++ (g ∷ gs))
longer [] g gs = omega arith
longer (f ∷ fs) g gs = let r = longer fs g gs in omega arith

module _ (base : ℕ) (ls : List ListingLine) (aims : List (Option Name)) where
  -- one instruction goes
  one_gone : (front gs : List Bool) → OpsGone (front ++ (true ∷ gs)) (places_of ls) → IsSteady base (now_of (front ++ (false ∷ nones gs)) aims ls) → IsSteady base (now_of (front ++ (true ∷ nones gs)) aims ls)
  one_gone front gs o h =
      let old : List Bool = front ++ (false ∷ nones gs) in
      let p : ℕ = length front in
      let lines : List ListingLine = now_of old aims ls in
      let ops : OpsGone old (places_of ls) = λ q e. o q (fewer_gone front (true ∷ gs) q e) in
      let kept : is_gone old p ≡ false = marked_behind front (nones gs) false in
      let op : is_op_place (slice_get (places_of ls) p) ≡ true = o p (marked_behind front gs true) in
      let stands : is_op_place (slice_get (places_of lines) (rank old p)) ≡ true = ap is_op_place (stands_at ls old aims p ops kept) ∙ same_op (slice_get (places_of ls) p) (aim_at aims p) ∙ op in
      let left : now_of (slice_set old p true) aims ls ≡ replaced_lines own_line (rank old p) 1 [] lines = lines_left own_line ls old aims p ops kept (longer front false (nones gs)) op in
      subst (IsSteady base) (sym left ∙ ap (λ (g : List Bool). now_of g aims ls) (set_behind front (nones gs)))
      (cut_stays base lines (replaced_lines own_line (rank old p) 1 [] lines) (cut_op own_line lines (rank old p) stands) h)

  all_gone : (gs front : List Bool) → OpsGone (front ++ gs) (places_of ls) → IsSteady base (now_of (front ++ nones gs) aims ls) → IsSteady base (now_of (front ++ gs) aims ls)
  all_gone [] front o h = h
  all_gone (g ∷ gs) front o h =
      let whole : (front ++ (g ∷ [])) ++ gs ≡ front ++ (g ∷ gs) = append_assoc front (g ∷ []) gs in
      let rest : (front ++ (g ∷ [])) ++ nones gs ≡ front ++ (g ∷ nones gs) = append_assoc front (g ∷ []) (nones gs) in
      subst (λ (x : List Bool). IsSteady base (now_of x aims ls)) whole
      (all_gone gs (front ++ (g ∷ [])) (subst (λ (x : List Bool). OpsGone x (places_of ls)) (sym whole) o) (subst (λ (x : List Bool). IsSteady base (now_of x aims ls)) (sym rest) (first_gone g gs front o h)))
    where
      first_gone : (g : Bool) (gs front : List Bool) → OpsGone (front ++ (g ∷ gs)) (places_of ls) → IsSteady base (now_of (front ++ (false ∷ nones gs)) aims ls) → IsSteady base (now_of (front ++ (g ∷ nones gs)) aims ls)
      first_gone true gs front o h = one_gone front gs o h
      first_gone false gs front o h = h

-- so the lines now are steady where those with none of the instructions gone are
pub now_steady : (base : ℕ) (d : Drafted) → IsDraft d → IsSteady base (now_of [] d.aims d.given) → IsSteady base (lines_now d)
now_steady base d h s = all_gone base d.given d.aims d.gone [] h.ops (subst (IsSteady base) (sym (none_gone d.given (length d.gone) d.aims)) s)
