-- Branches to the next place and instructions that nothing reaches may be removed, from a listing's lines too.
use Rattle.std.proofs.Common.{◌≡◌, ◌≢◌, ◌↔◌, ℕ, zero, suc, ◌+◌, ◌≤◌, ◌&&◌, true, false, List, [], ◌∷◌, ◌++◌, drop, Option, Some, None, refl, sym, ap, ◌∙◌, subst, ◌⊎◌, inl, inr, arith, eq-eqb, if◌then◌else◌}
use Rattle.std.specs.Prelude.{slice_get}
use Rattle.std.specs.Str.{bytes_eq}
use Rattle.std.proofs.lemmas.Bool.{cases_lt}
use Rattle.std.proofs.lemmas.Option.{same_Some}
use Rattle.thumb_instr.specs.declared.instr.Instr.{Instr}
use Rattle.thumb_instr.specs.declared.instr.Instr.TheVariants as instr
use Rattle.thumb_instr.specs.Shape.{condition_uses}
use Rattle.thumb_model.specs.Effect.{one_of}
use Rattle.thumb_model.specs.Listing.{Name, Mention, Place, Op, Word, Label, ListingLine, Code, code_of, places_of, labels_from, is_code, is_op_place, is_call_instr, place_among, label_places, return_places, IsPoint}
use Rattle.thumb_model.specs.Naming.{Naming}
use Rattle.thumb_model.specs.States.{World, Target, Inside, Event, Here, puts, On}
use Rattle.thumb_model.specs.Acts.{holds, jumps}
use Rattle.thumb_model.specs.Steps.{target_at, does, step_on, aim_of}
use Rattle.thumb_model.specs.Flow.{Way, way, Onward, jump_way, ways_on, ways_of, Follows, Reached, point}
use Rattle.thumb_model.specs.Replaced.{moved, replaced}
use Rattle.thumb_model.specs.Cuts.{AreOps}
use Rattle.thumb_model.proofs.Lists.{get_drop}
use Rattle.thumb_model.proofs.Moved.{one_of_back}
use Rattle.thumb_model.proofs.LinesReplaced.{code_replaced}
use Rattle.thumb_model.proofs.LinesReplaced.{outside_of}
use Rattle.thumb_model.proofs.Follow.{Keeps, state}
use Rattle.flow_tidy.specs.Tidying.{Setting, is_branch, GoesToNext, IsIdle, lines_without}
use Rattle.flow_tidy.proofs.Ways.{one_of_first, aim_is_point}
use Rattle.flow_tidy.proofs.Going.{MayGo, reached_forth, reached_back}
use Rattle.flow_tidy.proofs.GoneRuns.{DoesNothing, gone_keeps}

-- ---- labels ----

-- at a code label an instruction stands
label_is_op : (name : Name) (places : List Place) (ls : List Label) (q : ℕ) → place_among name places ls ≡ Some q → is_op_place (slice_get places q) ≡ true
label_is_op name places [] q e = absurd (cc)
label_is_op name places (l ∷ ls) q e =
    elim (is_code places l) as (λ c. is_code places l ≡ c → (if bytes_eq name l.name && c then Some l.place else place_among name places ls) ≡ Some q → is_op_place (slice_get places q) ≡ true) [
      | true ↦ λ t f. elim (bytes_eq name l.name) as (λ b. (if b && true then Some l.place else place_among name places ls) ≡ Some q → is_op_place (slice_get places q) ≡ true) [
        | true ↦ λ g. subst (λ x. is_op_place (slice_get places x) ≡ true) (same_Some l.place q g) t
        | false ↦ λ g. label_is_op name places ls q g
      ] f
      | false ↦ λ t f. elim (bytes_eq name l.name) as (λ b. (if b && false then Some l.place else place_among name places ls) ≡ Some q → is_op_place (slice_get places q) ≡ true) [
        | true ↦ λ g. label_is_op name places ls q g
        | false ↦ λ g. label_is_op name places ls q g
      ] f
    ] refl e

aim_is_op : (code : Code) (mention : Option Mention) (q : ℕ) → aim_of code mention ≡ Some q → is_op_place (slice_get code.places q) ≡ true
aim_is_op code None q e = absurd (cc)
aim_is_op code (Some n) q e = label_is_op n.name code.places code.labels q e

-- a label that is code is a point
code_is_point : (places : List Place) (ls : List Label) (k : ℕ) (l : Label) → slice_get ls k ≡ Some l → is_code places l ≡ true → one_of l.place (label_places places ls) ≡ true
code_is_point places [] k l e h = absurd (cc)
code_is_point places (x ∷ ls) zero l e h =
    let same : x ≡ l = same_Some x l e in
    let here : is_code places x ≡ true = ap (is_code places) same ∙ h in
    let place : x.place ≡ l.place = ap (λ (y : Label). y.place) same in
    rw here (eq_first l.place x.place (label_places places ls) (sym place))
  where
    eq_first : (a b : ℕ) (xs : List ℕ) → a ≡ b → one_of a (b ∷ xs) ≡ true
    eq_first a b xs f = one_of_first a (b ∷ []) xs (one_alone a b f)
      where
        one_alone : (a b : ℕ) → a ≡ b → one_of a (b ∷ []) ≡ true
        one_alone a b f = rw (eq-eqb a b f) refl
code_is_point places (x ∷ ls) (suc k) l e h =
    elim (is_code places x) as (λ b. one_of l.place (if b then x.place ∷ label_places places ls else label_places places ls) ≡ true) [
      | true ↦ one_of_back l.place (x.place ∷ []) (label_places places ls) (code_is_point places ls k l e h)
      | false ↦ code_is_point places ls k l e h
    ]

-- ---- a branch to the next place ----

-- a row: all ways of such a branch lead to where it aims
all_lead : (p k : ℕ) (code : Code) (i : Instr) (w : Way) (q : ℕ) → is_branch i ≡ true → slice_get (ways_of (Some (p + 1)) i) k ≡ Some w → Follows code p w.leads q → q ≡ p + 1
all_lead p zero code (instr.BranchIf c d) w q b e f = subst (λ (u : Way). Follows code p u.leads q) (sym (same_Some (jump_way (condition_uses c) (Some (p + 1))) w e)) f
all_lead p (suc zero) code (instr.BranchIf c d) w q b e f = subst (λ (u : Way). Follows code p u.leads q) (sym (same_Some (way (condition_uses c) [] Onward) w e)) f
all_lead p (suc (suc k)) code (instr.BranchIf c d) w q b e f = absurd (cc)
all_lead p zero code (instr.Branch d) w q b e f = subst (λ (u : Way). Follows code p u.leads q) (sym (same_Some (jump_way [] (Some (p + 1))) w e)) f
all_lead p (suc k) code (instr.Branch d) w q b e f = absurd (cc)
all_lead p k code i w q b e f = absurd (cc)

no_branch_calls : (i : Instr) → is_branch i ≡ true → is_call_instr i ≡ false
no_branch_calls (instr.BranchIf c d) b = refl
no_branch_calls (instr.Branch d) b = refl
no_branch_calls i b = absurd (cc)

pub next_may_go : (code : Code) (p : ℕ) → GoesToNext code p → MayGo code p
next_may_go code p g = record {
  i = g.i;
  mention = g.mention;
  stands = g.stands;
  no_call = no_branch_calls g.i g.branch;
  labelled = λ k l e same. aim_is_op code g.mention (p + 1) g.next;
  passes = λ h k w q e f.
      let e' : slice_get (ways_on code (Some (Op g.i g.mention))) k ≡ Some w = ap (λ (o : Option Place). slice_get (ways_on code o) k) (sym g.stands) ∙ e in
      all_lead p k code g.i w q g.branch (ap (λ (o : Option ℕ). slice_get (ways_of o g.i) k) (sym g.next) ∙ e') f;
  next = λ h. point (p + 1) (aim_is_point code g.mention (p + 1) g.next);
}

pub append_nothing : (xs : List Event) → xs ++ [] ≡ xs
append_nothing [] = refl
append_nothing (x ∷ xs) = ap (λ l. x ∷ l) (append_nothing xs)

pub same_events : (w : World) (q : ℕ) (es fs : List Event) → es ≡ fs → state w (Here q) es ≡ state w (Here q) fs
same_events w q es fs e = ap (state w (Here q)) e

-- a row: such a branch does nothing but go there
branch_step : (names : Naming) (code : Code) (p q : ℕ) (i : Instr) (mention : Option Mention) (w : World) (es : List Event) → is_branch i ≡ true → aim_of code mention ≡ Some q → q ≡ p + 1 → step_on names code p (Some (Op i mention)) (state w (Here p) es) ≡ state w (Here (p + 1)) es
branch_step names code p q (instr.BranchIf c d) mention w es b e s =
    let aim : target_at names mention (aim_of code mention) ≡ Inside (p + 1) = ap (target_at names mention) e ∙ ap Inside s in
    ap (λ (t : Target). does p (p + 1) (if holds c w.values then jumps t w else puts [] On w) (state w (Here p) es)) aim
    ∙ elim (holds c w.values) as (λ h. does p (p + 1) (if h then jumps (Inside (p + 1)) w else puts [] On w) (state w (Here p) es) ≡ state w (Here (p + 1)) es) [
      | true ↦ same_events w (p + 1) _ _ (append_nothing es)
      | false ↦ same_events w (p + 1) _ _ (append_nothing es)
    ]
branch_step names code p q (instr.Branch d) mention w es b e s =
    let aim : target_at names mention (aim_of code mention) ≡ Inside (p + 1) = ap (target_at names mention) e ∙ ap Inside s in
    ap (λ (t : Target). does p (p + 1) (jumps t w) (state w (Here p) es)) aim ∙ same_events w (p + 1) _ _ (append_nothing es)
branch_step names code p q i mention w es b e s = absurd (cc)

pub next_does_nothing : (code : Code) (p : ℕ) → GoesToNext code p → DoesNothing code p
next_does_nothing code p g h names w es =
    ap (λ (o : Option Place). step_on names code p o (state w (Here p) es)) g.stands ∙ branch_step names code p (p + 1) g.i g.mention w es g.branch g.next refl

-- ---- what nothing reaches ----

pub idle_may_go : (code : Code) (p : ℕ) → IsIdle code p → MayGo code p
idle_may_go code p g = record {
  i = g.i;
  mention = g.mention;
  stands = g.stands;
  no_call = g.no_call;
  labelled = λ k l e same.
      let op : is_code code.places l ≡ true = ap (λ q. is_op_place (slice_get code.places q)) same ∙ ap is_op_place g.stands in
      let listed : one_of l.place (label_places code.places code.labels) ≡ true = code_is_point code.places code.labels k l e op in
      absurd (g.unreached (point p (subst (IsPoint code) same (one_of_first l.place _ (return_places 0 code.places) listed))));
  passes = λ h k w q e f. absurd (g.unreached h);
  next = λ h. absurd (g.unreached h);
}

pub idle_does_nothing : (code : Code) (p : ℕ) → IsIdle code p → DoesNothing code p
idle_does_nothing code p g h names w es = absurd (g.unreached h)

-- ---- lines ----

ops_at : (ps : List Place) (i : Instr) (mention : Option Mention) → slice_get ps 0 ≡ Some (Op i mention) → AreOps 1 ps
ops_at [] i mention e = absurd (cc)
ops_at (Op j n ∷ ps) i mention e = tt
ops_at (Word v ∷ ps) i mention e = absurd (cc)

outside_one : (p q : ℕ) → (q ≤ p) ⊎ (p + 1 ≤ q)
outside_one p q = elim (cases_lt p q) [ inl h ↦ inr (omega arith) | inr h ↦ inl h ]

-- the code of the lines without an instruction
pub code_without : (s : Setting) (p : ℕ) (ls : List ListingLine) (i : Instr) (mention : Option Mention) → slice_get (places_of ls) p ≡ Some (Op i mention) → code_of (lines_without s p ls) ≡ replaced (code_of ls) p 1 []
code_without s p ls i mention e =
    code_replaced (λ i. s.write i None) p 0 [] ls (omega arith) (ops_at (drop p (places_of ls)) i mention (get_drop p (places_of ls) 0 p (omega arith) ∙ e)) (outside_of p 1 (labels_from 0 ls) (λ k l f. outside_one p l.place))

pub lines_without_keep : (s : Setting) (p : ℕ) (ls : List ListingLine) → MayGo (code_of ls) p → DoesNothing (code_of ls) p → Keeps (code_of ls) (code_of (lines_without s p ls))
lines_without_keep s p ls m nothing = subst (Keeps (code_of ls)) (sym (code_without s p ls m.i m.mention m.stands)) (gone_keeps (code_of ls) p m nothing)

-- what is reached stays so, and nothing else comes to be
pub reached_without : (s : Setting) (p : ℕ) (ls : List ListingLine) → MayGo (code_of ls) p → (q : ℕ) → q ≢ p → Reached (code_of ls) q ↔ Reached (code_of (lines_without s p ls)) (moved p 1 q)
reached_without s p ls m q ne =
    subst (λ (c : Code). Reached (code_of ls) q ↔ Reached c (moved p 1 q)) (sym (code_without s p ls m.i m.mention m.stands))
    (reached_forth (code_of ls) p m q, λ h. reached_back (code_of ls) p m (moved p 1 q) h q refl ne)
