-- The small listings of the definitions are tidied as it is said there: each change is the first that is possible, and in the end none is.
use Rattle.std.proofs.Common.{◌≡◌, ◌≢◌, ℕ, zero, suc, ◌+◌, ◌≤◌, ◌==◌, true, false, List, [], ◌∷◌, length, Option, Some, None, refl, sym, ap, ◌∙◌, subst, arith, eq-eqb}
use Rattle.std.specs.Prelude.{slice_get}
use Rattle.std.proofs.lemmas.Option.{same_Some}
use Rattle.thumb_instr.specs.declared.instr.Instr.{Instr}
use Rattle.thumb_instr.specs.declared.instr.Instr.TheVariants as instr
use Rattle.thumb_instr.specs.declared.distance.Distance.{Distance}
use Rattle.thumb_instr.specs.declared.within.General.{General}
use Rattle.thumb_instr.specs.declared.within.Within.{Within}
use Rattle.thumb_instr.specs.declared.operation.Condition.{Condition}
use Rattle.thumb_instr.specs.declared.operation.ByteOperation.TheVariants as byte
use Rattle.thumb_instr.specs.declared.operation.HintOperation.TheVariants as hint
use Rattle.thumb_instr.specs.Shape.{condition_uses, uses_of, writes_of}
use Rattle.thumb_model.specs.Listing.{Name, Mention, Op, ListingLine, Code, code_of, place_of, is_call_instr, IsPoint}
use Rattle.thumb_model.specs.States.{registers_left}
use Rattle.thumb_model.specs.Steps.{aim_of}
use Rattle.thumb_model.specs.Flow.{Way, way, Onward, AnyPoint, Out, jump_way, ways, Follows, Reached, point, along}
use Rattle.flow_tidy.specs.Tidying.{is_always, Hops, HopsBy, IsEnd, Cause, ToNext, ToEnd, Idle, is_branch, GoesToNext, GoesToEnd, IsIdle, HasCause, line_length, rank, IsFirst, AreTidied}
use Rattle.flow_tidy.specs.Worked.{roomy, labels, does, goes, change, a, c, e, f, crossing, crossed, next_branch, loop, idle_call, SmallListings}
use Rattle.flow_tidy.proofs.Whole.{change_keeps}

-- ---- where no change has a cause ----

-- two numbers that a test tells apart
off : (m n : ℕ) → (m == n) ≡ false → m ≡ n → ⊥
off m n t h = let same : (m == n) ≡ true = eq-eqb m n h in absurd (cc)

op_same : (i j : Instr) (m n : Option Mention) → Op i m ≡ Op j n → (i ≡ j) × (m ≡ n)
op_same i j m n h = (cc, cc)

-- an instruction at a place for which nothing can be done
record IsSettled (code : Code) (p : ℕ) : Type 0 where
  i : Instr
  mention : Option Mention
  stands : slice_get code.places p ≡ Some (Op i mention)
  no_next : is_branch i ≡ true → aim_of code mention ≡ Some (p + 1) → ⊥
  no_end : is_branch i ≡ true → (m : Mention) → mention ≡ Some m → (label : Name) → IsEnd code m.name label → ⊥
  no_idle : is_call_instr i ≡ false → Reached code p

here_same : (code : Code) (p : ℕ) (s : IsSettled code p) (i : Instr) (m : Option Mention) → slice_get code.places p ≡ Some (Op i m) → (i ≡ s.i) × (m ≡ s.mention)
here_same code p s i m h = op_same i s.i m s.mention (same_Some _ _ (sym h ∙ s.stands))

settled : (code : Code) (p : ℕ) → IsSettled code p → (cause : Cause) → HasCause code p cause → ⊥
settled code p s ToNext h =
    let same = here_same code p s h.i h.mention h.stands in
    s.no_next (ap is_branch (sym same.0) ∙ h.branch) (ap (aim_of code) (sym same.1) ∙ h.next)
settled code p s (ToEnd label) h =
    let same = here_same code p s h.i (Some h.mention) h.stands in
    s.no_end (ap is_branch (sym same.0) ∙ h.branch) h.mention (sym same.1) label h.end
settled code p s Idle h =
    let same = here_same code p s h.i h.mention h.stands in
    h.unreached (s.no_idle (ap is_call_instr (sym same.0) ∙ h.no_call))

-- past the end there is nothing
nothing : (code : Code) (p : ℕ) → slice_get code.places p ≡ None → (cause : Cause) → HasCause code p cause → ⊥
nothing code p n ToNext h = absurd (let g = h.stands in cc)
nothing code p n (ToEnd label) h = absurd (let g = h.stands in cc)
nothing code p n Idle h = absurd (let g = h.stands in cc)

-- one that is no branch, and is reached
plain_settled : (code : Code) (p : ℕ) (i : Instr) (mention : Option Mention) → slice_get code.places p ≡ Some (Op i mention) → is_branch i ≡ false → Reached code p → IsSettled code p
plain_settled code p i mention h b r = record {
  i = i;
  mention = mention;
  stands = h;
  no_next = λ t n. absurd (cc);
  no_end = λ t m n label d. absurd (cc);
  no_idle = λ t. r;
}

-- a call
call_settled : (code : Code) (p : ℕ) (i : Instr) (mention : Option Mention) → slice_get code.places p ≡ Some (Op i mention) → is_branch i ≡ false → is_call_instr i ≡ true → IsSettled code p
call_settled code p i mention h b k = record {
  i = i;
  mention = mention;
  stands = h;
  no_next = λ t n. absurd (cc);
  no_end = λ t m n label d. absurd (cc);
  no_idle = λ t. absurd (cc);
}

-- where no hop leads on there is no end
no_hop : (code : Code) (name : Name) (q : ℕ) (i : Instr) (mention : Option Mention) → place_of code name ≡ Some q → slice_get code.places q ≡ Some (Op i mention) → is_always i ≡ false → (next : Name) → Hops code name next → ⊥
no_hop code name q i mention g h b next k =
    let place : k.place ≡ q = same_Some _ _ (sym k.labelled ∙ g) in
    let same = op_same k.i i (Some k.mention) mention (same_Some _ _ (sym k.stands ∙ ap (slice_get code.places) place ∙ h)) in
    let yes : is_always i ≡ true = ap is_always (sym same.0) ∙ k.always in
    absurd (cc)

no_chain : (code : Code) (name : Name) → ((next : Name) → Hops code name next → ⊥) → (label : Name) → IsEnd code name label → ⊥
no_chain code name h label d = let l : (via : Name) × Hops code name via × HopsBy code d.more via label = d.leads in h l.0 l.1

name_of : (m n : Mention) → (let o : Option Mention = Some m in o) ≡ Some n → m.name ≡ n.name
name_of m n h = ap (λ (x : Mention). x.name) (same_Some m n h)

-- a branch to a label further on, from which no hop leads on
branch_settled : (code : Code) (p q : ℕ) (i : Instr) (m : Mention) → slice_get code.places p ≡ Some (Op i (Some m)) → Reached code p → place_of code m.name ≡ Some q → q ≢ p + 1 → ((label : Name) → IsEnd code m.name label → ⊥) → IsSettled code p
branch_settled code p q i m h r g ne d = record {
  i = i;
  mention = Some m;
  stands = h;
  no_next = λ t n. ne (same_Some q (p + 1) (sym g ∙ n));
  no_end = λ t n same label k. d label (subst (λ (x : Name). IsEnd code x label) (sym (name_of m n same)) k);
  no_idle = λ t. r;
}

-- ---- a change that comes first ----

-- no line has bytes
abbrev AreBare : List ListingLine → Type 0
AreBare [] = Unit {0}
AreBare (l ∷ ls) = (l.text ≡ []) × AreBare ls

bare_short : (ls : List ListingLine) (k : ℕ) (l : ListingLine) → AreBare ls → slice_get ls k ≡ Some l → line_length l.text ≤ 100
bare_short [] k l b h = absurd (cc)
bare_short (x ∷ ls) zero l b h =
    let z : line_length l.text ≡ 0 = ap (λ (y : ListingLine). line_length y.text) (sym (same_Some x l h)) ∙ ap line_length b.0 in
    omega arith
bare_short (x ∷ ls) (suc k) l b h = bare_short ls k l b.1 h

-- ---- the listings ----

module _ (far : Distance 1024) where
  abbrev loop_code : Code
  loop_code = code_of (loop far)

  loop_only : (via : Name) → Hops loop_code a via → via ≡ a
  loop_only via h =
      let place : h.place ≡ 0 = same_Some h.place 0 (sym h.labelled) in
      let same = op_same h.i (instr.Branch far) (Some h.mention) (Some (record { name = a; plus = 0 })) (same_Some _ _ (sym h.stands ∙ ap (slice_get loop_code.places) place)) in
      sym h.named ∙ name_of h.mention (record { name = a; plus = 0 }) same.1

  loop_by : (n : ℕ) (from to : Name) → from ≡ a → HopsBy loop_code n from to → to ≡ a
  loop_by zero from to g h = sym h ∙ g
  loop_by (suc n) from to g h = loop_by n h.0 to (loop_only h.0 (subst (λ (x : Name). Hops loop_code x h.0) g h.1)) h.2

  loop_hop : Hops loop_code a a
  loop_hop = record { place = 0; i = instr.Branch far; mention = record { name = a; plus = 0 }; labelled = refl; stands = refl; always = refl; named = refl; code_label = refl }

  loop_endless : (label : Name) → IsEnd loop_code a label → ⊥
  loop_endless label d = d.stops a (subst (λ (x : Name). Hops loop_code x a) (sym (loop_by (suc d.more) a label refl d.leads)) loop_hop)

  loop_settled : IsSettled loop_code 0
  loop_settled = branch_settled loop_code 0 0 (instr.Branch far) (record { name = a; plus = 0 }) refl (point 0 refl) refl (λ h. absurd (omega arith)) loop_endless

  loop_none : (p : ℕ) (cause : Cause) → HasCause loop_code p cause → ⊥
  loop_none zero cause h = settled loop_code 0 loop_settled cause h
  loop_none (suc p) cause h = nothing loop_code (suc p) refl cause h

  pub loop_tidied : AreTidied roomy (loop far) [] (loop far)
  loop_tidied = (λ o h. loop_none o.place o.cause h.cause, refl)

module _ (farthest : Distance 8388608) (lr : General) where
  abbrev call_code : Code
  call_code = code_of (idle_call farthest lr)

  call_none : (p : ℕ) (cause : Cause) → HasCause call_code p cause → ⊥
  call_none zero cause h = settled call_code 0 (plain_settled call_code 0 (instr.Bx lr) None refl refl (point 0 refl)) cause h
  call_none (suc zero) cause h = settled call_code 1 (call_settled call_code 1 (instr.Call farthest) (Some (record { name = f; plus = 0 })) refl refl refl) cause h
  call_none (suc (suc zero)) cause h = settled call_code 2 (plain_settled call_code 2 (instr.Bx lr) None refl refl (point 2 refl)) cause h
  call_none (suc (suc (suc p))) cause h = nothing call_code (suc (suc (suc p))) refl cause h

  pub call_tidied : AreTidied roomy (idle_call farthest lr) [] (idle_call farthest lr)
  call_tidied = (λ o h. call_none o.place o.cause h.cause, refl)

module _ (far : Distance 1024) (lr : General) where
  abbrev next_code : Code
  next_code = code_of (next_branch far lr)

  abbrev left : List ListingLine
  left = labels a ∷ labels c ∷ does (instr.Bx lr) ∷ []

  abbrev left_code : Code
  left_code = code_of left

  left_none : (p : ℕ) (cause : Cause) → HasCause left_code p cause → ⊥
  left_none zero cause h = settled left_code 0 (plain_settled left_code 0 (instr.Bx lr) None refl refl (point 0 refl)) cause h
  left_none (suc p) cause h = nothing left_code (suc p) refl cause h

  next_cause : GoesToNext next_code 0
  next_cause = record { i = instr.Branch far; mention = Some (record { name = c; plus = 0 }); stands = refl; branch = refl; next = refl }

  pub next_tidied : AreTidied roomy (next_branch far lr) (change 0 ToNext ∷ []) left
  next_tidied = (
    record {
      possible = record {
        cause = next_cause;
        labels_stay = (change_keeps roomy (change 0 ToNext) (next_branch far lr) next_cause).entry;
        layable = refl;
        few = omega arith;
        short = λ k l h. bare_short left k l (refl, (refl, (refl, tt))) h;
      };
      least_place = λ o h. omega arith;
      soonest = λ o h s. omega arith;
    },
    (λ o h. left_none o.place o.cause h.cause, refl),
  )

module _ (k : Condition) (near : Distance 128) (far : Distance 1024) (d : Within 0 8) (n : Within 0 256) (lr : General) where
  abbrev first_code : Code
  first_code = code_of (crossing k near far d n lr)

  abbrev move : Instr
  move = instr.TwoNumber byte.Mov d n

  -- after the first change
  abbrev middle : List ListingLine
  middle =
      labels f
      ∷ goes (instr.BranchIf k near) c
      ∷ does move
      ∷ goes (instr.Branch far) e
      ∷ does (instr.Hint hint.Nop)
      ∷ labels a
      ∷ goes (instr.Branch far) c
      ∷ labels e
      ∷ does (instr.Bx lr)
      ∷ labels c
      ∷ does (instr.Bx lr)
      ∷ []

  abbrev middle_code : Code
  middle_code = code_of middle

  abbrev last_code : Code
  last_code = code_of (crossed k near far d n lr)

  abbrev to : Name → Mention
  to name = record { name = name; plus = 0 }

  -- ---- the first change ----

  first_hop : Hops first_code a c
  first_hop = record { place = 4; i = instr.Branch far; mention = to c; labelled = refl; stands = refl; always = refl; named = refl; code_label = refl }

  first_cause : GoesToEnd first_code 0 c
  first_cause = record {
    i = instr.BranchIf k near;
    mention = to a;
    stands = refl;
    branch = refl;
    end = record { more = 0; leads = (c, first_hop, refl); stops = no_hop first_code c 6 (instr.Bx lr) None refl refl refl };
  }

  no_next_first : GoesToNext first_code 0 → ⊥
  no_next_first g =
      let same = op_same g.i (instr.BranchIf k near) g.mention (Some (to a)) (same_Some _ _ (sym g.stands)) in
      off 4 1 refl (same_Some 4 1 (ap (aim_of first_code) (sym same.1) ∙ g.next))

  soonest_first : (p : ℕ) (cause : Cause) → HasCause first_code p cause → p ≡ 0 → 1 ≤ rank cause
  soonest_first p ToNext h same = absurd (no_next_first (subst (GoesToNext first_code) same h))
  soonest_first p (ToEnd label) h same = omega arith
  soonest_first p Idle h same = omega arith

  first_is : IsFirst roomy (change 0 (ToEnd c)) (crossing k near far d n lr)
  first_is = record {
    possible = record {
      cause = first_cause;
      labels_stay = (change_keeps roomy (change 0 (ToEnd c)) (crossing k near far d n lr) first_cause).entry;
      layable = refl;
      few = let few : length middle ≤ 100 = omega arith in few;
      short = λ j l h. bare_short middle j l (refl, (refl, (refl, (refl, (refl, (refl, (refl, (refl, (refl, (refl, (refl, tt))))))))))) h;
    };
    least_place = λ o h. omega arith;
    soonest = λ o h s. soonest_first o.place o.cause h.cause s;
  }

  -- ---- the second change ----

  middle_one : Reached middle_code 1
  middle_one = along 0 1 (way (condition_uses k) [] Onward) 1 (point 0 refl) refl refl

  middle_two : Reached middle_code 2
  middle_two = along 1 0 (way (uses_of move) (writes_of move) Onward) 2 middle_one refl refl

  leads_elsewhere : (r j : ℕ) (w : Way) → slice_get (ways middle_code r) j ≡ Some w → Follows middle_code r w.leads 3 → (r ≡ 3 → ⊥) → ⊥
  leads_elsewhere zero zero w x y z = off 3 6 refl (subst (λ (u : Way). Follows middle_code 0 u.leads 3) (sym (same_Some (jump_way (condition_uses k) (Some 6)) w x)) y)
  leads_elsewhere zero (suc zero) w x y z = off 3 1 refl (subst (λ (u : Way). Follows middle_code 0 u.leads 3) (sym (same_Some (way (condition_uses k) [] Onward) w x)) y)
  leads_elsewhere zero (suc (suc j)) w x y z = absurd (cc)
  leads_elsewhere (suc zero) zero w x y z = off 3 2 refl (subst (λ (u : Way). Follows middle_code 1 u.leads 3) (sym (same_Some (way (uses_of move) (writes_of move) Onward) w x)) y)
  leads_elsewhere (suc zero) (suc j) w x y z = absurd (cc)
  leads_elsewhere (suc (suc zero)) zero w x y z = off 3 5 refl (subst (λ (u : Way). Follows middle_code 2 u.leads 3) (sym (same_Some (jump_way [] (Some 5)) w x)) y)
  leads_elsewhere (suc (suc zero)) (suc j) w x y z = absurd (cc)
  leads_elsewhere (suc (suc (suc zero))) j w x y z = absurd (z refl)
  leads_elsewhere (suc (suc (suc (suc zero)))) zero w x y z = off 3 6 refl (subst (λ (u : Way). Follows middle_code 4 u.leads 3) (sym (same_Some (jump_way [] (Some 6)) w x)) y)
  leads_elsewhere (suc (suc (suc (suc zero)))) (suc j) w x y z = absurd (cc)
  leads_elsewhere (suc (suc (suc (suc (suc zero))))) zero w x y z = let g : IsPoint middle_code 3 = subst (λ (u : Way). Follows middle_code 5 u.leads 3) (sym (same_Some (way (lr.number ∷ []) [] AnyPoint) w x)) y in absurd (cc)
  leads_elsewhere (suc (suc (suc (suc (suc zero))))) (suc zero) w x y z = subst (λ (u : Way). Follows middle_code 5 u.leads 3) (sym (same_Some (way (lr.number ∷ registers_left) [] Out) w x)) y
  leads_elsewhere (suc (suc (suc (suc (suc zero))))) (suc (suc j)) w x y z = absurd (cc)
  leads_elsewhere (suc (suc (suc (suc (suc (suc zero)))))) zero w x y z = let g : IsPoint middle_code 3 = subst (λ (u : Way). Follows middle_code 6 u.leads 3) (sym (same_Some (way (lr.number ∷ []) [] AnyPoint) w x)) y in absurd (cc)
  leads_elsewhere (suc (suc (suc (suc (suc (suc zero)))))) (suc zero) w x y z = subst (λ (u : Way). Follows middle_code 6 u.leads 3) (sym (same_Some (way (lr.number ∷ registers_left) [] Out) w x)) y
  leads_elsewhere (suc (suc (suc (suc (suc (suc zero)))))) (suc (suc j)) w x y z = absurd (cc)
  leads_elsewhere (suc (suc (suc (suc (suc (suc (suc r))))))) j w x y z = absurd (cc)

  not_three : (q : ℕ) → Reached middle_code q → q ≡ 3 → ⊥
  not_three _ (point q h) same = let g : IsPoint middle_code 3 = subst (IsPoint middle_code) same h in absurd (cc)
  not_three _ (along r j w q h x y) same = leads_elsewhere r j w x (subst (Follows middle_code r w.leads) same y) (λ z. not_three r h z)

  second_cause : IsIdle middle_code 3
  second_cause = record { i = instr.Hint hint.Nop; mention = None; stands = refl; no_call = refl; unreached = λ h. not_three 3 h refl }

  middle_none : (p : ℕ) (cause : Cause) → HasCause middle_code p cause → 3 ≤ p
  middle_none zero cause h =
      absurd (settled middle_code 0 (branch_settled middle_code 0 6 (instr.BranchIf k near) (to c) refl (point 0 refl) refl (λ x. absurd (omega arith)) (no_chain middle_code c (no_hop middle_code c 6 (instr.Bx lr) None refl refl refl))) cause h)
  middle_none (suc zero) cause h = absurd (settled middle_code 1 (plain_settled middle_code 1 move None refl refl middle_one) cause h)
  middle_none (suc (suc zero)) cause h =
      absurd (settled middle_code 2 (branch_settled middle_code 2 5 (instr.Branch far) (to e) refl middle_two refl (λ x. absurd (omega arith)) (no_chain middle_code e (no_hop middle_code e 5 (instr.Bx lr) None refl refl refl))) cause h)
  middle_none (suc (suc (suc p))) cause h = omega arith

  -- the instruction there is no branch
  idle_only : (cause : Cause) → HasCause middle_code 3 cause → 2 ≤ rank cause
  idle_only ToNext h =
      let same = op_same h.i (instr.Hint hint.Nop) h.mention None (same_Some _ _ (sym h.stands)) in
      let no : false ≡ true = ap is_branch (sym same.0) ∙ h.branch in
      absurd (cc)
  idle_only (ToEnd label) h =
      let same = op_same h.i (instr.Hint hint.Nop) (Some h.mention) None (same_Some _ _ (sym h.stands)) in
      let no : false ≡ true = ap is_branch (sym same.0) ∙ h.branch in
      absurd (cc)
  idle_only Idle h = omega arith

  second_is : IsFirst roomy (change 3 Idle) middle
  second_is = record {
    possible = record {
      cause = second_cause;
      labels_stay = (change_keeps roomy (change 3 Idle) middle second_cause).entry;
      layable = refl;
      few = let few : length (crossed k near far d n lr) ≤ 100 = omega arith in few;
      short = λ j l h. bare_short (crossed k near far d n lr) j l (refl, (refl, (refl, (refl, (refl, (refl, (refl, (refl, (refl, (refl, tt)))))))))) h;
    };
    least_place = λ o h. middle_none o.place o.cause h.cause;
    soonest = λ o h s. idle_only o.cause (subst (λ p. HasCause middle_code p o.cause) s h.cause);
  }

  -- ---- no third ----

  last_one : Reached last_code 1
  last_one = along 0 1 (way (condition_uses k) [] Onward) 1 (point 0 refl) refl refl

  last_two : Reached last_code 2
  last_two = along 1 0 (way (uses_of move) (writes_of move) Onward) 2 last_one refl refl

  no_chain_at_c : (label : Name) → IsEnd last_code c label → ⊥
  no_chain_at_c = no_chain last_code c (no_hop last_code c 5 (instr.Bx lr) None refl refl refl)

  last_none : (p : ℕ) (cause : Cause) → HasCause last_code p cause → ⊥
  last_none zero cause h = settled last_code 0 (branch_settled last_code 0 5 (instr.BranchIf k near) (to c) refl (point 0 refl) refl (λ x. absurd (omega arith)) no_chain_at_c) cause h
  last_none (suc zero) cause h = settled last_code 1 (plain_settled last_code 1 move None refl refl last_one) cause h
  last_none (suc (suc zero)) cause h =
      settled last_code 2 (branch_settled last_code 2 4 (instr.Branch far) (to e) refl last_two refl (λ x. absurd (omega arith)) (no_chain last_code e (no_hop last_code e 4 (instr.Bx lr) None refl refl refl))) cause h
  last_none (suc (suc (suc zero))) cause h = settled last_code 3 (branch_settled last_code 3 5 (instr.Branch far) (to c) refl (point 3 refl) refl (λ x. absurd (omega arith)) no_chain_at_c) cause h
  last_none (suc (suc (suc (suc zero)))) cause h = settled last_code 4 (plain_settled last_code 4 (instr.Bx lr) None refl refl (point 4 refl)) cause h
  last_none (suc (suc (suc (suc (suc zero))))) cause h = settled last_code 5 (plain_settled last_code 5 (instr.Bx lr) None refl refl (point 5 refl)) cause h
  last_none (suc (suc (suc (suc (suc (suc p)))))) cause h = nothing last_code (suc (suc (suc (suc (suc (suc p)))))) refl cause h

  pub crossing_tidied : AreTidied roomy (crossing k near far d n lr) (change 0 (ToEnd c) ∷ change 3 Idle ∷ []) (crossed k near far d n lr)
  crossing_tidied = (first_is, (second_is, (λ o h. last_none o.place o.cause h.cause, refl)))

pub small_listings : SmallListings
small_listings = record {
  crosses = crossing_tidied;
  goes_on = next_tidied;
  stays = loop_tidied;
  calls = call_tidied;
}
