use Rattle.std.proofs.Common.{◌≡◌, ℕ, ◌++◌, List, length, take, drop, sym, subst, ◌∙◌, ap, Option, Some, None, arith}
use Rattle.std.specs.Prelude.{All, Contains, slice_get}
use Rattle.std.proofs.lemmas.List.{take_at}
use Rattle.clause_arena.specs.Contents.{Content}
use Rattle.clause_arena.specs.Compaction.{IsLive, IsCompacted}
use Rattle.cdcl_core.specs.Implied.{clauses_of}
use Rattle.cdcl_core.specs.Held.{Covers}
use Rattle.cdcl_core.specs.Dropped.{Remains, AreDropped, IsRenamed}
use Rattle.cdcl_core.specs.Searched.{IsBase}
use Rattle.cdcl_core.proofs.Adopted.{base_here}
use Rattle.cdcl_core.proofs.Moved.{kept_live, kept_reasons, base_moved, covers_moved, dropped_moved}
use Rattle.cdcl_core.proofs.solver.Solver.drop_true.Goals as goal

-- what holds after clauses were dropped, stated for the vectors instead of the slices
dropped_base : (content later : Content) (refs shown : List ℕ) (reasons shown_reasons : List (Option ℕ)) (trail : List ℕ) → shown ≡ refs → shown_reasons ≡ reasons
    → IsBase (clauses_of content) (length content.chains) later shown shown_reasons trail None → IsBase (clauses_of later) (length content.chains) later refs reasons trail None
dropped_base content later refs shown reasons shown_reasons trail e f b = rw (← e, ← f) (base_here b)

chosen : (content : Content) (refs ids shown shown_ids kept names : List ℕ) → shown ≡ refs → shown_ids ≡ ids → Remains content shown shown_ids (length shown) kept names → Remains content refs ids (length refs) kept names
chosen content refs ids shown shown_ids kept names e f h = rw (← e, ← f) h

named : (kept moved held shown_kept shown_moved : List ℕ) (reasons shown_reasons renamed : List (Option ℕ)) → shown_kept ≡ kept → shown_moved ≡ moved → moved ≡ held → shown_reasons ≡ reasons
    → IsRenamed shown_kept shown_moved shown_reasons (length shown_reasons) renamed → IsRenamed kept held reasons (length reasons) renamed
named kept moved held shown_kept shown_moved reasons shown_reasons renamed e f m g h = rw (← e, ← m, ← f, ← g) h

pub drop_spare-requires : goal.drop_spare-requires
drop_spare-requires c = rw (c.deref.ensures.value, c.deref-2.ensures.value) record { base = subst (λ (n : ℕ). IsBase (clauses_of c.args.self.now.arena) n c.args.self.now.arena c.args.self.now.refs.items c.args.self.now.reasons.items c.args.self.now.trail None) (sym c.requires.base.size_is) c.requires.base }

pub compact-requires : goal.compact-requires
compact-requires c = subst (All (IsLive c.drop_spare.new.arena)) (sym (c.deref_mut.ensures.value ∙ (c.in_ok-moved.ensures.items ∙ c.deref-5.ensures.value))) (kept_live c.drop_spare.new.arena c.args.self.now.refs.items c.args.self.now.ids.items c.args.self.now.reasons.items c.args.self.now.trail (dropped_base c.args.self.now.arena c.drop_spare.new.arena c.args.self.now.refs.items c.deref.result.now c.args.self.now.reasons.items c.deref-2.result.now c.args.self.now.trail c.deref.ensures.value c.deref-2.ensures.value c.in_ok-drop_spare.ensures.base) c.in_ok-rest.rest.refs.items c.in_ok-rest.rest.ids.items (chosen c.drop_spare.new.arena c.args.self.now.refs.items c.args.self.now.ids.items c.deref-3.result.now c.deref-4.result.now c.in_ok-rest.rest.refs.items c.in_ok-rest.rest.ids.items c.deref-3.ensures.value c.deref-4.ensures.value c.in_ok-rest.ensures))

pub rename-requires-clause-within : goal.rename-requires-clause-within
rename-requires-clause-within c = λ k r e. subst (λ (xs : List ℕ). Contains xs r) (sym c.deref-6.ensures.value) (kept_reasons c.drop_spare.new.arena c.args.self.now.refs.items c.args.self.now.ids.items c.args.self.now.reasons.items c.args.self.now.trail (dropped_base c.args.self.now.arena c.drop_spare.new.arena c.args.self.now.refs.items c.deref.result.now c.args.self.now.reasons.items c.deref-2.result.now c.args.self.now.trail c.deref.ensures.value c.deref-2.ensures.value c.in_ok-drop_spare.ensures.base) c.in_ok-rest.rest.refs.items c.in_ok-rest.rest.ids.items (chosen c.drop_spare.new.arena c.args.self.now.refs.items c.args.self.now.ids.items c.deref-3.result.now c.deref-4.result.now c.in_ok-rest.rest.refs.items c.in_ok-rest.rest.ids.items c.deref-3.ensures.value c.deref-4.ensures.value c.in_ok-rest.ensures) k r (subst (λ (xs : List (Option ℕ)). slice_get xs k ≡ Some (Some r)) c.deref-8.ensures.value e))

pub returns-clause-base : goal.returns-clause-base
returns-clause-base c =
    let old : List ℕ = c.in_ok-moved.moved.items in
    let held : List ℕ = c.compact.new.held in
    let moved : List ℕ = take c.in_ok-moved.moved.len (held ++ drop (length held) old) in
    let q : IsCompacted c.drop_spare.new.arena c.in_ok-rest.rest.refs.items c.compact.new.self held = (subst (λ (xs : List ℕ). IsCompacted c.drop_spare.new.arena xs c.compact.new.self c.compact.new.held) (c.deref_mut.ensures.value ∙ (c.in_ok-moved.ensures.items ∙ c.deref-5.ensures.value)) c.in_ok-compact.ensures.ok) in
    let n : length held ≡ c.in_ok-moved.moved.len = omega (arith, q.as_many, ap length c.in_ok-moved.ensures.items, ap length c.deref-5.ensures.value) in
    let e : moved ≡ held = take_at held (drop (length held) old) c.in_ok-moved.moved.len n in
    subst (λ (k : ℕ). IsBase (clauses_of c.compact.new.self) k c.compact.new.self moved c.in_ok-self.field-0.items c.args.self.now.trail None) c.requires.base.size_is
    (subst (λ (xs : List ℕ). IsBase (clauses_of c.compact.new.self) (length c.args.self.now.arena.chains) c.compact.new.self xs c.in_ok-self.field-0.items c.args.self.now.trail None) (sym e)
    (base_moved c.drop_spare.new.arena c.args.self.now.refs.items c.args.self.now.ids.items c.args.self.now.reasons.items c.args.self.now.trail (dropped_base c.args.self.now.arena c.drop_spare.new.arena c.args.self.now.refs.items c.deref.result.now c.args.self.now.reasons.items c.deref-2.result.now c.args.self.now.trail c.deref.ensures.value c.deref-2.ensures.value c.in_ok-drop_spare.ensures.base) c.in_ok-rest.rest.refs.items c.in_ok-rest.rest.ids.items (chosen c.drop_spare.new.arena c.args.self.now.refs.items c.args.self.now.ids.items c.deref-3.result.now c.deref-4.result.now c.in_ok-rest.rest.refs.items c.in_ok-rest.rest.ids.items c.deref-3.ensures.value c.deref-4.ensures.value c.in_ok-rest.ensures) c.compact.new.self held c.literals-compacted.ensures.whole q c.in_ok-self.field-0.items
    (named c.in_ok-rest.rest.refs.items moved held c.deref-6.result.now c.deref-7.result.now c.args.self.now.reasons.items c.deref-8.result.now c.in_ok-self.field-0.items c.deref-6.ensures.value c.deref-7.ensures.value e c.deref-8.ensures.value c.in_ok-self.ensures)))

pub returns-clause-covers : goal.returns-clause-covers
returns-clause-covers c = λ clauses v. covers_moved c.drop_spare.new.arena c.args.self.now.refs.items c.args.self.now.ids.items c.args.self.now.reasons.items c.args.self.now.trail (dropped_base c.args.self.now.arena c.drop_spare.new.arena c.args.self.now.refs.items c.deref.result.now c.args.self.now.reasons.items c.deref-2.result.now c.args.self.now.trail c.deref.ensures.value c.deref-2.ensures.value c.in_ok-drop_spare.ensures.base) c.in_ok-rest.rest.refs.items c.in_ok-rest.rest.ids.items (chosen c.drop_spare.new.arena c.args.self.now.refs.items c.args.self.now.ids.items c.deref-3.result.now c.deref-4.result.now c.in_ok-rest.rest.refs.items c.in_ok-rest.rest.ids.items c.deref-3.ensures.value c.deref-4.ensures.value c.in_ok-rest.ensures) c.compact.new.self c.compact.new.held c.literals-compacted.ensures.whole (subst (λ (xs : List ℕ). IsCompacted c.drop_spare.new.arena xs c.compact.new.self c.compact.new.held) (c.deref_mut.ensures.value ∙ (c.in_ok-moved.ensures.items ∙ c.deref-5.ensures.value)) c.in_ok-compact.ensures.ok) c.literals-whole.ensures.whole clauses
    (subst (λ (cs : List (List ℕ)). Covers clauses cs c.args.self.now.ids.items c.args.self.now.trail) (sym c.in_ok-drop_spare.ensures.base.clauses_are) v)

shown_dropped : (content : Content) (refs shown : List ℕ) (reasons shown_reasons : List (Option ℕ)) (trail : List ℕ) → shown ≡ refs → shown_reasons ≡ reasons
    → AreDropped content shown shown_reasons trail (length shown) → AreDropped content refs reasons trail (length refs)
shown_dropped content refs shown reasons shown_reasons trail e f h = rw (← e, ← f) h

pub returns-clause-dropped : goal.returns-clause-dropped
returns-clause-dropped c =
    let old : List ℕ = c.in_ok-moved.moved.items in
    let held : List ℕ = c.compact.new.held in
    let moved : List ℕ = take c.in_ok-moved.moved.len (held ++ drop (length held) old) in
    let q : IsCompacted c.drop_spare.new.arena c.in_ok-rest.rest.refs.items c.compact.new.self held = (subst (λ (xs : List ℕ). IsCompacted c.drop_spare.new.arena xs c.compact.new.self c.compact.new.held) (c.deref_mut.ensures.value ∙ (c.in_ok-moved.ensures.items ∙ c.deref-5.ensures.value)) c.in_ok-compact.ensures.ok) in
    let n : length held ≡ c.in_ok-moved.moved.len = omega (arith, q.as_many, ap length c.in_ok-moved.ensures.items, ap length c.deref-5.ensures.value) in
    let e : moved ≡ held = take_at held (drop (length held) old) c.in_ok-moved.moved.len n in
    λ _. subst (λ (xs : List ℕ). AreDropped c.compact.new.self xs c.in_ok-self.field-0.items c.args.self.now.trail (length xs)) (sym e)
    (dropped_moved c.drop_spare.new.arena c.args.self.now.refs.items c.args.self.now.ids.items c.args.self.now.reasons.items c.args.self.now.trail (dropped_base c.args.self.now.arena c.drop_spare.new.arena c.args.self.now.refs.items c.deref.result.now c.args.self.now.reasons.items c.deref-2.result.now c.args.self.now.trail c.deref.ensures.value c.deref-2.ensures.value c.in_ok-drop_spare.ensures.base) c.in_ok-rest.rest.refs.items c.in_ok-rest.rest.ids.items (chosen c.drop_spare.new.arena c.args.self.now.refs.items c.args.self.now.ids.items c.deref-3.result.now c.deref-4.result.now c.in_ok-rest.rest.refs.items c.in_ok-rest.rest.ids.items c.deref-3.ensures.value c.deref-4.ensures.value c.in_ok-rest.ensures) c.compact.new.self held c.literals-compacted.ensures.whole q c.in_ok-self.field-0.items
    (named c.in_ok-rest.rest.refs.items moved held c.deref-6.result.now c.deref-7.result.now c.args.self.now.reasons.items c.deref-8.result.now c.in_ok-self.field-0.items c.deref-6.ensures.value c.deref-7.ensures.value e c.deref-8.ensures.value c.in_ok-self.ensures)
    (shown_dropped c.drop_spare.new.arena c.args.self.now.refs.items c.deref.result.now c.args.self.now.reasons.items c.deref-2.result.now c.args.self.now.trail c.deref.ensures.value c.deref-2.ensures.value c.in_ok-drop_spare.ensures.dropped))
