use Rattle.std.proofs.Common.{◌≡◌, ◌∙◌, ◌<◌, ◌+◌, ℕ, List, [], ◌∷◌, ◌++◌, length, map, inr, Some, take, get_or, option_map, refl, sym, ap, subst, Bor, Vec, Global}
use Rattle.std.specs.Prelude.{slice_get}
use Rattle.std.proofs.lemmas.Option.{slice_get-map, slice_get-get_or}
use Rattle.std.proofs.lemmas.List.{map-append}
use Rattle.command_runs.specs.Plans.{AreTexts, fetchings}
use Rattle.command_runs.proofs.StageLemmas.{gathers_more, gathers_stop, fetched_more, same_again, grows_again, counts_again}
use Rattle.command_runs.proofs.stages.fetch_all.Goals as goal

-- a name by its index
name_at : (ns : List (Bor (List ℕ))) (i : ℕ) (d : Bor (List ℕ)) → i < length ns → slice_get (map (λ (n : Bor (List ℕ)). n.now) ns) i ≡ Some (get_or ns i d).now
name_at ns i d l = slice_get-map (λ (n : Bor (List ℕ)). n.now) ns i ∙ ap (option_map (λ (n : Bor (List ℕ)). n.now)) (slice_get-get_or ns i d l)

pub returns-in-Err-clause-gathers : goal.returns-in-Err-clause-gathers
returns-in-Err-clause-gathers g c =
    let d : Bor (List ℕ) = record { ref_ptr = (0, 0); now = [] } in
    let name : List ℕ = (get_or c.args.names.now c.loop-name.name-index d).now in
    gathers_stop (map (λ (n : Bor (List ℕ)). n.now) c.args.names.now) (map (λ (t : Vec ℕ Global). t.items) c.loop-name.texts.items) c.loop-name.name-index name (g.S.Store.seen c.args.store.now) (g.S.Store.seen c.loop-name.store)
    (g.S.Store.seen c.fetch.new.store) (name_at c.args.names.now c.loop-name.name-index d c.loop-name-test.true) c.loop-name.invariant.grows c.loop-name.invariant.held c.loop-name.invariant.read c.loop-name.invariant.events c.in-Err.status c.in-Err.ensures.reads

-- memory ran out when a fetched text was appended
pub returns-in-Err-push-clause-gathers : goal.returns-in-Err-push-clause-gathers
returns-in-Err-push-clause-gathers g c =
    let d : Bor (List ℕ) = record { ref_ptr = (0, 0); now = [] } in
    let name : List ℕ = (get_or c.args.names.now c.loop-name.name-index d).now in
    let names = map (λ (n : Bor (List ℕ)). n.now) c.args.names.now in
    let texts = map (λ (t : Vec ℕ Global). t.items) c.loop-name.texts.items in
    let old = g.S.Store.seen c.args.store.now in
    let mid = g.S.Store.seen c.loop-name.store in
    let new = g.S.Store.seen c.fetch.new.store in
    let here = name_at c.args.names.now c.loop-name.name-index d c.loop-name-test.true in
    inr (record {
      number = c.loop-name.name-index + 1;
      texts = texts ++ c.in-Ok.text.items ∷ [];
      read = gathers_more names texts c.loop-name.name-index (c.loop-name.name-index + 1) name c.in-Ok.text.items old mid new here refl c.loop-name.invariant.grows c.loop-name.invariant.held c.loop-name.invariant.read c.in-Ok.ensures.reads.1;
      calls = fetched_more names texts c.loop-name.name-index (c.loop-name.name-index + 1) name c.in-Ok.text.items old mid new here refl c.loop-name.invariant.read c.loop-name.invariant.events c.in-Ok.ensures.reads.2;
    })

pub loop-name-preserved : goal.loop-name-preserved
loop-name-preserved g c =
    let d : Bor (List ℕ) = record { ref_ptr = (0, 0); now = [] } in
    let name : List ℕ = (get_or c.args.names.now c.loop-name.name-index d).now in
    let names = map (λ (n : Bor (List ℕ)). n.now) c.args.names.now in
    let texts = map (λ (t : Vec ℕ Global). t.items) c.loop-name.texts.items in
    let old = g.S.Store.seen c.args.store.now in
    let mid = g.S.Store.seen c.loop-name.store in
    let new = g.S.Store.seen c.fetch.new.store in
    let more : AreTexts old (take (c.loop-name.name-index + 1) names) (texts ++ c.in-Ok.text.items ∷ []) = gathers_more names texts c.loop-name.name-index (c.loop-name.name-index + 1) name c.in-Ok.text.items old mid new (name_at c.args.names.now c.loop-name.name-index d c.loop-name-test.true) refl c.loop-name.invariant.grows c.loop-name.invariant.held c.loop-name.invariant.read c.in-Ok.ensures.reads.1 in
    let called : new.events ≡ old.events ++ fetchings (take (c.loop-name.name-index + 1) names) (texts ++ c.in-Ok.text.items ∷ []) = fetched_more names texts c.loop-name.name-index (c.loop-name.name-index + 1) name c.in-Ok.text.items old mid new (name_at c.args.names.now c.loop-name.name-index d c.loop-name-test.true) refl c.loop-name.invariant.read c.loop-name.invariant.events c.in-Ok.ensures.reads.2 in
    let is : texts ++ c.in-Ok.text.items ∷ [] ≡ map (λ (t : Vec ℕ Global). t.items) c.push.new.self.items = sym (ap (map (λ (t : Vec ℕ Global). t.items)) c.in-Ok-push.ensures.items ∙ map-append (λ (t : Vec ℕ Global). t.items) c.loop-name.texts.items (c.in-Ok.text ∷ [])) in
    record {
      read = subst (AreTexts old (take (c.loop-name.name-index + 1) names)) is more;
      events = called ∙ ap (λ (ts : List (List ℕ)). old.events ++ fetchings (take (c.loop-name.name-index + 1) names) ts) is;
      counts = counts_again old mid new c.loop-name.invariant.counts c.in-Ok.ensures.reads.0;
      held = same_again old.held mid.held new.held c.loop-name.invariant.held c.in-Ok.ensures.held;
      grows = grows_again old mid new c.loop-name.invariant.grows c.in-Ok.ensures.grows;
    }
