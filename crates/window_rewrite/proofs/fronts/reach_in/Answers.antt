use Rattle.std.proofs.Common.{◌≡◌, ◌∙◌, ◌+◌, Bool, List, Some, false, ap, arith, map, refl, sym, take}
use Rattle.std.specs.Prelude.{slice_get}
use Rattle.std.specs.Option.{option_map}
use Rattle.std.proofs.lemmas.Option.{slice_get_read, slice_get-map}
use Rattle.thumb_instr.specs.declared.instr.Instr.{Instr}
use Rattle.window_rewrite.specs.Rules.{is_marked}
use Rattle.window_rewrite.specs.Hashes.{next_hash, seen, hash_of}
use Rattle.window_rewrite.proofs.Heads.{between_all, between_end, between_more, between_within, front_more}
use Rattle.window_rewrite.proofs.fronts.reach_in.Goals as goal

pub returns-then-not-has_front-clause-none : goal.returns-then-not-has_front-clause-none
returns-then-not-has_front-clause-none c =
    let run : List Instr = c.args.run.now in
    let hidden : Bool = c.args.hidden in
    let here : slice_get run c.loop-at.at ≡ Some c.index-run-at.result = slice_get_read run _ _ c.index-run-at.result refl c.loop-at-test.true c.index-run-at.is in
    let there : slice_get (map (seen hidden) run) c.loop-at.at ≡ Some (seen hidden c.index-run-at.result) = slice_get-map (seen hidden) run c.loop-at.at ∙ ap (option_map (seen hidden)) here in
    let hash : c.next_hash-hash.result ≡ hash_of (take (c.loop-at.at + 1) (map (seen hidden) run)) =
    c.next_hash-hash.ensures.value ∙ ap (next_hash c.loop-at.hash) c.seen.ensures ∙ front_more c.loop-at.hash c.loop-at.at (map (seen hidden) run) (seen hidden c.index-run-at.result) there c.loop-at.invariant.hash in
    let missing : is_marked c.args.marks.now.fronts.items c.next_hash-hash.result ≡ false = sym c.has_front.ensures ∙ c.if-not-has_front.true in
    between_all c.args.marks.now hidden run c.loop-at.at c.next_hash-hash.result c.loop-at.reached hash missing c.loop-at.invariant.none

pub returns-clause-none : goal.returns-clause-none
returns-clause-none c = between_end c.args.marks.now c.args.hidden c.args.run.now c.loop-at.reached c.loop-at.at (let t = c.loop-at-test.false in omega arith) c.loop-at.invariant.none

pub loop-at-init : goal.loop-at-init
loop-at-init c = record {
  within = omega arith;
  hash = refl;
  small = omega arith;
  fewer = omega arith;
  none = λ n side registers longer few noted s. absurd (omega (arith, longer, few));
}

pub loop-at-preserved : goal.loop-at-preserved
loop-at-preserved c =
    let run : List Instr = c.args.run.now in
    let hidden : Bool = c.args.hidden in
    let here : slice_get run c.loop-at.at ≡ Some c.index-run-at.result = slice_get_read run _ _ c.index-run-at.result refl c.loop-at-test.true c.index-run-at.is in
    let there : slice_get (map (seen hidden) run) c.loop-at.at ≡ Some (seen hidden c.index-run-at.result) = slice_get-map (seen hidden) run c.loop-at.at ∙ ap (option_map (seen hidden)) here in
    let hash : c.next_hash-hash.result ≡ hash_of (take (c.loop-at.at + 1) (map (seen hidden) run)) =
    c.next_hash-hash.ensures.value ∙ ap (next_hash c.loop-at.hash) c.seen.ensures ∙ front_more c.loop-at.hash c.loop-at.at (map (seen hidden) run) (seen hidden c.index-run-at.result) there c.loop-at.invariant.hash in
    record {
      within = let t = c.loop-at-test.true in omega arith;
      hash = hash;
      small = c.next_hash-hash.ensures.small;
      fewer = between_within c.args.marks.now c.loop-at.at c.next_hash-hash.result c.loop-at.reached c.longest_of-reached.result c.longest_of-reached.ensures c.loop-at.invariant.fewer;
      none = between_more c.args.marks.now hidden run c.loop-at.at c.next_hash-hash.result c.loop-at.reached c.longest_of-reached.result hash c.longest_of-reached.ensures c.loop-at.invariant.none;
    }
