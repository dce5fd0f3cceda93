use Rattle.std.proofs.Common.{ℕ, ◌≡◌, ◌≤◌, ◌+◌, ◌-◌, ◌*◌, ◌++◌, ap, sym, subst, length, arith, rules}
use Rattle.step_ledger.specs.Counts.{RisesBy}
use Rattle.step_ledger.proofs.Rises.{goes_on}
use Rattle.std.specs.List.{flat_map}
use Rattle.fingerprints.specs.OutcomeColumns.{extended, HaveRoom, Holds}
use Rattle.fingerprints.specs.Outcomes.{sequences_below}
use Rattle.fingerprints.proofs.Growing.{IsGrown, grown_first, grown_count, grown_once, below_longer, count_is}
use Rattle.fingerprints.proofs.Holding.{less_room}
use Rattle.fingerprints.proofs.outcomes.Outcomes.grow.Goals as goal

pub push_length-requires-clause-within : goal.push_length-requires-clause-within
push_length-requires-clause-within g c = grown_first c.self.inside.k c.self.inside.alphabet.items c.self.inside.start c.loop-length._length c.loop-length.first c.loop-length.columns c.loop-length.invariant.grown

-- the room is that for all sequences at the end
pub copied-requires-clause-within : goal.copied-requires-clause-within
copied-requires-clause-within g c =
    let alphabet = c.self.inside.alphabet.items in
    let size : c.len.result ≡ length alphabet = omega (arith, c.len.ensures) in
    let most : c.from.result + 1 ≡ c.args.longest + 1 = ap (λ n. n + 1) c.from.ensures in
    let room = count_is alphabet (c.args.longest + 1) (c.from.result + 1) c.len.result c.count_below-room.result size most c.count_below-room.ensures.value in
    let longer = below_longer alphabet (c.self.inside.longest + 1) (c.args.longest + 1) (omega (arith, c.if-longest-self.false)) in
    omega (arith, room, longer, c.self.invariant.holds.flags)

pub loop-length-init : goal.loop-length-init
loop-length-init g c =
    let alphabet = c.self.inside.alphabet.items in
    let size : c.len.result ≡ length alphabet = omega (arith, c.len.ensures) in
    let most : c.from.result + 1 ≡ c.args.longest + 1 = ap (λ n. n + 1) c.from.ensures in
    let room = count_is alphabet (c.args.longest + 1) (c.from.result + 1) c.len.result c.count_below-room.result size most c.count_below-room.ensures.value in
    record {
      grown = search rules;
      room = less_room c.self.inside.k _ _ c.in_ok-columns.columns (omega (arith, room, c.self.invariant.holds.flags)) c.in_ok-columns.ensures.room;
      count = search rules;
    }

pub push_length-requires-clause-room : goal.push_length-requires-clause-room
push_length-requires-clause-room g c =
    let alphabet = c.self.inside.alphabet.items in
    let n = c.loop-length._length in
    let one = grown_count c.self.inside.k alphabet c.self.inside.start n c.loop-length.first c.loop-length.columns c.loop-length.invariant.grown in
    let to_come : length (sequences_below alphabet (n + 1 + 1)) ≤ length (sequences_below alphabet (c.args.longest + 1)) = below_longer alphabet (n + 1 + 1) (c.args.longest + 1) (omega (arith, c.loop-length-test.true)) in
    let block : (length c.loop-length.columns.flags.items - c.loop-length.first) * length alphabet ≤ length (sequences_below alphabet (c.args.longest + 1)) - length (sequences_below alphabet (n + 1)) = omega (arith, one, to_come) in
    subst (λ ls. HaveRoom c.self.inside.k ((length c.loop-length.columns.flags.items - c.loop-length.first) * length ls) c.loop-length.columns) (sym c.deref.ensures.value) (less_room c.self.inside.k _ _ c.loop-length.columns block c.loop-length.invariant.room)

pub loop-length-preserved : goal.loop-length-preserved
loop-length-preserved g c =
    let alphabet = c.self.inside.alphabet.items in
    let n = c.loop-length._length in
    let past : c.self.inside.longest ≤ n = c.loop-length.auto._length in
    let one = grown_count c.self.inside.k alphabet c.self.inside.start n c.loop-length.first c.loop-length.columns c.loop-length.invariant.grown in
    let so_far : length (sequences_below alphabet (c.self.inside.longest + 1)) ≤ length (sequences_below alphabet (n + 1)) = below_longer alphabet (c.self.inside.longest + 1) (n + 1) (omega (arith, past)) in
    let block = (length c.loop-length.columns.flags.items - c.loop-length.first) * length alphabet in
    let step : RisesBy c.loop-length.steps c.push_length.new.steps block =
    subst (λ ls. RisesBy c.loop-length.steps c.push_length.new.steps ((length c.loop-length.columns.flags.items - c.loop-length.first) * length ls)) c.deref.ensures.value c.push_length.ensures.count in
    let whole = goes_on c.args.steps.now c.loop-length.steps c.push_length.new.steps (length (sequences_below alphabet (n + 1)) - length (sequences_below alphabet (c.self.inside.longest + 1))) block c.loop-length.invariant.count step in
    let sum : length (sequences_below alphabet (n + 1)) - length (sequences_below alphabet (c.self.inside.longest + 1)) + block ≡ length (sequences_below alphabet (n + 1 + 1)) - length (sequences_below alphabet (c.self.inside.longest + 1)) = omega (arith, one, so_far) in
    record {
      grown = grown_once c.self.inside.k alphabet c.self.inside.start n c.loop-length.first c.len-next.result c.loop-length.columns c.push_length.new.self c.loop-length.invariant.grown c.len-next.ensures
          (λ shorter longest size h. subst (λ ls. Holds c.self.inside.k c.self.inside.start (shorter ++ longest ++ flat_map (extended ls) longest) c.push_length.new.self) c.deref.ensures.value (c.push_length.ensures.holds shorter longest size h));
      room = (
          let to_come : length (sequences_below alphabet (n + 1 + 1)) ≤ length (sequences_below alphabet (c.args.longest + 1)) = below_longer alphabet (n + 1 + 1) (c.args.longest + 1) (omega (arith, c.loop-length-test.true)) in
          let left = length (sequences_below alphabet (c.args.longest + 1)) - length (sequences_below alphabet (n + 1 + 1)) in
          let sum : left + block ≡ length (sequences_below alphabet (c.args.longest + 1)) - length (sequences_below alphabet (n + 1)) = omega (arith, one, to_come) in
          subst (λ ls. (more : ℕ) → HaveRoom c.self.inside.k (more + (length c.loop-length.columns.flags.items - c.loop-length.first) * length ls) c.loop-length.columns → HaveRoom c.self.inside.k more c.push_length.new.self) c.deref.ensures.value c.push_length.ensures.room left
          (subst (λ m. HaveRoom c.self.inside.k m c.loop-length.columns) (sym sum) c.loop-length.invariant.room)
          );
      count = subst (RisesBy c.args.steps.now c.push_length.new.steps) sum whole;
    }

pub invariant_of-self : goal.invariant_of-self
invariant_of-self g c =
    let n = c.loop-length._length in
    let at_most : n ≤ c.args.longest = omega (arith, c.loop-length.auto._length-end, c.if-longest-self.false) in
    let whole : n ≡ c.args.longest = omega (arith, at_most, c.loop-length-test.false) in
    let grown : IsGrown c.self.inside.k c.self.inside.alphabet.items c.self.inside.start c.args.longest c.loop-length.first c.loop-length.columns =
    subst (λ j. IsGrown c.self.inside.k c.self.inside.alphabet.items c.self.inside.start j c.loop-length.first c.loop-length.columns) whole c.loop-length.invariant.grown in
    record {
      some = c.self.invariant.some;
      few = c.self.invariant.few;
      some_instrs = c.self.invariant.some_instrs;
      few_instrs = c.self.invariant.few_instrs;
      over = c.self.invariant.over;
      short = c.requires;
      before = grown.before;
      holds = grown.holds;
    }
