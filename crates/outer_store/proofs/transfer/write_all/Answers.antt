use Rattle.std.proofs.Common.{rules, ◌≡◌, ◌+◌, ◌-◌, ℕ, ◌++◌, List, length, take, drop, sym, ap, subst, ◌∙◌}
use Rattle.std.proofs.lemmas.List.{take_rest}
use Rattle.std.proofs.Math.Seq.{take-add}
use Rattle.std.specs.Io.KnownBytes.{Appends}
use Rattle.std.proofs.KnownBytes.{Appends-trans}
use Rattle.outer_store.proofs.transfer.write_all.Goals as goal

-- what was written before and a prefix of the rest make a longer prefix
longer : (xs : List ℕ) (i n : ℕ) → take i xs ++ take n (take (length xs - i) (drop i xs)) ≡ take (i + n) xs
longer xs i n = ap (λ (ys : List ℕ). take i xs ++ take n ys) (take_rest xs i) ∙ sym (take-add i n xs)

pub loop-at-preserved : goal.loop-at-preserved
loop-at-preserved g c = record {
  within = search (rules, c.in-Ok.ensures.bound);
  written = subst (Appends _ _) (longer c.args.bytes.now c.loop-at.at c.in-Ok.count) (Appends-trans _ _ _ _ _ c.loop-at.invariant.written c.in-Ok.ensures.bytes);
}
