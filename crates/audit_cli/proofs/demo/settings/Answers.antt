use Rattle.std.proofs.Common.{[], ◌∷◌, IsTrue, refl, sym, true≢false}
use Rattle.seq_enum.specs.Alphabet.{ascends_from, is_pool}
use Rattle.audit_cli.proofs.demo.settings.Goals as goal

is_demo_pool : IsTrue (is_pool (1 ∷ 24 ∷ []))
unfolding is_pool ascends_from
is_demo_pool = refl

pub unreachable-requires : goal.unreachable-requires
unreachable-requires c = true≢false (sym (c.in_default.ensures.valid.1 is_demo_pool))
