use Rattle.std.proofs.Common.{◌≡◌, map, take, string_bytes}
use Rattle.std.specs.Prelude.{All}
use Rattle.std.specs.Str.{IsUtf8}
use Rattle.command_line.proofs.texts_of.Given as goal

abbrev pub invariant-loop-word : goal.invariant-loop-word
invariant-loop-word l = record { same : map (λ t. t.now) l.texts.items ≡ map string_bytes (take l.word-index l.words); text : All (λ t. IsUtf8 t.now) l.texts.items }
