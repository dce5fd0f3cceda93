-- The model's naming of a naming: total functions, made of a table of names and a list of calls.
use Rattle.std.specs.Prelude.{ℕ, Bool, slice_index, unwrap_or}
use Rattle.std.specs.Map.{lookup}
use Rattle.std.specs.Str.{bytes_eq}
use Rattle.std.specs.declared.alloc.Global.{Global}
use Rattle.std.specs.declared.vec.Vec.{Vec}
use Rattle.thumb_machine.specs.declared.naming.Naming.{Naming}
use Rattle.thumb_model.specs.Listing.{Name}
use Rattle.thumb_model.specs.Naming as model

-- whether a key is the name
abbrev pub is_named : Name → Vec ℕ Global → Bool
is_named name key = bytes_eq name key.items

-- a name or a call that has no word has 0
abbrev pub naming_of : Naming → model.Naming
naming_of n = record {
  word_of = λ name. unwrap_or (lookup (is_named name) n.words.entries) 0;
  return_word = λ k. slice_index n.returns.items k;
  low = n.low;
  high = n.high;
}
