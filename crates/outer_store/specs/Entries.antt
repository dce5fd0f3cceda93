-- The content of a store in memory: a list of pairs of a name and a text, of which the first with a name counts.
use Rattle.std.specs.Prelude.{ℕ, Bool, List, Option, string_bytes, String, Vec, find, option_map}
use Rattle.std.specs.Str.{bytes_eq}
use Rattle.std.specs.declared.alloc.Global.{Global}

-- a name and its text
abbrev pub NamedText : Type 0
NamedText = String Global × Vec ℕ Global

-- a pair has this name
abbrev pub is_named : List ℕ → NamedText → Bool
is_named n e = bytes_eq (string_bytes e.0) n

-- the text under a name
abbrev pub text_in : List NamedText → List ℕ → Option (List ℕ)
text_in es n = option_map (λ e. e.1.items) (find (is_named n) es)
