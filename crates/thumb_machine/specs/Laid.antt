-- The naming that a trace runs under: that of the layout, with words for external names.
use Rattle.std.specs.Prelude.{◌≡◌, ℕ, ◌+◌, ◌*◌, ◌%◌, ◌^◌, not, Bool, List, [], ◌∷◌, ◌++◌, Option, Some, None, is_some, unwrap_or, if◌then◌else◌}
use Rattle.std.specs.List.{filter, filter_map}
use Rattle.std.specs.Str.{bytes_eq}
use Rattle.thumb_model.specs.Listing.{Name, Mention, Value, Number, OfName, Place, Op, Word, ListingLine, places_of}
use Rattle.thumb_model.specs.Layout.{end_of, lies_in, or_else, set_address}
use Rattle.thumb_model.specs.Naming.{Naming, laid, IsCutAtCall}

-- ---- external names without an address ----

-- the name that a place mentions
abbrev pub mention_name : Option Mention → Option Name
mention_name None = None
mention_name (Some m) = Some m.name

abbrev pub value_name : Value → Option Name
value_name (Number n) = None
value_name (OfName m) = Some m.name

abbrev pub place_name : Place → Option Name
place_name (Op i mention) = mention_name mention
place_name (Word v) = value_name v

-- each name once, at its first occurrence
abbrev pub firsts : List Name → List Name
firsts [] = []
firsts (n ∷ ns) = n ∷ filter (λ m. not (bytes_eq m n)) (firsts ns)

abbrev pub lies_nowhere : ℕ → List ListingLine → Name → Bool
lies_nowhere base lines n = not (is_some (lies_in base lines n))

-- the names that are mentioned but have neither a label nor a set address, each once, in order of first mention
abbrev pub nowhere : ℕ → List ListingLine → List Name
nowhere base lines = firsts (filter (lies_nowhere base lines) (filter_map place_name (places_of lines)))

-- the word of its own that an external name has: 0x30000000, and 256 more for each name before it in the list
abbrev pub own_word : ℕ → Name → List Name → Option ℕ
own_word i name [] = None
own_word i name (n ∷ ns) = if bytes_eq name n then Some ((805306368 + 256 * i) % 2 ^ 32) else own_word (i + 1) name ns

-- the word of an external name: the address that is set for it, or its own
abbrev pub outside_word : ℕ → List ListingLine → Name → ℕ
outside_word base lines name = unwrap_or (or_else (set_address name lines) (own_word 0 name (nowhere base lines))) 0

-- ---- the naming ----

-- the words of names and the range are those of the layout from a base; the word of a call's return point is 1 more than the address after the call
pub record IsLaid (base : ℕ) (lines : List ListingLine) (names : Naming) : Type 0 where
  pub word_of : (name : Name) → names.word_of name ≡ (laid base (outside_word base lines) lines).word_of name
  pub return_word : (k : ℕ) (before : List ListingLine) (call : ListingLine) (after : List ListingLine) → IsCutAtCall lines k before call after → names.return_word k ≡ end_of base (before ++ call ∷ []) + 1
  pub low : names.low ≡ (laid base (outside_word base lines) lines).low
  pub high : names.high ≡ (laid base (outside_word base lines) lines).high
