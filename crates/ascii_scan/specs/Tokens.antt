-- The tokens of a statement: words and marks. Blanks separate words and have no other meaning.
use Rattle.std.specs.Prelude.{ℕ, ◌&&◌, ◌||◌, ◌==◌, Bool, false, not, List, [], ◌∷◌, if◌then◌else◌}

pub data Token : Type 0 where
  word : List ℕ → Token
  mark : ℕ → Token

-- a space or a tab
abbrev pub is_blank : ℕ → Bool
is_blank b = b == 32 || b == 9

-- `,`, `[`, `]`, `{`, `}`
abbrev pub is_mark : ℕ → Bool
is_mark b = b == 44 || (b == 91 || (b == 93 || (b == 123 || b == 125)))

abbrev pub is_inner : ℕ → Bool
is_inner b = not (is_blank b) && not (is_mark b)

-- the byte put in front of the first token where that is a word, and otherwise as a word of its own
abbrev pub grown : ℕ → List Token → List Token
grown b (word w ∷ ts) = word (b ∷ w) ∷ ts
grown b ts = word (b ∷ []) ∷ ts

-- the longest prefix whose bytes all satisfy p, and what follows it
abbrev pub front : (ℕ → Bool) → List ℕ → List ℕ
front p [] = []
front p (b ∷ bs) = if p b then b ∷ front p bs else []

abbrev pub rest : (ℕ → Bool) → List ℕ → List ℕ
rest p [] = []
rest p (b ∷ bs) = if p b then rest p bs else b ∷ bs

abbrev pub begins_blank : List ℕ → Bool
begins_blank [] = false
begins_blank (b ∷ bs) = is_blank b

abbrev pub begins_inner : List ℕ → Bool
begins_inner [] = false
begins_inner (b ∷ bs) = is_inner b

-- the words and marks of the bytes; each word is as long as possible
unfoldable pub tokens : List ℕ → List Token
tokens [] = []
tokens (b ∷ bs) =
    if is_blank b then tokens bs
    else if is_mark b then mark b ∷ tokens bs
    else if begins_inner bs then grown b (tokens bs)
    else word (b ∷ []) ∷ tokens bs
