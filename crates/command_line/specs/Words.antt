-- The words after the program's name: a command, positional words and options. A word is a list of bytes.
use Rattle.std.specs.Prelude.{◌≡◌, ◌++◌, ◌&&◌, ◌==◌, ℕ, Bool, true, false, not, List, [], ◌∷◌, Option, Some, None, codes, find, option_map, unwrap_or}
use Rattle.std.specs.List.{flat_map, list_all, list_any}
use Rattle.std.specs.Str.{bytes_eq}

abbrev pub Text : Type 0
Text = List ℕ

-- an option's name and its value
abbrev pub Given : Type 0
Given = Text × Text

-- what stands after the command: a positional word, an option as `--name=value`, or as `--name value`
pub data Item : Type 0 where
  word : Text → Item
  joined : Text → Text → Item
  apart : Text → Text → Item

-- an item's words
abbrev pub spelled : Item → List Text
spelled (word w) = w ∷ []
spelled (joined n v) = (codes "--" ++ n ++ codes "=" ++ v) ∷ []
spelled (apart n v) = (codes "--" ++ n) ∷ v ∷ []

-- the word begins with `-` (45), and is not `-` alone
abbrev pub is_dashed : Text → Bool
is_dashed [] = false
is_dashed (a ∷ []) = false
is_dashed (a ∷ b ∷ rest) = a == 45

-- the name is among these
abbrev pub is_one_of : List Text → Text → Bool
is_one_of names n = list_any (λ o. bytes_eq o n) names

-- neither a positional word nor a value that is a word of its own is dashed, and each name is that of an option
abbrev pub is_allowed : List Text → Item → Bool
is_allowed options (word w) = not (is_dashed w)
is_allowed options (joined n v) = is_one_of options n
is_allowed options (apart n v) = is_one_of options n && not (is_dashed v)

abbrev pub words_in : Item → List Text
words_in (word w) = w ∷ []
words_in (joined n v) = []
words_in (apart n v) = []

abbrev pub options_in : Item → List Given
options_in (word w) = []
options_in (joined n v) = (n, v) ∷ []
options_in (apart n v) = (n, v) ∷ []

-- what follows the items: nothing, or `--` and words that are positional whatever they begin with
abbrev pub ending : Option (List Text) → List Text
ending None = []
ending (Some rest) = codes "--" ∷ rest

-- the option is among those given
abbrev pub is_named : Text → List Given → Bool
is_named n gs = list_any (λ g. bytes_eq g.0 n) gs

-- no option is given twice
abbrev pub are_distinct : List Given → Bool
are_distinct [] = true
are_distinct (g ∷ gs) = not (is_named g.0 gs) && are_distinct gs

-- the words are the command's name, and in any order exactly these positional words and these options
pub record IsCommand (name : Text) (options : List Text) (words positional : List Text) (given : List Given) : Type 0 where
  pub items : List Item
  pub rest : Option (List Text)
  pub spelling : words ≡ name ∷ (flat_map spelled items ++ ending rest)
  pub allowed : list_all (is_allowed options) items ≡ true
  pub in_order : positional ≡ flat_map words_in items ++ unwrap_or rest []
  pub chosen : given ≡ flat_map options_in items
  pub once : are_distinct given ≡ true

-- the value of an option, where it is given
abbrev pub value_of : Text → List Given → Option Text
value_of n gs = option_map (λ g. g.1) (find (λ g. bytes_eq g.0 n) gs)
