-- What the table of a naming's words holds while it is made: the loop invariants of `laying`.
use Rattle.std.specs.Prelude.{◌≡◌, ℕ, ◌+◌, ◌||◌, List, [], ◌∷◌, ◌++◌, Option, Some, None, is_some, if◌then◌else◌}
use Rattle.std.specs.Map.{lookup}
use Rattle.std.specs.declared.alloc.Global.{Global}
use Rattle.std.specs.declared.vec.Vec.{Vec}
use Rattle.thumb_model.specs.Listing.{Name, ListingLine, code_of, place_of}
use Rattle.thumb_model.specs.Layout.{is_among, label_address, lies_in, or_else, set_address}
use Rattle.thumb_machine.specs.Naming.{is_named}
use Rattle.thumb_machine.specs.Laid.{own_word}

-- the word of a label, or the address set for a name
abbrev pub fixed_by : Option ℕ → Option ℕ → Option ℕ → Option ℕ
fixed_by None code set = set
fixed_by (Some a) None set = Some a
fixed_by (Some a) (Some p) set = Some (a + 1)

abbrev pub fixed_word : ℕ → List ListingLine → Name → Option ℕ
fixed_word base lines name = fixed_by (label_address name base lines) (place_of (code_of lines) name) (set_address name lines)

-- the known names, and a further one if it lies nowhere and isn't known yet
abbrev pub with_name : ℕ → List ListingLine → List Name → Option Name → List Name
with_name base lines known None = known
with_name base lines known (Some n) = if is_some (lies_in base lines n) || is_among n known then known else known ++ n ∷ []

-- the table's words
abbrev pub Entries : Type 0
Entries = List (Vec ℕ Global × ℕ)

abbrev pub word_in : Entries → Name → Option ℕ
word_in es name = lookup (is_named name) es

-- the table has the words of the known names, and no others
pub record AreFixed (base : ℕ) (lines : List ListingLine) (known : List Name) (es : Entries) : Type 0 where
  pub words : (n : Name) → word_in es n ≡ (if is_among n known then fixed_word base lines n else None)

-- all labels and set names have their fixed words, and the known external names words of their own
pub record AreOwn (base : ℕ) (lines : List ListingLine) (known : List Name) (es : Entries) : Type 0 where
  pub words : (n : Name) → word_in es n ≡ or_else (fixed_word base lines n) (own_word 0 n known)
