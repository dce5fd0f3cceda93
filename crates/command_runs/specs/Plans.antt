-- What a command is to do (its plan), and how far a run got with it, call by call: the fetches, then the keeps.
use Rattle.std.specs.Prelude.{◌≡◌, ◌≢◌, ◌≤◌, ◌⊎◌, ℕ, List, [], ◌∷◌, ◌++◌, take, length, Some, Ok, Err, slice_get, if◌then◌else◌}
use Rattle.std.specs.Str.{bytes_eq}
use Rattle.ascii_scan.specs.Lines.{text_limit}
use Rattle.outer_store.specs.declared.StoreError.{StoreError}
use Rattle.outer_store.specs.declared.StoreError.TheVariants as store
use Rattle.outer_store.specs.Outside.{Event, Fetching, Keeping, WhereTold, Held, Seen, Gave}

-- a name, and the bytes to be kept under it
abbrev pub Keep : Type 0
Keep = List ℕ × List ℕ

-- the outcome of a command's texts: one refusal line, or what is kept, in order, and the lines that are printed
pub data Outcome : Type 0 where
  Refuses : (line : List ℕ) → Outcome
  Does : (keeps : List Keep) (lines : List ℕ) → Outcome

-- a command: the names that it fetches, in order, and which outcomes the texts under them may have
pub record Plan : Type 1 where
  pub names : List (List ℕ)
  pub comes : List (List ℕ) → Outcome → Type 0

-- what is to be kept
abbrev pub keeps_of : Outcome → List Keep
keeps_of (Refuses line) = []
keeps_of (Does keeps lines) = keeps

-- what is to be printed
abbrev pub due : Outcome → List ℕ
due (Refuses line) = line
due (Does keeps lines) = lines

-- ---- the fetches ----

-- the calls by which these names were fetched, in order, and these texts returned
abbrev pub fetchings : List (List ℕ) → List (List ℕ) → List Event
fetchings [] ts = []
fetchings (n ∷ ns) [] = []
fetchings (n ∷ ns) (t ∷ ts) = Fetching n (Ok t) ∷ fetchings ns ts

-- the text that the run used for a name: it is within the limit, and the one held there, if the store shows its content
abbrev pub IsText : Seen → List ℕ → List ℕ → Type 0
IsText old name text = (length text ≤ text_limit) × Gave old name text

-- the texts that the run used, one for each name
abbrev pub AreTexts : Seen → List (List ℕ) → List (List ℕ) → Type 0
AreTexts old [] [] = Unit {0}
AreTexts old [] (t ∷ ts) = ⊥
AreTexts old (n ∷ ns) [] = ⊥
AreTexts old (n ∷ ns) (t ∷ ts) = IsText old n t × AreTexts old ns ts

-- some name has this cause for having no usable text, and all names before it have a text
abbrev pub StopsAt : (List ℕ → Type 0) → Seen → List (List ℕ) → Type 0
StopsAt cause old [] = ⊥
StopsAt cause old (n ∷ ns) = cause n ⊎ (((t : List ℕ) × IsText old n t) × StopsAt cause old ns)

-- the first names were fetched, and their texts returned; nothing else was asked
pub record ReadsSome (names : List (List ℕ)) (old new : Seen) : Type 0 where
  pub number : ℕ
  pub texts : List (List ℕ)
  pub read : AreTexts old (take number names) texts
  pub calls : new.events ≡ old.events ++ fetchings (take number names) texts

-- the first names were fetched, and their texts returned; then the next was fetched, and this error returned
pub record ReadsUpTo (error : StoreError) (names : List (List ℕ)) (old new : Seen) : Type 0 where
  pub number : ℕ
  pub texts : List (List ℕ)
  pub failed : List ℕ
  pub read : AreTexts old (take number names) texts
  pub is_next : slice_get names number ≡ Some failed
  pub calls : new.events ≡ old.events ++ (fetchings (take number names) texts ++ Fetching failed (Err error) ∷ [])

-- ---- the keeps ----

-- the calls by which all of this was kept, in order
abbrev pub keepings : List Keep → List Event
keepings [] = []
keepings (k ∷ ks) = Keeping k.0 k.1 (Ok tt) ∷ keepings ks

-- what is held once bytes were put under a name
abbrev pub with_text : Held → Keep → Held
with_text held k = λ n. if bytes_eq n k.0 then Some k.1 else held n

-- what is held after all was kept, in order
abbrev pub kept : List Keep → Held → Held
kept [] held = held
kept (k ∷ ks) held = kept ks (with_text held k)

-- all of this was kept, and all other names have what they had
abbrev pub Kept : List Keep → Seen → Seen → Type 0
Kept ks old new = WhereTold old.tells ((n : List ℕ) → new.held n ≡ kept ks old.held n)

-- the same, except for one name of which nothing is said
abbrev pub KeptBut : List ℕ → List Keep → Seen → Seen → Type 0
KeptBut name ks old new = WhereTold old.tells ((n : List ℕ) → n ≢ name → new.held n ≡ kept ks old.held n)

-- after the calls `so_far` the first keeps were made, and then the next, which returned this error
abbrev pub KeepsUpTo : StoreError → List Event → List Keep → ℕ → Keep → Seen → Seen → Type 0
KeepsUpTo error so_far ks number failed old new = new.events ≡ old.events ++ (so_far ++ (keepings (take number ks) ++ Keeping failed.0 failed.1 (Err error) ∷ []))

-- the first keeps were done, and the next failed
pub record FailsAfter (so_far : List Event) (ks : List Keep) (old new : Seen) : Type 0 where
  pub number : ℕ
  pub failed : Keep
  pub is_next : slice_get ks number ≡ Some failed
  pub kept : KeptBut failed.0 (take number ks) old new
  pub calls : KeepsUpTo store.Failed so_far ks number failed old new

-- the first keeps were made, and memory ran out in the next
pub record ShortAfter (so_far : List Event) (ks : List Keep) (old new : Seen) : Type 0 where
  pub number : ℕ
  pub failed : Keep
  pub is_next : slice_get ks number ≡ Some failed
  pub kept : Kept (take number ks) old new
  pub calls : KeepsUpTo store.Memory so_far ks number failed old new
