-- What is proved of each image: its run is determined, and does what the listing's does.
use Rattle.std.specs.Prelude.{◌≡◌, ℕ, ◌<◌, List}
use Rattle.thumb_model.specs.Naming.{Fits, laid}
use Rattle.thumb_model.specs.States.{State}
use Rattle.thumb_model.specs.Listing.{Name, ListingLine, code_of}
use Rattle.thumb_model.specs.Same.{Same}
use Rattle.thumb_assembler.specs.Bytes.{IsSetBy}
use Rattle.thumb_assembler.specs.Runs.{Loaded, ImageSteps, byte_at, IsAssembled, ImageFollows}

-- every byte is below 256
abbrev pub HasBytes : Loaded → Type 0
HasBytes m = (a : ℕ) → byte_at m a < 256

-- each state has one successor, and so a run is in one state after a given number of steps
abbrev pub RunsAreDetermined : Type 0
RunsAreDetermined = (m : Loaded) (n : ℕ) (s t u : State) → HasBytes m → ImageSteps m n s t → ImageSteps m n s u → t ≡ u

-- the image's run does what its listing's does, where the laid naming fits
abbrev pub ImagesFollow : Type 0
ImagesFollow =
    (base : ℕ) (set : Name → ℕ) (lines : List ListingLine) (bytes : List ℕ) → IsAssembled base lines bytes → IsSetBy lines set → Fits (laid base set lines) (code_of lines)
    → ImageFollows base set lines bytes lines

-- so it does for a listing with the same runs, which it was rewritten from, where the naming fits that listing too
abbrev pub ImagesFollowGiven : Type 0
ImagesFollowGiven =
    (base : ℕ) (set : Name → ℕ) (lines given : List ListingLine) (bytes : List ℕ) → IsAssembled base lines bytes → IsSetBy lines set → Fits (laid base set lines) (code_of lines)
    → Fits (laid base set lines) (code_of given) → Same (code_of given) (code_of lines) → ImageFollows base set lines bytes given
