-- Places that are due: at the others no entry applies.
use Rattle.std.specs.Prelude.{◌≡◌, ◌+◌, ◌<◌, ◌≤◌, ℕ, suc, Bool, true, false, List, [], ◌∷◌, ◌++◌, length, map}
use Rattle.kept_places.specs.Marks.{is_gone, marked, rank}
use Rattle.thumb_model.specs.Listing.{ListingLine}
use Rattle.edited_listing.specs.Edited.{marks}
use Rattle.rule_model.specs.Rewriting.{Setting, AreRewritten}
use Rattle.rule_model.specs.Rewriting.{Replacement as Used}
use Rattle.window_rewrite.specs.declared.choice.Replacement.{Replacement}
use Rattle.window_rewrite.specs.declared.work_list.WorkList.{WorkList}
use Rattle.window_rewrite.specs.declared.scene.Scene.{Scene}
use Rattle.window_rewrite.specs.Choices.{NoneAt}
use Rattle.window_rewrite.specs.TableRewriting.{replacement_of}
use Rattle.window_rewrite.specs.Scenes.{lines_of}

-- ---- marks ----

-- there are as many, and what was marked still is
pub record StayMarked (old new : List Bool) : Type 0 where
  pub as_many : length new ≡ length old
  pub stay : (p : ℕ) → marked old p ≡ true → marked new p ≡ true

-- how many places stand before the least marked one
abbrev pub before_least : List Bool → ℕ
before_least [] = 0
before_least (true ∷ ms) = 0
before_least (false ∷ ms) = suc (before_least ms)

-- p is kept, and a window of at most `longest` kept places that begins there reaches the kept place q
pub record Reaches (gone : List Bool) (longest p q : ℕ) : Type 0 where
  pub kept : is_gone gone p ≡ false
  pub up_to : rank gone p ≤ rank gone q
  pub near : rank gone q < rank gone p + longest

-- ---- places that were tried ----

-- there is a mark for each place, and, as between replacements, no place is marked as having lost an item
pub record AreMarks (scene : Scene) (d : WorkList) : Type 0 where
  pub due_many : length d.due ≡ length scene.listing.stands
  pub refused_many : length d.refused ≡ length scene.listing.stands
  pub lost_many : length d.lost ≡ length scene.listing.stands
  pub none_lost : (p : ℕ) → marked d.lost p ≡ false

-- no entry fits at the place; if the place is one of the refused, entries may fit, but leave lines that aren't allowed
abbrev pub IsTried : Setting → Scene → WorkList → ℕ → Type 0
IsTried s scene d p = NoneAt (marked d.refused p) s (lines_of scene) (rank (marks scene.listing) p)

-- each kept place that isn't due was tried
pub record AreTried (s : Setting) (scene : Scene) (d : WorkList) : Type 0 where
  pub are : AreMarks scene d
  pub tried : (p : ℕ) → p < length scene.listing.stands → is_gone (marks scene.listing) p ≡ false → marked d.due p ≡ false → IsTried s scene d p

-- the same but for one place, which was taken from the due ones
pub record AreTriedBut (s : Setting) (scene : Scene) (d : WorkList) (taken : ℕ) : Type 0 where
  pub are : AreMarks scene d
  pub tried : (p : ℕ) → p < length scene.listing.stands → is_gone (marks scene.listing) p ≡ false → marked d.due p ≡ false → (p ≡ taken → ⊥) → IsTried s scene d p

-- ---- replacements ----

-- what completes the replacements from the current lines completes them from the start
abbrev pub Completes : Setting → List ListingLine → List Replacement → List ListingLine → Type 0
Completes s start done current = (rs : List Used) (new : List ListingLine) → AreRewritten s current rs new → AreRewritten s start (map replacement_of done ++ rs) new
