-- A listing that is rewritten: what stands at its places, what is live before them and how it is laid out. Its places keep their numbers, and one that is left over is gone.
use Rattle.std.specs.Prelude.{◌≡◌, ℕ, ◌<◌, ◌≤◌, ◌↔◌, max, true, false, List, [], length, drop}
use Rattle.thumb_instr.specs.declared.instr.Instr.{Instr}
use Rattle.thumb_model.specs.Layout.{Layable}
use Rattle.thumb_model.specs.Listing.{ListingLine, code_of, labels_from, places_of}
use Rattle.thumb_model.specs.Replaced.{replaced_lines}
use Rattle.listing_parser.specs.Grammar.{most_lines}
use Rattle.listing_parser.specs.Parsing.{own_line}
use Rattle.kept_places.specs.Marks.{is_gone, rank}
use Rattle.padded_code.specs.Padding.{IsPadded}
use Rattle.padded_code.specs.Windows.{AreRanked}
use Rattle.window_runs.specs.Rows.{rows_from}
use Rattle.window_runs.specs.Runs.{run}
use Rattle.edited_listing.specs.Edited.{lines_now, marks, padded}
use Rattle.edited_listing.specs.declared.looks.Run.{Run}
use Rattle.liveness.specs.KeptLive.{IsKeptLive}
use Rattle.window_rewrite.specs.declared.finding.Rules.{Rules}
use Rattle.window_rewrite.specs.declared.finding.SiteLookup.{SiteLookup}
use Rattle.window_rewrite.specs.declared.finding.Sight.{Sight}
use Rattle.window_rewrite.specs.Choices.{AreReady}
use Rattle.window_rewrite.specs.Fitting.{IsForm, StandsThere}
use Rattle.window_rewrite.specs.declared.scene.Scene.{Scene}
use Rattle.window_rewrite.specs.declared.scene.Site.{Site}
use Rattle.window_rewrite.specs.Settled.{IsSettled}
use Rattle.window_rewrite.specs.Layouts.{is_steady, AreOver, StandsNear}

-- the lines now
abbrev pub lines_of : Scene → List ListingLine
lines_of s = lines_now s.listing

-- what is kept of its places is true of the lines now
pub record IsKept (s : Scene) : Type 0 where
  pub is_padded : IsPadded (marks s.listing) (padded s.listing) (code_of (lines_of s))
  pub as_many : length (marks s.listing) ≡ length (padded s.listing).places
  pub live : IsKeptLive (padded s.listing) s.live

-- and so is its layout, where one is kept
pub record IsOver (r : Rules) (s : Scene) : Type 0 where
  pub kept : IsKept s
  pub over : AreOver r s.layout (lines_of s)

-- the run of at most `most` instructions from a kept place on that may stand in a window
pub record IsRun (most : ℕ) (s : Scene) (place : ℕ) (r : Run) : Type 0 where
  pub instrs : r.instrs ≡ run true most (drop (rank (marks s.listing) place) (rows_from false (lines_of s)))
  pub places : AreRanked (marks s.listing) (rank (marks s.listing) place) r.places.items
  pub as_many : length r.places.items ≡ length r.instrs

-- a site of the scene: a kept place with its number now, its run, and whether labels stay code where all of the run goes
pub record IsSite (most : ℕ) (s : Scene) (t : Site) : Type 0 where
  pub within : t.place < length s.listing.stands
  pub kept : is_gone (marks s.listing) t.place ≡ false
  pub number : t.number ≡ rank (marks s.listing) t.place
  pub instrs : t.run.instrs ≡ run true most (drop t.number (rows_from false (lines_of s)))
  pub places : AreRanked (marks s.listing) t.number t.run.places.items
  pub as_many : length t.run.places.items ≡ length t.run.instrs
  pub vanishes : (t.may_vanish ≡ true) ↔ IsSettled (places_of (lines_of s)) (labels_from 0 (lines_of s)) t.number (length t.run.instrs) []

-- its layout, where one is kept, is positioned at the site
abbrev pub IsNear : Scene → Site → Type 0
IsNear s t = StandsNear s.layout t.number

-- ---- a lookup at a site ----

abbrev pub lines_seen : SiteLookup → List ListingLine
lines_seen l = lines_of l.scene.now

abbrev pub number_seen : SiteLookup → ℕ
number_seen l = l.site.now.number

-- the table is ready, and the site is one of the scene
pub record IsSiteLookup (l : SiteLookup) : Type 0 where
  pub ready : AreReady l.rules.now
  pub over : IsOver l.rules.now l.scene.now
  pub site : IsSite l.rules.now.longest l.scene.now l.site.now
  pub near : IsNear l.scene.now l.site.now

-- the window stands at the site, is no longer than its run, and has this form
pub record IsSight (t : Sight) : Type 0 where
  pub lookup : IsSiteLookup t.lookup.now
  pub stands : StandsThere (lines_seen t.lookup.now) (number_seen t.lookup.now) t.window.now t.form.now.live.bits
  pub within : length t.window.now ≤ length t.lookup.now.site.now.run.instrs
  pub form : IsForm t.window.now t.form.now

-- the lines that are left where a window there gives way
abbrev pub lines_left : SiteLookup → List Instr → List Instr → List ListingLine
lines_left l window new = replaced_lines own_line (number_seen l) (length window) new (lines_seen l)

-- they are not too many, and can be laid out, where that isn't sure
pub record MayBeLeft (l : SiteLookup) (window new : List Instr) : Type 0 where
  pub few : length (lines_left l window new) ≤ max (length (lines_seen l)) most_lines
  pub layable : is_steady l.scene.now.layout ≡ false → Layable l.rules.now.base (lines_left l window new)
