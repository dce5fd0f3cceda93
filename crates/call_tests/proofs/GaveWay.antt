-- What the update of live sets requires, for a window of two instructions that was replaced by one.
use Rattle.std.proofs.Common.{◌≡◌, ◌∙◌, ℕ, ◌+◌, ◌<◌, ◌≤◌, ◌⊎◌, inl, List, [], ◌∷◌, true, false, Some, length, take, drop, refl, ap, arith, sym, subst}
use Rattle.std.specs.Prelude.{slice_get}
use Rattle.std.proofs.lemmas.Bool.{and_from}
use Rattle.std.proofs.lemmas.List.{take_all}
use Rattle.thumb_instr.specs.declared.instr.Instr.{Instr}
use Rattle.thumb_instr.specs.Window.{is_in_window}
use Rattle.thumb_model.specs.Listing.{Place, Label, ListingLine, places_of, labels_from, code_of, is_op_place}
use Rattle.thumb_model.specs.Replaced.{are_joined_from, IsWindow}
use Rattle.thumb_model.proofs.Lists.{get_drop, get_take}
use Rattle.listing_parser.specs.Parsing.{own_line}
use Rattle.liveness.specs.Live.{Sets, IsLive}
use Rattle.liveness.specs.Changes.{WasLive}
use Rattle.window_runs.specs.declared.rows.WindowPlace.{WindowPlace}
use Rattle.window_runs.specs.Rows.{rows_from}
use Rattle.window_runs.specs.Runs.{run}
use Rattle.window_runs.proofs.Joined.{run_window}
use Rattle.window_rewrite.proofs.Settled.{IsGap, settled_stay}
use Rattle.window_rewrite.proofs.WindowPlaces.{first_op, window_within}
use Rattle.call_tests.specs.Windows.{GaveWay}
use Rattle.padded_code.proofs.Lines.{plain_op}

-- a run of two in a listing's rows is a window
pub run_of_two : (lines : List ListingLine) (all rows : List WindowPlace) (place : ℕ) (is : List Instr)
    → all ≡ rows_from false lines → rows ≡ all → is ≡ run true 2 (drop place rows) → length is ≡ 2 → IsWindow lines place is
run_of_two lines all rows place is e r f two =
    let whole : rows ≡ rows_from false lines = r ∙ e in
    let same : take 2 (run true 2 (drop place (rows_from false lines))) ≡ is =
    ap (take 2) (sym (f ∙ ap (λ (rs : List WindowPlace). run true 2 (drop place rs)) whole)) ∙ take_all 2 is (omega arith) in
    subst (λ (js : List Instr). IsWindow lines place js) same (run_window lines place 2 2 (subst (λ (js : List Instr). 1 ≤ length js) (sym same) (omega arith)))

-- there are instructions at a window's places
pub window_ops : (lines : List ListingLine) (place : ℕ) (window : List Instr) → IsWindow lines place window → (k : ℕ) → k < length window → is_op_place (slice_get (places_of lines) (place + k)) ≡ true
window_ops lines place window w k h =
    ap is_op_place (sym (get_drop place (places_of lines) k (place + k) refl) ∙ sym (get_take (length window) (drop place (places_of lines)) k h) ∙ ap (λ (ps : List Place). slice_get ps k) w.stands)
    ∙ plain_op window k h

-- no label stands within it
pub window_unlabelled : (lines : List ListingLine) (place : ℕ) (window : List Instr) (n : ℕ) → length window ≡ n → IsWindow lines place window → (k : ℕ) (l : Label) → slice_get (labels_from 0 lines) k ≡ Some l → (l.place ≤ place) ⊎ (place + n ≤ l.place)
window_unlabelled lines place window n e w = subst (λ m. (k : ℕ) (l : Label) → slice_get (labels_from 0 lines) k ≡ Some l → (l.place ≤ place) ⊎ (place + m ≤ l.place)) e w.unlabelled

pub window_joined : (lines : List ListingLine) (place : ℕ) (window : List Instr) (n : ℕ) → length window ≡ n → IsWindow lines place window → are_joined_from place n lines ≡ true
window_joined lines place window n e w = subst (λ m. are_joined_from place m lines ≡ true) e w.joined

-- ---- live sets ----

gap_of_two : (before : List ListingLine) (place : ℕ) (instr : Instr) (lines : List ListingLine) → GaveWay before place instr lines → IsGap (places_of before) (labels_from 0 before) place 2 (instr ∷ [])
gap_of_two before place instr lines g = record {
  within = window_within g.window 2 (places_of before) place g.two (omega arith) (ap (λ n. take n (drop place (places_of before))) (sym g.two) ∙ g.stood.stands);
  some = omega arith;
  no_longer = omega arith;
  first = first_op g.window 2 (places_of before) place g.two (omega arith) (ap (λ n. take n (drop place (places_of before))) (sym g.two) ∙ g.stood.stands);
  unlabelled = window_unlabelled before place g.window 2 g.two g.stood;
}

pub was_live : (before : List ListingLine) (place : ℕ) (instr : Instr) (lines : List ListingLine) (sets : Sets) → GaveWay before place instr lines → is_in_window instr ≡ true → IsLive (code_of before) sets → WasLive lines place 2 1 sets
was_live before place instr lines sets g in_window live = record {
  before = before;
  window = g.window;
  instrs = instr ∷ [];
  write = own_line;
  live = live;
  some = omega arith;
  few = omega arith;
  old_many = g.two;
  new_many = refl;
  stood = ap (λ n. take n (drop place (places_of before))) (sym g.two) ∙ g.stood.stands;
  in_window = g.stood.in_window;
  new_in_window = and_from (is_in_window instr) true in_window refl;
  unlabelled = window_unlabelled before place g.window 2 g.two g.stood;
  labels_stay = settled_stay (places_of before) (labels_from 0 before) place 2 (instr ∷ []) (gap_of_two before place instr lines g) (inl (omega arith));
  is = g.is;
}
