-- Where instructions gave way and no other set changes.
use Rattle.std.proofs.Common.{◌≡◌, ℕ, zero, suc, ◌+◌, ◌-◌, ◌<◌, ◌≤◌, true, List, [], ◌∷◌, length, take, drop, map, Some, refl, sym, ap, ◌∙◌, subst, ◌⊎◌, inr, arith}
use Rattle.std.specs.Prelude.{slice_get}
use Rattle.std.proofs.lemmas.Option.{same_Some, slice_get_within}
use Rattle.thumb_instr.specs.declared.instr.Instr.{Instr}
use Rattle.thumb_instr.specs.declared.items.Items.{Items}
use Rattle.thumb_instr.specs.Items.{has}
use Rattle.thumb_model.specs.Listing.{Place, plain, Label, ListingLine, Code, code_of, is_code, labels_from, places_of}
use Rattle.thumb_model.specs.Flow.{Way, ways}
use Rattle.thumb_model.specs.Replaced.{moved, move_label, replaced, replaced_lines}
use Rattle.thumb_model.proofs.Lists.{cons_same, length_drop, length_map, take_short}
use Rattle.thumb_model.proofs.LinesReplaced.{code_replaced, outside_of, ops_of}
use Rattle.thumb_model.proofs.Moved.{fetch_window}
use Rattle.liveness.specs.declared.kept.NewSets.{NewSets}
use Rattle.liveness.specs.Live.{Sets, set_at, IsLive}
use Rattle.liveness.specs.Kept.{FlowOf, AreFlowsFrom, KeepsAt, replaced_sets}
use Rattle.liveness.specs.Changes.{AreReadFrom, WasLive}
use Rattle.liveness.specs.Through.{live_through, nothing, AreThrough}
use Rattle.padded_code.proofs.Padded.{way_to}
use Rattle.liveness.proofs.Moves.{fits_in}
use Rattle.liveness.proofs.FlowLaws.{flow_back}
use Rattle.liveness.proofs.GivesWay.{RegionGivesWay, gives_way}
use Rattle.liveness.proofs.Keeping.{alone_reads}
use Rattle.liveness.proofs.KeptSets.{IsTested, is_live}
use Rattle.common_lemmas.proofs.Lists.{map_back}

-- lists with the same elements
same_elements : (xs ys : List Instr) → length xs ≡ length ys → ((k : ℕ) (x : Instr) → slice_get xs k ≡ Some x → slice_get ys k ≡ Some x) → xs ≡ ys
same_elements [] [] e h = refl
same_elements [] (y ∷ ys) e h = absurd (omega arith)
same_elements (x ∷ xs) [] e h = absurd (omega arith)
same_elements (x ∷ xs) (y ∷ ys) e h = cons_same x y xs ys (sym (same_Some y x (h 0 x refl))) (same_elements xs ys (omega arith) (λ k z g. h (suc k) z g))

plain_same : (i j : Instr) → plain i ≡ plain j → i ≡ j
plain_same i j e = cc

pub same_sets : (b c a d : List Items) → b ≡ c → a ≡ d → (let s : Sets = record { before = b; after = a } in s) ≡ record { before = c; after = d }
same_sets b c a d e f = cc

-- the code that is left where fewer instructions stand
code_left : (write : Instr → List ℕ) (lines : List ListingLine) (p n : ℕ) (window new : List Instr) → KeepsAt (code_of lines) p window new → n ≡ length window → code_of (replaced_lines write p n new lines) ≡ replaced (code_of lines) p n new
code_left write lines p zero window new at e = let s = at.shorter in absurd (omega arith)
code_left write lines p (suc n) window new at e =
    let s = at.shorter in
    code_replaced write p n new lines (omega arith)
    (ops_of window (suc n) (drop p (places_of lines)) e (ap (λ k. take k (drop p (places_of lines))) e ∙ at.stands))
    (outside_of p (suc n) (labels_from 0 lines) (subst (λ k. (j : ℕ) (l : Label) → slice_get (labels_from 0 lines) j ≡ Some l → (l.place ≤ p) ⊎ (p + k ≤ l.place)) (sym e) at.unlabelled))

module _ (lines : List ListingLine) (place old new : ℕ) (sets : Sets) (w : WasLive lines place old new sets) where
  abbrev code : Code
  code = code_of w.before

  within : place + old ≤ length code.places
  within =
      let n : length (take old (drop place code.places)) ≡ length w.window = ap (λ (ps : List Place). length ps) w.stood ∙ length_map plain w.window in
      let t = take_short old (drop place code.places) in
      let d = length_drop place code.places in
      let o = w.old_many in
      let s = w.some in
      omega arith

  pub before_within : place + old ≤ length sets.before
  before_within = let i = within in let b = w.live.before_len in omega arith

  pub after_within : place + old ≤ length sets.after
  after_within = let i = within in let a = w.live.after_len in omega arith

  module _ (shorter : new < old) where
    keeps : KeepsAt code place w.window w.instrs
    keeps = record {
      stands = ap (λ n. take n (drop place code.places)) w.old_many ∙ w.stood;
      in_window = w.in_window;
      new_in_window = w.new_in_window;
      shorter = let o = w.old_many in let n = w.new_many in omega arith;
      unlabelled = λ k l e. subst (λ c. (l.place ≤ place) ⊎ (place + c ≤ l.place)) (sym w.old_many) (w.unlabelled k l e);
      labels_stay = λ k l e t.
          subst (λ c. is_code (replaced code place c w.instrs).places (move_label place (c - length w.instrs) l) ≡ true) (sym w.old_many)
          (subst (λ c. is_code (replaced code place old w.instrs).places (move_label place (old - c) l) ≡ true) (sym w.new_many) (w.labels_stay k l e t));
    }

    abbrev left : Code
    left = replaced code place (length w.window) w.instrs

    abbrev to : ℕ → ℕ
    to = moved place (length w.window - length w.instrs)

    code_is : code_of lines ≡ left
    code_is = ap code_of w.is ∙ code_left w.write w.before place old w.window w.instrs keeps (sym w.old_many) ∙ ap (λ n. replaced code place n w.instrs) (sym w.old_many)

    gives : RegionGivesWay code left to place w.window w.instrs
    gives = gives_way code place w.window w.instrs keeps

    -- the instructions that stand there are the new ones
    pub new_ones : (is : List Instr) → length is ≡ new → ((k : ℕ) (i : Instr) → slice_get is k ≡ Some i → slice_get (places_of lines) (place + k) ≡ Some (plain i)) → is ≡ w.instrs
    new_ones is n h = same_elements is w.instrs (n ∙ sym w.new_many) (λ k i e.
        let l = slice_get_within is k i e in
        let there : slice_get left.places (place + k) ≡ slice_get (map plain w.instrs) k = fetch_window code place (length w.window) w.instrs (fits_in code place w.window w.instrs keeps) k (let m = w.new_many in omega arith) in
        let found = map_back plain w.instrs k (plain i) (sym there ∙ sym (ap (λ (c : Code). slice_get c.places (place + k)) code_is) ∙ h k i e) in
        found.1 ∙ ap (λ (j : Instr). Some j) (sym (plain_same i found.0 found.2)))

    -- the sets before and after the window
    module _ (before after : Items) (kept : List NewSets) (eb : set_at sets.before place ≡ before.bits) (ea : set_at sets.after (place + old - 1) ≡ after.bits)
        (first : (x : ℕ) → live_through w.instrs (λ y. has after.bits y) x ≡ has before.bits x)
        (read : AreReadFrom (code_of lines) w.instrs before (place + new))
        (many : length kept ≡ length w.instrs)
        (through : AreThrough w.instrs after kept) where
      was_before : (x : ℕ) → live_through w.window nothing x ≡ true → has before.bits x ≡ true
      was_before x h =
          ap (λ b. has b x) (sym eb) ∙ (w.live.before place x (let i = within in let s = w.some in omega arith)).1 (alone_reads code w.window place x gives.window_runs h)

      tested : IsTested w.window w.instrs before after read.ahead kept
      tested = record {
        as_many = many;
        through = through;
        was = λ x h. first x ∙ h;
        lost = λ x h n. read.read x (was_before x h) n;
      }

      flows : AreFlowsFrom code (place + length w.window) read.ahead
      flows k f e =
          let b = gives.behind (place + length w.window + k) (omega arith) in
          let n = w.new_many in
          let at : place + new + k ≡ to (place + length w.window + k) = omega arith in
          let same : ways (code_of lines) (place + new + k) ≡ map (way_to to) (ways code (place + length w.window + k)) =
          ap (λ (c : Code). ways c (place + new + k)) code_is ∙ ap (ways left) at ∙ gives.ways_moved (place + length w.window + k) (inr (omega arith)) in
          flow_back to (ways code (place + length w.window + k)) f (subst (λ (ws : List Way). FlowOf ws f) same (read.flows k f e))

      pub changed_live : IsLive (code_of lines) (replaced_sets place old kept sets)
      changed_live =
          let last : set_at sets.after (place + length w.window - 1) ≡ after.bits = ap (λ n. set_at sets.after (place + n - 1)) w.old_many ∙ ea in
          subst (λ (c : Code). IsLive c (replaced_sets place old kept sets)) (sym code_is)
          (subst (λ n. IsLive left (replaced_sets place n kept sets)) w.old_many
          (is_live code left to place w.window w.instrs sets before after read.ahead kept tested w.live gives flows eb last (λ x h. sym (first x) ∙ h)))
