-- A window of kept places that gives way in a padded code: the code that is left, and its live items.
use Rattle.std.proofs.Common.{◌≡◌, ℕ, zero, suc, ◌+◌, ◌-◌, ◌<◌, ◌≤◌, Bool, true, false, List, [], ◌∷◌, length, take, drop, map, get_or, Some, refl, sym, ap, ◌∙◌, subst, ◌⊎◌, inl, inr, arith}
use Rattle.std.specs.Prelude.{slice_get}
use Rattle.std.specs.List.{list_all}
use Rattle.std.proofs.lemmas.Bool.{and_parts, and_from, cases_lt}
use Rattle.thumb_instr.specs.declared.instr.Instr.{Instr}
use Rattle.thumb_instr.specs.declared.instr.Instr.TheVariants as instr
use Rattle.thumb_instr.specs.Window.{is_in_window}
use Rattle.thumb_model.specs.Listing.{Place, plain, Label, ListingLine, Code, is_code, is_op_place, code_of, places_of, labels_from}
use Rattle.thumb_model.specs.Replaced.{move_label, replaced, replaced_lines}
use Rattle.thumb_model.proofs.LinesReplaced.{ops_of, outside_of}
use Rattle.rule_model.proofs.AsMany.{code_replaced_by}
use Rattle.listing_parser.specs.Parsing.{own_line}
use Rattle.window_rewrite.specs.Settled.{MayGiveWay}
use Rattle.kept_places.specs.Marks.{is_gone, rank}
use Rattle.kept_places.proofs.Ranks.{rank_kept, ranks_ascend, outside_by_rank}
use Rattle.shrinking_sets.specs.Straight.{is_straight, IsUnlabelled}
use Rattle.padded_code.specs.Padding.{ranked, IsPadded}
use Rattle.padded_code.specs.Exchange.{marks_after, exchanged, AreKeptFrom, GivesWay}
use Rattle.padded_code.specs.Windows.{AreRanked}
use Rattle.padded_code.specs.Spread.{spread, last_of}
use Rattle.padded_code.proofs.Padded.{label_in}
use Rattle.padded_code.proofs.Exchanged.{stays_padded}
use Rattle.padded_code.proofs.Windows.{windows_stand}
use Rattle.padded_code.proofs.Spread.{exchange_is_straight, spreads_end}
use Rattle.liveness.specs.Window.{AreAscending, IsWindowExchange}

-- ---- instructions ----

-- what may stand in a window is straight
straight_instr : (i : Instr) → is_in_window i ≡ true → is_straight i ≡ true
straight_instr (instr.Mov d m) h = refl
straight_instr i h = cc

straight_instrs : (is : List Instr) → list_all is_in_window is ≡ true → list_all is_straight is ≡ true
straight_instrs [] h = refl
straight_instrs (i ∷ is) h =
    let w = and_parts (is_in_window i) (list_all is_in_window is) h in
    and_from (is_straight i) (list_all is_straight is) (straight_instr i w.0) (straight_instrs is w.1)

-- ---- kept places of ranks that follow one another ----

-- they ascend
pub ascending : (gone : List Bool) (from r : ℕ) (ps : List ℕ) → rank gone from ≤ r → AreRanked gone r ps → AreAscending from ps
ascending gone from r [] h a = tt
ascending gone from r (p ∷ ps) h a = (
  elim (cases_lt p from) [ inl l ↦ absurd (let up = ranks_ascend gone p from a.1 l in let here = a.2 in omega arith) | inr l ↦ l ],
  ascending gone (suc p) (suc r) ps (let one = rank_kept gone p a.1 in let here = a.2 in omega arith) a.3,
)

-- each is a kept place of its rank
pub ranked_at : (gone : List Bool) (r : ℕ) (ps : List ℕ) → AreRanked gone r ps → (k : ℕ) → k < length ps → (get_or ps k 0 < length gone) × (is_gone gone (get_or ps k 0) ≡ false) × (rank gone (get_or ps k 0) ≡ r + k)
ranked_at gone r [] a k h = absurd (omega arith)
ranked_at gone r (p ∷ ps) a zero h = (a.0, a.1, let here = a.2 in omega arith)
ranked_at gone r (p ∷ ps) a (suc k) h = let b = ranked_at gone (suc r) ps a.3 k (omega arith) in (b.0, b.1, omega (arith, b.2))

last_ranked : (gone : List Bool) (r p : ℕ) (ps : List ℕ) → AreRanked gone r (p ∷ ps) → (is_gone gone (last_of p ps) ≡ false) × (rank gone (last_of p ps) ≡ r + length ps)
last_ranked gone r p [] a = (a.1, let here = a.2 in omega arith)
last_ranked gone r p (q ∷ ps) a = let l = last_ranked gone (suc r) q ps a.3 in (l.0, omega (arith, l.1))

-- instructions stand there
kept_from : (gone : List Bool) (places : List Place) (r : ℕ) (ps : List ℕ) (window : List Instr) → AreRanked gone r ps → map (slice_get places) ps ≡ map Some (map plain window) → AreKeptFrom gone places r ps
kept_from gone places r [] window a e = tt
kept_from gone places r (p ∷ ps) [] a e = absurd (cc)
kept_from gone places r (p ∷ ps) (i ∷ is) a e =
    let here : slice_get places p ≡ Some (plain i) = cc in
    let there : map (slice_get places) ps ≡ map Some (map plain is) = cc in
    (a.0, a.1, a.2, ap is_op_place here, kept_from gone places (suc r) ps is a.3 there)

-- ---- the window ----

-- the code that is left where no more instructions stand
code_left : (lines : List ListingLine) (r n : ℕ) (window new : List Instr) → MayGiveWay (code_of lines) r window new → n ≡ length window → code_of (replaced_lines own_line r n new lines) ≡ replaced (code_of lines) r n new
code_left lines r zero window new k e = let s = k.some in absurd (omega arith)
code_left lines r (suc n) window new k e =
    let few = k.no_longer in
    code_replaced_by own_line r n new lines (omega arith)
    (ops_of window (suc n) (drop r (places_of lines)) e (ap (λ c. take c (drop r (places_of lines))) e ∙ k.stands))
    (outside_of r (suc n) (labels_from 0 lines) (subst (λ c. (j : ℕ) (l : Label) → slice_get (labels_from 0 lines) j ≡ Some l → (l.place ≤ r) ⊎ (r + c ≤ l.place)) (sym e) k.unlabelled))

-- what gives way stands at the kept places
stands : (gone : List Bool) (padded code : Code) → IsPadded gone padded code → length gone ≡ length padded.places → (r : ℕ) (ps : List ℕ) (window new : List Instr) → AreRanked gone r ps → length ps ≡ length window → MayGiveWay code r window new
    → map (slice_get padded.places) ps ≡ map Some (map plain window)
stands gone padded code s m r ps window new a n k = sym (windows_stand gone padded code s m r ps a) ∙ ap (λ c. map Some (take c (drop r code.places))) n ∙ ap (map Some) k.stands

-- the code in which the kept places give way is that of the lines that are left
pub still_padded : (gone : List Bool) (padded : Code) (lines : List ListingLine) → IsPadded gone padded (code_of lines) → length gone ≡ length padded.places → (r : ℕ) (ps : List ℕ) (window new : List Instr) → AreRanked gone r ps → length ps ≡ length window
    → MayGiveWay (code_of lines) r window new → IsPadded (marks_after ps new gone) (exchanged ps new padded) (code_of (replaced_lines own_line r (length window) new lines))
still_padded gone padded lines s m r ps window new a n k =
    let few = k.no_longer in
    let code : Code = code_of lines in
    let gives : GivesWay gone padded code r ps new = record {
      kept = kept_from gone padded.places r ps window a (stands gone padded code s m r ps window new a n k);
      no_longer = omega arith;
      unlabelled = subst (λ c. (j : ℕ) (l : Label) → slice_get code.labels j ≡ Some l → (l.place ≤ r) ⊎ (r + c ≤ l.place)) (sym n) k.unlabelled;
      labels_stay = subst (λ c. (j : ℕ) (l : Label) → slice_get code.labels j ≡ Some l → is_code code.places l ≡ true → is_code (replaced code r c new).places (move_label r (c - length new) l) ≡ true) (sym n) k.labels_stay;
    } in
    let left : replaced code r (length ps) new ≡ code_of (replaced_lines own_line r (length window) new lines) = ap (λ c. replaced code r c new) n ∙ sym (code_left lines r (length window) window new k refl) in
    subst (IsPadded (marks_after ps new gone) (exchanged ps new padded)) left (stays_padded gone padded code s r ps new gives)

-- no label stands within the window, with the places that are gone
unlabelled_within : (gone : List Bool) (padded code : Code) → IsPadded gone padded code → (r p : ℕ) (ps : List ℕ) (window new : List Instr) → AreRanked gone r (p ∷ ps) → length (p ∷ ps) ≡ length window → MayGiveWay code r window new
    → IsUnlabelled padded p (length (spread p (p ∷ ps) window))
unlabelled_within gone padded code s r p ps window new a n k = λ j l e.
    let q : ℕ = last_of p ps in
    let last = last_ranked gone r p ps a in
    let ends = spreads_end gone r p ps window a in
    let here = a.2 in
    let by_rank : (rank gone l.place ≤ rank gone p) ⊎ (rank gone q < rank gone l.place) = elim (k.unlabelled j (ranked gone l) (label_in gone padded code s j l e)) [
      | inl h ↦ inl (omega arith)
      | inr h ↦ inr (let there = last.1 in omega arith)
    ] in
    elim ((outside_by_rank gone p q l.place a.1 last.0).0 by_rank) [
      | inl h ↦ inl h
      | inr h ↦ inr (omega arith)
    ]

-- so the window gives way as the kept sets of live items require it
pub gives_way : (gone : List Bool) (padded code : Code) → IsPadded gone padded code → length gone ≡ length padded.places → (r : ℕ) (ps : List ℕ) (window new : List Instr) → AreRanked gone r ps → length ps ≡ length window → MayGiveWay code r window new
    → IsWindowExchange padded (exchanged ps new padded) ps window new
gives_way gone padded code s m r [] window new a n k = let some = k.some in absurd (omega arith)
gives_way gone padded code s m r (p ∷ ps) window new a n k =
    let few = k.no_longer in
    record {
      as_many = sym n;
      few = omega arith;
      exchange = exchange_is_straight gone padded code s m r p ps window new a (stands gone padded code s m r (p ∷ ps) window new a n k) (omega arith) (straight_instrs window k.in_window) (straight_instrs new k.new_in_window);
      unlabelled = unlabelled_within gone padded code s r p ps window new a n k;
    }
