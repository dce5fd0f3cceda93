-- What is known of a listing that is rewritten: at first, at a site, and where a window gives way.
use Rattle.std.proofs.Common.{◌≡◌, ◌↔◌, ℕ, zero, suc, ◌+◌, ◌-◌, ◌<◌, ◌≤◌, Bool, true, false, List, [], ◌∷◌, length, take, drop, get_or, replicate, Option, Some, None, refl, sym, ap, ◌∙◌, subst, ◌⊎◌, inl, inr, arith, true≢false}
use Rattle.std.specs.Prelude.{slice_get, IfSome}
use Rattle.std.specs.Option.{option_map}
use Rattle.std.specs.List.{list_all}
use Rattle.std.proofs.lemmas.Bool.{and_parts}
use Rattle.std.proofs.lemmas.Option.{slice_get-map, slice_get_past}
use Rattle.thumb_instr.specs.declared.instr.Instr.{Instr}
use Rattle.thumb_instr.specs.Items.{has}
use Rattle.thumb_instr.specs.Window.{is_in_window}
use Rattle.thumb_model.specs.Listing.{Place, plain, Label, ListingLine, Code, is_op_place, code_of, places_of, labels_from}
use Rattle.thumb_model.specs.Flow.{Reads, LiveAfter}
use Rattle.thumb_model.specs.Layout.{Layable}
use Rattle.thumb_model.specs.Replaced.{replaced_lines, IsWindow}
use Rattle.thumb_model.proofs.Lists.{get_drop, get_take, length_map, present_at}
use Rattle.thumb_model.proofs.Lists.{take_all as take_many}
use Rattle.thumb_model.proofs.LinesReplaced.{before, outside_of}
use Rattle.rule_model.specs.Rules.{Rule}
use Rattle.rule_model.specs.Rewriting.{Setting, Replacement, AppliesIn, lines_after_rule, lines_after}
use Rattle.listing_parser.specs.Parsing.{own_line}
use Rattle.liveness.specs.Live.{word_of, set_at}
use Rattle.liveness.proofs.Paths.{has_zero}
use Rattle.steady_layout.specs.Steady.{IsSteady}
use Rattle.steady_layout.proofs.Cuts.{AreTwos, cut}
use Rattle.steady_layout.proofs.Laws.{twos_of, plain_of, cut_stays}
use Rattle.window_runs.specs.Rows.{rows_from}
use Rattle.window_runs.specs.Runs.{run}
use Rattle.window_runs.proofs.Joined.{run_window}
use Rattle.kept_places.specs.Marks.{is_gone, rank}
use Rattle.padded_code.specs.Padding.{IsPadded}
use Rattle.padded_code.specs.Exchange.{marks_after, exchanged}
use Rattle.padded_code.specs.Windows.{AreRanked}
use Rattle.padded_code.proofs.Padded.{place_kept}
use Rattle.padded_code.proofs.Exchanged.{whole_padded}
use Rattle.padded_code.proofs.Windows.{live_behind}
use Rattle.edited_listing.specs.declared.standing.Standing.TheVariants as standing
use Rattle.edited_listing.specs.Changes.{is_none, marks_of}
use Rattle.edited_listing.specs.Edited.{Edited, lines_now, marks, padded, standing_places, unchanged}
use Rattle.edited_listing.specs.Known.{HasLabelAt}
use Rattle.kept_layout.specs.Kept.{Lays}
use Rattle.liveness.specs.Parts.{Parts}
use Rattle.liveness.specs.KeptLive.{IsKeptLive}
use Rattle.liveness.specs.Window.{IsWindowExchange}
use Rattle.window_rewrite.specs.declared.choice.Choice.{Choice}
use Rattle.window_rewrite.specs.declared.finding.Rules.{Rules}
use Rattle.window_rewrite.specs.declared.known_layout.KnownLayout.{KnownLayout}
use Rattle.window_rewrite.specs.Choices.{setting_of, choice_of, IsChoice}
use Rattle.window_rewrite.specs.Settled.{IsSettled, MayGiveWay}
use Rattle.window_rewrite.specs.Layouts.{is_steady, Allows, AreOver, HasLayout, IsSteadyIf, Moves, StandsNear}
use Rattle.window_rewrite.proofs.ScenesWindows.{gives_way, ranked_at, still_padded}
use Rattle.liveness.proofs.Moves.{in_window_at}
use Rattle.edited_listing.proofs.Unchanged.{length_given as many_given}
use Rattle.padded_code.proofs.Spread.{length_after}
use Rattle.window_rewrite.proofs.DuePlaces.{taken_ranked, marks_length}

-- ---- at first ----

none_gone : (n p : ℕ) → is_gone (marks_of (replicate n standing.Given)) p ≡ false
none_gone zero p = refl
none_gone (suc n) zero = refl
none_gone (suc n) (suc p) = none_gone n p

as_given : (xs : List Place) → standing_places (replicate (length xs) standing.Given) xs ≡ xs
as_given [] = refl
as_given (x ∷ xs) = ap (λ ys. x ∷ ys) (as_given xs)

-- a listing of which nothing is changed has all its places
pub first_many : (lines : List ListingLine) (e : Edited) → e ≡ unchanged lines → length e.stands ≡ length (places_of lines)
first_many lines e h = ap (λ (e : Edited). length e.stands) h ∙ many_given (length (places_of lines))

-- none is gone
pub first_none_gone : (lines : List ListingLine) (e : Edited) → e ≡ unchanged lines → (p : ℕ) → is_gone (marks e) p ≡ false
first_none_gone lines e h p = ap (λ (e : Edited). is_gone (marks e) p) h ∙ none_gone (length (places_of lines)) p

-- and the code of all places is its code
pub first_code : (lines : List ListingLine) (e : Edited) → e ≡ unchanged lines → padded e ≡ code_of lines
first_code lines e h = ap padded h ∙ ap (λ (ps : List Place). record { places = ps; labels = labels_from 0 lines }) (as_given (places_of lines))

pub first_padded : (lines : List ListingLine) (e : Edited) → e ≡ unchanged lines → lines_now e ≡ lines → IsPadded (marks e) (padded e) (code_of (lines_now e))
first_padded lines e h same =
    subst (λ (ls : List ListingLine). IsPadded (marks e) (padded e) (code_of ls)) (sym same)
    (subst (λ (c : Code). IsPadded (marks e) c (code_of lines)) (sym (first_code lines e h)) (whole_padded (marks e) (code_of lines) (first_none_gone lines e h)))

pub first_as_many : (lines : List ListingLine) (e : Edited) → e ≡ unchanged lines → length (marks e) ≡ length (padded e).places
first_as_many lines e h = length_map is_none e.stands ∙ first_many lines e h ∙ sym (ap (λ (c : Code). length c.places) (first_code lines e h))

pub first_live : (lines : List ListingLine) (e : Edited) (k : Parts) → e ≡ unchanged lines → IsKeptLive (code_of lines) k → IsKeptLive (padded e) k
first_live lines e k h live = subst (λ (c : Code). IsKeptLive c k) (sym (first_code lines e h)) live

-- the layout, where it is kept, is that of the lines
pub first_over : (r : Rules) (g : KnownLayout) (lines now : List ListingLine) (b : Bool) → now ≡ lines → Layable r.base lines → is_steady g ≡ b → IsSteadyIf r.base lines b → HasLayout r.base g lines → AreOver r g now
first_over r g lines now b e layable same steady layout =
    subst (λ (ls : List ListingLine). AreOver r g ls) (sym e) (record {
      layable = layable;
      aligned = λ h. (steady (sym same ∙ h)).0;
      steady = λ h. (steady (sym same ∙ h)).1;
      layout = layout;
    })

-- an implication carries over to what an option may hold
said_still : {X : Type 0} (o : Option X) (P Q : X → Type 0) → ((x : X) → P x → Q x) → IfSome o P → IfSome o Q
said_still None P Q f h = tt
said_still (Some x) P Q f h = f x h

-- ---- a run ----

-- the first instructions of a run are a window
pub run_front : (lines : List ListingLine) (most number count : ℕ) (instrs : List Instr) → instrs ≡ run true most (drop number (rows_from false lines)) → 0 < count → count ≤ length instrs → IsWindow lines number (take count instrs)
run_front lines most number count instrs e some few =
    let many : length (take count instrs) ≡ count = take_many count instrs few in
    let all : length (take count (run true most (drop number (rows_from false lines)))) ≡ length (take count instrs) = ap (λ (is : List Instr). length (take count is)) (sym e) in
    subst (λ (is : List Instr). IsWindow lines number (take count is)) (sym e) (run_window lines number most count (omega arith))

-- an instruction of a run stands at its place
pub record StandsInRun (lines : List ListingLine) (number k : ℕ) : Type 0 where
  pub instr : Instr
  pub stands : slice_get (places_of lines) (number + k) ≡ Some (plain instr)
  pub in_window : is_in_window instr ≡ true

pub run_stands : (lines : List ListingLine) (most number k : ℕ) (instrs : List Instr) → instrs ≡ run true most (drop number (rows_from false lines)) → k < length instrs → StandsInRun lines number k
run_stands lines most number k instrs e h =
    let w = run_front lines most number (suc k) instrs e (omega arith) h in
    let i = present_at instrs k h in
    let here : slice_get (take (suc k) instrs) k ≡ Some i.0 = get_take (suc k) instrs k (omega arith) ∙ i.1 in
    let many : length (take (suc k) instrs) ≡ suc k = take_many (suc k) instrs h in
    record {
      instr = i.0;
      stands =
          sym (get_drop number (places_of lines) k (number + k) refl)
          ∙ sym (get_take (suc k) (drop number (places_of lines)) k (omega arith))
          ∙ ap (λ n. slice_get (take n (drop number (places_of lines))) k) (sym many)
          ∙ ap (λ (ps : List Place). slice_get ps k) w.stands
          ∙ slice_get-map plain (take (suc k) instrs) k
          ∙ ap (option_map plain) here;
      in_window = in_window_at (take (suc k) instrs) k i.0 w.in_window here;
    }

-- what is live after it is what is read from the place behind it
pub run_live : (e : Edited) (most number : ℕ) (instrs : List Instr) (ps : List ℕ) → IsPadded (marks e) (padded e) (code_of (lines_now e)) → instrs ≡ run true most (drop number (rows_from false (lines_now e)))
    → AreRanked (marks e) number ps → length ps ≡ length instrs → (k : ℕ) → k < length instrs → (x : ℕ) → LiveAfter (code_of (lines_now e)) (number + k) x ↔ Reads (padded e) x (suc (get_or ps k 0))
run_live e most number instrs ps s is a n k h x =
    let code : Code = code_of (lines_now e) in
    let p : ℕ = get_or ps k 0 in
    let at = ranked_at (marks e) number ps a k (omega arith) in
    let there = run_stands (lines_now e) most number k instrs is h in
    let stands : slice_get (padded e).places p ≡ Some (plain there.instr) = sym (place_kept (marks e) (padded e) code s p at.1) ∙ ap (slice_get code.places) at.2 ∙ there.stands in
    subst (λ q. LiveAfter code q x ↔ Reads (padded e) x (suc p)) at.2 (live_behind (marks e) (padded e) code s p there.instr at.1 stands there.in_window x)

-- behind the last place nothing is read
pub none_read : (code : Code) (k : Parts) (p x : ℕ) → IsKeptLive code k → length k.before ≤ p → Reads code x p → ⊥
none_read code k p x live h r =
    let past : set_at k.before p ≡ 0 = ap word_of (slice_get_past k.before p h) in
    true≢false (sym ((live.live p x).1 r) ∙ ap (λ bits. has bits x) past ∙ has_zero x)

-- where its places are given as a slice, the last of the first `count` is a place of the code
pub last_within : (gone : List Bool) (number count : ℕ) (items seen : List ℕ) → AreRanked gone number items → seen ≡ items → 0 < count → count ≤ length items → get_or seen (count - 1) 0 < length gone
last_within gone number count items seen a e some few =
    let same = ap (λ (ps : List ℕ). get_or ps (count - 1) 0) e in
    let at = ranked_at gone number items a (count - 1) (omega arith) in
    omega (arith, at.0)

-- and what is live after its instruction is what is read behind it
pub live_there : (e : Edited) (most number count : ℕ) (instrs : List Instr) (items seen : List ℕ) → IsPadded (marks e) (padded e) (code_of (lines_now e)) → instrs ≡ run true most (drop number (rows_from false (lines_now e)))
    → AreRanked (marks e) number items → length items ≡ length instrs → seen ≡ items → 0 < count → count ≤ length instrs → (x : ℕ) → LiveAfter (code_of (lines_now e)) (number + (count - 1)) x ↔ Reads (padded e) x (get_or seen (count - 1) 0 + 1)
live_there e most number count instrs items seen s is a n same some few x =
    let behind : suc (get_or items (count - 1) 0) ≡ get_or seen (count - 1) 0 + 1 = (let z = ap (λ (ps : List ℕ). get_or ps (count - 1) 0) same in omega arith) in
    subst (λ p. LiveAfter (code_of (lines_now e)) (number + (count - 1)) x ↔ Reads (padded e) x p) behind (run_live e most number instrs items s is a n (count - 1) (omega arith) x)

-- ---- labels that stay code ----

-- where an instruction of the run follows
pub settled_before : (lines : List ListingLine) (most number count : ℕ) (instrs new : List Instr) → instrs ≡ run true most (drop number (rows_from false lines)) → count < length instrs → IsSettled (places_of lines) (labels_from 0 lines) number count new
settled_before lines most number count instrs new e h = let there = run_stands lines most number count instrs e h in inr (inl (ap is_op_place there.stands))

-- where no label stands at the place
pub settled_unlabelled : (labelled : Bool) (places : List Place) (labels : List Label) (p count : ℕ) (new : List Instr) → (labelled ≡ true) ↔ HasLabelAt labels p → labelled ≡ false → IsSettled places labels p count new
settled_unlabelled labelled places labels p count new h e = inr (inr (λ k l is at. true≢false (sym (h.1 (record { number = k; label = l; is = is; at = at })) ∙ e)))

-- where one does and none comes
pub settled_labelled : (behind labelled : Bool) (places : List Place) (labels : List Label) (p count : ℕ) → (labelled ≡ true) ↔ HasLabelAt labels p → labelled ≡ true → behind ≡ is_op_place (slice_get places (p + count)) → (behind ≡ true) ↔ IsSettled places labels p count []
settled_labelled behind labelled places labels p count h e is = (λ b. inr (inl (sym is ∙ b)), back)
  where
    back : IsSettled places labels p count [] → behind ≡ true
    back (inl some) = absurd (omega arith)
    back (inr (inl op)) = is ∙ op
    back (inr (inr no_label)) = absurd (let l = h.0 e in no_label l.number l.label l.is l.at)

-- where the whole run goes and none comes
pub settled_whole : (vanishes : Bool) (places : List Place) (labels : List Label) (p count long : ℕ) (new : List Instr) → (vanishes ≡ true) ↔ IsSettled places labels p long [] → count ≡ long → length new ≡ 0 → (vanishes ≡ true) ↔ IsSettled places labels p count new
settled_whole vanishes places labels p count long [] h e none = subst (λ k. (vanishes ≡ true) ↔ IsSettled places labels p k []) (sym e) h
settled_whole vanishes places labels p count long (i ∷ is) h e none = absurd (omega arith)

-- ---- a window that gives way ----

-- a choice may be made at its place, with its window and its new instructions as slices
pub keeps_here : (s : Setting) (lines : List ListingLine) (c : Choice) (place : ℕ) (window new : List Instr) → IsChoice s lines c → (choice_of c).place ≡ place → window ≡ c.window → new ≡ c.new → MayGiveWay (code_of lines) place window new
keeps_here s lines c place window new is at e f =
    let here : MayGiveWay (code_of lines) place c.window c.new = subst (λ (p : ℕ). MayGiveWay (code_of lines) p c.window c.new) at is.gives_way in
    let there : MayGiveWay (code_of lines) place window c.new = subst (λ (w : List Instr). MayGiveWay (code_of lines) place w c.new) (sym e) here in
    subst (λ (n : List Instr). MayGiveWay (code_of lines) place window n) (sym f) there

-- and leaves the lines after it
pub leaves_here : (s : Setting) (lines now : List ListingLine) (c : Choice) (place : ℕ) (window new : List Instr) → IsChoice s lines c → (choice_of c).place ≡ place → window ≡ c.window → new ≡ c.new
    → now ≡ replaced_lines s.write place (length window) new lines → now ≡ lines_after s (choice_of c) lines
leaves_here s lines now c place window new is at e f h =
    h
    ∙ ap (λ p. replaced_lines s.write p (length window) new lines) (sym at)
    ∙ ap (λ (w : List Instr). replaced_lines s.write (choice_of c).place (length w) new lines) e
    ∙ ap (λ (n : List Instr). replaced_lines s.write (choice_of c).place (length c.window) n lines) f
    ∙ is.leaves

pub window_here : (s : Setting) (lines : List ListingLine) (c : Choice) (place : ℕ) (window : List Instr) → IsChoice s lines c → (choice_of c).place ≡ place → window ≡ c.window → IsWindow lines place window
window_here s lines c place window is at e = subst (λ (w : List Instr). IsWindow lines place w) (sym e) (subst (λ p. IsWindow lines p c.window) at is.is_window)

-- which can be laid out
leaves_layable : (s : Setting) (o : Replacement) (lines now : List ListingLine) → AppliesIn s o lines → now ≡ lines_after s o lines → Layable s.base now
leaves_layable s o lines now a e = subst (Layable s.base) (sym e) (subst (λ (k : Option Rule). Layable s.base (lines_after_rule s k o lines)) (sym a.is_rule) a.layable)

-- what may stand in a window has two bytes
twos : (is : List Instr) → list_all is_in_window is ≡ true → AreTwos is
twos [] h = tt
twos (i ∷ is) h =
    let p = and_parts (is_in_window i) (list_all is_in_window is) h in
    ((twos_of (i ∷ []) (p.0, tt)).0, twos is p.1)

-- steady lines stay steady where a window gives way to no more instructions
steady_left : (base : ℕ) (lines : List ListingLine) (place : ℕ) (window new : List Instr) → IsWindow lines place window → list_all is_in_window new ≡ true → 0 < length window → length new ≤ length window → IsSteady base lines
    → IsSteady base (replaced_lines own_line place (length window) new lines)
steady_left base lines place window new w in_window some few h =
    let b = before (length window) some in
    let n : ℕ = b.0 in
    let e : length window ≡ suc n = b.1 in
    let ops = plain_of window (suc n) (drop place (places_of lines)) (sym e) (ap (λ c. take c (drop place (places_of lines))) (sym e) ∙ w.stands) (twos window w.in_window) in
    let outside = outside_of place (suc n) (labels_from 0 lines) (subst (λ c. (k : ℕ) (l : Label) → slice_get (labels_from 0 lines) k ≡ Some l → (l.place ≤ place) ⊎ (place + c ≤ l.place)) e w.unlabelled) in
    let c = cut own_line place n new (omega arith) (twos new in_window) lines 0 place (omega arith) outside ops in
    subst (λ j. IsSteady base (replaced_lines own_line place j new lines)) (sym e) (cut_stays base lines (replaced_lines own_line place (suc n) new lines) c h)

-- the choice may be made on the layout
pub allowed_here : (r : Rules) (g : KnownLayout) (lines : List ListingLine) (c : Choice) (place : ℕ) (window new : List Instr) → AreOver r g lines → StandsNear g place → IsChoice (setting_of r) lines c → (choice_of c).place ≡ place → Moves g c.window c.new c.moved
    → window ≡ c.window → new ≡ c.new → Allows g window new c.moved
allowed_here r g lines c place window new over near is at moves e f =
    let s : Setting = setting_of r in
    let left : List ListingLine = replaced_lines own_line place (length window) new lines in
    let keeps = keeps_here s lines c place window new is at e f in
    let layable : Layable r.base left = leaves_layable s (choice_of c) lines left is.applies (leaves_here s lines left c place window new is at e f refl) in
    record {
      lines = lines;
      place = place;
      lays = said_still g.kept (λ k. (k.base ≡ r.base) × Lays k lines) (λ k. Lays k lines × Layable k.base left) (λ k h. (h.1, subst (λ b. Layable b left) (sym h.0) layable)) over.layout;
      moved = subst (λ (w : List Instr). Moves g w new c.moved) (sym e) (subst (λ (n : List Instr). Moves g c.window n c.moved) (sym f) moves);
      near = near;
      is_window = window_here s lines c place window is at e;
      in_window = keeps.new_in_window;
      some = keeps.some;
      no_longer = keeps.no_longer;
    }

-- and as much is known of the lines that it leaves, if the layout is now theirs
pub still_over : (r : Rules) (g h : KnownLayout) (lines now : List ListingLine) (c : Choice) (place : ℕ) (window new : List Instr) → IsChoice (setting_of r) lines c → (choice_of c).place ≡ place → window ≡ c.window → new ≡ c.new
    → now ≡ replaced_lines own_line place (length window) new lines → is_steady h ≡ is_steady g → HasLayout r.base h (replaced_lines own_line place (length window) new lines) → AreOver r g lines → AreOver r h now
still_over r g h lines now c place window new is at e f left same layout over =
    let s : Setting = setting_of r in
    let keeps = keeps_here s lines c place window new is at e f in
    record {
      layable = leaves_layable s (choice_of c) lines now is.applies (leaves_here s lines now c place window new is at e f left);
      aligned = λ q. over.aligned (sym same ∙ q);
      steady = λ q. subst (IsSteady r.base) (sym left) (steady_left r.base lines place window new (window_here s lines c place window is at e) keeps.new_in_window keeps.some keeps.no_longer (over.steady (sym same ∙ q)));
      layout = subst (HasLayout r.base h) (sym left) layout;
    }

-- what is kept of its places: places, marks and lines after a window gave way
pub record IsMade (was now : Edited) (place : ℕ) (ps : List ℕ) (window new : List Instr) : Type 0 where
  pub gone : marks now ≡ marks_after ps new (marks was)
  pub padded_now : padded now ≡ exchanged ps new (padded was)
  pub lines : lines_now now ≡ replaced_lines own_line place (length window) new (lines_now was)

pub made_padded : (was now : Edited) (place : ℕ) (ps : List ℕ) (window new : List Instr) → IsMade was now place ps window new → IsPadded (marks was) (padded was) (code_of (lines_now was)) → length (marks was) ≡ length (padded was).places
    → AreRanked (marks was) place ps → length ps ≡ length window → MayGiveWay (code_of (lines_now was)) place window new → IsPadded (marks now) (padded now) (code_of (lines_now now))
made_padded was now place ps window new m s many a n k =
    let after = still_padded (marks was) (padded was) (lines_now was) s many place ps window new a n k in
    let with_lines : IsPadded (marks_after ps new (marks was)) (exchanged ps new (padded was)) (code_of (lines_now now)) = subst (λ (ls : List ListingLine). IsPadded (marks_after ps new (marks was)) (exchanged ps new (padded was)) (code_of ls)) (sym m.lines) after in
    let with_code : IsPadded (marks_after ps new (marks was)) (padded now) (code_of (lines_now now)) = subst (λ (c : Code). IsPadded (marks_after ps new (marks was)) c (code_of (lines_now now))) (sym m.padded_now) with_lines in
    subst (λ (g : List Bool). IsPadded g (padded now) (code_of (lines_now now))) (sym m.gone) with_code

pub made_many : (was now : Edited) (place : ℕ) (ps : List ℕ) (window new : List Instr) → IsMade was now place ps window new → length (marks was) ≡ length (padded was).places → length (marks now) ≡ length (padded now).places
made_many was now place ps window new m many =
    ap (λ (g : List Bool). length g) m.gone ∙ marks_length ps new (marks was) ∙ many ∙ sym (length_after ps new (padded was).places) ∙ sym (ap (λ (c : Code). length c.places) m.padded_now)

pub made_stands : (was now : Edited) (place : ℕ) (ps : List ℕ) (window new : List Instr) → IsMade was now place ps window new → length now.stands ≡ length was.stands
made_stands was now place ps window new m =
    sym (length_map is_none now.stands) ∙ ap (λ (g : List Bool). length g) m.gone ∙ marks_length ps new (marks was) ∙ length_map is_none was.stands

pub made_live : (was now : Edited) (place : ℕ) (ps : List ℕ) (window new : List Instr) (k j : Parts) → IsMade was now place ps window new → IsPadded (marks was) (padded was) (code_of (lines_now was)) → length (marks was) ≡ length (padded was).places
    → AreRanked (marks was) place ps → length ps ≡ length window → MayGiveWay (code_of (lines_now was)) place window new
    → ((code code' : Code) (window : List Instr) → IsWindowExchange code code' ps window new → IsKeptLive code k → IsKeptLive code' j) → IsKeptLive (padded was) k → IsKeptLive (padded now) j
made_live was now place ps window new k j m s many a n keeps kept live =
    subst (λ (c : Code). IsKeptLive c j) (sym m.padded_now)
    (kept (padded was) (exchanged ps new (padded was)) window (gives_way (marks was) (padded was) (code_of (lines_now was)) s many place ps window new a n keeps) live)

-- the first places of a site, as a slice, are the kept ones of its ranks
pub front_ranked : (gone : List Bool) (number : ℕ) (items seen : List ℕ) (count : ℕ) → AreRanked gone number items → seen ≡ items → AreRanked gone number (take count seen)
front_ranked gone number items seen count a e = subst (λ (ps : List ℕ). AreRanked gone number (take count ps)) (sym e) (taken_ranked gone number count items a)

pub front_many : (items seen : List ℕ) (count : ℕ) → seen ≡ items → count ≤ length items → length (take count seen) ≡ count
front_many items seen count e h = let same = ap (λ (ps : List ℕ). length ps) e in take_many count seen (omega arith)

pub front_same : (items seen : List ℕ) (window given : List Instr) → seen ≡ items → window ≡ given → take (length window) seen ≡ take (length given) items
front_same items seen window given e f = ap (λ (ps : List ℕ). take (length window) ps) e ∙ ap (λ (is : List Instr). take (length is) items) f

-- what was made, by the place's number now
pub made_by : (was now : Edited) (place number : ℕ) (ps : List ℕ) (window new : List Instr) → number ≡ rank (marks was) place → AreRanked (marks was) number ps → length ps ≡ length window
    → ((qs : List ℕ) → length qs ≡ length window → AreRanked (marks was) (rank (marks was) place) qs → marks now ≡ marks_after qs new (marks was))
    → ((qs : List ℕ) → length qs ≡ length window → AreRanked (marks was) (rank (marks was) place) qs → padded now ≡ exchanged qs new (padded was))
    → lines_now now ≡ replaced_lines own_line (rank (marks was) place) (length window) new (lines_now was) → IsMade was now number ps window new
made_by was now place number ps window new e a n gone places lines =
    let there : AreRanked (marks was) (rank (marks was) place) ps = subst (λ r. AreRanked (marks was) r ps) e a in
    record {
      gone = gone ps n there;
      padded_now = places ps n there;
      lines = lines ∙ ap (λ r. replaced_lines own_line r (length window) new (lines_now was)) (sym e);
    }
