-- The lines of a draft can still surely be laid out (`IsSure`) while instructions are removed and branches redirected.
use Rattle.std.proofs.Common.{◌≡◌, ◌∙◌, inl, inr, ◌+◌, ◌<◌, ℕ, Bool, true, false, List, [], length, Option, Some, None, refl, ap, subst, sym, arith}
use Rattle.std.specs.Prelude.{option_map, slice_get, slice_set}
use Rattle.std.proofs.lemmas.Bool.{cases_eq}
use Rattle.std.proofs.lemmas.Option.{same_Some, slice_get_within}
use Rattle.thumb_instr.specs.declared.instr.Instr.{Instr}
use Rattle.thumb_instr.specs.declared.instr.Instr.TheVariants as instr
use Rattle.thumb_model.specs.Listing.{Name, Mention, ListingLine, Place, Op, Word, Code, code_of, is_call_instr, is_op_place, labels_from, places_of}
use Rattle.thumb_model.specs.Layout.{aim_fault, branch_fault, cleared, lies_in, or_else, set_address, Layable}
use Rattle.thumb_model.specs.Steps.{label_place}
use Rattle.thumb_model.proofs.Lists.{present_at}
use Rattle.kept_places.specs.Marks.{is_gone, rank}
use Rattle.kept_places.proofs.Ranks.{marked_other, unmarked}
use Rattle.label_layout.specs.Addresses.{addresses_from}
use Rattle.label_layout.proofs.Sums.{places_counted}
use Rattle.listing_parser.specs.Grammar.{longest_line, most_lines}
use Rattle.listing_parser.specs.Parsing.{line_mentioning}
use Rattle.listing_parser.specs.Targets.{aimed_lines}
use Rattle.listing_draft.specs.Drafted.{aim_at, instr_in, lines_now, name_in, now_of, stands, unchanged, Drafted}
use Rattle.listing_draft.specs.Invariant.{IsDraft}
use Rattle.listing_draft.proofs.Drafts.{aimed_draft, all_same, drafted, instr_at, still_draft}
use Rattle.listing_draft.proofs.Labels.{place_ranked}
use Rattle.listing_draft.proofs.Stands.{stands_at}
use Rattle.steady_layout.specs.Steady.{IsSteady}
use Rattle.flow_tidy.specs.declared.widest_layout.WidestLayout.{WidestLayout}
use Rattle.flow_tidy.specs.WidestLayout.{IsWidestLayout}
use Rattle.flow_tidy.specs.Halves.{halves, wide_of, IsBeyond}
use Rattle.flow_tidy.specs.Made.{change}
use Rattle.flow_tidy.specs.Quick.{whole, EndsAt, HaveRoom, IsSafe, IsSure, MayAim}
use Rattle.flow_tidy.specs.Tidying.{is_branch, ToEnd, IsPossible, setting}
use Rattle.flow_tidy.proofs.Aims.{aims_within}
use Rattle.flow_tidy.proofs.Draftings.{IsLeft}
use Rattle.flow_tidy.proofs.Halves.{are_apart, label_lies, never_reached, same_wide}
use Rattle.flow_tidy.proofs.Quickly.{op_goes, still_sure, sure_layable}
use Rattle.flow_tidy.proofs.Rooms.{have_aimed}
use Rattle.flow_tidy.proofs.Settled.{MayVanish}
use Rattle.flow_tidy.proofs.Unique.{label_same}
use Rattle.flow_tidy.proofs.Wholes.{aimed_steady, now_steady}

-- ---- drafts by their parts ----

draft_of : (e : Drafted) (given : List ListingLine) (gone : List Bool) (aims : List (Option Name)) → e.given ≡ given → e.gone ≡ gone → e.aims ≡ aims → IsDraft (drafted given gone aims) → IsDraft e
draft_of e given gone aims f g a h =
    subst (λ x. IsDraft (drafted e.given e.gone x)) (sym a) (subst (λ x. IsDraft (drafted e.given x aims)) (sym g) (subst (λ x. IsDraft (drafted x gone aims)) (sym f) h))

whole_of : (base : ℕ) (e : Drafted) (given : List ListingLine) (aims : List (Option Name)) → e.given ≡ given → e.aims ≡ aims → IsSteady base (now_of [] aims given) → IsSteady base (whole e)
whole_of base e given aims f a h = subst (λ x. IsSteady base (now_of [] x e.given)) (sym a) (subst (λ x. IsSteady base (now_of [] aims x)) (sym f) h)

-- ---- a removed instruction ----

-- a branch is no call of a label
branch_narrow : (i : Instr) (m : Option Mention) → is_branch i ≡ true → wide_of (Some (Op i m)) ≡ 0
branch_narrow (instr.Call d) m e = absurd (cc)
branch_narrow i m e = refl

other_narrow : (i : Instr) (m : Option Mention) → is_call_instr i ≡ false → wide_of (Some (Op i m)) ≡ 0
other_narrow (instr.Call d) m e = absurd (cc)
other_narrow i m e = refl

narrow_goes : (code : Code) (r : ℕ) → MayVanish code r → wide_of (slice_get code.places r) ≡ 0
narrow_goes code r (inl g) = ap wide_of g.stands ∙ branch_narrow g.i g.mention g.branch
narrow_goes code r (inr h) = ap wide_of h.stands ∙ other_narrow h.i h.mention h.no_call

still_narrow : (g : WidestLayout) (d : Drafted) (p : ℕ) → IsSafe g d → is_gone d.gone p ≡ false → MayVanish (code_of (lines_now d)) (rank d.gone p) → (q : ℕ) → is_gone (slice_set d.gone p true) q ≡ true → wide_of (slice_get (places_of d.given) q) ≡ 0
still_narrow g d p s kept goes q e = elim (cases_eq q p) [
  | inl same ↦
      ap (λ n. wide_of (slice_get (places_of d.given) n)) same
      ∙ sym (same_wide (slice_get (places_of d.given) p) (aim_at d.aims p))
      ∙ ap wide_of (sym (stands_at d.given d.gone d.aims p s.draft.ops kept))
      ∙ narrow_goes (code_of (lines_now d)) (rank d.gone p) goes
  | inr ne ↦ s.narrow q (sym (marked_other d.gone p q true ne) ∙ e)
]

narrow_of : (e : Drafted) (given : List ListingLine) (gone : List Bool) → e.given ≡ given → e.gone ≡ gone → ((q : ℕ) → is_gone gone q ≡ true → wide_of (slice_get (places_of given) q) ≡ 0) → (q : ℕ) → is_gone e.gone q ≡ true → wide_of (slice_get (places_of e.given) q) ≡ 0
narrow_of e given gone f g h q k = ap (λ (ls : List ListingLine). wide_of (slice_get (places_of ls) q)) f ∙ h q (ap (λ (gs : List Bool). is_gone gs q) (sym g) ∙ k)

pub safe_left : (g : WidestLayout) (d e : Drafted) (p : ℕ) (dues : List Bool) → p < length d.gone → is_gone d.gone p ≡ false → MayVanish (code_of (lines_now d)) (rank d.gone p) → IsSafe g d → IsLeft d e p dues → IsSafe g e
safe_left g d e p dues within kept goes s h =
    let op : is_op_place (stands d p) ≡ true = op_goes (code_of (lines_now d)) (rank d.gone p) goes in
    record {
      draft = draft_of e d.given (slice_set d.gone p true) d.aims h.given h.gone h.aims (still_draft d p s.draft within kept op);
      widest = subst (λ (ls : List ListingLine). IsWidestLayout ls g) (sym h.given) s.widest;
      sure = still_sure g.base (lines_now d) (lines_now e) (rank d.gone p) op h.lines s.sure;
      steady = whole_of g.base e d.given d.aims h.given h.aims s.steady;
      narrow = narrow_of e d.given (slice_set d.gone p true) h.given h.gone (still_narrow g d p s kept goes);
    }

-- ---- a redirected branch ----

op_of : (o : Option Place) (i : Instr) → instr_in o ≡ Some i → (m : Option Mention) × (o ≡ Some (Op i m))
op_of None i e = absurd (cc)
op_of (Some (Op j m)) i e = (m, ap (λ (x : Instr). Some (Op x m)) (same_Some j i e))
op_of (Some (Word v)) i e = absurd (cc)

pub safe_aimed : (g : WidestLayout) (d e : Drafted) (p : ℕ) (name : Name) → p < length d.gone → is_gone d.gone p ≡ false → MayAim g.base d p name → e.given ≡ d.given → e.gone ≡ d.gone → e.aims ≡ slice_set d.aims p (Some name)
    → lines_now e ≡ aimed_lines line_mentioning (rank d.gone p) name (lines_now d) → IsSafe g d → IsSafe g e
safe_aimed g d e p name within kept may given gone aims lines s =
    let now = op_of (stands d p) may.i may.is in
    let before = op_of (slice_get (places_of d.given) p) may.i (instr_at d p s.draft kept ∙ may.is) in
    let draft : IsDraft e = draft_of e d.given d.gone (slice_set d.aims p (Some name)) given gone aims (aimed_draft d p name s.draft within kept (ap is_op_place now.1)) in
    let steady : IsSteady g.base (whole e) = whole_of g.base e d.given (slice_set d.aims p (Some name)) given aims (aimed_steady g.base d.given d.aims p may.i before.0 name before.1 may.reach s.steady) in
    record {
      draft = draft;
      widest = subst (λ (ls : List ListingLine). IsWidestLayout ls g) (sym given) s.widest;
      sure = record {
        whole_words = s.sure.whole_words;
        steady = now_steady g.base e draft steady;
        room = subst (HaveRoom most_lines longest_line) (sym lines) (have_aimed most_lines longest_line line_mentioning name (rank d.gone p) (lines_now d) may.i now.0 now.1 may.short s.sure.room);
      };
      steady = steady;
      narrow = narrow_of e d.given d.gone given gone s.narrow;
    }

-- ---- a draft of which nothing is changed ----

pub safe_first : (g : WidestLayout) (ls : List ListingLine) (d : Drafted) → d ≡ unchanged ls → lines_now d ≡ ls → IsDraft d → IsWidestLayout ls g → IsSure g.base ls → IsSafe g d
safe_first g ls d is lines draft widest sure =
    let given : d.given ≡ ls = ap (λ (x : Drafted). x.given) is in
    let all : whole d ≡ ls = ap whole is ∙ all_same 0 (length (places_of ls)) ls in
    record {
      draft = draft;
      widest = subst (λ (x : List ListingLine). IsWidestLayout x g) (sym given) widest;
      sure = subst (IsSure g.base) (sym lines) sure;
      steady = subst (IsSteady g.base) (sym all) sure.steady;
      narrow = λ q e. let no : true ≡ false = sym e ∙ ap (λ (gs : List Bool). is_gone gs q) (ap (λ (x : Drafted). x.gone) is) ∙ unmarked (length (places_of ls)) q in absurd (cc);
    }

-- ---- a branch that is out of reach of the end of its chain ----

pub never_possible : (g : WidestLayout) (d : Drafted) (p last label half : ℕ) (i : Instr) → IsSafe g d → EndsAt d p last → (name : Name) → name_in (stands d last) ≡ Some name → instr_in (stands d p) ≡ Some i → label_place name (labels_from 0 d.given) ≡ Some label
    → IsBeyond half (halves (places_of (lines_now d)) (rank d.gone p)) (halves (places_of (lines_now d)) (rank d.gone label)) → ((a : ℕ) (to : Option ℕ) → aim_fault a i to 0 ≡ branch_fault half a to)
    → (other : Name) → IsPossible (setting g.base) (change (rank d.gone p) (ToEnd other)) (lines_now d) → ⊥
never_possible g d p last label half i s h name called is leads beyond reach other possible =
    let ls : List ListingLine = lines_now d in
    let r : ℕ = rank d.gone p in
    let q : ℕ = rank d.gone label in
    let end : other ≡ name = label_same (code_of ls) r other h.label possible.cause h.goes ∙ same_Some h.label name (sym h.named ∙ called) in
    let op = op_of (stands d p) i is in
    let within = slice_get_within (places_of ls) r _ op.1 in
    let at = present_at (addresses_from g.base ls) r (let c = places_counted g.base ls in omega arith) in
    let laid : Layable g.base (aimed_lines line_mentioning r name ls) = subst (λ (x : Name). Layable g.base (aimed_lines line_mentioning r x ls)) end possible.layable in
    let free = (aims_within line_mentioning name g.base r ls i op.0 at.0 op.1 at.1 (sure_layable g.base ls s.sure)).1 laid in
    let there : label_place name (labels_from 0 ls) ≡ Some q = place_ranked d.given d.gone d.aims name s.draft.ops ∙ ap (option_map (rank d.gone)) leads in
    let lies = label_lies name ls g.base 0 q there in
    let to : lies_in g.base ls name ≡ Some lies.address = ap (λ (o : Option ℕ). or_else o (cleared (set_address name ls))) lies.is in
    let none : branch_fault half at.0 (Some lies.address) ≡ None = sym (reach at.0 (Some lies.address)) ∙ ap (λ (o : Option ℕ). aim_fault at.0 i o 0) (sym to) ∙ free in
    let apart = are_apart i op.0 at.0 name ls g.base 0 r q lies.address op.1 at.1 (there ∙ ap (λ n. Some n) (let z : q ≡ 0 + q = omega arith in z)) lies.is in
    never_reached i op.0 at.0 ls r q lies.address half apart beyond none
