-- Tidying ends: each change takes a place away, or a branch from a chain.
use Rattle.std.proofs.Common.{◌≡◌, ℕ, zero, suc, ◌+◌, ◌*◌, ◌<◌, ◌≤◌, ◌&&◌, Bool, true, false, List, [], ◌∷◌, ◌++◌, length, length-append, take, drop, Option, Some, None, IsSome, refl, sym, ap, ◌∙◌, subst, inl, inr, arith, if◌then◌else◌}
use Rattle.std.specs.Prelude.{slice_get, is_some}
use Rattle.std.proofs.Math.Nat.{mul-suc, suc-mul}
use Rattle.std.proofs.lemmas.Bool.{cases_eq, and_from as both, false_from_ne_true as not_true}
use Rattle.std.proofs.lemmas.Option.{same_Some, slice_get_within}
use Rattle.thumb_instr.specs.declared.instr.Instr.{Instr}
use Rattle.thumb_model.specs.Listing.{Name, Mention, Place, Op, Word, ListingLine, Code, code_of, places_of, place_of}
use Rattle.thumb_model.proofs.Lists.{take_all, length_drop}
use Rattle.flow_tidy.specs.Tidying.{is_always, Hops, HopsBy, Setting, Cause, ToNext, ToEnd, Idle, Change, is_branch, GoesToEnd, HasCause, lines_without, lines_by, lines_after, AreTidied}
use Rattle.listing_parser.specs.Targets.{aimed_lines}
use Rattle.flow_tidy.proofs.Removed.{code_without}
use Rattle.flow_tidy.proofs.Aimed.{to_label, aimed_places, aimed_code, get_aimed, get_other, name_stays, code_aimed}
use Rattle.flow_tidy.proofs.AimedRuns.{last_is_code}
use Rattle.listing_parser.proofs.ReplaceLemmas.{and_first as first_true}
use Rattle.common_lemmas.proofs.Booleans.{and_false}
use Rattle.listing_parser.proofs.ReadingLemmas.{and_second as second_true}

-- ---- hops as a test ----

-- at the place an unconditional branch to a code label stands
abbrev pub hops_on : Code → Option Place → Bool
hops_on code None = false
hops_on code (Some (Word v)) = false
hops_on code (Some (Op i None)) = false
hops_on code (Some (Op i (Some m))) = is_always i && is_some (place_of code m.name)

abbrev pub hops_at : Code → Option ℕ → Bool
hops_at code None = false
hops_at code (Some q) = hops_on code (slice_get code.places q)

-- from the label a hop leads on
abbrev pub has_hop : Code → Name → Bool
has_hop code name = hops_at code (place_of code name)

pub hop_is : (code : Code) (from to : Name) → Hops code from to → has_hop code from ≡ true
hop_is code from to h =
    ap (hops_at code) h.labelled ∙ ap (hops_on code) h.stands
    ∙ both (is_always h.i) (is_some (place_of code h.mention.name)) h.always (subst (λ (x : Name). IsSome (place_of code x)) (sym h.named) h.code_label)

pub hop_from : (code : Code) (from : Name) (o : Option ℕ) → place_of code from ≡ o → hops_at code o ≡ true → (to : Name) × Hops code from to
hop_from code from None e h = absurd (cc)
hop_from code from (Some q) e h = on (slice_get code.places q) refl h
  where
    on : (x : Option Place) → slice_get code.places q ≡ x → hops_on code x ≡ true → (to : Name) × Hops code from to
    on None f k = absurd (cc)
    on (Some (Word v)) f k = absurd (cc)
    on (Some (Op i None)) f k = absurd (cc)
    on (Some (Op i (Some m))) f k = (
      m.name,
      record {
        place = q;
        i = i;
        mention = m;
        labelled = e;
        stands = f;
        always = first_true (is_always i) (is_some (place_of code m.name)) k;
        named = refl;
        code_label = second_true (is_always i) (is_some (place_of code m.name)) k;
      },
    )

-- where a chain stops no hop leads on
pub end_stops : (code : Code) (label : Name) → ((next : Name) → Hops code label next → ⊥) → has_hop code label ≡ false
end_stops code label h = not_true (has_hop code label) (λ t. let n = hop_from code label (place_of code label) refl t in h n.0 n.1)

-- ---- branches of chains, counted ----

abbrev is_chained : Code → Place → Bool
is_chained code (Word v) = false
is_chained code (Op i None) = false
is_chained code (Op i (Some m)) = is_branch i && has_hop code m.name

abbrev chained : Code → List Place → ℕ
chained code [] = 0
chained code (x ∷ xs) = if is_chained code x then chained code xs + 1 else chained code xs

chained_few : (code : Code) (xs : List Place) → chained code xs ≤ length xs
chained_few code [] = omega arith
chained_few code (x ∷ xs) =
    let h = chained_few code xs in
    elim (is_chained code x) as (λ b. (if b then chained code xs + 1 else chained code xs) ≤ suc (length xs)) [ true ↦ omega arith | false ↦ omega arith ]

module _ (code : Code) (p : ℕ) (label : Name) (g : GoesToEnd code p label) where
  abbrev after : Code
  after = aimed_code p label code

  label_there : is_some (place_of code label) ≡ true
  label_there = last_is_code code g.end.more g.mention.name label g.end.leads

  first : (via : Name) × Hops code g.mention.name via × HopsBy code g.end.more via label
  first = g.end.leads

  -- the branch's own label is a code label
  own_there : is_some (place_of code g.mention.name) ≡ true
  own_there = ap is_some first.1.labelled

  on_same : (q : ℕ) → hops_on after (slice_get after.places q) ≡ hops_on code (slice_get code.places q)
  on_same q = elim (cases_eq q p) [
    | inl same ↦ (
        let a : hops_on after (slice_get after.places q) ≡ (is_always g.i && is_some (place_of after label)) =
        ap (λ x. hops_on after (slice_get after.places x)) same ∙ ap (hops_on after) (get_aimed label p code.places g.i (Some g.mention) g.stands) in
        let b : hops_on code (slice_get code.places q) ≡ (is_always g.i && is_some (place_of code g.mention.name)) =
        ap (λ x. hops_on code (slice_get code.places x)) same ∙ ap (hops_on code) g.stands in
        let c : is_some (place_of after label) ≡ is_some (place_of code g.mention.name) = ap is_some (name_stays code p label label) ∙ label_there ∙ sym own_there in
        a ∙ ap (λ t. is_always g.i && t) c ∙ sym b)
    | inr ne ↦ ap (hops_on after) (get_other label p q code.places ne) ∙ same_on (slice_get code.places q)
  ]
    where
      same_on : (o : Option Place) → hops_on after o ≡ hops_on code o
      same_on None = refl
      same_on (Some (Word v)) = refl
      same_on (Some (Op i None)) = refl
      same_on (Some (Op i (Some m))) = ap (λ (o : Option ℕ). is_always i && is_some o) (name_stays code p label m.name)

  at_same : (o : Option ℕ) → hops_at after o ≡ hops_at code o
  at_same None = refl
  at_same (Some q) = on_same q

  pub hops_same : (name : Name) → has_hop after name ≡ has_hop code name
  hops_same name = ap (hops_at after) (name_stays code p label name) ∙ at_same (place_of code name)

  chain_same : (x : Place) → is_chained after x ≡ is_chained code x
  chain_same (Word v) = refl
  chain_same (Op i None) = refl
  chain_same (Op i (Some m)) = ap (λ t. is_branch i && t) (hops_same m.name)

  all_same : (xs : List Place) → chained after xs ≡ chained code xs
  all_same [] = refl
  all_same (x ∷ xs) =
      ap (λ b. if b then chained after xs + 1 else chained after xs) (chain_same x) ∙ ap (λ n. if is_chained code x then n + 1 else n) (all_same xs)

  was_chained : is_chained code (Op g.i (Some g.mention)) ≡ true
  was_chained = both (is_branch g.i) (has_hop code g.mention.name) g.branch (hop_is code g.mention.name first.0 first.1)

  now_free : is_chained code (Op g.i (Some (to_label label))) ≡ false
  now_free = ap (λ t. is_branch g.i && t) (end_stops code label g.end.stops) ∙ and_false (is_branch g.i)

  one_less : (q : ℕ) (xs : List Place) → slice_get xs q ≡ Some (Op g.i (Some g.mention)) → chained code (aimed_places q label xs) + 1 ≡ chained code xs
  one_less q [] e = absurd (cc)
  one_less zero (x ∷ xs) e =
      let here : x ≡ Op g.i (Some g.mention) = same_Some x _ e in
      let was : is_chained code x ≡ true = ap (is_chained code) here ∙ was_chained in
      let a : chained code (aimed_places zero label (x ∷ xs)) ≡ chained code xs =
      ap (λ (y : Place). chained code (aimed_places zero label (y ∷ xs))) here ∙ ap (λ b. if b then chained code xs + 1 else chained code xs) now_free in
      let b : chained code (x ∷ xs) ≡ chained code xs + 1 = ap (λ t. if t then chained code xs + 1 else chained code xs) was in
      ap (λ n. n + 1) a ∙ sym b
  one_less (suc q) (x ∷ xs) e =
      let rec = one_less q xs e in
      elim (is_chained code x) as (λ b. (if b then chained code (aimed_places q label xs) + 1 else chained code (aimed_places q label xs)) + 1 ≡ (if b then chained code xs + 1 else chained code xs)) [
        | true ↦ omega arith
        | false ↦ rec
      ]

  pub less_chained : chained after after.places + 1 ≡ chained code code.places
  less_chained = ap (λ n. n + 1) (all_same (aimed_places p label code.places)) ∙ one_less p code.places g.stands

pub same_length : (p : ℕ) (label : Name) (xs : List Place) → length (aimed_places p label xs) ≡ length xs
same_length p label [] = refl
same_length zero label (x ∷ xs) = refl
same_length (suc p) label (x ∷ xs) = ap suc (same_length p label xs)

-- ---- how many changes there are ----

-- how many changes n places allow: each may be removed, and then each that is left may be a branch of a chain anew
abbrev most : ℕ → ℕ
most zero = 0
most (suc n) = most n + n + 1

square_step : (b z k y : ℕ) → b ≤ z → y ≡ z + k + suc k → b + k + 1 ≤ y
square_step b z k y h e = omega arith

most_square : (n : ℕ) → most n ≤ n * n
most_square zero = omega arith
most_square (suc n) = square_step (most n) (n * n) n (suc n * suc n) (most_square n) (mul-suc (suc n) n ∙ ap (λ x. x + suc n) (suc-mul n n))

pub one_place_less : (s : Setting) (p : ℕ) (ls : List ListingLine) (i : Instr) (mention : Option Mention) → slice_get (places_of ls) p ≡ Some (Op i mention) → length (places_of (lines_without s p ls)) + 1 ≡ length (places_of ls)
one_place_less s p ls i mention e =
    let l : p < length (places_of ls) = slice_get_within (places_of ls) p _ e in
    let a : length (places_of (lines_without s p ls)) ≡ length (take p (places_of ls) ++ drop (p + 1) (places_of ls)) = ap (λ (c : Code). length c.places) (code_without s p ls i mention e) in
    let b = length-append (take p (places_of ls)) (drop (p + 1) (places_of ls)) in
    let c = take_all p (places_of ls) (omega arith) in
    let d = length_drop (p + 1) (places_of ls) in
    omega arith

abbrev chains_of : List ListingLine → ℕ
chains_of ls = chained (code_of ls) (places_of ls)

-- a change lowers the bound on how many changes there can still be, and adds no place
Leaves : List ListingLine → List ListingLine → Type 0
Leaves ls new = (chains_of new + most (length (places_of new)) + 1 ≤ chains_of ls + most (length (places_of ls))) × (length (places_of new) ≤ length (places_of ls))

without_leaves : (s : Setting) (p : ℕ) (ls : List ListingLine) (i : Instr) (mention : Option Mention) → slice_get (places_of ls) p ≡ Some (Op i mention) → Leaves ls (lines_without s p ls)
unfolding Leaves
without_leaves s p ls i mention e =
    let one = one_place_less s p ls i mention e in
    let few = chained_few (code_of (lines_without s p ls)) (places_of (lines_without s p ls)) in
    let all : most (length (places_of ls)) ≡ most (suc (length (places_of (lines_without s p ls)))) = ap most (let f : length (places_of ls) ≡ suc (length (places_of (lines_without s p ls))) = omega arith in f) in
    (room _ _ _ _ few all, omega arith)
  where
    room : (c n m k : ℕ) → c ≤ n → m ≡ most n + n + 1 → c + most n + 1 ≤ k + m
    room c n m k h f = omega arith

aimed_leaves : (s : Setting) (p : ℕ) (label : Name) (ls : List ListingLine) → GoesToEnd (code_of ls) p label → Leaves ls (aimed_lines s.write p label ls)
unfolding Leaves
aimed_leaves s p label ls g =
    let e : code_of (aimed_lines s.write p label ls) ≡ aimed_code p label (code_of ls) = code_aimed s.write label p ls g.i (Some g.mention) g.stands in
    let a : chains_of (aimed_lines s.write p label ls) ≡ chained (aimed_code p label (code_of ls)) (aimed_places p label (places_of ls)) = ap (λ (c : Code). chained c c.places) e in
    let b : length (places_of (aimed_lines s.write p label ls)) ≡ length (places_of ls) = ap (λ (c : Code). length c.places) e ∙ same_length p label (places_of ls) in
    let less = less_chained (code_of ls) p label g in
    (room _ _ _ _ _ (ap most b) a less, omega arith)
  where
    room : (c d f m n : ℕ) → m ≡ n → c ≡ d → d + 1 ≡ f → c + m + 1 ≤ f + n
    room c d f m n h k l = omega arith

cause_leaves : (s : Setting) (p : ℕ) (cause : Cause) (ls : List ListingLine) → HasCause (code_of ls) p cause → Leaves ls (lines_by s p cause ls)
cause_leaves s p ToNext ls h = without_leaves s p ls h.i h.mention h.stands
cause_leaves s p (ToEnd label) ls h = aimed_leaves s p label ls h
cause_leaves s p Idle ls h = without_leaves s p ls h.i h.mention h.stands

-- how many changes there can still be
unfoldable pub room_of : List ListingLine → ℕ
room_of ls = chains_of ls + most (length (places_of ls))

pub room_less : (s : Setting) (c : Change) (ls : List ListingLine) → HasCause (code_of ls) c.place c.cause → (room_of (lines_after s c ls) + 1 ≤ room_of ls) × (length (places_of (lines_after s c ls)) ≤ length (places_of ls))
unfolding room_of Leaves
room_less s c ls h = cause_leaves s c.place c.cause ls h

last_step : (k c m n z y : ℕ) → k ≤ c + m → c ≤ n → m ≤ z → y ≡ z + n → k ≤ y
last_step k c m n z y a b d e = omega arith

pub room_few : (ls : List ListingLine) → room_of ls ≤ length (places_of ls) * (length (places_of ls) + 1)
unfolding room_of
room_few ls =
    let n : ℕ = length (places_of ls) in
    let product : n * (n + 1) ≡ n * n + n = ap (λ m. n * m) (let f : n + 1 ≡ suc n = omega arith in f) ∙ mul-suc n n in
    last_step (room_of ls) (chains_of ls) (most n) n (n * n) (n * (n + 1)) (omega arith) (chained_few (code_of ls) (places_of ls)) (most_square n) product

within_room : (s : Setting) (ls : List ListingLine) (cs : List Change) (new : List ListingLine) → AreTidied s ls cs new → (length cs ≤ room_of ls) × (length (places_of new) ≤ length (places_of ls))
within_room s ls [] new h = (omega arith, let e : length (places_of new) ≡ length (places_of ls) = ap (λ (l : List ListingLine). length (places_of l)) h.1 in omega arith)
within_room s ls (c ∷ cs) new h =
    let one = room_less s c ls h.0.possible.cause in
    let rest = within_room s (lines_after s c ls) cs new h.1 in
    (omega (arith, one.0, rest.0), omega (arith, one.1, rest.1))

-- there are at most so many changes, and no more places
pub tidying_ends : (s : Setting) (ls : List ListingLine) (cs : List Change) (new : List ListingLine) → AreTidied s ls cs new → (length cs ≤ length (places_of ls) * (length (places_of ls) + 1)) × (length (places_of new) ≤ length (places_of ls))
tidying_ends s ls cs new h =
    let room = within_room s ls cs new h in
    let few = room_few ls in
    (omega (arith, room.0, few), room.1)
