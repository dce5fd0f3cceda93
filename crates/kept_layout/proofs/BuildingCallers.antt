-- Noting who mentions the label of a block, and what is then known of all of them.
use Rattle.std.proofs.Common.{◌≡◌, ◌≢◌, ◌∙◌, ◌⊎◌, inl, inr, ℕ, zero, suc, ◌+◌, ◌<◌, List, [], ◌∷◌, ◌++◌, length, map, get_or, Option, Some, None, refl, sym, ap, subst, arith}
use Rattle.std.specs.Prelude.{slice_get, slice_set, Contains}
use Rattle.std.proofs.lemmas.Bool.{cases_lt}
use Rattle.std.proofs.lemmas.List.{length-set}
use Rattle.std.proofs.lemmas.List.Elements.{Contains-append_left, Contains-push, Contains-push_cases}
use Rattle.std.proofs.lemmas.Option.{slice_get-map, slice_get_read, slice_get_within}
use Rattle.thumb_model.specs.Listing.{Name, Statement, Nothing, Instruction, Words, Aligns, Sets, ListingLine}
use Rattle.thumb_model.specs.Layout.{cleared, set_address}
use Rattle.thumb_model.proofs.Lists.{length_map}
use Rattle.kept_layout.specs.declared.block.NameLocation.{NameLocation}
use Rattle.kept_layout.specs.declared.block.NameLocation.TheVariants as location
use Rattle.kept_layout.specs.declared.block.Block.{Block}
use Rattle.kept_layout.specs.Blocks.{Footprint, footprint_of, footprints_of}
use Rattle.kept_layout.specs.Kept.{first_head, head_of, joined, part_of, target_at}
use Rattle.kept_layout.specs.Cutting.{parts_of, part_footprint, part_footprints, lies_at, block_in, mentioned, AreMet, KnowCallers, AreCallers}
use Rattle.kept_layout.proofs.BuildingParts.{part_within}

-- ---- one element of a list is set ----

map_kept : {A B : Type 0} (f : A → B) (xs : List A) (p : ℕ) (x y : A) → slice_get xs p ≡ Some y → f x ≡ f y → map f (slice_set xs p x) ≡ map f xs
map_kept f [] p x y e h = refl
map_kept f (z ∷ xs) zero x y e h = let same : z ≡ y = (let some : Some z ≡ Some y = e in cc) in ap (λ a. a ∷ map f xs) (h ∙ ap f (sym same))
map_kept f (z ∷ xs) (suc p) x y e h = ap (λ ys. f z ∷ ys) (map_kept f xs p x y e h)

-- it is the one that was set, or it is another
set_cases : {A : Type 0} (xs : List A) (p q : ℕ) (x y : A) → slice_get (slice_set xs p x) q ≡ Some y → ((q ≡ p) × (y ≡ x)) ⊎ ((q ≢ p) × (slice_get xs q ≡ Some y))
set_cases [] p q x y e = absurd (let bad : None ≡ Some y = e in cc)
set_cases (z ∷ xs) zero zero x y e = inl (refl, (let some : Some x ≡ Some y = e in cc))
set_cases (z ∷ xs) zero (suc q) x y e = inr (λ same. absurd (omega arith), e)
set_cases (z ∷ xs) (suc p) zero x y e = inr (λ same. absurd (omega arith), e)
set_cases (z ∷ xs) (suc p) (suc q) x y e = elim (set_cases xs p q x y e) [
  | inl r ↦ inl (ap suc r.0, r.1)
  | inr r ↦ inr (λ same. r.0 (omega arith), r.1)
]

-- ---- a caller is noted ----

-- the block of number n mentions the label of that of number t, which takes it among its callers
pub record IsNoted (n t : ℕ) (own : Footprint) (old new : Block) (ss ts : List Block) : Type 0 where
  pub caller : slice_get (footprints_of ss) n ≡ Some own
  pub mentions : mentioned own.head ≡ Some t
  pub was : slice_get ss t ≡ Some old
  pub is : ts ≡ slice_set ss t new
  pub at : new.at ≡ old.at
  pub footprint : footprint_of new ≡ footprint_of old
  pub callers : new.callers.items ≡ old.callers.items ++ n ∷ []

pub noted_footprints : (n t : ℕ) (own : Footprint) (old new : Block) (ss ts : List Block) → IsNoted n t own old new ss ts → footprints_of ts ≡ footprints_of ss
noted_footprints n t own old new ss ts i = ap footprints_of i.is ∙ map_kept footprint_of ss t new old i.was i.footprint

pub noted_starts : (n t : ℕ) (own : Footprint) (old new : Block) (ss ts : List Block) → IsNoted n t own old new ss ts → map (λ (s : Block). s.at) ts ≡ map (λ (s : Block). s.at) ss
noted_starts n t own old new ss ts i = ap (map (λ (s : Block). s.at)) i.is ∙ map_kept (λ (s : Block). s.at) ss t new old i.was i.at

caller_here : (n t : ℕ) (own : Footprint) (old new : Block) (ss ts : List Block) → IsNoted n t own old new ss ts → KnowCallers n ss → (i : ℕ) (s : Footprint) → i < n + 1 → slice_get (footprints_of ss) i ≡ Some s → mentioned s.head ≡ Some t
    → Contains new.callers.items i
caller_here n t own old new ss ts h k i s below e f = elim (cases_lt i n) [
  | inl before ↦ subst (λ (xs : List ℕ). Contains xs i) (sym h.callers) (Contains-append_left old.callers.items (n ∷ []) i (k i t s old before e f h.was))
  | inr after ↦
      let same : n ≡ i = omega arith in
      subst (λ (xs : List ℕ). Contains xs i) (sym h.callers) (subst (λ (j : ℕ). Contains (old.callers.items ++ n ∷ []) j) same (Contains-push old.callers.items n))
]

caller_else : (n t : ℕ) (own : Footprint) (old new : Block) (ss ts : List Block) → IsNoted n t own old new ss ts → KnowCallers n ss → (i u : ℕ) (s : Footprint) (d : Block) → u ≢ t → i < n + 1 → slice_get (footprints_of ss) i ≡ Some s
    → mentioned s.head ≡ Some u → slice_get ss u ≡ Some d → Contains d.callers.items i
caller_else n t own old new ss ts h k i u s d other below e f g = elim (cases_lt i n) [
  | inl before ↦ k i u s d before e f g
  | inr after ↦
      let here : n ≡ i = omega arith in
      let some : Some own ≡ Some s = sym h.caller ∙ ap (slice_get (footprints_of ss)) here ∙ e in
      let same : own ≡ s = cc in
      let both : Some u ≡ Some t = sym f ∙ ap (λ (x : Footprint). mentioned x.head) (sym same) ∙ h.mentions in
      absurd (other (cc))
]

pub noted_known : (n t : ℕ) (own : Footprint) (old new : Block) (ss ts : List Block) → IsNoted n t own old new ss ts → KnowCallers n ss → KnowCallers (n + 1) ts
noted_known n t own old new ss ts h k = λ i u s d below e f g.
    let there : slice_get (footprints_of ss) i ≡ Some s = ap (λ (xs : List Footprint). slice_get xs i) (sym (noted_footprints n t own old new ss ts h)) ∙ e in
    elim (set_cases ss t u new d (ap (λ (xs : List Block). slice_get xs u) (sym h.is) ∙ g)) [
      | inl r ↦ subst (λ (x : Block). Contains x.callers.items i) (sym r.1) (caller_here n t own old new ss ts h k i s below there (f ∙ ap (λ (j : ℕ). Some j) r.0))
      | inr r ↦ caller_else n t own old new ss ts h k i u s d r.0 below there f r.1
    ]

pub noted_callers : (n t : ℕ) (own : Footprint) (old new : Block) (ss ts : List Block) → IsNoted n t own old new ss ts → AreCallers ss → AreCallers ts
noted_callers n t own old new ss ts h a = λ u i d g c.
    let size : length ts ≡ length ss = ap (λ (xs : List Block). length xs) h.is ∙ length-set ss t new in
    elim (set_cases ss t u new d (ap (λ (xs : List Block). slice_get xs u) (sym h.is) ∙ g)) [
      | inl r ↦ elim (Contains-push_cases old.callers.items n i (subst (λ (xs : List ℕ). Contains xs i) (ap (λ (x : Block). x.callers.items) r.1 ∙ h.callers) c)) [
        | inl before ↦ let low = a t i old h.was before in omega arith
        | inr now ↦ let low = slice_get_within (footprints_of ss) n own h.caller in let many = length_map footprint_of ss in omega arith
      ]
      | inr r ↦ let low = a u i d r.1 c in omega arith
    ]

-- a block that mentions no label
pub none_known : (n : ℕ) (own : Footprint) (ss : List Block) → slice_get (footprints_of ss) n ≡ Some own → mentioned own.head ≡ None → KnowCallers n ss → KnowCallers (n + 1) ss
none_known n own ss e none k = λ i u s d below f m g. elim (cases_lt i n) [
  | inl before ↦ k i u s d before f m g
  | inr after ↦
      let here : n ≡ i = omega arith in
      let some : Some own ≡ Some s = sym e ∙ ap (slice_get (footprints_of ss)) here ∙ f in
      let same : own ≡ s = cc in
      let bad : None ≡ Some u = sym none ∙ ap (λ (x : Footprint). mentioned x.head) same ∙ m in
      absurd (cc)
]

-- ---- the block at hand ----

pub as_many : (ss all : List Block) → footprints_of ss ≡ footprints_of all → length ss ≡ length all
as_many ss all e = sym (length_map footprint_of ss) ∙ ap (λ (xs : List Footprint). length xs) e ∙ length_map footprint_of all

pub footprint_here : (ss : List Block) (n : ℕ) (own : Block) → n < length ss → own ≡ get_or ss n own → slice_get (footprints_of ss) n ≡ Some (footprint_of own)
footprint_here ss n own h e = slice_get-map footprint_of ss n ∙ rw (slice_get_read ss (length ss) n own refl h e) refl

pub met_there : (ss all : List Block) (n t : ℕ) (own : Block) → AreMet (footprints_of all) → footprints_of ss ≡ footprints_of all → n < length all → own ≡ get_or ss n own → Some t ≡ mentioned own.head → t < length ss
met_there ss all n t own met same h e m =
    let many = as_many ss all same in
    let mapped = length_map footprint_of all in
    let low = met n t (footprint_of own) (ap (λ (xs : List Footprint). slice_get xs n) (sym same) ∙ footprint_here ss n own (omega arith) e) (sym m) in
    omega arith

pub noted_there : (ss : List Block) (n t : ℕ) (own old new : Block) → n < length ss → t < length ss → own ≡ get_or ss n own → Some t ≡ mentioned own.head → old ≡ get_or ss t old → new.at ≡ old.at → footprint_of new ≡ footprint_of old
    → new.callers.items ≡ old.callers.items ++ n ∷ [] → IsNoted n t (footprint_of own) old new ss (slice_set ss t new)
noted_there ss n t own old new h low e m f at footprint callers = record {
  caller = footprint_here ss n own h e;
  mentions = sym m;
  was = slice_get_read ss (length ss) t old refl low f;
  is = refl;
  at = at;
  footprint = footprint;
  callers = callers;
}

-- ---- what is mentioned is among them ----

block_is : (o : Option NameLocation) (t : ℕ) → block_in o ≡ Some t → o ≡ Some (location.Block t)
block_is None t e = absurd (let bad : None ≡ Some t = e in cc)
block_is (Some (location.Block k)) t e = let same : Some k ≡ Some t = e in let is : k ≡ t = cc in ap (λ j. Some (location.Block j)) is
block_is (Some (location.Address a)) t e = absurd (let bad : None ≡ Some t = e in cc)

mentions_name : (find : Name → Option NameLocation) (s : Statement) (t : ℕ) → mentioned (head_of find s) ≡ Some t → (q : Name) × (find q ≡ Some (location.Block t))
mentions_name find Nothing t e = absurd (let bad : None ≡ Some t = e in cc)
mentions_name find (Instruction i None) t e = absurd (let bad : None ≡ Some t = e in cc)
mentions_name find (Instruction i (Some m)) t e = (m.name, block_is (find m.name) t e)
mentions_name find (Words vs) t e = absurd (let bad : None ≡ Some t = e in cc)
mentions_name find (Aligns size most) t e = absurd (let bad : None ≡ Some t = e in cc)
mentions_name find (Sets name address) t e = absurd (let bad : None ≡ Some t = e in cc)

part_mentions : (find : Name → Option NameLocation) (p : List ListingLine) (t : ℕ) → mentioned (first_head find p) ≡ Some t → (q : Name) × (find q ≡ Some (location.Block t))
part_mentions find [] t e = absurd (let bad : None ≡ Some t = e in cc)
part_mentions find (l ∷ ls) t e = mentions_name find l.statement t e

parts_mention : (find : Name → Option NameLocation) (ps : List (List ListingLine)) (i t : ℕ) (s : Footprint) → slice_get (map (part_footprint find) ps) i ≡ Some s → mentioned s.head ≡ Some t → (q : Name) × (find q ≡ Some (location.Block t))
parts_mention find [] i t s e m = absurd (let bad : None ≡ Some s = e in cc)
parts_mention find (p ∷ ps) zero t s e m =
    let same : part_footprint find p ≡ s = (let some : Some (part_footprint find p) ≡ Some s = e in cc) in
    part_mentions find p t (ap (λ (x : Footprint). mentioned x.head) same ∙ m)
parts_mention find (p ∷ ps) (suc i) t s e m = parts_mention find ps i t s e m

part_is : (a b : Option ℕ) (t : ℕ) → target_at a b ≡ Some (location.Block t) → a ≡ Some t
part_is None None t e = absurd (let bad : None ≡ Some (location.Block t) = e in cc)
part_is None (Some b) t e = absurd (let bad : Some (location.Address b) ≡ Some (location.Block t) = e in cc)
part_is (Some a) b t e = let same : Some (location.Block a) ≡ Some (location.Block t) = e in cc

pub are_met : (ls : List ListingLine) → AreMet (part_footprints ls)
are_met ls = λ i t s e m.
    let found = parts_mention (lies_at ls) (parts_of ls) i t s e m in
    let part : part_of found.0 0 (parts_of ls) ≡ Some t = part_is (part_of found.0 0 (parts_of ls)) (cleared (set_address found.0 (joined (parts_of ls)))) t found.1 in
    let low = part_within found.0 0 t (parts_of ls) part in
    let many = length_map (part_footprint (lies_at ls)) (parts_of ls) in
    omega arith
