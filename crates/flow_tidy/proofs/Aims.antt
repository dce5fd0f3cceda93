-- Redirecting a branch moves nothing: lines that can be laid out still can be exactly where the branch reaches its new label.
use Rattle.std.proofs.Common.{◌≡◌, ◌↔◌, ℕ, zero, suc, ◌+◌, ◌-◌, ◌==◌, ◌&&◌, true, false, List, [], ◌∷◌, ◌++◌, length, Option, Some, None, refl, sym, ap, ◌∙◌, subst, arith, ne_eqb, if◌then◌else◌}
use Rattle.std.specs.Prelude.{slice_get}
use Rattle.std.proofs.lemmas.Option.{same_Some}
use Rattle.thumb_instr.specs.declared.instr.Instr.{Instr}
use Rattle.thumb_model.specs.Listing.{Name, Mention, Statement, Nothing, Instruction, Words, Aligns, Sets, ListingLine, Op, places_in, places_of}
use Rattle.thumb_model.specs.Layout.{Fault, size_at, end_of, is_among, label_address, set_in, set_address, cleared, or_else, lies_in, aim_fault, fault_at, or_first, faults_from, Layable}
use Rattle.thumb_model.specs.Replaced.{is_op, labels_kept}
use Rattle.thumb_model.proofs.Lists.{get_back}
use Rattle.label_layout.specs.Addresses.{addresses_in, addresses_from, Addresses, AreAddresses}
use Rattle.label_layout.proofs.Sums.{places_counted_in}
use Rattle.listing_parser.specs.Targets.{aimed, aimed_line, aimed_lines}
use Rattle.flow_tidy.proofs.Aimed.{past_words}
use Rattle.thumb_model.proofs.Shared.{first_none, same_fault}

-- ---- first faults ----

both_none : (n : ℕ) (f : Option Fault) (rest : Option (ℕ × Fault)) → f ≡ None → rest ≡ None → or_first n f rest ≡ None
both_none n None rest e h = h
both_none n (Some f) rest e h = absurd (cc)

renumbered : (lies : Name → Option ℕ) (ls : List ListingLine) (n m at : ℕ) → faults_from lies n at ls ≡ None → faults_from lies m at ls ≡ None
renumbered lies [] n m at e = refl
renumbered lies (l ∷ ls) n m at e =
    let b = first_none n (fault_at lies at l.statement) (faults_from lies (n + 1) (at + size_at l.statement at) ls) e in
    both_none m (fault_at lies at l.statement) (faults_from lies (m + 1) (at + size_at l.statement at) ls) b.0 (renumbered lies ls (n + 1) (m + 1) (at + size_at l.statement at) b.1)

by_names : (lies other : Name → Option ℕ) → ((name : Name) → lies name ≡ other name) → (n at : ℕ) (ls : List ListingLine) → faults_from lies n at ls ≡ faults_from other n at ls
by_names lies other e n at [] = refl
by_names lies other e n at (l ∷ ls) =
    ap (λ (f : Option Fault). or_first n f (faults_from lies (n + 1) (at + size_at l.statement at) ls)) (same_fault lies other e at l.statement)
    ∙ ap (λ (o : Option (ℕ × Fault)). or_first n (fault_at other at l.statement) o) (by_names lies other e (n + 1) (at + size_at l.statement at) ls)

module _ (write : Instr → Option Mention → List ℕ) (label : Name) where
  abbrev new_lines : ℕ → List ListingLine → List ListingLine
  new_lines p ls = aimed_lines write p label ls

  -- ---- where names lie ----

  same_size : (s : Statement) (at : ℕ) → size_at (aimed label s) at ≡ size_at s at
  same_size Nothing at = refl
  same_size (Instruction i mention) at = refl
  same_size (Words vs) at = refl
  same_size (Aligns size most) at = refl
  same_size (Sets name address) at = refl

  head_address : (name : Name) (at : ℕ) (l : ListingLine) (ns : List Name) (ls : List ListingLine) → label_address name at (labels_kept l ns ++ (aimed_line write label l ∷ ls)) ≡ (if is_among name ns then Some at else label_address name (at + size_at l.statement at) ls)
  head_address name at l [] ls = ap (λ n. label_address name (at + n) ls) (same_size l.statement at)
  head_address name at l (n ∷ ns) ls =
      ap (λ (o : Option ℕ). if is_among name (n ∷ ns) then Some at else o)
      (ap (λ b. label_address name b (aimed_line write label l ∷ ls)) (let e : at + 0 ≡ at = omega arith in e) ∙ ap (λ m. label_address name (at + m) ls) (same_size l.statement at))

  address_stays : (name : Name) (at p : ℕ) (ls : List ListingLine) → label_address name at (new_lines p ls) ≡ label_address name at ls
  address_stays name at p [] = refl
  address_stays name at p (l ∷ ls) =
      elim (is_op l.statement && (p == 0)) as (λ b. label_address name at (if b then labels_kept l l.names ++ (aimed_line write label l ∷ ls) else l ∷ new_lines (p - length (places_in l.statement)) ls) ≡ label_address name at (l ∷ ls)) [
        | true ↦ head_address name at l l.names ls
        | false ↦ ap (λ (o : Option ℕ). if is_among name l.names then Some at else o) (address_stays name (at + size_at l.statement at) (p - length (places_in l.statement)) ls)
      ]

  same_set : (name : Name) (s : Statement) (rest : Option ℕ) → set_in name (aimed label s) rest ≡ set_in name s rest
  same_set name Nothing rest = refl
  same_set name (Instruction i mention) rest = refl
  same_set name (Words vs) rest = refl
  same_set name (Aligns size most) rest = refl
  same_set name (Sets other address) rest = refl

  head_set : (name : Name) (l : ListingLine) (ns : List Name) (ls : List ListingLine) → set_address name (labels_kept l ns ++ (aimed_line write label l ∷ ls)) ≡ set_in name l.statement (set_address name ls)
  head_set name l [] ls = same_set name l.statement (set_address name ls)
  head_set name l (n ∷ ns) ls = same_set name l.statement (set_address name ls)

  set_stays : (name : Name) (p : ℕ) (ls : List ListingLine) → set_address name (new_lines p ls) ≡ set_address name ls
  set_stays name p [] = refl
  set_stays name p (l ∷ ls) =
      elim (is_op l.statement && (p == 0)) as (λ b. set_address name (if b then labels_kept l l.names ++ (aimed_line write label l ∷ ls) else l ∷ new_lines (p - length (places_in l.statement)) ls) ≡ set_address name (l ∷ ls)) [
        | true ↦ head_set name l l.names ls
        | false ↦ ap (set_in name l.statement) (set_stays name (p - length (places_in l.statement)) ls)
      ]

  lies_stay : (base p : ℕ) (ls : List ListingLine) (name : Name) → lies_in base (new_lines p ls) name ≡ lies_in base ls name
  lies_stay base p ls name = ap (λ (o : Option ℕ). or_else o (cleared (set_address name (new_lines p ls)))) (address_stays name base p ls) ∙ ap (λ (o : Option ℕ). or_else (label_address name base ls) (cleared o)) (set_stays name p ls)

  -- ---- where lines lie ----

  head_end : (at : ℕ) (l : ListingLine) (ns : List Name) (ls : List ListingLine) → end_of at (labels_kept l ns ++ (aimed_line write label l ∷ ls)) ≡ end_of (at + size_at l.statement at) ls
  head_end at l [] ls = ap (λ n. end_of (at + n) ls) (same_size l.statement at)
  head_end at l (n ∷ ns) ls = ap (λ b. end_of b (aimed_line write label l ∷ ls)) (let e : at + 0 ≡ at = omega arith in e) ∙ ap (λ m. end_of (at + m) ls) (same_size l.statement at)

  end_stays : (at p : ℕ) (ls : List ListingLine) → end_of at (new_lines p ls) ≡ end_of at ls
  end_stays at p [] = refl
  end_stays at p (l ∷ ls) =
      elim (is_op l.statement && (p == 0)) as (λ b. end_of at (if b then labels_kept l l.names ++ (aimed_line write label l ∷ ls) else l ∷ new_lines (p - length (places_in l.statement)) ls) ≡ end_of at (l ∷ ls)) [
        | true ↦ head_end at l l.names ls
        | false ↦ end_stays (at + size_at l.statement at) (p - length (places_in l.statement)) ls
      ]

  same_places : (s : Statement) (at : ℕ) → addresses_in at (aimed label s) ≡ addresses_in at s
  same_places Nothing at = refl
  same_places (Instruction i mention) at = refl
  same_places (Words vs) at = refl
  same_places (Aligns size most) at = refl
  same_places (Sets name address) at = refl

  head_places : (at : ℕ) (l : ListingLine) (ns : List Name) (ls : List ListingLine) → addresses_from at (labels_kept l ns ++ (aimed_line write label l ∷ ls)) ≡ addresses_in at l.statement ++ addresses_from (at + size_at l.statement at) ls
  head_places at l [] ls =
      ap (λ (x : List ℕ). x ++ addresses_from (at + size_at (aimed label l.statement) at) ls) (same_places l.statement at) ∙ ap (λ n. addresses_in at l.statement ++ addresses_from (at + n) ls) (same_size l.statement at)
  head_places at l (n ∷ ns) ls =
      ap (λ b. addresses_from b (aimed_line write label l ∷ ls)) (let e : at + 0 ≡ at = omega arith in e)
      ∙ ap (λ (x : List ℕ). x ++ addresses_from (at + size_at (aimed label l.statement) at) ls) (same_places l.statement at)
      ∙ ap (λ m. addresses_in at l.statement ++ addresses_from (at + m) ls) (same_size l.statement at)

  places_stay : (at p : ℕ) (ls : List ListingLine) → addresses_from at (new_lines p ls) ≡ addresses_from at ls
  places_stay at p [] = refl
  places_stay at p (l ∷ ls) =
      elim (is_op l.statement && (p == 0)) as (λ b. addresses_from at (if b then labels_kept l l.names ++ (aimed_line write label l ∷ ls) else l ∷ new_lines (p - length (places_in l.statement)) ls) ≡ addresses_from at (l ∷ ls)) [
        | true ↦ head_places at l l.names ls
        | false ↦ ap (λ (x : List ℕ). addresses_in at l.statement ++ x) (places_stay (at + size_at l.statement at) (p - length (places_in l.statement)) ls)
      ]

  pub addresses_stay : (p : ℕ) (ls : List ListingLine) (laid : Addresses) → AreAddresses ls laid → AreAddresses (new_lines p ls) laid
  addresses_stay p ls laid a = record {
    end = a.end ∙ sym (end_stays laid.base p ls);
    places = a.places ∙ sym (places_stay laid.base p ls);
    label = λ name. a.label name ∙ sym (address_stays name laid.base p ls);
  }

  -- ---- faults ----

  module _ (lies : Name → Option ℕ) (i : Instr) (mention : Option Mention) (a : ℕ) where
    -- the new lines have a fault exactly where the others have, or the branch has one
    AimedRec : List ListingLine → Type 0
    AimedRec ls =
        (p at n m : ℕ) → slice_get (places_of ls) p ≡ Some (Op i mention) → slice_get (addresses_from at ls) p ≡ Some a →
        (faults_from lies n at ls ≡ None → aim_fault a i (lies label) 0 ≡ None → faults_from lies m at (new_lines p ls) ≡ None) ×
        (faults_from lies m at (new_lines p ls) ≡ None → aim_fault a i (lies label) 0 ≡ None)

    -- behind a line that stays
    passed : (l : ListingLine) (s : Statement) (ls : List ListingLine) (p r at n m : ℕ) → l.statement ≡ s → AimedRec ls → p ≡ length (places_in s) + r → slice_get (places_of ls) r ≡ Some (Op i mention) → slice_get (addresses_in at s ++ addresses_from (at + size_at s at) ls) p ≡ Some a →
        (faults_from lies n at (l ∷ ls) ≡ None → aim_fault a i (lies label) 0 ≡ None → faults_from lies m at (l ∷ new_lines (p - length (places_in s)) ls) ≡ None) ×
        (faults_from lies m at (l ∷ new_lines (p - length (places_in s)) ls) ≡ None → aim_fault a i (lies label) 0 ≡ None)
    unfolding AimedRec
    passed l s ls p r at n m f rec g e h =
        let next : ℕ = at + size_at l.statement at in
        let is : p - length (places_in s) ≡ r = omega arith in
        let there : slice_get (addresses_from (at + size_at s at) ls) r ≡ Some a = sym (get_back (addresses_in at s) (addresses_from (at + size_at s at) ls) r p (let c = places_counted_in at s in omega arith)) ∙ h in
        let inner = rec r next (n + 1) (m + 1) e (ap (λ x. slice_get (addresses_from (at + size_at x at) ls) r) f ∙ there) in
        subst (λ q. (faults_from lies n at (l ∷ ls) ≡ None → aim_fault a i (lies label) 0 ≡ None → faults_from lies m at (l ∷ new_lines q ls) ≡ None) × (faults_from lies m at (l ∷ new_lines q ls) ≡ None → aim_fault a i (lies label) 0 ≡ None)) (sym is) (
          (λ free good. let b = first_none n (fault_at lies at l.statement) (faults_from lies (n + 1) next ls) free in both_none m (fault_at lies at l.statement) (faults_from lies (m + 1) next (new_lines r ls)) b.0 (inner.0 b.1 good)),
          (λ free. inner.1 (first_none m (fault_at lies at l.statement) (faults_from lies (m + 1) next (new_lines r ls)) free).1),
        )

    -- the line itself, with the branch and what stands behind
    branch_faults : (l : ListingLine) (ls : List ListingLine) (at n m : ℕ) → l.statement ≡ Instruction i mention → at ≡ a →
        (faults_from lies n at (l ∷ ls) ≡ None → aim_fault a i (lies label) 0 ≡ None → faults_from lies m at (aimed_line write label l ∷ ls) ≡ None) ×
        (faults_from lies m at (aimed_line write label l ∷ ls) ≡ None → aim_fault a i (lies label) 0 ≡ None)
    branch_faults l ls at n m f g =
        let next : ℕ = at + size_at l.statement at in
        let fault : Option Fault = fault_at lies at (aimed label l.statement) in
        let rest : Option (ℕ × Fault) = faults_from lies (m + 1) (at + size_at (aimed label l.statement) at) ls in
        let is : fault ≡ aim_fault a i (lies label) 0 = ap (λ x. fault_at lies at (aimed label x)) f ∙ ap (λ x. aim_fault x i (lies label) 0) g in
        let same : rest ≡ faults_from lies (m + 1) next ls = ap (λ x. faults_from lies (m + 1) (at + x) ls) (same_size l.statement at) in (
          (λ free good.
              let b = first_none n (fault_at lies at l.statement) (faults_from lies (n + 1) next ls) free in
              both_none m fault rest (is ∙ good) (same ∙ renumbered lies ls (n + 1) (m + 1) next b.1)),
          (λ free. sym is ∙ (first_none m fault rest free).0),
        )

    head_faults : (l : ListingLine) (ns : List Name) (ls : List ListingLine) (at n m : ℕ) → l.statement ≡ Instruction i mention → at ≡ a →
        (faults_from lies n at (l ∷ ls) ≡ None → aim_fault a i (lies label) 0 ≡ None → faults_from lies m at (labels_kept l ns ++ (aimed_line write label l ∷ ls)) ≡ None) ×
        (faults_from lies m at (labels_kept l ns ++ (aimed_line write label l ∷ ls)) ≡ None → aim_fault a i (lies label) 0 ≡ None)
    head_faults l [] ls at n m f g = branch_faults l ls at n m f g
    head_faults l (name ∷ ns) ls at n m f g =
        let r = branch_faults l ls at n (m + 1) f g in
        let here : at + 0 ≡ at = omega arith in (
          (λ free good. ap (λ x. faults_from lies (m + 1) x (aimed_line write label l ∷ ls)) here ∙ r.0 free good),
          (λ free. r.1 (ap (λ x. faults_from lies (m + 1) x (aimed_line write label l ∷ ls)) (sym here) ∙ free)),
        )

    abbrev Agree : ℕ → ℕ → ℕ → List ListingLine → List ListingLine → Type 0
    Agree at n m ls news =
        (faults_from lies n at ls ≡ None → aim_fault a i (lies label) 0 ≡ None → faults_from lies m at news ≡ None) ×
        (faults_from lies m at news ≡ None → aim_fault a i (lies label) 0 ≡ None)

    stays_step : (l : ListingLine) (s : Statement) (ls : List ListingLine) (p at n m : ℕ) → l.statement ≡ s → AimedRec ls → slice_get (places_in s ++ places_of ls) p ≡ Some (Op i mention) → slice_get (addresses_in at s ++ addresses_from (at + size_at s at) ls) p ≡ Some a
        → Agree at n m (l ∷ ls) (if is_op s && (p == 0) then labels_kept l l.names ++ (aimed_line write label l ∷ ls) else l ∷ new_lines (p - length (places_in s)) ls)
    stays_step l (Words vs) ls p at n m f rec e h =
        let r = past_words vs (places_of ls) p i mention e in
        passed l (Words vs) ls p r.0 at n m f rec r.1 r.2 h
    stays_step l (Instruction j k) ls zero at n m f rec e h =
        let same : Op j k ≡ Op i mention = same_Some (Op j k) (Op i mention) e in
        let first : j ≡ i = cc in
        let second : k ≡ mention = cc in
        head_faults l l.names ls at n m (f ∙ cc) (same_Some at a h)
    stays_step l (Instruction j k) ls (suc p) at n m f rec e h =
        subst (λ b. Agree at n m (l ∷ ls) (if b then labels_kept l l.names ++ (aimed_line write label l ∷ ls) else l ∷ new_lines (suc p - 1) ls)) (sym (ne_eqb (suc p) 0 (λ z. absurd (omega arith))))
        (passed l (Instruction j k) ls (suc p) p at n m f rec (omega arith) e h)
    stays_step l s ls p at n m f rec e h = passed l s ls p p at n m f rec (omega arith) e h

    stays : (ls : List ListingLine) → AimedRec ls
    unfolding AimedRec
    stays [] p at n m e h = absurd (cc)
    stays (l ∷ ls) p at n m e h = stays_step l l.statement ls p at n m refl (stays ls) e h

  -- the new lines can be laid out exactly where the branch reaches its label
  pub aims_within : (base p : ℕ) (ls : List ListingLine) (i : Instr) (mention : Option Mention) (a : ℕ) → slice_get (places_of ls) p ≡ Some (Op i mention) → slice_get (addresses_from base ls) p ≡ Some a → Layable base ls
      → (aim_fault a i (lies_in base ls label) 0 ≡ None) ↔ Layable base (new_lines p ls)
  unfolding AimedRec
  aims_within base p ls i mention a e h free =
      let both = stays (lies_in base (new_lines p ls)) i mention a ls p base 1 1 e h in
      let same : (name : Name) → lies_in base (new_lines p ls) name ≡ lies_in base ls name = lies_stay base p ls in
      let old : faults_from (lies_in base (new_lines p ls)) 1 base ls ≡ None = by_names (lies_in base (new_lines p ls)) (lies_in base ls) same 1 base ls ∙ free in
      let aim : aim_fault a i (lies_in base (new_lines p ls) label) 0 ≡ aim_fault a i (lies_in base ls label) 0 = ap (λ (o : Option ℕ). aim_fault a i o 0) (same label) in
      (λ good. both.0 old (aim ∙ good), λ laid. sym aim ∙ both.1 laid)
