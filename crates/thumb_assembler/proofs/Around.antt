-- The surroundings of an instruction in the listing and in the image correspond.
use Rattle.std.proofs.Common.{◌≡◌, ◌∙◌, ◌⊎◌, inl, inr, ℕ, zero, suc, ◌+◌, ◌-◌, ◌*◌, ◌/◌, ◌%◌, ◌^◌, ◌<◌, ◌≤◌, ◌==◌, ◌&&◌, ◌||◌, not, Bool, true, false, List, [], ◌∷◌, ◌++◌, length, take, refl, sym, ap, subst, arith, true≢false, Option, Some, None, eqb-true}
use Rattle.std.specs.Prelude.{slice_get, nat_lt, nat_le, if◌then◌else◌, is_some, ℤ}
use Rattle.std.proofs.lemmas.Bool.{cases_Bool, cases_lt, and_from, and_parts, le-leb, lt-ltb, ltb-true, leb-true, or_right}
use Rattle.std.proofs.lemmas.Slice.Eq.{bytes_eq-Decides}
use Rattle.std.proofs.Math.Bool.{and-false}
use Rattle.thumb_instr.specs.declared.instr.Instr.{Instr}
use Rattle.thumb_instr.specs.declared.instr.Instr.TheVariants as instr
use Rattle.thumb_instr.specs.Items.{bytes_of}
use Rattle.thumb_syntax.specs.Whole.{is_whole}
use Rattle.thumb_model.specs.Listing.{Name, Mention, Statement, Instruction, ListingLine, Place, Op, Code, places_in, places_of, labels_from, code_of, place_of, is_op_place, has_label, place_mentions, is_mentioned, is_call_instr, call_count}
use Rattle.thumb_model.specs.Layout.{instr_size, size_at, end_of, is_among, label_address, set_address, cleared, or_else, lies_in, distance, literal_base}
use Rattle.thumb_model.specs.Naming.{Naming, Fits, points, is_in_range, laid, word_by}
use Rattle.thumb_model.specs.States.{World, Around, Inside, External}
use Rattle.thumb_model.specs.Acts.{act}
use Rattle.thumb_model.specs.Steps.{label_place, point_among, set_bit, landing, word_of_mention, word_of_place, word_behind, literal_word, target_at, around_of}
use Rattle.thumb_assembler.specs.Bytes.{lies_at, mention_lies, Aims, IsSetBy, lies_nowhere, branch_lost, flaw_of, flaws_from}
use Rattle.thumb_model.proofs.Tied.{TargetTied}
use Rattle.listing_parser.specs.TableWords.{words_from}
use Rattle.listing_parser.specs.Targets.{from_label, reaches, is_literal, is_code_label, is_label}
use Rattle.listing_parser.proofs.LabelLemmas.{code_place, label_among}
use Rattle.listing_parser.proofs.RunLemmas.{reaches_by_count}
use Rattle.label_layout.proofs.Sums.{at_end}
use Rattle.thumb_model.proofs.Shared.{first_none}
use Rattle.thumb_assembler.specs.declared.errors.Flaw.TheVariants as flaw
use Rattle.thumb_assembler.specs.Fair.{label_in, is_fair}
use Rattle.thumb_assembler.specs.Runs.{Loaded, word_at, is_code_address, aim_from, goes_to, target_in, literal_in, following, around_in, lands_at, IsAssembled, loaded}
use Rattle.thumb_assembler.proofs.Places.{no_plus, unlabelled}
use Rattle.thumb_assembler.proofs.Loose.{LandingLoose, LooksLoose}
use Rattle.thumb_assembler.proofs.Pushed.{aims_size}
use Rattle.thumb_assembler.proofs.Cuts.{end_append, two_or_four, LabelCut, label_cut}
use Rattle.thumb_assembler.proofs.Fetched.{fair_here, even_here, Coded, DataAt, data_from}
use Rattle.thumb_assembler.proofs.Slides.{Arrives, label_found, label_is, arrives_within, code_address, lands_tied, place_here, return_here}

-- the distance from one address to another leads to the other
pub aim_back : (at to : ℕ) → at ≤ 2 ^ 29 → to < 2 ^ 32 → aim_from at (distance at to) ≡ to
aim_back at to l h = elim (cases_Bool (nat_le (at + 4) to)) [
  | inl e ↦ rw e (let least = leb-true (at + 4) to e in omega arith)
  | inr e ↦ rw e (let most : to < at + 4 = not_le (at + 4) to e in omega arith)
] where
  not_le : (a b : ℕ) → nat_le a b ≡ false → b < a
  not_le a b e = elim (cases_lt b a) [ inl h ↦ h | inr h ↦ absurd (true≢false (sym (le-leb a b h) ∙ e)) ]

-- the model's effect of an instruction doesn't depend on its own distance
pub same_act : (b : Around) (at to : ℕ) (i j : Instr) (w : World) → Aims at to i j → act b j w ≡ act b i w
same_act b at to (instr.Literal t d) j w a = ap (λ (k : Instr). act b k w) a.2
same_act b at to (instr.Address t d) j w a = ap (λ (k : Instr). act b k w) a.2
same_act b at to (instr.BranchIf c d) j w a = ap (λ (k : Instr). act b k w) a.2
same_act b at to (instr.Branch d) j w a = ap (λ (k : Instr). act b k w) a.2
same_act b at to (instr.Call d) j w a = ap (λ (k : Instr). act b k w) a.2
same_act b at to i j w a = ap (λ (k : Instr). act b k w) a

flawless : (base : ℕ) (all : List ListingLine) (n : ℕ) (before after : List ListingLine) (l : ListingLine) → flaws_from base all n (before ++ l ∷ after) ≡ None → flaw_of base all l.statement ≡ None
flawless base all n [] after l e = (first_none n (flaw_of base all l.statement) (flaws_from base all (n + 1) after) e).0
flawless base all n (b ∷ bs) after l e = flawless base all (n + 1) bs after l (first_none n (flaw_of base all b.statement) (flaws_from base all (n + 1) (bs ++ l ∷ after)) e).1

pub labelled : (name : Name) (p at : ℕ) (ls : List ListingLine) → has_label name (labels_from p ls) ≡ is_some (label_address name at ls)
labelled name p at [] = refl
labelled name p at (l ∷ ls) = elim (cases_Bool (is_among name l.names)) [
  | inl t ↦ label_among name p l.names _ ∙ rw t refl
  | inr t ↦ label_among name p l.names _ ∙ rw t (labelled name (p + length (places_in l.statement)) (at + size_at l.statement at) ls)
]

mentioned_at : (name : Name) (places : List Place) (q : ℕ) (i : Instr) (m : Mention) → slice_get places q ≡ Some (Op i (Some m)) → name ≡ m.name → is_mentioned name places ≡ true
mentioned_at name [] q i m e s = absurd (let bad : None ≡ Some (Op i (Some m)) = e in cc)
mentioned_at name (p ∷ ps) zero i m e s =
    let same : Some p ≡ Some (Op i (Some m)) = e in
    let is : p ≡ Op i (Some m) = cc in
    ap (λ (x : Place). place_mentions name x || is_mentioned name ps) is ∙ ap (λ (b : Bool). b || is_mentioned name ps) ((bytes_eq-Decides name m.name).1 s)
mentioned_at name (p ∷ ps) (suc q) i m e s = or_right (place_mentions name p) (is_mentioned name ps) (mentioned_at name ps q i m e s)

module _ (base : ℕ) (set : Name → ℕ) (all : List ListingLine) (bytes : List ℕ) (made : IsAssembled base all bytes) (given : IsSetBy all set) (fits : Fits (laid base set all) (code_of all)) where
  abbrev names : Naming
  names = laid base set all

  abbrev code : Code
  code = code_of all

  abbrev image : Loaded
  image = loaded base set all bytes

  abbrev pub ArrivesAt : ℕ → ℕ → Type 0
  ArrivesAt = Arrives base set all bytes made given

  -- ---- direct branches ----

  -- where a branch to a mentioned name goes in the listing and in the image
  record Aimed (m : Mention) : Type 0 where
    small : mention_lies base names all m < 2 ^ 32
    tied : TargetTied ArrivesAt (target_at names (Some m) (place_of code m.name)) (goes_to image (mention_lies base names all m))

  inside : (m : Mention) (p : ℕ) → m.plus ≡ 0 → place_of code m.name ≡ Some p → Aimed m
  inside m p z e =
      let f = label_found base set all bytes made given m.name p e in
      let a = f.0 in
      let lies : mention_lies base names all m ≡ f.0 = ap (λ (o : Option ℕ). lies_at names o (names.word_of m.name) + m.plus) f.1 ∙ (let h : f.0 + m.plus ≡ f.0 = omega arith in h) in
      let within = arrives_within base set all bytes made given p f.0 f.2.op f.2.arrives in
      let low = made.low in
      let at = code_address base set all bytes made given f.0 within.0 within.1 in
      record {
        small = omega (arith, within.1);
        tied = subst (λ (o : Option ℕ). TargetTied ArrivesAt (target_at names (Some m) o) (goes_to image (mention_lies base names all m))) (sym e)
            (subst (λ (x : ℕ). TargetTied ArrivesAt (Inside p) (goes_to image x)) (sym lies) (rw at f.2.arrives));
      }

  outside : (q : ℕ) (i : Instr) (m : Mention) → slice_get (places_of all) q ≡ Some (Op i (Some m)) → m.plus ≡ 0 → place_of code m.name ≡ None → label_address m.name base all ≡ None → lies_nowhere base all m.name ≡ false → Aimed m
  outside q i m here z e free found = by (set_address m.name all) refl where
    by : (o : Option ℕ) → set_address m.name all ≡ o → Aimed m
    by None s =
        let lies : lies_in base all m.name ≡ None = ap (λ (a : Option ℕ). or_else a (cleared (set_address m.name all))) free ∙ ap cleared s in
        absurd (true≢false (sym (ap (λ (o : Option ℕ). not (is_some o)) lies) ∙ found))
    by (Some v) s =
        let word : names.word_of m.name ≡ v = ap (λ (a : Option ℕ). word_by (set m.name) a (place_of code m.name)) free ∙ given m.name v s in
        let lies : mention_lies base names all m ≡ v / 2 * 2 =
        ap (λ (o : Option ℕ). lies_at names o (names.word_of m.name) + m.plus) free ∙ ap (λ (n : ℕ). n / 2 * 2 + m.plus) word ∙ (let h : v / 2 * 2 + m.plus ≡ v / 2 * 2 = omega arith in h) in
        let unlabelled : has_label m.name (labels_from 0 all) ≡ false = labelled m.name 0 base all ∙ ap is_some free in
        let out = fits.outside m.name (mentioned_at m.name (places_of all) q i m here refl) unlabelled in
        let small = fits.words m.name in
        let base_even = made.even in
        let high_even = fits.high_even in
        let past : is_code_address image (v / 2 * 2) ≡ false = elim (cases_Bool (is_code_address image (v / 2 * 2))) [
          | inr g ↦ g
          | inl g ↦
              let range = and_parts (nat_le base (v / 2 * 2)) (nat_lt (v / 2 * 2) names.high) g in
              let least = leb-true base (v / 2 * 2) range.0 in
              let most = ltb-true (v / 2 * 2) names.high range.1 in
              let within : is_in_range names v ≡ true = and_from (nat_le base v) (nat_lt v names.high) (le-leb base v (omega arith)) (lt-ltb v names.high (omega arith)) in
              absurd (true≢false (sym (ap (is_in_range names) word ∙ within) ∙ out))
        ] in
        let same : set_bit ((names.word_of m.name + m.plus) % 2 ^ 32) ≡ set_bit (v / 2 * 2) = omega arith in
        record {
          small = omega arith;
          tied = subst (λ (o : Option ℕ). TargetTied ArrivesAt (target_at names (Some m) o) (goes_to image (mention_lies base names all m))) (sym e)
              (subst (λ (x : ℕ). TargetTied ArrivesAt (External (set_bit ((names.word_of m.name + m.plus) % 2 ^ 32))) (goes_to image x)) (sym lies) (rw past same));
        }

  -- a branch to a name that is a code label, or that is no label at all
  branch_aimed : (q : ℕ) (i : Instr) (m : Mention) → slice_get (places_of all) q ≡ Some (Op i (Some m)) → m.plus ≡ 0 → (is_code_label all m.name || not (is_label all m.name)) ≡ true → lies_nowhere base all m.name ≡ false → Aimed m
  branch_aimed q i m here z fair found = by (place_of code m.name) refl where
    by : (o : Option ℕ) → place_of code m.name ≡ o → Aimed m
    by (Some p) e = inside m p z e
    by None e = free (label_address m.name base all) refl where
      free : (o : Option ℕ) → label_address m.name base all ≡ o → Aimed m
      free None f = outside q i m here z e f found
      free (Some a) f =
          let has : is_label all m.name ≡ true = labelled m.name 0 base all ∙ ap is_some f in
          absurd (true≢false (sym fair ∙ (ap (λ (o : Option ℕ). is_some o || not (is_label all m.name)) e ∙ ap not has)))

  code_aimed : (m : Mention) → m.plus ≡ 0 → is_code_label all m.name ≡ true → Aimed m
  code_aimed m z fair = by (place_of code m.name) refl where
    by : (o : Option ℕ) → place_of code m.name ≡ o → Aimed m
    by (Some p) e = inside m p z e
    by None e = absurd (true≢false (sym fair ∙ ap is_some e))

  -- the distance of a branch leads to its target's address
  branch_tied : (at : ℕ) (m : Mention) (d : ℤ) → at ≤ 2 ^ 29 → distance at (mention_lies base names all m) ≡ d → Aimed m → TargetTied ArrivesAt (target_at names (Some m) (place_of code m.name)) (goes_to image (aim_from at d))
  branch_tied at m d low e a =
      subst (λ (x : ℕ). TargetTied ArrivesAt (target_at names (Some m) (place_of code m.name)) (goes_to image x)) (sym (ap (aim_from at) (sym e) ∙ aim_back at (mention_lies base names all m) low a.small)) a.tied

  -- ---- literals ----

  record Literal (m : Mention) : Type 0 where
    cut : LabelCut m.name base (mention_lies base names all m - m.plus) all
    address : label_address m.name base all ≡ Some (mention_lies base names all m - m.plus)
    lies : mention_lies base names all m ≡ end_of base cut.before + 4 * (m.plus / 4)
    data_here : DataAt base set all bytes made given cut.before cut.after (m.plus / 4)
    first : DataAt base set all bytes made given cut.before cut.after 0

  literal_is : (m : Mention) → is_literal all m ≡ true → Literal m
  literal_is m f = by (label_address m.name base all) refl where
    by : (o : Option ℕ) → label_address m.name base all ≡ o → Literal m
    by None e =
        let none = unlabelled m.name base all e in
        let a = and_parts (m.plus % 4 == 0) (nat_le m.plus 1020 && reaches (from_label m.name all) (m.plus / 4)) f in
        let b = and_parts (nat_le m.plus 1020) (reaches (from_label m.name all) (m.plus / 4)) a.1 in
        absurd (true≢false (sym b.1 ∙ ap (λ (ls : List ListingLine). reaches ls (m.plus / 4)) none))
    by (Some a) e =
        let lies : mention_lies base names all m ≡ a + m.plus = ap (λ (o : Option ℕ). lies_at names o (names.word_of m.name) + m.plus) e in
        let same : a ≡ mention_lies base names all m - m.plus = omega arith in
        let address : label_address m.name base all ≡ Some (mention_lies base names all m - m.plus) = e ∙ ap (λ (n : ℕ). Some n) same in
        let c = label_cut m.name base (mention_lies base names all m - m.plus) all address in
        let x = and_parts (m.plus % 4 == 0) (nat_le m.plus 1020 && reaches (from_label m.name all) (m.plus / 4)) f in
        let four : m.plus % 4 ≡ 0 = eqb-true (m.plus % 4) 0 x.0 in
        let r = and_parts (nat_le m.plus 1020) (reaches (from_label m.name all) (m.plus / 4)) x.1 in
        let there : reaches c.after (m.plus / 4) ≡ true = subst (λ (ls : List ListingLine). reaches ls (m.plus / 4) ≡ true) c.from r.1 in
        let some = ltb-true (m.plus / 4) (words_from c.after) (sym (reaches_by_count c.after (m.plus / 4)) ∙ there) in
        let zero : reaches c.after 0 ≡ true = reaches_by_count c.after 0 ∙ lt-ltb 0 (words_from c.after) (omega arith) in
        let start = c.address in
        record {
          cut = c;
          address = address;
          lies = omega arith;
          data_here = data_from base set all bytes made given c.after c.before (m.plus / 4) c.cut there;
          first = data_from base set all bytes made given c.after c.before 0 c.cut zero;
        }

  -- a literal load reads the word that the listing gives
  literal_tied : (m : Mention) → is_literal all m ≡ true → literal_word names code (Some m) ≡ word_at image (mention_lies base names all m)
  literal_tied m f =
      let l = literal_is m f in
      let place : label_place m.name (labels_from 0 all) ≡ Some (length (places_of l.cut.before)) = l.cut.place 0 ∙ ap (λ (n : ℕ). Some n) (let z : 0 + length (places_of l.cut.before) ≡ length (places_of l.cut.before) = omega arith in z) in
      ap (word_behind names (places_of all) m.plus) place ∙ ap (word_of_place names) l.data_here.place ∙ sym l.data_here.word ∙ ap (word_at image) (sym l.lies)

  -- ADR yields the address of the label, which isn't a code label, plus the added number
  address_tied : (m : Mention) → is_literal all m ≡ true → mention_lies base names all m < 2 ^ 32 → word_of_mention names (Some m) ≡ mention_lies base names all m
  unfolding code_place
  address_tied m f small =
      let l = literal_is m f in
      let place : label_place m.name (labels_from 0 all) ≡ Some (length (places_of l.cut.before)) = l.cut.place 0 ∙ ap (λ (n : ℕ). Some n) (let z : 0 + length (places_of l.cut.before) ≡ length (places_of l.cut.before) = omega arith in z) in
      let is_data : is_op_place (slice_get (places_of all) (length (places_of l.cut.before))) ≡ false =
      ap (λ (n : ℕ). is_op_place (slice_get (places_of all) n)) (let z : length (places_of l.cut.before) ≡ length (places_of l.cut.before) + 0 = omega arith in z) ∙ ap is_op_place l.first.place in
      let none : place_of code m.name ≡ None = label_is base set all bytes made given m.name ∙ ap (code_place (places_of all)) place ∙ rw is_data refl in
      let word : names.word_of m.name ≡ mention_lies base names all m - m.plus = ap (λ (o : Option ℕ). word_by (set m.name) o (place_of code m.name)) l.address ∙ ap (word_by (set m.name) (Some (mention_lies base names all m - m.plus))) none in
      let lies : mention_lies base names all m ≡ mention_lies base names all m - m.plus + m.plus = ap (λ (o : Option ℕ). lies_at names o (names.word_of m.name) + m.plus) l.address in
      omega arith

  -- ---- all surroundings that an instruction depends on ----

  low : (before after : List ListingLine) → all ≡ before ++ after → end_of base before ≤ 2 ^ 29
  low before after e =
      let w : end_of base all ≡ end_of (end_of base before) after = ap (end_of base) e ∙ end_append base before after in
      let least = at_end (end_of base before) after in
      let limit = made.low in
      omega arith

  fair_at : (before after : List ListingLine) (l : ListingLine) (i : Instr) (mention : Option Mention) → all ≡ before ++ l ∷ after → l.statement ≡ Instruction i mention → is_fair all (Instruction i mention) ≡ true
  fair_at before after l i mention e s = subst (λ (t : Statement). is_fair all t ≡ true) s (fair_here base set all bytes made given before after l e)

  sound_at : (before after : List ListingLine) (l : ListingLine) (i : Instr) (mention : Option Mention) → all ≡ before ++ l ∷ after → l.statement ≡ Instruction i mention → branch_lost base all i mention ≡ false
  sound_at before after l i mention e s =
      let none : (if branch_lost base all i mention then Some flaw.NoAddress else None) ≡ None =
      subst (λ (t : Statement). flaw_of base all t ≡ None) s (flawless base all 1 before after l (subst (λ (ls : List ListingLine). flaws_from base all 1 ls ≡ None) e made.sound)) in
      elim (cases_Bool (branch_lost base all i mention)) [
        | inl h ↦ absurd (let bad : Some flaw.NoAddress ≡ None = rw h at none in cc)
        | inr h ↦ h
      ]

  link_at : (before after : List ListingLine) (l : ListingLine) (i : Instr) (mention : Option Mention) → all ≡ before ++ l ∷ after → l.statement ≡ Instruction i mention → is_call_instr i ≡ true → (j : Instr) → instr_size j ≡ instr_size i
      → names.return_word (call_count (take (length (places_of before)) (places_of all))) ≡ set_bit (following (end_of base before) j)
  link_at before after l i mention e s c j size =
      return_here base set all bytes made given before after l i mention e s c
      ∙ behind (end_of base before) (instr_size i) (instr_size j) size (two_or_four i) (even_here base set all bytes made given before (l ∷ after) e) (low before (l ∷ after) e) where
        behind : (a m n : ℕ) → n ≡ m → (m ≡ 2) ⊎ (m ≡ 4) → a % 2 ≡ 0 → a ≤ 2 ^ 29 → a + m + 1 ≡ set_bit ((a + n) % 2 ^ 32)
        behind a m n same (inl e) even small = omega arith
        behind a m n same (inr e) even small = omega arith

  pub coded_size : (at : ℕ) (i : Instr) (mention : Option Mention) (j : Instr) → Coded base set all bytes made given at i mention j → instr_size j ≡ instr_size i
  coded_size at i None j c = ap instr_size (c.plain refl)
  coded_size at i (Some m) j c = aims_size at (mention_lies base names all m) i j (c.aims m refl)

  pub coded_act : (b : Around) (at : ℕ) (i : Instr) (mention : Option Mention) (j : Instr) (w : World) → Coded base set all bytes made given at i mention j → act b j w ≡ act b i w
  coded_act b at i None j w c = ap (λ (k : Instr). act b k w) (c.plain refl)
  coded_act b at i (Some m) j w c = same_act b at (mention_lies base names all m) i j w (c.aims m refl)

  lands : (word : ℕ) → LandingLoose ArrivesAt (landing names word (point_among word (points names code))) (lands_at image word)
  lands = lands_tied base set all bytes made given fits

  -- all surroundings that an instruction depends on correspond
  pub looks : (before after : List ListingLine) (l : ListingLine) (i : Instr) (mention : Option Mention) (e : all ≡ before ++ l ∷ after) (s : l.statement ≡ Instruction i mention) (j : Instr) → Coded base set all bytes made given (end_of base before) i mention j
      → LooksLoose ArrivesAt (around_of names code (length (places_of before)) i mention) (around_in image (end_of base before) j) i
  looks before after l (instr.Bx r) mention e s j c = lands
  looks before after l (instr.Blx r) mention e s j c = (lands, link_at before after l (instr.Blx r) mention e s refl j (coded_size (end_of base before) (instr.Blx r) mention j c))
  looks before after l (instr.Pop r) mention e s j c = lands
  looks before after l (instr.Literal t d) None e s j c = absurd (true≢false (sym (and_parts (is_whole (instr.Literal t d) None) true (fair_at before after l (instr.Literal t d) None e s)).0 ∙ and-false (d.number == 0)))
  looks before after l (instr.Literal t d) (Some m) e s j c =
      let f = (and_parts (is_whole (instr.Literal t d) (label_in (Some m))) (is_literal all m) (fair_at before after l (instr.Literal t d) (Some m) e s)).1 in
      let a = c.aims m refl in
      literal_tied m f ∙ ap (word_at image) a.1 ∙ sym (ap (literal_in image (end_of base before)) a.2)
  looks before after l (instr.Address t d) None e s j c = absurd (true≢false (sym (and_parts (is_whole (instr.Address t d) None) true (fair_at before after l (instr.Address t d) None e s)).0 ∙ and-false (d.number == 0)))
  looks before after l (instr.Address t d) (Some m) e s j c =
      let f = (and_parts (is_whole (instr.Address t d) (label_in (Some m))) (is_literal all m) (fair_at before after l (instr.Address t d) (Some m) e s)).1 in
      let a = c.aims m refl in
      let few = a.0.below in
      let reached = a.1 in
      let least = low before (l ∷ after) e in
      address_tied m f (omega arith) ∙ a.1 ∙ (let whole : literal_base (end_of base before) + 4 * a.0.number ≡ (literal_base (end_of base before) + 4 * a.0.number) % 2 ^ 32 = omega arith in whole) ∙ sym (ap (literal_in image (end_of base before)) a.2)
  looks before after l (instr.BranchIf k d) None e s j c = absurd (true≢false (sym (and_parts (is_whole (instr.BranchIf k d) None) true (fair_at before after l (instr.BranchIf k d) None e s)).0 ∙ and-false (d.field == 0)))
  looks before after l (instr.BranchIf k d) (Some m) e s j c =
      let f = and_parts (is_whole (instr.BranchIf k d) (label_in (Some m))) (is_code_label all m.name) (fair_at before after l (instr.BranchIf k d) (Some m) e s) in
      let a = c.aims m refl in
      subst (λ (z : Instr). TargetTied ArrivesAt (target_at names (Some m) (place_of code m.name)) (target_in image (end_of base before) z)) (sym a.2)
      (branch_tied (end_of base before) m (bytes_of 128 a.0.field) (low before (l ∷ after) e) a.1 (code_aimed m (no_plus (d.field == 0) m.name m.plus f.0) f.1))
  looks before after l (instr.Branch d) None e s j c = absurd (true≢false (sym (and_parts (is_whole (instr.Branch d) None) true (fair_at before after l (instr.Branch d) None e s)).0 ∙ and-false (d.field == 0)))
  looks before after l (instr.Branch d) (Some m) e s j c =
      let f = and_parts (is_whole (instr.Branch d) (label_in (Some m))) (is_code_label all m.name || not (is_label all m.name)) (fair_at before after l (instr.Branch d) (Some m) e s) in
      let a = c.aims m refl in
      subst (λ (z : Instr). TargetTied ArrivesAt (target_at names (Some m) (place_of code m.name)) (target_in image (end_of base before) z)) (sym a.2)
      (branch_tied (end_of base before) m (bytes_of 1024 a.0.field) (low before (l ∷ after) e) a.1
      (branch_aimed (length (places_of before)) (instr.Branch d) m (place_here base set all bytes made given before after l (instr.Branch d) (Some m) e s) (no_plus (d.field == 0) m.name m.plus f.0) f.1 (sound_at before after l (instr.Branch d) (Some m) e s)))
  looks before after l (instr.Call d) None e s j c = absurd (true≢false (sym (and_parts (is_whole (instr.Call d) None) true (fair_at before after l (instr.Call d) None e s)).0 ∙ and-false (d.field == 0)))
  looks before after l (instr.Call d) (Some m) e s j c =
      let f = and_parts (is_whole (instr.Call d) (label_in (Some m))) (is_code_label all m.name || not (is_label all m.name)) (fair_at before after l (instr.Call d) (Some m) e s) in
      let a = c.aims m refl in (
        subst (λ (z : Instr). TargetTied ArrivesAt (target_at names (Some m) (place_of code m.name)) (target_in image (end_of base before) z)) (sym a.2)
            (branch_tied (end_of base before) m (bytes_of 8388608 a.0.field) (low before (l ∷ after) e) a.1
            (branch_aimed (length (places_of before)) (instr.Call d) m (place_here base set all bytes made given before after l (instr.Call d) (Some m) e s) (no_plus (d.field == 0) m.name m.plus f.0) f.1 (sound_at before after l (instr.Call d) (Some m) e s))),
        link_at before after l (instr.Call d) (Some m) e s refl j (coded_size (end_of base before) (instr.Call d) (Some m) j c),
      )
  looks before after l i mention e s j c = tt
