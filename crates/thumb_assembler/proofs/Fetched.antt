-- What the image's machine finds at the address of a line: instructions, padding and data words.
use Rattle.std.proofs.Common.{◌≡◌, ◌∙◌, ◌⊎◌, inl, inr, ℕ, zero, suc, ◌+◌, ◌-◌, ◌*◌, ◌/◌, ◌%◌, ◌^◌, ◌<◌, ◌≤◌, ◌&&◌, true, List, [], ◌∷◌, ◌++◌, length, map, take, refl, sym, ap, subst, arith, true≢false, Option, Some, None, append_assoc}
use Rattle.std.specs.Prelude.{slice_index, slice_get, nat_lt, nat_le}
use Rattle.std.proofs.lemmas.Bool.{cases_lt, and_from, and_parts, le-leb, lt-ltb, le-ltb, ltb-true, leb-true}
use Rattle.thumb_model.proofs.Lists.{length_map}
use Rattle.thumb_instr.specs.declared.instr.Instr.{Instr}
use Rattle.thumb_instr.specs.declared.instr.Instr.TheVariants as instr
use Rattle.thumb_instr.specs.declared.operation.HintOperation.TheVariants as hint
use Rattle.thumb_table.specs.Table.{width, packed, pieces, row_of, code_of, Encodes}
use Rattle.thumb_model.specs.Listing.{Name, Mention, Value, Number, OfName, Statement, Nothing, Instruction, Words, Aligns, Sets, ListingLine, Place, Word, places_in, places_of}
use Rattle.thumb_model.specs.Layout.{instr_size, padding, size_at, end_of}
use Rattle.thumb_model.specs.Naming.{Naming, laid}
use Rattle.thumb_model.specs.Steps.{word_of_value}
use Rattle.thumb_assembler.specs.Bytes.{Laid, Aims, mention_lies, half_bytes, word_bytes, words_bytes, nops, IsInstrBytes, IsEncoded, IsStatementBytes, AreLineBytes, IsSetBy}
use Rattle.listing_parser.specs.Targets.{onward, reaches}
use Rattle.label_layout.proofs.Sums.{at_end}
use Rattle.thumb_assembler.specs.Fair.{is_fair, are_fair}
use Rattle.thumb_assembler.specs.Pushes.{placed}
use Rattle.thumb_assembler.specs.Runs.{Loaded, byte_at, half_at, word_at, IsFetched, IsAssembled, loaded}
use Rattle.thumb_assembler.proofs.Fairness.{listed_fair}
use Rattle.thumb_assembler.proofs.Places.{padding_even}
use Rattle.thumb_assembler.proofs.Codes.{eight_bits}
use Rattle.thumb_assembler.proofs.Cuts.{end_append, next_end, next_cut, next_places, place_behind, split, lines_long, two_or_four, index_back, fair_front, fair_back, end_even}

nops_at : (p j k : ℕ) (rest : List ℕ) → p % 2 ≡ 0 → k ≡ 2 * j → k < p → (slice_index (nops p ++ rest) k ≡ 0) × (slice_index (nops p ++ rest) (suc k) ≡ 191)
nops_at (suc (suc p)) j zero rest e is l = (refl, refl)
nops_at (suc (suc p)) j (suc (suc k)) rest e is l = nops_at p (j - 1) k rest (omega arith) (omega arith) (omega arith)
nops_at p j k rest e is l = absurd (omega arith)

-- what follows a short code doesn't matter
short_code : (i : Instr) (first second k : ℕ) → instr_size i ≡ 2 → Encodes i first second → Encodes i first k
short_code i first second k size e =
    let bits = eight_bits i in
    let long : width (row_of i) ≡ 16 = omega arith in
    record { is = e.is ∙ rw long refl }

-- `nop`
nop_width : width (row_of (instr.Hint hint.Nop)) ≡ 16
unfolding pieces
nop_width = refl

nop_packed : code_of (instr.Hint hint.Nop) ≡ 48896
unfolding pieces packed
nop_packed = refl

nop_code : (k : ℕ) → Encodes (instr.Hint hint.Nop) 48896 k
nop_code k = record { is = nop_packed ∙ sym (rw nop_width refl) }

module _ (base : ℕ) (set : Name → ℕ) (all : List ListingLine) (bytes : List ℕ) (made : IsAssembled base all bytes) (given : IsSetBy all set) where
  abbrev pub names : Naming
  names = laid base set all

  abbrev pub image : Loaded
  image = loaded base set all bytes

  abbrev pub site : Laid
  site = placed base set all

  pub fair : are_fair all all ≡ true
  fair = listed_fair _ all made.listed

  pub fair_before : (before after : List ListingLine) → all ≡ before ++ after → are_fair all before ≡ true
  fair_before before after e = fair_front all before after (subst (λ (ls : List ListingLine). are_fair all ls ≡ true) e fair)

  pub fair_after : (before after : List ListingLine) → all ≡ before ++ after → are_fair all after ≡ true
  fair_after before after e = fair_back all before after (subst (λ (ls : List ListingLine). are_fair all ls ≡ true) e fair)

  pub fair_here : (before after : List ListingLine) (l : ListingLine) → all ≡ before ++ l ∷ after → is_fair all l.statement ≡ true
  fair_here before after l e = (and_parts (is_fair all l.statement) (are_fair all after) (fair_after before (l ∷ after) e)).0

  pub even_here : (before after : List ListingLine) → all ≡ before ++ after → end_of base before % 2 ≡ 0
  even_here before after e = end_even all base before (fair_before before after e) made.even

  -- the bytes after those of the first lines are the bytes of the other lines
  record Back (before after : List ListingLine) : Type 0 where
    back : List ℕ
    are : AreLineBytes site (end_of base before) after back
    byte : (j : ℕ) → byte_at image (end_of base before + j) ≡ slice_index back j

  back_is : (before after : List ListingLine) → all ≡ before ++ after → Back before after
  back_is before after e =
      let s = split site base before after bytes (subst (λ (ls : List ListingLine). AreLineBytes site base ls bytes) e (made.image set given)) in
      let least = at_end base before in
      let long = lines_long all site base before s.front (fair_before before after e) made.even s.first in
      record {
        back = s.back;
        are = s.second;
        byte = λ j.
            rw (le-leb base (end_of base before + j) (omega arith))
            (ap (λ (bs : List ℕ). slice_index bs (end_of base before + j - base)) s.is ∙ index_back s.front s.back j (end_of base before + j - base) (omega arith));
      }

  pub record HereBytes (before after : List ListingLine) (l : ListingLine) : Type 0 where
    pub here : List ℕ
    pub rest : List ℕ
    pub are : IsStatementBytes site (end_of base before) l.statement here
    pub byte : (j : ℕ) → byte_at image (end_of base before + j) ≡ slice_index (here ++ rest) j

  pub here_is : (before after : List ListingLine) (l : ListingLine) → all ≡ before ++ l ∷ after → HereBytes before after l
  here_is before after l e =
      let b = back_is before (l ∷ after) e in
      record { here = b.are.0; rest = b.are.1; are = b.are.3; byte = λ j. b.byte j ∙ ap (λ (bs : List ℕ). slice_index bs j) b.are.2 }

  whole_long : base + length bytes ≡ end_of base all
  whole_long = lines_long all site base all bytes fair made.even (made.image set given)

  pub in_image : (a : ℕ) → base ≤ a → a < end_of base all → (nat_le base a && nat_lt a (base + length bytes)) ≡ true
  in_image a l h =
      let long = whole_long in
      and_from (nat_le base a) (nat_lt a (base + length bytes)) (le-leb base a l) (lt-ltb a (base + length bytes) (omega arith))

  pub out_of_image : (a : ℕ) (i : Instr) → IsFetched image a i → (base ≤ a) × (a < end_of base all)
  out_of_image a i f =
      let long = whole_long in
      let both = and_parts (nat_le base a) (nat_lt a (base + length bytes)) f.within in
      let l = leb-true base a both.0 in
      let h = ltb-true a (base + length bytes) both.1 in
      (omega arith, omega arith)

  pub below_end : (before after : List ListingLine) (l : ListingLine) (k : ℕ) → all ≡ before ++ l ∷ after → k < size_at l.statement (end_of base before) → end_of base before + k < end_of base all
  below_end before after l k e h =
      let w : end_of base all ≡ end_of (end_of base before + size_at l.statement (end_of base before)) after = ap (end_of base) e ∙ end_append base before (l ∷ after) in
      let s = at_end (end_of base before + size_at l.statement (end_of base before)) after in
      omega arith

  -- a halfword is its two bytes
  half_is : (a h : ℕ) → byte_at image a ≡ h % 256 → byte_at image (a + 1) ≡ h / 256 % 256 → h < 65536 → half_at image a ≡ h
  half_is a h p q l = rw (p, q) (omega arith)

  pub half_here : (a j h : ℕ) (bs : List ℕ) → ((k : ℕ) → byte_at image (a + k) ≡ slice_index bs k) → slice_index bs j ≡ h % 256 → slice_index bs (j + 1) ≡ h / 256 % 256 → h < 65536 → half_at image (a + j) ≡ h
  half_here a j h bs b p q l = half_is (a + j) h (b j ∙ p) (ap (byte_at image) (let s : a + j + 1 ≡ a + (j + 1) = omega arith in s) ∙ b (j + 1) ∙ q) l

  at_start : (a : ℕ) → half_at image (a + 0) ≡ half_at image a
  at_start a = ap (half_at image) (let s : a + 0 ≡ a = omega arith in s)

  -- an instruction is fetched where its bytes lie
  pub fetched_at : (a : ℕ) (i : Instr) (here rest : List ℕ) → base ≤ a → a < end_of base all → IsInstrBytes i here → ((k : ℕ) → byte_at image (a + k) ≡ slice_index (here ++ rest) k) → IsFetched image a i
  fetched_at a i here rest l h b bytes_are = go (two_or_four i) where
    first : ℕ
    first = b.0

    second : ℕ
    second = b.1

    cut : (n : ℕ) → instr_size i ≡ n → (k : ℕ) → byte_at image (a + k) ≡ slice_index (take n (half_bytes b.0 ++ half_bytes b.1) ++ rest) k
    cut n e k = bytes_are k ∙ ap (λ (bs : List ℕ). slice_index (bs ++ rest) k) (b.5 ∙ ap (λ (m : ℕ). take m (half_bytes b.0 ++ half_bytes b.1)) e)

    go : (instr_size i ≡ 2) ⊎ (instr_size i ≡ 4) → IsFetched image a i
    go (inl e) =
        let low : half_at image a ≡ b.0 = sym (at_start a) ∙ half_here a 0 b.0 (take 2 (half_bytes b.0 ++ half_bytes b.1) ++ rest) (cut 2 e) refl refl b.3 in
        record {
          within = in_image a l h;
          encoded = subst (λ (x : ℕ). Encodes i x (half_at image (a + 2))) (sym low) (short_code i b.0 b.1 (half_at image (a + 2)) e b.2);
        }
    go (inr e) =
        let low : half_at image a ≡ b.0 = sym (at_start a) ∙ half_here a 0 b.0 (take 4 (half_bytes b.0 ++ half_bytes b.1) ++ rest) (cut 4 e) refl refl b.3 in
        let high : half_at image (a + 2) ≡ b.1 = half_here a 2 b.1 (take 4 (half_bytes b.0 ++ half_bytes b.1) ++ rest) (cut 4 e) refl refl b.4 in
        record {
          within = in_image a l h;
          encoded = subst (λ (x : ℕ). Encodes i x (half_at image (a + 2))) (sym low) (subst (λ (y : ℕ). Encodes i b.0 y) (sym high) b.2);
        }

  -- an instruction is fetched as it is encoded at its address
  pub record Coded (at : ℕ) (i : Instr) (mention : Option Mention) (j : Instr) : Type 0 where
    pub plain : mention ≡ None → j ≡ i
    pub aims : (m : Mention) → mention ≡ Some m → Aims at (mention_lies base names all m) i j

  pub record FetchedHere (at : ℕ) (i : Instr) (mention : Option Mention) : Type 0 where
    pub code : Instr
    pub coded : Coded at i mention code
    pub fetched : IsFetched image at code

  encoded_here : (at : ℕ) (i : Instr) (mention : Option Mention) (here rest : List ℕ) → base ≤ at → at < end_of base all → IsEncoded site at i mention here → ((k : ℕ) → byte_at image (at + k) ≡ slice_index (here ++ rest) k) → FetchedHere at i mention
  encoded_here at i None here rest l h b e = record {
    code = i;
    coded = record { plain = λ _. refl; aims = λ m bad. absurd (let no : None ≡ Some m = bad in cc) };
    fetched = fetched_at at i here rest l h b e;
  }
  encoded_here at i (Some m) here rest l h b e = record {
    code = b.0;
    coded = record { plain = λ bad. absurd (let no : Some m ≡ None = bad in cc); aims = λ n same. subst (λ (x : Mention). Aims at (mention_lies base names all x) i b.0) (let is : m ≡ n = cc in is) b.1 };
    fetched = fetched_at at b.0 here rest l h b.2 e;
  }

  pub fetched_here : (before after : List ListingLine) (l : ListingLine) (i : Instr) (mention : Option Mention) → all ≡ before ++ l ∷ after → l.statement ≡ Instruction i mention → FetchedHere (end_of base before) i mention
  fetched_here before after l i mention e s =
      let b = here_is before after l e in
      let least = at_end base before in
      let size : size_at l.statement (end_of base before) ≡ instr_size i = ap (λ (t : Statement). size_at t (end_of base before)) s in
      let below = below_end before after l 0 e (elim (two_or_four i) [ inl z ↦ omega arith | inr z ↦ omega arith ]) in
      encoded_here (end_of base before) i mention b.here b.rest least (omega arith) (subst (λ (t : Statement). IsStatementBytes site (end_of base before) t b.here) s b.are) b.byte

  -- padding is fetched as instructions that do nothing
  pub padding_here : (before after : List ListingLine) (l : ListingLine) (size most : ℕ) → all ≡ before ++ l ∷ after → l.statement ≡ Aligns size most → (j : ℕ) → 2 * j < padding size most (end_of base before)
      → IsFetched image (end_of base before + 2 * j) (instr.Hint hint.Nop)
  padding_here before after l size most e s j k =
      let b = here_is before after l e in
      let p = padding size most (end_of base before) in
      let is : b.here ≡ nops p = subst (λ (t : Statement). IsStatementBytes site (end_of base before) t b.here) s b.are in
      let even = padding_even size most (end_of base before) (subst (λ (t : Statement). is_fair all t ≡ true) s (fair_here before after l e)) (even_here before (l ∷ after) e) in
      let at = nops_at p j (2 * j) b.rest even refl k in
      let byte : (n : ℕ) → byte_at image (end_of base before + n) ≡ slice_index (nops p ++ b.rest) n = λ n. b.byte n ∙ ap (λ (bs : List ℕ). slice_index (bs ++ b.rest) n) is in
      let h : half_at image (end_of base before + 2 * j) ≡ 48896 =
      half_here (end_of base before) (2 * j) 48896 (nops p ++ b.rest) byte at.0 (ap (slice_index (nops p ++ b.rest)) (let s : 2 * j + 1 ≡ suc (2 * j) = omega arith in s) ∙ at.1) (omega arith) in
      let least = at_end base before in
      let whole : size_at l.statement (end_of base before) ≡ p = ap (λ (t : Statement). size_at t (end_of base before)) s in
      record {
        within = in_image (end_of base before + 2 * j) (omega arith) (below_end before after l (2 * j) e (omega arith));
        encoded = subst (λ (x : ℕ). Encodes (instr.Hint hint.Nop) x (half_at image (end_of base before + 2 * j + 2))) (sym h) (nop_code (half_at image (end_of base before + 2 * j + 2)));
      }

  -- ---- words of data ----

  word_is : (a w : ℕ) (bs : List ℕ) (n : ℕ) → ((k : ℕ) → byte_at image (a + k) ≡ slice_index bs (n + k)) → slice_index bs n ≡ w % 256 → slice_index bs (n + 1) ≡ w / 256 % 256 → slice_index bs (n + 2) ≡ w / 65536 % 256
      → slice_index bs (n + 3) ≡ w / 16777216 % 256 → w < 2 ^ 32 → word_at image a ≡ w
  word_is a w bs n b p0 p1 p2 p3 l =
      let b0 : byte_at image a ≡ w % 256 = ap (byte_at image) (let s : a ≡ a + 0 = omega arith in s) ∙ b 0 ∙ ap (slice_index bs) (let s : n + 0 ≡ n = omega arith in s) ∙ p0 in
      let b1 : byte_at image (a + 1) ≡ w / 256 % 256 = b 1 ∙ p1 in
      let b2 : byte_at image (a + 2) ≡ w / 65536 % 256 = b 2 ∙ p2 in
      let b3 : byte_at image (a + 2 + 1) ≡ w / 16777216 % 256 = ap (byte_at image) (let s : a + 2 + 1 ≡ a + 3 = omega arith in s) ∙ b 3 ∙ p3 in
      rw (b0, b1, b2, b3) (omega arith)

  value_small : (v : Value) → word_of_value names v < 2 ^ 32
  value_small (Number n) = omega arith
  value_small (OfName m) = omega arith

  -- the words of a list are one after the other
  value_at : (a : ℕ) (vs : List Value) (rest bs : List ℕ) (n : ℕ) → bs ≡ words_bytes names vs ++ rest → ((k : ℕ) → byte_at image (a + k) ≡ slice_index bs k) → (v : Value) → slice_get vs n ≡ Some v → word_at image (a + 4 * n) ≡ word_of_value names v
  value_at a [] rest bs n e b v g = absurd (let bad : None ≡ Some v = g in cc)
  value_at a (u ∷ vs) rest bs zero e b v g =
      let same : Some u ≡ Some v = g in
      let is : u ≡ v = cc in
      let w = word_of_value names u in
      ap (word_at image) (let s : a + 4 * 0 ≡ a = omega arith in s)
      ∙ word_is a w ((word_bytes w ++ words_bytes names vs) ++ rest) 0 (λ k. b k ∙ ap (λ (x : List ℕ). slice_index x k) e ∙ ap (slice_index ((word_bytes w ++ words_bytes names vs) ++ rest)) (let s : k ≡ 0 + k = omega arith in s)) refl refl refl refl (value_small u)
      ∙ ap (word_of_value names) is
  value_at a (u ∷ vs) rest bs (suc n) e b v g =
      let w = word_of_value names u in
      ap (word_at image) (let s : a + 4 * suc n ≡ a + 4 + 4 * n = omega arith in s)
      ∙ value_at (a + 4) vs rest (words_bytes names vs ++ rest) n refl
      (λ k. ap (byte_at image) (let s : a + 4 + k ≡ a + (4 + k) = omega arith in s) ∙ b (4 + k) ∙ ap (λ (x : List ℕ). slice_index x (4 + k)) (e ∙ append_assoc (word_bytes w) (words_bytes names vs) rest)
      ∙ index_back (word_bytes w) (words_bytes names vs ++ rest) k (4 + k) refl)
      v g

  -- the words at the beginning of the second part of a cut
  pub record DataAt (before after : List ListingLine) (n : ℕ) : Type 0 where
    pub value : Value
    pub place : slice_get (places_of all) (length (places_of before) + n) ≡ Some (Word value)
    pub word : word_at image (end_of base before + 4 * n) ≡ word_of_value names value

  got_word : (vs : List Value) (n : ℕ) → n < length vs → (v : Value) × (slice_get vs n ≡ Some v) × (slice_get (map Word vs) n ≡ Some (Word v))
  got_word [] n h = absurd (omega arith)
  got_word (v ∷ vs) zero h = (v, refl, refl)
  got_word (v ∷ vs) (suc n) h = got_word vs n (omega arith)

  front_of : (ps qs : List Place) (n : ℕ) (x : Place) → slice_get ps n ≡ Some x → slice_get (ps ++ qs) n ≡ Some x
  front_of [] qs n x e = absurd (let bad : None ≡ Some x = e in cc)
  front_of (p ∷ ps) qs zero x e = e
  front_of (p ∷ ps) qs (suc n) x e = front_of ps qs n x e

  data_moved : (before after : List ListingLine) (l : ListingLine) (n k : ℕ) → all ≡ before ++ l ∷ after → n ≡ length (places_in l.statement) + k → 4 * n ≡ size_at l.statement (end_of base before) + 4 * k → DataAt (before ++ l ∷ []) after k → DataAt before (l ∷ after) n
  data_moved before after l n k e p a d =
      let places = next_places before l in
      let ends = next_end base before l in
      record {
        value = d.value;
        place = ap (slice_get (places_of all)) (let s : length (places_of before) + n ≡ length (places_of (before ++ l ∷ [])) + k = omega arith in s) ∙ d.place;
        word = ap (word_at image) (let s : end_of base before + 4 * n ≡ end_of base (before ++ l ∷ []) + 4 * k = omega arith in s) ∙ d.word;
      }

  data_by : (before after : List ListingLine) (l : ListingLine) (n : ℕ) → all ≡ before ++ l ∷ after → ((k : ℕ) → reaches after k ≡ true → DataAt (before ++ l ∷ []) after k) → (s : Statement) → l.statement ≡ s → onward n s (reaches after) ≡ true → DataAt before (l ∷ after) n
  data_by before after l n e next Nothing is h =
      let p : length (places_in l.statement) ≡ 0 = ap (λ (t : Statement). length (places_in t)) is in
      let z : size_at l.statement (end_of base before) ≡ 0 = ap (λ (t : Statement). size_at t (end_of base before)) is in
      data_moved before after l n n e (omega arith) (omega arith) (next n h)
  data_by before after l n e next (Instruction i m) is h = absurd (true≢false (sym h))
  data_by before after l n e next (Aligns size most) is h = absurd (true≢false (sym h))
  data_by before after l n e next (Sets name address) is h =
      let p : length (places_in l.statement) ≡ 0 = ap (λ (t : Statement). length (places_in t)) is in
      let z : size_at l.statement (end_of base before) ≡ 0 = ap (λ (t : Statement). size_at t (end_of base before)) is in
      data_moved before after l n n e (omega arith) (omega arith) (next n h)
  data_by before after l n e next (Words vs) is h = elim (cases_lt n (length vs)) [
    | inl below ↦
        let b = here_is before after l e in
        let g = got_word vs n below in
        let words : b.here ≡ words_bytes names vs = subst (λ (t : Statement). IsStatementBytes site (end_of base before) t b.here) is b.are in
        let first : slice_get (places_of (l ∷ after)) n ≡ Some (Word g.0) = ap (λ (t : Statement). slice_get (places_in t ++ places_of after) n) is ∙ front_of (map Word vs) (places_of after) n (Word g.0) g.2 in
        record {
          value = g.0;
          place = ap (λ (ls : List ListingLine). slice_get (places_of ls) (length (places_of before) + n)) e ∙ place_behind before (l ∷ after) n ∙ first;
          word = value_at (end_of base before) vs b.rest (b.here ++ b.rest) n (ap (λ (x : List ℕ). x ++ b.rest) words) b.byte g.0 g.1;
        }
    | inr above ↦
        let p : length (places_in l.statement) ≡ length vs = ap (λ (t : Statement). length (places_in t)) is ∙ length_map Word vs in
        let z : size_at l.statement (end_of base before) ≡ 4 * length vs = ap (λ (t : Statement). size_at t (end_of base before)) is in
        data_moved before after l n (n - length vs) e (omega arith) (omega arith)
        (next (n - length vs) (rw (le-ltb n (length vs) above) at h))
  ]

  pub data_from : (after before : List ListingLine) (n : ℕ) → all ≡ before ++ after → reaches after n ≡ true → DataAt before after n
  data_from [] before n e r = absurd (true≢false (sym r))
  data_from (l ∷ after) before n e r = data_by before after l n e (λ k h. data_from after (before ++ l ∷ []) k (next_cut all before after l e) h) l.statement refl r
