-- The proof of `ReplacedLinesAreACut`.
use Rattle.std.proofs.Common.{◌≡◌, ◌∙◌, inl, inr, ℕ, zero, suc, ◌+◌, ◌-◌, ◌==◌, ◌&&◌, true, false, List, [], ◌∷◌, ◌++◌, length, map, refl, sym, ap, arith, true≢false}
use Rattle.std.proofs.lemmas.Bool.{cases_Bool, ne_eqb}
use Rattle.std.proofs.lemmas.List.{length-append}
use Rattle.thumb_instr.specs.declared.instr.Instr.{Instr}
use Rattle.thumb_model.specs.Listing.{Statement, Nothing, Instruction, Words, Aligns, Sets, ListingLine, places_in, places_of}
use Rattle.thumb_model.specs.Replaced.{is_op, labels_kept, new_line, replaced_lines, without}
use Rattle.thumb_model.specs.Cuts.{op_count, others}

pub without_none : (ls : List ListingLine) → without 0 ls ≡ ls
without_none [] = refl
without_none (l ∷ ls) = refl

-- `without` removes an instruction's line that comes first
op_goes : (n : ℕ) (l : ListingLine) (ls : List ListingLine) → is_op l.statement ≡ true → without (n + 1) (l ∷ ls) ≡ without n ls
op_goes n l ls h = ap (λ (k : ℕ). without k (l ∷ ls)) (let e : n + 1 ≡ suc n = omega arith in e) ∙ rw h refl

-- `without` keeps another line that comes first
other_stays : (n : ℕ) (l : ListingLine) (ls : List ListingLine) → is_op l.statement ≡ false → without n (l ∷ ls) ≡ l ∷ without n ls
other_stays zero l ls h = ap (λ (xs : List ListingLine). l ∷ xs) (sym (without_none ls))
other_stays (suc n) l ls h = rw h refl

without_between : (between after : List ListingLine) → without (op_count between) (between ++ after) ≡ others between ++ after
without_between [] after = without_none after
without_between (l ∷ ls) after = elim (cases_Bool (is_op l.statement)) [
  | inl h ↦ rw h (op_goes (op_count ls) l (ls ++ after) h ∙ without_between ls after)
  | inr h ↦ rw h (other_stays (op_count ls) l (ls ++ after) h ∙ ap (λ (xs : List ListingLine). l ∷ xs) (without_between ls after))
]

pub op_takes : (s : Statement) → is_op s ≡ true → length (places_in s) ≡ 1
op_takes Nothing e = absurd (true≢false (sym e))
op_takes (Instruction i mention) e = refl
op_takes (Words vs) e = absurd (true≢false (sym e))
op_takes (Aligns size most) e = absurd (true≢false (sym e))
op_takes (Sets name address) e = absurd (true≢false (sym e))

not_here : (l : ListingLine) (n : ℕ) → n ≡ length (places_in l.statement) → (m : ℕ) → (is_op l.statement && (n + m == 0)) ≡ false
not_here l n size m = elim (cases_Bool (is_op l.statement)) [
  | inl h ↦ (let one = op_takes l.statement h in let past : (n + m == 0) ≡ false = ne_eqb (n + m) 0 (omega arith) in rw (h, past) refl)
  | inr h ↦ rw h refl
]

before_stays : (write : Instr → List ℕ) (l : ListingLine) (bs rest : List ListingLine) (count : ℕ) (new : List Instr)
    → replaced_lines write (length (places_of (l ∷ bs))) count new (l ∷ rest) ≡ l ∷ replaced_lines write (length (places_of bs)) count new rest
before_stays write l bs rest count new =
    let size = length-append (places_in l.statement) (places_of bs) in
    let other : (is_op l.statement && (length (places_of (l ∷ bs)) == 0)) ≡ false =
    ap (λ (n : ℕ). is_op l.statement && (n == 0)) size ∙ not_here l (length (places_in l.statement)) refl (length (places_of bs)) in
    rw other (ap (λ (n : ℕ). l ∷ replaced_lines write n count new rest) (let e : length (places_of (l ∷ bs)) - length (places_in l.statement) ≡ length (places_of bs) = omega (arith, size) in e))

first_goes : (write : Instr → List ℕ) (count : ℕ) (first : ListingLine) (rest : List ListingLine) (new : List Instr) → is_op first.statement ≡ true
    → replaced_lines write 0 (count + 1) new (first ∷ rest) ≡ labels_kept first first.names ++ (map (new_line write) new ++ without count rest)
first_goes write count first rest new h =
    rw h (ap (λ (n : ℕ). labels_kept first first.names ++ (map (new_line write) new ++ without n rest)) (let e : count + 1 - 1 ≡ count = omega arith in e))

pub replaced_cut : (write : Instr → List ℕ) (before between after : List ListingLine) (first : ListingLine) (new : List Instr) → is_op first.statement ≡ true
    → replaced_lines write (length (places_of before)) (op_count between + 1) new (before ++ first ∷ (between ++ after)) ≡ before ++ (labels_kept first first.names ++ (map (new_line write) new ++ (others between ++ after)))
replaced_cut write [] between after first new h =
    first_goes write (op_count between) first (between ++ after) new h
    ∙ ap (λ (xs : List ListingLine). labels_kept first first.names ++ (map (new_line write) new ++ xs)) (without_between between after)
replaced_cut write (b ∷ bs) between after first new h =
    before_stays write b bs (bs ++ first ∷ (between ++ after)) (op_count between + 1) new ∙ ap (λ (xs : List ListingLine). b ∷ xs) (replaced_cut write bs between after first new h)
