-- What is appended for each kind of statement is the statement's bytes.
use Rattle.std.proofs.Common.{◌≡◌, ◌∙◌, ℕ, ◌+◌, ◌*◌, ◌/◌, ◌%◌, ◌^◌, ◌<◌, ◌&&◌, ◌||◌, Bool, true, false, not, List, [], ◌∷◌, ◌++◌, length, refl, sym, ap, subst, arith, Option, Some, None, Result, Ok, Err, is_some, append_assoc, length-append, append-nil, if◌then◌else◌}
use Rattle.std.proofs.Math.Bool.{and-false}
use Rattle.thumb_instr.specs.declared.instr.Instr.{Instr}
use Rattle.thumb_instr.specs.declared.instr.Instr.TheVariants as instr
use Rattle.thumb_model.specs.Listing.{Name, Mention, Value, Number, Instruction, Words, Aligns, ListingLine}
use Rattle.thumb_model.specs.Layout.{instr_size, padding, lies_in}
use Rattle.thumb_model.specs.Steps.{word_of_value}
use Rattle.thumb_model.specs.Naming.{laid}
use Rattle.thumb_assembler.specs.Bytes.{nops, word_bytes, words_bytes, Aims, IsSetBy, may_leave, branch_lost, values_lost, flaw_of}
use Rattle.thumb_assembler.specs.declared.errors.Flaw.{Flaw}
use Rattle.thumb_assembler.specs.declared.errors.Flaw.TheVariants as flaw
use Rattle.thumb_assembler.specs.Fair.{is_fair}
use Rattle.thumb_assembler.specs.Pushes.{PushedCode, PushedLaid, Pushes, PushedValue, PushedValues, PushesValues}
use Rattle.thumb_assembler.proofs.Codes.{nops_length}
use Rattle.thumb_assembler.proofs.Places.{lies_there, lost_leaves, padding_even}

grown : (old new here : List ℕ) → new ≡ old ++ here → length new ≡ length old + length here
grown old new here e = ap length e ∙ length-append old here

-- ---- instructions ----

pub aims_size : (at to : ℕ) (i j : Instr) → Aims at to i j → instr_size j ≡ instr_size i
aims_size at to (instr.Literal t d) j a = ap instr_size a.2
aims_size at to (instr.Address t d) j a = ap instr_size a.2
aims_size at to (instr.BranchIf c d) j a = ap instr_size a.2
aims_size at to (instr.Branch d) j a = ap instr_size a.2
aims_size at to (instr.Call d) j a = ap instr_size a.2
aims_size at to i j a = ap instr_size a

pub aimed_pushed : (base : ℕ) (all : List ListingLine) (at x : ℕ) (i j : Instr) (m : Mention) (old new : List ℕ) → lies_in base all m.name ≡ Some x → Aims at (x + m.plus) i j → PushedCode j old new → PushedLaid base all at (Instruction i (Some m)) old new
aimed_pushed base all at x i j m old new e a p =
    let size = grown old new p.here p.pushed in
    let long = p.long in
    let same = aims_size at (x + m.plus) i j a in
    let kept : branch_lost base all i (Some m) ≡ false = ap (λ (o : Option ℕ). may_leave i && not (is_some o)) e ∙ and-false (may_leave i) in
    record {
      sound = ap (λ (b : Bool). if b then Some flaw.NoAddress else None) kept;
      pushed = λ set h. record { here = p.here; are = (j, subst (λ (n : ℕ). Aims at n i j) (sym (lies_there base all set m x h e)) a, p.are); pushed = p.pushed };
      long = omega arith;
    }

pub aimed_lost : (base : ℕ) (all : List ListingLine) (i : Instr) (m : Mention) → is_fair all (Instruction i (Some m)) ≡ true → lies_in base all m.name ≡ None → flaw_of base all (Instruction i (Some m)) ≡ Some flaw.NoAddress
aimed_lost base all i m f e =
    let lost : branch_lost base all i (Some m) ≡ true = ap (λ (o : Option ℕ). may_leave i && not (is_some o)) e ∙ ap (λ (b : Bool). b && true) (lost_leaves base all i m f e) in
    ap (λ (b : Bool). if b then Some flaw.NoAddress else None) lost

-- ---- words ----

pub number_pushed : (base : ℕ) (all : List ListingLine) (n : ℕ) (old new : List ℕ) → n < 2 ^ 32 → new ≡ old ++ word_bytes n → PushedValue base all (Number n) old new
number_pushed base all n old new l e =
    let same : n ≡ n % 2 ^ 32 = omega arith in
    record { found = refl; pushed = λ set h. e ∙ ap (λ (w : ℕ). old ++ word_bytes w) same; long = grown old new (word_bytes n) e }

-- the words so far were appended
pub record Front (base : ℕ) (all : List ListingLine) (vs : List Value) (old : List ℕ) (left : List Value) (now : List ℕ) : Type 0 where
  pub found : values_lost base all vs ≡ values_lost base all left
  pub pushed : (set : Name → ℕ) → IsSetBy all set → now ++ words_bytes (laid base set all) left ≡ old ++ words_bytes (laid base set all) vs
  pub long : length now + 4 * length left ≡ length old + 4 * length vs

pub front_more : (base : ℕ) (all : List ListingLine) (vs : List Value) (old : List ℕ) (v : Value) (left : List Value) (now new : List ℕ) → Front base all vs old (v ∷ left) now → PushedValue base all v now new → Front base all vs old left new
front_more base all vs old v left now new f p =
    let a = f.long in
    let b = p.long in
    record {
      found = f.found ∙ ap (λ (b : Bool). b || values_lost base all left) p.found;
      pushed = λ set h.
          ap (λ (bytes : List ℕ). bytes ++ words_bytes (laid base set all) left) (p.pushed set h)
          ∙ append_assoc now (word_bytes (word_of_value (laid base set all) v)) (words_bytes (laid base set all) left)
          ∙ f.pushed set h;
      long = omega arith;
    }

pub front_all : (base : ℕ) (all : List ListingLine) (vs : List Value) (old now : List ℕ) → Front base all vs old [] now → PushedValues base all vs old now
front_all base all vs old now f =
    let a = f.long in
    record { found = f.found; pushed = λ set h. sym (append-nil now) ∙ f.pushed set h; long = omega arith }

words_pushed : (base : ℕ) (all : List ListingLine) (at : ℕ) (vs : List Value) (old new : List ℕ) → PushedValues base all vs old new → PushedLaid base all at (Words vs) old new
words_pushed base all at vs old new p = record {
  sound = ap (λ (b : Bool). if b then Some flaw.NoAddress else None) p.found;
  pushed = λ set h. record { here = words_bytes (laid base set all) vs; are = refl; pushed = p.pushed set h };
  long = p.long;
}

pub words_push : {T : Type 0} (base : ℕ) (all : List ListingLine) (at : ℕ) (vs : List Value) (old new : List ℕ) (r : Result T Flaw) → PushesValues base all vs old new r → Pushes base all at (Words vs) old new r
words_push base all at vs old new (Ok t) p = words_pushed base all at vs old new p
words_push base all at vs old new (Err flaw.NoAddress) p = ap (λ (b : Bool). if b then Some flaw.NoAddress else None) p
words_push base all at vs old new (Err flaw.Inside) p = absurd p
words_push base all at vs old new (Err flaw.Memory) p = tt

-- ---- other statements ----

pub padding_pushed : (base : ℕ) (all : List ListingLine) (at size most : ℕ) (old new : List ℕ) → is_fair all (Aligns size most) ≡ true → at % 2 ≡ 0 → new ≡ old ++ nops (padding size most at) → PushedLaid base all at (Aligns size most) old new
padding_pushed base all at size most old new f h e =
    let even = padding_even size most at f h in
    let n = padding size most at in
    let long : length (nops n) ≡ n = nops_length (n / 2) n (omega arith) in
    let grew = grown old new (nops n) e in
    record {
      sound = refl;
      pushed = λ set g. record { here = nops n; are = refl; pushed = e };
      long = grew ∙ ap (λ (k : ℕ). length old + k) long;
    }
