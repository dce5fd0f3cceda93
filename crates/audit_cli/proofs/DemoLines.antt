-- The lines of the listing that `demo` makes: its text is read as these lines, and they mention no name.
use Rattle.std.proofs.Common.{◌≡◌, ◌∙◌, ℕ, zero, suc, ◌+◌, ◌*◌, ◌<◌, ◌≤◌, ◌%◌, ◌==◌, true, false, List, [], ◌∷◌, ◌++◌, length, map, inl, inr, refl, sym, ap, ap₂, subst, arith, codes, append_assoc, append-nil, length-append, if◌then◌else◌, None, Ok}
use Rattle.std.specs.List.{list_all}
use Rattle.std.specs.Fmt.{decimal}
use Rattle.std.proofs.Math.Nat.{mod-lt}
use Rattle.std.proofs.lemmas.Bool.{cases_Bool, and_parts, and_from, lt-ltb}
use Rattle.std.proofs.lemmas.Fmt.{decimal_digit, decimal_step}
use Rattle.std.proofs.lemmas.List.{length-map}
use Rattle.std.proofs.lemmas.List.Folds.{list_all-append}
use Rattle.ascii_scan.specs.Lines.{content_of, is_ended, placed, placed_from, whole}
use Rattle.ascii_scan.specs.Names.{register_names}
use Rattle.thumb_instr.specs.declared.instr.Instr.{Instr}
use Rattle.thumb_instr.specs.declared.instr.Instr.TheVariants as instr
use Rattle.thumb_instr.specs.declared.operation.Right.TheVariants as right
use Rattle.thumb_instr.specs.declared.operation.Operation.TheVariants as operation
use Rattle.thumb_instr.specs.declared.operation.ByteOperation.TheVariants as byte
use Rattle.thumb_instr.specs.declared.operation.HintOperation.TheVariants as hint
use Rattle.thumb_instr.specs.declared.within.Within.{Within}
use Rattle.thumb_instr.specs.declared.within.General.{General}
use Rattle.thumb_syntax.specs.Operands.{is_name}
use Rattle.thumb_syntax.specs.Spelling.{text_of}
use Rattle.seq_enum.specs.Alphabet.{wide}
use Rattle.thumb_model.specs.Listing.{Name, Nothing, ListingLine}
use Rattle.thumb_model.specs.Replaced.{new_line}
use Rattle.listing_parser.specs.Grammar.{Read, read_lines, shown_of, most_lines}
use Rattle.listing_parser.proofs.FirstTwice.{first_twice}
use Rattle.listing_parser.proofs.TwiceLemmas.{none_once}
use Rattle.listing_parser.specs.Targets.{functions}
use Rattle.listing_parser.specs.Parsing.{IsListing, text_of_lines, own_line}
use Rattle.listing_parser.specs.Replacing.{names_no_label}
use Rattle.listing_parser.proofs.CanonicalLines.{unnamed, told_of, labels_only, canonical_line_checked, label_line_checked}
use Rattle.listing_parser.proofs.JoinedLines.{Ends, AreEnded, inside_ends, text, joined_split, ReadsAs, AreRead, all_same, all_read}
use Rattle.listing_parser.proofs.OldLines.{content_newline}
use Rattle.audit_cli.specs.Demo.{own, pair, window_text, windows_text, demo_text}
use Rattle.audit_cli.proofs.MuteLines.{AreMute, all_aimed}
use Rattle.listing_parser.proofs.ReplacedLines.{own_ends, own_inside, whole_ended, own_is}

-- ---- instructions ----

low : (n : ℕ) → n < 8 → Within 0 8
low n small = record { number = n; least = omega arith; below = small }

left_by : Within 1 32
left_by = record { number = 24; least = omega arith; below = omega arith }

right_by : Within 1 33
right_by = record { number = 24; least = omega arith; below = omega arith }

one : Within 0 256
one = record { number = 1; least = omega arith; below = omega arith }

link : General
link = record { number = 14; below = omega arith; no_sp = λ e. absurd (omega arith) }

abbrev cut_left : Within 0 8 → Instr
cut_left d = instr.ShiftLeft d d left_by

abbrev cut_right : Within 0 8 → Instr
cut_right d = instr.ShiftRight right.Lsr d d right_by

abbrev inverted : Within 0 8 → Instr
inverted d = instr.Two operation.Mvn d d

abbrev one_more : Within 0 8 → Instr
one_more d = instr.TwoNumber byte.Add d one

abbrev copied : Within 0 8 → Instr
copied d = instr.Mov (wide d) (wide d)

abbrev nothing : Instr
nothing = instr.Hint hint.Nop

abbrev back : Instr
back = instr.Bx link

abbrev two_instrs : ℕ → Within 0 8 → List Instr
two_instrs kind d = if kind == 0 then cut_left d ∷ cut_right d ∷ [] else if kind == 1 then inverted d ∷ one_more d ∷ [] else copied d ∷ copied d ∷ []

below_eight : (i : ℕ) → i % 8 < 8
below_eight i = mod-lt i (omega arith)

target : ℕ → Within 0 8
target i = low (i % 8) (below_eight i)

abbrev window_instrs : ℕ → List Instr
window_instrs i = two_instrs (i % 3) (target i) ++ nothing ∷ []

abbrev windows_instrs : ℕ → List Instr
windows_instrs zero = []
windows_instrs (suc n) = windows_instrs n ++ window_instrs n

demo_instrs : ℕ → List Instr
demo_instrs n = windows_instrs n ++ back ∷ []

-- ---- their texts ----

abbrev Spells : Instr → List ℕ → Type 0
Spells i t = text_of (shown_of i None) ≡ t

is_low : (n : ℕ) → n < 8 → (n < 13)
is_low n small = omega arith

twenty_four : decimal 24 ++ [] ≡ codes "24"
twenty_four = append-nil (decimal 24) ∙ decimal_step 24 (omega arith) (omega arith) ∙ ap (λ (ds : List ℕ). ds ++ 52 ∷ []) (decimal_digit 2 (omega arith))

single : decimal 1 ++ [] ≡ codes "1"
single = append-nil (decimal 1) ∙ decimal_digit 1 (omega arith)

spells_left : (n : ℕ) (small : n < 8) → Spells (cut_left (low n small)) (codes "lsls " ++ ((114 ∷ decimal n) ++ (codes ", " ++ ((114 ∷ decimal n) ++ codes ", #24"))))
unfolding low left_by
spells_left n small = rw (lt-ltb n 13 (is_low n small)) (ap (λ (t : List ℕ). codes "lsls " ++ ((114 ∷ decimal n) ++ (codes ", " ++ ((114 ∷ decimal n) ++ (codes ", #" ++ t))))) twenty_four)

spells_right : (n : ℕ) (small : n < 8) → Spells (cut_right (low n small)) (codes "lsrs " ++ ((114 ∷ decimal n) ++ (codes ", " ++ ((114 ∷ decimal n) ++ codes ", #24"))))
unfolding low right_by
spells_right n small = rw (lt-ltb n 13 (is_low n small)) (ap (λ (t : List ℕ). codes "lsrs " ++ ((114 ∷ decimal n) ++ (codes ", " ++ ((114 ∷ decimal n) ++ (codes ", #" ++ t))))) twenty_four)

spells_inverted : (n : ℕ) (small : n < 8) → Spells (inverted (low n small)) (codes "mvns " ++ ((114 ∷ decimal n) ++ (codes ", " ++ (114 ∷ decimal n))))
unfolding low
spells_inverted n small = rw (lt-ltb n 13 (is_low n small)) (ap (λ (t : List ℕ). codes "mvns " ++ ((114 ∷ decimal n) ++ (codes ", " ++ (114 ∷ t)))) (append-nil (decimal n)))

spells_more : (n : ℕ) (small : n < 8) → Spells (one_more (low n small)) (codes "adds " ++ ((114 ∷ decimal n) ++ codes ", #1"))
unfolding low one
spells_more n small = rw (lt-ltb n 13 (is_low n small)) (ap (λ (t : List ℕ). codes "adds " ++ ((114 ∷ decimal n) ++ (codes ", #" ++ t))) single)

spells_copied : (n : ℕ) (small : n < 8) → Spells (copied (low n small)) (codes "mov " ++ ((114 ∷ decimal n) ++ (codes ", " ++ (114 ∷ decimal n))))
unfolding low
spells_copied n small = rw (lt-ltb n 13 (is_low n small)) (ap (λ (t : List ℕ). codes "mov " ++ ((114 ∷ decimal n) ++ (codes ", " ++ (114 ∷ t)))) (append-nil (decimal n)))

spells_nothing : Spells nothing (codes "nop")
spells_nothing = refl

spells_back : Spells back (codes "bx lr")
unfolding link
spells_back = refl

abbrev own_lines : List Instr → List ListingLine
own_lines is = map (new_line own_line) is

abbrev texts : List Instr → List ℕ
texts is = text_of_lines (own_lines is)

texts_append : (xs ys : List Instr) → texts (xs ++ ys) ≡ texts xs ++ texts ys
texts_append [] ys = refl
texts_append (x ∷ xs) ys = ap (λ (t : List ℕ). own_line x ++ t) (texts_append xs ys) ∙ sym (append_assoc (own_line x) (texts xs) (texts ys))

own_text : (i : Instr) (t : List ℕ) → Spells i t → own t ≡ own_line i
unfolding own_line
own_text i t e = ap own (sym e)

one_text : (i : Instr) (t : List ℕ) → Spells i t → own t ≡ texts (i ∷ [])
one_text i t e = own_text i t e ∙ sym (append-nil (own_line i))

two_texts : (i j : Instr) (t u : List ℕ) → Spells i t → Spells j u → own t ++ own u ≡ texts (i ∷ j ∷ [])
two_texts i j t u e f = ap₂ (λ (x y : List ℕ). x ++ y) (own_text i t e) (one_text j u f)

pair_texts : (kind n : ℕ) (small : n < 8) → pair kind (114 ∷ decimal n) ≡ texts (two_instrs kind (low n small))
pair_texts kind n small = elim (cases_Bool (kind == 0)) [
  | inl e ↦ rw e (two_texts (cut_left (low n small)) (cut_right (low n small)) _ _ (spells_left n small) (spells_right n small))
  | inr e ↦ rw e (elim (cases_Bool (kind == 1)) [
    | inl f ↦ rw f (two_texts (inverted (low n small)) (one_more (low n small)) _ _ (spells_inverted n small) (spells_more n small))
    | inr f ↦ rw f (two_texts (copied (low n small)) (copied (low n small)) _ _ (spells_copied n small) (spells_copied n small))
  ])
]

window_texts : (i : ℕ) → window_text i ≡ texts (window_instrs i)
unfolding target
window_texts i =
    ap₂ (λ (x y : List ℕ). x ++ y) (pair_texts (i % 3) (i % 8) (below_eight i)) (one_text nothing (codes "nop") spells_nothing)
    ∙ sym (texts_append (two_instrs (i % 3) (target i)) (nothing ∷ []))

windows_texts : (n : ℕ) → windows_text n ≡ texts (windows_instrs n)
windows_texts zero = refl
windows_texts (suc n) = ap₂ (λ (x y : List ℕ). x ++ y) (windows_texts n) (window_texts n) ∙ sym (texts_append (windows_instrs n) (window_instrs n))

abbrev label_line : ListingLine
label_line = record { names = codes "demo" ∷ []; statement = Nothing; text = codes "demo:" ++ 10 ∷ []; front = codes "demo:" ++ 10 ∷ [] }

pub demo_lines : ℕ → List ListingLine
demo_lines n = label_line ∷ own_lines (demo_instrs n)

demo_texts : (n : ℕ) → demo_text n ≡ text_of_lines (demo_lines n)
unfolding demo_lines demo_instrs
demo_texts n = ap (λ (t : List ℕ). codes "demo:" ++ 10 ∷ t)
    (ap₂ (λ (x y : List ℕ). x ++ y) (windows_texts n) (one_text back (codes "bx lr") spells_back) ∙ sym (texts_append (windows_instrs n) (back ∷ [])))

-- ---- how many, and that none names a label ----

two_long : (kind : ℕ) (d : Within 0 8) → length (two_instrs kind d) ≡ 2
two_long kind d = elim (cases_Bool (kind == 0)) [
  | inl e ↦ rw e refl
  | inr e ↦ rw e (elim (cases_Bool (kind == 1)) [ inl f ↦ rw f refl | inr f ↦ rw f refl ])
]

windows_long : (n : ℕ) → length (windows_instrs n) ≡ 3 * n
windows_long zero = refl
windows_long (suc n) =
    omega (arith, windows_long n, length-append (windows_instrs n) (window_instrs n), length-append (two_instrs (n % 3) (target n)) (nothing ∷ []), two_long (n % 3) (target n))

instrs_long : (n : ℕ) → length (demo_instrs n) ≡ 3 * n + 1
unfolding demo_instrs
instrs_long n = omega (arith, length-append (windows_instrs n) (back ∷ []), windows_long n)

two_free : (kind : ℕ) (d : Within 0 8) → list_all names_no_label (two_instrs kind d) ≡ true
two_free kind d = elim (cases_Bool (kind == 0)) [
  | inl e ↦ rw e refl
  | inr e ↦ rw e (elim (cases_Bool (kind == 1)) [ inl f ↦ rw f refl | inr f ↦ rw f refl ])
]

both_free : (xs ys : List Instr) → list_all names_no_label xs ≡ true → list_all names_no_label ys ≡ true → list_all names_no_label (xs ++ ys) ≡ true
both_free xs ys e f = list_all-append names_no_label xs ys ∙ and_from (list_all names_no_label xs) (list_all names_no_label ys) e f

windows_free : (n : ℕ) → list_all names_no_label (windows_instrs n) ≡ true
windows_free zero = refl
windows_free (suc n) = both_free (windows_instrs n) (window_instrs n) (windows_free n) (both_free (two_instrs (n % 3) (target n)) (nothing ∷ []) (two_free (n % 3) (target n)) refl)

instrs_free : (n : ℕ) → list_all names_no_label (demo_instrs n) ≡ true
unfolding demo_instrs
instrs_free n = both_free (windows_instrs n) (back ∷ []) (windows_free n) refl

-- ---- lines of their own are read ----

abbrev read_own : Instr → Read
read_own i = unnamed (told_of i) (own_line i)

own_read : (i : Instr) → names_no_label i ≡ true → ReadsAs (own_line i) (read_own i)
unfolding ReadsAs
own_read i e n start few =
    let content = content_newline (9 ∷ text_of (shown_of i None)) (own_inside i e) in
    let bytes : content_of (own_line i) ≡ 9 ∷ text_of (shown_of i None) = ap content_of (own_is i) ∙ content.0 in
    let ended : is_ended (own_line i) ≡ true = ap is_ended (own_is i) ∙ content.1 in
    let all : whole (placed n start (own_line i)) ≡ own_line i = whole_ended (placed n start (own_line i)) ended ∙ ap (λ (w : List ℕ). w ++ 10 ∷ []) bytes ∙ sym (own_is i) in
    canonical_line_checked i (placed n start (own_line i)) e (inr bytes) few ∙ ap (λ (w : List ℕ). Ok (unnamed (told_of i) w)) all

own_are : (is : List Instr) → list_all names_no_label is ≡ true → AreRead (own_lines is) (map read_own is) × AreEnded (map text (own_lines is))
unfolding AreRead AreEnded
own_are [] e = (tt, tt)
own_are (i ∷ is) e =
    let a = and_parts (names_no_label i) (list_all names_no_label is) e in
    let more = own_are is a.1 in
    ((record { same = refl; reads = own_read i a.0 }, more.0), (inl (own_ends i a.0), more.1))

-- ---- the label's line ----

label_name : is_name (codes "demo") ≡ true
unfolding register_names
label_name = refl

abbrev read_label : Read
read_label = labels_only (codes "demo" ∷ []) (codes "demo:" ++ 10 ∷ []) (codes "demo:" ++ 10 ∷ [])

label_read : ReadsAs (codes "demo:" ++ 10 ∷ []) read_label
unfolding ReadsAs
label_read n start few = label_line_checked (codes "demo") (placed n start (codes "demo:" ++ 10 ∷ [])) label_name refl (omega arith) few

label_ends : Ends (codes "demo:" ++ 10 ∷ [])
label_ends = inside_ends (codes "demo:") refl

-- ---- the listing ----

own_once : (n : ℕ) (known : List Name) (is : List Instr) → first_twice n known (own_lines is) ≡ None
own_once n known [] = refl
own_once n known (i ∷ is) = own_once (n + 1) (known ++ []) is

own_mute : (is : List Instr) → AreMute (own_lines is)
own_mute [] = tt
own_mute (i ∷ is) = (refl, own_mute is)

pub demo_mute : (n : ℕ) → AreMute (demo_lines n)
unfolding demo_lines
demo_mute n = (refl, own_mute (demo_instrs n))

listed : (is : List Instr) → list_all names_no_label is ≡ true → length is ≤ 65535 → IsListing (text_of_lines (label_line ∷ own_lines is)) (label_line ∷ own_lines is)
unfolding AreRead AreEnded
listed is free few =
    let lines : List ListingLine = label_line ∷ own_lines is in
    let reads : List Read = read_label ∷ map read_own is in
    let are = own_are is free in
    let read : AreRead lines reads = (record { same = refl; reads = label_read }, are.0) in
    let ended : AreEnded (map text lines) = (inl label_ends, are.1) in
    let size : 1 + length lines ≤ most_lines + 1 = let k = length-map is (new_line own_line) in omega arith in
    record {
      reads = reads;
      are = record { read = ap (λ (ts : List (List ℕ)). read_lines (placed_from 1 0 ts)) (joined_split lines ended) ∙ all_read lines reads 1 0 read size; same = all_same lines reads read };
      once = none_once lines (own_once 2 (codes "demo" ∷ []) is);
      aimed = all_aimed lines (functions false reads) 1 lines (refl, own_mute is);
    }

pub demo_listed : (n : ℕ) → n ≤ 20000 → IsListing (demo_text n) (demo_lines n)
unfolding demo_lines
demo_listed n few =
    let long = instrs_long n in
    subst (λ (bytes : List ℕ). IsListing bytes (demo_lines n)) (sym (demo_texts n)) (listed (demo_instrs n) (instrs_free n) (omega arith))
