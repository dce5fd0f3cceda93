-- The order in which the tree of prefixes is walked is the order of the sequences' numbers.
use Rattle.std.proofs.Common.{◌≡◌, ℕ, zero, suc, ◌+◌, ◌-◌, ◌<◌, ◌≤◌, List, [], ◌∷◌, ◌++◌, length, drop, take, slice_index_or, append-nil, append_assoc, map, refl, sym, ap, ◌∙◌, arith, subst}
use Rattle.std.specs.List.{flat_map}
use Rattle.std.proofs.lemmas.List.{map-append, drop_all, take-append-drop, take_rest}
use Rattle.std.proofs.lemmas.List.Concat.{flat_map-append}
use Rattle.std.proofs.lemmas.List.Sums.{fold-append}
use Rattle.std.proofs.lemmas.Simd.{map-map}
use Rattle.std.proofs.Math.Seq.{drop-cons}
use Rattle.thumb_instr.specs.declared.instr.Instr.{Instr}
use Rattle.thumb_model.specs.Effect.{Values, after, after_all, AreOver}
use Rattle.window_exec.specs.declared.state.WState.{WState}
use Rattle.window_exec.specs.State.{values_of}
use Rattle.seq_enum.specs.Alphabet.{numbers_from, words}
use Rattle.fingerprints.specs.declared.columns.Column.{Column}
use Rattle.fingerprints.specs.Print.{with_words, print_from, print_after}
use Rattle.fingerprints.specs.declared.lanes.Lanes.{Lanes}
use Rattle.fingerprints.specs.Lanes.{values_at}
use Rattle.fingerprints.specs.Columns.{lanes_from, states_of, states_in}
use Rattle.fingerprints.specs.Sequences.{sequences_within, prints_of, prints_within}
use Rattle.fingerprints.proofs.ColumnLemmas.{rest_is, unchanged, column_after}

-- ---- words with an instruction prepended are words with an instruction appended

-- each word with each instruction prepended
abbrev pub fronted : {A : Type 0} → List (List A) → List A → List (List A)
fronted ws alphabet = flat_map (λ x. map (λ w. x ∷ w) ws) alphabet

-- a word with each instruction appended
abbrev backed : {A : Type 0} → List A → List A → List (List A)
backed alphabet w = map (λ x. w ++ x ∷ []) alphabet

flat_map-flat_map : {A B C : Type 0} (f : B → List C) (g : A → List B) (xs : List A) → flat_map f (flat_map g xs) ≡ flat_map (λ x. flat_map f (g x)) xs
flat_map-flat_map f g [] = refl
flat_map-flat_map f g (x ∷ xs) = flat_map-append f (g x) (flat_map g xs) ∙ ap (λ ys. flat_map f (g x) ++ ys) (flat_map-flat_map f g xs)

-- prepending and appending commute
front_stays : {A : Type 0} (alphabet : List A) (x : A) (ws : List (List A)) → flat_map (backed alphabet) (map (λ w. x ∷ w) ws) ≡ map (λ w. x ∷ w) (flat_map (backed alphabet) ws)
front_stays alphabet x [] = refl
front_stays alphabet x (w ∷ ws) =
    ap (λ ys. ys ++ flat_map (backed alphabet) (map (λ u. x ∷ u) ws)) (sym (map-map (λ u. x ∷ u) (λ y. w ++ y ∷ []) alphabet))
    ∙ ap (λ ys. map (λ u. x ∷ u) (backed alphabet w) ++ ys) (front_stays alphabet x ws)
    ∙ sym (map-append (λ u. x ∷ u) (backed alphabet w) (flat_map (backed alphabet) ws))

fronts_stay : {A : Type 0} (alphabet : List A) (ws : List (List A)) (xs : List A) → flat_map (λ x. flat_map (backed alphabet) (map (λ w. x ∷ w) ws)) xs ≡ fronted (flat_map (backed alphabet) ws) xs
fronts_stay alphabet ws [] = refl
fronts_stay alphabet ws (x ∷ xs) = ap (λ ys. ys ++ flat_map (λ y. flat_map (backed alphabet) (map (λ w. y ∷ w) ws)) xs) (front_stays alphabet x ws) ∙ ap (λ ys. map (λ w. x ∷ w) (flat_map (backed alphabet) ws) ++ ys) (fronts_stay alphabet ws xs)

singles : {A : Type 0} (xs : List A) → map (λ x. x ∷ []) xs ++ [] ≡ fronted ([] ∷ []) xs
singles [] = refl
singles (x ∷ xs) = ap (λ ys. (x ∷ []) ∷ ys) (singles xs)

-- the words of the next length are the words with each instruction prepended
pub words_fronted : {A : Type 0} (alphabet : List A) (n : ℕ) → words alphabet (suc n) ≡ fronted (words alphabet n) alphabet
unfolding words
words_fronted alphabet zero = singles alphabet
words_fronted alphabet (suc n) =
    ap (flat_map (backed alphabet)) (words_fronted alphabet n)
    ∙ flat_map-flat_map (backed alphabet) (λ x. map (λ w. x ∷ w) (words alphabet n)) alphabet
    ∙ fronts_stay alphabet (words alphabet n) alphabet

-- ---- prints of words by their first instructions

-- the prints of the sequences that begin with one of some instructions and go on with n instructions
unfoldable pub prints_behind : ℕ → List Values → List Instr → ℕ → List Instr → List ℕ
prints_behind mask states alphabet n [] = []
prints_behind mask states alphabet n (x ∷ xs) = prints_of mask (map (after x) states) alphabet n ++ prints_behind mask states alphabet n xs

-- an instruction prepended is one step of the states first
one_instr : (mask : ℕ) (states : List Values) (x : Instr) (ws : List (List Instr))
    → map (print_after mask states) (map (λ w. x ∷ w) ws) ≡ map (print_after mask (map (after x) states)) ws
one_instr mask states x [] = refl
one_instr mask states x (w ∷ ws) =
    ap (λ vs. print_from mask 0 vs ∷ map (print_after mask states) (map (λ u. x ∷ u) ws)) (sym (map-map (after_all w) (after x) states))
    ∙ ap (λ ns. print_after mask (map (after x) states) w ∷ ns) (one_instr mask states x ws)

among : (mask : ℕ) (states : List Values) (alphabet : List Instr) (n : ℕ) (xs : List Instr)
    → map (print_after mask states) (fronted (words alphabet n) xs) ≡ prints_behind mask states alphabet n xs
unfolding prints_behind
among mask states alphabet n [] = refl
among mask states alphabet n (x ∷ xs) =
    map-append (print_after mask states) (map (λ w. x ∷ w) (words alphabet n)) (fronted (words alphabet n) xs)
    ∙ ap (λ ns. ns ++ map (print_after mask states) (fronted (words alphabet n) xs)) (one_instr mask states x (words alphabet n))
    ∙ ap (λ ns. prints_of mask (map (after x) states) alphabet n ++ ns) (among mask states alphabet n xs)

pub prints_are : (mask : ℕ) (states : List Values) (alphabet : List Instr) (n length : ℕ) → length ≡ suc n → prints_of mask states alphabet length ≡ prints_behind mask states alphabet n alphabet
prints_are mask states alphabet n length e = ap (prints_of mask states alphabet) e ∙ ap (map (print_after mask states)) (words_fronted alphabet n) ∙ among mask states alphabet n alphabet

pub prints_none : (mask : ℕ) (states : List Values) (alphabet : List Instr) (length : ℕ) → length ≡ 0 → prints_of mask states alphabet length ≡ print_from mask 0 states ∷ []
unfolding words
prints_none mask states alphabet length e = ap (prints_of mask states alphabet) e ∙ ap (λ vs. print_from mask 0 vs ∷ []) (unchanged states)

-- ---- loops over the instructions, and one over the lengths
pub instr_done : (mask : ℕ) (states after_x : List Values) (alphabet : List Instr) (n i : ℕ) (x : Instr) (old new : List ℕ) → i < length alphabet → x ≡ slice_index_or alphabet i x
    → after_x ≡ map (after x) states → new ≡ old ++ prints_of mask after_x alphabet n
    → new ++ prints_behind mask states alphabet n (drop (i + 1) alphabet) ≡ old ++ prints_behind mask states alphabet n (drop i alphabet)
unfolding prints_behind
instr_done mask states after_x alphabet n i x old new h item step e =
    let rest : List ℕ = prints_behind mask states alphabet n (drop (i + 1) alphabet) in
    ap (λ ps. ps ++ rest) (e ∙ ap (λ vs. old ++ prints_of mask vs alphabet n) step)
    ∙ append_assoc old (prints_of mask (map (after x) states) alphabet n) rest
    ∙ ap (λ ls. old ++ prints_behind mask states alphabet n ls) (sym (rest_is alphabet i x h item))

pub instrs_done : (mask : ℕ) (states : List Values) (alphabet : List Instr) (n i : ℕ) (old : List ℕ) → length alphabet ≤ i → old ++ prints_behind mask states alphabet n (drop i alphabet) ≡ old
unfolding prints_behind
instrs_done mask states alphabet n i old h = ap (λ ls. old ++ prints_behind mask states alphabet n ls) (drop_all i alphabet h) ∙ append-nil old

-- the prints of the sequences of n to n + count - 1 instructions
abbrev pub prints_between : ℕ → List Values → List Instr → ℕ → ℕ → List ℕ
prints_between mask states alphabet n count = map (print_after mask states) (flat_map (words alphabet) (numbers_from n count))

pub between_is : (mask : ℕ) (states : List Values) (alphabet : List Instr) (longest : ℕ) → prints_between mask states alphabet 0 (longest + 1) ≡ prints_within mask states alphabet longest
unfolding sequences_within
between_is mask states alphabet longest = refl

pub length_done : (mask : ℕ) (states : List Values) (alphabet : List Instr) (k end : ℕ) (old new : List ℕ) → k < end → new ≡ old ++ prints_of mask states alphabet k
    → new ++ prints_between mask states alphabet (k + 1) (end - (k + 1)) ≡ old ++ prints_between mask states alphabet k (end - k)
unfolding numbers_from
length_done mask states alphabet k end old new h e =
    let next : end - k ≡ suc (end - (k + 1)) = omega arith in
    let one : suc k ≡ k + 1 = omega arith in
    ap (λ ps. ps ++ prints_between mask states alphabet (k + 1) (end - (k + 1))) e
    ∙ append_assoc old (prints_of mask states alphabet k) (prints_between mask states alphabet (k + 1) (end - (k + 1)))
    ∙ ap (λ ps. old ++ ps) (sym (map-append (print_after mask states) (words alphabet k) (flat_map (words alphabet) (numbers_from (k + 1) (end - (k + 1))))))
    ∙ rw (next, one) refl

pub lengths_done : (mask : ℕ) (states : List Values) (alphabet : List Instr) (k end : ℕ) (old : List ℕ) → k ≡ end → old ++ prints_between mask states alphabet k (end - k) ≡ old
unfolding numbers_from
lengths_done mask states alphabet k end old e =
    let none : end - k ≡ 0 = omega arith in
    rw none (append-nil old)

-- ---- loops over columns
pub column_is : (columns : List Column) (i : ℕ) (column : Column) → i < length columns → column ≡ slice_index_or columns i column → drop i columns ≡ column ∷ drop (i + 1) columns
column_is columns i column h item =
    let one : suc i ≡ i + 1 = omega arith in
    drop-cons columns i column h ∙ ap (λ m. slice_index_or columns i column ∷ drop m columns) one ∙ ap (λ y. y ∷ drop (i + 1) columns) (sym item)

states_behind : (cs : List Column) (c : Column) → states_in (cs ++ c ∷ []) ≡ states_in cs ++ states_of c
unfolding states_in
states_behind [] c = append-nil (states_of c)
states_behind (d ∷ ds) c = ap (λ vs. states_of d ++ vs) (states_behind ds c) ∙ sym (append_assoc (states_of d) (states_in ds) (states_of c))

pub column_stepped : (f : Values → Values) (columns later new : List Column) (i : ℕ) (column next : Column) → i < length columns → column ≡ slice_index_or columns i column
    → states_of next ≡ map f (states_of column) → new ≡ later ++ next ∷ []
    → states_in new ++ map f (states_in (drop (i + 1) columns)) ≡ states_in later ++ map f (states_in (drop i columns))
unfolding states_in
column_stepped f columns later new i column next h item e p =
    let rest = map f (states_in (drop (i + 1) columns)) in
    ap (λ cs. states_in cs ++ rest) p
    ∙ ap (λ vs. vs ++ rest) (states_behind later next ∙ ap (λ vs. states_in later ++ vs) e)
    ∙ append_assoc (states_in later) (map f (states_of column)) rest
    ∙ ap (λ vs. states_in later ++ vs) (sym (map-append f (states_of column) (states_in (drop (i + 1) columns))))
    ∙ ap (λ cs. states_in later ++ map f (states_in cs)) (sym (column_is columns i column h item))

pub columns_done : (f : Values → Values) (columns later : List Column) (i : ℕ) → length columns ≤ i → states_in later ++ map f (states_in (drop i columns)) ≡ states_in later
unfolding states_in
columns_done f columns later i h = ap (λ cs. states_in later ++ map f (states_in cs)) (drop_all i columns h) ∙ append-nil (states_in later)

pub column_printed : (f : Values → Values) (m h : ℕ) (columns : List Column) (i : ℕ) (column next : Column) (r : ℕ) → i < length columns → column ≡ slice_index_or columns i column
    → states_of next ≡ map f (states_of column) → r ≡ print_from m h (states_of next)
    → print_from m r (map f (states_in (drop (i + 1) columns))) ≡ print_from m h (map f (states_in (drop i columns)))
unfolding states_in
column_printed f m h columns i column next r below item e p =
    let rest = map f (states_in (drop (i + 1) columns)) in
    ap (λ q. print_from m q rest) (p ∙ ap (print_from m h) e)
    ∙ sym (fold-append (with_words m) h (map f (states_of column)) rest)
    ∙ ap (print_from m h) (sym (map-append f (states_of column) (states_in (drop (i + 1) columns))))
    ∙ ap (λ cs. print_from m h (map f (states_in cs))) (sym (column_is columns i column below item))

pub columns_printed : (f : Values → Values) (m h : ℕ) (columns : List Column) (i : ℕ) → length columns ≤ i → print_from m h (map f (states_in (drop i columns))) ≡ h
unfolding states_in
columns_printed f m h columns i b = ap (λ cs. print_from m h (map f (states_in cs))) (drop_all i columns b)

pub none_stepped : (vs : List Values) (later : List Column) → later ≡ [] → states_in later ++ vs ≡ vs
unfolding states_in
none_stepped vs later e = ap (λ cs. states_in cs ++ vs) e

pub first_length : (mask : ℕ) (states : List Values) (alphabet : List Instr) (longest : ℕ) (old : List ℕ) → old ≡ [] → old ++ prints_between mask states alphabet 0 (longest + 1 - 0) ≡ prints_within mask states alphabet longest
first_length mask states alphabet longest old e =
    let whole : longest + 1 - 0 ≡ longest + 1 = omega arith in
    ap (λ ps. ps ++ prints_between mask states alphabet 0 (longest + 1 - 0)) e ∙ ap (prints_between mask states alphabet 0) whole ∙ between_is mask states alphabet longest

-- one more column, of the next eight states
pub column_arranged : (columns new : List Column) (column : Column) (rest eight more : List WState) (n : ℕ) → eight ≡ take n rest → more ≡ drop n rest
    → states_of column ≡ map values_of eight → new ≡ columns ++ column ∷ [] → states_in new ++ map values_of more ≡ states_in columns ++ map values_of rest
column_arranged columns new column rest eight more n e f held p =
    ap (λ cs. states_in cs ++ map values_of more) p
    ∙ ap (λ vs. vs ++ map values_of more) (states_behind columns column ∙ ap (λ vs. states_in columns ++ vs) held)
    ∙ append_assoc (states_in columns) (map values_of eight) (map values_of more)
    ∙ ap (λ vs. states_in columns ++ vs) (sym (map-append values_of eight more) ∙ ap (map values_of) (ap (λ ss. ss ++ more) e ∙ ap (λ ss. take n rest ++ ss) f ∙ take-append-drop n rest))

-- one more column, whose lanes became what f makes of them
pub lanes_printed : (f : Values → Values) (m h : ℕ) (columns : List Column) (i : ℕ) (column : Column) (l : Lanes) (r whole : ℕ) → i < length columns → column ≡ slice_index_or columns i column
    → ((j : ℕ) → j < 8 → values_at l j ≡ f (values_at column.lanes j)) → r ≡ print_from m h (lanes_from l 0 column.count)
    → print_from m h (map f (states_in (drop i columns))) ≡ whole → print_from m r (map f (states_in (drop (i + 1) columns))) ≡ whole
lanes_printed f m h columns i column l r whole below item each e so =
    column_printed f m h columns i column (record { lanes = l; count = column.count; most = column.most }) r below item (column_after f column.lanes l column.count each column.most) e ∙ so

-- the prints of four instructions, and then those of the rest
pub four_printed : (mask : ℕ) (states : List Values) (alphabet rest tail : List Instr) (x y z w : Instr) (old now whole : List ℕ) (p q r s : ℕ) → rest ≡ x ∷ y ∷ z ∷ w ∷ tail
    → p ≡ print_from mask 0 (map (after x) states) → q ≡ print_from mask 0 (map (after y) states) → r ≡ print_from mask 0 (map (after z) states) → s ≡ print_from mask 0 (map (after w) states)
    → now ≡ (((old ++ p ∷ []) ++ q ∷ []) ++ r ∷ []) ++ s ∷ []
    → old ++ prints_behind mask states alphabet 0 rest ≡ whole → now ++ prints_behind mask states alphabet 0 tail ≡ whole
unfolding prints_behind
four_printed mask states alphabet rest tail x y z w old now whole p q r s e a b c d f so =
    ap (λ ns. ns ++ prints_behind mask states alphabet 0 tail) (f ∙ simp append_assoc)
    ∙ append_assoc old (p ∷ q ∷ r ∷ s ∷ []) (prints_behind mask states alphabet 0 tail)
    ∙ rw (a, b, c, d) (ap (λ ns. old ++ ns) (sym (each x (y ∷ z ∷ w ∷ tail) ∙ ap (λ ns. print_from mask 0 (map (after x) states) ∷ ns)
    (each y (z ∷ w ∷ tail) ∙ ap (λ ns. print_from mask 0 (map (after y) states) ∷ ns) (each z (w ∷ tail) ∙ ap (λ ns. print_from mask 0 (map (after z) states) ∷ ns) (each w tail))))))
    ∙ ap (λ is. old ++ prints_behind mask states alphabet 0 is) (sym e) ∙ so
  where
    each : (i : Instr) (is : List Instr) → prints_behind mask states alphabet 0 (i ∷ is) ≡ print_from mask 0 (map (after i) states) ∷ prints_behind mask states alphabet 0 is
    each i is = ap (λ ns. ns ++ prints_behind mask states alphabet 0 is) (prints_none mask (map (after i) states) alphabet 0 refl)

-- a list of four at least, by its first four
pub four_are : (rest : List Instr) (x y z w : Instr) → 4 ≤ length rest → x ≡ slice_index_or rest 0 x → y ≡ slice_index_or rest 1 y → z ≡ slice_index_or rest 2 z → w ≡ slice_index_or rest 3 w
    → rest ≡ x ∷ y ∷ z ∷ w ∷ take (length rest - 4) (drop 4 rest)
four_are (a ∷ b ∷ c ∷ d ∷ ds) x y z w h ea eb ec ed =
    rw (ea, eb, ec, ed) (ap (λ is. a ∷ b ∷ c ∷ d ∷ is) (sym (take_rest (a ∷ b ∷ c ∷ d ∷ ds) 4)))
four_are rest x y z w h ea eb ec ed = absurd (omega arith)

pub over_tail : (rest : List Instr) (x y z w : Instr) (tail : List Instr) → rest ≡ x ∷ y ∷ z ∷ w ∷ tail → AreOver 4 rest → AreOver 4 tail
over_tail rest x y z w tail e over = let o : AreOver 4 (x ∷ y ∷ z ∷ w ∷ tail) = subst (AreOver 4) e over in o.2.2.2.2

-- one more of the remaining instructions
pub left_printed : (mask : ℕ) (states : List Values) (alphabet rest : List Instr) (i : ℕ) (x : Instr) (old new whole : List ℕ) (print : ℕ) → i < length rest → x ≡ slice_index_or rest i x
    → print ≡ print_from mask 0 (map (after x) states) → new ≡ old ++ print ∷ []
    → old ++ prints_behind mask states alphabet 0 (drop i rest) ≡ whole → new ++ prints_behind mask states alphabet 0 (drop (i + 1) rest) ≡ whole
unfolding prints_behind
left_printed mask states alphabet rest i x old new whole print h item p e so =
    let tail = prints_behind mask states alphabet 0 (drop (i + 1) rest) in
    ap (λ ns. ns ++ tail) (e ∙ ap (λ n. old ++ n ∷ []) p ∙ ap (λ ns. old ++ ns) (sym (prints_none mask (map (after x) states) alphabet 0 refl)))
    ∙ append_assoc old (prints_of mask (map (after x) states) alphabet 0) tail
    ∙ ap (λ is. old ++ prints_behind mask states alphabet 0 is) (sym (rest_is rest i x h item)) ∙ so

pub none_left : (mask : ℕ) (states : List Values) (alphabet rest : List Instr) (i : ℕ) (old whole : List ℕ) → length rest ≤ i → old ++ prints_behind mask states alphabet 0 (drop i rest) ≡ whole → old ≡ whole
unfolding prints_behind
none_left mask states alphabet rest i old whole h so = sym (append-nil old) ∙ ap (λ is. old ++ prints_behind mask states alphabet 0 is) (sym (drop_all i rest h)) ∙ so
