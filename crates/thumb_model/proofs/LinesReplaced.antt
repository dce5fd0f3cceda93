-- `replaced_lines` on lines and `replaced` on places and labels agree: so a replacement in the text is one in the model.
use Rattle.std.proofs.Common.{◌≡◌, ℕ, zero, suc, ◌+◌, ◌-◌, ◌<◌, ◌≤◌, ◌==◌, ◌&&◌, List, [], ◌∷◌, ◌++◌, length, length-append, take, drop, map, refl, sym, ap, ◌∙◌, subst, ◌⊎◌, inl, inr, arith, append_assoc, ne_eqb, if◌then◌else◌}
use Rattle.std.specs.Prelude.{Some, slice_get}
use Rattle.std.proofs.lemmas.List.{map-append}
use Rattle.thumb_instr.specs.declared.instr.Instr.{Instr}
use Rattle.thumb_model.specs.Listing.{Name, Value, Statement, Instruction, Words, ListingLine, Place, Op, Word, plain, Label, Code, places_in, places_of, labels_at, labels_from, code_of}
use Rattle.thumb_model.proofs.Lists.{length_map, take_back, drop_back}
use Rattle.thumb_model.specs.Replaced.{moved, move_label, replaced, is_op, without, labels_kept, new_line, replaced_lines}
use Rattle.thumb_model.specs.Cuts.{AreOps}

abbrev append : List Place → List Place → List Place
append xs ys = xs ++ ys

-- ---- places ----

places_step : (n : ℕ) (l : ListingLine) (s : Statement) (ls : List ListingLine) → l.statement ≡ s → (AreOps n (places_of ls) → places_of (without n ls) ≡ drop n (places_of ls)) → (AreOps (suc n) (places_of ls) → places_of (without (suc n) ls) ≡ drop (suc n) (places_of ls)) → AreOps (suc n) (places_in s ++ places_of ls) → places_of (if is_op s then without n ls else l ∷ without (suc n) ls) ≡ drop (suc n) (places_in s ++ places_of ls)
places_step n l (Instruction i mention) ls e f g h = f h
places_step n l (Words (w ∷ ws)) ls e f g h = absurd h
places_step n l s ls e f g h = ap (λ x. places_in x ++ places_of (without (suc n) ls)) e ∙ g h

places_without : (n : ℕ) (ls : List ListingLine) → AreOps n (places_of ls) → places_of (without n ls) ≡ drop n (places_of ls)
places_without zero [] h = refl
places_without (suc n) [] h = absurd h
places_without zero (l ∷ ls) h = refl
places_without (suc n) (l ∷ ls) h = places_step n l l.statement ls refl (places_without n ls) (places_without (suc n) ls) h

new_places : (write : Instr → List ℕ) (is : List Instr) (ls : List ListingLine) → places_of (map (new_line write) is ++ ls) ≡ map plain is ++ places_of ls
new_places write [] ls = refl
new_places write (i ∷ is) ls = ap (λ l. plain i ∷ l) (new_places write is ls)

pub kept_places : (l : ListingLine) (ns : List Name) (ls : List ListingLine) → places_of (labels_kept l ns ++ ls) ≡ places_of ls
kept_places l [] ls = refl
kept_places l (n ∷ ns) ls = refl

-- instructions from p on begin only past a line's data words
pub past_words : (ws : List Value) (ps : List Place) (p n : ℕ) → AreOps (suc n) (drop p (map Word ws ++ ps)) → length ws ≤ p
past_words [] ps p n h = omega arith
past_words (w ∷ ws) ps zero n h = absurd h
past_words (w ∷ ws) ps (suc p) n h = let r = past_words ws ps p n h in omega arith

-- the places with those from p to below k replaced
abbrev Result : ℕ → ℕ → List Instr → List Place → List Place
Result p k is ps = take p ps ++ (map plain is ++ drop k ps)

result_behind : (xs ys : List Place) (p m k j : ℕ) (is : List Instr) → p ≡ length xs + m → k ≡ length xs + j → xs ++ Result m j is ys ≡ Result p k is (xs ++ ys)
result_behind xs ys p m k j is e f =
    sym (append_assoc xs (take m ys) (map plain is ++ drop j ys))
    ∙ ap (λ l. l ++ (map plain is ++ drop j ys)) (sym (take_back xs ys p m e))
    ∙ ap (λ l. take p (xs ++ ys) ++ (map plain is ++ l)) (sym (drop_back xs ys k j f))

Rec : (Instr → List ℕ) → ℕ → List Instr → List ListingLine → Type 0
Rec write n is ls = (q j : ℕ) → j ≡ q + suc n → AreOps (suc n) (drop q (places_of ls)) → places_of (replaced_lines write q (suc n) is ls) ≡ Result q j is (places_of ls)

-- a line before the window, which stays
behind : (write : Instr → List ℕ) (n k p m : ℕ) (is : List Instr) (l : ListingLine) (s : Statement) (ls : List ListingLine) → l.statement ≡ s → Rec write n is ls → k ≡ p + suc n → p ≡ length (places_in s) + m → AreOps (suc n) (drop p (places_in s ++ places_of ls)) → places_of (l ∷ replaced_lines write (p - length (places_in s)) (suc n) is ls) ≡ Result p k is (places_in s ++ places_of ls)
unfolding Rec
behind write n k p m is l s ls f rec e g h =
    let r : places_of (replaced_lines write m (suc n) is ls) ≡ Result m (m + suc n) is (places_of ls) = rec m (m + suc n) refl (subst (AreOps (suc n)) (drop_back (places_in s) (places_of ls) p m g) h) in
    ap (λ q. places_of (l ∷ replaced_lines write q (suc n) is ls)) (let z : p - length (places_in s) ≡ m = omega arith in z)
    ∙ ap (λ x. places_in x ++ places_of (replaced_lines write m (suc n) is ls)) f
    ∙ ap (λ x. places_in s ++ x) r
    ∙ result_behind (places_in s) (places_of ls) p m k (m + suc n) is g (omega arith)

replace_step : (write : Instr → List ℕ) (n k p : ℕ) (is : List Instr) (l : ListingLine) (s : Statement) (ls : List ListingLine) → l.statement ≡ s → Rec write n is ls → k ≡ p + suc n → AreOps (suc n) (drop p (places_in s ++ places_of ls)) → places_of (if is_op s && (p == 0) then labels_kept l l.names ++ (map (new_line write) is ++ without (suc n - 1) ls) else l ∷ replaced_lines write (p - length (places_in s)) (suc n) is ls) ≡ Result p k is (places_in s ++ places_of ls)
replace_step write n k p is l (Words ws) ls f rec e h =
    let w = past_words ws (places_of ls) p n h in
    let x = length_map Word ws in
    behind write n k p (p - length ws) is l (Words ws) ls f rec e (omega arith) h
replace_step write n k zero is l (Instruction i mention) ls f rec e h =
    let k' : k ≡ suc n = omega arith in
    kept_places l l.names (map (new_line write) is ++ without (suc n - 1) ls)
    ∙ new_places write is (without (suc n - 1) ls)
    ∙ ap (λ m. map plain is ++ places_of (without m ls)) (let z : suc n - 1 ≡ n = omega arith in z)
    ∙ ap (λ x. map plain is ++ x) (places_without n ls h)
    ∙ ap (λ j. map plain is ++ drop j (Op i mention ∷ places_of ls)) (sym k')
replace_step write n k (suc p) is l (Instruction i mention) ls f rec e h =
    ap (λ b. places_of (if b then labels_kept l l.names ++ (map (new_line write) is ++ without (suc n - 1) ls) else l ∷ replaced_lines write (suc p - 1) (suc n) is ls)) (ne_eqb (suc p) 0 (λ z. absurd (omega arith)))
    ∙ behind write n k (suc p) p is l (Instruction i mention) ls f rec e (omega arith) h
replace_step write n k p is l s ls f rec e h = behind write n k p p is l s ls f rec e (omega arith) h

-- places, where lines are replaced
pub places_replaced : (write : Instr → List ℕ) (n : ℕ) (is : List Instr) (ls : List ListingLine) (p k : ℕ) → k ≡ p + suc n → AreOps (suc n) (drop p (places_of ls)) → places_of (replaced_lines write p (suc n) is ls) ≡ Result p k is (places_of ls)
unfolding Rec
places_replaced write n is [] zero k e h = absurd h
places_replaced write n is [] (suc p) k e h = absurd h
places_replaced write n is (l ∷ ls) p k e h = replace_step write n k p is l l.statement ls refl (λ q j e h. places_replaced write n is ls q j e h) e h

-- ---- labels ----

-- no label stands within the window
abbrev pub AllOutside : ℕ → ℕ → List Label → Type 0
AllOutside p count [] = Unit {0}
AllOutside p count (l ∷ ls) = ((l.place ≤ p) ⊎ (p + count ≤ l.place)) × AllOutside p count ls

pub all_back : (p count : ℕ) (xs ys : List Label) → AllOutside p count (xs ++ ys) → AllOutside p count ys
all_back p count [] ys h = h
all_back p count (x ∷ xs) ys h = all_back p count xs ys h.1

at_moved : (p gone q r : ℕ) (ns : List Name) → q ≡ moved p gone r → labels_at q ns ≡ map (move_label p gone) (labels_at r ns)
at_moved p gone q r [] e = refl
at_moved p gone q r (n ∷ ns) e = cons_label n q _ _ _ e (at_moved p gone q r ns e)
  where
    cons_label : (n : Name) (a b : ℕ) (l m : List Label) → a ≡ b → l ≡ m → (let z : List Label = record { name = n; place = a } ∷ l in z) ≡ record { name = n; place = b } ∷ m
    cons_label n a b l m e f = cc

-- the labels of lines after the window
behind_moved : (p gone q r : ℕ) (ls : List ListingLine) → p ≤ q → r ≡ q + gone → labels_from q ls ≡ map (move_label p gone) (labels_from r ls)
behind_moved p gone q r [] h e = refl
behind_moved p gone q r (l ∷ ls) h e =
    let len : ℕ = length (places_in l.statement) in
    ap (λ x. x ++ labels_from (q + len) ls) (at_moved p gone q r l.names (omega arith))
    ∙ ap (λ x. map (move_label p gone) (labels_at r l.names) ++ x) (behind_moved p gone (q + len) (r + len) ls (omega arith) (omega arith))
    ∙ sym (map-append (move_label p gone) (labels_at r l.names) (labels_from (r + len) ls))

pub no_names : (p count r : ℕ) (ns : List Name) (rest : List Label) → p < r → r < p + count → AllOutside p count (labels_at r ns ++ rest) → ns ≡ []
no_names p count r [] rest h k a = refl
no_names p count r (n ∷ ns) rest h k a = absurd (elim (a.0) [ inl x ↦ omega arith | inr x ↦ omega arith ])

WithoutRec : ℕ → ℕ → ℕ → ℕ → List ListingLine → Type 0
WithoutRec p count gone n ls = (q r : ℕ) → p < r → r + n ≡ p + count → q + gone ≡ p + count → p ≤ q → AllOutside p count (labels_from r ls) → AreOps n (places_of ls) → labels_from q (without n ls) ≡ map (move_label p gone) (labels_from r ls)

without_step : (p count gone n : ℕ) (l : ListingLine) (s : Statement) (ls : List ListingLine) → l.statement ≡ s → WithoutRec p count gone n ls → WithoutRec p count gone (suc n) ls → (q r : ℕ) → p < r → r + suc n ≡ p + count → q + gone ≡ p + count → p ≤ q → AllOutside p count (labels_at r l.names ++ labels_from (r + length (places_in s)) ls) → AreOps (suc n) (places_in s ++ places_of ls) → labels_from q (if is_op s then without n ls else l ∷ without (suc n) ls) ≡ map (move_label p gone) (labels_at r l.names ++ labels_from (r + length (places_in s)) ls)
unfolding WithoutRec
without_step p count gone n l (Instruction i mention) ls e f g q r a b c d out ops =
    let none = no_names p count r l.names (labels_from (r + 1) ls) a (omega arith) out in
    f q (r + 1) (omega arith) (omega arith) c d (all_back p count (labels_at r l.names) (labels_from (r + 1) ls) out) ops
    ∙ ap (λ ns. map (move_label p gone) (labels_at r ns ++ labels_from (r + 1) ls)) (sym none)
without_step p count gone n l (Words (w ∷ ws)) ls e f g q r a b c d out ops = absurd ops
without_step p count gone n l s ls e f g q r a b c d out ops =
    let none = no_names p count r l.names (labels_from (r + 0) ls) a (omega arith) out in
    let here : labels_from q (l ∷ without (suc n) ls) ≡ labels_at q l.names ++ labels_from (q + 0) (without (suc n) ls) = ap (λ x. labels_at q l.names ++ labels_from (q + length (places_in x)) (without (suc n) ls)) e in
    here
    ∙ ap (λ ns. labels_at q ns ++ labels_from (q + 0) (without (suc n) ls)) none
    ∙ g (q + 0) (r + 0) (omega arith) (omega arith) (omega arith) (omega arith) (all_back p count (labels_at r l.names) (labels_from (r + 0) ls) out) ops
    ∙ ap (λ ns. map (move_label p gone) (labels_at r ns ++ labels_from (r + 0) ls)) (sym none)

labels_without : (p count gone n : ℕ) (ls : List ListingLine) (q r : ℕ) → p < r → r + n ≡ p + count → q + gone ≡ p + count → p ≤ q → AllOutside p count (labels_from r ls) → AreOps n (places_of ls) → labels_from q (without n ls) ≡ map (move_label p gone) (labels_from r ls)
unfolding WithoutRec
labels_without p count gone zero [] q r a b c d out ops = refl
labels_without p count gone (suc n) [] q r a b c d out ops = absurd ops
labels_without p count gone zero (l ∷ ls) q r a b c d out ops = behind_moved p gone q r (l ∷ ls) d (omega arith)
labels_without p count gone (suc n) (l ∷ ls) q r a b c d out ops =
    without_step p count gone n l l.statement ls refl (λ q r a b c d out ops. labels_without p count gone n ls q r a b c d out ops) (λ q r a b c d out ops. labels_without p count gone (suc n) ls q r a b c d out ops) q r a b c d out ops

pub kept_labels : (l : ListingLine) (ns : List Name) (q : ℕ) (ls : List ListingLine) → labels_from q (labels_kept l ns ++ ls) ≡ labels_at q ns ++ labels_from q ls
kept_labels l [] q ls = refl
kept_labels l (n ∷ ns) q ls = ap (λ r. labels_at q (n ∷ ns) ++ labels_from r ls) (let e : q + 0 ≡ q = omega arith in e)

pub new_labels : (write : Instr → List ℕ) (is : List Instr) (q r : ℕ) (ls : List ListingLine) → r ≡ q + length is → labels_from q (map (new_line write) is ++ ls) ≡ labels_from r ls
new_labels write [] q r ls e = ap (λ x. labels_from x ls) (let f : q ≡ r = omega arith in f)
new_labels write (i ∷ is) q r ls e = new_labels write is (q + 1) r ls (omega arith)

LabelsRec : (Instr → List ℕ) → ℕ → ℕ → List Instr → List ListingLine → Type 0
LabelsRec write at n is ls = (q p : ℕ) → at ≡ q + p → AllOutside at (suc n) (labels_from q ls) → AreOps (suc n) (drop p (places_of ls)) → labels_from q (replaced_lines write p (suc n) is ls) ≡ map (move_label at (suc n - length is)) (labels_from q ls)

labels_behind : (write : Instr → List ℕ) (at n q p m : ℕ) (is : List Instr) (l : ListingLine) (s : Statement) (ls : List ListingLine) → l.statement ≡ s → LabelsRec write at n is ls → at ≡ q + p → p ≡ length (places_in s) + m → AllOutside at (suc n) (labels_at q l.names ++ labels_from (q + length (places_in s)) ls) → AreOps (suc n) (drop p (places_in s ++ places_of ls)) → labels_from q (l ∷ replaced_lines write (p - length (places_in s)) (suc n) is ls) ≡ map (move_label at (suc n - length is)) (labels_at q l.names ++ labels_from (q + length (places_in s)) ls)
unfolding LabelsRec
labels_behind write at n q p m is l s ls f rec e g out h =
    let gone : ℕ = suc n - length is in
    let r = rec (q + length (places_in s)) m (omega arith) (all_back at (suc n) (labels_at q l.names) _ out) (subst (AreOps (suc n)) (drop_back (places_in s) (places_of ls) p m g) h) in
    ap (λ x. labels_from q (l ∷ replaced_lines write x (suc n) is ls)) (let z : p - length (places_in s) ≡ m = omega arith in z)
    ∙ ap (λ x. labels_at q l.names ++ labels_from (q + length (places_in x)) (replaced_lines write m (suc n) is ls)) f
    ∙ ap (λ x. x ++ labels_from (q + length (places_in s)) (replaced_lines write m (suc n) is ls)) (at_moved at gone q q l.names (omega arith))
    ∙ ap (λ x. map (move_label at gone) (labels_at q l.names) ++ x) r
    ∙ sym (map-append (move_label at gone) (labels_at q l.names) (labels_from (q + length (places_in s)) ls))

labels_step : (write : Instr → List ℕ) (at n q p : ℕ) (is : List Instr) (l : ListingLine) (s : Statement) (ls : List ListingLine) → length is < suc n → l.statement ≡ s → LabelsRec write at n is ls → at ≡ q + p → AllOutside at (suc n) (labels_at q l.names ++ labels_from (q + length (places_in s)) ls) → AreOps (suc n) (drop p (places_in s ++ places_of ls)) → labels_from q (if is_op s && (p == 0) then labels_kept l l.names ++ (map (new_line write) is ++ without (suc n - 1) ls) else l ∷ replaced_lines write (p - length (places_in s)) (suc n) is ls) ≡ map (move_label at (suc n - length is)) (labels_at q l.names ++ labels_from (q + length (places_in s)) ls)
labels_step write at n q p is l (Words ws) ls short f rec e out h =
    let w = past_words ws (places_of ls) p n h in
    let x = length_map Word ws in
    labels_behind write at n q p (p - length ws) is l (Words ws) ls f rec e (omega arith) out h
labels_step write at n q zero is l (Instruction i mention) ls short f rec e out h =
    let gone : ℕ = suc n - length is in
    kept_labels l l.names q (map (new_line write) is ++ without (suc n - 1) ls)
    ∙ ap (λ x. labels_at q l.names ++ x) (new_labels write is q (q + length is) (without (suc n - 1) ls) refl)
    ∙ ap (λ m. labels_at q l.names ++ labels_from (q + length is) (without m ls)) (let z : suc n - 1 ≡ n = omega arith in z)
    ∙ ap (λ x. labels_at q l.names ++ x) (labels_without at (suc n) gone n ls (q + length is) (q + 1) (omega arith) (omega arith) (omega arith) (omega arith) (all_back at (suc n) (labels_at q l.names) _ out) h)
    ∙ ap (λ x. x ++ map (move_label at gone) (labels_from (q + 1) ls)) (at_moved at gone q q l.names (omega arith))
    ∙ sym (map-append (move_label at gone) (labels_at q l.names) (labels_from (q + 1) ls))
labels_step write at n q (suc p) is l (Instruction i mention) ls short f rec e out h =
    ap (λ b. labels_from q (if b then labels_kept l l.names ++ (map (new_line write) is ++ without (suc n - 1) ls) else l ∷ replaced_lines write (suc p - 1) (suc n) is ls)) (ne_eqb (suc p) 0 (λ z. absurd (omega arith)))
    ∙ labels_behind write at n q (suc p) p is l (Instruction i mention) ls f rec e (omega arith) out h
labels_step write at n q p is l s ls short f rec e out h = labels_behind write at n q p p is l s ls f rec e (omega arith) out h

-- labels, where lines are replaced
pub labels_replaced : (write : Instr → List ℕ) (at n : ℕ) (is : List Instr) (ls : List ListingLine) (q p : ℕ) → length is < suc n → at ≡ q + p → AllOutside at (suc n) (labels_from q ls) → AreOps (suc n) (drop p (places_of ls)) → labels_from q (replaced_lines write p (suc n) is ls) ≡ map (move_label at (suc n - length is)) (labels_from q ls)
unfolding LabelsRec
labels_replaced write at n is [] q p short e out h = refl
labels_replaced write at n is (l ∷ ls) q p short e out h =
    labels_step write at n q p is l l.statement ls short refl (λ q p e out h. labels_replaced write at n is ls q p short e out h) e out h

-- a replacement of lines is one of places and labels
pub code_replaced : (write : Instr → List ℕ) (p n : ℕ) (is : List Instr) (ls : List ListingLine) → length is < suc n → AreOps (suc n) (drop p (places_of ls)) → AllOutside p (suc n) (labels_from 0 ls) → code_of (replaced_lines write p (suc n) is ls) ≡ replaced (code_of ls) p (suc n) is
code_replaced write p n is ls short ops out =
    same_code _ _ _ _ (places_replaced write n is ls p (p + suc n) refl ops) (labels_replaced write p n is ls 0 p short (omega arith) out ops)
  where
    same_code : (ps qs : List Place) (ls ms : List Label) → ps ≡ qs → ls ≡ ms → (let c : Code = record { places = ps; labels = ls } in c) ≡ record { places = qs; labels = ms }
    same_code ps qs ls ms e f = cc

-- ---- how many lines ----

-- each instruction that is removed is one line
pub lines_step : (n : ℕ) (l : ListingLine) (s : Statement) (ls : List ListingLine) → (AreOps n (places_of ls) → n + length (without n ls) ≡ length ls) → (AreOps (suc n) (places_of ls) → suc n + length (without (suc n) ls) ≡ length ls) → AreOps (suc n) (places_in s ++ places_of ls) → suc n + length (if is_op s then without n ls else l ∷ without (suc n) ls) ≡ suc (length ls)
lines_step n l (Instruction i mention) ls f g h = let e = f h in omega arith
lines_step n l (Words (w ∷ ws)) ls f g h = absurd h
lines_step n l s ls f g h = let e = g h in omega arith

pub lines_without : (n : ℕ) (ls : List ListingLine) → AreOps n (places_of ls) → n + length (without n ls) ≡ length ls
lines_without zero [] h = refl
lines_without (suc n) [] h = absurd h
lines_without zero (l ∷ ls) h = omega arith
lines_without (suc n) (l ∷ ls) h = lines_step n l l.statement ls (lines_without n ls) (lines_without (suc n) ls) h

kept_few : (l : ListingLine) (ns : List Name) → length (labels_kept l ns) ≤ 1
kept_few l [] = omega arith
kept_few l (n ∷ ns) = omega arith

LinesRec : (Instr → List ℕ) → ℕ → List Instr → List ListingLine → Type 0
LinesRec write n is ls = (q : ℕ) → AreOps (suc n) (drop q (places_of ls)) → length (replaced_lines write q (suc n) is ls) ≤ length ls

fewer_behind : (write : Instr → List ℕ) (n p m : ℕ) (is : List Instr) (l : ListingLine) (s : Statement) (ls : List ListingLine) → LinesRec write n is ls → p ≡ length (places_in s) + m → AreOps (suc n) (drop p (places_in s ++ places_of ls)) → length (l ∷ replaced_lines write (p - length (places_in s)) (suc n) is ls) ≤ suc (length ls)
unfolding LinesRec
fewer_behind write n p m is l s ls rec g h =
    let r = rec m (subst (AreOps (suc n)) (drop_back (places_in s) (places_of ls) p m g) h) in
    let e : length (replaced_lines write (p - length (places_in s)) (suc n) is ls) ≡ length (replaced_lines write m (suc n) is ls) = ap (λ q. length (replaced_lines write q (suc n) is ls)) (let z : p - length (places_in s) ≡ m = omega arith in z) in
    omega arith

fewer_step : (write : Instr → List ℕ) (n p : ℕ) (is : List Instr) (l : ListingLine) (s : Statement) (ls : List ListingLine) → length is < suc n → LinesRec write n is ls → AreOps (suc n) (drop p (places_in s ++ places_of ls)) → length (if is_op s && (p == 0) then labels_kept l l.names ++ (map (new_line write) is ++ without (suc n - 1) ls) else l ∷ replaced_lines write (p - length (places_in s)) (suc n) is ls) ≤ suc (length ls)
fewer_step write n p is l (Words ws) ls short rec h =
    let w = past_words ws (places_of ls) p n h in
    let x = length_map Word ws in
    fewer_behind write n p (p - length ws) is l (Words ws) ls rec (omega arith) h
fewer_step write n zero is l (Instruction i mention) ls short rec h =
    let e : length (without (suc n - 1) ls) ≡ length (without n ls) = ap (λ m. length (without m ls)) (let z : suc n - 1 ≡ n = omega arith in z) in
    let f = lines_without n ls h in
    let k = kept_few l l.names in
    let a = length-append (labels_kept l l.names) (map (new_line write) is ++ without (suc n - 1) ls) in
    let b = length-append (map (new_line write) is) (without (suc n - 1) ls) in
    let c = length_map (new_line write) is in
    omega arith
fewer_step write n (suc p) is l (Instruction i mention) ls short rec h =
    subst (λ b. length (if b then labels_kept l l.names ++ (map (new_line write) is ++ without (suc n - 1) ls) else l ∷ replaced_lines write (suc p - 1) (suc n) is ls) ≤ suc (length ls)) (sym (ne_eqb (suc p) 0 (λ z. absurd (omega arith))))
    (fewer_behind write n (suc p) p is l (Instruction i mention) ls rec (omega arith) h)
fewer_step write n p is l s ls short rec h = fewer_behind write n p p is l s ls rec (omega arith) h

-- there are no more lines afterwards
pub lines_fewer : (write : Instr → List ℕ) (n : ℕ) (is : List Instr) (ls : List ListingLine) (p : ℕ) → length is < suc n → AreOps (suc n) (drop p (places_of ls)) → length (replaced_lines write p (suc n) is ls) ≤ length ls
unfolding LinesRec
lines_fewer write n is [] p short h = omega arith
lines_fewer write n is (l ∷ ls) p short h = fewer_step write n p is l l.statement ls short (λ q h. lines_fewer write n is ls q short h) h

-- ---- windows ----

pub ops_of : (is : List Instr) (n : ℕ) (ps : List Place) → n ≡ length is → take n ps ≡ map plain is → AreOps n ps
ops_of [] zero ps e h = tt
ops_of (i ∷ is) zero ps e h = absurd (omega arith)
ops_of [] (suc n) ps e h = absurd (omega arith)
ops_of (i ∷ is) (suc n) [] e h = absurd (cc)
ops_of (i ∷ is) (suc n) (Op j mention ∷ ps) e h = ops_of is n ps (omega arith) (cc)
ops_of (i ∷ is) (suc n) (Word w ∷ ps) e h = absurd (cc)

pub outside_of : (p count : ℕ) (ls : List Label) → ((k : ℕ) (l : Label) → slice_get ls k ≡ Some l → (l.place ≤ p) ⊎ (p + count ≤ l.place)) → AllOutside p count ls
outside_of p count [] h = tt
outside_of p count (l ∷ ls) h = (h 0 l refl, outside_of p count ls (λ k m e. h (suc k) m e))

pub before : (n : ℕ) → 0 < n → (m : ℕ) × (n ≡ suc m)
before zero h = absurd (omega arith)
before (suc m) h = (m, refl)
