-- Lines in which instructions give way to as many others, or to fewer: their places and labels.
use Rattle.std.proofs.Common.{◌≡◌, ℕ, zero, suc, ◌+◌, ◌-◌, ◌<◌, ◌≤◌, ◌==◌, ◌&&◌, List, [], ◌∷◌, ◌++◌, length, drop, map, refl, sym, ap, ◌∙◌, subst, inl, inr, arith, ne_eqb, if◌then◌else◌}
use Rattle.std.proofs.lemmas.Bool.{cases_lt}
use Rattle.thumb_instr.specs.declared.instr.Instr.{Instr}
use Rattle.thumb_model.specs.Listing.{Statement, Instruction, Words, ListingLine, Place, Word, Label, Code, places_in, places_of, labels_at, labels_from, code_of}
use Rattle.thumb_model.specs.Replaced.{moved, move_label, replaced, is_op, without, labels_kept, new_line, replaced_lines}
use Rattle.thumb_model.specs.Cuts.{AreOps}
use Rattle.thumb_model.proofs.Lists.{length_map, drop_back, cons_same}
use Rattle.thumb_model.proofs.LinesReplaced.{AllOutside, all_back, no_names, places_replaced, code_replaced, new_labels, kept_labels, past_words}

-- ---- behind the first instruction that goes ----

WithoutRec : ℕ → ℕ → ℕ → List ListingLine → Type 0
WithoutRec p count n ls = (q r : ℕ) → p < r → r + n ≡ p + count → q ≡ r + n → AllOutside p count (labels_from r ls) → AreOps n (places_of ls) → labels_from q (without n ls) ≡ labels_from r ls

without_step : (p count n : ℕ) (l : ListingLine) (s : Statement) (ls : List ListingLine) → l.statement ≡ s → WithoutRec p count n ls → WithoutRec p count (suc n) ls → (q r : ℕ) → p < r → r + suc n ≡ p + count → q ≡ r + suc n → AllOutside p count (labels_at r l.names ++ labels_from (r + length (places_in s)) ls) → AreOps (suc n) (places_in s ++ places_of ls) → labels_from q (if is_op s then without n ls else l ∷ without (suc n) ls) ≡ labels_at r l.names ++ labels_from (r + length (places_in s)) ls
unfolding WithoutRec
without_step p count n l (Instruction i mention) ls e f g q r a b c out ops =
    let none = no_names p count r l.names (labels_from (r + 1) ls) a (omega arith) out in
    f q (r + 1) (omega arith) (omega arith) (omega arith) (all_back p count (labels_at r l.names) (labels_from (r + 1) ls) out) ops
    ∙ ap (λ ns. labels_at r ns ++ labels_from (r + 1) ls) (sym none)
without_step p count n l (Words (w ∷ ws)) ls e f g q r a b c out ops = absurd ops
without_step p count n l s ls e f g q r a b c out ops =
    let none = no_names p count r l.names (labels_from (r + 0) ls) a (omega arith) out in
    ap (λ x. labels_at q l.names ++ labels_from (q + length (places_in x)) (without (suc n) ls)) e
    ∙ ap (λ ns. labels_at q ns ++ labels_from (q + 0) (without (suc n) ls)) none
    ∙ g (q + 0) (r + 0) (omega arith) (omega arith) (omega arith) (all_back p count (labels_at r l.names) (labels_from (r + 0) ls) out) ops
    ∙ ap (λ ns. labels_at r ns ++ labels_from (r + 0) ls) (sym none)

labels_without : (p count n : ℕ) (ls : List ListingLine) (q r : ℕ) → p < r → r + n ≡ p + count → q ≡ r + n → AllOutside p count (labels_from r ls) → AreOps n (places_of ls) → labels_from q (without n ls) ≡ labels_from r ls
unfolding WithoutRec
labels_without p count zero [] q r a b c out ops = refl
labels_without p count (suc n) [] q r a b c out ops = absurd ops
labels_without p count zero (l ∷ ls) q r a b c out ops = ap (λ x. labels_from x (l ∷ ls)) (let e : q ≡ r = omega arith in e)
labels_without p count (suc n) (l ∷ ls) q r a b c out ops =
    without_step p count n l l.statement ls refl (λ q r a b c out ops. labels_without p count n ls q r a b c out ops) (λ q r a b c out ops. labels_without p count (suc n) ls q r a b c out ops) q r a b c out ops

-- ---- all lines ----

LabelsRec : (Instr → List ℕ) → ℕ → ℕ → List Instr → List ListingLine → Type 0
LabelsRec write at n is ls = (q p : ℕ) → at ≡ q + p → AllOutside at (suc n) (labels_from q ls) → AreOps (suc n) (drop p (places_of ls)) → labels_from q (replaced_lines write p (suc n) is ls) ≡ labels_from q ls

labels_behind : (write : Instr → List ℕ) (at n q p m : ℕ) (is : List Instr) (l : ListingLine) (s : Statement) (ls : List ListingLine) → l.statement ≡ s → LabelsRec write at n is ls → at ≡ q + p → p ≡ length (places_in s) + m → AllOutside at (suc n) (labels_at q l.names ++ labels_from (q + length (places_in s)) ls) → AreOps (suc n) (drop p (places_in s ++ places_of ls)) → labels_from q (l ∷ replaced_lines write (p - length (places_in s)) (suc n) is ls) ≡ labels_at q l.names ++ labels_from (q + length (places_in s)) ls
unfolding LabelsRec
labels_behind write at n q p m is l s ls f rec e g out h =
    ap (λ x. labels_from q (l ∷ replaced_lines write x (suc n) is ls)) (let z : p - length (places_in s) ≡ m = omega arith in z)
    ∙ ap (λ x. labels_at q l.names ++ labels_from (q + length (places_in x)) (replaced_lines write m (suc n) is ls)) f
    ∙ ap (λ x. labels_at q l.names ++ x) (rec (q + length (places_in s)) m (omega arith) (all_back at (suc n) (labels_at q l.names) _ out) (subst (AreOps (suc n)) (drop_back (places_in s) (places_of ls) p m g) h))

labels_step : (write : Instr → List ℕ) (at n q p : ℕ) (is : List Instr) (l : ListingLine) (s : Statement) (ls : List ListingLine) → length is ≡ suc n → l.statement ≡ s → LabelsRec write at n is ls → at ≡ q + p → AllOutside at (suc n) (labels_at q l.names ++ labels_from (q + length (places_in s)) ls) → AreOps (suc n) (drop p (places_in s ++ places_of ls)) → labels_from q (if is_op s && (p == 0) then labels_kept l l.names ++ (map (new_line write) is ++ without (suc n - 1) ls) else l ∷ replaced_lines write (p - length (places_in s)) (suc n) is ls) ≡ labels_at q l.names ++ labels_from (q + length (places_in s)) ls
labels_step write at n q p is l (Words ws) ls as_many f rec e out h =
    let w = past_words ws (places_of ls) p n h in
    let x = length_map Word ws in
    labels_behind write at n q p (p - length ws) is l (Words ws) ls f rec e (omega arith) out h
labels_step write at n q zero is l (Instruction i mention) ls as_many f rec e out h =
    kept_labels l l.names q (map (new_line write) is ++ without (suc n - 1) ls)
    ∙ ap (λ x. labels_at q l.names ++ x) (new_labels write is q (q + suc n) (without (suc n - 1) ls) (omega arith))
    ∙ ap (λ m. labels_at q l.names ++ labels_from (q + suc n) (without m ls)) (let z : suc n - 1 ≡ n = omega arith in z)
    ∙ ap (λ x. labels_at q l.names ++ x) (labels_without at (suc n) n ls (q + suc n) (q + 1) (omega arith) (omega arith) (omega arith) (all_back at (suc n) (labels_at q l.names) _ out) h)
labels_step write at n q (suc p) is l (Instruction i mention) ls as_many f rec e out h =
    ap (λ b. labels_from q (if b then labels_kept l l.names ++ (map (new_line write) is ++ without (suc n - 1) ls) else l ∷ replaced_lines write (suc p - 1) (suc n) is ls)) (ne_eqb (suc p) 0 (λ z. absurd (omega arith)))
    ∙ labels_behind write at n q (suc p) p is l (Instruction i mention) ls f rec e (omega arith) out h
labels_step write at n q p is l s ls as_many f rec e out h = labels_behind write at n q p p is l s ls f rec e (omega arith) out h

-- where as many instructions come as go, the labels stay
labels_stay : (write : Instr → List ℕ) (at n : ℕ) (is : List Instr) (ls : List ListingLine) (q p : ℕ) → length is ≡ suc n → at ≡ q + p → AllOutside at (suc n) (labels_from q ls) → AreOps (suc n) (drop p (places_of ls)) → labels_from q (replaced_lines write p (suc n) is ls) ≡ labels_from q ls
unfolding LabelsRec
labels_stay write at n is [] q p as_many e out h = refl
labels_stay write at n is (l ∷ ls) q p as_many e out h =
    labels_step write at n q p is l l.statement ls as_many refl (λ q p e out h. labels_stay write at n is ls q p as_many e out h) e out h

none_moved : (p gone : ℕ) (ls : List Label) → gone ≡ 0 → map (move_label p gone) ls ≡ ls
none_moved p gone [] z = refl
none_moved p gone (l ∷ ls) z = cons_same (move_label p gone l) l _ ls (ap (λ q. let m : Label = record { name = l.name; place = q } in m) (let e : moved p gone l.place ≡ l.place = omega arith in e)) (none_moved p gone ls z)

-- a replacement of lines by no more instructions is one of places and labels
pub code_replaced_by : (write : Instr → List ℕ) (p n : ℕ) (is : List Instr) (ls : List ListingLine) → length is ≤ suc n → AreOps (suc n) (drop p (places_of ls)) → AllOutside p (suc n) (labels_from 0 ls) → code_of (replaced_lines write p (suc n) is ls) ≡ replaced (code_of ls) p (suc n) is
code_replaced_by write p n is ls no_longer ops out =
    elim (cases_lt (length is) (suc n)) [
      | inl fewer ↦ code_replaced write p n is ls fewer ops out
      | inr k ↦ same_code _ _ _ _ (places_replaced write n is ls p (p + suc n) refl ops) (labels_stay write p n is ls 0 p (omega arith) (omega arith) out ops ∙ sym (none_moved p (suc n - length is) (labels_from 0 ls) (omega arith)))
    ]
  where
    same_code : (ps qs : List Place) (ls ms : List Label) → ps ≡ qs → ls ≡ ms → (let c : Code = record { places = ps; labels = ls } in c) ≡ record { places = qs; labels = ms }
    same_code ps qs ls ms e f = cc
