-- How many lines there are when instructions give way.
use Rattle.std.proofs.Common.{◌≡◌, ◌≢◌, ℕ, zero, suc, ◌+◌, ◌-◌, ◌<◌, ◌≤◌, ◌==◌, ◌&&◌, Bool, true, false, List, [], ◌∷◌, ◌++◌, length, length-append, map, drop, replicate, Some, refl, sym, ap, ◌∙◌, subst, inl, inr, arith, ne_eqb, true≢false, if◌then◌else◌}
use Rattle.std.specs.Prelude.{slice_get, nat_le}
use Rattle.std.proofs.lemmas.Bool.{cases_Bool, eqb-true, eqb-false, leb-true, and_parts}
use Rattle.std.proofs.lemmas.Option.{same_Some}
use Rattle.thumb_instr.specs.declared.instr.Instr.{Instr}
use Rattle.thumb_model.specs.Listing.{Name, Value, Statement, Instruction, Words, ListingLine, Place, Word, places_in, places_of, is_op_place}
use Rattle.thumb_model.specs.Replaced.{is_op, without, labels_kept, new_line, replaced_lines}
use Rattle.thumb_model.specs.Cuts.{AreOps}
use Rattle.thumb_model.proofs.Lists.{length_map, get_back, get_drop}
use Rattle.edited_listing.specs.Items.{Item, AsGiven, New, AreSorted}
use Rattle.edited_listing.specs.Emitting.{is_given_at, emit_at, line_at, lines_from}
use Rattle.edited_listing.specs.Giving.{are_free_from, WordsStand}
use Rattle.edited_listing.specs.Counting.{one_if, item_labelled, some_name, is_labelled, labels_in, op_labels}
use Rattle.edited_listing.proofs.Free.{past_words, drop_past}
use Rattle.edited_listing.proofs.Sorted.{sorted_less, not_given}
use Rattle.edited_listing.proofs.Emitted.{op_takes, not_first, free_behind, words_behind, words_past, stand_behind, other_line, labels_free_from}
use Rattle.thumb_model.proofs.LinesReplaced.{lines_without as without_count}

label_lines : (l : ListingLine) (ns : List Name) → length (labels_kept l ns) ≡ one_if (some_name ns)
label_lines l [] = refl
label_lines l (n ∷ ns) = refl

CountRec : (Instr → List ℕ) → ℕ → List Instr → List ListingLine → Type 0
CountRec write n is ls = (r : ℕ) → AreOps (suc n) (drop r (places_of ls)) → suc n + length (replaced_lines write r (suc n) is ls) ≡ length ls + length is + one_if (is_labelled r ls)

count_past : (write : Instr → List ℕ) (n r k : ℕ) (is : List Instr) (l : ListingLine) (s : Statement) (ls : List ListingLine) → CountRec write n is ls → k ≡ length (places_in s) → k ≤ r → AreOps (suc n) (drop r (places_in s ++ places_of ls)) →
    suc n + length (l ∷ replaced_lines write (r - k) (suc n) is ls) ≡ suc (length ls) + length is + one_if (is_labelled (r - k) ls)
unfolding CountRec
count_past write n r k is l s ls f e h o =
    let rest = f (r - k) (subst (λ j. AreOps (suc n) (drop (r - j) (places_of ls))) (sym e) (subst (AreOps (suc n)) (drop_past (places_in s) (places_of ls) r (omega arith)) o)) in omega arith

count_step : (write : Instr → List ℕ) (n r : ℕ) (is : List Instr) (l : ListingLine) (s : Statement) (ls : List ListingLine) → CountRec write n is ls → AreOps (suc n) (drop r (places_in s ++ places_of ls)) →
    suc n + length (if is_op s && (r == 0) then labels_kept l l.names ++ (map (new_line write) is ++ without (suc n - 1) ls) else l ∷ replaced_lines write (r - length (places_in s)) (suc n) is ls)
    ≡ suc (length ls) + length is + one_if (if is_op s && (r == 0) then some_name l.names else is_labelled (r - length (places_in s)) ls)
count_step write n zero is l (Instruction i m) ls f o =
    let n' : suc n - 1 ≡ n = omega arith in
    let w = without_count n ls o in
    let w' : length (without (suc n - 1) ls) ≡ length (without n ls) = ap (λ j. length (without j ls)) n' in
    let a = length-append (labels_kept l l.names) (map (new_line write) is ++ without (suc n - 1) ls) in
    let b = length-append (map (new_line write) is) (without (suc n - 1) ls) in
    let c = length_map (new_line write) is in
    let d = label_lines l l.names in
    omega arith
count_step write n (suc r) is l (Instruction i m) ls f o =
    let past : (suc r == 0) ≡ false = ne_eqb (suc r) 0 (λ z. absurd (omega arith)) in rw past (count_past write n (suc r) 1 is l (Instruction i m) ls f refl (omega arith) o)
count_step write n r is l (Words ws) ls f o = count_past write n r (length (map Word ws)) is l (Words ws) ls f refl (past_words ws (places_of ls) r n o) o
count_step write n r is l s ls f o = count_past write n r 0 is l s ls f refl (omega arith) o

count_replaced : (write : Instr → List ℕ) (n : ℕ) (is : List Instr) (ls : List ListingLine) → CountRec write n is ls
unfolding CountRec
count_replaced write n is [] zero o = absurd o
count_replaced write n is [] (suc r) o = absurd o
count_replaced write n is (l ∷ ls) r o = count_step write n r is l l.statement ls (count_replaced write n is ls) o

pub lines_counted : (write : Instr → List ℕ) (n r : ℕ) (is : List Instr) (ls : List ListingLine) → AreOps (suc n) (drop r (places_of ls)) → suc n + length (replaced_lines write r (suc n) is ls) ≡ length ls + length is + one_if (is_labelled r ls)
unfolding CountRec
lines_counted write n r is ls o = count_replaced write n is ls r o

-- ---- a label at an item's line ----

-- an item that is emitted after so many places
IsBehind : ℕ → Item → Type 0
IsBehind q (AsGiven p) = q ≤ p
IsBehind q (New i home) = Unit {0}

less : (a b : ℕ) (x : Item) → b ≤ a → IsBehind a x → IsBehind b x
unfolding IsBehind
less a b (AsGiven p) h t = omega arith
less a b (New i p) h t = tt

all_behind : (c q r : ℕ) (xs : List Item) (x : Item) → AreSorted c q xs → c ≤ q → q ≤ suc c → slice_get xs r ≡ Some x → IsBehind q x
unfolding IsBehind
all_behind c q r [] x s h k e = absurd (cc)
all_behind c q zero (AsGiven p ∷ xs) x s h k e = subst (IsBehind q) (same_Some (AsGiven p) x e) (s.0)
all_behind c q zero (New i p ∷ xs) x s h k e = subst (IsBehind q) (same_Some (New i p) x e) tt
all_behind c q (suc r) (AsGiven p ∷ xs) x s h k e = less (suc p) q x (let a = s.0 in omega arith) (all_behind (suc p) (suc p) r xs x s.1 (omega arith) (omega arith) e)
all_behind c q (suc r) (New i p ∷ xs) x s h k e = less (suc p) q x (let a = s.0 in omega arith) (all_behind p (suc p) r xs x s.1 (omega arith) (omega arith) e)

-- its line is among those after a line with k places
line_behind : (p k : ℕ) (l : ListingLine) (ls : List ListingLine) (x : Item) → k ≡ length (places_in l.statement) → IsBehind (p + k) x → (is_op l.statement ≡ true → 0 < k) → item_labelled (p + k) ls x ≡ item_labelled p (l ∷ ls) x
unfolding IsBehind
line_behind p k l ls (New i q) e h o = refl
line_behind p k l ls (AsGiven q) e h o =
    let past : (is_op l.statement && (q - p == 0)) ≡ false = elim (cases_Bool (is_op l.statement)) [
      | inl op ↦ not_first l (q - p) (let some = o op in omega arith)
      | inr op ↦ rw op refl
    ] in
    ap (λ j. is_labelled j ls) (let z : q - (p + k) ≡ q - p - length (places_in l.statement) = omega arith in z) ∙ rw past refl

labelled_here : (l : ListingLine) (ls : List ListingLine) → is_op l.statement ≡ true → is_labelled 0 (l ∷ ls) ≡ some_name l.names
labelled_here l ls op = rw op refl

module _ (write : Instr → List ℕ) where
  labels_none : (l : ListingLine) (ns : List Name) (r : ℕ) (ls : List ListingLine) → is_labelled r (labels_kept l ns ++ ls) ≡ is_labelled r ls
  labels_none l [] r ls = refl
  labels_none l (n ∷ ns) r ls = ap (λ j. is_labelled j ls) (let z : r - 0 ≡ r = omega arith in z)

  Labels : ℕ → ℕ → List ListingLine → (List Item → List ListingLine) → Type 0
  Labels p n ls behind = (r : ℕ) (xs : List Item) (x : Item) → AreSorted p p xs → WordsStand p xs ls → are_free_from r n (behind xs) ≡ true → slice_get xs r ≡ Some x → is_labelled r (behind xs) ≡ item_labelled p ls x

  emit_labels : (p n r : ℕ) (l : ListingLine) (xs : List Item) (x : Item) (ls : List ListingLine) (behind : List Item → List ListingLine) → Labels (suc p) n ls behind → AreSorted p (suc p) xs → WordsStand (suc p) xs ls →
      are_free_from r n (emit_at write p xs behind) ≡ true → slice_get xs r ≡ Some x → is_labelled r (emit_at write p xs behind) ≡ item_labelled (suc p) ls x
  unfolding Labels
  emit_labels p n r l [] x ls behind rec s v f e = absurd (cc)
  emit_labels p n r l (AsGiven q ∷ xs) x ls behind rec s v f e = rec r (AsGiven q ∷ xs) x s v f e
  emit_labels p n zero l (New i q ∷ xs) x ls behind rec s v f e = elim (cases_Bool (q == p)) [
    | inl h ↦ rw h (ap (item_labelled (suc p) ls) (same_Some (New i q) x e))
    | inr h ↦
        let a = s.0 in
        let other : q ≢ p = eqb-false q p h in
        rw h (rec 0 (New i q ∷ xs) x (let b : suc p ≤ q = omega arith in b, s.1) v (rw h at f) e)
  ]
  emit_labels p n (suc r) l (New i q ∷ xs) x ls behind rec s v f e = elim (cases_Bool (q == p)) [
    | inl h ↦
        let at = eqb-true q p h in
        let past : (suc r == 0) ≡ false = ne_eqb (suc r) 0 (λ z. absurd (omega arith)) in
        let t : AreSorted p (suc p) xs = sorted_less q (suc q) p (suc p) xs (omega arith) (omega arith) s.1 in
        let new : is_labelled (suc r) (new_line write i ∷ emit_at write p xs behind) ≡ is_labelled r (emit_at write p xs behind) =
        rw past (ap (λ j. is_labelled j (emit_at write p xs behind)) (let z : suc r - 1 ≡ r = omega arith in z)) in
        rw h (new ∙ emit_labels p n r l xs x ls behind rec t v (free_behind r n (new_line write i) (emit_at write p xs behind) refl (rw h at f)) e)
    | inr h ↦
        let a = s.0 in
        let other : q ≢ p = eqb-false q p h in
        rw h (rec (suc r) (New i q ∷ xs) x (let b : suc p ≤ q = omega arith in b, s.1) v (rw h at f) e)
  ]

  given_labels : (p q n r : ℕ) (l : ListingLine) (xs : List Item) (x : Item) (ls : List ListingLine) (behind : List Item → List ListingLine) → Labels (suc p) n ls behind → q ≡ p → AreSorted (suc q) (suc q) xs → WordsStand (suc p) xs ls → is_op l.statement ≡ true →
      are_free_from r n (l ∷ behind xs) ≡ true → slice_get (AsGiven q ∷ xs) r ≡ Some x → is_labelled r (l ∷ behind xs) ≡ item_labelled p (l ∷ ls) x
  unfolding Labels
  given_labels p q n zero l xs x ls behind rec h s v op f e =
      labelled_here l (behind xs) op ∙ sym (labelled_here l ls op) ∙ ap (λ j. is_labelled j (l ∷ ls)) (let z : 0 ≡ q - p = omega arith in z) ∙ ap (item_labelled p (l ∷ ls)) (same_Some (AsGiven q) x e)
  given_labels p q n (suc r) l xs x ls behind rec h s v op f e =
      let one = op_takes l.statement op in
      let t : AreSorted (suc p) (suc p) xs = sorted_less (suc q) (suc q) (suc p) (suc p) xs (omega arith) (omega arith) s in
      let past : (is_op l.statement && (suc r == 0)) ≡ false = not_first l (suc r) (omega arith) in
      let first : is_labelled (suc r) (l ∷ behind xs) ≡ is_labelled r (behind xs) = rw past (ap (λ j. is_labelled j (behind xs)) (let z : suc r - length (places_in l.statement) ≡ r = omega arith in z)) in
      first
      ∙ rec r xs x t v (free_behind r n l (behind xs) one f) e
      ∙ ap (λ j. item_labelled j ls x) (let z : suc p ≡ p + 1 = omega arith in z)
      ∙ line_behind p 1 l ls x (sym one) (subst (λ j. IsBehind j x) (let z : suc p ≡ p + 1 = omega arith in z) (all_behind (suc p) (suc p) r xs x t (omega arith) (omega arith) e)) (λ z. omega arith)

  other_labels : (p n r : ℕ) (l : ListingLine) (xs : List Item) (x : Item) (ls : List ListingLine) (behind : List Item → List ListingLine) → Labels (suc p) n ls behind → AreSorted p (suc p) xs → WordsStand (suc p) xs ls → is_op l.statement ≡ true → is_given_at p xs ≡ false →
      are_free_from r n (line_at write p l xs behind) ≡ true → slice_get xs r ≡ Some x → is_labelled r (line_at write p l xs behind) ≡ item_labelled p (l ∷ ls) x
  other_labels p n r l xs x ls behind rec s v op g f e =
      let one = op_takes l.statement op in
      let free : are_free_from r n (labels_kept l l.names ++ emit_at write p xs behind) ≡ true = rw g at f in
      ap (is_labelled r) (other_line write p l xs behind g)
      ∙ labels_none l l.names r (emit_at write p xs behind)
      ∙ emit_labels p n r l xs x ls behind rec s v (labels_free_from write l l.names r n (emit_at write p xs behind) free) e
      ∙ ap (λ j. item_labelled j ls x) (let z : suc p ≡ p + 1 = omega arith in z)
      ∙ line_behind p 1 l ls x (sym one) (subst (λ j. IsBehind j x) (let z : suc p ≡ p + 1 = omega arith in z) (all_behind p (suc p) r xs x s (omega arith) (omega arith) e)) (λ z. omega arith)

  line_labels : (p n r : ℕ) (l : ListingLine) (xs : List Item) (x : Item) (ls : List ListingLine) (behind : List Item → List ListingLine) → Labels (suc p) n ls behind → AreSorted p p xs → WordsStand (suc p) xs ls → is_op l.statement ≡ true →
      are_free_from r n (line_at write p l xs behind) ≡ true → slice_get xs r ≡ Some x → is_labelled r (line_at write p l xs behind) ≡ item_labelled p (l ∷ ls) x
  line_labels p n r l [] x ls behind rec s v op f e = absurd (cc)
  line_labels p n r l (New i q ∷ xs) x ls behind rec s v op f e = other_labels p n r l (New i q ∷ xs) x ls behind rec s v op refl f e
  line_labels p n r l (AsGiven q ∷ xs) x ls behind rec s v op f e = elim (cases_Bool (q == p)) [
    | inl h ↦ rw h (given_labels p q n r l xs x ls behind rec (eqb-true q p h) s.1 (stand_behind p q xs ls (eqb-true q p h) v) op (rw h at f) e)
    | inr h ↦ other_labels p n r l (AsGiven q ∷ xs) x ls behind rec (not_given p (AsGiven q ∷ xs) h s) v op h f e
  ]

  pub labels_now : (ls : List ListingLine) (p n r : ℕ) (xs : List Item) (x : Item) → AreSorted p p xs → WordsStand p xs ls → are_free_from r n (lines_from write p xs ls) ≡ true → slice_get xs r ≡ Some x → is_labelled r (lines_from write p xs ls) ≡ item_labelled p ls x
  unfolding Labels
  labels_now [] p n r xs (AsGiven q) s v f e = refl
  labels_now [] p n r xs (New i q) s v f e = refl
  labels_now (l ∷ ls) p n r xs x s v f e = elim (cases_Bool (is_op l.statement)) [
    | inl op ↦ rw op (line_labels p n r l xs x ls (λ ys. lines_from write (suc p) ys ls) (λ k ys y t u g h. labels_now ls (suc p) n k ys y t u g h) s (words_behind p xs l ls op v) op (rw op at f) e)
    | inr op ↦
        let k : ℕ = length (places_in l.statement) in
        let free : (nat_le k r && are_free_from (r - k) n (lines_from write (p + k) (drop k xs) ls)) ≡ true = rw (op, op) at f in
        let parts = and_parts (nat_le k r) (are_free_from (r - k) n (lines_from write (p + k) (drop k xs) ls)) free in
        let few = leb-true k r parts.0 in
        let words = words_past p xs l ls op s v in
        let found : slice_get (drop k xs) (r - k) ≡ Some x = get_drop k xs (r - k) r (omega arith) ∙ e in
        rw op (rw op (labels_now ls (p + k) n (r - k) (drop k xs) x words.0 words.1 parts.1 found
        ∙ line_behind p k l ls x refl (all_behind (p + k) (p + k) (r - k) (drop k xs) x words.0 (omega arith) (omega arith) found) (λ z. absurd (true≢false (sym z ∙ op)))))
  ]

-- ---- labels by place ----

labels_words : (n k : ℕ) (bs : List Bool) → n ≤ k → slice_get (replicate n false ++ bs) k ≡ slice_get bs (k - n)
labels_words zero k bs h = ap (slice_get bs) (let z : k ≡ k - 0 = omega arith in z)
labels_words (suc n) zero bs h = absurd (omega arith)
labels_words (suc n) (suc k) bs h = labels_words n k bs (omega arith) ∙ ap (slice_get bs) (let z : k - n ≡ suc k - suc n = omega arith in z)

pub not_word : (vs : List Value) (ps : List Place) (k : ℕ) → is_op_place (slice_get (map Word vs ++ ps) k) ≡ true → length vs ≤ k
not_word [] ps k o = omega arith
not_word (v ∷ vs) ps zero o = absurd (true≢false (sym o))
not_word (v ∷ vs) ps (suc k) o = let h = not_word vs ps k o in omega arith

LabelRec : List ListingLine → Type 0
LabelRec ls = (k : ℕ) → is_op_place (slice_get (places_of ls) k) ≡ true → slice_get (op_labels ls) k ≡ Some (is_labelled k ls)

label_step : (k : ℕ) (l : ListingLine) (s : Statement) (ls : List ListingLine) → LabelRec ls → is_op_place (slice_get (places_in s ++ places_of ls) k) ≡ true →
    slice_get (labels_in (some_name l.names) s ++ op_labels ls) k ≡ Some (if is_op s && (k == 0) then some_name l.names else is_labelled (k - length (places_in s)) ls)
unfolding LabelRec
label_step zero l (Instruction i m) ls f o = refl
label_step (suc k) l (Instruction i m) ls f o =
    let past : (suc k == 0) ≡ false = ne_eqb (suc k) 0 (λ z. absurd (omega arith)) in rw past (f k o ∙ ap (λ j. Some (is_labelled j ls)) (let z : k ≡ suc k - 1 = omega arith in z))
label_step k l (Words vs) ls f o =
    let few = not_word vs (places_of ls) k o in
    let n = length_map Word vs in
    let rest : is_op_place (slice_get (places_of ls) (k - length vs)) ≡ true = ap is_op_place (sym (get_back (map Word vs) (places_of ls) (k - length vs) k (omega arith))) ∙ o in
    labels_words (length vs) k (op_labels ls) few ∙ f (k - length vs) rest ∙ ap (λ j. Some (is_labelled (k - j) ls)) (sym n)
label_step k l s ls f o = ap (slice_get (op_labels ls)) (let z : k ≡ k - 0 = omega arith in z) ∙ f (k - 0) (ap (λ j. is_op_place (slice_get (places_of ls) j)) (let z : k - 0 ≡ k = omega arith in z) ∙ o)

label_rec : (ls : List ListingLine) → LabelRec ls
unfolding LabelRec
label_rec [] k o = absurd (true≢false (sym o))
label_rec (l ∷ ls) k o = label_step k l l.statement ls (label_rec ls) o

pub label_at : (ls : List ListingLine) (k : ℕ) → is_op_place (slice_get (places_of ls) k) ≡ true → slice_get (op_labels ls) k ≡ Some (is_labelled k ls)
unfolding LabelRec
label_at ls k o = label_rec ls k o
