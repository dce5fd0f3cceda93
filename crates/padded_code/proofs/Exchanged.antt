-- Instructions that give way in the code do so in the padded one.
use Rattle.std.proofs.Common.{◌≡◌, ◌≢◌, ℕ, zero, suc, ◌+◌, ◌-◌, ◌<◌, ◌≤◌, Bool, true, false, List, [], ◌∷◌, ◌++◌, length, take, drop, set, map, Some, refl, sym, ap, ◌∙◌, subst, ◌⊎◌, inl, inr, arith}
use Rattle.std.specs.Prelude.{slice_get}
use Rattle.std.proofs.lemmas.List.{length-set, drop_all, take-append-drop}
use Rattle.std.proofs.lemmas.Bool.{cases_eq, cases_lt}
use Rattle.kept_places.proofs.Ranks.{marked_other, ranks_ascend, ranks_grow, rank_set_before, rank_set_behind}
use Rattle.thumb_instr.specs.declared.instr.Instr.{Instr}
use Rattle.thumb_model.specs.Listing.{Place, plain, Label, Code, is_op_place, is_code}
use Rattle.thumb_model.specs.Replaced.{moved, move_label, replaced}
use Rattle.kept_places.specs.Marks.{is_gone, rank}
use Rattle.padded_code.specs.Padding.{nop, kept, ranked, IsPadded}
use Rattle.padded_code.specs.Exchange.{marks_after, places_after, exchanged, put_at, AreKeptFrom, GivesWay}
use Rattle.padded_code.proofs.Kept.{AreNops}
use Rattle.padded_code.proofs.Padded.{code_alike, label_in}
use Rattle.thumb_model.proofs.Shared.{op_within}

-- ---- one element of a list ----

pub get_set : {A : Type 0} (xs : List A) (p : ℕ) (y : A) → p < length xs → slice_get (set xs p y) p ≡ Some y
get_set [] p y h = absurd (omega arith)
get_set (x ∷ xs) zero y h = refl
get_set (x ∷ xs) (suc p) y h = get_set xs p y (omega arith)

pub get_other : {A : Type 0} (xs : List A) (p q : ℕ) (y : A) → q ≢ p → slice_get (set xs p y) q ≡ slice_get xs q
get_other [] p q y h = refl
get_other (x ∷ xs) zero zero y h = absurd (h refl)
get_other (x ∷ xs) zero (suc q) y h = refl
get_other (x ∷ xs) (suc p) zero y h = refl
get_other (x ∷ xs) (suc p) (suc q) y h = get_other xs p q y (λ e. h (ap suc e))

-- one stands where one stood, though another was put somewhere
op_set : (ps : List Place) (p q : ℕ) (y : Place) → is_op_place (Some y) ≡ true → is_op_place (slice_get ps q) ≡ true → is_op_place (slice_get (set ps p y) q) ≡ true
op_set [] p q y o h = h
op_set (x ∷ ps) zero zero y o h = o
op_set (x ∷ ps) zero (suc q) y o h = h
op_set (x ∷ ps) (suc p) zero y o h = h
op_set (x ∷ ps) (suc p) (suc q) y o h = op_set ps p q y o h

-- and stood where one stands, if it was put where one stood
op_unset : (ps : List Place) (p q : ℕ) (y : Place) → is_op_place (slice_get ps p) ≡ true → is_op_place (slice_get (set ps p y) q) ≡ true → is_op_place (slice_get ps q) ≡ true
op_unset [] p q y g h = h
op_unset (x ∷ ps) zero zero y g h = g
op_unset (x ∷ ps) zero (suc q) y g h = h
op_unset (x ∷ ps) (suc p) zero y g h = h
op_unset (x ∷ ps) (suc p) (suc q) y g h = op_unset ps p q y g h

-- ---- one place ----

-- another instruction at a kept place
kept_put : (gone : List Bool) (ps : List Place) (p : ℕ) (y : Place) → is_gone gone p ≡ false → p < length ps → kept gone (set ps p y) ≡ take (rank gone p) (kept gone ps) ++ (y ∷ drop (suc (rank gone p)) (kept gone ps))
kept_put [] [] p y g h = absurd (omega arith)
kept_put (b ∷ gs) [] p y g h = absurd (omega arith)
kept_put [] (x ∷ ps) zero y g h = refl
kept_put [] (x ∷ ps) (suc p) y g h = ap (λ l. x ∷ l) (kept_put [] ps p y refl (omega arith))
kept_put (true ∷ gs) (x ∷ ps) zero y g h = absurd (cc)
kept_put (false ∷ gs) (x ∷ ps) zero y g h = refl
kept_put (true ∷ gs) (x ∷ ps) (suc p) y g h = kept_put gs ps p y g (omega arith)
kept_put (false ∷ gs) (x ∷ ps) (suc p) y g h = ap (λ l. x ∷ l) (kept_put gs ps p y g (omega arith))

-- a kept place goes
kept_drop : (gone : List Bool) (ps : List Place) (p : ℕ) (y : Place) → p < length gone → is_gone gone p ≡ false → p < length ps → kept (set gone p true) (set ps p y) ≡ take (rank gone p) (kept gone ps) ++ drop (suc (rank gone p)) (kept gone ps)
kept_drop [] ps p y m g h = absurd (omega arith)
kept_drop (b ∷ gs) [] p y m g h = absurd (omega arith)
kept_drop (true ∷ gs) (x ∷ ps) zero y m g h = absurd (cc)
kept_drop (false ∷ gs) (x ∷ ps) zero y m g h = refl
kept_drop (true ∷ gs) (x ∷ ps) (suc p) y m g h = kept_drop gs ps p y (omega arith) g (omega arith)
kept_drop (false ∷ gs) (x ∷ ps) (suc p) y m g h = ap (λ l. x ∷ l) (kept_drop gs ps p y (omega arith) g (omega arith))

-- the places behind it then are one less
pub rank_drop : (gone : List Bool) (p q : ℕ) → p < length gone → is_gone gone p ≡ false → rank (set gone p true) q ≡ moved (rank gone p) 1 (rank gone q)
rank_drop gone p q m g = elim (cases_lt p q) [
  | inl l ↦ let b = rank_set_behind gone p q m g l in let a = ranks_ascend gone p q g l in omega arith
  | inr l ↦ let b = rank_set_before gone p q l in let a = ranks_grow gone q p l in omega arith
]

-- a nop still stands where a place is gone
pub nops_put : (gone : List Bool) (ps : List Place) (p : ℕ) (y : Place) → is_gone gone p ≡ false → AreNops gone ps → AreNops gone (set ps p y)
nops_put gone ps p y g n q t =
    elim (cases_eq q p) [
      | inl e ↦ absurd (let f : is_gone gone q ≡ false = ap (is_gone gone) e ∙ g in cc)
      | inr d ↦ get_other ps p q y d ∙ n q t
    ]

nops_drop : (gone : List Bool) (ps : List Place) (p : ℕ) → p < length ps → AreNops gone ps → AreNops (set gone p true) (set ps p nop)
nops_drop gone ps p h n q t =
    elim (cases_eq q p) [
      | inl e ↦ ap (slice_get (set ps p nop)) e ∙ get_set ps p nop h
      | inr d ↦ get_other ps p q nop d ∙ n q (sym (marked_other gone p q true d) ∙ t)
    ]

-- the other places of the window are as before
kept_from_put : (gone : List Bool) (places : List Place) (p r : ℕ) (i : Instr) (ps : List ℕ) → AreKeptFrom gone places r ps → AreKeptFrom gone (set places p (plain i)) r ps
kept_from_put gone places p r i [] a = tt
kept_from_put gone places p r i (q ∷ ps) a = (a.0, a.1, a.2, op_set places p q (plain i) refl a.3, kept_from_put gone places p (suc r) i ps a.4)

kept_from_drop : (gone : List Bool) (places : List Place) (p r : ℕ) (i : Instr) (ps : List ℕ) → p < length gone → is_gone gone p ≡ false → rank gone p ≤ r → AreKeptFrom gone places (suc r) ps → AreKeptFrom (set gone p true) (set places p (plain i)) r ps
kept_from_drop gone places p r i [] m g l a = tt
kept_from_drop gone places p r i (q ∷ ps) m g l a =
    let len : length (set gone p true) ≡ length gone = length-set gone p true in
    let at : rank gone q ≡ suc r = a.2 in
    let in_marks : q < length gone = a.0 in
    let other : q ≢ p = λ e. (let f : rank gone q ≡ rank gone p = ap (rank gone) e in absurd (omega arith)) in
    let m' : rank (set gone p true) q ≡ moved (rank gone p) 1 (rank gone q) = rank_drop gone p q m g in
    (omega arith, marked_other gone p q true other ∙ a.1, omega arith, op_set places p q (plain i) refl a.3, kept_from_drop gone places p (suc r) i ps m g (omega arith) a.4)

-- ---- a window ----

put_and_rest : (y : Place) (ys : List Place) (r m n : ℕ) (ps : List Place) → n ≡ suc r + m → take (suc r) (take r ps ++ (y ∷ drop (suc r) ps)) ++ (ys ++ drop n (take r ps ++ (y ∷ drop (suc r) ps))) ≡ take r ps ++ (y ∷ (ys ++ drop n ps))
put_and_rest y ys r m zero ps e = absurd (omega arith)
put_and_rest y ys zero m (suc n) [] e = ap (λ l. y ∷ (ys ++ l)) (drop_all n [] (omega arith))
put_and_rest y ys zero m (suc n) (x ∷ ps) e = refl
put_and_rest y ys (suc r) m (suc n) [] e = ap (λ l. y ∷ (ys ++ l)) (drop_all n [] (omega arith))
put_and_rest y ys (suc r) m (suc n) (x ∷ ps) e = ap (λ l. x ∷ l) (put_and_rest y ys r m n ps (omega arith))

drop_and_rest : (r m n : ℕ) (ps : List Place) → n ≡ r + m → take r (take r ps ++ drop (suc r) ps) ++ drop n (take r ps ++ drop (suc r) ps) ≡ take r ps ++ drop (suc n) ps
drop_and_rest zero m n [] e = drop_all n [] (omega arith)
drop_and_rest zero m n (x ∷ ps) e = refl
drop_and_rest (suc r) m zero ps e = absurd (omega arith)
drop_and_rest (suc r) m (suc n) [] e = refl
drop_and_rest (suc r) m (suc n) (x ∷ ps) e = ap (λ l. x ∷ l) (drop_and_rest r m n ps (omega arith))

places_exchanged : (ps : List ℕ) (is : List Instr) (gone : List Bool) (places : List Place) (r n : ℕ) → n ≡ r + length ps → length is ≤ length ps → AreKeptFrom gone places r ps →
    kept (marks_after ps is gone) (places_after ps is places) ≡ take r (kept gone places) ++ (map plain is ++ drop n (kept gone places))
places_exchanged [] [] gone places r n e l a = sym (take-append-drop r (kept gone places)) ∙ ap (λ k. take r (kept gone places) ++ drop k (kept gone places)) (let f : r ≡ n = omega arith in f)
places_exchanged [] (i ∷ is) gone places r n e l a = absurd (omega arith)
places_exchanged (p ∷ ps) [] gone places r n e l a =
    let m : ℕ = r + length ps in
    let k : kept (set gone p true) (set places p nop) ≡ take r (kept gone places) ++ drop (suc r) (kept gone places) = subst (λ j. kept (set gone p true) (set places p nop) ≡ take j (kept gone places) ++ drop (suc j) (kept gone places)) a.2 (kept_drop gone places p nop a.0 a.1 (op_within places p a.3)) in
    places_exchanged ps [] (set gone p true) (set places p nop) r m refl (omega arith) (kept_from_drop gone places p r _ ps a.0 a.1 (omega (arith, a.2)) a.4)
    ∙ ap (λ l. take r l ++ drop m l) k
    ∙ drop_and_rest r (length ps) m (kept gone places) refl
    ∙ ap (λ j. take r (kept gone places) ++ drop j (kept gone places)) (let f : suc m ≡ n = omega arith in f)
places_exchanged (p ∷ ps) (i ∷ is) gone places r n e l a =
    let k : kept gone (set places p (plain i)) ≡ take r (kept gone places) ++ (plain i ∷ drop (suc r) (kept gone places)) = subst (λ j. kept gone (set places p (plain i)) ≡ take j (kept gone places) ++ (plain i ∷ drop (suc j) (kept gone places))) a.2 (kept_put gone places p (plain i) a.1 (op_within places p a.3)) in
    places_exchanged ps is gone (set places p (plain i)) (suc r) n (omega arith) (omega arith) (kept_from_put gone places p (suc r) i ps a.4)
    ∙ ap (λ l. take (suc r) l ++ (map plain is ++ drop n l)) k
    ∙ put_and_rest (plain i) (map plain is) r (length ps) n (kept gone places) (omega arith)

-- a place outside the window moves as the replacement moves it
pub move_step : (r m a b : ℕ) → b ≡ moved r 1 a → moved r m b ≡ moved r (suc m) a
move_step r m a b e = omega arith

pub move_same : (r m k a : ℕ) → (a ≤ r) ⊎ (suc r + m ≤ a) → moved (suc r) (m - k) a ≡ moved r (suc m - suc k) a
move_same r m k a (inl h) = omega arith
move_same r m k a (inr h) = omega arith

ranks_exchanged : (ps : List ℕ) (is : List Instr) (gone : List Bool) (places : List Place) (r q : ℕ) → length is ≤ length ps → AreKeptFrom gone places r ps → (rank gone q ≤ r) ⊎ (r + length ps ≤ rank gone q) →
    rank (marks_after ps is gone) q ≡ moved r (length ps - length is) (rank gone q)
ranks_exchanged [] [] gone places r q l a o = omega arith
ranks_exchanged [] (i ∷ is) gone places r q l a o = absurd (omega arith)
ranks_exchanged (p ∷ ps) [] gone places r q l a o =
    let e : rank (set gone p true) q ≡ moved r 1 (rank gone q) = subst (λ j. rank (set gone p true) q ≡ moved j 1 (rank gone q)) a.2 (rank_drop gone p q a.0 a.1) in
    ranks_exchanged ps [] (set gone p true) (set places p nop) r q (omega arith) (kept_from_drop gone places p r _ ps a.0 a.1 (omega (arith, a.2)) a.4)
    (elim o [ inl h ↦ inl (omega arith) | inr h ↦ inr (let h' : r + suc (length ps) ≤ rank gone q = h in omega arith) ])
    ∙ move_step r (length ps - 0) (rank gone q) (rank (set gone p true) q) e
    ∙ ap (λ j. moved r j (rank gone q)) (let f : suc (length ps - 0) ≡ suc (length ps) - 0 = omega arith in f)
ranks_exchanged (p ∷ ps) (i ∷ is) gone places r q l a o =
    ranks_exchanged ps is gone (set places p (plain i)) (suc r) q (omega arith) (kept_from_put gone places p (suc r) i ps a.4)
    (elim o [ inl h ↦ inl (omega arith) | inr h ↦ inr (let h' : r + suc (length ps) ≤ rank gone q = h in omega arith) ])
    ∙ move_same r (length ps) (length is) (rank gone q) (elim o [ inl h ↦ inl h | inr h ↦ inr (let h' : r + suc (length ps) ≤ rank gone q = h in omega arith) ])

nops_exchanged : (ps : List ℕ) (is : List Instr) (gone : List Bool) (places : List Place) (r : ℕ) → AreKeptFrom gone places r ps → AreNops gone places → AreNops (marks_after ps is gone) (places_after ps is places)
nops_exchanged [] is gone places r a n = n
nops_exchanged (p ∷ ps) [] gone places r a n =
    nops_exchanged ps [] (set gone p true) (set places p nop) r (kept_from_drop gone places p r _ ps a.0 a.1 (omega (arith, a.2)) a.4) (nops_drop gone places p (op_within places p a.3) n)
nops_exchanged (p ∷ ps) (i ∷ is) gone places r a n =
    nops_exchanged ps is gone (set places p (plain i)) (suc r) (kept_from_put gone places p (suc r) i ps a.4) (nops_put gone places p (plain i) a.1 n)

-- an instruction stood where a place is gone afterwards
gone_op : (ps : List ℕ) (is : List Instr) (gone : List Bool) (places : List Place) (r q : ℕ) → AreKeptFrom gone places r ps → AreNops gone places → is_gone (marks_after ps is gone) q ≡ true → is_op_place (slice_get places q) ≡ true
gone_op [] is gone places r q a n t = ap is_op_place (n q t)
gone_op (p ∷ ps) [] gone places r q a n t =
    op_unset places p q nop a.3 (gone_op ps [] (set gone p true) (set places p nop) r q (kept_from_drop gone places p r _ ps a.0 a.1 (omega (arith, a.2)) a.4) (nops_drop gone places p (op_within places p a.3) n) t)
gone_op (p ∷ ps) (i ∷ is) gone places r q a n t =
    op_unset places p q (plain i) a.3 (gone_op ps is gone (set places p (plain i)) (suc r) q (kept_from_put gone places p (suc r) i ps a.4) (nops_put gone places p (plain i) a.1 n) t)

-- ---- the whole ----

labels_same : (name : List ℕ) (a b : ℕ) (ls ms : List Label) → a ≡ b → ls ≡ ms → (let z : List Label = record { name = name; place = a } ∷ ls in z) ≡ record { name = name; place = b } ∷ ms
labels_same name a b ls ms e f = cc

labels_exchanged : (gone after : List Bool) (r g : ℕ) (ls : List Label) → ((k : ℕ) (l : Label) → slice_get ls k ≡ Some l → rank after l.place ≡ moved r g (rank gone l.place)) → map (move_label r g) (map (ranked gone) ls) ≡ map (ranked after) ls
labels_exchanged gone after r g [] h = refl
labels_exchanged gone after r g (l ∷ ls) h = labels_same l.name _ _ _ _ (sym (h 0 l refl)) (labels_exchanged gone after r g ls (λ k m e. h (suc k) m e))

module _ (gone : List Bool) (padded code : Code) (s : IsPadded gone padded code) (r : ℕ) (ps : List ℕ) (is : List Instr) (w : GivesWay gone padded code r ps is) where
  label_moves : (k : ℕ) (l : Label) → slice_get padded.labels k ≡ Some l → rank (marks_after ps is gone) l.place ≡ moved r (length ps - length is) (rank gone l.place)
  label_moves k l e = ranks_exchanged ps is gone padded.places r l.place w.no_longer w.kept (w.unlabelled k (ranked gone l) (label_in gone padded code s k l e))

  pub stays_padded : IsPadded (marks_after ps is gone) (exchanged ps is padded) (replaced code r (length ps) is)
  stays_padded = record {
    nops = nops_exchanged ps is gone padded.places r w.kept s.nops;
    places = ap (λ (l : List Place). take r l ++ (map plain is ++ drop (r + length ps) l)) s.places ∙ sym (places_exchanged ps is gone padded.places r (r + length ps) refl w.no_longer w.kept);
    labels = ap (map (move_label r (length ps - length is))) s.labels ∙ labels_exchanged gone (marks_after ps is gone) r (length ps - length is) padded.labels label_moves;
    still_code = λ k l e t.
        let op : is_code padded.places l ≡ true = gone_op ps is gone padded.places r l.place w.kept s.nops t in
        ap (λ q. is_op_place (slice_get (replaced code r (length ps) is).places q)) (label_moves k l e)
        ∙ w.labels_stay k (ranked gone l) (label_in gone padded code s k l e) (code_alike gone padded code s k l e ∙ op);
  }

-- ---- another instruction ----

kept_set : (gone : List Bool) (ps : List Place) (p : ℕ) (y : Place) → is_gone gone p ≡ false → set (kept gone ps) (rank gone p) y ≡ kept gone (set ps p y)
kept_set [] ps p y g = refl
kept_set (b ∷ gs) [] p y g = refl
kept_set (true ∷ gs) (x ∷ ps) zero y g = absurd (cc)
kept_set (false ∷ gs) (x ∷ ps) zero y g = refl
kept_set (true ∷ gs) (x ∷ ps) (suc p) y g = kept_set gs ps p y g
kept_set (false ∷ gs) (x ∷ ps) (suc p) y g = ap (λ l. x ∷ l) (kept_set gs ps p y g)

pub put_stays : (gone : List Bool) (padded code : Code) → IsPadded gone padded code → (p : ℕ) (y : Place) → is_gone gone p ≡ false → is_op_place (Some y) ≡ true → IsPadded gone (put_at p y padded) (put_at (rank gone p) y code)
put_stays gone padded code s p y g o = record {
  nops = nops_put gone padded.places p y g s.nops;
  places = ap (λ (l : List Place). set l (rank gone p) y) s.places ∙ kept_set gone padded.places p y g;
  labels = s.labels;
  still_code = λ k l e t. op_set code.places (rank gone p) (rank gone l.place) y o (s.still_code k l e t);
}

-- ---- nothing gone ----

rank_whole : (gone : List Bool) → ((p : ℕ) → is_gone gone p ≡ false) → (p : ℕ) → rank gone p ≡ p
rank_whole [] h p = refl
rank_whole (g ∷ gs) h zero = refl
rank_whole (true ∷ gs) h (suc p) = absurd (let f : true ≡ false = h 0 in cc)
rank_whole (false ∷ gs) h (suc p) = ap suc (rank_whole gs (λ q. h (suc q)) p)

kept_whole : (gone : List Bool) → ((p : ℕ) → is_gone gone p ≡ false) → (ps : List Place) → ps ≡ kept gone ps
kept_whole [] h ps = refl
kept_whole (g ∷ gs) h [] = refl
kept_whole (true ∷ gs) h (x ∷ ps) = absurd (let f : true ≡ false = h 0 in cc)
kept_whole (false ∷ gs) h (x ∷ ps) = ap (λ l. x ∷ l) (kept_whole gs (λ q. h (suc q)) ps)

labels_whole : (gone : List Bool) → ((p : ℕ) → is_gone gone p ≡ false) → (ls : List Label) → ls ≡ map (ranked gone) ls
labels_whole gone h [] = refl
labels_whole gone h (l ∷ ls) = labels_same l.name _ _ _ _ (sym (rank_whole gone h l.place)) (labels_whole gone h ls)

pub whole_padded : (gone : List Bool) (code : Code) → ((p : ℕ) → is_gone gone p ≡ false) → IsPadded gone code code
whole_padded gone code h = record {
  nops = λ p t. absurd (let f = h p in cc);
  places = kept_whole gone h code.places;
  labels = labels_whole gone h code.labels;
  still_code = λ k l e t. absurd (let f = h l.place in cc);
}
