-- Alignment lines between the instructions of a window, where other instructions give way before it or behind it.
use Rattle.std.proofs.Common.{◌≡◌, ℕ, zero, suc, ◌+◌, ◌-◌, ◌<◌, ◌≤◌, ◌==◌, ◌&&◌, Bool, true, false, List, [], ◌∷◌, ◌++◌, length, drop, map, refl, sym, ap, ◌∙◌, subst, arith, ne_eqb, if◌then◌else◌}
use Rattle.std.proofs.lemmas.Bool.{eqb-true, and_parts}
use Rattle.thumb_instr.specs.declared.instr.Instr.{Instr}
use Rattle.thumb_model.specs.Listing.{Name, Statement, Nothing, Instruction, Words, Aligns, Sets, ListingLine, Place, places_in, places_of}
use Rattle.thumb_model.specs.Replaced.{is_op, is_align, without, labels_kept, new_line, replaced_lines, are_joined, are_joined_from}
use Rattle.thumb_model.specs.Cuts.{AreOps}
use Rattle.thumb_model.proofs.Cuts.{op_takes as one_place}
use Rattle.listing_parser.proofs.ReplacedTargets.{op_next as op_line}

-- ---- the places of a line ----

-- a line of a window is an instruction's, or has no place
other_line : (n : ℕ) (s : Statement) (ps : List Place) → is_op s ≡ false → AreOps (suc n) (places_in s ++ ps) → places_in s ≡ []
other_line n Nothing ps e h = refl
other_line n (Instruction i m) ps e h = absurd (cc)
other_line n (Words []) ps e h = refl
other_line n (Words (v ∷ vs)) ps e h = absurd h
other_line n (Aligns size most) ps e h = refl
other_line n (Sets name address) ps e h = refl

-- the place at q isn't within a line that isn't an instruction's
not_within : (q n : ℕ) (s : Statement) (ps : List Place) → is_op s ≡ false → AreOps (suc n) (drop q (places_in s ++ ps)) → length (places_in s) ≤ q
not_within q n Nothing ps e h = omega arith
not_within q n (Instruction i m) ps e h = absurd (cc)
not_within q n (Aligns size most) ps e h = omega arith
not_within q n (Sets name address) ps e h = omega arith
not_within q n (Words []) ps e h = omega arith
not_within zero n (Words (v ∷ vs)) ps e h = absurd h
not_within (suc q) n (Words (v ∷ vs)) ps e h = let r = not_within q n (Words vs) ps refl h in omega arith

-- the places from q on, past a line
past : (q n : ℕ) (xs ps : List Place) → AreOps n (drop q (xs ++ ps)) → length xs ≤ q → AreOps n (drop (q - length xs) ps)
past q n [] ps h l = subst (λ k. AreOps n (drop k ps)) (let e : q ≡ q - 0 = omega arith in e) h
past zero n (x ∷ xs) ps h l = absurd (omega arith)
past (suc q) n (x ∷ xs) ps h l = subst (λ k. AreOps n (drop k ps)) (let e : q - length xs ≡ suc q - suc (length xs) = omega arith in e) (past q n xs ps h (omega arith))

-- a line before the place at q ends no later
within : (q n : ℕ) (l : ListingLine) (ps : List Place) → AreOps (suc n) (drop q (places_in l.statement ++ ps)) → ((is_op l.statement && (q == 0)) ≡ false) → length (places_in l.statement) ≤ q
within q n l ps h e = by (is_op l.statement) refl
  where
    some : (q : ℕ) → (true && (q == 0)) ≡ false → 1 ≤ q
    some zero f = absurd (cc)
    some (suc q) f = omega arith

    by : (b : Bool) → is_op l.statement ≡ b → length (places_in l.statement) ≤ q
    by true f = let one = one_place l.statement f in let s = some q (ap (λ c. c && (q == 0)) (sym f) ∙ e) in omega arith
    by false f = not_within q n l.statement ps f h

-- whether the window begins at a line
is_here : (q : ℕ) (s : Statement) (b : Bool) → is_op s ≡ b → 0 < q → (is_op s && (q == 0)) ≡ false
is_here q s true e h = ap (λ c. c && (q == 0)) e ∙ ne_eqb q 0 (λ z. omega arith)
is_here q s false e h = ap (λ c. c && (q == 0)) e

pub not_here : (q : ℕ) (s : Statement) → 0 < q → (is_op s && (q == 0)) ≡ false
not_here q s h = is_here q s (is_op s) refl h

cases : (b : Bool) {P : Type 0} → (b ≡ true → P) → (b ≡ false → P) → P
cases true f g = f refl
cases false f g = g refl

-- how a line is passed
pub passes : (q n : ℕ) (l : ListingLine) (ls : List ListingLine) → (is_op l.statement && (q == 0)) ≡ false → are_joined_from q n (l ∷ ls) ≡ are_joined_from (q - length (places_in l.statement)) n ls
passes q n l ls e = ap (λ b. if b then are_joined (n - 1) ls else are_joined_from (q - length (places_in l.statement)) n ls) e

begins : (n : ℕ) (l : ListingLine) (ls : List ListingLine) → is_op l.statement ≡ true → are_joined_from 0 n (l ∷ ls) ≡ are_joined (n - 1) ls
begins n l ls e = ap (λ b. if b && true then are_joined (n - 1) ls else are_joined_from (0 - length (places_in l.statement)) n ls) e

keeps_line : (write : Instr → List ℕ) (p c : ℕ) (is : List Instr) (l : ListingLine) (ls : List ListingLine) → (is_op l.statement && (p == 0)) ≡ false → replaced_lines write p c is (l ∷ ls) ≡ l ∷ replaced_lines write (p - length (places_in l.statement)) c is ls
keeps_line write p c is l ls e = ap (λ b. if b then labels_kept l l.names ++ (map (new_line write) is ++ without (c - 1) ls) else l ∷ replaced_lines write (p - length (places_in l.statement)) c is ls) e

-- ---- a window before ----

joined_op : (n : ℕ) (l : ListingLine) (ls : List ListingLine) → is_op l.statement ≡ true → are_joined (suc n) (l ∷ ls) ≡ are_joined n ls
joined_op n l ls e = ap (λ b. if b then are_joined n ls else (if is_align l.statement then false else are_joined (suc n) ls)) e

joined_other : (n : ℕ) (l : ListingLine) (ls : List ListingLine) → is_op l.statement ≡ false → are_joined (suc n) (l ∷ ls) ≡ (if is_align l.statement then false else are_joined (suc n) ls)
joined_other n l ls e = ap (λ b. if b then are_joined n ls else (if is_align l.statement then false else are_joined (suc n) ls)) e

-- the next k instructions come before those that give way
near_before : (write : Instr → List ℕ) (p c : ℕ) (is : List Instr) (k : ℕ) (ls : List ListingLine) → k ≤ p → AreOps k (places_of ls) → are_joined k (replaced_lines write p c is ls) ≡ are_joined k ls
near_before write p c is zero [] h a = refl
near_before write p c is zero (l ∷ ls) h a = refl
near_before write p c is (suc k) [] h a = absurd a
near_before write p c is (suc k) (l ∷ ls) h a =
    let kept = keeps_line write p c is l ls (not_here p l.statement (omega arith)) in
    ap (are_joined (suc k)) kept ∙ cases (is_op l.statement)
    (λ e.
    let one = one_place l.statement e in
    joined_op k l (replaced_lines write (p - length (places_in l.statement)) c is ls) e
    ∙ near_before write (p - length (places_in l.statement)) c is k ls (omega arith) (op_line k l.statement (places_of ls) e a)
    ∙ sym (joined_op k l ls e))
    (λ e.
    let none = other_line k l.statement (places_of ls) e a in
    let long : length (places_in l.statement) ≡ 0 = ap (λ (ps : List Place). length ps) none in
    joined_other k l (replaced_lines write (p - length (places_in l.statement)) c is ls) e
    ∙ ap (λ b. if is_align l.statement then false else b) (near_before write (p - length (places_in l.statement)) c is (suc k) ls (omega arith) (subst (λ (ps : List Place). AreOps (suc k) (ps ++ places_of ls)) none a))
    ∙ sym (joined_other k l ls e))

-- those of a window that ends before them
pub joined_before : (write : Instr → List ℕ) (p c : ℕ) (is : List Instr) (q n : ℕ) (ls : List ListingLine) → q + suc n ≤ p → AreOps (suc n) (drop q (places_of ls)) → are_joined_from q (suc n) (replaced_lines write p c is ls) ≡ are_joined_from q (suc n) ls
joined_before write p c is q n [] h a = refl
joined_before write p c is q n (l ∷ ls) h a =
    let kept = keeps_line write p c is l ls (not_here p l.statement (omega arith)) in
    let rest : List ListingLine = replaced_lines write (p - length (places_in l.statement)) c is ls in
    ap (are_joined_from q (suc n)) kept ∙ cases (is_op l.statement && (q == 0))
    (λ e.
    let b = and_parts (is_op l.statement) (q == 0) e in
    let first : q ≡ 0 = eqb-true q 0 b.1 in
    let one = one_place l.statement b.0 in
    let here : AreOps (suc n) (places_in l.statement ++ places_of ls) = subst (λ k. AreOps (suc n) (drop k (places_in l.statement ++ places_of ls))) first a in
    let m : suc n - 1 ≡ n = omega arith in
    ap (λ k. are_joined_from k (suc n) (l ∷ rest)) first ∙ begins (suc n) l rest b.0 ∙ ap (λ k. are_joined k rest) m
    ∙ near_before write (p - length (places_in l.statement)) c is n ls (omega arith) (op_line n l.statement (places_of ls) b.0 here)
    ∙ sym (ap (λ k. are_joined_from k (suc n) (l ∷ ls)) first ∙ begins (suc n) l ls b.0 ∙ ap (λ k. are_joined k ls) m))
    (λ e.
    let w = within q n l (places_of ls) a e in
    passes q (suc n) l rest e
    ∙ joined_before write (p - length (places_in l.statement)) c is (q - length (places_in l.statement)) n ls (omega arith) (past q (suc n) (places_in l.statement) (places_of ls) a w)
    ∙ sym (passes q (suc n) l ls e))

-- ---- a window behind ----

-- past instructions that go
past_gone : (q j n : ℕ) (ls : List ListingLine) → j ≤ q → AreOps j (places_of ls) → are_joined_from (q - j) n (without j ls) ≡ are_joined_from q n ls
past_gone q j n [] h a = refl
past_gone q zero n (l ∷ ls) h a = ap (λ k. are_joined_from k n (l ∷ ls)) (let e : q - 0 ≡ q = omega arith in e)
past_gone q (suc j) n (l ∷ ls) h a = cases (is_op l.statement)
    (λ e.
    let one = one_place l.statement e in
    ap (λ b. are_joined_from (q - suc j) n (if b then without j ls else l ∷ without (suc j) ls)) e
    ∙ ap (λ k. are_joined_from k n (without j ls)) (let f : q - suc j ≡ q - 1 - j = omega arith in f)
    ∙ past_gone (q - 1) j n ls (omega arith) (op_line j l.statement (places_of ls) e a)
    ∙ ap (λ k. are_joined_from (q - k) n ls) (sym one)
    ∙ sym (passes q n l ls (not_here q l.statement (omega arith))))
    (λ e.
    let none = other_line j l.statement (places_of ls) e a in
    let long : length (places_in l.statement) ≡ 0 = ap (λ (ps : List Place). length ps) none in
    let not : (k : ℕ) → (is_op l.statement && (k == 0)) ≡ false = λ k. ap (λ b. b && (k == 0)) e in
    ap (λ b. are_joined_from (q - suc j) n (if b then without j ls else l ∷ without (suc j) ls)) e
    ∙ passes (q - suc j) n l (without (suc j) ls) (not (q - suc j))
    ∙ ap (λ k. are_joined_from k n (without (suc j) ls)) (let f : q - suc j - length (places_in l.statement) ≡ q - suc j = omega arith in f)
    ∙ past_gone q (suc j) n ls h (subst (λ (ps : List Place). AreOps (suc j) (ps ++ places_of ls)) none a)
    ∙ ap (λ k. are_joined_from k n ls) (let f : q ≡ q - length (places_in l.statement) = omega arith in f)
    ∙ sym (passes q n l ls (not q)))

-- past labels and new instructions
past_labels : (q n : ℕ) (l : ListingLine) (names : List Name) (ls : List ListingLine) → are_joined_from q n (labels_kept l names ++ ls) ≡ are_joined_from q n ls
past_labels q n l [] ls = refl
past_labels q n l (m ∷ ms) ls = ap (λ k. are_joined_from k n ls) (let e : q - 0 ≡ q = omega arith in e)

past_new : (write : Instr → List ℕ) (q n : ℕ) (is : List Instr) (ls : List ListingLine) → length is ≤ q → are_joined_from q n (map (new_line write) is ++ ls) ≡ are_joined_from (q - length is) n ls
past_new write q n [] ls h = ap (λ k. are_joined_from k n ls) (let e : q ≡ q - 0 = omega arith in e)
past_new write q n (i ∷ is) ls h =
    passes q n (new_line write i) (map (new_line write) is ++ ls) (not_here q (new_line write i).statement (omega arith))
    ∙ past_new write (q - 1) n is ls (omega arith)
    ∙ ap (λ k. are_joined_from k n ls) (let e : q - 1 - length is ≡ q - suc (length is) = omega arith in e)

-- those of a window that begins behind the instructions that give way
pub joined_behind : (write : Instr → List ℕ) (p c : ℕ) (is : List Instr) (q r n : ℕ) (ls : List ListingLine) → p + suc c ≤ q → r + suc c ≡ q + length is → AreOps (suc c) (drop p (places_of ls))
    → are_joined_from r n (replaced_lines write p (suc c) is ls) ≡ are_joined_from q n ls
joined_behind write p c is q r n [] h e a = refl
joined_behind write p c is q r n (l ∷ ls) h e a = cases (is_op l.statement && (p == 0))
    (λ t.
    let b = and_parts (is_op l.statement) (p == 0) t in
    let first : p ≡ 0 = eqb-true p 0 b.1 in
    let one = one_place l.statement b.0 in
    let here : AreOps (suc c) (places_in l.statement ++ places_of ls) = subst (λ k. AreOps (suc c) (drop k (places_in l.statement ++ places_of ls))) first a in
    ap (λ b. are_joined_from r n (if b then labels_kept l l.names ++ (map (new_line write) is ++ without (suc c - 1) ls) else l ∷ replaced_lines write (p - length (places_in l.statement)) (suc c) is ls)) t
    ∙ past_labels r n l l.names (map (new_line write) is ++ without (suc c - 1) ls)
    ∙ past_new write r n is (without (suc c - 1) ls) (omega arith)
    ∙ ap (λ k. are_joined_from (r - length is) n (without k ls)) (let f : suc c - 1 ≡ c = omega arith in f)
    ∙ ap (λ k. are_joined_from k n (without c ls)) (let f : r - length is ≡ q - 1 - c = omega arith in f)
    ∙ past_gone (q - 1) c n ls (omega arith) (op_line c l.statement (places_of ls) b.0 here)
    ∙ ap (λ k. are_joined_from (q - k) n ls) (sym one)
    ∙ sym (passes q n l ls (not_here q l.statement (omega arith))))
    (λ t.
    let w = within p c l (places_of ls) a t in
    let m : ℕ = length (places_in l.statement) in
    ap (are_joined_from r n) (keeps_line write p (suc c) is l ls t)
    ∙ passes r n l (replaced_lines write (p - m) (suc c) is ls) (behind (is_op l.statement) refl t)
    ∙ joined_behind write (p - m) c is (q - m) (r - m) n ls (omega arith) (omega arith) (past p (suc c) (places_in l.statement) (places_of ls) a w)
    ∙ sym (passes q n l ls (not_here q l.statement (omega arith))))
  where
    some : (p : ℕ) → (true && (p == 0)) ≡ false → 1 ≤ p
    some zero f = absurd (cc)
    some (suc p) f = omega arith

    behind : (b : Bool) → is_op l.statement ≡ b → (is_op l.statement && (p == 0)) ≡ false → (is_op l.statement && (r == 0)) ≡ false
    behind true f t = let s = some p (ap (λ c. c && (p == 0)) (sym f) ∙ t) in not_here r l.statement (omega arith)
    behind false f t = ap (λ c. c && (r == 0)) f
