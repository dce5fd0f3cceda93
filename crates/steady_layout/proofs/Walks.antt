-- Two layouts of lines side by side: one in which all is nearer than in the other.
use Rattle.std.proofs.Common.{◌≡◌, ◌⊎◌, inl, inr, ℕ, ◌+◌, ◌<◌, ◌≤◌, ◌==◌, ◌&&◌, Bool, true, false, List, [], ◌∷◌, ◌++◌, Option, Some, None, refl, arith, if◌then◌else◌}
use Rattle.std.proofs.lemmas.Bool.{cases_Bool, and_parts, and_from}
use Rattle.thumb_instr.specs.declared.instr.Instr.{Instr}
use Rattle.thumb_model.specs.Listing.{Name, Mention, Statement, Instruction, Aligns, ListingLine}
use Rattle.thumb_model.specs.Layout.{instr_size, is_among}
use Rattle.steady_layout.specs.declared.starts.Start.{Start}
use Rattle.steady_layout.specs.Steady.{ends_aligned, steady_instr, steady_at}
use Rattle.steady_layout.proofs.Nearer.{IsWithin, IsBack, IsAhead, Meets, aim_stays}

-- ---- layouts by how many bytes a statement takes at an address ----

abbrev pub Sizes : Type 0
Sizes = Statement → ℕ → ℕ

abbrev pub after : Sizes → Start → Statement → Start
after size here s = record { at = here.at + size s here.at; aligned = ends_aligned here.aligned s }

abbrev pub look : Sizes → Name → Start → List ListingLine → Option Start
look size name here [] = None
look size name here (l ∷ ls) = if is_among name l.names then Some here else look size name (after size here l.statement) ls

abbrev pub ending : Sizes → Start → List ListingLine → Start
ending size here [] = here
ending size here (l ∷ ls) = ending size (after size here l.statement) ls

abbrev pub steady_by : Sizes → (Name → Option Start) → (Name → Option ℕ) → ℕ → Start → List ListingLine → Bool
steady_by size labels sets base here [] = true
steady_by size labels sets base here (l ∷ ls) = steady_at labels sets base here l.statement && steady_by size labels sets base (after size here l.statement) ls

-- each statement takes no more bytes in the one than in the other, wherever it lies, and each instruction takes some
pub record AreLess (so sn : Sizes) : Type 0 where
  pub less : (s : Statement) (a b : ℕ) → sn s b ≤ so s a
  pub some_old : (i : Instr) (m : Option Mention) (a : ℕ) → 0 < so (Instruction i m) a
  pub some_new : (i : Instr) (m : Option Mention) (a : ℕ) → 0 < sn (Instruction i m) a

-- ---- one line ----

pub ends_within : (s : Statement) (x y : Bool) → (x ≡ true → y ≡ true) → ends_aligned x s ≡ true → ends_aligned y s ≡ true
ends_within (Instruction i m) x y h e = let p = and_parts x (instr_size i == 4) e in and_from y (instr_size i == 4) (h p.0) p.1
ends_within (Aligns size most) x y h e = e
ends_within s x y h e = h e

pub step_within : (so sn : Sizes) → AreLess so sn → (o n : Start) (s : Statement) → IsWithin o n → IsWithin (after so o s) (after sn n s)
step_within so sn l o n s w = record {
  at = let h = l.less s o.at n.at in let k = w.at in omega arith;
  aligned = ends_within s o.aligned n.aligned w.aligned;
}

-- a later pair of starts, which lies no further apart
pub record IsLater (o n p q : Start) : Type 0 where
  pub old : o.at ≤ p.at
  pub new : n.at ≤ q.at
  pub nearer : q.at + o.at ≤ p.at + n.at

pub step_later : (so sn : Sizes) → AreLess so sn → (o n : Start) (s : Statement) → IsLater o n (after so o s) (after sn n s)
step_later so sn l o n s = record { old = omega arith; new = omega arith; nearer = let h = l.less s o.at n.at in omega arith }

pub back_later : (o n p q a b : Start) → IsLater o n p q → IsBack o n a b → IsBack p q a b
back_later o n p q a b l k = record {
  old = let x = l.old in let y = k.old in omega arith;
  new = let x = l.new in let y = k.new in omega arith;
  nearer = let x = l.nearer in let y = k.nearer in omega arith;
}

-- ---- what lies ahead ----

abbrev pub Ahead : Start → Start → Option Start → Option Start → Type 0
Ahead o n None None = Unit {0}
Ahead o n None (Some b) = ⊥
Ahead o n (Some a) None = ⊥
Ahead o n (Some a) (Some b) = IsAhead o n a b

pub ahead_earlier : (o n p q : Start) (a b : Option Start) → IsLater o n p q → Ahead p q a b → Ahead o n a b
ahead_earlier o n p q None None l h = tt
ahead_earlier o n p q None (Some b) l h = absurd h
ahead_earlier o n p q (Some a) None l h = absurd h
ahead_earlier o n p q (Some a) (Some b) l h = record {
  old = let x = l.old in let y = h.old in omega arith;
  new = let x = l.new in let y = h.new in omega arith;
  nearer = let x = l.nearer in let y = h.nearer in omega arith;
  aligned = h.aligned;
}

past_of : (o n p q : Start) (a b : Option Start) → IsLater o n p q → o.at < p.at → n.at < q.at → Ahead p q a b → Meets o n a b
past_of o n p q None None l f g h = tt
past_of o n p q None (Some b) l f g h = absurd h
past_of o n p q (Some a) None l f g h = absurd h
past_of o n p q (Some a) (Some b) l f g h = inr (record {
  old = let y = h.old in omega arith;
  new = let y = h.new in omega arith;
  nearer = let x = l.nearer in let y = h.nearer in omega arith;
  aligned = h.aligned;
})

pub here_back : (o n : Start) → IsBack o n o n
here_back o n = record { old = omega arith; new = omega arith; nearer = omega arith }

-- what follows the lines, in each of the two, lies ahead wherever it begins
abbrev pub Tails : Sizes → Sizes → List ListingLine → List ListingLine → Type 0
Tails so sn to tn = (name : Name) (o n : Start) → IsWithin o n → Ahead o n (look so name o to) (look sn name n tn)

pub no_tails : (so sn : Sizes) → Tails so sn [] []
no_tails so sn name o n w = tt

pub ahead : (so sn : Sizes) → AreLess so sn → (to tn : List ListingLine) → Tails so sn to tn → (rest : List ListingLine) → Tails so sn (rest ++ to) (rest ++ tn)
ahead so sn less to tn t [] name o n w = t name o n w
ahead so sn less to tn t (l ∷ ls) name o n w = elim (cases_Bool (is_among name l.names)) [
  | inl h ↦ rw h (record { old = omega arith; new = omega arith; nearer = omega arith; aligned = w.aligned })
  | inr h ↦ rw h (ahead_earlier o n (after so o l.statement) (after sn n l.statement) _ _ (step_later so sn less o n l.statement) (ahead so sn less to tn t ls name (after so o l.statement) (after sn n l.statement) (step_within so sn less o n l.statement w)))
]

-- ---- what is known of names: they lie back, or in what is left ----

abbrev pub Back : Start → Start → Option Start → Option Start → Type 0
Back o n None b = ⊥
Back o n (Some a) None = ⊥
Back o n (Some a) (Some b) = IsBack o n a b

pub backs_later : (o n p q : Start) (a b : Option Start) → IsLater o n p q → Back o n a b → Back p q a b
backs_later o n p q None b l h = absurd h
backs_later o n p q (Some a) None l h = absurd h
backs_later o n p q (Some a) (Some b) l h = back_later o n p q a b l h

back_meets : (o n : Start) (a b : Option Start) → Back o n a b → Meets o n a b
back_meets o n None b h = absurd h
back_meets o n (Some a) None h = absurd h
back_meets o n (Some a) (Some b) h = inl h

abbrev pub Known : Sizes → Sizes → (Name → Option Start) → (Name → Option Start) → Start → Start → List ListingLine → List ListingLine → Type 0
Known so sn lo ln o n ro rn = (name : Name) → Back o n (lo name) (ln name) ⊎ ((lo name ≡ look so name o ro) × (ln name ≡ look sn name n rn))

-- behind a line
known_step : (so sn : Sizes) → AreLess so sn → (lo ln : Name → Option Start) (o n : Start) (l : ListingLine) (ro rn : List ListingLine) → Known so sn lo ln o n (l ∷ ro) (l ∷ rn)
    → Known so sn lo ln (after so o l.statement) (after sn n l.statement) ro rn
known_step so sn less lo ln o n l ro rn k name = elim (k name) [
  | inl b ↦ inl (backs_later o n (after so o l.statement) (after sn n l.statement) (lo name) (ln name) (step_later so sn less o n l.statement) b)
  | inr e ↦ elim (cases_Bool (is_among name l.names)) [
    | inl h ↦
        let old : lo name ≡ Some o = rw h at e.0 in
        let new : ln name ≡ Some n = rw h at e.1 in
        inl (rw (old, new) (back_later o n (after so o l.statement) (after sn n l.statement) o n (step_later so sn less o n l.statement) (here_back o n)))
    | inr h ↦
        let old : lo name ≡ look so name (after so o l.statement) ro = rw h at e.0 in
        let new : ln name ≡ look sn name (after sn n l.statement) rn = rw h at e.1 in
        inr (old, new)
  ]
]

-- what an instruction mentions is nearer
meets_at : (so sn : Sizes) → AreLess so sn → (lo ln : Name → Option Start) (o n : Start) (l : ListingLine) (i : Instr) (m : Option Mention) (ro rn : List ListingLine) → l.statement ≡ Instruction i m → IsWithin o n → Tails so sn ro rn
    → Known so sn lo ln o n (l ∷ ro) (l ∷ rn) → (name : Name) → Meets o n (lo name) (ln name)
meets_at so sn less lo ln o n l i m ro rn is w t k name = elim (k name) [
  | inl b ↦ back_meets o n (lo name) (ln name) b
  | inr e ↦ elim (cases_Bool (is_among name l.names)) [
    | inl h ↦
        let old : lo name ≡ Some o = rw h at e.0 in
        let new : ln name ≡ Some n = rw h at e.1 in
        rw (old, new) (inl (here_back o n))
    | inr h ↦
        let old : lo name ≡ look so name (after so o (Instruction i m)) ro = rw (h, is) at e.0 in
        let new : ln name ≡ look sn name (after sn n (Instruction i m)) rn = rw (h, is) at e.1 in
        let further = less.some_old i m o.at in
        let behind = less.some_new i m n.at in
        rw (old, new) (past_of o n (after so o (Instruction i m)) (after sn n (Instruction i m)) _ _ (step_later so sn less o n (Instruction i m)) (omega arith) (omega arith) (t name (after so o (Instruction i m)) (after sn n (Instruction i m)) (step_within so sn less o n (Instruction i m) w)))
  ]
]

instr_stays : (lo ln : Name → Option Start) (zo zn : Name → Option ℕ) (base : ℕ) (o n : Start) (i : Instr) (m : Option Mention) → ((name : Name) → zo name ≡ zn name) → base ≤ n.at → IsWithin o n
    → ((name : Name) → Meets o n (lo name) (ln name)) → steady_instr lo zo base o i m ≡ true → steady_instr ln zn base n i m ≡ true
instr_stays lo ln zo zn base o n i None z b w h e = refl
instr_stays lo ln zo zn base o n i (Some m) z b w h e = rw (← z m.name) (aim_stays base o n i (lo m.name) (ln m.name) (zo m.name) m.plus b w (h m.name) e)

statement_stays : (lo ln : Name → Option Start) (zo zn : Name → Option ℕ) (base : ℕ) (o n : Start) (s : Statement) → ((name : Name) → zo name ≡ zn name) → base ≤ n.at → IsWithin o n
    → ((i : Instr) (m : Option Mention) → s ≡ Instruction i m → (name : Name) → Meets o n (lo name) (ln name)) → steady_at lo zo base o s ≡ true → steady_at ln zn base n s ≡ true
statement_stays lo ln zo zn base o n (Instruction i m) z b w h e = instr_stays lo ln zo zn base o n i m z b w (h i m refl) e
statement_stays lo ln zo zn base o n s z b w h e = refl

-- ---- lines that both have ----

-- what a walk over lines that both have leads to
pub record IsWalked (so sn : Sizes) (lo ln : Name → Option Start) (zn : Name → Option ℕ) (base : ℕ) (o n : Start) (rest to tn : List ListingLine) : Type 0 where
  pub steady : steady_by sn ln zn base n rest ≡ true
  pub within : IsWithin (ending so o rest) (ending sn n rest)
  pub above : base ≤ (ending sn n rest).at
  pub known : Known so sn lo ln (ending so o rest) (ending sn n rest) to tn

pub walk : (so sn : Sizes) → AreLess so sn → (lo ln : Name → Option Start) (zo zn : Name → Option ℕ) (base : ℕ) → ((name : Name) → zo name ≡ zn name) → (to tn : List ListingLine) → Tails so sn to tn
    → (rest : List ListingLine) (o n : Start) → base ≤ n.at → IsWithin o n → Known so sn lo ln o n (rest ++ to) (rest ++ tn) → steady_by so lo zo base o rest ≡ true → IsWalked so sn lo ln zn base o n rest to tn
walk so sn less lo ln zo zn base z to tn t [] o n b w k e = record { steady = refl; within = w; above = b; known = k }
walk so sn less lo ln zo zn base z to tn t (l ∷ ls) o n b w k e =
    let p = and_parts _ _ e in
    let here = statement_stays lo ln zo zn base o n l.statement z b w (λ i m is. meets_at so sn less lo ln o n l i m (ls ++ to) (ls ++ tn) is w (ahead so sn less to tn t ls) k) p.0 in
    let later = step_later so sn less o n l.statement in
    let up = later.new in
    let r = walk so sn less lo ln zo zn base z to tn t ls (after so o l.statement) (after sn n l.statement) (omega arith) (step_within so sn less o n l.statement w) (known_step so sn less lo ln o n l (ls ++ to) (ls ++ tn) k) p.1 in
    record { steady = and_from _ _ here r.steady; within = r.within; above = r.above; known = r.known }

-- ---- lists put together ----

pub ending_append : (size : Sizes) (here : Start) (xs ys : List ListingLine) → ending size here (xs ++ ys) ≡ ending size (ending size here xs) ys
ending_append size here [] ys = refl
ending_append size here (x ∷ xs) ys = ending_append size (after size here x.statement) xs ys

pub steady_append : (size : Sizes) (labels : Name → Option Start) (sets : Name → Option ℕ) (base : ℕ) (here : Start) (xs ys : List ListingLine)
    → steady_by size labels sets base here (xs ++ ys) ≡ (steady_by size labels sets base here xs && steady_by size labels sets base (ending size here xs) ys)
steady_append size labels sets base here [] ys = refl
steady_append size labels sets base here (x ∷ xs) ys = and_within (steady_at labels sets base here x.statement) _ _ _ (steady_append size labels sets base (after size here x.statement) xs ys)
  where
    and_within : (a b c d : Bool) → b ≡ (c && d) → (a && b) ≡ ((a && c) && d)
    and_within true b c d e = e
    and_within false b c d e = refl
