-- One more fetch or keep, added to what those before it have done.
use Rattle.std.proofs.Common.{◌≡◌, ◌∙◌, ◌+◌, ◌≤◌, inl, inr, ℕ, zero, suc, true, false, List, [], ◌∷◌, ◌++◌, take, length, Some, None, refl, sym, ap, subst, arith, true≢false, Ok, Err}
use Rattle.std.proofs.lemmas.List.{append_assoc}
use Rattle.std.specs.Prelude.{slice_get, if◌then◌else◌, unwrap_or}
use Rattle.std.specs.Str.{bytes_eq}
use Rattle.std.proofs.lemmas.Bool.{cases_Bool}
use Rattle.std.proofs.lemmas.Slice.Eq.{bytes_eq-Decides}
use Rattle.command_runs.specs.declared.status.Status.{Status}
use Rattle.command_runs.specs.declared.status.Status.TheVariants as status
use Rattle.outer_store.specs.declared.StoreError.{StoreError}
use Rattle.outer_store.specs.declared.StoreError.TheVariants as store
use Rattle.outer_store.specs.Outside.{Event, Fetching, Keeping, Sunk, Seen, Held, SameHeld, SameCounts, Rose, MissedAt, TooBigAt, IsTooBig}
use Rattle.outer_store.specs.Answers.{Grows, OthersStay, SinkGrows}
use Rattle.command_runs.specs.Plans.{Keep, IsText, AreTexts, StopsAt, ReadsUpTo, with_text, kept, Kept, fetchings, keepings}
use Rattle.command_runs.specs.Stages.{Reads, Gathers, StoresOne, Stores}

-- ---- from a later state back to an earlier one ----

pub rose_before : (a b c : ℕ) → a ≤ b → Rose b c → Rose a c
rose_before a b c l r = omega arith

pub same_first : (a : Held) → SameHeld a a
same_first a = λ n. refl

pub same_again : (a b c : Held) → SameHeld a b → SameHeld b c → SameHeld a c
same_again a b c p q = λ n. q n ∙ p n

pub counts_first : (a : Seen) → SameCounts a a
counts_first a = record { faults = refl; missing = refl; oversize = refl }

pub counts_again : (a b c : Seen) → SameCounts a b → SameCounts b c → SameCounts a c
counts_again a b c p q = record { faults = q.faults ∙ p.faults; missing = q.missing ∙ p.missing; oversize = q.oversize ∙ p.oversize }

pub grows_first : (a : Seen) → Grows a a
grows_first a = record { tells = refl; may_fail = refl; faults = omega arith; missing = omega arith; oversize = omega arith; steady = λ s. refl }

pub grows_again : (a b c : Seen) → Grows a b → Grows b c → Grows a c
grows_again a b c p q = record {
  tells = q.tells ∙ p.tells;
  may_fail = q.may_fail ∙ p.may_fail;
  faults = omega arith;
  missing = omega arith;
  oversize = omega arith;
  steady = λ s. q.steady (p.may_fail ∙ s) ∙ p.steady s;
}

pub sink_first : (a : Sunk) → SinkGrows a a
sink_first a = record { tells = refl; may_fail = refl; faults = omega arith; steady = λ s. refl }

-- some calls, and then some more
pub called_then : (a b c calls more : List Event) → b ≡ a ++ calls → c ≡ b ++ more → c ≡ a ++ (calls ++ more)
called_then a b c calls more p q = q ∙ (ap (λ (es : List Event). es ++ more) p ∙ append_assoc a calls more)

text_before : (a b : Seen) (name text : List ℕ) → Grows a b → SameHeld a.held b.held → IsText b name text → IsText a name text
text_before a b name text g s h = (h.0, λ t. sym (s name) ∙ h.1 (g.tells ∙ t))

missed_before : (a b c : Seen) (name : List ℕ) → Grows a b → SameHeld a.held b.held → MissedAt b c name → MissedAt a c name
missed_before a b c name g s h = elim (cases_Bool a.tells) [
  | inl t ↦ (let u : b.tells ≡ true = g.tells ∙ t in let k : b.held name ≡ None = rw u at h in rw t (sym (s name) ∙ k))
  | inr t ↦ (let u : b.tells ≡ false = g.tells ∙ t in let k : Rose b.missing c.missing = rw u at h in rw t (rose_before a.missing b.missing c.missing g.missing k))
]

big_before : (a b c : Seen) (name : List ℕ) → Grows a b → SameHeld a.held b.held → TooBigAt b c name → TooBigAt a c name
big_before a b c name g s h = elim (cases_Bool a.tells) [
  | inl t ↦ (let u : b.tells ≡ true = g.tells ∙ t in let k : IsTooBig (b.held name) = rw u at h in rw t (subst IsTooBig (s name) k))
  | inr t ↦ (let u : b.tells ≡ false = g.tells ∙ t in let k : Rose b.oversize c.oversize = rw u at h in rw t (rose_before a.oversize b.oversize c.oversize g.oversize k))
]

-- ---- fetches in a row ----

-- there are as many texts as names
pub as_many_texts : (old : Seen) (ns ts : List (List ℕ)) → AreTexts old ns ts → length ts ≡ length ns
as_many_texts old [] [] h = refl
as_many_texts old [] (t ∷ ts) h = absurd h
as_many_texts old (n ∷ ns) [] h = absurd h
as_many_texts old (n ∷ ns) (t ∷ ts) h = ap suc (as_many_texts old ns ts h.1)

pub texts_more : (old : Seen) (ns ts : List (List ℕ)) (n t : List ℕ) → AreTexts old ns ts → IsText old n t → AreTexts old (ns ++ n ∷ []) (ts ++ t ∷ [])
texts_more old [] [] n t h k = (k, tt)
texts_more old [] (u ∷ us) n t h k = absurd h
texts_more old (m ∷ ms) [] n t h k = absurd h
texts_more old (m ∷ ms) (u ∷ us) n t h k = (h.0, texts_more old ms us n t h.1 k)

take_next : {X : Type 0} (xs : List X) (i j : ℕ) (x : X) → j ≡ suc i → slice_get xs i ≡ Some x → take j xs ≡ take i xs ++ x ∷ []
take_next xs i zero x h e = absurd (omega arith)
take_next [] i (suc j) x h e = absurd (cc)
take_next (y ∷ ys) zero (suc j) x h e = ap (λ (n : ℕ). y ∷ take n ys) (let z : j ≡ 0 = omega arith in z) ∙ ap (λ (z : _). z ∷ []) (let s : y ≡ x = ap (λ o. unwrap_or o y) e in s)
take_next (y ∷ ys) (suc i) (suc j) x h e = ap (λ (zs : _). y ∷ zs) (take_next ys i j x (omega arith) e)

-- one text more
pub gathers_more : (ns ts : List (List ℕ)) (i j : ℕ) (n t : List ℕ) (old mid new : Seen) → slice_get ns i ≡ Some n → j ≡ i + 1 → Grows old mid → SameHeld old.held mid.held
    → AreTexts old (take i ns) ts → IsText mid n t → AreTexts old (take j ns) (ts ++ t ∷ [])
gathers_more ns ts i j n t old mid new e l g s h k =
    subst (λ (xs : List (List ℕ)). AreTexts old xs (ts ++ t ∷ [])) (sym (take_next ns i j n (omega arith) e)) (texts_more old (take i ns) ts n t h (text_before old mid n t g s k))

fetchings_more : (old : Seen) (ns ts : List (List ℕ)) (n t : List ℕ) → AreTexts old ns ts → fetchings (ns ++ n ∷ []) (ts ++ t ∷ []) ≡ fetchings ns ts ++ Fetching n (Ok t) ∷ []
fetchings_more old [] [] n t h = refl
fetchings_more old [] (u ∷ us) n t h = absurd h
fetchings_more old (m ∷ ms) [] n t h = absurd h
fetchings_more old (m ∷ ms) (u ∷ us) n t h = ap (λ (es : List Event). Fetching m (Ok u) ∷ es) (fetchings_more old ms us n t h.1)

-- one fetch more
pub fetched_more : (ns ts : List (List ℕ)) (i j : ℕ) (n t : List ℕ) (old mid new : Seen) → slice_get ns i ≡ Some n → j ≡ i + 1 → AreTexts old (take i ns) ts → mid.events ≡ old.events ++ fetchings (take i ns) ts
    → new.events ≡ mid.events ++ Fetching n (Ok t) ∷ [] → new.events ≡ old.events ++ fetchings (take j ns) (ts ++ t ∷ [])
fetched_more ns ts i j n t old mid new e l h p q =
    called_then old.events mid.events new.events (fetchings (take i ns) ts) (Fetching n (Ok t) ∷ []) p q
    ∙ ap (λ (es : List Event). old.events ++ es) (sym (fetchings_more old (take i ns) ts n t h) ∙ ap (λ (xs : List (List ℕ)). fetchings xs (ts ++ t ∷ [])) (sym (take_next ns i j n (omega arith) e)))

-- the first name without a text
stops_next : (cause : List ℕ → Type 0) (old : Seen) (ns ts : List (List ℕ)) (i : ℕ) (n : List ℕ) → slice_get ns i ≡ Some n → AreTexts old (take i ns) ts → cause n → StopsAt cause old ns
stops_next cause old [] ts i n e h k = absurd (cc)
stops_next cause old (m ∷ ms) ts zero n e h k = inl (let s : m ≡ n = ap (λ o. unwrap_or o m) e in subst cause (sym s) k)
stops_next cause old (m ∷ ms) [] (suc i) n e h k = absurd h
stops_next cause old (m ∷ ms) (t ∷ ts) (suc i) n e h k = inr ((t, h.0), stops_next cause old ms ts i n e h.1 k)

module _ (ns ts : List (List ℕ)) (i : ℕ) (n : List ℕ) (old mid new : Seen) (e : slice_get ns i ≡ Some n) (g : Grows old mid) (s : SameHeld old.held mid.held) (h : AreTexts old (take i ns) ts)
    (m : mid.events ≡ old.events ++ fetchings (take i ns) ts) where
  up_to : (error : StoreError) → new.events ≡ mid.events ++ Fetching n (Err error) ∷ [] → ReadsUpTo error ns old new
  up_to error q = record { number = i; texts = ts; failed = n; read = h; is_next = e; calls = called_then old.events mid.events new.events (fetchings (take i ns) ts) (Fetching n (Err error) ∷ []) m q }

  pub gathers_stop : (s : Status) → Reads n mid new (Err s) → Gathers ns old new (Err s)
  gathers_stop status.StoreFault k = (rose_before old.faults mid.faults new.faults g.faults k.0, up_to store.Failed k.1)
  gathers_stop status.Missing k = (stops_next (λ m. MissedAt old new m) old ns ts i n e h (missed_before old mid new n g s k.0), up_to store.Missing k.1)
  gathers_stop status.TooBig k = (stops_next (λ m. TooBigAt old new m) old ns ts i n e h (big_before old mid new n g s k.0), up_to store.TooBig k.1)
  gathers_stop status.Memory k = inl (up_to store.Memory k)
  gathers_stop status.Done k = k
  gathers_stop status.Refused k = k
  gathers_stop status.Usage k = k
  gathers_stop status.SinkFault k = k

-- ---- keeps in a row ----

pub kept_one : (name bytes : List ℕ) (old new : Seen) → (old.tells ≡ true → new.held name ≡ Some bytes) → OthersStay name old.held new.held → Kept ((name, bytes) ∷ []) old new
kept_one name bytes old new k o = λ t n. elim (cases_Bool (bytes_eq n name)) [
  | inl e ↦ rw e (let same : n ≡ name = (bytes_eq-Decides n name).0 e in subst (λ (m : List ℕ). new.held m ≡ Some bytes) (sym same) (k t))
  | inr e ↦ rw e (o n (λ same. true≢false (sym ((bytes_eq-Decides n name).1 same) ∙ e)))
]

pub stored_one : (name bytes : List ℕ) (old new : Seen) → SameCounts old new × (old.tells ≡ true → new.held name ≡ Some bytes) → OthersStay name old.held new.held → new.events ≡ old.events ++ Keeping name bytes (Ok tt) ∷ []
    → StoresOne (name, bytes) old new (Ok tt)
stored_one name bytes old new k o q = (k.0, kept_one name bytes old new k.1 o, q)

kept_more : (ks : List Keep) (k : Keep) (h : Held) (n : List ℕ) → kept (ks ++ k ∷ []) h n ≡ with_text (kept ks h) k n
kept_more [] k h n = refl
kept_more (x ∷ xs) k h n = kept_more xs k (with_text h x) n

pub stores_more : (ks : List Keep) (i j : ℕ) (k : Keep) (old mid new : Seen) → slice_get ks i ≡ Some k → j ≡ i + 1 → Grows old mid → Kept (take i ks) old mid → Kept (k ∷ []) mid new → Kept (take j ks) old new
stores_more ks i j k old mid new e l g p q = λ t n.
    q (g.tells ∙ t) n ∙ (ap (λ o. if bytes_eq n k.0 then Some k.1 else o) (p t n) ∙ (sym (kept_more (take i ks) k old.held n) ∙ ap (λ (xs : List Keep). kept xs old.held n) (sym (take_next ks i j k (omega arith) e))))

keepings_more : (ks : List Keep) (k : Keep) → keepings (ks ++ k ∷ []) ≡ keepings ks ++ Keeping k.0 k.1 (Ok tt) ∷ []
keepings_more [] k = refl
keepings_more (x ∷ xs) k = ap (λ (es : List Event). Keeping x.0 x.1 (Ok tt) ∷ es) (keepings_more xs k)

-- one keep more
pub called_more : (ks : List Keep) (i j : ℕ) (k : Keep) (old mid new : Seen) → slice_get ks i ≡ Some k → j ≡ i + 1 → mid.events ≡ old.events ++ keepings (take i ks) → new.events ≡ mid.events ++ Keeping k.0 k.1 (Ok tt) ∷ []
    → new.events ≡ old.events ++ keepings (take j ks)
called_more ks i j k old mid new e l p q =
    called_then old.events mid.events new.events (keepings (take i ks)) (Keeping k.0 k.1 (Ok tt) ∷ []) p q
    ∙ ap (λ (es : List Event). old.events ++ es) (sym (keepings_more (take i ks) k) ∙ ap (λ (xs : List Keep). keepings xs) (sym (take_next ks i j k (omega arith) e)))

module _ (ks : List Keep) (i : ℕ) (k : Keep) (old mid new : Seen) (e : slice_get ks i ≡ Some k) (g : Grows old mid) (p : Kept (take i ks) old mid) (m : mid.events ≡ old.events ++ keepings (take i ks)) where
  pub stores_stop : (s : Status) → StoresOne k mid new (Err s) → Stores ks old new (Err s)
  stores_stop status.StoreFault h = (
    rose_before old.faults mid.faults new.faults g.faults h.0,
    record {
      number = i;
      failed = k;
      is_next = e;
      kept = λ t n d. h.1 (g.tells ∙ t) n d ∙ p t n;
      calls = called_then old.events mid.events new.events (keepings (take i ks)) (Keeping k.0 k.1 (Err store.Failed) ∷ []) m h.2;
    },
  )
  stores_stop status.Memory h = record {
    number = i;
    failed = k;
    is_next = e;
    kept = λ t n. h.0 n ∙ p t n;
    calls = called_then old.events mid.events new.events (keepings (take i ks)) (Keeping k.0 k.1 (Err store.Memory) ∷ []) m h.1;
  }
  stores_stop status.Done h = h
  stores_stop status.Refused h = h
  stores_stop status.Usage h = h
  stores_stop status.SinkFault h = h
  stores_stop status.TooBig h = h
  stores_stop status.Missing h = h
