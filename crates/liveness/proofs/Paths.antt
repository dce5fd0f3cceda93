-- Sets that no visit changes have exactly the items that are live, which is said by paths.
use Rattle.std.proofs.Common.{◌≡◌, ℕ, zero, suc, ◌+◌, ◌<◌, ◌==◌, ◌&&◌, ◌||◌, not, true, false, List, [], ◌∷◌, length, Option, Some, refl, sym, ap, ◌∙◌, subst, ◌⊎◌, inl, inr, arith, ◌↔◌}
use Rattle.std.specs.Prelude.{slice_get}
use Rattle.std.proofs.lemmas.Bool.{not-true, or_cases}
use Rattle.std.proofs.lemmas.Nat.Bits.{bit_at-zero}
use Rattle.thumb_instr.specs.declared.items.Items.{Items}
use Rattle.thumb_instr.specs.Items.{has}
use Rattle.thumb_model.specs.Effect.{one_of}
use Rattle.thumb_model.specs.Listing.{Code}
use Rattle.thumb_model.specs.Flow.{Way as ModelWay, Leads, Onward, ToPlace, AnyPoint, Out, ways, Follows, Reads, now, later, LiveAfter}
use Rattle.code_flow.specs.declared.way.Next.{Next}
use Rattle.code_flow.specs.declared.way.Way.{Way}
use Rattle.code_flow.specs.declared.way.Ways.{Ways}
use Rattle.code_flow.specs.Flow.{way_list, next_of, IsWay, AreWays}
use Rattle.liveness.specs.Ways.{AreAllWays}
use Rattle.liveness.specs.Live.{set_at, IsLive}
use Rattle.liveness.specs.Passes.{there, gained, led, AreSound, AreClosed}
pub use Rattle.std.proofs.lemmas.Bool.{or_left, or_right}
use Rattle.listing_parser.proofs.ReplaceLemmas.{and_first as and_left}
use Rattle.listing_parser.proofs.ReadingLemmas.{and_second as and_right}
use Rattle.thumb_model.proofs.Lists.{present_at}
use Rattle.thumb_model.proofs.Shared.{within}

-- nothing is in the empty word
pub has_zero : (x : ℕ) → has 0 x ≡ false
has_zero x = ap (λ n. n == 1) (bit_at-zero x)

-- a way makes an item live before its place, by the sets so far
abbrev pub Helps : ℕ → List Items → ℕ → ℕ → ModelWay → Type 0
Helps p b w x v = (one_of x v.reads ≡ true) ⊎ ((one_of x v.writes ≡ false) × (has (there (next_of p v.leads) b w) x ≡ true))

helps : (p : ℕ) (b : List Items) (w x : ℕ) (v : ModelWay) (e : Way) → IsWay p v e → (has e.uses.bits x || (has (there e.next b w) x && not (has e.writes.bits x))) ≡ true → Helps p b w x v
helps p b w x v e i h =
    elim (or_cases _ _ h) [
      | inl u ↦ inl (sym (i.uses x) ∙ u)
      | inr u ↦ inr (sym (i.writes x) ∙ not-true _ (and_right _ _ u), subst (λ (n : Next). has (there n b w) x ≡ true) i.leads (and_left _ _ u))
    ]

pub some_way : (p : ℕ) (b : List Items) (w x : ℕ) (vs : List ModelWay) (es : List Way) → AreWays p vs es → gained es b w x ≡ true → (k : ℕ) × (v : ModelWay) × (slice_get vs k ≡ Some v) × Helps p b w x v
some_way p b w x [] [] a h = absurd (cc)
some_way p b w x [] (e ∷ es) a h = absurd a
some_way p b w x (v ∷ vs) [] a h = absurd a
some_way p b w x (v ∷ vs) (e ∷ es) a h =
    elim (or_cases _ _ h) [
      | inl u ↦ (0, v, refl, helps p b w x v e a.0 u)
      | inr u ↦ let r = some_way p b w x vs es a.1 u in (suc r.0, r.1, r.2, r.3)
    ]

led_way : (p : ℕ) (b : List Items) (w x : ℕ) (vs : List ModelWay) (es : List Way) → AreWays p vs es → led es b w x ≡ true → (k : ℕ) × (v : ModelWay) × (slice_get vs k ≡ Some v) × (has (there (next_of p v.leads) b w) x ≡ true)
led_way p b w x [] [] a h = absurd (cc)
led_way p b w x [] (e ∷ es) a h = absurd a
led_way p b w x (v ∷ vs) [] a h = absurd a
led_way p b w x (v ∷ vs) (e ∷ es) a h =
    elim (or_cases _ _ h) [
      | inl u ↦ (0, v, refl, subst (λ (n : Next). has (there n b w) x ≡ true) a.0.leads u)
      | inr u ↦ let r = led_way p b w x vs es a.1 u in (suc r.0, r.1, r.2, r.3)
    ]

pub same_way : (v u : ModelWay) → (let o : Option ModelWay = Some v in o) ≡ Some u → v ≡ u
same_way v u e = cc

pub way_gains : (p : ℕ) (b : List Items) (w x : ℕ) (vs : List ModelWay) (es : List Way) → AreWays p vs es → (k : ℕ) (v : ModelWay) → slice_get vs k ≡ Some v → Helps p b w x v → gained es b w x ≡ true
way_gains p b w x [] es a k v g h = absurd (cc)
way_gains p b w x (u ∷ vs) [] a k v g h = absurd a
way_gains p b w x (u ∷ vs) (e ∷ es) a (suc k) v g h = or_right (has e.uses.bits x || (has (there e.next b w) x && not (has e.writes.bits x))) _ (way_gains p b w x vs es a.1 k v g h)
way_gains p b w x (u ∷ vs) (e ∷ es) a zero v g h = or_left _ _ (helped (subst (Helps p b w x) (sym (same_way u v g)) h))
  where
    helped : Helps p b w x u → (has e.uses.bits x || (has (there e.next b w) x && not (has e.writes.bits x))) ≡ true
    helped (inl r) = or_left _ _ (a.0.uses x ∙ r)
    helped (inr r) =
        let t : has (there e.next b w) x ≡ true = subst (λ (n : Next). has (there n b w) x ≡ true) (sym a.0.leads) r.1 in
        let n : has e.writes.bits x ≡ false = a.0.writes x ∙ r.0 in
        or_right (has e.uses.bits x) _ (ap (λ c. c && not (has e.writes.bits x)) t ∙ ap not n)

way_leads : (p : ℕ) (b : List Items) (w x : ℕ) (vs : List ModelWay) (es : List Way) → AreWays p vs es → (k : ℕ) (v : ModelWay) → slice_get vs k ≡ Some v → has (there (next_of p v.leads) b w) x ≡ true → led es b w x ≡ true
way_leads p b w x [] es a k v g h = absurd (cc)
way_leads p b w x (u ∷ vs) [] a k v g h = absurd a
way_leads p b w x (u ∷ vs) (e ∷ es) a (suc k) v g h = or_right (has (there e.next b w) x) _ (way_leads p b w x vs es a.1 k v g h)
way_leads p b w x (u ∷ vs) (e ∷ es) a zero v g h =
    let t : has (there (next_of p u.leads) b w) x ≡ true = subst (λ (y : ModelWay). has (there (next_of p y.leads) b w) x ≡ true) (sym (same_way u v g)) h in
    or_left _ _ (subst (λ (n : Next). has (there n b w) x ≡ true) (sym a.0.leads) t)

-- what the set where a way leads has, is read from a place that it leads to
pub goes_to : (code : Code) (b : List Items) (w : ℕ) → AreSound code b w → (p x : ℕ) (l : Leads) → has (there (next_of p l) b w) x ≡ true → (q : ℕ) × Follows code p l q × Reads code x q
goes_to code b w s p x Onward h = (p + 1, refl, s.read (p + 1) x h)
goes_to code b w s p x (ToPlace r) h = (r, refl, s.read r x h)
goes_to code b w s p x AnyPoint h = s.point_read x h
goes_to code b w s p x Out h = absurd (let z = has_zero x in cc)

-- and back
pub comes_from : (code : Code) (b : List Items) (w : ℕ) → AreSound code b w → (p x q : ℕ) (l : Leads) → Follows code p l q → has (set_at b q) x ≡ true → has (there (next_of p l) b w) x ≡ true
comes_from code b w s p x q Onward f h = subst (λ y. has (set_at b y) x ≡ true) f h
comes_from code b w s p x q (ToPlace r) f h = subst (λ y. has (set_at b y) x ≡ true) f h
comes_from code b w s p x q AnyPoint f h = s.point_has q x f h
comes_from code b w s p x q Out f h = absurd f

-- what a visit gains is read
pub gained_reads : (code : Code) (p : ℕ) (b : List Items) (w x : ℕ) (es : List Way) → AreSound code b w → AreWays p (ways code p) es → gained es b w x ≡ true → Reads code x p
gained_reads code p b w x es s a h =
    let r = some_way p b w x (ways code p) es a h in
    go r.0 r.1 r.2 r.3
  where
    go : (k : ℕ) (v : ModelWay) → slice_get (ways code p) k ≡ Some v → Helps p b w x v → Reads code x p
    go k v g (inl r) = now p k v g r
    go k v g (inr r) = let f = goes_to code b w s p x v.leads r.1 in later p k v f.0 g r.0 f.1 f.2

-- the sets are finished: sound, and no visit would change them
pub record AreFinished (code : Code) (all : List (Option Ways)) (b a : List Items) (w : ℕ) : Type 0 where
  pub as_many : length all ≡ length code.places
  pub has_ways : AreAllWays code all
  pub sound : AreSound code b w
  pub closed : AreClosed all b a w

closed_reads : (code : Code) (all : List (Option Ways)) (b a : List Items) (w x : ℕ) → AreFinished code all b a w → (p : ℕ) → Reads code x p → has (set_at b p) x ≡ true
closed_reads code all b a w x f p₀ r = go p₀ r
  where
    at : (p k : ℕ) (v : ModelWay) → slice_get (ways code p) k ≡ Some v → Helps p b w x v → has (set_at b p) x ≡ true
    at p k v g h =
        let e = present_at all p (let l = within code p k v g in let m = f.as_many in omega arith) in
        (f.closed p e.0 e.1).before x (way_gains p b w x (ways code p) (way_list e.0) (f.has_ways p e.0 e.1) k v g h)

    go : (p : ℕ) → Reads code x p → has (set_at b p) x ≡ true
    go _ (now p k v g r) = at p k v g (inl r)
    go _ (later p k v q g n l r) = at p k v g (inr (n, comes_from code b w f.sound p x q v.leads l (go q r)))

finished_after : (code : Code) (all : List (Option Ways)) (b a : List Items) (w : ℕ) → AreFinished code all b a w → (p x : ℕ) → p < length code.places → (has (set_at a p) x ≡ true) ↔ LiveAfter code p x
finished_after code all b a w f p x l =
    let e = present_at all p (let m = f.as_many in omega arith) in
    let c = f.closed p e.0 e.1 in
    (λ h. forth e.0 e.1 (sym (c.after x) ∙ h), λ v. c.after x ∙ back e.0 e.1 v)
  where
    forth : (e : Option Ways) → slice_get all p ≡ Some e → led (way_list e) b w x ≡ true → LiveAfter code p x
    forth e g h =
        let r = led_way p b w x (ways code p) (way_list e) (f.has_ways p e g) h in
        let t = goes_to code b w f.sound p x r.1.leads r.3 in
        (r.0, r.1, t.0, r.2, t.1, t.2)

    back : (e : Option Ways) → slice_get all p ≡ Some e → LiveAfter code p x → led (way_list e) b w x ≡ true
    back e g v = way_leads p b w x (ways code p) (way_list e) (f.has_ways p e g) v.0 v.1 v.3 (comes_from code b w f.sound p x v.2 v.1.leads v.4 (closed_reads code all b a w x f v.2 v.5))

-- finished sets are the live items
pub finished_live : (code : Code) (all : List (Option Ways)) (b a : List Items) (w : ℕ) → AreFinished code all b a w → length b ≡ length code.places → length a ≡ length code.places → IsLive code (record { before = b; after = a })
finished_live code all b a w f m n = record {
  before_len = m;
  after_len = n;
  before = λ p x l. (f.sound.read p x, closed_reads code all b a w x f p);
  after = finished_after code all b a w f;
}
