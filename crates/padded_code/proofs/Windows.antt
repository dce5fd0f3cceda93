-- Windows of kept places, and what is read through places that are gone.
use Rattle.std.proofs.Common.{◌≡◌, ◌↔◌, ℕ, zero, suc, ◌+◌, ◌<◌, ◌≤◌, Bool, true, false, List, [], ◌∷◌, length, take, Option, Some, None, refl, sym, ap, ◌∙◌, subst, arith, map, drop}
use Rattle.std.specs.Prelude.{slice_get}
use Rattle.std.proofs.lemmas.Option.{same_Some}
use Rattle.thumb_instr.specs.declared.instr.Instr.{Instr}
use Rattle.thumb_instr.specs.Shape.{uses_of, writes_of}
use Rattle.thumb_instr.specs.Window.{is_in_window}
use Rattle.thumb_model.specs.Effect.{one_of}
use Rattle.thumb_model.specs.Listing.{Place, plain, Code}
use Rattle.thumb_model.specs.Flow.{Way, way, Onward, ways, ways_on, Follows, Reads, now, later, LiveAfter}
use Rattle.kept_places.specs.Marks.{is_gone, rank}
use Rattle.padded_code.specs.Padding.{nop, kept, IsPadded}
use Rattle.padded_code.specs.Windows.{AreRanked}
use Rattle.thumb_model.proofs.Lists.{present_at}
use Rattle.rule_model.proofs.Table.{live_there, one_way}
use Rattle.padded_code.proofs.Padded.{nop_way, place_kept, live_alike}

taken : (gone : List Bool) (ps : List Place) (r : ℕ) → r < length (kept gone ps) → (p : ℕ) × (p < length ps) × (is_gone gone p ≡ false) × (rank gone p ≡ r)
taken [] ps r h = (r, h, refl, refl)
taken (g ∷ gs) [] r h = absurd (omega arith)
taken (true ∷ gs) (x ∷ ps) r h = let f = taken gs ps r h in (suc f.0, omega (arith, f.1), f.2, f.3)
taken (false ∷ gs) (x ∷ ps) zero h = (0, omega arith, refl, refl)
taken (false ∷ gs) (x ∷ ps) (suc r) h = let f = taken gs ps r (omega arith) in (suc f.0, omega (arith, f.1), f.2, ap suc f.3)

pub rank_taken : (gone : List Bool) (padded code : Code) → IsPadded gone padded code → (r : ℕ) → r < length code.places → (p : ℕ) × (p < length padded.places) × (is_gone gone p ≡ false) × (rank gone p ≡ r)
rank_taken gone padded code s r h = taken gone padded.places r (subst (λ (ps : List Place). r < length ps) s.places h)

windows : (gone : List Bool) (places : List Place) → length gone ≡ length places → (n r : ℕ) → r + n ≤ length (kept gone places) → (ps : List ℕ) × (length ps ≡ n) × AreRanked gone r ps
windows gone places m zero r h = ([], refl, tt)
windows gone places m (suc n) r h =
    let f = taken gone places r (omega arith) in
    let rest = windows gone places m n (suc r) (omega arith) in
    (f.0 ∷ rest.0, ap suc rest.1, (omega (arith, f.1), f.2, f.3, rest.2))

pub window_kept : (gone : List Bool) (padded code : Code) → IsPadded gone padded code → length gone ≡ length padded.places → (n r : ℕ) → r + n ≤ length code.places → (ps : List ℕ) × (length ps ≡ n) × AreRanked gone r ps
window_kept gone padded code s m n r h = windows gone padded.places m n r (subst (λ (ps : List Place). r + n ≤ length ps) s.places h)

-- ---- nops ----

nop_alone : (code : Code) (p k : ℕ) (w : Way) → slice_get code.places p ≡ Some nop → slice_get (ways code p) k ≡ Some w → way [] [] Onward ≡ w
nop_alone code p k w h e = nop_way code k w (ap (λ (o : Option Place). slice_get (ways_on code o) k) (sym h) ∙ e)

read_on : (code : Code) (x p : ℕ) → Reads code x p → slice_get code.places p ≡ Some nop → Reads code x (suc p)
read_on code x _ (now p k w e r) h = absurd (let f : one_of x [] ≡ true = ap (λ (v : Way). one_of x v.reads) (nop_alone code p k w h e) ∙ r in cc)
read_on code x _ (later p k w q e n f r) h =
    let g : q ≡ p + 1 = subst (λ (v : Way). Follows code p v.leads q) (sym (nop_alone code p k w h e)) f in
    subst (Reads code x) (let m : q ≡ suc p = omega arith in m) r

pub nops_read_on : (code : Code) (p : ℕ) → slice_get code.places p ≡ Some nop → (x : ℕ) → Reads code x p ↔ Reads code x (suc p)
nops_read_on code p h x = (
  λ r. read_on code x p r h,
  λ r. later p 0 (way [] [] Onward) (suc p) (ap (λ (o : Option Place). slice_get (ways_on code o) 0) h) refl (let e : suc p ≡ p + 1 = omega arith in e) r,
)

pub nodes_read : (code : Code) (n p : ℕ) → ((k : ℕ) → k < n → slice_get code.places (p + k) ≡ Some nop) → (x : ℕ) → Reads code x p ↔ Reads code x (p + n)
nodes_read code zero p h x =
    let e : p ≡ p + 0 = omega arith in
    (λ r. subst (Reads code x) e r, λ r. subst (Reads code x) (sym e) r)
nodes_read code (suc n) p h x =
    let e : suc p + n ≡ p + suc n = omega arith in
    let one = nops_read_on code p (ap (slice_get code.places) (let f : p ≡ p + 0 = omega arith in f) ∙ h 0 (omega arith)) x in
    let rest = nodes_read code n (suc p) (λ k l. ap (slice_get code.places) (let f : suc p + k ≡ p + suc k = omega arith in f) ∙ h (suc k) (omega arith)) x in
    (λ r. subst (Reads code x) e (rest.0 (one.0 r)), λ r. one.1 (rest.1 (subst (Reads code x) (sym e) r)))

-- ---- windows ----

next_of : (xs : List Place) (r n : ℕ) (x : Place) → slice_get xs r ≡ Some x → take (suc n) (drop r xs) ≡ x ∷ take n (drop (suc r) xs)
next_of [] r n x e = absurd (cc)
next_of (y ∷ xs) zero n x e = ap (λ z. z ∷ take n xs) (same_Some y x e)
next_of (y ∷ xs) (suc r) n x e = next_of xs r n x e

pub windows_stand : (gone : List Bool) (padded code : Code) → IsPadded gone padded code → length gone ≡ length padded.places → (r : ℕ) (ps : List ℕ) → AreRanked gone r ps → map Some (take (length ps) (drop r code.places)) ≡ map (slice_get padded.places) ps
windows_stand gone padded code s m r [] a = refl
windows_stand gone padded code s m r (p ∷ ps) a =
    let within : p < length padded.places = omega (arith, a.0) in
    let x = present_at padded.places p within in
    let here : slice_get code.places r ≡ slice_get padded.places p = ap (slice_get code.places) (sym a.2) ∙ place_kept gone padded code s p a.1 in
    ap (map Some) (next_of code.places r (length ps) x.0 (here ∙ x.1))
    ∙ ap (λ o. o ∷ map Some (take (length ps) (drop (suc r) code.places))) (sym x.1)
    ∙ ap (λ l. slice_get padded.places p ∷ l) (windows_stand gone padded code s m (suc r) ps a.3)

-- ---- live behind ----

only_way : (v : Way) (k : ℕ) (w : Way) → slice_get (let l : List Way = v ∷ [] in l) k ≡ Some w → v ≡ w
only_way v zero w e = same_Some v w e
only_way v (suc k) w e = absurd (cc)

read_behind : (code : Code) (p : ℕ) (i : Instr) → slice_get code.places p ≡ Some (plain i) → is_in_window i ≡ true → (x : ℕ) → LiveAfter code p x ↔ Reads code x (suc p)
read_behind code p i e h x = (
  λ l.
      let v : Way = way (uses_of i) (writes_of i) Onward in
      let all : ways code p ≡ v ∷ [] = ap (ways_on code) e ∙ one_way None i h in
      let u : v ≡ l.1 = only_way v l.0 l.1 (ap (λ (ws : List Way). slice_get ws l.0) (sym all) ∙ l.3) in
      let f : l.2 ≡ p + 1 = subst (λ (w : Way). Follows code p w.leads l.2) (sym u) l.4 in
      subst (Reads code x) (let g : l.2 ≡ suc p = omega arith in g) l.5,
  λ r. live_there code p i e h x (subst (Reads code x) (let g : suc p ≡ p + 1 = omega arith in g) r),
)

pub live_behind : (gone : List Bool) (padded code : Code) → IsPadded gone padded code → (p : ℕ) (i : Instr) → is_gone gone p ≡ false → slice_get padded.places p ≡ Some (plain i) → is_in_window i ≡ true → (x : ℕ) → LiveAfter code (rank gone p) x ↔ Reads padded x (suc p)
live_behind gone padded code s p i t e h x =
    let a = live_alike gone padded code s p x t in
    let b = read_behind padded p i e h x in
    (λ l. b.0 (a.1 l), λ r. a.0 (b.1 r))
