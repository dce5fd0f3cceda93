-- Lines in which a window gives way to fewer instructions: the part in which it stands takes fewer bytes and has fewer places, and all other parts stay.
use Rattle.std.proofs.Common.{◌≡◌, ℕ, zero, suc, ◌+◌, ◌-◌, ◌*◌, ◌<◌, ◌≤◌, ◌==◌, ◌&&◌, ◌||◌, not, Bool, true, false, List, [], ◌∷◌, ◌++◌, length, take, drop, map, Option, Some, None, refl, sym, ap, ◌∙◌, subst, inl, inr, arith, length-append, append_assoc, true≢false, if◌then◌else◌}
use Rattle.std.specs.Prelude.{slice_get}
use Rattle.std.specs.List.{list_all}
use Rattle.std.proofs.lemmas.Bool.{and_parts, cases_Bool}
use Rattle.thumb_instr.specs.declared.instr.Instr.{Instr}
use Rattle.thumb_instr.specs.Window.{is_in_window}
use Rattle.thumb_model.specs.Listing.{Name, Mention, Value, Statement, Nothing, Instruction, Words, Aligns, Sets, ListingLine, Word, places_in, places_of}
use Rattle.thumb_model.specs.Layout.{cleared, instr_size, is_among, set_address}
use Rattle.thumb_model.specs.Replaced.{is_op, labels_kept, new_line, replaced_lines, without, IsWindow}
use Rattle.thumb_model.proofs.Lists.{drop_back, length_map}
use Rattle.window_runs.specs.declared.rows.WindowPlace.{WindowPlace}
use Rattle.window_runs.specs.Rows.{is_unlabelled, window_instr, word_row, rows_of, rows_from, stays_joined}
use Rattle.window_runs.proofs.Joined.{window_fits, Fits, no_place as not_first}
use Rattle.window_runs.proofs.Lengths.{rows_length}
use Rattle.kept_layout.specs.declared.block.NameLocation.{NameLocation}
use Rattle.kept_layout.specs.declared.block.Head.TheVariants as head
use Rattle.kept_layout.specs.Blocks.{lessen, total_places, Footprint}
use Rattle.kept_layout.specs.Kept.{behind_first, behind_first_part, bytes_in, bytes_of, first_head, first_names, head_of, is_fixed, joined, part_of, target_at, target_in, AllBegin, AreBare, AreCut, AreFootprintsOf, IsFootprintOf}
use Rattle.kept_layout.proofs.SetsKept.{sets_kept}
use Rattle.thumb_model.proofs.LinesReplaced.{kept_places}
use Rattle.kept_layout.proofs.BuildingParts.{bare_behind, bare_plain as bare_head, fixed_plain as plain_head}
use Rattle.thumb_model.proofs.Cuts.{without_none}
use Rattle.thumb_model.proofs.Shared.{two_bytes}
use Rattle.label_layout.proofs.Shared.{new_before, two_least}

-- ---- sizes ----

statement_size : (s : Statement) → 2 * length (places_in s) ≤ bytes_in s
statement_size (Instruction i m) = let h = two_least i in omega arith
statement_size (Words vs) = omega (arith, length_map Word vs)
statement_size s = omega arith

-- each place takes two bytes or more
lines_size : (ls : List ListingLine) → 2 * length (places_of ls) ≤ bytes_of ls
lines_size [] = omega arith
lines_size (l ∷ ls) = omega (arith, length-append (places_in l.statement) (places_of ls), statement_size l.statement, lines_size ls)

-- ---- rows ----

-- an instruction of a window mentions nothing, and has two bytes
record IsPlain (i : Instr) (mention : Option Mention) : Type 0 where
  alone : mention ≡ None
  size : instr_size i ≡ 2

instr_plain : (i k : Instr) (m : Option Mention) → window_instr k m ≡ Some i → IsPlain k m
instr_plain i k (Some m) e = absurd (cc)
instr_plain i k None e = go (is_in_window k) refl e
  where
    go : (b : Bool) → is_in_window k ≡ b → (if b then Some k else None) ≡ Some i → IsPlain k None
    go true w e = record { alone = refl; size = two_bytes k w }
    go false w e = absurd (cc)

-- whether what stands behind lines is joined to them
abbrev still_joined : Bool → List ListingLine → Bool
still_joined j [] = j
still_joined j (l ∷ ls) = still_joined (stays_joined (j && is_unlabelled l.names) l.statement) ls

rows_append : (j : Bool) (xs ys : List ListingLine) → rows_from j (xs ++ ys) ≡ rows_from j xs ++ rows_from (still_joined j xs) ys
rows_append j [] ys = refl
rows_append j (l ∷ ls) ys =
    let rows : List WindowPlace = rows_of (j && is_unlabelled l.names) l.statement in
    let k : Bool = stays_joined (j && is_unlabelled l.names) l.statement in
    ap (λ rs. rows ++ rs) (rows_append k ls ys) ∙ sym (append_assoc rows (rows_from k ls) (rows_from (still_joined k ls) ys))

-- nothing goes on in the rows
abbrev EndsBefore : List WindowPlace → Type 0
EndsBefore rows = (i : Instr) (is : List Instr) → Fits false (i ∷ is) rows → ⊥

fits_front : (is : List Instr) (xs ys : List WindowPlace) → EndsBefore ys → Fits false is (xs ++ ys) → Fits false is xs
fits_front [] xs ys e f = tt
fits_front (i ∷ is) [] ys e f = e i is f
fits_front (i ∷ is) (x ∷ xs) ys e f = (f.0, f.1, fits_front is xs ys e f.2)

fits_within : (i : Instr) (is : List Instr) (p : ℕ) (xs ys : List WindowPlace) → EndsBefore ys → p < length xs → Fits true (i ∷ is) (drop p (xs ++ ys)) → Fits true (i ∷ is) (drop p xs)
fits_within i is p [] ys e h f = absurd (omega arith)
fits_within i is zero (x ∷ xs) ys e h f = (f.0, f.1, fits_front is xs ys e f.2)
fits_within i is (suc p) (x ∷ xs) ys e h f = fits_within i is p xs ys e (omega arith) f

fits_less : (first : Bool) (is : List Instr) (rows : List WindowPlace) → Fits first is rows → length is ≤ length rows
fits_less first [] rows f = omega arith
fits_less first (i ∷ is) [] f = absurd f
fits_less first (i ∷ is) (r ∷ rs) f = let h = fits_less false is rs f.2 in omega arith

none_fits : (i : Instr) (is : List Instr) (p : ℕ) → Fits true (i ∷ is) (drop p []) → ⊥
none_fits i is zero f = f
none_fits i is (suc p) f = f

pub fits_end : (i : Instr) (is : List Instr) (p : ℕ) (rows : List WindowPlace) → Fits true (i ∷ is) (drop p rows) → p + length (i ∷ is) ≤ length rows
fits_end i is p [] f = absurd (none_fits i is p f)
fits_end i is zero (r ∷ rs) f = let h = fits_less true (i ∷ is) (r ∷ rs) f in omega arith
fits_end i is (suc p) (r ∷ rs) f = let h = fits_end i is p rs f in omega arith

-- ---- where a part begins ----

statement_apart : (s : Statement) (ls : List ListingLine) → EndsBefore (rows_from false ls) → EndsBefore (rows_of false s ++ rows_from (stays_joined false s) ls)
statement_apart Nothing ls e i is f = e i is f
statement_apart (Instruction k m) ls e i is f = let g = f.0 in absurd (cc)
statement_apart (Words []) ls e i is f = e i is f
statement_apart (Words (v ∷ vs)) ls e i is f = let g = f.0 in absurd (cc)
statement_apart (Aligns size most) ls e i is f = e i is f
statement_apart (Sets name address) ls e i is f = e i is f

-- what isn't joined to what stands before it doesn't go on
apart : (ls : List ListingLine) → EndsBefore (rows_from false ls)
apart [] i is f = f
apart (l ∷ ls) i is f = statement_apart l.statement ls (apart ls) i is f

line_apart : (j : Bool) (names : List Name) (s : Statement) (ls : List ListingLine) → (not (is_unlabelled names) || not (is_fixed s)) ≡ true → EndsBefore (rows_of (j && is_unlabelled names) s ++ rows_from (stays_joined (j && is_unlabelled names) s) ls)
line_apart true (n ∷ ns) s ls e i is f = statement_apart s ls (apart ls) i is f
line_apart false (n ∷ ns) s ls e i is f = statement_apart s ls (apart ls) i is f
line_apart j [] (Instruction k (Some m)) ls e i is f = let g = f.1 in absurd (cc)
line_apart j [] (Aligns size most) ls e i is f = apart ls i is f
line_apart j [] s ls e i is f = absurd (true≢false (sym e))

parts_apart : (j : Bool) (ps : List (List ListingLine)) → AllBegin ps → EndsBefore (rows_from j (joined ps))
parts_apart j [] b i is f = f
parts_apart j ([] ∷ ps) b i is f = absurd b
parts_apart j ((l ∷ ls) ∷ ps) b i is f = line_apart j l.names l.statement (ls ++ joined ps) b.0 i is f

-- ---- lines without some of their instructions ----

-- so many places of two bytes fewer
record IsLess (gone : ℕ) (old new : List ListingLine) : Type 0 where
  bytes : bytes_of new + 2 * gone ≡ bytes_of old
  places : length (places_of new) + gone ≡ length (places_of old)

less_none : (ls : List ListingLine) → IsLess 0 ls ls
less_none ls = record { bytes = omega arith; places = omega arith }

less_cons : (gone : ℕ) (l : ListingLine) (old new : List ListingLine) → IsLess gone old new → IsLess gone (l ∷ old) (l ∷ new)
less_cons gone l old new h = record {
  bytes = let b = h.bytes in omega arith;
  places = omega (arith, h.places, length-append (places_in l.statement) (places_of old), length-append (places_in l.statement) (places_of new));
}

-- the lines of a window behind its first, and whatever stands behind them
record IsInner (n : ℕ) (ls : List ListingLine) : Type 0 where
  less : IsLess n ls (without n ls)
  back : (ys : List ListingLine) → without n (ls ++ ys) ≡ without n ls ++ ys

inner_none : (ls : List ListingLine) → IsInner 0 ls
inner_none ls = record {
  less = subst (IsLess 0 ls) (sym (without_none ls)) (less_none ls);
  back = λ ys. without_none (ls ++ ys) ∙ ap (λ x. x ++ ys) (sym (without_none ls));
}

inner_gone : (n : ℕ) (l : ListingLine) (i : Instr) (ls : List ListingLine) → l.statement ≡ Instruction i None → instr_size i ≡ 2 → IsInner n ls → IsInner (suc n) (l ∷ ls)
inner_gone n l i ls e two k =
    let size : bytes_in l.statement ≡ 2 = rw e two in
    let one : length (places_in l.statement) ≡ 1 = rw e refl in
    let gone : without (suc n) (l ∷ ls) ≡ without n ls = rw e refl in
    record {
      less = subst (IsLess (suc n) (l ∷ ls)) (sym gone) (record {
        bytes = let b = k.less.bytes in omega arith;
        places = omega (arith, one, k.less.places, length-append (places_in l.statement) (places_of ls));
      });
      back = λ ys. rw e (k.back ys);
    }

inner_kept : (n : ℕ) (l : ListingLine) (ls : List ListingLine) → is_op l.statement ≡ false → IsInner (suc n) ls → IsInner (suc n) (l ∷ ls)
inner_kept n l ls e k =
    let kept : without (suc n) (l ∷ ls) ≡ l ∷ without (suc n) ls = rw e refl in
    record {
      less = subst (IsLess (suc n) (l ∷ ls)) (sym kept) (less_cons (suc n) l ls (without (suc n) ls) k.less);
      back = λ ys. rw e (ap (λ x. l ∷ x) (k.back ys));
    }

inner_step : (i : Instr) (is : List Instr) (l : ListingLine) (s : Statement) (ls : List ListingLine) (j : Bool) → l.statement ≡ s → ((b : Bool) → Fits false is (rows_from b ls) → IsInner (length is) ls) → ((b : Bool) → Fits false (i ∷ is) (rows_from b ls) → IsInner (suc (length is)) ls)
    → Fits false (i ∷ is) (rows_of j s ++ rows_from (stays_joined j s) ls) → IsInner (suc (length is)) (l ∷ ls)
inner_step i is l (Instruction k m) ls j e next same f =
    let p = instr_plain i k m f.1 in
    inner_gone (length is) l k ls (e ∙ ap (λ o. Instruction k o) p.alone) p.size (next true f.2)
inner_step i is l (Words (v ∷ vs)) ls j e next same f = let g = f.0 in absurd (cc)
inner_step i is l s ls j e next same f = inner_kept (length is) l ls (rw e refl) (same (stays_joined j s) f)

inner : (is : List Instr) (ls : List ListingLine) (j : Bool) → Fits false is (rows_from j ls) → IsInner (length is) ls
inner [] ls j f = inner_none ls
inner (i ∷ is) [] j f = absurd f
inner (i ∷ is) (l ∷ ls) j f = inner_step i is l l.statement ls (j && is_unlabelled l.names) refl (inner is ls) (inner (i ∷ is) ls) f

-- ---- lines in which a window gives way ----

new_bytes : (write : Instr → List ℕ) (is : List Instr) (ls : List ListingLine) → list_all is_in_window is ≡ true → bytes_of (map (new_line write) is ++ ls) ≡ 2 * length is + bytes_of ls
new_bytes write [] ls h = omega arith
new_bytes write (i ∷ is) ls h =
    let p = and_parts (is_in_window i) (list_all is_in_window is) h in
    let two = two_bytes i p.0 in
    let r = new_bytes write is ls p.1 in
    omega arith

new_places : (write : Instr → List ℕ) (is : List Instr) (ls : List ListingLine) → length (places_of (map (new_line write) is ++ ls)) ≡ length is + length (places_of ls)
new_places write [] ls = omega arith
new_places write (i ∷ is) ls = let r = new_places write is ls in omega arith

kept_bytes : (l : ListingLine) (names : List Name) (ls : List ListingLine) → bytes_of (labels_kept l names ++ ls) ≡ bytes_of ls
kept_bytes l [] ls = refl
kept_bytes l (n ∷ ns) ls = omega arith

-- the window gives way to the new instructions, and whatever stands behind the lines stays
record IsGiven (write : Instr → List ℕ) (p count : ℕ) (new : List Instr) (ls : List ListingLine) : Type 0 where
  less : IsLess (count - length new) ls (replaced_lines write p count new ls)
  back : (ys : List ListingLine) → replaced_lines write p count new (ls ++ ys) ≡ replaced_lines write p count new ls ++ ys

lines_here : (write : Instr → List ℕ) (n : ℕ) (new : List Instr) (l : ListingLine) (i : Instr) (ls : List ListingLine) → l.statement ≡ Instruction i None → replaced_lines write 0 (suc n) new (l ∷ ls) ≡ labels_kept l l.names ++ (map (new_line write) new ++ without n ls)
lines_here write n new l i ls e = rw e (ap (λ m. labels_kept l l.names ++ (map (new_line write) new ++ without m ls)) (let z : suc n - 1 ≡ n = omega arith in z))

given_here : (write : Instr → List ℕ) (n : ℕ) (new : List Instr) (l : ListingLine) (i : Instr) (ls : List ListingLine) → l.statement ≡ Instruction i None → instr_size i ≡ 2 → length new ≤ suc n → list_all is_in_window new ≡ true → IsInner n ls → IsGiven write 0 (suc n) new (l ∷ ls)
given_here write n new l i ls e two short in_window k =
    let labels : List ListingLine = labels_kept l l.names in
    let lines : List ListingLine = map (new_line write) new in
    let size : bytes_in l.statement ≡ 2 = rw e two in
    let one : length (places_in l.statement) ≡ 1 = rw e refl in
    record {
      less = subst (IsLess (suc n - length new) (l ∷ ls)) (sym (lines_here write n new l i ls e)) (record {
        bytes =
            let a = kept_bytes l l.names (lines ++ without n ls) in
            let b = new_bytes write new (without n ls) in_window in
            let c = k.less.bytes in
            omega arith;
        places = omega (arith, one, ap (λ ps. length ps) (kept_places l l.names (lines ++ without n ls)), new_places write new (without n ls), k.less.places, length-append (places_in l.statement) (places_of ls));
      });
      back = λ ys.
          lines_here write n new l i (ls ++ ys) e
          ∙ ap (λ x. labels ++ (lines ++ x)) (k.back ys)
          ∙ ap (λ x. labels ++ x) (sym (append_assoc lines (without n ls) ys))
          ∙ sym (append_assoc labels (lines ++ without n ls) ys)
          ∙ ap (λ x. x ++ ys) (sym (lines_here write n new l i ls e));
    }

given_behind : (write : Instr → List ℕ) (p m count : ℕ) (new : List Instr) (l : ListingLine) (ls : List ListingLine) → (is_op l.statement && (p == 0)) ≡ false → p - length (places_in l.statement) ≡ m → IsGiven write m count new ls → IsGiven write p count new (l ∷ ls)
given_behind write p m count new l ls t e k =
    let kept : (xs : List ListingLine) → replaced_lines write p count new (l ∷ xs) ≡ l ∷ replaced_lines write m count new xs = λ xs. rw t (ap (λ q. l ∷ replaced_lines write q count new xs) e) in
    record {
      less = subst (IsLess (count - length new) (l ∷ ls)) (sym (kept ls)) (less_cons (count - length new) l ls (replaced_lines write m count new ls) k.less);
      back = λ ys. kept (ls ++ ys) ∙ ap (λ x. l ∷ x) (k.back ys) ∙ ap (λ x. x ++ ys) (sym (kept ls));
    }

-- a window doesn't begin among words
past_words : (vs : List Value) (p : ℕ) (rows : List WindowPlace) (i : Instr) (is : List Instr) → Fits true (i ∷ is) (drop p (map word_row vs ++ rows)) → (m : ℕ) × (p ≡ length vs + m) × Fits true (i ∷ is) (drop m rows)
past_words [] p rows i is f = (p, omega arith, f)
past_words (v ∷ vs) zero rows i is f = let g = f.1 in absurd (cc)
past_words (v ∷ vs) (suc p) rows i is f = let r = past_words vs p rows i is f in let e = r.1 in (r.0, omega arith, r.2)

given_step : (write : Instr → List ℕ) (i : Instr) (is new : List Instr) → length new ≤ suc (length is) → list_all is_in_window new ≡ true → (l : ListingLine) (s : Statement) (ls : List ListingLine) (j : Bool) (p : ℕ) → l.statement ≡ s
    → ((b : Bool) (q : ℕ) → Fits true (i ∷ is) (drop q (rows_from b ls)) → IsGiven write q (suc (length is)) new ls)
    → Fits true (i ∷ is) (drop p (rows_of j s ++ rows_from (stays_joined j s) ls)) → IsGiven write p (suc (length is)) new (l ∷ ls)
given_step write i is new short in_window l (Instruction k m) ls j zero e rec f =
    let a = instr_plain i k m f.1 in
    given_here write (length is) new l k ls (e ∙ ap (λ o. Instruction k o) a.alone) a.size short in_window (inner is ls true f.2)
given_step write i is new short in_window l (Instruction k m) ls j (suc p) e rec f =
    let one : length (places_in l.statement) ≡ 1 = rw e refl in
    given_behind write (suc p) p (suc (length is)) new l ls (rw e (not_first p)) (omega (arith, one)) (rec true p f)
given_step write i is new short in_window l (Words vs) ls j p e rec f =
    let r = past_words vs p (rows_from j ls) i is f in
    let past = r.1 in
    let size : length (places_in l.statement) ≡ length vs = rw e (length_map Word vs) in
    given_behind write p (r.0) (suc (length is)) new l ls (rw e refl) (omega (arith, size, past)) (rec j (r.0) r.2)
given_step write i is new short in_window l s ls j p e rec f =
    let none : length (places_in l.statement) ≡ 0 = rw e refl in
    given_behind write p p (suc (length is)) new l ls (rw e refl) (omega (arith, none)) (rec (stays_joined j s) p f)

given : (write : Instr → List ℕ) (i : Instr) (is new : List Instr) → length new ≤ suc (length is) → list_all is_in_window new ≡ true → (ls : List ListingLine) (j : Bool) (p : ℕ) → Fits true (i ∷ is) (drop p (rows_from j ls)) → IsGiven write p (suc (length is)) new ls
given write i is new short in_window [] j p f = absurd (none_fits i is p f)
given write i is new short in_window (l ∷ ls) j p f = given_step write i is new short in_window l l.statement ls (j && is_unlabelled l.names) p refl (given write i is new short in_window ls) f

-- ---- bare lines ----

bare_without : (n : ℕ) (ls : List ListingLine) → AreBare ls → AreBare (without n ls)
bare_without n [] b = tt
bare_without zero (l ∷ ls) b = b
bare_without (suc n) (l ∷ ls) b = elim (cases_Bool (is_op l.statement)) [
  | inl h ↦ rw h (bare_without n ls b.2)
  | inr h ↦ rw h (b.0, b.1, bare_without (suc n) ls b.2)
]

bare_given : (write : Instr → List ℕ) (n : ℕ) (is : List Instr) (ls : List ListingLine) → AreBare ls → AreBare (map (new_line write) is ++ without n ls)
bare_given write n is ls b = new_before AreBare write (λ i rest a. (refl, refl, a)) is (without n ls) (bare_without n ls b)

bare_replaced : (write : Instr → List ℕ) (p count : ℕ) (is : List Instr) (ls : List ListingLine) → AreBare ls → AreBare (replaced_lines write p count is ls)
bare_replaced write p count is [] b = tt
bare_replaced write p count is (l ∷ ls) b = elim (cases_Bool (is_op l.statement && (p == 0))) [
  | inl h ↦ rw (h, b.0) (bare_given write (count - 1) is ls b.2)
  | inr h ↦ rw h (b.0, b.1, bare_replaced write (p - length (places_in l.statement)) count is ls b.2)
]

bare_names : (ls : List ListingLine) → AreBare ls → first_names ls ≡ []
bare_names [] b = refl
bare_names (l ∷ ls) b = b.0

-- ---- a part ----

-- lines that begin alike, and of which the first alone isn't bare
record BeginsAlike (old new : List ListingLine) : Type 0 where
  names : first_names new ≡ first_names old
  head : (find : Name → Option NameLocation) → first_head find new ≡ first_head find old
  bare : AreBare (behind_first new)
  begin : AllBegin (old ∷ []) → AllBegin (new ∷ [])

alike_here : (l : ListingLine) (names : List Name) (ls rest : List ListingLine) → l.names ≡ names → is_fixed l.statement ≡ true → AreBare rest → BeginsAlike (l ∷ ls) (labels_kept l names ++ rest)
alike_here l [] ls rest e fixed b = record {
  names = bare_names rest b ∙ sym e;
  head = λ find. bare_head find rest b ∙ sym (plain_head find l.statement fixed);
  bare = bare_behind rest b;
  begin = λ h. absurd (true≢false (sym (rw (e, fixed) at h.0)));
}
alike_here l (n ∷ ns) ls rest e fixed b = record { names = sym e; head = λ find. sym (plain_head find l.statement fixed); bare = b; begin = λ h. (refl, tt) }

alike_same : (l : ListingLine) (ls news : List ListingLine) → AreBare news → BeginsAlike (l ∷ ls) (l ∷ news)
alike_same l ls news b = record { names = refl; head = λ find. refl; bare = b; begin = λ h. h }

-- where a window begins, nothing is mentioned
fixed_first : (s : Statement) (ls : List ListingLine) (j : Bool) (p : ℕ) (i : Instr) (is : List Instr) → (is_op s && (p == 0)) ≡ true → Fits true (i ∷ is) (drop p (rows_of j s ++ rows_from (stays_joined j s) ls)) → is_fixed s ≡ true
fixed_first (Instruction k (Some m)) ls j zero i is t f = let g = f.1 in absurd (cc)
fixed_first (Instruction k (Some m)) ls j (suc p) i is t f = absurd (true≢false (sym t ∙ not_first p))
fixed_first (Aligns size most) ls j p i is t f = absurd (true≢false (sym t))
fixed_first s ls j p i is t f = refl

alike_given : (write : Instr → List ℕ) (p count : ℕ) (new : List Instr) (ls : List ListingLine) (j : Bool) (i : Instr) (is : List Instr) → AreBare (behind_first ls) → Fits true (i ∷ is) (drop p (rows_from j ls)) → BeginsAlike ls (replaced_lines write p count new ls)
alike_given write p count new [] j i is b f = absurd (none_fits i is p f)
alike_given write p count new (l ∷ ls) j i is b f = elim (cases_Bool (is_op l.statement && (p == 0))) [
  | inl t ↦ rw t (alike_here l l.names ls (map (new_line write) new ++ without (count - 1) ls) refl (fixed_first l.statement ls (j && is_unlabelled l.names) p i is t f) (bare_given write (count - 1) new ls b))
  | inr t ↦ rw t (alike_same l ls (replaced_lines write (p - length (places_in l.statement)) count new ls) (bare_replaced write (p - length (places_in l.statement)) count new ls b))
]

footprint_less : (find : Name → Option NameLocation) (gone : ℕ) (old new : List ListingLine) (s : Footprint) → BeginsAlike old new → IsLess gone old new → IsFootprintOf find old s → IsFootprintOf find new (record { head = s.head; bytes = s.bytes - 2 * gone; places = s.places - gone })
footprint_less find gone old new s a h k = record {
  head = k.head ∙ sym (a.head find);
  bare = a.bare;
  bytes = let b = h.bytes in let c = k.bytes in omega arith;
  places = let b = h.places in let c = k.places in omega arith;
}

-- ---- where names lie ----

head_same : (f g : Name → Option NameLocation) → ((name : Name) → f name ≡ g name) → (s : Statement) → head_of f s ≡ head_of g s
head_same f g h (Instruction i (Some m)) = ap (λ to. head.Aims (record { instr = i; to = to; plus = m.plus })) (h m.name)
head_same f g h s = refl

first_same : (f g : Name → Option NameLocation) → ((name : Name) → f name ≡ g name) → (ls : List ListingLine) → first_head f ls ≡ first_head g ls
first_same f g h [] = refl
first_same f g h (l ∷ ls) = head_same f g h l.statement

footprints_same : (f g : Name → Option NameLocation) → ((name : Name) → f name ≡ g name) → (ps : List (List ListingLine)) (ss : List Footprint) → AreFootprintsOf f ps ss → AreFootprintsOf g ps ss
footprints_same f g h [] [] a = tt
footprints_same f g h [] (s ∷ ss) a = absurd a
footprints_same f g h (p ∷ ps) [] a = absurd a
footprints_same f g h (p ∷ ps) (s ∷ ss) a =
    let k = a.0 in
    (record { head = k.head ∙ first_same f g h p; bare = k.bare; bytes = k.bytes; places = k.places }, footprints_same f g h ps ss a.1)

-- ---- parts ----

past_line : (s : Statement) (p : ℕ) → length (places_in s) ≤ p → (is_op s && (p == 0)) ≡ false
past_line (Instruction i m) zero h = absurd (omega arith)
past_line (Instruction i m) (suc p) h = not_first p
past_line s p h = refl

-- lines before the place stay
past_lines : (write : Instr → List ℕ) (count : ℕ) (is : List Instr) (xs ys : List ListingLine) (p m : ℕ) → p ≡ length (places_of xs) + m → replaced_lines write p count is (xs ++ ys) ≡ xs ++ replaced_lines write m count is ys
past_lines write count is [] ys p m e = ap (λ q. replaced_lines write q count is ys) (let z : p ≡ m = omega arith in z)
past_lines write count is (l ∷ ls) ys p m e =
    let size = length-append (places_in l.statement) (places_of ls) in
    rw (past_line l.statement p (omega (arith, size)))
    (ap (λ x. l ∷ x) (past_lines write count is ls ys (p - length (places_in l.statement)) m (omega (arith, size))))

begin_parts : (p : List ListingLine) (ps : List (List ListingLine)) → AllBegin (p ∷ ps) → AllBegin (p ∷ []) × AllBegin ps
begin_parts [] ps b = absurd b
begin_parts (l ∷ ls) ps b = ((b.0, tt), b.1)

begin_cons : (p : List ListingLine) (ps : List (List ListingLine)) → AllBegin (p ∷ []) → AllBegin ps → AllBegin (p ∷ ps)
begin_cons [] ps a b = absurd a
begin_cons (l ∷ ls) ps a b = (a.0, b)

-- parts of the lines in which the window gave way, of which the k-th alone takes fewer bytes and has fewer places
record AreGiven (write : Instr → List ℕ) (p count : ℕ) (new : List Instr) (find : Name → Option NameLocation) (k : ℕ) (parts : List (List ListingLine)) (footprints : List Footprint) : Type 0 where
  news : List (List ListingLine)
  lines : replaced_lines write p count new (joined parts) ≡ joined news
  names : (name : Name) (n : ℕ) → part_of name n news ≡ part_of name n parts
  footprints_are : AreFootprintsOf find news (lessen k (2 * (count - length new)) (count - length new) footprints)
  begin : AllBegin parts → AllBegin news
  behind : AllBegin (behind_first_part parts) → AllBegin (behind_first_part news)

given_first : (write : Instr → List ℕ) (p count : ℕ) (new : List Instr) (find : Name → Option NameLocation) (part : List ListingLine) (ps : List (List ListingLine)) (s : Footprint) (ss : List Footprint) → IsGiven write p count new part → BeginsAlike part (replaced_lines write p count new part)
    → AreFootprintsOf find (part ∷ ps) (s ∷ ss) → AreGiven write p count new find 0 (part ∷ ps) (s ∷ ss)
given_first write p count new find part ps s ss g a h = record {
  news = replaced_lines write p count new part ∷ ps;
  lines = g.back (joined ps);
  names = λ name n. ap (λ names. if is_among name names then Some n else part_of name (n + 1) ps) a.names;
  footprints_are = (footprint_less find (count - length new) part (replaced_lines write p count new part) s a g.less h.0, h.1);
  begin = λ b. let c = begin_parts part ps b in begin_cons (replaced_lines write p count new part) ps (a.begin c.0) c.1;
  behind = λ b. b;
}

given_later : (write : Instr → List ℕ) (p m count : ℕ) (new : List Instr) (find : Name → Option NameLocation) (k : ℕ) (part : List ListingLine) (ps : List (List ListingLine)) (s : Footprint) (ss : List Footprint) → p ≡ length (places_of part) + m → IsFootprintOf find part s
    → AreGiven write m count new find k ps ss → AreGiven write p count new find (suc k) (part ∷ ps) (s ∷ ss)
given_later write p m count new find k part ps s ss e h r = record {
  news = part ∷ r.news;
  lines = past_lines write count new part (joined ps) p m e ∙ ap (λ x. part ++ x) r.lines;
  names = λ name n. ap (λ o. if is_among name (first_names part) then Some n else o) (r.names name (n + 1));
  footprints_are = (h, r.footprints_are);
  begin = λ b. let c = begin_parts part ps b in begin_cons part r.news c.0 (r.begin c.1);
  behind = r.begin;
}

-- where a window begins in the part of that footprint, it stands in it, and gives way there
record StandsIn (write : Instr → List ℕ) (p : ℕ) (window new : List Instr) (find : Name → Option NameLocation) (k : ℕ) (parts : List (List ListingLine)) (footprints : List Footprint) (s : Footprint) : Type 0 where
  within : (p - total_places (take k footprints)) + length window ≤ s.places
  bytes : 2 * length window ≤ s.bytes
  given : AreGiven write p (length window) new find k parts footprints

stands_first : (write : Instr → List ℕ) (i : Instr) (is new : List Instr) → length new ≤ suc (length is) → list_all is_in_window new ≡ true → (find : Name → Option NameLocation) (part : List ListingLine) (ps : List (List ListingLine)) (s : Footprint) (ss : List Footprint) (j : Bool) (p : ℕ)
    → AreFootprintsOf find (part ∷ ps) (s ∷ ss) → AllBegin ps → p < s.places → Fits true (i ∷ is) (drop p (rows_from j (part ++ joined ps))) → StandsIn write p (i ∷ is) new find 0 (part ∷ ps) (s ∷ ss) s
stands_first write i is new short in_window find part ps s ss j p h b less f =
    let rows = rows_length j part in
    let places = h.0.places in
    let bytes = h.0.bytes in
    let cut : Fits true (i ∷ is) (drop p (rows_from j part ++ rows_from (still_joined j part) (joined ps))) = subst (λ rs. Fits true (i ∷ is) (drop p rs)) (rows_append j part (joined ps)) f in
    let fits = fits_within i is p (rows_from j part) (rows_from (still_joined j part) (joined ps)) (parts_apart (still_joined j part) ps b) (omega arith) cut in
    let end = fits_end i is p (rows_from j part) fits in
    let size = lines_size part in
    record {
      within = omega arith;
      bytes = omega arith;
      given = given_first write p (suc (length is)) new find part ps s ss (given write i is new short in_window part j p fits) (alike_given write p (suc (length is)) new part j i is h.0.bare fits) h;
    }

-- rows behind a part
fits_behind : (i : Instr) (is : List Instr) (j : Bool) (part rest : List ListingLine) (p m : ℕ) → p ≡ length (places_of part) + m → Fits true (i ∷ is) (drop p (rows_from j (part ++ rest))) → Fits true (i ∷ is) (drop m (rows_from (still_joined j part) rest))
fits_behind i is j part rest p m e f =
    let rows = rows_length j part in
    subst (λ rs. Fits true (i ∷ is) rs) (ap (drop p) (rows_append j part rest) ∙ drop_back (rows_from j part) (rows_from (still_joined j part) rest) p m (omega arith)) f

stands_in : (write : Instr → List ℕ) (i : Instr) (is new : List Instr) → length new ≤ suc (length is) → list_all is_in_window new ≡ true → (find : Name → Option NameLocation) (k : ℕ) (parts : List (List ListingLine)) (footprints : List Footprint) (s : Footprint) (j : Bool) (p : ℕ)
    → AreFootprintsOf find parts footprints → AllBegin (behind_first_part parts) → slice_get footprints k ≡ Some s → total_places (take k footprints) ≤ p → p < total_places (take k footprints) + s.places
    → Fits true (i ∷ is) (drop p (rows_from j (joined parts))) → StandsIn write p (i ∷ is) new find k parts footprints s
stands_in write i is new short in_window find k [] [] s j p h b e from until f = absurd (cc)
stands_in write i is new short in_window find k [] (t ∷ ss) s j p h b e from until f = absurd h
stands_in write i is new short in_window find k (part ∷ ps) [] s j p h b e from until f = absurd h
stands_in write i is new short in_window find zero (part ∷ ps) (t ∷ ss) s j p h b e from until f =
    let same : t ≡ s = cc in
    let places = ap (λ (x : Footprint). x.places) same in
    subst (λ x. StandsIn write p (i ∷ is) new find 0 (part ∷ ps) (t ∷ ss) x) same (stands_first write i is new short in_window find part ps t ss j p h b (omega arith) f)
stands_in write i is new short in_window find (suc k) (part ∷ ps) (t ∷ ss) s j p h b e from until f =
    let places = h.0.places in
    let m : ℕ = p - length (places_of part) in
    let ahead : p ≡ length (places_of part) + m = omega arith in
    let r = stands_in write i is new short in_window find k ps ss s (still_joined j part) m h.1 (behind_begin ps b) e (omega arith) (omega arith) (fits_behind i is j part (joined ps) p m ahead f) in
    let within = r.within in
    record { within = omega arith; bytes = r.bytes; given = given_later write p m (suc (length is)) new find k part ps t ss ahead h.0 r.given }
  where
    behind_begin : (ps : List (List ListingLine)) → AllBegin ps → AllBegin (behind_first_part ps)
    behind_begin [] b = tt
    behind_begin (q ∷ ps) b = (begin_parts q ps b).1

-- ---- cuts ----

-- a window that begins in a part
pub record BeginsIn (lines : List ListingLine) (footprints : List Footprint) (here first place : ℕ) (s : Footprint) (window : List Instr) : Type 0 where
  pub cut : AreCut lines footprints
  pub is_footprint : slice_get footprints here ≡ Some s
  pub first_is : first ≡ total_places (take here footprints)
  pub from : first ≤ place
  pub until : place < first + s.places
  pub is_window : IsWindow lines place window
  pub some : 0 < length window

window_stands : (write : Instr → List ℕ) (lines : List ListingLine) (footprints : List Footprint) (here first place : ℕ) (s : Footprint) (window new : List Instr) → length new ≤ length window → list_all is_in_window new ≡ true → (b : BeginsIn lines footprints here first place s window)
    → StandsIn write place window new (target_in b.cut.parts) here b.cut.parts footprints s
window_stands write lines footprints here first place s [] new short in_window b = absurd (let h = b.some in omega arith)
window_stands write lines footprints here first place s (i ∷ is) new short in_window b =
    let from = b.from in
    let until = b.until in
    let first_is = b.first_is in
    let fits = subst (λ ls. Fits true (i ∷ is) (drop place (rows_from false ls))) b.cut.is (window_fits lines place (i ∷ is) (omega arith) b.is_window) in
    stands_in write i is new short in_window (target_in b.cut.parts) here b.cut.parts footprints s false place b.cut.footprints_are b.cut.begin b.is_footprint (omega arith) (omega arith) fits

target_same : (old new : List (List ListingLine)) (name : Name) → part_of name 0 new ≡ part_of name 0 old → set_address name (joined old) ≡ set_address name (joined new) → target_in old name ≡ target_in new name
target_same old new name part set = ap (λ o. target_at o (cleared (set_address name (joined old)))) (sym part) ∙ ap (λ a. target_at (part_of name 0 new) (cleared a)) set

-- it stands within that part, which takes two bytes for each of its instructions
pub window_within : (lines : List ListingLine) (footprints : List Footprint) (here first place : ℕ) (s : Footprint) (window : List Instr) → BeginsIn lines footprints here first place s window → ((place - first) + length window ≤ s.places) × (2 * length window ≤ s.bytes)
window_within lines footprints here first place s window b =
    let r = window_stands (λ i. []) lines footprints here first place s window [] (omega arith) refl b in
    let within = r.within in
    let first_is = b.first_is in
    (omega arith, r.bytes)

-- where it gives way to fewer instructions, the lines are cut into the same parts, of which that one takes fewer bytes and has fewer places
pub window_gives_way : (write : Instr → List ℕ) (lines : List ListingLine) (footprints : List Footprint) (here first place : ℕ) (s : Footprint) (window new : List Instr) → length new ≤ length window → list_all is_in_window new ≡ true → BeginsIn lines footprints here first place s window
    → AreCut (replaced_lines write place (length window) new lines) (lessen here (2 * (length window - length new)) (length window - length new) footprints)
window_gives_way write lines footprints here first place s window new short in_window b =
    let parts : List (List ListingLine) = b.cut.parts in
    let g = (window_stands write lines footprints here first place s window new short in_window b).given in
    let news : List (List ListingLine) = g.news in
    let sets : (name : Name) → set_address name (joined parts) ≡ set_address name (joined news) = λ name. sets_kept write place (length window) new (joined parts) name ∙ ap (set_address name) g.lines in
    let same : (name : Name) → target_in parts name ≡ target_in news name = λ name. target_same parts news name (g.names name 0) (sets name) in
    record {
      parts = news;
      is = ap (replaced_lines write place (length window) new) b.cut.is ∙ g.lines;
      footprints_are = footprints_same (target_in parts) (target_in news) same news (lessen here (2 * (length window - length new)) (length window - length new) footprints) g.footprints_are;
      begin = g.behind b.cut.begin;
    }
