-- A steady listing can be laid out, and stays steady when instructions are replaced by runs that are no longer.
use Rattle.std.proofs.Common.{◌≡◌, ◌∙◌, inl, inr, ℕ, zero, suc, ◌+◌, ◌%◌, ◌≤◌, ◌&&◌, true, List, [], ◌∷◌, ◌++◌, length, take, map, Option, Some, None, refl, sym, ap, subst, arith, if◌then◌else◌}
use Rattle.std.proofs.lemmas.Bool.{cases_Bool, and_parts, and_from}
use Rattle.std.proofs.lemmas.List.{append-nil}
use Rattle.thumb_instr.specs.declared.instr.Instr.{Instr}
use Rattle.thumb_instr.specs.Window.{Low, renamed, is_in_window}
use Rattle.thumb_instr.proofs.RenamingLemmas.{window_renamed}
use Rattle.thumb_model.specs.Listing.{Name, Statement, Instruction, ListingLine, Place, Op, Word, plain}
use Rattle.thumb_model.specs.Layout.{instr_size, size_at, is_among, label_address, set_in, set_address, cleared, or_else, lies_in, fault_at, faults_from, Layable}
use Rattle.thumb_model.specs.Effect.{AreOver, normalised}
use Rattle.thumb_model.proofs.Window.{normal_in_window}
use Rattle.steady_layout.specs.declared.starts.Start.{Start}
use Rattle.steady_layout.specs.Steady.{first, widest_end, label_start, steady_at, all_steady, labels_in, sets_in, IsSteady}
use Rattle.steady_layout.proofs.Nearer.{IsWithin, IsTold, AreTold, address_of, aim_free}
use Rattle.steady_layout.proofs.Padding.{some_bytes, size_most, ends_told}
use Rattle.steady_layout.proofs.Walks.{after, look, ending, steady_by, AreLess, IsLater, ahead_earlier, Tails, no_tails, ahead, backs_later, Known, IsWalked, walk, ending_append, steady_append}
use Rattle.steady_layout.proofs.Cuts.{most, IsNoLonger, ending_is, look_bare, look_unnamed, steady_bare, ArePlain, AreTwos, IsCut}
use Rattle.thumb_model.proofs.Shared.{two_bytes}

-- ---- the definitions' layout is that of the greatest sizes ----

ends_so : (here : Start) (ls : List ListingLine) → widest_end here ls ≡ ending most here ls
ends_so here [] = refl
ends_so here (l ∷ ls) = ends_so (after most here l.statement) ls

labels_so : (name : Name) (here : Start) (ls : List ListingLine) → label_start name here ls ≡ look most name here ls
labels_so name here [] = refl
labels_so name here (l ∷ ls) = ap (λ o. if is_among name l.names then Some here else o) (labels_so name (after most here l.statement) ls)

steady_so : (labels : Name → Option Start) (sets : Name → Option ℕ) (base : ℕ) (here : Start) (ls : List ListingLine) → all_steady labels sets base here ls ≡ steady_by most labels sets base here ls
steady_so labels sets base here [] = refl
steady_so labels sets base here (l ∷ ls) = ap (λ b. steady_at labels sets base here l.statement && b) (steady_so labels sets base (after most here l.statement) ls)

-- ---- a steady listing can be laid out ----

widest_less : AreLess most size_at
widest_less = record { less = λ s a b. size_most s b; some_old = λ i m a. some_bytes i; some_new = λ i m a. some_bytes i }

told_step : (here : Start) (s : Statement) → IsTold here → IsTold (after size_at here s)
told_step here s t e = ends_told s here.aligned here.at t e

told_labels : (name : Name) (here : Start) (ls : List ListingLine) → IsTold here → AreTold (look size_at name here ls)
told_labels name here [] t = tt
told_labels name here (l ∷ ls) t = elim (cases_Bool (is_among name l.names)) [
  | inl h ↦ rw h t
  | inr h ↦ rw h (told_labels name (after size_at here l.statement) ls (told_step here l.statement t))
]

addresses_so : (name : Name) (here : Start) (ls : List ListingLine) → label_address name here.at ls ≡ address_of (look size_at name here ls)
addresses_so name here [] = refl
addresses_so name here (l ∷ ls) = elim (cases_Bool (is_among name l.names)) [
  | inl h ↦ rw h refl
  | inr h ↦ rw h (addresses_so name (after size_at here l.statement) ls)
]

statement_free : (labels : Name → Option Start) (sets lies : Name → Option ℕ) (base : ℕ) (here : Start) (s : Statement) → ((name : Name) → AreTold (labels name)) → ((name : Name) → lies name ≡ or_else (address_of (labels name)) (sets name))
    → steady_at labels sets base here s ≡ true → fault_at lies here.at s ≡ None
statement_free labels sets lies base here (Instruction i (Some m)) t is e = rw (is m.name) (aim_free base here i (labels m.name) (sets m.name) m.plus (t m.name) e)
statement_free labels sets lies base here s t is e = refl

lines_free : (labels : Name → Option Start) (sets lies : Name → Option ℕ) (base : ℕ) → ((name : Name) → AreTold (labels name)) → ((name : Name) → lies name ≡ or_else (address_of (labels name)) (sets name))
    → (ls : List ListingLine) (here : Start) (n : ℕ) → steady_by size_at labels sets base here ls ≡ true → faults_from lies n here.at ls ≡ None
lines_free labels sets lies base t is [] here n e = refl
lines_free labels sets lies base t is (l ∷ ls) here n e =
    let p = and_parts _ _ e in
    rw (statement_free labels sets lies base here l.statement t is p.0) (lines_free labels sets lies base t is ls (after size_at here l.statement) (n + 1) p.1)

same_within : (here : Start) → IsWithin here here
same_within here = record { at = omega arith; aligned = λ e. e }

pub steady_is_layable : (base : ℕ) (ls : List ListingLine) → base % 4 ≡ 0 → IsSteady base ls → Layable base ls
steady_is_layable base ls whole h =
    let start : Start = first base in
    let old : Name → Option Start = labels_in base ls in
    let new : Name → Option Start = λ name. look size_at name start ls in
    let sets : Name → Option ℕ = sets_in ls in
    let end : ls ++ [] ≡ ls = append-nil ls in
    let known : Known most size_at old new start start (ls ++ []) (ls ++ []) = subst (λ x. Known most size_at old new start start x x) (sym end) (λ name. inr (labels_so name start ls, refl)) in
    let w = walk most size_at widest_less old new sets sets base (λ name. refl) [] [] (no_tails most size_at) ls start start (omega arith) (same_within start) known (sym (steady_so old sets base start ls) ∙ h.steady) in
    lines_free new sets (lies_in base ls) base (λ name. told_labels name start ls (λ e. whole)) (λ name. ap (λ o. or_else o (sets name)) (addresses_so name start ls)) ls start 1 w.steady

-- ---- a steady listing stays so ----

most_less : AreLess most most
most_less = record { less = λ s a b. omega arith; some_old = λ i m a. some_bytes i; some_new = λ i m a. some_bytes i }

same_tails : (ls : List ListingLine) → Tails most most ls ls
same_tails ls = subst (λ x. Tails most most x x) (append-nil ls) (ahead most most most_less [] [] (no_tails most most) ls)

run_within : (old new : List ListingLine) → IsNoLonger old new → (o n : Start) → IsWithin o n → IsWithin (ending most o old) (ending most n new)
run_within old new r o n w = rw (ending_is o old, ending_is n new) (record { at = let b = r.bytes in let a = w.at in omega arith; aligned = r.aligned o.aligned n.aligned w.aligned })

run_later : (old new : List ListingLine) → IsNoLonger old new → (o n : Start) → IsLater o n (ending most o old) (ending most n new)
run_later old new r o n = rw (ending_is o old, ending_is n new) (record { old = omega arith; new = omega arith; nearer = let b = r.bytes in omega arith })

run_tails : (old new back : List ListingLine) → IsNoLonger old new → Tails most most (old ++ back) (new ++ back)
run_tails old new back r name o n w =
    rw (look_unnamed name o old back r.unnamed_old, look_bare name n new back r.bare_new)
    (ahead_earlier o n (ending most o old) (ending most n new) _ _ (run_later old new r o n) (same_tails back name (ending most o old) (ending most n new) (run_within old new r o n w)))

run_known : (old new back : List ListingLine) → IsNoLonger old new → (lo ln : Name → Option Start) (o n : Start) → Known most most lo ln o n (old ++ back) (new ++ back) → Known most most lo ln (ending most o old) (ending most n new) back back
run_known old new back r lo ln o n k name = elim (k name) [
  | inl b ↦ inl (backs_later o n (ending most o old) (ending most n new) (lo name) (ln name) (run_later old new r o n) b)
  | inr e ↦ inr (e.0 ∙ look_unnamed name o old back r.unnamed_old, e.1 ∙ look_bare name n new back r.bare_new)
]

front_sets : (name : Name) (xs ys zs : List ListingLine) → set_address name ys ≡ set_address name zs → set_address name (xs ++ ys) ≡ set_address name (xs ++ zs)
front_sets name [] ys zs e = e
front_sets name (x ∷ xs) ys zs e = ap (set_in name x.statement) (front_sets name xs ys zs e)

pub cut_stays : (base : ℕ) (ls news : List ListingLine) → IsCut ls news → IsSteady base ls → IsSteady base news
cut_stays base ls news c h =
    let r = c.no_longer in
    let start : Start = first base in
    let lo : Name → Option Start = labels_in base ls in
    let ln : Name → Option Start = labels_in base news in
    let zo : Name → Option ℕ = sets_in ls in
    let zn : Name → Option ℕ = sets_in news in
    let olds : List ListingLine = c.old ++ c.back in
    let rest : List ListingLine = c.new ++ c.back in
    let same : (name : Name) → zo name ≡ zn name = λ name. ap cleared (c.alike.sets name ∙ front_sets name c.front olds rest (r.sets name c.back) ∙ ap (set_address name) (sym c.is_new)) in
    let whole : steady_by most lo zo base start (c.front ++ olds) ≡ true = sym (c.alike.steady lo zo base start) ∙ sym (steady_so lo zo base start ls) ∙ h.steady in
    let parts = and_parts _ _ (sym (steady_append most lo zo base start c.front olds) ∙ whole) in
    let known : Known most most lo ln start start (c.front ++ olds) (c.front ++ rest) = λ name. inr (labels_so name start ls ∙ c.alike.look name start, labels_so name start news ∙ ap (look most name start) c.is_new) in
    let w = walk most most most_less lo ln zo zn base same olds rest (run_tails c.old c.new c.back r) c.front start start (omega arith) (same_within start) known parts.0 in
    let o : Start = ending most start c.front in
    let o2 : Start = ending most o c.old in
    let n2 : Start = ending most o c.new in
    let inner : (steady_by most lo zo base o c.old ≡ true) × (steady_by most lo zo base o2 c.back ≡ true) = and_parts _ _ (sym (steady_append most lo zo base o c.old c.back) ∙ parts.1) in
    let end : c.back ++ [] ≡ c.back = append-nil c.back in
    let later = run_later c.old c.new r o o in
    let up : o.at ≤ n2.at = later.new in
    let above = w.above in
    let known2 : Known most most lo ln o2 n2 (c.back ++ []) (c.back ++ []) = subst (λ x. Known most most lo ln o2 n2 x x) (sym end) (run_known c.old c.new c.back r lo ln o o w.known) in
    let v : IsWalked most most lo ln zn base o2 n2 c.back [] [] = walk most most most_less lo ln zo zn base same [] [] (no_tails most most) c.back o2 n2 (omega arith) (run_within c.old c.new r o o (same_within o)) known2 inner.1 in
    let old_end : widest_end start ls ≡ ending most o2 c.back = ends_so start ls ∙ c.alike.ending start ∙ ending_append most start c.front olds ∙ ending_append most o c.old c.back in
    let new_end : widest_end start news ≡ ending most n2 c.back = ends_so start news ∙ ap (ending most start) c.is_new ∙ ending_append most start c.front rest ∙ ending_append most o c.new c.back in
    let end_at : (widest_end start ls).at ≡ (ending most o2 c.back).at = ap (λ (s : Start). s.at) old_end in
    let new_at : (widest_end start news).at ≡ (ending most n2 c.back).at = ap (λ (s : Start). s.at) new_end in
    record {
      in_code = let a = v.within.at in let b = h.in_code in omega arith;
      steady =
          steady_so ln zn base start news
          ∙ ap (steady_by most ln zn base start) c.is_new
          ∙ steady_append most ln zn base start c.front rest
          ∙ and_from _ _ w.steady (steady_append most ln zn base o c.new c.back ∙ and_from _ _ (steady_bare ln zn base o c.new r.bare_new) v.steady);
    }

-- ---- windows and what stands for them ----

abbrev AreIn : List Instr → Type 0
AreIn [] = Unit {0}
AreIn (i ∷ is) = (is_in_window i ≡ true) × AreIn is

pub twos_of : (is : List Instr) → AreIn is → AreTwos is
twos_of [] h = tt
twos_of (i ∷ is) h = (two_bytes i h.0, twos_of is h.1)

pub renamed_in : (registers : List Low) (k : ℕ) (is : List Instr) → AreOver k is → AreIn (map (renamed registers) is)
renamed_in registers k [] h = tt
renamed_in registers k (i ∷ is) h = (window_renamed registers i h.0, renamed_in registers k is h.2)

pub window_in : (is js : List Instr) → map normalised is ≡ js → AreIn js → AreIn is
window_in [] js e h = tt
window_in (i ∷ is) [] e h = absurd (cc)
window_in (i ∷ is) (j ∷ js) e h =
    let here : normalised i ≡ j = cc in
    let there : map normalised is ≡ js = cc in
    (sym (normal_in_window i) ∙ ap is_in_window here ∙ h.0, window_in is js there h.1)

pub plain_of : (is : List Instr) (n : ℕ) (ps : List Place) → n ≡ length is → take n ps ≡ map plain is → AreTwos is → ArePlain n ps
plain_of [] zero ps e h t = tt
plain_of (i ∷ is) zero ps e h t = absurd (omega arith)
plain_of [] (suc n) ps e h t = absurd (omega arith)
plain_of (i ∷ is) (suc n) [] e h t = absurd (cc)
plain_of (i ∷ is) (suc n) (Op j None ∷ ps) e h t = let same : j ≡ i = cc in (ap instr_size same ∙ t.0, plain_of is n ps (omega arith) (cc) t.1)
plain_of (i ∷ is) (suc n) (Op j (Some m) ∷ ps) e h t = absurd (cc)
plain_of (i ∷ is) (suc n) (Word w ∷ ps) e h t = absurd (cc)
