-- Lines that mention no name and set no address, as those of `demo`: they can be laid out and have an image, and stay such lines when they are rewritten.
use Rattle.std.proofs.Common.{◌≡◌, ◌∙◌, ℕ, zero, suc, ◌+◌, ◌-◌, ◌==◌, ◌&&◌, Bool, true, false, List, [], ◌∷◌, ◌++◌, length, map, inl, inr, refl, sym, ap, subst, true≢false, Option, Some, None}
use Rattle.std.proofs.lemmas.Bool.{cases_Bool}
use Rattle.thumb_instr.specs.declared.instr.Instr.{Instr}
use Rattle.thumb_instr.specs.Window.{renamed}
use Rattle.thumb_model.specs.Listing.{Name, Statement, Nothing, Instruction, Words, Aligns, Sets, ListingLine, places_in}
use Rattle.thumb_model.specs.Layout.{Fault, Layable, size_at, fault_at, or_first as or_first_fault, faults_from, lies_in}
use Rattle.rule_model.specs.Rules.{Rule}
use Rattle.rule_model.specs.Rewriting.{Setting, Replacement, AreRewritten, lines_after, lines_after_rule}
use Rattle.thumb_model.specs.Replaced.{is_op, without, labels_kept, new_line, replaced_lines}
use Rattle.listing_parser.specs.Targets.{is_on_target, first_target}
use Rattle.thumb_assembler.specs.Bytes.{flaw_of, flaws_from, first_flaw}

abbrev pub is_mute : Statement → Bool
is_mute Nothing = true
is_mute (Instruction i None) = true
is_mute (Instruction i (Some m)) = false
is_mute (Words vs) = false
is_mute (Aligns size most) = false
is_mute (Sets name address) = false

abbrev pub AreMute : List ListingLine → Type 0
AreMute [] = Unit {0}
AreMute (l ∷ ls) = (is_mute l.statement ≡ true) × AreMute ls

-- ---- nothing is wrong with them ----

on_target : (all : List ListingLine) (marked : List Name) (s : Statement) → is_mute s ≡ true → is_on_target all marked s ≡ true
on_target all marked Nothing e = refl
on_target all marked (Instruction i None) e = refl
on_target all marked (Instruction i (Some m)) e = absurd (true≢false (sym e))
on_target all marked (Words vs) e = absurd (true≢false (sym e))
on_target all marked (Aligns size most) e = refl
on_target all marked (Sets name address) e = refl

pub all_aimed : (all : List ListingLine) (marked : List Name) (n : ℕ) (ls : List ListingLine) → AreMute ls → first_target all marked n ls ≡ None
all_aimed all marked n [] mute = refl
all_aimed all marked n (l ∷ ls) mute = rw (on_target all marked l.statement mute.0) (all_aimed all marked (n + 1) ls mute.1)

no_fault : (lies : Name → Option ℕ) (at : ℕ) (s : Statement) → is_mute s ≡ true → fault_at lies at s ≡ None
no_fault lies at Nothing e = refl
no_fault lies at (Instruction i None) e = refl
no_fault lies at (Instruction i (Some m)) e = absurd (true≢false (sym e))
no_fault lies at (Words vs) e = refl
no_fault lies at (Aligns size most) e = refl
no_fault lies at (Sets name address) e = refl

no_faults : (lies : Name → Option ℕ) (n at : ℕ) (ls : List ListingLine) → AreMute ls → faults_from lies n at ls ≡ None
no_faults lies n at [] mute = refl
no_faults lies n at (l ∷ ls) mute =
    ap (λ (f : Option Fault). or_first_fault n f (faults_from lies (n + 1) (at + size_at l.statement at) ls)) (no_fault lies at l.statement mute.0)
    ∙ no_faults lies (n + 1) (at + size_at l.statement at) ls mute.1

pub mute_layable : (base : ℕ) (ls : List ListingLine) → AreMute ls → Layable base ls
mute_layable base ls mute = no_faults (lies_in base ls) 1 base ls mute

no_flaw : (base : ℕ) (all : List ListingLine) (s : Statement) → is_mute s ≡ true → flaw_of base all s ≡ None
no_flaw base all Nothing e = refl
no_flaw base all (Instruction i None) e = refl
no_flaw base all (Instruction i (Some m)) e = absurd (true≢false (sym e))
no_flaw base all (Words vs) e = absurd (true≢false (sym e))
no_flaw base all (Aligns size most) e = refl
no_flaw base all (Sets name address) e = absurd (true≢false (sym e))

no_flaws : (base : ℕ) (all : List ListingLine) (n : ℕ) (ls : List ListingLine) → AreMute ls → flaws_from base all n ls ≡ None
no_flaws base all n [] mute = refl
no_flaws base all n (l ∷ ls) mute = rw (no_flaw base all l.statement mute.0) (no_flaws base all (n + 1) ls mute.1)

pub mute_flawless : (base : ℕ) (ls : List ListingLine) → AreMute ls → first_flaw base ls ≡ None
mute_flawless base ls mute = no_flaws base ls 1 ls mute

-- ---- rewriting ----

pub new_mute : (write : Instr → List ℕ) (is : List Instr) (ls : List ListingLine) → AreMute ls → AreMute (map (new_line write) is ++ ls)
new_mute write [] ls mute = mute
new_mute write (i ∷ is) ls mute = (refl, new_mute write is ls mute)

labels_mute : (l : ListingLine) (ns : List Name) (ls : List ListingLine) → AreMute ls → AreMute (labels_kept l ns ++ ls)
labels_mute l [] ls mute = mute
labels_mute l (n ∷ ns) ls mute = (refl, mute)

without_mute : (n : ℕ) (ls : List ListingLine) → AreMute ls → AreMute (without n ls)
without_mute n [] mute = mute
without_mute zero (l ∷ ls) mute = mute
without_mute (suc n) (l ∷ ls) mute = elim (cases_Bool (is_op l.statement)) [
  | inl op ↦ rw op (without_mute n ls mute.1)
  | inr op ↦ rw op (mute.0, without_mute (suc n) ls mute.1)
]

replaced_mute : (write : Instr → List ℕ) (p count : ℕ) (is : List Instr) (ls : List ListingLine) → AreMute ls → AreMute (replaced_lines write p count is ls)
replaced_mute write p count is [] mute = mute
replaced_mute write p count is (l ∷ ls) mute = elim (cases_Bool (is_op l.statement && (p == 0))) [
  | inl here ↦ rw here (labels_mute l l.names (map (new_line write) is ++ without (count - 1) ls) (new_mute write is (without (count - 1) ls) (without_mute (count - 1) ls mute.1)))
  | inr here ↦ rw here (mute.0, replaced_mute write (p - length (places_in l.statement)) count is ls mute.1)
]

after_mute : (s : Setting) (o : Option Rule) (r : Replacement) (ls : List ListingLine) → AreMute ls → AreMute (lines_after_rule s o r ls)
after_mute s None r ls mute = mute
after_mute s (Some rule) r ls mute = replaced_mute s.write r.place (length rule.left) (map (renamed r.registers) rule.right) ls mute

pub rewritten_mute : (s : Setting) (ls : List ListingLine) (rs : List Replacement) (new : List ListingLine) → AreRewritten s ls rs new → AreMute ls → AreMute new
rewritten_mute s ls [] new h mute = subst AreMute (sym h.1) mute
rewritten_mute s ls (r ∷ rs) new h mute = rewritten_mute s (lines_after s r ls) rs new h.1 (after_mute s _ r ls mute)
