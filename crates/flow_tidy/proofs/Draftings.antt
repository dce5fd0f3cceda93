-- What is known of a draft stays known while instructions are removed and branches redirected.
use Rattle.std.proofs.Common.{◌≡◌, ◌∙◌, ◌<◌, ◌≤◌, ℕ, zero, suc, Bool, true, false, List, [], ◌∷◌, length, replicate, Some, ap, refl, subst, sym, arith}
use Rattle.std.specs.Prelude.{slice_set}
use Rattle.thumb_model.specs.Listing.{code_of, places_of, Code, ListingLine, Name}
use Rattle.thumb_model.specs.Replaced.{replaced_lines}
use Rattle.code_flow.specs.Marks.{AreMarks}
use Rattle.kept_places.specs.Marks.{is_gone, rank}
use Rattle.listing_parser.specs.Parsing.{line_mentioning, own_line}
use Rattle.listing_parser.specs.Targets.{aimed_lines}
use Rattle.listing_draft.specs.Drafted.{lines_now, unchanged, Drafted}
use Rattle.listing_draft.proofs.Drafts.{set_length}
use Rattle.flow_tidy.specs.Tidying.{GoesToEnd}
use Rattle.flow_tidy.specs.DuePlaces.{AreDue, IsCaused}
use Rattle.flow_tidy.specs.Quick.{left, IsQuick}
use Rattle.flow_tidy.proofs.Aimed.{aimed_code, code_aimed}
use Rattle.flow_tidy.proofs.Lefts.{left_fewer}
use Rattle.flow_tidy.proofs.Quickly.{code_goes, due_no_more, reached_left}
use Rattle.flow_tidy.proofs.Settled.{due_aimed, marks_aimed, MayVanish}

-- what contracts say of a draft where the instruction at a kept place is removed
pub record IsLeft (d e : Drafted) (p : ℕ) (dues : List Bool) : Type 0 where
  pub given : e.given ≡ d.given
  pub aims : e.aims ≡ d.aims
  pub gone : e.gone ≡ slice_set d.gone p true
  pub lines : lines_now e ≡ replaced_lines own_line (rank d.gone p) 1 [] (lines_now d)
  pub many : length dues ≡ length e.gone
  pub due : AreDue (code_of (lines_now e)) (left e.gone dues)

pub quick_left : (d e : Drafted) (p : ℕ) (marks dues new : List Bool) → p < length d.gone → is_gone d.gone p ≡ false → MayVanish (code_of (lines_now d)) (rank d.gone p) → IsQuick d marks dues → IsLeft d e p new → IsQuick e marks new
quick_left d e p marks dues new within kept goes q h = record {
  many = h.many;
  all = q.all ∙ sym (set_length d.gone p true) ∙ ap length (sym h.gone);
  reached =
      subst (λ (gs : List Bool). AreMarks (code_of (lines_now e)) (left gs marks)) (sym h.gone)
      (reached_left d.gone p (code_of (lines_now d)) (code_of (lines_now e)) within kept goes (code_goes (lines_now d) (lines_now e) (rank d.gone p) goes h.lines) marks q.all q.reached);
  due = h.due;
}

pub quick_aimed : (d e : Drafted) (p : ℕ) (label : Name) (marks dues : List Bool) → GoesToEnd (code_of (lines_now d)) (rank d.gone p) label → e.gone ≡ d.gone → lines_now e ≡ aimed_lines line_mentioning (rank d.gone p) label (lines_now d)
    → IsQuick d marks dues → IsQuick e marks dues
quick_aimed d e p label marks dues g gone lines q =
    let r : ℕ = rank d.gone p in
    let old : Code = code_of (lines_now d) in
    let code : code_of (lines_now e) ≡ aimed_code r label old = ap code_of lines ∙ code_aimed line_mentioning label r (lines_now d) g.i (Some g.mention) g.stands in
    record {
      many = q.many ∙ ap length (sym gone);
      all = q.all ∙ ap length (sym gone);
      reached = subst (λ (gs : List Bool). AreMarks (code_of (lines_now e)) (left gs marks)) (sym gone) (subst (λ (c : Code). AreMarks c (left d.gone marks)) (sym code) (marks_aimed old r label (left d.gone marks) g q.reached));
      due = subst (λ (gs : List Bool). AreDue (code_of (lines_now e)) (left gs dues)) (sym gone) (subst (λ (c : Code). AreDue c (left d.gone dues)) (sym code) (due_aimed old r label (left d.gone dues) g q.due));
    }

pub taken_quick : (d : Drafted) (p : ℕ) (marks dues new : List Bool) → is_gone d.gone p ≡ false → (IsCaused (code_of (lines_now d)) (rank d.gone p) → ⊥) → new ≡ slice_set dues p false → IsQuick d marks dues → IsQuick d marks new
taken_quick d p marks dues new kept never e q = record {
  many = ap length e ∙ set_length dues p false ∙ q.many;
  all = q.all;
  reached = q.reached;
  due = subst (λ (ms : List Bool). AreDue (code_of (lines_now d)) (left d.gone ms)) (sym e) (due_no_more d.gone dues p (code_of (lines_now d)) kept q.due never);
}

-- the lines now have no more places than the given ones
pub few_now : (d : Drafted) (marks dues : List Bool) → IsQuick d marks dues → length (places_of (lines_now d)) ≤ length d.gone
few_now d marks dues q =
    let left_of : length (left d.gone marks) ≡ length (places_of (lines_now d)) = q.reached.len in
    let few = left_fewer d.gone marks in
    omega (arith, left_of, few, q.all)

-- ---- a draft of which nothing is changed ----

left_none : (n : ℕ) (xs : List Bool) → length xs ≡ n → left (replicate n false) xs ≡ xs
left_none zero xs e = refl
left_none (suc n) [] e = refl
left_none (suc n) (x ∷ xs) e = ap (λ (ys : List Bool). x ∷ ys) (left_none n xs (omega arith))

length_of : (n : ℕ) (b : Bool) → length (replicate n b) ≡ n
length_of zero b = refl
length_of (suc n) b = ap suc (length_of n b)

pub quick_first : (ls : List ListingLine) (d : Drafted) (marks dues : List Bool) → d ≡ unchanged ls → lines_now d ≡ ls → AreMarks (code_of ls) marks → AreDue (code_of ls) dues → IsQuick d marks dues
quick_first ls d marks dues is lines a f =
    let m : ℕ = length (places_of ls) in
    let gone : d.gone ≡ replicate m false = ap (λ (x : Drafted). x.gone) is in
    let many : length d.gone ≡ m = ap length gone ∙ length_of m false in
    let all : length marks ≡ m = a.len in
    let due_many : length dues ≡ m = f.len in
    let marks_so : left d.gone marks ≡ marks = ap (λ (gs : List Bool). left gs marks) gone ∙ left_none m marks all in
    let dues_so : left d.gone dues ≡ dues = ap (λ (gs : List Bool). left gs dues) gone ∙ left_none m dues due_many in
    record {
      many = due_many ∙ sym many;
      all = all ∙ sym many;
      reached = subst (λ (l : List ListingLine). AreMarks (code_of l) (left d.gone marks)) (sym lines) (subst (AreMarks (code_of ls)) (sym marks_so) a);
      due = subst (λ (l : List ListingLine). AreDue (code_of l) (left d.gone dues)) (sym lines) (subst (AreDue (code_of ls)) (sym dues_so) f);
    }
