-- Binding two instructions that may stand in windows: their kinds have to be the same, and their registers and numbers are bound one by one.
use Rattle.std.proofs.Common.{◌≡◌, ◌∙◌, ℕ, Bool, true, List, ◌∷◌, ◌++◌, map, Option, refl, sym, ap, subst}
use Rattle.std.specs.Prelude.{◌↔◌, false, Some, None, IsSome, is_some}
use Rattle.std.proofs.lemmas.Option.{same_Some}
use Rattle.thumb_instr.specs.declared.kind.Kind.{Kind}
use Rattle.seq_enum.specs.Places.{rank}
use Rattle.seq_enum.proofs.Mnemonics.{IsPlace-rank}
use Rattle.thumb_instr.specs.declared.instr.Instr.TheVariants as instr
use Rattle.thumb_instr.specs.declared.instr.Instr.{Instr}
use Rattle.thumb_instr.specs.declared.kind.Parts.{Parts}
use Rattle.thumb_instr.specs.declared.role.Operands.{Operands}
use Rattle.thumb_instr.specs.Parts.{parts_of}
use Rattle.thumb_instr.specs.Roles.{roles}
use Rattle.thumb_instr.specs.Window.{is_in_window, normal_of, Low, AreBelow, named_by, named_in, named, renamed}
use Rattle.thumb_instr.proofs.PartLemmas.{same_parts, same_fields}
use Rattle.thumb_instr.proofs.RenamingLemmas.{parts_low}
use Rattle.rule_table.specs.Binding.{number_under, IsBound, Clashes}
use Rattle.rule_table.specs.Matching.{registers_in}
use Rattle.rule_table.proofs.BindingLemmas.{bound_as}
use Rattle.rule_table.proofs.Renamings.{parts_under, renamed_parts}

-- an instruction that may stand in windows has a rank among the mnemonics, and two kinds of the same rank are the same
window_kind : (i : Instr) → is_in_window i ≡ true → IsSome (rank (parts_of i).kind)
window_kind (instr.Mov d m) w = refl
window_kind i w = cc

pub same_kind : (i : Instr) (a b : Kind) → is_in_window i ≡ true → a ≡ (parts_of i).kind → rank a ≡ rank b → a ≡ b
same_kind i a b w is e = at (rank a) refl (subst (λ k. IsSome (rank k)) (sym is) (window_kind i w))
  where
    at : (o : Option ℕ) → rank a ≡ o → IsSome (rank a) → a ≡ b
    at None h listed = absurd (let no : false ≡ true = ap is_some (sym h) ∙ listed in cc)
    at (Some n) h listed = same_Some _ _ (sym ((IsPlace-rank a n h).stands n refl) ∙ (IsPlace-rank b n (sym e ∙ h)).stands n refl)

-- two instructions of one kind, their parts and what these are
pub record AreOfKind (i j : Instr) (p q : Parts) (r : Operands) : Type 0 where
  pub own : p ≡ parts_of i
  pub others : q ≡ parts_of j
  pub kinds : p.kind ≡ q.kind
  pub roles : r ≡ roles p.kind
  pub window : is_in_window i ≡ true

abbrev pub SameUnder : List Low → Parts → Parts → Operands → Type 0
SameUnder f p q r = (number_under f r.first p.first ≡ q.first) × ((number_under f r.second p.second ≡ q.second) × (number_under f r.third p.third ≡ q.third))

-- the one is the other renamed if and only if its operands are those of the other, renamed
same_under : (f : List Low) (i j : Instr) (p q : Parts) (r : Operands) → AreOfKind i j p q r → SameUnder f p q r ↔ (renamed f i ≡ j)
same_under f i j p q r a = (
  λ h. same_parts (renamed f i) j (under ∙ same_fields (parts_under f r p) q a.kinds h.0 h.1.0 h.1.1 ∙ a.others),
  λ e.
      let same : parts_under f r p ≡ q = sym under ∙ ap parts_of e ∙ sym a.others in
      (ap (λ (x : Parts). x.first) same, (ap (λ (x : Parts). x.second) same, ap (λ (x : Parts). x.third) same)),
)
  where
    under : parts_of (renamed f i) ≡ parts_under f r p
    under = renamed_parts f i a.window ∙ ap (λ (x : Parts). parts_under f (roles x.kind) x) (sym a.own) ∙ ap (λ (s : Operands). parts_under f s p) (sym a.roles)

-- to bind their registers and numbers is to bind the instructions
pub instr_bound : (old new : List (Option Low)) (b : Bool) (i j : Instr) (p q : Parts) (r : Operands) → AreOfKind i j p q r → IsBound b old new (named_in r p) (λ f. SameUnder f p q r)
    → IsBound b old new (named i) (λ f. renamed f i ≡ j)
instr_bound old new b i j p q r a h =
    let named_so : named_in r p ≡ named i = ap (λ (s : Operands). named_in s p) a.roles ∙ ap (λ (x : Parts). named_in (roles x.kind) x) a.own in
    bound_as old new (named i) (λ f. SameUnder f p q r) (λ f. renamed f i ≡ j) b (λ f. same_under f i j p q r a) (subst (λ (xs : List ℕ). IsBound b old new xs (λ f. SameUnder f p q r)) named_so h)

-- if the kinds differ, no renaming gives the other
pub kinds_clash : (given : List (Option Low)) (i j : Instr) → is_in_window i ≡ true → ((parts_of i).kind ≡ (parts_of j).kind → ⊥) → Clashes given (named i) (λ f. renamed f i ≡ j)
kinds_clash given i j w differ = λ f h e apart. differ (sym (ap (λ (x : Parts). x.kind) (renamed_parts f i w)) ∙ ap (λ (x : Instr). (parts_of x).kind) e)

-- the registers of both are low ones
pub own_low : (i j : Instr) (p q : Parts) (r : Operands) → AreOfKind i j p q r → AreBelow 8 (named_by r.first p.first) × AreBelow 8 (named_by r.second p.second) × AreBelow 8 (named_by r.third p.third)
own_low i j p q r a = parts_low i p r a.own a.roles a.window

pub others_low : (i j : Instr) (p q : Parts) (r : Operands) → AreOfKind i j p q r → is_in_window j ≡ true
    → AreBelow 8 (named_by r.first q.first) × AreBelow 8 (named_by r.second q.second) × AreBelow 8 (named_by r.third q.third)
others_low i j p q r a w = parts_low j q r a.others (a.roles ∙ ap roles a.kinds) w

-- ---- sequences

-- binding the first instructions and then all that follow binds the sequences
pub all_bound : (old new : List (Option Low)) (b : Bool) (i j k : Instr) (is js left window : List Instr) → left ≡ i ∷ is → window ≡ k ∷ js → j ≡ normal_of k
    → IsBound b old new (named i ++ registers_in is) (λ f. (renamed f i ≡ j) × (map (renamed f) is ≡ map normal_of js))
    → IsBound b old new (registers_in left) (λ f. map (renamed f) left ≡ map normal_of window)
all_bound old new b i j k is js left window l w n h =
    let Both : List Low → Type 0 = λ f. (renamed f i ≡ j) × (map (renamed f) is ≡ map normal_of js) in
    bound_as old new (registers_in left) Both (λ f. map (renamed f) left ≡ map normal_of window) b same (subst (λ (xs : List Instr). IsBound b old new (registers_in xs) Both) (sym l) h)
  where
    same : (f : List Low) → ((renamed f i ≡ j) × (map (renamed f) is ≡ map normal_of js)) ↔ (map (renamed f) left ≡ map normal_of window)
    same f = (
      λ h. ap (map (renamed f)) l ∙ ap (λ x. x ∷ map (renamed f) is) (h.0 ∙ n) ∙ ap (λ xs. normal_of k ∷ xs) h.1 ∙ sym (ap (map normal_of) w),
      λ e.
          let both : renamed f i ∷ map (renamed f) is ≡ normal_of k ∷ map normal_of js = sym (ap (map (renamed f)) l) ∙ e ∙ ap (map normal_of) w in
          let head : renamed f i ≡ normal_of k = cc in
          let tail : map (renamed f) is ≡ map normal_of js = cc in
          (head ∙ sym n, tail),
    )
