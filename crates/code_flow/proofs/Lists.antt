-- Unions of items as lists.
use Rattle.std.proofs.Common.{◌≡◌, ◌∙◌, ℕ, ◌==◌, ◌&&◌, ◌||◌, not, Bool, true, false, List, [], ◌∷◌, ◌++◌, refl, sym, ap}
use Rattle.std.proofs.Math.Bool.{or-false}
use Rattle.thumb_instr.specs.Items.{one_of, has, sp}
use Rattle.thumb_instr.proofs.Listed.{one_of_append, one_of_filter}
use Rattle.thumb_model.specs.States.{registers_left}
use Rattle.thumb_model.specs.Flow.{left_but}

-- the union of two sets has what either list has
pub united : (a b u x : ℕ) (xs ys : List ℕ) → has u x ≡ (has a x || has b x) → has a x ≡ one_of x xs → has b x ≡ one_of x ys → has u x ≡ one_of x (xs ++ ys)
united a b u x xs ys e f g = e ∙ ap (λ t. t || has b x) f ∙ ap (λ t. one_of x xs || t) g ∙ sym (one_of_append x xs ys)

-- sp and what is left of r0 to r11, sp and lr
pub left_over : (a b m w u x : ℕ) (list : List ℕ) → has a x ≡ one_of x (sp ∷ []) → has b x ≡ one_of x registers_left → has w x ≡ one_of x (sp ∷ list) → has m x ≡ (has b x && not (has w x)) → has u x ≡ (has a x || has m x)
    → has u x ≡ one_of x (sp ∷ left_but list)
left_over a b m w u x list ea eb ew em eu =
    eu ∙ ap (λ t. t || has m x) (ea ∙ or-false (x == sp))
    ∙ ap (λ t. (x == sp) || t) (em ∙ ap (λ t. t && not (has w x)) eb ∙ ap (λ t. one_of x registers_left && not t) ew)
    ∙ once (x == sp) (one_of x registers_left) (one_of x list)
    ∙ ap (λ t. (x == sp) || t) (sym (one_of_filter x (λ y. not (one_of y list)) registers_left))
  where
    once : (s l r : Bool) → (s || (l && not (s || r))) ≡ (s || (l && not r))
    once true l r = refl
    once false l r = refl
