use Rattle.std.proofs.Common.{◌≡◌, ◌∙◌, ℕ, Bool, List, Option, Some, length, ap, sym, subst}
use Rattle.std.specs.Prelude.{slice_get}
use Rattle.window_rewrite.specs.Rules.{is_marked, rules_in}
use Rattle.window_rewrite.proofs.Accepted.{rules_length}
use Rattle.window_rewrite.proofs.Keeping.{none_kept, none_marked}
use Rattle.window_rewrite.proofs.Keys.{none_alone, none_of}
use Rattle.window_rewrite.proofs.shadows.kept_entries.Goals as goal

pub loop-number-init : goal.loop-number-init
loop-number-init c =
    let n : length (rules_in c.args.entries.now) ≡ length c.args.entries.now = rules_length c.args.entries.now in
    none_kept c.args.costs.now (rules_in c.args.entries.now) (record { kept = c.in_ok-vec.field-0; lasts = c.in_ok-vec-2.field-0; earlier = c.in_ok-vec-3.field-0 })
    (sym c.in_ok-vec.field-0.ok.0 ∙ c.in_ok-vec.ensures.len ∙ sym n) (sym c.in_ok-vec-2.field-0.ok.0 ∙ c.in_ok-vec-2.ensures.len ∙ sym n) (sym c.in_ok-vec-3.field-0.ok.0 ∙ c.in_ok-vec-3.ensures.len ∙ sym n)
    (λ q o at. none_of _ q o (subst (λ (l : List (Option ℕ)). slice_get l q ≡ Some o) (c.in_ok-vec-2.ensures.items_if_clones_equal (none_alone _ (λ x e. absurd e))) at))
    (λ q o at. none_of _ q o (subst (λ (l : List (Option ℕ)). slice_get l q ≡ Some o) (c.in_ok-vec-3.ensures.items_if_clones_equal (none_alone _ (λ x e. absurd e))) at))
    (λ q. ap (λ (l : List Bool). is_marked l q) (c.in_ok-vec.ensures.items_if_clones_equal (λ y e. e)) ∙ none_marked _ q)
