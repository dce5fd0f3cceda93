-- A step of the walk that clears, from its parts.
use Rattle.std.proofs.Common.{◌≡◌, ◌+◌, ◌<◌, ◌≤◌, ℕ, true, false, List, length, Option, subst, ◌⊎◌, inl, inr}
use Rattle.thumb_instr.specs.declared.items.Items.{Items}
use Rattle.thumb_instr.specs.Items.{has}
use Rattle.code_flow.specs.declared.way.Ways.{Ways}
use Rattle.liveness.specs.declared.graph.Graph.{Graph}
use Rattle.liveness.specs.Live.{set_at}
use Rattle.kept_places.specs.Marks.{marked}
use Rattle.liveness.specs.Graph.{ways_at, JumpsTo, AreCallers, AreReturns}
use Rattle.liveness.specs.declared.counted.PointSets.{PointSets}
use Rattle.liveness.specs.declared.walk.Walk.{Walk}
use Rattle.liveness.specs.declared.window.Window.{Window}
use Rattle.liveness.specs.Passing.{passes_to, Keeps}
use Rattle.liveness.specs.Walk.{cleared, ClearsOn}
use Rattle.liveness.specs.Clears.{ReturnsClear, ClearsStep}
use Rattle.liveness.proofs.Passings.{passes_leads}

pub clears_step : (all : List (Option Ways)) (g : Graph) (forward : PointSets) (window : Window) (q : ℕ) (k k₁ k₂ k₃ : Walk) (gone gone' items : Items) (fwd : List Items) → fwd ≡ forward.sets.items → ((x : ℕ) → cleared k q x ≡ true → has items.bits x ≡ true) → ClearsOn k k₁ → ClearsOn k₁ k₂ → ClearsOn k₂ k₃
    → ((p x : ℕ) → p + 1 ≡ q → (p < window.first) ⊎ (window.end ≤ p) → has items.bits x ≡ true → passes_to q (ways_at all p) x ≡ true → has (set_at k₁.before.sets.items p) x ≡ true → Keeps all fwd p x)
    → ((x : ℕ) → q ≡ window.end → has items.bits x ≡ true → has window.writes.bits x ≡ false → has (set_at k₁.before.sets.items window.first) x ≡ true → (has window.reads.bits x ≡ true) ⊎ (has (set_at fwd window.first) x ≡ true))
    → (AreCallers all (length all) g.callers → (p : ℕ) → JumpsTo all q p → (x : ℕ) → has items.bits x ≡ true → passes_to q (ways_at all p) x ≡ true → has (set_at k₂.before.sets.items p) x ≡ true → Keeps all fwd p x)
    → ((x : ℕ) → marked g.is_point.items q ≡ true → has items.bits x ≡ true → (has gone'.bits x ≡ true) ⊎ (has forward.points.bits x ≡ true))
    → (AreReturns all (length all) g.returns.items → (x : ℕ) → (has gone.bits x ≡ true → ReturnsClear all forward.sets.items k₂ x) → has gone'.bits x ≡ true → ReturnsClear all forward.sets.items k₃ x)
    → ClearsStep all g forward window q k gone k₃ gone'
clears_step all g forward window q k k₁ k₂ k₃ gone gone' items fwd same are a b c before through callers point returns = record {
  before = λ w p x out t s h. subst (λ (fs : List Items). Keeps all fs p x) same (elim (w.told q p (passes_leads q x (ways_at all p) s)) [
    | inl e ↦ before p x e out (are x t) s (b.fewer p x (c.fewer p x h))
    | inr j ↦ callers w.callers p j x (are x t) s (c.fewer p x h)
  ]);
  through = λ x e t n h. subst (λ (fs : List Items). (has window.reads.bits x ≡ true) ⊎ (has (set_at fs window.first) x ≡ true)) same (through x e (are x t) n (b.fewer window.first x (c.fewer window.first x h)));
  point = λ x m t. point x m (are x t);
  returns = λ r x h g'. returns r x (λ o p s l. h o p s (a.fewer p x (b.fewer p x l))) g';
}
