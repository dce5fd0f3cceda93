-- A window that gives way: after all three steps the items are those that are live in the new code.
use Rattle.std.proofs.Common.{◌≡◌, ℕ, ◌+◌, ◌-◌, ◌<◌, ◌≤◌, true, false, List, [], length, get_or, subst, sym, ◌∙◌, ◌↔◌}
use Rattle.std.specs.Prelude.{slice_get}
use Rattle.thumb_instr.specs.declared.instr.Instr.{Instr}
use Rattle.thumb_instr.specs.Items.{one_of, has}
use Rattle.thumb_model.specs.Listing.{Code}
use Rattle.thumb_model.specs.Flow.{Reads}
use Rattle.liveness.specs.declared.graph.Graph.{Graph}
use Rattle.liveness.specs.Live.{set_at}
use Rattle.liveness.specs.Graph.{IsGraph}
use Rattle.liveness.specs.declared.counted.PointSets.{PointSets}
use Rattle.liveness.specs.declared.kept_live.KeptFlow.{KeptFlow}
use Rattle.liveness.specs.declared.walk.Walk.{Walk}
use Rattle.liveness.specs.declared.window.Window.{Window}
use Rattle.liveness.specs.Ahead.{IsAhead}
use Rattle.liveness.specs.Clears.{Change, IsChangeBy}
use Rattle.liveness.specs.Grows.{IsGrowing}
use Rattle.liveness.specs.KeptLive.{parts_of, IsFitKept, IsIdle, IsKeptLive, IsShrunkBy}
use Rattle.liveness.specs.Passing.{reads_from, writes_from}
use Rattle.liveness.specs.Walk.{start_at}
use Rattle.liveness.specs.Window.{AreAscending, ArePut, IsWindowExchange}
use Rattle.liveness.specs.Within.{IsWired}
use Rattle.liveness.proofs.Graphs.{graph_stays, change, is_change, fresh_reads, fresh_writes}
use Rattle.liveness.proofs.Growings.{all_grown}
use Rattle.liveness.proofs.Passings.{wired}
use Rattle.liveness.proofs.Shrinkings.{growing_begins}

-- the new instructions took the places, which gives k₁, and what is read for sure was worked out anew
pub record IsExchanged (ps : List ℕ) (is : List Instr) (f e : ℕ) (old fresh : Window) (k k₁ : KeptFlow) : Type 0 where
  pub many : length k₁.ways.items ≡ length k.ways.items
  pub graph : k₁.graph ≡ k.graph
  pub walk : k₁.walk ≡ k.walk
  pub first : old.first ≡ f
  pub end : old.end ≡ e
  pub old_reads : (x : ℕ) → has old.reads.bits x ≡ reads_from k.ways.items f (e - f) x
  pub old_writes : (x : ℕ) → has old.writes.bits x ≡ writes_from k.ways.items f (e - f) x
  pub reads : (x : ℕ) → has fresh.reads.bits x ≡ reads_from k₁.ways.items f (e - f) x
  pub writes : (x : ℕ) → has fresh.writes.bits x ≡ writes_from k₁.ways.items f (e - f) x
  pub put : ArePut ps is k₁.ways.items
  pub others : (q : ℕ) → one_of q ps ≡ false → slice_get k₁.ways.items q ≡ slice_get k.ways.items q
  pub ahead : IsWired k₁.ways.items k.graph.callers → IsAhead k.ways.items k.forward.sets.items → IsAhead k₁.ways.items k₁.forward.sets.items

-- the sets shrank, which gives k₂
pub record IsShrunk (old fresh : Window) (k₁ k₂ : KeptFlow) : Type 0 where
  pub fit : IsFitKept k₂
  pub ways : k₂.ways ≡ k₁.ways
  pub graph : k₂.graph ≡ k₁.graph
  pub forward : k₂.forward ≡ k₁.forward
  pub start : (p : ℕ) → start_at k₂.walk p ≡ set_at k₁.walk.before.sets.items p
  pub touched : (p : ℕ) → old.first ≤ p → p < old.end → one_of p k₂.walk.touched.places ≡ true
  pub shrunk : IsShrunkBy k₁.ways.items k₁.graph k₁.forward.sets.items old fresh k₁.walk k₂.walk

-- and grew, which gives k₃
pub record IsRegrown (k₂ k₃ : KeptFlow) : Type 0 where
  pub idle : IsIdle k₃
  pub ways : k₃.ways ≡ k₂.ways
  pub graph : k₃.graph ≡ k₂.graph
  pub forward : k₃.forward ≡ k₂.forward
  pub live : (code : Code) → IsGraph code k₂.ways.items k₂.graph → IsGrowing code k₂.walk.before.sets.items k₂.walk.touched.places → IsGrowing code k₃.walk.before.sets.items []

module _ (ps : List ℕ) (is : List Instr) (f e : ℕ) (first : f ≡ get_or ps 0 0) (end : e ≡ get_or ps (length ps - 1) 0 + 1) (ascends : AreAscending 0 ps) (some : 0 < length ps) (old fresh : Window) (k k₁ k₂ k₃ : KeptFlow) (a : IsExchanged ps is f e old fresh k k₁) (b : IsShrunk old fresh k₁ k₂) (d : IsRegrown k₂ k₃)
    (code new : Code) (window : List Instr) (gives : IsWindowExchange code new ps window is) (kept : IsKeptLive code (parts_of k)) where
  graph₁ : IsGraph new k₁.ways.items k.graph
  graph₁ = graph_stays code new ps window is gives ascends some k.ways.items k₁.ways.items k.graph kept.graph a.many a.put a.others

  abbrev t : Change
  t = change code new ps window is gives ascends some k.ways.items k₁.ways.items k.graph kept.graph a.many a.put a.others

  by : IsChangeBy t k₁.ways.items k.graph old
  by = is_change code new ps window is gives ascends some k.ways.items k₁.ways.items k.graph kept.graph a.many a.put a.others f e first end old a.first a.end a.old_reads a.old_writes

  ahead₁ : IsAhead k₁.ways.items k₁.forward.sets.items
  ahead₁ = a.ahead (wired new k₁.ways.items k.graph graph₁) kept.ahead

  exact : (p x : ℕ) → (has (set_at k₁.walk.before.sets.items p) x ≡ true) ↔ Reads t.code x p
  exact = subst (λ (w : Walk). (p x : ℕ) → (has (set_at w.before.sets.items p) x ≡ true) ↔ Reads code x p) (sym a.walk) kept.live

  read : (p x : ℕ) → has (set_at k₂.walk.before.sets.items p) x ≡ true → Reads t.new x p
  read = b.shrunk t (subst (λ (g : Graph). IsChangeBy t k₁.ways.items g old) (sym a.graph) by) gives.unlabelled
      (fresh_reads code new ps window is gives ascends some k.ways.items k₁.ways.items k.graph kept.graph a.many a.put a.others f e first end fresh a.reads)
      (fresh_writes code new ps window is gives ascends some k.ways.items k₁.ways.items k.graph kept.graph a.many a.put a.others f e first end fresh a.writes) ahead₁ exact

  begun : IsGrowing new k₂.walk.before.sets.items k₂.walk.touched.places
  begun = growing_begins t k₁.ways.items k.graph old k₁.walk k₂.walk k₂.graph.is_point.items (length k₂.ways.items) by b.fit.walk b.start b.touched exact read

  graph₂ : IsGraph new k₂.ways.items k₂.graph
  graph₂ = subst (λ (w : _). IsGraph new w.items k₂.graph) (sym b.ways) (subst (λ (g : Graph). IsGraph new k₁.ways.items g) (sym (b.graph ∙ a.graph)) graph₁)

  graph₃ : IsGraph new k₃.ways.items k₃.graph
  graph₃ = subst (λ (w : _). IsGraph new w.items k₃.graph) (sym d.ways) (subst (λ (g : Graph). IsGraph new k₂.ways.items g) (sym d.graph) graph₂)

  ahead₃ : IsAhead k₃.ways.items k₃.forward.sets.items
  ahead₃ = subst (λ (w : _). IsAhead w.items k₃.forward.sets.items) (sym (d.ways ∙ b.ways)) (subst (λ (s : PointSets). IsAhead k₁.ways.items s.sets.items) (sym (d.forward ∙ b.forward)) ahead₁)

  pub kept_on : IsKeptLive new (parts_of k₃)
  kept_on = record {
    graph = graph₃;
    before_len = d.idle.fit.walk.before_many ∙ graph₃.as_many;
    live = all_grown new k₃.walk.before.sets.items (d.live new graph₂ begun);
    ahead = ahead₃;
  }
