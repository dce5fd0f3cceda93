-- The graph of a code whose window gives way: it is the same but for the window's ways.
use Rattle.std.proofs.Common.{◌≡◌, ℕ, ◌+◌, ◌-◌, ◌<◌, ◌||◌, Bool, false, List, [], ◌∷◌, length, get_or, Option, Some, None, if◌then◌else◌, refl, sym, ap, ◌∙◌, subst, inl, inr, arith, eq-eqb}
use Rattle.std.specs.Prelude.{slice_get}
use Rattle.std.proofs.lemmas.Bool.{cases_Bool}
use Rattle.thumb_instr.specs.declared.instr.Instr.{Instr}
use Rattle.thumb_instr.specs.Items.{one_of, has}
use Rattle.thumb_instr.specs.Shape.{uses_of, writes_of}
use Rattle.thumb_model.specs.Listing.{Code}
use Rattle.thumb_model.specs.Flow.{Way as ModelWay, Onward, way, ways}
use Rattle.thumb_model.proofs.Lists.{present_at}
use Rattle.shrinking_sets.specs.Straight.{reads_first, writes_in}
use Rattle.shrinking_sets.proofs.Exchange.{old_runs, new_runs, apart_or, point_stays, point_was, runs_at}
use Rattle.padded_code.specs.Spread.{spread}
use Rattle.code_flow.specs.declared.way.Way.{Way}
use Rattle.code_flow.specs.declared.way.Ways.{Ways}
use Rattle.code_flow.specs.Flow.{next_of, AreWays}
use Rattle.liveness.specs.declared.graph.Graph.{Graph}
use Rattle.liveness.specs.Ways.{AreAllWays}
use Rattle.liveness.specs.Graph.{is_return, some_return, other_than, jump_from, ways_in, ways_at, AreCallers, IsGraph}
use Rattle.liveness.specs.declared.window.Window.{Window}
use Rattle.liveness.specs.Clears.{Change, IsChangeBy}
use Rattle.liveness.specs.Passing.{reads_from, writes_from}
use Rattle.liveness.specs.Window.{AreAscending, ArePut, IsWindowExchange}
use Rattle.liveness.proofs.Exchanges.{from_first, one_here, apart_none, ways_put, callers_same, reads_are, writes_are, spread_end}

-- one way that goes on is no jump, and leads to no code point but the next place
abbrev other_if : Bool → ℕ → Option ℕ
other_if b q = if b then None else Some q

one_on : (p : ℕ) (m : ModelWay) (es : List Way) → m.leads ≡ Onward → AreWays p (m ∷ []) es → (jump_from (p + 1) es ≡ None) × (some_return es ≡ false)
one_on p m [] on a = absurd a
one_on p m (e ∷ []) on a =
    let l = a.0.leads ∙ ap (next_of p) on in
    (ap (other_than (p + 1)) l ∙ ap (λ b. other_if b (p + 1)) (eq-eqb (p + 1) (p + 1) refl), ap (λ n. is_return n || false) l)
one_on p m (e ∷ f ∷ es) on a = absurd a.1

module _ (code new : Code) (ps : List ℕ) (window is : List Instr) (gives : IsWindowExchange code new ps window is) (ascends : AreAscending 0 ps) (some : 0 < length ps) (all all' : List (Option Ways)) (g : Graph) (graph : IsGraph code all g) (many : length all' ≡ length all) (put : ArePut ps is all') (others : (q : ℕ) → one_of q ps ≡ false → slice_get all' q ≡ slice_get all q) where
  new_ways : AreAllWays new all'
  new_ways = ways_put code new ps window is gives ascends some all all' graph.ways put others

  as_many : length all' ≡ length new.places
  as_many = many ∙ graph.as_many ∙ sym gives.exchange.places

  -- jumps and returns are the same
  abbrev SameAt : ℕ → Type 0
  SameAt q = (jump_from (q + 1) (ways_at all' q) ≡ jump_from (q + 1) (ways_at all q)) × (some_return (ways_at all' q) ≡ some_return (ways_at all q))

  same_within : (q j : ℕ) → q ≡ get_or ps 0 0 + j → j < length (spread (get_or ps 0 0) ps window) → SameAt q
  same_within q j e l =
      let i = present_at (spread (get_or ps 0 0) ps window) j l in
      let k = present_at (spread (get_or ps 0 0) ps is) j (let n = gives.exchange.as_many in omega arith) in
      let was = one_on q (way (uses_of i.0) (writes_of i.0) Onward) (ways_at all q) refl (one_here code all graph.ways graph.as_many q i.0 (ap (ways code) e ∙ runs_at code (get_or ps 0 0) (spread (get_or ps 0 0) ps window) j i.0 (old_runs code new (get_or ps 0 0) (spread (get_or ps 0 0) ps window) (spread (get_or ps 0 0) ps is) gives.exchange) i.1)) in
      let now = one_on q (way (uses_of k.0) (writes_of k.0) Onward) (ways_at all' q) refl (one_here new all' new_ways as_many q k.0 (ap (ways new) e ∙ runs_at new (get_or ps 0 0) (spread (get_or ps 0 0) ps is) j k.0 (new_runs code new (get_or ps 0 0) (spread (get_or ps 0 0) ps window) (spread (get_or ps 0 0) ps is) gives.exchange) k.1)) in
      (now.0 ∙ sym was.0, now.1 ∙ sym was.1)

  same : (q : ℕ) → SameAt q
  same q = elim (cases_Bool (one_of q ps)) [
    | inr n ↦ (ap (λ o. jump_from (q + 1) (ways_in o)) (others q n), ap (λ o. some_return (ways_in o)) (others q n))
    | inl h ↦ elim (apart_or code new (get_or ps 0 0) (spread (get_or ps 0 0) ps window) (spread (get_or ps 0 0) ps is) gives.exchange q) [
      | inl a ↦ absurd (let n = apart_none code new ps window is gives ascends some all all' graph.ways put others q a in cc)
      | inr r ↦ same_within q r.0 r.1 r.2
    ]
  ]

  pub graph_stays : IsGraph new all' g
  graph_stays = record {
    as_many = as_many;
    ways = new_ways;
    marks = let m = graph.marks in omega arith;
    points = λ q b e. (
      λ t. point_stays code new (get_or ps 0 0) (spread (get_or ps 0 0) ps window) (spread (get_or ps 0 0) ps is) gives.exchange q ((graph.points q b e).0 t),
      λ i. (graph.points q b e).1 (point_was code new (get_or ps 0 0) (spread (get_or ps 0 0) ps window) (spread (get_or ps 0 0) ps is) gives.exchange q i),
    );
    callers = subst (λ n. AreCallers all' n g.callers) (sym many) (callers_same all all' (length all) g.callers many (λ q. (same q).0) graph.callers);
    returns = record {
      all_of_them = λ q l h. graph.returns.all_of_them q (omega arith) (sym (same q).1 ∙ h);
      within = λ q h. let l = graph.returns.within q h in omega arith;
    };
  }

  -- ---- the window ----

  pub new_reads : (x : ℕ) → reads_from all' (get_or ps 0 0) (length (spread (get_or ps 0 0) ps is)) x ≡ reads_first (spread (get_or ps 0 0) ps is) x
  new_reads x = reads_are new all' new_ways as_many (get_or ps 0 0) (spread (get_or ps 0 0) ps is) (new_runs code new (get_or ps 0 0) (spread (get_or ps 0 0) ps window) (spread (get_or ps 0 0) ps is) gives.exchange) x

  pub new_writes : (x : ℕ) → writes_from all' (get_or ps 0 0) (length (spread (get_or ps 0 0) ps is)) x ≡ writes_in (spread (get_or ps 0 0) ps is) x
  new_writes x = writes_are new all' new_ways as_many (get_or ps 0 0) (spread (get_or ps 0 0) ps is) (new_runs code new (get_or ps 0 0) (spread (get_or ps 0 0) ps window) (spread (get_or ps 0 0) ps is) gives.exchange) x

  pub old_reads : (x : ℕ) → reads_from all (get_or ps 0 0) (length (spread (get_or ps 0 0) ps window)) x ≡ reads_first (spread (get_or ps 0 0) ps window) x
  old_reads x = reads_are code all graph.ways graph.as_many (get_or ps 0 0) (spread (get_or ps 0 0) ps window) (old_runs code new (get_or ps 0 0) (spread (get_or ps 0 0) ps window) (spread (get_or ps 0 0) ps is) gives.exchange) x

  pub old_writes : (x : ℕ) → writes_from all (get_or ps 0 0) (length (spread (get_or ps 0 0) ps window)) x ≡ writes_in (spread (get_or ps 0 0) ps window) x
  old_writes x = writes_are code all graph.ways graph.as_many (get_or ps 0 0) (spread (get_or ps 0 0) ps window) (old_runs code new (get_or ps 0 0) (spread (get_or ps 0 0) ps window) (spread (get_or ps 0 0) ps is) gives.exchange) x

  pub window_end : (e : ℕ) → e ≡ get_or ps (length ps - 1) 0 + 1 → e ≡ get_or ps 0 0 + length (spread (get_or ps 0 0) ps window)
  window_end e h = h ∙ sym (spread_end (get_or ps 0 0) ps window (from_first ps ascends) some)

  -- what gives way, as straight code
  abbrev pub change : Change
  change = record { code = code; new = new; place = get_or ps 0 0; old = spread (get_or ps 0 0) ps window; is = spread (get_or ps 0 0) ps is }

  module _ (f e : ℕ) (first : f ≡ get_or ps 0 0) (end : e ≡ get_or ps (length ps - 1) 0 + 1) where
    size : e - f ≡ length (spread (get_or ps 0 0) ps window)
    size = let w = window_end e end in omega arith

    size_new : e - f ≡ length (spread (get_or ps 0 0) ps is)
    size_new = size ∙ sym gives.exchange.as_many

    pub is_change : (old : Window) → old.first ≡ f → old.end ≡ e → ((x : ℕ) → has old.reads.bits x ≡ reads_from all f (e - f) x) → ((x : ℕ) → has old.writes.bits x ≡ writes_from all f (e - f) x) → IsChangeBy change all' g old
    is_change old of oe reads writes = record {
      exchange = gives.exchange;
      graph = graph_stays;
      first = of ∙ first;
      end = oe ∙ window_end e end;
      reads = λ x. reads x ∙ ap (λ p. reads_from all p (e - f) x) first ∙ ap (λ n. reads_from all (get_or ps 0 0) n x) size ∙ old_reads x;
      writes = λ x. writes x ∙ ap (λ p. writes_from all p (e - f) x) first ∙ ap (λ n. writes_from all (get_or ps 0 0) n x) size ∙ old_writes x;
    }

    pub fresh_reads : (fresh : Window) → ((x : ℕ) → has fresh.reads.bits x ≡ reads_from all' f (e - f) x) → (x : ℕ) → has fresh.reads.bits x ≡ reads_first (spread (get_or ps 0 0) ps is) x
    fresh_reads fresh reads x = reads x ∙ ap (λ p. reads_from all' p (e - f) x) first ∙ ap (λ n. reads_from all' (get_or ps 0 0) n x) size_new ∙ new_reads x

    pub fresh_writes : (fresh : Window) → ((x : ℕ) → has fresh.writes.bits x ≡ writes_from all' f (e - f) x) → (x : ℕ) → has fresh.writes.bits x ≡ writes_in (spread (get_or ps 0 0) ps is) x
    fresh_writes fresh writes x = writes x ∙ ap (λ p. writes_from all' p (e - f) x) first ∙ ap (λ n. writes_from all' (get_or ps 0 0) n x) size_new ∙ new_writes x
