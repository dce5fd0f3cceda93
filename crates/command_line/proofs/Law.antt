-- clap's walk over the words of a command finds the uses that `Reading` reads, or a fault if that reads none.
use Rattle.std.proofs.Common.{◌≡◌, ◌∙◌, ◌⊎◌, inl, inr, ◌+◌, ◌++◌, ◌&&◌, ◌||◌, ℕ, Bool, true, false, not, List, [], ◌∷◌, map, Option, Some, None, refl, sym, ap, ap₂, cond, append_assoc, append-nil, subst, option_map, true≢false, eq-eqb}
use Rattle.std.proofs.lemmas.List.{map-append}
use Rattle.std.specs.Prelude.{fold, min, nat_lt, slice_get}
use Rattle.std.specs.Option.{option_map_or}
use Rattle.std.specs.Str.{bytes_eq, chars}
use Rattle.clap.specs.Lexer.{long_of, short_of, usize_max}
use Rattle.clap.specs.Words.{Rule, Row}
use Rattle.clap.specs.Walk.{Walk, Held, Waiting, idle, option, walked, arg_by_index, arg_by_long, arg_by_short, arg_by_id, finished, settled, used, has_row, at_row, more_values, most_values, pending_count, reading_by, with_default}
use Rattle.clap.specs.Faults.{walk_fault, turn_fault, settle_fault, defaults_fault, check_fault, use_fault, flags_fault}
use Rattle.clap.specs.Kinds.{Kinds, or_else}
use Rattle.clap.specs.declared.error.kind.ErrorKind.TheVariants as kind
use Rattle.clap.specs.declared.parser.matches.ValueSource.TheVariants.{CommandLine}
use Rattle.command_line.specs.Words.{Text, Given, is_named}
use Rattle.command_line.proofs.Reading.{Mode, free, opened, tail, WordKind, dashes, joined, apart, plain, stray, uses, use_word, word_of, at_end, more, to_positional, once_after}
use Rattle.command_line.proofs.Level.{word_rule, option_rule, leaf, or_else_nil, or_else_assoc, held, between, fresh}
use Rattle.std.proofs.lemmas.Bool.{cases_Bool}
use Rattle.common_lemmas.proofs.Booleans.{and_false, and_assoc}

abbrev pub clean : Kinds → Bool
clean [] = true
clean (k ∷ ks) = false

-- the row of a use
abbrev pub row : Given → Row
row u = record { id = u.0; values = u.1 ∷ []; count = None; source = Some CommandLine; reading = reading_by (option_rule u.0) }

abbrev pub rows : List Given → List Row
rows us = map row us

pub has_rows : (id : Text) (us : List Given) → has_row id (rows us) ≡ is_named id us
has_rows id [] = refl
has_rows id (u ∷ us) = ap (λ b. bytes_eq u.0 id || b) (has_rows id us)

used_fresh : (id v : Text) (r : List Row) → has_row id r ≡ false → used (option_rule id) (v ∷ []) r ≡ r ++ row (id, v) ∷ []
used_fresh id v r none =
    ap (at_row id (more_values CommandLine (v ∷ [])) (row (id, v) ∷ [])) (fresh id (λ _. []) [] r none ∙ append-nil r)
    ∙ fresh id (more_values CommandLine (v ∷ [])) (row (id, v) ∷ []) r none

same_bytes : (bs : List ℕ) → bytes_eq bs bs ≡ true
same_bytes [] = refl
same_bytes (b ∷ bs) = rw (eq-eqb b b refl) (same_bytes bs)

-- what an argument with one value does
pub record Acts (a : Rule) (id : Text) : Type 0 where
  pub fault : (v : Text) (r : List Row) → use_fault false a (v ∷ []) r ≡ cond (has_row id r) (kind.ArgumentConflict ∷ []) []
  pub bare : (r : List Row) → use_fault false a [] r ≡ kind.InvalidValue ∷ []
  pub one : (x : Text) → nat_lt (pending_count a (Some (id, x ∷ []))) (most_values a) ≡ false
  pub used_as : (v : Text) (r : List Row) → used a (v ∷ []) r ≡ used (option_rule id) (v ∷ []) r

once : (b : Bool) → or_else (cond (b && true) (kind.ArgumentConflict ∷ []) []) [] ≡ cond b (kind.ArgumentConflict ∷ []) []
once true = refl
once false = refl

pub option_acts : (n : Text) → Acts (option_rule n) n
option_acts n = record { fault = λ v r. once (has_row n r); bare = λ r. refl; one = λ x. rw (same_bytes n) refl; used_as = λ v r. refl }

pub word_acts : (i : ℕ) (n : Text) → Acts (word_rule i n) n
word_acts i n = record { fault = λ v r. once (has_row n r); bare = λ r. refl; one = λ x. rw (same_bytes n) refl; used_as = λ v r. refl }

module _ (name : Text) (c : List Rule) where
  abbrev final : Held → Kinds
  final h = or_else (settle_fault c false h) (or_else (defaults_fault (settled c h).rows c) (check_fault (leaf name c) (finished c h) false))

  abbrev pub outcome : Walk → List Text → Kinds
  outcome w ws = or_else (walk_fault (leaf name c) [] w ws) (final (fold (walked c []) w ws).held)

  step : (w : Walk) (x : Text) (xs : List Text) → outcome w (x ∷ xs) ≡ or_else (turn_fault (leaf name c) [] w x) (outcome (walked c [] w x) xs)
  unfolding walk_fault
  step w x xs = or_else_assoc (turn_fault (leaf name c) [] w x) (walk_fault (leaf name c) [] (walked c [] w x) xs) _

  -- a turn of the walk that finds no fault
  step_to : (w v : Walk) (x : Text) (xs : List Text) → turn_fault (leaf name c) [] w x ≡ [] → walked c [] w x ≡ v → outcome w (x ∷ xs) ≡ outcome v xs
  step_to w v x xs none to = step w x xs ∙ rw (none, to) refl

-- what a word is, with the facts that say so
pub data Is (is_option : Text → Bool) (x : Text) : Type 0 where
  is_dashes : bytes_eq x (45 ∷ 45 ∷ []) ≡ true → Is is_option x
  is_joined : (n v : Text) → bytes_eq x (45 ∷ 45 ∷ []) ≡ false → long_of x ≡ Some (n, Some v) → is_option n ≡ true → Is is_option x
  is_apart : (n : Text) → bytes_eq x (45 ∷ 45 ∷ []) ≡ false → long_of x ≡ Some (n, None) → is_option n ≡ true → Is is_option x
  is_unknown : (n : Text) (v : Option Text) → bytes_eq x (45 ∷ 45 ∷ []) ≡ false → long_of x ≡ Some (n, v) → is_option n ≡ false → Is is_option x
  is_short : (b b' : ℕ) (cs : List ℕ) → bytes_eq x (45 ∷ 45 ∷ []) ≡ false → long_of x ≡ None → short_of x ≡ Some (b ∷ cs) → slice_get (chars (b ∷ cs)) 0 ≡ Some b' → Is is_option x
  is_plain : bytes_eq x (45 ∷ 45 ∷ []) ≡ false → long_of x ≡ None → short_of x ≡ None → Is is_option x

abbrev pub Each : (Text → Bool) → List Text → Type 0
Each is_option [] = Unit {0}
Each is_option (x ∷ xs) = Is is_option x × Each is_option xs

abbrev pub verdict_by : (List Given → Bool) → List Given → Option (List Given) → Bool
verdict_by complete before o = option_map_or (λ us. once_after before us && complete (before ++ us)) o false

-- a command with words and options
module _ (name : Text) (c : List Rule) (at : ℕ → Option Text) (is_option is_known : Text → Bool)
    (by_index : (i : ℕ) → arg_by_index c i ≡ option_map (word_rule i) (at i))
    (by_long : (n : Text) → arg_by_long c n ≡ cond (is_option n) (Some (option_rule n)) None)
    (by_short : (x : ℕ) → arg_by_short c x ≡ None)
    (by_id : (id : Text) → is_known id ≡ true → (a : Rule) × (arg_by_id c id ≡ Some a) × Acts a id)
    (at_known : (i : ℕ) (id : Text) → at i ≡ Some id → is_known id ≡ true)
    (option_known : (n : Text) → is_option n ≡ true → is_known n ≡ true)
    (small : (i : ℕ) (id : Text) → at i ≡ Some id → min (i + 1) usize_max ≡ i + 1) where
  settle_is : (r : List Row) (id v : Text) → is_known id ≡ true → settle_fault c false (held r (Some (id, v ∷ []))) ≡ cond (has_row id r) (kind.ArgumentConflict ∷ []) []
  settle_is r id v known = let a = by_id id known in rw a.1 (a.2.fault v r)

  settle_bare : (r : List Row) (id : Text) → is_known id ≡ true → settle_fault c false (held r (Some (id, []))) ≡ kind.InvalidValue ∷ []
  settle_bare r id known = let a = by_id id known in rw a.1 (a.2.bare r)

  settled_is : (r : List Row) (id v : Text) → is_known id ≡ true → has_row id r ≡ false → settled c (held r (Some (id, v ∷ []))) ≡ held (r ++ row (id, v) ∷ []) None
  settled_is r id v known none = let a = by_id id known in rw a.1 (ap (λ rs. held rs None) (a.2.used_as v r ∙ used_fresh id v r none))

  -- which fault a word gives and what it does to the walk, by its kind
  dashes_fault : (r : List Row) (p : Option (Text × List Text)) (w : Waiting) (i : ℕ) (x : Text) → bytes_eq x (45 ∷ 45 ∷ []) ≡ true → turn_fault (leaf name c) [] (between r p idle i false) x ≡ []
  dashes_fault r p w i x dd = rw dd refl

  dashes_walk : (r : List Row) (p : Option (Text × List Text)) (i : ℕ) (x : Text) → bytes_eq x (45 ∷ 45 ∷ []) ≡ true → walked c [] (between r p idle i false) x ≡ between r p idle i true
  unfolding walked
  dashes_walk r p i x dd = rw dd refl

  joined_fault : (r : List Row) (p : Option (Text × List Text)) (i : ℕ) (x n v : Text) → bytes_eq x (45 ∷ 45 ∷ []) ≡ false → long_of x ≡ Some (n, Some v) → is_option n ≡ true
      → turn_fault (leaf name c) [] (between r p idle i false) x ≡ or_else (settle_fault c false (held r p)) (use_fault false (option_rule n) (v ∷ []) (settled c (held r p)).rows)
  joined_fault r p i x n v dd long known = rw (dd, long, by_long n, known) (or_else_nil _)

  joined_walk : (r : List Row) (p : Option (Text × List Text)) (i : ℕ) (x n v : Text) → bytes_eq x (45 ∷ 45 ∷ []) ≡ false → long_of x ≡ Some (n, Some v) → is_option n ≡ true
      → walked c [] (between r p idle i false) x ≡ between (used (option_rule n) (v ∷ []) (settled c (held r p)).rows) None idle i false
  unfolding walked
  joined_walk r p i x n v dd long known = rw (dd, long, by_long n, known) refl

  apart_fault : (r : List Row) (p : Option (Text × List Text)) (i : ℕ) (x n : Text) → bytes_eq x (45 ∷ 45 ∷ []) ≡ false → long_of x ≡ Some (n, None) → is_option n ≡ true
      → turn_fault (leaf name c) [] (between r p idle i false) x ≡ settle_fault c false (held r p)
  apart_fault r p i x n dd long known = rw (dd, long, by_long n, known) (or_else_nil _)

  apart_walk : (r : List Row) (p : Option (Text × List Text)) (i : ℕ) (x n : Text) → bytes_eq x (45 ∷ 45 ∷ []) ≡ false → long_of x ≡ Some (n, None) → is_option n ≡ true
      → walked c [] (between r p idle i false) x ≡ between (settled c (held r p)).rows (Some (n, [])) (option n) i false
  unfolding walked
  apart_walk r p i x n dd long known = rw (dd, long, by_long n, known) refl

  -- a positional word, before and after `--`
  word_fault : (r : List Row) (p : Option (Text × List Text)) (i : ℕ) (x id : Text) → bytes_eq x (45 ∷ 45 ∷ []) ≡ false → long_of x ≡ None → short_of x ≡ None → at i ≡ Some id
      → turn_fault (leaf name c) [] (between r p idle i false) x ≡ settle_fault c false (held r p)
  word_fault r p i x id dd long short here = rw (dd, long, short, by_index i, here, and_false) refl

  word_walk : (r : List Row) (p : Option (Text × List Text)) (i : ℕ) (x id : Text) → bytes_eq x (45 ∷ 45 ∷ []) ≡ false → long_of x ≡ None → short_of x ≡ None → at i ≡ Some id
      → walked c [] (between r p idle i false) x ≡ between (settled c (held r p)).rows (Some (id, x ∷ [])) idle (i + 1) false
  unfolding walked
  word_walk r p i x id dd long short here = rw (dd, long, short, by_index i, here, and_false, small i id here) refl

  many_fault : (r : List Row) (p : Option (Text × List Text)) (i : ℕ) (x : Text) → bytes_eq x (45 ∷ 45 ∷ []) ≡ false → long_of x ≡ None → short_of x ≡ None → at i ≡ None
      → turn_fault (leaf name c) [] (between r p idle i false) x ≡ kind.UnknownArgument ∷ []
  many_fault r p i x dd long short here = rw (dd, long, short, by_index i, here) refl

  tail_fault : (r : List Row) (p : Option (Text × List Text)) (w : Waiting) (i : ℕ) (x id : Text) → at i ≡ Some id → turn_fault (leaf name c) [] (between r p w i true) x ≡ settle_fault c false (held r p)
  tail_fault r p w i x id here = rw (by_index i, here, and_false) refl

  tail_walk : (r : List Row) (p : Option (Text × List Text)) (w : Waiting) (i : ℕ) (x id : Text) → at i ≡ Some id
      → walked c [] (between r p w i true) x ≡ between (settled c (held r p)).rows (Some (id, x ∷ [])) idle (i + 1) true
  unfolding walked
  tail_walk r p w i x id here = rw (by_index i, here, and_false, small i id here) refl

  tail_many : (r : List Row) (p : Option (Text × List Text)) (w : Waiting) (i : ℕ) (x : Text) → at i ≡ None → turn_fault (leaf name c) [] (between r p w i true) x ≡ kind.UnknownArgument ∷ []
  tail_many r p w i x here = rw (by_index i, here) refl

  -- an option that no argument has, and a short one
  unknown_fault : (r : List Row) (p : Option (Text × List Text)) (w : Waiting) (i : ℕ) (x n : Text) (v : Option Text) → bytes_eq x (45 ∷ 45 ∷ []) ≡ false → long_of x ≡ Some (n, v) → is_option n ≡ false
      → turn_fault (leaf name c) [] (between r p idle i false) x ≡ kind.UnknownArgument ∷ []
  unknown_fault r p w i x n v dd long known = rw (dd, long, by_long n, known) refl

  short_fault : (r : List Row) (p : Option (Text × List Text)) (i : ℕ) (x : Text) (b b' : ℕ) (cs : List ℕ) → bytes_eq x (45 ∷ 45 ∷ []) ≡ false → long_of x ≡ None → short_of x ≡ Some (b ∷ cs)
      → slice_get (chars (b ∷ cs)) 0 ≡ Some b' → turn_fault (leaf name c) [] (between r p idle i false) x ≡ kind.UnknownArgument ∷ []
  unfolding flags_fault
  short_fault r p i x b b' cs dd long short first = rw (dd, long, short, first, by_short) refl

  -- the value of an option
  value_fault : (r : List Row) (p : Option (Text × List Text)) (n : Text) (i : ℕ) (x : Text) → bytes_eq x (45 ∷ 45 ∷ []) ≡ false → long_of x ≡ None → short_of x ≡ None
      → turn_fault (leaf name c) [] (between r p (option n) i false) x ≡ []
  value_fault r p n i x dd long short = rw (dd, long, short) refl

  value_walk : (r : List Row) (i : ℕ) (x n : Text) → bytes_eq x (45 ∷ 45 ∷ []) ≡ false → long_of x ≡ None → short_of x ≡ None → is_known n ≡ true
      → walked c [] (between r (Some (n, [])) (option n) i false) x ≡ between r (Some (n, x ∷ [])) idle i false
  unfolding walked
  value_walk r i x n dd long short known = let a = by_id n known in rw (dd, long, short, a.1, a.2.one x) refl

  -- an option waits, and the word is no value
  open_dashes_fault : (r : List Row) (n : Text) (i : ℕ) (x : Text) → bytes_eq x (45 ∷ 45 ∷ []) ≡ true → turn_fault (leaf name c) [] (between r (Some (n, [])) (option n) i false) x ≡ []
  open_dashes_fault r n i x dd = rw dd refl

  open_dashes_walk : (r : List Row) (n : Text) (i : ℕ) (x : Text) → bytes_eq x (45 ∷ 45 ∷ []) ≡ true
      → walked c [] (between r (Some (n, [])) (option n) i false) x ≡ between r (Some (n, [])) (option n) i true
  unfolding walked
  open_dashes_walk r n i x dd = rw dd refl

  open_joined_fault : (r : List Row) (m : Text) (i : ℕ) (x n v : Text) → is_known m ≡ true → bytes_eq x (45 ∷ 45 ∷ []) ≡ false → long_of x ≡ Some (n, Some v) → is_option n ≡ true
      → turn_fault (leaf name c) [] (between r (Some (m, [])) (option m) i false) x ≡ kind.InvalidValue ∷ []
  open_joined_fault r m i x n v known dd long ours = rw (dd, long, by_long n, ours, settle_bare r m known) refl

  open_apart_fault : (r : List Row) (m : Text) (i : ℕ) (x n : Text) → is_known m ≡ true → bytes_eq x (45 ∷ 45 ∷ []) ≡ false → long_of x ≡ Some (n, None) → is_option n ≡ true
      → turn_fault (leaf name c) [] (between r (Some (m, [])) (option m) i false) x ≡ kind.InvalidValue ∷ []
  open_apart_fault r m i x n known dd long ours = rw (dd, long, by_long n, ours, settle_bare r m known) refl

  open_unknown_fault : (r : List Row) (m : Text) (i : ℕ) (x n : Text) (v : Option Text) → bytes_eq x (45 ∷ 45 ∷ []) ≡ false → long_of x ≡ Some (n, v) → is_option n ≡ false
      → turn_fault (leaf name c) [] (between r (Some (m, [])) (option m) i false) x ≡ kind.UnknownArgument ∷ []
  open_unknown_fault r m i x n v dd long known = rw (dd, long, by_long n, known) refl

  open_short_fault : (r : List Row) (m : Text) (i : ℕ) (x : Text) (b b' : ℕ) (cs : List ℕ) → bytes_eq x (45 ∷ 45 ∷ []) ≡ false → long_of x ≡ None → short_of x ≡ Some (b ∷ cs)
      → slice_get (chars (b ∷ cs)) 0 ≡ Some b' → turn_fault (leaf name c) [] (between r (Some (m, [])) (option m) i false) x ≡ kind.UnknownArgument ∷ []
  unfolding flags_fault
  open_short_fault r m i x b b' cs dd long short first = rw (dd, long, short, first, by_short) refl

  abbrev pub ends : Kinds → Held → Kinds
  ends k h = or_else k (or_else (defaults_fault h.rows c) (check_fault (leaf name c) (fold with_default h.rows c) false))

  out_bad : (w : Walk) (x : Text) (xs : List Text) (k : _) (ks : Kinds) → turn_fault (leaf name c) [] w x ≡ k ∷ ks → outcome name c w (x ∷ xs) ≡ k ∷ ks
  out_bad w x xs k ks bad = step name c w x xs ∙ rw bad refl

  option_case : (o : Option Text) → (o ≡ None) ⊎ ((id : Text) × (o ≡ Some id))
  option_case None = inl refl
  option_case (Some id) = inr (id, refl)

  bad : (w : Walk) (x : Text) (xs : List Text) (k : Kinds) (e : _) → turn_fault (leaf name c) [] w x ≡ e ∷ k → clean (outcome name c w (x ∷ xs)) ≡ false
  bad w x xs k e is = ap clean (out_bad w x xs e k is)

  turn_to : (w v : Walk) (x : Text) (xs : List Text) (k : Kinds) → turn_fault (leaf name c) [] w x ≡ k → walked c [] w x ≡ v → outcome name c w (x ∷ xs) ≡ or_else k (outcome name c v xs)
  turn_to w v x xs k is to = step name c w x xs ∙ ap₂ (λ (k : Kinds) (u : Walk). or_else k (outcome name c u xs)) is to

  dead : (ws : List Text) (r : List Row) (n : Text) (i : ℕ) → is_known n ≡ true → clean (outcome name c (between r (Some (n, [])) (option n) i true) ws) ≡ false
  unfolding walk_fault
  dead [] r n i known = ap (λ k. clean (ends k (settled c (held r (Some (n, [])))))) (settle_bare r n known)
  dead (x ∷ xs) r n i known = elim (option_case (at i)) [
    | inl e ↦ bad (between r (Some (n, [])) (option n) i true) x xs [] kind.UnknownArgument (tail_many r (Some (n, [])) (option n) i x e)
    | inr p ↦ bad (between r (Some (n, [])) (option n) i true) x xs [] kind.InvalidValue (tail_fault r (Some (n, [])) (option n) i x p.0 p.1 ∙ settle_bare r n known)
  ]

  -- a name that was used before is used again
  dup : (ws : List Text) → Each is_option ws → (r : List Row) (id v : Text) (i : ℕ) (t : Bool) → is_known id ≡ true → has_row id r ≡ true
      → clean (outcome name c (between r (Some (id, v ∷ [])) idle i t) ws) ≡ false
  unfolding walk_fault
  dup [] vs r id v i t known again = ap (λ k. clean (ends k (settled c (held r (Some (id, v ∷ [])))))) (settle_is r id v known ∙ ap (λ b. cond b (kind.ArgumentConflict ∷ []) []) again)
  dup (x ∷ xs) vs r id v i true known again =
      let conflict : settle_fault c false (held r (Some (id, v ∷ []))) ≡ kind.ArgumentConflict ∷ [] = settle_is r id v known ∙ ap (λ b. cond b (kind.ArgumentConflict ∷ []) []) again in
      elim (option_case (at i)) [
        | inl e ↦ bad (between r (Some (id, v ∷ [])) idle i true) x xs [] kind.UnknownArgument (tail_many r (Some (id, v ∷ [])) idle i x e)
        | inr p ↦ bad (between r (Some (id, v ∷ [])) idle i true) x xs [] kind.ArgumentConflict (tail_fault r (Some (id, v ∷ [])) idle i x p.0 p.1 ∙ conflict)
      ]
  dup (x ∷ xs) vs r id v i false known again =
      let p : Option (Text × List Text) = Some (id, v ∷ []) in
      let conflict : settle_fault c false (held r (Some (id, v ∷ []))) ≡ kind.ArgumentConflict ∷ [] = settle_is r id v known ∙ ap (λ b. cond b (kind.ArgumentConflict ∷ []) []) again in
      elim vs.0 [
        | is_dashes dd ↦ ap clean (step_to name c (between r p idle i false) (between r p idle i true) x xs (dashes_fault r p idle i x dd) (dashes_walk r p i x dd)) ∙ dup xs vs.1 r id v i true known again
        | is_joined n u dd long ours ↦ bad (between r p idle i false) x xs [] kind.ArgumentConflict (joined_fault r p i x n u dd long ours ∙ ap (λ k. or_else k (use_fault false (option_rule n) (u ∷ []) (settled c (held r p)).rows)) conflict)
        | is_apart n dd long ours ↦ bad (between r p idle i false) x xs [] kind.ArgumentConflict (apart_fault r p i x n dd long ours ∙ conflict)
        | is_unknown n u dd long ours ↦ bad (between r p idle i false) x xs [] kind.UnknownArgument (unknown_fault r p idle i x n u dd long ours)
        | is_short b b' cs dd long short first ↦ bad (between r p idle i false) x xs [] kind.UnknownArgument (short_fault r p i x b b' cs dd long short first)
        | is_plain dd long short ↦ elim (option_case (at i)) [
          | inl e ↦ bad (between r p idle i false) x xs [] kind.UnknownArgument (many_fault r p i x dd long short e)
          | inr q ↦ bad (between r p idle i false) x xs [] kind.ArgumentConflict (word_fault r p i x q.0 dd long short q.1 ∙ conflict)
        ]
      ]

  -- a name that wasn't is used
  flush : (ws : List Text) → Each is_option ws → (r : List Row) (id v : Text) (i : ℕ) (t : Bool) → is_known id ≡ true → has_row id r ≡ false
      → outcome name c (between r (Some (id, v ∷ [])) idle i t) ws ≡ outcome name c (between (r ++ row (id, v) ∷ []) None idle i t) ws
  unfolding walk_fault
  flush [] vs r id v i t known new = ap₂ ends (settle_is r id v known ∙ ap (λ b. cond b (kind.ArgumentConflict ∷ []) []) new) (settled_is r id v known new)
  flush (x ∷ xs) vs r id v i true known new =
      let p : Option (Text × List Text) = Some (id, v ∷ []) in
      let now : List Row = r ++ row (id, v) ∷ [] in
      let none : settle_fault c false (held r p) ≡ [] = settle_is r id v known ∙ ap (λ b. cond b (kind.ArgumentConflict ∷ []) []) new in
      elim (option_case (at i)) [
        | inl e ↦ out_bad (between r p idle i true) x xs kind.UnknownArgument [] (tail_many r p idle i x e) ∙ sym (out_bad (between now None idle i true) x xs kind.UnknownArgument [] (tail_many now None idle i x e))
        | inr q ↦ turn_to (between r p idle i true) (between (settled c (held r p)).rows (Some (q.0, x ∷ [])) idle (i + 1) true) x xs (settle_fault c false (held r p)) (tail_fault r p idle i x q.0 q.1) (tail_walk r p idle i x q.0 q.1)
            ∙ ap₂ (λ (k : Kinds) (h : Held). or_else k (outcome name c (between h.rows (Some (q.0, x ∷ [])) idle (i + 1) true) xs)) none (settled_is r id v known new)
            ∙ sym (turn_to (between now None idle i true) (between now (Some (q.0, x ∷ [])) idle (i + 1) true) x xs [] (tail_fault now None idle i x q.0 q.1) (tail_walk now None idle i x q.0 q.1))
      ]
  flush (x ∷ xs) vs r id v i false known new =
      let p : Option (Text × List Text) = Some (id, v ∷ []) in
      let now : List Row = r ++ row (id, v) ∷ [] in
      let none : settle_fault c false (held r p) ≡ [] = settle_is r id v known ∙ ap (λ b. cond b (kind.ArgumentConflict ∷ []) []) new in
      elim vs.0 [
        | is_dashes dd ↦ step_to name c (between r p idle i false) (between r p idle i true) x xs (dashes_fault r p idle i x dd) (dashes_walk r p i x dd)
            ∙ flush xs vs.1 r id v i true known new
            ∙ sym (step_to name c (between now None idle i false) (between now None idle i true) x xs (dashes_fault now None idle i x dd) (dashes_walk now None i x dd))
        | is_joined n u dd long ours ↦
            turn_to (between r p idle i false) (between (used (option_rule n) (u ∷ []) (settled c (held r p)).rows) None idle i false) x xs (or_else (settle_fault c false (held r p)) (use_fault false (option_rule n) (u ∷ []) (settled c (held r p)).rows)) (joined_fault r p i x n u dd long ours) (joined_walk r p i x n u dd long ours)
            ∙ ap₂ (λ (k : Kinds) (h : Held). or_else (or_else k (use_fault false (option_rule n) (u ∷ []) h.rows)) (outcome name c (between (used (option_rule n) (u ∷ []) h.rows) None idle i false) xs)) none (settled_is r id v known new)
            ∙ sym (turn_to (between now None idle i false) (between (used (option_rule n) (u ∷ []) now) None idle i false) x xs (use_fault false (option_rule n) (u ∷ []) now) (joined_fault now None i x n u dd long ours) (joined_walk now None i x n u dd long ours))
        | is_apart n dd long ours ↦
            turn_to (between r p idle i false) (between (settled c (held r p)).rows (Some (n, [])) (option n) i false) x xs (settle_fault c false (held r p)) (apart_fault r p i x n dd long ours) (apart_walk r p i x n dd long ours)
            ∙ ap₂ (λ (k : Kinds) (h : Held). or_else k (outcome name c (between h.rows (Some (n, [])) (option n) i false) xs)) none (settled_is r id v known new)
            ∙ sym (turn_to (between now None idle i false) (between now (Some (n, [])) (option n) i false) x xs [] (apart_fault now None i x n dd long ours) (apart_walk now None i x n dd long ours))
        | is_unknown n u dd long ours ↦ out_bad (between r p idle i false) x xs kind.UnknownArgument [] (unknown_fault r p idle i x n u dd long ours)
            ∙ sym (out_bad (between now None idle i false) x xs kind.UnknownArgument [] (unknown_fault now None idle i x n u dd long ours))
        | is_short b b' cs dd long short first ↦ out_bad (between r p idle i false) x xs kind.UnknownArgument [] (short_fault r p i x b b' cs dd long short first)
            ∙ sym (out_bad (between now None idle i false) x xs kind.UnknownArgument [] (short_fault now None i x b b' cs dd long short first))
        | is_plain dd long short ↦ elim (option_case (at i)) [
          | inl e ↦ out_bad (between r p idle i false) x xs kind.UnknownArgument [] (many_fault r p i x dd long short e)
              ∙ sym (out_bad (between now None idle i false) x xs kind.UnknownArgument [] (many_fault now None i x dd long short e))
          | inr q ↦ turn_to (between r p idle i false) (between (settled c (held r p)).rows (Some (q.0, x ∷ [])) idle (i + 1) false) x xs (settle_fault c false (held r p)) (word_fault r p i x q.0 dd long short q.1) (word_walk r p i x q.0 dd long short q.1)
              ∙ ap₂ (λ (k : Kinds) (h : Held). or_else k (outcome name c (between h.rows (Some (q.0, x ∷ [])) idle (i + 1) false) xs)) none (settled_is r id v known new)
              ∙ sym (turn_to (between now None idle i false) (between now (Some (q.0, x ∷ [])) idle (i + 1) false) x xs [] (word_fault now None i x q.0 dd long short q.1) (word_walk now None i x q.0 dd long short q.1))
        ]
      ]

  rows_more : (before : List Given) (u : Given) → rows before ++ row u ∷ [] ≡ rows (before ++ u ∷ [])
  rows_more before u = sym (map-append row before (u ∷ []))

  abbrev pub walk_at : List Given → Mode → ℕ → Walk
  walk_at before free i = between (rows before) None idle i false
  walk_at before (opened n) i = between (rows before) (Some (n, [])) (option n) i false
  walk_at before tail i = between (rows before) None idle i true

  abbrev pub Fits : Mode → Type 0
  Fits (opened n) = is_option n ≡ true
  Fits _ = Unit {0}

  -- ---- the rows at the end

  -- the matches at the end
  abbrev pub fin : Walk → List Text → List Row
  fin w ws = finished c (fold (walked c []) w ws).held

  uses_at : (x : Text) (xs : List Text) (m : Mode) (i : ℕ) (w : WordKind) → word_of is_option x ≡ w → uses at is_option (x ∷ xs) m i ≡ use_word w m i x (at i) (uses at is_option xs)
  unfolding uses
  uses_at x xs m i w is = rw is refl

  uses_end : (m : Mode) (i : ℕ) → uses at is_option [] m i ≡ at_end m
  unfolding uses
  uses_end m i = refl

  no_use : {X : Type 0} (us : List Given) (o : Option (List Given)) → o ≡ Some us → o ≡ None → X
  no_use {X} us o some none = absurd (let both : None ≡ Some us = sym none ∙ some in cc)

  abbrev mode_of : Bool → Mode
  mode_of true = tail
  mode_of false = free

  taken : (x : Text) (xs : List Text) (i : ℕ) (o : Option Text) (us : List Given) (next : Option (List Given)) → to_positional o x next ≡ Some us
      → (id : Text) × (vs : List Given) × (o ≡ Some id) × (next ≡ Some vs) × (us ≡ (id, x) ∷ vs)
  taken x xs i None us next e = absurd (let bad : None ≡ Some us = e in cc)
  taken x xs i (Some id) us None e = absurd (let bad : None ≡ Some us = e in cc)
  taken x xs i (Some id) us (Some vs) e = (id, vs, refl, refl, let same : Some ((id, x) ∷ vs) ≡ Some us = e in cc)

  more_taken : (u : Given) (us : List Given) (o : Option (List Given)) → more u o ≡ Some us → (vs : List Given) × (o ≡ Some vs) × (us ≡ u ∷ vs)
  more_taken u us None e = absurd (let bad : None ≡ Some us = e in cc)
  more_taken u us (Some vs) e = (vs, refl, let same : Some (u ∷ vs) ≡ Some us = e in cc)

  flush_rows : (ws : List Text) → Each is_option ws → (r : List Row) (id v : Text) (i : ℕ) (t : Bool) (us : List Given) → is_known id ≡ true → has_row id r ≡ false
      → uses at is_option ws (mode_of t) i ≡ Some us
      → fin (between r (Some (id, v ∷ [])) idle i t) ws ≡ fin (between (r ++ row (id, v) ∷ []) None idle i t) ws
  flush_rows [] vs r id v i t us known new e = ap (λ (h : Held). fold with_default h.rows c) (settled_is r id v known new)
  flush_rows (x ∷ xs) vs r id v i true us known new e =
      let p : Option (Text × List Text) = Some (id, v ∷ []) in
      let now : List Row = r ++ row (id, v) ∷ [] in
      let q = taken x xs i (at i) us (uses at is_option xs tail (i + 1)) (sym (uses_at x xs tail i (word_of is_option x) refl) ∙ e) in
      ap (λ (w : Walk). fin w xs) (tail_walk r p idle i x q.0 q.2 ∙ ap (λ (h : Held). between h.rows (Some (q.0, x ∷ [])) idle (i + 1) true) (settled_is r id v known new) ∙ sym (tail_walk now None idle i x q.0 q.2))
  flush_rows (x ∷ xs) vs r id v i false us known new e =
      let p : Option (Text × List Text) = Some (id, v ∷ []) in
      let now : List Row = r ++ row (id, v) ∷ [] in
      elim vs.0 [
        | is_dashes dd ↦ ap (λ (w : Walk). fin w xs) (dashes_walk r p i x dd)
            ∙ flush_rows xs vs.1 r id v i true us known new (sym (uses_at x xs free i dashes (rw dd refl)) ∙ e)
            ∙ ap (λ (w : Walk). fin w xs) (sym (dashes_walk now None i x dd))
        | is_joined n u dd long ours ↦ ap (λ (w : Walk). fin w xs) (joined_walk r p i x n u dd long ours
            ∙ ap (λ (h : Held). between (used (option_rule n) (u ∷ []) h.rows) None idle i false) (settled_is r id v known new) ∙ sym (joined_walk now None i x n u dd long ours))
        | is_apart n dd long ours ↦ ap (λ (w : Walk). fin w xs) (apart_walk r p i x n dd long ours
            ∙ ap (λ (h : Held). between h.rows (Some (n, [])) (option n) i false) (settled_is r id v known new) ∙ sym (apart_walk now None i x n dd long ours))
        | is_unknown n u dd long other ↦ no_use us _ e (uses_at x xs free i stray (rw (dd, long, other) refl))
        | is_short b b' cs dd long short first ↦ no_use us _ e (uses_at x xs free i stray (rw (dd, long, short) refl))
        | is_plain dd long short ↦
            let q = taken x xs i (at i) us (uses at is_option xs free (i + 1)) (sym (uses_at x xs free i plain (rw (dd, long, short) refl)) ∙ e) in
            ap (λ (w : Walk). fin w xs) (word_walk r p i x q.0 dd long short q.2
            ∙ ap (λ (h : Held). between h.rows (Some (q.0, x ∷ [])) idle (i + 1) false) (settled_is r id v known new) ∙ sym (word_walk now None i x q.0 dd long short q.2))
      ]

  split : (a b : Bool) → (not a && b) ≡ true → (a ≡ false) × (b ≡ true)
  split true b e = absurd (true≢false (sym e))
  split false b e = (refl, e)

  module _ (plain_end : (rs : List Row) → fold with_default rs c ≡ rs) where
    -- a use that is pending, and what comes after it
    pend_rows : (xs : List Text) → Each is_option xs → (before : List Given) (id v : Text) (i : ℕ) (t : Bool) (vs : List Given) → is_known id ≡ true
        → uses at is_option xs (mode_of t) i ≡ Some vs → once_after before ((id, v) ∷ vs) ≡ true
        → (once_after (before ++ (id, v) ∷ []) vs ≡ true → fin (between (rows (before ++ (id, v) ∷ [])) None idle i t) xs ≡ rows ((before ++ (id, v) ∷ []) ++ vs))
        → fin (between (rows before) (Some (id, v ∷ [])) idle i t) xs ≡ rows (before ++ (id, v) ∷ vs)
    pend_rows xs each before id v i t vs known e once' ih =
        let p = split (is_named id before) (once_after (before ++ (id, v) ∷ []) vs) once' in
        flush_rows xs each (rows before) id v i t vs known (has_rows id before ∙ p.0) e
        ∙ ap (λ rs. fin (between rs None idle i t) xs) (rows_more before (id, v)) ∙ ih p.1 ∙ ap rows (append_assoc before ((id, v) ∷ []) vs)

    pub reads_rows : (ws : List Text) → Each is_option ws → (m : Mode) → Fits m → (before : List Given) (i : ℕ) (us : List Given)
        → uses at is_option ws m i ≡ Some us → once_after before us ≡ true → fin (walk_at before m i) ws ≡ rows (before ++ us)
    reads_rows [] each free fits before i us e o = let none : Some [] ≡ Some us = sym (uses_end free i) ∙ e in let same : [] ≡ us = cc in
        plain_end (rows before) ∙ ap rows (sym (append-nil before) ∙ ap (λ xs. before ++ xs) same)
    reads_rows [] each tail fits before i us e o = let none : Some [] ≡ Some us = sym (uses_end tail i) ∙ e in let same : [] ≡ us = cc in
        plain_end (rows before) ∙ ap rows (sym (append-nil before) ∙ ap (λ xs. before ++ xs) same)
    reads_rows [] each (opened n) fits before i us e o = no_use us _ e (uses_end (opened n) i)
    reads_rows (x ∷ xs) each tail fits before i us e o =
        let q = taken x xs i (at i) us (uses at is_option xs tail (i + 1)) (sym (uses_at x xs tail i (word_of is_option x) refl) ∙ e) in
        ap (λ (w : Walk). fin w xs) (tail_walk (rows before) None idle i x q.0 q.2)
        ∙ pend_rows xs each.1 before q.0 x (i + 1) true q.1 (at_known i q.0 q.2) q.3 (subst (λ (vs : List Given). once_after before vs ≡ true) q.4 o)
        (λ o'. reads_rows xs each.1 tail tt (before ++ (q.0, x) ∷ []) (i + 1) q.1 q.3 o')
        ∙ ap (λ (vs : List Given). rows (before ++ vs)) (sym q.4)
    reads_rows (x ∷ xs) each (opened n) fits before i us e o = elim each.0 [
      | is_dashes dd ↦ no_use us _ e (uses_at x xs (opened n) i dashes (rw dd refl))
      | is_joined m v dd long ours ↦ no_use us _ e (uses_at x xs (opened n) i (joined m v) (rw (dd, long, ours) refl))
      | is_apart m dd long ours ↦ no_use us _ e (uses_at x xs (opened n) i (apart m) (rw (dd, long, ours) refl))
      | is_unknown m v dd long other ↦ no_use us _ e (uses_at x xs (opened n) i stray (rw (dd, long, other) refl))
      | is_short b b' cs dd long short first ↦ no_use us _ e (uses_at x xs (opened n) i stray (rw (dd, long, short) refl))
      | is_plain dd long short ↦
          let q = more_taken (n, x) us (uses at is_option xs free i) (sym (uses_at x xs (opened n) i plain (rw (dd, long, short) refl)) ∙ e) in
          ap (λ (w : Walk). fin w xs) (value_walk (rows before) i x n dd long short (option_known n fits))
          ∙ pend_rows xs each.1 before n x i false q.0 (option_known n fits) q.1 (subst (λ (vs : List Given). once_after before vs ≡ true) q.2 o)
          (λ o'. reads_rows xs each.1 free tt (before ++ (n, x) ∷ []) i q.0 q.1 o')
          ∙ ap (λ (vs : List Given). rows (before ++ vs)) (sym q.2)
    ]
    reads_rows (x ∷ xs) each free fits before i us e o = elim each.0 [
      | is_dashes dd ↦ ap (λ (w : Walk). fin w xs) (dashes_walk (rows before) None i x dd)
          ∙ reads_rows xs each.1 tail tt before i us (sym (uses_at x xs free i dashes (rw dd refl)) ∙ e) o
      | is_joined n v dd long ours ↦
          let q = more_taken (n, v) us (uses at is_option xs free i) (sym (uses_at x xs free i (joined n v) (rw (dd, long, ours) refl)) ∙ e) in
          let p = split (is_named n before) (once_after (before ++ (n, v) ∷ []) q.0) (subst (λ (vs : List Given). once_after before vs ≡ true) q.2 o) in
          ap (λ (w : Walk). fin w xs) (joined_walk (rows before) None i x n v dd long ours)
          ∙ ap (λ (rs : List Row). fin (between rs None idle i false) xs) (used_fresh n v (rows before) (has_rows n before ∙ p.0) ∙ rows_more before (n, v))
          ∙ reads_rows xs each.1 free tt (before ++ (n, v) ∷ []) i q.0 q.1 p.1
          ∙ ap rows (append_assoc before ((n, v) ∷ []) q.0) ∙ ap (λ (vs : List Given). rows (before ++ vs)) (sym q.2)
      | is_apart n dd long ours ↦ ap (λ (w : Walk). fin w xs) (apart_walk (rows before) None i x n dd long ours)
          ∙ reads_rows xs each.1 (opened n) ours before i us (sym (uses_at x xs free i (apart n) (rw (dd, long, ours) refl)) ∙ e) o
      | is_unknown n v dd long other ↦ no_use us _ e (uses_at x xs free i stray (rw (dd, long, other) refl))
      | is_short b b' cs dd long short first ↦ no_use us _ e (uses_at x xs free i stray (rw (dd, long, short) refl))
      | is_plain dd long short ↦
          let q = taken x xs i (at i) us (uses at is_option xs free (i + 1)) (sym (uses_at x xs free i plain (rw (dd, long, short) refl)) ∙ e) in
          ap (λ (w : Walk). fin w xs) (word_walk (rows before) None i x q.0 dd long short q.2)
          ∙ pend_rows xs each.1 before q.0 x (i + 1) false q.1 (at_known i q.0 q.2) q.3 (subst (λ (vs : List Given). once_after before vs ≡ true) q.4 o)
          (λ o'. reads_rows xs each.1 free tt (before ++ (q.0, x) ∷ []) (i + 1) q.1 q.3 o')
          ∙ ap (λ (vs : List Given). rows (before ++ vs)) (sym q.4)
    ]

  -- ---- the reading of the words

  module _ (complete : List Given → Bool) (final_ok : (us : List Given) → clean (ends [] (held (rows us) None)) ≡ complete us) where
    abbrev pub verdict : List Given → Option (List Given) → Bool
    verdict before o = verdict_by complete before o

    verdict_more : (before : List Given) (u : Given) (o : Option (List Given)) → verdict before (more u o) ≡ (not (is_named u.0 before) && verdict (before ++ u ∷ []) o)
    verdict_more before u None = sym (and_false (not (is_named u.0 before)))
    verdict_more before u (Some us) =
        and_assoc (not (is_named u.0 before)) (once_after (before ++ u ∷ []) us) (complete (before ++ u ∷ us))
        ∙ ap (λ xs. not (is_named u.0 before) && (once_after (before ++ u ∷ []) us && complete xs)) (sym (append_assoc before (u ∷ []) us))

    pend : (xs : List Text) → Each is_option xs → (before : List Given) (id v : Text) (i : ℕ) (t : Bool) (o : Option (List Given)) → is_known id ≡ true
        → clean (outcome name c (between (rows (before ++ (id, v) ∷ [])) None idle i t) xs) ≡ verdict (before ++ (id, v) ∷ []) o
        → clean (outcome name c (between (rows before) (Some (id, v ∷ [])) idle i t) xs) ≡ verdict before (more (id, v) o)
    pend xs vs before id v i t o known ih = elim (cases_Bool (is_named id before)) [
      | inl again ↦ dup xs vs (rows before) id v i t known (has_rows id before ∙ again) ∙ sym (verdict_more before (id, v) o ∙ rw again refl)
      | inr new ↦ ap clean (flush xs vs (rows before) id v i t known (has_rows id before ∙ new) ∙ ap (λ rs. outcome name c (between rs None idle i t) xs) (rows_more before (id, v)))
          ∙ ih ∙ sym (verdict_more before (id, v) o ∙ rw new refl)
    ]

    use_step : (x : Text) (xs : List Text) (m : Mode) (i : ℕ) (w : WordKind) → word_of is_option x ≡ w → uses at is_option (x ∷ xs) m i ≡ use_word w m i x (at i) (uses at is_option xs)
    unfolding uses
    use_step x xs m i w is = rw is refl

    ended : (m : Mode) (i : ℕ) → uses at is_option [] m i ≡ at_end m
    unfolding uses
    ended m i = refl

    at_last : (before : List Given) → complete before ≡ verdict before (Some [])
    at_last before = ap complete (sym (append-nil before))

    joined_use : (xs : List Text) (before : List Given) (n v : Text) (i : ℕ)
        → clean (outcome name c (between (rows (before ++ (n, v) ∷ [])) None idle i false) xs) ≡ verdict (before ++ (n, v) ∷ []) (uses at is_option xs free i)
        → clean (or_else (use_fault false (option_rule n) (v ∷ []) (rows before)) (outcome name c (between (used (option_rule n) (v ∷ []) (rows before)) None idle i false) xs)) ≡ verdict before (more (n, v) (uses at is_option xs free i))
    joined_use xs before n v i ih = elim (cases_Bool (is_named n before)) [
      | inl again ↦ ap (λ k. clean (or_else k (outcome name c (between (used (option_rule n) (v ∷ []) (rows before)) None idle i false) xs)))
          ((option_acts n).fault v (rows before) ∙ ap (λ b. cond b (kind.ArgumentConflict ∷ []) []) (has_rows n before ∙ again))
          ∙ sym (verdict_more before (n, v) (uses at is_option xs free i) ∙ rw again refl)
      | inr new ↦ ap₂ (λ (k : Kinds) (rs : List Row). clean (or_else k (outcome name c (between rs None idle i false) xs)))
          ((option_acts n).fault v (rows before) ∙ ap (λ b. cond b (kind.ArgumentConflict ∷ []) []) (has_rows n before ∙ new))
          (used_fresh n v (rows before) (has_rows n before ∙ new) ∙ rows_more before (n, v))
          ∙ ih ∙ sym (verdict_more before (n, v) (uses at is_option xs free i) ∙ rw new refl)
    ]

    pub reads : (ws : List Text) → Each is_option ws → (m : Mode) → Fits m → (before : List Given) (i : ℕ)
        → clean (outcome name c (walk_at before m i) ws) ≡ verdict before (uses at is_option ws m i)
    unfolding walk_fault
    reads [] vs free fits before i = final_ok before ∙ at_last before ∙ ap (verdict before) (sym (ended free i))
    reads [] vs tail fits before i = final_ok before ∙ at_last before ∙ ap (verdict before) (sym (ended tail i))
    reads [] vs (opened n) fits before i =
        ap (λ k. clean (ends k (settled c (held (rows before) (Some (n, [])))))) (settle_bare (rows before) n (option_known n fits)) ∙ ap (verdict before) (sym (ended (opened n) i))
    reads (x ∷ xs) vs tail fits before i = elim (option_case (at i)) [
      | inl e ↦ bad (between (rows before) None idle i true) x xs [] kind.UnknownArgument (tail_many (rows before) None idle i x e)
          ∙ sym (ap (verdict before) (use_step x xs tail i (word_of is_option x) refl ∙ ap (λ o. to_positional o x (uses at is_option xs tail (i + 1))) e))
      | inr q ↦ ap clean (turn_to (between (rows before) None idle i true) (between (rows before) (Some (q.0, x ∷ [])) idle (i + 1) true) x xs [] (tail_fault (rows before) None idle i x q.0 q.1) (tail_walk (rows before) None idle i x q.0 q.1))
          ∙ pend xs vs.1 before q.0 x (i + 1) true (uses at is_option xs tail (i + 1)) (at_known i q.0 q.1) (reads xs vs.1 tail tt (before ++ (q.0, x) ∷ []) (i + 1))
          ∙ sym (ap (verdict before) (use_step x xs tail i (word_of is_option x) refl ∙ ap (λ o. to_positional o x (uses at is_option xs tail (i + 1))) q.1))
    ]
    reads (x ∷ xs) vs (opened n) fits before i =
        let w : Walk = between (rows before) (Some (n, [])) (option n) i false in
        let known = option_known n fits in
        elim vs.0 [
          | is_dashes dd ↦ ap clean (step_to name c w (between (rows before) (Some (n, [])) (option n) i true) x xs (open_dashes_fault (rows before) n i x dd) (open_dashes_walk (rows before) n i x dd))
              ∙ dead xs (rows before) n i known ∙ sym (ap (verdict before) (use_step x xs (opened n) i dashes (rw dd refl)))
          | is_joined m u dd long ours ↦ bad w x xs [] kind.InvalidValue (open_joined_fault (rows before) n i x m u known dd long ours)
              ∙ sym (ap (verdict before) (use_step x xs (opened n) i (joined m u) (rw (dd, long, ours) refl)))
          | is_apart m dd long ours ↦ bad w x xs [] kind.InvalidValue (open_apart_fault (rows before) n i x m known dd long ours)
              ∙ sym (ap (verdict before) (use_step x xs (opened n) i (apart m) (rw (dd, long, ours) refl)))
          | is_unknown m u dd long other ↦ bad w x xs [] kind.UnknownArgument (open_unknown_fault (rows before) n i x m u dd long other)
              ∙ sym (ap (verdict before) (use_step x xs (opened n) i stray (rw (dd, long, other) refl)))
          | is_short b b' cs dd long short first ↦ bad w x xs [] kind.UnknownArgument (open_short_fault (rows before) n i x b b' cs dd long short first)
              ∙ sym (ap (verdict before) (use_step x xs (opened n) i stray (rw (dd, long, short) refl)))
          | is_plain dd long short ↦ ap clean (step_to name c w (between (rows before) (Some (n, x ∷ [])) idle i false) x xs (value_fault (rows before) (Some (n, [])) n i x dd long short) (value_walk (rows before) i x n dd long short known))
              ∙ pend xs vs.1 before n x i false (uses at is_option xs free i) known (reads xs vs.1 free tt (before ++ (n, x) ∷ []) i)
              ∙ sym (ap (verdict before) (use_step x xs (opened n) i plain (rw (dd, long, short) refl)))
        ]
    reads (x ∷ xs) vs free fits before i =
        let w : Walk = between (rows before) None idle i false in
        elim vs.0 [
          | is_dashes dd ↦ ap clean (step_to name c w (between (rows before) None idle i true) x xs (dashes_fault (rows before) None idle i x dd) (dashes_walk (rows before) None i x dd))
              ∙ reads xs vs.1 tail tt before i ∙ sym (ap (verdict before) (use_step x xs free i dashes (rw dd refl)))
          | is_joined n v dd long ours ↦
              ap clean (turn_to w (between (used (option_rule n) (v ∷ []) (rows before)) None idle i false) x xs (use_fault false (option_rule n) (v ∷ []) (rows before)) (joined_fault (rows before) None i x n v dd long ours) (joined_walk (rows before) None i x n v dd long ours))
              ∙ joined_use xs before n v i (reads xs vs.1 free tt (before ++ (n, v) ∷ []) i)
              ∙ sym (ap (verdict before) (use_step x xs free i (joined n v) (rw (dd, long, ours) refl)))
          | is_apart n dd long ours ↦ ap clean (step_to name c w (between (rows before) (Some (n, [])) (option n) i false) x xs (apart_fault (rows before) None i x n dd long ours) (apart_walk (rows before) None i x n dd long ours))
              ∙ reads xs vs.1 (opened n) ours before i ∙ sym (ap (verdict before) (use_step x xs free i (apart n) (rw (dd, long, ours) refl)))
          | is_unknown n u dd long other ↦ bad w x xs [] kind.UnknownArgument (unknown_fault (rows before) None idle i x n u dd long other)
              ∙ sym (ap (verdict before) (use_step x xs free i stray (rw (dd, long, other) refl)))
          | is_short b b' cs dd long short first ↦ bad w x xs [] kind.UnknownArgument (short_fault (rows before) None i x b b' cs dd long short first)
              ∙ sym (ap (verdict before) (use_step x xs free i stray (rw (dd, long, short) refl)))
          | is_plain dd long short ↦ elim (option_case (at i)) [
            | inl e ↦ bad w x xs [] kind.UnknownArgument (many_fault (rows before) None i x dd long short e)
                ∙ sym (ap (verdict before) (use_step x xs free i plain (rw (dd, long, short) refl) ∙ ap (λ o. to_positional o x (uses at is_option xs free (i + 1))) e))
            | inr q ↦ ap clean (turn_to w (between (rows before) (Some (q.0, x ∷ [])) idle (i + 1) false) x xs [] (word_fault (rows before) None i x q.0 dd long short q.1) (word_walk (rows before) None i x q.0 dd long short q.1))
                ∙ pend xs vs.1 before q.0 x (i + 1) false (uses at is_option xs free (i + 1)) (at_known i q.0 q.1) (reads xs vs.1 free tt (before ++ (q.0, x) ∷ []) (i + 1))
                ∙ sym (ap (verdict before) (use_step x xs free i plain (rw (dd, long, short) refl) ∙ ap (λ o. to_positional o x (uses at is_option xs free (i + 1))) q.1))
          ]
        ]
