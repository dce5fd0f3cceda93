-- The look-ups that clap makes of a command with these words and options, and what they give for the walk over its words.
use Rattle.std.proofs.Common.{◌≡◌, ◌∙◌, inl, inr, ◌+◌, ◌<◌, ◌++◌, ◌&&◌, ◌||◌, ◌==◌, ℕ, Bool, true, false, not, List, [], ◌∷◌, map, length, Option, Some, None, refl, sym, ap, subst, arith, cond, option_map, true≢false, eqb-true}
use Rattle.std.specs.Prelude.{find, min}
use Rattle.std.specs.List.{list_any}
use Rattle.std.specs.Option.{option_map_or}
use Rattle.std.specs.Str.{bytes_eq}
use Rattle.clap.specs.Words.{Rule}
use Rattle.clap.specs.Lexer.{usize_max}
use Rattle.clap.specs.Walk.{arg_by_index, arg_by_long, arg_by_short, arg_by_id}
use Rattle.clap.specs.Walk.{Row, rows_after, with_default, has_row, idle, nothing_held}
use Rattle.clap.specs.Takes.{is_given}
use Rattle.clap.specs.Faults.{level_fault, defaults_fault, check_fault}
use Rattle.clap.specs.Kinds.{or_else}
use Rattle.clap.specs.declared.error.kind.ErrorKind.TheVariants as kind
use Rattle.std.specs.Prelude.{fold}
use Rattle.command_line.specs.Words.{Text, Given, is_named, is_one_of}
use Rattle.command_line.proofs.Reading.{once_after, uses, free}
use Rattle.command_line.proofs.Level.{word_rule, option_rule, leaf, between}
use Rattle.command_line.proofs.Law.{Acts, word_acts, option_acts, rows, clean, Each, reads, reads_rows, verdict_by, outcome}
use Rattle.std.proofs.lemmas.Bool.{cases_Bool}
use Rattle.command_line.proofs.Bytes.{same_text, text_self}
use Rattle.common_lemmas.proofs.Booleans.{or_true}

abbrev pub options : List Text → List Rule
options = map option_rule

abbrev pub words_from : ℕ → List Text → List Rule → List Rule
words_from k [] rest = rest
words_from k (id ∷ ids) rest = word_rule k id ∷ words_from (k + 1) ids rest

abbrev pub at_from : ℕ → List Text → ℕ → Option Text
at_from k [] i = None
at_from k (id ∷ ids) i = cond (k == i) (Some id) (at_from (k + 1) ids i)

no_index : (opts : List Text) (i : ℕ) → find (λ (a : Rule). option_map_or (λ k. k == i) a.index false) (options opts) ≡ None
no_index [] i = refl
no_index (o ∷ os) i = no_index os i

pub by_index : (k : ℕ) (ids opts : List Text) (i : ℕ) → arg_by_index (words_from k ids (options opts)) i ≡ option_map (word_rule i) (at_from k ids i)
by_index k [] opts i = no_index opts i
by_index k (id ∷ ids) opts i = elim (cases_Bool (k == i)) [
  | inl same ↦ rw same (ap (λ (j : ℕ). Some (word_rule j id)) (eqb-true k i same))
  | inr other ↦ rw other (by_index (k + 1) ids opts i)
]

long_option : (opts : List Text) (n : Text) → arg_by_long (options opts) n ≡ cond (is_one_of opts n) (Some (option_rule n)) None
long_option [] n = refl
long_option (o ∷ os) n = elim (cases_Bool (bytes_eq o n)) [
  | inl same ↦ rw same (ap (λ (m : Text). Some (option_rule m)) (same_text o n same))
  | inr other ↦ rw other (long_option os n)
]

pub by_long : (k : ℕ) (ids opts : List Text) (n : Text) → arg_by_long (words_from k ids (options opts)) n ≡ cond (is_one_of opts n) (Some (option_rule n)) None
by_long k [] opts n = long_option opts n
by_long k (id ∷ ids) opts n = by_long (k + 1) ids opts n

pub by_short : (k : ℕ) (ids opts : List Text) (x : ℕ) → arg_by_short (words_from k ids (options opts)) x ≡ None
by_short k [] [] x = refl
by_short k [] (o ∷ os) x = by_short k [] os x
by_short k (id ∷ ids) opts x = by_short (k + 1) ids opts x

-- ---- by id

found_option : (opts : List Text) (id : Text) → is_one_of opts id ≡ true → (a : Rule) × (arg_by_id (options opts) id ≡ Some a) × Acts a id
found_option [] id e = absurd (true≢false (sym e))
found_option (o ∷ os) id e = elim (cases_Bool (bytes_eq o id)) [
  | inl same ↦ (option_rule o, rw same refl, subst (λ (n : Text). Acts (option_rule o) n) (same_text o id same) (option_acts o))
  | inr other ↦ let next = found_option os id (rw other at e) in (next.0, rw other next.1, next.2)
]

pub by_id : (k : ℕ) (ids opts : List Text) (id : Text) → is_one_of (ids ++ opts) id ≡ true → (a : Rule) × (arg_by_id (words_from k ids (options opts)) id ≡ Some a) × Acts a id
by_id k [] opts id e = found_option opts id e
by_id k (i ∷ ids) opts id e = elim (cases_Bool (bytes_eq i id)) [
  | inl same ↦ (word_rule k i, rw same refl, subst (λ (n : Text). Acts (word_rule k i) n) (same_text i id same) (word_acts k i))
  | inr other ↦ let next = by_id (k + 1) ids opts id (rw other at e) in (next.0, rw other next.1, next.2)
]

-- ---- after the words

same_both : {X : Type 0} (b : Bool) (x : X) → cond b x x ≡ x
same_both true x = refl
same_both false x = refl

defaults_options : (opts : List Text) (rs : List Row) → (defaults_fault rs (options opts) ≡ []) × (fold with_default rs (options opts) ≡ rs)
unfolding defaults_fault
defaults_options [] rs = (refl, refl)
defaults_options (o ∷ os) rs = let next = defaults_options os rs in
    (rw (or_true (has_row o rs), same_both (has_row o rs) rs) next.0, ap (λ (r : List Row). fold with_default r (options os)) (same_both (has_row o rs) rs) ∙ next.1)

defaults_words : (k : ℕ) (ids opts : List Text) (rs : List Row) → (defaults_fault rs (words_from k ids (options opts)) ≡ []) × (fold with_default rs (words_from k ids (options opts)) ≡ rs)
unfolding defaults_fault
defaults_words k [] opts rs = defaults_options opts rs
defaults_words k (o ∷ os) opts rs = let next = defaults_words (k + 1) os opts rs in
    (rw (or_true (has_row o rs), same_both (has_row o rs) rs) next.0, ap (λ (r : List Row). fold with_default r (words_from (k + 1) os (options opts))) (same_both (has_row o rs) rs) ∙ next.1)

given_use : (id : Text) (us : List Given) → is_given id (rows us) ≡ is_named id us
given_use id [] = refl
given_use id (u ∷ us) = elim (cases_Bool (bytes_eq u.0 id)) [ inl same ↦ rw same refl | inr other ↦ rw other (given_use id us) ]

-- one of the positional words wasn't given
abbrev pub lacks : List Text → List Given → Bool
lacks ids us = list_any (λ id. not (is_named id us)) ids

lacks_options : (opts : List Text) (rs : List Row) → list_any (λ (a : Rule). a.required && not (is_given a.id rs)) (options opts) ≡ false
lacks_options [] rs = refl
lacks_options (o ∷ os) rs = lacks_options os rs

lacks_words : (k : ℕ) (ids opts : List Text) (us : List Given) → list_any (λ (a : Rule). a.required && not (is_given a.id (rows us))) (words_from k ids (options opts)) ≡ lacks ids us
lacks_words k [] opts us = lacks_options opts (rows us)
lacks_words k (id ∷ ids) opts us = ap (λ b. not b || list_any (λ (a : Rule). a.required && not (is_given a.id (rows us))) (words_from (k + 1) ids (options opts))) (given_use id us)
    ∙ ap (λ b. not (is_named id us) || b) (lacks_words (k + 1) ids opts us)

-- ---- the law at a command with these words and options

any_append : (xs ys : List Text) (n : Text) → is_one_of ys n ≡ true → is_one_of (xs ++ ys) n ≡ true
any_append [] ys n e = e
any_append (x ∷ xs) ys n e = rw (any_append xs ys n e) (or_true (bytes_eq x n))

at_one : (k : ℕ) (ids opts : List Text) (i : ℕ) (id : Text) → at_from k ids i ≡ Some id → is_one_of (ids ++ opts) id ≡ true
at_one k [] opts i id e = absurd (let bad : None ≡ Some id = e in cc)
at_one k (x ∷ xs) opts i id e = elim (cases_Bool (k == i)) [
  | inl same ↦ let here : Some x ≡ Some id = rw same at e in let one : x ≡ id = cc in rw (ap (λ (n : Text). bytes_eq x n) (sym one) ∙ text_self x) refl
  | inr other ↦ rw (at_one (k + 1) xs opts i id (rw other at e)) (or_true (bytes_eq x id))
]

at_small : (k : ℕ) (ids : List Text) (i : ℕ) (id : Text) → at_from k ids i ≡ Some id → i < k + length ids
at_small k [] i id e = absurd (let bad : None ≡ Some id = e in cc)
at_small k (x ∷ xs) i id e = elim (cases_Bool (k == i)) [
  | inl same ↦ let is : k ≡ i = eqb-true k i same in omega arith
  | inr other ↦ let next : i < k + 1 + length xs = at_small (k + 1) xs i id (rw other at e) in omega arith
]

at_fits : (ids : List Text) → length ids < 1000 → (i : ℕ) (id : Text) → at_from 1 ids i ≡ Some id → min (i + 1) usize_max ≡ i + 1
at_fits ids few i id e = let lt : i < 1 + length ids = at_small 1 ids i id e in omega arith

final_is : (name : Text) (ids opts : List Text) (us : List Given)
    → clean (or_else (defaults_fault (rows us) (words_from 1 ids (options opts))) (check_fault (leaf name (words_from 1 ids (options opts))) (fold with_default (rows us) (words_from 1 ids (options opts))) false))
    ≡ not (lacks ids us)
final_is name ids opts us =
    let d = defaults_words 1 ids opts (rows us) in
    rw (d.0, d.1, lacks_words 1 ids opts us) (go (lacks ids us)) where
      go : (b : Bool) → clean (cond b (kind.MissingRequiredArgument ∷ []) []) ≡ not b
      go true = refl
      go false = refl

-- clap finds no fault if and only if the words can be read, each name is used once and no positional word is missing
pub command_reads : (name : Text) (ids opts : List Text) → length ids < 1000 → (ws : List Text) → Each (is_one_of opts) ws
    → clean (outcome name (words_from 1 ids (options opts)) (between [] None idle 1 false) ws) ≡ verdict_by (λ us. not (lacks ids us)) [] (uses (at_from 1 ids) (is_one_of opts) ws free 1)
command_reads name ids opts few ws vs = reads name (words_from 1 ids (options opts)) (at_from 1 ids) (is_one_of opts) (is_one_of (ids ++ opts))
    (by_index 1 ids opts) (by_long 1 ids opts) (by_short 1 ids opts) (by_id 1 ids opts) (at_one 1 ids opts) (any_append ids opts) (at_fits ids few)
    (λ us. not (lacks ids us)) (final_is name ids opts) ws vs free tt [] 1

-- the fault of the whole level
pub level_reads : (name : Text) (ids opts : List Text) → length ids < 1000 → (ws : List Text) → Each (is_one_of opts) ws
    → clean (level_fault (leaf name (words_from 1 ids (options opts))) [] nothing_held ws false []) ≡ verdict_by (λ us. not (lacks ids us)) [] (uses (at_from 1 ids) (is_one_of opts) ws free 1)
level_reads name ids opts few ws vs = command_reads name ids opts few ws vs

-- if so, the matches are the uses, in order
pub command_rows : (name : Text) (ids opts : List Text) → length ids < 1000 → (ws : List Text) → Each (is_one_of opts) ws → (us : List Given)
    → uses (at_from 1 ids) (is_one_of opts) ws free 1 ≡ Some us → once_after [] us ≡ true → rows_after (words_from 1 ids (options opts)) [] ws ≡ rows us
command_rows name ids opts few ws vs us e o = reads_rows name (words_from 1 ids (options opts)) (at_from 1 ids) (is_one_of opts) (is_one_of (ids ++ opts))
    (by_index 1 ids opts) (by_long 1 ids opts) (by_short 1 ids opts) (by_id 1 ids opts) (at_one 1 ids opts) (any_append ids opts) (at_fits ids few)
    (λ rs. (defaults_words 1 ids opts rs).1) ws vs free tt [] 1 us e o
