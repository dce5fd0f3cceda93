-- clap at the first word: it names a command, to which the other words go, or it is refused.
use Rattle.std.proofs.Common.{◌≡◌, ◌∙◌, ◌⊎◌, inl, inr, ◌++◌, ℕ, true, false, List, [], ◌∷◌, map, Option, Some, None, refl, sym, ap, ap₂, codes, append_assoc, append-nil, is_some, true≢false}
use Rattle.std.specs.Prelude.{find, fold, slice_get}
use Rattle.std.specs.Str.{bytes_eq, chars}
use Rattle.clap.specs.Lexer.{long_of, short_of}
use Rattle.clap.specs.Simple.{entered}
use Rattle.clap.specs.Words.{Rule, Shape, Text, built, fault_of, subcommand_of}
use Rattle.clap.specs.Walk.{Names, Walk, answers_to, finished, nothing_held, rows_after, settled, walk_from, walked}
use Rattle.clap.specs.Faults.{check_fault, defaults_fault, entered_fault, level_fault, settle_fault, turn_fault, walk_fault}
use Rattle.clap.specs.Kinds.{Kinds, or_else}
use Rattle.clap.specs.declared.error.kind.ErrorKind.TheVariants as kind
use Rattle.clap.proofs.OnLiterals.{clap_on_literals}
use Rattle.command_line.specs.App.{forms, peep_app, words_for}
use Rattle.command_line.specs.CommandLine.{Form, rewrites, audits, learns, exports, traces, demos, upgrades, trims, tidies, generalises, name_of, options_of}
use Rattle.command_line.proofs.Level.{leaf, or_else_nil}
use Rattle.command_line.proofs.Law.{Is, is_dashes, is_joined, is_apart, is_unknown, is_short, is_plain, clean}
use Rattle.command_line.proofs.Lookup.{options, words_from}
use Rattle.command_line.proofs.Bytes.{same_text}
use Rattle.std.proofs.lemmas.Bool.{cases_Bool}

-- after a command was found, the words go to it
stopped_walk : (c : List Rule) (names : Names) (w : Walk) (name : Text) (rest words : List Text)
    → fold (walked c names) (record w { stopped = Some (name, rest) }) words ≡ record w { stopped = Some (name, rest ++ words) }
unfolding walked
stopped_walk c names w name rest [] = ap (λ (ws : List Text). record w { stopped = Some (name, ws) }) (sym (append-nil rest))
stopped_walk c names w name rest (x ∷ xs) = stopped_walk c names w name (rest ++ x ∷ []) xs ∙ ap (λ (ws : List Text). record w { stopped = Some (name, ws) }) (append_assoc rest (x ∷ []) xs)

stopped_fault : (s : Shape) (names : Names) (w : Walk) (name : Text) (rest words : List Text)
    → walk_fault s names (record w { stopped = Some (name, rest) }) words ≡ []
unfolding walk_fault walked
stopped_fault s names w name rest [] = refl
stopped_fault s names w name rest (x ∷ xs) = stopped_fault s names w name (rest ++ x ∷ []) xs

-- the commands' names, without aliases
abbrev pub names_for : List Form → Names
names_for fs = map (λ f. (name_of f, [])) fs

abbrev pub top_names : Names
top_names = names_for forms

abbrev top : Shape
top = (built peep_app).top

abbrev start : Walk
start = walk_from nothing_held

-- the fault at the end of the first level
abbrev whole : Walk → Kinds → Kinds
whole end k = or_else k (or_else (entered_fault (built peep_app) end.stopped) (or_else (settle_fault [] false end.held) (or_else (defaults_fault (settled [] end.held).rows []) (check_fault top (finished [] end.held) (is_some (entered (built peep_app) end.stopped))))))

fault_is : (w : Text) (ws : List Text) → fault_of peep_app (w ∷ ws)
    ≡ whole (fold (walked [] top_names) (walked [] top_names start w) ws) (or_else (turn_fault top top_names start w) (walk_fault top top_names (walked [] top_names start w) ws))
unfolding clap_on_literals
fault_is w ws = refl

-- ---- a word that names a command: its own words decide

-- what clap does from this command on is what it does on the command's own level
pub record Enters (name : Text) (words opts : List Text) : Type 0 where
  pub fault : (ws : List Text) → fault_of peep_app (name ∷ ws) ≡ level_fault (leaf name (words_from 1 words (options opts))) [] nothing_held ws false []
  pub found : (ws : List Text) → subcommand_of peep_app (name ∷ ws) ≡ Some (name, rows_after (words_from 1 words (options opts)) [] ws)

stopped_at : (name : Text) (ws : List Text) → turn_fault top top_names start name ≡ [] → walked [] top_names start name ≡ record start { stopped = Some (name, []) }
    → fault_of peep_app (name ∷ ws) ≡ whole (record start { stopped = Some (name, ws) }) []
stopped_at name ws none stop = fault_is name ws
    ∙ ap₂ (λ (k : Kinds) (w : Walk). whole (fold (walked [] top_names) w ws) (or_else k (walk_fault top top_names w ws))) none stop
    ∙ ap₂ whole (stopped_walk [] top_names start name [] ws) (stopped_fault top top_names start name [] ws)

stopped_in : (name : Text) (ws : List Text) → entered (built peep_app) (fold (walked [] top_names) (record start { stopped = Some (name, []) }) ws).stopped ≡ entered (built peep_app) (Some (name, ws))
stopped_in name ws = ap (λ (w : Walk). entered (built peep_app) w.stopped) (stopped_walk [] top_names start name [] ws)

pub enters : (form : Form) → Enters (name_of form) (words_for form) (options_of form)
unfolding clap_on_literals
enters rewrites = record { fault = λ ws. stopped_at (name_of rewrites) ws refl refl ∙ or_else_nil _; found = λ ws. stopped_in (name_of rewrites) ws }
enters audits = record { fault = λ ws. stopped_at (name_of audits) ws refl refl ∙ or_else_nil _; found = λ ws. stopped_in (name_of audits) ws }
enters learns = record { fault = λ ws. stopped_at (name_of learns) ws refl refl ∙ or_else_nil _; found = λ ws. stopped_in (name_of learns) ws }
enters exports = record { fault = λ ws. stopped_at (name_of exports) ws refl refl ∙ or_else_nil _; found = λ ws. stopped_in (name_of exports) ws }
enters traces = record { fault = λ ws. stopped_at (name_of traces) ws refl refl ∙ or_else_nil _; found = λ ws. stopped_in (name_of traces) ws }
enters demos = record { fault = λ ws. stopped_at (name_of demos) ws refl refl ∙ or_else_nil _; found = λ ws. stopped_in (name_of demos) ws }
enters upgrades = record { fault = λ ws. stopped_at (name_of upgrades) ws refl refl ∙ or_else_nil _; found = λ ws. stopped_in (name_of upgrades) ws }
enters trims = record { fault = λ ws. stopped_at (name_of trims) ws refl refl ∙ or_else_nil _; found = λ ws. stopped_in (name_of trims) ws }
enters tidies = record { fault = λ ws. stopped_at (name_of tidies) ws refl refl ∙ or_else_nil _; found = λ ws. stopped_in (name_of tidies) ws }
enters generalises = record { fault = λ ws. stopped_at (name_of generalises) ws refl refl ∙ or_else_nil _; found = λ ws. stopped_in (name_of generalises) ws }

-- ---- no words, and words that begin with another

pub nothing_fault : clean (fault_of peep_app []) ≡ false
unfolding clap_on_literals
nothing_fault = refl

refused : (w : Text) (ws : List Text) (k : _) (ks : Kinds) → turn_fault top top_names start w ≡ k ∷ ks → clean (fault_of peep_app (w ∷ ws)) ≡ false
refused w ws k ks e = ap clean (fault_is w ws)
    ∙ ap (λ (t : Kinds). clean (whole (fold (walked [] top_names) (walked [] top_names start w) ws) (or_else t (walk_fault top top_names (walked [] top_names start w) ws)))) e

dashes_first : (ws : List Text) → clean (fault_of peep_app (codes "--" ∷ ws)) ≡ false
unfolding clap_on_literals
dashes_first [] = refl
dashes_first (x ∷ xs) = refl

-- the word names none of these
abbrev pub NamesNone : Names → Text → Type 0
NamesNone names w = find (answers_to w) names ≡ None

unknown_first : (names : Names) (w n : Text) (v : Option Text) → NamesNone names w → bytes_eq w (45 ∷ 45 ∷ []) ≡ false → long_of w ≡ Some (n, v) → turn_fault top names start w ≡ kind.UnknownArgument ∷ []
unfolding clap_on_literals
unknown_first names w n v none dd long = rw (none, dd, long) refl

short_first : (names : Names) (w : Text) (b b' : ℕ) (cs : List ℕ) → NamesNone names w → bytes_eq w (45 ∷ 45 ∷ []) ≡ false → long_of w ≡ None → short_of w ≡ Some (b ∷ cs)
    → slice_get (chars (b ∷ cs)) 0 ≡ Some b' → turn_fault top names start w ≡ kind.UnknownArgument ∷ []
unfolding clap_on_literals
short_first names w b b' cs none dd long short first = rw (none, dd, long, short, first) refl

plain_first : (names : Names) (w : Text) → NamesNone names w → bytes_eq w (45 ∷ 45 ∷ []) ≡ false → long_of w ≡ None → short_of w ≡ None
    → turn_fault top names start w ≡ kind.UnknownArgument ∷ kind.InvalidSubcommand ∷ []
unfolding clap_on_literals
plain_first names w none dd long short = rw (none, dd, long, short) refl

-- a word names one of the commands, or none
pub named_or_none : (fs : List Form) (w : Text) → ((form : Form) × (bytes_eq (name_of form) w ≡ true)) ⊎ NamesNone (names_for fs) w
named_or_none [] w = inr refl
named_or_none (f ∷ fs) w = elim (cases_Bool (bytes_eq (name_of f) w)) [
  | inl same ↦ inl (f, same)
  | inr other ↦ elim (named_or_none fs w) [ inl form ↦ inl form | inr none ↦ inr (rw other none) ]
]

-- a first word that names no command is refused
pub other_first : (w : Text) (ws : List Text) → NamesNone top_names w → Is (λ _. false) w → clean (fault_of peep_app (w ∷ ws)) ≡ false
other_first w ws none is = elim is [
  | is_dashes dd ↦ ap (λ (t : Text). clean (fault_of peep_app (t ∷ ws))) (same_text w (45 ∷ 45 ∷ []) dd) ∙ dashes_first ws
  | is_joined n v dd long ours ↦ absurd (true≢false (sym ours))
  | is_apart n dd long ours ↦ absurd (true≢false (sym ours))
  | is_unknown n v dd long unknown ↦ refused w ws kind.UnknownArgument [] (unknown_first top_names w n v none dd long)
  | is_short b b' cs dd long short first ↦ refused w ws kind.UnknownArgument [] (short_first top_names w b b' cs none dd long short first)
  | is_plain dd long short ↦ refused w ws kind.UnknownArgument (kind.InvalidSubcommand ∷ []) (plain_first top_names w none dd long short)
]
