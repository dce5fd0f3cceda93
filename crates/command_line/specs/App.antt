-- The program and its commands, as an application in the sense of clap's definitions.
use Rattle.std.specs.Prelude.{Bool, true, false, List, [], ◌∷◌, Option, Some, codes, find, fold, map, option_and_then}
use Rattle.std.specs.Str.{bytes_eq}
use Rattle.clap.specs.Words.{App, Row, first_of, Rule, Text, new_app, new_rule, with_rule, with_subcommand}
use Rattle.command_line.specs.CommandLine.{Request, Form, rewrites, audits, learns, exports, traces, demos, upgrades, trims, tidies, generalises, all_given, name_of, options_of, request_by}

-- a positional word
abbrev pub positional : Text → Rule
positional id = record (new_rule id) { required = true }

-- an option `--id`
abbrev pub option : Text → Rule
option id = record (new_rule id) { long = Some id }

-- an option if true, a positional word if false
abbrev pub argument : Bool → Text → Rule
argument true = option
argument false = positional

-- a command with one more argument, made by the rule, for each of these names
abbrev pub with_all : (Text → Rule) → App → List Text → App
with_all rule command ids = fold (λ a id. with_rule a (rule id)) command ids

-- a command with these positional words and options
abbrev pub command_app : Text → List Text → List Text → App
command_app name words options = with_all option (with_all positional (new_app name) words) options

-- the commands
abbrev pub forms : List Form
forms = rewrites ∷ audits ∷ learns ∷ exports ∷ traces ∷ demos ∷ upgrades ∷ trims ∷ tidies ∷ generalises ∷ []

-- the names of a command's positional words
abbrev pub words_for : Form → List Text
words_for rewrites = codes "table" ∷ codes "listing" ∷ codes "out" ∷ codes "image" ∷ []
words_for audits = codes "table" ∷ []
words_for learns = codes "listing" ∷ codes "out" ∷ []
words_for exports = codes "table" ∷ codes "entry" ∷ codes "cnf" ∷ codes "lrat" ∷ []
words_for traces = codes "listing" ∷ codes "label" ∷ codes "steps" ∷ []
words_for demos = codes "windows" ∷ []
words_for upgrades = codes "table" ∷ codes "out" ∷ []
words_for trims = codes "table" ∷ codes "out" ∷ []
words_for tidies = codes "listing" ∷ codes "out" ∷ []
words_for generalises = codes "table" ∷ codes "entry" ∷ codes "number" ∷ codes "low" ∷ codes "high" ∷ codes "out" ∷ []

abbrev pub app_for : Form → App
app_for form = command_app (name_of form) (words_for form) (options_of form)

abbrev pub bare_app : App
bare_app = let a = new_app (codes "peep") in record a {
  top = record a.top {
    no_binary_name = true;
    disable_help_flag = true;
    disable_help_subcommand = true;
    subcommand_required = true;
  };
}

abbrev pub peep_app : App
peep_app = fold (λ a form. with_subcommand a (app_for form).top) bare_app forms

-- what a command asks for, by the values of its words and options
abbrev pub asked_by : Form → (Text → Option Text) → Option Request
asked_by form value = option_and_then (λ ws. request_by form ws value) (all_given (map value (words_for form)))

-- the form of the command with this name
abbrev pub form_of : Text → Option Form
form_of n = find (λ form. bytes_eq n (name_of form)) forms

-- what the command with this name and clap's rows of values asks for
abbrev pub asked : Text × List Row → Option Request
asked c = option_and_then (λ form. asked_by form (λ id. first_of id c.1)) (form_of c.0)
