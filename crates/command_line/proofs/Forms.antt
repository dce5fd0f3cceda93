-- What clap finds for each command is what its definition asks for, and the reverse; one case for each form.
use Rattle.std.proofs.Common.{◌≡◌, ◌∙◌, ◌<◌, true, List, [], ◌∷◌, length, map, Option, Some, None, refl, sym, ap, ap₂, arith, codes, option_map}
use Rattle.std.specs.Prelude.{option_and_then}
use Rattle.std.specs.List.{list_all}
use Rattle.clap.specs.Words.{Row, fault_of, first_of, subcommand_of}
use Rattle.command_line.specs.App.{asked, asked_by, form_of, peep_app, words_for}
use Rattle.command_line.specs.Words.{Given, IsCommand, Text, is_one_of, value_of}
use Rattle.rule_table.specs.Header.{version_with}
use Rattle.command_line.specs.CommandLine.{AskFor, Form, rewrites, audits, learns, exports, traces, demos, upgrades, trims, tidies, generalises, Request, rewrite, learn, tidy, all_given, base_of, settings_of, settings_by, number_from, pool_of, name_of, options_of, request_by}
use Rattle.rule_table.specs.Header.{Header}
use Rattle.command_line.proofs.Items.{is_name}
use Rattle.command_line.proofs.Law.{rows}
use Rattle.command_line.proofs.Views.{AreTexts}
use Rattle.command_line.proofs.NamedValues.{are_apart, first_row, values}
use Rattle.command_line.proofs.Commands.{Finds, command_finds, finds_command}
use Rattle.command_line.proofs.Top.{enters}
use Rattle.command_line.proofs.Pools.{all_some}

-- what clap's matches ask for
abbrev pub meaning : List Text → Option Request
meaning ws = option_and_then asked (subcommand_of peep_app ws)

-- ---- of each form ----

pub record IsForm (form : Form) : Type 0 where
  -- its words are few
  pub few : length (words_for form) < 1000
  -- its options are names, and no word is named as another or as an option
  pub names : list_all is_name (options_of form) ≡ true
  pub apart : are_apart (words_for form) (options_of form) ≡ true
  -- the form is found by its name
  pub named : form_of (name_of form) ≡ Some form

is_form : (form : Form) → IsForm form
is_form rewrites = record { few = omega arith; names = refl; apart = refl; named = refl }
is_form audits = record { few = omega arith; names = refl; apart = refl; named = refl }
is_form learns = record { few = omega arith; names = refl; apart = refl; named = refl }
is_form exports = record { few = omega arith; names = refl; apart = refl; named = refl }
is_form traces = record { few = omega arith; names = refl; apart = refl; named = refl }
is_form demos = record { few = omega arith; names = refl; apart = refl; named = refl }
is_form upgrades = record { few = omega arith; names = refl; apart = refl; named = refl }
is_form trims = record { few = omega arith; names = refl; apart = refl; named = refl }
is_form tidies = record { few = omega arith; names = refl; apart = refl; named = refl }
is_form generalises = record { few = omega arith; names = refl; apart = refl; named = refl }

-- the settings depend only on the values of their options
same_settings : (f g : Text → Option Text) → ((n : Text) → is_one_of (options_of learns) n ≡ true → f n ≡ g n) → settings_of f ≡ settings_of g
same_settings f g e =
    let regs : f (codes "regs") ≡ g (codes "regs") = e (codes "regs") refl in
    let left : f (codes "left") ≡ g (codes "left") = e (codes "left") refl in
    let budget : f (codes "budget") ≡ g (codes "budget") = e (codes "budget") refl in
    let seed : f (codes "seed") ≡ g (codes "seed") = e (codes "seed") refl in
    let pool : f (codes "pool") ≡ g (codes "pool") = e (codes "pool") refl in
    let scratch : f (codes "scratch") ≡ g (codes "scratch") = e (codes "scratch") refl in
    let costs : f (codes "costs") ≡ g (codes "costs") = e (codes "costs") refl in
    λ i. settings_by (version_with (costs i)) (number_from 1 4 3 (regs i)) (number_from 1 5 3 (left i)) (number_from 1 1000000 20000 (budget i)) (number_from 0 4294967295 42 (seed i)) (number_from 0 1 0 (scratch i)) (pool_of (pool i))

-- the request depends only on the values of the form's options
pub same_options : (form : Form) (ps : List Text) (f g : Text → Option Text) → ((n : Text) → is_one_of (options_of form) n ≡ true → f n ≡ g n)
    → request_by form ps f ≡ request_by form ps g
same_options rewrites (t ∷ l ∷ o ∷ i ∷ []) f g e = ap (λ (v : Option Text). option_map (λ base. rewrite t l o i base) (base_of v)) (e (codes "base") refl)
same_options rewrites ps f g e = refl
same_options audits (t ∷ []) f g e = refl
same_options audits ps f g e = refl
same_options learns (l ∷ o ∷ []) f g e = ap₂ (λ (c : Option Text) (s : Option Header). option_map (λ settings. learn l o c settings) s) (e (codes "costs") refl) (same_settings f g e)
same_options learns ps f g e = refl
same_options exports (t ∷ n ∷ c ∷ l ∷ []) f g e = refl
same_options exports ps f g e = refl
same_options traces (l ∷ n ∷ s ∷ []) f g e = refl
same_options traces ps f g e = refl
same_options demos (n ∷ []) f g e = refl
same_options demos ps f g e = refl
same_options upgrades (t ∷ o ∷ []) f g e = refl
same_options upgrades ps f g e = refl
same_options trims (t ∷ o ∷ []) f g e = refl
same_options trims ps f g e = refl
same_options tidies (l ∷ o ∷ []) f g e = ap (λ (v : Option Text). option_map (λ base. tidy l o base) (base_of v)) (e (codes "base") refl)
same_options tidies ps f g e = refl
same_options generalises (t ∷ n ∷ x ∷ l ∷ h ∷ o ∷ []) f g e = refl
same_options generalises ps f g e = refl

-- a request has a word for each name
counted : (form : Form) (ps : List Text) (value : Text → Option Text) (r : Request) → request_by form ps value ≡ Some r → length ps ≡ length (words_for form)
counted rewrites (t ∷ l ∷ o ∷ i ∷ []) value r e = refl
counted rewrites ps value r e = absurd (let bad : None ≡ Some r = e in cc)
counted audits (t ∷ []) value r e = refl
counted audits ps value r e = absurd (let bad : None ≡ Some r = e in cc)
counted learns (l ∷ o ∷ []) value r e = refl
counted learns ps value r e = absurd (let bad : None ≡ Some r = e in cc)
counted exports (t ∷ n ∷ c ∷ l ∷ []) value r e = refl
counted exports ps value r e = absurd (let bad : None ≡ Some r = e in cc)
counted traces (l ∷ n ∷ s ∷ []) value r e = refl
counted traces ps value r e = absurd (let bad : None ≡ Some r = e in cc)
counted demos (n ∷ []) value r e = refl
counted demos ps value r e = absurd (let bad : None ≡ Some r = e in cc)
counted upgrades (t ∷ o ∷ []) value r e = refl
counted upgrades ps value r e = absurd (let bad : None ≡ Some r = e in cc)
counted trims (t ∷ o ∷ []) value r e = refl
counted trims ps value r e = absurd (let bad : None ≡ Some r = e in cc)
counted tidies (l ∷ o ∷ []) value r e = refl
counted tidies ps value r e = absurd (let bad : None ≡ Some r = e in cc)
counted generalises (t ∷ n ∷ x ∷ l ∷ h ∷ o ∷ []) value r e = refl
counted generalises ps value r e = absurd (let bad : None ≡ Some r = e in cc)

-- ---- of all ----

row_values : (ids : List Text) (us : List Given) → map (λ id. first_of id (rows us)) ids ≡ values ids us
row_values [] us = refl
row_values (id ∷ ids) us = ap₂ (λ (v : Option Text) (vs : List (Option Text)). v ∷ vs) (first_row id us) (row_values ids us)

-- the request, by the uses that the words and options make
asked_is : (form : Form) (us gs : List Given) (ps : List Text) → values (words_for form) us ≡ map (λ p. Some p) ps
    → ((n : Text) → is_one_of (options_of form) n ≡ true → value_of n us ≡ value_of n gs) → asked_by form (λ id. first_of id (rows us)) ≡ request_by form ps (λ n. value_of n gs)
asked_is form us gs ps words options =
    ap (option_and_then (λ ws. request_by form ws (λ id. first_of id (rows us)))) (ap all_given (row_values (words_for form) us ∙ words) ∙ all_some ps)
    ∙ same_options form ps (λ id. first_of id (rows us)) (λ n. value_of n gs) (λ n ours. first_row n us ∙ options n ours)

pub asked_named : (form : Form) (rs : List Row) → asked (name_of form, rs) ≡ asked_by form (λ id. first_of id rs)
asked_named form rs = ap (option_and_then (λ f. asked_by f (λ id. first_of id rs))) (is_form form).named

-- what clap accepts and finds is what the words ask for
pub form_sound : (form : Form) (ws : List Text) → AreTexts ws → fault_of peep_app (name_of form ∷ ws) ≡ [] → (r : Request) → meaning (name_of form ∷ ws) ≡ Some r
    → AskFor (name_of form ∷ ws) r
form_sound form ws texts fine r e = go (finds_command (name_of form) (words_for form) (options_of form) (is_form form).few (is_form form).names (is_form form).apart (enters form) ws texts fine) where
  go : (us : List Given) × (ps : List Text) × (gs : List Given)
      × Finds (name_of form) (words_for form) (options_of form) (is_form form).few (is_form form).names (is_form form).apart (enters form) ws ps gs us
      × IsCommand (name_of form) (options_of form) (name_of form ∷ ws) ps gs → AskFor (name_of form ∷ ws) r
  go (us, ps, gs, f, c) = record {
    form = form;
    words = ps;
    given = gs;
    command = c;
    asks = sym (asked_is form us gs ps f.in_order f.options) ∙ sym (asked_named form (rows us)) ∙ sym (ap (option_and_then asked) f.found) ∙ e;
  }

-- what the words ask for is accepted and found by clap
pub form_complete : (form : Form) (ws : List Text) → AreTexts ws → (r : Request) (ps : List Text) (gs : List Given)
    → IsCommand (name_of form) (options_of form) (name_of form ∷ ws) ps gs → request_by form ps (λ n. value_of n gs) ≡ Some r
    → (fault_of peep_app (name_of form ∷ ws) ≡ []) × (meaning (name_of form ∷ ws) ≡ Some r)
form_complete form ws texts r ps gs c e =
    let f = command_finds (name_of form) (words_for form) (options_of form) (is_form form).few (is_form form).names (is_form form).apart (enters form) ws texts ps gs c (counted form ps (λ n. value_of n gs) r e) in
    (f.1.fine, ap (option_and_then asked) f.1.found ∙ asked_named form (rows f.0) ∙ asked_is form f.0 gs ps f.1.in_order f.1.options ∙ e)

-- what is asked for depends only on the values
pub same_asked : (form : Form) (f g : Text → Option Text) → ((id : Text) → f id ≡ g id) → asked_by form f ≡ asked_by form g
same_asked form f g e = ap (option_and_then (λ ws. request_by form ws f)) (ap all_given (mapped (words_for form))) ∙ go (all_given (map g (words_for form))) where
  mapped : (ids : List Text) → map f ids ≡ map g ids
  mapped [] = refl
  mapped (id ∷ ids) = ap₂ (λ (v : Option Text) (vs : List (Option Text)). v ∷ vs) (e id) (mapped ids)

  go : (o : Option (List Text)) → option_and_then (λ ws. request_by form ws f) o ≡ option_and_then (λ ws. request_by form ws g) o
  go None = refl
  go (Some ws) = same_options form ws f g (λ n ours. e n)
