-- For each command, clap accepts words, and finds the values, if and only if the words are that command in the sense of `IsCommand`.
use Rattle.std.proofs.Common.{◌≡◌, ◌∙◌, ◌<◌, true, List, [], ◌∷◌, length, map, Some, refl, sym, ap, true≢false}
use Rattle.std.specs.List.{list_all}
use Rattle.clap.specs.Words.{fault_of, subcommand_of}
use Rattle.clap.specs.Kinds.{Kinds}
use Rattle.command_line.specs.App.{peep_app}
use Rattle.command_line.specs.Words.{Given, IsCommand, Text, is_one_of, value_of}
use Rattle.command_line.proofs.Law.{clean, rows}
use Rattle.command_line.proofs.Lookup.{command_rows, level_reads}
use Rattle.command_line.proofs.Views.{AreTexts, each_is}
use Rattle.command_line.proofs.Items.{is_name}
use Rattle.command_line.proofs.NamedValues.{are_apart, values}
use Rattle.command_line.proofs.Exact.{Agrees, agrees_verdict, command_agrees, verdict, verdict_command}
use Rattle.command_line.proofs.Top.{Enters}

pub clean_nil : (k : Kinds) → clean k ≡ true → k ≡ []
clean_nil [] e = refl
clean_nil (k ∷ ks) e = absurd (true≢false (sym e))

module _ (name : Text) (words opts : List Text) (few : length words < 1000) (names : list_all is_name opts ≡ true) (apart : are_apart words opts ≡ true) (enters : Enters name words opts) where
  -- clap finds these uses, which give the positional words and the options
  pub record Finds (ws ps : List Text) (gs us : List Given) : Type 0 where
    pub fine : fault_of peep_app (name ∷ ws) ≡ []
    pub found : subcommand_of peep_app (name ∷ ws) ≡ Some (name, rows us)
    pub in_order : values words us ≡ map (λ p. Some p) ps
    pub options : (n : Text) → is_one_of opts n ≡ true → value_of n us ≡ value_of n gs

  clean_verdict : (ws : List Text) → AreTexts ws → clean (fault_of peep_app (name ∷ ws)) ≡ verdict name words opts names apart ws
  clean_verdict ws texts = ap clean (enters.fault ws) ∙ level_reads name words opts few ws (each_is (is_one_of opts) ws texts)

  finds : (ws : List Text) → AreTexts ws → (ps : List Text) (gs us : List Given) → Agrees name words opts names apart ws ps gs us → Finds ws ps gs us
  finds ws texts ps gs us a = record {
    fine = clean_nil (fault_of peep_app (name ∷ ws)) (clean_verdict ws texts ∙ agrees_verdict name words opts names apart ws ps gs us a);
    found = enters.found ws ∙ ap (λ rs. Some (name, rs)) (command_rows name words opts few ws (each_is (is_one_of opts) ws texts) us a.read a.once);
    in_order = a.words;
    options = a.options;
  }

  pub command_finds : (ws : List Text) → AreTexts ws → (ps : List Text) (gs : List Given) → IsCommand name opts (name ∷ ws) ps gs → length ps ≡ length words
      → (us : List Given) × Finds ws ps gs us
  command_finds ws texts ps gs c count = let f = command_agrees name words opts names apart ws ps gs c count in (f.0, finds ws texts ps gs f.0 f.1)

  pub finds_command : (ws : List Text) → AreTexts ws → fault_of peep_app (name ∷ ws) ≡ []
      → (us : List Given) × (ps : List Text) × (gs : List Given) × Finds ws ps gs us × IsCommand name opts (name ∷ ws) ps gs
  finds_command ws texts none =
      let f = verdict_command name words opts names apart ws (each_is (is_one_of opts) ws texts) (sym (clean_verdict ws texts) ∙ ap clean none) in
      (f.0, f.1, f.2, finds ws texts f.1 f.2 f.0 f.3, f.4)
