-- From clap's contract to the contract of `usage_of`.
use Rattle.std.proofs.Common.{◌≡◌, ◌≢◌, ◌∙◌, suc, List, [], ◌∷◌, map, Option, Some, None, sym, ap, ap₂, arith, Bor, option_map, subst}
use Rattle.std.specs.Prelude.{All, MatchOption, option_and_then}
use Rattle.std.specs.Box.{box_value}
use Rattle.std.specs.Str.{IsUtf8}
use Rattle.clap.specs.Words.{Row, fault_of, first_of, first_value, found_of, rows_of, subcommand_name_of, subcommand_of, subcommand_rows_of}
use Rattle.clap.specs.declared.parser.matches.ArgMatches.{ArgMatches}
use Rattle.clap.specs.declared.parser.matches.ArgMatches.TheViews.{out-ArgMatches, out-SubCommand}
use Rattle.clap.specs.declared.parser.matches.Found.{Found}
use Rattle.clap.proofs.WalkLemmas.{first_value-rows}
use Rattle.command_line.specs.App.{asked, asked_by, peep_app}
use Rattle.command_line.specs.Words.{Text}
use Rattle.command_line.specs.CommandLine.{AskFor, AskOnce, Form, Request, name_of}
use Rattle.command_line.specs.Request.{request_of}
use Rattle.command_line.specs.declared.command.Command.{Command}
use Rattle.command_line.proofs.Views.{AreTexts}
use Rattle.command_line.proofs.Requests.{complete, sound}
use Rattle.command_line.proofs.Forms.{asked_named, meaning, same_asked}

pub are_texts : (xs : List (Bor Text)) → All (λ t. IsUtf8 t.now) xs → AreTexts (map (λ t. t.now) xs)
are_texts [] all = tt
are_texts (x ∷ xs) all = (all 0 x (omega arith), are_texts xs (λ k d lt. all (suc k) d (omega arith)))

-- words that are texts
are_all_texts : (ws : List Text) → All IsUtf8 ws → AreTexts ws
are_all_texts [] all = tt
are_all_texts (w ∷ ws) all = (all 0 w (omega arith), are_all_texts ws (λ k d lt. all (suc k) d (omega arith)))

-- words ask for at most one thing, namely what clap's matches say
pub asks_once : AskOnce
asks_once ws all r s a b =
    let texts = are_all_texts ws all in
    let same : Some r ≡ Some s = sym (complete ws texts r a).1 ∙ (complete ws texts s b).1 in
    cc

-- what clap refuses asks for nothing
pub refused_asks : (texts slice : List (Bor Text)) (ws : List Text) → slice ≡ texts → map (λ t. t.now) texts ≡ ws → All (λ t. IsUtf8 t.now) texts
    → fault_of peep_app (map (λ t. t.now) slice) ≢ [] → (r : Request) → AskFor ws r → ⊥
refused_asks texts slice ws same are all fault r asks =
    fault (rw (same, are) (complete ws (subst AreTexts are (are_texts texts all)) r asks).0)

-- what clap takes asks for what its matches say, or for nothing
pub taken_asks : (texts slice : List (Bor Text)) (ws : List Text) → slice ≡ texts → map (λ t. t.now) texts ≡ ws → All (λ t. IsUtf8 t.now) texts
    → (m : ArgMatches) → (fault_of peep_app (map (λ t. t.now) slice) ≡ []) × (subcommand_rows_of m ≡ subcommand_of peep_app (map (λ t. t.now) slice))
    → (o : Option Command) → option_map request_of o ≡ option_and_then asked (subcommand_rows_of m) → MatchOption o ((r : Request) → AskFor ws r → ⊥) (λ c. AskFor ws (request_of c))
taken_asks texts slice ws same are all m (fine, found) o e =
    go o (e ∙ ap (option_and_then asked) (found ∙ ap (subcommand_of peep_app) words)) where
      words : map (λ t. t.now) slice ≡ ws
      words = ap (map (λ (t : Bor Text). t.now)) same ∙ are

      utf8 : AreTexts ws
      utf8 = subst AreTexts are (are_texts texts all)

      go : (o : Option Command) → option_map request_of o ≡ meaning ws → MatchOption o ((r : Request) → AskFor ws r → ⊥) (λ c. AskFor ws (request_of c))
      go None e = λ r asks. let bad : None ≡ Some r = e ∙ (complete ws utf8 r asks).1 in absurd (cc)
      go (Some c) e = sound ws utf8 (sym (ap (fault_of peep_app) words) ∙ fine) (request_of c) (sym e)

-- what clap finds is determined by its rows
found_asked : (form : Form) (f : Found) → asked_by form (first_value f) ≡ asked_by form (λ id. first_of id (rows_of f))
found_asked form f = same_asked form (first_value f) (λ id. first_of id (rows_of f)) (first_value-rows f)

-- a pair, from each of its parts
paired : {X : Type 0} (o : Option X) (pair : X → Text × List Row) (n : Text) (rs : List Row) → option_map (λ x. (pair x).0) o ≡ Some n
    → option_map (λ (p : Text × List Row). p.1) (option_map pair o) ≡ Some rs → option_map pair o ≡ Some (n, rs)
paired None pair n rs en er = absurd (let bad : None ≡ Some n = en in cc)
paired (Some x) pair n rs en er = let a : (pair x).0 ≡ n = cc in let b : (pair x).1 ≡ rs = cc in ap₂ (λ (t : Text) (l : List Row). Some (t, l)) a b

-- the subcommand that was found, from its name and its rows
met_is : (m : ArgMatches) (n : Text) (rs : List Row) → Some n ≡ subcommand_name_of m → Some rs ≡ option_map (λ p. p.1) (subcommand_rows_of m) → subcommand_rows_of m ≡ Some (n, rs)
met_is m n rs en er = paired (out-ArgMatches m).subcommand (λ b. ((out-SubCommand (box_value b)).name.now, rows_of (found_of (out-SubCommand (box_value b)).matches))) n rs (sym en) (sym er)

-- what the subcommand of a form's name asks for
pub asked_met : (form : Form) (m : ArgMatches) (f : Found) (n : Text) → Some n ≡ subcommand_name_of m → Some (rows_of f) ≡ option_map (λ p. p.1) (subcommand_rows_of m) → n ≡ name_of form
    → option_and_then asked (subcommand_rows_of m) ≡ asked_by form (first_value f)
asked_met form m f n en er is =
    ap (option_and_then asked) (met_is m n (rows_of f) en er) ∙ ap (λ (k : Text). asked (k, rows_of f)) is ∙ asked_named form (rows_of f) ∙ sym (found_asked form f)
