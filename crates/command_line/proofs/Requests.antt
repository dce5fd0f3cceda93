-- All command lines: clap accepts exactly the words that ask for something, and words ask for at most one thing.
use Rattle.std.proofs.Common.{◌≡◌, ◌∙◌, inl, inr, true, false, List, [], ◌∷◌, Some, sym, ap, subst, true≢false}
use Rattle.std.specs.Str.{bytes_eq}
use Rattle.clap.specs.Words.{fault_of}
use Rattle.command_line.specs.App.{forms, peep_app}
use Rattle.command_line.specs.Words.{Given, IsCommand, Text}
use Rattle.command_line.specs.CommandLine.{AskFor, Form, Request, name_of, options_of}
use Rattle.command_line.proofs.Law.{clean}
use Rattle.command_line.proofs.Views.{AreTexts, word_is}
use Rattle.command_line.proofs.Bytes.{same_text}
use Rattle.command_line.proofs.Top.{named_or_none, nothing_fault, other_first}
use Rattle.command_line.proofs.Forms.{form_complete, form_sound, meaning}

-- the first word is a form's name
by_name : (form : Form) (w : Text) (ws : List Text) → AreTexts ws → bytes_eq (name_of form) w ≡ true → fault_of peep_app (w ∷ ws) ≡ [] → (r : Request) → meaning (w ∷ ws) ≡ Some r → AskFor (w ∷ ws) r
by_name form w ws texts same fine r e =
    let is : name_of form ≡ w = same_text (name_of form) w same in
    subst (λ (v : Text). AskFor (v ∷ ws) r) is
    (form_sound form ws texts (ap (λ (v : Text). fault_of peep_app (v ∷ ws)) is ∙ fine) r (ap (λ (v : Text). meaning (v ∷ ws)) is ∙ e))

pub sound : (ws : List Text) → AreTexts ws → fault_of peep_app ws ≡ [] → (r : Request) → meaning ws ≡ Some r → AskFor ws r
sound [] texts fine r e = absurd (true≢false (sym (ap clean fine) ∙ nothing_fault))
sound (w ∷ ws) texts fine r e = elim (named_or_none forms w) [
  | inl (form, same) ↦ by_name form w ws texts.1 same fine r e
  | inr none ↦ absurd (true≢false (sym (ap clean fine) ∙ other_first w ws none (word_is (λ _. false) w texts.0)))
]

-- a command's first word is its name
first_name : (form : Form) (w : Text) (ws ps : List Text) (gs : List Given) → IsCommand (name_of form) (options_of form) (w ∷ ws) ps gs → w ≡ name_of form
first_name form w ws ps gs c = let spelled : w ∷ ws ≡ name_of form ∷ _ = c.spelling in cc

pub complete : (ws : List Text) → AreTexts ws → (r : Request) → AskFor ws r → (fault_of peep_app ws ≡ []) × (meaning ws ≡ Some r)
complete [] texts r a = absurd (let bad = a.command.spelling in cc)
complete (w ∷ ws) texts r a =
    let is : w ≡ name_of a.form = first_name a.form w ws a.words a.given a.command in
    let f = form_complete a.form ws texts.1 r a.words a.given (subst (λ (v : Text). IsCommand (name_of a.form) (options_of a.form) (v ∷ ws) a.words a.given) is a.command) a.asks in
    (ap (λ (v : Text). fault_of peep_app (v ∷ ws)) is ∙ f.0, ap (λ (v : Text). meaning (v ∷ ws)) is ∙ f.1)
