-- Each status but Done and Memory has a cause, and no cause is possible if nothing fails and the texts that were read are fit.
use Rattle.std.proofs.Common.{◌≡◌, inr, ℕ, List, [], refl, subst}
use Rattle.std.specs.Prelude.{All}
use Rattle.std.specs.Str.{IsUtf8}
use Rattle.command_line.specs.CommandLine.{Request, AskFor}
use Rattle.command_line.proofs.Usage.{asks_once}
use Rattle.outer_store.specs.Outside.{Seen, Sunk}
use Rattle.command_runs.specs.declared.status.Status.TheVariants as status
use Rattle.command_runs.specs.Runs.{IsRefused}
use Rattle.audit_cli.specs.Peep.{plan_of, Ran}
use Rattle.audit_cli.specs.Complete.{IsCarriedOutOrFull}
use Rattle.command_laws.specs.Once.{AsksSolver}
use Rattle.command_laws.specs.Fit.{WereRead, ReadsFit, FitTextsAreCarriedOut, FitTextsAreLearntFrom}
use Rattle.command_laws.proofs.FitLemmas.{never_refuses, fit_full}
use Rattle.audit_cli.proofs.CompleteLemmas.{ends, ends_full}

module _ (words : List (List ℕ)) (r : Request) (old new : Seen) (before after : Sunk) (text : All IsUtf8 words) (asks : AskFor words r) where
  -- the refused run is one of the request's plan
  refused_run : (q : Request) → AskFor words q → IsRefused (plan_of q) old new before after → IsRefused (plan_of r) old new before after
  refused_run q a h = let same : q ≡ r = asks_once words text q r a asks in subst (λ (p : Request). IsRefused (plan_of p) old new before after) same h

  -- and its texts were read
  were_read : (h : IsRefused (plan_of r) old new before after) → WereRead old new (plan_of r).names h.outcome.texts
  were_read h = record { are = h.outcome.read; later = []; answered = h.calls }

  pub full_stands : ReadsFit r old new → Ran words old new before after status.Refused → IsCarriedOutOrFull before after status.Refused
  full_stands fit h =
      let k = refused_run h.0 h.1 h.2 in
      inr (refl, k.line, fit_full r k.outcome.texts k.line (fit k.outcome.texts (were_read k)) k.outcome.comes, k.wrote)

  pub unrefused : (AsksSolver r → ⊥) → ReadsFit r old new → Ran words old new before after status.Refused → ⊥
  unrefused plain fit h =
      let k = refused_run h.0 h.1 h.2 in
      never_refuses r k.outcome.texts k.line plain (fit k.outcome.texts (were_read k)) k.outcome.comes

pub fit_carried_out : FitTextsAreCarriedOut
fit_carried_out words r old new before after s text asks h u fit plain = ends words r old new before after text asks s h u (unrefused words r old new before after text asks plain fit)

pub fit_learnt_from : FitTextsAreLearntFrom
fit_learnt_from words r old new before after s text asks h u fit = ends_full words r old new before after text asks s h u (full_stands words r old new before after text asks fit)
