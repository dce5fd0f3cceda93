use Rattle.std.proofs.Common.{sym, subst, refl, map}
use Rattle.std.proofs.lemmas.List.{map_push}
use Rattle.thumb_model.specs.Effect.{AreOver}
use Rattle.window_exec.specs.State.{seen}
use Rattle.lrat_check.specs.Text.{content_of}
use Rattle.rule_table.specs.Views.{opened_of}
use Rattle.table_audit.specs.Shorter.{alphabet_registers}
use Rattle.table_audit.proofs.Walking.{numbered_over}
use Rattle.table_learn.specs.Given.{settings_of}
use Rattle.table_learn.specs.Found.{IsFinding, window_in}
use Rattle.bit_blast.specs.Exactness.{IsMaskOver}
use Rattle.table_learn.proofs.Registers.{few_registers, mask_registers}
use Rattle.table_learn.proofs.Rounds.{side_over}
use Rattle.table_learn.proofs.Steps.{search_passes, search_finds, search_spends}
use Rattle.table_learn.proofs.searching.try_candidate.Goals as goal
use Rattle.table_learn.proofs.searching.try_candidate.Goals.{in-Told, in-State+in_ok-push-in-State, in-Log+in_ok-put_in-in-Log}

pub try_sequence-requires-clause-left : goal.try_sequence-requires-clause-left
try_sequence-requires-clause-left g c =
    subst (λ k. AreOver k c.args.window.now.left) (sym c.requires.counted) (side_over (settings_of c.args.settings.now) (window_in c.args.window.now) c.requires.window).1

pub try_sequence-requires-clause-right : goal.try_sequence-requires-clause-right
try_sequence-requires-clause-right g c =
    let s = settings_of c.args.settings.now in
    let w = window_in c.args.window.now in
    subst (λ k. AreOver k c.args.candidate.seq) (sym c.requires.counted) (numbered_over (alphabet_registers s w.seq) s.pool c.args.candidate.number c.args.candidate.seq (few_registers s w.seq) c.requires.candidate.at)

pub try_sequence-requires-clause-mask : goal.try_sequence-requires-clause-mask
try_sequence-requires-clause-mask g c =
    subst (λ k. IsMaskOver k c.args.window.now.mask.items.bits) (sym c.requires.counted) (mask_registers (settings_of c.args.settings.now) (window_in c.args.window.now) c.requires.window)

pub returns-clause-tried : goal.returns-clause-tried
returns-clause-tried g c = λ old passed rest is.
    let s = settings_of c.args.settings.now in
    let w = window_in c.args.window.now in
    let seq = c.args.candidate.seq in
    let at = c.requires.candidate in
    let found : IsFinding (settings_of c.args.settings.now) (map seen c.args.states.now.items) (window_in c.args.window.now) seq c.in_ok-try_sequence.field-0 =
    subst (λ ss. IsFinding (settings_of c.args.settings.now) (map seen ss) (window_in c.args.window.now) seq c.in_ok-try_sequence.field-0) c.deref.ensures.value c.in_ok-try_sequence.ensures.found in
    elim c.match-branch-2.branch [
      | in-Told x ↦
          let f = rw x.in-Told.is at found in
          rw (x.states-is, x.opens-is) (search_passes s w old (map seen c.args.states.now.items) (map opened_of c.args.opens.now.items) passed rest c.args.candidate.number seq is at f)
      | in-State+in_ok-push-in-State x ↦
          let f = rw x.in-State.is at found in
          rw (x.states-is, x.opens-is, x.in_ok-push-in-State.ensures.items, map_push seen c.args.states.now.items x.in-State.state)
          (search_finds s w old (map seen c.args.states.now.items) (map opened_of c.args.opens.now.items) passed rest c.args.candidate.number seq (seen x.in-State.state) c.args.window.now.mask.in_masks f.2 is at f.0 f.1)
      | in-Log+in_ok-put_in-in-Log x ↦
          let f = rw x.in-Log.is at found in
          rw (x.states-is, x.opens-is, x.in_ok-put_in-in-Log.ensures)
          (search_spends s w old (map seen c.args.states.now.items) (map opened_of c.args.opens.now.items) passed rest c.args.candidate.number seq (record { number = c.args.candidate.number; log = map content_of x.in-Log.log.items }) is at f.0 refl f.1 f.2)
    ]
