use Rattle.std.proofs.Common.{◌≡◌, false, map, drop}
use Rattle.clap.specs.Words.{app_of}
use Rattle.clap.specs.declared.builder.Command.TheViews.{out-Command as fields_of}
use Rattle.command_line.specs.App.{argument, with_all}
use Rattle.command_line.proofs.app.with_arguments.Given as goal

-- adding the remaining arguments gives the same command in the end
abbrev pub invariant-loop-id : goal.invariant-loop-id
invariant-loop-id l =
    (with_all (argument l.are_options) (app_of l.command) (map (λ s. s.now) (drop l.id-index l.ids)) ≡ with_all (argument l.are_options) (app_of l.initial.command) (map (λ s. s.now) l.ids))
    × ((fields_of l.command).has_globals ≡ false)
