use Rattle.command_line.specs.CommandLine.{rewrites, audits, learns, exports, traces, demos, upgrades, trims, tidies}
use Rattle.command_line.proofs.Added.{all_added, form_added}
use Rattle.command_line.proofs.app.peep.Goals as goal

pub returns : goal.returns
returns c =
    let first = form_added _ _ _ rewrites c.in_ok-program.ensures c.bare-program.ensures in
    let second = form_added _ _ _ audits c.in_ok-program-2.ensures first in
    let third = form_added _ _ _ learns c.in_ok-program-3.ensures second in
    let fourth = form_added _ _ _ exports c.in_ok-program-4.ensures third in
    let fifth = form_added _ _ _ traces c.in_ok-program-5.ensures fourth in
    let sixth = form_added _ _ _ demos c.in_ok-program-6.ensures fifth in
    let seventh = form_added _ _ _ upgrades c.in_ok-program-7.ensures sixth in
    let eighth = form_added _ _ _ trims c.in_ok-program-8.ensures seventh in
    let ninth = form_added _ _ _ tidies c.in_ok-program-9.ensures eighth in
    all_added _ _ c.with_command-10.ensures ninth
