-- Both texts were read whole.
use Rattle.std.proofs.Common.{Some, inr, rules}
use Rattle.std.proofs.lemmas.List.{places}
use Rattle.gq_cli.specs.Early_command_ends.{EndedFaults}
use Rattle.gq_cli.specs.Executed.{Of_faults, ReportsPrefix}
use Rattle.gq_cli.proofs.Command_input_results.{reads_both}
use Rattle.gq_cli.proofs.execute.of_both_faults.Goals as goal

pub returns-clause-ended : goal.returns-clause-ended
returns-clause-ended g c known =
    reads_both _ _ _ _ (λ text other. Of_faults c.args.path.now text (Some (c.args.turns_path.now, other)))
    (EndedFaults c.of_both_files.result (g.W.Write.contents c.args.out.now.writer) (g.W.Write.contents c.of_both_files.new.out.writer)
    c.args.out.now.failures c.of_both_files.new.out.failures)
    c.in_ok-scenario.scenario.items
    c.in_ok-turns.turns.items
    _
    _
    (record { taken = c.in_ok-scenario.ensures.bytes; end = c.in_ok-scenario.ensures.end; size = search (rules, places) })
    (record { taken = c.in_ok-turns.ensures.bytes; end = c.in_ok-turns.ensures.end; size = search (rules, places) })
    c.as_slice.ensures.value
    c.as_slice-2.ensures.value
    (c.of_both_files.ensures.ended known)

pub returns-clause-stopped : goal.returns-clause-stopped
returns-clause-stopped g c memory =
    inr (reads_both _ _ _ _ (λ text other. Of_faults c.args.path.now text (Some (c.args.turns_path.now, other)))
    (λ asked. ReportsPrefix asked (g.W.Write.contents c.args.out.now.writer) (g.W.Write.contents c.of_both_files.new.out.writer))
    c.in_ok-scenario.scenario.items
    c.in_ok-turns.turns.items
    _
    _
    (record { taken = c.in_ok-scenario.ensures.bytes; end = c.in_ok-scenario.ensures.end; size = search (rules, places) })
    (record { taken = c.in_ok-turns.ensures.bytes; end = c.in_ok-turns.ensures.end; size = search (rules, places) })
    c.as_slice.ensures.value
    c.as_slice-2.ensures.value
    (c.of_both_files.ensures.stopped memory))
