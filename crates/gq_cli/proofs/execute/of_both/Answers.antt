-- Both texts were read whole.
use Rattle.std.proofs.Common.{rules}
use Rattle.std.proofs.lemmas.List.{places}
use Rattle.gq_cli.specs.Early_command_ends.{Ended}
use Rattle.gq_cli.specs.Executed.{Of_both}
use Rattle.gq_cli.proofs.Command_input_results.{reads_both, upheld_otherwise}
use Rattle.gq_cli.proofs.execute.of_both.Goals as goal

pub returns-clause-ended : goal.returns-clause-ended
returns-clause-ended g c known =
    reads_both _ _ _ _ (Of_both c.args.command)
    (Ended c.of_both_texts.result (g.W.Write.contents c.args.out.now.writer) (g.W.Write.contents c.of_both_texts.new.out.writer))
    c.in_ok-scenario.scenario.items
    c.in_ok-turns.turns.items
    _
    _
    (record { taken = c.in_ok-scenario.ensures.bytes; end = c.in_ok-scenario.ensures.end; size = search (rules, places) })
    (record { taken = c.in_ok-turns.ensures.bytes; end = c.in_ok-turns.ensures.end; size = search (rules, places) })
    c.as_slice.ensures.value
    c.as_slice-2.ensures.value
    (c.of_both_texts.ensures.ended known)

pub returns-clause-upheld : goal.returns-clause-upheld
returns-clause-upheld g c =
    upheld_otherwise _ _ _ _ c.args.command c.of_both_texts.result (g.W.Write.contents c.args.out.now.writer)
    (g.W.Write.contents c.of_both_texts.new.out.writer)
    c.requires
    (returns-clause-ended g c)
