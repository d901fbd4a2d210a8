-- Both texts were read.
use Rattle.std.proofs.Common.{refl, rules}
use Rattle.std.proofs.lemmas.List.{places}
use Rattle.std.proofs.lemmas.Result.{on_ok_weaker}
use Rattle.gq_cli.specs.Early_command_ends.{Ended}
use Rattle.gq_command.specs.declared.command.TurnsCommand.TheVariants.{Run}
use Rattle.gq_cli.specs.Executed.{IsUpheldBy, Of_both}
use Rattle.gq_cli.proofs.Command_input_results.{reads_both}
use Rattle.gq_cli.proofs.execute.run_files.Goals as goal

pub returns-clause-ended : goal.returns-clause-ended
returns-clause-ended g c known =
    let turns = c.run_reader.ensures.ended known in
    reads_both _ _ _ _ (Of_both Run) (Ended c.run_reader.result (g.W.Write.contents c.args.out.now.writer) (g.W.Write.contents c.run_reader.new.out.writer))
    c.in_ok-scenario.scenario.items
    turns.text
    _
    _
    (record { taken = c.in_ok-scenario.ensures.bytes; end = c.in_ok-scenario.ensures.end; size = search (rules, places) })
    turns.read
    c.as_slice.ensures.value
    refl
    turns.so

pub returns-clause-upheld : goal.returns-clause-upheld
returns-clause-upheld g c =
    on_ok_weaker c.run_reader.result (λ turns. reads_both _ _ _ _ (Of_both Run)
    (λ asked. IsUpheldBy asked (g.W.Write.contents c.args.out.now.writer) (g.W.Write.contents c.run_reader.new.out.writer))
    c.in_ok-scenario.scenario.items
    turns.text
    _
    _
    (record { taken = c.in_ok-scenario.ensures.bytes; end = c.in_ok-scenario.ensures.end; size = search (rules, places) })
    turns.read
    c.as_slice.ensures.value
    refl
    turns.so) c.run_reader.ensures.upheld
