-- All leaves stand at the start of their programs.
use Rattle.std.proofs.Common.{subst}
use Rattle.gq_model.specs.machine.Scenario.{Scenario, components}
use Rattle.gq_traces.specs.internal.Flat.{ArePrograms, programs_of}
use Rattle.gq_traces.proofs.Unprinted_turns.{started}
use Rattle.gq_traces.proofs.follow.Followed.new.Goals as goal

pub returns-clause-followed : goal.returns-clause-followed
returns-clause-followed c =
    let h = subst (λ (s : Scenario). ArePrograms c.in_ok-programs.programs.items (programs_of s)) c.table.ensures c.in_ok-programs.ensures in
    started c.args.world.now c.in_ok-programs.programs c.in_ok-aheads.aheads c.as_slice.result.now c.as_slice.ensures.value
    c.requires.running h
    (λ g. c.in_ok-aheads.ensures (components c.args.world.now.scenario) g)
