-- Each turn keeps it that a trace has before leaves what they have left to do.
use Rattle.std.proofs.Common.{true}
use Rattle.gq_traces.proofs.Left_to_do.{goes_with}
use Rattle.gq_traces.proofs.Node_names.{loaded_named}
use Rattle.gq_traces.proofs.Printed_run.{last_world}
use Rattle.gq_traces.proofs.place_laws.place_laws.Goals as goal

pub returns-clause-machine : goal.returns-clause-machine
returns-clause-machine c = goes_with

pub returns-clause-world : goal.returns-clause-world
returns-clause-world c text s turns loads =
    let sound = c.loaded_laws.ensures.sound text s loads in
    last_world s sound (loaded_named text s loads) (λ w reached. c.accepted_laws.ensures.upheld s w sound reached)
    (λ w reached. c.accepted_laws.ensures.typed s w sound reached) (λ w x. c.turn_laws.ensures.counted _ w x) true turns
