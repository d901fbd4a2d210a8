-- The laws of traces, by those of the worlds that a scenario comes to.
use Rattle.std.proofs.Common.{true, refl}
use Rattle.gq_load.proofs.Sound_texts.{loaded_sound}
use Rattle.gq_traces.proofs.Node_names.{loaded_named}
use Rattle.gq_traces.proofs.Printed_run.{prints_run, prints_steps}
use Rattle.gq_traces.proofs.trace_laws.trace_laws.Goals as goal

pub returns-clause-run : goal.returns-clause-run
returns-clause-run c text s all turns load =
    let sound = loaded_sound text s load in
    prints_run s sound (loaded_named text s load) (λ w reached. c.accepted_laws.ensures.upheld s w sound reached)
    (λ w reached. c.accepted_laws.ensures.typed s w sound reached) (λ w x. c.turn_laws.ensures.counted _ w x) all turns

pub returns-clause-steps : goal.returns-clause-steps
returns-clause-steps c text s turns load =
    let sound = loaded_sound text s load in
    prints_steps s sound (loaded_named text s load) (λ w reached. c.accepted_laws.ensures.upheld s w sound reached)
    (λ w reached. c.accepted_laws.ensures.typed s w sound reached) (λ w x. c.turn_laws.ensures.counted _ w x) true turns refl
