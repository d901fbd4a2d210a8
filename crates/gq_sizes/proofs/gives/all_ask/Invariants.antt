use Rattle.std.proofs.Common.{◌≡◌, drop, map}
use Rattle.gq_model.specs.machine.Lists.{all_of}
use Rattle.gq_model.specs.machine.Scenario.{System}
use Rattle.gq_model.specs.rules.Use.{subject}
use Rattle.gq_sizes.specs.internal.Just_asked.{asks_just}
use Rattle.gq_sizes.proofs.gives.all_ask.Given as goal

-- all that are left ask what is needed, if all do
abbrev pub invariant-loop-service : goal.invariant-loop-service
invariant-loop-service l =
    (all : System) → l.components ≡ all.components → l.leaves ≡ map (subject all) all.components
    → all_of (asks_just all) (drop l.service-index l.service-items) ≡ all_of (asks_just all) l.service-items
