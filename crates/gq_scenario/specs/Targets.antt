-- Where routes lead, as code has it.
use Rattle.gq_model.specs.machine.Scenario as model
use Rattle.gq_scenario.specs.declared.scenario.Target.{Target}
use Rattle.gq_scenario.specs.declared.scenario.Target.TheVariants.{Child, AnyChild, Parent}

abbrev pub target_of : Target → model.Target
target_of (Child name) = model.Child name
target_of AnyChild = model.Any_child
target_of Parent = model.Parent
