-- How a leaf's program is given, as code has it.
use Rattle.gq_model.specs.machine.Scenario as model
use Rattle.gq_model.specs.machine.Scenario.{As_text, As_code}
use Rattle.gq_scenario.specs.declared.source.Source.{Source}
use Rattle.gq_scenario.specs.declared.source.Source.TheVariants.{Text, Code}

abbrev pub source_of : Source → model.Source
source_of (Text text) = As_text text.items
source_of (Code code) = As_code code.items
