use Rattle.std.proofs.Common.{◌≡◌, map, drop}
use Rattle.gq_model.specs.machine.Lists.{any_of}
use Rattle.gq_model.specs.machine.Program.{text_eq}
use Rattle.gq_scenario.specs.Fault_words.{key_text}
use Rattle.gq_scenario.proofs.key.key_among.Given as goal

abbrev pub invariant-loop-key : goal.invariant-loop-key
invariant-loop-key l = any_of (text_eq l.text) (map key_text (drop l.key-index l.keys)) ≡ any_of (text_eq l.text) (map key_text l.keys)
