use Rattle.std.proofs.Common.{◌≡◌, drop}
use Rattle.gq_model.specs.machine.Sections.{all_kinds}
use Rattle.gq_model.specs.texts.Text.{kind_with}
use Rattle.gq_model.proofs.section.SectionKind.of_word.Given as goal

abbrev pub invariant-loop-kind : goal.invariant-loop-kind
invariant-loop-kind l = kind_with l.word (drop l.kind-index l.kind-items) ≡ kind_with l.word all_kinds
