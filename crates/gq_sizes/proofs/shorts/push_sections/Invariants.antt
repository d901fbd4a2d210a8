use Rattle.std.proofs.Common.{◌≡◌, ◌≤◌, ◌++◌, drop}
use Rattle.std.specs.Prelude.{sum_by}
use Rattle.gq_model.specs.machine.Program.{size}
use Rattle.gq_model.specs.texts.Code.{greatest_statements}
use Rattle.gq_sizes.specs.Point_maxima.{given_in}
use Rattle.gq_sizes.specs.internal.Short_lines.{sections_by}
use Rattle.gq_sizes.proofs.shorts.push_sections.Given as goal

-- the lines so far, with those of the sections that are left, are all; and these are few
abbrev pub invariant-loop-section : goal.invariant-loop-section
invariant-loop-section l = record {
  lines :
      l.text.items ++ sections_by (given_in l.interfaces l.sums) l.label (drop l.section-index l.sections)
      ≡ l.fn.text.items ++ sections_by (given_in l.interfaces l.sums) l.label l.sections;
  few : sum_by (λ p. size p.1) (drop l.section-index l.sections) ≤ greatest_statements;
}
