use Rattle.std.proofs.Common.{◌≡◌, drop}
use Rattle.gq_model.specs.machine.Lists.{any_of}
use Rattle.gq_sizes.specs.Passing.{passing}
use Rattle.gq_verify.specs.Named_sections.{AreThere}
use Rattle.gq_sizes.proofs.Any_test_search.{section_holds}
use Rattle.gq_sizes.proofs.endless.leaf_holds.Given as goal

-- one is among the sections that are left
abbrev pub invariant-loop-section : goal.invariant-loop-section
invariant-loop-section l = record {
  found : any_of (section_holds (passing l.sessions.interfaces.now l.sessions.tests.now) l.verified l.level) (drop l.section-index l.section-items)
      ≡ any_of (section_holds (passing l.sessions.interfaces.now l.sessions.tests.now) l.verified l.level) l.section-items;
  there : AreThere l.section-items (drop l.section-index l.section-items);
}
