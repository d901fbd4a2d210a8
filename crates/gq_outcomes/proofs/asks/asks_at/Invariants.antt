use Rattle.std.proofs.Common.{◌≡◌, ℕ, List, Option, drop}
use Rattle.gq_model.specs.declared.section.Section.{Section}
use Rattle.gq_model.specs.machine.Program.{Statements, section_in}
use Rattle.gq_outcomes.specs.internal.Asks.{AreOfSections}
use Rattle.gq_outcomes.proofs.asks.asks_at.Given as goal

-- the section is among those that are left, if it is there
abbrev pub invariant-loop-part : goal.invariant-loop-part
invariant-loop-part l =
    (server : List ℕ → Option ℕ) (sections : List (Section × Statements)) → AreOfSections server sections l.program
    → section_in l.section sections ≡ section_in l.section (drop l.part-index sections)
