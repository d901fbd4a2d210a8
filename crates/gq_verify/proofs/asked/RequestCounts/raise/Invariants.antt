use Rattle.std.proofs.Common.{ℕ, List, drop}
use Rattle.gq_model.specs.declared.section.Section.{Section}
use Rattle.gq_verify.specs.Requested.{requests_for}
use Rattle.gq_verify.proofs.Summed_section_requests.{IsRaised}
use Rattle.gq_verify.proofs.asked.RequestCounts.raise.Given as goal

-- each number is raised, or is yet to be raised by those that are left
abbrev pub invariant-loop-entry : goal.invariant-loop-entry
invariant-loop-entry l =
    (v : List ℕ) (r : Section) →
    IsRaised (requests_for l.fn.self v r) (requests_for l.self v r) (requests_for (drop l.entry-index l.entry-items) v r) (requests_for l.others v r)
