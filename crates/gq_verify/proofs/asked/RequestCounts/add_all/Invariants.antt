use Rattle.std.proofs.Common.{◌≡◌, ℕ, ◌+◌, ◌*◌, List, drop}
use Rattle.gq_model.specs.declared.section.Section.{Section}
use Rattle.gq_verify.specs.Saturated_numbers.{saturated}
use Rattle.gq_verify.specs.Requested.{requests_for}
use Rattle.gq_verify.proofs.asked.RequestCounts.add_all.Given as goal

-- those so far, with those that are left, are all
abbrev pub invariant-loop-entry : goal.invariant-loop-entry
invariant-loop-entry l =
    (v : List ℕ) (r : Section) → saturated (requests_for l.self v r + l.times * requests_for (drop l.entry-index l.entry-items) v r) ≡
    saturated (requests_for l.fn.self v r + l.times * requests_for l.entry-items v r)
