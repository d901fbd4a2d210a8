use Rattle.std.proofs.Common.{◌≡◌, drop, map}
use Rattle.gq_outcomes.specs.Outcomes.{is_found}
use Rattle.gq_outcomes.specs.internal.Found_outcomes.{outcome_seen}
use Rattle.gq_outcomes.proofs.search.Search.is_found.Given as goal

-- it is among those that are left, if it is at all
abbrev pub invariant-loop-found : goal.invariant-loop-found
invariant-loop-found l =
    is_found l.text (map outcome_seen (drop l.found-index l.self.found.items)) ≡ is_found l.text (map outcome_seen l.self.found.items)
