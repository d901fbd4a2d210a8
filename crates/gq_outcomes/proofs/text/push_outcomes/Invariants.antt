use Rattle.std.proofs.Common.{◌≡◌, ◌+◌, ◌++◌, drop, map}
use Rattle.gq_outcomes.specs.Text.{outcomes_text_from}
use Rattle.gq_outcomes.specs.internal.Found_outcomes.{outcome_seen}
use Rattle.gq_outcomes.proofs.text.push_outcomes.Given as goal

-- the text so far, with that of the outcomes that are left, is that of all
abbrev pub invariant-loop-place : goal.invariant-loop-place
invariant-loop-place l =
    l.text.items ++ outcomes_text_from (l.place + 1) (map outcome_seen (drop l.place l.all))
    ≡ l.fn.text.items ++ outcomes_text_from 1 (map outcome_seen l.all)
