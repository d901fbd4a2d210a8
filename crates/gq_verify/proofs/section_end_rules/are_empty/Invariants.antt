use Rattle.std.proofs.Common.{◌≡◌, drop}
use Rattle.gq_model.specs.rules.Flow.{bank_is_empty}
use Rattle.gq_caps.specs.Known.{all_known}
use Rattle.gq_verify.proofs.section_end_rules.are_empty.Given as goal

-- all are empty where those that are left are
abbrev pub invariant-loop-kind : goal.invariant-loop-kind
invariant-loop-kind l = bank_is_empty (all_known (drop l.kind-index l.kinds)) ≡ bank_is_empty (all_known l.kinds)
