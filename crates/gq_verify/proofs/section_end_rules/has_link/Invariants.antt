use Rattle.std.proofs.Common.{◌≡◌, drop}
use Rattle.gq_model.specs.rules.Flow.{has_link}
use Rattle.gq_caps.specs.Known.{all_known}
use Rattle.gq_verify.proofs.section_end_rules.has_link.Given as goal

-- there is a link where there is one among the slots that are left
abbrev pub invariant-loop-kind : goal.invariant-loop-kind
invariant-loop-kind l = has_link (all_known (drop l.kind-index l.kinds)) ≡ has_link (all_known l.kinds)
