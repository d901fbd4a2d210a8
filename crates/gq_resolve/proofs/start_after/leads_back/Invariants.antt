use Rattle.std.proofs.Common.{◌≡◌, ◌-◌, length, Some, option_map}
use Rattle.gq_model.specs.rules.Resolve.{leads_back}
use Rattle.gq_resolve.proofs.start_after.leads_back.Given as goal

abbrev pub invariant-loop-step : goal.invariant-loop-step
invariant-loop-step l = leads_back (length l.components) l.components l.goal (Some l.first)
    ≡ leads_back (length l.components - l._step) l.components l.goal (option_map (λ n. n.now) l.next)
