use Rattle.std.proofs.Common.{◌≡◌, ◌++◌, drop}
use Rattle.gq_model.specs.rules.Use.{services_in}
use Rattle.gq_resolve.proofs.opened_services.opened.Given as goal

abbrev pub invariant-loop-section : goal.invariant-loop-section
invariant-loop-section l = l.services.items ++ services_in (drop l._section-index l._section-items) ≡ services_in l._section-items
