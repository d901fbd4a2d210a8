use Rattle.std.proofs.Common.{◌≡◌, ◌++◌, drop, map}
use Rattle.gq_model.specs.rules.Use.{services_in}
use Rattle.gq_resolve.proofs.unrouted.all_opened.Given as goal

abbrev pub invariant-loop-program : goal.invariant-loop-program
invariant-loop-program l =
    map (λ o. o.items) l.all.items ++ map (λ p. services_in p.sections) (drop l.program-index l.programs) ≡ map (λ p. services_in p.sections) l.programs
