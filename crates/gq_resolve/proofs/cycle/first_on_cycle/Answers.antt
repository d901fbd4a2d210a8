use Rattle.std.proofs.Common.{map, refl, sym}
use Rattle.gq_resolve.proofs.Use_order_acyclic.{no_cycle}
use Rattle.gq_resolve.proofs.cycle.first_on_cycle.Goals as goal

pub returns-then-is_order-clause-first : goal.returns-then-is_order-clause-first
returns-then-is_order-clause-first c = sym (no_cycle (map (λ l. l.items) c.args.used.now) c.deref.result.now (c.if-is_order.ensures refl))
