use Rattle.std.proofs.Common.{◌≡◌, ◌++◌, drop, map}
use Rattle.gq_prepared.proofs.service_gifts.buffers_of.Given as goal

-- those so far, with those that are left, are all
abbrev pub invariant-loop-interface : goal.invariant-loop-interface
invariant-loop-interface l =
    l.buffers.items ++ map (λ e. e.1.buffer) (drop l.interface-index l.interface-items) ≡ map (λ e. e.1.buffer) l.interface-items
