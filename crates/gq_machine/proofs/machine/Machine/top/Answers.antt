-- The top operand of a leaf.
use Rattle.std.proofs.Common.{◌≡◌, ◌∷◌, [], drop, refl}
use Rattle.std.specs.Prelude.{MatchOption, slice_get}
use Rattle.gq_machine.proofs.Machine_reader_values.{read}
use Rattle.gq_machine.proofs.Machine_session_reads.{reported_by}
use Rattle.gq_machine.proofs.machine.Machine.top.Goals as goal

pub returns : goal.returns
returns c =
    reported_by (slice_get c.args.self.now.world.leaves c.args.leaf) (λ l. l.operands)
    (λ ops. MatchOption c.top.result (ops ≡ []) (λ a. ops ≡ a ∷ drop 1 ops)) c.index-2.result.now.state.registers.operands c.top.ensures
    (read c.self.inside c.args.self.now c.self.view_is c.self.invariant (λ l. l.operands) (λ leaf st ts h. refl) c.args.leaf c.requires c.index.result
    c.index-2.result.now c.index-2.ensures c.index.ensures c.index-2.result.now.state.registers.operands (λ d. refl))
