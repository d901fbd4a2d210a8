-- The number of a long statement is a place of the list.
use Rattle.std.proofs.Common.{◌≡◌, ℕ, ap, ◌∙◌}
use Rattle.gq_bytecode.specs.declared.operation.Operation.TheVariants as operation
use Rattle.gq_leaf.specs.Leaf_states.{section_at}
use Rattle.gq_leaf.specs.Coded.{Coded, operation_of, coded_of}
use Rattle.gq_leaf.proofs.Operation_leads_step.{section}
use Rattle.gq_leaf.proofs.leaf.Leaf.long.Goals as goal

no_end : (n : ℕ) → operation.Long n ≡ operation.End → ⊥
no_end n e = cc

pub long-requires : goal.long-requires
long-requires c =
    let i = c.self.inside in
    let n = c.args.number in
    let v : Coded = coded_of i.phase i.current i.reacting i.registers i.steps i.signals i.code in
    let at = section v (operation.Long n) c.self.invariant.code (ap operation_of c.self.view_is ∙ c.requires) (no_end n) in
    (c.self.invariant.code (section_at i.current i.reacting) at.ops at.found).listed i.registers.position n at.at
