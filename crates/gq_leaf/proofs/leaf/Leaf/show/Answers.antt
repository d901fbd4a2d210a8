-- The top operand that is written.
use Rattle.std.proofs.Common.{◌≡◌, ◌+◌, Err, ap, subst, ◌∙◌, arith}
use Rattle.std.specs.Prelude.{decimal}
use Rattle.gq_model.specs.declared.fault.Wrong.TheVariants.{MissingOperand}
use Rattle.gq_bytecode.specs.Cores.{Core}
use Rattle.gq_bytecode.specs.declared.operation.Operation.TheVariants as operation
use Rattle.gq_leaf.specs.Leaf_states.{stepped}
use Rattle.gq_statements.specs.Slot_statements.{done}
use Rattle.gq_leaf.specs.Coded.{Coded, operation_of, coded_of}
use Rattle.gq_leaf.specs.Leaf_steps.{LeadsTo, shows}
use Rattle.gq_leaf.proofs.Signal_counts.{one_more}
use Rattle.gq_leaf.proofs.Operation_leads_step.{inside_then, small_then}
use Rattle.gq_leaf.proofs.Line_statement_steps.{out_fails, out_leads}
use Rattle.gq_leaf.proofs.leaf.Leaf.show.Goals as goal

no_end : operation.Out ≡ operation.End → ⊥
no_end e = cc

pub advance-requires : goal.advance-requires
advance-requires c =
    let i = c.self.inside in
    let v : Coded = coded_of i.phase i.current i.reacting i.registers i.steps i.signals i.code in
    small_then v operation.Out c.self.invariant.code (ap operation_of c.self.view_is ∙ c.requires.due.next) no_end c.pop.new.self c.pop.ensures.stays

pub invariant_of-self-in-Some : goal.invariant_of-self-in-Some
invariant_of-self-in-Some c =
    let i = c.self.inside in
    let v : Coded = coded_of i.phase i.current i.reacting i.registers i.steps i.signals i.code in
    let after : c.advance.new.self.position ≡ i.registers.position + 1 =
    ap (λ (r : Core). r.position) c.advance.ensures ∙ ap (λ (r : Core). r.position + 1) c.pop.ensures.stays in
    record {
      code = c.self.invariant.code;
      inside = inside_then v operation.Out c.self.invariant.code (ap operation_of c.self.view_is ∙ c.requires.due.next) no_end (λ size p h. h)
          c.advance.new.self
          after;
      placed = c.self.invariant.placed;
      taken = one_more i.steps i.signals c.self.invariant.taken;
    }

pub returns-in-None-clause-wrong : goal.returns-in-None-clause-wrong
returns-in-None-clause-wrong c x bs s =
    let i = c.self.inside in
    let v : Coded = coded_of i.phase i.current i.reacting i.registers i.steps i.signals i.code in
    let P : Coded → Type 0 = λ o. LeadsTo x bs o o s s (done (Err MissingOperand)) in
    subst P c.self.view_is (out_fails v c.self.invariant.code x bs s (ap operation_of c.self.view_is ∙ c.requires.due.next) c.in-None.ensures.popped)

pub returns-in-Some-clause-step : goal.returns-in-Some-clause-step
returns-in-Some-clause-step c x bs s =
    let i = c.self.inside in
    let v : Coded = coded_of i.phase i.current i.reacting i.registers i.steps i.signals i.code in
    let n : Coded = coded_of i.phase i.current i.reacting c.advance.new.self (i.steps + 1) i.signals i.code in
    let rest = c.pop.new.self.operands in
    let moved : c.advance.new.self ≡ record i.registers { position = i.registers.position + 1; operands = rest } =
    c.advance.ensures ∙ ap (λ (r : Core). record r { position = r.position + 1; operands = rest }) c.pop.ensures.stays in
    let on : n.state ≡ stepped v.state rest =
    ap (λ (r : Core). record v.state { registers = r; steps = i.steps + 1 }) moved ∙ ap (λ k. record (stepped v.state rest) { steps = k }) (omega arith) in
    let P : Coded → Type 0 = λ o. LeadsTo x bs o n s s (shows (decimal c.in-Some.number)) in
    subst P c.self.view_is
    (out_leads v c.self.invariant.code x bs s n c.in-Some.number rest (ap operation_of c.self.view_is ∙ c.requires.due.next) c.in-Some.ensures.popped on)
