-- A text that is said.
use Rattle.std.proofs.Common.{◌≡◌, ◌+◌, ℕ, refl, ap, subst, ◌∙◌, arith}
use Rattle.gq_bytecode.specs.Cores.{Core}
use Rattle.gq_bytecode.specs.declared.operation.Operation.TheVariants as operation
use Rattle.gq_leaf.specs.Leaf_states.{stepped}
use Rattle.gq_leaf.specs.Coded.{Coded, operation_of, coded_of}
use Rattle.gq_leaf.specs.Leaf_steps.{LeadsTo, shows}
use Rattle.gq_leaf.proofs.Signal_counts.{one_more}
use Rattle.gq_leaf.proofs.Operation_leads_step.{inside_then, small_then}
use Rattle.gq_leaf.proofs.Line_statement_steps.{say_leads}
use Rattle.gq_leaf.proofs.leaf.Leaf.said.Goals as goal

no_end : (n : ℕ) → operation.Long n ≡ operation.End → ⊥
no_end n e = cc

pub advance-requires : goal.advance-requires
advance-requires c =
    let i = c.self.inside in
    let v : Coded = coded_of i.phase i.current i.reacting i.registers i.steps i.signals i.code in
    small_then v (operation.Long c.args.number) c.self.invariant.code (ap operation_of c.self.view_is ∙ c.requires.due.next) (no_end c.args.number) i.registers
    refl

pub invariant_of-self : goal.invariant_of-self
invariant_of-self c =
    let i = c.self.inside in
    let v : Coded = coded_of i.phase i.current i.reacting i.registers i.steps i.signals i.code in
    record {
      code = c.self.invariant.code;
      inside = inside_then v (operation.Long c.args.number) c.self.invariant.code (ap operation_of c.self.view_is ∙ c.requires.due.next) (no_end c.args.number)
          (λ size p h. h) c.advance.new.self (ap (λ (r : Core). r.position) c.advance.ensures);
      placed = c.self.invariant.placed;
      taken = one_more i.steps i.signals c.self.invariant.taken;
    }

pub returns-clause-step : goal.returns-clause-step
returns-clause-step c text x bs s stands =
    let i = c.self.inside in
    let v : Coded = coded_of i.phase i.current i.reacting i.registers i.steps i.signals i.code in
    let n : Coded = coded_of i.phase i.current i.reacting c.advance.new.self (i.steps + 1) i.signals i.code in
    let on : n.state ≡ stepped v.state i.registers.operands =
    ap (λ (r : Core). record v.state { registers = r; steps = i.steps + 1 }) c.advance.ensures
    ∙ ap (λ k. record (stepped v.state i.registers.operands) { steps = k }) (omega arith) in
    let P : Coded → Type 0 = λ o. LeadsTo x bs o n s s (shows text) in
    subst P c.self.view_is
    (say_leads v c.self.invariant.code x bs s n c.args.number text (ap operation_of c.self.view_is ∙ c.requires.due.next)
    (ap (λ (o : Coded). Rattle.std.specs.Prelude.slice_get o.code.longs c.args.number) c.self.view_is ∙ stands) on)
