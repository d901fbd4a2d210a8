-- A request is the leaf's step.
use Rattle.std.proofs.Common.{◌≡◌, ◌+◌, ℕ, Ok, Err, refl, ap, subst, ◌∙◌, arith}
use Rattle.gq_model.specs.declared.phase.Phase.TheVariants as phase
use Rattle.gq_bytecode.specs.Cores.{Core}
use Rattle.gq_bytecode.specs.declared.operation.Operation.TheVariants as operation
use Rattle.gq_leaf.specs.Leaf_states.{stepped}
use Rattle.gq_statements.specs.Slot_statements.{done}
use Rattle.gq_leaf.specs.Coded.{Coded, operation_of, coded_of}
use Rattle.gq_leaf.specs.Leaf_steps.{OpensTo}
use Rattle.gq_leaf.proofs.Signal_counts.{one_more}
use Rattle.gq_leaf.proofs.Upgrade_open_steps.{open_fails, open_leads}
use Rattle.gq_leaf.proofs.Operation_leads_step.{inside_then, small_then}
use Rattle.gq_leaf.proofs.leaf.Leaf.open.Goals as goal

no_end : (n : ℕ) → operation.Long n ≡ operation.End → ⊥
no_end n e = cc

pub advance-requires : goal.advance-requires
advance-requires c =
    let i = c.self.inside in
    let v : Coded = coded_of i.phase i.current i.reacting i.registers i.steps i.signals i.code in
    small_then v (operation.Long c.args.statement) c.self.invariant.code (ap operation_of c.self.view_is ∙ c.requires.due.next) (no_end c.args.statement)
    i.registers refl

pub invariant_of-self : goal.invariant_of-self
invariant_of-self c =
    let i = c.self.inside in
    let v : Coded = coded_of i.phase i.current i.reacting i.registers i.steps i.signals i.code in
    record {
      code = c.self.invariant.code;
      inside = inside_then v (operation.Long c.args.statement) c.self.invariant.code (ap operation_of c.self.view_is ∙ c.requires.due.next)
          (no_end c.args.statement) (λ size p h. h) c.advance.new.self
          (ap (λ (r : Core). r.position) c.advance.ensures);
      placed = c.self.invariant.placed;
      taken = one_more i.steps i.signals c.self.invariant.taken;
    }

pub returns-in-Err-clause-step : goal.returns-in-Err-clause-step
returns-in-Err-clause-step c name n bs stands =
    let i = c.self.inside in
    let v : Coded = coded_of i.phase i.current i.reacting i.registers i.steps i.signals i.code in
    let P : Coded → Type 0 = λ o. OpensTo c.args.number bs name n c.args.server c.args.service c.args.donation o o c.args.slots.now c.open.new.slots
    (done (Err c.in-Err.wrong)) in
    subst P c.self.view_is
    (open_fails v c.self.invariant.code c.args.statement c.args.place name n (ap operation_of c.self.view_is ∙ c.requires.due.next)
    (ap (λ (o : Coded). Rattle.std.specs.Prelude.slice_get o.code.longs c.args.statement) c.self.view_is ∙ stands)
    c.args.number bs c.args.slots.now c.open.new.slots c.args.server c.args.service c.args.donation v c.in-Err.wrong
    (λ f g d. c.in-Err.ensures.step f g d name n))

pub returns-in-Ok-clause-step : goal.returns-in-Ok-clause-step
returns-in-Ok-clause-step c name number bs stands =
    let i = c.self.inside in
    let v : Coded = coded_of i.phase i.current i.reacting i.registers i.steps i.signals i.code in
    let n : Coded = coded_of phase.Blocked i.current i.reacting c.advance.new.self (i.steps + 1) i.signals i.code
    in
    let to : n.state ≡ record (stepped v.state i.registers.operands) { phase = phase.Blocked } =
    ap (λ (r : Core). record n.state { registers = r }) c.advance.ensures
    ∙ ap (λ k. record (stepped v.state i.registers.operands) { phase = phase.Blocked; steps = k }) (omega arith) in
    let P : Coded → Type 0 = λ o. OpensTo c.args.number bs name number c.args.server c.args.service c.args.donation o n c.args.slots.now c.open.new.slots
    (done (Ok tt)) in
    subst P c.self.view_is
    (open_leads v c.self.invariant.code c.args.statement c.args.place name number (ap operation_of c.self.view_is ∙ c.requires.due.next)
    (ap (λ (o : Coded). Rattle.std.specs.Prelude.slice_get o.code.longs c.args.statement) c.self.view_is ∙ stands)
    c.args.number bs c.args.slots.now c.open.new.slots c.args.server c.args.service c.args.donation n (Ok tt) to
    (λ f g d. c.in-Ok.ensures.step f g d name number))
