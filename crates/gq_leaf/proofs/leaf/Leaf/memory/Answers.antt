-- A statement on memory is the leaf's step.
use Rattle.std.proofs.Common.{◌≡◌, ◌+◌, ◌<◌, ◌^◌, ℕ, Ok, Err, refl, sym, ap, subst, ◌∙◌, arith}
use Rattle.std.specs.Prelude.{Result}
use Rattle.gq_model.specs.declared.fault.Wrong.{Wrong}
use Rattle.gq_bytecode.specs.Cores.{Core}
use Rattle.gq_bytecode.specs.Programs.{code_in}
use Rattle.gq_leaf.specs.Leaf_states.{section_at, stepped}
use Rattle.gq_leaf.specs.Leaves_steps.{Does}
use Rattle.gq_leaf.proofs.Signal_counts.{one_more}
use Rattle.gq_leaf.proofs.Leaves_stepping.{steps_err, steps_ok}
use Rattle.gq_statements.specs.declared.actor.Actor.{Actor}
use Rattle.gq_statements.specs.Slot_statements.{done}
use Rattle.gq_leaf.specs.Coded.{Coded, operation_of, coded_of}
use Rattle.gq_leaf.specs.Leaf_steps.{LeadsTo}
use Rattle.gq_leaf.specs.internal.Leaf_invariant.{IsInside}
use Rattle.gq_leaf.proofs.Operation_leads_step.{inside_after, leading, memory_before, memory_instruction, not_end, ranged_next, small_place}
use Rattle.gq_leaf.proofs.leaf.Leaf.memory.Goals as goal

pub do_memory-requires-clause-ranged : goal.do_memory-requires-clause-ranged
do_memory-requires-clause-ranged c =
    let i = c.self.inside in
    let v : Coded = coded_of i.phase i.current i.reacting i.registers i.steps i.signals i.code in
    let does = c.args.operation in
    ranged_next v does c.self.invariant.code (ap operation_of c.self.view_is ∙ c.requires.due.next) (not_end does c.requires.memory) c.requires.memory

pub advance-requires : goal.advance-requires
advance-requires c =
    let i = c.self.inside in
    let v : Coded = coded_of i.phase i.current i.reacting i.registers i.steps i.signals i.code in
    let does = c.args.operation in
    let same : c.do_memory.new.registers.position ≡ i.registers.position = ap (λ (r : Core). r.position) c.do_memory.ensures.leaves.registers in
    let P : ℕ → Type 0 = λ n. n < 2 ^ 32 in
    subst P (sym same)
    (small_place v does c.self.invariant.code (ap operation_of c.self.view_is ∙ c.requires.due.next) (not_end does c.requires.memory))

pub invariant_of-self-in-Ok : goal.invariant_of-self-in-Ok
invariant_of-self-in-Ok c =
    let i = c.self.inside in
    let v : Coded = coded_of i.phase i.current i.reacting i.registers i.steps i.signals i.code in
    let does = c.args.operation in
    let after : c.advance.new.self.position ≡ i.registers.position + 1 =
    ap (λ (r : Core). r.position) c.advance.ensures ∙ ap (λ (r : Core). r.position + 1) c.do_memory.ensures.leaves.registers in
    let P : ℕ → Type 0 = λ n. IsInside (code_in (section_at i.current i.reacting) i.code.sections) n in
    record {
      code = c.self.invariant.code;
      inside = subst P (sym after) (inside_after v does c.self.invariant.code (ap operation_of c.self.view_is ∙ c.requires.due.next)
          (not_end does c.requires.memory) (memory_before does c.requires.memory));
      placed = c.self.invariant.placed;
      taken = one_more i.steps i.signals c.self.invariant.taken;
    }

pub returns-in-Err-clause-step : goal.returns-in-Err-clause-step
returns-in-Err-clause-step c =
    let i = c.self.inside in
    let v : Coded = coded_of i.phase i.current i.reacting i.registers i.steps i.signals i.code in
    let n : Coded = coded_of i.phase i.current i.reacting c.do_memory.new.registers i.steps i.signals i.code in
    let does = c.args.operation in
    let x = c.args.number in
    let bs = c.args.addresses.now in
    let a : Actor = record { leaf = x; current = i.current } in
    let wrong = c.in-Err.wrong in
    let m = memory_instruction i.code.longs does c.requires.memory in
    let R : Result (Unit {0}) Wrong → Type 0 = λ r. Does a bs m.0 i.registers c.do_memory.new.registers c.args.slots.now c.do_memory.new.slots r in
    let did = subst R c.in-Err.is (c.do_memory.ensures.does i.code.longs m.0 m.1) in
    let P : Coded → Type 0 = λ o. LeadsTo x bs o n c.args.slots.now c.do_memory.new.slots (done (Err wrong)) in
    subst P c.self.view_is
    (leading v does c.self.invariant.code (ap operation_of c.self.view_is ∙ c.requires.due.next) (not_end does c.requires.memory) x bs n c.args.slots.now
    c.do_memory.new.slots m.0 (Err wrong) m.1
    (steps_err x bs m.0 v.state n.state c.do_memory.new.registers c.args.slots.now c.do_memory.new.slots a wrong refl refl did))

pub returns-in-Ok-clause-step : goal.returns-in-Ok-clause-step
returns-in-Ok-clause-step c =
    let i = c.self.inside in
    let v : Coded = coded_of i.phase i.current i.reacting i.registers i.steps i.signals i.code in
    let n : Coded = coded_of i.phase i.current i.reacting c.advance.new.self (i.steps + 1) i.signals i.code in
    let does = c.args.operation in
    let x = c.args.number in
    let bs = c.args.addresses.now in
    let a : Actor = record { leaf = x; current = i.current } in
    let m = memory_instruction i.code.longs does c.requires.memory in
    let R : Result (Unit {0}) Wrong → Type 0 = λ r. Does a bs m.0 i.registers c.do_memory.new.registers c.args.slots.now c.do_memory.new.slots r in
    let did = subst R c.in-Ok.is (c.do_memory.ensures.does i.code.longs m.0 m.1) in
    let moved : c.advance.new.self ≡ record i.registers { position = i.registers.position + 1; operands = c.do_memory.new.registers.operands } =
    c.advance.ensures ∙ ap (λ (r : Core). record r { position = r.position + 1 }) c.do_memory.ensures.leaves.registers in
    let on : n.state ≡ stepped v.state c.do_memory.new.registers.operands =
    ap (λ (r : Core). record v.state { registers = r; steps = i.steps + 1 }) moved ∙ ap (λ k. record (stepped v.state c.do_memory.new.registers.operands) {
      steps = k;
    }) (omega arith) in
    let P : Coded → Type 0 = λ o. LeadsTo x bs o n c.args.slots.now c.do_memory.new.slots (done (Ok tt)) in
    subst P c.self.view_is
    (leading v does c.self.invariant.code (ap operation_of c.self.view_is ∙ c.requires.due.next) (not_end does c.requires.memory) x bs n c.args.slots.now
    c.do_memory.new.slots m.0 (Ok tt) m.1
    (steps_ok x bs m.0 v.state n.state c.do_memory.new.registers c.args.slots.now c.do_memory.new.slots a refl refl did on))
