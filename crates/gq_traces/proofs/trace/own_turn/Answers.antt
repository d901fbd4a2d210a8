-- One turn of a leaf that takes steps of its own.
use Rattle.std.proofs.Common.{[], ◌≡◌, ◌∙◌, ◌+◌, ◌<◌, ℕ, Option, Some, arith, false, length, refl, subst, sym}
use Rattle.std.specs.Prelude.{IfSome, slice_get}
use Rattle.gq_machine.specs.Events.{event_of}
use Rattle.gq_machine.specs.Machines.{Machine}
use Rattle.gq_model.specs.machine.Scenario.{Scenario, components, system}
use Rattle.gq_model.specs.machine.World.{Leaf, section_of}
use Rattle.gq_statements.specs.Slot_statements.{current_seen}
use Rattle.gq_model.specs.declared.section.Section.{Section}
use Rattle.gq_model.specs.machine.Run.{label_at}
use Rattle.gq_statements.specs.declared.actor.Current.{Current}
use Rattle.gq_world.specs.World_between_turns.{World}
use Rattle.gq_traces.specs.Trace.{after_turn}
use Rattle.gq_traces.specs.internal.Flat.{AllStand, ArePrograms, programs_of}
use Rattle.gq_traces.specs.internal.Printed_steps.{IsOn, IsTop, budgets_of}
use Rattle.gq_traces.proofs.Sequential_text_writes.{goes_nothing, goes_text}
use Rattle.gq_traces.proofs.Leaves_standing.{from_some, programs_long}
use Rattle.gq_traces.proofs.Own_turns.{due_there, own_goes, own_stand, passes_as}
use Rattle.gq_traces.proofs.Printed_step.{was_noted}
use Rattle.gq_traces.proofs.Still_noted.{step_left, use_in, use_still}
use Rattle.gq_traces.proofs.Printed_turns.{items_then, silent_text, taken_on}
use Rattle.gq_traces.proofs.trace.own_turn.Goals as goal

-- the section that is read of the leaf
section_seen : (w : World) (m : Machine) (x : ℕ) (section : Section) (current : Option Current) (reacting : Option ℕ)
    → m ≡ record { scenario = w.scenario; world = w.world } → section ≡ section_of (current_seen current) reacting
    → IfSome (slice_get m.world.leaves x) (λ l. current_seen current ≡ l.current) → IfSome (slice_get m.world.leaves x) (λ l. reacting ≡ l.reacting)
    → (l : Leaf) → slice_get w.world.leaves x ≡ Some l → section ≡ section_of l.current l.reacting
section_seen w m x section current reacting is read current_read reacting_read l there =
    let first = from_some (slice_get w.world.leaves x) (λ z. current_seen current ≡ z.current) l there
    (subst (λ (n : Machine). IfSome (slice_get n.world.leaves x) (λ z. current_seen current ≡ z.current)) is current_read) in
    let second = from_some (slice_get w.world.leaves x) (λ z. reacting ≡ z.reacting) l there
    (subst (λ (n : Machine). IfSome (slice_get n.world.leaves x) (λ z. reacting ≡ z.reacting)) is reacting_read) in
    read ∙ (λ i. section_of (first i) (second i))

pub pass_by-requires-clause-leaf : goal.pass_by-requires-clause-leaf
pass_by-requires-clause-leaf g c =
    let less = c.requires.leaf in
    let long = programs_long c.args.tracing.now.programs.items (components c.args.world.now.scenario) c.requires.can.programs in
    subst (λ l. c.args.leaf < length l) (sym c.as_slice-programs.ensures.value) (omega (arith, less, long))

pub returns-then-is_silent-clause-reported : goal.returns-then-is_silent-clause-reported
returns-then-is_silent-clause-reported g c =
    let w = c.args.world.now in
    let s = w.scenario in
    let x = c.args.leaf in
    let u = c.args.before.now in
    let before = c.args.tracing.now in
    let b = budgets_of s in
    let step = c.step-event in
    let event = event_of step.result step.new.line.items in
    let label = label_at (slice_get (components s) x) in
    let after = use_in c.machine-2.result.now step.new.self x c.use_of-after.result c.machine-2.ensures.is c.use_of-after.ensures in
    let left = step_left w step.new.self x event _ _ u c.use_of-after.result c.machine.ensures.stands step.ensures.scenario step.ensures.stepped refl refl
    c.requires.before after (c.is_silent.ensures.phase c.if-is_silent.true) (c.is_silent.ensures.used c.if-is_silent.true) before.notes c.requires.can.noted
    label in
    let top = λ (l : Leaf) (there : slice_get w.world.leaves x ≡ Some l).
    from_some (slice_get w.world.leaves x) (λ z. IsTop c.top-top.result z.operands) l there
    (subst (λ (m : Machine). IfSome (slice_get m.world.leaves x) (λ z. IsTop c.top-top.result z.operands)) c.machine.ensures.is c.top-top.ensures) in
    let goes = own_goes w x u c.requires.before c.requires.own c.requires.leaf c.counted.ensures.leaves before.programs.items before.aheads.items
    c.requires.can.programs c.pass_by.new.aheads c.top-top.result
    (passes_as c.as_slice-programs.result.now before.programs.items c.as_mut_slice.result.now before.aheads.items c.pass_by.new.aheads x c.top-top.result
    c.as_slice-programs.ensures.value c.as_mut_slice.ensures.value c.pass_by.ensures) top in
    let stands_now = own_stand w x u c.requires.before c.requires.own c.requires.leaf c.counted.ensures.leaves before.programs.items before.aheads.items
    c.requires.can.programs c.pass_by.new.aheads c.requires.can.stands goes in
    let is_now = items_then before.programs.items before.aheads.items c.pass_by.new.aheads before.aheads.len before.aheads.ok.0 c.requires.can.stands
    stands_now in
    let due = due_there w x u c.requires.before c.requires.own c.requires.leaf c.counted.ensures.leaves before.programs.items before.aheads.items
    c.requires.can.programs in
    record {
      scenario = step.ensures.scenario;
      signals = (let signals = step.ensures.signals in omega (arith, signals));
      can = record {
        programs = subst (λ (r : Scenario). ArePrograms before.programs.items (programs_of r)) (sym step.ensures.scenario) c.requires.can.programs;
        stands = subst (AllStand before.programs.items) (sym is_now) stands_now;
        noted = left.0;
        running = step.ensures.stopped;
      };
      written = λ t on.
          goes_text g.W.Write.contents c.args.out.now c.args.out.now c.args.going c.args.going [] _
          (silent_text false s b x before.programs.items before.aheads.items w c.args.turns t on (due t.aheads on.aheads).0 (due t.aheads on.aheads).1
          step.new.self event step.ensures.stepped refl (left.1 ∙ c.is_silent.ensures.line label step.new.line.items c.if-is_silent.true))
          (goes_nothing g.W.Write.contents c.args.out.now c.args.going);
      on = λ t on.
          subst (λ l. IsOn before.programs.items l step.new.self (c.args.turns + 1) (after_turn (system s) x t)) (sym is_now)
          (taken_on false s b x before.programs.items before.aheads.items w c.args.turns t on (due t.aheads on.aheads).0 (due t.aheads on.aheads).1
          step.new.self event step.ensures.stepped c.pass_by.new.aheads
          (goes t.aheads (due t.aheads on.aheads).0 on.aheads (due t.aheads on.aheads).1));
    }

pub returns-then-is_silent-clause-after : goal.returns-then-is_silent-clause-after
returns-then-is_silent-clause-after g c =
    let step = c.step-event in
    use_still step.new.self.scenario step.new.self.world c.args.leaf c.args.before.now c.use_of-after.result
    (use_in c.machine-2.result.now step.new.self c.args.leaf c.use_of-after.result c.machine-2.ensures.is c.use_of-after.ensures)
    (c.is_silent.ensures.phase c.if-is_silent.true) (c.is_silent.ensures.used c.if-is_silent.true)

pub report_own-requires-clause-taken : goal.report_own-requires-clause-taken
report_own-requires-clause-taken g c =
    let w = c.args.world.now in
    let x = c.args.leaf in
    let step = c.step-event in (
      w,
      (record {
        can = c.requires.can;
        taken = record {
          stands = c.machine.ensures.stands;
          scenario = step.ensures.scenario;
          running = step.ensures.stopped;
          signals = step.ensures.signals;
          goes = step.ensures.stepped;
          before = c.requires.before;
          after = use_in c.machine-2.result.now step.new.self x c.use_of-after.result c.machine-2.ensures.is c.use_of-after.ensures;
          leaves_before = c.counted.ensures.leaves;
          leaves = c.counted-2.ensures.leaves;
        };
        noted = was_noted w step.new.self c.args.tracing.now.notes step.ensures.scenario c.requires.can.noted c.counted.ensures.accounts
            c.counted-2.ensures.accounts;
        own = c.requires.own;
        section = λ l there. section_seen w c.machine-machine.result.now x c.section_of-section.result c.current.result c.reacting.result
            c.machine-machine.ensures.is c.section_of-section.ensures c.current.ensures c.reacting.ensures l there;
        top = λ l there. from_some (slice_get w.world.leaves x) (λ z. IsTop c.top-top.result z.operands) l there
            (subst (λ (m : Machine). IfSome (slice_get m.world.leaves x) (λ z. IsTop c.top-top.result z.operands)) c.machine.ensures.is c.top-top.ensures);
      }),
    )

pub returns-clause-reported : goal.returns-clause-reported
returns-clause-reported g c =
    let w = c.args.world.now in
    let x = c.args.leaf in
    let step = c.step-event in
    c.report_own.ensures w (record {
      can = c.requires.can;
      taken = record {
        stands = c.machine.ensures.stands;
        scenario = step.ensures.scenario;
        running = step.ensures.stopped;
        signals = step.ensures.signals;
        goes = step.ensures.stepped;
        before = c.requires.before;
        after = use_in c.machine-2.result.now step.new.self x c.use_of-after.result c.machine-2.ensures.is c.use_of-after.ensures;
        leaves_before = c.counted.ensures.leaves;
        leaves = c.counted-2.ensures.leaves;
      };
      noted = was_noted w step.new.self c.args.tracing.now.notes step.ensures.scenario c.requires.can.noted c.counted.ensures.accounts
          c.counted-2.ensures.accounts;
      own = c.requires.own;
      section = λ l there. section_seen w c.machine-machine.result.now x c.section_of-section.result c.current.result c.reacting.result
          c.machine-machine.ensures.is c.section_of-section.ensures c.current.ensures c.reacting.ensures l there;
      top = λ l there. from_some (slice_get w.world.leaves x) (λ z. IsTop c.top-top.result z.operands) l there
          (subst (λ (m : Machine). IfSome (slice_get m.world.leaves x) (λ z. IsTop c.top-top.result z.operands)) c.machine.ensures.is c.top-top.ensures);
    })
