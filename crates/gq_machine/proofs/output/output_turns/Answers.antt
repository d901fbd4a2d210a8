-- Turns of a leaf, and the lines that they give.
use Rattle.std.proofs.Common.{◌≡◌, ◌+◌, ◌-◌, ◌<◌, ◌≤◌, ℕ, List, Result, Ok, [], length, ap, subst, arith}
use Rattle.gq_model.specs.declared.fault.Wrong.{Wrong}
use Rattle.gq_output.specs.LeafLines.{line_with}
use Rattle.gq_machine.specs.Machine_world.{world_of}
use Rattle.gq_machine.specs.Countable.{AreCountable}
use Rattle.gq_machine.specs.declared.event.Event.{Event}
use Rattle.gq_machine.specs.declared.event.Event.TheVariants as event
use Rattle.gq_machine.specs.State_bursts.{IsBurst, IsOutput}
use Rattle.gq_machine.specs.internal.Turn_transitions.{Says}
use Rattle.gq_machine.proofs.Leaf_alone_turns.{label}
use Rattle.gq_machine.proofs.Resting_phases.{no_line_in}
use Rattle.gq_machine.proofs.Turn_line_texts.{countable_said, says_line, reported_line, reported_none}
use Rattle.gq_machine.proofs.output.output_turns.Goals as goal

joined : (turns rest left : ℕ) → left ≤ rest → rest ≤ turns → (turns - rest) + (rest - left) ≡ turns - left
joined turns rest left less le = omega (arith, less, le)

all_of : (turns rest : ℕ) → rest ≤ turns → turns ≡ (turns - rest) + rest
all_of turns rest less = omega (arith, less)

pub output_on-left-requires-clause-can : goal.output_on-left-requires-clause-can
output_on-left-requires-clause-can c =
    record {
      holds = c.take_turns-last.ensures.holds;
      leaf = c.requires.can.leaf;
      countable =
          let f = c.args.fixed.now in
          let x = c.args.number in
          let m = c.args.state.now in
          let t = c.take_turns-last in
          let o = t.new.state in
          let text = t.new.line.items in
          let rest = t.result.1 in
          let one = subst (λ (r : Result Event Wrong). IsBurst f x (c.args.turns - rest) m o text r) c.in-Ok.is t.ensures.took.took in
          let took = subst (λ (e : Event). IsBurst f x (c.args.turns - rest) m o text (Ok e)) c.in-Line.is one in
          countable_said f x (c.args.turns - rest) rest m o _ _ (says_line f x (c.args.turns - rest) m o [] text took)
          (subst (AreCountable (world_of f.table m.leaves.items m.slots) x) (all_of c.args.turns rest t.ensures.left) c.requires.can.countable);
    }

pub returns-in-Err-clause-reported : goal.returns-in-Err-clause-reported
returns-in-Err-clause-reported c =
    let t = c.take_turns-last in
    subst (λ (r : Result Event Wrong). IsBurst c.args.fixed.now c.args.number (c.args.turns - t.result.1) c.args.state.now t.new.state t.new.line.items r)
    c.in-Err.is t.ensures.took.took

pub returns-in-Line-clause-reported : goal.returns-in-Line-clause-reported
returns-in-Line-clause-reported c =
    let f = c.args.fixed.now in
    let x = c.args.number in
    let m = c.args.state.now in
    let t = c.take_turns-last in
    let k = t.new.state in
    let text = t.new.line.items in
    let rest = t.result.1 in
    let s = c.output_on-left in
    let o = s.new.state in
    let lines = s.new.lines.bytes in
    let one = subst (λ (r : Result Event Wrong). IsBurst f x (c.args.turns - rest) m k text r) c.in-Ok.is t.ensures.took.took in
    let took = subst (λ (e : Event). IsBurst f x (c.args.turns - rest) m k text (Ok e)) c.in-Line.is one in
    let more = subst (λ b. Says f x (rest - s.result) k o (line_with (label f x) b) lines) c.as_slice.ensures.value s.ensures.said in
    subst (λ n. IsOutput f x n m o (Ok event.Line) lines) (joined c.args.turns rest s.result s.ensures.left t.ensures.left)
    (reported_line f x (c.args.turns - rest) (rest - s.result) m k o text lines took more)

pub returns-in-Idle-clause-reported : goal.returns-in-Idle-clause-reported
returns-in-Idle-clause-reported c =
    let f = c.args.fixed.now in
    let x = c.args.number in
    let m = c.args.state.now in
    let t = c.take_turns-last in
    let o = t.new.state in
    let n = c.args.turns - t.result.1 in
    let text = t.new.line.items in
    let took = subst (λ (r : Result Event Wrong). IsBurst f x n m o text r) c.in-Ok.is t.ensures.took.took in
    reported_none f x n m o c.in-Ok.event text c.args.lines.now.bytes (no_line_in c.in-Ok.event c.in-Idle.is) took

not_empty : (bytes : List ℕ) → 0 < length bytes → bytes ≡ [] → ⊥
not_empty bytes some none =
    let count = ap length none in omega (arith, some, count)

pub returns-in-Line-clause-some : goal.returns-in-Line-clause-some
returns-in-Line-clause-some c line none = not_empty c.output_on-left.new.lines.bytes c.output_on-left.ensures.some none

pub returns-in-Idle-clause-some : goal.returns-in-Idle-clause-some
returns-in-Idle-clause-some c line none = no_line_in c.in-Ok.event c.in-Idle.is line
