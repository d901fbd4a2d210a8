-- Turns of a leaf that show numbers.
use Rattle.std.proofs.Common.{◌≡◌, ◌+◌, ◌-◌, ◌≤◌, ◌∙◌, ℕ, subst, arith}
use Rattle.gq_machine.specs.Machine_world.{world_of}
use Rattle.gq_machine.specs.Countable.{AreCountable}
use Rattle.gq_machine.specs.internal.Turn_transitions.{Says}
use Rattle.gq_machine.proofs.Turn_line_texts.{countable_said, says_then}
use Rattle.gq_machine.proofs.output.show_all.Goals as goal

joined : (turns left rest : ℕ) → rest ≤ left → left ≤ turns → (turns - left) + (left - rest) ≡ turns - rest
joined turns left rest less le = omega (arith, less, le)

all_of : (left rest : ℕ) → rest ≤ left → left ≡ (left - rest) + rest
all_of left rest less = omega (arith, less)

pub returns-then-not-goes_on : goal.returns-then-not-goes_on
returns-then-not-goes_on c =
    record {
      says = record {
        within = omega (arith, c.loop-left.invariant.few, c.show_one-goes_on.ensures.says.within);
        said =
            let f = c.args.fixed.now in
            let x = c.args.number in
            let l = c.loop-left in
            let m = c.args.state.now in
            let s = c.show_one-goes_on in
            let o = s.new.state in
            let rest = s.result.1 in
            subst (λ n. Says f x n m o c.args.lines.now.bytes s.new.lines.bytes) (joined c.args.turns l.left rest s.ensures.says.within l.invariant.few)
            (says_then f x (c.args.turns - l.left) (l.left - rest) m l.state o c.args.lines.now.bytes l.lines.bytes s.new.lines.bytes l.invariant.said
            s.ensures.says.said);
        longer = omega (arith, c.loop-left.invariant.longer, c.show_one-goes_on.ensures.says.longer);
        holds = c.show_one-goes_on.ensures.says.holds;
      };
    }

pub loop-left-preserved : goal.loop-left-preserved
loop-left-preserved c =
    let f = c.args.fixed.now in
    let x = c.args.number in
    let l = c.loop-left in
    let m = c.args.state.now in
    let s = c.show_one-goes_on in
    let o = s.new.state in
    let rest = s.result.1 in
    let less = s.ensures.says.within in
    let few = l.invariant.few in
    let more = s.ensures.says.longer in
    let longer = l.invariant.longer in
    record {
      holds = s.ensures.says.holds;
      few = omega (arith, less, few);
      said = subst (λ n. Says f x n m o c.args.lines.now.bytes s.new.lines.bytes) (joined c.args.turns l.left rest less few)
          (says_then f x (c.args.turns - l.left) (l.left - rest) m l.state o c.args.lines.now.bytes l.lines.bytes s.new.lines.bytes l.invariant.said
          s.ensures.says.said);
      countable = countable_said f x (l.left - rest) rest l.state o l.lines.bytes s.new.lines.bytes s.ensures.says.said
          (subst (AreCountable (world_of f.table l.state.leaves.items l.state.slots) x) (all_of l.left rest less) l.invariant.countable);
      longer = omega (arith, more, longer);
      label = s.ensures.label ∙ l.invariant.label;
    }
