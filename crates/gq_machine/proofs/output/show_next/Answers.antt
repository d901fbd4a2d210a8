-- A number that a leaf shows after the turns that it takes alone.
use Rattle.std.proofs.Common.{◌≡◌, ◌+◌, ◌-◌, ◌≤◌, ◌++◌, ℕ, zero, suc, decimal, length, Ok, refl, sym, ap, subst, arith, ◌∙◌, rules}
use Rattle.std.proofs.Common.{length-append}
use Rattle.gq_output.specs.LeafLines.{Lines, line_with}
use Rattle.gq_machine.specs.declared.event.Event.TheVariants as event
use Rattle.gq_machine.specs.Shows.{StepShows}
use Rattle.gq_machine.specs.internal.Turn_transitions.{Says}
use Rattle.gq_machine.specs.Machine_world.{world_of}
use Rattle.gq_machine.proofs.Leaf_alone_turns.{step_after}
use Rattle.gq_machine.proofs.Machine_unchanged_world.{holds_same}
use Rattle.gq_machine.proofs.Turn_line_texts.{says_line, says_nothing, says_nothing_to}
use Rattle.gq_machine.proofs.output.show_next.Goals as goal

one_more : (turns left : ℕ) → left ≤ turns → (left ≡ 0 → ⊥) → (turns - left) + 1 ≡ turns - (left - 1)
one_more turns zero le some = absurd (some refl)
one_more turns (suc left) le some = omega (arith, le)

pub returns-then-left-eq0-clause-says : goal.returns-then-left-eq0-clause-says
returns-then-left-eq0-clause-says c =
    record {
      within = search rules;
      said =
          let f = c.args.fixed.now in
          let x = c.args.number in
          let k = c.alone-pause.new.state in
          let lines = c.args.lines.now.bytes in
          subst (λ n. Says f x (c.args.turns - n) c.args.state.now k lines lines) c.if-left-eq0.true
          (says_nothing f x (c.args.turns - c.alone-pause.result.1) c.args.state.now k lines c.alone-pause.ensures.ran.ran);
      longer = search rules;
      holds = c.alone-pause.ensures.ran.holds;
    }

pub returns-in_default-clause-says : goal.returns-in_default-clause-says
returns-in_default-clause-says c =
    record {
      within = search rules;
      said =
          says_nothing c.args.fixed.now c.args.number (c.args.turns - c.alone-pause.result.1) c.args.state.now c.alone-pause.new.state c.args.lines.now.bytes
          c.alone-pause.ensures.ran.ran;
      longer = search rules;
      holds = c.alone-pause.ensures.ran.holds;
    }

pub returns-in_default-operation-clause-says : goal.returns-in_default-operation-clause-says
returns-in_default-operation-clause-says c =
    record {
      within = search rules;
      said =
          says_nothing c.args.fixed.now c.args.number (c.args.turns - c.alone-pause.result.1) c.args.state.now c.alone-pause.new.state c.args.lines.now.bytes
          c.alone-pause.ensures.ran.ran;
      longer = search rules;
      holds = c.alone-pause.ensures.ran.holds;
    }

-- nothing is done where there is no number
pub returns-in-Err-clause-says : goal.returns-in-Err-clause-says
returns-in-Err-clause-says c =
    record {
      within = search rules;
      said =
          let f = c.args.fixed.now in
          let x = c.args.number in
          let m = c.args.state.now in
          let k = c.alone-pause.new.state in
          let o = c.show.new.state in
          let lines = c.args.lines.now.bytes in
          let same : world_of f.table o.leaves.items o.slots ≡ world_of f.table k.leaves.items k.slots =
          λ i. world_of f.table (c.in-Err.ensures.leaves i) (c.in-Err.ensures.slots i) in
          says_nothing_to f x (c.args.turns - c.alone-pause.result.1) m k o lines c.alone-pause.ensures.ran.ran same;
      longer = search rules;
      holds =
          holds_same c.args.fixed.now c.alone-pause.new.state c.show.new.state c.in-Err.ensures.leaves c.in-Err.ensures.slots c.alone-pause.ensures.ran.holds;
    }

-- what is there stays first
pub returns-in-Ok-clause-says : goal.returns-in-Ok-clause-says
returns-in-Ok-clause-says c =
    record {
      within = omega arith;
      said =
          let f = c.args.fixed.now in
          let x = c.args.number in
          let m = c.args.state.now in
          let k = c.alone-pause.new.state in
          let o = c.show.new.state in
          let lines = c.args.lines.now in
          let text = decimal c.in-Ok.shown in
          let left = c.alone-pause.result.1 in
          let gives : StepShows f x k o text (Ok event.Line) = c.in-Ok.ensures.step in
          let burst = step_after f x (c.args.turns - left) m k o text (Ok event.Line) c.alone-pause.ensures.ran.ran gives tt in
          let says = says_line f x ((c.args.turns - left) + 1) m o lines.bytes text burst in
          let after : c.say_number.new.self.bytes ≡ lines.bytes ++ line_with lines.label text = ap (λ (l : Lines). l.bytes) c.say_number.ensures in
          let is = after ∙ ap (λ l. lines.bytes ++ line_with l text) c.requires.label in
          subst (λ n. Says f x n m o lines.bytes c.say_number.new.self.bytes) (one_more c.args.turns left c.alone-pause.ensures.ran.within c.if-left-eq0.false)
          (subst (Says f x ((c.args.turns - left) + 1) m o lines.bytes) (sym is) says);
      longer =
          let lines = c.args.lines.now in
          let text = decimal c.in-Ok.shown in
          let after : c.say_number.new.self.bytes ≡ lines.bytes ++ line_with lines.label text = ap (λ (l : Lines). l.bytes) c.say_number.ensures in
          let count = ap length after ∙ length-append lines.bytes (line_with lines.label text) in
          omega (arith, count);
      holds = search rules;
    }
