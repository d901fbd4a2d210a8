-- So many turns, or all.
use Rattle.std.proofs.Common.{◌≡◌, ◌∙◌, ◌≤◌, ℕ, List, Option, ap, arith, length, subst, sym}
use Rattle.gq_model.specs.declared.act.TurnLine.{TurnLine}
use Rattle.gq_model.specs.machine.Scenario.{system}
use Rattle.gq_world.specs.World_between_turns.{World, greatest_lines}
use Rattle.gq_traces.specs.First_turns.{first_turns, some_turns}
use Rattle.gq_traces.specs.Trace.{after_all}
use Rattle.gq_traces.specs.declared.follow.Followed.{Followed}
use Rattle.gq_traces.specs.internal.Follows.{Follows}
use Rattle.gq_traces.specs.internal.Line_acts.{acts_along}
use Rattle.gq_traces.specs.internal.Lines_given.{AreFew}
use Rattle.gq_traces.proofs.Lines_taken.{along_few, first_whole}
use Rattle.gq_traces.proofs.Turns_few.{lines_bound}
use Rattle.gq_traces.proofs.Unprinted_turns.{follows_like}
use Rattle.gq_traces.proofs.follow.take_first.Goals as goal
use Rattle.gq_traces.proofs.follow.take_first.Goals.{in-None, in-Some}

-- a list that can be read has fewer turns than that
all_taken : (turns : List TurnLine) (u v : World) (f g : Followed) (most : ℕ) → most ≡ 18446744073709551615 → AreFew turns → length turns ≤ greatest_lines
    → Follows (length turns) (λ t. after_all (system u.scenario) (first_turns most (acts_along (system u.scenario) turns t)) t) u v f g
    → Follows (length turns) (λ t. after_all (system u.scenario) (acts_along (system u.scenario) turns t) t) u v f g
all_taken turns u v f g most is few long h =
    let s = system u.scenario in
    follows_like (length turns) (length turns) (λ t. after_all s (first_turns most (acts_along s turns t)) t) (λ t. after_all s (acts_along s turns t) t) u v
    f g
    (omega arith)
    (λ t at. (let within = along_few s turns t few in
    ap (λ l. after_all s l t) (first_whole most (acts_along s turns t) (omega (arith, within, long, is, lines_bound))))) h

pub returns : goal.returns
returns c =
    let w = c.args.world.now in
    let s = system w.scenario in
    let took = c.take_most in
    let turns = c.args.turns.now in
    elim c.match-first.branch [
      | in-None t ↦ (
          let signals = c.requires.signals in
          subst (λ (o : Option ℕ). Follows (length turns) (λ u. after_all s (some_turns o (acts_along s turns u)) u) w took.new.world c.args.followed.now
          took.new.followed) (sym t.in-None.is)
          (all_taken turns w took.new.world c.args.followed.now took.new.followed c.match-first.most t.most-is c.requires.each (omega (arith, signals))
          took.ensures))
      | in-Some t ↦
          subst (λ (o : Option ℕ). Follows (length turns) (λ u. after_all s (some_turns o (acts_along s turns u)) u) w took.new.world c.args.followed.now
          took.new.followed) (sym t.in-Some.is)
          (subst (λ n. Follows (length turns) (λ u. after_all s (first_turns n (acts_along s turns u)) u) w took.new.world c.args.followed.now
          took.new.followed) (t.most-is ∙ t.from-most.ensures) took.ensures)
    ]
