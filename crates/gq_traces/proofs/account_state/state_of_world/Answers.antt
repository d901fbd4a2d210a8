-- The turns were read.
use Rattle.std.proofs.Common.{◌≡◌, ◌∙◌, ℕ, List, Ok, Option, ap, arith, length, refl, subst, sym}
use Rattle.gq_model.specs.declared.act.TurnLine.{TurnLine}
use Rattle.gq_model.specs.machine.Run.{Acts, run}
use Rattle.gq_model.specs.machine.Scenario.{Scenario, components, system}
use Rattle.gq_reports.specs.Command_outcomes.{WritesAs}
use Rattle.gq_world.specs.World_between_turns.{AreOf}
use Rattle.gq_world.proofs.Run_text.{lines_are_few, lines_of_leaves}
use Rattle.gq_traces.specs.internal.Lines_given.{AreFew}
use Rattle.gq_traces.proofs.Turns_few.{few_of}
use Rattle.gq_model.specs.texts.Turns.{Turned, listed}
use Rattle.gq_traces.specs.First_turns.{some_turns}
use Rattle.gq_traces.specs.Account_state.{state_text}
use Rattle.gq_traces.specs.Trace.{after_all, start_traced}
use Rattle.gq_traces.specs.Traces_written.{state_from, with_turns}
use Rattle.gq_traces.specs.internal.Line_acts.{acts_along}
use Rattle.gq_traces.proofs.Lines_printed.{turned_along}
use Rattle.gq_traces.proofs.account_state.state_of_world.Goals as goal

pub state_after-requires-clause-leaves : goal.state_after-requires-clause-leaves
state_after-requires-clause-leaves g c =
    let s = c.args.world.now.scenario in
    subst (λ (t : List TurnLine). AreOf (length (components s)) t) (sym c.as_slice.ensures.value)
    (lines_of_leaves s s c.args.turns.now c.in_ok-turns.turns.items refl c.in_ok-turns.ensures.read)

pub state_after-requires-clause-each : goal.state_after-requires-clause-each
state_after-requires-clause-each g c =
    let s = c.args.world.now.scenario in
    subst AreFew (sym c.as_slice.ensures.value) (few_of s c.args.turns.now c.in_ok-turns.turns.items c.in_ok-turns.ensures.read)

pub state_after-requires-clause-signals : goal.state_after-requires-clause-signals
state_after-requires-clause-signals g c =
    let s = c.args.world.now.scenario in
    let none = c.requires.signals in
    let few = lines_are_few s c.args.turns.now c.in_ok-turns.turns.items c.in_ok-turns.ensures.read in
    let same = ap length c.as_slice.ensures.value in
    omega (arith, none, few, same)

-- what they write
given : (first : Option ℕ) (s : Scenario) (text : List ℕ) (turns slice : List TurnLine)
    → ((acts : Acts) → (after_all (system s) acts (start_traced (system s))).world ≡ (run (system s) acts).world)
    → listed s text ≡ Ok turns → slice ≡ turns
    → state_from first s text ≡ Ok (state_text s (some_turns first (acts_along (system s) slice (start_traced (system s)))))
given first s text turns slice same reads is =
    ap (λ (r : Turned). with_turns r (λ l. state_text s (some_turns first l))) (turned_along s text turns same reads)
    ∙ ap (λ (l : List TurnLine). Ok (state_text s (some_turns first (acts_along (system s) l (start_traced (system s)))))) (sym is)

pub returns : goal.returns
returns g c =
    let s = c.args.world.now.scenario in
    let e = given c.args.first s c.args.turns.now c.in_ok-turns.turns.items c.as_slice.result.now c.requires.same c.in_ok-turns.ensures.read
    c.as_slice.ensures.value in
    subst (λ w. WritesAs g.W.Write.contents w c.args.out.now c.state_after.new.out c.state_after.result) (sym e) c.state_after.ensures
