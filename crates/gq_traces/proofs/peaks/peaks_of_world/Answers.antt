-- The turns were read.
use Rattle.std.proofs.Common.{◌≡◌, ◌∙◌, ℕ, List, Ok, ap, arith, length, refl, subst, sym}
use Rattle.gq_model.specs.declared.act.TurnLine.{TurnLine}
use Rattle.gq_model.specs.machine.Scenario.{Scenario, components, system}
use Rattle.gq_reports.specs.Command_outcomes.{WritesAs}
use Rattle.gq_world.specs.World_between_turns.{AreOf}
use Rattle.gq_world.proofs.Run_text.{lines_are_few, lines_of_leaves}
use Rattle.gq_traces.specs.internal.Lines_given.{AreFew}
use Rattle.gq_traces.proofs.Turns_few.{few_of}
use Rattle.gq_model.specs.machine.Run.{begun}
use Rattle.gq_model.specs.texts.Turns.{acts_from, acts_of, listed}
use Rattle.gq_traces.specs.Account_peaks.{peaks_text}
use Rattle.gq_traces.specs.Traces_written.{peaks_from, with_turns}
use Rattle.gq_traces.proofs.peaks.peaks_of_world.Goals as goal

pub peaks_after-requires-clause-leaves : goal.peaks_after-requires-clause-leaves
peaks_after-requires-clause-leaves g c =
    let s = c.args.world.now.scenario in
    subst (λ (t : List TurnLine). AreOf (length (components s)) t) (sym c.as_slice.ensures.value)
    (lines_of_leaves s s c.args.turns.now c.in_ok-turns.turns.items refl c.in_ok-turns.ensures.read)

pub peaks_after-requires-clause-each : goal.peaks_after-requires-clause-each
peaks_after-requires-clause-each g c =
    let s = c.args.world.now.scenario in
    subst AreFew (sym c.as_slice.ensures.value) (few_of s c.args.turns.now c.in_ok-turns.turns.items c.in_ok-turns.ensures.read)

pub peaks_after-requires-clause-signals : goal.peaks_after-requires-clause-signals
peaks_after-requires-clause-signals g c =
    let s = c.args.world.now.scenario in
    let none = c.requires.signals in
    let few = lines_are_few s c.args.turns.now c.in_ok-turns.turns.items c.in_ok-turns.ensures.read in
    let same = ap length c.as_slice.ensures.value in
    omega (arith, none, few, same)

-- what they write
given : (s : Scenario) (text : List ℕ) (turns slice : List TurnLine) → listed s text ≡ Ok turns → slice ≡ turns
    → peaks_from s text ≡ Ok (peaks_text s (acts_from (system s) (begun (system s)) slice))
given s text turns slice reads is =
    ap (λ (r : _). with_turns (acts_of (system s) r) (peaks_text s)) reads
    ∙ ap (λ l. Ok (peaks_text s (acts_from (system s) (begun (system s)) l))) (sym is)

pub returns : goal.returns
returns g c =
    let s = c.args.world.now.scenario in
    let e = given s c.args.turns.now c.in_ok-turns.turns.items c.as_slice.result.now c.in_ok-turns.ensures.read c.as_slice.ensures.value in
    subst (λ w. WritesAs g.W.Write.contents w c.args.out.now c.peaks_after.new.out c.peaks_after.result) (sym e) c.peaks_after.ensures
