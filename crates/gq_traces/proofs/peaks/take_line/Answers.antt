-- Turns, a setting or a signal, or a way to rest.
use Rattle.std.proofs.Common.{◌≡◌, ◌∙◌, ◌+◌, arith, refl, subst, sym, ap}
use Rattle.gq_model.specs.declared.act.TurnLine.TheVariants.{Gives}
use Rattle.gq_model.specs.machine.Run.{act_on, run_on}
use Rattle.gq_model.specs.machine.Scenario.{system}
use Rattle.gq_model.specs.texts.Turns.{turns_given}
use Rattle.gq_traces.specs.First_turns.{turns_in}
use Rattle.gq_traces.specs.internal.Line_acts.{acts_at}
use Rattle.gq_traces.specs.internal.Peaking.{HasAct, HasAll, Peaked}
use Rattle.gq_traces.proofs.Peaks_kept.{peaked_like}
use Rattle.gq_traces.proofs.peaks.take_line.Goals as goal

pub returns-in-Gives-clause-peaked : goal.returns-in-Gives-clause-peaked
returns-in-Gives-clause-peaked c =
    let w = c.args.world.now in
    let s = system w.scenario in
    let x = c.in-Gives.leaf in
    let act = c.in-Gives.act in
    let took = c.take_act in
    let count : c.line_turns.result ≡ turns_given act = c.line_turns.ensures in
    rw (c.in-Gives.is)
    (peaked_like 1 1 (λ runs now. HasAct s x runs c.args.turns now act) (λ runs now. HasAll s (acts_at s w.world (Gives x act)) runs c.args.turns now)
    (act_on s x act) (run_on s (acts_at s w.world (Gives x act))) c.args.turns (c.args.turns + turns_given act) (c.args.turns + c.line_turns.result) w
    took.new.world c.args.peaks.now took.new.peaks (omega arith) (λ runs now at has. has.0) (λ now at. refl) (omega (arith, count))
    (subst (λ y. Peaked 1 (λ runs now. HasAct s y runs c.args.turns now act) (act_on s y act) c.args.turns (c.args.turns + turns_given act) w took.new.world
    c.args.peaks.now took.new.peaks) c.new.ensures took.ensures))

pub returns-in-Gives-clause-count : goal.returns-in-Gives-clause-count
returns-in-Gives-clause-count c =
    let w = c.args.world.now in
    let s = system w.scenario in
    let act = c.in-Gives.act in
    let count : c.line_turns.result ≡ turns_given act = c.line_turns.ensures in
    let one : c.line_turns.result ≡ turns_in (acts_at s w.world (Gives c.in-Gives.leaf act)) = omega (arith, count) in
    one ∙ ap (λ line. turns_in (acts_at s w.world line)) (sym c.in-Gives.is)
