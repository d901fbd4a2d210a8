-- The turns are taken, and all lines are written.
use Rattle.std.proofs.Common.{◌≡◌, ◌∙◌, Bool, List, ℕ, Option, length, refl, subst, sym, true}
use Rattle.gq_model.specs.texts.Turns.{acts_from}
use Rattle.gq_output.specs.declared.counted.Counted.{Counted}
use Rattle.gq_model.specs.machine.Run.{Acts, Ran, begun, run, run_on}
use Rattle.gq_model.specs.machine.Scenario.{Scenario, components, system}
use Rattle.gq_model.specs.machine.World.{start}
use Rattle.gq_world.specs.World_between_turns.{World}
use Rattle.gq_traces.specs.First_turns.{first_turns}
use Rattle.gq_traces.specs.Account_peaks.{peak_lines, peaks_text}
use Rattle.gq_traces.specs.declared.peaks.LeafPeaks.{LeafPeaks}
use Rattle.gq_traces.specs.internal.Peaking.{AllNow, Comes, HasAll, IsIn, Peaked}
use Rattle.gq_traces.specs.internal.Printed_steps.{Goes}
use Rattle.gq_traces.specs.First_turns.{turns_in}
use Rattle.gq_traces.proofs.Printed_leaves.{all_went, cut_off}
use Rattle.gq_traces.proofs.Peaks_kept.{peaks_first}
use Rattle.gq_traces.proofs.Printed_peaks.{all_shown}
use Rattle.gq_traces.proofs.Runs_on.{at_first, at_start, has_all}
use Rattle.gq_traces.proofs.peaks.write_peaks.Goals as goal

-- the lines that are written are those of the peaks over all turns
went : {W : Type 0} (contents : W → Option (List ℕ)) (s : Scenario) (turns : Acts) (old new : World) (olds news : List LeafPeaks)
    (out_old out_new : Counted W) (was : Bool) → old.scenario ≡ s → old.world ≡ start (system s) → length olds ≡ length (components s)
    → (n most : ℕ) → n ≡ turns_in turns
    → AllNow s old.world 0 olds → Peaked most (λ runs now. HasAll (system s) turns runs 0 now) (run_on (system s) turns) 0 n old new olds news
    → Goes contents out_old out_new true was (peak_lines new.scenario.version (components new.scenario) news)
    → Goes contents out_old out_new true was (peaks_text s turns)
went contents s turns old new olds news out_old out_new was same first long n most count now peaked goes =
    let runs : ℕ → Ran = λ n. run (system s) (first_turns n turns) in
    let at = at_start (system s) turns old.world first in
    let come = subst (λ (t : Scenario). Comes t runs 0 (turns_in turns) (run_on (system s) turns (at_first (system s))) new.world olds news) same
    (subst (λ m. Comes old.scenario runs 0 m (run_on (system s) turns (at_first (system s))) new.world olds news) count (peaked.comes runs (at_first (system
    s)) (has_all (system s) turns)
    (subst (λ (t : Scenario). IsIn (system t) runs 0 (at_first (system s)) old.world) (sym same) at))) in
    let over = come.peaks (peaks_first s runs (at_first (system s)) old.world olds at now) in
    subst (Goes contents out_old out_new true was) (all_shown s turns news (peaked.long ∙ long) over)
    (subst (λ (t : Scenario). Goes contents out_old out_new true was (peak_lines t.version (components t) news)) (peaked.scenario ∙ same) goes)

pub returns-then-write_lines : goal.returns-then-write_lines
returns-then-write_lines g c =
    let w = c.args.world.now in
    let t = c.take_all-taken in
    let n = c.write_lines in
    all_went g.W.Write.contents c.args.out.now n.new.out n.result (peaks_text w.scenario (acts_from (system w.scenario) (begun (system w.scenario))
    c.args.turns.now)) _ c.if-write_lines.true
    (went g.W.Write.contents w.scenario (acts_from (system w.scenario) (begun (system w.scenario)) c.args.turns.now) w t.new.world c.args.peaks.now
    t.new.peaks c.args.out.now n.new.out n.result refl c.requires.start
    c.requires.long t.result (length c.args.turns.now) t.ensures.count c.requires.now t.ensures.peaked n.ensures)

pub returns-else-write_lines : goal.returns-else-write_lines
returns-else-write_lines g c =
    let w = c.args.world.now in
    let t = c.take_all-taken in
    let n = c.write_lines in
    cut_off g.W.Write.contents c.args.out.now n.new.out n.result (peaks_text w.scenario (acts_from (system w.scenario) (begun (system w.scenario))
    c.args.turns.now)) _ c.if-write_lines.false
    (went g.W.Write.contents w.scenario (acts_from (system w.scenario) (begun (system w.scenario)) c.args.turns.now) w t.new.world c.args.peaks.now
    t.new.peaks c.args.out.now n.new.out n.result refl c.requires.start
    c.requires.long t.result (length c.args.turns.now) t.ensures.count c.requires.now t.ensures.peaked n.ensures)
