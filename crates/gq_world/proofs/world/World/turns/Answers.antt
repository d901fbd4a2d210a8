-- Turns of a leaf, and the writing of the lines that they give.
use Rattle.std.proofs.Common.{◌-◌, [], Result, Ok, Err, refl, ap, sym, subst, ◌∙◌}
use Rattle.std.specs.Io.KnownBytes.{Appends}
use Rattle.std.proofs.lemmas.Result.{err_from_is_err_and}
use Rattle.gq_model.specs.declared.fault.Wrong.{Wrong}
use Rattle.gq_machine.specs.Turn_bursts.{OutputsLines, lines_of, output_to}
use Rattle.gq_machine.specs.declared.event.Event.{Event}
use Rattle.gq_machine.specs.declared.event.Event.TheVariants as events
use Rattle.gq_machine.proofs.Resting_phases.{no_line_in}
use Rattle.gq_world.specs.World_between_turns.{World}
use Rattle.gq_output.proofs.Written_byte_facts.{appends_nothing}
use Rattle.gq_world.proofs.Turn_sequence_runs.{has_run, is_cut}
use Rattle.gq_world.proofs.World_turn_facts.{countable_running, kept_reported, never_wrong, no_lines, reported_seen}
use Rattle.gq_world.proofs.world.World.turns.Goals as goal

pub turns_reported-last-requires-clause-countable : goal.turns_reported-last-requires-clause-countable
turns_reported-last-requires-clause-countable g c =
    let m = c.self.inside.machine in
    countable_running c.accepted_laws.ensures.promises m.scenario m.world c.self.inside.budgets.items c.self.inside.stopped c.args.leaf c.args.count
    c.self.inside.signals c.ranges.count.fits c.self.invariant (ap (λ w. w.stopped) c.self.view_is ∙ c.requires.running)

pub unreachable-requires : goal.unreachable-requires
unreachable-requires g c =
    let m = c.self.inside.machine in
    let t = c.turns_reported-last in
    let x = c.args.leaf in
    let n = c.args.count - t.result.1 in
    let lines = t.new.lines.bytes in
    let wrong = c.in-Err.field-0 in
    let reported = subst (λ (r : Result Event Wrong). OutputsLines m.scenario x n m.world t.new.self.world r lines) c.in-Err.is t.ensures.reported in
    never_wrong c.accepted_laws.ensures.promises c.accepted_laws.ensures.kept m.scenario m.world x n
    (output_to x (Err wrong) lines t.new.self.world []) (x, wrong) (reported []) refl c.self.invariant.budgeted.stands

pub invariant_of-self : goal.invariant_of-self
invariant_of-self g c =
    let m = c.self.inside.machine in
    let t = c.turns_reported-last in
    let x = c.args.leaf in
    let n = c.args.count - t.result.1 in
    let lines = t.new.lines.bytes in
    kept_reported c.accepted_laws.ensures.promises c.accepted_laws.ensures.kept m.scenario t.new.self.scenario m.world t.new.self.world
    c.self.inside.budgets.items c.self.inside.stopped c.self.inside.signals x n c.in-Ok.event lines t.ensures.scenario
    (subst (λ (r : Result Event Wrong). OutputsLines m.scenario x n m.world t.new.self.world r lines) c.in-Ok.is t.ensures.reported) c.self.invariant

pub invariant_of-self-in-Idle : goal.invariant_of-self-in-Idle
invariant_of-self-in-Idle g c =
    let m = c.self.inside.machine in
    let t = c.turns_reported-last in
    let x = c.args.leaf in
    let n = c.args.count - t.result.1 in
    let lines = t.new.lines.bytes in
    kept_reported c.accepted_laws.ensures.promises c.accepted_laws.ensures.kept m.scenario t.new.self.scenario m.world t.new.self.world
    c.self.inside.budgets.items c.self.inside.stopped c.self.inside.signals x n c.in-Ok.event lines t.ensures.scenario
    (subst (λ (r : Result Event Wrong). OutputsLines m.scenario x n m.world t.new.self.world r lines) c.in-Ok.is t.ensures.reported) c.self.invariant

pub returns-in_err-write_lines-in-Line-clause-cut : goal.returns-in_err-write_lines-in-Line-clause-cut
returns-in_err-write_lines-in-Line-clause-cut g c =
    let m = c.self.inside.machine in
    let old = c.args.self.now in
    let t = c.turns_reported-last in
    let w = c.write_lines in
    let x = c.args.leaf in
    let n = c.args.count - t.result.1 in
    let lines = t.new.lines.bytes in
    let a = g.W.Write.contents c.args.out.now.writer in
    let b = g.W.Write.contents w.new.out.writer in
    let one = subst (λ (r : Result Event Wrong). OutputsLines m.scenario x n m.world t.new.self.world r lines) c.in-Ok.is t.ensures.reported in
    let reported = subst (λ (e : Event). OutputsLines m.scenario x n m.world t.new.self.world (Ok e) lines) c.in-Line.is one in
    let seen = reported_seen m.scenario m.world t.new.self.world w.new.self.world old x n events.Line lines (ap (λ z. z.scenario) c.self.view_is)
    (ap (λ z. z.world) c.self.view_is) w.ensures.world reported in
    let p = err_from_is_err_and c.from_residual.result c.from_residual.ensures.1 in
    rw (p.1) (is_cut old.scenario x c.args.count t.result.1 t.ensures.left old w.new.self lines seen a b c.in_err-write_lines-in-Line.ensures.writes.prefix)

pub returns-in-Idle : goal.returns-in-Idle
returns-in-Idle g c =
    let m = c.self.inside.machine in
    let old = c.args.self.now in
    let t = c.turns_reported-last in
    let x = c.args.leaf in
    let n = c.args.count - t.result.1 in
    let lines = t.new.lines.bytes in
    let a = g.W.Write.contents c.args.out.now.writer in
    let same = ap (λ w. w.scenario) c.self.view_is in
    let event = c.in-Ok.event in
    let new : World = record {
      scenario = t.new.self.scenario;
      world = t.new.self.world;
      failed = c.self.inside.failed;
      stopped = c.self.inside.stopped;
      signals = c.self.inside.signals;
    } in
    let reported = subst (λ (r : Result Event Wrong). OutputsLines m.scenario x n m.world t.new.self.world r lines) c.in-Ok.is t.ensures.reported in
    let seen = reported_seen m.scenario m.world t.new.self.world t.new.self.world old x n event lines same (ap (λ w. w.world) c.self.view_is) refl reported in
    let nothing = subst (Appends a a) (sym (no_lines event lines (no_line_in event c.in-Idle.is))) (appends_nothing a) in
    record {
      scenario = t.ensures.scenario ∙ same;
      left = t.ensures.left;
      less = t.ensures.less;
      ran = has_run old.scenario x c.args.count t.result.1 t.ensures.left old new (lines_of event lines) seen a a nothing
          (ap (λ w. w.stopped) c.self.view_is ∙ c.requires.running);
      counted = refl;
      cut = tt;
      raised = tt;
      signals = ap (λ w. w.signals) c.self.view_is;
    }
