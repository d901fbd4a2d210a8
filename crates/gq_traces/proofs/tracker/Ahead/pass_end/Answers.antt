-- Past the end of a list of statements.
use Rattle.std.proofs.Common.{refl}
use Rattle.gq_traces.proofs.Position_after_step.{pass_none}
use Rattle.gq_traces.proofs.tracker.Ahead.pass_end.Goals as goal

pub returns-in-None : goal.returns-in-None
returns-in-None c operands t h =
    pass_none c.args.numbered.now.entries.items c.args.self.now c.args.self.now operands t h c.requires.next c.in-None.ensures.none refl
