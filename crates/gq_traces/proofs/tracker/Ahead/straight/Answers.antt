-- One statement more.
use Rattle.std.proofs.Common.{◌∙◌, sym, arith}
use Rattle.gq_traces.proofs.Straight_line_statements.{plain_more}
use Rattle.gq_traces.proofs.tracker.Ahead.straight.Goals as goal

pub loop-count-preserved : goal.loop-count-preserved
loop-count-preserved c =
    let l = c.loop-count in
    let less = c.loop-count-test.true in
    record {
      few = omega (arith, less);
      ahead = plain_more c.args.numbered.now.entries.items l.count c.args.self.now.next l.next c.in-Some.after l.invariant.ahead
          (sym c.after_plain.ensures ∙ c.in-Some.is);
    }
