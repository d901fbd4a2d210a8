-- Past the next step.
use Rattle.std.proofs.Common.{arith, subst}
use Rattle.gq_traces.specs.Step_positions.{past}
use Rattle.gq_traces.specs.internal.Flat.{IsAhead, Stands}
use Rattle.gq_traces.proofs.Leaves_standing.{ahead_here, stand_here, stand_long, stands_then}
use Rattle.gq_traces.proofs.tracker.pass_by.Goals as goal

pub bounds-aheads-index : goal.bounds-aheads-index
bounds-aheads-index c =
    let other = stand_long c.args.programs.now c.args.aheads.now c.requires.aheads in
    let at = c.index.ensures in
    let less = c.requires.leaf in
    omega (arith, less, other, at)

pub bounds-programs-index : goal.bounds-programs-index
bounds-programs-index c =
    let at = c.index-2.ensures in
    let less = c.requires.leaf in
    omega (arith, less, at)

pub pass_step-requires : goal.pass_step-requires
pass_step-requires c =
    record {
      stands = subst (Stands c.index-programs-index.result.entries.items) c.index-aheads-index.is
          (stand_here c.args.programs.now c.args.aheads.now c.args.leaf c.requires.leaf c.index.result c.index-2.result c.index.ensures c.index-2.ensures
          c.index-programs-index.result c.index-aheads-index.result c.index-programs-index.is c.index-aheads-index.is c.requires.aheads);
    }

pub returns : goal.returns
returns c operands top ts t aheads at =
    let stands = ahead_here c.args.programs.now c.args.aheads.now c.args.leaf c.requires.leaf c.index.result c.index-2.result c.index.ensures
    c.index-2.ensures c.index-programs-index.result c.index-aheads-index.result c.index-programs-index.is c.index-aheads-index.is ts t aheads at in
    stands_then c.args.programs.now c.args.aheads.now c.args.leaf c.requires.leaf c.index.result c.index-2.result c.index.ensures c.index-2.ensures
    c.index-programs-index.result c.index-aheads-index.result c.index-programs-index.is c.index-aheads-index.is ts c.pass_step.new.self
    (past operands t.todo t.loops) aheads
    (c.pass_step.ensures operands top t (subst (λ (b : _). IsAhead c.index-programs-index.result.entries.items b t) c.index-aheads-index.is stands))
