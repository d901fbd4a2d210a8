-- The place of the next step.
use Rattle.std.proofs.Common.{arith}
use Rattle.gq_traces.proofs.Leaves_standing.{ahead_here, program_here, stand_here, stand_long}
use Rattle.gq_traces.proofs.tracker.due_in.Goals as goal

pub bounds-aheads-index : goal.bounds-aheads-index
bounds-aheads-index c =
    let other = stand_long c.args.programs.now c.args.aheads.now c.requires.aheads in
    let at = c.index.ensures in
    let less = c.requires.leaf in
    omega (arith, less, other, at)

pub bounds-programs-index : goal.bounds-programs-index
bounds-programs-index c =
    let at = c.index-2.ensures in
    let less = c.requires.leaf in
    omega (arith, less, at)

pub place-requires : goal.place-requires
place-requires c =
    stand_here c.args.programs.now c.args.aheads.now c.args.leaf c.requires.leaf c.index.result c.index-2.result c.index.ensures c.index-2.ensures
    c.index-programs-index.result c.index-aheads-index.result c.index-programs-index.is c.index-aheads-index.is c.requires.aheads

pub returns : goal.returns
returns c cs d ts t programs there aheads at =
    c.place.ensures d t
    (program_here c.args.programs.now c.args.aheads.now c.args.leaf c.requires.leaf c.index.result c.index-2.result c.index.ensures c.index-2.ensures
    c.index-programs-index.result c.index-aheads-index.result c.index-programs-index.is c.index-aheads-index.is cs d programs there)
    (ahead_here c.args.programs.now c.args.aheads.now c.args.leaf c.requires.leaf c.index.result c.index-2.result c.index.ensures c.index-2.ensures
    c.index-programs-index.result c.index-aheads-index.result c.index-programs-index.is c.index-aheads-index.is ts t aheads at)
