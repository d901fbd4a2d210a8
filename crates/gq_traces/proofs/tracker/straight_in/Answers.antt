-- The statements before a leaf.
use Rattle.std.proofs.Common.{arith}
use Rattle.gq_traces.proofs.Straight_line_statements.{all_found, item_at, straight_at, straight_of}
use Rattle.gq_traces.proofs.tracker.straight_in.Goals as goal

pub bounds-aheads-index : goal.bounds-aheads-index
bounds-aheads-index c =
    let long = c.requires.aheads in
    let at = c.index.ensures in
    let less = c.requires.leaf in
    omega (arith, less, long, at)

pub bounds-programs-index : goal.bounds-programs-index
bounds-programs-index c =
    let at = c.index-2.ensures in
    let less = c.requires.leaf in
    omega (arith, less, at)

pub returns-clause-straight : goal.returns-clause-straight
returns-clause-straight c =
    let x = c.args.leaf in
    let less = c.requires.leaf in
    let long = c.requires.aheads in
    let es = c.index-programs-index.result in
    let a = c.index-aheads-index.result in
    let is = item_at c.args.programs.now x c.index-2.result es less c.index-2.ensures c.index-programs-index.is in
    let at = item_at c.args.aheads.now x c.index.result a (omega (arith, less, long)) c.index.ensures c.index-aheads-index.is in
    straight_at c.args.programs.now c.args.aheads.now x es a is at c.straight.result.0 c.straight.result.1 c.straight.ensures.ahead

pub returns-clause-all : goal.returns-clause-all
returns-clause-all c n to h le =
    let x = c.args.leaf in
    let less = c.requires.leaf in
    let long = c.requires.aheads in
    let es = c.index-programs-index.result in
    let a = c.index-aheads-index.result in
    let is = item_at c.args.programs.now x c.index-2.result es less c.index-2.ensures c.index-programs-index.is in
    let at = item_at c.args.aheads.now x c.index.result a (omega (arith, less, long)) c.index.ensures c.index-aheads-index.is in
    all_found es.entries.items c.straight.result.0 c.args.most n a.next c.straight.result.1 to c.straight.ensures.few c.straight.ensures.ahead
    c.straight.ensures.all le (straight_of c.args.programs.now c.args.aheads.now x es a is at n to h)
