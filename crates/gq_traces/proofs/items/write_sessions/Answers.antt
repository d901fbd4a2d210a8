-- Sessions one after the other.
use Rattle.std.proofs.Common.{◌<◌, ◌≤◌, length, arith}
use Rattle.gq_traces.proofs.Printed_sessions.{sessions_end, sessions_first, sessions_next}
use Rattle.gq_traces.proofs.items.write_sessions.Goals as goal

pub loop-session-init : goal.loop-session-init
loop-session-init g c = sessions_first g.W.Write.contents c.args.machine.now c.args.leaf c.args.out.now c.args.going

pub loop-session-preserved : goal.loop-session-preserved
loop-session-preserved g c =
    let m = c.args.machine.now in
    let l = c.loop-session in
    let w = c.write_session-going in
    let less : l.session < length m.world.sessions = omega (arith, c.loop-session-test.true, c.session_count-session-end.ensures.count) in
    sessions_next g.W.Write.contents m c.args.leaf c.args.out.now l.out w.new.out c.args.going l.going w.result l.session less l.invariant w.ensures

pub returns : goal.returns
returns g c =
    let m = c.args.machine.now in
    let l = c.loop-session in
    let least : length m.world.sessions ≤ l.session = omega (arith, c.loop-session-test.false, c.session_count-session-end.ensures.count) in
    sessions_end g.W.Write.contents m c.args.leaf c.args.out.now l.out c.args.going l.going l.session least l.invariant
