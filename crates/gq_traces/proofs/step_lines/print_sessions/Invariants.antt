use Rattle.std.proofs.Common.{◌≡◌, ◌-◌, ◌<◌, ◌≤◌, ℕ, None, get_or, length}
use Rattle.gq_model.specs.machine.Scenario.{system}
use Rattle.gq_model.specs.machine.World as model
use Rattle.gq_traces.specs.Trace.{session_changes}
use Rattle.gq_traces.specs.internal.Noted.{IsReported, SessionsNoted}
use Rattle.gq_traces.specs.internal.Printed_steps.{head_text}
use Rattle.gq_traces.proofs.Printed_changes.{Sessions_so_far}
use Rattle.gq_traces.proofs.step_lines.print_sessions.Given as goal

-- the sessions so far were reported, and are noted anew
abbrev pub invariant-loop-session : goal.invariant-loop-session
invariant-loop-session g l = record {
  reported : (old : model.World) → SessionsNoted l.fn.world.scenario old l.fn.notes
      → Sessions_so_far g.W.Write.contents l.fn.world.scenario old l.fn.world.world (head_text l.fn.world.scenario l.fn.head) l.session
      (l.count - l.session) l.fn.out l.out l.fn.progress l.progress
      (session_changes l.fn.world.scenario.version (system l.fn.world.scenario) old l.fn.world.world 0 l.count);
  noted : (k : ℕ) → k < l.session → IsReported l.fn.world.scenario l.fn.world.world k (get_or l.notes.sessions.items k None);
  others : (k : ℕ) → l.session ≤ k → get_or l.notes.sessions.items k None ≡ get_or l.fn.notes.sessions.items k None;
  room : length l.notes.sessions.items ≡ 16449;
  accounts : l.notes.accounts ≡ l.fn.notes.accounts;
}
