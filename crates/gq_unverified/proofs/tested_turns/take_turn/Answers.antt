use Rattle.std.proofs.Common.{◌≡◌, ◌∙◌, List, ℕ, Ok, ap, subst, sym}
use Rattle.std.specs.Prelude.{slice_get}
use Rattle.std.specs.Io.KnownBytes.{Appends}
use Rattle.gq_model.specs.machine.Doing as doing
use Rattle.gq_model.specs.machine.Run.{label_at}
use Rattle.gq_model.specs.machine.Scenario.{Scenario, components, system}
use Rattle.gq_machine.specs.Events.{event_of}
use Rattle.gq_output.specs.Writes.{IsPrefix}
use Rattle.gq_output.proofs.Written_byte_facts.{appends_nothing}
use Rattle.gq_world.specs.World_between_turns.{line_reported}
use Rattle.gq_world.proofs.World_turn_facts.{silent}
use Rattle.gq_unverified.proofs.Tested_step_counts.{countable, near_turn}
use Rattle.gq_unverified.proofs.Tested_turn_runs.{came, cut_line}
use Rattle.gq_unverified.proofs.tested_turns.take_turn.Goals as goal

pub step_tested-requires-clause-countable : goal.step_tested-requires-clause-countable
step_tested-requires-clause-countable g c = countable c.args.machine.now.world c.args.leaf c.requires.room

pub returns-in-Ok-write_line-clause-near : goal.returns-in-Ok-write_line-clause-near
returns-in-Ok-write_line-clause-near g c =
    let s = system c.args.machine.now.scenario in
    let w = c.args.machine.now.world in
    let x = c.args.leaf in
    let laws = c.turn_laws.ensures in
    near_turn s w x (laws.idle s w x) (laws.counted s w x) (laws.leaves s w x) c.step_tested.new.self.world
    (event_of c.in-Ok.event c.step_tested.new.line.items) c.in-Ok.ensures.stepped

pub returns-in-Err-write_line-clause-near : goal.returns-in-Err-write_line-clause-near
returns-in-Err-write_line-clause-near g c =
    let s = system c.args.machine.now.scenario in
    let w = c.args.machine.now.world in
    let x = c.args.leaf in
    let laws = c.turn_laws.ensures in
    near_turn s w x (laws.idle s w x) (laws.counted s w x) (laws.leaves s w x) c.step_tested.new.self.world
    (event_of c.in-Ok.event c.step_tested.new.line.items) c.in-Ok.ensures.stepped

pub returns-in_default-clause-near : goal.returns-in_default-clause-near
returns-in_default-clause-near g c =
    let s = system c.args.machine.now.scenario in
    let w = c.args.machine.now.world in
    let x = c.args.leaf in
    let laws = c.turn_laws.ensures in
    near_turn s w x (laws.idle s w x) (laws.counted s w x) (laws.leaves s w x) c.step_tested.new.self.world
    (event_of c.in-Ok.event c.step_tested.new.line.items) c.in-Ok.ensures.stepped

pub returns-in_default-clause-come : goal.returns-in_default-clause-come
returns-in_default-clause-come g c =
    let s = c.args.machine.now.scenario in
    let x = c.args.leaf in
    let text = c.step_tested.new.line.items in
    let a = g.W.Write.contents c.args.out.now.writer in
    let none = sym (silent c.in-Ok.event text (label_at (slice_get (components s) x)) c.in_default.not-Line) in
    came s x c.args.machine.now.world c.step_tested.new.self.world a a (event_of c.in-Ok.event text) c.in-Ok.ensures.stepped
    (subst (Appends a a) none (appends_nothing a))

-- what is said of the table's lines is said of the scenario's
reported_in : (P : List ℕ → Type 0) (t s : Scenario) (x : ℕ) (text line : List ℕ) → t ≡ s → text ≡ line → P (line_reported t x (doing.Line text))
    → P (line_reported s x (doing.Line line))
reported_in P t s x text line e f h = subst (λ (r : Scenario). P (line_reported r x (doing.Line line))) e
    (subst (λ (l : List ℕ). P (line_reported t x (doing.Line l))) f h)

pub returns-in-Err-write_line-clause-cut : goal.returns-in-Err-write_line-clause-cut
returns-in-Err-write_line-clause-cut g c =
    let s = c.args.machine.now.scenario in
    let x = c.args.leaf in
    let text = c.step_tested.new.line.items in
    let a = g.W.Write.contents c.args.out.now.writer in
    let b = g.W.Write.contents c.write_line.new.out.writer in
    cut_line s x c.args.machine.now.world c.step_tested.new.self.world a b (doing.Line text)
    (c.in-Ok.ensures.stepped ∙ ap (λ e. Ok (c.step_tested.new.self.world, event_of e text)) c.in-Line.is)
    (reported_in (IsPrefix a b) c.table.result.now s x c.as_slice.result.now text (c.table.ensures ∙ c.in-Ok.ensures.scenario) c.as_slice.ensures.value
    c.in-Err-write_line.ensures.prefix)

pub returns-in-Ok-write_line-clause-come : goal.returns-in-Ok-write_line-clause-come
returns-in-Ok-write_line-clause-come g c =
    let s = c.args.machine.now.scenario in
    let x = c.args.leaf in
    let text = c.step_tested.new.line.items in
    let a = g.W.Write.contents c.args.out.now.writer in
    let b = g.W.Write.contents c.write_line.new.out.writer in
    came s x c.args.machine.now.world c.step_tested.new.self.world a b (doing.Line text)
    (c.in-Ok.ensures.stepped ∙ ap (λ e. Ok (c.step_tested.new.self.world, event_of e text)) c.in-Line.is)
    (reported_in (Appends a b) c.table.result.now s x c.as_slice.result.now text (c.table.ensures ∙ c.in-Ok.ensures.scenario) c.as_slice.ensures.value
    c.in-Ok-write_line.ensures.written)
