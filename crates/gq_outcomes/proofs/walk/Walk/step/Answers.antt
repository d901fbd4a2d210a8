use Rattle.std.proofs.Common.{◌≡◌, ◌∙◌, ◌++◌, List, ℕ, [], ap, sym, refl, inl, inr, get_or}
use Rattle.std.specs.Prelude.{Ok, slice_get, slice_set}
use Rattle.gq_model.specs.machine.Doing.{Line}
use Rattle.gq_model.specs.machine.Run.{line_of}
use Rattle.gq_model.specs.machine.Scenario.{components}
use Rattle.gq_machine.specs.Events.{event_of}
use Rattle.gq_outcomes.specs.Outcomes.{line_by}
use Rattle.gq_outcomes.specs.internal.Walks.{PutsLine, said_of}
use Rattle.gq_outcomes.proofs.Walk_facts.{no_line, none_put, on_ok, steps_are}
use Rattle.gq_outcomes.proofs.walk.Walk.step.Goals as goal

pub step-requires-clause-running : goal.step-requires-clause-running
step-requires-clause-running c = c.requires.walk.running

pub returns-in-Line-clause-steps : goal.returns-in-Line-clause-steps
returns-in-Line-clause-steps c =
    let old = c.args.self.now in
    let x = c.args.leaf in
    let mid = record old { world = c.step.new.self } in
    let text = c.as_slice.result.now in
    let event = ap (λ e. event_of e c.step.new.line.items) c.in-Line.is ∙ ap Line (sym c.as_slice.ensures.value) in
    on_ok c.put_line.result (λ (puts : PutsLine mid c.put_line.new.self x (Line text)).
    steps_are old.world.scenario old c.put_line.new.self x (Line text)
    (c.step.ensures.stepped ∙ (λ i. Ok ((sym puts.world i).world, event i)))
    (puts.said ∙ ap (λ s. slice_set (said_of old) x (get_or (said_of old) x [] ++ line_by (slice_get (components s) x) (Line text))) c.step.ensures.scenario))
    c.put_line.ensures.puts

pub returns-in-Idle : goal.returns-in-Idle
returns-in-Idle c =
    let old = c.args.self.now in
    let x = c.args.leaf in
    let mid = record old { world = c.step.new.self } in
    let text = c.step.new.line.items in
    let event = event_of c.step.result text in
    let none : (label : List ℕ) → line_of label event ≡ [] = λ label. elim c.in-Idle.is [
      | inl e ↦ ap (λ e. line_of label (event_of e text)) e
      | inr h ↦ elim h [
        | inl e ↦ ap (λ e. line_of label (event_of e text)) e
        | inr e ↦ ap (λ e. line_of label (event_of e text)) e
      ]
    ] in
    let o = slice_get (components old.world.scenario) x in
    record {
      walk = record {
        scenario = c.step.ensures.scenario;
        ready = c.requires.walk.ready;
        choices = c.requires.walk.choices;
        count = c.requires.walk.count;
        turns = c.requires.walk.turns;
        running = c.step.ensures.stopped;
      };
      past = refl;
      steps = steps_are old.world.scenario old mid x event c.step.ensures.stepped (none_put (said_of old) x (line_by o event) (no_line o event none));
    }
