use Rattle.std.proofs.Common.{◌≡◌, ◌∙◌, ℕ, List, take, refl, ap, sym}
use Rattle.std.specs.Prelude.{Ok}
use Rattle.std.specs.Io.KnownBytes.{Appends}
use Rattle.gq_model.specs.machine.World as model
use Rattle.gq_model.specs.machine.Doing as doing
use Rattle.gq_model.specs.machine.Doing.{Stepped}
use Rattle.gq_machine.specs.Events.{event_of}
use Rattle.gq_machine.specs.declared.event.Event.{Event}
use Rattle.gq_machine.specs.declared.event.Event.TheVariants as events
use Rattle.gq_world.proofs.World_turn_facts.{reported_in}
use Rattle.gq_world.proofs.world.World.turn.Goals as goal

-- a step that gave a line, whatever was written of it
stepped_as : {r : Stepped} {w v : model.World} {text : List ℕ} (e : Event) → e ≡ events.Line → v ≡ w → r ≡ Ok (w, event_of e text) → r ≡ Ok (v, doing.Line text)
stepped_as {r} {w} {v} {text} e line same n =
    n ∙ (ap (λ (f : Event). let q : Stepped = Ok (w, event_of f text) in q) line
    ∙ ap (λ (u : model.World). let q : Stepped = Ok (u, doing.Line text) in q) (sym same))

pub returns-in-Ok-clause-turned : goal.returns-in-Ok-clause-turned
returns-in-Ok-clause-turned g c =
    let old = c.args.self.now in
    let a = g.W.Write.contents c.args.out.now.writer in
    let b = g.W.Write.contents c.report.new.out.writer in
    let text = c.try_step.new.line.items in
    record {
      step = doing.Line text;
      next = stepped_as c.in-Some-Line.field-0 c.in-Some-Line.field-0-is c.report.ensures.world c.in-Some-Line.ensures.stepped;
      reported = refl;
      written = reported_in (Appends a b) c.try_step.new.self.scenario old c.args.leaf text c.as_slice.result.now c.try_step.ensures.scenario
          c.as_slice.ensures.value c.in-Ok.ensures.writes.written;
    }

pub returns-in-Err-clause-stops : goal.returns-in-Err-clause-stops
returns-in-Err-clause-stops g c e =
    let old = c.args.self.now in
    let a = g.W.Write.contents c.args.out.now.writer in
    let b = g.W.Write.contents c.report.new.out.writer in
    let text = c.try_step.new.line.items in
    let prefix = c.in-Err.ensures.writes.prefix in
    record {
      step = doing.Line text;
      next = stepped_as c.in-Some-Line.field-0 c.in-Some-Line.field-0-is c.report.ensures.world c.in-Some-Line.ensures.stepped;
      failed = c.in-Err.ensures.failed;
      stopped = c.in-Err.ensures.stopped;
      written = (
        prefix.0,
        reported_in (λ l. Appends a b (take prefix.0 l)) c.try_step.new.self.scenario old c.args.leaf text c.as_slice.result.now
            c.try_step.ensures.scenario c.as_slice.ensures.value prefix.1,
      );
    }
