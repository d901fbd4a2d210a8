-- The reply to a request to close.
use Rattle.std.proofs.Common.{ℕ, Ok, ap, ◌∙◌, rules}
use Rattle.gq_statements.specs.Slot_statements.{done}
use Rattle.gq_machine.specs.Machine_world.{world_of}
use Rattle.gq_slots.specs.Slots.{Slots}
use Rattle.gq_statements.specs.Serving.{Closes}
use Rattle.gq_machine.specs.internal.Scenes.{SameScene}
use Rattle.gq_machine.proofs.Section_end_reply.{after, client, client_is, closed_to, goes_to, had, kept_two, server, server_is}
use Rattle.gq_machine.proofs.Slot_system_kept.{scene_beside, scene_ended, scene_then}
use Rattle.gq_machine.proofs.section_replies.closed.Goals as goal

scene_closed : (t u : Slots) (k : ℕ) → Closes t u k → SameScene t u
scene_closed t u k b = scene_then t b.between u (scene_ended t b.between k b.ends) (scene_beside b.between u b.puts.rest)

pub returns-in-Err-clause-step : goal.returns-in-Err-clause-step
returns-in-Err-clause-step c =
    let f = c.args.fixed.now in
    let m = c.args.state.now in
    let x = c.args.number in
    let current = c.args.current in
    let y = c.client_at-client.result in
    let e = c.client_at-client.ensures.client.end in
    closed_to f m x y current e c.requires.section.0 c.reply_close.result c.reply_close.new.slots c.requires.section.1
    c.reply_close.ensures.closed ∙ ap (λ r. done r (world_of f.table (after f m x y current e (had f m x y current e)) c.reply_close.new.slots)) c.in-Err.is

pub returns-in-Ok-clause-step : goal.returns-in-Ok-clause-step
returns-in-Ok-clause-step c =
    let f = c.args.fixed.now in
    let m = c.args.state.now in
    let x = c.args.number in
    let current = c.args.current in
    let y = c.client_at-client.result in
    let e = c.client_at-client.ensures.client.end in
    goes_to f m x y current e (had f m x y current e) c.go_on.new.leaves.items c.reply_close.new.slots (Ok tt)
    (c.go_on.ensures (server f m x y current e) (client f m x y current e) (server_is f m x y current e) (client_is f m x y current e))
    (closed_to f m x y current e c.requires.section.0 c.reply_close.result c.reply_close.new.slots c.requires.section.1
    c.reply_close.ensures.closed ∙ ap (λ r. done r (world_of f.table (after f m x y current e (had f m x y current e)) c.reply_close.new.slots)) c.in-Ok.is)

pub returns-in-Ok-clause-leaves : goal.returns-in-Ok-clause-leaves
returns-in-Ok-clause-leaves c =
    record {
      holds =
          let f = c.args.fixed.now in
          let m = c.args.state.now in
          let x = c.args.number in
          let current = c.args.current in
          let y = c.client_at-client.result in
          let e = c.client_at-client.ensures.client.end in
          kept_two f m x y current e (had f m x y current e) _
          (c.go_on.ensures (server f m x y current e) (client f m x y current e) (server_is f m x y current e) (client_is f m x y current e))
          c.lawful.ensures (scene_closed m.slots c.reply_close.new.slots current.session c.in-Ok.ensures.ends) (returns-in-Ok-clause-step c);
      leaves = search rules;
      slots = search rules;
    }
