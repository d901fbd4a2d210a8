-- The reply to a request to open.
use Rattle.std.proofs.Common.{Ok, ap, ◌∙◌, rules}
use Rattle.gq_statements.specs.Slot_statements.{done}
use Rattle.gq_machine.specs.Machine_world.{world_of}
use Rattle.gq_machine.proofs.Section_end_reply.{after, client, client_is, goes_to, had, kept_two, opened_to, server, server_is}
use Rattle.gq_machine.proofs.Slot_system_kept.{scene_beside}
use Rattle.gq_machine.proofs.section_replies.opened.Goals as goal

pub returns-in-Err-clause-step : goal.returns-in-Err-clause-step
returns-in-Err-clause-step c =
    let f = c.args.fixed.now in
    let m = c.args.state.now in
    let x = c.args.number in
    let current = c.args.current in
    let y = c.client_at-client.result in
    let e = c.client_at-client.ensures.client.end in
    opened_to f m x y current e c.reply_open.result c.addresses.result.now c.reply_open.new.slots c.addresses.ensures c.requires.section
    c.reply_open.ensures.opened ∙ ap (λ r. done r (world_of f.table (after f m x y current e (had f m x y current e)) c.reply_open.new.slots)) c.in-Err.is

pub returns-in-Ok-clause-step : goal.returns-in-Ok-clause-step
returns-in-Ok-clause-step c =
    let f = c.args.fixed.now in
    let m = c.args.state.now in
    let x = c.args.number in
    let current = c.args.current in
    let y = c.client_at-client.result in
    let e = c.client_at-client.ensures.client.end in
    goes_to f m x y current e (had f m x y current e) c.go_on.new.leaves.items c.reply_open.new.slots (Ok tt)
    (c.go_on.ensures (server f m x y current e) (client f m x y current e) (server_is f m x y current e) (client_is f m x y current e))
    (opened_to f m x y current e c.reply_open.result c.addresses.result.now c.reply_open.new.slots c.addresses.ensures c.requires.section
    c.reply_open.ensures.opened ∙ ap (λ r. done r (world_of f.table (after f m x y current e (had f m x y current e)) c.reply_open.new.slots)) c.in-Ok.is)

pub returns-in-Ok-clause-leaves : goal.returns-in-Ok-clause-leaves
returns-in-Ok-clause-leaves c =
    record {
      holds =
          let f = c.args.fixed.now in
          let m = c.args.state.now in
          let x = c.args.number in
          let current = c.args.current in
          let y = c.client_at-client.result in
          let e = c.client_at-client.ensures.client.end in
          kept_two f m x y current e (had f m x y current e) _
          (c.go_on.ensures (server f m x y current e) (client f m x y current e) (server_is f m x y current e) (client_is f m x y current e))
          c.lawful.ensures (scene_beside m.slots c.reply_open.new.slots c.reply_open.ensures.leaves.beside) (returns-in-Ok-clause-step c);
      leaves = search rules;
      slots = search rules;
    }
