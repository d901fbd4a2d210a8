-- The reply to a request for the next level.
use Rattle.std.proofs.Common.{Ok, refl, rules}
use Rattle.gq_model.specs.declared.section.Section.TheVariants as section
use Rattle.gq_machine.proofs.Section_end_reply.{client, client_is, goes_to, had, kept_two, replied_to, server, server_is}
use Rattle.gq_machine.proofs.Slot_system_kept.{scene_beside}
use Rattle.gq_machine.proofs.section_replies.upgraded.Goals as goal

pub returns-clause-step : goal.returns-clause-step
returns-clause-step c =
    let f = c.args.fixed.now in
    let m = c.args.state.now in
    let x = c.args.number in
    let current = c.args.current in
    let y = c.client_at-client.result in
    let e = c.client_at-client.ensures.client.end in
    goes_to f m x y current e (had f m x y current e) c.go_on.new.leaves.items c.reply.new.slots (Ok tt)
    (c.go_on.ensures (server f m x y current e) (client f m x y current e) (server_is f m x y current e) (client_is f m x y current e))
    (replied_to f m x y current e (section.Upgrading c.requires.section.0) (had f m x y current e) (λ operands. operands) c.reply.new.slots
    c.requires.section.1 refl (λ g j q at have goes. c.reply.ensures.upgraded g j q c.requires.section.0 at goes))

pub returns-clause-leaves : goal.returns-clause-leaves
returns-clause-leaves c =
    record {
      holds =
          let f = c.args.fixed.now in
          let m = c.args.state.now in
          let x = c.args.number in
          let current = c.args.current in
          let y = c.client_at-client.result in
          let e = c.client_at-client.ensures.client.end in
          kept_two f m x y current e (had f m x y current e) _
          (c.go_on.ensures (server f m x y current e) (client f m x y current e) (server_is f m x y current e) (client_is f m x y current e))
          c.lawful.ensures (scene_beside m.slots c.reply.new.slots c.reply.ensures.beside) (returns-clause-step c);
      leaves = search rules;
      slots = search rules;
    }
