-- The reply at the end of a section.
use Rattle.std.proofs.Common.{inl, inr}
use Rattle.gq_machine.proofs.Section_end_reply.{main_wrong, reacting_wrong}
use Rattle.gq_machine.proofs.section_replies.reply.Goals as goal

pub returns-in-Main-clause-step : goal.returns-in-Main-clause-step
returns-in-Main-clause-step c =
    let f = c.args.fixed.now in
    let m = c.args.state.now in
    let x = c.args.number in
    let current = c.args.current in
    elim c.in-Main.is [
      | inl is ↦ main_wrong f m x c.client_at-client.result current c.client_at-client.ensures.client.end is
      | inr is ↦ reacting_wrong f m x c.client_at-client.result current c.client_at-client.ensures.client.end is.0 is.1
    ]

pub upgraded-requires-clause-section : goal.upgraded-requires-clause-section
upgraded-requires-clause-section c =
    (c.in-Upgrading.field-0, c.in-Upgrading.is)

pub called-requires-clause-section : goal.called-requires-clause-section
called-requires-clause-section c =
    (c.in-Calling.field-0, c.in-Calling.is)

pub closed-requires-clause-section : goal.closed-requires-clause-section
closed-requires-clause-section c =
    (c.in-Closing.field-0, c.in-Closing.is)
