use Rattle.std.proofs.Common.{arith, sym, ◌∙◌}
use Rattle.gq_statements.proofs.Exited_leaf_world.{free_end, linked_end, no_sessions}
use Rattle.gq_statements.proofs.leaf_end.exit.Goals as goal

pub returns-then-not-has_no_link-clause-ended : goal.returns-then-not-has_no_link-clause-ended
returns-then-not-has_no_link-clause-ended c f d is h =
    linked_end f d c.args.slots.now c.args.leaf is h c.laws.ensures.reads (omega (arith, c.requires.live.there, c.laws.ensures.leaves))
    (sym c.has_no_link.ensures ∙ c.if-not-has_no_link.true)

pub end-requires-clause-alone : goal.end-requires-clause-alone
end-requires-clause-alone c =
    no_sessions c.args.slots.now c.args.leaf (sym c.has_no_link.ensures ∙ c.if-not-has_no_link.false) c.requires.alone

pub returns-clause-ended : goal.returns-clause-ended
returns-clause-ended c f d is h =
    free_end f d c.args.slots.now c.args.leaf is h c.laws.ensures.reads (omega (arith, c.requires.live.there, c.laws.ensures.leaves)) c.end.new.slots
    (sym c.has_no_link.ensures ∙ c.if-not-has_no_link.false) c.end.ensures
