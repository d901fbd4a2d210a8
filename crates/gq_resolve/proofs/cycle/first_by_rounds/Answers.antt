use Rattle.std.proofs.Common.{length, map, sym, ◌∙◌}
use Rattle.std.proofs.lemmas.List.{length-map}
use Rattle.gq_resolve.proofs.Use_chain_flags.{first_more}
use Rattle.gq_resolve.proofs.cycle.first_by_rounds.Goals as goal

pub loop-leaf-preserved : goal.loop-leaf-preserved
loop-leaf-preserved c =
    c.loop-leaf.invariant
    ∙ first_more (map (λ l. l.items) c.args.used.now) (length c.args.used.now) c.loop-leaf.leaf
    (length-map c.args.used.now (λ l. l.items)) c.loop-leaf-test.true (sym c.in_ok-reaches_itself.ensures ∙ c.if-branch.false)
