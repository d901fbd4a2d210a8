use Rattle.std.proofs.Common.{get_or, length, sym, subst, ◌∙◌, ◌<◌, arith}
use Rattle.gq_trade.specs.declared.session.SlotId.TheVariants.{InLeaf}
use Rattle.gq_trade.specs.Balances.{node_at}
use Rattle.benchmark.proofs.access_timings.in_slots.Goals as goal

pub both-requires-clause-live : goal.both-requires-clause-live
both-requires-clause-live c =
    let r = c.in_ok-make_space.ensures.made.rest in
    record {
      there = subst (λ xs. 1 < length xs) (sym r.accounts.leaves) c.requires.calm.client.there;
      live = (λ k. (node_at (r.nodes k) (get_or (r.accounts.leaves k) 1 0)).stage) ∙ c.requires.calm.client.live;
    }

pub both-requires-clause-there : goal.both-requires-clause-there
both-requires-clause-there c =
    c.in_ok-make_space.ensures.made.rest.slot_ids (InLeaf 1 0) (omega (arith, c.laws.ensures.leaves, c.requires.calm.client.there), omega arith)
