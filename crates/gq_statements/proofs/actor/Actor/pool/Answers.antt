use Rattle.std.proofs.Common.{◌≡◌, Some, sym, subst, ap, ◌∙◌, rules}
use Rattle.gq_model.specs.machine.World.{Pool}
use Rattle.gq_contents.specs.Contents.{seen}
use Rattle.gq_slots.specs.Slots.{Slots, holder, memory_of, world_seen}
use Rattle.gq_statements.specs.internal.Found.{IsPool, entries_in}
use Rattle.gq_statements.proofs.Named_pool_entries.{pool_others, pool_seen, pool_some}
use Rattle.gq_statements.proofs.actor.Actor.pool.Goals as goal

pub returns-in_err-size-clause-found : goal.returns-in_err-size-clause-found
returns-in_err-size-clause-found c f d h =
    let s : Slots = c.args.slots.now in
    subst (λ o. IsPool d (world_seen f s) c.args.place s o) (sym c.from_residual-in_err-size.ensures)
    (pool_others d c.args.self (world_seen f s) c.args.place s h c.in_ok-slot_id.slot_id c.content.result c.in_ok-slot_id.ensures.is (c.content.ensures.reads f)
    (sym c.in_err-size.was ∙ c.entries.ensures))

pub returns-clause-is : goal.returns-clause-is
returns-clause-is c =
    let s : Slots = c.args.slots.now in
    let st = memory_of s (holder s c.in_ok-slot_id.slot_id) in
    record {
      there = search rules;
      kind = search rules;
      holder_is = search rules;
      size = search rules;
      count = search rules;
      reads = λ f. c.content.ensures.reads f ∙ ap (λ t. Some (seen st t)) c.content.ensures.is;
      slot =
          subst (λ t. seen st t ≡ Pool c.in_ok-size.size (entries_in (seen st t))) c.content.ensures.is
          (pool_seen st c.content.result c.in_ok-size.size c.in_ok-size.count c.in_ok-size.ensures);
    }

pub returns-clause-found : goal.returns-clause-found
returns-clause-found c f d h =
    let s : Slots = c.args.slots.now in
    pool_some d c.args.self (world_seen f s) c.args.place s h c.in_ok-slot_id.slot_id c.content.result c.in_ok-size.size c.in_ok-size.count
    c.in_ok-slot_id.ensures.is
    (c.content.ensures.reads f) c.content.ensures.is c.in_ok-size.ensures
