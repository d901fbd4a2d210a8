use Rattle.std.proofs.Common.{◌∙◌}
use Rattle.gq_slots.specs.Slots.{world_seen}
use Rattle.gq_statements.proofs.Named_pool_entries.{peek_none, peek_past, peek_short, peek_some, test_false, test_true}
use Rattle.gq_statements.proofs.actor.Actor.peek.Goals as goal

pub returns-in_default : goal.returns-in_default
returns-in_default c = record {
  step = λ f d rest h we e. peek_none d c.args.place c.args.slots.now (world_seen f c.args.slots.now) (c.in_default.ensures.found f d h)
      c.args.offset c.args.index rest we e;
}

pub returns-then-index-count : goal.returns-then-index-count
returns-then-index-count c = record {
  step = λ f d rest h we e. peek_past d c.args.place c.args.slots.now c.in-Some.slot_id c.in-Some.size c.in-Some.count c.in-Some.ensures.is.count
      (world_seen f c.args.slots.now) (c.in-Some.ensures.found f d h) c.args.offset c.args.index rest we e c.if-index-count.true;
}

pub returns-then-offset-size : goal.returns-then-offset-size
returns-then-offset-size c = record {
  step = λ f d rest h we e. peek_short d c.args.place c.args.slots.now c.in-Some.slot_id c.in-Some.size c.in-Some.count c.in-Some.ensures.is.count
      (world_seen f c.args.slots.now) (c.in-Some.ensures.found f d h) c.args.offset c.args.index rest we e c.if-index-count.false
      (test_false c.args.offset c.in-Some.size c.if-offset-size.true);
}

pub returns : goal.returns
returns c = record {
  step = λ f d rest h we e. peek_some d c.args.place c.args.slots.now c.in-Some.slot_id c.in-Some.size c.in-Some.count c.in-Some.ensures.is.count
      (world_seen f c.args.slots.now) (c.in-Some.ensures.found f d h) c.args.offset c.args.index rest we e c.from.result c.if-index-count.false
      (test_true c.args.offset c.in-Some.size c.if-offset-size.false) (c.from.ensures ∙ c.peek.ensures);
}
