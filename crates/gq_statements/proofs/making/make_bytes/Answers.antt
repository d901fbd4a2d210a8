use Rattle.std.proofs.Common.{replicate, sym, subst, arith}
use Rattle.gq_model.specs.declared.program.Form.TheVariants as form
use Rattle.gq_model.specs.machine.Memory.{room}
use Rattle.gq_model.specs.machine.World as world
use Rattle.gq_slots.specs.Slots.{Slots}
use Rattle.gq_statements.specs.internal.Made_memory.{IsMade}
use Rattle.gq_statements.proofs.Refused_means_unpaid.{refused, refused_block}
use Rattle.gq_statements.proofs.making.make_bytes.Goals as goal

pub returns-in-Block : goal.returns-in-Block
returns-in-Block c =
    let s : Slots = c.args.slots.now in
    let p = c.args.slot_id in
    let n = c.args.size in
    let made : IsMade c.make_block.result s c.make_block.new.self p (world.Bytes form.Block n (replicate (room form.Block n) 0)) = record {
      settles = c.make_block.ensures.made;
      unchanged = c.make_block.ensures.unchanged;
      unpaid =
          (refused_block s p n c.make_block.result c.lawful.ensures c.requires.payable.there c.requires.payable.slot c.requires.empty c.requires.payable.below
          (λ h is e. (c.make_block.ensures.refused h is).exceeded.0 e) (λ h is e. let why = (c.make_block.ensures.refused h is).none.0 e in (why.2, why.0)));
    } in
    record { made = subst (λ y. IsMade c.make_block.result s c.make_block.new.self p (world.Bytes y n (replicate (room y n) 0))) (sym c.in-Block.is) made }

pub returns-in-Slice : goal.returns-in-Slice
returns-in-Slice c =
    let s : Slots = c.args.slots.now in
    let p = c.args.slot_id in
    let n = c.args.size in
    let made : IsMade c.make_slice.result s c.make_slice.new.self p (world.Bytes form.Slice n (replicate (room form.Slice n) 0)) = record {
      settles = c.make_slice.ensures.made;
      unchanged = c.make_slice.ensures.unchanged;
      unpaid =
          (refused s p (world.Bytes form.Slice n (replicate n 0)) c.make_slice.result c.lawful.ensures c.requires.payable.there c.requires.payable.slot
          c.requires.empty
          c.requires.payable.below (λ e. c.make_slice.ensures.refused.exceeded.0 e) (λ e. ((c.make_slice.ensures.refused.none.0 e).1, omega arith)));
    } in
    record { made = subst (λ y. IsMade c.make_slice.result s c.make_slice.new.self p (world.Bytes y n (replicate (room y n) 0))) (sym c.in-Slice.is) made }

pub returns-in-Space : goal.returns-in-Space
returns-in-Space c =
    let s : Slots = c.args.slots.now in
    let p = c.args.slot_id in
    let n = c.args.size in
    let made : IsMade c.make_space.result s c.make_space.new.self p (world.Bytes form.Space n (replicate (room form.Space n) 0)) = record {
      settles = c.make_space.ensures.made;
      unchanged = c.make_space.ensures.unchanged;
      unpaid =
          (refused s p (world.Bytes form.Space n (replicate (room form.Space n) 0)) c.make_space.result c.lawful.ensures c.requires.payable.there
          c.requires.payable.slot
          c.requires.empty c.requires.payable.below (λ e. c.make_space.ensures.refused.exceeded.0 e)
          (λ e. ((c.make_space.ensures.refused.none.0 e).1, omega arith)));
    } in
    record { made = subst (λ y. IsMade c.make_space.result s c.make_space.new.self p (world.Bytes y n (replicate (room y n) 0))) (sym c.in-Space.is) made }
