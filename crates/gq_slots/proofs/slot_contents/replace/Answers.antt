use Rattle.std.proofs.Common.{[], ap, subst, sym, ◌∙◌}
use Rattle.gq_contents.specs.declared.content.Content.TheVariants.{Empty}
use Rattle.gq_trade.specs.Trades.{with_trading}
use Rattle.gq_slots.specs.Slots.{Slots, IsSlotId, content_at}
use Rattle.gq_slots.specs.internal.Put.{put_own, put_trading}
use Rattle.gq_slots.proofs.Emptied_slot_refills.{cleared, emptied, put_again}
use Rattle.gq_slots.proofs.Slot_call_effects.{of_parts}
use Rattle.gq_slots.proofs.Slot_content_positions.{slot_id_put}
use Rattle.gq_slots.proofs.slot_contents.replace.Goals as goal

pub fill-requires-clause-there : goal.fill-requires-clause-there
fill-requires-clause-there c =
    let s : Slots = of_parts c.args.trades.now c.args.own.now.items [] in
    let p = c.args.slot_id in
    subst (λ y. IsSlotId y p) (sym (emptied c.args.trades.now c.clear.new.trades c.args.own.now.items c.clear.new.own.items p c.clear.ensures.trades
    c.clear.ensures.own)) (slot_id_put s p Empty p c.requires.there)

pub fill-requires-clause-empty : goal.fill-requires-clause-empty
fill-requires-clause-empty c =
    let s : Slots = of_parts c.args.trades.now c.args.own.now.items [] in
    let p = c.args.slot_id in
    ap (λ y. content_at y p) (emptied c.args.trades.now c.clear.new.trades c.args.own.now.items c.clear.new.own.items p c.clear.ensures.trades
    c.clear.ensures.own) ∙ cleared s p c.requires.slot c.requires.there

pub returns-clause-trades : goal.returns-clause-trades
returns-clause-trades c =
    let s : Slots = of_parts c.args.trades.now c.args.own.now.items [] in
    let p = c.args.slot_id in
    c.fill.ensures.trades ∙ ap (λ y. with_trading y (put_trading y.trading p c.args.contents)) c.clear.ensures.trades
    ∙ ap (λ (y : Slots). y.trades) (put_again s p c.args.contents c.requires.slot c.requires.there)

pub returns-clause-own : goal.returns-clause-own
returns-clause-own c =
    let s : Slots = of_parts c.args.trades.now c.args.own.now.items [] in
    let p = c.args.slot_id in
    c.fill.ensures.own ∙ ap (λ y. put_own y p c.args.contents) c.clear.ensures.own
    ∙ ap (λ (y : Slots). y.own) (put_again s p c.args.contents c.requires.slot c.requires.there)
