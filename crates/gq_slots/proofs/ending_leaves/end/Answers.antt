use Rattle.std.proofs.Common.{refl, set, subst, sym}
use Rattle.gq_ram.specs.Ledgers.{IsBalanced}
use Rattle.gq_trade.specs.Leaf_ends.{HasNoSessions}
use Rattle.gq_trade.specs.Trades.{IsLive}
use Rattle.gq_slots.specs.Slots.{Slots}
use Rattle.gq_slots.proofs.Ended_leaf_world.{ended_kept, leaf_ends}
use Rattle.gq_slots.proofs.Slots_view_fields.{slots_of}
use Rattle.gq_slots.proofs.ending_leaves.end.Goals as goal

pub invariant_of-slots : goal.invariant_of-slots
invariant_of-slots c =
    let s : Slots = slots_of c.slots.inside in
    let e = c.slots.view_is in
    let x = c.args.leaf in
    ended_kept s c.end.new.self c.clear_all.new.own.items (set s.heaps x c.new.result) x c.new.result c.slots.invariant c.laws.ensures.trades
    c.laws.ensures.trading (subst IsBalanced c.accounts.ensures c.laws-2.ensures)
    (subst IsBalanced c.accounts-2.ensures c.laws-3.ensures)
    (subst (λ (y : Slots). IsLive y.trades x) (sym e) c.requires.leaf) (subst (λ (y : Slots). HasNoSessions y.trades.trading x) (sym e) c.requires.alone)
    c.end.ensures (record { keeps = c.new.ensures.keeps; peaks = c.new.ensures.peaks }) c.clear_all.ensures refl

pub returns : goal.returns
returns c =
    let s : Slots = slots_of c.slots.inside in
    let e = c.slots.view_is in
    let x = c.args.leaf in
    leaf_ends c.args.slots.now s c.end.new.self c.clear_all.new.own.items (set s.heaps x c.new.result) x c.new.result e c.slots.invariant
    c.laws.ensures.trades c.laws.ensures.trading (subst IsBalanced c.accounts.ensures c.laws-2.ensures)
    (subst (λ (y : Slots). IsLive y.trades x) (sym e) c.requires.leaf) (subst (λ (y : Slots). HasNoSessions y.trades.trading x) (sym e) c.requires.alone)
    c.end.ensures (record { keeps = c.new.ensures.keeps; peaks = c.new.ensures.peaks }) c.clear_all.ensures refl
