use Rattle.std.proofs.Common.{length, sym, ap, subst, ◌∙◌}
use Rattle.gq_ram.specs.Ledgers.{IsBalanced}
use Rattle.gq_trade.specs.Numbers.{IsTaken}
use Rattle.gq_trade.specs.Trading.{client_of, server_of, upgraded}
use Rattle.gq_trade.proofs.Sessions_kept.{between_at}
use Rattle.gq_slots.specs.Slots.{Slots, world_seen}
use Rattle.gq_slots.specs.Session_calls.{upgrading}
use Rattle.gq_slots.proofs.Slot_call_effects.{of_parts}
use Rattle.gq_slots.proofs.Requested_session_world.{kept_or_not, live_open, on_ok, upgraded_kept, upgraded_world}
use Rattle.gq_slots.proofs.Slots_view_fields.{slots_of}
use Rattle.gq_slots.proofs.sessions.upgrade.Goals as goal

pub invariant_of-slots : goal.invariant_of-slots
invariant_of-slots c =
    let s : Slots = slots_of c.slots.inside in
    let k = c.args.session in
    let l = c.laws.ensures in
    let t = s.trades.trading in
    let taken = subst (λ (y : Slots). IsTaken y.trades.trading.sessions k) (sym c.slots.view_is) c.requires.there in
    let between = between_at (length t.leaves) (length t.objects) t.sessions k l.trading.between taken in
    let settled = l.trades.sessions k taken in
    let co = live_open s.trades (client_of t k) l.trades l.trading (record { there = between.client; live = settled.client }) in
    let vo = live_open s.trades (server_of t k) l.trades l.trading (record { there = between.server; live = settled.server }) in
    let b = subst IsBalanced c.accounts.ensures c.laws-2.ensures in
    let d = subst IsBalanced c.accounts-2.ensures c.laws-3.ensures in
    kept_or_not c.upgrade-upgraded.result s c.upgrade-upgraded.new.self (upgraded t k c.args.donation) c.upgrade-upgraded.ensures.upgraded
    c.upgrade-upgraded.ensures.unchanged c.slots.invariant
    (λ ok. upgraded_kept s k c.args.donation taken c.slots.invariant co vo b (subst (λ y. IsBalanced y.trading.ledger) ok d))

pub returns-clause-world : goal.returns-clause-world
returns-clause-world c =
    let s : Slots = slots_of c.slots.inside in
    let k = c.args.session in
    let taken = subst (λ (y : Slots). IsTaken y.trades.trading.sessions k) (sym c.slots.view_is) c.requires.there in
    on_ok c.upgrade-upgraded.result (λ ok f.
    ap (λ y. world_seen f (of_parts y s.own s.heaps)) ok ∙ upgraded_world f s k c.args.donation taken
    ∙ ap (λ y. upgrading (world_seen f y) k c.args.donation) c.slots.view_is) c.upgrade-upgraded.ensures.upgraded
