-- All interfaces ask what is needed, or one does not.
use Rattle.std.proofs.Common.{◌∙◌, ap, sym}
use Rattle.gq_model.specs.machine.Amounts.{Ram}
use Rattle.gq_model.specs.machine.Lists.{all_of}
use Rattle.gq_sizes.specs.Size.{needed}
use Rattle.gq_sizes.specs.internal.Just_asked.{asks_just}
use Rattle.gq_sizes.proofs.Giving_right.{all_end, all_here, all_next}
use Rattle.gq_sizes.proofs.Just_asked_levels.{asked_just, just_asked, rising_of}
use Rattle.gq_sizes.proofs.gives.all_ask.Goals as goal

pub loop-service-preserved : goal.loop-service-preserved
loop-service-preserved c all components leaves =
    let items = c.entries-service-items.result.now in
    let e = c.loop-service-item.result in
    let asks = c.asks.ensures (needed (λ _ _. 0) Ram all e.0 e.1) (c.needs_ram-needs.ensures all components leaves) in
    all_next (asks_just all) items c.loop-service.service-index (all_of (asks_just all) items) e c.loop-service-test.true c.loop-service-item.is
    (sym asks ∙ c.if-not-asks.false) (c.loop-service.invariant all components leaves)

pub returns-then-not-asks-clause-only : goal.returns-then-not-asks-clause-only
returns-then-not-asks-clause-only c all components leaves h =
    let items = c.entries-service-items.result.now in
    let e = c.loop-service-item.result in
    let asks = c.asks.ensures (needed (λ _ _. 0) Ram all e.0 e.1) (c.needs_ram-needs.ensures all components leaves) in
    all_here (asks_just all) items c.loop-service.service-index (all_of (asks_just all) items) e c.loop-service-test.true c.loop-service-item.is
    (sym asks ∙ c.if-not-asks.true) (c.loop-service.invariant all components leaves)
    ∙ (ap (all_of (asks_just all)) c.entries-service-items.ensures.entries
    ∙ asked_just all c.args.interfaces.now (rising_of c.args.interfaces.now c.entries-service-items.ensures.in_order) h)

pub returns-clause-just : goal.returns-clause-just
returns-clause-just c all components leaves e =
    let items = c.entries-service-items.result.now in
    just_asked all c.args.interfaces.now
    (ap (all_of (asks_just all)) (sym c.entries-service-items.ensures.entries)
    ∙ sym (all_end (asks_just all) items c.loop-service.service-index (all_of (asks_just all) items) c.loop-service-test.false
    (c.loop-service.invariant all components leaves)))
