use Rattle.std.proofs.Common.{◌≡◌, ◌∙◌, [], ◌∷◌, length, ap, refl, arith, Some, length-append}
use Rattle.std.specs.Prelude.{slice_get}
use Rattle.std.proofs.lemmas.Option.{slice_get_read, slice_get_within}
use Rattle.gq_prepared.proofs.Service_capability_gifts.{one_more}
use Rattle.gq_prepared.proofs.service_gifts.all_upgrades.Goals as goal

pub loop-interface-init : goal.loop-interface-init
loop-interface-init c = record { made = λ k e less. absurd (omega (arith, less)); count = ap length c.new-upgrades.ensures.items }

pub loop-interface-preserved : goal.loop-interface-preserved
loop-interface-preserved c =
    let l = c.loop-interface in
    let items = c.entries-interface-items.result.now in
    let item = c.loop-interface-item.result in
    let given = c.upgrades_of.result in
    let here = slice_get_read items (length items) l.interface-index item refl c.loop-interface-test.true c.loop-interface-item.is in
    let grown = c.in_ok-push.ensures.items in
    record {
      made = one_more items l.upgrades.items c.push.new.self.items given l.interface-index item grown l.invariant.count here c.upgrades_of.ensures
          l.invariant.made;
      count = omega (arith, ap length grown, length-append l.upgrades.items (given ∷ []), l.invariant.count);
    }

pub returns : goal.returns
returns c = λ i e there.
    let items = c.entries-interface-items.result.now in
    let at : slice_get items i ≡ Some e = ap (λ l. slice_get l i) c.entries-interface-items.ensures.entries ∙ there in
    c.loop-interface.invariant.made i e (omega (arith, c.loop-interface-test.false, slice_get_within items i e at)) at
