use Rattle.std.proofs.Common.{◌≡◌, ◌∙◌, IsTrue, List, ℕ, map, ap, subst}
use Rattle.gq_model.specs.machine.Scenario.{Interface, Interfaces}
use Rattle.gq_program.specs.Interfaces.{are_interfaces}
use Rattle.gq_prepared.specs.internal.Upgraded.{AreUpgrades}
use Rattle.gq_prepared.proofs.Service_capability_gifts.{services_are}
use Rattle.gq_prepared.proofs.service_gifts.Services.new.Goals as goal

pub returns : goal.returns
returns c =
    let s = c.args.table.now in
    let all : c.interfaces-interfaces.result.now ≡ s.interfaces = c.interfaces-interfaces.ensures ∙ ap (λ z. z.interfaces) c.scenario.ensures in
    let upgrades = c.in_ok-upgrades.upgrades.items in
    services_are s (record { objects = c.in_ok-objects.objects.items; upgrades = upgrades; buffers = c.new.result })
    (subst (λ (is : Interfaces). IsTrue (are_interfaces is)) all c.entries-entries.ensures.in_order)
    (c.in_ok-objects.ensures ∙ ap (λ is. map (λ (e : List ℕ × Interface). e.1.object) is) all)
    (subst (λ (is : Interfaces). AreUpgrades is upgrades) all c.in_ok-upgrades.ensures)
    (c.new.ensures ∙ (c.in_ok-buffers.ensures ∙ ap (λ is. map (λ (e : List ℕ × Interface). e.1.buffer) is) all))
