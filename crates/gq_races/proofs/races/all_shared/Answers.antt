-- Which leaves are shared, by the definition.
use Rattle.std.proofs.Common.{◌≡◌, ◌∙◌, List, Bool, IfOk, length, ap, sym, subst, arith}
use Rattle.std.proofs.lemmas.List.{length-map}
use Rattle.std.proofs.lemmas.Result.{IfOk-weaker}
use Rattle.gq_model.specs.machine.Scenario.{Scenario, components}
use Rattle.gq_races.specs.Races.{AreSharedOf}
use Rattle.gq_races.specs.internal.Openers.{opened_from}
use Rattle.gq_races.specs.internal.Owners.{AreShared, AreSharedBy}
use Rattle.gq_races.proofs.Shared_leaf_servers.{shared_test}
use Rattle.gq_races.proofs.races.all_shared.Goals as goal

shared_of : (s : Scenario) (shared : List Bool) → AreShared (components s) shared → AreSharedOf s shared
shared_of s shared h =
    let count : length shared ≡ length (components s) = h.0 ∙ length-map (components s) (opened_from (components s)) in
    record { count = count; each = λ x b less is. sym (shared_test s shared h x (omega (arith, less, count)) b b (sym is)) }

pub shared-shared-requires : goal.shared-shared-requires
shared-shared-requires c = omega (arith, ap length c.as_slice.ensures.value, c.in_ok-opened.ensures.few)

pub returns-clause-defined : goal.returns-clause-defined
returns-clause-defined c =
    IfOk-weaker c.shared-shared.result (λ r. AreShared (components c.args.table.now) r.items) (λ r. AreSharedOf c.args.table.now r.items)
    (λ r h. shared_of c.args.table.now r.items h)
    (subst (λ opened. IfOk c.shared-shared.result (λ r. AreSharedBy opened r.items)) (c.as_slice.ensures.value ∙ c.in_ok-opened.ensures.opened)
    c.shared-shared.ensures)
