use Rattle.std.proofs.Common.{◌≡◌, ◌∙◌, Some, None, ap, sym, arith, length}
use Rattle.gq_program.specs.Interfaces.{place_in}
use Rattle.gq_views.specs.internal.Table_leaves.{served_by}
use Rattle.gq_views.proofs.Table_leaf_rows.{few_interfaces, served_nowhere, served_there, within_place}
use Rattle.gq_views.proofs.table_leaf.TableLeaf.server.Goals as goal

pub overflow_cast-number : goal.overflow_cast-number
overflow_cast-number c =
    let all = c.interfaces-interfaces.result.now in
    let less = within_place c.as_bytes.result.now all c.in-Some.number (sym c.in-Some.ensures) in
    let few = few_interfaces all c.entries-entries.ensures.in_order in omega (arith, less, few)

pub server-requires-clause-interface : goal.server-requires-clause-interface
server-requires-clause-interface c =
    let all = c.interfaces-interfaces.result.now in
    let less = within_place c.as_bytes.result.now all c.in-Some.number (sym c.in-Some.ensures) in
    let same : all ≡ c.self.inside.table.now.interfaces = c.interfaces-interfaces.ensures ∙ ap (λ z. z.interfaces) c.scenario.ensures in
    omega (arith, less, ap length same)

pub returns-in-Some : goal.returns-in-Some
returns-in-Some c =
    let s = c.self.inside.table.now in
    let service = c.args.service.now in
    let same = c.interfaces-interfaces.ensures ∙ ap (λ z. z.interfaces) c.scenario.ensures in
    let place : place_in service s.interfaces ≡ Some c.in-Some.number =
    (λ i. place_in (sym c.as_bytes.ensures.bytes i) (sym same i)) ∙ sym c.in-Some.ensures in
    served_there s c.self.inside.leaf c.self.invariant c.in-Some.number service c.server.result place c.server.ensures
    ∙ ap (λ l. served_by l service) c.self.view_is

pub returns-in-None : goal.returns-in-None
returns-in-None c =
    let s = c.self.inside.table.now in
    let service = c.args.service.now in
    let same = c.interfaces-interfaces.ensures ∙ ap (λ z. z.interfaces) c.scenario.ensures in
    let place : place_in service s.interfaces ≡ None =
    (λ i. place_in (sym c.as_bytes.ensures.bytes i) (sym same i)) ∙ sym c.in-None.ensures in
    served_nowhere s c.self.inside.leaf c.self.invariant c.served.ensures.interface service place
    ∙ ap (λ l. served_by l service) c.self.view_is
