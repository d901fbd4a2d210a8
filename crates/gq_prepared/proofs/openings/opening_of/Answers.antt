use Rattle.std.proofs.Common.{◌≡◌, ◌<◌, ◌∙◌, length, List, ℕ, Some, None, refl, ap, sym, arith}
use Rattle.std.specs.Prelude.{slice_get}
use Rattle.std.proofs.lemmas.Option.{slice_get_read}
use Rattle.gq_model.specs.machine.Scenario.{Interface}
use Rattle.gq_resolve.specs.NodeTables.{interface_number}
use Rattle.gq_prepared.proofs.Open_statement_servers.{opened_nowhere, opened_there, within_found}
use Rattle.gq_prepared.proofs.Interfaces_by_name.{few}
use Rattle.gq_prepared.proofs.openings.opening_of.Goals as goal

pub server_of-requires-clause-number : goal.server_of-requires-clause-number
server_of-requires-clause-number c =
    let s = c.args.table.now in
    let all : c.interfaces-interfaces.result.now ≡ s.interfaces = c.interfaces-interfaces.ensures ∙ ap (λ z. z.interfaces) c.scenario.ensures in
    let found : interface_number 0 c.args.service.now s.interfaces ≡ Some c.in-Some.number =
    ap (interface_number 0 c.args.service.now) (sym all) ∙ sym c.in-Some.ensures in
    within_found c.args.service.now s.interfaces c.in-Some.number found

pub bounds-entries-number : goal.bounds-entries-number
bounds-entries-number c =
    let less = within_found c.args.service.now c.interfaces-interfaces.result.now c.in-Some.number (sym c.in-Some.ensures) in
    omega (arith, less, ap length c.entries.ensures.entries)

pub offset_bounds-entries-number : goal.offset_bounds-entries-number
offset_bounds-entries-number c =
    let less = within_found c.args.service.now c.interfaces-interfaces.result.now c.in-Some.number (sym c.in-Some.ensures) in
    let most = few c.interfaces-interfaces.result.now c.entries.ensures.in_order in
    omega (arith, less, most)

pub returns-in-None : goal.returns-in-None
returns-in-None c =
    let s = c.args.table.now in
    let all : c.interfaces-interfaces.result.now ≡ s.interfaces = c.interfaces-interfaces.ensures ∙ ap (λ z. z.interfaces) c.scenario.ensures in
    let missing : interface_number 0 c.args.service.now s.interfaces ≡ None =
    ap (interface_number 0 c.args.service.now) (sym all) ∙ sym c.in-None.ensures in
    opened_nowhere c.served.ensures.interface s c.args.leaf c.args.service.now c.nowhere.result c.requires.ready missing c.nowhere.ensures

pub returns-in-Some : goal.returns-in-Some
returns-in-Some c =
    let s = c.args.table.now in
    let n = c.in-Some.number in
    let entries = c.entries.result.now in
    let item = c.index-entries-number.result in
    let all : c.interfaces-interfaces.result.now ≡ s.interfaces = c.interfaces-interfaces.ensures ∙ ap (λ z. z.interfaces) c.scenario.ensures in
    let found : interface_number 0 c.args.service.now s.interfaces ≡ Some n =
    ap (interface_number 0 c.args.service.now) (sym all) ∙ sym c.in-Some.ensures in
    let less = within_found c.args.service.now s.interfaces n found in
    let same : entries ≡ s.interfaces = c.entries.ensures.entries ∙ all in
    let within : n < length entries = omega (arith, less, ap length same) in
    let there : slice_get s.interfaces n ≡ Some item =
    ap (λ l. slice_get l n) (sym same) ∙ slice_get_read entries (length entries) n item refl within c.index-entries-number.is in
    let given : c.from.result ≡ item.1.need.caps =
    c.from.ensures ∙ (c.given_caps.ensures.caps ∙ ap (λ (e : List ℕ × Interface). e.1.need.caps) (sym c.index-entries-number.is)) in
    opened_there s c.args.leaf n c.from.result c.args.service.now c.server_of.result item found there given
    c.server_of.ensures
