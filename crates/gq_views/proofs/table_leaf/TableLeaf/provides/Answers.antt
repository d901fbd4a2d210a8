use Rattle.std.proofs.Common.{◌≡◌, ◌<◌, ◌∙◌, length, Some, refl, ap, sym, arith}
use Rattle.std.specs.Prelude.{slice_get}
use Rattle.std.proofs.lemmas.Option.{slice_get_read}
use Rattle.gq_views.proofs.Table_leaf_rows.{provides_named, provides_nothing, within_service}
use Rattle.gq_views.proofs.table_leaf.TableLeaf.provides.Goals as goal

pub bounds-entries-number : goal.bounds-entries-number
bounds-entries-number c =
    let s = c.self.inside.table.now in
    let all : c.entries.result.now ≡ s.interfaces = c.entries.ensures.entries ∙ c.interfaces.ensures ∙ ap (λ z. z.interfaces) c.scenario.ensures in
    let less = within_service s c.self.inside.leaf c.self.invariant c.in-Some.number c.in-Some.ensures in
    omega (arith, less, ap length all)

pub returns-in-Some : goal.returns-in-Some
returns-in-Some c =
    let s = c.self.inside.table.now in
    let x = c.self.inside.leaf in
    let n = c.in-Some.number in
    let entries = c.entries.result.now in
    let item = c.index-entries-number.result in
    let all : entries ≡ s.interfaces = c.entries.ensures.entries ∙ c.interfaces.ensures ∙ ap (λ z. z.interfaces) c.scenario.ensures in
    let less = within_service s x c.self.invariant n c.in-Some.ensures in
    let within : n < length entries = omega (arith, less, ap length all) in
    let there : slice_get s.interfaces n ≡ Some item =
    ap (λ l. slice_get l n) (sym all) ∙ slice_get_read entries (length entries) n item refl within c.index-entries-number.is in
    provides_named s x c.self.invariant n item c.in-Some.ensures there ∙ ap (λ l. l.component.node.provides) c.self.view_is

pub returns-in-None : goal.returns-in-None
returns-in-None c =
    provides_nothing c.self.inside.table.now c.self.inside.leaf c.self.invariant c.in-None.ensures
    ∙ ap (λ l. l.component.node.provides) c.self.view_is
