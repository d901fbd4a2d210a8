use Rattle.std.proofs.Common.{◌≡◌, ◌∷◌, [], Err, Ok, arith, refl, List, ℕ}
use Rattle.std.proofs.lemmas.Grind.{common_steps}
use Rattle.std.proofs.lemmas.Result.{err_from_is_err_and}
use Rattle.toml.specs.Data.{Data}
use Rattle.toml.specs.View.{view, members_view}
use Rattle.toml.proofs.Views.{Entry}
use Rattle.gq_scenario.specs.Table_keys.{DocumentFault}
use Rattle.gq_scenario.specs.Document_tables.{interface_keys}
use Rattle.gq_scenario.specs.Component_trees.{version_number}
use Rattle.gq_faults.specs.Documents.{in_table, interfaces_faults, table_faults}
use Rattle.gq_faults.proofs.Reported_fault_prefixes.{reports_fewer, next_reported, none_reported}
use Rattle.gq_faults.proofs.document_walk.report_interfaces.Goals as goal

abbrev found : ℕ → Data → List DocumentFault
found version = in_table (λ entries. table_faults (interface_keys version entries) entries)

pub returns-in_err-report_entry : goal.returns-in_err-report_entry
returns-in_err-report_entry g c =
    let (can, finite, inv) = c.loop-name.invariant in
    let p = err_from_is_err_and c.from_residual.result c.from_residual.ensures.1 in
    let fault = c.in_err-report_entry.field-0.0 in
    let e : Entry = (c.in-Some.name.now, c.in-Some.value.now) in
    let iter : c.loop-name.name-iterator ≡ e ∷ c.next.new.self = grind (arith, common_steps) in
    let version = version_number c.args.version in
    rw (p.1, p.2) (inv _ _ (Err fault)
    (reports_fewer c.args.reporter.now.path.now (interfaces_faults version (members_view c.loop-name.name-iterator)) (found version (view e.1))
    (interfaces_faults version (members_view c.next.new.self)) _ _ _ _ fault (rw iter refl) c.in_err-report_entry.ensures))

pub loop-name-preserved : goal.loop-name-preserved
loop-name-preserved g c =
    let (can, finite, inv) = c.loop-name.invariant in
    let e : Entry = (c.in-Some.name.now, c.in-Some.value.now) in
    let iter : c.loop-name.name-iterator ≡ e ∷ c.next.new.self = grind (arith, common_steps) in
    let version = version_number c.args.version in (
      tt,
      tt,
      λ after n r h. inv after n r
          (next_reported c.args.reporter.now.path.now (interfaces_faults version (members_view c.loop-name.name-iterator)) (found version (view e.1))
          (interfaces_faults version (members_view c.next.new.self)) _ _ after _ _ n tt r (rw iter refl) c.in_ok-report_entry.ensures h),
    )

pub returns : goal.returns
returns g c =
    let (can, finite, inv) = c.loop-name.invariant in
    let iter : c.loop-name.name-iterator ≡ [] = grind (arith, common_steps) in
    inv _ _ (Ok tt)
    (none_reported c.args.reporter.now.path.now (interfaces_faults (version_number c.args.version) (members_view c.loop-name.name-iterator)) _ _ tt
    (rw iter refl))
