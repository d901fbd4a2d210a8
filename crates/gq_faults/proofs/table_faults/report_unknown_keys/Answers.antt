use Rattle.std.proofs.Common.{◌≡◌, ◌∷◌, [], not, map, Err, Ok, arith, refl, List, ℕ}
use Rattle.std.proofs.lemmas.Grind.{common_steps}
use Rattle.std.proofs.lemmas.Result.{err_from_is_err_and}
use Rattle.toml.specs.View.{members_view}
use Rattle.toml.proofs.Views.{Entry}
use Rattle.gq_model.specs.machine.Lists.{any_of}
use Rattle.gq_model.specs.machine.Program.{text_eq}
use Rattle.gq_reader.specs.Key_rules.{rule_of}
use Rattle.gq_scenario.specs.Table_keys.{DocumentFault, UnknownKey}
use Rattle.gq_faults.specs.Found_lists.{when}
use Rattle.gq_faults.specs.Documents.{unknown_keys}
use Rattle.gq_faults.proofs.Reported_fault_prefixes.{reports_fewer, next_reported, none_reported}
use Rattle.gq_faults.proofs.table_faults.report_unknown_keys.Goals as goal

pub returns-in_err-report_unknown : goal.returns-in_err-report_unknown
returns-in_err-report_unknown g c =
    let (can, finite, inv) = c.loop-key.invariant in
    let p = err_from_is_err_and c.from_residual.result c.from_residual.ensures.1 in
    let fault = c.in_err-report_unknown.field-0.0 in
    let e : Entry = (c.in-Some.key.now, c.in-Some.field-0-1.now) in
    let iter : c.loop-key.key-iterator ≡ e ∷ c.next.new.self = grind (arith, common_steps) in
    let rules = map rule_of c.args.rules.now in
    let found : List ℕ → List DocumentFault = λ key. when (not (any_of (λ r. text_eq key r.key) rules)) (UnknownKey key) in
    rw (p.1, p.2) (inv _ _ (Err fault)
    (reports_fewer c.args.reporter.now.path.now (unknown_keys rules (members_view c.loop-key.key-iterator)) (found c.as_str.result.now)
    (unknown_keys rules (members_view c.next.new.self)) _ _ _ _ fault (rw (iter, c.as_str.ensures.value) refl) c.in_err-report_unknown.ensures))

pub loop-key-preserved : goal.loop-key-preserved
loop-key-preserved g c =
    let (can, finite, inv) = c.loop-key.invariant in
    let e : Entry = (c.in-Some.key.now, c.in-Some.field-0-1.now) in
    let iter : c.loop-key.key-iterator ≡ e ∷ c.next.new.self = grind (arith, common_steps) in
    let rules = map rule_of c.args.rules.now in
    let found : List ℕ → List DocumentFault = λ key. when (not (any_of (λ r. text_eq key r.key) rules)) (UnknownKey key) in (
      tt,
      tt,
      λ after n r h. inv after n r
          (next_reported c.args.reporter.now.path.now (unknown_keys rules (members_view c.loop-key.key-iterator)) (found c.as_str.result.now)
          (unknown_keys rules (members_view c.next.new.self)) _ _ after _ _ n tt r (rw (iter, c.as_str.ensures.value) refl) c.in_ok-report_unknown.ensures h),
    )

pub returns : goal.returns
returns g c =
    let (can, finite, inv) = c.loop-key.invariant in
    let iter : c.loop-key.key-iterator ≡ [] = grind (arith, common_steps) in
    inv _ _ (Ok tt)
    (none_reported c.args.reporter.now.path.now (unknown_keys (map rule_of c.args.rules.now) (members_view c.loop-key.key-iterator)) _ _ tt (rw iter refl))
