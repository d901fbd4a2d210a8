use Rattle.std.proofs.Common.{◌≡◌, ◌+◌, ◌∷◌, ◌++◌, [], drop, Err, Ok, refl}
use Rattle.std.specs.Prelude.{string_bytes}
use Rattle.std.proofs.lemmas.List.{drop_all}
use Rattle.std.proofs.lemmas.Result.{err_from_is_err_and}
use Rattle.gq_faults.specs.Found_lines.{lines_found}
use Rattle.gq_faults.specs.declared.fault_value.FoundFault.{FoundFault}
use Rattle.gq_faults.proofs.Reported_fault_prefixes.{reports_early, next_lines, no_lines, lines_next}
use Rattle.gq_faults.proofs.fault_lines.Reporter.report_each.Goals as goal

pub returns-in_err-report : goal.returns-in_err-report
returns-in_err-report g c =
    let p = err_from_is_err_and c.from_residual.result c.from_residual.ensures.1 in
    let why = c.in_err-report.field-0.0 in
    let xs = c.args.found.now in
    let i = c.loop-fault.fault-index in
    let x = c.fault-item.result in
    let e : lines_found (drop i xs) ≡ (c.as_str.result.now ∷ []) ++ lines_found (drop (i + 1) xs) =
    rw (c.as_str.ensures.value) (lines_next (λ (f : FoundFault). string_bytes f.line) xs i x c.loop-fault-test.true c.fault-item.is) in
    rw (p.1, p.2) (c.loop-fault.invariant _ _ (Err why)
    (reports_early c.args.self.now.path.now (lines_found (drop i xs)) (c.as_str.result.now ∷ []) (lines_found (drop (i + 1) xs)) _ _ _ _ why e
    c.in_err-report.ensures))

pub loop-fault-preserved : goal.loop-fault-preserved
loop-fault-preserved g c = λ after n r h.
    let path = c.args.self.now.path.now in
    let xs = c.args.found.now in
    let i = c.loop-fault.fault-index in
    let x = c.fault-item.result in
    let e : lines_found (drop i xs) ≡ (c.as_str.result.now ∷ []) ++ lines_found (drop (i + 1) xs) =
    rw (c.as_str.ensures.value) (lines_next (λ (f : FoundFault). string_bytes f.line) xs i x c.loop-fault-test.true c.fault-item.is) in
    c.loop-fault.invariant after n r
    (next_lines path (lines_found (drop i xs)) (c.as_str.result.now ∷ []) (lines_found (drop (i + 1) xs)) _ _ after _ _ n tt r e c.in_ok-report.ensures h)

pub returns : goal.returns
returns g c =
    let path = c.args.self.now.path.now in
    let xs = c.args.found.now in
    let i = c.loop-fault.fault-index in
    let e : lines_found (drop i xs) ≡ [] = rw (drop_all i xs c.loop-fault-test.false) refl in
    c.loop-fault.invariant _ _ (Ok tt) (no_lines path (lines_found (drop i xs)) _ _ tt e)
