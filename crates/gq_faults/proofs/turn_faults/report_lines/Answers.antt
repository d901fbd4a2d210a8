use Rattle.std.proofs.Common.{◌≡◌, ℕ, ◌+◌, ◌^◌, ◌≤◌, [], ◌∷◌, List, length, map, option_map, Err, Ok, ap, sym, arith, Bor}
use Rattle.std.proofs.lemmas.Result.{err_from_is_err_and}
use Rattle.gq_model.specs.declared.fault.TurnFault.{TurnFault}
use Rattle.gq_faults.specs.Turn_faults.{faults_left, turn_fault_line}
use Rattle.gq_faults.proofs.Reported_fault_prefixes.{reports_early, next_lines, no_lines, reported_as}
use Rattle.gq_faults.proofs.Turn_lines.{first_kept, first_found, text_left}
use Rattle.gq_faults.proofs.turn_faults.report_lines.Goals as goal

pub returns-in_err-report_wrong-clause-reported : goal.returns-in_err-report_wrong-clause-reported
returns-in_err-report_wrong-clause-reported g c =
    let p = err_from_is_err_and c.from_residual.result c.from_residual.ensures.1 in
    let why = c.in_err-report_wrong.field-0.0 in
    let cs = c.args.table.now in
    let old = c.loop-reading.reading in
    let new = c.read.new.self in
    let left = faults_left cs old.line old.total (option_map (λ (t : Bor (List ℕ)). t.now) old.left) in
    let rest = faults_left cs new.line new.total (option_map (λ (t : Bor (List ℕ)). t.now) new.left) in
    let a : TurnFault × ℕ = (c.in-Some-read.wrong.fault, c.in-Some-read.wrong.line) in
    let e : left ≡ a ∷ rest = text_left cs old.line old.total old.left c.in-Some.text (a ∷ rest) c.in-Some.is c.in-Some-read.ensures.faults in
    rw (p.1, p.2) (c.loop-reading.invariant.reported _ _ (Err why)
    (reports_early c.args.file.path.now (map turn_fault_line left) (turn_fault_line a ∷ []) (map turn_fault_line rest) _ _ _ _ why
    (ap (map turn_fault_line) e) c.in_err-report_wrong.ensures))

pub loop-reading-preserved-in-Some-read : goal.loop-reading-preserved-in-Some-read
loop-reading-preserved-in-Some-read g c =
    let cs = c.args.table.now in
    let old = c.loop-reading.reading in
    let new = c.read.new.self in
    let left = faults_left cs old.line old.total (option_map (λ (t : Bor (List ℕ)). t.now) old.left) in
    let rest = faults_left cs new.line new.total (option_map (λ (t : Bor (List ℕ)). t.now) new.left) in
    let a : TurnFault × ℕ = (c.in-Some-read.wrong.fault, c.in-Some-read.wrong.line) in
    let e : left ≡ a ∷ rest = text_left cs old.line old.total old.left c.in-Some.text (a ∷ rest) c.in-Some.is c.in-Some-read.ensures.faults in
    let short : old.line + (length c.in-Some.text.now + 1) ≤ 2 ^ 24 + 1 = rw c.in-Some.is at c.loop-reading.invariant.short in
    record {
      few = c.read.ensures.few;
      short = omega (arith, short, c.read.ensures.numbered, c.read.ensures.shorter);
      first = first_found c.loop-reading.first c.or-first.result _ left rest a e c.or-first.ensures c.loop-reading.invariant.first;
      reported = λ after n r h. c.loop-reading.invariant.reported after n r
          (next_lines c.args.file.path.now (map turn_fault_line left) (turn_fault_line a ∷ []) (map turn_fault_line rest) _ _ after _ _ n tt r
          (ap (map turn_fault_line) e) c.in_ok-report_wrong.ensures h);
    }

pub loop-reading-preserved : goal.loop-reading-preserved
loop-reading-preserved g c =
    let cs = c.args.table.now in
    let old = c.loop-reading.reading in
    let new = c.read.new.self in
    let left = faults_left cs old.line old.total (option_map (λ (t : Bor (List ℕ)). t.now) old.left) in
    let rest = faults_left cs new.line new.total (option_map (λ (t : Bor (List ℕ)). t.now) new.left) in
    let e : left ≡ rest = text_left cs old.line old.total old.left c.in-Some.text rest c.in-Some.is c.in_default-read.ensures.faults in
    let short : old.line + (length c.in-Some.text.now + 1) ≤ 2 ^ 24 + 1 = rw c.in-Some.is at c.loop-reading.invariant.short in
    record {
      few = c.read.ensures.few;
      short = omega (arith, short, c.read.ensures.numbered, c.read.ensures.shorter);
      first = first_kept c.loop-reading.first _ left rest e c.loop-reading.invariant.first;
      reported = λ after n r h. c.loop-reading.invariant.reported after n r
          (reported_as c.args.file.path.now (map turn_fault_line rest) (map turn_fault_line left) _ after _ n r (ap (map turn_fault_line) (sym e)) h);
    }

pub returns-clause-reported : goal.returns-clause-reported
returns-clause-reported g c =
    let cs = c.args.table.now in
    let old = c.loop-reading.reading in
    let left = faults_left cs old.line old.total (option_map (λ (t : Bor (List ℕ)). t.now) old.left) in
    let none : left ≡ [] = ap (λ o. faults_left cs old.line old.total (option_map (λ (t : Bor (List ℕ)). t.now) o)) c.in_default.is in
    c.loop-reading.invariant.reported _ _ (Ok c.loop-reading.first) (no_lines c.args.file.path.now (map turn_fault_line left) _ _ c.loop-reading.first
    (ap (map turn_fault_line) none))
