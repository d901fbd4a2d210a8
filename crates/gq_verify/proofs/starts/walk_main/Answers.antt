use Rattle.std.proofs.Common.{◌∙◌, ap}
use Rattle.gq_caps.specs.Known.{all_known}
use Rattle.gq_verify.proofs.Main_section_rules.{start_is, main_own, main_stuck, main_most, main_never, main_answers, main_breaks}
use Rattle.gq_verify.proofs.starts.walk_main.Goals as goal

pub returns-in-Ok-clause-own : goal.returns-in-Ok-clause-own
returns-in-Ok-clause-own c =
    let v = c.args.subject.now in
    let start = start_is v c.new.result c.new-2.result c.new-state.result c.new.ensures c.new-2.ensures c.new-state.ensures in
    c.own-own.ensures ∙ main_own v c.new-state.result c.walk.new.state start c.in-Ok.ensures.flowed

pub returns-in-Ok-clause-peaks : goal.returns-in-Ok-clause-peaks
returns-in-Ok-clause-peaks c =
    let v = c.args.subject.now in
    let start = start_is v c.new.result c.new-2.result c.new-state.result c.new.ensures c.new-2.ensures c.new-state.ensures in
    λ s e. main_most v c.new-state.result c.walk.new.peaks c.none-peaks.result start c.none-peaks.ensures.none c.in-Ok.ensures.peaks

pub returns-in-Ok-clause-answer : goal.returns-in-Ok-clause-answer
returns-in-Ok-clause-answer c =
    let v = c.args.subject.now in
    let start = start_is v c.new.result c.new-2.result c.new-state.result c.new.ensures c.new-2.ensures c.new-state.ensures in
    main_answers v c.new-state.result c.walk.new.state c.at-answer.result _ _ start c.in-Ok.ensures.flowed c.in-Ok.ensures.count
    (c.at-answer.ensures c.walk.new.state) c.main_section_end.ensures

pub returns-in-Err-clause-own : goal.returns-in-Err-clause-own
returns-in-Err-clause-own c =
    let v = c.args.subject.now in
    let start = start_is v c.new.result c.new-2.result c.new-state.result c.new.ensures c.new-2.ensures c.new-state.ensures in
    ap all_known c.new-own.ensures ∙ main_stuck v c.new-state.result _ start c.in-Err.ensures.flowed

pub returns-in-Err-clause-peaks : goal.returns-in-Err-clause-peaks
returns-in-Err-clause-peaks c =
    let v = c.args.subject.now in
    let start = start_is v c.new.result c.new-2.result c.new-state.result c.new.ensures c.new-2.ensures c.new-state.ensures in
    main_never v c.new-state.result _ c.walk.new.peaks start c.in-Err.ensures.flowed

pub returns-in-Err-clause-answer : goal.returns-in-Err-clause-answer
returns-in-Err-clause-answer c =
    let v = c.args.subject.now in
    let start = start_is v c.new.result c.new-2.result c.new-state.result c.new.ensures c.new-2.ensures c.new-state.ensures in
    main_breaks v c.new-state.result c.in-Err.broken start c.in-Err.ensures.flowed
