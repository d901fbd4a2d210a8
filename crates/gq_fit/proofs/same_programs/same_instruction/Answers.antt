use Rattle.std.proofs.Common.{◌∙◌, ap, rules, sym}
use Rattle.gq_model.specs.declared.program.Instruction.TheVariants.{Say}
use Rattle.gq_fit.specs.Refitted.{giving_nothing}
use Rattle.gq_fit.proofs.Same_texts.{one_is_same, opened_same, said_same, same_is, same_open}
use Rattle.gq_fit.proofs.same_programs.same_instruction.Goals as goal

pub returns-in-Say-Say-clause-same : goal.returns-in-Say-Say-clause-same
returns-in-Say-Say-clause-same c h =
    let e =
    same_is c.same_text.result c.as_bytes.result.now c.as_bytes-in-Say-Say.result.now c.in-Say-Say.a c.in-Say-Say.b c.same_text.ensures
    c.as_bytes.ensures.bytes c.as_bytes-in-Say-Say.ensures.bytes h in
    ap giving_nothing c.in-Say-Say.is-0 ∙ (ap Say e ∙ sym (ap giving_nothing c.in-Say-Say.is-1))

pub returns-then-eq-6-clause-same : goal.returns-then-eq-6-clause-same
returns-then-eq-6-clause-same c h =
    let e =
    same_is c.same_text-then-eq-6.result c.as_bytes-then-eq-6.result.now c.as_bytes-then-eq-6-2.result.now c.in-Open-Open.s c.in-Open-Open.t
    c.same_text-then-eq-6.ensures c.as_bytes-then-eq-6.ensures.bytes c.as_bytes-then-eq-6-2.ensures.bytes h in
    ap giving_nothing c.in-Open-Open.is-0 ∙ (same_open c.in-Open-Open.a c.in-Open-Open.b c.in-Open-Open.s c.in-Open-Open.t (search rules) e
    ∙ sym (ap giving_nothing c.in-Open-Open.is-1))

pub returns-in-Say-Say-clause-only : goal.returns-in-Say-Say-clause-only
returns-in-Say-Say-clause-only c e =
    let said = sym (ap giving_nothing c.in-Say-Say.is-0) ∙ (e ∙ ap giving_nothing c.in-Say-Say.is-1) in
    one_is_same c.same_text.result c.as_bytes.result.now c.as_bytes-in-Say-Say.result.now c.in-Say-Say.a c.in-Say-Say.b c.same_text.ensures
    c.as_bytes.ensures.bytes c.as_bytes-in-Say-Say.ensures.bytes (said_same c.in-Say-Say.a c.in-Say-Say.b said)

pub returns-then-eq-6-clause-only : goal.returns-then-eq-6-clause-only
returns-then-eq-6-clause-only c e =
    let opened = sym (ap giving_nothing c.in-Open-Open.is-0) ∙ (e ∙ ap giving_nothing c.in-Open-Open.is-1) in
    one_is_same c.same_text-then-eq-6.result c.as_bytes-then-eq-6.result.now c.as_bytes-then-eq-6-2.result.now c.in-Open-Open.s c.in-Open-Open.t
    c.same_text-then-eq-6.ensures c.as_bytes-then-eq-6.ensures.bytes c.as_bytes-then-eq-6-2.ensures.bytes
    (opened_same c.in-Open-Open.a c.in-Open-Open.b c.in-Open-Open.s c.in-Open-Open.t opened)
