use Rattle.std.proofs.Common.{◌≡◌, ◌∙◌, ℕ, List, ap, sym}
use Rattle.gq_model.specs.machine.Scenario.{As_text, As_code}
use Rattle.gq_scenario.specs.Given.{source_of}
use Rattle.gq_sizes.proofs.Compared_text_equality.{one_is_same, same_is}
use Rattle.gq_sizes.proofs.same.same_source.Goals as goal

text_same : (x y : List ℕ) → As_text x ≡ As_text y → x ≡ y
text_same x y e = cc

code_same : (x y : List ℕ) → As_code x ≡ As_code y → x ≡ y
code_same x y e = cc

pub returns-in-Text-Text-clause-same : goal.returns-in-Text-Text-clause-same
returns-in-Text-Text-clause-same c h =
    let same =
    same_is c.same_text.result c.as_slice.result.now c.as_slice-in-Text-Text.result.now c.in-Text-Text.a.items c.in-Text-Text.b.items c.same_text.ensures
    c.as_slice.ensures.value c.as_slice-in-Text-Text.ensures.value h in
    ap source_of c.in-Text-Text.is-0 ∙ (ap As_text same ∙ sym (ap source_of c.in-Text-Text.is-1))

pub returns-in-Text-Text-clause-only : goal.returns-in-Text-Text-clause-only
returns-in-Text-Text-clause-only c e =
    one_is_same c.same_text.result c.as_slice.result.now c.as_slice-in-Text-Text.result.now c.in-Text-Text.a.items c.in-Text-Text.b.items
    c.same_text.ensures c.as_slice.ensures.value c.as_slice-in-Text-Text.ensures.value
    (text_same c.in-Text-Text.a.items c.in-Text-Text.b.items (sym (ap source_of c.in-Text-Text.is-0) ∙ (e ∙ ap source_of c.in-Text-Text.is-1)))

pub returns-in-Code-Code-clause-same : goal.returns-in-Code-Code-clause-same
returns-in-Code-Code-clause-same c h =
    let same =
    same_is c.same_text-in-Code-Code.result c.as_slice-in-Code-Code.result.now c.as_slice-in-Code-Code-2.result.now c.in-Code-Code.a.items
    c.in-Code-Code.b.items c.same_text-in-Code-Code.ensures c.as_slice-in-Code-Code.ensures.value c.as_slice-in-Code-Code-2.ensures.value h in
    ap source_of c.in-Code-Code.is-0 ∙ (ap As_code same ∙ sym (ap source_of c.in-Code-Code.is-1))

pub returns-in-Code-Code-clause-only : goal.returns-in-Code-Code-clause-only
returns-in-Code-Code-clause-only c e =
    one_is_same c.same_text-in-Code-Code.result c.as_slice-in-Code-Code.result.now c.as_slice-in-Code-Code-2.result.now c.in-Code-Code.a.items
    c.in-Code-Code.b.items c.same_text-in-Code-Code.ensures c.as_slice-in-Code-Code.ensures.value c.as_slice-in-Code-Code-2.ensures.value
    (code_same c.in-Code-Code.a.items c.in-Code-Code.b.items (sym (ap source_of c.in-Code-Code.is-0) ∙ (e ∙ ap source_of c.in-Code-Code.is-1)))
