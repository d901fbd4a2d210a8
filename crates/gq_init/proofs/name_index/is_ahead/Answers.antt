use Rattle.std.proofs.Common.{◌++◌, ap, sym, ◌∙◌, length, drop, take}
use Rattle.std.proofs.lemmas.List.{take-append-drop}
use Rattle.gq_model.proofs.Small_facts.{text_is}
use Rattle.gq_init.proofs.name_index.is_ahead.Goals as goal

pub returns-then-end-gt8 : goal.returns-then-end-gt8
returns-then-end-gt8 c is =
    let text = c.args.text.now in
    let name = c.args.name.now in
    let same = text_is (take (length name) text) name (sym c.same_text.ensures ∙ is) in
    sym (take-append-drop (length name) text) ∙ ap (λ t. t ++ drop (length name) text) same
