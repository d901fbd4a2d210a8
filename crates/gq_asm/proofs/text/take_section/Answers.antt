use Rattle.gq_asm.proofs.text.take_section.Goals as goal

pub returns-clause-body : goal.returns-clause-body
returns-clause-body c =
    cc (c.in_ok-place.ensures.found c.remove-body.result, c.deref.ensures.value, c.remove-body.ensures.value)

pub returns-clause-rest : goal.returns-clause-rest
returns-clause-rest c = cc (c.in_ok-place.ensures.rest, c.deref.ensures.value, c.remove-body.ensures.items)
