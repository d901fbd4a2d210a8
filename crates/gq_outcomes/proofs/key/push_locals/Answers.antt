use Rattle.std.proofs.Common.{◌∙◌, ◌++◌, ap, sym}
use Rattle.std.proofs.lemmas.Result.{on_ok_weaker}
use Rattle.gq_outcomes.specs.internal.Keys.{text_key}
use Rattle.gq_outcomes.proofs.Kept_readers.{locals_are}
use Rattle.gq_outcomes.proofs.key.push_locals.Goals as goal

pub returns : goal.returns
returns c =
    let same = locals_are c.args.machine.now c.requires.sound c.args.leaf c.requires.leaf c.registers.result.now c.registers.ensures in
    on_ok_weaker c.push_numbers.result (λ put. put ∙ ap (λ t. c.args.key.now.items ++ text_key t) (c.locals.ensures ∙ sym same)) c.push_numbers.ensures
