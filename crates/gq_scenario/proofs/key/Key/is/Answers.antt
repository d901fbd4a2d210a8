use Rattle.std.proofs.Common.{refl, sym}
use Rattle.gq_scenario.proofs.Table_key_lookup.{text_eq-read}
use Rattle.gq_scenario.proofs.key.Key.is.Goals as goal

pub returns : goal.returns
returns c = sym (text_eq-read c.args.text.now _ c.word.result.now c.eq.result _ c.eq.ensures c.word.ensures refl)
