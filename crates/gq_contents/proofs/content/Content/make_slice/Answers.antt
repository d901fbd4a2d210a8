use Rattle.std.proofs.Common.{rules}
use Rattle.gq_contents.proofs.Content_call_effects.{slice_makes, slice_makes_seen}
use Rattle.gq_contents.proofs.Content_call_prices.{slice_makes_pays}
use Rattle.gq_contents.proofs.content.Content.make_slice.Goals as goal

pub returns-clause-made : goal.returns-clause-made
returns-clause-made g c = record {
  changes = λ heap. slice_makes heap _ _ _ _ c.in_ok-slice.ensures.ok;
  reads = slice_makes_seen _ _ _ _ c.in_ok-slice.ensures.ok;
  size = search rules;
  pays = λ heap. slice_makes_pays heap _ _ _ _ c.in_ok-slice.ensures.ok;
}
