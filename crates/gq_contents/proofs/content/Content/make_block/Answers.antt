use Rattle.std.proofs.Common.{rules}
use Rattle.gq_contents.proofs.Content_call_effects.{block_makes, block_makes_seen}
use Rattle.gq_contents.proofs.Content_call_prices.{block_makes_pays}
use Rattle.gq_contents.proofs.Content_caller_facts.{block_fits}
use Rattle.gq_contents.proofs.Content_heap_peaks.{block_peaks}
use Rattle.gq_contents.proofs.content.Content.make_block.Goals as goal

pub returns-clause-made : goal.returns-clause-made
returns-clause-made g c =
    let a = c.in_ok-place.ensures.ok in let n = c.args.size in let k = c.requires.kept in
    let fits = block_fits c.in_ok-place.place n a.kind in
    record {
      changes = block_makes _ _ _ _ c.in_ok-place.place n fits a;
      reads = block_makes_seen _ _ _ _ c.in_ok-place.place n fits a;
      size = search rules;
      pays = block_makes_pays _ _ _ _ c.in_ok-place.place n k.prefix k.back k.keeps a;
      raises = λ prefix back h. block_peaks _ _ _ _ c.in_ok-place.place n prefix back h (block_makes _ _ _ _ c.in_ok-place.place n fits a prefix back h) a;
    }
