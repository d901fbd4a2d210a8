use Rattle.std.proofs.Common.{rules}
use Rattle.gq_contents.proofs.Content_call_effects.{space_makes, space_makes_seen}
use Rattle.gq_contents.proofs.Content_call_prices.{space_makes_pays}
use Rattle.gq_contents.proofs.content.Content.make_space.Goals as goal

pub returns-clause-made : goal.returns-clause-made
returns-clause-made g c =
    let grows = rw c.pages_of.ensures.price at c.in_ok-chunk.ensures.ok in
    record {
      changes = λ heap. space_makes heap _ _ c.in_ok-chunk.chunk c.args.size c.requires.0 c.requires.1 grows;
      reads = space_makes_seen _ _ c.in_ok-chunk.chunk c.args.size grows;
      size = search rules;
      pays = λ heap. space_makes_pays heap _ _ c.in_ok-chunk.chunk c.args.size grows;
    }
