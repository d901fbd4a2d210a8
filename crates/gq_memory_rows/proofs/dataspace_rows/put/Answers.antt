use Rattle.std.proofs.Common.{◌<◌, ℕ, List, Some, length, arith, ap, ◌∙◌}
use Rattle.std.specs.Int.{w32, to_le_bytes}
use Rattle.gq_pages.specs.Frame_bytes.{with_bytes}
use Rattle.gq_dataspace.specs.Dataspaces.{Contents, content_of}
use Rattle.gq_dataspace.proofs.Dataspace_caller_facts.{length-with_bytes}
use Rattle.gq_dataspace.proofs.Dataspace_caller_facts.{content_there, content_set}
use Rattle.gq_dataspace.proofs.Dataspace_caller_facts.{content_other}
use Rattle.gq_memory_rows.proofs.dataspace_rows.put.Goals as goal

pub returns : goal.returns
returns c =
    let ss = c.args.spaces.now.spaces in let r = c.args.ds.0 in let o = c.args.offset in let bs : List ℕ = content_of ss r in
    let ws : List ℕ = to_le_bytes w32 c.args.word in
    let lt : r < length ss = content_there ss r (omega (arith, c.requires)) in
    record {
      size = ap (λ (xs : Contents). length (content_of xs r)) c.store4.ensures.written ∙ ap length (content_set ss r (with_bytes bs o ws) lt)
          ∙ length-with_bytes bs o ws;
      others = λ k other. ap (λ (xs : Contents). content_of xs k) c.store4.ensures.written ∙ content_other ss r k (Some (with_bytes bs o ws)) other;
    }
