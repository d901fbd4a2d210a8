use Rattle.std.proofs.Common.{◌<◌, ℕ, List, Some, length, set, arith, ap, ◌∙◌, length-set}
use Rattle.gq_dataspace.specs.Dataspaces.{Contents, content_of}
use Rattle.gq_dataspace.proofs.Dataspace_caller_facts.{content_there, content_set}
use Rattle.gq_dataspace.proofs.Dataspace_caller_facts.{content_other}
use Rattle.gq_memory_rows.proofs.dataspace_rows.put_byte.Goals as goal

pub returns : goal.returns
returns c =
    let ss = c.args.spaces.now.spaces in let r = c.args.ds.0 in let o = c.args.offset in let bs : List ℕ = content_of ss r in let v = c.args.byte in
    let lt : r < length ss = content_there ss r (omega (arith, c.requires)) in
    record {
      size = ap (λ (xs : Contents). length (content_of xs r)) c.store.ensures.written ∙ ap length (content_set ss r (set bs o v) lt) ∙ length-set bs o v;
      others = λ k other. ap (λ (xs : Contents). content_of xs k) c.store.ensures.written ∙ content_other ss r k (Some (set bs o v)) other;
    }
