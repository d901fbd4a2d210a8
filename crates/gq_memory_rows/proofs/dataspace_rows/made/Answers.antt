use Rattle.std.proofs.Common.{Some, length, ap, ◌∙◌}
use Rattle.gq_tariff.specs.Prices.{up}
use Rattle.gq_pages.specs.Frame_bytes.{zeros}
use Rattle.gq_dataspace.specs.Dataspaces.{Contents, content_of}
use Rattle.gq_dataspace.proofs.Dataspace_caller_facts.{length-zeros}
use Rattle.gq_dataspace.proofs.Dataspace_caller_facts.{content_set}
use Rattle.gq_dataspace.proofs.Dataspace_caller_facts.{content_other, vacant_apart}
use Rattle.gq_memory_rows.proofs.dataspace_rows.made.Goals as goal

pub returns : goal.returns
returns c =
    let ss = c.args.spaces.now.spaces in let r = c.in_ok-ds.ds.0 in let h = c.in_ok-ds.ensures in let n = up c.args.n in
    record {
      size = ap (λ (xs : Contents). length (content_of xs r)) h.made ∙ ap length (content_set ss r (zeros n) h.was_vacant.0) ∙ length-zeros n;
      apart = λ k live. vacant_apart ss r k h.was_vacant live;
      others = λ k other. ap (λ (xs : Contents). content_of xs k) h.made ∙ content_other ss r k (Some (zeros n)) other;
    }
