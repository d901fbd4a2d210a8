use Rattle.std.proofs.Common.{None, arith, ap, ◌∙◌}
use Rattle.gq_dataspace.specs.Dataspaces.{Contents, content_of}
use Rattle.gq_dataspace.proofs.Dataspace_caller_facts.{content_other, is_live}
use Rattle.gq_memory_rows.proofs.dataspace_rows.removed.Goals as goal

pub destroy-requires : goal.destroy-requires
destroy-requires c = is_live c.args.spaces.now.spaces c.args.ds.0 (omega (arith, c.requires))

pub returns : goal.returns
returns c = record {
  others = λ k other. ap (λ (xs : Contents). content_of xs k) c.destroy.ensures.gone
      ∙ content_other c.args.spaces.now.spaces c.args.ds.0 k None other;
}
