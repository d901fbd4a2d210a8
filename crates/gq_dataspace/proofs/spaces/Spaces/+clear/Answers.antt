use Rattle.std.proofs.Common.{◌+◌, ◌-◌, ◌%◌, ℕ, Some, set, arith, ap, ◌∙◌}
use Rattle.gq_pages.specs.Frame_bytes.{zeroed}
use Rattle.gq_dataspace.specs.Dataspaces.{Contents, content_of}
use Rattle.gq_dataspace.proofs.Repeated_dataspace_sets.{content_there}
use Rattle.gq_dataspace.proofs.Cleared_dataspace_bytes.{cleared_again}
use Rattle.gq_dataspace.proofs.spaces.Spaces.+clear.Goals as goal

pub returns-clause-written : goal.returns-clause-written
returns-clause-written t c =
    let ss = c.args.self.now.spaces in let r = c.args.ds.0 in let o = c.args.offset in let n : ℕ = 4096 - o % 4096 in let m : ℕ = c.args.size - n in
    c.clear.ensures.written ∙ ap (λ (xs : Contents). set xs r (Some (zeroed (content_of xs r) (o + n) m))) c.clear_within-2.ensures.written
    ∙ cleared_again ss r (content_of ss r) o n m c.args.size (content_there ss r (omega (arith, c.requires.some, c.requires.inside)))
    (omega (arith, c.requires.inside, c.if-size-room.false)) (omega (arith, c.if-size-room.false))
