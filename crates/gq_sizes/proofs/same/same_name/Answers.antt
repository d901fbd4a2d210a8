use Rattle.gq_sizes.proofs.Compared_text_equality.{one_is_same, same_is}
use Rattle.gq_sizes.proofs.same.same_name.Goals as goal

pub returns-clause-same : goal.returns-clause-same
returns-clause-same c h =
    same_is c.same_text.result c.as_bytes.result.now c.as_bytes-2.result.now c.args.a.now c.args.b.now c.same_text.ensures c.as_bytes.ensures.bytes
    c.as_bytes-2.ensures.bytes h

pub returns-clause-only : goal.returns-clause-only
returns-clause-only c e =
    one_is_same c.same_text.result c.as_bytes.result.now c.as_bytes-2.result.now c.args.a.now c.args.b.now c.same_text.ensures c.as_bytes.ensures.bytes
    c.as_bytes-2.ensures.bytes e
