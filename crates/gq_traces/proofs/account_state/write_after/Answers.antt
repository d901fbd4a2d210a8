-- After which leaf one starts.
use Rattle.std.proofs.Common.{◌∙◌, [], ◌∷◌, ◌++◌, ap, codes}
use Rattle.gq_traces.proofs.Printed_afters.{after_there, starts_after, starts_at_once}
use Rattle.gq_traces.proofs.Sequential_text_writes.{goes_nothing}
use Rattle.gq_traces.proofs.account_state.write_after.Goals as goal

pub name-requires : goal.name-requires
name-requires g c = after_there c.args.table.now c.args.leaf c.after.result c.requires c.after.ensures c.in-Some.after c.in-Some.is

pub returns-in-None : goal.returns-in-None
returns-in-None g c =
    starts_at_once c.args.table.now c.args.leaf c.after.result c.requires c.after.ensures g.W.Write.contents c.args.out.now c.args.going c.in-None.is
    (goes_nothing g.W.Write.contents c.args.out.now c.args.going)

pub returns-in-Some : goal.returns-in-Some
returns-in-Some g c =
    starts_after c.args.table.now c.args.leaf c.after.result c.requires c.after.ensures g.W.Write.contents c.args.out.now c.write_on.new.out c.args.going
    c.write_on.result c.in-Some.after c.name.result.now c.as_bytes.result.now c.as_slice.result.now c.in-Some.is c.name.ensures c.as_bytes.ensures.bytes
    (c.as_slice.ensures.value ∙ c.extend-in-Some-2.ensures.bytes ∙ ap (λ l. l ++ 10 ∷ []) (c.extend-in-Some.ensures.bytes ∙ ap (λ l. l ++ c.as_bytes.result.now)
    (c.extend.ensures.bytes ∙ ap (λ l. l ++ codes "  after ") c.new-line.ensures))) c.write_on.ensures
