use Rattle.std.proofs.Common.{◌∙◌, ◌+◌, List, ap, sym, drop}
use Rattle.gq_model.specs.rules.Kinds.{Subject}
use Rattle.gq_sizes.specs.Size.{least_gift}
use Rattle.gq_sizes.specs.Needing.{gifts_of, least_of}
use Rattle.gq_sizes.proofs.Least_gifts.{leaf_more, least_none}
use Rattle.gq_verify.proofs.List_remainders.{next_left, none_left}
use Rattle.gq_sizes.proofs.gifts.least_gift.Goals as goal

pub loop-verified-preserved : goal.loop-verified-preserved
loop-verified-preserved c =
    let leaves = c.args.leaves.now in
    let i = c.loop-verified.verified-index in
    let v = c.verified-item.result in
    leaf_more c.args.service.now c.args.level v (drop (i + 1) leaves) c.loop-verified.least c.leaf_gift-least.result
    (least_gift c.args.service.now c.args.level (gifts_of leaves)) c.leaf_gift-least.ensures
    (ap (λ (l : List Subject). least_of c.loop-verified.least (least_gift c.args.service.now c.args.level (gifts_of l)))
    (sym (next_left leaves i v c.loop-verified-test.true c.verified-item.is)) ∙ c.loop-verified.invariant)

pub returns : goal.returns
returns c =
    let leaves = c.args.leaves.now in
    sym (least_none c.loop-verified.least)
    ∙ (ap (λ (l : List Subject). least_of c.loop-verified.least (least_gift c.args.service.now c.args.level (gifts_of l)))
    (sym (none_left leaves c.loop-verified.verified-index c.loop-verified-test.false)) ∙ c.loop-verified.invariant)
