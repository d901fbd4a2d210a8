use Rattle.std.proofs.Common.{◌≡◌, length, replicate, subst, ap, ◌∙◌, arith}
use Rattle.gq_contents.specs.declared.content.Content.TheVariants.{Empty}
use Rattle.gq_slots.specs.Slots.{AreNew}
use Rattle.gq_slots.proofs.First_empty_slots.{first_slots}
use Rattle.gq_slots.proofs.slots.Slots.new.Goals as goal

count_is : (c : goal.In-Ok) → c.len-count.result ≡ length c.args.plan.leaves.items
count_is c = omega (arith, c.len-count.ensures, c.args.plan.leaves.ok)

own_is : (c : goal.In-Ok) → c.in_ok-own.own.items ≡ replicate (length c.args.plan.leaves.items) (replicate 64 Empty)
own_is c = c.in_ok-own.ensures ∙ ap (λ n. replicate n (replicate 64 Empty)) (count_is c)

pub invariant_of-result : goal.invariant_of-result
invariant_of-result c =
    let a = c.args.plan in
    first_slots c.args.total c.args.caps a.parents.items a.nodes.items a.leaves.items a.objects.items c.args.room
    (record { trades = c.in-Ok.trades; own = c.in_ok-own.own.items; heaps = c.in_ok-heaps.heaps.items }) c.requires.plan
    c.in-Ok.ensures (own_is c) (subst (λ n. AreNew n c.in_ok-heaps.heaps.items) (count_is c) c.in_ok-heaps.ensures)

pub returns-in-Ok-clause-own : goal.returns-in-Ok-clause-own
returns-in-Ok-clause-own c = own_is c
