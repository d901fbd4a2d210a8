use Rattle.gq_heap.proofs.Heap_caller_facts.{none_in_use, more_in_use}
use Rattle.gq_memory_rows.proofs.heap_rows.make_three.Goals as goal

pub returns : goal.returns
returns g c =
    let none = none_in_use _ _ c.requires in
    let one = more_in_use _ _ _ _ _ _ _ none c.in_ok-a.ensures.ok in
    let two = more_in_use _ _ _ _ _ _ _ one c.in_ok-b.ensures.ok in
    more_in_use _ _ _ _ _ _ _ two c.in_ok-c.ensures.ok
