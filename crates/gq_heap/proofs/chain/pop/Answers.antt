use Rattle.std.proofs.Common.{arith}
use Rattle.gq_heap.proofs.Cell_page_numbers.{place_inside}
use Rattle.gq_heap.proofs.chain.pop.Goals as goal

pub overflow_mul-offset : goal.overflow_mul-offset
overflow_mul-offset g c = rw c.cell_position-chunk.ensures.index (omega (arith, place_inside _ _ c.requires.size c.args.place))

pub load4-next-requires : goal.load4-next-requires
load4-next-requires g c =
    rw (c.new-chunk.ensures, c.cell_position-chunk.ensures.chunk, c.cell_position-chunk.ensures.index)
    (c.requires.chunk.0, omega (arith, c.requires.chunk.1, place_inside _ _ c.requires.size c.args.place, c.requires.size.least))

pub clear-requires-clause-inside : goal.clear-requires-clause-inside
clear-requires-clause-inside g c =
    rw (c.new-chunk.ensures, c.cell_position-chunk.ensures.chunk, c.cell_position-chunk.ensures.index)
    (c.requires.chunk.0, omega (arith, c.requires.chunk.1, place_inside _ _ c.requires.size c.args.place))

pub returns-clause-next : goal.returns-clause-next
returns-clause-next g c = λ a h.
    let e = rw (c.new-chunk.ensures, c.cell_position-chunk.ensures.chunk, c.cell_position-chunk.ensures.index) at c.load4-next.ensures in
    e a (omega (arith, h, place_inside _ _ c.requires.size c.args.place, c.requires.size.least))

pub returns-clause-zero : goal.returns-clause-zero
returns-clause-zero g c = λ a h i l.
    let e = rw (c.new-chunk.ensures, c.cell_position-chunk.ensures.chunk, c.cell_position-chunk.ensures.index) at c.clear.ensures.zero in
    e a (omega (arith, h, place_inside _ _ c.requires.size c.args.place)) _ (omega arith) (omega (arith, l))

pub returns-clause-alone : goal.returns-clause-alone
returns-clause-alone g c = λ a h.
    let e = rw (c.new-chunk.ensures, c.cell_position-chunk.ensures.chunk, c.cell_position-chunk.ensures.index) at c.clear.ensures.alone in
    e a (omega (arith, h, place_inside _ _ c.requires.size c.args.place))

pub returns-clause-rest : goal.returns-clause-rest
returns-clause-rest g c = λ a h.
    let e = rw (c.new-chunk.ensures, c.cell_position-chunk.ensures.chunk, c.cell_position-chunk.ensures.index) at c.clear.ensures.rest in
    e a (omega (arith, h, place_inside _ _ c.requires.size c.args.place))
