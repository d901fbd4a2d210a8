use Rattle.std.proofs.Common.{arith}
use Rattle.gq_heap.proofs.Cell_page_numbers.{place_inside}
use Rattle.gq_heap.proofs.chain.push.Goals as goal

pub overflow_mul-index : goal.overflow_mul-index
overflow_mul-index g c = rw c.cell_position-chunk.ensures.index (omega (arith, place_inside _ _ c.requires.size c.args.place))

pub store4-requires : goal.store4-requires
store4-requires g c =
    rw (c.new.ensures, c.cell_position-chunk.ensures.chunk, c.cell_position-chunk.ensures.index)
    (c.requires.chunk.0, omega (arith, c.requires.chunk.1, place_inside _ _ c.requires.size c.args.place, c.requires.size.least))

pub returns-clause-link : goal.returns-clause-link
returns-clause-link g c = λ a h.
    let e = rw (c.new.ensures, c.cell_position-chunk.ensures.chunk, c.cell_position-chunk.ensures.index) at c.store4.ensures.stored in
    e a (omega (arith, h, place_inside _ _ c.requires.size c.args.place, c.requires.size.least))

pub returns-clause-alone : goal.returns-clause-alone
returns-clause-alone g c = λ a h.
    let e = rw (c.new.ensures, c.cell_position-chunk.ensures.chunk, c.cell_position-chunk.ensures.index) at c.store4.ensures.alone in
    e a (omega (arith, h, place_inside _ _ c.requires.size c.args.place, c.requires.size.least))

pub returns-clause-rest : goal.returns-clause-rest
returns-clause-rest g c = λ a h.
    let e = rw (c.new.ensures, c.cell_position-chunk.ensures.chunk, c.cell_position-chunk.ensures.index) at c.store4.ensures.rest in
    e a (omega (arith, h, place_inside _ _ c.requires.size c.args.place, c.requires.size.least))
