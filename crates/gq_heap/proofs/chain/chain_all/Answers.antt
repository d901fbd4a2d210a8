use Rattle.std.proofs.Common.{◌≡◌, ℕ, ◌+◌, ◌*◌, ◌≤◌, refl, ap, arith}
use Rattle.gq_heap.proofs.Cell_page_numbers.{cell_inside}
use Rattle.gq_heap.proofs.Free_cell_chains.{chained_more}
use Rattle.gq_heap.proofs.chain.chain_all.Goals as goal

pub loop-i-init : goal.loop-i-init
loop-i-init g c = record {
  chain = λ a h. refl;
  rest = λ a h. g.met.S.ByteStore.rest_refl _ _;
  alone = λ a h. record { elsewhere = λ k i out. refl; size = λ k. refl; left = refl; caps = refl };
  head = omega arith;
}

pub store4-requires : goal.store4-requires
store4-requires g c =
    let inside : c.loop-i.i * c.args.size + c.args.size ≤ 4096 = cell_inside _ _ c.requires.size c.loop-i.i (omega arith) in (
      c.requires.chunk.0,
      omega (arith, inside, c.requires.size.least, c.requires.chunk.1, (c.loop-i.invariant.alone c.requires.chunk.0 c.requires.chunk.1).size c.args.chunk),
    )

pub loop-i-preserved : goal.loop-i-preserved
loop-i-preserved g c =
    let st = g.S.ByteStore.state in
    let inside : c.loop-i.i * c.args.size + c.args.size ≤ 4096 = cell_inside _ _ c.requires.size c.loop-i.i (omega arith) in
    let has : (a : ℕ) → (st c.args.store.now a).size c.args.chunk ≡ 4096 → c.loop-i.i * c.args.size + 4 ≤ (st c.loop-i.store a).size c.args.chunk = λ a h.
    omega (arith, inside, c.requires.size.least, h, (c.loop-i.invariant.alone a h).size c.args.chunk) in
    record {
      chain = λ a h. rw c.number.ensures (chained_more _ _ c.requires.size c.args.chunk c.loop-i.i c.loop-i.head (omega arith) (st c.loop-i.store a)
          (st c.store4.new.self a) (c.loop-i.invariant.chain a h) (c.store4.ensures.stored a (has a h)) (c.store4.ensures.alone a (has a h)));
      rest = λ a h. g.met.S.ByteStore.rest_trans _ _ _ _ (c.loop-i.invariant.rest a h) (c.store4.ensures.rest a (has a h));
      alone = λ a h. grind (arith, c.loop-i.invariant.alone a h, c.store4.ensures.alone a (has a h));
      head = omega (arith, ap (λ n. n * c.args.places) c.number.ensures);
    }
