use Rattle.std.proofs.Common.{arith}
use Rattle.gq_store.proofs.Refused_call_state.{err_state}
use Rattle.gq_sliced.proofs.Slice_caller_facts.{sizes_stay}
use Rattle.gq_memory_rows.proofs.sliced_rows.see_a_page.Goals as goal

pub load-before-requires : goal.load-before-requires
load-before-requires g c = (c.args.account.0, record { size = 4064; has = c.in_ok-slice.ensures.ok.has; inside = omega arith })

pub store-requires : goal.store-requires
store-requires g c = (c.args.account.0, record { size = 4064; has = c.in_ok-slice.ensures.ok.has; inside = omega arith })

pub load-after-requires : goal.load-after-requires
load-after-requires g c =
    let a = c.args.account.0 in
    let puts = c.store.ensures.puts a (record { size = 4064; has = c.in_ok-slice.ensures.ok.has; inside = omega arith }) in
    (a, record { size = 4064; has = puts.keeps 4064 c.in_ok-slice.ensures.ok.has; inside = omega arith })

pub size-size-requires : goal.size-size-requires
size-size-requires g c =
    let a = c.args.account.0 in
    let puts = c.store.ensures.puts a (record { size = 4064; has = c.in_ok-slice.ensures.ok.has; inside = omega arith }) in
    (a, record { size = 4064; has = puts.keeps 4064 c.in_ok-slice.ensures.ok.has })

pub free-requires : goal.free-requires
free-requires g c =
    let a = c.args.account.0 in
    let puts = c.store.ensures.puts a (record { size = 4064; has = c.in_ok-slice.ensures.ok.has; inside = omega arith }) in
    let has = puts.keeps 4064 c.in_ok-slice.ensures.ok.has in
    record {
      size = 4064;
      has = sizes_stay c.alloc-second.result _ _ 1 c.alloc-second.ensures.ok
          (err_state (λ s. g.S.ByteStore.state s a) c.alloc-second.result _ _ c.alloc-second.ensures.err) _ 4064 has;
    }
