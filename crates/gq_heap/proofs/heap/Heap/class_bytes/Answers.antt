use Rattle.std.proofs.Common.{◌≡◌, ◌*◌, ◌<◌, drop, get_or, length, List, ap, ◌∙◌, arith, rules}
use Rattle.std.proofs.lemmas.List.{drop_all}
use Rattle.gq_tariff.specs.Prices.{up}
use Rattle.gq_heap.specs.Classes.{size_at, places_at}
use Rattle.gq_heap.specs.Heap.{no_bin}
use Rattle.gq_heap.proofs.Cell_page_numbers.{size_few}
use Rattle.gq_heap.proofs.ClassLaws.{sizes, size_in_order}
use Rattle.gq_heap.proofs.Heap_change_parts.{price_from}
use Rattle.gq_heap.proofs.Heap_class_charges.{price_is, charge_step, peak_small}
use Rattle.gq_heap.proofs.heap.Heap.class_bytes.Goals as goal

eight : {A : Type 0} (xs : List A) → length xs ≡ 8 → length xs ≡ 8
eight xs h = h

pub loop-i-preserved : goal.loop-i-preserved
loop-i-preserved c =
    let i = c.loop-i.i in
    let bins : length c.args.self.now.bins ≡ 8 = eight _ (search rules) in
    let below : i < 8 = c.loop-i-test.true in
    let few : c.from.result < 4294967296 = search rules in
    let price : c.price_class-total.result ≡ up (size_at i * c.from.result) =
    c.price_class-total.ensures ∙ ap (λ n. up (n * c.from.result)) (size_in_order i below) in
    let same : up (size_at i * c.from.result) ≡ up (size_at i * (get_or c.args.self.now.bins i no_bin).peak) = ap (λ n. up (size_at i * n)) c.from.ensures in
    record {
      sum = omega (arith, c.loop-i.invariant.sum, price, same, charge_step i c.args.self.now.bins (omega arith));
      few = omega (arith, c.loop-i.invariant.few, price, peak_small (size_at i) c.from.result (size_few (size_at i) (places_at i) (sizes i below)) few);
    }

pub returns-clause-bytes : goal.returns-clause-bytes
returns-clause-bytes c =
    let bins : length c.args.self.now.bins ≡ 8 = eight _ (search rules) in
    let end : c.loop-i.i ≡ 8 = omega (arith, c.loop-i-test.false, c.loop-i.auto) in
    let none : price_from c.loop-i.i (drop c.loop-i.i c.args.self.now.bins) ≡ 0 = ap (price_from c.loop-i.i)
    (drop_all c.loop-i.i c.args.self.now.bins (omega arith)) in
    omega (arith, c.loop-i.invariant.sum, none, price_is c.args.self.now.bins bins)
