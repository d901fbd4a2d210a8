use Rattle.std.proofs.Common.{ℕ, ◌+◌, ◌≤◌, List, length, arith, sym, ap, subst, ◌∙◌}
use Rattle.gq_pages.specs.Frame_bytes.{zeroed}
use Rattle.gq_pages.specs.internal.Region.{AreClean, Contents}
use Rattle.gq_pages.proofs.Zero_page_tails.{clean_zeroed, zeroed_rest}
use Rattle.gq_pages.proofs.Zeroed_byte_runs.{length-zeroed}
use Rattle.gq_pages.proofs.region.Region.zero.Goals as goal

pub invariant_of-self : goal.invariant_of-self
invariant_of-self c =
    let i = c.self.invariant in let bs = c.self.inside.cells.bytes in let a = c.args.start in let m = c.swept-least.result in
    let within : a + m ≤ length bs = omega (arith, c.requires.0, c.swept-least.ensures.few, ap (λ (r : Contents). length r.bytes) c.self.view_is) in
    record {
      at = c.zero.ensures.0;
      whole = omega (arith, ap length c.zero.ensures.1, length-zeroed bs a m within, c.zero.ensures.2, i.whole);
      heap = i.heap;
      leased = i.leased;
      leased_size = i.leased_size;
      small = i.small;
      pages = omega (arith, i.pages, c.swept-least.ensures.as_many);
      clean = subst (λ (xs : List ℕ). AreClean xs c.swept-least.new.marks.items) (sym c.zero.ensures.1)
          (clean_zeroed bs c.self.inside.marks.items c.swept-least.new.marks.items a m within i.clean c.swept-least.ensures.clean);
    }

pub returns-clause-bytes : goal.returns-clause-bytes
returns-clause-bytes c =
    let i = c.self.invariant in let bs = c.self.inside.cells.bytes in let a = c.args.start in let m = c.swept-least.result in let n = c.args.count in
    let within : a + n ≤ length bs = omega (arith, c.requires.0, ap (λ (r : Contents). length r.bytes) c.self.view_is) in
    c.zero.ensures.1 ∙ zeroed_rest bs a m n c.swept-least.ensures.few within
    (λ k from to. i.clean k (omega (arith, to, within)) (c.swept-least.ensures.rest k from to))
    ∙ ap (λ (r : Contents). zeroed r.bytes a n) c.self.view_is
