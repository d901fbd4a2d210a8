use Rattle.std.proofs.Common.{◌≡◌, ℕ, ◌+◌, List, length, arith, sym, ap, subst, ◌∙◌, length-append}
use Rattle.gq_pages.specs.internal.Region.{AreClean, Contents}
use Rattle.gq_pages.specs.Frame_bytes.{zeros}
use Rattle.gq_pages.proofs.Zero_page_tails.{clean_behind}
use Rattle.gq_pages.proofs.Zeroed_byte_runs.{length-zeros}
use Rattle.gq_pages.proofs.region.Region.extend.Goals as goal

pub invariant_of-self : goal.invariant_of-self
invariant_of-self c =
    let i = c.self.invariant in let n = c.args.count in
    let long : length c.extend.new.self.bytes ≡ length c.self.inside.cells.bytes + n = ap length c.extend.ensures.1
    ∙ length-append c.self.inside.cells.bytes (zeros n) ∙ ap (λ m. length c.self.inside.cells.bytes + m) (length-zeros n) in
    let bytes = ap (λ (r : Contents). length r.bytes) c.self.view_is in
    let size = ap (λ (r : Contents). r.size) c.self.view_is in
    record {
      at = c.extend.ensures.0;
      whole = omega (arith, long, bytes, size, c.extend.ensures.2, i.whole, c.requires.at_end, c.requires.room);
      heap = i.heap;
      leased = i.leased;
      leased_size = i.leased_size;
      small = i.small;
      pages = i.pages;
      clean = subst (λ (xs : List ℕ). AreClean xs c.self.inside.marks.items) (sym c.extend.ensures.1)
          (clean_behind c.self.inside.cells.bytes c.self.inside.marks.items n i.clean);
    }
