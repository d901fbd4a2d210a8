use Rattle.std.proofs.Common.{◌≡◌, ◌+◌, ◌<◌, ◌*◌, ◌/◌, ◌%◌, ℕ, length, slice_index, arith, sym, ap, ◌∙◌}
use Rattle.gq_dataspace.specs.internal.List_trees.{parent_at}
use Rattle.gq_dataspace.specs.internal.Link_table.{table_view}
use Rattle.gq_dataspace.specs.internal.Frame_lists.{Lists, list_at}
use Rattle.gq_dataspace.proofs.Dataspace_link_tables.{length-lists_in, length-list_at, parent_first, parent_more, frame_is_linked, reads}
use Rattle.gq_dataspace.proofs.frames.FrameTable.near_parent.Goals as goal

pub returns-then-index-lt-LINKS-clause-value : goal.returns-then-index-lt-LINKS-clause-value
returns-then-index-lt-LINKS-clause-value c = sym (parent_first (list_at c.args.self.now c.args.first) c.args.first c.args.index c.if-index-lt-LINKS.true)

pub overflow_mul-parent : goal.overflow_mul-parent
overflow_mul-parent c =
    let i = c.self.invariant in let s = c.self.inside in
    omega (arith, c.first_or_parent-parent.ensures.below, ap length c.self.view_is, length-lists_in s.links.items s.counts.items, i.few)

pub overflow_add-parent : goal.overflow_add-parent
overflow_add-parent c =
    let i = c.self.invariant in let s = c.self.inside in
    omega (arith, c.first_or_parent-parent.ensures.below, ap length c.self.view_is, length-lists_in s.links.items s.counts.items, i.few)

pub index-requires : goal.index-requires
index-requires c =
    let i = c.self.invariant in let s = c.self.inside in
    omega (arith, c.first_or_parent-parent.ensures.below, ap length c.self.view_is, length-lists_in s.links.items s.counts.items, i.room)

pub returns-clause-value : goal.returns-clause-value
returns-clause-value c =
    let s = c.self.inside in let r = c.args.first in let q : ℕ = c.args.index / 16 in let ls = table_view s in
    let long : length (list_at c.args.self.now r) ≡ slice_index s.counts.items r = ap (λ (ls : Lists). length (list_at ls r)) (sym c.self.view_is)
    ∙ length-list_at s.links.items s.counts.items r in
    let within : 16 * c.first_or_parent-parent.result + c.args.index / 16 % 16 < length s.links.items =
    omega (arith, c.first_or_parent-parent.ensures.below, ap length c.self.view_is, length-lists_in s.links.items s.counts.items, c.self.invariant.room) in
    let up : c.first_or_parent-parent.result ≡ parent_at (list_at ls r) r q = c.first_or_parent-parent.ensures.value
    ∙ ap (λ (ls : Lists). parent_at (list_at ls r) r q) (sym c.self.view_is) in
    rw (← c.self.view_is) (reads s.links.items (16 * c.first_or_parent-parent.result + c.args.index / 16 % 16) c.index.result.now within c.index.ensures
    ∙ ap (λ (m : ℕ). slice_index s.links.items (16 * m + q % 16)) up
    ∙ sym (frame_is_linked s.links.items s.counts.items r q (omega (arith, long, c.requires.within, c.if-index-lt-LINKS.false)))
    ∙ sym (parent_more (list_at ls r) r c.args.index c.if-index-lt-LINKS.false))

pub returns-clause-below : goal.returns-clause-below
returns-clause-below c =
    let s = c.self.inside in let r = c.args.first in let q : ℕ = c.args.index / 16 in let ls = table_view s in
    let long : length (list_at c.args.self.now r) ≡ length (list_at ls r) = ap (λ (ls : Lists). length (list_at ls r)) (sym c.self.view_is) in
    let many : length (list_at ls r) ≡ slice_index s.counts.items r = length-list_at s.links.items s.counts.items r in
    let within : 16 * c.first_or_parent-parent.result + c.args.index / 16 % 16 < length s.links.items =
    omega (arith, c.first_or_parent-parent.ensures.below, ap length c.self.view_is, length-lists_in s.links.items s.counts.items, c.self.invariant.room) in
    let up : c.first_or_parent-parent.result ≡ parent_at (list_at ls r) r q = c.first_or_parent-parent.ensures.value
    ∙ ap (λ (ls : Lists). parent_at (list_at ls r) r q) (sym c.self.view_is) in
    let is : c.index.result.now ≡ slice_index (list_at ls r) q =
    reads s.links.items (16 * c.first_or_parent-parent.result + c.args.index / 16 % 16) c.index.result.now within c.index.ensures
    ∙ ap (λ (m : ℕ). slice_index s.links.items (16 * m + q % 16)) up
    ∙ sym (frame_is_linked s.links.items s.counts.items r q (omega (arith, long, many, c.requires.within, c.if-index-lt-LINKS.false))) in
    omega (
      arith,
      is,
      c.self.invariant.below r q (omega (arith, long, c.requires.within, c.if-index-lt-LINKS.false)),
      ap length c.self.view_is,
      length-lists_in s.links.items s.counts.items,
    )
