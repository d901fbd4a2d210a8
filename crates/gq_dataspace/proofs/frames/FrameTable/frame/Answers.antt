use Rattle.std.proofs.Common.{◌≡◌, ◌+◌, ◌<◌, ◌*◌, ◌%◌, ℕ, length, slice_index, arith, sym, ap, ◌∙◌}
use Rattle.gq_dataspace.specs.internal.Frame_lists.{Lists, list_at}
use Rattle.gq_dataspace.specs.internal.List_trees.{parent_at}
use Rattle.gq_dataspace.specs.internal.Link_table.{table_view}
use Rattle.gq_dataspace.proofs.Dataspace_link_tables.{length-lists_in, length-list_at, at_some, frame_is_linked, reads}
use Rattle.gq_dataspace.proofs.frames.FrameTable.frame.Goals as goal

pub near_parent-parent-requires : goal.near_parent-parent-requires
near_parent-parent-requires c =
    let r = c.args.first in
    record { there = at_some c.args.self.now r (omega (arith, c.requires)); within = omega (arith, c.requires) }

pub overflow_mul-parent : goal.overflow_mul-parent
overflow_mul-parent c =
    let i = c.self.invariant in let s = c.self.inside in
    omega (arith, c.near_parent-parent.ensures.below, ap length c.self.view_is, length-lists_in s.links.items s.counts.items, i.few)

pub overflow_add-parent : goal.overflow_add-parent
overflow_add-parent c =
    let i = c.self.invariant in let s = c.self.inside in
    omega (arith, c.near_parent-parent.ensures.below, ap length c.self.view_is, length-lists_in s.links.items s.counts.items, i.few)

pub index-requires : goal.index-requires
index-requires c =
    let i = c.self.invariant in let s = c.self.inside in
    omega (arith, c.near_parent-parent.ensures.below, ap length c.self.view_is, length-lists_in s.links.items s.counts.items, i.room)

pub returns : goal.returns
returns c =
    let s = c.self.inside in let r = c.args.first in let k = c.args.index in let ls = table_view s in
    let long : length (list_at c.args.self.now r) ≡ length (list_at ls r) = ap (λ (ls : Lists). length (list_at ls r)) (sym c.self.view_is) in
    let many : length (list_at ls r) ≡ slice_index s.counts.items r = length-list_at s.links.items s.counts.items r in
    let within : 16 * c.near_parent-parent.result + c.args.index % 16 < length s.links.items =
    omega (arith, c.near_parent-parent.ensures.below, ap length c.self.view_is, length-lists_in s.links.items s.counts.items, c.self.invariant.room) in
    let up : c.near_parent-parent.result ≡ parent_at (list_at ls r) r k = c.near_parent-parent.ensures.value
    ∙ ap (λ (ls : Lists). parent_at (list_at ls r) r k) (sym c.self.view_is) in
    let is : c.index.result.now ≡ slice_index (list_at ls r) k =
    reads s.links.items (16 * c.near_parent-parent.result + c.args.index % 16) c.index.result.now within c.index.ensures
    ∙ ap (λ (m : ℕ). slice_index s.links.items (16 * m + k % 16)) up
    ∙ sym (frame_is_linked s.links.items s.counts.items r k (omega (arith, long, many, c.requires))) in
    record {
      value = is ∙ ap (λ (ls : Lists). slice_index (list_at ls r) k) c.self.view_is;
      below = omega (
        arith,
        is,
        c.self.invariant.below r k (omega (arith, long, c.requires)),
        ap length c.self.view_is,
        length-lists_in s.links.items s.counts.items,
      );
    }
