use Rattle.std.proofs.Common.{◌≡◌, ◌+◌, ◌<◌, ◌*◌, ◌%◌, ◌++◌, ◌∷◌, [], ℕ, length, set, slice_index, arith, sym, ap, subst, ◌∙◌, length-set}
use Rattle.gq_dataspace.specs.internal.Frame_lists.{Lists, list_at, AreApart, IsOwn, AreBelow}
use Rattle.gq_dataspace.specs.internal.List_trees.{parent_at}
use Rattle.gq_dataspace.specs.internal.Link_table.{table_view, link_at}
use Rattle.gq_dataspace.proofs.Dataspace_link_tables.{length-lists_in, length-list_at, pushes, reads, below_set, below_more}
use Rattle.gq_dataspace.proofs.frames.FrameTable.push.Goals as goal

pub index-count-requires : goal.index-count-requires
index-count-requires c = let s = c.self.inside in omega (arith, c.requires.there, ap length c.self.view_is, length-lists_in s.links.items s.counts.items)

pub near_parent-parent-requires-clause-within : goal.near_parent-parent-requires-clause-within
near_parent-parent-requires-clause-within c =
    let s = c.self.inside in let r = c.args.first in
    let long : length (list_at c.args.self.now r) ≡ slice_index s.counts.items r = ap (λ (ls : Lists). length (list_at ls r)) (sym c.self.view_is)
    ∙ length-list_at s.links.items s.counts.items r in
    omega (
      arith,
      long,
      reads s.counts.items r c.index-count.result.now (omega (
        arith,
        c.requires.there,
        ap length c.self.view_is,
        length-lists_in s.links.items s.counts.items,
      )) c.index-count.ensures,
    )

pub overflow_mul-parent : goal.overflow_mul-parent
overflow_mul-parent c =
    let i = c.self.invariant in let s = c.self.inside in
    omega (arith, c.near_parent-parent.ensures.below, ap length c.self.view_is, length-lists_in s.links.items s.counts.items, i.few)

pub overflow_add-parent : goal.overflow_add-parent
overflow_add-parent c =
    let i = c.self.invariant in let s = c.self.inside in
    omega (arith, c.near_parent-parent.ensures.below, ap length c.self.view_is, length-lists_in s.links.items s.counts.items, i.few)

pub index_mut-requires : goal.index_mut-requires
index_mut-requires c =
    let i = c.self.invariant in let s = c.self.inside in
    omega (arith, c.near_parent-parent.ensures.below, ap length c.self.view_is, length-lists_in s.links.items s.counts.items, i.room)

pub overflow_add-count : goal.overflow_add-count
overflow_add-count c =
    let s = c.self.inside in let r = c.args.first in
    let long : length (list_at c.args.self.now r) ≡ slice_index s.counts.items r = ap (λ (ls : Lists). length (list_at ls r)) (sym c.self.view_is)
    ∙ length-list_at s.links.items s.counts.items r in
    record {
      fits = omega (
        arith,
        long,
        reads s.counts.items r c.index-count.result.now (omega (
          arith,
          c.requires.there,
          ap length c.self.view_is,
          length-lists_in s.links.items s.counts.items,
        )) c.index-count.ensures,
        c.requires.few,
      );
    }

pub index_mut-requires-2 : goal.index_mut-requires-2
index_mut-requires-2 c = let s = c.self.inside in omega (arith, c.requires.there, ap length c.self.view_is, length-lists_in s.links.items s.counts.items)

pub invariant_of-self : goal.invariant_of-self
invariant_of-self c =
    let s = c.self.inside in let r = c.args.first in let i = c.self.invariant in let ls = table_view s in let n = length s.counts.items in
    let x = c.args.frame in
    let there : r < n = omega (arith, c.requires.there, ap length c.self.view_is, length-lists_in s.links.items s.counts.items) in
    let apart : AreApart ls = subst AreApart (sym c.self.view_is) c.requires.apart in
    let own : IsOwn ls r = subst (λ (ls : Lists). IsOwn ls r) (sym c.self.view_is) c.requires.own in
    let k : c.index-count.result.now ≡ slice_index s.counts.items r =
    reads s.counts.items r c.index-count.result.now (omega (
      arith,
      c.requires.there,
      ap length c.self.view_is,
      length-lists_in s.links.items s.counts.items,
    )) c.index-count.ensures in
    let up : c.near_parent-parent.result ≡ parent_at (list_at ls r) r c.index-count.result.now = c.near_parent-parent.ensures.value
    ∙ ap (λ (ls : Lists). parent_at (list_at ls r) r c.index-count.result.now) (sym c.self.view_is) in
    let place : 16 * c.near_parent-parent.result + c.index-count.result.now % 16 ≡ link_at (list_at ls r) r (slice_index s.counts.items r) =
    ap (λ (m : ℕ). 16 * m + c.index-count.result.now % 16) up ∙ ap (link_at (list_at ls r) r) k in
    let within : link_at (list_at ls r) r (slice_index s.counts.items r) < length s.links.items =
    omega (arith, place, c.near_parent-parent.ensures.below, ap length c.self.view_is, length-lists_in s.links.items s.counts.items, i.room) in
    let m : length (set s.counts.items r (slice_index s.counts.items r + 1)) ≡ n = length-set s.counts.items r (slice_index s.counts.items r + 1) in
    let below : AreBelow (set ls r (list_at ls r ++ x ∷ [])) n = below_set ls r n (list_at ls r ++ x ∷ []) i.below
    (below_more (list_at ls r) x n (i.below r) (omega (arith, c.requires.below, ap length c.self.view_is, length-lists_in s.links.items s.counts.items))) in
    rw (place, k) (record {
      few = rw m i.few;
      room = length-set s.links.items (link_at (list_at ls r) r (slice_index s.counts.items r)) x ∙ rw m i.room;
      below = rw (m, pushes s.links.items s.counts.items r x there apart own within) below;
    })

pub returns : goal.returns
returns c =
    let s = c.self.inside in let r = c.args.first in let i = c.self.invariant in let ls = table_view s in let n = length s.counts.items in
    let x = c.args.frame in
    let there : r < n = omega (arith, c.requires.there, ap length c.self.view_is, length-lists_in s.links.items s.counts.items) in
    let apart : AreApart ls = subst AreApart (sym c.self.view_is) c.requires.apart in
    let own : IsOwn ls r = subst (λ (ls : Lists). IsOwn ls r) (sym c.self.view_is) c.requires.own in
    let k : c.index-count.result.now ≡ slice_index s.counts.items r =
    reads s.counts.items r c.index-count.result.now (omega (
      arith,
      c.requires.there,
      ap length c.self.view_is,
      length-lists_in s.links.items s.counts.items,
    )) c.index-count.ensures in
    let up : c.near_parent-parent.result ≡ parent_at (list_at ls r) r c.index-count.result.now = c.near_parent-parent.ensures.value
    ∙ ap (λ (ls : Lists). parent_at (list_at ls r) r c.index-count.result.now) (sym c.self.view_is) in
    let place : 16 * c.near_parent-parent.result + c.index-count.result.now % 16 ≡ link_at (list_at ls r) r (slice_index s.counts.items r) =
    ap (λ (m : ℕ). 16 * m + c.index-count.result.now % 16) up ∙ ap (link_at (list_at ls r) r) k in
    let within : link_at (list_at ls r) r (slice_index s.counts.items r) < length s.links.items =
    omega (arith, place, c.near_parent-parent.ensures.below, ap length c.self.view_is, length-lists_in s.links.items s.counts.items, i.room) in
    rw (place, k, ← c.self.view_is) (pushes s.links.items s.counts.items r x there apart own within)
