use Rattle.std.proofs.Common.{◌≡◌, suc, ◌-◌, ◌<◌, ◌++◌, ◌∷◌, [], ℕ, List, length, set, slice_index, arith, sym, ap, subst, ◌∙◌, length-set}
use Rattle.std.proofs.lemmas.List.{get_or-set_same}
use Rattle.gq_dataspace.specs.internal.Frame_lists.{Lists, list_at, AreBelow}
use Rattle.gq_dataspace.specs.internal.Link_table.{table_view, frames_in}
use Rattle.gq_dataspace.proofs.Dataspace_link_tables.{length-lists_in, length-list_at, some_below, pops, popped, reads, below_set, below_prefix}
use Rattle.gq_dataspace.proofs.frames.FrameTable.pop.Goals as goal

pub index-requires : goal.index-requires
index-requires c =
    let s = c.self.inside in let r = c.args.first in
    let long : length (list_at c.args.self.now r) ≡ slice_index s.counts.items r = ap (λ (ls : Lists). length (list_at ls r)) (sym c.self.view_is)
    ∙ length-list_at s.links.items s.counts.items r in
    omega (arith, some_below s.counts.items r (omega (arith, long, c.requires)))

pub overflow_sub-last : goal.overflow_sub-last
overflow_sub-last c =
    let s = c.self.inside in let r = c.args.first in
    let long : length (list_at c.args.self.now r) ≡ slice_index s.counts.items r = ap (λ (ls : Lists). length (list_at ls r)) (sym c.self.view_is)
    ∙ length-list_at s.links.items s.counts.items r in
    omega (arith, long, c.requires, reads s.counts.items r c.index.result.now (some_below s.counts.items r (omega (arith, long, c.requires))) c.index.ensures)

pub frame-frame-requires : goal.frame-frame-requires
frame-frame-requires c =
    let s = c.self.inside in let r = c.args.first in
    let long : length (list_at c.args.self.now r) ≡ slice_index s.counts.items r = ap (λ (ls : Lists). length (list_at ls r)) (sym c.self.view_is)
    ∙ length-list_at s.links.items s.counts.items r in
    omega (arith, long, c.requires, reads s.counts.items r c.index.result.now (some_below s.counts.items r (omega (arith, long, c.requires))) c.index.ensures)

pub index_mut-requires : goal.index_mut-requires
index_mut-requires c =
    let s = c.self.inside in let r = c.args.first in
    let long : length (list_at c.args.self.now r) ≡ slice_index s.counts.items r = ap (λ (ls : Lists). length (list_at ls r)) (sym c.self.view_is)
    ∙ length-list_at s.links.items s.counts.items r in
    omega (arith, some_below s.counts.items r (omega (arith, long, c.requires)))

pub invariant_of-self : goal.invariant_of-self
invariant_of-self c =
    let s = c.self.inside in let r = c.args.first in let i = c.self.invariant in let k : ℕ = c.index.result.now - 1 in
    let long : length (list_at c.args.self.now r) ≡ slice_index s.counts.items r = ap (λ (ls : Lists). length (list_at ls r)) (sym c.self.view_is)
    ∙ length-list_at s.links.items s.counts.items r in
    let e : slice_index s.counts.items r ≡ suc k =
    omega (
      arith,
      long,
      c.requires,
      reads s.counts.items r c.index.result.now (some_below s.counts.items r (omega (arith, long, c.requires)))
          c.index.ensures,
    ) in
    let prefix : List ℕ = frames_in s.links.items r k in let is = popped s.links.items s.counts.items r k e in
    let m : length (set s.counts.items r k) ≡ length s.counts.items = length-set s.counts.items r k in
    let below : AreBelow (set (table_view s) r prefix) (length s.counts.items) = below_set (table_view s) r (length s.counts.items) prefix i.below
    (below_prefix prefix (slice_index (list_at (table_view s) r) k ∷ []) (length s.counts.items) (subst (λ (xs : List ℕ). (j : ℕ) → j < length xs
    → slice_index xs j < length s.counts.items) is (i.below r))) in
    record {
      few = rw m i.few;
      room = rw m i.room;
      below = rw (m, pops s.links.items s.counts.items r k e) below;
    }

pub returns : goal.returns
returns c =
    let s = c.self.inside in let r = c.args.first in let k : ℕ = c.index.result.now - 1 in
    let long : length (list_at c.args.self.now r) ≡ slice_index s.counts.items r = ap (λ (ls : Lists). length (list_at ls r)) (sym c.self.view_is)
    ∙ length-list_at s.links.items s.counts.items r in
    let e : slice_index s.counts.items r ≡ suc k =
    omega (
      arith,
      long,
      c.requires,
      reads s.counts.items r c.index.result.now (some_below s.counts.items r (omega (arith, long, c.requires)))
          c.index.ensures,
    ) in
    let prefix : List ℕ = frames_in s.links.items r k in let ls = table_view s in
    let within : r < length ls = omega (arith, length-lists_in s.links.items s.counts.items, some_below s.counts.items r (omega (arith, e))) in
    let at : list_at (set ls r prefix) r ≡ prefix = get_or-set_same ls r prefix [] within in
    let y : c.frame-frame.result ≡ slice_index (list_at ls r) k = c.frame-frame.ensures.value
    ∙ ap (λ (ls : Lists). slice_index (list_at ls r) k) (sym c.self.view_is) in
    rw (pops s.links.items s.counts.items r k e, ← c.self.view_is) (record {
      last = popped s.links.items s.counts.items r k e ∙ (λ j. sym at j ++ sym y j ∷ []);
      alone = ap (set ls r) (sym at);
    })
