use Rattle.std.proofs.Common.{◌≡◌, ◌*◌, ℕ, length, replicate, refl, arith, sym, ap, ◌∙◌}
use Rattle.std.proofs.lemmas.List.{length-replicate}
use Rattle.gq_dataspace.proofs.Dataspace_link_tables.{lists_of_none, below_of_none}
use Rattle.gq_dataspace.proofs.frames.FrameTable.new.Goals as goal

pub returns : goal.returns
returns c =
    let n = c.args.frames in
    let counts : c.in_ok-counts.counts.items ≡ replicate n 0 = c.in_ok-counts.ensures.items_if_clones_equal (λ y e. e) in
    rw counts (lists_of_none c.in_ok-links.links.items n n refl)

pub invariant_of-result : goal.invariant_of-result
invariant_of-result c =
    let n = c.args.frames in
    let counts : c.in_ok-counts.counts.items ≡ replicate n 0 = c.in_ok-counts.ensures.items_if_clones_equal (λ y e. e) in
    let links : c.in_ok-links.links.items ≡ replicate (16 * n) 0 = c.in_ok-links.ensures.items_if_clones_equal (λ y e. e) in
    let long : length c.in_ok-counts.counts.items ≡ n = ap length counts ∙ length-replicate n 0 in
    record {
      few = omega (arith, long, c.requires);
      room = ap length links ∙ length-replicate (16 * n) 0 ∙ ap (λ (m : ℕ). 16 * m) (sym long);
      below = rw (counts, lists_of_none c.in_ok-links.links.items n n refl) (below_of_none n (length (replicate n 0)));
    }
