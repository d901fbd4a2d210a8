use Rattle.std.proofs.Common.{◌≡◌, ℕ, List, [], length, replicate, arith, ap, ◌∙◌}
use Rattle.std.proofs.lemmas.List.{length-replicate}
use Rattle.gq_dataspace.specs.internal.Spaces_fields.{spaces_in}
use Rattle.gq_dataspace.proofs.Disjoint_frame_lists.{none_apart, none_long}
use Rattle.gq_dataspace.proofs.Dataspace_call_effects.{no_spaces, none_whole}
use Rattle.gq_dataspace.proofs.spaces.Spaces.new.Goals as goal

pub returns-clause-none : goal.returns-clause-none
returns-clause-none c =
    let e : c.in_ok-table.table ≡ replicate (length c.args.pages) [] = c.in_ok-table.ensures
    ∙ ap (λ (n : ℕ). replicate {A = List ℕ} n []) c.frame_count.ensures.all in
    ap (spaces_in c.args.pages) e ∙ no_spaces c.args.pages (length c.args.pages)

pub invariant_of-result : goal.invariant_of-result
invariant_of-result c =
    let n = length c.args.pages in
    let e : c.in_ok-table.table ≡ replicate n [] = c.in_ok-table.ensures ∙ ap (λ (n : ℕ). replicate {A = List ℕ} n []) c.frame_count.ensures.all in
    rw e (record {
      same = length-replicate {A = List ℕ} n [];
      few = omega (arith, c.frame_count.ensures.all, c.frame_count.ensures.few);
      short = λ r. omega (arith, none_long n r);
      whole = none_whole c.args.pages n;
      apart = none_apart n;
    })
