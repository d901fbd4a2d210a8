use Rattle.std.proofs.Common.{◌≡◌, ◌<◌, ◌∙◌, IfOk, ap, sym, subst, length}
use Rattle.std.proofs.lemmas.List.{length-map}
use Rattle.gq_model.specs.machine.Scenario.{components, system}
use Rattle.gq_outcomes.specs.internal.Racy.{both, leading, with_race}
use Rattle.gq_outcomes.proofs.Racy_leaves.{race_count, racy_is}
use Rattle.gq_outcomes.proofs.Racy_lists.{get_or_same, leading_length}
use Rattle.gq_outcomes.proofs.racy.racy_servers.Goals as goal

pub leading-requires-clause-marked : goal.leading-requires-clause-marked
leading-requires-clause-marked c =
    let all = components c.args.table.now in
    let shared = c.as_slice.result.now in
    ap length (c.as_slice-2.ensures.value ∙ c.in_ok-marked.ensures all c.programs.ensures) ∙ race_count shared 0 all

pub both-requires : goal.both-requires
both-requires c =
    let all = components c.args.table.now in
    let shared = c.as_slice.result.now in
    let marked = ap length (c.as_slice-2.ensures.value ∙ c.in_ok-marked.ensures all c.programs.ensures) ∙ race_count shared 0 all in
    ap length c.as_slice-3.ensures.value ∙ c.in_ok-shared.ensures.shared.0 ∙ length-map all _
    ∙ sym (ap length (c.as_slice-4.ensures.value ∙ c.in_ok-leading.ensures) ∙ leading_length all c.as_slice-2.result.now (length all) marked)

pub returns : goal.returns
returns c =
    let s = c.args.table.now in
    let all = components s in
    let shared = c.in_ok-shared.shared.items in
    let d = c.in_ok-shared.ensures.defined in
    let marked = c.as_slice-2.ensures.value ∙ c.in_ok-marked.ensures all c.programs.ensures ∙ ap (λ l. with_race l 0 all) c.as_slice.ensures.value in
    let four = c.as_slice-4.ensures.value ∙ c.in_ok-leading.ensures ∙ ap (λ l. leading (length all) all l) marked in
    let is = racy_is (system s) shared d.count (λ x less.
    (let within = subst (λ n. x < n) (sym d.count) less in d.each x _ within (get_or_same shared x _ within))) in
    subst (λ l. IfOk c.both.result (λ r. r.items ≡ l)) ((λ i. both (c.as_slice-3.ensures.value i) (four i)) ∙ is) c.both.ensures
