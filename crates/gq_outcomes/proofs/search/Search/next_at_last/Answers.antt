use Rattle.std.proofs.Common.{◌≡◌, ◌<◌, ◌-◌, ◌∙◌, ap, sym, subst, length, get_or, take, arith}
use Rattle.std.proofs.lemmas.List.{take-set}
use Rattle.std.specs.Prelude.{slice_set}
use Rattle.std.specs.Vec.{with_item}
use Rattle.gq_outcomes.specs.internal.Search_states.{ComesBy, HasLeaves}
use Rattle.gq_outcomes.proofs.Search_facts.{none_next, same_at, some_next}
use Rattle.gq_outcomes.proofs.search.Search.next_at_last.Goals as goal

pub returns-in-Some-clause-leaf : goal.returns-in-Some-clause-leaf
returns-in-Some-clause-leaf c n h =
    let bs = c.args.self.now.branches.items in
    let b = c.index_mut.result.now in
    let k = c.len-last.result - 1 in
    let some = c.requires.some in
    let less : k < length bs = omega arith in
    c.in-Some.ensures.leaf n (subst (HasLeaves n) (sym c.index_mut.ensures.value) (h.branches k b less))

pub returns-in-Some-clause-next : goal.returns-in-Some-clause-next
returns-in-Some-clause-next c s past u h =
    let self = c.args.self.now in
    let bs = self.branches.items in
    let k = c.len-last.result - 1 in
    let b = c.index_mut.result.now in
    let new = c.advance.new.self in
    let place : k ≡ length bs - 1 = omega arith in
    let is : b ≡ get_or bs (length bs - 1) b = c.index_mut.ensures.value ∙ ap (λ n. get_or bs n b) place in
    let v = with_item self.branches k new in
    let first : b ≡ c.index.result.now = same_at bs k b c.index.result.now (omega arith) c.index_mut.ensures.value c.index.ensures in
    subst (λ n. ComesBy s past (record self { branches = v }) n c.in-Some.leaf u) (ap (λ b. b.turns) first)
    (some_next s past self u b new c.in-Some.leaf v c.requires.some is c.in-Some.ensures.turns c.in-Some.ensures.next (ap (λ n. slice_set bs n new) place) h)

pub returns-in-None-clause-none : goal.returns-in-None-clause-none
returns-in-None-clause-none c s past u h =
    let self = c.args.self.now in
    let bs = self.branches.items in
    let k = c.len-last.result - 1 in
    let b = c.index_mut.result.now in
    let new = c.advance.new.self in
    let place : k ≡ length bs - 1 = omega arith in
    let is : b ≡ get_or bs (length bs - 1) b = c.index_mut.ensures.value ∙ ap (λ n. get_or bs n b) place in
    none_next s past self u b c.truncate.new.self c.requires.some is c.in-None.ensures.none
    (c.truncate.ensures.items ∙ take-set bs k new ∙ ap (λ n. take n bs) place) h
