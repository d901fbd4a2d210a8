use Rattle.std.proofs.Common.{◌≡◌, ◌==◌, ◌∙◌, ap, inl, inr, true}
use Rattle.std.proofs.lemmas.Bool.{cases_Bool}
use Rattle.gq_outcomes.proofs.Search_facts.{none_there, search_over}
use Rattle.gq_outcomes.proofs.search.Search.next_choice.Goals as goal

pub returns-in-Some-clause-search : goal.returns-in-Some-clause-search
returns-in-Some-clause-search c n h = c.in-Some.ensures.search n (c.loop-self.invariant.search n h)

pub returns-in-Some-clause-leaf : goal.returns-in-Some-clause-leaf
returns-in-Some-clause-leaf c n h = c.in-Some.ensures.leaf n (c.loop-self.invariant.search n h)

pub loop-self-preserved : goal.loop-self-preserved
loop-self-preserved c =
    let before = c.loop-self.invariant in
    let step = c.in_default.ensures in
    record {
      search = λ n h. step.search n (before.search n h);
      left = step.left ∙ before.left;
      cut = step.cut ∙ before.cut;
      comes = λ s past u h. step.none s past u (before.comes s past u h);
    }

pub returns-clause-none : goal.returns-clause-none
returns-clause-none c s past u h =
    let self = c.loop-self.self in
    let empty : c.is_empty.result ≡ true = elim (cases_Bool c.is_empty.result) [ inl t ↦ t | inr f ↦ absurd (cc (f, c.loop-self-test.false)) ] in
    let none = none_there self.branches.items c.is_empty.result (c.is_empty.ensures ∙ ap (λ n. n == 0) self.branches.ok.0) empty in
    search_over s past self u none (c.loop-self.invariant.comes s past u h)
