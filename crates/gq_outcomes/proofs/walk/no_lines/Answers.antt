use Rattle.std.proofs.Common.{◌∙◌, ◌+◌, ap, sym, subst, map, arith}
use Rattle.std.proofs.lemmas.List.{length-map}
use Rattle.gq_outcomes.specs.internal.Walks.{AreNone}
use Rattle.gq_outcomes.proofs.Walk_facts.{all_none, none_more}
use Rattle.gq_outcomes.proofs.walk.no_lines.Goals as goal

pub loop-leaf-preserved : goal.loop-leaf-preserved
loop-leaf-preserved c =
    let l = c.loop-leaf in
    let items = c.in_ok-push.ensures.items in
    record {
      count = sym c.push.new.self.ok.0 ∙ c.in_ok-push.ensures.len ∙ ap (λ n. n + 1) (l.said.ok.0 ∙ l.invariant.count);
      none = subst (λ xs. AreNone (l._leaf + 1) (map (λ v. v.items) xs)) (sym items)
          (none_more (λ v. v.items) l.said.items c.new.result l._leaf c.new.ensures.items l.invariant.none l.invariant.count);
    }

pub returns-clause-none : goal.returns-clause-none
returns-clause-none c all count =
    let l = c.loop-leaf in
    let same = length-map l.said.items (λ v. v.items) in
    let put = l.invariant.count in
    all_none (map (λ v. v.items) l.said.items) l._leaf all (omega (arith, same, put)) (omega (arith, same, put, count)) l.invariant.none
