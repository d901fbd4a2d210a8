use Rattle.std.proofs.Common.{◌∙◌, ◌++◌, ap, sym, map}
use Rattle.gq_world.specs.Account_lines.{accounts_text}
use Rattle.gq_outcomes.specs.Outcomes.{lines_of}
use Rattle.gq_outcomes.proofs.Search_facts.{rest_known, rest_new}
use Rattle.gq_outcomes.proofs.Search_worlds.{outcome_is, outcome_kept}
use Rattle.gq_outcomes.proofs.search.Search.put_outcome.Goals as goal

pub returns-then-is_found-clause-at : goal.returns-then-is_found-clause-at
returns-then-is_found-clause-at c t branches h =
    let w = c.args.walk.now in
    let s = w.world.scenario in
    let is = outcome_is s w c.requires.walk c.in_ok-text.text.items (c.in_ok-text.ensures ∙ ap (λ l. lines_of (map (λ v. v.items) l) ++ accounts_text w.world)
    c.as_slice.ensures.value) in
    rest_known s w.past.items c.args.self.now t branches c.as_slice-2.result.now (c.as_slice-2.ensures.value ∙ is)
    (sym c.is_found.ensures ∙ c.if-is_found.true) h

pub returns-clause-at : goal.returns-clause-at
returns-clause-at c t branches h =
    let w = c.args.walk.now in
    let s = w.world.scenario in
    let text = c.in_ok-text.text in
    let is = outcome_is s w c.requires.walk text.items (c.in_ok-text.ensures ∙ ap (λ l. lines_of (map (λ v. v.items) l) ++ accounts_text w.world)
    c.as_slice.ensures.value) in
    let past = c.in_ok-past.ensures.items ∙ c.as_slice-3.ensures.value in
    rest_new s w.past.items c.args.self.now t branches c.as_slice-2.result.now (record { text = text; past = c.in_ok-past.past }) c.push.new.self
    (c.as_slice-2.ensures.value ∙ is) (sym c.is_found.ensures ∙ c.if-is_found.false)
    (outcome_kept s w c.requires.walk (record { text = text; past = c.in_ok-past.past }) is past) c.in_ok-push.ensures.items h
