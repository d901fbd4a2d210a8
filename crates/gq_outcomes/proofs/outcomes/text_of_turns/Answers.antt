use Rattle.std.proofs.Common.{◌∙◌, ◌<◌, ◌≤◌, ◌-◌, ◌++◌, All, length, map, subst, sym, arith}
use Rattle.gq_model.specs.machine.Scenario.{components}
use Rattle.gq_outcomes.specs.Text.{many_lines, row_line, rows_of}
use Rattle.gq_outcomes.specs.internal.Search_states.{HasTurns}
use Rattle.gq_outcomes.specs.internal.Turn_rows.{past_of}
use Rattle.gq_views.specs.Listing.{joined}
use Rattle.gq_outcomes.proofs.Outcome_endings.{no_outcome_past, no_outcome_zero, turns_are}
use Rattle.gq_outcomes.proofs.outcomes.text_of_turns.Goals as goal

pub turns_text-requires : goal.turns_text-requires
turns_text-requires c =
    let n = length (components c.args.walk.now.world.scenario) in
    let k = c.args.number - 1 in
    let f = c.index-found.result.now in
    let less : k < length c.args.search.now.found.items = omega arith in
    let turns : HasTurns n f = subst (HasTurns n) (sym c.index-found.ensures) (c.requires.found k f less) in
    subst (λ s. All (λ x. x < length (components s)) c.as_slice.result.now) (sym c.table.ensures)
    (subst (λ l. All (λ x. x < n) l) (sym c.as_slice.ensures.value) turns)

pub returns-then-number-eq0-clause-refused : goal.returns-then-number-eq0-clause-refused
returns-then-number-eq0-clause-refused c t h =
    no_outcome_zero c.args.walk.now.world.scenario c.args.search.now t h c.args.number c.if-number-eq0.true

pub returns-then-place-len-clause-refused : goal.returns-then-place-len-clause-refused
returns-then-place-len-clause-refused c t h =
    let n = c.args.number in
    let some : 0 < n = omega arith in
    let past : length c.args.search.now.found.items ≤ n - 1 = omega arith in
    no_outcome_past c.args.walk.now.world.scenario c.args.search.now t h n some past

pub returns-clause-text : goal.returns-clause-text
returns-clause-text c t h =
    let n = c.args.number in
    let some : 0 < n = omega arith in
    let less : n - 1 < length c.args.search.now.found.items = omega arith in
    turns_are c.args.walk.now.world.scenario c.args.search.now t h n c.index-found.result.now c.in_ok-text.text.items some less c.index-found.ensures
    (c.in_ok-text.ensures ∙ (λ i. joined (many_lines (length (c.as_slice.ensures.value i))
    ++ map (row_line (components (c.table.ensures i))) (rows_of (past_of (c.as_slice.ensures.value i))))))
