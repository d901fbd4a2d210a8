use Rattle.std.proofs.Common.{◌≡◌, ◌∙◌, IfOk, subst}
use Rattle.gq_model.specs.machine.Scenario.{Scenario}
use Rattle.gq_views.specs.Tree.{graph_text}
use Rattle.gq_views.proofs.graph.accepted_text.Goals as goal

pub returns : goal.returns
returns c =
    subst (λ (s : Scenario). IfOk c.drawn_text-text.result (λ text. text.items ≡ graph_text s)) (c.in_ok-drawn.ensures ∙ c.table.ensures)
    c.drawn_text-text.ensures
