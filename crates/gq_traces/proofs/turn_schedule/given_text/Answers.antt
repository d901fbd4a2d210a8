-- The name of a leaf, what it is given, and a line feed.
use Rattle.std.proofs.Common.{◌≡◌, ◌∙◌, List, ◌∷◌, ◌++◌, [], ℕ, ap}
use Rattle.std.specs.Prelude.{slice_get}
use Rattle.gq_model.specs.machine.Scenario.{components}
use Rattle.gq_traces.specs.Schedule.{given_part, name_at}
use Rattle.gq_traces.proofs.Leaf_table_names.{name_of}
use Rattle.gq_traces.proofs.turn_schedule.given_text.Goals as goal

pub returns : goal.returns
returns c =
    let s = c.args.table.now in
    let name = c.as_bytes.result.now in
    let called : name ≡ name_at (slice_get (components s) c.args.leaf) =
    c.as_bytes.ensures.bytes ∙ name_of s c.args.leaf c.name.result.now c.requires c.name.ensures in
    c.extend-2.ensures ∙ ap (λ (l : List ℕ). l ++ 10 ∷ []) (c.extend_part.ensures.part
    ∙ ap (λ (l : List ℕ). l ++ given_part c.args.act) (c.extend.ensures ∙ (ap (λ (l : List ℕ). l ++ name) c.new-line.ensures ∙ called)))
