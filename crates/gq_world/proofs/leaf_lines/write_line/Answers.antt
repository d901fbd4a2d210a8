use Rattle.std.proofs.Common.{◌≡◌, ◌∙◌, Option, IfSome, ap, sym, subst}
use Rattle.std.specs.Prelude.{slice_get}
use Rattle.gq_model.specs.machine.Doing as doing
use Rattle.gq_model.specs.machine.Run.{line_of}
use Rattle.gq_model.specs.machine.Scenario.{Component, components}
use Rattle.gq_resolve.specs.NodeTables.{node_rows}
use Rattle.gq_resolve.proofs.Node_table_rows.{leaf_at, label_of_node}
use Rattle.gq_output.specs.Writer_failures.{Writes}
use Rattle.gq_world.specs.World_between_turns.{line_reported}
use Rattle.gq_world.proofs.World_turn_facts.{label_reported}
use Rattle.gq_world.proofs.leaf_lines.write_line.Goals as goal

pub returns : goal.returns
returns g c =
    let t = c.args.table.now in
    let x = c.args.leaf in
    let text = c.args.text.now in
    let leaf = leaf_at (node_rows t) c.node.result x (components t) c.requires.leaf c.node.ensures.node in
    let label = label_of_node (node_rows t) c.node.result leaf.component c.label.result.now leaf.node c.label.ensures.label in
    let reported : IfSome (slice_get (components t) x) (λ d. c.label.result.now ≡ d.label) =
    subst (λ (o : Option Component). IfSome o (λ d. c.label.result.now ≡ d.label)) (sym leaf.there) label in
    let same = label_reported (components t) x c.label.result.now c.requires.leaf reported in
    let line : c.text_line-line.result.items ≡ line_reported t x (doing.Line text) =
    c.text_line-line.ensures ∙ ap (λ l. line_of l (doing.Line text)) same in
    subst (λ l. Writes g.W.Write.contents c.args.out.now c.put.new.out l c.put.result) (c.as_slice.ensures.value ∙ line) c.put.ensures
