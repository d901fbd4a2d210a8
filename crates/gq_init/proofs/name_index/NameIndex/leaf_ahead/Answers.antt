use Rattle.std.proofs.Common.{◌∙◌, ◌+◌, [], ◌∷◌, ◌++◌, ap, sym, codes, arith, drop}
use Rattle.std.specs.Prelude.{slice_get}
use Rattle.std.proofs.lemmas.List.{drop_more, take_rest}
use Rattle.gq_model.specs.machine.Scenario.{Scenario}
use Rattle.gq_model.specs.texts.Letters.{is_name}
use Rattle.gq_scenario.specs.Document.{names_of, name_twice}
use Rattle.gq_resolve.specs.NodeTables.{leaf_rows}
use Rattle.gq_init.proofs.First_turn_line.{name_is_some, same_name}
use Rattle.gq_resolve.proofs.Node_table_rows.{row_at}
use Rattle.gq_init.proofs.Name_index_leaves.{name_in_row, numbered_there}
use Rattle.gq_init.proofs.name_index.NameIndex.leaf_ahead.Goals as goal

pub is_ahead-requires-clause-some : goal.is_ahead-requires-clause-some
is_ahead-requires-clause-some c = name_is_some c.as_bytes-name.result.now (ap is_name c.as_bytes-name.ensures.bytes ∙ c.as_bytes-name.ensures.name)

pub returns-then-is_ahead-clause-ahead : goal.returns-then-is_ahead-clause-ahead
returns-then-is_ahead-clause-ahead c =
    let s = c.args.table.now in
    let text = c.args.text.now in
    let name = c.as_bytes-name.result.now in
    let k = c.number_ahead-number.result.1 in
    let at = row_at s c.new-leaf.result (omega (arith, c.new-leaf.ensures, c.if-number-leaf_count.false, c.leaf_count.ensures.count)) in
    let row = slice_get (leaf_rows s) c.new-leaf.result in
    let own = c.as_bytes-name.ensures.bytes ∙ name_in_row s at.place at.component c.name-own.result.now row at.row c.name-own.ensures in
    let single = ap (λ (t : Scenario). name_twice (codes "init" ∷ []) (names_of t.nodes)) (sym c.scenario.ensures) ∙ c.laws.ensures.single in
    record {
      name = name;
      is = c.is_ahead.ensures c.if-is_ahead.true ∙ ap (λ n. name ++ drop n text) c.if-name-end.false
          ∙ (ap (λ t. name ++ t) (drop_more text k 0 (omega (arith, c.if-text-end.false)))
          ∙ (ap (λ b. name ++ (b ∷ drop (k + 1) text)) c.if-text-end-ne32.false ∙ ap (λ t. name ++ (32 ∷ t)) (sym (take_rest text (k + 1)))));
      named = ap is_name c.as_bytes-name.ensures.bytes ∙ c.as_bytes-name.ensures.name;
      number = numbered_there s name c.new-leaf.result at.component single at.there (same_name name at.component.node.name own);
    }
