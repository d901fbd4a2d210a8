use Rattle.std.proofs.Common.{◌∙◌, [], ◌∷◌, ap, sym, codes, arith}
use Rattle.std.specs.Prelude.{slice_get}
use Rattle.gq_model.specs.machine.Program.{text_eq}
use Rattle.gq_model.specs.machine.Scenario.{Scenario}
use Rattle.gq_model.specs.texts.Letters.{is_name}
use Rattle.gq_scenario.specs.Document.{names_of, name_twice}
use Rattle.gq_model.proofs.Small_facts.{text_is}
use Rattle.gq_resolve.specs.NodeTables.{leaf_rows}
use Rattle.gq_resolve.proofs.Node_table_rows.{row_at}
use Rattle.gq_init.proofs.Name_index_leaves.{name_in_row, numbered_there}
use Rattle.gq_init.proofs.name_index.NameIndex.leaf_likely.Goals as goal

pub returns-then-same_text-clause-name : goal.returns-then-same_text-clause-name
returns-then-same_text-clause-name c =
    let same = text_is c.args.name.now c.as_bytes.result.now (sym c.same_text.ensures ∙ c.if-same_text.true) in
    ap is_name (same ∙ c.as_bytes.ensures.bytes) ∙ c.as_bytes.ensures.name

pub returns-then-same_text-clause-number : goal.returns-then-same_text-clause-number
returns-then-same_text-clause-number c =
    let s = c.args.table.now in
    let at = row_at s c.new-leaf.result (omega (arith, c.new-leaf.ensures, c.if-number-leaf_count.false, c.leaf_count.ensures.count)) in
    let row = slice_get (leaf_rows s) c.new-leaf.result in
    let own = c.as_bytes.ensures.bytes ∙ name_in_row s at.place at.component c.name-own.result.now row at.row c.name-own.ensures in
    let single = ap (λ (t : Scenario). name_twice (codes "init" ∷ []) (names_of t.nodes)) (sym c.scenario.ensures) ∙ c.laws.ensures.single in
    numbered_there s c.args.name.now c.new-leaf.result at.component single at.there
    (ap (text_eq c.args.name.now) (sym own) ∙ (sym c.same_text.ensures ∙ c.if-same_text.true))
