use Rattle.std.proofs.Common.{◌≡◌, ◌++◌, ◌+◌, ◌*◌, ◌∷◌, [], drop, IsTrue}
use Rattle.gq_model.specs.machine.Program.{size}
use Rattle.gq_model.specs.texts.Code.{body_code}
use Rattle.gq_program.specs.Statement_trees.{tree_of}
use Rattle.gq_code.specs.Codes.{has_code}
use Rattle.gq_code.proofs.encode.+bodies.Given as goal

abbrev pub decreases-encode_body : goal.decreases-encode_body
decreases-encode_body l = 2 * size l.body.now + 1

abbrev pub decreases-write_statement : goal.decreases-write_statement
decreases-write_statement l = 2 * size (tree_of (l.statement.now ∷ []))

-- the bytes so far, with those of the statements that are left, are the bytes of all
abbrev pub invariant-encode_body-loop-statement : goal.invariant-encode_body-loop-statement
invariant-encode_body-loop-statement l = record {
  written : l.code.items ++ body_code (tree_of (drop l.statement-index l.statement-items)) ≡ body_code (tree_of l.statement-items);
  in_range : IsTrue (has_code (tree_of (drop l.statement-index l.statement-items)));
}
