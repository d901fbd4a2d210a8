use Rattle.std.proofs.Common.{◌≡◌, drop}
use Rattle.gq_statements.specs.internal.Content_tests.{are_empty}
use Rattle.gq_statements.proofs.client_replies.are_empty.Given as goal

-- the contents so far are empty
abbrev pub invariant-loop-content : goal.invariant-loop-content
invariant-loop-content l = are_empty (drop l.content-index l.contents) ≡ are_empty l.contents
