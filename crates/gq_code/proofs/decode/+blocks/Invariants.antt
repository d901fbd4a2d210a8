use Rattle.std.proofs.Common.{◌≡◌, ◌≤◌, ◌+◌, ◌*◌, length}
use Rattle.gq_code.specs.internal.Bodies.{body_in, continued}
use Rattle.gq_code.proofs.decode.+blocks.Given as goal

abbrev pub decreases-read_body : goal.decreases-read_body
decreases-read_body l = 3 * length l.bytes.now

abbrev pub decreases-choice : goal.decreases-choice
decreases-choice l = 3 * length l.bytes.now + 1

abbrev pub decreases-repeated : goal.decreases-repeated
decreases-repeated l = 3 * length l.bytes.now + 1

abbrev pub decreases-push_statement : goal.decreases-push_statement
decreases-push_statement l = 3 * length l.bytes.now + 2

abbrev pub decreases-read_body-loop-left : goal.decreases-read_body-loop-left
decreases-read_body-loop-left l = length l.left

-- the statements so far, with those of the bytes that are left, are all
abbrev pub invariant-read_body-loop-left : goal.invariant-read_body-loop-left
invariant-read_body-loop-left l = record {
  read : continued l.body (body_in l.depth l.count l.left) ≡ body_in l.fn.depth l.fn.before l.fn.bytes;
  shorter : length l.left ≤ length l.fn.bytes;
}
