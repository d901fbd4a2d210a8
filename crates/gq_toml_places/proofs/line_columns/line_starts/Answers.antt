use Rattle.std.proofs.Common.{arith}
use Rattle.gq_toml_places.proofs.Line_start_table.{starts_first, starts_more, starts_same}
use Rattle.gq_toml_places.proofs.line_columns.line_starts.Goals as goal
use Rattle.gq_toml_places.proofs.line_columns.line_starts.Goals.{then-byte-eq10+in_ok-push-2, else-byte-eq10}

pub loop-at-init : goal.loop-at-init
loop-at-init c = rw (c.in_ok-push.ensures.items, c.new-starts.ensures.items) (starts_first _)

pub loop-at-preserved : goal.loop-at-preserved
loop-at-preserved c =
    elim c.if-byte-eq10.branch [
      | then-byte-eq10+in_ok-push-2 w ↦
          rw (w.starts-is, w.in_ok-push-2.ensures.items) (starts_more _ _ _ c.loop-at.invariant (omega arith) w.if-byte-eq10.true)
      | else-byte-eq10 w ↦ rw w.starts-is (starts_same _ _ _ c.loop-at.invariant (omega arith) w.if-byte-eq10.false)
    ]
