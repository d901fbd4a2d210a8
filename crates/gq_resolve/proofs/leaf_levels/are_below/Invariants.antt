use Rattle.std.proofs.Common.{◌<◌, ℕ, get_or}
use Rattle.gq_resolve.proofs.leaf_levels.are_below.Given as goal

-- the leaves so far stand below
abbrev pub invariant-loop-server : goal.invariant-loop-server
invariant-loop-server l = (k : ℕ) → k < l.server-index → get_or l.levels (get_or l.servers k 0) 0 < l.level
