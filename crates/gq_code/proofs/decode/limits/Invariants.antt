use Rattle.std.proofs.Common.{◌≡◌, ◌-◌, take, length}
use Rattle.gq_model.specs.texts.Decode.{limits_at}
use Rattle.gq_code.specs.internal.Decoding.{after_limits}
use Rattle.gq_code.proofs.decode.limits.Given as goal

-- the values so far, with those that are left, are all
abbrev pub invariant-loop-i : goal.invariant-loop-i
invariant-loop-i l = record {
  read : after_limits (take l.i l.limits) (limits_at (8 - l.i) l.bits l.left) ≡ limits_at 8 l.given l.bytes;
  eight : length l.limits ≡ 8;
}
