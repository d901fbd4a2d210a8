use Rattle.std.proofs.Common.{◌≡◌, ◌+◌, ◌-◌, length, arith, ap, ◌∙◌, length-append}
use Rattle.gq_pages.specs.Frame_bytes.{zeros}
use Rattle.gq_pages.proofs.Zeroed_byte_runs.{behind_none, behind_more, length-zeros}
use Rattle.gq_pages.proofs.memory.Cells.extend.Goals as goal

pub loop-k-init : goal.loop-k-init
loop-k-init c = record {
  at = c.requires.at_end.0;
  bytes = behind_none c.args.self.now.bytes (c.args.len - c.args.len) (omega arith);
  room = omega arith;
}

pub push-requires : goal.push-requires
push-requires c =
    let i = c.loop-k.invariant in let xs = c.args.self.now.bytes in let n = c.loop-k.k - c.args.len in
    let long : length c.loop-k.self.bytes ≡ length xs + n = ap length i.bytes ∙ length-append xs (zeros n) ∙ ap (λ m. length xs + m) (length-zeros n) in
    (i.at, omega (arith, long, c.requires.at_end.1), omega (arith, i.room, c.requires.room.0))

pub loop-k-preserved : goal.loop-k-preserved
loop-k-preserved c =
    let i = c.loop-k.invariant in
    record {
      at = c.push.ensures.0;
      bytes = c.push.ensures.1 ∙ behind_more c.args.self.now.bytes c.loop-k.self.bytes c.args.len c.loop-k.k (omega arith) i.bytes;
      room = omega (arith, c.push.ensures.2, i.room);
    }
