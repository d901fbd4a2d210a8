use Rattle.gq_reader.proofs.Hex_digits.{decoded_bytes, no_other_error}
use Rattle.gq_reader.proofs.hexadecimal.unhex.Goals as goal

pub unreachable-requires : goal.unreachable-requires
unreachable-requires c = no_other_error c.args.text.now c.in-Err.error c.requires c.in_default.not-OutOfMemory c.in-Err.ensures.err

pub returns-in-Ok : goal.returns-in-Ok
returns-in-Ok c = decoded_bytes c.args.text.now c.in-Ok.bytes.items c.in-Ok.ensures.ok
