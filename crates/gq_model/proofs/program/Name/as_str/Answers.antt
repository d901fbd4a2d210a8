use Rattle.std.proofs.lemmas.Str.{IsUtf8-from_ascii}
use Rattle.gq_model.proofs.Ascii_names.{ascii_name}
use Rattle.gq_model.proofs.program.Name.as_str.Goals as goal

pub unreachable-requires : goal.unreachable-requires
unreachable-requires c =
    c.in-Err.ensures.cases.0 (rw c.as_bytes.ensures.bytes (IsUtf8-from_ascii c.args.self.now (ascii_name c.args.self.now c.as_bytes.ensures.name)))
