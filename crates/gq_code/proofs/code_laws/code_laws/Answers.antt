use Rattle.gq_code.proofs.Programs_back.{read_back, one_spelling}
use Rattle.gq_code.proofs.Program_laws.{code_is_bytes, only_code, reports_programs, refuses_parts}
use Rattle.gq_code.proofs.code_laws.code_laws.Goals as goal

pub returns : goal.returns
returns c = record {
  bytes = code_is_bytes;
  read_back = read_back;
  only_code = only_code;
  reports_programs = reports_programs;
  ends_itself = one_spelling;
  refuses_parts = refuses_parts;
}
