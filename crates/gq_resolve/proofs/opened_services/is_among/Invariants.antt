use Rattle.std.proofs.Common.{◌≡◌, drop}
use Rattle.gq_model.specs.machine.Lists.{any_of}
use Rattle.gq_model.specs.machine.Program.{text_eq}
use Rattle.gq_resolve.proofs.opened_services.is_among.Given as goal

abbrev pub invariant-loop-place : goal.invariant-loop-place
invariant-loop-place l = any_of (text_eq l.service) l.services ≡ any_of (text_eq l.service) (drop l.place l.services)
