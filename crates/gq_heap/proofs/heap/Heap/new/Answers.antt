use Rattle.std.proofs.Common.{[], refl}
use Rattle.gq_heap.proofs.New_heap_laws.{new_keeps}
use Rattle.gq_heap.proofs.heap.Heap.new.Goals as goal

pub returns-clause-keeps : goal.returns-clause-keeps
returns-clause-keeps c = new_keeps _ refl refl refl

pub returns-clause-kept : goal.returns-clause-kept
returns-clause-kept c = λ st. record { places = []; keeps = new_keeps _ refl refl refl st }
