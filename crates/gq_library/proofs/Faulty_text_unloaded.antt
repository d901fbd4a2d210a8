-- What loading refuses with is the fault of the definition.
use Rattle.std.proofs.Common.{List, ℕ, subst}
use Rattle.std.specs.Prelude.{Result, Ok, Err, IfOk, IfErr}
use Rattle.gq_model.specs.machine.Scenario.{Scenario}
use Rattle.gq_load.specs.Load.{LoadRefusal, fault_text}
use Rattle.gq_load.specs.Load_faults.{Refuses, load_fault_text}
use Rattle.gq_load.specs.declared.load_fault.LoadFault.{LoadFault}
use Rattle.gq_load.specs.declared.load_fault.LoadError.TheVariants as error
use Rattle.gq_library.specs.Texts.{IsPut}

pub not_loaded : (f : LoadFault) (r : Result Scenario LoadRefusal) → Refuses (error.Fault f) r → IfOk r (λ _. ⊥)
not_loaded f (Ok s) refuses = refuses
not_loaded f (Err fault) refuses = tt

pub line_put : (f : LoadFault) (r : Result Scenario LoadRefusal) (old new : List ℕ) (written : ℕ) → Refuses (error.Fault f) r
    → IsPut (load_fault_text f) old new written → IfErr r (λ fault. IsPut (fault_text fault) old new written)
line_put f (Ok s) old new written refuses put = tt
line_put f (Err fault) old new written refuses put = subst (λ (text : List ℕ). IsPut text old new written) refuses put
