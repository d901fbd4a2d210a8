-- Why a scenario is not resolved, as code has it.
use Rattle.std.specs.Prelude.{◌≡◌, Option, Some, None, Result, Ok, Err}
use Rattle.gq_model.specs.machine.Amounts as amounts
use Rattle.gq_model.specs.machine.Routes.{No_route, Ambiguous, Provides_differs}
use Rattle.gq_model.specs.rules.Resolve.{Unresolved, Quanta_exceed, Caps_exceed, Bad_offer, Bad_after, Cycle, Unrouted}
use Rattle.gq_resolve.specs.declared.resolve_fault.ResolveFault.{ResolveFault}
use Rattle.gq_resolve.specs.declared.resolve_fault.ResolveFault.TheVariants as fault
use Rattle.gq_resolve.specs.declared.resolve_fault.ResolveError.{ResolveError}
use Rattle.gq_resolve.specs.declared.resolve_fault.ResolveError.TheVariants.{Memory, Fault}
use Rattle.gq_resolve.specs.declared.quanta.Resource.{Resource}
use Rattle.gq_resolve.specs.declared.quanta.Resource.TheVariants as resource

abbrev pub fault_of : ResolveFault → Unresolved
fault_of (fault.NoRoute leaf service) = Unrouted No_route leaf service
fault_of (fault.Ambiguous leaf service) = Unrouted Ambiguous leaf service
fault_of (fault.Cycle leaf) = Cycle leaf
fault_of (fault.QuantaExceed init) = Quanta_exceed init
fault_of (fault.ProvidesDiffers leaf service) = Unrouted Provides_differs leaf service
fault_of (fault.BadOffer init) = Bad_offer init
fault_of (fault.BadAfter leaf) = Bad_after leaf
fault_of (fault.CapsExceed init) = Caps_exceed init

-- the fault of what is refused
abbrev pub refused : {A : Type 0} → Result A ResolveFault → Option Unresolved
refused (Ok a) = None
refused (Err why) = Some (fault_of why)

-- the definition's fault or none, unless memory ran out
abbrev pub Finds : {A : Type 0} → Result A ResolveError → Option Unresolved → Type 0
Finds (Ok a) fault = fault ≡ None
Finds (Err (Memory why)) fault = Unit {0}
Finds (Err (Fault why)) fault = fault ≡ Some (fault_of why)

abbrev pub resource_of : Resource → amounts.Resource
resource_of resource.Ram = amounts.Ram
resource_of resource.Caps = amounts.Caps
