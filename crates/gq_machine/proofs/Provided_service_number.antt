-- Whether a leaf provides a service.
use Rattle.std.proofs.Common.{◌≡◌, ℕ, suc, Bool, true, false, if◌then◌else◌, List, [], ◌∷◌, Option, Some, None, refl}
use Rattle.std.specs.Prelude.{is_some, slice_get}
use Rattle.gq_model.specs.machine.Program.{text_eq}
use Rattle.gq_model.specs.machine.Scenario.{Component, Interface, Interfaces, Scenario, components, interface_in}
use Rattle.gq_model.proofs.Small_facts.{none_some}
use Rattle.gq_resolve.specs.NodeTables.{interface_number, number_named}
use Rattle.gq_laws.specs.Ready.{IsReady}

number_in : (k : ℕ) (service : List ℕ) (interfaces : Interfaces) (i : Interface) → interface_in service interfaces ≡ Some i
    → is_some (interface_number k service interfaces) ≡ true
number_in k service [] i e = absurd (none_some e)
number_in k service (d ∷ rest) i e = by (text_eq service d.0) e (λ f. number_in (suc k) service rest i f)
  where
    by : (b : Bool) → (if b then Some d.1 else interface_in service rest) ≡ Some i
        → (interface_in service rest ≡ Some i → is_some (interface_number (suc k) service rest) ≡ true)
        → is_some (if b then Some k else interface_number (suc k) service rest) ≡ true
    by true f further = refl
    by false f further = further f

-- a service that is provided has a number
pub named_some : (s : Scenario) (x : ℕ) (c : Component) → IsReady s → slice_get (components s) x ≡ Some c → (o : Option (List ℕ)) → c.node.provides ≡ o
    → is_some (number_named o (λ name. interface_number 0 name s.interfaces)) ≡ is_some o
named_some s x c ready there None e = refl
named_some s x c ready there (Some service) e = let i = ready.read.declared x c service there e in number_in 0 service s.interfaces i.0 i.1
