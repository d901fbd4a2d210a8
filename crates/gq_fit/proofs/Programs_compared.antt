-- Programs that were compared, as those of the leaves of two scenarios.
use Rattle.std.proofs.Common.{◌≡◌, ◌∙◌, List, [], ◌∷◌, ap, refl, sym}
use Rattle.std.specs.Prelude.{map}
use Rattle.gq_model.specs.machine.Program.{Program}
use Rattle.gq_model.specs.machine.Scenario.{Component, Scenario, components}
use Rattle.gq_scenario.specs.Without_quantities.{unsized}
use Rattle.gq_fit.specs.Refitted.{IsRefitted, bare, giving_of, program_giving_nothing, programs_giving_nothing}

abbrev pub program_of : Component → Program
program_of c = c.node.program

giving_all : (cs : List Component) → map program_giving_nothing (map program_of cs) ≡ map giving_of cs
giving_all [] = refl
giving_all (c ∷ cs) = ap (λ ps. giving_of c ∷ ps) (giving_all cs)

abbrev pub programs : Scenario → List Program
programs s = map program_of (components (unsized s))

giving : (s : Scenario) (ps : List Program) → ps ≡ programs s → map program_giving_nothing ps ≡ programs_giving_nothing s
giving s ps e = ap (map program_giving_nothing) e ∙ giving_all (components (unsized s))

pub refitted : (old new : Scenario) (ps qs : List Program) → bare new ≡ bare old → ps ≡ programs new → qs ≡ programs old
    → map program_giving_nothing ps ≡ map program_giving_nothing qs → IsRefitted old new
refitted old new ps qs shape are were same =
    record { shape = shape; programs = sym (giving new ps are) ∙ (same ∙ giving old qs were) }

pub compared : (old new : Scenario) (ps qs : List Program) → ps ≡ programs new → qs ≡ programs old → IsRefitted old new
    → map program_giving_nothing ps ≡ map program_giving_nothing qs
compared old new ps qs are were r = giving new ps are ∙ (r.programs ∙ sym (giving old qs were))
