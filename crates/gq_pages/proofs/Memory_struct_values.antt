-- The machine values of the structs of `memory`: what is owned reports them, and is made of nothing.
use Rattle.std.proofs.Common.{◌≡◌, List, [], ◌∷◌, ◌++◌, refl, ◌∙◌}
use seplogic.Ra.Ura.{Ura}
use mir.Val.{Val, vstruct, vcons, vnil, of_list}
use base.Logic.{ent, emp}
use base.Fml.{Fml}
use types.Logic.{Logic, sem}
use denote.RattleType.{RattleType}
use denote.Shadow.{shadow, makes_shadow}
use denote.Struct.Struct.{Struct}

-- a struct by its fields alone: what it owns does not read its name
abbrev pub plainly : List RattleType → RattleType
plainly Rs = Struct (record { name = []; args = []; types = []; fields = Rs })

abbrev pub cells_val : Val
cells_val = vstruct vnil

abbrev pub cells_fields : List Val → Fml
cells_fields = (plainly []).own_val tt

pub cells_reported : (vs : List Val) → shadow (cells_fields vs) → vs ≡ cells_val ∷ []
cells_reported vs s = s.1.0

pub cells_made : {M : Type 1} {𝓤 : Ura M} (𝓛 : Logic 𝓤) → ent 𝓤 (emp 𝓤) (sem 𝓛 (cells_fields (cells_val ∷ [])))
cells_made 𝓛 = makes_shadow 𝓛 (cells_fields (cells_val ∷ [])) (λ _. (tt, tt)) (tt, (refl, tt))

abbrev pub lease_val : Val
lease_val = vstruct (vcons (vstruct vnil) vnil)

abbrev pub lease_fields : List Val → Fml
lease_fields = (plainly (plainly [] ∷ [])).own_val (tt, tt)

pub lease_reported : (vs : List Val) → shadow (lease_fields vs) → vs ≡ lease_val ∷ []
lease_reported vs s = s.1.0 ∙ (λ i. vstruct (of_list (s.1.1.0.1.0 i ++ [])) ∷ [])

pub lease_made : {M : Type 1} {𝓤 : Ura M} (𝓛 : Logic 𝓤) → ent 𝓤 (emp 𝓤) (sem 𝓛 (lease_fields (lease_val ∷ [])))
lease_made 𝓛 = makes_shadow 𝓛 (lease_fields (lease_val ∷ [])) (λ _. (tt, ((λ _. (tt, tt)), tt))) ((vstruct vnil ∷ [], tt), (refl, ((tt, (refl, tt)), tt)))
