-- Leaves one after the other.
use Rattle.std.proofs.Common.{◌≡◌, ℕ, suc, ◌+◌, ◌<◌, List, ◌∷◌, length, drop, Option, Some, None, ap, sym, ◌∙◌, subst, add-one, get_or}
use Rattle.std.proofs.Math.Seq.{drop-cons}
use Rattle.gq_model.specs.machine.Lists.{or_first}
use Rattle.gq_model.specs.machine.Scenario.{Component}
use Rattle.gq_load.specs.Load.{LoadRefusal, source_fault, sources_fault}
use Rattle.gq_load.specs.Load_faults.{PrintsFault}
use Rattle.gq_load.specs.declared.load_fault.LoadError.{LoadError}
use Rattle.gq_load.specs.declared.load_fault.LoadError.TheVariants as error

-- the element that stands there comes next
pub here_is : {A : Type 0} (l : List A) (i : ℕ) (a : A) → i < length l → a ≡ get_or l i a → drop i l ≡ a ∷ drop (i + 1) l
here_is l i a less e =
    drop-cons l i a less ∙ (ap (λ h. h ∷ drop (suc i) l) (sym e) ∙ ap (λ n. a ∷ drop n l) (sym (add-one i)))

-- an error for the first of two faults is one for both
pub gives_first : (e : LoadError) (o p : Option LoadRefusal) → PrintsFault e o → PrintsFault e (or_first o p)
gives_first error.Memory o p h = tt
gives_first (error.Fault f) None p h = absurd h
gives_first (error.Fault f) (Some fault) p h = h

-- the first leaf whose text or code is no program gives the fault
pub refused_here : (cs : List Component) (i : ℕ) (c : Component) (e : LoadError) → i < length cs → c ≡ get_or cs i c
    → PrintsFault e (source_fault c.node.name c.node.source)
    → sources_fault (drop i cs) ≡ sources_fault cs → PrintsFault e (sources_fault cs)
refused_here cs i c e less is h same =
    let rest = sources_fault (drop (i + 1) cs) in
    subst (PrintsFault e) (sym (ap sources_fault (here_is cs i c less is)) ∙ same) (gives_first e (source_fault c.node.name c.node.source) rest h)
