-- What a leaf opens, by the servers that its table has.
use Rattle.std.proofs.Common.{◌≡◌, ◌∙◌, ℕ, suc, ◌+◌, ◌<◌, cond, List, [], ◌∷◌, ◌++◌, map, length, get_or, drop, Option, ap, sym, refl}
use Rattle.std.proofs.Common.{append_assoc, append-nil}
use Rattle.gq_model.specs.declared.program.Instruction.{Instruction}
use Rattle.gq_model.specs.declared.program.Instruction.TheVariants.{Open}
use Rattle.gq_model.specs.declared.section.Section.{Section}
use Rattle.gq_model.specs.machine.Program.{Statements, Done, Do, If, Loop, size}
use Rattle.gq_model.specs.machine.Scenario.{Component, Scenario, components}
use Rattle.gq_model.specs.machine.Sections.{is_own_section}
use Rattle.gq_model.specs.rules.Use.{is_there, opened_by, services, services_in, services_of}
use Rattle.gq_resolve.specs.Served.{once, server_among}
use Rattle.gq_resolve.proofs.Mapped_list_growth.{next_is}
use Rattle.gq_views.specs.internal.Table_leaves.{LeafOfAll, served_by}
use Rattle.gq_views.proofs.Table_leaf_servers.{AreAmong, among_once, among_parts, among_self, served_each, served_is}
use Rattle.gq_races.specs.Races.{each_stated, found_in, stated_in}
use Rattle.gq_races.specs.internal.Openers.{first_servers, later_servers, opened_among, opened_from, opens_among}

module _ (l : LeafOfAll) where
  abbrev all : List (List ℕ)
  all = services l.component

  abbrev server : List ℕ → Option ℕ
  server = server_among l.all l.component

  first_served : (sections : List (Section × Statements)) → AreAmong all (services_in sections)
      → first_servers (served_by l) sections ≡ first_servers server sections
  first_served [] h = refl
  first_served (p ∷ rest) h =
      let parts = among_parts all (services_of p.1) (services_in rest) h in
      let here = served_each (λ s o. o) l (once (services_of p.1)) (among_once all (services_of p.1) parts.0) in
      λ e. cond (is_own_section p.0) (here e) [] ++ first_served rest parts.1 e

  later_served : (sections : List (Section × Statements)) → AreAmong all (services_in sections)
      → later_servers (served_by l) sections ≡ later_servers server sections
  later_served [] h = refl
  later_served (p ∷ rest) h =
      let parts = among_parts all (services_of p.1) (services_in rest) h in
      let here = served_each (λ s o. o) l (once (services_of p.1)) (among_once all (services_of p.1) parts.0) in
      λ e. cond (is_own_section p.0) [] (here e) ++ later_served rest parts.1 e

  one_served : (x : ℕ) (i : Instruction) → AreAmong all (opened_by i) → opens_among (served_by l) x i ≡ opens_among server x i
  one_served x (Open place service n) h = ap (is_there x) (served_is l service h.0)
  one_served x _ h = refl

  found_served : (x n : ℕ) (b : Statements) → AreAmong all (services_of b)
      → found_in (opens_among (served_by l) x) n b ≡ found_in (opens_among server x) n b
  found_served x n Done h = refl
  found_served x n (Do i rest) h =
      let parts = among_parts all (opened_by i) (services_of rest) h in
      λ e. cond (one_served x i parts.0 e) ((n, i) ∷ []) [] ++ found_served x (suc n) rest parts.1 e
  found_served x n (If arm other rest) h =
      let parts = among_parts all (services_of arm ++ services_of other) (services_of rest) h in
      let arms = among_parts all (services_of arm) (services_of other) parts.0 in
      λ e. found_served x (suc n) arm arms.0 e ++ found_served x (suc n + size arm) other arms.1 e
      ++ found_served x (suc n + size arm + size other) rest parts.1 e
  found_served x n (Loop count body rest) h =
      let parts = among_parts all (services_of body) (services_of rest) h in
      λ e. found_served x (suc n) body parts.0 e ++ found_served x (suc n + size body) rest parts.1 e

  stated_served : (x : ℕ) (leaf : List ℕ) (sections : List (Section × Statements)) → AreAmong all (services_in sections)
      → stated_in (λ section. opens_among (served_by l) x) leaf sections ≡ stated_in (λ section. opens_among server x) leaf sections
  stated_served x leaf [] h = refl
  stated_served x leaf (p ∷ rest) h =
      let parts = among_parts all (services_of p.1) (services_in rest) h in
      λ e. each_stated leaf p.0 (found_served x 1 p.1 parts.0 e) ++ stated_served x leaf rest parts.1 e

-- where a leaf opens sessions
pub opened_served : (s : Scenario) (l : LeafOfAll) (x : ℕ) → l.all ≡ components s
    → stated_in (λ section. opens_among (served_by l) x) l.component.label l.component.node.program.sections
    ≡ opened_among (components s) x (l.component ∷ [])
opened_served s l x all =
    stated_served l x l.component.label l.component.node.program.sections (among_self (services l.component))
    ∙ ap (λ cs. stated_in (λ section. opens_among (server_among cs l.component) x) l.component.label l.component.node.program.sections) all
    ∙ sym (append-nil (stated_in (λ section. opens_among (server_among (components s) l.component) x) l.component.label l.component.node.program.sections))

-- the servers of what it opens
pub servers_served : (s : Scenario) (l : LeafOfAll) (o : List (Option ℕ) × List (Option ℕ)) → l.all ≡ components s
    → o.0 ≡ first_servers (served_by l) l.component.node.program.sections → o.1 ≡ later_servers (served_by l) l.component.node.program.sections
    → o ≡ opened_from (components s) l.component
servers_served s l o all first later =
    let sections = l.component.node.program.sections in
    let among = among_self (services l.component) in
    (λ e. ((first ∙ first_served l sections among) e, (later ∙ later_served l sections among) e))
    ∙ ap (λ cs. opened_from cs l.component) all

-- one leaf more
pub servers_put : (all : List Component) (i : ℕ) (c : Component) → i < length all → c ≡ get_or all i c
    → (old new : List (List (Option ℕ) × List (Option ℕ))) (o : List (Option ℕ) × List (Option ℕ)) → new ≡ old ++ o ∷ [] → o ≡ opened_from all c
    → new ++ map (opened_from all) (drop (i + 1) all) ≡ old ++ map (opened_from all) (drop i all)
servers_put all i c within is old new o put made =
    ap (λ l. l ++ map (opened_from all) (drop (i + 1) all)) put
    ∙ append_assoc old (o ∷ []) (map (opened_from all) (drop (i + 1) all))
    ∙ ap (λ p. old ++ p ∷ map (opened_from all) (drop (i + 1) all)) made
    ∙ ap (λ l. old ++ map (opened_from all) l) (sym (next_is all i c within is))
