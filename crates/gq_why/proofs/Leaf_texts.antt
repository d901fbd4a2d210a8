-- The text of a leaf, put part by part.
use Rattle.std.proofs.Common.{◌≡◌, ℕ, zero, suc, ◌<◌, List, [], ◌∷◌, ◌++◌, length, map, get_or, Option, Some, None, refl, ap, sym, ◌∙◌, arith}
use Rattle.std.specs.Prelude.{option_map, slice_get}
use Rattle.gq_model.specs.machine.Amounts.{Amount}
use Rattle.gq_model.specs.machine.Program.{Program}
use Rattle.gq_model.specs.machine.Scenario.{Nodes, End, Leaf_node, Init_node, Component, LeafNode, Scenario, System, components, system}
use Rattle.gq_model.specs.machine.Accounts.{leaf_count}
use Rattle.gq_model.specs.rules.Kinds.{Subject}
use Rattle.gq_model.specs.rules.Use.{subject}
use Rattle.gq_model.specs.rules.Verdict.{program_fault}
use Rattle.gq_model.proofs.Component_laws.{components_count}
use Rattle.gq_model.proofs.Small_facts.{some_same, none_some}
use Rattle.gq_scenario.specs.Without_quantities.{unsized, without_quanta}
use Rattle.gq_verify.specs.Subjects.{subject_of}
use Rattle.gq_load.specs.Unsized_judgement.{unsized_fault}
use Rattle.gq_why.specs.Why.{leaf_lines, needs_part, own_parts, steps_part, why_lines, why_text}
use Rattle.gq_why.proofs.Known_steps.{fine}

-- WITHIN THE LEAVES

leaves_kept : (nodes : Nodes) → leaf_count (without_quanta nodes) ≡ leaf_count nodes
leaves_kept End = refl
leaves_kept (Leaf_node node rest) = simp (leaves_kept rest)
leaves_kept (Init_node node children rest) = simp (leaves_kept children, leaves_kept rest)

as_many : (s : Scenario) → length (components (unsized s)) ≡ length (components s)
as_many s =
    components_count _ _ _ _ (without_quanta s.nodes) ∙ (leaves_kept s.nodes ∙ sym (components_count _ _ _ _ s.nodes))

pub leaf_within : (s free : Scenario) (cs : List Component) (x : ℕ) → free ≡ unsized s → cs ≡ components free → x < length (components s) → x < length cs
leaf_within s free cs x is all less =
    let same = ap length (all ∙ ap components is) ∙ as_many s in omega (arith, same, less)

pub program_within : (cs : List Component) (ps : List Program) (x : ℕ) → ps ≡ map (λ c. c.node.program) cs → x < length cs → x < length ps
program_within cs ps x is less = let same = ap length is ∙ mapped cs in omega (arith, same, less)
  where
    mapped : (cs : List Component) → length (map (λ c. c.node.program) cs) ≡ length cs
    mapped [] = refl
    mapped (c ∷ rest) = ap suc (mapped rest)

-- what stands at a place
pub at_place : (cs : List Component) (x : ℕ) (c : Component) → x < length cs → c ≡ get_or cs x c → slice_get cs x ≡ Some c
at_place [] x c less is = absurd (omega (arith, less))
at_place (d ∷ cs) zero c less is = ap (λ (e : Component). Some e) (sym is)
at_place (d ∷ cs) (suc x) c less is = at_place cs x c (omega (arith, less)) is

program_at : (cs : List Component) (x : ℕ) (c : Component) (p : Program) → slice_get cs x ≡ Some c → get_or (map (λ c. c.node.program) cs) x p ≡ c.node.program
program_at [] x c p there = absurd (none_some there)
program_at (d ∷ cs) zero c p there = ap (λ (e : Component). e.node.program) (some_same there)
program_at (d ∷ cs) (suc x) c p there = program_at cs x c p there

-- THE PROGRAM

module _ (free : Scenario) (cs : List Component) (ps : List Program) (x : ℕ) (c : Component) (p : Program) (all : cs ≡ components free)
    (programs : ps ≡ map (λ c. c.node.program) cs) (there : slice_get cs x ≡ Some c) (is : p ≡ get_or ps x p) where
  program_is : p ≡ c.node.program
  program_is = is ∙ (ap (λ (l : List Program). get_or l x p) programs ∙ program_at cs x c p there)

  pub subject_is : subject_of p c.node.provides free.interfaces c.node.inputs c.node.signals ≡ subject (system free) c
  subject_is = ap (λ (q : Program). subject_of q c.node.provides free.interfaces c.node.inputs c.node.signals) program_is

  -- it breaks no rule
  pub breaks_none : unsized_fault free ≡ None → program_fault (subject_of p c.node.provides free.interfaces c.node.inputs c.node.signals) ≡ None
  breaks_none faultless = ap program_fault subject_is ∙ fine free faultless x c (ap (λ (l : List Component). slice_get l x) (sym all) ∙ there)

-- THE TEXT

node_there : (o : Option Component) (node : LeafNode) → option_map (λ (c : Component). c.node) o ≡ Some node → (d : Component) × (o ≡ Some d) × (d.node ≡ node)
node_there None node e = absurd (none_some e)
node_there (Some d) node e = (d, refl, some_same e)

pub lines_are : (s free : Scenario) (x : ℕ) (c : Component) (node : LeafNode) → free ≡ unsized s → slice_get (components free) x ≡ Some c
    → option_map (λ (c : Component). c.node) (slice_get (components s) x) ≡ Some node → why_text s x ≡ why_lines s (system free) x c node.quantum
lines_are s free x c node is there given =
    let found = node_there (slice_get (components s) x) node given in
    ap (λ (f : Scenario). leaf_lines s (system f) x (slice_get (components f) x) (slice_get (components s) x)) (sym is)
    ∙ (ap (λ o. leaf_lines s (system free) x o (slice_get (components s) x)) there
    ∙ (ap (λ o. leaf_lines s (system free) x (Some c) o) found.1 ∙ ap (λ (n : LeafNode). why_lines s (system free) x c n.quantum) found.2))

-- put one after the other
pub parts_put : (s : Scenario) (all : System) (x : ℕ) (c : Component) (v : Subject) (version : ℕ) (quantum given : Amount) (first owns needs steps : List ℕ)
    → version ≡ s.version → v ≡ subject all c → quantum ≡ given → first ≡ [] → owns ≡ first ++ own_parts version v quantum
    → needs ≡ owns ++ needs_part s v c.node.provides → steps ≡ needs ++ steps_part all x c → steps ≡ why_lines s all x c given
parts_put s all x c v version quantum given first owns needs steps one two three none a b d =
    d
    ∙ ap (λ t. t ++ steps_part all x c)
    (b ∙ (λ i. (a ∙ (λ j. none j ++ own_parts (one j) (two j) (three j))) i ++ needs_part s (two i) c.node.provides))
