-- Leaves whose programs are code, in a list.
use Rattle.std.proofs.Common.{◌≡◌, ◌≤◌, ◌∙◌, ◌∷◌, [], ◌&&◌, ◌||◌, Bool, true, ℕ, List, arith, length, ap, sym}
use Rattle.std.specs.Prelude.{get_or}
use Rattle.gq_model.proofs.Small_facts.{text_self}
use Rattle.gq_model.specs.machine.Lists.{any_of}
use Rattle.gq_model.specs.machine.Program.{text_eq}
use Rattle.gq_model.specs.machine.Scenario.{Component, LeafNode, Source}
use Rattle.gq_fit.specs.Fitted.{is_code, is_coded}

named : (name own : List ℕ) → name ≡ own → text_eq name own ≡ true
named name own e = ap (text_eq name) (sym e) ∙ text_self name

both : (a b : Bool) → a ≡ true → b ≡ true → a && b ≡ true
both a b x y = λ j. x j && y j

-- a leaf whose source is code has its name
pub coded_leaf : (c : Component) (node other : LeafNode) (source : Source) (name own : List ℕ) → node ≡ c.node → other ≡ c.node → source ≡ node.source
    → is_code source ≡ true → name ≡ own → own ≡ other.name → is_coded name c ≡ true
coded_leaf c node other source name own is is_too from code same of =
    both (is_code c.node.source) (text_eq name c.node.name) (ap (λ (n : LeafNode). is_code n.source) (sym is) ∙ (ap is_code (sym from) ∙ code))
    (named name c.node.name (same ∙ (of ∙ ap (λ (n : LeafNode). n.name) is_too)))

-- the first leaf of a list
pub coded_first : (name : List ℕ) (cs : List Component) (c : Component) → 1 ≤ length cs → c ≡ get_or cs 0 c → is_coded name c ≡ true
    → any_of (is_coded name) cs ≡ true
coded_first name [] c some is coded = absurd (omega (arith, some))
coded_first name (d ∷ cs) c some is coded = ap (λ b. b || any_of (is_coded name) cs) (ap (is_coded name) (sym is) ∙ coded)
