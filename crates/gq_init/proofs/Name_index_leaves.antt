-- The leaf of a name.
use Rattle.std.proofs.Common.{◌≡◌, ℕ, zero, suc, ◌+◌, Bool, true, false, cond, List, [], ◌∷◌, Option, Some, None, IfSome, refl, ap, sym, subst}
use Rattle.std.proofs.Common.{◌∙◌, arith, codes}
use Rattle.std.specs.Prelude.{slice_get}
use Rattle.std.proofs.lemmas.Bool.{true≢false}
use Rattle.gq_model.specs.machine.Program.{text_eq}
use Rattle.gq_model.specs.machine.Routes.{numbered}
use Rattle.gq_model.specs.machine.Scenario.{Scenario, Component, components}
use Rattle.gq_model.proofs.Small_facts.{none_some, some_same, none_add, text_is}
use Rattle.gq_scenario.specs.Document.{names_of, name_twice}
use Rattle.gq_scenario.proofs.Distinct_leaf_names.{names_differ}
use Rattle.gq_resolve.specs.NodeTables.{LeafRow, leaf_row}

-- the first of these that bears a name, where they are numbered from k
record First (k : ℕ) (name : List ℕ) (cs : List Component) : Type 0 where
  place : ℕ
  component : Component
  is : numbered k name cs ≡ Some (k + place)
  there : slice_get cs place ≡ Some component
  same : text_eq name component.node.name ≡ true

onward : (k : ℕ) (name : List ℕ) (d : Component) (cs : List Component) (b : Bool) → text_eq name d.node.name ≡ b → (x : ℕ) (c : Component)
    → slice_get (d ∷ cs) x ≡ Some c → text_eq name c.node.name ≡ true → ((y : ℕ) → slice_get cs y ≡ Some c → First (suc k) name cs) → First k name (d ∷ cs)
onward k name d cs true is x c e t later =
    record {
      place = 0;
      component = d;
      is = ap (λ b. cond b (Some k) (numbered (suc k) name cs)) is ∙ ap Some (omega arith);
      there = refl;
      same = is;
    }
onward k name d cs false is zero c e t later =
    absurd (true≢false (sym t ∙ (ap (λ (z : Component). text_eq name z.node.name) (sym (some_same e)) ∙ is)))
onward k name d cs false is (suc y) c e t later =
    let found = later y e in
    record {
      place = suc found.place;
      component = found.component;
      is = ap (λ b. cond b (Some k) (numbered (suc k) name cs)) is ∙ (found.is ∙ ap Some (omega arith));
      there = found.there;
      same = found.same;
    }

first_of : (k : ℕ) (name : List ℕ) (cs : List Component) (x : ℕ) (c : Component) → slice_get cs x ≡ Some c → text_eq name c.node.name ≡ true → First k name cs
first_of k name [] x c e t = absurd (none_some e)
first_of k name (d ∷ cs) x c e t =
    onward k name d cs (text_eq name d.node.name) refl x c e t (λ y f. first_of (suc k) name cs y c f t)

-- where no name stands twice, the leaf that bears a name is the one of that name
pub numbered_there : (s : Scenario) (name : List ℕ) (x : ℕ) (c : Component) → name_twice (codes "init" ∷ []) (names_of s.nodes) ≡ None
    → slice_get (components s) x ≡ Some c → text_eq name c.node.name ≡ true → numbered 0 name (components s) ≡ Some x
numbered_there s name x c single there same =
    let first = first_of 0 name (components s) x c there same in
    let alike = sym (text_is name first.component.node.name first.same) ∙ text_is name c.node.name same in
    let one = names_differ s (codes "init" ∷ []) single first.place x first.component c first.there there alike in
    first.is ∙ ap Some (none_add first.place ∙ one)

-- a name that is the one in the row of a leaf is the leaf's
pub name_in_row : (s : Scenario) (place : ℕ) (c : Component) (name : List ℕ) (row : Option LeafRow) → row ≡ Some (leaf_row s place c)
    → IfSome row (λ r. name ≡ r.name) → name ≡ c.node.name
name_in_row s place c name row e h = subst (λ (o : Option LeafRow). IfSome o (λ r. name ≡ r.name)) e h
