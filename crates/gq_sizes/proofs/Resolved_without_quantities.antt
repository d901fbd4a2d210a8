-- What is resolved without quantities is resolved with others, where quanta fit.
use Rattle.std.proofs.Common.{◌≡◌, ℕ, zero, suc, ◌||◌, ◌&&◌, Bool, true, false, List, [], ◌∷◌, ◌++◌, length, Option, Some, None, refl, ap, sym, ◌∙◌}
use Rattle.std.specs.Prelude.{slice_get, is_some, if◌then◌else◌, ◌==◌}
use Rattle.std.proofs.lemmas.Bool.{or_parts}
use Rattle.gq_model.specs.machine.Lists.{any_of, or_first}
use Rattle.gq_model.specs.machine.Program.{text_eq}
use Rattle.gq_model.specs.machine.Routes.{To, is_service, offer_of, route, server_of}
use Rattle.gq_model.specs.machine.Scenario.{Interfaces, Component, LeafNode, Offers, Nodes, End, Leaf_node, Init_node, Scenario, System}
use Rattle.gq_model.specs.machine.Scenario.{interface_in}
use Rattle.gq_model.specs.rules.Resolve.{Unresolved, Cycle, Bad_offer, Bad_after, child_serves, offers_fault, first_bad_offer, offer_fault}
use Rattle.gq_model.specs.rules.Resolve.{unfit_after, after_of, sibling, leads_back, is_bad_after, with_name, after_fault}
use Rattle.gq_model.specs.rules.Resolve.{unrouted, services_fault, routes_fault}
use Rattle.gq_model.specs.rules.Resolve.{cycle_fault}
use Rattle.gq_model.specs.rules.Use.{services, services_in, is_there, uses, used_from, used_at, reaches}
use Rattle.gq_model.proofs.Component_laws.{leads_to}
use Rattle.gq_model.proofs.Small_facts.{some_none, or_first_none}
use Rattle.gq_sizes.specs.Unsized_equality.{AllAsOne, NodesAsOne, ComponentsAsOne, AllComponents}
use Rattle.gq_sizes.proofs.Equal_route_targets.{route_so, server_so}

-- LISTS

any_so : {A : Type 0} (f g : A → Bool) (xs : List A) → ((a : A) → f a ≡ g a) → any_of f xs ≡ any_of g xs
any_so f g [] h = refl
any_so f g (a ∷ xs) h = λ i. h a i || any_so f g xs h i

same_length : (cs ds : List Component) → AllComponents cs ds → length cs ≡ length ds
same_length [] [] h = refl
same_length [] (d ∷ ds) h = absurd h
same_length (c ∷ cs) [] h = absurd h
same_length (c ∷ cs) (d ∷ ds) h = ap suc (same_length cs ds h.1)

-- OFFERS

serves_so : (name service : List ℕ) (ms ns : Nodes) → NodesAsOne ms ns → child_serves name service ms ≡ child_serves name service ns
serves_so name service End End h = refl
serves_so name service End (Leaf_node n ns) h = absurd h
serves_so name service End (Init_node n ds ns) h = absurd h
serves_so name service (Leaf_node m ms) End h = absurd h
serves_so name service (Leaf_node m ms) (Init_node n ds ns) h = absurd h
serves_so name service (Leaf_node m ms) (Leaf_node n ns) h =
    (λ i. if◌then◌else◌ (text_eq name (sym h.0 i).name) (is_service (sym h.0 i).provides service) (serves_so name service ms ns h.1 i))
serves_so name service (Init_node m cs ms) End h = absurd h
serves_so name service (Init_node m cs ms) (Leaf_node n ns) h = absurd h
serves_so name service (Init_node m cs ms) (Init_node n ds ns) h =
    (λ i. if◌then◌else◌ (text_eq name (sym h.0 i).name) (is_some (offer_of (sym h.0 i).offers service)) (serves_so name service ms ns h.2 i))

-- there is an interface of a service in both, or in neither
there_so : (service : List ℕ) (is js : Interfaces) → AllAsOne is js → is_some (interface_in service is) ≡ is_some (interface_in service js)
there_so service [] [] h = refl
there_so service [] (f ∷ js) h = absurd h
there_so service (e ∷ is) [] h = absurd h
there_so service (e ∷ is) (f ∷ js) h =
    by (text_eq service e.0) (there_so service is js h.2)
    ∙ ap (λ n. is_some (if◌then◌else◌ (text_eq service n) (Some f.1) (interface_in service js))) h.0
  where
    by : (b : Bool) → is_some (interface_in service is) ≡ is_some (interface_in service js)
        → is_some (if◌then◌else◌ b (Some e.1) (interface_in service is)) ≡ is_some (if◌then◌else◌ b (Some f.1) (interface_in service js))
    by true further = refl
    by false further = further

module _ (is js : Interfaces) (same : AllAsOne is js) where
  -- one init's
  own_offers_so : (name : List ℕ) (ms ns : Nodes) (offers : Offers) → NodesAsOne ms ns → offers_fault is name ms offers ≡ offers_fault js name ns offers
  own_offers_so name ms ns [] h = refl
  own_offers_so name ms ns (o ∷ offers) h =
      (λ i. if◌then◌else◌ (there_so o.0 is js same i && serves_so o.1 o.0 ms ns h i) (own_offers_so name ms ns offers h i) (Some (Bad_offer name)))

  all_offers_so : (ms ns : Nodes) → NodesAsOne ms ns → first_bad_offer is ms ≡ first_bad_offer js ns
  all_offers_so End End h = refl
  all_offers_so End (Leaf_node n ns) h = absurd h
  all_offers_so End (Init_node n ds ns) h = absurd h
  all_offers_so (Leaf_node m ms) End h = absurd h
  all_offers_so (Leaf_node m ms) (Init_node n ds ns) h = absurd h
  all_offers_so (Leaf_node m ms) (Leaf_node n ns) h = all_offers_so ms ns h.1
  all_offers_so (Init_node m cs ms) End h = absurd h
  all_offers_so (Init_node m cs ms) (Leaf_node n ns) h = absurd h
  all_offers_so (Init_node m cs ms) (Init_node n ds ns) h =
      (λ i. or_first (own_offers_so (sym h.0 i).name cs ds (sym h.0 i).offers h.1 i) (or_first (all_offers_so cs ds h.1 i) (all_offers_so ms ns h.2 i)))

pub offers_so : (s t : Scenario) → AllAsOne s.interfaces t.interfaces → NodesAsOne s.nodes t.nodes → offer_fault s ≡ offer_fault t
offers_so s t h k = all_offers_so s.interfaces t.interfaces h s.nodes t.nodes k

-- LEAVES THAT START AFTER OTHERS

after_same : (name : List ℕ) (cs ds : List Component) → AllComponents cs ds → after_of name cs ≡ after_of name ds
after_same name [] [] h = refl
after_same name [] (d ∷ ds) h = absurd h
after_same name (c ∷ cs) [] h = absurd h
after_same name (c ∷ cs) (d ∷ ds) h =
    (λ i. if◌then◌else◌ (text_eq name (sym h.0.node i).name) (sym h.0.node i).after (after_same name cs ds h.1 i))

back_same : (n : ℕ) (cs ds : List Component) (goal : List ℕ) (o : Option (List ℕ)) → AllComponents cs ds → leads_back n cs goal o ≡ leads_back n ds goal o
back_same n cs ds goal None h = refl
back_same zero cs ds goal (Some name) h = refl
back_same (suc n) cs ds goal (Some name) h =
    ap (λ b. text_eq name goal || b) (back_same n cs ds goal (after_of name cs) h ∙ ap (leads_back n ds goal) (after_same name cs ds h))

module _ (all others : List Component) (same : AllComponents all others) where
  bad_so : (earlier : List (List ℕ)) (c d : Component) → ComponentsAsOne c d
      → ((name : List ℕ) → d.node.after ≡ Some name → unfit_after (sibling name d.levels) d.node ≡ false)
      → is_bad_after all earlier c c.node.after ≡ false → is_bad_after others earlier d d.node.after ≡ false
  bad_so earlier c d o fits e = by d.node.after refl
    where
      after : c.node.after ≡ d.node.after
      after = ap (λ (n : LeafNode). n.after) (sym o.node)

      named : c.node.name ≡ d.node.name
      named = ap (λ (n : LeafNode). n.name) (sym o.node)

      by : (p : Option (List ℕ)) → d.node.after ≡ p → is_bad_after others earlier d p ≡ false
      by None f = refl
      by (Some name) f =
          let h : is_bad_after all earlier c (Some name) ≡ false = ap (is_bad_after all earlier c) (sym (after ∙ f)) ∙ e in
          let two = or_parts (unfit_after (sibling name c.levels) c.node || any_of (text_eq name) earlier)
          (leads_back (length all) all c.node.name (Some name)) h in
          let one = or_parts (unfit_after (sibling name c.levels) c.node) (any_of (text_eq name) earlier) two.0 in
          let back : leads_back (length others) others d.node.name (Some name) ≡ false =
          ap (λ n. leads_back n others d.node.name (Some name)) (sym (same_length all others same))
          ∙ ap (λ g. leads_back (length all) others g (Some name)) (sym named)
          ∙ sym (back_same (length all) all others c.node.name (Some name) same) ∙ two.1 in
          (λ i. (fits name f i || one.1 i) || back i)

  first_of : (b : Bool) (why : Unresolved) (rest : Option Unresolved) → (if◌then◌else◌ b (Some why) rest) ≡ None → (b ≡ false) × (rest ≡ None)
  first_of true why rest e = absurd (some_none e)
  first_of false why rest e = (refl, e)

  pub after_so : (earlier : List (List ℕ)) (cs ds : List Component) → AllComponents cs ds
      → ((x : ℕ) (d : Component) (name : List ℕ) → slice_get ds x ≡ Some d → d.node.after ≡ Some name → unfit_after (sibling name d.levels) d.node ≡ false)
      → after_fault all earlier cs ≡ None → after_fault others earlier ds ≡ None
  after_so earlier [] [] h fits e = refl
  after_so earlier [] (d ∷ ds) h fits e = absurd h
  after_so earlier (c ∷ cs) [] h fits e = absurd h
  after_so earlier (c ∷ cs) (d ∷ ds) h fits e =
      let a = first_of (is_bad_after all earlier c c.node.after) (Bad_after c.node.name) (after_fault all (with_name c.node.after earlier) cs) e in
      let good = bad_so earlier c d h.0 (λ name f. fits 0 d name refl f) a.0 in
      let names : with_name c.node.after earlier ≡ with_name d.node.after earlier =
      ap (λ (n : LeafNode). with_name n.after earlier) (sym h.0.node) in
      let rest = after_so (with_name c.node.after earlier) cs ds h.1 (λ x k name f g. fits (suc x) k name f g) a.1 in
      (λ i. if◌then◌else◌ (good i) (Some (Bad_after d.node.name)) (after_fault others (with_name d.node.after earlier) ds))
      ∙ ap (λ n. after_fault others n ds) (sym names) ∙ rest

-- ROUTES

services_same : (c d : Component) → ComponentsAsOne c d → services c ≡ services d
services_same c d o = ap (λ (n : LeafNode). services_in n.program.sections) (sym o.node)

led_so : (c d : Component) → ComponentsAsOne c d → (list : List (List ℕ)) → services_fault c list ≡ None → services_fault d list ≡ None
led_so c d o [] e = refl
led_so c d o (service ∷ rest) e =
    let a = or_first_none (unrouted c service (route c.levels service)) (services_fault c rest) e in
    let p = leads_to c service (route c.levels service) a.0 in
    let there : route d.levels service ≡ To p.0 = sym (route_so service c.levels d.levels o.levels) ∙ p.1 in
    (λ i. or_first (unrouted d service (there i)) (services_fault d rest)) ∙ led_so c d o rest a.1

pub routes_so : (cs ds : List Component) → AllComponents cs ds → routes_fault cs ≡ None → routes_fault ds ≡ None
routes_so [] [] h e = refl
routes_so [] (d ∷ ds) h e = absurd h
routes_so (c ∷ cs) [] h e = absurd h
routes_so (c ∷ cs) (d ∷ ds) h e =
    let a = or_first_none (services_fault c (services c)) (routes_fault cs) e in
    let here : services_fault d (services d) ≡ None =
    ap (services_fault d) (sym (services_same c d h.0)) ∙ led_so c d h.0 (services c) a.0 in
    (λ i. or_first (here i) (routes_fault ds)) ∙ routes_so cs ds h.1 a.1

-- USES

module _ (all others : System) (same : AllComponents all.components others.components) where
  uses_same : (c d : Component) (x : ℕ) → ComponentsAsOne c d → uses all c x ≡ uses others d x
  uses_same c d x o =
      any_so (λ service. is_there x (server_of all c service)) (λ service. is_there x (server_of others d service)) (services c)
      (λ service. ap (is_there x) (server_so all others c d service same o))
      ∙ ap (any_of (λ service. is_there x (server_of others d service))) (services_same c d o)

  used_same : (c d : Component) (x : ℕ) (cs ds : List Component) → ComponentsAsOne c d → AllComponents cs ds → used_from all c x cs ≡ used_from others d x ds
  used_same c d x [] [] o h = refl
  used_same c d x [] (e ∷ ds) o h = absurd h
  used_same c d x (b ∷ cs) [] o h = absurd h
  used_same c d x (b ∷ cs) (e ∷ ds) o h =
      (λ i. (if◌then◌else◌ (uses_same c d x o i) (x ∷ []) []) ++ used_same c d (suc x) cs ds o h.1 i)

  at_same : (x : ℕ) (cs ds : List Component) → AllComponents cs ds → used_at all (slice_get cs x) ≡ used_at others (slice_get ds x)
  at_same x [] [] h = refl
  at_same x [] (d ∷ ds) h = absurd h
  at_same x (c ∷ cs) [] h = absurd h
  at_same zero (c ∷ cs) (d ∷ ds) h = used_same c d 0 all.components others.components h.0 same
  at_same (suc x) (c ∷ cs) (d ∷ ds) h = at_same x cs ds h.1

  reaches_same : (n y x : ℕ) → reaches n all y x ≡ reaches n others y x
  reaches_same zero y x = refl
  reaches_same (suc n) y x =
      any_so (λ z. z == y || reaches n all y z) (λ z. z == y || reaches n others y z) (used_at all (slice_get all.components x))
      (λ z. ap (λ b. z == y || b) (reaches_same n y z))
      ∙ ap (any_of (λ z. z == y || reaches n others y z)) (at_same x all.components others.components same)

  pub cycles_so : (x : ℕ) (cs ds : List Component) → AllComponents cs ds → cycle_fault all x cs ≡ None → cycle_fault others x ds ≡ None
  cycles_so x [] [] h e = refl
  cycles_so x [] (d ∷ ds) h e = absurd h
  cycles_so x (c ∷ cs) [] h e = absurd h
  cycles_so x (c ∷ cs) (d ∷ ds) h e =
      let a = first_of all.components others.components same (reaches (length all.components) all x x) (Cycle c.node.name) (cycle_fault all (suc x) cs) e in
      let none : reaches (length others.components) others x x ≡ false =
      ap (λ n. reaches n others x x) (sym (same_length all.components others.components same))
      ∙ sym (reaches_same (length all.components) x x) ∙ a.0 in
      (λ i. if◌then◌else◌ (none i) (Some (Cycle d.node.name)) (cycle_fault others (suc x) ds)) ∙ cycles_so (suc x) cs ds h.1 a.1
