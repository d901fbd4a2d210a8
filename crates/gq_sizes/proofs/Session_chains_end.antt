-- Of a scenario that is accepted: no chain of sessions, each held by the one before it, goes on without end. A session needs more than those that it holds, by
-- its object, so along such a chain no level of a service comes twice.
use Rattle.std.proofs.Common.{◌≡◌, ℕ, zero, suc, ◌+◌, ◌*◌, ◌≤◌, ◌<◌, ◌&&◌, ◌||◌, eqb, eqb-true, ◌⊎◌, inl, inr, Bool, true, false, List, [], ◌∷◌, length, Option}
use Rattle.std.proofs.Common.{Some, None, refl, ap, ap₂, sym, ◌∙◌, subst, arith}
use Rattle.std.specs.Prelude.{slice_get, sum_by, if◌then◌else◌, is_some}
use Rattle.std.specs.List.{list_any}
use Rattle.std.proofs.lemmas.Bool.{false≢true, or_cases}
use Rattle.std.proofs.lemmas.List.Sums.{sum_by-cons}
use Rattle.std.proofs.lemmas.Option.{slice_get_within}
use Rattle.gq_model.specs.machine.Accounts.{leaf_count}
use Rattle.gq_model.specs.machine.Amounts.{Caps, part, counts_caps}
use Rattle.gq_model.specs.declared.section.Section.{Section}
use Rattle.gq_model.specs.declared.section.Section.TheVariants.{Main}
use Rattle.gq_model.specs.declared.program.Form.TheVariants.{Slice}
use Rattle.gq_model.specs.machine.Lists.{any_of}
use Rattle.gq_model.specs.machine.Resource_prices.{price_memory}
use Rattle.gq_model.specs.machine.Program.{Statements, text_eq}
use Rattle.gq_model.specs.machine.Scenario.{Interface, Interfaces, Component, LeafNode, Nodes, End, Leaf_node, Init_node, Scenario, System, system}
use Rattle.gq_model.specs.machine.Scenario.{interface_in, service_in, number_of}
use Rattle.gq_model.specs.rules.Kinds.{Kind, Empty_kind, Memory, Pool_kind, Link_kind, AbstractState, kind_price, kind_lent, kinds_cost, need_of}
use Rattle.gq_model.specs.machine.Sections.{level_of}
use Rattle.gq_model.specs.rules.Kinds as kinds
use Rattle.gq_model.specs.rules.Use.{subject}
use Rattle.gq_model.specs.Promises.{EachOf}
use Rattle.gq_model.proofs.Small_facts.{none_some, some_same}
use Rattle.gq_laws.specs.Sound_scenarios.{IsSound}
use Rattle.gq_laws.specs.internal.Verified_holdings.{Covers}
use Rattle.gq_laws.proofs.verified_programs.Acyclic_chain_length.{Chain, chain_short}
use Rattle.gq_sizes.specs.Unsized_equality.{AreAsOne, AllAsOne, KindsAsOne, BanksAsOne, StatesAsOne, PointsAsOne, ProvideAsOne, ScenariosAsOne, caps_for}
use Rattle.gq_sizes.specs.Unsized_equality.{caps_needed}
use Rattle.gq_sizes.specs.Unsized_equality.{levels_for}
use Rattle.gq_sizes.specs.Endless.{Test, leads, leaf_holds, holds, goes_on, is_endless, own_endless, passes, leaf_endless, endless_at, at_start}
use Rattle.gq_sizes.specs.Endless.{children_endless, NodesEnd, NoneEndless}
use Rattle.gq_sizes.specs.Size.{section_points, is_up_to, is_named, rounds, starts_after}
use Rattle.gq_scenario.specs.Without_quantities.{unsized}
use Rattle.gq_sizes.proofs.Session_cost_comparison.{both_sums}
use Rattle.gq_sizes.proofs.Freed_scenarios.{pair_of, found_both}
use Rattle.gq_sizes.proofs.Statement_point_predicates.{Each}
use Rattle.gq_sizes.proofs.Session_needs_bounded.{counts_of, need_upward, both, interfaces, points_so, points_paid, named_is}
use Rattle.gq_sizes.proofs.Node_quanta_suffice.{after_there}
use Rattle.gq_model.proofs.Section_laws.{section_found}
use Rattle.gq_sizes.proofs.Levels_of_sections.{outside_main}

-- LISTS

any_none : {A : Type 0} (f : A → Bool) (xs : List A) → ((x : ℕ) (a : A) → slice_get xs x ≡ Some a → f a ≡ false) → any_of f xs ≡ false
any_none f [] h = refl
any_none f (a ∷ xs) h = ap₂ (λ b c. b || c) (h 0 a refl) (any_none f xs (λ x b e. h (suc x) b e))

when_none : (b c : Bool) → (b ≡ true → c ≡ false) → (b && c) ≡ false
when_none true c h = h refl
when_none false c h = refl

points_none : (xs ys : Interfaces) (P : AbstractState → Type 0) (f : AbstractState → Bool) (ss ts : List AbstractState) →
    ((s t : AbstractState) → StatesAsOne xs ys s t → P s → f t ≡ false)
    → PointsAsOne xs ys ss ts → Each P ss → any_of f ts ≡ false
points_none xs ys P f [] [] so h e = refl
points_none xs ys P f [] (t ∷ ts) so h e = absurd h
points_none xs ys P f (s ∷ ss) [] so h e = absurd h
points_none xs ys P f (s ∷ ss) (t ∷ ts) so h e = ap₂ (λ b c. b || c) (so s t h.0 e.0) (points_none xs ys P f ss ts so h.1 e.1)

own_none : (xs ys : Interfaces) (f : AbstractState → Bool) (ss ts : List AbstractState) → ((s t : AbstractState) → StatesAsOne xs ys s t → f t ≡ false)
    → PointsAsOne xs ys ss ts → any_of f ts ≡ false
own_none xs ys f [] [] so h = refl
own_none xs ys f [] (t ∷ ts) so h = absurd h
own_none xs ys f (s ∷ ss) [] so h = absurd h
own_none xs ys f (s ∷ ss) (t ∷ ts) so h = ap₂ (λ b c. b || c) (so s t h.0) (own_none xs ys f ss ts so h.1)

-- LINKS

-- where no session passes at a level that it has
module _ (xs ys : Interfaces) (test : Test) (never : (service : List ℕ) (l : ℕ) → l ≤ levels_for xs service → test service l ≡ false) where
  kind_never : (k l : Kind) → KindsAsOne xs ys k l → leads test l ≡ false
  kind_never Empty_kind l e = ap (leads test) e
  kind_never (Memory form n) l e = ap (leads test) e
  kind_never (Pool_kind n m) l e = ap (leads test) e
  kind_never (Link_kind s l a) Empty_kind e = absurd e
  kind_never (Link_kind s l a) (Memory form n) e = absurd e
  kind_never (Link_kind s l a) (Pool_kind n m) e = absurd e
  kind_never (Link_kind s l a) (Link_kind t m b) e = sym (λ i. test (e.0 i) (e.1 i)) ∙ never s l e.5

  pub bank_never : (ks ls : List Kind) → BanksAsOne xs ys ks ls → any_of (leads test) ls ≡ false
  bank_never [] [] b = refl
  bank_never [] (l ∷ ls) b = absurd b
  bank_never (k ∷ ks) [] b = absurd b
  bank_never (k ∷ ks) (l ∷ ls) b = ap₂ (λ b c. b || c) (kind_never k l b.0) (bank_never ks ls b.1)

-- where none passes that needs less than `top`, a session that costs so much holds none
module _ (xs ys : Interfaces) (test : Test) (top : ℕ)
    (fewer : (service : List ℕ) (l : ℕ) → l ≤ levels_for xs service → caps_for xs service l < top → test service l ≡ false) where
  kind_none : (k l : Kind) → KindsAsOne xs ys k l → kind_price Caps k + kind_lent Caps k < top → leads test l ≡ false
  kind_none Empty_kind l e h = ap (leads test) e
  kind_none (Memory form n) l e h = ap (leads test) e
  kind_none (Pool_kind n m) l e h = ap (leads test) e
  kind_none (Link_kind s l a) Empty_kind e h = absurd e
  kind_none (Link_kind s l a) (Memory form n) e h = absurd e
  kind_none (Link_kind s l a) (Pool_kind n m) e h = absurd e
  kind_none (Link_kind s l a) (Link_kind t m b) e h =
      let is = e.3 in sym (λ i. test (e.0 i) (e.1 i)) ∙ fewer s l e.5 (omega (arith, is, h))

  bank_none : (ks ls : List Kind) → BanksAsOne xs ys ks ls → kinds_cost Caps ks < top → any_of (leads test) ls ≡ false
  bank_none ks ls b h = let e = both_sums Caps ks in by ks ls b (omega (arith, e, h))
    where
      by : (ks ls : List Kind) → BanksAsOne xs ys ks ls → sum_by (λ k. kind_price Caps k + kind_lent Caps k) ks < top → any_of (leads test) ls ≡ false
      by [] [] b h = refl
      by [] (l ∷ ls) b h = absurd b
      by (k ∷ ks) [] b h = absurd b
      by (k ∷ ks) (l ∷ ls) b h =
          let c = sum_by-cons (λ k. kind_price Caps k + kind_lent Caps k) k ks in
          ap₂ (λ b c. b || c) (kind_none k l b.0 (omega (arith, h, c))) (by ks ls b.1 (omega (arith, h, c)))

  -- an object costs a capability, so what a session holds costs less than it
  session_none : (i : Interface) (s t : AbstractState) → StatesAsOne xs ys s t → kinds.session_cost Caps i s.bank ≤ top → any_of (leads test) t.bank ≡ false
  session_none i s t o h =
      let one : price_memory Caps Slice i.object ≡ 1 = refl in
      bank_none s.bank t.bank o.bank (omega (arith, h, one))

-- PLACES

-- where the interface of a service stands
place_of : (service : List ℕ) (is : Interfaces) (i : Interface) → interface_in service is ≡ Some i
    → (p : ℕ) × (e : List ℕ × Interface) × (slice_get is p ≡ Some e) × (e.1 ≡ i)
place_of service [] i h = absurd (none_some h)
place_of service (e ∷ is) i h = by (text_eq service e.0) h (place_of service is i)
  where
    by : (b : Bool) → (if◌then◌else◌ b (Some e.1) (interface_in service is)) ≡ Some i
        → (interface_in service is ≡ Some i → (p : ℕ) × (f : List ℕ × Interface) × (slice_get is p ≡ Some f) × (f.1 ≡ i))
        → (p : ℕ) × (f : List ℕ × Interface) × (slice_get (e ∷ is) p ≡ Some f) × (f.1 ≡ i)
    by true g further = (0, e, refl, some_same g)
    by false g further = let r = further g in (suc r.0, r.1, r.2, r.3)

-- the number x stands for a level of a service, whose sessions are given n capabilities
record Stands (is : Interfaces) (x n : ℕ) : Type 0 where
  place : ℕ
  level : ℕ
  entry : List ℕ × Interface
  at : x ≡ 4 * place + level
  few : level ≤ 3
  there : slice_get is place ≡ Some entry
  needs : (need_of entry.1 level).caps ≡ n

same_needs : (is : Interfaces) (x n m : ℕ) → Stands is x n → Stands is x m → n ≡ m
same_needs is x n m a b =
    let p : a.place ≡ b.place = omega (arith, a.at, b.at, a.few, b.few) in
    let l : a.level ≡ b.level = omega (arith, a.at, b.at, p) in
    let e : a.entry ≡ b.entry = some_same (sym a.there ∙ ap (slice_get is) p ∙ b.there) in
    sym a.needs ∙ (λ i. (need_of (e i).1 (l i)).caps) ∙ b.needs

-- sessions at the first are given less than those at the second
record Below (is : Interfaces) (z x : ℕ) : Type 0 where
  has : ℕ
  top : ℕ
  lower : Stands is z has
  upper : Stands is x top
  less : has < top

module _ (is : Interfaces) where
  abbrev count : ℕ
  count = 4 * length is

  abbrev Uses : ℕ → List ℕ → Type 0
  Uses z rest = Chain count (Below is) z rest

  starts_below : (z x : ℕ) → Below is z x → z < count
  starts_below z x b =
      let a = b.lower in
      let w = slice_get_within is a.place a.entry a.there in
      omega (arith, w, a.at, a.few)

  -- along a chain all are given more than the first
  goes_up : (z n q m : ℕ) (rest : List ℕ) → Uses z rest → Stands is z n → list_any (eqb q) rest ≡ true → Stands is q m → n < m
  goes_up z n q m [] h a there b = absurd (false≢true there)
  goes_up z n q m (x ∷ rest) h a there b =
      let same = same_needs is z n h.0.has a h.0.lower in
      by (or_cases (eqb q x) (list_any (eqb q) rest) there) same (λ f. goes_up x h.0.top q m rest h.1 h.0.upper f b)
    where
      by : (eqb q x ≡ true) ⊎ (list_any (eqb q) rest ≡ true) → n ≡ h.0.has → (list_any (eqb q) rest ≡ true → h.0.top < m) → n < m
      by (inl f) same further =
          let one = eqb-true q x f in
          let top = same_needs is x m h.0.top (subst (λ k. Stands is k m) one b) h.0.upper in
          let less = h.0.less in omega (arith, same, top, less)
      by (inr f) same further = let more = further f in let less = h.0.less in omega (arith, same, more, less)

  never_again : (z : ℕ) (rest : List ℕ) → Uses z rest → list_any (eqb z) rest ≡ true → length rest ≤ count → ⊥
  never_again z [] h there short = false≢true there
  never_again z (x ∷ rest) h there short =
      let less = goes_up z h.0.has z h.0.has (x ∷ rest) h h.0.lower there h.0.lower in omega (arith, less)

  short_uses : (z : ℕ) (rest : List ℕ) → Uses z rest → length rest < count
  short_uses z rest h = chain_short count (Below is) starts_below never_again z rest h

-- ROUNDS

same_count : (is js : Interfaces) → AllAsOne is js → length is ≡ length js
same_count [] [] h = refl
same_count [] (f ∷ js) h = absurd h
same_count (e ∷ is) [] h = absurd h
same_count (e ∷ is) (f ∷ js) h = ap suc (same_count is js h.2)

module _ (t s : Scenario) (sound : IsSound t) (alike : ScenariosAsOne t s) (two : counts_caps t.version ≡ true) where
  abbrev mine : System
  mine = system t

  abbrev all : System
  all = system (unsized s)

  -- none is held that passes, where none does that is given less
  holds_none : (test : Test) (service : List ℕ) (i : Interface) (l : ℕ) → interface_in service t.interfaces ≡ Some i → l ≤ length i.upgrades
      → ((other : List ℕ) (m : ℕ) → m ≤ levels_for t.interfaces other → caps_for t.interfaces other m < (need_of i l).caps → test other m ≡ false)
      → holds test all service l ≡ false
  holds_none test service i l known below fewer =
      any_none (λ (d : Component). is_named service d.node.provides && leaf_holds test (subject all d) l) all.components (λ x d there.
      let p = pair_of mine.components all.components (both t s sound alike) x d there in
      let c = p.0 in
      when_none (is_named service d.node.provides) (leaf_holds test (subject all d) l) (λ named.
      let provides : c.node.provides ≡ Some service = ap (λ (n : LeafNode). n.provides) (sym p.2.node) ∙ named_is t s sound alike service d.node.provides
      named in
      let provided : service_in c.node.provides t.interfaces ≡ Some i = ap (λ o. service_in o t.interfaces) provides ∙ known in
      any_none (λ (q : Section × Statements). is_up_to l q.0 && any_of (λ (s : AbstractState). any_of (leads test) s.bank) (section_points (subject all d) q.0))
      d.node.program.sections (λ y q at.
      when_none (is_up_to l q.0) (any_of (λ (s : AbstractState). any_of (leads test) s.bank) (section_points (subject all d) q.0)) (λ up.
      let outside = outside_main l q.0 up in
      let program : d.node.program ≡ c.node.program = ap (λ (n : LeafNode). n.program) p.2.node in
      let found = section_found c.node.program (sound.formed.programs x c p.1) y q ((λ j. slice_get (sym program j).sections y) ∙ at) in
      let rises = need_upward i Caps (level_of q.0) l outside.1 below in
      points_none t.interfaces all.interfaces (λ (s : AbstractState). Covers (subject mine c) (level_of q.0) s.bank)
      (λ (s : AbstractState). any_of (leads test) s.bank)
      (section_points (subject mine c) q.0) (section_points (subject all d) q.0) (λ a b o covers.
      let paid = counts_of t.version Caps (λ r. kinds.session_cost r i a.bank ≤ part r (need_of i (level_of q.0))) two
      (subst (λ cs. EachOf cs (λ r. kinds.session_cost r i a.bank ≤ part r (need_of i (level_of q.0)))) (sound.formed.counted service i known) (covers i
      provided)) in
      session_none t.interfaces all.interfaces test (need_of i l).caps fewer i a b o (omega (arith, paid, rises)))
      (points_so t s sound alike x c d p.1 p.2 q.0) (points_paid t s sound alike x c d p.1 p.2 q.0 q.1 outside.0 found)))))

  -- a service is there in both or in neither
  none_both : (service : List ℕ) → interface_in service t.interfaces ≡ None → (k : Interface) → interface_in service all.interfaces ≡ Some k → ⊥
  none_both service e k f =
      subst (λ q. ProvideAsOne None q) f (subst (λ o. ProvideAsOne o (interface_in service all.interfaces)) e
      (found_both service t.interfaces all.interfaces (interfaces t s sound alike)))

  -- the number of a level of a service
  stands_for : (service : List ℕ) (i : Interface) (l : ℕ) → interface_in service t.interfaces ≡ Some i → l ≤ length i.upgrades
      → (x : ℕ) × Stands t.interfaces x (need_of i l).caps
  stands_for service i l known below =
      let p = place_of service t.interfaces i known in
      let three = sound.formed.upgrades service i known in (
        4 * p.0 + l,
        record {
          place = p.0;
          level = l;
          entry = p.1;
          at = refl;
          few = omega (arith, below, three);
          there = p.2;
          needs = ap (λ (k : Interface). (need_of k l).caps) p.3;
        },
      )

  -- what has no interface is the first of no chain
  none_there : (n : ℕ) (service : List ℕ) (l : ℕ) → interface_in service t.interfaces ≡ None → goes_on n all service l ≡ false
  none_there n service l e = by n (interface_in service all.interfaces) refl
    where
      by : (n : ℕ) (o : Option Interface) → interface_in service all.interfaces ≡ o → goes_on n all service l ≡ false
      by n (Some k) f = absurd (none_both service e k f)
      by zero None f = ap is_some f
      by (suc n) None f = ap (λ o. is_some o && holds (goes_on n all) all service l) f

  -- what is held is one of these, or of a service that is not there
  held_none : (n : ℕ) (other : List ℕ) (m top : ℕ) → m ≤ levels_for t.interfaces other → caps_for t.interfaces other m < top
      → ((j : Interface) → interface_in other t.interfaces ≡ Some j → m ≤ length j.upgrades → (need_of j m).caps < top → goes_on n all other m ≡ false)
      → goes_on n all other m ≡ false
  held_none n other m top within small each = by (interface_in other t.interfaces) refl
    where
      by : (o : Option Interface) → interface_in other t.interfaces ≡ o → goes_on n all other m ≡ false
      by None e = none_there n other m e
      by (Some j) e =
          let levels : levels_for t.interfaces other ≡ length j.upgrades = ap (λ o. number_of o (λ i. length i.upgrades)) e in
          let needs : caps_for t.interfaces other m ≡ (need_of j m).caps = ap (caps_needed m) e in
          each j e (omega (arith, within, levels)) (omega (arith, small, needs))

  ends : (n x : ℕ) (service : List ℕ) (i : Interface) (l : ℕ) (rest : List ℕ) → interface_in service t.interfaces ≡ Some i → l ≤ length i.upgrades
      → Stands t.interfaces x (need_of i l).caps → Uses t.interfaces x rest → count t.interfaces ≤ length rest + n → goes_on n all service l ≡ false
  ends zero x service i l rest known below stands chain long =
      let short = short_uses t.interfaces x rest chain in absurd (omega (arith, short, long))
  ends (suc n) x service i l rest known below stands chain long =
      when_none (is_some (interface_in service all.interfaces)) (holds (goes_on n all) all service l) (λ there.
      holds_none (goes_on n all) service i l known below (λ other m within small.
      held_none n other m (need_of i l).caps within small (λ j is_j under less.
      let z = stands_for other j m is_j under in
      ends n z.0 other j m (x ∷ rest) is_j under z.1
      (record { has = (need_of j m).caps; top = (need_of i l).caps; lower = z.1; upper = stands; less = less }, chain) (omega (arith, long)))))

  -- so no session of a level that it has is the first of a chain without end
  pub never_endless : (service : List ℕ) (l : ℕ) → l ≤ levels_for t.interfaces service → is_endless all service l ≡ false
  never_endless service l within = by (interface_in service t.interfaces) refl
    where
      by : (o : Option Interface) → interface_in service t.interfaces ≡ o → is_endless all service l ≡ false
      by None e = none_there (rounds all) service l e
      by (Some j) e =
          let levels : levels_for t.interfaces service ≡ length j.upgrades = ap (λ o. number_of o (λ i. length i.upgrades)) e in
          let under : l ≤ length j.upgrades = omega (arith, within, levels) in
          let z = stands_for service j l e under in
          let lengths = same_count t.interfaces all.interfaces (interfaces t s sound alike) in
          ends (rounds all) z.0 service j l [] e under z.1 (first_use z.0 (need_of j l).caps z.1) (omega (arith, lengths))
        where
          first_use : (x n : ℕ) → Stands t.interfaces x n → x < count t.interfaces
          first_use x n st = let w = slice_get_within t.interfaces st.place st.entry st.there in omega (arith, w, st.at, st.few)

  -- LEAVES AND INITS

  own_ends : (x : ℕ) (d : Component) → slice_get all.components x ≡ Some d → own_endless all (subject all d) ≡ false
  own_ends x d there =
      let p = pair_of mine.components all.components (both t s sound alike) x d there in
      own_none t.interfaces all.interfaces (λ (s : AbstractState). any_of (leads (is_endless all)) s.own) (section_points (subject mine p.0) Main)
      (section_points (subject all d) Main)
      (λ a b o. bank_never t.interfaces all.interfaces (is_endless all) never_endless a.own b.own o.own)
      (points_so t s sound alike x p.0 d p.1 p.2 Main)

  passes_none : (test : Component → Bool) (o : Option Component) → ((c : Component) → o ≡ Some c → test c ≡ false) → passes test o ≡ false
  passes_none test None h = refl
  passes_none test (Some c) h = h c refl

  leaf_ends : (n x : ℕ) (d : Component) → slice_get all.components x ≡ Some d → leaf_endless n all d ≡ false
  leaf_ends zero x d there = own_ends x d there
  leaf_ends (suc n) x d there =
      ap₂ (λ b c. b || c) (own_ends x d there)
      (passes_none (leaf_endless n all) (starts_after d.node.name all.components) (λ e found.
      let y = after_there d.node.name all.components e found in leaf_ends n y.0 e y.1))

  ends_at : (x : ℕ) → endless_at all x ≡ false
  ends_at x =
      passes_none (leaf_endless (length all.components) all) (slice_get all.components x) (λ d there. leaf_ends (length all.components) x d there)

  start_ends : (after : Option (List ℕ)) (b : Bool) → b ≡ false → at_start after b ≡ false
  start_ends None b e = e
  start_ends (Some name) b e = refl

  children_end : (x : ℕ) (nodes : Nodes) → children_endless all x nodes ≡ false
  children_end x End = refl
  children_end x (Leaf_node node rest) = ap₂ (λ b c. b || c) (start_ends node.after (endless_at all x) (ends_at x)) (children_end (suc x) rest)
  children_end x (Init_node node children rest) = ap₂ (λ b c. b || c) (children_end x children) (children_end (x + leaf_count children) rest)

  nodes_end : (x : ℕ) (nodes : Nodes) → NodesEnd all x nodes
  nodes_end x End = tt
  nodes_end x (Leaf_node node rest) = (ends_at x, nodes_end (suc x) rest)
  nodes_end x (Init_node node children rest) = (children_end x children, nodes_end x children, nodes_end (x + leaf_count children) rest)

pub none_endless : (t s : Scenario) → IsSound t → ScenariosAsOne t s → NoneEndless s
none_endless t s sound alike =
    record {
      interfaces = λ two service i l known below.
          never_endless t s sound alike (ap counts_caps alike.version ∙ two) service l (within service i l known below);
      root = λ two. children_end t s sound alike (ap counts_caps alike.version ∙ two) 0 s.nodes;
      nodes = λ two. nodes_end t s sound alike (ap counts_caps alike.version ∙ two) 0 s.nodes;
    }
  where
    within : (service : List ℕ) (i : Interface) (l : ℕ) → interface_in service s.interfaces ≡ Some i → l ≤ length i.upgrades
        → l ≤ levels_for t.interfaces service
    within service i l known below = by (interface_in service t.interfaces) refl
        (subst (λ o. ProvideAsOne (interface_in service t.interfaces) o) known (found_both service t.interfaces s.interfaces alike.interfaces))
      where
        by : (o : Option Interface) → interface_in service t.interfaces ≡ o → ProvideAsOne (interface_in service t.interfaces) (Some i)
            → l ≤ levels_for t.interfaces service
        by None e h = absurd (subst (λ o. ProvideAsOne o (Some i)) e h)
        by (Some j) e h =
            let one : AreAsOne j i = subst (λ o. ProvideAsOne o (Some i)) e h in
            let levels : levels_for t.interfaces service ≡ length j.upgrades = ap (λ o. number_of o (λ i. length i.upgrades)) e in
            omega (arith, below, one.levels, levels)
