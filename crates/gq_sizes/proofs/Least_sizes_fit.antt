-- With the least quantities in place of its own, a program breaks no rule, where each `open` gives what is needed.
use Rattle.std.proofs.Common.{◌≡◌, ℕ, zero, suc, ◌+◌, ◌-◌, ◌≤◌, Bool, true, false, List, [], ◌∷◌, length, map, Option, Some, None, Ok, refl, ap, sym, ◌∙◌}
use Rattle.std.proofs.Common.{subst, arith, inl, inr}
use Rattle.std.specs.Prelude.{nat_le, slice_index_or, if◌then◌else◌}
use Rattle.std.proofs.lemmas.Bool.{cases_lt}
use Rattle.std.proofs.lemmas.Bool.Decides.{nat_tests}
use Rattle.gq_model.specs.machine.Amounts.{Resource, Ram, Caps, Amount, amount, counted_in, part, counts_caps}
use Rattle.gq_model.specs.declared.section.Section.{Section}
use Rattle.gq_model.specs.declared.section.Section.TheVariants.{Main, Opening, Upgrading, Calling, Closing, Reacting}
use Rattle.gq_model.specs.machine.Lists.{greatest}
use Rattle.gq_model.specs.machine.Program.{Statements, body_of, section_in, text_eq}
use Rattle.gq_model.specs.machine.Scenario.{Interface, Interfaces, Component, System, interface_in, service_in, number_of}
use Rattle.gq_model.specs.rules.Kinds.{AbstractState, Subject, need_of}
use Rattle.gq_model.specs.machine.Sections.{level_of}
use Rattle.gq_model.specs.rules.Kinds as kinds
use Rattle.gq_model.specs.rules.Rules.{must, over, covered, within_need}
use Rattle.gq_model.specs.rules.Use.{subject}
use Rattle.gq_model.proofs.Small_facts.{none_some, some_same, text_is}
use Rattle.gq_model.specs.declared.program.Instruction.{Instruction}
use Rattle.gq_model.specs.declared.program.Instruction.TheVariants.{Say, Out, Operands, Make, MakePool, Load}
use Rattle.gq_model.specs.declared.program.Instruction.TheVariants.{Store, Free, Take, Give, Peek, Poke, Open, Upgrade, Call, Close}
use Rattle.gq_model.specs.rules.Flow.{context, start_of, body}
use Rattle.gq_model.specs.rules.Verdict.{program_fault}
use Rattle.gq_sizes.specs.Unsized_equality.{Along, Allows, Affords, ContextsAsOne, StatesAsOne, AreAsOne, AllAsOne, ProvideAsOne, SubjectsAsOne, caps_for}
use Rattle.gq_sizes.specs.Unsized_equality.{caps_needed}
use Rattle.gq_sizes.specs.Unsized_equality.{levels_for}
use Rattle.gq_sizes.specs.Size.{gifts, opens_from, Gift, Given, least_gift, is_up_to, is_named, needed, ram_sum, least_caps, caps_sum, rounds, sum_in}
use Rattle.gq_sizes.specs.Size.{section_points, session_cost}
use Rattle.gq_program.specs.Interfaces.{unbounded}
use Rattle.gq_sizes.specs.Least.{caps_of, sum_at, least_interface, least_interfaces, least_upgrades}
use Rattle.gq_sizes.proofs.Judgement_under_larger_gifts.{linked_back, same_interface}
use Rattle.gq_sizes.proofs.Session_cost_comparison.{cost_ram, cost_caps}
use Rattle.gq_sizes.proofs.Program_under_larger_gifts.{program_so}
use Rattle.gq_sizes.proofs.Statement_point_predicates.{Met, Each, along_by, first_each}
use Rattle.gq_sizes.proofs.Level_sums_cover.{Rises, sum_rises, sum_step, need_ram, need_caps, upgrade_at, upgrades_length}

-- WHAT IS NEEDED RISES WITH THE LEVEL

greatest_less : {A : Type 0} (f g : A → ℕ) (xs : List A) → ((a : A) → f a ≤ g a) → greatest f xs ≤ greatest g xs
greatest_less f g [] h = omega arith
greatest_less f g (x ∷ xs) h = let r = greatest_less f g xs h in let e = h x in grind (arith, r, e)

up_further : (l : ℕ) (section : Section) → is_up_to l section ≡ true → is_up_to (suc l) section ≡ true
up_further l section e = by section e
  where
    by : (section : Section) → is_up_to l section ≡ true → is_up_to (suc l) section ≡ true
    by Main e = absurd cc
    by Opening e = grind (arith, nat_tests)
    by (Upgrading k) e = grind (arith, nat_tests)
    by (Calling k) e = grind (arith, nat_tests)
    by (Closing k) e = grind (arith, nat_tests)
    by (Reacting i) e = absurd cc

when_further : (a b : Bool) (n : ℕ) → (a ≡ true → b ≡ true) → (if a then n else 0) ≤ (if b then n else 0)
when_further false b n h = omega arith
when_further true b n h = subst (λ x. n ≤ (if x then n else 0)) (sym (h refl)) (omega arith)

when_more : (a : Bool) (n m : ℕ) → n ≤ m → (if a then n else 0) ≤ (if a then m else 0)
when_more true n m h = h
when_more false n m h = omega arith

pub needed_rises : (given : Given) (r : Resource) (all : System) (service : List ℕ) (i : Interface) (l : ℕ)
    → needed given r all service i l ≤ needed given r all service i (suc l)
needed_rises given r all service i l =
    greatest_less _ _ all.components (λ c. when_more (is_named service c.node.provides) _ _
    (greatest_less _ _ c.node.program.sections (λ p. when_further (is_up_to l p.0) (is_up_to (suc l) p.0) _ (up_further l p.0))))

-- INTERFACES

pub map_length : {A B : Type 0} (f : A → B) (xs : List A) → length (map f xs) ≡ length xs
map_length f [] = refl
map_length f (x ∷ xs) = ap suc (map_length f xs)

as_one : (sum : ℕ → Amount) (i : Interface) → AreAsOne (unbounded i) (least_interface sum i)
as_one sum i = record {
  arg = refl;
  reply = refl;
  object = refl;
  buffer = refl;
  levels = map_length (λ (a : Amount). amount 0 a.caps) i.upgrades ∙ sym (upgrades_length sum 0 i.upgrades);
}

-- the interfaces without quantities
abbrev pub free : Interfaces → Interfaces
free is = map (λ e. (e.0, unbounded e.1)) is

pub found_again : (is : Interfaces) (service : List ℕ) (j : Interface) → interface_in service (free is) ≡ Some j
    → (i : Interface) × (interface_in service is ≡ Some i) × (j ≡ unbounded i)
found_again [] service j e = absurd (none_some e)
found_again (x ∷ is) service j e = by (text_eq service x.0) e (found_again is service j)
  where
    by : (b : Bool) → (if◌then◌else◌ b (Some (unbounded x.1)) (interface_in service (free is))) ≡ Some j
        → (interface_in service (free is) ≡ Some j → (i : Interface) × (interface_in service is ≡ Some i) × (j ≡ unbounded i))
        → (i : Interface) × ((if◌then◌else◌ b (Some x.1) (interface_in service is)) ≡ Some i) × (j ≡ unbounded i)
    by true e2 further = (x.1, refl, sym (some_same e2))
    by false e2 further = further e2

module _ (version : ℕ) (all : System) (gs : List Gift) where
  abbrev pub sum_of : List ℕ → Interface → ℕ → Amount
  sum_of service i = sum_at version all gs service i

  pub all_as_one : (is : Interfaces) → AllAsOne (free is) (least_interfaces version all gs is)
  all_as_one [] = tt
  all_as_one (e ∷ is) = (refl, as_one (sum_of e.0 e.1) e.1, all_as_one is)

  -- what is found of a service
  pub found_least : (is : Interfaces) (service : List ℕ) (j : Interface) → interface_in service (least_interfaces version all gs is) ≡ Some j
      → (i : Interface) × (interface_in service is ≡ Some i) × (j ≡ least_interface (sum_of service i) i)
  found_least [] service j e = absurd (none_some e)
  found_least (x ∷ is) service j e = by (text_eq service x.0) refl e (found_least is service j)
    where
      by : (b : Bool) → text_eq service x.0 ≡ b
          → (if◌then◌else◌ b (Some (least_interface (sum_of x.0 x.1) x.1)) (interface_in service (least_interfaces version all gs is))) ≡ Some j
          → (interface_in service (least_interfaces version all gs is) ≡ Some j
          → (i : Interface) × (interface_in service is ≡ Some i) × (j ≡ least_interface (sum_of service i) i))
          → (i : Interface) × ((if◌then◌else◌ (text_eq service x.0) (Some x.1) (interface_in service is)) ≡ Some i) × (j ≡ least_interface (sum_of service i) i)
      by true is_it e2 further = (
        x.1,
        (λ k. if◌then◌else◌ (is_it k) (Some x.1) (interface_in service is)),
        sym (some_same e2) ∙ ap (λ n. least_interface (sum_of n x.1) x.1) (sym (text_is service x.0 is_it)),
      )
      by false is_it e2 further =
          let r = further e2 in
          (r.0, (λ k. if◌then◌else◌ (is_it k) (Some x.1) (interface_in service is)) ∙ r.1, r.2)

  pub found_free : (is : Interfaces) (service : List ℕ) (i : Interface) → interface_in service is ≡ Some i → interface_in service (free is) ≡ Some (unbounded i)
  found_free [] service i e = absurd (none_some e)
  found_free (x ∷ is) service i e = by (text_eq service x.0) e (found_free is service i)
    where
      by : (b : Bool) → (if◌then◌else◌ b (Some x.1) (interface_in service is)) ≡ Some i
          → (interface_in service is ≡ Some i → interface_in service (free is) ≡ Some (unbounded i))
          → (if◌then◌else◌ b (Some (unbounded x.1)) (interface_in service (free is))) ≡ Some (unbounded i)
      by true e2 further = ap (λ k. Some (unbounded k)) (some_same e2)
      by false e2 further = further e2

  pub caps_rises : (service : List ℕ) (n l : ℕ) → caps_sum n all service l ≤ caps_sum n all service (suc l)
  caps_rises service zero l = omega arith
  caps_rises service (suc n) l = by (interface_in service all.interfaces)
    where
      by : (o : Option Interface)
          → sum_in (λ i. needed (caps_sum n all) Caps all service i l) o ≤ sum_in (λ i. needed (caps_sum n all) Caps all service i (suc l)) o
      by None = omega arith
      by (Some i) = needed_rises (caps_sum n all) Caps all service i l

  caps_of_less : (n m : ℕ) → n ≤ m → caps_of version n ≤ caps_of version m
  caps_of_less n m h = when_more (counts_caps version) n m h

  pub sums_rise : (service : List ℕ) (i : Interface) → Rises (sum_of service i)
  sums_rise service i = record {
    ram = λ l. sum_rises all gs service i l;
    caps = λ l. caps_of_less _ _ (caps_rises service (rounds all) l);
  }

-- of a service that is not there nothing is needed
none_needed : (n : ℕ) (all : System) (service : List ℕ) (l : ℕ) → interface_in service all.interfaces ≡ None → caps_sum n all service l ≡ 0
none_needed zero all service l e = refl
none_needed (suc n) all service l e = ap (sum_in (λ i. needed (caps_sum n all) Caps all service i l)) e

-- COVERED

le_test : (a b : ℕ) → a ≤ b → nat_le a b ≡ true
le_test a b h = grind (arith, nat_tests)

covered_by : (resources : List Resource) (j : Interface) (level : ℕ) (t : AbstractState)
    → Each (λ r. kinds.session_cost r j t.bank ≤ part r (need_of j level)) resources
    → covered resources j level t ≡ Ok t
covered_by [] j level t h = refl
covered_by (r ∷ rest) j level t h =
    (λ k. must (le_test (kinds.session_cost r j t.bank) (part r (need_of j level)) h.0 k) (over r) (covered rest j level t)) ∙ covered_by rest j level t h.1

within_by : (section : Section) (q : Option Interface) (t : AbstractState)
    → ((j : Interface) → q ≡ Some j → is_up_to (level_of section) section ≡ true → covered j.counted j (level_of section) t ≡ Ok t)
    → within_need section q t ≡ Ok t
within_by Main q t h = refl
within_by (Reacting i) q t h = refl
within_by Opening None t h = refl
within_by Opening (Some j) t h = h j refl refl
within_by (Upgrading l) None t h = refl
within_by (Upgrading l) (Some j) t h = h j refl (le_test l l (omega arith))
within_by (Calling l) None t h = refl
within_by (Calling l) (Some j) t h = h j refl (le_test l l (omega arith))
within_by (Closing l) None t h = refl
within_by (Closing l) (Some j) t h = h j refl (le_test l l (omega arith))

-- PROGRAMS

-- What holds of a scenario without its quantities, by which one with the least ones is accepted: its interfaces count what their version counts, and no
-- session needs more capabilities than are reported at the end of all chains of use.
pub record IsFree (version : ℕ) (all : System) (is : Interfaces) : Type 0 where
  pub interfaces : all.interfaces ≡ free is
  pub counted : (service : List ℕ) (i : Interface) → interface_in service is ≡ Some i → i.counted ≡ counted_in version
  pub settled : counts_caps version ≡ true → (service : List ℕ) (i : Interface) (l : ℕ) → interface_in service is ≡ Some i → l ≤ length i.upgrades
      → needed (least_caps all) Caps all service i l ≤ least_caps all service l

module _ (version : ℕ) (all : System) (gs : List Gift) (is : Interfaces) (h : IsFree version all is) (c : Component) where
  abbrev pub zs : Interfaces
  zs = least_interfaces version all gs is

  abbrev pub v : Subject
  v = subject all c

  abbrev pub w : Subject
  w = record {
    program = c.node.program;
    provided = service_in c.node.provides zs;
    interfaces = zs;
    inputs = c.node.inputs;
    signals = c.node.signals;
  }

  abbrev sum : List ℕ → Interface → ℕ → Amount
  sum service i = sum_at version all gs service i

  -- an `open` gives what is needed
  abbrev pub Enough : List ℕ → ℕ → Type 0
  Enough service n = (i : Interface) → interface_in service is ≡ Some i → ram_sum all gs service i 0 ≤ n

  -- a gift is no less than the least
  abbrev pub IsGift : Gift → Type 0
  IsGift g = (m : ℕ) × (least_gift g.0 g.1 gs ≡ Some m) × (m ≤ g.2)

  -- a session costs no more than is needed at its level
  abbrev pub Fits : Section → AbstractState → Type 0
  Fits section s = (service : List ℕ) (i : Interface) → c.node.provides ≡ Some service → interface_in service is ≡ Some i
      → is_up_to (level_of section) section ≡ true
      → (session_cost (λ _ _. 0) Ram i s ≤ ram_sum all gs service i (level_of section))
      × (counts_caps version ≡ true → session_cost (least_caps all) Caps i s ≤ least_caps all service (level_of section))

  both_as_one : AllAsOne v.interfaces zs
  both_as_one = subst (λ xs. AllAsOne xs zs) (sym h.interfaces) (all_as_one version all gs is)

  provide_as_one : (p : Option (List ℕ)) → ProvideAsOne (service_in p v.interfaces) (service_in p zs)
  provide_as_one None = tt
  provide_as_one (Some service) = by (interface_in service v.interfaces) refl
    where
      by : (o : Option Interface) → interface_in service v.interfaces ≡ o → ProvideAsOne o (interface_in service zs)
      by None e = none_too (interface_in service zs) refl
        where
          none_too : (q : Option Interface) → interface_in service zs ≡ q → ProvideAsOne None q
          none_too None f = tt
          none_too (Some j) f =
              let p = found_least version all gs is service j f in
              let g = found_free version all gs is service p.0 p.1 in
              none_some (sym e ∙ (λ k. interface_in service (h.interfaces k)) ∙ g)
      by (Some i) e =
          let p = same_interface v.interfaces zs service i both_as_one e in
          subst (ProvideAsOne (Some i)) (sym p.1) p.2

  pub subjects : SubjectsAsOne v w
  subjects = record { program = refl; provided = provide_as_one c.node.provides; interfaces = both_as_one; inputs = refl; signals = refl }

  -- what is given for a link is what the least capabilities say
  pub settled_caps : counts_caps version ≡ true → (service : List ℕ) (l : ℕ) → l ≤ levels_for v.interfaces service
      → caps_for zs service l ≡ least_caps all service l
  settled_caps two service l below = by (interface_in service zs) refl
    where
      counted_caps : (n : ℕ) → caps_of version n ≡ n
      counted_caps n = ap (λ (b : Bool). if◌then◌else◌ b n 0) two

      by : (o : Option Interface) → interface_in service zs ≡ o → caps_needed l o ≡ least_caps all service l
      by None e = nothing (interface_in service v.interfaces) refl
        where
          nothing : (q : Option Interface) → interface_in service v.interfaces ≡ q → 0 ≡ least_caps all service l
          nothing None f = sym (none_needed (rounds all) all service l f)
          nothing (Some i) f = let p = same_interface v.interfaces zs service i both_as_one f in absurd (none_some (sym e ∙ p.1))
      by (Some j) e =
          let p = found_least version all gs is service j e in
          let known : levels_for v.interfaces service ≡ length p.0.upgrades =
          (λ k. number_of (((λ n. interface_in service (h.interfaces n)) ∙ found_free version all gs is service p.0 p.1) k) (λ i. length i.upgrades))
          ∙ map_length (λ (a : Amount). amount 0 a.caps) p.0.upgrades in
          let within : l ≤ length p.0.upgrades = omega (arith, below, known) in
          let n = need_caps (sum service p.0) (sums_rise version all gs service p.0) p.0 l within in
          ap (λ (i : Interface). (need_of i l).caps) p.2 ∙ n ∙ counted_caps (least_caps all service l)

  index_out : (xs : List Amount) (l : ℕ) → length xs ≤ l → slice_index_or xs l (amount 0 0) ≡ amount 0 0
  index_out [] l e = refl
  index_out (a ∷ xs) zero e = absurd (omega (arith, e))
  index_out (a ∷ xs) (suc l) e = index_out xs l (omega (arith, e))

  -- an upgrade asks for no more than is ever given for it
  upgrade_small : (service : List ℕ) (l n : ℕ) (i : Interface) → IsGift (service, suc l, n)
      → (slice_index_or (least_upgrades (sum service i) 0 i.upgrades) l (amount 0 0)).ram ≤ n
  upgrade_small service l n i gift = elim (cases_lt l (length i.upgrades)) [
    | inl below ↦
        let e = upgrade_at (sum service i) (sums_rise version all gs service i) l 0 i.upgrades below in
        let z : 0 + l ≡ l = omega arith in
        let step = sum_step all gs service i l gift.0 (omega (arith, below)) gift.1 in
        let few = gift.2 in
        let here : (slice_index_or (least_upgrades (sum service i) 0 i.upgrades) l (amount 0 0)).ram
        ≡ (sum service i (suc l)).ram - (sum service i l).ram = ap (λ a. a.ram) e ∙ ap (λ k. (sum service i (suc k)).ram - (sum service i k).ram) z in
        omega (arith, here, step, few)
    | inr above ↦
        let long = upgrades_length (sum service i) 0 i.upgrades in
        let e = index_out (least_upgrades (sum service i) 0 i.upgrades) l (omega (arith, long, above)) in
        omega (arith, ap (λ a. a.ram) e)
  ]

  pub contexts : (section : Section) → ContextsAsOne (context v section) (context w section)
  contexts section = record { subject = subjects; section = refl; counts = refl }

  affords : (section : Section) (s t : AbstractState) (i : Instruction) → StatesAsOne v.interfaces zs s t → Met Enough IsGift (context v section) s i
      → Affords (context w section) t i
  affords section s t (Open place service n) o a = λ j e.
      let p = found_least version all gs is service j e in
      subst (λ (k : Interface). k.need.ram ≤ n) (sym p.2) (a p.0 p.1)
  affords section s t (Upgrade place n) o a = λ service level given j link e.
      let p = found_least version all gs is service j e in
      let b = linked_back (context v section) (context w section) (contexts section) s t place (service, level, given) o link in
      let gift : IsGift (service, suc level, n) = subst (λ k. IsGift (service, suc k, n)) b.3 (subst (λ k. IsGift (k, suc b.0.1, n)) b.2 (a b.0 b.1)) in
      subst (λ (k : Interface). (slice_index_or k.upgrades level (amount 0 0)).ram ≤ n) (sym p.2) (upgrade_small service level n p.0 gift)
  affords section s t (Say text) o a = tt
  affords section s t Out o a = tt
  affords section s t (Operands m) o a = tt
  affords section s t (Make form place m) o a = tt
  affords section s t (MakePool place m k) o a = tt
  affords section s t (Load width place) o a = tt
  affords section s t (Store width place) o a = tt
  affords section s t (Free place) o a = tt
  affords section s t (Take place) o a = tt
  affords section s t (Give place) o a = tt
  affords section s t (Peek place) o a = tt
  affords section s t (Poke place) o a = tt
  affords section s t (Call place) o a = tt
  affords section s t (Close place) o a = tt

  -- the level of a section of the service is one that its interface has
  abbrev pub HasLevel : Section → Type 0
  HasLevel section =
      (service : List ℕ) (i : Interface) → c.node.provides ≡ Some service → interface_in service is ≡ Some i → is_up_to (level_of section) section ≡ true
      → level_of section ≤ length i.upgrades

  covers_one : (section : Section) (s t : AbstractState) (service : List ℕ) (i : Interface) → HasLevel section → StatesAsOne v.interfaces zs s t → Fits section
      s
      → c.node.provides ≡ Some service → interface_in service is ≡ Some i → is_up_to (level_of section) section ≡ true
      → let j = least_interface (sum service i) i in covered j.counted j (level_of section) t ≡ Ok t
  covers_one section s t service i known o b provides is_i up =
      let j = least_interface (sum service i) i in
      let level = level_of section in
      let below = known service i provides is_i up in
      let fits = b service i provides is_i up in
      let rises = sums_rise version all gs service i in
      let ram : kinds.session_cost Ram j t.bank ≤ (need_of j level).ram =
      omega (arith, cost_ram v.interfaces zs (λ _ _. 0) i j s t refl o, fits.0, need_ram (sum service i) rises i level below) in
      let caps : counts_caps version ≡ true → kinds.session_cost Caps j t.bank ≤ (need_of j level).caps = λ two.
      omega (
        arith,
        cost_caps v.interfaces zs (least_caps all) (settled_caps two) i j s t refl o,
        fits.1 two,
        need_caps (sum service i) rises i level below,
        ap (λ (b : Bool). if◌then◌else◌ b (least_caps all service level) 0) two,
      ) in
      (λ k. covered (h.counted service i is_i k) j level t) ∙ covered_by (counted_in version) j level t (by (counts_caps version) refl ram caps)
    where
      by : (two : Bool) → counts_caps version ≡ two
          → (kinds.session_cost Ram (least_interface (sum service i) i) t.bank ≤ (need_of (least_interface (sum service i) i) (level_of section)).ram)
          → (counts_caps version ≡ true
          → kinds.session_cost Caps (least_interface (sum service i) i) t.bank ≤ (need_of (least_interface (sum service i) i) (level_of section)).caps)
          → Each (λ r. kinds.session_cost r (least_interface (sum service i) i) t.bank ≤ part r (need_of (least_interface (sum service i) i) (level_of
          section)))
          (if◌then◌else◌ two (Ram ∷ Caps ∷ []) (Ram ∷ []))
      by true e ram caps = (ram, (caps e, tt))
      by false e ram caps = (ram, tt)

  covers : (section : Section) (s t : AbstractState) → HasLevel section → StatesAsOne v.interfaces zs s t → Fits section s
      → within_need section w.provided t ≡ Ok t
  covers section s t known o b = within_by section w.provided t (λ j e up. by c.node.provides refl j e up)
    where
      by : (p : Option (List ℕ)) → c.node.provides ≡ p → (j : Interface) → service_in p zs ≡ Some j → is_up_to (level_of section) section ≡ true
          → covered j.counted j (level_of section) t ≡ Ok t
      by None is_p j e up = absurd (none_some e)
      by (Some service) is_p j e up =
          let p = found_least version all gs is service j e in
          subst (λ (k : Interface). covered k.counted k (level_of section) t ≡ Ok t) (sym p.2) (covers_one section s t service p.0 known o b is_p p.1 up)

  -- what is asked of a program without quantities
  pub record IsSufficient : Type 0 where
    pub fine : program_fault v ≡ None
    pub levels : (section : Section) (list : Statements) → section_in section v.program.sections ≡ Some list → HasLevel section
    pub opens : (section : Section) (list : Statements) → section_in section v.program.sections ≡ Some list
        → Each (λ (o : ℕ × List ℕ × ℕ). Enough o.1 o.2) (opens_from 1 list)
    pub gives : (section : Section) (list : Statements) → section_in section v.program.sections ≡ Some list
        → Each IsGift (gifts (context v section) (start_of v section) list)
    pub needs : (section : Section) (list : Statements) → section_in section v.program.sections ≡ Some list
        → Each (Fits section) (section_points v section)

  module _ (q : IsSufficient) where
    pub allows : (section : Section) (list : Statements) → section_in section v.program.sections ≡ Some list
        → Allows (Met Enough IsGift (context v section)) (Fits section) (context v section) (context w section)
    allows section list there = record {
      affords = λ s t i o a. affords section s t i o a;
      covers = λ s t o b. covers section s t (q.levels section list there) o b;
    }

    pub along : (section : Section) (list : Statements) → section_in section v.program.sections ≡ Some list
        → Along (Met Enough IsGift (context v section)) (Fits section) (context v section) (start_of v section) (body v section)
    along section list there =
        let same : body v section ≡ list = ap body_of there in
        along_by Enough IsGift (Fits section) (context v section) (start_of v section) (body v section) 1
        (subst (λ l. Each (λ (o : ℕ × List ℕ × ℕ). Enough o.1 o.2) (opens_from 1 l)) (sym same) (q.opens section list there))
        (subst (λ l. Each IsGift (gifts (context v section) (start_of v section) l)) (sym same) (q.gives section list there))
        (q.needs section list there)

    start : (section : Section) (list : Statements) → section_in section v.program.sections ≡ Some list → Fits section (start_of v section)
    start section list there = first_each (Fits section) (context v section) (start_of v section) (body v section) (q.needs section list there)

    -- with the least quantities it breaks no rule
    pub fits_least : program_fault w ≡ None
    fits_least = program_so v w subjects q.fine (λ section. Met Enough IsGift (context v section)) Fits allows along start
