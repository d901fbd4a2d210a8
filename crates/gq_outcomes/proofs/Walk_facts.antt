-- Turns of a walk, one after the other.
use Rattle.std.proofs.Common.{◌≡◌, ℕ, zero, suc, ◌+◌, ◌-◌, ◌<◌, ◌≤◌, Bool, true, false, List, [], ◌∷◌, ◌++◌, Option, Some, None, length, drop, map, get_or}
use Rattle.std.proofs.Common.{refl, ap, sym, ◌∙◌, subst, append_assoc, append-nil, arith}
use Rattle.std.specs.Prelude.{All, if◌then◌else◌, is_ok, is_some, option_map, slice_get, slice_set, Result, Ok, Err, OnOk}
use Rattle.gq_model.specs.machine.Doing.{Event}
use Rattle.gq_model.specs.machine.Run.{line_of}
use Rattle.gq_model.specs.machine.Scenario.{Component, Scenario, components, system}
use Rattle.gq_model.specs.machine.Step.{next}
use Rattle.gq_model.specs.machine.World.{World, start}
use Rattle.gq_laws.specs.Ready.{IsReady}
use Rattle.gq_load.specs.Load.{LoadRefusal}
use Rattle.gq_world.specs.World_between_turns.{World as Running}
use Rattle.gq_machine.specs.Machines.{Machine}
use Rattle.gq_outcomes.specs.Choices.{can_settle, racy_servers}
use Rattle.gq_outcomes.specs.Outcomes.{Explored, Going, Point, after_step, after_turn, explored, first_point, if_none, line_by, no_lines, round, settled}
use Rattle.gq_outcomes.specs.Outcomes.{while_settling}
use Rattle.gq_outcomes.specs.declared.walk.Walk.{Walk}
use Rattle.gq_outcomes.specs.internal.Choosing.{AreChoices}
use Rattle.gq_outcomes.specs.internal.Walks.{AreNone, At, IsOnWay, IsWalk, StandsAt, Steps, reached, said_of}
use Rattle.gq_outcomes.proofs.Settling.{leaf_more, leaf_none, round_last, round_more, turn_more, turn_none, turns_more}
use Rattle.gq_outcomes.proofs.Turn_rows.{past_more}

-- LINES

nothing_put : (xs : List (List ℕ)) (i : ℕ) → xs ≡ slice_set xs i (get_or xs i [] ++ [])
nothing_put [] i = refl
nothing_put (x ∷ xs) zero = ap (λ y. y ∷ xs) (sym (append-nil x))
nothing_put (x ∷ xs) (suc i) = ap (λ ys. x ∷ ys) (nothing_put xs i)

-- nothing is put behind the lines
pub none_put : (xs : List (List ℕ)) (i : ℕ) (line : List ℕ) → line ≡ [] → xs ≡ slice_set xs i (get_or xs i [] ++ line)
none_put xs i line e = nothing_put xs i ∙ ap (λ l. slice_set xs i (get_or xs i [] ++ l)) (sym e)

-- a line is put behind those of one leaf
pub line_put : {A : Type 0} (f : A → List ℕ) (xs : List A) (i : ℕ) (old new : A) (line : List ℕ) → i < length xs → old ≡ get_or xs i old → f new ≡ f old ++ line
    → map f (slice_set xs i new) ≡ slice_set (map f xs) i (get_or (map f xs) i [] ++ line)
line_put f [] i old new line l e is = absurd (omega (arith, l))
line_put f (x ∷ xs) zero old new line l e is = ap (λ y. y ∷ map f xs) (is ∙ ap (λ y. f y ++ line) e)
line_put f (x ∷ xs) (suc i) old new line l e is = ap (λ ys. f x ∷ ys) (line_put f xs i old new line (omega (arith, l)) e is)

provider_line : (o : Option (List ℕ)) (line : List ℕ) → line ≡ [] → if_none o line ≡ []
provider_line None line e = e
provider_line (Some service) line e = refl

-- an event without a line
pub no_line : (o : Option Component) (event : Event) → ((label : List ℕ) → line_of label event ≡ []) → line_by o event ≡ []
no_line None event none = refl
no_line (Some c) event none = provider_line c.node.provides (line_of c.label event) (none c.label)

-- STEPS

module _ (s : Scenario) where
  -- what stands after a turn
  pub turn_is : (x : ℕ) (new : World) (event : Event) (p : Point) → next (system s) p.world x ≡ Ok (new, event)
      → after_turn (system s) x p ≡ after_step (system s) x p (Ok (new, event))
  turn_is x new event p e = ap (after_step (system s) x p) e

  pub steps_are : (old new : Walk) (x : ℕ) (event : Event) → next (system s) old.world.world x ≡ Ok (new.world.world, event)
      → said_of new ≡ slice_set (said_of old) x (get_or (said_of old) x [] ++ line_by (slice_get (components s) x) event) → Steps s old new x
  steps_are old new x event e said = record {
    stands = λ p at. (let is = turn_is x new.world.world event p (ap (λ w. next (system s) w x) (sym at.world) ∙ e) in
        record {
          world = ap (λ (q : Point). q.world) (sym is);
          said = said
              ∙ ap (λ l. slice_set l x (get_or l x [] ++ line_by (slice_get (components s) x) event)) at.said
              ∙ ap (λ (q : Point). q.said) (sym is);
        });
    longer = λ p at. ap (λ (q : Point). q.past) (turn_is x new.world.world event p (ap (λ w. next (system s) w x) (sym at.world) ∙ e));
  }

  -- TURNS

  pub at_start : (w : Walk) → StandsAt w (first_point (system s)) → At s w []
  at_start w at = record { stands = at; past = refl }

  pub turn_put : (old new : Walk) (turns : List ℕ) (x : ℕ) → At s old turns → Steps s old new x → At s new (turns ++ x ∷ [])
  turn_put old new turns x at steps =
      let more = turns_more (system s) turns x (first_point (system s)) in
      record {
        stands = subst (StandsAt new) (sym more) (steps.stands (reached s turns) at.stands);
        past = ap (λ (q : Point). q.past) more ∙ steps.longer (reached s turns) at.stands ∙ ap (λ l. x ∷ l) at.past ∙ sym (past_more turns [] x);
      }

  -- SETTLING

  abbrev e : Explored
  e = explored s

  abbrev going : List ℕ → ℕ → Going
  going turns n = record { point = reached s turns; left = n }

  pub can_is : (m : Machine) (w : Walk) (p : Point) (x : ℕ) (b : Bool) → m ≡ record { scenario = w.world.scenario; world = w.world.world }
      → w.world.scenario ≡ s → StandsAt w p → b ≡ can_settle (system m.scenario) (racy_servers (system m.scenario)) m.world x
      → can_settle e.system e.racy p.world x ≡ b
  can_is m w p x b is of at found =
      let scenario : m.scenario ≡ s = ap (λ (m : Machine). m.scenario) is ∙ of in
      let world : m.world ≡ p.world = ap (λ (m : Machine). m.world) is ∙ at.world in
      sym (found ∙ (λ i. can_settle (system (scenario i)) (racy_servers (system (scenario i))) (world i) x))

  -- a leaf takes one more turn
  pub leaf_turn : (turns all : List ℕ) (x n most : ℕ) → 0 < n → can_settle e.system e.racy (reached s turns).world x ≡ true
      → while_settling n e x (reached s turns) ≡ while_settling most e x (reached s all)
      → while_settling (n - 1) e x (reached s (turns ++ x ∷ [])) ≡ while_settling most e x (reached s all)
  leaf_turn turns all x n most some can so_far =
      let on : n ≡ suc (n - 1) = omega (arith, some) in
      ap (λ p. while_settling (n - 1) e x p) (turns_more (system s) turns x (first_point (system s)))
      ∙ sym (turn_more (n - 1) e x (reached s turns) can) ∙ ap (λ k. while_settling k e x (reached s turns)) (sym on) ∙ so_far

  pub leaf_stays : (turns all : List ℕ) (x n most : ℕ) → can_settle e.system e.racy (reached s turns).world x ≡ false
      → while_settling n e x (reached s turns) ≡ while_settling most e x (reached s all) → while_settling most e x (reached s all) ≡ going turns n
  leaf_stays turns all x n most can so_far = sym so_far ∙ turn_none n e x (reached s turns) can

  pub leaf_over : (turns all : List ℕ) (x n most : ℕ) → n ≤ 0
      → while_settling n e x (reached s turns) ≡ while_settling most e x (reached s all) → while_settling most e x (reached s all) ≡ going turns n
  leaf_over turns all x n most none so_far =
      let zero_is : n ≡ 0 = omega (arith, none) in
      sym so_far ∙ ap (λ k. while_settling k e x (reached s turns)) zero_is ∙ ap (λ k. going turns k) (sym zero_is)

  -- the next leaf of a round
  pub round_on : (turns later : List ℕ) (k n left : ℕ) (all : Going) → k < length (components s)
      → while_settling n e k (reached s turns) ≡ going later left
      → round e k (drop k (components s)) (going turns n) ≡ all → round e (k + 1) (drop (k + 1) (components s)) (going later left) ≡ all
  round_on turns later k n left all less settles so_far =
      let on : suc k ≡ k + 1 = omega arith in
      ap (λ j. round e j (drop (k + 1) (components s)) (going later left)) (sym on)
      ∙ ap (λ g. round e (suc k) (drop (k + 1) (components s)) g) (sym settles)
      ∙ sym (leaf_more e (components s) k k (going turns n) less) ∙ so_far

  pub round_over : (turns : List ℕ) (k n : ℕ) (all : Going) → length (components s) ≤ k
      → round e k (drop k (components s)) (going turns n) ≡ all → all ≡ going turns n
  round_over turns k n all past so_far = sym so_far ∙ leaf_none e (components s) k k (going turns n) past

  -- the next round
  pub rounds_on : (turns later : List ℕ) (n left : ℕ) (all : Going) → (left ≡ n → ⊥)
      → round e 0 (components s) (going turns n) ≡ going later left
      → settled e (going turns n) ≡ all → settled e (going later left) ≡ all
  rounds_on turns later n left all other goes so_far =
      ap (λ g. settled e g) (sym goes)
      ∙ sym (round_more e (going turns n) (λ same. other (ap (λ (g : Going). g.left) (sym goes) ∙ same))) ∙ so_far

  pub rounds_over : (turns later : List ℕ) (n left : ℕ) (all : Going) → left ≡ n → round e 0 (components s) (going turns n) ≡ going later left
      → settled e (going turns n) ≡ all → all ≡ going later left
  rounds_over turns later n left all same goes so_far =
      sym so_far ∙ round_last e (going turns n) (ap (λ (g : Going). g.left) goes ∙ same) ∙ goes

-- turns that are put one after the other
pub both_put : (old mid new more : List ℕ) (x : ℕ) → mid ≡ old ++ more → new ≡ mid ++ x ∷ [] → new ≡ old ++ (more ++ x ∷ [])
both_put old mid new more x first later = later ∙ ap (λ l. l ++ x ∷ []) first ∙ append_assoc old more (x ∷ [])

pub all_put : (old mid new more others : List ℕ) → mid ≡ old ++ more → new ≡ mid ++ others → new ≡ old ++ (more ++ others)
all_put old mid new more others first later = later ∙ ap (λ l. l ++ others) first ∙ append_assoc old more others

-- NO LINES

pub none_more : {A : Type 0} (f : A → List ℕ) (all : List A) (new : A) (n : ℕ) → f new ≡ [] → AreNone n (map f all) → length all ≡ n → AreNone (n + 1) (map f
    (all ++ new ∷ []))
none_more f [] new zero e h count = (e, tt)
none_more f [] new (suc n) e h count = absurd h
none_more f (a ∷ all) new zero e h count = absurd (omega (arith, count))
none_more f (a ∷ all) new (suc n) is h count =
    let on : suc (n + 1) ≡ suc n + 1 = omega arith in
    subst (λ k. AreNone k (map f (a ∷ (all ++ new ∷ [])))) on (h.0, none_more f all new n is h.1 (omega (arith, count)))

pub none_set : {A : Type 0} (f : A → List ℕ) (all : List A) (new : A) (n : ℕ) → f new ≡ [] → n < length all → AreNone n (map f all) → AreNone (n + 1) (map f
    (slice_set all n new))
none_set f [] new n e less h = absurd (omega (arith, less))
none_set f (a ∷ all) new zero e less h = (e, tt)
none_set f (a ∷ all) new (suc n) is less h =
    let on : suc (n + 1) ≡ suc n + 1 = omega arith in
    subst (λ k. AreNone k (map f (a ∷ slice_set all n new))) on (h.0, none_set f all new n is (omega (arith, less)) h.1)

pub all_none : (said : List (List ℕ)) (n : ℕ) (cs : List Component) → length said ≤ n → length said ≡ length cs → AreNone n said → said ≡ no_lines cs
all_none [] n [] past count h = refl
all_none [] n (c ∷ cs) past count h = absurd (omega (arith, count))
all_none (lines ∷ said) n [] past count h = absurd (omega (arith, count))
all_none (lines ∷ said) zero (c ∷ cs) past count h = absurd (omega (arith, past))
all_none (lines ∷ said) (suc n) (c ∷ cs) past count h = λ i. h.0 i ∷ all_none said n cs (omega (arith, past)) (omega (arith, count)) h.1 i

pub still_none : (n : ℕ) (said all : List (List ℕ)) → said ≡ all → AreNone n all → AreNone n said
still_none n said all e h = subst (AreNone n) (sym e) h

-- WHETHER A LEAF PROVIDES SOMETHING

provider_has : (o : Option (List ℕ)) (line : List ℕ) → is_some o ≡ true → if_none o line ≡ []
provider_has None line e = absurd (cc e)
provider_has (Some service) line e = refl

provider_none : (o : Option (List ℕ)) (line : List ℕ) → is_some o ≡ false → if_none o line ≡ line
provider_none None line e = refl
provider_none (Some service) line e = absurd (cc e)

pub some_map : {A B : Type 0} (f : A → B) (o : Option A) → is_some (option_map f o) ≡ is_some o
some_map f None = refl
some_map f (Some a) = refl

pub provided : (o : Option Component) (event : Event) → ((c : Component) → o ≡ Some c → is_some c.node.provides ≡ true) → line_by o event ≡ []
provided None event h = refl
provided (Some c) event h = provider_has c.node.provides (line_of c.label event) (h c refl)

pub unprovided : (o : Option Component) (c : Component) (event : Event) → o ≡ Some c → is_some c.node.provides ≡ false → line_by o event ≡ line_of c.label event
unprovided o c event at none = ap (λ o. line_by o event) at ∙ provider_none c.node.provides (line_of c.label event) none

-- REFUSALS

pub on_ok : {T E P Q : Type 0} (r : Result T E) → (P → Q) → OnOk r P → OnOk r Q
on_ok (Ok t) f h = f h
on_ok (Err e) f h = h

pub ok_items : {T E : Type 0} (r : Result T E) (new old put : List ℕ) → new ≡ (if is_ok r then old ++ put else old) → OnOk r (new ≡ old ++ put)
ok_items (Ok t) new old put is = is
ok_items (Err e) new old put is = tt

pub all_ok : {T E P Q R S : Type 0} (r : Result T E) → (P → Q → R → S) → OnOk r P → OnOk r Q → OnOk r R → OnOk r S
all_ok (Ok t) f p q h = f p q h
all_ok (Err e) f p q h = p

-- STARTS

-- a walk at the start of a scenario
pub begins : (s : Scenario) (w : Walk) → w.world.scenario ≡ s → IsReady s → w.world.stopped ≡ false → w.world.world ≡ start (system w.world.scenario)
    → AreChoices s w.choices
    → said_of w ≡ no_lines (components s) → length w.said.items ≡ length (components s) → w.past.items ≡ [] → IsOnWay s w
begins s w of ready running world choices said count past = record {
  walk = record {
    scenario = of;
    ready = ready;
    choices = choices;
    count = count;
    turns = subst (λ l. All (λ x. x < length (components s)) l) (sym past) (λ k d less. absurd (omega (arith, less)));
    running = running;
  };
  at = subst (At s w) (sym past) (at_start s w (record { world = world ∙ ap (λ z. start (system z)) of; said = said }));
}

abbrev scenario_or : Result Scenario LoadRefusal → Scenario → Scenario
scenario_or (Ok s) other = s
scenario_or (Err e) other = other

-- a text is that of one scenario
pub same_loaded : (r : Result Scenario LoadRefusal) (a b : Scenario) → r ≡ Ok a → r ≡ Ok b → a ≡ b
same_loaded r a b first other = ap (λ q. scenario_or q a) (sym first ∙ other)

-- a walk with another world of its scenario
pub walk_moved : (s : Scenario) (old : Walk) (world : Running) → world.scenario ≡ s → world.stopped ≡ false → IsWalk s old
    → IsWalk world.scenario (record old { world = world })
walk_moved s old world of running h =
    subst (λ z. IsWalk z (record old { world = world })) (sym of)
    (record { scenario = of; ready = h.ready; choices = h.choices; count = h.count; turns = h.turns; running = running })
