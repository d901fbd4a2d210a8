-- A turn for a thread at a point of the search, and the same turn at two points whose worlds have all threads the same.
use Rattle.std.proofs.Common.{◌≡◌, ◌≢◌, ◌⊎◌, ℕ, zero, suc, Bool, true, ◌++◌, List, [], ◌∷◌, Option, Some, None, Ok}
use Rattle.std.proofs.Common.{refl, ap, sym, ◌∙◌, subst}
use Rattle.std.specs.Prelude.{get_or, is_some, slice_get, slice_set}
use Rattle.std.proofs.lemmas.Bool.{true≢false}
use Rattle.gq_model.specs.declared.program.Instruction.{Instruction}
use Rattle.gq_model.specs.machine.Accounts.{account_lines, accounts}
use Rattle.gq_model.specs.machine.Doing.{Event}
use Rattle.gq_model.specs.machine.Scenario.{Component, Scenario, System, system}
use Rattle.gq_model.specs.machine.Step.{next}
use Rattle.gq_model.specs.machine.World.{World}
use Rattle.gq_laws.specs.Progress.{AllRest}
use Rattle.gq_laws.specs.Sound_scenarios.{IsSound}
use Rattle.gq_model.specs.machine.Rest.{can_run}
use Rattle.gq_laws.specs.internal.Uncounted.{uncounted}
use Rattle.gq_determined.specs.internal.Threads.{who}
use Rattle.gq_determined.proofs.thread_positions.Turn_thread_position.{IsWorking}
use Rattle.gq_determined.proofs.thread_runs.Raceless_first_statements.{OpensThere}
use Rattle.gq_determined.proofs.thread_runs.Remaining_section_statements.{AreSections, Lefts}
use Rattle.gq_outcomes.specs.Outcomes.{Explored, Point, after_step, after_turn, explored, if_none, line_by, lines_of}
use Rattle.gq_outcomes.proofs.complete.Found_by_ends.{Ends}
use Rattle.gq_outcomes.proofs.complete.Runs_end.{set_itself}
use Rattle.gq_outcomes.proofs.complete.Held_worlds.{AreQuiet, Held, view}
use Rattle.gq_outcomes.proofs.complete.Good_worlds.{goes}
use Rattle.gq_outcomes.proofs.complete.Alike_held.{AreOne, IsGood, both_show, end, good_end, one_end, runs_who, shown}
use Rattle.gq_outcomes.proofs.complete.Two_orders.{who_one}
use Rattle.gq_outcomes.proofs.complete.Rest_alike.{accounts_one, steps_one, rest_one}
use Rattle.gq_outcomes.proofs.complete.Opened_sections.{AreBy, by_next}
use Rattle.gq_model.specs.machine.Step_budgets.{all_steps_in}

set_two : {A : Type 0} (l : List A) (x y : ℕ) (a b : A) → x ≢ y → slice_set (slice_set l x a) y b ≡ slice_set (slice_set l y b) x a
set_two [] x y a b ne = refl
set_two (c ∷ l) zero zero a b ne = absurd (ne refl)
set_two (c ∷ l) zero (suc y) a b ne = refl
set_two (c ∷ l) (suc x) zero a b ne = refl
set_two (c ∷ l) (suc x) (suc y) a b ne = ap (λ l. c ∷ l) (set_two l x y a b (λ e. ne (ap suc e)))

get_else : {A : Type 0} (l : List A) (x y : ℕ) (a d : A) → x ≢ y → get_or (slice_set l x a) y d ≡ get_or l y d
get_else [] x y a d ne = refl
get_else (c ∷ l) zero zero a d ne = absurd (ne refl)
get_else (c ∷ l) zero (suc y) a d ne = refl
get_else (c ∷ l) (suc x) zero a d ne = refl
get_else (c ∷ l) (suc x) (suc y) a d ne = get_else l x y a d (λ e. ne (ap suc e))

-- lines of two leaves, said in either order
abbrev pub said_more : List (List ℕ) → ℕ → List ℕ → List (List ℕ)
said_more l x a = slice_set l x (get_or l x [] ++ a)

pub said_both : (l : List (List ℕ)) (x y : ℕ) (a b : List ℕ) → x ≢ y → said_more (said_more l x a) y b ≡ said_more (said_more l y b) x a
said_both l x y a b ne =
    ap (λ o. slice_set (said_more l x a) y (o ++ b)) (get_else l x y (get_or l x [] ++ a) [] ne)
    ∙ (set_two l x y (get_or l x [] ++ a) (get_or l y [] ++ b) ne
    ∙ ap (λ o. slice_set (said_more l y b) x (o ++ a)) (sym (get_else l y x (get_or l y [] ++ b) [] (λ e. ne (sym e)))))

-- a server writes no lines of the outcome
if_some : (o : Option (List ℕ)) (l : List ℕ) → is_some o ≡ true → if_none o l ≡ []
if_some None l e = absurd (true≢false (sym e))
if_some (Some service) l e = refl

module _ (s : Scenario) (sound : IsSound s) (holds : ℕ → Bool) (P : ℕ → Component → Bool → Instruction → Type 0)
    (sections : AreSections P (uncounted (system s))) (quiet_of : (w : World) → Lefts P (uncounted (system s)) w → AreQuiet holds w)
    (opens_of : (x : ℕ) (c : Component) (later : Bool) (i : Instruction) → P x c later i → OpensThere (uncounted (system s)) c later i) where
  abbrev u : System
  u = uncounted (system s)

  abbrev real : System
  real = system s

  abbrev e : Explored
  e = explored s

  abbrev G : Held → Type 0
  G m = IsGood s sound holds P sections quiet_of m

  abbrev E : (m : Held) (h : G m) (i x : ℕ) → who (view m) x ≡ Some i → Held
  E m h i x is = end s sound holds P sections quiet_of m h i x is

  abbrev good : (m : Held) (h : G m) (i x : ℕ) (is : who (view m) x ≡ Some i) → G (E m h i x is)
  good m h i x is = good_end s sound holds P sections quiet_of m h i x is

  abbrev show : (m : Held) (h : G m) (i x : ℕ) → who (view m) x ≡ Some i → Event
  show m h i x is = shown s sound holds P sections quiet_of m h i x is

  -- A TURN AT A POINT

  abbrev pub lines : ℕ → Event → List ℕ
  lines x event = line_by (slice_get real.components x) event

  turn_is : (p : Point) (m : Held) (h : G m) (at : m.world ≡ p.world) (i x : ℕ) (is : who (view m) x ≡ Some i)
      → after_turn real x p ≡ after_step real x p (Ok (goes s sound holds P sections quiet_of m h x).0)
  turn_is p m h at i x is = ap (after_step real x p) (ap (λ w. next real w x) (sym at) ∙ (goes s sound holds P sections quiet_of m h x).2)

  pub turn_world : (p : Point) (m : Held) (h : G m) (at : m.world ≡ p.world) (i x : ℕ) (is : who (view m) x ≡ Some i)
      → (E m h i x is).world ≡ (after_turn real x p).world
  turn_world p m h at i x is = sym (ap (λ (q : Point). q.world) (turn_is p m h at i x is))

  pub turn_said : (p : Point) (m : Held) (h : G m) (at : m.world ≡ p.world) (i x : ℕ) (is : who (view m) x ≡ Some i)
      → (after_turn real x p).said ≡ said_more p.said x (lines x (show m h i x is))
  turn_said p m h at i x is = ap (λ (q : Point). q.said) (turn_is p m h at i x is)

  pub said_server : (p : Point) (m : Held) (h : G m) (at : m.world ≡ p.world) (i x : ℕ) (is : who (view m) x ≡ Some i) (d : Component)
      → slice_get u.components x ≡ Some d → is_some d.node.provides ≡ true → (after_turn real x p).said ≡ p.said
  said_server p m h at i x is d there provides =
      turn_said p m h at i x is
      ∙ (ap (said_more p.said x) (ap (λ o. line_by o (show m h i x is)) there ∙ if_some d.node.provides _ provides)
      ∙ set_itself p.said x)

  -- POINTS THAT ARE ALIKE

  pub record IsLike (p q : Point) : Type 0 where
    pub m : Held
    pub n : Held
    pub at : m.world ≡ p.world
    pub at_n : n.world ≡ q.world
    pub good_m : G m
    pub good_n : G n
    pub opened_m : AreBy u m.world
    pub opened_n : AreBy u n.world
    pub one : AreOne s sound holds P sections quiet_of m n
    pub said : p.said ≡ q.said

  -- at rest they have the same outcome
  pub like_rests : (t : List ℕ) (p q : Point) → IsLike p q → Ends s p [] t → Ends s q [] t
  like_rests t p q l r =
      let rest = subst AllRest (sym l.at) r.0 in
      let sums : account_lines s.version (accounts s q.world (all_steps_in q.world e.budgets))
      ≡ account_lines s.version (accounts s p.world (all_steps_in p.world e.budgets))
      = ap (account_lines s.version) (ap (λ w. accounts s w (all_steps_in w e.budgets)) (sym l.at_n)
      ∙ (ap (accounts s l.n.world) (steps_one s sound holds P sections quiet_of l.m l.n l.good_m l.good_n e.budgets)
      ∙ (accounts_one s sound holds P sections quiet_of l.m l.n l.good_m l.good_n l.one rest (all_steps_in l.m.world e.budgets)
      ∙ ap (λ w. accounts s w (all_steps_in w e.budgets)) l.at))) in (
        subst AllRest l.at_n (rest_one s sound holds P sections quiet_of l.m l.n l.good_m l.good_n l.one rest),
        (λ j. lines_of (sym l.said j) ++ sums j) ∙ r.1,
      )

  -- a turn of a leaf that works, or of a server that is held, can be taken at both
  pub like_turn : (p q : Point) (l : IsLike p q) (i x : ℕ) (is : who (view l.m) x ≡ Some i) → IsWorking (view l.m) i x ⊎ (holds x ≡ true)
      → (can_run real q.world x ≡ true) × IsLike (after_turn real x p) (after_turn real x q)
  like_turn p q l i x is how =
      let is_n = who_one s sound holds P sections quiet_of l.m l.n l.good_m l.good_n l.one i x is how in (
        ap (λ w. can_run real w x) (sym l.at_n) ∙ runs_who s sound holds P sections quiet_of l.n l.good_n i x is_n,
        record {
          m = E l.m l.good_m i x is;
          n = E l.n l.good_n i x is_n;
          at = turn_world p l.m l.good_m l.at i x is;
          at_n = turn_world q l.n l.good_n l.at_n i x is_n;
          good_m = good l.m l.good_m i x is;
          good_n = good l.n l.good_n i x is_n;
          opened_m = by_next s sound holds P sections quiet_of opens_of l.m l.good_m i x is l.opened_m;
          opened_n = by_next s sound holds P sections quiet_of opens_of l.n l.good_n i x is_n l.opened_n;
          one = one_end s sound holds P sections quiet_of l.m l.n l.good_m l.good_n l.one i x is is_n;
          said = turn_said p l.m l.good_m l.at i x is
              ∙ ((λ j. said_more (l.said j) x (lines x (both_show s sound holds P sections quiet_of l.m l.n l.good_m l.good_n l.one i x is is_n j)))
              ∙ sym (turn_said q l.n l.good_n l.at_n i x is_n));
        },
      )
