-- Points of which the same is kept have the same outcomes.
use Rattle.std.proofs.Common.{◌≡◌, inl, inr, ℕ, true, ◌||◌, ◌++◌, List, [], ◌∷◌, Option, Some, None, Ok, is_some}
use Rattle.std.proofs.Common.{refl, ap, sym, ◌∙◌, subst}
use Rattle.std.specs.Prelude.{slice_get, slice_set, get_or, option_map}
use Rattle.std.proofs.lemmas.Bool.{true≢false}
use Rattle.gq_model.specs.declared.phase.Phase.{Phase}
use Rattle.gq_model.specs.declared.phase.Phase.TheVariants.{Pending, Running, Blocked, Serving, Handling, Exited}
use Rattle.gq_model.specs.machine.Accounts.{account_lines, accounts, handed_to}
use Rattle.gq_model.specs.machine.Doing.{Event}
use Rattle.gq_model.specs.machine.Requests.{free_place}
use Rattle.gq_model.specs.machine.Scenario.{Component, Scenario, System, system}
use Rattle.gq_model.specs.machine.Step_budgets.{all_steps_in}
use Rattle.gq_model.specs.machine.Step.{first_signal, next, oldest}
use Rattle.gq_model.specs.machine.Sums.{paid}
use Rattle.gq_model.specs.machine.World.{Leaf, Request, World, start}
use Rattle.gq_laws.specs.Progress.{AllRest}
use Rattle.gq_laws.specs.Reached_worlds.{IsReached}
use Rattle.gq_laws.specs.Separation.{IsApart}
use Rattle.gq_laws.specs.Sound_scenarios.{IsSound}
use Rattle.gq_model.specs.machine.Rest.{can_run, runs, runs_as}
use Rattle.gq_laws.specs.Renamed.{renamed_leaf}
use Rattle.gq_laws.specs.internal.Corresponding.{IsSame}
use Rattle.gq_laws.proofs.Group_oldest_requests.{Match, matched}
use Rattle.gq_laws.proofs.Inside_step_both.{both_step}
use Rattle.gq_laws.proofs.Outside_step_untouched.{free_none}
use Rattle.gq_laws.proofs.Renamed_session_sums.{same_account}
use Rattle.gq_laws.proofs.Session_renaming.{updated, updated_here, same_updated}
use Rattle.gq_laws.proofs.input_settings.Setting_keeps_invariants.{set_paid, submit_paid}
use Rattle.gq_laws.proofs.progress.Lasting_world_invariant.{Lasts, lasts_next, lasts_set, lasts_submit, reached_lasts}
use Rattle.gq_laws.proofs.progress.No_deadlock.{rest_or_run}
use Rattle.gq_laws.proofs.quota_payment.Paid_worlds.{kept_paid, start_paid}
use Rattle.gq_laws.proofs.upheld_worlds.Reached_world_induction.{in_reached}
use Rattle.gq_laws.proofs.upheld_worlds.Standing_world_invariant.{stands_upheld}
use Rattle.gq_determined.proofs.rest_accounts.Node_accounts_equal.{accounts_same}
use Rattle.gq_determined.proofs.rest_accounts.Step_budgets_same.{budgets_same, signals_in}
use Rattle.gq_outcomes.specs.Laws.{acts_of}
use Rattle.gq_outcomes.specs.Outcomes.{Explored, Kept, Point, after_step, after_turn, explored, kept, lines_of, line_by, outcome_of}
use Rattle.gq_outcomes.specs.Same.{ordered}
use Rattle.gq_outcomes.proofs.sound.Reaches.{Reaches}
use Rattle.gq_outcomes.proofs.complete.Found_by_ends.{Ends, EndsWithin, rests_still}
use Rattle.gq_outcomes.proofs.complete.Kept_renamed.{all, name, same_but_numbers}

module _ (s : Scenario) (sound : IsSound s) where
  abbrev real : System
  real = system s

  abbrev e : Explored
  e = explored s

  -- what stands in each world that turns lead to
  pub record Well (w : World) : Type 0 where
    pub lasts : Lasts s w
    pub pays : paid real w ≡ true

  pub well_next : (w : World) (x : ℕ) (new : World) (event : Event) → Well w → next real w x ≡ Ok (new, event) → Well new
  well_next w x new event h e =
      record {
        lasts = lasts_next s sound w x new event h.lasts e;
        pays = kept_paid s sound.formed.differ w x new event h.lasts.stands.linked h.pays e;
      }

  pub reached_well : (w : World) → IsReached s w → Well w
  reached_well =
      in_reached s Well well_next (λ w x i n h. record { lasts = lasts_set s sound w x i n h.lasts; pays = set_paid real w x i n h.pays })
      (λ w x i h. record { lasts = lasts_submit s sound w x i h.lasts; pays = submit_paid real w x i h.pays })
      (record { lasts = reached_lasts s sound (start real) (record { turns = []; is = refl }); pays = start_paid real })

  pub point_well : (p : Point) → Reaches s p → Well p.world
  point_well p h = reached_well p.world (record { turns = acts_of p.past; is = h.world })

  -- each turn goes on
  pub goes : (w : World) → Well w → (x : ℕ) → (q : World × Event) × (next real w x ≡ Ok q)
  goes w h x = let p = (stands_upheld s w h.lasts.stands).goes_on x in (p.0, p.1)

  all_apart : IsApart real all
  all_apart = record { routes = λ x y c service placed routed. refl; afters = λ x y c d placed at named. refl }

  -- POINTS THAT ARE ALIKE

  -- the same but for the numbers of sessions, with the same lines
  pub record AreAlike (p q : Point) : Type 0 where
    pub name : ℕ → ℕ
    pub same : IsSame all name p.world q.world
    pub said : p.said ≡ q.said
    pub well : Well p.world
    pub well_other : Well q.world

  module _ (p q : Point) (h : AreAlike p q) where
    leaf_there : (o : Option Leaf) (r : Option Leaf) → r ≡ option_map (renamed_leaf h.name) o → (c : Option Component) (x : ℕ)
        → ((leaf : Leaf) → o ≡ Some leaf → runs q.world x leaf leaf.phase ≡ runs p.world x leaf leaf.phase) → runs_as q.world x c r ≡ runs_as p.world x c o
    leaf_there None r e c x same = ap (runs_as q.world x c) e ∙ none c
      where
        none : (c : Option Component) → runs_as q.world x c None ≡ runs_as p.world x c None
        none None = refl
        none (Some c) = refl
    leaf_there (Some leaf) r e c x same = ap (runs_as q.world x c) e ∙ some c
      where
        renamed : (p : Phase) → runs q.world x (renamed_leaf h.name leaf) p ≡ runs q.world x leaf p
        renamed Pending = refl
        renamed Running = refl
        renamed Blocked = refl
        renamed Serving = refl
        renamed Handling = refl
        renamed Exited = refl

        some : (c : Option Component) → runs_as q.world x c (Some (renamed_leaf h.name leaf)) ≡ runs_as p.world x c (Some leaf)
        some None = refl
        some (Some c) = renamed leaf.phase ∙ same leaf refl

    requests_there : (x : ℕ) → is_some (oldest q.world x q.world.requests) ≡ is_some (oldest p.world x p.world.requests)
    requests_there x = by (oldest p.world x p.world.requests) (oldest q.world x q.world.requests) (matched all x refl h.name p.world q.world h.same)
      where
        by : (o r : Option (Request × List Request)) → Match all x refl h.name p.world q.world h.same o r → is_some r ≡ is_some o
        by None None m = refl
        by None (Some b) m = absurd m
        by (Some a) None m = absurd m
        by (Some a) (Some b) m = refl

    pub runs_alike : (x : ℕ) → can_run real q.world x ≡ can_run real p.world x
    runs_alike x =
        leaf_there (slice_get p.world.leaves x) (slice_get q.world.leaves x) (h.same.leaves x refl) (slice_get real.components x) x
        (λ leaf at. by leaf leaf.phase)
      where
        by : (leaf : Leaf) (phase : Phase) → runs q.world x leaf phase ≡ runs p.world x leaf phase
        by leaf Pending = refl
        by leaf Running = refl
        by leaf Blocked = refl
        by leaf Serving = ap (λ b. is_some (first_signal leaf.signals) || b) (requests_there x)
        by leaf Handling = refl
        by leaf Exited = refl

    pub alike_turn : (x : ℕ) → AreAlike (after_turn real x p) (after_turn real x q)
    alike_turn x =
        let w = p.world in
        let v = q.world in
        let a = goes w h.well x in
        let k = free_place w.sessions in
        let g = updated h.name k (free_place v.sessions) in
        let same = same_updated real all h.name w v k (free_place v.sessions) h.well.lasts.stands.linked (free_none w.sessions) h.same in
        let b =
        both_step s all all_apart sound.formed.differ g w v x a.0.0 a.0.1 h.well.lasts.stands.linked h.well_other.lasts.stands.linked h.well.pays
        h.well_other.pays refl same (updated_here h.name k (free_place v.sessions)) a.1 in
        subst (λ r. AreAlike (after_step real x p r) (after_step real x q (next real v x))) (sym a.1)
        (subst (λ r. AreAlike (after_step real x p (Ok a.0)) (after_step real x q r)) (sym b.stepped) (record {
          name = g;
          same = b.same;
          said = ap (λ l. slice_set l x (get_or l x [] ++ line_by (slice_get real.components x) a.0.1)) h.said;
          well = well_next w x a.0.0 a.0.1 h.well a.1;
          well_other = well_next v x b.other a.0.1 h.well_other b.stepped;
        }))

    pub rest_alike : AllRest p.world → AllRest q.world
    rest_alike rest = elim (rest_or_run s q.world h.well_other.lasts) [
      | inl r ↦ r
      | inr r ↦ absurd (true≢false (sym r.1 ∙ (runs_alike r.0 ∙ rests_still real e.racy p.world rest r.0)))
    ]

    handed_alike : (y quantum : ℕ) → handed_to (slice_get q.world.leaves y) quantum ≡ handed_to (slice_get p.world.leaves y) quantum
    handed_alike y quantum = ap (λ o. handed_to o quantum) (h.same.leaves y refl) ∙ by (slice_get p.world.leaves y)
      where
        by : (o : Option Leaf) → handed_to (option_map (renamed_leaf h.name) o) quantum ≡ handed_to o quantum
        by None = refl
        by (Some leaf) = refl

    pub text_alike : (outcome_of e q).text ≡ (outcome_of e p).text
    text_alike =
        let steps = budgets_same p.world q.world (λ y. ap (option_map signals_in) (h.same.leaves y refl) ∙ signals_alike (slice_get p.world.leaves y))
        e.budgets in
        let sums = accounts_same s (all_steps_in p.world e.budgets) p.world q.world
        (λ version y budget. same_account h.name all p.world q.world h.same y refl version budget (slice_get real.components y)) handed_alike in
        λ i. lines_of (sym h.said i) ++ account_lines s.version ((ap (accounts s q.world) steps ∙ sums) i)
      where
        signals_alike : (o : Option Leaf) → option_map signals_in (option_map (renamed_leaf h.name) o) ≡ option_map signals_in o
        signals_alike None = refl
        signals_alike (Some leaf) = refl

  -- SO THEY END ALIKE

  pub ends_alike : (xs : List ℕ) (t : List ℕ) (p q : Point) → AreAlike p q → Ends s p xs t → Ends s q xs t
  ends_alike [] t p q h r = (rest_alike p q h r.0, text_alike p q h ∙ r.1)
  ends_alike (x ∷ xs) t p q h r = (
    runs_alike p q h x ∙ r.0,
    ends_alike xs t (after_turn real x p) (after_turn real x q) (alike_turn p q h x) r.1,
  )

  pub kept_alike : (p q : Point) → Reaches s p → Reaches s q → kept p ≡ kept q → AreAlike p q
  kept_alike p q a b same =
      let well = point_well p a in
      let other = point_well q b in
      let worlds : ordered p.world ≡ ordered q.world = ap (λ (k : Kept). k.world) same in
      record {
        name = name s p.world q.world well.lasts other.lasts worlds;
        same = same_but_numbers s p.world q.world well.lasts other.lasts worlds;
        said = ap (λ (k : Kept). k.said) same;
        well = well;
        well_other = other;
      }

  pub kept_ends : (n : ℕ) (t : List ℕ) (p q : Point) → Reaches s p → Reaches s q → kept p ≡ kept q → EndsWithin s n t p → EndsWithin s n t q
  kept_ends n t p q a b same h = record { turns = h.turns; few = h.few; ends = ends_alike h.turns t p q (kept_alike p q a b same) h.ends }
