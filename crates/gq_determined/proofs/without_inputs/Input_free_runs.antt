-- A run over turns, settings and signals, and the run over its turns alone: they show the same lines, and end in worlds that are the same but for inputs.
-- No leaf has a signal here.
use Rattle.std.proofs.Common.{◌≡◌, ◌==◌, ℕ, zero, suc, Bool, true, false, cond, List, [], ◌∷◌, ◌++◌, Option, Some, None, Ok, refl, ap, sym, ◌∙◌, subst}
use Rattle.std.specs.Prelude.{slice_get}
use Rattle.gq_model.specs.declared.act.Act.{Act}
use Rattle.gq_model.specs.declared.act.Act.TheVariants.{Turns, Sets, Submits}
use Rattle.gq_model.specs.declared.program.Instruction.{Instruction}
use Rattle.gq_model.specs.machine.Doing.{Event, Idle, Stepped}
use Rattle.gq_model.specs.machine.Run.{Acts, Ran, act_on, after_step, label_at, line_of, run, run_on, set_from, submit, submit_from, turn_from, turns_of}
use Rattle.gq_model.specs.machine.Scenario.{Component, Scenario, System, system}
use Rattle.gq_model.specs.machine.Step.{next, step_of}
use Rattle.gq_model.specs.machine.World.{Leaf, World, start}
use Rattle.gq_laws.specs.Group_alone.{lines_from, silent}
use Rattle.gq_laws.specs.Session_links.{IsLinkedWorld}
use Rattle.gq_laws.specs.Sound_scenarios.{IsSound}
use Rattle.gq_laws.specs.Stands.{Stands}
use Rattle.gq_laws.specs.internal.Remaining_instructions.{AllAre, AreLeft, ArePrograms}
use Rattle.gq_laws.specs.internal.Uncounted.{uncounted}
use Rattle.gq_laws.proofs.upheld_worlds.Standing_world_invariant.{stands_first, stands_next, stands_set}
use Rattle.gq_laws.proofs.session_links.Linked_worlds.{kept_linked, start_linked}
use Rattle.gq_laws.proofs.remaining_work.Remaining_program_statements.{kept_left, start_left}
use Rattle.gq_laws.proofs.input_settings.Setting_keeps_invariants.{set_left, set_linked}
use Rattle.gq_races.specs.Races.{IsInputFree, IsSignalFree, reads_input}
use Rattle.gq_determined.specs.Determined.{lines_of}
use Rattle.gq_determined.specs.internal.Unset.{unset, turns_alone, turns_in, without_settings}
use Rattle.gq_determined.proofs.thread_runs.Raceless_first_statements.{unread_sections}
use Rattle.gq_determined.proofs.thread_runs.Sound_runs.{all_pay, goes_by}
use Rattle.gq_determined.proofs.without_inputs.No_signals.{IsStill, still_next, still_set, still_start, submits_none}
use Rattle.gq_determined.proofs.without_inputs.Worlds_without_inputs.{unset_setting, other_there}
use Rattle.gq_determined.proofs.without_inputs.Input_free_step.{step_too}

module _ (s : Scenario) (sound : IsSound s) (unread : IsInputFree s) (unmoved : IsSignalFree s) where
  abbrev real : System
  real = system s

  abbrev u : System
  u = uncounted (system s)

  abbrev IsUnread : Component → Instruction → Type 0
  IsUnread c i = reads_input i ≡ false

  programs : ArePrograms IsUnread real
  programs x c at = unread_sections s sound unread x c at

  -- two runs so far, neither of which is wrong
  record AreAlike (ran other : Ran) : Type 0 where
    same : unset ran.world ≡ unset other.world
    right : ran.wrong ≡ None
    right_other : other.wrong ≡ None
    stands : Stands s ran.world
    stands_other : Stands s other.world
    linked : IsLinkedWorld u ran.world
    left : AreLeft IsUnread real ran.world
    still : IsStill ran.world

  -- ONE TURN

  same_step : (p q : World × Event) → ◌≡◌ {A = Stepped} (Ok p) (Ok q) → p ≡ q
  same_step p q e = ap (or_else p) e
    where
      or_else : World × Event → Stepped → World × Event
      or_else p (Ok q) = q
      or_else p _ = p

  -- the next turn of a leaf in two worlds
  next_too : (w v : World) → unset w ≡ unset v → IsLinkedWorld u w → AreLeft IsUnread real w → (x : ℕ) (new : World) (event : Event)
      → next u w x ≡ Ok (new, event) → (other_new : World) × (next u v x ≡ Ok (other_new, event)) × (unset new ≡ unset other_new)
  next_too w v same linked left x new event stepped = by (slice_get real.components x) refl (slice_get w.leaves x) refl
    where
      idle : (o : Option Component) → slice_get real.components x ≡ o → (l m : Option Leaf) → slice_get w.leaves x ≡ l → slice_get v.leaves x ≡ m
          → step_of u w x o l ≡ Ok (w, Idle) → step_of u v x o m ≡ Ok (v, Idle)
          → (other_new : World) × (next u v x ≡ Ok (other_new, event)) × (unset new ≡ unset other_new)
      idle o e l m f g i k =
          let is = same_step (new, event) (w, Idle) (sym stepped ∙ ((λ j. step_of u w x (e j) (f j)) ∙ i)) in
          (v, (λ j. step_of u v x (e j) (g j)) ∙ (k ∙ ap (λ (p : World × Event). Ok (v, p.1)) (sym is)), ap (λ (p : World × Event). unset p.0) is ∙ same)

      by : (o : Option Component) → slice_get real.components x ≡ o → (l : Option Leaf) → slice_get w.leaves x ≡ l
          → (other_new : World) × (next u v x ≡ Ok (other_new, event)) × (unset new ≡ unset other_new)
      by None e l f = idle None e l (slice_get v.leaves x) f refl refl refl
      by (Some c) e None f = idle (Some c) e None None f (no_leaf (slice_get v.leaves x) refl) refl refl
        where
          no_leaf : (m : Option Leaf) → slice_get v.leaves x ≡ m → slice_get v.leaves x ≡ None
          no_leaf None g = g
          no_leaf (Some leaf) g = absurd (some (sym (other_there v w (sym same) x leaf g).1 ∙ f))
            where
              some : {leaf : Leaf} → ◌≡◌ {A = Option Leaf} (Some leaf) None → ⊥
              some e = cc
      by (Some c) e (Some a) f =
          let there = other_there w v same x a f in
          step_too u (all_pay real) w v same linked x c a f there.0 there.1 e
          (λ i rest is. (subst (AllAre (IsUnread c)) is (left x c a e f).todo).0) new event stepped

  -- two runs go on with this turn, and show the same in it
  record GoOn (ran other more more_other : Ran) : Type 0 where
    alike : AreAlike more more_other
    text : ran.text ≡ other.text → more.text ≡ more_other.text

  turn_both : (ran other : Ran) (x : ℕ) → AreAlike ran other → GoOn ran other (turn_from real x ran ran.wrong) (turn_from real x other other.wrong)
  turn_both ran other x h =
      let p = goes_by s sound ran.world x h.stands in
      let q = goes_by s sound other.world x h.stands_other in
      let r = next_too ran.world other.world h.same h.linked h.left x p.0.0 p.0.1 p.1 in
      let is = same_step q.0 (r.0, p.0.1) (sym q.1 ∙ r.1) in
      let label = label_at (slice_get real.components x) in
      subst (λ o. GoOn ran other (turn_from real x ran o) (turn_from real x other other.wrong)) (sym h.right)
      (subst (λ o. GoOn ran other (after_step real x ran (next real ran.world x)) (turn_from real x other o)) (sym h.right_other)
      (subst (λ t. GoOn ran other (after_step real x ran t) (after_step real x other (next real other.world x))) (sym p.2)
      (subst (λ t. GoOn ran other (after_step real x ran (Ok p.0)) (after_step real x other t)) (sym q.2)
      (record {
        alike = record {
          same = r.2 ∙ ap (λ (p : World × Event). unset p.0) (sym is);
          right = refl;
          right_other = refl;
          stands = stands_next s ran.world x p.0.0 p.0.1 h.stands p.2;
          stands_other = stands_next s other.world x q.0.0 q.0.1 h.stands_other q.2;
          linked = kept_linked u ran.world x p.0.0 p.0.1 h.linked p.1;
          left = kept_left IsUnread real programs ran.world x p.0.0 p.0.1 h.left p.2;
          still = still_next real ran.world x p.0.0 p.0.1 h.still p.2;
        };
        text = λ e j. e j ++ line_of label (sym is j).1;
      }))))

  turns_both : (ran other : Ran) (x n : ℕ) → AreAlike ran other → GoOn ran other (turns_of real x n ran) (turns_of real x n other)
  turns_both ran other x zero h = record { alike = h; text = λ e. e }
  turns_both ran other x (suc n) h =
      let one = turn_both ran other x h in
      let more = turns_both (turn_from real x ran ran.wrong) (turn_from real x other other.wrong) x n one.alike in
      record { alike = more.alike; text = λ e. more.text (one.text e) }

  -- SETTINGS

  setting_one : (ran other : Ran) (x i n : ℕ) → AreAlike ran other
      → AreAlike (set_from real x i n ran ran.wrong) other × ((set_from real x i n ran ran.wrong).text ≡ ran.text)
  setting_one ran other x i n h =
      subst (λ o. AreAlike (set_from real x i n ran o) other × ((set_from real x i n ran o).text ≡ ran.text)) (sym h.right) (
        record {
          same = unset_setting real ran.world x i n ∙ h.same;
          right = h.right;
          right_other = h.right_other;
          stands = stands_set s ran.world x i n h.stands;
          stands_other = h.stands_other;
          linked = set_linked u ran.world x i n h.linked;
          left = set_left IsUnread real ran.world x i n h.left;
          still = still_set real ran.world x i n h.still;
        },
        refl,
      )

  -- SIGNALS

  submit_one : (ran other : Ran) (x i : ℕ) → AreAlike ran other
      → AreAlike (submit_from x i ran ran.wrong) other × ((submit_from x i ran ran.wrong).text ≡ ran.text)
  submit_one ran other x i h =
      let same : record ran { world = submit ran.world x i } ≡ ran = ap (λ (w : World). record ran { world = w }) (submits_none ran.world x i h.still) in
      subst (λ o. AreAlike (submit_from x i ran o) other × ((submit_from x i ran o).text ≡ ran.text)) (sym h.right)
      (subst (λ r. AreAlike r other) (sym same) h, refl)

  -- RUNS

  all_alike : (ran other : Ran) (acts : Acts) → AreAlike ran other → AreAlike (run_on real acts ran) (run_on real (turns_alone (without_settings acts)) other)
  all_alike ran other [] h = h
  all_alike ran other (t ∷ acts) h = by t.1 (λ more more_other k. all_alike more more_other acts k)
    where
      by : (a : Act)
          → ((more more_other : Ran) → AreAlike more more_other
          → AreAlike (run_on real acts more) (run_on real (turns_alone (without_settings acts)) more_other))
          → AreAlike (run_on real acts (act_on real t.0 a ran)) (run_on real (turns_alone (turns_in t.0 a ++ without_settings acts)) other)
      by (Turns n) go = go (turns_of real t.0 n ran) (turns_of real t.0 n other) (turns_both ran other t.0 n h).alike
      by (Sets i n) go = go (set_from real t.0 i n ran ran.wrong) other (setting_one ran other t.0 i n h).0
      by (Submits i) go = go (submit_from t.0 i ran ran.wrong) other (submit_one ran other t.0 i h).0

  -- runs so far, as if no line had been shown
  quiet_first : (ran other : Ran) → AreAlike ran other → AreAlike (silent ran) other
  quiet_first ran other h = record {
    same = h.same;
    right = h.right;
    right_other = h.right_other;
    stands = h.stands;
    stands_other = h.stands_other;
    linked = h.linked;
    left = h.left;
    still = h.still;
  }

  quiet : (ran other : Ran) → AreAlike ran other → AreAlike (silent ran) (silent other)
  quiet ran other h =
      let k = quiet_first ran other h in
      record {
        same = k.same;
        right = k.right;
        right_other = k.right_other;
        stands = k.stands;
        stands_other = k.stands_other;
        linked = k.linked;
        left = k.left;
        still = k.still;
      }

  lines_same : (group : ℕ → Bool) (ran other : Ran) (acts : Acts) → AreAlike ran other
      → lines_from real group acts ran ≡ lines_from real group (turns_alone (without_settings acts)) other
  lines_same group ran other [] h = refl
  lines_same group ran other (t ∷ acts) h = by t.1 (λ more more_other k. lines_same group more more_other acts k)
    where
      nothing : (b : Bool) (l : List ℕ) → cond b [] [] ++ l ≡ l
      nothing true l = refl
      nothing false l = refl

      by : (a : Act)
          → ((more more_other : Ran) → AreAlike more more_other
          → lines_from real group acts more ≡ lines_from real group (turns_alone (without_settings acts)) more_other)
          → cond (group t.0) (act_on real t.0 a (silent ran)).text [] ++ lines_from real group acts (act_on real t.0 a (silent ran))
          ≡ lines_from real group (turns_alone (turns_in t.0 a ++ without_settings acts)) other
      by (Turns n) go =
          let both = turns_both (silent ran) (silent other) t.0 n (quiet ran other h) in
          λ j. cond (group t.0) (both.text refl j) [] ++ go (turns_of real t.0 n (silent ran)) (turns_of real t.0 n (silent other)) both.alike j
      by (Sets i n) go =
          let one = setting_one (silent ran) other t.0 i n (quiet_first ran other h) in
          let more = set_from real t.0 i n (silent ran) ran.wrong in
          ap (λ l. cond (group t.0) l [] ++ lines_from real group acts more) one.1
          ∙ (nothing (group t.0) (lines_from real group acts more) ∙ go more other one.0)
      by (Submits i) go =
          let one = submit_one (silent ran) other t.0 i (quiet_first ran other h) in
          let more = submit_from t.0 i (silent ran) ran.wrong in
          ap (λ l. cond (group t.0) l [] ++ lines_from real group acts more) one.1
          ∙ (nothing (group t.0) (lines_from real group acts more) ∙ go more other one.0)

  begins : AreAlike (record { world = start real; text = []; wrong = None }) (record { world = start real; text = []; wrong = None })
  begins = record {
    same = refl;
    right = refl;
    right_other = refl;
    stands = stands_first s sound;
    stands_other = stands_first s sound;
    linked = start_linked u;
    left = start_left IsUnread real programs;
    still = still_start s sound unmoved;
  }

  -- the worlds at the end
  pub world_left : (acts : Acts) → unset (run real acts).world ≡ unset (run real (turns_alone (without_settings acts))).world
  world_left acts = (all_alike _ _ acts begins).same

  -- and the lines of a leaf
  pub lines_left : (acts : Acts) (x : ℕ) → lines_of s x acts ≡ lines_of s x (turns_alone (without_settings acts))
  lines_left acts x = lines_same (λ y. y == x) _ _ acts begins
