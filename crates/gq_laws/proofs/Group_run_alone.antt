-- A run goes for a group that is apart as the run over its turns alone.
use Rattle.std.proofs.Common.{◌≡◌, ℕ, zero, suc, Bool, true, false, cond, List, [], ◌∷◌, ◌++◌, map, Option, Some, None, Ok, Err, refl, ap, sym, ◌∙◌, subst}
use Rattle.std.specs.Prelude.{option_map, slice_get}
use Rattle.std.proofs.lemmas.List.{append_assoc, append-nil}
use Rattle.gq_model.specs.declared.act.Act.{Act}
use Rattle.gq_model.specs.declared.act.Act.TheVariants.{Turns, Sets, Submits}
use Rattle.gq_model.specs.machine.Scenario.{System, Component, Scenario, system}
use Rattle.gq_model.specs.machine.World.{World, start, start_leaves}
use Rattle.gq_model.specs.declared.fault.Wrong.{Wrong}
use Rattle.gq_model.specs.machine.Doing.{Event, Stepped}
use Rattle.gq_model.specs.machine.Requests.{free_place}
use Rattle.gq_model.specs.machine.Step.{next}
use Rattle.gq_model.specs.machine.Run.{Ran, Acts, label_at, line_of, after_step, turn_from, turns_of}
use Rattle.gq_model.specs.machine.Run.{set_input, set_from, submit, submit_from, act_on, run_on, run}
use Rattle.gq_model.proofs.Small_facts.{none_some, some_none}
use Rattle.gq_model.specs.machine.Accounts.{account_at}
use Rattle.gq_laws.specs.Sound_scenarios.{IsSound}
use Rattle.gq_laws.specs.Session_links.{IsLinkedWorld}
use Rattle.gq_laws.specs.Names.{NamesDiffer}
use Rattle.gq_laws.proofs.session_links.Linked_worlds.{kept_linked, start_linked}
use Rattle.gq_laws.proofs.quota_payment.Paid_worlds.{kept_paid, start_paid}
use Rattle.gq_model.specs.machine.Sums.{paid}
use Rattle.gq_laws.proofs.upheld_worlds.Upheld_runs.{run_upholds}
use Rattle.gq_laws.specs.Separation.{IsApart, IsUntouched, SameRequests}
use Rattle.gq_laws.proofs.Outside_step_untouched.{free_none, step_untouched, step_requests}
use Rattle.gq_laws.specs.Group_alone.{own_turns, silent, lines_from, RunsAlone, SeeTheSame}
use Rattle.gq_laws.specs.Renamed.{renamed_leaf, renamed_request}
use Rattle.gq_laws.specs.internal.Corresponding.{IsSame}
use Rattle.gq_laws.proofs.Session_renaming.{updated, updated_here, same_updated}
use Rattle.gq_laws.proofs.Renamed_session_sums.{same_account}
use Rattle.gq_laws.proofs.Inside_step_both.{Steps, both_step}
use Rattle.gq_laws.proofs.input_settings.Setting_keeps_invariants.{set_linked, set_paid, submit_linked, submit_paid}
use Rattle.gq_laws.proofs.input_settings.Group_input_settings.{inside_same, outside_kept, outside_submitted, inside_submitted}

-- a step of a leaf outside is not seen
unseen : (group : ℕ → Bool) (f : ℕ → ℕ) (w new v : World) → IsUntouched group w new → SameRequests group w new → IsSame group f w v → IsSame group f new v
unseen group f w new v u r h =
    record {
      leaves = λ y inside. h.leaves y inside ∙ ap (option_map (renamed_leaf f)) (sym (u.leaves y inside));
      sessions = record {
        there = λ k s e. h.sessions.there k s (sym (u.sessions k) ∙ e);
        back = λ m t e. let p = h.sessions.back m t e in (p.0, p.1, u.sessions p.0 ∙ p.2, p.3);
        single = λ j k s t e g q. h.sessions.single j k s t (sym (u.sessions j) ∙ e) (sym (u.sessions k) ∙ g) q;
      };
      requests = h.requests ∙ ap (map (renamed_request f)) (sym r);
    }

start_same : (cs : List Component) (y : ℕ) → slice_get (start_leaves cs) y ≡ option_map (renamed_leaf (λ k. k)) (slice_get (start_leaves cs) y)
start_same [] y = refl
start_same (c ∷ cs) zero = refl
start_same (c ∷ cs) (suc y) = start_same cs y

module _ (s : Scenario) (differ : NamesDiffer s) (group : ℕ → Bool) (apart : IsApart (system s) group) where
  abbrev real : System
  real = system s

  -- two runs that came to no wrong step, and to the same world but for the numbers of sessions
  record AreAlike (ran alone : Ran) : Type 0 where
    f : ℕ → ℕ
    same : IsSame group f ran.world alone.world
    linked : IsLinkedWorld real ran.world
    linked_alone : IsLinkedWorld real alone.world
    pays : paid real ran.world ≡ true
    pays_alone : paid real alone.world ≡ true
    right : ran.wrong ≡ None
    right_alone : alone.wrong ≡ None

  -- both go on so, and show the same lines
  record GoesOn (ran alone ran_on alone_on : Ran) : Type 0 where
    lines : List ℕ
    shown : ran_on.text ≡ ran.text ++ lines
    shown_alone : alone_on.text ≡ alone.text ++ lines
    alike : AreAlike ran_on alone_on

  -- STEPS THAT ARE NOT WRONG

  -- where no step is wrong after some turns, none was wrong before
  still_wrong : (x : ℕ) (ran : Ran) (p : ℕ × Wrong) → ran.wrong ≡ Some p → (turn_from real x ran ran.wrong).wrong ≡ Some p
  still_wrong x ran p e = ap (λ o. (turn_from real x ran o).wrong) e ∙ e

  right_by : (x : ℕ) (ran : Ran) (o : Option (ℕ × Wrong)) → ran.wrong ≡ o → (turn_from real x ran ran.wrong).wrong ≡ None → ran.wrong ≡ None
  right_by x ran None e ok = e
  right_by x ran (Some p) e ok = absurd (some_none (sym (still_wrong x ran p e) ∙ ok))

  right_before : (ran : Ran) (x n : ℕ) → (turns_of real x n ran).wrong ≡ None → ran.wrong ≡ None
  right_before ran x zero ok = ok
  right_before ran x (suc n) ok = right_by x ran ran.wrong refl (right_before (turn_from real x ran ran.wrong) x n ok)

  set_wrong : (x i n : ℕ) (ran : Ran) (o : Option (ℕ × Wrong)) → (set_from real x i n ran o).wrong ≡ ran.wrong
  set_wrong x i n ran None = refl
  set_wrong x i n ran (Some p) = refl

  submit_wrong : (x i : ℕ) (ran : Ran) (o : Option (ℕ × Wrong)) → (submit_from x i ran o).wrong ≡ ran.wrong
  submit_wrong x i ran None = refl
  submit_wrong x i ran (Some p) = refl

  right_act_before : (ran : Ran) (x : ℕ) (a : Act) → (act_on real x a ran).wrong ≡ None → ran.wrong ≡ None
  right_act_before ran x (Turns n) ok = right_before ran x n ok
  right_act_before ran x (Sets i n) ok = sym (set_wrong x i n ran ran.wrong) ∙ ok
  right_act_before ran x (Submits i) ok = sym (submit_wrong x i ran ran.wrong) ∙ ok

  right_all_before : (ran : Ran) (turns : Acts) → (run_on real turns ran).wrong ≡ None → ran.wrong ≡ None
  right_all_before ran [] ok = ok
  right_all_before ran (t ∷ turns) ok = right_act_before ran t.0 t.1 (right_all_before (act_on real t.0 t.1 ran) turns ok)

  step_by : (ran : Ran) (x : ℕ) (r : Stepped) → next real ran.world x ≡ r → (after_step real x ran r).wrong ≡ None
      → (p : World × Event) × (next real ran.world x ≡ Ok p)
  step_by ran x (Ok p) e ok = (p, e)
  step_by ran x (Err wrong) e ok = absurd (some_none ok)

  no_fault : (ran : Ran) (x : ℕ) → ran.wrong ≡ None → (turn_from real x ran ran.wrong).wrong ≡ None
      → (p : World × Event) × (next real ran.world x ≡ Ok p)
  no_fault ran x right ok = step_by ran x (next real ran.world x) refl (sym (ap (λ o. (turn_from real x ran o).wrong) right) ∙ ok)

  -- what is shown does not bear on whether a step is wrong
  after_same : (x : ℕ) (ran other : Ran) (r : Stepped) → ran.world ≡ other.world → ran.wrong ≡ other.wrong
      → ((after_step real x ran r).world ≡ (after_step real x other r).world) × ((after_step real x ran r).wrong ≡ (after_step real x other r).wrong)
  after_same x ran other (Ok p) w e = (refl, refl)
  after_same x ran other (Err wrong) w e = (w, refl)

  turn_same : (x : ℕ) (ran other : Ran) (o : Option (ℕ × Wrong)) → ran.world ≡ other.world → ran.wrong ≡ other.wrong
      → ((turn_from real x ran o).world ≡ (turn_from real x other o).world) × ((turn_from real x ran o).wrong ≡ (turn_from real x other o).wrong)
  turn_same x ran other None w e =
      let same = after_same x ran other (next real ran.world x) w e in
      let step = ap (λ z. next real z x) w in
      (same.0 ∙ ap (λ r. (after_step real x other r).world) step, same.1 ∙ ap (λ r. (after_step real x other r).wrong) step)
  turn_same x ran other (Some p) w e = (w, e)

  turns_same : (x n : ℕ) (ran other : Ran) → ran.world ≡ other.world → ran.wrong ≡ other.wrong
      → ((turns_of real x n ran).world ≡ (turns_of real x n other).world) × ((turns_of real x n ran).wrong ≡ (turns_of real x n other).wrong)
  turns_same x zero ran other w e = (w, e)
  turns_same x (suc n) ran other w e =
      let same = turn_same x ran other ran.wrong w e in
      turns_same x n (turn_from real x ran ran.wrong) (turn_from real x other other.wrong)
      (same.0 ∙ ap (λ o. (turn_from real x other o).world) e) (same.1 ∙ ap (λ o. (turn_from real x other o).wrong) e)

  set_alike : (x i n : ℕ) (ran other : Ran) (o : Option (ℕ × Wrong)) → ran.world ≡ other.world → ran.wrong ≡ other.wrong
      → ((set_from real x i n ran o).world ≡ (set_from real x i n other o).world) × ((set_from real x i n ran o).wrong ≡ (set_from real x i n other o).wrong)
  set_alike x i n ran other None w e = (ap (λ v. set_input real v x i n) w, e)
  set_alike x i n ran other (Some p) w e = (w, e)

  submit_alike : (x i : ℕ) (ran other : Ran) (o : Option (ℕ × Wrong)) → ran.world ≡ other.world → ran.wrong ≡ other.wrong
      → ((submit_from x i ran o).world ≡ (submit_from x i other o).world) × ((submit_from x i ran o).wrong ≡ (submit_from x i other o).wrong)
  submit_alike x i ran other None w e = (ap (λ v. submit v x i) w, e)
  submit_alike x i ran other (Some p) w e = (w, e)

  act_same : (x : ℕ) (a : Act) (ran other : Ran) → ran.world ≡ other.world → ran.wrong ≡ other.wrong
      → ((act_on real x a ran).world ≡ (act_on real x a other).world) × ((act_on real x a ran).wrong ≡ (act_on real x a other).wrong)
  act_same x (Turns n) ran other w e = turns_same x n ran other w e
  act_same x (Sets i n) ran other w e =
      let same = set_alike x i n ran other ran.wrong w e in
      (same.0 ∙ ap (λ o. (set_from real x i n other o).world) e, same.1 ∙ ap (λ o. (set_from real x i n other o).wrong) e)
  act_same x (Submits i) ran other w e =
      let same = submit_alike x i ran other ran.wrong w e in
      (same.0 ∙ ap (λ o. (submit_from x i other o).world) e, same.1 ∙ ap (λ o. (submit_from x i other o).wrong) e)

  same_wrong : (turns : Acts) (ran other : Ran) → ran.world ≡ other.world → ran.wrong ≡ other.wrong → (run_on real turns ran).wrong ≡ None
      → (run_on real turns other).wrong ≡ None
  same_wrong [] ran other w e ok = sym e ∙ ok
  same_wrong (t ∷ turns) ran other w e ok =
      let same = act_same t.0 t.1 ran other w e in same_wrong turns (act_on real t.0 t.1 ran) (act_on real t.0 t.1 other) same.0 same.1 ok

  -- TURNS OF LEAVES INSIDE

  after_both : (ran alone : Ran) (x : ℕ) (p : World × Event) → next real ran.world x ≡ Ok p → (g : ℕ → ℕ)
      → (b : Steps s group apart g alone.world x p.0 p.1) → AreAlike ran alone
      → GoesOn ran alone (after_step real x ran (Ok p)) (after_step real x alone (Ok (b.other, p.1)))
  after_both ran alone x p e g b h =
      record {
        lines = line_of (label_at (slice_get real.components x)) p.1;
        shown = refl;
        shown_alone = refl;
        alike = record {
          f = g;
          same = b.same;
          linked = kept_linked real ran.world x p.0 p.1 h.linked e;
          linked_alone = kept_linked real alone.world x b.other p.1 h.linked_alone b.stepped;
          pays = b.pays;
          pays_alone = b.pays_other;
          right = refl;
          right_alone = refl;
        };
      }

  turn_both : (ran alone : Ran) (x : ℕ) → group x ≡ true → (turn_from real x ran ran.wrong).wrong ≡ None → AreAlike ran alone
      → GoesOn ran alone (turn_from real x ran ran.wrong) (turn_from real x alone alone.wrong)
  turn_both ran alone x inside ok h =
      let w = ran.world in
      let v = alone.world in
      let p = no_fault ran x h.right ok in
      let k = free_place w.sessions in
      let g = updated h.f k (free_place v.sessions) in
      let same = same_updated real group h.f w v k (free_place v.sessions) h.linked (free_none w.sessions) h.same in
      let b =
      both_step s group apart differ g w v x p.0.0 p.0.1 h.linked h.linked_alone h.pays h.pays_alone inside same
      (updated_here h.f k (free_place v.sessions)) p.1 in
      subst (λ o. GoesOn ran alone (turn_from real x ran o) (turn_from real x alone alone.wrong)) (sym h.right)
      (subst (λ o. GoesOn ran alone (after_step real x ran (next real w x)) (turn_from real x alone o)) (sym h.right_alone)
      (subst (λ r. GoesOn ran alone (after_step real x ran r) (after_step real x alone (next real v x))) (sym p.1)
      (subst (λ r. GoesOn ran alone (after_step real x ran (Ok p.0)) (after_step real x alone r)) (sym b.stepped) (after_both ran alone x p.0 p.1 g b h))))

  turns_both : (ran alone : Ran) (x n : ℕ) → group x ≡ true → (turns_of real x n ran).wrong ≡ None → AreAlike ran alone
      → GoesOn ran alone (turns_of real x n ran) (turns_of real x n alone)
  turns_both ran alone x zero inside ok h =
      record { lines = []; shown = sym (append-nil ran.text); shown_alone = sym (append-nil alone.text); alike = h }
  turns_both ran alone x (suc n) inside ok h =
      let one = turn_both ran alone x inside (right_before (turn_from real x ran ran.wrong) x n ok) h in
      let more = turns_both (turn_from real x ran ran.wrong) (turn_from real x alone alone.wrong) x n inside ok one.alike in
      record {
        lines = one.lines ++ more.lines;
        shown = more.shown ∙ (ap (λ l. l ++ more.lines) one.shown ∙ append_assoc ran.text one.lines more.lines);
        shown_alone = more.shown_alone ∙ (ap (λ l. l ++ more.lines) one.shown_alone ∙ append_assoc alone.text one.lines more.lines);
        alike = more.alike;
      }

  -- SETTINGS OF LEAVES INSIDE

  set_both : (ran alone : Ran) (x i n : ℕ) → group x ≡ true → AreAlike ran alone
      → GoesOn ran alone (set_from real x i n ran ran.wrong) (set_from real x i n alone alone.wrong)
  set_both ran alone x i n inside h =
      subst (λ o. GoesOn ran alone (set_from real x i n ran o) (set_from real x i n alone alone.wrong)) (sym h.right)
      (subst (λ o. GoesOn ran alone (set_from real x i n ran None) (set_from real x i n alone o)) (sym h.right_alone)
      (record {
        lines = [];
        shown = sym (append-nil ran.text);
        shown_alone = sym (append-nil alone.text);
        alike = record {
          f = h.f;
          same = inside_same group h.f ran.world alone.world h.same x inside real i n;
          linked = set_linked real ran.world x i n h.linked;
          linked_alone = set_linked real alone.world x i n h.linked_alone;
          pays = set_paid real ran.world x i n h.pays;
          pays_alone = set_paid real alone.world x i n h.pays_alone;
          right = h.right;
          right_alone = h.right_alone;
        };
      }))

  -- SIGNALS OF LEAVES INSIDE

  submit_both : (ran alone : Ran) (x i : ℕ) → group x ≡ true → AreAlike ran alone
      → GoesOn ran alone (submit_from x i ran ran.wrong) (submit_from x i alone alone.wrong)
  submit_both ran alone x i inside h =
      subst (λ o. GoesOn ran alone (submit_from x i ran o) (submit_from x i alone alone.wrong)) (sym h.right)
      (subst (λ o. GoesOn ran alone (submit_from x i ran None) (submit_from x i alone o)) (sym h.right_alone)
      (record {
        lines = [];
        shown = sym (append-nil ran.text);
        shown_alone = sym (append-nil alone.text);
        alike = record {
          f = h.f;
          same = inside_submitted group h.f ran.world alone.world h.same x inside i;
          linked = submit_linked real ran.world x i h.linked;
          linked_alone = submit_linked real alone.world x i h.linked_alone;
          pays = submit_paid real ran.world x i h.pays;
          pays_alone = submit_paid real alone.world x i h.pays_alone;
          right = h.right;
          right_alone = h.right_alone;
        };
      }))

  act_both : (ran alone : Ran) (x : ℕ) (a : Act) → group x ≡ true → (act_on real x a ran).wrong ≡ None → AreAlike ran alone
      → GoesOn ran alone (act_on real x a ran) (act_on real x a alone)
  act_both ran alone x (Turns n) inside ok h = turns_both ran alone x n inside ok h
  act_both ran alone x (Sets i n) inside ok h = set_both ran alone x i n inside h
  act_both ran alone x (Submits i) inside ok h = submit_both ran alone x i inside h

  -- TURNS OF LEAVES OUTSIDE

  turn_unseen : (ran alone : Ran) (x : ℕ) → group x ≡ false → (turn_from real x ran ran.wrong).wrong ≡ None → AreAlike ran alone
      → AreAlike (turn_from real x ran ran.wrong) alone
  turn_unseen ran alone x out ok h =
      let w = ran.world in
      let p = no_fault ran x h.right ok in
      subst (λ o. AreAlike (turn_from real x ran o) alone) (sym h.right) (subst (λ r. AreAlike (after_step real x ran r) alone) (sym p.1)
      (record {
        f = h.f;
        same = unseen group h.f w p.0.0 alone.world (step_untouched group real w x p.0.0 p.0.1 h.linked apart out p.1)
            (step_requests group real w x p.0.0 p.0.1 h.linked apart out p.1) h.same;
        linked = kept_linked real w x p.0.0 p.0.1 h.linked p.1;
        linked_alone = h.linked_alone;
        pays = kept_paid s differ w x p.0.0 p.0.1 h.linked h.pays p.1;
        pays_alone = h.pays_alone;
        right = refl;
        right_alone = h.right_alone;
      }))

  turns_unseen : (ran alone : Ran) (x n : ℕ) → group x ≡ false → (turns_of real x n ran).wrong ≡ None → AreAlike ran alone
      → AreAlike (turns_of real x n ran) alone
  turns_unseen ran alone x zero out ok h = h
  turns_unseen ran alone x (suc n) out ok h =
      turns_unseen (turn_from real x ran ran.wrong) alone x n out ok
      (turn_unseen ran alone x out (right_before (turn_from real x ran ran.wrong) x n ok) h)

  set_unseen : (ran alone : Ran) (x i n : ℕ) → group x ≡ false → AreAlike ran alone → AreAlike (set_from real x i n ran ran.wrong) alone
  set_unseen ran alone x i n out h =
      let u = outside_kept real group ran.world x i n out in
      subst (λ o. AreAlike (set_from real x i n ran o) alone) (sym h.right) (record {
        f = h.f;
        same = unseen group h.f ran.world (set_input real ran.world x i n) alone.world u.0 u.1 h.same;
        linked = set_linked real ran.world x i n h.linked;
        linked_alone = h.linked_alone;
        pays = set_paid real ran.world x i n h.pays;
        pays_alone = h.pays_alone;
        right = h.right;
        right_alone = h.right_alone;
      })

  submit_unseen : (ran alone : Ran) (x i : ℕ) → group x ≡ false → AreAlike ran alone → AreAlike (submit_from x i ran ran.wrong) alone
  submit_unseen ran alone x i out h =
      let u = outside_submitted group ran.world x i out in
      subst (λ o. AreAlike (submit_from x i ran o) alone) (sym h.right) (record {
        f = h.f;
        same = unseen group h.f ran.world (submit ran.world x i) alone.world u.0 u.1 h.same;
        linked = submit_linked real ran.world x i h.linked;
        linked_alone = h.linked_alone;
        pays = submit_paid real ran.world x i h.pays;
        pays_alone = h.pays_alone;
        right = h.right;
        right_alone = h.right_alone;
      })

  act_unseen : (ran alone : Ran) (x : ℕ) (a : Act) → group x ≡ false → (act_on real x a ran).wrong ≡ None → AreAlike ran alone
      → AreAlike (act_on real x a ran) alone
  act_unseen ran alone x (Turns n) out ok h = turns_unseen ran alone x n out ok h
  act_unseen ran alone x (Sets i n) out ok h = set_unseen ran alone x i n out h
  act_unseen ran alone x (Submits i) out ok h = submit_unseen ran alone x i out h

  -- RUNS

  -- these turns of any leaf, in the run, and in the run of the group alone
  alike_by : (ran alone : Ran) (t : ℕ × Act) (b : Bool) → group t.0 ≡ b → (more : Acts) → (act_on real t.0 t.1 ran).wrong ≡ None
      → ((alone_on : Ran) → AreAlike (act_on real t.0 t.1 ran) alone_on
      → AreAlike (run_on real more (act_on real t.0 t.1 ran)) (run_on real (own_turns group more) alone_on)) → AreAlike ran alone
      → AreAlike (run_on real more (act_on real t.0 t.1 ran)) (run_on real (cond b (t ∷ own_turns group more) (own_turns group more)) alone)
  alike_by ran alone t true e more ok go h = go (act_on real t.0 t.1 alone) (act_both ran alone t.0 t.1 e ok h).alike
  alike_by ran alone t false e more ok go h = go alone (act_unseen ran alone t.0 t.1 e ok h)

  all_alike : (ran alone : Ran) (turns : Acts) → (run_on real turns ran).wrong ≡ None → AreAlike ran alone
      → AreAlike (run_on real turns ran) (run_on real (own_turns group turns) alone)
  all_alike ran alone [] ok h = h
  all_alike ran alone (t ∷ turns) ok h =
      alike_by ran alone t (group t.0) refl turns (right_all_before (act_on real t.0 t.1 ran) turns ok)
      (λ alone_on k. all_alike (act_on real t.0 t.1 ran) alone_on turns ok k) h

  -- LINES

  silent_alike : (ran alone : Ran) → AreAlike ran alone → AreAlike (silent ran) alone
  silent_alike ran alone h =
      record {
        f = h.f;
        same = h.same;
        linked = h.linked;
        linked_alone = h.linked_alone;
        pays = h.pays;
        pays_alone = h.pays_alone;
        right = h.right;
        right_alone = h.right_alone;
      }

  lines_by : (ran alone : Ran) (t : ℕ × Act) (b : Bool) → group t.0 ≡ b → (more : Acts) → (act_on real t.0 t.1 ran).wrong ≡ None
      → ((alone_on : Ran) → AreAlike (act_on real t.0 t.1 ran) alone_on
      → alone_on.text ++ lines_from real group more (act_on real t.0 t.1 ran) ≡ (run_on real (own_turns group more) alone_on).text)
      → AreAlike ran alone → ran.text ≡ []
      → alone.text ++ (cond b (act_on real t.0 t.1 ran).text [] ++ lines_from real group more (act_on real t.0 t.1 ran))
      ≡ (run_on real (cond b (t ∷ own_turns group more) (own_turns group more)) alone).text
  lines_by ran alone t true e more ok go h none =
      let on = act_both ran alone t.0 t.1 e ok h in
      let rest = lines_from real group more (act_on real t.0 t.1 ran) in
      ap (λ l. alone.text ++ (l ++ rest)) (on.shown ∙ ap (λ l. l ++ on.lines) none)
      ∙ (sym (append_assoc alone.text on.lines rest) ∙ (ap (λ l. l ++ rest) (sym on.shown_alone) ∙ go (act_on real t.0 t.1 alone) on.alike))
  lines_by ran alone t false e more ok go h none = go alone (act_unseen ran alone t.0 t.1 e ok h)

  all_lines : (ran alone : Ran) (turns : Acts) → (run_on real turns ran).wrong ≡ None → AreAlike ran alone
      → alone.text ++ lines_from real group turns ran ≡ (run_on real (own_turns group turns) alone).text
  all_lines ran alone [] ok h = append-nil alone.text
  all_lines ran alone (t ∷ turns) ok h =
      let still = same_wrong (t ∷ turns) ran (silent ran) refl refl ok in
      lines_by (silent ran) alone t (group t.0) refl turns (right_all_before (act_on real t.0 t.1 (silent ran)) turns still)
      (λ alone_on k. all_lines (act_on real t.0 t.1 (silent ran)) alone_on turns still k) (silent_alike ran alone h) refl

  first : Ran
  first = record { world = start real; text = []; wrong = None }

  first_alike : AreAlike first first
  unfolding first
  first_alike =
      record {
        f = λ k. k;
        same = record {
          leaves = λ y inside. start_same real.components y;
          sessions = record {
            there = λ k s e. absurd (none_some e);
            back = λ m t e. absurd (none_some e);
            single = λ j k s t e g q. q;
          };
          requests = refl;
        };
        linked = start_linked real;
        linked_alone = start_linked real;
        pays = start_paid real;
        pays_alone = start_paid real;
        right = refl;
        right_alone = refl;
      }

  module _ (turns : Acts) (right : (run real turns).wrong ≡ None) where
    end : AreAlike (run real turns) (run real (own_turns group turns))
    unfolding first
    end = all_alike first first turns right first_alike

    pub alone_right : (run real (own_turns group turns)).wrong ≡ None
    alone_right = end.right_alone

    pub runs_alone : RunsAlone s group turns
    unfolding first
    runs_alone =
        record {
          lines = all_lines first first turns right first_alike;
          accounts = λ y inside version budget.
              sym (same_account end.f group (run real turns).world (run real (own_turns group turns)).world end.same y inside version budget
              (slice_get real.components y));
        }

module _ (s : Scenario) (sound : IsSound s) (group : ℕ → Bool) (apart : IsApart (system s) group) where
  -- no step is wrong where the scenario is accepted
  pub sound_alone : (turns : Acts) → RunsAlone s group turns
  sound_alone turns = runs_alone s sound.formed.differ group apart turns (run_upholds s sound turns).never_wrong

  pub sound_unseen : (turns others : Acts) → own_turns group turns ≡ own_turns group others → SeeTheSame s group turns others
  sound_unseen turns others same =
      let a = sound_alone turns in
      let b = sound_alone others in
      record {
        lines = a.lines ∙ (ap (λ own. (run (system s) own).text) same ∙ sym b.lines);
        accounts = λ y inside version budget.
            b.accounts y inside version budget
            ∙ (ap (λ own. account_at version (run (system s) own).world y (slice_get (system s).components y)
            (slice_get (run (system s) own).world.leaves y) budget) (sym same)
            ∙ sym (a.accounts y inside version budget));
      }
