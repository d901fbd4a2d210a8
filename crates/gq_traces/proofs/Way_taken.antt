-- The way to rest on the way: what is still to come after the turns so far, and what of it is taken.
use Rattle.std.proofs.Common.{◌≡◌, ◌∙◌, ◌⊎◌, inl, inr, ℕ, zero, suc, ◌+◌, ◌-◌, ◌<◌, ◌≤◌, Bool, true, false, List, [], ◌∷◌, ◌++◌, Option, Some, None, Ok}
use Rattle.std.proofs.Common.{Err, append-nil, append_assoc, refl, ap, sym, subst, arith}
use Rattle.std.specs.Prelude.{if◌then◌else◌, leb, min}
use Rattle.std.proofs.lemmas.Bool.Decides.{leb_tells}
use Rattle.gq_model.specs.machine.Doing.{Stepped}
use Rattle.gq_model.specs.machine.Rest.{as_acts, can_run, greatest_turns, one_and, to_rest, while_can}
use Rattle.gq_model.specs.machine.Run.{Acts, run_on, turns_of}
use Rattle.gq_model.specs.machine.Scenario.{System, system}
use Rattle.gq_model.specs.machine.Step.{next}
use Rattle.gq_model.specs.machine.World.{World}
use Rattle.gq_model.specs.declared.act.Act.TheVariants.{Turns}
use Rattle.gq_output.specs.declared.counted.Counted.{Counted}
use Rattle.gq_world.specs.World_between_turns as worlds
use Rattle.gq_traces.specs.First_turns.{first_turns, turns_in}
use Rattle.gq_traces.specs.Trace.{Traced, after_all, after_turns, all_text, turns_text}
use Rattle.gq_traces.specs.declared.follow.Followed.{Followed}
use Rattle.gq_traces.specs.declared.peaks.LeafPeaks.{LeafPeaks}
use Rattle.gq_traces.specs.declared.trace.Tracing.{Tracing}
use Rattle.gq_traces.specs.internal.Follows.{Follows, IsFollowed}
use Rattle.gq_traces.specs.internal.Next_able.{StillToCome, next_able}
use Rattle.gq_traces.specs.internal.Peaking.{HasAll, HasTurns, Peaked}
use Rattle.gq_traces.specs.internal.Printed_steps.{CanTrace, PrintsTurns, budgets_of}
use Rattle.gq_traces.proofs.Lines_printed.{after_both, text_both, turns_both as turns_in_both}
use Rattle.gq_traces.proofs.Peaks_kept.{peaked_both, peaked_none}
use Rattle.gq_traces.proofs.Repeated_leaf_turns.{while_step, while_stops}
use Rattle.gq_traces.proofs.Rest_by_leaves.{rest_begins, rest_ends, rest_goes, rest_over}
use Rattle.gq_traces.proofs.Runs_on.{list_parts, min_first, min_second}
use Rattle.gq_traces.proofs.Scheduled_turn_runs.{run_on_both, while_few}
use Rattle.gq_traces.proofs.Turns_going.{no_turns, turns_both}
use Rattle.gq_traces.proofs.Unprinted_turns.{follows_both, follows_like, follows_none}

module _ (system : System) where
  -- OF FEWER TURNS

  -- a leaf that takes no more than that takes the same of them
  fewer_same : (a b : ℕ) (w : World) (x : ℕ) → a ≤ b → (while_can b system w x).0 ≤ a → while_can a system w x ≡ while_can b system w x
  fewer_same zero zero w x less few = refl
  fewer_same zero (suc b) w x less few = by (can_run system w x) refl (next system w x) refl
    where
      by : (c : Bool) → can_run system w x ≡ c → (o : Stepped) → next system w x ≡ o → (0, w) ≡ while_can (suc b) system w x
      by false can o goes = sym (while_stops (suc b) system w x can)
      by true can (Err wrong) goes =
          sym (ap (λ (c : Bool). if c then one_and w (next system w x) (λ v. while_can b system v x) else (0, w)) can
          ∙ ap (λ (r : Stepped). one_and w r (λ v. while_can b system v x)) goes)
      by true can (Ok p) goes =
          let took = ap (λ (q : ℕ × World). q.0) (while_step b system w p.0 x can (record { event = p.1; goes = goes })) in absurd (omega (arith, few, took))
  fewer_same (suc a) zero w x less few = absurd (omega (arith, less))
  fewer_same (suc a) (suc b) w x less few =
      by (can_run system w x) refl (next system w x) refl (λ v taken. fewer_same a b v x (omega (arith, less)) taken)
    where
      by : (c : Bool) → can_run system w x ≡ c → (o : Stepped) → next system w x ≡ o
          → ((v : World) → (while_can b system v x).0 ≤ a → while_can a system v x ≡ while_can b system v x)
          → while_can (suc a) system w x ≡ while_can (suc b) system w x
      by false can o goes same = while_stops (suc a) system w x can ∙ sym (while_stops (suc b) system w x can)
      by true can (Err wrong) goes same =
          ap (λ (r : Stepped). if can_run system w x then one_and w r (λ v. while_can a system v x) else (0, w)) goes
          ∙ sym (ap (λ (r : Stepped). if can_run system w x then one_and w r (λ v. while_can b system v x) else (0, w)) goes)
      by true can (Ok p) goes same =
          let first = while_step a system w p.0 x can (record { event = p.1; goes = goes }) in
          let second = while_step b system w p.0 x can (record { event = p.1; goes = goes }) in
          let took = ap (λ (q : ℕ × World). q.0) second in
          first ∙ (ap (λ (q : ℕ × World). (suc q.0, q.1)) (same p.0 (omega (arith, few, took))) ∙ sym second)

  -- one that takes more takes all of them
  fewer_all : (a b : ℕ) (w : World) (x : ℕ) → a ≤ b → a ≤ (while_can b system w x).0 → (while_can a system w x).0 ≡ a
  fewer_all zero b w x less more = refl
  fewer_all (suc a) zero w x less more = absurd (omega (arith, less))
  fewer_all (suc a) (suc b) w x less more =
      by (can_run system w x) refl (next system w x) refl (λ v taken. fewer_all a b v x (omega (arith, less)) taken)
    where
      by : (c : Bool) → can_run system w x ≡ c → (o : Stepped) → next system w x ≡ o
          → ((v : World) → a ≤ (while_can b system v x).0 → (while_can a system v x).0 ≡ a) → (while_can (suc a) system w x).0 ≡ suc a
      by false can o goes all = let none = ap (λ (q : ℕ × World). q.0) (while_stops (suc b) system w x can) in absurd (omega (arith, more, none))
      by true can (Err wrong) goes all =
          let none = ap (λ (q : ℕ × World). q.0) (ap (λ (c : Bool). if c then one_and w (next system w x) (λ v. while_can b system v x) else (0, w)) can
          ∙ ap (λ (r : Stepped). one_and w r (λ v. while_can b system v x)) goes) in
          absurd (omega (arith, more, none))
      by true can (Ok p) goes all =
          let first = while_step a system w p.0 x can (record { event = p.1; goes = goes }) in
          let second = while_step b system w p.0 x can (record { event = p.1; goes = goes }) in
          let took = ap (λ (q : ℕ × World). q.0) second in
          ap (λ (q : ℕ × World). q.0) first ∙ ap suc (all p.0 (omega (arith, more, took)))

  -- WHAT IS STILL TO COME

  -- after the turns of the next leaf
  way_on : (from taken y z k : ℕ) (w v : World) (rest : List (ℕ × ℕ)) → StillToCome system from (greatest_turns - taken) w rest
      → next_able system w from ≡ Some y → while_can (greatest_turns - taken) system w y ≡ (k, v) → ((t : ℕ) × (k ≡ suc t)) → z ≡ suc y
      → (more : List (ℕ × ℕ)) × (rest ≡ (y, k) ∷ more) × StillToCome system z (greatest_turns - (taken + k)) v more
  way_on from taken y z k w v rest still next takes some at =
      let same = some.1 in
      let came = rest_goes system from (greatest_turns - taken) some.0 y w v rest still next (takes ∙ ap (λ j. (j, v)) same) in
      let left : greatest_turns - taken - suc some.0 ≡ greatest_turns - (taken + k) = omega (arith, same) in (
        came.0,
        came.1 ∙ ap (λ j. (y, j) ∷ came.0) (sym same),
        subst (λ j. StillToCome system j (greatest_turns - (taken + k)) v came.0) (sym at)
            (subst (λ n. StillToCome system (suc y) n v came.0) left came.2),
      )

-- ALL OF IT

-- turns so far and those of a leaf
acts_more : (done : List (ℕ × ℕ)) (y k : ℕ) → as_acts done ++ (y, Turns k) ∷ [] ≡ as_acts (done ++ (y, k) ∷ [])
acts_more [] y k = refl
acts_more (t ∷ done) y k = ap (λ l. (t.0, Turns t.1) ∷ l) (acts_more done y k)

parts_more : (done rest more all : List (ℕ × ℕ)) (t : ℕ × ℕ) → done ++ rest ≡ all → rest ≡ t ∷ more → (done ++ t ∷ []) ++ more ≡ all
parts_more done rest more all t parts is = append_assoc done (t ∷ []) more ∙ (ap (λ l. done ++ l) (sym is) ∙ parts)

-- the part of a way to rest that was reported, and what is still to come
pub record RestPrinted {W : Type 0} (contents : W → Option (List ℕ)) (all : Bool) (turns from taken : ℕ) (old new : worlds.World) (before after : Tracing)
    (a b : Counted W) (was now : Bool) : Type 0 where
  pub done : List (ℕ × ℕ)
  pub rest : List (ℕ × ℕ)
  pub parts : done ++ rest ≡ (to_rest (system old.scenario) old.world).turns
  pub few : taken ≤ greatest_turns
  pub still : StillToCome (system old.scenario) from (greatest_turns - taken) new.world rest
  pub reported : PrintsTurns 0 contents (all_text all old.scenario (budgets_of old.scenario) (as_acts done)) (after_all (system old.scenario) (as_acts done))
      turns taken old new before after a b was now

module _ {W : Type 0} (contents : W → Option (List ℕ)) (all : Bool) (turns : ℕ) where
  pub rest_unprinted : (w : worlds.World) (t : Tracing) (out : Counted W) (was : Bool) → CanTrace w t
      → RestPrinted contents all turns 0 0 w w t t out out was was
  rest_unprinted w t out was can =
      let s = w.scenario in
      record {
        done = [];
        rest = (to_rest (system s) w.world).turns;
        parts = refl;
        few = omega arith;
        still = rest_begins (system s) w.world;
        reported = no_turns contents (all_text all s (budgets_of s) []) (after_all (system s) []) turns w t out was can (λ u. refl) (λ u. refl);
      }

  pub rest_printed_more : (from taken y z k : ℕ) (u v w : worlds.World) (p q r : Tracing) (a b c : Counted W) (was now last : Bool)
      → RestPrinted contents all turns from taken u v p q a b was now → next_able (system u.scenario) v.world from ≡ Some y
      → while_can (greatest_turns - taken) (system u.scenario) v.world y ≡ (k, w.world) → ((t : ℕ) × (k ≡ suc t)) → k ≤ greatest_turns - taken → z ≡ suc y
      → PrintsTurns 0 contents (turns_text all u.scenario (budgets_of u.scenario) y k) (after_turns (system u.scenario) y k) (turns + taken) k v w q r b c now
      last
      → RestPrinted contents all turns z (taken + k) u w p r a c was last
  rest_printed_more from taken y z k u v w p q r a b c was now last h next takes some less at g =
      let s = u.scenario in
      let budgets = budgets_of s in
      let done = as_acts h.done in
      let both = as_acts (h.done ++ (y, k) ∷ []) in
      let few = h.few in
      let on = way_on (system s) from taken y z k v.world w.world h.rest h.still next takes some at in
      record {
        done = h.done ++ (y, k) ∷ [];
        rest = on.0;
        parts = parts_more h.done h.rest on.0 (to_rest (system s) u.world).turns (y, k) h.parts on.1;
        few = omega (arith, few, less);
        still = on.2;
        reported = turns_both contents 0 0 (all_text all s budgets done) (turns_text all s budgets y k) (all_text all s budgets both)
            (after_all (system s) done) (after_turns (system s) y k) (after_all (system s) both) turns taken k (taken + k) (turns + taken) u v w p q r
            a b c was now last refl refl
            (λ t. ap (λ l. all_text all s budgets done t ++ l) (sym (append-nil (turns_text all s budgets y k (after_all (system s) done t))))
            ∙ (text_both all s budgets done ((y, Turns k) ∷ []) t ∙ ap (λ acts. all_text all s budgets acts t) (acts_more h.done y k)))
            (λ t. after_both (system s) done ((y, Turns k) ∷ []) t ∙ ap (λ acts. after_all (system s) acts t) (acts_more h.done y k)) h.reported g;
      }

  pub rest_printed : (from taken : ℕ) (u v : worlds.World) (p q : Tracing) (a b : Counted W) (was now : Bool)
      → (h : RestPrinted contents all turns from taken u v p q a b was now) → h.rest ≡ []
      → PrintsTurns 0 contents (all_text all u.scenario (budgets_of u.scenario) (as_acts (to_rest (system u.scenario) u.world).turns))
      (after_all (system u.scenario) (as_acts (to_rest (system u.scenario) u.world).turns)) turns taken u v p q a b was now
  rest_printed from taken u v p q a b was now h none =
      let s = u.scenario in
      let is : h.done ≡ (to_rest (system s) u.world).turns = sym (append-nil h.done) ∙ (ap (λ l. h.done ++ l) (sym none) ∙ h.parts) in
      subst (λ (ts : List (ℕ × ℕ)). PrintsTurns 0 contents (all_text all s (budgets_of s) (as_acts ts)) (after_all (system s) (as_acts ts)) turns taken u v p q
      a b was now) is h.reported

-- where no leaf can go on, or no turn is left
pub no_next : {W : Type 0} (contents : W → Option (List ℕ)) (all : Bool) (turns from taken : ℕ) (u v : worlds.World) (p q : Tracing) (a b : Counted W)
    (was now : Bool) (h : RestPrinted contents all turns from taken u v p q a b was now) → next_able (system u.scenario) v.world from ≡ None → h.rest ≡ []
no_next contents all turns from taken u v p q a b was now h none = rest_ends (system u.scenario) from (greatest_turns - taken) v.world h.rest h.still none

pub none_left : {W : Type 0} (contents : W → Option (List ℕ)) (all : Bool) (turns from taken : ℕ) (u v : worlds.World) (p q : Tracing) (a b : Counted W)
    (was now : Bool) (h : RestPrinted contents all turns from taken u v p q a b was now) → greatest_turns ≤ taken → h.rest ≡ []
none_left contents all turns from taken u v p q a b was now h over =
    rest_over (system u.scenario) from (greatest_turns - taken) v.world h.rest h.still (omega (arith, over))

-- PEAKS OVER IT

pub record RestPeaked (turns from taken : ℕ) (old new : worlds.World) (olds news : List LeafPeaks) : Type 0 where
  pub done : List (ℕ × ℕ)
  pub rest : List (ℕ × ℕ)
  pub parts : done ++ rest ≡ (to_rest (system old.scenario) old.world).turns
  pub few : taken ≤ greatest_turns
  pub count : turns_in (as_acts done) ≡ taken
  pub still : StillToCome (system old.scenario) from (greatest_turns - taken) new.world rest
  pub peaked : Peaked 0 (λ runs now. HasAll (system old.scenario) (as_acts done) runs turns now) (run_on (system old.scenario) (as_acts done)) turns
      (turns + taken) old new olds news

module _ (turns : ℕ) where
  pub rest_unpeaked : (w : worlds.World) (peaks : List LeafPeaks) → w.stopped ≡ false → RestPeaked turns 0 0 w w peaks peaks
  rest_unpeaked w peaks running =
      let s = system w.scenario in
      let none : turns ≡ turns + 0 = omega arith in
      record {
        done = [];
        rest = (to_rest s w.world).turns;
        parts = refl;
        few = omega arith;
        count = refl;
        still = rest_begins s w.world;
        peaked = subst (λ n. Peaked 0 (λ runs now. HasAll s [] runs turns now) (run_on s []) turns n w w peaks peaks) none
            (peaked_none (λ runs now. HasAll s [] runs turns now) (run_on s []) turns w peaks running (λ now. refl));
      }

  pub rest_peaked_more : (from taken y z k : ℕ) (u v w : worlds.World) (ps qs rs : List LeafPeaks) → RestPeaked turns from taken u v ps qs
      → next_able (system u.scenario) v.world from ≡ Some y
      → while_can (greatest_turns - taken) (system u.scenario) v.world y ≡ (k, w.world) → ((t : ℕ) × (k ≡ suc t)) → k ≤ greatest_turns - taken → z ≡ suc y
      → Peaked 0 (λ runs now. HasTurns (system u.scenario) y runs (turns + taken) now k) (turns_of (system u.scenario) y k) (turns + taken) (turns + taken + k)
      v w qs rs
      → RestPeaked turns z (taken + k) u w ps rs
  rest_peaked_more from taken y z k u v w ps qs rs h next takes some less at g =
      let s = system u.scenario in
      let done = as_acts h.done in
      let both = as_acts (h.done ++ (y, k) ∷ []) in
      let few = h.few in
      let count = h.count in
      let on = way_on s from taken y z k v.world w.world h.rest h.still next takes some at in
      let sum : turns + taken + k ≡ turns + (taken + k) = omega arith in
      record {
        done = h.done ++ (y, k) ∷ [];
        rest = on.0;
        parts = parts_more h.done h.rest on.0 (to_rest s u.world).turns (y, k) h.parts on.1;
        few = omega (arith, few, less);
        count = sym (ap turns_in (acts_more h.done y k)) ∙ (turns_in_both done ((y, Turns k) ∷ []) ∙ (let one : turns_in done + (k + 0) ≡ taken + k = omega (
          arith,
          count,
        ) in one));
        still = on.2;
        peaked = subst (λ n. Peaked 0 (λ runs now. HasAll s both runs turns now) (run_on s both) turns n u w ps rs) sum
            (peaked_both 0 0 (λ runs now. HasAll s done runs turns now) (λ runs now. HasTurns s y runs (turns + taken) now k)
            (λ runs now. HasAll s both runs turns now) (run_on s done) (turns_of s y k) (run_on s both) turns (turns + taken) (turns + taken + k) u v w ps qs rs
            (λ runs now has. (let in_parts = list_parts s runs done ((y, Turns k) ∷ []) turns (turns + taken) now (omega (arith, count))
            (subst (λ (acts : Acts). HasAll s acts runs turns now) (sym (acts_more h.done y k)) has) in (in_parts.0, λ there. in_parts.1.0)))
            (λ now there. sym (run_on_both s done ((y, Turns k) ∷ []) now) ∙ ap (λ acts. run_on s acts now) (acts_more h.done y k)) h.peaked g);
      }

  pub rest_peaked : (from taken : ℕ) (u v : worlds.World) (ps qs : List LeafPeaks) (h : RestPeaked turns from taken u v ps qs) → h.rest ≡ []
      → Peaked 0 (λ runs now. HasAll (system u.scenario) (as_acts (to_rest (system u.scenario) u.world).turns) runs turns now)
      (run_on (system u.scenario) (as_acts (to_rest (system u.scenario) u.world).turns)) turns (turns + taken) u v ps qs
  rest_peaked from taken u v ps qs h none =
      let s = system u.scenario in
      let is : h.done ≡ (to_rest s u.world).turns = sym (append-nil h.done) ∙ (ap (λ l. h.done ++ l) (sym none) ∙ h.parts) in
      subst (λ (ts : List (ℕ × ℕ)). Peaked 0 (λ runs now. HasAll s (as_acts ts) runs turns now) (run_on s (as_acts ts)) turns (turns + taken) u v ps qs) is
      h.peaked

  pub rest_peaked_count : (from taken : ℕ) (u v : worlds.World) (ps qs : List LeafPeaks) (h : RestPeaked turns from taken u v ps qs) → h.rest ≡ []
      → taken ≡ turns_in (as_acts (to_rest (system u.scenario) u.world).turns)
  rest_peaked_count from taken u v ps qs h none =
      let is : h.done ≡ (to_rest (system u.scenario) u.world).turns = sym (append-nil h.done) ∙ (ap (λ l. h.done ++ l) (sym none) ∙ h.parts) in
      sym h.count ∙ ap (λ ts. turns_in (as_acts ts)) is

  pub no_next_peak : (from taken : ℕ) (u v : worlds.World) (ps qs : List LeafPeaks) (h : RestPeaked turns from taken u v ps qs)
      → next_able (system u.scenario) v.world from ≡ None → h.rest ≡ []
  no_next_peak from taken u v ps qs h none = rest_ends (system u.scenario) from (greatest_turns - taken) v.world h.rest h.still none

  pub none_left_peak : (from taken : ℕ) (u v : worlds.World) (ps qs : List LeafPeaks) (h : RestPeaked turns from taken u v ps qs) → greatest_turns ≤ taken
      → h.rest ≡ []
  none_left_peak from taken u v ps qs h over = rest_over (system u.scenario) from (greatest_turns - taken) v.world h.rest h.still (omega (arith, over))

-- THE FIRST TURNS OF IT

-- the part of a way to rest that was taken unreported, of which at most so many turns are, in all at most the limit
pub record RestFollowed (from taken limit most : ℕ) (old new : worlds.World) (before after : Followed) : Type 0 where
  pub rest : List (ℕ × ℕ)
  pub way : Traced → Traced
  pub few : taken ≤ limit
  pub goes : (t : Traced) → after_all (system old.scenario) (first_turns (most - taken) (as_acts rest)) (way t)
      ≡ after_all (system old.scenario) (first_turns most (as_acts (to_rest (system old.scenario) old.world).turns)) t
  pub left : most - taken - turns_in (as_acts rest) ≡ most - turns_in (as_acts (to_rest (system old.scenario) old.world).turns)
  pub still : (taken < limit ⊎ (limit ≡ greatest_turns)) → StillToCome (system old.scenario) from (greatest_turns - taken) new.world rest
  pub follows : Follows 0 way old new before after

-- no turn leaves a trace where it is
none_first : (system : System) (ts : List (ℕ × ℕ)) (t : Traced) → after_all system (first_turns 0 (as_acts ts)) t ≡ t
none_first system [] t = refl
none_first system (p ∷ ts) t =
    let none : min 0 p.1 ≡ 0 = min_first 0 p.1 (omega arith) in
    let over : 0 - p.1 ≡ 0 = omega arith in
    (λ i. after_all system (first_turns (over i) (as_acts ts)) (after_turns system p.0 (none i) t)) ∙ none_first system ts t

pub rest_unfollowed : (limit most : ℕ) (w : worlds.World) (f : Followed) → IsFollowed f w → RestFollowed 0 0 limit most w w f f
rest_unfollowed limit most w f is =
    let s = system w.scenario in
    let all : most - 0 ≡ most = omega arith in
    let acts = as_acts (to_rest s w.world).turns in
    record {
      rest = (to_rest s w.world).turns;
      way = λ t. t;
      few = omega arith;
      goes = λ t. ap (λ n. after_all s (first_turns n acts) t) all;
      left = ap (λ n. n - turns_in acts) all;
      still = λ more. rest_begins s w.world;
      follows = follows_none (λ t. t) w f (λ t. refl) is;
    }

pub rest_followed_more : (from taken limit most y z k : ℕ) (u v w : worlds.World) (f g h : Followed) → limit ≤ most → limit ≤ greatest_turns
    → (limit ≡ most ⊎ (limit ≡ greatest_turns)) → taken < limit → RestFollowed from taken limit most u v f g
    → next_able (system u.scenario) v.world from ≡ Some y → while_can (limit - taken) (system u.scenario) v.world y ≡ (k, w.world)
    → ((t : ℕ) × ((while_can (greatest_turns - taken) (system u.scenario) v.world y).0 ≡ suc t)) → z ≡ suc y
    → Follows 0 (after_turns (system u.scenario) y k) v w g h → RestFollowed z (taken + k) limit most u w f h
rest_followed_more from taken limit most y z k u v w f g h within great which less r next takes some at turns = by (leb_tells m (limit - taken))
  where
    s : System
    s = system u.scenario

    m : ℕ
    m = (while_can (greatest_turns - taken) s v.world y).0

    build : (more : List (ℕ × ℕ)) → r.rest ≡ (y, m) ∷ more → min (most - taken) m ≡ k → most - taken - m ≡ most - (taken + k) → taken + k ≤ limit
        → ((taken + k < limit ⊎ (limit ≡ greatest_turns)) → StillToCome s z (greatest_turns - (taken + k)) w.world more)
        → RestFollowed z (taken + k) limit most u w f h
    build more is took after few still =
        let rest = ap (λ l. turns_in (as_acts l)) is in
        let left : most - (taken + k) - turns_in (as_acts more) ≡ most - taken - turns_in (as_acts r.rest) = omega (arith, after, rest) in
        record {
          rest = more;
          way = λ t. after_turns s y k (r.way t);
          few = few;
          goes = λ t. (λ i. after_all s (first_turns (sym after i) (as_acts more)) (after_turns s y (sym took i) (r.way t)))
              ∙ (ap (λ l. after_all s (first_turns (most - taken) (as_acts l)) (r.way t)) (sym is) ∙ r.goes t);
          left = left ∙ r.left;
          still = still;
          follows = follows_both 0 0 r.way (after_turns s y k) (λ t. after_turns s y k (r.way t)) u v w f g h (λ t. refl) r.follows turns;
        }

    -- where the limit was not reached
    all_of : m ≤ limit - taken → RestFollowed z (taken + k) limit most u w f h
    all_of few =
        let both = sym (fewer_same s (limit - taken) (greatest_turns - taken) v.world y (omega (arith, great)) few) ∙ takes in
        let count = ap (λ (p : ℕ × World). p.0) both in
        let on = way_on s from taken y z k v.world w.world r.rest (r.still (inl less)) next both (some.0, sym count ∙ some.1) at in
        build on.0 (on.1 ∙ ap (λ j. (y, j) ∷ on.0) (sym count)) (min_second (most - taken) m (omega (arith, few, within)) ∙ count)
        (omega (arith, count)) (omega (arith, few, count, less)) (λ more. on.2)

    -- where it was
    cut : limit - taken < m → RestFollowed z (taken + k) limit most u w f h
    cut over =
        let all = fewer_all s (limit - taken) (greatest_turns - taken) v.world y (omega (arith, great)) (omega (arith, over)) in
        let took : k ≡ limit - taken = sym (ap (λ (p : ℕ × World). p.0) takes) ∙ all in
        let full = while_can (greatest_turns - taken) s v.world y in
        let on = way_on s from taken y z full.0 v.world full.1 r.rest (r.still (inl less)) next refl some at in
        let few = while_few (greatest_turns - taken) s v.world y in
        let is_most : limit ≡ most = elim which [
          | inl e ↦ e
          | inr e ↦ absurd (omega (arith, few, over, e))
        ] in
        build on.0 on.1 (min_first (most - taken) m (omega (arith, over, is_most)) ∙ (let same : most - taken ≡ k = omega (arith, took, is_most) in same))
        (omega (arith, over, took, is_most)) (omega (arith, took, less)) (λ more. elim more [
          | inl e ↦ absurd (omega (arith, took, less, e))
          | inr e ↦ absurd (omega (arith, few, over, e))
        ])

    by : ((leb m (limit - taken) ≡ true) × (m ≤ limit - taken)) ⊎ ((leb m (limit - taken) ≡ false) × (limit - taken < m))
        → RestFollowed z (taken + k) limit most u w f h
    by (inl t) = all_of t.1
    by (inr t) = cut t.1

-- the turns that were taken are the first so many, where none is still to come or left
pub rest_followed : (from taken limit most : ℕ) (u v : worlds.World) (f g : Followed) (r : RestFollowed from taken limit most u v f g)
    → ((r.rest ≡ []) ⊎ (most ≤ taken))
    → Follows 0 (after_all (system u.scenario) (first_turns most (as_acts (to_rest (system u.scenario) u.world).turns))) u v f g
    × (most - taken ≡ most - turns_in (as_acts (to_rest (system u.scenario) u.world).turns))
rest_followed from taken limit most u v f g r (inl none) =
    let s = system u.scenario in
    let all = ap (λ l. turns_in (as_acts l)) none in
    let left = r.left in (
      follows_like 0 0 r.way (after_all s (first_turns most (as_acts (to_rest s u.world).turns))) u v f g (omega arith)
          (λ t is. ap (λ l. after_all s (first_turns (most - taken) (as_acts l)) (r.way t)) (sym none) ∙ r.goes t) r.follows,
      omega (arith, all, left),
    )
rest_followed from taken limit most u v f g r (inr over) =
    let s = system u.scenario in
    let zero_left : most - taken ≡ 0 = omega (arith, over) in
    let left = r.left in (
      follows_like 0 0 r.way (after_all s (first_turns most (as_acts (to_rest s u.world).turns))) u v f g (omega arith)
          (λ t is. sym (none_first s r.rest (r.way t)) ∙ (ap (λ n. after_all s (first_turns n (as_acts r.rest)) (r.way t)) (sym zero_left) ∙ r.goes t))
          r.follows,
      omega (arith, zero_left, left),
    )

-- none is still to come where no leaf can go on, or where all turns of a way to rest are taken
pub no_next_followed : (from taken limit most : ℕ) (u v : worlds.World) (f g : Followed) (r : RestFollowed from taken limit most u v f g) → taken < limit
    → next_able (system u.scenario) v.world from ≡ None → r.rest ≡ []
no_next_followed from taken limit most u v f g r less none =
    rest_ends (system u.scenario) from (greatest_turns - taken) v.world r.rest (r.still (inl less)) none

pub limit_followed : (from taken limit most : ℕ) (u v : worlds.World) (f g : Followed) (r : RestFollowed from taken limit most u v f g) → limit ≤ taken
    → (limit ≡ most ⊎ (limit ≡ greatest_turns)) → (r.rest ≡ []) ⊎ (most ≤ taken)
limit_followed from taken limit most u v f g r over (inl e) = inr (omega (arith, over, e))
limit_followed from taken limit most u v f g r over (inr e) =
    inl (rest_over (system u.scenario) from (greatest_turns - taken) v.world r.rest (r.still (inr e)) (omega (arith, over, e)))
