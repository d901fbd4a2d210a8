-- How many lines and bytes a list of turns has that is scheduled.
use Rattle.std.proofs.Common.{◌≡◌, ◌∙◌, ℕ, zero, suc, ◌+◌, ◌-◌, ◌*◌, ◌<◌, ◌≤◌, ◌⊎◌, inl, inr, Bool, true, false, List, [], ◌∷◌, ◌++◌, length, Option}
use Rattle.std.proofs.Common.{Some, None, Ok, Err}
use Rattle.std.proofs.Common.{refl, ap, sym, subst, arith, true≢false, length-append}
use Rattle.std.specs.Prelude.{if◌then◌else◌, map, nat_le, slice_get, sum_by, option_map, codes, decimal}
use Rattle.std.proofs.lemmas.List.Sums.{sum_by-append, sum_by-cons}
use Rattle.std.proofs.lemmas.Option.{slice_get-map}
use Rattle.std.proofs.lemmas.List.{length-map}
use Rattle.std.proofs.lemmas.Bool.{and_parts, leb-true}
use Rattle.std.proofs.lemmas.Fmt.{length-decimal-le}
use Rattle.gq_model.specs.machine.Lists.{all_of, between}
use Rattle.gq_model.specs.texts.Letters.{is_name_byte}
use Rattle.gq_model.specs.declared.act.TurnLine.TheVariants.{Gives}
use Rattle.gq_model.specs.machine.Rest.{greatest_turns, can_run, runs, runs_as, Taken, and_further, one_and, round, rounds}
use Rattle.gq_model.specs.machine.Rest.{reported_turns, while_can}
use Rattle.gq_laws.specs.Names.{NamesDiffer}
use Rattle.gq_model.specs.declared.phase.Phase.{Phase}
use Rattle.gq_model.specs.declared.phase.Phase.TheVariants.{Pending, Running, Blocked, Serving, Handling, Exited}
use Rattle.gq_model.specs.machine.Scenario.{Component, Scenario, System, components, system}
use Rattle.gq_model.specs.machine.World.{Leaf, World, start}
use Rattle.gq_model.specs.declared.act.Act.TheVariants.{Turns, Sets, Submits}
use Rattle.gq_model.specs.declared.fault.Wrong.{Wrong}
use Rattle.gq_model.specs.machine.Doing.{Event, Stepped}
use Rattle.gq_model.specs.machine.Step.{next}
use Rattle.gq_model.specs.machine.Run.{Ran, Acts, run, set_from, set_input, submit, submit_from}
use Rattle.gq_model.proofs.Small_facts.{none_some, some_same}
use Rattle.gq_laws.specs.Session_links.{IsLinkedWorld, Stance, stance}
use Rattle.gq_laws.specs.Reached_worlds.{IsReached}
use Rattle.gq_traces.specs.Schedule.{as_lines, cut_lines, given_line, greatest_text, rest_by, scheduled_by}
use Rattle.gq_traces.proofs.Fitting_lines.{bytes}
use Rattle.gq_traces.proofs.Turned_back.{AreTurns, IsCalled, all_turns}
use Rattle.gq_traces.proofs.Schedule_runs.{AreNames, taken_by}
use Rattle.gq_views.specs.Listing.{joined}
use Rattle.gq_traces.proofs.Scheduled_turn_runs.{IsAt, run_on_both, step_runs, while_few}
use Rattle.gq_traces.proofs.Leaf_progress_measure.{Gains, IsGoing, goes, next_gains, stances, value, worth_of}

abbrev pub worth : World → ℕ
worth w = sum_by value (stances w)

goes_runs : (w : World) (x : ℕ) (leaf : Leaf) (phase : Phase) → goes phase ≡ true → runs w x leaf phase ≡ true
goes_runs w x leaf Pending g = absurd (true≢false (sym g))
goes_runs w x leaf Running g = refl
goes_runs w x leaf Blocked g = absurd (true≢false (sym g))
goes_runs w x leaf Serving g = absurd (true≢false (sym g))
goes_runs w x leaf Handling g = refl
goes_runs w x leaf Exited g = absurd (true≢false (sym g))

-- a leaf that goes on can take a turn
still_can : (system : System) (w v : World) (x : ℕ) → can_run system w x ≡ true → IsGoing x (stances v) → can_run system v x ≡ true
still_can system w v x can going = by (slice_get system.components x) can (slice_get v.leaves x) refl
  where
    by : (c : Option Component) → runs_as w x c (slice_get w.leaves x) ≡ true → (o : Option Leaf) → slice_get v.leaves x ≡ o → runs_as v x c o ≡ true
    by None could o e = absurd (true≢false (sym could))
    by (Some c) could None e =
        absurd (none_some (sym (slice_get-map (λ (l : Leaf). stance l.phase l.current) v.leaves x ∙ ap (option_map (λ (l : Leaf). stance l.phase l.current)) e)
        ∙ going.there))
    by (Some c) could (Some leaf) e =
        let same : stance leaf.phase leaf.current ≡ going.found = some_same (sym (slice_get-map (λ (l : Leaf). stance l.phase l.current) v.leaves x
        ∙ ap (option_map (λ (l : Leaf). stance l.phase l.current)) e) ∙ going.there) in
        goes_runs v x leaf leaf.phase (ap (λ (t : Stance). goes t.phase) same ∙ going.goes)

-- turns, settings and signals after which a run is in this world, with no step that was wrong
abbrev pub Reaches : Scenario → World → Type 0
Reaches s w = (turns : Acts) × IsAt (run (system s) turns) w

pub reaches_next : (s : Scenario) (w : World) (x : ℕ) (p : World × Event) → Reaches s w → next (system s) w x ≡ Ok p → Reaches s p.0
reaches_next s w x p h e = (
  h.0 ++ (x, Turns 1) ∷ [],
  subst (λ (r : Ran). IsAt r p.0) (sym (run_on_both (system s) h.0 ((x, Turns 1) ∷ []) (record { world = start (system s); text = []; wrong = None })))
      (step_runs (system s) w x (run (system s) h.0) p h.1 e),
)

pub reaches_set : (s : Scenario) (w : World) (x i n : ℕ) → Reaches s w → Reaches s (set_input (system s) w x i n)
reaches_set s w x i n h = (
  h.0 ++ (x, Sets i n) ∷ [],
  subst (λ (r : Ran). IsAt r (set_input (system s) w x i n))
      (sym (run_on_both (system s) h.0 ((x, Sets i n) ∷ []) (record { world = start (system s); text = []; wrong = None })))
      (is_set (run (system s) h.0) h.1),
)
  where
    is_set : (ran : Ran) → IsAt ran w → IsAt (set_from (system s) x i n ran ran.wrong) (set_input (system s) w x i n)
    is_set ran at =
        subst (λ (o : Option (ℕ × Wrong)). IsAt (set_from (system s) x i n ran o) (set_input (system s) w x i n)) (sym at.right)
        (record { world = ap (λ (v : World). set_input (system s) v x i n) at.world; right = at.right })

pub reaches_submit : (s : Scenario) (w : World) (x i : ℕ) → Reaches s w → Reaches s (submit w x i)
reaches_submit s w x i h = (
  h.0 ++ (x, Submits i) ∷ [],
  subst (λ (r : Ran). IsAt r (submit w x i))
      (sym (run_on_both (system s) h.0 ((x, Submits i) ∷ []) (record { world = start (system s); text = []; wrong = None })))
      (is_submitted (run (system s) h.0) h.1),
)
  where
    is_submitted : (ran : Ran) → IsAt ran w → IsAt (submit_from x i ran ran.wrong) (submit w x i)
    is_submitted ran at =
        subst (λ (o : Option (ℕ × Wrong)). IsAt (submit_from x i ran o) (submit w x i)) (sym at.right)
        (record { world = ap (λ (v : World). submit v x i) at.world; right = at.right })

-- turns of the x-th leaf, at most n
record Line (s : Scenario) (n x : ℕ) (w : World) (p : ℕ × World) : Type 0 where
  falls : worth w ≤ worth p.1 + 2 * p.0
  none : p.0 ≡ 0 → p.1 ≡ w
  stop : (n ≤ p.0) ⊎ (can_run (system s) p.1 x ≡ false)
  gain : can_run (system s) p.1 x ≡ false → (p.0 ≡ 0) ⊎ (worth w + 3 ≤ worth p.1 + 2 * p.0)
  reached : Reaches s p.1

module _ (s : Scenario) (linked : (w : World) → IsReached s w → IsLinkedWorld (system s) w)
    (right : (w : World) (x : ℕ) → IsReached s w → (p : World × Event) × (next (system s) w x ≡ Ok p)) where
  reached_so : (w : World) → Reaches s w → IsReached s w
  reached_so w h = record { turns = h.0; is = h.1.world }

  line_next : (n x : ℕ) (w u : World) (p : ℕ × World) → Gains (worth w) x (stances u) → can_run (system s) w x ≡ true → Line s n x u p
      → Line s (suc n) x w (suc p.0, p.1)
  line_next n x w u p g can h =
      record {
        falls = omega (arith, g.least, h.falls);
        none = λ e. absurd (omega (arith, e));
        stop = elim h.stop [ inl f ↦ inl (omega (arith, f)) | inr f ↦ inr f ];
        gain = λ idle. inr (elim (h.gain idle) [ inl f ↦ last f idle g.more | inr f ↦ omega (arith, g.least, f) ]);
        reached = h.reached;
      }
    where
      last : p.0 ≡ 0 → can_run (system s) p.1 x ≡ false → IsGoing x (stances u) ⊎ (worth w < worth u) → worth w + 3 ≤ worth p.1 + 2 * suc p.0
      last f idle more =
          let same : worth p.1 ≡ worth u = ap worth (h.none f) in
          elim more [
            | inl going ↦ absurd (true≢false (sym (still_can (system s) w p.1 x can (subst (λ (v : World). IsGoing x (stances v)) (sym (h.none f)) going))
                ∙ idle))
            | inr less ↦ omega (arith, less, same, f)
          ]

  line_from : (n x : ℕ) (w : World) → Reaches s w → (o : Stepped) → next (system s) w x ≡ o → can_run (system s) w x ≡ true
      → ((u : World) → Reaches s u → Line s n x u (while_can n (system s) u x)) → Line s (suc n) x w (one_and w o (λ u. while_can n (system s) u x))
  line_from n x w h (Ok p) e can further =
      line_next n x w p.0 (while_can n (system s) p.0 x) (next_gains (system s) w x p.0 p.1 (linked w (reached_so w h)) can e) can
      (further p.0 (reaches_next s w x p h e))
  line_from n x w h (Err wrong) e can further = let r = right w x (reached_so w h) in absurd (differ (sym e ∙ r.1))
    where
      differ : {p : World × Event} → ◌≡◌ {A = Stepped} (Err wrong) (Ok p) → ⊥
      differ q = cc

  line_of : (n x : ℕ) (w : World) → Reaches s w → Line s n x w (while_can n (system s) w x)
  line_of zero x w h =
      record { falls = omega arith; none = λ e. refl; stop = inl (omega arith); gain = λ idle. inl refl; reached = h }
  line_of (suc n) x w h = by (can_run (system s) w x) refl (λ can. line_from n x w h (next (system s) w x) refl can (λ u at. line_of n x u at))
    where
      by : (b : Bool) → can_run (system s) w x ≡ b
          → (can_run (system s) w x ≡ true → Line s (suc n) x w (one_and w (next (system s) w x) (λ u. while_can n (system s) u x)))
          → Line s (suc n) x w (if b then one_and w (next (system s) w x) (λ u. while_can n (system s) u x) else (0, w))
      by true can line = line can
      by false idle line = record { falls = omega arith; none = λ e. refl; stop = inr idle; gain = λ i. inl refl; reached = h }

-- LINES

-- for the one line that is cut
abbrev credit : ℕ → ℕ
credit zero = 0
credit (suc n) = 3

credit_less : (m n : ℕ) → m ≤ n → credit m ≤ credit n
credit_less zero n h = omega arith
credit_less (suc m) zero h = absurd (omega (arith, h))
credit_less (suc m) (suc n) h = omega arith

credit_none : (m : ℕ) → m ≡ 0 → credit m ≡ 0
credit_none zero e = refl
credit_none (suc m) e = absurd (omega (arith, e))

credit_some : (n : ℕ) → 0 < n → credit n ≡ 3
credit_some zero h = absurd (omega (arith, h))
credit_some (suc n) h = refl

-- three times as many lines as there are, less what the leaves gained, are no more than twice the turns, and a line more where turns are cut
record FewLines (s : Scenario) (n : ℕ) (w : World) (t : Taken) : Type 0 where
  counted : 3 * length t.turns + worth w + credit t.left ≤ 2 * all_turns t.turns + worth t.world + credit n
  reached : Reaches s t.world

both_few : (s : Scenario) (n : ℕ) (w : World) (a b : Taken) → FewLines s n w a → FewLines s a.left a.world b
    → FewLines s n w (record b { turns = a.turns ++ b.turns })
both_few s n w a b h g =
    record {
      counted = omega (arith, length-append a.turns b.turns, sum_by-append (λ (t : ℕ × ℕ). t.1) a.turns b.turns, h.counted, g.counted);
      reached = g.reached;
    }

one_few : (s : Scenario) (n x : ℕ) (w new : World) (k : ℕ) → k ≤ n → Line s n x w (k, new)
    → FewLines s n w (record { turns = reported_turns x k; left = n - k; world = new })
one_few s n x w new zero less h =
    let same : n - 0 ≡ n = omega arith in record { counted = omega (arith, h.falls, ap credit same); reached = h.reached }
one_few s n x w new (suc k) less h =
    record {
      counted = elim h.stop [
        | inl f ↦ omega (arith, h.falls, credit_none (n - suc k) (omega (arith, f, less)), credit_some n (omega (arith, less)))
        | inr idle ↦ elim (h.gain idle) [
          | inl none ↦ absurd (omega (arith, none))
          | inr more ↦ omega (arith, more, credit_less (n - suc k) n (omega arith))
        ]
      ];
      reached = h.reached;
    }

module _ (s : Scenario) (linked : (w : World) → IsReached s w → IsLinkedWorld (system s) w)
    (right : (w : World) (x : ℕ) → IsReached s w → (p : World × Event) × (next (system s) w x ≡ Ok p)) where
  round_few : (n : ℕ) (w : World) (x : ℕ) (cs : List Component) → Reaches s w → FewLines s n w (round (system s) n w x cs)
  round_few n w x [] h = record { counted = omega arith; reached = h }
  round_few n w x (c ∷ rest) h =
      let p = while_can n (system s) w x in
      let first = one_few s n x w p.1 p.0 (while_few n (system s) w x) (line_of s linked right n x w h) in
      both_few s n w (record { turns = reported_turns x p.0; left = n - p.0; world = p.1 }) (round (system s) (n - p.0) p.1 (suc x) rest) first
      (round_few (n - p.0) p.1 (suc x) rest first.reached)

  further_few : (n : ℕ) (w : World) (t : Taken) (ts : List (ℕ × ℕ)) (go : ℕ → World → Taken) → FewLines s n w t
      → FewLines s t.left t.world (go t.left t.world) → FewLines s n w (and_further t ts go)
  further_few n w t [] go h g = h
  further_few n w t (x ∷ ts) go h g = both_few s n w t (go t.left t.world) h g

  rounds_few : (k n : ℕ) (w : World) → Reaches s w → FewLines s n w (rounds k (system s) n w)
  rounds_few zero n w h = record { counted = omega arith; reached = h }
  rounds_few (suc k) n w h =
      let t = round (system s) n w 0 (components s) in
      let first = round_few n w 0 (components s) h in
      further_few n w t t.turns (λ left u. rounds k (system s) left u) first (rounds_few k t.left t.world first.reached)

-- BYTES

worth_few : (ts : List Stance) → sum_by value ts ≤ 3 * length ts
worth_few [] = omega arith
worth_few (t ∷ ts) = omega (arith, sum_by-cons value t ts, by t.phase, worth_few ts)
  where
    by : (phase : Phase) → worth_of phase ≤ 3
    by Pending = omega arith
    by Running = omega arith
    by Blocked = omega arith
    by Serving = omega arith
    by Handling = omega arith
    by Exited = omega arith

-- the line of turns of a leaf
abbrev pub turn_line : List Component → ℕ × ℕ → List ℕ
turn_line cs t = given_line cs (Gives t.0 (Turns t.1))

pub line_short : (cs : List Component) (t : ℕ × ℕ) → IsCalled cs t.0 → length (turn_line cs t) ≤ 17 + length (decimal t.1)
line_short cs t called =
    let u = and_parts (between 1 16 (length called.name)) (all_of is_name_byte called.name) called.is_name in
    let v = and_parts (nat_le 1 (length called.name)) (nat_le (length called.name) 16) u.0 in
    let long : length (turn_line cs t) ≡ length called.name + suc (length (decimal t.1)) =
    ap (λ (l : List ℕ). length (l ++ 32 ∷ decimal t.1)) called.there ∙ length-append called.name (32 ∷ decimal t.1) in
    omega (arith, long, leb-true (length called.name) 16 v.1)

pub joined_both : (l : List ℕ) (ls : List (List ℕ)) → length (joined (l ∷ ls)) ≡ length l + suc (length (joined ls))
joined_both l ls = length-append l (10 ∷ joined ls)

pub cut_short : (n : ℕ) → n ≤ greatest_turns → length (joined (cut_lines true n)) ≤ 26
cut_short n few =
    omega (
      arith,
      joined_both ((codes "# cut after " ++ decimal n) ++ codes " turns") [],
      length-append (codes "# cut after " ++ decimal n) (codes " turns"),
      length-append (codes "# cut after ") (decimal n),
      length-decimal-le 7 n (omega arith) (omega (arith, few)) (omega (arith, few)),
    )

lines_short : (cs : List Component) (ts : List (ℕ × ℕ)) → AreTurns cs ts → all_turns ts ≤ greatest_turns → bytes cs (as_lines ts) ≤ 25 * length ts
lines_short cs [] h few = omega arith
lines_short cs (t ∷ ts) h few =
    let sum = sum_by-cons (λ (t : ℕ × ℕ). t.1) t ts in
    omega (
      arith,
      joined_both (turn_line cs t) (map (given_line cs) (as_lines ts)),
      line_short cs t h.0,
      length-decimal-le 7 t.1 (omega arith) (omega (arith, sum, few)) (omega (arith, sum, few)),
      lines_short cs ts h.2 (omega (arith, sum, few)),
    )

-- the lines of `turns` have room in a text that is read
pub text_short : (s : Scenario) → ((w : World) → IsReached s w → IsLinkedWorld (system s) w)
    → ((w : World) (x : ℕ) → IsReached s w → (p : World × Event) × (next (system s) w x ≡ Ok p))
    → ((w : World) → IsReached s w → length w.leaves ≡ length (components s)) → NamesDiffer s → AreNames s → length (components s) ≤ 64
    → bytes (components s) (as_lines (scheduled_by None s).turns) ≤ greatest_text
unfolding rest_by greatest_text
text_short s linked right whole differ names few =
    let all = taken_by None s greatest_turns (start (system s)) differ names in
    let t = scheduled_by None s in
    let lines = rounds_few s linked right (suc greatest_turns) greatest_turns (start (system s)) ([], record { world = refl; right = refl }) in
    let text = lines_short (components s) t.turns all.turns (omega (arith, all.counted)) in
    let leaves = whole t.world (reached_so s linked right t.world lines.reached) in
    omega (
      arith,
      lines.counted,
      text,
      all.counted,
      worth_few (stances t.world),
      length-map t.world.leaves (λ (l : Leaf). stance l.phase l.current),
      leaves,
      few,
      credit_some greatest_turns (omega arith),
    )
