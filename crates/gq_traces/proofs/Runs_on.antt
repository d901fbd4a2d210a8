-- A run over a list, turn by turn.
use Rattle.std.proofs.Common.{◌≡◌, ◌∙◌, ◌≤◌, ◌+◌, ◌-◌, ℕ, zero, suc, [], ◌∷◌, ◌++◌, Option, Some, None, Ok, refl, ap, sym, subst, arith}
use Rattle.std.specs.Prelude.{min}
use Rattle.std.proofs.lemmas.Bool.Decides.{nat_tests}
use Rattle.gq_model.specs.declared.act.Act.{Act}
use Rattle.gq_model.specs.declared.act.Act.TheVariants.{Turns, Sets, Submits}
use Rattle.gq_model.specs.declared.fault.Wrong.{Wrong}
use Rattle.gq_model.specs.machine.Doing.{Event, Stepped}
use Rattle.gq_model.specs.machine.Run.{Ran, Acts, act_on, after_step, run, run_on, set_from, submit_from, turn_from, turns_of}
use Rattle.gq_model.specs.machine.Scenario.{System}
use Rattle.gq_model.specs.machine.Step.{next}
use Rattle.gq_model.specs.machine.World.{World, start}
use Rattle.gq_model.specs.texts.Turns.{turns_given}
use Rattle.gq_traces.specs.First_turns.{first_of, first_turns, turns_in}
use Rattle.gq_traces.specs.internal.Peaking.{HasAct, HasAll, HasTurns, IsIn, SameUse}
use Rattle.gq_traces.proofs.Same_use.{set_same, same_both, same_self, submit_same}

-- THE FIRST TURNS

pub min_first : (m n : ℕ) → m ≤ n → min m n ≡ m
min_first m n few = grind (arith, nat_tests, few)

pub min_second : (m n : ℕ) → n ≤ m → min m n ≡ n
min_second m n few = grind (arith, nat_tests, few)

module _ (system : System) where
  -- none of them
  none_of : (x : ℕ) (a : Act) (ran : Ran) → act_on system x (first_of 0 a) ran ≡ ran
  none_of x (Turns m) ran = let none = min_first 0 m (omega arith) in ap (λ n. turns_of system x n ran) none
  none_of x (Sets i v) ran = refl
  none_of x (Submits i) ran = refl

  none_on : (acts : Acts) (ran : Ran) → run_on system (first_turns 0 acts) ran ≡ ran
  none_on [] ran = refl
  none_on (p ∷ acts) ran =
      let over : 0 - turns_given p.1 ≡ 0 = omega arith in
      (λ i. run_on system (first_turns (over i) acts) (none_of p.0 p.1 ran i)) ∙ none_on acts ran

  -- within the turns of a first item, and past it
  first_few : (m x c : ℕ) (acts : Acts) (ran : Ran) → m ≤ c → run_on system (first_turns m ((x, Turns c) ∷ acts)) ran ≡ turns_of system x m ran
  first_few m x c acts ran few =
      let over : m - c ≡ 0 = omega (arith, few) in
      (λ i. run_on system (first_turns (over i) acts) (turns_of system x (min_first m c few i) ran)) ∙ none_on acts (turns_of system x m ran)

  whole_of : (m x : ℕ) (a : Act) (ran : Ran) → act_on system x (first_of (turns_given a + suc m) a) ran ≡ act_on system x a ran
  whole_of m x (Turns c) ran = let all = min_second (c + suc m) c (omega arith) in ap (λ n. turns_of system x n ran) all
  whole_of m x (Sets i v) ran =
      let more : 0 + suc m ≡ suc m = omega arith in ap (λ k. act_on system x (first_of k (Sets i v)) ran) more
  whole_of m x (Submits i) ran =
      let more : 0 + suc m ≡ suc m = omega arith in ap (λ k. act_on system x (first_of k (Submits i)) ran) more

  past : (m : ℕ) (p : ℕ × Act) (acts : Acts) (ran : Ran)
      → run_on system (first_turns (turns_given p.1 + suc m) (p ∷ acts)) ran ≡ run_on system (first_turns (suc m) acts) (act_on system p.0 p.1 ran)
  past m p acts ran =
      let left : turns_given p.1 + suc m - turns_given p.1 ≡ suc m = omega arith in
      λ i. run_on system (first_turns (left i) acts) (whole_of m p.0 p.1 ran i)

  module _ (runs : ℕ → Ran) where
    has_turns : (x c n : ℕ) (now : Ran) → ((m : ℕ) → suc m ≤ c → runs (n + suc m) ≡ turns_of system x (suc m) now) → HasTurns system x runs n now c
    has_turns x zero n now h = tt
    has_turns x (suc c) n now h =
        let one : suc n ≡ n + 1 = omega arith in (
          ap runs one ∙ h 0 (omega arith),
          has_turns x c (suc n) (turn_from system x now now.wrong)
              (λ m few. (let at : suc n + suc m ≡ n + suc (suc m) = omega arith in ap runs at ∙ h (suc m) (omega (arith, few)))),
        )

    has_act : (x : ℕ) (a : Act) (acts : Acts) (n : ℕ) (now : Ran)
        → ((m : ℕ) → runs (n + suc m) ≡ run_on system (first_turns (suc m) ((x, a) ∷ acts)) now) → HasAct system x runs n now a
    has_act x (Turns c) acts n now h = has_turns x c n now (λ m few. h m ∙ first_few (suc m) x c acts now few)
    has_act x (Sets i v) acts n now h = tt
    has_act x (Submits i) acts n now h = tt

    has_list : (acts : Acts) (n : ℕ) (now : Ran) → ((m : ℕ) → runs (n + suc m) ≡ run_on system (first_turns (suc m) acts) now) → HasAll system acts runs n now
    has_list [] n now h = tt
    has_list (p ∷ acts) n now h = (
      has_act p.0 p.1 acts n now h,
      has_list acts (n + turns_given p.1) (act_on system p.0 p.1 now)
          (λ m. (let at : n + turns_given p.1 + suc m ≡ n + suc (turns_given p.1 + m) = omega arith in
          let more : suc (turns_given p.1 + m) ≡ turns_given p.1 + suc m = omega arith in
          ap runs at ∙ (h (turns_given p.1 + m) ∙ (ap (λ k. run_on system (first_turns k (p ∷ acts)) now) more ∙ past m p acts now)))),
    )

  abbrev pub at_first : Ran
  at_first = record { world = start system; text = []; wrong = None }

  -- a run has all of its list
  pub has_all : (acts : Acts) → HasAll system acts (λ n. run system (first_turns n acts)) 0 at_first
  has_all acts =
      has_list (λ n. run system (first_turns n acts)) acts 0 at_first
      (λ m. (let none : 0 + suc m ≡ suc m = omega arith in ap (λ n. run system (first_turns n acts)) none))

  -- and is at the start before it
  pub at_start : (acts : Acts) (w : World) → w ≡ start system → IsIn system (λ n. run system (first_turns n acts)) 0 at_first w
  at_start acts w e =
      let none = ap (λ (r : Ran). r.world) (none_on acts at_first) ∙ sym e in
      record { world = sym e; right = refl; same = subst (SameUse system (run system (first_turns 0 acts)).world) none (same_self system _) }

  -- ONE TURN MORE

  pub goes_to : (runs : ℕ → Ran) (x n : ℕ) (now : Ran) (w v : World) (event : Event) → runs (suc n) ≡ turn_from system x now now.wrong
      → IsIn system runs n now w → next system w x ≡ Ok (v, event) → IsIn system runs (suc n) (turn_from system x now now.wrong) v
  goes_to runs x n now w v event has at goes =
      let stepped = ap (turn_from system x now) at.right ∙ ap (λ (u : World). after_step system x now (next system u x)) at.world
      ∙ ap (λ (o : Stepped). after_step system x now o) goes in
      let there = ap (λ (r : Ran). r.world) stepped in
      record {
        world = there;
        right = ap (λ (r : Ran). r.wrong) stepped;
        same = subst (SameUse system (runs (suc n)).world) (ap (λ (r : Ran). r.world) has ∙ there) (same_self system _);
      }

  -- ALL OF A LIST

  -- settings and signals alone change nothing that leaves use
  settings_same : (acts : Acts) (ran : Ran) → turns_in acts ≡ 0 → SameUse system ran.world (run_on system acts ran).world
  settings_same [] ran e = same_self system ran.world
  settings_same ((x, Turns zero) ∷ acts) ran e = settings_same acts ran (omega (arith, e))
  settings_same ((x, Turns (suc c)) ∷ acts) ran e = absurd (omega (arith, e))
  settings_same ((x, Sets i v) ∷ acts) ran e =
      same_both system ran.world (set_from system x i v ran ran.wrong).world (run_on system acts (set_from system x i v ran ran.wrong)).world
      (by ran.wrong) (settings_same acts (set_from system x i v ran ran.wrong) (omega (arith, e)))
    where
      by : (o : Option (ℕ × Wrong)) → SameUse system ran.world (set_from system x i v ran o).world
      by None = set_same system ran.world x i v
      by (Some p) = same_self system ran.world
  settings_same ((x, Submits i) ∷ acts) ran e =
      same_both system ran.world (submit_from x i ran ran.wrong).world (run_on system acts (submit_from x i ran ran.wrong)).world
      (by ran.wrong) (settings_same acts (submit_from x i ran ran.wrong) (omega (arith, e)))
    where
      by : (o : Option (ℕ × Wrong)) → SameUse system ran.world (submit_from x i ran o).world
      by None = submit_same system ran.world x i
      by (Some p) = same_self system ran.world

  -- the first turns of a list that has no more leave what all of it leaves
  last_same : (n : ℕ) (acts : Acts) (ran : Ran) → turns_in acts ≤ n
      → SameUse system (run_on system (first_turns n acts) ran).world (run_on system acts ran).world
  last_same zero acts ran few =
      subst (λ (r : Ran). SameUse system r.world (run_on system acts ran).world) (sym (none_on acts ran)) (settings_same acts ran (omega (arith, few)))
  last_same (suc n) [] ran few = same_self system ran.world
  last_same (suc n) ((x, Turns c) ∷ acts) ran few =
      let all = min_second (suc n) c (omega (arith, few)) in
      subst (λ m. SameUse system (run_on system (first_turns (suc n - c) acts) (turns_of system x m ran)).world
      (run_on system acts (turns_of system x c ran)).world) (sym all)
      (last_same (suc n - c) acts (turns_of system x c ran) (omega (arith, few)))
  last_same (suc n) ((x, Sets i v) ∷ acts) ran few =
      let all : suc n ≡ suc n - 0 = omega arith in
      let set = set_from system x i v ran ran.wrong in
      subst (λ m. SameUse system (run_on system (first_turns m acts) set).world (run_on system acts set).world) all
      (last_same (suc n) acts set (omega (arith, few)))
  last_same (suc n) ((x, Submits i) ∷ acts) ran few =
      let all : suc n ≡ suc n - 0 = omega arith in
      let submitted = submit_from x i ran ran.wrong in
      subst (λ m. SameUse system (run_on system (first_turns m acts) submitted).world (run_on system acts submitted).world) all
      (last_same (suc n) acts submitted (omega (arith, few)))

  pub all_first : (n : ℕ) (acts : Acts) → turns_in acts ≤ n → SameUse system (run system (first_turns n acts)).world (run system acts).world
  all_first n acts few = last_same n acts at_first few

-- TURNS IN PARTS

module _ (system : System) (x : ℕ) (runs : ℕ → Ran) where
  pub first_part : (a b n c : ℕ) (now : Ran) → c ≡ a + b → HasTurns system x runs n now c → HasTurns system x runs n now a
  first_part zero b n c now e h = tt
  first_part (suc a) b n zero now e h = absurd (omega (arith, e))
  first_part (suc a) b n (suc c) now e h = (h.0, first_part a b (suc n) c (turn_from system x now now.wrong) (omega (arith, e)) h.1)

  pub last_part : (a b n c : ℕ) (now : Ran) → c ≡ a + b → HasTurns system x runs n now c → HasTurns system x runs (n + a) (turns_of system x a now) b
  last_part zero b n c now e h =
      let all : c ≡ b = omega (arith, e) in
      let here : n ≡ n + 0 = omega arith in
      subst (λ m. HasTurns system x runs m now b) here (subst (HasTurns system x runs n now) all h)
  last_part (suc a) b n zero now e h = absurd (omega (arith, e))
  last_part (suc a) b n (suc c) now e h =
      let here : suc n + a ≡ n + suc a = omega arith in
      let then = turn_from system x now now.wrong in
      subst (λ m. HasTurns system x runs m (turns_of system x a then) b) here (last_part a b (suc n) c then (omega (arith, e)) h.1)

  pub turns_sum : (a b : ℕ) (now : Ran) → turns_of system x b (turns_of system x a now) ≡ turns_of system x (a + b) now
  turns_sum zero b now = let none : b ≡ 0 + b = omega arith in ap (λ n. turns_of system x n now) none
  turns_sum (suc a) b now =
      let more : suc (a + b) ≡ suc a + b = omega arith in
      turns_sum a b (turn_from system x now now.wrong) ∙ ap (λ n. turns_of system x n now) more

-- a list in two parts
pub list_parts : (system : System) (runs : ℕ → Ran) (acts more : Acts) (n m : ℕ) (now : Ran) → m ≡ n + turns_in acts → HasAll system (acts ++ more) runs n now
    → HasAll system acts runs n now × HasAll system more runs m (run_on system acts now)
list_parts system runs [] more n m now at h =
    let here : n ≡ m = omega (arith, at) in (tt, subst (λ k. HasAll system more runs k now) here h)
list_parts system runs (q ∷ acts) more n m now at h =
    let rest = list_parts system runs acts more (n + turns_given q.1) m (act_on system q.0 q.1 now) (omega (arith, at)) h.1 in ((h.0, rest.0), rest.1)
