-- Turns that bring all work to rest: those that a leaf can take, a round of all leaves, and rounds.
use Rattle.std.proofs.Common.{◌≡◌, ◌∙◌, ℕ, zero, suc, ◌+◌, ◌-◌, ◌<◌, ◌≤◌, Bool, true, false, List, [], ◌∷◌, ◌++◌, drop, length, option_map}
use Rattle.std.proofs.Common.{Option, Some, None, Ok, Err, refl, ap, sym, subst, arith, append-nil, add-one}
use Rattle.std.specs.Prelude.{if◌then◌else◌, slice_get, slice_index, slice_set}
use Rattle.std.proofs.lemmas.List.{get_or-set_same}
use Rattle.std.proofs.lemmas.Option.{get_or_from_slice_get, slice_get-map, slice_get_within}
use Rattle.gq_model.specs.declared.act.Act.TheVariants.{Turns}
use Rattle.gq_model.specs.declared.fault.Wrong.{Wrong}
use Rattle.gq_model.specs.machine.Doing.{Event, Stepped}
use Rattle.gq_model.specs.machine.Scenario.{Component, System}
use Rattle.gq_model.specs.machine.Step.{next}
use Rattle.gq_model.specs.machine.World.{Leaf}
use Rattle.gq_model.specs.machine.World as model
use Rattle.gq_model.specs.machine.Rest.{Taken, and_further, as_acts, can_run, one_and, reported_turns, round, rounds, while_can}
use Rattle.gq_model.specs.machine.Run.{Ran, after_step, label_at, line_of, run_on, turn_from, turns_of}
use Rattle.gq_laws.specs.Turn_effects.{CountsSteps, StandsStill, steps_of}
use Rattle.gq_world.specs.World_between_turns.{HasTaken, World}
use Rattle.gq_world.specs.internal.Act_transitions.{going, HasLeft, HasRun, IsCut}
use Rattle.gq_world.proofs.Turn_sequence_runs.{part_cut, part_on, run_on_both, runs_grow}

-- ONE LEAF

-- laws of each turn
abbrev pub AllStand : System → ℕ → Type 0
AllStand system x = (w : model.World) → StandsStill system w x

abbrev pub AllCount : System → ℕ → Type 0
AllCount system x = (w : model.World) → CountsSteps system w x

-- the same text, and the same run where no step of the first was wrong
pub record GoesAsFar (a b : Ran) : Type 0 where
  pub text : a.text ≡ b.text
  pub right : a.wrong ≡ None → a ≡ b

same_far : (a b : Ran) → a ≡ b → GoesAsFar a b
same_far a b e = record { text = ap (λ (r : Ran). r.text) e; right = λ none. e }

some_none : {A : Type 0} {a : A} → ◌≡◌ {A = Option A} (Some a) None → ⊥
some_none e = cc

-- after a wrong step nothing moves
turns_wrong : (system : System) (x n : ℕ) (w : model.World) (text : List ℕ) (p : ℕ × Wrong)
    → turns_of system x n (record { world = w; text = text; wrong = Some p }) ≡ record { world = w; text = text; wrong = Some p }
turns_wrong system x zero w text p = refl
turns_wrong system x (suc n) w text p = turns_wrong system x n w text p

turn_goes : (system : System) (x : ℕ) (w : model.World) (text : List ℕ) (p : model.World × Event) → next system w x ≡ Ok p
    → turn_from system x (going w text) None ≡ going p.0 (text ++ line_of (label_at (slice_get system.components x)) p.1)
turn_goes system x w text p e = ap (after_step system x (going w text)) e

turn_fails : (system : System) (x : ℕ) (w : model.World) (text : List ℕ) (wrong : Wrong) → next system w x ≡ Err wrong
    → turn_from system x (going w text) None ≡ record { world = w; text = text; wrong = Some (x, wrong) }
turn_fails system x w text wrong e = ap (after_step system x (going w text)) e

-- turns of a leaf that can take none
idle_turns : (system : System) (x : ℕ) → AllStand system x → (n : ℕ) (w : model.World) (text : List ℕ) → can_run system w x ≡ false
    → turns_of system x n (going w text) ≡ going w text
idle_turns system x stand zero w text can = refl
idle_turns system x stand (suc n) w text can =
    ap (turns_of system x n) (ap (after_step system x (going w text)) (stand w can) ∙ ap (going w) (append-nil text)) ∙ idle_turns system x stand n w text can

abbrev far : System → ℕ → ℕ → model.World → List ℕ → ℕ × model.World → Type 0
far system x n w text p = GoesAsFar (turns_of system x n (going w text)) (turns_of system x p.0 (going w text))

far_step : (system : System) (x n : ℕ) (w : model.World) (text : List ℕ)
    → ((p : model.World × Event) (t : List ℕ) → far system x n p.0 t (while_can n system p.0 x)) → (r : Stepped) → next system w x ≡ r
    → far system x (suc n) w text (one_and w r (λ u. while_can n system u x))
far_step system x n w text further (Ok p) e =
    let line = line_of (label_at (slice_get system.components x)) p.1 in
    subst (λ (r : Ran). GoesAsFar (turns_of system x n r) (turns_of system x (while_can n system p.0 x).0 r)) (sym (turn_goes system x w text p e))
    (further p (text ++ line))
far_step system x n w text further (Err wrong) e =
    let here = ap (turns_of system x n) (turn_fails system x w text wrong e) ∙ turns_wrong system x n w text (x, wrong) in
    record {
      text = ap (λ (r : Ran). r.text) here;
      right = λ none. absurd (some_none (sym (ap (λ (r : Ran). r.wrong) here) ∙ none));
    }

-- so many turns do what those do that a leaf can take
pub while_far : (system : System) (x : ℕ) → AllStand system x → (n : ℕ) (w : model.World) (text : List ℕ) → far system x n w text (while_can n system w x)
while_far system x stand zero w text = same_far (going w text) (going w text) refl
while_far system x stand (suc n) w text =
    by (can_run system w x) refl (far_step system x n w text (λ p t. while_far system x stand n p.0 t) (next system w x) refl)
  where
    by : (b : Bool) → can_run system w x ≡ b → far system x (suc n) w text (one_and w (next system w x) (λ u. while_can n system u x))
        → far system x (suc n) w text (if b then one_and w (next system w x) (λ u. while_can n system u x) else (0, w))
    by true can goes = goes
    by false can goes = same_far (turns_of system x (suc n) (going w text)) (going w text) (idle_turns system x stand (suc n) w text can)

abbrev comes : System → ℕ → model.World → List ℕ → ℕ × model.World → Type 0
comes system x w text p = (turns_of system x p.0 (going w text)).world ≡ p.1

world_step : (system : System) (x n : ℕ) (w : model.World) (text : List ℕ)
    → ((p : model.World × Event) (t : List ℕ) → comes system x p.0 t (while_can n system p.0 x)) → (r : Stepped) → next system w x ≡ r
    → comes system x w text (one_and w r (λ u. while_can n system u x))
world_step system x n w text further (Ok p) e =
    ap (λ (r : Ran). (turns_of system x (while_can n system p.0 x).0 r).world) (turn_goes system x w text p e)
    ∙ further p (text ++ line_of (label_at (slice_get system.components x)) p.1)
world_step system x n w text further (Err wrong) e = refl

-- those that it can take lead to this world
pub while_world : (system : System) (x n : ℕ) (w : model.World) (text : List ℕ) → comes system x w text (while_can n system w x)
while_world system x zero w text = refl
while_world system x (suc n) w text =
    by (can_run system w x) (world_step system x n w text (λ p t. while_world system x n p.0 t) (next system w x) refl)
  where
    by : (b : Bool) → comes system x w text (one_and w (next system w x) (λ u. while_can n system u x))
        → comes system x w text (if b then one_and w (next system w x) (λ u. while_can n system u x) else (0, w))
    by true goes = goes
    by false goes = refl

few_step : (n : ℕ) (w : model.World) (go : model.World → ℕ × model.World) → ((u : model.World) → (go u).0 ≤ n) → (r : Stepped) → (one_and w r go).0 ≤ suc n
few_step n w go few (Ok p) = omega (arith, few p.0)
few_step n w go few (Err wrong) = omega arith

pub while_few : (n : ℕ) (system : System) (w : model.World) (x : ℕ) → (while_can n system w x).0 ≤ n
while_few zero system w x = omega arith
while_few (suc n) system w x = by (can_run system w x) (few_step n w (λ u. while_can n system u x) (λ u. while_few n system u x) (next system w x))
  where
    by : (b : Bool) → (one_and w (next system w x) (λ u. while_can n system u x)).0 ≤ suc n
        → (if b then one_and w (next system w x) (λ u. while_can n system u x) else (0, w)).0 ≤ suc n
    by true few = few
    by false few = omega arith

set_count : (xs : List ℕ) (i a : ℕ) → length (slice_set xs i a) ≡ length xs
set_count [] i a = refl
set_count (x ∷ xs) zero a = refl
set_count (x ∷ xs) (suc i) a = ap suc (set_count xs i a)

abbrev counts_up : ℕ → model.World → ℕ × model.World → Type 0
counts_up x w p = slice_index (steps_of p.1) x ≡ slice_index (steps_of w) x + p.0

steps_step : (system : System) (x n : ℕ) (w : model.World) → CountsSteps system w x → x < length (steps_of w)
    → ((u : model.World) → x < length (steps_of u) → counts_up x u (while_can n system u x)) → can_run system w x ≡ true → (r : Stepped) → next system w x ≡ r
    → counts_up x w (one_and w r (λ u. while_can n system u x))
steps_step system x n w count less further can (Ok p) e =
    let up = count p.0 p.1 can e in
    let there : slice_index (steps_of p.0) x ≡ suc (slice_index (steps_of w) x) =
    ap (λ (l : List ℕ). slice_index l x) up ∙ get_or-set_same (steps_of w) x (suc (slice_index (steps_of w) x)) 0 less in
    let long = ap (λ (l : List ℕ). length l) up ∙ set_count (steps_of w) x (suc (slice_index (steps_of w) x)) in
    let more = further p.0 (omega (arith, less, long)) in
    omega (arith, more, there)
steps_step system x n w count less further can (Err wrong) e = omega arith

-- each is a step of the leaf
while_steps : (system : System) (x : ℕ) → AllCount system x → (n : ℕ) (w : model.World) → x < length (steps_of w) → counts_up x w (while_can n system w x)
while_steps system x count zero w less = omega arith
while_steps system x count (suc n) w less =
    by (can_run system w x) refl
    (λ can. steps_step system x n w (count w) less (λ u there. while_steps system x count n u there) can (next system w x) refl)
  where
    by : (b : Bool) → can_run system w x ≡ b → (can_run system w x ≡ true → counts_up x w (one_and w (next system w x) (λ u. while_can n system u x)))
        → counts_up x w (if b then one_and w (next system w x) (λ u. while_can n system u x) else (0, w))
    by true can goes = goes can
    by false can goes = omega arith

pub steps_at : (w : model.World) (x n : ℕ) → HasTaken w x n → slice_index (steps_of w) x ≡ n
steps_at w x n h =
    get_or_from_slice_get (steps_of w) x h.leaf.steps 0
    (slice_get-map (λ (l : Leaf). l.steps) w.leaves x ∙ ap (option_map (λ (l : Leaf). l.steps)) h.there)
    ∙ h.taken

pub steps_there : (w : model.World) (x n : ℕ) → HasTaken w x n → x < length (steps_of w)
steps_there w x n h =
    slice_get_within (steps_of w) x h.leaf.steps
    (slice_get-map (λ (l : Leaf). l.steps) w.leaves x ∙ ap (option_map (λ (l : Leaf). l.steps)) h.there)

-- turns that were taken, and the steps of the leaf before and after them
module _ (system : System) (x most : ℕ) (stand : AllStand system x) (count : AllCount system x) (old new : World) (before after : Option (List ℕ)) where
  abbrev can : ℕ × model.World
  can = while_can most system old.world x

  pub most_cut : IsCut (turns_of system x most) old before after → IsCut (turns_of system x can.0) old before after
  most_cut cut =
      record {
        text = cut.text;
        more = cut.more;
        written = cut.written;
        prefix = λ prefix. sym (while_far system x stand most old.world prefix).text ∙ cut.prefix prefix;
      }

  module _ (ran : HasRun (turns_of system x most) old new before after) where
    as_far : (prefix : List ℕ) → turns_of system x can.0 (going old.world prefix) ≡ going new.world (prefix ++ ran.text)
    as_far prefix = sym ((while_far system x stand most old.world prefix).right (ap (λ (r : Ran). r.wrong) (ran.ran prefix))) ∙ ran.ran prefix

    pub most_ran : HasRun (turns_of system x can.0) old new before after
    most_ran = record { text = ran.text; written = ran.written; ran = as_far; running = ran.running }

    new_is : can.1 ≡ new.world
    new_is = sym (while_world system x most old.world []) ∙ ap (λ (r : Ran). r.world) (as_far [])

    counted : (a b : ℕ) → HasTaken old.world x a → HasTaken new.world x b → b ≡ a + can.0
    counted a b h k =
        sym (steps_at new.world x b k) ∙ ap (λ (w : model.World). slice_index (steps_of w) x) (sym new_is)
        ∙ while_steps system x count most old.world (steps_there old.world x a h) ∙ ap (λ n. n + can.0) (steps_at old.world x a h)

    pub most_taken : (a b : ℕ) → HasTaken old.world x a → HasTaken new.world x b → can ≡ (b - a, new.world)
    most_taken a b h k =
        let up = counted a b h k in
        let taken : can.0 ≡ b - a = omega (arith, up) in
        (λ i. (taken i, new_is i))

    pub most_few : (a b : ℕ) → HasTaken old.world x a → HasTaken new.world x b → (a ≤ b) × (b - a ≤ most)
    most_few a b h k = let up = counted a b h k in let few = while_few most system old.world x in (omega (arith, up), omega (arith, up, few))

-- A ROUND

acts_both : (xs ys : List (ℕ × ℕ)) → as_acts (xs ++ ys) ≡ as_acts xs ++ as_acts ys
acts_both [] ys = refl
acts_both (t ∷ xs) ys = ap (λ l. (t.0, Turns t.1) ∷ l) (acts_both xs ys)

-- turns of a leaf, and then others
then_others : (system : System) (x k : ℕ) (more : List (ℕ × ℕ)) (ran : Ran)
    → run_on system (as_acts more) (turns_of system x k ran) ≡ run_on system (as_acts (reported_turns x k ++ more)) ran
then_others system x zero more ran = refl
then_others system x (suc k) more ran = refl

-- what is left of a round, from the x-th leaf on, does what all of it does
pub record RoundLeft (system : System) (most x left : ℕ) (old now : World) (before after : Option (List ℕ)) : Type 0 where
  pub goes : HasLeft (run_on system (as_acts (round system left now.world x (drop x system.components)).turns))
      (run_on system (as_acts (round system most old.world 0 system.components).turns)) old now before after
  pub left_is : (round system left now.world x (drop x system.components)).left ≡ (round system most old.world 0 system.components).left
  pub world_is : (round system left now.world x (drop x system.components)).world ≡ (round system most old.world 0 system.components).world

module _ (system : System) (most x left : ℕ) (old now : World) (before between : Option (List ℕ)) (c : Component)
    (here : drop x system.components ≡ c ∷ drop (x + 1) system.components) where
  abbrev rest : List Component
  rest = drop (x + 1) system.components

  -- what is left of the round after so many turns of the x-th leaf
  abbrev later : ℕ → model.World → Taken
  later k w = round system (left - k) w (suc x) rest

  round_is : (k : ℕ) (w : model.World) → while_can left system now.world x ≡ (k, w)
      → round system left now.world x (drop x system.components) ≡ record (later k w) { turns = reported_turns x k ++ (later k w).turns }
  round_is k w e =
      ap (round system left now.world x) here
      ∙ ap (λ (p : ℕ × model.World). record (later p.0 p.1) { turns = reported_turns x p.0 ++ (later p.0 p.1).turns }) e

  next_is : (k : ℕ) (w : model.World) → round system (left - k) w (x + 1) rest ≡ later k w
  next_is k w = ap (λ n. round system (left - k) w n rest) (add-one x)

  module _ (new : World) (k : ℕ) (after : Option (List ℕ)) (h : RoundLeft system most x left old now before between)
      (taken : while_can left system now.world x ≡ (k, new.world)) where
    split : (ran : Ran) → run_on system (as_acts (round system (left - k) new.world (x + 1) rest).turns)
        (turns_of system x (while_can left system now.world x).0 ran)
        ≡ run_on system (as_acts (round system left now.world x (drop x system.components)).turns) ran
    split ran =
        ap (λ (t : Taken). run_on system (as_acts t.turns) (turns_of system x (while_can left system now.world x).0 ran)) (next_is k new.world)
        ∙ ap (λ (p : ℕ × model.World). run_on system (as_acts (later k new.world).turns) (turns_of system x p.0 ran)) taken
        ∙ then_others system x k (later k new.world).turns ran
        ∙ ap (λ (t : Taken). run_on system (as_acts t.turns) ran) (sym (round_is k new.world taken))

    pub round_on : HasRun (turns_of system x (while_can left system now.world x).0) now new between after
        → RoundLeft system most (x + 1) (left - k) old new before after
    round_on ran =
        record {
          goes = part_on (run_on system (as_acts (round system (left - k) new.world (x + 1) rest).turns))
              (turns_of system x (while_can left system now.world x).0)
              (run_on system (as_acts (round system left now.world x (drop x system.components)).turns))
              (run_on system (as_acts (round system most old.world 0 system.components).turns)) old now new before between after split h.goes ran;
          left_is = ap (λ (t : Taken). t.left) (next_is k new.world ∙ refl) ∙ ap (λ (t : Taken). t.left) (sym (round_is k new.world taken)) ∙ h.left_is;
          world_is = ap (λ (t : Taken). t.world) (next_is k new.world) ∙ ap (λ (t : Taken). t.world) (sym (round_is k new.world taken)) ∙ h.world_is;
        }

  -- the first turns of what is left
  pub round_cut : (after : Option (List ℕ)) → RoundLeft system most x left old now before between
      → IsCut (turns_of system x (while_can left system now.world x).0) now between after
      → IsCut (run_on system (as_acts (round system most old.world 0 system.components).turns)) old before after
  round_cut after h cut =
      let k = (while_can left system now.world x).0 in
      let w = (while_can left system now.world x).1 in
      part_cut (run_on system (as_acts (later k w).turns)) (turns_of system x k)
      (run_on system (as_acts (round system left now.world x (drop x system.components)).turns))
      (run_on system (as_acts (round system most old.world 0 system.components).turns)) old now now before between after
      (λ ran. then_others system x k (later k w).turns ran ∙ ap (λ (t : Taken). run_on system (as_acts t.turns) ran) (sym (round_is k w refl)))
      (runs_grow system (as_acts (later k w).turns)) h.goes cut

-- at the start all is left
pub round_starts : (system : System) (most : ℕ) (old : World) (before : Option (List ℕ))
    → HasLeft (run_on system (as_acts (round system most old.world 0 system.components).turns))
    (run_on system (as_acts (round system most old.world 0 system.components).turns)) old old before before
    → RoundLeft system most 0 most old old before before
round_starts system most old before h = record { goes = h; left_is = refl; world_is = refl }

-- at the end nothing is
pub round_ends : (system : System) (most x left : ℕ) (old now : World) (before after : Option (List ℕ)) → drop x system.components ≡ []
    → RoundLeft system most x left old now before after
    → HasRun (run_on system (as_acts (round system most old.world 0 system.components).turns)) old now before after
    × (left ≡ (round system most old.world 0 system.components).left) × (now.world ≡ (round system most old.world 0 system.components).world)
round_ends system most x left old now before after none h =
    let over = ap (round system left now.world x) none in (
      nothing_left (run_on system (as_acts (round system left now.world x (drop x system.components)).turns))
          (run_on system (as_acts (round system most old.world 0 system.components).turns)) old now before after
          (λ ran. ap (λ (t : Taken). run_on system (as_acts t.turns) ran) over) h.goes,
      ap (λ (t : Taken). t.left) (sym over) ∙ h.left_is,
      ap (λ (t : Taken). t.world) (sym over) ∙ h.world_is,
    )
  where
    nothing_left : (left all : Ran → Ran) (old new : World) (before after : Option (List ℕ)) → ((ran : Ran) → left ran ≡ ran)
        → HasLeft left all old new before after → HasRun all old new before after
    nothing_left left all old new before after id h =
        record { text = h.text; written = h.written; ran = λ prefix. sym (h.same prefix) ∙ id (going new.world (prefix ++ h.text)); running = h.running }

-- ROUNDS

-- the turns of rounds after one that was taken
module _ (system : System) (m n : ℕ) (w : model.World) where
  abbrev taken : Taken
  taken = round system n w 0 system.components

  abbrev further : Taken
  further = rounds m system taken.left taken.world

  -- where a turn was taken
  pub rounds_go : (taken.turns ≡ [] → ⊥) → (ran : Ran) → run_on system (as_acts further.turns) (run_on system (as_acts taken.turns) ran)
      ≡ run_on system (as_acts (rounds (suc m) system n w).turns) ran
  rounds_go some ran = by taken.turns refl
    where
      by : (ts : List (ℕ × ℕ)) → taken.turns ≡ ts → run_on system (as_acts further.turns) (run_on system (as_acts taken.turns) ran)
          ≡ run_on system (as_acts (and_further taken ts (λ left u. rounds m system left u)).turns) ran
      by [] e = absurd (some e)
      by (t ∷ ts) e =
          sym (run_on_both system (as_acts taken.turns) (as_acts further.turns) ran)
          ∙ ap (λ l. run_on system l ran) (sym (acts_both taken.turns further.turns))

  -- where none was
  pub rounds_stop : taken.turns ≡ [] → (rounds (suc m) system n w).turns ≡ taken.turns
  rounds_stop none = ap (λ ts. (and_further taken ts (λ left u. rounds m system left u)).turns) none

round_less : (system : System) (n : ℕ) (w : model.World) (x : ℕ) (cs : List Component) → (round system n w x cs).left ≤ n
round_less system n w x [] = omega arith
round_less system n w x (c ∷ cs) =
    let p = while_can n system w x in let less = round_less system (n - p.0) p.1 (suc x) cs in omega (arith, less)

none_of : (x k : ℕ) → k ≡ 0 → reported_turns x k ≡ []
none_of x k e = ap (reported_turns x) e

-- no turn was taken where as many are left
pub round_none : (system : System) (n : ℕ) (w : model.World) (x : ℕ) (cs : List Component) → (round system n w x cs).left ≡ n
    → (round system n w x cs).turns ≡ []
round_none system n w x [] e = refl
round_none system n w x (c ∷ cs) e =
    let p = while_can n system w x in
    let few = while_few n system w x in
    let less = round_less system (n - p.0) p.1 (suc x) cs in
    let zero_is : p.0 ≡ 0 = omega (arith, few, less, e) in
    let here = none_of x p.0 zero_is in
    let later = round_none system (n - p.0) p.1 (suc x) cs (omega (arith, e, zero_is)) in
    (λ i. here i ++ later i)

reported_some : (x k : ℕ) (more : List (ℕ × ℕ)) → reported_turns x k ++ more ≡ [] → (k ≡ 0) × (more ≡ [])
reported_some x zero more e = (refl, e)
reported_some x (suc k) more e = cc

pub round_same : (system : System) (n : ℕ) (w : model.World) (x : ℕ) (cs : List Component) → (round system n w x cs).turns ≡ []
    → (round system n w x cs).left ≡ n
round_same system n w x [] e = refl
round_same system n w x (c ∷ cs) e =
    let p = while_can n system w x in
    let both = reported_some x p.0 (round system (n - p.0) p.1 (suc x) cs).turns e in
    let later = round_same system (n - p.0) p.1 (suc x) cs both.1 in
    let zero_is = both.0 in
    omega (arith, later, zero_is)

-- ALL ROUNDS

-- what is left of m rounds does what all of the turns do
abbrev pub RoundsLeft : System → ℕ → ℕ → (Ran → Ran) → World → World → Option (List ℕ) → Option (List ℕ) → Type 0
RoundsLeft system m left all old now before after = HasLeft (run_on system (as_acts (rounds m system left now.world).turns)) all old now before after

module _ (system : System) (m left : ℕ) (all : Ran → Ran) (old now : World) (before between : Option (List ℕ)) where
  abbrev this : Taken
  this = round system left now.world 0 system.components

  -- the round that comes next took a turn
  pub rounds_on : (new : World) (rest : ℕ) (after : Option (List ℕ)) → rest ≡ this.left → new.world ≡ this.world → (rest ≡ left → ⊥)
      → RoundsLeft system (suc m) left all old now before between → HasRun (run_on system (as_acts this.turns)) now new between after
      → RoundsLeft system m rest all old new before after
  rounds_on new rest after left_is world_is some h ran =
      let turned : this.turns ≡ [] → ⊥ = λ none. some (left_is ∙ round_same system left now.world 0 system.components none) in
      let same : rounds m system rest new.world ≡ rounds m system this.left this.world = (λ i. rounds m system (left_is i) (world_is i)) in
      part_on (run_on system (as_acts (rounds m system rest new.world).turns)) (run_on system (as_acts this.turns))
      (run_on system (as_acts (rounds (suc m) system left now.world).turns)) all old now new before between after
      (λ r. ap (λ (t : Taken). run_on system (as_acts t.turns) (run_on system (as_acts this.turns) r)) same ∙ rounds_go system m left now.world turned r) h ran

  -- it took none
  pub rounds_over : (new : World) (rest : ℕ) (after : Option (List ℕ)) → rest ≡ this.left → rest ≡ left
      → RoundsLeft system (suc m) left all old now before between → HasRun (run_on system (as_acts this.turns)) now new between after
      → HasRun all old new before after
  rounds_over new rest after left_is same h ran =
      let none = round_none system left now.world 0 system.components (sym left_is ∙ same) in
      let stop = rounds_stop system m left now.world none in
      let goes = part_on (λ r. r) (run_on system (as_acts this.turns)) (run_on system (as_acts (rounds (suc m) system left now.world).turns)) all old now new
      before between after (λ r. ap (λ l. run_on system (as_acts l) r) (sym stop)) h ran in
      record { text = goes.text; written = goes.written; ran = λ prefix. sym (goes.same prefix); running = goes.running }

  -- a write of it failed
  pub rounds_cut : (after : Option (List ℕ)) → RoundsLeft system (suc m) left all old now before between
      → IsCut (run_on system (as_acts this.turns)) now between after → IsCut all old before after
  rounds_cut after h cut = by this.turns refl
    where
      by : (ts : List (ℕ × ℕ)) → this.turns ≡ ts → IsCut all old before after
      by [] none =
          part_cut (λ r. r) (run_on system (as_acts this.turns)) (run_on system (as_acts (rounds (suc m) system left now.world).turns)) all old now now
          before between after (λ r. ap (λ l. run_on system (as_acts l) r) (sym (rounds_stop system m left now.world none)))
          (λ r. ([], sym (append-nil r.text))) h cut
      by (t ∷ ts) e =
          let further = rounds m system this.left this.world in
          part_cut (run_on system (as_acts further.turns)) (run_on system (as_acts this.turns))
          (run_on system (as_acts (rounds (suc m) system left now.world).turns)) all old now now before between after
          (rounds_go system m left now.world (λ none. some_turn (sym e ∙ none))) (runs_grow system (as_acts further.turns)) h cut
        where
          some_turn : {a : ℕ × ℕ} {rest : List (ℕ × ℕ)} → a ∷ rest ≡ [] → ⊥
          some_turn e = cc

-- no round is left
pub rounds_end : (system : System) (m left : ℕ) (all : Ran → Ran) (old now : World) (before after : Option (List ℕ)) → m ≡ 0
    → RoundsLeft system m left all old now before after → HasRun all old now before after
rounds_end system m left all old now before after none h =
    let over = ap (λ n. rounds n system left now.world) none in
    record {
      text = h.text;
      written = h.written;
      ran = λ prefix. sym (h.same prefix) ∙ ap (λ (t : Taken). run_on system (as_acts t.turns) (going now.world (prefix ++ h.text))) over;
      running = h.running;
    }
