-- Signals and turns that are still to come lead where all of them lead.
use Rattle.std.proofs.Common.{◌≡◌, ◌∙◌, ℕ, zero, suc, ◌+◌, ◌-◌, ◌<◌, ◌≤◌, Bool, true, false, List, [], ◌++◌, length, Option, refl, ap, sym, arith}
use Rattle.std.proofs.Common.{append_assoc}
use Rattle.std.specs.Prelude.{◌||◌, if◌then◌else◌, nat_le}
use Rattle.std.proofs.lemmas.Bool.{le-leb}
use Rattle.std.proofs.lemmas.Bool.Decides.{nat_tests}
use Rattle.gq_model.specs.declared.act.TurnLine.{TurnLine}
use Rattle.gq_model.specs.machine.Rest.{Taken, greatest_turns, some_can}
use Rattle.gq_model.specs.machine.Scenario.{Scenario, System, components, system}
use Rattle.gq_model.specs.machine.World.{World, start}
use Rattle.gq_traces.specs.Schedule.{Listed, all_listed, all_signals, as_lines, greatest_listed, is_over, next_seed, reaction, reactions, rest_by, times_in}
use Rattle.gq_traces.specs.Schedule.{with_all_signals}

-- some leaf can go on, or there are too many lines
pub can_over : (all : System) (l : Listed) → some_can all l.world 0 all.components ≡ true → is_over all l ≡ true
can_over all l can = ap (λ (b : Bool). b || nat_le greatest_listed (length l.lines)) can

or_true : (a b : Bool) → b ≡ true → a || b ≡ true
or_true true b e = refl
or_true false b e = e

pub long_over : (all : System) (l : Listed) → 4194304 ≤ length l.lines → is_over all l ≡ true
unfolding greatest_listed
long_over all l long =
    or_true (some_can all l.world 0 all.components) (nat_le 4194304 (length l.lines)) (le-leb 4194304 (length l.lines) long)

pub not_over : (all : System) (l : Listed) → some_can all l.world 0 all.components ≡ false → length l.lines < 4194304 → is_over all l ≡ false
unfolding greatest_listed
not_over all l none few =
    let short : nat_le 4194304 (length l.lines) ≡ false = grind (arith, nat_tests, few) in
    ap (λ (b : Bool). b || nat_le 4194304 (length l.lines)) none ∙ short

-- nothing more comes
pub reactions_over : (k : ℕ) (seed : Option ℕ) (all : System) (l : Listed) → is_over all l ≡ true → reactions k seed all l ≡ l
reactions_over zero seed all l over = refl
reactions_over (suc k) seed all l over =
    ap (λ (b : Bool). if b then l else reactions k (next_seed seed) all (reaction (next_seed seed) all l)) over

pub reactions_none : (n i : ℕ) (seed : Option ℕ) (all : System) (l : Listed) → n ≤ i → reactions (n - i) seed all l ≡ l
reactions_none n i seed all l over = let none : n - i ≡ 0 = omega (arith, over) in ap (λ k. reactions k seed all l) none

-- all are to come
pub first_left : (s : Scenario) (seed times : Option ℕ) (old now : World) (before after : List TurnLine) (left : ℕ) → old ≡ start (system s) → before ≡ []
    → left ≡ (rest_by seed (system s) greatest_turns old).left → now ≡ (rest_by seed (system s) greatest_turns old).world
    → after ≡ before ++ as_lines (rest_by seed (system s) greatest_turns old).turns
    → reactions (times_in s.version times - 0) seed (system s) (record { lines = after; left = left; world = now }) ≡ all_listed seed times s
unfolding all_listed
first_left s seed times old now before after left starts none left_is world_is lines_is =
    let n : times_in s.version times - 0 ≡ times_in s.version times = omega arith in
    let lines = lines_is ∙ (ap (λ l. l ++ as_lines (rest_by seed (system s) greatest_turns old).turns) none
    ∙ ap (λ (w : World). as_lines (rest_by seed (system s) greatest_turns w).turns) starts) in
    let left_same = left_is ∙ ap (λ (w : World). (rest_by seed (system s) greatest_turns w).left) starts in
    let world_same = world_is ∙ ap (λ (w : World). (rest_by seed (system s) greatest_turns w).world) starts in
    ap (λ k. reactions k seed (system s) (record { lines = after; left = left; world = now })) n
    ∙ ap (reactions (times_in s.version times) seed (system s)) (λ k. record { lines = lines k; left = left_same k; world = world_same k })

-- all signals were submitted, and turns taken, once more
module _ (s : Scenario) (seed new_seed : Option ℕ) (l : Listed) (between now : World) (mid lines : List TurnLine) (left : ℕ)
    (seed_is : new_seed ≡ next_seed seed) (submitted : between ≡ with_all_signals 0 (components s) l.world)
    (signals : mid ≡ l.lines ++ all_signals 0 (components s))
    (left_is : left ≡ (rest_by new_seed (system s) l.left between).left) (world_is : now ≡ (rest_by new_seed (system s) l.left between).world)
    (lines_is : lines ≡ mid ++ as_lines (rest_by new_seed (system s) l.left between).turns) where
  rest_is : rest_by new_seed (system s) l.left between ≡ rest_by (next_seed seed) (system s) l.left (with_all_signals 0 (components s) l.world)
  rest_is = ap (λ o. rest_by o (system s) l.left between) seed_is ∙ ap (λ w. rest_by (next_seed seed) (system s) l.left w) submitted

  listed : lines ≡ (reaction (next_seed seed) (system s) l).lines
  listed =
      lines_is ∙ (ap (λ (t : Taken). mid ++ as_lines t.turns) rest_is
      ∙ (ap (λ m. m ++ as_lines (rest_by (next_seed seed) (system s) l.left (with_all_signals 0 (components s) l.world)).turns) signals
      ∙ append_assoc l.lines (all_signals 0 (components s))
      (as_lines (rest_by (next_seed seed) (system s) l.left (with_all_signals 0 (components s) l.world)).turns)))

  reaction_is : ◌≡◌ {A = Listed} (record { lines = lines; left = left; world = now }) (reaction (next_seed seed) (system s) l)
  reaction_is =
      let left_same = left_is ∙ ap (λ (t : Taken). t.left) rest_is in
      let world_same = world_is ∙ ap (λ (t : Taken). t.world) rest_is in
      (λ k. record { lines = listed k; left = left_same k; world = world_same k })

  pub next_left : (n i : ℕ) → i < n → is_over (system s) l ≡ false
      → reactions (n - (i + 1)) new_seed (system s) (record { lines = lines; left = left; world = now }) ≡ reactions (n - i) seed (system s) l
  next_left n i less going =
      let one : n - i ≡ suc (n - (i + 1)) = omega (arith, less) in
      ap (reactions (n - (i + 1)) new_seed (system s)) reaction_is
      ∙ (ap (λ o. reactions (n - (i + 1)) o (system s) (reaction (next_seed seed) (system s) l)) seed_is
      ∙ (sym (ap (λ (b : Bool). if b then l else reactions (n - (i + 1)) (next_seed seed) (system s) (reaction (next_seed seed) (system s) l)) going)
      ∙ sym (ap (λ k. reactions k seed (system s) l) one)))
