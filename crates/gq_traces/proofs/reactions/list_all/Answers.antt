-- All signals once more, and turns, or the end.
use Rattle.std.proofs.Common.{◌≡◌, ◌∙◌, ◌≤◌, ◌++◌, ℕ, Bool, true, false, List, length, length-append, Option, ap, sym, subst, refl, arith}
use Rattle.std.specs.Prelude.{not}
use Rattle.gq_model.specs.declared.act.TurnLine.{TurnLine}
use Rattle.gq_model.specs.machine.Rest.{some_can}
use Rattle.gq_model.specs.machine.Scenario.{Scenario, components, system}
use Rattle.gq_model.specs.machine.World.{World}
use Rattle.gq_traces.specs.Schedule.{Listed, all_listed, all_signals, as_lines, reactions, rest_by, times_in, with_all_signals}
use Rattle.gq_traces.proofs.Reactions_left.{first_left, long_over, next_left, not_over, reactions_over}
use Rattle.gq_traces.proofs.reactions.list_all.Goals as goal

flipped : (a b : Bool) → b ≡ not a → (b ≡ false → a ≡ true) × (b ≡ true → a ≡ false)
flipped true b e = (λ f. refl, λ t. absurd (no (sym t ∙ e)))
  where
    no : true ≡ false → ⊥
    no e = cc
flipped false b e = (λ f. absurd (no (sym f ∙ e)), λ t. refl)
  where
    no : false ≡ true → ⊥
    no e = cc

-- whether some leaf can go on, of the scenario that the world had first
can_is : (s t : Scenario) (w : World) (b : Bool) → t ≡ s → b ≡ not (some_can (system t) w 0 (components t))
    → (b ≡ false → some_can (system s) w 0 (components s) ≡ true) × (b ≡ true → some_can (system s) w 0 (components s) ≡ false)
can_is s t w b same e =
    flipped (some_can (system s) w 0 (components s)) b
    (subst (λ (r : Scenario). b ≡ not (some_can (system r) w 0 (components r))) same e)

end_is : (seed times : Option ℕ) (s : Scenario) (l : Listed) (k : ℕ) (left_seed : Option ℕ) → reactions k left_seed (system s) l ≡ all_listed seed times s
    → reactions k left_seed (system s) l ≡ l → l ≡ all_listed seed times s
end_is seed times s l k left_seed goes over = sym over ∙ goes

pub loop-time-init : goal.loop-time-init
loop-time-init c =
    let old = c.args.world.now in
    let e = c.in_ok-left.ensures in
    let lines = ap length e.lists in
    let none = e.signals ∙ c.requires.signals in
    record {
      scenario = e.scenario;
      running = e.running;
      signals = omega (arith, none);
      few = e.few;
      goes = first_left old.scenario c.args.seed c.args.times old.world c.list_rest.new.world.world c.args.list.now.items c.list_rest.new.list.items
          c.in_ok-left.left c.requires.start c.requires.none e.left e.world e.lists;
    }

-- what was listed so far, of the loop
abbrev here : World → List TurnLine → ℕ → Listed
here w lines left = record { lines = lines; left = left; world = w }

long_end : (seed times : Option ℕ) (s : Scenario) (l : Listed) (k : ℕ) (left_seed : Option ℕ) → reactions k left_seed (system s) l ≡ all_listed seed times s
    → 4194304 ≤ length l.lines → l ≡ all_listed seed times s
long_end seed times s l k left_seed goes long = end_is seed times s l k left_seed goes (reactions_over k left_seed (system s) l (long_over (system s) l long))

pub returns-then-len-ge-GREATEST_LISTED-clause-world : goal.returns-then-len-ge-GREATEST_LISTED-clause-world
returns-then-len-ge-GREATEST_LISTED-clause-world c =
    let s = c.args.world.now.scenario in
    let l = c.loop-time in
    let long = c.if-len-ge-GREATEST_LISTED.true in
    let is = c.len.ensures in
    ap (λ (e : Listed). e.world)
    (long_end c.args.seed c.args.times s (here l.world.world l.list.items l.left) _ l.seed l.invariant.goes (omega (arith, long, is)))

pub returns-then-len-ge-GREATEST_LISTED-clause-lists : goal.returns-then-len-ge-GREATEST_LISTED-clause-lists
returns-then-len-ge-GREATEST_LISTED-clause-lists c =
    let s = c.args.world.now.scenario in
    let l = c.loop-time in
    let long = c.if-len-ge-GREATEST_LISTED.true in
    let is = c.len.ensures in
    ap (λ (e : Listed). e.lines)
    (long_end c.args.seed c.args.times s (here l.world.world l.list.items l.left) _ l.seed l.invariant.goes (omega (arith, long, is)))

-- of the scenario that the world had first
module _ (s t : Scenario) (same : t ≡ s) where
  submitted_of : (w v : World) → v ≡ with_all_signals 0 (components t) w → v ≡ with_all_signals 0 (components s) w
  submitted_of w v h = subst (λ (r : Scenario). v ≡ with_all_signals 0 (components r) w) same h

  signals_of : (a b : List TurnLine) → b ≡ a ++ all_signals 0 (components t) → b ≡ a ++ all_signals 0 (components s)
  signals_of a b h = subst (λ (r : Scenario). b ≡ a ++ all_signals 0 (components r)) same h

  left_of : (o : Option ℕ) (n k : ℕ) (w : World) → k ≡ (rest_by o (system t) n w).left → k ≡ (rest_by o (system s) n w).left
  left_of o n k w h = subst (λ (r : Scenario). k ≡ (rest_by o (system r) n w).left) same h

  world_of : (o : Option ℕ) (n : ℕ) (w v : World) → v ≡ (rest_by o (system t) n w).world → v ≡ (rest_by o (system s) n w).world
  world_of o n w v h = subst (λ (r : Scenario). v ≡ (rest_by o (system r) n w).world) same h

  lines_of : (o : Option ℕ) (n : ℕ) (w : World) (a b : List TurnLine) → b ≡ a ++ as_lines (rest_by o (system t) n w).turns
      → b ≡ a ++ as_lines (rest_by o (system s) n w).turns
  lines_of o n w a b h = subst (λ (r : Scenario). b ≡ a ++ as_lines (rest_by o (system r) n w).turns) same h

pub loop-time-preserved : goal.loop-time-preserved
loop-time-preserved c =
    let s = c.args.world.now.scenario in
    let l = c.loop-time in
    let e = c.in_ok-list_signals.ensures in
    let f = c.in_ok-left-2.ensures in
    let mid = c.list_signals.new.world in
    let new = c.list_rest-in-loop-time.new.world in
    let first = l.invariant.scenario in
    let second = e.scenario ∙ first in
    let counted = e.counted in
    let before = l.invariant.signals in
    let kept = f.signals in
    let long = ap length f.lists ∙ length-append c.list_signals.new.list.items (as_lines (rest_by c.next_seed-seed.result (system mid.scenario) l.left
    mid.world).turns) in
    let short = c.if-len-ge-GREATEST_LISTED.false in
    let size = c.len.ensures in
    let few = f.few in
    let most = l.invariant.few in
    let less = c.loop-time-test.true in
    let times = c.times_in-time-end.ensures in
    let version : times_in c.table.result.now.version c.args.times ≡ times_in s.version c.args.times =
    ap (λ (r : Scenario). times_in r.version c.args.times) (c.table.ensures ∙ c.in_ok-left.ensures.scenario) in
    let can = can_is s l.world.scenario l.world.world c.is_at_rest.result first c.is_at_rest.ensures in
    record {
      scenario = f.scenario ∙ second;
      running = f.running;
      signals = omega (arith, counted, before, kept, long);
      few = omega (arith, few, most);
      goes = next_left s l.seed c.next_seed-seed.result (here l.world.world l.list.items l.left) mid.world new.world c.list_signals.new.list.items
          c.list_rest-in-loop-time.new.list.items c.in_ok-left-2.left c.next_seed-seed.ensures
          (submitted_of s l.world.scenario first l.world.world mid.world e.world)
          (signals_of s l.world.scenario first l.list.items c.list_signals.new.list.items e.lists)
          (left_of s mid.scenario second c.next_seed-seed.result l.left c.in_ok-left-2.left mid.world f.left)
          (world_of s mid.scenario second c.next_seed-seed.result l.left mid.world new.world f.world)
          (lines_of s mid.scenario second c.next_seed-seed.result l.left mid.world c.list_signals.new.list.items c.list_rest-in-loop-time.new.list.items
          f.lists) (times_in s.version c.args.times) l._time (omega (arith, less, times, version))
          (not_over (system s) (here l.world.world l.list.items l.left) (can.1 c.if-not-is_at_rest.false) (omega (arith, short, size)))
          ∙ l.invariant.goes;
    }
