-- The leaves of a scenario at the start of their programs.
use Rattle.std.proofs.Common.{◌≡◌, ◌<◌, ℕ, zero, suc, List, [], ◌∷◌, ◌++◌, length, get_or, inl}
use Rattle.std.proofs.Common.{inr, ◌+◌, Option, Some, None, IfSome, refl, sym, ap, subst, ◌∙◌, arith}
use Rattle.std.proofs.Common.{length-append}
use Rattle.std.specs.Prelude.{slice_get}
use Rattle.gq_model.specs.declared.phase.Phase.TheVariants.{Pending, Running}
use Rattle.gq_model.specs.machine.Routes.{numbered}
use Rattle.gq_model.specs.machine.Scenario.{Scenario, Component, components}
use Rattle.gq_model.specs.machine.World.{first_phase}
use Rattle.gq_model.proofs.Small_facts.{get_within, none_some, some_same}
use Rattle.gq_resolve.specs.NodeTables.{leaf_rows, number_named}
use Rattle.gq_laws.specs.Ready.{IsReady}
use Rattle.gq_prepared.specs.Scenario_plan.{first_stage}
use Rattle.gq_prepared.proofs.Joined_lists.{in_append}
use Rattle.gq_prepared.proofs.Planned_nodes as made
use Rattle.gq_trade.specs.declared.trade_node.NodeState.{NodeState}
use Rattle.gq_trade.specs.declared.trade_node.Stage.TheVariants as stage
use Rattle.gq_ram.specs.Account_table.{no_amount}
use Rattle.gq_prepared.specs.internal.Firsts.{first_leaf}
use Rattle.gq_bytecode.specs.Programs.{IsCodeOfProgram, ProgramCode}
use Rattle.gq_leaf.specs.Coded.{Coded}
use Rattle.gq_machine.specs.declared.machine_state.Prepared.{Prepared}
use Rattle.gq_machine.specs.internal.Machine_invariant.{IsPrepared}
use Rattle.gq_machine.specs.internal.Starts.{AreFirst, ArePrepared, IsFirstOf}
use Rattle.gq_machine.proofs.Stepping_leaf_facts.{item_there}

running : (after : Option (List ℕ)) → stage.Live ≡ first_stage after → Running ≡ first_phase after
running None e = refl
running (Some name) e = absurd cc

pending : (after : Option (List ℕ)) (f : List ℕ → Option ℕ) (y : ℕ) → number_named after f ≡ Some y → Pending ≡ first_phase after
pending None f y e = absurd (none_some e)
pending (Some name) f y e = refl

-- a leaf runs that starts after no other, by what the table reports
pub runs : (s : Scenario) (x : ℕ) (o : Option ℕ) → IsReady s → x < length (components s) → IfSome (slice_get (leaf_rows s) x) (λ r. o ≡ r.after) → o ≡ None
    → IfSome (slice_get (components s) x) (λ c. Running ≡ first_phase c.node.after)
runs s x o ready less h e =
    by (slice_get (components s) x) (made.live s x no_amount o ready less h e)
  where
    by : (found : Option Component)
        → IfSome found (λ c. record { quantum = no_amount; after = None; stage = stage.Live } ≡ first_leaf s no_amount c)
        → IfSome found (λ c. Running ≡ first_phase c.node.after)
    by None h = h
    by (Some c) h = running c.node.after (ap (λ (n : NodeState). n.stage) h)

-- and it waits where it starts after another
pub waits : (s : Scenario) (x y : ℕ) (o : Option ℕ) → x < length (components s) → IfSome (slice_get (leaf_rows s) x) (λ r. o ≡ r.after) → o ≡ Some y
    → IfSome (slice_get (components s) x) (λ c. Pending ≡ first_phase c.node.after)
waits s x y o less h e =
    let t = made.reported s x o less h in
    subst (λ (found : Option Component). IfSome found (λ c. Pending ≡ first_phase c.node.after)) (sym t.1)
    (pending t.0.node.after (λ name. numbered 0 name (components s)) y (sym t.2 ∙ e))

-- LOOPS

only_one : {A : Type 0} (a b : A) (j : ℕ) → slice_get (a ∷ []) j ≡ Some b → (j ≡ 0) × (a ≡ b)
only_one a b zero e = (refl, some_same e)
only_one a b (suc j) e = absurd (none_some e)

-- what holds of each holds with one more at the end
each_more : {A : Type 0} (P : ℕ → A → Type 0) (n : ℕ) (xs new : List A) (a : A) → length xs ≡ n → new ≡ xs ++ a ∷ [] → P n a
    → ((x : ℕ) (b : A) → slice_get xs x ≡ Some b → P x b) → (x : ℕ) (b : A) → slice_get new x ≡ Some b → P x b
each_more P n xs new a count is h each x b e =
    elim (in_append xs (a ∷ []) x b (ap (λ l. slice_get l x) (sym is) ∙ e)) [
      | inl f ↦ each x b f
      | inr u ↦
          let at = u.1 in
          let last = only_one a b u.0 u.2 in
          let none = last.0 in
          let place : n ≡ x = omega (arith, at, count, none) in
          subst (λ y. P y b) place (subst (P n) last.1 h)
    ]

pub from_some : {A : Type 0} (o : Option A) (P : A → Type 0) (a : A) → o ≡ Some a → IfSome o P → P a
from_some None P a e h = absurd (none_some e)
from_some (Some b) P a e h = subst P (some_same e) h

count_more : {A : Type 0} (n : ℕ) (xs new : List A) (a : A) → length xs ≡ n → new ≡ xs ++ a ∷ [] → length new ≡ n + 1
count_more n xs new a count is = ap length is ∙ length-append xs (a ∷ []) ∙ ap (λ m. m + 1) count

pub first_more : (cs : List Component) (n k : ℕ) (ls new : List Coded) (l : Coded) → new ≡ ls ++ l ∷ [] → k ≡ n
    → IfSome (slice_get cs k) (λ c. IsFirstOf c l) → AreFirst cs n ls → AreFirst cs (n + 1) new
first_more cs n k ls new l is at one h =
    record {
      count = count_more n ls new l h.count is;
      each = λ x c m ec em.
          each_more (λ y b. (d : Component) → slice_get cs y ≡ Some d → IsFirstOf d b) n ls new l h.count is
          (λ d ed. from_some (slice_get cs n) (λ d. IsFirstOf d l) d ed (subst (λ j. IfSome (slice_get cs j) (λ d. IsFirstOf d l)) at one))
          (λ y b eb d ed. h.each y d b ed eb) x m em c ec;
    }

pub prepared_more : (s : Scenario) (n k : ℕ) (ls : List Coded) (item : Coded) (code : ProgramCode) (ps new : List Prepared) (p : Prepared) → new ≡ ps ++ p ∷ []
    → k ≡ n → slice_get ls n ≡ Some item → code ≡ item.code
    → ((c : Component) (l : Coded) → slice_get (components s) k ≡ Some c → l.code ≡ code → IsPrepared s c l p)
    → ArePrepared s n ls ps → ArePrepared s (n + 1) ls new
prepared_more s n k ls item code ps new p is at there own one h =
    record {
      count = count_more n ps new p h.count is;
      each = λ x c l q ec el eq.
          each_more (λ y b. (d : Component) (m : Coded) → slice_get (components s) y ≡ Some d → slice_get ls y ≡ Some m → IsPrepared s d m b) n ps new p
          h.count is
          (λ d m ed em. one d m (ap (slice_get (components s)) at ∙ ed) (ap (λ (o : Coded). o.code) (some_same (sym em ∙ there)) ∙ sym own))
          (λ y b eb d m ed em. h.each y d m b ed em eb) x q eq c l ec el;
    }

-- the leaf that is reported is there, and its code is that of its program
pub item_at : (cs : List Component) (ls : List Coded) (n : ℕ) (item : Coded) → AreFirst cs (length cs) ls → n < length cs → item ≡ get_or ls n item
    → slice_get ls n ≡ Some item
item_at cs ls n item first less is =
    let count = first.count in
    let a = get_within ls n (omega (arith, less, count)) in
    item_there ls n a.0 item a.1 is

pub code_there : (cs : List Component) (ls : List Coded) (n : ℕ) (item : Coded) (code : ProgramCode) → AreFirst cs (length cs) ls → n < length cs
    → slice_get ls n ≡ Some item → code ≡ item.code → (k : ℕ) → k ≡ n → IfSome (slice_get cs k) (λ c. IsCodeOfProgram code c.node.program.sections)
code_there cs ls n item code first less there is k at =
    let c = get_within cs n less in
    let of : IsCodeOfProgram code c.0.node.program.sections =
    subst (λ (o : ProgramCode). IsCodeOfProgram o c.0.node.program.sections) (sym is) (first.each n c.0 item c.1 there).code in
    subst (λ j. IfSome (slice_get cs j) (λ d. IsCodeOfProgram code d.node.program.sections)) (sym at)
    (subst (λ (o : Option Component). IfSome o (λ d. IsCodeOfProgram code d.node.program.sections)) (sym c.1) of)
