-- What was noted of a world, after a step that leaves its leaf in its phase: of the sessions nothing is reported of it, and of the accounts that of the leaf
-- alone, where it holds more or less.
use Rattle.std.proofs.Common.{◌≡◌, ◌∙◌, ◌<◌, ℕ, true, List, [], ◌++◌, length, map, Option, Some, None, Ok, refl, ap, sym, subst, arith, append-nil, get_or, max}
use Rattle.std.proofs.Common.{option_map}
use Rattle.std.proofs.Math.Logic.{∥∥₁_elim}
use Rattle.std.proofs.lemmas.Bool.{and_parts, eqb-true}
use Rattle.std.proofs.lemmas.Option.{slice_get-map}
use Rattle.std.specs.Coded.{Coded, Coded-set, coded_list, coded_ℕ, codes}
use Rattle.std.specs.Prelude.{if◌then◌else◌, slice_get, slice_set}
use Rattle.gq_model.specs.machine.Accounts.{Account, leaf_count}
use Rattle.gq_model.specs.machine.Doing.{Event}
use Rattle.gq_model.specs.machine.Run.{line_of}
use Rattle.gq_model.specs.machine.Scenario.{Scenario, components, system}
use Rattle.gq_model.specs.machine.Step.{next}
use Rattle.gq_model.specs.machine.Step_budgets.{all_steps_in}
use Rattle.gq_model.proofs.Small_facts.{none_some, some_same}
use Rattle.gq_model.specs.machine.World as model
use Rattle.gq_laws.specs.Stands.{Stands}
use Rattle.gq_scenario.specs.Sizes.{leaf_places}
use Rattle.gq_scenario.proofs.Preorder_leaves.{components-count}
use Rattle.gq_output.specs.Account_values.{AccountValues}
use Rattle.gq_machine.specs.Machines.{Machine}
use Rattle.gq_world.specs.Account_lines.{all_accounts}
use Rattle.gq_world.specs.World_between_turns.{World}
use Rattle.gq_traces.specs.Trace.{Standing, PrintedSession, account_change, account_changes, accounts_in, changes, same_phase, same_standing, standing_of}
use Rattle.gq_traces.specs.Trace.{printed_session}
use Rattle.gq_model.specs.machine.Amounts.{same_amount, counts_caps}
use Rattle.gq_traces.specs.declared.noted.PrintedState.{PrintedState}
use Rattle.gq_traces.specs.declared.noted.Use.{Use}
use Rattle.gq_traces.specs.internal.Noted.{AreNoted, IsRenewed, IsReported, IsUse, standing_in}
use Rattle.gq_traces.specs.internal.Printed_steps.{budgets_of}
use Rattle.gq_traces.proofs.Accounts_by_budgets.{seen, seen_at, standing_free}
use Rattle.gq_traces.proofs.Same_phase_step.{LeavesAll, leaves_all}
use Rattle.gq_traces.proofs.Leaves_standing.{from_some}
use Rattle.gq_traces.proofs.One_else.{IsThere, OneElse, accounts_but, one_change, one_noted}
use Rattle.gq_traces.proofs.Printed_values_equal.{phase_is}
use Rattle.gq_traces.proofs.Sound_world_leaves.{there_is}
use Rattle.gq_traces.proofs.Unchanged_accounts_step.{SamePhase, StaysSo, accounts_stand, no_account_changes, no_session_changes, printed_same}

standings_code : Coded (List Standing)
standings_code = hlevel codes

printed_code : Coded (Option PrintedSession)
printed_code = hlevel codes

-- a world by its machine
pub use_in : (m : Machine) (w : World) (x : ℕ) (u : Use) → m ≡ record { scenario = w.scenario; world = w.world } → IsUse m.scenario m.world x u
    → IsUse w.scenario w.world x u
use_in m w x u is h = subst (λ (n : Machine). IsUse n.scenario n.world x u) is h

-- what was read of a leaf before a step, where the same is read of it after the step
pub use_still : (s : Scenario) (w : model.World) (x : ℕ) (a b : Use) → IsUse s w x b → same_phase a.phase b.phase ≡ true → same_amount a.used b.used ≡ true
    → IsUse s w x a
use_still s w x a b h e f =
    let q = and_parts _ _ f in
    record {
      leaf = h.leaf;
      there = h.there;
      phase = phase_is a.phase b.phase e ∙ h.phase;
      ram = eqb-true a.used.ram b.used.ram q.0 ∙ h.ram;
      caps = λ two. eqb-true a.used.caps b.used.caps q.1 ∙ h.caps two;
    }

-- the leaf by what was read of it before and after a step
same_phase_of : (old new : World) (x : ℕ) (a b : Use) → IsUse old.scenario old.world x a → IsUse new.scenario new.world x b
    → same_phase a.phase b.phase ≡ true → SamePhase old.world new.world x
same_phase_of old new x a b g h e =
    record {
      was = g.leaf;
      there = g.there;
      is = h.leaf;
      here = h.there;
      phase = sym h.phase ∙ (sym (phase_is a.phase b.phase e) ∙ g.phase);
    }

stays_so : (old new : World) (x : ℕ) (a b : Use) (g : IsUse old.scenario old.world x a) (h : IsUse new.scenario new.world x b)
    (e : same_phase a.phase b.phase ≡ true) → new.scenario ≡ old.scenario → same_amount a.used b.used ≡ true
    → StaysSo old.scenario.version old.world new.world x (same_phase_of old new x a b g h e)
unfolding same_phase_of
stays_so old new x a b g h e same f =
    let q = and_parts _ _ f in
    record {
      used = sym h.ram ∙ (sym (eqb-true a.used.ram b.used.ram q.0) ∙ g.ram);
      caps = λ two. sym (h.caps (ap (λ (s : Scenario). counts_caps s.version) same ∙ two)) ∙ (sym (eqb-true a.used.caps b.used.caps q.1) ∙ g.caps two);
    }

module _ (old new : World) (x : ℕ) (event : Event) (stands : ∥ Stands old.scenario old.world ∥₁) (same : new.scenario ≡ old.scenario)
    (goes : next (system old.scenario) old.world x ≡ Ok (new.world, event)) (p : SamePhase old.world new.world x) where
  left : Stands old.scenario old.world → LeavesAll old.world x new.world
  left h = leaves_all old.scenario old.world x h p.was p.there new.world event goes p.is p.here p.phase

  printed_still : (k : ℕ) → printed_session new.world k ≡ printed_session old.world k
  printed_still k = ∥∥₁_elim stands (Coded-set printed_code _ _) (λ h. printed_same old.world x new.world (left h) k)

  count_still : length new.world.sessions ≡ length old.world.sessions
  count_still = ∥∥₁_elim stands (Coded-set coded_ℕ _ _) (λ h. (left h).count)

  -- the sessions are noted of the new world, too, and so are these accounts
  noted_then : (n m : PrintedState) → AreNoted old.scenario old.world n → m.sessions ≡ n.sessions → m.count ≡ n.count
      → map standing_in m.accounts.items ≡ map standing_of (accounts_in old.scenario new.world (budgets_of old.scenario))
      → AreNoted new.scenario new.world m
  noted_then n m h sessions count of_accounts =
      subst (λ (s : Scenario). AreNoted s new.world m) (sym same) (record {
        accounts = of_accounts;
        sessions = λ k less. (let t = h.sessions k less in
            subst (IsReported old.scenario new.world k) (ap (λ l. get_or l.items k None) (sym sessions))
            (record { is = t.is ∙ sym (printed_still k); known = t.known }));
        room = ap (λ l. length l.items) sessions ∙ h.room;
        count = count ∙ (h.count ∙ sym count_still);
        few = (let few = h.few in omega (arith, few, count));
        beyond = λ k over. ap (λ l. get_or l.items k None) sessions ∙ h.beyond k (omega (arith, over, count));
      })

  -- what is reported beside the line is of accounts
  changes_by : (label reported : List ℕ)
      → account_changes old.scenario.version (map standing_of (accounts_in old.scenario old.world (budgets_of old.scenario)))
      (accounts_in old.scenario new.world (budgets_of old.scenario)) ≡ reported
      → changes old.scenario (budgets_of old.scenario) label old.world new.world event ≡ line_of label event ++ reported
  changes_by label reported e =
      let s = old.scenario in
      let of_sessions = no_session_changes s.version (system s) old.world new.world printed_still 0
      (max (length old.world.sessions) (length new.world.sessions)) in
      (λ i. line_of label event ++ e i ++ of_sessions i) ∙ append-nil (line_of label event ++ reported)

  -- THE LEAF HOLDS WHAT IT HELD

  module _ (so : StaysSo old.scenario.version old.world new.world x p) where
    accounts_still : map standing_of (accounts_in old.scenario new.world (budgets_of old.scenario))
        ≡ map standing_of (accounts_in old.scenario old.world (budgets_of old.scenario))
    accounts_still =
        let b = budgets_of old.scenario in
        standing_free old.scenario new.world (all_steps_in new.world b) (all_steps_in old.world b)
        ∙ ∥∥₁_elim stands (Coded-set standings_code _ _) (λ h. accounts_stand old.scenario old.world x new.world (left h) p so (all_steps_in old.world b))

    noted_still : (n : PrintedState) → AreNoted old.scenario old.world n → AreNoted new.scenario new.world n
    noted_still n h = noted_then n n h refl refl (h.accounts ∙ sym accounts_still)

    changes_still : (label : List ℕ) → changes old.scenario (budgets_of old.scenario) label old.world new.world event ≡ line_of label event
    changes_still label =
        let s = old.scenario in
        let b = budgets_of s in
        changes_by label [] (ap (λ l. account_changes s.version l (accounts_in s new.world b)) (sym accounts_still)
        ∙ no_account_changes s.version (accounts_in s new.world b)) ∙ append-nil (line_of label event)

  -- IT HOLDS MORE OR LESS

  module _ (was_all : length old.world.leaves ≡ length (components old.scenario)) (is_all : length new.world.leaves ≡ length (components new.scenario))
      (place : ℕ) (at : slice_get (leaf_places 1 old.scenario.nodes) x ≡ Some place) (a : Account)
      (there : slice_get (accounts_in old.scenario new.world (budgets_of old.scenario)) place ≡ Some a) where
    each_there : (h : LeavesAll old.world x new.world) (z : ℕ) → z < leaf_count old.scenario.nodes
        → IsThere old.scenario.version old.world x new.world h (system old.scenario) (all_steps_in old.world (budgets_of old.scenario)) z
    each_there h z less =
        let count = components-count old.scenario in
        let same_count = ap (λ (s : Scenario). length (components s)) same in
        let c = there_is (components old.scenario) z (omega (arith, less, count)) in
        let l = there_is old.world.leaves z (omega (arith, less, count, was_all)) in
        let m = there_is new.world.leaves z (omega (arith, less, count, is_all, same_count)) in
        record { component = c.0; at = c.1; was = l.0; there = l.1; is = m.0; here = m.1 }

    but : (h : LeavesAll old.world x new.world) → OneElse (map standing_of (accounts_in old.scenario old.world (budgets_of old.scenario)))
        (map standing_of (accounts_in old.scenario new.world (budgets_of old.scenario))) place
    but h =
        let s = old.scenario in
        let b = all_steps_in old.world (budgets_of s) in
        subst (λ l. OneElse (map standing_of (accounts_in s old.world (budgets_of s))) l place)
        (standing_free s new.world b (all_steps_in new.world (budgets_of s)))
        (accounts_but s old.world x new.world h b place at (each_there h))

    changes_own : (n : PrintedState) → AreNoted old.scenario old.world n → (noted : AccountValues) → slice_get n.accounts.items place ≡ Some noted →
        (label : List ℕ)
        → changes old.scenario (budgets_of old.scenario) label old.world new.world event
        ≡ line_of label event ++ account_change old.scenario.version (standing_in noted) a
    changes_own n h noted before label =
        let s = old.scenario in
        let b = budgets_of s in
        let was : slice_get (map standing_of (accounts_in s old.world b)) place ≡ Some (standing_in noted) =
        ap (λ l. slice_get l place) (sym h.accounts) ∙ (slice_get-map standing_in n.accounts.items place ∙ ap (option_map standing_in) before) in
        changes_by label (account_change s.version (standing_in noted) a) (∥∥₁_elim stands (Coded-set (coded_list coded_ℕ) _ _) (λ h.
        one_change s.version (map standing_of (accounts_in s old.world b)) (accounts_in s new.world b) place (but (left h)) (standing_in noted) a was there))

    noted_own : (n m : PrintedState) → AreNoted old.scenario old.world n → m.sessions ≡ n.sessions → m.count ≡ n.count → (now : AccountValues) → standing_in
        now ≡ standing_of a
        → m.accounts.items ≡ slice_set n.accounts.items place now → AreNoted new.scenario new.world m
    noted_own n m h sessions count now is set =
        let s = old.scenario in
        let b = budgets_of s in
        noted_then n m h sessions count (ap (map standing_in) set ∙ ∥∥₁_elim stands (Coded-set standings_code _ _) (λ t.
        one_noted standing_in n.accounts.items (accounts_in s new.world b) place
        (subst (λ l. OneElse l (map standing_of (accounts_in s new.world b)) place) (sym h.accounts) (but (left t))) now a there is))

-- a step that leaves its leaf in its phase with what it holds
pub step_left : (old new : World) (x : ℕ) (event : Event) (m n : Machine) (a b : Use) → ∥ Stands old.scenario old.world ∥₁ → new.scenario ≡ old.scenario
    → next (system old.scenario) old.world x ≡ Ok (new.world, event) → m ≡ record { scenario = old.scenario; world = old.world }
    → n ≡ record { scenario = new.scenario; world = new.world } → IsUse m.scenario m.world x a → IsUse n.scenario n.world x b
    → same_phase a.phase b.phase ≡ true → same_amount a.used b.used ≡ true → (notes : PrintedState) → AreNoted old.scenario old.world notes
    → (label : List ℕ)
    → AreNoted new.scenario new.world notes
    × (changes old.scenario (budgets_of old.scenario) label old.world new.world event ≡ line_of label event)
step_left old new x event m n a b stands same goes m_is n_is g h phase used notes noted label =
    let u = use_in m old x a m_is g in
    let v = use_in n new x b n_is h in
    let p = same_phase_of old new x a b u v phase in
    let so = stays_so old new x a b u v phase same used in
    (noted_still old new x event stands same goes p so notes noted, changes_still old new x event stands same goes p so label)

-- in its phase alone
pub step_own : (old new : World) (x : ℕ) (event : Event) (m n : Machine) (a b : Use) → ∥ Stands old.scenario old.world ∥₁ → new.scenario ≡ old.scenario
    → next (system old.scenario) old.world x ≡ Ok (new.world, event) → m ≡ record { scenario = old.scenario; world = old.world }
    → n ≡ record { scenario = new.scenario; world = new.world } → IsUse m.scenario m.world x a → IsUse n.scenario n.world x b
    → same_phase a.phase b.phase ≡ true → length old.world.leaves ≡ length (components old.scenario)
    → length new.world.leaves ≡ length (components new.scenario) → (before after : PrintedState) → AreNoted old.scenario old.world before
    → (place : ℕ) → slice_get (leaf_places 1 new.scenario.nodes) x ≡ Some place → (account : Account) → slice_get (all_accounts new) place ≡ Some account
    → (was : AccountValues) → slice_get before.accounts.items place ≡ Some was → IsRenewed new place before after → (label : List ℕ)
    → AreNoted new.scenario new.world after
    × (changes old.scenario (budgets_of old.scenario) label old.world new.world event
    ≡ line_of label event ++ account_change old.scenario.version (standing_in was) account)
step_own old new x event m n a b stands same goes m_is n_is g h phase was_all is_all before after noted place at account there was was_there renewed label =
    let u = use_in m old x a m_is g in
    let v = use_in n new x b n_is h in
    let p = same_phase_of old new x a b u v phase in
    let at_old = ap (λ (s : Scenario). slice_get (leaf_places 1 s.nodes) x) (sym same) ∙ at in
    let exact = seen_there new.scenario.version (slice_get (accounts_in new.scenario new.world (budgets_of new.scenario)) place) account
    (seen_at new place account there) in
    let there_old = ap (λ (s : Scenario). slice_get (accounts_in s new.world (budgets_of s)) place) (sym same) ∙ exact.1 in
    let now = from_some (slice_get (all_accounts new) place) (λ z. standing_in renewed.now ≡ standing_of z) account there renewed.is
    ∙ ap (λ (z : Standing × List ℕ). z.0) (sym exact.2) in
    let version = ap (λ (s : Scenario). s.version) same in (
      noted_own old new x event stands same goes p was_all is_all place at_old exact.0 there_old before after noted renewed.sessions renewed.count
          renewed.now now renewed.accounts,
      changes_own old new x event stands same goes p was_all is_all place at_old exact.0 there_old before noted was was_there label
          ∙ ap (λ l. line_of label event ++ l) (ap (λ k. account_change k (standing_in was) exact.0) (sym version)
          ∙ change_seen new.scenario.version (standing_in was) exact.0 account exact.2 ∙ ap (λ k. account_change k (standing_in was) account) version),
    )
  where
    -- an account that is seen as another is
    seen_there : (version : ℕ) (o : Option Account) (a : Account) → option_map (seen version) o ≡ Some (seen version a)
        → (c : Account) × (o ≡ Some c) × (seen version c ≡ seen version a)
    seen_there version None a e = absurd (none_some e)
    seen_there version (Some c) a e = (c, refl, some_same e)

    change_seen : (version : ℕ) (old : Standing) (a b : Account) → seen version a ≡ seen version b → account_change version old a ≡ account_change version old b
    change_seen version old a b e = ap (λ (p : Standing × List ℕ). if same_standing old p.0 then [] else p.1) e
