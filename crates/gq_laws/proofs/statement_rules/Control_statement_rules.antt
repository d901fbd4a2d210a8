-- Statements, choices and rounds inside a section lead on by the rules, and only want of quota stops them.
use Rattle.std.proofs.Common.{◌≡◌, ℕ, zero, suc, ◌<◌, ◌⊎◌, inl, inr, nat_lt, Bool, true, false, cond, List, [], ◌∷◌, Option, Some, None, Ok, refl, ap, sym}
use Rattle.std.proofs.Common.{subst}
use Rattle.std.proofs.lemmas.Bool.{ltb-true}
use Rattle.gq_model.specs.machine.Program.{Statements, Done, Do, If, Loop, ◌then◌}
use Rattle.gq_model.specs.declared.program.Instruction.{Instruction}
use Rattle.gq_model.specs.texts.Operands.{operands}
use Rattle.gq_model.specs.machine.World.{Current, Round, Leaf, World}
use Rattle.gq_model.specs.machine.Doing.{Doing, Stepped, Quiet, standing}
use Rattle.gq_model.specs.machine.Step.{instruct, chosen, body_ended, perform}
use Rattle.gq_model.specs.rules.Kinds.{Kind, AbstractState, Context}
use Rattle.gq_model.specs.rules.Rules.{judged}
use Rattle.gq_model.specs.rules.Flow.{flow, at, later, none_left}
use Rattle.gq_laws.specs.Current_section_facts.{Under, counts_of, within, Continues}
use Rattle.gq_laws.proofs.statement_rules.Branch_loop_flow.{if_ok, loop_enters, loop_again, loop_leaves}
use Rattle.gq_laws.specs.Moves.{Moves, Does, Chooses, Enters, Repeats, Leaves}
use Rattle.gq_laws.specs.Typed.{AreKinds, AreCounts, CurrentMeets, Meets}
use Rattle.gq_laws.specs.Inside_steps.{IsSafe, TakesLeaf, Grants, LeadsOn, IsInside, LeadsAsRuled}
use Rattle.gq_laws.proofs.session_links.Written_world_links.{set_here}
use Rattle.gq_laws.proofs.statement_rules.Ruled_step_shapes.{safe_gives, safe_pop, popped_there}
use Rattle.gq_laws.proofs.statement_rules.Statement_number_bounds.{under_top}
use Rattle.gq_laws.proofs.statement_rules.Ruled_slot_kinds.{meets_kept}
use Rattle.gq_laws.proofs.statement_rules.Ruled_statement_steps.{own_goes}
use Rattle.gq_model.proofs.Rules_laws.{then_ok, at_ok, later_ok, none_left_ok}

safe_more : {P Q : World → Type 0} (r : Stepped) → ((w : World) → P w → Q w) → IsSafe P r → IsSafe Q r
safe_more r more h = record { ends = λ w event e. more w (h.ends w event e); short = h.short }

-- the loops around say nothing of what is current
current_counts : (promised : ℕ → Option Kind) (c : Context) (counts : List ℕ) (kinds : List Kind) (w : World) (current : Option Current)
    → CurrentMeets promised c kinds w current → CurrentMeets promised (record c { counts = counts }) kinds w current
current_counts promised c counts kinds w None h = tt
current_counts promised c counts kinds w (Some g) h = (h.0, h.1, record { slots = h.2.slots; object = h.2.object })

chosen_flows : (c : Context) (s u : AbstractState) (arm other rest : Statements) (a : ℕ) → flow c s (arm then rest) ≡ Ok u → flow c s (other then rest) ≡ Ok u
    → flow c s (chosen a arm other then rest) ≡ Ok u
chosen_flows c s u arm other rest zero e f = f
chosen_flows c s u arm other rest (suc n) e f = e

either : (a : ℕ) (arm other rest : Statements) → ((chosen a arm other then rest) ≡ (arm then rest)) ⊎ ((chosen a arm other then rest) ≡ (other then rest))
either zero arm other rest = inr refl
either (suc n) arm other rest = inl refl

module _ (promised : ℕ → Option Kind) (c : Context) (d : Doing) (t : TakesLeaf d) (g : Grants promised c d) (state end : AbstractState)
    (h : Meets promised (within c d.leaf.loops) state d.world d.leaf) where
  Leads : Stepped → Type 0
  Leads r = IsSafe (LeadsOn promised c state end d) r

  -- the leaf goes on with other statements
  leads : (new : AbstractState) (leaf : Leaf) → Moves c state d.leaf.todo d.leaf.loops new leaf.todo leaf.loops → Meets promised (within c leaf.loops) new
      d.world leaf
      → Continues c new leaf.todo leaf.loops end → leaf.current ≡ d.leaf.current → leaf.reacting ≡ d.leaf.reacting → leaf.phase ≡ d.leaf.phase
      → Leads (Ok (standing d leaf, Quiet))
  unfolding Leads
  leads new leaf moves m goes current reacting phase =
      safe_gives (standing d leaf) Quiet
      (record {
        leaf = leaf;
        there = set_here d.world.leaves d.x leaf t.old t.there;
        state = new;
        meets = meets_kept promised (within c leaf.loops) new (standing d leaf) d.world leaf (λ k. refl) m;
        moves = moves;
        goes_on = goes;
        current = current;
        reacting = reacting;
        phase = phase;
      })

  -- where it stands in other loops
  stands_in : (new : AbstractState) (operands : List ℕ) (todo : Statements) (loops : List Round) → new.own ≡ state.own → new.bank ≡ state.bank
      → Under operands new.bounds → AreCounts loops (counts_of loops)
      → Meets promised (within c loops) new d.world (record d.leaf { operands = operands; todo = todo; loops = loops })
  stands_in new operands todo loops own bank u counts =
      record {
        own = subst (AreKinds promised d.leaf.slots) (sym own) h.own;
        current = h.current;
        bank = current_counts promised (within c d.leaf.loops) (counts_of loops) new.bank d.world d.leaf.current
            (subst (λ b. CurrentMeets promised (within c d.leaf.loops) b d.world d.leaf.current) (sym bank) h.bank);
        operands = u;
        locals = h.locals;
        loops = counts;
      }

  do_leads : (i : Instruction) (rest : Statements) → d.leaf.todo ≡ Do i rest → IsInside (Do i rest) d.leaf.loops
      → Continues c state (Do i rest) d.leaf.loops end → Leads (perform d (Do i rest))
  unfolding Leads
  do_leads i rest is inside goes =
      let k = within c d.leaf.loops in
      let e : Doing = record d { leaf = record d.leaf { todo = rest } } in
      let v = then_ok (at 1 (judged k state i)) (λ s. later 1 (flow k s rest)) goes.0 goes.1 in
      let flows = later_ok 1 (flow k v.0 rest) goes.0 v.2 in
      let taken : TakesLeaf e = record { old = t.old; there = t.there; slots = t.slots; phase = t.phase; current = t.current; reacting = t.reacting } in
      let granted : Grants promised k e =
      record { interfaces = g.interfaces; provided = g.provided; links = g.links; buffers = g.buffers; awake = g.awake; inputs = g.inputs } in
      let m : Meets promised k state d.world e.leaf = record {
        own = h.own;
        current = h.current;
        bank = h.bank;
        operands = h.operands;
        locals = h.locals;
        loops = h.loops;
      } in
      safe_more (instruct e i) (λ w s.
      record {
        leaf = s.leaf;
        there = s.there;
        state = v.0;
        meets = subst (λ l. Meets promised (within c l) v.0 w s.leaf) (sym s.loops) s.meets;
        moves = Does i rest is (at_ok 1 (judged k state i) v.0 v.1) s.todo s.loops;
        goes_on = subst (λ l. Continues c v.0 s.leaf.todo l end) (sym s.loops)
            (subst (λ todo. Continues c v.0 todo d.leaf.loops end) (sym s.todo) (goes.0, flows, goes.2));
        current = s.current;
        reacting = s.reacting;
        phase = s.phase;
      }) (own_goes promised k e taken granted state v.0 i inside.0 inside.1 m (at_ok 1 (judged k state i) v.0 v.1))

  if_leads : (arm other rest : Statements) → d.leaf.todo ≡ If arm other rest → Continues c state (If arm other rest) d.leaf.loops end
      → Leads (perform d (If arm other rest))
  unfolding Leads
  if_leads arm other rest is goes =
      let k = within c d.leaf.loops in
      let v = if_ok k state arm other rest goes.0 goes.1 in
      let p = popped_there state (λ a s. none_left s) v.0 v.1 in
      let n = none_left_ok (record state { bounds = p.1 }) v.0 p.3 in
      let a = under_top d.leaf.operands p.0 p.1 (subst (Under d.leaf.operands) p.2 h.operands) in
      let todo = chosen a.0 arm other then rest in
      let leaf : Leaf = record d.leaf { operands = a.1; todo = todo } in
      let m = stands_in v.0 a.1 todo d.leaf.loops (ap (λ (s : AbstractState). s.own) n.1) (ap (λ (s : AbstractState). s.bank) n.1)
      (subst (λ (s : AbstractState). Under a.1 s.bounds) (sym n.1) a.4) h.loops in
      safe_pop d.leaf.operands _ a.0 a.1 a.2 (leads v.0 leaf (Chooses arm other rest is v.1 (either a.0 arm other rest) refl) m
      (goes.0, chosen_flows k v.0 goes.0 arm other rest a.0 v.2 v.3, goes.2) refl refl refl)

  loop_leads : (n : ℕ) (body rest : Statements) → d.leaf.todo ≡ Loop n body rest → 0 < n → Continues c state (Loop n body rest) d.leaf.loops end
      → Leads (perform d (Loop n body rest))
  loop_leads n body rest is positive goes =
      let entered : Round = record { round = 0; count = n; body = body; rest = rest } in
      let loops = entered ∷ d.leaf.loops in
      leads state (record d.leaf { todo = body; loops = loops }) (Enters n body rest is refl refl refl)
      (stands_in state d.leaf.operands body loops refl refl h.operands (refl, positive, h.loops))
      (loop_enters c state n body rest d.leaf.loops end positive goes) refl refl refl

  body_leads : (loops : List Round) → d.leaf.todo ≡ Done → d.leaf.loops ≡ loops → IsInside Done loops → Continues c state Done loops end
      → Leads (body_ended d loops)
  body_leads [] is same inside goes = absurd inside
  body_leads (r ∷ loops) is same inside goes = by (nat_lt (suc r.round) r.count) refl
    where
      counts : AreCounts (r ∷ loops) (counts_of (r ∷ loops))
      counts = subst (λ l. AreCounts l (counts_of l)) same h.loops

      by : (b : Bool) → nat_lt (suc r.round) r.count ≡ b
          → Leads (Ok (
            standing d (cond b (record d.leaf { todo = r.body; loops = record r { round = suc r.round } ∷ loops })
                (record d.leaf { todo = r.rest; loops = loops })),
            Quiet,
          ))
      by true e =
          let more = ltb-true (suc r.round) r.count e in
          leads state (record d.leaf { todo = r.body; loops = record r { round = suc r.round } ∷ loops }) (Repeats r loops is same refl more refl refl)
          (stands_in state d.leaf.operands r.body (record r { round = suc r.round } ∷ loops) refl refl h.operands (refl, more, counts.2))
          (loop_again c state r loops end more goes) refl refl refl
      by false e =
          leads state (record d.leaf { todo = r.rest; loops = loops }) (Leaves r loops is same refl refl refl)
          (stands_in state d.leaf.operands r.rest loops refl refl h.operands counts.2) (loop_leaves c state r loops end goes) refl refl refl

  all_lead : (todo : Statements) → d.leaf.todo ≡ todo → IsInside todo d.leaf.loops → Continues c state todo d.leaf.loops end → Leads (perform d todo)
  all_lead Done is inside goes = body_leads d.leaf.loops is refl inside goes
  all_lead (Do i rest) is inside goes = do_leads i rest is inside goes
  all_lead (If arm other rest) is inside goes = if_leads arm other rest is goes
  all_lead (Loop n body rest) is inside goes = loop_leads n body rest is inside goes

pub leads_on : (promised : ℕ → Option Kind) (c : Context) (d : Doing) → TakesLeaf d → Grants promised c d → LeadsAsRuled promised c d
unfolding Leads
leads_on promised c d t g state end inside h goes = all_lead promised c d t g state end h d.leaf.todo refl inside goes
