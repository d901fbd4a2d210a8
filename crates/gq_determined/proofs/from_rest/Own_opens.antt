-- A leaf that does a section for a session opens no session in an own slot: none is changed but in `main`.
use Rattle.std.proofs.Common.{◌≡◌, ℕ, true, List, Some, Ok, refl, ap, sym, ◌∙◌, subst}
use Rattle.std.specs.Prelude.{slice_get}
use Rattle.std.proofs.lemmas.Bool.{true≢false}
use Rattle.gq_model.specs.declared.phase.Phase.{Phase}
use Rattle.gq_model.specs.declared.phase.Phase.TheVariants.{Pending, Running, Blocked, Serving, Handling, Exited}
use Rattle.gq_model.specs.declared.program.Instruction.TheVariants.{Open}
use Rattle.gq_model.specs.declared.program.OperandSlot.TheVariants.{Own}
use Rattle.gq_model.specs.declared.section.Section.{Section}
use Rattle.gq_model.specs.declared.section.Section.TheVariants.{Main, Opening, Upgrading, Calling, Closing, Reacting}
use Rattle.gq_model.specs.machine.Program.{Statements, Do}
use Rattle.gq_model.specs.machine.Scenario.{Component, Scenario, System, system}
use Rattle.gq_model.specs.machine.Sections.{is_start_section}
use Rattle.gq_model.specs.machine.World.{Current, Leaf, World, section_of}
use Rattle.gq_model.specs.rules.Flow.{context}
use Rattle.gq_model.specs.rules.Kinds.{AbstractState, Context, kind_at}
use Rattle.gq_model.specs.rules.Rules.{is_empty_kind, judged, may_change}
use Rattle.gq_model.specs.rules.Use.{subject}
use Rattle.gq_model.proofs.Rules_laws.{must_holds}
use Rattle.gq_laws.specs.Current_section_facts.{Continues, within}
use Rattle.gq_laws.specs.Session_links.{Fits, IsAt, stance, stance_in}
use Rattle.gq_laws.specs.Stands.{Stands}
use Rattle.gq_laws.specs.Typing.{IsInSection, StandsBy}
use Rattle.gq_laws.specs.internal.Uncounted.{uncounted}
use Rattle.gq_laws.specs.internal.Verified_holdings.{IsBounded}
use Rattle.gq_laws.proofs.statement_rules.Branch_loop_flow.{do_ok}
use Rattle.gq_laws.proofs.statement_rules.Ruled_step_shapes.{given_there, judged_alone}

-- a statement that opens a session in an own slot stands in `main`
may_open : (c : Context) (s t : AbstractState) (a : ℕ) (service : List ℕ) (n : ℕ) → judged c s (Open (Own a) service n) ≡ Ok t
    → is_start_section c.section ≡ true
may_open c s t a service n e =
    let o = given_there (kind_at c s (Own a)) _ _ t (judged_alone c s (Open (Own a) service n) t e) in
    let empty = must_holds (is_empty_kind o.0) _ _ t o.2 in (must_holds (may_change c (Own a)) _ _ t empty.1).0

-- a section that is done for a session is another
not_start : (section : Section) (level : ℕ) → IsAt section level → is_start_section section ≡ true → ⊥
not_start Main level at e = at
not_start Opening level at e = true≢false (sym e)
not_start (Upgrading l) level at e = true≢false (sym e)
not_start (Calling l) level at e = true≢false (sym e)
not_start (Closing l) level at e = true≢false (sym e)
not_start (Reacting i) level at e = at

module _ (s : Scenario) (w : World) (h : Stands s w) (x : ℕ) (c : Component) (leaf : Leaf) (component : slice_get (uncounted (system s)).components x ≡ Some c)
    (there : slice_get w.leaves x ≡ Some leaf) (q : Current) (current : leaf.current ≡ Some q) where
  abbrev u : System
  u = uncounted (system s)

  stood : stance_in (slice_get w.leaves x) ≡ Some (stance leaf.phase (Some q))
  stood = ap stance_in there ∙ ap (λ o. Some (stance leaf.phase o)) current

  module _ (a : ℕ) (service : List ℕ) (n : ℕ) (rest : Statements) (first : leaf.todo ≡ Do (Open (Own a) service n) rest) where
    in_section : (p : Phase) → IsInSection h.promised (IsBounded u) u w x c leaf p (section_of leaf.current leaf.reacting) → ⊥
    in_section p i =
        let m = h.linked.handles x leaf.phase q stood in
        let goes = subst (λ t. Continues (context (subject u c) (section_of leaf.current leaf.reacting)) i.next t leaf.loops i.end) first i.goes_on in
        let o = do_ok (context (subject u c) (section_of leaf.current leaf.reacting)) i.next i.end (Open (Own a) service n) rest leaf.loops goes in
        let may = may_open (within (context (subject u c) (section_of leaf.current leaf.reacting)) leaf.loops) i.next o.0 a service n o.1 in
        not_start q.section m.0.level m.4 (ap (λ o. is_start_section (section_of o leaf.reacting)) (sym current) ∙ may)

    none_fits : (p : Phase) → leaf.phase ≡ p → Fits p (Some q)
    none_fits p e = subst (λ p. Fits p (Some q)) e (h.linked.fits x (stance leaf.phase (Some q)) stood)

    pub opens_elsewhere : ⊥
    opens_elsewhere = by leaf.phase refl (h.typed.leaves x c leaf component there)
      where
        by : (p : Phase) → leaf.phase ≡ p → StandsBy h.promised (IsBounded u) u w x c leaf p → ⊥
        by Handling e i = in_section Handling i
        by Blocked e i = in_section Blocked i
        by Pending e i = none_fits Pending e
        by Running e i = none_fits Running e
        by Serving e i = none_fits Serving e
        by Exited e i = none_fits Exited e
