-- A signal that is taken keeps worlds typed: the leaf stands at the start of the section for it.
use Rattle.std.proofs.Common.{◌≡◌, ℕ, List, [], length, Option, Some, Ok, refl, ap, sym, ◌∙◌, subst}
use Rattle.std.specs.Prelude.{slice_get}
use Rattle.gq_model.specs.declared.section.Section.{Section}
use Rattle.gq_model.specs.declared.section.Section.TheVariants.{Reacting}
use Rattle.gq_model.specs.declared.phase.Phase.TheVariants.{Handling}
use Rattle.gq_model.specs.machine.World.{Signal, Leaf, World, section_of}
use Rattle.gq_model.specs.machine.Doing.{Doing, standing}
use Rattle.gq_model.specs.machine.Step.{reacting_to}
use Rattle.gq_model.specs.rules.Kinds.{Kind, AbstractState, Subject}
use Rattle.gq_model.specs.rules.Flow.{flow, context, body, start_of}
use Rattle.gq_model.specs.rules.Use.{subject}
use Rattle.gq_model.specs.machine.Program.{body_of}
use Rattle.gq_model.proofs.Small_facts.{some_same}
use Rattle.gq_laws.specs.Current_section_facts.{within}
use Rattle.gq_laws.specs.Typed.{Meets}
use Rattle.gq_laws.specs.Inside_steps.{TakesLeaf}
use Rattle.gq_laws.specs.Section_rules.{Reacts, IsReadyFor}
use Rattle.gq_laws.specs.Typing.{Extra, IsInSection, StandsBy, IsTypedBy}
use Rattle.gq_laws.specs.internal.Carrying.{Carries}
use Rattle.gq_laws.proofs.session_links.Written_world_links.{set_here}
use Rattle.gq_laws.proofs.reply_rules.Ruled_reaction_start.{reacts}
use Rattle.gq_laws.proofs.typed_worlds.Main_end_typed.{standing_typed}

module _ (promised : ℕ → Option Kind) (before after : Extra) (d : Doing) (carries : Carries d.x before after) (takes : TakesLeaf d)
    (t : IsTypedBy promised before d.system d.world) (at : slice_get d.system.components d.x ≡ Some d.component)
    (eight : length d.component.node.program.locals ≡ 8) (i : ℕ) (signals : List Signal) (h : IsReadyFor promised (subject d.system d.component) i d)
    (end : AbstractState) (whole : flow (context (subject d.system d.component) (Reacting i)) (start_of (subject d.system d.component) (Reacting i))
    (body (subject d.system d.component) (Reacting i)) ≡ Ok end)
    (also : after d.x (Reacting i) (start_of (subject d.system d.component) (Reacting i)) (body (subject d.system d.component) (Reacting i)) []) where
  abbrev v : Subject
  v = subject d.system d.component

  abbrev leaf : Leaf
  leaf = reacting_to d.leaf i signals h.body.0

  abbrev w : World
  w = standing d leaf

  r : Reacts promised v i signals d w
  r = reacts promised d takes eight i signals h

  is : r.leaf ≡ leaf
  is = some_same (sym r.there ∙ set_here d.world.leaves d.x leaf takes.old takes.there)

  todo : h.body.0 ≡ body v (Reacting i)
  todo = sym (ap body_of h.body.1)

  same : Reacting i ≡ section_of d.leaf.current (Some i)
  same = ap (λ o. section_of o (Some i)) (sym h.current)

  stands : StandsBy promised after d.system w d.x d.component leaf Handling
  stands =
      subst (λ (s : Section). IsInSection promised after d.system w d.x d.component leaf Handling s) same
      (record {
        state = start_of v (Reacting i);
        next = start_of v (Reacting i);
        end = end;
        meets = subst (λ (l : Leaf). Meets promised (within (context v (Reacting i)) l.loops) (start_of v (Reacting i)) w l) is
            (subst (λ loops. Meets promised (within (context v (Reacting i)) loops) (start_of v (Reacting i)) w r.leaf) (sym r.loops) r.meets);
        from = refl;
        goes_on = (end, ap (flow (context v (Reacting i)) (start_of v (Reacting i))) todo ∙ whole, refl);
        whole = whole;
        listed = h.body;
        also = subst (λ o. after d.x (Reacting i) (start_of v (Reacting i)) o []) (sym todo) also;
      })

  pub signal_typed : IsTypedBy promised after d.system w
  signal_typed = standing_typed promised before after d carries takes t at h.current leaf h.current stands
