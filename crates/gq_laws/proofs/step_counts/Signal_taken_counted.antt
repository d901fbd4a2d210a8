-- A signal that is taken pays for its section, and keeps worlds counted.
use Rattle.std.proofs.Common.{◌≡◌, ◌≢◌, ◌≤◌, ℕ, zero, suc, ◌+◌, ◌==◌, ◌&&◌, inl, inr, cond, Bool, true, false, List, [], Option, Some, Ok, refl, ap, sym, ◌∙◌}
use Rattle.std.proofs.Common.{subst, arith}
use Rattle.std.specs.Prelude.{slice_get}
use Rattle.std.proofs.lemmas.Bool.Decides.{eqb_tells}
use Rattle.gq_model.specs.declared.section.Section.{Section}
use Rattle.gq_model.specs.declared.section.Section.TheVariants.{Main, Opening, Upgrading, Calling, Closing, Reacting}
use Rattle.gq_model.specs.declared.phase.Phase.TheVariants.{Serving}
use Rattle.gq_model.specs.machine.Program.{section_in}
use Rattle.gq_model.specs.machine.Sections.{same_section, is_own_section}
use Rattle.gq_model.specs.machine.World.{Signal, Leaf, World}
use Rattle.gq_model.specs.machine.Doing.{Doing, Event, Quiet, standing}
use Rattle.gq_model.specs.machine.Step.{first_signal, reacting_to, take_signal}
use Rattle.gq_model.specs.rules.Kinds.{Kind, Subject}
use Rattle.gq_model.specs.rules.Use.{subject}
use Rattle.gq_laws.specs.Session_links.{IsLinkedWorld}
use Rattle.gq_laws.specs.Inside_steps.{TakesLeaf}
use Rattle.gq_laws.specs.Typing.{IsTypedBy}
use Rattle.gq_laws.specs.internal.Section_counts.{Often, Requests, one_at, waiting, Within, Since, times_taken, taken_of, taken_in, Counts, IsCounted}
use Rattle.gq_laws.proofs.step_shapes.Step_end_shapes.{Ends, gives, need_found}
use Rattle.gq_laws.proofs.step_shapes.Signal_lists.{Takes, takes_first}
use Rattle.gq_laws.proofs.session_links.Written_world_links.{set_here, set_else}
use Rattle.gq_laws.proofs.verified_programs.Sure_system_facts.{IsSure}
use Rattle.gq_laws.proofs.typed_worlds.Typed_world_step.{reacted_typed}
use Rattle.gq_laws.proofs.step_counts.Counted_world_step.{Spends, spends_counted}
use Rattle.gq_laws.proofs.step_counts.Inside_step_counted.{IsOneOn}
use Rattle.gq_laws.proofs.step_counts.Section_begun_counted.{Begun, leaves, new, pays, carries, within_new}
use Rattle.gq_laws.proofs.step_counts.Section_request_sums.{one_here}

-- a section for a request is none for a signal
not_signal : (x i y : ℕ) (q : Section) → is_own_section q ≡ false → one_at x (Reacting i) y q ≡ 0
not_signal x i y q other = by (x == y) (same_section q (Reacting i)) (differs q other)
  where
    differs : (q : Section) → is_own_section q ≡ false → same_section q (Reacting i) ≡ false
    differs Main e = absurd cc
    differs Opening e = refl
    differs (Upgrading l) e = refl
    differs (Calling l) e = refl
    differs (Closing l) e = refl
    differs (Reacting j) e = absurd cc

    by : (a b : Bool) → b ≡ false → ◌≡◌ {A = ℕ} (cond (a && b) 1 0) 0
    by true b e = ap (λ b. cond b 1 0) e
    by false b e = refl

not_main : (x i y : ℕ) → one_at x (Reacting i) y Main ≡ 0
not_main x i y = by (x == y)
  where
    by : (a : Bool) → ◌≡◌ {A = ℕ} (cond (a && false) 1 0) 0
    by true = refl
    by false = refl

-- of one leaf and one signal
one_most : (a b : Bool) → cond (a && b) 1 0 ≤ 1
one_most true true = omega arith
one_most true false = omega arith
one_most false b = omega arith

module _ (promised : ℕ → Option Kind) (left : Requests) (d : Doing) (sure : IsSure d.system) (takes : TakesLeaf d) (h : IsLinkedWorld d.system d.world)
    (t : IsTypedBy promised (Within d.system left) d.system d.world) (at : slice_get d.system.components d.x ≡ Some d.component)
    (own : IsOneOn d takes) (serves : d.leaf.phase ≡ Serving) (p : ℕ × List Signal) (first : first_signal d.leaf.signals ≡ Some p) where
  abbrev i : ℕ
  i = p.0

  abbrev section : Section
  section = Reacting i

  taken : Takes d.leaf.signals p
  taken = takes_first d.leaf.signals p first

  was : taken_in d.world d.x ≡ times_taken d.leaf.signals
  was = (λ k j. taken_of (takes.there k) j) ∙ ap (λ (l : Leaf). times_taken l.signals) (sym own)

  module _ (w : World) (begun : Begun d section w) (signals : begun.leaf.signals ≡ p.1) (requests : (y : ℕ) (q : Section) → waiting w y q ≡ waiting d.world y q)
    where
      abbrev then_left : Requests
      then_left = new left d takes at own w section begun

      here : (j : ℕ) → one_at d.x section d.x (Reacting j) + taken_in d.world d.x j ≤ taken_in w d.x j
      here j =
          let before : taken_in d.world d.x j ≡ times_taken d.leaf.signals j = ap (λ f. f j) was in
          let now : taken_in w d.x j ≡ times_taken p.1 j = ap (λ o. taken_of o j) begun.there ∙ ap (λ l. times_taken l j) signals in
          elim (eqb_tells j i) [
            | inl e ↦ (
                let most = one_most (d.x == d.x) (j == i) in
                let more = taken.here in
                let a = ap (times_taken p.1) e.1 in
                let b = ap (times_taken d.leaf.signals) e.1 in
                omega (arith, before, now, most, more, a, b))
            | inr e ↦ (
                let none : one_at d.x section d.x (Reacting j) ≡ 0 = by (d.x == d.x) (j == i) e.0 in
                let same = taken.else j e.1 in
                omega (arith, before, now, none, same))
          ]
        where
          by : (a b : Bool) → b ≡ false → ◌≡◌ {A = ℕ} (cond (a && b) 1 0) 0
          by true b e = ap (λ b. cond b 1 0) e
          by false b e = refl

      reacts : (y j : ℕ) → one_at d.x section y (Reacting j) + taken_in d.world y j ≤ taken_in w y j
      reacts y j = elim (eqb_tells y d.x) [
        | inl e ↦ subst (λ y. one_at d.x section y (Reacting j) + taken_in d.world y j ≤ taken_in w y j) (sym e.1) (here j)
        | inr e ↦ (
            let none : one_at d.x section y (Reacting j) ≡ 0 = by (d.x == y) (j == i) (λ same. e.1 (sym same)) in
            let same = ap (λ o. taken_of o j) (begun.leaves y e.1) in
            omega (arith, none, same))
      ]
        where
          by : (a b : Bool) → (d.x ≡ y → ⊥) → one_at d.x section y (Reacting j) ≡ 0
          by a b ne = elim (eqb_tells d.x y) [
            | inl e ↦ absurd (ne e.1)
            | inr e ↦ ap (λ c. cond (c && (j == i)) 1 0) e.0
          ]

      spends : Spends d.system d.world w left then_left
      spends = record {
        begun = one_at d.x section;
        more = one_at d.x section;
        further = λ y service q. 0;
        waits = λ y q. (let same = requests y q in omega (arith, same));
        no_main = not_main d.x i;
        reacts = reacts;
        covered = λ y q other. (let none = not_signal d.x i y q other in omega (arith, none));
        leaves = leaves left d takes at own w section begun;
        pays = pays left d takes at own w section begun;
      }

      taken_by : (event : Event) → take_signal d i p.1 ≡ Ok (w, event) → (since : Since) (done : Often) (made : Requests)
          → Counts since done made left d.system d.world → IsCounted since d.system w
      taken_by event is since done made counts =
          spends_counted since done made left then_left d.system d.world w counts spends promised
          (reacted_typed promised (Within d.system left) d sure takes h t at (Within d.system then_left) (carries left d takes at own w section begun) w serves
          i p.1
          event is (λ list listed. within_new left d takes at own w section begun))

  pub reacted_counted : (w : World) (event : Event) → take_signal d i p.1 ≡ Ok (w, event) → (since : Since) (done : Often) (made : Requests)
      → Counts since done made left d.system d.world → IsCounted since d.system w
  reacted_counted w event is since done made counts = by.holds w event is is
    where
      by : Ends (λ w. take_signal d i p.1 ≡ Ok (w, event) → IsCounted since d.system w) (take_signal d i p.1)
      by = need_found (λ w. take_signal d i p.1 ≡ Ok (w, event) → IsCounted since d.system w) _ _ _ (λ list listed.
          let leaf = reacting_to d.leaf i p.1 list in
          gives (standing d leaf) Quiet (λ is. taken_by (standing d leaf) (record {
            list = list;
            listed = listed;
            costs = refl;
            leaf = leaf;
            there = set_here d.world.leaves d.x leaf takes.old takes.there;
            steps = refl;
            whole = omega arith;
            leaves = λ y ne. set_else d.world.leaves d.x y leaf ne;
          }) refl (λ y q. refl) event is since done made counts))
