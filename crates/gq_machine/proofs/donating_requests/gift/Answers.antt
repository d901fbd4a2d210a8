-- What is given with an upgrade.
use Rattle.std.proofs.Common.{◌≡◌, ℕ, Option, Some, None, refl, sym, ap, subst, ◌∙◌}
use Rattle.std.specs.Prelude.{slice_get, IfSome, IsTrue}
use Rattle.gq_tariff.specs.declared.amount.Amount.{Amount}
use Rattle.gq_model.specs.declared.program.Instruction.TheVariants as instruction
use Rattle.gq_model.specs.machine.Amounts.{amount}
use Rattle.gq_model.specs.machine.Doing.{Doing}
use Rattle.gq_model.specs.machine.Scenario.{interface_in, system, upgrade_caps}
use Rattle.gq_model.specs.machine.World as world
use Rattle.gq_model.specs.texts.Operands.{is_slot}
use Rattle.gq_model.proofs.Small_facts.{none_some, some_same}
use Rattle.gq_bytecode.specs.Nexts.{Active}
use Rattle.gq_bytecode.specs.declared.operation.Operation.TheVariants as operation
use Rattle.gq_statements.specs.Slot_statements.{IsCurrent, current_seen}
use Rattle.gq_leaf.specs.Coded.{Coded, operation_of}
use Rattle.gq_leaf.specs.Leaf_steps.{session_of}
use Rattle.gq_machine.specs.Machine_world.{frame_of, world_of}
use Rattle.gq_machine.specs.internal.Gifts.{IsGiftOf}
use Rattle.gq_machine.specs.internal.Machine_invariant.{OfLeaf}
use Rattle.gq_machine.proofs.Stepping_leaf_facts.{active_live, at_current, item_there, live, of_leaf, own_links}
use Rattle.gq_machine.proofs.donating_requests.gift.Goals as goal
use Rattle.gq_machine.proofs.donating_requests.gift.Goals.{in-None, in-Some}

pub link-requires-clause-place : goal.link-requires-clause-place
link-requires-clause-place c = c.names_slot.ensures (instruction.Upgrade c.args.place c.args.bytes) c.args.place refl refl

pub link-requires-clause-actor : goal.link-requires-clause-actor
link-requires-clause-actor c =
    let can = c.requires.does.can in
    let m = c.args.state.now in
    record {
      live =
          live c.args.fixed.now m can.holds c.lawful.ensures c.args.number can.component can.leaf can.component_is can.leaf_is
          (active_live can.leaf.state.phase (of_leaf (λ l. Active l.state.phase) (slice_get m.leaves.items c.args.number) can.leaf can.leaf_is
          c.requires.does.next.active));
      current =
          let there = item_there m.leaves.items c.args.number can.leaf c.index-leaf.result.now can.leaf_is c.index-leaf.ensures in
          subst (IsCurrent m.slots c.args.number) (sym c.current.ensures)
          (at_current c.args.fixed.now m can.holds c.lawful.ensures c.args.number can.component c.index-leaf.result.now can.component_is there);
    }

pub link-requires-clause-linked : goal.link-requires-clause-linked
link-requires-clause-linked c = own_links c.args.fixed.now c.args.state.now c.requires.does.can.holds c.lawful.ensures c.args.number

of_there : (P : Coded → Type 0) (o : Option Coded) (l : Coded) → o ≡ Some l → P l → OfLeaf P o
of_there P o l e h = subst (OfLeaf P) (sym e) h

some_found : {A : Type 0} (o : Option A) (P : A → Type 0) (a : A) → o ≡ Some a → IfSome o P → P a
some_found None P a e h = cc
some_found (Some b) P a e h = subst P (some_same e) h

none_named : {A : Type 0} {B : Type 0} (o : Option A) (a : A) → o ≡ None → o ≡ Some a → B
none_named o a e h = absurd (none_some (sym e ∙ h))

gives : (n bytes caps more : ℕ) → n ≡ bytes → caps ≡ more → ◌≡◌ {A = Amount} (record { ram = n; caps = caps }) (amount bytes more)
gives n bytes caps more e h = λ i. record { ram = e i; caps = h i }

pub returns-clause-gift : goal.returns-clause-gift
returns-clause-gift c =
    let can = c.requires.does.can in
    let f = c.args.fixed.now in
    let m = c.args.state.now in
    let s = f.table in
    let w = world_of s m.leaves.items m.slots in
    let old = c.index-leaf.result.now in
    let there = item_there m.leaves.items c.args.number can.leaf old can.leaf_is c.index-leaf.ensures in
    let d : Doing = record {
      system = system s;
      world = w;
      x = c.args.number;
      component = can.component;
      leaf = record Rattle.gq_machine.specs.Machine_world.no_leaf { current = current_seen old.state.current };
    } in
    let by : Rattle.gq_statements.specs.Slot_statements.IsBy d (record { leaf = c.args.number; current = c.current.result }) =
    record { leaf = refl; current = ap current_seen (sym c.current.ensures) } in
    let named = c.link.ensures.is (frame_of s m.leaves.items) d by refl in
    of_there (IsGiftOf f m c.args.number c.args.place c.args.bytes _) (slice_get m.leaves.items c.args.number) old there (λ k q at is.
    elim c.match-link.branch [
      | in-None b ↦ none_named c.link.result k b.in-None.is (named ∙ at)
      | in-Some b ↦
          let same : b.in-Some.session ≡ k = some_same (sym b.in-Some.is ∙ (named ∙ at)) in
          let caps = some_found (world.session_at w k)
          (λ (r : world.Session). b.next_caps-caps.result ≡ upgrade_caps (interface_in r.service s.interfaces) r.level) q is
          (subst (λ j. IfSome (world.session_at w j)
          (λ (r : world.Session). b.next_caps-caps.result ≡ upgrade_caps (interface_in r.service s.interfaces) r.level)) same b.next_caps-caps.ensures.caps) in
          gives c.from.result c.args.bytes c.match-link.caps _ c.from.ensures (b.caps-is ∙ caps)
    ])
