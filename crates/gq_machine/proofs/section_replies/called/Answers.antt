-- The reply to a call.
use Rattle.std.proofs.Common.{◌≡◌, ℕ, List, [], ◌∷◌, Some, Ok, drop, get_or, refl, sym, subst, ◌∙◌, rules}
use Rattle.std.specs.Prelude.{slice_get}
use Rattle.gq_model.specs.declared.section.Section.TheVariants as section
use Rattle.gq_model.proofs.Small_facts.{some_same}
use Rattle.gq_leaf.specs.Coded.{Coded}
use Rattle.gq_machine.proofs.Section_end_reply.{client, client_is, goes_to, had, kept_two, none_to, replied_to, server, server_is}
use Rattle.gq_machine.proofs.Slot_system_kept.{scene_beside}
use Rattle.gq_machine.proofs.Stepping_leaf_facts.{item_there}
use Rattle.gq_machine.proofs.section_replies.called.Goals as goal

-- what holds of the item that a call of `index` reports holds of the leaf that is there
at_item : (P : Coded → Type 0) (ls : List Coded) (x : ℕ) (l item : Coded) → slice_get ls x ≡ Some l → item ≡ get_or ls x item → P item → P l
at_item P ls x l item there is h = subst P (some_same (sym (item_there ls x l item there is) ∙ there)) h

pub returns-in-None-clause-step : goal.returns-in-None-clause-step
returns-in-None-clause-step c =
    let f = c.args.fixed.now in
    let m = c.args.state.now in
    let x = c.args.number in
    let current = c.args.current in
    let y = c.client_at-client.result in
    let e = c.client_at-client.ensures.client.end in
    let none = at_item (λ l. l.state.registers.operands ≡ []) m.leaves.items x (server f m x y current e) c.index-leaf.result.now (server_is f m x y current e)
    c.index-leaf.ensures c.in-None.ensures in
    none_to f m x y current e c.requires.section.0 c.requires.section.1 none

pub go_on_with-requires-clause-room : goal.go_on_with-requires-clause-room
go_on_with-requires-clause-room c =
    c.client_at-client.ensures.client.room c.requires.section.0 c.requires.section.1

pub returns-in-Some-clause-step : goal.returns-in-Some-clause-step
returns-in-Some-clause-step c =
    let f = c.args.fixed.now in
    let m = c.args.state.now in
    let x = c.args.number in
    let current = c.args.current in
    let y = c.client_at-client.result in
    let e = c.client_at-client.ensures.client.end in
    let a = c.in-Some.value in
    let rest = drop 1 (server f m x y current e).state.registers.operands in
    let top = at_item (λ l. l.state.registers.operands ≡ a ∷ drop 1 l.state.registers.operands) m.leaves.items x (server f m x y current e)
    c.index-leaf.result.now (server_is f m x y current e) c.index-leaf.ensures c.in-Some.ensures in
    goes_to f m x y current e (a ∷ had f m x y current e) c.go_on_with.new.leaves.items c.reply.new.slots (Ok tt)
    (c.go_on_with.ensures (server f m x y current e) (client f m x y current e) (server_is f m x y current e) (client_is f m x y current e))
    (replied_to f m x y current e (section.Calling c.requires.section.0) (a ∷ had f m x y current e) (λ operands. a ∷ operands) c.reply.new.slots
    c.requires.section.1 refl (λ g j q at have goes. c.reply.ensures.called g j q c.requires.section.0 a rest at (have ∙ top) goes))

pub returns-in-Some-clause-leaves : goal.returns-in-Some-clause-leaves
returns-in-Some-clause-leaves c =
    record {
      holds =
          let f = c.args.fixed.now in
          let m = c.args.state.now in
          let x = c.args.number in
          let current = c.args.current in
          let y = c.client_at-client.result in
          let e = c.client_at-client.ensures.client.end in
          kept_two f m x y current e (c.in-Some.value ∷ had f m x y current e) _
          (c.go_on_with.ensures (server f m x y current e) (client f m x y current e) (server_is f m x y current e) (client_is f m x y current e))
          c.lawful.ensures (scene_beside m.slots c.reply.new.slots c.reply.ensures.beside) (returns-in-Some-clause-step c);
      leaves = search rules;
      slots = search rules;
    }
