-- Where the `open` at a leaf's place leads.
use Rattle.std.proofs.Common.{◌≡◌, ◌<◌, ℕ, zero, suc, List, [], ◌∷◌, get_or, length, Option, Some, None, refl, sym, ap, subst, ◌∙◌}
use Rattle.std.specs.Prelude.{slice_get}
use Rattle.std.proofs.lemmas.Option.{slice_get_within}
use Rattle.gq_model.specs.declared.program.Instruction.TheVariants as instruction
use Rattle.gq_model.specs.declared.program.OperandSlot.{OperandSlot}
use Rattle.gq_model.specs.machine.Scenario.{Component, Scenario, components}
use Rattle.gq_model.proofs.Small_facts.{none_some, some_same}
use Rattle.gq_bytecode.specs.declared.operation.Operation.TheVariants.{Long}
use Rattle.gq_prepared.specs.Prepared.{IsOpening}
use Rattle.gq_prepared.specs.declared.openings.Opening.{Opening}
use Rattle.gq_leaf.specs.Coded.{operation_of}
use Rattle.gq_machine.specs.declared.machine_state.Prepared.{Prepared}
use Rattle.gq_machine.specs.internal.Gifts.{LeadsBy}
use Rattle.gq_machine.proofs.Open_statement_targets.{opening_at, prepared_at}
use Rattle.gq_machine.proofs.Stepping_leaf_facts.{item_there, of_leaf}
use Rattle.gq_machine.proofs.donating_requests.opening.Goals as goal

pub bounds-openings-statement : goal.bounds-openings-statement
bounds-openings-statement c =
    let f = c.args.fixed.now in
    let m = c.args.state.now in
    let can = c.requires.does.can in
    let x = c.args.number in
    let ls = m.leaves.items in
    let p = prepared_at f m can.holds x can.component can.leaf can.component_is can.leaf_is in
    let here = item_there f.prepared.items x p.has c.index.result.now p.there c.index.ensures in
    let same : p.has ≡ c.index.result.now = some_same (sym p.there ∙ here) in
    let next = of_leaf (λ l. operation_of l ≡ Some (Long c.args.statement)) (slice_get ls x) can.leaf can.leaf_is c.requires.does.next.next in
    let opens = c.requires.opens in
    let long = of_leaf (λ l. slice_get l.code.longs c.args.statement ≡ Some (instruction.Open opens.0 opens.2.0 opens.1)) (slice_get ls x) can.leaf can.leaf_is
    opens.2.1 in
    let o = opening_at f can.component can.leaf p.has p.is c.args.statement next opens.0 opens.2.0 opens.1 long in
    let there = ap (λ xs. slice_get xs c.args.statement) (c.as_slice-openings.ensures.value ∙ ap (λ (q : Prepared). q.openings.items) (sym same)) ∙ o.there in
    slice_get_within c.as_slice-openings.result.now c.args.statement o.opening there

found_or : {A : Type 0} (xs : List A) (x : ℕ) (a d : A) → slice_get xs x ≡ Some a → get_or xs x d ≡ a
found_or [] x a d e = absurd (none_some e)
found_or (b ∷ xs) zero a d e = some_same e
found_or (b ∷ xs) (suc x) a d e = found_or xs x a d e

leads_by : (s : Scenario) (o : Option Component) (c : Component) (name : List ℕ) (p q : Opening) → o ≡ Some c → p ≡ q → IsOpening s c name p
    → LeadsBy s o name q
leads_by s o c name p q there same is = subst (λ d. LeadsBy s d name q) (sym there) (subst (IsOpening s c name) same is)

pub returns : goal.returns
returns c place name n opens =
    let f = c.args.fixed.now in
    let m = c.args.state.now in
    let can = c.requires.does.can in
    let x = c.args.number in
    let ls = m.leaves.items in
    let p = prepared_at f m can.holds x can.component can.leaf can.component_is can.leaf_is in
    let here = item_there f.prepared.items x p.has c.index.result.now p.there c.index.ensures in
    let same : p.has ≡ c.index.result.now = some_same (sym p.there ∙ here) in
    let next = of_leaf (λ l. operation_of l ≡ Some (Long c.args.statement)) (slice_get ls x) can.leaf can.leaf_is c.requires.does.next.next in
    let long = of_leaf (λ l. slice_get l.code.longs c.args.statement ≡ Some (instruction.Open place name n)) (slice_get ls x) can.leaf can.leaf_is opens in
    let o = opening_at f can.component can.leaf p.has p.is c.args.statement next place name n long in
    let there = ap (λ xs. slice_get xs c.args.statement) (c.as_slice-openings.ensures.value ∙ ap (λ (q : Prepared). q.openings.items) (sym same)) ∙ o.there in
    leads_by f.table (slice_get (components f.table) x) can.component name o.opening _ can.component_is
    (sym (found_or c.as_slice-openings.result.now c.args.statement o.opening _ there)) o.is
