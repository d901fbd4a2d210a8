-- What slots cost.
use Rattle.std.proofs.Common.{◌≡◌, ◌+◌, List, [], ◌∷◌, refl, ap, arith}
use Rattle.std.proofs.lemmas.List.Sums.{sum_by-cons}
use Rattle.gq_model.specs.machine.Amounts.{Ram}
use Rattle.gq_model.specs.declared.program.Form.TheVariants.{Slice}
use Rattle.gq_model.specs.machine.Lists.{greatest}
use Rattle.gq_model.specs.machine.Resource_prices.{price_memory}
use Rattle.gq_model.specs.machine.Scenario.{Interface}
use Rattle.gq_model.specs.rules.Kinds.{AbstractState, session_cost}
use Rattle.gq_model.specs.rules.Kinds.{Kind, Empty_kind, Memory, Pool_kind, Link_kind, kind_lent, kind_price, kinds_cost}
use Rattle.gq_sizes.specs.Size as size
use Rattle.gq_sizes.specs.Size.{Given, lent_by, slot_cost, slots_cost}

lent_same : (given : Given) (kind : Kind) → lent_by given Ram kind ≡ kind_lent Ram kind
lent_same given Empty_kind = refl
lent_same given (Memory form n) = refl
lent_same given (Pool_kind n m) = refl
lent_same given (Link_kind service level a) = refl

-- in bytes they cost what they hold and have lent, whatever capabilities are given
pub slots_ram : (given : Given) (kinds : List Kind) → slots_cost given Ram kinds ≡ kinds_cost Ram kinds
slots_ram given [] = refl
slots_ram given (kind ∷ rest) =
    let all = sum_by-cons (slot_cost given Ram) kind rest in
    let held = sum_by-cons (kind_price Ram) kind rest in
    let lent = sum_by-cons (kind_lent Ram) kind rest in
    let here = lent_same given kind in
    let more = slots_ram given rest in
    omega (arith, all, held, lent, here, more)

-- what a session costs in bytes, at any of these points
pub session_ram : (i : Interface) (states : List AbstractState) →
    greatest (size.session_cost (λ _ _. 0) Ram i) states ≡ greatest (λ (s : AbstractState). session_cost Ram i s.bank) states
session_ram i [] = refl
session_ram i (s ∷ rest) =
    let here = ap (λ n. price_memory Ram Slice i.object + n) (slots_ram (λ _ _. 0) s.bank) in
    let more = session_ram i rest in omega (arith, here, more)
