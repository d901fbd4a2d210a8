-- The capabilities for the next level of a session.
use Rattle.std.proofs.Common.{◌≡◌, ℕ, Option, Some, None, refl, ap, ◌∙◌}
use Rattle.std.specs.Prelude.{IfSome}
use Rattle.gq_model.specs.machine.World as world
use Rattle.gq_trade.specs.Trading.{session_at}
use Rattle.gq_trade.specs.declared.session.Session.{Session}
use Rattle.gq_trade.specs.Trades.{Trades}
use Rattle.gq_prepared.specs.Prepared.{Given, caps_at}
use Rattle.gq_machine.specs.Machine_world.{world_of}
use Rattle.gq_machine.proofs.Request_donations.{session_caps, session_uncounted}
use Rattle.gq_machine.proofs.donating_requests.next_caps.Goals as goal

if_some : {A : Type 0} (o : Option A) (P : A → Type 0) → ((a : A) → o ≡ Some a → P a) → IfSome o P
if_some None P h = tt
if_some (Some a) P h = h a refl

reported : (v : Given) (t u : Trades) (k level : ℕ) (q : Session) → u ≡ t → q ≡ session_at u.trading k → level ≡ (session_at u.trading k).level
    → caps_at v q.service level ≡ caps_at v (session_at t.trading k).service (session_at t.trading k).level
reported v t u k level q same is at =
    (λ i. caps_at v (is i).service (at i)) ∙ ap (λ (w : Trades). caps_at v (session_at w.trading k).service (session_at w.trading k).level) same

pub returns-clause-caps : goal.returns-clause-caps
returns-clause-caps c =
    let f = c.args.fixed.now in
    let m = c.args.state.now in
    if_some (world.session_at (world_of f.table m.leaves.items m.slots) c.args.session) _ (λ q e.
    c.upgrade_caps.ensures
    ∙ reported f.services m.slots.trades c.trades-trades.result.now c.args.session c.level-level.result c.session-service.result c.trades-trades.ensures
    c.session-service.ensures c.level-level.ensures
    ∙ session_caps f m c.requires.holds c.lawful.ensures c.args.session c.requires.there q e)

pub returns-clause-counted : goal.returns-clause-counted
returns-clause-counted c none =
    let f = c.args.fixed.now in
    let m = c.args.state.now in
    c.upgrade_caps.ensures
    ∙ reported f.services m.slots.trades c.trades-trades.result.now c.args.session c.level-level.result c.session-service.result c.trades-trades.ensures
    c.session-service.ensures c.level-level.ensures
    ∙ session_uncounted f m c.requires.holds c.lawful.ensures c.args.session c.requires.there none
