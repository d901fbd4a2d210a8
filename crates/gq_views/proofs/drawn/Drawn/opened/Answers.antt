use Rattle.std.proofs.Common.{◌≡◌, ◌∙◌, ◌<◌, ◌≤◌, ap, subst, length, get_or}
use Rattle.gq_views.specs.internal.Opened_services.{opened_at}
use Rattle.gq_views.proofs.Printed_services.{opened_there, opened_nowhere}
use Rattle.gq_views.proofs.drawn.Drawn.opened.Goals as goal

pub returns-in-Some : goal.returns-in-Some
returns-in-Some c =
    let x = c.args.place in
    let v = c.in-Some.opened.now in
    let look = c.in-Some.ensures.lookup in
    let h : x < length c.self.inside.opened.items = subst (λ l. x < length l) c.deref.ensures.value look.3.0 in
    let e : v ≡ get_or c.self.inside.opened.items x v = look.1 ∙ ap (λ l. get_or l x v) c.deref.ensures.value in
    c.as_slice.ensures.value
    ∙ (opened_there (λ v. v.items) c.self.inside.opened.items c.self.inside.table.now x c.self.invariant.opens v h e ∙ ap
    (λ s. opened_at s x) c.self.view_is)

pub returns-in-None : goal.returns-in-None
returns-in-None c =
    let x = c.args.place in
    let look = c.in-None.ensures.lookup in
    let h : length c.self.inside.opened.items ≤ x = subst (λ l. length l ≤ x) c.deref.ensures.value look.3 in
    opened_nowhere (λ v. v.items) c.self.inside.opened.items c.self.inside.table.now x c.self.invariant.opens h ∙ ap (λ s. opened_at s x) c.self.view_is
