-- The pages that no leaf holds.
use Rattle.gq_world.proofs.Holdings_within_total.{within_total}
use Rattle.gq_world.proofs.world.World.free_pages.Goals as goal

pub free_pages-requires : goal.free_pages-requires
free_pages-requires c =
    within_total c.accepted_laws.ensures.promises c.accepted_laws.ensures.accounts c.self.inside.machine.scenario c.self.inside.machine.world
    c.self.invariant.budgeted.stands
