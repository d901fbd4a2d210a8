use Rattle.std.proofs.Common.{◌∙◌, ap}
use Rattle.gq_load.specs.Load.{loaded}
use Rattle.gq_world.specs.World_between_turns.{World}
use Rattle.gq_outcomes.proofs.Walk_facts.{same_loaded, walk_moved}
use Rattle.gq_outcomes.proofs.walk.Walk.come_back.Goals as goal

pub forget_lines-requires : goal.forget_lines-requires
forget_lines-requires c =
    let old = c.args.self.now in
    let s = old.world.scenario in
    let w = c.replace.new.dest in
    let same = same_loaded (loaded c.args.scenario.now) c.in_ok-world.world.scenario s c.in_ok-world.ensures.loaded c.requires.loaded in
    record {
      walk = walk_moved s old w (ap (λ (w : World). w.scenario) c.replace.ensures.after ∙ same)
          (ap (λ (w : World). w.stopped) c.replace.ensures.after ∙ c.in_ok-world.ensures.running) c.requires.walk;
    }
