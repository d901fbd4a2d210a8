-- The first place of a section.
use Rattle.std.proofs.Common.{ap}
use Rattle.gq_bytecode.specs.Cores.{Core}
use Rattle.gq_leaf.proofs.Signal_counts.{one_more}
use Rattle.gq_leaf.proofs.Sound_program_code.{first_inside}
use Rattle.gq_leaf.proofs.leaf.Leaf.begin_with.Goals as goal

pub invariant_of-self : goal.invariant_of-self
invariant_of-self c =
    let i = c.self.inside in
    record {
      code = c.self.invariant.code;
      inside = first_inside i.code c.args.current.section c.begin_with.new.self.position c.self.invariant.code
          (ap (λ (r : Core). r.position) c.begin_with.ensures);
      placed = c.place-self-inside.ensures;
      taken = one_more i.steps i.signals c.self.invariant.taken;
    }
