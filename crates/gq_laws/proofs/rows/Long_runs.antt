-- Worked runs of many steps, by computation.
use Rattle.std.proofs.Common.{◌≡◌, [], ◌∷◌, refl}
use Rattle.std.specs.Prelude.{codes}
use Rattle.std.specs.Fmt.{digits}
use Rattle.gq_model.specs.declared.act.Act.TheVariants.{Turns}
use Rattle.gq_model.specs.machine.Accounts.{whole}
use Rattle.gq_model.proofs.Sample_scenarios.{pooled, started}

one_chunk : whole pooled (started (3848 ∷ [])) ((0, Turns 1026) ∷ [])
    ≡ codes "account init quota 45056\naccount init -> a quota 20480 used 8192 steps 1026/3848 running\n"
unfolding digits
one_chunk = refl

two_chunks : whole pooled (started (3848 ∷ [])) ((0, Turns 1029) ∷ [])
    ≡ codes "account init quota 45056\naccount init -> a quota 20480 used 12288 steps 1029/3848 running\n"
unfolding digits
two_chunks = refl

chunks_stay : whole pooled (started (3848 ∷ [])) ((0, Turns 3847) ∷ [])
    ≡ codes "account init quota 45056\naccount init -> a quota 20480 used 12288 steps 3847/3848 running\n"
unfolding digits
chunks_stay = refl
