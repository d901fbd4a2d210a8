-- Open blocks, as the definitions see them.
use Rattle.std.proofs.Common.{◌≡◌, suc, List, [], ◌∷◌, length, refl, ap}
use Rattle.gq_asm.specs.declared.assembly_state.OpenBlock.{OpenBlock}
use Rattle.gq_asm.specs.internal.Assembly_state.{blocks_of}

pub length_blocks : (blocks : List OpenBlock) → length (blocks_of blocks) ≡ length blocks
length_blocks [] = refl
length_blocks (b ∷ rest) = ap suc (length_blocks rest)
