use Rattle.std.proofs.Common.{◌≡◌, length, arith, ◌∙◌}
use Rattle.gq_dataspace.specs.Dataspaces.{content_of}
use Rattle.gq_memory_rows.proofs.dataspace_rows.read_far.Goals as goal

pub put-requires : goal.put-requires
put-requires c = let size : length (content_of c.made.new.spaces.spaces c.in_ok-ds.ds.0) ≡ 1228800 = c.in_ok-ds.ensures.size in omega (arith, size)

pub put-requires-2 : goal.put-requires-2
put-requires-2 c = let size : length (content_of c.put.new.spaces.spaces c.in_ok-ds.ds.0) ≡ 1228800 = c.put.ensures.size ∙ c.in_ok-ds.ensures.size in
    omega (arith, size)

pub put-requires-3 : goal.put-requires-3
put-requires-3 c = let size : length (content_of c.put-2.new.spaces.spaces c.in_ok-ds.ds.0) ≡ 1228800 = c.put-2.ensures.size ∙ c.put.ensures.size
    ∙ c.in_ok-ds.ensures.size in omega (arith, size)

pub put-requires-4 : goal.put-requires-4
put-requires-4 c = let size : length (content_of c.put-3.new.spaces.spaces c.in_ok-ds.ds.0) ≡ 1228800 = c.put-3.ensures.size ∙ c.put-2.ensures.size
    ∙ c.put.ensures.size ∙ c.in_ok-ds.ensures.size in omega (arith, size)

pub put-requires-5 : goal.put-requires-5
put-requires-5 c = let size : length (content_of c.put-4.new.spaces.spaces c.in_ok-ds.ds.0) ≡ 1228800 = c.put-4.ensures.size ∙ c.put-3.ensures.size
    ∙ c.put-2.ensures.size ∙ c.put.ensures.size ∙ c.in_ok-ds.ensures.size in omega (arith, size)

pub put-requires-6 : goal.put-requires-6
put-requires-6 c = let size : length (content_of c.put-5.new.spaces.spaces c.in_ok-ds.ds.0) ≡ 1228800 = c.put-5.ensures.size ∙ c.put-4.ensures.size
    ∙ c.put-3.ensures.size ∙ c.put-2.ensures.size ∙ c.put.ensures.size ∙ c.in_ok-ds.ensures.size in omega (arith, size)

pub load4-requires : goal.load4-requires
load4-requires c = let size : length (content_of c.put-6.new.spaces.spaces c.in_ok-ds.ds.0) ≡ 1228800 = c.put-6.ensures.size ∙ c.put-5.ensures.size
    ∙ c.put-4.ensures.size ∙ c.put-3.ensures.size ∙ c.put-2.ensures.size ∙ c.put.ensures.size ∙ c.in_ok-ds.ensures.size in omega (arith, size)

pub load4-requires-2 : goal.load4-requires-2
load4-requires-2 c = let size : length (content_of c.put-6.new.spaces.spaces c.in_ok-ds.ds.0) ≡ 1228800 = c.put-6.ensures.size ∙ c.put-5.ensures.size
    ∙ c.put-4.ensures.size ∙ c.put-3.ensures.size ∙ c.put-2.ensures.size ∙ c.put.ensures.size ∙ c.in_ok-ds.ensures.size in omega (arith, size)

pub load4-requires-3 : goal.load4-requires-3
load4-requires-3 c = let size : length (content_of c.put-6.new.spaces.spaces c.in_ok-ds.ds.0) ≡ 1228800 = c.put-6.ensures.size ∙ c.put-5.ensures.size
    ∙ c.put-4.ensures.size ∙ c.put-3.ensures.size ∙ c.put-2.ensures.size ∙ c.put.ensures.size ∙ c.in_ok-ds.ensures.size in omega (arith, size)

pub load4-requires-4 : goal.load4-requires-4
load4-requires-4 c = let size : length (content_of c.put-6.new.spaces.spaces c.in_ok-ds.ds.0) ≡ 1228800 = c.put-6.ensures.size ∙ c.put-5.ensures.size
    ∙ c.put-4.ensures.size ∙ c.put-3.ensures.size ∙ c.put-2.ensures.size ∙ c.put.ensures.size ∙ c.in_ok-ds.ensures.size in omega (arith, size)

pub load4-requires-5 : goal.load4-requires-5
load4-requires-5 c = let size : length (content_of c.put-6.new.spaces.spaces c.in_ok-ds.ds.0) ≡ 1228800 = c.put-6.ensures.size ∙ c.put-5.ensures.size
    ∙ c.put-4.ensures.size ∙ c.put-3.ensures.size ∙ c.put-2.ensures.size ∙ c.put.ensures.size ∙ c.in_ok-ds.ensures.size in omega (arith, size)

pub load4-requires-6 : goal.load4-requires-6
load4-requires-6 c = let size : length (content_of c.put-6.new.spaces.spaces c.in_ok-ds.ds.0) ≡ 1228800 = c.put-6.ensures.size ∙ c.put-5.ensures.size
    ∙ c.put-4.ensures.size ∙ c.put-3.ensures.size ∙ c.put-2.ensures.size ∙ c.put.ensures.size ∙ c.in_ok-ds.ensures.size in omega (arith, size)

pub removed-requires : goal.removed-requires
removed-requires c = let size : length (content_of c.put-6.new.spaces.spaces c.in_ok-ds.ds.0) ≡ 1228800 = c.put-6.ensures.size ∙ c.put-5.ensures.size
    ∙ c.put-4.ensures.size ∙ c.put-3.ensures.size ∙ c.put-2.ensures.size ∙ c.put.ensures.size ∙ c.in_ok-ds.ensures.size in omega (arith, size)
