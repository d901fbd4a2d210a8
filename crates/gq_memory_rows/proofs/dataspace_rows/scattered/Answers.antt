use Rattle.std.proofs.Common.{◌≡◌, length, arith, sym, ap, ◌∙◌}
use Rattle.gq_dataspace.specs.Dataspaces.{content_of}
use Rattle.gq_dataspace.proofs.Dataspace_caller_facts.{is_live}
use Rattle.gq_memory_rows.proofs.dataspace_rows.scattered.Goals as goal

pub put_byte-requires : goal.put_byte-requires
put_byte-requires c =
    let a = c.in_ok-before.before.0 in
    let a1 : length (content_of c.made.new.spaces.spaces a) ≡ 4096 = c.in_ok-before.ensures.size in
    let b = c.in_ok-between.between.0 in
    let ab : a ≡ b → ⊥ = c.in_ok-between.ensures.apart a (is_live c.made.new.spaces.spaces a (omega (arith, a1))) in
    let a2 : length (content_of c.made-2.new.spaces.spaces a) ≡ 4096 = ap length (c.in_ok-between.ensures.others a ab) ∙ a1 in
    let b2 : length (content_of c.made-2.new.spaces.spaces b) ≡ 4096 = c.in_ok-between.ensures.size in
    let d = c.in_ok-behind.behind.0 in
    let ad : a ≡ d → ⊥ = c.in_ok-behind.ensures.apart a (is_live c.made-2.new.spaces.spaces a (omega (arith, a2))) in
    let bd : b ≡ d → ⊥ = c.in_ok-behind.ensures.apart b (is_live c.made-2.new.spaces.spaces b (omega (arith, b2))) in
    let a3 : length (content_of c.made-3.new.spaces.spaces a) ≡ 4096 = ap length (c.in_ok-behind.ensures.others a ad) ∙ a2 in
    let b3 : length (content_of c.made-3.new.spaces.spaces b) ≡ 4096 = ap length (c.in_ok-behind.ensures.others b bd) ∙ b2 in
    let d3 : length (content_of c.made-3.new.spaces.spaces d) ≡ 4096 = c.in_ok-behind.ensures.size in
    omega (arith, b3)

pub put_byte-requires-2 : goal.put_byte-requires-2
put_byte-requires-2 c =
    let a = c.in_ok-before.before.0 in
    let a1 : length (content_of c.made.new.spaces.spaces a) ≡ 4096 = c.in_ok-before.ensures.size in
    let b = c.in_ok-between.between.0 in
    let ab : a ≡ b → ⊥ = c.in_ok-between.ensures.apart a (is_live c.made.new.spaces.spaces a (omega (arith, a1))) in
    let a2 : length (content_of c.made-2.new.spaces.spaces a) ≡ 4096 = ap length (c.in_ok-between.ensures.others a ab) ∙ a1 in
    let b2 : length (content_of c.made-2.new.spaces.spaces b) ≡ 4096 = c.in_ok-between.ensures.size in
    let d = c.in_ok-behind.behind.0 in
    let ad : a ≡ d → ⊥ = c.in_ok-behind.ensures.apart a (is_live c.made-2.new.spaces.spaces a (omega (arith, a2))) in
    let bd : b ≡ d → ⊥ = c.in_ok-behind.ensures.apart b (is_live c.made-2.new.spaces.spaces b (omega (arith, b2))) in
    let a3 : length (content_of c.made-3.new.spaces.spaces a) ≡ 4096 = ap length (c.in_ok-behind.ensures.others a ad) ∙ a2 in
    let b3 : length (content_of c.made-3.new.spaces.spaces b) ≡ 4096 = ap length (c.in_ok-behind.ensures.others b bd) ∙ b2 in
    let d3 : length (content_of c.made-3.new.spaces.spaces d) ≡ 4096 = c.in_ok-behind.ensures.size in
    let a4 : length (content_of c.put_byte.new.spaces.spaces a) ≡ 4096 = ap length (c.put_byte.ensures.others a ab) ∙ a3 in
    let b4 : length (content_of c.put_byte.new.spaces.spaces b) ≡ 4096 = c.put_byte.ensures.size ∙ b3 in
    let d4 : length (content_of c.put_byte.new.spaces.spaces d) ≡ 4096 = ap length (c.put_byte.ensures.others d (λ (e : d ≡ b). bd (sym e))) ∙ d3 in
    omega (arith, b4)

pub removed-requires : goal.removed-requires
removed-requires c =
    let a = c.in_ok-before.before.0 in
    let a1 : length (content_of c.made.new.spaces.spaces a) ≡ 4096 = c.in_ok-before.ensures.size in
    let b = c.in_ok-between.between.0 in
    let ab : a ≡ b → ⊥ = c.in_ok-between.ensures.apart a (is_live c.made.new.spaces.spaces a (omega (arith, a1))) in
    let a2 : length (content_of c.made-2.new.spaces.spaces a) ≡ 4096 = ap length (c.in_ok-between.ensures.others a ab) ∙ a1 in
    let b2 : length (content_of c.made-2.new.spaces.spaces b) ≡ 4096 = c.in_ok-between.ensures.size in
    let d = c.in_ok-behind.behind.0 in
    let ad : a ≡ d → ⊥ = c.in_ok-behind.ensures.apart a (is_live c.made-2.new.spaces.spaces a (omega (arith, a2))) in
    let bd : b ≡ d → ⊥ = c.in_ok-behind.ensures.apart b (is_live c.made-2.new.spaces.spaces b (omega (arith, b2))) in
    let a3 : length (content_of c.made-3.new.spaces.spaces a) ≡ 4096 = ap length (c.in_ok-behind.ensures.others a ad) ∙ a2 in
    let b3 : length (content_of c.made-3.new.spaces.spaces b) ≡ 4096 = ap length (c.in_ok-behind.ensures.others b bd) ∙ b2 in
    let d3 : length (content_of c.made-3.new.spaces.spaces d) ≡ 4096 = c.in_ok-behind.ensures.size in
    let a4 : length (content_of c.put_byte.new.spaces.spaces a) ≡ 4096 = ap length (c.put_byte.ensures.others a ab) ∙ a3 in
    let b4 : length (content_of c.put_byte.new.spaces.spaces b) ≡ 4096 = c.put_byte.ensures.size ∙ b3 in
    let d4 : length (content_of c.put_byte.new.spaces.spaces d) ≡ 4096 = ap length (c.put_byte.ensures.others d (λ (e : d ≡ b). bd (sym e))) ∙ d3 in
    let a5 : length (content_of c.put_byte-2.new.spaces.spaces a) ≡ 4096 = ap length (c.put_byte-2.ensures.others a ab) ∙ a4 in
    let b5 : length (content_of c.put_byte-2.new.spaces.spaces b) ≡ 4096 = c.put_byte-2.ensures.size ∙ b4 in
    let d5 : length (content_of c.put_byte-2.new.spaces.spaces d) ≡ 4096 = ap length (c.put_byte-2.ensures.others d (λ (e : d ≡ b). bd (sym e))) ∙ d4 in
    omega (arith, a5)

pub removed-requires-2 : goal.removed-requires-2
removed-requires-2 c =
    let a = c.in_ok-before.before.0 in
    let a1 : length (content_of c.made.new.spaces.spaces a) ≡ 4096 = c.in_ok-before.ensures.size in
    let b = c.in_ok-between.between.0 in
    let ab : a ≡ b → ⊥ = c.in_ok-between.ensures.apart a (is_live c.made.new.spaces.spaces a (omega (arith, a1))) in
    let a2 : length (content_of c.made-2.new.spaces.spaces a) ≡ 4096 = ap length (c.in_ok-between.ensures.others a ab) ∙ a1 in
    let b2 : length (content_of c.made-2.new.spaces.spaces b) ≡ 4096 = c.in_ok-between.ensures.size in
    let d = c.in_ok-behind.behind.0 in
    let ad : a ≡ d → ⊥ = c.in_ok-behind.ensures.apart a (is_live c.made-2.new.spaces.spaces a (omega (arith, a2))) in
    let bd : b ≡ d → ⊥ = c.in_ok-behind.ensures.apart b (is_live c.made-2.new.spaces.spaces b (omega (arith, b2))) in
    let a3 : length (content_of c.made-3.new.spaces.spaces a) ≡ 4096 = ap length (c.in_ok-behind.ensures.others a ad) ∙ a2 in
    let b3 : length (content_of c.made-3.new.spaces.spaces b) ≡ 4096 = ap length (c.in_ok-behind.ensures.others b bd) ∙ b2 in
    let d3 : length (content_of c.made-3.new.spaces.spaces d) ≡ 4096 = c.in_ok-behind.ensures.size in
    let a4 : length (content_of c.put_byte.new.spaces.spaces a) ≡ 4096 = ap length (c.put_byte.ensures.others a ab) ∙ a3 in
    let b4 : length (content_of c.put_byte.new.spaces.spaces b) ≡ 4096 = c.put_byte.ensures.size ∙ b3 in
    let d4 : length (content_of c.put_byte.new.spaces.spaces d) ≡ 4096 = ap length (c.put_byte.ensures.others d (λ (e : d ≡ b). bd (sym e))) ∙ d3 in
    let a5 : length (content_of c.put_byte-2.new.spaces.spaces a) ≡ 4096 = ap length (c.put_byte-2.ensures.others a ab) ∙ a4 in
    let b5 : length (content_of c.put_byte-2.new.spaces.spaces b) ≡ 4096 = c.put_byte-2.ensures.size ∙ b4 in
    let d5 : length (content_of c.put_byte-2.new.spaces.spaces d) ≡ 4096 = ap length (c.put_byte-2.ensures.others d (λ (e : d ≡ b). bd (sym e))) ∙ d4 in
    let b6 : length (content_of c.removed.new.spaces.spaces b) ≡ 4096 = ap length (c.removed.ensures.others b (λ (e : b ≡ a). ab (sym e))) ∙ b5 in
    let d6 : length (content_of c.removed.new.spaces.spaces d) ≡ 4096 = ap length (c.removed.ensures.others d (λ (e : d ≡ a). ad (sym e))) ∙ d5 in
    omega (arith, d6)

pub returns : goal.returns
returns c =
    let a = c.in_ok-before.before.0 in
    let a1 : length (content_of c.made.new.spaces.spaces a) ≡ 4096 = c.in_ok-before.ensures.size in
    let b = c.in_ok-between.between.0 in
    let ab : a ≡ b → ⊥ = c.in_ok-between.ensures.apart a (is_live c.made.new.spaces.spaces a (omega (arith, a1))) in
    let a2 : length (content_of c.made-2.new.spaces.spaces a) ≡ 4096 = ap length (c.in_ok-between.ensures.others a ab) ∙ a1 in
    let b2 : length (content_of c.made-2.new.spaces.spaces b) ≡ 4096 = c.in_ok-between.ensures.size in
    let d = c.in_ok-behind.behind.0 in
    let ad : a ≡ d → ⊥ = c.in_ok-behind.ensures.apart a (is_live c.made-2.new.spaces.spaces a (omega (arith, a2))) in
    let bd : b ≡ d → ⊥ = c.in_ok-behind.ensures.apart b (is_live c.made-2.new.spaces.spaces b (omega (arith, b2))) in
    let a3 : length (content_of c.made-3.new.spaces.spaces a) ≡ 4096 = ap length (c.in_ok-behind.ensures.others a ad) ∙ a2 in
    let b3 : length (content_of c.made-3.new.spaces.spaces b) ≡ 4096 = ap length (c.in_ok-behind.ensures.others b bd) ∙ b2 in
    let d3 : length (content_of c.made-3.new.spaces.spaces d) ≡ 4096 = c.in_ok-behind.ensures.size in
    let a4 : length (content_of c.put_byte.new.spaces.spaces a) ≡ 4096 = ap length (c.put_byte.ensures.others a ab) ∙ a3 in
    let b4 : length (content_of c.put_byte.new.spaces.spaces b) ≡ 4096 = c.put_byte.ensures.size ∙ b3 in
    let d4 : length (content_of c.put_byte.new.spaces.spaces d) ≡ 4096 = ap length (c.put_byte.ensures.others d (λ (e : d ≡ b). bd (sym e))) ∙ d3 in
    let a5 : length (content_of c.put_byte-2.new.spaces.spaces a) ≡ 4096 = ap length (c.put_byte-2.ensures.others a ab) ∙ a4 in
    let b5 : length (content_of c.put_byte-2.new.spaces.spaces b) ≡ 4096 = c.put_byte-2.ensures.size ∙ b4 in
    let d5 : length (content_of c.put_byte-2.new.spaces.spaces d) ≡ 4096 = ap length (c.put_byte-2.ensures.others d (λ (e : d ≡ b). bd (sym e))) ∙ d4 in
    let b6 : length (content_of c.removed.new.spaces.spaces b) ≡ 4096 = ap length (c.removed.ensures.others b (λ (e : b ≡ a). ab (sym e))) ∙ b5 in
    let d6 : length (content_of c.removed.new.spaces.spaces d) ≡ 4096 = ap length (c.removed.ensures.others d (λ (e : d ≡ a). ad (sym e))) ∙ d5 in
    let b7 : length (content_of c.removed-2.new.spaces.spaces b) ≡ 4096 = ap length (c.removed-2.ensures.others b bd) ∙ b6 in
    let bs : b ≡ c.in_ok-scattered.scattered.0 → ⊥ = c.in_ok-scattered.ensures.apart b (is_live c.removed-2.new.spaces.spaces b (omega (arith, b7))) in
    record { first = ap length (c.in_ok-scattered.ensures.others b bs) ∙ b7; second = c.in_ok-scattered.ensures.size; apart = bs }
