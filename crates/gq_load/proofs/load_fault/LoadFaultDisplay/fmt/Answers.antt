use Rattle.std.proofs.Common.{ℕ, List, subst, sym, codes, decimal}
use Rattle.std.specs.Fmt.{HasWritten}
use Rattle.gq_load.proofs.Five_part_texts.{five}
use Rattle.gq_load.proofs.load_fault.LoadFaultDisplay.fmt.Goals as goal

pub returns-in-OverQuantum-clause-writes : goal.returns-in-OverQuantum-clause-writes
returns-in-OverQuantum-clause-writes g c = λ h i.
    let leaf = c.as_str-leaf.result.now in
    let o = c.in-OverQuantum in
    let e = five leaf (codes ": B1 OverQuantum own ") (decimal o.own) (codes " quantum ") (decimal o.quantum) in
    rw (o.is, sym c.as_str-leaf.ensures) (subst (λ (t : List ℕ). HasWritten g.W.Write.write_str_gives c.args.f.now t c.write-in-OverQuantum.new.self) e
    (c.write-in-OverQuantum.ensures.writes h i))

pub returns-in-OverCaps-clause-writes : goal.returns-in-OverCaps-clause-writes
returns-in-OverCaps-clause-writes g c = λ h i.
    let leaf = c.as_str-in-OverCaps.result.now in
    let o = c.in-OverCaps in
    let e = five leaf (codes ": B3 OverCaps own ") (decimal o.own) (codes " caps ") (decimal o.caps) in
    rw (o.is, sym c.as_str-in-OverCaps.ensures) (subst (λ (t : List ℕ). HasWritten g.W.Write.write_str_gives c.args.f.now t c.write-in-OverCaps.new.self) e
    (c.write-in-OverCaps.ensures.writes h i))
