use Rattle.std.proofs.Common.{◌≡◌, ◌++◌, drop, map}
use Rattle.gq_tariff.specs.Prices.{class_size}
use Rattle.gq_why.specs.internal.Visitor_lines.{counted_lines}
use Rattle.gq_why.proofs.own_lines.push_classes.Given as goal

-- the lines so far, with those of the classes that are left, are all
abbrev pub invariant-loop-place : goal.invariant-loop-place
invariant-loop-place l =
    l.text.items ++ counted_lines l.resource l.places l.place (map class_size (drop l.place l.classes))
    ≡ l.fn.text.items ++ counted_lines l.resource l.places 0 (map class_size l.classes)
