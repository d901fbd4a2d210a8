use Rattle.std.proofs.Common.{◌≡◌, ◌++◌, drop}
use Rattle.gq_views.specs.Tree.{amounts}
use Rattle.gq_views.proofs.view_words.push_amounts.Given as goal

-- the numbers so far, with those that are left, are all
abbrev pub invariant-loop-number : goal.invariant-loop-number
invariant-loop-number l = l.text.items ++ amounts (drop l.number-index l.numbers) ≡ l.fn.text.items ++ amounts l.numbers
