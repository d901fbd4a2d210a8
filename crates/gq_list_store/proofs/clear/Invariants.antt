use Rattle.std.proofs.Common.{◌≡◌, ℕ, ◌+◌, ◌<◌, ◌≤◌, ◌⊎◌, get_or}
use Rattle.gq_list_store.proofs.clear.Given as goal

abbrev pub invariant-loop-i : goal.invariant-loop-i
invariant-loop-i l = record {
  zero : (k : ℕ) → l.start ≤ k → k < l.start + l.i → get_or l.bytes k 0 ≡ 0;
  others : (k : ℕ) → (k < l.start) ⊎ (l.start + l.n ≤ k) → get_or l.bytes k 0 ≡ get_or l.fn.bytes k 0;
}
