-- Sums over sessions, where one comes, goes or changes.
use Rattle.std.proofs.Common.{◌≡◌, ℕ, zero, suc, ◌+◌, List, [], ◌∷◌, set, Option, Some, None, arith}
use Rattle.std.specs.Prelude.{sum_by}
use Rattle.std.proofs.lemmas.List.Sums.{sum_by-cons}
use Rattle.gq_trade.specs.Numbers.{added, IsTaken}
use Rattle.gq_trade.specs.declared.session.Session.{Session}
use Rattle.gq_trade.specs.Trading.{session_in}

module _ (g : Option Session → ℕ) (none : g None ≡ 0) where
  pub sum_added : (s : Session) (ss : List (Option Session)) → sum_by g (added s ss) ≡ g (Some s) + sum_by g ss
  sum_added s [] = let e = sum_by-cons g (Some s) [] in omega (arith, e)
  sum_added s (None ∷ ss) = let e = sum_by-cons g (Some s) ss in let f = sum_by-cons g None ss in omega (arith, e, f, none)
  sum_added s (Some t ∷ ss) =
      let further = sum_added s ss in
      let e = sum_by-cons g (Some t) (added s ss) in let f = sum_by-cons g (Some t) ss in omega (arith, further, e, f)

  pub sum_set : (ss : List (Option Session)) (k : ℕ) (o : Option Session) → IsTaken ss k
      → sum_by g (set ss k o) + g (Some (session_in ss k)) ≡ sum_by g ss + g o
  sum_set [] k o t = cc
  sum_set (None ∷ ss) zero o t = cc
  sum_set (Some s ∷ ss) zero o t = let e = sum_by-cons g o ss in let f = sum_by-cons g (Some s) ss in omega (arith, e, f)
  sum_set (None ∷ ss) (suc k) o t =
      let further = sum_set ss k o t in
      let e = sum_by-cons g None (set ss k o) in let f = sum_by-cons g None ss in omega (arith, further, e, f)
  sum_set (Some s ∷ ss) (suc k) o t =
      let further = sum_set ss k o t in
      let e = sum_by-cons g (Some s) (set ss k o) in let f = sum_by-cons g (Some s) ss in omega (arith, further, e, f)
