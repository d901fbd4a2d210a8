-- The requests that wait, the oldest first.
use Rattle.std.specs.Prelude.{◌≡◌, ℕ, suc, List, [], ◌∷◌, Option, Some, None, ◌==◌, if◌then◌else◌}
use Rattle.gq_trade.specs.declared.requests.Request.{Request}

-- a request before the rest of its list
abbrev pub kept_before : Request → Option (Request × List Request) → Option (Request × List Request)
kept_before r None = None
kept_before r (Some p) = Some (p.0, r ∷ p.1)

-- the oldest request to a server, and the list without it
abbrev pub oldest_to : ℕ → List Request → Option (Request × List Request)
oldest_to x [] = None
oldest_to x (r ∷ rest) = if r.server == x then Some (r, rest) else kept_before r (oldest_to x rest)

-- the place of the oldest request to a server, or how many requests there are
abbrev pub place_to : ℕ → List Request → ℕ
place_to x [] = 0
place_to x (r ∷ rest) = if r.server == x then 0 else suc (place_to x rest)

-- it is the oldest request to a server
pub record IsOldest (x : ℕ) (rs : List Request) (r : Request) : Type 0 where
  pub rest : List Request
  pub is : oldest_to x rs ≡ Some (r, rest)

-- the request of a session, if one of it waits
abbrev pub request_of : ℕ → List Request → Option Request
request_of k [] = None
request_of k (r ∷ rest) = if r.session == k then Some r else request_of k rest
