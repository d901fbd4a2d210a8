-- What a refused call leaves: where the store is the same, so are its chunks.
use Rattle.std.proofs.Common.{◌≡◌, Result, Ok, Err, ap}
use Rattle.std.specs.Prelude.{OnErr}
use Rattle.gq_store.specs.Store.{Store}

pub err_state : {T E S : Type 0} (state : S → Store) (r : Result T E) (s t : S) → OnErr r (t ≡ s) → OnErr r (state t ≡ state s)
err_state state (Ok x) s t e = e
err_state state (Err f) s t e = ap state e

-- the same, beside something else that is left
pub err_states : {T E S H : Type 0} (state : S → Store) (r : Result T E) (h k : H) (s t : S) → OnErr r ((k ≡ h) × (t ≡ s))
    → OnErr r ((k ≡ h) × (state t ≡ state s))
err_states state (Ok x) h k s t e = e
err_states state (Err f) h k s t e = (e.0, ap state e.1)
