-- Sessions as the abstract machine has them.
use Rattle.std.specs.Prelude.{ℕ, List, [], Option, Some, None, map, get_or}
use Rattle.gq_model.specs.machine.World as world
use Rattle.gq_store.specs.Store.{Store}
use Rattle.gq_contents.specs.Contents.{seen}
use Rattle.gq_trade.specs.declared.session.Session.{Session}
use Rattle.gq_trade.specs.declared.session.SlotId.{SlotId}
use Rattle.gq_trade.specs.declared.session.SlotId.TheVariants.{InLeaf, InSession, InObject}
use Rattle.gq_trade.specs.Trading.{Trading, store_of}

abbrev pub slot_id_seen : SlotId → world.SlotId
slot_id_seen (InLeaf x i) = world.In_leaf x i
slot_id_seen (InSession k i) = world.In_session k i
slot_id_seen (InObject k) = world.In_object k

-- a session whose server has this memory, with the names of services by their numbers
abbrev pub session_seen : List (List ℕ) → Store → Session → world.Session
session_seen names st s = record {
  client = s.client;
  slot_id = slot_id_seen s.slot_id;
  server = s.server;
  service = get_or names s.service [];
  level = s.level;
  donation = record { ram = s.donation.ram; caps = s.donation.caps };
  accepted = s.accepted;
  object = seen st s.object;
  slots = map (seen st) s.slots;
}

abbrev pub seen_in : (Session → world.Session) → Option Session → Option world.Session
seen_in f None = None
seen_in f (Some s) = Some (f s)

-- all sessions
abbrev pub sessions_seen : List (List ℕ) → Trading → List (Option world.Session)
sessions_seen names w = map (seen_in (λ s. session_seen names (store_of w s.server) s)) w.sessions
