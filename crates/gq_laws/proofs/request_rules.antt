-- A statement that asks something of a session leaves the leaf waiting for what the rules state.
-- From links as promised and a route that leads to a server.
-- Of its slot is promised what the reply makes of it.
pub mod Promised_slot_kinds
pub mod Waiting_request_stance
pub mod Asking_statement_steps
