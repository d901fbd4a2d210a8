-- In each world that is reached sessions, the slots that name them, requests and current requests agree.
-- Each kind of step changes one session, one slot, one request and a leaf or two; `Linked_after_change` says once that such a change keeps agreement.
-- The other files say of each kind of step that it is such a change.
pub mod Linked_after_change
pub mod Written_world_links
pub mod Asked_request_changes
pub mod Accepted_request_changes
pub mod Linked_after_accept
pub mod Reply_changes
pub mod Link_free_statements
pub mod Linked_after_request
pub mod Linked_after_open
pub mod Linked_after_reply
pub mod Linked_worlds
