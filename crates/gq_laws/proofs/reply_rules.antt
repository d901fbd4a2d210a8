-- Where a section starts and ends: the leaf stands where the rules start it, and its client goes on with the reply.
-- From a request of the session, and from a state in which the section may end by the rules.
-- A close ends the session; each other reply leaves it with its slots as they are.
pub mod Ruled_section_end
pub mod Ruled_section_start
pub mod Ruled_reaction_start
pub mod World_after_reply
pub mod Stance_after_reply
