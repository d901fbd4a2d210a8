-- texts that grow at their end, and the leaves that are shared
mod Race_line_text
mod Shared_leaf_servers
mod Served_openers
mod Race_leaf_lines
mod Leaf_owner_rounds
mod Conflicts_left
-- where nothing was written
mod Silence_means_raceless
-- worked examples
pub mod Race_rows
