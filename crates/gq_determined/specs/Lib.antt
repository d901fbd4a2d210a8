-- what the owner of a leaf is
pub mod Owned
-- what does not depend on the turns
pub mod Determined
-- what follows signals in a world at rest, and does not depend on the turns
pub mod Synchronous
-- what only proofs speak of
pub mod internal
