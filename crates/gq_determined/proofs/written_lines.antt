-- A leaf that provides nothing writes the same lines in all runs to rest, and where no shared leaf writes lines outside `main`, so does every leaf.
-- From what its thread shows, of which its lines are a part, and from what each leaf showed for the threads whose it was.
-- So what is seen of such leaves does not depend on the turns.
pub mod Leaf_lines_in_thread
pub mod Written_lines_law
-- all leaves
pub mod Silent_steps
pub mod All_lines
