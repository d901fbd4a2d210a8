pub mod List_states
pub mod Open_maxima
