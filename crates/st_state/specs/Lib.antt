-- The definitions that contracts cite.
pub mod HereView
pub mod Placed
pub mod Writes
pub mod SlotsView
pub mod OwnView
pub mod HandView
pub mod ClientsView
pub mod ForcedView
