pub mod LaneHistory
pub mod Rule
pub mod Views
