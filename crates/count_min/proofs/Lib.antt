pub mod NeverBelow
