pub mod Workers
pub mod Lags
pub mod Laws
