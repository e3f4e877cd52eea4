mod Folds
mod Adding
mod Turns
mod Writers
mod Turning
mod Settled
