mod Answering
mod Concluding
mod Ending
mod Leaving
mod Outcomes
mod Publishing
