mod Answering
mod Lengths
mod LevelList
mod Tables
