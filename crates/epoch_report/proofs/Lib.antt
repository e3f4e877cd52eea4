mod OneChange
mod OneReport
mod Whole
