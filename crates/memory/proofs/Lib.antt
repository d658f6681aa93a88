mod Fields
mod Fronts
mod Records
mod Writes
