mod Holding
mod Joining
mod Windowing
