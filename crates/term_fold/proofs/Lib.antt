mod Constants
mod Known
mod Renamed
mod Simplifications
