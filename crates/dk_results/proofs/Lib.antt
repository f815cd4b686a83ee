mod Cuts
mod Failures
mod Fronts
mod Labels
mod Numbers
mod Readings
mod Walks
