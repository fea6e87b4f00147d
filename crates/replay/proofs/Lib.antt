mod Windows
mod RequestSeries
mod ReplayPromise
