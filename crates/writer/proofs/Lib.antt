pub mod BufferTail
pub mod StreamHead
mod Numbers
mod AcceptedCalls
mod CallSeries
