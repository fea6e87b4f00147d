mod Printable
mod Readings
