mod Lines
mod Stops
mod Reported
mod LineByLine
mod Paging
mod Streaming
