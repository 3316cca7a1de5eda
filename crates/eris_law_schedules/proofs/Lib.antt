mod Opened
mod Answered
