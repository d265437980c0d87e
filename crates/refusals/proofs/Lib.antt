pub mod Answered
mod Numbers
