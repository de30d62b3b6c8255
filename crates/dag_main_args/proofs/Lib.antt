mod Explained
mod Readings
mod Tables
mod Answering
mod Helped
mod Worked
