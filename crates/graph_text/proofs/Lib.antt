mod Sharing
mod Drawing
mod Rising
mod Foldings
