mod Drawing
mod Lengths
mod Limits
