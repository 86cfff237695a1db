mod Legal
mod Named
mod Right
mod Short
mod Styles
