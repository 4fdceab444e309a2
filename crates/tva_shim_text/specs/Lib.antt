pub mod ShimText
