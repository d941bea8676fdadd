mod ReadLoop
mod WriteLoop
