-- What the proof of `draw_job` cites.
mod Read
