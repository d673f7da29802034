-- Numbers of refusals.
use Rattle.std.specs.Prelude.{ℕ}
use Rattle.mux_frame.specs.declared.error.FrameError.{FrameError}

abbrev pub frame_error_number : FrameError → ℕ
frame_error_number FrameError.TooLong = 1
frame_error_number FrameError.NoMemory = 2
frame_error_number FrameError.BadN1 = 3
