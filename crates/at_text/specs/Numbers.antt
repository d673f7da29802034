-- Numbers of refusals.
use Rattle.std.specs.Prelude.{ℕ}
use Rattle.at_text.specs.declared.error.TextError.{TextError}

abbrev pub text_error_number : TextError → ℕ
text_error_number TextError.NoAt = 1
text_error_number TextError.BadOctet = 2
text_error_number TextError.TooLong = 3
text_error_number TextError.NoMemory = 4
