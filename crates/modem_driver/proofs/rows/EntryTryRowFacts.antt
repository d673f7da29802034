-- The worked calls of an entry, computed by the definitions.
use Rattle.std.specs.Prelude.{◌≡◌, ℕ, ◌<◌, ◌^◌, ◌-◌, List, [], length, refl}
use Rattle.std.proofs.Common.{ap, sym, ◌∙◌, arith}
use Rattle.mux_frame.specs.CheckOctet.{check_octet_of}
use Rattle.mux_frame.specs.Spelling.{body_of, spelled}
use Rattle.modem_driver.specs.EntrySteps.{close_down_frame}
use Rattle.modem_driver.specs.EntryTries.{AreBelow, closing}
use Rattle.modem_driver.specs.EntryTryRows.{AsksRight, AsksWrong, ClosesRight, ClosesWrong, after_none, after_one}

below_none : (asked idle : ℕ) → asked < 2 ^ 64 - 1 → idle < 2 ^ 64 - 1 → AreBelow after_none asked idle
below_none asked idle a i = record { calls = omega arith; reads = omega arith; writes = omega arith; asked = a; idle = i }

below_one : (asked idle : ℕ) → asked < 2 ^ 64 - 1 → idle < 2 ^ 64 - 1 → AreBelow after_one asked idle
below_one asked idle a i = record { calls = omega arith; reads = omega arith; writes = omega arith; asked = a; idle = i }

-- patience was asked as it should be
pub asks_right : AsksRight
asks_right = record {
  none = record { each = λ below. record { calls = omega arith; reads = omega arith; writes = omega arith; asked = omega arith; each = omega arith; idle = refl } };
  one = record { each = λ below. record { calls = omega arith; reads = omega arith; writes = omega arith; asked = omega arith; each = omega arith; idle = refl } };
  answer = record { each = λ below. record { calls = omega arith; reads = omega arith; writes = omega arith; asked = omega arith; each = omega arith; idle = refl } };
}

-- it was told the wrong thing, or wasn't asked
pub asks_wrong : AsksWrong
asks_wrong = record {
  moved = λ h. let e = (h.each (below_none 1 0 (omega arith) (omega arith))).idle in omega (arith, e);
  idle = λ h. let e = (h.each (below_one 1 1 (omega arith) (omega arith))).idle in omega (arith, e);
  silent = λ h. let e = (h.each (below_one 0 0 (omega arith) (omega arith))).each in omega (arith, e);
}

cld_length : length (spelled close_down_frame) ≡ 8
unfolding body_of check_octet_of
cld_length = refl

all_length : length (closing 31) ≡ 42
unfolding body_of check_octet_of
all_length = refl

-- at N1 31 34 flags and the CLD frame close the multiplexer down
pub closes_right : ClosesRight
closes_right = record { flags = refl; all = all_length; sent = record { sent_are = refl; read = []; read_are = refl } }

-- the CLD frame alone doesn't
pub closes_wrong : ClosesWrong
closes_wrong = record {
  bare = λ h.
      let same : 8 ≡ 42 = sym cld_length ∙ (ap (λ (x : List ℕ). length x) h.sent_are ∙ all_length) in
      omega (arith, same);
}
