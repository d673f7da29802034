-- Verdicts on candidates, as the code keeps them.
use mir.Val.{bool_byte}
use Rattle.std.specs.Prelude.{◌≡◌, ◌≢◌, ℕ, ◌+◌, ◌*◌, ◌/◌, ◌%◌, ◌≤◌, ◌==◌, Bool, List, ◌∷◌, Option, None, Some, drop, length, if◌then◌else◌}
use Rattle.mux_frame.specs.Deframing.{IsFront, IsSettled, SameReading, decision_on, next_in}
use Rattle.mux_frame.specs.Judging.{Header, Verdict, unfinished, refused, fits, frame_at, verdict_on}
use Rattle.mux_frame.specs.Laws.{AreOctets}
use Rattle.mux_frame.specs.Spelling.{flag}
use Rattle.mux_frame.specs.declared.settling.Standing.{Standing}
use Rattle.mux_frame.specs.declared.judge.Header.{Header as HeaderValue}
use Rattle.mux_frame.specs.declared.judge.Verdict.{Verdict as VerdictValue}
use Rattle.mux_frame.specs.declared.judge.Verdict.TheVariants.{Unfinished, Refused, Fits}

-- the header that is kept
abbrev pub header_seen : HeaderValue → Header
header_seen h = record {
  dlci = h.dlci.number;
  kind = h.kind;
  cr = h.cr;
  pf = h.pf;
  size = h.size;
  info_len = h.info_len;
  check = h.check;
}

-- the verdict that is given
abbrev pub verdict_seen : VerdictValue → Verdict
verdict_seen Unfinished = unfinished
verdict_seen Refused = refused
verdict_seen (Fits h) = fits (header_seen h)

-- the octets are this text behind a flag, or behind two
abbrev pub IsCandidate : List ℕ → Bool → List ℕ → Type 0
IsCandidate octets is_second text = octets ≡ (if is_second then flag ∷ flag ∷ text else flag ∷ text)

-- the octets after a flag begin with a whole frame, whose check octet stands at this place
pub record IsWholeTo (n1 : ℕ) (text : List ℕ) (place : ℕ) : Type 0 where
  pub header : Header
  pub fits_so : fits header ≡ verdict_on n1 text
  pub place_is : place ≡ header.size + header.info_len

-- how the candidate of the octets after a flag stands
abbrev pub StandsSo : ℕ → List ℕ → Standing → Type 0
StandsSo n1 text (Standing.Whole place) = IsWholeTo n1 text place
StandsSo n1 text Standing.Unfinished = unfinished ≡ verdict_on n1 text
StandsSo n1 text Standing.Refused = refused ≡ verdict_on n1 text

-- how the candidate at a place stands, whose flag is the one there or the second of two
pub record StandsAt (n1 : ℕ) (octets : List ℕ) (place begin : ℕ) (standing : Standing) : Type 0 where
  pub is_second : Bool
  pub text : List ℕ
  pub begin_is : begin ≡ place + bool_byte is_second
  pub candidate : IsCandidate (drop place octets) is_second text
  pub stands_so : StandsSo n1 text standing

-- how many octets stand before the check octet, from the flag on, by the length octets; none where these haven't come
abbrev pub len_to_check : List ℕ → ℕ
len_to_check (f ∷ x ∷ y ∷ l ∷ m ∷ t) = if l % 2 == 1 then 4 + l / 2 else 5 + l / 2 + 128 * m
len_to_check octets = 0

-- what stands before this place begins no frame; where one can begin at the front, nothing is passed
pub record IsPassed (n1 : ℕ) (octets : List ℕ) (place : ℕ) : Type 0 where
  pub within : place ≤ length octets
  pub reads : SameReading n1 octets (drop place octets)
  pub kept : decision_on n1 octets ≢ refused → drop place octets ≡ octets

-- the frame at hand has this check place, counted from its address octet
pub record IsAtPlace (n1 : ℕ) (undecided : List ℕ) (place : ℕ) : Type 0 where
  pub header : Header
  pub decision : fits header ≡ decision_on n1 undecided
  pub front : IsFront n1 undecided header
  pub frame : Some (frame_at header (drop 1 undecided)) ≡ next_in n1 undecided
  pub place_is : place ≡ header.size + header.info_len
  pub within : place + 3 ≤ length undecided

-- the frame at hand has that check place, or there is none
abbrev pub IsAtHand : ℕ → List ℕ → Option ℕ → Type 0
IsAtHand n1 undecided None = next_in n1 undecided ≡ None
IsAtHand n1 undecided (Some place) = IsAtPlace n1 undecided place

-- what stands before this place begins no frame; from there on nothing is refused, and this is the check
-- place of the frame at hand, if there is one
pub record IsSearched (n1 : ℕ) (octets : List ℕ) (place : ℕ) (check_place : Option ℕ) : Type 0 where
  pub passed : IsPassed n1 octets place
  pub decided : decision_on n1 (drop place octets) ≢ refused
  pub at_hand : IsAtHand n1 (drop place octets) check_place

-- what stands before this place begins no frame; where a frame is whole there, this is its check place
abbrev pub IsSought : ℕ → List ℕ → ℕ → Option ℕ → Type 0
IsSought n1 octets place None = IsPassed n1 octets place
IsSought n1 octets place (Some check_place) = IsSearched n1 octets place (Some check_place)

-- of so many octets in front the deframer is done; it keeps the check place of the frame at hand behind them
pub record IsReady (n1 : ℕ) (octets : List ℕ) (passed : ℕ) (capacity : ℕ) (check_place : Option ℕ) : Type 0 where
  pub within : passed ≤ length octets
  pub are_octets : AreOctets octets
  pub settled : IsSettled n1 (drop passed octets) capacity
  pub at_hand : IsAtHand n1 (drop passed octets) check_place

-- octets at the front that begin no frame are dropped; then this is the check place of the frame at hand, if there is
-- one
pub record Settles (n1 : ℕ) (old new : List ℕ) (check_place : Option ℕ) : Type 0 where
  pub decided : decision_on n1 new ≢ refused
  pub reads : SameReading n1 old new
  pub kept : decision_on n1 old ≢ refused → new ≡ old
  pub octets : AreOctets new
  pub shorter : length new ≤ length old
  pub at_hand : IsAtHand n1 new check_place

-- so it is with the octets behind so many, where those up to this place are dropped
pub record SettlesFrom (n1 : ℕ) (octets : List ℕ) (passed place : ℕ) (check_place : Option ℕ) : Type 0 where
  pub within : place ≤ length octets
  pub settles : Settles n1 (drop passed octets) (drop place octets) check_place
