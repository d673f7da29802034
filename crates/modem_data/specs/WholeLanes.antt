-- What a lane comes to: in whatever frames its octets came, its lines and its data are those of all that came since it began.
use Rattle.std.specs.Prelude.{◌≡◌, ℕ, ◌==◌, ◌&&◌, ◌||◌, false, List, [], ◌∷◌, ◌++◌, Option, Some, None, if◌then◌else◌}
use Rattle.mux_station.specs.Acts as station
use Rattle.mux_station.specs.declared.role.Role.{Role}
use Rattle.modem_data.specs.declared.begin.Begin.{Begin}
use Rattle.modem_data.specs.declared.begin.Begin.TheVariants.{ByOwnConnect}
use Rattle.modem_data.specs.Switching.{Owns, is_behind_lines, lines_of, data_of, carries_after, carries_sent}
use Rattle.modem_data.specs.Passing.{Pass, Came, Went, Flowed, Lost, Began, EndedLane, is_info, ends_here, drops_here, begin_of, carries, data_came}

-- how the lane of d began that is under way; none where its opening has ended since then, the line or the carrier of its data was
-- lost, or it was ended
abbrev pub under_way : Role → ℕ → List Pass → Option Begin
under_way role d [] = None
under_way role d (Came f ∷ past) =
    if is_info role d past f then under_way role d past
    else (if ends_here role d past (station.Got f) || (drops_here role d past f && is_behind_lines (carries role d past)) then None
    else under_way role d past)
under_way role d (Went f ∷ past) = if ends_here role d past (station.Sent f) then None else under_way role d past
under_way role d (Flowed f ∷ past) = if ends_here role d past (station.Sent f) then None else under_way role d past
under_way role d (Lost ∷ past) = None
under_way role d (Began e how until ∷ past) = if e == d then Some how else under_way role d past
under_way role d (EndedLane e ∷ past) = if e == d then None else under_way role d past
under_way role d (_ ∷ past) = under_way role d past

-- the information that came on d since then, and what of it were lines, for the driver
abbrev pub came_since : Role → ℕ → List Pass → List ℕ
came_since role d [] = []
came_since role d (Came f ∷ past) = if is_info role d past f then came_since role d past ++ f.info else came_since role d past
came_since role d (Began e how until ∷ past) = if e == d then [] else came_since role d past
came_since role d (_ ∷ past) = came_since role d past

abbrev pub lines_since : Role → ℕ → List Pass → List ℕ
lines_since role d [] = []
lines_since role d (Came f ∷ past) =
    if is_info role d past f then lines_since role d past ++ lines_of (carries role d past) f.info else lines_since role d past
lines_since role d (Began e how until ∷ past) = if e == d then [] else lines_since role d past
lines_since role d (_ ∷ past) = lines_since role d past

-- the lane of d that began so has just the lines and the data of the octets that came since then, and stands as these leave it
pub record IsWhole (role : Role) (how : Begin) (d : ℕ) (past : List Pass) : Type 0 where
  pub lines_are : lines_since role d past ≡ lines_of (begin_of how) (came_since role d past)
  pub data_are : data_came role d past ≡ data_of (begin_of how) (came_since role d past)
  pub stands : carries role d past ≡ carries_after (begin_of how) (came_since role d past)

-- the information that the driver wrote on d since then
abbrev pub sent_since : Role → ℕ → List Pass → List ℕ
sent_since role d [] = []
sent_since role d (Went f ∷ past) = if is_info role d past f then sent_since role d past ++ f.info else sent_since role d past
sent_since role d (Began e how until ∷ past) = if e == d then [] else sent_since role d past
sent_since role d (_ ∷ past) = sent_since role d past

-- The lane of d that began by a CONNECT line of the driver's own stands as the driver's octets since then leave it. What came is lines, and
-- then data; none of it is data before that line has ended.
pub record IsWholeByOwn (role : Role) (d : ℕ) (past : List Pass) : Type 0 where
  pub stands : carries role d past ≡ carries_sent (Owns []) (sent_since role d past)
  pub joins : lines_since role d past ++ data_came role d past ≡ came_since role d past
  pub none_before : is_behind_lines (carries role d past) ≡ false → data_came role d past ≡ []

abbrev pub IsWholeLane : Role → Begin → ℕ → List Pass → Type 0
IsWholeLane role ByOwnConnect d past = IsWholeByOwn role d past
IsWholeLane role how d past = IsWhole role how d past

unfoldable pub LanesAreWhole : Type 0
LanesAreWhole = (role : Role) (d : ℕ) (past : List Pass) (how : Begin) → under_way role d past ≡ Some how → IsWholeLane role how d past
