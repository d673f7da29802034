-- Data that the user offers, and data that leaves.
use Rattle.std.specs.Prelude.{ℕ, ◌==◌, ◌&&◌, List, [], ◌∷◌, ◌++◌, if◌then◌else◌}
use Rattle.mux_station.specs.declared.role.Role.{Role}
use Rattle.mux_station.specs.Written.{is_data_frame}
use Rattle.mux_station.specs.Acts.{Offer, Act, Called, Sent}
use Rattle.mux_station.specs.Opening.{since}

abbrev pub octets_offered : ℕ → Act → List ℕ
octets_offered d (Called (Offer e octets)) = if e == d then octets else []
octets_offered d _ = []

abbrev pub octets_sent : ℕ → Act → List ℕ
octets_sent d (Sent f) = if is_data_frame f && (f.dlci == d) then f.info else []
octets_sent d _ = []

-- what each of the acts (newest first) brings, joined in their order
abbrev pub joined_octets : (Act → List ℕ) → List Act → List ℕ
joined_octets brings [] = []
joined_octets brings (a ∷ acts) = joined_octets brings acts ++ brings a

-- what was offered on d since it opened, and what was given on
abbrev pub offered : Role → ℕ → List Act → List ℕ
offered r d past = joined_octets (octets_offered d) (since r d past)

abbrev pub data_out : Role → ℕ → List Act → List ℕ
data_out r d past = joined_octets (octets_sent d) (since r d past)

-- the connection that last sent data, in the whole past; at first 0, which sends none
abbrev pub last_sender : List Act → ℕ
last_sender [] = 0
last_sender (Sent f ∷ past) = if is_data_frame f then f.dlci else last_sender past
last_sender (_ ∷ past) = last_sender past
