-- The rule by which a connection opens and ends (27.010, 5.4.1, 5.4.2, 5.4.6.3), read over the past, and that the table
-- keeps it.
use Rattle.std.specs.Prelude.{◌≡◌, ℕ, ◌&&◌, ◌||◌, not, Bool, true, false, List, [], ◌∷◌, ◌++◌}
use Rattle.mux_station.specs.declared.role.Role.{Role}
use Rattle.mux_station.specs.Acts.{Act}
use Rattle.mux_station.specs.Opening.{is_open, is_asked, is_mode_frame, asks, opens, ends, opens_now}

-- whether some act opened d and none ended it since; and whether its last mode frame is a SABM that was sent
pub record Standing : Type 0 where
  pub is_open : Bool
  pub is_asked : Bool

abbrev pub standing_after : Role → Bool → ℕ → Standing → Act → Standing
standing_after r zero d s a = record {
  is_open = opens r zero s.is_asked d a || (s.is_open && not (ends zero d a));
  is_asked = asks d a || (s.is_asked && not (is_mode_frame d a || ends zero d a));
}

-- how 0 and d stand
pub record Standings : Type 0 where
  pub zero : Standing
  pub own : Standing

abbrev pub not_open : Standing
not_open = record { is_open = false; is_asked = false }

abbrev pub standings_after : Role → ℕ → Standings → Act → Standings
standings_after r d s a = record {
  zero = standing_after r s.zero.is_open 0 s.zero a;
  own = standing_after r s.zero.is_open d s.own a;
}

abbrev pub standings : Role → ℕ → List Act → Standings
standings r d [] = record { zero = not_open; own = not_open }
standings r d (a ∷ past) = standings_after r d (standings r d past) a

-- how d stands after the past
abbrev pub standing : Role → ℕ → List Act → Standing
standing r d past = record { is_open = is_open r d past; is_asked = is_asked r d past }

-- d is open after the past, by the rule
abbrev pub is_open_by_rule : Role → ℕ → List Act → Bool
is_open_by_rule r d past = (standings r d past).own.is_open

-- the law: a connection is Opened in the table exactly where the rule has it open
abbrev pub OpenedIsOpen : Role → List Act → Type 0
OpenedIsOpen r past = (d : ℕ) → is_open r d past ≡ is_open_by_rule r d past

-- none of the newer acts, put before the past one after the other, ends d
abbrev pub NoneEnds : Role → ℕ → List Act → List Act → Type 0
NoneEnds r d [] past = Unit {0}
NoneEnds r d (a ∷ newer) past = (ends (is_open r 0 (newer ++ past)) d a ≡ false) × NoneEnds r d newer past

-- some act opened d, and no later one ended it
pub record OpenedBefore (r : Role) (d : ℕ) (past : List Act) : Type 0 where
  pub newer : List Act
  pub opening : Act
  pub older : List Act
  pub joins : newer ++ opening ∷ older ≡ past
  pub opens : opens_now r d older opening ≡ true
  pub lasts : NoneEnds r d newer (opening ∷ older)

-- the law: d is open exactly where some act opened it and no later one ended it
pub record IsOpenByPlaces (r : Role) (d : ℕ) (past : List Act) : Type 0 where
  pub place : is_open r d past ≡ true → OpenedBefore r d past
  pub open_there : OpenedBefore r d past → is_open r d past ≡ true
