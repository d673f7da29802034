-- Worked histories of a simulated modem with a connection in a call: where its script may announce a line then.
use Rattle.std.specs.Prelude.{◌≡◌, true, false, List, [], ◌∷◌, ◌++◌, codes}
use Rattle.mux_frame.specs.declared.frame.Kind.TheVariants.{Disc, Ua}
use Rattle.modem_sim.specs.declared.script.StepAct.TheVariants.{Announce, Disconnect}
use Rattle.modem_sim.specs.Acts.{Act, End, after}
use Rattle.modem_sim.specs.Doing.{is_free}
use Rattle.modem_sim.specs.Laws.{after_lines}
use Rattle.modem_sim.specs.Pieces.{framed}
use Rattle.modem_sim.specs.Rows.{unlocked}
use Rattle.modem_sim.specs.Steps.{started_with_words}
use Rattle.modem_sim.specs.HistoryRows.{asks, comes, gives, one, opening, ready_two, sends, simulated, two, writes}

-- a modem with words that has context 1 active
abbrev pub dialled : End
dialled = record (simulated false []) { modem = after_lines (started_with_words unlocked false) (codes "AT+CGDCONT=1,\"IP\",\"a\";+CGACT=1,1" ∷ []) }

-- 1 is in a call; then it is closed, and opened anew
abbrev pub called : List Act
called = ready_two ++ asks 1 (codes "ATD*99#") ∷ writes 1 (framed (codes "CONNECT"))

abbrev pub called_before : List Act
called_before = called ++ comes Disc 1 [] ∷ sends Ua 1 [] ∷ gives ∷ opening 1

-- a call over a context that isn't active
abbrev pub not_called : List Act
not_called = ready_two ++ asks 1 (codes "ATD*99***2#") ∷ writes 1 (framed (codes "NO CARRIER"))

-- nothing is announced in a call; elsewhere, without one and behind one it may be, and a call may be closed
abbrev pub CallsKeepQuiet : Type 0
CallsKeepQuiet =
    (is_free dialled (after [] called) (Announce one (codes "RING")) ≡ false) × (is_free dialled (after [] called) (Announce two (codes "RING")) ≡ true)
    × (is_free dialled (after [] called) (Disconnect one) ≡ true) × (is_free dialled (after [] called_before) (Announce one (codes "RING")) ≡ true)
    × (is_free dialled (after [] not_called) (Announce one (codes "RING")) ≡ true)
