-- Lines that wait on two connections, and which connections are held by them, worked by hand.
use Rattle.std.specs.Prelude.{◌≡◌, ℕ, true, false, List, [], ◌∷◌, ◌++◌, codes, replicate}
use Rattle.mux_frame.specs.declared.frame.Kind.TheVariants.{Sabm, Ua, Uih}
use Rattle.at_text.specs.declared.unsolicited.UrcKind.{UrcKind}
use Rattle.at_text.specs.declared.unsolicited.UrcKind.TheVariants.{Ring, Creg, Cgev, Ciev, Other}
use Rattle.modem_desk.specs.declared.request.Ask.TheVariants.{OpenChannel}
use Rattle.modem_desk.specs.declared.request.Answer.TheVariants.{Opened}
use Rattle.modem_desk.specs.declared.request.Urc.{Urc}
use Rattle.modem_history.specs.Acts.{Act, Held, Freed, Given, after}
use Rattle.modem_history.specs.Sessions.{SessionView, backlog_in}
use Rattle.modem_history.specs.Turns.{HoldsByBacklog, HoldsWhereRoom, may_act}
use Rattle.modem_history.specs.Rows.{two, takes, tells, sends, comes, msc_command, opening_one}
use Rattle.modem_history.specs.SessionRows.{beginning, settled, ring, line_on_one}

-- ## Lines that wait

abbrev pub line_on_two : UrcKind → List ℕ → Urc
line_on_two k line = record { kind = k; dlci = two; line = line }

abbrev pub ring_on_two : Urc
ring_on_two = line_on_two Ring (codes "RING")

-- lines of five kinds, on 1 and 2 by turns, one of them twice
abbrev pub mixed : List Urc
mixed =
    ring ∷ ring_on_two ∷ line_on_one Creg (codes "+CREG: 1") ∷ line_on_two Ciev (codes "+CIEV: 2,4") ∷
    line_on_one Cgev (codes "+CGEV: NW DETACH") ∷ line_on_one Other (codes "OK") ∷ ring_on_two ∷ ring ∷ []

-- all kinds count alike, each line where it came
pub record CountsByConnection : Type 0 where
  pub none : backlog_in 0 mixed ≡ 0
  pub on_one : backlog_in 1 mixed ≡ 5
  pub on_two : backlog_in 2 mixed ≡ 3
  pub on_three : backlog_in 3 mixed ≡ 0
  pub of_none : backlog_in 1 [] ≡ 0
  pub many : backlog_in 1 (replicate 200 ring_on_two ++ replicate 255 ring ++ mixed) ≡ 260

-- ## Sessions

-- a session in which these lines wait, and its history, oldest act first
pub record BacklogRow : Type 0 where
  pub view : SessionView
  pub acts : List Act

abbrev pub IsHeldRight : BacklogRow → Type 0
IsHeldRight row = HoldsByBacklog row.view (after [] row.acts)

abbrev pub IsHeldWrong : BacklogRow → Type 0
IsHeldWrong row = ¬ HoldsByBacklog row.view (after [] row.acts)

abbrev pub waiting : List Urc → List Act → BacklogRow
waiting lines acts = record {
  view = record (settled [] [] [] [] [] [] []) { unannounced = lines };
  acts = acts;
}

-- 1 and 2 are open: none is held; 1 is held; 2 is held; 1 was held and freed
abbrev pub opening_two : List Act
opening_two =
    opening_one ++ takes 4 (OpenChannel two) ∷ sends Sabm 2 [] ∷ Given ∷ comes Ua 2 [] ∷
    sends Uih 0 (msc_command 2 0x8d) ∷
    tells 4 Opened ∷ Given ∷ []

abbrev pub holding_one : List Act
holding_one = opening_two ++ Held 1 ∷ sends Uih 0 (msc_command 1 0x8f) ∷ Given ∷ []

abbrev pub holding_two : List Act
holding_two = opening_two ++ Held 2 ∷ sends Uih 0 (msc_command 2 0x8f) ∷ Given ∷ []

abbrev pub freeing_one : List Act
freeing_one = holding_one ++ Freed 1 ∷ sends Uih 0 (msc_command 1 0x8d) ∷ Given ∷ []

-- between 128 and 255 a connection is held or isn't, as it was; each is held by its own lines, and while it
-- is open alone
abbrev pub rightly_held : List BacklogRow
rightly_held =
    waiting [] opening_two ∷ waiting (replicate 255 ring) opening_two ∷
    waiting (replicate 255 ring ++ replicate 255 ring_on_two) opening_two ∷
    waiting (replicate 256 ring) holding_one ∷
    waiting (replicate 255 ring_on_two ++ replicate 256 ring) holding_one ∷
    waiting (replicate 200 ring) holding_one ∷
    waiting (replicate 200 ring) freeing_one ∷ waiting (replicate 128 ring) holding_one ∷
    waiting (replicate 128 ring) freeing_one ∷ waiting (replicate 127 ring) freeing_one ∷
    waiting (replicate 256 ring_on_two) opening_one ∷ []

-- 256 lines wait, and the connection isn't held, or not any more; it isn't held, and another is; lines of two kinds are
-- 256; 127, 1 and no lines wait, and it is held; the lines that wait are another's
abbrev pub wrongly_held : List BacklogRow
wrongly_held =
    waiting (replicate 256 ring) opening_two ∷ waiting (replicate 256 ring) freeing_one ∷
    waiting (replicate 256 ring) holding_two ∷
    waiting (replicate 255 ring ++ replicate 256 ring_on_two) holding_one ∷
    waiting (replicate 128 ring ++ replicate 128 (line_on_one Creg (codes "+CREG: 1"))) opening_two ∷
    waiting (replicate 127 ring) holding_one ∷ waiting (ring ∷ []) holding_one ∷ waiting [] holding_one ∷
    waiting (replicate 127 ring ++ replicate 200 ring_on_two) holding_one ∷ []

-- ## A full control queue

abbrev pub IsHeldOrFull : BacklogRow → Type 0
IsHeldOrFull row = HoldsWhereRoom beginning row.view (after [] row.acts)

abbrev pub IsNeither : BacklogRow → Type 0
IsNeither row = ¬ HoldsWhereRoom beginning row.view (after [] row.acts)

-- 4110 octets wait in the control queue, and a frame with this information
abbrev pub queued : List ℕ → List Act
queued info = replicate 411 (sends Uih 0 (msc_command 2 0x8d)) ++ sends Uih 0 info ∷ []

-- with 4118 octets an MSC has no place (with it they were 4128, and there is room for 4096 and 31): 1 can't
-- be held, 1 can't be freed; and each is held by its backlog, whether or not there is a place
abbrev pub held_or_full : List BacklogRow
held_or_full =
    waiting (replicate 256 ring) (opening_two ++ queued (0x63 ∷ 1 ∷ [])) ∷
    waiting [] (holding_one ++ queued (0x63 ∷ 1 ∷ [])) ∷
    waiting [] opening_two ∷ waiting (replicate 256 ring) (holding_one ++ queued (0x63 ∷ 1 ∷ [])) ∷ []

-- with 4117 octets, and with none, an MSC has a place
abbrev pub neither_held_nor_full : List BacklogRow
neither_held_nor_full =
    waiting (replicate 256 ring) (opening_two ++ queued (0x63 ∷ [])) ∷
    waiting [] (holding_one ++ queued (0x63 ∷ [])) ∷
    waiting (replicate 256 ring) opening_two ∷ waiting [] holding_one ∷ []

-- ## Acts

-- how many lines have to wait so that a turn may hold their connection, and how few so that it may free it
pub record MayHoldAndFree : Type 0 where
  pub holds : may_act (replicate 256 ring) (Held 1) ≡ true
  pub holds_early : may_act (replicate 255 ring) (Held 1) ≡ false
  pub holds_another : may_act (replicate 256 ring) (Held 2) ≡ false
  pub frees : may_act (replicate 127 ring) (Freed 1) ≡ true
  pub frees_early : may_act (replicate 128 ring) (Freed 1) ≡ false
  pub frees_another : may_act (replicate 256 ring) (Freed 2) ≡ true
