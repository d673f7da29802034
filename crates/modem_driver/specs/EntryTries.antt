-- An entry into the multiplexer in one call: at most three tries, and behind each but the last that nothing answered a fill of
-- flags and a CLD frame (27.007, 5.7; 27.010, 5.2 and 5.4.6.3.3).
use Rattle.std.specs.Prelude.{◌≡◌, ℕ, ◌+◌, ◌-◌, ◌^◌, min, ◌<◌, ◌≤◌, Bool, true, false, List, [], ◌∷◌, ◌++◌, codes, replicate}
use Rattle.mux_frame.specs.Spelling.{spelled}
use Rattle.at_text.specs.declared.finals.Final.{Final}
use Rattle.at_text.specs.declared.finals.Final.TheVariants.{Good}
use Rattle.modem_history.specs.Sessions.{LineView}
use Rattle.modem_driver.specs.EntrySteps.{EntryView, IsAsked, IsAnswered, close_down_frame}
use Rattle.modem_driver.specs.declared.entering.EntryError.{EntryError}
use Rattle.modem_driver.specs.declared.entering.EntryError.TheVariants as error

-- AT+CMUX=? and CR: which values the entry may have
abbrev pub ranges_text : List ℕ
ranges_text = codes "AT+CMUX=?" ++ 13 ∷ []

-- Since the line was `first`, a beginning of the text was sent, nothing was read before the whole text was sent, and no
-- final code has come.
pub record IsUnanswered (first now : LineView) (text : List ℕ) : Type 0 where
  pub entry : EntryView
  pub text_is : entry.text ≡ text
  pub asked : IsAsked first now entry

-- the ranges were asked where they are to be asked first, and any final code came; else nothing was done
pub data HasAskedFirst (first : LineView) : (ranges : Bool) → (now : LineView) → Type 0 where
  asked_none : HasAskedFirst first false first
  asked_ranges : (now : LineView) (code : Final) → IsAnswered first now ranges_text code → HasAskedFirst first true now

-- a try that was answered by this code
pub record IsTried (first now : LineView) (ranges : Bool) (text : List ℕ) (code : Final) : Type 0 where
  pub mid : LineView
  pub before : HasAskedFirst first ranges mid
  pub answered : IsAnswered mid now text code

-- a try that wasn't answered: the ranges weren't, or the text wasn't
pub data HasNoReply (first now : LineView) (ranges : Bool) (text : List ℕ) : Type 0 where
  no_ranges : ranges ≡ true → IsUnanswered first now ranges_text → HasNoReply first now ranges text
  no_code : (mid : LineView) → HasAskedFirst first ranges mid → IsUnanswered mid now text → HasNoReply first now ranges text

-- ## Closing down

-- As many flags as end a frame of at most N1 octets of information that another driver began: it waits for its
-- information, its check octet and its last flag, and the flag behind those begins the next frame.
abbrev pub flags : ℕ → List ℕ
flags count = replicate count 0xF9

abbrev pub fill : ℕ → List ℕ
fill n1 = flags (n1 + 3)

-- these octets were sent, whatever was read meanwhile
pub record IsSent (first now : LineView) (octets : List ℕ) : Type 0 where
  pub sent_are : now.sent ≡ first.sent ++ octets
  pub read : List ℕ
  pub read_are : now.received ≡ first.received ++ read

-- a beginning of these octets was sent, whatever was read meanwhile
pub record IsPartlySent (first now : LineView) (octets : List ℕ) : Type 0 where
  pub begun : List ℕ
  pub rest : List ℕ
  pub octets_are : octets ≡ begun ++ rest
  pub sent : IsSent first now begun

-- the fill and a CLD frame
abbrev pub closing : ℕ → List ℕ
closing n1 = fill n1 ++ spelled close_down_frame

-- ## Tries

-- so many tries weren't answered, and behind each the fill and a CLD frame were sent, and what came then was read
pub data HasTried (n1 : ℕ) (ranges : Bool) (text : List ℕ) (first : LineView) : ℕ → LineView → Type 0 where
  tried_none : HasTried n1 ranges text first 0 first
  tried_more : (tries : ℕ) (before mid now : LineView) → HasTried n1 ranges text first tries before
      → HasNoReply before mid ranges text → IsSent mid now (closing n1) → HasTried n1 ranges text first (tries + 1) now

-- an entry whose text was answered by this code, at one of three tries
pub record IsRepliedTo (first now : LineView) (n1 : ℕ) (ranges : Bool) (text : List ℕ) (code : Final) : Type 0 where
  pub tries : ℕ
  pub few : tries ≤ 2
  pub before : LineView
  pub tried : HasTried n1 ranges text first tries before
  pub answered : IsTried before now ranges text code

-- an entry that nothing answered: none of three tries was, or a fill and CLD frame weren't wholly sent
pub data IsNeverRepliedTo (first now : LineView) (n1 : ℕ) (ranges : Bool) (text : List ℕ) : Type 0 where
  not_closed : (tries : ℕ) (before mid : LineView) → tries ≤ 1 → HasTried n1 ranges text first tries before
      → HasNoReply before mid ranges text → IsPartlySent mid now (closing n1) → IsNeverRepliedTo first now n1 ranges text
  not_answered : (before : LineView) → HasTried n1 ranges text first 2 before → HasNoReply before now ranges text
      → IsNeverRepliedTo first now n1 ranges text

-- the final code is another than OK
pub record IsTurnedDown (first now : LineView) (n1 : ℕ) (ranges : Bool) (text : List ℕ) : Type 0 where
  pub code : Final
  pub other : code ≡ Good → ⊥
  pub replied : IsRepliedTo first now n1 ranges text code

-- what a refusal says of what was sent and what came; where the line failed, it has one failure more
abbrev pub SaysWhy : EntryError → (first now : LineView) → ℕ → Bool → List ℕ → Type 0
SaysWhy error.Refused first now n1 ranges text = IsTurnedDown first now n1 ranges text
SaysWhy error.NoAnswer first now n1 ranges text = IsNeverRepliedTo first now n1 ranges text
SaysWhy error.Line first now n1 ranges text = now.failures ≡ first.failures + 1

-- ## Patience

-- the line was called at least as often as patience was asked, unless its count of calls is at u64::MAX
abbrev pub KeepsUp : (asked_before asked_after calls_before calls_after : ℕ) → Type 0
KeepsUp a b c d = min (c + (b - a)) (2 ^ 64 - 1) ≤ d

-- these counts of the line, how often patience was asked, and how often of these after a step that moved nothing, aren't at u64::MAX
pub record AreBelow (now : LineView) (asked_after idle_after : ℕ) : Type 0 where
  pub calls : now.calls < 2 ^ 64 - 1
  pub reads : now.empty_reads < 2 ^ 64 - 1
  pub writes : now.stalled_writes < 2 ^ 64 - 1
  pub asked : asked_after < 2 ^ 64 - 1
  pub idle : idle_after < 2 ^ 64 - 1

-- patience was asked after each call of the line but at most so many, and told that nothing moved once for each read that gave
-- nothing and each write that took nothing
pub record EachIsAsked (but : ℕ) (first now : LineView) (asked_before asked_after idle_before idle_after : ℕ) : Type 0 where
  pub calls : first.calls ≤ now.calls
  pub reads : first.empty_reads ≤ now.empty_reads
  pub writes : first.stalled_writes ≤ now.stalled_writes
  pub asked : asked_before ≤ asked_after
  pub each : now.calls + asked_before ≤ first.calls + asked_after + but
  pub idle : idle_after + (first.empty_reads + first.stalled_writes) ≡ idle_before + (now.empty_reads + now.stalled_writes)

-- the same by the counts of the line and of patience, unless one of these is at u64::MAX
pub record AsksEach (but : ℕ) (first now : LineView) (asked_before asked_after idle_before idle_after : ℕ) : Type 0 where
  pub each : AreBelow now asked_after idle_after → EachIsAsked but first now asked_before asked_after idle_before idle_after

-- an entry by a text that nothing has answered: its state, how often the line was called at least, and how often
-- patience was asked
pub record IsAsking (first now : LineView) (text : List ℕ) (made : ℕ) (entry : EntryView) (before after : ℕ) : Type 0 where
  pub asked : IsAsked first now entry
  pub text_is : entry.text ≡ text
  pub sound : now.failures ≡ first.failures
  pub made_is : min (first.calls + made) (2 ^ 64 - 1) ≤ now.calls
  pub keeps_up : KeepsUp before after first.calls now.calls
