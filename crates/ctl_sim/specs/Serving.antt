-- What a modem for a client answers, over a reader and a writer: plain lines and multiplexers in turn.
use Rattle.std.specs.Prelude.{◌≡◌, ℕ, ◌<◌, ◌≤◌, ◌⊎◌, not, Bool, true, false, List, [], ◌∷◌, ◌++◌, Option, Some, None, IfSome}
use Rattle.std.specs.Io.KnownBytes.{Appends}
use Rattle.at_cmds.specs.Forms.{is_pin}
use Rattle.modem_sim.specs.declared.script.Step.{Step}
use Rattle.modem_sim.specs.declared.state.ModemState.{ModemState}
use Rattle.mux_frame.specs.Frames.{Frame}
use Rattle.mux_frame.specs.Reading.{Reads}
use Rattle.mux_frame.specs.Spelling.{flag, IsBadN1}
use Rattle.modem_sim.specs.Acts.{Act, End}
use Rattle.modem_sim.specs.Heard.{modem_after}
use Rattle.modem_sim.specs.Steps.{started_with_words}
use Rattle.ctl_sim.specs.declared.fault.BadOption.{BadOption}
use Rattle.ctl_sim.specs.declared.serving.SimOptions.{SimOptions}
use Rattle.mux_capture.specs.FirstFrame.{ReadsFirst}
use Rattle.ctl_sim.specs.InMux.{Closes, Handles, is_closed_by, mux_end}
use Rattle.ctl_sim.specs.Plain.{Plain, plain_after, plain_begun}

-- the setting of a client: N1 where a line doesn't name it, what its modem does of its own accord in each multiplexer, and the
-- modem
pub record Setting : Type 0 where
  pub n1 : ℕ
  pub steps : List Step
  pub modem : ModemState

-- plain lines that were begun by this modem, after these octets
abbrev pub plain_by_now : Setting → ModemState → List ℕ → Plain
plain_by_now s m octets = plain_after (plain_begun s.n1 m) octets

-- the last of these octets ends a line that enters the multiplexer with this N1
pub record EntersAfter (s : Setting) (m : ModemState) (octets : List ℕ) (n1 : ℕ) : Type 0 where
  pub entered : (plain_by_now s m octets).entered ≡ Some n1
  pub none_behind : (plain_by_now s m octets).behind ≡ []

-- where a modem for a client is: plain lines begin with this modem; or it is in a multiplexer, and has this past there
pub data Stage : Type 0 where
  Lines : ModemState → Stage
  Mux : End → List Act → Stage

-- a line that enters the multiplexer: with which N1, and what came behind it and went behind what is said to it
pub record Entry : Type 0 where
  pub n1 : ℕ
  pub came : List ℕ
  pub went : List ℕ

-- the same entries, once so much more came and went
abbrev pub with_more : (came went : List ℕ) → List Entry → List Entry
with_more came went [] = []
with_more came went (e ∷ more) = record { n1 = e.n1; came = e.came ++ came; went = e.went ++ went } ∷ with_more came went more

-- What goes to octets that come from there on, and which of them enter the multiplexer. Plain lines are answered, up to one that enters
-- it. There frame after frame is handled; the closing flag of one can be the first of the next. What follows the closing flag of a
-- frame that ends the multiplexer are plain lines again, on the modem as it is then.
pub data AnswersFrom (s : Setting) : (at : Stage) (came went : List ℕ) → List Entry → Type 0 where
  at_lines :
      (m : ModemState) (lines : List ℕ) → (plain_by_now s m lines).entered ≡ None
      → AnswersFrom s (Lines m) lines (plain_by_now s m lines).said []
  enters :
      (m : ModemState) (lines came went : List ℕ) (n1 : ℕ) (es : List Entry) → EntersAfter s m lines n1
      → AnswersFrom s (Mux (mux_end n1 (plain_by_now s m lines).modem s.steps) []) came went es
      → AnswersFrom s (Lines m) (lines ++ came) ((plain_by_now s m lines).said ++ went) (record { n1 = n1; came = came; went = went } ∷ es)
  no_frame :
      (e : End) (past : List Act) (came rest : List ℕ) → Reads e.n1 came [] rest → AnswersFrom s (Mux e past) came [] []
  goes_on :
      (e : End) (past : List Act) (came behind more went : List ℕ) (f : Frame) (now : List Act) (es : List Entry)
      → ReadsFirst e.n1 came f behind → Handles e past f more now → is_closed_by past now ≡ false
      → AnswersFrom s (Mux e now) (flag ∷ behind) went es → AnswersFrom s (Mux e past) came (more ++ went) es
  closes :
      (e : End) (past : List Act) (came behind more went : List ℕ) (f : Frame) (now : List Act) (es : List Entry)
      → ReadsFirst e.n1 came f behind → Closes e past f more now
      → AnswersFrom s (Lines (modem_after e now)) behind went es → AnswersFrom s (Mux e past) came (more ++ went) es

-- all octets that came were answered by all that went, and these lines entered the multiplexer
abbrev pub AnswersEntering : Setting → (came went : List ℕ) → List Entry → Type 0
AnswersEntering s came went entries = AnswersFrom s (Lines s.modem) came went entries

-- whichever did
pub record Answers (s : Setting) (came went : List ℕ) : Type 0 where
  pub entries : List Entry
  pub entering : AnswersEntering s came went entries

-- what answers all octets that a reader had was written, and nothing else
pub record WritesAnswers (s : Setting) (before after : Option (List ℕ)) (all : List ℕ) : Type 0 where
  pub went : List ℕ
  pub answers : Answers s all went
  pub written : Appends before after went

-- of all that the reader has, where that is known
abbrev pub IsAnswered : Setting → (input before after : Option (List ℕ)) → Type 0
IsAnswered s input before after = IfSome input (WritesAnswers s before after)

-- the modem of such a client: with words, a signal of strength 18 and an error rate that isn't known
abbrev pub client_modem : Option (List ℕ) → Bool → ModemState
client_modem pin echo = started_with_words (record { pin = pin; rssi = 18; ber = 99 }) echo

-- by what the options say; the modem gives their answers before it looks into its tables
abbrev pub setting_of : SimOptions → Setting
setting_of options = record {
  n1 = options.n1;
  steps = options.steps;
  modem = record (client_modem options.pin options.echo) { own = options.answers };
}

abbrev pub IsServed : SimOptions → (input before after : Option (List ℕ)) → Type 0
IsServed options input before after = IsAnswered (setting_of options) input before after

-- a PIN is given, and isn't 4 to 8 digits
abbrev pub has_bad_pin : Option (List ℕ) → Bool
has_bad_pin None = false
has_bad_pin (Some pin) = not (is_pin pin)

-- this option is bad: N1 isn't 31 to 32767; or it is, and the PIN isn't 4 to 8 digits
abbrev pub IsBadBy : SimOptions → BadOption → Type 0
IsBadBy options BadOption.N1 = IsBadN1 options.n1
IsBadBy options BadOption.Pin = (31 ≤ options.n1) × (options.n1 ≤ 32767) × (has_bad_pin options.pin ≡ true)

-- N1 isn't 31 to 32767, or the PIN isn't 4 to 8 digits
abbrev pub HasBadOption : SimOptions → Type 0
HasBadOption options = IsBadN1 options.n1 ⊎ (has_bad_pin options.pin ≡ true)
