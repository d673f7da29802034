-- How a modem for a client stands after octets that came.
use Rattle.std.specs.Prelude.{◌≡◌, ℕ, ◌+◌, ◌*◌, ◌≤◌, ◌<◌, min, true, false, List, [], ◌∷◌, ◌++◌, take, drop, length, Option, Some, None}
use Rattle.mux_frame.specs.Frames.{Frame}
use Rattle.mux_frame.specs.Laws.{AreOctets}
use Rattle.mux_frame.specs.Reading.{Reads}
use Rattle.mux_frame.specs.Spelling.{flag, Spells}
use Rattle.modem_sim.specs.declared.state.ModemState.{ModemState}
use Rattle.modem_sim.specs.Acts.{Act}
use Rattle.modem_sim.specs.Histories.{got}
use Rattle.modem_sim.specs.Sims.{SimState, modem_of}
use Rattle.ctl_sim.specs.declared.server.Mode.{Mode}
use Rattle.ctl_sim.specs.declared.server.Mode.TheVariants.{Lines, Mux}
use Rattle.ctl_sim.specs.declared.server.Setup.{Setup}
use Rattle.ctl_sim.specs.HeldLine.{HeldState}
use Rattle.ctl_sim.specs.InMux.{mux_end, octets_sent}
use Rattle.ctl_sim.specs.MuxStates.{MuxState}
use Rattle.ctl_sim.specs.Muxes.{FitsMux, IsFed}
use Rattle.ctl_sim.specs.Plain.{Plain, plain_after, plain_begun}
use Rattle.ctl_sim.specs.Serving.{AnswersFrom, Entry, Setting, plain_by_now, with_more}
use Rattle.ctl_sim.specs.Serving as stage

-- all that was said is handed out
abbrev pub unsaid : Plain → Plain
unsaid p = record p { said = [] }

-- what was said before stands before it
abbrev pub with_said : List ℕ → Plain → Plain
with_said said p = record p { said = said ++ p.said }

-- At plain lines. These octets came, of which those of `left` aren't taken yet, and these went; so far these lines entered the
-- multiplexer. With what goes to the octets left and to more that comes, all that comes is answered.
pub record AtLines (s : Setting) (came went : List ℕ) (entries : List Entry) (p : Plain) (left : List ℕ) : Type 0 where
  pub modem : ModemState
  pub lines : List ℕ
  pub none : (plain_by_now s modem lines).entered ≡ None
  pub plain_is : p ≡ unsaid (plain_by_now s modem lines)
  pub leads :
      (later more : List ℕ) (es : List Entry)
      → AnswersFrom s (stage.Lines modem) (lines ++ (left ++ later)) ((plain_by_now s modem lines).said ++ more) es
      → AnswersFrom s (stage.Lines s.modem) (came ++ later) (went ++ more) (with_more later more entries ++ es)

-- In a multiplexer, the same. `handed` are the texts of the frames that came.
pub record AtMux (s : Setting) (came went : List ℕ) (entries : List Entry) (mux : MuxState) (left : List ℕ) : Type 0 where
  pub modem : ModemState
  pub past : List Act
  pub handed : List ℕ
  pub fits : FitsMux (mux_end mux.n1 modem s.steps) handed (octets_sent past) mux.sim past
  pub octets_are : AreOctets handed
  pub next :
      (b : List ℕ) (f : Frame) → Spells mux.n1 b f
      → Reads mux.n1 (handed ++ (flag ∷ b ++ flag ∷ [])) (got past ++ f ∷ []) (flag ∷ [])
  pub kept : Reads mux.n1 mux.kept [] mux.kept
  pub leads :
      (later more : List ℕ) (es : List Entry)
      → AnswersFrom s (stage.Mux (mux_end mux.n1 modem s.steps) past) (mux.kept ++ (left ++ later)) more es
      → AnswersFrom s (stage.Lines s.modem) (came ++ later) (went ++ more) (with_more later more entries ++ es)

abbrev pub Stands : Setting → (came went : List ℕ) → List Entry → Mode → (left : List ℕ) → Type 0
Stands s came went entries (Lines p) left = AtLines s came went entries p left
Stands s came went entries (Mux mux) left = AtMux s came went entries mux left

-- The octets of which it isn't decided yet whether they are of a frame: they stand behind a flag and can become one with it. What stands
-- in them can still turn out to be a line.
abbrev pub undecided : Mode → List ℕ
undecided (Lines p) = []
undecided (Mux mux) = drop 1 mux.kept

-- the octets may become a frame with a flag in front of them
pub record MayBeFrame (octets : List ℕ) : Type 0 where
  pub n1 : ℕ
  pub text : List ℕ
  pub can : Reads n1 text [] text
  pub is : octets ≡ drop 1 text

-- the octets end with these
pub record EndsWith (all last : List ℕ) : Type 0 where
  pub front : List ℕ
  pub is : all ≡ front ++ last

-- one more entry, if a line enters, behind which these octets are left
abbrev pub with_entry : List Entry → Option ℕ → (left : List ℕ) → List Entry
with_entry entries None left = entries
with_entry entries (Some n1) left = entries ++ record { n1 = n1; came = left; went = [] } ∷ []

-- Of octets that aren't taken yet some are, and more goes. The last that was taken is the end of a line that enters the multiplexer with
-- this N1, or none of them is.
pub record StepsOn {X : Type 0} (Holds : Setting → (came went : List ℕ) → List Entry → X → (left : List ℕ) → Type 0) (Undecided : X → List ℕ) (s : Setting) (old new : X) (entered : Option ℕ) (octets left out_before out : List ℕ) : Type 0 where
  pub more : List ℕ
  pub written : out ≡ out_before ++ more
  pub stands :
      (came went : List ℕ) (es : List Entry) → Holds s came went es old octets
      → Holds s came (went ++ more) (with_entry (with_more [] more es) entered (Undecided new ++ left)) new left

-- plain lines took octets, to the end of a line that enters the multiplexer at most, and all that was said went out
pub record Hears (old new : Plain) (octets behind before out : List ℕ) : Type 0 where
  pub count : ℕ
  pub bound : count ≤ length octets
  pub some : old.entered ≡ None → 0 < length octets → 0 < count
  pub behind_is : behind ≡ drop count octets
  pub new_is : new ≡ unsaid (plain_after old (take count octets))
  pub written : out ≡ before ++ (plain_after old (take count octets)).said

-- the setting of a modem that was handed in so
abbrev pub setting_by : Setup → ModemState → Setting
setting_by setup m = record { n1 = setup.n1.octets; steps = setup.steps; modem = m }

-- what is kept of octets, and a line that has entered the multiplexer, which begins with the next step
abbrev pub once_entered : Option ℕ → ℕ
once_entered None = 0
once_entered (Some n1) = 1

abbrev pub held : Mode → ℕ
held (Lines p) = once_entered p.entered
held (Mux mux) = length mux.kept

-- it falls with each step: of what is left and kept, what is left counts a little more
abbrev pub weight : Mode → ℕ → ℕ
weight mode left = 2 * (held mode + left) + min left 1

-- the multiplexer begins
pub data IsEntered (setup : Setup) (m : ModemState) (n1 : ℕ) : Mode → Type 0 where
  enters :
      (sim : SimState HeldState) → FitsMux (mux_end n1 m setup.steps) [] [] sim []
      → IsEntered setup m n1 (Mux (record { sim = sim; n1 = n1; kept = [] }))

-- the text of a frame was handed to it, and the multiplexer goes on, or has ended
pub data HandlesText (setup : Setup) (sim : SimState HeldState) (n1 : ℕ) (text : List ℕ) : Mode → (before out : List ℕ) → Type 0 where
  in_mux :
      (new : SimState HeldState) (before out : List ℕ) → IsFed sim new text before out false
      → HandlesText setup sim n1 text (Mux (record { sim = new; n1 = n1; kept = flag ∷ [] })) before out
  at_lines :
      (new : SimState HeldState) (before out : List ℕ) → IsFed sim new text before out true
      → HandlesText setup sim n1 text (Lines (plain_begun setup.n1.octets (modem_of new))) before out

-- at plain lines, to which nothing came
abbrev pub IsAtLines : Setup → ModemState → Mode → Type 0
IsAtLines setup m mode = mode ≡ Lines (plain_begun setup.n1.octets m)
