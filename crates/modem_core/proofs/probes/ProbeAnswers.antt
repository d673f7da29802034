-- What a frame means for the probe that waits.
use Rattle.std.specs.Prelude.{◌≡◌, ℕ, ◌+◌, ◌≤◌, ◌==◌, ◌&&◌, Bool, true, false, List, [], ◌∷◌, refl, Option, None, Some, is_none, if◌then◌else◌}
use Rattle.std.specs.Str.{bytes_eq}
use Rattle.std.proofs.Common.{ap, sym, ◌∙◌, subst, arith, eqb-true}
use Rattle.mux_frame.specs.Frames.{Frame}
use Rattle.mux_frame.specs.declared.frame.Kind.{Kind}
use Rattle.mux_frame.specs.declared.frame.Kind.TheVariants.{Sabm, Ua, Dm, Disc, Uih}
use Rattle.mux_station.specs.declared.role.Role.TheVariants.{Initiator}
use Rattle.mux_station.specs.declared.noted.Noted.TheVariants as noted
use Rattle.mux_station.specs.Written.{is_on}
use Rattle.mux_station.specs.Messages.{Message, message_in, message_of, command_of, test, nsc, cld}
use Rattle.mux_station.specs.States.{State, IsShut, IsOpening, IsOpened, IsClosing, IsStopping, is_opened}
use Rattle.mux_station.specs.Sending.{Waiting, StationView, names_test}
use Rattle.mux_station.specs.Noting.{closed_on, by_initiator, noted_of_probe, noted_of_message, noted_by_message, noted_by_table, noted_of}
use Rattle.modem_desk.specs.declared.request.Ask.{Ask}
use Rattle.modem_desk.specs.declared.request.Ask.TheVariants.{OpenChannel, CloseChannel, Command, Probe, Stop}
use Rattle.modem_desk.specs.declared.request.Request.{Request}
use Rattle.modem_desk.specs.declared.request.Answer.{Answer}
use Rattle.modem_desk.specs.declared.request.Answer.TheVariants.{ProbeBack, Refused}
use Rattle.modem_history.specs.Acts.{Act}
use Rattle.modem_history.specs.Calls.{probe_answer, ticks_since, asks_probe}
use Rattle.modem_core.specs.Telling.{probe_noted, left_by}
use Rattle.modem_core.specs.Cores.{probe_in, probe_or}
use Rattle.modem_history.proofs.outcomes.OutcomeCounts.{one}
use Rattle.modem_core.proofs.probes.OneProbe.{probes}

-- ## What is noted of an answer

closed_says : (d : ℕ) → probe_noted (closed_on d) ≡ None
closed_says d = by_zero (d == 0)
  where
    by_zero : (b : Bool) → probe_noted (if b then noted.AllClosed else noted.Closed) ≡ None
    by_zero true = refl
    by_zero false = refl

-- the table says nothing of a probe
pub table_says : (d : ℕ) (own : State) (k : Kind) → probe_noted (by_initiator d own k) ≡ None
table_says d IsShut k = refl
table_says d (IsOpening n) Ua = refl
table_says d (IsOpening n) Uih = refl
table_says d (IsOpening n) Sabm = refl
table_says d (IsOpening n) Dm = refl
table_says d (IsOpening n) Disc = refl
table_says d IsOpened Ua = refl
table_says d IsOpened Uih = refl
table_says d IsOpened Sabm = closed_says d
table_says d IsOpened Dm = closed_says d
table_says d IsOpened Disc = closed_says d
table_says d (IsClosing n) Ua = refl
table_says d (IsClosing n) Dm = refl
table_says d (IsClosing n) Uih = refl
table_says d (IsClosing n) Sabm = refl
table_says d (IsClosing n) Disc = refl
table_says d (IsStopping n) Dm = closed_says d
table_says d (IsStopping n) Ua = refl
table_says d (IsStopping n) Uih = refl
table_says d (IsStopping n) Sabm = refl
table_says d (IsStopping n) Disc = refl

answer_by : (b c : Bool) → (if b then Some ProbeBack else (if c then Some Refused else None)) ≡ probe_noted (if b then noted.ProbeBack else (if c then noted.ProbeRefused else noted.Nothing))
answer_by true c = refl
answer_by false true = refl
answer_by false false = refl

-- a CLD is no answer
none_of_cld : (octets : List ℕ) (m : Message) → m.octet ≡ cld → probe_answer octets (Some m) ≡ None
none_of_cld octets m e =
    ap (λ (n : ℕ). if (command_of n == test) && bytes_eq m.value octets then Some ProbeBack else (if (command_of n == nsc) && names_test m.value then Some Refused else None)) e

message_says : (w : Waiting) (m : Message) → probe_answer w.data_octets (Some m) ≡ probe_noted (noted_of_message (Some w) m)
message_says w m = by_cld (m.octet == cld) refl
  where
    by_cld : (b : Bool) → (m.octet == cld) ≡ b → probe_answer w.data_octets (Some m) ≡ probe_noted (if b then noted.AllClosed else noted_of_probe (Some w) (Some m))
    by_cld true e = none_of_cld w.data_octets m (eqb-true m.octet cld e)
    by_cld false e = answer_by ((command_of m.octet == test) && bytes_eq m.value w.data_octets) ((command_of m.octet == nsc) && names_test m.value)

zero_says : (w : Waiting) (z : State) (o : Option Message) → is_opened z ≡ true → probe_answer w.data_octets o ≡ probe_noted (noted_by_message z (Some w) o)
zero_says w IsOpened None e = refl
zero_says w IsOpened (Some m) e = message_says w m
zero_says w IsShut o e = cc
zero_says w (IsOpening n) o e = cc
zero_says w (IsClosing n) o e = cc
zero_says w (IsStopping n) o e = cc

-- what a probe that waits is told of a frame is what is noted of it
pub probe_says : (x : StationView) (w : Waiting) (f : Frame) → x.probe ≡ Some w → is_opened (x.state 0) ≡ true → probe_answer w.data_octets (message_in f) ≡ probe_noted (noted_of Initiator x f)
probe_says x w f p z = by_on (is_on Uih 0 f)
  where
    by_on : (b : Bool) → probe_answer w.data_octets (if b then message_of f.info else None) ≡ probe_noted (if b then noted_by_message (x.state 0) x.probe (message_of f.info) else noted_by_table Initiator f.dlci (x.state 0) (x.state f.dlci) f.kind)
    by_on true = zero_says w (x.state 0) (message_of f.info) z ∙ ap (λ (o : Option Waiting). probe_noted (noted_by_message (x.state 0) o (message_of f.info))) (sym p)
    by_on false = sym (table_says f.dlci (x.state f.dlci) f.kind)

-- ## The probe in hand

abbrev waits_with : List Act → Request → List ℕ → Option Waiting
waits_with past r octets = Some (record { data_octets = octets; ticks = ticks_since r past })

none_left : (past : List Act) (rs : List Request) → probes rs ≡ 0 → probe_in past rs ≡ None
none_left past [] h = refl
none_left past (r ∷ rs) h = by_ask r.ask h (none_left past rs)
  where
    by_ask : (ask : Ask) → one (asks_probe ask) + probes rs ≡ 0 → (probes rs ≡ 0 → probe_in past rs ≡ None) → probe_or past r ask (probe_in past rs) ≡ None
    by_ask (Probe octets) e k = absurd (omega (arith, e))
    by_ask (OpenChannel d) e k = k (omega (arith, e))
    by_ask (CloseChannel d) e k = k (omega (arith, e))
    by_ask (Command d line) e k = k (omega (arith, e))
    by_ask Stop e k = k (omega (arith, e))

-- what holds of the octets of the one that waits holds of each that asks for a probe
abbrev pub EachProbe : (List ℕ → Type 0) → List Request → Type 0
EachProbe P [] = Unit {0}
EachProbe P (r ∷ rs) = ((octets : List ℕ) → r.ask ≡ Probe octets → P octets) × EachProbe P rs

each_none : (P : List ℕ → Type 0) (rs : List Request) → probes rs ≡ 0 → EachProbe P rs
each_none P [] h = tt
each_none P (r ∷ rs) h = (
  (λ octets e. absurd (let g = ap (λ (a : Ask). one (asks_probe a)) e in omega (arith, g, h))),
  each_none P rs (omega (arith, h)),
)

-- so it does where one probe at most is in hand
pub each_probe : (P : List ℕ → Type 0) (past : List Act) (rs : List Request) → probes rs ≤ 1 → ((w : Waiting) → probe_in past rs ≡ Some w → P w.data_octets) → EachProbe P rs
each_probe P past [] h p = tt
each_probe P past (r ∷ rs) h p = by_ask r.ask refl h p (each_probe P past rs)
  where
    other : (ask : Ask) → r.ask ≡ ask → asks_probe ask ≡ false → (octets : List ℕ) → r.ask ≡ Probe octets → P octets
    other ask e n octets g = absurd (let x : true ≡ false = sym (ap asks_probe (sym e ∙ g)) ∙ n in cc)

    by_ask : (ask : Ask) → r.ask ≡ ask → one (asks_probe ask) + probes rs ≤ 1 → ((w : Waiting) → probe_or past r ask (probe_in past rs) ≡ Some w → P w.data_octets)
        → (probes rs ≤ 1 → ((w : Waiting) → probe_in past rs ≡ Some w → P w.data_octets) → EachProbe P rs) → ((octets : List ℕ) → r.ask ≡ Probe octets → P octets) × EachProbe P rs
    by_ask (Probe own) e k q more = (
      (λ octets g. let same : Probe own ≡ Probe octets = sym e ∙ g in let x : own ≡ octets = cc in subst P x (q (record { data_octets = own; ticks = ticks_since r past }) refl)),
      each_none P rs (omega (arith, k)),
    )
    by_ask (OpenChannel d) e k q more = (other (OpenChannel d) e refl, more (omega (arith, k)) q)
    by_ask (CloseChannel d) e k q more = (other (CloseChannel d) e refl, more (omega (arith, k)) q)
    by_ask (Command d line) e k q more = (other (Command d line) e refl, more (omega (arith, k)) q)
    by_ask Stop e k q more = (other Stop e refl, more (omega (arith, k)) q)

-- ## Which probe stays

-- it stays where it is told nothing
abbrev pub still : (Ask → Option Answer) → Option Waiting → Option Waiting
still says None = None
still says (Some w) = if is_none (says (Probe w.data_octets)) then Some w else None

left_none : (says : Ask → Option Answer) (rs : List Request) → probes rs ≡ 0 → probes (left_by says rs) ≡ 0
left_none says [] h = refl
left_none says (r ∷ rs) h = by_told (is_none (says r.ask)) (left_none says rs (omega (arith, h)))
  where
    by_told : (b : Bool) → probes (left_by says rs) ≡ 0 → probes (if b then r ∷ left_by says rs else left_by says rs) ≡ 0
    by_told true k = omega (arith, h, k)
    by_told false k = k

-- so the probe among those who are left is that one, where there is one at most
pub probe_still_left : (says : Ask → Option Answer) (past : List Act) (rs : List Request) → probes rs ≤ 1 → probe_in past (left_by says rs) ≡ still says (probe_in past rs)
probe_still_left says past [] h = refl
probe_still_left says past (r ∷ rs) h = by_ask r.ask refl h (probe_still_left says past rs)
  where
    abbrev_left : List Request
    abbrev_left = left_by says rs

    passes : (ask : Ask) → r.ask ≡ ask → asks_probe ask ≡ false → probe_or past r ask (probe_in past rs) ≡ probe_in past rs → probe_in past abbrev_left ≡ still says (probe_in past rs)
        → (b : Bool) → probe_in past (if b then r ∷ abbrev_left else abbrev_left) ≡ still says (probe_or past r ask (probe_in past rs))
    passes ask e n o k true = skip ask e n ∙ (k ∙ ap (still says) (sym o))
      where
        skip : (ask : Ask) → r.ask ≡ ask → asks_probe ask ≡ false → probe_or past r r.ask (probe_in past abbrev_left) ≡ probe_in past abbrev_left
        skip (OpenChannel d) e n = ap (λ (a : Ask). probe_or past r a (probe_in past abbrev_left)) e
        skip (CloseChannel d) e n = ap (λ (a : Ask). probe_or past r a (probe_in past abbrev_left)) e
        skip (Command d line) e n = ap (λ (a : Ask). probe_or past r a (probe_in past abbrev_left)) e
        skip Stop e n = ap (λ (a : Ask). probe_or past r a (probe_in past abbrev_left)) e
        skip (Probe octets) e n = cc
    passes ask e n o k false = k ∙ ap (still says) (sym o)

    own : (octets : List ℕ) → r.ask ≡ Probe octets → probes rs ≡ 0 → (b : Bool) → is_none (says (Probe octets)) ≡ b → probe_in past (if b then r ∷ abbrev_left else abbrev_left) ≡ (if b then waits_with past r octets else None)
    own octets e n true g = ap (λ (a : Ask). probe_or past r a (probe_in past abbrev_left)) e
    own octets e n false g = none_left past abbrev_left (left_none says rs n)

    by_ask : (ask : Ask) → r.ask ≡ ask → one (asks_probe ask) + probes rs ≤ 1 → (probes rs ≤ 1 → probe_in past abbrev_left ≡ still says (probe_in past rs))
        → probe_in past (if is_none (says ask) then r ∷ abbrev_left else abbrev_left) ≡ still says (probe_or past r ask (probe_in past rs))
    by_ask (Probe octets) e k more = own octets e (omega (arith, k)) (is_none (says (Probe octets))) refl
    by_ask (OpenChannel d) e k more = passes (OpenChannel d) e refl refl (more (omega (arith, k))) (is_none (says (OpenChannel d)))
    by_ask (CloseChannel d) e k more = passes (CloseChannel d) e refl refl (more (omega (arith, k))) (is_none (says (CloseChannel d)))
    by_ask (Command d line) e k more = passes (Command d line) e refl refl (more (omega (arith, k))) (is_none (says (Command d line)))
    by_ask Stop e k more = passes Stop e refl refl (more (omega (arith, k))) (is_none (says Stop))
