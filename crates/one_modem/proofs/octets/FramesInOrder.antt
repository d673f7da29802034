-- Where the octets that came at one end are the first of those that the other sent, so are the frames.
use Rattle.std.proofs.Common.{ap, sym, ◌∙◌, subst, append_assoc}
use Rattle.std.proofs.lemmas.List.{reverse-append}
use Rattle.std.specs.Prelude.{◌≡◌, ℕ, ◌≤◌, List, [], ◌∷◌, ◌++◌, flat_map, reverse, refl}
use Rattle.mux_frame.specs.Frames.{Frame}
use Rattle.mux_frame.specs.Deframing.{Deframes, Deframing}
use Rattle.mux_frame.specs.Laws.{AreOctets, GoesOn}
use Rattle.mux_frame.specs.Spelling.{spelled}
use Rattle.mux_frame.proofs.readings.ComputedReadings.{octets_both, octets_right}
use Rattle.mux_station.specs.Acts as station
use Rattle.modem_history.specs.Acts as driver
use Rattle.modem_history.specs.Acts.{Took, Got, Sent, Told, Heard, Tick, Lost, Held, Freed, Given}
use Rattle.modem_history.specs.Sessions.{Beginning, SessionFits, SessionView, driving, given_on, gots, sents}
use Rattle.modem_history.specs.TwoEnds.{ComesInOrder, frames_got, frames_sent}
use Rattle.modem_history.proofs.connections.FrameOrder.{gives_in_order}
use Rattle.modem_sim.specs.Acts as modem
use Rattle.modem_sim.specs.Acts.{Did, End, Wire}
use Rattle.modem_sim.specs.Histories as modem_laws
use Rattle.modem_sim.specs.Sims.{SimMachine, SimMachineFits}
use Rattle.one_modem.proofs.octets.WithinFrames.{Within}
use Rattle.one_modem.proofs.octets.ReadFrames.{first_within, handed_first, handed_within}
use Rattle.one_modem.proofs.octets.DriverWithin.{TakesShort, sents_within}
use Rattle.one_modem.proofs.octets.ModemWithin.{sent_within}
use Rattle.modem_history.proofs.rules.MadeLaws.{laws_of}

-- ## In both orders

one_behind : (f : Frame) (fs : List Frame) → f ∷ reverse fs ≡ reverse (fs ++ f ∷ [])
one_behind f fs = sym (reverse-append fs (f ∷ []))

sents_turned : (past : List driver.Act) → frames_sent (driver.wire past) ≡ reverse (sents past)
sents_turned [] = refl
sents_turned (Sent f ∷ past) = ap (λ (fs : List Frame). f ∷ fs) (sents_turned past) ∙ one_behind f (sents past)
sents_turned (Got f ∷ past) = sents_turned past
sents_turned (Took q ∷ past) = sents_turned past
sents_turned (Told o ∷ past) = sents_turned past
sents_turned (Heard k d line ∷ past) = sents_turned past
sents_turned (Tick ∷ past) = sents_turned past
sents_turned (Lost ∷ past) = sents_turned past
sents_turned (Held d ∷ past) = sents_turned past
sents_turned (Freed d ∷ past) = sents_turned past
sents_turned (Given ∷ past) = sents_turned past

gots_turned : (past : List driver.Act) → frames_got (driver.wire past) ≡ reverse (gots past)
gots_turned [] = refl
gots_turned (Got f ∷ past) = ap (λ (fs : List Frame). f ∷ fs) (gots_turned past) ∙ one_behind f (gots past)
gots_turned (Sent f ∷ past) = gots_turned past
gots_turned (Took q ∷ past) = gots_turned past
gots_turned (Told o ∷ past) = gots_turned past
gots_turned (Heard k d line ∷ past) = gots_turned past
gots_turned (Tick ∷ past) = gots_turned past
gots_turned (Lost ∷ past) = gots_turned past
gots_turned (Held d ∷ past) = gots_turned past
gots_turned (Freed d ∷ past) = gots_turned past
gots_turned (Given ∷ past) = gots_turned past

sent_turned : (past : List modem.Act) → frames_sent (modem.wire past) ≡ reverse (modem_laws.sent past)
sent_turned [] = refl
sent_turned (Did step ∷ past) = sent_turned past
sent_turned (Wire (station.Sent f) ∷ past) = ap (λ (fs : List Frame). f ∷ fs) (sent_turned past) ∙ one_behind f (modem_laws.sent past)
sent_turned (Wire (station.Got f) ∷ past) = sent_turned past
sent_turned (Wire (station.Called c) ∷ past) = sent_turned past
sent_turned (Wire station.Tick ∷ past) = sent_turned past
sent_turned (Wire station.Lost ∷ past) = sent_turned past
sent_turned (Wire station.Given ∷ past) = sent_turned past

got_turned : (past : List modem.Act) → frames_got (modem.wire past) ≡ reverse (modem_laws.got past)
got_turned [] = refl
got_turned (Did step ∷ past) = got_turned past
got_turned (Wire (station.Got f) ∷ past) = ap (λ (fs : List Frame). f ∷ fs) (got_turned past) ∙ one_behind f (modem_laws.got past)
got_turned (Wire (station.Sent f) ∷ past) = got_turned past
got_turned (Wire (station.Called c) ∷ past) = got_turned past
got_turned (Wire station.Tick ∷ past) = got_turned past
got_turned (Wire station.Lost ∷ past) = got_turned past
got_turned (Wire station.Given ∷ past) = got_turned past

in_order : (sender receiver : List station.Act) (ss gs : List Frame) → frames_sent sender ≡ reverse ss → frames_got receiver ≡ reverse gs → GoesOn gs ss → ComesInOrder sender receiver
in_order sender receiver ss gs es eg g =
    record { later = reverse g.later; sent_are = es ∙ (ap (λ (fs : List Frame). reverse fs) g.frames ∙ (reverse-append gs g.later ∙ ap (λ (fs : List Frame). reverse g.later ++ fs) (sym eg))) }

-- ## From octets to frames

-- what a deframer handed out is the beginning of what was spelled; of that only a part was taken
first_of : (n1 : ℕ) (taken unfed behind left came : List ℕ) (handed spelt : List Frame) (d : Deframing) → Deframes taken handed d → d.n1 ≡ n1 → n1 ≤ 32767 → Within n1 spelt
    → came ≡ taken ++ unfed → AreOctets (came ++ behind) → AreOctets left → (came ++ behind) ++ left ≡ flat_map spelled spelt → GoesOn handed spelt
first_of n1 taken unfed behind left came handed spelt d k same high within parts octets waiting whole =
    let x = unfed ++ (behind ++ left) in
    let joined : taken ++ x ≡ (came ++ behind) ++ left =
    sym (append_assoc taken unfed (behind ++ left))
    ∙ (ap (λ (xs : List ℕ). xs ++ (behind ++ left)) (sym parts)
    ∙ sym (append_assoc came behind left)) in
    let all : AreOctets (taken ++ x) = subst AreOctets (sym joined) (octets_both (came ++ behind) left octets waiting) in
    let High : ℕ → Type 0 = λ n. n ≤ 32767 in
    let Fits : ℕ → Type 0 = λ n. Within n spelt in
    handed_first taken x handed spelt d k (subst High (sym same) high) (subst Fits (sym same) within) (octets_right taken x all) (joined ∙ whole)

goes_further : (fs gs hs later : List Frame) → GoesOn fs gs → hs ≡ gs ++ later → GoesOn fs hs
goes_further fs gs hs later g e =
    record { later = g.later ++ later; frames = e ∙ (ap (λ (xs : List Frame). xs ++ later) g.frames ∙ append_assoc fs g.later later) }

in_place : (fs gs hs : List Frame) → fs ≡ gs → GoesOn gs hs → GoesOn fs hs
in_place fs gs hs e g = record { later = g.later; frames = g.frames ∙ ap (λ (xs : List Frame). xs ++ g.later) (sym e) }

-- ## What the modem got

-- where the octets that came at the modem are the first that the driver sent, so are the frames
pub modem_gets : (b : Beginning) (v : SessionView) (past : List driver.Act) (e : End) (came went behind : List ℕ) (k : SimMachine) (far : List modem.Act) → SessionFits b v past → SimMachineFits e came went k far
    → 31 ≤ b.n1 → b.n1 ≤ 32767 → e.n1 ≡ b.n1 → TakesShort past → b.line.sent ≡ [] → came ++ behind ≡ v.line.sent → AreOctets v.line.sent → AreOctets v.unwritten
    → ComesInOrder (driver.wire past) (modem.wire far)
modem_gets b v past e came went behind k far f g low high same short fresh joins octets waiting =
    let order = gives_in_order (driving b) past (laws_of f.history).lawful in
    let gots_in : Within b.n1 (gots past) = subst (λ (n : ℕ). Within n (gots past)) f.received.bound (handed_within f.received.fed (gots past) v.deframer f.received.deframes) in
    let sents_in : Within b.n1 (sents past) = sents_within (driving b) past low (laws_of f.history).lawful gots_in short in
    let given_in = first_within b.n1 (given_on past) order.later (subst (Within b.n1) order.sent_are sents_in) in
    let whole : (came ++ behind) ++ v.unwritten ≡ flat_map spelled (given_on past) =
    ap (λ (xs : List ℕ). xs ++ v.unwritten) (joins ∙ (f.sent.sent_are ∙ ap (λ (xs : List ℕ). xs ++ f.sent.since) fresh)) ∙ f.sent.frames_are in
    let first = first_of b.n1 g.taken k.unfed behind v.unwritten came g.wired.came (given_on past) k.deframer g.deframes (g.n1_is ∙ same) high given_in g.came_is (subst AreOctets (sym joins) octets) waiting whole in
    in_order (driver.wire past) (modem.wire far) (sents past) (modem_laws.got far) (sents_turned past) (got_turned far)
    (in_place (modem_laws.got far) g.wired.came (sents past) g.core_fits.came_are (goes_further g.wired.came (given_on past) (sents past) order.later first order.sent_are))

-- ## What the driver got

-- and so at the driver, of those that the modem sent
pub driver_gets : (b : Beginning) (v : SessionView) (past : List driver.Act) (e : End) (came went behind : List ℕ) (k : SimMachine) (far : List modem.Act) → SessionFits b v past → SimMachineFits e came went k far
    → 31 ≤ b.n1 → b.n1 ≤ 32767 → e.n1 ≡ b.n1 → b.line.received ≡ [] → v.line.received ++ behind ≡ went → AreOctets went → AreOctets k.out
    → ComesInOrder (modem.wire far) (driver.wire past)
driver_gets b v past e came went behind k far f g low high same fresh joins octets waiting =
    let got_in : Within e.n1 (modem_laws.got far) = subst (Within e.n1) (sym g.core_fits.came_are) (subst (λ (n : ℕ). Within n g.wired.came) g.n1_is (handed_within g.taken g.wired.came k.deframer g.deframes)) in
    let Low : ℕ → Type 0 = λ n. 31 ≤ n in
    let sent_in : Within e.n1 (modem_laws.sent far) = sent_within e far (subst Low (sym same) low) g.core_fits.lawful g.core_fits.allowed got_in in
    let gone_in : Within e.n1 g.wired.gone = first_within e.n1 g.wired.gone k.core.station.queue (subst (Within e.n1) g.core_fits.gone_are sent_in) in
    let gone_near : Within b.n1 g.wired.gone = subst (λ (n : ℕ). Within n g.wired.gone) same gone_in in
    let parts : v.line.received ≡ f.received.fed ++ v.unfed = f.received.received_are ∙ ap (λ (xs : List ℕ). (xs ++ f.received.fed) ++ v.unfed) fresh in
    let whole : (v.line.received ++ behind) ++ k.out ≡ flat_map spelled g.wired.gone = ap (λ (xs : List ℕ). xs ++ k.out) joins ∙ g.went_is in
    let first = first_of b.n1 f.received.fed v.unfed behind k.out v.line.received (gots past) g.wired.gone v.deframer f.received.deframes f.received.bound high gone_near parts (subst AreOctets (sym joins) octets) waiting whole in
    in_order (modem.wire far) (driver.wire past) (modem_laws.sent far) (gots past) (sent_turned far) (gots_turned past)
    (goes_further (gots past) g.wired.gone (modem_laws.sent far) k.core.station.queue first g.core_fits.gone_are)
