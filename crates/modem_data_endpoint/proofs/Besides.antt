-- The frames that the endpoint got are the first of those due to the driver.
use Rattle.std.specs.Prelude.{◌≡◌, ℕ, ◌≤◌, true, false, List, [], ◌∷◌, ◌++◌, flat_map, None, refl}
use Rattle.std.specs.List.{list_all}
use Rattle.std.proofs.lemmas.Bool.{and_parts}
use Rattle.std.proofs.Common.{ap, sym, ◌∙◌, subst}
use Rattle.std.proofs.lemmas.List.{append_assoc, append-nil, append_cancel_left}
use Rattle.mux_frame.specs.Frames.{Frame}
use Rattle.mux_frame.specs.Laws.{AreOctets, GoesOn}
use Rattle.mux_frame.specs.Reading.{Reads}
use Rattle.mux_frame.specs.Spelling.{spelled}
use Rattle.mux_frame.specs.Deframing.{Deframes, Deframing, IsDeframed}
use Rattle.mux_frame.proofs.readings.ComputedReadings.{octets_both, total_reading}
use Rattle.mux_frame.proofs.readings.LaterTexts.{reads_spelled}
use Rattle.mux_frame.proofs.readings.TextReadings.{one_reading}
use Rattle.mux_station.specs.declared.role.Role.{Role}
use Rattle.mux_station.specs.declared.role.Role.TheVariants.{Initiator}
use Rattle.modem_data.specs.Hops.{Relay, Hop, Fed, Handed, Took, Wrote, Passed, RelayFits, for_driver, fed, came, handed_over, taken, went, Hops, BeginsAs, is_line_in}
use Rattle.modem_driver.specs.EndpointLaws.{World, Calls, TellsAll, none_called, called_more}
use Rattle.modem_driver.specs.SessionStates.{beginning_by, end_of, seen_by}
use Rattle.modem_history.specs.Acts.{Act}
use Rattle.modem_history.specs.Sessions.{Beginning, SessionFits, SessionView, gots, given_on}
use Rattle.modem_data_endpoint.specs.Beside.{Both, Step, Steps, called, relayed, came_in, gave_in, took_out, no_step, more_steps, is_joint, IsJoined, DataLaw, AreSpelled, TellsBehind, TellsFrames}
use Rattle.modem_data_endpoint.proofs.Spelled.{all_due_spelled, handed_spelled}

-- ## Sequences of calls

calls_on : (w : World) (x y : Both) → Calls w x.world → Step x y → Calls w y.world
calls_on w _ _ before (called a v r hops c i o) = called_more w a v before c
calls_on w _ _ before (relayed a r s hops h j l) = before
calls_on w _ _ before (came_in a r s hops octets h) = before
calls_on w _ _ before (gave_in a v r s hops octets c i o l) = called_more w a v before c
calls_on w _ _ before (took_out a v r s hops octets c i o l) = called_more w a v before c

all_calls : (x y : Both) → Steps x y → Calls x.world y.world
all_calls x _ (no_step _) = none_called x.world
all_calls x z (more_steps _ y _ before one) = calls_on x.world y z (all_calls x y before) one

fits_on : (role : Role) (n1 : ℕ) (ds : List ℕ) (x y : Both) → RelayFits role n1 ds x.relay x.hops → Step x y → RelayFits role n1 ds y.relay y.hops
unfolding Hops
fits_on role n1 ds _ _ h (called a v r hops c i o) = h
fits_on role n1 ds _ _ h (relayed a r s hops hop j l) = l role n1 ds hops h
fits_on role n1 ds _ _ h (came_in a r s hops octets k) = k.leads role n1 ds hops h
fits_on role n1 ds _ _ h (gave_in a v r s hops octets c i o l) = l role n1 ds hops h
fits_on role n1 ds _ _ h (took_out a v r s hops octets c i o l) = l role n1 ds hops h

all_fit : (role : Role) (n1 : ℕ) (ds : List ℕ) (x y : Both) → RelayFits role n1 ds x.relay x.hops → Steps x y → RelayFits role n1 ds y.relay y.hops
all_fit role n1 ds x _ h (no_step _) = h
all_fit role n1 ds x z h (more_steps _ y _ before one) = fits_on role n1 ds y z (all_fit role n1 ds x y h before) one

apart_in : (a : Hop) (hops : List Hop) → is_joint a ≡ false → handed_over (a ∷ hops) ≡ handed_over hops
apart_in (Fed o) hops e = refl
apart_in (Handed o) hops e = cc
apart_in (Took o) hops e = refl
apart_in (Wrote o) hops e = refl
apart_in (Passed p) hops e = refl

apart_out : (a : Hop) (hops : List Hop) → is_joint a ≡ false → taken (a ∷ hops) ≡ taken hops
apart_out (Fed o) hops e = refl
apart_out (Handed o) hops e = refl
apart_out (Took o) hops e = cc
apart_out (Wrote o) hops e = refl
apart_out (Passed p) hops e = refl

-- of octets of the line none pass between the two
pub none_in : (hs hops : List Hop) → list_all is_line_in hs ≡ true → handed_over (hs ++ hops) ≡ handed_over hops
none_in [] hops e = refl
none_in (Fed o ∷ hs) hops e = none_in hs hops e
none_in (Handed o ∷ hs) hops e = cc
none_in (Took o ∷ hs) hops e = cc
none_in (Wrote o ∷ hs) hops e = cc
none_in (Passed p ∷ hs) hops e = none_in hs hops (and_parts (is_line_in (Passed p)) (list_all is_line_in hs) e).1

-- nor the other way
pub none_out : (hs hops : List Hop) → list_all is_line_in hs ≡ true → taken (hs ++ hops) ≡ taken hops
none_out [] hops e = refl
none_out (Fed o ∷ hs) hops e = none_out hs hops e
none_out (Handed o ∷ hs) hops e = cc
none_out (Took o ∷ hs) hops e = cc
none_out (Wrote o ∷ hs) hops e = cc
none_out (Passed p ∷ hs) hops e = none_out hs hops (and_parts (is_line_in (Passed p)) (list_all is_line_in hs) e).1

-- octets more at both
one_more : (new old first since octets : List ℕ) → new ≡ old ++ octets → old ≡ first ++ since → new ≡ first ++ (since ++ octets)
one_more new old first since octets e h = e ∙ (ap (λ (xs : List ℕ). xs ++ octets) h ∙ append_assoc first since octets)

joined_on : (b : Beginning) (x y : Both) → IsJoined b x → Step x y → IsJoined b y
joined_on b _ _ h (called a v r hops c i o) = record { received_are = i ∙ h.received_are; sent_are = o ∙ h.sent_are }
joined_on b _ _ h (relayed a r s hops hop j l) = record { received_are = h.received_are ∙ ap (λ (xs : List ℕ). b.line.received ++ xs) (sym (apart_in hop hops j)); sent_are = h.sent_are ∙ ap (λ (xs : List ℕ). b.line.sent ++ xs) (sym (apart_out hop hops j)) }
joined_on b _ _ h (came_in a r s hops octets k) = record { received_are = h.received_are ∙ ap (λ (xs : List ℕ). b.line.received ++ xs) (sym (none_in k.hops hops k.only)); sent_are = h.sent_are ∙ ap (λ (xs : List ℕ). b.line.sent ++ xs) (sym (none_out k.hops hops k.only)) }
joined_on b _ _ h (gave_in a v r s hops octets c i o l) = record { received_are = one_more v.line.received a.line.received b.line.received (handed_over hops) octets i h.received_are; sent_are = o ∙ h.sent_are }
joined_on b _ _ h (took_out a v r s hops octets c i o l) = record { received_are = i ∙ h.received_are; sent_are = one_more v.line.sent a.line.sent b.line.sent (taken hops) octets o h.sent_are }

all_joined : (b : Beginning) (x y : Both) → IsJoined b x → Steps x y → IsJoined b y
all_joined b x _ h (no_step _) = h
all_joined b x z h (more_steps _ y _ before one) = joined_on b y z (all_joined b x y h before) one

-- ## Both ways

-- a deframer that took the beginning of spelled frames handed out the first of them; where it took them all and has none at
-- hand, all of them
first_of : (n1 : ℕ) (taken_in x : List ℕ) (handed fs : List Frame) (e : Deframing) → e.n1 ≡ n1 → Deframes taken_in handed e → AreSpelled n1 fs → AreOctets x → taken_in ++ x ≡ flat_map spelled fs → GoesOn handed fs
first_of n1 taken_in x handed fs e same k spell_all octets joined =
    let more = total_reading e.n1 (e.undecided ++ x) (octets_both e.undecided x k.octets octets) in
    let read : Reads e.n1 (flat_map spelled fs) (handed ++ more.frames) more.rest = subst (λ (s : List ℕ). Reads e.n1 s (handed ++ more.frames) more.rest) joined (k.reads x more.frames more.rest more.reads) in
    record { later = more.frames; frames = sym (one_reading e.n1 (flat_map spelled fs) (handed ++ more.frames) fs more.rest _ read (reads_spelled e.n1 fs (subst (λ (n : ℕ). AreSpelled n fs) (sym same) spell_all))).0 }

all_of : (n1 : ℕ) (taken_in : List ℕ) (handed fs : List Frame) (e : Deframing) → IsDeframed → e.n1 ≡ n1 → Deframes taken_in handed e → AreSpelled n1 fs → e.next ≡ None → taken_in ≡ flat_map spelled fs → handed ≡ fs
all_of n1 taken_in handed fs e law same k spell_all none joined =
    let read : Reads e.n1 (flat_map spelled fs) handed e.undecided = subst (λ (s : List ℕ). Reads e.n1 s handed e.undecided) joined ((law taken_in handed e k).all none) in
    (one_reading e.n1 (flat_map spelled fs) handed fs e.undecided _ read (reads_spelled e.n1 fs (subst (λ (n : ℕ). AreSpelled n fs) (sym same) spell_all))).0

no_more : (xs ys : List ℕ) → ys ≡ [] → xs ++ ys ≡ xs
no_more xs ys e = ap (λ (zs : List ℕ). xs ++ zs) e ∙ append-nil xs

-- ## The law

-- what reads what a relay hands over, and writes what it takes, got the first of the frames due to it, and its first have gone
pub behind_told : IsDeframed → (role : Role) (n1 : ℕ) (ds : List ℕ) (unfed fed_in : List ℕ) (d : Deframing) (unwritten since : List ℕ) (r : Relay) (hops : List Hop) (got given : List Frame) → n1 ≤ 32767 → RelayFits role n1 ds r hops → d.n1 ≡ n1
    → Deframes fed_in got d → handed_over hops ≡ fed_in ++ unfed → taken hops ≡ since → since ++ unwritten ≡ flat_map spelled given → TellsBehind role n1 unfed d unwritten r hops got given
behind_told law role n1 ds unfed fed_in d unwritten since r hops got given high relay bound deframes parts gone written =
    let came_all = subst (λ (n : ℕ). AreSpelled n (came hops)) relay.outer_n1 (handed_spelled (fed hops) (came hops) r.outer relay.line_in) in
    let due_all = all_due_spelled role n1 hops high came_all in
    let all_in : fed_in ++ (unfed ++ r.to_driver) ≡ flat_map spelled (for_driver role hops) = sym (append_assoc fed_in unfed r.to_driver) ∙ (ap (λ (xs : List ℕ). xs ++ r.to_driver) (sym parts) ∙ relay.to_driver_is) in
    record {
      got_are = λ aside on_way. first_of n1 fed_in (unfed ++ r.to_driver) got (for_driver role hops) d bound deframes due_all (octets_both unfed r.to_driver aside on_way) all_in;
      all_got = λ aside on_way none. all_of n1 fed_in got (for_driver role hops) d law bound deframes due_all none (sym (no_more fed_in unfed aside) ∙ (sym parts ∙ (sym (no_more (handed_over hops) r.to_driver on_way) ∙ relay.to_driver_is)));
      went_are = λ sp o. first_of n1 (taken hops) unwritten (went hops) given r.inner relay.inner_n1 relay.driver_out sp o (ap (λ (xs : List ℕ). xs ++ unwritten) gone ∙ written);
      all_went = λ sp o none. all_of n1 (taken hops) (went hops) given r.inner law relay.inner_n1 relay.driver_out sp none (gone ∙ (sym (no_more since unwritten o) ∙ written));
    }

-- so it is of a driver with a history, behind a relay at the client's end
pub frames_told : IsDeframed → (n1 : ℕ) (ds : List ℕ) (b : Beginning) (v : SessionView) (r : Relay) (hops : List Hop) (past : List Act) → n1 ≤ 32767 → SessionFits b v past → RelayFits Initiator n1 ds r hops
    → b.n1 ≡ n1 → v.line.received ≡ b.line.received ++ handed_over hops → v.line.sent ≡ b.line.sent ++ taken hops → TellsFrames n1 v r hops past
frames_told law n1 ds b v r hops past high fits relay same read written_all =
    let octets = fits.received in
    let written = fits.sent in
    behind_told law Initiator n1 ds v.unfed octets.fed v.deframer v.unwritten written.since r hops (gots past) (given_on past) high relay (octets.bound ∙ same) octets.deframes
    (append_cancel_left b.line.received (handed_over hops) (octets.fed ++ v.unfed) (sym read ∙ (octets.received_are ∙ append_assoc b.line.received octets.fed v.unfed)))
    (append_cancel_left b.line.sent (taken hops) written.since (sym written_all ∙ written.sent_are)) written.frames_are

-- and so of an endpoint behind a relay, whatever calls follow
pub data_law : IsDeframed → TellsAll → DataLaw
unfolding DataLaw BeginsAs TellsAll
data_law law tells_all dialect n1 ds kinds x y same some high begins starts none steps =
    let b = beginning_by dialect n1 x.world.line x.world.driver in
    let told = tells_all dialect n1 kinds x.world y.world same some begins (all_calls x y steps) in
    let first : RelayFits Initiator n1 ds x.relay x.hops = subst (λ (hops : List Hop). RelayFits Initiator n1 ds x.relay hops) (sym none) starts in
    let fit = all_fit Initiator n1 ds x y first steps in
    let at_first : IsJoined b x = subst (λ (hops : List Hop). IsJoined b (record x { hops = hops })) (sym none) (record { received_are = sym (append-nil x.world.line.received); sent_are = sym (append-nil x.world.line.sent) }) in
    let joined = all_joined b x y at_first steps in
    let frames = frames_told law n1 ds b (seen_by y.world.line (end_of y.world.driver) y.world.endpoint.machine) y.relay y.hops told.past high told.fits fit refl joined.received_are joined.sent_are in
    record {
      past = told.past;
      fits = told.fits;
      relay_fits = fit;
      joined = joined;
      got_are = λ wait. frames.got_are wait.aside wait.on_way;
      all_got = λ t. frames.all_got t.none_aside t.none_on_way t.none_at_hand;
      went_are = frames.went_are;
      all_went = λ sp o. frames.all_went sp o.none_unwritten o.none_at_hand;
    }
