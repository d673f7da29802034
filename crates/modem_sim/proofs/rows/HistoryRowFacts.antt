-- The worked histories, computed.
use Rattle.std.specs.Prelude.{◌≡◌, ℕ, nat_le, nat_eq, codes, Bool, true, false, IsTrue, List, [], ◌∷◌, ◌++◌, length, None, refl, not}
use Rattle.std.specs.List.{list_any, list_all, starts_with}
use Rattle.std.specs.Fmt.{digits}
use Rattle.std.proofs.Common.{◌∙◌, sym, subst}
use Rattle.at_cmds.specs.Params.{parameters, unquoted}
use Rattle.at_cmds.specs.Forms.{numeral_in}
use Rattle.at_cmds.specs.Values.{command_in, command_of}
use Rattle.mux_frame.specs.Frames.{Frame}
use Rattle.mux_frame.specs.declared.frame.Kind.{Kind}
use Rattle.mux_frame.specs.declared.frame.Kind.TheVariants.{Sabm, Uih}
use Rattle.mux_station.specs.declared.role.Role.TheVariants.{Initiator, Responder}
use Rattle.mux_station.specs.Acts as station
use Rattle.mux_station.specs.Written.{written, is_data_frame}
use Rattle.mux_station.specs.Opening.{is_open}
use Rattle.mux_station.specs.Stopping.{is_stopped}
use Rattle.mux_station.specs.Offering.{offered, data_out}
use Rattle.mux_station.specs.Sending.{StationSetting, queue, StationLawful as LawfulThere, StationComplete as CompleteThere, Sends, StationGated, after_act, is_sent, is_loss}
use Rattle.mux_station.proofs.law_proofs.OwedFrames.{answers_keep}
use Rattle.modem_sim.specs.declared.script.StepAct.TheVariants.{Announce, Flow, Hold, Disconnect, CloseDown}
use Rattle.modem_sim.specs.Acts.{Act, End, setting, wire, after}
use Rattle.modem_sim.specs.declared.script.Step.{Step}
use Rattle.modem_sim.specs.Pieces.{framed, pieces_octets}
use Rattle.modem_sim.specs.Outboxes.{outbox}
use Rattle.modem_sim.specs.Heard.{heard}
use Rattle.modem_sim.specs.Acts.{is_open_at_modem as is_open_on}
use Rattle.modem_sim.specs.declared.script.StepAct.{StepAct}
use Rattle.modem_sim.specs.Doing.{call_owed, is_free, left, named_by}
use Rattle.modem_sim.specs.Histories.{EachAllowed, IsStationOffer, MayDo, MayGive}
use Rattle.modem_sim.specs.HistoryRows.{one, two, step_at, plain, simulated, cr, ready_one, ready_two, csq, repeated, two_connections, holding, held_back, asking, asked_of_station, IsGood, GoodRows}

-- a station's past that is lawful and complete
pub record GoodThere (s : StationSetting) (past : List station.Act) : Type 0 where
  pub lawful : LawfulThere s past
  pub complete : CompleteThere s past

nothing_yet : (s : StationSetting) → GoodThere s []
unfolding LawfulThere CompleteThere
nothing_yet s = record { lawful = tt; complete = refl }

-- an act with the frames that it calls for
with_frames : {s : StationSetting} {past : List station.Act} (a : station.Act) → is_sent a ≡ false → GoodThere s past → GoodThere s (after_act s past a)
with_frames {s} {past} a first good =
    let keeps = answers_keep s past a in
    record { lawful = keeps.lawful first good.lawful good.complete; complete = keeps.complete first good.lawful good.complete }

-- data
with_data : {s : StationSetting} {past : List station.Act} (f : Frame) → is_data_frame f ≡ true → StationGated s past f → GoodThere s past → GoodThere s (station.Sent f ∷ past)
unfolding LawfulThere CompleteThere Sends
with_data {s} {past} f data_is gated good = record {
  lawful = (rw data_is gated, good.lawful);
  complete = rw data_is (good.complete);
}

-- the station's setting: the responder, with N1 31
abbrev pub end : StationSetting
end = record { role = Responder; n1 = 31 }

-- data leaves, of octets that were offered
pub leaves : {past : List station.Act} (d : ℕ) (info later : List ℕ) → is_data_frame (written Responder Uih d info) ≡ true → IsTrue (not (list_any is_loss past)) → IsTrue (is_open Responder d past) → IsTrue (not (is_stopped Responder d past)) → IsTrue (nat_le 1 (length info)) → IsTrue (nat_le (length info) 31) → offered Responder d past ≡ data_out Responder d past ++ info ++ later → GoodThere end past → GoodThere end (station.Sent (written Responder Uih d info) ∷ past)
unfolding CompleteThere
leaves {past} d info later data_is live there goes some fits next good =
    with_data (written Responder Uih d info) data_is
    (record { live = live; is_open = there; goes = goes; as_written = refl; some = some; fits = fits; behind = good.complete; later = later; is_offered = next })
    good

-- a frame comes
pub got : {past : List station.Act} (k : Kind) (d : ℕ) (info : List ℕ) → GoodThere end past → GoodThere end (after_act end past (station.Got (written Initiator k d info)))
got k d info good = with_frames (station.Got (written Initiator k d info)) refl good

-- a frame is given on
pub given_on : {past : List station.Act} → GoodThere end past → GoodThere end (after_act end past station.Given)
given_on good = with_frames station.Given refl good

-- a call of the user
pub called : {past : List station.Act} (c : station.Call) → GoodThere end past → GoodThere end (after_act end past (station.Called c))
called c good = with_frames (station.Called c) refl good

-- the call that hands on these octets
abbrev pub offer : ℕ → List ℕ → station.Call
offer d octets = station.Offer d octets

-- once 0 and 1 are open the station's past is lawful and complete
pub ready_one_there : (echo : Bool) (steps : List Step) → GoodThere end (wire (after [] ready_one))
ready_one_there echo steps = given_on (given_on (got Sabm 1 [] (given_on (got Sabm 0 [] (nothing_yet end)))))

ready_two_there : (echo : Bool) (steps : List Step) → GoodThere end (wire (after [] ready_two))
ready_two_there echo steps = given_on (given_on (got Sabm 2 [] (ready_one_there echo steps)))

-- one waits in the control queue
pub gave : {past : List Act} {f : Frame} {fs : List Frame} → call_owed past ≡ None → queue (wire past) ≡ f ∷ fs → MayGive past
gave {f = f} {fs = fs} free waits = record { free = free; waits = λ none. some f fs (sym waits ∙ none) }
  where
    some : (f : Frame) (fs : List Frame) → f ∷ fs ≡ [] → ⊥
    some f fs same = cc

-- and each act may follow
pub ready_one_allowed : (e : End) → EachAllowed e (after [] ready_one)
ready_one_allowed e = (gave refl refl, (gave refl refl, (refl, (refl, (refl, (gave refl refl, (refl, (refl, tt))))))))

ready_two_allowed : (e : End) → EachAllowed e (after [] ready_two)
ready_two_allowed e = (gave refl refl, (gave refl refl, (refl, (refl, (refl, ready_one_allowed e)))))

-- the octets that are handed on are the next of those said
pub next_offer : {e : End} {past : List Act} {d x : ℕ} {octets : List ℕ} → call_owed past ≡ None → starts_with nat_eq (pieces_octets (outbox e d past).said) (offered Responder d (wire past) ++ x ∷ octets) ≡ true → IsStationOffer e past d (x ∷ octets)
next_offer {x = x} {octets = octets} free next = record { free = free; some = some x octets; next = next }
  where
    some : (x : ℕ) (xs : List ℕ) → x ∷ xs ≡ [] → ⊥
    some x xs same = cc

csq_there : GoodThere end (wire (after [] csq))
csq_there =
    let text = framed (codes "+CSQ: 18,99") ++ framed (codes "OK") in
    leaves 1 text [] refl refl refl refl refl refl refl (called (offer 1 text) (got Uih 1 (codes "AT+CSQ" ++ cr) (ready_one_there false [])))

csq_allowed : EachAllowed plain (after [] csq)
unfolding command_of command_in numeral_in unquoted parameters digits
csq_allowed = (refl, (next_offer refl refl, (refl, ready_one_allowed plain)))

good_row : (e : End) (acts : List Act) → setting e ≡ end → GoodThere end (wire (after [] acts)) → EachAllowed e (after [] acts) → call_owed (after [] acts) ≡ None → data_out Responder 1 (wire (after [] acts)) ≡ pieces_octets (outbox e 1 (after [] acts)).said → data_out Responder 2 (wire (after [] acts)) ≡ pieces_octets (outbox e 2 (after [] acts)).said → IsGood e acts
good_row e acts is there allowed free first second =
    let There : StationSetting → Type 0 = λ s. GoodThere s (wire (after [] acts)) in
    let own = subst There (sym is) there in
    record {
      lawful = record { at_station = own.lawful; acts = allowed };
      complete = record { at_station = own.complete; called = free };
      out = (first, second);
    }

-- a command is answered
pub csq_good : IsGood plain csq
unfolding command_of command_in numeral_in unquoted parameters digits
csq_good = good_row plain csq refl csq_there csq_allowed refl refl refl

-- a command is repeated, then answered
pub repeated_good : IsGood (simulated true []) repeated
unfolding command_of command_in numeral_in unquoted parameters digits
repeated_good =
    let text = codes "at" ++ cr ++ framed (codes "OK") in
    good_row (simulated true []) repeated refl
    (leaves 1 text [] refl refl refl refl refl refl refl (called (offer 1 text) (got Uih 1 (codes "at" ++ cr) (ready_one_there true []))))
    (refl, (next_offer refl refl, (refl, ready_one_allowed (simulated true []))))
    refl refl refl

-- one modem answers on two connections
pub two_good : IsGood plain two_connections
unfolding command_of command_in numeral_in unquoted parameters digits
two_good =
    let ok = framed (codes "OK") in
    let front = 0xd ∷ 0xa ∷ codes "+CME" in
    let back = codes " ERROR: 3" ++ 0xd ∷ 0xa ∷ [] in
    good_row plain two_connections refl
    (leaves 2 back [] refl refl refl refl refl refl refl
    (leaves 1 ok [] refl refl refl refl refl refl refl
    (leaves 2 front back refl refl refl refl refl refl refl
    (called (offer 2 (framed (codes "+CME ERROR: 3")))
    (called (offer 1 ok)
    (got Uih 2 (codes "AT+CMUX=0" ++ cr) (got Uih 1 (codes "AT+CMEE=1" ++ cr) (ready_two_there false []))))))))
    (refl, (refl, (refl, (next_offer refl refl, (next_offer refl refl, (refl, (refl, ready_two_allowed plain)))))))
    refl refl refl

-- a step may be done that is the first left, and due
pub due : {e : End} {past : List Act} {act : StepAct} (next : Step) (later : List Step) → call_owed past ≡ None → left e past ≡ next ∷ later → next.act ≡ act → nat_le next.after (length (heard past)) ≡ true → list_all (λ d. is_open_on d past) (named_by act) ≡ true → is_free e past act ≡ true → MayDo e past act
due next later free is_first is_its come they_are_open none_in_calls = record {
  free = free;
  due = record { next = next; later = later; is_first = is_first; is_its = is_its; come = come; open_are = they_are_open; free = none_in_calls };
}

-- an answer on 1 waits for a command on 2, and a line of the modem's own doesn't
pub held_good : IsGood holding held_back
unfolding command_of command_in numeral_in unquoted parameters digits
held_good =
    let ring = framed (codes "RING") in
    let ok = framed (codes "OK") in
    let attached = framed (codes "+CGATT: 0") ++ ok in
    good_row holding held_back refl
    (leaves 2 attached [] refl refl refl refl refl refl refl
    (leaves 1 ok [] refl refl refl refl refl refl refl
    (called (offer 1 ok)
    (called (offer 2 attached)
    (got Uih 2 (codes "AT+CGATT?" ++ cr)
    (leaves 1 ring [] refl refl refl refl refl refl refl
    (called (offer 1 ring)
    (got Uih 1 (codes "AT" ++ cr) (ready_two_there false []))))))))) (
      refl,
      (
        refl,
        (
          next_offer refl refl,
          (
            next_offer refl refl,
            (
              refl,
              (
                refl,
                (
                  next_offer refl refl,
                  (
                    due (step_at 1 (Announce one (codes "RING"))) [] refl refl refl refl refl refl,
                    (refl, (due (step_at 0 (Hold one two)) (step_at 1 (Announce one (codes "RING")) ∷ []) refl refl refl refl refl refl, ready_two_allowed holding)),
                  ),
                ),
              ),
            ),
          ),
        ),
      ),
    )
    refl refl refl

-- steps ask the station for flow control, for a close and for closing down
pub asked_good : IsGood asking asked_of_station
asked_good =
    good_row asking asked_of_station refl
    (given_on (called station.Stop
    (given_on (called (station.Close 1)
    (given_on (called (station.Flow 1 false) (ready_one_there false []))))))) (
      gave refl refl,
      (
        refl,
        (
          record { owed = refl; taken = refl },
          (
            due (step_at 0 CloseDown) [] refl refl refl refl refl refl,
            (
              gave refl refl,
              (
                refl,
                (
                  record { owed = refl; taken = refl },
                  (
                    due (step_at 0 (Disconnect one)) (step_at 0 CloseDown ∷ []) refl refl refl refl refl refl,
                    (
                      gave refl refl,
                      (
                        refl,
                        (
                          record { owed = refl; taken = refl },
                          (
                            due (step_at 0 (Flow one false)) (step_at 0 (Disconnect one) ∷ step_at 0 CloseDown ∷ []) refl refl refl refl refl refl,
                            ready_one_allowed asking,
                          ),
                        ),
                      ),
                    ),
                  ),
                ),
              ),
            ),
          ),
        ),
      ),
    )
    refl refl refl

-- all histories of a right one are lawful and complete, and all is out
pub good_rows : GoodRows
good_rows = (csq_good, repeated_good, two_good, held_good, asked_good)
