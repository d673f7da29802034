-- The rows of sessions, computed.
use Rattle.std.proofs.Common.{ap, sym, ◌∙◌, subst, arith, lit<, lit≤, length-drop}
use Rattle.std.specs.Prelude.{◌≡◌, ℕ, ◌-◌, ◌<◌, ◌≤◌, ◌==◌, ◌&&◌, nat_lt, Bool, true, false, List, [], ◌∷◌, ◌++◌, length, map, take, drop, Option, Some, None, refl, codes}
use Rattle.std.proofs.lemmas.Bool.{ltb-true, eq-eqb}
use Rattle.mux_frame.specs.declared.frame.Kind.TheVariants.{Ua, Uih}
use Rattle.mux_frame.specs.CheckOctet.{check_octet_of}
use Rattle.mux_frame.specs.Spelling.{body_of, short}
use Rattle.mux_frame.specs.Judging.{verdict_on, by_header, by_end}
use Rattle.mux_frame.specs.Deframing.{AtHand, Deframes}
use Rattle.mux_frame.proofs.readings.LaterTexts.{reads_on}
use Rattle.mux_station.specs.declared.role.Role.TheVariants.{Responder}
use Rattle.mux_station.specs.Written.{written}
use Rattle.mux_station.specs.GivenFrames.{Outgoing}
use Rattle.at_text.specs.declared.unsolicited.UrcKind.TheVariants.{Ring, Creg}
use Rattle.modem_history.specs.Acts.{Act, after}
use Rattle.std.proofs.lemmas.List.{append_assoc}
use Rattle.at_text.specs.declared.unsolicited.UrcKind.{UrcKind}
use Rattle.modem_desk.specs.declared.request.Outcome.{Outcome}
use Rattle.modem_desk.specs.declared.request.Urc.{Urc}
use Rattle.modem_history.specs.Kinds.{of_kind}
use Rattle.modem_history.specs.Wholes.{outcomes}
use Rattle.modem_history.specs.Sessions.{Beginning, SessionView, FitsSent, ToldTo, AnnouncedTo, octets_of_frames, caller_outcomes, at_place, heards, heard_as, driving, gots, given_on, last_octets}
use Rattle.modem_history.specs.Rows.{framed, opening_one}
use Rattle.modem_history.specs.SessionRows.{SessionRow, IsRight, IsWrong, Each, beginning, entry_answer, lf_octet, zero_came, one_came, ua_zero, broken_ua_zero, ring_one, last_flag, ring}
use Rattle.modem_history.specs.GoodSessions.{right_sessions, nothing_yet, sabm_queued, sabm_half_sent, ua_unfed, ua_at_hand, zero_opened, outcome_waits, csq_sent, ring_announced, ring_comes, ring_waits, line_lost}
use Rattle.modem_history.specs.BadSessions.{wrong_sessions, written_twice, octet_left_out, octet_waits_again, marked_too_early, marked_too_late, two_marked, data_overtakes_octets, data_overtakes_frame, half_a_frame, octets_of_none, broken_frame_got, got_too_soon, got_unfed, frame_dropped, flag_dropped, other_n1, request_dropped, request_invented, number_twice, caller_unknown, sound_line_lost, lost_twice, told_and_kept, outcome_dropped, told_to_another, told_by_number, told_in_other_order, not_told_at_all, announced_out_of_order, announced_elsewhere, announced_twice, line_dropped, unheard_line_waits, lines_change_places, announced_beyond}
use Rattle.modem_history.proofs.rules.MadeLaws.{laws_of}
use Rattle.modem_history.proofs.rows.HistoryTests.{refused, incomplete}
use Rattle.modem_history.proofs.rows.SessionTests.{all_small, small_octets, frames_read, rest_of, read_in, read_by, fed_is, fits_by, fits_none, octets_differ, acts_differ, outcomes_differ, requests_differ}

nothing_yet_right : IsRight nothing_yet
unfolding check_octet_of body_of verdict_on by_header by_end
nothing_yet_right = fits_none nothing_yet [] [] 0 refl refl refl (read_in [] refl) (read_in [] refl) refl

-- the SABM waits in the control queue: the session fits
pub sabm_queued_right : IsRight sabm_queued
unfolding check_octet_of body_of verdict_on by_header by_end
sabm_queued_right = fits_none sabm_queued lf_octet [] 0 refl refl refl (read_in lf_octet refl) (read_in [] refl) refl

-- it fits with two octets of the SABM sent and four that wait
pub sabm_half_sent_right : IsRight sabm_half_sent
unfolding check_octet_of body_of verdict_on by_header by_end
sabm_half_sent_right = fits_none sabm_half_sent lf_octet [] 2 refl refl refl (read_in lf_octet refl) (read_in [] refl) refl

ua_unfed_right : IsRight ua_unfed
unfolding check_octet_of body_of verdict_on by_header by_end
ua_unfed_right = fits_none ua_unfed lf_octet [] 6 refl refl refl (read_in lf_octet refl) (read_in [] refl) refl

-- with 0 open, and the caller told
pub zero_opened_right : IsRight zero_opened
unfolding check_octet_of body_of verdict_on by_header by_end
zero_opened_right = fits_none zero_opened zero_came last_flag 6 refl refl refl (read_in zero_came refl) (read_in last_flag refl) refl

-- with 0 open, and the outcome that waits for a place
pub outcome_waits_right : IsRight outcome_waits
unfolding check_octet_of body_of verdict_on by_header by_end
outcome_waits_right = fits_none outcome_waits zero_came last_flag 6 refl refl refl (read_in zero_came refl) (read_in last_flag refl) refl

-- with the command sent, which waits for its answer
pub csq_sent_right : IsRight csq_sent
unfolding check_octet_of body_of verdict_on by_header by_end
csq_sent_right = fits_none csq_sent one_came last_flag 13 refl refl refl (read_in one_came refl) (read_in last_flag refl) refl

ring_announced_right : IsRight ring_announced
unfolding check_octet_of body_of verdict_on by_header by_end
ring_announced_right = fits_none ring_announced (one_came ++ ring_one) last_flag 10 refl refl refl (read_in (one_came ++ ring_one) refl) (read_in last_flag refl) refl

-- with the RING that waits for a place
pub ring_waits_right : IsRight ring_waits
unfolding check_octet_of body_of verdict_on by_header by_end
ring_waits_right = fits_none ring_waits (one_came ++ ring_one) last_flag 10 refl refl refl (read_in (one_came ++ ring_one) refl) (read_in last_flag refl) refl

-- the UA is the frame at hand
ua_next : AtHand 31 ua_zero (Some (written Responder Ua 0 []))
unfolding check_octet_of
ua_next = record {
  octets = 0x03 ∷ 0x73 ∷ 0x01 ∷ 0xD7 ∷ [];
  later = [];
  text = refl;
  spells = record { indicator = 1 ∷ []; octets = refl; dlci = lit< tt; indicates = short 0 (lit< tt); room = lit≤ tt };
}

-- it fits with the UA at hand
pub ua_at_hand_right : IsRight ua_at_hand
unfolding check_octet_of body_of verdict_on by_header by_end
ua_at_hand_right = fits_by ua_at_hand zero_came 6 refl refl (record {
  reads = λ x gs rest more. reads_on 31 lf_octet (ua_zero ++ x) [] gs [] rest (read_in lf_octet refl) more;
  at_hand = ua_next;
  octets = small_octets ua_zero refl;
})

-- RING is the frame at hand
ring_next : AtHand 31 ring_one (Some (written Responder Uih 1 (framed (codes "RING"))))
unfolding check_octet_of
ring_next = record {
  octets = take 12 (drop 1 ring_one);
  later = [];
  text = refl;
  spells = record { indicator = 0x11 ∷ []; octets = refl; dlci = lit< tt; indicates = short 8 (lit< tt); room = lit≤ tt };
}

-- and with RING at hand, whose first flag ended the frame before it
pub ring_comes_right : IsRight ring_comes
unfolding check_octet_of body_of verdict_on by_header by_end
ring_comes_right = fits_by ring_comes (one_came ++ drop 1 ring_one) 10 refl refl (record {
  reads = λ x gs rest more. reads_on 31 one_came (drop 1 ring_one ++ x) (gots (after [] opening_one)) gs last_flag rest (read_in one_came refl) more;
  at_hand = ring_next;
  octets = small_octets ring_one refl;
})

-- it fits after a call that failed, with the LineLost that waits for a place
pub line_lost_right : IsRight line_lost
unfolding check_octet_of body_of verdict_on by_header by_end
line_lost_right = fits_none line_lost zero_came last_flag 2 refl refl refl (read_in zero_came refl) (read_in last_flag refl) refl

-- each right session fits its history
pub all_right : Each IsRight right_sessions
all_right = (nothing_yet_right, (sabm_queued_right, (sabm_half_sent_right, (ua_unfed_right, (ua_at_hand_right, (zero_opened_right, (outcome_waits_right, (csq_sent_right, (ring_announced_right, (ring_comes_right, (ring_waits_right, (line_lost_right, tt))))))))))))

never : false ≡ true → ⊥
never e = cc

-- what was sent in all, and what waits
sent_whole : (b : Beginning) (v : SessionView) (past : List Act) → FitsSent b v past → v.line.sent ++ v.unwritten ≡ b.line.sent ++ octets_of_frames (given_on past)
sent_whole b v past f =
    ap (λ (xs : List ℕ). xs ++ v.unwritten) f.sent_are
    ∙ (append_assoc b.line.sent f.since v.unwritten ∙ ap (λ (xs : List ℕ). b.line.sent ++ xs) f.frames_are)

-- what caller 0 was told, and what waits for it
told_whole : (v : SessionView) (past : List Act) → ToldTo beginning v past 0 → at_place 0 v.desk.told ++ caller_outcomes 0 v.unplaced ≡ caller_outcomes 0 (outcomes past)
told_whole v past f = ap (λ (os : List Outcome). os ++ caller_outcomes 0 v.unplaced) f.told_are ∙ f.outcomes_are

-- what a listener was announced, and what waits for it
heard_whole : (v : SessionView) (past : List Act) (i : ℕ) (k : UrcKind) → at_place i beginning.desk.announced ≡ [] → AnnouncedTo beginning v past i k
    → map heard_as (at_place i v.desk.announced ++ of_kind k v.unannounced) ≡ heards k past
heard_whole v past i k none f =
    ap (λ (us : List Urc). map heard_as (us ++ of_kind k v.unannounced)) (f.announced_are ∙ ap (λ (us : List Urc). us ++ f.since) none) ∙ f.lines_are

-- ## Octets that leave

-- the information of the frame that goes out
abbrev info_out : Option Outgoing → List ℕ
info_out None = []
info_out (Some o) = o.frame.info

written_twice_wrong : IsWrong written_twice
unfolding check_octet_of body_of
written_twice_wrong f = octets_differ _ _ refl (sent_whole _ _ _ f.sent)

octet_left_out_wrong : IsWrong octet_left_out
unfolding check_octet_of body_of
octet_left_out_wrong f = octets_differ _ _ refl (sent_whole _ _ _ f.sent)

octet_waits_again_wrong : IsWrong octet_waits_again
unfolding check_octet_of body_of
octet_waits_again_wrong f = octets_differ _ _ refl (sent_whole _ _ _ f.sent)

marked_too_early_wrong : IsWrong marked_too_early
unfolding check_octet_of body_of
marked_too_early_wrong f = octets_differ _ _ refl (sent_whole _ _ _ f.sent)

marked_too_late_wrong : IsWrong marked_too_late
unfolding check_octet_of body_of
marked_too_late_wrong f = octets_differ _ _ refl (sent_whole _ _ _ f.sent)

data_overtakes_octets_wrong : IsWrong data_overtakes_octets
unfolding check_octet_of body_of
data_overtakes_octets_wrong f = octets_differ _ _ refl (sent_whole _ _ _ f.sent)

half_a_frame_wrong : IsWrong half_a_frame
half_a_frame_wrong f = octets_differ _ _ refl (ap info_out (laws_of f.history).in_turn.1.0)

octets_of_none_wrong : IsWrong octets_of_none
octets_of_none_wrong f = octets_differ _ _ refl (sent_whole _ _ _ f.sent)

data_overtakes_frame_wrong : IsWrong data_overtakes_frame
data_overtakes_frame_wrong f = refused (driving beginning) (after [] data_overtakes_frame.acts) refl (laws_of f.history).lawful

-- what is left of a list is no longer than it
no_longer : (n : ℕ) (xs ys : List ℕ) → nat_lt (length ys) (length xs) ≡ true → xs ≡ drop n ys → ⊥
no_longer n xs ys h e =
    let lengths : length xs ≡ length ys - n = ap length e ∙ length-drop n ys in
    let longer : length ys < length xs = ltb-true (length ys) (length xs) h in
    omega arith

two_marked_wrong : IsWrong two_marked
unfolding check_octet_of body_of
two_marked_wrong f = no_longer f.sent.written two_marked.view.unwritten (last_octets (given_on (after [] two_marked.acts))) refl f.sent.of_last

-- ## Octets that come

-- the octets taken aren't read as the frames that were got, or leave another rest
misread : (row : SessionRow) (fed : List ℕ) → row.view.line.received ≡ entry_answer ++ fed ++ row.view.unfed → row.view.deframer.n1 ≡ 31
    → row.view.deframer.next ≡ None → all_small fed ≡ true
    → ((length (frames_read fed) == length (gots (after [] row.acts))) && (length (rest_of fed) == length row.view.deframer.undecided)) ≡ false
    → IsWrong row
misread row fed e n1 none small h f =
    let r = f.received in
    let is_fed = fed_is entry_answer fed r.fed row.view.unfed row.view.line.received e r.received_are in
    let deframes = subst (λ x. Deframes x (gots (after [] row.acts)) row.view.deframer) (sym is_fed) r.deframes in
    let read = read_by fed (gots (after [] row.acts)) row.view.deframer deframes n1 none small in
    counts (length (frames_read fed)) (length (gots (after [] row.acts))) (length (rest_of fed)) (length row.view.deframer.undecided) (ap length read.frames) (ap length read.rest) h
  where
    both : (x y : Bool) → x ≡ true → y ≡ true → (x && y) ≡ false → ⊥
    both true true i j h = cc
    both true false i j h = cc
    both false y i j h = cc

    counts : (a b c d : ℕ) → a ≡ b → c ≡ d → ((a == b) && (c == d)) ≡ false → ⊥
    counts a b c d x y h = both (a == b) (c == d) (eq-eqb a b x) (eq-eqb c d y) h

broken_frame_got_wrong : IsWrong broken_frame_got
unfolding check_octet_of verdict_on by_header by_end
broken_frame_got_wrong = misread broken_frame_got (lf_octet ++ broken_ua_zero) refl refl refl refl refl

got_too_soon_wrong : IsWrong got_too_soon
unfolding check_octet_of verdict_on by_header by_end
got_too_soon_wrong = misread got_too_soon (lf_octet ++ take 4 ua_zero) refl refl refl refl refl

got_unfed_wrong : IsWrong got_unfed
unfolding check_octet_of verdict_on by_header by_end
got_unfed_wrong = misread got_unfed lf_octet refl refl refl refl refl

frame_dropped_wrong : IsWrong frame_dropped
unfolding check_octet_of verdict_on by_header by_end
frame_dropped_wrong = misread frame_dropped zero_came refl refl refl refl refl

flag_dropped_wrong : IsWrong flag_dropped
unfolding check_octet_of verdict_on by_header by_end
flag_dropped_wrong = misread flag_dropped (lf_octet ++ take 1 ua_zero) refl refl refl refl refl

other_n1_wrong : IsWrong other_n1
other_n1_wrong f = octets_differ (32 ∷ []) (31 ∷ []) refl (ap (λ n. n ∷ []) f.received.bound)

-- ## Requests

request_dropped_wrong : IsWrong request_dropped
request_dropped_wrong f = requests_differ _ _ refl f.requests.taken_are

request_invented_wrong : IsWrong request_invented
request_invented_wrong f = requests_differ _ _ refl f.requests.taken_are

number_twice_wrong : IsWrong number_twice
number_twice_wrong f = never f.requests.once

-- ## Outcomes

told_and_kept_wrong : IsWrong told_and_kept
told_and_kept_wrong f = outcomes_differ _ _ refl (told_whole _ _ (f.told.each 0))

outcome_dropped_wrong : IsWrong outcome_dropped
outcome_dropped_wrong f = outcomes_differ _ _ refl (told_whole _ _ (f.told.each 0))

told_to_another_wrong : IsWrong told_to_another
told_to_another_wrong f = outcomes_differ _ _ refl (told_whole _ _ (f.told.each 0))

told_by_number_wrong : IsWrong told_by_number
told_by_number_wrong f = outcomes_differ _ _ refl (told_whole _ _ (f.told.each 0))

told_in_other_order_wrong : IsWrong told_in_other_order
told_in_other_order_wrong f = outcomes_differ _ _ refl (told_whole _ _ (f.told.each 0))

not_told_at_all_wrong : IsWrong not_told_at_all
not_told_at_all_wrong f = incomplete (driving beginning) (after [] not_told_at_all.acts) refl (laws_of f.history).complete

-- ## Lines

announced_out_of_order_wrong : IsWrong announced_out_of_order
announced_out_of_order_wrong f = acts_differ _ _ refl (heard_whole _ _ 1 Creg refl (f.heard.each 1 Creg refl))

announced_elsewhere_wrong : IsWrong announced_elsewhere
announced_elsewhere_wrong f = acts_differ _ _ refl (heard_whole _ _ 0 Ring refl (f.heard.each 0 Ring refl))

announced_twice_wrong : IsWrong announced_twice
announced_twice_wrong f = acts_differ _ _ refl (heard_whole _ _ 0 Ring refl (f.heard.each 0 Ring refl))

line_dropped_wrong : IsWrong line_dropped
line_dropped_wrong f = acts_differ _ _ refl (heard_whole _ _ 0 Ring refl (f.heard.each 0 Ring refl))

unheard_line_waits_wrong : IsWrong unheard_line_waits
unheard_line_waits_wrong f = never f.heard.listened

lines_change_places_wrong : IsWrong lines_change_places
lines_change_places_wrong f = acts_differ _ _ refl f.heard.in_order

announced_beyond_wrong : IsWrong announced_beyond
announced_beyond_wrong f = acts_differ (heard_as ring ∷ []) [] refl (ap (map heard_as) (f.heard.nowhere_else 2 (lit≤ tt)))

caller_unknown_wrong : IsWrong caller_unknown
caller_unknown_wrong f = never f.requests.callers

-- ## The line

sound_line_lost_wrong : IsWrong sound_line_lost
sound_line_lost_wrong f = let failed : 0 < 0 = f.loss.by_fault refl in omega arith

lost_twice_wrong : IsWrong lost_twice
lost_twice_wrong f = let few : 2 ≤ 1 = f.loss.one in omega arith

-- and no wrong one does
pub all_wrong : Each IsWrong wrong_sessions
all_wrong = (written_twice_wrong, (octet_left_out_wrong, (octet_waits_again_wrong, (marked_too_early_wrong, (marked_too_late_wrong, (two_marked_wrong, (data_overtakes_octets_wrong, (data_overtakes_frame_wrong, (half_a_frame_wrong, (octets_of_none_wrong, (broken_frame_got_wrong, (got_too_soon_wrong, (got_unfed_wrong, (frame_dropped_wrong, (flag_dropped_wrong, (other_n1_wrong, (request_dropped_wrong, (request_invented_wrong, (number_twice_wrong, (caller_unknown_wrong, (sound_line_lost_wrong, (lost_twice_wrong, (told_and_kept_wrong, (outcome_dropped_wrong, (told_to_another_wrong, (told_by_number_wrong, (told_in_other_order_wrong, (not_told_at_all_wrong, (announced_out_of_order_wrong, (announced_elsewhere_wrong, (announced_twice_wrong, (line_dropped_wrong, (unheard_line_waits_wrong, (lines_change_places_wrong, (announced_beyond_wrong, tt)))))))))))))))))))))))))))))))))))
