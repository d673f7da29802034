-- What passed says of a stop what the responses of the end say that passed.
use Rattle.std.specs.Prelude.{◌≡◌, ℕ, ◌==◌, ◌&&◌, ◌||◌, not, Bool, true, false, List, [], ◌∷◌, ◌++◌, length, Option, Some, None, refl, is_none, unwrap_or, if◌then◌else◌}
use Rattle.std.specs.List.{list_all}
use Rattle.std.proofs.Common.{ap, arith, sym, ◌∙◌, eqb-true}
use Rattle.std.proofs.lemmas.Bool.{and_parts, or_parts}
use Rattle.mux_frame.specs.Frames.{Frame}
use Rattle.mux_frame.specs.declared.frame.Kind.TheVariants.{Dm}
use Rattle.mux_capture.specs.Passing.{Caught}
use Rattle.mux_capture.specs.declared.packet.Stamp.{Stamp}
use Rattle.mux_station.specs.declared.role.Role.TheVariants.{Initiator, Responder}
use Rattle.mux_station.specs.Acts as station
use Rattle.mux_station.specs.Messages.{Message, command_of, fcoff, fcon, is_command, message_in, msc, nsc, response_of}
use Rattle.mux_station.specs.Stopping.{got_says, if_message, last_said}
use Rattle.mux_station.specs.Tables.{is_supported}
use Rattle.mux_station.specs.Written.{is_kind}
use Rattle.modem_history.specs.Acts as driver
use Rattle.modem_history.specs.Acts.{wire}
use Rattle.modem_history.specs.Calls.{Setting}
use Rattle.modem_history.specs.TwoEnds.{frames_sent}
use Rattle.modem_show.specs.Asking.{Ask, answered_by, answers, both_respond, is_again, is_answer, is_mode_answer, is_mode_command, message_answers, message_asks, responds, waiting}
use Rattle.modem_show.specs.Ends.{come, handled, own, says_at}
use Rattle.show_laws.specs.Lines.{IsLawfulLine, LineAct, captured, driver_past, modem_past}
use Rattle.show_laws.proofs.asks.AnswerShapes.{is_shaped, message_no_mode, one_response, or_elim, response_octet, response_value, shaped_message, supported_by}
use Rattle.show_laws.proofs.asks.NoneUnasked.{driver_answers, driver_shaped, modem_answers, modem_shaped}
use Rattle.show_laws.proofs.asks.WaitingAsks.{frames_of}
use Rattle.show_laws.proofs.counts.BalancedTables.{is_command_octet}
use Rattle.show_laws.proofs.lines.CapturedFrames.{shows}
use Rattle.show_laws.proofs.lines.EveryFrame.{lawful_before, over}
use Rattle.show_laws.proofs.openings.ModemLine.{found_passes}
use Rattle.show_laws.proofs.stops.KeptStops.{last_back}
use Rattle.show_laws.proofs.stops.StopWords.{answer_says, says_back, says_on, unsaid, unsupported_unsaid}

-- ## Frames without a message

mode_unread : (f : Frame) → (is_mode_command f || is_mode_answer f) ≡ true → message_in f ≡ None
mode_unread f h = by_read (message_in f) refl
  where
    by_read : (o : Option Message) → message_in f ≡ o → o ≡ None
    by_read None e = refl
    by_read (Some m) e =
        let n = message_no_mode f m e in
        let off : (is_mode_command f || is_mode_answer f) ≡ false = ap (λ (b : Bool). b || is_mode_answer f) n.0 ∙ n.1 in
        absurd (let t : true ≡ false = sym h ∙ off in cc)

-- a message of these types asks
asking_unsaid : (d : ℕ) (m : Message) → message_asks (Some m) ≡ false → says_at d m ≡ None
asking_unsaid d m h = unsaid d m.octet m.value (off msc refl) (off fcoff refl) (off fcon refl)
  where
    off : (x : ℕ) → (is_command_octet x && not (x == nsc)) ≡ true → (m.octet == x) ≡ false
    off x asks = by_test (m.octet == x) refl
      where
        by_test : (b : Bool) → (m.octet == x) ≡ b → b ≡ false
        by_test false e = refl
        by_test true e = let t : true ≡ false = sym asks ∙ (sym (ap (λ o. is_command_octet o && not (o == nsc)) (eqb-true m.octet x e)) ∙ h) in cc

quiet_read : (d : ℕ) (o : Option Message) → message_asks o ≡ false → if_message (says_at d) o ≡ None
quiet_read d None h = refl
quiet_read d (Some m) h = asking_unsaid d m h

-- a command responds to nothing
command_unsaid : (d : ℕ) (m : Message) → is_command m ≡ true → says_back d m ≡ None
command_unsaid d m h = unsaid d (command_of m.octet) m.value (off msc refl) (off fcoff refl) (off fcon refl)
  where
    off : (x : ℕ) → is_command_octet (response_of x) ≡ false → (command_of m.octet == x) ≡ false
    off x none = by_test (command_of m.octet == x) refl
      where
        by_test : (b : Bool) → (command_of m.octet == x) ≡ b → b ≡ false
        by_test false e = refl
        by_test true e =
            let back : m.octet ≡ response_of x = back_by m.octet x (eqb-true (command_of m.octet) x e) in
            let t : true ≡ false = sym h ∙ (ap is_command_octet back ∙ none) in cc
          where
            back_by : (o y : ℕ) → command_of o ≡ y → o ≡ response_of y
            back_by o y e = omega (arith, e)

-- a frame that isn't an answer responds to nothing
unanswering : (d : ℕ) (o : Option Message) → message_answers o ≡ false → if_message (says_back d) o ≡ None
unanswering d None h = refl
unanswering d (Some m) h = command_unsaid d m (turned (is_command m) h)
  where
    turned : (b : Bool) → not b ≡ false → b ≡ true
    turned true h = refl
    turned false h = cc

-- ## An answer

-- a response says what the message says that it answers
responded : (d : ℕ) (a m : Message) → message_asks (Some a) ≡ true → shaped_message (Some m) ≡ true → responds a m ≡ true → says_at d a ≡ says_back d m
responded d a m asks shape r = by_supported (is_supported a.octet) refl (one_response a m asks shape r)
  where
    same : (octet : ℕ) (value : List ℕ) → m.octet ≡ octet → m.value ≡ value → says_back d m ≡ says_at d (record { octet = command_of octet; value = value })
    same octet value e k = ap (λ o. says_at d (record { octet = command_of o; value = m.value })) e ∙ ap (λ v. says_at d (record { octet = command_of octet; value = v })) k

    by_supported : (b : Bool) → is_supported a.octet ≡ b → (m.octet ≡ response_octet b a.octet) × (m.value ≡ response_value b a) → says_at d a ≡ says_back d m
    by_supported true s p =
        let back : command_of (response_of a.octet) ≡ a.octet = supported_by (λ n. command_of (response_of n) ≡ n) a.octet s refl refl refl refl refl in
        sym (same (response_of a.octet) a.value p.0 p.1 ∙ ap (λ o. says_at d (record { octet = o; value = a.value })) back)
    by_supported false s p = unsupported_unsaid d a s ∙ sym (same (response_of nsc) (a.octet ∷ []) p.0 p.1 ∙ unsaid d nsc (a.octet ∷ []) refl refl refl)

answered_same : (d : ℕ) (a f : Frame) → is_shaped f ≡ true → answers a f ≡ true → says_on d a ≡ answer_says d f
answered_same d a f shape h =
    or_elim ((is_mode_command a && is_mode_answer f) && (a.dlci == f.dlci)) (both_respond (message_in a) (message_in f)) h
    (λ k.
    let p = and_parts (is_mode_command a) (is_mode_answer f) (and_parts (is_mode_command a && is_mode_answer f) (a.dlci == f.dlci) k).0 in
    ap (if_message (says_at d)) (mode_unread a (ap (λ (b : Bool). b || is_mode_answer a) p.0))
    ∙ sym (ap (if_message (says_back d)) (mode_unread f (second (is_mode_command f) (is_mode_answer f) p.1))))
    (λ k. by_read (message_in a) (message_in f) shape k)
  where
    second : (x y : Bool) → y ≡ true → (x || y) ≡ true
    second true y e = refl
    second false y e = e

    by_read : (o p : Option Message) → shaped_message p ≡ true → both_respond o p ≡ true → if_message (says_at d) o ≡ if_message (says_back d) p
    by_read None p s k = cc
    by_read (Some x) None s k = cc
    by_read (Some x) (Some m) s k = let q = and_parts (message_asks (Some x)) (responds x m) k in responded d x m q.0 s q.1

-- an ask that was sent again has no message
again_unsaid : (d : ℕ) (a : Ask) → is_again a ≡ true → says_on d a.frame ≡ None
again_unsaid d a h = ap (if_message (says_at d)) (mode_unread a.frame (ap (λ (b : Bool). b || is_mode_answer a.frame) (and_parts (is_mode_command a.frame) a.is_excused h).0))

sent_seen : (d : ℕ) (f : Frame) (asks : List Ask) (q : List station.Act) (x : Bool) (o : Option Ask) → answered_by f asks ≡ o → is_shaped f ≡ true → (is_answer f && is_none o) ≡ false
    → last_said (got_says (says_at d)) q ≡ x → last_said (got_says (says_at d)) (handled o ++ q) ≡ unwrap_or (answer_says d f) x
sent_seen d f asks q x None e shape h k =
    let none = unanswering d (message_in f) (or_parts (is_mode_answer f) (message_answers (message_in f)) (first (is_answer f) h)).1 in
    k ∙ sym (ap (λ (o : Option Bool). unwrap_or o x) none)
  where
    first : (a : Bool) → (a && true) ≡ false → a ≡ false
    first true h = cc
    first false h = refl
sent_seen d f asks q x (Some a) e shape h k = by_again (is_again a) refl (answered_same d a.frame f shape (found_passes (λ g. answers g f) asks a e))
  where
    by_again : (b : Bool) → is_again a ≡ b → says_on d a.frame ≡ answer_says d f → last_said (got_says (says_at d)) ((if b then [] else station.Got a.frame ∷ []) ++ q) ≡ unwrap_or (answer_says d f) x
    by_again true g same = k ∙ ap (λ (o : Option Bool). unwrap_or o x) (sym (again_unsaid d a g) ∙ same)
    by_again false g same = ap (λ (o : Option Bool). unwrap_or o (last_said (got_says (says_at d)) q)) same ∙ ap (unwrap_or (answer_says d f)) k

-- a frame of the other end, which is read later where it asks
come_seen : (d : ℕ) (f : Frame) (q : List station.Act) → last_said (got_says (says_at d)) (come f q) ≡ last_said (got_says (says_at d)) q
come_seen d f q = by_ask (is_mode_command f) (message_asks (message_in f)) (is_kind f.kind Dm) refl
  where
    by_ask : (a b c : Bool) → message_asks (message_in f) ≡ b → last_said (got_says (says_at d)) (if (a || b) || c then q else station.Got f ∷ q) ≡ last_said (got_says (says_at d)) q
    by_ask true b c e = refl
    by_ask false true c e = refl
    by_ask false false true e = refl
    by_ask false false false e = ap (λ (o : Option Bool). unwrap_or o (last_said (got_says (says_at d)) q)) (quiet_read d (message_in f) e)

-- ## The line

first_shaped : (f : Frame) (fs : List Frame) → list_all is_shaped (f ∷ fs) ≡ true → is_shaped f ≡ true
first_shaped f fs h = (and_parts (is_shaped f) (list_all is_shaped fs) h).0

abbrev Seen : ℕ → List Caught → Type 0
Seen d line =
    (last_said (got_says (says_at d)) (own Initiator line) ≡ last_back d (frames_of Initiator line))
    × (last_said (got_says (says_at d)) (own Responder line) ≡ last_back d (frames_of Responder line))

all_seen : (s : Setting) (n1 d : ℕ) (stamps : ℕ → Stamp) (line : List LineAct) → IsLawfulLine s n1 line → Seen d (captured stamps line)
all_seen s n1 d stamps line h =
    over (IsLawfulLine s n1) (λ x line k. lawful_before s n1 x line k) (Seen d) stamps (refl, refl)
    (λ f line k q.
    let cs = captured stamps line in (
      sent_seen d f (waiting Responder cs) (own Initiator cs) (last_back d (frames_of Initiator cs)) (answered_by f (waiting Responder cs)) refl
          (first_shaped f (frames_sent (wire (driver_past line))) (driver_shaped s (driver.Sent f ∷ driver_past line) k.driver_lawful))
          (driver_answers s n1 stamps f line (stamps (length cs)) k) q.0,
      come_seen d f (own Responder cs) ∙ q.1,
    ))
    (λ f line k q.
    let cs = captured stamps line in (
      come_seen d f (own Initiator cs) ∙ q.0,
      sent_seen d f (waiting Initiator cs) (own Responder cs) (last_back d (frames_of Responder cs)) (answered_by f (waiting Initiator cs)) refl
          (first_shaped f (frames_sent (modem_past line)) (modem_shaped n1 (station.Sent f ∷ modem_past line) k.modem_lawful))
          (modem_answers s n1 stamps f line (stamps (length cs)) k) q.1,
    )) line h

-- what passed says last of the stop at the driver what the responses say that it sent
pub driver_seen : (s : Setting) (n1 d : ℕ) (stamps : ℕ → Stamp) (line : List LineAct) → IsLawfulLine s n1 line → last_said (got_says (says_at d)) (own Initiator (captured stamps line)) ≡ last_back d (frames_sent (wire (driver_past line)))
driver_seen s n1 d stamps line h = (all_seen s n1 d stamps line h).0 ∙ ap (last_back d) (shows stamps line).driver_frames

-- and of that at the modem what its responses say
pub modem_seen : (s : Setting) (n1 d : ℕ) (stamps : ℕ → Stamp) (line : List LineAct) → IsLawfulLine s n1 line → last_said (got_says (says_at d)) (own Responder (captured stamps line)) ≡ last_back d (frames_sent (modem_past line))
modem_seen s n1 d stamps line h = (all_seen s n1 d stamps line h).1 ∙ ap (last_back d) (shows stamps line).modem_frames
