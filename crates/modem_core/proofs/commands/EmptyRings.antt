-- Where no command of a connection is in hand, its send ring is empty.
use Rattle.std.specs.Prelude.{suc, ◌≡◌, ℕ, ◌+◌, ◌-◌, ◌<◌, ◌≤◌, ◌==◌, ◌&&◌, not, nat_le, Bool, true, false, List, [], ◌∷◌, ◌++◌, length, map, filter, take, refl, if◌then◌else◌}
use Rattle.std.specs.List.{concat}
use Rattle.std.proofs.Common.{ap, sym, ◌∙◌, subst, arith, append-nil, length-append, eqb-true}
use Rattle.std.proofs.lemmas.Bool.Decides.{nat_tests}
use Rattle.std.proofs.lemmas.List.{take_all, length-take, length-map, nil_from_length}
use Rattle.mux_frame.specs.Frames.{Frame}
use Rattle.mux_frame.specs.declared.frame.Kind.TheVariants.{Uih}
use Rattle.mux_station.specs.declared.role.Role.{Role}
use Rattle.mux_station.specs.Acts as station
use Rattle.mux_station.specs.Written.{is_kind}
use Rattle.mux_station.specs.Opening.{since, is_open}
use Rattle.mux_station.specs.States.{is_opened}
use Rattle.mux_station.specs.Offering.{octets_sent, joined_octets, offered, data_out}
use Rattle.mux_station.specs.Stations.{channel_at}
use Rattle.mux_station.specs.Traces.{without_calls}
use Rattle.mux_station.proofs.law_proofs.PastsWithoutCalls.{same_given}
use Rattle.at_text.specs.Dialects.{Dialect}
use Rattle.at_text.specs.Windows.{Mark, answers, answer_of, answered, has_final, windows}
use Rattle.modem_desk.specs.declared.request.Request.{Request}
use Rattle.modem_history.specs.Acts.{Act, wire, in_hand}
use Rattle.modem_history.specs.Information.{info_of, info_sent, information_out, accepted, line_of, texts}
use Rattle.modem_history.specs.Placing.{marks, whole_in, whole_after}
use Rattle.modem_history.specs.Calls.{Setting}
use Rattle.modem_history.specs.Wholes.{begun_in, commands_for, BeginsInTurn, StaysInStep, InStep}
use Rattle.modem_core.specs.Cores.{dialect_in, Core, IsRun}
use Rattle.modem_history.proofs.commands.BegunCommands.{begins_in_turn, texts_counted}
use Rattle.modem_history.proofs.requests.StepsOfHistory.{stays_in_step}
use Rattle.modem_core.proofs.requests.TakenRequests.{Live}

-- ## What was given on

sent_by : (k z e : Bool) → (e ≡ true → z ≡ false) → ((k && not z) && e) ≡ (k && e)
sent_by false z e h = refl
sent_by true false true h = refl
sent_by true false false h = refl
sent_by true true false h = refl
sent_by true true true h = absurd (let x : true ≡ false = h refl in cc)

sent_so : (d : ℕ) (f : Frame) → (d == 0) ≡ false → octets_sent d (station.Sent f) ≡ info_of d f
sent_so d f z =
    ap (λ (b : Bool). if b then f.info else []) (sent_by (is_kind f.kind Uih) (f.dlci == 0) (f.dlci == d) (λ e. ap (λ (n : ℕ). n == 0) (eqb-true f.dlci d e) ∙ z))
    ∙ sym (ap (λ (b : Bool). if not b && (is_kind f.kind Uih && (f.dlci == d)) then f.info else []) z)

given_so : (d : ℕ) (acts : List station.Act) → (d == 0) ≡ false → joined_octets (octets_sent d) acts ≡ info_sent d acts
given_so d [] z = refl
given_so d (station.Sent f ∷ acts) z = ap (λ (v : List ℕ). v ++ octets_sent d (station.Sent f)) (given_so d acts z) ∙ ap (λ (v : List ℕ). info_sent d acts ++ v) (sent_so d f z)
given_so d (station.Called c ∷ acts) z = append-nil (joined_octets (octets_sent d) acts) ∙ given_so d acts z
given_so d (station.Got f ∷ acts) z = append-nil (joined_octets (octets_sent d) acts) ∙ given_so d acts z
given_so d (station.Tick ∷ acts) z = append-nil (joined_octets (octets_sent d) acts) ∙ given_so d acts z
given_so d (station.Lost ∷ acts) z = append-nil (joined_octets (octets_sent d) acts) ∙ given_so d acts z
given_so d (station.Given ∷ acts) z = append-nil (joined_octets (octets_sent d) acts) ∙ given_so d acts z

-- what the station gave on is the information that left
pub given_out : (r : Role) (d : ℕ) (acts : List station.Act) (past : List Act) → without_calls acts ≡ wire past → (d == 0) ≡ false → data_out r d acts ≡ information_out r d past
given_out r d acts past h z = sym (same_given r d acts) ∙ (ap (data_out r d) h ∙ given_so d (since r d (wire past)) z)

-- ## Where all that began is answered

whole_by : (b : Bool) (n k m : ℕ) → (if b then k + 1 else 0) ≡ m → suc n ≤ m → (b ≡ true) × (n ≤ k)
whole_by true n k m h l = (refl, omega (arith, h, l))
whole_by false n k m h l = absurd (omega (arith, h, l))

le_so : (a b : ℕ) → nat_le a b ≡ true → a ≤ b
le_so a b h = grind (arith, nat_tests)

-- where all texts are whole, all of them went out
all_whole : (n : ℕ) (ts : List (List ℕ)) → length ts ≤ whole_in n ts → length (concat ts) ≤ n
all_whole n [] h = omega arith
all_whole n (t ∷ ts) h =
    let parts = whole_by (nat_le (length t) n) (length ts) (whole_in (n - length t) ts) (whole_in n (t ∷ ts)) refl h in
    let fits : length t ≤ n = le_so (length t) n parts.0 in
    let rest = all_whole (n - length t) ts parts.1 in
    let joined = length-append t (concat ts) in
    omega (arith, fits, rest, joined)

few_passed : {X : Type 0} → (p : X → Bool) (xs : List X) → length (filter p xs) ≤ length xs
few_passed p [] = omega arith
few_passed p (x ∷ xs) = by_test (p x) (few_passed p xs)
  where
    by_test : (b : Bool) → length (filter p xs) ≤ length xs → length (if b then x ∷ filter p xs else filter p xs) ≤ length (x ∷ xs)
    by_test true h = omega (arith, h)
    by_test false h = omega (arith, h)

windows_begun : (ms : List Mark) → length (windows ms) ≡ length (begun_in ms)
windows_begun ms = sym (length-map (windows ms) (λ w. w.command))

answered_few : (dialect : Dialect) (ms : List Mark) → answered dialect ms ≤ length (begun_in ms)
answered_few dialect ms =
    let a = few_passed (has_final dialect) (answers dialect ms) in
    let b : length (answers dialect ms) ≡ length (windows ms) = length-map (windows ms) (answer_of dialect) in
    let c = windows_begun ms in
    omega (arith, a, b, c)

take_few : {X : Type 0} → (n : ℕ) (xs : List X) (m : ℕ) → m ≤ length (take n xs) → m ≤ n
take_few n xs m h = let e = length-take n xs in omega (arith, h, e)

-- nothing of what was accepted is left to be sent
all_out : (dialect : Dialect) (n : ℕ) (qs : List Request) (ms : List Mark) → begun_in ms ≡ map line_of (whole_after n qs) → length qs ≤ answered dialect ms → length (concat (texts qs)) ≤ n
all_out dialect n qs ms h l =
    let a = answered_few dialect ms in
    let b : length (begun_in ms) ≡ length (whole_after n qs) = ap length h ∙ length-map (whole_after n qs) line_of in
    let few : length qs ≤ length (whole_after n qs) = omega (arith, a, b, l) in
    let c = texts_counted qs in
    let whole : length qs ≤ whole_in n (texts qs) = take_few (whole_in n (texts qs)) qs (length qs) few in
    all_whole n (texts qs) (omega (arith, whole, c))

-- ## The ring

-- of an open connection: those accepted before have their answers, and the others are in hand
pub in_step_of : (s : Setting) (v : Core) (past : List Act) (d : ℕ) → Live s v past → IsRun s past → (d == 0) ≡ false → is_open s.role d (wire past) ≡ true → InStep s d past
unfolding StaysInStep
in_step_of s v past d l r z o = (stays_in_step s past r.lawful l.role_is r.whole r.numbers l.lost_is r.complete d z).while_open o

-- where no command of an open connection is in hand, its send ring is empty
pub ring_empty : (s : Setting) (v : Core) (past : List Act) (d : ℕ) → (l : Live s v past) → IsRun s past → d < 62 → (d == 0) ≡ false → is_open s.role d (wire past) ≡ true → commands_for d (in_hand past) ≡ []
    → (channel_at v.station d).waiting ≡ []
unfolding BeginsInTurn
ring_empty s v past d l r b z o none =
    let i = in_step_of s v past d l r z o in
    let acc = accepted s.role d past in
    let ms = marks s.role d past in
    let out = information_out s.role d past in
    let fits = l.runs.fits.channels_are d b in
    let opened : is_opened (channel_at v.station d).state ≡ true = ap is_opened (sym (l.states_are d b)) ∙ o in
    let all_before : acc ≡ i.before = i.accepted_are ∙ (ap (λ (qs : List Request). i.before ++ qs) none ∙ append-nil i.before) in
    let count : answered (dialect_in v) ms ≡ length acc = ap (λ (c : Dialect). answered c ms) (sym l.dialect_is) ∙ (i.answered_are ∙ ap length (sym all_before)) in
    let sent : length (concat (texts acc)) ≤ length out = all_out (dialect_in v) (length out) acc ms (begins_in_turn s past r.lawful d).first (omega (arith, count)) in
    let given_is : data_out s.role d l.runs.seen ≡ out = given_out s.role d l.runs.seen past l.runs.same z in
    let ring : offered s.role d l.runs.seen ≡ data_out s.role d l.runs.seen ++ (channel_at v.station d).waiting
    = subst (λ (x : Role). offered x d l.runs.seen ≡ data_out x d l.runs.seen ++ (channel_at v.station d).waiting) (sym l.same_role) (fits.ring_is opened) in
    let lane = l.runs.lanes_fit d b z (subst (λ (x : Role). is_open x d (wire past) ≡ true) l.role_is o) in
    let offers : offered s.role d l.runs.seen ≡ concat (texts (take (answered (dialect_in v) ms + 1) acc))
    = subst (λ (x : Role). offered x d l.runs.seen ≡ concat (texts (take (answered (dialect_in v) (marks x d past) + 1) (accepted x d past)))) (sym l.role_is) lane.offered_is in
    let all : offered s.role d l.runs.seen ≡ concat (texts acc) = offers ∙ ap (λ (qs : List Request). concat (texts qs)) (take_all (answered (dialect_in v) ms + 1) acc (omega (arith, count))) in
    let size : length (concat (texts acc)) ≡ length out + length (channel_at v.station d).waiting
    = ap length (sym all ∙ (ring ∙ ap (λ (x : List ℕ). x ++ (channel_at v.station d).waiting) given_is)) ∙ length-append out (channel_at v.station d).waiting in
    nil_from_length (channel_at v.station d).waiting (omega (arith, size, sent))
