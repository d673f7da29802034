-- What leaves on a connection, and which steps are done.
use Rattle.std.specs.Prelude.{◌≡◌, ℕ, ◌+◌, ◌-◌, ◌<◌, nat_eq, ◌==◌, ◌&&◌, not, Bool, true, false, List, [], ◌∷◌, ◌++◌, length, take, drop, map, filter, refl, if◌then◌else◌}
use Rattle.std.specs.List.{starts_with}
use Rattle.std.proofs.Common.{arith, sym, ap, ◌∙◌, subst, append_assoc, append-nil, add-one, drop-cons, get_or, length-drop}
use Rattle.std.proofs.Math.Seq.{take-suc}
use Rattle.std.proofs.lemmas.Bool.Decides.{nat_tests}
use Rattle.std.proofs.lemmas.List.{length-append, map-append}
use Rattle.at_cmds.proofs.command_texts.TextTable.{started}
use Rattle.mux_station.specs.declared.role.Role.TheVariants.{Responder}
use Rattle.mux_station.specs.Acts as station
use Rattle.mux_station.specs.Opening.{opens_now, belongs, since, since_after}
use Rattle.mux_station.specs.Offering.{offered, data_out, octets_offered, joined_octets}
use Rattle.mux_station.proofs.law_proofs.OwedFrames.{gives_beginning}
use Rattle.modem_history.specs.Wholes.{IsPrefixOf}
use Rattle.modem_sim.specs.declared.script.Step.{Step}
use Rattle.modem_sim.specs.declared.script.StepAct.TheVariants.{Announce, Flow, Hold, Disconnect, CloseDown}
use Rattle.modem_sim.specs.Acts.{Act, Wire, Did, End, wire, setting}
use Rattle.modem_sim.specs.Pieces.{Piece, Announced, octets_of, pieces_octets}
use Rattle.modem_sim.specs.Outboxes.{Outbox, empty_box, outbox, say, said_after, dropped, replies_by, hold_on, is_holding}
use Rattle.modem_sim.specs.Doing.{acts, done}
use Rattle.modem_sim.specs.Histories.{SimLawful, Allows, EachAllowed, IsStationOffer, LeavesInPieces, DoesInOrder}

-- the octets of two lists of pieces, one behind the other, are those of both
pub spelled-append : (a b : List Piece) → pieces_octets (a ++ b) ≡ pieces_octets a ++ pieces_octets b
spelled-append [] b = refl
spelled-append (p ∷ a) b = ap (λ x. octets_of p ++ x) (spelled-append a b) ∙ sym (append_assoc (octets_of p) (pieces_octets a) (pieces_octets b))

-- a beginning is one of what goes on
further : (xs : List ℕ) (a b : List Piece) → IsPrefixOf xs (pieces_octets a) → IsPrefixOf xs (pieces_octets (a ++ b))
further xs a b p = record {
  rest = p.rest ++ pieces_octets b;
  joins = sym (append_assoc xs p.rest (pieces_octets b)) ∙ ap (λ x. x ++ pieces_octets b) p.joins ∙ sym (spelled-append a b);
}

said_further : (xs : List ℕ) (holds : Bool) (b : Outbox) (pieces : List Piece) → IsPrefixOf xs (pieces_octets b.said) → IsPrefixOf xs (pieces_octets (say holds b pieces).said)
said_further xs true b pieces p = p
said_further xs false b pieces p = further xs b.said (b.held ++ pieces) p

none : (ys : List ℕ) → IsPrefixOf [] ys
none ys = record { rest = ys; joins = refl }

said_on : (xs : List ℕ) (e : End) (d : ℕ) (past : List Act) (a : station.Act) (b : Outbox) → IsPrefixOf xs (pieces_octets b.said) → IsPrefixOf xs (pieces_octets (said_after e d past a b).said)
said_on xs e d past (station.Got f) b p = said_further xs (is_holding (hold_on d (Wire (station.Got f) ∷ past))) b (replies_by e d past f) p
said_on xs e d past (station.Called call) b p = p
said_on xs e d past (station.Sent f) b p = p
said_on xs e d past station.Tick b p = p
said_on xs e d past station.Lost b p = p
said_on xs e d past station.Given b p = p

-- what was offered, after one more act
offered_box : (e : End) (d : ℕ) (past : List Act) (a : station.Act) (rest : List station.Act) (b : Outbox) (opens there : Bool) → IsPrefixOf (joined_octets (octets_offered d) rest) (pieces_octets b.said) → IsPrefixOf (joined_octets (octets_offered d) rest ++ octets_offered d a) (pieces_octets b.said) → IsPrefixOf (joined_octets (octets_offered d) (since_after opens there a rest)) (pieces_octets (if opens then empty_box else if there && not opens then said_after e d past a b else dropped b).said)
offered_box e d past a rest b true there old more = none []
offered_box e d past a rest b false true old more = said_on (joined_octets (octets_offered d) rest ++ octets_offered d a) e d past a b more
offered_box e d past a rest b false false old more = old

nothing_more : (xs ys : List ℕ) → IsPrefixOf xs ys → IsPrefixOf (xs ++ []) ys
nothing_more xs ys p = record { rest = p.rest; joins = ap (λ x. x ++ p.rest) (append-nil xs) ∙ p.joins }

starts : (xs ys : List ℕ) → starts_with nat_eq ys xs ≡ true → IsPrefixOf xs ys
starts xs ys is = record { rest = drop (length xs) ys; joins = sym (started ys xs is) }

offer_more : (e : End) (past : List Act) (x d : ℕ) (octets : List ℕ) (here : Bool) → (x == d) ≡ here → IsStationOffer e past x octets → IsPrefixOf (offered Responder d (wire past)) (pieces_octets (outbox e d past).said) → IsPrefixOf (offered Responder d (wire past) ++ (if here then octets else [])) (pieces_octets (outbox e d past).said)
offer_more e past x d octets true here is old =
    let same : x ≡ d = grind (arith, nat_tests) in
    let Starts : ℕ → Type 0 = λ n. IsPrefixOf (offered Responder n (wire past) ++ octets) (pieces_octets (outbox e n past).said) in
    subst Starts same (starts (offered Responder x (wire past) ++ octets) (pieces_octets (outbox e x past).said) is.next)
offer_more e past x d octets false here is old = nothing_more (offered Responder d (wire past)) (pieces_octets (outbox e d past).said) old

act_more : (e : End) (d : ℕ) (past : List Act) (a : station.Act) → Allows e past (Wire a) → IsPrefixOf (offered Responder d (wire past)) (pieces_octets (outbox e d past).said) → IsPrefixOf (offered Responder d (wire past) ++ octets_offered d a) (pieces_octets (outbox e d past).said)
act_more e d past (station.Called (station.Offer x octets)) may old = offer_more e past x d octets (x == d) refl may old
act_more e d past (station.Called (station.Open x)) may old = nothing_more _ _ old
act_more e d past (station.Called (station.Close x)) may old = nothing_more _ _ old
act_more e d past (station.Called (station.Probe octets)) may old = nothing_more _ _ old
act_more e d past (station.Called station.Stop) may old = nothing_more _ _ old
act_more e d past (station.Called (station.Flow x go)) may old = nothing_more _ _ old
act_more e d past (station.Got f) may old = nothing_more _ _ old
act_more e d past (station.Sent f) may old = nothing_more _ _ old
act_more e d past station.Given may old = nothing_more _ _ old
act_more e d past station.Tick may old = nothing_more _ _ old
act_more e d past station.Lost may old = nothing_more _ _ old

announced_further : (xs : List ℕ) (b : Outbox) (here : Bool) (line : List ℕ) → IsPrefixOf xs (pieces_octets b.said) → IsPrefixOf xs (pieces_octets (if here then record { said = b.said ++ Announced line ∷ []; held = b.held } else b).said)
announced_further xs b true line p = further xs b.said (Announced line ∷ []) p
announced_further xs b false line p = p

-- what was offered on a connection is the beginning of what is said there
offers_said : (e : End) (past : List Act) → EachAllowed e past → (d : ℕ) → IsPrefixOf (offered Responder d (wire past)) (pieces_octets (outbox e d past).said)
offers_said e [] may d = none []
offers_said e (Did (Announce x line) ∷ past) may d = announced_further (offered Responder d (wire past)) (outbox e d past) (x.number == d) line (offers_said e past may.1 d)
offers_said e (Did (Flow x go) ∷ past) may d = offers_said e past may.1 d
offers_said e (Did (Hold x y) ∷ past) may d = offers_said e past may.1 d
offers_said e (Did (Disconnect x) ∷ past) may d = offers_said e past may.1 d
offers_said e (Did CloseDown ∷ past) may d = offers_said e past may.1 d
offers_said e (Wire a ∷ past) may d =
    let old = offers_said e past may.1 d in
    offered_box e d past a (since Responder d (wire past)) (outbox e d past) (opens_now Responder d (wire past) a) (belongs Responder d (wire past) a) old
    (act_more e d past a may.0 old)

-- so is what left
pub leaves_in_pieces : (e : End) (past : List Act) → SimLawful e past → LeavesInPieces e past
leaves_in_pieces e past lawful d =
    let first = gives_beginning (setting e) d (wire past) lawful.at_station in
    let second = offers_said e past lawful.acts d in
    record {
      rest = first.rest ++ second.rest;
      joins = sym (append_assoc (data_out Responder d (wire past)) first.rest second.rest) ∙ ap (λ x. x ++ second.rest) first.joins ∙ second.joins;
    }

one_more : {A : Type 0} (xs : List A) (n : ℕ) (next : A) (later : List A) → drop n xs ≡ next ∷ later → take (n + 1) xs ≡ take n xs ++ next ∷ []
one_more xs n next later is =
    let size : length (drop n xs) ≡ length xs - n = length-drop n xs in
    let some : length (drop n xs) ≡ 1 + length later = ap length is ∙ omega arith in
    let inside : n < length xs = omega arith in
    let cons = drop-cons xs n next inside in
    let here : get_or xs n next ≡ next = cc in
    rw add-one (take-suc xs n next inside ∙ ap (λ x. take n xs ++ x ∷ []) here)

-- the steps of a script are done in order
pub does_in_order : (e : End) (past : List Act) → EachAllowed e past → DoesInOrder e past
does_in_order e [] may = refl
does_in_order e (Wire a ∷ past) may = does_in_order e past may.1
does_in_order e (Did step ∷ past) may =
    let steps = filter (λ (s : Step). acts s.act) e.steps in
    let n = length (done past) in
    let due = may.0.due in
    let size : length (done past ++ step ∷ []) ≡ n + 1 = length-append (done past) (step ∷ []) ∙ omega arith in
    ap (λ x. x ++ step ∷ []) (does_in_order e past may.1)
    ∙ ap (λ x. map (λ (s : Step). s.act) (take n steps) ++ x ∷ []) (sym due.is_its)
    ∙ sym (map-append (λ (s : Step). s.act) (take n steps) (due.next ∷ []))
    ∙ ap (map (λ (s : Step). s.act)) (sym (one_more steps n due.next due.later due.is_first) ∙ ap (λ m. take m steps) (sym size))

-- a lawful simulated modem does its steps in order
pub keeps_order : (e : End) (past : List Act) → SimLawful e past → DoesInOrder e past
keeps_order e past lawful = does_in_order e past lawful.acts
