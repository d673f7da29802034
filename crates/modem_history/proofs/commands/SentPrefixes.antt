-- What leaves a connection is a prefix of what was accepted on it.
use Rattle.std.specs.Prelude.{◌≡◌, ℕ, ◌==◌, not, nat_eq, Bool, true, false, List, [], ◌∷◌, ◌++◌, refl, if◌then◌else◌, take, drop, length}
use Rattle.std.specs.List.{starts_with, concat}
use Rattle.std.proofs.Common.{ap, sym, ◌∙◌, subst, eqb-true, append_assoc, append-nil}
use Rattle.std.proofs.lemmas.List.{take-append-drop}
use Rattle.std.proofs.lemmas.Bool.{and_parts, and_from}
use Rattle.std.proofs.lemmas.Slice.Eq.{bytes_eq-Decides}
use Rattle.mux_frame.specs.Frames.{Frame}
use Rattle.mux_frame.specs.declared.frame.Kind.TheVariants.{Uih}
use Rattle.mux_station.specs.Acts as station
use Rattle.mux_station.specs.Written.{is_kind, is_on, is_data_frame}
use Rattle.mux_station.specs.Opening.{since, since_after, opens_now, belongs}
use Rattle.modem_desk.specs.declared.request.Request.{Request}
use Rattle.modem_history.specs.Acts.{Act, Took, Got, Sent, Told, Heard, Tick, Lost, Held, Freed, Given, wire}
use Rattle.modem_history.specs.Information.{carries, info_sent, accepted, is_accepted, texts, line_of, information_out}
use Rattle.modem_history.specs.Calls.{Setting}
use Rattle.modem_history.specs.Lawful.{Lawful, When, Once}
use Rattle.modem_history.specs.Wholes.{IsPrefixOf, LeavesOnce}

prefix_by : (text out : List ℕ) → starts_with nat_eq text out ≡ true → IsPrefixOf out text
prefix_by text out h =
    let e : out ≡ take (length out) text = (bytes_eq-Decides out (take (length out) text)).0 h in
    record { rest = drop (length out) text; joins = ap (λ (v : List ℕ). v ++ drop (length out) text) e ∙ take-append-drop (length out) text }

-- joined commands go out as the first of them, and then as the others
pub more_text : (before more : List Request) → concat (texts (before ++ more)) ≡ concat (texts before) ++ concat (texts more)
more_text [] more = refl
more_text (q ∷ qs) more =
    let text = line_of q ++ 13 ∷ [] in
    ap (λ (v : List ℕ). text ++ v) (more_text qs more) ∙ sym (append_assoc text (concat (texts qs)) (concat (texts more)))

prefix_more : (out : List ℕ) (before more : List Request) → IsPrefixOf out (concat (texts before)) → IsPrefixOf out (concat (texts (before ++ more)))
prefix_more out before more h =
    record {
      rest = h.rest ++ concat (texts more);
      joins = sym (append_assoc out h.rest (concat (texts more))) ∙ (ap (λ (v : List ℕ). v ++ concat (texts more)) h.joins ∙ sym (more_text before more));
    }

-- a request is taken, and accepted or not
taken : (b : Bool) (out : List ℕ) (qs : List Request) (q : Request) → IsPrefixOf out (concat (texts qs)) → IsPrefixOf out (concat (texts (if b then qs ++ q ∷ [] else qs)))
taken true out qs q h = prefix_more out qs (q ∷ []) h
taken false out qs q h = h

-- an act that opens d or not, and belongs to its time of being open or not, and after which so much has left
passed : (o b : Bool) (d : ℕ) (a : station.Act) (acts : List station.Act) (qs : List Request)
    → IsPrefixOf (info_sent d (a ∷ acts)) (concat (texts qs)) → IsPrefixOf (info_sent d acts) (concat (texts qs))
    → IsPrefixOf (info_sent d (since_after o b a acts)) (concat (texts (if o then [] else qs)))
passed true b d a acts qs more same = record { rest = []; joins = refl }
passed false true d a acts qs more same = more
passed false false d a acts qs more same = same

-- what is asked where a test passes holds where it does
pub when_true : {P : Type 0} (b : Bool) → b ≡ true → When b P → P
when_true true e h = h
when_true false e h = cc

-- the frame carries information on d, or it doesn't
sent : (s : Setting) (d : ℕ) (past : List Act) (f : Frame) → When (is_data_frame f) (Once s past f) → IsPrefixOf (information_out s.role d past) (concat (texts (accepted s.role d past)))
    → (b : Bool) → carries d f ≡ b → IsPrefixOf (information_out s.role d past ++ (if b then f.info else [])) (concat (texts (accepted s.role d past)))
sent s d past f once h false e = subst (λ (v : List ℕ). IsPrefixOf v (concat (texts (accepted s.role d past)))) (sym (append-nil (information_out s.role d past))) h
sent s d past f once h true e =
    let parts = and_parts (not (d == 0)) (is_on Uih d f) e in
    let more = and_parts (is_kind f.kind Uih) (f.dlci == d) parts.1 in
    let same : f.dlci ≡ d = eqb-true f.dlci d more.1 in
    let apart : not (f.dlci == 0) ≡ true = ap (λ (m : ℕ). not (m == 0)) same ∙ parts.0 in
    let goes = when_true (is_data_frame f) (and_from (is_kind f.kind Uih) (not (f.dlci == 0)) more.0 apart) once in
    subst (λ (m : ℕ). IsPrefixOf (information_out s.role m past ++ f.info) (concat (texts (accepted s.role m past)))) same
    (prefix_by (concat (texts (accepted s.role f.dlci past))) (information_out s.role f.dlci past ++ f.info) goes)

-- an act of the station that sends nothing on d
same_out : (s : Setting) (d : ℕ) (past : List Act) (a : station.Act) → info_sent d (a ∷ since s.role d (wire past)) ≡ information_out s.role d past
    → IsPrefixOf (information_out s.role d past) (concat (texts (accepted s.role d past)))
    → IsPrefixOf (info_sent d (since_after (opens_now s.role d (wire past) a) (belongs s.role d (wire past) a) a (since s.role d (wire past)))) (concat (texts (if opens_now s.role d (wire past) a then [] else accepted s.role d past)))
same_out s d past a e h =
    passed (opens_now s.role d (wire past) a) (belongs s.role d (wire past) a) d a (since s.role d (wire past)) (accepted s.role d past)
    (subst (λ (v : List ℕ). IsPrefixOf v (concat (texts (accepted s.role d past)))) (sym e) h) h

-- in a lawful history what left each connection is a prefix of the commands accepted on it
pub leaves_once : (s : Setting) (past : List Act) → Lawful s past → LeavesOnce s past
unfolding Lawful
leaves_once s [] l d = record { rest = []; joins = refl }
leaves_once s (Took q ∷ past) l d = taken (is_accepted s.role d past q) (information_out s.role d past) (accepted s.role d past) q (leaves_once s past l.1 d)
leaves_once s (Told o ∷ past) l d = leaves_once s past l.1 d
leaves_once s (Heard kind e line ∷ past) l d = leaves_once s past l.1 d
leaves_once s (Held e ∷ past) l d = leaves_once s past l.1 d
leaves_once s (Freed e ∷ past) l d = leaves_once s past l.1 d
leaves_once s (Got f ∷ past) l d = same_out s d past (station.Got f) refl (leaves_once s past l.1 d)
leaves_once s (Tick ∷ past) l d = same_out s d past station.Tick refl (leaves_once s past l.1 d)
leaves_once s (Lost ∷ past) l d = same_out s d past station.Lost refl (leaves_once s past l.1 d)
leaves_once s (Given ∷ past) l d = same_out s d past station.Given refl (leaves_once s past l.1 d)
leaves_once s (Sent f ∷ past) l d =
    passed (opens_now s.role d (wire past) (station.Sent f)) (belongs s.role d (wire past) (station.Sent f)) d (station.Sent f) (since s.role d (wire past)) (accepted s.role d past)
    (sent s d past f l.0.once (leaves_once s past l.1 d) (carries d f) refl) (leaves_once s past l.1 d)
