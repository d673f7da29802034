-- What an initiator gets on a connection is the beginning of what the responder sent on it.
use Rattle.std.specs.Prelude.{◌≡◌, ℕ, ◌==◌, ◌&&◌, ◌||◌, not, Bool, true, false, List, [], ◌∷◌, ◌++◌, filter, refl, if◌then◌else◌}
use Rattle.std.specs.List.{list_any}
use Rattle.std.proofs.Common.{sym, ap, ◌∙◌, subst, append_assoc, append-nil}
use Rattle.std.proofs.lemmas.Bool.{and_parts}
use Rattle.std.proofs.lemmas.List.Folds.{list_any-append}
use Rattle.mux_frame.specs.Frames.{Frame}
use Rattle.mux_frame.specs.declared.frame.Kind.{Kind}
use Rattle.mux_frame.specs.declared.frame.Kind.TheVariants.{Sabm, Ua, Dm, Disc, Uih}
use Rattle.mux_station.specs.declared.role.Role.TheVariants.{Initiator, Responder}
use Rattle.mux_station.specs.Acts.{Act, Called, Got, Sent, Tick, Lost, Given}
use Rattle.mux_station.specs.Offering.{data_out, joined_octets, octets_sent}
use Rattle.mux_station.specs.Opening.{ends, is_open, is_mode_frame, opens_now, since, is_asked}
use Rattle.mux_station.proofs.states.OpeningSteps.{is_open_after}
use Rattle.mux_station.specs.Sending.{StationLawful}
use Rattle.mux_station.specs.Written.{is_data_frame, is_kind, is_on}
use Rattle.modem_history.specs.Connections.{carries, info_of, info_sent, information_got, information_sent}
use Rattle.modem_history.specs.TwoEnds.{AsksOnce, ComesInOrder, frames_got, frames_sent}
use Rattle.modem_history.specs.Wholes.{IsPrefixOf}
use Rattle.modem_history.proofs.commands.FramesOnLine.{AsksOne, asked_first, asks_fewer, info_in, info_none}
use Rattle.modem_history.proofs.connections.InformationGrowth.{got_grows, got_same, is_got, opens_none, sent_grows, sent_same, sent_still}
use Rattle.modem_sim.proofs.connections.BoxesAfterFrame.{carries_data}
use Rattle.one_modem.proofs.two_ends.ResponderFrames.{ComesBehindUa, IsTimeless, answering, behind_ua, data_while_open, first_behind_ua, older_behind_ua, sabms, stands, uas}

-- ## Both ends

-- an act of the initiator, or of the responder
pub data Both : Type 0 where
  Near : Act → Both
  Far : Act → Both

-- the past of the initiator
abbrev pub near : List Both → List Act
near [] = []
near (Near a ∷ line) = a ∷ near line
near (Far a ∷ line) = near line

-- the past of the responder
abbrev pub far : List Both → List Act
far [] = []
far (Near a ∷ line) = far line
far (Far a ∷ line) = a ∷ far line

-- what came at each end are the first frames that the other sent; each connection is asked for once, and the responder
-- keeps its laws, without ticks
pub record Point (n1 : ℕ) (line : List Both) : Type 0 where
  pub there : ComesInOrder (near line) (far line)
  pub back : ComesInOrder (far line) (near line)
  pub once : AsksOnce (near line)
  pub timeless : IsTimeless (far line)
  pub lawful : StationLawful (answering n1) (far line)

-- so it is at each point of the line
abbrev pub Points : ℕ → List Both → Type 0
Points n1 [] = Point n1 []
Points n1 (x ∷ line) = Point n1 (x ∷ line) × Points n1 line

-- and so at this one
pub point : (n1 : ℕ) (line : List Both) → Points n1 line → Point n1 line
point n1 [] p = p
point n1 (x ∷ line) p = p.0

any_later : (t : Frame → Bool) (later older : List Frame) → list_any t older ≡ true → list_any t (later ++ older) ≡ true
any_later t later older is = list_any-append t later older ∙ ap (λ (b : Bool). list_any t later || b) is ∙ either (list_any t later)
  where
    either : (b : Bool) → (b || true) ≡ true
    either true = refl
    either false = refl

none_filtered : (t : Frame → Bool) (fs : List Frame) → filter t fs ≡ [] → list_any t fs ≡ false
none_filtered t [] is = refl
none_filtered t (f ∷ fs) is = by_test (t f) refl is (none_filtered t fs)
  where
    by_test : (b : Bool) → t f ≡ b → (if b then f ∷ filter t fs else filter t fs) ≡ [] → (filter t fs ≡ [] → list_any t fs ≡ false) → (t f || list_any t fs) ≡ false
    by_test true e h rest = cc
    by_test false e h rest = ap (λ (b : Bool). b || list_any t fs) e ∙ rest h

-- a UA on d that came is behind a SABM that was sent
asked_before : (n1 d : ℕ) (line : List Both) → Point n1 line → uas d (frames_got (near line)) ≡ true → sabms d (frames_sent (near line)) ≡ true
asked_before n1 d line p came = by_asked (sabms d (frames_got (far line))) refl
  where
    sent : uas d (frames_sent (far line)) ≡ true
    sent = ap (uas d) p.back.sent_are ∙ any_later (is_on Ua d) p.back.later (frames_got (near line)) came

    by_asked : (b : Bool) → sabms d (frames_got (far line)) ≡ b → sabms d (frames_sent (near line)) ≡ true
    by_asked true is = ap (sabms d) p.there.sent_are ∙ any_later (is_on Sabm d) p.there.later (frames_got (far line)) is
    by_asked false is =
        let none = (stands n1 d (far line) p.timeless p.lawful).sent_none is in
        absurd (let g : true ≡ false = sym sent ∙ none in cc)

-- ## The initiator

abbrev asked : ℕ → List Act → Bool
asked d past = is_asked Initiator d past

abbrev zero_open : ℕ → List Act → Bool
zero_open d past = is_open Initiator 0 past

word_ends : (a b c k e w : Bool) → c ≡ true → (a && not ((b || (c || k)) || e)) ≡ false
word_ends true true c k e w is = refl
word_ends true false true k e w is = refl
word_ends true false false k e w is = cc
word_ends false b c k e w is = refl

never_again : (a b w : Bool) → a ≡ false → b ≡ false → (a || (b && w)) ≡ false
never_again true b w g h = cc
never_again false true w g h = cc
never_again false false w g h = refl

-- once a UA on d has come, it isn't asked for any more
not_asked : (n1 d : ℕ) (line : List Both) → Points n1 line → uas d (frames_got (near line)) ≡ true → asked d (near line) ≡ false
not_asked n1 d [] p came = cc
not_asked n1 d (Far a ∷ line) p came = not_asked n1 d line p.1 came
not_asked n1 d (Near (Got f) ∷ line) p came = by_word (is_on Ua d f) refl (not_asked n1 d line p.1)
  where
    past : List Act
    past = near line

    kept : Bool
    kept = not (is_mode_frame d (Got f) || ends (zero_open d past) d (Got f))

    by_word : (b : Bool) → is_on Ua d f ≡ b → (uas d (frames_got past) ≡ true → asked d past ≡ false) → asked d (Got f ∷ past) ≡ false
    by_word true is before = word_ends (asked d past) (is_on Sabm d f) (is_on Ua d f) (is_on Dm d f || is_on Disc d f) (ends (zero_open d past) d (Got f)) kept is
    by_word false is before =
        let older : uas d (frames_got past) ≡ true = ap (λ (b : Bool). b || uas d (frames_got past)) (sym is) ∙ came in
        never_again false (asked d past) kept refl (before older)
not_asked n1 d (Near (Sent f) ∷ line) p came = by_sabm (is_on Sabm d f) refl (not_asked n1 d line p.1 came)
  where
    past : List Act
    past = near line

    by_sabm : (b : Bool) → is_on Sabm d f ≡ b → asked d past ≡ false → asked d (Sent f ∷ past) ≡ false
    by_sabm true is before =
        let first = asked_first d f (frames_sent past) (p.0.once d) is in
        let none = none_filtered (is_on Sabm d) (frames_sent past) first in
        let some = asked_before n1 d line (point n1 line p.1) came in
        absurd (let g : true ≡ false = sym some ∙ none in cc)
    by_sabm false is before = never_again (is_on Sabm d f) (asked d past) (not (is_mode_frame d (Sent f) || ends (zero_open d past) d (Sent f))) is before
not_asked n1 d (Near (Called c) ∷ line) p came = never_again false (asked d (near line)) _ refl (not_asked n1 d line p.1 came)
not_asked n1 d (Near Tick ∷ line) p came = never_again false (asked d (near line)) _ refl (not_asked n1 d line p.1 came)
not_asked n1 d (Near Lost ∷ line) p came = never_again false (asked d (near line)) _ refl (not_asked n1 d line p.1 came)
not_asked n1 d (Near Given ∷ line) p came = never_again false (asked d (near line)) _ refl (not_asked n1 d line p.1 came)

-- what came since d opened is the beginning of all that came, and all of it while d is open
record Comes (d : ℕ) (past : List Act) : Type 0 where
  first : IsPrefixOf (information_got Initiator d past) (info_in d (frames_got past))
  all : is_open Initiator d past ≡ true → information_got Initiator d past ≡ info_in d (frames_got past)

-- what is open was so before, where nothing opens it
pub was_open : (o i e : Bool) → o ≡ false → (o || (i && not e)) ≡ true → i ≡ true
was_open true i e g h = cc
was_open false true e g h = refl
was_open false false e g h = cc

-- the same as a beginning is a beginning of the same as the whole
pub same_prefix : (xs ys us vs : List ℕ) → xs ≡ us → ys ≡ vs → IsPrefixOf us vs → IsPrefixOf xs ys
same_prefix xs ys us vs e g h = record { rest = h.rest; joins = ap (λ z. z ++ h.rest) e ∙ (h.joins ∙ sym g) }

-- the whole is a beginning of the same octets
pub whole_prefix : (xs ys : List ℕ) → xs ≡ ys → IsPrefixOf xs ys
whole_prefix xs ys e = record { rest = []; joins = append-nil xs ∙ e }

-- a beginning is one of what goes on
pub prefix_more : (xs ys zs : List ℕ) → IsPrefixOf xs ys → IsPrefixOf xs (ys ++ zs)
prefix_more xs ys zs h = record { rest = h.rest ++ zs; joins = sym (append_assoc xs h.rest zs) ∙ ap (λ z. z ++ zs) h.joins }

idle : (d : ℕ) (past : List Act) (a : Act) → is_got a ≡ false → frames_got (a ∷ past) ≡ frames_got past → Comes d past → Comes d (a ∷ past)
idle d past a other same h = record {
  first = same_prefix _ _ (information_got Initiator d past) (info_in d (frames_got past)) (got_same Initiator d past a other) (ap (info_in d) same) h.first;
  all = λ e.
      got_same Initiator d past a other
      ∙ (h.all (was_open (opens_now Initiator d past a) (is_open Initiator d past) (ends (zero_open d past) d a) (opens_none Initiator (zero_open d past) (asked d past) d a other) (sym (is_open_after Initiator d past a) ∙ e))
      ∙ ap (info_in d) (sym same));
}

ua_clash : (k : Kind) → is_kind k Ua ≡ true → is_kind k Uih ≡ true → ⊥
ua_clash Sabm h g = cc
ua_clash Ua h g = cc
ua_clash Dm h g = cc
ua_clash Disc h g = cc
ua_clash Uih h g = cc

ua_carries_none : (d : ℕ) (f : Frame) (b : Bool) → carries d f ≡ b → is_on Ua d f ≡ true → b ≡ false
ua_carries_none d f false c e = refl
ua_carries_none d f true c e =
    let on = (and_parts (not (d == 0)) (is_on Uih d f) c).1 in
    absurd (ua_clash f.kind (and_parts (is_kind f.kind Ua) (f.dlci == d) e).0 (and_parts (is_kind f.kind Uih) (f.dlci == d) on).0)

-- the frames that came at the initiator have UA first
comes_behind : (n1 d : ℕ) (line : List Both) → Point n1 line → uas d (frames_got (near line)) ≡ false → info_in d (frames_got (near line)) ≡ []
comes_behind n1 d line p none =
    first_behind_ua d (frames_got (near line))
    (older_behind_ua d p.back.later (frames_got (near line)) (subst (λ fs. ComesBehindUa d fs) p.back.sent_are (behind_ua n1 d (far line) p.timeless p.lawful))) none

frame_comes : (n1 d : ℕ) (line : List Both) (f : Frame) → Points n1 line → Comes d (near line) → Comes d (Got f ∷ near line)
frame_comes n1 d line f p h = by_opens (is_on Ua d f && asked d past) refl
  where
    past : List Act
    past = near line

    old : List ℕ
    old = information_got Initiator d past

    after : Bool → List ℕ
    after o = if o then [] else (if carries d f && is_open Initiator d past then old ++ f.info else old)

    by_carry : (c i : Bool) → carries d f ≡ c → is_open Initiator d past ≡ i → IsPrefixOf (if c && i then old ++ f.info else old) (info_in d (frames_got past) ++ (if c then f.info else []))
    by_carry true true e g = whole_prefix (old ++ f.info) (info_in d (frames_got past) ++ f.info) (ap (λ z. z ++ f.info) (h.all g))
    by_carry true false e g = prefix_more old (info_in d (frames_got past)) f.info h.first
    by_carry false i e g = prefix_more old (info_in d (frames_got past)) [] h.first

    grows : (c i : Bool) → i ≡ true → old ≡ info_in d (frames_got past) → (if c && i then old ++ f.info else old) ≡ info_in d (frames_got past) ++ (if c then f.info else [])
    grows true true e g = ap (λ z. z ++ f.info) g
    grows true false e g = cc
    grows false i e g = g ∙ sym (append-nil (info_in d (frames_got past)))

    by_opens : (o : Bool) → (is_on Ua d f && asked d past) ≡ o → Comes d (Got f ∷ past)
    by_opens true e =
        let parts = and_parts (is_on Ua d f) (asked d past) e in
        let none = by_ua (uas d (frames_got past)) refl parts.1 in
        let nothing : information_got Initiator d (Got f ∷ past) ≡ [] = got_grows Initiator d past f ∙ ap after e in
        let empty : info_in d (f ∷ frames_got past) ≡ [] = ap (λ z. z ++ info_of d f) (comes_behind n1 d line (point n1 line p) none) ∙ info_none d f (ua_carries_none d f (carries d f) refl parts.0) in
        record { first = whole_prefix _ _ (nothing ∙ sym empty); all = λ g. nothing ∙ sym empty }
      where
        by_ua : (b : Bool) → uas d (frames_got past) ≡ b → asked d past ≡ true → uas d (frames_got past) ≡ false
        by_ua true is on = absurd (let g : true ≡ false = sym on ∙ not_asked n1 d line p is in cc)
        by_ua false is on = is
    by_opens false e =
        let now : information_got Initiator d (Got f ∷ past) ≡ after false = got_grows Initiator d past f ∙ ap after e in
        record {
          first = same_prefix _ _ (after false) (info_in d (f ∷ frames_got past)) now refl (by_carry (carries d f) (is_open Initiator d past) refl refl);
          all = λ g.
              let there = was_open (is_on Ua d f && asked d past) (is_open Initiator d past) (ends (zero_open d past) d (Got f)) e (sym (is_open_after Initiator d past (Got f)) ∙ g) in
              now ∙ grows (carries d f) (is_open Initiator d past) there (h.all there);
        }

comes_first : (n1 d : ℕ) (line : List Both) → Points n1 line → Comes d (near line)
comes_first n1 d [] p = record { first = record { rest = []; joins = refl }; all = λ e. cc }
comes_first n1 d (Far a ∷ line) p = comes_first n1 d line p.1
comes_first n1 d (Near (Got f) ∷ line) p = frame_comes n1 d line f p.1 (comes_first n1 d line p.1)
comes_first n1 d (Near (Sent f) ∷ line) p = idle d (near line) (Sent f) refl refl (comes_first n1 d line p.1)
comes_first n1 d (Near (Called c) ∷ line) p = idle d (near line) (Called c) refl refl (comes_first n1 d line p.1)
comes_first n1 d (Near Tick ∷ line) p = idle d (near line) Tick refl refl (comes_first n1 d line p.1)
comes_first n1 d (Near Lost ∷ line) p = idle d (near line) Lost refl refl (comes_first n1 d line p.1)
comes_first n1 d (Near Given ∷ line) p = idle d (near line) Given refl refl (comes_first n1 d line p.1)

-- ## The responder

-- all information that it sent on d is what it sent since d opened
sent_all : (n1 d : ℕ) (past : List Act) → IsTimeless past → StationLawful (answering n1) past → AsksOne d (frames_got past) → information_sent Responder d past ≡ info_in d (frames_sent past)
unfolding StationLawful
sent_all n1 d [] timeless lawful one = refl
sent_all n1 d (Sent f ∷ past) timeless lawful one =
    sent_grows Responder d past f ∙ by_carry (carries d f) refl lawful (sent_all n1 d past timeless lawful.1 one)
  where
    by_carry : (c : Bool) → carries d f ≡ c → StationLawful (answering n1) (Sent f ∷ past) → information_sent Responder d past ≡ info_in d (frames_sent past)
        → (if c && is_open Responder d past then information_sent Responder d past ++ f.info else information_sent Responder d past) ≡ info_in d (frames_sent past) ++ (if c then f.info else [])
    by_carry true e all before =
        ap (λ (b : Bool). if b then information_sent Responder d past ++ f.info else information_sent Responder d past) (data_while_open n1 d past f all e).0
        ∙ ap (λ z. z ++ f.info) before
    by_carry false e all before = before ∙ sym (append-nil (info_in d (frames_sent past)))
sent_all n1 d (Got f ∷ past) timeless lawful one =
    sent_same Responder d past (Got f) refl ∙ by_sabm (is_on Sabm d f) ((d == 0) || is_open Responder 0 past) refl (sent_all n1 d past timeless lawful (asks_fewer d f (frames_got past) one))
  where
    by_sabm : (b z : Bool) → is_on Sabm d f ≡ b → information_sent Responder d past ≡ info_in d (frames_sent past) → (if b && z then [] else information_sent Responder d past) ≡ info_in d (frames_sent past)
    by_sabm true true e before =
        let none = none_filtered (is_on Sabm d) (frames_got past) (asked_first d f (frames_got past) one e) in
        sym (first_behind_ua d (frames_sent past) (behind_ua n1 d past timeless lawful) ((stands n1 d past timeless lawful).sent_none none))
    by_sabm true false e before = before
    by_sabm false z e before = before
sent_all n1 d (Called c ∷ past) timeless lawful one = sent_still Responder d past (Called c) refl refl ∙ sent_all n1 d past timeless lawful one
sent_all n1 d (Given ∷ past) timeless lawful one = sent_still Responder d past Given refl refl ∙ sent_all n1 d past timeless lawful one
sent_all n1 d (Tick ∷ past) timeless lawful one = absurd timeless
sent_all n1 d (Lost ∷ past) timeless lawful one = absurd timeless

-- the information of older frames is the beginning of that of all
pub info_later : (d : ℕ) (later older : List Frame) → IsPrefixOf (info_in d older) (info_in d (later ++ older))
info_later d [] older = whole_prefix (info_in d older) (info_in d older) refl
info_later d (f ∷ later) older = prefix_more (info_in d older) (info_in d (later ++ older)) (info_of d f) (info_later d later older)

-- a beginning of a beginning is one of the whole
pub prefix_then : (xs ys zs : List ℕ) → IsPrefixOf xs ys → IsPrefixOf ys zs → IsPrefixOf xs zs
prefix_then xs ys zs h g = record { rest = h.rest ++ g.rest; joins = sym (append_assoc xs h.rest g.rest) ∙ (ap (λ z. z ++ g.rest) h.joins ∙ g.joins) }

given_acts : (d : ℕ) (acts : List Act) → joined_octets (octets_sent d) acts ≡ info_sent d acts
given_acts d [] = refl
given_acts d (Sent f ∷ acts) =
    ap (λ z. z ++ (if is_data_frame f && (f.dlci == d) then f.info else [])) (given_acts d acts)
    ∙ ap (λ (b : Bool). info_sent d acts ++ (if b then f.info else [])) (sym (carries_data d f))
given_acts d (Got f ∷ acts) = append-nil (joined_octets (octets_sent d) acts) ∙ given_acts d acts
given_acts d (Called c ∷ acts) = append-nil (joined_octets (octets_sent d) acts) ∙ given_acts d acts
given_acts d (Tick ∷ acts) = append-nil (joined_octets (octets_sent d) acts) ∙ given_acts d acts
given_acts d (Lost ∷ acts) = append-nil (joined_octets (octets_sent d) acts) ∙ given_acts d acts
given_acts d (Given ∷ acts) = append-nil (joined_octets (octets_sent d) acts) ∙ given_acts d acts

-- what was given on is the information sent
pub given_is : (d : ℕ) (past : List Act) → data_out Responder d past ≡ information_sent Responder d past
given_is d past = given_acts d (since Responder d past)

-- what came at the initiator is the beginning of what the responder gave on
pub comes_back : (n1 d : ℕ) (line : List Both) → Points n1 line → AsksOne d (frames_got (far line)) → IsPrefixOf (information_got Initiator d (near line)) (data_out Responder d (far line))
comes_back n1 d line p one =
    let here = point n1 line p in
    let later = info_later d here.back.later (frames_got (near line)) in
    let all : info_in d (here.back.later ++ frames_got (near line)) ≡ data_out Responder d (far line) =
    ap (info_in d) (sym here.back.sent_are) ∙ (sym (sent_all n1 d (far line) here.timeless here.lawful one) ∙ sym (given_is d (far line))) in
    prefix_then (information_got Initiator d (near line)) (info_in d (frames_got (near line))) (data_out Responder d (far line)) (comes_first n1 d line p).first
    (same_prefix (info_in d (frames_got (near line))) (data_out Responder d (far line)) (info_in d (frames_got (near line))) (info_in d (here.back.later ++ frames_got (near line))) refl (sym all) later)
