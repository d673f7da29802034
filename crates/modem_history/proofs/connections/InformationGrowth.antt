-- How information of a connection grows, act by act.
use Rattle.std.specs.Prelude.{◌≡◌, ℕ, ◌==◌, ◌&&◌, ◌||◌, not, Bool, true, false, List, [], ◌∷◌, ◌++◌, refl, if◌then◌else◌}
use Rattle.std.proofs.Common.{ap, ◌∙◌, append-nil}
use Rattle.mux_frame.specs.Frames.{Frame}
use Rattle.mux_station.specs.declared.role.Role.{Role}
use Rattle.mux_station.specs.declared.role.Role.TheVariants.{Initiator, Responder}
use Rattle.mux_station.specs.Acts.{Act, Called, Got, Sent, Tick, Lost, Given}
use Rattle.mux_station.specs.Opening.{since, since_after, opens, ends, opens_now, belongs, is_open}
use Rattle.modem_history.specs.Connections.{carries, info_got, info_sent, information_got, information_sent}
use Rattle.modem_history.proofs.outcomes.OutcomeCounts.{data_on, is_data}
use Rattle.modem_history.proofs.commands.BegunCommands.{carried, data_ends_none}

-- ## What opens and ends

-- a frame comes
abbrev pub is_got : Act → Bool
is_got (Got f) = true
is_got _ = false

-- a frame is sent
abbrev pub is_sent : Act → Bool
is_sent (Sent f) = true
is_sent _ = false

-- only what comes opens
pub opens_none : (r : Role) (z k : Bool) (d : ℕ) (a : Act) → is_got a ≡ false → opens r z k d a ≡ false
opens_none r z k d (Got f) h = cc
opens_none Initiator z k d (Sent f) h = refl
opens_none Initiator z k d (Called c) h = refl
opens_none Initiator z k d Tick h = refl
opens_none Initiator z k d Lost h = refl
opens_none Initiator z k d Given h = refl
opens_none Responder z k d (Sent f) h = refl
opens_none Responder z k d (Called c) h = refl
opens_none Responder z k d Tick h = refl
opens_none Responder z k d Lost h = refl
opens_none Responder z k d Given h = refl

-- information that comes ends nothing
none_come : (z y b c : Bool) → b ≡ false → ((z && (b && c)) || (y && (z && (b && c)))) ≡ false
none_come true true false c e = refl
none_come true false false c e = refl
none_come false true false c e = refl
none_come false false false c e = refl
none_come z y true c e = cc

-- data that comes on another connection than 0 ends none
pub data_come_none : (z : Bool) (d e : ℕ) (f : Frame) → (e == 0) ≡ false → ends z d (Got (data_on e f)) ≡ false
data_come_none z d e f h = none_come z (not (d == 0)) (e == 0) _ h

belongs_open : (b c : Bool) → c ≡ false → (b && not c) ≡ b
belongs_open true false e = refl
belongs_open false false e = refl
belongs_open b true e = cc

-- information belongs to the opening in which it comes or goes
pub got_belongs : (r : Role) (d : ℕ) (past : List Act) (f : Frame) → carries d f ≡ true → belongs r d past (Got f) ≡ is_open r d past
got_belongs r d past f e =
    let c = carried d f e in
    let z = is_open r 0 past in
    let as_data : f ≡ data_on d f = is_data f c.is_data ∙ ap (λ (m : ℕ). data_on m f) c.same in
    belongs_open (is_open r d past) (ends z d (Got f)) (ap (λ (g : Frame). ends z d (Got g)) as_data ∙ data_come_none z d d f c.apart)

-- so does information that is sent
pub sent_belongs : (r : Role) (d : ℕ) (past : List Act) (f : Frame) → carries d f ≡ true → belongs r d past (Sent f) ≡ is_open r d past
sent_belongs r d past f e =
    let c = carried d f e in
    let z = is_open r 0 past in
    let as_data : f ≡ data_on d f = is_data f c.is_data ∙ ap (λ (m : ℕ). data_on m f) c.same in
    belongs_open (is_open r d past) (ends z d (Sent f)) (ap (λ (g : Frame). ends z d (Sent g)) as_data ∙ data_ends_none z d d f c.apart)

-- ## Information

-- by whether the act opens, belongs to the opening, carries information, and d is open
got_by : (o b c i : Bool) (d : ℕ) (f : Frame) (rest : List Act) → carries d f ≡ c → (c ≡ true → b ≡ i)
    → info_got d (since_after o b (Got f) rest) ≡ (if o then [] else (if c && i then info_got d rest ++ f.info else info_got d rest))
got_by true b c i d f rest e h = refl
got_by false true true true d f rest e h = ap (λ (x : Bool). info_got d rest ++ (if x then f.info else [])) e
got_by false false true false d f rest e h = refl
got_by false true true false d f rest e h = absurd (let g : true ≡ false = h refl in cc)
got_by false false true true d f rest e h = absurd (let g : false ≡ true = h refl in cc)
got_by false true false i d f rest e h = ap (λ (x : Bool). info_got d rest ++ (if x then f.info else [])) e ∙ append-nil (info_got d rest)
got_by false false false i d f rest e h = refl

-- by a frame that comes, what came on d begins anew where it opens d, and grows where d is open and it carries some
pub got_grows : (r : Role) (d : ℕ) (past : List Act) (f : Frame)
    → information_got r d (Got f ∷ past) ≡ (if opens_now r d past (Got f) then [] else (if carries d f && is_open r d past then information_got r d past ++ f.info else information_got r d past))
got_grows r d past f = got_by (opens_now r d past (Got f)) (belongs r d past (Got f)) (carries d f) (is_open r d past) d f (since r d past) refl (got_belongs r d past f)

sent_by : (o b c i : Bool) (d : ℕ) (f : Frame) (rest : List Act) → o ≡ false → carries d f ≡ c → (c ≡ true → b ≡ i)
    → info_sent d (since_after o b (Sent f) rest) ≡ (if c && i then info_sent d rest ++ f.info else info_sent d rest)
sent_by true b c i d f rest n e h = cc
sent_by false true true true d f rest n e h = ap (λ (x : Bool). info_sent d rest ++ (if x then f.info else [])) e
sent_by false false true false d f rest n e h = refl
sent_by false true true false d f rest n e h = absurd (let g : true ≡ false = h refl in cc)
sent_by false false true true d f rest n e h = absurd (let g : false ≡ true = h refl in cc)
sent_by false true false i d f rest n e h = ap (λ (x : Bool). info_sent d rest ++ (if x then f.info else [])) e ∙ append-nil (info_sent d rest)
sent_by false false false i d f rest n e h = refl

-- by a frame sent, what was sent on d grows where d is open and it carries some
pub sent_grows : (r : Role) (d : ℕ) (past : List Act) (f : Frame)
    → information_sent r d (Sent f ∷ past) ≡ (if carries d f && is_open r d past then information_sent r d past ++ f.info else information_sent r d past)
sent_grows r d past f =
    sent_by (opens_now r d past (Sent f)) (belongs r d past (Sent f)) (carries d f) (is_open r d past) d f (since r d past) (opens_none r _ _ d (Sent f) refl) refl (sent_belongs r d past f)

-- an act by which nothing comes, and nothing opens
got_idle : (o b : Bool) (d : ℕ) (a : Act) (rest : List Act) → o ≡ false → info_got d (a ∷ rest) ≡ info_got d rest → info_got d (since_after o b a rest) ≡ info_got d rest
got_idle true b d a rest n e = cc
got_idle false true d a rest n e = e
got_idle false false d a rest n e = refl

none_got : (d : ℕ) (a : Act) (rest : List Act) → is_got a ≡ false → info_got d (a ∷ rest) ≡ info_got d rest
none_got d (Got f) rest h = cc
none_got d (Sent f) rest h = refl
none_got d (Called c) rest h = refl
none_got d Tick rest h = refl
none_got d Lost rest h = refl
none_got d Given rest h = refl

-- what came on d stays where no frame comes
pub got_same : (r : Role) (d : ℕ) (past : List Act) (a : Act) → is_got a ≡ false → information_got r d (a ∷ past) ≡ information_got r d past
got_same r d past a h =
    got_idle (opens_now r d past a) (belongs r d past a) d a (since r d past) (opens_none r _ _ d a h) (none_got d a (since r d past) h)

-- an act by which nothing goes; one that comes may open
sent_idle : (o b : Bool) (d : ℕ) (a : Act) (rest : List Act) → info_sent d (a ∷ rest) ≡ info_sent d rest → info_sent d (since_after o b a rest) ≡ (if o then [] else info_sent d rest)
sent_idle true b d a rest e = refl
sent_idle false true d a rest e = e
sent_idle false false d a rest e = refl

none_gone : (d : ℕ) (a : Act) (rest : List Act) → is_sent a ≡ false → info_sent d (a ∷ rest) ≡ info_sent d rest
none_gone d (Sent f) rest h = cc
none_gone d (Got f) rest h = refl
none_gone d (Called c) rest h = refl
none_gone d Tick rest h = refl
none_gone d Lost rest h = refl
none_gone d Given rest h = refl

-- what was sent on d stays where no frame is sent, unless d opens
pub sent_same : (r : Role) (d : ℕ) (past : List Act) (a : Act) → is_sent a ≡ false → information_sent r d (a ∷ past) ≡ (if opens_now r d past a then [] else information_sent r d past)
sent_same r d past a h = sent_idle (opens_now r d past a) (belongs r d past a) d a (since r d past) (none_gone d a (since r d past) h)

-- where no frame comes d doesn't open, so of a choice by that the second is taken
pub not_opened : {X : Type 0} (r : Role) (d : ℕ) (past : List Act) (a : Act) (x y : X) → is_got a ≡ false → (if opens_now r d past a then x else y) ≡ y
not_opened r d past a x y h = ap (λ (b : Bool). if b then x else y) (opens_none r _ _ d a h)

-- where nothing goes and nothing opens, what was sent stays
pub sent_still : (r : Role) (d : ℕ) (past : List Act) (a : Act) → is_got a ≡ false → is_sent a ≡ false → information_sent r d (a ∷ past) ≡ information_sent r d past
sent_still r d past a g h = sent_same r d past a h ∙ not_opened r d past a [] (information_sent r d past) g
