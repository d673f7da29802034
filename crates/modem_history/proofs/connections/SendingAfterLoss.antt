-- Once the line is lost nothing is sent.
use Rattle.std.specs.Prelude.{◌≡◌, not, Bool, true, false, List, [], ◌∷◌, ◌++◌, refl, if◌then◌else◌, drop}
use Rattle.std.specs.List.{list_all}
use Rattle.std.proofs.Common.{ap, sym, ◌∙◌}
use Rattle.std.proofs.lemmas.Bool.{and_parts}
use Rattle.mux_frame.specs.Frames.{Frame}
use Rattle.mux_station.specs.Written.{is_data_frame}
use Rattle.modem_history.specs.Acts.{Act, Took, Got, Sent, Told, Heard, Tick, Lost, Held, Freed, Given}
use Rattle.modem_history.specs.Calls.{Setting, HistoryView, seen_behind, frames, frames_by, calls_seeing, calls_behind, is_lost}
use Rattle.modem_history.specs.Lawful.{Lawful, Gated, IsNext, When, unsent, owed}
use Rattle.modem_history.specs.Wholes.{is_said, NoneAfterLoss}
use Rattle.modem_history.proofs.calls.CalledActs.{is_delivery, Deliveries, Saids, calls_said, calls_deliveries, saids_both, deliveries_both, deliveries_said}

saids_drop : (xs : List Act) → Saids xs → Saids (drop 1 xs)
saids_drop [] h = refl
saids_drop (a ∷ xs) h = (and_parts (is_said a) (list_all is_said xs) h).1

deliveries_drop : (xs : List Act) → Deliveries xs → Deliveries (drop 1 xs)
deliveries_drop [] h = refl
deliveries_drop (a ∷ xs) h = (and_parts (is_delivery a) (list_all is_delivery xs) h).1

saids_one : (b : Bool) (xs : List Act) → Saids xs → Saids (if b then xs else drop 1 xs)
saids_one true xs h = h
saids_one false xs h = saids_drop xs h

deliveries_one : (b : Bool) (xs : List Act) → Deliveries xs → Deliveries (if b then xs else drop 1 xs)
deliveries_one true xs h = h
deliveries_one false xs h = deliveries_drop xs h

unsent_deliveries : (xs : List Act) → Saids xs → Deliveries (unsent xs)
unsent_deliveries [] h = refl
unsent_deliveries (Sent f ∷ xs) h = unsent_deliveries xs (and_parts (not (is_data_frame f)) (list_all is_said xs) h).1
unsent_deliveries (Told o ∷ xs) h = unsent_deliveries xs h
unsent_deliveries (Heard k d line ∷ xs) h = unsent_deliveries xs h
unsent_deliveries (Took r ∷ xs) h = absurd (let e : false ≡ true = h in cc)
unsent_deliveries (Got f ∷ xs) h = absurd (let e : false ≡ true = h in cc)
unsent_deliveries (Tick ∷ xs) h = absurd (let e : false ≡ true = h in cc)
unsent_deliveries (Lost ∷ xs) h = absurd (let e : false ≡ true = h in cc)
unsent_deliveries (Held d ∷ xs) h = absurd (let e : false ≡ true = h in cc)
unsent_deliveries (Freed d ∷ xs) h = absurd (let e : false ≡ true = h in cc)
unsent_deliveries (Given ∷ xs) h = absurd (let e : false ≡ true = h in cc)

unsent_saids : (xs : List Act) → Saids xs → Saids (unsent xs)
unsent_saids xs h = deliveries_said (unsent xs) (unsent_deliveries xs h)

saids_more : (s : Setting) (past owing : List Act) (a : Act) → Saids owing → Saids (owing ++ calls_behind s past owing a)
saids_more s past owing a h = saids_both owing (calls_behind s past owing a) h (calls_said s (seen_behind s past owing) a)

-- what is owed is what a call may be called for
owed_saids : (s : Setting) (past : List Act) → Saids (owed s past)
owed_saids s [] = refl
owed_saids s (Sent f ∷ past) = saids_one (is_data_frame f) (owed s past) (owed_saids s past)
owed_saids s (Told o ∷ past) = saids_drop (owed s past) (owed_saids s past)
owed_saids s (Heard k d line ∷ past) = saids_drop (owed s past) (owed_saids s past)
owed_saids s (Given ∷ past) = owed_saids s past
owed_saids s (Lost ∷ past) =
    saids_both (unsent (owed s past)) (calls_behind s past (owed s past) Lost)
    (unsent_saids (owed s past) (owed_saids s past)) (calls_said s (seen_behind s past (owed s past)) Lost)
owed_saids s (Took r ∷ past) = saids_more s past (owed s past) (Took r) (owed_saids s past)
owed_saids s (Got f ∷ past) = saids_more s past (owed s past) (Got f) (owed_saids s past)
owed_saids s (Tick ∷ past) = saids_more s past (owed s past) Tick (owed_saids s past)
owed_saids s (Held d ∷ past) = saids_more s past (owed s past) (Held d) (owed_saids s past)
owed_saids s (Freed d ∷ past) = saids_more s past (owed s past) (Freed d) (owed_saids s past)

no_frames : (b : Bool) (fs : List Frame) → b ≡ true → (if b then [] else fs) ≡ []
no_frames true fs h = refl
no_frames false fs h = absurd (let e : false ≡ true = h in cc)

deliveries_more : (s : Setting) (past owing : List Act) (a : Act) → is_lost past ≡ true → Deliveries owing → Deliveries (owing ++ calls_behind s past owing a)
deliveries_more s past owing a lost h =
    let v = seen_behind s past owing in
    deliveries_both owing (calls_seeing s v a) h (calls_deliveries s v a (no_frames v.lost (frames_by s v a) lost))

loss_sends_none : (s : Setting) (v : HistoryView) → frames s v Lost ≡ []
loss_sends_none s v = either v.lost
  where
    either : (b : Bool) → (if b then [] else frames_by s v Lost) ≡ []
    either true = refl
    either false = refl

-- after a loss no frame is owed
owed_deliveries : (s : Setting) (past : List Act) → is_lost past ≡ true → Deliveries (owed s past)
owed_deliveries s [] h = absurd (let e : false ≡ true = h in cc)
owed_deliveries s (Lost ∷ past) h =
    let v = seen_behind s past (owed s past) in
    deliveries_both (unsent (owed s past)) (calls_seeing s v Lost) (unsent_deliveries (owed s past) (owed_saids s past)) (calls_deliveries s v Lost (loss_sends_none s v))
owed_deliveries s (Sent f ∷ past) h = deliveries_one (is_data_frame f) (owed s past) (owed_deliveries s past h)
owed_deliveries s (Told o ∷ past) h = deliveries_drop (owed s past) (owed_deliveries s past h)
owed_deliveries s (Heard k d line ∷ past) h = deliveries_drop (owed s past) (owed_deliveries s past h)
owed_deliveries s (Given ∷ past) h = owed_deliveries s past h
owed_deliveries s (Took r ∷ past) h = deliveries_more s past (owed s past) (Took r) h (owed_deliveries s past h)
owed_deliveries s (Got f ∷ past) h = deliveries_more s past (owed s past) (Got f) h (owed_deliveries s past h)
owed_deliveries s (Tick ∷ past) h = deliveries_more s past (owed s past) Tick h (owed_deliveries s past h)
owed_deliveries s (Held d ∷ past) h = deliveries_more s past (owed s past) (Held d) h (owed_deliveries s past h)
owed_deliveries s (Freed d ∷ past) h = deliveries_more s past (owed s past) (Freed d) h (owed_deliveries s past h)

none_sent : (s : Setting) (past : List Act) (f : Frame) (b : Bool) → is_lost past ≡ true → When b (Gated s past (owed s past) f) → When (not b) (IsNext (owed s past) (Sent f)) → ⊥
none_sent s past f true h g n = let live : is_lost past ≡ false = g.live in cc
none_sent s past f false h g n =
    let deliveries : Deliveries (Sent f ∷ n.later) = sym (ap (λ (v : List Act). list_all is_delivery v) n.is_next) ∙ owed_deliveries s past h in
    let off : false ≡ true = deliveries in
    cc

-- so no lawful history goes on with a frame sent once the line is lost
pub none_after_loss : (s : Setting) (past : List Act) → NoneAfterLoss s past
unfolding Lawful
none_after_loss s past f h l = none_sent s past f (is_data_frame f) h l.0.gated l.0.controlled
