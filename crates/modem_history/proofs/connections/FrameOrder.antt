-- In a lawful history what is given on is the beginning of what is sent.
use Rattle.std.proofs.Common.{ap, sym, ◌∙◌}
use Rattle.std.proofs.lemmas.List.{append-nil, append_assoc, take-append-drop}
use Rattle.std.specs.Prelude.{◌≡◌, Bool, true, false, List, [], ◌∷◌, ◌++◌, take, drop, refl, if◌then◌else◌}
use Rattle.mux_frame.specs.Frames.{Frame}
use Rattle.mux_station.specs.Written.{is_data_frame}
use Rattle.mux_station.specs.Sending.{queue}
use Rattle.modem_history.specs.Acts.{Act, Took, Got, Sent, Told, Heard, Tick, Lost, Held, Freed, Given, wire}
use Rattle.modem_history.specs.Calls.{Setting, is_lost}
use Rattle.modem_history.specs.Lawful.{Lawful, When}
use Rattle.modem_history.specs.Sessions.{sents, given_on}
use Rattle.modem_history.specs.SessionLaws.{GivesInOrder}
use Rattle.modem_history.proofs.connections.SendingAfterLoss.{none_after_loss}

-- the same, and after a loss nothing waits in the control queue
record InOrder (past : List Act) : Type 0 where
  later : List Frame
  sent_are : sents past ≡ given_on past ++ later
  waits : is_lost past ≡ false → later ≡ queue (wire past)
  gone : is_lost past ≡ true → queue (wire past) ≡ []

lawful_now : {b : Bool} {P : Type 0} → b ≡ true → When b P → P
lawful_now {b = true} h p = p
lawful_now {b = false} h p = cc

picks : {A : Type 0} (b : Bool) (x y : A) → b ≡ true → (if b then x else y) ≡ x
picks true x y h = refl
picks false x y h = cc

skips : {A : Type 0} (b : Bool) (x y : A) → b ≡ false → (if b then x else y) ≡ y
skips true x y h = cc
skips false x y h = refl

clash : {P : Type 0} (b : Bool) → b ≡ false → b ≡ true → P
clash true h k = let e : true ≡ false = h in cc
clash false h k = let e : false ≡ true = k in cc

-- data is sent and given on; a control frame is sent and waits
sent_on : (past : List Act) (f : Frame) (data_frame : Bool) → is_data_frame f ≡ data_frame → is_lost past ≡ false → (data_frame ≡ true → queue (wire past) ≡ []) → InOrder past → InOrder (Sent f ∷ past)
sent_on past f true e live alone k =
    let none = alone refl in
    let no_later : k.later ≡ [] = k.waits live ∙ none in
    let empty : queue (wire past) ++ (if is_data_frame f then [] else f ∷ []) ≡ [] = ap (λ (ys : List Frame). ys ++ (if is_data_frame f then [] else f ∷ [])) none ∙ picks (is_data_frame f) [] (f ∷ []) e in
    let before : sents past ≡ given_on past = k.sent_are ∙ (ap (λ (ys : List Frame). given_on past ++ ys) no_later ∙ append-nil (given_on past)) in
    record {
      later = [];
      sent_are = ap (λ (xs : List Frame). xs ++ f ∷ []) before ∙ sym (append-nil _ ∙ picks (is_data_frame f) (given_on past ++ f ∷ []) (given_on past) e);
      waits = λ l. sym empty;
      gone = λ l. empty;
    }
sent_on past f false e live alone k =
    record {
      later = k.later ++ f ∷ [];
      sent_are = ap (λ (xs : List Frame). xs ++ f ∷ []) k.sent_are ∙ (append_assoc (given_on past) k.later (f ∷ []) ∙ sym (ap (λ (xs : List Frame). xs ++ (k.later ++ f ∷ [])) (skips (is_data_frame f) (given_on past ++ f ∷ []) (given_on past) e)));
      waits = λ l. ap (λ (ys : List Frame). ys ++ f ∷ []) (k.waits live) ∙ sym (ap (λ (zs : List Frame). queue (wire past) ++ zs) (skips (is_data_frame f) [] (f ∷ []) e));
      gone = λ l. clash (is_lost past) live l;
    }

-- a frame that waits is given on
given_next : (past : List Act) (lost : Bool) → is_lost past ≡ lost → InOrder past → InOrder (Given ∷ past)
given_next past false e k =
    record {
      later = drop 1 (queue (wire past));
      sent_are = k.sent_are ∙ (ap (λ (ys : List Frame). given_on past ++ ys) (k.waits e ∙ sym (take-append-drop 1 (queue (wire past)))) ∙ sym (append_assoc (given_on past) (take 1 (queue (wire past))) (drop 1 (queue (wire past)))));
      waits = λ l. refl;
      gone = λ l. clash (is_lost past) e l;
    }
given_next past true e k =
    let none = k.gone e in
    let nothing : take 1 (queue (wire past)) ≡ [] = ap (take 1) none in
    record {
      later = k.later;
      sent_are = k.sent_are ∙ sym (ap (λ (ys : List Frame). ys ++ k.later) (ap (λ (zs : List Frame). given_on past ++ zs) nothing ∙ append-nil (given_on past)));
      waits = λ l. clash (is_lost past) l e;
      gone = λ l. ap (drop 1) none;
    }

by_loss : (s : Setting) (past : List Act) (f : Frame) (lost : Bool) → is_lost past ≡ lost → Lawful s (Sent f ∷ past) → InOrder past → InOrder (Sent f ∷ past)
unfolding Lawful
by_loss s past f true e l k = absurd (none_after_loss s past f e l)
by_loss s past f false e l k = sent_on past f (is_data_frame f) refl e (λ d. (lawful_now d l.0.gated).alone) k

in_order : (s : Setting) (past : List Act) → Lawful s past → InOrder past
unfolding Lawful
in_order s [] l = record { later = []; sent_are = refl; waits = λ l. refl; gone = λ l. refl }
in_order s (Sent f ∷ past) l = by_loss s past f (is_lost past) refl l (in_order s past l.1)
in_order s (Given ∷ past) l = given_next past (is_lost past) refl (in_order s past l.1)
in_order s (Lost ∷ past) l = let k = in_order s past l.1 in record { later = k.later; sent_are = k.sent_are; waits = λ live. clash true live refl; gone = λ l. refl }
in_order s (Got f ∷ past) l = let k = in_order s past l.1 in record { later = k.later; sent_are = k.sent_are; waits = k.waits; gone = k.gone }
in_order s (Tick ∷ past) l = let k = in_order s past l.1 in record { later = k.later; sent_are = k.sent_are; waits = k.waits; gone = k.gone }
in_order s (Took r ∷ past) l = let k = in_order s past l.1 in record { later = k.later; sent_are = k.sent_are; waits = k.waits; gone = k.gone }
in_order s (Told o ∷ past) l = let k = in_order s past l.1 in record { later = k.later; sent_are = k.sent_are; waits = k.waits; gone = k.gone }
in_order s (Heard m d line ∷ past) l = let k = in_order s past l.1 in record { later = k.later; sent_are = k.sent_are; waits = k.waits; gone = k.gone }
in_order s (Held d ∷ past) l = let k = in_order s past l.1 in record { later = k.later; sent_are = k.sent_are; waits = k.waits; gone = k.gone }
in_order s (Freed d ∷ past) l = let k = in_order s past l.1 in record { later = k.later; sent_are = k.sent_are; waits = k.waits; gone = k.gone }

-- so in a lawful history the frames given on are the first of those sent, and without a loss the others wait in the queue
pub gives_in_order : (s : Setting) (past : List Act) → Lawful s past → GivesInOrder past
gives_in_order s past l = let k = in_order s past l in record { later = k.later; sent_are = k.sent_are; waits = k.waits }
