-- What leaves each end as data is text, where what is given to it is.
use Rattle.std.specs.Prelude.{◌≡◌, ℕ, ◌==◌, ◌&&◌, ◌||◌, nat_eq, nat_lt, Bool, true, false, List, [], ◌∷◌, ◌++◌, length, drop, Some, None, refl, if◌then◌else◌}
use Rattle.std.specs.List.{concat, list_all, starts_with}
use Rattle.std.proofs.Common.{ap, sym, ◌∙◌}
use Rattle.std.proofs.lemmas.Bool.{and_from, and_parts}
use Rattle.std.proofs.lemmas.Bool.Decides.{Decides-eqb}
use Rattle.std.proofs.lemmas.List.Folds.{list_all-append}
use Rattle.std.proofs.lemmas.Slice.Eq.{starts_is}
use Rattle.mux_station.specs.declared.role.Role.{Role}
use Rattle.mux_station.specs.Acts as station
use Rattle.mux_station.specs.Offering.{joined_octets, octets_offered, offered}
use Rattle.mux_station.specs.Opening.{belongs, is_open, opens_now, since, since_after}
use Rattle.at_text.specs.declared.error.TextError.TheVariants.{NoAt, BadOctet, TooLong}
use Rattle.at_text.specs.Commands.{has_at, is_printable, refusal_of}
use Rattle.at_text.specs.Lines.{is_line_end}
use Rattle.modem_desk.specs.declared.request.Request.{Request}
use Rattle.modem_history.specs.Acts.{Act, Took, Got, Sent, Told, Heard, Tick, Lost, Held, Freed, Given, in_hand, wire}
use Rattle.modem_history.specs.Information.{accepted, command_on, is_accepted, line_of, opens_here, texts}
use Rattle.modem_history.specs.TwoEnds.{TakesCommandLines}
use Rattle.modem_show.specs.Judging.{is_text}
use Rattle.show_laws.specs.Laws.{OffersText}

-- two texts, one behind the other, are text
pub text_both : (xs ys : List ℕ) → is_text xs ≡ true → is_text ys ≡ true → is_text (xs ++ ys) ≡ true
text_both xs ys h k = list_all-append (λ c. is_printable c || is_line_end c) xs ys ∙ and_from (is_text xs) (is_text ys) h k

-- and both parts of a text are
pub text_parts : (xs ys : List ℕ) → is_text (xs ++ ys) ≡ true → (is_text xs ≡ true) × (is_text ys ≡ true)
text_parts xs ys h = and_parts (is_text xs) (is_text ys) (sym (list_all-append (λ c. is_printable c || is_line_end c) xs ys) ∙ h)

-- ## The driver

printable_text : (xs : List ℕ) → list_all is_printable xs ≡ true → is_text xs ≡ true
printable_text [] h = refl
printable_text (x ∷ xs) h =
    let p = and_parts (is_printable x) (list_all is_printable xs) h in
    and_from (is_printable x || is_line_end x) (is_text xs) (ap (λ (b : Bool). b || is_line_end x) p.0) (printable_text xs p.1)

unrefused : (a b c : Bool) → (if a then (if b then (if c then Some TooLong else None) else Some BadOctet) else Some NoAt) ≡ None → b ≡ true
unrefused true true c h = refl
unrefused true false c h = cc
unrefused false b c h = cc

command_text : (text : List ℕ) → refusal_of text ≡ None → is_text (text ++ 13 ∷ []) ≡ true
command_text text h =
    text_both text (13 ∷ []) (printable_text text (unrefused (has_at text) (list_all is_printable text) (nat_lt 256 (length text)) h)) refl

joined_both : (qs : List Request) (q : Request) → is_text (concat (texts qs)) ≡ true → is_text (line_of q ++ 13 ∷ []) ≡ true → is_text (concat (texts (qs ++ q ∷ []))) ≡ true
joined_both [] q h k = text_both (line_of q ++ 13 ∷ []) [] k refl
joined_both (r ∷ qs) q h k =
    let p = text_parts (line_of r ++ 13 ∷ []) (concat (texts qs)) h in
    text_both (line_of r ++ 13 ∷ []) (concat (texts (qs ++ q ∷ []))) p.0 (joined_both qs q p.1 k)

taken_text : (r : Role) (d : ℕ) (past : List Act) (q : Request) (b : Bool) → is_accepted r d past q ≡ b → ((e : ℕ) → command_on e q.ask ≡ true → refusal_of (line_of q) ≡ None) → is_text (concat (texts (accepted r d past))) ≡ true
    → is_text (concat (texts (if b then accepted r d past ++ q ∷ [] else accepted r d past))) ≡ true
taken_text r d past q false e lines h = h
taken_text r d past q true e lines h =
    let on = and_parts (command_on d q.ask) (nat_lt (length (in_hand past)) 128) (and_parts (is_open r d (wire past)) (command_on d q.ask && nat_lt (length (in_hand past)) 128) e).1 in
    joined_both (accepted r d past) q h (command_text (line_of q) (lines d on.0))

afresh : (r : Role) (d : ℕ) (past : List Act) (b : Bool) → is_text (concat (texts (accepted r d past))) ≡ true → is_text (concat (texts (if b then [] else accepted r d past))) ≡ true
afresh r d past true h = refl
afresh r d past false h = h

-- the commands accepted on a connection are text
pub accepted_text : (r : Role) (d : ℕ) (past : List Act) → TakesCommandLines past → is_text (concat (texts (accepted r d past))) ≡ true
accepted_text r d [] h = refl
accepted_text r d (Took q ∷ past) h = taken_text r d past q (is_accepted r d past q) refl h.0 (accepted_text r d past h.1)
accepted_text r d (Got f ∷ past) h = afresh r d past (opens_here r d past (Got f)) (accepted_text r d past h)
accepted_text r d (Sent f ∷ past) h = afresh r d past (opens_here r d past (Sent f)) (accepted_text r d past h)
accepted_text r d (Told o ∷ past) h = afresh r d past (opens_here r d past (Told o)) (accepted_text r d past h)
accepted_text r d (Heard k e l ∷ past) h = afresh r d past (opens_here r d past (Heard k e l)) (accepted_text r d past h)
accepted_text r d (Tick ∷ past) h = afresh r d past (opens_here r d past Tick) (accepted_text r d past h)
accepted_text r d (Lost ∷ past) h = afresh r d past (opens_here r d past Lost) (accepted_text r d past h)
accepted_text r d (Held e ∷ past) h = afresh r d past (opens_here r d past (Held e)) (accepted_text r d past h)
accepted_text r d (Freed e ∷ past) h = afresh r d past (opens_here r d past (Freed e)) (accepted_text r d past h)
accepted_text r d (Given ∷ past) h = afresh r d past (opens_here r d past Given) (accepted_text r d past h)

-- what stands at the front of a text is text
pub front_text : (xs ys : List ℕ) → starts_with nat_eq ys xs ≡ true → is_text ys ≡ true → is_text xs ≡ true
front_text xs ys h k =
    let e = (starts_is Decides-eqb ys xs (starts_with nat_eq ys xs) refl).0 h in
    (text_parts xs (drop (length xs) ys) (sym (ap is_text e) ∙ k)).0

-- ## The modem

offer_text : (d : ℕ) (e : ℕ) (octets : List ℕ) → is_text octets ≡ true → is_text (if e == d then octets else []) ≡ true
offer_text d e octets h = by_same (e == d)
  where
    by_same : (b : Bool) → is_text (if b then octets else []) ≡ true
    by_same true = h
    by_same false = refl

one_since : (d : ℕ) (x y : Bool) (a : station.Act) (rest : List station.Act) → is_text (octets_offered d a) ≡ true → is_text (joined_octets (octets_offered d) rest) ≡ true
    → is_text (joined_octets (octets_offered d) (since_after x y a rest)) ≡ true
one_since d true y a rest h k = refl
one_since d false true a rest h k = text_both (joined_octets (octets_offered d) rest) (octets_offered d a) k h
one_since d false false a rest h k = k

-- what is offered is text
pub offered_text : (r : Role) (d : ℕ) (past : List station.Act) → OffersText past → is_text (offered r d past) ≡ true
offered_text r d [] h = refl
offered_text r d (station.Called (station.Offer e octets) ∷ past) h =
    let a = station.Called (station.Offer e octets) in
    one_since d (opens_now r d past a) (belongs r d past a) a (since r d past) (offer_text d e octets h.0) (offered_text r d past h.1)
offered_text r d (station.Called (station.Open e) ∷ past) h = let a = station.Called (station.Open e) in one_since d (opens_now r d past a) (belongs r d past a) a (since r d past) refl (offered_text r d past h)
offered_text r d (station.Called (station.Close e) ∷ past) h = let a = station.Called (station.Close e) in one_since d (opens_now r d past a) (belongs r d past a) a (since r d past) refl (offered_text r d past h)
offered_text r d (station.Called (station.Probe octets) ∷ past) h = let a = station.Called (station.Probe octets) in one_since d (opens_now r d past a) (belongs r d past a) a (since r d past) refl (offered_text r d past h)
offered_text r d (station.Called station.Stop ∷ past) h = let a = station.Called station.Stop in one_since d (opens_now r d past a) (belongs r d past a) a (since r d past) refl (offered_text r d past h)
offered_text r d (station.Called (station.Flow e go) ∷ past) h = let a = station.Called (station.Flow e go) in one_since d (opens_now r d past a) (belongs r d past a) a (since r d past) refl (offered_text r d past h)
offered_text r d (station.Got f ∷ past) h = one_since d (opens_now r d past (station.Got f)) (belongs r d past (station.Got f)) (station.Got f) (since r d past) refl (offered_text r d past h)
offered_text r d (station.Sent f ∷ past) h = one_since d (opens_now r d past (station.Sent f)) (belongs r d past (station.Sent f)) (station.Sent f) (since r d past) refl (offered_text r d past h)
offered_text r d (station.Tick ∷ past) h = one_since d (opens_now r d past station.Tick) (belongs r d past station.Tick) station.Tick (since r d past) refl (offered_text r d past h)
offered_text r d (station.Lost ∷ past) h = one_since d (opens_now r d past station.Lost) (belongs r d past station.Lost) station.Lost (since r d past) refl (offered_text r d past h)
offered_text r d (station.Given ∷ past) h = one_since d (opens_now r d past station.Given) (belongs r d past station.Given) station.Given (since r d past) refl (offered_text r d past h)
