-- Laws of whole histories.
use Rattle.std.specs.Prelude.{◌≡◌, not, Bool, true, false, List, [], ◌∷◌, ◌++◌, refl, if◌then◌else◌, drop}
use Rattle.std.specs.List.{list_all}
use Rattle.std.proofs.Common.{ap, sym, ◌∙◌, append_assoc, append-nil}
use Rattle.std.proofs.lemmas.Bool.{and_parts}
use Rattle.mux_frame.specs.Frames.{Frame}
use Rattle.mux_station.specs.Written.{is_data_frame}
use Rattle.modem_history.specs.Acts.{Act, Took, Got, Sent, Told, Heard, Tick, Lost, Held, Freed, Given, after}
use Rattle.modem_history.specs.Calls.{Setting, calls, calls_behind, seen}
use Rattle.modem_history.specs.Holding.{OnHeld}
use Rattle.modem_history.specs.Lawful.{owes_frame, Lawful, Complete, Allows, IsNext, When, unsent, owed}
use Rattle.modem_history.specs.Wholes.{is_first, called, stands, IsBeginning, is_said, GoesOn, CallGoesOn}
use Rattle.modem_history.proofs.calls.CalledActs.{calls_said}

dropped : (owing acts : List Act) (a : Act) → owing ≡ a ∷ acts → drop 1 owing ≡ acts
dropped owing acts a e = ap (λ (v : List Act). drop 1 v) e

-- the first of what is owed comes to stand
pub moved : (xs owing total : List Act) (a : Act) → xs ++ owing ≡ total → IsNext owing a → (xs ++ a ∷ []) ++ drop 1 owing ≡ total
moved xs owing total a h next =
    let joined : (xs ++ a ∷ []) ++ drop 1 owing ≡ xs ++ (a ∷ drop 1 owing) = append_assoc xs (a ∷ []) (drop 1 owing) in
    let same : a ∷ drop 1 owing ≡ owing = ap (λ (v : List Act). a ∷ v) (dropped owing next.later a next.is_next) ∙ sym next.is_next in
    joined ∙ (ap (λ (v : List Act). xs ++ v) same ∙ h)

-- more is called for
added : (xs owing total more : List Act) → xs ++ owing ≡ total → xs ++ (owing ++ more) ≡ total ++ more
added xs owing total more h = sym (append_assoc xs owing more) ∙ ap (λ (v : List Act). v ++ more) h

sent_by : (b : Bool) (xs owing total : List Act) (f : Frame) → xs ++ owing ≡ total → When (not b) (IsNext owing (Sent f))
    → (if b then xs else xs ++ Sent f ∷ []) ++ (if b then owing else drop 1 owing) ≡ total
sent_by true xs owing total f h n = h
sent_by false xs owing total f h n = moved xs owing total (Sent f) h n

-- in a lawful history what stands is the beginning of what was called for, and the rest is owed
pub beginning : (s : Setting) (past : List Act) → Lawful s past → IsBeginning s past
unfolding Lawful
beginning s [] l = refl
beginning s (Took r ∷ past) l = added (stands past) (owed s past) (called s past) (calls_behind s past (owed s past) (Took r)) (beginning s past l.1)
beginning s (Got f ∷ past) l = added (stands past) (owed s past) (called s past) (calls_behind s past (owed s past) (Got f)) (beginning s past l.1)
beginning s (Tick ∷ past) l = added (stands past) (owed s past) (called s past) (calls_behind s past (owed s past) Tick) (beginning s past l.1)
beginning s (Lost ∷ past) l = refl
beginning s (Held d ∷ past) l = added (stands past) (owed s past) (called s past) (calls_behind s past (owed s past) (Held d)) (beginning s past l.1)
beginning s (Freed d ∷ past) l = added (stands past) (owed s past) (called s past) (calls_behind s past (owed s past) (Freed d)) (beginning s past l.1)
beginning s (Given ∷ past) l = beginning s past l.1
beginning s (Sent f ∷ past) l = sent_by (is_data_frame f) (stands past) (owed s past) (called s past) f (beginning s past l.1) l.0.controlled
beginning s (Told o ∷ past) l = moved (stands past) (owed s past) (called s past) (Told o) (beginning s past l.1) l.0.answered
beginning s (Heard k d line ∷ past) l = moved (stands past) (owed s past) (called s past) (Heard k d line) (beginning s past l.1) l.0.heard

-- a test whose contrary passes fails
pub not_true : (b : Bool) → not b ≡ true → b ≡ false
not_true false h = refl
not_true true h = cc

-- where a test fails, its law asks nothing
pub when_not : (b : Bool) (P : Type 0) → b ≡ false → When b P
when_not false P h = tt
when_not true P h = absurd (let e : true ≡ false = h in cc)

-- what holds anyway holds as the law of a test
pub when_is : (b : Bool) (P : Type 0) → P → When b P
when_is false P p = tt
when_is true P p = p

-- of acts chosen by a test that passes, the first are taken
pub if_true : (b : Bool) (xs ys : List Act) → b ≡ true → (if b then xs else ys) ≡ xs
if_true true xs ys h = refl
if_true false xs ys h = cc

-- and by one that fails, the second
pub if_fails : (b : Bool) (xs ys : List Act) → b ≡ false → (if b then xs else ys) ≡ ys
if_fails false xs ys h = refl
if_fails true xs ys h = cc

-- the acts pay what is owed first, one after the other
pub pays : (s : Setting) (past acts rest : List Act) → owed s past ≡ acts ++ rest → list_all is_said acts ≡ true → Lawful s past → Lawful s (after past acts) × (owed s (after past acts) ≡ rest)
unfolding Lawful
pays s past [] rest h p l = (l, h)
pays s past (Sent f ∷ acts) rest h p l =
    let parts = and_parts (not (is_data_frame f)) (list_all is_said acts) p in
    let control : is_data_frame f ≡ false = not_true (is_data_frame f) parts.0 in
    pays s (Sent f ∷ past) acts rest
    (if_fails (is_data_frame f) (owed s past) (drop 1 (owed s past)) control ∙ dropped (owed s past) (acts ++ rest) (Sent f) h) parts.1 (
      record {
        gated = when_not (is_data_frame f) _ control;
        once = when_not (is_data_frame f) _ control;
        in_turn = when_not (is_data_frame f) _ control;
        controlled = when_is (not (is_data_frame f)) (IsNext (owed s past) (Sent f)) (record { later = acts ++ rest; is_next = h });
        answered = tt;
        heard = tt;
        prompt = tt;
        held = tt;
        marked = tt;
      },
      l,
    )
pays s past (Told o ∷ acts) rest h p l =
    pays s (Told o ∷ past) acts rest (dropped (owed s past) (acts ++ rest) (Told o) h) p (
      record {
        gated = tt;
        once = tt;
        in_turn = tt;
        controlled = tt;
        answered = record { later = acts ++ rest; is_next = h };
        heard = tt;
        prompt = tt;
        held = tt;
        marked = tt;
      },
      l,
    )
pays s past (Heard k d line ∷ acts) rest h p l =
    pays s (Heard k d line ∷ past) acts rest (dropped (owed s past) (acts ++ rest) (Heard k d line) h) p (
      record {
        gated = tt;
        once = tt;
        in_turn = tt;
        controlled = tt;
        answered = tt;
        heard = record { later = acts ++ rest; is_next = h };
        prompt = tt;
        held = tt;
        marked = tt;
      },
      l,
    )
pays s past (Took r ∷ acts) rest h p l = absurd (let e : false ≡ true = p in cc)
pays s past (Got r ∷ acts) rest h p l = absurd (let e : false ≡ true = p in cc)
pays s past (Tick ∷ acts) rest h p l = absurd (let e : false ≡ true = p in cc)
pays s past (Lost ∷ acts) rest h p l = absurd (let e : false ≡ true = p in cc)
pays s past (Held r ∷ acts) rest h p l = absurd (let e : false ≡ true = p in cc)
pays s past (Freed r ∷ acts) rest h p l = absurd (let e : false ≡ true = p in cc)
pays s past (Given ∷ acts) rest h p l = absurd (let e : false ≡ true = p in cc)

paid : (s : Setting) (past : List Act) (a : Act) → owed s (a ∷ past) ≡ owed s past ++ calls_behind s past (owed s past) a → Allows s past (owed s past) a
    → list_all is_said (calls s past a) ≡ true → Lawful s past → owed s past ≡ [] → GoesOn s past (a ∷ calls s past a)
unfolding Lawful Complete
paid s past a e allowed p l c =
    let now : owed s (a ∷ past) ≡ calls s past a ++ [] = e ∙ (ap (λ (v : List Act). v ++ calls_behind s past v a) c ∙ sym (append-nil (calls s past a))) in
    let done = pays s (a ∷ past) (calls s past a) [] now p (allowed, l) in
    record { lawful = done.0; complete = done.1 }

-- where nothing was owed, a loss drops nothing
unsent_none : (owing : List Act) → owing ≡ [] → unsent owing ≡ owing
unsent_none [] e = refl
unsent_none (a ∷ owing) e = cc

none_owes : (owing : List Act) → owing ≡ [] → owes_frame owing ≡ false
none_owes [] e = refl
none_owes (a ∷ owing) e = cc

-- an act that a call begins with is allowed where nothing is owed
first_allowed : (s : Setting) (past : List Act) (a : Act) → is_first a ≡ true → OnHeld s.role past a → owed s past ≡ [] → Allows s past (owed s past) a
first_allowed s past (Took r) b h c = record { gated = tt; once = tt; in_turn = tt; controlled = tt; answered = tt; heard = tt; prompt = none_owes (owed s past) c; held = h; marked = tt }
first_allowed s past (Got f) b h c = record { gated = tt; once = tt; in_turn = tt; controlled = tt; answered = tt; heard = tt; prompt = none_owes (owed s past) c; held = h; marked = tt }
first_allowed s past Tick b h c = record { gated = tt; once = tt; in_turn = tt; controlled = tt; answered = tt; heard = tt; prompt = none_owes (owed s past) c; held = h; marked = tt }
first_allowed s past Lost b h c = record { gated = tt; once = tt; in_turn = tt; controlled = tt; answered = tt; heard = tt; prompt = tt; held = h; marked = tt }
first_allowed s past (Held d) b h c = record { gated = tt; once = tt; in_turn = tt; controlled = tt; answered = tt; heard = tt; prompt = none_owes (owed s past) c; held = h; marked = tt }
first_allowed s past (Freed d) b h c = record { gated = tt; once = tt; in_turn = tt; controlled = tt; answered = tt; heard = tt; prompt = none_owes (owed s past) c; held = h; marked = tt }
first_allowed s past (Sent f) b h c = absurd (let e : false ≡ true = b in cc)
first_allowed s past (Told f) b h c = absurd (let e : false ≡ true = b in cc)
first_allowed s past (Heard k d line) b h c = absurd (let e : false ≡ true = b in cc)
first_allowed s past Given b h c = absurd (let e : false ≡ true = b in cc)

-- a call that does just what its first act calls for keeps a history lawful and complete
pub call_goes_on : (s : Setting) (past : List Act) (a : Act) → CallGoesOn s past a
unfolding CallGoesOn Complete
call_goes_on s past (Took r) b h l c = paid s past (Took r) refl (first_allowed s past (Took r) b h c) (calls_said s (seen s past) (Took r)) l c
call_goes_on s past (Got f) b h l c = paid s past (Got f) refl (first_allowed s past (Got f) b h c) (calls_said s (seen s past) (Got f)) l c
call_goes_on s past Tick b h l c = paid s past Tick refl (first_allowed s past Tick b h c) (calls_said s (seen s past) Tick) l c
call_goes_on s past (Held d) b h l c = paid s past (Held d) refl (first_allowed s past (Held d) b h c) (calls_said s (seen s past) (Held d)) l c
call_goes_on s past (Freed d) b h l c = paid s past (Freed d) refl (first_allowed s past (Freed d) b h c) (calls_said s (seen s past) (Freed d)) l c
call_goes_on s past Lost b h l c = paid s past Lost (ap (λ (v : List Act). v ++ calls_behind s past (owed s past) Lost) (unsent_none (owed s past) c)) (first_allowed s past Lost b h c) (calls_said s (seen s past) Lost) l c
call_goes_on s past (Sent f) b h l c = absurd (let e : false ≡ true = b in cc)
call_goes_on s past (Told f) b h l c = absurd (let e : false ≡ true = b in cc)
call_goes_on s past (Heard k d line) b h l c = absurd (let e : false ≡ true = b in cc)
call_goes_on s past Given b h l c = absurd (let e : false ≡ true = b in cc)
