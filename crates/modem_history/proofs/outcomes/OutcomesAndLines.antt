-- Outcomes and lines leave the rest of a history as it was.
use Rattle.std.specs.Prelude.{◌≡◌, true, false, List, [], ◌∷◌, ◌++◌, refl}
use Rattle.std.specs.List.{list_all}
use Rattle.modem_desk.specs.declared.request.Request.{Request}
use Rattle.modem_history.specs.Acts.{Act, Took, Got, Sent, Told, Heard, Tick, Lost, Held, Freed, Given, after, wire, in_hand, without}
use Rattle.modem_history.specs.Calls.{is_lost}
use Rattle.modem_history.proofs.calls.CalledActs.{is_delivery}

-- the requests in hand after some acts
abbrev pub taken_off : List Act → List Request → List Request
taken_off [] hand = hand
taken_off (Told o ∷ acts) hand = taken_off acts (without o hand)
taken_off (_ ∷ acts) hand = taken_off acts hand

pub record Delivered (acts past : List Act) : Type 0 where
  pub wire_same : wire (after past acts) ≡ wire past
  pub lost_same : is_lost (after past acts) ≡ is_lost past
  pub hand_same : in_hand (after past acts) ≡ taken_off acts (in_hand past)

-- outcomes and lines leave the wire, and whether it is lost; from the hand they take the requests told
pub deliveries : (acts past : List Act) → list_all is_delivery acts ≡ true → Delivered acts past
deliveries [] past h = record { wire_same = refl; lost_same = refl; hand_same = refl }
deliveries (Told o ∷ acts) past h = let w = deliveries acts (Told o ∷ past) h in record { wire_same = w.wire_same; lost_same = w.lost_same; hand_same = w.hand_same }
deliveries (Heard k d line ∷ acts) past h = let w = deliveries acts (Heard k d line ∷ past) h in record { wire_same = w.wire_same; lost_same = w.lost_same; hand_same = w.hand_same }
deliveries (Took q ∷ acts) past h = absurd (let e : false ≡ true = h in cc)
deliveries (Got f ∷ acts) past h = absurd (let e : false ≡ true = h in cc)
deliveries (Sent f ∷ acts) past h = absurd (let e : false ≡ true = h in cc)
deliveries (Tick ∷ acts) past h = absurd (let e : false ≡ true = h in cc)
deliveries (Lost ∷ acts) past h = absurd (let e : false ≡ true = h in cc)
deliveries (Held d ∷ acts) past h = absurd (let e : false ≡ true = h in cc)
deliveries (Freed d ∷ acts) past h = absurd (let e : false ≡ true = h in cc)
deliveries (Given ∷ acts) past h = absurd (let e : false ≡ true = h in cc)

-- outcomes and lines, and then other acts, take off what the first do, and then what the others do
pub off_both : (xs ys : List Act) (hand : List Request) → list_all is_delivery xs ≡ true → taken_off (xs ++ ys) hand ≡ taken_off ys (taken_off xs hand)
off_both [] ys hand h = refl
off_both (Told o ∷ xs) ys hand h = off_both xs ys (without o hand) h
off_both (Heard k d line ∷ xs) ys hand h = off_both xs ys hand h
off_both (Took q ∷ acts) ys hand h = absurd (let e : false ≡ true = h in cc)
off_both (Got f ∷ acts) ys hand h = absurd (let e : false ≡ true = h in cc)
off_both (Sent f ∷ acts) ys hand h = absurd (let e : false ≡ true = h in cc)
off_both (Tick ∷ acts) ys hand h = absurd (let e : false ≡ true = h in cc)
off_both (Lost ∷ acts) ys hand h = absurd (let e : false ≡ true = h in cc)
off_both (Held d ∷ acts) ys hand h = absurd (let e : false ≡ true = h in cc)
off_both (Freed d ∷ acts) ys hand h = absurd (let e : false ≡ true = h in cc)
off_both (Given ∷ acts) ys hand h = absurd (let e : false ≡ true = h in cc)
