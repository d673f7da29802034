-- What leads a line with its relay from one state to the next.
use Rattle.std.specs.Prelude.{◌≡◌, ◌≢◌, ℕ, ◌≤◌, ◌<◌, length, Bool, true, false, List, [], ◌∷◌, ◌++◌, take, refl}
use Rattle.std.specs.List.{list_all}
use Rattle.std.proofs.Common.{ap, sym, ◌∙◌, subst, arith, zero, suc}
use Rattle.std.proofs.lemmas.Bool.{and_from, and_parts}
use Rattle.std.proofs.lemmas.List.{append_assoc, append-nil}
use Rattle.std.proofs.lemmas.List.Folds.{list_all-append}
use Rattle.mux_station.specs.declared.role.Role.{Role}
use Rattle.serial_line.specs.LineViews.{LineView, after_fault, after_read, after_write}
use Rattle.modem_data.specs.Passing.{Pass, Came, Went, Flowed, Left, Lost}
use Rattle.modem_data.specs.Hops.{Relay, RelayFits, Hop, Fed, Handed, Took, Wrote, Passed, Hops, DriverOut, still_there, driver_out, OneOut, still_out, went_out, flow_out, left_out, fed, handed_over, taken, wrote, is_line_in}
use Rattle.modem_data_line.specs.DataLines.{DataLineState, Before, LineFits, LeadsBy, TakesBy, is_of_driver, is_outward, may_go, may_pass, with_taken}
use Rattle.modem_data_line.specs.Moving.{WritesOn, Feeds, Hands, TakesOn}
use Rattle.modem_data_line.proofs.Asked.{all_came}

-- ## Lists of hops

fed_both : (hs past : List Hop) → fed (hs ++ past) ≡ fed past ++ fed hs
fed_both [] past = sym (append-nil (fed past))
fed_both (Fed o ∷ hs) past = ap (λ (xs : List ℕ). xs ++ o) (fed_both hs past) ∙ append_assoc (fed past) (fed hs) o
fed_both (Handed o ∷ hs) past = fed_both hs past
fed_both (Took o ∷ hs) past = fed_both hs past
fed_both (Wrote o ∷ hs) past = fed_both hs past
fed_both (Passed p ∷ hs) past = fed_both hs past

handed_both : (hs past : List Hop) → handed_over (hs ++ past) ≡ handed_over past ++ handed_over hs
handed_both [] past = sym (append-nil (handed_over past))
handed_both (Fed o ∷ hs) past = handed_both hs past
handed_both (Handed o ∷ hs) past = ap (λ (xs : List ℕ). xs ++ o) (handed_both hs past) ∙ append_assoc (handed_over past) (handed_over hs) o
handed_both (Took o ∷ hs) past = handed_both hs past
handed_both (Wrote o ∷ hs) past = handed_both hs past
handed_both (Passed p ∷ hs) past = handed_both hs past

taken_both : (hs past : List Hop) → taken (hs ++ past) ≡ taken past ++ taken hs
taken_both [] past = sym (append-nil (taken past))
taken_both (Fed o ∷ hs) past = taken_both hs past
taken_both (Handed o ∷ hs) past = taken_both hs past
taken_both (Took o ∷ hs) past = ap (λ (xs : List ℕ). xs ++ o) (taken_both hs past) ∙ append_assoc (taken past) (taken hs) o
taken_both (Wrote o ∷ hs) past = taken_both hs past
taken_both (Passed p ∷ hs) past = taken_both hs past

wrote_both : (hs past : List Hop) → wrote (hs ++ past) ≡ wrote past ++ wrote hs
wrote_both [] past = sym (append-nil (wrote past))
wrote_both (Fed o ∷ hs) past = wrote_both hs past
wrote_both (Handed o ∷ hs) past = wrote_both hs past
wrote_both (Took o ∷ hs) past = wrote_both hs past
wrote_both (Wrote o ∷ hs) past = ap (λ (xs : List ℕ). xs ++ o) (wrote_both hs past) ∙ append_assoc (wrote past) (wrote hs) o
wrote_both (Passed p ∷ hs) past = wrote_both hs past

all_both : (p : Hop → Bool) (xs ys : List Hop) → list_all p xs ≡ true → list_all p ys ≡ true → list_all p (xs ++ ys) ≡ true
all_both p xs ys a b = list_all-append p xs ys ∙ and_from (list_all p xs) (list_all p ys) a b

all_kind : (p q : Hop → Bool) (xs : List Hop) → ((a : Hop) → p a ≡ true → q a ≡ true) → list_all p xs ≡ true → list_all q xs ≡ true
all_kind p q [] on e = refl
all_kind p q (a ∷ xs) on e =
    let both = and_parts (p a) (list_all p xs) e in
    and_from (q a) (list_all q xs) (on a both.0) (all_kind p q xs on both.1)

-- ## From the relay to the line

-- by these hops, whatever passed before
abbrev pub Leads : {X : Type 0} (look : X → LineView) → List Hop → DataLineState X → DataLineState X → Type 0
Leads look hops v w = (role : Role) (n1 : ℕ) (ds : List ℕ) (b : Before) (past : List Hop) → LineFits look role n1 ds b v past → LineFits look role n1 ds b w (hops ++ past)

-- the relay leads on by these hops, whatever passed before
abbrev pub RelayLeads : List Hop → Relay → Relay → Type 0
RelayLeads hops v w = (role : Role) (n1 : ℕ) (ds : List ℕ) (past : List Hop) → RelayFits role n1 ds v past → RelayFits role n1 ds w (hops ++ past)

-- octets that came, of which the relay took the first
came_on : (b f u more g w : List ℕ) → u ++ more ≡ g ++ w → (b ++ (f ++ u)) ++ more ≡ b ++ ((f ++ g) ++ w)
came_on b f u more g w e =
    append_assoc b (f ++ u) more ∙ ap (λ (xs : List ℕ). b ++ xs) (append_assoc f u more ∙ (ap (λ (xs : List ℕ). f ++ xs) e ∙ sym (append_assoc f g w)))

lift : {X : Type 0} (look : X → LineView) (hops : List Hop) (v w : DataLineState X) (more : List ℕ) → RelayLeads hops v.relay w.relay
    → (look w.line).received ≡ (look v.line).received ++ more → v.unfed ++ more ≡ fed hops ++ w.unfed → (look w.line).sent ≡ (look v.line).sent ++ wrote hops
    → w.received ≡ v.received ++ handed_over hops → w.sent ≡ v.sent ++ taken hops → Leads look hops v w
lift look hops v w more leads cm un wt rd st role n1 ds b past h = record {
  relay_fits = leads role n1 ds past h.relay_fits;
  came = cm ∙ (ap (λ (xs : List ℕ). xs ++ more) h.came ∙ (came_on b.received (fed past) v.unfed more (fed hops) w.unfed un ∙ ap (λ (xs : List ℕ). b.received ++ (xs ++ w.unfed)) (sym (fed_both hops past))));
  went = wt ∙ (ap (λ (xs : List ℕ). xs ++ wrote hops) h.went ∙ (append_assoc b.sent (wrote past) (wrote hops) ∙ ap (λ (xs : List ℕ). b.sent ++ xs) (sym (wrote_both hops past))));
  read_are = rd ∙ (ap (λ (xs : List ℕ). xs ++ handed_over hops) h.read_are ∙ sym (handed_both hops past));
  sent_are = st ∙ (ap (λ (xs : List ℕ). xs ++ taken hops) h.sent_are ∙ sym (taken_both hops past));
}

-- the same where only the relay and what the line took changed
lift_out : {X : Type 0} (look : X → LineView) (hops : List Hop) (v w : DataLineState X) → RelayLeads hops v.relay w.relay
    → fed hops ≡ [] → handed_over hops ≡ [] → taken hops ≡ [] → (look w.line).received ≡ (look v.line).received → (look w.line).sent ≡ (look v.line).sent ++ wrote hops
    → w.unfed ≡ v.unfed → w.received ≡ v.received → w.sent ≡ v.sent → Leads look hops v w
lift_out look hops v w leads f h t cm wt un rd st =
    lift look hops v w [] leads (cm ∙ sym (append-nil (look v.line).received)) (append-nil v.unfed ∙ (sym un ∙ ap (λ (xs : List ℕ). xs ++ w.unfed) (sym f))) wt
    (rd ∙ (sym (append-nil v.received) ∙ ap (λ (xs : List ℕ). v.received ++ xs) (sym h))) (st ∙ (sym (append-nil v.sent) ∙ ap (λ (xs : List ℕ). v.sent ++ xs) (sym t)))

-- ## One behind the other

leads_on : {X : Type 0} (look : X → LineView) (a b : List Hop) (u v w : DataLineState X) → Leads look a u v → Leads look b v w → Leads look (b ++ a) u w
leads_on look a b u v w one two role n1 ds e past h =
    subst (λ (hs : List Hop). LineFits look role n1 ds e w hs) (sym (append_assoc b a past)) (two role n1 ds e (a ++ past) (one role n1 ds e past h))

-- by no hop
pub leads_none : {X : Type 0} (look : X → LineView) (k : Hop → Bool) (v : DataLineState X) → LeadsBy look k v v
leads_none look k v = record { hops = []; only = refl; leads = λ role n1 ds b past h. h }

-- by some hops of a kind, and then others of it
pub leads_then : {X : Type 0} (look : X → LineView) (k : Hop → Bool) (u v w : DataLineState X) → LeadsBy look k u v → LeadsBy look k v w → LeadsBy look k u w
leads_then look k u v w one two = record {
  hops = two.hops ++ one.hops;
  only = all_both k two.hops one.hops two.only one.only;
  leads = leads_on look one.hops two.hops u v w one.leads two.leads;
}

-- by hops of a kind, and so of any that is wider
pub leads_kind : {X : Type 0} (look : X → LineView) (k m : Hop → Bool) (v w : DataLineState X) → ((a : Hop) → k a ≡ true → m a ≡ true) → LeadsBy look k v w → LeadsBy look m v w
leads_kind look k m v w on h = record { hops = h.hops; only = all_kind k m h.hops on h.only; leads = h.leads }

-- ## Kinds

-- what is of the driver may go out, whether it is behind or not
pub driver_goes : (behind : Bool) (a : Hop) → is_of_driver a ≡ true → may_go behind a ≡ true
driver_goes true a e = e
driver_goes false (Passed (Flowed f)) e = cc
driver_goes false (Passed (Left f)) e = cc
driver_goes false (Passed (Came f)) e = e
driver_goes false (Passed (Went f)) e = e
driver_goes false (Passed Lost) e = e
driver_goes false (Passed p) e = cc
driver_goes false (Fed o) e = e
driver_goes false (Handed o) e = e
driver_goes false (Took o) e = e
driver_goes false (Wrote o) e = e

-- what may go out, and then what is of the driver
pub then_driver : {X : Type 0} (look : X → LineView) (behind : Bool) (u v w : DataLineState X) → LeadsBy look (may_go behind) u v → LeadsBy look is_of_driver v w → LeadsBy look (may_go behind) u w
then_driver look behind u v w one two = leads_then look (may_go behind) u v w one (leads_kind look is_of_driver (may_go behind) v w (driver_goes behind) two)

-- ## Steps

-- only the relay changed, by one hop that moves no octets
by_relay : {X : Type 0} (look : X → LineView) (k : Hop → Bool) (v w : DataLineState X) (a : Hop) → k a ≡ true → Hops v.relay w.relay a
    → fed (a ∷ []) ≡ [] → handed_over (a ∷ []) ≡ [] → taken (a ∷ []) ≡ [] → wrote (a ∷ []) ≡ []
    → (look w.line).received ≡ (look v.line).received → (look w.line).sent ≡ (look v.line).sent → w.unfed ≡ v.unfed → w.received ≡ v.received → w.sent ≡ v.sent → LeadsBy look k v w
unfolding Hops
by_relay look k v w a is hops f h t o cm wt un rd st = record {
  hops = a ∷ [];
  only = and_from (k a) true is refl;
  leads = lift_out look (a ∷ []) v w hops f h t cm (wt ∙ (sym (append-nil (look v.line).sent) ∙ ap (λ (xs : List ℕ). (look v.line).sent ++ xs) (sym o))) un rd st;
}

-- the line is lost
pub loses : {X : Type 0} (look : X → LineView) (v w : DataLineState X) → Hops v.relay w.relay (Passed Lost) → w ≡ record v { relay = w.relay; is_lost = true } → LeadsBy look is_of_driver v w
loses look v w h e = by_relay look is_of_driver v w (Passed Lost) refl h refl refl refl refl (ap (λ (x : DataLineState _). (look x.line).received) e) (ap (λ (x : DataLineState _). (look x.line).sent) e)
    (ap (λ (x : DataLineState _). x.unfed) e) (ap (λ (x : DataLineState _). x.received) e) (ap (λ (x : DataLineState _). x.sent) e)

same_relay : {X : Type 0} (look : X → LineView) (k : Hop → Bool) (v w : DataLineState X) → w.relay ≡ v.relay → w ≡ record v { relay = w.relay } → LeadsBy look k v w
same_relay look k v w q e =
    let all : w ≡ v = e ∙ ap (λ (x : Relay). record v { relay = x }) q in
    subst (λ (x : DataLineState _). LeadsBy look k v x) (sym all) (leads_none look k v)

only_relay : {X : Type 0} (look : X → LineView) (k : Hop → Bool) (v w : DataLineState X) (a : Hop) → k a ≡ true → Hops v.relay w.relay a
    → fed (a ∷ []) ≡ [] → handed_over (a ∷ []) ≡ [] → taken (a ∷ []) ≡ [] → wrote (a ∷ []) ≡ [] → w ≡ record v { relay = w.relay } → LeadsBy look k v w
only_relay look k v w a is h f hd t o e = by_relay look k v w a is h f hd t o (ap (λ (x : DataLineState _). (look x.line).received) e) (ap (λ (x : DataLineState _). (look x.line).sent) e)
    (ap (λ (x : DataLineState _). x.unfed) e) (ap (λ (x : DataLineState _). x.received) e) (ap (λ (x : DataLineState _). x.sent) e)

-- while the driver is behind, its next frame alone goes on
pub readies_driver : {X : Type 0} (look : X → LineView) (v w : DataLineState X) → DriverOut v.relay w.relay → w ≡ record v { relay = w.relay } → v.is_behind ≡ true → LeadsBy look (may_go v.is_behind) v w
readies_driver look v w (still_there q) e b = same_relay look (may_go v.is_behind) v w q e
readies_driver look v w (driver_out h) e b = subst (λ (k : Bool). LeadsBy look (may_go k) v w) (sym b) (only_relay look is_of_driver v w (Passed (Went h.frame)) refl h.leads refl refl refl refl e)

-- while it isn't, any frame that may go next does
pub readies_any : {X : Type 0} (look : X → LineView) (v w : DataLineState X) → OneOut v.relay w.relay → w ≡ record v { relay = w.relay } → v.is_behind ≡ false → LeadsBy look (may_go v.is_behind) v w
readies_any look v w (still_out q) e b = same_relay look (may_go v.is_behind) v w q e
readies_any look v w (went_out h) e b = subst (λ (k : Bool). LeadsBy look (may_go k) v w) (sym b) (only_relay look is_outward v w (Passed (Went h.frame)) refl h.leads refl refl refl refl e)
readies_any look v w (flow_out h) e b = subst (λ (k : Bool). LeadsBy look (may_go k) v w) (sym b) (only_relay look is_outward v w (Passed (Flowed h.frame)) refl h.leads refl refl refl refl e)
readies_any look v w (left_out h) e b = subst (λ (k : Bool). LeadsBy look (may_go k) v w) (sym b) (only_relay look is_outward v w (Passed (Left h.frame)) refl h.leads refl refl refl refl e)

-- the line takes octets of the relay
pub writes_once : {X : Type 0} (look : X → LineView) (v w : DataLineState X) (n : ℕ) (octets : List ℕ) → WritesOn (look v.line).sent (look w.line).sent v.relay w.relay → look w.line ≡ after_write n octets (look v.line) → w ≡ record v { line = w.line; relay = w.relay } → LeadsBy look is_of_driver v w
unfolding Hops
writes_once look v w n octets h took e = record {
  hops = Wrote h.octets ∷ [];
  only = refl;
  leads = lift_out look (Wrote h.octets ∷ []) v w h.wrote refl refl refl (ap (λ (l : LineView). l.received) took) h.went (ap (λ (x : DataLineState _). x.unfed) e) (ap (λ (x : DataLineState _). x.received) e) (ap (λ (x : DataLineState _). x.sent) e);
}

-- the line failed in a write, or was read with octets that wait
pub loses_at : {X : Type 0} (look : X → LineView) (v w : DataLineState X) → Hops v.relay w.relay (Passed Lost) → look w.line ≡ after_fault (look v.line)
    → w ≡ record v { line = w.line; relay = w.relay; is_lost = true } → LeadsBy look is_of_driver v w
loses_at look v w h fault e = by_relay look is_of_driver v w (Passed Lost) refl h refl refl refl refl (ap (λ (l : LineView). l.received) fault) (ap (λ (l : LineView). l.sent) fault)
    (ap (λ (x : DataLineState _). x.unfed) e) (ap (λ (x : DataLineState _). x.received) e) (ap (λ (x : DataLineState _). x.sent) e)

-- ## Octets that come

line_passes : (behind : Bool) (a : Hop) → is_line_in a ≡ true → may_pass behind a ≡ true
line_passes behind (Fed o) e = refl
line_passes behind (Passed (Came f)) e = refl
line_passes behind (Passed (Went f)) e = cc
line_passes behind (Passed (Flowed f)) e = cc
line_passes behind (Passed (Left f)) e = cc
line_passes behind (Passed p) e = cc
line_passes behind (Handed o) e = cc
line_passes behind (Took o) e = cc
line_passes behind (Wrote o) e = cc

-- what may go out may pass
pub goes_passes : (behind : Bool) (a : Hop) → may_go behind a ≡ true → may_pass behind a ≡ true
goes_passes behind (Fed o) e = refl
goes_passes behind (Handed o) e = refl
goes_passes behind (Passed (Came f)) e = refl
goes_passes behind (Passed (Went f)) e = e
goes_passes behind (Passed (Flowed f)) e = e
goes_passes behind (Passed (Left f)) e = e
goes_passes behind (Passed Lost) e = e
goes_passes behind (Passed p) e = e
goes_passes behind (Took o) e = e
goes_passes behind (Wrote o) e = e

none_handed : (hs : List Hop) → list_all is_line_in hs ≡ true → handed_over hs ≡ []
none_handed [] e = refl
none_handed (Fed o ∷ hs) e = none_handed hs e
none_handed (Passed (Came f) ∷ hs) e = none_handed hs e
none_handed (Passed p ∷ hs) e = none_handed hs (and_parts (is_line_in (Passed p)) (list_all is_line_in hs) e).1
none_handed (Handed o ∷ hs) e = cc
none_handed (Took o ∷ hs) e = none_handed hs (and_parts (is_line_in (Took o)) (list_all is_line_in hs) e).1
none_handed (Wrote o ∷ hs) e = none_handed hs (and_parts (is_line_in (Wrote o)) (list_all is_line_in hs) e).1

none_taken : (hs : List Hop) → list_all is_line_in hs ≡ true → taken hs ≡ []
none_taken [] e = refl
none_taken (Fed o ∷ hs) e = none_taken hs e
none_taken (Passed (Came f) ∷ hs) e = none_taken hs e
none_taken (Passed p ∷ hs) e = none_taken hs (and_parts (is_line_in (Passed p)) (list_all is_line_in hs) e).1
none_taken (Handed o ∷ hs) e = none_taken hs (and_parts (is_line_in (Handed o)) (list_all is_line_in hs) e).1
none_taken (Took o ∷ hs) e = cc
none_taken (Wrote o ∷ hs) e = none_taken hs (and_parts (is_line_in (Wrote o)) (list_all is_line_in hs) e).1

none_wrote : (hs : List Hop) → list_all is_line_in hs ≡ true → wrote hs ≡ []
none_wrote [] e = refl
none_wrote (Fed o ∷ hs) e = none_wrote hs e
none_wrote (Passed (Came f) ∷ hs) e = none_wrote hs e
none_wrote (Passed p ∷ hs) e = none_wrote hs (and_parts (is_line_in (Passed p)) (list_all is_line_in hs) e).1
none_wrote (Handed o ∷ hs) e = none_wrote hs (and_parts (is_line_in (Handed o)) (list_all is_line_in hs) e).1
none_wrote (Took o ∷ hs) e = none_wrote hs (and_parts (is_line_in (Took o)) (list_all is_line_in hs) e).1
none_wrote (Wrote o ∷ hs) e = cc

-- the relay took the first of those that wait for it
pub takes_waiting : {X : Type 0} (look : X → LineView) (v w : DataLineState X) → Feeds v.relay w.relay v.unfed w.unfed → w ≡ record v { relay = w.relay; unfed = w.unfed } → LeadsBy look (may_pass v.is_behind) v w
takes_waiting look v w h e = record {
  hops = h.comes.hops;
  only = all_kind is_line_in (may_pass v.is_behind) h.comes.hops (line_passes v.is_behind) h.comes.only;
  leads = lift look h.comes.hops v w [] h.comes.leads
      (ap (λ (x : DataLineState _). (look x.line).received) e ∙ sym (append-nil (look v.line).received))
      (append-nil v.unfed ∙ (h.taken ∙ ap (λ (xs : List ℕ). xs ++ w.unfed) (sym h.comes.fed_are)))
      (ap (λ (x : DataLineState _). (look x.line).sent) e ∙ (sym (append-nil (look v.line).sent) ∙ ap (λ (xs : List ℕ). (look v.line).sent ++ xs) (sym (none_wrote h.comes.hops h.comes.only))))
      (ap (λ (x : DataLineState _). x.received) e ∙ (sym (append-nil v.received) ∙ ap (λ (xs : List ℕ). v.received ++ xs) (sym (none_handed h.comes.hops h.comes.only))))
      (ap (λ (x : DataLineState _). x.sent) e ∙ (sym (append-nil v.sent) ∙ ap (λ (xs : List ℕ). v.sent ++ xs) (sym (none_taken h.comes.hops h.comes.only))));
}

-- octets came, and wait for the relay
pub reads_line : {X : Type 0} (look : X → LineView) (v w : DataLineState X) (n : ℕ) → v.unfed ≡ [] → look w.line ≡ after_read 512 n w.unfed (look v.line) → n ≡ length w.unfed
    → w ≡ record v { line = w.line; unfed = w.unfed } → LeadsBy look (may_pass v.is_behind) v w
reads_line look v w n none gave c e = record {
  hops = [];
  only = refl;
  leads = lift look [] v w w.unfed (λ role n1 ds past h. subst (λ (x : Relay). RelayFits role n1 ds x past) (sym (ap (λ (x : DataLineState _). x.relay) e)) h)
      (all_came look v.line w.line w.unfed n gave c) (ap (λ (xs : List ℕ). xs ++ w.unfed) none) (ap (λ (l : LineView). l.sent) gave ∙ sym (append-nil (look v.line).sent))
      (ap (λ (x : DataLineState _). x.received) e ∙ sym (append-nil v.received)) (ap (λ (x : DataLineState _). x.sent) e ∙ sym (append-nil v.sent));
}

-- octets went on to the driver
pub hands_driver : {X : Type 0} (look : X → LineView) (v w : DataLineState X) (octets : List ℕ) → Hands v.relay w.relay octets
    → w.received ≡ v.received ++ octets → w ≡ record v { relay = w.relay; received = w.received } → LeadsBy look (may_pass v.is_behind) v w
unfolding Hops
hands_driver look v w octets h rd e = record {
  hops = Handed octets ∷ [];
  only = refl;
  leads = lift look (Handed octets ∷ []) v w [] h (ap (λ (x : DataLineState _). (look x.line).received) e ∙ sym (append-nil (look v.line).received))
      (append-nil v.unfed ∙ sym (ap (λ (x : DataLineState _). x.unfed) e))
      (ap (λ (x : DataLineState _). (look x.line).sent) e ∙ sym (append-nil (look v.line).sent)) rd
      (ap (λ (x : DataLineState _). x.sent) e ∙ sym (append-nil v.sent));
}

-- what is of the driver may pass
pub of_driver_passes : (behind : Bool) (a : Hop) → is_of_driver a ≡ true → may_pass behind a ≡ true
of_driver_passes behind a e = goes_passes behind a (driver_goes behind a e)

-- so what leads by that alone leads by what may pass
pub lost_passes : {X : Type 0} (look : X → LineView) (behind : Bool) (v w : DataLineState X) → LeadsBy look is_of_driver v w → LeadsBy look (may_pass behind) v w
lost_passes look behind v w h = leads_kind look is_of_driver (may_pass behind) v w (of_driver_passes behind) h

-- and so does what leads by what may go out
pub went_passes : {X : Type 0} (look : X → LineView) (behind : Bool) (v w : DataLineState X) → LeadsBy look (may_go behind) v w → LeadsBy look (may_pass behind) v w
went_passes look behind v w h = leads_kind look (may_go behind) (may_pass behind) v w (goes_passes behind) h

-- the line failed in a read, when nothing waited for the relay, and gave nothing
pub loses_reading : {X : Type 0} (look : X → LineView) (v w : DataLineState X) → v.unfed ≡ [] → w.unfed ≡ [] → Hops v.relay w.relay (Passed Lost) → look w.line ≡ after_fault (look v.line)
    → w ≡ record v { line = w.line; relay = w.relay; unfed = w.unfed; is_lost = true } → LeadsBy look (may_pass v.is_behind) v w
loses_reading look v w none still h fault e = lost_passes look v.is_behind v w
    (by_relay look is_of_driver v w (Passed Lost) refl h refl refl refl refl (ap (λ (l : LineView). l.received) fault) (ap (λ (l : LineView). l.sent) fault)
    (still ∙ sym none) (ap (λ (x : DataLineState _). x.received) e) (ap (λ (x : DataLineState _). x.sent) e))

-- what goes out, and then passes, and passes again, passes
pub passes_in : {X : Type 0} (look : X → LineView) (u v w x : DataLineState X) → LeadsBy look (may_go u.is_behind) u v → LeadsBy look (may_pass v.is_behind) v w
    → LeadsBy look (may_pass w.is_behind) w x → v.is_behind ≡ u.is_behind → w.is_behind ≡ v.is_behind → LeadsBy look (may_pass u.is_behind) u x
passes_in look u v w x one two three e f =
    leads_then look (may_pass u.is_behind) u w x
    (leads_then look (may_pass u.is_behind) u v w (went_passes look u.is_behind u v one) (subst (λ (k : Bool). LeadsBy look (may_pass k) v w) e two))
    (subst (λ (k : Bool). LeadsBy look (may_pass k) w x) (f ∙ e) three)

-- ## Octets of the driver's

-- whether the driver is behind is no matter of the past
flag_leads : {X : Type 0} (look : X → LineView) (hops : List Hop) (v w : DataLineState X) (k : Bool) → Leads look hops (record v { is_behind = k }) w → Leads look hops v w
flag_leads look hops v w k on role n1 ds b past h = on role n1 ds b past (record { relay_fits = h.relay_fits; came = h.came; went = h.went; read_are = h.read_are; sent_are = h.sent_are })

-- hops of the driver's lead from a line whose driver is taken to be behind, and so from this one
pub writes_first : {X : Type 0} (look : X → LineView) (v w : DataLineState X) → LeadsBy look is_of_driver (record v { is_behind = true }) w → LeadsBy look is_of_driver v w
writes_first look v w h = record { hops = h.hops; only = h.only; leads = flag_leads look h.hops v w true h.leads }

takes_hop : {X : Type 0} (look : X → LineView) (v w : DataLineState X) (octets : List ℕ) → Hops v.relay w.relay (Took octets)
    → w.sent ≡ v.sent ++ octets → w ≡ record v { relay = w.relay; sent = w.sent; is_behind = w.is_behind } → Leads look (Took octets ∷ []) v w
unfolding Hops
takes_hop look v w octets h st e = lift look (Took octets ∷ []) v w [] h (ap (λ (x : DataLineState _). (look x.line).received) e ∙ sym (append-nil (look v.line).received))
    (append-nil v.unfed ∙ sym (ap (λ (x : DataLineState _). x.unfed) e))
    (ap (λ (x : DataLineState _). (look x.line).sent) e ∙ sym (append-nil (look v.line).sent))
    (ap (λ (x : DataLineState _). x.received) e ∙ sym (append-nil v.received)) st

takes_nothing : {X : Type 0} (look : X → LineView) (v w : DataLineState X) → w.relay ≡ v.relay
    → w.sent ≡ v.sent ++ [] → w ≡ record v { relay = w.relay; sent = w.sent; is_behind = w.is_behind } → Leads look [] v w
takes_nothing look v w q st e = lift look [] v w [] (λ role n1 ds past h. subst (λ (x : Relay). RelayFits role n1 ds x past) (sym q) h) (ap (λ (x : DataLineState _). (look x.line).received) e ∙ sym (append-nil (look v.line).received))
    (append-nil v.unfed ∙ sym (ap (λ (x : DataLineState _). x.unfed) e))
    (ap (λ (x : DataLineState _). (look x.line).sent) e ∙ sym (append-nil (look v.line).sent))
    (ap (λ (x : DataLineState _). x.received) e ∙ sym (append-nil v.received)) st

takes_these : {X : Type 0} (look : X → LineView) (v w : DataLineState X) (octets : List ℕ) → (octets ≡ [] → w.relay ≡ v.relay) → (octets ≢ [] → Hops v.relay w.relay (Took octets))
    → w.sent ≡ v.sent ++ octets → w ≡ record v { relay = w.relay; sent = w.sent; is_behind = w.is_behind } → TakesOn look octets v w
unfolding TakesOn
takes_these look v w [] none some st e = takes_nothing look v w (none refl) st e
takes_these look v w (o ∷ octets) none some st e = takes_hop look v w (o ∷ octets) (some (λ q. cc)) st e

take_none : (n : ℕ) (octets : List ℕ) → n ≤ length octets → take n octets ≡ [] → n ≡ 0
take_none zero octets few e = refl
take_none (suc n) [] few e = let no : ⊥ = omega (arith, few) in absurd no
take_none (suc n) (o ∷ octets) few e = cc

take_some : (n : ℕ) (octets : List ℕ) → take n octets ≢ [] → 0 < n
take_some zero octets some = absurd (some refl)
take_some (suc n) octets some = omega (arith)

-- the relay took the first of the octets that were offered, or none of them
pub takes_octets : {X : Type 0} (look : X → LineView) (v w : DataLineState X) (n : ℕ) (octets : List ℕ) → n ≤ length octets → (n ≡ 0 → w.relay ≡ v.relay) → (0 < n → Hops v.relay w.relay (Took (take n octets)))
    → w.sent ≡ v.sent ++ take n octets → w ≡ record v { relay = w.relay; sent = w.sent; is_behind = w.is_behind } → TakesOn look (take n octets) v w
takes_octets look v w n octets few none some st e = takes_these look v w (take n octets) (λ q. none (take_none n octets few q)) (λ q. some (take_some n octets q)) st e

-- what is of the driver goes out, its octets are taken, and then what may go out does
pub takes_by : {X : Type 0} (look : X → LineView) (u v w x : DataLineState X) (octets : List ℕ) → LeadsBy look is_of_driver u v → TakesOn look octets v w
    → LeadsBy look (may_go w.is_behind) w x → x.is_behind ≡ w.is_behind → TakesBy look octets u x
unfolding TakesOn
takes_by look u v w x octets one two three e = record {
  before = one.hops;
  after = three.hops;
  only_before = one.only;
  only_after = subst (λ (k : Bool). list_all (may_go k) three.hops ≡ true) (sym e) three.only;
  leads = λ role n1 ds b past h. three.leads role n1 ds b (with_taken octets (one.hops ++ past)) (two role n1 ds b (one.hops ++ past) (one.leads role n1 ds b past h));
}

-- ## Counts

counted_fits : {X : Type 0} (look : X → LineView) (role : Role) (n1 : ℕ) (ds : List ℕ) (b : Before) (past : List Hop) (u v : DataLineState X)
    → v ≡ record u { calls = v.calls; failures = v.failures; empty_reads = v.empty_reads; stalled_writes = v.stalled_writes }
    → LineFits look role n1 ds b u past → LineFits look role n1 ds b v past
counted_fits look role n1 ds b past u v e h =
    subst (λ (x : DataLineState _). LineFits look role n1 ds b x past) (sym e) (record { relay_fits = h.relay_fits; came = h.came; went = h.went; read_are = h.read_are; sent_are = h.sent_are })

-- only counts change
pub counted_leads : {X : Type 0} (look : X → LineView) (k : Hop → Bool) (u v : DataLineState X)
    → v ≡ record u { calls = v.calls; failures = v.failures; empty_reads = v.empty_reads; stalled_writes = v.stalled_writes } → LeadsBy look k u v
counted_leads look k u v e = record { hops = []; only = refl; leads = λ role n1 ds b past h. counted_fits look role n1 ds b past u v e h }

-- counted before and behind what leads on
pub counted_round : {X : Type 0} (look : X → LineView) (u v w x : DataLineState X)
    → v ≡ record u { calls = v.calls; failures = v.failures; empty_reads = v.empty_reads; stalled_writes = v.stalled_writes }
    → LeadsBy look (may_pass v.is_behind) v w
    → x ≡ record w { calls = x.calls; failures = x.failures; empty_reads = x.empty_reads; stalled_writes = x.stalled_writes } → LeadsBy look (may_pass u.is_behind) u x
counted_round look u v w x a h c =
    let k = may_pass u.is_behind in
    leads_then look k u w x (leads_then look k u v w (counted_leads look k u v a) (subst (λ (y : Bool). LeadsBy look (may_pass y) v w) (ap (λ (y : DataLineState _). y.is_behind) a) h)) (counted_leads look k w x c)

-- counted before and behind, octets are taken as without that
pub counted_takes : {X : Type 0} (look : X → LineView) (u v w x : DataLineState X) (octets : List ℕ)
    → v ≡ record u { calls = v.calls; failures = v.failures; empty_reads = v.empty_reads; stalled_writes = v.stalled_writes }
    → TakesBy look octets v w
    → x ≡ record w { calls = x.calls; failures = x.failures; empty_reads = x.empty_reads; stalled_writes = x.stalled_writes } → TakesBy look octets u x
counted_takes look u v w x octets a h c = record {
  before = h.before;
  after = h.after;
  only_before = h.only_before;
  only_after = subst (λ (k : Bool). list_all (may_go k) h.after ≡ true) (sym (ap (λ (y : DataLineState _). y.is_behind) c)) h.only_after;
  leads = λ role n1 ds b past f. counted_fits look role n1 ds b (h.after ++ with_taken octets (h.before ++ past)) w x c (h.leads role n1 ds b past (counted_fits look role n1 ds b past u v a f));
}

-- ## Calls of the lanes

-- a call of the lanes is one hop of the line
pub lanes_lead : {X : Type 0} (look : X → LineView) (v w : DataLineState X) (a : Pass) → Hops v.relay w.relay (Passed a) → w ≡ record v { relay = w.relay } → Leads look (Passed a ∷ []) v w
unfolding Hops
lanes_lead look v w a h e = lift_out look (Passed a ∷ []) v w h refl refl refl (ap (λ (x : DataLineState _). (look x.line).received) e)
    (ap (λ (x : DataLineState _). (look x.line).sent) e ∙ sym (append-nil (look v.line).sent))
    (ap (λ (x : DataLineState _). x.unfed) e) (ap (λ (x : DataLineState _). x.received) e) (ap (λ (x : DataLineState _). x.sent) e)
