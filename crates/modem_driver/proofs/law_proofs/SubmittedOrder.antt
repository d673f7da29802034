-- The commands accepted on a connection since it opened are those of a stretch of what was taken.
use Rattle.std.proofs.Common.{ap, sym, ◌∙◌}
use Rattle.std.proofs.lemmas.Bool.{lt-ltb}
use Rattle.std.proofs.lemmas.List.{append-nil, append_assoc}
use Rattle.std.proofs.lemmas.List.Elements.{filter-append}
use Rattle.std.specs.Prelude.{◌≡◌, ℕ, ◌&&◌, ◌||◌, nat_lt, Bool, true, false, List, [], ◌∷◌, ◌++◌, length, refl, if◌then◌else◌}
use Rattle.mux_station.specs.Acts as station
use Rattle.mux_station.specs.Opening.{is_open, opens_now}
use Rattle.mux_station.proofs.states.OpeningSteps.{is_open_after}
use Rattle.mux_station.specs.declared.role.Role.TheVariants.{Initiator}
use Rattle.modem_desk.specs.declared.request.Request.{Request}
use Rattle.modem_history.specs.Acts.{Act, Took, Got, Sent, Told, Heard, Tick, Lost, Held, Freed, Given, wire, in_hand}
use Rattle.modem_history.specs.Information.{accepted, is_accepted, command_on}
use Rattle.modem_history.specs.Sessions.{TakesWithRoom}
use Rattle.modem_history.specs.Wholes.{taken_requests, commands_for}

-- the stretch of what was taken, from the opening of d to its end
pub record Stretch (d : ℕ) (past : List Act) : Type 0 where
  pub before : List Request
  pub stretch : List Request
  pub later : List Request
  pub taken_are : taken_requests past ≡ before ++ (stretch ++ later)
  pub commands : accepted Initiator d past ≡ commands_for d stretch
  pub lasts : is_open Initiator d (wire past) ≡ true → later ≡ []

never : false ≡ true → {A : Type 0} → A
never e = cc

-- what is open after an act that didn't open it was open before it
still_open : (opened is ended : Bool) → opened ≡ false → (opened || (is && ended)) ≡ true → is ≡ true
still_open true is ended e h = cc
still_open false true ended e h = refl
still_open false false ended e h = cc

-- an act that doesn't take a request, where it opens d or not
by_opening : (d : ℕ) (past newer : List Act) (opened : Bool) → taken_requests newer ≡ taken_requests past → accepted Initiator d newer ≡ (if opened then [] else accepted Initiator d past)
    → (opened ≡ false → is_open Initiator d (wire newer) ≡ true → is_open Initiator d (wire past) ≡ true) → Stretch d past → Stretch d newer
by_opening d past newer true t a o k =
    record { before = taken_requests past; stretch = []; later = []; taken_are = t ∙ sym (append-nil (taken_requests past)); commands = a; lasts = λ h. refl }
by_opening d past newer false t a o k =
    record { before = k.before; stretch = k.stretch; later = k.later; taken_are = t ∙ k.taken_are; commands = a ∙ k.commands; lasts = λ h. k.lasts (o refl h) }

-- an act of the wire
on_wire : (d : ℕ) (past newer : List Act) (a : station.Act) → wire newer ≡ a ∷ wire past → taken_requests newer ≡ taken_requests past
    → accepted Initiator d newer ≡ (if opens_now Initiator d (wire past) a then [] else accepted Initiator d past) → Stretch d past → Stretch d newer
on_wire d past newer a w t e k =
    by_opening d past newer (opens_now Initiator d (wire past) a) t e
    (λ shut h. still_open (opens_now Initiator d (wire past) a) (is_open Initiator d (wire past)) _ shut (sym (ap (is_open Initiator d) w ∙ is_open_after Initiator d (wire past) a) ∙ h))
    k

commands_more : (d : ℕ) (xs : List Request) (q : Request) (b : Bool) → command_on d q.ask ≡ b → commands_for d (xs ++ q ∷ []) ≡ (if b then commands_for d xs ++ q ∷ [] else commands_for d xs)
commands_more d xs q true e = filter-append (λ (r : Request). command_on d r.ask) xs (q ∷ []) ∙ ap (λ (b : Bool). commands_for d xs ++ (if b then q ∷ [] else [])) e
commands_more d xs q false e =
    filter-append (λ (r : Request). command_on d r.ask) xs (q ∷ []) ∙ (ap (λ (b : Bool). commands_for d xs ++ (if b then q ∷ [] else [])) e ∙ append-nil (commands_for d xs))

-- a request is taken
took : (d : ℕ) (past : List Act) (q : Request) (is command room : Bool) → is_open Initiator d (wire past) ≡ is → command_on d q.ask ≡ command → nat_lt (length (in_hand past)) 128 ≡ room → room ≡ true
    → Stretch d past → Stretch d (Took q ∷ past)
took d past q is command false o c r small k = never small
took d past q false command true o c r small k = record {
  before = k.before;
  stretch = k.stretch;
  later = k.later ++ q ∷ [];
  taken_are =
      ap (λ (qs : List Request). qs ++ q ∷ []) k.taken_are
      ∙ (append_assoc k.before (k.stretch ++ k.later) (q ∷ []) ∙ ap (λ (qs : List Request). k.before ++ qs) (append_assoc k.stretch k.later (q ∷ [])));
  commands = ap (λ (b : Bool). if b && (command_on d q.ask && nat_lt (length (in_hand past)) 128) then accepted Initiator d past ++ q ∷ [] else accepted Initiator d past) o ∙ k.commands;
  lasts = λ h. never (sym o ∙ h);
}
took d past q true command true o c r small k =
    let none : k.later ≡ [] = k.lasts o in
    let accepts : is_accepted Initiator d past q ≡ command =
    ap (λ (b : Bool). b && (command_on d q.ask && nat_lt (length (in_hand past)) 128)) o ∙ (ap (λ (b : Bool). command_on d q.ask && b) r ∙ (and_true (command_on d q.ask) ∙ c)) in
    record {
      before = k.before;
      stretch = k.stretch ++ q ∷ [];
      later = [];
      taken_are =
          ap (λ (qs : List Request). qs ++ q ∷ []) (k.taken_are ∙ ap (λ (qs : List Request). k.before ++ (k.stretch ++ qs)) none)
          ∙ (append_assoc k.before (k.stretch ++ []) (q ∷ [])
          ∙ ap (λ (qs : List Request). k.before ++ qs) (append_assoc k.stretch [] (q ∷ []) ∙ sym (append-nil (k.stretch ++ q ∷ []))));
      commands =
          ap (λ (b : Bool). if b then accepted Initiator d past ++ q ∷ [] else accepted Initiator d past) accepts
          ∙ (ap (λ (qs : List Request). if command then qs ++ q ∷ [] else qs) k.commands ∙ sym (commands_more d k.stretch q command c));
      lasts = λ h. refl;
    }
  where
    and_true : (b : Bool) → (b && true) ≡ b
    and_true true = refl
    and_true false = refl

-- where each request was taken with room there is such a stretch
pub stretch_of : (d : ℕ) (past : List Act) → TakesWithRoom past → Stretch d past
stretch_of d [] room = record { before = []; stretch = []; later = []; taken_are = refl; commands = refl; lasts = λ h. refl }
stretch_of d (Took q ∷ past) room = took d past q (is_open Initiator d (wire past)) (command_on d q.ask) (nat_lt (length (in_hand past)) 128) refl refl refl (lt-ltb _ _ room.0) (stretch_of d past room.1)
stretch_of d (Got f ∷ past) room = on_wire d past (Got f ∷ past) (station.Got f) refl refl refl (stretch_of d past room)
stretch_of d (Sent f ∷ past) room = on_wire d past (Sent f ∷ past) (station.Sent f) refl refl refl (stretch_of d past room)
stretch_of d (Tick ∷ past) room = on_wire d past (Tick ∷ past) station.Tick refl refl refl (stretch_of d past room)
stretch_of d (Lost ∷ past) room = on_wire d past (Lost ∷ past) station.Lost refl refl refl (stretch_of d past room)
stretch_of d (Given ∷ past) room = on_wire d past (Given ∷ past) station.Given refl refl refl (stretch_of d past room)
stretch_of d (Told o ∷ past) room = by_opening d past (Told o ∷ past) false refl refl (λ shut h. h) (stretch_of d past room)
stretch_of d (Heard kind e line ∷ past) room = by_opening d past (Heard kind e line ∷ past) false refl refl (λ shut h. h) (stretch_of d past room)
stretch_of d (Held e ∷ past) room = by_opening d past (Held e ∷ past) false refl refl (λ shut h. h) (stretch_of d past room)
stretch_of d (Freed e ∷ past) room = by_opening d past (Freed e ∷ past) false refl refl (λ shut h. h) (stretch_of d past room)
