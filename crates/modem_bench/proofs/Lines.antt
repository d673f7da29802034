-- The two ends of a line between threads.
use Rattle.std.specs.Prelude.{◌≡◌, ℕ, List, [], ◌∷◌, ◌++◌, Some, refl}
use Rattle.std.proofs.Common.{ap, sym, ◌∙◌}
use Rattle.modem_history.specs.Wholes.{IsPrefixOf}
use Rattle.serial_line.specs.OtherSide.{AreOpposite, LineRings}
use Rattle.serial_line.specs.ThreadLine.{AreEnds, EndState, thread_side, thread_view}
use Rattle.modem_bench.specs.Lines.{AreConnected, RightConnections, WrongConnections}

same_rings : (a b : LineRings) → Some a ≡ Some b → a ≡ b
same_rings a b e = cc

abbrev rings : EndState → LineRings
rings e = record { incoming = e.incoming; outgoing = e.outgoing }

-- the two ends of one line show opposite sides
pub opposite : (near far : EndState) → AreEnds near far → AreOpposite (thread_side near) (thread_side far)
opposite near far ends = record { near = rings near; far = rings far; near_is = refl; far_is = refl; there = ends.there; back = ends.back }

-- what shows opposite sides are the two ends of one line
pub ends_of : (near far : EndState) → AreOpposite (thread_side near) (thread_side far) → AreEnds near far
ends_of near far o =
    let n : rings near ≡ o.near = same_rings (rings near) o.near o.near_is in
    let f : rings far ≡ o.far = same_rings (rings far) o.far o.far_is in
    record {
      there = ap (λ (r : LineRings). r.outgoing) n ∙ o.there ∙ sym (ap (λ (r : LineRings). r.incoming) f);
      back = ap (λ (r : LineRings). r.outgoing) f ∙ o.back ∙ sym (ap (λ (r : LineRings). r.incoming) n);
    }

-- after a look from each end they are still the two ends of one line
pub ends_back : (near far near1 far1 : EndState) → AreEnds near far → near1 ≡ record near { free = near1.free } → far1 ≡ record far { seen = far1.seen } → AreEnds far1 near1
ends_back near far near1 far1 ends n f = record {
  there = ap (λ (e : EndState). e.outgoing) f ∙ ends.back ∙ sym (ap (λ (e : EndState). e.incoming) n);
  back = ap (λ (e : EndState). e.outgoing) n ∙ ends.there ∙ sym (ap (λ (e : EndState). e.incoming) f);
}

-- by both looks each end received the first of what the other sent
pub connected : (near far near1 far1 near2 far2 : EndState)
    → near1 ≡ record near { free = near1.free } → far1 ≡ record far { seen = far1.seen } → near1.sent ≡ far1.received ++ far1.seen
    → far2 ≡ record far1 { free = far2.free } → near2 ≡ record near1 { seen = near2.seen } → far2.sent ≡ near2.received ++ near2.seen
    → AreConnected (thread_view near) (thread_view far)
connected near far near1 far1 near2 far2 n1 f1 there f2 n2 back =
    let sent : far2.sent ≡ far.sent = ap (λ (e : EndState). e.sent) f2 ∙ ap (λ (e : EndState). e.sent) f1 in
    let received : near2.received ≡ near.received = ap (λ (e : EndState). e.received) n2 ∙ ap (λ (e : EndState). e.received) n1 in
    record {
      to_far = record {
        rest = far1.seen;
        joins = ap (λ (xs : List ℕ). xs ++ far1.seen) (sym (ap (λ (e : EndState). e.received) f1)) ∙ sym there ∙ ap (λ (e : EndState). e.sent) n1;
      };
      to_near = record {
        rest = near2.seen;
        joins = ap (λ (xs : List ℕ). xs ++ near2.seen) (sym received) ∙ sym back ∙ sent;
      };
    }

-- ## Worked ends

-- octets under way, and none that were not sent
pub right_connections : RightConnections
right_connections =
    let none : IsPrefixOf {A = ℕ} [] [] = record { rest = []; joins = refl } in
    record {
      unused = record { to_far = none; to_near = none };
      none_came = record { to_far = record { rest = 1 ∷ 2 ∷ 3 ∷ []; joins = refl }; to_near = none };
      two_came = record { to_far = record { rest = 3 ∷ []; joins = refl }; to_near = none };
      all_came = record { to_far = record { rest = []; joins = refl }; to_near = none };
      two_back = record { to_far = none; to_near = record { rest = 3 ∷ []; joins = refl } };
    }

too_many : (rest : List ℕ) → (1 ∷ 2 ∷ 3 ∷ 4 ∷ []) ++ rest ≡ 1 ∷ 2 ∷ 3 ∷ [] → ⊥
too_many rest e = cc

one_left_out : (rest : List ℕ) → (1 ∷ 3 ∷ []) ++ rest ≡ 1 ∷ 2 ∷ 3 ∷ [] → ⊥
one_left_out rest e = cc

one_overtaken : (rest : List ℕ) → (2 ∷ 1 ∷ []) ++ rest ≡ 1 ∷ 2 ∷ 3 ∷ [] → ⊥
one_overtaken rest e = cc

from_nothing : (rest : List ℕ) → (1 ∷ []) ++ rest ≡ [] → ⊥
from_nothing rest e = cc

-- nothing that wasn't sent, and nothing left out or overtaken
pub wrong_connections : WrongConnections
wrong_connections = record {
  stray = λ c. too_many c.to_far.rest c.to_far.joins;
  left_out = λ c. one_left_out c.to_far.rest c.to_far.joins;
  overtaken = λ c. one_overtaken c.to_far.rest c.to_far.joins;
  stray_back = λ c. too_many c.to_near.rest c.to_near.joins;
  its_own = λ c. from_nothing c.to_near.rest c.to_near.joins;
}
