-- A text begins, and goes out part by part.
use Rattle.std.specs.Prelude.{◌≡◌, ℕ, ◌+◌, ◌-◌, ◌≤◌, Bool, true, false, List, [], ◌++◌, length, take, drop, refl, if◌then◌else◌}
use Rattle.std.proofs.Common.{inl, inr, ⊎_elim, true≢false, ap, sym, ◌∙◌, subst, arith, append_assoc, append-nil}
use Rattle.std.proofs.Math.Seq.{take-add}
use Rattle.std.proofs.lemmas.List.{length-drop, length-take}
use Rattle.modem_history.specs.Sessions.{LineView}
use Rattle.modem_driver.specs.EndpointSteps.{with_sent}
use Rattle.modem_driver.specs.EntrySteps.{EntryView, IsAsked}
use Rattle.modem_c.specs.Entries.{EntriesBegin, EntriesGive, EntryState}

-- of a text that begins nothing was given, and nothing was read behind it
pub begins : EntriesBegin
unfolding EntriesBegin
begins l text = record {
  few = omega arith;
  sent_are = sym (append-nil l.sent);
  read = [];
  read_are = sym (append-nil l.received);
  in_turn = inl refl;
  kept = refl;
  none = refl;
}

few_left : (text octets : List ℕ) (written : ℕ) → octets ≡ take (length octets) (drop written text) → length octets ≤ length text - written
few_left text octets written is =
    let n = length octets in
    let a = ap (λ (xs : List ℕ). length xs) is in
    let b = length-take n (drop written text) in
    let c = length-drop written text in
    omega (arith, a, b, c)

given : (first l : LineView) (was : EntryView) (octets : List ℕ) → octets ≡ take (length octets) (drop was.written was.text) → IsAsked first l was
    → IsAsked first (with_sent l octets) (record was { written = was.written + length octets })
given first l was octets is h =
    let fits = few_left was.text octets was.written is in
    let few = h.few in
    let n = length octets in
    record {
      few = omega (arith, fits, few);
      sent_are =
          ap (λ (x : List ℕ). l.sent ++ x) is ∙ ap (λ (x : List ℕ). x ++ take n (drop was.written was.text)) h.sent_are
          ∙ append_assoc first.sent (take was.written was.text) (take n (drop was.written was.text))
          ∙ ap (λ (x : List ℕ). first.sent ++ x) (sym (take-add was.written n was.text));
      read = h.read;
      read_are = h.read_are;
      in_turn = ⊎_elim (λ (q : h.read ≡ []). inl q) (λ (q : was.written ≡ length was.text). inr (omega (arith, fits, q))) h.in_turn;
      kept = h.kept;
      none = h.none;
    }

gives_by : (b : Bool) (first l : LineView) (e f : EntryState) (octets : List ℕ) → b ≡ false
    → octets ≡ take (length octets) (drop (if b then e.closing else e.asking).written (if b then e.closing else e.asking).text)
    → f ≡ (if b
    then record e { closing = record e.closing { written = e.closing.written + length octets } }
    else record e { asking = record e.asking { written = e.asking.written + length octets } })
    → IsAsked first l e.asking → IsAsked first (with_sent l octets) f.asking
gives_by true first l e f octets is out goes h = absurd (true≢false is)
gives_by false first l e f octets is out goes h =
    subst (λ (g : EntryState). IsAsked first (with_sent l octets) g.asking) (sym goes) (given first l e.asking octets out h)

-- what was given of it more went to the line behind what was given before
pub gives : EntriesGive
unfolding EntriesGive
gives first l e f octets h is asked = gives_by e.is_closing first l e f octets is h.0 h.1 asked
