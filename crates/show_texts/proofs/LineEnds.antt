-- What is printed at the end.
use Rattle.std.specs.Prelude.{◌≡◌, ℕ, suc, ◌+◌, ◌<◌, ◌||◌, not, Bool, false, List, [], ◌++◌, is_some, refl}
use Rattle.std.proofs.Common.{ap, sym, ◌∙◌, arith, append_assoc, append-nil}
use Rattle.std.specs.List.{flat_map, list_any}
use Rattle.at_text.specs.Rules.{dialect_of}
use Rattle.mux_capture.specs.Passing.{Caught}
use Rattle.mux_capture.specs.declared.packet.Direction.TheVariants.{ToModem, FromModem}
use Rattle.modem_show.specs.Asking.{Ask, waiting}
use Rattle.modem_show.specs.Judging.{WatchFits}
use Rattle.modem_show.specs.Talking.{Talks, TalksFit, talk_of}
use Rattle.modem_show.specs.Ways.{sender}
use Rattle.show_texts.specs.declared.tally.Tally.{Tally}
use Rattle.show_texts.specs.Telling.{AreClosed, Closes, Setting, Teller, are_wrong_items, connection_by, connection_text, connections_text, frames_of, is_unfinished_on, items_text, setting_of, some_unanswered, some_unfinished, tally_at, tally_of, unanswered_line, unanswered_text}

one_more : (n : ℕ) → n + 1 ≡ suc n
one_more n = omega arith

no_connection : (s : Setting) (line : List Caught) → connections_text s line 0 ≡ []
unfolding connections_text
no_connection s line = refl

one_connection : (s : Setting) (line : List Caught) (n : ℕ)
    → connections_text s line n ++ connection_text s line n ≡ connections_text s line (suc n)
unfolding connections_text
one_connection s line n = refl

none_unfinished : (s : Setting) (line : List Caught) → some_unfinished s line 0 ≡ false
unfolding some_unfinished
none_unfinished s line = refl

one_unfinished : (s : Setting) (line : List Caught) (n : ℕ)
    → (some_unfinished s line n || is_unfinished_on s n line) ≡ some_unfinished s line (suc n)
unfolding some_unfinished
one_unfinished s line n = refl

-- no connection yet
pub none_closed : (talks : Talks) (ts : List Tally) (text : List ℕ) (count : ℕ) → count ≡ 0 → AreClosed talks ts text text false count
none_closed talks ts text count e = rw e (record {
  text = λ n1 line h k.
      let s : Setting = record { n1 = n1; rules = talks.rules; data_channels = talks.data_channels } in
      sym (ap (λ (x : List ℕ). text ++ x) (no_connection s line) ∙ append-nil text);
  some_is = λ n1 line h.
      let s : Setting = record { n1 = n1; rules = talks.rules; data_channels = talks.data_channels } in
      sym (none_unfinished s line);
})

-- and one more
pub more_closed : (talks : Talks) (ts : List Tally) (before text after : List ℕ) (some unfinished : Bool) (count d : ℕ) (t : Tally)
    → AreClosed talks ts before text some count → d ≡ count → count < 62
    → ((line : List Caught) → TalksFit talks line → unfinished ≡ is_some (talk_of (dialect_of talks.rules) talks.data_channels d line).window)
    → t ≡ tally_at ts d
    → after ≡ text ++ connection_by unfinished d t
    → AreClosed talks ts before after (some || unfinished) (count + 1)
more_closed talks ts before text after some unfinished count d t h e l u k a = rw (one_more count) (record {
  text = λ n1 line fits counted.
      let s : Setting = record { n1 = n1; rules = talks.rules; data_channels = talks.data_channels } in
      a
      ∙ (ap (λ (x : List ℕ). x ++ connection_by unfinished d t) (h.text n1 line fits counted)
      ∙ (append_assoc before (connections_text s line count) (connection_by unfinished d t)
      ∙ (ap (λ (b : Bool). before ++ (connections_text s line count ++ connection_by b d t)) (u line fits)
      ∙ (ap (λ (x : Tally). before ++ (connections_text s line count ++ connection_by (is_unfinished_on s d line) d x)) (k ∙ (ap (λ (n : ℕ). tally_at ts n) e ∙ (counted.each count l ∙ ap (λ (n : ℕ). tally_of s n line) (sym e))))
      ∙ (ap (λ (n : ℕ). before ++ (connections_text s line count ++ connection_text s line n)) e
      ∙ ap (λ (x : List ℕ). before ++ x) (one_connection s line count))))));
  some_is = λ n1 line fits.
      let s : Setting = record { n1 = n1; rules = talks.rules; data_channels = talks.data_channels } in
      ap (λ (b : Bool). b || unfinished) (h.some_is n1 line fits)
      ∙ (ap (λ (b : Bool). some_unfinished s line count || b) (u line fits)
      ∙ (ap (λ (n : ℕ). some_unfinished s line count || is_unfinished_on s n line) e ∙ one_unfinished s line count));
})

-- all of the end
pub all_closed : (old new : Teller) (to from to2 from2 : List Ask) (x y z : List ℕ) (a b c : Bool)
    → ((line : List Caught) → WatchFits old.watch line → to ≡ waiting (sender ToModem) line)
    → ((line : List Caught) → WatchFits old.watch line → from ≡ waiting (sender FromModem) line)
    → ((line : List Caught) → WatchFits old.watch line → to2 ≡ waiting (sender ToModem) line)
    → ((line : List Caught) → WatchFits old.watch line → from2 ≡ waiting (sender FromModem) line)
    → x ≡ old.text ++ flat_map (unanswered_line ToModem) to
    → y ≡ x ++ flat_map (unanswered_line FromModem) from
    → AreClosed old.talks old.tallies y z c 62
    → a ≡ list_any (λ k. not k.is_excused) to2 → b ≡ list_any (λ k. not k.is_excused) from2
    → new.text ≡ z → new.is_wrong ≡ (old.is_wrong || (a || (b || c)))
    → Closes old new
all_closed old new to from to2 from2 x y z a b c hto hfrom hto2 hfrom2 ex ey h ea eb et ew = record {
  text = λ written items fits.
      let line = frames_of items in
      let s = setting_of old in
      sym (ap (λ (l : List ℕ). written ++ l)
      (et
      ∙ (h.text old.watch.n1 line fits.talks (record { each = fits.tallies })
      ∙ ap (λ (l : List ℕ). l ++ connections_text s line 62)
      (ey
      ∙ (ap (λ (l : List ℕ). l ++ flat_map (unanswered_line FromModem) from) (ex ∙ ap (λ (k : List Ask). old.text ++ flat_map (unanswered_line ToModem) k) (hto line fits.watch))
      ∙ ap (λ (k : List Ask). (old.text ++ unanswered_text ToModem line) ++ flat_map (unanswered_line FromModem) k) (hfrom line fits.watch)))))
      ∙ regrouped written old.text (items_text s items) (unanswered_text ToModem line) (unanswered_text FromModem line) (connections_text s line 62) fits.text);
  is_wrong = λ written items fits.
      let line = frames_of items in
      let s = setting_of old in
      ew
      ∙ (ap (λ (w : Bool). w || (a || (b || c))) fits.is_wrong
      ∙ (ap (λ (w : Bool). are_wrong_items s items || (w || (b || c))) (ea ∙ ap (λ (k : List Ask). list_any (λ (q : Ask). not q.is_excused) k) (hto2 line fits.watch))
      ∙ (ap (λ (w : Bool). are_wrong_items s items || (some_unanswered ToModem line || (w || c))) (eb ∙ ap (λ (k : List Ask). list_any (λ (q : Ask). not q.is_excused) k) (hfrom2 line fits.watch))
      ∙ ap (λ (w : Bool). are_wrong_items s items || (some_unanswered ToModem line || (some_unanswered FromModem line || w))) (h.some_is old.watch.n1 line fits.talks))));
}
  where
    regrouped : (w t i p q r : List ℕ) → i ≡ w ++ t → w ++ (((t ++ p) ++ q) ++ r) ≡ i ++ ((p ++ q) ++ r)
    regrouped w t i p q r e =
        rw e
        (ap (λ (l : List ℕ). w ++ l) (ap (λ (l : List ℕ). l ++ r) (append_assoc t p q) ∙ append_assoc t (p ++ q) r) ∙ sym (append_assoc w t ((p ++ q) ++ r)))
