-- What is kept of a connection's text, beside what was sent on it by both ends.
use Rattle.std.specs.Prelude.{◌≡◌, ℕ, ◌+◌, ◌≤◌, Bool, true, false, List, [], ◌∷◌, ◌++◌, refl}
use Rattle.std.specs.List.{list_any}
use Rattle.std.proofs.Common.{ap, append-nil, arith, sym, ◌∙◌}
use Rattle.mux_capture.specs.declared.packet.Direction.TheVariants.{ToModem, FromModem}
use Rattle.at_text.specs.Dialects.{Dialect}
use Rattle.at_text.specs.Lines.{kept_run, lines}
use Rattle.at_text.proofs.lines.UnfinishedLines.{reads_on}
use Rattle.modem_show.specs.Talking.{Talk, heard_each, is_unprompted, overlaps, silence, told_each, told_of, window_after}
use Rattle.modem_show.proofs.Hearing.{tells_lines}
use Rattle.show_laws.specs.Talks.{TellsApart, commands_in, finals_in}
use Rattle.show_laws.proofs.talks.CountedLines.{commands_go_on, finals_go_on}
use Rattle.show_laws.proofs.talks.ToldLines.{driver_says, is_asked, modem_says, under_way}

-- both unfinished lines, and how many commands are under way: those that aren't answered
pub record TextFits (dialect : Dialect) (t : Talk) (out back : List ℕ) : Type 0 where
  pub driver_run : t.driver ≡ kept_run out
  pub modem_run : t.modem ≡ kept_run back
  pub count : commands_in (lines out) ≡ finals_in dialect (lines back) + under_way t.window
  pub asked : is_asked t.window ≡ true

-- before anything was sent nothing is kept
pub silent_fits : (dialect : Dialect) → TextFits dialect silence [] []
silent_fits dialect = record { driver_run = refl; modem_run = refl; count = refl; asked = refl }

-- what fits fits the same texts
pub same_fits : (dialect : Dialect) (t u : Talk) (out out2 back back2 : List ℕ) → u ≡ t → out2 ≡ out → back2 ≡ back → TextFits dialect t out back → TextFits dialect u out2 back2
same_fits dialect t u out out2 back back2 e f g h = record {
  driver_run = ap (λ (x : Talk). x.driver) e ∙ (h.driver_run ∙ sym (ap kept_run f));
  modem_run = ap (λ (x : Talk). x.modem) e ∙ (h.modem_run ∙ sym (ap kept_run g));
  count =
      let a : commands_in (lines out2) ≡ commands_in (lines out) = ap (λ x. commands_in (lines x)) f in
      let b : finals_in dialect (lines back2) ≡ finals_in dialect (lines back) = ap (λ x. finals_in dialect (lines x)) g in
      let c : under_way u.window ≡ under_way t.window = ap (λ (x : Talk). under_way x.window) e in
      let k = h.count in
      omega (arith, a, b, c, k);
  asked = ap (λ (x : Talk). is_asked x.window) e ∙ h.asked;
}

-- what octets tell, and what is kept behind them
pub record Tells (dialect : Dialect) (none_overlaps none_unprompted : Bool) (t : Talk) (out back : List ℕ) : Type 0 where
  pub apart : none_overlaps ≡ false
  pub prompted : none_unprompted ≡ false
  pub fits : TextFits dialect t out back

-- where the driver's octets end no more than one command line beyond the final codes, no command overlaps, and what is kept fits
pub driver_text : (dialect : Dialect) (t : Talk) (out back x : List ℕ) → TextFits dialect t out back → commands_in (lines (out ++ x)) ≤ finals_in dialect (lines back) + 1
    → Tells dialect (list_any overlaps (told_each dialect ToModem t x)) (list_any (is_unprompted dialect) (told_each dialect ToModem t x)) (heard_each dialect ToModem t x) (out ++ x) back
driver_text dialect t out back [] h few = record { apart = refl; prompted = refl; fits = same_fits dialect t t out (out ++ []) back back refl (append-nil out) refl h }
driver_text dialect t out back (c ∷ x) h few =
    let e = tells_lines reads_on dialect ToModem t c x in
    let ls = lines (kept_run out ++ c ∷ x) in
    let same : lines (t.driver ++ c ∷ x) ≡ ls = ap (λ r. lines (r ++ c ∷ x)) h.driver_run in
    let more = commands_go_on out (c ∷ x) in
    let now = h.count in
    let says = driver_says dialect t.window (lines (kept_run out ++ c ∷ x)) (omega (arith, few, more, now)) h.asked in
    let told = e.told_at_once ∙ ap (told_of dialect ToModem t.window) same in
    let behind : window_after dialect ToModem t.window (lines (t.driver ++ c ∷ x)) ≡ window_after dialect ToModem t.window ls = ap (window_after dialect ToModem t.window) same in
    let w : under_way (heard_each dialect ToModem t (c ∷ x)).window ≡ under_way (window_after dialect ToModem t.window ls) = ap (λ (u : Talk). under_way u.window) e.heard_at_once ∙ ap under_way behind in
    let n = says.count in
    record {
      apart = ap (list_any overlaps) told ∙ says.apart;
      prompted = ap (list_any (is_unprompted dialect)) told ∙ says.prompted;
      fits =
          record {
            driver_run = ap (λ (u : Talk). u.driver) e.heard_at_once ∙ (ap (λ r. kept_run (r ++ c ∷ x)) h.driver_run ∙ sym (reads_on out (c ∷ x)).keeps);
            modem_run = ap (λ (u : Talk). u.modem) e.heard_at_once ∙ h.modem_run;
            count = omega (arith, more, now, w, n);
            asked = ap (λ (u : Talk). is_asked u.window) e.heard_at_once ∙ (ap is_asked behind ∙ says.asked);
          };
    }

-- where the modem's end no more final codes than there are command lines, each answers one, and what is kept fits
pub modem_text : (dialect : Dialect) (t : Talk) (out back x : List ℕ) → TellsApart dialect → TextFits dialect t out back → finals_in dialect (lines (back ++ x)) ≤ commands_in (lines out)
    → Tells dialect (list_any overlaps (told_each dialect FromModem t x)) (list_any (is_unprompted dialect) (told_each dialect FromModem t x)) (heard_each dialect FromModem t x) out (back ++ x)
modem_text dialect t out back [] apart h few = record { apart = refl; prompted = refl; fits = same_fits dialect t t out out back (back ++ []) refl refl (append-nil back) h }
modem_text dialect t out back (c ∷ x) apart h few =
    let e = tells_lines reads_on dialect FromModem t c x in
    let ls = lines (kept_run back ++ c ∷ x) in
    let same : lines (t.modem ++ c ∷ x) ≡ ls = ap (λ r. lines (r ++ c ∷ x)) h.modem_run in
    let more = finals_go_on dialect back (c ∷ x) in
    let now = h.count in
    let says = modem_says dialect t.window (lines (kept_run back ++ c ∷ x)) apart (omega (arith, few, more, now)) h.asked in
    let told = e.told_at_once ∙ ap (told_of dialect FromModem t.window) same in
    let behind : window_after dialect FromModem t.window (lines (t.modem ++ c ∷ x)) ≡ window_after dialect FromModem t.window ls = ap (window_after dialect FromModem t.window) same in
    let w : under_way (heard_each dialect FromModem t (c ∷ x)).window ≡ under_way (window_after dialect FromModem t.window ls) = ap (λ (u : Talk). under_way u.window) e.heard_at_once ∙ ap under_way behind in
    let n = says.count in
    record {
      apart = ap (list_any overlaps) told ∙ says.apart;
      prompted = ap (list_any (is_unprompted dialect)) told ∙ says.prompted;
      fits =
          record {
            driver_run = ap (λ (u : Talk). u.driver) e.heard_at_once ∙ h.driver_run;
            modem_run = ap (λ (u : Talk). u.modem) e.heard_at_once ∙ (ap (λ r. kept_run (r ++ c ∷ x)) h.modem_run ∙ sym (reads_on back (c ∷ x)).keeps);
            count = omega (arith, more, now, w, n);
            asked = ap (λ (u : Talk). is_asked u.window) e.heard_at_once ∙ (ap is_asked behind ∙ says.asked);
          };
    }
