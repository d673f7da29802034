-- What a frame that comes makes of what is kept of a connection.
use Rattle.std.specs.Prelude.{◌≡◌, ℕ, ◌+◌, ◌==◌, ◌&&◌, ◌||◌, not, nat_lt, Bool, true, false, List, [], ◌∷◌, ◌++◌, length, map, Option, Some, None, refl, if◌then◌else◌}
use Rattle.std.proofs.Common.{arith, sym, ap, ◌∙◌, subst, append_assoc, append-nil}
use Rattle.std.proofs.lemmas.Bool.Decides.{nat_tests}
use Rattle.std.proofs.lemmas.List.{length-append, length-map, map-append}
use Rattle.mux_frame.specs.Frames.{Frame}
use Rattle.mux_station.specs.declared.role.Role.TheVariants.{Responder}
use Rattle.mux_station.specs.Acts as station
use Rattle.mux_station.specs.Opening.{opens_now, belongs, since, since_after}
use Rattle.mux_station.proofs.states.OpeningSteps.{is_open_after}
use Rattle.mux_station.specs.Offering.{octets_offered, joined_octets}
use Rattle.mux_frame.specs.declared.frame.Kind.TheVariants.{Uih}
use Rattle.mux_station.specs.Written.{is_data_frame, is_kind}
use Rattle.at_text.specs.Lines.{kept_run}
use Rattle.at_text.proofs.lines.UnfinishedLines.{reads_on}
use Rattle.modem_history.specs.Connections.{carries, info_got, info_of, unfinished_on, lines_ended, lines_with}
use Rattle.modem_sim.specs.Laws.{after_lines}
use Rattle.modem_sim.specs.Acts.{Act, Wire, End, wire, is_open_at_modem}
use Rattle.modem_sim.specs.Heard.{heard, texts_of, texts_with, modem_after}
use Rattle.modem_sim.specs.Pieces.{Piece, pieces_octets, replies}
use Rattle.modem_sim.specs.Outboxes.{Outbox, any_call, calls_after, empty_box, in_call, outbox, said_after, dropped, say, replies_by, hold_on, lasts, is_empty, is_holding}
use Rattle.modem_sim.specs.Boxes.{Box, Waited, BoxFits, FitsOpen, Brought, lasting, said_with, box_turned, hold_heard, box_heard}
use Rattle.modem_sim.proofs.law_proofs.Histories.{spelled-append}
use Rattle.modem_sim.proofs.connections.OctetReplies.{after_lines-append, kept_again, or_none}

-- ## The modem and the count of lines

-- the modem after a frame that comes
pub modem_goes_on : (e : End) (past : List Act) (f : Frame) → modem_after e (Wire (station.Got f) ∷ past) ≡ after_lines (modem_after e past) (texts_with past f)
modem_goes_on e past f =
    ap (after_lines e.modem) (map-append (λ (p : ℕ × List ℕ). p.1) (heard past) (lines_with Responder (wire past) f))
    ∙ after_lines-append e.modem (texts_of (heard past)) (texts_with past f)

-- and the lines that have come
pub count_goes_on : (past : List Act) (f : Frame) → length (heard (Wire (station.Got f) ∷ past)) ≡ length (heard past) + length (texts_with past f)
count_goes_on past f =
    let ls = lines_with Responder (wire past) f in
    length-append (heard past) ls ∙ ap (λ n. length (heard past) + n) (sym (length-map ls (λ (p : ℕ × List ℕ). p.1)))

-- ## The lines of a frame

same_connection : (m n : ℕ) → (m == n) ≡ true → m ≡ n
same_connection m n is = grind (arith, nat_tests)

-- information on d is that of a frame of data there
pub carries_data : (d : ℕ) (f : Frame) → carries d f ≡ (is_data_frame f && (f.dlci == d))
carries_data d f = by_here (f.dlci == d) refl
  where
    turned : (k z : Bool) → (not z && (k && true)) ≡ ((k && not z) && true)
    turned true true = refl
    turned true false = refl
    turned false true = refl
    turned false false = refl

    none : (k z y : Bool) → (not z && (k && false)) ≡ ((k && not y) && false)
    none true true true = refl
    none true true false = refl
    none true false true = refl
    none true false false = refl
    none false true y = refl
    none false false y = refl

    by_here : (here : Bool) → (f.dlci == d) ≡ here → carries d f ≡ (is_data_frame f && (f.dlci == d))
    by_here true is =
        let k = is_kind f.kind Uih in
        let same = same_connection f.dlci d is in
        ap (λ (b : Bool). not (d == 0) && (k && b)) is
        ∙ turned k (d == 0)
        ∙ ap (λ (n : ℕ). (k && not (n == 0)) && true) (sym same)
        ∙ ap (λ (b : Bool). is_data_frame f && b) (sym is)
    by_here false is =
        let k = is_kind f.kind Uih in
        ap (λ (b : Bool). not (d == 0) && (k && b)) is ∙ none k (d == 0) (f.dlci == 0) ∙ ap (λ (b : Bool). is_data_frame f && b) (sym is)

-- a frame of data carries its own information
carries_own : (f : Frame) → carries f.dlci f ≡ is_data_frame f
carries_own f = carries_data f.dlci f ∙ ap (λ (b : Bool). is_data_frame f && b) (grind (arith, nat_tests)) ∙ alone (is_data_frame f)
  where
    alone : (b : Bool) → (b && true) ≡ b
    alone true = refl
    alone false = refl

texts_at : (d : ℕ) (b : Bool) (ls : List (List ℕ)) → texts_of (if b then map (λ l. (d, l)) ls else []) ≡ (if b then ls else [])
texts_at d false ls = refl
texts_at d true [] = refl
texts_at d true (l ∷ ls) = ap (λ x. l ∷ x) (texts_at d true ls)

-- lines end in frames of data while their connection is open
pub texts_are : (past : List Act) (f : Frame) → texts_with past f ≡ (if is_data_frame f && is_open_at_modem f.dlci past then lines_ended Responder f.dlci (wire past) f else [])
texts_are past f =
    texts_at f.dlci (carries f.dlci f && is_open_at_modem f.dlci past) (lines_ended Responder f.dlci (wire past) f)
    ∙ ap (λ (b : Bool). if b && is_open_at_modem f.dlci past then lines_ended Responder f.dlci (wire past) f else []) (carries_own f)

-- ## The hold

some_ended : (ls : List (List ℕ)) → not (is_empty ls) ≡ nat_lt 0 (length ls)
some_ended [] = refl
some_ended (l ∷ ls) =
    let some : nat_lt 0 (length (l ∷ ls)) ≡ true = let size : length (l ∷ ls) ≡ 1 + length ls = omega arith in grind (arith, nat_tests) in
    sym some

lasting_at : (past : List Act) (f : Frame) (d : ℕ) (over : Bool) → lasts past (station.Got f) (if over then None else Some d) ≡ (if over || ((f.dlci == d) && nat_lt 0 (length (texts_with past f))) then None else Some d)
lasting_at past f d true = refl
lasting_at past f d false = ap (λ (b : Bool). if (f.dlci == d) && b then None else Some d) (some_ended (texts_with past f))

lasting_goes : (past : List Act) (f : Frame) (w : Option Waited) → lasts past (station.Got f) (lasting w) ≡ lasting (hold_heard f.dlci (length (texts_with past f)) w)
lasting_goes past f None = refl
lasting_goes past f (Some w) = lasting_at past f w.dlci w.over

hold_none : (n count : ℕ) (w : Option Waited) → hold_heard n count w ≡ None → w ≡ None
hold_none n count None is = refl
hold_none n count (Some w) is = cc

-- a hold that lasts over a frame lasted before
held_before : (past : List Act) (a : station.Act) (h : Option ℕ) → is_holding (lasts past a h) ≡ true → is_holding h ≡ true
held_before past a None is = is
held_before past a (Some e) is = refl

-- ## One connection

-- what a frame brings, by the past
pub record IsBrought (e : End) (past : List Act) (f : Frame) (x : Brought) : Type 0 where
  pub run_is : is_open_at_modem f.dlci past ≡ true → x.run ≡ kept_run (unfinished_on Responder f.dlci (wire past) ++ (if is_data_frame f then f.info else []))
  pub said_is : x.said ≡ pieces_octets (replies e.echo (modem_after e past) (texts_with past f))
  pub calls_is : x.calls ≡ any_call (modem_after e past) (texts_with past f)

taken_hold : (x : Brought) (w : Option Waited) (b : Box) → (said_with w b x.said).hold ≡ b.hold
taken_hold x None b = refl
taken_hold x (Some w) b = refl

turned_hold : (here : Bool) (x : Brought) (b : Box) → (box_turned false here x b).hold ≡ b.hold
turned_hold true x b = taken_hold x b.hold b
turned_hold false x b = refl

-- the unfinished line after the frame
run_more : (d : ℕ) (f : Frame) (rest : List station.Act) → kept_run (info_got d (station.Got f ∷ rest)) ≡ kept_run (kept_run (info_got d rest) ++ (if is_data_frame f && (f.dlci == d) then f.info else []))
run_more d f rest =
    (reads_on (info_got d rest) (info_of d f)).keeps
    ∙ ap (λ (b : Bool). kept_run (kept_run (info_got d rest) ++ (if b then f.info else []))) (carries_data d f)

run_here : (brings here : Bool) (text info run own : List ℕ) → (here ≡ true → run ≡ kept_run (kept_run text ++ (if brings then info else []))) → own ≡ kept_run text → kept_run (kept_run text ++ (if brings && here then info else [])) ≡ (if here then run else own)
run_here true true text info run own brought kept = sym (brought refl)
run_here false true text info run own brought kept = sym (brought refl)
run_here true false text info run own brought kept = ap kept_run (append-nil (kept_run text)) ∙ kept_again text ∙ sym kept
run_here false false text info run own brought kept = ap kept_run (append-nil (kept_run text)) ∙ kept_again text ∙ sym kept

turned_run : (here : Bool) (x : Brought) (b : Box) → (box_turned false here x b).run ≡ (if here then x.run else b.run)
turned_run true x b = refl
turned_run false x b = refl

-- what is said and held back
record IsSaid (o : Outbox) (given : List ℕ) (h : Option ℕ) (b : Box) : Type 0 where
  all_is : pieces_octets o.said ++ pieces_octets o.held ≡ given ++ (b.unsent ++ b.held)
  held_is : is_holding h ≡ true → pieces_octets o.held ≡ b.held

all_said : (holds : Bool) (o : Outbox) (pieces : List Piece) → pieces_octets (say holds o pieces).said ++ pieces_octets (say holds o pieces).held ≡ (pieces_octets o.said ++ pieces_octets o.held) ++ pieces_octets pieces
all_said true o pieces = ap (λ y. pieces_octets o.said ++ y) (spelled-append o.held pieces) ∙ sym (append_assoc (pieces_octets o.said) (pieces_octets o.held) (pieces_octets pieces))
all_said false o pieces =
    append-nil (pieces_octets (o.said ++ (o.held ++ pieces)))
    ∙ spelled-append o.said (o.held ++ pieces)
    ∙ ap (λ y. pieces_octets o.said ++ y) (spelled-append o.held pieces)
    ∙ sym (append_assoc (pieces_octets o.said) (pieces_octets o.held) (pieces_octets pieces))

all_kept : (w : Option Waited) (b : Box) (octets : List ℕ) → (w ≡ None → b.held ≡ []) → (b.unsent ++ b.held) ++ octets ≡ (said_with w b octets).unsent ++ (said_with w b octets).held
all_kept None b octets apart =
    let none = apart refl in
    ap (λ y. (b.unsent ++ y) ++ octets) none ∙ ap (λ y. y ++ octets) (append-nil b.unsent) ∙ sym (append-nil (b.unsent ++ octets)) ∙ ap (λ y. (b.unsent ++ octets) ++ y) (sym none)
all_kept (Some w) b octets apart = append_assoc b.unsent b.held octets

held_kept : (w : Option Waited) (b : Box) (octets : List ℕ) → is_holding (lasting w) ≡ true → (said_with w b octets).held ≡ b.held ++ octets
held_kept None b octets is = cc
held_kept (Some w) b octets is = refl

said_held : (holds : Bool) (o : Outbox) (pieces : List Piece) → holds ≡ true → pieces_octets (say holds o pieces).held ≡ pieces_octets o.held ++ pieces_octets pieces
said_held true o pieces is = spelled-append o.held pieces
said_held false o pieces is = cc

replies_here : (here : Bool) (pieces : List Piece) (octets : List ℕ) → octets ≡ pieces_octets pieces → pieces_octets (if here then pieces else []) ≡ (if here then octets else [])
replies_here true pieces octets is = sym is
replies_here false pieces octets is = refl

said_here : (o : Outbox) (given : List ℕ) (before after : Option ℕ) (here : Bool) (x : Brought) (b : Box) (pieces : List Piece) → (is_holding after ≡ true → is_holding before ≡ true) → before ≡ lasting b.hold → (b.hold ≡ None → b.held ≡ []) → pieces_octets pieces ≡ (if here then x.said else []) → IsSaid o given before b → IsSaid (say (is_holding after) o pieces) given after (box_turned false here x b)
said_here o given before after true x b pieces back lasts apart is old = record {
  all_is = all_said (is_holding after) o pieces
      ∙ ap (λ y. y ++ pieces_octets pieces) old.all_is
      ∙ append_assoc given (b.unsent ++ b.held) (pieces_octets pieces)
      ∙ ap (λ y. given ++ ((b.unsent ++ b.held) ++ y)) is
      ∙ ap (λ y. given ++ y) (all_kept b.hold b x.said apart);
  held_is = λ holds.
      said_held (is_holding after) o pieces holds
      ∙ ap (λ y. y ++ pieces_octets pieces) (old.held_is (back holds))
      ∙ ap (λ y. b.held ++ y) is
      ∙ sym (held_kept b.hold b x.said (ap is_holding (sym lasts) ∙ back holds));
}
said_here o given before after false x b pieces back lasts apart is old = record {
  all_is = all_said (is_holding after) o pieces
      ∙ ap (λ y. y ++ pieces_octets pieces) old.all_is
      ∙ ap (λ y. (given ++ (b.unsent ++ b.held)) ++ y) is
      ∙ append-nil (given ++ (b.unsent ++ b.held));
  held_is = λ holds.
      said_held (is_holding after) o pieces holds
      ∙ ap (λ y. y ++ pieces_octets pieces) (old.held_is (back holds))
      ∙ ap (λ y. b.held ++ y) is
      ∙ append-nil b.held;
}

goes_run : (d : ℕ) (f : Frame) (x : Brought) (b : Box) (rest : List station.Act) (opens there : Bool) → (opens || there) ≡ true → (there ≡ true → kept_run (info_got d rest) ≡ b.run) → (there ≡ true → (f.dlci == d) ≡ true → x.run ≡ kept_run (kept_run (info_got d rest) ++ (if is_data_frame f then f.info else []))) → kept_run (info_got d (since_after opens there (station.Got f) rest)) ≡ (box_turned opens (f.dlci == d) x b).run
goes_run d f x b rest true there is before brought = refl
goes_run d f x b rest false true is before brought =
    run_more d f rest
    ∙ run_here (is_data_frame f) (f.dlci == d) (info_got d rest) f.info x.run b.run (brought refl) (sym (before refl))
    ∙ sym (turned_run (f.dlci == d) x b)
goes_run d f x b rest false false is before brought = cc

goes_hold : (past : List Act) (f : Frame) (x : Brought) (b : Box) (h : Option ℕ) (opens there here : Bool) → (opens || there) ≡ true → (there ≡ true → h ≡ lasting b.hold) → (if there && not opens then lasts past (station.Got f) h else None) ≡ lasting (hold_heard f.dlci (length (texts_with past f)) (box_turned opens here x b).hold)
goes_hold past f x b h true true here is before = refl
goes_hold past f x b h true false here is before = refl
goes_hold past f x b h false true here is before =
    ap (lasts past (station.Got f)) (before refl)
    ∙ lasting_goes past f b.hold
    ∙ ap (λ w. lasting (hold_heard f.dlci (length (texts_with past f)) w)) (sym (turned_hold here x b))
goes_hold past f x b h false false here is before = cc

taken_apart : (w : Option Waited) (x : Brought) (b : Box) → w ≡ None → b.held ≡ [] → (said_with w b x.said).held ≡ []
taken_apart None x b is apart = apart
taken_apart (Some w) x b is apart = cc

goes_apart : (x : Brought) (b : Box) (opens there here : Bool) → (opens || there) ≡ true → (there ≡ true → b.hold ≡ None → b.held ≡ []) → (box_turned opens here x b).hold ≡ None → (box_turned opens here x b).held ≡ []
goes_apart x b true there here is apart none = refl
goes_apart x b false true true is apart none = let was = sym (taken_hold x b.hold b) ∙ none in taken_apart b.hold x b was (apart refl was)
goes_apart x b false true false is apart none = apart refl none
goes_apart x b false false here is apart none = cc

goes_said : (e : End) (past : List Act) (d : ℕ) (f : Frame) (x : Brought) (b : Box) (o : Outbox) (h : Option ℕ) (rest : List station.Act) (opens there : Bool) → (opens || there) ≡ true → (there ≡ true → IsSaid o (joined_octets (octets_offered d) rest) h b) → (there ≡ true → h ≡ lasting b.hold) → (there ≡ true → b.hold ≡ None → b.held ≡ []) → x.said ≡ pieces_octets (replies e.echo (modem_after e past) (texts_with past f)) → (there ≡ true → is_holding (hold_on d (Wire (station.Got f) ∷ past)) ≡ true → is_holding h ≡ true) → IsSaid (if opens then empty_box else if there && not opens then said_after e d past (station.Got f) o else dropped o) (joined_octets (octets_offered d) (since_after opens there (station.Got f) rest)) (hold_on d (Wire (station.Got f) ∷ past)) (box_turned opens (f.dlci == d) x b)
goes_said e past d f x b o h rest true there is before lasts_so apart said back = record { all_is = refl; held_is = λ holds. refl }
goes_said e past d f x b o h rest false true is before lasts_so apart said back =
    let given = joined_octets (octets_offered d) rest in
    let old = before refl in
    let moved : IsSaid o (given ++ []) h b = record { all_is = old.all_is ∙ ap (λ y. y ++ (b.unsent ++ b.held)) (sym (append-nil given)); held_is = old.held_is } in
    said_here o (given ++ []) h (hold_on d (Wire (station.Got f) ∷ past)) (f.dlci == d) x b (replies_by e d past f) (back refl) (lasts_so refl) (apart refl)
    (replies_here (f.dlci == d) (replies e.echo (modem_after e past) (texts_with past f)) x.said said)
    moved
goes_said e past d f x b o h rest false false is before lasts_so apart said back = cc

turned_call : (here : Bool) (x : Brought) (b : Box) (calls : Bool) → x.calls ≡ calls → (b.through || (here && calls)) ≡ (box_turned false here x b).through
turned_call true x b calls is = ap (λ y. b.through || y) (sym is)
turned_call false x b calls is = or_none b.through

goes_call : (here : Bool) (x : Brought) (b : Box) (was calls : Bool) (opens there : Bool) → (opens || there) ≡ true → (there ≡ true → was ≡ b.through) → x.calls ≡ calls → (if there && not opens then was || (here && calls) else false) ≡ (box_turned opens here x b).through
goes_call here x b was calls true true is before called = refl
goes_call here x b was calls true false is before called = refl
goes_call here x b was calls false true is before called = ap (λ y. y || (here && calls)) (before refl) ∙ turned_call here x b calls called
goes_call here x b was calls false false is before called = cc

back_at : (past : List Act) (a : station.Act) (h : Option ℕ) (opens there : Bool) → (opens || there) ≡ true → is_holding (if there && not opens then lasts past a h else None) ≡ true → there ≡ true → is_holding h ≡ true
back_at past a h true true is holds really = cc
back_at past a h true false is holds really = cc
back_at past a h false true is holds really = held_before past a h holds
back_at past a h false false is holds really = cc

-- what is open and stays so was open
pub was_open : (a b : Bool) → (a && b) ≡ true → a ≡ true
was_open true b is = refl
was_open false b is = cc

-- after a frame what is kept of any connection is what the past says
pub box_goes_on : (e : End) (past : List Act) (f : Frame) (x : Brought) (d : ℕ) (b : Box) → IsBrought e past f x → FitsOpen e d past b → FitsOpen e d (Wire (station.Got f) ∷ past) (box_heard f.dlci (length (texts_with past f)) (box_turned (opens_now Responder d (wire past) (station.Got f)) (f.dlci == d) x b))
box_goes_on e past f x d b brought fits open_then =
    let opens = opens_now Responder d (wire past) (station.Got f) in
    let there = belongs Responder d (wire past) (station.Got f) in
    let there_open : (opens || there) ≡ true = sym (is_open_after Responder d (wire past) (station.Got f)) ∙ open_then in
    let here = f.dlci == d in
    let rest = since Responder d (wire past) in
    let h = hold_on d past in
    let before : there ≡ true → BoxFits e d past b = λ is. fits (was_open (is_open_at_modem d past) _ is) in
    let came : there ≡ true → (f.dlci == d) ≡ true → x.run ≡ kept_run (unfinished_on Responder d (wire past) ++ (if is_data_frame f then f.info else [])) =
    λ is on.
    let same = same_connection f.dlci d on in
    let At : ℕ → Type 0 = λ n. is_open_at_modem n past ≡ true → x.run ≡ kept_run (unfinished_on Responder n (wire past) ++ (if is_data_frame f then f.info else [])) in
    subst At same brought.run_is (was_open (is_open_at_modem d past) _ is) in
    let said = goes_said e past d f x b (outbox e d past) h rest opens there there_open
    (λ is. record { all_is = (before is).all_is; held_is = (before is).held_is })
    (λ is. (before is).hold_is) (λ is. (before is).apart) brought.said_is
    (λ is holds. back_at past (station.Got f) h opens there there_open holds is) in
    record {
      run_is = goes_run d f x b rest opens there there_open (λ is. (before is).run_is) came;
      hold_is = goes_hold past f x b h opens there here there_open (λ is. (before is).hold_is);
      all_is = said.all_is;
      held_is = said.held_is;
      apart = λ none.
          goes_apart x b opens there here there_open (λ is. (before is).apart)
          (hold_none f.dlci (length (texts_with past f)) (box_turned opens here x b).hold none);
      call_is = goes_call here x b (in_call e d past) (any_call (modem_after e past) (texts_with past f)) opens there there_open (λ is. (before is).call_is) brought.calls_is;
    }

-- ## Acts other than frames that come

-- an act that brings no octets, ends no line and opens nothing
pub record IsStill (d : ℕ) (past : List Act) (a : station.Act) : Type 0 where
  pub opens_none : opens_now Responder d (wire past) a ≡ false
  pub brings_none : (rest : List station.Act) → info_got d (a ∷ rest) ≡ info_got d rest
  pub ends_none : heard (Wire a ∷ past) ≡ heard past
  pub lasts_on : (h : Option ℕ) → lasts past a h ≡ h
  pub says_none : (e : End) (o : Outbox) → said_after e d past a o ≡ o
  pub calls_none : (e : End) (was : Bool) → calls_after e d past a was ≡ was

lasts_sent : (past : List Act) (f : Frame) (h : Option ℕ) → lasts past (station.Sent f) h ≡ h
lasts_sent past f None = refl
lasts_sent past f (Some e) = refl

lasts_given : (past : List Act) (h : Option ℕ) → lasts past station.Given h ≡ h
lasts_given past None = refl
lasts_given past (Some e) = refl

lasts_called : (past : List Act) (c : station.Call) (h : Option ℕ) → lasts past (station.Called c) h ≡ h
lasts_called past c None = refl
lasts_called past c (Some e) = refl

-- a frame that is sent is such an act
pub sent_still : (d : ℕ) (past : List Act) (f : Frame) → IsStill d past (station.Sent f)
sent_still d past f = record { opens_none = refl; brings_none = λ rest. refl; ends_none = refl; lasts_on = lasts_sent past f; says_none = λ e o. refl; calls_none = λ e was. refl }

-- so is one that is given on
pub given_still : (d : ℕ) (past : List Act) → IsStill d past station.Given
given_still d past = record { opens_none = refl; brings_none = λ rest. refl; ends_none = refl; lasts_on = lasts_given past; says_none = λ e o. refl; calls_none = λ e was. refl }

-- and a call of the station
pub called_still : (d : ℕ) (past : List Act) (c : station.Call) → IsStill d past (station.Called c)
called_still d past c = record { opens_none = refl; brings_none = λ rest. refl; ends_none = refl; lasts_on = lasts_called past c; says_none = λ e o. refl; calls_none = λ e was. refl }

still_run : (d : ℕ) (a : station.Act) (rest : List station.Act) (opens there : Bool) → (opens || there) ≡ true → opens ≡ false → info_got d (a ∷ rest) ≡ info_got d rest → kept_run (info_got d (since_after opens there a rest)) ≡ kept_run (info_got d rest)
still_run d a rest true there is none brings = cc
still_run d a rest false true is none brings = ap kept_run brings
still_run d a rest false false is none brings = cc

still_hold : (past : List Act) (a : station.Act) (h : Option ℕ) (opens there : Bool) → (opens || there) ≡ true → opens ≡ false → lasts past a h ≡ h → (if there && not opens then lasts past a h else None) ≡ h
still_hold past a h true there is none last = cc
still_hold past a h false true is none last = last
still_hold past a h false false is none last = cc

still_box : (e : End) (d : ℕ) (past : List Act) (a : station.Act) (o : Outbox) (opens there : Bool) → (opens || there) ≡ true → opens ≡ false → said_after e d past a o ≡ o → (if opens then empty_box else if there && not opens then said_after e d past a o else dropped o) ≡ o
still_box e d past a o true there is none says = cc
still_box e d past a o false true is none says = says
still_box e d past a o false false is none says = cc

still_call : (was now opens there : Bool) → (opens || there) ≡ true → opens ≡ false → now ≡ was → (if there && not opens then now else false) ≡ was
still_call was now true there is none same = cc
still_call was now false true is none same = same
still_call was now false false is none same = cc

-- what was offered since d opened goes on by what such an act offers
pub still_offered : (d : ℕ) (a : station.Act) (rest : List station.Act) (opens there : Bool) → (opens || there) ≡ true → opens ≡ false → joined_octets (octets_offered d) (since_after opens there a rest) ≡ joined_octets (octets_offered d) rest ++ octets_offered d a
still_offered d a rest true there is none = cc
still_offered d a rest false true is none = refl
still_offered d a rest false false is none = cc

-- what is open behind such an act was open before it
pub still_there : (opens there : Bool) → (opens || there) ≡ true → opens ≡ false → there ≡ true
still_there true there is none = cc
still_there false there is none = is

-- after it, what was offered by it isn't unsent any more
pub box_still : (e : End) (past : List Act) (a : station.Act) (d : ℕ) (b : Box) (unsent : List ℕ) → IsStill d past a → b.unsent ≡ octets_offered d a ++ unsent → FitsOpen e d past b → FitsOpen e d (Wire a ∷ past) (record b { unsent = unsent })
box_still e past a d b unsent still offers fits open_then =
    let opens = opens_now Responder d (wire past) a in
    let there = belongs Responder d (wire past) a in
    let there_open : (opens || there) ≡ true = sym (is_open_after Responder d (wire past) a) ∙ open_then in
    let rest = since Responder d (wire past) in
    let given = joined_octets (octets_offered d) rest in
    let fit = fits (was_open (is_open_at_modem d past) _ (still_there opens there there_open still.opens_none)) in
    let box = still_box e d past a (outbox e d past) opens there there_open still.opens_none (still.says_none e (outbox e d past)) in
    let hold = still_hold past a (hold_on d past) opens there there_open still.opens_none (still.lasts_on (hold_on d past)) in
    record {
      run_is = still_run d a rest opens there there_open still.opens_none (still.brings_none rest) ∙ fit.run_is;
      hold_is = hold ∙ fit.hold_is;
      all_is = ap (λ o. pieces_octets o.said ++ pieces_octets o.held) box ∙ fit.all_is ∙ ap (λ x. given ++ (x ++ b.held)) offers
          ∙ ap (λ x. given ++ x) (append_assoc (octets_offered d a) unsent b.held)
          ∙ sym (append_assoc given (octets_offered d a) (unsent ++ b.held))
          ∙ ap (λ x. x ++ (unsent ++ b.held)) (sym (still_offered d a rest opens there there_open still.opens_none));
      held_is = λ holds. ap (λ o. pieces_octets o.held) box ∙ fit.held_is (sym (ap is_holding hold) ∙ holds);
      apart = fit.apart;
      call_is = still_call (in_call e d past) (calls_after e d past a (in_call e d past)) opens there there_open still.opens_none (still.calls_none e (in_call e d past)) ∙ fit.call_is;
    }
