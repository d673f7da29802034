-- A lane is read as all of its octets are.
use Rattle.std.specs.Prelude.{◌≡◌, ℕ, ◌==◌, ◌&&◌, ◌||◌, Bool, true, false, List, [], ◌∷◌, ◌++◌, Option, Some, None, refl, if◌then◌else◌}
use Rattle.std.proofs.Common.{ap, sym, ◌∙◌}
use Rattle.mux_station.specs.declared.role.Role.{Role}
use Rattle.mux_station.specs.Acts as station
use Rattle.modem_data.specs.declared.begin.Begin.{Begin}
use Rattle.modem_data.specs.declared.begin.Begin.TheVariants.{AtOnce, ByConnect, ByPrompt, ByOwnConnect}
use Rattle.std.proofs.lemmas.List.{append_assoc, append-nil}
use Rattle.at_text.specs.Lines.{is_line_end, kept_run}
use Rattle.modem_data.specs.Prompts.{is_mark}
use Rattle.modem_data.specs.Switching.{Carries, Idle, Lines, Ended, Data, Prompts, Marked, Sends, Owes, Owns, Answered, as_own, is_behind_lines, lines_of, data_of, behind, carries_after, carries_from, carries_prompt, carries_sent, connects, ended_by_call, marked}
use Rattle.modem_data.specs.Passing.{Pass, Came, Went, Flowed, Left, Lost, Began, EndedLane, Gave, Read, is_info, ends_here, drops_here, begin_of, carries, carries_behind, carries_gone, data_came}
use Rattle.modem_data.specs.WholeLanes.{IsWhole, LanesAreWhole, came_since, lines_since, sent_since, under_way}
use Rattle.modem_data.proofs.Splitting.{reads_on, sends_on}

-- nothing came yet
begun : (how : Begin) → (([] ≡ lines_of (begin_of how) []) × ([] ≡ data_of (begin_of how) [])) × (begin_of how ≡ carries_after (begin_of how) [])
begun AtOnce = ((refl, refl), refl)
begun ByConnect = ((refl, refl), refl)
begun ByPrompt = ((refl, refl), refl)
begun ByOwnConnect = ((refl, refl), refl)

-- a lane as it is, or as it stands behind an act that passes it
abbrev WholeIf : Option Begin → Begin → (lines_now data_now came_now : List ℕ) → Carries → Type 0
WholeIf o how l x c m = o ≡ Some how → ((l ≡ lines_of (begin_of how) c) × (x ≡ data_of (begin_of how) c)) × (m ≡ carries_after (begin_of how) c)

on_info : (how : Begin) (l x c info : List ℕ) (m : Carries) → ((l ≡ lines_of (begin_of how) c) × (x ≡ data_of (begin_of how) c)) × (m ≡ carries_after (begin_of how) c) → ((l ++ lines_of m info ≡ lines_of (begin_of how) (c ++ info)) × (x ++ data_of m info ≡ data_of (begin_of how) (c ++ info))) × (carries_after m info ≡ carries_after (begin_of how) (c ++ info))
on_info how l x c info m h =
    let r = reads_on (begin_of how) c info in
    let stand = h.1 in (
      (
        ap (λ t. t ++ lines_of m info) h.0.0 ∙ (ap (λ n. lines_of (begin_of how) c ++ lines_of n info) stand ∙ sym r.lines_go_on),
        ap (λ t. t ++ data_of m info) h.0.1 ∙ (ap (λ n. data_of (begin_of how) c ++ data_of n info) stand ∙ sym r.data_goes_on),
      ),
      ap (λ n. carries_after n info) stand ∙ sym r.stands,
    )

sent_on : (ending : Bool) (o : Option Begin) (how : Begin) (l x c : List ℕ) (m : Carries) → WholeIf o how l x c m → WholeIf (if ending then None else o) how l x c (if ending then Idle else m)
sent_on true o how l x c m h = λ e. cc
sent_on false o how l x c m h = h

came_on : (here ending dropping : Bool) (o : Option Begin) (how : Begin) (l x c info : List ℕ) (m : Carries) → WholeIf o how l x c m → WholeIf (if here then o else (if ending || (dropping && is_behind_lines m) then None else o)) how (if here then l ++ lines_of m info else l) (if here then x ++ data_of m info else x) (if here then c ++ info else c) (carries_behind here ending dropping m info)
came_on true ending dropping o how l x c info m h = λ e. on_info how l x c info m (h e)
came_on false true dropping o how l x c info m h = λ e. cc
came_on false false true o how l x c info m h = sent_on (is_behind_lines m) o how l x c m h
came_on false false false o how l x c info m h = h

-- ## What the driver writes leaves other lanes as they stand

abbrev is_by_own : Begin → Bool
is_by_own ByOwnConnect = true
is_by_own _ = false

abbrev waits_for_own : Carries → Bool
waits_for_own (Owns kept) = true
waits_for_own Answered = true
waits_for_own _ = false

none_behind : (by : ℕ) (text : List ℕ) → waits_for_own (behind by text) ≡ false
none_behind by [] = refl
none_behind by (c ∷ text) = refl

none_from : (kept text : List ℕ) → waits_for_own (carries_from kept text) ≡ false
none_from kept [] = refl
none_from kept (c ∷ text) = at (connects kept c) (none_from (kept_run (kept ++ c ∷ [])) text)
  where
    at : (b : Bool) → waits_for_own (carries_from (kept_run (kept ++ c ∷ [])) text) ≡ false → waits_for_own (if b then behind c text else carries_from (kept_run (kept ++ c ∷ [])) text) ≡ false
    at true h = none_behind c text
    at false h = h

none_marked : (text : List ℕ) → waits_for_own (marked text) ≡ false
none_marked [] = refl
none_marked (c ∷ text) = refl

none_prompt : (starts : Bool) (text : List ℕ) → waits_for_own (carries_prompt starts text) ≡ false
none_prompt starts [] = refl
none_prompt starts (c ∷ text) = at (is_mark starts c text) (none_prompt (is_line_end c) text)
  where
    at : (b : Bool) → waits_for_own (carries_prompt (is_line_end c) text) ≡ false → waits_for_own (if b then marked text else carries_prompt (is_line_end c) text) ≡ false
    at true h = none_marked text
    at false h = h

none_begun : (how : Begin) (text : List ℕ) → is_by_own how ≡ false → waits_for_own (carries_after (begin_of how) text) ≡ false
none_begun AtOnce text own = refl
none_begun ByConnect text own = none_from [] text
none_begun ByPrompt text own = none_prompt true text
none_begun ByOwnConnect text own = cc

same_sent : (m : Carries) (info : List ℕ) → waits_for_own m ≡ false → carries_sent m info ≡ m
same_sent Idle info none = refl
same_sent (Lines kept) info none = refl
same_sent (Ended by) info none = refl
same_sent Data info none = refl
same_sent (Prompts starts) info none = refl
same_sent Marked info none = refl
same_sent Sends info none = refl
same_sent Owes info none = refl
same_sent (Owns kept) info none = cc
same_sent Answered info none = cc

gone_on : (ending here : Bool) (o : Option Begin) (how : Begin) (l x c info : List ℕ) (m : Carries) → is_by_own how ≡ false → WholeIf o how l x c m → WholeIf (if ending then None else o) how l x c (carries_gone ending here m info)
gone_on true here o how l x c info m own h = λ e. cc
gone_on false true o how l x c info m own h = λ e.
    let r = h e in
    (r.0, same_sent m info (ap waits_for_own r.1 ∙ none_begun how c own) ∙ r.1)
gone_on false false o how l x c info m own h = h

same_begin : (a b : Begin) → Some a ≡ Some b → a ≡ b
same_begin a b e = cc

begun_on : (here : Bool) (new : Begin) (o : Option Begin) (how : Begin) (l x c : List ℕ) (m : Carries) → WholeIf o how l x c m → WholeIf (if here then Some new else o) how (if here then [] else l) (if here then [] else x) (if here then [] else c) (if here then begin_of new else m)
begun_on true new o how l x c m h = λ e. rw (same_begin new how e) (begun how)
begun_on false new o how l x c m h = h

ended_on : (here : Bool) (o : Option Begin) (how : Begin) (l x c : List ℕ) (m : Carries) → WholeIf o how l x c m → WholeIf (if here then None else o) how l x c (if here then ended_by_call m else m)
ended_on true o how l x c m h = λ e. cc
ended_on false o how l x c m h = h

whole : (role : Role) (d : ℕ) (how : Begin) → is_by_own how ≡ false → (past : List Pass) → WholeIf (under_way role d past) how (lines_since role d past) (data_came role d past) (came_since role d past) (carries role d past)
whole role d how own [] = λ e. cc
whole role d how own (Came f ∷ past) = came_on (is_info role d past f) (ends_here role d past (station.Got f)) (drops_here role d past f) (under_way role d past) how (lines_since role d past) (data_came role d past) (came_since role d past) f.info (carries role d past) (whole role d how own past)
whole role d how own (Went f ∷ past) = gone_on (ends_here role d past (station.Sent f)) (is_info role d past f) (under_way role d past) how (lines_since role d past) (data_came role d past) (came_since role d past) f.info (carries role d past) own (whole role d how own past)
whole role d how own (Flowed f ∷ past) = sent_on (ends_here role d past (station.Sent f)) (under_way role d past) how (lines_since role d past) (data_came role d past) (came_since role d past) (carries role d past) (whole role d how own past)
whole role d how own (Left f ∷ past) = whole role d how own past
whole role d how own (Lost ∷ past) = λ e. cc
whole role d how own (Began c new until ∷ past) = begun_on (c == d) new (under_way role d past) how (lines_since role d past) (data_came role d past) (came_since role d past) (carries role d past) (whole role d how own past)
whole role d how own (EndedLane c ∷ past) = ended_on (c == d) (under_way role d past) how (lines_since role d past) (data_came role d past) (came_since role d past) (carries role d past) (whole role d how own past)
whole role d how own (Gave c octets ∷ past) = whole role d how own past
whole role d how own (Read c octets ∷ past) = whole role d how own past

-- ## By a CONNECT line of the driver's own

-- a lane as it is, or as it stands behind an act that passes it
abbrev OwnIf : Option Begin → (sent_now lines_now data_now came_now : List ℕ) → Carries → Type 0
OwnIf o s l x c m = o ≡ Some ByOwnConnect → ((m ≡ carries_sent (Owns []) s) × (l ++ x ≡ c)) × (is_behind_lines m ≡ false → x ≡ [])

-- it waits for that line, or is behind it
abbrev is_own_lane : Carries → Bool
is_own_lane (Owns kept) = true
is_own_lane Answered = true
is_own_lane Data = true
is_own_lane _ = false

own_ended : (b : Bool) → is_own_lane (if b then Answered else Data) ≡ true
own_ended true = refl
own_ended false = refl

own_behind : (by : ℕ) (text : List ℕ) → is_own_lane (as_own (behind by text)) ≡ true
own_behind by [] = own_ended (by == 13)
own_behind by (c ∷ text) = refl

own_lane : (kept text : List ℕ) → is_own_lane (as_own (carries_from kept text)) ≡ true
own_lane kept [] = refl
own_lane kept (c ∷ text) = at (connects kept c) (own_lane (kept_run (kept ++ c ∷ [])) text)
  where
    at : (b : Bool) → is_own_lane (as_own (carries_from (kept_run (kept ++ c ∷ [])) text)) ≡ true → is_own_lane (as_own (if b then behind c text else carries_from (kept_run (kept ++ c ∷ [])) text)) ≡ true
    at true h = own_behind c text
    at false h = h

of_own : (m : Carries) (s : List ℕ) → m ≡ carries_sent (Owns []) s → is_own_lane m ≡ true
of_own m s e = ap is_own_lane e ∙ own_lane [] s

all_nil : (l : List ℕ) → l ++ [] ≡ l
all_nil l = append-nil l

-- information that comes is all lines, or all data
own_joins : (m : Carries) (l x c info : List ℕ) → is_own_lane m ≡ true → l ++ x ≡ c → (is_behind_lines m ≡ false → x ≡ []) → (l ++ lines_of m info) ++ (x ++ data_of m info) ≡ c ++ info
own_joins (Owns kept) l x c info own e none =
    let nil = none refl in
    ap (λ t. (l ++ (info ++ [])) ++ (t ++ [])) nil
    ∙ (all_nil (l ++ (info ++ []))
    ∙ (ap (λ t. l ++ t) (all_nil info)
    ∙ ap (λ t. t ++ info) (sym (all_nil l) ∙ (ap (λ t. l ++ t) (sym nil) ∙ e))))
own_joins Answered l x c info own e none = ap (λ t. t ++ (x ++ info)) (all_nil l) ∙ (sym (append_assoc l x info) ∙ ap (λ t. t ++ info) e)
own_joins Data l x c info own e none = ap (λ t. t ++ (x ++ info)) (all_nil l) ∙ (sym (append_assoc l x info) ∙ ap (λ t. t ++ info) e)
own_joins Idle l x c info own e none = cc
own_joins (Lines kept) l x c info own e none = cc
own_joins (Ended by) l x c info own e none = cc
own_joins (Prompts starts) l x c info own e none = cc
own_joins Marked l x c info own e none = cc
own_joins Sends l x c info own e none = cc
own_joins Owes l x c info own e none = cc

-- and leaves the lane as it stood
own_stays : (m : Carries) (info : List ℕ) → is_own_lane m ≡ true → carries_after m info ≡ m
own_stays (Owns kept) info own = refl
own_stays Answered info own = refl
own_stays Data info own = refl
own_stays Idle info own = cc
own_stays (Lines kept) info own = cc
own_stays (Ended by) info own = cc
own_stays (Prompts starts) info own = cc
own_stays Marked info own = cc
own_stays Sends info own = cc
own_stays Owes info own = cc

own_none : (m : Carries) (x info : List ℕ) → is_own_lane m ≡ true → (is_behind_lines m ≡ false → x ≡ []) → is_behind_lines (carries_after m info) ≡ false → x ++ data_of m info ≡ []
own_none (Owns kept) x info own none f = all_nil x ∙ none refl
own_none Answered x info own none f = cc
own_none Data x info own none f = cc
own_none Idle x info own none f = cc
own_none (Lines kept) x info own none f = cc
own_none (Ended by) x info own none f = cc
own_none (Prompts starts) x info own none f = cc
own_none Marked x info own none f = cc
own_none Sends x info own none f = cc
own_none Owes x info own none f = cc

own_came : (s l x c info : List ℕ) (m : Carries) → ((m ≡ carries_sent (Owns []) s) × (l ++ x ≡ c)) × (is_behind_lines m ≡ false → x ≡ []) → ((carries_after m info ≡ carries_sent (Owns []) s) × ((l ++ lines_of m info) ++ (x ++ data_of m info) ≡ c ++ info)) × (is_behind_lines (carries_after m info) ≡ false → x ++ data_of m info ≡ [])
own_came s l x c info m h =
    let own = of_own m s h.0.0 in
    ((own_stays m info own ∙ h.0.0, own_joins m l x c info own h.0.1 h.1), own_none m x info own h.1)

own_on_came : (here ending dropping : Bool) (o : Option Begin) (s l x c info : List ℕ) (m : Carries) → OwnIf o s l x c m → OwnIf (if here then o else (if ending || (dropping && is_behind_lines m) then None else o)) s (if here then l ++ lines_of m info else l) (if here then x ++ data_of m info else x) (if here then c ++ info else c) (carries_behind here ending dropping m info)
own_on_came true ending dropping o s l x c info m h = λ e. own_came s l x c info m (h e)
own_on_came false true dropping o s l x c info m h = λ e. cc
own_on_came false false true o s l x c info m h = own_ends (is_behind_lines m) o s l x c m h
  where
    own_ends : (ending : Bool) (o : Option Begin) (s l x c : List ℕ) (m : Carries) → OwnIf o s l x c m → OwnIf (if ending then None else o) s l x c (if ending then Idle else m)
    own_ends true o s l x c m h = λ e. cc
    own_ends false o s l x c m h = h
own_on_came false false false o s l x c info m h = h

-- what the driver writes turns no data to lines
own_behind_still : (m : Carries) (info : List ℕ) → is_own_lane m ≡ true → is_behind_lines (carries_sent m info) ≡ false → is_behind_lines m ≡ false
own_behind_still (Owns kept) info own f = refl
own_behind_still Answered [] own f = cc
own_behind_still Answered (c ∷ info) own f = cc
own_behind_still Data info own f = cc
own_behind_still Idle info own f = cc
own_behind_still (Lines kept) info own f = cc
own_behind_still (Ended by) info own f = cc
own_behind_still (Prompts starts) info own f = cc
own_behind_still Marked info own f = cc
own_behind_still Sends info own f = cc
own_behind_still Owes info own f = cc

own_on_went : (here ending : Bool) (o : Option Begin) (s l x c info : List ℕ) (m : Carries) → OwnIf o s l x c m → OwnIf (if ending then None else o) (if here then s ++ info else s) l x c (carries_gone ending here m info)
own_on_went here true o s l x c info m h = λ e. cc
own_on_went true false o s l x c info m h = λ e.
    let r = h e in
    ((ap (λ n. carries_sent n info) r.0.0 ∙ sym (sends_on (Owns []) s info), r.0.1), λ f. r.1 (own_behind_still m info (of_own m s r.0.0) f))
own_on_went false false o s l x c info m h = h

own_on_flowed : (ending : Bool) (o : Option Begin) (s l x c : List ℕ) (m : Carries) → OwnIf o s l x c m → OwnIf (if ending then None else o) s l x c (if ending then Idle else m)
own_on_flowed true o s l x c m h = λ e. cc
own_on_flowed false o s l x c m h = h

own_on_began : (here : Bool) (new : Begin) (o : Option Begin) (s l x c : List ℕ) (m : Carries) → OwnIf o s l x c m → OwnIf (if here then Some new else o) (if here then [] else s) (if here then [] else l) (if here then [] else x) (if here then [] else c) (if here then begin_of new else m)
own_on_began true new o s l x c m h = λ e. rw (same_begin new ByOwnConnect e) ((refl, refl), λ f. refl)
own_on_began false new o s l x c m h = h

own_on_ended : (here : Bool) (o : Option Begin) (s l x c : List ℕ) (m : Carries) → OwnIf o s l x c m → OwnIf (if here then None else o) s l x c (if here then ended_by_call m else m)
own_on_ended true o s l x c m h = λ e. cc
own_on_ended false o s l x c m h = h

own_whole : (role : Role) (d : ℕ) (past : List Pass) → OwnIf (under_way role d past) (sent_since role d past) (lines_since role d past) (data_came role d past) (came_since role d past) (carries role d past)
own_whole role d [] = λ e. cc
own_whole role d (Came f ∷ past) = own_on_came (is_info role d past f) (ends_here role d past (station.Got f)) (drops_here role d past f) (under_way role d past) (sent_since role d past) (lines_since role d past) (data_came role d past) (came_since role d past) f.info (carries role d past) (own_whole role d past)
own_whole role d (Went f ∷ past) = own_on_went (is_info role d past f) (ends_here role d past (station.Sent f)) (under_way role d past) (sent_since role d past) (lines_since role d past) (data_came role d past) (came_since role d past) f.info (carries role d past) (own_whole role d past)
own_whole role d (Flowed f ∷ past) = own_on_flowed (ends_here role d past (station.Sent f)) (under_way role d past) (sent_since role d past) (lines_since role d past) (data_came role d past) (came_since role d past) (carries role d past) (own_whole role d past)
own_whole role d (Left f ∷ past) = own_whole role d past
own_whole role d (Lost ∷ past) = λ e. cc
own_whole role d (Began c new until ∷ past) = own_on_began (c == d) new (under_way role d past) (sent_since role d past) (lines_since role d past) (data_came role d past) (came_since role d past) (carries role d past) (own_whole role d past)
own_whole role d (EndedLane c ∷ past) = own_on_ended (c == d) (under_way role d past) (sent_since role d past) (lines_since role d past) (data_came role d past) (came_since role d past) (carries role d past) (own_whole role d past)
own_whole role d (Gave c octets ∷ past) = own_whole role d past
own_whole role d (Read c octets ∷ past) = own_whole role d past

-- ## Each lane

is_whole : (role : Role) (d : ℕ) (how : Begin) (past : List Pass) → is_by_own how ≡ false → under_way role d past ≡ Some how → IsWhole role how d past
is_whole role d how past own e =
    let h = whole role d how own past e in
    record { lines_are = h.0.0; data_are = h.0.1; stands = h.1 }

-- each lane under way is read as all of its octets since it began
pub lanes_are_whole : LanesAreWhole
unfolding LanesAreWhole
lanes_are_whole role d past AtOnce e = is_whole role d AtOnce past refl e
lanes_are_whole role d past ByConnect e = is_whole role d ByConnect past refl e
lanes_are_whole role d past ByPrompt e = is_whole role d ByPrompt past refl e
lanes_are_whole role d past ByOwnConnect e =
    let h = own_whole role d past e in
    record { stands = h.0.0; joins = h.0.1; none_before = h.1 }
