-- A file goes on, and has its turn.
use Rattle.std.specs.Prelude.{◌≡◌, ◌≢◌, ◌==◌, ◌&&◌, ℕ, ◌+◌, ◌-◌, ◌<◌, ◌≤◌, nat_lt, Bool, true, false, List, [], ◌∷◌, ◌++◌, drop, length, min, Result, Ok, Err, IfOk, OnErr, OnOk, if◌then◌else◌, refl}
use Rattle.std.proofs.Common.{ap, arith, inl, inr, sym, subst, ◌∙◌, true≢false}
use Rattle.std.proofs.lemmas.Bool.{lt-ltb}
use Rattle.std.proofs.lemmas.List.{length-append, length-drop}
use Rattle.mux_station.specs.declared.role.Role.{Role}
use Rattle.serial_line.specs.Counts.{one_more, counted_if_none}
use Rattle.serial_line.specs.declared.line.LineFault.{LineFault}
use Rattle.serial_line.specs.LineViews.{LineView}
use Rattle.modem_data.specs.declared.error.DataError.{DataError}
use Rattle.modem_data.specs.DataLanes.{most_to_go}
use Rattle.modem_data.specs.Passing.{Gave, IsOver, to_go, unread}
use Rattle.modem_data.specs.PipeSets.{IsNotData, NoneOf, OfEachPast}
use Rattle.modem_data.specs.Hops.{Hop, Passed, passes}
use Rattle.modem_data_line.specs.DataLines.{Before, DataLineState, LineFits}
use Rattle.data_files.specs.Files.{FileState}
use Rattle.data_files.specs.Moves.{FileGrows, GaveFirst, GivesOn, HasRoom, IsAskedFile, IsKept, IsOfferedFile, IsUnread, KeepsUnread, ReadsOn, StaysOver}
use Rattle.data_files.proofs.FileSteps.{lane_leads}

-- ## Counts

kept_if : (b : Bool) (e0 e1 : ℕ) → e1 ≡ (if b then one_more e0 else e0) → IsKept e0 e1
kept_if true e0 e1 q = omega (arith, q)
kept_if false e0 e1 q = omega (arith, q)

-- a count of calls that moved nothing doesn't fall by one more call
pub kept_counted : (could n e0 e1 : ℕ) → e1 ≡ counted_if_none could n e0 → IsKept e0 e1
kept_counted could n e0 e1 q = kept_if (nat_lt 0 could && (n == 0)) e0 e1 q

-- nor by none
pub kept_same : (e0 e1 : ℕ) → e1 ≡ e0 → IsKept e0 e1
kept_same e0 e1 q = omega (arith, q)

-- a call that could move octets and moved none is counted
pub none_stalled : (could n e0 e1 : ℕ) → e1 ≡ counted_if_none could n e0 → n ≡ 0 → 0 < could → one_more e0 ≤ e1
none_stalled could n e0 e1 e none some =
    let rises : e1 ≡ one_more e0 = e ∙ (ap (λ (k : ℕ). counted_if_none could k e0) none ∙ ap (λ (b : Bool). if b && (0 == 0) then one_more e0 else e0) (lt-ltb 0 could some)) in
    omega (arith, rises)

-- ## One step

-- nothing happened to the file
pub grows_none : {Y : Type 0} (look : Y → LineView) (f : FileState Y) → FileGrows look f f
grows_none look f = record {
  came = omega arith;
  given = omega arith;
  went = omega arith;
  read = omega arith;
  empty = omega arith;
  stalled = omega arith;
  renewed = omega arith;
  ended = λ q. q;
  broken = λ q. q;
}

-- fewer of its octets wait
pub fewer_grows : {Y : Type 0} (look : Y → LineView) (f h : FileState Y) → h ≡ record f { ungiven = h.ungiven }
    → length h.ungiven ≤ length f.ungiven → FileGrows look f h
fewer_grows look f h is fewer =
    let came : length (look h.file).received ≡ length (look f.file).received = ap (λ (x : FileState _). length (look x.file).received) is in
    let went : length (look h.file).sent ≡ length (look f.file).sent = ap (λ (x : FileState _). length (look x.file).sent) is in
    let waits : length h.unwritten ≡ length f.unwritten = ap (λ (x : FileState _). length x.unwritten) is in
    record {
      came = omega (arith, came);
      given = omega (arith, came, fewer);
      went = omega (arith, went);
      read = omega (arith, went, waits);
      empty = kept_same (look f.file).empty_reads (look h.file).empty_reads (ap (λ (x : FileState _). (look x.file).empty_reads) is);
      stalled = kept_same (look f.file).stalled_writes (look h.file).stalled_writes (ap (λ (x : FileState _). (look x.file).stalled_writes) is);
      renewed = kept_same f.renewals h.renewals (ap (λ (x : FileState _). x.renewals) is);
      ended = λ q. ap (λ (x : FileState _). x.has_ended) is ∙ q;
      broken = λ q. ap (λ (x : FileState _). x.is_broken) is ∙ q;
    }

-- more wait for it
pub more_grows : {Y : Type 0} (look : Y → LineView) (f h : FileState Y) → h ≡ record f { unwritten = h.unwritten; is_over = h.is_over }
    → length f.unwritten ≤ length h.unwritten → FileGrows look f h
more_grows look f h is more =
    let came : length (look h.file).received ≡ length (look f.file).received = ap (λ (x : FileState _). length (look x.file).received) is in
    let went : length (look h.file).sent ≡ length (look f.file).sent = ap (λ (x : FileState _). length (look x.file).sent) is in
    let waits : length h.ungiven ≡ length f.ungiven = ap (λ (x : FileState _). length x.ungiven) is in
    record {
      came = omega (arith, came);
      given = omega (arith, came, waits);
      went = omega (arith, went);
      read = omega (arith, went, more);
      empty = kept_same (look f.file).empty_reads (look h.file).empty_reads (ap (λ (x : FileState _). (look x.file).empty_reads) is);
      stalled = kept_same (look f.file).stalled_writes (look h.file).stalled_writes (ap (λ (x : FileState _). (look x.file).stalled_writes) is);
      renewed = kept_same f.renewals h.renewals (ap (λ (x : FileState _). x.renewals) is);
      ended = λ q. ap (λ (x : FileState _). x.has_ended) is ∙ q;
      broken = λ q. ap (λ (x : FileState _). x.is_broken) is ∙ q;
    }

fewer_by : (r : Result ℕ LineFault) (xs ys : List ℕ) → IfOk r (λ n. ys ≡ drop n xs) → OnErr r (ys ≡ xs) → length ys ≤ length xs
fewer_by (Ok n) xs ys rest same = let long = ap length rest ∙ length-drop n xs in omega (arith, long)
fewer_by (Err why) xs ys rest same = let long = ap length same in omega (arith, long)

-- a write to the file
pub write_grows : {Y : Type 0} (look : Y → LineView) (f h : FileState Y) (r : Result ℕ LineFault) → (look h.file).received ≡ (look f.file).received → (look h.file).empty_reads ≡ (look f.file).empty_reads
    → (look h.file).sent ++ h.unwritten ≡ (look f.file).sent ++ f.unwritten → IfOk r (λ n. h.unwritten ≡ drop n f.unwritten) → OnErr r (h.unwritten ≡ f.unwritten)
    → IsKept (look f.file).stalled_writes (look h.file).stalled_writes → (f.is_broken ≡ true → h.is_broken ≡ true)
    → h ≡ record f { file = h.file; unwritten = h.unwritten; is_broken = h.is_broken } → FileGrows look f h
write_grows look f h r came empty split rest same stalled broken is =
    let none_came : length (look h.file).received ≡ length (look f.file).received = ap length came in
    let waits : length h.ungiven ≡ length f.ungiven = ap (λ (x : FileState _). length x.ungiven) is in
    let fewer : length h.unwritten ≤ length f.unwritten = fewer_by r f.unwritten h.unwritten rest same in
    let whole : length (look h.file).sent + length h.unwritten ≡ length (look f.file).sent + length f.unwritten =
    sym (length-append (look h.file).sent h.unwritten) ∙ (ap length split ∙ length-append (look f.file).sent f.unwritten) in
    record {
      came = omega (arith, none_came);
      given = omega (arith, none_came, waits);
      went = omega (arith, whole, fewer);
      read = omega (arith, whole);
      empty = kept_same (look f.file).empty_reads (look h.file).empty_reads empty;
      stalled = stalled;
      renewed = kept_same f.renewals h.renewals (ap (λ (x : FileState _). x.renewals) is);
      ended = λ q. ap (λ (x : FileState _). x.has_ended) is ∙ q;
      broken = broken;
    }

-- ## One behind the other

-- a file that goes on twice goes on
pub grows_then : {Y : Type 0} (look : Y → LineView) (f h k : FileState Y) → FileGrows look f h → FileGrows look h k → FileGrows look f k
grows_then look f h k one two = record {
  came = let a = one.came in let b = two.came in omega (arith, a, b);
  given = let a = one.given in let b = two.given in omega (arith, a, b);
  went = let a = one.went in let b = two.went in omega (arith, a, b);
  read = let a = one.read in let b = two.read in omega (arith, a, b);
  empty = let a = one.empty in let b = two.empty in omega (arith, a, b);
  stalled = let a = one.stalled in let b = two.stalled in omega (arith, a, b);
  renewed = let a = one.renewed in let b = two.renewed in omega (arith, a, b);
  ended = λ q. two.ended (one.ended q);
  broken = λ q. two.broken (one.broken q);
}

-- ## What waits to be read stays where octets are given

-- the line is the same
pub unread_same : {X : Type 0} (look : X → LineView) (v w : DataLineState X) (d : ℕ) → w ≡ v → KeepsUnread look v w d
unread_same look v w d e = λ role n1 ds b past h. record { behind = past; fits = subst (λ (x : DataLineState _). LineFits look role n1 ds b x past) (sym e) h; same = refl }

-- octets were given on d
pub unread_given : {X : Type 0} (look : X → LineView) (v w : DataLineState X) (d : ℕ) (before after : List ℕ) → GaveFirst v.relay w.relay d before after
    → w ≡ record v { relay = w.relay } → KeepsUnread look v w d
unread_given look v w d before after h e = λ role n1 ds b past x. record {
  behind = Passed (Gave d h.octets) ∷ past;
  fits = lane_leads look v w (Gave d h.octets) h.gave e role n1 ds b past x;
  same = refl;
}

-- or the call that gives them was refused
pub unread_or : {X : Type 0} (look : X → LineView) (v w : DataLineState X) (d : ℕ) (before after : List ℕ) (result : Result ℕ DataError)
    → OnOk result (GaveFirst v.relay w.relay d before after) → OnErr result ((w ≡ v) × (after ≡ before)) → w ≡ record v { relay = w.relay } → KeepsUnread look v w d
unread_or look v w d before after (Ok n) gave err beside = unread_given look v w d before after gave beside
unread_or look v w d before after (Err why) gave err beside = unread_same look v w d err.0

-- ## A turn

some_length : (xs : List ℕ) → xs ≢ [] → 0 < length xs
some_length [] some = absurd (some refl)
some_length (x ∷ xs) some = omega arith

gave_some : {X : Type 0} (look : X → LineView) (role : Role) (n1 : ℕ) (ds : List ℕ) (b : Before) (v : DataLineState X) (past : List Hop) (d : ℕ) (before after : List ℕ)
    → LineFits look role n1 ds b v past → HasRoom role d (passes past) → (NoneOf ds d → ⊥) → before ≢ [] → GivesOn v.relay.pipes d before after → length after < length before
unfolding OfEachPast IsNotData
gave_some look role n1 ds b v past d before after fits room among some (inl none) = absurd (among (none role n1 ds (passes past) fits.relay_fits.pipes_fit))
gave_some look role n1 ds b v past d before after fits room among some (inr on) =
    let rest : after ≡ drop (min (length before) (most_to_go - to_go d (passes past))) before =
    on role n1 ds (passes past) fits.relay_fits.pipes_fit room.takes room.open_there in
    let long : length after ≡ length before - min (length before) (most_to_go - to_go d (passes past)) =
    ap length rest ∙ length-drop (min (length before) (most_to_go - to_go d (passes past))) before in
    let there = some_length before some in
    let space = room.room in
    omega (arith, long, there, space)

read_some : {X : Type 0} (look : X → LineView) (role : Role) (n1 : ℕ) (ds : List ℕ) (b : Before) (v : DataLineState X) (past : List Hop) (d : ℕ) (octets : List ℕ)
    → LineFits look role n1 ds b v past → (NoneOf ds d → ⊥) → 0 < unread role d (passes past) → ReadsOn v.relay.pipes d octets → 0 < length octets
unfolding OfEachPast IsNotData IsUnread
read_some look role n1 ds b v past d octets fits among some (inl none) = absurd (among (none role n1 ds (passes past) fits.relay_fits.pipes_fit))
read_some look role n1 ds b v past d octets fits among some (inr count) =
    let long = count role n1 ds (passes past) fits.relay_fits.pipes_fit in
    omega (arith, long, some)

-- a file that was asked, and went on, was asked
pub asked_later : {Y : Type 0} (look : Y → LineView) (f h k : FileState Y) → IsAskedFile look f h → FileGrows look h k → IsAskedFile look f k
asked_later look f h k (inl x) on = inl (on.ended x)
asked_later look f h k (inr (inl x)) on = inr (inl (let more = on.came in omega (arith, x, more)))
asked_later look f h k (inr (inr x)) on = inr (inr (let more = on.empty in omega (arith, x, more)))

-- one that was offered octets, and went on, was offered them
pub offered_later : {Y : Type 0} (look : Y → LineView) (f h k : FileState Y) → IsOfferedFile look f h → FileGrows look h k → IsOfferedFile look f k
offered_later look f h k (inl x) on = inl (on.broken x)
offered_later look f h k (inr (inl x)) on = inr (inl (let more = on.went in omega (arith, x, more)))
offered_later look f h k (inr (inr x)) on = inr (inr (let more = on.stalled in omega (arith, x, more)))

offered_earlier : {Y : Type 0} (look : Y → LineView) (f h k : FileState Y) → FileGrows look f h → IsOfferedFile look h k → IsOfferedFile look f k
offered_earlier look f h k on (inl x) = inl x
offered_earlier look f h k on (inr (inl x)) = inr (inl (let more = on.went in omega (arith, x, more)))
offered_earlier look f h k on (inr (inr x)) = inr (inr (let more = on.stalled in omega (arith, x, more)))

-- f before, a behind its read, b behind what was given, c behind what was taken, h behind its write
pub record Steps {X Y : Type 0} (look : X → LineView) (file_look : Y → LineView) (u v : DataLineState X) (f a b c h : FileState Y) : Type 0 where
  pub asks : f.ungiven ≡ [] → f.has_ended ≡ false → IsAskedFile file_look f a
  pub still : f.ungiven ≢ [] → a ≡ f
  pub a_is : a ≡ record f { file = a.file; ungiven = a.ungiven; has_ended = a.has_ended }
  pub a_grows : FileGrows file_look f a
  pub gives : GivesOn u.relay.pipes a.dlci a.ungiven b.ungiven
  pub keeps : KeepsUnread look u v a.dlci
  pub b_is : b ≡ record a { ungiven = b.ungiven }
  pub fewer : length b.ungiven ≤ length a.ungiven
  pub reads : b.unwritten ≡ [] → ReadsOn v.relay.pipes b.dlci c.unwritten
  pub kept : b.unwritten ≢ [] → c ≡ b
  pub c_is : c ≡ record b { unwritten = c.unwritten; is_over = c.is_over }
  pub more : length b.unwritten ≤ length c.unwritten
  pub offers : c.unwritten ≢ [] → IsOfferedFile file_look c h
  pub h_grows : FileGrows file_look c h

-- a lane that is over and read begins anew
pub not_over : {X : Type 0} (look : X → LineView) (role : Role) (n1 : ℕ) (ds : List ℕ) (b : Before) (v : DataLineState X) (past : List Hop) (d : ℕ) (renews : Bool)
    → LineFits look role n1 ds b v past → (NoneOf ds d → ⊥) → renews ≡ true → IsOver role d (passes past) → StaysOver renews v.relay.pipes d → ⊥
unfolding OfEachPast IsNotData
not_over look role n1 ds b v past d renews fits among is over (inl never) = true≢false (sym is ∙ never)
not_over look role n1 ds b v past d renews fits among is over (inr (inl none)) = among (none role n1 ds (passes past) fits.relay_fits.pipes_fit)
not_over look role n1 ds b v past d renews fits among is over (inr (inr stays)) = stays role n1 ds (passes past) fits.relay_fits.pipes_fit over

-- a turn in which no lane began
pub record Turned {X Y : Type 0} (look : X → LineView) (file_look : Y → LineView) (role : Role) (n1 : ℕ) (ds : List ℕ) (p : Before) (v : DataLineState X) (f h : FileState Y) : Type 0 where
  pub asked : f.ungiven ≡ [] → f.has_ended ≡ false → IsAskedFile file_look f h
  pub given : f.ungiven ≢ [] → (past : List Hop) → LineFits look role n1 ds p v past → HasRoom role f.dlci (passes past)
      → length (file_look f.file).received + length h.ungiven < length (file_look h.file).received + length f.ungiven
  pub read : f.unwritten ≡ [] → (past : List Hop) → LineFits look role n1 ds p v past → 0 < unread role f.dlci (passes past)
      → length (file_look f.file).sent + length f.unwritten < length (file_look h.file).sent + length h.unwritten
  pub offered : f.unwritten ≢ [] → IsOfferedFile file_look f h
  pub grows : FileGrows file_look f h

-- these steps are a turn in which no lane began
pub had_turn : {X Y : Type 0} (look : X → LineView) (file_look : Y → LineView) (u v : DataLineState X) (f a b c h : FileState Y)
    → Steps look file_look u v f a b c h → (role : Role) (n1 : ℕ) (ds : List ℕ) (p : Before) → (NoneOf ds f.dlci → ⊥) → Turned look file_look role n1 ds p u f h
had_turn look file_look u v f a b c h x role n1 ds p among = record {
  asked = λ none more. asked_later file_look f a h (x.asks none more) (grows_then file_look a c h ac x.h_grows);
  given = λ some past fits room.
      let same : a ≡ f = x.still some in
      let on : GivesOn u.relay.pipes f.dlci f.ungiven b.ungiven =
      subst (λ (y : FileState _). GivesOn u.relay.pipes y.dlci y.ungiven b.ungiven) same x.gives in
      let lower = gave_some look role n1 ds p u past f.dlci f.ungiven b.ungiven fits room among some on in
      let file : length (file_look b.file).received ≡ length (file_look f.file).received =
      ap (λ (y : FileState _). length (file_look y.file).received) x.b_is ∙ ap (λ (y : FileState _). length (file_look y.file).received) same in
      let rest = (grows_then file_look b c h bc x.h_grows).given in
      omega (arith, lower, file, rest);
  read = λ none past fits some.
      let on = x.keeps role n1 ds p past fits in
      let there : 0 < unread role f.dlci (passes on.behind) =
      subst (λ (d : ℕ). 0 < unread role d (passes on.behind)) dlci_a (subst (λ (n : ℕ). 0 < n) (sym on.same) (subst (λ (d : ℕ). 0 < unread role d (passes past)) (sym dlci_a) some)) in
      let got : ReadsOn v.relay.pipes f.dlci c.unwritten =
      subst (λ (d : ℕ). ReadsOn v.relay.pipes d c.unwritten) (ap (λ (y : FileState _). y.dlci) x.b_is ∙ dlci_a) (x.reads (waits ∙ none)) in
      let came = read_some look role n1 ds p v on.behind f.dlci c.unwritten on.fits among there got in
      let first : length f.unwritten ≡ 0 = ap length none in
      let before = (grows_then file_look f a c x.a_grows ac).went in
      let rest = x.h_grows.read in
      omega (arith, came, first, before, rest);
  offered = λ some.
      let kept : c ≡ b = x.kept (λ q. some (sym waits ∙ q)) in
      let still_some : c.unwritten ≢ [] = λ q. some (sym (ap (λ (y : FileState _). y.unwritten) kept ∙ waits) ∙ q) in
      offered_earlier file_look f c h (grows_then file_look f a c x.a_grows ac) (x.offers still_some);
  grows = grows_then file_look f a h x.a_grows (grows_then file_look a c h ac x.h_grows);
}
  where
    dlci_a : a.dlci ≡ f.dlci
    dlci_a = ap (λ (y : FileState _). y.dlci) x.a_is

    waits : b.unwritten ≡ f.unwritten
    waits = ap (λ (y : FileState _). y.unwritten) x.b_is ∙ ap (λ (y : FileState _). y.unwritten) x.a_is

    ab : FileGrows file_look a b
    ab = fewer_grows file_look a b x.b_is x.fewer

    bc : FileGrows file_look b c
    bc = more_grows file_look b c x.c_is x.more

    ac : FileGrows file_look a c
    ac = grows_then file_look a b c ab bc
