-- What is given leaves at once, where nothing is before it.
use Rattle.std.specs.Prelude.{◌≡◌, ◌≢◌, ℕ, ◌+◌, ◌-◌, ◌<◌, ◌≤◌, ◌==◌, ◌&&◌, ◌||◌, nat_le, nat_lt, min, Bool, true, false, if◌then◌else◌, IsTrue, List, [], ◌++◌, length, take, drop, refl, slice_index_or, slice_set}
use Rattle.std.proofs.Common.{ap, sym, ◌∙◌, subst, arith, take_all}
use Rattle.std.proofs.Math.Seq.{drop-length, take-add}
use Rattle.std.proofs.lemmas.Bool.{eqb-true, le-leb, ltb-true, ne_eqb}
use Rattle.std.proofs.lemmas.List.{set-get_or, set-set, get_or_default, get_or-set_same, get_or-set_other, length-set, nil_from_length, drop_all}
use Rattle.mux_frame.specs.Frames.{Frame}
use Rattle.mux_frame.specs.Spelling.{spelled}
use Rattle.mux_frame.specs.Deframing.{IsDeframed}
use Rattle.mux_station.specs.Opening.{is_open}
use Rattle.modem_data.specs.Switching.{Carries, Idle, Lines, Ended, Data, Prompts, Marked, Sends, Owes, Owns, Answered, lets_leave, takes_given}
use Rattle.modem_data.specs.DataLanes.{most_to_go}
use Rattle.modem_data.specs.Watching.{SaysMayLeave}
use Rattle.modem_data.specs.Passing.{Gave, carries, given, left, to_go, wire}
use Rattle.modem_data.specs.Pipes.{Pipe, HasNoneToSend, IsFree, Leads, LeadsLeft, MayLeave, data_of}
use Rattle.modem_data.specs.PipeSets.{PipeSet, AllLead, IsFreeAt, IsNext, LeavesInTurn, OfEachPast, comes_before}
use Rattle.modem_data.specs.Hops.{Relay, Hops, Passed, HoldsNothing, IsClear, IsWayThrough, SendsOut, sent, sent_more, sent_none}
use Rattle.modem_data.proofs.PipeCalls.{leads_gave, leads_left}
use Rattle.modem_data.proofs.PipeSetCalls.{leaves, let_at, none_leaves, one_gave, some_pipe}
use Rattle.modem_data.proofs.Relays.{holds_by, hops_gave}
use Rattle.modem_data.proofs.GoingOut.{leaves_out, more_are}

-- a pipe is free where the connection is open and not stopped, its lane lets what was given leave, and none waits
pub is_free : (v : Pipe) → v.watch.own.is_open ≡ true → lets_leave v.lane.carries ≡ true → SaysMayLeave v.watch true → (length v.lane.to_go == 0) ≡ true → IsFree v
is_free v up lets may none = record { is_open = up; lets = lets; may = may; none = none }

-- ## One pipe

-- a lane that lets what was given leave takes what is given
takes_too : (c : Carries) → lets_leave c ≡ true → takes_given c ≡ true
takes_too Data e = refl
takes_too Sends e = refl
takes_too Idle e = cc
takes_too (Lines kept) e = cc
takes_too (Ended by) e = cc
takes_too (Prompts starts) e = cc
takes_too Marked e = cc
takes_too Owes e = cc
takes_too (Owns kept) e = cc
takes_too Answered e = cc

-- the pipe once these octets were given
abbrev filled : Pipe → List ℕ → Pipe
filled p info = record p { lane = record p.lane { to_go = info } }

nothing : (p : Pipe) → IsFree p → p.lane.to_go ≡ []
nothing p free = nil_from_length p.lane.to_go (eqb-true (length p.lane.to_go) 0 free.none)

-- as many octets may be given as may wait
leads_filled : (p : Pipe) (info : List ℕ) → IsFree p → length info ≤ most_to_go → Leads p (filled p info) (Gave p.watch.dlci info)
leads_filled p info free few =
    let nil = nothing p free in
    let all : take (length info) info ≡ info = take_all (length info) info (omega arith) in
    let long = ap (λ (xs : List ℕ). length xs) nil in
    let is : record p.lane { to_go = info } ≡ record p.lane { to_go = p.lane.to_go ++ take (length info) info } = ap (λ (xs : List ℕ). record p.lane { to_go = xs }) (sym (ap (λ xs. xs ++ take (length info) info) nil ∙ all)) in
    subst (λ xs. Leads p (filled p info) (Gave p.watch.dlci xs)) all (leads_gave p (record p.lane { to_go = info }) info (length info) free.is_open (takes_too p.lane.carries free.lets) (omega (arith, long, few)) is)

-- they may leave
may_leave_now : (p : Pipe) (info : List ℕ) → IsFree p → 1 ≤ length info → MayLeave (filled p info)
may_leave_now p info free some = record { lets = free.lets; may = free.may; some = ne_eqb (length info) 0 (λ q. omega (arith, q, some)) }

-- and leave as one frame, behind which the pipe is as before
leads_emptied : (n1 : ℕ) (p : Pipe) (info : List ℕ) → IsFree p → 1 ≤ length info → length info ≤ n1 → LeadsLeft n1 (filled p info) p (data_of p info)
leads_emptied n1 p info free some few =
    let all : take n1 info ≡ info = take_all n1 info few in
    let is : p ≡ record p { lane = record p.lane { to_go = drop (length info) info } } = ap (λ (xs : List ℕ). record p { lane = record p.lane { to_go = xs } }) (nothing p free ∙ sym (drop-length info)) in
    subst (λ xs. LeadsLeft n1 (filled p info) p (data_of p xs)) all
    (leads_left n1 (filled p info) p (length info) (may_leave_now p info free some) (subst (λ (xs : List ℕ). IsTrue (nat_le 1 (length xs))) (sym all) (le-leb 1 (length info) some)) (subst (λ (xs : List ℕ). IsTrue (nat_le (length xs) n1)) (sym all) (le-leb (length info) n1 few)) is (drop-length info ∙ sym (drop_all n1 info few)))

-- ## All pipes

not_below : (n : ℕ) → nat_lt n n ≡ false
not_below n = at (nat_lt n n) refl
  where
    at : (b : Bool) → nat_lt n n ≡ b → nat_lt n n ≡ false
    at true e =
        let l = ltb-true n n e in
        absurd (omega (arith, l))
    at false e = e

-- no place comes before itself
not_itself : (turn place : ℕ) → comes_before turn place place ≡ false
not_itself turn place = at (nat_le turn place) (nat_lt place place) (not_below place)
  where
    at : (b x : Bool) → x ≡ false → (if b then b && x else (b || x)) ≡ false
    at true x e = e
    at false x e = e

module _ (v : PipeSet) (i d : ℕ) (info : List ℕ) (free : IsFreeAt v i d) where
  abbrev old : Pipe
  old = slice_index_or v.each i (some_pipe v.each i free.there)

  is_free_here : IsFree old
  is_free_here = free.free (some_pipe v.each i free.there)

  here : old.watch.dlci ≡ d
  here = free.here (some_pipe v.each i free.there)

  abbrev new : Pipe
  new = filled old info

  abbrev mid : PipeSet
  mid = record v { each = slice_set v.each i new }

  old_at : (z : Pipe) → slice_index_or v.each i z ≡ old
  old_at z = get_or_default v.each i z (some_pipe v.each i free.there) free.there

  gave_mid : length info ≤ most_to_go → AllLead v mid (Gave d info)
  gave_mid few =
      let leads = subst (λ e. Leads old new (Gave e info)) here (leads_filled old info is_free_here few) in
      one_gave v mid i new d info free.there (free.here new) (subst (λ (p : Pipe). Leads p new (Gave d info)) (sym (old_at new)) leads) (ap (λ (p : Pipe). p.watch) (sym (old_at new))) refl

  next_mid : 1 ≤ length info → ((j : ℕ) (p : Pipe) → j < length v.each → HasNoneToSend (slice_index_or v.each j p)) → IsNext mid i
  next_mid some none = record {
    there = subst (λ n. i < n) (sym (length-set v.each i new)) free.there;
    may = λ z. subst MayLeave (sym (get_or-set_same v.each i new z free.there)) (may_leave_now old info is_free_here some);
    none_before = λ j z short before.
        let other : j ≢ i = λ q.
        let x : false ≡ true = sym (not_itself v.turn i) ∙ subst (λ k. comes_before v.turn k i ≡ true) q before in
        cc in
        subst HasNoneToSend (sym (get_or-set_other v.each i j new z other)) (none j z (subst (λ n. j < n) (length-set v.each i new) short));
  }

  leaves_mid : (n1 : ℕ) → 1 ≤ length info → length info ≤ n1 → ((j : ℕ) (p : Pipe) → j < length v.each → HasNoneToSend (slice_index_or v.each j p)) → LeavesInTurn n1 mid (record v { turn = i + 1 }) (data_of old info)
  leaves_mid n1 some few none =
      let now : slice_index_or mid.each i old ≡ new = get_or-set_same v.each i new old free.there in
      let back : v.each ≡ slice_set mid.each i old = sym (set-set v.each i new old ∙ set-get_or v.each i (some_pipe v.each i free.there)) in
      leaves n1 mid (record v { turn = i + 1 }) i old (data_of old info) (next_mid some none) (subst (λ (p : Pipe). LeadsLeft n1 p old (data_of old info)) (sym now) (leads_emptied n1 old info is_free_here some few)) (ap (λ (p : Pipe). p.watch.dlci) (sym now)) (ap (λ (p : Pipe). p.watch) (sym now)) back refl refl

-- ## The relay

-- what is given leaves as one frame at once
pub passes_through : (v w : Relay) (i d : ℕ) (info octets : List ℕ) (f : Frame) → IsDeframed → IsClear v → 1 ≤ length info → length info ≤ most_to_go → length info ≤ v.outer.n1 → ((p : Pipe) → f ≡ data_of (slice_index_or v.pipes.each i p) info) → w ≡ record v { pipes = record v.pipes { turn = i + 1 } } → octets ≡ spelled f → IsFreeAt v.pipes i d → SendsOut v w d info octets
passes_through v w i d info octets f law clear some few short frame is written free =
    let between : Relay = record v { pipes = mid v.pipes i d info free } in
    let gave : Hops v between (Passed (Gave d info)) = hops_gave v between d info (gave_mid v.pipes i d info free few) refl in
    let leaves = leaves_mid v.pipes i d info free v.outer.n1 some short clear.none_to_send in
    let same : w.pipes ≡ record v.pipes { turn = i + 1 } = ap (λ (x : Relay). x.pipes) is in
    let as_is : f ≡ data_of (old v.pipes i d info free) info = frame (some_pipe v.pipes.each i free.there) in
    let led = subst (λ (ps : PipeSet). LeavesInTurn v.outer.n1 between.pipes ps f) (sym same) (subst (λ (g : Frame). LeavesInTurn v.outer.n1 between.pipes (record v.pipes { turn = i + 1 }) g) (sym as_is) leaves) in
    let on : w ≡ record between { pipes = w.pipes } = is ∙ ap (λ (ps : PipeSet). record v { pipes = ps }) (sym same) in
    sent v between w d info octets gave (leaves_out between w f octets law clear.first clear.none_wait led on written)

-- ## Frame by frame

-- at first none went
pub none_sent : (v : Relay) (d : ℕ) → SendsOut v v d [] []
none_sent v d = sent_none v d

-- a frame more went
pub more_sent : (v w x : Relay) (d taken more m n : ℕ) (gave old new : List ℕ) → m ≤ length old → SendsOut v w d (take taken gave) (take m old) → SendsOut w x d (take more (drop taken gave)) (take n new) → SendsOut v x d (take (taken + more) gave) (take (m + n) (take m old ++ new))
more_sent v w x d taken more m n gave old new few first later =
    subst (λ xs. SendsOut v x d xs (take (m + n) (take m old ++ new))) (sym (take-add taken more gave))
    (subst (λ xs. SendsOut v x d (take taken gave ++ take more (drop taken gave)) xs) (sym (more_are m n old new few)) (sent_more v w x d (take taken gave) (take m old) (take more (drop taken gave)) (take n new) first later))

-- the turns alone have changed so far, and change by the next frame
pub turned : (v w x : Relay) (t : ℕ) → w ≡ record v { pipes = record v.pipes { turn = w.pipes.turn } } → x ≡ record w { pipes = record w.pipes { turn = t } } → x ≡ record v { pipes = record v.pipes { turn = x.pipes.turn } }
turned v w x t same is = is ∙ (ap (λ (r : Relay). record r { pipes = record r.pipes { turn = t } }) same ∙ ap (λ k. record v { pipes = record v.pipes { turn = k } }) (sym (ap (λ (r : Relay). r.pipes.turn) is)))

-- ## What is answered

-- what holds anyhow holds of each past
pub each_past : (v : PipeSet) (P : Type 0) → P → OfEachPast v (λ role past. P)
unfolding OfEachPast
each_past v P h role n1 ds past fits = h

-- as many were taken as may wait with those that did, so no more than there were
pub few_taken : (v : PipeSet) (d count many : ℕ) → OfEachPast v (λ role past. count ≡ min many (most_to_go - (length (given d past) - length (left d past)))) → OfEachPast v (λ role past. count ≤ many)
unfolding OfEachPast
few_taken v d count many is role n1 ds past fits =
    let h = is role n1 ds past fits in
    omega (arith, h)

-- and where there were some, none only where as many wait as may
pub full_where_none : (v : PipeSet) (d count many : ℕ) → OfEachPast v (λ role past. count ≡ min many (most_to_go - (length (given d past) - length (left d past)))) → count ≡ 0 → 0 < many → OfEachPast v (λ role past. most_to_go ≤ to_go d past)
unfolding OfEachPast
full_where_none v d count many is none some role n1 ds past fits =
    let h = is role n1 ds past fits in
    omega (arith, h, none, some)

-- where nothing was before data, and nothing was sent, nothing may go
pub still_holds : (v y x : Relay) (place d : ℕ) → IsDeframed → IsWayThrough v place d → y ≡ v → x ≡ y → HoldsNothing x
still_holds v y x place d law way same still = holds_by v v x law way.clear.none_wait way.clear.first way.none_due refl (none_leaves v.pipes way.clear.none_to_send) (still ∙ same)

-- a connection whose pipe is free is open, and takes what is given
pub free_lets : (v : PipeSet) (i d : ℕ) → IsFreeAt v i d → OfEachPast v (λ role past. (is_open role d (wire past) ≡ true) × (takes_given (carries role d past) ≡ true))
free_lets v i d free =
    let p = some_pipe v.each i free.there in
    let is = free.free p in
    let_at v i p d free.there (free.here p) is.is_open (takes_too (slice_index_or v.each i p).lane.carries is.lets)

-- where fewer were taken than there were, as many wait with them as may
pub full_with_taken : (v : PipeSet) (d count many : ℕ) → OfEachPast v (λ role past. count ≡ min many (most_to_go - (length (given d past) - length (left d past)))) → count < many → OfEachPast v (λ role past. most_to_go ≤ to_go d past + count)
unfolding OfEachPast
full_with_taken v d count many is fewer role n1 ds past fits =
    let h = is role n1 ds past fits in
    omega (arith, h, fewer)
