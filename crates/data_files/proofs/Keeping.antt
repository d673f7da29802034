-- What a lane that is over left is kept.
use Rattle.std.specs.Prelude.{◌≡◌, ℕ, ◌+◌, ◌-◌, ◌≤◌, ◌==◌, Bool, true, false, List, [], ◌∷◌, ◌++◌, drop, length, min, refl, take, Result, Ok, Err, IsOk, OnOk, is_ok, if◌then◌else◌}
use Rattle.std.proofs.Common.{ap, arith, sym, ◌∙◌, subst, true≢false}
use Rattle.std.proofs.lemmas.Bool.{and_from}
use Rattle.std.proofs.lemmas.List.{append_assoc, append-nil, drop-append-le, drop_all, length-append, length-drop, length-take, take-append-le, take_all}
use Rattle.serial_line.specs.LineViews.{LineView}
use Rattle.modem_data.specs.Switching.{is_behind_lines}
use Rattle.modem_data.specs.Passing.{Pass, Read, carries, unread}
use Rattle.modem_data.specs.PipeSets.{OfEachPast, PipeSet}
use Rattle.modem_data.specs.Hops.{Passed, passes}
use Rattle.modem_data_line.specs.DataLines.{DataLineState}
use Rattle.data_files.specs.Files.{FileFits, FileState, all_read}
use Rattle.data_files.specs.Moves.{FileMoves, KeepsLeft, KeepsOn, ReadsSome}
use Rattle.data_files.proofs.FileSteps.{lane_leads, same_dlci}

-- ## Octets behind others

both_nil : (xs ys : List ℕ) → xs ++ ys ≡ [] → (xs ≡ []) × (ys ≡ [])
both_nil [] [] e = (refl, refl)
both_nil [] (y ∷ ys) e = cc
both_nil (x ∷ xs) ys e = cc

-- where nothing waits no piece does
pub front_nil : (xs ys : List ℕ) → xs ++ ys ≡ [] → xs ≡ []
front_nil xs ys e = (both_nil xs ys e).0

-- and nothing is kept
pub back_nil : (zs xs ys : List ℕ) → xs ++ ys ≡ [] → zs ≡ zs ++ ys
back_nil zs xs ys e = sym (ap (λ (l : List ℕ). zs ++ l) (both_nil xs ys e).1 ∙ append-nil zs)

-- room was made behind them
pub cut_same : (len m : ℕ) (items zs : List ℕ) → len ≡ length items → take len (take (len + m) items ++ zs) ≡ items
cut_same len m items zs e =
    ap (λ (l : List ℕ). take len (l ++ zs)) (take_all (len + m) items (omega (arith, e)))
    ∙ (take-append-le len items zs (omega (arith, e)) ∙ take_all len items (omega (arith, e)))

-- others stand behind those of which some are gone
pub kept_more : (start : ℕ) (items more : List ℕ) → start ≤ length items → drop start (items ++ more) ≡ drop start items ++ more
kept_more start items more few = drop-append-le start items more few

-- octets from a place on, lent, are those that wait
pub tail_is : (start : ℕ) (xs ys : List ℕ) → xs ≡ ys → take (length xs - start) (drop start xs) ≡ drop start ys
tail_is start xs ys e =
    let long = length-drop start xs in
    take_all (length xs - start) (drop start xs) (omega (arith, long)) ∙ ap (λ (l : List ℕ). drop start l) e

-- behind the last octet none waits
pub none_left : (start len : ℕ) (items : List ℕ) → start ≡ len → len ≡ length items → drop start items ≡ []
none_left start len items e q = drop_all start items (omega (arith, e, q))

-- as many are read as wait, 512 at most
pub reads_some : (pipes : PipeSet) (d n m : ℕ) (before after room : List ℕ) → OfEachPast pipes (λ role past. n ≡ min (unread role d past) 512) → m ≡ min n 512
    → length room ≡ 512 → after ≡ before ++ take m room → ReadsSome pipes d before after
unfolding OfEachPast
reads_some pipes d n m before after room h least long is = λ role n1 ds past fits.
    let count = h role n1 ds past fits in
    let grew = ap length is ∙ length-append before (take m room) in
    let part = length-take m room in
    omega (arith, count, grew, part, least, long)

-- there was room for them
pub extended : {A E : Type 0} (r : Result A E) (items more next : List ℕ) → IsOk r → next ≡ (if is_ok r then items ++ more else items) → next ≡ items ++ more
extended (Ok x) items more next ok e = e
extended (Err x) items more next ok e = cc

-- and there is room for them
pub few_more : (len capacity n m : ℕ) (room : List ℕ) → len + 512 ≤ capacity → m ≡ min n 512 → len + length (take m room) ≤ capacity
few_more len capacity n m room fits least = let part = length-take m room in omega (arith, fits, least, part)

-- behind others
pub some_behind : (pipes : PipeSet) (d : ℕ) (front before after : List ℕ) → ReadsSome pipes d before after → ReadsSome pipes d (front ++ before) (front ++ after)
unfolding OfEachPast
some_behind pipes d front before after h = λ role n1 ds past fits.
    let more = h role n1 ds past fits in
    let one = length-append front before in
    let two = length-append front after in
    omega (arith, more, one, two)

-- what follows from a promise of a good result is promised of it too
pub on_ok : {A E P Q : Type 0} (r : Result A E) → (P → Q) → OnOk r P → OnOk r Q
on_ok (Ok x) f h = f h
on_ok (Err e) f h = tt

-- ## A file

kept_fits : {Y : Type 0} (look : Y → LineView) (f : FileState Y) (octets : List ℕ) (over : Bool) (past : List Pass) → FileFits look past f
    → FileFits look (Read f.dlci octets ∷ past) (record f { unwritten = f.unwritten ++ octets; is_over = over })
kept_fits look f octets over past h = record {
  given_are = h.given_are;
  read_are = rw (same_dlci f.dlci)
      (sym (append_assoc f.before.sent (all_read f.dlci past) octets) ∙ (ap (λ (xs : List ℕ). xs ++ octets) h.read_are ∙ append_assoc (look f.file).sent f.unwritten octets));
  renewals_are = h.renewals_are;
  dropped_are = h.dropped_are;
}

-- what is read and kept moves a file as a read of its connection does
pub keeps : {X Y : Type 0} (look : X → LineView) (file_look : Y → LineView) (v w : DataLineState X) (f h : FileState Y) → KeepsOn v.relay w.relay f.dlci f.unwritten h.unwritten
    → w ≡ record v { relay = w.relay } → h ≡ record f { unwritten = h.unwritten; is_over = h.is_over } → FileMoves look file_look v w f h
keeps look file_look v w f h k beside e = record {
  hops = Passed (Read f.dlci k.octets) ∷ [];
  only = and_from (f.dlci == f.dlci) true (same_dlci f.dlci) refl;
  leads = lane_leads look v w (Read f.dlci k.octets) k.read beside;
  dlci_is = ap (λ (x : FileState _). x.dlci) e;
  fits = λ role n1 ds b past fits x. subst (λ (y : FileState _). FileFits file_look (Read f.dlci k.octets ∷ passes past) y)
      (ap (λ (xs : List ℕ). record f { unwritten = xs; is_over = h.is_over }) (sym k.kept) ∙ sym e) (kept_fits file_look f k.octets h.is_over (passes past) x);
}

-- octets more make no fewer
pub longer : (before after octets : List ℕ) → after ≡ before ++ octets → length before ≤ length after
longer before after octets e = let long = ap length e ∙ length-append before octets in omega (arith, long)

-- some came, or none was left where no data is under way
pub keeps_left : (pipes : PipeSet) (d : ℕ) (before after : List ℕ) → ReadsSome pipes d before after → KeepsLeft pipes d before after
unfolding OfEachPast
keeps_left pipes d before after h = λ role n1 ds past fits under. h role n1 ds past fits

-- data is under way
pub under_way : (pipes : PipeSet) (d : ℕ) (before after : List ℕ) (is : Bool) → OfEachPast pipes (λ role past. is ≡ is_behind_lines (carries role d past)) → is ≡ true
    → KeepsLeft pipes d before after
unfolding OfEachPast
under_way pipes d before after is h e = λ role n1 ds past fits under. absurd (true≢false (sym e ∙ (h role n1 ds past fits ∙ under)))
