-- The lane of a file's connection is over and read, and begins anew.
use Rattle.std.specs.Prelude.{◌≡◌, ◌≢◌, ◌⊎◌, ℕ, ◌+◌, ◌-◌, ◌^◌, ◌<◌, ◌==◌, Bool, true, false, List, [], ◌∷◌, Result, Err, length, min, refl, slice_index_or}
use Rattle.std.proofs.Common.{ap, arith, inl, inr, sym, subst, true≢false, ◌∙◌}
use Rattle.std.proofs.lemmas.Bool.{and_from}
use Rattle.std.proofs.lemmas.List.Elements.{All-get_or}
use Rattle.mux_station.specs.declared.role.Role.{Role}
use Rattle.serial_line.specs.LineViews.{LineView}
use Rattle.modem_data.specs.declared.begin.Begin.{Begin}
use Rattle.modem_data.specs.declared.begin.Until.{Until}
use Rattle.serial_line.specs.Counts.{one_more}
use Rattle.modem_data.specs.declared.error.DataError.{DataError}
use Rattle.modem_data.specs.declared.error.DataError.TheVariants as error
use Rattle.modem_data.specs.Switching.{Idle, is_idle, takes_given}
use Rattle.modem_data.specs.Passing.{Pass, Began, IsOver, LawfulPasses, carries, data_came, data_read, to_go}
use Rattle.modem_data.specs.PipeSets.{IsAmong, IsNotData, NoneOf, OfEachPast, PipeSet}
use Rattle.modem_data.specs.Hops.{Hop, LawfulHops, Passed, passes}
use Rattle.modem_data_line.specs.DataLines.{Before, DataLineState, LineFits}
use Rattle.data_files.specs.Files.{FileFits, FileState}
use Rattle.data_files.specs.Moves.{FileMoves, HadTurn, IsUnsent, Renews, StaysOver}
use Rattle.data_files.proofs.FileSteps.{lane_leads, moves_same, same_dlci}
use Rattle.data_files.proofs.Growing.{Turned, not_over}

-- what a begin is refused with isn't a lane that is over and read
pub stays_over : {A : Type 0} (pipes : PipeSet) (d : ℕ) (renews : Bool) (r : Result A DataError)
    → (r ≡ Err error.NotData) ⊎ ((r ≡ Err error.UnderWay) ⊎ (r ≡ Err error.Unread)) → (r ≡ Err error.NotData → IsNotData pipes d)
    → (r ≡ Err error.UnderWay → OfEachPast pipes (λ role past. is_idle (carries role d past) ≡ false))
    → (r ≡ Err error.Unread → OfEachPast pipes (λ role past. (carries role d past ≡ Idle) × (data_read d past ≢ data_came role d past)))
    → StaysOver renews pipes d
unfolding OfEachPast
stays_over pipes d renews r (inl x) none under unread = inr (inl (none x))
stays_over pipes d renews r (inr (inl x)) none under unread =
    inr (inr (λ role n1 ds past fits over. true≢false (sym (ap is_idle over.idle) ∙ under x role n1 ds past fits)))
stays_over pipes d renews r (inr (inr x)) none under unread = inr (inr (λ role n1 ds past fits over. (unread x role n1 ds past fits).1 over.all_read))

-- ## It began

-- one that is among all isn't none of them
among_not : (ds : List ℕ) (d : ℕ) → IsAmong ds (length ds) d → NoneOf ds d → ⊥
unfolding NoneOf
among_not ds d a none =
    let other : (slice_index_or ds a.place 0 == d) ≡ false = All-get_or (λ (c : ℕ). (c == d) ≡ false) ds a.place 0 a.there none in
    true≢false (sym (same_dlci d) ∙ (ap (λ (c : ℕ). c == d) (sym (a.here 0)) ∙ other))

began_among : {X : Type 0} (look : X → LineView) (role : Role) (n1 : ℕ) (ds : List ℕ) (b : Before) (w : DataLineState X) (past : List Hop) (d : ℕ) (how : Begin) (until : Until)
    → LineFits look role n1 ds b w (Passed (Began d how until) ∷ past) → IsAmong ds (length ds) d
unfolding LawfulHops
began_among look role n1 ds b w past d how until fits = fits.relay_fits.lawful.0

began_over : {X : Type 0} (look : X → LineView) (role : Role) (n1 : ℕ) (ds : List ℕ) (b : Before) (w : DataLineState X) (past : List Hop) (d : ℕ) (how : Begin) (until : Until)
    → LineFits look role n1 ds b w (Passed (Began d how until) ∷ past) → IsOver role d (passes past)
unfolding LawfulPasses
began_over look role n1 ds b w past d how until fits = fits.relay_fits.pipes_fit.lawful.0

-- ## What it comes to

-- the line with the lane begun
leads_begun : {X Y : Type 0} (look : X → LineView) (v w : DataLineState X) (f h : FileState Y) → Renews v w f h → (role : Role) (n1 : ℕ) (ds : List ℕ) (b : Before) (past : List Hop)
    → LineFits look role n1 ds b v past → LineFits look role n1 ds b w (Passed (Began f.dlci f.how f.until) ∷ past)
leads_begun look v w f h x = lane_leads look v w (Began f.dlci f.how f.until) x.begins x.beside

kept_is : {X Y : Type 0} (look : X → LineView) (v w : DataLineState X) (f h : FileState Y) (x : Renews v w f h) (role : Role) (n1 : ℕ) (ds : List ℕ) (b : Before) (past : List Hop)
    → LineFits look role n1 ds b v past → x.kept ≡ to_go f.dlci (passes past)
unfolding IsNotData OfEachPast
kept_is {X} {Y} look v w f h x role n1 ds b past fits = by x.kept_are
  where
    by : IsUnsent v.relay.pipes f.dlci x.kept → x.kept ≡ to_go f.dlci (passes past)
    by (inl none) = absurd (among_not ds f.dlci (began_among look role n1 ds b w past f.dlci f.how f.until (leads_begun look v w f h x role n1 ds b past fits))
        (none role n1 ds (passes past) fits.relay_fits.pipes_fit))
    by (inr count) = count role n1 ds (passes past) fits.relay_fits.pipes_fit

renew_fits : {Y : Type 0} (look : Y → LineView) (f : FileState Y) (kept : ℕ) (past : List Pass) → kept ≡ to_go f.dlci past → FileFits look past f
    → FileFits look (Began f.dlci f.how f.until ∷ past) (record f { is_over = false; renewals = one_more f.renewals; dropped = min (f.dropped + kept) (2 ^ 64 - 1) })
renew_fits look f kept past e y = record {
  given_are = y.given_are;
  read_are = y.read_are;
  renewals_are = rw (same_dlci f.dlci) (let few = y.renewals_are in omega (arith, few));
  dropped_are = rw (same_dlci f.dlci) (let before = y.dropped_are in omega (arith, before, e));
}

-- it begins, and the file goes along
pub renew_moves : {X Y : Type 0} (look : X → LineView) (file_look : Y → LineView) (v w : DataLineState X) (f h : FileState Y) → Renews v w f h → FileMoves look file_look v w f h
renew_moves look file_look v w f h x = record {
  hops = Passed (Began f.dlci f.how f.until) ∷ [];
  only = and_from (f.dlci == f.dlci) true (same_dlci f.dlci) refl;
  leads = leads_begun look v w f h x;
  dlci_is = ap (λ (y : FileState _). y.dlci) x.now_is;
  fits = λ role n1 ds b past k y. subst (λ (z : FileState _). FileFits file_look (Began f.dlci f.how f.until ∷ passes past) z) (sym x.now_is)
      (renew_fits file_look f x.kept (passes past) (kept_is look v w f h x role n1 ds b past k) y);
}

-- it began, or nothing was done
pub renew_or : {X Y : Type 0} (look : X → LineView) (file_look : Y → LineView) (v w : DataLineState X) (f h : FileState Y) (began : Bool) → (began ≡ true → Renews v w f h)
    → (began ≡ false → w ≡ v) → (began ≡ false → h ≡ f) → FileMoves look file_look v w f h
renew_or look file_look v w f h true renews line still = renew_moves look file_look v w f h (renews refl)
renew_or look file_look v w f h false renews line still = moves_same look file_look v w f h (line refl) (still refl)

-- ## A turn

some_read : (xs ys : List ℕ) → xs ≡ ys → 0 < length ys - length xs → ⊥
some_read xs ys e some = let long = ap length e in absurd (omega (arith, long, some))

turn_renewed : {X Y : Type 0} (look : X → LineView) (file_look : Y → LineView) (role : Role) (n1 : ℕ) (ds : List ℕ) (p : Before) (v w : DataLineState X) (f h m : FileState Y)
    → Renews v w f h → Turned look file_look role n1 ds p w h m → HadTurn look file_look role n1 ds p v f m
turn_renewed {X} {Y} look file_look role n1 ds p v w f h m x turn = record {
  asked = now.asked;
  given = λ some past fits room. absurd (true≢false (sym room.takes ∙ ap takes_given (over past fits).idle));
  read = λ none past fits some. absurd (some_read (data_read f.dlci (passes past)) (data_came role f.dlci (passes past)) (over past fits).all_read some);
  offered = now.offered;
  renewed = λ renews past fits was. let kept = now.grows.renewed in omega (arith, kept);
  grows = record {
    came = now.grows.came;
    given = now.grows.given;
    went = now.grows.went;
    read = now.grows.read;
    empty = now.grows.empty;
    stalled = now.grows.stalled;
    renewed = let kept = now.grows.renewed in omega (arith, kept);
    ended = now.grows.ended;
    broken = now.grows.broken;
  };
}
  where
    first : FileState Y
    first = record f { is_over = false; renewals = one_more f.renewals; dropped = min (f.dropped + x.kept) (2 ^ 64 - 1) }

    now : Turned look file_look role n1 ds p w first m
    now = subst (λ (y : FileState Y). Turned look file_look role n1 ds p w y m) x.now_is turn

    over : (past : List Hop) → LineFits look role n1 ds p v past → IsOver role f.dlci (passes past)
    over past fits = began_over look role n1 ds p w past f.dlci f.how f.until (leads_begun look v w f h x role n1 ds p past fits)

turn_stayed : {X Y : Type 0} (look : X → LineView) (file_look : Y → LineView) (role : Role) (n1 : ℕ) (ds : List ℕ) (p : Before) (v : DataLineState X) (f m : FileState Y)
    → StaysOver f.renews v.relay.pipes f.dlci → (NoneOf ds f.dlci → ⊥) → Turned look file_look role n1 ds p v f m → HadTurn look file_look role n1 ds p v f m
turn_stayed look file_look role n1 ds p v f m stays among turn = record {
  asked = turn.asked;
  given = turn.given;
  read = turn.read;
  offered = turn.offered;
  renewed = λ renews past fits over. absurd (not_over look role n1 ds p v past f.dlci f.renews fits among renews over stays);
  grows = turn.grows;
}

-- a turn before which the lane began, if it was over and to begin anew, is the file's turn
pub turn_or : {X Y : Type 0} (look : X → LineView) (file_look : Y → LineView) (role : Role) (n1 : ℕ) (ds : List ℕ) (p : Before) (v w : DataLineState X) (f h m : FileState Y) (began : Bool)
    → (began ≡ true → Renews v w f h) → (began ≡ false → w ≡ v) → (began ≡ false → h ≡ f) → (began ≡ false → StaysOver f.renews v.relay.pipes f.dlci) → (NoneOf ds f.dlci → ⊥)
    → Turned look file_look role n1 ds p w h m → HadTurn look file_look role n1 ds p v f m
turn_or look file_look role n1 ds p v w f h m true renews line still over among turn = turn_renewed look file_look role n1 ds p v w f h m (renews refl) turn
turn_or look file_look role n1 ds p v w f h m false renews line still over among turn =
    turn_stayed look file_look role n1 ds p v f m (over refl) among
    (subst (λ (x : DataLineState _). Turned look file_look role n1 ds p x f m) (line refl) (subst (λ (y : FileState _). Turned look file_look role n1 ds p w y m) (still refl) turn))
