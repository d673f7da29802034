-- Each file has its turn.
use Rattle.std.specs.Prelude.{◌≡◌, ◌≢◌, ℕ, ◌==◌, ◌+◌, ◌<◌, ◌≤◌, Bool, true, false, List, ◌++◌, length, refl, slice_index_or, slice_set}
use Rattle.std.proofs.Common.{ap, arith, sym, ◌∙◌, subst, true≢false}
use Rattle.std.proofs.lemmas.Bool.{eqb-true, eqb-false}
use Rattle.std.proofs.lemmas.List.{get_or-set_same, get_or-set_other, get_or_default}
use Rattle.std.proofs.lemmas.List.Elements.{All-get_or}
use Rattle.mux_station.specs.Opening.{is_open}
use Rattle.mux_station.specs.declared.role.Role.{Role}
use Rattle.serial_line.specs.LineViews.{LineView}
use Rattle.modem_data.specs.Switching.{takes_given}
use Rattle.modem_data.specs.Passing.{Pass, IsOver}
use Rattle.modem_data.specs.PipeSets.{NoneOf}
use Rattle.modem_data.specs.Hops.{Hop, passes}
use Rattle.modem_data_line.specs.DataLines.{Before, DataLineState, LineFits}
use Rattle.data_files.specs.Files.{FileState, FiledState, dlcis}
use Rattle.data_files.specs.Moves.{FileGrows, HadTurn, HadTurns, MovesAt}
use Rattle.data_files.proofs.FileSteps.{same_dlci}
use Rattle.data_files.proofs.Growing.{asked_later, grows_then, offered_later}
use Rattle.data_files.proofs.Hopping.{IsBeside, beside_file, beside_none, beside_then, passes_both}
use Rattle.data_files.proofs.Lifts.{apart_at, dlci_at, in_there, set_dlcis}

-- the connection of a file is among those of all
pub not_none : {Y : Type 0} (files : List (FileState Y)) (i : ℕ) (f : FileState Y) → i < length files → NoneOf (dlcis files) (slice_index_or files i f).dlci → ⊥
unfolding NoneOf
not_none files i f there none =
    let d = (slice_index_or files i f).dlci in
    let other : (slice_index_or (dlcis files) i 0 == d) ≡ false = All-get_or (λ (c : ℕ). (c == d) ≡ false) (dlcis files) i 0 (in_there files i there) none in
    true≢false (sym (same_dlci d) ∙ (ap (λ (c : ℕ). c == d) (sym (dlci_at files i f 0 there)) ∙ other))

-- ## What passed before a file's turn

-- the line has come to fit a past from this one, beside d
pub record Reached {X : Type 0} (look : X → LineView) (role : Role) (n1 : ℕ) (ds : List ℕ) (p : Before) (v : DataLineState X) (d : ℕ) (past : List Hop) : Type 0 where
  pub behind : List Hop
  pub fits : LineFits look role n1 ds p v behind
  pub beside : IsBeside role d (passes past) (passes behind)

over_beside : (role : Role) (d : ℕ) (past behind : List Pass) → IsBeside role d past behind → IsOver role d past → IsOver role d behind
over_beside role d past behind x over = record { idle = x.carries_is ∙ over.idle; all_read = x.read_is ∙ (over.all_read ∙ sym x.came_is) }

turn_back : {X Y : Type 0} (look : X → LineView) (file_look : Y → LineView) (role : Role) (n1 : ℕ) (ds : List ℕ) (p : Before) (u v : DataLineState X) (f h : FileState Y)
    → ((past : List Hop) → LineFits look role n1 ds p u past → Reached look role n1 ds p v f.dlci past) → HadTurn look file_look role n1 ds p v f h → HadTurn look file_look role n1 ds p u f h
turn_back look file_look role n1 ds p u v f h reach turn = record {
  asked = turn.asked;
  given = λ some past fits room.
      let x = reach past fits in
      turn.given some x.behind x.fits
      (record {
        takes = ap takes_given x.beside.carries_is ∙ room.takes;
        open_there = ap (λ w. is_open role f.dlci w) x.beside.wire_is ∙ room.open_there;
        room = let same = x.beside.to_go_is in let few = room.room in omega (arith, same, few);
      });
  read = λ none past fits some.
      let x = reach past fits in
      turn.read none x.behind x.fits (let same = x.beside.unread_is in omega (arith, same, some));
  offered = turn.offered;
  renewed = λ renews past fits over. let x = reach past fits in turn.renewed renews x.behind x.fits (over_beside role f.dlci (passes past) (passes x.behind) x.beside over);
  grows = turn.grows;
}

-- ## One behind the other

-- where the file grows behind its turn, both are one turn
pub turn_then : {X Y : Type 0} (look : X → LineView) (file_look : Y → LineView) (role : Role) (n1 : ℕ) (ds : List ℕ) (p : Before) (u : DataLineState X) (f h m : FileState Y)
    → HadTurn look file_look role n1 ds p u f h → FileGrows file_look h m → HadTurn look file_look role n1 ds p u f m
turn_then look file_look role n1 ds p u f h m turn on = record {
  asked = λ none more. asked_later file_look f h m (turn.asked none more) on;
  given = λ some past fits room. let one = turn.given some past fits room in let two = on.given in omega (arith, one, two);
  read = λ none past fits some. let one = turn.read none past fits some in let two = on.read in omega (arith, one, two);
  offered = λ some. offered_later file_look f h m (turn.offered some) on;
  renewed = λ renews past fits over. let one = turn.renewed renews past fits over in let two = on.renewed in omega (arith, one, two);
  grows = grows_then file_look f h m turn.grows on;
}

-- the turns of all came, and then they went on
pub turns_then : {X Y : Type 0} (look : X → LineView) (file_look : Y → LineView) (u v : FiledState X Y) (now : List (FileState Y))
    → HadTurns look file_look u v.files → HadTurns look file_look v now → HadTurns look file_look u now
turns_then look file_look u v now one two = record {
  count = two.count ∙ one.count;
  dlcis_are = two.dlcis_are ∙ one.dlcis_are;
  each = λ i f there.
      turn_then look file_look u.role u.n1 (dlcis u.files) u.before u.line (slice_index_or u.files i f) (slice_index_or v.files i f) (slice_index_or now i f) (one.each i f there)
      (two.each i f (let same = one.count in omega (arith, there, same))).grows;
}

-- ## All of a line's

-- the turn of the first so many came, and the others are as they were
pub record TurnsSoFar {X Y : Type 0} (look : X → LineView) (file_look : Y → LineView) (n : ℕ) (u v : FiledState X Y) : Type 0 where
  pub long : length v.files ≡ length u.files
  pub role_is : v.role ≡ u.role
  pub n1_is : v.n1 ≡ u.n1
  pub before_is : v.before ≡ u.before
  pub dlcis_are : dlcis v.files ≡ dlcis u.files
  pub came : (i : ℕ) (f : FileState Y) → i < n → i < length u.files
      → HadTurn look file_look u.role u.n1 (dlcis u.files) u.before u.line (slice_index_or u.files i f) (slice_index_or v.files i f)
  pub others : (i : ℕ) (f : FileState Y) → n ≤ i → slice_index_or v.files i f ≡ slice_index_or u.files i f
  pub reaches : (i : ℕ) (f : FileState Y) → n ≤ i → i < length u.files → (past : List Hop) → LineFits look u.role u.n1 (dlcis u.files) u.before u.line past
      → Reached look u.role u.n1 (dlcis u.files) u.before v.line (slice_index_or u.files i f).dlci past

-- no file had its turn yet
pub turns_none : {X Y : Type 0} (look : X → LineView) (file_look : Y → LineView) (u : FiledState X Y) → TurnsSoFar look file_look 0 u u
turns_none look file_look u = record {
  long = refl;
  role_is = refl;
  n1_is = refl;
  before_is = refl;
  dlcis_are = refl;
  came = λ i f few there. absurd (omega (arith, few));
  others = λ i f most. refl;
  reaches = λ i f most there past fits. record { behind = past; fits = fits; beside = beside_none u.role (slice_index_or u.files i f).dlci (passes past) };
}

-- the next one has its turn
pub turns_more : {X Y : Type 0} (look : X → LineView) (file_look : Y → LineView) (n : ℕ) (u v w : FiledState X Y) → TurnsSoFar look file_look n u v
    → n < length v.files → MovesAt look file_look n v w → w ≡ record v { line = w.line; files = w.files } → length w.files ≡ length v.files
    → TurnsSoFar look file_look (n + 1) u w
turns_more look file_look n u v w h short m same long = record {
  long = long ∙ h.long;
  role_is = ap (λ (x : FiledState _ _). x.role) same ∙ h.role_is;
  n1_is = ap (λ (x : FiledState _ _). x.n1) same ∙ h.n1_is;
  before_is = ap (λ (x : FiledState _ _). x.before) same ∙ h.before_is;
  dlcis_are = ap dlcis m.files_are ∙ (set_dlcis v.files n m.file m.moves.dlci_is ∙ h.dlcis_are);
  came = λ i f few there. subst (λ (xs : List (FileState _)). HadTurn look file_look u.role u.n1 (dlcis u.files) u.before u.line (slice_index_or u.files i f) (slice_index_or xs i f))
      (sym m.files_are) (at i f (i == n) refl few there);
  others = λ i f most. ap (λ (xs : List (FileState _)). slice_index_or xs i f) m.files_are
      ∙ (get_or-set_other v.files n i m.file f (λ q. omega (arith, most, q)) ∙ h.others i f (omega (arith, most)));
  reaches = λ i f most there past fits.
      let x = h.reaches i f (omega (arith, most)) there past fits in
      let d = (slice_index_or u.files i f).dlci in
      let apart : ((slice_index_or v.files n m.file).dlci == d) ≡ false =
      subst (λ (y : FileState _). (y.dlci == d) ≡ false) (sym (here f)) (apart_at u.files n i f fits.relay_fits.pipes_fit.apart short_u there (λ q. omega (arith, most, q))) in
      record {
        behind = m.moves.hops ++ x.behind;
        fits = m.moves.leads u.role u.n1 (dlcis u.files) u.before x.behind x.fits;
        beside = beside_then u.role d (passes past) (passes x.behind) (passes (m.moves.hops ++ x.behind)) x.beside
            (subst (λ (ps : List Pass). IsBeside u.role d (passes x.behind) ps) (sym (passes_both m.moves.hops x.behind))
            (beside_file u.role (slice_index_or v.files n m.file).dlci d apart m.moves.hops (passes x.behind) m.moves.only));
      };
}
  where
    short_u : n < length u.files
    short_u = let same_long = h.long in omega (arith, short, same_long)

    here : (f : FileState _) → slice_index_or v.files n m.file ≡ slice_index_or u.files n f
    here f = get_or_default v.files n m.file f short ∙ h.others n f (omega arith)

    turn : HadTurn look file_look u.role u.n1 (dlcis u.files) u.before v.line (slice_index_or v.files n m.file) m.file
    turn = subst (λ (o : Role). HadTurn look file_look o u.n1 (dlcis u.files) u.before v.line (slice_index_or v.files n m.file) m.file) h.role_is
        (subst (λ (x : ℕ × List ℕ × Before). HadTurn look file_look v.role x.0 x.1 x.2 v.line (slice_index_or v.files n m.file) m.file)
        (λ i. (h.n1_is i, h.dlcis_are i, h.before_is i)) m.turn)

    at : (i : ℕ) (f : FileState _) (b : Bool) → (i == n) ≡ b → i < n + 1 → i < length u.files
        → HadTurn look file_look u.role u.n1 (dlcis u.files) u.before u.line (slice_index_or u.files i f) (slice_index_or (slice_set v.files n m.file) i f)
    at i f true q few there =
        let same_place : i ≡ n = eqb-true i n q in
        let now : slice_index_or (slice_set v.files n m.file) i f ≡ m.file =
        ap (λ (j : ℕ). slice_index_or (slice_set v.files n m.file) j f) same_place ∙ get_or-set_same v.files n m.file f short in
        let was : slice_index_or v.files n m.file ≡ slice_index_or u.files i f = here f ∙ ap (λ (j : ℕ). slice_index_or u.files j f) (sym same_place) in
        subst (λ (x : FileState _). HadTurn look file_look u.role u.n1 (dlcis u.files) u.before u.line (slice_index_or u.files i f) x) (sym now)
        (turn_back look file_look u.role u.n1 (dlcis u.files) u.before u.line v.line (slice_index_or u.files i f) m.file
        (h.reaches i f (omega (arith, same_place)) there)
        (subst (λ (x : FileState _). HadTurn look file_look u.role u.n1 (dlcis u.files) u.before v.line x m.file) was turn))
    at i f false q few there =
        let other : i ≢ n = λ r. eqb-false i n q r in
        subst (λ (x : FileState _). HadTurn look file_look u.role u.n1 (dlcis u.files) u.before u.line (slice_index_or u.files i f) x)
        (sym (get_or-set_other v.files n i m.file f other)) (h.came i f (omega (arith, few, other)) there)

-- when the first so many are all, each file of the line had its turn
pub turns_all : {X Y : Type 0} (look : X → LineView) (file_look : Y → LineView) (n : ℕ) (u v : FiledState X Y) → TurnsSoFar look file_look n u v
    → length v.files ≤ n → HadTurns look file_look u v.files
turns_all look file_look n u v h most = record {
  count = h.long;
  dlcis_are = h.dlcis_are;
  each = λ i f there. let long = h.long in h.came i f (omega (arith, there, most, long)) there;
}
