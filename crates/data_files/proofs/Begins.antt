-- How a line with files begins.
use Rattle.std.specs.Prelude.{◌≡◌, ℕ, ◌==◌, ◌<◌, ◌+◌, Bool, true, false, List, [], ◌∷◌, ◌++◌, All, length, take, if◌then◌else◌, refl, slice_index_or}
use Rattle.std.proofs.Common.{ap, arith, sym, ◌∙◌, subst}
use Rattle.std.proofs.lemmas.List.{append-nil, take_more}
use Rattle.std.proofs.lemmas.List.Elements.{All-weaker}
use Rattle.mux_station.specs.declared.role.Role.{Role}
use Rattle.serial_line.specs.LineViews.{LineView}
use Rattle.modem_data.specs.Passing.{Pass, Began, given, to_go}
use Rattle.modem_data.specs.Hops.{BeginsAs, Hop, Hops, Passed, Relay, passes}
use Rattle.modem_data_line.specs.DataLines.{Before, DataLineState, LineFits, new_data_line}
use Rattle.modem_data_line.specs.LineLaws.{before_of}
use Rattle.data_files.specs.Files.{BeginsFiled, FileFits, FileState, HasMoved, IsFresh, all_given, all_read, begun, dlcis, unsent_before}
use Rattle.data_files.specs.Moves.{HasBegunTo}
use Rattle.data_files.proofs.FileSteps.{lane_leads}

-- no lane began yet
pub begins_none : {X Y : Type 0} (look : X → LineView) (files : List (FileState Y)) (v : DataLineState X) → HasBegunTo look (take 0 files) v v
begins_none look files v = record { leads = λ role n1 ds b past h. h; same = refl }

begun_one : {Y : Type 0} (files : List (FileState Y)) (f : FileState Y) (past : List Hop)
    → begun (files ++ f ∷ []) past ≡ Passed (Began f.dlci f.how f.until) ∷ begun files past
begun_one [] f past = refl
begun_one (g ∷ files) f past = begun_one files f (Passed (Began g.dlci g.how g.until) ∷ past)

-- the next file's lane begins
pub begins_more : {X Y : Type 0} (look : X → LineView) (files : List (FileState Y)) (i : ℕ) (f : FileState Y) (u v w : DataLineState X)
    → i < length files → HasBegunTo look (take i files) u v
    → Hops v.relay w.relay (Passed (Began (slice_index_or files i f).dlci (slice_index_or files i f).how (slice_index_or files i f).until)) → w ≡ record v { relay = w.relay }
    → HasBegunTo look (take (i + 1) files) u w
begins_more look files i f u v w there h hops e = record {
  leads = λ role n1 ds b past x. subst (λ (hs : List Hop). LineFits look role n1 ds b w hs)
      (sym (ap (λ (fs : List (FileState _)). begun fs past) (take_more files i f there) ∙ begun_one (take i files) (slice_index_or files i f) past))
      (lane_leads look v w (Began (slice_index_or files i f).dlci (slice_index_or files i f).how (slice_index_or files i f).until) hops e role n1 ds b (begun (take i files) past) (h.leads role n1 ds b past x));
  same = e ∙ ap (λ (x : DataLineState _). record x { relay = w.relay }) h.same;
}

-- ## Nothing has passed

nil_if : (b : Bool) (xs : List ℕ) → xs ≡ [] → (if b then [] else xs) ≡ []
nil_if true xs e = refl
nil_if false xs e = e

none_given : {Y : Type 0} (d : ℕ) (files : List (FileState Y)) (past : List Hop) → given d (passes past) ≡ [] → given d (passes (begun files past)) ≡ []
none_given d [] past e = e
none_given d (f ∷ files) past e = none_given d files (Passed (Began f.dlci f.how f.until) ∷ past) (nil_if (f.dlci == d) (given d (passes past)) e)

all_none_given : {Y : Type 0} (d : ℕ) (files : List (FileState Y)) (past : List Hop) → all_given d (passes (begun files past)) ≡ all_given d (passes past)
all_none_given d [] past = refl
all_none_given d (f ∷ files) past = all_none_given d files (Passed (Began f.dlci f.how f.until) ∷ past)

all_none_read : {Y : Type 0} (d : ℕ) (files : List (FileState Y)) (past : List Hop) → all_read d (passes (begun files past)) ≡ all_read d (passes past)
all_none_read d [] past = refl
all_none_read d (f ∷ files) past = all_none_read d files (Passed (Began f.dlci f.how f.until) ∷ past)

zero_if : (b : Bool) (x y : ℕ) → x ≡ 0 → y ≡ 0 → (if b then x + y else x) ≡ 0
zero_if true x y e q = omega (arith, e, q)
zero_if false x y e q = e

none_to_go : (d : ℕ) (past : List Pass) → given d past ≡ [] → to_go d past ≡ 0
none_to_go d past e = let long : length (given d past) ≡ 0 = ap length e in omega (arith, long)

none_unsent : {Y : Type 0} (d : ℕ) (files : List (FileState Y)) (past : List Hop) → given d (passes past) ≡ [] → unsent_before d (passes past) ≡ 0
    → unsent_before d (passes (begun files past)) ≡ 0
none_unsent d [] past e q = q
none_unsent d (f ∷ files) past e q =
    none_unsent d files (Passed (Began f.dlci f.how f.until) ∷ past) (nil_if (f.dlci == d) (given d (passes past)) e)
    (zero_if (f.dlci == d) (unsent_before d (passes past)) (to_go d (passes past)) q (none_to_go d (passes past) e))

-- of a file at which nothing has passed and nothing waits
fresh_none : {Y : Type 0} (look : Y → LineView) (f : FileState Y) → IsFresh look f → FileFits look [] f
fresh_none look f h = record {
  given_are =
      sym (ap (λ (xs : List ℕ). f.before.received ++ xs) h.none_waits
      ∙ (append-nil f.before.received ∙ ap (λ (b : Before). b.received) h.before_is));
  read_are =
      append-nil f.before.sent ∙ (ap (λ (b : Before). b.sent) h.before_is ∙ sym (ap (λ (xs : List ℕ). (look f.file).sent ++ xs) h.none_read ∙ append-nil (look f.file).sent));
  renewals_are = let none = h.none_renewed in omega (arith, none);
  dropped_are = let none = h.none_dropped in omega (arith, none);
}

-- fresh files fit the empty past
pub all_fresh : {Y : Type 0} (look : Y → LineView) (files : List (FileState Y)) → All (IsFresh look) files → All (FileFits look []) files
all_fresh look files fresh = All-weaker (IsFresh look) (FileFits look []) (fresh_none look) files fresh

none_fits : {Y : Type 0} (look : Y → LineView) (files : List (FileState Y)) (f : FileState Y) → FileFits look [] f → FileFits look (passes (begun files [])) f
none_fits look files f h = record {
  given_are = h.given_are ∙ ap (λ (xs : List ℕ). f.before.received ++ (xs ++ f.ungiven)) (sym (all_none_given f.dlci files []));
  read_are = ap (λ (xs : List ℕ). f.before.sent ++ xs) (all_none_read f.dlci files []) ∙ h.read_are;
  renewals_are = let none = h.renewals_are in omega (arith, none);
  dropped_are = let none = h.dropped_are in let unsent = none_unsent f.dlci files [] refl refl in omega (arith, none, unsent);
}

first_fits : {X : Type 0} (look : X → LineView) (role : Role) (n1 : ℕ) (ds : List ℕ) (line : X) (relay : Relay) → BeginsAs role n1 ds relay
    → LineFits look role n1 ds (before_of look line) (new_data_line line relay) []
unfolding BeginsAs
first_fits look role n1 ds line relay h = record {
  relay_fits = h;
  came = sym (append-nil (look line).received);
  went = sym (append-nil (look line).sent);
  read_are = refl;
  sent_are = refl;
}

-- a relay that began as this end of the line is that end
began_role : (role : Role) (n1 : ℕ) (ds : List ℕ) (relay : Relay) → BeginsAs role n1 ds relay → role ≡ relay.pipes.role
unfolding BeginsAs
began_role role n1 ds relay h = sym h.pipes_fit.role_is

-- all of them began: so a line with files begins
pub begins_filed : {X Y : Type 0} (look : X → LineView) (line : X) (relay : Relay) (role : Role) (n1 : ℕ) (files : List (FileState Y)) (x : DataLineState X) (b : Before)
    → BeginsAs role n1 (dlcis files) relay → HasBegunTo look files (new_data_line line relay) x → b ≡ before_of look line
    → BeginsFiled look line relay n1 files (record { line = x; files = files; role = role; n1 = n1; before = b })
begins_filed look line relay role n1 files x b begins h e = record {
  files_are = refl;
  role_is = began_role role n1 (dlcis files) relay begins;
  n1_is = refl;
  before_is = e;
  line_is = h.same;
  fits = subst (λ (c : Before). LineFits look role n1 (dlcis files) c x (begun files [])) (sym e)
      (h.leads role n1 (dlcis files) (before_of look line) [] (first_fits look role n1 (dlcis files) line relay begins));
}

-- and nothing has moved yet between its connections and its files
pub has_begun : {X Y : Type 0} (look : X → LineView) (file_look : Y → LineView) (line : X) (relay : Relay) (role : Role) (n1 : ℕ) (files : List (FileState Y)) (x : DataLineState X) (b : Before)
    → BeginsAs role n1 (dlcis files) relay → HasBegunTo look files (new_data_line line relay) x → b ≡ before_of look line → All (FileFits file_look []) files
    → HasMoved look file_look (record { line = x; files = files; role = role; n1 = n1; before = b })
has_begun look file_look line relay role n1 files x b begins h e fits = record {
  past = begun files [];
  fits = (begins_filed look line relay role n1 files x b begins h e).fits;
  files = All-weaker (FileFits file_look []) (FileFits file_look (passes (begun files []))) (none_fits file_look files) files fits;
}
