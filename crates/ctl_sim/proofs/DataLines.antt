-- Lines and files of a modem with files beside connections.
use Rattle.std.specs.Prelude.{◌≡◌, ℕ, ◌+◌, ◌<◌, ◌≤◌, Bool, List, [], ◌∷◌, ◌++◌, All, Result, Ok, Err, OnErr, OnOk, length, map, refl, take, slice_index_or}
use Rattle.std.proofs.Common.{ap, arith, suc, sym, subst, zero, ◌∙◌}
use Rattle.std.proofs.lemmas.List.{append-nil, map-append, take_all, take_more}
use Rattle.mux_frame.specs.declared.dlci.Dlci.{Dlci}
use Rattle.mux_station.specs.declared.role.Role.{Role}
use Rattle.serial_line.specs.LineViews.{LineView}
use Rattle.serial_line.specs.StreamLine.{StreamState, stream_view}
use Rattle.modem_data.specs.Hops.{BeginsAs, Relay}
use Rattle.modem_data.specs.PipeSets.{numbers}
use Rattle.data_files.specs.Files.{BeginsFiled, FileFits, FileState, FiledState, again, dlcis}
use Rattle.data_files.specs.Moves.{HadTurns}
use Rattle.data_files.proofs.Again.{again_dlcis}
use Rattle.file_threads.specs.DataPaths.{opened_files}
use Rattle.file_threads.specs.declared.data_path.DataPath.{DataPath}
use Rattle.ctl_sim.specs.HeldLine.{HeldState, held_view}

-- no file yet, and no connection
pub dlcis_none : {Y : Type 0} (files : List (FileState Y)) → numbers [] ≡ dlcis (take 0 files)
dlcis_none files = refl

-- the connections of some files, with that of the next, are those of one file more
pub dlcis_more : {Y : Type 0} (files : List (FileState Y)) (i : ℕ) (f : FileState Y) (named : List Dlci) (d : Dlci) → i < length files → numbers named ≡ dlcis (take i files)
    → d.number ≡ (slice_index_or files i f).dlci → numbers (named ++ d ∷ []) ≡ dlcis (take (i + 1) files)
dlcis_more files i f named d there e q =
    map-append (λ (x : Dlci). x.number) named (d ∷ [])
    ∙ (ap (λ (l : List ℕ). l ++ d.number ∷ []) e ∙ (ap (λ (n : ℕ). dlcis (take i files) ++ n ∷ []) q
    ∙ (sym (map-append (λ (x : FileState _). x.dlci) (take i files) (slice_index_or files i f ∷ [])) ∙ ap (λ (l : List (FileState _)). dlcis l) (sym (take_more files i f there)))))

-- those of as many files as there are are those of all
pub dlcis_all : {Y : Type 0} (files : List (FileState Y)) (i : ℕ) (named : List Dlci) → length files ≤ i → numbers named ≡ dlcis (take i files) → numbers named ≡ dlcis files
dlcis_all files i named most e = e ∙ ap (λ (l : List (FileState _)). dlcis l) (take_all i files most)

-- ## The line in memory

-- what was taken is handed out, or nothing is done: what it gave stays
pub held_received : {A E : Type 0} (r : Result A E) (old new : HeldState) (out before : List ℕ) → OnOk r (new ≡ record old { taken = old.taken ++ old.going; going = [] })
    → OnErr r ((new ≡ old) × (out ≡ before)) → new.received ≡ old.received
held_received (Ok x) old new out before took err = ap (λ (l : HeldState). l.received) took
held_received (Err x) old new out before took err = ap (λ (l : HeldState). l.received) err.0

-- and so does what it took
pub held_sent : {A E : Type 0} (r : Result A E) (old new : HeldState) (out before : List ℕ) → OnOk r (new ≡ record old { taken = old.taken ++ old.going; going = [] })
    → OnErr r ((new ≡ old) × (out ≡ before)) → (held_view new).sent ≡ (held_view old).sent
held_sent (Ok x) old new out before took err = ap (λ (l : HeldState). (held_view l).sent) took ∙ append-nil (old.taken ++ old.going)
held_sent (Err x) old new out before took err = ap (λ (l : HeldState). (held_view l).sent) err.0

-- a relay that began as this end of the line is that end
pub begins_role : (role : Role) (n1 : ℕ) (ds : List ℕ) (relay : Relay) → BeginsAs role n1 ds relay → relay.pipes.role ≡ role
unfolding BeginsAs
begins_role role n1 ds relay h = h.pipes_fit.role_is

-- ## The files

-- by their turns they stay those of the same connections
pub named_by_turns : {X Y : Type 0} (line_look : X → LineView) (look : Y → LineView) (v : FiledState X Y) (now : List (FileState Y)) → HadTurns line_look look v now
    → dlcis now ≡ dlcis v.files
named_by_turns line_look look v now turns = turns.dlcis_are

-- beside another line or, where memory is refused, beside the same, they are those of the same connections
pub goes_on : {A E Y : Type 0} (look : Y → LineView) (r : Result A E) (line : HeldState) (relay : Relay) (n1 : ℕ) (old new : FiledState HeldState Y)
    → OnOk r (BeginsFiled held_view line relay n1 (map (again look) old.files) new) → OnErr r (new ≡ old) → dlcis new.files ≡ dlcis old.files
goes_on look (Ok x) line relay n1 old new begins err = ap dlcis begins.files_are ∙ again_dlcis look old.files
goes_on look (Err x) line relay n1 old new begins err = ap (λ (v : FiledState _ _). dlcis v.files) err

-- nothing has passed at those of some paths
pub opened_fit : (renews : Bool) (data_paths : List DataPath) (files : List (FileState StreamState)) → files ≡ opened_files renews data_paths
    → All (FileFits stream_view []) files
opened_fit renews data_paths files e =
    subst (λ (fs : List (FileState StreamState)). All (FileFits stream_view []) fs) (sym e) (each data_paths)
  where
    each : (ps : List DataPath) → All (FileFits stream_view []) (opened_files renews ps)
    each [] i f there = absurd (omega (arith, there))
    each (p ∷ ps) zero f there = record { given_are = refl; read_are = refl; renewals_are = omega arith; dropped_are = omega arith }
    each (p ∷ ps) (suc i) f there = each ps i f (omega (arith, there))

-- and they are those of the paths' connections
pub opened_dlcis : (renews : Bool) (data_paths : List DataPath) (files : List (FileState StreamState)) → files ≡ opened_files renews data_paths
    → dlcis files ≡ map (λ p. p.dlci.number) data_paths
opened_dlcis renews data_paths files e = ap dlcis e ∙ each data_paths
  where
    each : (ps : List DataPath) → dlcis (opened_files renews ps) ≡ map (λ p. p.dlci.number) ps
    each [] = refl
    each (p ∷ ps) = ap (λ (ds : List ℕ). p.dlci.number ∷ ds) (each ps)
