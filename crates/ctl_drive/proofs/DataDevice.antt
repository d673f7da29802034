-- A drive on a device with files, from its beginning to its status.
use Rattle.std.specs.Prelude.{◌≡◌, ◌≢◌, ◌⊎◌, ◌==◌, ℕ, ◌+◌, ◌<◌, ◌≤◌, Bool, true, false, List, [], ◌∷◌, ◌++◌, All, length, map, take, Option, None, Some, Result, Ok, Err, IfOk, refl, slice_index_or}
use Rattle.std.proofs.Common.{ap, arith, inl, suc, sym, subst, zero, ◌∙◌}
use Rattle.std.specs.Option.{unwrap_or}
use denote.Ref.{Bor}
use Rattle.std.proofs.lemmas.List.{take_all}
use Rattle.serial_line.specs.StreamLine.{StreamState, new_stream, stream_view}
use Rattle.serial_line.specs.declared.stream_line.ZeroRead.TheVariants.{Ended}
use Rattle.mux_frame.specs.declared.dlci.Dlci.{Dlci}
use Rattle.at_text.specs.Rules.{Rules}
use Rattle.modem_desk.specs.declared.settling.Settled.{Settled}
use Rattle.modem_data.specs.PipeSets.{numbers}
use Rattle.data_files.specs.Files.{FileState, FiledState, HasMoved, IsFresh, dlcis}
use Rattle.data_files.specs.Moves.{HadTurns}
use Rattle.modem_history.specs.Sessions.{LineView}
use Rattle.mux_capture.specs.Passing.{CaptureState}
use Rattle.ctl_drive.specs.Asking.{NamesRead}
use Rattle.ctl_drive.specs.CapturedLine.{CapturedState, CapturesUnlessFailed, captured_line}
use Rattle.ctl_drive.specs.DataDrive.{DroveData}
use Rattle.ctl_drive.specs.DataDevice.{DroveFiles, DroveFilesCaptured, DroveFilesDevice, DroveFilesLine, EndsFilesByFault, EndsWith, RanFiles}
use Rattle.file_threads.specs.DataPaths.{IsFileOf, opened_files}
use Rattle.file_threads.proofs.DataPaths.{maps_more}
use Rattle.file_threads.specs.FileEnds.{FileEnd, IsWritten, SaysEnds, SaysFull, ends_texts, full_texts}
use Rattle.ctl_drive.specs.FileEnds.{NamesEnds}
use Rattle.ctl_drive.specs.OnDevice.{SaysEnd, SaysFaultIf, capture_path, driven_status, end_status}
use Rattle.file_threads.specs.Said.{AreSaid}
use Rattle.ctl_drive.specs.Saying.{SaysFault, left_texts, path_for}
use Rattle.ctl_drive.specs.declared.fault.DriveFault.{DriveFault}
use Rattle.ctl_drive.specs.declared.running.Driven.{Driven}
use Rattle.file_threads.specs.declared.data_path.DataPath.{DataPath}
use Rattle.ctl_drive.proofs.Asks.{names_nothing}
use Rattle.ctl_drive.proofs.OnDevice.{by_status, capture_is}

-- ## Lists of paths

-- no paths yet, and no connections
pub dlcis_none : (data_paths : List DataPath) → [] ≡ map (λ p. p.dlci) (take 0 data_paths)
dlcis_none data_paths = refl

-- the connections of some paths, with that of the next, are those of one path more
pub dlcis_more : (data_paths : List DataPath) (i : ℕ) (p : DataPath) (named : List Dlci) → i < length data_paths → named ≡ map (λ q. q.dlci) (take i data_paths)
    → named ++ (slice_index_or data_paths i p).dlci ∷ [] ≡ map (λ q. q.dlci) (take (i + 1) data_paths)
dlcis_more data_paths i p named there e = maps_more (λ (q : DataPath). q.dlci) data_paths i p named there e

-- those of as many paths as there are are those of all
pub dlcis_all : (data_paths : List DataPath) (i : ℕ) (named : List Dlci) → length data_paths ≤ i → named ≡ map (λ q. q.dlci) (take i data_paths)
    → named ≡ map (λ q. q.dlci) data_paths
dlcis_all data_paths i named most e = e ∙ ap (λ (l : List DataPath). map (λ q. q.dlci) l) (take_all i data_paths most)

-- the files are those of the connections
pub same_numbers : (data_paths : List DataPath) (named : List Dlci) (files : List (FileState StreamState)) → files ≡ opened_files false data_paths
    → named ≡ map (λ p. p.dlci) data_paths → dlcis files ≡ numbers named
same_numbers data_paths named files e n = ap dlcis e ∙ (both data_paths ∙ ap numbers (sym n))
  where
    both : (ps : List DataPath) → dlcis (opened_files false ps) ≡ numbers (map (λ p. p.dlci) ps)
    both [] = refl
    both (p ∷ ps) = ap (λ (ds : List ℕ). p.dlci.number ∷ ds) (both ps)

-- nothing has passed between them and their connections
pub all_fresh : (data_paths : List DataPath) (files : List (FileState StreamState)) → files ≡ opened_files false data_paths
    → All (IsFresh stream_view) files
all_fresh data_paths files e =
    subst (λ (fs : List (FileState StreamState)). All (IsFresh stream_view) fs) (sym e) (each data_paths)
  where
    each : (ps : List DataPath) → All (IsFresh stream_view) (opened_files false ps)
    each [] i f there = absurd (omega (arith, there))
    each (p ∷ ps) zero f there = record { before_is = refl; none_waits = refl; none_read = refl; none_renewed = refl; none_dropped = refl }
    each (p ∷ ps) (suc i) f there = each ps i f (omega (arith, there))

-- ## What is said of lines and files

-- bad lines were named, and nothing was said of files
pub names_only : (input silent said : Option (List ℕ)) → NamesRead input silent said → NamesEnds input silent said
names_only input silent said h = record { named = said; names = h; ends = []; ends_said = AreSaid.said_none said }

-- nothing was named or said
pub names_nothing_of : (input silent : Option (List ℕ)) → NamesEnds input silent silent
names_nothing_of input silent = names_only input silent silent (names_nothing input silent)

-- bad lines were named, and then it was said what came of each file
pub names_ends : (input silent named said : Option (List ℕ)) (ends : List FileEnd) → NamesRead input silent named → AreSaid named said (ends_texts ends) → NamesEnds input silent said
names_ends input silent named said ends h k = record { named = named; names = h; ends = ends; ends_said = k }

-- ## A drive

-- a drive without a fault, then a turn of each file, until all is written, and a word of each: the line was driven with files
pub drives_files : {X Y : Type 0} (look : X → LineView) (file_look : Y → LineView) (rules : Rules) (text : List ℕ) (n1 period : ℕ) (line last : X) (files : List (FileState Y))
    (driven in_the_end : FiledState X Y) (input before after silent named said : Option (List ℕ)) (end : Option DriveFault) (was_bad : Bool) (left : Settled)
    → DroveData look file_look rules text n1 period line files driven input before after silent named end was_bad left → end ≡ None → HadTurns look file_look driven in_the_end.files
    → HasMoved look file_look in_the_end → All IsWritten in_the_end.files → in_the_end.line.line ≡ last → SaysEnds in_the_end.line.relay.pipes in_the_end.files named said
    → DroveFiles look file_look rules text n1 period line last files input before after silent said was_bad left
drives_files look file_look rules text n1 period line last files driven in_the_end input before after silent named said end was_bad left drove none turns moved written last_is ends = record {
  driven = driven;
  named = named;
  drove = subst (λ (x : Option DriveFault). DroveData look file_look rules text n1 period line files driven input before after silent named x was_bad left) none drove;
  in_the_end = in_the_end;
  turns = turns;
  moved = moved;
  written = written;
  last_is = last_is;
  ends_said = ends;
}

-- the same through a capture that didn't fail
pub files_captured : {X Y : Type 0} (look : X → LineView) (file_look : Y → LineView) (rules : Rules) (text : List ℕ) (n1 period : ℕ) (line : X) (first : CaptureState)
    (wrapped last : CapturedState X) (files : List (FileState Y)) (input before after silent said : Option (List ℕ)) (end : Option DriveFault) (was_bad : Bool) (left : Settled) (failed : Bool)
    → (end ≡ None → DroveFiles (λ (l : CapturedState X). look l.line) file_look rules text n1 period wrapped last files input before after silent said was_bad left)
    → wrapped ≡ captured_line line first → (end ≡ None) × (failed ≡ false) → failed ≡ last.capture.failed → CapturesUnlessFailed (look last.line).received (look last.line).sent last.capture
    → DroveFilesCaptured look file_look rules text n1 period line files input before after silent said was_bad left
files_captured {X} look file_look rules text n1 period line first wrapped last files input before after silent said end was_bad left failed drove same both failed_is captures = record {
  first = first;
  last = last;
  drove =
      subst
      (λ (x : CapturedState X). DroveFiles (λ (l : CapturedState X). look l.line) file_look rules text n1 period x last files input before after silent said was_bad left)
      same (drove both.0);
  captures = captures (sym failed_is ∙ both.1);
}

-- ## The status

none_said : (a c : Option (List ℕ)) (full : List ℕ) → full ≡ [] → AreSaid a c (full_texts full) → c ≡ a
none_said a c [] q (AreSaid.said_none _) = refl
none_said a c (d ∷ full) q said = cc

none_full : (b : Bool) (a c : Option (List ℕ)) → SaysFull b a c → b ≡ true → c ≡ a
none_full b a c h e = none_said a c h.full (h.none.0 e) h.said

-- it ended without a fault
pub ran_files : (device capture : List ℕ) (b : Bool) (rules : Rules) (text : List ℕ) (n1 period : ℕ) (files : List (FileState StreamState))
    (before after silent ended filled said : Option (List ℕ)) (r last : Result Driven DriveFault) (is_written : Bool) (n : ℕ)
    → IfOk r (λ d. d.fault ≡ None → DroveFilesDevice b rules text n1 period files before after silent ended d.was_bad d.left) → SaysFull is_written ended filled
    → EndsWith is_written r last → SaysEnd device capture last filled said → n ≡ end_status last → n ≢ 1
    → RanFiles b rules text n1 period files before after silent said (n == 2)
ran_files device capture b rules text n1 period files before after silent ended filled said (Err why) (Err w) is_written n h full ends s is other = absurd (other is)
ran_files device capture b rules text n1 period files before after silent ended filled said (Err why) (Ok d) is_written n h full ends s is other = cc
ran_files device capture b rules text n1 period files before after silent ended filled said (Ok d) (Err w) is_written n h full ends s is other = absurd (other is)
ran_files device capture b rules text n1 period files before after silent ended filled said (Ok d) (Ok x) is_written n h full ends s is other =
    let by = by_status x.fault x.was_bad n is other in
    let whole = ends.2 by.0 in
    let no_more : SaysFaultIf device capture None s.between said = subst (λ (e : Option DriveFault). SaysFaultIf device capture e s.between said) by.0 s.why in
    let same : filled ≡ ended = none_full is_written ended filled full whole.1 in
    let left : AreSaid ended said (left_texts (length d.left.left.items)) =
    subst (λ (y : Option (List ℕ) × Settled). AreSaid y.0 said (left_texts (length y.1.left.items))) (λ i. (same i, ends.1 i))
    (subst (λ (w : Option (List ℕ)). AreSaid filled w (left_texts (length x.left.left.items))) (sym no_more) s.left) in
    record {
      left = d.left;
      ended = ended;
      drove = subst (λ (w : Bool). DroveFilesDevice b rules text n1 period files before after silent ended w d.left) (sym (by.1 ∙ ends.0)) (h whole.0);
      left_said = left;
    }

-- it ended by a fault, which was said
pub files_said : (device capture : List ℕ) (data_paths : List DataPath) (silent ended filled said : Option (List ℕ)) (is_written : Bool)
    → NamesEnds None silent ended → SaysFull is_written ended filled → (left : ℕ) (between : Option (List ℕ)) → AreSaid filled between (left_texts left)
    → (why : DriveFault) → SaysFault (path_for device capture why) why between said → EndsFilesByFault device capture data_paths silent said
files_said device capture data_paths silent ended filled said is_written names full left between left_said why fault = record {
  named = names.named;
  names = names.names;
  ends = names.ends;
  ended = ended;
  ends_said = names.ends_said;
  full = full.full;
  filled = filled;
  full_said = full.said;
  left = left;
  between = between;
  left_said = left_said;
  at = device;
  at_is = inl refl;
  why = why;
  fault = fault;
}

files_driven : (device capture : List ℕ) (data_paths : List DataPath) (silent ended filled said between : Option (List ℕ)) (is_written : Bool)
    → NamesEnds None silent ended → SaysFull is_written ended filled → (left : ℕ) → AreSaid filled between (left_texts left)
    → (end : Option DriveFault) (was_bad : Bool) (n : ℕ) → SaysFaultIf device capture end between said → n ≡ driven_status end was_bad → n ≡ 1
    → EndsFilesByFault device capture data_paths silent said
files_driven device capture data_paths silent ended filled said between is_written names full left left_said (Some why) was_bad n fault is one =
    files_said device capture data_paths silent ended filled said is_written names full left between left_said why fault
files_driven device capture data_paths silent ended filled said between is_written names full left left_said None true n fault is one = absurd (omega (arith, is, one))
files_driven device capture data_paths silent ended filled said between is_written names full left left_said None false n fault is one = absurd (omega (arith, is, one))

-- a status of 1 is that of a fault, which was said last
pub files_badly : (device capture : List ℕ) (data_paths : List DataPath) (silent ended filled said : Option (List ℕ)) (last : Result Driven DriveFault) (is_written : Bool) (n : ℕ)
    → NamesEnds None silent ended → SaysFull is_written ended filled → SaysEnd device capture last filled said → n ≡ end_status last → n ≡ 1
    → EndsFilesByFault device capture data_paths silent said
files_badly device capture data_paths silent ended filled said (Err why) is_written n names full s is one =
    files_said device capture data_paths silent ended filled said is_written names full 0 filled (AreSaid.said_none filled) why s
files_badly device capture data_paths silent ended filled said (Ok d) is_written n names full s is one =
    files_driven device capture data_paths silent ended filled said s.between is_written names full (length d.left.left.items) s.left d.fault d.was_bad n s.why is one

-- it was refused before anything was read, and the path is that of the device or of a file
pub files_refused : (device capture at : List ℕ) (data_paths : List DataPath) (silent said : Option (List ℕ)) (why : DriveFault) → (at ≡ device) ⊎ IsFileOf data_paths at
    → SaysFault (path_for at capture why) why silent said → EndsFilesByFault device capture data_paths silent said
files_refused device capture at data_paths silent said why is fault = record {
  named = silent;
  names = names_nothing None silent;
  ends = [];
  ended = silent;
  ends_said = AreSaid.said_none silent;
  full = [];
  filled = silent;
  full_said = AreSaid.said_none silent;
  left = 0;
  between = silent;
  left_said = AreSaid.said_none silent;
  at = at;
  at_is = is;
  why = why;
  fault = fault;
}

-- with the path of the capture, where the settings name one
pub files_by_capture : (device capture path : List ℕ) (data_paths : List DataPath) (silent said : Option (List ℕ)) → path ≡ capture → EndsFilesByFault device path data_paths silent said
    → EndsFilesByFault device capture data_paths silent said
files_by_capture device capture path data_paths silent said is h = subst (λ (p : List ℕ). EndsFilesByFault device p data_paths silent said) is h

-- a line between two rings was driven with files between rings
pub drove_files_device : (b c : Bool) (rules : Rules) (text : List ℕ) (n1 period : ℕ) (line : StreamState) (files opened : List (FileState StreamState)) (before after silent said : Option (List ℕ)) (r : Result Driven DriveFault)
    → b ≡ c → line ≡ new_stream None None Ended → files ≡ opened
    → IfOk r
    (λ d. d.fault ≡ None
    → DroveFilesLine b stream_view stream_view rules text n1 period line files None before after silent said d.was_bad d.left)
    → IfOk r (λ d. d.fault ≡ None → DroveFilesDevice c rules text n1 period opened before after silent said d.was_bad d.left)
drove_files_device b c rules text n1 period line files opened before after silent said r same is are h =
    subst
    (λ (x : Bool × StreamState × List (FileState StreamState)). IfOk r
    (λ d. d.fault ≡ None
    → DroveFilesLine x.0 stream_view stream_view rules text n1 period x.1 x.2 None before after silent said d.was_bad d.left))
    (λ i. (same i, is i, are i)) h

-- the path of the capture is the one that is given, or empty
pub capture_of : (given : Option (Bor (List ℕ))) (other path : Bor (List ℕ)) → path ≡ unwrap_or given other → other.now ≡ [] → path.now ≡ capture_path given
capture_of given other path is none = ap (λ (b : Bor (List ℕ)). b.now) is ∙ capture_is given other none
