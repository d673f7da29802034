-- What is shown of the files that the words name.
use Rattle.std.specs.Prelude.{◌≡◌, ◌⊎◌, ◌<◌, ◌≤◌, ℕ, Bool, List, [], ◌==◌, map, Option, None, Some, IfSome, codes, length, refl, true, if◌then◌else◌}
use Rattle.std.proofs.Common.{⊎_elim, ap, arith, sym, ◌∙◌, subst, inr}
use Rattle.std.proofs.KnownBytes.{Appends-nil}
use Rattle.std.specs.Fmt.{decimal}
use Rattle.std.specs.Io.Buffered.{reader_buffer, reader_capacity, reader_inner, reader_remaining}
use Rattle.std.specs.Io.KnownBytes.{prepend_known}
use Rattle.std.specs.declared.io.buffered.BufReader.{BufReader}
use Rattle.std.specs.declared.io.ErrorKind.{ErrorKind}
use Rattle.clap.specs.Words.{Text, first_value, found_of, one_text}
use Rattle.clap.specs.declared.ArgMatches.{ArgMatches}
use Rattle.mux_frame.specs.declared.dlci.Dlci.{Dlci}
use Rattle.ctl_run.specs.Statuses.{stop_line}
use Rattle.ctl_run.specs.declared.stop.Stop.TheVariants as Stop
use Rattle.ctl_run.proofs.outputs.SaidLines.{begun_line}
use Rattle.ctl_text.specs.Writing.{IsBegun}
use Rattle.show_texts.specs.Captures.{HasShown, SaysFault}
use Rattle.show_texts.specs.Merging.{HasShownUntimed}
use Rattle.show_texts.specs.Progress.{HasTold, ProgressState, TellsRead}
use Rattle.show_texts.specs.Telling.{Setting}
use Rattle.show_texts.specs.declared.run.ShowOptions.{ShowOptions}
use Rattle.modemctl.specs.Benches.{IsFlag}
use Rattle.modemctl.specs.Dialects.{IsGivenDialect}
use Rattle.modemctl.specs.Files.{IsNoText, SaysWhy}
use Rattle.modemctl.specs.Shows.{AreChannels, AreWantedBy, SaysUnread, SaysUnreadOf, SaysUnshown, ShowsFiles, ShowsWith, TellsFiles, TellsShow, closed, cut, given_for, no_memory}
use Rattle.modemctl.specs.declared.words.file_faults.FileFault.TheVariants as FileFault

-- ## The connections of data

-- the texts given for the option are the connections' numbers
pub some_channels : (o : Option (List Text)) (texts : List Text) (ds : List Dlci) → Some texts ≡ o → texts ≡ map (λ d. decimal d.number) ds → AreChannels o ds
some_channels o texts ds e h = subst (λ (p : Option (List Text)). AreChannels p ds) e h

-- where no text is given, there are no connections of data
pub no_channels : (o : Option (List Text)) (ds : List Dlci) → None ≡ o → ds ≡ [] → AreChannels o ds
no_channels o ds e h = subst (λ (p : Option (List Text)). AreChannels p ds) e h

-- memory was refused
pub memory_said : (dialect : Option Text) (before after : Option (List ℕ)) (status : ℕ) → status ≡ 1 → IsBegun before after (stop_line Stop.NoMemory) → IsNoText true (codes "dialect") dialect before after status
memory_said dialect before after status one said = inr (record { stop = Stop.NoMemory; has_status = one; said = begun_line true Stop.NoMemory before after said })

-- the N1, the dialect, the connections and the strictness are those that the words give
pub wanted_so : (texts : Text → Option (List ℕ)) (n1 : ℕ) (m : ArgMatches) (o : ShowOptions) → o.n1 ≡ n1 → IsGivenDialect texts (first_value (found_of m) (codes "dialect")) o.dialect
    → AreChannels (given_for m (codes "data")) o.data_channels.items → IsFlag (one_text (found_of m) (codes "strict")) o.strict → AreWantedBy texts n1 m o
wanted_so texts n1 m o is named data_given strict_given = record { n1_is = is; named = named; data_given = data_given; strict_given = strict_given }

-- ## A reader

none_read : (o : Option (List ℕ)) → prepend_known [] o ≡ o
none_read None = refl
none_read (Some x) = refl

unread : {T A : Type 0} (remaining : T → Option (List ℕ)) (r : BufReader T A) (inner : T) (capacity : ℕ) → reader_inner r ≡ inner → reader_buffer r ≡ [] → reader_capacity r ≡ capacity → capacity ≡ 8192
    → reader_remaining remaining r ≡ remaining inner
unread remaining r inner capacity e b c is =
    ap (λ (n : ℕ). if n == 0 then None else prepend_known (reader_buffer r) (remaining r.inner)) (c ∙ is)
    ∙ (ap (λ (xs : List ℕ). prepend_known xs (remaining r.inner)) b ∙ (none_read (remaining r.inner) ∙ ap remaining e))

-- what was shown of a new reader over a file was shown of the file
pub shown_of_reader : {T A : Type 0} (remaining : T → Option (List ℕ)) (r : BufReader T A) (inner : T) (s : Setting) (strict : Bool) (before after : Option (List ℕ)) (status : ℕ)
    → reader_inner r ≡ inner → reader_buffer r ≡ [] → reader_capacity r ≡ 8192 → HasShown s strict (reader_remaining remaining r) before after status → HasShown s strict (remaining inner) before after status
shown_of_reader remaining r inner s strict before after status e b c h =
    subst (λ (o : Option (List ℕ)). HasShown s strict o before after status) (unread remaining r inner 8192 e b c refl) h

-- ## Files

-- what was shown of a file was shown of the text in it
pub shown_of_file : (s : Setting) (strict : Bool) (file text before after : Option (List ℕ)) (status : ℕ) → file ≡ text → HasShown s strict file before after status → HasShown s strict text before after status
shown_of_file s strict file text before after status e h = subst (λ (o : Option (List ℕ)). HasShown s strict o before after status) e h

-- so it is of the file of the octets from the modem
pub shown_of_from : (s : Setting) (strict : Bool) (to file text before after : Option (List ℕ)) (status : ℕ) → file ≡ text → HasShownUntimed s strict to file before after status → HasShownUntimed s strict to text before after status
shown_of_from s strict to file text before after status e h = subst (λ (o : Option (List ℕ)). HasShownUntimed s strict to o before after status) e h

-- and of that of the octets to it
pub shown_of_to : (s : Setting) (strict : Bool) (file text from before after : Option (List ℕ)) (status : ℕ) → file ≡ text → HasShownUntimed s strict file from before after status → HasShownUntimed s strict text from before after status
shown_of_to s strict file text from before after status e h = subst (λ (o : Option (List ℕ)). HasShownUntimed s strict o from before after status) e h

-- it is said that the file can't be opened, and why
pub says_closed : (what path : Text) (kind : ErrorKind) (before after : Option (List ℕ)) (status : ℕ) → SaysWhy (codes "fault: ") what path (FileFault.Closed kind) before after → SaysUnread what path before after status
says_closed what path kind before after status h = closed kind h

-- or that memory was refused
pub says_memory : (what path : Text) (before after : Option (List ℕ)) (status : ℕ) → IsBegun before after (stop_line Stop.NoMemory) → SaysUnread what path before after status
says_memory what path before after status h = no_memory h

-- or why what is read isn't shown to its end
pub says_cut : (what path : Text) (before after : Option (List ℕ)) (status : ℕ) → SaysFault before after status → SaysUnread what path before after status
says_cut what path before after status h = cut h

-- ## What the words name

-- the files that the words name were shown as the options want
pub shows_with : (texts : Text → Option (List ℕ)) (n1 : ℕ) (m : ArgMatches) (before after : Option (List ℕ)) (status : ℕ) (o : ShowOptions) (path : Text) (raw : Option Text)
    → AreWantedBy texts n1 m o → Some path ≡ first_value (found_of m) (codes "file") → raw ≡ first_value (found_of m) (codes "raw") → ShowsFiles texts o raw path before after status
    → ShowsWith texts n1 m before after status
shows_with texts n1 m before after status o path raw wanted path_is raw_is shown = record {
  options = o;
  wanted = wanted;
  path = path;
  path_is = sym path_is;
  shown = subst (λ (r : Option Text). ShowsFiles texts o r path before after status) raw_is shown;
}

-- of the file that the words name it is said why it isn't shown
pub files_unread : (dialect raw raw_word file : Option Text) (path : Text) (before after : Option (List ℕ)) (status : ℕ) → Some path ≡ file → raw ≡ raw_word → SaysUnreadOf raw path before after status
    → SaysUnshown dialect raw_word file before after status
files_unread dialect raw raw_word file path before after status path_is raw_is says = inr (record {
  named = path;
  path_is = sym path_is;
  says = subst (λ (r : Option Text). SaysUnreadOf r path before after status) raw_is says;
})

-- ## What is told of how much was read

none_told : (p : ProgressState) → HasTold p.shown p 0
none_told p = record {
  whole = λ on. Appends-nil p.shown;
  begun = record { part = []; left = []; split = refl; appended = Appends-nil p.shown };
}

none_within : (input : Option (List ℕ)) → IfSome input (λ all. 0 ≤ length all)
none_within None = tt
none_within (Some all) = omega arith

bad : (status : ℕ) → 0 < status → status ≤ 2 → (status ≡ 0) ⊎ (status ≡ 3) → ⊥
bad status some few good = ⊎_elim (λ (zero : status ≡ 0). omega (arith, some, zero)) (λ (three : status ≡ 3). omega (arith, few, three)) good

-- of a file that isn't read nothing is told
pub not_read : (input before : Option (List ℕ)) (p : ProgressState) (status : ℕ) → p.shown ≡ before → 0 < status → status ≤ 2 → TellsRead input before p status
not_read input before p status same some few = record {
  count = 0;
  within = none_within input;
  all = λ good. absurd (bad status some few good);
  told = subst (λ (o : Option (List ℕ)). HasTold o p 0) same (none_told p);
}

-- what is told of a new reader over a file is told of the file
pub read_of_reader : {T A : Type 0} (remaining : T → Option (List ℕ)) (r : BufReader T A) (inner : T) (before : Option (List ℕ)) (p : ProgressState) (status : ℕ)
    → reader_inner r ≡ inner → reader_buffer r ≡ [] → reader_capacity r ≡ 8192 → TellsRead (reader_remaining remaining r) before p status → TellsRead (remaining inner) before p status
read_of_reader remaining r inner before p status e b c h =
    subst (λ (o : Option (List ℕ)). TellsRead o before p status) (unread remaining r inner 8192 e b c refl) h

-- what is told of a file is told of the text in it
pub read_of_file : (file text before : Option (List ℕ)) (p : ProgressState) (status : ℕ) → file ≡ text → TellsRead file before p status → TellsRead text before p status
read_of_file file text before p status e h = subst (λ (o : Option (List ℕ)). TellsRead o before p status) e h

-- where no file is read, nothing is told
pub not_shown : (texts : Text → Option (List ℕ)) (raw file : Option Text) (before : Option (List ℕ)) (p : ProgressState) (status : ℕ) → p.shown ≡ before → 0 < status → status ≤ 2
    → TellsShow texts raw file before p status
not_shown texts raw None before p status same some few = same
not_shown texts None (Some path) before p status same some few = not_read (texts path) before p status same some few
not_shown texts (Some from) (Some path) before p status same some few = same

-- it is told of the files that the words name
pub shown_by : (texts : Text → Option (List ℕ)) (raw raw_word file : Option Text) (path : Text) (before : Option (List ℕ)) (p : ProgressState) (status : ℕ) → Some path ≡ file → raw ≡ raw_word
    → TellsFiles texts raw path before p status → TellsShow texts raw_word file before p status
shown_by texts raw raw_word file path before p status path_is raw_is tells =
    subst (λ (f : Option Text). TellsShow texts raw_word f before p status) path_is (subst (λ (r : Option Text). TellsFiles texts r path before p status) raw_is tells)
