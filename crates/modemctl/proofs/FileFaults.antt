-- What is said where a file can't be used.
use Rattle.std.specs.Prelude.{◌≡◌, ◌⊎◌, ℕ, Bool, true, false, List, Option, Some, codes, refl}
use Rattle.std.proofs.Common.{inl, inr}
use Rattle.clap.specs.Words.{Text}
use Rattle.ctl_run.specs.Statuses.{status_of, stop_line, stop_lines}
use Rattle.ctl_run.specs.declared.stop.Stop.{Stop}
use Rattle.ctl_run.proofs.outputs.SaidLines.{begun_line}
use Rattle.ctl_run.proofs.outputs.StoppedRuns.{gave_up}
use Rattle.ctl_text.specs.Writing.{IsBegun}
use Rattle.modemctl.specs.Files.{IsFileLine, IsNoText, IsToBeRead, NamesCause, SaysUnread, SaysWhy, file_line}
use Rattle.modemctl.specs.declared.words.file_faults.FileFault.{FileFault}

-- what is said of a file that is to be read
pub no_text : (explained : Bool) (what path : List ℕ) (fault : FileFault) (before after : Option (List ℕ)) (status : ℕ) → IsToBeRead fault → status ≡ 1 → SaysUnread explained what path fault before after ⊎ IsBegun before after (stop_line Stop.NoMemory) → IsNoText explained what (Some path) before after status
no_text explained what path fault before after status read one (inl says) = inl (one, record { named = path; path_is = refl; fault = fault; to_be_read = read; says = says })
no_text explained what path fault before after status read one (inr memory) = inr (record { stop = Stop.NoMemory; has_status = one; said = begun_line explained Stop.NoMemory before after memory })

-- what is said of it in one line, and in two
pub unread_plainly : (explained : Bool) (what path : List ℕ) (fault : FileFault) (before after : Option (List ℕ)) → explained ≡ false → IsBegun before after (stop_line Stop.Input)
    → SaysUnread explained what path fault before after ⊎ IsBegun before after (stop_line Stop.NoMemory)
unread_plainly true what path fault before after e said = absurd (cc)
unread_plainly false what path fault before after e said = inl said

-- in two it is said of which file, and why
pub unread_explained : (explained : Bool) (what path : List ℕ) (fault : FileFault) (before after : Option (List ℕ)) → explained ≡ true → SaysWhy (stop_line Stop.Input) what path fault before after
    → SaysUnread explained what path fault before after ⊎ IsBegun before after (stop_line Stop.NoMemory)
unread_explained true what path fault before after e says = says
unread_explained false what path fault before after e says = absurd (cc)

-- what is said of a stop
pub stop_said : (explained : Bool) (what : List ℕ) (path : Option Text) (stop : Stop) (before after : Option (List ℕ)) (status : ℕ) → status ≡ status_of stop → IsBegun before after (stop_lines explained stop) → IsNoText explained what path before after status
stop_said explained what path stop before after status is said = inr (record { stop = stop; has_status = is; said = said })

-- where nothing was written, that names the cause
pub names_cause : {O : Type 0} (explained : Bool) (path : Option Text) (out : O) (before after : Option (List ℕ)) (status : ℕ) → IsNoText explained (codes "dialect") path before after status → NamesCause explained path out out before after status
names_cause explained path out before after status (inl unread) = inr (record { nothing = refl; unread = unread.1 })
names_cause explained path out before after status (inr says) = inl (gave_up explained says.stop out out before after status says.has_status says.said (λ other. refl))

-- a line with these words for why
pub is_file_line : (first what path line cause : List ℕ) (fault : FileFault) → line ≡ file_line first what path fault cause → IsFileLine first what path fault line
is_file_line first what path line cause fault is = record { cause = cause; line_is = is }
