-- What is said at status 2, and of a drive at status 1.
use Rattle.std.specs.Prelude.{◌≡◌, ◌≢◌, ◌⊎◌, ℕ, Bool, true, List, Option, None, Some, Result, Ok, Err, IfErr, IsErrAnd, codes, refl}
use Rattle.std.proofs.Common.{ap, arith, inl, inr, sym, subst, ◌∙◌}
use denote.Ref.{Bor}
use Rattle.clap.specs.Words.{Text}
use Rattle.ctl_drive.specs.DataDevice.{EndsFilesByFault}
use Rattle.ctl_drive.specs.Entry.{given_text}
use Rattle.ctl_drive.specs.OnDevice.{EndsByFault, capture_path}
use Rattle.ctl_run.specs.Statuses.{status_of, stop_line, stop_lines}
use Rattle.ctl_run.specs.Stopping.{HasGivenUp, HasStopped}
use Rattle.ctl_run.specs.declared.stop.Stop.{Stop}
use Rattle.ctl_run.proofs.outputs.SaidLines.{begun_line}
use Rattle.ctl_text.specs.Writing.{IsBegun}
use Rattle.file_threads.specs.declared.data_path.DataPath.{DataPath}
use Rattle.modemctl.specs.Drives.{AreFiles}
use Rattle.modemctl.specs.Files.{IsNoText}
use Rattle.modemctl.specs.Refusals.{EndsDriven, SaysUndriven, StopsBadly, path_or_none}
use Rattle.modemctl.specs.Shows.{SaysUnshown}
use Rattle.modemctl.specs.Words.{is_set}

two_or_none : (n : ℕ) → n ≡ 2 → n ≢ 0
two_or_none n two none = omega (arith, two, none)

-- a run that stopped with status 2 stopped badly
pub stops_two : {O : Type 0} (explained : Bool) (Makes : List ℕ → List ℕ → Type 0) (IsCause : Stop → Type 0) (input : Option (List ℕ)) (contents : O → Option (List ℕ)) (old new : O) (before after : Option (List ℕ)) (status : ℕ)
    → (status ≢ 0 → HasStopped explained Makes IsCause input contents old new before after status) → status ≡ 2 → StopsBadly explained IsCause before after
stops_two explained Makes IsCause input contents old new before after status stopped two =
    let h = stopped (two_or_none status two) in
    record { stop = h.stop; bad = sym h.gives_up.has_status ∙ two; cause = h.cause; said = h.gives_up.said }

-- of a status that is 2
pub no_text_two : (explained : Bool) (what : List ℕ) (path named : Option Text) (before after : Option (List ℕ)) (status : ℕ) → path ≡ named → status ≡ 2 → IsNoText explained what path before after status → IsNoText explained what named before after 2
no_text_two explained what path named before after status is two h =
    subst (λ (x : Option Text × ℕ). IsNoText explained what x.0 before after x.1) (λ i. (is i, two i)) h

-- of a status that is 1
pub no_text_one : (explained : Bool) (what : List ℕ) (path : Option Text) (before after : Option (List ℕ)) (status : ℕ) → status ≡ 1 → IsNoText explained what path before after status → IsNoText explained what path before after 1
no_text_one explained what path before after status one h = subst (λ (n : ℕ). IsNoText explained what path before after n) one h

-- that memory was refused is a cause to stop
pub memory_one : (explained : Bool) (what : List ℕ) (path : Option Text) (before after : Option (List ℕ)) → IsBegun before after (stop_line Stop.NoMemory) → IsNoText explained what path before after 1
memory_one explained what path before after said = inr (record { stop = Stop.NoMemory; has_status = refl; said = begun_line explained Stop.NoMemory before after said })

-- the status that a `?` gives on, where 2 says so much
pub told_given : {A : Type 0} (given : Result A ℕ) (status : ℕ) (Says : Type 0) → IsErrAnd given (λ s. s ≡ status) → (status ≡ 2 → Says) → IfErr given (λ s. s ≡ 2 → Says)
told_given (Ok x) status Says is h = tt
told_given (Err s) status Says is h = λ two. h (sym is ∙ two)

-- a status 1 for want of memory says so, also behind a dialect that said nothing
pub connect_said : {A : Type 0} (given : Result A ℕ) (dialect : Option Text) (first before after : Option (List ℕ)) → before ≡ first
    → IfErr given (λ s. s ≡ 1 → IsBegun before after (stop_line Stop.NoMemory)) → IfErr given (λ s. s ≡ 1 → IsNoText true (codes "dialect") dialect first after 1)
connect_said (Ok x) dialect first before after same h = tt
connect_said (Err s) dialect first before after same h = λ one. memory_one true (codes "dialect") dialect first after (subst (λ (o : Option (List ℕ)). IsBegun o after (stop_line Stop.NoMemory)) same (h one))

-- a run that gave up with status 1 says why
pub gave_up_one : {O : Type 0} (what : List ℕ) (path : Option Text) (old new : O) (before after : Option (List ℕ)) (status : ℕ) → status ≡ 1 → HasGivenUp true old new before after status → IsNoText true what path before after 1
gave_up_one what path old new before after status one h = inr (record { stop = h.stop; has_status = sym one ∙ h.gives_up.has_status; said = h.gives_up.said })

-- a file that isn't shown to its end, with status 2
pub unshown_two : (dialect raw file : Option Text) (before after : Option (List ℕ)) (status : ℕ) → status ≡ 2 → SaysUnshown dialect raw file before after status → SaysUnshown dialect raw file before after 2
unshown_two dialect raw file before after status two h = subst (λ (n : ℕ). SaysUnshown dialect raw file before after n) two h

same_path : (given : Option (Bor (List ℕ))) → capture_path given ≡ path_or_none (given_text given)
same_path None = refl
same_path (Some path) = refl

-- a drive without files ended by a fault
pub ends_alone : (device : Text) (capture : Option (Bor (List ℕ))) (arm : Option Text) (paths texts : Option (List Text)) (before after : Option (List ℕ)) → EndsByFault device (capture_path capture) before after
    → EndsDriven device (given_text capture) arm paths texts before after
ends_alone device capture arm paths texts before after h =
    EndsDriven.without_files (subst (λ (p : Text). EndsByFault device p before after) (same_path capture) h)

-- one with files did
pub ends_with : (device : Text) (capture : Option (Bor (List ℕ))) (arm : Option Text) (paths texts : Option (List Text)) (data_paths given : List DataPath) (before after : Option (List ℕ)) → given ≡ data_paths
    → AreFiles paths texts (is_set arm) data_paths → EndsFilesByFault device (capture_path capture) given before after → EndsDriven device (given_text capture) arm paths texts before after
ends_with device capture arm paths texts data_paths given before after same are h =
    EndsDriven.with_files data_paths are (subst (λ (x : Text × List DataPath). EndsFilesByFault device x.0 x.1 before after) (λ i. (same_path capture i, same i)) h)

-- behind a dialect that said nothing, a drive of the device that the words name stopped before, or ended by a fault
pub undriven : (dialect device_word capture capture_word arm : Option Text) (device : Text) (paths texts : Option (List Text)) (first before after : Option (List ℕ)) → Some device ≡ device_word → capture ≡ capture_word → before ≡ first
    → IsBegun before after (stop_line Stop.NoMemory) ⊎ EndsDriven device capture arm paths texts before after → SaysUndriven dialect device_word capture_word arm paths texts first after
undriven dialect device_word capture capture_word arm device paths texts first before after is same silent (inl said) =
    inl (memory_one true (codes "dialect") dialect first after (subst (λ (o : Option (List ℕ)). IsBegun o after (stop_line Stop.NoMemory)) silent said))
undriven dialect device_word capture capture_word arm device paths texts first before after is same silent (inr ends) = inr (record {
  path = device;
  path_is = sym is;
  ends = subst (λ (x : Option Text × Option (List ℕ)). EndsDriven device x.0 arm paths texts x.1 after) (λ i. (same i, silent i)) ends;
})
